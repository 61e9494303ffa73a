-- Insertion by falling rank holds the best of what has been seen.
use Rattle.std.proofs.Common.{◌≡◌, ℕ, zero, suc, ◌+◌, T, ◌⊎◌, List, [], ◌∷◌, ◌++◌, take, fold, Ordering, Less, Equal, Greater, sym, refl, ap, ◌∙◌, subst, inl, inr, ⊎_elim, arith, length-take}
use Rattle.std.specs.Ordering.{ordering_reverse}
use Rattle.triples.specs.Falling.{by_rank, above, falling, inserted, kept, parts, falling_ins, falling_take}
use Rattle.triples.specs.Best.{Among, Full, Stands, Best}
use Rattle.triples.specs.Ranking.{Ranking, less}
use Rattle.std.proofs.lemmas.Cmp.{tied_itself, alike_right}
use Rattle.triples.specs.Fronts.{full_take, full_alike, full_more, full_ins, FullOver, over_none, over_top}

among_take : {X : Type 0} (m : ℕ) (x : X) (l : List X) → Among x (take m l) → Among x l
among_take zero x l h = absurd h
among_take (suc m) x [] h = absurd h
among_take (suc m) x (y ∷ l) (inl e) = inl e
among_take (suc m) x (y ∷ l) (inr h) = inr (among_take m x l h)

module _ {X : Type 0} {rank : X → X → Ordering} {better : X → X → X} (rk : Ranking rank better) where
  abbrev ins : X → List X → List X
  ins = inserted rank better

  abbrev stands : X → List X → Type 0
  stands = Stands rank better

  -- ---- one more

  among_ins : (x a : X) (l : List X) → Among x (ins a l) → Among x (a ∷ l)
  among_ins x a [] h = h
  among_ins x a (y ∷ l) h = by (rank a y) (rk.either a y) (among_ins x a l) h
    where
      by : (r : Ordering) → (better a y ≡ a) ⊎ (better a y ≡ y) → (Among x (ins a l) → Among x (a ∷ l)) → Among x (by_rank r (y ∷ ins a l) (better a y ∷ l) (a ∷ y ∷ l)) → Among x (a ∷ y ∷ l)
      by Less w ih (inl e) = inr (inl e)
      by Less w ih (inr h) = ⊎_elim (λ e. inl e) (λ k. inr (inr k)) (ih h)
      by Equal (inl b) ih (inl e) = inl (e ∙ b)
      by Equal (inr b) ih (inl e) = inr (inl (e ∙ b))
      by Equal w ih (inr h) = inr (inr h)
      by Greater w ih h = h

  stands_new : (a : X) (l : List X) → stands a (ins a l)
  stands_new a [] = inl (tied_itself rk.total a, rk.better_same a)
  stands_new a (y ∷ l) = by (rank a y) refl (stands_new a l)
    where
      by : (r : Ordering) → rank a y ≡ r → stands a (ins a l) → stands a (by_rank r (y ∷ ins a l) (better a y ∷ l) (a ∷ y ∷ l))
      by Less e ih = inr ih
      by Equal e ih = inl (
        rk.total.antisymm a (better a y) ∙ ap ordering_reverse (rk.better_alike a y a e ∙ tied_itself rk.total a),
        sym (rk.better_assoc a a y) ∙ ap (λ z. better z y) (rk.better_same a),
      )
      by Greater e ih = inl (tied_itself rk.total a, rk.better_same a)

  stands_ins : (x a : X) (l : List X) → stands x l → stands x (ins a l)
  stands_ins x a [] s = absurd s
  stands_ins x a (y ∷ l) s = by (rank a y) refl (stands_ins x a l) s
    where
      by : (r : Ordering) → rank a y ≡ r → (stands x l → stands x (ins a l)) → stands x (y ∷ l) → stands x (by_rank r (y ∷ ins a l) (better a y ∷ l) (a ∷ y ∷ l))
      by Less e ih (inl s) = inl s
      by Less e ih (inr s) = inr (ih s)
      by Equal e ih (inl s) = inl (
        alike_right rk.total (better a y) y x (rk.better_alike a y y e ∙ e) ∙ s.0,
        ap (better x) (rk.better_comm a y) ∙ sym (rk.better_assoc x y a) ∙ ap (λ z. better z a) s.1 ∙ rk.better_comm y a,
      )
      by Equal e ih (inr s) = inr s
      by Greater e ih s = inr s

  -- ---- the first n of a falling list

  pub stands_below : (x y : X) (l : List X) → T (above rank y l) → T (falling rank l) → stands x l → rank x y ≡ Less
  stands_below x y [] t u s = absurd s
  stands_below x y (z ∷ l) t u (inl s) = rk.total.congr x z y s.0 ∙ less rk y z t
  stands_below x y (z ∷ l) t u (inr s) =
      let falls = parts (above rank z l) (falling rank l) u in
      rk.total.trans x z y (stands_below x z l falls.0 falls.1 s) (less rk y z t)

  stands_take : (m : ℕ) (x : X) (l : List X) → T (falling rank l) → stands x l → stands x (take m l) ⊎ Full rank m x (take m l)
  stands_take zero x l t s = inr tt
  stands_take (suc m) x [] t s = absurd s
  stands_take (suc m) x (y ∷ l) t (inl s) = inl (inl s)
  stands_take (suc m) x (y ∷ l) t (inr s) =
      let falls = parts (above rank y l) (falling rank l) t in
      ⊎_elim (λ k. inl (inr k)) (λ f. inr (stands_below x y l falls.0 falls.1 s, f)) (stands_take m x l falls.1 s)

  pub best_none : (n : ℕ) → Best rank better n [] []
  best_none n = record { few = omega arith; falls = tt; from = λ x h. h; keeps = λ x h. absurd h }

  pub best_more : (n : ℕ) (a : X) (seen l : List X) → Best rank better n seen l → Best rank better n (a ∷ seen) (kept rank better n l a)
  best_more n a seen l b =
      let falls : T (falling rank (ins a l)) = falling_ins rank better rk.total.antisymm rk.total.congr rk.better_alike a l b.falls in
      record {
        few = omega (arith, length-take n (ins a l));
        falls = falling_take rank n (ins a l) falls;
        from = λ x h. ⊎_elim (λ e. inl e) (λ k. inr (b.from x k)) (among_ins x a l (among_take n x (ins a l) h));
        keeps = λ x h. ⊎_elim
            (λ e. stands_take n x (ins a l) falls (subst (λ y. stands y (ins a l)) (sym e) (stands_new a l)))
            (λ k. ⊎_elim
            (λ s. stands_take n x (ins a l) falls (stands_ins x a l s))
            (λ f. inr (full_take rk n n x (ins a l) (omega arith) (full_more rk n x a l f)))
            (b.keeps x k))
            h;
      }

  -- ---- all of a list

  among_left : (x : X) (u v : List X) → Among x u → Among x (u ++ v)
  among_left x [] v h = absurd h
  among_left x (y ∷ u) v (inl e) = inl e
  among_left x (y ∷ u) v (inr h) = inr (among_left x u v h)

  among_right : (x : X) (u v : List X) → Among x v → Among x (u ++ v)
  among_right x [] v h = h
  among_right x (y ∷ u) v h = inr (among_right x u v h)

  among_either : (x : X) (u v : List X) → Among x (u ++ v) → Among x u ⊎ Among x v
  among_either x [] v h = inr h
  among_either x (y ∷ u) v (inl e) = inl (inl e)
  among_either x (y ∷ u) v (inr h) = ⊎_elim (λ k. inl (inr k)) (λ k. inr k) (among_either x u v h)

  module _ (n : ℕ) where
    abbrev top : List X → X → List X
    top = kept rank better n

    abbrev best : List X → List X → Type 0
    best = Best rank better n

    -- the same has been seen
    seen_as : (u v l : List X) → ((x : X) → Among x u → Among x v) → ((x : X) → Among x v → Among x u) → best u l → best v l
    seen_as u v l to back b = record { few = b.few; falls = b.falls; from = λ x h. to x (b.from x h); keeps = λ x h. b.keeps x (back x h) }

    moved : (x y : X) (w seen : List X) → Among x (w ++ y ∷ seen) → Among x (y ∷ w ++ seen)
    moved x y w seen h = ⊎_elim (λ k. inr (among_left x w seen k)) (λ k. ⊎_elim (λ e. inl e) (λ i. inr (among_right x w seen i)) k) (among_either x w (y ∷ seen) h)

    back : (x y : X) (w seen : List X) → Among x (y ∷ w ++ seen) → Among x (w ++ y ∷ seen)
    back x y w seen (inl e) = among_right x w (y ∷ seen) (inl e)
    back x y w seen (inr h) = ⊎_elim (λ k. among_left x w (y ∷ seen) k) (λ k. among_right x w (y ∷ seen) (inr k)) (among_either x w seen h)

    best_all : (w seen l : List X) → best seen l → best (w ++ seen) (fold top l w)
    best_all [] seen l b = b
    best_all (y ∷ w) seen l b = seen_as (w ++ y ∷ seen) (y ∷ w ++ seen) (fold top (top l y) w) (λ x. moved x y w seen) (λ x. back x y w seen) (best_all w (y ∷ seen) (top l y) (best_more n y seen l b))

    -- ---- all that another list holds

    full_all : (x : X) (w l : List X) → Full rank n x l → Full rank n x (fold top l w)
    full_all x [] l f = f
    full_all x (y ∷ w) l f = full_all x w (top l y) (full_take rk n n x (ins y l) (omega arith) (full_more rk n x y l f))

    -- a falling list whose first k are ranked above x brings k such elements
    fills : (k m : ℕ) (x : X) (w l : List X) → k + m ≡ n → T (falling rank w) → FullOver rk m w l → Full rank k x w → Full rank m x l → Full rank n x (fold top l w)
    fills zero m x w l s t o f g = full_all x w l (subst (λ i. Full rank i x l) (omega arith) g)
    fills (suc k) m x [] l s t o f g = absurd f
    fills (suc k) m x (y ∷ w) l s t o f g =
        let falls = parts (above rank y w) (falling rank w) t in
        fills k (suc m) x w (top l y) (omega arith) falls.1 (over_top rk n m y w l falls.0 (omega arith) o) f.1
        (full_take rk (suc m) n x (ins y l) (omega arith) (full_ins rk m x y l f.0 o))

    stands_on : (x y : X) (l : List X) → rank x y ≡ Equal → better x y ≡ y → stands y l → stands x l
    stands_on x y [] e b s = absurd s
    stands_on x y (z ∷ l) e b (inl s) = inl (rk.total.congr x y z e ∙ s.0, ap (better x) (sym s.1) ∙ sym (rk.better_assoc x y z) ∙ ap (λ v. better v z) b ∙ s.1)
    stands_on x y (z ∷ l) e b (inr s) = inr (stands_on x y l e b s)

    -- what stands in w is kept in l, if all of w is
    stands_through : (x : X) (w l : List X) → ((y : X) → Among y w → stands y l ⊎ Full rank n y l) → stands x w → stands x l ⊎ Full rank n x l
    stands_through x [] l all s = absurd s
    stands_through x (y ∷ w) l all (inl s) = ⊎_elim (λ k. inl (stands_on x y l s.0 s.1 k)) (λ f. inr (full_alike rk n x y l s.0 f)) (all y (inl refl))
    stands_through x (y ∷ w) l all (inr s) = stands_through x w l (λ z h. all z (inr h)) s

    pub best_merged : (seen l other w : List X) → best seen l → best other w → best (other ++ seen) (fold top l w)
    best_merged seen l other w b c =
        let all = best_all w seen l b in
        record {
          few = all.few;
          falls = all.falls;
          from = λ x h. ⊎_elim (λ k. among_left x other seen (c.from x k)) (λ k. among_right x other seen k) (among_either x w seen (all.from x h));
          keeps = λ x h. ⊎_elim
              (λ k. ⊎_elim
              (λ s. stands_through x w (fold top l w) (λ y j. all.keeps y (among_left y w seen j)) s)
              (λ f. inr (fills n 0 x w l (omega arith) c.falls (over_none rk w l) f tt))
              (c.keeps x k))
              (λ k. all.keeps x (among_right x w seen k))
              (among_either x other seen h);
        }
