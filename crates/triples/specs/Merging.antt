-- The laws of the first n of a list by falling rank, when elements are inserted and lists are merged.
use Rattle.std.specs.Prelude.{◌≡◌, ℕ, zero, suc, ◌+◌, T, List, [], ◌∷◌, take, fold, refl}
use Rattle.std.specs.declared.cmp.Ordering.TheVariants.{Less, Equal, Greater}
use Rattle.std.specs.declared.cmp.Ordering.{Ordering}
use Rattle.std.proofs.Common.{sym, ap, subst, ◌∙◌, arith}
use Rattle.std.proofs.lemmas.List.{take-take}
use Rattle.triples.specs.Falling.{by_rank, above, falling, inserted, kept, parts, falling_ins}
use Rattle.triples.specs.Best.{Full}
use Rattle.triples.specs.Ranking.{Ranking}
use Rattle.triples.specs.Insertion.{keeps, ins_comm, ins_twice}
use Rattle.triples.specs.Fronts.{unmoved, FullOver, over_none, over_rest, over_top}

module _ {X : Type 0} {rank : X → X → Ordering} {better : X → X → X} (rk : Ranking rank better) (n : ℕ) where
  abbrev ins : X → List X → List X
  ins = inserted rank better

  abbrev top : List X → X → List X
  top = kept rank better n

  comm : (a b : X) (l : List X) → ins a (ins b l) ≡ ins b (ins a l)
  comm = ins_comm rank better rk.total rk.better_alike rk.better_comm rk.better_assoc

  twice : (a b : X) (l : List X) → rank a b ≡ Equal → ins a (ins b l) ≡ ins (better a b) l
  twice = ins_twice rank better rk.total rk.better_alike rk.better_comm rk.better_assoc

  pub top_comm : (a b : X) (l : List X) → top (top l b) a ≡ top (top l a) b
  top_comm a b l = keeps rank better n a (ins b l) ∙ ap (take n) (comm a b l) ∙ sym (keeps rank better n b (ins a l))

  top_twice : (a b : X) (l : List X) → rank a b ≡ Equal → top (top l b) a ≡ top l (better a b)
  top_twice a b l e = keeps rank better n a (ins b l) ∙ ap (take n) (twice a b l e)

  -- ---- a list w that is inserted into l

  after : (a : X) (w l : List X) → fold top (top l a) w ≡ top (fold top l w) a
  after a [] l = refl
  after a (y ∷ w) l = ap (λ k. fold top k w) (top_comm y a l) ∙ after a w (top l y)

  after_ins : (a : X) (w l : List X) → fold top l (ins a w) ≡ top (fold top l w) a
  after_ins a [] l = refl
  after_ins a (y ∷ w) l = by (rank a y) refl (after_ins a w (top l y))
    where
      by : (r : Ordering) → rank a y ≡ r → fold top (top l y) (ins a w) ≡ top (fold top (top l y) w) a → fold top l (by_rank r (y ∷ ins a w) (better a y ∷ w) (a ∷ y ∷ w)) ≡ top (fold top (top l y) w) a
      by Less e ih = ih
      by Equal e ih = ap (λ k. fold top k w) (sym (top_twice a y l e)) ∙ after a w (top l y)
      by Greater e ih = after a (y ∷ w) l

  -- of a falling list the first n are enough
  enough : (k m : ℕ) (w l : List X) → k + m ≡ n → T (falling rank w) → FullOver rk m w l → take n l ≡ l → fold top l (take k w) ≡ fold top l w
  enough zero m [] l s t f c = refl
  enough (suc k) m [] l s t f c = refl
  enough zero m (y ∷ w) l s t f c =
      let falls = parts (above rank y w) (falling rank w) t in
      let same : top l y ≡ l = unmoved rk n y l (subst (λ i. Full rank i y l) (omega arith) f) ∙ c in
      enough zero m w l s falls.1 (over_rest rk m y w l falls.0 f) c ∙ ap (λ r. fold top r w) (sym same)
  enough (suc k) m (y ∷ w) l s t f c =
      let falls = parts (above rank y w) (falling rank w) t in
      enough k (suc m) w (top l y) (omega arith) falls.1 (over_top rk n m y w l falls.0 (omega arith) f) (take-take n n (ins y l) (omega arith))

  pub top_merge : (a : X) (w l : List X) → T (falling rank w) → take n l ≡ l → fold top l (top w a) ≡ top (fold top l w) a
  top_merge a w l t c = enough n 0 (ins a w) l (omega arith) (falling_ins rank better rk.total.antisymm rk.total.congr rk.better_alike a w t) (over_none rk (ins a w) l) c ∙ after_ins a w l
