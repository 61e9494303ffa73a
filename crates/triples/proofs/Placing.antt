-- A walk along a falling list that puts an element into its place.
use Rattle.std.proofs.Common.{◌≡◌, ℕ, ◌+◌, ◌<◌, ◌≤◌, T, List, [], ◌∷◌, ◌++◌, length, get_or, take, drop, set, Ordering, Less, Equal, Greater, sym, refl, ap, ◌∙◌, subst, append_assoc, arith, take-append-drop, length-append, length-set}
use Rattle.std.specs.Ordering.{is_gt}
use Rattle.std.proofs.lemmas.List.{take-append-le, take_more, take_more_set, drop_more, drop-set-lt, take-set, drop-set, drop_all, take_all}
use Rattle.triples.specs.Falling.{by_rank, above, falling, inserted, parts}

module _ {X : Type 0} (rank : X → X → Ordering) (better : X → X → X) where
  abbrev ins : X → List X → List X
  ins = inserted rank better

  -- what is passed has its place, and what is carried is to be put among the rest
  abbrev pub Carried : List X → ℕ → List X → X → Type 0
  Carried goal i l a = T (falling rank (drop i l)) × (take i l ++ ins a (drop i l) ≡ goal)

  ins_first : (x : X) (xs : List X) → T (falling rank (x ∷ xs)) → ins x xs ≡ x ∷ xs
  ins_first x [] t = refl
  ins_first x (y ∷ ys) t = by (rank x y) (parts (is_gt (rank x y)) _ t).0
    where
      by : (r : Ordering) → T (is_gt r) → by_rank r (y ∷ ins x ys) (better x y ∷ ys) (x ∷ y ∷ ys) ≡ x ∷ y ∷ ys
      by Less h = absurd h
      by Equal h = absurd h
      by Greater h = refl

  -- at place i of l
  module _ (goal l : List X) (i : ℕ) (a d : X) (inside : i < length l) where
    abbrev here : X
    here = get_or l i d

    rest : drop i l ≡ here ∷ drop (i + 1) l
    rest = drop_more l i d inside

    step : (l' : List X) (y b : X) → take (i + 1) l' ≡ take i l ++ y ∷ [] → drop (i + 1) l' ≡ drop (i + 1) l
        → (T (falling rank (here ∷ drop (i + 1) l)) → y ∷ ins b (drop (i + 1) l) ≡ ins a (here ∷ drop (i + 1) l))
        → Carried goal i l a → Carried goal (i + 1) l' b
    step l' y b front back same c =
        let falls : T (falling rank (here ∷ drop (i + 1) l)) = subst (λ r. T (falling rank r)) rest c.0 in (
          subst (λ r. T (falling rank r)) (sym back) (parts (above rank here (drop (i + 1) l)) _ falls).1,
          rw (front, back, append_assoc) (ap (λ r. take i l ++ r) (same falls) ∙ ap (λ r. take i l ++ ins a r) (sym rest) ∙ c.1),
        )

    pub passes : rank a here ≡ Less → Carried goal i l a → Carried goal (i + 1) l a
    passes e = step l here a (take_more l i d inside) refl (λ falls. rw e)

    pub swaps : rank a here ≡ Greater → Carried goal i l a → Carried goal (i + 1) (set l i a) here
    swaps e = step (set l i a) a here (take_more_set l i a inside) (drop-set-lt (i + 1) l i a (omega arith)) (λ falls. rw (ins_first here (drop (i + 1) l) falls, e))

    pub meets : rank a here ≡ Equal → Carried goal i l a → set l i (better a here) ≡ goal
    meets e c =
        let b = better a here in
        let placed : ins a (here ∷ drop (i + 1) l) ≡ b ∷ drop (i + 1) l = rw e in
        sym (take-append-drop i (set l i b))
        ∙ rw (take-set l i b, drop-set l i b inside) (ap (λ r. take i l ++ r) (sym placed) ∙ ap (λ r. take i l ++ ins a r) (sym rest) ∙ c.1)

  -- behind the last of l
  pub arrives : (goal l : List X) (i : ℕ) (a : X) → length l ≤ i → Carried goal i l a → l ++ a ∷ [] ≡ goal
  arrives goal l i a past c = rw (take_all i l past, drop_all i l past) at c.1

module _ {X : Type 0} (n m : ℕ) (l rest goal : List X) (size : length l ≡ m) where
  front : take m (l ++ rest) ≡ l
  front = take-append-le m l rest (omega arith) ∙ take_all m l (omega arith)

  -- a short list, before what does not count, is kept whole
  pub kept_whole : m ≤ n → l ≡ goal → take m (l ++ rest) ≡ take n goal
  kept_whole few e = front ∙ e ∙ sym (take_all n goal (omega (arith, ap length e)))

  -- and so is one that is longer by what is written behind it
  pub kept_longer : (a : X) → m < length (set (l ++ rest) m a) → m < n → l ++ a ∷ [] ≡ goal → take (m + 1) (set (l ++ rest) m a) ≡ take n goal
  kept_longer a room few e =
      take_more_set (l ++ rest) m a (omega (arith, length-set (l ++ rest) m a)) ∙ ap (λ f. f ++ a ∷ []) front ∙ e
      ∙ sym (take_all n goal (omega (arith, ap length e, length-append l (a ∷ []))))

  -- where there is no room, what would stand behind it leaves
  pub kept_full : (a : X) → m ≡ n → l ++ a ∷ [] ≡ goal → take m (l ++ rest) ≡ take n goal
  kept_full a full e = front ∙ sym (take_all n l (omega arith)) ∙ sym (take-append-le n l (a ∷ []) (omega arith)) ∙ ap (take n) e
