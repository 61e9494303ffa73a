-- One element of a list, as the meanings of the list see it.
use Rattle.std.proofs.Common.{◌≡◌, ℕ, zero, suc, ◌<◌, ◌≤◌, List, [], ◌∷◌, map, length, get_or, set, ℤ, pos, Some, None, Option, Bor, sym, refl, ap, ◌∙◌, arith}
use Rattle.std.specs.Option.{MatchOption}
use Rattle.std.proofs.lemmas.List.{map-set, get_or-map, length-map}
use Rattle.serial.specs.Places.{modify, peek}

module _ {A : Type 0} where
  peek_within : (f : A → ℤ) (ys : List A) (i : ℕ) (d : A) → i < length ys → peek i f ys ≡ f (get_or ys i d)
  peek_within f [] i d h = absurd (omega arith)
  peek_within f (y ∷ ys) zero d h = refl
  peek_within f (y ∷ ys) (suc i) d h = peek_within f ys i d (omega arith)

  peek_past : (f : A → ℤ) (ys : List A) (i : ℕ) → length ys ≤ i → peek i f ys ≡ pos 0
  peek_past f [] i h = refl
  peek_past f (y ∷ ys) zero h = absurd (omega arith)
  peek_past f (y ∷ ys) (suc i) h = peek_past f ys i (omega arith)

  set_modify : (f : A → A) (ys : List A) (i : ℕ) (d : A) → set ys i (f (get_or ys i d)) ≡ modify i f ys
  set_modify f [] i d = refl
  set_modify f (y ∷ ys) zero d = refl
  set_modify f (y ∷ ys) (suc i) d = ap (λ zs. y ∷ zs) (set_modify f ys i d)

  modify_past : (f : A → A) (ys : List A) (i : ℕ) → length ys ≤ i → modify i f ys ≡ ys
  modify_past f [] i h = refl
  modify_past f (y ∷ ys) zero h = absurd (omega arith)
  modify_past f (y ∷ ys) (suc i) h = ap (λ zs. y ∷ zs) (modify_past f ys i (omega arith))

module _ {X M : Type 0} (meaning : X → M) (xs : List X) (i : ℕ) where
  module _ (x : X) (within : i < length xs) (found : x ≡ get_or xs i x) where
    meant : (d : M) → get_or (map meaning xs) i d ≡ meaning x
    meant d = get_or-map meaning xs i x d within ∙ ap meaning (sym found)

    pub read_within : (f : M → ℤ) → f (meaning x) ≡ peek i f (map meaning xs)
    read_within f = sym (peek_within f (map meaning xs) i (meaning x) (rw length-map within) ∙ ap f (meant (meaning x)))

    pub changed_within : (f : M → M) (y : X) → meaning y ≡ f (meaning x) → map meaning (set xs i y) ≡ modify i f (map meaning xs)
    changed_within f y e =
        map-set meaning xs i y ∙ ap (set (map meaning xs) i) (e ∙ ap f (sym (meant (meaning x)))) ∙ set_modify f (map meaning xs) i (meaning x)

  module _ (past : length xs ≤ i) where
    pub read_past : (f : M → ℤ) → pos 0 ≡ peek i f (map meaning xs)
    read_past f = sym (peek_past f (map meaning xs) i (rw length-map past))

    pub changed_past : (f : M → M) → map meaning xs ≡ modify i f (map meaning xs)
    changed_past f = sym (modify_past f (map meaning xs) i (rw length-map past))

-- what is read off an element, or 0 where there is none
pub read_at : {X M : Type 0} (meaning : X → M) (xs : List X) (i key : ℕ) (f : M → ℤ) (o : Option (Bor X)) (r : ℤ) → i ≡ key
    → MatchOption o (length xs ≤ i) (λ x. (i < length xs) × (x.now ≡ get_or xs i x.now))
    → MatchOption o (r ≡ pos 0) (λ x. r ≡ f (meaning x.now))
    → r ≡ peek key f (map meaning xs)
read_at meaning xs i key f None r e past none = none ∙ read_past meaning xs i past f ∙ ap (λ k. peek k f (map meaning xs)) e
read_at meaning xs i key f (Some x) r e found is = is ∙ read_within meaning xs i x.now found.0 found.1 f ∙ ap (λ k. peek k f (map meaning xs)) e
