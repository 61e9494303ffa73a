-- Lists by place: one element changed, the front, and elements of joined lists.
use Rattle.protocol.proofs.Base.{All-get_or, common_steps, gets, slice_get_cases, nth_getD, get_or_past, length-take, take-suc, drop-cons, ◌≡◌, refl, ap, List, [], ◌∷◌, ◌++◌, ◌⊎◌, ℕ, zero, suc, ◌<◌, arith, length, get_or, set, take, drop, nth_within, get_or-set_same, get_or-set_other, Option, Some, mapped, AllByRecursion, nth}
use Rattle.protocol.specs.Rules.{modify}

module _ {A : Type 0} where
  pub nth_modify : (xs : List A) (i : ℕ) (f : A → A) → nth (modify i f xs) i ≡ mapped f (nth xs i)
  nth_modify [] i f = refl
  nth_modify (x ∷ xs) zero f = refl
  nth_modify (x ∷ xs) (suc i) f = nth_modify xs i f

  pub nth_modify_other : (xs : List A) (i j : ℕ) (f : A → A) → (j ≡ i → ⊥) → nth (modify i f xs) j ≡ nth xs j
  nth_modify_other [] i j f h = refl
  nth_modify_other (x ∷ xs) zero zero f h = absurd (h refl)
  nth_modify_other (x ∷ xs) zero (suc j) f h = refl
  nth_modify_other (x ∷ xs) (suc i) zero f h = refl
  nth_modify_other (x ∷ xs) (suc i) (suc j) f h = nth_modify_other xs i j f (λ e. h (ap suc e))

  -- lists that agree at a place agree there still
  pub modify_agrees : (xs ys : List A) (i j : ℕ) (f : A → A) → nth xs j ≡ nth ys j → nth (modify i f xs) j ≡ nth (modify i f ys) j
  modify_agrees xs ys i j f h = grind (arith, nth_modify, nth_modify_other)

  pub length_modify : (xs : List A) (i : ℕ) (f : A → A) → length (modify i f xs) ≡ length xs
  length_modify [] i f = refl
  length_modify (x ∷ xs) i f = grind (arith, length_modify xs)

  pub get_or_modify : (xs : List A) (i : ℕ) (f : A → A) (d : A) → i < length xs → get_or (modify i f xs) i d ≡ f (get_or xs i d)
  get_or_modify xs i f d h = grind (arith, nth_getD, nth_modify xs i f, length_modify xs i f)

  pub get_or_modify_other : (xs : List A) (i j : ℕ) (f : A → A) (d : A) → (j ≡ i → ⊥) → get_or (modify i f xs) j d ≡ get_or xs j d
  get_or_modify_other xs i j f d h = grind (arith, nth_getD, get_or_past, nth_modify_other, length_modify)

  pub nth_take : (xs : List A) (n i : ℕ) → i < n → nth (take n xs) i ≡ nth xs i
  nth_take xs n i h = grind (arith, common_steps, gets)

  pub nth_taken : (xs : List A) (n i : ℕ) (x : A) → nth (take n xs) i ≡ Some x → nth xs i ≡ Some x
  nth_taken xs n i x h = grind (arith, nth_take, nth_within, length-take)

  pub nth_there : (xs : List A) (i : ℕ) → i < length xs → (x : A) × (nth xs i ≡ Some x)
  nth_there xs i h = grind (arith, slice_get_cases xs i)

  -- an element of a list is one of the longer list
  pub nth_longer : (xs ys : List A) (i : ℕ) (x : A) → nth xs i ≡ Some x → nth (xs ++ ys) i ≡ Some x
  nth_longer xs ys i x h = grind (arith, common_steps, gets)

  -- an element of a list with one more is an element of the list, or the new one
  pub nth_push : (xs : List A) (y : A) (i : ℕ) (x : A) → nth (xs ++ (y ∷ [])) i ≡ Some x → (nth xs i ≡ Some x) ⊎ ((i ≡ length xs) × (y ≡ x))
  nth_push xs y i x h = grind (arith, common_steps, gets)

  -- one element more
  pub take_one_more : (xs : List A) (n : ℕ) (x : A) → nth xs n ≡ Some x → take (suc n) xs ≡ take n xs ++ (x ∷ [])
  take_one_more xs n x h = grind (arith, gets, take-suc)

  pub drop_one_more : (xs : List A) (n : ℕ) (x : A) → nth xs n ≡ Some x → drop n xs ≡ x ∷ drop (suc n) xs
  drop_one_more xs n x h = grind (arith, gets, drop-cons)

  -- what holds of all elements holds of each
  pub all_nth : (P : A → Type 0) (xs : List A) (i : ℕ) (x : A) → AllByRecursion P xs → nth xs i ≡ Some x → P x
  all_nth P xs i x a h = grind (arith, gets, All-get_or)

  -- what holds of every place where one element is new
  pub set_cases : (P : ℕ → A → Type 0) (xs : List A) (w : ℕ) (r d : A) → w < length xs → P w r → ((j : ℕ) → (j ≡ w → ⊥) → P j (get_or xs j d)) → (j : ℕ) → P j (get_or (set xs w r) j d)
  set_cases P xs w r d l here there j = grind (arith, get_or-set_same, get_or-set_other)

  pub all_both : (P Q : A → Type 0) (xs : List A) → AllByRecursion P xs → AllByRecursion Q xs → AllByRecursion (λ x. P x × Q x) xs
  all_both P Q [] p q = tt
  all_both P Q (x ∷ xs) p q = ((p.0, q.0), all_both P Q xs p.1 q.1)

  pub mapped_mapped : (f g : A → A) (o : Option A) → mapped g (mapped f o) ≡ mapped (λ x. g (f x)) o
  mapped_mapped f g o = grind arith

  pub mapped_same : (f g : A → A) → ((x : A) → f x ≡ g x) → (o : Option A) → mapped f o ≡ mapped g o
  mapped_same f g h o = grind (arith, h)
