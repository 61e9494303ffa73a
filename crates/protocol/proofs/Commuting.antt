-- What the three laws give: operations of one part and verb that split commute, and a shard that began fresh is its operations.
use Rattle.protocol.proofs.Base.{◌≡◌, refl, sym, subst, ◌∙◌, true, false, List, [], ◌∷◌, ◌++◌, ◌⊎◌, inl, inr, ℕ, ◌<◌, arith, same_Some, Some, AllByRecursion}
use Rattle.protocol.specs.Rules.{Model, Rule, Laws, Operation, SplitItem, Shape, State, stamp_at, apply_all, split_in, find_split, is_split, World}
use Rattle.protocol.proofs.Invariant.{owed, gathered, Fits, Inv}
use Rattle.protocol.proofs.Operations.{apply_append}
use Rattle.protocol.proofs.Owing.{Around, gathered_one, gathered_at, unlocked_owes}
use Rattle.protocol.proofs.Shards.{fits_owed}
use Rattle.protocol.proofs.Splits.{split_found, found_at, good_item}

-- what holds of all of a joined list holds of its two parts
pub all_parts : {A : Type 0} (P : A → Type 0) (xs ys : List A) → AllByRecursion P (xs ++ ys) → AllByRecursion P xs × AllByRecursion P ys
all_parts P [] ys h = (tt, h)
all_parts P (x ∷ xs) ys h = grind (arith, all_parts P xs ys h.1)

module _ {M : Type 0} (k : Model M) (laws : Laws k) (sh : Shape) (l : SplitItem) (splits : (k.rule l.part l.verb).splits ≡ true) where
  abbrev rule : Rule M
  rule = k.rule l.part l.verb

  abbrev does : Operation → M → M
  does o x = (k.rule o.part o.verb).apply o.argument x

  one_through : (o : Operation) (os : List Operation) (x : M) → Fits k sh l o → AllByRecursion (Fits k sh l) os → apply_all k os (does o x) ≡ does o (apply_all k os x)
  one_through o [] x f g = refl
  one_through o (p ∷ os) x f g = grind (arith, one_through o os)

  lists_commute : (os ps : List Operation) (x : M) → AllByRecursion (Fits k sh l) os → AllByRecursion (Fits k sh l) ps → apply_all k ps (apply_all k os x) ≡ apply_all k os (apply_all k ps x)
  lists_commute [] ps x f g = refl
  lists_commute (o ∷ os) ps x f g = grind (arith, lists_commute os ps, one_through)

  -- some of many may be done first, or last
  apply_first : (before os rest behind : List Operation) (x : M) → AllByRecursion (Fits k sh l) before → AllByRecursion (Fits k sh l) os
      → apply_all k (before ++ ((os ++ rest) ++ behind)) x ≡ apply_all k (before ++ (rest ++ behind)) (apply_all k os x)
  apply_first before os rest behind x f g = grind (arith, apply_append, lists_commute)

  apply_last : (before rest os behind : List Operation) (x : M) → AllByRecursion (Fits k sh l) os → AllByRecursion (Fits k sh l) behind
      → apply_all k (before ++ ((rest ++ os) ++ behind)) x ≡ apply_all k os (apply_all k (before ++ (rest ++ behind)) x)
  apply_last before rest os behind x f g = grind (arith, apply_append, lists_commute)

  -- what was done to a shard is done by merging it
  merge_applied : (os : List Operation) (y x : M) → AllByRecursion (Fits k sh l) os → rule.merge (apply_all k os y) x ≡ apply_all k os (rule.merge y x)
  merge_applied [] y x f = refl
  merge_applied (o ∷ os) y x f = grind (arith, merge_applied os, laws.lawful)

  -- a shard that began fresh, merged, is its operations
  pub merge_all : (os : List Operation) (base x : M) → AllByRecursion (Fits k sh l) os
      → (k.rule l.part l.verb).merge (apply_all k os ((k.rule l.part l.verb).fresh base)) x ≡ apply_all k os x
  merge_all os base x fit = grind (arith, merge_applied)

-- what one worker owes may be done first, and what it comes to owe last: on a split record all operations commute, and on one that it has locked no other worker owes anything
module _ {M : Type 0} (k : Model M) (laws : Laws k) (sh : Shape) (start : List M) (x : World M) (inv : Inv k sh start x) (w : ℕ) (inside : w < sh.workers) (key : ℕ) (low : key < sh.keys) where
  abbrev s : State
  s = x.state

  abbrev ls : List SplitItem
  ls = split_in s.phase s.split

  abbrev owes : ℕ → List Operation
  owes = owed k sh s inv.kept.values.ops key

  abbrev Own : Type 0
  Own = (is_split ls key ≡ true) ⊎ ((is_split ls key ≡ false) × ((stamp_at s.stamps key).owner ≡ Some w))

  others : is_split ls key ≡ false → (stamp_at s.stamps key).owner ≡ Some w → (j : ℕ) → j < sh.workers → (j ≡ w → ⊥) → owes j ≡ []
  others free own j u d = unlocked_owes k sh start x inv key j low u free (λ e. d (same_Some j w (sym e ∙ own)))

  module _ (g : ℕ → List Operation) (same : (j : ℕ) → j < sh.workers → (j ≡ w → ⊥) → owes j ≡ g j) where
    around : Around k sh owes g sh.workers w
    around = gathered_at k sh owes g sh.workers w inside same

    abbrev item : is_split ls key ≡ true → (j : ℕ) × (l : SplitItem) × (find_split 0 ls key ≡ Some (j, l))
    item h = split_found ls key h

    splits : (h : is_split ls key ≡ true) → (k.rule (item h).1.part (item h).1.verb).splits ≡ true
    splits h = grind (arith, good_item, found_at)

    fit : (h : is_split ls key ≡ true) → AllByRecursion (Fits k sh (item h).1) (around.before ++ (owes w ++ around.behind))
    fit h = subst (AllByRecursion (Fits k sh (item h).1)) around.first (fits_owed k sh start x inv key (item h).0 (item h).1 (item h).2 sh.workers (omega arith))

    pub first_done : Own → (os rest : List Operation) → owes w ≡ os ++ rest → g w ≡ rest → (y : M) → apply_all k (gathered k sh owes sh.workers) y ≡ apply_all k (gathered k sh g sh.workers) (apply_all k os y)
    first_done (inl h) os rest own new y =
        let a = all_parts (Fits k sh (item h).1) around.before _ (fit h) in
        let b = all_parts (Fits k sh (item h).1) os rest (subst (AllByRecursion (Fits k sh (item h).1)) own (all_parts (Fits k sh (item h).1) (owes w) _ a.1).0) in
        rw (around.first, around.second, own, new) (apply_first k laws sh (item h).1 (splits h) around.before os rest around.behind y a.0 b.0)
    first_done (inr h) os rest own new y =
        rw (gathered_one k sh owes sh.workers w inside (others h.0 h.1), gathered_one k sh g sh.workers w inside (λ j u d. sym (same j u d) ∙ others h.0 h.1 j u d), own, new) (apply_append k os rest y)

    pub last_done : Own → (os : List Operation) → g w ≡ owes w ++ os → ((j : ℕ) (l : SplitItem) → find_split 0 ls key ≡ Some (j, l) → AllByRecursion (Fits k sh l) os)
        → (y : M) → apply_all k (gathered k sh g sh.workers) y ≡ apply_all k os (apply_all k (gathered k sh owes sh.workers) y)
    last_done (inl h) os new fits y =
        let a = all_parts (Fits k sh (item h).1) (owes w) _ (all_parts (Fits k sh (item h).1) around.before _ (fit h)).1 in
        rw (around.first, around.second, new) (apply_last k laws sh (item h).1 (splits h) around.before (owes w) os around.behind y (fits (item h).0 (item h).1 (item h).2) a.1)
    last_done (inr h) os new fits y =
        rw (gathered_one k sh owes sh.workers w inside (others h.0 h.1), gathered_one k sh g sh.workers w inside (λ j u d. sym (same j u d) ∙ others h.0 h.1 j u d), new) (apply_append k (owes w) os y)
