-- What is owed to a record: by whom, and what stays owed where a turn changes one row.
use Rattle.protocol.proofs.Base.{◌≡◌, refl, sym, ap, ◌∙◌, false, List, [], ◌++◌, append-nil, append_assoc, ◌⊎◌, inl, inr, ℕ, zero, suc, ◌≤◌, ◌<◌, arith, cases_eq, length, Option, Some, AllByRecursion, mapped, nth, rules}
use Rattle.protocol.specs.Rules.{Model, Operation, SplitItem, Stamp, Transaction, Row, Shape, State, row_at, stamp_at, apply_all, split_in, is_split, Event, World, holds}
use Rattle.protocol.proofs.Frames.{after, each_row, moves_row}
use Rattle.protocol.proofs.Invariant.{Past, Ready, HandOk, MergedOk, pending, owed, gathered, ValuesOk, ideal, Kept, Inv}
use Rattle.protocol.proofs.Operations.{no_writes}

module _ {M : Type 0} (k : Model M) (sh : Shape) where
  pub gathered_same : (f g : ℕ → List Operation) (n : ℕ) → ((j : ℕ) → j < n → f j ≡ g j) → gathered k sh f n ≡ gathered k sh g n
  gathered_same f g zero same = refl
  gathered_same f g (suc n) same = grind (arith, gathered_same f g n)

  pub gathered_none : (f : ℕ → List Operation) (n : ℕ) → ((j : ℕ) → j < n → f j ≡ []) → gathered k sh f n ≡ []
  gathered_none f zero none = refl
  gathered_none f (suc n) none = grind (arith, gathered_none f n)

  -- where the others have nothing
  pub gathered_one : (f : ℕ → List Operation) (n w : ℕ) → w < n → ((j : ℕ) → j < n → (j ≡ w → ⊥) → f j ≡ []) → gathered k sh f n ≡ f w
  gathered_one f zero w h none = absurd (omega arith)
  gathered_one f (suc n) w h none = grind (arith, gathered_none f n, gathered_one f n w, append-nil)

  -- what two that differ at one worker have before and behind it
  pub record Around (f g : ℕ → List Operation) (n w : ℕ) : Type 0 where
    pub before : List Operation
    pub behind : List Operation
    pub first : gathered k sh f n ≡ before ++ (f w ++ behind)
    pub second : gathered k sh g n ≡ before ++ (g w ++ behind)

  pub gathered_at : (f g : ℕ → List Operation) (n w : ℕ) → w < n → ((j : ℕ) → j < n → (j ≡ w → ⊥) → f j ≡ g j) → Around f g n w
  gathered_at f g zero w h same = absurd (omega arith)
  gathered_at f g (suc n) w h same = elim (cases_eq w n) [
    | inl e ↦ record { before = []; behind = gathered k sh f n; first = grind arith; second = grind (arith, gathered_same f g n) }
    | inr e ↦
        let r = gathered_at f g n w (omega arith) (λ j l d. same j (omega arith) d) in
        record { before = f n ++ r.before; behind = r.behind; first = grind (arith, append_assoc); second = grind (arith, append_assoc, same n) }
  ]

  -- on a record that is not split only who holds it owes something
  held_pending : (ls : List SplitItem) (w key : ℕ) (o : Option Transaction) → is_split ls key ≡ false → holds ls o key ≡ false → pending k sh ls w key o ≡ []
  held_pending ls w key o s h = grind (arith, no_writes w key ls)

module _ {M : Type 0} (k : Model M) (sh : Shape) (start : List M) (x : World M) (inv : Inv k sh start x) where
  abbrev s : State
  s = x.state

  abbrev ls : List SplitItem
  ls = split_in s.phase s.split

  abbrev ops : ℕ → ℕ → List Operation
  ops = inv.kept.values.ops

  -- what a worker owes to a record that is not split, and that it has not locked
  pub unlocked_owes : (key w : ℕ) → key < sh.keys → w < sh.workers → is_split ls key ≡ false → ((stamp_at s.stamps key).owner ≡ Some w → ⊥) → owed k sh s ops key w ≡ []
  unlocked_owes key w l v free not_own = grind (arith, held_pending)

  module _ (w ticket place : ℕ) (ss : List Stamp) (r : Row) (new : List Event) (inside : w < sh.workers) where
    abbrev x' : World M
    x' = after k sh start x w ticket place ss r x.table new

    abbrev each : (P : ℕ → Row → Type 0) → P w r → ((j : ℕ) → (j ≡ w → ⊥) → P j (row_at s.rows j)) → (j : ℕ) → P j (row_at x'.state.rows j)
    each = each_row k sh start x w ticket place ss r x.table new inv inside

    -- a turn of one worker that leaves all shards alone
    pub values_by : (table : List M) → ((i : ℕ) → sh.keys ≤ i → nth table i ≡ nth x.table i) → r.merged ≡ (row_at s.rows w).merged
        → ((key : ℕ) → key < sh.keys → nth (ideal k sh start (x.events ++ new)) key ≡ mapped (apply_all k (gathered k sh (owed k sh x'.state ops key) sh.workers)) (nth table key))
        → ValuesOk k sh x'.state table (ideal k sh start (x.events ++ new))
    values_by table kept merged values =
        let v = inv.kept.values in
        let merges = each (λ j (q : Row). q.merged ≡ (row_at s.rows j).merged) merged (λ j d. refl) in
        record {
          ops = v.ops;
          unsplit = v.unsplit;
          shards = λ p j i l a b. let h = v.shards p j i l a b in grind (arith, kept);
          merged = λ p j i l a b c. v.merged p j i l a b (omega (arith, merges j));
          values = values;
        }

    -- what each worker owes then, if the shards of the others hold what they held
    pub owes_then : (held : ℕ → ℕ → List Operation) (key : ℕ) → ((j : ℕ) → (j ≡ w → ⊥) → held j key ≡ ops j key) → (j : ℕ)
        → ((j ≡ w) × (owed k sh x'.state held key j ≡ held w key ++ pending k sh ls w key r.current)) ⊎ ((j ≡ w → ⊥) × (owed k sh s ops key j ≡ owed k sh x'.state held key j))
    owes_then held key same j = search rules

    -- where the worker owes what it owed, so do all
    pub owes_still : (key : ℕ) → pending k sh ls w key r.current ≡ pending k sh ls w key (row_at s.rows w).current
        → gathered k sh (owed k sh x'.state ops key) sh.workers ≡ gathered k sh (owed k sh s ops key) sh.workers
    owes_still key owes = gathered_same k sh _ _ sh.workers (λ j u. each (λ j (q : Row). ops j key ++ pending k sh ls j key q.current ≡ owed k sh s ops key j) (ap (λ os. ops w key ++ os) owes) (λ i d. refl) j)

    -- a turn that changes the row and the owners of locks at most, after which the worker owes what it owed
    pub keeps_owing : length ss ≡ length s.stamps → ((key : ℕ) → (stamp_at ss key).version ≡ (stamp_at s.stamps key).version) → s.place ≤ place → Past k sh start (x.events ++ new) ticket place
        → ideal k sh start (x.events ++ new) ≡ ideal k sh start x.events → ((t : Transaction) → r.current ≡ Some t → HandOk k sh ls ss x.table (x.events ++ new) w t) → AllByRecursion (Ready k sh (x.events ++ new) w) r.stash
        → MergedOk k sh s.phase (length s.split) r → r.merged ≡ (row_at s.rows w).merged → ((key : ℕ) → pending k sh ls w key r.current ≡ pending k sh ls w key (row_at s.rows w).current) → Kept k sh start x'
    keeps_owing len versions low past same hand stash fine merged owes =
        moves_row k sh start x w ticket place ss r x.table new inv inside refl len versions low past hand stash fine (values_by x.table (λ i l. refl) merged (λ key l.
        ap (λ (us : List M). nth us key) same ∙ inv.kept.values.values key l ∙ ap (λ (os : List Operation). mapped (apply_all k os) (nth x.table key)) (sym (owes_still key (owes key)))))

  -- and after which nothing has happened
  pub stays_owing : (w : ℕ) (ss : List Stamp) (r : Row) (inside : w < sh.workers) → length ss ≡ length s.stamps → ((key : ℕ) → (stamp_at ss key).version ≡ (stamp_at s.stamps key).version)
      → ((t : Transaction) → r.current ≡ Some t → HandOk k sh ls ss x.table (x.events ++ []) w t) → AllByRecursion (Ready k sh (x.events ++ []) w) r.stash → MergedOk k sh s.phase (length s.split) r
      → r.merged ≡ (row_at s.rows w).merged → ((key : ℕ) → pending k sh ls w key r.current ≡ pending k sh ls w key (row_at s.rows w).current) → Kept k sh start (after k sh start x w s.ticket s.place ss r x.table [])
  stays_owing w ss r inside len versions h g a b e = search (rules, keeps_owing)
