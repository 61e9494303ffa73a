-- Where shards lie in the table, what making them fresh leaves, and that all that is owed to a split record is what it is split for.
use Rattle.protocol.proofs.Base.{◌≡◌, refl, sym, ap, ◌∙◌, true, false, ◌&&◌, List, [], ◌∷◌, ◌++◌, ◌⊎◌, inl, inr, ℕ, zero, suc, ◌+◌, ◌≤◌, ◌<◌, arith, eqb, length, drop, none-some, nth_within, All-append, All-take, All-drop, cases_eq, tells, Option, Some, None, AllByRecursion, nth, cond, mapped, rules}
use Rattle.protocol.specs.Rules.{Model, Entry, modify, Phase, Split, Merging, SplitItem, Stamp, takes, late, Transaction, Shape, row_at, ops_of, ops_on, split_in, find_split, is_split, strays, shard_at, Event, fresh_row, fresh_all, World, State, Row, Operation, apply_all}
use Rattle.protocol.proofs.Finding.{admitted}
use Rattle.protocol.proofs.Frames.{after, each_row}
use Rattle.protocol.proofs.Invariant.{HandOk, Fits, pending, owed, gathered, Inv, ShardOk, ValuesOk, ideal}
use Rattle.protocol.proofs.Owing.{gathered_same}
use Rattle.protocol.proofs.Past.{ideal_none}
use Rattle.protocol.proofs.Places.{nth_modify, nth_modify_other}
use Rattle.protocol.proofs.Splits.{found_at, good_found, good_item}
use Rattle.protocol.specs.State.{ran}

-- ---- making shards fresh

module _ {M : Type 0} (k : Model M) (keys : ℕ) where
  abbrev fresh_for : SplitItem → M → M
  fresh_for l = (k.rule l.part l.verb).fresh

  -- what each of the changes keeps, all of them keep
  row_keeps : (P : List M → Type 0) (w i : ℕ) (ls : List SplitItem) (table : List M)
      → ((j : ℕ) (l : SplitItem) (us : List M) → i ≤ j → j < i + length ls → P us → P (modify (shard_at keys w j) (fresh_for l) us)) → P table → P (fresh_row k keys w i ls table)
  row_keeps P w i [] table f h = h
  row_keeps P w i (l ∷ ls) table f h = row_keeps P w (suc i) ls _ (λ j m us a b. f j m us (omega arith) (omega arith)) (f i l table (omega arith) (omega arith) h)

  pub fresh_keeps : (P : List M → Type 0) (n : ℕ) (ls : List SplitItem) (table : List M)
      → ((w j : ℕ) (l : SplitItem) (us : List M) → w < n → j < length ls → P us → P (modify (shard_at keys w j) (fresh_for l) us)) → P table → P (fresh_all k keys n ls table)
  fresh_keeps P zero ls table f h = h
  fresh_keeps P (suc n) ls table f h =
      row_keeps P n 0 ls _ (λ j l us a b. f n j l us (omega arith) (omega arith)) (fresh_keeps P n ls table (λ w j l us a b. f w j l us (omega arith) b) h)

  -- each of the shards becomes fresh
  row_fresh : (w i : ℕ) (ls : List SplitItem) (table : List M) (j : ℕ) (l : SplitItem) (p : ℕ) (x : M) → nth ls j ≡ Some l → p ≡ shard_at keys w (i + j) → nth table p ≡ Some x
      → nth (fresh_row k keys w i ls table) p ≡ Some (fresh_for l x)
  row_fresh w i [] table j l p x h e q = absurd (none-some l h)
  row_fresh w i (m ∷ ls) table zero l p x h e q = row_keeps (λ us. nth us p ≡ Some (fresh_for l x)) w (suc i) ls _ (λ j o us a b g. nth_modify_other us _ p _ (λ c. omega arith) ∙ g) (grind (arith, nth_modify table p (fresh_for m)))
  row_fresh w i (m ∷ ls) table (suc j) l p x h e q = row_fresh w (suc i) ls _ j l p x h (omega arith) (nth_modify_other table _ p _ (λ d. omega arith) ∙ q)

  pub fresh_shard : (n : ℕ) (ls : List SplitItem) (table : List M) (w j : ℕ) (l : SplitItem) (x : M) → length ls ≤ 16 → w < n → nth ls j ≡ Some l → nth table (shard_at keys w j) ≡ Some x
      → nth (fresh_all k keys n ls table) (shard_at keys w j) ≡ Some (fresh_for l x)
  fresh_shard zero ls table w j l x few v h q = absurd (omega arith)
  fresh_shard (suc n) ls table w j l x few v h q =
      let u = nth_within ls j l h in
      let p = shard_at keys w j in
      elim (cases_eq w n) [
        | inl e ↦ row_fresh n 0 ls _ j l p x h (omega arith) (fresh_keeps (λ us. nth us p ≡ Some x) n ls table (λ a b m us c d g. nth_modify_other us _ p _ (λ f. omega arith) ∙ g) q)
        | inr e ↦
            row_keeps (λ us. nth us p ≡ Some (fresh_for l x)) n 0 ls _ (λ a m us b c g. nth_modify_other us _ p _ (λ f. omega arith) ∙ g)
            (fresh_shard n ls table w j l x few (omega arith) h q)
      ]

-- ---- what is owed to a split record

-- an item of the records that are split in a phase is one of the list, and the phase is split or merging
pub split_item : (p : Phase) (ls : List SplitItem) (i : ℕ) (l : SplitItem) → nth (split_in p ls) i ≡ Some l → (nth ls i ≡ Some l) × ((p ≡ Split) ⊎ (p ≡ Merging))
split_item p ls i l h = grind arith

module _ {M : Type 0} (k : Model M) (sh : Shape) (ls : List SplitItem) (w key j : ℕ) (l : SplitItem) (found : find_split 0 ls key ≡ Some (j, l)) where
  pub fits_entry : (e : Entry) → e.key ≡ key → strays ls e ≡ false → takes k w e e.action ≡ true → AllByRecursion (Fits k sh l) (ops_of w e)
  fits_entry e d s n = grind arith

  fits_entries : (es : List Entry) → AllByRecursion (λ e. strays ls e ≡ false) es → AllByRecursion (λ e. (e.key < sh.keys) × (takes k w e e.action ≡ true)) es → AllByRecursion (Fits k sh l) (ops_on w key es)
  fits_entries [] s n = tt
  fits_entries (e ∷ es) s n = grind (arith, tells, All-append, fits_entry e, fits_entries es)

  -- what entries that passed the tests do to a split key, from a number on, is what it is split for
  pub fits_ran : (t : Transaction) (i : ℕ) → late k sh.keys w t.entries ≡ None → AllByRecursion (λ e. strays ls e ≡ false) (ran t) → AllByRecursion (Fits k sh l) (ops_on w key (drop i (ran t)))
  fits_ran t i fine chosen = search (rules, fits_entries, All-drop, All-take, admitted)

  -- and so is what it still owes
  pub fits_pending : {ss : List Stamp} {table : List M} {events : List Event} (o : Option Transaction)
      → ((t : Transaction) → o ≡ Some t → HandOk k sh ls ss table events w t) → AllByRecursion (Fits k sh l) (pending k sh ls w key o)
  fits_pending None h = tt
  fits_pending (Some t) h = let f : (i : ℕ) → AllByRecursion (Fits k sh l) (ops_on w key (drop i (ran t))) = λ i. fits_ran t i (h t refl).ready.1 (h t refl).chosen in grind (arith, f 0, f)

-- all that is owed to a split record is what it is split for
module _ {M : Type 0} (k : Model M) (sh : Shape) (start : List M) (x : World M) (inv : Inv k sh start x) (key j : ℕ) (l : SplitItem)
    (found : find_split 0 (split_in x.state.phase x.state.split) key ≡ Some (j, l)) where
  pub fits_owed : (n : ℕ) → n ≤ sh.workers → AllByRecursion (Fits k sh l) (gathered k sh (owed k sh x.state inv.kept.values.ops key) n)
  fits_owed zero u = tt
  fits_owed (suc n) u =
      let at = found_at _ key j l found in
      let item = split_item x.state.phase x.state.split j l at.0 in
      let fit = (inv.kept.values.shards (λ e. grind arith) n j l (omega arith) item.0).fit in
      All-append _ _ _ (All-append _ _ _ (rw (← at.1) fit) (fits_pending k sh _ n key j l found (row_at x.state.rows n).current (inv.kept.rows n).hand)) (fits_owed n (omega arith))

-- ---- one shard changes

-- a turn of worker w that leaves the operations os in its shard of item i, and all other shards and records but the item's alone
module _ {M : Type 0} (k : Model M) (sh : Shape) (start : List M) (x : World M) (inv : Inv k sh start x) (w : ℕ) (inside : w < sh.workers) (i : ℕ) (l : SplitItem)
    (there : nth x.state.split i ≡ Some l) (split : is_split (split_in x.state.phase x.state.split) l.key ≡ true) (ss : List Stamp) (r : Row) (table : List M) (os : List Operation) where
  abbrev s : State
  s = x.state

  abbrev ls : List SplitItem
  ls = split_in s.phase s.split

  abbrev ops : ℕ → ℕ → List Operation
  ops = inv.kept.values.ops

  abbrev now : ℕ → ℕ → List Operation
  now j key = cond (eqb j w && eqb key l.key) os (ops j key)

  abbrev at : ℕ
  at = shard_at sh.keys w i

  abbrev x' : World M
  x' = after k sh start x w s.ticket s.place ss r table []

  -- a shard is the one that changes, or it lies elsewhere
  this_or_other : (j n : ℕ) (m : SplitItem) → nth s.split n ≡ Some m
      → ((j ≡ w) × (n ≡ i) × (m ≡ l) × (now j m.key ≡ os)) ⊎ ((now j m.key ≡ ops j m.key) × (j ≡ w → n ≡ i → ⊥) × (shard_at sh.keys j n ≡ at → ⊥))
  this_or_other j n m h = grind (arith, good_found, nth_within)

  owes_now : (key j : ℕ) → ((j ≡ w) × (owed k sh x'.state now key j ≡ now w key ++ pending k sh ls w key r.current)) ⊎ ((j ≡ w → ⊥) × (owed k sh s ops key j ≡ owed k sh x'.state now key j))
  owes_now key j = search rules

  pub values_at : ((p : ℕ) → (p ≡ at → ⊥) → (p ≡ l.key → ⊥) → nth table p ≡ nth x.table p) → ShardOk k sh table os w i l
      → (s.phase ≡ Merging → (n : ℕ) → n < r.merged → ((n ≡ i) × (os ≡ [])) ⊎ ((n ≡ i → ⊥) × (n < (row_at s.rows w).merged)))
      → ((key : ℕ) → (key ≡ l.key → ⊥) → pending k sh ls w key r.current ≡ pending k sh ls w key (row_at s.rows w).current)
      → ((g : ℕ → List Operation) → g w ≡ os ++ pending k sh ls w l.key r.current → ((j : ℕ) → (j ≡ w → ⊥) → owed k sh s ops l.key j ≡ g j)
      → mapped (apply_all k (gathered k sh (owed k sh s ops l.key) sh.workers)) (nth x.table l.key) ≡ mapped (apply_all k (gathered k sh g sh.workers)) (nth table l.key))
      → ValuesOk k sh x'.state table (ideal k sh start (x.events ++ []))
  values_at elsewhere shard merged owes here = record {
    ops = now;
    unsplit = λ j key u free. let o = inv.kept.values.unsplit j key u free in let h = split in grind (arith, tells);
    shards = λ p j n m u h. elim (this_or_other j n m h) [
      | inl c ↦ rw (c.3, c.0, c.1, c.2) shard
      | inr c ↦
          let old = inv.kept.values.shards p j n m u h in
          let good = good_item k sh.keys 0 s.split i l inv.kept.sized.split_good there in
          rw c.0 (record { base = old.base; holds = elsewhere (shard_at sh.keys j n) c.2 (λ e. omega (arith, good.inside)) ∙ old.holds; fit = old.fit })
    ];
    merged = λ p j n m u h. each_row k sh start x w s.ticket s.place ss r table [] inv inside (λ j (q : Row). j < sh.workers → n < q.merged → now j m.key ≡ [])
        (λ v c. let a = this_or_other w n m h in let b = merged p n c in let old = inv.kept.values.merged p w n m v h in grind arith)
        (λ j d v c. let a = this_or_other j n m h in let old = inv.kept.values.merged p j n m v h c in grind arith) j u;
    values = λ key u. ap (λ (us : List M). nth us key) (ideal_none k sh start x.events) ∙ inv.kept.values.values key u ∙ elim (cases_eq key l.key) [
      | inl e ↦ rw e (here (owed k sh x'.state now l.key) (let o = owes_now l.key w in grind (arith, tells)) (λ j d. let o = owes_now l.key j in grind arith))
      | inr e ↦
          let g = gathered_same k sh (owed k sh s ops key) (owed k sh x'.state now key) sh.workers (λ j v. let o = owes_now key j in let q = owes key e in grind (arith, tells)) in
          let o = sym (elsewhere key (λ c. omega arith) e) in
          (λ n. mapped (apply_all k (g n)) (o n))
    ];
  }
