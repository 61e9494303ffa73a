-- What a transaction does when it runs alone, directly on the values.
use Rattle.std.specs.Prelude.{ℕ, suc, cond, List, [], ◌∷◌, ℤ, Some, None, Option, int_lt}
use Rattle.kinds.specs.Model.{Model}
use Rattle.slips.specs.declared.entry.Action.{Action}
use Rattle.slips.specs.declared.entry.Action.TheVariants.{Show, Need, Change}
use Rattle.slips.specs.declared.entry.Entry.{Entry}
use Rattle.serial.specs.Places.{modify, peek}

-- what a run leaves: the values, the answers of its `show` entries, and the entry number of the `need` that skipped the rest
pub record Ran (M : Type 0) : Type 0 where
  pub values : List M
  pub answers : List ℤ
  pub skipped : Option ℕ

module _ {M : Type 0} (k : Model M) where
  -- the number that an entry reads
  abbrev pub reads : Entry → ℕ → List M → ℤ
  reads e number vs = peek e.key (k.shown e.part number) vs

  -- the values after an entry: changed by its operation under the worker, if it has one
  abbrev pub after : ℕ → Entry → Action → List M → List M
  after w e (Show n) vs = vs
  after w e (Need n b) vs = vs
  after w e (Change v n m) vs = modify e.key ((k.rule e.part v).apply (record { number = n; worker = w; mark = m })) vs

  -- entry i, found at the values vs, before what the rest gives: `show` answers, and a `need` below its bound skips the rest
  abbrev pub before : ℕ → Entry → Action → List M → Ran M → Ran M
  before i e (Show n) vs rest = record { values = rest.values; answers = reads e n vs ∷ rest.answers; skipped = rest.skipped }
  before i e (Need n b) vs rest = cond (int_lt (reads e n vs) b) (record { values = vs; answers = []; skipped = Some i }) rest
  before i e (Change v n m) vs rest = rest

  -- the entries from number i on, in order, by a worker, directly on the values
  abbrev pub serial : ℕ → ℕ → List Entry → List M → Ran M
  serial w i [] vs = record { values = vs; answers = []; skipped = None }
  serial w i (e ∷ es) vs = before i e e.action vs (serial w (suc i) es (after w e e.action vs))
