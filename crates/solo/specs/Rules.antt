-- The rules of the engine: what it holds, how a turn is refused, and what a committed one does.
use Rattle.std.specs.Prelude.{◌≡◌, ℕ, ◌+◌, ◌-◌, ◌^◌, Bool, cond, not, ◌&&◌, List, [], ◌∷◌, length, replicate, ℤ, Some, None, Ok, Err, Option, Result, ◌==◌, nat_le, nat_lt, position}
use Rattle.kinds.specs.Model.{Model}
use Rattle.slips.specs.Reads.{ReadAs}
use Rattle.slips.specs.declared.entry.Action.{Action}
use Rattle.slips.specs.declared.entry.Action.TheVariants.{Show, Need, Change}
use Rattle.slips.specs.declared.entry.Entry.{Entry}
use Rattle.serial.specs.Places.{peek}
use Rattle.serial.specs.Serial.{Ran, serial}

-- the engine: how many workers there are, the last place that was given, and the values
pub record State (M : Type 0) : Type 0 where
  pub workers : ℕ
  pub given : ℕ
  pub values : List M

-- what a committed transaction is told: its place in the serial order, and its readings
pub record Commit : Type 0 where
  pub place : ℕ
  pub answers : List ℤ
  pub skipped : Option ℕ

-- what a turn leaves and answers
pub record Turn (M : Type 0) : Type 0 where
  pub state : State M
  pub answer : Result Commit (List ℕ)

-- the code of the first test that finds something wrong
abbrev pub first_of : List (Bool × List ℕ) → Option (List ℕ)
first_of [] = None
first_of (t ∷ ts) = cond t.0 (Some t.1) (first_of ts)

-- the code with the entry that was found, or else the next one
abbrev pub at_entry : ℕ → Option ℕ → Option (List ℕ) → Option (List ℕ)
at_entry number (Some i) next = Some (number ∷ i ∷ [])
at_entry number None next = next

-- refused with the code, if there is one
abbrev pub refuse_or : {X : Type 0} → Option (List ℕ) → X → Result X (List ℕ)
refuse_or (Some c) x = Err c
refuse_or None x = Ok x

-- ---- opening

abbrev pub good_figures : ℕ → ℕ → ℕ → Bool
good_figures workers keys first = nat_le 1 workers && nat_le workers 8 && nat_le 1 keys && nat_le keys 1024 && nat_le 1 first

-- an engine with `keys` values that are all the same, if there is room for them; want of memory has the empty code
abbrev pub opening : {M : Type 0} → ℕ → ℕ → ℕ → M → Bool → Result (State M) (List ℕ)
opening workers keys first start room =
    cond (good_figures workers keys first) (cond room (Ok (record { workers = workers; given = first - 1; values = replicate keys start })) (Err [])) (Err (1 ∷ []))

-- ---- a turn

-- there is no record for the entry's key
abbrev pub no_record : ℕ → Entry → Bool
no_record keys e = nat_le keys e.key

module _ {M : Type 0} (k : Model M) where
  -- the kind takes the entry's operation, or has the number that the entry reads
  abbrev pub takes : ℕ → Entry → Action → Bool
  takes w e (Show n) = k.shows e.part n
  takes w e (Need n b) = k.shows e.part n
  takes w e (Change v n m) = (k.rule e.part v).takes (record { number = n; worker = w; mark = m })

  abbrev pub not_taken : ℕ → Entry → Bool
  not_taken w e = not (takes w e e.action)

  -- refused whatever the text says: no such worker, or no ticket is left
  abbrev pub early : State M → ℕ → Option (List ℕ)
  early s w = first_of ((nat_le s.workers w, 3 ∷ []) ∷ ((s.given == 2 ^ 64 - 1), 7 ∷ []) ∷ [])

  -- refused for what the entries say: a key with no record in any of them comes before an operation that is not taken
  abbrev pub late : ℕ → ℕ → List Entry → Option (List ℕ)
  late keys w es = at_entry 10 (position (no_record keys) es) (at_entry 11 (position (not_taken w) es) None)

  abbrev pub refuses : State M → List ℕ → Turn M
  refuses s c = record { state = s; answer = Err c }

  -- the entries run alone on the values, at the next place
  abbrev pub commits_as : State M → Ran M → Turn M
  commits_as s r = record {
    state = record { workers = s.workers; given = s.given + 1; values = r.values };
    answer = Ok (record { place = s.given + 1; answers = r.answers; skipped = r.skipped });
  }

  abbrev pub commits : State M → ℕ → List Entry → Turn M
  commits s w es = commits_as s (serial k w 0 es s.values)

  abbrev pub run_late : State M → ℕ → List Entry → Option (List ℕ) → Turn M
  run_late s w es (Some c) = refuses s c
  run_late s w es None = commits s w es

  -- the turn, by what the text was read as
  abbrev pub run_read : State M → ℕ → Result (List Entry) (List ℕ) → Turn M
  run_read s w (Err c) = refuses s c
  run_read s w (Ok es) = run_late s w es (late (length s.values) w es)

  abbrev pub RunBy : State M → ℕ → List ℕ → Option (List ℕ) → Turn M → Type 0
  RunBy s w text (Some c) t = t ≡ refuses s c
  RunBy s w text None t = (q : Result (List Entry) (List ℕ)) × ReadAs text q × (t ≡ run_read s w q)

  -- the turn of worker w with this text
  abbrev pub RunAs : State M → ℕ → List ℕ → Turn M → Type 0
  RunAs s w text t = RunBy s w text (early s w) t

  -- ---- looking

  -- a number that a part of a record shows
  abbrev pub shown_at : State M → ℕ → ℕ → ℕ → Option ℤ
  shown_at s key part number = cond (k.shows part number && nat_lt key (length s.values)) (Some (peek key (k.shown part number) s.values)) None
