-- How a call is refused: the first of its tests that finds something wrong. What each number says is in `code` of the crate `refusals`.
use Rattle.std.specs.Prelude.{ℕ, suc, Bool, cond, not, ◌&&◌, List, [], ◌∷◌, Some, None, Ok, Err, Option, Result, nat_le}
use Rattle.std.specs.Option.{option_map}
use Rattle.kinds.specs.Model.{Model}
use Rattle.slips.specs.declared.entry.Action.{Action}
use Rattle.slips.specs.declared.entry.Action.TheVariants.{Show, Need, Change}
use Rattle.slips.specs.declared.entry.Entry.{Entry}

-- a test, with its code if it finds something wrong
abbrev pub when : Bool → List ℕ → Option (List ℕ)
when b c = cond b (Some c) None

-- the first code that tests give
abbrev pub first_of : List (Option (List ℕ)) → Option (List ℕ)
first_of [] = None
first_of (None ∷ ts) = first_of ts
first_of (Some c ∷ ts) = Some c

-- the number of the first entry that the test finds, from number i on
abbrev pub first_entry : (Entry → Bool) → ℕ → List Entry → Option ℕ
first_entry test i [] = None
first_entry test i (e ∷ es) = cond (test e) (Some i) (first_entry test (suc i) es)

-- a test that finds an entry: its number with that of the entry
abbrev pub at_entry : ℕ → Option ℕ → Option (List ℕ)
at_entry number o = option_map (λ i. number ∷ i ∷ []) o

-- refused with the code, if there is one
abbrev pub refuse_or : {X : Type 0} → Option (List ℕ) → X → Result X (List ℕ)
refuse_or (Some c) x = Err c
refuse_or None x = Ok x

-- the figures that an engine can be opened with
abbrev pub good_figures : ℕ → ℕ → ℕ → Bool
good_figures workers keys first = nat_le 1 workers && nat_le workers 8 && nat_le 1 keys && nat_le keys 1024 && nat_le 1 first

-- there is no record for the entry's key
abbrev pub no_record : ℕ → Entry → Bool
no_record keys e = nat_le keys e.key

module _ {M : Type 0} (k : Model M) where
  -- the kind takes the entry's operation, or has the number that the entry reads
  abbrev pub takes : ℕ → Entry → Action → Bool
  takes w e (Show n) = k.shows e.part n
  takes w e (Need n b) = k.shows e.part n
  takes w e (Change v n m) = (k.rule e.part v).takes (record { number = n; worker = w; mark = m })

  abbrev pub not_taken : ℕ → Entry → Bool
  not_taken w e = not (takes w e e.action)

  -- refused for what the entries say: a key with no record in any of them comes before an operation that is not taken
  abbrev pub late : ℕ → ℕ → List Entry → Option (List ℕ)
  late keys w es = first_of (at_entry 10 (first_entry (no_record keys) 0 es) ∷ at_entry 11 (first_entry (not_taken w) 0 es) ∷ [])
