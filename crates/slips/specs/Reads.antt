-- Which texts are read, as what, and how another is refused.
use Rattle.std.specs.Prelude.{◌≡◌, ℕ, ◌<◌, ◌≤◌, ◌⊎◌, List, [], ◌∷◌, length, Ok, Err, count_by, Result, nat_eq}
use Rattle.std.specs.List.{AllByRecursion}
use Rattle.slips.specs.Canon.{InRange, render}
use Rattle.slips.specs.Listed.{entries_of}
use Rattle.slips.specs.Wrong.{Fails}
use Rattle.slips.specs.declared.entries.Entries.{Entries}
use Rattle.slips.specs.declared.entry.Entry.{Entry}
use Rattle.slips.specs.declared.fault.Fault.{Fault}
use Rattle.slips.specs.declared.fault.Fault.TheVariants.{Size, Grammar}

-- how many ending bytes a text has
abbrev pub endings : List ℕ → ℕ
endings text = count_by (λ c. nat_eq c 10) text

-- the limits of a text
abbrev pub Sized : List ℕ → Type 0
Sized text = (0 < length text) × (length text ≤ 1024) × (endings text ≤ 16)

-- the number of a fault, and its values
abbrev pub code : Fault → List ℕ
code Size = 8 ∷ []
code (Grammar entry byte) = 9 ∷ entry ∷ byte ∷ []

-- what the reader tells
abbrev pub told : Result Entries Fault → Result (List Entry) (List ℕ)
told (Ok es) = Ok (entries_of es)
told (Err f) = Err (code f)

-- a text of the right size is read as the entries that it is the canonical text of, and otherwise refused where it first goes wrong
abbrev pub ReadAs : List ℕ → Result (List Entry) (List ℕ) → Type 0
ReadAs text (Ok es) = Sized text × AllByRecursion InRange es × (text ≡ render es)
ReadAs text (Err c) = ((Sized text → ⊥) × (c ≡ 8 ∷ [])) ⊎ (Sized text × ((e : ℕ) × (b : ℕ) × Fails text e b × (c ≡ 9 ∷ e ∷ b ∷ [])))
