-- A line without the byte that breaks it from the next.
use Rattle.std.specs.Prelude.{ℕ, ◌-◌, cond, List, length, take, ◌==◌, slice_index}

abbrev pub unbroken : List ℕ → List ℕ
unbroken line = cond (slice_index line (length line - 1) == 10) (take (length line - 1) line) line
