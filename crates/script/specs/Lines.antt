-- Which lines are commands.
use Rattle.std.specs.Prelude.{ℕ, Bool, false, not, ◌||◌, List, [], ◌∷◌, ◌==◌}
use Rattle.std.specs.List.{list_all}

-- a space, a tab or a carriage return
abbrev pub white : ℕ → Bool
white c = c == 32 || (c == 9 || c == 13)

abbrev pub blank : List ℕ → Bool
blank line = list_all white line

-- a comment begins with the byte 35, `#`
abbrev pub comment : List ℕ → Bool
comment [] = false
comment (c ∷ cs) = c == 35

abbrev pub is_command_line : List ℕ → Bool
is_command_line line = not (blank line || comment line)
