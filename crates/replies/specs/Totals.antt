-- How commands are counted, and the line that closes a session.
use Rattle.std.specs.Prelude.{ℕ, ◌+◌, ◌-◌, ◌^◌, ◌<◌, ◌≤◌, min, List, ◌++◌, codes, decimal}
use Rattle.replies.specs.Replies.{Told, joined, committed, number, not_understood, engine_open, no_engine, no_such_number, refused}
use Rattle.replies.specs.declared.totals.Totals.{Totals}

abbrev pub nil : Totals
nil = record { commands = 0; refused = 0; misunderstood = 0 }

-- one more, which stops at the largest number of 64 bits
abbrev pub more : ℕ → ℕ
more n = min (n + 1) (2 ^ 64 - 1)

-- every command counts; a refusal and what is not understood count once more
abbrev pub counted : Told → Totals → Totals
counted joined t = record { commands = more t.commands; refused = t.refused; misunderstood = t.misunderstood }
counted (committed c) t = record { commands = more t.commands; refused = t.refused; misunderstood = t.misunderstood }
counted (number n) t = record { commands = more t.commands; refused = t.refused; misunderstood = t.misunderstood }
counted not_understood t = record { commands = more t.commands; refused = t.refused; misunderstood = more t.misunderstood }
counted engine_open t = record { commands = more t.commands; refused = t.refused; misunderstood = t.misunderstood }
counted no_engine t = record { commands = more t.commands; refused = t.refused; misunderstood = t.misunderstood }
counted no_such_number t = record { commands = more t.commands; refused = t.refused; misunderstood = t.misunderstood }
counted (refused c) t = record { commands = more t.commands; refused = more t.refused; misunderstood = t.misunderstood }

-- no more were refused or not understood than there were commands, whose count fits 64 bits
abbrev pub Fair : Totals → Type 0
Fair t = (t.refused ≤ t.commands) × (t.misunderstood ≤ t.commands) × (t.commands < 2 ^ 64)

abbrev pub totals_text : Totals → List ℕ
totals_text t =
    codes "end: " ++ (decimal t.commands ++ (codes " commands, " ++ (decimal t.refused ++ (codes " refused, " ++ (decimal t.misunderstood ++ codes " not understood")))))
