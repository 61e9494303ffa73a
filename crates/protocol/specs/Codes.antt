-- What calls tell, each case with its number and the values that it carries.
use Rattle.std.specs.Prelude.{ℕ, List, [], ◌∷◌}
use Rattle.protocol.specs.declared.data.Outcome.{Outcome}
use Rattle.protocol.specs.declared.data.Outcome.TheVariants.{Committed, Conflict, TurnedAway}
use Rattle.protocol.specs.declared.data.Told.{Told}
use Rattle.protocol.specs.declared.data.Told.TheVariants.{Runs, Ended, Stashed}

-- what a step tells
abbrev pub told_code : Told → List ℕ
told_code Runs = 0 ∷ []
told_code Ended = 1 ∷ []
told_code Stashed = 2 ∷ []

-- how a transaction ended: with its place, or the key on which it met a conflict
abbrev pub outcome_code : Outcome → List ℕ
outcome_code (Committed place) = 0 ∷ place ∷ []
outcome_code (Conflict key) = 1 ∷ key ∷ []
outcome_code TurnedAway = 2 ∷ []
