-- The number of each refusal, with the values that it names.
use Rattle.std.specs.Prelude.{ℕ, List, [], ◌∷◌, Ok, Err, Result}
use Rattle.refusals.specs.declared.Refusal.{Refusal}
use Rattle.refusals.specs.declared.Refusal.TheVariants.{Figures, TableLength, NoWorker, WrongPhase, HandFull, NothingRuns, TicketsOut, TextSize, Grammar, NoKey, NotTaken, StashEmpty, LeftOver, Acknowledged, BadSplit, NotAcknowledged, NotEnded, ShortBuffer, Memory}

-- its number, then the entry and the byte that it names; want of memory has no number
abbrev pub code : Refusal → List ℕ
code Figures = 1 ∷ []
code TableLength = 2 ∷ []
code NoWorker = 3 ∷ []
code WrongPhase = 4 ∷ []
code HandFull = 5 ∷ []
code NothingRuns = 6 ∷ []
code TicketsOut = 7 ∷ []
code TextSize = 8 ∷ []
code (Grammar entry byte) = 9 ∷ entry ∷ byte ∷ []
code (NoKey entry) = 10 ∷ entry ∷ []
code (NotTaken entry) = 11 ∷ entry ∷ []
code StashEmpty = 12 ∷ []
code LeftOver = 13 ∷ []
code Acknowledged = 14 ∷ []
code BadSplit = 15 ∷ []
code NotAcknowledged = 16 ∷ []
code NotEnded = 17 ∷ []
code ShortBuffer = 18 ∷ []
code Memory = []

-- an answer with its refusal as a code
abbrev pub coded : {X Y : Type 0} → (X → Y) → Result X Refusal → Result Y (List ℕ)
coded f (Ok x) = Ok (f x)
coded f (Err r) = Err (code r)
