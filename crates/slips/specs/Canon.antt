-- The canonical text of entries.
use Rattle.std.specs.Prelude.{◌≡◌, ℕ, ◌^◌, ◌<◌, Bool, true, false, cond, List, [], ◌∷◌, ◌++◌, codes, decimal, FitsSigned}
use Rattle.std.specs.Int.{w64}
use Rattle.std.specs.List.{flat_map}
use Rattle.std.specs.Fmt.{signed_decimal}
use Rattle.kinds.specs.declared.operation.Verb.{Verb}
use Rattle.kinds.specs.declared.operation.Verb.TheVariants.{Put, Add, Max, Min, Last, Top}
use Rattle.kinds.specs.VerbTexts.{verb_text}
use Rattle.words.specs.Numbers.{keyed, IsKey}
use Rattle.slips.specs.declared.entry.Action.{Action}
use Rattle.slips.specs.declared.entry.Entry.{Entry}
use Rattle.slips.specs.declared.line.Head.{Head}
use Rattle.slips.specs.declared.line.Head.TheVariants.{Show, Need, Change}

-- the verbs that take a mark
abbrev pub marked : Verb → Bool
marked Put = false
marked Add = false
marked Max = false
marked Min = false
marked Last = true
marked Top = true

-- an entry's first word
abbrev pub heading : Head → List ℕ
heading Show = codes "show"
heading Need = codes "need"
heading (Change v) = verb_text v

abbrev pub headed : Action → Head
headed (Action.Show n) = Show
headed (Action.Need n b) = Need
headed (Action.Change v z m) = Change v

-- the words behind its key
abbrev pub figures : Action → List (List ℕ)
figures (Action.Show n) = decimal n ∷ []
figures (Action.Need n b) = decimal n ∷ signed_decimal b ∷ []
figures (Action.Change v z m) = signed_decimal z ∷ cond (marked v) (decimal m ∷ []) []

-- all its words
abbrev pub spell : Entry → List (List ℕ)
spell e = heading (headed e.action) ∷ keyed e.key e.part ∷ figures e.action

-- the entries that have a text
abbrev pub Ranged : Action → Type 0
Ranged (Action.Show n) = n < 100
Ranged (Action.Need n b) = (n < 100) × FitsSigned w64 b
Ranged (Action.Change v z m) = FitsSigned w64 z × (m < 2 ^ 32) × (marked v ≡ false → m ≡ 0)

abbrev pub InRange : Entry → Type 0
InRange e = IsKey e.key e.part × Ranged e.action

-- words, one space apart
abbrev pub spaced : List (List ℕ) → List ℕ
spaced [] = []
spaced (w ∷ []) = w
spaced (w ∷ v ∷ ws) = w ++ (32 ∷ spaced (v ∷ ws))

-- the text of an entry, and of a transaction
abbrev pub line : Entry → List ℕ
line e = spaced (spell e) ++ (10 ∷ [])

abbrev pub render : List Entry → List ℕ
render es = flat_map line es
