-- The engine that is open, as the rules have it, and how one is opened.
use Rattle.std.specs.Prelude.{ℕ, Bool, List, [], pos, Some, None, Ok, Err, Option, Result}
use Rattle.std.proofs.Common.{lit<, lit≤}
use Rattle.kinds.specs.declared.pair.Pair.{Pair}
use Rattle.numbers.specs.declared.count.Count.{Count}
use Rattle.numbers.specs.declared.lean.Lean.{Lean}
use Rattle.numbers.specs.Counts.{Amount, nothing}
use Rattle.numbers.specs.Leans.{Long}
use Rattle.triples.specs.declared.last.Last.{Last}
use Rattle.triples.specs.declared.ten.Ten.{Ten}
use Rattle.triples.specs.Lasts.{Latest}
use Rattle.triples.specs.Tens.{Tops, tops}
use Rattle.script.specs.declared.commands.KindName.{KindName}
use Rattle.solo.specs.Rules.{State, opening}
use Rattle.solo.specs.View.{view}
use Rattle.desk.specs.declared.engine.Engine.{Engine}
use Rattle.desk.specs.declared.engine.Engine.TheVariants.{Counts, Fours}

-- what the values of the two kinds mean
abbrev pub Quad : Type 0
Quad = Amount × (Long × (Latest × Tops))

abbrev pub amount_of : Count → Amount
amount_of c = record { value = c.value; small = c.small }

abbrev pub quad_of : Pair Count (Pair Lean (Pair Last Ten)) → Quad
quad_of x =
    (amount_of x.first, (record { value = x.second.first.value; fits = x.second.first.fits }, (x.second.second.first.triple, tops x.second.second.second.len x.second.second.second.triples x.second.second.second.few x.second.second.second.falls)))

-- no engine, or one of either kind
pub data Opened : Type 0 where
  closed : Opened
  counts : State Amount → Opened
  fours : State Quad → Opened

abbrev pub opened : Engine → Opened
opened (Counts s) = counts (view amount_of s)
opened (Fours s) = fours (view quad_of s)

abbrev pub engine_of : Option Engine → Opened
engine_of None = closed
engine_of (Some e) = opened e

-- the value of a record at its start: 0, 0, empty and empty
abbrev pub quad_start : Quad
quad_start = (nothing, (record { value = pos 0; fits = lit< tt }, (None, record { triples = []; few = lit≤ tt; falls = tt })))

abbrev pub opened_with : {M : Type 0} → (State M → Opened) → Result (State M) (List ℕ) → Result Opened (List ℕ)
opened_with f (Ok s) = Ok (f s)
opened_with f (Err c) = Err c

-- an engine of a kind with its values at their start, if there is room for it
abbrev pub opened_as : ℕ → ℕ → ℕ → KindName → Bool → Result Opened (List ℕ)
opened_as workers keys first KindName.Count room = opened_with counts (opening workers keys first nothing room)
opened_as workers keys first KindName.Four room = opened_with fours (opening workers keys first quad_start room)
