-- What a command line does to the engine that is open, and what is replied.
use Rattle.std.specs.Prelude.{◌≡◌, ℕ, Bool, true, false, ◌⊎◌, List, [], Some, None, Ok, Err, Option, Result}
use Rattle.numbers.specs.Counts.{Amount, count_model}
use Rattle.four.specs.Fours.{four_model}
use Rattle.script.specs.Commands.{Request, opens, runs, shows, command}
use Rattle.script.specs.Escapes.{unescaped}
use Rattle.script.specs.declared.commands.KindName.{KindName}
use Rattle.solo.specs.Rules.{State}
use Rattle.desk.specs.Engines.{Quad, Opened, closed, counts, fours, opened_as}
use Rattle.replies.specs.Replies.{Told, joined, committed, number, not_understood, engine_open, no_engine, no_such_number, refused}
use Rattle.desk.specs.Turns.{RanOn, shown_told}

-- t is told, and the engine is as it was
abbrev pub ToldOnly : Opened → Told → Told → Opened → Type 0
ToldOnly e told t e' = (t ≡ told) × (e' ≡ e)

-- an opening that was refused leaves no engine open
abbrev pub OpensAs : Result Opened (List ℕ) → Told → Opened → Type 0
OpensAs (Ok e) t e' = (t ≡ joined) × (e' ≡ e)
OpensAs (Err c) t e' = ToldOnly closed (refused c) t e'

abbrev pub Opens : Opened → ℕ → ℕ → ℕ → KindName → Told → Opened → Type 0
Opens closed workers keys first kind t e' = (room : Bool) × OpensAs (opened_as workers keys first kind room) t e'
Opens (counts s) workers keys first kind t e' = ToldOnly (counts s) engine_open t e'
Opens (fours s) workers keys first kind t e' = ToldOnly (fours s) engine_open t e'

-- a text runs on the engine that is open
abbrev pub RunsText : Opened → ℕ → List ℕ → Told → Opened → Type 0
RunsText closed worker text t e' = ToldOnly closed no_engine t e'
RunsText (counts s) worker text t e' = (s' : State Amount) × RanOn count_model s worker text t s' × (e' ≡ counts s')
RunsText (fours s) worker text t e' = (s' : State Quad) × RanOn four_model s worker text t s' × (e' ≡ fours s')

-- a bad escape is not understood
abbrev pub RunsRead : Opened → ℕ → Option (List ℕ) → Told → Opened → Type 0
RunsRead e worker None t e' = ToldOnly e not_understood t e'
RunsRead e worker (Some text) t e' = RunsText e worker text t e'

-- there may be no memory to read the escapes with
abbrev pub Runs : Opened → ℕ → List ℕ → Told → Opened → Type 0
Runs e worker written t e' = RunsRead e worker (unescaped written) t e' ⊎ ToldOnly e (refused []) t e'

abbrev pub number_told : Opened → ℕ → ℕ → ℕ → Told
number_told closed key part n = no_engine
number_told (counts s) key part n = shown_told count_model s key part n
number_told (fours s) key part n = shown_told four_model s key part n

abbrev pub Asks : Opened → Option Request → Told → Opened → Type 0
Asks e None t e' = ToldOnly e not_understood t e'
Asks e (Some (opens workers keys first kind)) t e' = Opens e workers keys first kind t e'
Asks e (Some (runs worker written)) t e' = Runs e worker written t e'
Asks e (Some (shows key part n)) t e' = ToldOnly e (number_told e key part n) t e'

-- t is replied to the line, and leaves the engine as e'
abbrev pub Replies : Opened → List ℕ → Told → Opened → Type 0
Replies e line t e' = Asks e (command line) t e'

-- only an opening and a commit change the engine
abbrev pub changes : Told → Bool
changes joined = true
changes (committed c) = true
changes (number n) = false
changes not_understood = false
changes engine_open = false
changes no_engine = false
changes no_such_number = false
changes (refused c) = false
