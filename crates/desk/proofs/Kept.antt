-- A command that opens nothing and commits nothing leaves the engine as it was.
use Rattle.std.proofs.Common.{◌≡◌, ℕ, false, List, Some, None, Ok, Err, Option, Result, sym, ap, ◌∙◌, inl, inr}
use Rattle.std.proofs.lemmas.Bool.{both_ways}
use Rattle.kinds.specs.Model.{Model}
use Rattle.numbers.specs.Counts.{count_model}
use Rattle.four.specs.Fours.{four_model}
use Rattle.script.specs.Commands.{Request, opens, runs, shows, command}
use Rattle.script.specs.Escapes.{unescaped}
use Rattle.slips.specs.declared.entry.Entry.{Entry}
use Rattle.solo.specs.Rules.{State, Turn, early, run_late, run_read, RunBy}
use Rattle.replies.specs.Replies.{Told, told_turn}
use Rattle.desk.specs.Engines.{Opened, closed, counts, fours, opened_as}
use Rattle.desk.specs.Turns.{RanOn}
use Rattle.desk.specs.Commands.{changes, OpensAs, RunsText, RunsRead, Asks, Replies}

module _ {M : Type 0} (k : Model M) (s : State M) (w : ℕ) where
  turn_late : (es : List Entry) (o : Option (List ℕ)) (t : Turn M) → t ≡ run_late k s w es o → changes (told_turn t.answer) ≡ false → t.state ≡ s
  turn_late es (Some c) t e n = ap (λ (u : Turn M). u.state) e
  turn_late es None t e n = absurd (both_ways (changes (told_turn t.answer)) n (ap (λ (u : Turn M). changes (told_turn u.answer)) e))

  turn_read : (q : Result (List Entry) (List ℕ)) (t : Turn M) → t ≡ run_read k s w q → changes (told_turn t.answer) ≡ false → t.state ≡ s
  turn_read (Err c) t e n = ap (λ (u : Turn M). u.state) e
  turn_read (Ok es) t e n = turn_late es _ t e n

  turn_by : (text : List ℕ) (o : Option (List ℕ)) (t : Turn M) → RunBy k s w text o t → changes (told_turn t.answer) ≡ false → t.state ≡ s
  turn_by text (Some c) t e n = ap (λ (u : Turn M). u.state) e
  turn_by text None t p n = turn_read p.0 t p.2 n

  turn_kept : (text : List ℕ) (t : Told) (s' : State M) → RanOn k s w text t s' → changes t ≡ false → s' ≡ s
  turn_kept text t s' r n = turn_by text (early k s w) (record { state = s'; answer = r.answer }) r.turn (ap changes (sym r.tells) ∙ n)

opens_as : (r : Result Opened (List ℕ)) (t : Told) (e' : Opened) → OpensAs r t e' → changes t ≡ false → e' ≡ closed
opens_as (Ok e) t e' p n = absurd (both_ways (changes t) n (ap changes p.0))
opens_as (Err c) t e' p n = p.1

runs_text : (e : Opened) (w : ℕ) (text : List ℕ) (t : Told) (e' : Opened) → RunsText e w text t e' → changes t ≡ false → e' ≡ e
runs_text closed w text t e' p n = p.1
runs_text (counts s) w text t e' p n = p.2 ∙ ap counts (turn_kept count_model s w text t p.0 p.1 n)
runs_text (fours s) w text t e' p n = p.2 ∙ ap fours (turn_kept four_model s w text t p.0 p.1 n)

runs_read : (e : Opened) (w : ℕ) (o : Option (List ℕ)) (t : Told) (e' : Opened) → RunsRead e w o t e' → changes t ≡ false → e' ≡ e
runs_read e w None t e' p n = p.1
runs_read e w (Some text) t e' p n = runs_text e w text t e' p n

asks : (e : Opened) (q : Option Request) (t : Told) (e' : Opened) → Asks e q t e' → changes t ≡ false → e' ≡ e
asks e None t e' p n = p.1
asks closed (Some (opens w k f kind)) t e' p n = opens_as (opened_as w k f kind p.0) t e' p.1 n
asks (counts s) (Some (opens w k f kind)) t e' p n = p.1
asks (fours s) (Some (opens w k f kind)) t e' p n = p.1
asks e (Some (runs w written)) t e' (inl p) n = runs_read e w (unescaped written) t e' p n
asks e (Some (runs w written)) t e' (inr p) n = p.1
asks e (Some (shows k p m)) t e' q n = q.1

pub kept : (e : Opened) (line : List ℕ) (t : Told) (e' : Opened) → Replies e line t e' → changes t ≡ false → e' ≡ e
kept e line t e' p n = asks e (command line) t e' p n
