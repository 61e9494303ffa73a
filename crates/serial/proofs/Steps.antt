-- A run alone, one entry after another from the front.
use Rattle.std.proofs.Common.{◌≡◌, ℕ, Bool, true, false, cond, List, [], ◌∷◌, ◌++◌, ℤ, Some, sym, ap, ◌∙◌, append_assoc, append-nil}
use Rattle.std.proofs.lemmas.Bool.{true≢false}
use Rattle.kinds.specs.Model.{Model}
use Rattle.slips.specs.declared.entry.Action.{Action}
use Rattle.slips.specs.declared.entry.Action.TheVariants.{Show, Need, Change}
use Rattle.slips.specs.declared.entry.Entry.{Entry}
use Rattle.serial.specs.Alone.{tells, falls_short}
use Rattle.serial.specs.Serial.{Ran, reads, after, before}

-- a run whose first answers are there already
abbrev pub follow : {M : Type 0} → List ℤ → Ran M → Ran M
follow front r = record { values = r.values; answers = front ++ r.answers; skipped = r.skipped }

module _ {M : Type 0} (k : Model M) (w i : ℕ) (e : Entry) (vs : List M) where
  -- an entry that does not fall short, before the rest
  pub before_goes : (front : List ℤ) (rest : Ran M) (a : Action) → falls_short k e a vs ≡ false → follow front (before k i e a vs rest) ≡ follow (front ++ tells k e a vs) rest
  before_goes front rest (Show n) h = ap (λ (x : List ℤ). record { values = rest.values; answers = x; skipped = rest.skipped }) (sym (append_assoc front (reads k e n vs ∷ []) rest.answers))
  before_goes front rest (Need n b) h =
      ap (λ (x : Bool). follow front (cond x (record { values = vs; answers = []; skipped = Some i }) rest)) h ∙ ap (λ (x : List ℤ). follow x rest) (sym (append-nil front))
  before_goes front rest (Change v n m) h = ap (λ (x : List ℤ). follow x rest) (sym (append-nil front))

  -- one that does
  pub before_stops : (front : List ℤ) (rest : Ran M) (a : Action) → falls_short k e a vs ≡ true
      → follow front (before k i e a vs rest) ≡ record { values = after k w e a vs; answers = front ++ tells k e a vs; skipped = Some i }
  before_stops front rest (Show n) h = absurd (true≢false (sym h))
  before_stops front rest (Need n b) h = ap (λ (x : Bool). follow front (cond x (record { values = vs; answers = []; skipped = Some i }) rest)) h
  before_stops front rest (Change v n m) h = absurd (true≢false (sym h))
