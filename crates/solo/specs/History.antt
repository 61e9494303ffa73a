-- Whole runs of the engine: turn after turn, refused ones counted in.
use Rattle.std.specs.Prelude.{◌≡◌, ℕ, zero, suc, true, List, [], ◌∷◌, ◌++◌, length, replicate, Ok, Err, Result}
use Rattle.kinds.specs.Model.{Model}
use Rattle.slips.specs.Reads.{ReadAs}
use Rattle.slips.specs.declared.entry.Entry.{Entry}
use Rattle.serial.specs.Serial.{Ran, serial}
use Rattle.solo.specs.Rules.{State, Commit, RunAs, opening}

-- one turn, as those outside see it: who asked with which text, and what came back
pub record Asked : Type 0 where
  pub worker : ℕ
  pub text : List ℕ
  pub answer : Result Commit (List ℕ)

-- the places that turns were given, in their order
abbrev pub place_in : Result Commit (List ℕ) → List ℕ
place_in (Ok r) = r.place ∷ []
place_in (Err c) = []

abbrev pub places_of : List Asked → List ℕ
places_of [] = []
places_of (t ∷ ts) = place_in t.answer ++ places_of ts

-- so many numbers, from the first on
abbrev pub numbers : ℕ → ℕ → List ℕ
numbers first zero = []
numbers first (suc n) = first ∷ numbers (suc first) n

module _ {M : Type 0} (k : Model M) where
  -- the engine goes from s to s' by these turns
  abbrev pub Turns : State M → List Asked → State M → Type 0
  Turns s [] s' = s' ≡ s
  Turns s (t ∷ ts) s' = (m : State M) × RunAs k s t.worker t.text (record { state = m; answer = t.answer }) × Turns m ts s'

  -- a commit has the readings of a run
  pub record Gave (r : Commit) (ran : Ran M) : Type 0 where
    pub answers : r.answers ≡ ran.answers
    pub skipped : r.skipped ≡ ran.skipped

  -- one turn on the values, and then the rest: a committed one runs its entries alone and gives their readings, a refused one does nothing
  abbrev pub Then : Result Commit (List ℕ) → ℕ → List ℕ → List M → (List M → Type 0) → Type 0
  Then (Ok r) w text vs rest = (es : List Entry) × ReadAs text (Ok es) × Gave r (serial k w 0 es vs) × rest (serial k w 0 es vs).values
  Then (Err c) w text vs rest = rest vs

  -- the values go from vs to vs' by the committed transactions, one after another in this order
  abbrev pub Serially : List M → List Asked → List M → Type 0
  Serially vs [] vs' = vs' ≡ vs
  Serially vs (t ∷ ts) vs' = Then t.answer t.worker t.text vs (λ us. Serially us ts vs')

  -- an engine opened at `first` with the values vs, after these turns
  pub record History (first : ℕ) (vs : List M) (ts : List Asked) (s' : State M) : Type 0 where
    -- the places are the numbers from the first on, each once
    pub places : places_of ts ≡ numbers first (length (places_of ts))
    pub values : Serially vs ts s'.values

  pub record WholeRuns : Type 0 where
    -- every start, and every list of turns
    pub histories : (workers keys first : ℕ) (start : M) (s s' : State M) (ts : List Asked) → opening workers keys first start true ≡ Ok s → Turns s ts s'
        → History first (replicate keys start) ts s'
    -- a refused turn changes nothing
    pub refused : (s m : State M) (w : ℕ) (text c : List ℕ) → RunAs k s w text (record { state = m; answer = Err c }) → m ≡ s
