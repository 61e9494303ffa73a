-- What is told of a turn of an engine, and of a number that it shows.
use Rattle.std.specs.Prelude.{◌≡◌, ℕ, cond, ◌&&◌, List, Result, nat_lt}
use Rattle.kinds.specs.Model.{Model}
use Rattle.solo.specs.Rules.{State, Commit, RunAs, shown_at}
use Rattle.replies.specs.Replies.{Told, no_such_number, told_turn, told_number}

module _ {M : Type 0} (k : Model M) where
  -- a turn of the engine, and what is told of it
  pub record RanOn (s : State M) (worker : ℕ) (text : List ℕ) (t : Told) (s' : State M) : Type 0 where
    pub answer : Result Commit (List ℕ)
    pub turn : RunAs k s worker text (record { state = s'; answer = answer })
    pub tells : t ≡ told_turn answer

  -- a part or a number of more than 8 bits does not exist
  abbrev pub shown_told : State M → ℕ → ℕ → ℕ → Told
  shown_told s key part n = cond (nat_lt part 256 && nat_lt n 256) (told_number (shown_at k s key part n)) no_such_number
