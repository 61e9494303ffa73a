-- What is promised of every run of turns.
use Rattle.std.specs.Prelude.{◌≡◌, ℕ, ◌^◌, ◌<◌, ◌≤◌, true, List, [], ◌∷◌, map, length, take, ℤ, Some, None, Ok, count_by, Result, nat_eq}
use Rattle.std.specs.List.{range_with_len, slice_get}
use Rattle.kinds.specs.Model.{Model}
use Rattle.slips.specs.Reads.{ReadAs}
use Rattle.slips.specs.declared.entry.Entry.{Entry}
use Rattle.protocol.specs.declared.data.Outcome.{Outcome}
use Rattle.protocol.specs.declared.data.Outcome.TheVariants.{Committed, Conflict, TurnedAway}
use Rattle.protocol.specs.declared.data.Phase.TheVariants.{Joined}
use Rattle.protocol.specs.Codes.{outcome_code}
use Rattle.protocol.specs.State.{Shape, State, stamp_at}
use Rattle.protocol.specs.Turns.{Call, Take, Collect, Refused, Gave, Taking, Placing, Event, Taken, Placed, left_in, quiet, refuse_open, turn}
use Rattle.protocol.specs.Runs.{takings, placings, Readings, World, Runs, values_by, readings_by}

-- a placed transaction is the one that was taken under its ticket
pub record SameSlip (t : Taking) (p : Placing) : Type 0 where
  pub ticket : p.ticket ≡ t.ticket
  pub worker : p.worker ≡ t.worker
  pub entries : p.entries ≡ t.entries

abbrev pub readings_of : Placing → Readings
readings_of p = record { answers = p.answers; skipped = p.skipped }

-- how often a ticket was placed
abbrev pub times_placed : List Event → ℕ → ℕ
times_placed es n = count_by (λ (p : Placing). nat_eq p.ticket n) (placings es)

-- what collecting tells of a ticket is what its check gave it: its place and answers, or nothing if it was never placed
abbrev pub RightlyTold : List Event → ℕ → List ℤ → Outcome → Type 0
RightlyTold es n zs (Committed place) = (i : ℕ) × (p : Placing) × (slice_get es i ≡ Some (Placed p)) × (p.ticket ≡ n) × (p.place ≡ place) × (p.answers ≡ zs)
RightlyTold es n zs (Conflict key) = (times_placed es n ≡ 0) × (zs ≡ [])
RightlyTold es n zs TurnedAway = (times_placed es n ≡ 0) × (zs ≡ [])

module _ {M : Type 0} (k : Model M) where
  -- it is as if the placed transactions had run alone, one after another, by place
  pub record Serializable (sh : Shape) (start : List M) (x : World M) : Type 0 where
    -- the places are the numbers from the first on, each once, none left out
    pub each_place : map (λ (p : Placing). p.place) (placings x.events) ≡ range_with_len sh.first (length (placings x.events))
    -- each of them is a transaction that was taken before, under the worker and with the entries of its taking
    pub as_taken : (i : ℕ) (p : Placing) → slice_get x.events i ≡ Some (Placed p) → (j : ℕ) × (t : Taking) × (j < i) × (slice_get x.events j ≡ Some (Taken t)) × SameSlip t p
    -- which are what its text is read as
    pub as_read : (i : ℕ) (t : Taking) → slice_get x.events i ≡ Some (Taken t) → ReadAs t.text (Ok t.entries)
    -- alone and by place, each gives exactly the readings that it gave
    pub same_readings : map readings_of (placings x.events) ≡ readings_by k (placings x.events) (take sh.keys start)
    -- joined and with no lock, the values are those that the serial run leaves
    pub same_values : x.state.phase ≡ Joined → quiet x.state.stamps ≡ true → take sh.keys x.table ≡ values_by k (placings x.events) (take sh.keys start)
    -- one that was taken after another was placed, and is placed too, has the higher place
    pub in_time : (h i j : ℕ) (p q : Placing) (t : Taking) → h < i → slice_get x.events h ≡ Some (Placed p) → slice_get x.events i ≡ Some (Taken t)
        → slice_get x.events j ≡ Some (Placed q) → q.ticket ≡ t.ticket → p.place < q.place

  -- what owners are told is what happened
  pub record Truthful (sh : Shape) (x : World M) : Type 0 where
    -- the tickets are the numbers from the first on, and none is placed twice
    pub each_ticket : map (λ (t : Taking). t.ticket) (takings x.events) ≡ range_with_len sh.first (length (takings x.events))
    pub placed_once : (n : ℕ) → times_placed x.events n ≤ 1
    pub as_collected : (lent : List M) (w ticket : ℕ) (buffer : List ℤ) (c : List ℕ) (zs : List ℤ) → (turn k sh x.state lent (Collect w ticket buffer)).answer ≡ Gave c zs
        → (o : Outcome) × (c ≡ outcome_code o) × RightlyTold x.events ticket zs o

  -- no counter passes 64 bits
  pub record InBounds (x : World M) : Type 0 where
    pub places : x.state.place ≤ x.state.ticket
    pub tickets : x.state.ticket < 2 ^ 64
    pub versions : (key : ℕ) → (stamp_at x.state.stamps key).version < 2 ^ 64

  pub record Kept (sh : Shape) (start : List M) (x : World M) : Type 0 where
    pub serializable : Serializable sh start x
    pub truthful : Truthful sh x
    pub in_bounds : InBounds x

  -- a refused turn changes neither the engine nor the table or the buffer that it was lent, and nothing has happened
  pub record Unchanged (sh : Shape) (s : State) (lent : List M) (c : Call) : Type 0 where
    pub state : (turn k sh s lent c).state ≡ s
    pub table : (turn k sh s lent c).table ≡ lent
    pub buffer : (buffer : List ℤ) → left_in buffer (turn k sh s lent c).answer ≡ buffer
    pub events : (turn k sh s lent c).events ≡ []

  -- all that is promised
  pub record Promise : Type 0 where
    -- for every shape within the limits, every start and every run of turns
    pub of_runs : (sh : Shape) (start : List M) (x : World M) → refuse_open k sh start ≡ None → sh.first < 2 ^ 64 → Runs k sh start x → Kept sh start x
    pub of_refusals : (sh : Shape) (s : State) (lent : List M) (c : Call) (code : List ℕ) → (turn k sh s lent c).answer ≡ Refused code → Unchanged sh s lent c
    -- a taking that is not refused has happened, under the ticket that it tells and with its own text
    pub of_takings : (sh : Shape) (s : State) (lent : List M) (w : ℕ) (text : List ℕ) (q : Result (List Entry) (List ℕ)) (c : List ℕ) (zs : List ℤ)
        → (turn k sh s lent (Take w text q)).answer ≡ Gave c zs
        → (n : ℕ) × (es : List Entry) × (c ≡ n ∷ []) × (q ≡ Ok es) × ((turn k sh s lent (Take w text q)).events ≡ Taken (record { ticket = n; worker = w; text = text; entries = es }) ∷ [])
    -- and no other turn makes one happen
    pub of_others : (sh : Shape) (s : State) (lent : List M) (c : Call) (t : Taking) (i : ℕ) → slice_get (turn k sh s lent c).events i ≡ Some (Taken t)
        → c ≡ Take t.worker t.text (Ok t.entries)
