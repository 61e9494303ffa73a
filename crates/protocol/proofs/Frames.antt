-- What a turn of one worker leaves of the others, and what it has to show for itself.
use Rattle.protocol.proofs.Base.{◌≡◌, ap, ◌∙◌, true, false, List, ◌++◌, ℕ, ◌≤◌, ◌<◌, arith, length, set, All-weaker, Option, Some, AllByRecursion, nth}
use Rattle.protocol.specs.Rules.{Model, Phase, SplitItem, Stamp, Transaction, Row, Shape, State, idle, row_at, stamp_at, split_in, is_split, Moved, put_back, Event, World, holds_at, holds}
use Rattle.protocol.proofs.Alone.{gives_agrees}
use Rattle.protocol.proofs.Invariant.{Past, Ready, Faithful, HandOk, MergedOk, RowOk, ValuesOk, ideal, Kept, Inv}
use Rattle.protocol.proofs.Notes.{noted_has}
use Rattle.protocol.proofs.Places.{nth_longer, all_both, set_cases}
use Rattle.protocol.specs.State.{ran}

-- a worker whose hand is full has merged nothing in merging, so a step need not look
pub merged_step : {M : Type 0} (k : Model M) (sh : Shape) (p : Phase) (items : ℕ) (r r' : Row) (t : Transaction) → r.current ≡ Some t → r'.merged ≡ r.merged → r'.acknowledged ≡ r.acknowledged
    → MergedOk k sh p items r → MergedOk k sh p items r'
merged_step k sh p items r r' t h m a ok = grind arith

module _ {M : Type 0} (k : Model M) (sh : Shape) where
  -- what happened stays so
  pub ready_longer : (es new : List Event) (w : ℕ) (t : Transaction) → Ready k sh es w t → Ready k sh (es ++ new) w t
  ready_longer es new w t h = ((h.0.0, h.0.1, nth_longer es new _ _ h.0.2), h.1)

  -- versions rise, and where one stays so does the value
  pub record Grows (ls : List SplitItem) (ss ss' : List Stamp) (table table' : List M) : Type 0 where
    pub up : (key : ℕ) → (stamp_at ss key).version ≤ (stamp_at ss' key).version
    pub still : (key : ℕ) → key < sh.keys → is_split ls key ≡ false → (stamp_at ss' key).version ≡ (stamp_at ss key).version → nth table' key ≡ nth table key

  module _ (ls : List SplitItem) (ss ss' : List Stamp) (table table' : List M) (g : Grows ls ss ss' table table') (w : ℕ) (t : Transaction) where
    -- readings hold good while the noted versions stay
    pub faithful_grows : Faithful k sh ls ss table w t → Faithful k sh ls ss' table' w t
    faithful_grows h = record {
      covers = h.covers;
      bounds = All-weaker _ _ (λ n b. (b.0, omega (arith, g.up n.key, b.1), b.2)) t.noted h.bounds;
      agrees = λ same.
          let both = all_both _ _ t.noted h.bounds same in
          gives_agrees k w (ran t) table' table t.answers t.skipped
          (All-weaker _ _ (λ e c l. let n = (noted_has _ t.noted e.key both (c l)).1 in g.still e.key n.0.0 n.0.2 (omega (arith, g.up e.key, n.0.1, n.1))) (ran t) h.covers)
          (h.agrees (All-weaker _ _ (λ n b. omega (arith, g.up n.key, b.0.1, b.1)) t.noted both));
    }

    -- and so does all that holds of a transaction, if what it has locked keeps its versions
    module _ (es new : List Event) (locked : (key : ℕ) → key < sh.keys → holds_at ls (ran t) key t.stage ≡ true → (stamp_at ss' key).version ≡ (stamp_at ss key).version) where
      pub hand_grows : HandOk k sh ls ss table es w t → HandOk k sh ls ss' table' (es ++ new) w t
      hand_grows h = grind (arith, nth_longer, faithful_grows)

module _ {M : Type 0} (k : Model M) (sh : Shape) (start : List M) (x : World M) (w ticket place : ℕ) (ss : List Stamp) (r : Row) (table : List M) (new : List Event) where
  abbrev s : State
  s = x.state

  abbrev ls : List SplitItem
  ls = split_in s.phase s.split

  abbrev pub after : World M
  after = record {
    state = record { ticket = ticket; place = place; phase = s.phase; split = s.split; stamps = ss; rows = set s.rows w r };
    table = table;
    events = x.events ++ new;
  }

  -- what worker w has to show of a turn after which its row is r
  pub record Moves : Type 0 where
    pub table_len : length table ≡ length x.table
    pub stamps_len : length ss ≡ length s.stamps
    pub grows : Grows k sh ls s.stamps ss x.table table
    pub versions : (key : ℕ) → (stamp_at ss key).version ≤ place
    -- the records that others have locked keep their versions
    pub locked : (key j : ℕ) → (j ≡ w → ⊥) → (stamp_at s.stamps key).owner ≡ Some j → (stamp_at ss key).version ≡ (stamp_at s.stamps key).version
    pub past : Past k sh start (x.events ++ new) ticket place
    pub hand : (t : Transaction) → r.current ≡ Some t → HandOk k sh ls ss table (x.events ++ new) w t
    pub stash : AllByRecursion (Ready k sh (x.events ++ new) w) r.stash
    pub merged : MergedOk k sh s.phase (length s.split) r
    pub values : ValuesOk k sh after.state table (ideal k sh start (x.events ++ new))

  module _ (inv : Inv k sh start x) (inside : w < sh.workers) where
    -- what holds of every row after the turn
    pub each_row : (P : ℕ → Row → Type 0) → P w r → ((j : ℕ) → (j ≡ w → ⊥) → P j (row_at s.rows j)) → (j : ℕ) → P j (row_at (set s.rows w r) j)
    each_row P here there = set_cases P s.rows w r idle (omega (arith, inv.sound.rows)) here there

    pub moves : Moves → Kept k sh start after
    moves m = record {
      sized = record {
        table_len = m.table_len ∙ inv.kept.sized.table_len;
        stamps_len = m.stamps_len ∙ inv.kept.sized.stamps_len;
        split_good = inv.kept.sized.split_good;
        split_few = inv.kept.sized.split_few;
        versions = m.versions;
      };
      past = m.past;
      rows = each_row (RowOk k sh after.state table (x.events ++ new)) (record { hand = m.hand; stash = m.stash; merged = m.merged }) (λ j d.
          let old = inv.kept.rows j in
          record {
            hand = λ t e. hand_grows k sh ls s.stamps ss x.table table m.grows j t x.events new
                (λ key l h. m.locked key j d ((inv.sound.locks key j (omega (arith, inv.kept.sized.stamps_len))).1 (ap (λ (o : Option Transaction). holds ls o key) e ∙ h))) (old.hand t e);
            stash = All-weaker _ _ (ready_longer k sh x.events new j) (row_at s.rows j).stash old.stash;
            merged = old.merged;
          });
      values = m.values;
    }

    -- a turn that leaves the table and the versions
    pub moves_row : table ≡ x.table → length ss ≡ length s.stamps → ((key : ℕ) → (stamp_at ss key).version ≡ (stamp_at s.stamps key).version) → s.place ≤ place → Past k sh start (x.events ++ new) ticket place
        → ((t : Transaction) → r.current ≡ Some t → HandOk k sh ls ss table (x.events ++ new) w t) → AllByRecursion (Ready k sh (x.events ++ new) w) r.stash → MergedOk k sh s.phase (length s.split) r
        → ValuesOk k sh after.state table (ideal k sh start (x.events ++ new)) → Kept k sh start after
    moves_row same len versions low past hand stash merged values = grind (arith, moves)

-- what a step of a worker has to show
abbrev pub Goes : {M : Type 0} → Model M → Shape → List M → World M → ℕ → Moved M → List Event → Type 0
Goes k sh start x w m new = Kept k sh start (after k sh start x w x.state.ticket m.place m.stamps (put_back (row_at x.state.rows w) m).1 m.table new)
