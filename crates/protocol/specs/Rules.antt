-- The words of the rules, and of the kinds, entries and the serial run that they speak of, in one place.
pub use Rattle.kinds.specs.Model.{Laws, Model, Rule}
pub use Rattle.kinds.specs.declared.operation.Operation.{Operation}
pub use Rattle.kinds.specs.declared.operation.Verb.{Verb}
pub use Rattle.protocol.specs.Codes.{outcome_code}
pub use Rattle.protocol.specs.Entries.{action_ops, apply_all, changes, find_split, is_split, lesser, looks, next_shard, next_target, ops_of, ops_on, rank, same_verb, sharded, split_in, strays, strays_from, verb_of, wanted}
pub use Rattle.protocol.specs.Promise.{Kept, Promise, RightlyTold, SameSlip, Unchanged, readings_of, times_placed}
pub use Rattle.protocol.specs.Refusing.{at_entry, first_entry, first_of, good_figures, late, no_record, not_taken, takes, when}
pub use Rattle.protocol.specs.Runs.{Lawful, Runs, World, alone, opens, or_skip, placing_in, placings, readings_by, refuses, taking_in, takings, those, values_by}
pub use Rattle.protocol.specs.Sound.{Counted, Sound, StaysSound, aims, aims_at, holds, holds_at, in_hand, in_row, in_rows, may_rest, writes}
pub use Rattle.protocol.specs.State.{Row, Shape, State, Transaction, at_stage, begin, end_of, idle, place_in, place_of, row_at, stamp_at, with_current}
pub use Rattle.protocol.specs.Steps.{Moved, act, after_check, after_running, after_writing, check_by, clash, first_conflict, free_own, has_run, is_noted, lock_for, locked_out, move, note, noting, one_more, or_stage, owned_by, put_aside, put_back, reading, run, settled, shard_at, shard_by, shard_of, stale, stamped, step_row, write}
pub use Rattle.protocol.specs.Turns.{Acknowledge, AnnounceMerging, AnnounceSplit, Call, Collect, Draw, Event, Gave, Made, Merge, Placed, Placing, Refused, Release, Step, Take, Taken, Taking, acknowledging, all_acknowledged, answers_of, drawn, fresh_all, fresh_row, good_from, good_split, has_ended, left_in, left_over, makes, merge_item, merge_shard, merges, merging, next_phase, opened, outcome_of, outcome_told, placing, placings_at, quiet, refuse_open, refuse_text, revise, revised, runs, same_phase, steps, tests, turn, turn_by}
pub use Rattle.protocol.specs.declared.data.Note.{Note}
pub use Rattle.protocol.specs.declared.data.Outcome.{Outcome}
pub use Rattle.protocol.specs.declared.data.Outcome.TheVariants.{Committed, Conflict, TurnedAway}
pub use Rattle.protocol.specs.declared.data.Phase.{Phase}
pub use Rattle.protocol.specs.declared.data.Phase.TheVariants.{Closing, Joined, Merging, Split}
pub use Rattle.protocol.specs.declared.data.SplitItem.{SplitItem}
pub use Rattle.protocol.specs.declared.data.Stage.{Stage}
pub use Rattle.protocol.specs.declared.data.Stage.TheVariants.{Checking, Ended, Locking, Running, Sharding, Writing}
pub use Rattle.protocol.specs.declared.data.Stamp.{Stamp}
pub use Rattle.protocol.specs.declared.data.Told.{Told}
pub use Rattle.serial.specs.Alone.{Alone, applied, falls_short, ran, short_at, tells}
pub use Rattle.serial.specs.Places.{modify, peek}
pub use Rattle.serial.specs.Serial.{Ran, after, serial}
pub use Rattle.slips.specs.Reads.{ReadAs}
pub use Rattle.slips.specs.declared.entry.Action.{Action}
pub use Rattle.slips.specs.declared.entry.Action.TheVariants.{Change, Need, Show}
pub use Rattle.slips.specs.declared.entry.Entry.{Entry}
