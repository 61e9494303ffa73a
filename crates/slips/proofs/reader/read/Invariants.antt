-- The entries so far are those in front of the place, and each turn goes on in the text.
use Rattle.std.proofs.Common.{◌-◌, length}
use Rattle.slips.specs.Listed.{entries_of}
use Rattle.slips.proofs.Loop.{Read}
use Rattle.slips.proofs.reader.read.Given as goal

abbrev pub invariant-loop-at : goal.invariant-loop-at
invariant-loop-at l = Read l.text (entries_of l.entries) l.at

abbrev pub decreases-loop-at : goal.decreases-loop-at
decreases-loop-at l = length l.text - l.at
