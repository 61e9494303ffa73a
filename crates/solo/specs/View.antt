-- The engine and its answers as the rules have them.
use Rattle.std.specs.Prelude.{map, vec_items}
use Rattle.serial.specs.Answers.{answers_of}
use Rattle.solo.specs.declared.solo.Committed.{Committed}
use Rattle.solo.specs.declared.solo.Solo.{Solo}
use Rattle.solo.specs.Rules.{State, Commit}

abbrev pub view : {K M : Type 0} → (K → M) → Solo K → State M
view meaning s = record { workers = s.workers; given = s.given; values = map meaning (vec_items s.values) }

abbrev pub commit_of : Committed → Commit
commit_of r = record { place = r.place; answers = answers_of r.readings; skipped = r.readings.skipped }
