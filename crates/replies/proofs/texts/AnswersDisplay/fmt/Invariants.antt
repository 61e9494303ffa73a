-- What the loop of `AnswersDisplay` keeps.
use Rattle.std.proofs.Common.{take}
use Rattle.std.specs.Fmt.{IsPlainFormatter, HasWritten}
use Rattle.replies.specs.Texts.{answers_text}
use Rattle.replies.proofs.texts.AnswersDisplay.fmt.Given as goal

abbrev pub invariant-loop-n : goal.invariant-loop-n
invariant-loop-n g l = IsPlainFormatter l.initial.f → HasWritten g.W.Write.write_str_gives l.initial.f (answers_text (take l.n-index l.n-items)) l.f
