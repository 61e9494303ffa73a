-- What a reply says.
use Rattle.std.specs.Prelude.{ℕ, List, ℤ, Some, None, Ok, Err, Option, Result}
use Rattle.refusals.specs.Codes.{code}
use Rattle.solo.specs.Rules.{Commit}
use Rattle.solo.specs.View.{commit_of}
use Rattle.refusals.specs.declared.Refusal.TheVariants.{Memory as NoMemory}
use Rattle.script.specs.declared.escapes.UnescapeError.{UnescapeError}
use Rattle.script.specs.declared.escapes.UnescapeError.TheVariants.{BadEscape, Memory}
use Rattle.replies.specs.declared.reply.Reply.{Reply}
use Rattle.replies.specs.declared.reply.Reply.TheVariants.{Joined, Committed, Number}
use Rattle.replies.specs.declared.reply.Failure.{Failure}
use Rattle.replies.specs.declared.reply.Failure.TheVariants.{NotUnderstood, EngineOpen, NoEngine, NoSuchNumber, Refused}

-- each answer with its values; a refusal has its code, and want of memory the empty one
pub data Told : Type 0 where
  joined : Told
  committed : Commit → Told
  number : ℤ → Told
  not_understood : Told
  engine_open : Told
  no_engine : Told
  no_such_number : Told
  refused : List ℕ → Told

abbrev pub told_reply : Reply → Told
told_reply Joined = joined
told_reply (Committed c) = committed (commit_of c)
told_reply (Number n) = number n

abbrev pub told_failure : Failure → Told
told_failure NotUnderstood = not_understood
told_failure EngineOpen = engine_open
told_failure NoEngine = no_engine
told_failure NoSuchNumber = no_such_number
told_failure (Refused r) = refused (code r)

-- why a text whose escapes are not read is not run
abbrev pub failure_of : UnescapeError → Failure
failure_of BadEscape = NotUnderstood
failure_of Memory = Refused NoMemory

-- what an answer tells
abbrev pub told : Result Reply Failure → Told
told (Ok r) = told_reply r
told (Err f) = told_failure f

-- what is told of a turn's answer
abbrev pub told_turn : Result Commit (List ℕ) → Told
told_turn (Ok c) = committed c
told_turn (Err c) = refused c

abbrev pub told_number : Option ℤ → Told
told_number (Some n) = number n
told_number None = no_such_number
