-- How replies are written.
use Rattle.std.specs.Prelude.{ℕ, List, ◌++◌, ℤ, codes, decimal}
use Rattle.std.specs.List.{flat_map as all_of}
use Rattle.std.specs.Fmt.{signed_decimal}
use Rattle.refusals.specs.Texts.{refusal_text}
use Rattle.replies.specs.Replies.{Told, joined, committed, number, not_understood, engine_open, no_engine, no_such_number, refused}

-- each answer after a space
abbrev pub answers_text : List ℤ → List ℕ
answers_text answers = all_of (λ n. codes " " ++ signed_decimal n) answers

abbrev pub reply_text : Told → List ℕ
reply_text joined = codes "joined"
reply_text (committed c) = codes "committed at " ++ (decimal c.place ++ answers_text c.answers)
reply_text (number n) = signed_decimal n
reply_text not_understood = codes "not understood"
reply_text engine_open = codes "engine open"
reply_text no_engine = codes "no engine"
reply_text no_such_number = codes "no such number"
reply_text (refused c) = refusal_text c
