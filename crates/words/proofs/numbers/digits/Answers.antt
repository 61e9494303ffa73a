-- What `digits` ensures, where the search leaves it.
use Rattle.std.proofs.Common.{◌≡◌, ◌+◌, ◌<◌, length, get_or, Some, sym, ap, ◌∙◌, subst, ⊎_elim, arith, rules}
use Rattle.std.specs.Char.{IsAsciiDigit, IsNotAsciiDigit}
use Rattle.std.specs.Str.Parse.{AllDigits, digits_value}
use Rattle.std.proofs.lemmas.Int.Digits.{digits_value_more, digits_more}
use Rattle.std.proofs.lemmas.List.{take_all}
use Rattle.std.proofs.lemmas.Str.Parse.{digit_at}
use Rattle.std.proofs.lemmas.Str.{digit_value_digit}
use Rattle.words.proofs.Spelled.{front_value, spelt, unspelt}
use Rattle.words.proofs.numbers.digits.Goals as goal

pub returns-then-not-is_ascii_digit : goal.returns-then-not-is_ascii_digit
returns-then-not-is_ascii_digit c =
    let bs = c.args.bytes.now in
    let i = c.loop-b.b-index in
    let no : IsNotAsciiDigit (get_or bs i 0) = search rules in
    sym (unspelt bs (λ some ds small. let d = digit_at bs i ds (omega arith) in ⊎_elim (λ l. omega arith) (λ l. omega arith) no))

pub returns-in_err-checked_mul : goal.returns-in_err-checked_mul
returns-in_err-checked_mul c =
    let i = c.loop-b.b-index in
    let w = c.args.bytes.now in
    let one = digits_value_more 10 w i (omega arith) in
    c.from_residual.ensures ∙ sym (unspelt w (λ some ds small.
    let part = front_value (i + 1) 0 w in
    c.in_err-checked_mul.ensures (omega arith)))

pub returns-in_err-n : goal.returns-in_err-n
returns-in_err-n c =
    let i = c.loop-b.b-index in
    let w = c.args.bytes.now in
    let one = digits_value_more 10 w i (omega arith) in
    let d : IsAsciiDigit (get_or w i 0) = search rules in
    let is = digit_value_digit (get_or w i 0) d in
    c.from_residual-in_err-n.ensures ∙ sym (unspelt w (λ some ds small.
    let part = front_value (i + 1) 0 w in
    c.in_err-n.ensures (omega (arith, c.in_ok-checked_mul.ensures))))

pub loop-b-preserved : goal.loop-b-preserved
loop-b-preserved c =
    let i = c.loop-b.b-index in
    let w = c.args.bytes.now in
    let one = digits_value_more 10 w i (omega arith) in
    let d : IsAsciiDigit (get_or w i 0) = search rules in
    let is = digit_value_digit (get_or w i 0) d in
    (digits_more 10 w i (omega arith) c.loop-b.invariant.0 (omega arith), omega (arith, c.in_ok-checked_mul.ensures, c.in_ok-n.ensures), omega (arith, c.in_ok-n.ensures))

pub returns : goal.returns
returns c =
    let w = c.args.bytes.now in
    let all = take_all c.loop-b.b-index w (omega arith) in
    let v : c.loop-b.n ≡ digits_value 10 w = c.loop-b.invariant.1 ∙ ap (digits_value 10) all in
    let some : 0 < length w = search rules in
    ap Some v ∙ sym (spelt w some (subst (AllDigits 10) all c.loop-b.invariant.0) (omega (arith, v)))
