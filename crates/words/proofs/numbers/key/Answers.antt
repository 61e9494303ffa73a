-- At each way out of `key`: the digits, the point and the part, or what is not there.
use Rattle.std.proofs.Common.{◌≡◌, ◌-◌, ◌≤◌, length, get_or, decimal, sym, ap, ◌∙◌, ⊎_elim, arith, rules}
use Rattle.std.specs.Char.{IsAsciiDigit, IsNotAsciiDigit}
use Rattle.words.proofs.Spelled.{long, point, digit_after, digits_before, spells_key}
use Rattle.words.proofs.numbers.key.Goals as goal

pub returns-in_default : goal.returns-in_default
returns-in_default c = λ k h.
    let l = long c.args.bytes.now k.0 k.1 h.0 h.1 in
    search rules

pub returns-in_default-2 : goal.returns-in_default-2
returns-in_default-2 c = λ k h.
    let l = point c.args.bytes.now k.0 k.1 h.0 h.1 in
    search rules

pub returns-then-not-is_ascii_digit : goal.returns-then-not-is_ascii_digit
returns-then-not-is_ascii_digit c = λ k h.
    let d = digit_after c.args.bytes.now k.0 k.1 h.0 h.1 in
    let no : IsNotAsciiDigit (get_or c.args.bytes.now (length c.args.bytes.now - 1) 0) = search rules in
    ⊎_elim (λ l. omega arith) (λ l. omega arith) no

pub returns-in_err-unsigned : goal.returns-in_err-unsigned
returns-in_err-unsigned c = rw c.from_residual.ensures (λ k h. c.in_err-unsigned.ensures k.0 (omega arith, digits_before c.args.bytes.now k.0 k.1 h.0 h.1))

pub returns : goal.returns
returns c =
    let bs = c.args.bytes.now in
    let two : 2 ≤ length bs = search rules in
    let dot : get_or bs (length bs - 2) 0 ≡ 46 = search rules in
    let part : IsAsciiDigit (get_or bs (length bs - 1) 0) = search rules in
    let same : c.in_ok-key.key ≡ c.in_ok-unsigned.field-0 = search rules in
    ((omega (arith, c.in_ok-unsigned.ensures), omega arith), spells_key bs c.in_ok-key.key _ two dot (λ _. get_or bs (length bs - 1) 0) part (c.in_ok-unsigned.ensures.1 ∙ ap decimal (sym same)))
