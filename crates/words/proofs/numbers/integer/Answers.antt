-- Where no number stands behind the minus, or only a zero.
use Rattle.std.proofs.Common.{◌≤◌, sym, ◌∙◌, arith, rules}
use Rattle.std.proofs.lemmas.Fmt.{decimal_injective}
use Rattle.std.proofs.lemmas.Int.{ints}
use Rattle.words.proofs.Spelled.{negative}
use Rattle.words.proofs.numbers.integer.Goals as goal

pub returns-in_default-unsigned : goal.returns-in_default-unsigned
returns-in_default-unsigned c = λ z h.
    let m = negative c.args.bytes.now (search rules) (search rules) z h.0 h.1 in
    omega (arith, decimal_injective c.in-Some.n m.0 (omega arith) (omega arith) (sym c.in-Some.ensures.1 ∙ m.3))

pub returns-in_default-unsigned-2 : goal.returns-in_default-unsigned-2
returns-in_default-unsigned-2 c = λ z h.
    let m = negative c.args.bytes.now (search rules) (search rules) z h.0 h.1 in
    let most : m.0 ≤ c.unsigned_abs.result = omega (arith, ints, m.2) in
    c.in_default-unsigned.ensures m.0 (most, m.3)
