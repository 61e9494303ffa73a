-- At each way out of `unsigned`: the number that the digits spell, or why they spell none.
use Rattle.std.proofs.Common.{◌≡◌, ◌≤◌, length, get_or, arith, rules}
use Rattle.words.proofs.Spelled.{lead, bounded}
use Rattle.words.proofs.numbers.unsigned.Goals as goal
use Rattle.words.proofs.numbers.unsigned.Goals.{in_default-via-then-bytes-lt2, in_default-via-else-bytes-lt2+in_default-1}

pub returns-in-48 : goal.returns-in-48
returns-in-48 c = λ n h. let l = lead n _ (omega arith) h.1 (search rules) in omega arith

pub returns-in_default : goal.returns-in_default
returns-in_default c =
    let bs = c.args.bytes.now in
    let one : get_or bs 0 0 ≡ 48 → length bs ≤ 1 = λ z. elim c.in_default.branch [ in_default-via-then-bytes-lt2 w ↦ search rules | in_default-via-else-bytes-lt2+in_default-1 w ↦ search rules ] in
    bounded c.args.most bs (omega arith) one c.digits.result c.filter.result c.digits.ensures (search rules)
