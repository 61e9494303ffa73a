-- A number with what stands behind it, as the code holds the two.
use Rattle.std.specs.Prelude.{ℕ, List}
use Rattle.std.specs.Borrow.{Bor}

abbrev pub led : ℕ × Bor (List ℕ) → ℕ × List ℕ
led p = (p.0, p.1.now)
