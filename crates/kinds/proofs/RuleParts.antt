-- The parts of a kind with one part, and of a pair.
use Rattle.std.proofs.Common.{◌≡◌, ℕ, suc, ◌-◌, ◌<◌, ◌≤◌, true, false, cond, eqb, ltb, ℤ, arith}
use Rattle.std.proofs.lemmas.Bool.{and_from, and_left, eq-eqb, ne_eqb, eqb-true, eqb-false, lt-ltb, cond_both}
use Rattle.kinds.specs.declared.operation.Verb.{Verb}
use Rattle.kinds.specs.Model.{Rule, Model, Parts}
use Rattle.kinds.specs.Rules.{single, on_first, on_second, pair}

other : (p : ℕ) → 1 ≤ p → eqb p 0 ≡ false
other p h = ne_eqb p 0 (λ e. omega arith)

pub single_parts : {M : Type 0} (rules : Verb → Rule M) (n : ℕ) (show : ℕ → M → ℤ) → 0 < n → Parts 1 (single rules n show)
single_parts rules n show some = record {
  here = λ p h. and_from (eqb p 0) (ltb 0 n) (eq-eqb p 0 (omega arith)) (lt-ltb 0 n some);
  untaken = λ p v a h. and_left (eqb p 0) ((rules v).takes a) (other p h);
  unsplit = λ p v h. and_left (eqb p 0) (rules v).splits (other p h);
  unshown = λ p k h. and_left (eqb p 0) (ltb k n) (other p h);
}

-- what holds of every part of the second holds of the pair's parts above 0
later : {X : Type 0} (P : X → Type 0) (p : ℕ) (x y : X) → 0 < p → P y → P (cond (eqb p 0) x y)
later P p x y h q = cond_both (eqb p 0) x y P (λ e. absurd (omega (arith, eqb-true p 0 e))) (λ _. q)

pub pair_parts : {M N : Type 0} {first : Model M} {second : Model N} (m n : ℕ) → Parts (suc m) first → Parts n second → Parts (suc n) (pair first second)
pair_parts {first} {second} m n f s = record {
  here = λ p h. cond_both (eqb p 0) (first.shows 0 0) (second.shows (p - 1) 0) (λ b. b ≡ true) (λ _. f.here 0 (omega arith)) (λ e. s.here (p - 1) (omega (arith, eqb-false p 0 e)));
  untaken = λ p v a h. later (λ r. r.takes a ≡ false) p (on_first (first.rule 0 v)) (on_second (second.rule (p - 1) v)) (omega arith) (s.untaken (p - 1) v a (omega arith));
  unsplit = λ p v h. later (λ r. r.splits ≡ false) p (on_first (first.rule 0 v)) (on_second (second.rule (p - 1) v)) (omega arith) (s.unsplit (p - 1) v (omega arith));
  unshown = λ p k h. later (λ b. b ≡ false) p (first.shows 0 k) (second.shows (p - 1) k) (omega arith) (s.unshown (p - 1) k (omega arith));
}
