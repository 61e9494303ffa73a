-- A text cut at the place where a byte first stands.
use Rattle.std.proofs.Common.{◌≡◌, ℕ, ◌+◌, ◌<◌, ◌≤◌, ◌==◌, not, List, [], ◌∷◌, length, take, drop, Some, None, arith}
use Rattle.std.specs.List.{position_or_len}
use Rattle.std.proofs.lemmas.Grind.{common_steps}
use Rattle.std.proofs.lemmas.List.Sums.{take_while-cons}
use Rattle.script.specs.Cuts.{front, behind}

pub front_is : (b : ℕ) (text : List ℕ) → front b text ≡ take (position_or_len (λ c. c == b) text) text
front_is b [] = grind (arith, common_steps)
front_is b (c ∷ cs) = grind (arith, common_steps, front_is b cs, take_while-cons (λ d. not (d == b)) c cs)

pub behind_some : (b : ℕ) (text : List ℕ) → position_or_len (λ c. c == b) text < length text → behind b text ≡ Some (drop (position_or_len (λ c. c == b) text + 1) text)
behind_some b [] h = grind (arith, common_steps)
behind_some b (c ∷ cs) h = grind (arith, common_steps, behind_some b cs)

pub behind_none : (b : ℕ) (text : List ℕ) → length text ≤ position_or_len (λ c. c == b) text → behind b text ≡ None
behind_none b [] h = grind (arith, common_steps)
behind_none b (c ∷ cs) h = grind (arith, common_steps, behind_none b cs)

pub ruleset cuts = (common_steps, front_is, behind_some, behind_none)
