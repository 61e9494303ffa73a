-- One value for each number of the range, and the same each time.
use Rattle.std.proofs.Common.{◌≡◌, ℕ, zero, suc, ◌+◌, ◌∷◌, map, replicate, refl, ap, arith, rules}
use Rattle.std.proofs.lemmas.Iterator.{YieldsList-from_range, YieldsList-from_map_by}
use Rattle.std.proofs.lemmas.Iterator.Consumers.{map_from_collect}
use Rattle.std.specs.List.{range_with_len}
use Rattle.solo.proofs.solo.fill.Goals as goal

-- the same value for each number
same_for_all : {X : Type 0} (x : X) (a n : ℕ) → map (λ _. x) (range_with_len a n) ≡ replicate n x
same_for_all x a zero = refl
same_for_all x a (suc n) = ap (λ ys. x ∷ ys) (same_for_all x (a + 1) n)

pub returns : goal.returns
returns g c =
    let x = g.K.Kind.meaning c.args.start in
    let source = YieldsList-from_range 0 c.args.keys c.args.keys c.map.ensures.source (omega arith) in
    rw (← same_for_all x 0 c.args.keys)
    (map_from_collect _ c.collect.ensures.ran (YieldsList-from_map_by _ g.K.Kind.meaning (λ _. x) source c.map.ensures.closure (λ n r q k. search rules)))
