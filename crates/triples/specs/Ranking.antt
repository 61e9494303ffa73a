-- What a rank, and a choice of the better of two, have to keep.
use Rattle.std.specs.Prelude.{◌≡◌, T, ◌⊎◌, refl}
use Rattle.std.specs.declared.cmp.Ordering.TheVariants.{Less, Equal, Greater}
use Rattle.std.specs.declared.cmp.Ordering.{Ordering}
use Rattle.std.proofs.Common.{◌∙◌}
use Rattle.std.specs.Cmp.{IsTotalOrder}
use Rattle.std.specs.Ordering.{ordering_reverse, is_gt}

pub record Ranking {X : Type 0} (rank : X → X → Ordering) (better : X → X → X) : Type 0 where
  pub total : IsTotalOrder rank
  pub better_alike : (x y z : X) → rank x y ≡ Equal → rank (better x y) z ≡ rank x z
  pub better_comm : (x y : X) → better x y ≡ better y x
  pub better_assoc : (x y z : X) → better (better x y) z ≡ better x (better y z)
  pub better_same : (x : X) → better x x ≡ x
  pub either : (x y : X) → (better x y ≡ x) ⊎ (better x y ≡ y)

module _ {X : Type 0} {rank : X → X → Ordering} {better : X → X → X} (rk : Ranking rank better) where
  is_less : (r : Ordering) → T (is_gt r) → ordering_reverse r ≡ Less
  is_less Less t = absurd t
  is_less Equal t = absurd t
  is_less Greater t = refl

  pub less : (y z : X) → T (is_gt (rank y z)) → rank z y ≡ Less
  less y z t = rk.total.antisymm z y ∙ is_less (rank y z) t
