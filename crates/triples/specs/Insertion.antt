-- Two insertions by falling rank, in either order.
use Rattle.std.specs.Prelude.{◌≡◌, ℕ, zero, suc, List, [], ◌∷◌, take, refl}
use Rattle.std.specs.declared.cmp.Ordering.TheVariants.{Equal}
use Rattle.std.specs.declared.cmp.Ordering.{Ordering}
use Rattle.std.proofs.Common.{arith}
use Rattle.std.specs.Cmp.{IsTotalOrder}
use Rattle.std.proofs.lemmas.List.{take-take}
use Rattle.triples.specs.Falling.{inserted}

module _ {X : Type 0} (rank : X → X → Ordering) (better : X → X → X) where
  -- what is not kept does not come back
  pub keeps : (m : ℕ) (a : X) (l : List X) → take m (inserted rank better a (take m l)) ≡ take m (inserted rank better a l)
  keeps zero a l = refl
  keeps (suc m) a [] = refl
  keeps (suc m) a (x ∷ xs) =
      let ih = keeps m a xs in
      let fewer : take m (x ∷ take m xs) ≡ take m (x ∷ xs) = take-take m (suc m) (x ∷ xs) (omega arith) in
      grind (arith, take-take)

  module _ (o : IsTotalOrder rank)
      (better_alike : (x y z : X) → rank x y ≡ Equal → rank (better x y) z ≡ rank x z)
      (better_comm : (x y : X) → better x y ≡ better y x)
      (better_assoc : (x y z : X) → better (better x y) z ≡ better x (better y z))
    where
      abbrev ins : X → List X → List X
      ins = inserted rank better

      pub ins_comm : (a b : X) (l : List X) → ins a (ins b l) ≡ ins b (ins a l)
      ins_comm a b [] = grind (arith, o.antisymm, o.trans, o.congr, better_alike, better_comm)
      ins_comm a b (x ∷ xs) = let ih = ins_comm a b xs in grind (arith, o.antisymm, o.trans, o.congr, better_alike, better_comm, better_assoc)

      -- two of one rank count as the better
      pub ins_twice : (a b : X) (l : List X) → rank a b ≡ Equal → ins a (ins b l) ≡ ins (better a b) l
      ins_twice a b [] e = grind (arith, o.antisymm, o.congr, better_alike)
      ins_twice a b (x ∷ xs) e = let ih = ins_twice a b xs e in grind (arith, o.antisymm, o.trans, o.congr, better_alike, better_comm, better_assoc)
