-- The greater of two values, by a test that ranks them, joins them.
use Rattle.std.specs.Prelude.{◌≡◌, Bool, true, false, cond, refl}
use Rattle.std.proofs.Common.{sym, ◌∙◌}
use Rattle.std.specs.Cmp.{IsStrictWeakOrder}
use Rattle.std.proofs.lemmas.Bool.{both_ways, cond-true, cond-false}
use Rattle.triples.specs.Triples.{greater}
use Rattle.kinds.specs.RuleLaws.{Join}

module _ {X : Type 0} {lt : X → X → Bool} (ranks : IsStrictWeakOrder lt) (level : (x y : X) → lt x y ≡ false → lt y x ≡ false → x ≡ y) where
  comm : (x y : X) (a b : Bool) → lt x y ≡ a → lt y x ≡ b → cond a y x ≡ cond b x y
  comm x y true true p q = absurd (both_ways (lt y x) (ranks.one_way x y p) q)
  comm x y true false p q = refl
  comm x y false true p q = refl
  comm x y false false p q = level x y p q

  between : (x y z : X) (c : Bool) → lt x z ≡ c → lt x y ≡ true → lt y z ≡ true → lt x z ≡ true
  between x y z true r p q = r
  between x y z false r p q = absurd (both_ways (lt x y) (ranks.chain x z y r (ranks.one_way y z q)) p)

  assoc : (x y z : X) (a b : Bool) → lt x y ≡ a → lt y z ≡ b → greater lt (cond a y x) z ≡ greater lt x (cond b z y)
  assoc x y z true true p q = cond-true (lt y z) z y q ∙ sym (cond-true (lt x z) z x (between x y z (lt x z) refl p q))
  assoc x y z true false p q = cond-false (lt y z) z y q ∙ sym (cond-true (lt x y) y x p)
  assoc x y z false true p q = refl
  assoc x y z false false p q = cond-false (lt x z) z x (ranks.chain x y z p q) ∙ sym (cond-false (lt x y) y x p)

  pub greater_comm : (x y : X) → greater lt x y ≡ greater lt y x
  greater_comm x y = comm x y (lt x y) (lt y x) refl refl

  pub greater_assoc : (x y z : X) → greater lt (greater lt x y) z ≡ greater lt x (greater lt y z)
  greater_assoc x y z = assoc x y z (lt x y) (lt y z) refl refl

  pub greater_join : (least : X) → ((x : X) → lt x least ≡ false) → Join (greater lt) least
  greater_join least lowest = record {
    unit = λ x. cond-false (lt x least) least x (lowest x);
    comm = greater_comm;
    assoc = greater_assoc;
  }
