-- The laws of rules, and of kinds made of them.
use Rattle.std.specs.Prelude.{◌≡◌, ℕ, ◌-◌, Bool, true, false, T, ℤ, ◌==◌}
use Rattle.std.proofs.Common.{sym, ap, ◌∙◌}
use Rattle.std.proofs.lemmas.Bool.{cond_both}
use Rattle.kinds.specs.declared.operation.Verb.{Verb}
use Rattle.kinds.specs.declared.operation.Argument.{Argument}
use Rattle.kinds.specs.Model.{Rule, Lawful, Model, Laws}
use Rattle.kinds.specs.Rules.{refused, puts, joins, when, single, on_first, on_second, pair}

-- what a join has to be
pub record Join {M : Type 0} (op : M → M → M) (none : M) : Type 0 where
  pub unit : (x : M) → op x none ≡ x
  pub comm : (x y : M) → op x y ≡ op y x
  pub assoc : (x y z : M) → op (op x y) z ≡ op x (op y z)

unsplit_lawful : {M : Type 0} (r : Rule M) → (T r.splits → ⊥) → Lawful r
unsplit_lawful r no_split = record {
  neutral = λ w x s. absurd (no_split s);
  passes = λ a w x s t. absurd (no_split s);
  commutes = λ a b x s t u. absurd (no_split s);
}

pub refused_lawful : {M : Type 0} → Lawful (refused {M = M})
refused_lawful = unsplit_lawful refused (λ s. s)

pub puts_lawful : {M : Type 0} (takes : Argument → Bool) (of : Argument → M) → Lawful (puts takes of)
puts_lawful takes of = unsplit_lawful (puts takes of) (λ s. s)

pub joins_lawful : {M : Type 0} (takes : Argument → Bool) (of : Argument → M) {op : M → M → M} {none : M} → Join op none → Lawful (joins takes of op none)
joins_lawful takes of {op} j = record {
  neutral = λ w x s. j.unit x;
  passes = λ a w x s t. sym (j.assoc x w (of a));
  commutes = λ a b x s t u. j.assoc x (of b) (of a) ∙ ap (op x) (j.comm (of b) (of a)) ∙ sym (j.assoc x (of a) (of b));
}

when_lawful : {M : Type 0} (there : Bool) {r : Rule M} → Lawful r → Lawful (when there r)
when_lawful true l = record { neutral = l.neutral; passes = l.passes; commutes = l.commutes }
when_lawful false {r} l = unsplit_lawful (when false r) (λ s. s)

pub single_laws : {M : Type 0} (rules : Verb → Rule M) (n : ℕ) (show : ℕ → M → ℤ) → ((v : Verb) → Lawful (rules v)) → Laws (single rules n show)
single_laws rules n show l = record { lawful = λ p v. when_lawful (p == 0) (l v) }

on_first_lawful : {M N : Type 0} {r : Rule M} → Lawful r → Lawful (on_first {N = N} r)
on_first_lawful l = record {
  neutral = λ w x s i. (l.neutral w.0 x.0 s i, x.1);
  passes = λ a w x s t i. (l.passes a w.0 x.0 s t i, x.1);
  commutes = λ a b x s t u i. (l.commutes a b x.0 s t u i, x.1);
}

on_second_lawful : {M N : Type 0} {r : Rule N} → Lawful r → Lawful (on_second {M = M} r)
on_second_lawful l = record {
  neutral = λ w x s i. (x.0, l.neutral w.1 x.1 s i);
  passes = λ a w x s t i. (x.0, l.passes a w.1 x.1 s t i);
  commutes = λ a b x s t u i. (x.0, l.commutes a b x.1 s t u i);
}

pub pair_laws : {M N : Type 0} {first : Model M} {second : Model N} → Laws first → Laws second → Laws (pair first second)
pair_laws f s = record {
  lawful = λ p v. cond_both (p == 0) _ _ Lawful (λ _. on_first_lawful (f.lawful 0 v)) (λ _. on_second_lawful (s.lawful (p - 1) v));
}
