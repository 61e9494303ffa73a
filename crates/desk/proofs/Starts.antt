-- Engines whose values are at their start.
use Rattle.std.proofs.Common.{◌≡◌, ℕ, true, [], pos, None, Ok, sym, ap, ◌∙◌}
use Rattle.numbers.specs.Counts.{Amount, amount_is, nothing}
use Rattle.numbers.specs.Leans.{long_is}
use Rattle.triples.specs.Tens.{tops_is}
use Rattle.script.specs.declared.commands.KindName.{KindName}
use Rattle.script.specs.declared.commands.KindName.TheVariants.{Count, Four}
use Rattle.solo.specs.Rules.{State, opening}
use Rattle.desk.specs.Engines.{Quad, counts, fours, quad_start, opened_with, opened_as}

module _ (w k f : ℕ) (kind : KindName) where
  pub opened_count : (s : State Amount) (m : Amount) → kind ≡ Count → m.value ≡ 0 → Ok s ≡ opening w k f m true → Ok (counts s) ≡ opened_as w k f kind true
  opened_count s m is zero h =
      ap (opened_with counts) (h ∙ ap (λ (a : Amount). opening w k f a true) (amount_is {x = m} {y = nothing} zero))
      ∙ ap (λ (n : KindName). opened_as w k f n true) (sym is)

  pub opened_four : (s : State Quad) (m : Quad) → kind ≡ Four → m.0.value ≡ 0 → m.1.0.value ≡ pos 0 → m.1.1.0 ≡ None → m.1.1.1.triples ≡ [] → Ok s ≡ opening w k f m true → Ok (fours s) ≡ opened_as w k f kind true
  opened_four s m is count lean last ten h =
      ap (opened_with fours) (h ∙ ap (λ (a : Quad). opening w k f a true) start)
      ∙ ap (λ (n : KindName). opened_as w k f n true) (sym is)
    where
      start : m ≡ quad_start
      start = λ i. (amount_is {x = m.0} {y = quad_start.0} count i, (long_is {x = m.1.0} {y = quad_start.1.0} lean i, (last i, tops_is {x = m.1.1.1} {y = quad_start.1.1.1} ten i)))
