-- The laws of the ten triples of the highest orders.
use Rattle.std.specs.Prelude.{refl}
use Rattle.std.proofs.Common.{sym, ap, ◌∙◌}
use Rattle.std.proofs.lemmas.List.{take_all}
use Rattle.kinds.specs.declared.operation.Verb.{Verb}
use Rattle.kinds.specs.declared.operation.Verb.TheVariants.{Put, Add, Max, Min, Last, Top}
use Rattle.triples.specs.Triples.{triple_of}
use Rattle.kinds.specs.Model.{Lawful, Laws}
use Rattle.triples.specs.Tens.{tops_is, topped, top, rules, ten_model}
use Rattle.triples.specs.TripleOrder.{triple_ranking}
use Rattle.triples.specs.Merging.{top_comm, top_merge}
use Rattle.kinds.specs.RuleLaws.{refused_lawful, single_laws}
use Rattle.triples.specs.TenFolds.{folded_triples}

top_lawful : Lawful (rules Top)
top_lawful = record {
  neutral = λ w x s. refl;
  passes = λ a w x s t. tops_is (
      folded_triples (top w (triple_of a)).triples x
      ∙ top_merge triple_ranking 10 (triple_of a) w.triples x.triples w.falls (take_all 10 x.triples x.few)
      ∙ ap (λ l. topped l (triple_of a)) (sym (folded_triples w.triples x)));
  commutes = λ a b x s t u. tops_is (top_comm triple_ranking 10 (triple_of a) (triple_of b) x.triples);
}

pub lawful : (v : Verb) → Lawful (rules v)
lawful Put = refused_lawful
lawful Add = refused_lawful
lawful Max = refused_lawful
lawful Min = refused_lawful
lawful Last = refused_lawful
lawful Top = top_lawful

pub ten_laws : Laws ten_model
ten_laws = single_laws rules _ _ lawful
