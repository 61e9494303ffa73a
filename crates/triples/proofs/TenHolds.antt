-- The ten triples that are held are the best of what has been seen, and no other list is.
use Rattle.std.proofs.Common.{◌≡◌, List, [], ◌∷◌, ◌++◌, fold, refl, sym, subst}
use Rattle.triples.specs.declared.triple.Triple.{Triple}
use Rattle.triples.specs.Best.{BestTen, Holds}
use Rattle.triples.specs.Tens.{topped}
use Rattle.triples.proofs.BestKept.{best_none, best_more, best_merged}
use Rattle.triples.proofs.BestOne.{best_one}
use Rattle.triples.specs.TripleOrder.{triple_ranking}

holds : (seen held l : List Triple) → l ≡ held → BestTen seen held → Holds seen l
holds seen held l e b =
    let best = subst (BestTen seen) (sym e) b in
    record { best = best; only = λ k c. best_one triple_ranking 10 seen k l c best }

pub holds_none : Holds [] []
holds_none = holds [] [] [] refl (best_none triple_ranking 10)

pub holds_more : (seen held l : List Triple) (a : Triple) → l ≡ topped held a → Holds seen held → Holds (a ∷ seen) l
holds_more seen held l a e h = holds (a ∷ seen) (topped held a) l e (best_more triple_ranking 10 a seen held h.best)

pub holds_merged : (seen held aside shard l : List Triple) → l ≡ fold topped held shard → Holds seen held → Holds aside shard → Holds (aside ++ seen) l
holds_merged seen held aside shard l e h g = holds (aside ++ seen) (fold topped held shard) l e (best_merged triple_ranking 10 seen held aside shard h.best g.best)
