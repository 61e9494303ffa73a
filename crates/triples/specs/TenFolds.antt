-- A fold of tops, as its triples see it.
use Rattle.std.specs.Prelude.{◌≡◌, List, [], ◌∷◌, fold, refl}
use Rattle.triples.specs.declared.triple.Triple.{Triple}
use Rattle.triples.specs.Tens.{Tops, topped, top}

pub folded_triples : (es : List Triple) (x : Tops) → (fold top x es).triples ≡ fold topped x.triples es
folded_triples [] x = refl
folded_triples (e ∷ es) x = folded_triples es (top x e)
