-- The triples that a `Ten` holds.
use Rattle.std.specs.Prelude.{List, take}
use Rattle.triples.specs.declared.triple.Triple.{Triple}
use Rattle.triples.specs.declared.ten.Ten.{Ten}

abbrev pub held : Ten → List Triple
held x = take x.len x.triples
