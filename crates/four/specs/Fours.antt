-- The four kinds side by side, and what they keep.
use Rattle.std.specs.Prelude.{ℕ}
use Rattle.kinds.specs.Model.{Model, Laws, Parts}
use Rattle.kinds.specs.Rules.{pair}
use Rattle.numbers.specs.Counts.{Amount, count_model}
use Rattle.numbers.specs.Leans.{Long, lean_model}
use Rattle.triples.specs.Lasts.{Latest, last_model}
use Rattle.triples.specs.Tens.{Tops, ten_model}

-- the model of `Four`
abbrev pub four_model : Model (Amount × (Long × (Latest × Tops)))
four_model = pair count_model (pair lean_model (pair last_model ten_model))

-- a kind has n parts, and keeps the laws
pub record Keeps {M : Type 0} (n : ℕ) (m : Model M) : Type 0 where
  pub parts : Parts n m
  pub laws : Laws m

-- each kind has one part, all together have four, and all keep the laws
pub record Sound : Type 0 where
  pub count : Keeps 1 count_model
  pub lean : Keeps 1 lean_model
  pub last : Keeps 1 last_model
  pub ten : Keeps 1 ten_model
  pub four : Keeps 4 four_model
