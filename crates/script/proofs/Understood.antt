-- Every request that is written in the plain way is understood as itself.
use Rattle.std.proofs.Common.{◌≡◌, ℕ, ◌^◌, ◌<◌, List, [], ◌∷◌, ◌++◌, Some, decimal, sym, ap, ◌∙◌, arith}
use Rattle.std.specs.Str.Parse.{AllDigits}
use Rattle.std.specs.Int.{IsInRange}
use Rattle.std.specs.List.{AllByRecursion}
use Rattle.std.proofs.lemmas.Fmt.{decimal_is_IsNumeral}
use Rattle.std.proofs.lemmas.Grind.{common_steps}
use Rattle.std.proofs.lemmas.List.{append_assoc}
use Rattle.std.proofs.lemmas.Str.Parse.{digit_from_value}
use Rattle.words.specs.Numbers.{numeral}
use Rattle.script.specs.Cuts.{front, behind}
use Rattle.script.specs.Commands.{opens, runs, shows, kind_text, leads, keyed, opening, running, showing, PlainlyUnderstood}
use Rattle.script.specs.declared.commands.KindName.{KindName}
use Rattle.words.proofs.Spelled.{spelt}
use Rattle.script.proofs.Names.{kind_back}

-- a word without a byte, in front of that byte
module _ (b : ℕ) where
  abbrev Free : List ℕ → Type 0
  Free w = AllByRecursion (λ c. c ≡ b → ⊥) w

  digits_free : (IsInRange 48 57 b → ⊥) → (ds : List ℕ) → AllDigits 10 ds → Free ds
  digits_free none [] d = tt
  digits_free none (c ∷ cs) d = grind (arith, common_steps, digit_from_value c d.0, digits_free none cs d.1)

  free_append : (v w : List ℕ) → Free v → Free w → Free (v ++ w)
  free_append [] w f g = g
  free_append (c ∷ cs) w f g = (f.0, free_append cs w f.1 g)

  front_free : (w rest : List ℕ) → Free w → front b (w ++ (b ∷ rest)) ≡ w
  front_free [] rest f = grind (arith, common_steps)
  front_free (c ∷ cs) rest f = grind (arith, common_steps, front_free cs rest f.1)

  behind_free : (w rest : List ℕ) → Free w → behind b (w ++ (b ∷ rest)) ≡ Some rest
  behind_free [] rest f = grind (arith, common_steps)
  behind_free (c ∷ cs) rest f = grind (arith, common_steps, behind_free cs rest f.1)

-- a number in the plain way, which neither a space nor a point is among
module _ (n : ℕ) (small : n < 2 ^ 64) where
  spells : numeral (decimal n) ≡ Some n
  spells =
      let r = decimal_is_IsNumeral n small in
      let v = r.1 in
      spelt (decimal n) r.0.0 r.0.1 (omega (arith, v)) ∙ ap Some v

  no_space : Free 32 (decimal n)
  no_space = digits_free 32 (λ h. omega (arith, h)) (decimal n) (decimal_is_IsNumeral n small).0.1

  no_point : Free 46 (decimal n)
  no_point = digits_free 46 (λ h. omega (arith, h)) (decimal n) (decimal_is_IsNumeral n small).0.1

led : (n : ℕ) (rest : List ℕ) → n < 2 ^ 64 → leads (decimal n ++ (32 ∷ rest)) ≡ Some (n, rest)
led n rest small = simp (front_free 32 (decimal n) rest (no_space n small), behind_free 32 (decimal n) rest (no_space n small), spells n small)

opened : (w k f : ℕ) (kind : KindName) → w < 2 ^ 64 → k < 2 ^ 64 → f < 2 ^ 64 → opening (decimal w ++ (32 ∷ (decimal k ++ (32 ∷ (decimal f ++ (32 ∷ kind_text kind)))))) ≡ Some (opens w k f kind)
opened w k f kind sw sk sf =
    simp (led w (decimal k ++ (32 ∷ (decimal f ++ (32 ∷ kind_text kind)))) sw, led k (decimal f ++ (32 ∷ kind_text kind)) sk, led f (kind_text kind) sf, kind_back kind)

ran : (w : ℕ) (text : List ℕ) → w < 2 ^ 64 → running (decimal w ++ (32 ∷ text)) ≡ Some (runs w text)
ran w text small = simp (front_free 32 (decimal w) text (no_space w small), behind_free 32 (decimal w) text (no_space w small), spells w small)

-- a key and a part, as one word
module _ (k p : ℕ) (sk : k < 2 ^ 64) (sp : p < 2 ^ 64) where
  abbrev place : List ℕ
  place = decimal k ++ (46 ∷ decimal p)

  keyed_back : keyed place ≡ Some (k, p)
  keyed_back = simp (front_free 46 (decimal k) (decimal p) (no_point k sk), behind_free 46 (decimal k) (decimal p) (no_point k sk), spells k sk, spells p sp)

  place_free : Free 32 place
  place_free = free_append 32 (decimal k) (46 ∷ decimal p) (no_space k sk) ((λ e. omega (arith, e)), no_space p sp)

  shown : (n : ℕ) → n < 2 ^ 64 → showing (decimal k ++ (46 ∷ (decimal p ++ (32 ∷ decimal n)))) ≡ Some (shows k p n)
  shown n sn =
      ap showing (sym (append_assoc (decimal k) (46 ∷ decimal p) (32 ∷ decimal n)))
      ∙ simp (front_free 32 place (decimal n) place_free, behind_free 32 place (decimal n) place_free, keyed_back, spells n sn)

pub understood : PlainlyUnderstood
understood (opens w k f kind) fit = opened w k f kind fit.0 fit.1 fit.2
understood (runs w text) fit = ran w text fit
understood (shows k p n) fit = shown k p fit.0 fit.1 n fit.2
