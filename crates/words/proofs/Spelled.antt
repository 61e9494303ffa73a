-- What the canonical spelling of a number is like.
use Rattle.std.proofs.Common.{◌≡◌, ℕ, zero, suc, ◌+◌, ◌-◌, ◌*◌, ◌^◌, ◌<◌, ◌≤◌, true, ltb, ◌⊎◌, List, [], ◌∷◌, ◌++◌, length, get_or, take, drop, ℤ, pos, negsuc, Some, None, Option, decimal, sym, refl, ap, ◌∙◌, subst, inl, inr, ⊎_elim, arith, w64, SFits}
use Rattle.std.specs.Str.Parse.{AllDigits, digits_value, digits_value_after}
use Rattle.std.specs.Int.{IsInRange}
use Rattle.std.specs.Char.{digit_value}
use Rattle.std.specs.Str.{all_ascii_digits}
use Rattle.std.specs.Fmt.{signed_decimal}
use Rattle.std.specs.List.{between}
use Rattle.std.specs.Option.{MatchOption}
use Rattle.std.proofs.lemmas.Slice.{first_rest}
use Rattle.std.proofs.lemmas.Str.Parse.{IsNumeralModel, numerals_by_value, tells_digits, tells_all_ascii_digits, digit_at}
use Rattle.std.proofs.lemmas.Fmt.{decimal_nonempty, decimal_digit, first_decimal, digits_decimal, digits_value-decimal, decimal-digits_value}
use Rattle.std.proofs.lemmas.Bool.{cases_lt, ltb-true, lt-ltb, and_from, and_parts, cases_Bool, cond-true, cond-false}
use Rattle.std.proofs.lemmas.Option.{cond_some, none-some, same_Some}
use Rattle.std.proofs.lemmas.List.{length-append, get_or_at, get_or-append_right, take_at, take-append-drop, drop_more, drop_all}
use Rattle.words.specs.Numbers.{keyed, IsKey, Decimal, Spelt, is_numeral, numeral}

pub own : IsNumeralModel (AllDigits 10) (digits_value 10)
own = numerals_by_value (AllDigits 10) tells_digits

ascii : IsNumeralModel (λ ds. all_ascii_digits ds ≡ true) (digits_value 10)
ascii = numerals_by_value _ tells_all_ascii_digits

on : (n : ℕ) (ds : List ℕ) → n ≤ digits_value_after 10 n ds
on n [] = omega arith
on n (c ∷ cs) = omega (arith, on (n * 10 + digit_value c) cs)

pub front_value : (i n : ℕ) (ds : List ℕ) → digits_value_after 10 n (take i ds) ≤ digits_value_after 10 n ds
front_value zero n ds = on n ds
front_value (suc i) n [] = omega arith
front_value (suc i) n (c ∷ cs) = front_value i (n * 10 + digit_value c) cs

-- digits are a numeral exactly where their value fits
pub spelt : (w : List ℕ) → 0 < length w → AllDigits 10 w → digits_value 10 w < 2 ^ 64 → numeral w ≡ Some (digits_value 10 w)
spelt w some ds small =
    cond-true (is_numeral w) (Some (digits_value 10 w)) None (and_from _ _ (lt-ltb 0 (length w) some) (and_from _ _ (ascii.from w ds) (lt-ltb (digits_value 10 w) (2 ^ 64) small)))

pub unspelt : (w : List ℕ) → (0 < length w → AllDigits 10 w → digits_value 10 w < 2 ^ 64 → ⊥) → numeral w ≡ None
unspelt w never =
    ⊎_elim
    (λ t. let p = and_parts (ltb 0 (length w)) _ t in
    let q = and_parts (all_ascii_digits w) (ltb (digits_value 10 w) (2 ^ 64)) p.1 in
    absurd (never (ltb-true 0 (length w) p.0) (ascii.to w q.0) (ltb-true (digits_value 10 w) (2 ^ 64) q.1)))
    (λ f. cond-false (is_numeral w) (Some (digits_value 10 w)) None f)
    (cases_Bool (is_numeral w))

module _ (n : ℕ) (bs : List ℕ) (small : n < 2 ^ 64) (e : bs ≡ decimal n) where
  pub some : 0 < length bs
  some = rw e (decimal_nonempty n small)

  pub lead : get_or bs 0 0 ≡ 48 → length bs ≡ 1
  lead z = ⊎_elim
      (λ p. absurd (omega (arith, first_decimal n p small, ap (λ l. get_or l 0 0) e)))
      (λ q. ap length e ∙ ap length (decimal_digit n (omega arith)))
      (cases_lt 0 n)

  pub digit : (i : ℕ) → i < length bs → IsInRange 48 57 (get_or bs i 0)
  digit i l = digit_at bs i (subst (AllDigits 10) (sym e) (digits_decimal own n small)) l

  pub spells : numeral bs ≡ Some n
  spells =
      let v : digits_value 10 bs ≡ n = ap (digits_value 10) e ∙ digits_value-decimal own n small in
      spelt bs some (subst (AllDigits 10) (sym e) (digits_decimal own n small)) (omega arith) ∙ ap Some v

-- a numeral that begins with no needless zero is its number's spelling
pub spelling : (bs : List ℕ) (n : ℕ) → numeral bs ≡ Some n → (get_or bs 0 0 ≡ 48 → length bs ≤ 1) → bs ≡ decimal n
spelling bs n e one =
    let q = cond_some (is_numeral bs) (digits_value 10 bs) n e in
    let p = and_parts (ltb 0 (length bs)) _ q.0 in
    let d = and_parts (all_ascii_digits bs) (ltb (digits_value 10 bs) (2 ^ 64)) p.1 in
    let some = ltb-true 0 (length bs) p.0 in
    sym (decimal-digits_value own bs (ascii.to bs d.0) some (λ z. omega (arith, one z)) (ltb-true (digits_value 10 bs) (2 ^ 64) d.1)) ∙ ap decimal q.1

-- a numeral that begins with no needless zero, where it is within a bound
module _ (most : ℕ) (bs : List ℕ) (small : most < 2 ^ 64) (one : get_or bs 0 0 ≡ 48 → length bs ≤ 1) where
  pub bounded : (o r : Option ℕ) → o ≡ numeral bs → MatchOption o (r ≡ None) (λ x. (r ≡ Some x × x ≤ most) ⊎ (r ≡ None × most < x)) → Spelt (Decimal most) bs r
  bounded None r e m = subst (Spelt (Decimal most) bs) (sym m) (λ n h. none-some n (e ∙ spells n bs (omega arith) h.1))
  bounded (Some x) r e (inl m) = subst (Spelt (Decimal most) bs) (sym m.0) (m.1, spelling bs x (sym e) one)
  bounded (Some x) r e (inr m) = subst (Spelt (Decimal most) bs) (sym m.0) (λ n h. let q = same_Some x n (e ∙ spells n bs (omega arith) h.1) in omega arith)

-- a text that begins with a minus
module _ (bs : List ℕ) (more : 0 < length bs) (minus : get_or bs 0 0 ≡ 45) where
  pub negative : (z : ℤ) → SFits w64 z → bs ≡ signed_decimal z → (n : ℕ) × (0 < n) × (n ≤ 2 ^ 63) × (between 1 (length bs) bs ≡ decimal n)
  negative (pos n) f e = absurd (omega (arith, digit n bs (omega (arith, f.sfits)) e 0 more))
  negative (negsuc n) f e = (suc n, omega arith, omega (arith, f.sfits), ap (drop 1) (sym (first_rest bs 0 more) ∙ e))

-- a key: its digits, a point and one digit more
module _ (bs : List ℕ) (t p : ℕ) (k : IsKey t p) (e : bs ≡ keyed t p) where
  ends : bs ≡ decimal t ++ (46 ∷ (48 + p) ∷ [])
  ends = e ∙ ap (λ l. decimal t ++ (46 ∷ l)) (decimal_digit p k.1)

  pub long : length bs ≡ length (decimal t) + 2
  long = ap length ends ∙ length-append (decimal t) (46 ∷ (48 + p) ∷ [])

  pub point : get_or bs (length bs - 2) 0 ≡ 46
  point = ap (λ l. get_or l (length bs - 2) 0) ends ∙ get_or_at (decimal t) 46 _ 0 _ (omega (arith, long))

  pub digit_after : get_or bs (length bs - 1) 0 ≡ 48 + p
  digit_after =
      ap (λ l. get_or l (length bs - 1) 0) ends
      ∙ get_or-append_right (decimal t) _ (length (decimal t)) _ 0 refl (omega (arith, long))
      ∙ ap (λ i. get_or (46 ∷ (48 + p) ∷ []) i 0) (let is : length bs - 1 - length (decimal t) ≡ 1 = omega (arith, long) in is)

  pub digits_before : take (length bs - 2) bs ≡ decimal t
  digits_before = ap (λ l. take (length bs - 2) l) ends ∙ take_at (decimal t) _ _ (omega (arith, long))

pub spells_key : (bs : List ℕ) (t d : ℕ) → 2 ≤ length bs → get_or bs (length bs - 2) 0 ≡ 46 → get_or bs (length bs - 1) 0 ≡ d → IsInRange 48 57 d → take (length bs - 2) bs ≡ decimal t → bs ≡ keyed t (d - 48)
spells_key bs t d two dot last k e =
    let n = length bs - 2 in
    let next : n + 1 ≡ length bs - 1 = omega arith in
    let up : 48 + (d - 48) ≡ d = omega arith in
    sym (take-append-drop n bs)
    ∙ (λ i. e i ++ (drop_more bs n 0 (omega arith)
    ∙ (λ j. dot j ∷ (drop_more bs (n + 1) 0 (omega arith) ∙ (λ m. (ap (λ x. get_or bs x 0) next ∙ last ∙ sym up) m ∷ drop_all (n + 1 + 1) bs (omega arith) m)
    ∙ sym (decimal_digit (d - 48) (omega arith))) j)) i)
