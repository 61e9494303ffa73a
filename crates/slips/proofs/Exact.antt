-- A text is read in one way at most: it has one list of entries, or one place where it fails.
use Rattle.std.proofs.Common.{◌≡◌, ℕ, suc, ◌<◌, cond, List, [], ◌∷◌, ◌++◌, length, get_or, take, drop, Ok, Err, decimal, Result, sym, refl, ap, ◌∙◌, subst, inl, inr, ⊎_elim, arith}
use Rattle.std.specs.List.{AllByRecursion}
use Rattle.std.proofs.lemmas.Fmt.{decimal_injective, signed_decimal_injective}
use Rattle.std.proofs.lemmas.List.{append-nil, append_assoc, append_cancel_left, length-append, length-take-le, take-take}
use Rattle.std.proofs.lemmas.Bool.{cases_Bool, cases_order}
use Rattle.words.specs.Numbers.{keyed, IsKey}
use Rattle.words.proofs.Spelled.{digits_before, digit_after}
use Rattle.slips.specs.Canon.{marked, headed, figures, spell, Ranged, InRange, spaced, line, render}
use Rattle.slips.specs.Reads.{ReadAs}
use Rattle.slips.specs.Wrong.{words, start, Begins, WrongWord, Wrong, Fails}
use Rattle.slips.specs.declared.entry.Action.{Action}
use Rattle.slips.specs.declared.entry.Action.TheVariants.{Show, Need, Change}
use Rattle.slips.specs.declared.entry.Entry.{Entry}
use Rattle.slips.proofs.Fitting.{same_head, begins_all, begins_take, line_words}

-- ---- words tell the entry

same_key : (k p l q : ℕ) → IsKey k p → IsKey l q → keyed k p ≡ keyed l q → (k ≡ l) × (p ≡ q)
same_key k p l q i j e = (
  decimal_injective k l (omega arith) (omega arith) (sym (digits_before (keyed k p) k p i refl) ∙ digits_before (keyed k p) l q j e),
  omega (arith, digit_after (keyed k p) k p i refl, digit_after (keyed k p) l q j e),
)

same_action : (a b : Action) → Ranged a → Ranged b → headed a ≡ headed b → figures a ≡ figures b → a ≡ b
same_action (Show n) (Show k) r s h e = ap Show (decimal_injective n k (omega arith) (omega arith) (ap (λ l. get_or l 0 []) e))
same_action (Show n) (Need k b) r s h e = let z : ◌≡◌ {A = ℕ} 0 1 = cc in absurd (omega arith)
same_action (Show n) (Change v z m) r s h e = let z : ◌≡◌ {A = ℕ} 0 1 = cc in absurd (omega arith)
same_action (Need n b) (Show k) r s h e = let z : ◌≡◌ {A = ℕ} 0 1 = cc in absurd (omega arith)
same_action (Need n b) (Need k c) r s h e =
    let p = decimal_injective n k (omega arith) (omega arith) (ap (λ l. get_or l 0 []) e) in
    let q = signed_decimal_injective b c (omega (arith, r.1.sfits)) (omega (arith, s.1.sfits)) (ap (λ l. get_or l 1 []) e) in
    λ i. Need (p i) (q i)
same_action (Need n b) (Change v z m) r s h e = let z : ◌≡◌ {A = ℕ} 0 1 = cc in absurd (omega arith)
same_action (Change v z m) (Show k) r s h e = let z : ◌≡◌ {A = ℕ} 0 1 = cc in absurd (omega arith)
same_action (Change v z m) (Need k b) r s h e = let z : ◌≡◌ {A = ℕ} 0 1 = cc in absurd (omega arith)
same_action (Change v z m) (Change u y l) r s h e =
    let p : v ≡ u = cc in
    let q = signed_decimal_injective z y (omega (arith, r.0.sfits)) (omega (arith, s.0.sfits)) (ap (λ l. get_or l 0 []) e) in
    let o : m ≡ l =
    ⊎_elim
    (λ on.
    let one : get_or (figures (Change v z m)) 1 [] ≡ decimal m = ap (λ b. get_or (cond b (decimal m ∷ []) []) 0 []) on in
    let two : get_or (figures (Change u y l)) 1 [] ≡ decimal l = ap (λ b. get_or (cond b (decimal l ∷ []) []) 0 []) (ap marked (sym p) ∙ on) in
    decimal_injective m l (omega (arith, r.1)) (omega (arith, s.1)) (sym one ∙ ap (λ l. get_or l 1 []) e ∙ two))
    (λ off. r.2 off ∙ sym (s.2 (ap marked (sym p) ∙ off)))
    (cases_Bool (marked v)) in
    λ i. Change (p i) (q i) (o i)

same_entry : (x y : Entry) → InRange x → InRange y → spell x ≡ spell y → x ≡ y
same_entry x y r s e =
    let k = same_key x.key x.part y.key y.part r.0 s.0 (ap (λ l. get_or l 1 []) e) in
    let h = same_head (headed x.action) (headed y.action) (ap (λ l. get_or l 0 []) e) in
    let a = same_action x.action y.action r.1 s.1 h (ap (drop 2) e) in
    λ i. record { key = k.0 i; part = k.1 i; action = a i }

-- ---- entries in front of a rest that begins with no entry

abbrev Stuck : List ℕ → Type 0
Stuck t = (y : Entry) (rest : List ℕ) → InRange y → t ≡ line y ++ rest → ⊥

same_front : (xs ys : List Entry) (r s : List ℕ) → AllByRecursion InRange xs → AllByRecursion InRange ys → Stuck r → Stuck s → render xs ++ r ≡ render ys ++ s → (xs ≡ ys) × (r ≡ s)
same_front [] [] r s i j v w e = (refl, e)
same_front [] (y ∷ ys) r s i j v w e = absurd (v y (render ys ++ s) j.0 (e ∙ append_assoc (line y) (render ys) s))
same_front (x ∷ xs) [] r s i j v w e = absurd (w x (render xs ++ r) i.0 (sym e ∙ append_assoc (line x) (render xs) r))
same_front (x ∷ xs) (y ∷ ys) r s i j v w e =
    let split : line x ++ (render xs ++ r) ≡ line y ++ (render ys ++ s) = sym (append_assoc (line x) (render xs) r) ∙ e ∙ append_assoc (line y) (render ys) s in
    let one : x ≡ y = same_entry x y i.0 j.0 (sym (line_words _ x (render xs ++ r) i.0 refl) ∙ line_words _ y (render ys ++ s) j.0 split) in
    let rest = append_cancel_left (line x) (render xs ++ r) (render ys ++ s) (split ∙ ap (λ z. line z ++ (render ys ++ s)) (sym one)) in
    let more = same_front xs ys r s i.1 j.1 v w rest in
    ((λ i. one i ∷ more.0 i), more.1)

stuck_end : Stuck []
stuck_end y rest r e = omega (arith, ap length e, length-append (line y) rest, length-append (spaced (spell y)) (10 ∷ []))

stuck_wrong : (t : List ℕ) (at : ℕ) → Wrong t at → Stuck t
stuck_wrong t at w y rest r e =
    let all = line_words t y rest r e in
    ⊎_elim
    (λ q. q.wrong (subst (λ l. Begins (take (suc q.number) l)) (sym all) (begins_take (suc q.number) (spell y) (begins_all y r) (omega (arith, q.within, ap length all)))))
    (λ q. q.wrong y rest r e)
    w

-- ---- an entry is wrong in one place

not_before : (t : List ℕ) (a b : ℕ) (p : WrongWord t a) (q : WrongWord t b) → p.number < q.number → ⊥
not_before t a b p q lt =
    let le = q.within in
    p.wrong (subst Begins (take-take (suc p.number) q.number (words t) (omega arith))
    (begins_take (suc p.number) (take q.number (words t)) q.right (omega (arith, length-take-le q.number (words t) (omega arith)))))

same_wrong : (t : List ℕ) (a b : ℕ) → Wrong t a → Wrong t b → a ≡ b
same_wrong t a b (inl p) (inl q) =
    ⊎_elim
    (λ e. p.place ∙ ap (λ n. start n (words t)) e ∙ sym q.place)
    (λ o. ⊎_elim (λ lt. absurd (not_before t a b p q lt)) (λ lt. absurd (not_before t b a q p lt)) o)
    (cases_order p.number q.number)
same_wrong t a b (inl p) (inr q) = absurd (p.wrong (begins_take (suc p.number) (words t) q.right p.within))
same_wrong t a b (inr p) (inl q) = absurd (q.wrong (begins_take (suc q.number) (words t) p.right q.within))
same_wrong t a b (inr p) (inr q) = p.place ∙ sym q.place

-- ---- the reader's answer is the only one

same_entries : (es fs : List Entry) → AllByRecursion InRange es → AllByRecursion InRange fs → render es ≡ render fs → es ≡ fs
same_entries es fs r s e = (same_front es fs [] [] r s stuck_end stuck_end (append-nil (render es) ∙ e ∙ sym (append-nil (render fs)))).0

fails_not : (text : List ℕ) (k b : ℕ) → Fails text k b → (es : List Entry) → AllByRecursion InRange es → text ≡ render es → ⊥
fails_not text k b f es r e =
    let none = (same_front f.before es f.rest [] f.ranged r (stuck_wrong _ _ f.wrong) stuck_end (sym f.split ∙ e ∙ sym (append-nil (render es)))).1 in
    omega (arith, ap length none, f.more)

same_fails : (text : List ℕ) (k b j c : ℕ) → Fails text k b → Fails text j c → (k ≡ j) × (b ≡ c)
same_fails text k b j c f g =
    let p = same_front f.before g.before f.rest g.rest f.ranged g.ranged (stuck_wrong _ _ f.wrong) (stuck_wrong _ _ g.wrong) (sym f.split ∙ g.split) in
    let at = same_wrong g.rest f.at g.at (subst (λ l. Wrong l f.at) p.1 f.wrong) g.wrong in
    (omega (arith, ap length p.0, f.count, g.count), omega (arith, ap (λ es. length (render es)) p.0, at, f.place, g.place))

not_both : (text : List ℕ) (es : List Entry) (c : List ℕ) → ReadAs text (Ok es) → ReadAs text (Err c) → ⊥
not_both text es c x (inl y) = y.0 x.0
not_both text es c x (inr y) = fails_not text _ _ y.1.2 es x.1 x.2

only_code : (text : List ℕ) (c d : List ℕ) → ReadAs text (Err c) → ReadAs text (Err d) → c ≡ d
only_code text c d (inl x) (inl y) = x.1 ∙ sym y.1
only_code text c d (inl x) (inr y) = absurd (x.0 y.0)
only_code text c d (inr x) (inl y) = absurd (y.0 x.0)
only_code text c d (inr x) (inr y) =
    let same = same_fails text _ _ _ _ x.1.2 y.1.2 in
    x.1.3 ∙ (λ i. 9 ∷ same.0 i ∷ same.1 i ∷ []) ∙ sym y.1.3

pub only_one : (text : List ℕ) (p q : Result (List Entry) (List ℕ)) → ReadAs text p → ReadAs text q → p ≡ q
only_one text (Ok es) (Ok fs) x y = ap Ok (same_entries es fs x.1 y.1 (sym x.2 ∙ y.2))
only_one text (Ok es) (Err c) x y = absurd (not_both text es c x y)
only_one text (Err c) (Ok es) x y = absurd (not_both text es c y x)
only_one text (Err c) (Err d) x y = ap Err (only_code text c d x y)
