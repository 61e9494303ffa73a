-- Entries and the forms of their words.
use Rattle.std.proofs.Common.{◌≡◌, ℕ, zero, suc, ◌^◌, ◌<◌, ◌≤◌, true, false, cond, eqb, List, [], ◌∷◌, ◌++◌, length, get_or, take, ℤ, pos, negsuc, decimal, sym, refl, ap, ◌∙◌, subst, inr, arith, w64, SFits, rules}
use Rattle.std.specs.Str.Parse.{AllDigits}
use Rattle.std.specs.Fmt.{signed_decimal}
use Rattle.std.specs.List.{AllByRecursion}
use Rattle.std.proofs.lemmas.Fmt.{decimal_nonempty, digits_decimal}
use Rattle.std.proofs.ByRecursion.{All-append, All-weaker}
use Rattle.std.proofs.lemmas.List.{append-nil, append_assoc, length-append, length-take-le, take_all, take-take}
use Rattle.std.proofs.lemmas.Str.Parse.{digit_from_value}
use Rattle.words.specs.Numbers.{keyed, IsKey}
use Rattle.words.specs.Words.{Plain}
use Rattle.words.proofs.Spelled.{own}
use Rattle.kinds.specs.declared.operation.Verb.TheVariants.{Put, Add, Max, Min, Last, Top}
use Rattle.slips.specs.Canon.{marked, heading, headed, figures, spell, Ranged, InRange, spaced, line}
use Rattle.slips.specs.Forms.{Form, verb, key, shown, number, mark, HasForm, tail, forms, HaveForms}
use Rattle.slips.specs.Wrong.{words, Begins}
use Rattle.slips.specs.declared.entry.Action.{Action}
use Rattle.slips.specs.declared.entry.Entry.{Entry}
use Rattle.slips.specs.declared.line.Head.{Head}
use Rattle.slips.specs.declared.line.Head.TheVariants.{Show, Need, Change}
use Rattle.slips.proofs.Words.{words_spaced}

-- ---- a word that has a form has bytes, and no space or ending byte among them

abbrev pub Good : List ℕ → Type 0
Good w = (0 < length w) × Plain w

good_heading : (h : Head) → Good (heading h)
good_heading Show = search rules
good_heading Need = search rules
good_heading (Change v) = elim v as (λ v. Good (heading (Change v))) [ Put ↦ search rules | Add ↦ search rules | Max ↦ search rules | Min ↦ search rules | Last ↦ search rules | Top ↦ search rules ]

plain_digits : (ds : List ℕ) → AllDigits 10 ds → Plain ds
plain_digits [] d = tt
plain_digits (c ∷ cs) d = let k = digit_from_value c d.0 in (((λ e. omega arith), (λ e. omega arith)), plain_digits cs d.1)

good_decimal : (n : ℕ) → n < 2 ^ 64 → Good (decimal n)
good_decimal n small = (decimal_nonempty n small, plain_digits (decimal n) (digits_decimal own n small))

good_signed : (z : ℤ) → SFits w64 z → Good (signed_decimal z)
good_signed (pos n) f = good_decimal n (omega (arith, f.sfits))
good_signed (negsuc n) f = (omega arith, (((λ e. omega arith), (λ e. omega arith)), (good_decimal (suc n) (omega (arith, f.sfits))).1))

good_keyed : (k p : ℕ) → IsKey k p → Good (keyed k p)
good_keyed k p is = (omega (arith, length-append (decimal k) (46 ∷ decimal p)), All-append _ (decimal k) (46 ∷ decimal p) (good_decimal k (omega arith)).1 (((λ e. omega arith), (λ e. omega arith)), (good_decimal p (omega arith)).1))

good_form : (f : Form) (w : List ℕ) → HasForm f w → Good w
good_form (verb h) w is = subst Good (sym is) (good_heading h)
good_form key w is = subst Good (sym is.1.1) (good_keyed is.0.0 is.0.1 is.1.0)
good_form shown w is = subst Good (sym is.1.1) (good_decimal is.0 (omega (arith, is.1.0)))
good_form number w is = subst Good (sym is.1.1) (good_signed is.0 is.1.0)
good_form mark w is = subst Good (sym is.1.1) (good_decimal is.0 (omega (arith, is.1.0)))

pub good_forms : (fs : List Form) (ws : List (List ℕ)) → HaveForms fs ws → AllByRecursion Good ws
good_forms fs [] h = tt
good_forms [] (w ∷ ws) h = absurd h
good_forms (f ∷ fs) (w ∷ ws) h = (good_form f w h.0, good_forms fs ws h.1)

-- ---- fewer words than forms

pub forms_take : (n : ℕ) (fs : List Form) (ws : List (List ℕ)) → HaveForms fs ws → HaveForms fs (take n ws)
forms_take zero fs ws h = tt
forms_take (suc n) fs [] h = tt
forms_take (suc n) [] (w ∷ ws) h = h
forms_take (suc n) (f ∷ fs) (w ∷ ws) h = (h.0, forms_take n fs ws h.1)

pub forms_long : (fs : List Form) (ws : List (List ℕ)) → HaveForms fs ws → length ws ≤ length fs
forms_long fs [] h = omega arith
forms_long [] (w ∷ ws) h = absurd h
forms_long (f ∷ fs) (w ∷ ws) h = omega (arith, forms_long fs ws h.1)

-- ---- the words of an entry have the forms that its head asks for

pub figures_forms : (a : Action) → Ranged a → HaveForms (tail (headed a)) (figures a)
figures_forms (Action.Show n) r = ((n, (omega arith, refl)), tt)
figures_forms (Action.Need n b) r = ((n, (omega arith, refl)), ((b, (r.1, refl)), tt))
figures_forms (Action.Change v z m) r = ((z, (r.0, refl)), elim (marked v) as (λ b. HaveForms (cond b (mark ∷ []) []) (cond b (decimal m ∷ []) [])) [ true ↦ ((m, (omega (arith, r.1), refl)), tt) | false ↦ tt ])

figures_long : (a : Action) → length (figures a) ≡ length (tail (headed a))
figures_long (Action.Show n) = refl
figures_long (Action.Need n b) = refl
figures_long (Action.Change v z m) = ap suc (elim (marked v) as (λ b. length (cond b (decimal m ∷ []) []) ≡ length (cond b (mark ∷ []) [])) [ true ↦ refl | false ↦ refl ])

spell_forms : (x : Entry) → InRange x → HaveForms (forms (headed x.action)) (spell x)
spell_forms x r = (refl, (((x.key, x.part), (r.0, refl)), figures_forms x.action r.1))

-- a first word is that of one head
unhead : List ℕ → Head
unhead l =
    cond (eqb (get_or l 0 0) 115) Show (cond (eqb (get_or l 0 0) 110) Need (cond (eqb (get_or l 0 0) 112) (Change Put) (cond (eqb (get_or l 0 0) 97) (Change Add)
    (cond (eqb (get_or l 0 0) 108) (Change Last) (cond (eqb (get_or l 0 0) 116) (Change Top) (cond (eqb (get_or l 1 0) 97) (Change Max) (Change Min)))))))

unhead_heading : (h : Head) → unhead (heading h) ≡ h
unfolding unhead
unhead_heading Show = refl
unhead_heading Need = refl
unhead_heading (Change v) = elim v as (λ v. unhead (heading (Change v)) ≡ Change v) [ Put ↦ refl | Add ↦ refl | Max ↦ refl | Min ↦ refl | Last ↦ refl | Top ↦ refl ]

pub same_head : (g h : Head) → heading g ≡ heading h → g ≡ h
same_head g h e = sym (unhead_heading g) ∙ ap unhead e ∙ unhead_heading h

pub spell_long : (x : Entry) (h : Head) → heading (headed x.action) ≡ heading h → length (spell x) ≡ length (forms h)
spell_long x h e = ap (λ n. suc (suc n)) (figures_long x.action) ∙ ap (λ g. length (forms g)) (same_head (headed x.action) h e)

pub begins_forms : (h : Head) (w : List ℕ) (ws : List (List ℕ)) → w ≡ heading h → Begins (w ∷ ws) → HaveForms (forms h) (w ∷ ws)
begins_forms h w ws is b =
    let x = b.entry in
    let same : headed x.action ≡ h = same_head (headed x.action) h (ap (λ l. get_or l 0 []) b.front ∙ is) in
    subst (HaveForms (forms h)) b.front (forms_take (length (w ∷ ws)) (forms h) (spell x) (subst (λ g. HaveForms (forms g) (spell x)) same (spell_forms x b.ranged)))

-- ---- an entry that begins with given words

-- an action of this head that begins with these words
pub record Figures (h : Head) (fs : List (List ℕ)) : Type 0 where
  pub action : Action
  pub ranged : Ranged action
  pub same : headed action ≡ h
  pub front : take (length fs) (figures action) ≡ fs

zero_fits : SFits w64 (pos 0)
zero_fits = record { sfits = omega arith }

pub no_figure : (h : Head) → Figures h []
no_figure Show = record { action = Action.Show 0; ranged = omega arith; same = refl; front = refl }
no_figure Need = record { action = Action.Need 0 (pos 0); ranged = (omega arith, zero_fits); same = refl; front = refl }
no_figure (Change v) = record { action = Action.Change v (pos 0) 0; ranged = (zero_fits, omega arith, λ _. refl); same = refl; front = refl }

pub one_figure : (h : Head) (w : List ℕ) → HaveForms (tail h) (w ∷ []) → Figures h (w ∷ [])
one_figure Show w f = record { action = Action.Show f.0.0; ranged = omega (arith, f.0.1.0); same = refl; front = ap (λ l. l ∷ []) (sym f.0.1.1) }
one_figure Need w f = record { action = Action.Need f.0.0 (pos 0); ranged = (omega (arith, f.0.1.0), zero_fits); same = refl; front = ap (λ l. l ∷ []) (sym f.0.1.1) }
one_figure (Change v) w f = record { action = Action.Change v f.0.0 0; ranged = (f.0.1.0, omega arith, λ _. refl); same = refl; front = ap (λ l. l ∷ []) (sym f.0.1.1) }

pub begins_with : (h : Head) (k p : ℕ) → IsKey k p → (fs : List (List ℕ)) → Figures h fs → Begins (heading h ∷ keyed k p ∷ fs)
begins_with h k p is fs f = record {
  entry = record { key = k; part = p; action = f.action };
  ranged = (is, f.ranged);
  front = λ i. heading (f.same i) ∷ keyed k p ∷ f.front i;
}

pub begins_all : (x : Entry) → InRange x → Begins (spell x)
begins_all x r = record { entry = x; ranged = r; front = take_all (length (spell x)) (spell x) (omega arith) }

pub begins_take : (n : ℕ) (ws : List (List ℕ)) → Begins ws → n ≤ length ws → Begins (take n ws)
begins_take n ws b le = record {
  entry = b.entry;
  ranged = b.ranged;
  front = ap (λ k. take k (spell b.entry)) (length-take-le n ws le) ∙ sym (take-take n (length ws) (spell b.entry) le) ∙ ap (take n) b.front;
}

pub begins_head : (h : Head) → Begins (heading h ∷ [])
begins_head h = begins_take 1 _ (begins_with h 0 0 (omega arith, omega arith) [] (no_figure h)) (omega arith)

-- ---- a text that begins with an entry has its words

pub line_split : (x : Entry) (rest : List ℕ) → line x ++ rest ≡ spaced (spell x) ++ (10 ∷ rest)
line_split x rest = append_assoc (spaced (spell x)) (10 ∷ []) rest

pub line_words : (t : List ℕ) (x : Entry) (rest : List ℕ) → InRange x → t ≡ line x ++ rest → words t ≡ spell x
line_words t x rest r is =
    let plain = All-weaker Good Plain (λ w g. g.1) (spell x) (good_forms (forms (headed x.action)) (spell x) (spell_forms x r)) in
    ap words (is ∙ line_split x rest) ∙ words_spaced (spell x) (10 ∷ rest) (omega arith) plain (inr refl) ∙ append-nil (spell x)
