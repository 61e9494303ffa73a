-- The words of an entry as they are read one by one, and what a wrong one says of the text.
use Rattle.std.proofs.Common.{◌≡◌, ℕ, suc, ◌+◌, ◌<◌, ◌≤◌, min, List, [], ◌∷◌, ◌++◌, length, get_or, take, drop, Ok, Err, sym, refl, ap, ◌∙◌, subst, inl, inr, ⊎_elim, arith}
use Rattle.std.specs.List.{AllByRecursion}
use Rattle.std.proofs.ByRecursion.{All-append}
use Rattle.std.proofs.lemmas.List.{append-nil, append_assoc, append_cancel_left, length-append, take_at, drop_more, get_or-drop, length-drop}
use Rattle.words.specs.Numbers.{keyed, Keyed}
use Rattle.words.specs.Words.{bytes_of, stop, Plain, Stops, WordAt, Spaced, Behind, Ending}
use Rattle.words.specs.declared.word.Word.{Word}
use Rattle.slips.specs.Canon.{heading, headed, figures, spell, InRange, spaced}
use Rattle.slips.specs.Forms.{tail, forms, HaveForms, Acts, Misses, EntryAt, WrongAt}
use Rattle.slips.specs.Wrong.{words, start, Begins}
use Rattle.slips.specs.declared.entry.Action.{Action}
use Rattle.slips.specs.declared.entry.Entry.{Entry}
use Rattle.slips.specs.declared.line.Head.{Head}
use Rattle.slips.specs.declared.line.Head.TheVariants.{Show, Need, Change}
use Rattle.slips.proofs.Fitting.{Good, good_forms, forms_take, forms_long, figures_forms, spell_long, begins_forms, Figures, no_figure, one_figure, begins_with, begins_take, begins_head, begins_all, line_split, line_words}
use Rattle.slips.proofs.Words.{behind, behind_none, words_plain, words_spaced, words_some, start_at, spaced_push}

-- the byte at a place, and the bytes from there on
byte_from : (text : List ℕ) (e c : ℕ) → (e < length text) × (get_or text e 0 ≡ c) → drop e text ≡ c ∷ drop (e + 1) text
byte_from text e c h = drop_more text e 0 h.0 ∙ ap (λ x. x ∷ drop (e + 1) text) h.1

byte_at : (text : List ℕ) (e c : ℕ) (r : List ℕ) → drop e text ≡ c ∷ r → (e < length text) × (get_or text e 0 ≡ c)
byte_at text e c r is =
    let here : e + 0 ≡ e = omega arith in
    (omega (arith, ap length is, length-drop e text), sym (get_or-drop e text 0 0 ∙ ap (λ i. get_or text i 0) here) ∙ ap (λ l. get_or l 0 0) is)

words_at : (text : List ℕ) (at : ℕ) (w : Word) → WordAt text at w → words (drop at text) ≡ bytes_of w ∷ behind (drop (stop text w) text)
words_at text at w h = ap words h.split ∙ words_plain (bytes_of w) (drop (stop text w) text) h.plain h.stops

-- the words ws are read from the place `at` of a text, and end at e
pub record Sofar (text : List ℕ) (at : ℕ) (ws : List (List ℕ)) (e : ℕ) : Type 0 where
  pub some : 0 < length ws
  pub plain : AllByRecursion Plain ws
  pub split : drop at text ≡ spaced ws ++ drop e text
  pub stops : Stops (drop e text)
  pub here : e ≡ at + length (spaced ws)
  pub within : e ≤ length text

one : (text : List ℕ) (at : ℕ) (w : Word) → WordAt text at w → Sofar text at (bytes_of w ∷ []) (stop text w)
one text at w h = record {
  some = omega arith;
  plain = (h.plain, tt);
  split = h.split;
  stops = h.stops;
  here = omega arith;
  within = omega arith;
}

module _ {text : List ℕ} {at : ℕ} {ws : List (List ℕ)} {e : ℕ} (s : Sofar text at ws e) where
  another : (w : Word) → Spaced text e → WordAt text (e + 1) w → Sofar text at (ws ++ (bytes_of w ∷ [])) (stop text w)
  another w sp h =
      let push = spaced_push ws (bytes_of w) s.some in
      record {
        some = omega (arith, length-append ws (bytes_of w ∷ []));
        plain = All-append Plain ws (bytes_of w ∷ []) s.plain (h.plain, tt);
        split = s.split
            ∙ ap (λ l. spaced ws ++ l) (byte_from text e 32 sp ∙ ap (λ l. 32 ∷ l) h.split)
            ∙ sym (append_assoc (spaced ws) (32 ∷ bytes_of w) (drop (stop text w) text))
            ∙ ap (λ l. l ++ drop (stop text w) text) (sym push);
        stops = h.stops;
        here = omega (arith, s.here, h.place, h.within, ap length push, length-append (spaced ws) (32 ∷ bytes_of w));
        within = omega (arith, h.within);
      }

  all_words : words (drop at text) ≡ ws ++ behind (drop e text)
  all_words = ap words s.split ∙ words_spaced ws (drop e text) s.some s.plain s.stops

  -- a word behind a space that is not right there
  wrong_word : Begins ws → Spaced text e → (v : List ℕ) (more : List (List ℕ)) → words (drop (e + 1) text) ≡ v ∷ more → (Begins (ws ++ (v ∷ [])) → ⊥) → WrongAt text at (e + 1)
  wrong_word right sp v more is none =
      let all : words (drop at text) ≡ ws ++ (v ∷ more) = all_words ∙ ap (λ l. ws ++ behind l) (byte_from text e 32 sp) ∙ ap (λ l. ws ++ l) is in
      let front : take (length ws) (words (drop at text)) ≡ ws = ap (take (length ws)) all ∙ take_at ws (v ∷ more) (length ws) refl in
      let more_front : take (suc (length ws)) (words (drop at text)) ≡ ws ++ (v ∷ []) =
      ap (take (suc (length ws))) (all ∙ sym (append_assoc ws (v ∷ []) more)) ∙ take_at (ws ++ (v ∷ [])) more (suc (length ws)) (omega (arith, length-append ws (v ∷ []))) in (
        length (spaced ws) + 1,
        omega (arith, s.here),
        inl (record {
          number = length ws;
          within = omega (arith, ap length all, length-append ws (v ∷ more));
          right = subst Begins (sym front) right;
          wrong = λ b. none (subst Begins more_front b);
          place = sym (start_at ws (v ∷ more) s.some) ∙ ap (start (length ws)) (sym all);
        }),
      )

  -- neither another word nor, where these are all, an ending byte
  missing : Begins ws → (Spaced text e → ⊥) → ((x : Entry) (rest : List ℕ) → spell x ≡ ws → drop e text ≡ 10 ∷ rest → ⊥) → WrongAt text at e
  missing right unspaced none =
      let all : words (drop at text) ≡ ws = all_words ∙ ap (λ l. ws ++ l) (behind_none (drop e text) s.stops (λ r is. unspaced (byte_at text e 32 r is))) ∙ append-nil ws in (
        length (spaced ws),
        s.here,
        inr (record {
          right = subst Begins (sym all) right;
          wrong = λ x rest r is.
              let same : spell x ≡ ws = sym (line_words _ x rest r is) ∙ all in
              none x rest same (append_cancel_left (spaced ws) (drop e text) (10 ∷ rest) (sym s.split ∙ is ∙ line_split x rest ∙ ap (λ l. spaced l ++ (10 ∷ rest)) same));
          place = ap (λ l. length (spaced l)) (sym all);
        }),
      )

  next_right : (w : Word) → Behind text e w → 0 < length (bytes_of w) → Sofar text at (ws ++ (bytes_of w ∷ [])) (stop text w)
  next_right w h long = ⊎_elim (λ p. another w p.0 p.1) (λ p. absurd (omega (arith, ap length p.2))) h

-- behind the first words of an entry, one that has not the form of the next
module _ {text : List ℕ} {at e : ℕ} {first : List ℕ} {ws : List (List ℕ)} (s : Sofar text at (first ∷ ws) e) (h : Head) (is : first ≡ heading h) where
  next_wrong : Begins (first ∷ ws) → length (first ∷ ws) < length (forms h) → (w : Word) → Behind text e w → (HaveForms (forms h) (first ∷ (ws ++ (bytes_of w ∷ []))) → ⊥) → (b : ℕ) → b ≡ w.at → WrongAt text at b
  next_wrong right more w next wrong b place =
      let none : Begins (first ∷ (ws ++ (bytes_of w ∷ []))) → ⊥ = λ g. wrong (begins_forms h first _ is g) in
      let short : (x : Entry) → spell x ≡ first ∷ ws → ⊥ = λ x same. omega (arith, ap length same, spell_long x h (ap (λ l. get_or l 0 []) same ∙ is)) in
      ⊎_elim
      (λ p. subst (WrongAt text at) (sym (place ∙ p.1.place)) (wrong_word s right p.0 (bytes_of w) _ (words_at text (e + 1) w p.1) none))
      (λ p. subst (WrongAt text at) (sym (place ∙ p.1)) (missing s right p.0 (λ x rest same _. short x same)))
      next

tail_some : (h : Head) → 0 < length (tail h)
tail_some Show = omega arith
tail_some Need = omega arith
tail_some (Change v) = omega arith

module _ {text : List ℕ} {at : ℕ} {first : Word} (inside : at < length text) (found : WordAt text (min at (length text)) first) where
  here : WordAt text at first
  here = let same : min at (length text) ≡ at = omega arith in subst (λ n. WordAt text n first) same found

  pub bad_head : (b : ℕ) → b ≡ first.at → ((h : Head) → bytes_of first ≡ heading h → ⊥) → WrongAt text at b
  bad_head b is none =
      let all = words_at text at first here in (
        0,
        omega (arith, is, here.place),
        inl (record {
          number = 0;
          within = omega (arith, ap length all);
          right = begins_take 0 _ (begins_head Show) (omega arith);
          wrong = λ g.
              let f = subst Begins (ap (take 1) all) g in
              none (headed f.entry.action) (sym (ap (λ l. get_or l 0 []) f.front));
          place = refl;
        }),
      )

  module _ {second : Word} (h : Head) (eh : bytes_of first ≡ heading h) (b₂ : Behind text (stop text first) second) where
    pub bad_key : (b : ℕ) → b ≡ second.at → ((k : ℕ × ℕ) → Keyed k (bytes_of second) → ⊥) → WrongAt text at b
    bad_key b is none = next_wrong (one text at first here) h eh (subst (λ l. Begins (l ∷ [])) (sym eh) (begins_head h)) (omega arith) second b₂ (λ f. none f.1.0.0 f.1.0.1) b is

    module _ {third fourth : Word} (k : ℕ × ℕ) (ek : Keyed k (bytes_of second)) (b₃ : Behind text (stop text second) third) (b₄ : Behind text (stop text third) fourth) where
      both : (fs : List (List ℕ)) → bytes_of first ∷ bytes_of second ∷ fs ≡ heading h ∷ keyed k.0 k.1 ∷ fs
      both fs i = eh i ∷ ek.1 i ∷ fs

      begun : (fs : List (List ℕ)) → Figures h fs → Begins (bytes_of first ∷ bytes_of second ∷ fs)
      begun fs f = subst Begins (sym (both fs)) (begins_with h k.0 k.1 ek.0 fs f)

      good : (fs : List (List ℕ)) → HaveForms (tail h) fs → AllByRecursion Good (bytes_of first ∷ bytes_of second ∷ fs)
      good fs f = good_forms (forms h) (bytes_of first ∷ bytes_of second ∷ fs) (eh, ((k, ek), f))

      two : Sofar text at (bytes_of first ∷ bytes_of second ∷ []) (stop text second)
      two = next_right (one text at first here) second b₂ (good [] tt).1.0.0

      three : HaveForms (tail h) (bytes_of third ∷ []) → Sofar text at (bytes_of first ∷ bytes_of second ∷ bytes_of third ∷ []) (stop text third)
      three f = next_right two third b₃ (good (bytes_of third ∷ []) f).1.1.0.0

      pub bad_figure : (b : ℕ) → Misses h third fourth b → WrongAt text at b
      bad_figure b m =
          ⊎_elim
          (λ q. next_wrong two h eh (begun [] (no_figure h)) (omega (arith, tail_some h)) third b₃ (λ f. q.1 f.1.1) b q.0)
          (λ q. next_wrong (three q.2) h eh (begun _ (one_figure h _ q.2)) (omega (arith, q.1)) fourth b₄ (λ f. q.3 f.1.1) b q.0)
          m

      pub whole : (a : Action) (last : Word) → Acts h third fourth a last → Sofar text at (spell (record { key = k.0; part = k.1; action = a })) (stop text last)
      whole a last m =
          let ws : List (List ℕ) = spell (record { key = k.0; part = k.1; action = a }) in
          let have : (fs : List (List ℕ)) → figures a ≡ fs → HaveForms (tail h) fs = λ fs e. subst (HaveForms (tail h)) e (subst (λ g. HaveForms (tail g) (figures a)) m.same (figures_forms a m.ranged)) in
          let read : (fs : List (List ℕ)) (w : Word) → figures a ≡ fs → last ≡ w → Sofar text at (bytes_of first ∷ bytes_of second ∷ fs) (stop text w) → Sofar text at ws (stop text last) = λ fs w e l s.
          subst (λ v. Sofar text at ws (stop text v)) (sym l) (subst (λ vs. Sofar text at vs (stop text w)) (λ i. (eh ∙ ap heading (sym m.same)) i ∷ ek.1 i ∷ sym e i) s) in
          ⊎_elim
          (λ q. read _ third q.0 q.1 (three (have _ q.0)))
          (λ q.
          let fs : List (List ℕ) = bytes_of third ∷ bytes_of fourth ∷ [] in
          let f = have fs q.0 in
          read fs fourth q.0 q.1 (next_right (three (forms_take 1 (tail h) fs f)) fourth b₄ (good fs f).1.1.1.0.0))
          m.spelled

-- behind all of an entry's words
module _ {text : List ℕ} {at e : ℕ} (x : Entry) (r : InRange x) (s : Sofar text at (spell x) e) where
  full : (v : List ℕ) → Begins (spell x ++ (v ∷ [])) → ⊥
  full v b =
      let h = headed x.action in
      omega (arith, forms_long (forms h) (spell x ++ (v ∷ [])) (begins_forms h (heading h) _ refl b), length-append (spell x) (v ∷ []), spell_long x h refl)

  pub unended : (b : ℕ) → Ending text e (Err b) → WrongAt text at b
  unended b u =
      ⊎_elim
      (λ q. let v = words_some (drop (e + 1) text) in subst (WrongAt text at) (sym q.1) (wrong_word s (begins_all x r) q.0 v.0 v.1 v.2 (full v.0)))
      (λ q. subst (WrongAt text at) (sym q.2) (missing s (begins_all x r) q.0 (λ y rest same is. q.1 (byte_at text e 10 rest is))))
      u

  pub ended : (n : ℕ) → Ending text e (Ok n) → EntryAt text at x n
  ended n h = record {
    ranged = r;
    split = s.split ∙ ap (λ l. spaced (spell x) ++ l) (byte_from text e 10 h.0 ∙ ap (λ i. 10 ∷ drop i text) (sym h.1)) ∙ sym (line_split x (drop n text));
    forward = omega (arith, s.here, h.1);
    within = omega (arith, h.0.0, h.1);
  }
