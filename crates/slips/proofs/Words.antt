-- The words of a text that begins with words one space apart.
use Rattle.std.proofs.Common.{◌≡◌, ℕ, ◌+◌, ◌<◌, Bool, true, false, cond, eqb, List, [], ◌∷◌, ◌++◌, length, sym, refl, ap, ◌∙◌, inl, ⊎_elim, arith}
use Rattle.std.specs.List.{AllByRecursion}
use Rattle.std.proofs.lemmas.List.{append_assoc, length-append}
use Rattle.std.proofs.lemmas.Bool.{ne_eqb}
use Rattle.words.specs.Words.{Plain, Stops}
use Rattle.slips.specs.Canon.{spaced}
use Rattle.slips.specs.Wrong.{onto, words, start}

-- the words behind a plain one
abbrev pub behind : List ℕ → List (List ℕ)
behind [] = []
behind (c ∷ cs) = cond (eqb c 32) (words cs) []

pub behind_none : (l : List ℕ) → Stops l → ((r : List ℕ) → l ≡ 32 ∷ r → ⊥) → behind l ≡ []
behind_none [] s n = refl
behind_none (c ∷ cs) s n = ⊎_elim (λ e. absurd (n cs (ap (λ x. x ∷ cs) e))) (λ e. rw e refl) s

pub words_plain : (w r : List ℕ) → Plain w → Stops r → words (w ++ r) ≡ w ∷ behind r
words_plain [] [] p s = refl
words_plain [] (c ∷ cs) p s = ⊎_elim (λ e. rw e refl) (λ e. rw e refl) s
words_plain (x ∷ w) r p s =
    let a = ne_eqb x 10 p.0.1 in
    let b = ne_eqb x 32 p.0.0 in
    rw (a, b) (ap (onto x) (words_plain w r p.1 s))

pub words_spaced : (ws : List (List ℕ)) (r : List ℕ) → 0 < length ws → AllByRecursion Plain ws → Stops r → words (spaced ws ++ r) ≡ ws ++ behind r
words_spaced [] r some p s = absurd (omega arith)
words_spaced (w ∷ []) r some p s = words_plain w r p.0 s
words_spaced (w ∷ v ∷ ws) r some p s =
    ap words (append_assoc w (32 ∷ spaced (v ∷ ws)) r)
    ∙ words_plain w (32 ∷ (spaced (v ∷ ws) ++ r)) p.0 (inl refl)
    ∙ ap (λ l. w ∷ l) (words_spaced (v ∷ ws) r (omega arith) p.1 s)

-- there is always a first word
first_word : (a b : Bool) (c : ℕ) (ws : List (List ℕ)) → (v : List ℕ) × (more : List (List ℕ)) × (cond a ([] ∷ []) (cond b ([] ∷ ws) (onto c ws)) ≡ v ∷ more)
first_word true b c ws = ([], [], refl)
first_word false true c ws = ([], ws, refl)
first_word false false c [] = (c ∷ [], [], refl)
first_word false false c (w ∷ ws) = (c ∷ w, ws, refl)

pub words_some : (l : List ℕ) → (v : List ℕ) × (more : List (List ℕ)) × (words l ≡ v ∷ more)
words_some [] = ([], [], refl)
words_some (c ∷ cs) = first_word (eqb c 10) (eqb c 32) c (words cs)

pub start_at : (ws more : List (List ℕ)) → 0 < length ws → start (length ws) (ws ++ more) ≡ length (spaced ws) + 1
start_at [] more some = absurd (omega arith)
start_at (w ∷ []) more some = omega arith
start_at (w ∷ v ∷ ws) more some = omega (arith, start_at (v ∷ ws) more (omega arith), length-append w (32 ∷ spaced (v ∷ ws)))

pub spaced_push : (ws : List (List ℕ)) (w : List ℕ) → 0 < length ws → spaced (ws ++ (w ∷ [])) ≡ spaced ws ++ (32 ∷ w)
spaced_push [] w some = absurd (omega arith)
spaced_push (x ∷ []) w some = refl
spaced_push (x ∷ v ∷ ws) w some = ap (λ l. x ++ (32 ∷ l)) (spaced_push (v ∷ ws) w (omega arith)) ∙ sym (append_assoc x (32 ∷ spaced (v ∷ ws)) (32 ∷ w))
