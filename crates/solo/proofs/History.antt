-- Every whole run is a serial one.
use Rattle.std.proofs.Common.{◌≡◌, ℕ, ◌+◌, ◌-◌, ◌≤◌, Bool, true, false, cond, ◌&&◌, leb, ◌⊎◌, List, [], ◌∷◌, ◌++◌, length, replicate, Some, None, Ok, Err, Option, Result, sym, refl, ap, ◌∙◌, subst, inl, inr, add-one, arith}
use Rattle.std.proofs.lemmas.Bool.{and_parts, leb-true}
use Rattle.kinds.specs.Model.{Model}
use Rattle.slips.specs.Reads.{ReadAs}
use Rattle.slips.specs.declared.entry.Entry.{Entry}
use Rattle.serial.specs.Serial.{serial}
use Rattle.solo.specs.History.{Asked, place_in, places_of, numbers, Turns, Then, Serially, History, WholeRuns}
use Rattle.solo.specs.Rules.{State, Commit, Turn, early, late, refuses, commits, run_late, run_read, RunBy, RunAs, good_figures}

module _ {M : Type 0} (k : Model M) where
  module _ (s : State M) (w : ℕ) (text : List ℕ) (t : Turn M) where
    -- a turn is refused, or runs the entries that the text says
    abbrev Either : Type 0
    Either = ((c : List ℕ) × (t ≡ refuses k s c)) ⊎ ((es : List Entry) × ReadAs text (Ok es) × (t ≡ commits k s w es))

    by_late : (es : List Entry) → ReadAs text (Ok es) → (o : Option (List ℕ)) → t ≡ run_late k s w es o → Either
    by_late es h (Some c) e = inl (c, e)
    by_late es h None e = inr (es, h, e)

    by_read : (q : Result (List Entry) (List ℕ)) → ReadAs text q → t ≡ run_read k s w q → Either
    by_read (Err c) h e = inl (c, e)
    by_read (Ok es) h e = by_late es h (late k (length s.values) w es) e

    by_early : (o : Option (List ℕ)) → RunBy k s w text o t → Either
    by_early (Some c) e = inl (c, e)
    by_early None h = by_read h.0 h.1 h.2

    either : RunAs k s w text t → Either
    either = by_early (early k s w)

  -- what is to be shown of turns from s to s'
  abbrev Goes : ℕ → List M → List Asked → State M → Type 0
  Goes next vs ts s' = (places_of ts ≡ numbers next (length (places_of ts))) × Serially k vs ts s'.values

  module _ (s s' : State M) (w : ℕ) (text : List ℕ) (ts : List Asked) where
    -- the same of a turn with the answer a, and then of those
    abbrev After : Result Commit (List ℕ) → Type 0
    After a =
        (place_in a ++ places_of ts ≡ numbers (s.given + 1) (length (place_in a ++ places_of ts))) × Then k a w text s.values (λ us. Serially k us ts s'.values)

    after_commit : (es : List Entry) → ReadAs text (Ok es) → Goes (s.given + 1 + 1) (serial k w 0 es s.values).values ts s' → After (commits k s w es).answer
    after_commit es h i = (
      ap (λ (ns : List ℕ). (s.given + 1) ∷ ns) (i.0 ∙ ap (λ (n : ℕ). numbers n (length (places_of ts))) (add-one (s.given + 1))),
      (es, h, record { answers = refl; skipped = refl }, i.1),
    )

    after : (m : State M) (a : Result Commit (List ℕ)) → Either s w text (record { state = m; answer = a }) → Turns k m ts s'
        → ((n : State M) → Turns k n ts s' → Goes (n.given + 1) n.values ts s') → After a
    after m a (inl r) rest all = subst After (sym (ap (λ (t : Turn M). t.answer) r.1)) (all s (subst (λ (n : State M). Turns k n ts s') (ap (λ (t : Turn M). t.state) r.1) rest))
    after m a (inr r) rest all =
        subst After (sym (ap (λ (t : Turn M). t.answer) r.2))
        (after_commit r.0 r.1 (all (commits k s w r.0).state (subst (λ (n : State M). Turns k n ts s') (ap (λ (t : Turn M). t.state) r.2) rest)))

  goes : (ts : List Asked) (s s' : State M) → Turns k s ts s' → Goes (s.given + 1) s.values ts s'
  goes [] s s' h = (refl, ap (λ (n : State M). n.values) h)
  goes (t ∷ ts) s s' h =
      after s s' t.worker t.text ts h.0 t.answer (either s t.worker t.text (record { state = h.0; answer = t.answer }) h.1) h.2 (λ n. goes ts n s')

  module _ (workers keys first : ℕ) (start : M) (s s' : State M) (ts : List Asked) where
    abbrev opened : State M
    opened = record { workers = workers; given = first - 1; values = replicate keys start }

    from_first : 1 ≤ first → s ≡ opened → Turns k s ts s' → History k first (replicate keys start) ts s'
    from_first h e r =
        let i = goes ts opened s' (subst (λ (n : State M). Turns k n ts s') e r) in
        let n : first - 1 + 1 ≡ first = omega arith in
        record { places = i.0 ∙ ap (λ (x : ℕ). numbers x (length (places_of ts))) n; values = i.1 }

    by_figures : (b : Bool) → good_figures workers keys first ≡ b → cond {A = Result (State M) (List ℕ)} b (Ok opened) (Err (1 ∷ [])) ≡ Ok s → Turns k s ts s' → History k first (replicate keys start) ts s'
    by_figures true h e r =
        let last = and_parts (leb 1 workers && leb workers 8 && leb 1 keys && leb keys 1024) (leb 1 first) h in
        let same : s ≡ opened = cc in
        from_first (leb-true 1 first last.1) same r
    by_figures false h e r = cc

  still : (s m : State M) (w : ℕ) (text c : List ℕ) → Either s w text (record { state = m; answer = Err c }) → m ≡ s
  still s m w text c (inl r) = ap (λ (t : Turn M). t.state) r.1
  still s m w text c (inr r) =
      let e : ◌≡◌ {A = Result Commit (List ℕ)} (Err c) (commits k s w r.0).answer = ap (λ (t : Turn M). t.answer) r.2 in
      cc

pub whole_runs : {M : Type 0} (k : Model M) → WholeRuns k
whole_runs k = record {
  histories = λ workers keys first start s s' ts e r. by_figures k workers keys first start s s' ts (good_figures workers keys first) refl e r;
  refused = λ s m w text c r. still k s m w text c (either k s w text (record { state = m; answer = Err c }) r);
}
