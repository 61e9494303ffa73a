-- Runs alone of the first entries of a transaction, and of all of them.
use Rattle.protocol.proofs.Base.{◌≡◌, refl, sym, ap, ◌∙◌, true, cond, ◌||◌, List, [], ◌∷◌, ◌++◌, append_assoc, ℕ, zero, suc, ◌+◌, ◌≤◌, arith, leb, ℤ, length, take, drop, length-take, take-append-drop, take_all, none-some, same_Some, All-weaker, false≢true, Option, Some, None, option_is_some, AllByRecursion, nth}
use Rattle.protocol.specs.Rules.{Model, Action, Entry, tells, falls_short, applied, short_at, Alone, ran as alone_ran, peek, after, serial, Transaction, looks}
use Rattle.serial.proofs.Alone.{short_idle, runs_alone}
use Rattle.serial.proofs.Steps.{follow}
use Rattle.protocol.proofs.Places.{modify_agrees}
use Rattle.protocol.specs.State.{ran}

peek_agrees : {A : Type 0} (xs ys : List A) (i : ℕ) (f : A → ℤ) → nth xs i ≡ nth ys i → peek i f xs ≡ peek i f ys
peek_agrees [] [] i f h = refl
peek_agrees [] (y ∷ ys) zero f h = absurd (none-some y h)
peek_agrees [] (y ∷ ys) (suc i) f h = peek_agrees [] ys i f h
peek_agrees (x ∷ xs) [] zero f h = absurd (none-some x (sym h))
peek_agrees (x ∷ xs) [] (suc i) f h = peek_agrees xs [] i f h
peek_agrees (x ∷ xs) (y ∷ ys) zero f h = ap f (same_Some x y h)
peek_agrees (x ∷ xs) (y ∷ ys) (suc i) f h = peek_agrees xs ys i f h

-- no entry is left to run, and the last that ran is the one that skipped the rest
pub record Over (entries : List Entry) (done : ℕ) (skipped : Option ℕ) : Type 0 where
  pub run : (option_is_some skipped || leb (length entries) done) ≡ true
  pub last : (j : ℕ) → skipped ≡ Some j → done ≡ suc j

abbrev pub Finished : Transaction → Type 0
Finished t = Over t.entries t.done t.skipped

module _ {M : Type 0} (k : Model M) (w : ℕ) where
  after_agrees : (e : Entry) (a : Action) (us vs : List M) (key : ℕ) → nth us key ≡ nth vs key → nth (after k w e a us) key ≡ nth (after k w e a vs) key
  after_agrees e a us vs key h = grind (arith, modify_agrees us vs e.key key)

  -- a run gave these readings
  abbrev pub Gives : List Entry → List M → List ℤ → Option ℕ → Type 0
  Gives es vs zs skipped = ((serial k w 0 es vs).answers ≡ zs) × ((serial k w 0 es vs).skipped ≡ skipped)

  -- values that agree where the entries look give the same readings
  abbrev pub Agree : List Entry → List M → List M → Type 0
  Agree es us vs = AllByRecursion (λ e. looks e ≡ true → nth us e.key ≡ nth vs e.key) es

  agree_after : (e : Entry) (es : List Entry) (us vs : List M) → Agree es us vs → Agree es (after k w e e.action us) (after k w e e.action vs)
  agree_after e es us vs h = All-weaker _ _ (λ d g l. after_agrees e e.action us vs d.key (g l)) es h

  serial_agrees : (i : ℕ) (es : List Entry) (us vs : List M) → Agree es us vs
      → ((serial k w i es us).answers ≡ (serial k w i es vs).answers) × ((serial k w i es us).skipped ≡ (serial k w i es vs).skipped)
  serial_agrees i [] us vs h = (refl, refl)
  serial_agrees i (e ∷ es) us vs h = grind (arith, serial_agrees (suc i) es, agree_after e es us vs, peek_agrees us vs e.key)

  pub gives_agrees : (es : List Entry) (us vs : List M) (zs : List ℤ) (skipped : Option ℕ) → Agree es us vs → Gives es vs zs skipped → Gives es us zs skipped
  gives_agrees es us vs zs skipped h g = grind (arith, serial_agrees)

  -- behind entries that skip nothing the next ones go on
  serial_more : (i : ℕ) (es fs : List Entry) (vs : List M) → (serial k w i es vs).skipped ≡ None
      → serial k w i (es ++ fs) vs ≡ follow (serial k w i es vs).answers (serial k w (i + length es) fs (applied k w es vs))
  serial_more i [] fs vs h = let e : i ≡ i + 0 = omega arith in ap (λ n. serial k w n fs vs) e
  serial_more i (e ∷ es) fs vs h = let r = serial_more (suc i) es fs (after k w e e.action vs) in grind (arith, append_assoc)

  -- and behind a skip nothing is done
  serial_stops : (i : ℕ) (es fs : List Entry) (vs : List M) (j : ℕ) → (serial k w i es vs).skipped ≡ Some j → serial k w i (es ++ fs) vs ≡ serial k w i es vs
  serial_stops i [] fs vs j h = absurd (none-some j h)
  serial_stops i (e ∷ es) fs vs j h = let r = serial_stops (suc i) es fs (after k w e e.action vs) j in grind arith

  pub gives_more : (es : List Entry) (e : Entry) (vs : List M) (zs : List ℤ) → Gives es vs zs None
      → Gives (es ++ (e ∷ [])) vs (zs ++ tells k e e.action (applied k w es vs)) (cond (falls_short k e e.action (applied k w es vs)) (Some (length es)) None)
  gives_more es e vs zs g = grind (arith, serial_more)

  -- the `need` that skips the rest changes nothing
  short_last : (j : ℕ) (es : List Entry) (vs : List M) → short_at k w j es vs ≡ true → length es ≤ suc j → applied k w (take j es) vs ≡ applied k w es vs
  short_last j [] vs h l = absurd (false≢true h)
  short_last zero (e ∷ []) vs h l = sym (short_idle k w e e.action vs h).0
  short_last zero (e ∷ f ∷ es) vs h l = absurd (omega arith)
  short_last (suc j) (e ∷ es) vs h l = short_last j es (after k w e e.action vs) h (omega arith)

  -- a finished transaction: all its entries give what those gave that have run, and leave what they leave
  pub whole : (t : Transaction) (vs : List M) → Finished t → Gives (ran t) vs t.answers t.skipped
      → serial k w 0 t.entries vs ≡ record { values = applied k w (ran t) vs; answers = t.answers; skipped = t.skipped }
  whole t vs f g = go t.skipped refl
    where
      all : Alone k w (ran t) vs (serial k w 0 (ran t) vs)
      all = runs_alone k w (ran t) vs

      is : (serial k w 0 (ran t) vs).values ≡ applied k w (ran t) vs → serial k w 0 (ran t) vs ≡ record { values = applied k w (ran t) vs; answers = t.answers; skipped = t.skipped }
      is v i = record { values = v i; answers = g.0 i; skipped = g.1 i }

      go : (o : Option ℕ) → t.skipped ≡ o → serial k w 0 t.entries vs ≡ record { values = applied k w (ran t) vs; answers = t.answers; skipped = t.skipped }
      go None h = grind (arith, take_all, all)
      go (Some j) h =
          let s = g.1 ∙ h in
          let v = all.values ∙ ap (λ o. applied k w (alone_ran o (ran t)) vs) s ∙ short_last j (ran t) vs (all.stopped j s) (omega (arith, length-take t.done t.entries, f.last j h)) in
          ap (λ es. serial k w 0 es vs) (sym (take-append-drop t.done t.entries)) ∙ serial_stops 0 (ran t) (drop t.done t.entries) vs j s ∙ is v
