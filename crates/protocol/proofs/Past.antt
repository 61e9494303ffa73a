-- What happened, with one event more, and the order of what happened.
use Rattle.protocol.proofs.Base.{◌≡◌, refl, sym, ap, subst, ◌∙◌, List, [], ◌∷◌, ◌++◌, append-nil, map, inl, inr, ℕ, zero, suc, ◌+◌, ◌≤◌, ◌<◌, arith, length, take, map-id, map_push, length_push, length_counting, get_or-range_with_len, map_counting_more, sum_by-append, none-some, nth_within, nth_map, Option, Some, Ok, counting, sum_by, nth, gets}
use Rattle.protocol.specs.Rules.{Model, ReadAs, Transaction, Shape, Taking, Placing, Event, Taken, Placed, taking_in, placing_in, those, takings, placings, alone, values_by, readings_by, SameSlip, readings_of}
use Rattle.protocol.proofs.Invariant.{Live, HasPlace, Past, ideal}
use Rattle.protocol.proofs.Places.{nth_push, nth_longer}

module _ {A : Type 0} (f : Event → Option A) where
  pub those_append : (es ds : List Event) → those f (es ++ ds) ≡ those f es ++ those f ds
  those_append [] ds = refl
  those_append (e ∷ es) ds = grind (arith, those_append es)

  pub weight_append : (g : A → ℕ) (es ds : List Event) → sum_by g (those f (es ++ ds)) ≡ sum_by g (those f es) + sum_by g (those f ds)
  weight_append g es ds = grind (arith, those_append, sum_by-append)

  -- how many are found before event i
  abbrev pub before : List Event → ℕ → ℕ
  before es i = length (those f (take i es))

  found_at : (es : List Event) (i : ℕ) (e : Event) (a : A) → nth es i ≡ Some e → f e ≡ Some a → nth (those f es) (before es i) ≡ Some a
  found_at [] i e a h g = absurd (none-some e h)
  found_at (d ∷ es) zero e a h g = grind arith
  found_at (d ∷ es) (suc i) e a h g = grind (arith, found_at es i e a h g)

  -- what is found in a later event comes later
  pub before_later : (es : List Event) (h j : ℕ) (e : Event) (a : A) → h < j → nth es h ≡ Some e → f e ≡ Some a → before es h < before es j
  before_later [] h j e a l q g = absurd (none-some e q)
  before_later (d ∷ es) h zero e a l q g = absurd (omega arith)
  before_later (d ∷ es) zero (suc j) e a l q g = grind arith
  before_later (d ∷ es) (suc h) (suc j) e a l q g = grind (arith, before_later es h j e a)

  -- where the numbers of what is found count up, each is known by how many come before it
  pub counted_at : (g : A → ℕ) (first n : ℕ) (es : List Event) (i : ℕ) (e : Event) (a : A) → map g (those f es) ≡ counting first n → nth es i ≡ Some e → f e ≡ Some a
      → (g a ≡ first + before es i) × (before es i < n)
  counted_at g first n es i e a c h q = let r = found_at es i e a h q in let m = nth_map g (those f es) (before es i) in grind (arith, gets, length_counting, get_or-range_with_len)

-- one number more
counting_more : (first n : ℕ) → counting first (suc n) ≡ counting first n ++ (first + n) ∷ []
counting_more first n = grind (arith, map_counting_more (λ x. x) first n (first + n) refl, map-id)

-- a list that counts up, with one more
counted : {A : Type 0} (f : A → ℕ) (first : ℕ) (xs : List A) (x : A) → map f xs ≡ counting first (length xs) → f x ≡ first + length xs → map f (xs ++ x ∷ []) ≡ counting first (length (xs ++ x ∷ []))
counted f first xs x h e = grind (arith, map_push, counting_more, length_push)

module _ {M : Type 0} (k : Model M) where
  values_append : (ps qs : List Placing) (vs : List M) → values_by k (ps ++ qs) vs ≡ values_by k qs (values_by k ps vs)
  values_append [] qs vs = refl
  values_append (p ∷ ps) qs vs = grind (arith, values_append ps)

  readings_append : (ps qs : List Placing) (vs : List M) → readings_by k (ps ++ qs) vs ≡ readings_by k ps vs ++ readings_by k qs (values_by k ps vs)
  readings_append [] qs vs = refl
  readings_append (p ∷ ps) qs vs = grind (arith, readings_append ps)

  module _ (sh : Shape) (start : List M) (es : List Event) where
    pub ideal_taken : (t : Taking) → ideal k sh start (es ++ (Taken t ∷ [])) ≡ ideal k sh start es
    ideal_taken t = grind (arith, those_append, append-nil)

    pub ideal_none : ideal k sh start (es ++ []) ≡ ideal k sh start es
    ideal_none = ap (ideal k sh start) (append-nil es)

    pub ideal_placed : (p : Placing) → ideal k sh start (es ++ (Placed p ∷ [])) ≡ (alone k p (ideal k sh start es)).values
    ideal_placed p = grind (arith, those_append, values_append)

    module _ (ticket place : ℕ) (past : Past k sh start es ticket place) where
      pub past_none : Past k sh start (es ++ []) ticket place
      past_none = subst (λ fs. Past k sh start fs ticket place) (sym (append-nil es)) past

      taken_longer : (new : List Event) (i : ℕ) (p : Placing) → nth es i ≡ Some (Placed p) → (j : ℕ) × (u : Taking) × (j < i) × (nth (es ++ new) j ≡ Some (Taken u)) × SameSlip u p
      taken_longer new i p h = grind (arith, nth_longer)

      -- a taking under the next ticket
      pub past_taken : (t : Taking) → t.ticket ≡ suc ticket → ReadAs t.text (Ok t.entries) → Past k sh start (es ++ (Taken t ∷ [])) (suc ticket) place
      past_taken t n read =
          let ts = those_append taking_in es (Taken t ∷ []) in
          let ps = those_append placing_in es (Taken t ∷ []) ∙ append-nil (placings es) in
          record {
            each_ticket = subst (λ (us : List Taking). map (λ (u : Taking). u.ticket) us ≡ counting sh.first (length us)) (sym ts) (counted (λ (u : Taking). u.ticket) sh.first (takings es) t past.each_ticket (n ∙ past.last_ticket));
            each_place = subst (λ (qs : List Placing). map (λ (q : Placing). q.place) qs ≡ counting sh.first (length qs)) (sym ps) past.each_place;
            last_ticket = let l = past.last_ticket in let m = ap length ts ∙ length_push (takings es) t in omega arith;
            last_place = past.last_place ∙ ap (λ (qs : List Placing). sh.first + length qs) (sym ps);
            as_taken = λ i p h. taken_longer (Taken t ∷ []) i p (elim (nth_push es (Taken t) i (Placed p) h) [ inl q ↦ q | inr q ↦ let e = q.1 in absurd (cc) ]);
            as_read = λ i u h. elim (nth_push es (Taken t) i (Taken u) h) [ inl q ↦ past.as_read i u q | inr q ↦ let e = q.1 in let u≡t : t ≡ u = cc in subst (λ (v : Taking). ReadAs v.text (Ok v.entries)) u≡t read ];
            same_readings = subst (λ (qs : List Placing). map readings_of qs ≡ readings_by k qs (take sh.keys start)) (sym ps) past.same_readings;
          }

      -- a place for a transaction that was taken, with the readings that it has after those before it
      pub past_placed : (p : Placing) → p.place ≡ suc place → Live es p.worker p.ticket p.entries → (alone k p (ideal k sh start es)).answers ≡ p.answers → (alone k p (ideal k sh start es)).skipped ≡ p.skipped
          → Past k sh start (es ++ (Placed p ∷ [])) ticket (suc place)
      past_placed p n live answers skipped =
          let ts = those_append taking_in es (Placed p ∷ []) ∙ append-nil (takings es) in
          let ps = those_append placing_in es (Placed p ∷ []) in
          let vs = take sh.keys start in
          record {
            each_ticket = subst (λ (us : List Taking). map (λ (u : Taking). u.ticket) us ≡ counting sh.first (length us)) (sym ts) past.each_ticket;
            each_place = subst (λ (qs : List Placing). map (λ (q : Placing). q.place) qs ≡ counting sh.first (length qs)) (sym ps) (counted (λ (q : Placing). q.place) sh.first (placings es) p past.each_place (n ∙ past.last_place));
            last_ticket = past.last_ticket ∙ ap (λ (us : List Taking). sh.first + length us) (sym ts);
            last_place = let l = past.last_place in let m = ap length ps ∙ length_push (placings es) p in omega arith;
            as_taken = λ i q h. elim (nth_push es (Placed p) i (Placed q) h) [
              | inl g ↦ taken_longer (Placed p ∷ []) i q g
              | inr g ↦
                  let e = g.1 in
                  let same : p ≡ q = cc in
                  let t : Taking = record { ticket = p.ticket; worker = p.worker; text = live.1; entries = p.entries } in
                  (live.0, t, omega (arith, nth_within es live.0 (Taken t) live.2, g.0), nth_longer es (Placed p ∷ []) live.0 (Taken t) live.2, subst (SameSlip t) same (record { ticket = refl; worker = refl; entries = refl }))
            ];
            as_read = λ i u h. past.as_read i u (elim (nth_push es (Placed p) i (Taken u) h) [ inl q ↦ q | inr q ↦ let e = q.1 in absurd (cc) ]);
            same_readings =
                ap (map readings_of) ps ∙ map_push readings_of (placings es) p ∙ (λ i. past.same_readings i ++ record { answers = sym answers i; skipped = sym skipped i } ∷ [])
                ∙ sym (ap (λ (qs : List Placing). readings_by k qs vs) ps ∙ readings_append (placings es) (p ∷ []) vs);
          }

      -- no place is above the last one
      pub placed_low : (w : ℕ) (t : Transaction) (p : ℕ) → HasPlace es w t p → p ≤ place
      placed_low w t p h =
          let c = counted_at placing_in (λ (q : Placing). q.place) sh.first (length (placings es)) es h.0 _ _ past.each_place h.1 refl in
          omega (arith, c.0, c.1, past.last_place)
