-- One entry more: what a transaction has read holds good, and what it does next.
use Rattle.protocol.proofs.Base.{◌≡◌, refl, sym, ap, subst, subst₂, ◌∙◌, true, false, cond, List, [], ◌∷◌, ◌++◌, ℕ, arith, length, nth_within, All-push, All-take, All-weaker, length-take-le, take_at, cond_both, cond-true, or_parts, Option, Some, None, option_is_some, AllByRecursion, nth}
use Rattle.protocol.specs.Rules.{Model, Entry, applied, falls_short, Note, Running, SplitItem, Stage, Stamp, Transaction, Shape, stamp_at, place_of, at_stage, looks, find_split, strays_from, strays, after_running, is_noted, note, one_more, has_run, noting, reading, Event}
use Rattle.serial.specs.Alone.{tells as told}
use Rattle.protocol.proofs.Alone.{Finished, Gives, gives_more}
use Rattle.protocol.proofs.Allowed.{none_is}
use Rattle.protocol.proofs.Finding.{admitted}
use Rattle.protocol.proofs.Invariant.{Ready, Faithful, StageOk, HandOk}
use Rattle.protocol.proofs.Notes.{note_keeps, note_notes, note_all}
use Rattle.protocol.proofs.Places.{take_one_more, all_nth}
use Rattle.protocol.specs.State.{ran}

-- an entry that looks at a record, and does not stray, looks at one that is not split
looks_unsplit : (e : Entry) (o : Option (ℕ × SplitItem)) → strays_from e o ≡ false → looks e ≡ true → option_is_some o ≡ false
looks_unsplit e o s l = grind arith

-- what holds of all noted versions holds of those before
noted_before : (P : Note → Type 0) (ns : List Note) (key version : ℕ) → AllByRecursion P (note ns key version) → AllByRecursion P ns
noted_before P ns key version = cond_both (is_noted ns key) ns (ns ++ (record { key = key; version = version } ∷ [])) (λ ms. AllByRecursion P ms → AllByRecursion P ns) (λ t a. a)
    (λ t a. subst (AllByRecursion P) (take_at ns _ (length ns) refl) (All-take P (length ns) _ a))

module _ {M : Type 0} (k : Model M) (sh : Shape) (ls : List SplitItem) (w : ℕ) where
  module _ (ss : List Stamp) (table : List M) (events : List Event) where
    -- all that has to hold of a transaction in a hand, and that it has no place
    abbrev pub Early : Transaction → Type 0
    Early t = HandOk k sh ls ss table events w t × (place_of t.stage ≡ None)

    module _ (t : Transaction) (ready : Ready k sh events w t) (chosen : AllByRecursion (λ e. strays ls e ≡ false) (ran t)) where
      pub early : (g : Stage) → place_of g ≡ None → StageOk k sh ls ss table w t g → Early (at_stage t g)
      early g unplaced ok = grind arith

      -- no entry is left to run: it goes on to lock and to check
      pub locks_on : (from : ℕ) → Faithful k sh ls ss table w t → Finished t → Early (at_stage t (after_running ls (ran t) from))
      locks_on from f d = grind arith

    -- one entry more
    module _ (t : Transaction) (e : Entry) (next : nth t.entries t.done ≡ Some e) (fits : strays ls e ≡ false) (ready : Ready k sh events w t)
        (chosen : AllByRecursion (λ e. strays ls e ≡ false) (ran t)) (faithful : Faithful k sh ls ss table w t) (going : t.skipped ≡ None) where
      -- the values that it reads, and what the transaction becomes
      abbrev values : List M
      values = applied k w (ran t) table

      abbrev version : ℕ
      version = (stamp_at ss e.key).version

      abbrev Same : Note → Type 0
      Same n = (stamp_at ss n.key).version ≡ n.version

      abbrev more : Transaction
      more = one_more t (noting ss t e) (t.answers ++ told k e e.action values) (cond (falls_short k e e.action values) (Some t.done) None)

      ran_more : ran more ≡ ran t ++ (e ∷ [])
      ran_more = take_one_more t.entries t.done e next

      all_ran : (P : Entry → Type 0) → AllByRecursion P (ran t) → P e → AllByRecursion P (ran more)
      all_ran P a p = subst (AllByRecursion P) (sym ran_more) (All-push P (ran t) e a p)

      -- the notes are those before, or with one more if the entry looks
      noted_by : (P : List Note → Type 0) → P t.noted → (looks e ≡ true → P (note t.noted e.key version)) → P (noting ss t e)
      noted_by P same new = cond_both (looks e) (note t.noted e.key version) t.noted P new (λ _. same)

      more_faithful : Faithful k sh ls ss table w more
      more_faithful = record {
        covers = all_ran (λ d. looks d ≡ true → is_noted (noting ss t e) d.key ≡ true)
            (All-weaker _ _ (λ d c l. noted_by (λ ns. is_noted ns d.key ≡ true) (c l) (λ _. note_keeps t.noted e.key version d.key (c l))) (ran t) faithful.covers)
            (λ l. ap (λ ns. is_noted ns e.key) (cond-true (looks e) (note t.noted e.key version) t.noted l) ∙ note_notes t.noted e.key version);
        bounds = noted_by (AllByRecursion _) faithful.bounds (λ l. note_all t.noted e.key version _ faithful.bounds
            ((all_nth _ t.entries t.done e (admitted k sh.keys w t.entries ready.1) next).0, omega arith, looks_unsplit e (find_split 0 ls e.key) fits l));
        agrees = λ same. subst₂ (λ es n. Gives k w es table more.answers (cond (falls_short k e e.action values) (Some n) None))
            (sym ran_more) (length-take-le t.done t.entries (omega (arith, nth_within t.entries t.done e next)))
            (gives_more k w (ran t) e table t.answers (subst (Gives k w (ran t) table t.answers) going
            (faithful.agrees (noted_by (λ ns. AllByRecursion Same ns → AllByRecursion Same t.noted) (λ a. a) (λ l. noted_before Same t.noted e.key version) same))));
      }

      pub reads_on : Early (reading k ls w ss values t e)
      reads_on = cond_both (has_run more) (at_stage more (after_running ls (ran more) 0)) more Early
          (λ h. locks_on more ready (all_ran _ chosen fits) 0 more_faithful (record { run = h; last = λ j s. grind arith }))
          (λ h. early more ready (all_ran _ chosen fits) Running refl (more_faithful, none_is more.skipped (or_parts (option_is_some more.skipped) _ h).0))
