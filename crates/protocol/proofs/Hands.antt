-- Turns that change one row and nothing else: taking, drawing, collecting, acknowledging.
use Rattle.protocol.proofs.Base.{◌≡◌, refl, sym, ap, subst, ◌∙◌, true, false, List, [], ◌∷◌, ◌++◌, ◌⊎◌, ℕ, suc, ◌≤◌, ◌<◌, arith, length, none-some, nth_seam, All-weaker, Option, Some, None, Ok, AllByRecursion, common_steps, rules}
use Rattle.protocol.specs.Rules.{Model, ReadAs, Entry, Phase, Joined, Closing, Split, Merging, SplitItem, late, Transaction, Shape, State, Row, row_at, begin, with_current, split_in, Taking, Event, Taken, left_over, drawn, acknowledging, has_ended, World}
use Rattle.protocol.proofs.Frames.{ready_longer, after}
use Rattle.protocol.proofs.Invariant.{Ready, HandOk, MergedOk, pending, Kept, Inv}
use Rattle.protocol.proofs.Owing.{keeps_owing, stays_owing}
use Rattle.protocol.proofs.Past.{ideal_taken, past_taken}

module _ {M : Type 0} (k : Model M) (sh : Shape) (start : List M) (x : World M) (inv : Inv k sh start x) (w : ℕ) (inside : w < sh.workers) where
  abbrev s : State
  s = x.state

  abbrev ls : List SplitItem
  ls = split_in s.phase s.split

  abbrev row : Row
  row = row_at s.rows w

  -- the worker's row changes, and nothing else
  abbrev To : Row → List Event → ℕ → Type 0
  To r new ticket = Kept k sh start (after k sh start x w ticket s.place s.stamps r x.table new)

  stash_longer : (new : List Event) → AllByRecursion (Ready k sh (x.events ++ new) w) row.stash
  stash_longer new = All-weaker _ _ (ready_longer k sh x.events new w) row.stash (inv.kept.rows w).stash

  -- a transaction that begins
  begins : (new : List Event) (u : Transaction) → Ready k sh (x.events ++ new) w u → (t : Transaction) → Some (begin u.ticket u.entries) ≡ Some t → HandOk k sh ls s.stamps x.table (x.events ++ new) w t
  begins new u ready t e = grind arith

  -- a row with no more merged, where nothing is merged yet or the hand is empty
  unmerged : (p : Phase) (r : Row) → r.merged ≡ row.merged → (p ≡ Merging → (r.current ≡ None) × (r.acknowledged ≡ true → length s.split ≤ row.merged))
      → MergedOk k sh p (length s.split) row → MergedOk k sh p (length s.split) r
  unmerged p r e h ok = grind arith

  nothing : (o : Option Transaction) → o ≡ None → (t : Transaction) → o ≡ Some t → HandOk k sh ls s.stamps x.table (x.events ++ []) w t
  nothing o e t h = absurd (none-some t (sym e ∙ h))

  pub takes_ok : (text : List ℕ) (es : List Entry) → row.current ≡ None → (s.phase ≡ Joined) ⊎ (s.phase ≡ Split) → late k sh.keys w es ≡ None → ReadAs text (Ok es)
      → To (with_current row (Some (begin (suc s.ticket) es))) (Taken (record { ticket = suc s.ticket; worker = w; text = text; entries = es }) ∷ []) (suc s.ticket)
  takes_ok text es empty phase fine read =
      let t : Taking = record { ticket = suc s.ticket; worker = w; text = text; entries = es } in
      let new = Taken t ∷ [] in
      keeps_owing k sh start x inv w (suc s.ticket) s.place s.stamps _ new inside refl (λ key. refl) (omega arith) (past_taken k sh start x.events s.ticket s.place inv.kept.past t refl read) (ideal_taken k sh start x.events t)
      (begins new (begin (suc s.ticket) es) ((length x.events, text, nth_seam x.events (Taken t)), fine)) (stash_longer new)
      (unmerged s.phase _ refl (λ m. absurd (grind arith)) (inv.kept.rows w).merged) refl (λ key. ap (pending k sh ls w key) (sym empty))

  pub draws_ok : row.current ≡ None → (s.phase ≡ Joined) ⊎ (s.phase ≡ Closing) → To (drawn row row.stash) [] s.ticket
  draws_ok empty phase = go row.stash (stash_longer [])
    where
      go : (ts : List Transaction) → AllByRecursion (Ready k sh (x.events ++ []) w) ts → To (drawn row ts) [] s.ticket
      go ts ready = search (rules, stays_owing)

  -- an ended transaction owes nothing
  ended_owes : (ticket : ℕ) (o : Option Transaction) (key : ℕ) → has_ended ticket o ≡ true → pending k sh ls w key o ≡ []
  ended_owes ticket o key h = grind arith

  pub collects_ok : (ticket : ℕ) → has_ended ticket row.current ≡ true → To (with_current row None) [] s.ticket
  collects_ok ticket ended =
      stays_owing k sh start x inv w s.stamps (with_current row None) inside refl (λ key. refl) (nothing None refl) (stash_longer [])
      (unmerged s.phase _ refl (λ m. (refl, (subst (λ (q : Phase). MergedOk k sh q (length s.split) row) m (inv.kept.rows w).merged).1)) (inv.kept.rows w).merged) refl (λ key. sym (ended_owes ticket row.current key ended))

  pub acknowledges_ok : row.current ≡ None → left_over s.phase (length s.split) row ≡ false → To (acknowledging true row) [] s.ticket
  acknowledges_ok empty done = grind (arith, common_steps, stays_owing)
