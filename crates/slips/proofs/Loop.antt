-- The reader's loop: the entries read so far, and the room for one more.
use Rattle.std.proofs.Common.{◌≡◌, ℕ, ◌+◌, ◌<◌, ◌≤◌, cond, eqb, List, [], ◌∷◌, ◌++◌, length, drop, sym, refl, ap, ◌∙◌, arith}
use Rattle.std.specs.List.{AllByRecursion}
use Rattle.std.proofs.ByRecursion.{All-push}
use Rattle.std.proofs.lemmas.List.{append-nil, append_assoc, length-append, length-drop, flat_map_more, nil_from_length}
use Rattle.std.proofs.lemmas.List.Sums.{sum_by-append}
use Rattle.slips.specs.Canon.{spell, InRange, spaced, line, render}
use Rattle.slips.specs.Forms.{EntryAt, WrongAt}
use Rattle.slips.specs.Reads.{endings}
use Rattle.slips.specs.Wrong.{Fails}
use Rattle.slips.specs.declared.entry.Entry.{Entry}

-- the entries es are read from the front of a text, up to a place
pub record Read (text : List ℕ) (es : List Entry) (at : ℕ) : Type 0 where
  pub ranged : AllByRecursion InRange es
  pub split : text ≡ render es ++ drop at text
  pub place : at ≡ length (render es)
  pub within : at ≤ length text

pub read_more : (text : List ℕ) (es : List Entry) (at : ℕ) (x : Entry) (next : ℕ) → Read text es at → EntryAt text at x next → Read text (es ++ (x ∷ [])) next
read_more text es at x next r h =
    let push : render (es ++ (x ∷ [])) ≡ render es ++ line x = sym (flat_map_more line [] es x) in
    let split : text ≡ render (es ++ (x ∷ [])) ++ drop next text =
    r.split ∙ ap (λ l. render es ++ l) h.split ∙ sym (append_assoc (render es) (line x) (drop next text)) ∙ ap (λ l. l ++ drop next text) (sym push) in
    record {
      ranged = All-push InRange es x r.ranged h.ranged;
      split = split;
      place = omega (arith, ap length split, length-append (render (es ++ (x ∷ []))) (drop next text), length-drop next text, h.within);
      within = h.within;
    }

pub read_all : (text : List ℕ) (es : List Entry) (at : ℕ) → Read text es at → length text ≤ at → text ≡ render es
read_all text es at r le = r.split ∙ ap (λ l. render es ++ l) (nil_from_length (drop at text) (omega (arith, length-drop at text))) ∙ append-nil (render es)

pub fails_there : (text : List ℕ) (es : List Entry) (at byte : ℕ) → Read text es at → at < length text → WrongAt text at byte → Fails text (length es) byte
fails_there text es at byte r lt w = record {
  before = es;
  rest = drop at text;
  at = w.0;
  ranged = r.ranged;
  split = r.split;
  more = omega (arith, length-drop at text);
  count = refl;
  wrong = w.2;
  place = omega (arith, w.1, r.place);
}

-- each entry has an ending byte of its own
endings_append : (xs ys : List ℕ) → endings (xs ++ ys) ≡ endings xs + endings ys
endings_append xs ys = sum_by-append (λ c. cond (eqb c 10) 1 0) xs ys

render_ends : (es : List Entry) → length es ≤ endings (render es)
render_ends [] = omega arith
render_ends (x ∷ es) = omega (arith, endings_append (line x) (render es), endings_append (spaced (spell x)) (10 ∷ []), render_ends es)

pub room : (text : List ℕ) (es : List Entry) (at : ℕ) (x : Entry) (next : ℕ) → Read text es at → EntryAt text at x next → length es < endings text
room text es at x next r h =
    let all = es ++ (x ∷ []) in
    omega (arith, ap endings (read_more text es at x next r h).split, endings_append (render all) (drop next text), render_ends all, length-append es (x ∷ []))
