-- The forms of an entry's words, and what the reader of one entry says by them.
use Rattle.std.specs.Prelude.{◌≡◌, ℕ, ◌+◌, ◌<◌, ◌≤◌, cond, ◌⊎◌, List, [], ◌∷◌, ◌++◌, length, drop, ℤ, Ok, Err, Result}
use Rattle.words.specs.Numbers.{Decimal, Integer, Keyed}
use Rattle.words.specs.Words.{bytes_of}
use Rattle.words.specs.declared.word.Word.{Word}
use Rattle.slips.specs.Canon.{marked, heading, headed, figures, Ranged, InRange, line}
use Rattle.slips.specs.Wrong.{Wrong}
use Rattle.slips.specs.declared.entry.Action.{Action}
use Rattle.slips.specs.declared.entry.Entry.{Entry}
use Rattle.slips.specs.declared.line.Head.{Head}
use Rattle.slips.specs.declared.line.Head.TheVariants.{Show, Need, Change}

-- bytes that spell a head, the number of a shown number, and a mark
abbrev pub Heading : Head → List ℕ → Type 0
Heading h w = w ≡ heading h

abbrev pub Shown : ℕ → List ℕ → Type 0
Shown n w = Decimal 99 n w

abbrev pub Mark : ℕ → List ℕ → Type 0
Mark n w = Decimal 4294967295 n w

-- what a word spells is given, or its place where it spells nothing
module _ {A : Type 0} (spelling : A → List ℕ → Type 0) where
  abbrev pub ReadWord : Word → Result A ℕ → Type 0
  ReadWord w (Ok a) = spelling a (bytes_of w)
  ReadWord w (Err b) = (b ≡ w.at) × ((a : A) → spelling a (bytes_of w) → ⊥)

pub data Form : Type 0 where
  verb : Head → Form
  key : Form
  shown : Form
  number : Form
  mark : Form

abbrev pub HasForm : Form → List ℕ → Type 0
HasForm (verb h) w = Heading h w
HasForm key w = (k : ℕ × ℕ) × Keyed k w
HasForm shown w = (n : ℕ) × Shown n w
HasForm number w = (z : ℤ) × Integer z w
HasForm mark w = (n : ℕ) × Mark n w

-- the forms of the words that a head asks for behind the key, and of all its words
abbrev pub tail : Head → List Form
tail Show = shown ∷ []
tail Need = shown ∷ number ∷ []
tail (Change v) = number ∷ cond (marked v) (mark ∷ []) []

abbrev pub forms : Head → List Form
forms h = verb h ∷ key ∷ tail h

-- words that have the first of these forms, one by one
abbrev pub HaveForms : List Form → List (List ℕ) → Type 0
HaveForms fs [] = Unit {0}
HaveForms [] (w ∷ ws) = ⊥
HaveForms (f ∷ fs) (w ∷ ws) = HasForm f w × HaveForms fs ws

-- the action of this head that one word or two spell, and the last of these
pub record Acts (h : Head) (first second : Word) (a : Action) (last : Word) : Type 0 where
  pub ranged : Ranged a
  pub same : headed a ≡ h
  pub spelled : ((figures a ≡ bytes_of first ∷ []) × (last ≡ first)) ⊎ ((figures a ≡ bytes_of first ∷ bytes_of second ∷ []) × (last ≡ second))

-- the place of the first of two words that has not its form
abbrev pub Misses : Head → Word → Word → ℕ → Type 0
Misses h first second b =
    ((b ≡ first.at) × (HaveForms (tail h) (bytes_of first ∷ []) → ⊥))
    ⊎ ((b ≡ second.at) × (1 < length (tail h)) × HaveForms (tail h) (bytes_of first ∷ []) × (HaveForms (tail h) (bytes_of first ∷ bytes_of second ∷ []) → ⊥))

-- the text has this entry at a place, and goes on behind it at another
pub record EntryAt (text : List ℕ) (at : ℕ) (e : Entry) (next : ℕ) : Type 0 where
  pub ranged : InRange e
  pub split : drop at text ≡ line e ++ drop next text
  pub forward : at < next
  pub within : next ≤ length text

-- the entry at a place is wrong first at a byte
abbrev pub WrongAt : List ℕ → ℕ → ℕ → Type 0
WrongAt text at byte = (k : ℕ) × (byte ≡ at + k) × Wrong (drop at text) k
