-- A word that a text has at a place.
use Rattle.std.specs.Prelude.{◌≡◌, ℕ, ◌+◌, ◌<◌, ◌≤◌, min, ◌⊎◌, List, [], ◌∷◌, ◌++◌, length, drop, Ok, Err, Result, ◌≢◌, slice_index}
use Rattle.std.specs.List.{AllByRecursion}
use Rattle.words.specs.declared.word.Word.{Word}

abbrev pub bytes_of : Word → List ℕ
bytes_of w = w.bytes.now

-- where a word ends in a text; beyond the text's end, that is the end
abbrev pub stop : List ℕ → Word → ℕ
stop text w = min (w.at + length (bytes_of w)) (length text)

-- bytes that no space and no ending byte is among
abbrev pub Plain : List ℕ → Type 0
Plain w = AllByRecursion (λ c. (c ≢ 32) × (c ≢ 10)) w

-- no byte, or first a space or an ending byte
abbrev pub Stops : List ℕ → Type 0
Stops [] = Unit {0}
Stops (c ∷ cs) = (c ≡ 32) ⊎ (c ≡ 10)

-- the longest plain bytes at a place
pub record WordAt (text : List ℕ) (at : ℕ) (w : Word) : Type 0 where
  pub place : w.at ≡ at
  pub plain : Plain (bytes_of w)
  pub split : drop at text ≡ bytes_of w ++ drop (stop text w) text
  pub stops : Stops (drop (stop text w) text)
  pub within : w.at + length (bytes_of w) ≤ length text

-- a space stands at the place
abbrev pub Spaced : List ℕ → ℕ → Type 0
Spaced text at = (at < length text) × (slice_index text at ≡ 32)

-- the word behind a place: after a space, or else an empty one that stands for a missing word
abbrev pub Behind : List ℕ → ℕ → Word → Type 0
Behind text at w = (Spaced text at × WordAt text (at + 1) w) ⊎ ((Spaced text at → ⊥) × (w.at ≡ at) × (bytes_of w ≡ []))

-- an ending byte stands at the place
abbrev pub Ended : List ℕ → ℕ → Type 0
Ended text at = (at < length text) × (slice_index text at ≡ 10)

-- the place behind an ending byte at a place; or else a surplus word begins behind a space, or the ending byte is missing
abbrev pub Ending : List ℕ → ℕ → Result ℕ ℕ → Type 0
Ending text at (Ok n) = Ended text at × (n ≡ at + 1)
Ending text at (Err b) = (Spaced text at × (b ≡ at + 1)) ⊎ ((Spaced text at → ⊥) × (Ended text at → ⊥) × (b ≡ at))
