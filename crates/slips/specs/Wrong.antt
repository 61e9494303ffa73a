-- Where a text first departs from the canonical text of entries.
use Rattle.std.specs.Prelude.{◌≡◌, ℕ, zero, suc, ◌+◌, ◌<◌, cond, ◌⊎◌, List, [], ◌∷◌, ◌++◌, length, take, ◌==◌, ◌≢◌}
use Rattle.std.specs.List.{AllByRecursion}
use Rattle.slips.specs.Canon.{spell, InRange, spaced, line, render}
use Rattle.slips.specs.declared.entry.Entry.{Entry}

-- the words of a text's first entry: its bytes up to the first 10, or all, cut at each 32
abbrev pub onto : ℕ → List (List ℕ) → List (List ℕ)
onto c [] = (c ∷ []) ∷ []
onto c (w ∷ ws) = (c ∷ w) ∷ ws

abbrev pub words : List ℕ → List (List ℕ)
words [] = [] ∷ []
words (c ∷ cs) = cond (c == 10) ([] ∷ []) (cond (c == 32) ([] ∷ words cs) (onto c (words cs)))

-- where the word of this number begins
abbrev pub start : ℕ → List (List ℕ) → ℕ
start zero ws = 0
start (suc i) [] = 0
start (suc i) (w ∷ ws) = length w + 1 + start i ws

-- the words are right as far as they go: an entry begins with them
pub record Begins (ws : List (List ℕ)) : Type 0 where
  pub entry : Entry
  pub ranged : InRange entry
  pub front : take (length ws) (spell entry) ≡ ws

-- the word of this number is the first that is wrong
pub record WrongWord (t : List ℕ) (at : ℕ) : Type 0 where
  pub number : ℕ
  pub within : number < length (words t)
  pub right : Begins (take number (words t))
  pub wrong : Begins (take (suc number) (words t)) → ⊥
  pub place : at ≡ start number (words t)

-- every word is right, and yet no entry begins the text: a word or the ending byte is missing behind them
pub record Missing (t : List ℕ) (at : ℕ) : Type 0 where
  pub right : Begins (words t)
  pub wrong : (e : Entry) (rest : List ℕ) → InRange e → t ≢ line e ++ rest
  pub place : at ≡ length (spaced (words t))

-- the text's first entry is wrong first at this byte
abbrev pub Wrong : List ℕ → ℕ → Type 0
Wrong t at = WrongWord t at ⊎ Missing t at

-- a text whose first entries are right, as many as the number says, and whose next one is wrong first at the byte
pub record Fails (text : List ℕ) (number byte : ℕ) : Type 0 where
  pub before : List Entry
  pub rest : List ℕ
  pub at : ℕ
  pub ranged : AllByRecursion InRange before
  pub split : text ≡ render before ++ rest
  pub more : 0 < length rest
  pub count : number ≡ length before
  pub wrong : Wrong rest at
  pub place : byte ≡ length (render before) + at
