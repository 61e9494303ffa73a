-- What a command line asks for, and that a command written in the plain way is understood as itself.
use Rattle.std.specs.Prelude.{◌≡◌, ◌≢◌, ℕ, ◌^◌, ◌<◌, cond, List, [], ◌∷◌, ◌++◌, Some, None, codes, decimal, Option, Result, MatchResult}
use Rattle.std.specs.Option.{option_map, option_and_then, unwrap_or}
use Rattle.std.specs.Str.{bytes_eq}
use Rattle.words.specs.Numbers.{numeral}
use Rattle.script.specs.Cuts.{front, behind}
use Rattle.script.specs.declared.commands.KindName.{KindName}
use Rattle.script.specs.declared.commands.KindName.TheVariants.{Count, Four}
use Rattle.script.specs.declared.commands.UnknownKind.{UnknownKind}
use Rattle.script.specs.declared.commands.Command.{Command}
use Rattle.script.specs.declared.commands.Command.TheVariants.{Open, Run, Tally}

-- the words that name kinds
abbrev pub kind_text : KindName → List ℕ
kind_text Count = codes "count"
kind_text Four = codes "four"

-- a word is read as the kind that it names, and refused where it names none
abbrev pub KindNamed : List ℕ → Result KindName UnknownKind → Type 0
KindNamed word r = MatchResult r (λ kind. word ≡ kind_text kind) (λ _. (kind : KindName) → word ≢ kind_text kind)

-- what can be asked: an opening by its workers, keys, first place and kind, a run by its worker and the text as written,
-- and a number that is shown by its key, part and number
pub data Request : Type 0 where
  opens : ℕ → ℕ → ℕ → KindName → Request
  runs : ℕ → List ℕ → Request
  shows : ℕ → ℕ → ℕ → Request

abbrev pub meaning : Command → Request
meaning (Open o) = opens o.figures.workers o.figures.keys o.figures.first o.kind
meaning (Run worker text) = runs worker text.now
meaning (Tally t) = shows t.key t.part t.number

-- a number in front of a space, with what stands behind that
abbrev pub leads : List ℕ → Option (ℕ × List ℕ)
leads words = option_and_then (λ n. option_map (λ rest. (n, rest)) (behind 32 words)) (numeral (front 32 words))

abbrev pub kind_by_name : List ℕ → Option KindName
kind_by_name word = cond (bytes_eq word (codes "count")) (Some Count) (cond (bytes_eq word (codes "four")) (Some Four) None)

abbrev pub opening : List ℕ → Option Request
opening words =
    option_and_then (λ w. option_and_then (λ k. option_and_then (λ f. option_map (λ kind. opens w.0 k.0 f.0 kind) (kind_by_name f.1)) (leads k.1)) (leads w.1)) (leads words)

-- a text that is left out is empty
abbrev pub running : List ℕ → Option Request
running words = option_map (λ worker. runs worker (unwrap_or (behind 32 words) [])) (numeral (front 32 words))

-- a key and a part of it, with a point between them
abbrev pub keyed : List ℕ → Option (ℕ × ℕ)
keyed word = option_and_then (λ key. option_and_then (λ rest. option_map (λ part. (key, part)) (numeral rest)) (behind 46 word)) (numeral (front 46 word))

abbrev pub showing : List ℕ → Option Request
showing words =
    option_and_then (λ rest. option_and_then (λ k. option_map (λ n. shows k.0 k.1 n) (numeral rest)) (keyed (front 32 words))) (behind 32 words)

-- what the words behind a command's name ask for
abbrev pub named : List ℕ → List ℕ → Option Request
named name words =
    cond (bytes_eq name (codes "open")) (opening words) (cond (bytes_eq name (codes "run")) (running words) (cond (bytes_eq name (codes "tally")) (showing words) None))

abbrev pub command : List ℕ → Option Request
command line = option_and_then (λ words. named (front 32 line) words) (behind 32 line)

-- the plain way to write a request
abbrev pub written : Request → List ℕ
written (opens workers keys first kind) =
    codes "open " ++ (decimal workers ++ (32 ∷ (decimal keys ++ (32 ∷ (decimal first ++ (32 ∷ kind_text kind))))))
written (runs worker text) = codes "run " ++ (decimal worker ++ (32 ∷ text))
written (shows key part number) = codes "tally " ++ (decimal key ++ (46 ∷ (decimal part ++ (32 ∷ decimal number))))

-- its numbers fit 64 bits
abbrev pub Fitting : Request → Type 0
Fitting (opens workers keys first kind) = (workers < 2 ^ 64) × (keys < 2 ^ 64) × (first < 2 ^ 64)
Fitting (runs worker text) = worker < 2 ^ 64
Fitting (shows key part number) = (key < 2 ^ 64) × (part < 2 ^ 64) × (number < 2 ^ 64)

abbrev pub PlainlyUnderstood : Type 0
PlainlyUnderstood = (q : Request) → Fitting q → command (written q) ≡ Some q
