-- What entries do: their operations, the records that are split, and what comes next of what they change.
use Rattle.std.specs.Prelude.{ℕ, suc, min, Bool, false, cond, not, ◌&&◌, List, [], ◌∷◌, ◌++◌, drop, is_some, Some, None, Option, ◌==◌, nat_le}
use Rattle.kinds.specs.Model.{Model}
use Rattle.kinds.specs.declared.operation.Operation.{Operation}
use Rattle.kinds.specs.declared.operation.Verb.{Verb}
use Rattle.kinds.specs.declared.operation.Verb.TheVariants.{Put, Add, Max, Min, Last, Top}
use Rattle.slips.specs.declared.entry.Action.{Action}
use Rattle.slips.specs.declared.entry.Action.TheVariants.{Show, Need, Change}
use Rattle.slips.specs.declared.entry.Entry.{Entry}
use Rattle.protocol.specs.declared.data.Phase.{Phase}
use Rattle.protocol.specs.declared.data.Phase.TheVariants.{Joined, Closing, Split, Merging}
use Rattle.protocol.specs.declared.data.SplitItem.{SplitItem}
use Rattle.protocol.specs.Refusing.{first_entry}

-- ---- operations

-- the verb of an entry that changes its record
abbrev pub verb_of : Action → Option Verb
verb_of (Show n) = None
verb_of (Need n b) = None
verb_of (Change v n m) = Some v

abbrev pub changes : Entry → Bool
changes e = is_some (verb_of e.action)

-- an entry that only reads
abbrev pub looks : Entry → Bool
looks e = not (changes e)

-- the operation of an entry under a worker, if it has one
abbrev pub action_ops : ℕ → ℕ → Action → List Operation
action_ops w part (Show n) = []
action_ops w part (Need n b) = []
action_ops w part (Change v n m) = record { part = part; verb = v; argument = record { number = n; worker = w; mark = m } } ∷ []

abbrev pub ops_of : ℕ → Entry → List Operation
ops_of w e = action_ops w e.part e.action

-- the operations on one key, in the order of the entries
abbrev pub ops_on : ℕ → ℕ → List Entry → List Operation
ops_on w key [] = []
ops_on w key (e ∷ es) = cond (e.key == key) (ops_of w e) [] ++ ops_on w key es

-- operations on a value, the first one first
abbrev pub apply_all : {M : Type 0} → Model M → List Operation → M → M
apply_all k [] x = x
apply_all k (o ∷ os) x = apply_all k os ((k.rule o.part o.verb).apply o.argument x)

-- ---- split records

-- the records that are split in a phase: from the release into split to the return to joined
abbrev pub split_in : Phase → List SplitItem → List SplitItem
split_in Joined ls = []
split_in Closing ls = []
split_in Split ls = ls
split_in Merging ls = ls

-- the item that splits a key, with its place in the list, counted from i
abbrev pub find_split : ℕ → List SplitItem → ℕ → Option (ℕ × SplitItem)
find_split i [] key = None
find_split i (l ∷ ls) key = cond (l.key == key) (Some (i, l)) (find_split (suc i) ls key)

abbrev pub is_split : List SplitItem → ℕ → Bool
is_split ls key = is_some (find_split 0 ls key)

abbrev pub rank : Verb → ℕ
rank Put = 0
rank Add = 1
rank Max = 2
rank Min = 3
rank Last = 4
rank Top = 5

abbrev pub same_verb : Option Verb → Verb → Bool
same_verb None u = false
same_verb (Some v) u = rank v == rank u

-- the entry does what its record is split for
abbrev pub is_chosen : Entry → SplitItem → Bool
is_chosen e l = e.part == l.part && same_verb (verb_of e.action) l.verb

abbrev pub strays_from : Entry → Option (ℕ × SplitItem) → Bool
strays_from e None = false
strays_from e (Some l) = not (is_chosen e l.1)

-- the entry's record is split, and not for what the entry does
abbrev pub strays : List SplitItem → Entry → Bool
strays ls e = strays_from e (find_split 0 ls e.key)

-- ---- what comes next

-- the lesser of a key and a key that may be there
abbrev pub lesser : ℕ → Option ℕ → ℕ
lesser key None = key
lesser key (Some other) = min key other

module _ (ls : List SplitItem) where
  -- the entry has an operation on a key from `from` on that is not split
  abbrev pub wanted : ℕ → Entry → Bool
  wanted from e = changes e && (not (is_split ls e.key) && nat_le from e.key)

  -- the least such key
  abbrev pub next_target : ℕ → List Entry → Option ℕ
  next_target from [] = None
  next_target from (e ∷ es) = cond (wanted from e) (Some (lesser e.key (next_target from es))) (next_target from es)

  -- the entry has an operation on a key that is split
  abbrev pub sharded : Entry → Bool
  sharded e = changes e && is_split ls e.key

  -- the first such entry from number `from` on
  abbrev pub next_shard : ℕ → List Entry → Option ℕ
  next_shard from es = first_entry sharded from (drop from es)
