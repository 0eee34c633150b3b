-- The answers that a tree owes, by two lists and path by path.
use Rattle.std.specs.Prelude.{◌≡◌, not, List, [], ◌∷◌, ◌++◌, Option, filter}
use Rattle.em_record.specs.declared.record.Record.{Record}
use Rattle.em_settle.specs.declared.step.Step.{Step}
use Rattle.em_settle.specs.Keys.{has_key, record_at}
use Rattle.em_settle.specs.States.{answers_to}
use Rattle.em_tree_model.specs.Tree.{Tree, stored_in, waiting_in, stored_at, waiting_at}

-- The answers that a tree owes: those of all operations that wait, over all stored records.
abbrev pub owed : (Record → Record) → (Option Record → Record → Step) → Tree → List Record
owed key step t = answers_to key step (record_at key (stored_in t)) (waiting_in t)

-- the answers that a key's path owes: those of its operations, in order, over the key's record
abbrev pub path_owes : (Record → Record) → (Option Record → Record → Step) → Tree → Record
    → List Record
path_owes key step t q = answers_to key step (stored_at key t) (waiting_at key t q)

-- the answers that the paths of these keys owe, key by key
abbrev pub paths_owe : (Record → Record) → (Option Record → Record → Step) → Tree → List Record
    → List Record
paths_owe key step t [] = []
paths_owe key step t (q ∷ qs) = path_owes key step t q ++ paths_owe key step t qs

-- the key is none of these
abbrev pub IsOther : Record → List Record → Type 0
IsOther q [] = Unit {0}
IsOther q (k ∷ ks) = (q ≡ k → ⊥) × IsOther q ks

-- each key stands here once
abbrev pub AreOnce : List Record → Type 0
AreOnce [] = Unit {0}
AreOnce (q ∷ qs) = IsOther q qs × AreOnce qs

-- the operations of all keys but one
abbrev pub but_key : (Record → Record) → Record → List Record → List Record
but_key key q xs = filter (λ x. not (has_key key q x)) xs

-- no key but these has an operation
abbrev pub OnlyKeys : (Record → Record) → List Record → List Record → Type 0
OnlyKeys key [] ops = ops ≡ []
OnlyKeys key (q ∷ qs) ops = OnlyKeys key qs (but_key key q ops)
