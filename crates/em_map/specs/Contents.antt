-- What a map's tree has under its keys.
use Rattle.std.specs.Prelude.{◌≡◌, ◌≤◌, ℕ, List, [], ◌∷◌, Option, Some, None, option_to_list}
use Rattle.em_record.specs.declared.record.Record.{Record}
use Rattle.em_model.specs.Map.{Map}
use Rattle.em_settle.specs.Map.{map_key_of, map_record}
use Rattle.em_settle.specs.States.{Stored}
use Rattle.em_tree_model.specs.Tree.{Tree, stored_at, waiting_at}

-- the key of a number, as a record: (K, 0, 0, 0)
abbrev pub key_record : ℕ → Record
key_record k = map_record k 0

-- the stored record of a key with a value, or none
abbrev pub value_record : ℕ → Option ℕ → Option Record
value_record k None = None
value_record k (Some v) = Some (map_record k v)

-- what is stored under each key is the value that the map has there
abbrev pub KeepsMap : Stored → Map → Type 0
KeepsMap stored m = (k : ℕ) → stored (key_record k) ≡ value_record k (m k)

-- all these records have this first word, and numbers up to n
abbrev pub UpTo : ℕ → ℕ → List Record → Type 0
UpTo k n [] = Unit {0}
UpTo k n (x ∷ xs) = ((x.a ≡ k) × (x.b ≤ n)) × UpTo k n xs

-- Of each key, the stored record and the operations that wait have its first word, and numbers up
-- to n.
pub record WaitsUpTo (n : ℕ) (t : Tree) : Type 0 where
  pub waiting : (k : ℕ) → UpTo k n (waiting_at map_key_of t (key_record k))
  pub stored : (k : ℕ) → UpTo k n (option_to_list (stored_at map_key_of t (key_record k)))
