-- A buffer tree as plain data: what it has stored, and what waits in it for a key.
use Rattle.std.specs.Prelude.{Bool, false, not, cond, ℕ, zero, suc, List, [], ◌++◌, None}
use Rattle.em_record.specs.declared.record.Record.{Record}
use Rattle.em_record.specs.Order.{is_below}
use Rattle.em_settle.specs.Keys.{of_key, record_at}
use Rattle.em_settle.specs.States.{Stored}

-- A tree: a leaf with its stored records, or a node, which is a row of entries. An entry has a low
-- key, a buffer of operations in the order of their arrival, a child, and the entries after it. The
-- root's buffer is that of an entry alone, over the root.
pub data Tree : Type 0 where
  leaf : List Record → Tree
  end : Tree
  entry : Record → List Record → Tree → Tree → Tree

-- all stored records, from left to right
abbrev pub stored_in : Tree → List Record
stored_in (leaf xs) = xs
stored_in end = []
stored_in (entry low b c r) = stored_in c ++ stored_in r

-- all operations that wait; of each entry, those nearer the leaf first
abbrev pub waiting_in : Tree → List Record
waiting_in (leaf xs) = []
waiting_in end = []
waiting_in (entry low b c r) = (waiting_in c ++ b) ++ waiting_in r

-- whether the key is at least the low key of the first of these entries
abbrev pub is_later : Record → Tree → Bool
is_later q (leaf xs) = false
is_later q end = false
is_later q (entry low b c r) = not (is_below q low)

-- The operations on the path of a key, nearer the leaf first. The path takes the last entry whose
-- low key is at most the key, or the first if there is none.
abbrev pub waiting_at : (Record → Record) → Tree → Record → List Record
waiting_at key (leaf xs) q = []
waiting_at key end q = []
waiting_at key (entry low b c r) q =
    cond (is_later q r) (waiting_at key r q) (waiting_at key c q ++ of_key key q b)

-- the stored record of a key, in the leaf of its path
abbrev pub stored_at : (Record → Record) → Tree → Stored
stored_at key (leaf xs) q = record_at key xs q
stored_at key end q = None
stored_at key (entry low b c r) q = cond (is_later q r) (stored_at key r q) (stored_at key c q)

-- a row with an entry
abbrev pub HasEntry : Tree → Type 0
HasEntry (leaf xs) = ⊥
HasEntry end = ⊥
HasEntry (entry low b c r) = Unit {0}

-- a row, and no leaf
abbrev pub IsRow : Tree → Type 0
IsRow (leaf xs) = ⊥
IsRow end = Unit {0}
IsRow (entry low b c r) = IsRow r

-- what an entry leads to: a leaf, or a node that has an entry
abbrev pub IsChild : Tree → Type 0
IsChild (leaf xs) = Unit {0}
IsChild end = ⊥
IsChild (entry low b c r) = Unit {0}

-- all leaves are n levels below
abbrev pub HasLevel : Tree → ℕ → Type 0
HasLevel (leaf xs) zero = Unit {0}
HasLevel (leaf xs) (suc n) = ⊥
HasLevel end zero = ⊥
HasLevel end (suc n) = Unit {0}
HasLevel (entry low b c r) zero = ⊥
HasLevel (entry low b c r) (suc n) = HasLevel c n × HasLevel r (suc n)

-- the entries of one row, and then those of another
abbrev pub join_rows : Tree → Tree → Tree
join_rows (leaf xs) u = u
join_rows end u = u
join_rows (entry low b c r) u = entry low b c (join_rows r u)

-- the records of the leftmost leaf
abbrev pub first_leaf : Tree → List Record
first_leaf (leaf xs) = xs
first_leaf end = []
first_leaf (entry low b c r) = first_leaf c

-- the operations in the buffers over the leftmost leaf, nearer the leaf first
abbrev pub over_first : Tree → List Record
over_first (leaf xs) = []
over_first end = []
over_first (entry low b c r) = over_first c ++ b

-- the tree with other records in its leftmost leaf
abbrev pub with_first_leaf : Tree → List Record → Tree
with_first_leaf (leaf xs) ys = leaf ys
with_first_leaf end ys = end
with_first_leaf (entry low b c r) ys = entry low b (with_first_leaf c ys) r
