-- A tree of which only numbers are left, and the sums of it.
use Rattle.std.specs.Prelude.{◌≡◌, ℕ, zero, suc, ◌+◌, ◌-◌, ◌*◌}
use Rattle.em_tree_cost.specs.Counters.{Sums}

-- An outline: a leaf with the number of its records, or a row of entries. An entry has the number
-- of operations in its buffer, the outline of its child, and the entries after it. A node is a row.
pub data Outline : Type 0 where
  leaf : ℕ → Outline
  end : Outline
  entry : ℕ → Outline → Outline → Outline

-- the entries of a row
abbrev pub count_of : Outline → ℕ
count_of (leaf n) = 0
count_of end = 0
count_of (entry b c r) = 1 + count_of r

-- the operations in buffers
abbrev pub waiting_of : Outline → ℕ
waiting_of (leaf n) = 0
waiting_of end = 0
waiting_of (entry b c r) = b + waiting_of c + waiting_of r

-- the records in leaves
abbrev pub stored_of : Outline → ℕ
stored_of (leaf n) = n
stored_of end = 0
stored_of (entry b c r) = stored_of c + stored_of r

-- the leaves
abbrev pub leaves_of : Outline → ℕ
leaves_of (leaf n) = 1
leaves_of end = 0
leaves_of (entry b c r) = leaves_of c + leaves_of r

-- what the leaves hold above `half` records each
abbrev pub excess_of : ℕ → Outline → ℕ
excess_of half (leaf n) = n - half
excess_of half end = 0
excess_of half (entry b c r) = excess_of half c + excess_of half r

-- each operation in a buffer, times the levels of nodes below its entry, for a node of this level
abbrev pub weight_of : ℕ → Outline → ℕ
weight_of level (leaf n) = 0
weight_of level end = 0
weight_of zero (entry b c r) = weight_of zero c + weight_of zero r
weight_of (suc level) (entry b c r) = level * b + weight_of level c + weight_of (suc level) r

-- 1 for a node, 0 for a leaf
abbrev pub node_of : Outline → ℕ
node_of (leaf n) = 0
node_of end = 1
node_of (entry b c r) = 1

-- the nodes below a row
abbrev pub inner_of : Outline → ℕ
inner_of (leaf n) = 0
inner_of end = 0
inner_of (entry b c r) = node_of c + inner_of c + inner_of r

-- The sums of a tree of this level under a root's buffer of x operations in d blocks; `half` is
-- 2 * w * B.
abbrev pub sums_of : ℕ → ℕ → Outline → ℕ → ℕ → Sums
sums_of half level t x d = record {
  level = level;
  waiting = waiting_of t + x;
  weight = weight_of level t + level * x;
  stored = stored_of t;
  excess = excess_of half t;
  leaves = leaves_of t;
  root = x;
  blocks = d;
}

-- a leaf, or a node with an entry
abbrev pub IsFilled : Outline → Type 0
IsFilled (leaf n) = Unit {0}
IsFilled end = ⊥
IsFilled (entry b c r) = Unit {0}

-- all leaves are this many levels below, and no node below has no entry
abbrev pub IsLevel : Outline → ℕ → Type 0
IsLevel (leaf n) zero = Unit {0}
IsLevel (leaf n) (suc level) = ⊥
IsLevel end zero = ⊥
IsLevel end (suc level) = Unit {0}
IsLevel (entry b c r) zero = ⊥
IsLevel (entry b c r) (suc level) = IsFilled c × IsLevel c level × IsLevel r (suc level)

-- the entries of one row, and then those of another
abbrev pub join_outlines : Outline → Outline → Outline
join_outlines (leaf n) u = u
join_outlines end u = u
join_outlines (entry b c r) u = entry b c (join_outlines r u)

-- u is the row t with x operations more in its buffers.
pub data Pours : ℕ → Outline → Outline → Type 0 where
  none : Pours 0 end end
  some : {x z a b : ℕ} {c r s : Outline} (y : ℕ) → x ≡ y + z → b ≡ a + y → Pours z r s
      → Pours x (entry a c r) (entry b c s)
