-- The most moves of building a tree bottom up. A block that is taken may cost a move, one that is read or stored costs one.
use Rattle.std.specs.Prelude.{ℕ, ◌+◌, ◌*◌, ◌≤◌, List, length}
use Rattle.em_record.specs.Cost.{blocks_of}
use Rattle.em_record.specs.Shape.{ShapeNumbers}
use Rattle.em_tree_cost.specs.Sizes.{IsCeil}
use Rattle.em_bulk_plan.specs.Plan.{Cuts}

-- The moves x of the h levels of nodes over n children. At each level the list of the children, two records for each, is read
-- and released, each node is stored, and the nodes are listed; over the last list stands one node.
pub data LevelMoves (f P : ℕ) : ℕ → ℕ → ℕ → Type 0 where
  top : {n x : ℕ} (c : ℕ) → n + 1 ≤ 2 * f → IsCeil c P (2 * n) → x ≤ 2 * c + 2 → LevelMoves f P n 1 x
  over : {n h x : ℕ} (ns : List ℕ) (c d y : ℕ) → 2 * f ≤ n → Cuts f n ns → IsCeil c P (2 * n)
      → IsCeil d P (2 * length ns) → LevelMoves f P (length ns) h y
      → x ≤ 2 * c + 2 * length ns + 2 * d + y → LevelMoves f P n (1 + h) x

-- The moves x of a builder of c lots of 2 · w · B records and r records more, in n leaves: each lot is written, in `whole`
-- blocks, and the others in `rest` blocks; these may be read and written once more, for the last lot, with its last block;
-- each leaf's block is stored; the leaves are listed, in `list` blocks; and the levels are built.
pub record BuilderMoves (w B P c r n x : ℕ) : Type 0 where
  pub whole : ℕ
  pub rest : ℕ
  pub list : ℕ
  pub height : ℕ
  pub above : ℕ
  pub whole_is : IsCeil whole P (2 * w * B)
  pub rest_is : IsCeil rest P r
  pub list_is : IsCeil list P (2 * n)
  pub levels : LevelMoves (2 * w) P n height above
  pub most : x ≤ 2 * whole * c + 6 * rest + 2 + 2 * n + 2 * list + above

-- all moves of a builder of p records
abbrev pub builder_share : ShapeNumbers → ℕ → ℕ
builder_share shape p = 12 * (blocks_of shape p + 1)
