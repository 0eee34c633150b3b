-- A map that begins at the pairs of a tree which a builder made, as a service, and its laws.
use Rattle.std.specs.Prelude.{◌≡◌, ℕ, ◌+◌, ◌≤◌, ◌^◌, false, List, [], length}
use Rattle.std.proofs.Common.{arith, refl}
use Rattle.em_record.specs.Shape.{ShapeNumbers}
use Rattle.em_model.specs.Base.{puts_of}
use Rattle.em_settle.specs.Add.{apply_of}
use Rattle.em_settle.specs.declared.add.AddSettle.{AddSettle}
use Rattle.em_space.specs.Rig.{RigState, Touches}
use Rattle.em_bulk_plan.specs.Moves.{builder_share}
use Rattle.em_tree_cost.proofs.Rising.{div_ceil_rises}
use Rattle.em_tree.specs.declared.tree.Tree.{Tree}
use Rattle.em_trunk.specs.Trunk.{trunk_blocks, trunk_unstored}
use Rattle.em_map.specs.Batch.{HasCommands, areas_of, batch_blocks, rule_of, trunk_of}
use Rattle.em_services.specs.BatchLaws.{rising as map_rises}
use Rattle.em_services.specs.BatchService.{batch_counts, map_share}
use Rattle.em_services.specs.Service.{RisesBySize, ServiceCounts}
use Rattle.em_services.specs.declared.load_service.Load.{Load}

-- the moves of a map of n commands that begins at the pairs of a tree: those of a map, and those of the tree's builder
abbrev pub load_share : ShapeNumbers → ℕ → ℕ
load_share shape n = map_share shape n + builder_share shape n

-- the numbers of a service that made this many moves more
abbrev pub with_moves : ℕ → ServiceCounts → ServiceCounts
with_moves more c = record c { spent = λ shape. more + c.spent shape }

-- the numbers of a load: the builder's moves count as its own
abbrev pub load_counts : {F : Type 0} → Load F → ServiceCounts
load_counts v = with_moves v.built (batch_counts v.batch)

-- Its batch joins no adds early, and its builder made at most the moves that the pairs of its tree allow.
pub record IsLoaded {F : Type 0} (s : RigState) (v : Load F) : Type 0 where
  pub plain : v.batch.early ≡ false
  pub built : v.built ≤ builder_share s.pool.shape (trunk_of v.batch).adopted

-- A load begins at these pairs of a tree: each is a put that it took, no sync came, and the moves so far are the builder's. Its
-- blocks are the tree's, it holds no area, and it takes 2^40 commands more.
pub record BeginsLoad {F : Type 0} (s : RigState) (tree : Tree (AddSettle F)) (built : ℕ) (pairs : List (ℕ × ℕ))
    (v : Load F) : Type 0 where
  pub has : HasCommands s v.batch [] (puts_of pairs)
  pub n : (load_counts v).n ≡ length pairs
  pub syncs : (load_counts v).syncs ≡ 0
  pub spent : (shape : ShapeNumbers) → (load_counts v).spent shape ≡ built
  pub unstored : (load_counts v).unstored ≡ trunk_unstored tree.trunk
  pub none_out : areas_of v.batch ≡ 0
  pub blocks : batch_blocks s v.batch ≡ trunk_blocks s tree.trunk
  pub joins : rule_of v.batch ≡ apply_of tree.settle.kind
  pub bounds : 2 ^ 40 + (trunk_of v.batch).adopted ≡ 2 ^ 40 + length pairs

-- more pairs are allowed no fewer moves,
pub builder_rises : (shape : ShapeNumbers) (m n : ℕ) → m ≤ n → builder_share shape m ≤ builder_share shape n
builder_rises shape m n h = let blocks = div_ceil_rises shape.block m n h in omega (arith, blocks)

-- nor are more commands
pub rising : RisesBySize load_share
rising shape m n is h =
    let map = map_rises shape m n is h in
    let built = builder_rises shape m n h in
    omega (arith, map, built)

-- no fewer than a map's
pub map_within : (shape : ShapeNumbers) (n : ℕ) → map_share shape n ≤ load_share shape n
map_within shape n = omega arith

-- what a builder may move is the same for equal numbers
pub share_kept : (built m n : ℕ) (p q : ShapeNumbers) → q ≡ p → n ≡ m → built ≤ builder_share p m → built ≤ builder_share q n
share_kept built m n p q shape count h = rw shape (rw count h)

-- A call that changes none of its blocks leaves it as it is.
pub loaded_stays : {F : Type 0} (v : Load F) (held : List ℕ) (s t : RigState) → Touches held s t → IsLoaded s v → IsLoaded t v
loaded_stays v held s t touches l = record {
  plain = l.plain;
  built = share_kept v.built (trunk_of v.batch).adopted (trunk_of v.batch).adopted s.pool.shape t.pool.shape touches.shape
      refl l.built;
}
