-- What the steps of the bench leave.
use Rattle.std.specs.Prelude.{◌≡◌, ℕ, ◌+◌, [], replicate, IsTrue}
use Rattle.em_frames.specs.Device.{block_at}
use Rattle.em_space.specs.Rig.{RigState, InUse}
use Rattle.em_node.specs.Node.{Is}
use Rattle.em_tree_model.specs.Pouring.{given_out}
use Rattle.em_tree_blocks.specs.Reading.{entries_at, buffer_items}
use Rattle.bench_runs.specs.Numbered.{records_below}
use Rattle.empty_bench.specs.Places.{bare_entries, place_in_node, place_sum, weight_from}

-- A block that wasn't in use is a node of 64 places with nothing in their buffers.
pub record MakesNode (old new : RigState) (node : ℕ) : Type 0 where
  pub fresh : IsTrue old.device.told → InUse old node → ⊥
  pub in_use : InUse new node
  pub is : IsTrue old.device.told → Is (block_at new.device node) 1 (bare_entries (node + 1) 0 64)

-- Each record of the numbers below one is in the buffer of its place, in the order of the numbers.
pub record HasRecords (s : RigState) (node count : ℕ) : Type 0 where
  pub items : buffer_items s (entries_at s node)
      ≡ given_out place_in_node (replicate 64 []) (records_below count)
  pub weight : weight_from 1 (entries_at s node) ≡ place_sum count
