-- How many blocks the load of a leaf needs, beside those that its values have.
use Rattle.std.specs.Prelude.{ℕ, ◌+◌, ◌-◌, ◌*◌, ◌<◌, ◌≤◌, min, nat_le, if◌then◌else◌, List, length, take, IsTrue, Option, Some, None, Result, Ok, Err}
use Rattle.em_record.specs.Order.{in_order}
use Rattle.em_record.specs.Shape.{fan_of}
use Rattle.em_record.specs.declared.record.Record.{Record}
use Rattle.em_space.specs.Rig.{RigState, IfFull}
use Rattle.em_space.specs.declared.fault.EmFault.{EmFault}
use Rattle.em_chain.specs.Chain.{chain_items}
use Rattle.em_chain.specs.declared.chain.Chain.{Chain}
use Rattle.em_chain.specs.declared.writer.Writer.{Writer}
use Rattle.em_settle.specs.Keys.{record_at}
use Rattle.em_settle.specs.Lists.{list_with_ops}
use Rattle.em_settle.specs.States.{answers_to}
use Rattle.em_settle.specs.declared.step.Step.{Step}
use Rattle.em_leaf.specs.Effects.{loading_room}
use Rattle.em_leaf.specs.Leaf.{leaf_most}
use Rattle.em_leaf.specs.Needs.{parts_blocks}
use Rattle.em_leaf.specs.Passing.{answers_most}
use Rattle.em_tree_blocks.specs.Reading.{leaf_items}
use Rattle.em_tree_load.specs.LeafLoads.{entry_in, taken_of, waiting_over}
use Rattle.em_tree_load.specs.LeafSettles.{load_count}
use Rattle.em_tree_load.specs.declared.changing.Split.{Split}

-- What a call took, on lists that had the first number of blocks and need the second, by its result:
-- at most as many as they need; or all blocks are in use, which are fewer.
abbrev pub Takes : {T : Type 0} → ℕ → ℕ → RigState → RigState → Result T EmFault → Type 0
Takes had need s t (Ok x) = t.used + had ≤ s.used + need
Takes had need s t (Err fault) = IfFull fault (λ _. s.blocks + had < s.used + need)

-- the first n of some operations, in order
abbrev pub first_ops : ℕ → List Record → List Record
first_ops n ops = in_order (take n ops)

-- how many records result of a load of n operations over the stored ones,
abbrev pub results_of : (Record → Record) → (Option Record → Record → Step) → List Record
    → List Record → ℕ → ℕ
results_of key step stored ops n = length (list_with_ops key step stored (first_ops n ops))

-- and how many answers
abbrev pub answers_of : (Record → Record) → (Option Record → Record → Step) → List Record
    → List Record → ℕ → ℕ
answers_of key step stored ops n =
    length (answers_to key step (record_at key stored) (first_ops n ops))

-- the blocks that these need: those of the parts, and those of the answers' writer
abbrev pub settling_need : (Record → Record) → (Option Record → Record → Step) → RigState
    → List Record → List Record → ℕ → Writer → ℕ
settling_need key step s stored ops n w = answers_most s w (answers_of key step stored ops n)
    + parts_blocks s (results_of key step stored ops n)

-- What settling the first operations of a buffer over a leaf's chain took.
pub record TakesSettling {T : Type 0} (key : Record → Record)
    (step : Option Record → Record → Step) (s t : RigState) (stored buffer : Chain) (w : Writer)
    (result : Result T EmFault) : Type 0 where
  pub room : Takes 0 (loading_room s (load_count s buffer)) s t result
  pub needs : IsTrue s.device.told → Takes w.blocks (settling_need key step s (chain_items s stored)
      (chain_items s buffer) (load_count s buffer) w) s t result

-- how many new leaves a change has
abbrev pub new_leaves : Option (Record × Chain) → ℕ
new_leaves None = 0
new_leaves (Some p) = 1

-- the blocks for a leaf that is split: its own, one for each buffer that gets some of the
-- operations that are left, and one to write them
abbrev pub split_room : RigState → ℕ → ℕ
split_room s rest = min rest (2 * fan_of s.pool.shape) + 2

-- how many blocks more a load may need at a moment, at most
abbrev pub load_leaf_room : RigState → ℕ → ℕ → ℕ
load_leaf_room s node i = let n = length (waiting_over s node i) in
    loading_room s (taken_of s n) + split_room s (n - taken_of s n)

-- how many records result of a load,
abbrev pub results_over : (Record → Record) → (Option Record → Record → Step) → RigState → ℕ → ℕ → ℕ
results_over key step s node i = results_of key step (leaf_items s (entry_in s node i))
    (waiting_over s node i) (taken_of s (length (waiting_over s node i)))

-- and the blocks that they and the answers need
abbrev pub needs_over : (Record → Record) → (Option Record → Record → Step) → RigState → ℕ → ℕ
    → Writer → ℕ
needs_over key step s node i w = settling_need key step s (leaf_items s (entry_in s node i))
    (waiting_over s node i) (taken_of s (length (waiting_over s node i))) w

-- the blocks that a load needs: those of what results and of the answers, and if that is too much for
-- one leaf, those for the split
abbrev pub load_leaf_need : (Record → Record) → (Option Record → Record → Step) → RigState → ℕ → ℕ
    → Writer → ℕ
load_leaf_need key step s node i w = needs_over key step s node i w
    + (if nat_le (results_over key step s node i) (leaf_most s.pool.shape) then 0
    else let n = length (waiting_over s node i) in split_room s (n - taken_of s n))

-- What a load took until a leaf was split.
pub record TakesSplit (key : Record → Record) (step : Option Record → Record → Step)
    (s t : RigState) (node i : ℕ) (w : Writer) : Type 0 where
  pub more : leaf_most s.pool.shape < results_over key step s node i
  pub room : t.used ≤ s.used + (loading_room s (taken_of s (length (waiting_over s node i))) + 1)
  pub needs : t.used + w.blocks ≤ s.used + (needs_over key step s node i w + 1)

-- All blocks are in use, which are fewer than a load needs.
pub record LacksLoad (key : Record → Record) (step : Option Record → Record → Step)
    (s : RigState) (node i : ℕ) (w : Writer) : Type 0 where
  pub room : s.blocks < s.used + load_leaf_room s node i
  pub needs : s.blocks + w.blocks < s.used + load_leaf_need key step s node i w

-- what a load took until then, over a device that tells, by its result
abbrev pub TakesHere : (Record → Record) → (Option Record → Record → Step) → RigState → RigState → ℕ
    → ℕ → Writer → Result (Option Split) EmFault → Type 0
TakesHere key step s t node i w (Ok None) = Unit {0}
TakesHere key step s t node i w (Ok (Some x)) = TakesSplit key step s t node i w
TakesHere key step s t node i w (Err fault) = IfFull fault (λ _. LacksLoad key step s node i w)
