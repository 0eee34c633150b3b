-- How many blocks what results and the answers need, where a call stops since all are in use.
use Rattle.std.specs.Prelude.{ℕ, ◌+◌, ◌-◌, ◌<◌, min, List, length, IsTrue, Option}
use Rattle.em_record.specs.declared.record.Record.{Record}
use Rattle.em_space.specs.Rig.{RigState, IfFull}
use Rattle.em_space.specs.declared.fault.EmFault.{EmFault}
use Rattle.em_chain.specs.Chain.{chain_items, payload_in}
use Rattle.em_chain.specs.Counts.{ceiling}
use Rattle.em_chain.specs.Reader.{reader_items}
use Rattle.em_chain.specs.Writer.{filled}
use Rattle.em_chain.specs.declared.chain.Chain.{Chain}
use Rattle.em_chain.specs.declared.reader.Reader.{Reader}
use Rattle.em_chain.specs.declared.writer.Writer.{Writer}
use Rattle.em_settle.specs.Keys.{record_at}
use Rattle.em_settle.specs.Lists.{list_with_ops}
use Rattle.em_settle.specs.Rising.{RisesByKey}
use Rattle.em_settle.specs.States.{answers_to}
use Rattle.em_settle.specs.declared.step.Step.{Step}
use Rattle.em_leaf.specs.Front.{IsFront, items_left, ops_left}
use Rattle.em_leaf.specs.Leaf.{leaf_most, low_count}
use Rattle.em_leaf.specs.Passing.{answers_most}
use Rattle.em_leaf.specs.declared.front.Front.{Front}

-- the records that result of what is left,
abbrev pub items_due : (Record → Record) → (Option Record → Record → Step) → List Record → Front
    → List Record → List Record
items_due key step ops f rest = list_with_ops key step (items_left f rest) (ops_left f ops)

-- and the answers
abbrev pub answers_due : (Record → Record) → (Option Record → Record → Step) → List Record → Front
    → List Record → List Record
answers_due key step ops f rest = answers_to key step (record_at key (items_left f rest))
    (ops_left f ops)

-- Lists that had the first number of blocks and need the second: a call stops since all blocks are in use
-- only if these are fewer than with all that the lists need.
abbrev pub Lacks : RigState → RigState → ℕ → ℕ → EmFault → Type 0
Lacks s t had need fault = IfFull fault (λ _. t.used + had < s.used + need)

-- The answers of what is left need a block.
abbrev pub LacksAnswers : (Record → Record) → (Option Record → Record → Step) → List Record → RigState
    → RigState → Reader → Writer → Front → EmFault → Type 0
LacksAnswers key step ops s t r w f fault = IsTrue s.device.told
    → IsFront key ops f (reader_items s r)
    → Lacks s t w.blocks
    (answers_most s w (length (answers_due key step ops f (reader_items s r)))) fault

-- These answers, or the records that result of what is left, up to a limit, in a list of their own, need
-- one.
abbrev pub LacksItems : ℕ → (Record → Record) → (Option Record → Record → Step) → List Record → RigState
    → RigState → Reader → Writer → Writer → Front → EmFault → Type 0
LacksItems limit key step ops s t r w out f fault = IsTrue s.device.told
    → IsFront key ops f (reader_items s r)
    → Lacks s t (out.blocks + w.blocks)
    (answers_most s w (length (answers_due key step ops f (reader_items s r)))
    + ceiling (filled s out + min limit (length (items_due key step ops f (reader_items s r))))
    (payload_in s)) fault

-- The same with a list that is begun.
abbrev pub LacksPart : ℕ → (Record → Record) → (Option Record → Record → Step) → List Record → RigState
    → RigState → Reader → Writer → Front → EmFault → Type 0
LacksPart limit key step ops s t r w f fault = IsTrue s.device.told
    → IsFront key ops f (reader_items s r)
    → Lacks s t w.blocks
    (answers_most s w (length (answers_due key step ops f (reader_items s r)))
    + ceiling (min limit (length (items_due key step ops f (reader_items s r))))
    (payload_in s)) fault

-- The answers of all operations, or what results in two parts, of which the first has up to a limit, need
-- one.
abbrev pub LacksLeaf : ℕ → (Record → Record) → (Option Record → Record → Step) → List Record → RigState
    → RigState → Reader → Writer → EmFault → Type 0
LacksLeaf limit key step ops s t r w fault = IsTrue s.device.told → RisesByKey key (reader_items s r)
    → Lacks s t w.blocks
    (answers_most s w (length (answers_to key step (record_at key (reader_items s r)) ops))
    + (let n = length (list_with_ops key step (reader_items s r) ops) in
    ceiling (min limit n) (payload_in s) + ceiling (n - min limit n) (payload_in s))) fault

-- the blocks of n records that result: of those in the low part, and of the others
abbrev pub parts_blocks : RigState → ℕ → ℕ
parts_blocks s n = ceiling (low_count (leaf_most s.pool.shape) n) (payload_in s)
    + ceiling (n - low_count (leaf_most s.pool.shape) n) (payload_in s)

-- A load stops since all blocks are in use, over a device that tells, only if fewer were free than both parts
-- and the answers need.
abbrev pub LacksBlocks : (Record → Record) → (Option Record → Record → Step) → RigState → Chain
    → List Record → Writer → EmFault → Type 0
LacksBlocks key step s stored ops w fault = IfFull fault (λ _. IsTrue s.device.told
    → s.blocks + w.blocks < s.used
    + (answers_most s w (length (answers_to key step (record_at key (chain_items s stored)) ops))
    + parts_blocks s (length (list_with_ops key step (chain_items s stored) ops))))
