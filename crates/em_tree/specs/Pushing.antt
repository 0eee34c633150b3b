-- A push before it is counted: an operation is appended to the root's buffer, and full buffers are
-- emptied.
use Rattle.std.specs.Prelude.{◌≡◌, ◌⊎◌, ℕ, ◌+◌, ◌-◌, ◌*◌, ◌<◌, ◌≤◌, [], ◌∷◌, ◌++◌, None, Option, IsTrue, Result, Ok, Err}
use Rattle.em_record.specs.declared.record.Record.{Record}
use Rattle.em_frames.specs.Pool.{SameFrames}
use Rattle.em_space.specs.Ledger.{Session}
use Rattle.em_space.specs.Queue.{Pays}
use Rattle.em_space.specs.Rig.{Cause, Goes, IfFull, RigState}
use Rattle.em_space.specs.declared.fault.EmFault.{EmFault}
use Rattle.em_settle.specs.declared.step.Step.{Step}
use Rattle.em_chain.specs.Writer.{IsPackedSoFar, IsWriter, NeedsBlock, writer_items}
use Rattle.em_tree_model.specs.Meaning.{InTurn}
use Rattle.em_tree_model.specs.Ranges.{IsTree, least_record}
use Rattle.em_tree_model.specs.Tree.{Tree}
use Rattle.em_tree_model.specs.Tree.Tree.{end, entry}
use Rattle.em_tree_walk.specs.Paid.{LosesNone}
use Rattle.em_tree_load.specs.Peaks.{Peaks}
use Rattle.em_trunk.specs.Buffers.{IsThin}
use Rattle.em_trunk.specs.Spots.{EachRead}
use Rattle.em_trunk.specs.Events.{ChargesUpTo}
use Rattle.em_trunk.specs.Steps.{HasSteps}
use Rattle.em_trunk.specs.Room.{MayHold, StopsIn}
use Rattle.em_trunk.specs.Trunk.{TrunkHasFrames, full_limit, given_by, root_of, sums_in, trunk_blocks, trunk_unstored}
use Rattle.em_trunk.specs.Works.{SameNumbers, Works, unstored_most}
use Rattle.em_trunk.specs.declared.trunk.Trunk.{Trunk}

-- the whole tree with an operation more in the root's buffer
abbrev pub model_with : Record → RigState → Trunk → Tree
model_with op s v = entry least_record (writer_items s v.buffer ++ op ∷ []) (root_of s v) end

-- An operation was appended to the root's buffer: nothing else changed. Two moves at most were made for a
-- block that began, and none without one.
pub record Appended (op : Record) (s m : RigState) (v w : Trunk) : Type 0 where
  pub is : w ≡ record v { buffer = w.buffer }
  pub session : Session (trunk_blocks s v) s m (trunk_blocks m w)
  pub frames : SameFrames s.pool m.pool
  pub pays : Pays (trunk_unstored v) (trunk_unstored w) s m
  pub loses : LosesNone (trunk_blocks s v) (trunk_blocks m w) s m
  pub moves : m.moves + 2 * v.buffer.blocks ≤ s.moves + 2 * w.buffer.blocks
  pub peaks : Peaks 1 s m
  pub count : w.buffer.count ≡ v.buffer.count + 1
  pub more : w.buffer.blocks ≤ v.buffer.blocks + 1
  pub buffer : IsWriter m w.buffer
  pub packed : IsTrue s.device.told → IsPackedSoFar m w.buffer
  pub root : IsTrue s.device.told → root_of m w ≡ root_of s v
  pub items : IsTrue s.device.told → writer_items m w.buffer ≡ writer_items s v.buffer ++ op ∷ []
  pub given : IsTrue s.device.told → given_by m w ≡ given_by s v

-- An operation can be pushed: no buffer is full, its keys and its turn are those of an operation that
-- comes last, and the call has its steps.
pub record CanPushOp (key : Record → Record) (IsOp IsKept : Record → Type 0) (op : Record) (s : RigState)
    (v : Trunk) : Type 0 where
  pub few : v.buffer.count < full_limit s.pool.shape
  pub blocks : v.buffer.blocks ≤ v.buffer.count
  pub thin : IsTrue s.device.told → EachRead (IsThin (full_limit s.pool.shape)) s v
  pub is : IsTrue s.device.told → IsTree key (model_with op s v) least_record None
  pub turn : IsTrue s.device.told → InTurn key IsOp IsKept (model_with op s v)
  pub steps : IsTrue s.device.told → (m : RigState) (w : Trunk) → Appended op s m v w → HasSteps 0 m w

-- An operation was pushed. It was appended, and after that buffers were emptied: none is full.
pub record PushedOp (key : Record → Record) (step : Option Record → Record → Step)
    (IsOp IsKept : Record → Type 0) (op : Record) (s t : RigState) (v w : Trunk) : Type 0 where
  pub mid : RigState
  pub after : Trunk
  pub appended : Appended op s mid v after
  pub spare : ℕ
  pub taken : ℕ
  pub works : Works key step IsOp IsKept 0 spare 0 taken mid t after w
  pub few : w.buffer.count < full_limit t.pool.shape
  pub blocks : w.buffer.blocks ≤ w.buffer.count
  pub thin : IsTrue s.device.told → EachRead (IsThin (full_limit t.pool.shape)) t w

-- A push may need a block: the root's buffer needs one, or is full with the operation.
abbrev pub NeedsMore : RigState → Trunk → Type 0
NeedsMore s v = NeedsBlock s v.buffer ⊎ (v.buffer.count + 1 ≡ full_limit s.pool.shape)

-- A push gave up: at the append, or after it, with moves that are paid for then.
pub record StopsPush (op : Record) (s t : RigState) (v w : Trunk) (fault : EmFault) : Type 0 where
  pub goes : Goes (trunk_blocks s v) s t
  pub frames : TrunkHasFrames t w
  pub numbers : SameNumbers v w
  pub pays : Pays (trunk_unstored v) (unstored_most s) s t
  pub cause : Cause s t fault
  pub needs : IfFull fault (λ _. NeedsMore s v)
  pub charges : IsTrue s.device.told → (t.moves ≤ s.moves + 2)
      ⊎ ((m : RigState) × (x : Trunk) × Appended op s m v x
      × ChargesUpTo s.pool.shape v.longest 0 (t.moves - m.moves) 0 (sums_in m x))
  pub room : IsTrue s.device.told → (g : ℕ) → MayHold g 0 s v
      → ((m : RigState) (x : Trunk) → Appended op s m v x → MayHold g 0 m x) → StopsIn g s t v fault

-- what a push did before it was counted, by its result
abbrev pub PushesTo : {T : Type 0} → (Record → Record) → (Option Record → Record → Step)
    → (Record → Type 0) → (Record → Type 0) → Record → RigState → RigState → Trunk → Trunk
    → Result T EmFault → Type 0
PushesTo key step IsOp IsKept op s t v w (Ok x) = PushedOp key step IsOp IsKept op s t v w
PushesTo key step IsOp IsKept op s t v w (Err fault) = StopsPush op s t v w fault
