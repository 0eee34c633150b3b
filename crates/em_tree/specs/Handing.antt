-- The answers of a tree, handed out while the tree goes on.
use Rattle.std.specs.Prelude.{◌≡◌, ◌+◌, ◌≤◌, min, [], ◌++◌, IsTrue, Result, Ok, Err}
use Rattle.em_record.specs.declared.record.Record.{Record}
use Rattle.em_frames.specs.Pool.{SameFrames}
use Rattle.em_space.specs.Ledger.{Session}
use Rattle.em_space.specs.Queue.{Pays}
use Rattle.em_space.specs.Rig.{BlockCause, RigState, SameBlocks}
use Rattle.em_space.specs.declared.fault.EmFault.{EmFault}
use Rattle.em_chain.specs.Chain.{IsChain, IsPacked, chain_blocks, chain_items}
use Rattle.em_chain.specs.declared.chain.Chain.{Chain}
use Rattle.em_tree_walk.specs.Paid.{LosesNone}
use Rattle.em_tree.specs.Calls.{StopsTrunk}
use Rattle.em_trunk.specs.Trunk.{IsTrunk, counts_of, given_by, model_of, trunk_blocks, trunk_unstored}
use Rattle.em_trunk.specs.declared.trunk.Trunk.{Trunk}

-- A chain has the answers given so far, and the tree has none of them any more. It is as it was but for that. No block
-- was taken or released, and its counts don't have the move of the chain's last block.
pub record HandedAnswers (key : Record → Record) (IsOp IsKept : Record → Type 0) (s t : RigState) (v w : Trunk)
    (c : Chain) : Type 0 where
  pub only : w ≡ record v { answers = w.answers }
  pub is : IsTrunk key IsOp IsKept t w
  pub chain : IsChain t c
  pub packed : IsTrue s.device.told → IsPacked t c
  pub items : IsTrue s.device.told → chain_items t c ≡ given_by s v
  pub count : c.count ≡ v.answers.count
  pub blocks : c.blocks ≡ v.answers.blocks
  pub none : IsTrue s.device.told → given_by t w ≡ []
  pub no_block : w.answers.blocks ≡ 0
  pub model : IsTrue s.device.told → model_of t w ≡ model_of s v
  pub session : Session (trunk_blocks s v) s t (chain_blocks t c ++ trunk_blocks t w)
  pub frames : SameFrames s.pool t.pool
  pub pays : Pays (trunk_unstored v) (trunk_unstored w) s t
  pub loses : LosesNone (trunk_blocks s v) (chain_blocks t c ++ trunk_blocks t w) s t
  pub same : SameBlocks s t
  pub counts : counts_of w ≡ counts_of v
  pub moves : t.moves ≤ s.moves + min v.answers.blocks 1

-- The chain's last block wasn't stored: only `abandon` may be called. No block was needed, so it was never full.
pub record StopsHanding (s t : RigState) (v w : Trunk) (fault : EmFault) : Type 0 where
  pub only : w ≡ record v { answers = w.answers }
  pub stops : StopsTrunk s t v w fault
  pub cause : BlockCause s t fault
  pub same : SameBlocks s t
  pub counts : counts_of w ≡ counts_of v
  pub moves : t.moves ≤ s.moves + min v.answers.blocks 1

-- what `take_answers` did, by its result
abbrev pub HandsAnswers : (Record → Record) → (Record → Type 0) → (Record → Type 0) → RigState → RigState → Trunk
    → Trunk → Result Chain EmFault → Type 0
HandsAnswers key IsOp IsKept s t v w (Ok c) = HandedAnswers key IsOp IsKept s t v w c
HandsAnswers key IsOp IsKept s t v w (Err fault) = StopsHanding s t v w fault
