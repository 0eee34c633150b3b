-- The two lists of a tree: the root's buffer taken out, the answers taken out or as a chain, and both given up.
use Rattle.std.specs.Prelude.{◌≡◌, ◌+◌, ◌≤◌, [], min, IsTrue, Result, Ok, Err}
use Rattle.em_space.specs.Queue.{Pays}
use Rattle.em_space.specs.Rig.{BlockCause, Cause, Goes, RigState, SameBlocks, IfFull, Sound, Touches}
use Rattle.em_space.specs.declared.fault.EmFault.{EmFault}
use Rattle.em_space.specs.Ledger.{Session}
use Rattle.em_chain.specs.Writer.{IsPackedSoFar, IsWriter, WriterHasFrame, writer_blocks, writer_items}
use Rattle.em_chain.specs.Writes.{Finishes}
use Rattle.em_chain.specs.declared.chain.Chain.{Chain}
use Rattle.em_chain.specs.declared.writer.Writer.{Writer}
use Rattle.em_chain.specs.Chain.{chain_blocks}
use Rattle.em_trunk.specs.declared.trunk.Trunk.{Trunk}
use Rattle.em_frames.specs.Pool.{GivenFrames}

-- A list with no record and no block, which begins.
pub record IsFresh (s : RigState) (w : Writer) : Type 0 where
  pub is : IsWriter s w
  pub count : w.count ≡ 0
  pub blocks : w.blocks ≡ 0
  pub items : IsTrue s.device.told → writer_items s w ≡ []
  pub held : IsTrue s.device.told → writer_blocks s w ≡ []
  pub packed : IsTrue s.device.told → IsPackedSoFar s w

-- The root's buffer was taken out as a chain, and a fresh list is in its place.
pub record TookAll (s a : RigState) (v w : Trunk) (c : Chain) : Type 0 where
  pub is : w ≡ record v { buffer = w.buffer }
  pub goes : Goes (writer_blocks s v.buffer) s a
  pub same : SameBlocks s a
  pub moves : a.moves ≤ s.moves + 1
  pub pays : Pays (min v.buffer.blocks 1) 0 s a
  pub fresh : IsFresh a w.buffer
  pub finishes : Finishes s a v.buffer c

-- It wasn't stored: the fresh list is there, and the last block is given up.
pub record StopsTakingAll (s a : RigState) (v w : Trunk) (fault : EmFault) : Type 0 where
  pub is : w ≡ record v { buffer = w.buffer }
  pub goes : Goes (writer_blocks s v.buffer) s a
  pub same : SameBlocks s a
  pub moves : a.moves ≤ s.moves + 1
  pub frame : WriterHasFrame a w.buffer
  pub cause : Cause s a fault

-- what taking it did, by its result
abbrev pub TakesAll : RigState → RigState → Trunk → Trunk → Result Chain EmFault → Type 0
TakesAll s a v w (Ok c) = TookAll s a v w c
TakesAll s a v w (Err fault) = StopsTakingAll s a v w fault

-- The answers given so far were taken out as a chain, and a fresh list is in their place.
pub record TookAnswers (s a : RigState) (v w : Trunk) (c : Chain) : Type 0 where
  pub is : w ≡ record v { answers = w.answers }
  pub goes : Goes (writer_blocks s v.answers) s a
  pub same : SameBlocks s a
  pub moves : a.moves ≤ s.moves + min v.answers.blocks 1
  pub pays : Pays (min v.answers.blocks 1) 0 s a
  pub fresh : IsFresh a w.answers
  pub finishes : Finishes s a v.answers c

-- Their last block wasn't stored: the fresh list is there.
pub record StopsTakingAnswers (s a : RigState) (v w : Trunk) (fault : EmFault) : Type 0 where
  pub is : w ≡ record v { answers = w.answers }
  pub goes : Goes (writer_blocks s v.answers) s a
  pub same : SameBlocks s a
  pub moves : a.moves ≤ s.moves + min v.answers.blocks 1
  pub frame : WriterHasFrame a w.answers
  pub cause : BlockCause s a fault

-- what taking them did, by its result
abbrev pub TakesAnswers : RigState → RigState → Trunk → Trunk → Result Chain EmFault → Type 0
TakesAnswers s a v w (Ok c) = TookAnswers s a v w c
TakesAnswers s a v w (Err fault) = StopsTakingAnswers s a v w fault

-- The answers of a tree are a chain, and its two frames are back.
pub record GivenAnswers (s t : RigState) (v : Trunk) (c : Chain) : Type 0 where
  pub session : Session (writer_blocks s v.answers) s t (chain_blocks t c)
  pub chain : Finishes s t v.answers c
  pub frames : GivenFrames 2 s.pool t.pool
  pub pays : Pays (min v.answers.blocks 1) 0 s t
  pub used : t.used ≡ s.used
  pub most : t.most ≡ s.most
  pub moves : t.moves ≤ s.moves + min v.answers.blocks 1

-- The last block of the answers couldn't be stored.
pub record StopsAnswers (s t : RigState) (v : Trunk) (fault : EmFault) : Type 0 where
  pub sound : Sound t
  pub touches : Touches (writer_blocks s v.answers) s t
  pub frames : GivenFrames 2 s.pool t.pool
  pub pays : Pays (min v.answers.blocks 1) 1 s t
  pub used : t.used ≡ s.used
  pub most : t.most ≡ s.most
  pub moves : t.moves ≤ s.moves + min v.answers.blocks 1
  pub cause : Cause s t fault
  pub full : IfFull fault (λ _. ⊥)

-- what that did, by its result
abbrev pub GivesAnswers : RigState → RigState → Trunk → Result Chain EmFault → Type 0
GivesAnswers s t v (Ok c) = GivenAnswers s t v c
GivesAnswers s t v (Err fault) = StopsAnswers s t v fault

-- Both frames came back, and nothing was moved: the blocks stay in use.
pub record LeavesTrunk (s t : RigState) : Type 0 where
  pub sound : Sound t
  pub touches : Touches [] s t
  pub frames : GivenFrames 2 s.pool t.pool
  pub same : t ≡ record s { pool = t.pool }
