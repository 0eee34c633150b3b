-- A list that is taken as a chain, with a list with no record in its place.
use Rattle.std.specs.Prelude.{◌≡◌, ℕ, ◌+◌, ◌≤◌, min, Result, Ok, Err}
use Rattle.em_space.specs.Rig.{IfFull, RigState}
use Rattle.em_space.specs.declared.fault.EmFault.{EmFault}
use Rattle.em_chain.specs.Chain.{chain_blocks}
use Rattle.em_chain.specs.Writer.{WriterHasFrame, filled, writer_blocks}
use Rattle.em_chain.specs.Writes.{Finishes}
use Rattle.em_chain.specs.declared.chain.Chain.{Chain}
use Rattle.em_chain.specs.declared.writer.Writer.{Writer}
use Rattle.em_tree_walk.specs.Paid.{RunsPaid, StopsPaid}
use Rattle.em_trunk.specs.Lists.{IsFresh}

-- as many blocks are in use, and at most n moves were made
pub record MovesUpTo (n : ℕ) (s t : RigState) : Type 0 where
  pub used : t.used ≡ s.used
  pub most : t.most ≡ s.most
  pub moves : t.moves ≤ s.moves + n

-- The list is a chain.
pub record TookList (s t : RigState) (w v : Writer) (c : Chain) : Type 0 where
  pub runs : RunsPaid (writer_blocks s w) (chain_blocks t c) (min w.blocks 1) 0 s t
  pub finishes : Finishes s t w c
  pub fresh : IsFresh t v
  pub filled_is : filled t v ≡ 0
  pub bounds : MovesUpTo (min w.blocks 1) s t

-- Its last block couldn't be stored.
pub record StopsTakingList (s t : RigState) (w v : Writer) (fault : EmFault) : Type 0 where
  pub stops : StopsPaid (writer_blocks s w) (min w.blocks 1) 1 s t fault
  pub frame : WriterHasFrame t v
  pub full : IfFull fault (λ _. ⊥)
  pub bounds : MovesUpTo (min w.blocks 1) s t

-- the same by the result
abbrev pub TakesList : RigState → RigState → Writer → Writer → Result Chain EmFault → Type 0
TakesList s t w v (Ok c) = TookList s t w v c
TakesList s t w v (Err fault) = StopsTakingList s t w v fault
