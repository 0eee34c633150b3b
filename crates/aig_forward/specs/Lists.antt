-- The bits of a step become one list.
use Rattle.std.specs.Prelude.{◌≡◌, ◌+◌, ◌++◌, IsTrue, Result, Ok, Err}
use Rattle.em_space.specs.Ledger.{Runs, Stops}
use Rattle.em_space.specs.Rig.{RigState}
use Rattle.em_space.specs.declared.fault.EmFault.{EmFault}
use Rattle.em_chain.specs.Chain.{IsChain, chain_blocks, chain_items}
use Rattle.em_chain.specs.declared.chain.Chain.{Chain}
use Rattle.aig_sweep.specs.Lists.{lists_account}

-- The second list stands after the first, as one list with all their records. Over any device it
-- has as many as both.
pub record JoinsBits (s t : RigState) (f g c : Chain) : Type 0 where
  pub is : IsChain t c
  pub items : IsTrue s.device.told → chain_items t c ≡ chain_items s f ++ chain_items s g
  pub count_is : c.count ≡ f.count + g.count
  pub blocks_are : c.blocks ≡ f.blocks + g.blocks
  pub runs : Runs (f.blocks + g.blocks) (chain_blocks s f ++ chain_blocks s g) (chain_blocks t c)
      (lists_account (f.blocks + g.blocks) 4) (lists_account c.blocks 0) s t

-- what joining them did: four moves at most
abbrev pub JoinsTo : RigState → RigState → Chain → Chain → Result Chain EmFault → Type 0
JoinsTo s t f g (Ok c) = JoinsBits s t f g c
JoinsTo s t f g (Err fault) =
    Stops (f.blocks + g.blocks) 0 0 (chain_blocks s f ++ chain_blocks s g)
    (lists_account (f.blocks + g.blocks) 4) s t fault
