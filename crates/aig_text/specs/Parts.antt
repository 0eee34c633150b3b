-- What a call that takes a circuit's parts asks of them.
use Rattle.std.specs.Prelude.{◌≡◌, ◌+◌, ℕ, List, IsTrue}
use Rattle.em_space.specs.Held.{Holds}
use Rattle.em_space.specs.Rig.{RigState}
use Rattle.em_chain.specs.Chain.{IsChain, payload_in}
use Rattle.em_chain.specs.Counts.{ceiling}
use Rattle.em_chain.specs.declared.chain.Chain.{Chain}
use Rattle.aig_defs.specs.Circuit.{Circuit, IsHeader, columns}
use Rattle.aig_text.specs.Ascii.{ArePartsOf, ClimbIfSaid, OfSomeCircuit, StraightIfSaid}
use Rattle.aig_text.specs.Draft.{chains_blocks, four_blocks}
use Rattle.aig_text.specs.declared.parts.Parts.{Parts}

-- A chain of n records.
pub record IsChainOf (s : RigState) (n : ℕ) (c : Chain) : Type 0 where
  pub is : IsChain s c
  pub count_is : c.count ≡ n

-- A chain of n records in as few blocks as have room for them.
pub record IsCompactOf (s : RigState) (n : ℕ) (c : Chain) : Type 0 where
  pub is : IsChain s c
  pub count_is : c.count ≡ n
  pub blocks_is : c.blocks ≡ ceiling n (payload_in s)

-- the blocks of a circuit's lists of definitions, gates and uses, and those of all its parts
abbrev pub lists_blocks : RigState → Parts → List ℕ
lists_blocks s p = chains_blocks s p.defs p.gates p.uses

abbrev pub parts_blocks : RigState → Parts → List ℕ
parts_blocks s p = four_blocks s p.defs p.gates p.uses p.resets

-- The header is in its limits. The chains are as long as it says, that of the resets has no spare block,
-- and their blocks are apart. If the device tells, they are those of some circuit, whose definitions climb or
-- which is straight if the parts say so.
pub record IsParts (s : RigState) (p : Parts) : Type 0 where
  pub header : IsHeader p.header
  pub defs : IsChainOf s (p.header.inputs + p.header.latches + p.header.gates) p.defs
  pub gates : IsChainOf s p.header.gates p.gates
  pub uses : IsChainOf s (p.header.latches + columns p.header) p.uses
  pub resets : IsCompactOf s p.header.latches p.resets
  pub blocks : IsTrue s.device.told → Holds s (parts_blocks s p)
  pub stands : IsTrue s.device.told → OfSomeCircuit s p
  pub climb : ClimbIfSaid p.climbs s p.defs
  pub straight : StraightIfSaid p.straight s p.defs p.gates

-- A circuit's parts after a call that left their blocks alone: they are those of the same circuits.
pub record PartsStay (s t : RigState) (p : Parts) : Type 0 where
  pub is : IsParts t p
  pub blocks : IsTrue s.device.told → parts_blocks t p ≡ parts_blocks s p
  pub are : IsTrue s.device.told → (c : Circuit) → ArePartsOf s p c → ArePartsOf t p c
