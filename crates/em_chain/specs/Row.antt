-- What discarding keeps: the blocks of a chain that are left.
use Rattle.std.specs.Prelude.{◌≡◌, ℕ, ◌+◌, ◌*◌, ◌<◌, ◌≤◌, List, length, IsTrue, Result, OnOk}
use Rattle.em_frames.specs.Pool.{SameFrames}
use Rattle.em_space.specs.Free.{linked_from}
use Rattle.em_space.specs.Rig.{RigState, Sound, Touches}
use Rattle.em_space.specs.Held.{Holds, contents_of}
use Rattle.em_space.specs.declared.fault.EmFault.{EmFault}
use Rattle.em_chain.specs.List.{IsRun}
use Rattle.em_chain.specs.Chain.{payload_in, chain_blocks}
use Rattle.em_chain.specs.Within.{Ends}
use Rattle.em_chain.specs.declared.chain.Chain.{Chain}

-- at most n blocks to which a link leads
abbrev pub row : RigState → ℕ → ℕ → List ℕ
row s link n = linked_from n s.device.contents link

-- This many blocks follow a link.
pub record IsRow (s : RigState) (link n : ℕ) : Type 0 where
  pub holds : Holds s (row s link n)
  pub run : IsRun (payload_in s) link (row s link n) (contents_of s (row s link n))
  pub len : length (row s link n) ≡ n

-- A block of the device, after which this many follow if the device tells.
pub record HasRow (s : RigState) (block left : ℕ) : Type 0 where
  pub below : block < s.blocks
  pub row_is : IsTrue s.device.told → IsRow s (block + 1) (left + 1)

-- One block fewer follows.
pub record Drops (s t : RigState) (link next n : ℕ) : Type 0 where
  pub is : IsRow t next n
  pub ends : Ends (row s link (n + 1)) (row t next n)

-- This many blocks were released, by at most two moves each; where the call gave up, perhaps fewer.
pub record Frees {T : Type 0} (n : ℕ) (old new : RigState) (result : Result T EmFault) : Type 0
  where
    pub moves : new.moves ≤ old.moves + 2 * n
    pub used : OnOk result (new.used + n ≡ old.used)
    pub used_most : new.used ≤ old.used
    pub most : new.most ≡ old.most

-- This many blocks of a chain are left.
pub record Discarding (s t : RigState) (c : Chain) (link n : ℕ) : Type 0 where
  pub sound : Sound t
  pub touches : Touches (chain_blocks s c) s t
  pub frames : SameFrames s.pool t.pool
  pub is_row : IsTrue s.device.told → IsRow t link n
  pub ends : IsTrue s.device.told → Ends (chain_blocks s c) (row t link n)
  pub moves : t.moves + 2 * n ≤ s.moves + 2 * c.blocks
  pub used : t.used + c.blocks ≡ s.used + n
  pub most : t.most ≡ s.most
