-- Sessions of which it is known how many blocks aren't stored, and that no block is lost.
use Rattle.std.specs.Prelude.{◌≡◌, ℕ, ◌+◌, List, length, IsTrue}
use Rattle.em_frames.specs.Pool.{SameFrames}
use Rattle.em_space.specs.Ledger.{Session}
use Rattle.em_space.specs.Queue.{Pays}
use Rattle.em_space.specs.Rig.{RigState, Cause, Goes}
use Rattle.em_space.specs.declared.fault.EmFault.{EmFault}

-- Of calls on the first blocks, which hold the others now, over a device that tells: the blocks in use
-- rose by as many as these became more. So none is in use that nothing holds.
abbrev pub LosesNone : List ℕ → List ℕ → RigState → RigState → Type 0
LosesNone held ks s t = IsTrue s.device.told → t.used + length held ≡ s.used + length ks

-- Calls on values that held the first blocks at first, and hold the others now. Before, m of those in
-- use weren't stored, and n aren't now. As many frames are free.
pub record RunsPaid (held ks : List ℕ) (m n : ℕ) (s t : RigState) : Type 0 where
  pub session : Session held s t ks
  pub frames : SameFrames s.pool t.pool
  pub pays : Pays m n s t
  pub loses : LosesNone held ks s t

-- Such calls, of which the last one gave up.
pub record StopsPaid (held : List ℕ) (m n : ℕ) (s t : RigState) (fault : EmFault) : Type 0 where
  pub goes : Goes held s t
  pub pays : Pays m n s t
  pub cause : Cause s t fault
