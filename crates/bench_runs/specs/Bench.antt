-- What stands on the device before a bench runs.
use Rattle.std.specs.Prelude.{◌≡◌, ℕ, ◌≤◌, ◌^◌, false, IsTrue}
use Rattle.em_record.specs.Shape.{ShapeNumbers}
use Rattle.em_frames.specs.Pool.{singles_of}
use Rattle.em_space.specs.Rig.{RigState, Sound}
use Rattle.em_chain.specs.Chain.{IsChain, chain_items}
use Rattle.em_chain.specs.declared.chain.Chain.{Chain}
use Rattle.bench_runs.specs.Numbered.{records_below}

-- the shape of each run: blocks of 1024 records, and 256 frames
abbrev pub run_shape : ShapeNumbers
run_shape = record { block = 1024; frames = 256 }

-- A chain has the records of the numbers below one. No other block is in use, and all single frames
-- and the rack are free.
pub record StartsWith (s : RigState) (chain : Chain) (count : ℕ) : Type 0 where
  pub sound : Sound s
  pub shape : s.pool.shape ≡ run_shape
  pub free : s.pool.free ≡ singles_of run_shape
  pub rack : s.pool.rack_out ≡ false
  pub is : IsChain s chain
  pub used : s.used ≡ chain.blocks
  pub items : IsTrue s.device.told → chain_items s chain ≡ records_below count
  pub few : count ≤ 2 ^ 40
