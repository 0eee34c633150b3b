-- A device in memory. It tells its contents, and keeps the blocks up to the last one written.
use Rattle.std.specs.Prelude.{◌≡◌, ℕ, ◌-◌, ◌^◌, ◌≤◌, true, List, ◌++◌, map, length, vec_len}
use Rattle.std.specs.List.{All}
use Rattle.std.specs.Global.{Vec}
use Rattle.em_record.specs.Calls.{CallCounts}
use Rattle.em_record.specs.declared.record.Record.{Record}
use Rattle.em_frames.specs.Device.{DeviceState, zero_blocks}

-- its contents, its number of blocks, the records of a block, its moves, how many blocks it keeps,
-- and the counts of its calls
pub record MemState : Type 0 where
  pub contents : List (List Record)
  pub blocks : ℕ
  pub block : ℕ
  pub moves : ℕ
  pub kept : ℕ
  pub counts : CallCounts

-- what it tells as a device
abbrev pub device_of : MemState → DeviceState
device_of m = record {
  told = true;
  contents = m.contents;
  blocks = m.blocks;
  block = m.block;
  faults = m.counts.faults;
  moves = m.moves;
}

-- the blocks that are kept, and blocks of zeros after them
abbrev pub all_blocks : ℕ → ℕ → List (Vec Record) → List (List Record)
all_blocks block blocks kept = map (λ v. v.items) kept ++ zero_blocks block (blocks - length kept)

-- the blocks that are kept are blocks of the device, which hasn't moved any before it was begun
pub record IsKept (blocks block moves : ℕ) (kept : Vec (Vec Record)) : Type 0 where
  pub begun : blocks ≡ 0 → moves ≡ 0
  pub within : vec_len kept ≤ blocks
  pub block_most : block ≤ 65536
  pub blocks_most : blocks ≤ 2 ^ 40
  pub lens : All (λ v. vec_len v ≡ block) kept.items
