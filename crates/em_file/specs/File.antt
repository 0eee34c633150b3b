-- A file as a device. It tells nothing of what the file holds.
use Rattle.std.specs.Prelude.{◌≡◌, ◌<◌, ◌≤◌, ◌*◌, ◌^◌, ℕ, Bool, true, false, List, [], replicate, Result, Ok, Err, is_err, if◌then◌else◌, vec_len}
use Rattle.std.specs.Global.{Vec}
use Rattle.em_record.specs.Count.{next_count}
use Rattle.em_frames.specs.Device.{DeviceState}
use Rattle.em_frames.specs.declared.device.BeginFault.{BeginFault}

-- its number of blocks and the records of a block, both 0 before it was begun; the bytes of one
-- block, those that it read or wrote last; its failed calls, and the blocks that it moved
pub record FileState : Type 0 where
  pub blocks : ℕ
  pub block : ℕ
  pub buffer : List ℕ
  pub faults : ℕ
  pub moves : ℕ

-- what it tells as a device
abbrev pub untold_device : FileState → DeviceState
untold_device s = record {
  told = false;
  contents = [];
  blocks = s.blocks;
  block = s.block;
  faults = s.faults;
  moves = s.moves;
}

-- after `begin`: it has these sizes and a buffer of zeros, or a failure was counted
abbrev pub after_begin : {T : Type 0} → Result T BeginFault → ℕ → ℕ → FileState → FileState
after_begin (Ok x) block blocks s = record s {
  block = block;
  blocks = blocks;
  buffer = replicate (32 * block) 0;
}
after_begin (Err fault) block blocks s = record s { faults = next_count s.faults }

-- after `read` or `write` of these bytes: the move was counted, and a failure too
abbrev pub after_move : {T E : Type 0} → Result T E → List ℕ → FileState → FileState
after_move result bytes s = record s {
  buffer = bytes;
  moves = next_count s.moves;
  faults = if is_err result then next_count s.faults else s.faults;
}

-- A device that was begun has an open file, and a buffer of one block.
pub record IsReady (blocks block moves : ℕ) (is_open : Bool) (buffer : Vec ℕ) : Type 0 where
  pub none_yet : blocks ≡ 0 → moves ≡ 0
  pub opened : 0 < blocks → is_open ≡ true
  pub room : vec_len buffer ≡ 32 * block
  pub block_most : block ≤ 65536
  pub blocks_most : blocks ≤ 2 ^ 40
