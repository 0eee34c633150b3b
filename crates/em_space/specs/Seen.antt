-- What clauses see of a rig.
use Rattle.em_frames.specs.Device.{DeviceState}
use Rattle.em_frames.specs.declared.pool.Pool.{Pool}
use Rattle.em_space.specs.declared.rig.Rig.{Rig}
use Rattle.em_space.specs.Rig.{RigState}

abbrev pub seen : {D : Type 0} → (D → DeviceState) → Rig D Pool → RigState
seen state rig = record {
  name = rig.device.ghost_name;
  device = state rig.device.now;
  pool = rig.pool;
  blocks = rig.blocks;
  head = rig.head;
  spare = rig.spare.items;
  used = rig.used;
  most = rig.most;
  moves = rig.moves;
}
