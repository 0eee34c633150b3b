use Rattle.std.proofs.Common.{◌≡◌, ◌+◌, ◌≤◌, ◌++◌, drop, IsTrue}
use Rattle.em_space.specs.Held.{Within}
use Rattle.em_space.specs.Rig.{Goes}
use Rattle.em_space.specs.Seen.{seen}
use Rattle.em_chain.specs.Writer.{IsWriter, writer_blocks, writer_items}
use Rattle.em_devices.proofs.lists.append_all.Given as goal

abbrev pub invariant-loop-record : goal.invariant-loop-record
invariant-loop-record g l = record {
  goes : Goes (writer_blocks (seen g.D.Device.state l.fn.rig) l.fn.writer)
      (seen g.D.Device.state l.fn.rig) (seen g.D.Device.state l.rig);
  is : IsWriter (seen g.D.Device.state l.rig) l.writer;
  within : Within (seen g.D.Device.state l.fn.rig)
      (writer_blocks (seen g.D.Device.state l.fn.rig) l.fn.writer)
      (writer_blocks (seen g.D.Device.state l.rig) l.writer);
  items : IsTrue (seen g.D.Device.state l.fn.rig).device.told
      → writer_items (seen g.D.Device.state l.fn.rig) l.fn.writer ++ l.records
      ≡ writer_items (seen g.D.Device.state l.rig) l.writer ++ drop l.record-index l.records;
  count : l.writer.count ≡ l.fn.writer.count + l.record-index;
  blocks : l.writer.blocks ≤ l.fn.writer.blocks + l.record-index;
}
