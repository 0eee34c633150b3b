use Rattle.em_space.specs.Held.{Within}
use Rattle.em_space.specs.Rig.{Goes}
use Rattle.em_space.specs.Seen.{seen}
use Rattle.em_chain.specs.Reader.{IsReader, reader_blocks}
use Rattle.em_structure_tests.proofs.reading.read_each.Given as goal

abbrev pub invariant-loop : goal.invariant-loop
invariant-loop g l = record {
  goes : Goes (reader_blocks (seen g.D.Device.state l.fn.rig) l.fn.reader)
      (seen g.D.Device.state l.fn.rig) (seen g.D.Device.state l.rig);
  is : IsReader (seen g.D.Device.state l.rig) l.reader;
  within : Within (seen g.D.Device.state l.fn.rig)
      (reader_blocks (seen g.D.Device.state l.fn.rig) l.fn.reader)
      (reader_blocks (seen g.D.Device.state l.rig) l.reader);
}
