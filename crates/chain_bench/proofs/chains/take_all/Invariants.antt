use Rattle.std.proofs.Common.{◌≡◌, ◌+◌, true, IsTrue}
use Rattle.em_space.specs.Rig.{Goes}
use Rattle.em_space.specs.Seen.{seen}
use Rattle.em_chain.specs.Chain.{chain_blocks}
use Rattle.em_chain.specs.Reader.{IsReader, reader_items, rest_of}
use Rattle.em_space.specs.Held.{Within}
use Rattle.chain_bench.specs.Sums.{sum_from}
use Rattle.chain_bench.proofs.chains.take_all.Given as goal

abbrev pub invariant-loop-item : goal.invariant-loop-item
invariant-loop-item g l = record {
  goes : Goes (chain_blocks (seen g.D.Device.state l.fn.rig) (rest_of l.fn.reader))
      (seen g.D.Device.state l.fn.rig) (seen g.D.Device.state l.rig);
  is : IsReader (seen g.D.Device.state l.rig) l.reader;
  taking : l.reader.taking ≡ true;
  within : Within (seen g.D.Device.state l.fn.rig)
      (chain_blocks (seen g.D.Device.state l.fn.rig) (rest_of l.fn.reader))
      (chain_blocks (seen g.D.Device.state l.rig) (rest_of l.reader));
  used : (seen g.D.Device.state l.rig).used + l.fn.reader.blocks
      ≡ (seen g.D.Device.state l.fn.rig).used + l.reader.blocks;
  sum : IsTrue (seen g.D.Device.state l.fn.rig).device.told
      → sum_from 0 (reader_items (seen g.D.Device.state l.fn.rig) l.fn.reader)
      ≡ sum_from l.sum (reader_items (seen g.D.Device.state l.rig) l.reader);
}

abbrev pub decreases-loop-item : goal.decreases-loop-item
decreases-loop-item g l = l.reader.count
