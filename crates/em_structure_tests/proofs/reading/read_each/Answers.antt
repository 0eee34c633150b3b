use Rattle.em_space.specs.Seen.{seen}
use Rattle.em_space.proofs.Within.{goes_within, within_then}
use Rattle.em_devices.proofs.Walks.{reader_within}
use Rattle.em_structure_tests.proofs.reading.read_each.Goals as goal

pub loop-preserved : goal.loop-preserved
loop-preserved g c =
    let i = c.loop.invariant in
    let n = c.in_ok-item.ensures in
    let reads = rw c.in-Some.is at n.reads in
    let s = seen g.D.Device.state c.args.rig.now in
    let t = seen g.D.Device.state c.loop.rig in
    let u = seen g.D.Device.state c.next.new.rig in
    record {
      goes = goes_within _ _ _ _ _ i.goes i.within n.goes;
      is = reads.is;
      within = within_then s t _ _ _ i.goes.touches i.within
          (reader_within t u c.loop.reader c.next.new.self reads.taking reads.blocks);
    }
