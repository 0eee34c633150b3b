use Rattle.em_frames.specs.Device.{zero_record}
use Rattle.em_heap.proofs.Heaps.{pops}
use Rattle.em_heap.proofs.front.pop.Goals as goal

pub returns : goal.returns
returns c =
    pops c.args.records.now c.sift_down.new.s c.args.len zero_record
    c.requires.some c.requires.heap c.sift_down.ensures
