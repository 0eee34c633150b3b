use Rattle.em_frames.specs.Device.{zero_record}
use Rattle.em_heap.proofs.Heaps.{peeks}
use Rattle.em_heap.proofs.front.peek.Goals as goal

pub returns : goal.returns
returns c =
    peeks c.args.records.now c.args.len zero_record c.requires.some
    c.requires.heap
