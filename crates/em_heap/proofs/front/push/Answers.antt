use Rattle.em_heap.proofs.Heaps.{pushes}
use Rattle.em_heap.proofs.front.push.Goals as goal

pub returns : goal.returns
returns c =
    pushes c.args.records.now c.sift_up.new.s c.args.len c.args.item c.requires.room
    c.requires.heap c.sift_up.ensures
