use Rattle.em_segment_parts.proofs.Gets.{takes_load}
use Rattle.em_segment_parts.proofs.loading.take_load.Goals as goal

pub returns-clause-takes : goal.returns-clause-takes
returns-clause-takes g c =
    let o = c.taking-reader.ensures in
    let e = c.abandon.ensures in
    takes_load _ _ _ c.read_load-done.result c.requires.chain c.requires.some o.lends o.unmoved o.opens
    (rw c.len-number.ensures at c.read_load-done.ensures.reads) e.gives e.unmoved
