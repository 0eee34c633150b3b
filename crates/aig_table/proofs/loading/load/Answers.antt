use Rattle.aig_table.proofs.Loaded.{loads_list, loads_unread}
use Rattle.aig_table.proofs.loading.load.Goals as goal

pub returns-in-Ok-clause-loads : goal.returns-in-Ok-clause-loads
returns-in-Ok-clause-loads g c =
    let o = c.taking-reader.ensures in
    let e = c.in-Ok.ensures in
    let l = rw (c.len-count.ensures) at e.loads in
    let f = c.end-rest.ensures in
    let d = c.discard.ensures in
    loads_list c.load_all.new.reader c.end-rest.result c.discard.result c.requires.is o.lends o.unmoved o.opens l
    f.gives f.unmoved f.words (f.stays (l.is.closed l.taking)) d.goes d.frees d.cause

pub returns-in-Err-clause-loads : goal.returns-in-Err-clause-loads
returns-in-Err-clause-loads g c =
    let o = c.taking-reader.ensures in
    loads_unread c.requires.is o.lends o.unmoved o.opens c.in-Err.ensures.loads c.abandon.ensures.gives
    c.abandon.ensures.unmoved
