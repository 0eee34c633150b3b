use Rattle.em_tree_trim.proofs.Finished.{begun_can, finished, unwritten}
use Rattle.em_tree_trim.proofs.trimming.list_joined.Goals as goal

pub list_leaves-requires-clause-can : goal.list_leaves-requires-clause-can
list_leaves-requires-clause-can g c =
    let n = c.new-list.ensures in begun_can c.requires.can n.lends n.unmoved n.begins

pub returns-in-Ok : goal.returns-in-Ok
returns-in-Ok g c =
    let n = c.new-list.ensures in
    let f = c.finish.ensures in
    finished c.requires.can n.lends n.unmoved n.begins c.in-Ok.ensures.lists _ c.finish.result f.gives f.finishes
    f.costs f.spends f.cause

pub returns-in-Err : goal.returns-in-Err
returns-in-Err g c =
    let n = c.new-list.ensures in
    let v = c.abandon.ensures in
    unwritten c.requires.can n.lends n.unmoved n.begins _ c.in-Err.ensures.lists v.gives v.unmoved
