use Rattle.em_chain.proofs.Views.{view_of}
use Rattle.em_tree_trim.proofs.FirstKeys.{key_read, key_unread}
use Rattle.em_tree_trim.proofs.joining.first_key.Goals as goal

pub over-reader-requires-clause-is : goal.over-reader-requires-clause-is
over-reader-requires-clause-is g c = view_of _ _ c.requires.chain

pub returns-in_err-item : goal.returns-in_err-item
returns-in_err-item g c =
    let o = c.over-reader.ensures in
    let v = c.abandon.ensures in
    key_unread o.lends o.unmoved o.opens c.next-first.ensures.goes v.gives v.unmoved
    (g.S.Settle.key_of c.args.settle.now) c.next-first.new.self c.from_residual.result c.in_err-item.field-0.0
    c.from_residual.ensures.1 c.in_err-item.ensures.costs c.in_err-item.ensures.cause

pub returns-in-Some : goal.returns-in-Some
returns-in-Some g c =
    let o = c.over-reader.ensures in
    let v = c.abandon.ensures in
    key_read o.lends o.unmoved o.opens c.next-first.ensures.goes v.gives v.unmoved
    (g.S.Settle.key_of c.args.settle.now) c.next-first.new.self c.in_ok-item.field-0 c.in-Some.item c.key.result
    c.in_ok-item.ensures.reads c.in_ok-item.ensures.costs c.in-Some.is c.key.ensures
