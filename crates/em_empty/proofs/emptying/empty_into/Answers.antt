use Rattle.std.proofs.Common.{◌∙◌}
use Rattle.em_space.specs.Seen.{seen}
use Rattle.em_empty.proofs.Emptied.{can_share, emptied_at, empties_refused, few_enough, limit_is, node_in_use, stopped_loading, stopped_sharing, stopped_storing}
use Rattle.em_empty.proofs.emptying.empty_into.Goals as goal

pub share_out-requires-clause-can : goal.share_out-requires-clause-can
share_out-requires-clause-can g c =
    let e = c.in_ok-load_node.ensures in can_share c.requires.can e.goes e.loads

pub returns-in_err-load_node-clause-empties : goal.returns-in_err-load_node-clause-empties
returns-in_err-load_node-clause-empties g c =
    let e = c.in_err-load_node.ensures in
    empties_refused _ _ _ _ _ c.from_residual.result c.in_err-load_node.field-0.0
    c.from_residual.ensures.1 (stopped_loading e.goes e.same e.moves e.cause)

pub returns-in_err-share_out-clause-empties : goal.returns-in_err-share_out-clause-empties
returns-in_err-share_out-clause-empties g c =
    let e = c.in_ok-load_node.ensures in
    empties_refused _ _ _ _ _ c.from_residual-in_err-share_out.result c.in_err-share_out.field-0.0
    c.from_residual-in_err-share_out.ensures.1
    (stopped_sharing c.requires.can e.goes e.same e.moves e.loads c.in_err-share_out.ensures.shares)

pub store-requires-clause-in_use : goal.store-requires-clause-in_use
store-requires-clause-in_use g c =
    let e = c.in_ok-load_node.ensures in
    node_in_use c.requires.can e.goes e.loads c.in_ok-share_out.ensures.shares.runs.session.touches

pub returns-in_err-store-clause-empties : goal.returns-in_err-store-clause-empties
returns-in_err-store-clause-empties g c =
    let e = c.in_ok-load_node.ensures in
    let f = c.in_err-store.ensures in
    empties_refused _ _ _ _ _ c.from_residual-in_err-store.result c.in_err-store.field-0.0
    c.from_residual-in_err-store.ensures.1
    (stopped_storing c.requires.can e.goes e.same e.moves e.loads c.in_ok-share_out.ensures.shares
    f.goes f.moved f.cause)

pub first_full-requires-clause-few : goal.first_full-requires-clause-few
first_full-requires-clause-few g c =
    few_enough c.requires.sound c.in_ok-load_node.ensures.loads c.in_ok-share_out.ensures.shares

pub returns-clause-empties : goal.returns-clause-empties
returns-clause-empties g c =
    let e = c.in_ok-load_node.ensures in
    let d = c.in_ok-share_out.ensures in
    let f = c.in_ok-store.ensures in
    emptied_at _ c.requires.sound c.requires.can e.goes e.same e.moves e.loads d.shares f.goes f.moved
    f.stored f.in_use (limit_is (seen g.D.Device.state c.args.rig.now)
    (seen g.D.Device.state c.store.new.self) c.fan.result c.block.result c.shape-shape.result c.fan.ensures.value
    c.block.ensures.value c.shape-shape.ensures
    (f.goes.touches.shape ∙ (d.shares.runs.session.touches.shape ∙ e.goes.touches.shape)))
    c.first_full.ensures
