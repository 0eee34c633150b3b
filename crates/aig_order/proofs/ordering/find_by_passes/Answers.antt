use Rattle.std.proofs.Common.{◌∙◌, Result, refl, subst, sym}
use Rattle.em_space.specs.Seen.{seen}
use Rattle.em_space.proofs.Held.{apart_none}
use Rattle.em_space.proofs.Queues.{out_same}
use Rattle.em_queued.proofs.Queued.{unstored_frames}
use Rattle.aig_text.specs.declared.stop.AigStop.{AigStop}
use Rattle.aig_text.proofs.Lines.{of_error}
use Rattle.aig_edges.specs.Graph.{graph_lists}
use Rattle.aig_edges.specs.declared.graph.Ordered.{Ordered}
use Rattle.aig_order.specs.FindsOrder.{OrdersTo}
use Rattle.aig_order.specs.Marks.{FitsArea}
use Rattle.aig_order.proofs.FewCalls.{few_ranked, few_same}
use Rattle.aig_order.proofs.OrderEnded.{lists_held}
use Rattle.aig_order.proofs.OrderMade.{orders_cycle}
use Rattle.aig_order.proofs.OrderRanked.{can_rank, ranked_beside, ranked_none}
use Rattle.aig_order.proofs.OrderReady.{cycle_found, graph_apart, looked_within, make_ready}
use Rattle.aig_order.proofs.OrderSteps.{can_find, found_beside, found_none, looked_beside, looked_none, merged_beside, merged_none}
use Rattle.aig_order.proofs.ordering.find_by_passes.Goals as goal

pub returns-in_err-list-clause-frames : goal.returns-in_err-list-clause-frames
returns-in_err-list-clause-frames g c =
    let laws = g.met.Q.Queue in
    let q = g.Q.Queue in
    let x = c.args.queue.now in
    let r = c.requires in
    let s = seen g.D.Device.state c.args.rig.now in
    let has = laws.frames_of x s r.queue in
    let m = c.in_err-list.ensures.merges in
    laws.frames_stay x _ _ _ has m.goes.touches
    (out_same _ _ _ (laws.out x s has) m.goes.frames)

pub returns-in_err-list-clause-finds : goal.returns-in_err-list-clause-finds
returns-in_err-list-clause-finds g c =
    let laws = g.met.Q.Queue in
    let q = g.Q.Queue in
    let x = c.args.queue.now in
    let r = c.requires in
    let s = seen g.D.Device.state c.args.rig.now in
    let has = laws.frames_of x s r.queue in
    of_error (λ (k : Result Ordered AigStop). OrdersTo q x x s
    (seen g.D.Device.state c.merge_graph.new.rig) c.args.graph k) _ _ c.from_residual.ensures.1
    (merged_none q x c.args.graph (laws.blocks_most x s r.queue)
    (unstored_frames (laws.unstored_most x s r.queue) (laws.out x s has) r.sound) (laws.fits x s has)
    c.in_err-list.ensures.merges)

pub find_all-requires-clause-is : goal.find_all-requires-clause-is
find_all-requires-clause-is g c =
    let laws = g.met.Q.Queue in
    let q = g.Q.Queue in
    let x = c.args.queue.now in
    let r = c.requires in
    let s = seen g.D.Device.state c.args.rig.now in
    let has = laws.frames_of x s r.queue in
    let t = seen g.D.Device.state c.merge_graph.new.rig in
    let m = c.in_ok-list.ensures.merges.0 in
    let kept = laws.stays x (graph_lists s c.args.graph) s t r.queue m.runs.session.touches
    (λ z. graph_apart q x c.args.graph (lists_held q x c.args.graph r.holds) z) (out_same _ _ _ (laws.out x s has) m.runs.frames) in
    kept.0

pub find_all-requires-clause-can : goal.find_all-requires-clause-can
find_all-requires-clause-can g c =
    let laws = g.met.Q.Queue in
    let q = g.Q.Queue in
    let x = c.args.queue.now in
    let r = c.requires in
    let s = seen g.D.Device.state c.args.rig.now in
    let has = laws.frames_of x s r.queue in
    let t = seen g.D.Device.state c.merge_graph.new.rig in
    let m = c.in_ok-list.ensures.merges.0 in
    let kept = laws.stays x (graph_lists s c.args.graph) s t r.queue m.runs.session.touches
    (λ z. graph_apart q x c.args.graph (lists_held q x c.args.graph r.holds) z) (out_same _ _ _ (laws.out x s has) m.runs.frames) in
    let w = merged_beside q x c.args.graph kept.0 kept.2 (laws.blocks_most x s r.queue)
    r.begins.empty (lists_held q x c.args.graph r.holds) m in
    can_find q x c.args.graph r.begins r.defined m w

pub returns-in_err-found-clause-finds : goal.returns-in_err-found-clause-finds
returns-in_err-found-clause-finds g c =
    let laws = g.met.Q.Queue in
    let q = g.Q.Queue in
    let x = c.args.queue.now in
    let r = c.requires in
    let s = seen g.D.Device.state c.args.rig.now in
    let has = laws.frames_of x s r.queue in
    let t = seen g.D.Device.state c.merge_graph.new.rig in
    let m = c.in_ok-list.ensures.merges.0 in
    let kept = laws.stays x (graph_lists s c.args.graph) s t r.queue m.runs.session.touches
    (λ z. graph_apart q x c.args.graph (lists_held q x c.args.graph r.holds) z) (out_same _ _ _ (laws.out x s has) m.runs.frames) in
    let w = merged_beside q x c.args.graph kept.0 kept.2 (laws.blocks_most x s r.queue)
    r.begins.empty (lists_held q x c.args.graph r.holds) m in
    of_error (λ (k : Result Ordered AigStop). OrdersTo q x c.find_all.new.queue s
    (seen g.D.Device.state c.find_all.new.rig) c.args.graph k) _ _ c.from_residual-in_err-found.ensures.1
    (found_none q x c.find_all.new.queue c.args.graph m r.defined w c.in_err-found.ensures.finds)

pub returns-in_err-place-clause-frames : goal.returns-in_err-place-clause-frames
returns-in_err-place-clause-frames g c =
    let laws = g.met.Q.Queue in
    let y = c.find_all.new.queue in
    let has = c.in_ok-found.ensures.frames in
    let look = c.in_err-place.ensures.done.looks.goes in
    laws.frames_stay y _ _ _ has look.touches (out_same _ _ _ (laws.out y _ has) look.frames)

pub returns-in_err-place-clause-finds : goal.returns-in_err-place-clause-finds
returns-in_err-place-clause-finds g c =
    let laws = g.met.Q.Queue in
    let q = g.Q.Queue in
    let x = c.args.queue.now in
    let r = c.requires in
    let s = seen g.D.Device.state c.args.rig.now in
    let has = laws.frames_of x s r.queue in
    let t = seen g.D.Device.state c.merge_graph.new.rig in
    let m = c.in_ok-list.ensures.merges.0 in
    let kept = laws.stays x (graph_lists s c.args.graph) s t r.queue m.runs.session.touches
    (λ z. graph_apart q x c.args.graph (lists_held q x c.args.graph r.holds) z) (out_same _ _ _ (laws.out x s has) m.runs.frames) in
    let w = merged_beside q x c.args.graph kept.0 kept.2 (laws.blocks_most x s r.queue)
    r.begins.empty (lists_held q x c.args.graph r.holds) m in
    let y = c.find_all.new.queue in
    let u = seen g.D.Device.state c.find_all.new.rig in
    let i = c.in_ok-found.ensures in
    let b = found_beside q x y c.args.graph w i.finds i.queue in
    let few = unstored_frames (laws.unstored_most y u i.queue) (laws.out y u i.frames)
    b.runs.runs.session.sound in
    of_error (λ (k : Result Ordered AigStop). OrdersTo q x y s
    (seen g.D.Device.state c.left_below.new.rig) c.args.graph k) _ _ c.from_residual-in_err-place.ensures.1
    (looked_none q x y c.args.graph b c.in_err-place.ensures.done few
    (looked_within q x y c.args.graph _ m i.finds r.defined))

pub returns-in-Some-clause-frames : goal.returns-in-Some-clause-frames
returns-in-Some-clause-frames g c =
    let laws = g.met.Q.Queue in
    let y = c.find_all.new.queue in
    let has = c.in_ok-found.ensures.frames in
    let look = c.in_ok-place.ensures.done.0.goes in
    laws.frames_stay y _ _ _ has look.touches (out_same _ _ _ (laws.out y _ has) look.frames)

pub returns-in-Some-clause-finds : goal.returns-in-Some-clause-finds
returns-in-Some-clause-finds g c =
    let laws = g.met.Q.Queue in
    let q = g.Q.Queue in
    let x = c.args.queue.now in
    let r = c.requires in
    let s = seen g.D.Device.state c.args.rig.now in
    let has = laws.frames_of x s r.queue in
    let t = seen g.D.Device.state c.merge_graph.new.rig in
    let m = c.in_ok-list.ensures.merges.0 in
    let kept = laws.stays x (graph_lists s c.args.graph) s t r.queue m.runs.session.touches
    (λ z. graph_apart q x c.args.graph (lists_held q x c.args.graph r.holds) z) (out_same _ _ _ (laws.out x s has) m.runs.frames) in
    let w = merged_beside q x c.args.graph kept.0 kept.2 (laws.blocks_most x s r.queue)
    r.begins.empty (lists_held q x c.args.graph r.holds) m in
    let y = c.find_all.new.queue in
    let u = seen g.D.Device.state c.find_all.new.rig in
    let i = c.in_ok-found.ensures in
    let b = found_beside q x y c.args.graph w i.finds i.queue in
    let v = seen g.D.Device.state c.left_below.new.rig in
    let look = c.in_ok-place.ensures.done in
    let still = laws.stays y _ u v i.queue look.0.goes.touches (λ z. apart_none _)
    (out_same _ _ _ (laws.out y u i.frames) look.0.goes.frames) in
    let l = looked_beside q x y c.args.graph b look.0 still.0 still.2
    (laws.blocks_most y u i.queue) in
    let few = unstored_frames (laws.unstored_most y v still.0) (laws.out y v (laws.frames_of y v still.0))
    l.runs.runs.session.sound in
    orders_cycle q x y c.args.graph c.in-Some.place l.runs few
    (looked_within q x y c.args.graph _ m i.finds r.defined)
    (cycle_found q x y c.args.graph _ c.in-Some.place m i.finds r.defined c.in-Some.is look.1)

pub rank_edges-requires-clause-is : goal.rank_edges-requires-clause-is
rank_edges-requires-clause-is g c =
    let laws = g.met.Q.Queue in
    let q = g.Q.Queue in
    let x = c.args.queue.now in
    let r = c.requires in
    let s = seen g.D.Device.state c.args.rig.now in
    let has = laws.frames_of x s r.queue in
    let y = c.find_all.new.queue in
    let i = c.in_ok-found.ensures in
    let look = c.in_ok-place.ensures.done.0 in
    (laws.stays y _ _ _ i.queue look.goes.touches (λ z. apart_none _)
    (out_same _ _ _ (laws.out y _ i.frames) look.goes.frames)).0

pub rank_edges-requires-clause-can : goal.rank_edges-requires-clause-can
rank_edges-requires-clause-can g c =
    let laws = g.met.Q.Queue in
    let q = g.Q.Queue in
    let x = c.args.queue.now in
    let r = c.requires in
    let s = seen g.D.Device.state c.args.rig.now in
    let has = laws.frames_of x s r.queue in
    let t = seen g.D.Device.state c.merge_graph.new.rig in
    let m = c.in_ok-list.ensures.merges.0 in
    let kept = laws.stays x (graph_lists s c.args.graph) s t r.queue m.runs.session.touches
    (λ z. graph_apart q x c.args.graph (lists_held q x c.args.graph r.holds) z) (out_same _ _ _ (laws.out x s has) m.runs.frames) in
    let w = merged_beside q x c.args.graph kept.0 kept.2 (laws.blocks_most x s r.queue)
    r.begins.empty (lists_held q x c.args.graph r.holds) m in
    let y = c.find_all.new.queue in
    let u = seen g.D.Device.state c.find_all.new.rig in
    let i = c.in_ok-found.ensures in
    let b = found_beside q x y c.args.graph w i.finds i.queue in
    let v = seen g.D.Device.state c.left_below.new.rig in
    let look = c.in_ok-place.ensures.done in
    let still = laws.stays y _ u v i.queue look.0.goes.touches (λ z. apart_none _)
    (out_same _ _ _ (laws.out y u i.frames) look.0.goes.frames) in
    let l = looked_beside q x y c.args.graph b look.0 still.0 still.2
    (laws.blocks_most y u i.queue) in
    let o = make_ready q x y c.args.graph r.begins r.graph r.defined m i.finds look.0 l
    c.in_default.is look.1 (c.len-count.ensures ∙ r.graph.edges.count_is) in
    can_rank q x y c.args.graph c.len-count.result r.begins r.graph r.defined l o.few o.ranks
    o.count_is

pub returns-in_err-edges-clause-finds : goal.returns-in_err-edges-clause-finds
returns-in_err-edges-clause-finds g c =
    let laws = g.met.Q.Queue in
    let q = g.Q.Queue in
    let x = c.args.queue.now in
    let r = c.requires in
    let s = seen g.D.Device.state c.args.rig.now in
    let has = laws.frames_of x s r.queue in
    let t = seen g.D.Device.state c.merge_graph.new.rig in
    let m = c.in_ok-list.ensures.merges.0 in
    let kept = laws.stays x (graph_lists s c.args.graph) s t r.queue m.runs.session.touches
    (λ z. graph_apart q x c.args.graph (lists_held q x c.args.graph r.holds) z) (out_same _ _ _ (laws.out x s has) m.runs.frames) in
    let w = merged_beside q x c.args.graph kept.0 kept.2 (laws.blocks_most x s r.queue)
    r.begins.empty (lists_held q x c.args.graph r.holds) m in
    let y = c.find_all.new.queue in
    let u = seen g.D.Device.state c.find_all.new.rig in
    let i = c.in_ok-found.ensures in
    let b = found_beside q x y c.args.graph w i.finds i.queue in
    let v = seen g.D.Device.state c.left_below.new.rig in
    let look = c.in_ok-place.ensures.done in
    let still = laws.stays y _ u v i.queue look.0.goes.touches (λ z. apart_none _)
    (out_same _ _ _ (laws.out y u i.frames) look.0.goes.frames) in
    let l = looked_beside q x y c.args.graph b look.0 still.0 still.2
    (laws.blocks_most y u i.queue) in
    let o = make_ready q x y c.args.graph r.begins r.graph r.defined m i.finds look.0 l
    c.in_default.is look.1 (c.len-count.ensures ∙ r.graph.edges.count_is) in
    of_error (λ (k : Result Ordered AigStop). OrdersTo q x c.rank_edges.new.queue s
    (seen g.D.Device.state c.rank_edges.new.rig) c.args.graph k) _ _ c.from_residual-in_err-edges.ensures.1
    (ranked_none q x y c.rank_edges.new.queue c.args.graph o c.in_err-edges.ensures.ranks)

pub returns-clause-finds : goal.returns-clause-finds
returns-clause-finds g c =
    let laws = g.met.Q.Queue in
    let q = g.Q.Queue in
    let x = c.args.queue.now in
    let r = c.requires in
    let s = seen g.D.Device.state c.args.rig.now in
    let has = laws.frames_of x s r.queue in
    let t = seen g.D.Device.state c.merge_graph.new.rig in
    let m = c.in_ok-list.ensures.merges.0 in
    let kept = laws.stays x (graph_lists s c.args.graph) s t r.queue m.runs.session.touches
    (λ z. graph_apart q x c.args.graph (lists_held q x c.args.graph r.holds) z) (out_same _ _ _ (laws.out x s has) m.runs.frames) in
    let w = merged_beside q x c.args.graph kept.0 kept.2 (laws.blocks_most x s r.queue)
    r.begins.empty (lists_held q x c.args.graph r.holds) m in
    let y = c.find_all.new.queue in
    let u = seen g.D.Device.state c.find_all.new.rig in
    let i = c.in_ok-found.ensures in
    let b = found_beside q x y c.args.graph w i.finds i.queue in
    let v = seen g.D.Device.state c.left_below.new.rig in
    let look = c.in_ok-place.ensures.done in
    let still = laws.stays y _ u v i.queue look.0.goes.touches (λ z. apart_none _)
    (out_same _ _ _ (laws.out y u i.frames) look.0.goes.frames) in
    let l = looked_beside q x y c.args.graph b look.0 still.0 still.2
    (laws.blocks_most y u i.queue) in
    let o = make_ready q x y c.args.graph r.begins r.graph r.defined m i.finds look.0 l
    c.in_default.is look.1 (c.len-count.ensures ∙ r.graph.edges.count_is) in
    ranked_beside q x y c.rank_edges.new.queue c.args.graph o c.in_ok-edges.edges
    _ c.in_ok-list.ensures.merges.1 r.holds c.in_ok-edges.ensures.ranks

-- calls, if the queue isn't called in passes
pub returns-in_err-list-clause-few : goal.returns-in_err-list-clause-few
returns-in_err-list-clause-few g c = λ f.
    few_same g.Q.Queue c.args.queue.now c.args.queue.now c.args.graph.header refl

pub returns-in_err-found-clause-few : goal.returns-in_err-found-clause-few
returns-in_err-found-clause-few g c = λ f.
    let m = c.in_ok-list.ensures.merges.0 in
    few_same g.Q.Queue c.args.queue.now c.find_all.new.queue c.args.graph.header
    (c.in_err-found.ensures.still (subst (FitsArea c.args.graph.header) (sym m.runs.frames.shape) f))

pub returns-in_err-place-clause-few : goal.returns-in_err-place-clause-few
returns-in_err-place-clause-few g c = λ f.
    let m = c.in_ok-list.ensures.merges.0 in
    few_same g.Q.Queue c.args.queue.now c.find_all.new.queue c.args.graph.header
    (c.in_ok-found.ensures.still (subst (FitsArea c.args.graph.header) (sym m.runs.frames.shape) f))

pub returns-in-Some-clause-few : goal.returns-in-Some-clause-few
returns-in-Some-clause-few g c = λ f.
    let m = c.in_ok-list.ensures.merges.0 in
    few_same g.Q.Queue c.args.queue.now c.find_all.new.queue c.args.graph.header
    (c.in_ok-found.ensures.still (subst (FitsArea c.args.graph.header) (sym m.runs.frames.shape) f))

pub returns-in_err-edges-clause-few : goal.returns-in_err-edges-clause-few
returns-in_err-edges-clause-few g c = λ f.
    let m = c.in_ok-list.ensures.merges.0 in
    few_ranked g.Q.Queue c.args.queue.now c.find_all.new.queue c.rank_edges.new.queue
    c.args.graph.header c.len-count.result
    (c.in_ok-found.ensures.still (subst (FitsArea c.args.graph.header) (sym m.runs.frames.shape) f))
    (c.len-count.ensures ∙ c.requires.graph.edges.count_is) c.in_err-edges.ensures.ranks.in_runs

pub returns-clause-few : goal.returns-clause-few
returns-clause-few g c = λ f.
    let m = c.in_ok-list.ensures.merges.0 in
    few_ranked g.Q.Queue c.args.queue.now c.find_all.new.queue c.rank_edges.new.queue
    c.args.graph.header c.len-count.result
    (c.in_ok-found.ensures.still (subst (FitsArea c.args.graph.header) (sym m.runs.frames.shape) f))
    (c.len-count.ensures ∙ c.requires.graph.edges.count_is) c.in_ok-edges.ensures.ranks.in_runs
