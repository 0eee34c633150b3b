use Rattle.std.proofs.Common.{refl}
use Rattle.em_space.specs.Seen.{seen}
use Rattle.em_space.proofs.Queues.{out_same}
use Rattle.em_queued.proofs.Queued.{unstored_frames}
use Rattle.aig_edges.specs.Graph.{graph_lists}
use Rattle.aig_edges.proofs.Pushed.{all_ok}
use Rattle.aig_order.proofs.FewCalls.{few_same}
use Rattle.aig_order.proofs.OrderEnded.{lists_held}
use Rattle.aig_order.proofs.OrderReady.{graph_apart}
use Rattle.aig_order.proofs.StraightOrder.{straight_goes, straight_to}
use Rattle.aig_order.proofs.ordering.find_order.Goals as goal

pub returns-then-straight-clause-frames : goal.returns-then-straight-clause-frames
returns-then-straight-clause-frames g c =
    let laws = g.met.Q.Queue in
    let x = c.args.queue.now in
    let s = seen g.D.Device.state c.args.rig.now in
    let goes = straight_goes c.args.graph c.find_straight.result c.find_straight.ensures.finds in
    let has = laws.frames_of x s c.requires.queue in
    laws.frames_stay x _ s _ has goes.touches (out_same _ _ _ (laws.out x s has) goes.frames)

pub returns-then-straight-clause-queue : goal.returns-then-straight-clause-queue
returns-then-straight-clause-queue g c =
    let laws = g.met.Q.Queue in
    let q = g.Q.Queue in
    let x = c.args.queue.now in
    let s = seen g.D.Device.state c.args.rig.now in
    let t = seen g.D.Device.state c.find_straight.new.rig in
    let goes = straight_goes c.args.graph c.find_straight.result c.find_straight.ensures.finds in
    let out = laws.out x s (laws.frames_of x s c.requires.queue) in
    let kept = laws.stays x (graph_lists s c.args.graph) s t c.requires.queue goes.touches
    (λ z. graph_apart q x c.args.graph (lists_held q x c.args.graph c.requires.holds) z)
    (out_same _ _ _ out goes.frames) in
    all_ok c.find_straight.result kept.0

pub returns-then-straight-clause-finds : goal.returns-then-straight-clause-finds
returns-then-straight-clause-finds g c =
    let laws = g.met.Q.Queue in
    let q = g.Q.Queue in
    let x = c.args.queue.now in
    let s = seen g.D.Device.state c.args.rig.now in
    let t = seen g.D.Device.state c.find_straight.new.rig in
    let goes = straight_goes c.args.graph c.find_straight.result c.find_straight.ensures.finds in
    let has = laws.frames_of x s c.requires.queue in
    let out = laws.out x s has in
    let kept = laws.stays x (graph_lists s c.args.graph) s t c.requires.queue goes.touches
    (λ z. graph_apart q x c.args.graph (lists_held q x c.args.graph c.requires.holds) z)
    (out_same _ _ _ out goes.frames) in
    straight_to q x c.args.graph c.find_straight.result c.requires.graph c.if-straight.true
    c.requires.defined (laws.blocks_most x s c.requires.queue)
    (unstored_frames (laws.unstored_most x s c.requires.queue) out c.requires.sound)
    (laws.fits x s has) c.requires.holds kept.2 c.find_straight.ensures.finds

pub returns-then-straight-clause-few : goal.returns-then-straight-clause-few
returns-then-straight-clause-few g c = λ f.
    few_same g.Q.Queue c.args.queue.now c.args.queue.now c.args.graph.header refl
