use Rattle.std.proofs.Common.{[], ◌++◌, arith, refl, sym, ◌∙◌, Ok, Err}
use Rattle.em_space.specs.Seen.{seen}
use Rattle.em_space.proofs.Paying.{pays_of_owes, pays_then}
use Rattle.em_space.proofs.Steps.{goes_then}
use Rattle.em_pqueue.specs.ExtQueue.{counts_of, queue_blocks}
use Rattle.em_pqueue.specs.QueueLaws as laws
use Rattle.em_pqueue.specs.contracts.queue.ExtQueueQueue.TheImpl.{ghosts}
use Rattle.aig_text.specs.Source.{source}
use Rattle.aig_edges.specs.Graph.{graph_blocks}
use Rattle.aig_order.proofs.FewCalls.{calls_low}
use Rattle.em_ready.specs.Queues.{MakesQueue}
use Rattle.em_ends.specs.Stop.{circuit_stop}
use Rattle.em_ends.specs.declared.stop.Stop.TheVariants.{Em}
use Rattle.em_eval.proofs.Circuit.{reads_from}
use Rattle.em_eval.proofs.CircuitCosts.{sort_low}
use Rattle.em_eval.proofs.CircuitEdges.{edges_made, order_most, order_room, order_stops, stopped_by}
use Rattle.em_eval.proofs.CircuitMade.{HasGraph, MostAt, build_most, build_room, build_stops, ends_goes, graph_few, graph_goes, graph_most, has_graph, has_parts, parts_most, refused_most, text_few, text_most, text_stops, unmade_stops}
use Rattle.em_eval.proofs.CircuitMoves.{build_moves, order_keeps, read_moves, used_moves}
use Rattle.em_eval.proofs.EvalRoom.{ext_tree}
use Rattle.em_eval.proofs.Making.{can_build}
use Rattle.em_ready.proofs.Queues.{fails_ext, makes_ext, serves_again}
use Rattle.em_eval.proofs.eval.read_circuit.Given as given
use Rattle.em_eval.proofs.eval.read_circuit.Goals.{In_ok-queue-2}
use Rattle.em_eval.proofs.eval.read_circuit.Goals as goal

-- the text after the magic wasn't read
pub returns-in_err-parts-clause-reads : goal.returns-in_err-parts-clause-reads
returns-in_err-parts-clause-reads g c =
    let s = seen g.D.Device.state c.args.rig.now in
    let t = seen g.D.Device.state c.read_either.new.rig in
    let e = c.in_err-parts.ensures.reads in
    let text = reads_from c.new-feed.ensures c.requires.ready e.feed in
    stopped_by g.H.Shelf c.new-feed.result c.read_either.new.feed c.args.shelf.now
    c.read_either.new.shelf s t (circuit_stop c.in_err-parts.field-0.0) _
    c.from_residual.ensures.1 text
    (text_stops c.in_err-parts.field-0.0 c.requires.unused text e)
    (read_moves text t e (omega arith)) (text_most c.args.uninit {t = t} c.requires.unused text e.takes)

-- a queue can be made after the text was read
pub new-requires-clause-free : goal.new-requires-clause-free
new-requires-clause-free g c =
    serves_again c.requires.free c.in_ok-parts.ensures.reads.goes.frames

-- none was
pub returns-in_err-queue-clause-goes : goal.returns-in_err-queue-clause-goes
returns-in_err-queue-clause-goes g c =
    goes_then [] (seen g.D.Device.state c.args.rig.now) (seen g.D.Device.state c.read_either.new.rig)
    (seen g.D.Device.state c.new.new.rig) c.in_ok-parts.ensures.reads.goes
    (fails_ext c.in_err-queue.ensures.stops).goes

pub returns-in_err-queue-clause-reads : goal.returns-in_err-queue-clause-reads
returns-in_err-queue-clause-reads g c =
    let s = seen g.D.Device.state c.args.rig.now in
    let u = seen g.D.Device.state c.new.new.rig in
    let e = c.in_ok-parts.ensures.reads in
    let f = fails_ext c.in_err-queue.ensures.stops in
    let text = reads_from c.new-feed.ensures c.requires.ready e.feed in
    stopped_by g.H.Shelf c.new-feed.result c.read_either.new.feed c.args.shelf.now
    c.read_either.new.shelf s u (Em c.in_err-queue.field-0.0) _
    c.from_residual-in_err-queue.ensures.1 text
    (unmade_stops c.in_err-queue.field-0.0 c.requires.unused e.goes
    (pays_of_owes 0 0 0 e.owes (omega arith)) f (text_few c.args.uninit c.requires.unused text e.takes))
    (read_moves text u e f.moves)
    (refused_most c.args.uninit c.requires.unused text
    (text_most c.args.uninit {t = seen g.D.Device.state c.read_either.new.rig} c.requires.unused text e.takes) f
    (text_few c.args.uninit c.requires.unused text e.takes))

-- the parts that were read are those of some circuit
pub check_and_build-requires-clause-parts : goal.check_and_build-requires-clause-parts
check_and_build-requires-clause-parts g c =
    let e = c.in_ok-parts.ensures.reads in
    let makes = makes_ext c.in_ok-queue.ensures.makes in
    let text = reads_from c.new-feed.ensures c.requires.ready e.feed in
    let h = has_parts c.in_ok-parts.parts c.requires.unused text e makes.session.touches makes in
    h.is

pub check_and_build-requires-clause-begins : goal.check_and_build-requires-clause-begins
check_and_build-requires-clause-begins g c =
    let e = c.in_ok-parts.ensures.reads in
    let makes = makes_ext c.in_ok-queue.ensures.makes in
    let text = reads_from c.new-feed.ensures c.requires.ready e.feed in
    let h = has_parts c.in_ok-parts.parts c.requires.unused text e makes.session.touches makes in
    let low = sort_low c.in_ok-parts.parts.header h.is.header in
    record {
      empty = makes.new.len;
      few = omega (arith, makes.new.n, low);
      free = can_build (counts_of c.in_ok-queue.queue) c.requires.free h.frames makes.few makes.area;
    }

pub check_and_build-requires-clause-holds : goal.check_and_build-requires-clause-holds
check_and_build-requires-clause-holds g c =
    let e = c.in_ok-parts.ensures.reads in
    let makes = makes_ext c.in_ok-queue.ensures.makes in
    let text = reads_from c.new-feed.ensures c.requires.ready e.feed in
    let h = has_parts c.in_ok-parts.parts c.requires.unused text e makes.session.touches makes in
    λ z. h.session.holds (sym h.session.touches.told ∙ z)

-- no graph was made
pub returns-in_err-graph-clause-goes : goal.returns-in_err-graph-clause-goes
returns-in_err-graph-clause-goes g c =
    let u = seen g.D.Device.state c.new.new.rig in
    let q = c.in_ok-queue.queue in
    let e = c.in_ok-parts.ensures.reads in
    let makes = makes_ext c.in_ok-queue.ensures.makes in
    let text = reads_from c.new-feed.ensures c.requires.ready e.feed in
    let h = has_parts c.in_ok-parts.parts c.requires.unused text e makes.session.touches makes in
    graph_goes (counts_of q) (queue_blocks u q) h c.in_err-graph.ensures.uses_up

pub returns-in_err-graph-clause-reads : goal.returns-in_err-graph-clause-reads
returns-in_err-graph-clause-reads g c =
    let s = seen g.D.Device.state c.args.rig.now in
    let u = seen g.D.Device.state c.new.new.rig in
    let v = seen g.D.Device.state c.check_and_build.new.rig in
    let q = c.in_ok-queue.queue in
    let e = c.in_ok-parts.ensures.reads in
    let k = c.in_err-graph.ensures in
    let fault = c.in_err-graph.field-0.0 in
    let text = reads_from c.new-feed.ensures c.requires.ready e.feed in
    let makes = makes_ext c.in_ok-queue.ensures.makes in
    let h = has_parts c.in_ok-parts.parts c.requires.unused text e makes.session.touches makes in
    let since = (laws.frames_of q u makes.is).has.since_most in
    stopped_by g.H.Shelf c.new-feed.result c.read_either.new.feed c.args.shelf.now
    c.read_either.new.shelf s v (circuit_stop fault) _ c.from_residual-in_err-graph.ensures.1
    text
    (build_stops (counts_of q) fault c.requires.unused h k.uses_up k.stops k.cause k.stores
    (build_room {q = ghosts} (Err fault) h (ext_tree u.pool.shape) makes.new.k k.room))
    (build_moves text v e h
    (λ told n runs few short. used_moves v n runs refl makes since k.costs told few short) v
    (omega arith))
    (build_most {q = ghosts} (Err fault) h (ext_tree u.pool.shape) makes.new.k k.room
    (parts_most c.args.uninit c.requires.unused text e makes))

-- another queue can be made after the graph was
pub new-requires-2-clause-free : goal.new-requires-2-clause-free
new-requires-2-clause-free g c =
    let u = seen g.D.Device.state c.new.new.rig in
    let q = c.in_ok-queue.queue in
    let e = c.in_ok-parts.ensures.reads in
    let makes = makes_ext c.in_ok-queue.ensures.makes in
    let text = reads_from c.new-feed.ensures c.requires.ready e.feed in
    let h = has_parts c.in_ok-parts.parts c.requires.unused text e makes.session.touches makes in
    let goes = graph_goes (counts_of q) (queue_blocks u q) h c.in_ok-graph.ensures.uses_up in
    serves_again c.requires.free goes.frames

-- none was
pub returns-in_err-queue-2-clause-goes : goal.returns-in_err-queue-2-clause-goes
returns-in_err-queue-2-clause-goes g c =
    let u = seen g.D.Device.state c.new.new.rig in
    let q = c.in_ok-queue.queue in
    let e = c.in_ok-parts.ensures.reads in
    let makes = makes_ext c.in_ok-queue.ensures.makes in
    let text = reads_from c.new-feed.ensures c.requires.ready e.feed in
    let h = has_parts c.in_ok-parts.parts c.requires.unused text e makes.session.touches makes in
    goes_then [] (seen g.D.Device.state c.args.rig.now)
    (seen g.D.Device.state c.check_and_build.new.rig) (seen g.D.Device.state c.new-2.new.rig)
    (graph_goes (counts_of q) (queue_blocks u q) h c.in_ok-graph.ensures.uses_up)
    (fails_ext c.in_err-queue-2.ensures.stops).goes

pub returns-in_err-queue-2-clause-reads : goal.returns-in_err-queue-2-clause-reads
returns-in_err-queue-2-clause-reads g c =
    let s = seen g.D.Device.state c.args.rig.now in
    let u = seen g.D.Device.state c.new.new.rig in
    let v = seen g.D.Device.state c.check_and_build.new.rig in
    let w = seen g.D.Device.state c.new-2.new.rig in
    let q = c.in_ok-queue.queue in
    let e = c.in_ok-parts.ensures.reads in
    let k = c.in_ok-graph.ensures in
    let f = fails_ext c.in_err-queue-2.ensures.stops in
    let text = reads_from c.new-feed.ensures c.requires.ready e.feed in
    let makes = makes_ext c.in_ok-queue.ensures.makes in
    let h = has_parts c.in_ok-parts.parts c.requires.unused text e makes.session.touches makes in
    let since = (laws.frames_of q u makes.is).has.since_most in
    stopped_by g.H.Shelf c.new-feed.result c.read_either.new.feed c.args.shelf.now
    c.read_either.new.shelf s w (Em c.in_err-queue-2.field-0.0) _
    c.from_residual-in_err-queue-2.ensures.1 text
    (unmade_stops c.in_err-queue-2.field-0.0 c.requires.unused
    (graph_goes (counts_of q) (queue_blocks u q) h k.uses_up)
    (pays_then h.pays k.stores.1 k.uses_up.touches.moves) f
    (graph_few (counts_of q) c.in_ok-graph.graph h k.builds k.stores))
    (build_moves text v e h
    (λ told n runs few short. used_moves v n runs refl makes since k.costs told few short) w f.moves)
    (refused_most c.args.uninit c.requires.unused text
    (build_most {q = ghosts} (Ok c.in_ok-graph.graph) h (ext_tree u.pool.shape) makes.new.k k.room
    (parts_most c.args.uninit c.requires.unused text e makes)) f
    (graph_few (counts_of q) c.in_ok-graph.graph h k.builds k.stores))

-- The graph was made, and a queue for its order.
module _ (g : given.Over) (c : In_ok-queue-2 g) where
  second : MakesQueue ghosts (seen g.D.Device.state c.check_and_build.new.rig)
      (seen g.D.Device.state c.new-2.new.rig) c.in_ok-queue-2.queue
  second = makes_ext c.in_ok-queue-2.ensures.makes

  made : HasGraph c.args.uninit g.H.Shelf.tells
      (source g.H.Shelf c.new-feed.result c.args.shelf.now)
      (source g.H.Shelf c.read_either.new.feed c.read_either.new.shelf)
      (seen g.D.Device.state c.args.rig.now) (seen g.D.Device.state c.new-2.new.rig)
      c.in_ok-graph.graph (counts_of c.in_ok-queue-2.queue)
      (queue_blocks (seen g.D.Device.state c.new-2.new.rig) c.in_ok-queue-2.queue)
  made =
      let u = seen g.D.Device.state c.new.new.rig in
      let q = c.in_ok-queue.queue in
      let e = c.in_ok-parts.ensures.reads in
      let k = c.in_ok-graph.ensures in
      let text = reads_from c.new-feed.ensures c.requires.ready e.feed in
      let makes = makes_ext c.in_ok-queue.ensures.makes in
      let h = has_parts c.in_ok-parts.parts c.requires.unused text e makes.session.touches makes in
      has_graph (counts_of q) (queue_blocks u q) c.in_ok-graph.graph h k.uses_up k.builds
      second.session.touches second k.stores

  most : MostAt c.args.uninit g.H.Shelf.tells
      (source g.H.Shelf c.new-feed.result c.args.shelf.now)
      (source g.H.Shelf c.read_either.new.feed c.read_either.new.shelf)
      (seen g.D.Device.state c.args.rig.now) (seen g.D.Device.state c.new-2.new.rig)
  most =
      let u = seen g.D.Device.state c.new.new.rig in
      let q = c.in_ok-queue.queue in
      let e = c.in_ok-parts.ensures.reads in
      let k = c.in_ok-graph.ensures in
      let text = reads_from c.new-feed.ensures c.requires.ready e.feed in
      let makes = makes_ext c.in_ok-queue.ensures.makes in
      let h = has_parts c.in_ok-parts.parts c.requires.unused text e makes.session.touches makes in
      graph_most (counts_of q) c.in_ok-graph.graph c.requires.unused text h k.uses_up k.builds k.stores
      (build_most {q = ghosts} (Ok c.in_ok-graph.graph) h (ext_tree u.pool.shape) makes.new.k k.room
      (parts_most c.args.uninit c.requires.unused text e makes)) second

-- the graph is one after the second queue was made
pub order-requires-clause-graph : goal.order-requires-clause-graph
order-requires-clause-graph g c = (made g ((goal.at.order-requires-clause-graph g c).In_ok-queue-2)).is

-- in its circuit nothing is defined twice or used undefined
pub order-requires-clause-defined : goal.order-requires-clause-defined
order-requires-clause-defined g c =
    (made g ((goal.at.order-requires-clause-defined g c).In_ok-queue-2)).defined

pub order-requires-clause-begins : goal.order-requires-clause-begins
order-requires-clause-begins g c =
    let here = (goal.at.order-requires-clause-begins g c).In_ok-queue-2 in
    let h = made g here in
    let makes = second g here in
    let low = calls_low c.in_ok-graph.graph.header h.is.header in
    record {
      empty = makes.new.len;
      few = omega (arith, makes.new.n, low);
      free = can_build (counts_of c.in_ok-queue-2.queue) c.requires.free h.frames makes.few makes.area;
    }

pub order-requires-clause-holds : goal.order-requires-clause-holds
order-requires-clause-holds g c =
    let h = made g ((goal.at.order-requires-clause-holds g c).In_ok-queue-2) in
    λ z. h.session.holds (sym h.session.touches.told ∙ z)

-- no edges were made of the graph
pub returns-in_err-order-clause-goes : goal.returns-in_err-order-clause-goes
returns-in_err-order-clause-goes g c =
    let w = seen g.D.Device.state c.new-2.new.rig in
    let q = c.in_ok-queue-2.queue in
    let h = made g ((goal.at.returns-in_err-order-clause-goes g c).In_ok-queue-2) in
    ends_goes (counts_of q) (queue_blocks w q ++ graph_blocks w c.in_ok-graph.graph) h.session h.frames
    c.in_err-order.ensures.uses_up

pub returns-in_err-order-clause-reads : goal.returns-in_err-order-clause-reads
returns-in_err-order-clause-reads g c =
    let s = seen g.D.Device.state c.args.rig.now in
    let u = seen g.D.Device.state c.new.new.rig in
    let v = seen g.D.Device.state c.check_and_build.new.rig in
    let w = seen g.D.Device.state c.new-2.new.rig in
    let x = seen g.D.Device.state c.order.new.rig in
    let here = (goal.at.returns-in_err-order-clause-reads g c).In_ok-queue-2 in
    let q = c.in_ok-queue.queue in
    let last = c.in_ok-queue-2.queue in
    let e = c.in_ok-parts.ensures.reads in
    let b = c.in_ok-graph.ensures in
    let k = c.in_err-order.ensures in
    let stop = c.in_err-order.field-0.0 in
    let text = reads_from c.new-feed.ensures c.requires.ready e.feed in
    let makes = makes_ext c.in_ok-queue.ensures.makes in
    let p = has_parts c.in_ok-parts.parts c.requires.unused text e makes.session.touches makes in
    let since = (laws.frames_of q u makes.is).has.since_most in
    let then = (laws.frames_of last w (second g here).is).has.since_most in
    let h = made g here in
    stopped_by g.H.Shelf c.new-feed.result c.read_either.new.feed c.args.shelf.now
    c.read_either.new.shelf s x (circuit_stop stop) _ c.from_residual-in_err-order.ensures.1
    text
    (order_stops (counts_of last) stop c.requires.unused h k.uses_up k.stops k.cause k.blocks.stores
    (order_room {q = ghosts} (Err stop) h (ext_tree w.pool.shape) (second g here).new.k k.blocks))
    (order_keeps text v e p
    (λ told n runs few short. used_moves v n runs refl makes since b.costs told few short) refl
    (second g here) then h k.costs)
    (order_most {q = ghosts} (Err stop) h (ext_tree w.pool.shape) (second g here).new.k k.blocks (most g here))

-- edges were made
pub returns-clause-goes : goal.returns-clause-goes
returns-clause-goes g c =
    let w = seen g.D.Device.state c.new-2.new.rig in
    let q = c.in_ok-queue-2.queue in
    let h = made g ((goal.at.returns-clause-goes g c).In_ok-queue-2) in
    ends_goes (counts_of q) (queue_blocks w q ++ graph_blocks w c.in_ok-graph.graph) h.session h.frames
    c.in_ok-order.ensures.uses_up

pub returns-clause-reads : goal.returns-clause-reads
returns-clause-reads g c =
    let u = seen g.D.Device.state c.new.new.rig in
    let v = seen g.D.Device.state c.check_and_build.new.rig in
    let w = seen g.D.Device.state c.new-2.new.rig in
    let x = seen g.D.Device.state c.order.new.rig in
    let here = (goal.at.returns-clause-reads g c).In_ok-queue-2 in
    let q = c.in_ok-queue.queue in
    let last = c.in_ok-queue-2.queue in
    let e = c.in_ok-parts.ensures.reads in
    let b = c.in_ok-graph.ensures in
    let k = c.in_ok-order.ensures in
    let text = reads_from c.new-feed.ensures c.requires.ready e.feed in
    let makes = makes_ext c.in_ok-queue.ensures.makes in
    let p = has_parts c.in_ok-parts.parts c.requires.unused text e makes.session.touches makes in
    let since = (laws.frames_of q u makes.is).has.since_most in
    let then = (laws.frames_of last w (second g here).is).has.since_most in
    let h = made g here in
    edges_made g.H.Shelf c.new-feed.result c.read_either.new.feed c.args.shelf.now
    c.read_either.new.shelf x c.in_ok-order.field-0 (counts_of last) c.requires.unused text
    (λ z. (e.gives z).end) h k.uses_up k.orders k.blocks.stores
    (order_keeps text v e p
    (λ told n runs few short. used_moves v n runs refl makes since b.costs told few short) refl
    (second g here) then h k.costs)
    (order_most {q = ghosts} (Ok c.in_ok-order.field-0) h (ext_tree w.pool.shape) (second g here).new.k k.blocks
    (most g here))
