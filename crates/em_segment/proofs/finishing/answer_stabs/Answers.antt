use Rattle.std.proofs.Common.{◌≡◌, ◌⊎◌, inl, inr, arith}
use Rattle.em_space.specs.Seen.{seen}
use Rattle.em_space.proofs.Queues.{out_same}
use Rattle.em_segment.proofs.StabEnds.{stands_out}
use Rattle.em_segment.proofs.StabNothing.{close_nothing, found_nothing, nothing_asked, something}
use Rattle.em_segment.proofs.StabReported.{pairs_can, report_can}
use Rattle.em_segment.proofs.StabSorted.{points_can}
use Rattle.em_segment.proofs.StabStates.{StabLaws, after_close, after_report, after_sort, close_refused, closed_out, last_sorted, report_refused, sort_refused}
use Rattle.em_segment.proofs.finishing.answer_stabs.Given as given
use Rattle.em_segment.proofs.finishing.answer_stabs.Goals as goal
use Rattle.em_segment.proofs.finishing.answer_stabs.Goals.{then-len-eq0-via-else-len-eq0+then-len-eq0-2, then-len-eq0-via-then-len-eq0}

laws_of : (g : given.Over) → StabLaws g.Q.Queue
laws_of g =
    let laws = g.met.Q.Queue in record {
      stays = laws.stays;
      frames_stay = laws.frames_stay;
      frames_of = laws.frames_of;
      out = laws.out;
      since_none = laws.since_none;
      blocks_most = laws.blocks_most;
      unstored_most = laws.unstored_most;
      fits = laws.fits;
    }

pub returns-then-len-eq0 : goal.returns-then-len-eq0
returns-then-len-eq0 g c =
    let x = c.args.queue.now in
    let e = c.in_ok-pieces.ensures.closes in
    let d = c.find_nothing.ensures in
    let o : (c.in_ok-pieces.points.count ≡ 0) ⊎ (c.in_ok-pieces.pieces.count ≡ 0) =
    elim c.then-len-eq0.branch [
      | then-len-eq0-via-then-len-eq0 w ↦ inl (omega (arith, w.if-len-eq0.true, c.len.ensures))
      | then-len-eq0-via-else-len-eq0+then-len-eq0-2 w ↦
          inr (omega (arith, w.if-len-eq0-2.true, w.len-else-len-eq0.ensures))
    ] in
    let all = found_nothing g.Q.Queue x (laws_of g) c.requires.sound c.requires.is c.requires.queue
    c.requires.can e c.find_nothing.result (nothing_asked e o) d.discards d.empty in record {
      frames = all.frames;
      queue = all.refuses.queue;
      answers = all.refuses.answers;
      costs = all.refuses.costs;
      full = all.refuses.full;
      nothing = λ none. all.nothing;
    }

pub order_points-requires-clause-is : goal.order_points-requires-clause-is
order_points-requires-clause-is g c =
    (after_close g.Q.Queue c.args.queue.now (laws_of g) c.requires.sound c.requires.queue c.requires.can
    c.in_ok-pieces.ensures.closes).is

pub order_points-requires-clause-can : goal.order_points-requires-clause-can
order_points-requires-clause-can g c =
    let e = c.in_ok-pieces.ensures.closes in
    points_can g.Q.Queue c.args.queue.now c.requires.is c.requires.can e
    (after_close g.Q.Queue c.args.queue.now (laws_of g) c.requires.sound c.requires.queue c.requires.can
    e).stands

pub report_pairs-requires : goal.report_pairs-requires
report_pairs-requires g c =
    let x = c.args.queue.now in
    let e = c.in_ok-points.ensures in
    let a = after_sort g.Q.Queue x c.order_points.new.queue (laws_of g) c.requires.sound c.requires.is
    c.requires.queue c.requires.can c.in_ok-pieces.ensures.closes e.sorts e.queue in
    record {
      can = report_can g.Q.Queue x c.order_points.new.queue c.requires.is c.requires.can a.has a.stands;
    }

pub order_pairs-requires-clause-is : goal.order_pairs-requires-clause-is
order_pairs-requires-clause-is g c =
    let laws = g.met.Q.Queue in
    let x = c.args.queue.now in
    let s = seen g.D.Device.state c.args.rig.now in
    let e = c.in_ok-points.ensures in
    let a = after_sort g.Q.Queue x c.order_points.new.queue (laws_of g) c.requires.sound c.requires.is
    c.requires.queue c.requires.can c.in_ok-pieces.ensures.closes e.sorts e.queue in
    (after_report g.Q.Queue x c.order_points.new.queue (laws_of g) c.requires.can
    (laws.out x s (laws.frames_of x s c.requires.queue)) a c.in_ok-pairs.ensures.reports).is

pub order_pairs-requires-clause-can : goal.order_pairs-requires-clause-can
order_pairs-requires-clause-can g c =
    let laws = g.met.Q.Queue in
    let x = c.args.queue.now in
    let s = seen g.D.Device.state c.args.rig.now in
    let e = c.in_ok-points.ensures in
    let r = c.in_ok-pairs.ensures.reports in
    let a = after_sort g.Q.Queue x c.order_points.new.queue (laws_of g) c.requires.sound c.requires.is
    c.requires.queue c.requires.can c.in_ok-pieces.ensures.closes e.sorts e.queue in
    let b = after_report g.Q.Queue x c.order_points.new.queue (laws_of g) c.requires.can
    (laws.out x s (laws.frames_of x s c.requires.queue)) a r in
    pairs_can g.Q.Queue x c.order_points.new.queue c.requires.is c.requires.can a.has r b.stands
    (omega (arith, a.calls_most, c.requires.is.few)) a.empty

pub returns-in_err-pieces : goal.returns-in_err-pieces
returns-in_err-pieces g c =
    let laws = g.met.Q.Queue in
    let x = c.args.queue.now in
    let s = seen g.D.Device.state c.args.rig.now in
    let t = seen g.D.Device.state c.close_both.new.rig in
    let e = c.in_err-pieces.ensures.closes in
    let has = laws.frames_of x s c.requires.queue in
    let all = close_refused g.Q.Queue x c.from_residual.result (laws_of g) c.requires.sound c.requires.is
    c.requires.queue c.requires.can e c.from_residual.ensures.1 in record {
      frames = laws.frames_stay x _ s t has e.touches
          (closed_out c.requires.can.out (laws.out x s has) e.frames);
      queue = all.queue;
      answers = all.answers;
      costs = all.costs;
      full = all.full;
      nothing = λ none. close_nothing x c.from_residual.result c.requires.sound e c.from_residual.ensures.1;
    }

pub returns-in_err-points : goal.returns-in_err-points
returns-in_err-points g c =
    let x = c.args.queue.now in
    let r = c.from_residual-in_err-points in
    let e = c.in_err-points.ensures in
    let all = sort_refused g.Q.Queue x c.order_points.new.queue r.result (laws_of g) c.requires.sound
    c.requires.is c.requires.queue c.requires.can c.in_ok-pieces.ensures.closes e.sorts r.ensures.1 in
    record {
      frames = e.frames;
      queue = all.queue;
      answers = all.answers;
      costs = all.costs;
      full = all.full;
      nothing = something _ _ r.result c.in_ok-pieces.ensures.closes
          (omega (arith, c.if-len-eq0.false, c.len.ensures))
          (omega (arith, c.if-len-eq0-2.false, c.len-else-len-eq0.ensures));
    }

pub returns-in_err-pairs : goal.returns-in_err-pairs
returns-in_err-pairs g c =
    let laws = g.met.Q.Queue in
    let x = c.args.queue.now in
    let y = c.order_points.new.queue in
    let s = seen g.D.Device.state c.args.rig.now in
    let u = seen g.D.Device.state c.order_points.new.rig in
    let n = seen g.D.Device.state c.report_pairs.new.rig in
    let r = c.from_residual-in_err-pairs in
    let e = c.in_ok-points.ensures in
    let stops = c.in_err-pairs.ensures.reports in
    let a = after_sort g.Q.Queue x y (laws_of g) c.requires.sound c.requires.is c.requires.queue
    c.requires.can c.in_ok-pieces.ensures.closes e.sorts e.queue in
    let out = laws.out x s (laws.frames_of x s c.requires.queue) in
    let all = report_refused g.Q.Queue x y r.result (laws_of g) c.requires.sound c.requires.is c.requires.can
    out a stops r.ensures.1 in record {
      frames = laws.frames_stay y _ u n e.frames stops.stops.goes.touches
          (out_same _ _ _ (stands_out g.Q.Queue x y c.requires.can out a.stands) stops.stops.goes.frames);
      queue = all.queue;
      answers = all.answers;
      costs = all.costs;
      full = all.full;
      nothing = something _ _ r.result c.in_ok-pieces.ensures.closes
          (omega (arith, c.if-len-eq0.false, c.len.ensures))
          (omega (arith, c.if-len-eq0-2.false, c.len-else-len-eq0.ensures));
    }

pub returns : goal.returns
returns g c =
    let laws = g.met.Q.Queue in
    let x = c.args.queue.now in
    let y = c.order_points.new.queue in
    let s = seen g.D.Device.state c.args.rig.now in
    let t = seen g.D.Device.state c.order_pairs.new.rig in
    let e = c.in_ok-points.ensures in
    let a = after_sort g.Q.Queue x y (laws_of g) c.requires.sound c.requires.is c.requires.queue
    c.requires.can c.in_ok-pieces.ensures.closes e.sorts e.queue in
    let last = c.order_pairs.ensures in
    let all = last_sorted g.Q.Queue x y c.order_pairs.new.queue t c.order_pairs.result (laws_of g)
    c.requires.sound c.requires.is c.requires.can (laws.out x s (laws.frames_of x s c.requires.queue)) a
    c.in_ok-pairs.ensures.reports last.sorts last.queue in record {
      frames = last.frames;
      queue = all.queue;
      answers = all.answers;
      costs = all.costs;
      full = all.full;
      nothing = something _ _ c.order_pairs.result c.in_ok-pieces.ensures.closes
          (omega (arith, c.if-len-eq0.false, c.len.ensures))
          (omega (arith, c.if-len-eq0-2.false, c.len-else-len-eq0.ensures));
    }
