use Rattle.std.proofs.Common.{◌≡◌, ◌⊎◌, ◌<◌, ◌*◌, ℕ, ap, arith, inl, inr, ◌∙◌}
use Rattle.std.specs.Int.{div_ceil}
use Rattle.em_record.specs.Shape.{ShapeNumbers, fan_of, wide_of}
use Rattle.em_space.specs.Seen.{seen}
use Rattle.em_segment_model.specs.Sizes.{fan_root, root_of}
use Rattle.em_segment.specs.Belows.{pieces_of, points_of}
use Rattle.em_segment.proofs.BelowAnswers.{last_call, last_some}
use Rattle.em_segment.proofs.BelowLists.{calls_length}
use Rattle.em_segment.proofs.BelowRuns.{below_all, below_ends, below_err, below_next, below_none, last_by, last_taken}
use Rattle.em_segment.proofs.CallAnswers.{below_can, call_held, discards_answer, node_by, strip_fewer, strips_some}
use Rattle.em_segment_parts.proofs.Chains.{chains_length}
use Rattle.em_segment.proofs.answering.+answer.Goals as goal
use Rattle.em_segment.proofs.answering.+answer.Goals.{answer-then-len-eq0-via-else-len-eq0+then-len-eq0-2, answer-then-len-eq0-via-then-len-eq0}

pub answer-discard_both-requires-clause-holds : goal.answer-discard_both-requires-clause-holds
answer-discard_both-requires-clause-holds g t c = call_held c.requires.can.call

pub answer-returns-then-len-eq0-clause-answers : goal.answer-returns-then-len-eq0-clause-answers
answer-returns-then-len-eq0-clause-answers g t c =
    let o : (c.args.points.count ≡ 0) ⊎ (c.args.pieces.count ≡ 0) =
    elim c.then-len-eq0.branch [
      | answer-then-len-eq0-via-then-len-eq0 w ↦ inl (omega (arith, w.if-len-eq0.true, c.len.ensures))
      | answer-then-len-eq0-via-else-len-eq0+then-len-eq0-2 w ↦
          inr (omega (arith, w.if-len-eq0-2.true, w.len-else-len-eq0.ensures))
    ] in
    discards_answer _ c.discard_both.result c.requires.can.call o c.discard_both.ensures.discards

pub answer-answer_leaf-requires-clause-fits : goal.answer-answer_leaf-requires-clause-fits
answer-answer_leaf-requires-clause-fits g t c =
    rw (c.len-2.ensures, c.wide.ensures.value, c.block.ensures.value, c.shape-shape.ensures) at
    c.if-len-wide.true

pub answer-div_ceil-most-requires : goal.answer-div_ceil-most-requires
answer-div_ceil-most-requires g t c =
    let s = seen g.D.Device.state c.args.rig.now in
    let root : c.strip_count.result ≡ fan_root s.pool.shape =
    c.strip_count.ensures ∙ (ap root_of c.fan.ensures.value
    ∙ ap (λ (x : ShapeNumbers). root_of (fan_of x)) c.shape-shape.ensures) in
    let some = strips_some s.pool.shape c.requires.can.call.sound.shape in
    omega (arith, root, some)

pub answer-answer_node-requires-clause-big : goal.answer-answer_node-requires-clause-big
answer-answer_node-requires-clause-big g t c =
    rw (c.len-2.ensures, c.wide.ensures.value, c.block.ensures.value, c.shape-shape.ensures) at
    c.if-len-wide.false

pub answer-answer_node-requires-clause-most : goal.answer-answer_node-requires-clause-most
answer-answer_node-requires-clause-most g t c =
    let s = seen g.D.Device.state c.args.rig.now in
    let root : c.strip_count.result ≡ fan_root s.pool.shape =
    c.strip_count.ensures ∙ (ap root_of c.fan.ensures.value
    ∙ ap (λ (x : ShapeNumbers). root_of (fan_of x)) c.shape-shape.ensures) in
    c.div_ceil-most.ensures ∙ (ap (λ (n : ℕ). div_ceil n c.strip_count.result) c.len-3.ensures
    ∙ ap (λ (k : ℕ). div_ceil c.args.points.count k) root)

pub answer-answer_below-requires : goal.answer-answer_below-requires
answer-answer_below-requires g t c =
    let s = seen g.D.Device.state c.args.rig.now in
    let root : c.strip_count.result ≡ fan_root s.pool.shape =
    c.strip_count.ensures ∙ (ap root_of c.fan.ensures.value
    ∙ ap (λ (x : ShapeNumbers). root_of (fan_of x)) c.shape-shape.ensures) in
    let most : c.div_ceil-most.result ≡ div_ceil c.args.points.count (fan_root s.pool.shape) =
    c.div_ceil-most.ensures ∙ (ap (λ (n : ℕ). div_ceil n c.strip_count.result) c.len-3.ensures
    ∙ ap (λ (k : ℕ). div_ceil c.args.points.count k) root) in
    let big : wide_of s.pool.shape * s.pool.shape.block < c.args.points.count =
    rw (c.len-2.ensures, c.wide.ensures.value, c.block.ensures.value, c.shape-shape.ensures) at
    c.if-len-wide.false in
    let fewer = strip_fewer s.pool.shape c.args.points.count c.requires.can.call.sound.shape big in
    λ κs lives. (
      omega (arith, most, fewer, c.decreases),
      (lives, below_can c.requires.can c.in_ok-below.ensures.answers),
    )

pub answer-returns-clause-answers : goal.answer-returns-clause-answers
answer-returns-clause-answers g t c =
    let s = seen g.D.Device.state c.args.rig.now in
    let root : c.strip_count.result ≡ fan_root s.pool.shape =
    c.strip_count.ensures ∙ (ap root_of c.fan.ensures.value
    ∙ ap (λ (x : ShapeNumbers). root_of (fan_of x)) c.shape-shape.ensures) in
    let most : c.div_ceil-most.result ≡ div_ceil c.args.points.count (fan_root s.pool.shape) =
    c.div_ceil-most.ensures ∙ (ap (λ (n : ℕ). div_ceil n c.strip_count.result) c.len-3.ensures
    ∙ ap (λ (k : ℕ). div_ceil c.args.points.count k) root) in
    let big : wide_of s.pool.shape * s.pool.shape.block < c.args.points.count =
    rw (c.len-2.ensures, c.wide.ensures.value, c.block.ensures.value, c.shape-shape.ensures) at
    c.if-len-wide.false in
    node_by c.requires.can c.in_ok-below.ensures.answers big most _ _ c.answer_below.result
    c.answer_below.ensures.answers

pub answer_below-loop-init : goal.answer_below-loop-init
answer_below-loop-init g t c = below_none c.requires.can

pub answer_below-answer_last-requires : goal.answer_below-answer_last-requires
answer_below-answer_last-requires g t c =
    let x = chains_length c.loop.below.points.items in
    let y = chains_length c.args.below.now.points.items in
    let len = c.loop.invariant.len in
    λ κs lives. (
      omega (arith, c.decreases),
      (
        lives,
        (
          c.loop.invariant.can,
          omega (arith, x, y, len, c.loop-test.true, c.len-end.ensures),
        ),
      ),
    )

pub answer_below-returns-in_err-answer_last-clause-answers : goal.answer_below-returns-in_err-answer_last-clause-answers
answer_below-returns-in_err-answer_last-clause-answers g t c =
    below_err _ _ _ _ _ _ c.from_residual.result _ c.from_residual.ensures.1
    (below_ends c.loop.invariant c.in_err-answer_last.ensures.answers)

pub answer_below-loop-preserved : goal.answer_below-loop-preserved
answer_below-loop-preserved g t c = below_next c.loop.invariant c.in_ok-answer_last.ensures.answers

pub answer_below-returns-clause-answers : goal.answer_below-returns-clause-answers
answer_below-returns-clause-answers g t c =
    let y = chains_length c.args.below.now.points.items in
    below_all c.loop.invariant
    (omega (arith, y, c.loop-test.false, c.loop.auto.counter-end, c.len-end.ensures))

pub answer_below-returns-clause-frame : goal.answer_below-returns-clause-frame
answer_below-returns-clause-frame g t c = c.loop.invariant.reports.wrote.is.frame

pub answer_last-pop-requires-clause-pieces : goal.answer_last-pop-requires-clause-pieces
answer_last-pop-requires-clause-pieces g t c =
    let b = c.args.below.now in
    let n = calls_length c.args.most (seen g.D.Device.state c.args.rig.now) (points_of b) (pieces_of b)
    c.requires.can.are.calls in
    let x = chains_length b.points.items in
    let y = chains_length b.pieces.items in
    omega (arith, n, x, y, c.requires.some)

pub answer_last-answer-requires : goal.answer_last-answer-requires
answer_last-answer-requires g t c =
    let l = last_taken {b = c.args.below.now} {d = c.pop.new.self} c.pop.ensures.points
    c.pop.ensures.pieces in
    let few = (last_some c.requires.can l).1 in
    λ κs lives. (omega (arith, few, c.decreases), (lives, last_call c.requires.can l))

pub answer_last-returns-clause-answers : goal.answer_last-returns-clause-answers
answer_last-returns-clause-answers g t c =
    last_by c.args.most _ _ c.args.below.now c.pop.new.self c.pop.result.0 c.pop.result.1 _ _
    c.answer.result c.pop.ensures.points c.pop.ensures.pieces c.answer.ensures.answers
