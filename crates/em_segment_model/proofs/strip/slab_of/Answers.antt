use Rattle.std.proofs.Common.{sym, ◌∙◌, arith}
use Rattle.em_segment_model.specs.Spans.{interval_at}
use Rattle.em_segment_model.specs.declared.strip.Span.{Span}
use Rattle.em_segment_model.proofs.Steps.{slab_held, slab_before, slab_after}
use Rattle.em_segment_model.proofs.strip.slab_of.Goals as goal
use Rattle.em_segment_model.proofs.strip.slab_of.Goals.{then-is_held, else-is_held+then-width-eq0, else-is_held+else-width-eq0}

pub loop-k-preserved : goal.loop-k-preserved
loop-k-preserved c =
    let d : Span = record { first = 0; last = 0 } in
    let i = interval_at c.args.low c.args.high in
    elim c.if-is_held.branch [
      | then-is_held w ↦ rw (w.first-is, w.width-is)
          (slab_held c.args.strips.now c.loop-k.k d i c.loop-k.first c.loop-k.width c.loop-k-test.true
          c.loop-k.invariant (sym c.is_held.ensures ∙ w.if-is_held.true))
      | else-is_held+then-width-eq0 w ↦ rw (w.first-is, w.width-is)
          (slab_before c.args.strips.now c.loop-k.k d i c.loop-k.first c.loop-k.width c.loop-k-test.true
          c.loop-k.invariant (sym c.is_held.ensures ∙ w.if-is_held.false) w.if-width-eq0.true)
      | else-is_held+else-width-eq0 w ↦ rw (w.first-is, w.width-is)
          (slab_after c.args.strips.now c.loop-k.k d i c.loop-k.first c.loop-k.width c.loop-k-test.true
          c.loop-k.invariant (sym c.is_held.ensures ∙ w.if-is_held.false) (omega (arith, w.if-width-eq0.false)))
    ]
