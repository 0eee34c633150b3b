use Rattle.std.proofs.Common.{◌∙◌, arith}
use Rattle.std.proofs.lemmas.List.{length-drop, take_rest}
use Rattle.em_io.proofs.Sent.{part-first, took-more}
use Rattle.em_io.proofs.sink.send.Goals as goal

pub returns-in_err-done-clause-part : goal.returns-in_err-done-clause-part
returns-in_err-done-clause-part g c =
    part-first c.loop-done.done (c.in_err-done.ensures.kept ∙ c.loop-done.invariant.state)

pub loop-done-preserved : goal.loop-done-preserved
loop-done-preserved g c =
    let done = c.loop-done.done in
    let bytes = c.args.bytes.now in
    let more = took-more g.met.W.Sink.rule (g.met.W.Sink.is_state c.args.sink.now) bytes in
    let wrote = rw take_rest at c.in_ok-done.ensures.took in
    record {
      within = omega (arith, length-drop done bytes, c.in_ok-done.ensures.within);
      state = more _ _ done c.in_ok-done.field-0 c.loop-done.invariant.state wrote;
      later = omega (arith, c.loop-done.invariant.later, c.write.ensures.cause.later);
    }
