use Rattle.aig_text.proofs.Passed.{lines_none, lines_next, lines_last, lines_stop, tail_left}
use Rattle.aig_text.proofs.tail.tail.Goals as goal

pub loop-stop-init : goal.loop-stop-init
loop-stop-init g c = lines_none c.args.header.now c.requires.open

pub loop-stop-preserved : goal.loop-stop-preserved
loop-stop-preserved g c = lines_next c.loop-stop.invariant _ c.in-Ok-true.field-0-test
    (c.in-Ok-true.ensures.forward c.in-Ok-true.field-0-test) c.in-Ok-true.ensures.reads

pub returns-in-Err : goal.returns-in-Err
returns-in-Err g c = record {
  reads = lines_stop c.loop-stop.invariant _ c.in-Err.ensures.reads;
  end = λ t. tt;
}

pub returns-in-Ok-false : goal.returns-in-Ok-false
returns-in-Ok-false g c =
    let r = lines_last c.loop-stop.invariant _ c.in-Ok-false.field-0-test
    c.in-Ok-false.ensures.reads in
    record {
      reads = r;
      end = tail_left c.args.header.now _ _ r;
    }
