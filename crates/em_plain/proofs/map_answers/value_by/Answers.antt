use Rattle.std.proofs.Common.{◌+◌, ◌-◌, ◌∙◌, arith}
use Rattle.em_settle.specs.Add.{apply_of}
use Rattle.em_plain.proofs.Looks.{looks_next, value_next}
use Rattle.em_plain.proofs.map_answers.value_by.Goals as goal

pub loop-preserved : goal.loop-preserved
loop-preserved g c =
    let inv = c.loop.invariant in
    let n = c.in_ok-item.ensures in
    let reads = rw c.in-Some.is at n.reads in
    record {
      looks = looks_next _ _ _ c.loop.reader _ _ inv.looks inv.over n.goes n.costs;
      is = reads.is;
      over = reads.taking ∙ inv.over;
      count = omega (arith, reads.count, inv.count);
      value = λ told.
          inv.value told
          ∙ value_next (apply_of c.args.settle.now.kind) c.args.key c.loop.found c.value_after-found.result
          (c.args.number - c.loop.counter) (c.args.number - (c.loop.counter + 1)) _ _
          c.in-Some.item (omega (arith, c.loop-test.true))
          (reads.items (inv.looks.goes.touches.told ∙ told)) c.value_after-found.ensures;
    }
