use Rattle.std.proofs.Common.{arith}
use Rattle.em_empty.proofs.Returned.{moved_none, moved_then, returned_len, returned_node, returned_none, returned_then, returns_failed}
use Rattle.em_empty.proofs.returning.return_all.Goals as goal

pub loop-init : goal.loop-init
loop-init g c = record {
  returned = returned_none c.requires.sound c.requires.is c.requires.node.is c.requires.len;
  frames = moved_none _ _;
  len = omega arith;
  count = omega arith;
}

pub return_last-requires-clause-node : goal.return_last-requires-clause-node
return_last-requires-clause-node g c = returned_node c.loop.invariant.returned

pub return_last-requires-clause-len : goal.return_last-requires-clause-len
return_last-requires-clause-len g c = returned_len c.loop.invariant.returned
    (omega (arith, c.loop.invariant.len, c.requires.len))

pub returns-in_err-return_last-clause-returns : goal.returns-in_err-return_last-clause-returns
returns-in_err-return_last-clause-returns g c =
    returns_failed _ _ _ _ c.from_residual.result c.from_residual.ensures.1 c.loop.invariant.returned
    c.in_err-return_last.ensures.returns

pub loop-preserved : goal.loop-preserved
loop-preserved g c =
    let x = c.loop.invariant in
    let e = c.in_ok-return_last.ensures in
    record {
      returned = returned_then x.returned (omega (arith, x.len, c.requires.len)) e.len e.returns;
      frames = moved_then x.frames e.frames;
      len = omega (arith, x.len, e.returns.len);
      count = omega (arith, x.count, c.loop-test.true, c.count-end.ensures);
    }
