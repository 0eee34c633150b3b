use Rattle.std.proofs.Common.{Result, arith}
use Rattle.em_space.specs.Seen.{seen}
use Rattle.em_space.specs.declared.fault.EmFault.{EmFault}
use Rattle.aig_edges.specs.Copies.{CopiesNext}
use Rattle.aig_edges.proofs.CopySteps.{copies_none, copies_then, still_copied, stops_copying}
use Rattle.aig_edges.proofs.Looks.{of_fault}
use Rattle.aig_edges.proofs.copying.copy_all.Goals as goal

pub loop-number-init : goal.loop-number-init
loop-number-init g c = record {
  most = omega arith;
  copies = copies_none c.args.kind 0 c.requires.are;
}

pub copy_next-requires-clause-are : goal.copy_next-requires-clause-are
copy_next-requires-clause-are g c = still_copied c.requires.are c.loop-number.invariant.copies

pub copy_next-requires-clause-some : goal.copy_next-requires-clause-some
copy_next-requires-clause-some g c =
    let i = c.loop-number.invariant.copies in
    let left = i.pairs.took.left_is in
    let read = i.count_is in
    let all = c.requires.count in
    let more = c.loop-number-test.true in
    omega (arith, left, read, all, more)

pub returns-in_err-copy_next-clause-copies : goal.returns-in_err-copy_next-clause-copies
returns-in_err-copy_next-clause-copies g c =
    of_fault (λ (r : Result (Unit {0}) EmFault). CopiesNext c.args.kind 0 c.args.count
    (seen g.D.Device.state c.args.rig.now) (seen g.D.Device.state c.copy_next.new.rig)
    c.args.reader.now c.copy_next.new.reader c.args.writer.now c.copy_next.new.writer r) _ _
    c.from_residual.ensures.1
    (stops_copying c.requires.are c.loop-number.invariant.copies c.in_err-copy_next.ensures.copies)

pub loop-number-preserved : goal.loop-number-preserved
loop-number-preserved g c = record {
  most = omega (arith, c.loop-number-test.true);
  copies = copies_then c.args.kind c.loop-number.invariant.copies
      c.in_ok-copy_next.ensures.copies;
}
