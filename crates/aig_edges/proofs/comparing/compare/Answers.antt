use Rattle.std.proofs.Common.{Result, arith}
use Rattle.em_space.specs.Seen.{seen}
use Rattle.aig_text.specs.declared.stop.AigStop.{AigStop}
use Rattle.aig_text.proofs.Lines.{of_error}
use Rattle.aig_edges.specs.Comparing.{ComparesTo}
use Rattle.aig_edges.specs.declared.comparing.Compared.{Compared}
use Rattle.aig_edges.proofs.AllCompared.{can_on}
use Rattle.aig_edges.proofs.ComparedLists.{can_start, compare_damaged, compare_is, compare_stopped, compare_unfinished}
use Rattle.aig_edges.proofs.comparing.compare.Goals as goal

pub compare_all-requires-clause-can : goal.compare_all-requires-clause-can
compare_all-requires-clause-can g c = can_start c.requires.can c.open-lists.ensures.opens

pub finish-requires-clause-are : goal.finish-requires-clause-are
finish-requires-clause-are g c =
    (can_on (can_start c.requires.can c.open-lists.ensures.opens) c.in-Ok.ensures.done.compares).are

pub returns-in-Err : goal.returns-in-Err
returns-in-Err g c =
    let b = c.abandon.ensures in
    record {
      done = compare_stopped _ c.in-Err.stop c.requires.can c.open-lists.ensures.opens
          c.in-Err.ensures.done b.gives b.unmoved;
    }

pub returns-then-len-count : goal.returns-then-len-count
returns-then-len-count g c =
    let b = c.abandon-then-len-count.ensures in
    let l = c.len.ensures in
    let n = c.if-len-count.true in
    record {
      done = compare_damaged c.requires.can c.open-lists.ensures.opens c.in-Ok.ensures.done
          (λ e. absurd (omega (arith, e, l, n))) b.gives b.unmoved;
    }

pub returns-in_err-finish : goal.returns-in_err-finish
returns-in_err-finish g c = record {
  done = of_error (λ (r : Result Compared AigStop). ComparesTo
      (seen g.D.Device.state c.args.rig.now) (seen g.D.Device.state c.finish.new.rig) c.args.defs
      c.args.edges c.args.count r) _ _ c.from_residual.ensures.1
      (compare_unfinished c.requires.can c.open-lists.ensures.opens c.in-Ok.ensures.done
      c.in_err-finish.ensures.done);
}

pub returns : goal.returns
returns g c =
    let l = c.len.ensures in
    let n = c.if-len-count.false in
    record {
      done = compare_is c.requires.can c.open-lists.ensures.opens c.in-Ok.ensures.done
          (omega (arith, l, n)) c.in_ok-finish.ensures.done;
    }
