use Rattle.std.proofs.Common.{◌∙◌, [], arith}
use Rattle.em_space.specs.Seen.{seen}
use Rattle.em_chain.specs.Writer.{writer_blocks, writer_items}
use Rattle.em_space.proofs.Within.{within_then}
use Rattle.em_chain.proofs.Withins.{within_grows}
use Rattle.em_space.proofs.Within.{goes_within}
use Rattle.bench_runs.proofs.Laws.{written_more}
use Rattle.bench_runs.proofs.records.append_all.Goals as goal

pub loop-number-preserved : goal.loop-number-preserved
loop-number-preserved g c =
    let inv = c.loop-number.invariant in
    let a = c.in_ok-append.ensures in
    let first = seen g.D.Device.state c.args.rig.now in
    let mid = seen g.D.Device.state c.loop-number.rig in
    let blocks = writer_blocks mid c.loop-number.writer in
    record {
      goes = goes_within [] blocks first mid _ inv.goes inv.writes.within a.goes;
      writes = record {
        is = a.appends.is;
        within = within_then first mid [] blocks _ inv.goes.touches inv.writes.within
            (within_grows mid _ _ a.appends.grown);
        items = λ told.
            written_more c.loop-number.number (writer_items mid c.loop-number.writer) _
            c.numbered.result (inv.writes.items told) c.numbered.ensures
            (a.appends.items (inv.goes.touches.told ∙ told));
        used = omega (arith, a.costs.used, inv.writes.used);
      };
      count = omega (arith, a.appends.count_is, inv.count);
      few = omega (arith, a.costs.more, inv.few);
    }

pub returns-in_err-append-clause-goes : goal.returns-in_err-append-clause-goes
returns-in_err-append-clause-goes g c =
    let inv = c.loop-number.invariant in
    goes_within [] _ _ _ _ inv.goes inv.writes.within c.append.ensures.goes
