use Rattle.std.proofs.Common.{◌∙◌, arith}
use Rattle.em_space.specs.Seen.{seen}
use Rattle.em_space.proofs.Within.{goes_within, within_then}
use Rattle.em_chain.proofs.Withins.{within_grows}
use Rattle.em_devices.proofs.Walks.{written_more}
use Rattle.em_devices.proofs.lists.append_all.Goals as goal

pub returns-in_err-append-clause-goes : goal.returns-in_err-append-clause-goes
returns-in_err-append-clause-goes g c =
    let i = c.loop-record.invariant in
    goes_within _ _ _ _ _ i.goes i.within c.append.ensures.goes

pub loop-record-preserved : goal.loop-record-preserved
loop-record-preserved g c =
    let i = c.loop-record.invariant in
    let s = seen g.D.Device.state c.args.rig.now in
    let t = seen g.D.Device.state c.loop-record.rig in
    let a = c.in_ok-append.ensures in
    record {
      goes = goes_within _ _ _ _ _ i.goes i.within a.goes;
      is = a.appends.is;
      within = within_then s t _ _ _ i.goes.touches i.within
          (within_grows t _ _ a.appends.grown);
      items = λ z.
          written_more _ _ _ c.args.records.now c.loop-record.record-index _ c.loop-record-test.true
          (i.items z) (a.appends.items (i.goes.touches.told ∙ z));
      count = omega (arith, a.appends.count_is, i.count);
      blocks = omega (arith, a.costs.more, i.blocks);
    }
