use Rattle.std.proofs.Common.{◌∙◌, sym, arith}
use Rattle.std.proofs.lemmas.List.{length-take-le}
use Rattle.em_model.proofs.SyncLaws.{count_same, count_synced, counted_all, counted_few}
use Rattle.em_model.proofs.sync.synced.Goals as goal
use Rattle.em_model.proofs.sync.synced.Goals.{in-Sync, in_default}

pub loop-i-preserved : goal.loop-i-preserved
loop-i-preserved c =
    elim c.match-command.branch [
      | in-Sync w ↦
          w.count-is ∙ sym (count_synced c.args.commands.now c.loop-i.i _ c.loop-i-test.true w.in-Sync.is)
      | in_default w ↦
          w.count-is ∙ c.loop-i.invariant
          ∙ sym (count_same c.args.commands.now c.loop-i.i _ c.loop-i-test.true w.in_default.not-Sync)
    ]

pub slice_bounds-result-end : goal.slice_bounds-result-end
slice_bounds-result-end c =
    sym (length-take-le c.loop-i.count c.args.commands.now
    (counted_few c.args.commands.now c.loop-i.i c.loop-i.count c.loop-i.invariant))

pub returns : goal.returns
returns c =
    counted_all c.args.commands.now c.loop-i.i c.loop-i.count c.loop-i.invariant
    (omega (arith, c.loop-i-test.false))
