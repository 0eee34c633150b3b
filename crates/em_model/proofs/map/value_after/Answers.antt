use Rattle.std.proofs.Common.{arith}
use Rattle.std.proofs.lemmas.Grind.{common_steps}
use Rattle.em_model.specs.Map.{no_keys}
use Rattle.em_model.proofs.MapLaws.{state_after-value}
use Rattle.em_model.proofs.map.value_after.Goals as goal

pub returns : goal.returns
returns g c = λ apply joins.
    let e = c.loop-command.invariant apply joins in
    grind (arith, common_steps, e, state_after-value apply no_keys c.args.commands.now c.args.wanted)

pub loop-command-preserved : goal.loop-command-preserved
loop-command-preserved g c = λ apply joins.
    let e = c.loop-command.invariant apply joins in
    grind (arith, common_steps, e, c.match-command.branch)
