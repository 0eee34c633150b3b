use Rattle.std.proofs.Common.{arith}
use Rattle.std.proofs.lemmas.Grind.{common_steps}
use Rattle.em_model.specs.declared.command.Command.TheVariants.{Put}
use Rattle.em_model.specs.Map.{no_keys}
use Rattle.em_model.proofs.MapLaws.{map_answers_from-more, answer_of-other}
use Rattle.em_model.proofs.map.map_answers_of.Goals as goal
use Rattle.em_model.proofs.map.map_answers_of.Goals.{in-Get+in_ok-push, in_default}

pub loop-i-preserved : goal.loop-i-preserved
loop-i-preserved g c = λ apply joins.
    let before = c.loop-i.invariant apply joins in
    elim c.match-command.branch [
      | in-Get+in_ok-push w ↦
          let value = w.value_after.ensures apply joins in
          map_answers_from-more apply no_keys _ _ (Put 0 0) _ _ _ c.loop-i-test.true before
          (rw w.in-Get.is (grind (arith, common_steps, value)))
      | in_default w ↦
          map_answers_from-more apply no_keys _ _ (Put 0 0) _ _ _ c.loop-i-test.true before
          (rw (answer_of-other _ _ w.in_default.not-Get) (grind (arith, common_steps)))
    ]
