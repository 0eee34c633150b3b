-- The answers of a map stand in order by their numbers, so that any order of them is put right by these.
use Rattle.std.specs.Prelude.{◌≡◌, List}
use Rattle.std.proofs.Common.{◌∙◌}
use Rattle.std.specs.List.Sorted.{IsPermutation}
use Rattle.em_record.specs.Order.{in_order}
use Rattle.em_record.specs.declared.record.Record.{Record}
use Rattle.em_record.proofs.Commutes.{order_ascending}
use Rattle.em_record.proofs.OrderLaws.{order_permutation}
use Rattle.em_model.specs.Map.{Combiner}
use Rattle.em_model.specs.MapAnswers.{answers_after}
use Rattle.em_model.specs.declared.command.Command.{Command}
use Rattle.em_model.proofs.Ordered.{answers_after_ascend}

-- The answers in any order, put in order, are those of the commands.
pub in_order_of : (apply : Combiner) (before cs : List Command) (xs : List Record)
    → IsPermutation (answers_after apply before cs) xs → in_order xs ≡ answers_after apply before cs
in_order_of apply before cs xs p = order_permutation (answers_after apply before cs) xs p
    ∙ order_ascending (answers_after apply before cs) (answers_after_ascend apply before cs)
