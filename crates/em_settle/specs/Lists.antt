-- Operations on a list of stored records, one per key in order.
use Rattle.std.specs.Prelude.{cond, List, [], ◌∷◌, ◌++◌, Option, Some, None, option_to_list}
use Rattle.em_record.specs.declared.record.Record.{Record}
use Rattle.em_record.specs.Order.{is_below}
use Rattle.em_settle.specs.Keys.{has_key}
use Rattle.em_settle.specs.declared.step.Step.{Step}

-- the list after one operation: what it leaves stands in the place of its key
abbrev pub list_with_op : (Record → Record) → (Option Record → Record → Step) → List Record
    → Record → List Record
list_with_op key step [] op = option_to_list (step None op).stored
list_with_op key step (x ∷ xs) op =
    cond (is_below (key x) (key op)) (x ∷ list_with_op key step xs op)
    (cond (has_key key (key op) x) (option_to_list (step (Some x) op).stored ++ xs)
    (option_to_list (step None op).stored ++ x ∷ xs))

-- the list after several, one after another
abbrev pub list_with_ops : (Record → Record) → (Option Record → Record → Step) → List Record
    → List Record → List Record
list_with_ops key step xs [] = xs
list_with_ops key step xs (op ∷ ops) = list_with_ops key step (list_with_op key step xs op) ops
