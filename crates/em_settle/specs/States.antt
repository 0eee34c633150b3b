-- Operations one after another, of one key and of all. `step` gives what one operation does if a
-- record, or none, is stored under its key.
use Rattle.std.specs.Prelude.{cond, List, [], ◌∷◌, ◌++◌, Option, option_to_list}
use Rattle.em_record.specs.declared.record.Record.{Record}
use Rattle.em_settle.specs.Keys.{has_key}
use Rattle.em_settle.specs.declared.step.Step.{Step}

-- what operations of one key leave stored under it
abbrev pub stored_after : (Option Record → Record → Step) → Option Record → List Record → Option Record
stored_after step s [] = s
stored_after step s (op ∷ ops) = stored_after step (step s op).stored ops

-- what is stored under each key
abbrev pub Stored : Type 0
Stored = Record → Option Record

-- what is stored after an operation, which changes the record of its own key alone
abbrev pub with_op : (Record → Record) → (Option Record → Record → Step) → Stored → Record → Stored
with_op key step m op q = cond (has_key key q op) (step (m (key op)) op).stored (m q)

-- what is stored after operations of any keys
abbrev pub with_ops : (Record → Record) → (Option Record → Record → Step) → Stored → List Record
    → Stored
with_ops key step m [] = m
with_ops key step m (op ∷ ops) = with_ops key step (with_op key step m op) ops

-- what these operations answer, in their order
abbrev pub answers_to : (Record → Record) → (Option Record → Record → Step) → Stored
    → List Record → List Record
answers_to key step m [] = []
answers_to key step m (op ∷ ops) = option_to_list (step (m (key op)) op).answer
    ++ answers_to key step (with_op key step m op) ops
