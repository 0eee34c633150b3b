-- The laws of operations that wait, each as one record.
use Rattle.std.specs.Prelude.{◌≡◌, true, false, List, ◌++◌, Option, Some, IfSome}
use Rattle.em_record.specs.declared.record.Record.{Record}
use Rattle.em_record.specs.Order.{is_below}
use Rattle.em_settle.specs.States.{Stored, with_op, with_ops, answers_to}
use Rattle.em_settle.specs.declared.step.Step.{Step}

-- What each implementation of `Settle` proves.
pub record IsSettle (key : Record → Record) (step : Option Record → Record → Step)
    (IsOp IsKept : Record → Type 0) : Type 0 where
  -- records in order have keys in order
  pub in_order : (x y : Record) → is_below y x ≡ false → is_below (key y) (key x) ≡ false
  -- what an operation leaves may be stored
  pub keeps : (old : Option Record) (op new : Record) → IfSome old IsKept → IsOp op
      → (step old op).stored ≡ Some new → IsKept new
  -- it has the operation's key, if what was stored had it
  pub keeps_key : (old : Option Record) (op new : Record) → IfSome old (λ r. key r ≡ key op)
      → (step old op).stored ≡ Some new → key new ≡ key op
  -- it is below every later operation of this key, if what was stored was below this one
  pub stays_below : (old : Option Record) (op new later : Record)
      → IfSome old (λ r. is_below r op ≡ true) → IsOp op → IsOp later → key later ≡ key op
      → is_below op later ≡ true → (step old op).stored ≡ Some new → is_below new later ≡ true

-- What holds of operations with any keys and steps.
pub record IsFold (key : Record → Record) (step : Option Record → Record → Step) : Type 0 where
  -- in two lots operations leave what they leave at once
  pub stored_in_lots : (m : Stored) (xs ys : List Record)
      → with_ops key step m (xs ++ ys) ≡ with_ops key step (with_ops key step m xs) ys
  -- and they answer the same
  pub answers_in_lots : (m : Stored) (xs ys : List Record)
      → answers_to key step m (xs ++ ys)
      ≡ answers_to key step m xs ++ answers_to key step (with_ops key step m xs) ys
  -- an operation leaves what is stored under another key
  pub own_key_alone : (m : Stored) (op q : Record) → (key op ≡ q → ⊥) → with_op key step m op q ≡ m q
