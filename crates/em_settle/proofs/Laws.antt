-- The laws of the implementations, and of all operations, each as one record.
use Rattle.std.specs.Prelude.{ℕ, Option, ⊤}
use Rattle.em_record.specs.declared.record.Record.{Record}
use Rattle.em_settle.specs.Add.{add_step_of, IsAddOp}
use Rattle.em_settle.specs.AddLaws as add
use Rattle.em_settle.specs.Bag.{bag_key_of, bag_step_of}
use Rattle.em_settle.specs.BagLaws as bag
use Rattle.em_settle.specs.Laws.{IsFold, IsSettle}
use Rattle.em_settle.specs.Map.{map_key_of, map_step_of, IsMapKept, IsMapOp}
use Rattle.em_settle.specs.MapLaws as map
use Rattle.em_settle.specs.declared.step.Step.{Step}
use Rattle.em_settle.proofs.States.{answers_append, beside_op, left_append}

-- The operations of a map have the laws of `Settle`.
pub map_settles : IsSettle map_key_of map_step_of IsMapOp IsMapKept
map_settles = record {
  in_order = map.in_order;
  keeps = map.keeps;
  keeps_key = map.keeps_key;
  stays_below = map.stays_below;
}

-- The operations of a map with adds have the laws of `Settle`, whatever joins the values.
pub add_settles : (apply : ℕ → ℕ → ℕ) → IsSettle map_key_of (add_step_of apply) IsAddOp IsMapKept
add_settles apply = record {
  in_order = map.in_order;
  keeps = add.keeps apply;
  keeps_key = add.keeps_key apply;
  stays_below = add.stays_below apply;
}

-- The operations of a bag have the laws of `Settle`.
pub bag_settles : IsSettle bag_key_of bag_step_of (λ _. ⊤) (λ _. ⊤)
bag_settles = record {
  in_order = bag.in_order;
  keeps = bag.keeps;
  keeps_key = bag.keeps_key;
  stays_below = bag.stays_below;
}

-- Operations with any keys and steps may be folded in lots, and change their own keys alone.
pub folds : (key : Record → Record) (step : Option Record → Record → Step) → IsFold key step
folds key step = record {
  stored_in_lots = left_append key step;
  answers_in_lots = answers_append key step;
  own_key_alone = beside_op key step;
}
