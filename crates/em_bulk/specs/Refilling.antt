-- The parts of `next`: the area of a drain filled again, and a record given out of it.
use Rattle.std.specs.Prelude.{◌≡◌, ◌+◌, ◌<◌, [], get_or, IsTrue, Option, Some, None, Result, Ok, Err}
use Rattle.std.specs.List.Sorted.{IsPermutation}
use Rattle.em_record.specs.declared.record.Record.{Record}
use Rattle.em_settle.specs.declared.step.Step.{Step}
use Rattle.em_space.specs.Rig.{RigState}
use Rattle.em_space.specs.declared.fault.EmFault.{EmFault}
use Rattle.em_tree_model.specs.Meaning.{tree_answers, tree_contents}
use Rattle.em_tree_model.specs.Tree.{waiting_in}
use Rattle.em_tree_walk.specs.Paid.{RunsPaid}
use Rattle.em_trunk.specs.Trunk.{given_by, model_of}
use Rattle.em_bulk.specs.Draining.{IsDrain, StopsDrain, drain_blocks, drain_unstored, left_in, trunk_of}
use Rattle.em_bulk.specs.declared.drain.Drain.{Drain}

-- What a device that tells holds after the area was filled: what is left is the same, and if the area has none of it, it is none.
pub record TellsRefill {S : Type 0} (key : Record → Record) (step : Option Record → Record → Step) (s t : RigState)
    (d e : Drain S) : Type 0 where
  pub left : (q : Record) → left_in key step t e q ≡ left_in key step s d q
  pub none : e.at ≡ e.end → (q : Record) → left_in key step t e q ≡ None
  pub answers : IsPermutation (tree_answers key step (given_by s (trunk_of d)) (model_of s (trunk_of d)))
      (tree_answers key step (given_by t (trunk_of e)) (model_of t (trunk_of e)))
  pub quiet : waiting_in (model_of s (trunk_of d)) ≡ [] → waiting_in (model_of t (trunk_of e)) ≡ []
  pub reset : (trunk_of e).resets ≡ (trunk_of d).resets + 1 → (q : Record)
      → tree_contents key step (model_of t (trunk_of e)) q ≡ None

-- The area was filled, or had records, or nothing is left.
pub record Refilled {S : Type 0} (key : Record → Record) (step : Option Record → Record → Step)
    (IsOp IsKept : Record → Type 0) (s t : RigState) (d e : Drain S) : Type 0 where
  pub is : IsDrain key step IsOp IsKept t e
  pub runs : RunsPaid (drain_blocks s d) (drain_blocks t e) (drain_unstored d) (drain_unstored e) s t
  pub told : IsTrue s.device.told → TellsRefill key step s t d e

-- the same by the result
abbrev pub RefillsTo : {S : Type 0} {T : Type 0} → (Record → Record) → (Option Record → Record → Step)
    → (Record → Type 0) → (Record → Type 0) → RigState → RigState → Drain S → Drain S → Result T EmFault → Type 0
RefillsTo key step IsOp IsKept s t d e (Ok x) = Refilled key step IsOp IsKept s t d e
RefillsTo key step IsOp IsKept s t d e (Err fault) = StopsDrain s t d e fault

-- The next record of the area was given.
pub record GaveOne {S : Type 0} (d e : Drain S) (x : Record) : Type 0 where
  pub some : d.at < d.end
  pub is : (other : Record) → get_or d.area d.at other ≡ x
  pub rest : e ≡ record d { at = d.at + 1 }

-- the same, or the area had none
abbrev pub GivesOut : {S : Type 0} → Drain S → Drain S → Option Record → Type 0
GivesOut d e None = (d.at ≡ d.end) × (e ≡ d)
GivesOut d e (Some x) = GaveOne d e x
