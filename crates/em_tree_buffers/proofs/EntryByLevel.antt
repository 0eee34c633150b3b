-- The buffer of an entry emptied, into its child or its leaf: by the level of its node.
use Rattle.std.proofs.Common.{◌≡◌, ℕ, zero, suc, ◌-◌, ◌≤◌, subst, sym, arith}
use Rattle.std.specs.Prelude.{Option, Result}
use Rattle.em_record.specs.declared.record.Record.{Record}
use Rattle.em_space.specs.Rig.{RigState}
use Rattle.em_space.specs.declared.fault.EmFault.{EmFault}
use Rattle.em_settle.specs.declared.step.Step.{Step}
use Rattle.em_tree_buffers.specs.Emptying.{CanEmptyEntry, EmptiesEntry, LoadsTo, LowersTo}
use Rattle.em_trunk.specs.declared.trunk.Trunk.{Trunk}

down_one : (l : ℕ) → suc l - 1 ≡ l
down_one l = omega arith

-- an entry of a node of level 1 is one over a leaf
pub leaf_spot : (level node at : ℕ) (s : RigState) (v : Trunk) → level ≡ 1
    → CanEmptyEntry (level - 1) node at s v → CanEmptyEntry 0 node at s v
leaf_spot level node at s v one spot =
    let P : ℕ → Type 0 = λ n. CanEmptyEntry n node at s v in
    let none : level - 1 ≡ 0 = omega (arith, one) in
    subst P none spot

module _ (key : Record → Record) (step : Option Record → Record → Step)
    (IsOp IsKept : Record → Type 0) (node at : ℕ) (s t : RigState) (v w : Trunk) where
  -- A load of it,
  pub empties_leaf : {T : Type 0} (r : Result T EmFault) (level : ℕ) → level ≡ 1
      → ((spot : CanEmptyEntry 0 node at s v)
      → LoadsTo key step IsOp IsKept at s t v w spot.spot.path r)
      → (spot : CanEmptyEntry (level - 1) node at s v)
      → EmptiesEntry key step IsOp IsKept (level - 1) at s t v w spot.spot.path r
  empties_leaf r level one h =
      let P : ℕ → Type 0 = λ n. (spot : CanEmptyEntry n node at s v)
      → EmptiesEntry key step IsOp IsKept n at s t v w spot.spot.path r in
      let none : 0 ≡ level - 1 = omega (arith, one) in
      subst P none h

  -- or what was put into its child.
  pub empties_node : {T : Type 0} (r : Result T EmFault) (level : ℕ) → 2 ≤ level
      → ((spot : CanEmptyEntry (level - 1) node at s v)
      → LowersTo key step IsOp IsKept (level - 1) at s t v w spot.spot.path r)
      → (spot : CanEmptyEntry (level - 1) node at s v)
      → EmptiesEntry key step IsOp IsKept (level - 1) at s t v w spot.spot.path r
  empties_node r zero two = absurd (omega (arith, two))
  empties_node r (suc zero) two = absurd (omega (arith, two))
  empties_node r (suc (suc l)) two =
      let P : ℕ → Type 0 = λ n. ((spot : CanEmptyEntry n node at s v)
      → LowersTo key step IsOp IsKept n at s t v w spot.spot.path r)
      → (spot : CanEmptyEntry n node at s v)
      → EmptiesEntry key step IsOp IsKept n at s t v w spot.spot.path r in
      subst P (sym (down_one (suc l))) (λ h. h)
