-- The levels from one down are settled, one after another.
use Rattle.std.proofs.Common.{◌≡◌, ℕ, zero, suc, ◌+◌, ◌-◌, ◌*◌, ◌<◌, length, refl, sym, ◌∙◌, subst, arith, IsTrue}
use Rattle.std.specs.Prelude.{IsErrAnd, None, Option, Result, Ok, Err}
use Rattle.em_record.specs.Shape.{ShapeNumbers}
use Rattle.em_record.specs.declared.record.Record.{Record}
use Rattle.em_settle.specs.declared.step.Step.{Step}
use Rattle.em_space.specs.Rig.{RigState}
use Rattle.em_space.specs.declared.fault.EmFault.{EmFault}
use Rattle.em_tree_model.specs.Ranges.{least_record}
use Rattle.em_tree_blocks.proofs.Entries.{tree_level}
use Rattle.em_trunk.specs.Debts.{KeepsOwing, owing_to}
use Rattle.em_tree_buffers.specs.Emptying.{CanSettleLevel}
use Rattle.em_tree_buffers.specs.Loops.{CanSettle, SettledLevel, StopsLevel}
use Rattle.em_tree.specs.Settling.{CanSettleDown, SettledAll, SettlesAllTo, StopsSettling}
use Rattle.em_trunk.specs.Trunk.{full_limit, root_of}
use Rattle.em_trunk.specs.Works.{Works, CanWork}
use Rattle.em_trunk.specs.declared.trunk.Trunk.{Trunk}
use Rattle.em_trunk.proofs.Debts.{may_then}
use Rattle.em_tree_buffers.proofs.DrainedTrees.{none_anywhere, settled_above, settled_below}
use Rattle.em_tree.proofs.SettledTrees.{settled_then, stopped_then}
use Rattle.em_trunk.specs.Spots.{EachRead}
use Rattle.em_trunk.proofs.Works.{works_none}

-- Nothing more is owed.
pub owing_none : (before : ℕ) (s : RigState) (v : Trunk) → KeepsOwing before 0 0 s s v v
owing_none before s v = record { leaves = omega arith; owes = omega arith }

module _ (key : Record → Record) (step : Option Record → Record → Step) (IsOp IsKept : Record → Type 0)
  where
    -- Below the lowest level there is none.
    pub down_none : (at : ℕ) (s : RigState) (v : Trunk) → at ≡ 0 → CanWork key IsOp IsKept s v
        → CanSettleDown at s v → SettledAll key step IsOp IsKept (owing_to at s v) s s v v
    down_none at s v lowest can h =
        let W : ℕ → Type 0 = λ d. Works key step IsOp IsKept 0 0 d 0 s s v v in
        let none : 0 ≡ s.pool.shape.block * 0 = omega arith in
        let P : ℕ → Type 0 = λ n. CanSettleLevel (full_limit s.pool.shape) n s v in
        record {
          taken = 0;
          debt = 0;
          works = subst W none (works_none key step IsOp IsKept 0 s v can.sound can.running);
          owes = λ told. owing_none (owing_to at s v) s v;
          none_waits = λ told.
              none_anywhere v.level least_record None (root_of s v) (tree_level v.level s v.root)
              (subst P lowest (h.settles told)).above;
          drained = h.drained;
          quiet = λ told none. record { root = refl; level = refl };
        }

    -- A level can be settled, if it is one.
    pub down_can : (at : ℕ) (s : RigState) (v : Trunk) → 0 < at → CanSettleDown at s v → CanSettle at s v
    down_can at s v some h = record {
      above = some;
      down = h.down;
      drained = h.drained;
      settles = h.settles;
      may = h.may;
    }

    -- It was: the next one can be,
    pub down_next : (at : ℕ) (s t : RigState) (v w : Trunk) → 0 < at → CanSettleDown at s v
        → SettledLevel key step IsOp IsKept at s t v w → CanSettleDown (at - 1) t w
    down_next zero s t v w some can b = absurd (omega (arith, some))
    down_next (suc at) s t v w some can b =
        let same : at ≡ suc at - 1 = omega arith in
        let up = b.level in
        let high = can.down in
        let shape = b.works.session.touches.shape in
        let P : ℕ → Type 0 = λ n. CanSettleLevel (full_limit t.pool.shape) n t w in
        let back = λ (y : IsTrue t.device.told).
        (let z : IsTrue s.device.told = sym b.works.session.touches.told ∙ y in z) in
        record {
          down = omega (arith, high, up);
          drained = b.drained;
          settles = λ y.
              let h = b.settles (back y) in
              let F : ShapeNumbers → Type 0 = λ g. EachRead (λ l k top c. l + 1 < suc at
              → length c < full_limit g) t w in
              subst P same (record {
                above = settled_above at w.level least_record None (root_of t w) h.above;
                below = settled_below (full_limit t.pool.shape) at w.level least_record None (root_of t w)
                    (subst F (sym shape) h.below);
              });
          may = λ y. (may_then 0 0 b.debt b.taken (owing_to (suc at) s v) (owing_to (suc at - 1) t w) (back y)
              (can.may (back y)) b.works (b.owes (back y))).0;
        }

    -- and all of them were, or one of them gave up.
    pub down_to : {T : Type 0} (at : ℕ) (s t u : RigState) (v w x : Trunk) (r : Result T EmFault)
        → SettledLevel key step IsOp IsKept at s t v w
        → SettlesAllTo key step IsOp IsKept (owing_to (at - 1) t w) t u w x r
        → SettlesAllTo key step IsOp IsKept (owing_to at s v) s u v x r
    down_to at s t u v w x (Ok y) a b = settled_then key step IsOp IsKept (owing_to at s v)
        (owing_to (at - 1) t w) a.taken a.debt s t u v w x a.works a.owes a.quiet b
    down_to at s t u v w x (Err fault) a b = stopped_then key step IsOp IsKept (owing_to at s v)
        (owing_to (at - 1) t w) a.taken a.debt s t u v w x a.works a.owes fault b

    -- A level that gave up.
    pub down_level : {T : Type 0} (at : ℕ) (s t : RigState) (v w : Trunk) (fault : EmFault) (r : Result T EmFault)
        → IsErrAnd r (λ f. f ≡ fault) → StopsLevel at s t v w fault
        → SettlesAllTo key step IsOp IsKept (owing_to at s v) s t v w r
    down_level at s t v w fault (Ok y) e h = absurd e
    down_level at s t v w fault (Err f) e h =
        let P : EmFault → Type 0 = λ g. StopsSettling (owing_to at s v) s t v w g in
        subst P (sym e) (record { debt = h.debt; stops = h.stops; owes = h.owes })
