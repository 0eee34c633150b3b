-- A tree whose root's buffer was emptied, and then all others: each level's emptying is one step more.
use Rattle.std.proofs.Common.{◌≡◌, ℕ, ◌+◌, ◌*◌, ◌<◌, ◌≤◌, List, length, sym, ap, ◌∙◌, subst, arith, IsTrue}
use Rattle.std.specs.Prelude.{IsErrAnd, Option, None, Result, Ok, Err}
use Rattle.std.proofs.Math.Nat.{mul-add, mul-le-mul_left}
use Rattle.em_record.specs.Shape.{ShapeNumbers, fan_of}
use Rattle.em_record.specs.declared.record.Record.{Record}
use Rattle.em_settle.specs.declared.step.Step.{Step}
use Rattle.em_space.specs.Rig.{RigState}
use Rattle.em_space.specs.declared.fault.EmFault.{EmFault}
use Rattle.em_chain.specs.Writer.{writer_items}
use Rattle.em_tree_cost.specs.Paid.{settle_rest}
use Rattle.em_tree_cost.specs.Shares.{levels_of}
use Rattle.em_tree_model.specs.Pouring.{pour}
use Rattle.em_tree_model.specs.Ranges.{least_record}
use Rattle.em_tree_model.specs.Tree.{Tree}
use Rattle.em_trunk.specs.Debts.{KeepsOwing, leaf_owing, owing_all, owing_to}
use Rattle.em_tree_buffers.specs.Draining.{DrainedRoot, StopsDraining, drain_debt}
use Rattle.em_tree_buffers.specs.Emptying.{CanSettleLevel}
use Rattle.em_tree_buffers.specs.Loops.{KeepsQuiet}
use Rattle.em_trunk.specs.Entries.{EachEntry}
use Rattle.em_tree.specs.Settling.{CanSettleDown, CanSettleTree, SettledAll, SettlesAllTo, StopsSettling}
use Rattle.em_trunk.specs.Trunk.{full_limit, root_of, sums_in}
use Rattle.em_trunk.specs.Works.{StopsWorking, Works, CanWork, unstored_most}
use Rattle.em_trunk.specs.declared.trunk.Trunk.{Trunk}
use Rattle.em_trunk.proofs.Debts.{may_then, may_toll}
use Rattle.em_tree_buffers.proofs.DrainDebts.{drain_few, drained_owes}
use Rattle.em_tree_buffers.proofs.DrainedTrees.{drained_above, drained_below}
use Rattle.em_trunk.proofs.Works.{stops_after, works_then}
use Rattle.em_tree.proofs.Quiets.{quiet_after, quiet_drained}

-- debts of two steps
pub both_owed : (B d e : ℕ) → B * d + B * e ≡ B * (d + e)
both_owed B d e = sym (mul-add B d e)

-- what a leaf that comes may owe, by numbers
abbrev leaf_owing_by : ShapeNumbers → ℕ → ℕ
leaf_owing_by h k = h.block * (35 + 3 * levels_of h k)

-- what such a call pays for by itself, by numbers
pub toll_same : (g h : ShapeNumbers) (k n : ℕ) → h ≡ g → n ≡ k → settle_rest h n ≡ settle_rest g k
toll_same g h k n e f = ap (λ (z : ShapeNumbers). settle_rest z n) e ∙ ap (λ (z : ℕ). settle_rest g z) f

owing_sum : (B m a b c d e x y z : ℕ) → B * d + b + m * x ≤ a + m * y → B * e + c + m * y ≤ b + m * z
    → B * (d + e) + c + m * x ≤ a + m * z
owing_sum B m a b c d e x y z g h =
    let k = both_owed B d e in
    omega (arith, g, h, k)

module _ {key : Record → Record} {step : Option Record → Record → Step}
    {IsOp IsKept : Record → Type 0} {p q r n : ℕ} {s t u : RigState} {v w x : Trunk}
    (works : Works key step IsOp IsKept p q r n s t v w) (a b c d e : ℕ) where
  -- What may be owed over two steps.
  pub owing_then : KeepsOwing a b d s t v w → KeepsOwing b c e t u w x → KeepsOwing a c (d + e) s u v x
  owing_then g h =
      let shape = works.session.touches.shape in
      let longest = works.numbers.longest in
      let i = (sums_in t w).leaves in
      let j = (sums_in u x).leaves in
      let P : ShapeNumbers → ℕ → Type 0 = λ z k.
      z.block * e + c + leaf_owing_by z k * i ≤ b + leaf_owing_by z k * j in
      let own : P s.pool.shape v.longest =
      subst (λ (k : ℕ). P s.pool.shape k) longest (subst (λ (z : ShapeNumbers). P z w.longest) shape h.owes) in
      record {
        leaves = omega (arith, g.leaves, h.leaves);
        owes = owing_sum s.pool.shape.block (leaf_owing s v) a b c d e (sums_in s v).leaves i j g.owes own;
      }

module _ (key : Record → Record) (step : Option Record → Record → Step) (IsOp IsKept : Record → Type 0)
  where
    module _ (before next taken debt : ℕ) (s t u : RigState) (v w x : Trunk)
        (a : Works key step IsOp IsKept 0 0 (s.pool.shape.block * debt) taken s t v w)
        (owes : IsTrue s.device.told → KeepsOwing before next debt s t v w) where
      over : IsTrue s.device.told → IsTrue t.device.told
      over z = a.session.touches.told ∙ z

      -- A step of a settling, and all that was left after it,
      pub settled_then : KeepsQuiet s t v w → SettledAll key step IsOp IsKept next t u w x
          → SettledAll key step IsOp IsKept before s u v x
      settled_then quiet b =
          let shape = a.session.touches.shape in
          let B = s.pool.shape.block in
          let D : ShapeNumbers → Type 0 = λ h. Works key step IsOp IsKept 0 0 (h.block * b.debt) b.taken t u w x in
          let W : ℕ → Type 0 = λ d. Works key step IsOp IsKept 0 0 d (taken + b.taken) s u v x in
          record {
            taken = taken + b.taken;
            debt = debt + b.debt;
            works = subst W (both_owed B debt b.debt) (works_then a (subst D shape b.works));
            owes = λ z. owing_then a before next 0 debt b.debt (owes z) (b.owes (over z));
            none_waits = λ z. b.none_waits (over z);
            drained = b.drained;
            quiet = quiet_after a quiet b.quiet;
          }

      -- or that gave up.
      pub stopped_then : (fault : EmFault) → StopsSettling next t u w x fault
          → StopsSettling before s u v x fault
      stopped_then fault b =
          let shape = a.session.touches.shape in
          let longest = a.numbers.longest in
          let B = s.pool.shape.block in
          let D : ShapeNumbers → Type 0 = λ h.
          StopsWorking 0 (h.block * b.debt) (2 * fan_of h + 3) t u w x fault in
          let W : ℕ → Type 0 = λ d. StopsWorking 0 d (unstored_most s) s u v x fault in
          record {
            debt = debt + b.debt;
            stops = subst W (both_owed B debt b.debt) (stops_after a (subst D shape b.stops));
            owes = λ z m.
                let on = may_then 0 0 debt taken before next z m a (owes z) in
                let few = b.owes (over z) on.0 in
                let same = toll_same s.pool.shape t.pool.shape v.longest w.longest shape longest in
                let all = on.1 in
                omega (arith, few, same, all);
          }

    module _ (s t : RigState) (v w : Trunk) (can : CanWork key IsOp IsKept s v) (settle : CanSettleTree s v)
      where
        -- The root's buffer was emptied: the levels can be, from the root's down,
        pub root_settles : DrainedRoot key step IsOp IsKept s t v w → CanSettleDown w.level t w
        root_settles h =
            let works = h.owes 0 in
            let shape = works.session.touches.shape in
            record {
              down = omega arith;
              drained = h.drained;
              settles = λ y.
                  let told : IsTrue s.device.told = sym works.session.touches.told ∙ y in
                  let limit = full_limit s.pool.shape in
                  let P : ℕ → ℕ → Record → Option Record → List Record → Type 0 =
                  λ at l k top b. l < at → length b < limit in
                  let below = drained_below key limit (root_of s v) (writer_items s v.buffer) v.level least_record
                  None (settle.drain.thin told) in
                  let L : ℕ → Type 0 = λ n. EachEntry (P n) n least_record None
                  (pour key (root_of s v) (writer_items s v.buffer)) in
                  let R : Tree → Type 0 = λ x. EachEntry (P w.level) w.level least_record None x in
                  let F : ShapeNumbers → Type 0 = λ g. CanSettleLevel (full_limit g) w.level t w in
                  subst F (sym shape) (record {
                    above = drained_above w.level least_record None (root_of t w);
                    below = subst R (sym (h.pours told)) (subst L (sym h.level) below);
                  });
              may = λ y.
                  let told : IsTrue s.device.told = sym works.session.touches.told ∙ y in
                  (may_then 0 0 (drain_debt s v) 0 (owing_all s v) (owing_to w.level t w) told (settle.may told)
                  works (drained_owes key step IsOp IsKept s t v w can h told)).0;
            }

        -- and all of them were, or not;
        pub root_all : {T : Type 0} (u : RigState) (x : Trunk) (r : Result T EmFault)
            → DrainedRoot key step IsOp IsKept s t v w
            → SettlesAllTo key step IsOp IsKept (owing_to w.level t w) t u w x r
            → SettlesAllTo key step IsOp IsKept (owing_all s v) s u v x r
        root_all u x (Ok y) h b = settled_then (owing_all s v) (owing_to w.level t w) 0 (drain_debt s v) s t u
            v w x (h.owes 0) (λ told. drained_owes key step IsOp IsKept s t v w can h told)
            (quiet_drained key s t v w h.pours h.level) b
        root_all u x (Err fault) h b = stopped_then (owing_all s v) (owing_to w.level t w) 0 (drain_debt s v) s
            t u v w x (h.owes 0) (λ told. drained_owes key step IsOp IsKept s t v w can h told) fault b

        -- or it gave up.
        pub root_stops : {T : Type 0} (r : Result T EmFault) (fault : EmFault) → IsErrAnd r (λ f. f ≡ fault)
            → StopsDraining s t v w fault → SettlesAllTo key step IsOp IsKept (owing_all s v) s t v w r
        root_stops (Ok y) fault e h = absurd e
        root_stops (Err f) fault e h =
            let P : EmFault → Type 0 = λ g. StopsSettling (owing_all s v) s t v w g in
            subst P (sym e) (record {
              debt = drain_debt s v;
              stops = h.owes 0;
              owes = λ told m. may_toll 0 (owing_all s v) (drain_debt s v) can.sound m
                  (let few = drain_few key IsOp IsKept s v can told in
                  let all = mul-le-mul_left s.pool.shape.block few in omega (arith, all));
            })
