-- A step of the loop over full buffers: what its calls ask, after the call's step was taken.
use Rattle.std.proofs.Common.{◌≡◌, ℕ, ◌+◌, ◌-◌, ◌*◌, ◌≤◌, sym, ap, ◌∙◌, subst}
use Rattle.std.specs.Prelude.{IsErrAnd, Option, Result}
use Rattle.em_record.specs.Shape.{ShapeNumbers, fan_of}
use Rattle.em_record.specs.declared.record.Record.{Record}
use Rattle.em_space.specs.Rig.{RigState}
use Rattle.em_space.specs.declared.fault.EmFault.{EmFault}
use Rattle.em_settle.specs.declared.step.Step.{Step}
use Rattle.em_tree_walk.specs.Reads.{StopsReading}
use Rattle.em_tree_walk.specs.Stands.{LeadsToTree}
use Rattle.em_tree_walk.specs.declared.searching.Range.{Range}
use Rattle.em_trunk.specs.Works.{CanWork}
use Rattle.em_tree_buffers.specs.Loops.{CanClearFull, ClearsNext, due_of}
use Rattle.em_trunk.specs.Trunk.{full_limit}
use Rattle.em_trunk.specs.declared.trunk.Trunk.{Trunk}
use Rattle.em_tree_buffers.proofs.ClearByLevel.{clears_next_of, err_of}
use Rattle.em_trunk.proofs.RootLeads.{root_leads}
use Rattle.em_tree_buffers.proofs.StepByLevel.{step_refused, step_unread}
use Rattle.em_trunk.specs.Steps.{StepsTo, TakesStep}

-- the records of a full buffer, as they are computed
pub limit_of : (shape told : ShapeNumbers) (fan block : ℕ) → told ≡ shape → fan ≡ fan_of told
    → block ≡ told.block → fan * block ≡ full_limit shape
limit_of shape told fan block same x y =
    ap (λ (n : ℕ). n * block) x
    ∙ (ap (λ (n : ℕ). fan_of told * n) y ∙ ap (λ (z : ShapeNumbers). full_limit z) same)

module _ (key : Record → Record) (step : Option Record → Record → Step)
    (IsOp IsKept : Record → Type 0) (left : Range) (s : RigState) (v w : Trunk)
    (can : CanWork key IsOp IsKept s v) (level : ℕ) (ready : CanClearFull (due_of level left) s v) where
  -- No step was left.
  pub step_none_left : (T : Type 0) (r : Result (Option Record) EmFault) (fault : EmFault)
      → IsErrAnd r (λ f. f ≡ fault) → StepsTo v w (err_of T fault)
      → ClearsNext key step IsOp IsKept (due_of level left) s s v w r
  step_none_left T r fault e h =
      let N : Trunk → Type 0 = λ x. ClearsNext key step IsOp IsKept (due_of level left) s s v x
      (err_of (Option Record) fault) in
      let F : EmFault → Type 0 = λ f. ClearsNext key step IsOp IsKept (due_of level left) s s v v
      (err_of (Option Record) f) in
      clears_next_of key step IsOp IsKept (due_of level left) s s v w r fault e
      (subst N (sym h.0) (subst F (sym h.2) (step_refused key step IsOp IsKept left s v can level ready h.1)))

  module _ (take : TakesStep v w) where
    -- The search can begin.
    pub taken_leads : LeadsToTree s w.level w.root
    taken_leads =
        let P : Trunk → Type 0 = λ x. LeadsToTree s x.level x.root in
        subst P (sym take.is) (root_leads key IsOp IsKept s v can.running)

    pub taken_down : level ≤ w.level
    taken_down =
        let P : Trunk → Type 0 = λ x. level ≤ x.level in
        subst P (sym take.is) ready.down

    -- It gave up.
    pub step_not_read : (t : RigState) (r : Result (Option Record) EmFault) (fault : EmFault)
        → IsErrAnd r (λ f. f ≡ fault) → StopsReading (w.level - level + 1) s t fault
        → ClearsNext key step IsOp IsKept (due_of level left) s t v w r
    step_not_read t r fault e h =
        let P : Trunk → Type 0 = λ x. StopsReading (x.level - level + 1) s t fault in
        clears_next_of key step IsOp IsKept (due_of level left) s t v w r fault e
        (step_unread key step IsOp IsKept left s v can t w take level fault ready (subst P take.is h))
