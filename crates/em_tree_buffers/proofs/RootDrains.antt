-- The root's buffer, emptied by the calls that did it.
use Rattle.std.proofs.Common.{◌≡◌, ℕ, suc, ◌-◌, sym, ap, subst, arith, ◌*◌, ◌<◌, ◌≤◌, refl, ⊎_elim}
use Rattle.std.specs.Prelude.{IsErrAnd, Option, Result, Ok, Err}
use Rattle.em_record.specs.declared.record.Record.{Record}
use Rattle.em_settle.specs.Laws.{IsSettle}
use Rattle.em_settle.specs.declared.step.Step.{Step}
use Rattle.em_space.specs.Rig.{Cause, Goes, RigState}
use Rattle.em_space.specs.declared.fault.EmFault.{EmFault}
use Rattle.em_chain.specs.declared.chain.Chain.{Chain}
use Rattle.em_empty.specs.Effects.{EmptiedAt, EmptyingCosts}
use Rattle.em_empty.specs.Node.{CanEmpty, given_blocks}
use Rattle.em_tree_buffers.specs.Draining.{CanDrain, DrainedRoot, DrainsTo, StopsDraining, drain_debt}
use Rattle.em_trunk.specs.Works.{CanWork}
use Rattle.em_trunk.specs.declared.trunk.Trunk.{Trunk}
use Rattle.em_tree_buffers.proofs.RootSteps.{root_works}
use Rattle.em_tree_buffers.proofs.RootStops.{can_drain, root_not_poured, root_not_taken}
use Rattle.std.proofs.lemmas.Bool.{cases_lt}
use Rattle.em_tree_model.specs.Pouring.{pour}
use Rattle.em_trunk.specs.Trunk.{root_of}
use Rattle.em_trunk.proofs.Bounded.{limit_some}
use Rattle.em_trunk.proofs.Works.{works_owe, works_none}
use Rattle.em_trunk.proofs.TrunkLists.{no_items}
use Rattle.em_trunk.specs.Lists.{StopsTakingAll, TookAll}
use Rattle.em_trunk.proofs.RootTaken.{with_fresh}

-- the result that a fault is handed on as
pub drains_of : {T : Type 0} (key : Record → Record) (step : Option Record → Record → Step)
    (IsOp IsKept : Record → Type 0) (s t : RigState) (v w : Trunk) (r : Result T EmFault)
    (fault : EmFault) → IsErrAnd r (λ f. f ≡ fault) → StopsDraining s t v w fault
    → DrainsTo key step IsOp IsKept s t v w r
drains_of key step IsOp IsKept s t v w (Ok x) fault e h = absurd e
drains_of key step IsOp IsKept s t v w (Err f) fault e h =
    let P : EmFault → Type 0 = λ g. StopsDraining s t v w g in
    subst P (sym e) h

-- a count that isn't zero
count_some : (v : Trunk) → (v.buffer.count ≡ 0 → ⊥) → 0 < v.buffer.count
count_some v any = ⊎_elim (λ (some : 0 < v.buffer.count). some)
    (λ (none : v.buffer.count ≤ 0). (let e : 0 < v.buffer.count = absurd (any (omega (arith, none))) in e))
    (cases_lt 0 v.buffer.count)

-- An empty buffer is emptied already.
pub drains_none : (key : Record → Record) (step : Option Record → Record → Step) (IsOp IsKept : Record → Type 0)
    {s : RigState} {v : Trunk} → CanWork key IsOp IsKept s v → CanDrain s v → v.buffer.count ≡ 0
    → DrainedRoot key step IsOp IsKept s s v v
drains_none key step IsOp IsKept {s} {v} can drain none =
    let limit = limit_some can.sound.shape in
    let blocks = drain.blocks in
    let unwritten : v.buffer.blocks ≡ 0 = omega (arith, none, blocks) in
    let items = no_items s v.buffer can.running.buffer unwritten in
    record {
      works = λ p big. absurd (omega (arith, big, none, limit));
      owes = λ p. works_owe p p 0 (s.pool.shape.block * drain_debt s v) can.sound.shape (λ told low. omega arith)
          (works_none key step IsOp IsKept p s v can.sound can.running);
      pours = λ told. sym (ap (pour key (root_of s v)) items);
      level = refl;
      drained = record { empty = none; unwritten = unwritten };
    }

module _ (key : Record → Record) (step : Option Record → Record → Step) (IsOp IsKept : Record → Type 0)
    (s a : RigState) (v w : Trunk) (can : CanWork key IsOp IsKept s v) where
  level_up : v.level ≡ suc (v.level - 1)
  level_up = let some = can.running.numbers.level_some in omega (arith, some)

  -- the trunk with a fresh list is what came out
  as_fresh : (c : Chain) → TookAll s a v w c → TookAll s a v (with_fresh v w.buffer) c
  as_fresh c took =
      let P : Trunk → Type 0 = λ z. TookAll s a v z c in
      subst P took.is took

  pub drain_can : (c : Chain) → TookAll s a v w c → CanEmpty a w.root c
  drain_can c took =
      let P : ℕ → Type 0 = λ n. CanEmpty a n c in
      subst P (sym (ap (λ (z : Trunk). z.root) took.is))
      (can_drain key IsOp IsKept (v.level - 1) s a v w.buffer c level_up can (as_fresh c took))

  pub drains_ok : IsSettle key step IsOp IsKept → CanDrain s v → (t : RigState) (c : Chain)
      (least : Option ℕ) → TookAll s a v w c → EmptiedAt key a t w.root c least
      → DrainedRoot key step IsOp IsKept s t v w
  drains_ok laws drain t c least took done =
      let P : ℕ → Type 0 = λ n. EmptiedAt key a t n c least in
      let Q : Trunk → Type 0 = λ z. DrainedRoot key step IsOp IsKept s t v z in
      subst Q (sym took.is) (root_works key step IsOp IsKept laws (v.level - 1) s a t v w.buffer c least
      level_up can drain (as_fresh c took) (subst P (ap (λ (z : Trunk). z.root) took.is) done))

  pub drains_err : (v.buffer.count ≡ 0 → ⊥) → (fault : EmFault) → StopsTakingAll s a v w fault
      → StopsDraining s a v w fault
  drains_err any fault h =
      let P : Trunk → Type 0 = λ z. StopsTakingAll s a v z fault in
      let Q : Trunk → Type 0 = λ z. StopsDraining s a v z fault in
      subst Q (sym h.is) (root_not_taken key IsOp IsKept (v.level - 1) s a v w.buffer fault level_up can
      (count_some v any) (subst P h.is h))

  pub drains_back : (v.buffer.count ≡ 0 → ⊥) → (t : RigState) (c : Chain) (fault : EmFault) → TookAll s a v w c
      → Goes (given_blocks a w.root c) a t → EmptyingCosts a t w.root c → Cause a t fault
      → StopsDraining s t v w fault
  drains_back any t c fault took g costs cause =
      let same = ap (λ (z : Trunk). z.root) took.is in
      let G : ℕ → Type 0 = λ n. Goes (given_blocks a n c) a t in
      let C : ℕ → Type 0 = λ n. EmptyingCosts a t n c in
      let Q : Trunk → Type 0 = λ z. StopsDraining s t v z fault in
      subst Q (sym took.is) (root_not_poured key IsOp IsKept (v.level - 1) s a v w.buffer c level_up can
      (as_fresh c took) (count_some v any) t fault (subst G same g) (subst C same costs) cause)
