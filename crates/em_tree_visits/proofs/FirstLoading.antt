-- The loop over the loads of the first leaf, by the results of its step.
use Rattle.std.proofs.Common.{◌≡◌, true, false, Bool, ℕ, ◌+◌, ◌<◌, sym, subst, IsTrue}
use Rattle.std.specs.Prelude.{Option, Result, Ok, Err, IsErrAnd}
use Rattle.em_record.specs.declared.record.Record.{Record}
use Rattle.em_space.specs.Rig.{RigState}
use Rattle.em_space.specs.declared.fault.EmFault.{EmFault}
use Rattle.em_settle.specs.declared.step.Step.{Step}
use Rattle.em_tree_visits.specs.Visits.{CanLoadFirst, CanLoadNext, LoadingFirst, LoadsFirstTo, LoadsNext, OwesUpTo, StopsNextLoad, StopsVisit, before_load}
use Rattle.em_trunk.specs.declared.trunk.Trunk.{Trunk}
use Rattle.em_tree_visits.proofs.FirstLoops.{load_can, load_more, load_shrinks, loads_begin, loads_end, loads_stop, next_ready}
use Rattle.em_tree_visits.proofs.FirstSteps.{ok_of}
use Rattle.em_trunk.specs.Works.{CanWork, deepest}

module _ (key : Record → Record) (step : Option Record → Record → Step) (IsOp IsKept : Record → Type 0)
    (s : RigState) (v : Trunk) (can : CanWork key IsOp IsKept s v) (ready : CanLoadFirst s v) where
  pub loading_begins : LoadingFirst key step IsOp IsKept s s v v
  loading_begins = record {
    taken = 0;
    so_far = loads_begin key step IsOp IsKept s v can ready;
    can = can;
  }

  module _ (t : RigState) (w : Trunk) (i : LoadingFirst key step IsOp IsKept s t v w) where
    pub loading_ready : CanLoadNext t w
    loading_ready = next_ready key step IsOp IsKept s v can ready i.taken t w i.so_far i.can

    module _ (u : RigState) (x : Trunk) where
      -- It goes on after a load,
      pub loading_goes_on : (full : Bool) → full ≡ true → LoadsNext key step IsOp IsKept t u w x (Ok full)
          → LoadingFirst key step IsOp IsKept s u v x
      loading_goes_on full e h =
          let P : Bool → Type 0 = λ b. LoadsNext key step IsOp IsKept t u w x (Ok b) in
          let a = subst P e h in
          record {
            taken = i.taken + 1;
            so_far = load_more key step IsOp IsKept s v can ready i.taken t w i.so_far i.can a.0 a.1;
            can = load_can key step IsOp IsKept s v can ready i.taken t w i.so_far i.can a.0;
          }

      -- with a step less,
      pub loading_shrinks : (full : Bool) → full ≡ true → LoadsNext key step IsOp IsKept t u w x (Ok full)
          → x.steps < w.steps
      loading_shrinks full e h =
          let P : Bool → Type 0 = λ b. LoadsNext key step IsOp IsKept t u w x (Ok b) in
          let a = subst P e h in
          load_shrinks key step IsOp IsKept s v can ready i.taken t w i.so_far i.can a.0

      -- ends if none was needed,
      pub loading_ends : {T : Type 0} (y : T) (full : Bool) → full ≡ false
          → LoadsNext key step IsOp IsKept t u w x (Ok full)
          → LoadsFirstTo key step IsOp IsKept ready.at s u v x (ok_of y)
      loading_ends y full e h =
          let P : Bool → Type 0 = λ b. LoadsNext key step IsOp IsKept t u w x (Ok b) in
          let a = subst P e h in
          loads_end key step IsOp IsKept s v can ready i.taken t w i.so_far i.can a.0 a.1 a.2

      -- and gives up.
      pub loading_stops : {T : Type 0} (r : Result T EmFault) (fault : EmFault) → IsErrAnd r (λ f. f ≡ fault)
          → StopsNextLoad t u w x fault
          → LoadsFirstTo key step IsOp IsKept ready.at s u v x r
      loading_stops (Ok y) fault e h = absurd e
      loading_stops (Err f) fault e h =
          let P : EmFault → Type 0 = λ z. (owed r : ℕ) → (IsTrue s.device.told
          → OwesUpTo (before_load ready.at s v) 0 (13 + deepest s v) owed r s v)
          → StopsVisit owed r s u v x z in
          subst P (sym e) (loads_stop key step IsOp IsKept s v can ready i.taken t w i.so_far i.can h)
