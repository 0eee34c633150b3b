-- The same by the level of the entry's node.
use Rattle.std.proofs.Common.{◌≡◌, Bool, ℕ, zero, suc, ◌-◌, ◌<◌, ◌≤◌, subst, sym, arith, IsTrue}
use Rattle.std.specs.Option.{is_some}
use Rattle.std.specs.Prelude.{IsErrAnd, List, Option, Result, Ok, Err, length}
use Rattle.em_record.specs.declared.record.Record.{Record}
use Rattle.em_settle.specs.Laws.{IsSettle}
use Rattle.em_settle.specs.declared.step.Step.{Step}
use Rattle.em_space.specs.Rig.{Cause, Goes, RigState}
use Rattle.em_space.specs.declared.fault.EmFault.{EmFault}
use Rattle.em_space.specs.declared.fault.EmFault.TheVariants.{DeviceFault}
use Rattle.em_chain.specs.declared.chain.Chain.{Chain}
use Rattle.em_empty.specs.Effects.{EmptiedAt, EmptyingCosts}
use Rattle.em_empty.specs.Node.{CanEmpty, given_blocks}
use Rattle.em_tree_blocks.specs.Reading.{entries_at}
use Rattle.em_tree_walk.specs.Stands.{LeadsToTree}
use Rattle.em_tree_walk.specs.Taken.{HasPlace, StopsTaking, TookBuffer}
use Rattle.em_tree_buffers.specs.Emptying.{CanEmptyEntry, LowersTo, TellsFull}
use Rattle.em_trunk.specs.declared.trunk.Trunk.{Trunk}
use Rattle.em_tree_buffers.proofs.EntryStops.{entry_can, entry_not_poured, entry_not_taken}
use Rattle.em_tree_buffers.proofs.EntryWorks.{entry_tells, entry_works}
use Rattle.em_trunk.specs.Works.{CanWork}

abbrev pub ok_of : {T : Type 0} → T → Result T EmFault
ok_of x = Ok x

abbrev pub err_of : (T : Type 0) → EmFault → Result T EmFault
err_of T fault = Err fault

-- the result that a fault is handed on as
pub lowers_of : {T : Type 0} (key : Record → Record) (step : Option Record → Record → Step)
    (IsOp IsKept : Record → Type 0) (l at : ℕ) (s t : RigState) (v w : Trunk) (path : List ℕ)
    (r : Result T EmFault) (fault : EmFault) → IsErrAnd r (λ f. f ≡ fault)
    → LowersTo key step IsOp IsKept l at s t v w path (err_of T fault)
    → LowersTo key step IsOp IsKept l at s t v w path r
lowers_of key step IsOp IsKept l at s t v w path (Ok x) fault e h = absurd e
lowers_of {T = T} key step IsOp IsKept l at s t v w path (Err f) fault e h =
    let P : EmFault → Type 0 = λ g. LowersTo key step IsOp IsKept l at s t v w path (err_of T g) in
    subst P (sym e) h

-- the place of an entry, in its node
pub place_of_spot : (level node at : ℕ) (s : RigState) (v : Trunk) → 2 ≤ level
    → CanEmptyEntry (level - 1) node at s v → HasPlace s level node at
place_of_spot zero node at s v two c = absurd (omega (arith, two))
place_of_spot (suc l) node at s v two c =
    let P : ℕ → Type 0 = λ n. LeadsToTree s n node in
    let same : suc (suc l - 1) ≡ suc l = omega arith in
    record {
      leads = subst P same c.spot.leads;
      one = λ told.
          let h = c.spot.told told in
          let N : ℕ → Type 0 = λ k. at < length (entries_at s k) in
          subst N h.node_is h.on.one;
    }

down_one : (l : ℕ) → suc (suc l) - 1 ≡ suc l
down_one l = omega arith

module _ (key : Record → Record) (step : Option Record → Record → Step) (IsOp IsKept : Record → Type 0)
    (node at : ℕ) (s : RigState) (v : Trunk) (can : CanWork key IsOp IsKept s v) where
  -- the buffer that was taken out can be put into the child's
  pub can_pour : (level : ℕ) → 2 ≤ level → CanEmptyEntry (level - 1) node at s v → (a : RigState)
      (child : ℕ) (buffer : Chain) → TookBuffer s a level node at child buffer → CanEmpty a child buffer
  can_pour zero two spot a child buffer took = absurd (omega (arith, two))
  can_pour (suc zero) two spot a child buffer took = absurd (omega (arith, two))
  can_pour (suc (suc l)) two spot a child buffer took =
      let P : ℕ → Type 0 = λ n. CanEmptyEntry n node at s v in
      entry_can key IsOp IsKept l node at s a v DeviceFault can (subst P (down_one l) spot) a child buffer
      took

  -- it was put there,
  pub lowers_ok : {T : Type 0} (x : T) (level : ℕ) → IsSettle key step IsOp IsKept → 2 ≤ level
      → (spot : CanEmptyEntry (level - 1) node at s v) (a t : RigState) (child : ℕ) (buffer : Chain)
      (least : Option ℕ) → TookBuffer s a level node at child buffer
      → EmptiedAt key a t child buffer least
      → LowersTo key step IsOp IsKept (level - 1) at s t v v spot.spot.path (ok_of x)
  lowers_ok x zero laws two spot a t child buffer least took done = absurd (omega (arith, two))
  lowers_ok x (suc zero) laws two spot a t child buffer least took done = absurd (omega (arith, two))
  lowers_ok {T = T} x (suc (suc l)) laws two spot a t child buffer least took done =
      let P : ℕ → Type 0 = λ n. (h : CanEmptyEntry n node at s v)
      → LowersTo key step IsOp IsKept n at s t v v h.spot.path (ok_of x) in
      subst P (sym (down_one l))
      (λ h. entry_works key step IsOp IsKept laws l node at child s a t v buffer least can h took done) spot

  -- whether a buffer of the child is full then,
  pub lowers_tells : (level : ℕ) → IsSettle key step IsOp IsKept → 2 ≤ level
      → (spot : CanEmptyEntry (level - 1) node at s v) (a t : RigState) (child : ℕ) (buffer : Chain)
      (least : Option ℕ) (full : Bool) → full ≡ is_some least → TookBuffer s a level node at child buffer
      → EmptiedAt key a t child buffer least → IsTrue s.device.told
      → TellsFull key (level - 1) at s v spot.spot.path full
  lowers_tells zero laws two spot a t child buffer least full e took done told = absurd (omega (arith, two))
  lowers_tells (suc zero) laws two spot a t child buffer least full e took done told =
      absurd (omega (arith, two))
  lowers_tells (suc (suc l)) laws two spot a t child buffer least full e took done told =
      let P : ℕ → Type 0 = λ n. (h : CanEmptyEntry n node at s v) → TellsFull key n at s v h.spot.path full in
      let F : (h : CanEmptyEntry (suc l) node at s v) → Bool → Type 0 = λ h b.
      TellsFull key (suc l) at s v h.spot.path b in
      subst P (sym (down_one l)) (λ h. subst (F h) (sym e) (entry_tells key step IsOp IsKept laws l node at
      child s a t v buffer least can h took done told)) spot

  -- it wasn't taken out,
  pub lowers_err : (T : Type 0) (level : ℕ) → 2 ≤ level → (spot : CanEmptyEntry (level - 1) node at s v)
      (t : RigState) (fault : EmFault) → StopsTaking s t node fault
      → LowersTo key step IsOp IsKept (level - 1) at s t v v spot.spot.path (err_of T fault)
  lowers_err T zero two spot t fault h = absurd (omega (arith, two))
  lowers_err T (suc zero) two spot t fault h = absurd (omega (arith, two))
  lowers_err T (suc (suc l)) two spot t fault h =
      let P : ℕ → Type 0 = λ n. (c : CanEmptyEntry n node at s v)
      → LowersTo key step IsOp IsKept n at s t v v c.spot.path (err_of T fault) in
      subst P (sym (down_one l)) (λ c. entry_not_taken key IsOp IsKept l node at s t v fault can c h) spot

  -- or not put there.
  pub lowers_back : (T : Type 0) (level : ℕ) → 2 ≤ level → (spot : CanEmptyEntry (level - 1) node at s v)
      (a t : RigState) (child : ℕ) (buffer : Chain) (fault : EmFault)
      → TookBuffer s a level node at child buffer → Goes (given_blocks a child buffer) a t
      → EmptyingCosts a t child buffer → Cause a t fault
      → LowersTo key step IsOp IsKept (level - 1) at s t v v spot.spot.path (err_of T fault)
  lowers_back T zero two spot a t child buffer fault took g costs cause = absurd (omega (arith, two))
  lowers_back T (suc zero) two spot a t child buffer fault took g costs cause = absurd (omega (arith, two))
  lowers_back T (suc (suc l)) two spot a t child buffer fault took g costs cause =
      let P : ℕ → Type 0 = λ n. (c : CanEmptyEntry n node at s v)
      → LowersTo key step IsOp IsKept n at s t v v c.spot.path (err_of T fault) in
      subst P (sym (down_one l))
      (λ c. entry_not_poured key IsOp IsKept l node at s t v fault can c a child buffer took g costs cause)
      spot
