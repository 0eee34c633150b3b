-- What the loops over the buffers of a tree ask and leave, and a settling before the tree's numbers are
-- counted.
use Rattle.std.specs.Prelude.{◌≡◌, false, ℕ, suc, ◌+◌, ◌-◌, ◌*◌, ◌<◌, ◌≤◌, Bool, List, [], ◌∷◌, ◌++◌, None, Some, Option, IsTrue, Result, Ok, Err}
use Rattle.em_record.specs.Order.{is_below}
use Rattle.em_record.specs.declared.record.Record.{Record}
use Rattle.em_settle.specs.declared.step.Step.{Step}
use Rattle.em_space.specs.Rig.{RigState}
use Rattle.em_space.specs.declared.fault.EmFault.{EmFault}
use Rattle.em_tree_model.specs.Ranges.{least_record}
use Rattle.em_tree_model.specs.Tree.{waiting_in}
use Rattle.em_tree_walk.specs.declared.searching.Range.{Range}
use Rattle.em_trunk.specs.Buffers.{AllOver, ClearOver, Due, IsDue, OnOneSide, OnlyFull}
use Rattle.em_trunk.specs.Debts.{KeepsOwing, MayOwe, owing_to, settling_toll}
use Rattle.em_tree_buffers.specs.Emptying.{CanClear, CanSettleLevel, SettlesLevel}
use Rattle.em_tree_buffers.specs.Findings.{FoundSpot}
use Rattle.em_trunk.specs.Starts.{is_inside, starts_of}
use Rattle.em_trunk.specs.Trunk.{full_limit, model_of, root_of, sums_in}
use Rattle.em_trunk.specs.Works.{StopsWorking, Works, CanWork, deepest, unstored_most, IsDrained}
use Rattle.em_trunk.specs.declared.trunk.Trunk.{Trunk}
use Rattle.em_trunk.specs.Spots.{EachRead, HasSpot}
use Rattle.em_trunk.specs.Steps.{HasSteps}

-- Leaves came, and of each level at most as many nodes that begin among some keys.
pub record Grows (s t : RigState) (v w : Trunk) : Type 0 where
  pub leaves : (sums_in s v).leaves ≤ (sums_in t w).leaves
  pub starts : (test : Record → Bool) (level : ℕ) → test least_record ≡ false → 2 ≤ level
      → starts_of test level w.level least_record (root_of t w) + (sums_in s v).leaves
      ≤ starts_of test level v.level least_record (root_of s v) + (sums_in t w).leaves

-- the keys of a loop over a level
abbrev pub due_of : ℕ → Range → Due
due_of level keys = record { level = level; from = keys.from; until = keys.until }

-- the keys that a loop has left: those from a key on, or none
abbrev pub due_left : Due → Option Record → List Due
due_left d None = []
due_left d (Some from) = (record { level = d.level; from = from; until = d.until }) ∷ []

-- the nodes of the level that begin inside the keys from a key on
abbrev pub nodes_inside : Due → Record → RigState → Trunk → ℕ
nodes_inside d from s v =
    starts_of (is_inside from d.until) (suc d.level) v.level least_record (root_of s v)

-- the searches that it still takes, but for those that full buffers and leaves that come pay for: one for
-- each node of the level that these keys meet
abbrev pub searches_left : Due → Option Record → RigState → Trunk → ℕ
searches_left d None s v = 0
searches_left d (Some from) s v = 1 + nodes_inside d from s v

-- what each leaf that comes pays for: a descent on each level above this one
abbrev pub leaf_pay : Due → RigState → Trunk → ℕ
leaf_pay d s v = (deepest s v - d.level) * deepest s v

-- what leaves that came and full buffers that were found paid for beside
abbrev pub clear_pay : Due → ℕ → RigState → RigState → Trunk → Trunk → ℕ
clear_pay d found s t v w =
    leaf_pay d s v * ((sums_in t w).leaves - (sums_in s v).leaves) + deepest s v * found

-- The same tree is read.
pub record SameTree (s t : RigState) (v w : Trunk) : Type 0 where
  pub root : root_of t w ≡ root_of s v
  pub level : w.level ≡ v.level

-- If no operation waited, the same tree is read.
abbrev pub KeepsQuiet : RigState → RigState → Trunk → Trunk → Type 0
KeepsQuiet s t v w = IsTrue s.device.told → waiting_in (model_of s v) ≡ [] → SameTree s t v w

-- Full buffers of a level, among some keys, were emptied, and those below after them, up to the keys that
-- are left. What was empty over the level is.
pub record ClearsUpTo (limit : ℕ) (d : Due) (left : Option Record) (s t : RigState) (v w : Trunk)
    : Type 0 where
  pub full : (others : List Due) → AllOver d.level others
      → EachRead (OnlyFull limit (IsDue (d ∷ others))) s v
      → EachRead (OnlyFull limit (IsDue (due_left d left ++ others))) t w
  pub clear : (at : ℕ) (from : Record) (until : Option Record) → d.level ≤ at
      → EachRead (ClearOver at from until) s v → EachRead (ClearOver at from until) t w
  pub sides : d.level ≡ 1 → EachRead (OnOneSide 1 limit d.until) s v
      → EachRead (OnOneSide 1 limit d.until) t w
  pub later : (from : Record) → left ≡ Some from → is_below from d.from ≡ false
  pub grows : Grows s t v w

-- The same as a step of a call: a search is paid for in advance for each that is left. Each full buffer that
-- was found pays for the search that found it, and without one nothing changed.
pub record Cleared (key : Record → Record) (step : Option Record → Record → Step)
    (IsOp IsKept : Record → Type 0) (taken : ℕ) (d : Due) (left : Option Record) (s t : RigState)
    (v w : Trunk) : Type 0 where
  pub found : ℕ
  pub works : (p : ℕ) → Works key step IsOp IsKept
      (p + deepest s v * searches_left d (Some d.from) s v)
      (p + deepest s v * searches_left d left t w + clear_pay d found s t v w) 0 taken s t v w
  pub clears : IsTrue s.device.told → ClearsUpTo (full_limit s.pool.shape) d left s t v w
  pub same : IsTrue s.device.told → found ≡ 0 → SameTree s t v w
  pub drained : IsDrained w
  pub level : v.level ≤ w.level

-- The full buffers of a level, among some keys, can be emptied, with the searches that were paid for in
-- advance.
pub record CanClearFull (d : Due) (s : RigState) (v : Trunk) : Type 0 where
  pub above : 0 < d.level
  pub down : d.level ≤ v.level
  pub drained : IsDrained v
  pub clear : IsTrue s.device.told → CanClear (full_limit s.pool.shape) d s v
  pub paid : ℕ
  pub steps : IsTrue s.device.told
      → HasSteps (paid + deepest s v * searches_left d (Some d.from) s v) s v

-- A full buffer of a level was found among some keys, and can be emptied, and those below it after that.
pub record CanClearEntry (d : Due) (node at : ℕ) (inner : Range) (s : RigState) (v : Trunk) : Type 0 where
  pub above : 0 < d.level
  pub down : d.level ≤ v.level
  pub drained : IsDrained v
  pub clear : IsTrue s.device.told → CanClear (full_limit s.pool.shape) d s v
  pub spot : HasSpot (d.level - 1) node at s v
  pub found : IsTrue s.device.told → FoundSpot (full_limit s.pool.shape) (d.level - 1) at
      (record { from = d.from; until = d.until }) inner s v spot.path
  pub paid : ℕ
  pub steps : IsTrue s.device.told → HasSteps (paid + deepest s v * nodes_inside d d.from s v) s v

-- It was: the loop goes on at this key. Two more searches are paid for then.
pub record ClearedEntry (key : Record → Record) (step : Option Record → Record → Step)
    (IsOp IsKept : Record → Type 0) (taken : ℕ) (d : Due) (next : Record) (s t : RigState)
    (v w : Trunk) : Type 0 where
  pub works : (p : ℕ) → Works key step IsOp IsKept (p + deepest s v * nodes_inside d d.from s v)
      (p + deepest s v * (1 + nodes_inside d next t w) + clear_pay d 1 s t v w) 0 taken s t v w
  pub clears : IsTrue s.device.told → ClearsUpTo (full_limit s.pool.shape) d (Some next) s t v w
  pub drained : IsDrained w
  pub level : v.level ≤ w.level

-- what that did, by its result
abbrev pub ClearsEntry : {T : Type 0} → (Record → Record) → (Option Record → Record → Step)
    → (Record → Type 0) → (Record → Type 0) → Due → Range → RigState → RigState → Trunk → Trunk
    → Result T EmFault → Type 0
ClearsEntry key step IsOp IsKept d inner s t v w (Ok x) =
    (taken : ℕ) × ClearedEntry key step IsOp IsKept taken d inner.from s t v w
ClearsEntry key step IsOp IsKept d inner s t v w (Err fault) = (p : ℕ)
    → StopsWorking (p + deepest s v * nodes_inside d d.from s v) 0 (unstored_most s) s t v w fault

-- what a step of the loop over full buffers did, by its result: the key from which it goes on
abbrev pub ClearsNext : (Record → Record) → (Option Record → Record → Step)
    → (Record → Type 0) → (Record → Type 0) → Due → RigState → RigState → Trunk → Trunk
    → Result (Option Record) EmFault → Type 0
ClearsNext key step IsOp IsKept d s t v w (Ok left) =
    (taken : ℕ) × (1 ≤ taken) × Cleared key step IsOp IsKept taken d left s t v w
ClearsNext key step IsOp IsKept d s t v w (Err fault) = (p : ℕ)
    → StopsWorking (p + deepest s v * searches_left d (Some d.from) s v) 0 (unstored_most s) s t v w fault

-- what the loop over full buffers did, by its result
abbrev pub ClearsTo : {T : Type 0} → (Record → Record) → (Option Record → Record → Step)
    → (Record → Type 0) → (Record → Type 0) → Due → RigState → RigState → Trunk → Trunk
    → Result T EmFault → Type 0
ClearsTo key step IsOp IsKept d s t v w (Ok x) =
    (taken : ℕ) × Cleared key step IsOp IsKept taken d None s t v w
ClearsTo key step IsOp IsKept d s t v w (Err fault) = (p : ℕ)
    → StopsWorking (p + deepest s v * searches_left d (Some d.from) s v) 0 (unstored_most s) s t v w fault

-- The loop over full buffers has these keys left.
pub record Clearing (key : Record → Record) (step : Option Record → Record → Step)
    (IsOp IsKept : Record → Type 0) (d : Due) (left : Range) (s t : RigState) (v w : Trunk)
    : Type 0 where
  pub taken : ℕ
  pub until : left.until ≡ d.until
  pub done : Cleared key step IsOp IsKept taken d (Some left.from) s t v w
  pub can : CanWork key IsOp IsKept t w

-- The buffers of a level can be emptied.
pub record CanSettle (at : ℕ) (s : RigState) (v : Trunk) : Type 0 where
  pub above : 0 < at
  pub down : at ≤ v.level
  pub drained : IsDrained v
  pub settles : IsTrue s.device.told → CanSettleLevel (full_limit s.pool.shape) at s v
  pub may : IsTrue s.device.told → MayOwe 0 (owing_to at s v) s v

-- They were emptied, with a debt.
pub record SettledLevel (key : Record → Record) (step : Option Record → Record → Step)
    (IsOp IsKept : Record → Type 0) (at : ℕ) (s t : RigState) (v w : Trunk) : Type 0 where
  pub taken : ℕ
  pub debt : ℕ
  pub works : Works key step IsOp IsKept 0 0 (s.pool.shape.block * debt) taken s t v w
  pub owes : IsTrue s.device.told → KeepsOwing (owing_to at s v) (owing_to (at - 1) t w) debt s t v w
  pub settles : IsTrue s.device.told → SettlesLevel (full_limit s.pool.shape) at t w
  pub level : v.level ≤ w.level
  pub drained : IsDrained w
  pub quiet : KeepsQuiet s t v w

-- They weren't. The debts before this and in it are within what the call pays for by itself.
pub record StopsLevel (at : ℕ) (s t : RigState) (v w : Trunk) (fault : EmFault) : Type 0 where
  pub debt : ℕ
  pub stops : StopsWorking 0 (s.pool.shape.block * debt) (unstored_most s) s t v w fault
  pub owes : IsTrue s.device.told → (m : MayOwe 0 (owing_to at s v) s v)
      → m.debt + debt ≤ settling_toll s v

-- what the loop over a level's buffers did, by its result
abbrev pub SettlesTo : {T : Type 0} → (Record → Record) → (Option Record → Record → Step)
    → (Record → Type 0) → (Record → Type 0) → ℕ → RigState → RigState → Trunk → Trunk
    → Result T EmFault → Type 0
SettlesTo key step IsOp IsKept at s t v w (Ok x) = SettledLevel key step IsOp IsKept at s t v w
SettlesTo key step IsOp IsKept at s t v w (Err fault) = StopsLevel at s t v w fault
