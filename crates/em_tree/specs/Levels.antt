-- The buffers of a level, emptied from left to right: what holds between two steps, and what a step did.
use Rattle.std.specs.Prelude.{◌≡◌, false, ℕ, ◌+◌, ◌*◌, ◌<◌, ◌≤◌, None, Some, Option, IsTrue, Result, Ok, Err}
use Rattle.em_record.specs.Order.{is_below}
use Rattle.em_record.specs.declared.record.Record.{Record}
use Rattle.em_settle.specs.declared.step.Step.{Step}
use Rattle.em_space.specs.Rig.{RigState}
use Rattle.em_space.specs.declared.fault.EmFault.{EmFault}
use Rattle.em_tree_model.specs.Ranges.{Under}
use Rattle.em_tree_walk.specs.declared.searching.Range.{Range}
use Rattle.em_trunk.specs.Buffers.{OnlyFull}
use Rattle.em_trunk.specs.Debts.{KeepsOwing, MayOwe, owing_now, owing_to}
use Rattle.em_tree_buffers.specs.Emptying.{SettlesLevel}
use Rattle.em_tree_buffers.specs.Loops.{KeepsQuiet, due_of, searches_left}
use Rattle.em_trunk.specs.Trunk.{full_limit}
use Rattle.em_trunk.specs.Works.{StopsWorking, Works, CanWork, deepest, unstored_most, IsDrained}
use Rattle.em_trunk.specs.declared.trunk.Trunk.{Trunk}
use Rattle.em_trunk.specs.Spots.{EachRead}

-- An entry whose buffer has an operation is in no node above a level, and if it is in the level it doesn't
-- begin before a key.
abbrev pub WaitsFrom : ℕ → Option Record → ℕ → Record → Type 0
WaitsFrom at upto level lo = (level ≤ at) × (level ≡ at → Under upto lo → ⊥)

-- An entry below a level whose buffer is full is one level below, and begins before a key.
abbrev pub FullBefore : ℕ → Option Record → ℕ → Record → Type 0
FullBefore at upto level lo = level < at → (level + 1 ≡ at) × Under upto lo

-- The buffers of a level are empty up to a key, and no buffer below the others is full. A search that begins
-- at another key, no later than that one, misses none.
pub record EmptyUpTo (limit at : ℕ) (upto : Option Record) (from : Record) (s : RigState) (v : Trunk)
    : Type 0 where
  pub waits : EachRead (OnlyFull 1 (WaitsFrom at upto)) s v
  pub full : EachRead (OnlyFull limit (FullBefore at upto)) s v
  pub later : (q : Record) → (Under upto q → ⊥) → is_below q from ≡ false

-- what holds before a step that goes on from a key, and after the last step
abbrev pub LeavesEmpty : ℕ → ℕ → Option Record → RigState → Trunk → Type 0
LeavesEmpty limit at None s v = SettlesLevel limit at s v
LeavesEmpty limit at (Some from) s v = (upto : Option Record) × EmptyUpTo limit at upto from s v

-- A step can begin: searches are paid for in advance, one for each node of the level that is left.
pub record CanEmptyNext (at : ℕ) (left : Range) (s : RigState) (v : Trunk) : Type 0 where
  pub above : 0 < at
  pub down : at ≤ v.level
  pub drained : IsDrained v
  pub endless : left.until ≡ None
  pub so_far : IsTrue s.device.told
      → LeavesEmpty (full_limit s.pool.shape) at (Some left.from) s v
  pub may : IsTrue s.device.told
      → MayOwe (deepest s v * searches_left (due_of at left) (Some left.from) s v) (owing_now at s v) s v

-- A step of the loop went well.
pub record EmptiedNext (key : Record → Record) (step : Option Record → Record → Step)
    (IsOp IsKept : Record → Type 0) (at : ℕ) (left : Range) (next : Option Record) (s t : RigState)
    (v w : Trunk) : Type 0 where
  pub taken : ℕ
  pub some : 1 ≤ taken
  pub debt : ℕ
  pub works : (p : ℕ) → Works key step IsOp IsKept
      (p + deepest s v * searches_left (due_of at left) (Some left.from) s v)
      (p + deepest s v * searches_left (due_of at left) next t w) (s.pool.shape.block * debt) taken s t v w
  pub owes : IsTrue s.device.told → KeepsOwing (owing_now at s v) (owing_now at t w) debt s t v w
  pub leaves : IsTrue s.device.told → LeavesEmpty (full_limit s.pool.shape) at next t w
  pub level : v.level ≤ w.level
  pub drained : IsDrained w
  pub quiet : KeepsQuiet s t v w

-- It gave up.
pub record StopsNext (at : ℕ) (left : Range) (s t : RigState) (v w : Trunk) (fault : EmFault) : Type 0
  where
    pub debt : ℕ
    pub stops : (p : ℕ) → StopsWorking
        (p + deepest s v * searches_left (due_of at left) (Some left.from) s v) (s.pool.shape.block * debt)
        (unstored_most s) s t v w fault
    pub owes : IsTrue s.device.told → s.pool.shape.block * debt ≤ owing_now at s v

-- what a step did, by its result
abbrev pub EmptiesNext : (Record → Record) → (Option Record → Record → Step) → (Record → Type 0)
    → (Record → Type 0) → ℕ → Range → RigState → RigState → Trunk → Trunk
    → Result (Option Record) EmFault → Type 0
EmptiesNext key step IsOp IsKept at left s t v w (Ok next) =
    EmptiedNext key step IsOp IsKept at left next s t v w
EmptiesNext key step IsOp IsKept at left s t v w (Err fault) = StopsNext at left s t v w fault

-- The loop has these keys left.
pub record EmptyingLevel (key : Record → Record) (step : Option Record → Record → Step)
    (IsOp IsKept : Record → Type 0) (at : ℕ) (left : Range) (s t : RigState) (v w : Trunk) : Type 0
  where
    pub taken : ℕ
    pub debt : ℕ
    pub works : Works key step IsOp IsKept 0
        (deepest s v * searches_left (due_of at left) (Some left.from) t w) (s.pool.shape.block * debt) taken s
        t v w
    pub owes : IsTrue s.device.told → KeepsOwing (owing_to at s v) (owing_now at t w) debt s t v w
    pub endless : left.until ≡ None
    pub leaves : IsTrue s.device.told
        → LeavesEmpty (full_limit s.pool.shape) at (Some left.from) t w
    pub level : v.level ≤ w.level
    pub drained : IsDrained w
    pub quiet : KeepsQuiet s t v w
    pub can : CanWork key IsOp IsKept t w
