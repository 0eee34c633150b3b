-- A call that takes the least records out of a tree: its visits of the first leaf, and what they leave.
use Rattle.std.specs.Prelude.{◌≡◌, ◌⊎◌, true, false, Bool, ℕ, ◌+◌, ◌-◌, ◌*◌, ◌<◌, ◌≤◌, List, [], drop, length, take, Option, None, IsTrue, Result, Ok, Err}
use Rattle.em_record.specs.Shape.{ShapeNumbers, wide_of}
use Rattle.em_record.specs.declared.record.Record.{Record}
use Rattle.em_frames.specs.Pool.{SameFrames, load_of}
use Rattle.em_space.specs.Ledger.{Session}
use Rattle.em_space.specs.Queue.{Pays}
use Rattle.em_space.specs.Rig.{InUse, RigState}
use Rattle.em_space.specs.declared.fault.EmFault.{EmFault}
use Rattle.em_space.specs.declared.fault.EmFault.TheVariants.{Damaged}
use Rattle.em_settle.specs.declared.step.Step.{Step}
use Rattle.em_leaf.specs.Leaf.{IsLeafChain}
use Rattle.em_tree_model.specs.Meaning.{tree_contents}
use Rattle.em_tree_model.specs.Taking.{HasContents, TakesFirst}
use Rattle.em_tree_model.specs.Tree.{over_first, stored_in, waiting_in}
use Rattle.em_tree_cost.specs.Books.{InCall, KeepsBooks, TreeCounts, count_drain, count_moves}
use Rattle.em_tree_cost.specs.Counters.{Sums}
use Rattle.em_tree_cost.specs.Visits.{first_load_debt, root_debt, way_debt}
use Rattle.em_tree_load.specs.FirstLeaves.{FoundFirst, IsFirstLeaf, LeadsToFork}
use Rattle.em_tree_walk.specs.Paid.{LosesNone}
use Rattle.em_tree_load.specs.declared.seeking.FirstLeaf.{FirstLeaf}
use Rattle.em_tree_walk.specs.Reads.{StopsReading}
use Rattle.em_trunk.specs.Buffers.{IsThin}
use Rattle.em_tree_buffers.specs.Draining.{CanDrain}
use Rattle.em_trunk.specs.Spots.{EachRead}
use Rattle.em_trunk.specs.Steps.{TakesStep}
use Rattle.em_trunk.specs.Room.{KeepsIn, MayHold}
use Rattle.em_trunk.specs.Trunk.{IsRunning, full_limit, given_by, model_of, root_of, sums_in, trunk_blocks, trunk_unstored}
use Rattle.em_tree_visits.specs.Visits.{StopsVisit, TakesSteps, WorksTaking}
use Rattle.em_trunk.specs.Works.{SameNumbers, Works, deepest, IsDrained}
use Rattle.em_trunk.specs.declared.trunk.Trunk.{Trunk}
use Rattle.em_tree_visits.specs.declared.visiting.Taken.{Taken}
use Rattle.em_tree_visits.specs.declared.visiting.Turn.{Turn}
use Rattle.em_tree_visits.specs.declared.visiting.Turn.TheVariants.{Last, More}

-- a tree of one leaf, under a root of level 1
abbrev pub IsSingle : Sums → Type 0
IsSingle t = (t.leaves ≤ 1) × (t.level ≤ 1)

-- What a call may owe, in moves times B, while it takes records out. It is known that a leaf was split since the
-- reset, and it owes so many moves at most; or there is one leaf, and it owes 6 for each of so many records beside.
pub record OwesAt (shape : ShapeNumbers) (most stored few owed r : ℕ) (t : Sums) : Type 0 where
  pub either : ((1 ≤ r) × (owed ≤ shape.block * most))
      ⊎ (IsSingle t × (owed ≤ 6 * stored + shape.block * few))

-- what it may owe before a visit
abbrev pub OwesBefore : ℕ → ℕ → RigState → Trunk → Type 0
OwesBefore owed r s v = OwesAt s.pool.shape (root_debt s.pool.shape (deepest s v)) 0
    (13 + deepest s v) owed r (sums_in s v)

-- what a visit may owe for its way to the leaf, which began at a level
abbrev pub way_moves : ℕ → RigState → Trunk → ℕ
way_moves at s v = way_debt (wide_of s.pool.shape) (deepest s v) at
    + first_load_debt s.pool.shape (deepest s v) + (deepest s v + 1)

-- The least records can be taken out: the root's buffer can be emptied, and the call has its steps.
pub record CanTakeAll (s : RigState) (v : Trunk) : Type 0 where
  pub drain : CanDrain s v
  pub steps : IsTrue s.device.told
      → (x : TakesSteps s v) × (x.owed ≡ 0) × (x.handed ≡ 0) × (x.split ≡ 0)

-- The root's buffer was emptied, and what was full then: no buffer is.
pub record EmptiedTop (key : Record → Record) (step : Option Record → Record → Step)
    (IsOp IsKept : Record → Type 0) (s t : RigState) (v w : Trunk) : Type 0 where
  pub taken : ℕ
  pub debt : ℕ
  pub works : Works key step IsOp IsKept 0 0 (s.pool.shape.block * debt) taken s t v w
  pub most : IsTrue s.device.told → debt ≤ root_debt s.pool.shape (deepest s v)
  pub few : IsTrue s.device.told → IsSingle (sums_in t w) → debt ≤ 13 + deepest s v
  pub thin : IsTrue s.device.told → EachRead (IsThin (full_limit s.pool.shape)) t w
  pub drained : IsDrained w

-- what that did, by its result
abbrev pub EmptiesTop : {T : Type 0} → (Record → Record) → (Option Record → Record → Step)
    → (Record → Type 0) → (Record → Type 0) → RigState → RigState → Trunk → Trunk → Result T EmFault
    → Type 0
EmptiesTop key step IsOp IsKept s t v w (Ok x) = EmptiedTop key step IsOp IsKept s t v w
EmptiesTop key step IsOp IsKept s t v w (Err fault) = StopsVisit 0 0 s t v w fault

-- A visit can begin: nothing waits in the root's buffer, and no buffer is full.
pub record CanVisit (s : RigState) (v : Trunk) : Type 0 where
  pub drained : IsDrained v
  pub thin : IsTrue s.device.told → EachRead (IsThin (full_limit s.pool.shape)) s v
  pub may : IsTrue s.device.told → (x : TakesSteps s v) × OwesBefore x.owed x.split s v

-- The first leaf was found, with one of the call's steps; or not.
abbrev pub FindsLeaf : RigState → RigState → Trunk → Trunk → Result FirstLeaf EmFault → Type 0
FindsLeaf s t v w (Ok x) = TakesStep v w × FoundFirst s t v.level v.root x
FindsLeaf s t v w (Err fault) = ((t ≡ s) × (w ≡ v) × (v.steps ≡ 0) × (fault ≡ Damaged v.root))
    ⊎ (TakesStep v w × StopsReading (v.level + 1) s t fault)

-- The call stands before the first leaf, over which nothing waits. A tree of one leaf owes by what is stored there.
pub record ArrivedAt (key : Record → Record) (step : Option Record → Record → Step)
    (IsOp IsKept : Record → Type 0) (s t : RigState) (v w : Trunk) (x : FirstLeaf) : Type 0 where
  pub at : ℕ
  pub steps : ℕ
  pub some : 1 ≤ steps
  pub down : IsTrue s.device.told → at ≤ deepest s v
  pub works : Works key step IsOp IsKept 0 0 (s.pool.shape.block * way_moves at s v) steps s t v w
  pub one : (IsTrue s.device.told → IsSingle (sums_in t w)) → Works key step IsOp IsKept 0 0
      (6 * (sums_in t w).stored + s.pool.shape.block * 34) steps s t v w
  pub in_use : InUse t x.leaf
  pub chain : IsLeafChain t x.stored
  pub fork_leads : LeadsToFork t w.level x.fork
  pub found : IsTrue s.device.told → IsFirstLeaf t w.level w.root x
  pub none_waits : IsTrue s.device.told → over_first (root_of t w) ≡ []
  pub thin : IsTrue s.device.told → EachRead (IsThin (full_limit s.pool.shape)) t w
  pub drained : IsDrained w

-- A part of a visit gave up, whatever was owed before it.
abbrev pub StopsOnWay : RigState → RigState → Trunk → Trunk → EmFault → Type 0
StopsOnWay s t v w fault = (owed r : ℕ) → (IsTrue s.device.told → OwesBefore owed r s v)
    → StopsVisit owed r s t v w fault

-- what the way to the leaf did, by its result
abbrev pub ArrivesAt : (Record → Record) → (Option Record → Record → Step) → (Record → Type 0)
    → (Record → Type 0) → RigState → RigState → Trunk → Trunk → Result FirstLeaf EmFault → Type 0
ArrivesAt key step IsOp IsKept s t v w (Ok x) = ArrivedAt key step IsOp IsKept s t v w x
ArrivesAt key step IsOp IsKept s t v w (Err fault) = StopsOnWay s t v w fault

-- A call is over, and its books are kept: it left some, or it was a reset.
abbrev pub EndsBooks : Bool → ShapeNumbers → ℕ → TreeCounts → Sums → Type 0
EndsBooks false shape m c u = KeepsBooks shape (count_moves m c) 0 u
EndsBooks true shape m c u = KeepsBooks shape (count_drain m c) 0 u

-- Some are left: more than half of an area of records was taken in all.
pub record LeavesMore (key : Record → Record) (step : Option Record → Record → Step) (n : ℕ)
    (t : RigState) (w : Trunk) : Type 0 where
  pub many : load_of t.pool.shape < 2 * n
  pub some : HasContents (tree_contents key step (model_of t w))

-- Nothing is left.
pub record LeavesEmpty (key : Record → Record) (step : Option Record → Record → Step) (t : RigState)
    (w : Trunk) : Type 0 where
  pub contents : (q : Record) → tree_contents key step (model_of t w) q ≡ None
  pub stored : stored_in (model_of t w) ≡ []
  pub waiting : waiting_in (model_of t w) ≡ []

-- whether a call was a reset says which
abbrev pub EndsAs : Bool → (Record → Record) → (Option Record → Record → Step) → ℕ → RigState
    → Trunk → Type 0
EndsAs false key step n t w = LeavesMore key step n t w
EndsAs true key step n t w = LeavesEmpty key step t w

-- Records were taken out of a tree, without a word on its books. No buffer is full.
pub record TakesOn (key : Record → Record) (step : Option Record → Record → Step)
    (IsOp IsKept : Record → Type 0) (ys : List Record) (s t : RigState) (v w : Trunk) : Type 0 where
  pub session : Session (trunk_blocks s v) s t (trunk_blocks t w)
  pub frames : SameFrames s.pool t.pool
  pub pays : Pays (trunk_unstored v) (trunk_unstored w) s t
  pub loses : LosesNone (trunk_blocks s v) (trunk_blocks t w) s t
  pub numbers : SameNumbers v w
  pub running : IsRunning key IsOp IsKept t w
  pub takes : IsTrue s.device.told → TakesFirst key step IsOp IsKept (given_by s v) (model_of s v) ys
      (given_by t w) (model_of t w)
  pub gives : IsTrue s.device.told
      → w.answers.count + (sums_in t w).waiting ≤ v.answers.count + (sums_in s v).waiting
  pub room : IsTrue s.device.told → (g : ℕ) → MayHold g 0 s v → KeepsIn g s t v
  pub thin : IsTrue s.device.told → EachRead (IsThin (full_limit s.pool.shape)) t w
  pub drained : IsDrained w

-- A visit after `taken` records went on to n of them, and another one may follow: it owes nothing, and a leaf was
-- split since the reset.
pub record VisitedMore (key : Record → Record) (step : Option Record → Record → Step)
    (IsOp IsKept : Record → Type 0) (taken n : ℕ) (old new : List Record) (s t : RigState)
    (v w : Trunk) : Type 0 where
  pub steps : ℕ
  pub some : 1 ≤ steps
  pub later : taken ≤ n
  pub few : n ≤ length new
  pub kept : take taken new ≡ take taken old
  pub works : (owed r : ℕ) → (IsTrue s.device.told → OwesBefore owed r s v)
      → WorksTaking key step IsOp IsKept (take (n - taken) (drop taken new)) owed 0 r 1 steps s t v w
  pub thin : IsTrue s.device.told → EachRead (IsThin (full_limit s.pool.shape)) t w
  pub drained : IsDrained w

-- It was the last one: n records were taken in all.
pub record VisitedLast (key : Record → Record) (step : Option Record → Record → Step)
    (IsOp IsKept : Record → Type 0) (taken : ℕ) (x : Taken) (old new : List Record) (s t : RigState)
    (v w : Trunk) : Type 0 where
  pub later : taken ≤ x.count
  pub few : x.count ≤ length new
  pub kept : take taken new ≡ take taken old
  pub takes : TakesOn key step IsOp IsKept (take (x.count - taken) (drop taken new)) s t v w
  pub ends : IsTrue s.device.told → EndsAs x.reset key step x.count t w
  pub books : IsTrue s.device.told → (owed r : ℕ) → OwesBefore owed r s v
      → (c : TreeCounts) → c.k ≡ v.longest → InCall s.pool.shape c owed taken r (sums_in s v)
      → EndsBooks x.reset s.pool.shape (t.moves - s.moves) c (sums_in t w)

-- what a visit did, by its result
abbrev pub VisitsTo : (Record → Record) → (Option Record → Record → Step) → (Record → Type 0)
    → (Record → Type 0) → ℕ → List Record → List Record → RigState → RigState → Trunk → Trunk
    → Result Turn EmFault → Type 0
VisitsTo key step IsOp IsKept taken old new s t v w (Ok (More n)) =
    VisitedMore key step IsOp IsKept taken n old new s t v w
VisitsTo key step IsOp IsKept taken old new s t v w (Ok (Last x)) =
    VisitedLast key step IsOp IsKept taken x old new s t v w
VisitsTo key step IsOp IsKept taken old new s t v w (Err fault) = StopsOnWay s t v w fault

-- The loop over visits, after `taken` records.
pub record Visiting (key : Record → Record) (step : Option Record → Record → Step)
    (IsOp IsKept : Record → Type 0) (taken : ℕ) (area : List Record) (s t : RigState) (v w : Trunk)
    : Type 0 where
  pub steps : ℕ
  pub owed : ℕ
  pub split : ℕ
  pub few : taken ≤ length area
  pub works : WorksTaking key step IsOp IsKept (take taken area) 0 owed 0 split steps s t v w
  pub owes : IsTrue s.device.told → OwesBefore owed split t w
  pub thin : IsTrue s.device.told → EachRead (IsThin (full_limit s.pool.shape)) t w
  pub drained : IsDrained w

-- All visits were made: this many records stand in the area's first places.
pub record TookAllFirst (key : Record → Record) (step : Option Record → Record → Step)
    (IsOp IsKept : Record → Type 0) (x : Taken) (area : List Record) (s t : RigState) (v w : Trunk)
    : Type 0 where
  pub few : x.count ≤ length area
  pub takes : TakesOn key step IsOp IsKept (take x.count area) s t v w
  pub ends : IsTrue s.device.told → EndsAs x.reset key step x.count t w
  pub books : IsTrue s.device.told → (c : TreeCounts) → c.k ≡ v.longest
      → KeepsBooks s.pool.shape c 0 (sums_in s v)
      → EndsBooks x.reset s.pool.shape (t.moves - s.moves) c (sums_in t w)

-- what the whole call did before it was counted, by its result
abbrev pub TakesAllFirst : (Record → Record) → (Option Record → Record → Step) → (Record → Type 0)
    → (Record → Type 0) → List Record → RigState → RigState → Trunk → Trunk → Result Taken EmFault
    → Type 0
TakesAllFirst key step IsOp IsKept area s t v w (Ok x) =
    TookAllFirst key step IsOp IsKept x area s t v w
TakesAllFirst key step IsOp IsKept area s t v w (Err fault) = StopsVisit 0 0 s t v w fault
