-- What emptying the buffers of a tree asks, and leaves: one entry's buffer, and the loops over the
-- buffers of a level.
use Rattle.std.specs.Prelude.{◌≡◌, ◌⊎◌, true, false, ℕ, zero, suc, ◌+◌, ◌-◌, ◌*◌, ◌<◌, ◌≤◌, Bool, List, [], ◌∷◌, length, min, Option, IsTrue, Result, Ok, Err}
use Rattle.em_record.specs.Shape.{wide_of}
use Rattle.em_record.specs.declared.record.Record.{Record}
use Rattle.em_settle.specs.declared.step.Step.{Step}
use Rattle.em_space.specs.Rig.{RigState}
use Rattle.em_space.specs.declared.fault.EmFault.{EmFault}
use Rattle.em_chain.specs.Chain.{chain_items}
use Rattle.em_tree_model.specs.Places.{put_at}
use Rattle.em_tree_model.specs.Pouring.{pour}
use Rattle.em_tree_model.specs.Ranges.{InRange, Under, least_record}
use Rattle.em_tree_model.specs.Tree.{Tree}
use Rattle.em_tree_model.specs.Tree.Tree.{end, entry, leaf}
use Rattle.em_tree_blocks.specs.Effects.{entry_at_place, entry_on, row_from}
use Rattle.em_tree_blocks.specs.Node.{buffer_of, linked_block}
use Rattle.em_tree_blocks.specs.Paths.{node_on}
use Rattle.em_tree_blocks.specs.Reading.{entries_at, tree_at}
use Rattle.em_tree_cost.specs.Counters.{Sums}
use Rattle.em_tree_load.specs.LeafLoads.{leaf_size}
use Rattle.em_trunk.specs.Buffers.{AllOver, ClearOver, Due, IsDue, IsThin, NoneFrom, OnOneSide, OnlyFull}
use Rattle.em_trunk.specs.Events.{Charges}
use Rattle.em_trunk.specs.Owing.{loads_owing}
use Rattle.em_trunk.specs.Starts.{starts_of}
use Rattle.em_trunk.specs.Trunk.{full_limit, root_of, sums_in}
use Rattle.em_trunk.specs.Works.{StopsWorking, Works, deepest, unstored_most}
use Rattle.em_trunk.specs.declared.trunk.Trunk.{Trunk}
use Rattle.em_trunk.specs.Spots.{EachRead, HasSpot, spot_high, spot_low, spot_ops}

-- The buffer of an entry over a node was emptied: the child's buffers have its operations.
pub record LowersEntry (key : Record → Record) (l at : ℕ) (s t : RigState) (v w : Trunk)
    (path : List ℕ) : Type 0 where
  pub new : (let e = entry_on v.level s v.root path at in root_of t w
      ≡ put_at (entry_at_place v.level s v.root path l at)
      (entry e.low [] (pour key (tree_at l s (linked_block e.child)) (chain_items s (buffer_of e)))
      (row_from l s (node_on path v.level s v.root) (suc at))))
  pub level : w.level ≡ v.level
  pub leaves : (sums_in t w).leaves ≡ (sums_in s v).leaves

-- A leaf was loaded, of an entry whose keys are in this range: only entries of the range may be full
-- that weren't, what was empty over leaves' nodes is, a key that isn't among the range's divides no full
-- entry's keys, and of each level at most as many more nodes begin among some keys as leaves came.
pub record LoadsEntry (lo : Record) (hi : Option Record) (s t : RigState) (v w : Trunk)
    : Type 0 where
  pub full : (limit : ℕ) (due : List Due) → 0 < limit
      → ((q : Record) → InRange lo hi q → IsDue due 1 q) → EachRead (OnlyFull limit (IsDue due)) s v
      → EachRead (OnlyFull limit (IsDue due)) t w
  pub clear : (at : ℕ) (from : Record) (until : Option Record) → 1 ≤ at
      → EachRead (ClearOver at from until) s v → EachRead (ClearOver at from until) t w
  pub sides : (limit : ℕ) (until : Option Record) → 0 < limit
      → ((q k : Record) → InRange lo hi q → InRange lo hi k → Under until q → Under until k)
      → EachRead (OnOneSide 1 limit until) s v → EachRead (OnOneSide 1 limit until) t w
  pub leaves : (sums_in s v).leaves ≤ (sums_in t w).leaves
  pub starts : (test : Record → Bool) (level : ℕ) → test least_record ≡ false → 2 ≤ level
      → starts_of test level w.level least_record (root_of t w) + (sums_in s v).leaves
      ≤ starts_of test level v.level least_record (root_of s v) + (sums_in t w).leaves

-- Below a level, no buffer among some keys is full.
abbrev pub AreThinUnder : ℕ → ℕ → Record → Option Record → RigState → Trunk → Type 0
AreThinUnder limit level lo hi s v =
    EachRead (λ l k top b. l < level → InRange lo hi k → length b < limit) s v

-- The buffer of an entry can be emptied: below it no buffer of its range is full. Over a leaf, nothing
-- waits in the root's buffer or over the leaf's node, since nodes may be split, and the root.
pub record CanEmptyEntry (l node at : ℕ) (s : RigState) (v : Trunk) : Type 0 where
  pub spot : HasSpot l node at s v
  pub thin : IsTrue s.device.told → AreThinUnder (full_limit s.pool.shape) (suc l)
      (spot_low at s v spot.path) (spot_high at s v spot.path) s v
  pub clear : IsTrue s.device.told → l ≡ 0
      → EachRead (ClearOver 1 (spot_low at s v spot.path) (spot_high at s v spot.path)) s v
  pub empty : l ≡ 0 → v.buffer.count ≡ 0
  pub unwritten : l ≡ 0 → v.buffer.blocks ≡ 0
  pub last : IsTrue s.device.told → l ≡ 0 → v.level < 24

-- Over any device the root's buffer stays, and the level doesn't fall.
pub record KeepsTop (v w : Trunk) : Type 0 where
  pub buffer : w.buffer ≡ v.buffer
  pub level : v.level ≤ w.level

-- what an entry over a node owes, if its buffer isn't full: by the entries of the node, with a descent
abbrev pub lower_debt : ℕ → RigState → Trunk → List ℕ → ℕ
lower_debt at s v path =
    4 * length (entries_at s (linked_block (entry_on v.level s v.root path at).child)) + 8 + deepest s v

-- each buffer of a row has fewer operations than a limit
abbrev pub RowThin : ℕ → Tree → Type 0
RowThin limit (leaf xs) = Unit {0}
RowThin limit end = Unit {0}
RowThin limit (entry low b c r) = (length b < limit) × RowThin limit r

-- the child of an entry, with the operations of the entry's buffer in its own buffers
abbrev pub child_poured : (Record → Record) → ℕ → ℕ → RigState → Trunk → List ℕ → Tree
child_poured key l at s v path = (let e = entry_on v.level s v.root path at in
    pour key (tree_at l s (linked_block e.child)) (chain_items s (buffer_of e)))

-- Whether one of the child's buffers is full now.
pub record TellsFull (key : Record → Record) (l at : ℕ) (s : RigState) (v : Trunk) (path : List ℕ)
    (full : Bool) : Type 0 where
  pub thin : full ≡ false → RowThin (full_limit s.pool.shape) (child_poured key l at s v path)
  pub some : full ≡ true → RowThin (full_limit s.pool.shape) (child_poured key l at s v path) → ⊥

-- What one did of an entry over a node: its moves are paid for by the operations of a full buffer,
-- with three descents beside; of any buffer, a part of them is owed, with one descent beside.
pub record EmptiedEntry (key : Record → Record) (step : Option Record → Record → Step)
    (IsOp IsKept : Record → Type 0) (l at : ℕ) (s t : RigState) (v w : Trunk) (path : List ℕ)
    : Type 0 where
  pub works : (p : ℕ) → (IsTrue s.device.told
      → full_limit s.pool.shape ≤ length (spot_ops at s v path))
      → Works key step IsOp IsKept p (p + 18 + 3 * deepest s v) 0 0 s t v w
  pub owes : (p : ℕ) → Works key step IsOp IsKept p (p + deepest s v)
      (s.pool.shape.block * lower_debt at s v path) 0 s t v w
  pub lowers : IsTrue s.device.told → LowersEntry key l at s t v w path
  pub keeps : KeepsTop v w

-- what a load owes that gave up, by the blocks of its leaf, if its buffer isn't full
abbrev pub stop_debt : ℕ → RigState → Trunk → List ℕ → ℕ
stop_debt at s v path = 5 * leaf_size s (node_on path v.level s v.root) at + 30 + 2 * deepest s v

-- what a load owes that isn't stopped, with two descents
abbrev pub leaf_debt : ℕ → RigState → Trunk → List ℕ → ℕ
leaf_debt at s v path = 5 * leaf_size s (node_on path v.level s v.root) at + 24 + 2 * deepest s v

-- What the entries over leaves may owe, after one load: if the buffer had less than a load takes, the load's
-- debt less, and else no more but for a leaf that came.
pub record LoadsOwing (at : ℕ) (s t : RigState) (v w : Trunk) (path : List ℕ) : Type 0 where
  pub some : 1 ≤ length (spot_ops at s v path)
      → length (spot_ops at s v path) < wide_of s.pool.shape * s.pool.shape.block
      → s.pool.shape.block * leaf_debt at s v path
      + loads_owing s.pool.shape.block (deepest s v) (root_of t w)
      ≤ loads_owing s.pool.shape.block (deepest s v) (root_of s v)
  pub all : loads_owing s.pool.shape.block (deepest s v) (root_of t w)
      + s.pool.shape.block * (35 + 3 * deepest s v) * (sums_in s v).leaves
      ≤ loads_owing s.pool.shape.block (deepest s v) (root_of s v)
      + s.pool.shape.block * (35 + 3 * deepest s v) * (sums_in t w).leaves

-- What a load left of its buffer: thin buffers stay thin, and the entry at which the buffer's keys begin has at
-- most as many operations as the load didn't take. The level rises only if a leaf came.
pub record LeavesRest (at : ℕ) (s t : RigState) (v w : Trunk) (path : List ℕ) : Type 0 where
  pub thin : (limit : ℕ) → 0 < limit → EachRead (IsThin limit) s v → EachRead (IsThin limit) t w
  pub left : EachRead (λ level lo hi b. level ≡ 1 → InRange lo hi (spot_low at s v path)
      → length b + min (length (spot_ops at s v path)) (wide_of s.pool.shape * s.pool.shape.block)
      ≤ length (spot_ops at s v path)) t w
  pub level : (sums_in t w).leaves ≤ (sums_in s v).leaves → w.level ≡ v.level

-- The same of an entry over a leaf, of which one load was taken. If a leaf came, a descent on each
-- level is paid for beside. If none came, the records that are stored then say what it owes, too.
pub record LoadedEntry (key : Record → Record) (step : Option Record → Record → Step)
    (IsOp IsKept : Record → Type 0) (at : ℕ) (s t : RigState) (v w : Trunk) (path : List ℕ)
    : Type 0 where
  pub works : (p : ℕ) → (IsTrue s.device.told
      → wide_of s.pool.shape * s.pool.shape.block ≤ length (spot_ops at s v path))
      → Works key step IsOp IsKept p (p + 2 * deepest s v + deepest s v * deepest s v
      * ((sums_in t w).leaves - (sums_in s v).leaves)) 0 0 s t v w
  pub owes : (p : ℕ) → Works key step IsOp IsKept p (p + 2 * deepest s v + deepest s v * deepest s v
      * ((sums_in t w).leaves - (sums_in s v).leaves))
      (s.pool.shape.block * leaf_debt at s v path) 0 s t v w
  pub one : (p : ℕ) → (IsTrue s.device.told → (sums_in t w).leaves ≡ (sums_in s v).leaves)
      → Works key step IsOp IsKept p p (6 * (sums_in t w).stored + s.pool.shape.block * 30) 0 s t v w
  pub owing : IsTrue s.device.told → LoadsOwing at s t v w path
  pub loads : IsTrue s.device.told
      → LoadsEntry (spot_low at s v path) (spot_high at s v path) s t v w
  pub rests : IsTrue s.device.told → LeavesRest at s t v w path
  pub keeps : KeepsTop v w

-- It gave up: its moves are paid for by the operations of a buffer that has as many as this, or, of one that has
-- any, a part of them is owed.
pub record StopsEntry (many debt at : ℕ) (s t : RigState) (v w : Trunk) (path : List ℕ)
    (fault : EmFault) : Type 0 where
  pub stops : (p : ℕ) → (IsTrue s.device.told → many ≤ length (spot_ops at s v path))
      → StopsWorking p 0 (unstored_most s) s t v w fault
  pub owes : (p : ℕ) → (IsTrue s.device.told → 1 ≤ length (spot_ops at s v path))
      → StopsWorking p debt (unstored_most s) s t v w fault

-- A load gave up: there are sums that the tree would have had. The records that were stored before say what it owes,
-- and no fewer would be stored; or a leaf had come.
pub record StopsHeld (at : ℕ) (s t : RigState) (v : Trunk) (path : List ℕ) : Type 0 where
  pub sums : Sums
  pub either : ((sums_in s v).stored ≤ sums.stored)
      × Charges s.pool.shape v.longest 0 (t.moves - s.moves) 0
      (6 * (sums_in s v).stored + s.pool.shape.block * 35) (sums_in s v) sums
      ⊎ ((sums_in s v).leaves + 1 ≤ sums.leaves)
      × Charges s.pool.shape v.longest 0 (t.moves - s.moves) 0
      (s.pool.shape.block * stop_debt at s v path) (sums_in s v) sums

-- what emptying an entry over a node did, by its result
abbrev pub LowersTo : {T : Type 0} → (Record → Record) → (Option Record → Record → Step)
    → (Record → Type 0) → (Record → Type 0) → ℕ → ℕ → RigState → RigState → Trunk → Trunk → List ℕ
    → Result T EmFault → Type 0
LowersTo key step IsOp IsKept l at s t v w path (Ok x) =
    EmptiedEntry key step IsOp IsKept l at s t v w path
LowersTo key step IsOp IsKept l at s t v w path (Err fault) =
    StopsEntry (full_limit s.pool.shape) (s.pool.shape.block * lower_debt at s v path) at s t v w path
    fault

-- what one load of an entry over a leaf did, by its result
abbrev pub LoadsTo : {T : Type 0} → (Record → Record) → (Option Record → Record → Step)
    → (Record → Type 0) → (Record → Type 0) → ℕ → RigState → RigState → Trunk → Trunk → List ℕ
    → Result T EmFault → Type 0
LoadsTo key step IsOp IsKept at s t v w path (Ok x) =
    LoadedEntry key step IsOp IsKept at s t v w path
LoadsTo key step IsOp IsKept at s t v w path (Err fault) =
    StopsEntry (full_limit s.pool.shape) (s.pool.shape.block * stop_debt at s v path) at s t v w path
    fault

-- what emptying an entry of level l + 1 did
abbrev pub EmptiesEntry : {T : Type 0} → (Record → Record) → (Option Record → Record → Step)
    → (Record → Type 0) → (Record → Type 0) → ℕ → ℕ → RigState → RigState → Trunk → Trunk → List ℕ
    → Result T EmFault → Type 0
EmptiesEntry key step IsOp IsKept zero at s t v w path result =
    LoadsTo key step IsOp IsKept at s t v w path result
EmptiesEntry key step IsOp IsKept (suc l) at s t v w path result =
    LowersTo key step IsOp IsKept (suc l) at s t v w path result

-- The full buffers of a level, among some keys, can be emptied, and those below after them: no
-- others below are full, and nothing waits over the level on the paths of these keys. Over leaves the
-- end of the keys divides no full entry's keys.
pub record CanClear (limit : ℕ) (d : Due) (s : RigState) (v : Trunk) : Type 0 where
  pub others : List Due
  pub over : AllOver d.level others
  pub full : EachRead (OnlyFull limit (IsDue (d ∷ others))) s v
  pub clear : EachRead (ClearOver d.level d.from d.until) s v
  pub sides : d.level ≡ 1 → EachRead (OnOneSide 1 limit d.until) s v

-- The buffers of a level can be emptied: nothing waits above it, and below it no buffer is full.
pub record CanSettleLevel (limit at : ℕ) (s : RigState) (v : Trunk) : Type 0 where
  pub above : EachRead (NoneFrom (at + 1)) s v
  pub below : EachRead (λ level lo hi b. level < at → length b < limit) s v

-- They were emptied: nothing waits in the level or above, and two levels below no buffer is full.
pub record SettlesLevel (limit at : ℕ) (t : RigState) (w : Trunk) : Type 0 where
  pub above : EachRead (NoneFrom at) t w
  pub below : EachRead (λ level lo hi b. level + 1 < at → length b < limit) t w
