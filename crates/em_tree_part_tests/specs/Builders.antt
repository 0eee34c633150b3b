-- A builder that gets pairs, and the tree that it makes, of which the rule is that of a map.
use Rattle.std.specs.Prelude.{◌≡◌, ℕ, ◌*◌, ◌<◌, ◌≤◌, IsTrue, Result, Ok, Err}
use Rattle.em_frames.specs.Pool.{LentFrames, SameFrames}
use Rattle.em_settle.specs.Map.{IsMapKept, IsMapOp, map_key_of}
use Rattle.em_settle.specs.declared.map.MapSettle.{MapSettle}
use Rattle.em_space.specs.Rig.{RigState, Sound}
use Rattle.em_space.specs.declared.fault.EmFault.{EmFault}
use Rattle.em_tree_cost.specs.Books.{adopted_counts}
use Rattle.em_trunk.specs.Trunk.{IsTrunk, counts_of}
use Rattle.em_trunk.specs.declared.trunk.Trunk.{Trunk}
use Rattle.em_tree.specs.declared.tree.Tree.{Tree}
use Rattle.em_bulk.specs.Building.{BuilderHasFrames, IsBuilder, pairs_in}
use Rattle.em_bulk.specs.Made.{TakesPairs}
use Rattle.em_bulk.specs.declared.builder.Builder.{Builder}

-- It has n pairs, with keys below 3 · n, which the rule takes, and six frames are free.
pub record HasPairs (t : RigState) (b : Builder) (n : ℕ) : Type 0 where
  pub sound : Sound t
  pub is : IsBuilder t b
  pub free : 6 ≤ t.pool.free
  pub count : b.count ≡ n
  pub below : 0 < n → b.last < 3 * n
  pub takes : IsTrue t.device.told → TakesPairs map_key_of IsMapKept (pairs_in t b)

-- It got them, and as many frames are free. The rig tells as much as before.
pub record GotPairs (s t : RigState) (b : Builder) (n : ℕ) : Type 0 where
  pub has : HasPairs t b n
  pub frames : SameFrames s.pool t.pool
  pub told : t.device.told ≡ s.device.told

-- A call gave up.
pub record GaveUp (s t : RigState) (b : Builder) : Type 0 where
  pub sound : Sound t
  pub frames : SameFrames s.pool t.pool
  pub has : BuilderHasFrames t b

-- the same by the result
abbrev pub GetsPairs : {T : Type 0} → RigState → RigState → Builder → ℕ → Result T EmFault → Type 0
GetsPairs s t b n (Ok x) = GotPairs s t b n
GetsPairs s t b n (Err fault) = GaveUp s t b

-- A tree of n pairs holds two frames.
pub record GotTree (s t : RigState) (v : Trunk) (n : ℕ) : Type 0 where
  pub sound : Sound t
  pub frames : LentFrames 2 s.pool t.pool
  pub told : t.device.told ≡ s.device.told
  pub is : IsTrunk map_key_of IsMapOp IsMapKept t v
  pub counts : counts_of v ≡ adopted_counts n

-- There is none, and all frames are back.
pub record GaveBack (s t : RigState) : Type 0 where
  pub sound : Sound t
  pub frames : SameFrames s.pool t.pool

-- the same by the result
abbrev pub GetsTree : RigState → RigState → ℕ → Result (Tree MapSettle) EmFault → Type 0
GetsTree s t n (Ok tree) = GotTree s t tree.trunk n
GetsTree s t n (Err fault) = GaveBack s t
