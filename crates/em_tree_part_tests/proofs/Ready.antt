-- Over a device that doesn't tell, a block is asked for its range alone, and a chain for its numbers.
use Rattle.std.proofs.Common.{◌≡◌, ℕ, ◌+◌, ◌-◌, ◌*◌, ◌/◌, ◌<◌, ◌≤◌, ◌^◌, ◌⊎◌, inl, inr, List, false, refl, sym, ap, subst, ◌∙◌, arith, Bool, IsTrue, Option, Some, Result, Ok, Err, IfOk}
use Rattle.std.proofs.lemmas.Bool.{false≢true}
use Rattle.em_record.specs.Shape.{ShapeNumbers}
use Rattle.em_record.specs.declared.record.Record.{Record}
use Rattle.em_frames.specs.Device.{DeviceState}
use Rattle.em_frames.specs.Pool.{IsWhole, PoolCounts, SameFrames, fresh_pool, load_of}
use Rattle.em_space.specs.Ledger.{Session}
use Rattle.em_space.specs.Rig.{RigState, Goes, InUse, Opens}
use Rattle.em_space.specs.declared.fault.EmFault.{EmFault}
use Rattle.em_chain.specs.Chain.{IsChain, empty_chain, word_list}
use Rattle.em_chain.specs.Effects.{LendsFrame}
use Rattle.em_chain.specs.View.{IsView}
use Rattle.em_chain.specs.Writer.{IsWriter}
use Rattle.em_chain.specs.declared.chain.Chain.{Chain}
use Rattle.em_chain.specs.declared.writer.Writer.{Writer}
use Rattle.em_node.specs.declared.entry.Entry.{Entry}
use Rattle.em_node.specs.Node.{HasLinks, IsLimited}
use Rattle.em_empty.specs.Node.{CanEmpty}
use Rattle.em_balance.specs.Fusing.{CanFusePair, FusesOrShares}
use Rattle.em_balance.specs.Node.{CanGrowUp, CanSplit, IsFreshEntry}
use Rattle.em_leaf.specs.Fusing.{CanFuse}
use Rattle.em_leaf.specs.Leaf.{IsHighChain, IsLeafChain}
use Rattle.em_tree_walk.specs.Inserted.{CanAdd}
use Rattle.em_tree_walk.specs.Stands.{LeadsToTree}
use Rattle.em_tree_walk.specs.Taken.{HasPlace}
use Rattle.em_tree_load.specs.FirstLeaves.{CanFindFirst}
use Rattle.em_tree_load.specs.LeafLoads.{CanLoadLeaf}
use Rattle.em_tree_load.specs.LeafTakes.{CanTakeLeaf}
use Rattle.em_tree_load.specs.Releases.{CanRelease}
use Rattle.em_tree_load.specs.Removals.{CanRemoveFirst}
use Rattle.em_tree_walk.specs.SplitPaths.{CanSplitUp}
use Rattle.em_tree_walk.specs.declared.splitting.Root.{Root}
use Rattle.em_devices.specs.Small.{small}
use Rattle.em_tree_part_tests.specs.Ready.{IsReady, IsSmall, Keeps}

-- nothing is asked of what such a device tells
never : {P : Type 0} {b : Bool} → b ≡ false → IsTrue b → P
never e z = absurd (false≢true (sym e ∙ z))

-- What calls left.
pub keeps_goes : {held : List ℕ} {s t : RigState} → Goes held s t → Keeps s t
keeps_goes g = record {
  sound = g.sound;
  told = g.touches.told;
  blocks = g.touches.blocks;
  frames = g.frames;
}

pub keeps_session : {held ks : List ℕ} {s t : RigState} → Session held s t ks
    → SameFrames s.pool t.pool → Keeps s t
keeps_session g f = record {
  sound = g.sound;
  told = g.touches.told;
  blocks = g.touches.blocks;
  frames = f;
}

-- A rig is still ready.
pub small_kept : {s t : RigState} → IsSmall s → Keeps s t → IsSmall t
small_kept r k = record {
  sound = k.sound;
  untold = k.told ∙ r.untold;
  block = ap (λ (z : ShapeNumbers). z.block) k.frames.shape ∙ r.block;
  frames = ap (λ (z : ShapeNumbers). z.frames) k.frames.shape ∙ r.frames;
  free = let e = k.frames.free in let f = r.free in omega (arith, e, f);
}

-- A writer was begun, and calls after it left its frame alone.
pub small_lent : {held ks : List ℕ} {s t u : RigState} → IsSmall s → 41 ≤ s.pool.free → LendsFrame s t
    → Session held t u ks → SameFrames t.pool u.pool → IsSmall u
small_lent r more l w f = record {
  sound = w.sound;
  untold = w.touches.told ∙ l.touches.told ∙ r.untold;
  block = ap (λ (z : ShapeNumbers). z.block) (f.shape ∙ l.frames.shape) ∙ r.block;
  frames = ap (λ (z : ShapeNumbers). z.frames) (f.shape ∙ l.frames.shape) ∙ r.frames;
  free = let e = f.free in let g = l.frames.free in omega (arith, e, g, more);
}

pub ready_kept : {s t : RigState} → IsReady s → Keeps s t → IsReady t
ready_kept r k = record {
  small = small_kept r.small k;
  free = k.frames.free ∙ r.free;
  areas = k.frames.free_areas ∙ r.areas;
  rack = k.frames.rack ∙ r.rack;
}

-- a block that a call took, after a call that keeps the number of blocks
pub below_after : {m n : ℕ} (result : Result ℕ EmFault) → n ≡ m → IfOk result (λ k. k < m)
    → IfOk result (λ k. k < n)
below_after (Ok k) e u = rw e u
below_after (Err f) e u = tt

pub ruleset kept = (keeps_goes, keeps_session, small_kept, ready_kept, below_after)

pub in_use : {s : RigState} {k : ℕ} → IsSmall s → k < s.blocks → InUse s k
in_use r h = record { told = never r.untold; untold = λ z. h }

pub leads : {s : RigState} {level k : ℕ} → IsSmall s → k < s.blocks → LeadsToTree s level k
leads r h = record { in_use = in_use r h; told = never r.untold }

pub has_place : {s : RigState} {level k i : ℕ} → IsSmall s → k < s.blocks → HasPlace s level k i
has_place r h = record { leads = leads r h; one = never r.untold }

pub can_add : {s : RigState} {level k i : ℕ} {new : Entry} → IsSmall s → k < s.blocks
    → IsLimited new → HasLinks s.blocks new → CanAdd s level k i new
can_add r h limited linked = record {
  leads = leads r h;
  limited = limited;
  linked = linked;
  told = never r.untold;
}

pub can_halve : {s : RigState} {k : ℕ} → IsSmall s → k < s.blocks → CanSplit s k
can_halve r h = record { in_use = in_use r h; told = never r.untold }

pub limited_fresh : {e : Entry} → e.buffer ≡ word_list empty_chain → IsLimited e
limited_fresh h = record {
  words = rw h refl;
  count = rw h (omega arith);
  blocks = rw h (omega arith);
}

pub can_grow : {s : RigState} {n k : ℕ} {upper : Entry} → IsSmall s → k < s.blocks
    → IsFreshEntry n upper → CanGrowUp s k upper
can_grow r h f = record {
  in_use = in_use r h;
  limited = limited_fresh f.empty;
  told = never r.untold;
}

pub can_empty : {s : RigState} {k : ℕ} {c : Chain} → IsSmall s → k < s.blocks → IsChain s c
    → CanEmpty s k c
can_empty r h is = record { in_use = in_use r h; chain = is; told = never r.untold }

pub can_split : {s : RigState} {root : Root} {key : Record} → IsSmall s → root.block < s.blocks
    → 0 < root.level → root.level ≤ 24 → CanSplitUp s root key
can_split r h some most = record {
  path = record { leads = leads r h; told = never r.untold };
  some = some;
  most = most;
  last = never r.untold;
}

pub can_release : {s : RigState} {level k : ℕ} → IsSmall s → k < s.blocks → CanRelease s level k
can_release r h = record { leads = leads r h; told = never r.untold }

pub can_load : {key : Record → Record} {s : RigState} {k i : ℕ} {w : Writer} → IsSmall s
    → k < s.blocks → IsWriter s w → CanLoadLeaf key s k i w
can_load r h is = record { in_use = in_use r h; writer = is; told = never r.untold }

pub can_find : {s : RigState} {level k : ℕ} → IsSmall s → k < s.blocks → CanFindFirst s level k
can_find r h = record { leads = leads r h; few = never r.untold }

pub can_take : {s : RigState} {k : ℕ} {c : Chain} → IsSmall s → k < s.blocks → IsLeafChain s c
    → CanTakeLeaf s k c
can_take r h is = record { in_use = in_use r h; chain = is; told = never r.untold }

pub can_remove : {s : RigState} {level k : ℕ} → IsSmall s → k < s.blocks
    → CanRemoveFirst s level k
can_remove r h = record { leads = leads r h; told = never r.untold }

pub can_pair : {s : RigState} {k i : ℕ} → IsSmall s → k < s.blocks → CanFusePair s k i
can_pair r h = record { in_use = in_use r h; told = never r.untold }

-- What fusing two nodes left, by its result.
pub keeps_pair : {T : Type 0} (s t : RigState) (k i : ℕ) (result : Result T EmFault)
    → FusesOrShares s t k i result → Keeps s t
keeps_pair s t k i (Ok x) (inl h) = keeps_session h.runs.session h.runs.frames
keeps_pair s t k i (Ok x) (inr h) = keeps_session h.runs.session h.runs.frames
keeps_pair s t k i (Err e) h = keeps_goes h.stops.goes

-- a list by its numbers
pub is_chain : {s : RigState} {c : Chain} → IsSmall s → c.count ≤ 2 ^ 56 → c.blocks ≤ 2 ^ 56
    → IsChain s c
is_chain r m n = record { count_most = m; blocks_most = n; told = never r.untold }

few_most : (n m b : ℕ) → m ≡ 64 → b ≡ 128 → n ≤ 4096 → n ≤ 4 * (m / 4 / 2 * b)
few_most n m b p q h = rw (p, q) h

few_short : (n m b : ℕ) → m ≡ 64 → b ≡ 128 → n < 1024 → n < m / 4 / 2 * b
few_short n m b p q h = rw (p, q) h

one_short : {s : RigState} (n m : ℕ) → IsSmall s → (n < 1024) ⊎ (m < 1024)
    → (n < load_of s.pool.shape) ⊎ (m < load_of s.pool.shape)
one_short {s} n m r (inl h) = inl (few_short n s.pool.shape.frames s.pool.shape.block r.frames r.block h)
one_short {s} n m r (inr h) = inr (few_short m s.pool.shape.frames s.pool.shape.block r.frames r.block h)

-- two leaves' lists, of which one is short
pub can_fuse : {key : Record → Record} {s : RigState} {low high : Chain} → IsSmall s
    → low.count ≤ 4096 → low.blocks ≤ 4096 → high.count ≤ 4096 → high.blocks ≤ 4096
    → (low.count < 1024) ⊎ (high.count < 1024) → CanFuse key s low high
can_fuse {key} {s} {low} {high} r m n p q short = record {
  low_chain = is_chain r (omega arith) (omega arith);
  high_chain = is_chain r (omega arith) (omega arith);
  low_most = few_most low.count s.pool.shape.frames s.pool.shape.block r.frames r.block m;
  high_most = few_most high.count s.pool.shape.frames s.pool.shape.block r.frames r.block p;
  room = record { count = omega arith; blocks = omega arith };
  short = one_short low.count high.count r short;
  lists = never r.untold;
}

-- a list that is read
pub is_view : {s : RigState} {c : Chain} → IsSmall s → c.count ≤ 2 ^ 56 → c.blocks ≤ 2 ^ 56
    → IsView s c
is_view r m n = record { count_most = m; blocks_most = n; told = never r.untold }

-- the list of a high part
pub is_high : {s : RigState} {o : Option (Record × Chain)} {p : Record × Chain} → IsSmall s
    → o ≡ Some p → IsHighChain s o → IsView s p.1
is_high {s} {o} {p} r e h =
    let P : Option (Record × Chain) → Type 0 = IsHighChain s in
    let c = subst P e h in is_view r c.chain.count_most c.chain.blocks_most

-- A rig is ready when it was opened,
pub ready_opened : {d : DeviceState} {n : ℕ} {t : RigState} → d.told ≡ false
    → Opens d (fresh_pool small) n t → IsReady t
ready_opened {d} {n} {t} h o =
    let free : t.pool.free ≡ 48 = ap (λ (z : PoolCounts). z.free) o.pool_is in
    record {
      small = record {
        sound = o.sound;
        untold = o.told ∙ h;
        block = ap (λ (z : PoolCounts). z.shape.block) o.pool_is;
        frames = ap (λ (z : PoolCounts). z.shape.frames) o.pool_is;
        free = omega (arith, free);
      };
      free = free;
      areas = ap (λ (z : PoolCounts). z.free_areas) o.pool_is;
      rack = ap (λ (z : PoolCounts). z.rack_out) o.pool_is;
    }

none_out : (m f a : ℕ) → m ≡ 64 → f ≡ 48 → a ≡ 2 → (3 * (m / 4) - f) + (m / 4 / 2) * (2 - a) ≡ 0
none_out m f a p q r = rw (p, q, r) refl

-- and whole when it is ready.
pub whole_ready : {s : RigState} → IsReady s → IsWhole s.pool
whole_ready {s} r = record {
  frames = none_out s.pool.shape.frames s.pool.free s.pool.free_areas r.small.frames r.free r.areas;
  rack = r.rack;
}
