-- The room of a queue: that of its tree, of one part of a call and of several.
use Rattle.std.specs.Prelude.{◌≡◌, ℕ, ◌+◌, ◌<◌, ◌≤◌, List, [], length, IsTrue}
use Rattle.std.proofs.Common.{arith, ap, length-drop}
use Rattle.em_record.specs.Shape.{IsShape, ShapeNumbers, payload_of}
use Rattle.em_chain.specs.Counts.{ceiling}
use Rattle.em_chain.specs.List.{items_in}
use Rattle.em_chain.specs.Writer.{writer_contents}
use Rattle.em_space.specs.Rig.{RigState, Sound}
use Rattle.em_space.specs.declared.fault.EmFault.{EmFault}
use Rattle.em_space.proofs.Ledgers.{full_by}
use Rattle.em_tree_cost.specs.Shares.{tree_room}
use Rattle.em_tree_cost.proofs.Ceilings.{ceil_mono, ceil_none, ceiling_is}
use Rattle.em_tree_cost.proofs.Rising.{tree_room_rises}
use Rattle.em_trunk.specs.Room.{FullOverRoom, WithinRoom}
use Rattle.em_trunk.specs.Trunk.{given_by, trunk_blocks}
use Rattle.em_trunk.specs.declared.trunk.Trunk.{Trunk}
use Rattle.em_trunk.proofs.Rooms.{answers_blocks}
use Rattle.em_pqueue.specs.ExtQueue.{IsBagTree}
use Rattle.em_pqueue.specs.Room.{QueueHolds, QueueOver}
use Rattle.em_tree.proofs.RoomCalls.{rest_room}

module _ {s : RigState} {v : Trunk} (i : IsBagTree s v) (is : IsShape s.pool.shape)
    (told : IsTrue s.device.told) (none : given_by s v ≡ []) where
  -- A tree that gave no answer holds no block of them.
  none_blocks : v.answers.blocks ≡ 0
  none_blocks =
      let P = payload_of s.pool.shape in
      let low = is.block_low in
      let some : 0 < P = omega (arith, low) in
      let b = answers_blocks i.running is told in
      let h = ((i.running.answers).told told).list.count_is in
      let n = length-drop v.answers.skip (items_in (writer_contents s v.answers)) in
      let z = ap length none in
      let few : v.answers.count ≤ 0 = omega (arith, h, n, z) in
      let rises = ceil_mono (ceiling v.answers.count P) 0 P v.answers.count 0
      (ceiling_is v.answers.count P some) (ceil_none P some) few in
      omega (arith, b, rises)

  -- Its room is the queue's, also of a greater k.
  pub holds_within : {t : RigState} {j k : ℕ} → j ≤ k → WithinRoom j s t v
      → QueueHolds k (trunk_blocks s v) s t
  holds_within {j = j} {k = k} h r =
      let m = r.most in
      let b = none_blocks in
      let rises = tree_room_rises s.pool.shape j k h in
      record { most = omega (arith, m, b, rises) }

  pub over_within : {fault : EmFault} {j k : ℕ} → j ≤ k → FullOverRoom j s v fault
      → QueueOver k (trunk_blocks s v) s fault
  over_within {fault = fault} {j = j} {k = k} h r =
      let held = length (trunk_blocks s v) in
      let b = none_blocks in
      let rises = tree_room_rises s.pool.shape j k h in
      record {
        full = full_by fault (s.blocks + held < s.used + (tree_room s.pool.shape j + v.answers.blocks))
            (s.blocks + held < s.used + tree_room s.pool.shape k)
            (λ f. omega (arith, f, b, rises)) r.full;
      }

-- Nothing was done, or nothing with blocks.
pub holds_none : {k : ℕ} {held : List ℕ} {s t : RigState} → t.most ≡ s.most → QueueHolds k held s t
holds_none same = record { most = omega (arith, same) }

module _ {k : ℕ} {held ks : List ℕ} {s t : RigState} (shape : t.pool.shape ≡ s.pool.shape)
    (loses : t.used + length held ≡ s.used + length ks) where
  -- One part of a call after another,
  pub holds_then : {u : RigState} → QueueHolds k held s t → QueueHolds k ks t u → QueueHolds k held s u
  holds_then h g =
      let a = h.most in
      let b = g.most in
      let e = ap (λ (p : ShapeNumbers). tree_room p k) shape in
      record { most = omega (arith, a, b, e, loses) }

  -- of which the last was full.
  pub over_then : {fault : EmFault} → t.blocks ≡ s.blocks → QueueOver k ks t fault
      → QueueOver k held s fault
  over_then {fault} same g =
      let e = ap (λ (p : ShapeNumbers). tree_room p k) shape in
      record {
        full = full_by fault (t.blocks + length ks < t.used + tree_room t.pool.shape k)
            (s.blocks + length held < s.used + tree_room s.pool.shape k)
            (λ f. omega (arith, f, e, loses, same)) g.full;
      }

-- The blocks of a tree between two calls are within the room.
pub holds_rest : {s : RigState} {v : Trunk} (k : ℕ) → Sound s → IsBagTree s v → IsTrue s.device.told
    → given_by s v ≡ [] → v.longest ≤ k → length (trunk_blocks s v) ≤ tree_room s.pool.shape k
holds_rest {s} {v} k sound i told none m =
    let b = none_blocks i sound.shape told none in
    let a = rest_room sound i told in
    let r = tree_room_rises s.pool.shape v.longest k m in
    omega (arith, a, b, r)
