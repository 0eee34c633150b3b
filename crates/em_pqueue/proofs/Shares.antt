-- The moves of a tree within the share of its queue, also if a call was refused.
use Rattle.std.specs.Prelude.{◌≡◌, ℕ, ◌+◌, ◌*◌, ◌≤◌, IsTrue}
use Rattle.std.proofs.Common.{arith, sym, ap, subst, ◌∙◌}
use Rattle.std.proofs.Math.Nat.{mul-le-mul, mul-le-mul_left}
use Rattle.em_record.specs.Cost.{blocks_of}
use Rattle.em_record.specs.Shape.{IsShape, ShapeNumbers}
use Rattle.em_frames.specs.Pool.{load_of}
use Rattle.em_space.specs.Rig.{Goes, RigState}
use Rattle.em_tree_cost.specs.Books.{TreeCounts}
use Rattle.em_tree_cost.specs.ExtQueue.{ExtQueueCounts, ExtQueueFits, after_call}
use Rattle.em_tree_cost.specs.Shares.{floors_of, queue_share, tree_share}
use Rattle.em_tree_cost.proofs.Rising.{div_ceil_rises, floors_rise, queue_share_rises}
use Rattle.em_tree.specs.Calls.{KeepsShare}
use Rattle.em_trunk.specs.Trunk.{TrunkHasFrames}
use Rattle.em_pqueue.specs.ExtQueue.{ExtQueueHasFrames, Stands, half_of, queue_blocks, trunk_of}
use Rattle.em_pqueue.specs.QueueLaws.{share_of}
use Rattle.em_pqueue.specs.Steps.{SameCalls}
use Rattle.em_pqueue.specs.declared.queue.ExtQueue.{ExtQueue}

-- a tree's share rises with its numbers
tree_share_rises : (shape : ShapeNumbers) (m n j k z y : ℕ) → m ≤ n → j ≤ k
    → tree_share shape m j z y ≤ tree_share shape n k z y
tree_share_rises shape m n j k z y h i =
    let b = div_ceil_rises shape.block m n h in
    let c = div_ceil_rises shape.block j k i in
    let p : 64 * y * (blocks_of shape j + 1) ≤ 64 * y * (blocks_of shape k + 1) =
    mul-le-mul_left (64 * y) (omega (arith, c)) in
    mul-le-mul {n₁ = 160 * (blocks_of shape m + 1) + 64 * z + 64 * y * (blocks_of shape j + 1)}
    {m₁ = floors_of shape j}
    {n₂ = 160 * (blocks_of shape n + 1) + 64 * z + 64 * y * (blocks_of shape k + 1)}
    {m₂ = floors_of shape k} (omega (arith, b, p)) (floors_rise shape j k i)

-- A tree with at most these numbers, which fit, is within the share of its queue.
pub share_by : (shape : ShapeNumbers) (n : ExtQueueCounts) (c : TreeCounts) (calls longest : ℕ)
    → IsShape shape → ExtQueueFits (load_of shape) (half_of shape) n → c.n ≤ n.tree_n
    → c.k ≤ n.tree_k → c.z ≡ n.z → c.y ≡ 0 → c.counted ≡ 0 → n.n ≤ calls → n.k ≤ longest → KeepsShare shape c
    → c.spent ≤ queue_share shape calls longest
share_by shape n c calls longest is fits a b z y none d e s =
    let t = tree_share_rises shape (c.n + c.counted) n.tree_n c.k n.tree_k c.z c.y (omega (arith, a, none)) b in
    let u : c.spent ≤ tree_share shape n.tree_n n.tree_k c.z c.y = omega (arith, s.within, t) in
    let Z : ℕ → Type 0 = λ x. c.spent ≤ tree_share shape n.tree_n n.tree_k x c.y in
    let Y : ℕ → Type 0 = λ x. c.spent ≤ tree_share shape n.tree_n n.tree_k n.z x in
    let v : c.spent ≤ tree_share shape n.tree_n n.tree_k n.z 0 = subst Y y (subst Z z u) in
    let w = share_of shape n c.spent is fits v in
    let r = queue_share_rises shape n.n calls n.k longest d e in
    omega (arith, w, r)

-- The frames and numbers of a queue after a part of a call.
pub frames_after : (s t : RigState) (q w : ExtQueue) → Stands after_call s q → SameCalls q w
    → Goes (queue_blocks s q) s t → TrunkHasFrames t (trunk_of w)
    → w.heap.capacity ≡ q.heap.capacity
    → w.tree.trunk.spent + s.moves ≡ q.tree.trunk.spent + t.moves
    → (IsTrue s.device.told → w.tree.trunk.spent ≤ queue_share s.pool.shape w.calls w.longest)
    → ExtQueueHasFrames t w
frames_after s t q w st same goes f cap spent share =
    let n = st.shown in
    let fits = st.fits in
    record {
      tree = f;
      area = cap ∙ (st.area ∙ ap load_of (sym goes.touches.shape));
      out = omega (arith, st.out, goes.frames.free_areas);
      spent_most = omega (arith, spent, st.tree.running.numbers.spent_most);
      k_most = omega (arith, n.calls, n.longest, same.calls, same.longest, fits.k_most, fits.since_most);
      since_most = omega (arith, n.since, n.longest, same.since, same.longest);
      share = λ told. rw (goes.touches.shape) (share (sym goes.touches.told ∙ told));
    }
