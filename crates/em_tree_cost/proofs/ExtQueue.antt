-- A queue that keeps a heap over a tree: its events, and its share from that of the tree.
use Rattle.std.proofs.Common.{◌≡◌, ℕ, ◌+◌, ◌-◌, ◌*◌, ◌<◌, ◌≤◌, refl, arith, inl, inr, ⊎_elim}
use Rattle.std.proofs.Math.Nat.{mul-le-mul_right, mul-le-mul, le_of_mul-le-mul_right}
use Rattle.em_record.specs.Cost.{blocks_of}
use Rattle.em_record.specs.Shape.{ShapeNumbers, IsShape, wide_of}
use Rattle.em_record.proofs.Blocks.{blocks_rise}
use Rattle.em_record.proofs.Levels.{lev_rises}
use Rattle.em_tree_cost.specs.ExtQueue.{CallsCover, ExtQueueCounts, ExtQueueFits, after_call, after_heap_pop, after_heap_push, after_last_item, after_last_refill, after_refill, after_spill, after_tree_push, no_calls}
use Rattle.em_tree_cost.specs.Shares.{floors_of, queue_share, tree_share}
use Rattle.em_tree_cost.proofs.Ceilings.{blocks_ceil}
use Rattle.em_tree_cost.proofs.Levels.{size_is}

-- Pushes into the tree are no more than calls.
pub pushes_most : (cap heap pushes calls : ℕ) → CallsCover cap heap pushes calls → pushes ≤ calls
pushes_most cap heap pushes calls b = ⊎_elim
    (λ (n : (pushes ≡ 0) × (heap ≤ calls)). omega (arith, n.0))
    (λ (n : 2 * pushes + cap ≤ 2 * calls + 2 * heap). omega (arith, n, b.above))
    b.below

-- more calls were counted
cover_calls : (cap heap pushes calls next : ℕ) → calls ≤ next → CallsCover cap heap pushes calls
    → CallsCover cap heap pushes next
cover_calls cap heap pushes calls next h b = record {
  above = omega (arith, b.above, h);
  below = ⊎_elim
      (λ (n : (pushes ≡ 0) × (heap ≤ calls)). inl (n.0, omega (arith, n.1, h)))
      (λ (n : 2 * pushes + cap ≤ 2 * calls + 2 * heap). inr (omega (arith, n, h)))
      b.below;
}

-- a push went into the heap
cover_heap_push : (cap heap pushes calls : ℕ) → CallsCover cap heap pushes calls
    → CallsCover cap (heap + 1) pushes (calls + 1)
cover_heap_push cap heap pushes calls b = record {
  above = omega (arith, b.above);
  below = ⊎_elim
      (λ (n : (pushes ≡ 0) × (heap ≤ calls)). inl (n.0, omega (arith, n.1)))
      (λ (n : 2 * pushes + cap ≤ 2 * calls + 2 * heap). inr (omega (arith, n)))
      b.below;
}

-- a pop came out of the heap
cover_heap_pop : (cap heap pushes calls : ℕ) → CallsCover cap heap pushes calls
    → CallsCover cap (heap - 1) pushes (calls + 1)
cover_heap_pop cap heap pushes calls b = record {
  above = omega (arith, b.above);
  below = ⊎_elim
      (λ (n : (pushes ≡ 0) × (heap ≤ calls)). inl (n.0, omega (arith, n.1)))
      (λ (n : 2 * pushes + cap ≤ 2 * calls + 2 * heap). inr (omega (arith, n)))
      b.below;
}

-- a push went into the tree
cover_tree_push : (cap heap pushes calls : ℕ) → 1 ≤ pushes → CallsCover cap heap pushes calls
    → CallsCover cap heap (pushes + 1) (calls + 1)
cover_tree_push cap heap pushes calls some b = record {
  above = omega (arith, b.above);
  below = ⊎_elim
      (λ (n : (pushes ≡ 0) × (heap ≤ calls)). absurd (omega (arith, n.0, some)))
      (λ (n : 2 * pushes + cap ≤ 2 * calls + 2 * heap). inr (omega (arith, n)))
      b.below;
}

-- a full heap gave half of its items to the tree, rounded down
cover_spill : (cap heap half pushes calls : ℕ) → heap ≡ cap → 2 * half ≤ cap
    → CallsCover cap heap pushes calls
    → CallsCover cap (heap - half) (pushes + half) calls
cover_spill cap heap half pushes calls full h b = record {
  above = omega (arith, b.above, full, h);
  below = inr (⊎_elim
      (λ (n : (pushes ≡ 0) × (heap ≤ calls)). omega (arith, n.0, n.1, full, h))
      (λ (n : 2 * pushes + cap ≤ 2 * calls + 2 * heap). omega (arith, n, b.above, full, h))
      b.below);
}

-- an empty heap was filled from the tree
cover_refill : (cap g pushes calls : ℕ) → g ≤ cap → 1 ≤ pushes → CallsCover cap 0 pushes calls
    → CallsCover cap g pushes calls
cover_refill cap g pushes calls h some b = ⊎_elim
    (λ (n : (pushes ≡ 0) × (0 ≤ calls)). absurd (omega (arith, n.0, some)))
    (λ (n : 2 * pushes + cap ≤ 2 * calls + 2 * 0).
    record { above = omega (arith, n, h); below = inr (omega (arith, n)) })
    b.below

module _ (cap half : ℕ) where
  -- before the first call
  pub queue_new : ExtQueueFits cap half no_calls
  queue_new = record {
    heap_most = omega arith;
    all = record { above = omega arith; below = inl (refl, omega arith) };
    now = record { above = omega arith; below = inl (refl, omega arith) };
    since_most = omega arith;
    k_most = omega arith;
    tree_k_most = omega arith;
    tree_k_few = omega arith;
    tree_since_most = omega arith;
    tree_len_most = omega arith;
    pushed_since_most = omega arith;
    tree_none = λ e. refl;
    spills_most = omega arith;
    resets_most = inl (refl, omega arith);
  }

  module _ (q : ExtQueueCounts) (a : ExtQueueFits cap half q) where
    -- a call was counted, as one that is refused
    pub queue_call : ExtQueueFits cap half (after_call q)
    queue_call = record {
      heap_most = a.heap_most;
      all = cover_calls cap q.heap q.tree_n q.n (q.n + 1) (omega arith) a.all;
      now = cover_calls cap q.heap q.pushed_since q.since (q.since + 1) (omega arith) a.now;
      since_most = omega arith;
      k_most = omega (arith, a.k_most, a.since_most);
      tree_k_most = omega (arith, a.tree_k_most);
      tree_k_few = a.tree_k_few;
      tree_since_most = a.tree_since_most;
      tree_len_most = a.tree_len_most;
      pushed_since_most = a.pushed_since_most;
      tree_none = a.tree_none;
      spills_most = a.spills_most;
      resets_most = a.resets_most;
    }

    -- a push went into the heap
    pub queue_heap_push : q.heap + 1 ≤ cap → ExtQueueFits cap half (after_heap_push q)
    queue_heap_push h = record {
      heap_most = h;
      all = cover_heap_push cap q.heap q.tree_n q.n a.all;
      now = cover_heap_push cap q.heap q.pushed_since q.since a.now;
      since_most = omega arith;
      k_most = omega (arith, a.k_most, a.since_most);
      tree_k_most = omega (arith, a.tree_k_most);
      tree_k_few = a.tree_k_few;
      tree_since_most = a.tree_since_most;
      tree_len_most = a.tree_len_most;
      pushed_since_most = a.pushed_since_most;
      tree_none = a.tree_none;
      spills_most = a.spills_most;
      resets_most = a.resets_most;
    }

    -- a pop came out of the heap
    pub queue_heap_pop : ExtQueueFits cap half (after_heap_pop q)
    queue_heap_pop = record {
      heap_most = omega (arith, a.heap_most);
      all = cover_heap_pop cap q.heap q.tree_n q.n a.all;
      now = cover_heap_pop cap q.heap q.pushed_since q.since a.now;
      since_most = omega arith;
      k_most = omega (arith, a.k_most, a.since_most);
      tree_k_most = omega (arith, a.tree_k_most);
      tree_k_few = a.tree_k_few;
      tree_since_most = a.tree_since_most;
      tree_len_most = a.tree_len_most;
      pushed_since_most = a.pushed_since_most;
      tree_none = a.tree_none;
      spills_most = a.spills_most;
      resets_most = a.resets_most;
    }

    -- a push went into the tree, which has an item
    pub queue_tree_push : 1 ≤ q.tree_len → ExtQueueFits cap half (after_tree_push q)
    queue_tree_push h = record {
      heap_most = a.heap_most;
      all = cover_tree_push cap q.heap q.tree_n q.n
          (omega (arith, h, a.tree_len_most, a.pushed_since_most)) a.all;
      now = cover_tree_push cap q.heap q.pushed_since q.since
          (omega (arith, h, a.tree_len_most)) a.now;
      since_most = omega arith;
      k_most = omega (arith, a.k_most, a.since_most);
      tree_k_most = let s = pushes_most cap q.heap q.pushed_since q.since a.now in
          omega (arith, a.tree_k_most, a.tree_since_most, s);
      tree_k_few = omega (arith, a.tree_k_few, a.tree_since_most, a.pushed_since_most);
      tree_since_most = omega (arith, a.tree_since_most);
      tree_len_most = omega (arith, a.tree_len_most);
      pushed_since_most = omega (arith, a.pushed_since_most);
      tree_none = λ (e : q.tree_len + 1 ≡ 0). absurd (omega arith);
      spills_most = omega (arith, a.spills_most);
      resets_most = ⊎_elim
          (λ (n : (q.tree_len ≡ 0) × (q.z ≤ q.spills)). absurd (omega (arith, n.0, h)))
          (λ (n : q.z + 1 ≤ q.spills). inr n) a.resets_most;
    }

    -- a full heap gave its upper half to the tree
    pub queue_spill : q.heap ≡ cap → 2 * half ≤ cap → 1 ≤ half
        → ExtQueueFits cap half (after_spill half q)
    queue_spill full h some =
        let b = cover_spill cap q.heap half q.pushed_since q.since full h a.now in
        let s = pushes_most cap (q.heap - half) (q.pushed_since + half) q.since b in
        record {
          heap_most = omega (arith, a.heap_most);
          all = cover_spill cap q.heap half q.tree_n q.n full h a.all;
          now = b;
          since_most = a.since_most;
          k_most = a.k_most;
          tree_k_most = omega (arith, a.tree_k_most, a.tree_since_most, a.since_most, s);
          tree_k_few = omega (arith, a.tree_k_few, a.tree_since_most, a.pushed_since_most);
          tree_since_most = omega (arith, a.tree_since_most);
          tree_len_most = omega (arith, a.tree_len_most);
          pushed_since_most = omega (arith, a.pushed_since_most);
          tree_none = λ (e : q.tree_len + half ≡ 0). absurd (omega arith);
          spills_most = omega (arith, a.spills_most);
          resets_most = inr (⊎_elim
              (λ (n : (q.tree_len ≡ 0) × (q.z ≤ q.spills)). omega (arith, n.1))
              (λ (n : q.z + 1 ≤ q.spills). omega arith) a.resets_most);
        }

    -- the tree gave g items to an empty heap, and kept some
    pub queue_refill : (g : ℕ) → q.heap ≡ 0 → g < q.tree_len → g ≤ cap
        → ExtQueueFits cap half (after_refill g q)
    queue_refill g e h m =
        let all0 = rw e at a.all in let now0 = rw e at a.now in record {
          heap_most = m;
          all = cover_refill cap g q.tree_n q.n m
              (omega (arith, h, a.tree_len_most, a.pushed_since_most)) all0;
          now = cover_refill cap g q.pushed_since q.since m
              (omega (arith, h, a.tree_len_most)) now0;
          since_most = a.since_most;
          k_most = a.k_most;
          tree_k_most = a.tree_k_most;
          tree_k_few = a.tree_k_few;
          tree_since_most = a.tree_since_most;
          tree_len_most = omega (arith, a.tree_len_most);
          pushed_since_most = a.pushed_since_most;
          tree_none = λ (n : q.tree_len - g ≡ 0). absurd (omega arith);
          spills_most = a.spills_most;
          resets_most = ⊎_elim
              (λ (n : (q.tree_len ≡ 0) × (q.z ≤ q.spills)). absurd (omega (arith, n.0, h)))
              (λ (n : q.z + 1 ≤ q.spills). inr n) a.resets_most;
        }

    -- the tree gave its last g items to an empty heap
    pub queue_last_refill : (g : ℕ) → q.heap ≡ 0 → 1 ≤ q.tree_len → g ≤ cap
        → ExtQueueFits cap half (after_last_refill g q)
    queue_last_refill g e h m =
        let all0 = rw e at a.all in let now0 = rw e at a.now in record {
          heap_most = m;
          all = cover_refill cap g q.tree_n q.n m
              (omega (arith, h, a.tree_len_most, a.pushed_since_most)) all0;
          now = cover_refill cap g q.pushed_since q.since m
              (omega (arith, h, a.tree_len_most)) now0;
          since_most = a.since_most;
          k_most = a.k_most;
          tree_k_most = a.tree_k_most;
          tree_k_few = a.tree_k_few;
          tree_since_most = omega arith;
          tree_len_most = omega arith;
          pushed_since_most = a.pushed_since_most;
          tree_none = λ n. refl;
          spills_most = a.spills_most;
          resets_most = inl (
            refl,
            ⊎_elim
                (λ (n : (q.tree_len ≡ 0) × (q.z ≤ q.spills)). absurd (omega (arith, n.0, h)))
                (λ (n : q.z + 1 ≤ q.spills). n) a.resets_most,
          );
        }

    -- the queue has no item
    pub queue_last_item : q.heap ≡ 0 → q.tree_len ≡ 0 → ExtQueueFits cap half (after_last_item q)
    queue_last_item e h = record {
      heap_most = a.heap_most;
      all = a.all;
      now = record { above = omega (arith, e); below = inl (refl, omega (arith, e)) };
      since_most = omega arith;
      k_most = a.k_most;
      tree_k_most = a.tree_k_most;
      tree_k_few = a.tree_k_few;
      tree_since_most = let n = a.tree_none h in omega (arith, n);
      tree_len_most = omega (arith, h);
      pushed_since_most = omega arith;
      tree_none = a.tree_none;
      spills_most = a.spills_most;
      resets_most = a.resets_most;
    }

-- A queue over a tree that is within its share is within its own, `end` included.
pub queue_within : (shape : ShapeNumbers) (half spent y : ℕ) (q : ExtQueueCounts) → IsShape shape
    → ExtQueueFits (wide_of shape * shape.block) half q
    → wide_of shape * shape.block ≤ 2 * half + 1
    → y ≤ 1 → spent ≤ tree_share shape q.tree_n q.tree_k q.z y → spent ≤ queue_share shape q.n q.k
queue_within shape half spent y q is a h one s =
    let w = wide_of shape in let B = shape.block in
    let of_n = blocks_of shape q.n in let of_tree = blocks_of shape q.tree_k in
    let t = pushes_most (w * B) q.heap q.tree_n q.n a.all in
    let size = size_is shape is in
    let n = blocks_ceil shape q.n is in
    let bn = blocks_rise shape q.tree_n q.n is t in
    let bk = blocks_rise shape q.tree_k q.n is (omega (arith, a.tree_k_most, a.k_most)) in
    let lv = lev_rises shape of_tree (blocks_of shape q.k) is
    (blocks_rise shape q.tree_k q.k is a.tree_k_most) in
    let z : q.z ≤ q.spills = ⊎_elim
    (λ (n : (q.tree_len ≡ 0) × (q.z ≤ q.spills)). n.1)
    (λ (n : q.z + 1 ≤ q.spills). omega arith) a.resets_most in
    let w8 : 8 * B ≤ w * B = mul-le-mul_right B size.wide in
    let zs : q.z * (4 * B) ≤ q.spills * half =
    mul-le-mul {n₁ = q.z} {m₁ = 4 * B} {n₂ = q.spills} {m₂ = half} z (omega (arith, w8, h)) in
    let zb : 4 * q.z * B ≤ of_n * B = omega (arith, zs, a.spills_most, t, n.holds) in
    let z4 : 4 * q.z ≤ of_n = le_of_mul-le-mul_right zb (omega (arith, is.block_low)) in
    let yk : y * (of_tree + 1) ≤ 1 * (of_n + 1) =
    mul-le-mul {n₁ = y} {m₁ = of_tree + 1} {n₂ = 1} {m₂ = of_n + 1} one (omega arith) in
    let moves = 160 * (blocks_of shape q.tree_n + 1) + 64 * q.z + 64 * y * (of_tree + 1) in
    let whole : tree_share shape q.tree_n q.tree_k q.z y ≤ queue_share shape q.n q.k =
    mul-le-mul {n₁ = moves} {m₁ = floors_of shape q.tree_k}
    {n₂ = 240 * (of_n + 1)} {m₂ = floors_of shape q.k}
    (omega (arith, bn, z4, yk)) (omega (arith, lv)) in
    omega (arith, s, whole)
