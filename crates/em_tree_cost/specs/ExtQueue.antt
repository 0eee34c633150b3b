-- A queue that keeps a heap of at most `cap` items over a tree: what its calls say of its tree's.
use Rattle.std.specs.Prelude.{◌≡◌, ◌⊎◌, ℕ, ◌+◌, ◌-◌, ◌*◌, ◌≤◌, max}

-- The numbers of the queue.
pub record ExtQueueCounts : Type 0 where
  -- all calls; the most of them between two moments at which it has no item; those since the last
  -- one
  pub n : ℕ
  pub k : ℕ
  pub since : ℕ
  -- items in the heap, and in the tree
  pub heap : ℕ
  pub tree_len : ℕ
  -- n, k, since and z of the tree
  pub tree_n : ℕ
  pub tree_k : ℕ
  pub tree_since : ℕ
  pub z : ℕ
  -- items that went into the tree since the queue last had none
  pub pushed_since : ℕ
  -- how often a full heap gave half of its items to the tree
  pub spills : ℕ

-- These calls account for these pushes into the tree: the calls beside the pushes are at least the
-- heap's distance from half of `cap`; or nothing was pushed.
pub record CallsCover (cap heap pushes calls : ℕ) : Type 0 where
  pub above : 2 * pushes + 2 * heap ≤ 2 * calls + cap
  pub below : (pushes ≡ 0) × (heap ≤ calls) ⊎ (2 * pushes + cap ≤ 2 * calls + 2 * heap)

-- What ties the numbers of a queue to those of its tree. A spill gives `half` items to the tree.
pub record ExtQueueFits (cap half : ℕ) (q : ExtQueueCounts) : Type 0 where
  pub heap_most : q.heap ≤ cap
  pub all : CallsCover cap q.heap q.tree_n q.n
  pub now : CallsCover cap q.heap q.pushed_since q.since
  pub since_most : q.since ≤ q.k
  pub k_most : q.k ≤ q.n
  pub tree_k_most : q.tree_k ≤ q.k
  pub tree_k_few : q.tree_k ≤ q.tree_n
  pub tree_since_most : q.tree_since ≤ q.pushed_since
  pub tree_len_most : q.tree_len ≤ q.pushed_since
  pub pushed_since_most : q.pushed_since ≤ q.tree_n
  pub tree_none : q.tree_len ≡ 0 → q.tree_since ≡ 0
  pub spills_most : q.spills * half ≤ q.tree_n
  -- a tree with nothing in it gets spills alone
  pub resets_most : (q.tree_len ≡ 0) × (q.z ≤ q.spills) ⊎ (q.z + 1 ≤ q.spills)

-- a call was counted
abbrev pub after_call : ExtQueueCounts → ExtQueueCounts
after_call q = record q { n = q.n + 1; since = q.since + 1; k = max q.k (q.since + 1) }

-- a push went into the heap
abbrev pub after_heap_push : ExtQueueCounts → ExtQueueCounts
after_heap_push q = record (after_call q) { heap = q.heap + 1 }

-- a pop came out of the heap
abbrev pub after_heap_pop : ExtQueueCounts → ExtQueueCounts
after_heap_pop q = record (after_call q) { heap = q.heap - 1 }

-- i items went into the tree
abbrev pub after_tree_pushes : ℕ → ExtQueueCounts → ExtQueueCounts
after_tree_pushes i q = record q {
  tree_len = q.tree_len + i;
  tree_n = q.tree_n + i;
  tree_since = q.tree_since + i;
  tree_k = max q.tree_k (q.tree_since + i);
  pushed_since = q.pushed_since + i;
}

-- a push went into the tree
abbrev pub after_tree_push : ExtQueueCounts → ExtQueueCounts
after_tree_push q = after_tree_pushes 1 (after_call q)

-- a full heap gave its upper half to the tree; the call is counted afterwards
abbrev pub after_spill : ℕ → ExtQueueCounts → ExtQueueCounts
after_spill half q = record (after_tree_pushes half q) {
  heap = q.heap - half;
  spills = q.spills
      + 1;
}

-- the tree gave g items to an empty heap, and kept some
abbrev pub after_refill : ℕ → ExtQueueCounts → ExtQueueCounts
after_refill g q = record q { heap = g; tree_len = q.tree_len - g }

-- the tree gave its last g items to an empty heap
abbrev pub after_last_refill : ℕ → ExtQueueCounts → ExtQueueCounts
after_last_refill g q = record q { heap = g; tree_len = 0; tree_since = 0; z = q.z + 1 }

-- the queue has no item
abbrev pub after_last_item : ExtQueueCounts → ExtQueueCounts
after_last_item q = record q { since = 0; pushed_since = 0 }

-- before the first call
abbrev pub no_calls : ExtQueueCounts
no_calls = record {
  n = 0;
  k = 0;
  since = 0;
  heap = 0;
  tree_len = 0;
  tree_n = 0;
  tree_k = 0;
  tree_since = 0;
  z = 0;
  pushed_since = 0;
  spills = 0;
}
