-- What happened to a tree since it was made, as numbers; what stands in it, as sums over its parts;
-- and what ties the two.
use Rattle.std.specs.Prelude.{◌≡◌, ◌⊎◌, ℕ, ◌+◌, ◌*◌, ◌^◌, ◌≤◌, max}

-- The counters of a tree. Code carries the first five, and the records that it was adopted with; the others are for the
-- proof alone. A reset is a call of `take_first` that leaves nothing. A tree of `new` was adopted with nothing.
pub record Counters : Type 0 where
  -- operations pushed: all; the most of them between two resets; those since the last reset
  pub n : ℕ
  pub k : ℕ
  pub since : ℕ
  -- resets; calls of `settle_all` and `finish`
  pub z : ℕ
  pub y : ℕ
  -- how often an operation went a level down
  pub lowered : ℕ
  -- operations that were loaded into a leaf
  pub loaded : ℕ
  -- leaves that were split at the expense of operations: all, and those since the last reset
  pub splits : ℕ
  pub splits_since : ℕ
  -- leaves taken away since the last reset; and one for each part before it
  pub removed_since : ℕ
  pub visits_before : ℕ
  -- records handed out: all; those of calls that left some; those since the last reset
  pub taken : ℕ
  pub left : ℕ
  pub taken_since : ℕ
  -- what came with a tree that was adopted: its records; its leaves, or 0 if one came alone; the same until a reset, then 0
  pub adopted : ℕ
  pub old : ℕ
  pub brought : ℕ
  -- leaves that were split at the expense of `settle_all` or `finish`: all, and those since the last reset
  pub settled : ℕ
  pub settled_since : ℕ

-- The sums over the parts of a tree.
pub record Sums : Type 0 where
  -- the level of the root: 1 over leaves
  pub level : ℕ
  -- operations in buffers; how many levels they have still to go down, together
  pub waiting : ℕ
  pub weight : ℕ
  -- records in leaves; what leaves hold above 2 * w * B records each, together
  pub stored : ℕ
  pub excess : ℕ
  pub leaves : ℕ
  -- the root's buffer: its operations and its blocks
  pub root : ℕ
  pub blocks : ℕ

-- Parts of w · B records: a leaf that came with the tree has one, and a split two. So many leaves may be taken away.
abbrev pub parts_of : Counters → ℕ
parts_of cs = cs.old + 2 * (cs.splits + cs.settled)

-- the same since the last reset
abbrev pub parts_since : Counters → ℕ
parts_since cs = cs.brought + 2 * (cs.splits_since + cs.settled_since)

-- The numbers of a tree of at most L levels. Adopted records don't go down, and aren't loaded.
pub record FitsSums (w B L : ℕ) (cs : Counters) (t : Sums) : Type 0 where
  -- all that is there or was handed out had been pushed or adopted, ever and since the reset
  pub all_pushed : t.waiting + t.stored + cs.taken ≤ cs.n + cs.adopted
  pub since_pushed : t.waiting + t.stored + cs.taken_since ≤ cs.since
  pub since_most : cs.since ≤ cs.k
  pub k_most : cs.k ≤ cs.n + cs.adopted
  pub adopted_most : cs.adopted ≤ cs.k
  -- no operation goes down more than L levels, or into two leaves
  pub lowered_most : cs.lowered + t.weight ≤ cs.n * L
  pub loaded_most : cs.loaded + t.waiting ≤ cs.n
  -- a part stands for w * B records
  pub parts_most : w * B * parts_of cs + t.excess + t.waiting ≤ cs.n + cs.adopted
  pub parts_since_most : w * B * parts_since cs + t.excess + t.waiting ≤ cs.since
  -- a leaf came by adoption or by a split, and goes by a removal
  pub leaves_are : t.leaves + cs.removed_since ≡ max 1 cs.brought + (cs.splits_since + cs.settled_since)
  pub leaves_some : 1 ≤ t.leaves
  pub visits_most : cs.visits_before + parts_since cs ≤ parts_of cs
  pub left_most : cs.left ≤ cs.taken
  -- what is there since the reset is a part of all
  pub brought_most : cs.brought ≤ cs.old
  pub splits_most : cs.splits_since ≤ cs.splits
  pub settled_most : cs.settled_since ≤ cs.settled

-- What parts, and a call that left some, need: small trees have one leaf and leave nothing.
pub record FitsNeeds (w B k parts left : ℕ) : Type 0 where
  pub parts_need : (parts ≡ 0) ⊎ (2 * w * B ≤ k)
  pub left_need : (left ≡ 0) ⊎ (w * B ≤ 2 * k)

-- The root's level: one more needs 2 * w times as many records, and two parts since the reset.
pub record FitsRoot (w B k since level : ℕ) : Type 0 where
  pub level_some : 1 ≤ level
  pub level_most : (level ≡ 1) ⊎ (B * (2 * w) ^ level ≤ 2 * k)
  pub level_parts : (level ≡ 1) ⊎ (2 ≤ since)

-- What ties counters and sums of a tree of at most L levels.
pub record CountersFit (w B L : ℕ) (cs : Counters) (t : Sums) : Type 0 where
  pub sums : FitsSums w B L cs t
  pub needs : FitsNeeds w B cs.k (parts_of cs) cs.left
  pub root : FitsRoot w B cs.k (parts_since cs) t.level

-- Before the first call of `take_first` nothing was handed out or taken away, no reset came, and for each split that no
-- settling paid for w * B operations don't wait any more.
pub record Untaken (w B : ℕ) (cs : Counters) (t : Sums) : Type 0 where
  pub paid : w * B * cs.splits + t.waiting ≤ cs.n
  pub whole : cs.splits ≡ cs.splits_since
  pub taken : cs.taken ≡ 0
  pub left : cs.left ≡ 0
  pub visits : cs.visits_before + cs.removed_since ≡ 0

-- before the first push
abbrev pub no_counters : Counters
no_counters = record {
  n = 0;
  k = 0;
  since = 0;
  z = 0;
  y = 0;
  lowered = 0;
  loaded = 0;
  splits = 0;
  splits_since = 0;
  removed_since = 0;
  visits_before = 0;
  taken = 0;
  left = 0;
  taken_since = 0;
  adopted = 0;
  old = 0;
  brought = 0;
  settled = 0;
  settled_since = 0;
}

-- a tree was adopted with p records, in so many leaves if these are two or more, else 0
abbrev pub adopted_counters : (p leaves : ℕ) → Counters
adopted_counters p leaves = record no_counters { k = p; since = p; adopted = p; old = leaves; brought = leaves }

-- a tree with one node over one empty leaf
abbrev pub fresh_sums : Sums
fresh_sums = record {
  level = 1;
  waiting = 0;
  weight = 0;
  stored = 0;
  excess = 0;
  leaves = 1;
  root = 0;
  blocks = 0;
}
