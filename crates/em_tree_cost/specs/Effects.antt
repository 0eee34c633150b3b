-- The events of a tree: what each does to the counters, and what to the sums.
use Rattle.std.specs.Prelude.{◌≡◌, ℕ, ◌+◌, ◌-◌, ◌*◌, ◌≤◌, max}
use Rattle.em_tree_cost.specs.Counters.{Counters, Sums, parts_since}

-- an operation was pushed
abbrev pub after_pushing : Counters → Counters
after_pushing cs = record cs { n = cs.n + 1; since = cs.since + 1; k = max cs.k (cs.since + 1) }

-- x operations went a level down
abbrev pub after_lowering : ℕ → Counters → Counters
after_lowering x cs = record cs { lowered = cs.lowered + x }

-- x operations were loaded into a leaf
abbrev pub after_loading : ℕ → Counters → Counters
after_loading x cs = record cs { loaded = cs.loaded + x }

-- a leaf was split
abbrev pub after_splitting : Counters → Counters
after_splitting cs = record cs { splits = cs.splits + 1; splits_since = cs.splits_since + 1 }

-- g records were handed out; h are all those of a call that ends now and leaves some, or else 0
abbrev pub after_taking : ℕ → ℕ → Counters → Counters
after_taking g h cs = record cs {
  taken = cs.taken + g;
  left = cs.left + h;
  taken_since = cs.taken_since + g;
}

-- a leaf was taken away
abbrev pub after_removing : Counters → Counters
after_removing cs = record cs { removed_since = cs.removed_since + 1 }

-- `settle_all` or `finish` was called
abbrev pub after_settling : Counters → Counters
after_settling cs = record cs { y = cs.y + 1 }

-- the splits since the last reset are those of a settling, which pays for them
abbrev pub after_owning : Counters → Counters
after_owning cs = record cs {
  splits = cs.splits - cs.splits_since;
  splits_since = 0;
  settled = cs.settled + cs.splits_since;
  settled_since = cs.settled_since + cs.splits_since;
}

-- a reset: `take_first` left nothing. Each part since the last one may have its visit.
abbrev pub after_draining : Counters → Counters
after_draining cs = record cs {
  z = cs.z + 1;
  since = 0;
  visits_before = cs.visits_before + parts_since cs;
  splits_since = 0;
  removed_since = 0;
  taken_since = 0;
  brought = 0;
  settled_since = 0;
}

-- Between two moments nothing was handed out or taken away, and no reset came.
pub record StillTaken (cs ds : Counters) : Type 0 where
  pub taken : ds.taken ≡ cs.taken
  pub left : ds.left ≡ cs.left
  pub visits_before : ds.visits_before ≡ cs.visits_before
  pub removed_since : ds.removed_since ≡ cs.removed_since
  pub splits : ds.splits + cs.splits_since ≡ cs.splits + ds.splits_since

-- Nor did a settling end: leaves may have been split.
pub record OnlySplits (cs ds : Counters) : Type 0 where
  pub still : StillTaken cs ds
  pub brought : ds.brought ≡ cs.brought
  pub settled_since : ds.settled_since ≡ cs.settled_since

-- The root's buffer stayed.
pub record SameRoot (t u : Sums) : Type 0 where
  pub root : u.root ≡ t.root
  pub blocks : u.blocks ≡ t.blocks

-- No sum rose.
pub record SumsFall (t u : Sums) : Type 0 where
  pub level : u.level ≡ t.level
  pub leaves : u.leaves ≡ t.leaves
  pub waiting : u.waiting ≤ t.waiting
  pub weight : u.weight ≤ t.weight
  pub stored : u.stored ≤ t.stored
  pub excess : u.excess ≤ t.excess

-- An operation more waits, over all levels.
pub record SumsPush (t u : Sums) : Type 0 where
  pub level : u.level ≡ t.level
  pub leaves : u.leaves ≡ t.leaves
  pub waiting : u.waiting ≤ t.waiting + 1
  pub weight : u.weight ≤ t.weight + t.level
  pub stored : u.stored ≤ t.stored
  pub excess : u.excess ≤ t.excess

-- x operations went a level down.
pub record SumsLower (x : ℕ) (t u : Sums) : Type 0 where
  pub level : u.level ≡ t.level
  pub leaves : u.leaves ≡ t.leaves
  pub waiting : u.waiting ≤ t.waiting
  pub weight : u.weight + x ≤ t.weight
  pub stored : u.stored ≤ t.stored
  pub excess : u.excess ≤ t.excess

-- x operations were loaded into a leaf. Each left a record more in it at most.
pub record SumsLoad (x : ℕ) (t u : Sums) : Type 0 where
  pub level : u.level ≡ t.level
  pub leaves : u.leaves ≡ t.leaves
  pub waiting : u.waiting + x ≤ t.waiting
  pub weight : u.weight ≤ t.weight
  pub stored : u.stored ≤ t.stored + x
  pub excess : u.excess ≤ t.excess + x

-- A leaf was cut into two of at least 2 * w * B records each.
pub record SumsSplit (w B : ℕ) (t u : Sums) : Type 0 where
  pub level : u.level ≡ t.level
  pub leaves : u.leaves ≡ t.leaves + 1
  pub waiting : u.waiting ≤ t.waiting
  pub weight : u.weight ≤ t.weight
  pub stored : u.stored ≤ t.stored
  pub excess : u.excess + 2 * w * B ≤ t.excess

-- A new root stands over the two halves of the old one. Nothing waits in the root's buffer.
pub record SumsGrow (t u : Sums) : Type 0 where
  pub level : u.level ≡ t.level + 1
  pub leaves : u.leaves ≡ t.leaves
  pub waiting : u.waiting ≤ t.waiting
  pub weight : u.weight ≤ t.weight
  pub stored : u.stored ≤ t.stored
  pub excess : u.excess ≤ t.excess

-- g stored records were handed out.
pub record SumsTake (g : ℕ) (t u : Sums) : Type 0 where
  pub level : u.level ≡ t.level
  pub leaves : u.leaves ≡ t.leaves
  pub waiting : u.waiting ≤ t.waiting
  pub weight : u.weight ≤ t.weight
  pub stored : u.stored + g ≤ t.stored
  pub excess : u.excess ≤ t.excess

-- A leaf was taken away, with the nodes that it left empty. Another leaf is there.
pub record SumsRemove (t u : Sums) : Type 0 where
  pub level : u.level ≡ t.level
  pub leaves : u.leaves + 1 ≡ t.leaves
  pub some : 1 ≤ u.leaves
  pub waiting : u.waiting ≤ t.waiting
  pub weight : u.weight ≤ t.weight
  pub stored : u.stored ≤ t.stored
  pub excess : u.excess ≤ t.excess
