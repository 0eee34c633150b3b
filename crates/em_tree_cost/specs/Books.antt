-- The numbers that a tree carries at run time, with counters that fit them.
use Rattle.std.specs.Prelude.{◌≡◌, ◌⊎◌, ℕ, ◌+◌, ◌*◌, ◌<◌, ◌≤◌, ◌^◌, max}
use Rattle.em_record.specs.Shape.{ShapeNumbers, wide_of}
use Rattle.em_tree_cost.specs.Counters.{Counters, Sums, Untaken, parts_since}
use Rattle.em_tree_cost.specs.Paid.{PaidFor}

-- The numbers of a tree. A reset is a call of `take_first` that leaves nothing.
pub record TreeCounts : Type 0 where
  -- all operations pushed; the most of them between two resets, or since the last one; those since then. The latter two
  -- count the adopted records too, until the first reset.
  pub n : ℕ
  pub k : ℕ
  pub since : ℕ
  -- the moves made in its calls
  pub spent : ℕ
  -- resets; calls of `settle_all` and `finish`
  pub z : ℕ
  pub y : ℕ
  -- the records that it was adopted with; and as many of them as the share counts: none before the first call of
  -- `take_first`, and then all
  pub adopted : ℕ
  pub counted : ℕ

-- There are counters that these numbers show, and by them the tree's moves are paid for but for
-- `more`.
pub record KeepsBooks (shape : ShapeNumbers) (c : TreeCounts) (more : ℕ) (t : Sums) : Type 0 where
  pub counters : Counters
  pub n : counters.n ≡ c.n
  pub k : counters.k ≡ c.k
  pub since : counters.since ≡ c.since
  pub z : counters.z ≡ c.z
  pub y : counters.y ≡ c.y
  pub adopted : counters.adopted ≡ c.adopted
  pub few : c.n < 2 ^ 101
  pub few_adopted : c.adopted ≤ 2 ^ 100
  pub paid : PaidFor shape c.spent more counters t

-- The share counts all adopted records; or none, if no call of `take_first` came.
abbrev pub IsCounted : ShapeNumbers → TreeCounts → Counters → Sums → Type 0
IsCounted shape c cs t =
    (c.counted ≡ c.adopted) ⊎ (c.counted ≡ 0) × Untaken (wide_of shape) shape.block cs t

-- At an exit that is Ok nothing is owed.
pub record Balanced (shape : ShapeNumbers) (c : TreeCounts) (t : Sums) : Type 0 where
  pub books : KeepsBooks shape c 0 t
  pub counted : IsCounted shape c books.counters t

-- The same inside a call that has handed out h records so far. Since the reset r leaves were split, or more, or came with the
-- tree beside another.
pub record InCall (shape : ShapeNumbers) (c : TreeCounts) (more h r : ℕ) (t : Sums) : Type 0 where
  pub books : KeepsBooks shape c more t
  pub taken : books.counters.left + h ≤ books.counters.taken
  pub taken_since : h ≤ books.counters.taken_since
  pub parts : 2 * r ≤ parts_since books.counters

-- A leaf was split since the reset, or came beside another: it is known, or two are there, or two levels.
pub record WasSplit (r : ℕ) (t : Sums) : Type 0 where
  pub some : (1 ≤ r) ⊎ (2 ≤ t.leaves) ⊎ (2 ≤ t.level)

-- a push was counted, with m moves
abbrev pub count_push : ℕ → TreeCounts → TreeCounts
count_push m c = record c {
  n = c.n + 1;
  k = max c.k (c.since + 1);
  since = c.since + 1;
  spent = c.spent + m;
}

-- a call of `take_first` left nothing
abbrev pub count_drain : ℕ → TreeCounts → TreeCounts
count_drain m c = record c { since = 0; z = c.z + 1; spent = c.spent + m }

-- from the first call of `take_first` on all adopted records count
abbrev pub count_all : TreeCounts → TreeCounts
count_all c = record c { counted = c.adopted }

-- m moves more
abbrev pub count_moves : ℕ → TreeCounts → TreeCounts
count_moves m c = record c { spent = c.spent + m }

-- a call of `settle_all` or `finish`
abbrev pub count_settle : ℕ → TreeCounts → TreeCounts
count_settle m c = record c { y = c.y + 1; spent = c.spent + m }

-- a tree of which nothing was asked
abbrev pub no_counts : TreeCounts
no_counts = record {
  n = 0;
  k = 0;
  since = 0;
  spent = 0;
  z = 0;
  y = 0;
  adopted = 0;
  counted = 0;
}

-- a tree that was adopted with p records
abbrev pub adopted_counts : ℕ → TreeCounts
adopted_counts p = record no_counts { k = p; since = p; adopted = p }
