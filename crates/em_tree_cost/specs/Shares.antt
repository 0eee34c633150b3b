-- The shares of the layers: the most moves that a value's calls make together. And the most blocks
-- that a tree or a segment tree holds.
use Rattle.std.specs.Prelude.{ℕ, ◌+◌, ◌*◌, max}
use Rattle.std.specs.Int.{div_ceil}
use Rattle.em_record.specs.Cost.{blocks_of, lev}
use Rattle.em_record.specs.Shape.{ShapeNumbers, payload_of}

-- the most levels of a tree that had k operations since its reset
abbrev pub levels_of : ShapeNumbers → ℕ → ℕ
levels_of shape k = max 1 (lev shape (blocks_of shape k))

-- one more than `lev` of the blocks of k
abbrev pub floors_of : ShapeNumbers → ℕ → ℕ
floors_of shape k = 1 + lev shape (blocks_of shape k)

-- a list to which n records are appended, and which is read once
abbrev pub chain_share : ShapeNumbers → ℕ → ℕ
chain_share shape n = 4 * (div_ceil n (payload_of shape) + 1)

-- A tree of n operations, at most k of them between two resets: `take_first` left nothing z times,
-- and `settle_all` and `finish` were called y times.
abbrev pub tree_share : ShapeNumbers → ℕ → ℕ → ℕ → ℕ → ℕ
tree_share shape n k z y =
    (160 * (blocks_of shape n + 1) + 64 * z + 64 * y * (blocks_of shape k + 1)) * floors_of shape k

-- a batch of n commands
abbrev pub batch_share : ShapeNumbers → ℕ → ℕ
batch_share shape n = 248 * (blocks_of shape n + 1) * floors_of shape n

-- a queue of n calls, at most k of them between two moments at which it is empty
abbrev pub queue_share : ShapeNumbers → ℕ → ℕ → ℕ
queue_share shape n k = 240 * (blocks_of shape n + 1) * floors_of shape k

-- a segment tree of n calls and reported pairs, with the moves of the queue that it is given
abbrev pub stab_share : ShapeNumbers → ℕ → ℕ
stab_share shape n = 1920 * (blocks_of shape n + 1) * floors_of shape n

-- the blocks of a tree of at most k operations between two resets, or of a queue over one
abbrev pub tree_room : ShapeNumbers → ℕ → ℕ
tree_room shape k = 12 * (blocks_of shape k + 1) + shape.frames * (1 + floors_of shape k)

-- the blocks of a segment tree of n calls and reported pairs, without those of its queue
abbrev pub stab_room : ShapeNumbers → ℕ → ℕ
stab_room shape n = 32 * (blocks_of shape n + 1) + shape.frames * (1 + floors_of shape n)

-- (q + 1) * (1 + lev q) for the q blocks of 2 * E records, in which costs of a circuit of size E
-- are counted
abbrev pub cost_unit : ShapeNumbers → ℕ → ℕ
cost_unit shape E = (blocks_of shape (2 * E) + 1) * floors_of shape (2 * E)
