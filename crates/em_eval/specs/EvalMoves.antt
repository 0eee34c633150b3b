-- The moves of the parts of an evaluation: of a circuit that is read and ordered, of an evaluator that is
-- made for it, and of its rounds. Each part's queues are within their shares.
use Rattle.std.specs.Prelude.{ℕ, zero, suc, ◌+◌, ◌*◌, Bool, true, false, if◌then◌else◌}
use Rattle.em_record.specs.Shape.{ShapeNumbers, payload_of}
use Rattle.em_chain.specs.Counts.{ceiling}
use Rattle.em_tree_cost.specs.Shares.{queue_share}

-- the moves of reading a circuit of this size, checking it, and ordering its gates by this many passes:
-- those of its lists, and those of a queue for its graph and another for its order
abbrev pub circuit_moves : ShapeNumbers → ℕ → ℕ → ℕ
circuit_moves shape size passes =
    (10 * passes + 62) * ceiling size (payload_of shape) + passes + 40
    + queue_share shape (6 * size) (2 * size)
    + queue_share shape (2 * (passes + 4) * size) (2 * size)

-- the moves of making a queue, and an evaluator over it for the edges of a circuit of this size
abbrev pub making_moves : ShapeNumbers → ℕ → ℕ
making_moves shape size = 6 * ceiling size (payload_of shape) + 10

-- how many lines of the stimulus a round of an evaluation reads at most: a step reads one, a group 64
abbrev pub round_lines : Bool → ℕ
round_lines wide = if wide then 64 else 1

-- the most calls of the queue in a round: a step makes two for each edge, and a group two for each word of
-- its inputs and of its columns besides
abbrev pub round_calls : Bool → ℕ → ℕ
round_calls wide size = if wide then 4 * size + 252 else 2 * size

-- the moves of this many rounds along such edges, each with this many calls of the queue at most: those of
-- its lists, and those of the queue. Before the first round is begun nothing is moved.
abbrev pub calling_moves : ShapeNumbers → ℕ → ℕ → ℕ → ℕ
calling_moves shape size calls zero = 0
calling_moves shape size calls (suc n) = suc n * (9 * ceiling size (payload_of shape) + 7)
    + queue_share shape (calls * suc n) calls

-- the moves of this many steps, and of this many groups
abbrev pub steps_moves : ShapeNumbers → ℕ → ℕ → ℕ
steps_moves shape size n = calling_moves shape size (round_calls false size) n

abbrev pub groups_moves : ShapeNumbers → ℕ → ℕ → ℕ
groups_moves shape size n = calling_moves shape size (round_calls true size) n

-- the moves of the rounds in which this many lines are begun
abbrev pub rounds_moves : Bool → ShapeNumbers → ℕ → ℕ → ℕ
rounds_moves wide shape size lines =
    calling_moves shape size (round_calls wide size) (ceiling lines (round_lines wide))
