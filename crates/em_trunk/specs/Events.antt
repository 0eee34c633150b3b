-- What the events of a call keep of a tree: its meaning, and the books of its moves.
use Rattle.std.specs.Prelude.{◌≡◌, ◌⊎◌, ℕ, ◌+◌, ◌*◌, ◌/◌, ◌≤◌, List, [], Option}
use Rattle.em_record.specs.Shape.{ShapeNumbers, wide_of}
use Rattle.em_record.specs.declared.record.Record.{Record}
use Rattle.em_settle.specs.States.{Stored}
use Rattle.em_settle.specs.declared.step.Step.{Step}
use Rattle.em_tree_model.specs.Meaning.{Advances, Represents}
use Rattle.em_tree_model.specs.Tree.{Tree}
use Rattle.em_tree_cost.specs.Books.{InCall, TreeCounts, count_moves}
use Rattle.em_tree_cost.specs.Counters.{Counters, Sums}
use Rattle.em_tree_cost.specs.Effects.{OnlySplits}
use Rattle.em_tree_cost.specs.Paid.{toll_of}
use Rattle.em_tree_cost.specs.Parts.{thin_debt}
use Rattle.em_tree_cost.specs.Shares.{levels_of}

-- A tree became another one that means the same: its contents and all its answers stay, whether
-- they were given or are owed, and of each key the operations that don't wait any more were folded
-- over the stored record, in turn.
pub record Continues (key : Record → Record) (step : Option Record → Record → Step)
    (IsOp IsKept : Record → Type 0) (given : List Record) (t : Tree) (told : List Record) (u : Tree)
    : Type 0 where
  pub represents : (contents : Stored) (answers : List Record)
      → Represents key step IsOp IsKept contents answers given t
      → Represents key step IsOp IsKept contents answers told u
  pub advances : (contents : Stored) (answers : List Record)
      → Represents key step IsOp IsKept contents answers given t
      → (q : Record) → Advances key step t u [] q

-- For each leaf that came w · B operations less wait.
pub record Pairs (shape : ShapeNumbers) (t u : Sums) : Type 0 where
  pub most : wide_of shape * shape.block * u.leaves + u.waiting
      ≤ wide_of shape * shape.block * t.leaves + t.waiting

-- What a part of a call leaves of the books, which counted so before it: it took nothing, and if it owes nothing (d is 0), a
-- full load paid for each leaf that came.
pub record Charged (shape : ShapeNumbers) (c : TreeCounts) (more h r d : ℕ) (cs : Counters) (t u : Sums) : Type 0 where
  pub call : InCall shape c more h r u
  pub only : OnlySplits cs call.books.counters
  pub pairs : d ≡ 0 → Pairs shape t u

-- The books of a tree over m moves, of which p were paid for in advance; q are paid for afterwards,
-- and d more is owed. Its k is the most operations since a reset: the number stays inside a call. So does
-- what the call handed out before, h records, and what is known of splits (`InCall`).
pub record Charges (shape : ShapeNumbers) (k p m q d : ℕ) (t u : Sums) : Type 0 where
  pub books : (c : TreeCounts) (more h r : ℕ) → c.k ≡ k → (b : InCall shape (count_moves p c) more h r t)
      → Charged shape (count_moves (m + q) c) (more + d) h r d b.books.counters t u

-- The moves of a tree that is given up are paid for but for d: there are sums that it would have
-- had.
pub record ChargesUpTo (shape : ShapeNumbers) (k p m d : ℕ) (t : Sums) : Type 0 where
  pub sums : Sums
  pub charges : Charges shape k p m 0 d t sums

-- the most moves that a refused call may owe for the path of one leaf
abbrev pub path_most : ShapeNumbers → ℕ → ℕ
path_most shape k = levels_of shape k * thin_debt (wide_of shape)
    + (42 * wide_of shape + 37 + 6 * levels_of shape k)

-- A call that owes so much, in moves times B, is within its share if it is refused on a tree that has so many
-- records: these and a reset would pay for it, or a leaf was split since the last reset, and it is owed for the
-- path of one leaf.
pub record MayRefuse (shape : ShapeNumbers) (k split owed held : ℕ) : Type 0 where
  pub either : (owed ≤ 18 * held + toll_of shape k)
      ⊎ ((1 ≤ split) × (owed ≤ shape.block * path_most shape k))

-- the steps that a call may take after n operations and adopted records, k of them since the contents were empty: no
-- fewer than the moves that it can be charged for
abbrev pub step_allowance : ShapeNumbers → ℕ → ℕ → ℕ
step_allowance shape n k = 26 * (160 * (n / shape.block + 2) + 64 * (k / shape.block + 2))
