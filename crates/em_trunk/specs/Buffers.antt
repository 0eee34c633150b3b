-- The lengths of buffers inside a call: which of them may be full, and how long one is at most.
use Rattle.std.specs.Prelude.{◌≡◌, ◌⊎◌, ℕ, ◌+◌, ◌-◌, ◌*◌, ◌<◌, ◌≤◌, List, [], ◌∷◌, length, Option}
use Rattle.em_record.specs.declared.record.Record.{Record}
use Rattle.em_tree_model.specs.Ranges.{InRange, Under}

-- At an exit: a buffer has fewer operations than a limit.
abbrev pub IsThin : ℕ → ℕ → Record → Option Record → List Record → Type 0
IsThin limit level lo hi b = length b < limit

-- If a buffer has as many operations as a limit, its entry is one of those that may: Q says which,
-- by the level of the node and the least key of the entry's range.
abbrev pub OnlyFull : ℕ → (ℕ → Record → Type 0) → ℕ → Record → Option Record → List Record
    → Type 0
OnlyFull limit Q level lo hi b = limit ≤ length b → Q level lo

-- These entries, and those of one level whose ranges begin among some keys.
abbrev pub OrDue : (ℕ → Record → Type 0) → ℕ → Record → Option Record → ℕ → Record → Type 0
OrDue Q at from until level lo = Q level lo ⊎ ((level ≡ at) × InRange from until lo)

-- Keys of a level: the entries of its nodes whose ranges begin among them.
pub record Due : Type 0 where
  pub level : ℕ
  pub from : Record
  pub until : Option Record

-- an entry of a level that is one of these
abbrev pub IsDue : List Due → ℕ → Record → Type 0
IsDue [] level lo = ⊥
IsDue (d ∷ ds) level lo = OrDue (IsDue ds) d.level d.from d.until level lo

-- all of these are of levels above one
abbrev pub AllOver : ℕ → List Due → Type 0
AllOver at [] = Unit {0}
AllOver at (d ∷ ds) = (at < d.level) × AllOver at ds

-- The buffers over a level that a path of some keys meets are empty.
abbrev pub ClearOver : ℕ → Record → Option Record → ℕ → Record → Option Record → List Record
    → Type 0
ClearOver at from until level lo hi b =
    at < level → (q : Record) → InRange from until q → InRange lo hi q → b ≡ []

-- If a buffer of a level is full, the keys of its entry are all below a key, or none of them is.
abbrev pub OnOneSide : ℕ → ℕ → Option Record → ℕ → Record → Option Record → List Record → Type 0
OnOneSide at limit until level lo hi b = level ≡ at → limit ≤ length b → (q k : Record)
    → InRange lo hi q → InRange lo hi k → Under until q → Under until k

-- Nothing waits in a node of this level or above it.
abbrev pub NoneFrom : ℕ → ℕ → Record → Option Record → List Record → Type 0
NoneFrom at level lo hi b = at ≤ level → b ≡ []

-- Under a root of level `top` a buffer has fewer operations than this many full ones: it was thin,
-- and what came from each level above it, from the root's buffer down, was one full buffer more.
abbrev pub IsBounded : ℕ → ℕ → ℕ → Record → Option Record → List Record → Type 0
IsBounded top limit level lo hi b = length b < (top + 2 - level) * limit
