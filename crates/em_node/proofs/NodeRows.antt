-- Nodes that were laid out by hand, and the places of keys in them.
use Rattle.std.proofs.Common.{◌≡◌, ℕ, List, [], ◌∷◌, refl, arith}
use Rattle.em_record.specs.declared.record.Record.{Record}
use Rattle.em_node.specs.declared.entry.Entry.{Entry}
use Rattle.em_node.specs.Node.{entries_of, level_of, Is, IsNodeBlock, LowsRise, place_of}

-- a record of these words
abbrev rec : ℕ → ℕ → ℕ → ℕ → Record
rec a b c d = record { a = a; b = b; c = c; d = d }

-- keys from (5, 0, 0, 0) on, child 8 (a link is a number plus 1), an empty buffer
abbrev first : Entry
first = record { low = rec 5 0 0 0; child = 9; buffer = 0 ∷ 0 ∷ 0 ∷ 0 ∷ 0 ∷ [] }

-- keys from (7, 1, 2, 3) on, child 3, and a buffer of 200 records in 2 blocks, from block 10 to block 11
abbrev second : Entry
second = record { low = rec 7 1 2 3; child = 4; buffer = 11 ∷ 0 ∷ 12 ∷ 200 ∷ 2 ∷ [] }

-- a node of level 1 with these two entries, and one record more
abbrev block : List Record
block = rec 1 2 2 0 ∷ rec 0 0 0 0
    ∷ rec 5 0 0 0 ∷ rec 9 0 0 0 ∷ rec 0 0 0 0
    ∷ rec 7 1 2 3 ∷ rec 4 11 0 12 ∷ rec 200 2 0 0
    ∷ rec 6 6 6 6 ∷ []

-- its entries, its level, and all of it
entries : entries_of block ≡ first ∷ second ∷ []
entries = refl

level : level_of block ≡ 1
level = refl

is : Is block 1 (first ∷ second ∷ [])
is = record {
  rest = rec 6 6 6 6 ∷ [];
  block_is = refl;
  level_most = omega arith;
  limited = (
    record { words = refl; count = omega arith; blocks = omega arith },
    (record { words = refl; count = omega arith; blocks = omega arith }, tt),
  );
  rises = ((refl, tt), (tt, tt));
}

-- on a device of 12 blocks it is a node block, since its links are at most 12
is_node_block : IsNodeBlock 2 12 block
is_node_block = record {
  node = record { is = is };
  few = omega arith;
  linked = (
    record { child_some = omega arith; child_most = omega arith; head_most = omega arith; tail_most = omega arith },
    (
      record { child_some = omega arith; child_most = omega arith; head_most = omega arith; tail_most = omega arith },
      tt,
    ),
  );
}

-- on one of 11 it isn't: the second buffer ends at link 12
too_few_blocks : IsNodeBlock 2 11 block → ⊥
too_few_blocks n = let l = n.linked.1.0.tail_most in absurd (omega arith)

-- nor is it one of at most one entry
too_many_entries : IsNodeBlock 1 12 block → ⊥
too_many_entries n = let f = n.few in absurd (omega arith)

-- a node with no entry
empty : Is (rec 63 0 2 0 ∷ rec 0 0 0 0 ∷ []) 63 []
empty = record { rest = []; block_is = refl; level_most = omega arith; limited = tt; rises = tt }

-- equal low keys don't rise
equal_lows : LowsRise (first ∷ first ∷ []) → ⊥
equal_lows r = let e = r.0.0 in cc

-- keys below the first low key, at it, between, at the second, and above
places : place_of (rec 4 9 9 9) (first ∷ second ∷ []) ∷ place_of (rec 5 0 0 0) (first ∷ second ∷ [])
    ∷ place_of (rec 7 1 2 2) (first ∷ second ∷ []) ∷ place_of (rec 7 1 2 3) (first ∷ second ∷ [])
    ∷ place_of (rec 8 0 0 0) (first ∷ second ∷ []) ∷ place_of (rec 1 0 0 0) (first ∷ [])
    ∷ [] ≡ 0 ∷ 0 ∷ 0 ∷ 1 ∷ 1 ∷ 0 ∷ []
places = refl
