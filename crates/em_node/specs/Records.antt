-- A node record by record, as the code writes and tests it.
use Rattle.std.specs.Prelude.{◌≡◌, true, ℕ, zero, suc, ◌+◌, ◌*◌, ◌<◌, ◌≤◌, ◌^◌, List, [], ◌∷◌, length, get_or, set}
use Rattle.em_record.specs.declared.record.Record.{Record}
use Rattle.em_record.specs.Order.{is_below}
use Rattle.em_frames.specs.Device.{zero_record}
use Rattle.em_node.specs.declared.entry.Entry.{Entry}
use Rattle.em_node.specs.Node.{node_header, second_of, third_of}

-- a block in which the three records of one place are those of an entry
abbrev pub with_entry : List Record → ℕ → Entry → List Record
with_entry block at e = set (set (set block (2 + 3 * at) e.low) (2 + 3 * at + 1) (second_of e))
    (2 + 3 * at + 2) (third_of e)

-- The first two records of a node of at most `most` entries.
pub record IsHead (most : ℕ) (first second : Record) : Type 0 where
  pub first_is : first ≡ node_header first.a first.b
  pub level_most : first.a ≤ 63
  pub few : first.b ≤ most
  pub second_is : second ≡ zero_record

-- A block begins with these two records, and has room for the entries that they count.
pub record HasHead (most : ℕ) (block : List Record) : Type 0 where
  pub two : 2 ≤ length block
  pub head : IsHead most (get_or block 0 zero_record) (get_or block 1 zero_record)
  pub room : 2 + 3 * (get_or block 0 zero_record).b ≤ length block

-- The second and the third record of an entry, on a device of this many blocks.
pub record IsEntry (blocks : ℕ) (y z : Record) : Type 0 where
  pub child_some : 1 ≤ y.a
  pub child_most : y.a ≤ blocks
  pub head_most : y.b ≤ blocks
  pub tail_most : y.d ≤ blocks
  pub count_most : z.a ≤ 2 ^ 56
  pub blocks_most : z.b ≤ 2 ^ 56
  pub third : z.c ≡ 0
  pub fourth : z.d ≡ 0

-- a low key is below that of the next of n entries, if there is one
abbrev pub Precedes : Record → ℕ → List Record → Type 0
Precedes x zero rs = Unit {0}
Precedes x (suc n) [] = ⊥
Precedes x (suc n) (u ∷ rs) = is_below x u ≡ true

-- the records of n entries come first
abbrev pub LaidOut : ℕ → ℕ → List Record → Type 0
LaidOut blocks zero rs = Unit {0}
LaidOut blocks (suc n) [] = ⊥
LaidOut blocks (suc n) (x ∷ []) = ⊥
LaidOut blocks (suc n) (x ∷ y ∷ []) = ⊥
LaidOut blocks (suc n) (x ∷ y ∷ z ∷ rs) = IsEntry blocks y z × Precedes x n rs × LaidOut blocks n rs

-- The entry of one place is laid out, and its low key is below the next one's.
pub record IsAt (blocks count : ℕ) (block : List Record) (at : ℕ) : Type 0 where
  pub entry : IsEntry blocks (get_or block (2 + 3 * at + 1) zero_record) (get_or block (2 + 3 * at + 2) zero_record)
  pub next : at + 1 < count
      → is_below (get_or block (2 + 3 * at) zero_record) (get_or block (2 + 3 * at + 3) zero_record) ≡ true
