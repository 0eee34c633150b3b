-- Free blocks: docs/FORMATS.md, "Blocks". A block that was freed has in its first record a link to
-- a block that was freed before it.
use Rattle.std.specs.Prelude.{◌≡◌, ◌≢◌, ℕ, zero, suc, ◌+◌, ◌-◌, ◌<◌, List, [], ◌∷◌, get_or, length}
use Rattle.em_record.specs.declared.record.Record.{Record}
use Rattle.em_frames.specs.Device.{zero_record}

-- the number is none of these
abbrev pub Off : ℕ → List ℕ → Type 0
Off k [] = Unit {0}
Off k (x ∷ xs) = (k ≢ x) × Off k xs

-- no number stands there twice
abbrev pub AreDistinct : List ℕ → Type 0
AreDistinct [] = Unit {0}
AreDistinct (x ∷ xs) = Off x xs × AreDistinct xs

-- each number is below n
abbrev pub AreBelow : ℕ → List ℕ → Type 0
AreBelow n [] = Unit {0}
AreBelow n (x ∷ xs) = (x < n) × AreBelow n xs

-- the first record of a block
abbrev pub header : List Record → Record
header block = get_or block 0 zero_record

-- the header of a free block with this link: 0 where it is the last, else the number of the next
-- free block plus 1
abbrev pub free_header : ℕ → Record
free_header link = record { a = link; b = 0; c = 3; d = 0 }

-- the link of the block of this number
abbrev pub link_at : List (List Record) → ℕ → ℕ
link_at contents k = (header (get_or contents k [])).a

-- the blocks to which a link leads, each by the link of the one before, and at most n of them
abbrev pub linked_from : ℕ → List (List Record) → ℕ → List ℕ
linked_from zero contents link = []
linked_from (suc n) contents zero = []
linked_from (suc n) contents (suc k) = k ∷ linked_from n contents (link_at contents k)

-- these are the blocks to which a link leads, and each has the header of a free block
abbrev pub AreLinked : List (List Record) → ℕ → List ℕ → Type 0
AreLinked contents link [] = link ≡ 0
AreLinked contents link (k ∷ ks) =
    (link ≡ k + 1)
    × (header (get_or contents k []) ≡ free_header (link_at contents k))
    × AreLinked contents (link_at contents k) ks

-- the blocks that are linked among the first ones, of which this many aren't: those in use, and those
-- whose numbers are kept in memory
abbrev pub free_blocks : List (List Record) → ℕ → ℕ → ℕ → List ℕ
free_blocks contents most used head = linked_from (most - used) contents head

-- All of the first blocks are linked but for this many.
pub record IsFreeList (contents : List (List Record)) (most used head : ℕ) : Type 0 where
  pub linked : AreLinked contents head (free_blocks contents most used head)
  pub count : length (free_blocks contents most used head) ≡ most - used
  pub below : AreBelow most (free_blocks contents most used head)
  pub distinct : AreDistinct (free_blocks contents most used head)

-- one of the first blocks, and not linked
abbrev pub IsTaken : List (List Record) → ℕ → ℕ → ℕ → ℕ → Type 0
IsTaken contents most used head k = (k < most) × Off k (free_blocks contents most used head)

abbrev pub AreTaken : List (List Record) → ℕ → ℕ → ℕ → List ℕ → Type 0
AreTaken contents most used head [] = Unit {0}
AreTaken contents most used head (k ∷ ks) =
    IsTaken contents most used head k × AreTaken contents most used head ks

-- The free blocks whose numbers are kept in memory: none is linked, and none stands there twice.
pub record AreSpare (contents : List (List Record)) (most used head : ℕ) (ks : List ℕ) : Type 0 where
  pub taken : AreTaken contents most used head ks
  pub distinct : AreDistinct ks
