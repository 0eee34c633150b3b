-- A node of a tree in one block: docs/FORMATS.md, "Blocks". A node is a list of entries with rising low keys.
use Rattle.std.specs.Prelude.{◌≡◌, true, cond, ℕ, zero, suc, ◌+◌, ◌≤◌, ◌^◌, List, [], ◌∷◌, ◌++◌, length, get_or, drop}
use Rattle.em_record.specs.declared.record.Record.{Record}
use Rattle.em_record.specs.Order.{is_below}
use Rattle.em_frames.specs.Device.{zero_record}
use Rattle.em_node.specs.declared.entry.Entry.{Entry}

-- the first record of a node: its level, its number of entries, and the kind 2 of a node
abbrev pub node_header : ℕ → ℕ → Record
node_header level n = record { a = level; b = n; c = 2; d = 0 }

-- the second record of an entry, after that of its low key: its child, and three words of its buffer
abbrev pub second_of : Entry → Record
second_of e = record { a = e.child; b = get_or e.buffer 0 0; c = get_or e.buffer 1 0; d = get_or e.buffer 2 0 }

-- the third record of an entry: the last two words of its buffer
abbrev pub third_of : Entry → Record
third_of e = record { a = get_or e.buffer 3 0; b = get_or e.buffer 4 0; c = 0; d = 0 }

-- the records of some entries, three for each
abbrev pub records_of : List Entry → List Record
records_of [] = []
records_of (e ∷ es) = e.low ∷ second_of e ∷ third_of e ∷ records_of es

-- the entry that three records spell
abbrev pub entry_of : Record → Record → Record → Entry
entry_of x y z = record { low = x; child = y.a; buffer = y.b ∷ y.c ∷ y.d ∷ z.a ∷ z.b ∷ [] }

-- the first n entries that some records spell
abbrev pub entries_from : ℕ → List Record → List Entry
entries_from zero rs = []
entries_from (suc n) [] = []
entries_from (suc n) (x ∷ []) = []
entries_from (suc n) (x ∷ y ∷ []) = []
entries_from (suc n) (x ∷ y ∷ z ∷ rs) = entry_of x y z ∷ entries_from n rs

-- the entries of a node block
abbrev pub entries_of : List Record → List Entry
entries_of block = entries_from (get_or block 0 zero_record).b (drop 2 block)

-- the level of a node block
abbrev pub level_of : List Record → ℕ
level_of block = (get_or block 0 zero_record).a

-- the low key of each of these entries is above a key
abbrev pub LowsAbove : Record → List Entry → Type 0
LowsAbove low [] = Unit {0}
LowsAbove low (e ∷ es) = (is_below low e.low ≡ true) × LowsAbove low es

-- each low key is above those before it
abbrev pub LowsRise : List Entry → Type 0
LowsRise [] = Unit {0}
LowsRise (e ∷ es) = LowsAbove e.low es × LowsRise es

-- A buffer is five words, and the last two, its records and its blocks, are at most 2^56.
pub record IsLimited (e : Entry) : Type 0 where
  pub words : length e.buffer ≡ 5
  pub count : get_or e.buffer 3 0 ≤ 2 ^ 56
  pub blocks : get_or e.buffer 4 0 ≤ 2 ^ 56

-- the same of each of these entries
abbrev pub AreLimited : List Entry → Type 0
AreLimited [] = Unit {0}
AreLimited (e ∷ es) = IsLimited e × AreLimited es

-- A block is a node of this level with these entries: two headers, the entries' records, and any others.
pub record Is (block : List Record) (level : ℕ) (es : List Entry) : Type 0 where
  pub rest : List Record
  pub block_is : block ≡ node_header level (length es) ∷ zero_record ∷ records_of es ++ rest
  pub level_most : level ≤ 63
  pub limited : AreLimited es
  pub rises : LowsRise es

-- A block is a node of some level with some entries, which have room in it. Its links may be any.
pub record IsNode (block : List Record) : Type 0 where
  pub is : Is block (level_of block) (entries_of block)

-- An entry links to a child, and no link is above the number of blocks of the device.
pub record HasLinks (blocks : ℕ) (e : Entry) : Type 0 where
  pub child_some : 1 ≤ e.child
  pub child_most : e.child ≤ blocks
  pub head_most : get_or e.buffer 0 0 ≤ blocks
  pub tail_most : get_or e.buffer 2 0 ≤ blocks

-- the same of each of these entries
abbrev pub AreLinked : ℕ → List Entry → Type 0
AreLinked blocks [] = Unit {0}
AreLinked blocks (e ∷ es) = HasLinks blocks e × AreLinked blocks es

-- A block is a node of at most `most` entries, with links for a device of this many blocks.
pub record IsNodeBlock (most blocks : ℕ) (block : List Record) : Type 0 where
  pub node : IsNode block
  pub few : length (entries_of block) ≤ most
  pub linked : AreLinked blocks (entries_of block)

-- an entry of zeros, for a place past the end
abbrev pub no_entry : Entry
no_entry = record { low = zero_record; child = 0; buffer = 0 ∷ 0 ∷ 0 ∷ 0 ∷ 0 ∷ [] }

-- the place of a key: the last entry whose low key is at most the key, or 0
abbrev pub place_of : Record → List Entry → ℕ
place_of key [] = 0
place_of key (e ∷ []) = 0
place_of key (e ∷ f ∷ fs) = cond (is_below key f.low) 0 (1 + place_of key (f ∷ fs))
