-- What a pass writes: records that result go to a list of their own.
use Rattle.std.specs.Prelude.{◌≡◌, ℕ, ◌+◌, ◌-◌, ◌*◌, ◌≤◌, ◌⊎◌, min, List, [], ◌∷◌, ◌++◌, length, IsTrue, Option, Some, None, option_to_list, Result, Ok, Err}
use Rattle.em_record.specs.declared.record.Record.{Record}
use Rattle.em_space.specs.Held.{Apart}
use Rattle.em_space.specs.Ledger.{Account, both, Runs, Stops}
use Rattle.em_space.specs.Rig.{RigState}
use Rattle.em_space.specs.declared.fault.EmFault.{EmFault}
use Rattle.em_chain.specs.Chain.{IsChain, IsPacked, chain_blocks, chain_items, payload_in}
use Rattle.em_chain.specs.Counts.{ceiling}
use Rattle.em_chain.specs.Reader.{ReaderHasFrame, reader_items}
use Rattle.em_chain.specs.Session.{Took, Wrote, one_more, pair_account, pair_blocks, writer_account}
use Rattle.em_chain.specs.Writer.{IsWriter, WriterHasFrame, filled, writer_blocks}
use Rattle.em_chain.specs.declared.chain.Chain.{Chain}
use Rattle.em_chain.specs.declared.reader.Reader.{Reader}
use Rattle.em_chain.specs.declared.writer.Writer.{Writer}
use Rattle.em_settle.specs.Rising.{RisesByKey}
use Rattle.em_settle.specs.declared.step.Step.{Step}
use Rattle.em_leaf.specs.Front.{IsFront, MovesOn, SettlesOn, in_hand, most_left}
use Rattle.em_leaf.specs.Leaf.{CanGrowBy, high_blocks}
use Rattle.em_leaf.specs.Passing.{CanPass, answers_most}
use Rattle.em_leaf.specs.declared.change.LeafChange.{LeafChange}
use Rattle.em_leaf.specs.declared.front.Front.{Front}

-- Such a reader and writer, and a list that can take all records that may still result.
pub record CanWriteItems (s : RigState) (r : Reader) (w out : Writer) (f : Front) (n : ℕ)
    : Type 0 where
  pub can : CanPass s r w f n
  pub out_is : IsWriter s out
  pub apart : IsTrue s.device.told → Apart (writer_blocks s out) (pair_blocks s r w)
  pub room : CanGrowBy (most_left f r.count n) out

-- The frames of all three are the pool's.
pub record HaveFrames (s : RigState) (r : Reader) (w out : Writer) : Type 0 where
  pub reader : ReaderHasFrame s r
  pub answers : WriterHasFrame s w
  pub out_has : WriterHasFrame s out

-- the blocks of a list, and of a reader and a writer of answers
abbrev pub writing_blocks : RigState → Reader → Writer → Writer → List ℕ
writing_blocks s r w out = writer_blocks s out ++ pair_blocks s r w

abbrev pub writing_account : Reader → Writer → Writer → Account
writing_account r w out = both (writer_account out) (pair_account r w)

-- Some records were read and some answers written, and these items were written to a list.
pub record Writing (peak : ℕ) (key : Record → Record) (step : Option Record → Record → Step)
    (ops : List Record) (s t : RigState) (r q : Reader) (w v out new : Writer) (f g : Front)
    (items : List Record) : Type 0 where
  pub xs : List Record
  pub ys : List Record
  pub runs : Runs peak (writing_blocks s r w out) (writing_blocks t q v new)
      (writing_account r w out)
      (writing_account q v new) s t
  pub took : Took s t r q xs
  pub answered : Wrote s t w v ys
  pub wrote : Wrote s t out new items
  pub moves_on : IsTrue s.device.told → IsFront key ops f (reader_items s r)
      → MovesOn key step ops f g (reader_items s r) (reader_items t q) items ys
  pub count : most_left g q.count (length ops) + length items ≤ most_left f r.count (length ops)
  pub few : f.settled + length ys ≤ g.settled
  pub within : g.settled ≤ length ops

-- how many blocks may be held while one record is written, at most
abbrev pub one_peak : RigState → Reader → Writer → Writer → ℕ → ℕ
one_peak s r w out n = answers_most s w n + (one_more s out + r.blocks)

-- The next record was written, or none is left.
abbrev pub WritesNext : (Record → Record) → (Option Record → Record → Step) → List Record → RigState
    → RigState → Reader → Reader → Writer → Writer → Writer → Writer → Front → Front
    → Result (Option Record) EmFault → Type 0
WritesNext key step ops s t r q w v out new f g (Ok o) =
    Writing (one_peak s r w out (length ops - f.settled)) key step ops s t r q w v out new f g
    (option_to_list o) × (o ≡ None → most_left g q.count (length ops) ≡ 0)
WritesNext key step ops s t r q w v out new f g (Err fault) =
    Stops (one_peak s r w out (length ops - f.settled))
    (2 * one_peak s r w out (length ops - f.settled)) 2 (writing_blocks s r w out)
    (writing_account r w out) s t fault

-- how many blocks may be held while records are written, at most: as many as what is in hand and
-- the operations need, beside those of the list, of the answers and of what isn't read, and one
abbrev pub writing_peak : RigState → Reader → Writer → Writer → Front → ℕ → ℕ
writing_peak s r w out f n = answers_most s w (n - f.settled)
    + (ceiling (filled s out + in_hand f + (n - f.settled)) (payload_in s) + r.blocks + 1)

-- the first item
abbrev pub head_of : List Record → Option Record
head_of [] = None
head_of (x ∷ xs) = Some x

-- the first item, after one more
abbrev pub first_or : Option Record → Record → Option Record
first_or None x = Some x
first_or (Some y) x = Some y

-- These items are as many as a limit says, or else no more may result.
pub record EndsAt (limit : ℕ) (f : Front) (left n : ℕ) (items : List Record) : Type 0 where
  pub most : length items ≤ limit
  pub done : (length items ≡ limit) ⊎ (most_left f left n ≡ 0)

-- Records were written up to a limit.
pub record WritesItems (limit : ℕ) (key : Record → Record) (step : Option Record → Record → Step)
    (ops : List Record) (s t : RigState) (r q : Reader) (w v out new : Writer) (f g : Front)
    (first : Option Record) : Type 0 where
  pub items : List Record
  pub writing : Writing (writing_peak s r w out f (length ops)) key step ops s t r q w v out new f g
      items
  pub ends_at : EndsAt limit g q.count (length ops) items
  pub first_is : first ≡ head_of items

-- the same by the result
abbrev pub WritesItemsTo : ℕ → (Record → Record) → (Option Record → Record → Step) → List Record
    → RigState → RigState → Reader → Reader → Writer → Writer → Writer → Writer → Front → Front
    → Result (Option Record) EmFault → Type 0
WritesItemsTo limit key step ops s t r q w v out new f g (Ok first) =
    WritesItems limit key step ops s t r q w v out new f g first
WritesItemsTo limit key step ops s t r q w v out new f g (Err fault) =
    Stops (writing_peak s r w out f (length ops)) (2 * writing_peak s r w out f (length ops)) 2
    (writing_blocks s r w out) (writing_account r w out) s t fault

-- how many blocks may be held while a part is written, at most
abbrev pub part_peak : RigState → Reader → Writer → Front → ℕ → ℕ
part_peak s r w f n = answers_most s w (n - f.settled)
    + (ceiling (in_hand f + (n - f.settled)) (payload_in s) + r.blocks + 1)

-- a chain that was written from its start: each block was paid with two moves, and the last with
-- one more
abbrev pub part_account : Chain → Account
part_account c =
    record { blocks = c.blocks; unstored = 0; paid = 2 * c.blocks + min c.blocks 1; owed = 0 }

-- A chain is packed and has these items, which a pass wrote.
pub record IsPart (s : RigState) (c : Chain) (items : List Record) : Type 0 where
  pub chain : IsChain s c
  pub packed : IsTrue s.device.told → IsPacked s c
  pub items_are : IsTrue s.device.told → chain_items s c ≡ items
  pub count_is : c.count ≡ length items
  pub blocks_are : c.blocks ≡ ceiling (length items) (payload_in s)

-- A part of what results was written to a chain.
pub record WritesPart (limit : ℕ) (key : Record → Record) (step : Option Record → Record → Step)
    (ops : List Record) (s t : RigState) (r q : Reader) (w v : Writer) (f g : Front)
    (first : Option Record) (c : Chain) : Type 0 where
  pub items : List Record
  pub xs : List Record
  pub ys : List Record
  pub runs : Runs (part_peak s r w f (length ops)) (pair_blocks s r w)
      (chain_blocks t c ++ pair_blocks t q v) (pair_account r w)
      (both (part_account c) (pair_account q v)) s t
  pub took : Took s t r q xs
  pub answered : Wrote s t w v ys
  pub part : IsPart t c items
  pub moves_on : IsTrue s.device.told → IsFront key ops f (reader_items s r)
      → MovesOn key step ops f g (reader_items s r) (reader_items t q) items ys
  pub count : most_left g q.count (length ops) + length items ≤ most_left f r.count (length ops)
  pub few : f.settled + length ys ≤ g.settled
  pub within : g.settled ≤ length ops
  pub ends_at : EndsAt limit g q.count (length ops) items
  pub first_is : first ≡ head_of items

-- the same by the result
abbrev pub WritesPartTo : ℕ → (Record → Record) → (Option Record → Record → Step) → List Record
    → RigState → RigState → Reader → Reader → Writer → Writer → Front → Front
    → Result (Option Record × Chain) EmFault → Type 0
WritesPartTo limit key step ops s t r q w v f g (Ok p) =
    WritesPart limit key step ops s t r q w v f g p.0 p.1
WritesPartTo limit key step ops s t r q w v f g (Err fault) =
    Stops (part_peak s r w f (length ops)) (2 * part_peak s r w f (length ops) + 1) 2
    (pair_blocks s r w) (pair_account r w) s t fault

-- the account of a high part, if there is one
abbrev pub high_account : Option (Record × Chain) → Account
high_account None = record { blocks = 0; unstored = 0; paid = 0; owed = 0 }
high_account (Some p) = part_account p.1

-- A chain is the high part, with the key of the first record that was written to it, if there is
-- one.
abbrev pub IsHighOf : (Record → Record) → Option Record → Chain → Option (Record × Chain) → Type 0
IsHighOf key None c o = o ≡ None
IsHighOf key (Some x) c o = o ≡ Some (key x, c)

-- The high part has these items, and beside it stands the key of the first. With no item there is
-- none.
abbrev pub IsHighPart : (Record → Record) → RigState → Option (Record × Chain) → List Record
    → Type 0
IsHighPart key t None items = items ≡ []
IsHighPart key t (Some p) items = IsPart t p.1 items
    × ((x : Record) × (xs : List Record) × (items ≡ x ∷ xs) × (p.0 ≡ key x))

-- what a list has of n records more than this many, at most, and how many blocks may then be held
abbrev pub leaf_peak : RigState → Reader → Writer → ℕ → ℕ
leaf_peak s r w n = answers_most s w n + (ceiling n (payload_in s) + r.blocks + 3)

-- All that results was written: up to a limit to the low part, and the rest to the high one.
pub record WritesParts (limit most : ℕ) (key : Record → Record)
    (step : Option Record → Record → Step) (ops : List Record) (s t : RigState) (r q : Reader)
    (w v : Writer) (change : LeafChange) : Type 0 where
  pub lows : List Record
  pub highs : List Record
  pub xs : List Record
  pub ys : List Record
  pub low : IsPart t change.low lows
  pub high : IsHighPart key t change.high highs
  pub runs : Runs (leaf_peak s r w (length ops)) (pair_blocks s r w)
      (chain_blocks t change.low ++ (high_blocks t change.high ++ pair_blocks t q v))
      (pair_account r w)
      (both (part_account change.low) (both (high_account change.high) (pair_account q v))) s t
  pub took : Took s t r q xs
  pub answered : Wrote s t w v ys
  pub few : length ys ≤ length ops
  pub settles : IsTrue s.device.told → RisesByKey key (reader_items s r)
      → SettlesOn key step (reader_items s r) ops [] [] (lows ++ highs) ys
  pub count : length lows + length highs ≤ r.count + length ops
  pub low_most : length lows ≤ limit
  pub high_most : length highs ≤ most
  pub full : (length lows ≡ limit) ⊎ (highs ≡ [])
  pub all_read : q.count ≡ 0

-- the same by the result
abbrev pub WritesLeaf : ℕ → ℕ → (Record → Record) → (Option Record → Record → Step) → List Record
    → RigState → RigState → Reader → Reader → Writer → Writer → Result LeafChange EmFault → Type 0
WritesLeaf limit most key step ops s t r q w v (Ok change) =
    WritesParts limit most key step ops s t r q w v change
WritesLeaf limit most key step ops s t r q w v (Err fault) =
    Stops (leaf_peak s r w (length ops)) (2 * leaf_peak s r w (length ops) + 2) 2
    (pair_blocks s r w)
    (pair_account r w) s t fault
