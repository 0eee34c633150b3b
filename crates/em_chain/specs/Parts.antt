-- A chain is cut in two.
use Rattle.std.specs.Prelude.{◌≡◌, ℕ, ◌+◌, ◌*◌, ◌<◌, ◌≤◌, max, IfErr, List, [], ◌∷◌, ◌++◌, length, IsTrue, Bool, true, false, Result, Ok, Err}
use Rattle.std.specs.List.{All}
use Rattle.em_record.specs.Count.{Rose}
use Rattle.em_record.specs.declared.record.Record.{Record}
use Rattle.em_space.specs.Held.{Apart}
use Rattle.em_space.specs.Ledger.{Stops}
use Rattle.em_space.specs.Rig.{RigState, Goes, Owes, Cause, IfFull}
use Rattle.em_space.specs.declared.fault.EmFault.{EmFault}
use Rattle.em_space.specs.declared.fault.EmFault.TheVariants.{Full}
use Rattle.em_chain.specs.Chain.{IsChain, IsPacked, IsTight, payload_in, chain_items, chain_blocks}
use Rattle.em_chain.specs.Effects.{OnFull}
use Rattle.em_record.specs.Order.{is_below}
use Rattle.em_chain.specs.Reader.{IsReader, rest_of, reader_items}
use Rattle.em_chain.specs.Session.{Pairs, pair_blocks, pair_account, one_more}
use Rattle.em_space.specs.Held.{Within}
use Rattle.em_chain.specs.Within.{Ends}
use Rattle.em_chain.specs.Writer.{IsWriter, IsPackedSoFar, NeedsBlock, writer_items, writer_blocks, filled}
use Rattle.em_chain.specs.declared.chain.Chain.{Chain}
use Rattle.em_chain.specs.declared.reader.Reader.{Reader}
use Rattle.em_chain.specs.declared.writer.Writer.{Writer}

-- each of these is below the bound
abbrev pub AllBelow : Record → List Record → Type 0
AllBelow low xs = All (λ x. is_below x low ≡ true) xs

-- none of these is below the bound
abbrev pub NoneBelow : Record → List Record → Type 0
NoneBelow low xs = All (λ x. is_below x low ≡ false) xs

-- The first list has the records below a bound, and the second one the others. The second one holds
-- the last blocks of the chain, and the first one others that were the chain's or weren't in use.
pub record Parts (s t : RigState) (c : Chain) (low : Record) (f g : Chain) : Type 0 where
  pub first : IsChain t f
  pub second : IsChain t g
  pub apart : IsTrue s.device.told → Apart (chain_blocks t f) (chain_blocks t g)
  pub items : IsTrue s.device.told → chain_items s c ≡ chain_items t f ++ chain_items t g
  pub below : IsTrue s.device.told → AllBelow low (chain_items t f)
  pub others : IsTrue s.device.told → NoneBelow low (chain_items t g)
  pub first_blocks : Within s (chain_blocks s c) (chain_blocks t f)
  pub second_blocks : IsTrue s.device.told → Ends (chain_blocks s c) (chain_blocks t g)
  pub packed : IsTrue s.device.told → IsPacked t f
  pub tight : IsTrue s.device.told → IsTight s c → IsTight t g
  pub place_is : IsTrue s.device.told → IsTight s c → 0 < g.count
      → g.skip + payload_in s * c.blocks ≡ c.skip + f.count + payload_in s * g.blocks
  pub count : f.count + g.count ≡ c.count
  pub used : t.used + c.blocks ≡ s.used + f.blocks + g.blocks
  pub moves : t.moves + 2 * g.blocks ≤ s.moves + 2 * c.blocks + 2 * f.blocks + 2
  pub stored : Owes 0 s t

-- the first record of a list is below a bound, so that a first part has a record and needs a block
abbrev pub NeedsPart : Record → List Record → Type 0
NeedsPart low [] = ⊥
NeedsPart low (x ∷ xs) = is_below x low ≡ true

-- Over a device that tells, a cut is refused as full only if the first part needs a block; and if it
-- counts no fault in the call, always if it needs one and all blocks are in use.
pub record FullsPart {T : Type 0} (s t : RigState) (c : Chain) (low : Record)
    (result : Result T EmFault) : Type 0 where
  pub only : IfErr result (λ fault.
      IfFull fault (λ used. IsTrue s.device.told → NeedsPart low (chain_items s c)))
  pub always : IsTrue s.device.told → (Rose s.device.faults t.device.faults → ⊥)
      → s.used ≡ s.blocks → NeedsPart low (chain_items s c) → result ≡ Err (Full s.used)

-- One block more was in use at once, at most, and one at most isn't stored.
pub record PartCosts (s t : RigState) (blocks : ℕ) : Type 0 where
  pub used : t.used ≤ s.used + 1
  pub most : t.most ≤ max s.most (s.used + 1)
  pub moves : t.moves ≤ s.moves + 4 * blocks + 4
  pub owes : Owes 1 s t

-- A reader and a writer at once.
pub record IsPair (s : RigState) (r : Reader) (w : Writer) : Type 0 where
  pub reader : IsReader s r
  pub writer : IsWriter s w
  pub taking : r.taking ≡ true
  pub apart : IsTrue s.device.told → Apart (writer_blocks s w) (chain_blocks s (rest_of r))

-- A reader that takes its chain, and a writer with no record.
pub record BeginsPart (s : RigState) (r : Reader) (w : Writer) : Type 0 where
  pub pair : IsPair s r w
  pub items : writer_items s w ≡ []
  pub held : writer_blocks s w ≡ []
  pub packed : IsPackedSoFar s w
  pub count : w.count ≡ 0
  pub blocks : w.blocks ≡ 0
  pub filled_is : filled s w ≡ 0

-- the list is empty, or its first record isn't below a bound
abbrev pub IsPast : Record → List Record → Type 0
IsPast low [] = Unit {0}
IsPast low (x ∷ xs) = is_below x low ≡ false

-- These records, which are below a bound, were taken from the reader and written.
pub record Moved (peak : ℕ) (s t : RigState) (low : Record) (r q : Reader) (w v : Writer)
    (xs : List Record) : Type 0 where
  pub pairs : Pairs peak s t r q w v xs xs
  pub below : AllBelow low xs

-- The next record isn't below the bound.
pub record Stands (peak : ℕ) (s t : RigState) (low : Record) (r q : Reader) (w v : Writer)
    (xs : List Record) : Type 0 where
  pub moved : Moved peak s t low r q w v xs
  pub past : IsTrue s.device.told → IsPast low (reader_items t q)

-- what the blocks of a pair may be once a record more was written
abbrev pub pair_more : RigState → Reader → Writer → ℕ
pair_more s r w = one_more s w + r.blocks

-- The next record, which is below the bound, was moved. If it needed a block, one was free.
pub record MovedOne (s t : RigState) (low : Record) (r q : Reader) (w v : Writer) (x : Record)
    : Type 0 where
  pub moved : Moved (pair_more s r w) s t low r q w v (x ∷ [])
  pub room : NeedsBlock s w → s.used < s.blocks

-- A step gave up: refused as full only if the next record is below the bound.
pub record StopsMoving (s t : RigState) (low : Record) (r : Reader) (w : Writer) (fault : EmFault)
    : Type 0 where
  pub stops : Stops (pair_more s r w) (2 * one_more s w) 1 (pair_blocks s r w) (pair_account r w)
      s t fault
  pub needs : IfFull fault (λ used. IsTrue s.device.told → NeedsPart low (reader_items s r))

-- a record was moved, or stands
abbrev pub Steps : RigState → RigState → Record → Reader → Reader → Writer → Writer
    → Result Bool EmFault → Type 0
Steps s t low r q w v (Ok true) = (x : Record) × MovedOne s t low r q w v x
Steps s t low r q w v (Ok false) = Stands (pair_more s r w) s t low r q w v []
Steps s t low r q w v (Err fault) = StopsMoving s t low r w fault

-- Of the records that were moved the first one had a free block.
pub record HadRoom (s t : RigState) (n : ℕ) : Type 0 where
  pub none : n ≡ 0 → t.used ≡ s.used
  pub some : 0 < n → s.used < s.blocks

-- All records below the bound were moved, or what a fault left.
pub record GaveUp (s t : RigState) (r : Reader) (fault : EmFault) : Type 0 where
  pub goes : Goes (chain_blocks s (rest_of r)) s t
  pub costs : PartCosts s t r.blocks
  pub full : OnFull fault (s.used ≡ s.blocks)
  pub cause : Cause s t fault

-- The same, refused as full only if the first record is below the bound.
pub record GaveUpAt (s t : RigState) (low : Record) (r : Reader) (fault : EmFault) : Type 0 where
  pub gave_up : GaveUp s t r fault
  pub needs : IfFull fault (λ used. IsTrue s.device.told → NeedsPart low (reader_items s r))

abbrev pub MovesAll : RigState → RigState → Record → Reader → Reader → Writer → Writer
    → Result (Unit {0}) EmFault → Type 0
MovesAll s t low r q w v (Ok x) =
    (xs : List Record) × Stands (r.blocks + 1) s t low r q w v xs
    × (0 < length xs → s.used < s.blocks)
MovesAll s t low r q w v (Err fault) = GaveUpAt s t low r fault
