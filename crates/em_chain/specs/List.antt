-- Blocks of records that lead from one to the next. The first record of a chain block is its
-- header: a is a link to the next block, 0 for none, else its number plus 1; b is the number of the
-- block's records, 1 to P; c is 1, the kind of a chain block; d is 0. The records stand after the
-- header, and what stands after them is anything.
use Rattle.std.specs.Prelude.{◌≡◌, ◌↔◌, ℕ, ◌+◌, ◌-◌, ◌<◌, ◌≤◌, List, [], ◌∷◌, length, take, drop, set}
use Rattle.std.proofs.Math.Seq.{paste}
use Rattle.std.specs.List.{flat_map}
use Rattle.em_record.specs.declared.record.Record.{Record}
use Rattle.em_space.specs.Free.{header}

-- the header of a chain block with this link and this many records
abbrev pub block_header : ℕ → ℕ → Record
block_header link n = record { a = link; b = n; c = 1; d = 0 }

-- the records of a block
abbrev pub payload : List Record → List Record
payload b = take (header b).b (drop 1 b)

-- the records of blocks, one after another
abbrev pub items_in : List (List Record) → List Record
items_in cs = flat_map payload cs

-- A block has its header and at least one record, at most p.
pub record IsBlock (p : ℕ) (b : List Record) : Type 0 where
  pub is : header b ≡ block_header (header b).a (header b).b
  pub some : 1 ≤ (header b).b
  pub most : (header b).b ≤ p
  pub len : length b ≡ p + 1

-- A record is the header of a chain block of at most this many records, on a device of this many
-- blocks.
pub record IsHeader (first : Record) (most blocks : ℕ) : Type 0 where
  pub is : first ≡ block_header first.a first.b
  pub some : 1 ≤ first.b
  pub most_is : first.b ≤ most
  pub link_is : first.a ≤ blocks

-- a link of a block that this many others follow
abbrev pub LinksTo : ℕ → ℕ → Type 0
LinksTo link left = (link ≡ 0) ↔ (left ≡ 0)

-- These blocks have these contents, each leads to the next, and the last one to none.
abbrev pub IsRun : ℕ → ℕ → List ℕ → List (List Record) → Type 0
IsRun p link [] [] = link ≡ 0
IsRun p link [] (c ∷ cs) = ⊥
IsRun p link (k ∷ ks) [] = ⊥
IsRun p link (k ∷ ks) (c ∷ cs) = (link ≡ k + 1) × IsBlock p c × IsRun p (header c).a ks cs

-- The same, and the last block may lead on.
abbrev pub IsRunOpen : ℕ → ℕ → List ℕ → List (List Record) → Type 0
IsRunOpen p link [] [] = Unit {0}
IsRunOpen p link [] (c ∷ cs) = ⊥
IsRunOpen p link (k ∷ ks) [] = ⊥
IsRunOpen p link (k ∷ ks) (c ∷ cs) = (link ≡ k + 1) × IsBlock p c × IsRunOpen p (header c).a ks cs

-- a link to the last block
abbrev pub last_link : List ℕ → ℕ
last_link [] = 0
last_link (k ∷ []) = k + 1
last_link (k ∷ j ∷ ks) = last_link (j ∷ ks)

-- fewer records are passed over than the first block has
abbrev pub SkipFits : ℕ → List (List Record) → Type 0
SkipFits skip [] = skip ≡ 0
SkipFits skip (c ∷ cs) = skip < (header c).b

-- every block but the last has p records
abbrev pub AllButLast : ℕ → List (List Record) → Type 0
AllButLast p [] = Unit {0}
AllButLast p (c ∷ []) = Unit {0}
AllButLast p (c ∷ d ∷ cs) = ((header c).b ≡ p) × AllButLast p (d ∷ cs)

-- The five words of a list: a link to its first block, how many of that block's records are passed
-- over, a link to its last block, its records and its blocks.
pub record Words : Type 0 where
  pub head : ℕ
  pub skip : ℕ
  pub tail : ℕ
  pub count : ℕ
  pub blocks : ℕ

-- the records that a list has where its blocks hold these contents
abbrev pub items_of : Words → List (List Record) → List Record
items_of w cs = drop w.skip (items_in cs)

-- The words fit these blocks with these contents.
pub record IsList (p : ℕ) (w : Words) (ks : List ℕ) (cs : List (List Record)) : Type 0 where
  pub run : IsRun p w.head ks cs
  pub blocks_is : length ks ≡ w.blocks
  pub tail_is : last_link ks ≡ w.tail
  pub count_is : w.skip + w.count ≡ length (items_in cs)
  pub skip_fits : SkipFits w.skip cs

-- The same of blocks of which the last may lead on. The word for the last block isn't asked.
pub record IsOpenList (p : ℕ) (w : Words) (ks : List ℕ) (cs : List (List Record)) : Type 0 where
  pub run : IsRunOpen p w.head ks cs
  pub blocks_is : length ks ≡ w.blocks
  pub count_is : w.skip + w.count ≡ length (items_in cs)
  pub skip_fits : SkipFits w.skip cs

-- Packed: nothing is passed over, and every block but the last is full.
pub record IsPackedIn (p : ℕ) (w : Words) (cs : List (List Record)) : Type 0 where
  pub skip_is : w.skip ≡ 0
  pub full : AllButLast p cs

-- a block with another link
abbrev pub with_link : ℕ → ℕ → List Record → List Record
with_link link n b = set b 0 (block_header link n)

-- a block of n records without its first ones
abbrev pub shifted : List Record → ℕ → ℕ → ℕ → List Record
shifted b skip link n =
    set (paste b 1 (drop (skip + 1) b) (n - skip)) 0 (block_header link (n - skip))
