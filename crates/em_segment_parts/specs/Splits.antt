-- Points that are cut by place into strips.
use Rattle.std.specs.Prelude.{◌≡◌, true, ℕ, ◌+◌, ◌*◌, ◌<◌, ◌≤◌, List, [], ◌∷◌, ◌++◌, length, map, IsTrue, Result, Ok, Err}
use Rattle.em_record.specs.declared.record.Record.{Record}
use Rattle.em_space.specs.Held.{Apart, Holds}
use Rattle.em_space.specs.Ledger.{Account, Runs, Stops, both}
use Rattle.em_space.specs.Rig.{RigState}
use Rattle.em_space.specs.declared.fault.EmFault.{EmFault}
use Rattle.em_chain.specs.Chain.{chain_blocks, chain_items}
use Rattle.em_chain.specs.Parts.{pair_more}
use Rattle.em_chain.specs.Reader.{IsReader, rest_of}
use Rattle.em_chain.specs.Session.{Pairs, Took, chain_account, one_more, pair_account, pair_blocks, taking_account}
use Rattle.em_chain.specs.Writer.{IsPackedSoFar, IsWriter, filled, writer_blocks}
use Rattle.em_chain.specs.declared.chain.Chain.{Chain}
use Rattle.em_chain.specs.declared.reader.Reader.{Reader}
use Rattle.em_chain.specs.declared.writer.Writer.{Writer}
use Rattle.em_segment_model.specs.Points.{joined}
use Rattle.em_segment_model.specs.Sizes.{fan_root}
use Rattle.em_segment_model.specs.Spans.{value_span}
use Rattle.em_segment_model.specs.declared.strip.Span.{Span}
use Rattle.em_segment_parts.specs.Chains.{AreChains, IsPackedChain, chains_blocks, chains_count, chains_held, chains_in, chains_lists}
use Rattle.em_segment_parts.specs.Reports.{Shifts, StopsShifting}
use Rattle.em_segment_parts.specs.declared.splitting.Strips.{Strips}

-- A reader that takes points, and the strip to which they are copied, which has other blocks.
pub record CanCopy (s : RigState) (r : Reader) (w : Writer) : Type 0 where
  pub reader : IsReader s r
  pub taking : r.taking ≡ true
  pub writer : IsWriter s w
  pub filled_is : filled s w ≡ w.count
  pub packed : IsTrue s.device.told → IsPackedSoFar s w
  pub apart : IsTrue s.device.told → Apart (writer_blocks s w) (chain_blocks s (rest_of r))

-- One point was copied, which has this value.
pub record CopiesPoint (value : ℕ) (s t : RigState) (r q : Reader) (w v : Writer) : Type 0 where
  pub point : Record
  pub value_is : value ≡ point.a
  pub pairs : Pairs (pair_more s r w) s t r q w v (point ∷ []) (point ∷ [])

-- It gave up.
pub record StopsCopy (s t : RigState) (r : Reader) (w : Writer) (fault : EmFault) : Type 0 where
  pub stops : Stops (pair_more s r w) (2 * one_more s w) 1 (pair_blocks s r w) (pair_account r w) s t
      fault

abbrev pub CopiesOneTo : RigState → RigState → Reader → Reader → Writer → Writer → Result ℕ EmFault
    → Type 0
CopiesOneTo s t r q w v (Ok value) = CopiesPoint value s t r q w v
CopiesOneTo s t r q w v (Err fault) = StopsCopy s t r w fault

-- The points of a strip were copied, which have this span. Blocks are released as they are read, so that
-- one block more than there were was enough.
pub record CopiesStrip (n : ℕ) (span : Span) (s t : RigState) (r q : Reader) (w v : Writer) : Type 0
  where
    pub points : List Record
    pub len : length points ≡ n
    pub span_is : span ≡ value_span points
    pub pairs : Pairs (r.blocks + 1) s t r q w v points points

-- It gave up.
pub record StopsCopying (s t : RigState) (r : Reader) (w : Writer) (fault : EmFault) : Type 0 where
  pub stops : Stops (r.blocks + 1) (2 * r.blocks + 2) 1 (pair_blocks s r w) (pair_account r w) s t fault

abbrev pub CopiesTo : ℕ → RigState → RigState → Reader → Reader → Writer → Writer → Result Span EmFault
    → Type 0
CopiesTo n s t r q w v (Ok span) = CopiesStrip n span s t r q w v
CopiesTo n s t r q w v (Err fault) = StopsCopying s t r w fault

-- the chains of a node's strips
abbrev pub strips_in : Strips → List Chain
strips_in z = chains_in z.points.items

-- the account of strips that were written: each was finished by a move
abbrev pub strips_account : List Chain → Account
strips_account cs = record {
  blocks = chains_held cs;
  unstored = 0;
  paid = 2 * chains_held cs + length cs;
  owed = 0;
}

-- A reader that takes points, and the strips so far, which have other blocks.
pub record CanSplit (s : RigState) (r : Reader) (z : Strips) : Type 0 where
  pub reader : IsReader s r
  pub taking : r.taking ≡ true
  pub strips : AreChains s (strips_in z)
  pub len : length z.spans.items ≡ length z.points.items
  pub holds : IsTrue s.device.told
      → Holds s (chain_blocks s (rest_of r) ++ chains_blocks s (strips_in z))

-- n points became one strip more; the others are as they were.
pub record SplitsOff (n : ℕ) (s t : RigState) (r q : Reader) (z y : Strips) : Type 0 where
  pub points : List Record
  pub len : length points ≡ n
  pub chain : Chain
  pub chain_is : IsPackedChain t chain
  pub count_is : chain.count ≡ n
  pub some : 0 < chain.blocks
  pub items : IsTrue s.device.told → chain_items t chain ≡ points
  pub spans_are : y.spans.items ≡ z.spans.items ++ value_span points ∷ []
  pub points_are : y.points.items ≡ z.points.items ++ record { chain = chain } ∷ []
  pub took : Took s t r q points
  pub runs : Runs (r.blocks + 1) (chain_blocks s (rest_of r))
      (chain_blocks t (rest_of q) ++ chain_blocks t chain) (taking_account r)
      (both (taking_account q) (chain_account 1 chain)) s t

-- It gave up.
pub record StopsSplit (s t : RigState) (r : Reader) (fault : EmFault) : Type 0 where
  pub stops : Stops (r.blocks + 1) (2 * r.blocks + 3) 1 (chain_blocks s (rest_of r)) (taking_account r)
      s t fault

abbrev pub SplitsOffTo : {T : Type 0} → ℕ → RigState → RigState → Reader → Reader → Strips → Strips
    → Result T EmFault → Type 0
SplitsOffTo n s t r q z y (Ok x) = SplitsOff n s t r q z y
SplitsOffTo n s t r q z y (Err fault) = StopsSplit s t r fault

-- each strip has a point, and no more than this many
abbrev pub AreCut : ℕ → List Chain → Type 0
AreCut most [] = Unit {0}
AreCut most (c ∷ cs) = ((0 < c.count) × (c.count ≤ most)) × AreCut most cs

-- The points that were read became strips, in their order.
pub record SplitsSome (most : ℕ) (s t : RigState) (r q : Reader) (z : Strips) : Type 0 where
  pub points : List Record
  pub took : Took s t r q points
  pub are : AreChains t (strips_in z)
  pub cut : AreCut most (strips_in z)
  pub len : length z.spans.items ≡ length z.points.items
  pub count_is : chains_count (strips_in z) ≡ length points
  -- all but the last have the most points
  pub few : length z.points.items * most < length points + most
  -- each has a block
  pub some : length z.points.items ≤ chains_held (strips_in z)
  pub lists : IsTrue s.device.told → joined (chains_lists t (strips_in z)) ≡ points
  pub spans : IsTrue s.device.told → z.spans.items ≡ map value_span (chains_lists t (strips_in z))
  pub runs : Runs (r.blocks + length z.points.items) (chain_blocks s (rest_of r))
      (chain_blocks t (rest_of q) ++ chains_blocks t (strips_in z)) (taking_account r)
      (both (taking_account q) (strips_account (strips_in z))) s t

-- All points were read.
pub record SplitsAll (most : ℕ) (s t : RigState) (r q : Reader) (z : Strips) : Type 0 where
  pub none : q.count ≡ 0
  pub splits : SplitsSome most s t r q z

-- It gave up. A strip has at most one block more than were released for it.
pub record StopsSome (strips : ℕ) (s t : RigState) (r : Reader) (fault : EmFault) : Type 0 where
  pub stops : Stops (r.blocks + strips + 1) (2 * r.blocks + 3 * strips + 3) 1
      (chain_blocks s (rest_of r)) (taking_account r) s t fault

abbrev pub SplitsSomeTo : ℕ → RigState → RigState → Reader → Reader → Result Strips EmFault → Type 0
SplitsSomeTo most s t r q (Ok z) = SplitsAll most s t r q z
SplitsSomeTo most s t r q (Err fault) = StopsSome (fan_root s.pool.shape) s t r fault

-- The points of a chain became strips of this many points, of which the last may have fewer, and the
-- chain's blocks were released.
pub record Splits (most : ℕ) (s t : RigState) (points : Chain) (z : Strips) : Type 0 where
  pub are : AreChains t (strips_in z)
  pub cut : AreCut most (strips_in z)
  pub len : length z.spans.items ≡ length z.points.items
  pub count_is : chains_count (strips_in z) ≡ points.count
  pub few : length z.points.items * most < points.count + most
  pub lists : IsTrue s.device.told → joined (chains_lists t (strips_in z)) ≡ chain_items s points
  pub spans : IsTrue s.device.told → z.spans.items ≡ map value_span (chains_lists t (strips_in z))
  pub shifts : Shifts (points.blocks + chains_held (strips_in z))
      (2 * points.blocks + 2 * chains_held (strips_in z) + length z.points.items)
      (chain_blocks s points) (chains_blocks t (strips_in z)) points.blocks (chains_held (strips_in z))
      s t

abbrev pub SplitsTo : ℕ → RigState → RigState → Chain → Result Strips EmFault → Type 0
SplitsTo most s t points (Ok z) = Splits most s t points z
SplitsTo most s t points (Err fault) =
    StopsShifting (points.blocks + fan_root s.pool.shape + 1)
    (4 * points.blocks + 3 * fan_root s.pool.shape + 3) (chain_blocks s points) points.blocks s t fault
