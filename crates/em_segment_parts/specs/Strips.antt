-- What the multislabs of a node report, of the points of its strips.
use Rattle.std.specs.Prelude.{◌≡◌, ℕ, ◌+◌, ◌*◌, ◌≤◌, ◌^◌, if◌then◌else◌, List, [], ◌∷◌, ◌++◌, length, map, IsTrue, Result, Ok, Err}
use Rattle.em_record.specs.declared.record.Record.{Record}
use Rattle.em_frames.specs.Pool.{load_of}
use Rattle.em_model.specs.Ascending.{Ascend}
use Rattle.em_model.specs.Stab.{NumberedInterval}
use Rattle.em_space.specs.Held.{Apart}
use Rattle.em_space.specs.Rig.{RigState}
use Rattle.em_space.specs.declared.fault.EmFault.{EmFault}
use Rattle.em_chain.specs.Chain.{chain_blocks, chain_items, payload_in}
use Rattle.em_chain.specs.Writer.{writer_blocks}
use Rattle.em_chain.specs.declared.chain.Chain.{Chain}
use Rattle.em_chain.specs.declared.reader.Reader.{Reader}
use Rattle.em_chain.specs.declared.writer.Writer.{Writer}
use Rattle.em_segment_model.specs.Alike.{Alike}
use Rattle.em_segment_model.specs.Points.{asked_in, interval_in}
use Rattle.em_segment_model.specs.Reports.{slab_pairs, strips_pairs}
use Rattle.em_segment_model.specs.Slabs.{Slab, has_strip}
use Rattle.em_segment_parts.specs.Chains.{AreChains, IsPackedChain, chains_blocks, chains_count, chains_held, chains_lists}
use Rattle.em_segment_parts.specs.Lists.{ReadsBeside, ReadsPairs, StopsReading, front_pairs}
use Rattle.em_segment_parts.specs.Pairs.{IsPairs, StopsPairs, WritesPairs}

-- the pairs of a load of strip k with the pieces of a multislab, if it has that strip
abbrev pub slab_front : Slab → ℕ → List Record → List Record → List Record
slab_front slab k load pieces = if has_strip slab k then front_pairs load pieces else []

-- the same with the pieces of all multislabs
abbrev pub load_front : List Slab → ℕ → List Record → List (List Record) → List Record
load_front (t ∷ ts) k load (pieces ∷ lists) = slab_front t k load pieces ++ load_front ts k load lists
load_front ts k load lists = []

-- the pieces of some lists, as intervals
abbrev pub intervals_in : RigState → List Chain → List (List NumberedInterval)
intervals_in s lists = map (map interval_in) (chains_lists s lists)

-- each list has its pieces in the order of their numbers
abbrev pub AreNumbered : List (List NumberedInterval) → Type 0
AreNumbered [] = Unit {0}
AreNumbered (is ∷ iss) = Ascend (λ (i : NumberedInterval). i.number) 0 is (2 ^ 40) × AreNumbered iss

-- The lists of the multislabs, which stay, and the pairs, which have other blocks.
pub record CanReport (s : RigState) (lists : List Chain) (w : Writer) : Type 0 where
  pub are : AreChains s lists
  pub pairs : IsPairs s w
  pub apart : IsTrue s.device.told → Apart (chains_blocks s lists) (writer_blocks s w)
  pub numbered : IsTrue s.device.told → AreNumbered (intervals_in s lists)

-- Pairs of a load with one list were written, or none. If the device tells that cost no more than they
-- pay, and a block.
pub record ReportsSlab (slab : Slab) (k : ℕ) (load : List Record) (s t : RigState) (list : Chain)
    (w v : Writer) : Type 0 where
  pub written : List Record
  pub extra : ℕ
  pub writes : WritesPairs extra s t w v written
  pub is : IsTrue s.device.told → written ≡ slab_front slab k load (chain_items s list)
  pub moves : IsTrue s.device.told → extra * payload_in s ≤ length written + s.pool.shape.block

-- It gave up: the list may have been read to its end.
pub record StopsSlab (slab : Slab) (k : ℕ) (load : List Record) (s t : RigState) (list : Chain)
    (w : Writer) (fault : EmFault) : Type 0 where
  pub tried : ℕ
  pub few : IsTrue s.device.told → tried ≤ length (slab_front slab k load (chain_items s list))
  pub stops : StopsPairs list.blocks tried s t w fault

abbrev pub ReportsSlabTo : {T : Type 0} → Slab → ℕ → List Record → RigState → RigState → Chain
    → Writer → Writer → Result T EmFault → Type 0
ReportsSlabTo slab k load s t list w v (Ok x) = ReportsSlab slab k load s t list w v
ReportsSlabTo slab k load s t list w v (Err fault) = StopsSlab slab k load s t list w fault

-- A load was put against the lists of these multislabs. If the device tells, each cost no more than its
-- pairs pay, and a block.
pub record ReportsLoad (slabs : List Slab) (k : ℕ) (load : List Record) (s t : RigState)
    (lists : List Chain) (w v : Writer) : Type 0 where
  pub written : List Record
  pub extra : ℕ
  pub writes : WritesPairs extra s t w v written
  pub is : IsTrue s.device.told → written ≡ load_front slabs k load (chains_lists s lists)
  pub moves : IsTrue s.device.told
      → extra * payload_in s ≤ length written + length slabs * s.pool.shape.block

-- It gave up. If the device tells, no more pairs were tried than are due; the list at which it gave up may
-- have been read to its end.
pub record StopsLoad (slabs : List Slab) (k : ℕ) (load : List Record) (s t : RigState)
    (lists : List Chain) (w : Writer) (fault : EmFault) : Type 0 where
  pub tried : ℕ
  pub extra : ℕ
  pub stops : StopsPairs extra tried s t w fault
  pub few : IsTrue s.device.told → tried ≤ length (load_front slabs k load (chains_lists s lists))
  pub moves : IsTrue s.device.told → extra * payload_in s
      ≤ length (load_front slabs k load (chains_lists s lists)) + length slabs * s.pool.shape.block
      + chains_held lists * payload_in s

abbrev pub ReportsLoadTo : {T : Type 0} → List Slab → ℕ → List Record → RigState → RigState
    → List Chain → Writer → Writer → Result T EmFault → Type 0
ReportsLoadTo slabs k load s t lists w v (Ok x) = ReportsLoad slabs k load s t lists w v
ReportsLoadTo slabs k load s t lists w v (Err fault) = StopsLoad slabs k load s t lists w fault

-- the pairs that are due of some points of strip k
abbrev pub points_due : List Slab → ℕ → RigState → List Chain → List Record → List Record
points_due slabs k s lists points = slab_pairs slabs (intervals_in s lists) k (map asked_in points)

-- A reader of a strip's points, the lists, and the pairs.
pub record CanReportPoints (s : RigState) (r : Reader) (lists : List Chain) (w : Writer) : Type 0 where
  pub beside : ReadsBeside s r w
  pub lists_can : CanReport s lists w

-- Points were read, and their pairs written, in this many loads.
pub record ReportsPoints (loads : ℕ) (slabs : List Slab) (k n : ℕ) (s t : RigState) (r q : Reader)
    (lists : List Chain) (w v : Writer) : Type 0 where
  pub points : List Record
  pub len : length points ≡ n
  pub written : List Record
  pub extra : ℕ
  pub reads : ReadsPairs extra s t r q w v points written
  pub alike : IsTrue s.device.told → Alike written (points_due slabs k s lists points)
  pub moves : IsTrue s.device.told → extra * payload_in s
      ≤ length written + loads * (length slabs * s.pool.shape.block)

-- It gave up. If the device tells, no more pairs were tried than are due of all points that were left.
pub record StopsPoints (loads : ℕ) (slabs : List Slab) (k : ℕ) (s t : RigState) (r : Reader)
    (lists : List Chain) (w : Writer) (due : List Record) (fault : EmFault) : Type 0 where
  pub tried : ℕ
  pub extra : ℕ
  pub stops : StopsReading extra tried s t r w fault
  pub few : IsTrue s.device.told → tried ≤ length (points_due slabs k s lists due)
  pub moves : IsTrue s.device.told → extra * payload_in s
      ≤ length (points_due slabs k s lists due) + loads * (length slabs * s.pool.shape.block)
      + chains_held lists * payload_in s

-- what one load did, by the result, of a reader with these records left
abbrev pub ReportsNextTo : {T : Type 0} → List Slab → ℕ → ℕ → RigState → RigState → Reader → Reader
    → List Chain → Writer → Writer → List Record → Result T EmFault → Type 0
ReportsNextTo slabs k n s t r q lists w v due (Ok x) = ReportsPoints 1 slabs k n s t r q lists w v
ReportsNextTo slabs k n s t r q lists w v due (Err fault) = StopsPoints 1 slabs k s t r lists w due fault

-- as many loads of this many points as n points need, at most: the loads hold no more than these and one
-- load
pub record LoadsFit (n loads most : ℕ) : Type 0 where
  pub full : loads * most ≤ n + most

-- All points were read.
pub record ReportsAll (most : ℕ) (slabs : List Slab) (k n : ℕ) (s t : RigState) (r q : Reader)
    (lists : List Chain) (w v : Writer) : Type 0 where
  pub loads : ℕ
  pub fit : LoadsFit n loads most
  pub reports : ReportsPoints loads slabs k n s t r q lists w v

pub record StopsAll (most : ℕ) (slabs : List Slab) (k n : ℕ) (s t : RigState) (r : Reader)
    (lists : List Chain) (w : Writer) (due : List Record) (fault : EmFault) : Type 0 where
  pub loads : ℕ
  pub fit : LoadsFit n loads most
  pub stops : StopsPoints loads slabs k s t r lists w due fault

abbrev pub ReportsAllTo : {T : Type 0} → ℕ → List Slab → ℕ → ℕ → RigState → RigState → Reader
    → Reader → List Chain → Writer → Writer → List Record → Result T EmFault → Type 0
ReportsAllTo most slabs k n s t r q lists w v due (Ok x) = ReportsAll most slabs k n s t r q lists w v
ReportsAllTo most slabs k n s t r q lists w v due (Err fault) =
    StopsAll most slabs k n s t r lists w due fault

-- the pairs that are due of one strip's points, and of those of all strips
abbrev pub strip_due : List Slab → ℕ → RigState → Chain → List Chain → List Record
strip_due slabs k s points lists = points_due slabs k s lists (chain_items s points)

abbrev pub strips_due : List Slab → ℕ → RigState → List Chain → List Chain → List Record
strips_due slabs k s strips lists =
    strips_pairs slabs (intervals_in s lists) k (map (map asked_in) (chains_lists s strips))

-- A strip's points and the lists, which stay, and the pairs, which have other blocks.
pub record CanReportStrip (s : RigState) (points : Chain) (lists : List Chain) (w : Writer) : Type 0
  where
    pub points_are : IsPackedChain s points
    pub points_apart : IsTrue s.device.told → Apart (chain_blocks s points) (writer_blocks s w)
    pub lists_can : CanReport s lists w

-- The points of one strip, load by load. If the device tells, that costs no more than its own blocks and
-- the pairs pay, twice its points, and twice the records of an area.
pub record ReportsStrip (slabs : List Slab) (k : ℕ) (s t : RigState) (points : Chain)
    (lists : List Chain) (w v : Writer) : Type 0 where
  pub written : List Record
  pub extra : ℕ
  pub writes : WritesPairs extra s t w v written
  pub alike : IsTrue s.device.told → Alike written (strip_due slabs k s points lists)
  pub moves : IsTrue s.device.told → extra * payload_in s
      ≤ points.blocks * payload_in s + length written + 2 * points.count + 2 * load_of s.pool.shape

-- It gave up.
pub record StopsStrip (slabs : List Slab) (k : ℕ) (s t : RigState) (points : Chain) (lists : List Chain)
    (w : Writer) (fault : EmFault) : Type 0 where
  pub tried : ℕ
  pub extra : ℕ
  pub stops : StopsPairs extra tried s t w fault
  pub few : IsTrue s.device.told → tried ≤ length (strip_due slabs k s points lists)
  pub moves : IsTrue s.device.told → extra * payload_in s
      ≤ points.blocks * payload_in s + length (strip_due slabs k s points lists) + 2 * points.count
      + 2 * load_of s.pool.shape + chains_held lists * payload_in s

abbrev pub ReportsStripTo : {T : Type 0} → List Slab → ℕ → RigState → RigState → Chain → List Chain
    → Writer → Writer → Result T EmFault → Type 0
ReportsStripTo slabs k s t points lists w v (Ok x) = ReportsStrip slabs k s t points lists w v
ReportsStripTo slabs k s t points lists w v (Err fault) = StopsStrip slabs k s t points lists w fault

-- The points of all strips and the lists, which stay, and the pairs, which have other blocks.
pub record CanReportStrips (s : RigState) (strips lists : List Chain) (w : Writer) : Type 0 where
  pub strips_are : AreChains s strips
  pub strips_apart : IsTrue s.device.told → Apart (chains_blocks s strips) (writer_blocks s w)
  pub lists_can : CanReport s lists w

-- The points of all strips, of which the first is strip k.
pub record ReportsStrips (slabs : List Slab) (k : ℕ) (s t : RigState) (strips lists : List Chain)
    (w v : Writer) : Type 0 where
  pub written : List Record
  pub extra : ℕ
  pub writes : WritesPairs extra s t w v written
  pub alike : IsTrue s.device.told → Alike written (strips_due slabs k s strips lists)
  pub moves : IsTrue s.device.told → extra * payload_in s
      ≤ chains_held strips * payload_in s + length written + 2 * chains_count strips
      + 2 * (length strips * load_of s.pool.shape)

-- It gave up.
pub record StopsStrips (slabs : List Slab) (k : ℕ) (s t : RigState) (strips lists : List Chain)
    (w : Writer) (fault : EmFault) : Type 0 where
  pub tried : ℕ
  pub extra : ℕ
  pub stops : StopsPairs extra tried s t w fault
  pub few : IsTrue s.device.told → tried ≤ length (strips_due slabs k s strips lists)
  pub moves : IsTrue s.device.told → extra * payload_in s
      ≤ chains_held strips * payload_in s + length (strips_due slabs k s strips lists)
      + 2 * chains_count strips + 2 * (length strips * load_of s.pool.shape)
      + chains_held lists * payload_in s

abbrev pub ReportsStripsTo : {T : Type 0} → List Slab → ℕ → RigState → RigState → List Chain
    → List Chain → Writer → Writer → Result T EmFault → Type 0
ReportsStripsTo slabs k s t strips lists w v (Ok x) = ReportsStrips slabs k s t strips lists w v
ReportsStripsTo slabs k s t strips lists w v (Err fault) = StopsStrips slabs k s t strips lists w fault
