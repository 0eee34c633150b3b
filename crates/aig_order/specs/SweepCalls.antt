-- What the calls of a sweep do beside a queue, a list that is written and one that is read.
use Rattle.std.specs.Prelude.{◌≡◌, ℕ, ◌+◌, ◌*◌, ◌<◌, ◌≤◌, ◌^◌, true, List, [], ◌∷◌, ◌++◌, length, drop, get_or, Option, Some, None, if◌then◌else◌, IsTrue, Result, Ok, Err}
use Rattle.em_record.specs.declared.record.Record.{Record}
use Rattle.em_record.specs.Order.{with_record}
use Rattle.em_frames.specs.Device.{zero_record}
use Rattle.em_frames.specs.Pool.{singles_of}
use Rattle.em_space.specs.Held.{Apart, Holds}
use Rattle.em_space.specs.Ledger.{Account, both, Runs, Stops}
use Rattle.em_space.specs.Queue.{CanServe}
use Rattle.em_space.specs.Rig.{RigState, Sound}
use Rattle.em_space.specs.declared.fault.EmFault.{EmFault}
use Rattle.em_space.specs.declared.fault.EmFault.TheVariants.{Damaged}
use Rattle.em_space.specs.declared.queue.Queue.{Ghosts as QueueGhosts}
use Rattle.em_chain.specs.Chain.{chain_blocks}
use Rattle.em_chain.specs.Reader.{IsReader, reader_blocks, rest_of}
use Rattle.em_chain.specs.Session.{Took, Wrote, writer_account}
use Rattle.em_chain.specs.Writer.{IsPackedSoFar, IsWriter, filled, writer_blocks, writer_items}
use Rattle.em_chain.specs.declared.reader.Reader.{Reader}
use Rattle.em_chain.specs.declared.writer.Writer.{Writer}
use Rattle.em_queued.specs.Popped.{HasRoom, grown_blocks}
use Rattle.em_queued.specs.Queued.{RunsBeside, StopsBeside, no_account}
use Rattle.aig_defs.specs.declared.circuit.Header.{Header}
use Rattle.aig_edges.specs.Pushes.{reader_account}
use Rattle.aig_order.specs.declared.limits.Limits.{Limits}
use Rattle.aig_order.specs.declared.standing.Standing.{Standing}
use Rattle.aig_order.specs.declared.standing.Sweep.{Sweep}
use Rattle.aig_order.specs.declared.standing.Sweep.TheVariants.{Recall, Find, Send, Rank}
use Rattle.aig_order.specs.Sweeps.{Moment, at_rank, found_rank, is_edge, is_gate, is_told, leads_to_gate, meet_all, note, operand_edge, past_gate, takes_notes, with_rank, written_edge}

-- each number is below this one
abbrev pub AllBelow : ℕ → List Record → Type 0
AllBelow k [] = Unit {0}
AllBelow k (m ∷ ms) = (m.b < k) × AllBelow k ms

-- the calls of the queue at a record: its note is pushed, or it takes two
abbrev pub calls_at : Sweep → Record → ℕ
calls_at sweep r =
    if is_edge r then (if is_told sweep r then 1 else 0) else (if takes_notes sweep r then 2 else 0)

-- how many records are written there
abbrev pub written_at : Sweep → Record → ℕ
written_at Recall r = 0
written_at Find r = 1
written_at Send r = if is_edge r then (if leads_to_gate r then 0 else 1) else 0
written_at Rank r = if is_edge r then 0 else (if is_gate r then 2 else 0)

-- the calls at some records, and how many are written for them
abbrev pub sweep_calls : Sweep → List Record → ℕ
sweep_calls sweep [] = 0
sweep_calls sweep (r ∷ rs) = calls_at sweep r + sweep_calls sweep rs

abbrev pub sweep_written : Sweep → List Record → ℕ
sweep_written sweep [] = 0
sweep_written sweep (r ∷ rs) = written_at sweep r + sweep_written sweep rs

-- These records are within what is left to do.
pub record Fits (sweep : Sweep) (rs : List Record) (l : Limits) : Type 0 where
  pub calls : sweep_calls sweep rs ≤ l.calls
  pub records : sweep_written sweep rs ≤ l.records

-- What is left after these records.
pub record LeftAfter (sweep : Sweep) (rs : List Record) (l k : Limits) : Type 0 where
  pub calls : k.calls + sweep_calls sweep rs ≡ l.calls
  pub records : k.records + sweep_written sweep rs ≡ l.records

-- what counting a record did, by the result: no such list comes from a device that tells
abbrev pub SpendsTo : {T : Type 0} → Sweep → Record → Limits → Limits → Result T EmFault → Type 0
SpendsTo sweep r l k (Ok done) = LeftAfter sweep (r ∷ []) l k
SpendsTo sweep r l k (Err fault) = (fault ≡ Damaged 0) × (Fits sweep (r ∷ []) l → ⊥)

-- the items of the queue after a record, which has this number
abbrev pub items_after : Sweep → Standing → ℕ → Record → List Record → List Record
items_after sweep p n r ms =
    if is_edge r
    then (if is_told sweep r then with_record (note sweep p.found p.rank r n) ms else ms)
    else (if takes_notes sweep r then drop 2 ms else ms)

-- what comes after a record that took these notes, or none
abbrev pub standing_after : Sweep → Standing → Record → Record → Record → Standing
standing_after Find p r first second =
    if is_edge r then p
    else (if is_gate r then past_gate p r (found_rank p.next r first second)
    else at_rank r.c p.next)
standing_after sweep p r first second = if is_edge r then p else at_rank r.c p.next

-- what is written for it: two records at most
abbrev pub written_after : Header → Sweep → Standing → Record → Record → Record
    → Option Record × Option Record
written_after h Recall p r first second = (None, None)
written_after h Find p r first second = (
  Some (if is_edge r then r
      else (if is_gate r then with_rank r (found_rank p.next r first second) else r)),
  None,
)
written_after h Send p r first second =
    (if is_edge r then written_edge h Send p.rank r else None, None)
written_after h Rank p r first second =
    if is_edge r then (None, None)
    else (if is_gate r then (Some (operand_edge first r.c), Some (operand_edge second r.c))
    else (None, None))

-- What a queue's calls at some records want: few came, and it has few items.
pub record CanNote {Q : Type 0} (q : QueueGhosts Q) (n : ℕ) (x : Q) (s : RigState) : Type 0 where
  pub sound : Sound s
  pub free : CanServe s.pool
  pub few : (q.counts x).n + 2 * n < 2 ^ 100
  pub limit : (q.counts x).len + 2 * n < 2 ^ 56

-- Two notes were taken, or records of zeros stand for those that are missing.
pub record TakesNotes {Q : Type 0} (q : QueueGhosts Q) (x y : Q) (notes : Record × Record)
    (s t : RigState) : Type 0 where
  pub runs : RunsBeside 2 0 (q.blocks x s) (q.blocks y t) no_account no_account (q.counts x)
      (q.counts y) s t
  pub items : IsTrue s.device.told → q.items y t ≡ drop 2 (q.items x s)
  pub first : IsTrue s.device.told → notes.0 ≡ get_or (q.items x s) 0 zero_record
  pub second : IsTrue s.device.told → notes.1 ≡ get_or (q.items x s) 1 zero_record
  pub len : (q.counts y).len ≤ (q.counts x).len

-- what taking them did, by the result
abbrev pub TakesTo : {Q : Type 0} → QueueGhosts Q → Q → Q → RigState → RigState
    → Result (Record × Record) EmFault → Type 0
TakesTo q x y s t (Ok notes) = TakesNotes q x y notes s t
TakesTo q x y s t (Err fault) =
    StopsBeside q.room 2 0 0 0 (q.blocks x s) no_account (q.counts x) (q.counts y) s t fault

-- The note of a record with this number was pushed, or its two were taken, or neither is due.
pub record PassesNotes {Q : Type 0} (q : QueueGhosts Q) (sweep : Sweep) (p : Standing) (n : ℕ)
    (r : Record) (x y : Q) (notes : Record × Record) (s t : RigState) : Type 0 where
  pub runs : RunsBeside (calls_at sweep r) 0 (q.blocks x s) (q.blocks y t) no_account no_account
      (q.counts x) (q.counts y) s t
  pub items : IsTrue s.device.told → q.items y t ≡ items_after sweep p n r (q.items x s)
  pub first : IsTrue s.device.told → takes_notes sweep r ≡ true
      → notes.0 ≡ get_or (q.items x s) 0 zero_record
  pub second : IsTrue s.device.told → takes_notes sweep r ≡ true
      → notes.1 ≡ get_or (q.items x s) 1 zero_record
  pub len : (q.counts y).len ≤ (q.counts x).len + calls_at sweep r

-- what these calls did, by the result
abbrev pub PassesTo : {Q : Type 0} → QueueGhosts Q → Sweep → Standing → ℕ → Record → Q → Q
    → RigState → RigState → Result (Record × Record) EmFault → Type 0
PassesTo q sweep p n r x y s t (Ok notes) = PassesNotes q sweep p n r x y notes s t
PassesTo q sweep p n r x y s t (Err fault) =
    StopsBeside q.room (calls_at sweep r) 0 0 0 (q.blocks x s) no_account (q.counts x) (q.counts y) s t
    fault

-- These records were written, and no call was refused.
pub record Puts (xs : List Record) (w v : Writer) (s t : RigState) : Type 0 where
  pub runs : Runs v.blocks (writer_blocks s w) (writer_blocks t v) (writer_account w)
      (writer_account v) s t
  pub wrote : Wrote s t w v xs
  pub grows : w.blocks ≤ v.blocks
  pub more : v.blocks ≤ w.blocks + length xs

-- what writing them did, by the result
abbrev pub PutsTo : {T : Type 0} → List Record → Writer → Writer → RigState → RigState
    → Result T EmFault → Type 0
PutsTo xs w v s t (Ok done) = Puts xs w v s t
PutsTo xs w v s t (Err fault) = Stops (grown_blocks (length xs) s w)
    (2 * grown_blocks (length xs) s w) 1 (writer_blocks s w) (writer_account w) s t fault

-- the items of the queue, the definition that came last, and what was written so far
abbrev pub moment_of : {Q : Type 0} → QueueGhosts Q → Q → Standing → Writer → RigState → Moment
moment_of q x p w s = record {
  items = q.items x s;
  standing = p;
  written = writer_items s w;
}

-- What meeting n records beside a queue and a list that is written wants.
pub record CanMeet {Q : Type 0} (q : QueueGhosts Q) (n : ℕ) (x : Q) (w : Writer) (s : RigState)
    : Type 0 where
  pub notes : CanNote q n x s
  pub writer : IsWriter s w
  pub room : HasRoom (2 * n) w
  pub holds : IsTrue s.device.told → Holds s (q.blocks x s ++ writer_blocks s w)
  pub out : s.pool.free + (q.counts x).frames + 1 ≤ singles_of s.pool.shape

-- These records, of which the first has this number, were met: the moment is the one that a sweep
-- makes of the first moment.
pub record Meets {Q : Type 0} (q : QueueGhosts Q) (h : Header) (sweep : Sweep) (n : ℕ)
    (rs : List Record) (x y : Q) (p j : Standing) (w v : Writer) (s t : RigState) : Type 0 where
  pub told : t.device.told ≡ s.device.told
  pub is : IsWriter t v
  pub moment : IsTrue s.device.told
      → moment_of q y j v t ≡ meet_all h sweep n rs (moment_of q x p w s)
  pub packed : IsTrue s.device.told → IsPackedSoFar s w → IsPackedSoFar t v
  pub filled_is : filled t v ≡ filled s w + sweep_written sweep rs
  pub count_is : v.count ≡ w.count + sweep_written sweep rs
  pub grows : w.blocks ≤ v.blocks
  pub more : v.blocks ≤ w.blocks + sweep_written sweep rs
  pub len : (q.counts y).len ≤ (q.counts x).len + sweep_calls sweep rs

-- One record was met beside a queue and a list that is written.
pub record MeetsOne {Q : Type 0} (q : QueueGhosts Q) (h : Header) (sweep : Sweep) (n : ℕ)
    (r : Record) (x y : Q) (p j : Standing) (w v : Writer) (s t : RigState) : Type 0 where
  pub runs : RunsBeside (calls_at sweep r) v.blocks (q.blocks x s ++ writer_blocks s w)
      (q.blocks y t ++ writer_blocks t v) (writer_account w) (writer_account v) (q.counts x)
      (q.counts y) s t
  pub meets : Meets q h sweep n (r ∷ []) x y p j w v s t

-- what meeting it did, by the result
abbrev pub MeetsTo : {Q : Type 0} → QueueGhosts Q → Header → Sweep → ℕ → Record → Q → Q → Standing
    → Writer → Writer → RigState → RigState → Result Standing EmFault → Type 0
MeetsTo q h sweep n r x y p w v s t (Ok j) = MeetsOne q h sweep n r x y p j w v s t
MeetsTo q h sweep n r x y p w v s t (Err fault) = StopsBeside q.room (calls_at sweep r)
    (grown_blocks (written_at sweep r) s w) (2 * grown_blocks (written_at sweep r) s w) 1
    (q.blocks x s ++ writer_blocks s w) (writer_account w) (q.counts x) (q.counts y) s t fault

-- the blocks of a queue, of a list that is written and of one that is read
abbrev pub sweep_blocks : {Q : Type 0} → QueueGhosts Q → Q → Writer → Reader → RigState → List ℕ
sweep_blocks q x w r s = (q.blocks x s ++ writer_blocks s w) ++ reader_blocks s r

abbrev pub sweep_account : Writer → Reader → Account
sweep_account w r = both (writer_account w) (reader_account r)

-- What sweeping over n records wants. The list that is read has no block in common with the others.
pub record CanSweep {Q : Type 0} (q : QueueGhosts Q) (n : ℕ) (x : Q) (w : Writer) (r : Reader)
    (s : RigState) : Type 0 where
  pub meets : CanMeet q n x w s
  pub reader : IsReader s r
  pub count : n ≤ r.count
  pub apart : IsTrue s.device.told
      → Apart (chain_blocks s (rest_of r)) (q.blocks x s ++ writer_blocks s w)
  pub holds : IsTrue s.device.told → Holds s (sweep_blocks q x w r s)
  pub out : s.pool.free + (q.counts x).frames + 2 ≤ singles_of s.pool.shape

-- n records, of which the first has this number, were read and met, and no call was refused.
pub record Sweeps {Q : Type 0} (q : QueueGhosts Q) (h : Header) (sweep : Sweep) (i n : ℕ)
    (x y : Q) (p j : Standing) (w v : Writer) (r k : Reader) (bound left : Limits) (s t : RigState)
    : Type 0 where
  pub records : List Record
  pub len : length records ≡ n
  pub spent : LeftAfter sweep records bound left
  pub took : Took s t r k records
  pub meets : Meets q h sweep i records x y p j w v s t
  pub runs : RunsBeside (sweep_calls sweep records) (v.blocks + (reader_account r).blocks)
      (sweep_blocks q x w r s) (sweep_blocks q y v k t) (sweep_account w r) (sweep_account v k)
      (q.counts x) (q.counts y) s t
  pub apart : IsTrue t.device.told
      → Apart (chain_blocks t (rest_of k)) (q.blocks y t ++ writer_blocks t v)

-- A call was refused before all records were met, or they went past the limits, which none of a device
-- that tells do. The calls and the records to be written were within them.
pub record StopsSweeping {Q : Type 0} (q : QueueGhosts Q) (x y : Q) (w : Writer) (r : Reader)
    (bound : Limits) (s t : RigState) (fault : EmFault) : Type 0 where
  pub calls : ℕ
  pub written : ℕ
  pub calls_most : calls ≤ bound.calls
  pub written_most : written ≤ bound.records
  pub stops : StopsBeside q.room calls (grown_blocks written s w + (reader_account r).blocks)
      (2 * grown_blocks written s w) 1 (sweep_blocks q x w r s) (sweep_account w r) (q.counts x)
      (q.counts y) s t fault

-- what sweeping over n records did, by the result
abbrev pub SweepsTo : {Q : Type 0} → QueueGhosts Q → Header → Sweep → ℕ → ℕ → Q → Q → Standing
    → Writer → Writer → Reader → Reader → Limits → Limits → RigState → RigState
    → Result Standing EmFault → Type 0
SweepsTo q h sweep i n x y p w v r k bound left s t (Ok j) =
    Sweeps q h sweep i n x y p j w v r k bound left s t
SweepsTo q h sweep i n x y p w v r k bound left s t (Err fault) =
    StopsSweeping q x y w r bound s t fault
