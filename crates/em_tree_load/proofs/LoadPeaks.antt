-- The most blocks in use while a leaf is loaded.
use Rattle.std.proofs.Common.{◌≡◌, ℕ, ◌+◌, ◌-◌, ◌*◌, ◌<◌, ◌≤◌, min, ap, ◌∙◌, arith, IsTrue, List, get_or, length, Option, Some}
use Rattle.em_record.specs.Shape.{ShapeNumbers, payload_of}
use Rattle.em_record.specs.declared.record.Record.{Record}
use Rattle.em_frames.specs.Pool.{load_of}
use Rattle.em_space.specs.Ledger.{Halts, Spends, both}
use Rattle.em_space.specs.Rig.{RigState, Sound}
use Rattle.em_space.specs.declared.fault.EmFault.{EmFault}
use Rattle.em_chain.specs.Counts.{ceiling}
use Rattle.em_chain.specs.Session.{writer_account}
use Rattle.em_chain.specs.declared.chain.Chain.{Chain}
use Rattle.em_chain.specs.declared.writer.Writer.{Writer}
use Rattle.em_node.specs.Node.{entries_of, no_entry}
use Rattle.em_settle.specs.declared.step.Step.{Step}
use Rattle.em_empty.specs.Effects.{EmptyingCosts, reached}
use Rattle.em_leaf.specs.Effects.{loaded_account, loading_account, loading_room}
use Rattle.em_leaf.specs.declared.change.LeafChange.{LeafChange}
use Rattle.em_tree_blocks.specs.Node.{buffer_of}
use Rattle.em_tree_blocks.specs.Paths.{child_at}
use Rattle.em_tree_walk.specs.Reads.{ReadsOnly, ReadsPassing}
use Rattle.em_tree_walk.specs.Stands.{IsNodeOf}
use Rattle.em_tree_load.specs.LeafLoads.{CanLoadLeaf, load_peak, taken_of, waiting_over}
use Rattle.em_tree_load.specs.LeafSettles.{load_count}
use Rattle.em_tree_load.specs.LoadRoom.{TakesSplit}
use Rattle.em_tree_load.specs.NodeLoads.{LoadedHere}
use Rattle.em_tree_load.specs.Peaks.{Peaks}
use Rattle.em_tree_walk.specs.SplitPaths.{StopsUpTo, TakesUpTo}
use Rattle.em_tree_load.specs.declared.changing.Split.{Split}
use Rattle.em_tree_load.proofs.LoadTaken.{reached_few, same_count}
use Rattle.em_tree_load.proofs.NodeFrames.{both_given, both_lent}
use Rattle.em_tree_load.proofs.Peaks.{peaks_same, peaks_then, peaks_wider}

-- the room of a load over a state after some reads
room_same : (s r : RigState) (n : ℕ) (buffer : Chain) → r.pool.shape ≡ s.pool.shape
    → n ≡ load_count s buffer → loading_room r n ≡ loading_room s (load_count s buffer)
room_same s r n buffer shape count =
    ap (λ (sh : ShapeNumbers). 2 * ceiling n (payload_of sh) + 3) shape
    ∙ ap (λ (m : ℕ). loading_room s m) count

-- An area was filled, and then a load was settled,
pub load_peaks : {s t u : RigState} {n : ℕ} (buffer : Chain) (v w : Writer) (stored : Chain)
    (change : LeafChange) → Peaks 0 s t → t.pool.shape ≡ s.pool.shape → n ≡ load_count s buffer
    → Spends (w.blocks + stored.blocks + loading_room t n)
    (both (writer_account w) (loading_account t stored n))
    (both (loaded_account change) (writer_account v)) t u
    → Peaks (loading_room s (load_count s buffer)) s u
load_peaks {s} {t} {n = n} buffer v w stored change first shape count h =
    let room = room_same s t n buffer shape count in
    let a = first.used in
    let b = first.most in
    let held = h.held in
    let used = h.used in
    let most = h.most in
    record { used = omega (arith, a, held, used, room); most = omega (arith, a, b, most, room) }

-- or couldn't be.
pub load_stops : {s t u : RigState} {n l f : ℕ} {e : EmFault} (buffer : Chain) (w : Writer)
    (stored : Chain) → Peaks 0 s t → t.pool.shape ≡ s.pool.shape → n ≡ load_count s buffer
    → Halts (w.blocks + stored.blocks + loading_room t n) l f
    (both (writer_account w) (loading_account t stored n)) t u e
    → Peaks (loading_room s (load_count s buffer)) s u
load_stops {s} {t} {n = n} buffer w stored first shape count h =
    let room = room_same s t n buffer shape count in
    let a = first.used in
    let b = first.most in
    let used = h.used in
    let most = h.most in
    record { used = omega (arith, a, used, room); most = omega (arith, a, b, most, room) }

-- The same over a state after some reads.
pub settling_peaks : {s r t : RigState} {n : ℕ} (buffer : Chain) → ReadsOnly n s r
    → Peaks (loading_room r (load_count r buffer)) r t
    → Peaks (loading_room s (load_count s buffer)) s t
settling_peaks {s} {r} buffer x h =
    let shape = x.goes.touches.shape in
    let count : load_count r buffer ≡ load_count s buffer =
    ap (λ (sh : ShapeNumbers). min buffer.count (load_of sh)) shape in
    let room = room_same s r (load_count r buffer) buffer shape count in
    peaks_then (loading_room s (load_count s buffer)) (peaks_same 0 x.same) h (omega (arith, room))

module _ {key : Record → Record} {s r : RigState} {node i : ℕ} {w : Writer} {b : List Record}
    {leaf : ℕ} {buffer : Chain} (sound : Sound s) (can : CanLoadLeaf key s node i w)
    (x : ReadsPassing (IsNodeOf 1 s.pool.shape s.blocks) s r node b)
    (one : i < length (entries_of b)) (leaf_here : leaf ≡ child_at i (entries_of b))
    (buffer_here : buffer ≡ buffer_of (get_or (entries_of b) i no_entry))
    (step : Option Record → Record → Step) (z : IsTrue s.device.told) where
  -- A leaf was settled, of a node that was read,
  pub here_peaks : {m : RigState} → Peaks (loading_room r (load_count r buffer)) r m
      → Peaks (loading_room s (taken_of s (length (waiting_over s node i)))) s m
  here_peaks {m} h =
      let n = taken_of s (length (waiting_over s node i)) in
      let same = ap (λ (k : ℕ). loading_room s k) (same_count sound can x one leaf_here buffer_here step z) in
      peaks_wider (loading_room s n) (omega (arith, same)) (settling_peaks buffer x.reads h)

  -- and what became of it was stored.
  pub stored_peaks : {m t : RigState} → Peaks (loading_room r (load_count r buffer)) r m → Peaks 1 m t
      → Peaks (loading_room s (taken_of s (length (waiting_over s node i))) + 1) s t
  stored_peaks h k =
      peaks_then (loading_room s (taken_of s (length (waiting_over s node i))) + 1) (here_peaks h) k
      (omega arith)

-- The same around frames that were lent.
pub peaks_back : {s t : RigState} (node i : ℕ)
    → Peaks (loading_room (both_lent s) (taken_of (both_lent s)
    (length (waiting_over (both_lent s) node i))) + 1) (both_lent s) t
    → Peaks (loading_room s (taken_of s (length (waiting_over s node i))) + 1) s (both_given t)
peaks_back node i h = record { used = h.used; most = h.most }

-- A chain was poured into a node, or gave up.
pub pouring_peaks : {s t : RigState} {node : ℕ} {c : Chain} → EmptyingCosts s t node c
    → Peaks (reached s node c + 1) s t
pouring_peaks h =
    let a = h.used in
    let b = h.most in
    record { used = omega (arith, a); most = omega (arith, b) }

-- Calls of which it is known how many blocks they took,
pub takes_peaks : {n m : ℕ} {held ks : List ℕ} {s t : RigState} → TakesUpTo n m held ks s t
    → Peaks n s t
takes_peaks h = record { used = h.used; most = h.most }

-- and of which the last one gave up.
pub stops_peaks : {n m : ℕ} {held : List ℕ} {s t : RigState} {e : EmFault}
    → StopsUpTo n m held s t e → Peaks n s t
stops_peaks h = record { used = h.used; most = h.most }

-- A load that left nothing to pour,
pub whole_peaks : {s t : RigState} (node i : ℕ) → Peaks (loading_room s (taken_of s (length (waiting_over s node i))) + 1) s t
    → Peaks (load_peak s node i) s t
whole_peaks {s} node i h = peaks_wider (load_peak s node i) (omega arith) h

-- and one whose rest was poured.
pub poured_peaks : {key : Record → Record} {step : Option Record → Record → Step}
    {s t u : RigState} {node i : ℕ} {w v : Writer} {x : Split}
    → LoadedHere key step s t node i w v (Some x) → TakesSplit key step s t node i w
    → IsTrue s.device.told
    → Peaks (loading_room s (taken_of s (length (waiting_over s node i))) + 1) s t
    → EmptyingCosts t u node x.rest → Peaks (load_peak s node i) s u
poured_peaks {s = s} {node = node} {i = i} h took z first costs =
    let few = reached_few h took z in
    peaks_then (load_peak s node i) first (pouring_peaks costs) (omega (arith, few))
