-- The blocks of calls along a circuit's edges are within the circuit's room.
use Rattle.std.proofs.Common.{◌≡◌, ℕ, ◌+◌, ◌*◌, ◌<◌, ◌≤◌, max, None, Some, IfSome, IsTrue, Result, Ok, Err, ap, arith}
use Rattle.std.proofs.Math.Nat.{mul-le-mul_left}
use Rattle.em_record.specs.Cost.{blocks_of, room}
use Rattle.em_record.specs.Shape.{ShapeNumbers, IsShape, payload_of}
use Rattle.em_record.proofs.Blocks.{ceil_holds}
use Rattle.em_space.specs.Queue.{QueueCounts}
use Rattle.em_space.specs.Rig.{IfFull, RigState}
use Rattle.em_space.specs.declared.fault.EmFault.{EmFault}
use Rattle.em_space.specs.declared.fault.EmFault.TheVariants.{DeviceFault, Full, Damaged}
use Rattle.em_chain.specs.Counts.{ceiling}
use Rattle.em_queued.specs.Room.{FullBeside, StatedRoom}
use Rattle.em_tree_cost.specs.Shares.{tree_room}
use Rattle.em_tree_cost.proofs.Ceilings.{ceil_most, ceiling_is}
use Rattle.em_tree_cost.proofs.Circuits.{evaluation_run_room}
use Rattle.em_tree_cost.proofs.Rising.{tree_room_rises}
use Rattle.aig_defs.specs.Begun.{circuit_size}
use Rattle.aig_defs.specs.declared.circuit.Header.{Header}
use Rattle.aig_text.specs.Ascii.{IfEm, IfEmStop}
use Rattle.aig_text.specs.declared.stop.AigStop.{AigStop}
use Rattle.aig_text.specs.declared.stop.AigStop.TheVariants as stop
use Rattle.aig_edges.specs.Room.{FullInRoom, HoldsAllBlocks, IsInRoom, circuit_room}

-- the blocks of 2E records
abbrev pub circuit_blocks : ShapeNumbers → Header → ℕ
circuit_blocks shape h = blocks_of shape (2 * circuit_size h)

-- at most E records are in a list of no more blocks than 2E records fill
pub list_blocks : (shape : ShapeNumbers) (n E : ℕ) → IsShape shape → n ≤ E
    → ceiling n (payload_of shape) ≤ blocks_of shape (2 * E)
list_blocks shape n E is l =
    let q = blocks_of shape (2 * E) in
    let low = is.block_low in
    let all = ceil_holds (2 * E) shape.block (omega (arith, low)) in
    let half : q * shape.block ≤ q * (2 * payload_of shape) = mul-le-mul_left q (omega (arith, low)) in
    ceil_most (ceiling n (payload_of shape)) (payload_of shape) n q
    (ceiling_is n (payload_of shape) (omega (arith, low)))
    (halves n E q (payload_of shape) (q * shape.block) l all half)
  where
    halves : (n E q p records : ℕ) → n ≤ E → 2 * E ≤ records → records ≤ q * (2 * p) → n ≤ q * p
    halves n E q p records l a h = omega (arith, l, a, h)

-- and at most 2E in one of twice as many
pub double_blocks : (shape : ShapeNumbers) (n E : ℕ) → IsShape shape → n ≤ 2 * E
    → ceiling n (payload_of shape) ≤ 2 * blocks_of shape (2 * E)
double_blocks shape n E is l =
    let q = blocks_of shape (2 * E) in
    let low = is.block_low in
    let all = ceil_holds (2 * E) shape.block (omega (arith, low)) in
    let half : q * shape.block ≤ q * (2 * payload_of shape) = mul-le-mul_left q (omega (arith, low)) in
    ceil_most (ceiling n (payload_of shape)) (payload_of shape) n (2 * q)
    (ceiling_is n (payload_of shape) (omega (arith, low)))
    (doubles n E q (payload_of shape) (q * shape.block) l all half)
  where
    doubles : (n E q p records : ℕ) → n ≤ 2 * E → 2 * E ≤ records → records ≤ q * (2 * p)
        → n ≤ (2 * q) * p
    doubles n E q p records l a h = omega (arith, l, a, h)

-- the blocks of a short list
pub short_list : (n m p blocks q : ℕ) → n ≡ m → blocks ≤ ceiling n p + 2 → ceiling m p ≤ q
    → blocks ≤ q + 2
short_list n m p blocks q e h l = let same = ap (λ (k : ℕ). ceiling k p) e in omega (arith, same, h, l)

-- the chains beside the queue are few enough
abbrev pub AreFew : ShapeNumbers → Header → ℕ → Type 0
AreFew shape h chains = chains ≤ 84 * (circuit_blocks shape h + 1) + 3 * shape.frames

-- a tree's room for this k and these chains are within the circuit's room
abbrev pub FitsCircuit : ShapeNumbers → Header → ℕ → ℕ → Type 0
FitsCircuit shape h k chains = tree_room shape k + chains ≤ room shape (2 * circuit_size h)

-- They are for at most 2E calls.
pub fits_circuit : (shape : ShapeNumbers) (h : Header) (k chains : ℕ) → IsShape shape
    → k ≤ 2 * circuit_size h → AreFew shape h chains → FitsCircuit shape h k chains
fits_circuit shape h k chains is l few =
    evaluation_run_room shape (circuit_size h) (tree_room shape k) chains is
    (tree_room_rises shape k (2 * circuit_size h) l) few

-- Where nothing else is in use, what is in use at any moment is within the circuit's room,
pub alone_in_room : (o : StatedRoom) (h : Header) {c : QueueCounts} {s : RigState} (t : RigState)
    (others held size peak k most : ℕ) → HoldsAllBlocks o most size c s → size ≡ others + held
    → FitsCircuit s.pool.shape h k (others + peak)
    → IfSome o (λ f. t.most + (c.blocks + held)
    ≤ max (s.most + (c.blocks + held)) (s.used + (f s.pool.shape k + peak)))
    → IsInRoom h s t
alone_in_room None h t others held size peak k most a e fits m = absurd a.room_is
alone_in_room (Some f) h t others held size peak k most a e fits m =
    let low = a.room_is k in
    omega (arith, a.used, e, m, low, fits)

-- and it is full only if that is more than all blocks.
pub alone_full : (o : StatedRoom) (h : Header) {c : QueueCounts} {s : RigState}
    (others held size peak k most : ℕ) (fault : EmFault) → HoldsAllBlocks o most size c s
    → size ≡ others + held → FitsCircuit s.pool.shape h k (others + peak)
    → FullBeside o held peak c k s fault → FullInRoom h s fault
alone_full None h others held size peak k most fault a e fits g = absurd a.room_is
alone_full (Some f) h {c} {s} others held size peak k most fault a e fits g =
    record { is = by_fault fault (a.room_is k) g.is }
  where
    by_fault : (fault : EmFault) → f s.pool.shape k ≤ tree_room s.pool.shape k
        → IfFull fault (λ used. IsTrue s.device.told
        → used + (c.blocks + held) < s.used + (f s.pool.shape k + peak))
        → IfFull fault (λ used. used < circuit_room s h)
    by_fault DeviceFault low g = tt
    by_fault (Full used) low g = let z = g a.told in omega (arith, a.used, e, z, low, fits)
    by_fault (Damaged block) low g = tt

-- a bound by the most that the queue held is one by its room
pub most_by_room : (o : StatedRoom) (most now i j p k : ℕ) (v : ShapeNumbers)
    → IfSome o (λ f. most ≤ f v k) → now ≤ max i (j + (most + p))
    → IfSome o (λ f. now ≤ max i (j + (f v k + p)))
most_by_room None most now i j p k v l h = tt
most_by_room (Some f) most now i j p k v l h = omega (arith, l, h)

-- the calls of a queue between two moments at which it has no item, as it has none at first
pub alone_run : (c : QueueCounts) (run size : ℕ) → c.k ≤ 2 * size → c.since ≡ 0 → run ≤ 2 * size
    → max c.k (c.since + run) ≤ 2 * size
alone_run c run size few since l = omega (arith, few, since, l)

-- what holds of each fault holds of a stop
pub stop_by : (e : AigStop) {P Q : EmFault → Type 0} → ((f : EmFault) → P f → Q f)
    → IfEmStop e P → IfEmStop e Q
stop_by (stop.Fault kind place) f h = tt
stop_by stop.Read f h = tt
stop_by (stop.Em fault) f h = f fault h

pub em_by : {A : Type 0} (result : Result A AigStop) {P Q : EmFault → Type 0}
    → ((f : EmFault) → P f → Q f) → IfEm result P → IfEm result Q
em_by (Ok x) f h = tt
em_by (Err e) f h = stop_by e f h
