-- The room of an evaluation: what its lists leave of it, and when its calls are full.
use Rattle.std.proofs.Common.{◌≡◌, ℕ, ◌+◌, ◌*◌, ◌<◌, ◌≤◌, IsTrue, ap, subst, ◌∙◌, max, arith}
use Rattle.em_record.specs.Cost.{blocks_of}
use Rattle.em_record.specs.Shape.{IsShape, ShapeNumbers, payload_of}
use Rattle.em_space.specs.Queue.{QueueCounts}
use Rattle.em_space.specs.Rig.{Cause, IfFull, RigState}
use Rattle.em_space.specs.declared.fault.EmFault.{EmFault}
use Rattle.em_space.specs.declared.fault.EmFault.TheVariants as em
use Rattle.em_chain.specs.Chain.{payload_in}
use Rattle.em_chain.specs.Counts.{ceiling}
use Rattle.em_chain.specs.declared.chain.Chain.{Chain}
use Rattle.em_queued.specs.Room.{StatedRoom}
use Rattle.em_pqueue.specs.QueueLaws as laws
use Rattle.em_pqueue.specs.contracts.queue.ExtQueueQueue.TheImpl.{ghosts as ext}
use Rattle.em_pqueue.specs.declared.queue.ExtQueue.{ExtQueue}
use Rattle.em_tree_cost.specs.Shares.{tree_room}
use Rattle.em_tree_cost.proofs.Circuits.{evaluation_run_room}
use Rattle.em_tree_cost.proofs.Rising.{tree_room_rises}
use Rattle.aig_defs.specs.Begun.{circuit_size}
use Rattle.aig_defs.specs.declared.circuit.Header.{Header}
use Rattle.aig_edges.specs.Graph.{edge_count}
use Rattle.aig_edges.specs.Room.{HoldsAllBlocks, IsInRoom, IsShort, IsTreeRoom, circuit_room}
use Rattle.aig_edges.proofs.Room.{double_blocks, list_blocks}
use Rattle.em_eval.specs.EvalSize.{eval_room}
use Rattle.em_ends.specs.Stop.{IfStopsFull}
use Rattle.em_ends.specs.declared.stop.Stop.{Stop}
use Rattle.em_ends.specs.declared.stop.Stop.TheVariants.{Fault, Read, Write, Em}
use Rattle.em_ready.specs.Queues.{MakesQueue}
use Rattle.em_ready.proofs.RoomLaws.{room_rises}

-- The room is more than what the reader of a circuit takes, and two blocks,
pub text_small : (shape : ShapeNumbers) (size : ℕ) → IsShape shape
    → ceiling (2 * size) (payload_of shape) + 5 < eval_room shape size
text_small shape size is =
    let double = double_blocks shape (2 * size) size is (omega arith) in
    omega (arith, double)

-- than the lists of a graph,
pub graph_small : (shape : ShapeNumbers) (h : Header) → IsShape shape
    → ceiling h.gates (payload_of shape) + ceiling (edge_count h) (payload_of shape)
    + ceiling (h.inputs + h.latches) (payload_of shape) + ceiling h.latches (payload_of shape) + 2
    < eval_room shape (circuit_size h)
graph_small shape h is =
    let size = circuit_size h in
    let gates = list_blocks shape h.gates size is (omega arith) in
    let edges = list_blocks shape (edge_count h) size is (omega arith) in
    let sources = list_blocks shape (h.inputs + h.latches) size is (omega arith) in
    let resets = list_blocks shape h.latches size is (omega arith) in
    omega (arith, gates, edges, sources, resets)

-- and than edges and resets.
pub edges_small : (shape : ShapeNumbers) (h : Header) → IsShape shape
    → ceiling h.latches (payload_of shape) + ceiling (edge_count h) (payload_of shape) + 2
    < eval_room shape (circuit_size h)
edges_small shape h is =
    let size = circuit_size h in
    let edges = list_blocks shape (edge_count h) size is (omega arith) in
    let resets = list_blocks shape h.latches size is (omega arith) in
    omega (arith, edges, resets)

-- These are so few that a queue of which no call came is within the room beside them.
beside_new : (shape : ShapeNumbers) (size blocks : ℕ) → IsShape shape
    → blocks ≤ 84 * (blocks_of shape (2 * size) + 1) → tree_room shape 0 + blocks ≤ eval_room shape size
beside_new shape size blocks is few =
    evaluation_run_room shape size (tree_room shape 0) blocks is
    (tree_room_rises shape 0 (2 * size) (omega arith)) (omega (arith, few))

pub text_beside : (shape : ShapeNumbers) (size : ℕ) → IsShape shape
    → tree_room shape 0 + (ceiling (2 * size) (payload_of shape) + 3) ≤ eval_room shape size
text_beside shape size is =
    let double = double_blocks shape (2 * size) size is (omega arith) in
    beside_new shape size (ceiling (2 * size) (payload_of shape) + 3) is (omega (arith, double))

pub graph_beside : (shape : ShapeNumbers) (h : Header) → IsShape shape
    → tree_room shape 0 + (ceiling h.gates (payload_of shape) + ceiling (edge_count h) (payload_of shape)
    + ceiling (h.inputs + h.latches) (payload_of shape) + ceiling h.latches (payload_of shape))
    ≤ eval_room shape (circuit_size h)
graph_beside shape h is =
    let size = circuit_size h in
    let gates = list_blocks shape h.gates size is (omega arith) in
    let edges = list_blocks shape (edge_count h) size is (omega arith) in
    let sources = list_blocks shape (h.inputs + h.latches) size is (omega arith) in
    let resets = list_blocks shape h.latches size is (omega arith) in
    beside_new shape size (ceiling h.gates (payload_of shape) + ceiling (edge_count h) (payload_of shape)
    + ceiling (h.inputs + h.latches) (payload_of shape) + ceiling h.latches (payload_of shape)) is
    (omega (arith, gates, edges, sources, resets))

pub edges_beside : (shape : ShapeNumbers) (h : Header) → IsShape shape
    → tree_room shape 0 + (ceiling h.latches (payload_of shape) + ceiling (edge_count h) (payload_of shape))
    ≤ eval_room shape (circuit_size h)
edges_beside shape h is =
    let size = circuit_size h in
    let edges = list_blocks shape (edge_count h) size is (omega arith) in
    let resets = list_blocks shape h.latches size is (omega arith) in
    beside_new shape size (ceiling h.latches (payload_of shape) + ceiling (edge_count h) (payload_of shape)) is
    (omega (arith, edges, resets))

-- A larger circuit has no less room.
pub eval_room_rises : (shape : ShapeNumbers) (m n : ℕ) → m ≤ n → eval_room shape m ≤ eval_room shape n
eval_room_rises shape m n h = room_rises shape (2 * m) (2 * n) (omega (arith, h))

-- A rig on which fewer blocks are in use than a number has fewer, if it is full.
pub full_less : (s t : RigState) (fault : EmFault) (n : ℕ) → Cause s t fault → t.used < n
    → IfFull fault (λ used. used < n)
full_less s t em.DeviceFault n cause few = tt
full_less s t (em.Full used) n cause few = omega (arith, cause.0, cause.1, few)
full_less s t (em.Damaged block) n cause few = tt

-- The same room, by another shape and another size that are equal.
pub room_as : {v w : ShapeNumbers} {m n : ℕ} (fault : EmFault) → v ≡ w → m ≡ n
    → IfFull fault (λ used. used < eval_room v m) → IfFull fault (λ used. used < eval_room w n)
room_as {v} {w} {m} {n} fault same size h =
    subst (λ (x : ℕ). IfFull fault (λ used. used < eval_room w x)) size
    (subst (λ (x : ShapeNumbers). IfFull fault (λ used. used < eval_room x m)) same h)

-- A device that has fewer blocks than a number has fewer than a greater one.
pub stops_less : (stop : Stop) (few many : ℕ) → few ≤ many → IfStopsFull stop (λ used. used < few)
    → IfStopsFull stop (λ used. used < many)
stops_less (Fault kind place) few many wide h = tt
stops_less Read few many wide h = tt
stops_less Write few many wide h = tt
stops_less (Em em.DeviceFault) few many wide h = tt
stops_less (Em (em.Full used)) few many wide h = omega (arith, wide, h)
stops_less (Em (em.Damaged block)) few many wide h = tt

-- A packed list of n records is short.
pub packed_short : (s : RigState) (c : Chain) (n : ℕ) → c.count ≡ n
    → c.blocks ≤ ceiling n (payload_in s) → IsShort s c
packed_short s c n count few =
    let same = ap (λ (k : ℕ). ceiling k (payload_in s)) count in
    omega (arith, few, same)

-- The program's queue states the room of a tree.
pub ext_tree : (shape : ShapeNumbers) → IsTreeRoom ext.room shape
ext_tree shape = λ k. omega arith

-- A queue was made: if what is in use and the room of one that was never called are few, no more were in use.
pub makes_within : {s t : RigState} {q : ExtQueue} (most : ℕ) → MakesQueue ext s t q → IsTrue s.device.told
    → tree_room s.pool.shape 0 + s.used ≤ most → t.most ≤ max s.most most
makes_within {s} {t} {q} most makes told few =
    let touches = makes.session.touches in
    let fits = (laws.frames_of q t makes.is).fits (touches.told ∙ told) in
    let same : tree_room t.pool.shape q.longest ≡ tree_room s.pool.shape 0 =
    ap (λ (x : ShapeNumbers). tree_room x q.longest) touches.shape
    ∙ ap (λ (k : ℕ). tree_room s.pool.shape k) makes.new.k in
    sum_within s.used q.most (tree_room t.pool.shape q.longest) (tree_room s.pool.shape 0) s.most t.most most
    makes.most fits same few
  where
    sum_within : (used own here first before after most : ℕ) → after ≤ max before (used + own) → own ≤ here
        → here ≡ first → first + used ≤ most → after ≤ max before most
    sum_within used own here first before after most h k e few = omega (arith, h, k, e, few)

-- Two calls one after the other keep to a circuit's room.
pub in_room_then : (s t u : RigState) (h k : Header) → t.pool.shape ≡ s.pool.shape → k ≡ h → IsInRoom h s t
    → IsInRoom k t u → IsInRoom h s u
in_room_then s t u h k shape header a b =
    let same : circuit_room t k ≡ circuit_room s h =
    ap (λ (x : ShapeNumbers). eval_room x (circuit_size k)) shape
    ∙ ap (λ (x : Header). eval_room s.pool.shape (circuit_size x)) header in
    most_then s.most t.most u.most (circuit_room s h) (circuit_room t k) same a b
  where
    most_then : (i m n x y : ℕ) → y ≡ x → m ≤ max i x → n ≤ max m y → n ≤ max i x
    most_then i m n x y e a b = omega (arith, e, a, b)

-- So does a call on a rig on which no more blocks were in use than the room of a size that is no less.
pub room_after : (s t u : RigState) (h : Header) (size : ℕ) → t.pool.shape ≡ s.pool.shape → circuit_size h ≤ size
    → t.most ≤ eval_room s.pool.shape size → IsInRoom h t u → u.most ≤ eval_room s.pool.shape size
room_after s t u h size shape few a b =
    let wide = eval_room_rises s.pool.shape (circuit_size h) size few in
    let same : circuit_room t h ≡ eval_room s.pool.shape (circuit_size h) =
    ap (λ (x : ShapeNumbers). eval_room x (circuit_size h)) shape in
    wide_then t.most u.most (circuit_room t h) (eval_room s.pool.shape (circuit_size h))
    (eval_room s.pool.shape size) same wide a b
  where
    wide_then : (m n x y z : ℕ) → x ≡ y → y ≤ z → m ≤ z → n ≤ max m x → n ≤ z
    wide_then m n x y z e w a b = omega (arith, e, w, a, b)

-- A queue that was called no more often between two moments at which it had no item.
pub alone_more : {o : StatedRoom} {j k size : ℕ} {c : QueueCounts} {s : RigState} → j ≤ k
    → HoldsAllBlocks o j size c s → HoldsAllBlocks o k size c s
alone_more few a = record {
  told = a.told;
  room_is = a.room_is;
  few = omega (arith, a.few, few);
  used = a.used;
}
