-- How the steps of an evaluation end: its rig, what went out, and why it stopped.
use Rattle.std.proofs.Common.{◌≡◌, Bool, ℕ, ◌+◌, ◌-◌, ◌*◌, ◌<◌, ◌≤◌, ◌^◌, ◌⊎◌, List, [], ◌++◌, ap, sym, subst, ◌∙◌, refl, arith, IsTrue, inl, inr, ⊎_elim, max, Result, Ok, Err, IfErr, OnOk}
use Rattle.em_record.specs.Shape.{ShapeNumbers, fan_of, payload_of}
use Rattle.em_io.specs.Sink.{IsRule, Sent, SentPart}
use Rattle.em_io.specs.declared.shelf.Shelf.{Ghosts as ShelfGhosts}
use Rattle.em_io.specs.declared.shelf.Slot.TheVariants.{Second}
use Rattle.em_io.specs.declared.sink.Sink.{Ghosts as SinkGhosts}
use Rattle.em_io.proofs.Sent.{all-sent, part-more, part-of, part-rest, sent-all, sent-nothing, sent-rest}
use Rattle.em_space.specs.Held.{Holds}
use Rattle.em_space.specs.Ledger.{Session}
use Rattle.em_space.specs.Queue.{Leaves, Pays, QueueCounts, Shares}
use Rattle.em_space.specs.Rig.{RigState, Cause, Goes, IfFull, Sound, Touches}
use Rattle.em_space.specs.declared.fault.EmFault.{EmFault}
use Rattle.em_space.specs.declared.fault.EmFault.TheVariants as em
use Rattle.em_space.specs.declared.queue.Queue.{Ghosts as QueueGhosts}
use Rattle.em_chain.specs.Counts.{ceiling}
use Rattle.em_space.proofs.Paying.{pays_more, pays_then}
use Rattle.em_space.proofs.Sessions.{session_none, session_trans}
use Rattle.em_space.proofs.Steps.{cause_after, touches_then}
use Rattle.em_space.proofs.Within.{goes_wider, touches_within}
use Rattle.em_pqueue.specs.contracts.queue.ExtQueueQueue.TheImpl.{ghosts as ext}
use Rattle.em_pqueue.specs.declared.queue.ExtQueue.{ExtQueue}
use Rattle.aig_defs.specs.declared.circuit.Gate.{Gate}
use Rattle.aig_defs.specs.declared.circuit.Header.{Header}
use Rattle.aig_defs.specs.Begun.{circuit_size}
use Rattle.aig_defs.specs.Circuit.{Circuit, resets}
use Rattle.aig_defs.specs.Stimulus.{output_lines, stimulus_of}
use Rattle.aig_defs.specs.Value.{run_of}
use Rattle.aig_edges.specs.Graph.{IsOrdered, IsOrderedOf, edge_count, ordered_blocks, ordered_size}
use Rattle.aig_edges.specs.Room.{HoldsAllBlocks, IsInRoom, IsShort, IsTreeRoom, circuit_room}
use Rattle.aig_edges.specs.declared.graph.Ordered.{Ordered}
use Rattle.aig_edges.proofs.OrderedLaws.{OrderedStays, ordered_stays}
use Rattle.aig_sweep.specs.Room.{BeginsInRoom, IsShortSweeper, SweepsAlone}
use Rattle.aig_sweep.specs.Scene.{KeepsFront}
use Rattle.aig_sweep.specs.Sweeper.{BeginsFor, BeginsSweeper, Evaluates, FailsToBegin, sweeper_blocks}
use Rattle.aig_sweep.specs.declared.sweeper.Sweeper.{Sweeper}
use Rattle.aig_sweep.proofs.SweepRoom.{begun_alone, begun_short}
use Rattle.em_eval.specs.EvalMoves.{making_moves, rounds_moves}
use Rattle.em_eval.specs.EvalSize.{eval_room}
use Rattle.em_eval.specs.Evaluation.{CanBegin, CanRunSteps, EndsSteps, FillsEval, PrintsAll, PrintsLines, PrintsSteps, Round, RunsSteps, StepsCause, steps_of}
use Rattle.em_ends.specs.Opens.{IsAllRead}
use Rattle.em_ready.specs.Queues.{FailsToMake, MakesQueue}
use Rattle.em_ends.specs.Stop.{Faults, IfStopsFull, fault_counts, OnDue, SendsRest, UnlessWrite}
use Rattle.em_ends.specs.declared.stop.Stop.{Stop}
use Rattle.em_ends.specs.declared.stop.Stop.TheVariants.{Fault, Read, Write, Em}
use Rattle.em_ready.proofs.Queues.{frames_back, session_made}
use Rattle.em_ends.proofs.Printing.{ends_by}
use Rattle.em_eval.proofs.EvalRoom.{alone_more, edges_beside, edges_small, full_less, in_room_then, makes_within, packed_short, room_as}

-- What went out of the lines of the steps, after what was pending was sent.
module _ {IsState : List ℕ → Type 0} {took : List ℕ → List ℕ → List ℕ} (rule : IsRule IsState took)
    {old : List ℕ} (ok : IsState old) (lines pending mid new : List ℕ) where
  -- of all lines
  all_out : Sent took old lines mid pending → new ≡ took mid pending → new ≡ took old lines
  all_out p e = all-sent (sent-rest rule ok p (sent-all e))

  -- of a front
  front_out : KeepsFront took old lines mid pending → SentPart took mid pending new
      → SentPart took old lines new
  front_out p q = subst (λ (bytes : List ℕ). SentPart took old bytes new) p.all
      (part-more p.behind (part-rest rule ok p.sent q))

  -- by how the steps ended
  pub all_due : (done : Result (Unit {0}) Stop) → OnDue done (Sent took old lines mid pending)
      → OnDue done (new ≡ took mid pending) → OnDue done (new ≡ took old lines)
  all_due (Ok u) p e = all_out p e
  all_due (Err (Fault kind place)) p e = all_out p e
  all_due (Err Read) p e = tt
  all_due (Err Write) p e = tt
  all_due (Err (Em fault)) p e = tt

  -- a front at any end: after a failure of the output nothing was sent any more
  pub part_due : (done : Result (Unit {0}) Stop)
      → UnlessWrite done (KeepsFront took old lines mid pending) → SentPart took old lines mid
      → UnlessWrite done (SentPart took mid pending new) → (done ≡ Err Write → new ≡ mid)
      → SentPart took old lines new
  part_due (Ok u) p m q n = front_out p q
  part_due (Err (Fault kind place)) p m q n = front_out p q
  part_due (Err Read) p m q n = front_out p q
  part_due (Err Write) p m q n =
      subst (λ (s : List ℕ). SentPart took old lines s) (sym (n refl)) m
  part_due (Err (Em fault)) p m q n = front_out p q

-- a cause holds after frames came back
leaves_cause : (a b t : RigState) (c : QueueCounts) (fault : EmFault) → Leaves c b t
    → Cause a b fault → Cause a t fault
leaves_cause a b t c em.DeviceFault l x =
    subst (λ (r : RigState). Cause a r em.DeviceFault) (sym l.same) x
leaves_cause a b t c (em.Full used) l x =
    subst (λ (r : RigState). Cause a r (em.Full used)) (sym l.same) x
leaves_cause a b t c (em.Damaged block) l x =
    subst (λ (r : RigState). Cause a r (em.Damaged block)) (sym l.same) x

-- Why steps stopped is why the evaluation did, which began before them and gave frames back.
pub cause_due : (read read_after write write_after later : ℕ) (held : List ℕ) (s a b t : RigState)
    (c : QueueCounts) (done : Result (Unit {0}) Stop) → Touches held s a → Leaves c b t
    → write_after ≤ later
    → IfErr done (StepsCause (fault_counts read write) (fault_counts read_after write_after) a b)
    → IfErr done (StepsCause (fault_counts read write) (fault_counts read_after later) s t)
cause_due read read_after write write_after later held s a b t c (Ok u) h l w x = tt
cause_due read read_after write write_after later held s a b t c (Err (Fault kind place)) h l w x =
    tt
cause_due read read_after write write_after later held s a b t c (Err Read) h l w x = x
cause_due read read_after write write_after later held s a b t c (Err Write) h l w x =
    omega (arith, x, w)
cause_due read read_after write write_after later held s a b t c (Err (Em fault)) h l w x =
    leaves_cause s b t c fault l (cause_after held s a b fault h x)

-- What a full device says holds if all its blocks are in use.
pub full_due : (P : ℕ → Type 0) (faults after : Faults) (a b : RigState)
    (done : Result (Unit {0}) Stop) → IfErr done (StepsCause faults after a b)
    → ((used : ℕ) → used ≡ b.used → P used) → IfErr done (λ stop. IfStopsFull stop P)
full_due P faults after a b (Ok u) x p = tt
full_due P faults after a b (Err (Fault kind place)) x p = tt
full_due P faults after a b (Err Read) x p = tt
full_due P faults after a b (Err Write) x p = tt
full_due P faults after a b (Err (Em em.DeviceFault)) x p = tt
full_due P faults after a b (Err (Em (em.Full used))) x p = p used (x.0 ∙ sym x.1)
full_due P faults after a b (Err (Em (em.Damaged block))) x p = tt

-- Edges and resets stay as they are while a queue is made.
pub still_ordered : {s m : RigState} {o : Ordered} → IsOrdered s o → Touches [] s m → OrderedStays s m o
still_ordered {o = o} is l = ordered_stays [] o l is.holds is

-- Edges, and then a queue: what an evaluator is made of.
pub session_beside_edges : {Q : Type 0} {queue : QueueGhosts Q} {s m : RigState} {o : Ordered} {q : Q}
    → CanBegin s o → MakesQueue queue s m q
    → Session (ordered_blocks s o) s m (queue.blocks q m ++ ordered_blocks m o)
session_beside_edges {queue = queue} {s = s} {m = m} {o = o} {q = q} can makes =
    session_made (queue.blocks q m) (ordered_blocks s o) (ordered_blocks m o)
    (session_none s (ordered_blocks s o) can.sound can.is.holds) makes.session
    (still_ordered can.is makes.session.touches).blocks

-- all their blocks are apart
pub can_make : {Q : Type 0} {queue : QueueGhosts Q} {s m : RigState} {o : Ordered} {q : Q}
    → CanBegin s o → MakesQueue queue s m q → IsTrue m.device.told
    → Holds m (queue.blocks q m ++ ordered_blocks m o)
can_make can makes z =
    (session_beside_edges can makes).holds (sym makes.session.touches.told ∙ z)

-- Edges and a queue that was never called stand alone, if the device tells and the queue's room is at most a
-- tree's,
stands_alone : {Q : Type 0} {queue : QueueGhosts Q} {s m : RigState} {o : Ordered} {q : Q} → CanBegin s o
    → MakesQueue queue s m q → IsTreeRoom queue.room m.pool.shape → IsTrue s.device.told
    → HoldsAllBlocks queue.room 0 (ordered_size o) (queue.counts q) m
stands_alone can makes tree z = record {
  told = makes.session.touches.told ∙ z;
  room_is = tree;
  few = omega (arith, makes.new.k);
  used = omega (arith, makes.used, can.alone);
}

-- and the edges are short.
edges_short : {Q : Type 0} {queue : QueueGhosts Q} {s m : RigState} {o : Ordered} {q : Q} → CanBegin s o
    → MakesQueue queue s m q → IsShort m o.edges
edges_short {s = s} {m = m} {o = o} can makes =
    let same = ap (λ (v : ShapeNumbers). ceiling (edge_count o.header) (payload_of v))
    makes.session.touches.shape in
    packed_short m o.edges (edge_count o.header) can.is.edges.count_is (omega (arith, can.packed, same))

-- Making the queue kept to the circuit's room.
pub begins_within : {s m : RigState} {o : Ordered} {q : ExtQueue} → CanBegin s o → MakesQueue ext s m q
    → IsTrue s.device.told → IsInRoom o.header s m
begins_within {s} {m} {o} can makes z =
    let small = edges_beside s.pool.shape o.header can.sound.shape in
    makes_within (eval_room s.pool.shape (circuit_size o.header)) makes z
    (omega (arith, can.alone, can.packed, can.is.resets.blocks_is, small))

-- It wasn't made.
pub record Unmade {Q : Type 0} (queue : QueueGhosts Q) (s m t : RigState) (o : Ordered) (q : Q)
    (fault : EmFault) : Type 0 where
  pub can : CanBegin s o
  pub makes : MakesQueue queue s m q
  pub fails : FailsToBegin queue m t o q fault

-- from what the calls say
pub unmade_by : {Q : Type 0} {queue : QueueGhosts Q} {s m t : RigState} {o : Ordered} {q : Q}
    {fault : EmFault} → CanBegin s o → MakesQueue queue s m q → FailsToBegin queue m t o q fault
    → Unmade queue s m t o q fault
unmade_by can makes fails = record { can = can; makes = makes; fails = fails }

module _ {Q : Type 0} {queue : QueueGhosts Q} {s m t : RigState} {o : Ordered} {q : Q}
    {fault : EmFault} (u : Unmade queue s m t o q fault) where
  -- only the edges' blocks may have changed
  pub unmade_goes : Goes (ordered_blocks s o) s t
  unmade_goes =
      let held = queue.blocks q m ++ ordered_blocks m o in
      let first = session_beside_edges u.can u.makes in
      record {
        sound = u.fails.halted.sound;
        touches = touches_within s m t (ordered_blocks s o) held first.touches first.within
            u.fails.halted.touches;
        frames = frames_back (queue.counts q) s.pool m.pool t.pool u.makes.frames
            u.fails.halted.frames;
      }

  -- why it wasn't made
  pub unmade_cause : Cause s t fault
  unmade_cause = cause_after [] s m t fault u.makes.session.touches u.fails.cause

  -- It was full only over the circuit's room.
  pub unmade_room : IsTreeRoom queue.room m.pool.shape
      → BeginsInRoom {T = Sweeper Q} queue m t o q (Err fault) → IsTrue s.device.told
      → IfFull fault (λ used. used < eval_room s.pool.shape (circuit_size o.header))
  unmade_room tree begins z =
      let both = begins (alone_more (omega arith) (stands_alone u.can u.makes tree z))
      (edges_short u.can u.makes) in
      room_as fault u.makes.session.touches.shape refl both.1.is

  -- At no moment more blocks were in use.
  pub unmade_most : IsTreeRoom queue.room m.pool.shape → BeginsInRoom {T = Sweeper Q} queue m t o q (Err fault)
      → (IsTrue s.device.told → IsInRoom o.header s m) → IsTrue s.device.told → IsInRoom o.header s t
  unmade_most tree begins first z =
      let both = begins (alone_more (omega arith) (stands_alone u.can u.makes tree z))
      (edges_short u.can u.makes) in
      in_room_then s m t o.header o.header u.makes.session.touches.shape refl (first z) both.0

  -- all blocks but a few were moved
  pub unmade_paid : (2 ^ 64 - 1 ≤ t.moves) ⊎ (t.used ≤ t.moves + 2 * t.pool.shape.frames)
  unmade_paid =
      let h = u.fails.halted in
      let n = (queue.counts q).unstored in
      let frames : t.pool.shape.frames ≡ m.pool.shape.frames =
      ap (λ (z : ShapeNumbers). z.frames) h.touches.shape in
      let some = h.sound.shape.frames_low in
      let later = u.makes.session.touches.moves in
      let then = h.touches.moves in
      let own : Pays n (m.pool.shape.frames + 1) m t = pays_more h.pays (omega arith) in
      let all : Pays 0 (m.pool.shape.frames + 1) s t = pays_then u.makes.pays own then in
      ⊎_elim
      (λ (x : 2 ^ 64 - 1 ≤ s.moves). inl (omega (arith, x, later, then)))
      (λ (x : s.used ≤ s.moves). ⊎_elim
      (λ (y : 2 ^ 64 - 1 ≤ t.moves). inl y)
      (λ (y : t.used + s.moves + 0 ≤ s.used + t.moves + (m.pool.shape.frames + 1)).
      inr (omega (arith, x, y, frames, some)))
      all.is)
      u.can.paid

-- An evaluator was made on a rig of which no other block is in use.
pub record Made {Q : Type 0} (queue : QueueGhosts Q) (s m a : RigState) (o : Ordered) (q : Q)
    (e : Sweeper Q) : Type 0 where
  pub can : CanBegin s o
  pub makes : MakesQueue queue s m q
  pub begins : BeginsSweeper queue m a o q e

-- from what the calls say
pub made_by : {Q : Type 0} {queue : QueueGhosts Q} {s m a : RigState} {o : Ordered} {q : Q}
    {e : Sweeper Q} → CanBegin s o → MakesQueue queue s m q → BeginsSweeper queue m a o q e
    → Made queue s m a o q e
made_by can makes begins = record { can = can; makes = makes; begins = begins }

module _ {Q : Type 0} {queue : QueueGhosts Q} {s m a : RigState} {o : Ordered} {q : Q}
    {e : Sweeper Q} (u : Made queue s m a o q e) where
  -- what is held is the edges', or wasn't in use
  made_session : Session (ordered_blocks s o) s a (sweeper_blocks queue a e)
  made_session = session_trans (session_beside_edges u.can u.makes)
      u.begins.runs.runs.session

  -- only the edges' blocks may have changed
  pub made_touches : Touches (ordered_blocks s o) s a
  made_touches = made_session.touches

  -- it stands alone, and its edges are short
  pub made_alone : IsTreeRoom queue.room m.pool.shape → IsTrue s.device.told → SweepsAlone queue 0 a e
  made_alone tree z = begun_alone queue o q u.begins (stands_alone u.can u.makes tree z)

  pub made_short : IsShortSweeper a e
  made_short = begun_short u.begins (still_ordered u.can.is u.makes.session.touches).is
      (edges_short u.can u.makes)

  -- At no moment more blocks were in use than the circuit's room.
  pub made_most : IsTreeRoom queue.room m.pool.shape → BeginsInRoom {T = Sweeper Q} queue m a o q (Ok e)
      → (IsTrue s.device.told → IsInRoom o.header s m) → IsTrue s.device.told → IsInRoom o.header s a
  made_most tree begins first z =
      let both = begins (alone_more (omega arith) (stands_alone u.can u.makes tree z))
      (edges_short u.can u.makes) in
      in_room_then s m a o.header o.header u.makes.session.touches.shape refl (first z) both.0

  -- no call of its queue came
  pub counts_same : queue.counts e.queue ≡ queue.counts q
  counts_same = ap queue.counts u.begins.queue_is

  -- it can make steps
  pub can_run : CanRunSteps queue a e
  can_run =
      let r = u.begins.runs.runs in
      let n = (queue.counts q).unstored in
      let shape = ap fan_of (r.frames.shape ∙ u.makes.frames.shape) in
      let ready = u.can.ready in
      let lent = u.makes.frames in
      let blocks = ap (λ (c : QueueCounts). c.blocks) counts_same in
      let unstored = ap (λ (c : QueueCounts). c.unstored) counts_same in
      let later = u.makes.session.touches.moves in
      let then = r.spends.later in
      let own : Pays n n m a = pays_more r.spends.pays (omega arith) in
      let all : Pays 0 n s a = pays_then u.makes.pays own then in
      record {
        sound = r.session.sound;
        is = u.begins.is;
        free = omega (arith, shape, r.frames.free, lent.free, u.makes.few, ready.singles);
        areas = omega (arith, r.frames.free_areas, lent.areas, u.makes.area, ready.areas);
        rack = r.frames.rack ∙ lent.rack ∙ ready.rack;
        new = ap (λ (c : QueueCounts). c.n) counts_same ∙ u.makes.new.n;
        alone = omega (arith, r.spends.used, blocks, u.makes.used, u.can.alone);
        paid = ⊎_elim
            (λ (x : 2 ^ 64 - 1 ≤ s.moves). inl (omega (arith, x, later, then)))
            (λ (x : s.used ≤ s.moves). ⊎_elim
            (λ (y : 2 ^ 64 - 1 ≤ a.moves). inl y)
            (λ (y : a.used + s.moves + 0 ≤ s.used + a.moves + n).
            inr (omega (arith, x, y, unstored)))
            all.is)
            u.can.paid;
      }

-- Steps were made by it, and its frames came back.
pub record Ran {Q : Type 0} (queue : QueueGhosts Q) (s m a b t : RigState) (o : Ordered) (q : Q)
    (e d : Sweeper Q) : Type 0 where
  pub made : Made queue s m a o q e
  pub sound : Sound b
  pub touches : Touches (sweeper_blocks queue a e) a b
  pub shares : Shares (queue.counts e.queue) (queue.counts d.queue) a.pool b.pool
  pub leaves : Leaves (queue.counts d.queue) b t
  pub paid : (2 ^ 64 - 1 ≤ b.moves) ⊎ (b.used ≤ b.moves + 2 * b.pool.shape.frames)

module _ {Q : Type 0} {queue : QueueGhosts Q} {s m a b t : RigState} {o : Ordered} {q : Q}
    {e d : Sweeper Q} (r : Ran queue s m a b t o q e d) where
  -- the machine is the same
  shape_kept : t.pool.shape ≡ s.pool.shape
  shape_kept = r.leaves.touches.shape ∙ r.touches.shape ∙ (made_touches r.made).shape

  -- only the edges' blocks may have changed, and all frames are back
  pub ran_goes : Goes (ordered_blocks s o) s t
  ran_goes =
      let u = r.made in
      let held = made_session u in
      let first = u.begins.runs.runs.frames in
      let lent = u.makes.frames in
      let steps = touches_within s a b (ordered_blocks s o) (sweeper_blocks queue a e) held.touches
      held.within r.touches in
      let x = r.shares in
      let y = r.leaves.frames in
      let single = ap (λ (z : QueueCounts). z.frames) (counts_same u) in
      let area = ap (λ (z : QueueCounts). z.areas) (counts_same u) in
      record {
        sound = r.leaves.sound;
        touches = touches_then (ordered_blocks s o) s b t steps r.leaves.touches;
        frames = record {
          shape = shape_kept;
          free = omega (arith, x.free, y.free, first.free, lent.free, single);
          rack = y.rack ∙ x.rack ∙ first.rack ∙ lent.rack;
          free_areas = omega (arith, x.areas, y.areas, first.free_areas, lent.areas, area);
          peak = omega (arith, x.peak, y.peak, first.peak, lent.peak);
        };
      }

  -- all blocks but a few were moved
  pub ran_paid : (2 ^ 64 - 1 ≤ t.moves) ⊎ (t.used ≤ t.moves + 2 * t.pool.shape.frames)
  ran_paid = subst (λ (z : RigState).
      (2 ^ 64 - 1 ≤ z.moves) ⊎ (z.used ≤ z.moves + 2 * z.pool.shape.frames))
      (sym r.leaves.same) (rw (← r.leaves.touches.shape) at r.paid)

-- At first an evaluator evaluates each circuit whose edges these are, from the resets.
pub evaluates_first : {Q : Type 0} {queue : QueueGhosts Q} {s m a : RigState} {o : Ordered} {q : Q}
    {e : Sweeper Q} → Made queue s m a o q e → (IsTrue m.device.told → BeginsFor queue m a o e)
    → IsTrue s.device.told → (c : Circuit) (order : List Gate) → IsOrderedOf s o c order
    → Evaluates queue a e c order (resets c.latches)
evaluates_first u meaning z c order is = meaning (u.makes.session.touches.told ∙ z) c order
    ((still_ordered u.can.is u.makes.session.touches).of z c order is)

-- The moves of an evaluation are those of making its evaluator, and of the rounds of the steps that were begun.
abbrev pub KeepsSteps : Bool → {H : Type 0} → ShelfGhosts H → RigState → RigState → Ordered → H → H
    → Type 0
KeepsSteps wide h s t o shelf shelf_after = IsTrue h.tells → IsTrue s.device.told
    → t.moves ≤ s.moves + (making_moves s.pool.shape (circuit_size o.header)
    + rounds_moves wide s.pool.shape (circuit_size o.header)
    (steps_of o.header.inputs ((h.stand shelf).slot Second).left ((h.stand shelf_after).slot Second)))

-- An evaluator was made, its steps were made, its frames came back, and what was pending was sent.
pub record Evaluated {H W Q : Type 0} (h : ShelfGhosts H) (w : SinkGhosts W) (queue : QueueGhosts Q)
    (round : Round) (s m a b t : RigState) (o : Ordered) (q : Q) (e d : Sweeper Q) (shelf shelf_after : H)
    (out mid out_after : W) (pending : List ℕ) (done result : Result (Unit {0}) Stop)
    : Type 0 where
  pub made : Made queue s m a o q e
  pub meaning : IsTrue m.device.told → BeginsFor queue m a o e
  pub steps : PrintsSteps h w queue round a b e d shelf shelf_after out mid pending done
  pub leaves : Leaves (queue.counts d.queue) b t
  pub sends : SendsRest w done pending mid out_after result
  pub rule : IsRule w.IsState w.took
  pub ok : w.IsState (w.state out)

-- from what the calls say
pub evaluated_by : {H W Q : Type 0} {h : ShelfGhosts H} {w : SinkGhosts W} {queue : QueueGhosts Q}
    {round : Round} {s m a b t : RigState} {o : Ordered} {q : Q} {e d : Sweeper Q} {shelf shelf_after : H}
    {out mid out_after : W} {pending : List ℕ} {done result : Result (Unit {0}) Stop}
    → Made queue s m a o q e → (IsTrue m.device.told → BeginsFor queue m a o e)
    → PrintsSteps h w queue round a b e d shelf shelf_after out mid pending done
    → Leaves (queue.counts d.queue) b t → SendsRest w done pending mid out_after result
    → IsRule w.IsState w.took → w.IsState (w.state out)
    → Evaluated h w queue round s m a b t o q e d shelf shelf_after out mid out_after pending done result
evaluated_by made meaning steps leaves sends rule ok = record {
  made = made;
  meaning = meaning;
  steps = steps;
  leaves = leaves;
  sends = sends;
  rule = rule;
  ok = ok;
}

module _ {H W Q : Type 0} {h : ShelfGhosts H} {w : SinkGhosts W} {queue : QueueGhosts Q}
    {round : Round} {s m a b t : RigState} {o : Ordered} {q : Q} {e d : Sweeper Q} {shelf shelf_after : H}
    {out mid out_after : W} {pending : List ℕ} {done result : Result (Unit {0}) Stop}
    (v : Evaluated h w queue round s m a b t o q e d shelf shelf_after out mid out_after pending done result)
  where
    -- the stimulus
    abbrev text : List ℕ
    text = ((h.stand shelf).slot Second).left

    -- its rig
    pub ran : Ran queue s m a b t o q e d
    ran = record {
      made = v.made;
      sound = v.steps.sound;
      touches = v.steps.touches;
      shares = v.steps.shares;
      leaves = v.leaves;
      paid = v.steps.paid;
    }

    -- the answer is the stimulus's fault, if it is a fault
    pub ends_due : IsTrue h.tells → EndsSteps (stimulus_of o.header.inputs text) result
    ends_due z =
        let header = v.made.begins.header in
        ends_by (λ r. EndsSteps (stimulus_of o.header.inputs text) r) done result
        (w.faults mid) (w.faults out_after) v.sends.ends
        (subst (λ (n : Header). EndsSteps (stimulus_of n.inputs text) done) header (v.steps.ends z))
        (λ rose. tt)

    -- if all was done, all was read
    pub end_due : OnOk result (IsAllRead h.tells ((h.stand shelf_after).slot Second))
    end_due = ends_by (λ r. OnOk r (IsAllRead h.tells ((h.stand shelf_after).slot Second)))
        done result (w.faults mid) (w.faults out_after) v.sends.ends v.steps.end (λ rose. tt)

    -- what went out
    pub prints_due : IsTrue h.tells → IsTrue s.device.told → (c : Circuit) (order : List Gate)
        → IsOrderedOf s o c order → PrintsAll w.took (output_lines (run_of c (stimulus_of o.header.inputs text).steps))
        (w.state out) (w.state out_after) result
    prints_due z y c order is =
        let lines = output_lines (run_of c (stimulus_of o.header.inputs text).steps) in
        let p : PrintsLines w.took lines (w.state out) (w.state mid) pending done =
        subst (λ (n : Header). PrintsLines w.took (output_lines (run_of c
        (stimulus_of n.inputs text).steps)) (w.state out) (w.state mid) pending done)
        v.made.begins.header
        (v.steps.prints z ((made_touches v.made).told ∙ y) c order
        (resets c.latches) (evaluates_first v.made v.meaning y c order is)) in
        let sent = ends_by (λ r. OnDue r (w.state out_after ≡ w.took (w.state mid) pending)
        → OnDue r (w.state out_after ≡ w.took (w.state out) lines)) done result
        (w.faults mid) (w.faults out_after) v.sends.ends
        (all_due v.rule v.ok lines pending (w.state mid) (w.state out_after) done p.all)
        (λ rose x. tt) in
        record {
          all = sent v.sends.all;
          part = part_due v.rule v.ok lines pending (w.state mid) (w.state out_after) done p.front
              p.part v.sends.part (λ x. ap w.state (v.sends.none x));
        }

    -- why it stopped
    pub cause_all : IfErr result (StepsCause (fault_counts (h.faults shelf) (w.faults out))
        (fault_counts (h.faults shelf_after) (w.faults out_after)) s t)
    cause_all = ends_by (λ r. IfErr r (StepsCause (fault_counts (h.faults shelf) (w.faults out))
        (fault_counts (h.faults shelf_after) (w.faults out_after)) s t)) done result
        (w.faults mid) (w.faults out_after) v.sends.ends
        (cause_due (h.faults shelf) (h.faults shelf_after) (w.faults out) (w.faults mid)
        (w.faults out_after) (ordered_blocks s o) s a b t (queue.counts d.queue) done
        (made_touches v.made) v.leaves v.sends.later v.steps.cause)
        (λ rose. let later = v.steps.write_later in omega (arith, rose, later))

    -- what a full device says
    fills_all : (used : ℕ) → used ≡ b.used → FillsEval t used
    fills_all used is =
        let same : t.used ≡ b.used = ap (λ (z : RigState). z.used) v.leaves.same in
        record { paid = rw (is, ← same) (ran_paid ran) }

    pub full_all : IfErr result (λ stop. IfStopsFull stop (FillsEval t))
    full_all = ends_by (λ r. IfErr r (λ stop. IfStopsFull stop (FillsEval t))) done result
        (w.faults mid) (w.faults out_after) v.sends.ends
        (full_due (FillsEval t) (fault_counts (h.faults shelf) (w.faults out))
        (fault_counts (h.faults shelf_after) (w.faults mid)) a b done v.steps.cause fills_all)
        (λ rose. tt)

    -- at no moment more blocks were in use than the circuit's room
    pub most_all : IsTreeRoom queue.room m.pool.shape → (IsTrue s.device.told → IsInRoom o.header s a)
        → IsTrue s.device.told → IsInRoom o.header s t
    most_all tree begun z =
        let own = v.steps.most (made_alone v.made tree z) (made_short v.made) in
        let same : t.most ≡ b.most = ap (λ (x : RigState). x.most) v.leaves.same in
        subst (λ (n : ℕ). n ≤ max s.most (circuit_room s o.header)) (sym same)
        (in_room_then s a b o.header e.header (made_touches v.made).shape v.made.begins.header (begun z) own)

    -- it is full only over that
    pub room_all : IsTreeRoom queue.room m.pool.shape → IsTrue s.device.told → IfErr result
        (λ stop. IfStopsFull stop (λ used. used < eval_room s.pool.shape (circuit_size o.header)))
    room_all tree z =
        let own = v.steps.room (made_alone v.made tree z) (made_short v.made) in
        ends_by (λ r. IfErr r (λ stop. IfStopsFull stop
        (λ used. used < eval_room s.pool.shape (circuit_size o.header)))) done result
        (w.faults mid) (w.faults out_after) v.sends.ends
        (subst (λ (n : Header). IfErr done (λ stop. IfStopsFull stop
        (λ used. used < eval_room s.pool.shape (circuit_size n)))) v.made.begins.header
        (subst (λ (x : ShapeNumbers). IfErr done (λ stop. IfStopsFull stop
        (λ used. used < eval_room x (circuit_size e.header)))) (made_touches v.made).shape own))
        (λ rose. tt)

    -- So the evaluation ended as promised, if its moves are those of its steps.
    pub runs_all : IsTreeRoom queue.room m.pool.shape → (IsTrue s.device.told → IsInRoom o.header s a)
        → (wide : Bool)
        → KeepsSteps wide h s t o shelf shelf_after
        → RunsSteps wide h w s t o shelf shelf_after out out_after result
    runs_all tree begun wide moves = record {
      goes = ran_goes ran;
      reads = v.steps.reads;
      read_later = v.steps.read_later;
      write_later =
          let first = v.steps.write_later in
          let then = v.sends.later in
          omega (arith, first, then);
      ends = ends_due;
      end = end_due;
      prints = prints_due;
      cause = cause_all;
      full = full_all;
      most = most_all tree begun;
      room = room_all tree;
      moves = moves;
    }

-- No step was made, since the rig gave up before.
pub runs_none : {H W : Type 0} (wide : Bool) (h : ShelfGhosts H) (w : SinkGhosts W) {s t : RigState} {o : Ordered}
    {fault : EmFault} (shelf : H) (out : W) → IsRule w.IsState w.took → w.IsState (w.state out)
    → Goes (ordered_blocks s o) s t → Cause s t fault
    → (2 ^ 64 - 1 ≤ t.moves) ⊎ (t.used ≤ t.moves + 2 * t.pool.shape.frames)
    → (IsTrue s.device.told → IsInRoom o.header s t)
    → (IsTrue s.device.told → IfFull fault (λ used. used < eval_room s.pool.shape (circuit_size o.header)))
    → KeepsSteps wide h s t o shelf shelf → RunsSteps wide h w s t o shelf shelf out out (Err (Em fault))
runs_none wide h w {s = s} {t = t} {fault = fault} shelf out rule ok goes cause paid most room moves = record {
  goes = goes;
  reads = record {
    leaves = record { text = refl; others = λ k e. refl };
    opened = refl;
    ready = refl;
    lost = λ z. refl;
  };
  read_later = omega arith;
  write_later = omega arith;
  ends = λ z. tt;
  end = tt;
  prints = λ z y c order is. record { all = tt; part = part-of (sent-nothing rule ok _ refl) };
  cause = cause;
  full = full_due (FillsEval t) (fault_counts (h.faults shelf) (w.faults out))
      (fault_counts (h.faults shelf) (w.faults out)) s t (Err (Em fault)) cause
      (λ used is. record { paid = rw is paid });
  most = most;
  room = room;
  moves = moves;
}

-- No queue was made: only the edges' blocks may have changed, which none did,
pub refused_goes : {s t : RigState} {fault : EmFault} (o : Ordered) → FailsToMake s t fault
    → Goes (ordered_blocks s o) s t
refused_goes {s} {t} o f = goes_wider (ordered_blocks s o) [] s t (record { off = λ z j u x. tt }) f.goes

-- few blocks were in use for the circuit's room at any moment,
pub refused_most : {s t : RigState} {o : Ordered} {fault : EmFault} → CanBegin s o → FailsToMake s t fault
    → IsTrue s.device.told → IsInRoom o.header s t
refused_most {s} {t} {o} {fault} can f z =
    let small = edges_small s.pool.shape o.header can.sound.shape in
    omega (arith, f.most, can.alone, can.packed, can.is.resets.blocks_is, small)

-- and at the end,
pub refused_room : {s t : RigState} {o : Ordered} {fault : EmFault} → CanBegin s o → FailsToMake s t fault
    → IsTrue s.device.told
    → IfFull fault (λ used. used < eval_room s.pool.shape (circuit_size o.header))
refused_room {s} {t} {o} {fault} can f z =
    let small = edges_small s.pool.shape o.header can.sound.shape in
    full_less s t fault (eval_room s.pool.shape (circuit_size o.header)) f.cause
    (omega (arith, f.used, can.alone, can.packed, can.is.resets.blocks_is, small))

-- and all blocks but a few were moved.
pub refused_paid : {s t : RigState} {o : Ordered} {fault : EmFault} → CanBegin s o
    → FailsToMake s t fault → (2 ^ 64 - 1 ≤ t.moves) ⊎ (t.used ≤ t.moves + 2 * t.pool.shape.frames)
refused_paid {s} {t} can f =
    let low = f.goes.sound.shape.frames_low in
    let later = f.goes.touches.moves in
    ⊎_elim
    (λ (x : 2 ^ 64 - 1 ≤ s.moves). inl (omega (arith, x, later)))
    (λ (x : s.used ≤ s.moves). ⊎_elim
    (λ (y : 2 ^ 64 - 1 ≤ t.moves). inl y)
    (λ (y : t.used + s.moves + 0 ≤ s.used + t.moves + 1). inr (omega (arith, x, y, low)))
    f.pays.is)
    can.paid
