-- A group of steps of an evaluator that stands alone keeps to the circuit's room.
use Rattle.std.proofs.Common.{◌≡◌, ℕ, ◌+◌, ◌*◌, ◌≤◌, IfErr, Result, Ok, Err, subst, sym, arith}
use Rattle.std.proofs.Math.Nat.{mul-le-mul_left}
use Rattle.em_record.specs.Cost.{blocks_of, lev}
use Rattle.em_record.specs.Shape.{IsShape, ShapeNumbers}
use Rattle.em_record.proofs.Levels.{lev_rises}
use Rattle.em_space.specs.Rig.{RigState}
use Rattle.em_space.specs.declared.fault.EmFault.{EmFault}
use Rattle.em_space.specs.declared.queue.Queue.{Ghosts}
use Rattle.em_queued.specs.Room.{FitsRoom}
use Rattle.em_queued.proofs.Room.{full_wider}
use Rattle.em_tree_cost.specs.Shares.{floors_of}
use Rattle.em_tree_cost.proofs.Rising.{tree_room_rises}
use Rattle.aig_defs.specs.Begun.{circuit_size}
use Rattle.aig_defs.specs.Circuit.{columns}
use Rattle.aig_defs.specs.declared.circuit.Header.{Header}
use Rattle.aig_edges.specs.Graph.{edge_count}
use Rattle.aig_edges.specs.declared.stop.StepStop.{StepStop}
use Rattle.aig_edges.specs.declared.stop.StepStop.TheVariants as stops
use Rattle.aig_edges.proofs.Room.{FitsCircuit, list_blocks}
use Rattle.aig_sweep.specs.QueueState.{queue_state}
use Rattle.aig_sweep.specs.Room.{IfStepEm, IsShortSweeper}
use Rattle.aig_sweep.specs.Sweeper.{IsSweeper}
use Rattle.aig_sweep.specs.declared.sweeper.Sweeper.{Sweeper}
use Rattle.aig_sweep.proofs.SweepRoom.{SweptWithin, step_by, sweep_full, swept_few, swept_halted, swept_in_room, swept_runs}
use Rattle.aig_wide.specs.Group.{GroupCosts, group_calls, group_room}
use Rattle.aig_wide.specs.Prints.{GroupedTo}
use Rattle.aig_wide.specs.Room.{FullGroup, GroupsInRoom}
use Rattle.aig_wide.specs.declared.group.GroupEnd.{GroupEnd}
use Rattle.aig_wide.specs.declared.group.GroupEnd.TheVariants as end
use Rattle.aig_wide.proofs.GroupCalls.{calls_blocks, level_more}

-- the room of a queue with the calls of a group, and these chains, is within the circuit's
group_fits : (shape : ShapeNumbers) (h : Header) (k chains : ℕ) → IsShape shape → h.latches ≡ 0
    → k ≤ group_calls h → chains ≤ 4 * (blocks_of shape (2 * circuit_size h) + 1)
    → FitsCircuit shape h k chains
group_fits shape h k chains is none l few =
    let size = circuit_size h in
    let q = blocks_of shape (2 * size) in
    let calls : k ≤ 4 * size + 252 = omega (arith, l, none) in
    let rises = tree_room_rises shape k (4 * size + 252) calls in
    let blocks = calls_blocks shape size is in
    let levels = floors_most shape size is in
    let floors : shape.frames * (1 + floors_of shape (4 * size + 252)) ≤ shape.frames * (3 + lev shape q) =
    mul-le-mul_left shape.frames (omega (arith, levels)) in
    omega (arith, rises, blocks, floors, few)
  where
    floors_most : (shape : ShapeNumbers) (size : ℕ) → IsShape shape
        → floors_of shape (4 * size + 252) ≤ 2 + lev shape (blocks_of shape (2 * size))
    floors_most shape size is =
        let q = blocks_of shape (2 * size) in
        let few = lev_rises shape (blocks_of shape (4 * size + 252)) (2 * q + 2) is
        (calls_blocks shape size is) in
        let more = level_more shape q is in
        omega (arith, few, more)

-- the lists of a group are few, if the edges are short
group_few : {Q : Type 0} {queue : Ghosts Q} {s : RigState} {e : Sweeper Q} → IsShape s.pool.shape
    → IsSweeper queue s e → IsShortSweeper s e
    → 0 + group_room s e ≤ 4 * (blocks_of s.pool.shape (2 * circuit_size e.header) + 1)
group_few {s = s} {e} is i short =
    let h = e.header in
    let shape = s.pool.shape in
    let size = circuit_size h in
    let inputs = list_blocks shape h.inputs size is (omega arith) in
    let outputs = list_blocks shape (columns h) size is (omega arith) in
    let latches = list_blocks shape h.latches size is (omega arith) in
    let edges = list_blocks shape (edge_count h) size is (omega arith) in
    omega (arith, inputs, outputs, latches, edges, i.state_blocks, short.edges)

-- a call was refused as full
wide_full : {Q : Type 0} (queue : Ghosts Q) (s t : RigState) (e : Sweeper Q) (f : Q)
    (stopped : StepStop)
    → GroupedTo e.header e.given e.gates (queue_state queue e.queue s) (queue_state queue f t) (Err stopped)
    → IfStepEm stopped (FullGroup queue s e (record e { queue = f }))
wide_full queue s t e f (stops.Fault kind place) g = tt
wide_full queue s t e f stops.Read g = tt
wide_full queue s t e f stops.Write g = tt
wide_full queue s t e f (stops.Em fault) g = full_wider (omega arith) g.full

-- what was done, by the numbers alone,
group_within : {Q : Type 0} (queue : Ghosts Q) {s t : RigState} {e f : Sweeper Q}
    → IsShape s.pool.shape → IsSweeper queue s e → e.header.latches ≡ 0
    → (queue.counts e.queue).since ≡ 0 → FitsRoom queue.room (queue.counts f.queue) t
    → SweptWithin queue (group_calls e.header) (group_room s e) s t e f
    → (result : Result GroupEnd StepStop)
    → IfErr result (λ stopped. IfStepEm stopped (FullGroup queue s e f))
    → GroupsInRoom queue s t e f result
group_within queue {s} {t} {e} {f} is i none since fits w result full =
    let h = e.header in
    let calls = group_calls h in
    let d = queue.counts f.queue in
    record {
      full = full;
      alone = λ a short.
          let circuit = λ (k : ℕ) (l : k ≤ calls).
          group_fits s.pool.shape h k (0 + group_room s e) is none l (group_few is i short) in (
            swept_in_room queue e f calls w since (omega arith) fits a circuit,
            stops_by result (λ fault z. sweep_full queue e d.k (group_room s e) calls fault a
                (circuit d.k (swept_few calls w since (omega arith) a.few)) z) full,
          );
      keeps = λ few. swept_few calls w since (omega arith) few;
    }
  where
    stops_by : (result : Result GroupEnd StepStop) {P R : EmFault → Type 0}
        → ((fault : EmFault) → P fault → R fault) → IfErr result (λ stopped. IfStepEm stopped P)
        → IfErr result (λ stopped. IfStepEm stopped R)
    stops_by (Ok x) f h = tt
    stops_by (Err stopped) f h = step_by stopped f h

-- and by the result.
pub wide_in_room : {Q : Type 0} {queue : Ghosts Q} {s : RigState} (t : RigState) {e : Sweeper Q} (f : Q)
    (result : Result GroupEnd StepStop) → IsShape s.pool.shape → IsSweeper queue s e
    → e.header.latches ≡ 0 → (queue.counts e.queue).since ≡ 0 → FitsRoom queue.room (queue.counts f) t
    → GroupedTo e.header e.given e.gates (queue_state queue e.queue s) (queue_state queue f t) result
    → GroupCosts queue s t e (record e { queue = f }) result
    → GroupsInRoom queue s t e (record e { queue = f }) result
wide_in_room {queue = queue} t {e} f (Ok (end.Printed count)) is i none since fits g k =
    group_within queue is i none since fits (swept_runs queue e (record e { queue = f }) k)
    (Ok (end.Printed count)) tt
wide_in_room {Q} {queue} {s} t {e} f (Ok end.End) is i none since fits g k =
    let idle : GroupsInRoom queue s s e e (Ok end.End) = record {
      full = tt;
      alone = λ a short. (omega arith, tt);
      keeps = λ few. few;
    } in
    subst (λ (x : RigState). GroupsInRoom queue s x e (record e { queue = f }) (Ok end.End)) (sym k.0)
    (subst (λ (o : Sweeper Q). GroupsInRoom queue s s e o (Ok end.End)) (sym k.1) idle)
wide_in_room {queue = queue} {s} t {e} f (Err stopped) is i none since fits g k =
    group_within queue is i none since fits (swept_halted queue e (record e { queue = f }) k)
    (Err stopped) (wide_full queue s t e f stopped g)
