-- A step of an evaluator that stands alone keeps to the circuit's room.
use Rattle.std.proofs.Common.{◌≡◌, ℕ, ◌+◌, ◌*◌, ◌≤◌, Ok, Err, subst, sym, arith}
use Rattle.em_record.specs.Shape.{IsShape}
use Rattle.em_space.specs.Rig.{RigState}
use Rattle.em_space.specs.declared.queue.Queue.{Ghosts}
use Rattle.em_queued.specs.Room.{FitsRoom}
use Rattle.em_queued.proofs.Room.{full_others, full_wider}
use Rattle.aig_defs.specs.Begun.{circuit_size}
use Rattle.aig_edges.specs.Graph.{edge_count}
use Rattle.aig_edges.specs.declared.stop.StepStop.{StepStop}
use Rattle.aig_edges.specs.declared.stop.StepStop.TheVariants as stop
use Rattle.aig_edges.proofs.Room.{AreFew, fits_circuit, list_blocks}
use Rattle.aig_sweep.specs.Room.{IfStepEm, IsShortSweeper}
use Rattle.aig_sweep.specs.Sweeper.{Halted, IsSweeper, sweeper_blocks}
use Rattle.aig_sweep.specs.declared.sweeper.Sweeper.{Sweeper}
use Rattle.aig_sweep.proofs.SweepRoom.{step_by, sweep_full, swept_few, swept_halted, swept_in_room, swept_runs}
use Rattle.aig_forward.specs.Line.{LineCosts}
use Rattle.aig_forward.specs.Room.{FullStep, StepsInRoom}
use Rattle.aig_forward.specs.Step.{StepCosts, step_account, step_calls, step_room}
use Rattle.aig_forward.specs.declared.step_end.StepEnd.TheVariants.{Printed, End}

-- the chains of a step are few, if the edges are short
step_few : {Q : Type 0} {s : RigState} {e : Sweeper Q} → IsShape s.pool.shape → IsShortSweeper s e
    → AreFew s.pool.shape e.header (0 + step_room s e)
step_few {s = s} {e} is short =
    let h = e.header in
    let shape = s.pool.shape in
    let size = circuit_size h in
    let i = list_blocks shape h.inputs size is (omega arith) in
    let l = list_blocks shape h.latches size is (omega arith) in
    let g = list_blocks shape (edge_count h) size is (omega arith) in
    omega (arith, i, l, g, short.edges)

-- a line wasn't read
pub line_full : {Q : Type 0} (queue : Ghosts Q) {s : RigState} (t : RigState) (e : Sweeper Q)
    (stopped : StepStop) → IsSweeper queue s e
    → (queue.counts e.queue).blocks ≤ (queue.counts e.queue).most
    → FitsRoom queue.room (queue.counts e.queue) s → LineCosts e.header.inputs s t (Err stopped)
    → IfStepEm stopped (FullStep queue s e e)
line_full queue t e (stop.Fault kind place) i most fits k = tt
line_full queue t e stop.Read i most fits k = tt
line_full queue t e stop.Write i most fits k = tt
line_full queue t e (stop.Em fault) i most fits k =
    let latches = i.state_blocks in
    full_wider (omega (arith, latches)) (full_others (queue.counts e.queue) fault most fits k.halts
    k.cause)

-- A step stopped,
pub stopped_in_room : {Q : Type 0} (queue : Ghosts Q) {s t : RigState} (e f : Sweeper Q)
    (stopped : StepStop) → IsShape s.pool.shape → (queue.counts e.queue).since ≡ 0
    → FitsRoom queue.room (queue.counts f.queue) t
    → Halted (step_calls e.header) (step_room s e) 1 (sweeper_blocks queue s e) (step_account s e)
    (queue.counts e.queue) (queue.counts f.queue) s t
    → IfStepEm stopped (FullStep queue s e f) → StepsInRoom queue s t e f (Err stopped)
stopped_in_room queue {s} {t} e f stopped is since fits h full =
    let calls = 2 * circuit_size e.header in
    let w = swept_halted queue e f h in
    let d = queue.counts f.queue in
    let low : step_calls e.header ≤ calls = omega arith in
    record {
      full = full;
      alone = λ a short.
          let few = step_few is short in
          let circuit = λ (k : ℕ) (l : k ≤ calls).
          fits_circuit s.pool.shape e.header k (0 + step_room s e) is l few in (
            swept_in_room queue e f calls w since low fits a circuit,
            step_by stopped (λ fault z. sweep_full queue e d.k (step_room s e) calls fault a
                (circuit d.k (swept_few calls w since low a.few)) z) full,
          );
      keeps = λ few. swept_few calls w since low few;
    }

-- printed a line,
pub printed_in_room : {Q : Type 0} (queue : Ghosts Q) {s t : RigState} (e f : Sweeper Q)
    → IsShape s.pool.shape → (queue.counts e.queue).since ≡ 0
    → FitsRoom queue.room (queue.counts f.queue) t → StepCosts queue s t e f (Ok Printed)
    → StepsInRoom queue s t e f (Ok Printed)
printed_in_room queue {s} {t} e f is since fits h =
    let calls = 2 * circuit_size e.header in
    let w = swept_runs queue e f h in
    let low : step_calls e.header ≤ calls = omega arith in
    record {
      full = tt;
      alone = λ a short.
          let few = step_few is short in (
            swept_in_room queue e f calls w since low fits a
                (λ k l. fits_circuit s.pool.shape e.header k (0 + step_room s e) is l few),
            tt,
          );
      keeps = λ few. swept_few calls w since low few;
    }

-- or did nothing.
pub ended_in_room : {Q : Type 0} (queue : Ghosts Q) {s t : RigState} (e f : Sweeper Q) → t ≡ s → f ≡ e
    → StepsInRoom queue s t e f (Ok End)
ended_in_room {Q} queue {s} {t} e f same is =
    let none : StepsInRoom queue s s e e (Ok End) = record {
      full = tt;
      alone = λ a short. (omega arith, tt);
      keeps = λ few. few;
    } in
    subst (λ (x : RigState). StepsInRoom queue s x e f (Ok End)) (sym same)
    (subst (λ (g : Sweeper Q). StepsInRoom queue s s e g (Ok End)) (sym is) none)
