-- How often a step calls its queue if its ranks fit.
use Rattle.std.proofs.Common.{◌≡◌, ℕ, ◌-◌, ◌*◌, ◌^◌, Result, Ok, Err, IsErr, arith, subst}
use Rattle.em_record.specs.Shape.{ShapeNumbers}
use Rattle.em_space.specs.Queue.{QueueCounts}
use Rattle.em_queued.specs.Queued.{Called, CallsOn}
use Rattle.em_queued.proofs.Queued.{called_none, called_then, called_wider, calls_then, calls_wider}
use Rattle.aig_defs.specs.Circuit.{IsHeader, columns}
use Rattle.aig_defs.specs.declared.circuit.Header.{Header}
use Rattle.aig_edges.specs.declared.stop.StepStop.{StepStop}
use Rattle.aig_edges.specs.declared.stop.StepStop.TheVariants as stop
use Rattle.aig_table.specs.Steps.{CallsTo, Fits, FitsFrames}
use Rattle.aig_forward.specs.Outputs.{OutputCosts, Printing}

-- what holds of a fault, of the result of an early return
pub calls_stop : {T E : Type 0} {n : ℕ} {c d : QueueCounts} (result : Result T E) → IsErr result
    → Called n c d → CallsTo n c d result
calls_stop (Ok x) e h = absurd (cc)
calls_stop (Err f) e h = h

-- no call came
pub calls_nothing : {T E : Type 0} (n : ℕ) (c : QueueCounts) (result : Result T E) → IsErr result
    → CallsTo n c c result
calls_nothing n c result e = calls_stop result e (called_wider (omega arith) (called_none c))

-- the greatest number of 64 bits limits no circuit
pub fits_all : {h : Header} {shape : ShapeNumbers} → IsHeader h → FitsFrames h shape → Fits (2 ^ 64 - 1) h shape
fits_all h f =
    let a = h.inputs in
    let b = h.latches in
    let c = h.gates in
    let d = h.outputs in
    let e = h.bads in
    let g = h.constraints in
    record { few = omega (arith, a, b, c, d, e, g); frames = f }

-- Columns couldn't be printed, after the messages were pushed.
outputs_called : (count : ℕ) (old new : Printing) (e : StepStop) → OutputCosts count old new (Err e)
    → Called count old.counts new.counts
outputs_called count old new (stop.Fault kind place) k = absurd k
outputs_called count old new stop.Read k = absurd k
outputs_called count old new stop.Write k = k.calls_on.called
outputs_called count old new (stop.Em fault) k = k.called

pub calls_unprinted : {T E : Type 0} {h k : Header} {c : QueueCounts} (old new : Printing) (e : StepStop)
    (result : Result T E) → IsErr result → k ≡ h → CallsOn (columns h) c old.counts
    → OutputCosts (columns k) old new (Err e) → CallsTo (2 * columns h) c new.counts result
calls_unprinted {h = h} old new e result f same l x =
    let y = subst (λ (z : Header). OutputCosts (columns z) old new (Err e)) same x in
    calls_stop result f (called_wider (omega arith) (called_then l (outputs_called (columns h) old new e y)))

-- They were.
pub calls_printed : {h k : Header} {c d e : QueueCounts} → k ≡ h → CallsOn (columns h) c d
    → CallsOn (columns k) d e → CallsOn (2 * columns h) c e
calls_printed {d = d} {e} same l x =
    calls_wider (omega arith) (calls_then l (subst (λ (z : Header). CallsOn (columns z) d e) same x))
