-- How an evaluation ends, from what its parts say.
use Rattle.std.proofs.Common.{◌≡◌, ℕ, ◌+◌, ◌<◌, ◌≤◌, ◌⊎◌, inl, inr, Bool, true, false, List, [], ap, sym, subst, ◌∙◌, arith, IsTrue, Option, Some, None, Ok, Err}
use Rattle.em_record.specs.Count.{Rose}
use Rattle.em_record.specs.Shape.{IsShape, ShapeNumbers, payload_of}
use Rattle.em_io.specs.Shelf.{IsUnopened, SlotState}
use Rattle.em_io.specs.declared.shelf.Slot.{Slot}
use Rattle.em_io.specs.declared.shelf.Slot.TheVariants.{First, Second}
use Rattle.em_io.specs.Sink.{IsRule, SentPart}
use Rattle.em_io.proofs.Sent.{part-of, sent-nothing}
use Rattle.em_frames.specs.Device.{DeviceState}
use Rattle.em_space.specs.Rig.{RigState, Sound, Touches}
use Rattle.em_space.specs.declared.fault.EmFault.TheVariants as em
use Rattle.em_space.proofs.Steps.{cause_after}
use Rattle.aig_defs.specs.declared.circuit.Header.{Header}
use Rattle.aig_defs.specs.declared.fault.AigKind.{AigKind}
use Rattle.aig_defs.specs.declared.fault.AigKind.TheVariants.{Latched}
use Rattle.aig_defs.specs.Items.{Reads}
use Rattle.aig_defs.specs.Stimulus.{output_lines, steps_begun, stimulus_of}
use Rattle.aig_defs.specs.TextFault.{either_text, text_fault}
use Rattle.aig_defs.specs.Value.{run_of}
use Rattle.aig_defs.proofs.EitherText.{text_none}
use Rattle.aig_defs.specs.Begun.{circuit_size}
use Rattle.aig_edges.specs.Room.{IsInRoom}
use Rattle.aig_edges.specs.declared.graph.Ordered.{Ordered}
use Rattle.em_eval.specs.EvalRun.{asked_of_eval}
use Rattle.em_eval.specs.EvalMoves.{circuit_moves, making_moves, rounds_moves}
use Rattle.em_eval.specs.EvalDue.{aig_status, eval_output, eval_status, job_fault}
use Rattle.em_eval.specs.EvalSize.{circuit_read, eval_cost, eval_room, given_of, passes_read, rounds_of, steps_read}
use Rattle.em_eval.specs.Evaluation.{CircuitCause, EndsSteps, FillsEval, PrintsAll, SpellsEdges, StepsCause, steps_of}
use Rattle.em_ends.specs.Ended.{Caused, Ended, GoesOn, KeepsRoom, Outside}
use Rattle.em_ends.specs.Stop.{stop_status, Faults, IfStopsFull, OnFault, fault_counts}
use Rattle.em_ends.specs.RunStop.{FillsRun, RunCause}
use Rattle.em_ends.specs.declared.status.Malform.{Malform}
use Rattle.em_ends.specs.declared.status.Malform.TheVariants.{Text, Base, Aig}
use Rattle.em_ends.specs.declared.status.Status.TheVariants.{Done, Malformed, ReadFault}
use Rattle.em_ends.specs.declared.stop.Stop.{Stop}
use Rattle.em_ends.specs.declared.stop.Stop.TheVariants.{Fault, Read, Write, Em}
use Rattle.em_ends.proofs.EndLaws.{KeepsMoves, Stopped, done_whole, ended_due, malformed_whole}
use Rattle.em_eval.proofs.EvalCosts.{evaluation_within, making_rises, rounds_rise}
use Rattle.em_eval.proofs.EvalRoom.{eval_room_rises, room_after, stops_less}
use Rattle.em_eval.proofs.Evaluating.{fault_due, fault_first, fault_latched, fault_none, lines_due, nothing_due, steps_counted, steps_due}

-- a slot that is as one that wasn't opened is neither open nor lost
pub still_unopened : (x y : SlotState) → x ≡ y → IsUnopened y → x.opened ≡ true → ⊥
still_unopened x y e u h =
    let z : y.opened ≡ true = subst (λ (v : SlotState). v.opened ≡ true) e h in cc (z, u.opened)

pub still_there : (x y : SlotState) → x ≡ y → IsUnopened y → x.lost ≡ true → ⊥
still_there x y e u h =
    let z : y.lost ≡ true = subst (λ (v : SlotState). v.lost ≡ true) e h in cc (z, u.lost)

-- The moves of a run are within its transfer cost.
abbrev pub KeepsEval : Bool → Option ℕ → Bool → List ℕ → List ℕ → (Slot → SlotState) → RigState → RigState
    → Type 0
KeepsEval wide start tells circuit stimulus slots a c = IsTrue tells → IsTrue a.device.told
    → c.moves ≤ a.moves + eval_cost a.pool.shape (circuit_read start (slots First) circuit)
    (rounds_of wide (steps_read start circuit (slots Second) stimulus)) (passes_read start circuit)

-- its device was moved as often
pub device_keeps : {a c : RigState} (n : ℕ) → Sound a → Sound c → c.moves ≤ a.moves + n
    → c.device.moves ≤ a.device.moves + n
device_keeps n old new h = omega (arith, h, old.moves_is, new.moves_is)

-- none were moved
pub none_more : (m n : ℕ) → m ≤ m + n
none_more m n = omega arith

-- a part of the moves of an evaluation, or both parts
part_within : (u s a b c : ℕ) → u ≤ s + a → a + b ≤ c → u ≤ s + c
part_within u s a b c h k = omega (arith, h, k)

both_within : (u t s a few b c : ℕ) → t ≤ s + a → u ≤ t + few → few ≤ b → a + b ≤ c → u ≤ s + c
both_within u t s a few b c g h i k = omega (arith, g, h, i, k)

both_rise : (a b c d : ℕ) → a ≤ b → c ≤ d → a + c ≤ b + d
both_rise a b c d h k = omega (arith, h, k)

-- a job that its circuit's latches don't stop isn't wide, or the circuit has none
pub none_taken : {wide : Bool} {n : ℕ} → (wide ≡ true × n ≡ 0) ⊎ (wide ≡ false) → wide ≡ true → n ≡ 0
none_taken (inl both) h = both.1
none_taken (inr narrow) h = absurd (cc (h, narrow))

-- What a full device says: few blocks were moved, and it has fewer than the room of what was read.
pub eval_fills : (wide : Bool) (start : Option ℕ) (tells : Bool) (y w : List ℕ) (slots : Slot → SlotState) (c : RigState)
    (stop : Stop) → IfStopsFull stop (FillsEval c)
    → (IsTrue tells → IsTrue c.device.told → IfStopsFull stop
    (λ used. used < eval_room c.pool.shape (circuit_read start (slots First) y)))
    → IfStopsFull stop (FillsRun tells (asked_of_eval wide start y w) slots c)
eval_fills wide start tells y w slots c (Fault kind place) f room = tt
eval_fills wide start tells y w slots c Read f room = tt
eval_fills wide start tells y w slots c Write f room = tt
eval_fills wide start tells y w slots c (Em em.DeviceFault) f room = tt
eval_fills wide start tells y w slots c (Em (em.Damaged block)) f room = tt
eval_fills wide start tells y w slots c (Em (em.Full used)) f room = record { paid = f.paid; room = room }

-- The circuit wasn't read, or has a fault. `x` is what the slot had left when it was opened, and `y`
-- the file's text.
module _ (wide : Bool) (start : Option ℕ) (tells : Bool) (x y stimulus : List ℕ) (e : IsTrue tells → x ≡ y) where
  pub circuit_cause : (faults later : Faults) (a c : RigState) (stop : Stop)
      → CircuitCause start tells x faults later a c stop
      → RunCause tells (asked_of_eval wide start y stimulus) faults later a c stop
  circuit_cause faults later a c (Fault (Text kind) line) cause = absurd cause
  circuit_cause faults later a c (Fault (Base kind) line) cause = absurd cause
  circuit_cause faults later a c (Fault (Aig kind) place) cause = λ t d.
      fault_due wide start y stimulus kind place (fault_first wide start y kind place
      (subst (λ (v : List ℕ). text_fault start v ≡ Some (kind, place)) (e t) (cause t d)))
  circuit_cause faults later a c Read cause = cause
  circuit_cause faults later a c Write cause = absurd cause
  circuit_cause faults later a c (Em fault) cause = cause

  -- when it is full, on the rig at the end
  pub circuit_few : (slots : Slot → SlotState) (a c : RigState) (stop : Stop) → Touches [] a c
      → (IsTrue tells → IsTrue a.device.told → IfStopsFull stop
      (λ used. used < eval_room a.pool.shape (circuit_read start (slots First) x)))
      → IsTrue tells → IsTrue c.device.told → IfStopsFull stop
      (λ used. used < eval_room c.pool.shape (circuit_read start (slots First) y))
  circuit_few slots a c stop touches room t d =
      subst (λ (v : ShapeNumbers). IfStopsFull stop
      (λ used. used < eval_room v (circuit_read start (slots First) y))) (sym touches.shape)
      (subst (λ (v : List ℕ). IfStopsFull stop
      (λ used. used < eval_room a.pool.shape (circuit_read start (slots First) v))) (e t)
      (room t (sym touches.told ∙ d)))

  -- at no moment more blocks were in use than the room of what was read
  pub circuit_most : (slots : Slot → SlotState) (a c : RigState)
      → (IsTrue tells → IsTrue a.device.told
      → c.most ≤ eval_room a.pool.shape (circuit_read start (slots First) x))
      → KeepsRoom (asked_of_eval wide start y stimulus) tells a c slots
  circuit_most slots a c most t d =
      subst (λ (v : List ℕ). c.most ≤ eval_room a.pool.shape (circuit_read start (slots First) v)) (e t) (most t d)

  -- what was moved until then, by the transfer cost
  pub circuit_keeps : (slots : Slot → SlotState) (a c : RigState) → IsShape a.pool.shape
      → (IsTrue tells → IsTrue a.device.told → c.moves ≤ a.moves
      + circuit_moves a.pool.shape (circuit_read start (slots First) x) (passes_read start x))
      → KeepsEval wide start tells y stimulus slots a c
  circuit_keeps slots a c is moves = λ t d.
      let size = circuit_read start (slots First) y in
      let steps = steps_read start y (slots Second) stimulus in
      let passes = passes_read start y in
      let own : c.moves ≤ a.moves + circuit_moves a.pool.shape size passes =
      subst (λ (v : List ℕ). c.moves ≤ a.moves
      + circuit_moves a.pool.shape (circuit_read start (slots First) v) (passes_read start v)) (e t) (moves t d) in
      part_within c.moves a.moves (circuit_moves a.pool.shape size passes)
      (making_moves a.pool.shape size + rounds_moves wide a.pool.shape size steps)
      (eval_cost a.pool.shape size (rounds_of wide steps) passes) own
      (evaluation_within wide a.pool.shape size passes steps is)

  module _ {IsState : List ℕ → Type 0} {took : List ℕ → List ℕ → List ℕ}
      (rule : IsRule IsState took) (old new : Outside) (ok : IsState old.output)
      (same : new.output ≡ old.output) where
    -- nothing was printed
    part_none : SentPart took old.output (eval_output wide start y stimulus) new.output
    part_none = part-of (sent-nothing rule ok (eval_output wide start y stimulus) same)

    pub circuit_stopped : (faults later : Faults) (a c : RigState) (stop : Stop)
        → old.device ≡ a.device → CircuitCause start tells x faults later a c stop
        → Stopped tells took (asked_of_eval wide start y stimulus) old new stop
    circuit_stopped faults later a c (Fault (Text kind) line) before cause = absurd cause
    circuit_stopped faults later a c (Fault (Base kind) line) before cause = absurd cause
    circuit_stopped faults later a c (Fault (Aig kind) place) before cause = record {
      fault = λ t d.
          let first = cause t (subst (λ (v : DeviceState). IsTrue v.told) before d) in
          same ∙ sym (rule.nothing old.output ok)
          ∙ ap (took old.output) (sym (nothing_due wide start y stimulus kind place
          (fault_first wide start y kind place
          (subst (λ (v : List ℕ). text_fault start v ≡ Some (kind, place)) (e t) first))));
      part = λ t d. part_none;
    }
    circuit_stopped faults later a c Read before cause =
        record { fault = λ t d. tt; part = λ t d. part_none }
    circuit_stopped faults later a c Write before cause = absurd cause
    circuit_stopped faults later a c (Em fault) before cause =
        record { fault = λ t d. tt; part = λ t d. part_none }

-- The circuit was read, and steps were made: `z` is what the second slot had left when it was opened,
-- and `w` that file's text.
module _ (wide : Bool) {start : Option ℕ} (tells told : Bool) (x y z w : List ℕ) (m : RigState) (o : Ordered)
    (e : IsTrue tells → x ≡ y) (f : IsTrue tells → z ≡ w)
    (spells : IsTrue tells → SpellsEdges start told x m o)
    (few : wide ≡ true → o.header.latches ≡ 0) where
  reads_file : (t : IsTrue tells)
      → either_text start 0 y ≡ Reads (spells t).circuit (spells t).place []
  reads_file t =
      subst (λ (v : List ℕ). either_text start 0 v ≡ Reads (spells t).circuit (spells t).place []) (e t)
      (spells t).reads

  -- the circuit has no fault
  pub none_first : IsTrue tells → IsTrue told → job_fault wide start y ≡ None
  none_first t d =
      let c = (spells t).circuit in
      fault_none start y c (spells t).place []
      (text_none start y c (spells t).place [] (reads_file t) ((spells t).orders d).is.ordered.faultless)
      (reads_file t) wide
      (λ h. ap (λ (v : Header). v.latches) (spells t).header ∙ few h)

  -- the status is that of the stimulus's first fault, or of none
  pub status_after : (fault : Option (AigKind × ℕ)) → IsTrue tells → IsTrue told
      → (stimulus_of o.header.inputs z).fault ≡ fault → eval_status wide start y w ≡ aig_status fault
  status_after fault t d h =
      let here : (stimulus_of o.header.inputs w).fault ≡ fault =
      subst (λ (v : List ℕ). (stimulus_of o.header.inputs v).fault ≡ fault) (f t) h in
      let own : (stimulus_of (spells t).circuit.header.inputs w).fault ≡ fault =
      subst (λ (v : Header). (stimulus_of v.inputs w).fault ≡ fault) (sym (spells t).header) here in
      steps_due wide start y w (spells t).circuit (spells t).place [] (none_first t d) (reads_file t)
      ∙ ap aig_status own

  -- the output is the lines of the steps
  pub lines_after : (t : IsTrue tells) → IsTrue told → eval_output wide start y w
      ≡ output_lines (run_of (spells t).circuit (stimulus_of o.header.inputs z).steps)
  lines_after t d =
      let c = (spells t).circuit in
      lines_due wide start y w c (spells t).place [] (none_first t d) (reads_file t)
      ∙ ap (λ (v : Header). output_lines (run_of c (stimulus_of v.inputs w).steps)) (spells t).header
      ∙ ap (λ (v : List ℕ). output_lines (run_of c (stimulus_of o.header.inputs v).steps)) (sym (f t))

  pub steps_cause : (faults later : Faults) (a c : RigState) (stop : Stop)
      → a.device.told ≡ told → Touches [] a m
      → (IsTrue tells → EndsSteps (stimulus_of o.header.inputs z) (Err stop))
      → StepsCause faults later m c stop
      → RunCause tells (asked_of_eval wide start y w) faults later a c stop
  steps_cause faults later a c (Fault (Text kind) line) same touches ends cause =
      λ t d. absurd (ends t)
  steps_cause faults later a c (Fault (Base kind) line) same touches ends cause =
      λ t d. absurd (ends t)
  steps_cause faults later a c (Fault (Aig kind) place) same touches ends cause = λ t d.
      status_after (Some (kind, place)) t (subst (λ (b : Bool). IsTrue b) same d) (ends t)
  steps_cause faults later a c Read same touches ends cause = cause
  steps_cause faults later a c Write same touches ends cause = cause
  steps_cause faults later a c (Em fault) same touches ends cause =
      cause_after [] a m c fault touches cause

  -- when it is full, on the rig at the end
  pub steps_few : {held : List ℕ} (slots : Slot → SlotState) (c : RigState) (stop : Stop) → Touches held m c
      → (IsTrue tells → circuit_size o.header ≤ circuit_read start (slots First) x)
      → (IsTrue m.device.told → IfStopsFull stop
      (λ used. used < eval_room m.pool.shape (circuit_size o.header)))
      → IsTrue tells → IsTrue c.device.told → IfStopsFull stop
      (λ used. used < eval_room c.pool.shape (circuit_read start (slots First) y))
  steps_few slots c stop touches small room t d =
      let read = circuit_read start (slots First) y in
      let large : circuit_size o.header ≤ read =
      subst (λ (v : List ℕ). circuit_size o.header ≤ circuit_read start (slots First) v) (e t) (small t) in
      subst (λ (v : ShapeNumbers). IfStopsFull stop (λ used. used < eval_room v read)) (sym touches.shape)
      (stops_less stop (eval_room m.pool.shape (circuit_size o.header)) (eval_room m.pool.shape read)
      (eval_room_rises m.pool.shape (circuit_size o.header) read large) (room (sym touches.told ∙ d)))

  -- at no moment more blocks were in use than the room of what was read
  pub steps_most : (slots : Slot → SlotState) (a c : RigState) → Touches [] a m
      → (IsTrue tells → circuit_size o.header ≤ circuit_read start (slots First) x)
      → (IsTrue tells → IsTrue a.device.told
      → m.most ≤ eval_room a.pool.shape (circuit_read start (slots First) x))
      → (IsTrue m.device.told → IsInRoom o.header m c)
      → KeepsRoom (asked_of_eval wide start y w) tells a c slots
  steps_most slots a c touches small first then t d =
      subst (λ (v : List ℕ). c.most ≤ eval_room a.pool.shape (circuit_read start (slots First) v)) (e t)
      (room_after a m c o.header (circuit_read start (slots First) x) touches.shape (small t) (first t d)
      (then (touches.told ∙ d)))

  -- what was moved, by the transfer cost
  pub steps_keep : (slots : Slot → SlotState) (a c : RigState) → Sound a → Touches [] a m
      → (IsTrue tells → circuit_size o.header ≤ circuit_read start (slots First) x)
      → (IsTrue tells → IsTrue a.device.told → m.moves ≤ a.moves
      + circuit_moves a.pool.shape (circuit_read start (slots First) x) (passes_read start x))
      → (IsTrue tells → IsTrue m.device.told → c.moves ≤ m.moves
      + (making_moves m.pool.shape (circuit_size o.header)
      + rounds_moves wide m.pool.shape (circuit_size o.header)
      (steps_of o.header.inputs z (slots Second))))
      → KeepsEval wide start tells y w slots a c
  steps_keep slots a c sound touches small first then = λ t d.
      let slot = slots Second in
      let n = steps_of o.header.inputs z slot in
      let read = circuit_read start (slots First) y in
      let passes = passes_read start y in
      let shape = a.pool.shape in
      let count : steps_read start y slot w ≡ n =
      steps_counted start y w (spells t).circuit (spells t).place [] slot (reads_file t)
      ∙ ap (λ (v : Header). steps_begun v.inputs (given_of slot w) w) (spells t).header
      ∙ ap (λ (v : List ℕ). steps_of o.header.inputs v slot) (sym (f t)) in
      let large : circuit_size o.header ≤ read =
      subst (λ (v : List ℕ). circuit_size o.header ≤ circuit_read start (slots First) v) (e t) (small t) in
      let low = sound.shape.block_low in
      let some : 0 < payload_of shape = omega (arith, low) in
      let own : m.moves ≤ a.moves + circuit_moves shape read passes =
      subst (λ (v : List ℕ). m.moves ≤ a.moves
      + circuit_moves shape (circuit_read start (slots First) v) (passes_read start v)) (e t) (first t d) in
      let size = circuit_size o.header in
      let steps : c.moves ≤ m.moves + (making_moves shape size + rounds_moves wide shape size n) =
      subst (λ (v : ShapeNumbers). c.moves ≤ m.moves + (making_moves v size + rounds_moves wide v size n))
      touches.shape (then t (touches.told ∙ d)) in
      let makes : making_moves shape size ≤ making_moves shape read =
      making_rises shape size read some large in
      subst (λ (k : ℕ). c.moves ≤ a.moves + eval_cost shape read (rounds_of wide k) passes) (sym count)
      (both_within c.moves m.moves a.moves (circuit_moves shape read passes)
      (making_moves shape size + rounds_moves wide shape size n)
      (making_moves shape read + rounds_moves wide shape read n) (eval_cost shape read (rounds_of wide n) passes) own steps
      (both_rise (making_moves shape size) (making_moves shape read) (rounds_moves wide shape size n)
      (rounds_moves wide shape read n) makes (rounds_rise wide shape size read n some large))
      (evaluation_within wide shape read passes n sound.shape))

  told_here : (old : Outside) → old.device.told ≡ told → IsTrue old.device.told → IsTrue told
  told_here old same d = subst (λ (b : Bool). IsTrue b) same d

  module _ {took : List ℕ → List ℕ → List ℕ} (old new : Outside)
      (same : old.device.told ≡ told) where
    pub steps_stopped : (stop : Stop) → ((t : IsTrue tells) → IsTrue told → PrintsAll took
        (output_lines (run_of (spells t).circuit (stimulus_of o.header.inputs z).steps))
        old.output new.output (Err stop))
        → Stopped tells took (asked_of_eval wide start y w) old new stop
    steps_stopped stop p = record {
      fault = λ t d. subst (λ (v : List ℕ). OnFault stop (new.output ≡ took old.output v))
          (sym (lines_after t (told_here old same d))) (p t (told_here old same d)).all;
      part = λ t d. subst (λ (v : List ℕ). SentPart took old.output v new.output)
          (sym (lines_after t (told_here old same d))) (p t (told_here old same d)).part;
    }

    pub steps_done : {shape : ShapeNumbers} {blocks : ℕ}
        → ((t : IsTrue tells) → IsTrue told → PrintsAll took
        (output_lines (run_of (spells t).circuit (stimulus_of o.header.inputs z).steps))
        old.output new.output (Ok tt))
        → (IsTrue tells → EndsSteps (stimulus_of o.header.inputs z) (Ok tt))
        → KeepsMoves tells (asked_of_eval wide start y w) shape old new
        → Ended tells took (asked_of_eval wide start y w) shape blocks old new Done
    steps_done p ends kept = ended_due (asked_of_eval wide start y w) Done done_whole
        (λ t d. sym (status_after None t (told_here old same d) (ends t)))
        (λ t d. subst (λ (v : List ℕ). new.output ≡ took old.output v)
        (sym (lines_after t (told_here old same d))) (p t (told_here old same d)).all)
        (λ t d. subst (λ (v : List ℕ). SentPart took old.output v new.output)
        (sym (lines_after t (told_here old same d))) (p t (told_here old same d)).part)
        kept

-- The circuit was read and has latches, and the job is wide: nothing was printed.
module _ (wide : Bool) {start : Option ℕ} (tells told : Bool) (x y w : List ℕ) (m : RigState) (o : Ordered)
    (e : IsTrue tells → x ≡ y) (spells : IsTrue tells → SpellsEdges start told x m o)
    (is : wide ≡ true) (some : o.header.latches ≡ 0 → ⊥) where
  latched_first : IsTrue tells → IsTrue told → job_fault wide start y ≡ Some (Latched, 0)
  latched_first t d =
      let c = (spells t).circuit in
      let reads = subst (λ (v : List ℕ). either_text start 0 v ≡ Reads c (spells t).place []) (e t)
      (spells t).reads in
      fault_latched start y c (spells t).place []
      (text_none start y c (spells t).place [] reads ((spells t).orders d).is.ordered.faultless)
      reads wide is (λ h. some (ap (λ (v : Header). v.latches) (sym (spells t).header) ∙ h))

  module _ {IsState : List ℕ → Type 0} {took : List ℕ → List ℕ → List ℕ} (rule : IsRule IsState took)
      (old new : Outside) (ok : IsState old.output) (same : new.output ≡ old.output)
      (before : old.device.told ≡ told) where
    -- nothing is due
    nothing : IsTrue tells → IsTrue old.device.told → eval_output wide start y w ≡ []
    nothing t d = nothing_due wide start y w Latched 0
        (latched_first t (subst (λ (b : Bool). IsTrue b) before d))

    pub ended_latched : {shape : ShapeNumbers} {blocks : ℕ} → KeepsMoves tells (asked_of_eval wide start y w) shape old new
        → Ended tells took (asked_of_eval wide start y w) shape blocks old new (Malformed (Aig Latched) 0)
    ended_latched kept = ended_due (asked_of_eval wide start y w) (Malformed (Aig Latched) 0)
        (malformed_whole (Aig Latched) 0)
        (λ t d. sym (fault_due wide start y w Latched 0
        (latched_first t (subst (λ (b : Bool). IsTrue b) before d))))
        (λ t d. same ∙ sym (rule.nothing old.output ok) ∙ ap (took old.output) (sym (nothing t d)))
        (λ t d. part-of (sent-nothing rule ok (eval_output wide start y w) same))
        kept

-- A fault of the input names no cause.
pub malformed_caused : (old new : Outside) (kind : Malform) (place : ℕ) → GoesOn old new
    → Caused old new (Malformed kind place)
malformed_caused old new kind place on = record {
  goes_on = on;
  read = λ f. absurd (cc);
  write = λ f. absurd (cc);
  device = λ f. absurd (cc);
}

-- An evaluation that was done names no cause.
pub done_caused : (old new : Outside) → GoesOn old new → Caused old new Done
done_caused old new on = record {
  goes_on = on;
  read = λ f. absurd (cc);
  write = λ f. absurd (cc);
  device = λ f. absurd (cc);
}

-- A slot that couldn't be opened is a failure of the shelf.
pub unopened_caused : (old new : Outside) → GoesOn old new → Rose old.read_faults new.read_faults
    → Caused old new ReadFault
unopened_caused old new on rose = record {
  goes_on = on;
  read = λ f. rose;
  write = λ f. absurd (cc);
  device = λ f. absurd (cc);
}

-- An evaluation that stopped has its cause outside, if it names one. `m` is the rig before the steps.
pub steps_caused : (old new : Outside) (read write : ℕ) (m c : RigState) (stop : Stop)
    → GoesOn old new → old.read_faults ≤ read → old.write_faults ≤ write
    → old.device.faults ≤ m.device.faults → new.device ≡ c.device
    → StepsCause (fault_counts read write) (fault_counts new.read_faults new.write_faults) m c stop
    → Caused old new (stop_status stop)
steps_caused old new read write m c (Fault kind place) on r w d e x =
    malformed_caused old new kind place on
steps_caused old new read write m c Read on r w d e x = record {
  goes_on = on;
  read = λ f. omega (arith, r, x);
  write = λ f. absurd (cc);
  device = λ f. absurd (cc);
}
steps_caused old new read write m c Write on r w d e x = record {
  goes_on = on;
  read = λ f. absurd (cc);
  write = λ f. omega (arith, w, x);
  device = λ f. absurd (cc);
}
steps_caused old new read write m c (Em em.DeviceFault) on r w d e x = record {
  goes_on = on;
  read = λ f. absurd (cc);
  write = λ f. absurd (cc);
  device = λ f.
      let same = ap (λ (v : DeviceState). v.faults) e in
      omega (arith, d, x, same);
}
steps_caused old new read write m c (Em (em.Full used)) on r w d e x = record {
  goes_on = on;
  read = λ f. absurd (cc);
  write = λ f. absurd (cc);
  device = λ f. absurd (cc);
}
steps_caused old new read write m c (Em (em.Damaged block)) on r w d e x = record {
  goes_on = on;
  read = λ f. absurd (cc);
  write = λ f. absurd (cc);
  device = λ f. absurd (cc);
}
