-- A run that read its texts whole may hold no fewer blocks, and make no fewer moves, than one that stopped
-- in them.
use Rattle.std.proofs.Common.{IfSome, ◌*◌, ◌+◌, ℕ, zero, suc, ◌-◌, ◌≤◌, Bool, true, false, cond, List, [], ◌∷◌, length, take, arith, Option}
use Rattle.std.specs.List.{sum_by}
use Rattle.std.proofs.lemmas.List.Sums.{sum_by-append}
use Rattle.em_record.specs.Shape.{ShapeNumbers}
use Rattle.em_chain.proofs.Sessions.{ceiling_rises}
use Rattle.em_io.specs.Shelf.{SlotState}
use Rattle.em_io.specs.declared.shelf.Slot.{Slot}
use Rattle.em_io.specs.declared.shelf.Slot.TheVariants.{First, Second}
use Rattle.em_tree_cost.proofs.Rising.{cost_rises}
use Rattle.em_model.specs.Stab.{NumberedInterval, stab_answer_of, stab_answers_from, stab_step}
use Rattle.em_model.specs.declared.command.Command.{Command}
use Rattle.aig_defs.specs.Circuit.{Circuit}
use Rattle.aig_defs.specs.Items.{Reading, Reads, Fails}
use Rattle.aig_defs.specs.TextFault.{either_text}
use Rattle.aig_defs.proofs.Begun.{text_size_rises}
use Rattle.aig_defs.proofs.Stimulus.{steps_begun_rises}
use Rattle.em_run.specs.Tasks.{asked_of}
use Rattle.em_lines.specs.CommandLine.{good_commands}
use Rattle.em_eval.specs.EvalSize.{circuit_read, eval_cost, given_of, passes_read, rounds_of, steps_after, steps_read}
use Rattle.em_run.specs.Made.{read_whole}
use Rattle.em_lines.specs.RunSize.{commands_taken, run_size}
use Rattle.em_answers.specs.Limits.{cost_for, moves_size, syncs_in}
use Rattle.em_answers.proofs.Sizes.{map_rises}
use Rattle.em_model.proofs.SyncLaws.{syncs-take}
use Rattle.std.proofs.Math.Nat.{mul-le-mul}
use Rattle.em_words.specs.declared.job.Task.{Task}
use Rattle.em_words.specs.declared.job.Task.TheVariants.{Answer, Eval}
use Rattle.em_lines.specs.declared.text.FileKind.{FileKind}
use Rattle.em_lines.specs.declared.text.FileKind.TheVariants.{Map, Queue, Stab, Dump}
use Rattle.em_eval.proofs.EvalCosts.{eval_cost_rises}
use Rattle.em_eval.proofs.EvalRoom.{eval_room_rises}
use Rattle.em_lines.proofs.ReadLaws.{within_grows}
use Rattle.em_eval.specs.EvalRun.{start_of}
use Rattle.em_ready.proofs.RoomLaws.{room_rises}

-- more commands report no fewer pairs
pairs_rise : (xs : List NumberedInterval) (cs : List Command) (m n : ℕ) → m ≤ n
    → sum_by length (stab_answers_from xs (take m cs))
    ≤ sum_by length (stab_answers_from xs (take n cs))
pairs_rise xs cs zero n h = omega arith
pairs_rise xs cs (suc m) zero h = absurd (omega (arith, h))
pairs_rise xs [] (suc m) (suc n) h = omega arith
pairs_rise xs (c ∷ cs) (suc m) (suc n) h =
    let ys = stab_step xs c in
    let rest = pairs_rise ys cs m n (omega (arith, h)) in
    let few = sum_by-append length (stab_answer_of xs c) (stab_answers_from ys (take m cs)) in
    let many = sum_by-append length (stab_answer_of xs c) (stab_answers_from ys (take n cs)) in
    omega (arith, rest, few, many)

-- no fewer commands are taken of a text of which less is left
taken_rises : (kind : FileKind) (text left less : List ℕ) → length less ≤ length left
    → commands_taken kind text left ≤ commands_taken kind text less
taken_rises kind text left less h =
    let more = within_grows text (length text - length left) (length text - length less)
    (omega (arith, h)) in
    omega (arith, more)

-- so its run is no smaller
size_rises : (kind : FileKind) (text left less : List ℕ) → length less ≤ length left
    → run_size kind text left ≤ run_size kind text less
size_rises Map text left less h = taken_rises Map text left less h
size_rises Queue text left less h = taken_rises Queue text left less h
size_rises Dump text left less h = taken_rises Dump text left less h
size_rises Stab text left less h =
    let taken = taken_rises Stab text left less h in
    let pairs = pairs_rise [] (good_commands Stab text) (commands_taken Stab text left)
    (commands_taken Stab text less) taken in
    omega (arith, taken, pairs)

-- all was given of a text that is read whole
given_most : (slot : SlotState) (text : List ℕ) → given_of slot text ≤ given_of read_whole text
given_most slot text = least slot.ready
  where
    least : (ready : Bool)
        → cond ready (length text - length slot.left) 0 ≤ given_of read_whole text
    least true = omega arith
    least false = omega arith

-- no fewer steps were begun if more was given
steps_rise : (circuit : Reading Circuit) (given more : ℕ) (stimulus : List ℕ) → given ≤ more
    → steps_after circuit given stimulus ≤ steps_after circuit more stimulus
steps_rise (Reads c p x) given more stimulus h =
    steps_begun_rises c.header.inputs given more stimulus h
steps_rise (Fails kind place) given more stimulus h = omega arith

-- no fewer syncs are taken of it
syncs_rise : (kind : FileKind) (text left less : List ℕ) → length less ≤ length left
    → syncs_in kind text left ≤ syncs_in kind text less
syncs_rise Map text left less h = syncs-take (commands_taken Map text left) (commands_taken Map text less)
    (good_commands Map text) (taken_rises Map text left less h)
syncs_rise Dump text left less h = syncs-take (commands_taken Dump text left) (commands_taken Dump text less)
    (good_commands Dump text) (taken_rises Dump text left less h)
syncs_rise Queue text left less h = omega arith
syncs_rise Stab text left less h = omega arith

-- nor is the size by which its moves go any smaller, whether adds are joined early or not
moved_rises : (kind : FileKind) (early : Bool) (shape : ShapeNumbers) (text left less : List ℕ)
    → length less ≤ length left → moves_size kind early shape text left ≤ moves_size kind early shape text less
moved_rises Map early shape text left less h = map_rises early shape text left less (taken_rises Map text left less h)
moved_rises Queue early shape text left less h = size_rises Queue text left less h
moved_rises Dump early shape text left less h = size_rises Dump text left less h
moved_rises Stab early shape text left less h = size_rises Stab text left less h

-- the transfer cost of no fewer commands is no less
cost_for_rises : (kind : FileKind) (shape : ShapeNumbers) (few many : ℕ) → few ≤ many
    → cost_for kind shape few ≤ cost_for kind shape many
cost_for_rises Map shape few many h = cost_rises shape few many h
cost_for_rises Queue shape few many h = cost_rises shape few many h
cost_for_rises Stab shape few many h = cost_rises shape few many h
cost_for_rises Dump shape few many h = omega (arith, cost_rises shape few many h)

-- nor is that of a whole file
file_rises : (kind : FileKind) (early : Bool) (shape : ShapeNumbers) (text left : List ℕ)
    → (syncs_in kind text left + 1) * cost_for kind shape (moves_size kind early shape text left)
    ≤ (syncs_in kind text [] + 1) * cost_for kind shape (moves_size kind early shape text [])
file_rises kind early shape text left =
    let few = moves_size kind early shape text left in
    let many = moves_size kind early shape text [] in
    let more = cost_for_rises kind shape few many (moved_rises kind early shape text left [] (omega arith)) in
    let syncs = syncs_rise kind text left [] (omega arith) in
    mul-le-mul {n₁ = syncs_in kind text left + 1} {m₁ = cost_for kind shape few}
    {n₂ = syncs_in kind text [] + 1} {m₂ = cost_for kind shape many} (omega (arith, syncs)) more

-- more steps take no fewer rounds
more_rounds : (wide : Bool) (few many : ℕ) → few ≤ many → rounds_of wide few ≤ rounds_of wide many
more_rounds false few many h = h
more_rounds true few many h = let more = ceiling_rises few many 64 (omega arith) h in omega (arith, more)

-- no less was read of a circuit whose text is read whole
read_rises : (start : Option ℕ) (circuit : List ℕ) (slots : Slot → SlotState)
    → circuit_read start (slots First) circuit ≤ circuit_read start read_whole circuit
read_rises start circuit slots =
    text_size_rises start (given_of (slots First) circuit) (given_of read_whole circuit) circuit
    (given_most (slots First) circuit)

-- nor is that of an evaluation of whole texts
eval_rises : (wide : Bool) (start : Option ℕ) (shape : ShapeNumbers) (circuit stimulus : List ℕ) (slots : Slot → SlotState)
    → eval_cost shape (circuit_read start (slots First) circuit)
    (rounds_of wide (steps_read start circuit (slots Second) stimulus)) (passes_read start circuit)
    ≤ eval_cost shape (circuit_read start read_whole circuit)
    (rounds_of wide (steps_read start circuit read_whole stimulus)) (passes_read start circuit)
eval_rises wide start shape circuit stimulus slots =
    let size = read_rises start circuit slots in
    let steps : steps_read start circuit (slots Second) stimulus
    ≤ steps_read start circuit read_whole stimulus =
    steps_rise (either_text start 0 circuit) (given_of (slots Second) stimulus)
    (given_of read_whole stimulus) stimulus (given_most (slots Second) stimulus) in
    eval_cost_rises shape (circuit_read start (slots First) circuit) (circuit_read start read_whole circuit)
    (rounds_of wide (steps_read start circuit (slots Second) stimulus))
    (rounds_of wide (steps_read start circuit read_whole stimulus)) (passes_read start circuit) size
    (more_rounds wide (steps_read start circuit (slots Second) stimulus)
    (steps_read start circuit read_whole stimulus) steps)

-- No fewer blocks are enough for whole texts.
pub most_rises : (task : Task) (texts : Slot → List ℕ) (shape : ShapeNumbers)
    (slots : Slot → SlotState) → IfSome (asked_of task texts).room
    (λ f. f shape slots ≤ f shape (λ slot. read_whole))
most_rises (Answer kind combine early) texts shape slots =
    let text = texts First in
    room_rises shape (run_size kind text (slots First).left) (run_size kind text [])
    (size_rises kind text (slots First).left [] (omega arith))
most_rises (Eval uninit wide) texts shape slots =
    let read = circuit_read (start_of uninit) (slots First) (texts First) in
    let all = circuit_read (start_of uninit) read_whole (texts First) in
    eval_room_rises shape read all (read_rises (start_of uninit) (texts First) slots)

-- Nor fewer moves.
pub moves_rise : (task : Task) (texts : Slot → List ℕ) (shape : ShapeNumbers)
    (slots : Slot → SlotState) → IfSome (asked_of task texts).moves
    (λ f. f shape slots ≤ f shape (λ slot. read_whole))
moves_rise (Answer kind combine early) texts shape slots =
    file_rises kind early shape (texts First) (slots First).left
moves_rise (Eval uninit wide) texts shape slots =
    eval_rises wide (start_of uninit) shape (texts First) (texts Second) slots
