-- What a command file is due, by the parts that are printed at syncs and at the end.
use Rattle.std.proofs.Common.{◌≡◌, ◌≢◌, ℕ, ◌≤◌, List, [], ◌++◌, length, ap, sym, subst, ◌∙◌, refl, arith, Bool, IsTrue, Result, Ok, Err, IfErr, IsErrAnd, Some, None}
use Rattle.std.proofs.lemmas.List.{append-nil}
use Rattle.std.specs.Prelude.{OnOk}
use Rattle.em_record.specs.declared.record.Record.{Record}
use Rattle.em_io.specs.Feed.{Fed, rest}
use Rattle.em_io.specs.Sink.{IsRule}
use Rattle.em_io.specs.declared.shelf.Shelf.{Ghosts as ShelfGhosts}
use Rattle.em_io.specs.declared.sink.Sink.{Ghosts as SinkGhosts}
use Rattle.em_io.proofs.Sent.{part-more, part-of, part-then, sent-nothing}
use Rattle.em_model.specs.Stab.{stab_answers}
use Rattle.em_model.specs.Sync.{since_sync, up_to_sync}
use Rattle.em_space.specs.Rig.{RigState, Touches}
use Rattle.em_space.specs.declared.fault.EmFault.{EmFault}
use Rattle.em_space.specs.declared.fault.EmFault.TheVariants as em
use Rattle.em_space.proofs.Steps.{cause_after}
use Rattle.em_lines.specs.CommandLine.{first_fault, good_commands}
use Rattle.em_lines.specs.declared.text.FileKind.{FileKind}
use Rattle.em_lines.specs.declared.text.FileKind.TheVariants as kind
use Rattle.em_ends.specs.Stop.{Faults, IfStopsFull, OnFault, Prints, fault_counts}
use Rattle.em_ends.specs.declared.status.Malform.TheVariants.{Text, Base, Aig}
use Rattle.em_ends.specs.declared.stop.Stop.{Stop}
use Rattle.em_ends.specs.declared.stop.Stop.TheVariants.{Fault, Read, Write, Em}
use Rattle.em_services.specs.Service.{records_for}
use Rattle.em_answers.specs.Answer.{synced_text, text_for}
use Rattle.em_answers.specs.FileDue.{output_text, text_unless}
use Rattle.em_answers.specs.Limits.{Limits}
use Rattle.em_answers.specs.Print.{PrintCause, records_text}
use Rattle.em_answers.specs.Reading.{IsFilled, StopCause, StopsReading}
use Rattle.em_answers.specs.Serve.{Answers}
use Rattle.em_answers.proofs.Answered.{text_whole}
use Rattle.em_model.specs.Map.{Combiner}

-- where a line is faulty, what was printed before it is due
pub front_due : (apply : Combiner) (k : FileKind) (text : List ℕ) (fault : _) → k ≢ kind.Queue
    → first_fault k text ≡ Some fault → output_text apply k text ≡ synced_text apply k (good_commands k text)
front_due apply kind.Map text fault n e = ap (λ f. text_unless f (text_for apply kind.Map (good_commands kind.Map text))
    (synced_text apply kind.Map (good_commands kind.Map text))) e
front_due apply kind.Queue text fault n e = absurd (n refl)
front_due apply kind.Stab text fault n e = ap (λ f. text_unless f (text_for apply kind.Stab (good_commands kind.Stab text))
    (synced_text apply kind.Stab (good_commands kind.Stab text))) e
front_due apply kind.Dump text fault n e = ap (λ f. text_unless f (text_for apply kind.Dump (good_commands kind.Dump text))
    (synced_text apply kind.Dump (good_commands kind.Dump text))) e

-- and where none is, that of all answers
pub all_due : (apply : Combiner) (k : FileKind) (text : List ℕ) → first_fault k text ≡ None
    → output_text apply k text ≡ text_for apply k (good_commands k text)
all_due apply kind.Map text e = ap (λ f. text_unless f (text_for apply kind.Map (good_commands kind.Map text))
    (synced_text apply kind.Map (good_commands kind.Map text))) e
all_due apply kind.Queue text e = refl
all_due apply kind.Stab text e = ap (λ f. text_unless f (text_for apply kind.Stab (good_commands kind.Stab text))
    (synced_text apply kind.Stab (good_commands kind.Stab text))) e
all_due apply kind.Dump text e = ap (λ f. text_unless f (text_for apply kind.Dump (good_commands kind.Dump text))
    (synced_text apply kind.Dump (good_commands kind.Dump text))) e

-- in any case what was printed at syncs is a front of it
pub front_of_due : (apply : Combiner) (k : FileKind) (text : List ℕ) → k ≢ kind.Queue
    → (more : List ℕ) × (output_text apply k text ≡ synced_text apply k (good_commands k text) ++ more)
front_of_due apply k text n = by (first_fault k text) refl
  where
    by : (f : _) → first_fault k text ≡ f
        → (more : List ℕ) × (output_text apply k text ≡ synced_text apply k (good_commands k text) ++ more)
    by None e = (
      records_text k (length (stab_answers (good_commands k text)))
          (records_for apply k (up_to_sync (good_commands k text)) (since_sync (good_commands k text))),
      all_due apply k text e ∙ sym (text_whole apply k (good_commands k text) n),
    )
    by (Some fault) e = ([], front_due apply k text fault n e ∙ sym (append-nil (synced_text apply k (good_commands k text))))

-- The reading stopped: at a faulty line all that is due was printed at syncs.
fault_due : (apply : Combiner) (took : List ℕ → List ℕ → List ℕ) (old new : List ℕ) (tells : Bool) (k : FileKind) (text : List ℕ)
    (faults later : Faults) (s t : RigState) (stop : Stop) → k ≢ kind.Queue → IsTrue tells
    → StopCause tells k text faults later s t stop
    → OnFault stop (new ≡ took old (synced_text apply k (good_commands k text)))
    → OnFault stop (new ≡ took old (output_text apply k text))
fault_due apply took old new tells k text faults later s t (Fault (Text fault) line) n told cause e =
    e ∙ ap (took old) (sym (front_due apply k text (fault, line) n (cause told)))
fault_due apply took old new tells k text faults later s t (Fault (Base fault) place) n told cause e = absurd cause
fault_due apply took old new tells k text faults later s t (Fault (Aig fault) place) n told cause e = absurd cause
fault_due apply took old new tells k text faults later s t Read n told cause e = tt
fault_due apply took old new tells k text faults later s t Write n told cause e = tt
fault_due apply took old new tells k text faults later s t (Em fault) n told cause e = tt

pub reads_due : (apply : Combiner) {S T : Type 0} {took : List ℕ → List ℕ → List ℕ} {old new : List ℕ} (tells : Bool) (k : FileKind)
    (text : List ℕ) (faults later : Faults) (s t : RigState) (stop : Stop) (result : Result T Stop)
    → k ≢ kind.Queue → IsErrAnd result (λ f. f ≡ stop) → IsTrue tells
    → StopCause tells k text faults later s t stop
    → Answers {T = S} took (synced_text apply k (good_commands k text)) old new (Err stop)
    → Answers took (output_text apply k text) old new result
reads_due apply tells k text faults later s t stop (Ok x) n is told cause a = absurd is
reads_due apply {S} {T} {took} {old} {new} tells k text faults later s t stop (Err f) n is told cause a =
    let more = front_of_due apply k text n in
    let stopped : Answers {T = T} took (output_text apply k text) old new (Err stop) =
    record {
      all = tt;
      fault = fault_due apply took old new tells k text faults later s t stop n told cause a.fault;
      part = rw (more.1) (part-more more.0 a.part);
    } in
    subst (λ (x : Stop). Answers {T = T} took (output_text apply k text) old new (Err x)) (sym is) stopped

-- All was read: what was printed at syncs and the records of the other answers are all that is due.
whole_due : (apply : Combiner) (k : FileKind) (text : List ℕ) (stabs : ℕ) (items : List Record) → k ≢ kind.Queue
    → first_fault k text ≡ None → stabs ≡ length (stab_answers (good_commands k text))
    → items ≡ records_for apply k (up_to_sync (good_commands k text)) (since_sync (good_commands k text))
    → synced_text apply k (good_commands k text) ++ records_text k stabs items ≡ output_text apply k text
whole_due apply k text stabs items n none many are =
    let good = good_commands k text in
    ap (λ (m : ℕ). synced_text apply k good ++ records_text k m items) many
    ∙ ap (λ (xs : List Record). synced_text apply k good ++ records_text k (length (stab_answers good)) xs) are
    ∙ text_whole apply k good n ∙ sym (all_due apply k text none)

print_no_fault : (faults later : ℕ) (b c : RigState) (stop : Stop) (P : Type 0)
    → PrintCause faults later b c stop → OnFault stop P
print_no_fault faults later b c (Fault fault place) P cause = absurd cause
print_no_fault faults later b c Read P cause = absurd cause
print_no_fault faults later b c Write P cause = tt
print_no_fault faults later b c (Em fault) P cause = tt

module _ {IsState : List ℕ → Type 0} {took : List ℕ → List ℕ → List ℕ} (rule : IsRule IsState took)
    {old : List ℕ} (ok : IsState old) where
  -- The rig gave up before anything was printed.
  pub unprinted : {T : Type 0} (text : List ℕ) (fault : EmFault) → Answers {T = T} took text old old (Err (Em fault))
  unprinted text fault = record { all = tt; fault = tt; part = part-of (sent-nothing rule ok text refl) }

  -- The answers that were left were printed, or that stopped.
  pub prints_due : (apply : Combiner) {S T : Type 0} {mid new : List ℕ} (k : FileKind) (text : List ℕ) (stabs : ℕ)
      (items : List Record) (x : S) (faults later : ℕ) (b c : RigState) (result : Result T Stop)
      → k ≢ kind.Queue → first_fault k text ≡ None → stabs ≡ length (stab_answers (good_commands k text))
      → items ≡ records_for apply k (up_to_sync (good_commands k text)) (since_sync (good_commands k text))
      → Answers took (synced_text apply k (good_commands k text)) old mid (Ok x)
      → Prints took (records_text k stabs items) mid new result → IfErr result (PrintCause faults later b c)
      → Answers took (output_text apply k text) old new result
  prints_due apply k text stabs items x faults later b c (Ok y) n none many are a p cause =
      let whole = whole_due apply k text stabs items n none many are in
      record {
        all = p.all ∙ ap (λ s. took s (records_text k stabs items)) a.all
            ∙ rule.both old (synced_text apply k (good_commands k text)) (records_text k stabs items) ok
            ∙ ap (took old) whole;
        fault = tt;
        part = rw (← whole) (part-then rule ok a.all p.part);
      }
  prints_due apply k text stabs items x faults later b c (Err stop) n none many are a p cause =
      let whole = whole_due apply k text stabs items n none many are in
      record {
        all = tt;
        fault = print_no_fault faults later b c stop _ cause;
        part = rw (← whole) (part-then rule ok a.all p.part);
      }

-- A call that prints stops at no fault of the text, and needed no block.
print_cause : (tells : Bool) (k : FileKind) (text : List ℕ) (read read_after write mid after : ℕ)
    (a b c : RigState) (stop : Stop) → Touches [] a b → write ≤ mid → PrintCause mid after b c stop
    → StopCause tells k text (fault_counts read write) (fault_counts read_after after) a c stop
print_cause tells k text read read_after write mid after a b c (Fault fault place) before later cause = absurd cause
print_cause tells k text read read_after write mid after a b c Read before later cause = absurd cause
print_cause tells k text read read_after write mid after a b c Write before later cause =
    omega (arith, later, cause)
print_cause tells k text read read_after write mid after a b c (Em em.DeviceFault) before later cause =
    cause_after [] a b c em.DeviceFault before cause
print_cause tells k text read read_after write mid after a b c (Em (em.Full used)) before later cause = absurd cause
print_cause tells k text read read_after write mid after a b c (Em (em.Damaged block)) before later cause =
    cause_after [] a b c (em.Damaged block) before cause

print_full : (P : ℕ → Type 0) (faults later : ℕ) (b c : RigState) (stop : Stop) → PrintCause faults later b c stop
    → IfStopsFull stop P
print_full P faults later b c (Fault fault place) cause = absurd cause
print_full P faults later b c Read cause = absurd cause
print_full P faults later b c Write cause = tt
print_full P faults later b c (Em em.DeviceFault) cause = tt
print_full P faults later b c (Em (em.Full used)) cause = absurd cause
print_full P faults later b c (Em (em.Damaged block)) cause = tt

pub print_stops : {T H W : Type 0} (h : ShelfGhosts H) (w : SinkGhosts W) (limits : Limits) (k : FileKind)
    (feed : Fed) (shelf shelf_after : H) (out mid out_after : W) (a b c : RigState) (result : Result T Stop)
    → Touches [] a b → w.faults out ≤ w.faults mid
    → IfErr result (PrintCause (w.faults mid) (w.faults out_after) b c)
    → IfErr result (StopsReading h w limits k feed shelf shelf_after out out_after a c)
print_stops h w limits k feed shelf shelf_after out mid out_after a b c (Ok x) before later cause = tt
print_stops h w limits k feed shelf shelf_after out mid out_after a b c (Err stop) before later cause = record {
  cause = print_cause h.tells k (rest feed (h.stand shelf)) (h.faults shelf) (h.faults shelf_after)
      (w.faults out) (w.faults mid) (w.faults out_after) a b c stop before later cause;
  full = print_full (IsFilled limits h.tells k (rest feed (h.stand shelf))
      ((h.stand shelf_after).slot feed.slot).left c) (w.faults mid) (w.faults out_after) b c stop cause;
}

-- What is known where all was read stays so,
pub on_ok : {T E : Type 0} (P : Type 0) (result : Result T E) → P → OnOk result P
on_ok P (Ok x) p = p
on_ok P (Err e) p = tt

-- and a stop that is handed on says as much.
pub stop_on : {T : Type 0} (P : Stop → Type 0) (stop : Stop) (result : Result T Stop) → IsErrAnd result (λ f. f ≡ stop)
    → P stop → IfErr result P
stop_on P stop (Ok x) is p = tt
stop_on P stop (Err f) is p = subst P (sym is) p
