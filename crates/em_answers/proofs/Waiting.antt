-- The lines of a queue file's answers, of which some wait in a printer.
use Rattle.std.proofs.Common.{◌≡◌, ◌≤◌, ℕ, List, [], ◌++◌, refl, ap, sym, subst, arith, Bool, Result, Ok, Err, IfErr, IsErrAnd}
use Rattle.std.specs.Prelude.{OnOk}
use Rattle.std.proofs.lemmas.List.{append-nil}
use Rattle.em_io.specs.Sink.{IsRule, Sent, SentPart}
use Rattle.em_io.specs.declared.sink.Sink.{Ghosts as SinkGhosts}
use Rattle.em_io.proofs.Sent.{all-sent, part-more, part-rest, sent-all, sent-more, sent-rest}
use Rattle.em_record.specs.declared.record.Record.{Record}
use Rattle.em_model.specs.declared.command.Command.{Command}
use Rattle.em_model.specs.Queue.{queue_answers_from}
use Rattle.em_space.specs.Rig.{RigState}
use Rattle.em_answers.specs.Answer.{queue_text}
use Rattle.em_answers.specs.Print.{PrintsInto}
use Rattle.em_answers.specs.Reading.{StopCause}
use Rattle.em_answers.specs.Serve.{Answers, AnswersInto, ServeCause}
use Rattle.em_ends.specs.Stop.{EndsAs, IfStopsFull, OnDue, OnFault, SendsRest, fault_counts}
use Rattle.em_ends.specs.declared.status.Malform.TheVariants.{Text, Base, Aig}
use Rattle.em_ends.specs.declared.stop.Stop.{Stop}
use Rattle.em_ends.specs.declared.stop.Stop.TheVariants.{Fault, Read, Write, Em}
use Rattle.em_lines.specs.declared.text.FileKind.{FileKind}
use Rattle.em_ends.proofs.Printing.{ends_by}
use Rattle.em_answers.proofs.Pieces.{into_all, into_failed, into_step, into_stopped, prints_rest}
use Rattle.em_answers.proofs.Served.{Serving}

on_fault : (stop : Stop) (P : Type 0) → P → OnFault stop P
on_fault (Fault kind line) P p = p
on_fault Read P p = tt
on_fault Write P p = tt
on_fault (Em fault) P p = tt

-- A call that answers one command stops at no fault of the text.
never_fault : (faults after : ℕ) (s t : RigState) (stop : Stop) (P : Type 0)
    → ServeCause faults after s t stop → OnFault stop P
never_fault faults after s t (Fault kind line) P cause = absurd cause
never_fault faults after s t Read P cause = tt
never_fault faults after s t Write P cause = tt
never_fault faults after s t (Em fault) P cause = tt

module _ {IsState : List ℕ → Type 0} {took : List ℕ → List ℕ → List ℕ} (rule : IsRule IsState took)
    {old : List ℕ} (ok : IsState old) {whole : List ℕ} {left : List Command} {items : List Record}
    {pushes : ℕ} where
  -- Of the lines that waited some went out.
  pub serving_sent : {mid new pending waiting : List ℕ}
      → Serving took whole left items pushes old mid pending → Sent took mid pending new waiting
      → Serving took whole left items pushes old new waiting
  serving_sent p q = record {
    model = p.model;
    follows = p.follows;
    sent = sent-rest rule ok p.sent (sent-more _ q);
  }

  -- The output failed while they were sent.
  pub answers_unsent : {mid new pending : List ℕ} (waiting : List ℕ)
      (result : Result (Unit {0}) Stop) → IsErrAnd result (λ f. f ≡ Write)
      → Serving took whole left items pushes old mid pending → SentPart took mid pending new
      → AnswersInto took whole old new waiting result
  answers_unsent waiting (Ok x) is p q = absurd is
  answers_unsent {mid} {new} {pending} waiting (Err f) is p q = record {
    prints = into_failed waiting (Err f) is (part-rest rule ok p.sent (part-more _ q));
    fault =
        let same : f ≡ Write = is in
        subst (λ (s : Stop). OnFault s (Sent took old whole new waiting)) (sym same) tt;
  }

  -- The run stopped while it answered a command: what that call printed was added.
  pub answers_stopped : {T : Type 0} {mid new pending waiting : List ℕ} (answer more : List ℕ)
      (faults after : ℕ) (s t : RigState) (stop : Stop) (result : Result (Unit {0}) Stop)
      → IsErrAnd result (λ e. e ≡ stop) → ServeCause faults after s t stop
      → (p : Serving took whole left items pushes old mid pending)
      → queue_text (queue_answers_from p.model left) ≡ answer ++ more
      → PrintsInto {T = T} took (pending ++ answer) mid new waiting (Err stop)
      → AnswersInto took whole old new waiting result
  answers_stopped answer more faults after s t stop (Ok x) is cause p e q = absurd is
  answers_stopped {T} {mid} {new} {pending} {waiting} answer more faults after s t stop (Err f) is cause p e q =
      record {
        prints = into_step rule ok pending answer more stop (Err f) is p.sent
            (ap (λ l. pending ++ l) e) q;
        fault =
            let same : f ≡ stop = is in
            subst (λ (x : Stop). OnFault x (Sent took old whole new waiting)) (sym same)
            (never_fault faults after s t stop (Sent took old whole new waiting) cause);
      }

-- No command is left,
none_left : {took : List ℕ → List ℕ → List ℕ} {whole : List ℕ} {left : List Command}
    {items : List Record} {pushes : ℕ} {old new pending : List ℕ}
    → Serving took whole left items pushes old new pending → left ≡ []
    → Sent took old whole new pending
none_left {took} {whole} {left} {items} {pushes} {old} {new} {pending} p e =
    rw (ap (λ l. pending ++ queue_text (queue_answers_from p.model l)) e, append-nil pending) at p.sent

-- so that the run is done,
pub answers_done : {took : List ℕ → List ℕ → List ℕ} {whole : List ℕ} {left : List Command}
    {items : List Record} {pushes : ℕ} {old new pending : List ℕ}
    → Serving took whole left items pushes old new pending → left ≡ []
    → AnswersInto took whole old new pending (Ok tt)
answers_done p e = record { prints = into_all tt (none_left p e); fault = tt }

-- or stops at a fault of the text.
pub answers_fault : {took : List ℕ → List ℕ → List ℕ} {whole : List ℕ} {left : List Command}
    {items : List Record} {pushes : ℕ} {old new pending : List ℕ} (stop : Stop)
    → Serving took whole left items pushes old new pending → left ≡ []
    → AnswersInto took whole old new pending (Err stop)
answers_fault stop p e = record {
  prints = into_stopped _ _ (Err stop) refl p.sent;
  fault = on_fault stop _ (none_left p e);
}

-- The shelf failed before a line.
pub answers_read : {took : List ℕ → List ℕ → List ℕ} {whole : List ℕ} {left : List Command}
    {items : List Record} {pushes : ℕ} {old new pending : List ℕ}
    → Serving took whole left items pushes old new pending
    → AnswersInto took whole old new pending (Err Read)
answers_read p = record { prints = into_stopped _ _ (Err Read) refl p.sent; fault = tt }

-- What is pending is sent at the end.
rest_fault : {IsState : List ℕ → Type 0} {took : List ℕ → List ℕ → List ℕ} (rule : IsRule IsState took)
    {old : List ℕ} (ok : IsState old) (text pending mid after : List ℕ)
    (done : Result (Unit {0}) Stop)
    → IfErr done (λ stop. OnFault stop (Sent took old text mid pending))
    → OnDue done (after ≡ took mid pending)
    → IfErr done (λ stop. OnFault stop (after ≡ took old text))
rest_fault rule ok text pending mid after (Ok u) p e = tt
rest_fault rule ok text pending mid after (Err (Fault kind line)) p e =
    all-sent (sent-rest rule ok p (sent-all e))
rest_fault rule ok text pending mid after (Err Read) p e = tt
rest_fault rule ok text pending mid after (Err Write) p e = tt
rest_fault rule ok text pending mid after (Err (Em fault)) p e = tt

pub answers_rest : {W : Type 0} (w : SinkGhosts W) (rule : IsRule w.IsState w.took)
    {out mid out_after : W} (ok : w.IsState (w.state out)) {text pending : List ℕ}
    (done result : Result (Unit {0}) Stop)
    → AnswersInto w.took text (w.state out) (w.state mid) pending done
    → SendsRest w done pending mid out_after result
    → Answers w.took text (w.state out) (w.state out_after) result
answers_rest w rule {out} {mid} {out_after} ok {text} {pending} done result p s =
    let printed = prints_rest w rule ok done result p.prints s in
    let due = ends_by (λ r. OnDue r (w.state out_after ≡ w.took (w.state mid) pending)
    → IfErr r (λ stop. OnFault stop (w.state out_after ≡ w.took (w.state out) text))) done result
    (w.faults mid) (w.faults out_after) s.ends
    (rest_fault rule ok text pending (w.state mid) (w.state out_after) done p.fault) (λ rose x. tt) in
    record { all = printed.all; fault = due s.all; part = printed.part }

-- Why the run stopped: as before, or since the output failed then.
cause_later : (tells : Bool) (kind : FileKind) (text : List ℕ) (read write read_after mid after : ℕ)
    (s t : RigState) (stop : Stop) → mid ≤ after
    → StopCause tells kind text (fault_counts read write) (fault_counts read_after mid) s t stop
    → StopCause tells kind text (fault_counts read write) (fault_counts read_after after) s t stop
cause_later tells kind text read write read_after mid after s t (Fault (Text fault) line) later c = c
cause_later tells kind text read write read_after mid after s t (Fault (Base fault) place) later c = c
cause_later tells kind text read write read_after mid after s t (Fault (Aig fault) place) later c = c
cause_later tells kind text read write read_after mid after s t Read later c = c
cause_later tells kind text read write read_after mid after s t Write later c = omega (arith, c, later)
cause_later tells kind text read write read_after mid after s t (Em fault) later c = c

causes_later : (tells : Bool) (kind : FileKind) (text : List ℕ) (read write read_after mid after : ℕ)
    (s t : RigState) (done : Result (Unit {0}) Stop) → mid ≤ after
    → IfErr done (StopCause tells kind text (fault_counts read write) (fault_counts read_after mid) s t)
    → IfErr done (StopCause tells kind text (fault_counts read write) (fault_counts read_after after) s t)
causes_later tells kind text read write read_after mid after s t (Ok u) later c = tt
causes_later tells kind text read write read_after mid after s t (Err stop) later c =
    cause_later tells kind text read write read_after mid after s t stop later c

pub stop_rest : {W : Type 0} (w : SinkGhosts W) {out mid out_after : W} {pending : List ℕ}
    (tells : Bool) (kind : FileKind) (text : List ℕ) (read read_after : ℕ) (s t : RigState)
    (done result : Result (Unit {0}) Stop) → w.faults out ≤ w.faults mid
    → IfErr done (StopCause tells kind text (fault_counts read (w.faults out))
    (fault_counts read_after (w.faults mid)) s t)
    → SendsRest w done pending mid out_after result
    → IfErr result (StopCause tells kind text (fault_counts read (w.faults out))
    (fault_counts read_after (w.faults out_after)) s t)
stop_rest w {out} {mid} {out_after} tells kind text read read_after s t done result first c r =
    ends_by (λ v. IfErr v (StopCause tells kind text (fault_counts read (w.faults out))
    (fault_counts read_after (w.faults out_after)) s t)) done result (w.faults mid) (w.faults out_after)
    r.ends
    (causes_later tells kind text read (w.faults out) read_after (w.faults mid) (w.faults out_after) s t
    done r.later c)
    (λ rose. omega (arith, rose, first))

-- All was read, or the device was full: then the answer is how the call ended.
pub ok_rest : (P : Type 0) (done result : Result (Unit {0}) Stop) (faults after : ℕ)
    → EndsAs done result faults after → OnOk done P → OnOk result P
ok_rest P done result faults after e p =
    ends_by (λ r. OnOk r P) done result faults after e p (λ rose. tt)

pub full_rest : (P : ℕ → Type 0) (done result : Result (Unit {0}) Stop) (faults after : ℕ)
    → EndsAs done result faults after → IfErr done (λ stop. IfStopsFull stop P)
    → IfErr result (λ stop. IfStopsFull stop P)
full_rest P done result faults after e p =
    ends_by (λ r. IfErr r (λ stop. IfStopsFull stop P)) done result faults after e p (λ rose. tt)
