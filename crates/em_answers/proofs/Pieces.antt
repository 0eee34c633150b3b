-- Lines that leave in the pieces of a printer's buffer.
use Rattle.std.proofs.Common.{◌≡◌, ℕ, ◌≤◌, List, [], ◌++◌, refl, ap, sym, subst, ◌∙◌, arith, append_assoc, Result, Ok, Err, IsErrAnd, IfErr}
use Rattle.std.proofs.lemmas.List.{append-nil}
use Rattle.std.specs.Prelude.{IsErr, OnOk}
use Rattle.em_io.specs.Sink.{IsRule, Sent, SentPart}
use Rattle.em_io.specs.declared.sink.Sink.{Ghosts as SinkGhosts}
use Rattle.em_io.proofs.Sent.{all-sent, part-of, part-more, part-rest, sent-all, sent-more, sent-nothing, sent-rest}
use Rattle.em_space.specs.Rig.{RigState, BlockCause, Touches}
use Rattle.em_space.specs.declared.fault.EmFault.{EmFault}
use Rattle.em_space.specs.declared.fault.EmFault.TheVariants as em
use Rattle.em_chain.specs.Effects.{Unmoved}
use Rattle.em_answers.specs.Print.{PrintCause, PrintStops, PrintedPart, PrintsInto}
use Rattle.em_ends.specs.Stop.{OnDue, Prints, SendsRest, UnlessWrite}
use Rattle.em_ends.specs.declared.stop.Stop.{Stop}
use Rattle.em_ends.specs.declared.stop.Stop.TheVariants.{Fault, Read, Write, Em}
use Rattle.em_ends.proofs.Printing.{ends_by}

unless_any : {T P : Type 0} (result : Result T Stop) → P → UnlessWrite result P
unless_any (Ok x) p = p
unless_any (Err (Fault kind place)) p = p
unless_any (Err Read) p = p
unless_any (Err Write) p = tt
unless_any (Err (Em fault)) p = p

module _ {T : Type 0} {took : List ℕ → List ℕ → List ℕ} {whole old new : List ℕ} where
  -- All was printed,
  pub into_all : {pending : List ℕ} (x : T) → Sent took old whole new pending
      → PrintsInto took whole old new pending (Ok x)
  into_all {pending} x p = record {
    all = p;
    front = record { left = []; front = rw (append-nil pending) p };
    part = part-of p;
  }

  -- or the rig gave up before the rest,
  pub into_stopped : (pending rest : List ℕ) (result : Result T Stop) → IsErr result
      → Sent took old whole new (pending ++ rest) → PrintsInto took whole old new pending result
  into_stopped pending rest (Ok x) e p = cc
  into_stopped pending rest (Err stop) e p = record {
    all = tt;
    front = unless_any {T = T} (Err stop) (record { left = rest; front = p });
    part = part-of p;
  }

  -- or the output failed.
  pub into_failed : (pending : List ℕ) (result : Result T Stop) → IsErrAnd result (λ f. f ≡ Write)
      → SentPart took old whole new → PrintsInto took whole old new pending result
  into_failed pending (Ok x) is p = absurd is
  into_failed pending (Err stop) is p =
      let failed : PrintsInto {T = T} took whole old new pending (Err Write) =
      record { all = tt; front = tt; part = p } in
      subst (λ (s : Stop). PrintsInto {T = T} took whole old new pending (Err s)) (sym is) failed

module _ {IsState : List ℕ → Type 0} {took : List ℕ → List ℕ → List ℕ} (rule : IsRule IsState took)
    {old : List ℕ} (ok : IsState old) where
  -- There was nothing to print.
  pub into_nothing : {T : Type 0} (pending more : List ℕ) (x : T) → more ≡ []
      → PrintsInto took (pending ++ more) old old pending (Ok x)
  into_nothing {T} pending more x e =
      into_all x (rw (e, append-nil pending) (sent-nothing rule ok pending refl))

  -- What is pending is a front of what is left: of a part more a front was printed.
  into_part : {whole mid left new pending : List ℕ} (front a more : List ℕ)
      → Sent took old whole mid left → left ≡ front ++ (a ++ more)
      → PrintedPart took mid (front ++ a) new pending → PrintedPart took old whole new pending
  into_part {whole} {mid} {left} {new} {pending} front a more p e q = record {
    left = q.left ++ more;
    front = rw (← append_assoc pending q.left more) (sent-rest rule ok p
        (rw (e ∙ sym (append_assoc front a more)) (sent-more more q.front)));
  }

  unless_part : (T S : Type 0) {whole mid left : List ℕ} (new pending front a more : List ℕ)
      (stop : Stop) → Sent took old whole mid left → left ≡ front ++ (a ++ more)
      → UnlessWrite {T = S} (Err stop) (PrintedPart took mid (front ++ a) new pending)
      → UnlessWrite {T = T} (Err stop) (PrintedPart took old whole new pending)
  unless_part T S new pending front a more (Fault kind place) p e q = into_part front a more p e q
  unless_part T S new pending front a more Read p e q = into_part front a more p e q
  unless_part T S new pending front a more Write p e q = tt
  unless_part T S new pending front a more (Em fault) p e q = into_part front a more p e q

  -- So a call in which another one stopped has printed what that one printed.
  pub into_step : {T S : Type 0} {whole mid left new pending : List ℕ} (front a more : List ℕ)
      (stop : Stop) (result : Result T Stop) → IsErrAnd result (λ f. f ≡ stop)
      → Sent took old whole mid left → left ≡ front ++ (a ++ more)
      → PrintsInto {T = S} took (front ++ a) mid new pending (Err stop)
      → PrintsInto took whole old new pending result
  into_step front a more stop (Ok x) is p e q = absurd is
  into_step {T} {S} {whole} {mid} {left} {new} {pending} front a more stop (Err f) is p e q =
      let stopped : PrintsInto {T = T} took whole old new pending (Err stop) =
      record {
        all = tt;
        front = unless_part T S new pending front a more stop p e q.front;
        part = part-rest rule ok p
            (rw (e ∙ sym (append_assoc front a more)) (part-more more q.part));
      } in
      subst (λ (s : Stop). PrintsInto {T = T} took whole old new pending (Err s)) (sym is) stopped

  -- What is pending is sent after all was printed.
  rest_all : (text pending before after : List ℕ) (done : Result (Unit {0}) Stop)
      → OnOk done (Sent took old text before pending) → OnDue done (after ≡ took before pending)
      → OnOk done (after ≡ took old text)
  rest_all text pending before after (Ok u) p e = all-sent (sent-rest rule ok p (sent-all e))
  rest_all text pending before after (Err stop) p e = tt

-- What is pending is sent: all went out, or a front.
module _ {W : Type 0} (w : SinkGhosts W) (rule : IsRule w.IsState w.took) {out mid out_after : W}
    (ok : w.IsState (w.state out)) {text pending : List ℕ} where
  rest_part : PrintedPart w.took (w.state out) text (w.state mid) pending
      → SentPart w.took (w.state mid) pending (w.state out_after)
      → SentPart w.took (w.state out) text (w.state out_after)
  rest_part p q = part-rest rule ok p.front (part-more p.left q)

  rest_sent : (done result : Result (Unit {0}) Stop)
      → PrintsInto w.took text (w.state out) (w.state mid) pending done
      → SendsRest w done pending mid out_after result
      → SentPart w.took (w.state out) text (w.state out_after)
  rest_sent (Ok u) result p s = rest_part p.front s.part
  rest_sent (Err (Fault kind place)) result p s = rest_part p.front s.part
  rest_sent (Err Read) result p s = rest_part p.front s.part
  rest_sent (Err Write) result p s =
      let same : w.state out_after ≡ w.state mid = ap w.state (s.none refl) in
      subst (λ (x : List ℕ). SentPart w.took (w.state out) text x) (sym same) p.part
  rest_sent (Err (Em fault)) result p s = rest_part p.front s.part

  pub prints_rest : (done result : Result (Unit {0}) Stop)
      → PrintsInto w.took text (w.state out) (w.state mid) pending done
      → SendsRest w done pending mid out_after result
      → Prints w.took text (w.state out) (w.state out_after) result
  prints_rest done result p s =
      let due = ends_by (λ r. OnDue r (w.state out_after ≡ w.took (w.state mid) pending)
      → OnOk r (w.state out_after ≡ w.took (w.state out) text)) done result
      (w.faults mid) (w.faults out_after) s.ends (rest_all rule ok text pending (w.state mid) (w.state out_after) done p.all) (λ rose x. tt) in
      record { all = due s.all; part = rest_sent done result p s }

-- Why it stopped: as before, or since the output failed. A reader was made before, and given up then.
cause_beside : {s a b u : RigState} (fault : EmFault) → Unmoved s a → Unmoved b u → Touches [] b u
    → BlockCause a b fault → BlockCause s u fault
cause_beside em.DeviceFault x y l c = rw (x.device, ← y.device) at c
cause_beside (em.Full used) x y l c = c
cause_beside (em.Damaged block) x y l c = (rw (← y.device) at c.0, rw (← l.blocks) at c.1)

rest_cause : (faults middle after : ℕ) (s a b u : RigState) (done : Result (Unit {0}) Stop)
    → middle ≤ after → Unmoved s a → Unmoved b u → Touches [] b u
    → IfErr done (PrintCause faults middle a b) → IfErr done (PrintCause faults after s u)
rest_cause faults middle after s a b u (Ok x) later p q l c = tt
rest_cause faults middle after s a b u (Err (Fault kind place)) later p q l c = c
rest_cause faults middle after s a b u (Err Read) later p q l c = c
rest_cause faults middle after s a b u (Err Write) later p q l c = omega (arith, c, later)
rest_cause faults middle after s a b u (Err (Em fault)) later p q l c =
    cause_beside {s = s} {a = a} {b = b} {u = u} fault p q l c

pub stops_rest : {W : Type 0} {w : SinkGhosts W} {out mid out_after : W} {pending : List ℕ}
    {s a b u : RigState} (done result : Result (Unit {0}) Stop) → Unmoved s a
    → PrintStops w out mid a b done → Unmoved b u → Touches [] b u
    → SendsRest w done pending mid out_after result → PrintStops w out out_after s u result
stops_rest {w = w} {out} {mid} {out_after} {pending} {s} {a} {b} {u} done result x p y l r =
    let first = p.later in
    let then = r.later in
    record {
      later = omega (arith, first, then);
      cause = ends_by (λ v. IfErr v (PrintCause (w.faults out) (w.faults out_after) s u)) done result
          (w.faults mid) (w.faults out_after) r.ends
          (rest_cause (w.faults out) (w.faults mid) (w.faults out_after) s a b u done then x y l
          p.cause)
          (λ rose. omega (arith, rose, first));
    }
