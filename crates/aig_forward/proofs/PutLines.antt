-- A line of columns, one after another.
use Rattle.std.proofs.Common.{◌≡◌, ℕ, zero, suc, ◌+◌, ◌-◌, ◌≤◌, ◌<◌, Bool, false, List, [], ◌∷◌, ◌++◌, length, take, drop, replicate, Option, Some, None, IfNone, option_to_list, IsTrue, refl, sym, ap, ◌∙◌, subst, arith, append_assoc, Err}
use Rattle.std.proofs.lemmas.List.{append-nil}
use Rattle.em_io.specs.Sink.{IsRule, Sent, SentPart}
use Rattle.em_io.proofs.Sent.{part-more, part-of, part-rest, sent-more, sent-nothing, sent-rest}
use Rattle.em_record.specs.Count.{Rose}
use Rattle.em_record.specs.Shape.{fan_of}
use Rattle.em_record.specs.declared.record.Record.{Record}
use Rattle.em_space.specs.Held.{Holds, Within}
use Rattle.em_space.specs.Ledger.{Account}
use Rattle.em_space.specs.Queue.{CanServe, QueueCounts, Served, Serves}
use Rattle.em_space.specs.Rig.{RigState, Sound}
use Rattle.em_space.proofs.Runs.{runs_first, runs_none, runs_then, runs_wider}
use Rattle.em_space.proofs.Steps.{cause_after}
use Rattle.em_space.proofs.Paying.{pays_more}
use Rattle.em_queued.specs.Queued.{RunsBeside, no_account, queue_account}
use Rattle.em_queued.proofs.Queued.{calls_none, calls_one, calls_then, calls_wider, queue_runs, stops_then, stops_wider}
use Rattle.aig_defs.specs.Stimulus.{bit_byte, output_line}
use Rattle.aig_edges.specs.declared.stop.StepStop.{StepStop}
use Rattle.aig_edges.specs.declared.stop.StepStop.TheVariants as stop
use Rattle.aig_sweep.specs.Bits.{bits_of}
use Rattle.aig_forward.specs.Outputs.{FailsPut, HaltsOutputs, OutputCause, OutputCosts, PopsOne, Printing, PrintsOutputs, PrintsPart, PutsBy, PutsFront, PutsOne, RunsAlone, message_bit, outputs_line, outputs_of}
use Rattle.aig_sweep.specs.Scene.{KeepsFront}
use Rattle.aig_words.specs.Words.{lane, says}

-- No call of the queue,
pub alone_none : (s : RigState) (ks : List ℕ) (c : QueueCounts) → Sound s → c.blocks ≤ c.most
    → c.unstored ≤ c.frames → (IsTrue s.device.told → Holds s ks) → RunsAlone 0 ks ks c c s s
alone_none s ks c h l m n = record {
  runs = runs_wider l (runs_none s ks (queue_account c) h n);
  calls_on = calls_none c;
  stored = m;
}

-- one of them,
pub alone_one : {ks js : List ℕ} {c d : QueueCounts} {s t : RigState} → Serves ks c d s t
    → Served c d s t → Within s ks js → d.blocks ≤ d.most → d.unstored ≤ d.frames
    → (IsTrue t.device.told → Holds t js) → RunsAlone 1 ks js c d s t
alone_one v w i l m n = record {
  runs = queue_runs v w i l n;
  calls_on = calls_one v w;
  stored = m;
}

-- and one after another.
pub alone_then : {i j : ℕ} {held ks js : List ℕ} {c d e : QueueCounts} {s t u : RigState}
    → RunsAlone i held ks c d s t → RunsAlone j ks js d e t u → RunsAlone (i + j) held js c e s u
alone_then h g = record {
  runs = let m = g.calls_on.called.more in runs_wider (omega (arith, m)) (runs_then h.runs g.runs);
  calls_on = calls_then h.calls_on g.calls_on;
  stored = g.stored;
}

-- fewer calls than said
pub alone_wider : {i j : ℕ} {held ks : List ℕ} {c d : QueueCounts} {s t : RigState} → i ≤ j
    → RunsAlone i held ks c d s t → RunsAlone j held ks c d s t
alone_wider l h = record {
  runs = h.runs;
  calls_on = calls_wider l h.calls_on;
  stored = h.stored;
}

-- The same calls beside other values, which stay.
pub alone_beside : {i : ℕ} {ks js : List ℕ} {c d : QueueCounts} {s t : RigState} (ys : List ℕ)
    (x : Account) → (IsTrue s.device.told → Holds s (ks ++ ys)) → RunsAlone i ks js c d s t
    → RunsBeside i x.blocks (ks ++ ys) (js ++ ys) x x c d s t
alone_beside ys x n h = record { runs = runs_first ys x n h.runs; calls_on = h.calls_on }

-- with no message, all outputs say 0
none_bits : (n : ℕ) (x : List Record) → 0 ≡ length x
    → outputs_of (suc n) x ≡ false ∷ outputs_of n x
none_bits zero [] e = refl
none_bits (suc n) [] e =
    let more : suc (suc n) - 0 ≡ suc (suc n - 0) = omega arith in
    ap (λ (k : ℕ). replicate k false) more
none_bits n (y ∷ x) e = absurd (omega (arith, e))

none_drop : (n : ℕ) (x : List Record) → 0 ≡ length x → drop (suc n) x ≡ drop n x
none_drop zero [] e = refl
none_drop (suc n) [] e = refl
none_drop n (y ∷ x) e = absurd (omega (arith, e))

-- No message is missing.
pub outputs_all : (count : ℕ) (items : List Record) → count ≤ length items
    → outputs_of count items ≡ bits_of (lane 0 (take count items))
outputs_all count items l =
    let none : count - length items ≡ 0 = omega (arith, l) in
    ap (λ (k : ℕ). bits_of (lane 0 (take count items)) ++ replicate k false) none
    ∙ append-nil (bits_of (lane 0 (take count items)))

-- the line of no output
line_none : (x : List Record) → outputs_line 0 x ≡ 10 ∷ []
line_none x =
    let none : 0 - length x ≡ 0 = omega arith in
    ap (λ (k : ℕ). output_line (replicate k false)) none

-- one message, and then the others
some_bits : (n : ℕ) (message : Record) (x : List Record)
    → outputs_of (suc n) (message ∷ x) ≡ says 0 message.c ∷ outputs_of n x
some_bits n message x =
    let less : suc n - length (message ∷ x) ≡ n - length x = omega arith in
    ap (λ (k : ℕ). bits_of (lane 0 (take (suc n) (message ∷ x))) ++ replicate k false) less

-- The bits of outputs are that of the first message and those of the others.
message_bits : (n : ℕ) (message : Option Record) (old new : List Record)
    → old ≡ option_to_list message ++ new → IfNone message (0 ≡ length old)
    → outputs_of (suc n) old ≡ message_bit message ∷ outputs_of n new
message_bits n None old new e none =
    none_bits n old none ∙ ap (λ (x : List Record). false ∷ outputs_of n x) e
message_bits n (Some message) old new e none =
    ap (outputs_of (suc n)) e ∙ some_bits n message new

message_drop : (n : ℕ) (message : Option Record) (old new : List Record)
    → old ≡ option_to_list message ++ new → IfNone message (0 ≡ length old)
    → drop (suc n) old ≡ drop n new
message_drop n None old new e none =
    none_drop n old none ∙ ap (λ (x : List Record). drop n x) e
message_drop n (Some message) old new e none = ap (λ (x : List Record). drop (suc n) x) e

message_len : (message : Option Record) (before after : ℕ)
    → after + length (option_to_list message) ≡ before → IfNone message (before ≡ 0)
    → after ≡ before - 1
message_len None before after e none = omega (arith, e, none)
message_len (Some message) before after e none = omega (arith, e)

none_of : (message : Option Record) (len : ℕ) (items : List Record) → IfNone message (len ≡ 0)
    → len ≡ length items → IfNone message (0 ≡ length items)
none_of None len items h e = sym h ∙ e
none_of (Some message) len items h e = tt

-- A message was popped.
pub pops_one : (old new : Printing) (message : Option Record)
    → Serves old.blocks old.counts new.counts old.rig new.rig
    → Served old.counts new.counts old.rig new.rig → Within old.rig old.blocks new.blocks
    → new.counts.blocks ≤ new.counts.most → new.counts.unstored ≤ new.counts.frames
    → (IsTrue new.rig.device.told → Holds new.rig new.blocks)
    → (IsTrue old.rig.device.told → old.items ≡ option_to_list message ++ new.items)
    → IfNone message (old.counts.len ≡ 0)
    → new.counts.len + length (option_to_list message) ≡ old.counts.len
    → (IsTrue old.rig.device.told → old.counts.len ≡ length old.items)
    → PopsOne old new (message_bit message)
pops_one old new message v w i l m n items none len long = record {
  runs = alone_one v w i l m n;
  bits = λ z n. message_bits n message old.items new.items (items z)
      (none_of message old.counts.len old.items none (long z));
  items_are = λ z n. message_drop n message old.items new.items (items z)
      (none_of message old.counts.len old.items none (long z));
  len = message_len message old.counts.len new.counts.len len none;
}

-- the line of some outputs is a byte, and then the line of the others
line_next : (n : ℕ) (bit : Bool) (old new : List Record)
    → outputs_of (suc n) old ≡ bit ∷ outputs_of n new
    → outputs_line (suc n) old ≡ bit_byte bit ∷ outputs_line n new
line_next n bit old new e = ap output_line e

-- What went out and what is pending are a front, if the rest is still to come.
front_kept : {took : List ℕ → List ℕ → List ℕ} {old bytes new pending : List ℕ} (rest : List ℕ)
    → Sent took old bytes new (pending ++ rest) → KeepsFront took old bytes new pending
front_kept {pending = pending} rest p = record {
  front = p.sent ++ pending;
  behind = rest;
  all = append_assoc p.sent pending rest ∙ p.all;
  sent = record { sent = p.sent; state = p.state; all = refl };
}

-- Nothing was printed yet.
puts_none : {took : List ℕ → List ℕ → List ℕ} {IsState : List ℕ → Type 0}
    → IsRule IsState took → (count : ℕ) (old : Printing) → IsState old.out → Sound old.rig
    → old.counts.blocks ≤ old.counts.most → old.counts.unstored ≤ old.counts.frames
    → (IsTrue old.rig.device.told → Holds old.rig old.blocks)
    → PutsFront took count count old old
puts_none rule count old ok h l m n = record {
  runs = alone_wider (omega arith) (alone_none old.rig old.blocks old.counts h l m n);
  sent = λ z. sent-nothing rule ok (old.pending ++ outputs_line count old.items) refl;
  items_are = λ z. refl;
  len = omega arith;
  later = omega arith;
}

pub puts_start : {took : List ℕ → List ℕ → List ℕ} {IsState : List ℕ → Type 0}
    → IsRule IsState took → (count : ℕ) (old : Printing) → IsState old.out → Sound old.rig
    → old.counts.blocks ≤ old.counts.most → old.counts.unstored ≤ old.counts.frames
    → (IsTrue old.rig.device.told → Holds old.rig old.blocks)
    → PutsFront took count (count - 0) old old
puts_start {took} rule count old ok h l m n =
    let all : count - 0 ≡ count = omega arith in
    subst (λ (k : ℕ). PutsFront took count k old old) (sym all) (puts_none rule count old ok h l m n)

module _ {took : List ℕ → List ℕ → List ℕ} {IsState : List ℕ → Type 0} (rule : IsRule IsState took)
    (count : ℕ) {old mid : Printing} (ok : IsState old.out) where
  -- what is to go out is the next byte, and then the rest
  front_line : (n : ℕ) (bit : Bool) (new : Printing) → PutsFront took count (suc n) old mid
      → PopsOne mid new bit → IsTrue old.rig.device.told
      → Sent took old.out (old.pending ++ outputs_line count old.items) mid.out
      ((mid.pending ++ bit_byte bit ∷ []) ++ outputs_line n new.items)
  front_line n bit new s p z =
      let y : IsTrue mid.rig.device.told = s.runs.runs.session.touches.told ∙ z in
      subst (λ (x : List ℕ). Sent took old.out (old.pending ++ outputs_line count old.items) mid.out
      x)
      (ap (λ (x : List ℕ). mid.pending ++ x)
      (line_next n bit mid.items new.items (p.bits y n))
      ∙ sym (append_assoc mid.pending (bit_byte bit ∷ []) (outputs_line n new.items)))
      (s.sent z)

  -- One output more was printed,
  pub puts_next : (n : ℕ) {new : Printing} → suc n ≤ count → PutsFront took count (suc n) old mid
      → PutsOne took mid new → PutsFront took count n old new
  puts_next n {new} l s p = record {
    runs = alone_wider (omega (arith, l)) (alone_then s.runs p.pops.runs);
    sent = λ z. sent-rest rule ok (front_line n p.bit new s p.pops z)
        (sent-more (outputs_line n new.items) p.sent);
    items_are = λ z.
        let y : IsTrue mid.rig.device.told = s.runs.runs.session.touches.told ∙ z in
        sym (p.pops.items_are y n) ∙ s.items_are z;
    len = omega (arith, s.len, p.pops.len, l);
    later = omega (arith, s.later, p.later);
  }

  -- some of it,
  pub puts_part : (n : ℕ) (new : Printing) → PutsFront took count n old mid
      → new.out ≡ mid.out → PrintsPart took count old new
  puts_part n new s same z =
      part-of (subst (λ (x : List ℕ). Sent took old.out
      (old.pending ++ outputs_line count old.items) x
      (mid.pending ++ outputs_line n mid.items)) (sym same) (s.sent z))

  -- with what is pending,
  pub puts_halts : (n : ℕ) (new : Printing) → PutsFront took count n old mid
      → new.out ≡ mid.out → new.pending ≡ mid.pending → IsTrue old.rig.device.told
      → KeepsFront took old.out (old.pending ++ outputs_line count old.items) new.out new.pending
  puts_halts n new s out pending z =
      rw (out, pending) (front_kept (outputs_line n mid.items) (s.sent z))

  -- or the sink failed.
  pub puts_fails : (n : ℕ) {new : Printing} → PutsFront took count (suc n) old mid
      → FailsPut took mid new → PrintsPart took count old new
  puts_fails n {new} s p z =
      part-rest rule ok (front_line n p.bit new s p.pops z)
      (part-more (outputs_line n new.items) p.part)

  -- After the last output comes the newline.
  last_line : PutsFront took count 0 old mid → IsTrue old.rig.device.told
      → Sent took old.out (old.pending ++ outputs_line count old.items) mid.out
      (mid.pending ++ 10 ∷ [])
  last_line s z = subst (λ (x : List ℕ). Sent took old.out
      (old.pending ++ outputs_line count old.items) mid.out (mid.pending ++ x))
      (line_none mid.items) (s.sent z)

  pub puts_line : {new : Printing} → PutsFront took count 0 old mid → new.rig ≡ mid.rig
      → new.items ≡ mid.items → new.counts ≡ mid.counts
      → Sent took mid.out (mid.pending ++ 10 ∷ []) new.out new.pending
      → PrintsOutputs took count old new
  puts_line {new} s rig items counts p = record {
    sent = λ z. sent-rest rule ok (last_line s z) p;
    items_are = λ z. items ∙ s.items_are z;
    len = omega (arith, s.len, ap (λ (c : QueueCounts). c.len) counts);
  }

  pub puts_line_part : (new : Printing) → PutsFront took count 0 old mid
      → SentPart took mid.out (mid.pending ++ 10 ∷ []) new.out → PrintsPart took count old new
  puts_line_part new s p z = part-rest rule ok (last_line s z) p

-- The frames of a call are free after others that weren't refused.
pub alone_serves : {i : ℕ} {ks js : List ℕ} {c d : QueueCounts} {s t : RigState}
    → RunsAlone i ks js c d s t → CanServe s.pool → CanServe t.pool
alone_serves h f = record {
  singles =
      let e = ap fan_of h.runs.frames.shape in omega (arith, e, h.runs.frames.free, f.singles);
  areas = omega (arith, h.runs.frames.free_areas, f.areas);
  rack = h.runs.frames.rack ∙ f.rack;
}

-- calls of a queue beside no value
alone_runs : {i : ℕ} {ks js : List ℕ} {c d : QueueCounts} {s t : RigState}
    → RunsAlone i ks js c d s t → RunsBeside i 0 ks js no_account no_account c d s t
alone_runs h =
    let k = h.runs.spends in
    record {
      runs = record {
        session = h.runs.session;
        frames = h.runs.frames;
        spends = record {
          held = omega (arith, k.held);
          used = omega (arith, k.used);
          most = omega (arith, k.most);
          moves = omega (arith, k.moves);
          later = k.later;
          pays = pays_more k.pays (omega arith);
        };
      };
      calls_on = h.calls_on;
    }

-- What holds after outputs weren't all printed.
pub record PutStops (took : List ℕ → List ℕ → List ℕ) (count : ℕ) (old new : Printing)
    (e : StepStop) : Type 0 where
  pub part : PrintsPart took count old new
  pub front : HaltsOutputs took count old new (Err e)
  pub costs : OutputCosts count old new (Err e)
  pub goes_on : old.faults ≤ new.faults
  pub cause : OutputCause old new e

-- And after they were.
pub record PutDone (took : List ℕ → List ℕ → List ℕ) (count : ℕ) (old new : Printing)
    : Type 0 where
  pub prints : PrintsOutputs took count old new
  pub part : PrintsPart took count old new
  pub costs : RunsAlone count old.blocks new.blocks old.counts new.counts old.rig new.rig
  pub goes_on : old.faults ≤ new.faults

module _ {took : List ℕ → List ℕ → List ℕ} {IsState : List ℕ → Type 0} (rule : IsRule IsState took)
    (count i : ℕ) {old mid : Printing} (ok : IsState old.out)
    (s : PutsFront took count (count - i) old mid) where
  -- outputs are left
  some_left : i < count → PutsFront took count (suc (count - (i + 1))) old mid
  some_left l =
      let e : count - i ≡ suc (count - (i + 1)) = omega (arith, l) in
      subst (λ (n : ℕ). PutsFront took count n old mid) e s

  none_left : count ≤ i → PutsFront took count 0 old mid
  none_left l =
      let e : count - i ≡ 0 = omega (arith, l) in
      subst (λ (n : ℕ). PutsFront took count n old mid) e s

  pub step_done : (new : Printing) → i < count → PutsOne took mid new
      → PutsFront took count (count - (i + 1)) old new
  step_done new l p = puts_next rule count ok (count - (i + 1)) (omega (arith, l)) (some_left l) p

  pub step_stops : (new : Printing) (e : StepStop) → i < count → PutsBy took mid new (Err e)
      → PutStops took count old new e
  step_stops new (stop.Fault kind place) l p = absurd p
  step_stops new stop.Read l p = absurd p
  step_stops new stop.Write l p = record {
    part = puts_fails rule count ok (count - (i + 1)) (some_left l) p;
    front = tt;
    costs = alone_wider (omega (arith, l)) (alone_then s.runs p.pops.runs);
    goes_on = omega (arith, s.later, p.later);
    cause = omega (arith, s.later, p.rose);
  }
  step_stops new (stop.Em fault) l p = record {
    part = puts_part rule count ok (count - i) new s p.1;
    front = puts_halts rule count ok (count - i) new s p.1 p.3;
    costs = stops_wider (omega (arith, l)) (omega arith) (omega arith) (omega arith)
        (stops_then (alone_runs s.runs) p.0);
    goes_on = omega (arith, s.later, p.2);
    cause = cause_after old.blocks old.rig mid.rig new.rig fault s.runs.runs.session.touches
        p.0.cause;
  }

  -- The newline was printed,
  pub line_ends : (out pending : List ℕ) (faults : ℕ) → count ≤ i → mid.faults ≤ faults
      → Sent took mid.out (mid.pending ++ 10 ∷ []) out pending
      → SentPart took mid.out (mid.pending ++ 10 ∷ []) out
      → PutDone took count old (record mid { out = out; faults = faults; pending = pending })
  line_ends out pending faults l later p q =
      let t = none_left l in
      let new = record mid { out = out; faults = faults; pending = pending } in
      record {
        prints = puts_line rule count ok t refl refl refl p;
        part = puts_line_part rule count ok new t q;
        costs = alone_wider (omega arith) s.runs;
        goes_on = omega (arith, s.later, later);
      }

  -- or the sink failed.
  pub line_fails : (out pending : List ℕ) (faults : ℕ) → count ≤ i → Rose mid.faults faults
      → mid.faults ≤ faults → SentPart took mid.out (mid.pending ++ 10 ∷ []) out
      → PutStops took count old (record mid { out = out; faults = faults; pending = pending })
      stop.Write
  line_fails out pending faults l rose later q =
      let new = record mid { out = out; faults = faults; pending = pending } in
      record {
        part = puts_line_part rule count ok new (none_left l) q;
        front = tt;
        costs = alone_wider (omega arith) s.runs;
        goes_on = omega (arith, s.later, later);
        cause = omega (arith, s.later, rose);
      }
