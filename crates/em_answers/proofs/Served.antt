-- A queue file that is answered command by command.
use Rattle.std.proofs.Common.{◌≡◌, ℕ, ◌+◌, ◌-◌, ◌≤◌, ◌^◌, List, ◌∷◌, ◌++◌, ap, ◌∙◌, arith, Result, Ok, Err, IfErr, inl, inr, ⊎_elim, ◌<◌, subst, sym, IfSome, Option, None, Some}
use Rattle.std.proofs.lemmas.Grind.{flat_map-append}
use Rattle.std.specs.Result.{IsErrAnd}
use Rattle.em_io.specs.Sink.{Sent}
use Rattle.em_record.specs.declared.record.Record.{Record}
use Rattle.em_model.specs.Queue.{Queue, queue_answer_of, queue_answers_from, queue_step}
use Rattle.em_model.specs.declared.command.Command.{Command}
use Rattle.em_space.specs.Queue.{Pays, QueueCounts, Served, Serves, LacksBlocks}
use Rattle.em_space.specs.Rig.{RigState}
use Rattle.em_space.specs.declared.fault.EmFault.TheVariants.{DeviceFault, Full, Damaged}
use Rattle.em_answers.specs.Answer.{popped_line, queue_text}
use Rattle.em_answers.specs.Serve.{Follows, IsAlone, IsFilledBy, ServeCause}
use Rattle.em_ends.specs.Stop.{IfStopsFull}
use Rattle.em_ends.specs.declared.stop.Stop.{Stop}
use Rattle.em_ends.specs.declared.stop.Stop.TheVariants.{Fault, Read, Write, Em}
use Rattle.em_answers.proofs.Listing.{full_paid}
use Rattle.em_record.specs.Shape.{ShapeNumbers}
use Rattle.em_space.specs.declared.queue.Queue.{Ghosts as QueueGhosts}

-- The answers so far went out or are pending, and those to the commands that are left are to go.
pub record Serving (took : List ℕ → List ℕ → List ℕ) (whole : List ℕ) (left : List Command)
    (items : List Record) (pushes : ℕ) (old new pending : List ℕ) : Type 0 where
  pub model : Queue
  pub follows : Follows items pushes model
  pub sent : Sent took old whole new (pending ++ queue_text (queue_answers_from model left))

-- the answer to the next command, and those to the others
pub next_answer : (q : Queue) (c : Command) (left cs : List Command) → left ≡ c ∷ cs
    → queue_text (queue_answers_from q left)
    ≡ queue_text (queue_answer_of q c) ++ queue_text (queue_answers_from (queue_step q c) cs)
next_answer q c left cs e =
    ap (λ l. queue_text (queue_answers_from q l)) e
    ∙ flat_map-append popped_line (queue_answer_of q c) (queue_answers_from (queue_step q c) cs)

-- No more blocks were in use at once than its number says, whether its call gave up or not.
pub most_next : (held : List ℕ) (s t : RigState) (c d : QueueCounts) → IsAlone s c → Serves held c d s t
    → t.most ≤ d.most
most_next held s t c d a v = let m = v.most in let n = v.more in omega (arith, m, n, a.used, a.most)

-- The queue stays alone on the device.
pub alone_next : (held : List ℕ) (s t : RigState) (c d : QueueCounts) → IsAlone s c
    → Serves held c d s t → Served c d s t → IsAlone t d
alone_next held s t c d a v w = record {
  used = let u = w.used in omega (arith, u, a.used);
  most = most_next held s t c d a v;
  paid = ⊎_elim
      (λ (x : 2 ^ 64 - 1 ≤ s.moves). inl (let m = v.touches.moves in omega (arith, x, m)))
      (λ (x : s.used ≤ s.moves + c.unstored).
      ⊎_elim
      (λ (y : 2 ^ 64 - 1 ≤ t.moves). inl y)
      (λ (y : t.used + s.moves + c.unstored ≤ s.used + t.moves + d.unstored).
      inr (omega (arith, x, y)))
      w.pays.is)
      a.paid;
  moved = let e = v.spent in omega (arith, e, a.moved);
}

-- the blocks of a full device are fewer than the queue's room
filled_room : (room : Option (ShapeNumbers → ℕ → ℕ)) (k used s c : ℕ) (p q : ShapeNumbers) → q ≡ p
    → s ≡ c → IfSome room (λ f. used + c < s + f p k) → IfSome room (λ f. used < f q k)
filled_room None k used s c p q same alone h = tt
filled_room (Some f) k used s c p q same alone h = rw same (omega (arith, alone, h))

filled_by : {Q : Type 0} (q : QueueGhosts Q) (held : List ℕ) (s t : RigState) (c d : QueueCounts)
    (used : ℕ) → IsAlone s c → Serves held c d s t → Pays c.unstored s.pool.shape.frames s t
    → LacksBlocks q.enough q.room c d.k s used → (used ≡ t.blocks) × (t.used ≡ t.blocks)
    → IsFilledBy q.room d t used
filled_by q held s t c d used a v p l full = record {
  paid = full_paid (λ shape. shape.frames) held s t c.unstored used v.touches a.paid p full;
  most =
      let m = v.most in let n = v.more in let u = v.sound.numbers.used_most in
      omega (arith, m, n, u, full.0, full.1, a.used, a.most);
  small = λ told. filled_room q.room d.k used s.used c.blocks s.pool.shape t.pool.shape
      v.touches.shape a.used (l.small (sym v.touches.told ∙ told));
}

-- What a full device says.
pub stops_full : {Q : Type 0} (q : QueueGhosts Q) (held : List ℕ) (s t : RigState)
    (c d : QueueCounts) (faults after : ℕ) (stop : Stop) → IsAlone s c → Serves held c d s t
    → ServeCause faults after s t stop
    → IfStopsFull stop (λ used. Pays c.unstored s.pool.shape.frames s t)
    → IfStopsFull stop (LacksBlocks q.enough q.room c d.k s)
    → IfStopsFull stop (IsFilledBy q.room d t)
stops_full q held s t c d faults after (Fault kind line) a v cause p l = tt
stops_full q held s t c d faults after Read a v cause p l = tt
stops_full q held s t c d faults after Write a v cause p l = tt
stops_full q held s t c d faults after (Em DeviceFault) a v cause p l = tt
stops_full q held s t c d faults after (Em (Full used)) a v cause p l =
    filled_by q held s t c d used a v p l cause
stops_full q held s t c d faults after (Em (Damaged block)) a v cause p l = tt

-- A stop that is handed on says as much of a full device.
pub stops_by : {T : Type 0} (P : ℕ → Type 0) (result : Result T Stop) (stop : Stop)
    → IsErrAnd result (λ e. e ≡ stop) → IfStopsFull stop P → IfErr result (λ e. IfStopsFull e P)
stops_by P (Ok x) stop is h = tt
stops_by P (Err e) stop is h = subst (λ (x : Stop). IfStopsFull x P) (sym is) h
