-- What a run over a queue says: of a full device, of its moves, and when it was given up.
use Rattle.std.proofs.Common.{◌≡◌, ℕ, ◌+◌, ◌-◌, ◌≤◌, ◌^◌, List, ap, sym, subst, ◌∙◌, arith, Bool, IsTrue, inl, inr, ⊎_elim, ◌<◌, IfSome, Option, None, Some}
use Rattle.em_record.specs.Shape.{ShapeNumbers}
use Rattle.em_space.specs.Queue.{IsRising, IsRisingRoom, Leaves, QueueCounts}
use Rattle.em_space.specs.Rig.{RigState, Cause}
use Rattle.em_space.specs.declared.fault.EmFault.TheVariants as em
use Rattle.em_space.specs.declared.queue.Queue.{Ghosts as QueueGhosts}
use Rattle.em_space.proofs.Queues.{shares_then}
use Rattle.em_space.proofs.Steps.{touches_then}
use Rattle.em_lines.specs.RunSize.{commands_taken}
use Rattle.em_lines.specs.declared.text.FileKind.{FileKind}
use Rattle.em_lines.specs.declared.text.FileKind.TheVariants as kind
use Rattle.em_ends.specs.Stop.{Faults, IfStopsFull}
use Rattle.em_ends.specs.declared.status.Malform.TheVariants.{Text, Base, Aig}
use Rattle.em_ends.specs.declared.stop.Stop.{Stop}
use Rattle.em_ends.specs.declared.stop.Stop.TheVariants.{Fault, Read, Write, Em}
use Rattle.em_answers.specs.Limits.{queue_limits}
use Rattle.em_answers.specs.Reading.{IsFilled, StopCause}
use Rattle.em_answers.specs.Serve.{CallsOnly, GivesUp, IsFilledBy}

-- the room of the queue's calls is within that of the run
filled_calls : (room : Option (ShapeNumbers → ℕ → ℕ)) (p q : ShapeNumbers) (j k used : ℕ)
    → IfSome room IsRisingRoom → q ≡ p → j ≤ k → IfSome room (λ f. used < f p j)
    → IfSome room (λ f. used < f q k)
filled_calls None p q j k used rises same few h = tt
filled_calls (Some f) p q j k used rises same few h =
    let more = rises p j k few in rw same (omega (arith, h, more))

filled_alone : (room : Option (ShapeNumbers → ℕ → ℕ)) (tells : Bool) (text left : List ℕ)
    (s t : RigState) (c : QueueCounts) (used : ℕ) → IfSome room IsRisingRoom → c.k ≤ c.n
    → (IsTrue tells → c.n ≤ commands_taken kind.Queue text left) → Leaves c s t
    → IsFilledBy room c s used → IsFilled (queue_limits room) tells kind.Queue text left t used
filled_alone room tells text left s t c used rises k calls l full = record {
  paid =
      let moves : t.moves ≡ s.moves = ap (λ (r : RigState). r.moves) l.same in
      let f = ap (λ (x : ShapeNumbers). x.frames) l.touches.shape in
      ⊎_elim
      (λ (h : 2 ^ 64 - 1 ≤ s.moves). inl (omega (arith, h, moves)))
      (λ (h : used ≤ s.moves + s.pool.shape.frames). inr (omega (arith, h, moves, f)))
      full.paid;
  room = λ told d.
      let n = calls told in
      filled_calls room s.pool.shape t.pool.shape c.k (commands_taken kind.Queue text left) used rises
      l.touches.shape (omega (arith, k, n)) (full.small (sym l.touches.told ∙ d));
}

-- Calls of a queue, and then it was given up.
pub gives_up : {Q : Type 0} (queue : QueueGhosts Q) (q : Q) (d : QueueCounts) (s t u : RigState)
    → CallsOnly (queue.blocks q s) (queue.counts q) d s t → Leaves d t u → GivesUp queue q s u
gives_up queue q d s t u c l =
    let y = shares_then (queue.counts q) d (record d { frames = 0; areas = 0 }) s.pool t.pool u.pool c.shares l.frames in
    record {
      sound = l.sound;
      touches = touches_then (queue.blocks q s) s t u c.touches l.touches;
      frames = record {
        shape = y.shape;
        free = y.free;
        areas = y.areas;
        rack = y.rack;
        peak = y.peak;
      };
    }

-- A queue that was alone on a full device gave its frames back.
pub queue_filled : (room : Option (ShapeNumbers → ℕ → ℕ)) (tells : Bool) (text left : List ℕ)
    (s t : RigState) (c : QueueCounts) (stop : Stop) → IfSome room IsRisingRoom → c.k ≤ c.n
    → (IsTrue tells → c.n ≤ commands_taken kind.Queue text left) → Leaves c s t
    → IfStopsFull stop (IsFilledBy room c s)
    → IfStopsFull stop (IsFilled (queue_limits room) tells kind.Queue text left t)
queue_filled room tells text left s t c (Fault fault place) rises k calls l full = tt
queue_filled room tells text left s t c Read rises k calls l full = tt
queue_filled room tells text left s t c Write rises k calls l full = tt
queue_filled room tells text left s t c (Em em.DeviceFault) rises k calls l full = tt
queue_filled room tells text left s t c (Em (em.Damaged block)) rises k calls l full = tt
queue_filled room tells text left s t c (Em (em.Full used)) rises k calls l full =
    filled_alone room tells text left s t c used rises k calls l full

-- why it stopped is as it was before
pub queue_stops : (tells : Bool) (k : FileKind) (text : List ℕ) (faults later : Faults)
    (a s t : RigState) (c : QueueCounts) (stop : Stop) → Leaves c s t
    → StopCause tells k text faults later a s stop → StopCause tells k text faults later a t stop
queue_stops tells k text faults later a s t c (Fault (Text fault) line) l cause = cause
queue_stops tells k text faults later a s t c (Fault (Base fault) place) l cause = absurd cause
queue_stops tells k text faults later a s t c (Fault (Aig fault) place) l cause = absurd cause
queue_stops tells k text faults later a s t c Read l cause = cause
queue_stops tells k text faults later a s t c Write l cause = cause
queue_stops tells k text faults later a s t c (Em em.DeviceFault) l cause =
    subst (λ (r : RigState). Cause a r em.DeviceFault) (sym l.same) cause
queue_stops tells k text faults later a s t c (Em (em.Full used)) l cause =
    subst (λ (r : RigState). Cause a r (em.Full used)) (sym l.same) cause
queue_stops tells k text faults later a s t c (Em (em.Damaged block)) l cause =
    subst (λ (r : RigState). Cause a r (em.Damaged block)) (sym l.same) cause

-- The moves of a queue that was made on a rig with none, and called.
pub calls_within : (allowance : Option (ShapeNumbers → ℕ → ℕ → ℕ)) (c d : QueueCounts)
    (shape first : ShapeNumbers) (s t u n : ℕ) → IfSome allowance IsRising
    → IfSome allowance (λ f. d.spent ≤ f shape d.n d.k) → d.k ≤ d.n → d.n ≤ n → shape ≡ first
    → t + c.spent ≡ s + d.spent → s ≤ c.spent → u ≡ t → IfSome allowance (λ f. u ≤ f first n n)
calls_within None c d shape first s t u n rises spends k few same spent moved e = tt
calls_within (Some f) c d shape first s t u n rises spends k few same spent moved e =
    let within : d.spent ≤ f first d.n d.k =
    subst (λ (p : ShapeNumbers). d.spent ≤ f p d.n d.k) same spends in
    let more = rises first d.n n d.k n few (omega (arith, k, few)) in
    omega (arith, within, more, spent, moved, e)
