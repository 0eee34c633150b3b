-- How a run ends.
use Rattle.std.proofs.Common.{◌≡◌, ℕ, ◌+◌, ◌-◌, ◌*◌, ◌^◌, ◌⊎◌, ◌<◌, ◌≤◌, Bool, true, false, List, Option, Some, None, IfSome, ap, sym, subst, ◌∙◌, arith, IsTrue, IsFalse, ⊎_elim}
use Rattle.em_record.specs.Shape.{ShapeNumbers}
use Rattle.em_io.specs.Shelf.{SlotState}
use Rattle.em_io.specs.declared.shelf.Slot.{Slot}
use Rattle.em_io.specs.Sink.{IsRule, SentPart}
use Rattle.em_io.proofs.Sent.{part-of, sent-nothing}
use Rattle.em_frames.specs.Device.{DeviceState}
use Rattle.em_space.specs.Rig.{RigState, Sound, Touches}
use Rattle.em_space.specs.declared.fault.EmFault.TheVariants as em
use Rattle.em_ends.specs.Asked.{Asked, ToldIf}
use Rattle.em_ends.specs.Ended.{Ended, Outside}
use Rattle.em_ends.specs.Stop.{stop_status, Faults, IfStopsFull, OnFault}
use Rattle.em_ends.specs.RunStop.{FillsRun, RunCause}
use Rattle.em_ends.specs.Status.{IfEndsDamaged, IfEndsFull, OnEnd}
use Rattle.em_ends.specs.declared.status.Malform.{Malform}
use Rattle.em_ends.specs.declared.status.Status.{Status}
use Rattle.em_ends.specs.declared.status.Status.TheVariants.{Done, Malformed, ReadFault, WriteFault, DeviceFault, NoMemory}
use Rattle.em_ends.specs.declared.stop.Stop.{Stop}
use Rattle.em_ends.specs.declared.stop.Stop.TheVariants.{Fault, Read, Write, Em}

-- Of a status that is neither Done, Malformed, Full nor Damaged nothing more is said.
record Plain (status : Status) : Type 1 where
  on_end : (P : Type 0) → OnEnd status P
  full : (P : ℕ → Type 0) → IfEndsFull status P
  damaged : (P : ℕ → Type 0) → IfEndsDamaged status P

read_plain : Plain ReadFault
read_plain = record { on_end = λ P. tt; full = λ P. tt; damaged = λ P. tt }

write_plain : Plain WriteFault
write_plain = record { on_end = λ P. tt; full = λ P. tt; damaged = λ P. tt }

device_plain : Plain DeviceFault
device_plain = record { on_end = λ P. tt; full = λ P. tt; damaged = λ P. tt }

memory_plain : Plain NoMemory
memory_plain = record { on_end = λ P. tt; full = λ P. tt; damaged = λ P. tt }

-- a device that tells does so where that is needed
pub told_if : (needed told : Bool) → IsTrue told → ToldIf needed told
told_if true told d = d
told_if false told d = tt

-- the moves of a run are those that it is held to, if a device that tells is known to tell
abbrev pub KeepsMoves : Bool → Asked → ShapeNumbers → Outside → Outside → Type 0
KeepsMoves tells asked shape old new = IsTrue tells → IsTrue old.device.told → IfSome asked.moves
    (λ f. new.device.moves ≤ old.device.moves + f shape new.stand.slot)

-- no move was made
pub none_moved : (moves : Option (ShapeNumbers → (Slot → SlotState) → ℕ)) (shape : ShapeNumbers)
    (old new : Outside) → new.device.moves ≡ old.device.moves
    → IfSome moves (λ f. new.device.moves ≤ old.device.moves + f shape new.stand.slot)
none_moved None shape old new same = tt
none_moved (Some f) shape old new same = omega (arith, same)

-- So the output and the moves are all that has to be shown.
ended_plain : (tells : Bool) (took : List ℕ → List ℕ → List ℕ) (asked : Asked)
    (shape : ShapeNumbers) (blocks : ℕ) (old new : Outside) (status : Status) → Plain status
    → (IsTrue tells → IsTrue old.device.told
    → SentPart took old.output asked.output new.output)
    → KeepsMoves tells asked shape old new → Ended tells took asked shape blocks old new status
ended_plain tells took asked shape blocks old new status plain part moves = record {
  answers = λ t d. plain.on_end _;
  due = λ t d. plain.on_end _;
  prefix = part;
  full = plain.full _;
  paid = plain.full _;
  room = λ t c. plain.full _;
  moves = moves;
  damaged = plain.damaged _;
}

-- A status that comes after all that is due went out.
pub record Whole (status : Status) : Type 1 where
  pub on_end : (P : Type 0) → P → OnEnd status P
  pub full : (P : ℕ → Type 0) → IfEndsFull status P
  pub damaged : (P : ℕ → Type 0) → IfEndsDamaged status P

pub done_whole : Whole Done
done_whole = record { on_end = λ P p. p; full = λ P. tt; damaged = λ P. tt }

pub malformed_whole : (kind : Malform) (place : ℕ) → Whole (Malformed kind place)
malformed_whole kind place = record { on_end = λ P p. p; full = λ P. tt; damaged = λ P. tt }

-- So status, output and moves are all that has to be shown.
pub ended_due : {tells : Bool} {took : List ℕ → List ℕ → List ℕ} (asked : Asked)
    {shape : ShapeNumbers} {blocks : ℕ} {old new : Outside} (status : Status) → Whole status
    → (IsTrue tells → ToldIf asked.status_told old.device.told → status ≡ asked.status)
    → (IsTrue tells → IsTrue old.device.told → new.output ≡ took old.output asked.output)
    → (IsTrue tells → IsTrue old.device.told → SentPart took old.output asked.output new.output)
    → KeepsMoves tells asked shape old new → Ended tells took asked shape blocks old new status
ended_due asked {old = old} status whole due all part moves = record {
  answers = λ t d. whole.on_end _ (due t (told_if asked.status_told old.device.told d), all t d);
  due = λ t d. whole.on_end _ (due t d);
  prefix = part;
  full = whole.full _;
  paid = whole.full _;
  room = λ t c. whole.full _;
  moves = moves;
  damaged = whole.damaged _;
}

module _ {IsState : List ℕ → Type 0} {took : List ℕ → List ℕ → List ℕ} (rule : IsRule IsState took)
    (tells : Bool) (asked : Asked) (shape : ShapeNumbers) (blocks : ℕ)
    (old new : Outside) (ok : IsState old.output) (same : new.output ≡ old.output)
    (moves : KeepsMoves tells asked shape old new) where
  quiet : (status : Status) → Plain status → Ended tells took asked shape blocks old new status
  quiet status plain = ended_plain tells took asked shape blocks old new status plain
      (λ t d. part-of (sent-nothing rule ok asked.output same)) moves

  -- the shelf failed, and nothing was printed
  pub ended_read : Ended tells took asked shape blocks old new ReadFault
  ended_read = quiet ReadFault read_plain

  -- the device wasn't begun
  pub ended_device : Ended tells took asked shape blocks old new DeviceFault
  ended_device = quiet DeviceFault device_plain

  -- there was no memory
  pub ended_no_memory : Ended tells took asked shape blocks old new NoMemory
  ended_no_memory = quiet NoMemory memory_plain

-- The same where the device moved nothing.
module _ {IsState : List ℕ → Type 0} {took : List ℕ → List ℕ → List ℕ} (rule : IsRule IsState took)
    (tells : Bool) (asked : Asked) (shape : ShapeNumbers) (blocks : ℕ)
    (old new : Outside) (ok : IsState old.output) (same : new.output ≡ old.output)
    (still : new.device.moves ≡ old.device.moves) where
  none : KeepsMoves tells asked shape old new
  none t d = none_moved asked.moves shape old new still

  pub unmoved_read : Ended tells took asked shape blocks old new ReadFault
  unmoved_read = ended_read rule tells asked shape blocks old new ok same none

  pub unmoved_device : Ended tells took asked shape blocks old new DeviceFault
  unmoved_device = ended_device rule tells asked shape blocks old new ok same none

  pub unmoved_memory : Ended tells took asked shape blocks old new NoMemory
  unmoved_memory = ended_no_memory rule tells asked shape blocks old new ok same none

-- What a run that stopped left: a front of what is due went out, and all of it at a fault of the
-- input.
pub record Stopped (tells : Bool) (took : List ℕ → List ℕ → List ℕ) (asked : Asked)
    (old new : Outside) (stop : Stop) : Type 0 where
  pub fault : IsTrue tells → IsTrue old.device.told
      → OnFault stop (new.output ≡ took old.output asked.output)
  pub part : IsTrue tells → IsTrue old.device.told
      → SentPart took old.output asked.output new.output

-- the device didn't tell its contents from the start, and the block is one of it
untold : (held : List ℕ) (old : DeviceState) (a c : RigState) → Touches held a c → old ≡ a.device
    → (k : ℕ) → IsFalse c.device.told × (k < c.blocks) → IsFalse old.told × (k < a.blocks)
untold held old a c touches before k h = (
  ap (λ (d : DeviceState). d.told) before ∙ sym touches.told ∙ h.0,
  omega (arith, h.1, touches.blocks),
)

-- what the device told at the start
told_first : (old : Outside) (a : RigState) → old.device ≡ a.device
    → old.device.told ≡ a.device.told
told_first old a before = ap (λ (d : DeviceState). d.told) before

module _ {took : List ℕ → List ℕ → List ℕ} {held : List ℕ} (tells : Bool) (asked : Asked)
    (old new : Outside) (a c : RigState) (touches : Touches held a c) (sound : Sound c)
    (before : old.device ≡ a.device) (after : new.device ≡ c.device)
    (kept : KeepsMoves tells asked a.pool.shape old new) where
  -- The run stopped.
  pub ended_stop : (stop : Stop) (faults later : Faults)
      → RunCause tells asked faults later a c stop
      → IfStopsFull stop (FillsRun tells asked new.stand.slot c)
      → Stopped tells took asked old new stop
      → Ended tells took asked a.pool.shape a.blocks old new (stop_status stop)
  ended_stop (Fault kind place) faults later cause full s =
      ended_due asked (Malformed kind place) (malformed_whole kind place)
      (λ t d. sym (cause t (subst (λ (b : Bool). ToldIf asked.status_told b) (told_first old a before) d)))
      s.fault s.part kept
  ended_stop Read faults later cause full s =
      ended_plain tells took asked a.pool.shape a.blocks old new ReadFault read_plain s.part
      kept
  ended_stop Write faults later cause full s =
      ended_plain tells took asked a.pool.shape a.blocks old new WriteFault write_plain s.part
      kept
  ended_stop (Em em.DeviceFault) faults later cause full s =
      ended_plain tells took asked a.pool.shape a.blocks old new DeviceFault device_plain s.part
      kept
  ended_stop (Em (em.Damaged k)) faults later cause full s = record {
    answers = λ t d. tt;
    due = λ t d. tt;
    prefix = s.part;
    full = tt;
    paid = tt;
    room = λ t c. tt;
    moves = kept;
    damaged = untold held old.device a c touches before k cause;
  }
  ended_stop (Em (em.Full used)) faults later cause full s =
      let moves : new.device.moves ≡ c.moves =
      ap (λ (d : DeviceState). d.moves) after ∙ sound.moves_is in
      let told : old.device.told ≡ c.device.told = told_first old a before ∙ sym touches.told in
      record {
        answers = λ t d. tt;
        due = λ t d. tt;
        prefix = s.part;
        full = cause.0 ∙ touches.blocks;
        paid = rw (moves, ← touches.shape) full.paid;
        room = λ t d. rw (← touches.shape) (full.room t (sym told ∙ d));
        moves = kept;
        damaged = tt;
      }

-- The same end, as seen from before the rig was opened: the device tells the same, and has moved as much.
pub ended_opened : {took : List ℕ → List ℕ → List ℕ} (tells : Bool) (asked : Asked)
    (shape first : ShapeNumbers) (blocks count : ℕ) (old mid new : Outside) (status : Status)
    → shape ≡ first → blocks ≡ count → mid.device.told ≡ old.device.told
    → mid.device.moves ≡ old.device.moves → mid.output ≡ old.output
    → Ended tells took asked shape blocks mid new status
    → Ended tells took asked first count old new status
ended_opened {took} tells asked shape first blocks count old mid new status same many told still output r =
    record {
      answers = λ t d. subst (λ (o : List ℕ). OnEnd status
          ((status ≡ asked.status) × (new.output ≡ took o asked.output))) output (r.answers t (told ∙ d));
      due = λ t d. r.due t (subst (λ (b : Bool). ToldIf asked.status_told b) (sym told) d);
      prefix = λ t d. subst (λ (o : List ℕ). SentPart took o asked.output new.output) output
          (r.prefix t (told ∙ d));
      full = subst (λ (n : ℕ). IfEndsFull status (λ used. used ≡ n)) many r.full;
      paid = subst (λ (p : ShapeNumbers). IfEndsFull status (λ used. (2 ^ 64 - 1 ≤ new.device.moves)
          ⊎ (used ≤ new.device.moves + 2 * p.frames))) same r.paid;
      room = λ t d. subst (λ (p : ShapeNumbers). IfEndsFull status (λ used. IfSome asked.room
          (λ f. used < f p new.stand.slot))) same (r.room t (told ∙ d));
      moves = λ t d. subst (λ (p : ShapeNumbers). IfSome asked.moves
          (λ f. new.device.moves ≤ old.device.moves + f p new.stand.slot)) same
          (subst (λ (n : ℕ). IfSome asked.moves (λ f. new.device.moves ≤ n + f shape new.stand.slot)) still
          (r.moves t (told ∙ d)));
      damaged = subst (λ (n : ℕ). IfEndsDamaged status (λ at. IsFalse old.device.told × (at < n))) many
          (subst (λ (b : Bool). IfEndsDamaged status (λ at. IsFalse b × (at < blocks))) told r.damaged);
    }

-- A full device has at most as many blocks as moves were made, and two for each frame, if the count of moves
-- isn't at its end; a count within a number at its end is more than all blocks.
pub full_by_moves : (blocks used moves most frames : ℕ) → blocks ≤ 2 ^ 40 → used ≡ blocks
    → moves ≤ most → (2 ^ 64 - 1 ≤ moves) ⊎ (used ≤ moves + 2 * frames)
    → used ≤ most + 2 * frames
full_by_moves blocks used moves most frames high all few paid = ⊎_elim
    (λ (h : 2 ^ 64 - 1 ≤ moves). omega (arith, h, high, all, few))
    (λ (h : used ≤ moves + 2 * frames). omega (arith, h, few))
    paid
