-- The columns of a step, which are popped and printed.
use Rattle.std.specs.Prelude.{◌≡◌, ℕ, suc, ◌+◌, ◌-◌, ◌≤◌, Bool, false, min, List, [], ◌∷◌, ◌++◌, length, take, drop, replicate, Option, Some, None, IsTrue, Result, Ok, Err}
use Rattle.em_io.specs.Sink.{Sent, SentPart}
use Rattle.em_io.specs.declared.sink.Sink as sink
use Rattle.em_record.specs.Count.{Rose}
use Rattle.em_record.specs.declared.record.Record.{Record}
use Rattle.em_space.specs.Ledger.{Runs}
use Rattle.em_space.specs.Queue.{QueueCounts}
use Rattle.em_space.specs.Rig.{RigState, Cause}
use Rattle.em_space.specs.declared.queue.Queue as queue
use Rattle.em_queued.specs.Queued.{CallsOn, StopsBeside, no_account, queue_account}
use Rattle.em_queued.specs.Room.{StatedRoom}
use Rattle.aig_defs.specs.Stimulus.{bit_byte, output_line}
use Rattle.aig_edges.specs.declared.stop.StepStop.{StepStop}
use Rattle.aig_edges.specs.declared.stop.StepStop.TheVariants as stop
use Rattle.aig_sweep.specs.Bits.{bits_of}
use Rattle.aig_sweep.specs.Scene.{KeepsFront}
use Rattle.aig_words.specs.Words.{lane, says}

-- the bit of a message, in lane 0 of its word; a missing one says 0
abbrev pub message_bit : Option Record → Bool
message_bit None = false
message_bit (Some message) = says 0 message.c

-- the bits of the first messages; each missing one says 0
abbrev pub outputs_of : ℕ → List Record → List Bool
outputs_of count items = bits_of (lane 0 (take count items)) ++ replicate (count - length items) false

-- their line
abbrev pub outputs_line : ℕ → List Record → List ℕ
outputs_line count items = output_line (outputs_of count items)

-- Calls of a queue alone, at most this many, none of which was refused. Of its blocks at most as
-- many aren't stored as it holds single frames.
pub record RunsAlone (calls : ℕ) (held ks : List ℕ) (c d : QueueCounts) (first now : RigState)
    : Type 0 where
  pub runs : Runs d.most held ks (queue_account c) (queue_account d) first now
  pub calls_on : CallsOn calls c d
  pub stored : d.unstored ≤ d.frames

-- A queue on a rig, and what was printed, at one moment: the messages, the queue's blocks,
-- numbers and stated room; what the sink has taken and how often it failed; and what is pending in the printer.
pub record Printing : Type 0 where
  pub rig : RigState
  pub items : List Record
  pub blocks : List ℕ
  pub counts : QueueCounts
  pub room : StatedRoom
  pub out : List ℕ
  pub faults : ℕ
  pub pending : List ℕ

abbrev pub printing : {Q W : Type 0} → queue.Ghosts Q → sink.Ghosts W → Q → W → List ℕ → RigState
    → Printing
printing q w queue sink pending rig = record {
  rig = rig;
  items = q.items queue rig;
  blocks = q.blocks queue rig;
  counts = q.counts queue;
  room = q.room;
  out = w.state sink;
  faults = w.faults sink;
  pending = pending;
}

-- The messages are gone from the queue, and their line went out or is pending.
pub record PrintsOutputs (took : List ℕ → List ℕ → List ℕ) (count : ℕ) (old new : Printing)
    : Type 0 where
  pub sent : IsTrue old.rig.device.told
      → Sent took old.out (old.pending ++ outputs_line count old.items) new.out new.pending
  pub items_are : IsTrue old.rig.device.told → new.items ≡ drop count old.items
  pub len : new.counts.len + min count old.counts.len ≡ old.counts.len

-- of their line some front went out
abbrev pub PrintsPart : (List ℕ → List ℕ → List ℕ) → ℕ → Printing → Printing → Type 0
PrintsPart took count old new = IsTrue old.rig.device.told
    → SentPart took old.out (old.pending ++ outputs_line count old.items) new.out

-- at the rig's stop a front of the line went out or is pending
abbrev pub HaltsOutputs : (List ℕ → List ℕ → List ℕ) → ℕ → Printing → Printing
    → Result (Unit {0}) StepStop → Type 0
HaltsOutputs took count old new (Ok u) = Unit {0}
HaltsOutputs took count old new (Err (stop.Fault kind place)) = Unit {0}
HaltsOutputs took count old new (Err stop.Read) = Unit {0}
HaltsOutputs took count old new (Err stop.Write) = Unit {0}
HaltsOutputs took count old new (Err (stop.Em fault)) = IsTrue old.rig.device.told
    → KeepsFront took old.out (old.pending ++ outputs_line count old.items) new.out new.pending

-- what the calls of the queue cost, by the answer
abbrev pub OutputCosts : ℕ → Printing → Printing → Result (Unit {0}) StepStop → Type 0
OutputCosts count old new (Ok u) =
    RunsAlone count old.blocks new.blocks old.counts new.counts old.rig new.rig
OutputCosts count old new (Err stop.Write) =
    RunsAlone count old.blocks new.blocks old.counts new.counts old.rig new.rig
OutputCosts count old new (Err (stop.Em fault)) =
    StopsBeside new.room count 0 0 0 old.blocks no_account old.counts new.counts old.rig new.rig fault
OutputCosts count old new (Err (stop.Fault kind place)) = ⊥
OutputCosts count old new (Err stop.Read) = ⊥

-- why columns weren't printed: the sink's count of faults rose, or a call of the queue was refused
abbrev pub OutputCause : Printing → Printing → StepStop → Type 0
OutputCause old new (stop.Fault kind place) = ⊥
OutputCause old new stop.Read = ⊥
OutputCause old new stop.Write = Rose old.faults new.faults
OutputCause old new (stop.Em fault) = Cause old.rig new.rig fault

-- The first message, if there is one, left the queue, and says this bit.
pub record PopsOne (old new : Printing) (bit : Bool) : Type 0 where
  pub runs : RunsAlone 1 old.blocks new.blocks old.counts new.counts old.rig new.rig
  pub bits : IsTrue old.rig.device.told → (n : ℕ)
      → outputs_of (suc n) old.items ≡ bit ∷ outputs_of n new.items
  pub items_are : IsTrue old.rig.device.told → (n : ℕ)
      → drop (suc n) old.items ≡ drop n new.items
  pub len : new.counts.len ≡ old.counts.len - 1

-- It was popped, and its byte went out or is pending.
pub record PutsOne (took : List ℕ → List ℕ → List ℕ) (old new : Printing) : Type 0 where
  pub bit : Bool
  pub pops : PopsOne old new bit
  pub sent : Sent took old.out (old.pending ++ bit_byte bit ∷ []) new.out new.pending
  pub later : old.faults ≤ new.faults

-- It was popped, and the sink failed.
pub record FailsPut (took : List ℕ → List ℕ → List ℕ) (old new : Printing) : Type 0 where
  pub bit : Bool
  pub pops : PopsOne old new bit
  pub part : SentPart took old.out (old.pending ++ bit_byte bit ∷ []) new.out
  pub later : old.faults ≤ new.faults
  pub rose : Rose old.faults new.faults

-- one column that was to be printed, by the answer
abbrev pub PutsBy : (List ℕ → List ℕ → List ℕ) → Printing → Printing
    → Result (Unit {0}) StepStop → Type 0
PutsBy took old new (Ok u) = PutsOne took old new
PutsBy took old new (Err stop.Write) = FailsPut took old new
PutsBy took old new (Err (stop.Em fault)) =
    StopsBeside new.room 1 0 0 0 old.blocks no_account old.counts new.counts old.rig new.rig fault
    × (new.out ≡ old.out) × (new.faults ≡ old.faults) × (new.pending ≡ old.pending)
PutsBy took old new (Err (stop.Fault kind place)) = ⊥
PutsBy took old new (Err stop.Read) = ⊥

-- Some columns were printed, and `rest` of them are left.
pub record PutsFront (took : List ℕ → List ℕ → List ℕ) (count rest : ℕ) (old now : Printing)
    : Type 0 where
  pub runs : RunsAlone (count - rest) old.blocks now.blocks old.counts now.counts old.rig now.rig
  pub sent : IsTrue old.rig.device.told
      → Sent took old.out (old.pending ++ outputs_line count old.items) now.out
      (now.pending ++ outputs_line rest now.items)
  pub items_are : IsTrue old.rig.device.told → drop rest now.items ≡ drop count old.items
  pub len : now.counts.len ≡ old.counts.len - (count - rest)
  pub later : old.faults ≤ now.faults
