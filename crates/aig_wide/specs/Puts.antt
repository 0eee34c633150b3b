-- The words of steps leave the queue, and are printed.
use Rattle.std.specs.Prelude.{◌≡◌, ℕ, zero, suc, ◌+◌, ◌≤◌, List, [], ◌++◌, map, take, drop, IsTrue, Result, Ok, Err}
use Rattle.em_io.specs.Sink.{Sent, SentPart}
use Rattle.em_io.specs.declared.sink.Sink as sink
use Rattle.em_record.specs.Count.{Rose}
use Rattle.em_record.specs.declared.record.Record.{Record}
use Rattle.em_space.specs.declared.fault.EmFault.{EmFault}
use Rattle.aig_defs.specs.Stimulus.{bit_byte, output_line}
use Rattle.aig_edges.specs.declared.stop.StepStop.{StepStop}
use Rattle.aig_edges.specs.declared.stop.StepStop.TheVariants as stop
use Rattle.aig_sweep.specs.QueueState.{QueueState}
use Rattle.aig_sweep.specs.Scene.{KeepsFront}
use Rattle.aig_words.specs.Lines.{line_bits, tiles}
use Rattle.aig_words.specs.Words.{bits_in}
use Rattle.aig_wide.specs.Calls.{Calls, Refused}
use Rattle.aig_wide.specs.Turns.{words_in}

-- A queue on a rig, and what was printed, at one moment.
pub record Printed : Type 0 where
  pub queue : QueueState
  pub out : List ℕ
  pub faults : ℕ
  pub pending : List ℕ

abbrev pub printed : {W : Type 0} → sink.Ghosts W → QueueState → W → List ℕ → Printed
printed w queue sink pending = record {
  queue = queue;
  out = w.state sink;
  faults = w.faults sink;
  pending = pending;
}

-- Words left the queue, and these bytes went out or are pending.
pub record Puts (took : List ℕ → List ℕ → List ℕ) (count : ℕ) (bytes : List ℕ) (old new : Printed)
    : Type 0 where
  pub calls : Calls count old.queue new.queue
  pub len : new.queue.counts.len + count ≡ old.queue.counts.len
  pub items : IsTrue old.queue.rig.device.told → new.queue.items ≡ drop count old.queue.items
  pub sent : IsTrue old.queue.rig.device.told → Sent took old.out (old.pending ++ bytes) new.out new.pending
  pub later : old.faults ≤ new.faults

-- The sink failed: of these bytes a front went out.
pub record FailsPut (took : List ℕ → List ℕ → List ℕ) (count : ℕ) (bytes : List ℕ) (old new : Printed)
    : Type 0 where
  pub calls : Calls count old.queue new.queue
  pub part : IsTrue old.queue.rig.device.told → SentPart took old.out (old.pending ++ bytes) new.out
  pub later : old.faults ≤ new.faults
  pub rose : Rose old.faults new.faults

-- A call of the queue was refused: of these bytes a front went out or is pending.
pub record HaltsPut (took : List ℕ → List ℕ → List ℕ) (count : ℕ) (bytes : List ℕ) (old new : Printed)
    (fault : EmFault) : Type 0 where
  pub refused : Refused count old.queue new.queue fault
  pub front : IsTrue old.queue.rig.device.told
      → KeepsFront took old.out (old.pending ++ bytes) new.out new.pending
  pub later : old.faults ≤ new.faults

-- by the answer
abbrev pub PutsBy : (List ℕ → List ℕ → List ℕ) → ℕ → List ℕ → Printed → Printed
    → Result (Unit {0}) StepStop → Type 0
PutsBy took count bytes old new (Ok u) = Puts took count bytes old new
PutsBy took count bytes old new (Err (stop.Fault kind place)) = ⊥
PutsBy took count bytes old new (Err stop.Read) = ⊥
PutsBy took count bytes old new (Err stop.Write) = FailsPut took count bytes old new
PutsBy took count bytes old new (Err (stop.Em fault)) = HaltsPut took count bytes old new fault

-- the bytes of a word's first bits
abbrev pub word_bytes : ℕ → ℕ → List ℕ
word_bytes size word = map bit_byte (bits_in size word)

-- the bytes of the first words, n bits in all
abbrev pub words_bytes : ℕ → List ℕ → List ℕ
words_bytes n words = map bit_byte (line_bits n words)

-- the line of the first item's word, of which there are n
abbrev pub line_text : ℕ → List Record → List ℕ
line_text columns items = output_line (line_bits columns (words_in (take (tiles columns) items)))

-- the lines of n steps
abbrev pub lines_text : ℕ → ℕ → List Record → List ℕ
lines_text columns zero items = []
lines_text columns (suc n) items = line_text columns items ++ lines_text columns n (drop (tiles columns) items)
