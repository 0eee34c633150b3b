-- A line of the stimulus that is read into a list of its bits.
use Rattle.std.specs.Prelude.{◌≡◌, ℕ, ◌+◌, ◌*◌, ◌<◌, ◌≤◌, ◌⊎◌, max, Bool, List, [], length, if◌then◌else◌, Option, Some, None, IsTrue, Result, Ok, Err}
use Rattle.em_record.specs.Count.{Rose}
use Rattle.em_record.specs.declared.record.Record.{Record}
use Rattle.em_space.specs.Ledger.{Runs, Stops}
use Rattle.em_space.specs.Rig.{RigState, Cause, Owes}
use Rattle.em_chain.specs.Chain.{IsChain, IsPacked, chain_blocks, chain_items, payload_in}
use Rattle.em_chain.specs.Counts.{ceiling}
use Rattle.em_chain.specs.Session.{chain_account}
use Rattle.em_chain.specs.declared.chain.Chain.{Chain}
use Rattle.em_queued.specs.Queued.{no_account}
use Rattle.aig_defs.specs.Items.{Reading, Reads, Fails}
use Rattle.aig_defs.specs.Stimulus.{stimulus_line}
use Rattle.aig_defs.specs.declared.fault.AigKind.{AigKind}
use Rattle.aig_text.specs.Source.{Source, left}
use Rattle.aig_text.specs.declared.stop.AigStop.{AigStop}
use Rattle.aig_text.specs.declared.stop.AigStop.TheVariants as aig
use Rattle.aig_edges.specs.declared.stop.StepStop.{StepStop}
use Rattle.aig_edges.specs.declared.stop.StepStop.TheVariants as stop
use Rattle.aig_words.specs.Words.{lane}
use Rattle.aig_sweep.specs.Bits.{bits_of}

-- the record of a bit
abbrev pub bit_record : Bool → Record
bit_record bit = record { a = 0; b = 0; c = if bit then 1 else 0; d = 0 }

-- the line that begins here
abbrev pub line_here : ℕ → Source → Reading (List Bool)
line_here inputs s = stimulus_line inputs s.feed.place (left s)

-- A packed chain of these bits.
pub record IsBitChain (s : RigState) (c : Chain) (bits : List Bool) : Type 0 where
  pub is : IsChain s c
  pub bits_are : IsTrue s.device.told → bits_of (lane 0 (chain_items s c)) ≡ bits
  pub packed : IsTrue s.device.told → IsPacked s c
  pub count_is : c.count ≡ length bits
  pub blocks_is : c.blocks ≡ ceiling (length bits) (payload_in s)

-- Nothing was left of the stimulus, and nothing was taken.
pub record EndsHere (tells : Bool) (old new : Source) : Type 0 where
  pub none_taken : new.feed.place ≡ old.feed.place
  pub none_left : IsTrue tells → left old ≡ []

-- A line was read whole, which took a byte or more, and the chain has its bits.
pub record ReadsWholeLine (tells : Bool) (inputs : ℕ) (old new : Source) (t : RigState) (c : Chain)
    : Type 0 where
  pub bits : List Bool
  pub chain : IsBitChain t c bits
  pub long : length bits ≡ inputs
  pub further : old.feed.place < new.feed.place
  pub some : IsTrue tells → 0 < length (left old)
  pub reads : IsTrue tells → line_here inputs old ≡ Reads bits new.feed.place (left new)

-- A line that begins here has this fault.
pub record FailsLine (tells : Bool) (inputs : ℕ) (old : Source) (kind : AigKind) (place : ℕ)
    : Type 0 where
  pub some : IsTrue tells → 0 < length (left old)
  pub fails : IsTrue tells → line_here inputs old ≡ Fails kind place

-- what was read of the stimulus, by the answer
abbrev pub AnswersLine : Bool → ℕ → Source → Source → RigState → Result (Option Chain) StepStop
    → Type 0
AnswersLine tells inputs old new t (Ok None) = EndsHere tells old new
AnswersLine tells inputs old new t (Ok (Some c)) = ReadsWholeLine tells inputs old new t c
AnswersLine tells inputs old new t (Err (stop.Fault kind place)) =
    FailsLine tells inputs old kind place
AnswersLine tells inputs old new t (Err stop.Read) = Unit {0}
AnswersLine tells inputs old new t (Err stop.Write) = ⊥
AnswersLine tells inputs old new t (Err (stop.Em fault)) = Unit {0}

-- the blocks of a list of n bits
abbrev pub bit_blocks : ℕ → RigState → ℕ
bit_blocks n s = ceiling n (payload_in s)

-- what a line cost, by the answer
abbrev pub LineCosts : ℕ → RigState → RigState → Result (Option Chain) StepStop → Type 0
LineCosts inputs s t (Ok None) = t ≡ s
LineCosts inputs s t (Ok (Some c)) =
    Runs c.blocks [] (chain_blocks t c) no_account (chain_account 1 c) s t
LineCosts inputs s t (Err (stop.Em fault)) =
    Stops (bit_blocks inputs s) (2 * bit_blocks inputs s + 1) 1 [] no_account s t fault
LineCosts inputs s t (Err e) = Unit {0}

-- Whatever it answered: no more blocks came into use than a list of n bits has, with two moves for
-- each and one more, and at most one of them isn't stored.
pub record TakesBits (n : ℕ) (s t : RigState) : Type 0 where
  pub used : t.used ≤ s.used + bit_blocks n s
  pub most : t.most ≤ max s.most (s.used + bit_blocks n s)
  pub moves : t.moves ≤ s.moves + 2 * bit_blocks n s + 1
  pub owes : Owes 1 s t

-- blocks were moved only if a byte of the text was taken
abbrev pub MovesAfterByte : RigState → RigState → ℕ → ℕ → Type 0
MovesAfterByte s t place later = (t.moves ≤ s.moves) ⊎ (place < later)

-- what a reader's stop is in a step
abbrev pub step_stop : AigStop → StepStop
step_stop (aig.Fault kind place) = stop.Fault kind place
step_stop aig.Read = stop.Read
step_stop (aig.Em fault) = stop.Em fault

-- why a line wasn't read
abbrev pub LineCause : Source → Source → RigState → RigState → StepStop → Type 0
LineCause old new s t (stop.Fault kind place) = Unit {0}
LineCause old new s t stop.Read = Rose old.faults new.faults
LineCause old new s t stop.Write = ⊥
LineCause old new s t (stop.Em fault) = Cause s t fault
