-- The lines of a group, which are read bit by bit and pushed word by word.
use Rattle.std.specs.Prelude.{◌≡◌, ◌<◌, ◌≤◌, ◌+◌, ◌-◌, ◌*◌, ℕ, Bool, true, false, List, [], ◌++◌, length, Option, Some, None, IsTrue, Result, Ok, Err}
use Rattle.em_record.specs.Count.{Rose}
use Rattle.em_record.specs.declared.record.Record.{Record}
use Rattle.em_space.specs.Rig.{RigState}
use Rattle.aig_defs.specs.Items.{Item, Reading, Reads, Fails, and_then, times}
use Rattle.aig_defs.specs.Stimulus.{stimulus_bit, stimulus_line}
use Rattle.aig_text.specs.Reads.{Advances, ReadCause, StopsAs}
use Rattle.aig_text.specs.Source.{Source, left}
use Rattle.aig_text.specs.declared.stop.AigStop.{AigStop}
use Rattle.aig_text.specs.declared.stop.AigStop.TheVariants as aig
use Rattle.aig_sweep.specs.Line.{after_bits}
use Rattle.aig_sweep.specs.QueueState.{QueueState}
use Rattle.aig_words.specs.Lines.{AllLong, line_words, put_line, rows_records, tiles}
use Rattle.aig_words.specs.Words.{word_of}
use Rattle.aig_wide.specs.Calls.{Calls, CallsAfterByte, Pushed, Refused, Rests}

-- n bits of inputs
abbrev pub bits_item : ℕ → Item (List Bool)
bits_item n = times n 0 (λ j. stimulus_bit)

-- an item, read at this moment
abbrev pub read_at : {A : Type 0} → Item A → Source → Reading A
read_at item s = item s.feed.place (left s)

-- These bits were read, and this is their word.
pub record ReadsBits (n : ℕ) (old new : Source) (word : ℕ) : Type 0 where
  pub bits : List Bool
  pub long : length bits ≡ n
  pub is : word ≡ word_of bits
  pub reads : read_at (bits_item n) old ≡ Reads bits new.feed.place (left new)

-- what reading a word of n bits gave
abbrev pub ReadsWordBy : Bool → ℕ → Source → Source → Result ℕ AigStop → Type 0
ReadsWordBy tells n old new (Ok word) = IsTrue tells → ReadsBits n old new word
ReadsWordBy tells n old new (Err e) =
    (IsTrue tells → StopsAs e (read_at (bits_item n) old)) × ReadCause old new e

-- Some bits of a word were read.
pub record ReadsFront (n count : ℕ) (old now : Source) (word : ℕ) : Type 0 where
  pub bits : List Bool
  pub long : length bits ≡ count
  pub is : word ≡ word_of bits
  pub reads : read_at (bits_item n) old ≡ and_then (read_at (bits_item (n - count)) now) (after_bits bits)

pub record BitsFront (tells : Bool) (n count : ℕ) (old now : Source) (word : ℕ) : Type 0 where
  pub advances : Advances tells old now
  pub reads : IsTrue tells → ReadsFront n count old now word

-- A word of a line was read and pushed.
pub record TileRead (tells : Bool) (bits place number : ℕ) (old new : Source) (q p : QueueState) : Type 0
  where
    pub word : ℕ
    pub pushed : Pushed (record { a = place; b = number; c = word; d = 0 }) q p
    pub reads : IsTrue tells → ReadsBits bits old new word

-- why it wasn't: the queue is as it was, but after a call that was refused
abbrev pub TileStops : Source → Source → QueueState → QueueState → AigStop → Type 0
TileStops old new q p (aig.Fault kind place) = p ≡ q
TileStops old new q p aig.Read = (p ≡ q) × Rose old.faults new.faults
TileStops old new q p (aig.Em fault) = Refused 1 q p fault

abbrev pub ReadsTileBy : Bool → ℕ → ℕ → ℕ → Source → Source → QueueState → QueueState
    → Result (Unit {0}) AigStop → Type 0
ReadsTileBy tells bits place number old new q p (Ok x) = TileRead tells bits place number old new q p
ReadsTileBy tells bits place number old new q p (Err e) =
    TileStops old new q p e × (IsTrue tells → StopsAs e (read_at (bits_item bits) old))

-- P, unless a call on the rig gave up
abbrev pub UnlessEm : {A : Type 0} → Result A AigStop → Type 0 → Type 0
UnlessEm (Ok x) P = P
UnlessEm (Err (aig.Fault kind place)) P = P
UnlessEm (Err aig.Read) P = P
UnlessEm (Err (aig.Em fault)) P = Unit {0}

-- The words of some lines stand in the queue, a row for each tile.
pub record StandsInRows (lines n : ℕ) (items : List Record) : Type 0 where
  pub rows : List (List ℕ)
  pub wide : length rows ≡ n
  pub long : AllLong lines rows
  pub is : items ≡ rows_records 0 rows

-- These words were pushed, the next one of each row.
pub record PutsWords (lines n : ℕ) (words : List ℕ) (q p : QueueState) : Type 0 where
  pub calls : Calls (length words) q p
  pub len : p.counts.len ≡ q.counts.len + length words
  pub items : IsTrue q.rig.device.told → (rows : List (List ℕ)) → length rows ≡ n → AllLong lines rows
      → q.items ≡ rows_records 0 rows → p.items ≡ rows_records 0 (put_line words rows)

-- Some bits of a line were read, and these are their words.
pub record FrontOfLine (inputs place : ℕ) (old now : Source) (words : List ℕ) : Type 0 where
  pub bits : List Bool
  pub long : length bits + (inputs - 64 * place) ≡ inputs
  pub is : words ≡ line_words place bits
  pub reads : read_at (bits_item inputs) old
      ≡ and_then (read_at (bits_item (inputs - 64 * place)) now) (after_bits bits)

-- The first tiles of a line were read and pushed, and here come its other bits.
pub record TilesFront (tells : Bool) (inputs lines place : ℕ) (old now : Source) (q p : QueueState) : Type 0
  where
    pub words : List ℕ
    pub long : length words ≡ place
    pub puts : PutsWords lines (tiles inputs) words q p
    pub advances : Advances tells old now
    pub reads : IsTrue tells → FrontOfLine inputs place old now words

-- These are the bits of a line, and its words.
pub record ReadsLine (inputs : ℕ) (old new : Source) (words : List ℕ) : Type 0 where
  pub bits : List Bool
  pub long : length bits ≡ inputs
  pub is : words ≡ line_words (tiles inputs) bits
  pub reads : read_at (bits_item inputs) old ≡ Reads bits new.feed.place (left new)

-- All words of a line were read and pushed.
pub record TilesRead (tells : Bool) (inputs lines : ℕ) (old new : Source) (q p : QueueState) : Type 0
  where
    pub words : List ℕ
    pub long : length words ≡ tiles inputs
    pub puts : PutsWords lines (tiles inputs) words q p
    pub reads : IsTrue tells → ReadsLine inputs old new words

-- Fewer words were pushed.
pub record PutsPart (inputs lines : ℕ) (q p : QueueState) : Type 0 where
  pub words : List ℕ
  pub few : length words ≤ tiles inputs
  pub puts : PutsWords lines (tiles inputs) words q p

abbrev pub LineStops : ℕ → ℕ → Source → Source → QueueState → QueueState → AigStop → Type 0
LineStops inputs lines old new q p (aig.Fault kind place) = PutsPart inputs lines q p
LineStops inputs lines old new q p aig.Read = PutsPart inputs lines q p × Rose old.faults new.faults
LineStops inputs lines old new q p (aig.Em fault) = Refused (tiles inputs) q p fault

abbrev pub ReadsTilesBy : Bool → ℕ → ℕ → Source → Source → QueueState → QueueState
    → Result (Unit {0}) AigStop → Type 0
ReadsTilesBy tells inputs lines old new q p (Ok x) = TilesRead tells inputs lines old new q p
ReadsTilesBy tells inputs lines old new q p (Err e) =
    LineStops inputs lines old new q p e × (IsTrue tells → StopsAs e (read_at (bits_item inputs) old))

-- A line was read whole: these are its bits, and its words.
pub record ReadsWhole (inputs : ℕ) (old new : Source) (words : List ℕ) : Type 0 where
  pub bits : List Bool
  pub long : length bits ≡ inputs
  pub is : words ≡ line_words (tiles inputs) bits
  pub some : left old ≡ [] → ⊥
  pub reads : read_at (stimulus_line inputs) old ≡ Reads bits new.feed.place (left new)

pub record LineRead (tells : Bool) (inputs lines : ℕ) (old new : Source) (q p : QueueState) : Type 0
  where
    pub words : List ℕ
    pub long : length words ≡ tiles inputs
    pub puts : PutsWords lines (tiles inputs) words q p
    pub reads : IsTrue tells → ReadsWhole inputs old new words

-- Nothing was left of the stimulus, and nothing was done.
pub record LineEnds (tells : Bool) (old new : Source) (q p : QueueState) : Type 0 where
  pub same : p ≡ q
  pub place : new.feed.place ≡ old.feed.place
  pub none_left : IsTrue tells → left old ≡ []
  pub left_is : IsTrue tells → left new ≡ []

-- a line begins here, and has this fault
abbrev pub FailsHere : ℕ → Source → AigStop → Type 0
FailsHere inputs old (aig.Fault kind place) =
    (left old ≡ [] → ⊥) × (read_at (stimulus_line inputs) old ≡ Fails kind place)
FailsHere inputs old aig.Read = Unit {0}
FailsHere inputs old (aig.Em fault) = Unit {0}

-- what reading a line gave whose first byte stands ahead
abbrev pub ReadsRestBy : Bool → ℕ → ℕ → Source → Source → QueueState → QueueState
    → Result (Unit {0}) AigStop → Type 0
ReadsRestBy tells inputs lines old new q p (Ok x) = LineRead tells inputs lines old new q p
ReadsRestBy tells inputs lines old new q p (Err e) =
    LineStops inputs lines old new q p e × (IsTrue tells → FailsHere inputs old e)

-- what reading a line gave: true, or false if nothing was left
abbrev pub ReadsLineBy : Bool → ℕ → ℕ → Source → Source → QueueState → QueueState
    → Result Bool AigStop → Type 0
ReadsLineBy tells inputs lines old new q p (Ok true) = LineRead tells inputs lines old new q p
ReadsLineBy tells inputs lines old new q p (Ok false) = LineEnds tells old new q p
ReadsLineBy tells inputs lines old new q p (Err e) =
    LineStops inputs lines old new q p e × (IsTrue tells → FailsHere inputs old e)

-- what it did: a line takes a byte, and at the stimulus's end nothing was done
abbrev pub BeginsLine : {Q : Type 0} → RigState → RigState → Q → Q → ℕ → ℕ → Result Bool AigStop → Type 0
BeginsLine s t x y place later (Ok true) = place < later
BeginsLine s t x y place later (Ok false) = Rests s t x y place later
BeginsLine s t x y place later (Err e) = CallsAfterByte s t x y place later

-- The text was looked at, and is the same.
pub record Looked (tells : Bool) (old new : Source) : Type 0 where
  pub place : new.feed.place ≡ old.feed.place
  pub left_is : IsTrue tells → left new ≡ left old

-- the first byte that is left, or none if nothing is left
abbrev pub LooksBy : Bool → Source → Source → Result (Option ℕ) AigStop → Type 0
LooksBy tells old new (Ok None) = Looked tells old new × (IsTrue tells → left old ≡ [])
LooksBy tells old new (Ok (Some byte)) = Looked tells old new × (IsTrue tells → left old ≡ [] → ⊥)
LooksBy tells old new (Err aig.Read) = Rose old.faults new.faults
LooksBy tells old new (Err (aig.Fault kind place)) = ⊥
LooksBy tells old new (Err (aig.Em fault)) = ⊥
