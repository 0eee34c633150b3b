-- A list of bits that is being written as they are read.
use Rattle.std.specs.Prelude.{◌≡◌, ℕ, ◌+◌, ◌*◌, ◌<◌, ◌≤◌, ◌^◌, Bool, List, [], ◌∷◌, ◌++◌, length, map, IsTrue, Result, Ok, Err}
use Rattle.em_io.specs.Feed.{Fed}
use Rattle.em_io.specs.declared.shelf.Shelf.{Ghosts}
use Rattle.em_record.specs.Count.{Rose}
use Rattle.em_space.specs.Ledger.{Runs, Stops}
use Rattle.em_space.specs.Rig.{RigState, Sound}
use Rattle.em_chain.specs.Session.{Wrote, writer_account}
use Rattle.em_chain.specs.Writer.{WriterHasFrame, writer_blocks}
use Rattle.em_chain.specs.declared.writer.Writer.{Writer}
use Rattle.aig_defs.specs.Items.{Reading, Reads, Fails, Item, and_then, ◌>>=◌}
use Rattle.aig_defs.specs.Stimulus.{stimulus_bit}
use Rattle.aig_text.specs.Draft.{IsPackedWriter}
use Rattle.aig_text.specs.Reads.{Advances}
use Rattle.aig_text.specs.Source.{Source, CanRead, left, source}
use Rattle.aig_edges.specs.declared.stop.StepStop.{StepStop}
use Rattle.aig_edges.specs.declared.stop.StepStop.TheVariants as stop
use Rattle.aig_sweep.specs.Line.{after_bits}
use Rattle.aig_forward.specs.Line.{MovesAfterByte, bit_blocks, bit_record}

-- The text, the rig and the list at one moment.
pub record ListMoment : Type 0 where
  pub text : Source
  pub rig : RigState
  pub list : Writer

abbrev pub list_moment : {H : Type 0} → Ghosts H → Fed → H → RigState → Writer → ListMoment
list_moment h feed shelf rig list = record { text = source h feed shelf; rig = rig; list = list }

-- an item, read at this moment
abbrev pub read_now : {A : Type 0} → Item A → ListMoment → Reading A
read_now item m = item m.text.feed.place (left m.text)

-- The text can be read, and n bits more can be written.
pub record CanAdd (n : ℕ) (m : ListMoment) : Type 0 where
  pub text : CanRead m.text
  pub sound : Sound m.rig
  pub list : IsPackedWriter m.rig m.list
  pub free : 0 < m.rig.pool.free
  pub room : m.list.count + n ≤ 2 ^ 43

-- These bits were written, and nothing else.
pub record Added (old new : ListMoment) (bits : List Bool) : Type 0 where
  pub runs : Runs new.list.blocks (writer_blocks old.rig old.list) (writer_blocks new.rig new.list)
      (writer_account old.list) (writer_account new.list) old.rig new.rig
  pub wrote : Wrote old.rig new.rig old.list new.list (map bit_record bits)
  pub grows : old.list.blocks ≤ new.list.blocks

-- Some bits were written, and at most n.
pub record AddedSome (n : ℕ) (old new : ListMoment) : Type 0 where
  pub bits : List Bool
  pub few : length bits ≤ n
  pub added : Added old new bits

-- why n bits weren't written
abbrev pub StopsAdding : ℕ → ListMoment → ListMoment → StepStop → Type 0
StopsAdding n old new (stop.Fault kind place) = AddedSome n old new
StopsAdding n old new stop.Read = AddedSome n old new × Rose old.text.faults new.text.faults
StopsAdding n old new stop.Write = ⊥
StopsAdding n old new (stop.Em fault) = Stops (bit_blocks (old.list.count + n) old.rig)
    (2 * bit_blocks (old.list.count + n) old.rig) 1 (writer_blocks old.rig old.list)
    (writer_account old.list) old.rig new.rig fault

-- a fault of the text is that of the reading
abbrev pub FaultIs : {A : Type 0} → StepStop → Reading A → Type 0
FaultIs (stop.Fault kind place) reading = reading ≡ Fails kind place
FaultIs stop.Read reading = Unit {0}
FaultIs stop.Write reading = Unit {0}
FaultIs (stop.Em fault) reading = Unit {0}

-- n bits were read, and written. Each took a byte of the text.
pub record AddsBits (tells : Bool) (n : ℕ) (item : Item (List Bool)) (old new : ListMoment)
    : Type 0 where
  pub bits : List Bool
  pub long : length bits ≡ n
  pub added : Added old new bits
  pub further : old.text.feed.place + n ≤ new.text.feed.place
  pub reads : IsTrue tells → read_now item old ≡ Reads bits new.text.feed.place (left new.text)

-- They weren't. Blocks were moved only if a byte was taken.
pub record FailsAdding (tells : Bool) (n : ℕ) (item : Item (List Bool)) (old new : ListMoment)
    (e : StepStop) : Type 0 where
  pub stops : StopsAdding n old new e
  pub idle : MovesAfterByte old.rig new.rig old.text.feed.place new.text.feed.place
  pub reads : IsTrue tells → FaultIs e (read_now item old)

abbrev pub AddsBy : Bool → ℕ → Item (List Bool) → ListMoment → ListMoment
    → Result (Unit {0}) StepStop → Type 0
AddsBy tells n item old new (Ok u) = AddsBits tells n item old new
AddsBy tells n item old new (Err e) = FailsAdding tells n item old new e

-- What a reader of n bits into a list promises.
pub record ReadsToList (tells : Bool) (n : ℕ) (item : Item (List Bool)) (old new : ListMoment)
    (result : Result (Unit {0}) StepStop) : Type 0 where
  pub advances : Advances tells old.text new.text
  pub frame : WriterHasFrame new.rig new.list
  pub by : AddsBy tells n item old new result

-- one bit, as a list
abbrev pub one_bit : Item (List Bool)
one_bit = stimulus_bit >>= λ bit. Reads (bit ∷ [])

-- Of an item the first n bits were read and written, each by a byte of the text; the rest of it is to
-- be read here. Blocks were moved only if a byte was taken.
pub record AddedFront (tells : Bool) (n : ℕ) (item rest : Item (List Bool)) (old now : ListMoment)
    : Type 0 where
  pub bits : List Bool
  pub long : length bits ≡ n
  pub added : Added old now bits
  pub advances : Advances tells old.text now.text
  pub further : old.text.feed.place + n ≤ now.text.feed.place
  pub idle : MovesAfterByte old.rig now.rig old.text.feed.place now.text.feed.place
  pub reads : IsTrue tells → read_now item old ≡ and_then (read_now rest now) (after_bits bits)
