-- What a reader answers: what its item says of the text, unless the shelf fails first.
use Rattle.std.specs.Prelude.{◌≡◌, ◌≤◌, ◌^◌, Bool, ℕ, Result, Ok, Err, IsTrue}
use Rattle.em_record.specs.Count.{Rose}
use Rattle.aig_defs.specs.declared.fault.AigKind.{AigKind}
use Rattle.aig_defs.specs.Items.{Reading, Reads, Fails, Item}
use Rattle.aig_text.specs.Source.{Source, left, Steady}
use Rattle.aig_text.specs.declared.stop.AigStop.{AigStop}
use Rattle.aig_text.specs.declared.stop.AigStop.TheVariants as stop

-- if the reader stopped at a fault of the text, it is that of the reading
abbrev pub StopsAs : {A : Type 0} → AigStop → Reading A → Type 0
StopsAs (stop.Fault kind place) reading = reading ≡ Fails kind place
StopsAs stop.Read reading = Unit {0}
StopsAs (stop.Em fault) reading = Unit {0}

-- the answer is what was read: its value, with the text after it, or its fault
abbrev pub AnswersAs : {A : Type 0} → Result A AigStop → Reading A → Source → Type 0
AnswersAs (Ok value) reading now = reading ≡ Reads value now.feed.place (left now)
AnswersAs (Err e) reading now = StopsAs e reading

-- P, if the answer is that the shelf failed
abbrev pub OnShelfStop : AigStop → Type 0 → Type 0
OnShelfStop (stop.Fault kind place) P = Unit {0}
OnShelfStop stop.Read P = P
OnShelfStop (stop.Em fault) P = Unit {0}

abbrev pub OnShelfFault : {A : Type 0} → Result A AigStop → Type 0 → Type 0
OnShelfFault (Ok value) P = Unit {0}
OnShelfFault (Err e) P = OnShelfStop e P

-- P of the kind and the place, if the answer is a fault of the text
abbrev pub IfFaultStop : AigStop → (AigKind → ℕ → Type 0) → Type 0
IfFaultStop (stop.Fault kind place) P = P kind place
IfFaultStop stop.Read P = Unit {0}
IfFaultStop (stop.Em fault) P = Unit {0}

abbrev pub IfFault : {A : Type 0} → Result A AigStop → (AigKind → ℕ → Type 0) → Type 0
IfFault (Ok value) P = Unit {0}
IfFault (Err e) P = IfFaultStop e P

-- A reader that touches no device stopped. If the shelf failed, its count of faults rose.
abbrev pub ReadCause : Source → Source → AigStop → Type 0
ReadCause old new (stop.Fault kind place) = Unit {0}
ReadCause old new stop.Read = Rose old.faults new.faults
ReadCause old new (stop.Em fault) = ⊥

abbrev pub HasReadCause : {A : Type 0} → Source → Source → Result A AigStop → Type 0
HasReadCause old new (Ok value) = Unit {0}
HasReadCause old new (Err e) = ReadCause old new e

-- The text was read on, up to the offset 2^50 at most, and the shelf's count of faults didn't fall.
pub record Advances (tells : Bool) (old new : Source) : Type 0 where
  pub steady : Steady tells old new
  pub place : new.feed.place ≤ 2 ^ 50
  pub later : old.faults ≤ new.faults

-- What every reader of an item promises: the item's value or its fault, and that it did nothing but
-- read.
pub record ReadsItem {A : Type 0} (tells : Bool) (item : Item A) (old new : Source)
    (result : Result A AigStop) : Type 0 where
  pub gives : IsTrue tells → AnswersAs result (item old.feed.place (left old)) new
  pub advances : Advances tells old new
  pub cause : HasReadCause old new result
