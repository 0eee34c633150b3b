-- A circuit's text, read from its first byte in the form that its magic names.
use Rattle.std.specs.Prelude.{◌≡◌, ◌≤◌, ℕ, Bool, List, [], Option, Result, Ok, Err, IsTrue, IfOk}
use Rattle.em_record.specs.Count.{Rose}
use Rattle.em_space.specs.Rig.{Cause, Goes, RigState}
use Rattle.aig_defs.specs.Begun.{circuit_size, text_size}
use Rattle.aig_defs.specs.Circuit.{Circuit}
use Rattle.aig_defs.specs.Items.{Reads}
use Rattle.aig_defs.specs.TextFault.{either_text}
use Rattle.aig_text.specs.Ascii.{ArePartsOf, GivesParts, IfEm, OwesAfter, TakesAtMost}
use Rattle.aig_text.specs.Reads.{Advances, OnShelfFault, StopsAs}
use Rattle.aig_text.specs.Source.{Source, left}
use Rattle.aig_text.specs.declared.parts.Parts.{Parts}
use Rattle.aig_text.specs.declared.stop.AigStop.{AigStop}

-- The whole text was read, and spells a circuit, which has the parts' header. If the device tells,
-- they are its parts. What was read has the circuit's size.
pub record SpellsEither (u : Option ℕ) (text : List ℕ) (new : Source) (s : RigState) (p : Parts) : Type 0 where
  pub circuit : Circuit
  pub reads : either_text u 0 text ≡ Reads circuit new.feed.place []
  pub end : left new ≡ []
  pub header : circuit.header ≡ p.header
  pub are : IsTrue s.device.told → ArePartsOf s p circuit
  pub size : (given : ℕ) → new.feed.place ≤ given
      → text_size u given text ≡ circuit_size p.header

-- the answer is the parts of the circuit that the text spells, or the fault with which it breaks
abbrev pub GivesEither : Option ℕ → List ℕ → Source → RigState → Result Parts AigStop → Type 0
GivesEither u text new s (Ok p) = SpellsEither u text new s p
GivesEither u text new s (Err e) = StopsAs e (either_text u 0 text)

-- What reading a circuit from its first byte promises: the parts are apart, and no other block was
-- changed; the answer is that of the text, which after Ok was read to its end; a failure has its
-- cause; and by the size of what was read few blocks were taken, all but four of which were stored.
pub record ReadsEither (tells : Bool) (u : Option ℕ) (old new : Source) (s t : RigState)
    (result : Result Parts AigStop) : Type 0 where
  pub goes : Goes [] s t
  pub parts : IfOk result (GivesParts s t)
  pub gives : IsTrue tells → GivesEither u (left old) new t result
  pub feed : Advances tells old new
  pub read : OnShelfFault result (Rose old.faults new.faults)
  pub cause : IfEm result (Cause s t)
  pub takes : IsTrue tells → (given : ℕ) → new.feed.place ≤ given
      → TakesAtMost (text_size u given (left old)) s t
  pub owes : OwesAfter s t result
