-- The first fault of a circuit's text: in words, and computed.
use Rattle.std.specs.Prelude.{ℕ, List, Option, Some}
use Rattle.aig_defs.specs.declared.fault.AigKind.{AigKind}
use Rattle.aig_defs.specs.declared.form.Form.{Form}
use Rattle.aig_defs.specs.Circuit.{Circuit}
use Rattle.aig_defs.specs.Items.{Reading, Reads, Fails, Item, ◌>>=◌}
use Rattle.aig_defs.specs.Order.{magic, after_magic, circuit_text, Spells, Breaks}
use Rattle.aig_defs.specs.Faults.{IsFaultOf, IsFaultless, circuit_fault}

-- the first fault of a text: it breaks so, or it spells a circuit whose first fault this is. u is the value for
-- uninitialised latches, if one is given.
pub data IsFaultOfText (u : Option ℕ) (x : List ℕ) (kind : AigKind) (place : ℕ) : Type 0 where
  broken : Breaks u x kind place → IsFaultOfText u x kind place
  spelled :
      (form : Form) (c : Circuit) → Spells u form x c → IsFaultOf c kind place
      → IsFaultOfText u x kind place

-- a text with no fault: it spells a circuit that has none
pub record IsFaultlessText (u : Option ℕ) (x : List ℕ) : Type 0 where
  pub form : Form
  pub circuit : Circuit
  pub spelled : Spells u form x circuit
  pub faultless : IsFaultless circuit

-- the fault of a reading, else the first fault of the circuit that was read
abbrev pub reading_fault : Reading (Form × Circuit) → Option (AigKind × ℕ)
reading_fault (Reads (form, c) p x) = circuit_fault c
reading_fault (Fails kind place) = Some (kind, place)

-- the first fault of a text, or none
abbrev pub text_fault : Option ℕ → List ℕ → Option (AigKind × ℕ)
text_fault u x = reading_fault (circuit_text u 0 x)

-- the circuit of a whole text, in either form
abbrev pub either_text : Option ℕ → Item Circuit
either_text u = magic u >>= after_magic
