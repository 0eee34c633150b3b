-- What the reader of a circuit gives, and what it takes.
use Rattle.std.specs.Prelude.{◌≡◌, ◌≤◌, ◌<◌, ◌+◌, ◌*◌, ℕ, Bool, max, [], Result, Ok, Err, IsTrue, IsOk}
use Rattle.em_record.specs.Count.{Rose}
use Rattle.em_space.specs.Ledger.{Session}
use Rattle.em_space.specs.Rig.{RigState, IfFull, Owes}
use Rattle.em_space.specs.declared.fault.EmFault.{EmFault}
use Rattle.em_chain.specs.Chain.{IsChain, IsPacked, chain_items, payload_in}
use Rattle.em_chain.specs.Counts.{ceiling}
use Rattle.em_chain.specs.declared.chain.Chain.{Chain}
use Rattle.aig_defs.specs.declared.form.Form.{Form}
use Rattle.aig_defs.specs.Begun.{circuit_size, size_read}
use Rattle.aig_defs.specs.Chains.{defs_of, gates_of, uses_of, resets_of}
use Rattle.aig_defs.specs.Circuit.{Circuit, IsCircuit, IsHeader, columns}
use Rattle.aig_defs.specs.Items.{Reads}
use Rattle.aig_defs.specs.Order.{after_magic}
use Rattle.aig_defs.specs.Sorted.{Climbs}
use Rattle.aig_defs.specs.Straight.{AreStraight}
use Rattle.aig_text.specs.Draft.{four_blocks}
use Rattle.aig_text.specs.Reads.{StopsAs}
use Rattle.aig_text.specs.Source.{Source, left}
use Rattle.aig_text.specs.declared.parts.Parts.{Parts}
use Rattle.aig_text.specs.declared.stop.AigStop.{AigStop}
use Rattle.aig_text.specs.declared.stop.AigStop.TheVariants as stop

-- P of the fault, if a call on the rig gave up
abbrev pub IfEmStop : AigStop → (EmFault → Type 0) → Type 0
IfEmStop (stop.Fault kind place) P = Unit {0}
IfEmStop stop.Read P = Unit {0}
IfEmStop (stop.Em fault) P = P fault

abbrev pub IfEm : {A : Type 0} → Result A AigStop → (EmFault → Type 0) → Type 0
IfEm (Ok value) P = Unit {0}
IfEm (Err e) P = IfEmStop e P

-- A packed chain of n records.
pub record IsPackedOf (s : RigState) (n : ℕ) (c : Chain) : Type 0 where
  pub is : IsChain s c
  pub packed : IsTrue s.device.told → IsPacked s c
  pub count_is : c.count ≡ n
  pub blocks_is : c.blocks ≡ ceiling n (payload_in s)

-- The chains are those of this circuit.
pub record ArePartsOf (s : RigState) (p : Parts) (c : Circuit) : Type 0 where
  pub header : c.header ≡ p.header
  pub is : IsCircuit c
  pub defs : chain_items s p.defs ≡ defs_of c
  pub gates : chain_items s p.gates ≡ gates_of c
  pub uses : chain_items s p.uses ≡ uses_of c
  pub resets : chain_items s p.resets ≡ resets_of c

-- They are those of some circuit.
pub record OfSomeCircuit (s : RigState) (p : Parts) : Type 0 where
  pub circuit : Circuit
  pub are : ArePartsOf s p circuit

-- if the device tells, and this bit says so, the variable of each record is above the one before it
abbrev pub ClimbIfSaid : Bool → RigState → Chain → Type 0
ClimbIfSaid said s c = IsTrue s.device.told → IsTrue said → Climbs (chain_items s c)

-- likewise the definitions are 1, 2, 3 and so on, and each gate is above its operands
abbrev pub StraightIfSaid : Bool → RigState → Chain → Chain → Type 0
StraightIfSaid said s defs gates = IsTrue s.device.told → IsTrue said
    → AreStraight (chain_items s defs) (chain_items s gates)

-- Four packed chains, as long as the header says, whose blocks weren't in use and are apart. If
-- the device tells, they are those of a circuit, even if the shelf doesn't tell, whose definitions climb or which
-- is straight if the parts say so.
pub record GivesParts (old new : RigState) (p : Parts) : Type 0 where
  pub header : IsHeader p.header
  pub defs : IsPackedOf new (p.header.inputs + p.header.latches + p.header.gates) p.defs
  pub gates : IsPackedOf new p.header.gates p.gates
  pub uses : IsPackedOf new (p.header.latches + columns p.header) p.uses
  pub resets : IsPackedOf new p.header.latches p.resets
  pub blocks : Session [] old new (four_blocks new p.defs p.gates p.uses p.resets)
  pub used : new.used
      ≡ old.used + (p.defs.blocks + p.gates.blocks + p.uses.blocks + p.resets.blocks)
  pub stands : IsTrue new.device.told → OfSomeCircuit new p
  pub climb : ClimbIfSaid p.climbs new p.defs
  pub straight : StraightIfSaid p.straight new p.defs p.gates

-- the size of what was read after the magic, if `given` bytes of the text were given
abbrev pub size_given : Form → Source → ℕ → ℕ
size_given form text given = size_read form given text.feed.place (left text)

-- The text spells a circuit. The parts have its header, their chains its records; those of definitions,
-- gates and uses are as many as its size says.
pub record StandsFor (form : Form) (old new : Source) (s : RigState) (p : Parts) : Type 0 where
  pub circuit : Circuit
  pub reads : after_magic form old.feed.place (left old)
      ≡ Reads circuit new.feed.place (left new)
  pub header : circuit.header ≡ p.header
  pub defs : IsTrue s.device.told → chain_items s p.defs ≡ defs_of circuit
  pub gates : IsTrue s.device.told → chain_items s p.gates ≡ gates_of circuit
  pub uses : IsTrue s.device.told → chain_items s p.uses ≡ uses_of circuit
  pub resets : IsTrue s.device.told → chain_items s p.resets ≡ resets_of circuit
  pub counted : (given : ℕ) → new.feed.place ≤ given
      → size_given form old given ≡ p.defs.count + p.gates.count + p.uses.count

-- the answer is a circuit's parts, or the fault of the text
abbrev pub GivesCircuit : Form → Source → Source → RigState → Result Parts AigStop → Type 0
GivesCircuit form old new s (Ok p) = StandsFor form old new s p
GivesCircuit form old new s (Err e) = StopsAs e (after_magic form old.feed.place (left old))

-- What reading a circuit of this size takes at most.
pub record TakesAtMost (size : ℕ) (old new : RigState) : Type 0 where
  pub moves : new.moves ≤ old.moves + 4 * (ceiling size (payload_in old) + 6)
  pub used : new.used ≤ old.used + (ceiling (2 * size) (payload_in old) + 3)
  pub most : new.most ≤ max old.most (old.used + (ceiling (2 * size) (payload_in old) + 3))

-- free blocks that are enough for a circuit of this size
abbrev pub enough_for : RigState → ℕ → ℕ
enough_for s size = ceiling (2 * size) (payload_in s) + 6

-- it was full only if fewer blocks were free than are enough for a circuit of this size
abbrev pub FullOnlyIf : {A : Type 0} → ℕ → RigState → Result A AigStop → Type 0
FullOnlyIf size s result = IfEm result
    (λ fault. IfFull fault (λ _. s.blocks < s.used + enough_for s size))

-- a text that spells a circuit is read if there is room, and nothing fails
abbrev pub CompletesReading : Form → Source → Source → RigState → RigState
    → Result Parts AigStop → Type 0
CompletesReading form old new s t result = IsTrue s.device.told
    → (Rose s.device.faults t.device.faults → ⊥) → (Rose old.faults new.faults → ⊥)
    → (c : Circuit) (q : ℕ) → after_magic form old.feed.place (left old) ≡ Reads c q []
    → s.used + enough_for s (circuit_size c.header) ≤ s.blocks → IsOk result

-- The blocks in use rose by at most the moves made, after a stop by at most four more. Or the
-- count of moves stands at its end.
abbrev pub OwesAfter : {A : Type 0} → RigState → RigState → Result A AigStop → Type 0
OwesAfter old new (Ok value) = Owes 0 old new
OwesAfter old new (Err e) = Owes 4 old new
