-- Points that are read into an area.
use Rattle.std.specs.Prelude.{◌≡◌, ℕ, ◌+◌, ◌*◌, List, [], ◌∷◌, length, set, take, IsTrue, Result, Ok, Err}
use Rattle.em_record.specs.declared.record.Record.{Record}
use Rattle.em_space.specs.Ledger.{Runs, Stops, moved}
use Rattle.em_space.specs.Rig.{RigState}
use Rattle.em_space.specs.declared.fault.EmFault.{EmFault}
use Rattle.em_chain.specs.Chain.{chain_blocks, chain_items}
use Rattle.em_chain.specs.Reader.{reader_blocks}
use Rattle.em_chain.specs.Session.{Took}
use Rattle.em_chain.specs.declared.chain.Chain.{Chain}
use Rattle.em_chain.specs.declared.reader.Reader.{Reader}
use Rattle.em_segment_parts.specs.Accounts.{reader_account, stored}

-- These records were read, by a reader of either kind.
pub record ReadsSome (s t : RigState) (r q : Reader) (xs : List Record) : Type 0 where
  pub took : Took s t r q xs
  pub runs : Runs (reader_account r).blocks (reader_blocks s r) (reader_blocks t q) (reader_account r)
      (reader_account q) s t

-- Such a read gave up.
pub record StopsSome (s t : RigState) (r : Reader) (fault : EmFault) : Type 0 where
  pub stops : Stops (reader_account r).blocks 0 0 (reader_blocks s r) (reader_account r) s t fault

-- A record was read, and put into an area at a place.
pub record PutPoint (place : ℕ) (s t : RigState) (r q : Reader) (old new : List Record) : Type 0 where
  pub point : Record
  pub reads : ReadsSome s t r q (point ∷ [])
  pub put : new ≡ set old place point

-- what that did, by the result
abbrev pub PutsTo : {T : Type 0} → ℕ → RigState → RigState → Reader → Reader → List Record → List Record
    → Result T EmFault → Type 0
PutsTo place s t r q old new (Ok x) = PutPoint place s t r q old new
PutsTo place s t r q old new (Err fault) = StopsSome s t r fault

-- The first n places of an area have the records that were read.
pub record ReadsLoad (n : ℕ) (s t : RigState) (r q : Reader) (old new : List Record) : Type 0 where
  pub reads : ReadsSome s t r q (take n new)
  pub len : length new ≡ length old
  pub left : q.count + n ≡ r.count

-- the same by the result
abbrev pub ReadsLoadTo : {T : Type 0} → ℕ → RigState → RigState → Reader → Reader → List Record
    → List Record → Result T EmFault → Type 0
ReadsLoadTo n s t r q old new (Ok x) = ReadsLoad n s t r q old new
ReadsLoadTo n s t r q old new (Err fault) = StopsSome s t r fault

-- All records of a chain stand in an area, and the chain's blocks were released.
pub record TakesLoad (s t : RigState) (c : Chain) (area : List Record) : Type 0 where
  pub items : IsTrue s.device.told → chain_items s c ≡ take c.count area
  pub runs : Runs c.blocks (chain_blocks s c) [] (stored c.blocks) (moved (2 * c.blocks) (stored 0)) s t

-- the same by the result
abbrev pub TakesLoadTo : {T : Type 0} → RigState → RigState → Chain → List Record → Result T EmFault
    → Type 0
TakesLoadTo s t c area (Ok x) = TakesLoad s t c area
TakesLoadTo s t c area (Err fault) =
    Stops c.blocks (2 * c.blocks) 0 (chain_blocks s c) (stored c.blocks) s t fault
