-- What reading a list by a reader over it does: no block is taken, freed or changed.
use Rattle.std.specs.Prelude.{◌≡◌, ℕ, ◌+◌, ◌≤◌, [], false, Result, Ok, Err, IsTrue}
use Rattle.em_record.specs.declared.record.Record.{Record}
use Rattle.em_space.specs.Rig.{RigState, Goes, BlockCause}
use Rattle.em_space.specs.declared.fault.EmFault.{EmFault}
use Rattle.em_chain.specs.Reader.{IsReader, owed}
use Rattle.em_chain.specs.Reads.{Reads}
use Rattle.em_chain.specs.declared.reader.Reader.{Reader}

-- At most this many moves were made, and nothing but reading was done.
pub record Looks (most : ℕ) (s t : RigState) : Type 0 where
  pub goes : Goes [] s t
  pub used : t.used ≡ s.used
  pub most_is : t.most ≡ s.most
  pub moves : t.moves ≤ s.moves + most

-- Such calls, of which the last one gave up.
pub record StopsLooking (most : ℕ) (s t : RigState) (fault : EmFault) : Type 0 where
  pub looks : Looks most s t
  pub cause : BlockCause s t fault

-- The next record was read.
pub record LooksAt (s t : RigState) (r q : Reader) (x : Record) : Type 0 where
  pub reads : Reads s t r q x
  pub goes : Goes [] s t
  pub used : t.used ≡ s.used
  pub most : t.most ≡ s.most
  pub moves : t.moves + owed q ≤ s.moves + owed r

-- n records were read.
pub record LooksPast (s t : RigState) (r q : Reader) (n : ℕ) : Type 0 where
  pub is : IsReader t q
  pub goes : Goes [] s t
  pub used : t.used ≡ s.used
  pub most : t.most ≡ s.most
  pub moves : t.moves + owed q ≤ s.moves + owed r
  pub taking : q.taking ≡ false
  pub left : q.count + n ≡ r.count

-- what reading the next record did
abbrev pub LooksNext : RigState → RigState → Reader → Reader → Result Record EmFault → Type 0
LooksNext s t r q (Ok x) = LooksAt s t r q x
LooksNext s t r q (Err fault) = StopsLooking (owed r) s t fault

-- what reading some records did, of which `P` holds with the answer
abbrev pub LooksAll : {A : Type 0} → ℕ → RigState → RigState → (A → Type 0) → Result A EmFault
    → Type 0
LooksAll most s t P (Ok x) = Looks most s t × (IsTrue s.device.told → P x)
LooksAll most s t P (Err fault) = StopsLooking most s t fault
