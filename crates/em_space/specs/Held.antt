-- Lists of block numbers: what a value that keeps records on the device holds.
use Rattle.std.specs.Prelude.{ℕ, List, [], ◌∷◌, map, IsTrue}
use Rattle.em_record.specs.declared.record.Record.{Record}
use Rattle.em_frames.specs.Device.{block_at}
use Rattle.em_space.specs.Free.{Off, AreDistinct}
use Rattle.em_space.specs.Rig.{RigState, InUse}

-- the lists have no block in common
abbrev pub Apart : List ℕ → List ℕ → Type 0
Apart [] others = Unit {0}
Apart (k ∷ ks) others = Off k others × Apart ks others

-- each of these is in use
abbrev pub AllInUse : RigState → List ℕ → Type 0
AllInUse s [] = Unit {0}
AllInUse s (k ∷ ks) = InUse s k × AllInUse s ks

-- none of these is in use
abbrev pub NoneInUse : RigState → List ℕ → Type 0
NoneInUse s [] = Unit {0}
NoneInUse s (k ∷ ks) = (InUse s k → ⊥) × NoneInUse s ks

-- the contents of these blocks
abbrev pub contents_of : RigState → List ℕ → List (List Record)
contents_of s ks = map (λ k. block_at s.device k) ks

-- A value holds these blocks: all are in use, and if the device tells, none stands there twice.
pub record Holds (s : RigState) (ks : List ℕ) : Type 0 where
  pub in_use : AllInUse s ks
  pub distinct : IsTrue s.device.told → AreDistinct ks

-- These blocks are of a list that was held, or weren't in use.
pub record Within (s : RigState) (held ks : List ℕ) : Type 0 where
  pub off : IsTrue s.device.told → (j : ℕ) → InUse s j → Off j held → Off j ks
