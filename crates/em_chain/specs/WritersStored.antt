-- What is stored of a member of a group, and what stands in its frame alone.
use Rattle.std.specs.Prelude.{◌≡◌, ℕ, ◌+◌, ◌<◌, min, List, [], ◌++◌, IsTrue}
use Rattle.std.specs.List.{slice_range}
use Rattle.std.proofs.Common.{inl, inr}
use Rattle.em_record.specs.declared.record.Record.{Record}
use Rattle.em_space.specs.Rig.{RigState, Sound}
use Rattle.em_chain.specs.Chain.{chain_blocks, chain_items, empty_chain}
use Rattle.em_chain.specs.View.{IsView, stored_part}
use Rattle.em_chain.specs.Writers.{Member, IsGroup, member_blocks, member_items}
use Rattle.em_chain.specs.declared.chain.Chain.{Chain}
use Rattle.em_chain.specs.declared.writers.Writers.{Writers}

-- These words lead to what is stored of a member: to all of a chain that was added, and to all blocks
-- but the last after an append.
abbrev pub IsStoredPart : Member → Chain → Type 0
IsStoredPart (inl c) d = d ≡ c
IsStoredPart (inr w) d = (w.blocks < 2 → d ≡ empty_chain) × (1 < w.blocks → d ≡ stored_part w)

-- These are the records that come after the stored ones: those of the last block, which stands in the
-- frame, without those that are passed over.
abbrev pub IsPendingPart : Member → List Record → Type 0
IsPendingPart (inl c) xs = xs ≡ []
IsPendingPart (inr w) xs =
    (w.blocks < 2 → xs ≡ slice_range w.frame (min w.skip w.fill + 1) (w.fill + 1))
    × (1 < w.blocks → xs ≡ slice_range w.frame 1 (w.fill + 1))

-- A member is what is stored of it, and these records after that.
pub record HasParts (s : RigState) (x : Member) (c : Chain) (xs : List Record) : Type 0 where
  pub view : IsView s c
  pub items : IsTrue s.device.told → member_items s x ≡ chain_items s c ++ xs
  pub last : List ℕ
  pub blocks : IsTrue s.device.told → member_blocks s x ≡ chain_blocks s c ++ last

-- The group is one of some rig.
pub record InSomeRig (g : Writers) : Type 0 where
  pub state : RigState
  pub sound : Sound state
  pub is : IsGroup state g
