-- What stands on a shelf.
use Rattle.std.specs.Prelude.{◌≡◌, ◌≢◌, ◌≤◌, Bool, IfOk, List, [], ◌++◌, ℕ, Option, Result, false, true}
use Rattle.em_io.specs.declared.shelf.Slot.{Slot}
use Rattle.em_io.specs.declared.shelf.Slot.TheVariants.{First, Second}

-- One slot: whether it was opened, whether with Ok, whether its text is missing for good, and what
-- is left to read. The last two say nothing on a shelf that doesn't tell its texts.
pub record SlotState : Type 0 where
  pub opened : Bool
  pub ready : Bool
  pub lost : Bool
  pub left : List ℕ

-- the text that each slot has under each name, and the two slots
pub record Stand : Type 0 where
  pub text : Slot → List ℕ → Option (List ℕ)
  pub slot : Slot → SlotState

-- a call leaves the texts and the other slot
pub record Leaves (slot : Slot) (old new : Stand) : Type 0 where
  pub text : new.text ≡ old.text
  pub others : (s : Slot) → s ≢ slot → new.slot s ≡ old.slot s

-- a call on an open slot takes these bytes off what it has left, and doesn't lose it
pub record TakesOff (slot : Slot) (bytes : List ℕ) (old new : Stand) : Type 0 where
  pub lost : (new.slot slot).lost ≡ (old.slot slot).lost
  pub left : (old.slot slot).left ≡ bytes ++ (new.slot slot).left

-- A read leaves its slot open and ready, and puts at most this number of bytes.
pub record StaysOpen {E : Type 0} (slot : Slot) (most : ℕ) (old new : Stand) (result : Result ℕ E)
    : Type 0 where
  pub leaves : Leaves slot old new
  pub opened : (new.slot slot).opened ≡ (old.slot slot).opened
  pub ready : (new.slot slot).ready ≡ true
  pub within : IfOk result (λ n. n ≤ most)

-- the slot wasn't opened and isn't lost
pub record IsUnopened (state : SlotState) : Type 0 where
  pub opened : state.opened ≡ false
  pub ready : state.ready ≡ false
  pub lost : state.lost ≡ false

-- no slot was opened
pub record IsFresh (stand : Stand) : Type 0 where
  pub first : IsUnopened (stand.slot First)
  pub second : IsUnopened (stand.slot Second)

-- a slot that wasn't opened, with nothing left
abbrev pub unopened : SlotState
unopened = record { opened = false; ready = false; lost = false; left = [] }

-- the first for the first slot, and the second for the second
abbrev pub by_slot : {A : Type 0} → A → A → Slot → A
by_slot first second First = first
by_slot first second Second = second
