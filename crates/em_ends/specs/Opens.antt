-- What a run does to the shelf.
use Rattle.std.specs.Prelude.{IsNone, IsSome, IfSome, is_none, ℕ, List, [], Option, Some, None, unwrap_or, ◌≡◌, Bool, true, IsTrue, OnSome, ◌-◌}
use Rattle.em_io.specs.Shelf.{Stand, SlotState, Leaves}
use Rattle.em_io.specs.declared.shelf.Slot.{Slot}
use Rattle.em_io.specs.declared.shelf.Slot.TheVariants.{First, Second}
use Rattle.em_ends.specs.Status.{OnDone, OnEnd}
use Rattle.em_ends.specs.declared.status.Status.{Status}

-- The slot was opened with Ok, and nothing of its text is left.
pub record IsAllRead (tells : Bool) (slot : SlotState) : Type 0 where
  pub opened : slot.ready ≡ true
  pub nothing_left : IsTrue tells → slot.left ≡ []

-- at Done the slot of each file was opened, and if the shelf tells, read to its end
abbrev pub ReadsNamed : Bool → (Slot → Option (List ℕ)) → Stand → Status → Type 0
ReadsNamed tells names new status =
    (slot : Slot) → OnSome (names slot) (OnDone status (IsAllRead tells (new.slot slot)))

-- the text of a slot's file, which is empty if the slot has no name, or no file has the name
abbrev pub text_in : Stand → Slot → Option (List ℕ) → List ℕ
text_in stand slot None = []
text_in stand slot (Some name) = unwrap_or (stand.text slot name) []

-- the text of each slot's file
abbrev pub texts_in : Stand → (Slot → Option (List ℕ)) → Slot → List ℕ
texts_in stand names slot = text_in stand slot (names slot)

-- Of the shelf only the first slot was read; whether it is lost didn't change.
pub record ReadsFirst (tells : Bool) (old new : Stand) : Type 0 where
  pub leaves : Leaves First old new
  pub lost : IsTrue tells → (new.slot First).lost ≡ (old.slot First).lost

-- No text changed, and no slot that has no name. If the shelf tells, a slot is lost only if no file
-- has its name; at Done each name is that of a file, and at Malformed the first one is. If the device
-- tells too, the second slot is opened only if the text of the first one is good.
pub record OpensSlots (good : Type 0) (tells told : Bool) (names : Slot → Option (List ℕ)) (old new : Stand)
    (status : Status) : Type 0 where
  pub texts : new.text ≡ old.text
  pub others : (slot : Slot) → IsNone (names slot) → new.slot slot ≡ old.slot slot
  pub lost : (slot : Slot) → IsTrue tells → (new.slot slot).lost ≡ true
      → IfSome (names slot) (λ name. is_none (old.text slot name) ≡ true)
  pub there : (slot : Slot) → IsTrue tells
      → IfSome (names slot) (λ name. OnDone status (IsSome (old.text slot name)))
  pub first : IsTrue tells
      → IfSome (names First) (λ name. OnEnd status (IsSome (old.text First name)))
  pub second : IsTrue tells → IsTrue told → (new.slot Second).opened ≡ true → IfSome (names Second)
      (λ name. good)
