-- What a feed gives.
use Rattle.std.specs.Prelude.{◌≡◌, ◌+◌, ◌++◌, Bool, List, ℕ, length, IsTrue}
use Rattle.em_io.specs.declared.shelf.Slot.{Slot}
use Rattle.em_io.specs.Shelf.{Stand, Leaves}

-- the slot that is read, the bytes read ahead, and the number of bytes taken
pub record Fed : Type 0 where
  pub slot : Slot
  pub ahead : List ℕ
  pub place : ℕ

-- what a feed gives from here on: the bytes ahead, and then what its slot has left
abbrev pub rest : Fed → Stand → List ℕ
rest feed stand = feed.ahead ++ (stand.slot feed.slot).left

-- These bytes were taken: the slot stays as open as it was, and the rest of the shelf is left.
-- What is left to read is told only if the shelf tells its texts.
pub record Takes (tells : Bool) (bytes : List ℕ) (feed : Fed) (stand : Stand)
    (feed_after : Fed) (stand_after : Stand) : Type 0 where
  pub slot : feed_after.slot ≡ feed.slot
  pub place : feed_after.place ≡ feed.place + length bytes
  pub leaves : Leaves feed.slot stand stand_after
  pub opened : (stand_after.slot feed.slot).opened ≡ (stand.slot feed.slot).opened
  pub ready : (stand_after.slot feed.slot).ready ≡ (stand.slot feed.slot).ready
  pub lost : IsTrue tells → (stand_after.slot feed.slot).lost ≡ (stand.slot feed.slot).lost
  pub left : IsTrue tells → rest feed stand ≡ bytes ++ rest feed_after stand_after
