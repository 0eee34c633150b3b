-- What a reader of a slot changes, and what it leaves.
use Rattle.std.specs.Prelude.{◌≡◌, ◌≤◌, ◌+◌, ℕ, Bool, IsTrue, length, Result}
use Rattle.em_record.specs.Count.{Rose}
use Rattle.em_io.specs.Shelf.{Stand, Leaves}
use Rattle.em_io.specs.Feed.{Fed, rest}
use Rattle.em_lines.specs.declared.text.LineStop.{LineStop}
use Rattle.em_lines.specs.Stops.{OnRead}

-- Bytes of the feed's slot may have been read, and nothing else changed: neither the texts, nor
-- the other slot, nor which slot is open. What is left to read didn't grow.
pub record Reads (tells : Bool) (feed : Fed) (stand : Stand) (feed_after : Fed)
    (stand_after : Stand) : Type 0 where
  pub slot : feed_after.slot ≡ feed.slot
  pub leaves : Leaves feed.slot stand stand_after
  pub opened : (stand_after.slot feed.slot).opened ≡ (stand.slot feed.slot).opened
  pub ready : (stand_after.slot feed.slot).ready ≡ (stand.slot feed.slot).ready
  pub shorter : IsTrue tells → length (rest feed_after stand_after) ≤ length (rest feed stand)
  pub lost : IsTrue tells → (stand_after.slot feed.slot).lost ≡ (stand.slot feed.slot).lost

-- What every reader of a line promises: at most `most` bytes were taken, only the feed's slot was
-- read, and the answer is that the shelf failed only if its count of faults rose.
pub record ReadsLine {A : Type 0} (most : ℕ) (tells : Bool) (feed : Fed) (stand : Stand)
    (faults : ℕ) (feed_after : Fed) (stand_after : Stand) (faults_after : ℕ)
    (result : Result A LineStop) : Type 0 where
  pub place : feed_after.place ≤ feed.place + most
  pub reads : Reads tells feed stand feed_after stand_after
  pub later : faults ≤ faults_after
  pub read : OnRead result (Rose faults faults_after)
