-- A text that is read.
use Rattle.std.specs.Prelude.{◌≡◌, ◌≤◌, ◌+◌, ◌^◌, Bool, true, List, ℕ, IsTrue, length}
use Rattle.em_io.specs.Feed.{Fed, rest}
use Rattle.em_io.specs.Shelf.{Stand, Leaves}
use Rattle.em_io.specs.declared.shelf.Shelf.{Ghosts}

-- A text at one moment of its reading: the feed that gives its bytes, what stands on the shelf, and
-- how often the shelf failed.
pub record Source : Type 0 where
  pub feed : Fed
  pub stand : Stand
  pub faults : ℕ

-- the text that a feed reads from a shelf
abbrev pub source : {H : Type 0} → Ghosts H → Fed → H → Source
source h feed shelf = record { feed = feed; stand = h.stand shelf; faults = h.faults shelf }

-- what is left of it
abbrev pub left : Source → List ℕ
left s = rest s.feed s.stand

-- Its slot was opened with Ok, and at most 2^50 bytes were taken.
pub record CanRead (s : Source) : Type 0 where
  pub ready : (s.stand.slot s.feed.slot).ready ≡ true
  pub place : s.feed.place ≤ 2 ^ 50

-- Bytes of the feed's slot were read, and nothing else changed: neither the texts, nor the other
-- slot, nor which slots are open. As many bytes were taken as are less left.
pub record Steady (tells : Bool) (old new : Source) : Type 0 where
  pub slot : new.feed.slot ≡ old.feed.slot
  pub leaves : Leaves old.feed.slot old.stand new.stand
  pub opened : (new.stand.slot old.feed.slot).opened ≡ (old.stand.slot old.feed.slot).opened
  pub ready : (new.stand.slot old.feed.slot).ready ≡ (old.stand.slot old.feed.slot).ready
  pub lost : IsTrue tells
      → (new.stand.slot old.feed.slot).lost ≡ (old.stand.slot old.feed.slot).lost
  pub forward : old.feed.place ≤ new.feed.place
  pub whole : IsTrue tells
      → old.feed.place + length (left old) ≡ new.feed.place + length (left new)
