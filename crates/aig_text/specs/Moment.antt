-- A circuit that is being read into four lists.
use Rattle.std.specs.Prelude.{◌≡◌, ◌≤◌, ◌<◌, ◌+◌, ◌^◌, Bool, ℕ, List, Result, Ok, Err, IsTrue}
use Rattle.em_io.specs.Feed.{Fed}
use Rattle.em_io.specs.declared.shelf.Shelf.{Ghosts}
use Rattle.em_record.specs.Count.{Rose}
use Rattle.em_space.specs.Rig.{RigState, Sound}
use Rattle.aig_defs.specs.Items.{Reading, Reads, Item, and_then}
use Rattle.aig_text.specs.Draft.{Drafted, HasDraftFrames, IsDraft, StopsDraft, draft_len}
use Rattle.aig_text.specs.Listing.{Listing, appended, record_count}
use Rattle.aig_text.specs.Reads.{Advances, StopsAs}
use Rattle.aig_text.specs.Source.{Source, CanRead, left, source}
use Rattle.aig_text.specs.declared.draft.Draft.{Draft}
use Rattle.aig_text.specs.declared.stop.AigStop.{AigStop}
use Rattle.aig_text.specs.declared.stop.AigStop.TheVariants as stop

-- the text, the rig and the lists at one moment
pub record Moment : Type 0 where
  pub text : Source
  pub rig : RigState
  pub draft : Draft

abbrev pub moment : {H : Type 0} → Ghosts H → Fed → H → RigState → Draft → Moment
moment h feed shelf rig draft = record { text = source h feed shelf; rig = rig; draft = draft }

-- the offset of the text's next byte
abbrev pub place_in : Moment → ℕ
place_in m = m.text.feed.place

-- an item, read here
abbrev pub read_at : {A : Type 0} → Item A → Moment → Reading A
read_at item m = item (place_in m) (left m.text)

-- The text can be read, and at least n more records can be written.
pub record CanFill (n : ℕ) (m : Moment) : Type 0 where
  pub text : CanRead m.text
  pub sound : Sound m.rig
  pub draft : IsDraft m.rig m.draft
  pub free : 0 < m.rig.pool.free
  pub room : draft_len m.draft + n ≤ 2 ^ 44

-- These records were written, and nothing but them.
pub record AddsListing (old new : Moment) (lists : Listing) : Type 0 where
  pub drafted : Drafted old.rig new.rig old.draft new.draft lists.defs lists.gates lists.uses
      lists.resets

-- Some records were written, and at most n.
pub record AddsSome (n : ℕ) (old new : Moment) : Type 0 where
  pub lists : Listing
  pub adds : AddsListing old new lists
  pub few : record_count lists ≤ n

-- why a reader into the lists stopped, and what it wrote: n records at most were to be written
abbrev pub StopsFilling : ℕ → Moment → Moment → AigStop → Type 0
StopsFilling n old new (stop.Fault kind place) = AddsSome n old new
StopsFilling n old new stop.Read = AddsSome n old new × Rose old.text.faults new.text.faults
StopsFilling n old new (stop.Em fault) = StopsDraft old.rig new.rig old.draft n fault

-- An item was read whole, and its records were written. They are as many as its size says.
pub record Fills (tells : Bool) (item : Item Listing) (size : ℕ → ℕ → List ℕ → ℕ)
    (IsLike : Listing → Type 0) (old new : Moment) : Type 0 where
  pub lists : Listing
  pub like : IsLike lists
  pub adds : AddsListing old new lists
  pub reads : IsTrue tells → read_at item old ≡ Reads lists (place_in new) (left new.text)
  pub counted : IsTrue tells → (given : ℕ) → place_in new ≤ given
      → size given (place_in old) (left old.text) ≡ record_count lists

-- An item stopped. No more records were to be written than its size says.
pub record FailsFilling (tells : Bool) (item : Item Listing) (size : ℕ → ℕ → List ℕ → ℕ)
    (old new : Moment) (e : AigStop) : Type 0 where
  pub most : ℕ
  pub stops : StopsFilling most old new e
  pub reads : IsTrue tells → StopsAs e (read_at item old)
  pub counted : IsTrue tells → (given : ℕ) → place_in new ≤ given
      → most ≤ size given (place_in old) (left old.text)

abbrev pub FillsBy : Bool → Item Listing → (ℕ → ℕ → List ℕ → ℕ) → (Listing → Type 0) → Moment
    → Moment → Result (Unit {0}) AigStop → Type 0
FillsBy tells item size IsLike old new (Ok u) = Fills tells item size IsLike old new
FillsBy tells item size IsLike old new (Err e) = FailsFilling tells item size old new e

-- What every reader into the lists promises.
pub record ReadsInto (tells : Bool) (item : Item Listing) (size : ℕ → ℕ → List ℕ → ℕ)
    (IsLike : Listing → Type 0) (old new : Moment) (result : Result (Unit {0}) AigStop)
    : Type 0 where
  pub advances : Advances tells old.text new.text
  pub frames : HasDraftFrames new.rig new.draft
  pub fills : FillsBy tells item size IsLike old new result

-- the first lists, with those of an item after them
abbrev pub onto : Listing → Listing → Item Listing
onto first rest = Reads (appended first rest)

-- Of an item some was read and its records were written; the rest of it is to be read here.
pub record FillsSome (tells : Bool) (item : Item Listing) (size : ℕ → ℕ → List ℕ → ℕ)
    (rest : Item Listing) (rest_size : ℕ → ℕ → List ℕ → ℕ) (IsLike : Listing → Type 0)
    (old now : Moment) : Type 0 where
  pub lists : Listing
  pub like : IsLike lists
  pub adds : AddsListing old now lists
  pub advances : Advances tells old.text now.text
  pub reads : IsTrue tells → read_at item old ≡ and_then (read_at rest now) (onto lists)
  pub counted : IsTrue tells → (given : ℕ) → place_in now ≤ given
      → size given (place_in old) (left old.text)
      ≡ record_count lists + rest_size given (place_in now) (left now.text)
