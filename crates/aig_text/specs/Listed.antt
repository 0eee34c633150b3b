-- Sections that were read and written, from before their draft was made until it is gone.
use Rattle.std.specs.Prelude.{◌≡◌, ◌≤◌, Bool, ℕ, Result, Ok, Err, IsTrue}
use Rattle.em_record.specs.Count.{Rose}
use Rattle.em_space.specs.Rig.{RigState}
use Rattle.em_chain.specs.declared.chain.Chain.{Chain}
use Rattle.aig_defs.specs.declared.circuit.Header.{Header}
use Rattle.aig_defs.specs.declared.form.Form.{Form}
use Rattle.aig_defs.specs.Items.{Reads}
use Rattle.aig_text.specs.Draft.{GivesUpDraft, LeavesDraft, WritesFour}
use Rattle.aig_text.specs.Listing.{Listing, record_count}
use Rattle.aig_text.specs.Reads.{Advances, StopsAs}
use Rattle.aig_text.specs.Sections.{HasSections, listed, listed_size, order}
use Rattle.aig_text.specs.Source.{Source, left}
use Rattle.aig_text.specs.declared.stop.AigStop.{AigStop}
use Rattle.aig_text.specs.declared.stop.AigStop.TheVariants as stop

-- The sections were read, and four chains have their records.
pub record WritesListing (tells : Bool) (form : Form) (h : Header) (old new : Source)
    (s t : RigState)
    (f g k r : Chain) : Type 0 where
  pub lists : Listing
  pub like : HasSections order h lists
  pub writes : WritesFour s t f g k r lists.defs lists.gates lists.uses lists.resets
  pub reads : IsTrue tells
      → listed form order h old.feed.place (left old) ≡ Reads lists new.feed.place (left new)
  pub counted : IsTrue tells → (given : ℕ) → new.feed.place ≤ given
      → listed_size form order h given old.feed.place (left old) ≡ record_count lists

-- why the sections stopped, with n records at most to be written
abbrev pub LeavesListing : ℕ → Source → Source → RigState → RigState → AigStop → Type 0
LeavesListing n old new s t (stop.Fault kind place) = LeavesDraft s t n
LeavesListing n old new s t stop.Read = LeavesDraft s t n × Rose old.faults new.faults
LeavesListing n old new s t (stop.Em fault) = GivesUpDraft s t n fault

-- The sections stopped. Only records of what counts as read were to be written.
pub record StopsListing (tells : Bool) (form : Form) (h : Header) (old new : Source)
    (s t : RigState)
    (e : AigStop) : Type 0 where
  pub written : ℕ
  pub stops : LeavesListing written old new s t e
  pub reads : IsTrue tells → StopsAs e (listed form order h old.feed.place (left old))
  pub counted : IsTrue tells → (given : ℕ) → new.feed.place ≤ given
      → written ≤ listed_size form order h given old.feed.place (left old)

abbrev pub ListingBy : Bool → Form → Header → Source → Source → RigState → RigState
    → Result (Chain × Chain × Chain × Chain) AigStop → Type 0
ListingBy tells form h old new s t (Ok c) =
    WritesListing tells form h old new s t c.0 c.1 c.2 c.3
ListingBy tells form h old new s t (Err e) = StopsListing tells form h old new s t e

-- What the reader of all sections promises.
pub record ReadsListing (tells : Bool) (form : Form) (h : Header) (old new : Source)
    (s t : RigState)
    (result : Result (Chain × Chain × Chain × Chain) AigStop) : Type 0 where
  pub advances : Advances tells old new
  pub by : ListingBy tells form h old new s t result
