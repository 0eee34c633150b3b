-- A command file that is given to a service, and why its run stops.
use Rattle.std.specs.Prelude.{◌≡◌, ℕ, ◌+◌, ◌*◌, ◌-◌, ◌<◌, ◌≤◌, ◌^◌, ◌⊎◌, Bool, IsTrue, List, [], ◌∷◌, ◌++◌, length, Option, Some, None, IfSome}
use Rattle.em_io.specs.Feed.{Fed, rest}
use Rattle.em_io.specs.declared.shelf.Shelf.{Ghosts as ShelfGhosts}
use Rattle.em_io.specs.declared.sink.Sink.{Ghosts as SinkGhosts}
use Rattle.em_record.specs.Shape.{ShapeNumbers, payload_of}
use Rattle.em_model.specs.Sync.{since_sync, up_to_sync}
use Rattle.em_model.specs.declared.command.Command.{Command}
use Rattle.em_model.specs.declared.command.Command.TheVariants.{Put}
use Rattle.em_space.specs.Queue.{Pays}
use Rattle.em_space.specs.Rig.{RigState, Cause}
use Rattle.em_space.specs.declared.fault.EmFault.TheVariants as em
use Rattle.em_chain.specs.Counts.{ceiling}
use Rattle.em_answers.specs.Limits.{Limits, syncs_in, taken_commands}
use Rattle.em_services.specs.Service.{FullOverRoom, ServiceCounts}
use Rattle.em_services.specs.declared.service.Service.{Ghosts as ServiceGhosts}
use Rattle.em_lines.specs.RunSize.{run_size}
use Rattle.em_ends.specs.Stop.{IfStopsFull, fault_counts, Faults}
use Rattle.em_ends.specs.declared.stop.Stop.{Stop}
use Rattle.em_lines.specs.declared.text.FileKind.{FileKind}
use Rattle.em_record.specs.Count.{Rose}
use Rattle.em_lines.specs.CommandLine.{first_fault}
use Rattle.em_ends.specs.declared.status.Malform.TheVariants.{Text, Base, Aig}
use Rattle.em_ends.specs.declared.stop.Stop.TheVariants.{Fault, Read, Write, Em}

-- The commands are puts, as those of the pairs that a map begins with.
abbrev pub ArePuts : List Command → Type 0
ArePuts [] = Unit {0}
ArePuts (Put key value ∷ cs) = ArePuts cs
ArePuts (c ∷ cs) = ⊥

-- the size of commands that come after these
abbrev pub size_after : List Command → (ShapeNumbers → List Command → ℕ) → ShapeNumbers → List Command → ℕ
size_after base size shape cs = size shape (base ++ cs)

-- The service, which holds these blocks and took commands of this size, is alone on the rig: each block in use was moved or
-- isn't stored yet. If it states a room and the device tells, all blocks in use are its own, and at no moment more than
-- that. If it states an allowance, and the device tells or no sync came, all moves are its own or those of the lists that it
-- gave at syncs; and within that for each sync and once more, if the device tells.
pub record StandsAlone (allowance room : Option (ShapeNumbers → ℕ → ℕ)) (size : ℕ) (held : List ℕ)
    (c : ServiceCounts) (s : RigState) : Type 0 where
  pub paid : (2 ^ 64 - 1 ≤ s.moves) ⊎ (s.used ≤ s.moves + c.unstored)
  pub used : IsTrue s.device.told → IfSome room (λ f. s.used ≡ length held)
  pub most : IsTrue s.device.told → IfSome room (λ f. s.most ≤ f s.pool.shape c.n)
  pub moved : (0 < c.syncs → IsTrue s.device.told)
      → IfSome allowance (λ f. s.moves ≤ c.spent s.pool.shape)
  pub within : IsTrue s.device.told
      → IfSome allowance (λ f. s.moves ≤ (c.syncs + 1) * f s.pool.shape size)

-- The service took some commands, which are counted by this size, and is alone on the rig. They are all those of a file, if
-- the shelf tells.
pub record TookCommands {S R : Type 0} (v : ServiceGhosts S R) (size : List Command → ℕ) (tells : Bool)
    (all : List Command) (x : S) (s : RigState) : Type 0 where
  pub taken : List Command
  pub are_all : IsTrue tells → taken ≡ all
  pub has : v.Has x s (up_to_sync taken) (since_sync taken)
  pub alone : StandsAlone v.allowance v.room (size taken) (v.blocks x s) (v.counts x) s

-- the most moves of a run over a service that states an allowance, for the end and for each sync: those of the service, and
-- one for each block of the answers, which are packed
abbrev pub moves_within : Option (ShapeNumbers → ℕ → ℕ) → Option (ShapeNumbers → ℕ → ℕ)
moves_within None = None
moves_within (Some f) = Some (λ shape size. f shape size + ceiling size (payload_of shape))

-- what a run over a service is held to
abbrev pub service_limits : (allowance room : Option (ShapeNumbers → ℕ → ℕ)) → Limits
service_limits allowance room = record { moves = moves_within allowance; room = room }

-- All moves on a rig that moved none at first are within the allowance of a service for this size of the commands that were
-- taken of a text, for each sync and once more, if it states one and the device tells.
abbrev pub KeepsAllowance : Option (ShapeNumbers → ℕ → ℕ) → (size : ShapeNumbers → List Command → ℕ) → FileKind
    → (text left : List ℕ) → RigState → RigState → Type 0
KeepsAllowance None size kind text left old new = Unit {0}
KeepsAllowance (Some f) size kind text left old new =
    IsTrue old.device.told
    → new.moves ≤ (syncs_in kind text left + 1) * f old.pool.shape (size old.pool.shape (taken_commands kind text left))

-- Over a shelf and a device that tell, at no moment of a run were more blocks in use than this room says by this size, if there
-- is such a number.
abbrev pub KeepsRoomAt : Option (ShapeNumbers → ℕ → ℕ) → Bool → ℕ → RigState → Type 0
KeepsRoomAt room tells size new = IsTrue tells → IsTrue new.device.told → IfSome room (λ f. new.most ≤ f new.pool.shape size)

-- the same by the size of what was read of a text
abbrev pub KeepsRoom : Option (ShapeNumbers → ℕ → ℕ) → Bool → FileKind → (text left : List ℕ) → RigState → Type 0
KeepsRoom room tells kind text left new = KeepsRoomAt room tells (run_size kind text left) new

-- and of this many commands before it
abbrev pub KeepsRoomOver : (base : ℕ) → Option (ShapeNumbers → ℕ → ℕ) → Bool → FileKind → (text left : List ℕ) → RigState
    → Type 0
KeepsRoomOver base room tells kind text left new = KeepsRoomAt room tells (run_size kind text left + base) new

-- What a full device says: its blocks are at most the moves and two for each frame, and fewer than are enough for a run of this
-- size with these limits.
pub record IsFilledAt (limits : Limits) (tells : Bool) (size : ℕ) (new : RigState) (used : ℕ) : Type 0 where
  pub paid : (2 ^ 64 - 1 ≤ new.moves) ⊎ (used ≤ new.moves + 2 * new.pool.shape.frames)
  pub room : IsTrue tells → IsTrue new.device.told → IfSome limits.room (λ f. used < f new.pool.shape size)

-- the same where this much of the text is left
abbrev pub IsFilled : Limits → Bool → FileKind → (text left : List ℕ) → RigState → ℕ → Type 0
IsFilled limits tells kind text left new used = IsFilledAt limits tells (run_size kind text left) new used

-- the text has no fault, and all of it was read
pub record ReadsAll (kind : FileKind) (text left : List ℕ) : Type 0 where
  pub fault : first_fault kind text ≡ None
  pub end : left ≡ []

-- A stop of a call that answers a command file has its cause: the first fault of the text, if the
-- shelf tells it; a count of faults that rose; or what a call on the rig says.
abbrev pub StopCause : Bool → FileKind → List ℕ → Faults → Faults → RigState → RigState → Stop
    → Type 0
StopCause tells kind text faults after old new (Fault (Text fault) line) =
    IsTrue tells → first_fault kind text ≡ Some (fault, line)
StopCause tells kind text faults after old new (Fault (Base fault) place) = ⊥
StopCause tells kind text faults after old new (Fault (Aig fault) place) = ⊥
StopCause tells kind text faults after old new Read = Rose faults.read after.read
StopCause tells kind text faults after old new Write = Rose faults.write after.write
StopCause tells kind text faults after old new (Em fault) = Cause old new fault

-- Why the run of a file over a service stopped, and what a full device says then of a run of this size.
pub record StopsReadingAt {H W : Type 0} (size : ℕ) (h : ShelfGhosts H) (w : SinkGhosts W) (limits : Limits)
    (kind : FileKind) (feed : Fed) (shelf shelf_after : H) (out out_after : W) (old new : RigState)
    (stop : Stop) : Type 0 where
  pub cause : StopCause h.tells kind (rest feed (h.stand shelf))
      (fault_counts (h.faults shelf) (w.faults out))
      (fault_counts (h.faults shelf_after) (w.faults out_after)) old new stop
  pub full : IfStopsFull stop (IsFilledAt limits h.tells size new)

-- the size of what was read of the text that a feed stood in
abbrev pub size_read : {H : Type 0} → ShelfGhosts H → FileKind → Fed → (shelf shelf_after : H) → ℕ
size_read h kind feed shelf shelf_after =
    run_size kind (rest feed (h.stand shelf)) ((h.stand shelf_after).slot feed.slot).left

-- the same by the size of what was read
abbrev pub StopsReading : {H W : Type 0} → ShelfGhosts H → SinkGhosts W → Limits → FileKind → Fed → (shelf shelf_after : H)
    → (out out_after : W) → (old new : RigState) → Stop → Type 0
StopsReading h w limits kind feed shelf shelf_after out out_after old new stop =
    StopsReadingAt (size_read h kind feed shelf shelf_after) h w limits kind feed shelf shelf_after out out_after old new stop

-- and of this many commands before it
abbrev pub StopsReadingOver : {H W : Type 0} → (base : ℕ) → ShelfGhosts H → SinkGhosts W → Limits → FileKind → Fed
    → (shelf shelf_after : H) → (out out_after : W) → (old new : RigState) → Stop → Type 0
StopsReadingOver base h w limits kind feed shelf shelf_after out out_after old new stop =
    StopsReadingAt (size_read h kind feed shelf shelf_after + base) h w limits kind feed shelf shelf_after out out_after old new
    stop

-- A sync was answered and its answers printed, or it stopped: the output's count of faults rose, or the rig gave up.
abbrev pub SyncCause : ℕ → ℕ → RigState → RigState → Stop → Type 0
SyncCause faults after old new (Fault kind place) = ⊥
SyncCause faults after old new Read = ⊥
SyncCause faults after old new Write = Rose faults after
SyncCause faults after old new (Em fault) = Cause old new fault

-- What a full device says of a sync: its blocks that aren't stored, and that the service's room and the blocks of others
-- are more than all.
pub record FullAtSync (room : Option (ShapeNumbers → ℕ → ℕ)) (held : List ℕ) (c : ServiceCounts)
    (old new : RigState) (used : ℕ) : Type 0 where
  pub pays : Pays c.unstored (2 * old.pool.shape.frames) old new
  pub over : FullOverRoom room (c.n + 1) held old (em.Full used)
