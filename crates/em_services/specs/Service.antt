-- What every service promises: docs/CONTRACTS.md, "Services".
use Rattle.std.specs.Prelude.{ℕ, ◌+◌, ◌*◌, ◌++◌, List, false, IsTrue, Option, Some, None, ◌≡◌, ◌≤◌, IfSome, [], length, ◌<◌}
use Rattle.em_record.specs.Shape.{ShapeNumbers, fan_of, IsShape}
use Rattle.em_lines.specs.declared.text.FileKind.{FileKind}
use Rattle.em_lines.specs.declared.text.FileKind.TheVariants.{Map, Queue, Stab, Dump}
use Rattle.em_frames.specs.Pool.{PoolCounts, LentFrames, singles_of}
use Rattle.em_space.specs.Rig.{RigState, Sound, Touches, IfFull}
use Rattle.em_record.specs.declared.record.Record.{Record}
use Rattle.em_model.specs.Map.{Combiner}
use Rattle.em_model.specs.MapAnswers.{answers_after}
use Rattle.em_model.specs.Pairs.{pairs_after}
use Rattle.em_model.specs.Sync.{syncs_of}
use Rattle.em_model.specs.declared.command.Command.{Command}
use Rattle.em_space.specs.Held.{Within}
use Rattle.em_space.specs.Ledger.{Session}
use Rattle.em_space.specs.Queue.{Pays}
use Rattle.em_chain.specs.Chain.{IsChain, IsPacked, chain_blocks}
use Rattle.em_chain.specs.declared.chain.Chain.{Chain}
use Rattle.em_map.specs.Areas.{GivenWithAreas}
use Rattle.em_map.specs.Over.{records_of_pairs}
use Rattle.em_plain.specs.Room.{StaysWithin}
use Rattle.em_model.specs.StabAnswers.{stab_pairs}
use Rattle.em_space.specs.declared.fault.EmFault.{EmFault}

-- The numbers of a service.
pub record ServiceCounts : Type 0 where
  -- the commands that it took, syncs included
  pub n : ℕ
  -- how many of them were syncs; 0 if it states no allowance
  pub syncs : ℕ
  -- at least as many moves as were made in its calls, and as it takes to read and to release the lists that it gave at
  -- syncs, by the shape; any number if it states no allowance
  pub spent : ShapeNumbers → ℕ
  -- the blocks that it holds and that weren't stored since they came into use
  pub unstored : ℕ

-- the records that are due at the end of a file of this kind, after some commands that come after others: of a map the answers
-- to the later ones, since a sync gave the others; of an interval list those to all; of a dump the pairs that all leave
abbrev pub records_for : Combiner → FileKind → List Command → List Command → List Record
records_for apply Map before commands = answers_after apply before commands
records_for apply Queue before commands = []
records_for apply Stab before commands = stab_pairs (before ++ commands)
records_for apply Dump before commands = records_of_pairs (pairs_after apply (before ++ commands))

-- those that are due at a sync: only a map's file has any
abbrev pub records_at_sync : Combiner → FileKind → List Command → List Command → List Record
records_at_sync apply Map before commands = answers_after apply before commands
records_at_sync apply kind before commands = []

-- how many syncs there are among some commands of a file of this kind: only one of a map's commands has any
abbrev pub syncs_for : FileKind → List Command → ℕ
syncs_for Map commands = syncs_of commands
syncs_for Queue commands = 0
syncs_for Stab commands = 0
syncs_for Dump commands = syncs_of commands

-- the size of some commands of a file of this kind: their number, and for stabs that of the pairs that
-- their answers report
abbrev pub size_of : FileKind → List Command → ℕ
size_of Map commands = length commands
size_of Queue commands = length commands
size_of Stab commands = length commands + length (stab_pairs commands)
size_of Dump commands = length commands

-- A number of moves or blocks doesn't fall where the size rises.
abbrev pub RisesBySize : (ShapeNumbers → ℕ → ℕ) → Type 0
RisesBySize f = (s : ShapeNumbers) (m n : ℕ) → IsShape s → m ≤ n → f s m ≤ f s n

-- The frames that a command may need are free beside those of a service, which has this many areas: 2f + 4 single ones, two
-- areas with its own, and the rack.
pub record CanTake (own : ℕ) (p : PoolCounts) : Type 0 where
  pub singles : 2 * fan_of p.shape + 4 ≤ p.free
  pub areas : 2 ≤ p.free_areas + own
  pub rack : p.rack_out ≡ false

-- Those that the answers may need are free: two single ones more than for a command.
pub record CanAnswer (own : ℕ) (p : PoolCounts) : Type 0 where
  pub singles : 2 * fan_of p.shape + 6 ≤ p.free
  pub areas : 2 ≤ p.free_areas + own
  pub rack : p.rack_out ≡ false

-- Those that a sync may need are free: two single ones more, since the service keeps its own.
pub record CanSync (own : ℕ) (p : PoolCounts) : Type 0 where
  pub singles : 2 * fan_of p.shape + 8 ≤ p.free
  pub areas : 2 ≤ p.free_areas + own
  pub rack : p.rack_out ≡ false

-- This many single frames and areas of the pool are out.
pub record FramesOut (frames own : ℕ) (p : PoolCounts) : Type 0 where
  pub is : p.free + frames ≤ singles_of p.shape
  pub areas : 0 < own → p.free_areas + own ≤ 2

-- All moves of a service, of which at most this many were made before the call, are within what it is
-- allowed for a size, as often as there were syncs and once more, if it states an allowance.
abbrev pub WithinAllowance : Option (ShapeNumbers → ℕ → ℕ) → (size syncs : ℕ) → (ShapeNumbers → ℕ)
    → RigState → RigState → Type 0
WithinAllowance None size syncs spent old new = Unit {0}
WithinAllowance (Some f) size syncs spent old new = IsTrue old.device.told
    → spent old.pool.shape + new.moves ≤ old.moves + (syncs + 1) * f old.pool.shape size

-- In no moment of a call did a service, which held these blocks before, hold more than its room for a
-- size, if it states one and the device tells.
abbrev pub WithinRoom : Option (ShapeNumbers → ℕ → ℕ) → ℕ → List ℕ → RigState → RigState → Type 0
WithinRoom None size held old new = Unit {0}
WithinRoom (Some f) size held old new =
    IsTrue old.device.told → StaysWithin (length held) (f old.pool.shape size) old new

-- A call on it was full only if this room and the blocks of others are more than all.
abbrev pub FullOverRoom : Option (ShapeNumbers → ℕ → ℕ) → ℕ → List ℕ → RigState → EmFault → Type 0
FullOverRoom None size held old fault = Unit {0}
FullOverRoom (Some f) size held old fault = IsTrue old.device.told
    → IfFull fault (λ used. used + length held < old.used + f old.pool.shape size)

-- A service was made: its frames are lent, and its blocks weren't in use.
pub record MakesService (allowance room : Option (ShapeNumbers → ℕ → ℕ)) (frames : ℕ)
    (held : List ℕ) (c : ServiceCounts) (old new : RigState) : Type 0 where
  pub sound : Sound new
  pub touches : Touches [] old new
  pub frames_are : LentFrames frames old.pool new.pool
  pub within : Within old [] held
  pub n : c.n ≡ 0
  pub syncs : c.syncs ≡ 0
  pub pays : Pays 0 c.unstored old new
  pub used : IsTrue old.device.told → IfSome room (λ f. new.used ≡ old.used + length held)
  pub spent : IfSome allowance (λ f. new.moves ≤ old.moves + c.spent old.pool.shape)

-- A service with the first numbers took a command, which is this many syncs, and has the second. Its blocks were its
-- own or weren't in use.
pub record TakesCommand (allowance room : Option (ShapeNumbers → ℕ → ℕ)) (one : ℕ) (held now : List ℕ)
    (c d : ServiceCounts) (old new : RigState) : Type 0 where
  pub within : Within old held now
  pub n : d.n ≡ c.n + 1
  pub syncs : IfSome allowance (λ f. d.syncs ≡ c.syncs + one)
  pub pays : Pays c.unstored d.unstored old new
  pub used : IsTrue old.device.told
      → IfSome room (λ f. new.used + length held ≡ old.used + length now)
  -- (a sync's list is printed and released in blocks of which only a device that tells says how many there are)
  pub spent : (0 < one → IsTrue old.device.told) → IfSome allowance
      (λ f. new.moves + c.spent old.pool.shape ≤ old.moves + d.spent old.pool.shape)

-- the most moves of reading a list once and releasing it
abbrev pub list_moves : Chain → ℕ
list_moves c = 3 * c.blocks

-- A sync came: the records that were due are a chain beside the service's blocks, and all of these were its own or weren't
-- in use. What reading and releasing the chain takes is in its moves.
pub record GivesAtSync (allowance room : Option (ShapeNumbers → ℕ → ℕ)) (held now : List ℕ)
    (c d : ServiceCounts) (old new : RigState) (answers : Chain) : Type 0 where
  pub is : IsChain new answers
  pub packed : IsTrue old.device.told → IsPacked new answers
  pub session : Session held old new (chain_blocks new answers ++ now)
  pub n : d.n ≡ c.n + 1
  pub syncs : IfSome allowance (λ f. d.syncs ≡ c.syncs + 1)
  pub pays : Pays c.unstored d.unstored old new
  pub used : IsTrue old.device.told
      → IfSome room (λ f. new.used + length held ≡ old.used + (answers.blocks + length now))
  pub spent : IsTrue old.device.told → IfSome allowance (λ f. new.moves + list_moves answers
      + c.spent old.pool.shape ≤ old.moves + d.spent old.pool.shape)

-- A service gave its frames and areas back. Only these blocks may have changed.
pub record GivesFrames (frames own : ℕ) (held : List ℕ) (old new : RigState) : Type 0 where
  pub sound : Sound new
  pub touches : Touches held old new
  pub frames_are : GivenWithAreas frames own old.pool new.pool

-- The answers of a service are a chain. Its other blocks were released.
pub record LeavesAnswers (room : Option (ShapeNumbers → ℕ → ℕ)) (held : List ℕ)
    (c : ServiceCounts) (old new : RigState) (answers : Chain) : Type 0 where
  pub is : IsChain new answers
  pub packed : IsTrue old.device.told → IsPacked new answers
  pub within : Within old held (chain_blocks new answers)
  pub pays : Pays c.unstored 0 old new
  pub used : IsTrue old.device.told
      → IfSome room (λ f. new.used + length held ≡ old.used + answers.blocks)
