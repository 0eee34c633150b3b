-- An interval list, and what the calls that give it commands leave.
use Rattle.std.specs.Prelude.{◌≡◌, ℕ, ◌+◌, ◌<◌, ◌≤◌, ◌^◌, max, List, [], ◌∷◌, ◌++◌, length, map, IfErr, IsTrue, Result, Ok, Err}
use Rattle.em_frames.specs.Pool.{GivenFrames, LentFrames, singles_of}
use Rattle.em_model.specs.Stab.{intervals_after}
use Rattle.em_model.specs.StabAnswers.{stab_pairs}
use Rattle.em_model.specs.declared.command.Command.{Command}
use Rattle.em_space.specs.Held.{Holds}
use Rattle.em_space.specs.Ledger.{Account, Runs, Stops, both}
use Rattle.em_space.specs.Rig.{IfFull, RigState, Sound, Touches}
use Rattle.em_space.specs.declared.fault.EmFault.{EmFault}
use Rattle.em_chain.specs.Effects.{Unmoved}
use Rattle.em_chain.specs.Session.{writer_account}
use Rattle.em_chain.specs.Writer.{writer_blocks, writer_items}
use Rattle.em_tree_cost.specs.Shares.{stab_room, stab_share}
use Rattle.em_segment_model.specs.Commands.{asked_from}
use Rattle.em_segment_model.specs.Points.{asked_record, interval_record}
use Rattle.em_segment_parts.specs.Pairs.{IsPairs}
use Rattle.em_segment.specs.declared.stab.Stab.{Stab}

-- the blocks that it holds, and its account
abbrev pub stab_blocks : RigState → Stab → List ℕ
stab_blocks s v = writer_blocks s v.intervals ++ writer_blocks s v.stabs

abbrev pub stab_account : Stab → Account
stab_account v = both (writer_account v.intervals) (writer_account v.stabs)

-- how many commands it was given, and these with the pairs that it will answer
abbrev pub stab_len : Stab → ℕ
stab_len v = v.intervals.count + v.stabs.count

abbrev pub stab_size : Stab → List Command → ℕ
stab_size v cs = stab_len v + length (stab_pairs cs)

-- its two frames are the pool's: what is left to ask after a fault
pub record StabHasFrames (s : RigState) (v : Stab) : Type 0 where
  pub intervals : length v.intervals.frame ≡ s.pool.shape.block
  pub stabs : length v.stabs.frame ≡ s.pool.shape.block
  pub out : s.pool.free + 2 ≤ singles_of s.pool.shape

-- It was given these commands, and no others.
pub record HasCommands (s : RigState) (v : Stab) (cs : List Command) : Type 0 where
  pub len : stab_len v ≡ length cs
  pub intervals : IsTrue s.device.told
      → writer_items s v.intervals ≡ map interval_record (intervals_after [] cs)
  pub stabs : IsTrue s.device.told → writer_items s v.stabs ≡ map asked_record (asked_from 0 0 cs)

-- What ties it to its rig. Some commands were given to it: without that `finish` couldn't know that numbers
-- rise and that points differ.
pub record IsStab (s : RigState) (v : Stab) : Type 0 where
  pub frames : StabHasFrames s v
  pub intervals : IsPairs s v.intervals
  pub stabs : IsPairs s v.stabs
  pub few : stab_len v ≤ 2 ^ 40
  pub holds : IsTrue s.device.told → Holds s (stab_blocks s v)
  pub given : List Command
  pub has : HasCommands s v given

-- A list with no command, for which two frames were lent.
pub record IsNewStab (s t : RigState) (v : Stab) : Type 0 where
  pub is : IsStab t v
  pub none : HasCommands t v []
  pub sound : Sound t
  pub touches : Touches [] s t
  pub unmoved : Unmoved s t
  pub frames : LentFrames 2 s.pool t.pool
  pub blocks : (stab_account v).blocks ≡ 0

-- One command more was given.
pub record TakesCommand (c : Command) (s t : RigState) (v w : Stab) : Type 0 where
  pub is : IsStab t w
  pub runs : Runs (stab_account w).blocks (stab_blocks s v) (stab_blocks t w) (stab_account v)
      (stab_account w) s t
  pub commands : (cs : List Command) → HasCommands s v cs → HasCommands t w (cs ++ c ∷ [])

-- It gave up: a block more was wanted at most. Only the frames are left.
pub record StopsTaking (s t : RigState) (v w : Stab) (fault : EmFault) : Type 0 where
  pub frames : StabHasFrames t w
  pub stops : Stops ((stab_account v).blocks + 1) ((stab_account v).paid + 2) 2 (stab_blocks s v)
      (stab_account v) s t fault

-- what a call that gives a command did, by its result
abbrev pub TakesTo : {T : Type 0} → Command → RigState → RigState → Stab → Stab → Result T EmFault
    → Type 0
TakesTo c s t v w (Ok x) = TakesCommand c s t v w
TakesTo c s t v w (Err fault) = StopsTaking s t v w fault

-- What such a call costs, over every device and at every exit. What the calls before moved is at most what
-- their blocks are paid.
pub record TakeCosts (s t : RigState) (v : Stab) : Type 0 where
  pub share : t.moves + (stab_account v).paid
      ≤ s.moves + stab_share s.pool.shape (stab_len v + 1)
  pub room : t.most + (stab_account v).blocks
      ≤ max (s.most + (stab_account v).blocks) (s.used + stab_room s.pool.shape (stab_len v + 1))

-- It says that the device is full only if the blocks of others and the list's room, for one command more, are
-- more than all.
abbrev pub FullOverRoom : {T : Type 0} → RigState → Stab → Result T EmFault → Type 0
FullOverRoom s v result = IfErr result (λ fault. IfFull fault (λ used.
    used + (stab_account v).blocks < s.used + stab_room s.pool.shape (stab_len v + 1)))

-- Its frames came back, and nothing was moved.
pub record LeavesStab (s t : RigState) : Type 0 where
  pub sound : Sound t
  pub touches : Touches [] s t
  pub frames : GivenFrames 2 s.pool t.pool
  pub same : t ≡ record s { pool = t.pool }
