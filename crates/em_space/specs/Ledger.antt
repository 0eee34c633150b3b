-- A ledger of blocks and moves, and a session of calls on values that hold blocks.
use Rattle.std.specs.Prelude.{◌≡◌, ℕ, ◌+◌, ◌<◌, ◌≤◌, max, List, IsTrue, Result, Ok, Err}
use Rattle.em_frames.specs.Pool.{SameFrames}
use Rattle.em_space.specs.Held.{Holds, Within}
use Rattle.em_space.specs.Queue.{Pays}
use Rattle.em_space.specs.Rig.{RigState, Sound, Touches, Goes, Cause, IfFull}
use Rattle.em_space.specs.declared.fault.EmFault.{EmFault}

-- What a value has at one moment: its blocks; those of them that weren't stored since they came into
-- use; the moves that were paid into its blocks; and the moves that it may still make.
pub record Account : Type 0 where
  pub blocks : ℕ
  pub unstored : ℕ
  pub paid : ℕ
  pub owed : ℕ

-- the accounts of two values together
abbrev pub both : Account → Account → Account
both a b = record {
  blocks = a.blocks + b.blocks;
  unstored = a.unstored + b.unstored;
  paid = a.paid + b.paid;
  owed = a.owed + b.owed;
}

-- this many moves more were paid
abbrev pub moved : ℕ → Account → Account
moved n a = record a { paid = a.paid + n }

-- Calls on a value that had the first account and has the second. At no moment did it hold more
-- blocks than the peak, nor does it now.
pub record Spends (peak : ℕ) (a b : Account) (old new : RigState) : Type 0 where
  pub held : b.blocks ≤ peak
  pub used : new.used + a.blocks ≡ old.used + b.blocks
  pub most : new.most + a.blocks ≤ max (old.most + a.blocks) (old.used + peak)
  pub moves : new.moves + a.paid + b.owed ≤ old.moves + a.owed + b.paid
  pub later : old.moves ≤ new.moves
  pub pays : Pays a.unstored b.unstored old new

-- Calls that gave up, with this many moves at most beyond those that are accounted for, and with this many
-- blocks at most that aren't stored. They are full only if they hadn't the blocks of the peak.
pub record Halts (peak limit unstored : ℕ) (a : Account) (old new : RigState) (fault : EmFault)
    : Type 0 where
  pub used : new.used + a.blocks ≤ old.used + peak
  pub full : IfFull fault (λ _. new.used + a.blocks < old.used + peak)
  pub most : new.most + a.blocks ≤ max (old.most + a.blocks) (old.used + peak)
  pub moves : new.moves + a.paid ≤ old.moves + a.owed + limit
  pub later : old.moves ≤ new.moves
  pub pays : Pays a.unstored unstored old new

-- what a call spent, by its result
abbrev pub Costs : {T : Type 0} → ℕ → ℕ → ℕ → Account → Account → RigState → RigState
    → Result T EmFault → Type 0
Costs peak limit unstored a b old new (Ok x) = Spends peak a b old new
Costs peak limit unstored a b old new (Err fault) = Halts peak limit unstored a old new fault

-- Calls on values that held the first blocks at first and hold the others now: all that they hold
-- was held, or wasn't in use.
pub record Session (held : List ℕ) (first now : RigState) (ks : List ℕ) : Type 0 where
  pub sound : Sound now
  pub touches : Touches held first now
  pub within : Within first held ks
  pub holds : IsTrue first.device.told → Holds now ks

-- A session with its ledger, which has as many frames free as before.
pub record Runs (peak : ℕ) (held ks : List ℕ) (a b : Account) (first now : RigState) : Type 0 where
  pub session : Session held first now ks
  pub frames : SameFrames first.pool now.pool
  pub spends : Spends peak a b first now

-- Such calls, of which the last one gave up.
pub record Stops (peak limit unstored : ℕ) (held : List ℕ) (a : Account) (first now : RigState)
    (fault : EmFault) : Type 0 where
  pub goes : Goes held first now
  pub halts : Halts peak limit unstored a first now fault
  pub cause : Cause first now fault
