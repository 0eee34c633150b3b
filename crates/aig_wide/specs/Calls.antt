-- Calls of a queue alone.
use Rattle.std.specs.Prelude.{◌≡◌, ◌<◌, ◌^◌, ◌+◌, ◌⊎◌, ℕ, List, ◌∷◌, IsTrue, Result, Ok, Err}
use Rattle.em_record.specs.Order.{with_record}
use Rattle.em_record.specs.declared.record.Record.{Record}
use Rattle.em_space.specs.Queue.{CanServe}
use Rattle.em_space.specs.Rig.{RigState, Sound}
use Rattle.em_space.specs.declared.fault.EmFault.{EmFault}
use Rattle.em_queued.specs.Queued.{RunsBeside, StopsBeside, no_account}
use Rattle.aig_edges.specs.declared.stop.StepStop.{StepStop}
use Rattle.aig_edges.specs.declared.stop.StepStop.TheVariants as stop
use Rattle.aig_sweep.specs.QueueState.{QueueState}

-- This many calls may come, of which this many are pushes.
pub record CanCall (calls pushes : ℕ) (q : QueueState) : Type 0 where
  pub sound : Sound q.rig
  pub free : CanServe q.rig.pool
  pub few : q.counts.n + calls < 2 ^ 100
  pub limit : q.counts.len + pushes < 2 ^ 56

-- At most this many came, and none was refused.
pub record Calls (calls : ℕ) (q p : QueueState) : Type 0 where
  pub runs : RunsBeside calls 0 q.blocks p.blocks no_account no_account q.counts p.counts q.rig p.rig

-- The last one was refused.
pub record Refused (calls : ℕ) (q p : QueueState) (fault : EmFault) : Type 0 where
  pub stops : StopsBeside p.room calls 0 0 0 q.blocks no_account q.counts p.counts q.rig p.rig fault

-- The first item left, and has this word.
pub record LeavesFirst (old new : List Record) (word : ℕ) : Type 0 where
  pub first : Record
  pub is : old ≡ first ∷ new
  pub word_is : word ≡ first.c

-- The first item was taken out, and has this word.
pub record PopsWord (q p : QueueState) (word : ℕ) : Type 0 where
  pub calls : Calls 1 q p
  pub len : p.counts.len + 1 ≡ q.counts.len
  pub items : IsTrue q.rig.device.told → LeavesFirst q.items p.items word

abbrev pub PopsWordTo : QueueState → QueueState → Result ℕ EmFault → Type 0
PopsWordTo q p (Ok word) = PopsWord q p word
PopsWordTo q p (Err fault) = Refused 1 q p fault

-- A record was pushed.
pub record Pushed (item : Record) (q p : QueueState) : Type 0 where
  pub calls : Calls 1 q p
  pub len : p.counts.len ≡ q.counts.len + 1
  pub items : IsTrue q.rig.device.told → p.items ≡ with_record item q.items

abbrev pub PushedTo : {T : Type 0} → Record → QueueState → QueueState → Result T EmFault → Type 0
PushedTo item q p (Ok x) = Pushed item q p
PushedTo item q p (Err fault) = Refused 1 q p fault

-- P, unless a call on the rig was refused
abbrev pub UnlessRefused : {T : Type 0} → Result T StepStop → Type 0 → Type 0
UnlessRefused (Ok x) P = P
UnlessRefused (Err (stop.Fault kind place)) P = P
UnlessRefused (Err stop.Read) P = P
UnlessRefused (Err stop.Write) P = P
UnlessRefused (Err (stop.Em fault)) P = Unit {0}

-- The queue and the rig are what they were, and no byte of the stimulus was taken.
pub record Rests {Q : Type 0} (s t : RigState) (x y : Q) (place later : ℕ) : Type 0 where
  pub queue : y ≡ x
  pub rig : t ≡ s
  pub none_taken : later ≡ place

-- the queue and the rig are what they were, unless a byte of the stimulus was taken
abbrev pub CallsAfterByte : {Q : Type 0} → RigState → RigState → Q → Q → ℕ → ℕ → Type 0
CallsAfterByte s t x y place later = ((y ≡ x) × (t ≡ s)) ⊎ (place < later)

-- nothing was done yet, or the first of these items was read, which took a byte
abbrev pub BeginsAfter : {Q : Type 0} → ℕ → RigState → RigState → Q → Q → ℕ → ℕ → Type 0
BeginsAfter count s t x y place later = ((count ≡ 0) × Rests s t x y place later) ⊎ ((0 < count) × (place < later))
