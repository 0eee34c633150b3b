-- The columns of a step become messages of a queue.
use Rattle.std.specs.Prelude.{◌≡◌, ℕ, ◌+◌, Bool, List, [], ◌∷◌, length, IsTrue, Result, Ok, Err}
use Rattle.em_record.specs.declared.record.Record.{Record}
use Rattle.em_space.specs.Rig.{RigState}
use Rattle.em_space.specs.declared.fault.EmFault.{EmFault}
use Rattle.em_space.specs.declared.queue.Queue.{Ghosts as QueueGhosts}
use Rattle.em_queued.specs.Queued.{RunsBeside, StopsBeside, no_account}
use Rattle.aig_sweep.specs.Messages.{word}

-- the message of the column with this number
abbrev pub column_message : ℕ → Bool → Record
column_message n bit = record { a = n; b = 0; c = word bit; d = 0 }

-- those of columns that are numbered from n
abbrev pub column_messages : ℕ → List Bool → List Record
column_messages n [] = []
column_messages n (b ∷ bits) = column_message n b ∷ column_messages (n + 1) bits

-- The messages of these columns were pushed into a queue with no item.
pub record PushesColumns {Q : Type 0} (q : QueueGhosts Q) (bits : List Bool) (x y : Q) (s t : RigState)
    : Type 0 where
  pub runs : RunsBeside (length bits) 0 (q.blocks x s) (q.blocks y t) no_account no_account (q.counts x)
      (q.counts y) s t
  pub len : (q.counts y).len ≡ length bits
  pub items : IsTrue s.device.told → q.items y t ≡ column_messages 0 bits

-- what pushing n messages did, by the result
abbrev pub PushesColumnsTo : {T Q : Type 0} → QueueGhosts Q → ℕ → List Bool → Q → Q → RigState → RigState
    → Result T EmFault → Type 0
PushesColumnsTo q n bits x y s t (Ok done) = PushesColumns q bits x y s t
PushesColumnsTo q n bits x y s t (Err fault) =
    StopsBeside q.room n 0 0 0 (q.blocks x s) no_account (q.counts x) (q.counts y) s t fault
