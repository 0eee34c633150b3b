-- A queue file that is answered pop by pop.
use Rattle.std.specs.Prelude.{◌≡◌, ℕ, ◌≤◌, ◌+◌, Option, IfSome, ◌-◌, ◌^◌, ◌⊎◌, List, map, Result, OnOk, IfErr, ◌<◌, IsTrue}
use Rattle.em_record.specs.Shape.{ShapeNumbers}
use Rattle.em_space.specs.Queue.{Shares, QueueCounts}
use Rattle.em_space.specs.Rig.{Cause, RigState, Sound, Touches}
use Rattle.em_space.specs.declared.queue.Queue.{Ghosts as QueueGhosts}
use Rattle.em_record.specs.Count.{Rose}
use Rattle.em_io.specs.Sink.{Sent, SentPart}
use Rattle.em_model.specs.Queue.{Item, Queue, AreInOrder}
use Rattle.em_record.specs.Order.{in_order}
use Rattle.em_record.specs.declared.record.Record.{Record}
use Rattle.em_answers.specs.Print.{PrintsInto}
use Rattle.em_ends.specs.Stop.{OnFault}
use Rattle.em_ends.specs.declared.stop.Stop.{Stop}
use Rattle.em_ends.specs.declared.stop.Stop.TheVariants.{Fault, Read, Write, Em}

-- the queue of the definition of the answers
abbrev pub Model : Type 0
Model = Queue

-- the record of an element
abbrev pub item_record : Item → Record
item_record x = record { a = x.key; b = x.number; c = x.value; d = 0 }

-- the records of the elements that wait, in ascending order
abbrev pub waiting_records : Queue → List Record
waiting_records q = in_order (map item_record q.waiting)

-- These items wait, and this many pushes came before, after the commands of this queue.
pub record Follows (items : List Record) (pushes : ℕ) (q : Queue) : Type 0 where
  pub items_are : items ≡ waiting_records q
  pub pushes_are : pushes ≡ q.pushes
  pub in_order : AreInOrder q

-- The text of all answers went out where the run was done or stopped at a faulty line, else a front
-- of it.
pub record Answers {T : Type 0} (took : List ℕ → List ℕ → List ℕ) (text old new : List ℕ)
    (result : Result T Stop) : Type 0 where
  pub all : OnOk result (new ≡ took old text)
  pub fault : IfErr result (λ stop. OnFault stop (new ≡ took old text))
  pub part : SentPart took old text new

-- What answers printed that may wait: the text of all answers went out or is pending if the run was done or stopped
-- at a faulty line; else, unless the output failed, a front of it.
pub record AnswersInto (took : List ℕ → List ℕ → List ℕ) (text old new pending : List ℕ)
    (result : Result (Unit {0}) Stop) : Type 0 where
  pub prints : PrintsInto took text old new pending result
  pub fault : IfErr result (λ stop. OnFault stop (Sent took old text new pending))

-- The queue is alone on the rig: all blocks in use are its own, at no moment more than its number
-- says; each was moved or isn't stored yet; and all moves were made in its calls.
pub record IsAlone (s : RigState) (c : QueueCounts) : Type 0 where
  pub used : s.used ≡ c.blocks
  pub most : s.most ≤ c.most
  pub paid : (2 ^ 64 - 1 ≤ s.moves) ⊎ (s.used ≤ s.moves + c.unstored)
  pub moved : s.moves ≤ c.spent

-- A stop of a call that answers one command: the output's count of faults rose, or the rig gave up.
abbrev pub ServeCause : ℕ → ℕ → RigState → RigState → Stop → Type 0
ServeCause faults after old new (Fault kind place) = ⊥
ServeCause faults after old new Read = ⊥
ServeCause faults after old new Write = Rose faults after
ServeCause faults after old new (Em fault) = Cause old new fault

-- What a full device says of a queue that was alone on it, and states this room or none.
pub record IsFilledBy (room : Option (ShapeNumbers → ℕ → ℕ)) (c : QueueCounts) (new : RigState)
    (used : ℕ) : Type 0 where
  pub paid : (2 ^ 64 - 1 ≤ new.moves) ⊎ (used ≤ new.moves + new.pool.shape.frames)
  pub most : used ≤ c.most
  pub small : IsTrue new.device.told → IfSome room (λ f. used < f new.pool.shape c.k)

-- All that happened on the rig were calls of a queue, which held these blocks at first.
pub record CallsOnly (held : List ℕ) (c d : QueueCounts) (s t : RigState) : Type 0 where
  pub sound : Sound t
  pub touches : Touches held s t
  pub shares : Shares c d s.pool t.pool
  pub spent : t.moves + c.spent ≡ s.moves + d.spent

-- Calls of a queue came, and then it gave its frames back.
pub record GivesUp {Q : Type 0} (queue : QueueGhosts Q) (q : Q) (s t : RigState) : Type 0 where
  pub sound : Sound t
  pub touches : Touches (queue.blocks q s) s t
  pub frames : Shares (queue.counts q) (record (queue.counts q) { frames = 0; areas = 0 }) s.pool
      t.pool

-- The moves are within what a queue is allowed for n calls, if it states an allowance.
abbrev pub WithinCalls : Option (ShapeNumbers → ℕ → ℕ → ℕ) → ShapeNumbers → ℕ → ℕ → Type 0
WithinCalls allowance shape n moves = IfSome allowance (λ f. moves ≤ f shape n n)
