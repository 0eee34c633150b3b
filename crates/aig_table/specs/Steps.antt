-- A step by a table, beside a queue.
use Rattle.std.specs.Prelude.{◌≡◌, ◌<◌, ◌≤◌, ℕ, ◌+◌, ◌*◌, ◌^◌, Result, Ok, Err}
use Rattle.em_record.specs.Shape.{ShapeNumbers}
use Rattle.em_frames.specs.Pool.{load_of}
use Rattle.em_space.specs.Queue.{QueueCounts}
use Rattle.em_space.specs.Rig.{Sound}
use Rattle.em_chain.specs.declared.chain.Chain.{Chain}
use Rattle.em_queued.specs.Queued.{Called, CallsOn}
use Rattle.aig_defs.specs.Circuit.{IsHeader, columns}
use Rattle.aig_defs.specs.declared.circuit.Header.{Header}
use Rattle.aig_sweep.specs.Evaluates.{HasChains}
use Rattle.aig_sweep.specs.Passes.{HasSpare}
use Rattle.aig_sweep.specs.QueueState.{QueueState}
use Rattle.aig_table.specs.Tables.{ranks_of}

-- A bit for each rank fits into an area, and one for each column into a frame.
pub record FitsFrames (h : Header) (shape : ShapeNumbers) : Type 0 where
  pub area : ranks_of h ≤ 256 * load_of shape
  pub frame : columns h ≤ 256 * shape.block

-- They fit, and the ranks are at most `limit`.
pub record Fits (limit : ℕ) (h : Header) (shape : ShapeNumbers) : Type 0 where
  pub few : ranks_of h ≤ limit
  pub frames : FitsFrames h shape

-- At most this many calls of a queue came, by the result: after a fault the last one may have been refused.
abbrev pub CallsTo : {T E : Type 0} → ℕ → QueueCounts → QueueCounts → Result T E → Type 0
CallsTo n c d (Ok x) = CallsOn n c d
CallsTo n c d (Err e) = Called n c d

-- What a step by a table wants: a queue with no item, and frames for one of its calls.
pub record CanTabulate (h : Header) (given gates bits : Chain) (q : QueueState) : Type 0 where
  pub sound : Sound q.rig
  pub free : HasSpare q.rig.pool
  pub header : IsHeader h
  pub few : q.counts.n + columns h < 2 ^ 100
  pub empty : q.counts.len ≡ 0
  pub chains : HasChains h given gates bits q
  pub area : ranks_of h ≤ 256 * load_of q.rig.pool.shape
