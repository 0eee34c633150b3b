-- What making an evaluator of groups does.
use Rattle.std.specs.Prelude.{Result, Ok, Err}
use Rattle.em_space.specs.Rig.{RigState}
use Rattle.em_space.specs.declared.fault.EmFault.{EmFault}
use Rattle.em_space.specs.declared.queue.Queue.{Ghosts}
use Rattle.aig_edges.specs.declared.graph.Ordered.{Ordered}
use Rattle.aig_sweep.specs.Sweeper.{BeginsSweeper, FailsToBegin}
use Rattle.aig_wide.specs.declared.evaluator.WideEvaluator.{WideEvaluator}

-- by the result
abbrev pub BeginsWideTo : {Q : Type 0} → Ghosts Q → RigState → RigState → Ordered → Q
    → Result (WideEvaluator Q) EmFault → Type 0
BeginsWideTo queue s t o q (Ok e) = BeginsSweeper queue s t o q e.sweeper
BeginsWideTo queue s t o q (Err fault) = FailsToBegin queue s t o q fault
