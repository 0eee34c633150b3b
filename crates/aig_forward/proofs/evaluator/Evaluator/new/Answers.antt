use Rattle.em_space.specs.Seen.{seen}
use Rattle.aig_sweep.proofs.SweepRoom.{begins_err}
use Rattle.aig_forward.proofs.evaluator.Evaluator.new.Goals as goal

pub returns-in_err-sweeper-clause-room : goal.returns-in_err-sweeper-clause-room
returns-in_err-sweeper-clause-room g c =
    begins_err g.Q.Queue (seen g.D.Device.state c.args.rig.now) (seen g.D.Device.state c.new.new.rig)
    c.args.ordered c.args.queue _ _ c.from_residual.ensures.1 c.in_err-sweeper.ensures.room

pub returns-clause-room : goal.returns-clause-room
returns-clause-room g c = c.in_ok-sweeper.ensures.room
