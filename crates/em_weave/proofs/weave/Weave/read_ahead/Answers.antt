use Rattle.em_space.specs.Seen.{seen}
use Rattle.em_weave.proofs.Weavings.{left_ahead, left_stops, ahead_by, both_err}
use Rattle.em_weave.proofs.weave.Weave.read_ahead.Goals as goal

pub returns-in_err-read_ahead-clause-reads : goal.returns-in_err-read_ahead-clause-reads
returns-in_err-read_ahead-clause-reads g c =
    both_err (seen g.D.Device.state c.args.rig.now) (seen g.D.Device.state c.read_ahead.new.rig)
    c.args.self.now _ c.from_residual.result _ c.from_residual.ensures.1
    (left_stops c.args.self.now c.in_err-read_ahead.ensures.reads)

pub read_ahead-requires-2-clause-is : goal.read_ahead-requires-2-clause-is
read_ahead-requires-2-clause-is g c =
    (left_ahead c.requires.is c.in_ok-read_ahead.ensures.reads c.read_ahead.ensures.frame).wove.is.right

pub returns-clause-reads : goal.returns-clause-reads
returns-clause-reads g c =
    let h = c.in_ok-read_ahead.ensures.reads in
    ahead_by (seen g.D.Device.state c.args.rig.now) (seen g.D.Device.state c.read_ahead.new.rig)
    (seen g.D.Device.state c.read_ahead-2.new.rig) c.args.self.now c.read_ahead.new.self c.read_ahead-2.new.self
    c.read_ahead-2.result h (left_ahead c.requires.is h c.read_ahead.ensures.frame)
    c.read_ahead-2.ensures.reads c.read_ahead-2.ensures.frame
