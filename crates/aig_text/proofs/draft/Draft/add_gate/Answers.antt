use Rattle.em_space.specs.Seen.{seen}
use Rattle.aig_text.proofs.Drafts.{adds_gate}
use Rattle.aig_text.proofs.draft.Draft.add_gate.Goals as goal

pub returns-clause-drafts : goal.returns-clause-drafts
returns-clause-drafts g c =
    let e = c.append.ensures in
    adds_gate (seen g.D.Device.state c.args.rig.now) (seen g.D.Device.state c.append.new.rig)
    c.args.self.now c.append.new.self c.above_operands-self.result c.args.item c.append.result c.above_operands-self.ensures
    c.requires.sound
    c.requires.is e.goes e.appends e.spends e.cause
