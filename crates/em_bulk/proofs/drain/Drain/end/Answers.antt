use Rattle.em_space.specs.Seen.{seen}
use Rattle.em_bulk.proofs.DrainEnds.{EndSays, end_discarded, end_unfinished, tree_left}
use Rattle.em_bulk.proofs.drain.Drain.end.Given as given
use Rattle.em_bulk.proofs.drain.Drain.end.Goals as goal

pub finish-requires-clause-is : goal.finish-requires-clause-is
finish-requires-clause-is g c =
    let s = seen g.D.Device.state c.args.rig.now in
    let a = seen g.D.Device.state c.give_area.new.self in
    let e = c.give_area.ensures in
    (tree_left _ (g.S.Settle.step_of c.args.self.tree.settle) _ _ s a _ c.requires.is
    (record { sound = e.sound; touches = e.touches; given = e.given })).is

-- what the exits say
stopped : (g : given.Over) (c : goal.After-from_residual g)
    → EndSays (g.S.Settle.key_of c.args.self.tree.settle) (g.S.Settle.step_of c.args.self.tree.settle)
    (seen g.D.Device.state c.args.rig.now) (seen g.D.Device.state c.finish.new.rig) c.args.self
    c.from_residual.result
stopped g c =
    let s = seen g.D.Device.state c.args.rig.now in
    let a = seen g.D.Device.state c.give_area.new.self in
    let t = seen g.D.Device.state c.finish.new.rig in
    let e = c.give_area.ensures in
    let f = c.in_err-answers.ensures in
    end_unfinished _ _ _ _ s a _ c.requires.is (record { sound = e.sound; touches = e.touches; given = e.given }) t
    f.costs f.room c.in_err-answers.field-0.0 f.finishes f.full f.over c.from_residual.result
    c.from_residual.ensures.1

says : (g : given.Over) (c : goal.After-discard g)
    → EndSays (g.S.Settle.key_of c.args.self.tree.settle) (g.S.Settle.step_of c.args.self.tree.settle)
    (seen g.D.Device.state c.args.rig.now) (seen g.D.Device.state c.discard.new.rig) c.args.self c.discard.result
says g c =
    let s = seen g.D.Device.state c.args.rig.now in
    let a = seen g.D.Device.state c.give_area.new.self in
    let t = seen g.D.Device.state c.finish.new.rig in
    let u = seen g.D.Device.state c.discard.new.rig in
    let e = c.give_area.ensures in
    let f = c.in_ok-answers.ensures in
    let d = c.discard.ensures in
    end_discarded _ _ _ _ s a _ c.requires.is (record { sound = e.sound; touches = e.touches; given = e.given }) t
    f.costs f.room c.in_ok-answers.answers f.finishes u d.goes c.discard.result d.frees d.cause

pub returns-in_err-answers-clause-ends : goal.returns-in_err-answers-clause-ends
returns-in_err-answers-clause-ends g c = (stopped g c).ends

pub returns-in_err-answers-clause-costs : goal.returns-in_err-answers-clause-costs
returns-in_err-answers-clause-costs g c = (stopped g c).costs

pub returns-in_err-answers-clause-room : goal.returns-in_err-answers-clause-room
returns-in_err-answers-clause-room g c = (stopped g c).room

pub returns-in_err-answers-clause-over : goal.returns-in_err-answers-clause-over
returns-in_err-answers-clause-over g c = (stopped g c).over

pub returns-clause-ends : goal.returns-clause-ends
returns-clause-ends g c = (says g c).ends

pub returns-clause-full : goal.returns-clause-full
returns-clause-full g c = (says g c).full

pub returns-clause-costs : goal.returns-clause-costs
returns-clause-costs g c = (says g c).costs

pub returns-clause-room : goal.returns-clause-room
returns-clause-room g c = (says g c).room

pub returns-clause-over : goal.returns-clause-over
returns-clause-over g c = (says g c).over
