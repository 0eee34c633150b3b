use Rattle.std.proofs.Common.{◌+◌, ◌<◌, ◌≤◌, IsTrue, ap, arith, length}
use Rattle.em_settle.specs.Add.{apply_of}
use Rattle.em_settle.specs.AddLaws.{apply_joins}
use Rattle.em_settle.specs.declared.add.AddSettle.{AddSettle}
use Rattle.em_space.specs.Seen.{seen}
use Rattle.em_chain.proofs.Parts.{err_of}
use Rattle.em_combine.specs.Joining.{JoinsLoad}
use Rattle.em_map.specs.Batch.{entries_of, rule_of, trunk_of}
use Rattle.em_map.specs.Loading.{LoadOver, answers_in}
use Rattle.em_map.proofs.Entering.{entered_batch, joined_few, joined_ops, joins_by, left_later, over_entered, room_entered}
use Rattle.em_map.proofs.batch.Batch.enter.Given as given
use Rattle.em_map.proofs.batch.Batch.enter.Goals.{After-records}
use Rattle.em_map.proofs.batch.Batch.enter.Goals as goal

-- The load was joined,
module _ (g : given.Over) (c : After-records g) where
  joins : JoinsLoad (rule_of c.args.self.now) c.args.load.now.items c.records.result.now
  joins = joins_by (rule_of c.args.self.now) _ c.args.load.now.items c.join.new.self.items c.records.result.now
      (ap (λ (z : AddSettle _). apply_of z.kind) c.rules.ensures) c.records.ensures c.join.ensures.joins

  -- and no operation came to it.
  fewer : length c.records.result.now ≤ length c.args.load.now.items
  fewer = joined_few (rule_of c.args.self.now) c.args.load.now.items c.records.result.now joins

pub push_all-requires-clause-few : goal.push_all-requires-clause-few
push_all-requires-clause-few g c =
    let few = fewer g ((goal.at.push_all-requires-clause-few g c).After-records) in
    omega (arith, few, c.requires.can.pushed)

pub push_all-requires-clause-ops : goal.push_all-requires-clause-ops
push_all-requires-clause-ops g c =
    joined_ops (rule_of c.args.self.now) c.args.load.now.items c.records.result.now
    (joins g ((goal.at.push_all-requires-clause-ops g c).After-records)) c.requires.can.are

pub push_all-requires-clause-later : goal.push_all-requires-clause-later
push_all-requires-clause-later g c =
    left_later (rule_of c.args.self.now) c.args.self.now.calls c.args.load.now.items c.records.result.now
    c.requires.can.few c.requires.can.follow (joins g ((goal.at.push_all-requires-clause-later g c).After-records))
    (seen g.D.Device.state c.args.rig.now) (trunk_of c.args.self.now) c.requires.can.waits

pub returns-in_err-push_all-clause-some : goal.returns-in_err-push_all-clause-some
returns-in_err-push_all-clause-some g c =
    let few = fewer g ((goal.at.returns-in_err-push_all-clause-some g c).After-records) in
    err_of _ _ (λ fault. 0 < length c.args.load.now.items) c.from_residual.ensures.1
    (omega (arith, few, c.in_err-push_all.ensures.some))

pub returns-in_err-push_all-clause-room : goal.returns-in_err-push_all-clause-room
returns-in_err-push_all-clause-room g c = λ told.
    room_entered (rule_of c.args.self.now) c.args.load.now.items c.records.result.now
    (seen g.D.Device.state c.args.rig.now) (trunk_of c.args.self.now) c.requires.sound c.requires.can.is
    c.requires.can.longest (joins g ((goal.at.returns-in_err-push_all-clause-room g c).After-records)) told
    (seen g.D.Device.state c.push_all.new.rig) (c.push_all.ensures.room told)

pub returns-in_err-push_all-clause-over : goal.returns-in_err-push_all-clause-over
returns-in_err-push_all-clause-over g c =
    let b = c.args.self.now in
    let s = seen g.D.Device.state c.args.rig.now in
    let n = length c.args.load.now.items in
    err_of _ _ (λ fault. IsTrue s.device.told
    → LoadOver (entries_of b + n) (answers_in (rule_of b) s (trunk_of b) + n) s (trunk_of b) fault)
    c.from_residual.ensures.1 (λ told. over_entered (rule_of b) c.args.load.now.items c.records.result.now s (trunk_of b)
    c.requires.sound c.requires.can.is c.requires.can.longest (joins g ((goal.at.returns-in_err-push_all-clause-over g c).After-records)) told _
    (c.in_err-push_all.ensures.over told))

pub returns-clause-enters : goal.returns-clause-enters
returns-clause-enters g c =
    let b = c.args.self.now in
    entered_batch b (record b { tree = c.push_all.new.tree }) c.args.load.now.items c.records.result.now
    (seen g.D.Device.state c.args.rig.now) (seen g.D.Device.state c.push_all.new.rig) (apply_joins b.tree.settle.kind)
    c.requires.can (joins g ((goal.at.returns-clause-enters g c).After-records)) c.in_ok-push_all.ensures.pushes

pub returns-clause-room : goal.returns-clause-room
returns-clause-room g c = λ told.
    room_entered (rule_of c.args.self.now) c.args.load.now.items c.records.result.now
    (seen g.D.Device.state c.args.rig.now) (trunk_of c.args.self.now) c.requires.sound c.requires.can.is
    c.requires.can.longest (joins g ((goal.at.returns-clause-room g c).After-records)) told (seen g.D.Device.state c.push_all.new.rig)
    (c.push_all.ensures.room told)
