use Rattle.em_settle.specs.Laws.{IsSettle}
use Rattle.em_space.specs.Seen.{seen}
use Rattle.std.proofs.Common.{Err, IsTrue, refl}
use Rattle.em_tree.proofs.TakeCall.{take_can, take_err, take_later, take_needs, take_rest, take_room, take_some, take_spent, take_works}
use Rattle.em_tree.proofs.tree.Tree.take_first.Given as given
use Rattle.em_tree.proofs.tree.Tree.take_first.Goals as goal
use Rattle.em_tree.proofs.RoomCalls.{full_as}
use Rattle.em_trunk.specs.Room.{FullOverRoom}

-- what the tree's rule promises
laws : (g : given.Over) (settle : g.row.S.Denot)
    → IsSettle (g.S.Settle.key_of settle) (g.S.Settle.step_of settle) (g.S.Settle.IsOp settle)
    (g.S.Settle.IsKept settle)
laws g settle = record {
  in_order = g.met.S.Settle.in_order settle;
  keeps = g.met.S.Settle.keeps settle;
  keeps_key = g.met.S.Settle.keeps_key settle;
  stays_below = g.met.S.Settle.stays_below settle;
}

pub take_all_first-taken-requires-clause-can : goal.take_all_first-taken-requires-clause-can
take_all_first-taken-requires-clause-can g c =
    take_works _ (g.S.Settle.step_of c.args.self.now.settle) _ _ c.shape.result c.shape.ensures
    c.count_all.ensures c.requires.sound c.requires.is c.requires.free

pub take_all_first-taken-requires-clause-take : goal.take_all_first-taken-requires-clause-take
take_all_first-taken-requires-clause-take g c =
    take_can _ (g.S.Settle.step_of c.args.self.now.settle) _ _ c.shape.result c.shape.ensures
    c.count_all.ensures c.requires.sound c.requires.is

pub count_moves-requires-clause-later : goal.count_moves-requires-clause-later
count_moves-requires-clause-later g c =
    let called = c.take_all_first-taken in
    take_later _ _ _ _ c.shape.result c.shape.ensures c.count_all.ensures c.requires.sound c.requires.is
    (laws g c.args.self.now.settle) (seen g.D.Device.state called.new.rig) called.new.trunk called.new.into
    c.moves-before.ensures called.result called.ensures.takes

pub count_moves-requires-clause-spent : goal.count_moves-requires-clause-spent
count_moves-requires-clause-spent g c =
    let called = c.take_all_first-taken in
    take_spent _ _ _ _ c.shape.result c.shape.ensures c.count_all.ensures c.requires.sound c.requires.is
    (laws g c.args.self.now.settle) (seen g.D.Device.state called.new.rig) called.new.trunk called.new.into
    c.moves-before.ensures called.result called.ensures.takes

pub returns-in_err-count : goal.returns-in_err-count
returns-in_err-count g c =
    let called = c.take_all_first-taken in
    let s = seen g.D.Device.state c.args.rig.now in
    let result = c.from_residual.result in
    let fault = c.in_err-count.field-0.0 in
    let is_fault = c.from_residual.ensures.1 in
    let stopped = c.in_err-count.ensures.takes in
    let rule = laws g c.args.self.now.settle in
    let ends = take_err _ _ _ _ c.shape.result c.shape.ensures c.count_all.ensures c.requires.sound c.requires.is
    rule (seen g.D.Device.state called.new.rig) called.new.trunk called.new.into c.moves-before.ensures
    c.count_moves.ensures refl result fault is_fault stopped in
    record {
      rule = refl;
      len = called.ensures.len;
      takes = ends.0;
      needs = take_needs _ (g.S.Settle.step_of c.args.self.now.settle) _ _ c.shape.result c.shape.ensures
          c.count_all.ensures c.requires.sound c.requires.is result fault is_fault stopped;
      counts = ends.1;
      room = λ told. (take_room _ (g.S.Settle.step_of c.args.self.now.settle) _ _ c.shape.result c.shape.ensures
          c.count_all.ensures c.requires.sound c.requires.is called.new.into called.new.trunk called.result
          called.ensures.takes told).0;
      over = full_as result fault (λ f. IsTrue s.device.told → FullOverRoom c.args.self.now.trunk.longest s
          c.args.self.now.trunk f) is_fault (λ told. (take_room _ (g.S.Settle.step_of c.args.self.now.settle) _ _
          c.shape.result c.shape.ensures c.count_all.ensures c.requires.sound c.requires.is called.new.into
          called.new.trunk (Err fault) stopped told).1);
    }

pub returns-then-not-reset : goal.returns-then-not-reset
returns-then-not-reset g c =
    let called = c.take_all_first-taken in
    let ends = take_some _ _ _ _ c.shape.result c.shape.ensures c.count_all.ensures c.requires.sound
    c.requires.is (laws g c.args.self.now.settle) (seen g.D.Device.state called.new.rig) called.new.trunk
    called.new.into c.moves-before.ensures c.count_moves.ensures refl c.in_ok-count.field-0
    c.in_ok-count.ensures.takes c.if-not-reset.true in
    record {
      rule = refl;
      len = called.ensures.len;
      takes = ends.0;
      needs = tt;
      counts = ends.1;
      room = λ told. (take_room _ (g.S.Settle.step_of c.args.self.now.settle) _ _ c.shape.result c.shape.ensures
          c.count_all.ensures c.requires.sound c.requires.is called.new.into called.new.trunk called.result
          called.ensures.takes told).0;
      over = tt;
    }

pub returns : goal.returns
returns g c =
    let called = c.take_all_first-taken in
    let ends = take_rest _ _ _ _ c.shape.result c.shape.ensures c.count_all.ensures c.requires.sound
    c.requires.is (laws g c.args.self.now.settle) (seen g.D.Device.state called.new.rig) called.new.trunk
    called.new.into c.moves-before.ensures c.count_moves.ensures refl c.in_ok-count.field-0
    c.in_ok-count.ensures.takes c.count_reset.ensures c.if-not-reset.false c.requires.few in
    record {
      rule = refl;
      len = called.ensures.len;
      takes = ends.0;
      needs = tt;
      counts = ends.1;
      room = λ told. (take_room _ (g.S.Settle.step_of c.args.self.now.settle) _ _ c.shape.result c.shape.ensures
          c.count_all.ensures c.requires.sound c.requires.is called.new.into called.new.trunk called.result
          called.ensures.takes told).0;
      over = tt;
    }
