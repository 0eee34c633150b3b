use Rattle.std.proofs.Common.{◌+◌, IsTrue}
use Rattle.std.specs.Prelude.{max}
use Rattle.em_space.specs.Seen.{seen}
use Rattle.em_tree.proofs.PushBegins.{call_can, call_works}
use Rattle.em_tree.proofs.PushEnds.{call_counts, call_needs, call_pushes, call_room}
use Rattle.em_tree.proofs.tree.Tree.push.Goals as goal
use Rattle.em_tree.proofs.RoomCalls.{err_told}
use Rattle.em_trunk.specs.Room.{FullOverRoom}

pub push_op-pushed-requires-clause-can : goal.push_op-pushed-requires-clause-can
push_op-pushed-requires-clause-can g c =
    call_works c.requires.sound c.requires.few c.requires.is c.count_push.new.self c.shape.result
    c.shape.ensures c.count_push.ensures c.requires.free

pub push_op-pushed-requires-clause-push : goal.push_op-pushed-requires-clause-push
push_op-pushed-requires-clause-push g c =
    let settle = c.args.self.now.settle in
    call_can c.requires.sound c.requires.few c.requires.is c.count_push.new.self c.shape.result
    c.shape.ensures c.count_push.ensures (g.S.Settle.step_of settle) c.args.op
    (record {
      in_order = g.met.S.Settle.in_order settle;
      keeps = g.met.S.Settle.keeps settle;
      keeps_key = g.met.S.Settle.keeps_key settle;
      stays_below = g.met.S.Settle.stays_below settle;
    })
    c.requires.op c.requires.later

pub returns-clause-pushes : goal.returns-clause-pushes
returns-clause-pushes g c =
    let settle = c.args.self.now.settle in
    call_pushes (g.S.Settle.key_of settle) (g.S.Settle.step_of settle) (g.S.Settle.IsOp settle)
    (g.S.Settle.IsKept settle) c.args.op (seen g.D.Device.state c.args.rig.now)
    (seen g.D.Device.state c.push_op-pushed.new.rig) c.args.self.now.trunk c.push_op-pushed.new.trunk
    c.requires.sound c.requires.few c.requires.is c.count_push.new.self c.count_moves.new.self
    c.shape.result c.moves-before.result c.shape.ensures c.moves-before.ensures c.count_push.ensures
    c.count_moves.ensures c.push_op-pushed.result c.push_op-pushed.ensures.pushes
    (record {
      in_order = g.met.S.Settle.in_order settle;
      keeps = g.met.S.Settle.keeps settle;
      keeps_key = g.met.S.Settle.keeps_key settle;
      stays_below = g.met.S.Settle.stays_below settle;
    })
    c.requires.op c.requires.later

pub returns-clause-needs : goal.returns-clause-needs
returns-clause-needs g c =
    let settle = c.args.self.now.settle in
    call_needs (g.S.Settle.key_of settle) (g.S.Settle.step_of settle) (g.S.Settle.IsOp settle)
    (g.S.Settle.IsKept settle) c.args.op (seen g.D.Device.state c.args.rig.now)
    (seen g.D.Device.state c.push_op-pushed.new.rig) c.args.self.now.trunk c.push_op-pushed.new.trunk
    c.requires.sound c.requires.few c.requires.is c.count_push.new.self c.count_moves.new.self
    c.shape.result c.moves-before.result c.shape.ensures c.moves-before.ensures c.count_push.ensures
    c.count_moves.ensures c.push_op-pushed.result c.push_op-pushed.ensures.pushes

pub returns-clause-counts : goal.returns-clause-counts
returns-clause-counts g c =
    let settle = c.args.self.now.settle in
    call_counts (g.S.Settle.key_of settle) (g.S.Settle.step_of settle) (g.S.Settle.IsOp settle)
    (g.S.Settle.IsKept settle) c.args.op (seen g.D.Device.state c.args.rig.now)
    (seen g.D.Device.state c.push_op-pushed.new.rig) c.args.self.now.trunk c.push_op-pushed.new.trunk
    c.requires.sound c.requires.few c.requires.is c.count_push.new.self c.count_moves.new.self
    c.shape.result c.moves-before.result c.shape.ensures c.moves-before.ensures c.count_push.ensures
    c.count_moves.ensures c.push_op-pushed.result c.push_op-pushed.ensures.pushes

pub returns-clause-room : goal.returns-clause-room
returns-clause-room g c told =
    let settle = c.args.self.now.settle in
    (call_room (g.S.Settle.key_of settle) (g.S.Settle.step_of settle) (g.S.Settle.IsOp settle)
    (g.S.Settle.IsKept settle) c.args.op (seen g.D.Device.state c.args.rig.now)
    (seen g.D.Device.state c.push_op-pushed.new.rig) c.args.self.now.trunk c.push_op-pushed.new.trunk
    c.requires.sound c.requires.few c.requires.is c.count_push.new.self c.count_moves.new.self
    c.shape.result c.moves-before.result c.shape.ensures c.moves-before.ensures c.count_push.ensures
    c.count_moves.ensures c.push_op-pushed.result c.push_op-pushed.ensures.pushes told).0

pub returns-clause-over : goal.returns-clause-over
returns-clause-over g c =
    let settle = c.args.self.now.settle in
    let s = seen g.D.Device.state c.args.rig.now in
    err_told c.push_op-pushed.result (FullOverRoom (max c.args.self.now.trunk.longest (c.args.self.now.trunk.since + 1)) s
    c.args.self.now.trunk) (IsTrue s.device.told) (λ told. (call_room (g.S.Settle.key_of settle) (g.S.Settle.step_of settle) (g.S.Settle.IsOp settle)
    (g.S.Settle.IsKept settle) c.args.op (seen g.D.Device.state c.args.rig.now)
    (seen g.D.Device.state c.push_op-pushed.new.rig) c.args.self.now.trunk c.push_op-pushed.new.trunk
    c.requires.sound c.requires.few c.requires.is c.count_push.new.self c.count_moves.new.self
    c.shape.result c.moves-before.result c.shape.ensures c.moves-before.ensures c.count_push.ensures
    c.count_moves.ensures c.push_op-pushed.result c.push_op-pushed.ensures.pushes told).1)
