use Rattle.std.proofs.Common.{IsTrue}
use Rattle.em_space.specs.Seen.{seen}
use Rattle.em_tree.proofs.FinishCall.{call_given, call_given_costs, call_given_full, call_given_room, call_left, call_left_costs, call_left_full, call_left_room}
use Rattle.em_tree.proofs.SettlingBegins.{begins_finishes, begins_works}
use Rattle.em_tree.proofs.tree.Tree.finish.Goals as goal
use Rattle.em_tree.proofs.RoomCalls.{err_told}
use Rattle.em_trunk.specs.Room.{FullOverRoom}

pub finish_blocks-requires-clause-can : goal.finish_blocks-requires-clause-can
finish_blocks-requires-clause-can g c =
    begins_works c.shape.result c.shape.ensures c.count_settling.ensures c.requires.sound c.requires.free
    c.requires.few c.requires.is

pub finish_blocks-requires-clause-finish : goal.finish_blocks-requires-clause-finish
finish_blocks-requires-clause-finish g c =
    begins_finishes c.shape.result c.shape.ensures c.count_settling.ensures c.requires.sound c.requires.is

pub returns-in-Ok-clause-full : goal.returns-in-Ok-clause-full
returns-in-Ok-clause-full g c =
    let settle = c.args.self.settle in
    call_given_full (g.S.Settle.key_of settle) (g.S.Settle.step_of settle) (g.S.Settle.IsOp settle)
    (g.S.Settle.IsKept settle) (seen g.D.Device.state c.args.rig.now)
    (seen g.D.Device.state c.finish_blocks.new.rig) (seen g.D.Device.state c.into_answers.new.rig)
    c.args.self.trunk c.count_settling.new.self c.finish_blocks.new.trunk c.shape.result c.shape.ensures
    c.count_settling.ensures c.requires.sound c.requires.few c.requires.is c.into_answers.result
    c.in-Ok.ensures.finishes c.into_answers.ensures

pub returns-in-Ok-clause-finishes : goal.returns-in-Ok-clause-finishes
returns-in-Ok-clause-finishes g c =
    let settle = c.args.self.settle in
    call_given (g.S.Settle.key_of settle) (g.S.Settle.step_of settle) (g.S.Settle.IsOp settle)
    (g.S.Settle.IsKept settle) (seen g.D.Device.state c.args.rig.now)
    (seen g.D.Device.state c.finish_blocks.new.rig) (seen g.D.Device.state c.into_answers.new.rig)
    c.args.self.trunk c.count_settling.new.self c.finish_blocks.new.trunk c.shape.result c.shape.ensures
    c.count_settling.ensures c.requires.sound c.requires.few c.requires.is c.into_answers.result
    c.in-Ok.ensures.finishes c.into_answers.ensures

pub returns-in-Ok-clause-costs : goal.returns-in-Ok-clause-costs
returns-in-Ok-clause-costs g c =
    let settle = c.args.self.settle in
    call_given_costs (g.S.Settle.key_of settle) (g.S.Settle.step_of settle) (g.S.Settle.IsOp settle)
    (g.S.Settle.IsKept settle) (seen g.D.Device.state c.args.rig.now)
    (seen g.D.Device.state c.finish_blocks.new.rig) (seen g.D.Device.state c.into_answers.new.rig)
    c.args.self.trunk c.count_settling.new.self c.finish_blocks.new.trunk c.shape.result c.shape.ensures
    c.count_settling.ensures c.requires.sound c.requires.few c.requires.is c.into_answers.result
    c.in-Ok.ensures.finishes c.into_answers.ensures c.in-Ok.ensures.unused

pub returns-clause-full : goal.returns-clause-full
returns-clause-full g c =
    let settle = c.args.self.settle in
    call_left_full (g.S.Settle.key_of settle) (g.S.Settle.step_of settle) (g.S.Settle.IsOp settle)
    (g.S.Settle.IsKept settle) (seen g.D.Device.state c.args.rig.now)
    (seen g.D.Device.state c.finish_blocks.new.rig) (seen g.D.Device.state c.abandon.new.rig)
    c.args.self.trunk c.count_settling.new.self c.finish_blocks.new.trunk c.shape.result c.shape.ensures
    c.count_settling.ensures c.requires.sound c.requires.few c.requires.is c.in-Err.fault c.in-Err.ensures.finishes
    c.abandon.ensures c.in-Err.ensures.full

pub returns-clause-finishes : goal.returns-clause-finishes
returns-clause-finishes g c =
    let settle = c.args.self.settle in
    call_left (g.S.Settle.key_of settle) (g.S.Settle.step_of settle) (g.S.Settle.IsOp settle)
    (g.S.Settle.IsKept settle) (seen g.D.Device.state c.args.rig.now)
    (seen g.D.Device.state c.finish_blocks.new.rig) (seen g.D.Device.state c.abandon.new.rig)
    c.args.self.trunk c.count_settling.new.self c.finish_blocks.new.trunk c.shape.result c.shape.ensures
    c.count_settling.ensures c.requires.sound c.requires.few c.requires.is c.in-Err.fault c.in-Err.ensures.finishes
    c.abandon.ensures

pub returns-clause-costs : goal.returns-clause-costs
returns-clause-costs g c =
    let settle = c.args.self.settle in
    call_left_costs (g.S.Settle.key_of settle) (g.S.Settle.step_of settle) (g.S.Settle.IsOp settle)
    (g.S.Settle.IsKept settle) (seen g.D.Device.state c.args.rig.now)
    (seen g.D.Device.state c.finish_blocks.new.rig) (seen g.D.Device.state c.abandon.new.rig)
    c.args.self.trunk c.count_settling.new.self c.finish_blocks.new.trunk c.shape.result c.shape.ensures
    c.count_settling.ensures c.requires.sound c.requires.few c.requires.is c.in-Err.fault c.in-Err.ensures.finishes
    c.abandon.ensures c.in-Err.ensures.unused

pub returns-in-Ok-clause-room : goal.returns-in-Ok-clause-room
returns-in-Ok-clause-room g c told =
    let settle = c.args.self.settle in
    (call_given_room (g.S.Settle.key_of settle) (g.S.Settle.step_of settle) (g.S.Settle.IsOp settle)
    (g.S.Settle.IsKept settle) (seen g.D.Device.state c.args.rig.now)
    (seen g.D.Device.state c.finish_blocks.new.rig) (seen g.D.Device.state c.into_answers.new.rig)
    c.args.self.trunk c.count_settling.new.self c.finish_blocks.new.trunk c.shape.result c.shape.ensures
    c.count_settling.ensures c.requires.sound c.requires.few c.requires.is c.into_answers.result
    c.in-Ok.ensures.finishes c.into_answers.ensures told).0

pub returns-in-Ok-clause-over : goal.returns-in-Ok-clause-over
returns-in-Ok-clause-over g c =
    let settle = c.args.self.settle in
    let s = seen g.D.Device.state c.args.rig.now in
    err_told c.into_answers.result (FullOverRoom c.args.self.trunk.longest s c.args.self.trunk)
    (IsTrue s.device.told) (λ told. (call_given_room (g.S.Settle.key_of settle) (g.S.Settle.step_of settle) (g.S.Settle.IsOp settle)
    (g.S.Settle.IsKept settle) (seen g.D.Device.state c.args.rig.now)
    (seen g.D.Device.state c.finish_blocks.new.rig) (seen g.D.Device.state c.into_answers.new.rig)
    c.args.self.trunk c.count_settling.new.self c.finish_blocks.new.trunk c.shape.result c.shape.ensures
    c.count_settling.ensures c.requires.sound c.requires.few c.requires.is c.into_answers.result
    c.in-Ok.ensures.finishes c.into_answers.ensures told).1)

pub returns-clause-room : goal.returns-clause-room
returns-clause-room g c told =
    let settle = c.args.self.settle in
    (call_left_room (g.S.Settle.key_of settle) (g.S.Settle.step_of settle) (g.S.Settle.IsOp settle)
    (g.S.Settle.IsKept settle) (seen g.D.Device.state c.args.rig.now)
    (seen g.D.Device.state c.finish_blocks.new.rig) (seen g.D.Device.state c.abandon.new.rig)
    c.args.self.trunk c.count_settling.new.self c.finish_blocks.new.trunk c.shape.result c.shape.ensures
    c.count_settling.ensures c.requires.sound c.requires.few c.requires.is c.in-Err.fault c.in-Err.ensures.finishes
    c.abandon.ensures told).0

pub returns-clause-over : goal.returns-clause-over
returns-clause-over g c told =
    let settle = c.args.self.settle in
    (call_left_room (g.S.Settle.key_of settle) (g.S.Settle.step_of settle) (g.S.Settle.IsOp settle)
    (g.S.Settle.IsKept settle) (seen g.D.Device.state c.args.rig.now)
    (seen g.D.Device.state c.finish_blocks.new.rig) (seen g.D.Device.state c.abandon.new.rig)
    c.args.self.trunk c.count_settling.new.self c.finish_blocks.new.trunk c.shape.result c.shape.ensures
    c.count_settling.ensures c.requires.sound c.requires.few c.requires.is c.in-Err.fault c.in-Err.ensures.finishes
    c.abandon.ensures told).1
