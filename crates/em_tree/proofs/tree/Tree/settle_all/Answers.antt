use Rattle.std.proofs.Common.{IsTrue, refl}
use Rattle.em_space.specs.Seen.{seen}
use Rattle.em_tree.proofs.SettleCall.{call_counts, call_later, call_needs, call_room, call_settles, call_spent}
use Rattle.em_tree.proofs.SettlingBegins.{begins_settles, begins_works}
use Rattle.em_tree.proofs.tree.Tree.settle_all.Goals as goal
use Rattle.em_tree.proofs.RoomCalls.{err_told}
use Rattle.em_trunk.specs.Room.{FullOverRoom}

pub settle_trim-settled-requires-clause-can : goal.settle_trim-settled-requires-clause-can
settle_trim-settled-requires-clause-can g c =
    begins_works c.shape.result c.shape.ensures c.count_settling.ensures c.requires.sound c.requires.free
    c.requires.few c.requires.is

pub settle_trim-settled-requires-clause-settle : goal.settle_trim-settled-requires-clause-settle
settle_trim-settled-requires-clause-settle g c =
    begins_settles c.shape.result c.shape.ensures c.count_settling.ensures c.requires.sound c.requires.is

pub count_moves-requires-clause-later : goal.count_moves-requires-clause-later
count_moves-requires-clause-later g c =
    let settle = c.args.self.now.settle in
    call_later (g.S.Settle.key_of settle) (g.S.Settle.step_of settle) (g.S.Settle.IsOp settle)
    (g.S.Settle.IsKept settle) (seen g.D.Device.state c.args.rig.now)
    (seen g.D.Device.state c.settle_trim-settled.new.rig) c.args.self.now.trunk c.count_settling.new.self
    c.settle_trim-settled.new.trunk c.settle_trim-settled.new.trunk c.moves-before.result 0 c.shape.result
    c.shape.ensures c.count_settling.ensures c.moves-before.ensures c.requires.sound c.requires.is
    c.settle_trim-settled.result c.settle_trim-settled.ensures

pub count_moves-requires-clause-spent : goal.count_moves-requires-clause-spent
count_moves-requires-clause-spent g c =
    let settle = c.args.self.now.settle in
    call_spent (g.S.Settle.key_of settle) (g.S.Settle.step_of settle) (g.S.Settle.IsOp settle)
    (g.S.Settle.IsKept settle) (seen g.D.Device.state c.args.rig.now)
    (seen g.D.Device.state c.settle_trim-settled.new.rig) c.args.self.now.trunk c.count_settling.new.self
    c.settle_trim-settled.new.trunk c.settle_trim-settled.new.trunk c.moves-before.result 0 c.shape.result
    c.shape.ensures c.count_settling.ensures c.moves-before.ensures c.requires.sound c.requires.is
    c.settle_trim-settled.result c.settle_trim-settled.ensures

pub returns-clause-settles : goal.returns-clause-settles
returns-clause-settles g c =
    let settle = c.args.self.now.settle in
    call_settles (g.S.Settle.key_of settle) (g.S.Settle.step_of settle) (g.S.Settle.IsOp settle)
    (g.S.Settle.IsKept settle) (seen g.D.Device.state c.args.rig.now)
    (seen g.D.Device.state c.settle_trim-settled.new.rig) c.args.self.now.trunk c.count_settling.new.self
    c.settle_trim-settled.new.trunk c.count_moves.new.self c.moves-before.result _ c.shape.result
    c.shape.ensures c.count_settling.ensures c.moves-before.ensures c.requires.sound c.requires.is
    c.settle_trim-settled.result c.settle_trim-settled.ensures c.count_moves.ensures refl

pub returns-clause-counts : goal.returns-clause-counts
returns-clause-counts g c =
    let settle = c.args.self.now.settle in
    call_counts (g.S.Settle.key_of settle) (g.S.Settle.step_of settle) (g.S.Settle.IsOp settle)
    (g.S.Settle.IsKept settle) (seen g.D.Device.state c.args.rig.now)
    (seen g.D.Device.state c.settle_trim-settled.new.rig) c.args.self.now.trunk c.count_settling.new.self
    c.settle_trim-settled.new.trunk c.count_moves.new.self c.moves-before.result _ c.shape.result
    c.shape.ensures c.count_settling.ensures c.moves-before.ensures c.requires.sound c.requires.is
    c.settle_trim-settled.result c.settle_trim-settled.ensures c.count_moves.ensures refl

pub returns-clause-needs : goal.returns-clause-needs
returns-clause-needs g c =
    let settle = c.args.self.now.settle in
    call_needs (g.S.Settle.key_of settle) (g.S.Settle.step_of settle) (g.S.Settle.IsOp settle)
    (g.S.Settle.IsKept settle) (seen g.D.Device.state c.args.rig.now)
    (seen g.D.Device.state c.settle_trim-settled.new.rig) c.args.self.now.trunk c.count_settling.new.self
    c.settle_trim-settled.new.trunk c.count_moves.new.self c.moves-before.result _ c.shape.result
    c.shape.ensures c.count_settling.ensures c.moves-before.ensures c.requires.sound c.requires.is
    c.settle_trim-settled.result c.settle_trim-settled.ensures c.count_moves.ensures refl

pub returns-clause-room : goal.returns-clause-room
returns-clause-room g c told =
    let settle = c.args.self.now.settle in
    (call_room (g.S.Settle.key_of settle) (g.S.Settle.step_of settle) (g.S.Settle.IsOp settle)
    (g.S.Settle.IsKept settle) (seen g.D.Device.state c.args.rig.now)
    (seen g.D.Device.state c.settle_trim-settled.new.rig) c.args.self.now.trunk c.count_settling.new.self
    c.settle_trim-settled.new.trunk c.settle_trim-settled.new.trunk c.moves-before.result 0 c.shape.result
    c.shape.ensures c.count_settling.ensures c.moves-before.ensures c.requires.sound c.requires.is
    c.settle_trim-settled.result c.settle_trim-settled.ensures told).0

pub returns-clause-over : goal.returns-clause-over
returns-clause-over g c =
    let settle = c.args.self.now.settle in
    let s = seen g.D.Device.state c.args.rig.now in
    err_told c.settle_trim-settled.result (FullOverRoom c.args.self.now.trunk.longest s
    c.args.self.now.trunk) (IsTrue s.device.told) (λ told. (call_room (g.S.Settle.key_of settle) (g.S.Settle.step_of settle) (g.S.Settle.IsOp settle)
    (g.S.Settle.IsKept settle) (seen g.D.Device.state c.args.rig.now)
    (seen g.D.Device.state c.settle_trim-settled.new.rig) c.args.self.now.trunk c.count_settling.new.self
    c.settle_trim-settled.new.trunk c.settle_trim-settled.new.trunk c.moves-before.result 0 c.shape.result
    c.shape.ensures c.count_settling.ensures c.moves-before.ensures c.requires.sound c.requires.is
    c.settle_trim-settled.result c.settle_trim-settled.ensures told).1)
