use Rattle.std.proofs.Common.{IsTrue, IfErr, subst}
use Rattle.em_settle.specs.Add.{add_step_of}
use Rattle.em_settle.specs.Map.{map_key_of}
use Rattle.em_space.specs.Rig.{RigState}
use Rattle.em_space.specs.Seen.{seen}
use Rattle.em_tree.specs.Calls.{FinishCosts, FinishesTrunk}
use Rattle.em_trunk.specs.Room.{FullOverRoom, WithinRoom}
use Rattle.em_map.specs.Batch.{rule_of, trunk_of}
use Rattle.em_map.proofs.Ends.{costs_finished, costs_unclosed, finished_by, full_finished, full_unclosed, over_then, room_then, room_unclosed, unfinished}
use Rattle.em_map.proofs.batch.Batch.finish.Goals as goal

pub returns-in-Ok-clause-finishes : goal.returns-in-Ok-clause-finishes
returns-in-Ok-clause-finishes g c =
    let s = seen g.D.Device.state c.args.rig.now in
    let m = seen g.D.Device.state c.close.new.rig in
    let t = seen g.D.Device.state c.finish.new.rig in
    let b = c.args.self in
    let x = c.close.new.self in
    let same = c.give_back.ensures.gives.none c.in-Ok.ensures.closes.none in
    finished_by s m b x c.requires.sound c.requires.is c.in-Ok.ensures.closes c.in-Ok.ensures.counts
    c.in-Ok.ensures.rule t c.finish.result
    (subst (λ (z : RigState). FinishesTrunk map_key_of (add_step_of (rule_of x)) z t (trunk_of x) c.finish.result) same
    c.finish.ensures.finishes)

pub returns-in-Ok-clause-full : goal.returns-in-Ok-clause-full
returns-in-Ok-clause-full g c =
    let s = seen g.D.Device.state c.args.rig.now in
    let m = seen g.D.Device.state c.close.new.rig in
    let b = c.args.self in
    let x = c.close.new.self in
    full_finished s m b x c.requires.sound c.requires.is c.in-Ok.ensures.closes c.in-Ok.ensures.counts
    c.in-Ok.ensures.rule c.finish.result c.finish.ensures.full

pub returns-in-Ok-clause-costs : goal.returns-in-Ok-clause-costs
returns-in-Ok-clause-costs g c =
    let s = seen g.D.Device.state c.args.rig.now in
    let m = seen g.D.Device.state c.close.new.rig in
    let t = seen g.D.Device.state c.finish.new.rig in
    let b = c.args.self in
    let x = c.close.new.self in
    let same = c.give_back.ensures.gives.none c.in-Ok.ensures.closes.none in
    costs_finished s m b x c.requires.sound c.requires.is c.in-Ok.ensures.closes c.in-Ok.ensures.counts
    c.in-Ok.ensures.rule t (subst (λ (z : RigState). FinishCosts z t (trunk_of x)) same c.finish.ensures.costs)

pub returns-in-Ok-clause-room : goal.returns-in-Ok-clause-room
returns-in-Ok-clause-room g c =
    let s = seen g.D.Device.state c.args.rig.now in
    let m = seen g.D.Device.state c.close.new.rig in
    let t = seen g.D.Device.state c.finish.new.rig in
    let b = c.args.self in
    let x = c.close.new.self in
    let same = c.give_back.ensures.gives.none c.in-Ok.ensures.closes.none in
    room_then s m b x c.requires.sound c.requires.is c.in-Ok.ensures.closes c.in-Ok.ensures.counts
    c.in-Ok.ensures.rule t c.in-Ok.ensures.room
    (subst (λ (z : RigState). IsTrue z.device.told → WithinRoom x.tree.trunk.longest z t x.tree.trunk) same
    c.finish.ensures.room)

pub returns-in-Ok-clause-over : goal.returns-in-Ok-clause-over
returns-in-Ok-clause-over g c =
    let s = seen g.D.Device.state c.args.rig.now in
    let m = seen g.D.Device.state c.close.new.rig in
    let t = seen g.D.Device.state c.finish.new.rig in
    let b = c.args.self in
    let x = c.close.new.self in
    let same = c.give_back.ensures.gives.none c.in-Ok.ensures.closes.none in
    over_then s m b x c.requires.sound c.requires.is c.in-Ok.ensures.closes c.in-Ok.ensures.counts
    c.in-Ok.ensures.rule t c.finish.result c.in-Ok.ensures.room
    (subst (λ (z : RigState). IfErr c.finish.result (λ fault. IsTrue z.device.told
    → FullOverRoom x.tree.trunk.longest z x.tree.trunk fault)) same c.finish.ensures.over)

pub returns-in-Err-clause-finishes : goal.returns-in-Err-clause-finishes
returns-in-Err-clause-finishes g c =
    let s = seen g.D.Device.state c.args.rig.now in
    let m = seen g.D.Device.state c.close.new.rig in
    let t = seen g.D.Device.state c.abandon.new.rig in
    unfinished s m c.args.self c.close.new.self c.requires.is c.in-Err.ensures.counts c.in-Err.fault
    c.in-Err.ensures.closes.1 t c.abandon.ensures.leaves

pub returns-in-Err-clause-full : goal.returns-in-Err-clause-full
returns-in-Err-clause-full g c =
    let s = seen g.D.Device.state c.args.rig.now in
    let m = seen g.D.Device.state c.close.new.rig in
    let t = seen g.D.Device.state c.abandon.new.rig in
    full_unclosed s m c.args.self c.close.new.self c.requires.is c.in-Err.ensures.counts c.in-Err.fault
    c.in-Err.ensures.closes.1 t c.abandon.ensures.leaves c.in-Err.ensures.some

pub returns-in-Err-clause-costs : goal.returns-in-Err-clause-costs
returns-in-Err-clause-costs g c =
    let s = seen g.D.Device.state c.args.rig.now in
    let m = seen g.D.Device.state c.close.new.rig in
    let t = seen g.D.Device.state c.abandon.new.rig in
    costs_unclosed s m c.args.self c.close.new.self c.requires.is c.in-Err.ensures.counts c.in-Err.fault
    c.in-Err.ensures.closes.1 t c.abandon.ensures.leaves

pub returns-in-Err-clause-room : goal.returns-in-Err-clause-room
returns-in-Err-clause-room g c =
    let s = seen g.D.Device.state c.args.rig.now in
    let m = seen g.D.Device.state c.close.new.rig in
    let t = seen g.D.Device.state c.abandon.new.rig in
    room_unclosed s m c.args.self c.close.new.self c.requires.is c.in-Err.ensures.counts c.in-Err.fault
    c.in-Err.ensures.closes.1 t c.abandon.ensures.leaves c.in-Err.ensures.room
