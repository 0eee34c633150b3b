use Rattle.std.proofs.Common.{IsTrue, refl, subst}
use Rattle.em_space.specs.Rig.{RigState}
use Rattle.em_space.specs.Seen.{seen}
use Rattle.em_tree.specs.Calls.{StopsTrunk}
use Rattle.em_trunk.specs.Room.{FullOverRoom, WithinRoom}
use Rattle.em_map.specs.Batch.{rule_of}
use Rattle.em_map.specs.Handing.{CountsKeeping, KeptPairs}
use Rattle.em_map.proofs.IntoTree.{costs_handed, counts_left, handed_tree, most_left, over_handed, room_handed, unhanded_tree}
use Rattle.em_map.proofs.batch.Batch.into_tree.Goals as goal

pub returns-in-Ok-clause-hands : goal.returns-in-Ok-clause-hands
returns-in-Ok-clause-hands g c =
    let s = seen g.D.Device.state c.args.rig.now in
    let t = seen g.D.Device.state c.keep_pairs.new.rig in
    let b = c.args.self in
    let v = b.tree.trunk in
    let w = c.keep_pairs.new.tree.trunk in
    let same = c.give_back.ensures.gives.none (c.requires.is.plain c.requires.plain) in
    let counts = subst (λ (z : RigState). CountsKeeping (rule_of b) z t v w) same c.keep_pairs.ensures.counts in
    handed_tree s t b c.requires.sound c.requires.is c.requires.plain w counts
    (subst (λ (z : RigState). KeptPairs (rule_of b) z t v w) same c.in-Ok.ensures.keeps)

pub returns-in-Ok-clause-costs : goal.returns-in-Ok-clause-costs
returns-in-Ok-clause-costs g c =
    let s = seen g.D.Device.state c.args.rig.now in
    let t = seen g.D.Device.state c.keep_pairs.new.rig in
    let b = c.args.self in
    let v = b.tree.trunk in
    let w = c.keep_pairs.new.tree.trunk in
    let same = c.give_back.ensures.gives.none (c.requires.is.plain c.requires.plain) in
    let counts = subst (λ (z : RigState). CountsKeeping (rule_of b) z t v w) same c.keep_pairs.ensures.counts in
    costs_handed s t b c.requires.sound c.requires.is c.requires.plain w counts

pub returns-in-Ok-clause-room : goal.returns-in-Ok-clause-room
returns-in-Ok-clause-room g c =
    let s = seen g.D.Device.state c.args.rig.now in
    let t = seen g.D.Device.state c.keep_pairs.new.rig in
    let b = c.args.self in
    let v = b.tree.trunk in
    let w = c.keep_pairs.new.tree.trunk in
    let same = c.give_back.ensures.gives.none (c.requires.is.plain c.requires.plain) in
    room_handed s t b c.requires.sound c.requires.is c.requires.plain t refl
    (subst (λ (z : RigState). IsTrue z.device.told → WithinRoom v.longest z t v) same c.keep_pairs.ensures.room)

pub returns-in-Err-clause-hands : goal.returns-in-Err-clause-hands
returns-in-Err-clause-hands g c =
    let s = seen g.D.Device.state c.args.rig.now in
    let t = seen g.D.Device.state c.keep_pairs.new.rig in
    let b = c.args.self in
    let v = b.tree.trunk in
    let w = c.keep_pairs.new.tree.trunk in
    let same = c.give_back.ensures.gives.none (c.requires.is.plain c.requires.plain) in
    let u = seen g.D.Device.state c.abandon.new.rig in
    unhanded_tree s t b c.requires.sound c.requires.is c.requires.plain w c.in-Err.fault
    (subst (λ (z : RigState). StopsTrunk z t v w c.in-Err.fault) same c.in-Err.ensures.keeps) u c.abandon.ensures.leaves

pub returns-in-Err-clause-costs : goal.returns-in-Err-clause-costs
returns-in-Err-clause-costs g c =
    let s = seen g.D.Device.state c.args.rig.now in
    let t = seen g.D.Device.state c.keep_pairs.new.rig in
    let b = c.args.self in
    let v = b.tree.trunk in
    let w = c.keep_pairs.new.tree.trunk in
    let same = c.give_back.ensures.gives.none (c.requires.is.plain c.requires.plain) in
    let counts = subst (λ (z : RigState). CountsKeeping (rule_of b) z t v w) same c.keep_pairs.ensures.counts in
    let u = seen g.D.Device.state c.abandon.new.rig in
    costs_handed s u b c.requires.sound c.requires.is c.requires.plain w
    (counts_left s t b c.requires.sound c.requires.is c.requires.plain w counts u c.abandon.ensures.leaves)

pub returns-in-Err-clause-room : goal.returns-in-Err-clause-room
returns-in-Err-clause-room g c =
    let s = seen g.D.Device.state c.args.rig.now in
    let t = seen g.D.Device.state c.keep_pairs.new.rig in
    let b = c.args.self in
    let v = b.tree.trunk in
    let w = c.keep_pairs.new.tree.trunk in
    let same = c.give_back.ensures.gives.none (c.requires.is.plain c.requires.plain) in
    let u = seen g.D.Device.state c.abandon.new.rig in
    room_handed s t b c.requires.sound c.requires.is c.requires.plain u (most_left t u c.abandon.ensures.leaves)
    (subst (λ (z : RigState). IsTrue z.device.told → WithinRoom v.longest z t v) same c.keep_pairs.ensures.room)

pub returns-in-Err-clause-over : goal.returns-in-Err-clause-over
returns-in-Err-clause-over g c =
    let s = seen g.D.Device.state c.args.rig.now in
    let t = seen g.D.Device.state c.keep_pairs.new.rig in
    let b = c.args.self in
    let v = b.tree.trunk in
    let w = c.keep_pairs.new.tree.trunk in
    let same = c.give_back.ensures.gives.none (c.requires.is.plain c.requires.plain) in
    over_handed s t b c.requires.sound c.requires.is c.requires.plain c.in-Err.fault
    (subst (λ (z : RigState). IsTrue z.device.told → FullOverRoom v.longest z v c.in-Err.fault) same c.in-Err.ensures.over)
