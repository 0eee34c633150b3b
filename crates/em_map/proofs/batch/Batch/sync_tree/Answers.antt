use Rattle.std.proofs.Common.{◌+◌, ◌∙◌, IsTrue, refl, arith}
use Rattle.em_space.specs.Seen.{seen}
use Rattle.em_chain.proofs.Parts.{err_of}
use Rattle.em_tree.specs.Calls.{FullIfUntrim}
use Rattle.em_trunk.specs.Room.{FullOverRoom}
use Rattle.em_map.specs.Batch.{trunk_of}
use Rattle.em_map.proofs.Syncs.{counts_sync, counts_to, needs_to, over_to, room_to, synced_to, syncs_err}
use Rattle.em_map.proofs.batch.Batch.sync_tree.Goals as goal

pub returns-in_err-settle_all-clause-syncs : goal.returns-in_err-settle_all-clause-syncs
returns-in_err-settle_all-clause-syncs g c =
    let b = c.args.self.now in
    syncs_err (seen g.D.Device.state c.args.rig.now) (seen g.D.Device.state c.settle_all.new.rig) b
    (record { tree = c.settle_all.new.self; calls = b.calls + 1; syncs = b.syncs + 1; early = b.early; load = b.load })
    c.from_residual.result _ c.from_residual.ensures.1 c.in_err-settle_all.ensures.settles

pub returns-in_err-settle_all-clause-counts : goal.returns-in_err-settle_all-clause-counts
returns-in_err-settle_all-clause-counts g c =
    let b = c.args.self.now in
    counts_sync b (record { tree = c.settle_all.new.self; calls = b.calls + 1; syncs = b.syncs + 1; early = b.early; load = b.load })
    c.requires.sound c.requires.is c.requires.few c.settle_all.ensures.counts refl refl
    refl c.requires.closed c.requires.closed refl
    (seen g.D.Device.state c.settle_all.new.rig) (omega arith)

pub returns-in_err-settle_all-clause-needs : goal.returns-in_err-settle_all-clause-needs
returns-in_err-settle_all-clause-needs g c =
    err_of _ _ (FullIfUntrim (seen g.D.Device.state c.args.rig.now) (trunk_of c.args.self.now))
    c.from_residual.ensures.1 c.in_err-settle_all.ensures.needs

pub returns-in_err-settle_all-clause-over : goal.returns-in_err-settle_all-clause-over
returns-in_err-settle_all-clause-over g c =
    let b = c.args.self.now in
    let s = seen g.D.Device.state c.args.rig.now in
    err_of _ _ (λ fault. IsTrue s.device.told → FullOverRoom b.tree.trunk.longest s b.tree.trunk fault)
    c.from_residual.ensures.1 c.in_err-settle_all.ensures.over

pub returns-clause-syncs : goal.returns-clause-syncs
returns-clause-syncs g c =
    let b = c.args.self.now in
    synced_to (seen g.D.Device.state c.args.rig.now) (seen g.D.Device.state c.settle_all.new.rig)
    (seen g.D.Device.state c.take_answers.new.rig) b
    (record { tree = c.take_answers.new.self; calls = b.calls + 1; syncs = b.syncs + 1; early = b.early; load = b.load })
    c.settle_all.new.self.trunk c.requires.sound c.requires.is c.requires.few c.settle_all.ensures.counts
    refl refl refl c.requires.closed c.requires.closed (c.take_answers.ensures.rule ∙ c.settle_all.ensures.rule) c.in_ok-settle_all.ensures.settles c.take_answers.result c.take_answers.ensures.hands

pub returns-clause-counts : goal.returns-clause-counts
returns-clause-counts g c =
    let b = c.args.self.now in
    counts_to (seen g.D.Device.state c.args.rig.now) (seen g.D.Device.state c.settle_all.new.rig)
    (seen g.D.Device.state c.take_answers.new.rig) b
    (record { tree = c.take_answers.new.self; calls = b.calls + 1; syncs = b.syncs + 1; early = b.early; load = b.load })
    c.settle_all.new.self.trunk c.requires.sound c.requires.is c.requires.few c.settle_all.ensures.counts
    refl refl refl c.requires.closed c.requires.closed c.take_answers.result c.take_answers.ensures.hands

pub returns-clause-needs : goal.returns-clause-needs
returns-clause-needs g c =
    needs_to (seen g.D.Device.state c.args.rig.now) (seen g.D.Device.state c.settle_all.new.rig)
    (seen g.D.Device.state c.take_answers.new.rig) c.args.self.now c.settle_all.new.self.trunk
    c.take_answers.new.self.trunk c.take_answers.result c.take_answers.ensures.hands

pub returns-clause-room : goal.returns-clause-room
returns-clause-room g c = λ told.
    room_to (seen g.D.Device.state c.args.rig.now) (seen g.D.Device.state c.settle_all.new.rig)
    (seen g.D.Device.state c.take_answers.new.rig) c.args.self.now c.settle_all.new.self.trunk
    c.take_answers.new.self.trunk c.take_answers.result c.take_answers.ensures.hands
    (c.settle_all.ensures.room told)

pub returns-clause-over : goal.returns-clause-over
returns-clause-over g c =
    over_to (seen g.D.Device.state c.args.rig.now) (seen g.D.Device.state c.settle_all.new.rig)
    (seen g.D.Device.state c.take_answers.new.rig) c.args.self.now c.settle_all.new.self.trunk
    c.take_answers.new.self.trunk c.take_answers.result c.take_answers.ensures.hands
