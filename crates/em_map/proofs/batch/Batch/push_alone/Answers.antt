use Rattle.std.proofs.Common.{◌+◌, max, refl}
use Rattle.em_space.specs.Seen.{seen}
use Rattle.em_map.proofs.Batches.{alone_needs, counts_alone, next_later, push_few, takes_plain}
use Rattle.em_map.proofs.Rooms.{plain_over, plain_within}
use Rattle.em_map.proofs.batch.Batch.push_alone.Goals as goal

pub push-requires-clause-later : goal.push-requires-clause-later
push-requires-clause-later g c = λ told. next_later c.args.self.now
    (record { a = c.args.key; b = c.args.self.now.calls + 1; c = c.args.what; d = c.args.value })
    c.requires.is (c.requires.is.plain c.requires.plain) refl told

pub returns-clause-takes : goal.returns-clause-takes
returns-clause-takes g c = λ given ops.
    let b = c.args.self.now in
    takes_plain (seen g.D.Device.state c.args.rig.now) (seen g.D.Device.state c.push.new.rig) b
    (record { tree = c.push.new.self; calls = b.calls + 1; syncs = b.syncs; early = b.early; load = b.load })
    c.requires.is c.requires.plain c.requires.few c.push.ensures.counts c.push.ensures.rule refl refl refl
    (c.requires.is.plain c.requires.plain) c.requires.sound
    (record { a = c.args.key; b = b.calls + 1; c = c.args.what; d = c.args.value }) refl c.push.result
    c.push.ensures.pushes given ops

pub returns-clause-counts : goal.returns-clause-counts
returns-clause-counts g c = λ given ops.
    let b = c.args.self.now in
    counts_alone (seen g.D.Device.state c.args.rig.now) (seen g.D.Device.state c.push.new.rig) b
    (record { tree = c.push.new.self; calls = b.calls + 1; syncs = b.syncs; early = b.early; load = b.load })
    c.requires.is c.requires.plain c.requires.few c.push.ensures.counts c.push.ensures.rule refl refl refl
    (c.requires.is.plain c.requires.plain) c.requires.sound
    (record { a = c.args.key; b = b.calls + 1; c = c.args.what; d = c.args.value }) refl given ops

pub returns-clause-needs : goal.returns-clause-needs
returns-clause-needs g c =
    alone_needs (seen g.D.Device.state c.args.rig.now) c.args.self.now c.requires.plain c.push.result
    c.push.ensures.needs

pub returns-clause-room : goal.returns-clause-room
returns-clause-room g c = λ told.
    let b = c.args.self.now in
    plain_within (seen g.D.Device.state c.args.rig.now) (seen g.D.Device.state c.push.new.rig) b
    (max b.tree.trunk.longest (b.tree.trunk.since + 1)) (b.calls + 1) c.requires.plain
    (push_few (seen g.D.Device.state c.args.rig.now) b c.requires.is) (c.push.ensures.room told)

pub returns-clause-over : goal.returns-clause-over
returns-clause-over g c =
    let b = c.args.self.now in
    plain_over (seen g.D.Device.state c.args.rig.now) b c.push.result
    (max b.tree.trunk.longest (b.tree.trunk.since + 1)) (b.calls + 1) c.requires.plain
    (push_few (seen g.D.Device.state c.args.rig.now) b c.requires.is) c.push.ensures.over
