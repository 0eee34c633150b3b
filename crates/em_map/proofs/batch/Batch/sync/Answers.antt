use Rattle.std.proofs.Common.{◌+◌, refl}
use Rattle.em_space.specs.Seen.{seen}
use Rattle.em_map.proofs.Ends.{counts_synced, counts_unclosed, needs_synced, over_then, room_then, synced_by}
use Rattle.em_map.proofs.batch.Batch.sync.Goals as goal

pub returns-in-Ok-clause-syncs : goal.returns-in-Ok-clause-syncs
returns-in-Ok-clause-syncs g c =
    synced_by (seen g.D.Device.state c.args.rig.now) (seen g.D.Device.state c.close.new.rig) c.args.self.now
    c.close.new.self c.requires.sound c.requires.is c.in-Ok.ensures.closes c.in-Ok.ensures.counts c.in-Ok.ensures.rule
    (seen g.D.Device.state c.sync_tree.new.rig) c.sync_tree.new.self c.sync_tree.ensures.rule c.sync_tree.ensures.counts
    c.sync_tree.result c.sync_tree.ensures.syncs

pub returns-in-Ok-clause-counts : goal.returns-in-Ok-clause-counts
returns-in-Ok-clause-counts g c =
    counts_synced (seen g.D.Device.state c.args.rig.now) (seen g.D.Device.state c.close.new.rig) c.args.self.now
    c.close.new.self c.requires.sound c.requires.is c.in-Ok.ensures.closes c.in-Ok.ensures.counts c.in-Ok.ensures.rule
    (seen g.D.Device.state c.sync_tree.new.rig) c.sync_tree.new.self c.sync_tree.ensures.rule c.sync_tree.ensures.counts

pub returns-in-Ok-clause-needs : goal.returns-in-Ok-clause-needs
returns-in-Ok-clause-needs g c =
    needs_synced (seen g.D.Device.state c.args.rig.now) (seen g.D.Device.state c.close.new.rig) c.args.self.now
    c.close.new.self c.requires.sound c.requires.is c.in-Ok.ensures.closes c.in-Ok.ensures.counts c.in-Ok.ensures.rule
    c.sync_tree.result c.sync_tree.ensures.needs

pub returns-in-Ok-clause-room : goal.returns-in-Ok-clause-room
returns-in-Ok-clause-room g c =
    room_then (seen g.D.Device.state c.args.rig.now) (seen g.D.Device.state c.close.new.rig) c.args.self.now
    c.close.new.self c.requires.sound c.requires.is c.in-Ok.ensures.closes c.in-Ok.ensures.counts c.in-Ok.ensures.rule
    (seen g.D.Device.state c.sync_tree.new.rig) c.in-Ok.ensures.room c.sync_tree.ensures.room

pub returns-in-Ok-clause-over : goal.returns-in-Ok-clause-over
returns-in-Ok-clause-over g c =
    over_then (seen g.D.Device.state c.args.rig.now) (seen g.D.Device.state c.close.new.rig) c.args.self.now
    c.close.new.self c.requires.sound c.requires.is c.in-Ok.ensures.closes c.in-Ok.ensures.counts c.in-Ok.ensures.rule
    (seen g.D.Device.state c.sync_tree.new.rig) c.sync_tree.result c.in-Ok.ensures.room c.sync_tree.ensures.over

pub returns-in-Err-clause-counts : goal.returns-in-Err-clause-counts
returns-in-Err-clause-counts g c =
    let x = c.close.new.self in
    counts_unclosed (seen g.D.Device.state c.args.rig.now) (seen g.D.Device.state c.close.new.rig) c.args.self.now x
    c.requires.is c.in-Err.ensures.counts c.in-Err.fault c.in-Err.ensures.closes.1 c.in-Err.ensures.some
    (record { tree = x.tree; calls = x.calls + 1; syncs = x.syncs + 1; early = x.early; load = x.load }) refl refl refl refl refl
