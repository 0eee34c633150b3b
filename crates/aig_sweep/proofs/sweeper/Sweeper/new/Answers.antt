use Rattle.std.proofs.Common.{Ok, Err}
use Rattle.em_space.specs.Seen.{seen}
use Rattle.em_space.proofs.Queues.{out_same}
use Rattle.em_queued.proofs.Queued.{beside_apart, beside_out}
use Rattle.aig_edges.proofs.Besides.{holds_last}
use Rattle.aig_edges.specs.Graph.{ordered_blocks}
use Rattle.aig_sweep.proofs.SweepRoom.{begun_in_room}
use Rattle.aig_sweep.proofs.Sweepers.{begun, begun_for, not_begun}
use Rattle.aig_sweep.proofs.sweeper.Sweeper.new.Goals as goal

pub abandon-requires-clause-frames : goal.abandon-requires-clause-frames
abandon-requires-clause-frames g c =
    let laws = g.met.Q.Queue in
    let s = seen g.D.Device.state c.args.rig.now in
    let t = seen g.D.Device.state c.make_lists.new.rig in
    let q = c.args.queue in
    let k = c.in-Err.ensures.done in
    let f = laws.frames_of q s c.requires.queue in
    laws.frames_stay q (ordered_blocks s c.args.ordered) s t f k.goes.touches
    (out_same _ _ _ (laws.out q s f) k.goes.frames)

pub returns-in-Ok-clause-begins : goal.returns-in-Ok-clause-begins
returns-in-Ok-clause-begins g c =
    let laws = g.met.Q.Queue in
    let s = seen g.D.Device.state c.args.rig.now in
    let t = seen g.D.Device.state c.make_lists.new.rig in
    let q = c.args.queue in
    let m = c.in-Ok.ensures.done in
    let ks = ordered_blocks s c.args.ordered in
    let kept = laws.stays q ks s t c.requires.queue m.runs.session.touches
    (beside_apart _ ks c.requires.holds)
    (beside_out _ m.runs (laws.out q s (laws.frames_of q s c.requires.queue))) in
    begun g.Q.Queue c.args.ordered q c.in-Ok.state c.in-Ok.given c.in-Ok.gates c.requires.ordered
    m c.requires.empty kept.0 kept.2 (laws.blocks_most q s c.requires.queue) c.requires.holds

pub returns-in-Ok-clause-meaning : goal.returns-in-Ok-clause-meaning
returns-in-Ok-clause-meaning g c = λ z.
    let laws = g.met.Q.Queue in
    let s = seen g.D.Device.state c.args.rig.now in
    let t = seen g.D.Device.state c.make_lists.new.rig in
    let q = c.args.queue in
    let m = c.in-Ok.ensures.done in
    let ks = ordered_blocks s c.args.ordered in
    let kept = laws.stays q ks s t c.requires.queue m.runs.session.touches
    (beside_apart _ ks c.requires.holds)
    (beside_out _ m.runs (laws.out q s (laws.frames_of q s c.requires.queue))) in
    begun_for g.Q.Queue c.args.ordered q c.in-Ok.state c.in-Ok.given c.in-Ok.gates
    c.requires.ordered m z c.requires.empty (laws.len_is q s c.requires.queue z) (kept.1 z)

pub returns-in-Ok-clause-room : goal.returns-in-Ok-clause-room
returns-in-Ok-clause-room g c =
    let laws = g.met.Q.Queue in
    let s = seen g.D.Device.state c.args.rig.now in
    let t = seen g.D.Device.state c.make_lists.new.rig in
    let q = c.args.queue in
    let m = c.in-Ok.ensures.done in
    let ks = ordered_blocks s c.args.ordered in
    let has = laws.frames_of q s c.requires.queue in
    let kept = laws.stays q ks s t c.requires.queue m.runs.session.touches
    (beside_apart _ ks c.requires.holds) (beside_out _ m.runs (laws.out q s has)) in
    begun_in_room g.Q.Queue _ c.args.ordered q (Ok _) c.requires.sound.shape c.requires.ordered
    (laws.fits q s has)
    (begun g.Q.Queue c.args.ordered q c.in-Ok.state c.in-Ok.given c.in-Ok.gates c.requires.ordered
    m c.requires.empty kept.0 kept.2 (laws.blocks_most q s c.requires.queue) c.requires.holds)

pub returns-in-Err-clause-begins : goal.returns-in-Err-clause-begins
returns-in-Err-clause-begins g c =
    let laws = g.met.Q.Queue in
    let s = seen g.D.Device.state c.args.rig.now in
    let q = c.args.queue in
    let has = laws.frames_of q s c.requires.queue in
    not_begun g.Q.Queue c.args.ordered q c.requires.sound (laws.blocks_most q s c.requires.queue)
    (laws.unstored_most q s c.requires.queue) (laws.out q s has) (laws.fits q s has)
    c.in-Err.ensures.done c.abandon.ensures.leaves

pub returns-in-Err-clause-room : goal.returns-in-Err-clause-room
returns-in-Err-clause-room g c =
    let laws = g.met.Q.Queue in
    let s = seen g.D.Device.state c.args.rig.now in
    let q = c.args.queue in
    let has = laws.frames_of q s c.requires.queue in
    begun_in_room g.Q.Queue _ c.args.ordered q (Err _) c.requires.sound.shape c.requires.ordered
    (laws.fits q s has)
    (not_begun g.Q.Queue c.args.ordered q c.requires.sound (laws.blocks_most q s c.requires.queue)
    (laws.unstored_most q s c.requires.queue) (laws.out q s has) (laws.fits q s has)
    c.in-Err.ensures.done c.abandon.ensures.leaves)

pub make_lists-requires-clause-holds : goal.make_lists-requires-clause-holds
make_lists-requires-clause-holds g c = λ z. holds_last
    (g.Q.Queue.blocks c.args.queue (seen g.D.Device.state c.args.rig.now)) _ (c.requires.holds z)
