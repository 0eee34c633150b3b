use Rattle.em_space.specs.Seen.{seen}
use Rattle.em_space.proofs.Queues.{out_same}
use Rattle.em_queued.proofs.Queued.{beside_apart, beside_out, unstored_frames}
use Rattle.em_queued.proofs.Room.{full_others}
use Rattle.aig_sweep.specs.Sweeper.{lists_blocks}
use Rattle.aig_sweep.proofs.Sweepers.{end_full, end_refused, ended, ended_to, lists_of}
use Rattle.aig_sweep.proofs.sweeper.Sweeper.end.Goals as goal

pub discard_lists-requires-clause-are : goal.discard_lists-requires-clause-are
discard_lists-requires-clause-are g c = lists_of c.requires.is

pub end-requires-clause-is : goal.end-requires-clause-is
end-requires-clause-is g c =
    let laws = g.met.Q.Queue in
    let s = seen g.D.Device.state c.args.rig.now in
    let t = seen g.D.Device.state c.discard_lists.new.rig in
    let q = c.args.self.queue in
    let i = c.requires.is in
    let r = c.in-Ok.ensures.done in
    let ks = lists_blocks s c.args.self in
    (laws.stays q ks s t i.is r.session.touches (beside_apart _ ks i.holds)
    (beside_out _ r (laws.out q s (laws.frames_of q s i.is)))).0

pub abandon-requires-clause-frames : goal.abandon-requires-clause-frames
abandon-requires-clause-frames g c =
    let laws = g.met.Q.Queue in
    let s = seen g.D.Device.state c.args.rig.now in
    let t = seen g.D.Device.state c.discard_lists.new.rig in
    let q = c.args.self.queue in
    let k = c.in-Err.ensures.done in
    let f = laws.frames_of q s c.requires.is.is in
    laws.frames_stay q (lists_blocks s c.args.self) s t f k.goes.touches
    (out_same _ _ _ (laws.out q s f) k.goes.frames)

pub returns-in-Ok-clause-ends : goal.returns-in-Ok-clause-ends
returns-in-Ok-clause-ends g c =
    let laws = g.met.Q.Queue in
    let s = seen g.D.Device.state c.args.rig.now in
    let t = seen g.D.Device.state c.discard_lists.new.rig in
    let q = c.args.self.queue in
    let i = c.requires.is in
    let r = c.in-Ok.ensures.done in
    let ks = lists_blocks s c.args.self in
    let kept = laws.stays q ks s t i.is r.session.touches (beside_apart _ ks i.holds)
    (beside_out _ r (laws.out q s (laws.frames_of q s i.is))) in
    ended g.Q.Queue c.args.self c.requires.sound r kept.2 c.end.ensures.ends

pub returns-in-Ok-clause-done : goal.returns-in-Ok-clause-done
returns-in-Ok-clause-done g c =
    let laws = g.met.Q.Queue in
    let s = seen g.D.Device.state c.args.rig.now in
    let t = seen g.D.Device.state c.discard_lists.new.rig in
    let q = c.args.self.queue in
    let i = c.requires.is in
    let r = c.in-Ok.ensures.done in
    let ks = lists_blocks s c.args.self in
    let kept = laws.stays q ks s t i.is r.session.touches (beside_apart _ ks i.holds)
    (beside_out _ r (laws.out q s (laws.frames_of q s i.is))) in
    let e = c.end.ensures in
    ended_to g.Q.Queue c.args.self c.requires.sound r kept.2 _ c.end.result e.ended e.owes e.cause
    e.ends.touches.moves

pub returns-in-Err-clause-ends : goal.returns-in-Err-clause-ends
returns-in-Err-clause-ends g c =
    let laws = g.met.Q.Queue in
    let s = seen g.D.Device.state c.args.rig.now in
    let q = c.args.self.queue in
    let f = laws.frames_of q s c.requires.is.is in
    (end_refused g.Q.Queue c.args.self c.requires.sound c.in-Err.ensures.done
    c.abandon.ensures.leaves
    (unstored_frames (laws.unstored_most q s c.requires.is.is) (laws.out q s f) c.requires.sound)
    (laws.spends q s f)).0

pub returns-in-Err-clause-done : goal.returns-in-Err-clause-done
returns-in-Err-clause-done g c =
    let laws = g.met.Q.Queue in
    let s = seen g.D.Device.state c.args.rig.now in
    let q = c.args.self.queue in
    let f = laws.frames_of q s c.requires.is.is in
    (end_refused g.Q.Queue c.args.self c.requires.sound c.in-Err.ensures.done
    c.abandon.ensures.leaves
    (unstored_frames (laws.unstored_most q s c.requires.is.is) (laws.out q s f) c.requires.sound)
    (laws.spends q s f)).1

pub returns-in-Ok-clause-full : goal.returns-in-Ok-clause-full
returns-in-Ok-clause-full g c =
    end_full g.Q.Queue c.args.self c.in-Ok.ensures.done c.end.result c.end.ensures.full

pub returns-in-Err-clause-full : goal.returns-in-Err-clause-full
returns-in-Err-clause-full g c =
    let laws = g.met.Q.Queue in
    let s = seen g.D.Device.state c.args.rig.now in
    let q = c.args.self.queue in
    let k = c.in-Err.ensures.done in
    full_others (g.Q.Queue.counts q) _ (laws.blocks_most q s c.requires.is.is)
    (laws.fits q s (laws.frames_of q s c.requires.is.is)) k.halts k.cause
