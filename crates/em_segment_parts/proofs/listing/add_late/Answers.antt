use Rattle.std.proofs.Common.{arith, subst, sym, take}
use Rattle.em_frames.specs.Device.{zero_record}
use Rattle.em_segment_model.specs.Loads.{late_pairs}
use Rattle.em_space.specs.Seen.{seen}
use Rattle.em_segment_parts.specs.Pairs.{WritesPairs}
use Rattle.em_segment_parts.proofs.Late.{late_done, late_more, late_within}
use Rattle.em_segment_parts.proofs.Writing.{pairs_is, pairs_none, pairs_then, pairs_wider, stops_more, stops_then, writes_err}
use Rattle.em_segment_parts.proofs.listing.add_late.Goals as goal

pub loop-k-init : goal.loop-k-init
loop-k-init g c = pairs_none c.requires.sound c.requires.is

pub append_pair-requires-clause-is : goal.append_pair-requires-clause-is
append_pair-requires-clause-is g c = pairs_is c.requires.is c.loop-k.invariant

pub append_pair-requires-clause-sound : goal.append_pair-requires-clause-sound
append_pair-requires-clause-sound g c = c.loop-k.invariant.runs.session.sound

pub append_pair-requires-clause-free : goal.append_pair-requires-clause-free
append_pair-requires-clause-free g c =
    let free = c.loop-k.invariant.runs.frames.free in omega (arith, free, c.requires.free)

pub returns-then-before_of-number-clause-frame : goal.returns-then-before_of-number-clause-frame
returns-then-before_of-number-clause-frame g c = c.loop-k.invariant.wrote.is.frame

pub returns-then-before_of-number-clause-writes : goal.returns-then-before_of-number-clause-writes
returns-then-before_of-number-clause-writes g c =
    subst (WritesPairs 0 (seen g.D.Device.state c.args.rig.now) (seen g.D.Device.state c.loop-k.rig)
    c.args.pairs.now c.loop-k.pairs)
    (late_done c.args.load.now c.loop-k.k c.args.number zero_record c.loop-k-test.true
    c.requires.ascends (omega (arith, c.before_of.ensures, c.if-before_of-number.true)))
    c.loop-k.invariant

pub returns-in_err-append_pair-clause-writes : goal.returns-in_err-append_pair-clause-writes
returns-in_err-append_pair-clause-writes g c =
    let s = seen g.D.Device.state c.args.rig.now in
    writes_err 0 (late_pairs c.args.load.now c.args.number) s _ c.args.pairs.now _
    c.from_residual.result _ c.from_residual.ensures.1
    (stops_more c.requires.sound (omega arith)
    (late_within c.args.load.now c.loop-k.k c.args.number zero_record c.loop-k-test.true
    (omega (arith, c.before_of.ensures, c.if-before_of-number.false)))
    (stops_then (late_pairs (take c.loop-k.k c.args.load.now) c.args.number) c.loop-k.invariant
    c.in_err-append_pair.ensures.writes))

pub loop-k-preserved : goal.loop-k-preserved
loop-k-preserved g c =
    subst (WritesPairs 0 (seen g.D.Device.state c.args.rig.now)
    (seen g.D.Device.state c.append_pair.new.rig) c.args.pairs.now c.append_pair.new.pairs)
    (sym (late_more c.args.load.now c.loop-k.k c.args.number zero_record c.loop-k-test.true
    (omega (arith, c.before_of.ensures, c.if-before_of-number.false))))
    (pairs_wider (omega arith)
    (pairs_then (late_pairs (take c.loop-k.k c.args.load.now) c.args.number) _ c.loop-k.invariant
    c.in_ok-append_pair.ensures.writes))
