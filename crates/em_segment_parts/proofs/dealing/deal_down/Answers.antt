use Rattle.std.proofs.Common.{arith, refl}
use Rattle.em_segment_parts.proofs.Sending.{deals_err, down_all, down_grows, down_next, down_none, down_stop}
use Rattle.em_segment_parts.proofs.dealing.deal_down.Goals as goal

pub loop-k-init : goal.loop-k-init
loop-k-init g c = down_none c.args.spans.now c.args.piece c.requires.sound c.requires.is

pub deal_strip-requires-clause-sound : goal.deal_strip-requires-clause-sound
deal_strip-requires-clause-sound g c = c.loop-k.invariant.wrote.runs.session.sound

pub deal_strip-requires-clause-is : goal.deal_strip-requires-clause-is
deal_strip-requires-clause-is g c = c.loop-k.invariant.wrote.is

pub deal_strip-requires-clause-within : goal.deal_strip-requires-clause-within
deal_strip-requires-clause-within g c =
    omega (arith, c.loop-k.invariant.wrote.len, c.requires.members.len, c.loop-k-test.true)

pub deal_strip-requires-clause-room : goal.deal_strip-requires-clause-room
deal_strip-requires-clause-room g c =
    down_grows refl c.loop-k-test.true c.requires.members c.loop-k.invariant

pub deal_strip-requires-clause-free : goal.deal_strip-requires-clause-free
deal_strip-requires-clause-free g c =
    let free = c.loop-k.invariant.wrote.runs.frames.free in omega (arith, free, c.requires.free)

pub returns-in_err-deal_strip-clause-deals : goal.returns-in_err-deal_strip-clause-deals
returns-in_err-deal_strip-clause-deals g c =
    deals_err _ _ _ _ _ _ c.from_residual.result _ c.from_residual.ensures.1
    (down_stop _ c.loop-k-test.true c.loop-k.invariant c.in_err-deal_strip.ensures.deals)

pub loop-k-preserved : goal.loop-k-preserved
loop-k-preserved g c =
    down_next _ c.loop-k-test.true c.loop-k.invariant c.in_ok-deal_strip.ensures.deals

pub returns-clause-deals : goal.returns-clause-deals
returns-clause-deals g c =
    down_all (omega (arith, c.loop-k-test.false, c.loop-k.auto.k-end)) c.loop-k.invariant

pub returns-clause-rack : goal.returns-clause-rack
returns-clause-rack g c = c.loop-k.invariant.wrote.is.has

pub returns-clause-len : goal.returns-clause-len
returns-clause-len g c = c.loop-k.invariant.wrote.len
