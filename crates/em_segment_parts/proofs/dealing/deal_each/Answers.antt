use Rattle.std.proofs.Common.{◌≡◌, arith, subst, ℕ}
use Rattle.em_space.specs.Seen.{seen}
use Rattle.em_segment_parts.specs.Deals.{DealsPast}
use Rattle.em_segment_parts.proofs.PiecesSent.{past_beside, past_err, past_members, past_more, past_none, past_stop}
use Rattle.em_segment_parts.proofs.dealing.deal_each.Goals as goal

pub loop-init : goal.loop-init
loop-init g c = past_none c.args.spans.now c.requires.sound c.requires.beside

pub deal_next-requires-clause-sound : goal.deal_next-requires-clause-sound
deal_next-requires-clause-sound g c = c.loop.invariant.deals.runs.session.sound

pub deal_next-requires-clause-beside : goal.deal_next-requires-clause-beside
deal_next-requires-clause-beside g c = past_beside c.requires.beside.taking c.loop.invariant

pub deal_next-requires-clause-members : goal.deal_next-requires-clause-members
deal_next-requires-clause-members g c =
    past_members (omega (arith, c.loop-test.true, c.requires.few)) c.requires.group c.loop.invariant

pub deal_next-requires-clause-left : goal.deal_next-requires-clause-left
deal_next-requires-clause-left g c =
    let left = c.loop.invariant.deals.took.left_is in
    let len = c.loop.invariant.pieces_len in
    omega (arith, left, len, c.loop-test.true, c.requires.count)

pub deal_next-requires-clause-free : goal.deal_next-requires-clause-free
deal_next-requires-clause-free g c =
    let free = c.loop.invariant.deals.runs.frames.free in omega (arith, free, c.requires.free)

pub returns-in_err-deal_next-clause-deals : goal.returns-in_err-deal_next-clause-deals
returns-in_err-deal_next-clause-deals g c =
    past_err _ _ _ _ _ _ _ _ _ c.from_residual.result _ c.from_residual.ensures.1
    (past_stop c.loop-test.true c.loop.invariant c.in_err-deal_next.ensures.deals)

pub loop-preserved : goal.loop-preserved
loop-preserved g c = past_more c.loop.invariant c.in_ok-deal_next.ensures.deals

pub returns-clause-deals : goal.returns-clause-deals
returns-clause-deals g c =
    let n : c.loop.counter ≡ c.args.count = omega (arith, c.loop-test.false, c.loop.auto.counter-end) in
    subst (λ (n : ℕ). DealsPast n c.args.spans.now (seen g.D.Device.state c.args.rig.now)
    (seen g.D.Device.state c.loop.rig) c.args.reader.now c.loop.reader c.args.group.now c.loop.group) n
    c.loop.invariant

pub returns-clause-frame : goal.returns-clause-frame
returns-clause-frame g c = c.loop.invariant.deals.took.is.frame

pub returns-clause-rack : goal.returns-clause-rack
returns-clause-rack g c = c.loop.invariant.deals.is.has

pub returns-clause-len : goal.returns-clause-len
returns-clause-len g c = c.loop.invariant.deals.len
