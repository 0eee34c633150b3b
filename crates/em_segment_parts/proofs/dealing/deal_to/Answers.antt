use Rattle.std.proofs.Common.{arith}
use Rattle.em_segment_parts.proofs.EmptyLists.{moves_same, moves_then}
use Rattle.em_segment_parts.proofs.GroupDealt.{down_packed, group_dealt, group_err, group_unsent, group_untaken, slabs_packed}
use Rattle.em_segment_parts.proofs.ListsTaken.{takes_stop}
use Rattle.em_segment_parts.proofs.PiecesSent.{can_length}
use Rattle.em_segment_parts.proofs.dealing.deal_to.Goals as goal

pub returns-in_err-deal_all-clause-frames : goal.returns-in_err-deal_all-clause-frames
returns-in_err-deal_all-clause-frames g c =
    let e = c.in_err-deal_all.ensures in moves_same e.frames e.len

pub returns-in_err-deal_all-clause-deals : goal.returns-in_err-deal_all-clause-deals
returns-in_err-deal_all-clause-deals g c =
    group_err _ _ _ _ c.from_residual.result _ c.from_residual.ensures.1
    (group_unsent c.requires.sound c.requires.group c.in_err-deal_all.ensures.deals)

pub take_slabs-requires-clause-sound : goal.take_slabs-requires-clause-sound
take_slabs-requires-clause-sound g c = c.in_ok-deal_all.ensures.deals.runs.session.sound

pub take_slabs-requires-clause-is : goal.take_slabs-requires-clause-is
take_slabs-requires-clause-is g c = c.in_ok-deal_all.ensures.deals.is

pub take_slabs-requires-clause-packed : goal.take_slabs-requires-clause-packed
take_slabs-requires-clause-packed g c =
    slabs_packed c.requires.pieces.few c.requires.group c.in_ok-deal_all.ensures.deals

pub take_slabs-requires-clause-few : goal.take_slabs-requires-clause-few
take_slabs-requires-clause-few g c = c.requires.group.strips

pub take_slabs-requires-clause-within : goal.take_slabs-requires-clause-within
take_slabs-requires-clause-within g c =
    let n = can_length c.requires.group in omega (arith, n, c.in_ok-deal_all.ensures.len)

pub take_slabs-requires-clause-free : goal.take_slabs-requires-clause-free
take_slabs-requires-clause-free g c =
    let free = c.in_ok-deal_all.ensures.frames.free in omega (arith, free, c.requires.free)

pub returns-in_err-slabs-clause-frames : goal.returns-in_err-slabs-clause-frames
returns-in_err-slabs-clause-frames g c =
    let e = c.in_ok-deal_all.ensures in
    moves_then (moves_same e.frames e.len) c.in_err-slabs.ensures.frames

pub returns-in_err-slabs-clause-deals : goal.returns-in_err-slabs-clause-deals
returns-in_err-slabs-clause-deals g c =
    group_err _ _ _ _ c.from_residual-in_err-slabs.result _ c.from_residual-in_err-slabs.ensures.1
    (group_untaken c.requires.sound c.requires.group c.in_ok-deal_all.ensures.deals
    c.in_err-slabs.ensures.takes)

pub take_down-requires-clause-sound : goal.take_down-requires-clause-sound
take_down-requires-clause-sound g c = c.in_ok-slabs.ensures.takes.session.sound

pub take_down-requires-clause-is : goal.take_down-requires-clause-is
take_down-requires-clause-is g c = c.in_ok-slabs.ensures.takes.is

pub take_down-requires-clause-packed : goal.take_down-requires-clause-packed
take_down-requires-clause-packed g c =
    down_packed (slabs_packed c.requires.pieces.few c.requires.group c.in_ok-deal_all.ensures.deals)
    c.in_ok-slabs.ensures.takes

pub take_down-requires-clause-few : goal.take_down-requires-clause-few
take_down-requires-clause-few g c =
    let n = can_length c.requires.group in
    let left = c.in_ok-slabs.ensures.takes.left in
    omega (arith, n, left, c.in_ok-deal_all.ensures.len, c.requires.group.strips)

pub take_down-requires-clause-free : goal.take_down-requires-clause-free
take_down-requires-clause-free g c =
    let free = c.in_ok-deal_all.ensures.frames.free in
    let more = c.in_ok-slabs.ensures.frames.free in
    let left = c.in_ok-slabs.ensures.takes.left in
    omega (arith, free, more, left, c.requires.free)

pub returns-in_err-down-clause-frames : goal.returns-in_err-down-clause-frames
returns-in_err-down-clause-frames g c =
    let e = c.in_ok-deal_all.ensures in
    moves_then (moves_then (moves_same e.frames e.len) c.in_ok-slabs.ensures.frames)
    c.in_err-down.ensures.frames

pub returns-in_err-down-clause-deals : goal.returns-in_err-down-clause-deals
returns-in_err-down-clause-deals g c =
    group_err _ _ _ _ c.from_residual-in_err-down.result _ c.from_residual-in_err-down.ensures.1
    (group_untaken c.requires.sound c.requires.group c.in_ok-deal_all.ensures.deals
    (takes_stop c.in_ok-slabs.ensures.takes c.in_err-down.ensures.takes))

pub returns-clause-frames : goal.returns-clause-frames
returns-clause-frames g c =
    let e = c.in_ok-deal_all.ensures in
    moves_then (moves_then (moves_same e.frames e.len) c.in_ok-slabs.ensures.frames)
    c.in_ok-down.ensures.frames

pub returns-clause-none : goal.returns-clause-none
returns-clause-none g c =
    let left = c.in_ok-down.ensures.takes.left in omega (arith, left)

pub returns-clause-deals : goal.returns-clause-deals
returns-clause-deals g c =
    group_dealt c.requires.group c.in_ok-deal_all.ensures.deals c.in_ok-slabs.ensures.takes
    c.in_ok-down.ensures.takes
