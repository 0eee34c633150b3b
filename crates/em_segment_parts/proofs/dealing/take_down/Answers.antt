use Rattle.std.proofs.Common.{◌≡◌, arith, length, subst, ℕ}
use Rattle.em_space.specs.Seen.{seen}
use Rattle.em_segment_parts.specs.Chains.{chains_in}
use Rattle.em_segment_parts.specs.Deals.{TakesLists}
use Rattle.em_segment_parts.proofs.ListsTaken.{last_stops, moves_one, taken_more, taken_none, takes_err, takes_stop}
use Rattle.em_segment_parts.proofs.dealing.take_down.Goals as goal

pub loop-init : goal.loop-init
loop-init g c = taken_none c.requires.sound c.requires.is c.new-down.ensures

pub take_last-requires-clause-sound : goal.take_last-requires-clause-sound
take_last-requires-clause-sound g c = c.loop.invariant.takes.session.sound

pub take_last-requires-clause-is : goal.take_last-requires-clause-is
take_last-requires-clause-is g c = c.loop.invariant.takes.is

pub take_last-requires-clause-free : goal.take_last-requires-clause-free
take_last-requires-clause-free g c =
    let free = c.loop.invariant.frames.free in
    let left = c.loop.invariant.takes.left in
    omega (arith, free, left, c.requires.free)

pub take_last-requires-clause-some : goal.take_last-requires-clause-some
take_last-requires-clause-some g c =
    let left = c.loop.invariant.takes.left in omega (arith, left, c.loop-test.true, c.count-end.ensures)

pub returns-in_err-chain-clause-frames : goal.returns-in_err-chain-clause-frames
returns-in_err-chain-clause-frames g c =
    let e = c.in_err-chain.ensures in moves_one c.loop.invariant.frames e.len e.gives

pub returns-in_err-chain-clause-takes : goal.returns-in_err-chain-clause-takes
returns-in_err-chain-clause-takes g c =
    let e = c.in_err-chain.ensures in
    takes_err _ _ _ _ _ c.from_residual.result _ c.from_residual.ensures.1
    (takes_stop c.loop.invariant.takes (last_stops c.take_last.new.self e.len e.gives e.spends e.cause))

pub loop-preserved : goal.loop-preserved
loop-preserved g c =
    let e = c.in_ok-chain.ensures in
    taken_more c.requires.packed c.loop.invariant e.len e.gives e.takes e.spends c.insert.ensures.items

pub returns-clause-takes : goal.returns-clause-takes
returns-clause-takes g c =
    let n : c.loop.counter ≡ length c.args.group.now.words.items =
    omega (arith, c.loop-test.false, c.loop.auto.counter-end, c.count-end.ensures) in
    subst (λ (n : ℕ). TakesLists n (seen g.D.Device.state c.args.rig.now)
    (seen g.D.Device.state c.loop.rig) c.args.group.now c.loop.group (chains_in c.loop.down.items)) n
    c.loop.invariant.takes

pub returns-clause-rack : goal.returns-clause-rack
returns-clause-rack g c = c.loop.invariant.takes.is.has

pub returns-clause-frames : goal.returns-clause-frames
returns-clause-frames g c = c.loop.invariant.frames
