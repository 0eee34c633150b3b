use Rattle.std.proofs.Common.{◌≡◌, arith, subst, ℕ}
use Rattle.em_space.specs.Seen.{seen}
use Rattle.em_chain.specs.Writers.{group_blocks}
use Rattle.em_segment_parts.specs.Deals.{OpensGroup}
use Rattle.em_segment_parts.proofs.EmptyLists.{empty_apart, empty_is, opens_more, opens_none}
use Rattle.em_segment_parts.proofs.dealing.open_group.Goals as goal

pub loop-init : goal.loop-init
loop-init g c =
    let o = c.new-group.ensures in
    opens_none o.sound o.touches o.lent o.begins

pub add-requires-clause-sound : goal.add-requires-clause-sound
add-requires-clause-sound g c = c.loop.invariant.sound

pub add-requires-clause-is : goal.add-requires-clause-is
add-requires-clause-is g c = c.loop.invariant.is

pub add-requires-clause-chain : goal.add-requires-clause-chain
add-requires-clause-chain g c = empty_is _ _ c.empty.ensures

pub add-requires-clause-apart : goal.add-requires-clause-apart
add-requires-clause-apart g c = λ z. empty_apart (seen g.D.Device.state c.loop.rig) c.empty.result
    (group_blocks (seen g.D.Device.state c.loop.rig) c.loop.group) c.empty.ensures

pub add-requires-clause-free : goal.add-requires-clause-free
add-requires-clause-free g c =
    let free = c.loop.invariant.free in omega (arith, free, c.requires.free, c.loop-test.true)

pub add-requires-clause-room : goal.add-requires-clause-room
add-requires-clause-room g c =
    let len = c.loop.invariant.len in
    rw (c.loop.invariant.touches.shape) (omega (arith, len, c.requires.room, c.loop-test.true))

pub loop-preserved : goal.loop-preserved
loop-preserved g c =
    let e = c.add.ensures in
    opens_more c.empty.ensures c.loop.invariant e.lends e.unmoved e.adds

pub returns-clause-opens : goal.returns-clause-opens
returns-clause-opens g c =
    let n : c.loop.counter ≡ c.args.members = omega (arith, c.loop-test.false, c.loop.auto.counter-end) in
    subst (λ (n : ℕ). OpensGroup n (seen g.D.Device.state c.args.rig.now)
    (seen g.D.Device.state c.loop.rig) c.loop.group) n c.loop.invariant

pub returns-clause-out : goal.returns-clause-out
returns-clause-out g c = c.loop.invariant.is.has.rack_out
