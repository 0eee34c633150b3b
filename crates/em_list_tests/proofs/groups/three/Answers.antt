use Rattle.std.proofs.Common.{[]}
use Rattle.em_space.specs.Seen.{seen}
use Rattle.em_space.proofs.Held.{apart_none}
use Rattle.em_chain.proofs.Laws.{chain_stays}
use Rattle.em_list_tests.proofs.Dealt.{begins_apart, holds_three}
use Rattle.em_list_tests.proofs.groups.three.Goals as goal

pub add-requires-clause-chain : goal.add-requires-clause-chain
add-requires-clause-chain g c =
    (chain_stays [] (seen g.D.Device.state c.args.rig.now) _ c.args.chain c.new-group.ensures.touches
    (λ z. apart_none _) c.requires.is).is

pub add-requires-clause-apart : goal.add-requires-clause-apart
add-requires-clause-apart g c = λ z. begins_apart _ c.new-group.ensures.begins

pub returns : goal.returns
returns g c = record {
  holds = holds_three c.new-group.ensures.lent c.new-group.ensures.touches c.new-group.ensures.begins
      c.add.ensures.lends c.add.ensures.adds c.add-2.ensures.lends c.add-2.ensures.adds
      c.add-3.ensures.lends c.add-3.ensures.adds c.requires.count c.requires.blocks c.empty.ensures
      c.empty-2.ensures;
}
