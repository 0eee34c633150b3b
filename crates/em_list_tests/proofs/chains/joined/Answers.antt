use Rattle.std.proofs.Common.{[], sym, ◌∙◌}
use Rattle.em_space.specs.Seen.{seen}
use Rattle.em_space.proofs.Held.{apart_none}
use Rattle.em_space.proofs.Within.{within_apart}
use Rattle.em_chain.specs.Chain.{chain_blocks}
use Rattle.em_chain.proofs.Laws.{chain_stays}
use Rattle.em_list_tests.proofs.chains.joined.Goals as goal

pub join-requires-clause-first : goal.join-requires-clause-first
join-requires-clause-first g c =
    let t = seen g.D.Device.state c.write.new.rig in
    let u = seen g.D.Device.state c.write-2.new.rig in
    let f = c.in_ok-first.first in
    (chain_stays [] t u f c.write-2.ensures.goes.touches (λ _. apart_none (chain_blocks t f))
    c.in_ok-first.ensures.is).is

pub join-requires-clause-apart : goal.join-requires-clause-apart
join-requires-clause-apart g c = λ z.
    let t = seen g.D.Device.state c.write.new.rig in
    let u = seen g.D.Device.state c.write-2.new.rig in
    let f = c.in_ok-first.first in
    let k = c.write-2.ensures.goes.touches in
    let y = sym k.told ∙ z in
    let i = c.in_ok-first.ensures.is in
    let st = chain_stays [] t u f k (λ _. apart_none (chain_blocks t f)) i in
    rw (st.blocks y) (within_apart t [] (chain_blocks u c.in_ok-second.second) (chain_blocks t f) y
    c.in_ok-second.ensures.fresh (i.told y).holds.in_use (apart_none (chain_blocks t f)))
