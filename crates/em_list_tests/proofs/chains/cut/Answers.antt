use Rattle.std.proofs.Common.{sym, ◌∙◌}
use Rattle.em_space.specs.Seen.{seen}
use Rattle.em_space.proofs.Lists.{apart_sym}
use Rattle.em_chain.specs.Chain.{chain_blocks}
use Rattle.em_chain.proofs.Laws.{chain_stays}
use Rattle.em_list_tests.proofs.chains.cut.Goals as goal

pub takes-requires-2-clause-is : goal.takes-requires-2-clause-is
takes-requires-2-clause-is g c =
    let a = seen g.D.Device.state c.write.new.rig in
    let t = seen g.D.Device.state c.part_at.new.rig in
    let u = seen g.D.Device.state c.takes.new.rig in
    let p = c.in_ok-first.ensures.parts in
    let f = c.in_ok-first.first in
    let h = c.in_ok-first.second in
    (chain_stays (chain_blocks t f) t u h c.takes.ensures.goes.touches
    (λ z. apart_sym (chain_blocks t f) (chain_blocks t h)
    (p.apart (sym c.part_at.ensures.goes.touches.told ∙ z))) p.second).is
