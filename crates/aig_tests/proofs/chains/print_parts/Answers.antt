use Rattle.em_space.specs.Seen.{seen}
use Rattle.aig_tests.proofs.Making.{parts_beside}
use Rattle.aig_tests.proofs.chains.print_parts.Goals as goal

pub print_chain-requires-2-clause-is : goal.print_chain-requires-2-clause-is
print_chain-requires-2-clause-is g c =
    let s = seen g.D.Device.state c.args.rig.now in
    let t = seen g.D.Device.state c.print_chain.new.rig in
    (parts_beside s t _ c.requires.parts c.print_chain.ensures.goes.touches).gates.is

pub print_chain-requires-3-clause-is : goal.print_chain-requires-3-clause-is
print_chain-requires-3-clause-is g c =
    let s = seen g.D.Device.state c.args.rig.now in
    let t = seen g.D.Device.state c.print_chain.new.rig in
    let u = seen g.D.Device.state c.print_chain-2.new.rig in
    let first = parts_beside s t _ c.requires.parts c.print_chain.ensures.goes.touches in
    (parts_beside t u _ first c.print_chain-2.ensures.goes.touches).uses.is

pub print_chain-requires-4-clause-is : goal.print_chain-requires-4-clause-is
print_chain-requires-4-clause-is g c =
    let s = seen g.D.Device.state c.args.rig.now in
    let t = seen g.D.Device.state c.print_chain.new.rig in
    let u = seen g.D.Device.state c.print_chain-2.new.rig in
    let v = seen g.D.Device.state c.print_chain-3.new.rig in
    let first = parts_beside s t _ c.requires.parts c.print_chain.ensures.goes.touches in
    let second = parts_beside t u _ first c.print_chain-2.ensures.goes.touches in
    (parts_beside u v _ second c.print_chain-3.ensures.goes.touches).resets.is
