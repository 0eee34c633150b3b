use Rattle.std.proofs.Common.{◌-◌, ◌∷◌, []}
use Rattle.em_space.specs.Seen.{seen}
use Rattle.em_space.proofs.Steps.{touches_after}
use Rattle.em_chain.proofs.Rows.{row_goes, row_drops}
use Rattle.em_chain.proofs.discarding.drop_block.Goals as goal

pub returns-clause-goes : goal.returns-clause-goes
returns-clause-goes g c = row_goes c.args.link c.args.left c.requires.row
    c.next_link.ensures.goes c.release.ensures.goes

pub returns-in_err-release-clause-goes : goal.returns-in_err-release-clause-goes
returns-in_err-release-clause-goes g c = row_goes c.args.link c.args.left c.requires.row
    c.next_link.ensures.goes c.release.ensures.goes

pub returns-clause-drops : goal.returns-clause-drops
returns-clause-drops g c = λ z.
    let s = seen g.D.Device.state c.args.rig.now in
    let m = seen g.D.Device.state c.next_link.new.rig in
    let t = seen g.D.Device.state c.release.new.self in
    let h = c.next_link.ensures.goes.touches in
    row_drops s t c.args.link c.in_ok-next.next c.args.left (c.requires.row z) z
    (touches_after ((c.args.link - 1) ∷ []) s m t h c.release.ensures.goes.touches)
    (c.in_ok-next.ensures.link z)
