use Rattle.std.proofs.Common.{[], ◌∙◌}
use Rattle.std.proofs.lemmas.Result.{IfOk-weaker}
use Rattle.em_space.specs.Seen.{seen}
use Rattle.em_space.proofs.Within.{within_kept, within_same, within_then}
use Rattle.em_devices.proofs.lists.write.Goals as goal

pub returns-clause-fresh : goal.returns-clause-fresh
returns-clause-fresh g c =
    let s = seen g.D.Device.state c.args.rig.now in
    let t = seen g.D.Device.state c.new-writer.new.rig in
    let n = c.new-writer.ensures in
    let a = c.in_default.ensures in
    let fresh = within_then s t [] [] _ n.lends.touches (within_same s [])
    (rw n.begins.held at a.within) in
    IfOk-weaker c.finish.result _ _ (λ chain f. within_kept s [] _ _ fresh
    (λ z. f.blocks (a.goes.touches.told ∙ (n.lends.touches.told ∙ z)))) c.finish.ensures.finishes
