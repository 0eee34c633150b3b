use Rattle.em_space.specs.Rig.{DeviceCause}
use Rattle.em_space.specs.Seen.{seen}
use Rattle.em_chain.proofs.Parts.{begins_part, cut_at, cut_goes, cut_parts, err_of, fulls_gave_up, fulls_never}
use Rattle.em_chain.proofs.parting.part_at.Goals as goal

pub move_below-requires-clause-begins : goal.move_below-requires-clause-begins
move_below-requires-clause-begins g c = begins_part _ _ _ c.args.chain c.taking-reader.result
    c.new-writer.result c.taking-reader.ensures.opens c.new-writer.ensures.lends
    c.new-writer.ensures.begins

pub finish-requires-clause-is : goal.finish-requires-clause-is
finish-requires-clause-is g c =
    let x = c.taking-reader.ensures in
    let n = c.new-writer.ensures in
    let e = c.end-rest.ensures in
    (cut_at c.requires.is x.lends x.unmoved x.opens n.lends n.unmoved n.begins
    c.in-Ok.ensures.done.1 e.gives e.unmoved e.stays).is

pub returns-in_err-first-in-Ok-clause-goes : goal.returns-in_err-first-in-Ok-clause-goes
returns-in_err-first-in-Ok-clause-goes g c =
    let x = c.taking-reader.ensures in
    let n = c.new-writer.ensures in
    let e = c.end-rest.ensures in
    cut_goes (cut_at c.requires.is x.lends x.unmoved x.opens n.lends n.unmoved n.begins
    c.in-Ok.ensures.done.1 e.gives e.unmoved e.stays) c.finish.ensures.gives

pub returns-in_ok-first-in-Ok-clause-goes : goal.returns-in_ok-first-in-Ok-clause-goes
returns-in_ok-first-in-Ok-clause-goes g c =
    let x = c.taking-reader.ensures in
    let n = c.new-writer.ensures in
    let e = c.end-rest.ensures in
    cut_goes (cut_at c.requires.is x.lends x.unmoved x.opens n.lends n.unmoved n.begins
    c.in-Ok.ensures.done.1 e.gives e.unmoved e.stays) c.finish.ensures.gives

pub returns-in_ok-first-in-Ok-clause-parts : goal.returns-in_ok-first-in-Ok-clause-parts
returns-in_ok-first-in-Ok-clause-parts g c =
    let x = c.taking-reader.ensures in
    let n = c.new-writer.ensures in
    let e = c.end-rest.ensures in
    let k = c.in_ok-first-in-Ok.ensures in
    rw e.words (cut_parts c.in_ok-first-in-Ok.first (cut_at c.requires.is x.lends x.unmoved x.opens n.lends n.unmoved n.begins
    c.in-Ok.ensures.done.1 e.gives e.unmoved e.stays) c.requires.ordered c.finish.ensures.gives k.finishes k.spends)

pub returns-in_err-first-in-Ok-clause-full_exact : goal.returns-in_err-first-in-Ok-clause-full_exact
returns-in_err-first-in-Ok-clause-full_exact g c =
    let x = c.taking-reader.ensures in
    let n = c.new-writer.ensures in
    let d = c.in-Ok.ensures.done in
    let u = seen g.D.Device.state c.end-rest.new.rig in
    let v = seen g.D.Device.state c.finish.new.rig in
    fulls_never u v d.0 _ x.lends x.unmoved x.opens n.lends n.unmoved d.1 d.2
    (err_of _ _ (DeviceCause u v) c.from_residual.ensures.1 c.in_err-first-in-Ok.ensures.cause)

pub returns-in_ok-first-in-Ok-clause-full_exact : goal.returns-in_ok-first-in-Ok-clause-full_exact
returns-in_ok-first-in-Ok-clause-full_exact g c =
    let x = c.taking-reader.ensures in
    let n = c.new-writer.ensures in
    let d = c.in-Ok.ensures.done in
    let u = seen g.D.Device.state c.args.rig.now in
    fulls_never u u d.0 _ x.lends x.unmoved x.opens n.lends n.unmoved d.1 d.2 tt

pub returns-in-Err-clause-full_exact : goal.returns-in-Err-clause-full_exact
returns-in-Err-clause-full_exact g c =
    let x = c.taking-reader.ensures in
    let n = c.new-writer.ensures in
    fulls_gave_up x.lends x.unmoved x.opens n.lends n.unmoved c.in-Err.ensures.done
    c.abandon.ensures.unmoved c.abandon-in-Err.ensures.unmoved
