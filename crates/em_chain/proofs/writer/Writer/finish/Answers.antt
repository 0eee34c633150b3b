use Rattle.std.proofs.Common.{◌-◌, ◌∷◌, [], rules, ap, ◌∙◌}
use Rattle.em_frames.specs.Device.{block_at}
use Rattle.em_space.specs.Rig.{RigState}
use Rattle.em_space.specs.Seen.{seen}
use Rattle.em_space.proofs.Steps.{touches_then}
use Rattle.em_space.proofs.Held.{in_use_kept}
use Rattle.em_chain.proofs.Keeps.{stored_at}
use Rattle.em_chain.proofs.Appending.{gives_last, last_used, pos_of}
use Rattle.em_chain.proofs.Laws.{finish_is}
use Rattle.em_chain.proofs.writer.Writer.finish.Goals as goal

pub returns-in-Ok-clause-gives : goal.returns-in-Ok-clause-gives
returns-in-Ok-clause-gives g c = gives_last c.args.self
    (c.requires.is.last.some (pos_of c.args.self.blocks c.if-blocks-eq0.false))
    c.store-stored.ensures.goes.touches c.give-2.ensures.touches c.give-2.ensures.sound
    (search rules)

pub returns-in-Err-clause-gives : goal.returns-in-Err-clause-gives
returns-in-Err-clause-gives g c = gives_last c.args.self
    (c.requires.is.last.some (pos_of c.args.self.blocks c.if-blocks-eq0.false))
    c.store-stored.ensures.goes.touches c.give-2.ensures.touches c.give-2.ensures.sound
    (search rules)

pub returns-in-Ok-clause-finishes : goal.returns-in-Ok-clause-finishes
returns-in-Ok-clause-finishes g c =
    let s = seen g.D.Device.state c.args.rig.now in
    let m = seen g.D.Device.state c.store-stored.new.self in
    let t = seen g.D.Device.state c.give-2.new.self in
    let w = c.args.self in
    let l = w.tail - 1 in
    let some = c.requires.is.last.some (pos_of w.blocks c.if-blocks-eq0.false) in
    let b = c.store-stored.ensures in
    finish_is s t w some
    (touches_then (l ∷ []) s m t b.goes.touches c.give-2.ensures.touches)
    (λ z. ap (λ (r : RigState). block_at r.device l) c.give-2.ensures.given
    ∙ stored_at s m l w.frame c.requires.sound (last_used s w c.requires.is some)
    c.in-Ok.ensures.stored z)
    (in_use_kept [] m t l c.give-2.ensures.touches (λ _. tt) b.in_use) c.requires.is
