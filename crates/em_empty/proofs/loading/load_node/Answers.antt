use Rattle.std.proofs.Common.{sym, ◌∙◌}
use Rattle.std.proofs.lemmas.Bool.{false≢true}
use Rattle.em_empty.specs.Loaded.{IsReceiver}
use Rattle.em_empty.proofs.Told.{untold_by_test}
use Rattle.em_empty.proofs.loading.load_node.Goals as goal

pub returns-then-not-is_receiver-clause-cause : goal.returns-then-not-is_receiver-clause-cause
returns-then-not-is_receiver-clause-cause g c =
    let e = c.in_ok-load.ensures in
    let h = e.goes.touches in
    untold_by_test c.requires.sound c.requires.can e.goes e.loaded (λ r.
    let q : IsReceiver c.shape.result c.blocks-2.result c.args.buffer.now c.load.new.frame =
    rw (c.shape.ensures, h.shape, c.blocks-2.ensures, h.blocks) r in
    false≢true (sym c.if-not-is_receiver.true ∙ c.is_receiver.ensures.1 q))
