use Rattle.std.proofs.Common.{sym, ◌∙◌}
use Rattle.std.proofs.lemmas.Bool.{false≢true}
use Rattle.em_space.specs.Seen.{seen}
use Rattle.em_balance.specs.Loaded.{IsRootBelow}
use Rattle.em_balance.proofs.Tested.{fails_test, reads_by, root_passes}
use Rattle.em_balance.proofs.growing.load_root.Goals as goal

pub returns-then-not-is_root_below-clause-loads : goal.returns-then-not-is_root_below-clause-loads
returns-then-not-is_root_below-clause-loads g c =
    let e = c.in_ok-load.ensures in
    let h = e.goes.touches in
    let s = seen g.D.Device.state c.args.rig.now in
    fails_test (IsRootBelow s.pool.shape s.blocks c.args.upper.low) c.requires.sound
    c.requires.can.in_use (reads_by e.goes e.moved) e.loaded (root_passes c.requires.can) (λ r.
    let q : IsRootBelow c.shape.result c.blocks-2.result c.args.upper.low c.load.new.frame =
    rw (c.shape.ensures, h.shape, c.blocks-2.ensures, h.blocks) r in
    false≢true (sym c.if-not-is_root_below.true ∙ c.is_root_below.ensures.1 q))
