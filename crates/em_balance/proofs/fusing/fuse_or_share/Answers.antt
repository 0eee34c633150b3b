use Rattle.std.proofs.Common.{◌≡◌, ◌-◌, ap, arith}
use Rattle.em_space.specs.Rig.{RigState}
use Rattle.em_space.specs.Seen.{seen}
use Rattle.em_balance.proofs.PairFramed.{pair_completes, pair_framed, pair_lent}
use Rattle.em_balance.proofs.fusing.fuse_or_share.Goals as goal

pub fuse_into-done-requires-clause-can : goal.fuse_into-done-requires-clause-can
fuse_into-done-requires-clause-can g c =
    pair_lent c.lend-high.ensures.lent (pair_lent c.lend-low.ensures.lent
    (pair_lent c.lend-frame.ensures.lent c.requires.can))

pub returns-clause-does : goal.returns-clause-does
returns-clause-does g c =
    let free = c.requires.free in
    let one : (seen g.D.Device.state c.lend-frame.new.self).pool.free
    ≡ (seen g.D.Device.state c.args.rig.now).pool.free - 1 =
    ap (λ (r : RigState). r.pool.free) c.lend-frame.ensures.lent in
    let two : (seen g.D.Device.state c.lend-low.new.self).pool.free
    ≡ (seen g.D.Device.state c.lend-frame.new.self).pool.free - 1 =
    ap (λ (r : RigState). r.pool.free) c.lend-low.ensures.lent in
    pair_framed _ c.args.parent c.args.at c.fuse_into-done.result c.requires.sound (omega arith)
    c.lend-frame.ensures.lent
    (pair_framed _ c.args.parent c.args.at c.fuse_into-done.result c.lend-frame.ensures.sound (omega arith)
    c.lend-low.ensures.lent
    (pair_framed _ c.args.parent c.args.at c.fuse_into-done.result c.lend-low.ensures.sound (omega arith)
    c.lend-high.ensures.lent c.fuse_into-done.ensures.does c.give.ensures.given) c.give-2.ensures.given)
    c.give-3.ensures.given

pub returns-clause-complete : goal.returns-clause-complete
returns-clause-complete g c =
    pair_completes (seen g.D.Device.state c.args.rig.now) (seen g.D.Device.state c.give-3.new.self)
    c.args.parent c.args.at c.fuse_into-done.result (returns-clause-does g c)
