use Rattle.std.proofs.Common.{rules, ◌≡◌, ap, subst, ◌∙◌}
use Rattle.em_frames.specs.Pool.{fresh_pool}
use Rattle.em_space.specs.Rig.{Opens}
use Rattle.em_space.specs.Seen.{seen}
use Rattle.aig_tests.specs.Frames.{usual}
use Rattle.aig_tests.proofs.room.opened_in_room.Goals as goal

pub returns-in-Ok-clause-opened : goal.returns-in-Ok-clause-opened
returns-in-Ok-clause-opened g c =
    let shape : c.in_ok-shape.shape ≡ usual = search rules in
    let pool : c.in_ok-pool.pool ≡ fresh_pool c.in_ok-shape.shape = search rules in
    subst (λ p. Opens (g.D.Device.state c.args.device.now) p 1728 (seen g.D.Device.state c.in-Ok.rig))
    (pool ∙ ap fresh_pool shape) c.in-Ok.ensures.opened
