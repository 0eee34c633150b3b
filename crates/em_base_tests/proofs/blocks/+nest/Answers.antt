use Rattle.std.proofs.Common.{[], ◌∷◌}
use Rattle.em_space.specs.Seen.{seen}
use Rattle.em_space.proofs.Apart.{goes_made}
use Rattle.em_space.proofs.Steps.{goes_then}
use Rattle.em_base_tests.proofs.blocks.+nest.Goals as goal

pub returns : goal.returns
returns g n c =
    let s = seen g.D.Device.state c.args.rig.now in
    let a = seen g.D.Device.state c.alloc.new.self in
    let b = seen g.D.Device.state c.nest.new.rig in
    let t = seen g.D.Device.state c.release.new.self in
    let e = c.in_ok-block.ensures in
    record {
      goes = goes_made (c.in_ok-block.block ∷ []) s b t (λ z. (e.given.fresh z, tt))
          (goes_then [] s a b e.goes c.nest.ensures.goes) c.release.ensures.goes;
    }
