use Rattle.std.proofs.Common.{◌+◌, [], subst, sym}
use Rattle.em_space.specs.Rig.{RigState, Allocates, Goes}
use Rattle.em_space.specs.Seen.{seen}
use Rattle.em_space.proofs.Rigs.{goes_taken, allocates_taken}
use Rattle.em_space.proofs.rig.Rig+D.alloc_spare.Goals as goal

pub returns-clause-goes : goal.returns-clause-goes
returns-clause-goes g c =
    let s = seen g.D.Device.state c.args.self.now in
    let t = seen g.D.Device.state c.pop_spare-block.new.self in
    subst (λ (x : RigState). Goes [] s (record x { used = x.used + 1 }))
    (sym c.pop_spare-block.ensures.rest)
    (goes_taken s t.spare c.pop_spare-block.result
    (record { sound = c.requires.sound; is = c.pop_spare-block.ensures.spare }))

pub returns-clause-given : goal.returns-clause-given
returns-clause-given g c =
    let s = seen g.D.Device.state c.args.self.now in
    let t = seen g.D.Device.state c.pop_spare-block.new.self in
    subst (λ (x : RigState). Allocates s (record x { used = x.used + 1 }) c.pop_spare-block.result)
    (sym c.pop_spare-block.ensures.rest)
    (allocates_taken s t.spare c.pop_spare-block.result
    (record { sound = c.requires.sound; is = c.pop_spare-block.ensures.spare }))
