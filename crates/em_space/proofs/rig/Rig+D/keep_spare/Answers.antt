use Rattle.em_space.specs.Seen.{seen}
use Rattle.em_space.proofs.Rigs.{goes_kept, releases_kept, none_new_kept}
use Rattle.em_space.proofs.rig.Rig+D.keep_spare.Goals as goal

pub returns-clause-goes : goal.returns-clause-goes
returns-clause-goes g c = rw c.push.ensures.items
    (goes_kept (seen g.D.Device.state c.args.self.now) c.args.block
    (record { sound = c.requires.sound; in_use = c.requires.in_use; some = c.requires.some }))

pub returns-clause-released : goal.returns-clause-released
returns-clause-released g c = rw c.push.ensures.items
    (releases_kept (seen g.D.Device.state c.args.self.now) c.args.block
    (record { sound = c.requires.sound; in_use = c.requires.in_use; some = c.requires.some }))

pub returns-clause-none_new : goal.returns-clause-none_new
returns-clause-none_new g c = rw c.push.ensures.items
    (none_new_kept (seen g.D.Device.state c.args.self.now) c.args.block
    (record { sound = c.requires.sound; in_use = c.requires.in_use; some = c.requires.some }))
