use Rattle.std.proofs.Common.{rules}
use Rattle.em_space.specs.Seen.{seen}
use Rattle.em_space.proofs.Held.{in_use_below}
use Rattle.em_space.proofs.Rigs.{FreesBlock, goes_freed, releases_freed, none_new_freed, none_used}
use Rattle.em_space.proofs.Steps.{both_told}
use Rattle.em_space.proofs.rig.Rig+D.release.Goals as goal

pub returns-then-self-eq0-clause-complete : goal.returns-then-self-eq0-clause-complete
returns-then-self-eq0-clause-complete g c = λ told quiet.
    absurd (both_told _ told
    (none_used (seen g.D.Device.state c.args.self.now) c.args.block c.requires.sound
    c.requires.in_use c.if-self-eq0.true))

pub returns-then-self-eq0-clause-cause : goal.returns-then-self-eq0-clause-cause
returns-then-self-eq0-clause-cause g c =
    let s = seen g.D.Device.state c.args.self.now in (
      none_used s c.args.block c.requires.sound c.requires.in_use c.if-self-eq0.true,
      in_use_below s c.args.block c.requires.sound c.requires.in_use,
    )

freed : (g : _) (c : goal.After-self-2-1 g)
    → FreesBlock (seen g.D.Device.state c.args.self.now)
    (seen g.D.Device.state c.write_free.new.self) c.args.block
freed g c =
    let e = c.in_ok-write_free.ensures in
    record {
      sound = c.requires.sound;
      in_use = c.requires.in_use;
      goes = e.goes;
      same = e.blocks;
      spare = e.spare;
      link = e.linked;
      some = search rules;
    }

pub returns-clause-goes : goal.returns-clause-goes
returns-clause-goes g c = goes_freed _ _ _ (freed g c)

pub returns-clause-released : goal.returns-clause-released
returns-clause-released g c = releases_freed _ _ _ (freed g c)

pub returns-clause-none_new : goal.returns-clause-none_new
returns-clause-none_new g c = none_new_freed _ _ _ (freed g c)
