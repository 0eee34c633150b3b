use Rattle.std.proofs.Common.{[], ◌∷◌}
use Rattle.em_space.specs.Rig.{Goes}
use Rattle.em_space.specs.Seen.{seen}
use Rattle.em_space.proofs.Steps.{goes_with_frame}
use Rattle.em_frames.specs.Pool.{lent}
use Rattle.em_space.proofs.rig.Rig+D.write_free.Goals as goal

pub returns-clause-goes : goal.returns-clause-goes
returns-clause-goes g c =
    let a = seen g.D.Device.state c.args.self.now in
    let stored = seen g.D.Device.state c.write_block-wrote.new.self in
    let goes : Goes (c.args.block ∷ []) (record a { pool = lent a.pool }) stored =
    rw (← c.lend-frame.ensures.pool) c.write_block-wrote.ensures.goes in
    rw c.give.ensures.pool (goes_with_frame (c.args.block ∷ []) a stored c.requires.sound c.requires.free goes)

pub returns-clause-none_new : goal.returns-clause-none_new
returns-clause-none_new g c = record {
  is = λ y j u.
      let v = c.write_block-wrote.ensures.moved.none_new.is y j
      (record { told = u.told; untold = u.untold }) in
      record { told = v.told; untold = v.untold };
}
