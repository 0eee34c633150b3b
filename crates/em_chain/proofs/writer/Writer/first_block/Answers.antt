use Rattle.em_space.specs.Seen.{seen}
use Rattle.em_chain.proofs.Appending.{first_is}
use Rattle.em_chain.proofs.writer.Writer.first_block.Goals as goal

pub returns-clause-appends : goal.returns-clause-appends
returns-clause-appends g c =
    let a = c.alloc.ensures.goes in
    let b = c.in_ok-block.ensures.given in
    rw c.put_record.ensures (first_is (seen g.D.Device.state c.args.rig.now)
    (seen g.D.Device.state c.alloc.new.self) c.args.self.now c.in_ok-block.block c.args.item
    c.requires.sound.shape.block_low c.requires.none c.requires.is
    (record { touches = a.touches; frames = a.frames; fresh = b.fresh; in_use = b.in_use }))
