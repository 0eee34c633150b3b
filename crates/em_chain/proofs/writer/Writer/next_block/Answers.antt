use Rattle.std.proofs.Common.{◌-◌, ◌∷◌, [], rules, arith, ◌∙◌}
use Rattle.em_space.specs.Seen.{seen}
use Rattle.em_space.proofs.Steps.{touches_after}
use Rattle.em_chain.proofs.Keeps.{stored_at}
use Rattle.em_chain.proofs.Appending.{goes_last, next_is, new_in_use, last_in_use}
use Rattle.em_chain.proofs.writer.Writer.next_block.Goals as goal

pub returns-in_err-store-clause-goes : goal.returns-in_err-store-clause-goes
returns-in_err-store-clause-goes g c = goes_last c.args.self.now (c.requires.is.last.some c.requires.some)
    c.alloc.ensures.goes c.store.ensures.goes

pub returns-clause-goes : goal.returns-clause-goes
returns-clause-goes g c = goes_last c.args.self.now (c.requires.is.last.some c.requires.some)
    c.alloc.ensures.goes c.store.ensures.goes

pub returns-clause-appends : goal.returns-clause-appends
returns-clause-appends g c =
    let a = c.alloc.ensures.goes in
    let b = c.store.ensures.goes in
    let n = c.in_ok-block.ensures.given in
    let s = seen g.D.Device.state c.args.rig.now in
    let m = seen g.D.Device.state c.alloc.new.self in
    let t = seen g.D.Device.state c.store.new.self in
    let w = c.args.self.now in
    let l = w.tail - 1 in
    let some = c.requires.is.last.some c.requires.some in
    rw (c.put_record.ensures, c.put_header.ensures) (next_is s t w l c.in_ok-block.block c.args.item
    c.requires.sound.shape.block_low (omega arith) c.requires.room.count c.requires.room.blocks
    c.requires.is c.requires.full (record {
      touches = touches_after (l ∷ []) s m t a.touches b.touches;
      frames = search rules;
      stored = λ z. stored_at m t l c.put_header.new.frame a.sound
          (last_in_use s m w c.requires.is some a.touches) c.in_ok-store.ensures.stored
          (a.touches.told ∙ z) ∙ c.put_header.ensures;
      fresh = n.fresh;
      in_use = new_in_use s m t w c.in_ok-block.block c.requires.is some a.touches b.touches
          n.fresh n.in_use;
      last = c.store.ensures.in_use;
    }))
