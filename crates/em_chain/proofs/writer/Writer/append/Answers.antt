use Rattle.std.proofs.Common.{List, arith, length, ap}
use Rattle.em_record.specs.declared.record.Record.{Record}
use Rattle.em_space.specs.Seen.{seen}
use Rattle.em_chain.proofs.Sessions.{append_costs}
use Rattle.em_chain.proofs.Appending.{put_is, pos_of}
use Rattle.em_chain.proofs.writer.Writer.append.Goals as goal

pub returns-clause-appends : goal.returns-clause-appends
returns-clause-appends g c =
    let s = seen g.D.Device.state c.args.rig.now in
    let w = c.args.self.now in
    let pos = pos_of w.blocks c.if-self-eq0.false in
    let some = c.requires.is.last.some pos in
    let low = c.requires.sound.shape.block_low in
    let e = ap (λ (xs : List Record). length xs) c.records.ensures in
    let l = c.requires.is.frame.len_is in
    let m = c.requires.is.last.fill_most in
    rw c.put.ensures.is (put_is s w c.args.item low some c.requires.room.count c.requires.is
    (omega arith))

pub returns-then-self-records-clause-spends : goal.returns-then-self-records-clause-spends
returns-then-self-records-clause-spends g c =
    let n = c.next_block.ensures in
    append_costs _ _ _ _ c.args.item _ c.requires.sound.shape.block_low n.goes c.requires.is
    n.appends n.costs
