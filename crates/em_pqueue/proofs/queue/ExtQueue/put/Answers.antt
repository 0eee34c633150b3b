use Rattle.std.proofs.Common.{arith}
use Rattle.em_space.specs.Seen.{seen}
use Rattle.em_pqueue.proofs.Notes.{notes_as}
use Rattle.em_pqueue.proofs.Puts.{puts_kept, puts_later}
use Rattle.em_pqueue.proofs.queue.ExtQueue.put.Goals as goal

pub note_most-requires-clause-within : goal.note_most-requires-clause-within
note_most-requires-clause-within g c =
    let n = c.requires.sound.numbers.used_most in omega (arith, n, c.used-used.ensures, c.most-most.ensures)

pub note_most-requires-clause-later : goal.note_most-requires-clause-later
note_most-requires-clause-later g c =
    let s = seen g.D.Device.state c.args.rig.now in
    let t = seen g.D.Device.state c.put_in-done.new.rig in
    let l = puts_later s t c.args.self.now c.put_in-done.new.self c.args.item c.put_in-done.result c.put_in-done.ensures.puts in
    omega (arith, l, c.most-most.ensures)

pub returns-clause-puts : goal.returns-clause-puts
returns-clause-puts g c = record {
  mid = c.put_in-done.new.self;
  done = c.put_in-done.ensures.puts;
  notes = notes_as (seen g.D.Device.state c.put_in-done.new.rig) c.put_in-done.new.self c.note_most.new.self
      c.used-used.ensures c.most-most.ensures c.note_most.ensures;
}

pub note_most-requires-clause-sound : goal.note_most-requires-clause-sound
note_most-requires-clause-sound g c =
    let s = seen g.D.Device.state c.args.rig.now in
    let t = seen g.D.Device.state c.put_in-done.new.rig in
    (puts_kept s t c.args.self.now c.put_in-done.new.self c.args.item c.put_in-done.result c.put_in-done.ensures.puts).0

pub note_most-requires-clause-few : goal.note_most-requires-clause-few
note_most-requires-clause-few g c =
    let s = seen g.D.Device.state c.args.rig.now in
    let t = seen g.D.Device.state c.put_in-done.new.rig in
    let e = (puts_kept s t c.args.self.now c.put_in-done.new.self c.args.item c.put_in-done.result c.put_in-done.ensures.puts).1 in
    omega (arith, e, c.requires.blocks)
