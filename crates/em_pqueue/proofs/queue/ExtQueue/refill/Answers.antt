use Rattle.std.proofs.Common.{arith}
use Rattle.em_space.specs.Seen.{seen}
use Rattle.em_pqueue.proofs.Notes.{notes_as}
use Rattle.em_pqueue.proofs.Refills.{refills_kept, refills_later}
use Rattle.em_pqueue.proofs.queue.ExtQueue.refill.Goals as goal

pub note_most-requires-clause-within : goal.note_most-requires-clause-within
note_most-requires-clause-within g c =
    let n = c.requires.sound.numbers.used_most in omega (arith, n, c.used-used.ensures, c.most-most.ensures)

pub note_most-requires-clause-later : goal.note_most-requires-clause-later
note_most-requires-clause-later g c =
    let s = seen g.D.Device.state c.args.rig.now in
    let t = seen g.D.Device.state c.refill_heap-done.new.rig in
    let l = refills_later s t c.args.self.now c.refill_heap-done.new.self c.refill_heap-done.result c.refill_heap-done.ensures.refills in
    omega (arith, l, c.most-most.ensures)

pub returns-clause-refills : goal.returns-clause-refills
returns-clause-refills g c = record {
  mid = c.refill_heap-done.new.self;
  done = c.refill_heap-done.ensures.refills;
  notes = notes_as (seen g.D.Device.state c.refill_heap-done.new.rig) c.refill_heap-done.new.self c.note_most.new.self
      c.used-used.ensures c.most-most.ensures c.note_most.ensures;
}

pub note_most-requires-clause-sound : goal.note_most-requires-clause-sound
note_most-requires-clause-sound g c =
    let s = seen g.D.Device.state c.args.rig.now in
    let t = seen g.D.Device.state c.refill_heap-done.new.rig in
    (refills_kept s t c.args.self.now c.refill_heap-done.new.self c.refill_heap-done.result c.refill_heap-done.ensures.refills).0

pub note_most-requires-clause-few : goal.note_most-requires-clause-few
note_most-requires-clause-few g c =
    let s = seen g.D.Device.state c.args.rig.now in
    let t = seen g.D.Device.state c.refill_heap-done.new.rig in
    let e = (refills_kept s t c.args.self.now c.refill_heap-done.new.self c.refill_heap-done.result c.refill_heap-done.ensures.refills).1 in
    omega (arith, e, c.requires.blocks)
