use Rattle.em_space.specs.Seen.{seen}
use Rattle.em_pqueue.proofs.Spills.{rises, spill_by, upper_taken}
use Rattle.em_pqueue.proofs.queue.ExtQueue.spill.Goals as goal

pub push_all-requires-clause-rises : goal.push_all-requires-clause-rises
push_all-requires-clause-rises g c =
    let s = seen g.D.Device.state c.args.rig.now in
    let h = c.upper_half-count.ensures in
    let up = upper_taken s c.args.self.now c.upper_half-count.new.self c.upper_half-count.result
    c.behind.result.now (record { a = 0; b = 0; c = 0; d = 0 }) c.requires.stands c.requires.full
    h.items h.count h.len h.capacity c.behind.ensures.items c.behind.ensures.len in
    rises s c.args.self.now c.upper_half-count.new.self c.upper_half-count.result _ _
    c.requires.stands c.requires.full up

pub returns : goal.returns
returns g c =
    let s = seen g.D.Device.state c.args.rig.now in
    let h = c.upper_half-count.ensures in
    let up = upper_taken s c.args.self.now c.upper_half-count.new.self c.upper_half-count.result
    c.behind.result.now (record { a = 0; b = 0; c = 0; d = 0 }) c.requires.stands c.requires.full
    h.items h.count h.len h.capacity c.behind.ensures.items c.behind.ensures.len in
    spill_by s c.args.self.now c.upper_half-count.new.self c.upper_half-count.result _ _
    c.requires.stands c.requires.full up (seen g.D.Device.state c.push_all.new.rig)
    c.push_all.new.self c.push_all.result c.push_all.ensures
