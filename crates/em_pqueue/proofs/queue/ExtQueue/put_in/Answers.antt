use Rattle.std.proofs.Common.{IsTrue, List, Result, arith, inl, inr, subst, sym, ◌∙◌, ◌≡◌}
use Rattle.em_record.specs.Order.{Lacks}
use Rattle.em_record.specs.declared.record.Record.{Record}
use Rattle.em_space.specs.Seen.{seen}
use Rattle.em_pqueue.specs.ExtQueue.{GivesDown, GoesDown}
use Rattle.em_pqueue.proofs.Puts.{put_after}
use Rattle.em_pqueue.proofs.Working.{of_err, on_err, on_err_so}
use Rattle.em_pqueue.proofs.queue.ExtQueue.put_in.Goals as goal
use Rattle.em_pqueue.specs.Steps.{PutsTo}
use Rattle.em_space.specs.declared.fault.EmFault.{EmFault}

pub put_beside-requires-2-clause-lacks : goal.put_beside-requires-2-clause-lacks
put_beside-requires-2-clause-lacks g c = λ told.
    let m = c.in_ok-spill.ensures.0 in
    let s = seen g.D.Device.state c.args.rig.now in
    let back : IsTrue s.device.told = sym m.works.session.touches.told ∙ told in
    let P : List Record → Type 0 = Lacks c.args.item in
    subst P (sym (m.items back)) (c.requires.lacks back)

pub returns-clause-puts : goal.returns-clause-puts
returns-clause-puts g c =
    put_after (seen g.D.Device.state c.args.rig.now) (seen g.D.Device.state c.spill.new.rig)
    (seen g.D.Device.state c.put_beside-2.new.rig) c.args.self.now c.spill.new.self
    c.put_beside-2.new.self c.args.item c.put_beside-2.result c.in_ok-spill.ensures.0
    c.put_beside-2.ensures.puts

pub returns-then-goes_down-clause-needs : goal.returns-then-goes_down-clause-needs
returns-then-goes_down-clause-needs g c =
    on_err_so (GoesDown c.args.self.now c.args.item) (GivesDown c.args.self.now c.args.item)
    c.put_beside.result inl c.put_beside.ensures.needs

pub returns-clause-needs : goal.returns-clause-needs
returns-clause-needs g c =
    let full : c.args.self.now.heap.len ≡ c.args.self.now.heap.capacity =
    omega (
      arith,
      c.if-len-capacity.false,
      c.len.ensures.value,
      c.len.ensures.within,
      c.capacity.ensures,
    ) in
    on_err (GivesDown c.args.self.now c.args.item) c.put_beside-2.result (inr full)

pub returns-clause-still : goal.returns-clause-still
returns-clause-still g c = λ here.
    let full : c.args.self.now.heap.len ≡ c.args.self.now.heap.capacity =
    omega (
      arith,
      c.if-len-capacity.false,
      c.len.ensures.value,
      c.len.ensures.within,
      c.capacity.ensures,
    ) in
    absurd (here (inr full))

pub returns-in_err-spill-clause-puts : goal.returns-in_err-spill-clause-puts
returns-in_err-spill-clause-puts g c =
    let s = seen g.D.Device.state c.args.rig.now in
    let t = seen g.D.Device.state c.spill.new.rig in
    of_err (λ (r : Result (Unit {0}) EmFault).
    PutsTo c.args.item s t c.args.self.now c.spill.new.self r) _ _ c.from_residual.ensures.1
    c.in_err-spill.ensures
