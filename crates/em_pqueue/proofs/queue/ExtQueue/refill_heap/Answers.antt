use Rattle.std.proofs.Common.{arith, refl, ◌∙◌, Result}
use Rattle.em_space.specs.Seen.{seen}
use Rattle.em_space.specs.declared.fault.EmFault.{EmFault}
use Rattle.em_pqueue.specs.Steps.{RefillsTo}
use Rattle.em_heap.specs.Lending.{empty_over}
use Rattle.em_pqueue.specs.declared.queue.ExtQueue.{ExtQueue}
use Rattle.em_pqueue.proofs.Overs.{load_few}
use Rattle.em_pqueue.proofs.Refills.{refill_by, refill_none, resets_few, take_stops}
use Rattle.em_pqueue.specs.ExtQueue.{WantsRefill}
use Rattle.em_pqueue.proofs.Working.{of_err, on_err}
use Rattle.em_pqueue.proofs.queue.ExtQueue.refill_heap.Goals as goal
use Rattle.em_pqueue.proofs.queue.ExtQueue.refill_heap.Goals.{then-len-gt0-via-then-len-gt0, then-len-gt0-via-else-len-gt0+then-self-eq0}

pub returns-then-len-gt0-clause-refills : goal.returns-then-len-gt0-clause-refills
returns-then-len-gt0-clause-refills g c =
    refill_none (seen g.D.Device.state c.args.rig.now) c.args.self.now c.requires.sound
    c.requires.stands (λ e. elim c.then-len-gt0.branch [
      | then-len-gt0-via-then-len-gt0 w ↦ absurd (omega (arith, e, w.if-len-gt0.true, c.len.ensures.value))
      | then-len-gt0-via-else-len-gt0+then-self-eq0 w ↦ w.if-self-eq0.true
    ])

pub take_first-requires-clause-is : goal.take_first-requires-clause-is
take_first-requires-clause-is g c = c.requires.stands.tree

pub take_first-requires-clause-few : goal.take_first-requires-clause-few
take_first-requires-clause-few g c =
    resets_few (seen g.D.Device.state c.args.rig.now) c.args.self.now c.requires.stands c.requires.few

pub take_over-requires-clause-small : goal.take_over-requires-clause-small
take_over-requires-clause-small g c =
    let l = load_few (seen g.D.Device.state c.args.rig.now).pool.shape c.requires.stands.shape in
    let n = c.in_ok-count.ensures.takes.few in
    omega (arith, l, n, c.take_first.ensures.len, c.empty_area.ensures.len, c.requires.stands.area)

pub returns-in_err-count-clause-refills : goal.returns-in_err-count-clause-refills
returns-in_err-count-clause-refills g c =
    let s = seen g.D.Device.state c.args.rig.now in
    let t = seen g.D.Device.state c.take_first.new.rig in
    let w : ExtQueue = record c.args.self.now {
      tree = c.take_first.new.self;
      heap = empty_over c.take_first.new.into;
    } in
    of_err (λ (r : Result (Unit {0}) EmFault). RefillsTo s t c.args.self.now w r) _ _
    c.from_residual.ensures.1 (take_stops s t c.args.self.now w c.take_first.new.into
    c.requires.stands (record {
      empty = omega (arith, c.if-len-gt0.false, c.len.ensures.value);
      some = omega (arith, c.if-self-eq0.false);
      rest = refl;
      heap = refl;
      long = c.take_first.ensures.len ∙ c.empty_area.ensures.len;
    }) c.in_err-count.field-0.0 c.in_err-count.ensures.takes c.in_err-count.ensures.counts
    c.in_err-count.ensures.room c.in_err-count.ensures.over)

pub returns-clause-refills : goal.returns-clause-refills
returns-clause-refills g c =
    let s = seen g.D.Device.state c.args.rig.now in
    let t = seen g.D.Device.state c.take_first.new.rig in
    let w : ExtQueue = record c.args.self.now {
      tree = c.take_first.new.self;
      heap = empty_over c.take_first.new.into;
    } in
    refill_by s t c.args.self.now w c.take_first.new.into c.requires.stands (record {
      empty = omega (arith, c.if-len-gt0.false, c.len.ensures.value);
      some = omega (arith, c.if-self-eq0.false);
      rest = refl;
      heap = refl;
      long = c.take_first.ensures.len ∙ c.empty_area.ensures.len;
    }) c.in_ok-count.count c.in_ok-count.ensures.takes c.in_ok-count.ensures.counts
    c.in_ok-count.ensures.room
    c.take_over.new.self c.take_over.result c.take_over.ensures

pub returns-clause-needs : goal.returns-clause-needs
returns-clause-needs g c =
    on_err (WantsRefill c.args.self.now) c.take_over.result (
      omega (arith, c.if-len-gt0.false, c.len.ensures.value),
      omega (arith, c.if-self-eq0.false),
    )

pub returns-clause-still : goal.returns-clause-still
returns-clause-still g c = λ here. absurd (here (
  omega (arith, c.if-len-gt0.false, c.len.ensures.value),
  omega (arith, c.if-self-eq0.false),
))
