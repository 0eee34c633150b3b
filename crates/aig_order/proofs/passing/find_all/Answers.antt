use Rattle.std.proofs.Common.{◌≡◌, ◌≢◌, ◌+◌, ◌∙◌, ℕ, Result, arith, refl, subst, sym}
use Rattle.em_space.specs.Seen.{seen}
use Rattle.em_space.specs.declared.fault.EmFault.{EmFault}
use Rattle.aig_edges.proofs.Looks.{of_fault}
use Rattle.aig_order.specs.declared.passing.Found.{Found}
use Rattle.aig_order.specs.Findings.{FindsAll, FindsTo}
use Rattle.aig_order.specs.Marks.{FitsArea}
use Rattle.aig_order.proofs.Finds.{finds_all, finds_end, finds_stop, finds_whole, passed_can, passed_fits, passed_next, passed_none}
use Rattle.aig_order.proofs.passing.find_all.Goals as goal

pub loop-init : goal.loop-init
loop-init g c =
    let x = c.args.queue.now in
    let s = seen g.D.Device.state c.args.rig.now in
    record {
      queue = c.requires.is;
      most = omega arith;
      passes = omega arith;
      passed = passed_none g.Q.Queue c.args.header.now c.args.list x
          (g.met.Q.Queue.blocks_most x s c.requires.is) c.requires.can;
      still = λ f. refl;
    }

pub make_pass-requires-clause-can : goal.make_pass-requires-clause-can
make_pass-requires-clause-can g c =
    passed_can g.Q.Queue c.args.header.now c.args.list c.loop.counter _ c.args.queue.now _ _
    c.requires.header c.loop-test.true c.requires.can c.loop.invariant.passed

pub make_pass-requires-clause-fits : goal.make_pass-requires-clause-fits
make_pass-requires-clause-fits g c =
    passed_fits g.Q.Queue c.args.header.now c.args.list c.loop.counter c.loop.next c.args.queue.now _
    c.loop.list c.loop.invariant.passed c.requires.can

-- the queue is left by the next pass as well
pub returns-in_err-swept-clause-still : goal.returns-in_err-swept-clause-still
returns-in_err-swept-clause-still g c = λ f.
    let i = c.loop.invariant in
    c.make_pass.ensures.still
    (subst (FitsArea c.args.header.now) (sym i.passed.runs.runs.frames.shape) f) ∙ i.still f

pub returns-in_err-swept-clause-finds : goal.returns-in_err-swept-clause-finds
returns-in_err-swept-clause-finds g c =
    let x = c.args.queue.now in
    let z = c.make_pass.new.queue in
    let s = seen g.D.Device.state c.args.rig.now in
    let u = seen g.D.Device.state c.make_pass.new.rig in
    of_fault (λ (r : Result Found EmFault). FindsTo g.Q.Queue c.args.header.now x z c.args.list s u r)
    _ _ c.from_residual.ensures.1
    (finds_stop g.Q.Queue c.args.header.now c.args.list c.loop.counter c.loop.next x c.loop.queue z
    c.loop.list c.loop-test.true c.requires.can c.loop.invariant.passed c.in_err-swept.ensures.passes)

pub returns-then-swept-next-clause-still : goal.returns-then-swept-next-clause-still
returns-then-swept-next-clause-still g c = λ f.
    let i = c.loop.invariant in
    c.make_pass.ensures.still
    (subst (FitsArea c.args.header.now) (sym i.passed.runs.runs.frames.shape) f) ∙ i.still f

pub returns-then-swept-next-clause-finds : goal.returns-then-swept-next-clause-finds
returns-then-swept-next-clause-finds g c =
    let x = c.args.queue.now in
    let z = c.make_pass.new.queue in
    let s = seen g.D.Device.state c.args.rig.now in
    let u = seen g.D.Device.state c.make_pass.new.rig in
    let still = c.if-swept-next.true in
    let same : c.in_ok-swept.swept.next ≡ c.loop.next = omega (arith, still) in
    let all : FindsAll g.Q.Queue c.args.header.now x z c.args.list (record {
      list = c.in_ok-swept.swept.list;
      passes = c.loop.counter;
      next = c.loop.next;
    }) s u =
    finds_end g.Q.Queue c.args.header.now c.args.list c.loop.counter c.loop.next x c.loop.queue z
    c.loop.list c.in_ok-swept.swept c.loop-test.true c.requires.can c.loop.invariant.passed
    c.in_ok-swept.ensures.passes same in
    subst (λ (n : ℕ). FindsAll g.Q.Queue c.args.header.now x z c.args.list (record {
      list = c.in_ok-swept.swept.list;
      passes = n;
      next = c.loop.next;
    }) s u) (sym c.loop.invariant.passes) all

pub loop-preserved : goal.loop-preserved
loop-preserved g c =
    let x = c.args.queue.now in
    let z = c.make_pass.new.queue in
    let i = c.loop.invariant in
    let e = c.in_ok-swept.ensures in
    let other = c.if-swept-next.false in
    let next : c.in_ok-swept.swept.next ≢ c.loop.next = λ same. absurd (omega (arith, same, other)) in
    record {
      queue = e.queue;
      most = omega (arith, c.loop-test.true);
      passes = omega (arith, i.passes);
      passed = passed_next g.Q.Queue c.args.header.now c.args.list c.loop.counter c.loop.next x
          c.loop.queue z c.loop.list c.in_ok-swept.swept c.requires.can i.passed e.passes next;
      still = λ f. e.still
          (subst (FitsArea c.args.header.now) (sym i.passed.runs.runs.frames.shape) f) ∙ i.still f;
    }

pub returns-clause-finds : goal.returns-clause-finds
returns-clause-finds g c =
    let x = c.args.queue.now in
    let s = seen g.D.Device.state c.args.rig.now in
    let t = seen g.D.Device.state c.loop.rig in
    let end : c.loop.counter ≡ c.args.header.now.gates =
    omega (arith, c.loop-test.false, c.loop.invariant.most) in
    let all : FindsAll g.Q.Queue c.args.header.now x c.loop.queue c.args.list (record {
      list = c.loop.list;
      passes = c.loop.counter;
      next = c.loop.next;
    }) s t =
    finds_all g.Q.Queue c.args.header.now c.args.list c.loop.counter c.loop.next x c.loop.queue
    c.loop.list end c.loop.invariant.passed in
    subst (λ (n : ℕ). FindsAll g.Q.Queue c.args.header.now x c.loop.queue c.args.list (record {
      list = c.loop.list;
      passes = n;
      next = c.loop.next;
    }) s t) (sym c.loop.invariant.passes) all

pub returns-clause-frames : goal.returns-clause-frames
returns-clause-frames g c = g.met.Q.Queue.frames_of c.loop.queue _ c.loop.invariant.queue

pub returns-clause-still : goal.returns-clause-still
returns-clause-still g c = c.loop.invariant.still

pub returns-then-next-end-clause-still : goal.returns-then-next-end-clause-still
returns-then-next-end-clause-still g c = λ f.
    let i = c.loop.invariant in
    c.make_pass.ensures.still
    (subst (FitsArea c.args.header.now) (sym i.passed.runs.runs.frames.shape) f) ∙ i.still f

pub returns-then-next-end-clause-finds : goal.returns-then-next-end-clause-finds
returns-then-next-end-clause-finds g c =
    let x = c.args.queue.now in
    let z = c.make_pass.new.queue in
    let s = seen g.D.Device.state c.args.rig.now in
    let u = seen g.D.Device.state c.make_pass.new.rig in
    let other = c.if-swept-next.false in
    let next : c.in_ok-swept.swept.next ≢ c.loop.next = λ same. absurd (omega (arith, same, other)) in
    let passed = passed_next g.Q.Queue c.args.header.now c.args.list c.loop.counter c.loop.next x
    c.loop.queue z c.loop.list c.in_ok-swept.swept c.requires.can c.loop.invariant.passed
    c.in_ok-swept.ensures.passes next in
    let last = c.if-next-end.true in
    let all : FindsAll g.Q.Queue c.args.header.now x z c.args.list (record {
      list = c.in_ok-swept.swept.list;
      passes = c.loop.counter + 1;
      next = c.in_ok-swept.swept.next;
    }) s u =
    finds_whole g.Q.Queue c.args.header.now c.args.list (c.loop.counter + 1)
    c.in_ok-swept.swept.next x z c.in_ok-swept.swept.list (omega (arith, c.loop-test.true))
    (omega (arith, last)) passed in
    let count : c.loop.counter + 1 ≡ c.loop.passes + 1 = omega (arith, c.loop.invariant.passes) in
    subst (λ (n : ℕ). FindsAll g.Q.Queue c.args.header.now x z c.args.list (record {
      list = c.in_ok-swept.swept.list;
      passes = n;
      next = c.in_ok-swept.swept.next;
    }) s u) count all
