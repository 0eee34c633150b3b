use Rattle.std.proofs.Common.{◌≡◌, ◌<◌, arith, sym, ap, subst, ◌∙◌, List, length, get_or, take, IsTrue, Result}
use Rattle.std.proofs.lemmas.List.{get_or_default}
use Rattle.em_record.specs.Order.{Lacks}
use Rattle.em_record.specs.declared.record.Record.{Record}
use Rattle.em_space.specs.Seen.{seen}
use Rattle.em_space.specs.declared.fault.EmFault.{EmFault}
use Rattle.em_pqueue.specs.ExtQueue.{items_in_tree}
use Rattle.em_pqueue.specs.Steps.{PushedDown, PushesAll}
use Rattle.em_pqueue.specs.declared.queue.ExtQueue.{ExtQueue}
use Rattle.em_pqueue.proofs.Parts.{lacks_next, take_next}
use Rattle.em_pqueue.proofs.Pushed.{pushed_none, pushed_then, refused_after}
use Rattle.em_pqueue.proofs.Working.{of_err}
use Rattle.em_pqueue.proofs.queue.ExtQueue.push_all.Goals as goal

pub loop-at-init : goal.loop-at-init
loop-at-init g c =
    pushed_none (seen g.D.Device.state c.args.rig.now) c.args.self.now c.requires.sound
    c.requires.tree

pub push_down-requires-clause-lacks : goal.push_down-requires-clause-lacks
push_down-requires-clause-lacks g c = λ told.
    let a = c.loop-at.invariant in
    let s = seen g.D.Device.state c.args.rig.now in
    let n = c.args.count in
    let xs = take n c.args.self.now.heap.behind in
    let i = c.loop-at.at in
    let z : Record = record { a = 0; b = 0; c = 0; d = 0 } in
    let x = get_or c.behind.result.now i z in
    let back : IsTrue s.device.told = sym a.works.session.touches.told ∙ told in
    let list : c.behind.result.now ≡ xs = c.behind.ensures.items
    ∙ ap (λ (q : ExtQueue). take n q.heap.behind) a.rest in
    let long = ap length list in
    let within : i < length xs = omega (arith, c.loop-at-test.true, c.behind.ensures.len, long) in
    let P : List Record → Type 0 = Lacks x in
    subst P (sym (a.items back)) (lacks_next xs (items_in_tree s c.args.self.now) i x within
    (λ d. get_or_default xs i d z within ∙ ap (λ l. get_or l i z) (sym list)) (c.requires.rises back))

pub returns-in_err-push_down : goal.returns-in_err-push_down
returns-in_err-push_down g c =
    let a = c.loop-at.invariant in
    let s = seen g.D.Device.state c.args.rig.now in
    let u = seen g.D.Device.state c.push_down.new.rig in
    let n = c.args.count in
    let xs = take n c.args.self.now.heap.behind in
    let i = c.loop-at.at in
    let list : c.behind.result.now ≡ xs = c.behind.ensures.items
    ∙ ap (λ (q : ExtQueue). take n q.heap.behind) a.rest in
    let long = ap length list in
    of_err (λ (r : Result (Unit {0}) EmFault). PushesAll xs s u c.args.self.now c.push_down.new.self r)
    _ _ c.from_residual.ensures.1 (record {
      done = i;
      fewer = omega (arith, c.loop-at-test.true, c.behind.ensures.len, long);
      stops = refused_after c.args.self.now c.loop-at.self c.push_down.new.self (take i xs) a
          c.in_err-push_down.ensures;
    })

pub loop-at-preserved : goal.loop-at-preserved
loop-at-preserved g c =
    let a = c.loop-at.invariant in
    let s = seen g.D.Device.state c.args.rig.now in
    let u = seen g.D.Device.state c.push_down.new.rig in
    let n = c.args.count in
    let xs = take n c.args.self.now.heap.behind in
    let i = c.loop-at.at in
    let z : Record = record { a = 0; b = 0; c = 0; d = 0 } in
    let x = get_or c.behind.result.now i z in
    let list : c.behind.result.now ≡ xs = c.behind.ensures.items
    ∙ ap (λ (q : ExtQueue). take n q.heap.behind) a.rest in
    let long = ap length list in
    let within : i < length xs = omega (arith, c.loop-at-test.true, c.behind.ensures.len, long) in
    let P : List Record → Type 0 = λ l. PushedDown l s u c.args.self.now c.push_down.new.self in
    subst P (sym (take_next xs i x within
    (λ d. get_or_default xs i d z within ∙ ap (λ l. get_or l i z) (sym list))))
    (pushed_then c.args.self.now c.loop-at.self c.push_down.new.self (take i xs) x a
    c.in_ok-push_down.ensures)
