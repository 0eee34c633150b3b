use Rattle.std.proofs.Common.{◌∙◌, ap, refl, arith, Some, None}
use Rattle.aig_text.proofs.Lines.{of_error}
use Rattle.em_settle.specs.Add.{apply_of}
use Rattle.em_space.specs.Seen.{seen}
use Rattle.em_services.specs.Listing.{AppendsAll}
use Rattle.em_services.proofs.Appended.{asked_all, list_grows, lists_appended, lists_asked, lists_none, stops_appended, stops_asked, too_many_pairs}
use Rattle.em_services.proofs.pair_list.append_all.Goals as goal

pub loop-init : goal.loop-init
loop-init g c = record {
  lists = lists_none (apply_of c.args.drain.now.tree.settle.kind) (seen g.D.Device.state c.args.rig.now) c.args.drain.now
      c.args.list.now c.requires.sound c.requires.is c.requires.list;
  rule = refl;
  count = c.requires.list.count;
  most = omega arith;
}

pub next-requires-clause-ready : goal.next-requires-clause-ready
next-requires-clause-ready g c = rw (c.loop.invariant.rule) c.requires.ready

pub returns-in_err-pair-clause-appends : goal.returns-in_err-pair-clause-appends
returns-in_err-pair-clause-appends g c =
    let apply = apply_of c.args.drain.now.tree.settle.kind in
    let s = seen g.D.Device.state c.args.rig.now in
    let u = seen g.D.Device.state c.next.new.rig in
    let e = c.in_err-pair.ensures in
    of_error (λ r. AppendsAll apply s u c.args.drain.now c.next.new.self c.loop.list r) c.from_residual.result
    c.in_err-pair.field-0.0 c.from_residual.ensures.1
    (stops_asked apply s (seen g.D.Device.state c.loop.rig) u c.args.drain.now c.loop.drain c.next.new.self c.loop.list
    c.loop.invariant.lists c.in_err-pair.field-0.0 e.gives e.counts e.room e.over c.requires.sound)

pub append-requires-clause-is : goal.append-requires-clause-is
append-requires-clause-is g c =
    let e = c.in_ok-pair.ensures in
    (lists_asked (apply_of c.args.drain.now.tree.settle.kind) (seen g.D.Device.state c.args.rig.now)
    (seen g.D.Device.state c.loop.rig) (seen g.D.Device.state c.next.new.rig) c.args.drain.now c.loop.drain
    c.next.new.self c.loop.list c.loop.invariant.lists (apply_of c.loop.drain.tree.settle.kind) c.in_ok-pair.field-0
    (ap (λ r. apply_of r.kind) c.loop.invariant.rule) e.gives e.counts e.room).list

pub append-requires-clause-room : goal.append-requires-clause-room
append-requires-clause-room g c =
    list_grows (apply_of c.args.drain.now.tree.settle.kind) (seen g.D.Device.state c.args.rig.now)
    (seen g.D.Device.state c.loop.rig) c.args.drain.now c.loop.drain c.loop.list _ c.loop.invariant.lists
    (let few = c.loop-test.true in let count = c.loop.invariant.count in omega (arith, few, count))

pub returns-in_err-append-in-Some-clause-appends : goal.returns-in_err-append-in-Some-clause-appends
returns-in_err-append-in-Some-clause-appends g c =
    let apply = apply_of c.args.drain.now.tree.settle.kind in
    let s = seen g.D.Device.state c.args.rig.now in
    let t = seen g.D.Device.state c.loop.rig in
    let u = seen g.D.Device.state c.next.new.rig in
    let v = seen g.D.Device.state c.append.new.rig in
    let first = c.args.drain.now in
    let drain = c.next.new.self in
    let e = c.in_ok-pair.ensures in
    let a = c.in_err-append-in-Some.ensures in
    let asked = lists_asked apply s t u first c.loop.drain drain c.loop.list c.loop.invariant.lists
    (apply_of c.loop.drain.tree.settle.kind) (Some c.in-Some.pair) (ap (λ r. apply_of r.kind) c.loop.invariant.rule)
    (rw (c.in-Some.is) at e.gives) e.counts e.room in
    of_error (λ r. AppendsAll apply s v first drain c.append.new.self r) c.from_residual-in_err-append-in-Some.result
    c.in_err-append-in-Some.field-0.0 c.from_residual-in_err-append-in-Some.ensures.1
    (stops_appended apply s u v first drain c.loop.list c.append.new.self c.in-Some.pair asked a.goes
    c.in_err-append-in-Some.field-0.0 a.spends a.cause c.requires.sound)

pub returns-in-None-clause-appends : goal.returns-in-None-clause-appends
returns-in-None-clause-appends g c =
    let apply = apply_of c.args.drain.now.tree.settle.kind in
    let s = seen g.D.Device.state c.args.rig.now in
    let t = seen g.D.Device.state c.loop.rig in
    let u = seen g.D.Device.state c.next.new.rig in
    let rule = apply_of c.loop.drain.tree.settle.kind in
    let same = ap (λ r. apply_of r.kind) c.loop.invariant.rule in
    let e = c.in_ok-pair.ensures in
    let gives = rw (c.in-None.is) at e.gives in
    record {
      lists = lists_asked apply s t u c.args.drain.now c.loop.drain c.next.new.self c.loop.list c.loop.invariant.lists
          rule None same gives e.counts e.room;
      all = asked_all apply s t u c.args.drain.now c.loop.drain c.next.new.self c.loop.list c.loop.invariant.lists rule
          same gives;
    }

pub loop-preserved : goal.loop-preserved
loop-preserved g c =
    let apply = apply_of c.args.drain.now.tree.settle.kind in
    let s = seen g.D.Device.state c.args.rig.now in
    let t = seen g.D.Device.state c.loop.rig in
    let u = seen g.D.Device.state c.next.new.rig in
    let v = seen g.D.Device.state c.append.new.rig in
    let e = c.in_ok-pair.ensures in
    let a = c.in_ok-append-in-Some.ensures in
    let asked = lists_asked apply s t u c.args.drain.now c.loop.drain c.next.new.self c.loop.list c.loop.invariant.lists
    (apply_of c.loop.drain.tree.settle.kind) (Some c.in-Some.pair) (ap (λ r. apply_of r.kind) c.loop.invariant.rule)
    (rw (c.in-Some.is) at e.gives) e.counts e.room in
    record {
      lists = lists_appended apply s u v c.args.drain.now c.next.new.self c.loop.list c.append.new.self c.in-Some.pair
          asked a.goes tt a.appends a.costs a.spends;
      rule = c.next.ensures.rule ∙ c.loop.invariant.rule;
      count = let one = a.appends.count_is in let count = c.loop.invariant.count in omega (arith, one, count);
      most = let more = c.loop-test.true in omega (arith, more);
    }

pub returns-clause-appends : goal.returns-clause-appends
returns-clause-appends g c =
    too_many_pairs (apply_of c.args.drain.now.tree.settle.kind) (seen g.D.Device.state c.args.rig.now)
    (seen g.D.Device.state c.loop.rig) c.args.drain.now c.loop.drain c.loop.list c.loop.invariant.lists
    (let done = c.loop-test.false in let most = c.loop.invariant.most in let count = c.loop.invariant.count in
    omega (arith, done, most, count))
    c.requires.few c.requires.sound
