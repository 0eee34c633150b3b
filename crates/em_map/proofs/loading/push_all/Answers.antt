use Rattle.std.proofs.Common.{◌+◌, ◌∙◌, IsTrue, ap, length, max, refl}
use Rattle.em_settle.specs.Add.{apply_of}
use Rattle.em_settle.specs.declared.add.AddSettle.{AddSettle}
use Rattle.em_space.specs.Seen.{seen}
use Rattle.em_chain.proofs.Parts.{err_of}
use Rattle.em_map.specs.Loading.{LoadOver, answers_in}
use Rattle.em_map.proofs.PushedMore.{counts_last, next_is_later, over_last, pushed_all, pushed_more, pushed_none, pushes_err, stops_next, within_all, within_last}
use Rattle.em_map.proofs.loading.push_all.Goals as goal

pub loop-at-init : goal.loop-at-init
loop-at-init g c = record {
  rule = refl;
  some = pushed_none (apply_of c.args.tree.now.settle.kind) c.args.ops.now (seen g.D.Device.state c.args.rig.now)
      c.args.tree.now.trunk c.requires.sound c.requires.is c.requires.later;
}

pub push-requires-clause-ready : goal.push-requires-clause-ready
push-requires-clause-ready g c = rw (c.loop-at.invariant.rule) (c.requires.ready)

pub push-requires-clause-later : goal.push-requires-clause-later
push-requires-clause-later g c =
    next_is_later (apply_of c.args.tree.now.settle.kind) c.args.ops.now c.loop-at.at (seen g.D.Device.state c.args.rig.now)
    (seen g.D.Device.state c.loop-at.rig) c.args.tree.now.trunk c.loop-at.tree.trunk c.requires.sound
    c.loop-at-test.true c.loop-at.invariant.some

pub returns-in_err-push-clause-pushes : goal.returns-in_err-push-clause-pushes
returns-in_err-push-clause-pushes g c =
    let apply = apply_of c.args.tree.now.settle.kind in
    let s = seen g.D.Device.state c.args.rig.now in
    let t = seen g.D.Device.state c.push.new.rig in
    pushes_err apply c.args.ops.now s t c.args.tree.now.trunk c.push.new.self.trunk c.from_residual.result _
    c.from_residual.ensures.1
    (stops_next apply c.args.ops.now c.loop-at.at s (seen g.D.Device.state c.loop-at.rig) c.args.tree.now.trunk
    c.loop-at.tree.trunk c.requires.sound c.loop-at-test.true c.loop-at.invariant.some t c.push.new.self.trunk _
    c.in_err-push.ensures.pushes)

pub returns-in_err-push-clause-counts : goal.returns-in_err-push-clause-counts
returns-in_err-push-clause-counts g c =
    counts_last (apply_of c.args.tree.now.settle.kind) c.args.ops.now c.loop-at.at (seen g.D.Device.state c.args.rig.now)
    (seen g.D.Device.state c.loop-at.rig) c.args.tree.now.trunk c.loop-at.tree.trunk c.requires.sound
    c.loop-at-test.true c.loop-at.invariant.some (seen g.D.Device.state c.push.new.rig) c.push.new.self.trunk
    c.push.ensures.counts

pub returns-in_err-push-clause-room : goal.returns-in_err-push-clause-room
returns-in_err-push-clause-room g c = λ told.
    within_last (apply_of c.args.tree.now.settle.kind) c.args.ops.now c.loop-at.at (seen g.D.Device.state c.args.rig.now)
    (seen g.D.Device.state c.loop-at.rig) c.args.tree.now.trunk c.loop-at.tree.trunk c.requires.sound
    c.loop-at-test.true c.loop-at.invariant.some (seen g.D.Device.state c.push.new.rig) c.push.new.self.trunk told
    c.push.ensures.room

pub returns-in_err-push-clause-over : goal.returns-in_err-push-clause-over
returns-in_err-push-clause-over g c =
    let apply = apply_of c.args.tree.now.settle.kind in
    let s = seen g.D.Device.state c.args.rig.now in
    let v = c.args.tree.now.trunk in
    let n = length c.args.ops.now in
    err_of _ _ (λ fault. IsTrue s.device.told → LoadOver (max v.longest (v.since + n)) (answers_in apply s v + n) s v fault)
    c.from_residual.ensures.1
    (over_last apply c.args.ops.now c.loop-at.at s (seen g.D.Device.state c.loop-at.rig) v c.loop-at.tree.trunk
    c.requires.sound c.loop-at-test.true c.loop-at.invariant.some _ c.in_err-push.ensures.over)

pub loop-at-preserved : goal.loop-at-preserved
loop-at-preserved g c = record {
  rule = c.push.ensures.rule ∙ c.loop-at.invariant.rule;
  some = pushed_more (apply_of c.args.tree.now.settle.kind) c.args.ops.now c.loop-at.at
      (seen g.D.Device.state c.args.rig.now) (seen g.D.Device.state c.loop-at.rig) c.args.tree.now.trunk
      c.loop-at.tree.trunk c.requires.sound c.loop-at-test.true c.loop-at.invariant.some
      (seen g.D.Device.state c.push.new.rig) c.push.new.self.trunk (apply_of c.loop-at.tree.settle.kind)
      (ap (λ (z : AddSettle _). apply_of z.kind) c.loop-at.invariant.rule) c.in_ok-push.ensures.pushes
      c.push.ensures.counts c.push.ensures.room;
}

pub returns-clause-pushes : goal.returns-clause-pushes
returns-clause-pushes g c =
    pushed_all (apply_of c.args.tree.now.settle.kind) c.args.ops.now c.loop-at.at (seen g.D.Device.state c.args.rig.now)
    (seen g.D.Device.state c.loop-at.rig) c.args.tree.now.trunk c.loop-at.tree.trunk c.loop-at-test.false
    c.loop-at.invariant.some

pub returns-clause-room : goal.returns-clause-room
returns-clause-room g c =
    within_all (apply_of c.args.tree.now.settle.kind) c.args.ops.now c.loop-at.at (seen g.D.Device.state c.args.rig.now)
    (seen g.D.Device.state c.loop-at.rig) c.args.tree.now.trunk c.loop-at.tree.trunk c.loop-at-test.false
    c.loop-at.invariant.some
