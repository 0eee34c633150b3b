use Rattle.std.proofs.Common.{◌+◌, ◌-◌, [], Some, ap, subst, Bool, ◌∙◌, arith, refl}
use Rattle.em_record.specs.Shape.{fan_of}
use Rattle.em_space.specs.Seen.{seen}
use Rattle.em_space.proofs.Held.{in_use_kept}
use Rattle.em_node.specs.declared.entry.Entry.{Entry}
use Rattle.em_node.specs.Node.{entries_of}
use Rattle.em_node.proofs.Checks.{linked_at}
use Rattle.em_balance.specs.Fusing.{DealsFrames}
use Rattle.em_balance.proofs.Paired.{child_in_use, ends_fused, ends_shared, loads_pair, pair_damaged, pair_holds, pair_refused, pair_unread, reads_next, reads_one}
use Rattle.em_balance.proofs.fusing.fuse_into.Goals as goal

pub overflow_sub-first : goal.overflow_sub-first
overflow_sub-first g c =
    let x = c.in_ok-load_over.ensures.loads in
    let t = x.is.two in
    let l = linked_at _ (entries_of c.load_over.new.frame) c.args.at (omega arith) x.is.node.linked in
    let e = ap (λ (y : Entry). y.child) c.entry_at-first.ensures in
    let s = l.child_some in omega arith

pub overflow_sub-second : goal.overflow_sub-second
overflow_sub-second g c =
    let x = c.in_ok-load_over.ensures.loads in
    let t = x.is.two in
    let l = linked_at _ (entries_of c.load_over.new.frame) (c.args.at + 1) (omega arith) x.is.node.linked in
    let e = ap (λ (y : Entry). y.child) c.entry_at-second.ensures in
    let s = l.child_some in omega arith

pub load_node-requires-clause-in_use : goal.load_node-requires-clause-in_use
load_node-requires-clause-in_use g c =
    let x = c.in_ok-load_over.ensures.loads in
    let t = x.is.two in
    rw (c.entry_at-first.ensures) (child_in_use c.args.parent c.args.at refl x.reads x.is.node x.loaded (omega arith)
    (λ z. (c.requires.can.told z).low_is.in_use))

pub load_node-requires-2-clause-in_use : goal.load_node-requires-2-clause-in_use
load_node-requires-2-clause-in_use g c =
    let x = c.in_ok-load_over.ensures.loads in
    let y = c.in_ok-load_node.ensures.loads in
    let a = seen g.D.Device.state c.load_over.new.rig in
    let b = seen g.D.Device.state c.load_node.new.rig in
    let t = x.is.two in
    in_use_kept [] a b _ y.reads.goes.touches (λ z. tt)
    (rw (c.entry_at-second.ensures) (child_in_use c.args.parent (c.args.at + 1) refl x.reads x.is.node x.loaded
    (omega arith) (λ z. (c.requires.can.told z).high_is.in_use)))

pub returns-in_err-load_node-clause-does : goal.returns-in_err-load_node-clause-does
returns-in_err-load_node-clause-does g c =
    let x = c.in_ok-load_over.ensures.loads in
    let y = c.in_err-load_node.ensures.loads in
    pair_refused _ _ c.from_residual-in_err-load_node.ensures.1
    (pair_unread c.args.parent c.args.at _ (omega arith) (reads_one x.reads) y.reads y.cause)

pub returns-in_err-load_node-2-clause-does : goal.returns-in_err-load_node-2-clause-does
returns-in_err-load_node-2-clause-does g c =
    let x = c.in_ok-load_over.ensures.loads in
    let y = c.in_ok-load_node.ensures.loads in
    let w = c.in_err-load_node-2.ensures.loads in
    pair_refused _ _ c.from_residual-in_err-load_node-2.ensures.1
    (pair_unread c.args.parent c.args.at _ (omega arith) (reads_next 2 refl (reads_one x.reads) y.reads) w.reads w.cause)

pub put_fused-requires-clause-in_use : goal.put_fused-requires-clause-in_use
put_fused-requires-clause-in_use g c =
    let x = c.in_ok-load_over.ensures.loads in
    let y = c.in_ok-load_node.ensures.loads in
    let w = c.in_ok-load_node-2.ensures.loads in
    let s = seen g.D.Device.state c.args.rig.now in
    let a = seen g.D.Device.state c.load_over.new.rig in
    let b = seen g.D.Device.state c.load_node.new.rig in
    let e = seen g.D.Device.state c.load_node-2.new.rig in
    in_use_kept [] b e _ w.reads.goes.touches (λ z. tt) (in_use_kept [] a b _ y.reads.goes.touches (λ z. tt)
    (in_use_kept [] s a _ x.reads.goes.touches (λ z. tt) c.requires.can.in_use))

pub put_fused-requires-clause-first : goal.put_fused-requires-clause-first
put_fused-requires-clause-first g c =
    let x = c.in_ok-load_over.ensures.loads in
    let y = c.in_ok-load_node.ensures.loads in
    let w = c.in_ok-load_node-2.ensures.loads in
    let a = seen g.D.Device.state c.load_over.new.rig in
    let b = seen g.D.Device.state c.load_node.new.rig in
    let e = seen g.D.Device.state c.load_node-2.new.rig in
    let t = x.is.two in
    in_use_kept [] b e _ w.reads.goes.touches (λ z. tt) (in_use_kept [] a b _ y.reads.goes.touches (λ z. tt)
    (rw (c.entry_at-first.ensures) (child_in_use c.args.parent c.args.at refl x.reads x.is.node x.loaded (omega arith)
    (λ z. (c.requires.can.told z).low_is.in_use))))

pub put_fused-requires-clause-second : goal.put_fused-requires-clause-second
put_fused-requires-clause-second g c =
    let x = c.in_ok-load_over.ensures.loads in
    let y = c.in_ok-load_node.ensures.loads in
    let w = c.in_ok-load_node-2.ensures.loads in
    let a = seen g.D.Device.state c.load_over.new.rig in
    let b = seen g.D.Device.state c.load_node.new.rig in
    let e = seen g.D.Device.state c.load_node-2.new.rig in
    let t = x.is.two in
    in_use_kept [] b e _ w.reads.goes.touches (λ z. tt) (in_use_kept [] a b _ y.reads.goes.touches (λ z. tt)
    (rw (c.entry_at-second.ensures) (child_in_use c.args.parent (c.args.at + 1) refl x.reads x.is.node x.loaded
    (omega arith) (λ z. (c.requires.can.told z).high_is.in_use))))

pub put_fused-requires-clause-holds : goal.put_fused-requires-clause-holds
put_fused-requires-clause-holds g c =
    let x = c.in_ok-load_over.ensures.loads in
    let y = c.in_ok-load_node.ensures.loads in
    let w = c.in_ok-load_node-2.ensures.loads in
    let d = loads_pair c.fan-fan.result c.requires.can x y w
    (ap (λ (k : Entry). k.child - 1) c.entry_at-first.ensures)
    (ap (λ (k : Entry). k.child - 1) c.entry_at-second.ensures)
    (c.fan-fan.ensures.value ∙ ap fan_of (c.shape.ensures ∙ (w.reads.goes.touches.shape
    ∙ (y.reads.goes.touches.shape ∙ x.reads.goes.touches.shape)))) in
    pair_holds c.requires.can d

pub put_shared-requires-clause-in_use : goal.put_shared-requires-clause-in_use
put_shared-requires-clause-in_use g c =
    let x = c.in_ok-load_over.ensures.loads in
    let y = c.in_ok-load_node.ensures.loads in
    let w = c.in_ok-load_node-2.ensures.loads in
    let s = seen g.D.Device.state c.args.rig.now in
    let a = seen g.D.Device.state c.load_over.new.rig in
    let b = seen g.D.Device.state c.load_node.new.rig in
    let e = seen g.D.Device.state c.load_node-2.new.rig in
    in_use_kept [] b e _ w.reads.goes.touches (λ z. tt) (in_use_kept [] a b _ y.reads.goes.touches (λ z. tt)
    (in_use_kept [] s a _ x.reads.goes.touches (λ z. tt) c.requires.can.in_use))

pub put_shared-requires-clause-first : goal.put_shared-requires-clause-first
put_shared-requires-clause-first g c =
    let x = c.in_ok-load_over.ensures.loads in
    let y = c.in_ok-load_node.ensures.loads in
    let w = c.in_ok-load_node-2.ensures.loads in
    let a = seen g.D.Device.state c.load_over.new.rig in
    let b = seen g.D.Device.state c.load_node.new.rig in
    let e = seen g.D.Device.state c.load_node-2.new.rig in
    let t = x.is.two in
    in_use_kept [] b e _ w.reads.goes.touches (λ z. tt) (in_use_kept [] a b _ y.reads.goes.touches (λ z. tt)
    (rw (c.entry_at-first.ensures) (child_in_use c.args.parent c.args.at refl x.reads x.is.node x.loaded (omega arith)
    (λ z. (c.requires.can.told z).low_is.in_use))))

pub put_shared-requires-clause-second : goal.put_shared-requires-clause-second
put_shared-requires-clause-second g c =
    let x = c.in_ok-load_over.ensures.loads in
    let y = c.in_ok-load_node.ensures.loads in
    let w = c.in_ok-load_node-2.ensures.loads in
    let a = seen g.D.Device.state c.load_over.new.rig in
    let b = seen g.D.Device.state c.load_node.new.rig in
    let e = seen g.D.Device.state c.load_node-2.new.rig in
    let t = x.is.two in
    in_use_kept [] b e _ w.reads.goes.touches (λ z. tt) (in_use_kept [] a b _ y.reads.goes.touches (λ z. tt)
    (rw (c.entry_at-second.ensures) (child_in_use c.args.parent (c.args.at + 1) refl x.reads x.is.node x.loaded
    (omega arith) (λ z. (c.requires.can.told z).high_is.in_use))))

pub put_shared-requires-clause-holds : goal.put_shared-requires-clause-holds
put_shared-requires-clause-holds g c =
    let x = c.in_ok-load_over.ensures.loads in
    let y = c.in_ok-load_node.ensures.loads in
    let w = c.in_ok-load_node-2.ensures.loads in
    let d = loads_pair c.fan-fan.result c.requires.can x y w
    (ap (λ (k : Entry). k.child - 1) c.entry_at-first.ensures)
    (ap (λ (k : Entry). k.child - 1) c.entry_at-second.ensures)
    (c.fan-fan.ensures.value ∙ ap fan_of (c.shape.ensures ∙ (w.reads.goes.touches.shape
    ∙ (y.reads.goes.touches.shape ∙ x.reads.goes.touches.shape)))) in
    pair_holds c.requires.can d

pub returns-in-Some-true-clause-does : goal.returns-in-Some-true-clause-does
returns-in-Some-true-clause-does g c =
    let x = c.in_ok-load_over.ensures.loads in
    let y = c.in_ok-load_node.ensures.loads in
    let w = c.in_ok-load_node-2.ensures.loads in
    let d = loads_pair c.fan-fan.result c.requires.can x y w
    (ap (λ (k : Entry). k.child - 1) c.entry_at-first.ensures)
    (ap (λ (k : Entry). k.child - 1) c.entry_at-second.ensures)
    (c.fan-fan.ensures.value ∙ ap fan_of (c.shape.ensures ∙ (w.reads.goes.touches.shape
    ∙ (y.reads.goes.touches.shape ∙ x.reads.goes.touches.shape)))) in
    let f = c.in-Some-true.ensures.deals in
    let q = c.in-Some-true.field-0-test in
    let P : Bool → Type 0 = λ v. DealsFrames c.fan-fan.result c.args.at c.load_over.new.frame c.load_node.new.frame
    c.load_node-2.new.frame c.fuse_frames.new.parent c.fuse_frames.new.low c.fuse_frames.new.high (Some v) in
    ends_fused (seen g.D.Device.state c.put_fused.new.rig) c.put_fused.result c.fuse_frames.new.parent
    c.fuse_frames.new.low c.fuse_frames.new.high c.requires.can d (subst P q f) c.put_fused.ensures.puts

pub returns-in-Some-false-clause-does : goal.returns-in-Some-false-clause-does
returns-in-Some-false-clause-does g c =
    let x = c.in_ok-load_over.ensures.loads in
    let y = c.in_ok-load_node.ensures.loads in
    let w = c.in_ok-load_node-2.ensures.loads in
    let d = loads_pair c.fan-fan.result c.requires.can x y w
    (ap (λ (k : Entry). k.child - 1) c.entry_at-first.ensures)
    (ap (λ (k : Entry). k.child - 1) c.entry_at-second.ensures)
    (c.fan-fan.ensures.value ∙ ap fan_of (c.shape.ensures ∙ (w.reads.goes.touches.shape
    ∙ (y.reads.goes.touches.shape ∙ x.reads.goes.touches.shape)))) in
    let f = c.in-Some-false.ensures.deals in
    let q = c.in-Some-false.field-0-test in
    let P : Bool → Type 0 = λ v. DealsFrames c.fan-fan.result c.args.at c.load_over.new.frame c.load_node.new.frame
    c.load_node-2.new.frame c.fuse_frames.new.parent c.fuse_frames.new.low c.fuse_frames.new.high (Some v) in
    ends_shared (seen g.D.Device.state c.put_shared.new.rig) c.put_shared.result c.fuse_frames.new.parent
    c.fuse_frames.new.low c.fuse_frames.new.high c.requires.can d (subst P q f) c.put_shared.ensures.puts

pub returns-in-None-clause-does : goal.returns-in-None-clause-does
returns-in-None-clause-does g c =
    let x = c.in_ok-load_over.ensures.loads in
    let y = c.in_ok-load_node.ensures.loads in
    let w = c.in_ok-load_node-2.ensures.loads in
    let d = loads_pair c.fan-fan.result c.requires.can x y w
    (ap (λ (k : Entry). k.child - 1) c.entry_at-first.ensures)
    (ap (λ (k : Entry). k.child - 1) c.entry_at-second.ensures)
    (c.fan-fan.ensures.value ∙ ap fan_of (c.shape.ensures ∙ (w.reads.goes.touches.shape
    ∙ (y.reads.goes.touches.shape ∙ x.reads.goes.touches.shape)))) in
    pair_damaged c.requires.sound c.requires.can d (λ together.
    let h = c.in-None.ensures.passes together in cc)
