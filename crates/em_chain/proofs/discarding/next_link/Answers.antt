use Rattle.std.proofs.Common.{◌≡◌, ◌+◌, List, [], arith, sym, ap, ◌∙◌, length, get_or}
use Rattle.std.proofs.lemmas.Bool.{false≢true}
use Rattle.em_record.specs.declared.record.Record.{Record}
use Rattle.em_frames.specs.Device.{block_at, zero_record}
use Rattle.em_space.specs.Free.{header}
use Rattle.em_space.specs.Rig.{RigState}
use Rattle.em_space.specs.Seen.{seen}
use Rattle.em_space.proofs.Steps.{touches_then, untold_by}
use Rattle.em_space.proofs.Held.{in_use_kept}
use Rattle.em_chain.proofs.Rows.{row_head, row_passes}
use Rattle.em_chain.proofs.discarding.next_link.Goals as goal

pub returns-then-not-leads_to-clause-cause : goal.returns-then-not-leads_to-clause-cause
returns-then-not-leads_to-clause-cause g c =
    let s = seen g.D.Device.state c.args.rig.now in
    let x = c.lend-frame.ensures.touches in
    let v = c.load-loaded.ensures.goes.touches in
    let w = c.give.ensures.touches in
    let x1 = x.blocks in
    let v1 = v.blocks in
    let w1 = w.blocks in
    let b = c.requires.row.below in
    let nb = c.blocks-2.ensures in
    let l2 = ap (λ (xs : List Record). length xs) c.records-2.ensures in
    let l1 = c.load-loaded.ensures.len in
    let l0 = c.lend-frame.ensures.len in (
      untold_by _ (λ y.
          let z = sym (w.told ∙ v.told ∙ x.told) ∙ y in
          let fb = c.in-Ok.ensures.loaded (x.told ∙ z)
          ∙ ap (λ (r : RigState). block_at r.device c.args.block) c.lend-frame.ensures.lent in
          let fr = ap (λ (xs : List Record). header xs) c.records.ensures in
          false≢true (c.if-not-leads_to.ensures.1 (row_passes s c.args.block c.args.left
          c.load-loaded.new.frame (get_or c.records.result.now 0 zero_record) _ _
          c.requires.sound (c.requires.row.row_is z) fb fr (omega arith) (omega arith)))),
      omega arith,
    )

pub returns-clause-in_use : goal.returns-clause-in_use
returns-clause-in_use g c =
    let s = seen g.D.Device.state c.args.rig.now in
    let m = seen g.D.Device.state c.lend-frame.new.self in
    let u = seen g.D.Device.state c.load-loaded.new.self in
    let t = seen g.D.Device.state c.give.new.self in
    let b = c.requires.row.below in
    in_use_kept [] s t c.args.block (touches_then [] s u t
    (touches_then [] s m u c.lend-frame.ensures.touches c.load-loaded.ensures.goes.touches)
    c.give.ensures.touches) (λ _. tt) (record {
      told = λ y.
          let o = row_head s (c.args.block + 1) c.args.left (c.requires.row.row_is y) in
          let lk = o.link_is in
          let e1 : c.args.block ≡ o.first = omega arith in
          rw e1 (o.in_use.told y);
      untold = λ y. b;
    })

pub returns-then-not-leads_to-clause-in_use : goal.returns-then-not-leads_to-clause-in_use
returns-then-not-leads_to-clause-in_use g c =
    let s = seen g.D.Device.state c.args.rig.now in
    let m = seen g.D.Device.state c.lend-frame.new.self in
    let u = seen g.D.Device.state c.load-loaded.new.self in
    let t = seen g.D.Device.state c.give.new.self in
    let b = c.requires.row.below in
    in_use_kept [] s t c.args.block (touches_then [] s u t
    (touches_then [] s m u c.lend-frame.ensures.touches c.load-loaded.ensures.goes.touches)
    c.give.ensures.touches) (λ _. tt) (record {
      told = λ y.
          let o = row_head s (c.args.block + 1) c.args.left (c.requires.row.row_is y) in
          let lk = o.link_is in
          let e1 : c.args.block ≡ o.first = omega arith in
          rw e1 (o.in_use.told y);
      untold = λ y. b;
    })
