use Rattle.std.proofs.Common.{◌≡◌, ◌∙◌, ap, arith, length}
use Rattle.em_frames.specs.Pool.{given_area, lent_area, load_of}
use Rattle.em_space.specs.Rig.{RigState}
use Rattle.em_space.specs.Seen.{seen}
use Rattle.aig_order.proofs.MarkedLists.{area_frames, marks_around, marks_frames, pool_still, still_can}
use Rattle.aig_order.proofs.by_bits.pass_by_bits.Goals as goal

pub mark_pass-done-requires-clause-can : goal.mark_pass-done-requires-clause-can
mark_pass-done-requires-clause-can g c =
    let s = seen g.D.Device.state c.args.rig.now in
    let l = c.lend_area-area.ensures in
    still_can c.requires.can (pool_still (lent_area s.pool) l.sound l.touches l.lent)
    (ap (λ (x : RigState). x.pool.free) l.lent)

pub mark_pass-done-requires-clause-within : goal.mark_pass-done-requires-clause-within
mark_pass-done-requires-clause-within g c =
    let s = seen g.D.Device.state c.args.rig.now in
    let long : length c.records_mut.result.now ≡ load_of s.pool.shape =
    ap length c.records_mut.ensures.value ∙ c.lend_area-area.ensures.len in
    let fits = c.requires.fits in
    omega (arith, long, fits)

pub returns : goal.returns
returns g c =
    let s = seen g.D.Device.state c.args.rig.now in
    let a = seen g.D.Device.state c.lend_area-area.new.self in
    let b = seen g.D.Device.state c.mark_pass-done.new.rig in
    let t = seen g.D.Device.state c.give_area.new.self in
    let l = c.lend_area-area.ensures in
    let d = c.give_area.ensures in
    let e = c.mark_pass-done.ensures in
    let last = c.args.header.now.max in
    record {
      marks = marks_around last c.args.next b t c.mark_pass-done.result c.requires.can
          (pool_still (lent_area s.pool) l.sound l.touches l.lent) e.marks
          (pool_still (given_area b.pool) d.sound d.touches d.given)
          (area_frames c.requires.areas l.lent
          (marks_frames last c.args.next c.args.list a b c.mark_pass-done.result e.marks) d.given);
    }
