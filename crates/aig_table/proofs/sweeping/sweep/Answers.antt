use Rattle.std.proofs.Common.{◌≡◌, ◌*◌, ◌∙◌, ℕ, ap, arith, length, refl, subst, sym}
use Rattle.em_frames.specs.Pool.{given_area, lent_area, load_of}
use Rattle.em_space.specs.Rig.{RigState}
use Rattle.em_space.specs.Seen.{seen}
use Rattle.aig_table.specs.Sweeps.{CanFill}
use Rattle.aig_table.proofs.Around.{area_frames, pool_still}
use Rattle.aig_table.proofs.Swept.{can_still, sweep_for_still, sweep_frames, sweep_still}
use Rattle.aig_table.proofs.sweeping.sweep.Goals as goal

pub sweep_by-done-requires-clause-can : goal.sweep_by-done-requires-clause-can
sweep_by-done-requires-clause-can g c =
    let s = seen g.D.Device.state c.args.rig.now in
    let a = seen g.D.Device.state c.lend_area-area.new.self in
    let l = c.lend_area-area.ensures in
    let out = pool_still (lent_area s.pool) l.sound l.touches l.lent in
    let long : length c.records_mut.result.now ≡ load_of s.pool.shape =
    ap length c.records_mut.ensures.value ∙ l.len in
    let free = ap (λ (x : RigState). x.pool.free) l.lent in
    let some = c.requires.can.free in
    subst (λ (n : ℕ). CanFill c.args.header.now c.args.given.now c.args.gates.now c.args.words (256 * n) a)
    (sym long) (can_still c.requires.can out (omega (arith, free, some)))

pub returns-clause-sweeps : goal.returns-clause-sweeps
returns-clause-sweeps g c =
    let s = seen g.D.Device.state c.args.rig.now in
    let b = seen g.D.Device.state c.sweep_by-done.new.rig in
    let t = seen g.D.Device.state c.give_area.new.self in
    let l = c.lend_area-area.ensures in
    let d = c.give_area.ensures in
    let e = c.sweep_by-done.ensures in
    let out = pool_still (lent_area s.pool) l.sound l.touches l.lent in
    let back = pool_still (given_area b.pool) d.sound d.touches d.given in
    sweep_still c.requires.can out b t c.sweep_by-done.result e.sweeps back
    (area_frames c.requires.areas l.lent (sweep_frames _ _ _ _ _ _ c.sweep_by-done.result e.sweeps) d.given)

pub returns-clause-values : goal.returns-clause-values
returns-clause-values g c =
    let s = seen g.D.Device.state c.args.rig.now in
    let b = seen g.D.Device.state c.sweep_by-done.new.rig in
    let t = seen g.D.Device.state c.give_area.new.self in
    let l = c.lend_area-area.ensures in
    let d = c.give_area.ensures in
    let e = c.sweep_by-done.ensures in
    let out = pool_still (lent_area s.pool) l.sound l.touches l.lent in
    let back = pool_still (given_area b.pool) d.sound d.touches d.given in
    sweep_for_still c.requires.can out b t c.sweep_by-done.result e.sweeps back refl e.values
