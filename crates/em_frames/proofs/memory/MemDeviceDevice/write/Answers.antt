use Rattle.std.proofs.Common.{length, ◌≤◌, ◌<◌, ◌∙◌, arith, sym, ap}
use Rattle.em_frames.specs.Memory.{MemState, device_of}
use Rattle.em_frames.proofs.Kept.{all_blocks_len, changes_none}
use Rattle.em_frames.proofs.memory.MemDeviceDevice.write.Goals as goal

pub returns-then-fails-clause-others : goal.returns-then-fails-clause-others
returns-then-fails-clause-others c =
    let k = c.self.inside.kept in
    let es = ap (λ (m : MemState). m.blocks) c.self.view_is in
    let eb = ap (λ (m : MemState). m.block) c.self.view_is in
    let e = ap (λ (m : MemState). m.contents) c.self.view_is in
    let at = c.requires.at in
    let w = c.self.invariant.within in
    let o = k.ok in
    let lt : c.args.at < c.self.inside.blocks = omega arith in
    let le : length k.items ≤ c.self.inside.blocks = omega arith in
    changes_none (length c.args.from.now) c.args.at (device_of c.args.self.now) _ e
    (rw (← e) (all_blocks_len c.self.inside.block k.items c.self.inside.blocks c.args.at lt le
    c.self.invariant.lens ∙ eb ∙ sym c.requires.len))

pub returns-then-is_err-clause-others : goal.returns-then-is_err-clause-others
returns-then-is_err-clause-others c =
    let k = c.self.inside.kept in
    let es = ap (λ (m : MemState). m.blocks) c.self.view_is in
    let eb = ap (λ (m : MemState). m.block) c.self.view_is in
    let e = ap (λ (m : MemState). m.contents) c.self.view_is in
    let at = c.requires.at in
    let w = c.self.invariant.within in
    let o = k.ok in
    let lt : c.args.at < c.self.inside.blocks = omega arith in
    let le : length k.items ≤ c.self.inside.blocks = omega arith in
    changes_none (length c.args.from.now) c.args.at (device_of c.args.self.now) _
    (c.keep_blocks.ensures.same c.self.inside.blocks (omega arith) w ∙ e)
    (rw (← e) (all_blocks_len c.self.inside.block k.items c.self.inside.blocks c.args.at lt le
    c.self.invariant.lens ∙ eb ∙ sym c.requires.len))
