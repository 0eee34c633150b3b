use Rattle.std.proofs.Common.{◌≡◌, ◌-◌, ◌∷◌, [], rules, arith, sym, ap, ◌∙◌, subst}
use Rattle.em_frames.specs.Device.{block_at}
use Rattle.em_space.specs.Free.{header}
use Rattle.em_space.specs.Rig.{RigState}
use Rattle.em_space.specs.Seen.{seen}
use Rattle.em_space.proofs.Held.{in_use_kept}
use Rattle.em_chain.specs.Joins.{CanShift}
use Rattle.em_chain.specs.List.{shifted}
use Rattle.em_space.specs.Held.{contents_of}
use Rattle.em_chain.specs.Chain.{payload_in}
use Rattle.em_chain.proofs.Laws.{link_within}
use Rattle.em_chain.proofs.Readers.{opened, opened_list}
use Rattle.em_chain.proofs.Views.{view_of}
use Rattle.em_chain.proofs.Joins.{unskip_is, head_goes}
use Rattle.em_chain.proofs.Keeps.{touches_between}
use Rattle.em_chain.proofs.joining.unskip.Goals as goal

pub shift_block-shifted-requires-clause-is : goal.shift_block-shifted-requires-clause-is
shift_block-shifted-requires-clause-is g c = λ z.
    let s = seen g.D.Device.state c.args.rig.now in
    let y = sym c.lend-frame.ensures.touches.told ∙ z in
    let o = opened s c.args.chain (view_of s c.args.chain c.requires.is) y c.requires.some in
    let hd = o.head in
    let e : c.args.chain.head - 1 ≡ o.first = omega arith in
    subst (λ (x : RigState). CanShift x (c.args.chain.head - 1) c.args.chain.skip)
    (sym c.lend-frame.ensures.lent)
    (rw e (record {
      is = o.block;
      link_is = link_within s (payload_in s) _ o.rest (contents_of s o.rest) c.requires.sound
          (opened_list s c.args.chain o c.requires.is y).run.2 o.holds.in_use.1;
      skip_fits = o.list.skip_fits;
    }))

pub returns-in-Err-clause-goes : goal.returns-in-Err-clause-goes
returns-in-Err-clause-goes g c = head_goes c.args.chain c.requires.is c.requires.some
    c.lend-frame.ensures.touches c.shift_block-shifted.ensures.goes.touches c.give.ensures.touches
    c.give.ensures.sound (search rules)

pub returns-in-Ok-clause-goes : goal.returns-in-Ok-clause-goes
returns-in-Ok-clause-goes g c = head_goes c.args.chain c.requires.is c.requires.some
    c.lend-frame.ensures.touches c.shift_block-shifted.ensures.goes.touches c.give.ensures.touches
    c.give.ensures.sound (search rules)

pub returns-in-Ok-clause-unskips : goal.returns-in-Ok-clause-unskips
returns-in-Ok-clause-unskips g c =
    let s = seen g.D.Device.state c.args.rig.now in
    let u = seen g.D.Device.state c.shift_block-shifted.new.rig in
    let t = seen g.D.Device.state c.give.new.self in
    let l = c.args.chain.head - 1 in
    let b = c.in-Ok.ensures.shifts in
    unskip_is s t c.args.chain c.requires.is c.requires.some
    (touches_between (l ∷ []) c.lend-frame.ensures.touches
    c.shift_block-shifted.ensures.goes.touches c.give.ensures.touches)
    (λ z. ap (λ (r : RigState). block_at r.device l) c.give.ensures.given
    ∙ b.is (c.lend-frame.ensures.touches.told ∙ z)
    ∙ ap (λ (r : RigState). shifted (block_at r.device l) c.args.chain.skip
    (header (block_at r.device l)).a (header (block_at r.device l)).b)
    c.lend-frame.ensures.lent)
    (in_use_kept [] u t l c.give.ensures.touches (λ _. tt) b.in_use)
