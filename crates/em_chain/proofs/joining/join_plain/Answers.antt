use Rattle.std.proofs.Common.{◌-◌, ◌∷◌, [], rules, arith, refl, sym, ap, ◌∙◌, subst}
use Rattle.std.proofs.lemmas.Bool.{false≢true}
use Rattle.em_frames.specs.Device.{block_at}
use Rattle.em_space.specs.Free.{header}
use Rattle.em_space.specs.Rig.{RigState}
use Rattle.em_space.specs.Seen.{seen}
use Rattle.em_space.proofs.Steps.{untold_by}
use Rattle.em_space.proofs.Held.{in_use_kept}
use Rattle.em_chain.specs.Joins.{IsLastBlock}
use Rattle.em_chain.specs.List.{with_link}
use Rattle.em_chain.proofs.Laws.{tail_leads, tail_within}
use Rattle.em_chain.proofs.Joins.{join_is, tail_goes}
use Rattle.em_chain.proofs.Keeps.{touches_between}
use Rattle.em_chain.proofs.joining.join_plain.Goals as goal

pub returns-then-not-is_link-clause-cause : goal.returns-then-not-is_link-clause-cause
returns-then-not-is_link-clause-cause g c =
    let s = seen g.D.Device.state c.args.rig.now in
    let l = c.requires.linkable in
    let b = c.blocks-2.ensures in (
      untold_by _ (λ y.
          let t = tail_within s c.args.first c.requires.sound l.first y l.first_some in
          false≢true (c.if-not-is_link.ensures.1 (t.0, let u = t.1 in omega arith))),
      c.requires.sound.numbers.blocks_low,
    )

pub link_block-linked-requires-clause-at : goal.link_block-linked-requires-clause-at
link_block-linked-requires-clause-at g c =
    let s = seen g.D.Device.state c.args.rig.now in
    let m = seen g.D.Device.state c.lend-frame.new.self in
    let l = c.requires.linkable in
    let b = c.blocks-2.ensures in
    let f = c.if-not-is_link.ensures.0 refl in
    let f0 = f.0 in
    let f1 = f.1 in
    record {
      in_use = in_use_kept [] s m (c.args.first.tail - 1) c.lend-frame.ensures.touches (λ _. tt)
          (record {
            told = λ y. (tail_leads s c.args.first l.first y l.first_some).1.told y;
            untold = λ y. omega arith;
          });
      len_is = search rules;
    }

pub link_block-linked-requires-clause-last : goal.link_block-linked-requires-clause-last
link_block-linked-requires-clause-last g c = λ z.
    let s = seen g.D.Device.state c.args.rig.now in
    let l = c.requires.linkable in
    let t = tail_leads s c.args.first l.first (sym c.lend-frame.ensures.touches.told ∙ z)
    l.first_some in
    subst (λ (x : RigState). IsLastBlock x (c.args.first.tail - 1)) (sym c.lend-frame.ensures.lent)
    (record { is = t.2; link_is = t.3 })

pub returns-in-Err-clause-goes : goal.returns-in-Err-clause-goes
returns-in-Err-clause-goes g c =
    let k = c.requires.linkable in
    tail_goes c.args.first k.first k.first_some c.lend-frame.ensures.touches
    c.link_block-linked.ensures.goes.touches c.give.ensures.touches c.give.ensures.sound
    (search rules)

pub returns-in-Ok-clause-goes : goal.returns-in-Ok-clause-goes
returns-in-Ok-clause-goes g c =
    let k = c.requires.linkable in
    tail_goes c.args.first k.first k.first_some c.lend-frame.ensures.touches
    c.link_block-linked.ensures.goes.touches c.give.ensures.touches c.give.ensures.sound
    (search rules)

pub returns-in-Ok-clause-joins : goal.returns-in-Ok-clause-joins
returns-in-Ok-clause-joins g c =
    let s = seen g.D.Device.state c.args.rig.now in
    let u = seen g.D.Device.state c.link_block-linked.new.rig in
    let t = seen g.D.Device.state c.give.new.self in
    let l = c.args.first.tail - 1 in
    let k = c.requires.linkable in
    let b = c.in-Ok.ensures.links in
    join_is s t c.args.first c.args.second (header (block_at s.device l)).b k.first k.second
    k.first_some k.second_some k.skip k.room.count k.room.blocks k.apart
    (touches_between (l ∷ []) c.lend-frame.ensures.touches
    c.link_block-linked.ensures.goes.touches c.give.ensures.touches)
    (λ z. refl)
    (λ z. ap (λ (r : RigState). block_at r.device l) c.give.ensures.given
    ∙ b.is (c.lend-frame.ensures.touches.told ∙ z)
    ∙ ap (λ (r : RigState). with_link c.args.second.head (header (block_at r.device l)).b
    (block_at r.device l)) c.lend-frame.ensures.lent)
    (in_use_kept [] u t l c.give.ensures.touches (λ _. tt) b.in_use)
