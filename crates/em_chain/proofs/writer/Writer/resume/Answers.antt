use Rattle.std.proofs.Common.{◌-◌, List, [], rules, arith, sym, ap, ◌∙◌, length, get_or, refl}
use Rattle.std.proofs.lemmas.Bool.{false≢true}
use Rattle.em_record.specs.declared.record.Record.{Record}
use Rattle.em_frames.specs.Device.{block_at, zero_record}
use Rattle.em_space.specs.Free.{header}
use Rattle.em_space.specs.Rig.{RigState}
use Rattle.em_space.specs.Seen.{seen}
use Rattle.em_space.proofs.Steps.{touches_then, untold_by}
use Rattle.em_space.proofs.Held.{in_use_kept}
use Rattle.em_chain.proofs.Keeps.{tells_on}
use Rattle.em_chain.proofs.Appending.{pos_of}
use Rattle.em_chain.proofs.Laws.{resume_by, tail_leads, tail_within, last_passes}
use Rattle.em_chain.proofs.writer.Writer.resume.Goals as goal

pub returns-then-not-is_link-clause-cause : goal.returns-then-not-is_link-clause-cause
returns-then-not-is_link-clause-cause g c =
    let s = seen g.D.Device.state c.args.rig.now in
    let z0 = ap (λ (r : RigState). r.blocks) c.lend-frame.ensures.lent in
    let z1 = ap (λ (r : RigState). r.blocks) c.give.ensures.given in
    let b = c.blocks-2.ensures in
    let pos = pos_of c.args.chain.blocks c.if-chain-eq0.false in
    let n = c.requires.sound.numbers.blocks_low in (
      untold_by _ (λ y.
          let x = c.lend-frame.ensures.touches.told in
          let w = c.give.ensures.touches.told in
          let t = tail_within s c.args.chain c.requires.sound c.requires.is
          (sym (w ∙ x) ∙ y) pos in
          false≢true (c.if-not-is_link.ensures.1 (t.0, let u = t.1 in omega arith))),
      omega arith,
    )

pub returns-then-not-is_link-clause-complete : goal.returns-then-not-is_link-clause-complete
returns-then-not-is_link-clause-complete g c = λ z r.
    absurd (tells_on _ _ _ c.lend-frame.ensures.touches c.give.ensures.touches
    (returns-then-not-is_link-clause-cause g c).0 z)

pub load-loaded-requires-clause-in_use : goal.load-loaded-requires-clause-in_use
load-loaded-requires-clause-in_use g c =
    let s = seen g.D.Device.state c.args.rig.now in
    let m = seen g.D.Device.state c.lend-frame.new.self in
    let z0 = ap (λ (r : RigState). r.blocks) c.lend-frame.ensures.lent in
    let b = c.blocks-2.ensures in
    let f = c.if-not-is_link.ensures.0 refl in
    let f0 = f.0 in
    let f1 = f.1 in
    in_use_kept [] s m (c.args.chain.tail - 1) c.lend-frame.ensures.touches (λ _. tt) (record {
      told = λ y. (tail_leads s c.args.chain c.requires.is y
          (pos_of c.args.chain.blocks c.if-chain-eq0.false)).1.told y;
      untold = λ y. omega arith;
    })

pub returns-then-not-is_last-clause-cause : goal.returns-then-not-is_last-clause-cause
returns-then-not-is_last-clause-cause g c =
    let s = seen g.D.Device.state c.args.rig.now in
    let l = c.args.chain.tail - 1 in
    let z0 = ap (λ (r : RigState). r.blocks) c.lend-frame.ensures.lent in
    let x = c.lend-frame.ensures.touches.told in
    let v = c.load-loaded.ensures.goes.touches in
    let w = c.give-then-not-is_last.ensures.touches in
    let v1 = v.blocks in
    let w1 = w.blocks in
    let b = c.blocks-2.ensures in
    let f = c.if-not-is_link.ensures.0 refl in
    let f0 = f.0 in
    let f1 = f.1 in
    let pos = pos_of c.args.chain.blocks c.if-chain-eq0.false in
    let l2 = ap (λ (xs : List Record). length xs) c.records-2.ensures in
    let l1 = c.load-loaded.ensures.len in
    let l0 = c.lend-frame.ensures.len in (
      untold_by _ (λ y.
          let z = sym (w.told ∙ v.told ∙ x) ∙ y in
          let fb = c.in-Ok.ensures.loaded (x ∙ z)
          ∙ ap (λ (r : RigState). block_at r.device l) c.lend-frame.ensures.lent in
          let fr = ap (λ (xs : List Record). header xs) c.records.ensures in
          false≢true (c.if-not-is_last.ensures.1 (last_passes s c.args.chain
          c.load-loaded.new.frame (get_or c.records.result.now 0 zero_record) _
          c.requires.is z pos fb fr (omega arith)))),
      omega arith,
    )

pub returns-then-not-is_last-clause-complete : goal.returns-then-not-is_last-clause-complete
returns-then-not-is_last-clause-complete g c = λ z r.
    absurd (tells_on _ _ _ (touches_then _ _ _ _ c.lend-frame.ensures.touches
    c.load-loaded.ensures.goes.touches) c.give-then-not-is_last.ensures.touches
    (returns-then-not-is_last-clause-cause g c).0 z)

pub returns-clause-resumes : goal.returns-clause-resumes
returns-clause-resumes g c =
    let s = seen g.D.Device.state c.args.rig.now in
    let m = seen g.D.Device.state c.lend-frame.new.self in
    let t = seen g.D.Device.state c.load-loaded.new.self in
    let z0 = ap (λ (r : RigState). r.blocks) c.lend-frame.ensures.lent in
    let fr = ap (λ (xs : List Record). header xs) c.records.ensures in
    let b = c.blocks-2.ensures in
    let k = c.if-not-is_link.ensures.0 refl in
    let k0 = k.0 in
    let k1 = k.1 in
    let l2 = ap (λ (xs : List Record). length xs) c.records-2.ensures in
    let l1 = c.load-loaded.ensures.len in
    let l0 = c.lend-frame.ensures.len in
    let h = c.if-not-is_last.ensures.0 refl in
    let hm = h.1.most_is in
    let r = get_or c.records.result.now 0 zero_record in
    rw c.at_end-2.ensures (resume_by s t c.args.chain c.load-loaded.new.frame r
    (touches_then [] s m t c.lend-frame.ensures.touches c.load-loaded.ensures.goes.touches)
    c.requires.is (pos_of c.args.chain.blocks c.if-chain-eq0.false)
    (λ z. c.in-Ok.ensures.loaded (c.lend-frame.ensures.touches.told ∙ z)
    ∙ ap (λ (r : RigState). block_at r.device (c.args.chain.tail - 1))
    c.lend-frame.ensures.lent)
    (search rules) k0 (omega arith) fr h.0 h.1.is h.1.some (omega arith))
