use Rattle.std.proofs.Common.{[], ◌∷◌, ◌++◌, length, arith, refl, sym, ap, subst, ◌∙◌, inr, Ok}
use Rattle.std.specs.Prelude.{Option}
use Rattle.std.proofs.lemmas.List.{append-nil, length_push}
use Rattle.em_record.specs.declared.record.Record.{Record}
use Rattle.em_space.specs.Seen.{seen}
use Rattle.em_leaf.specs.Writing.{WritesNext, first_or, head_of}
use Rattle.em_leaf.specs.Needs.{LacksItems}
use Rattle.em_leaf.proofs.Needs.{err_by, lacks_records}
use Rattle.em_leaf.proofs.Written.{can_write, head_push, records_none, records_of, records_stop, records_then}
use Rattle.em_leaf.proofs.writing.write_records.Goals as goal

pub loop-init : goal.loop-init
loop-init g c = (
  [],
  records_none (g.S.Settle.key_of c.args.settle.now)
      (g.S.Settle.step_of c.args.settle.now) c.args.ops.now c.requires.sound c.requires.can,
  refl,
  refl,
)

pub write_next-requires-clause-can : goal.write_next-requires-clause-can
write_next-requires-clause-can g c = can_write (g.S.Settle.key_of c.args.settle.now)
    (g.S.Settle.step_of c.args.settle.now) c.args.ops.now c.requires.can c.loop.invariant.1

pub returns-in_err-item-clause-writes : goal.returns-in_err-item-clause-writes
returns-in_err-item-clause-writes g c =
    let key = g.S.Settle.key_of c.args.settle.now in
    let step = g.S.Settle.step_of c.args.settle.now in
    let ops = c.args.ops.now in
    records_of c.args.limit (seen g.D.Device.state c.args.rig.now)
    (seen g.D.Device.state c.write_next.new.rig) c.args.reader.now c.write_next.new.reader
    c.args.answers.now c.write_next.new.answers c.args.out.now c.write_next.new.out c.args.front.now
    c.write_next.new.front key step ops _ _ c.from_residual.ensures.1
    (records_stop key step ops c.loop.invariant.0 c.loop.invariant.1 c.in_err-item.ensures.writes)

pub returns-in-None-clause-writes : goal.returns-in-None-clause-writes
returns-in-None-clause-writes g c =
    let key = g.S.Settle.key_of c.args.settle.now in
    let step = g.S.Settle.step_of c.args.settle.now in
    let ops = c.args.ops.now in
    let i = c.loop.invariant in
    let P : Option Record → Type 0 = λ o. WritesNext key step ops (seen g.D.Device.state c.loop.rig)
    (seen g.D.Device.state c.write_next.new.rig) c.loop.reader c.write_next.new.reader
    c.loop.answers
    c.write_next.new.answers c.loop.out c.write_next.new.out c.loop.front c.write_next.new.front
    (Ok o) in
    let h = subst P c.in-None.is c.in_ok-item.ensures.writes in
    let e = append-nil i.0 in
    let l = ap length e in
    let m = i.3 in
    let t = c.loop-test.true in
    record {
      items = i.0 ++ [];
      writing = records_then key step ops i.0 [] i.1 h.0;
      ends_at = record { most = omega arith; done = inr (h.1 refl) };
      first_is = i.2 ∙ ap head_of (sym e);
    }

pub loop-preserved : goal.loop-preserved
loop-preserved g c =
    let key = g.S.Settle.key_of c.args.settle.now in
    let step = g.S.Settle.step_of c.args.settle.now in
    let ops = c.args.ops.now in
    let i = c.loop.invariant in
    let x = c.in-Some.item in
    let P : Option Record → Type 0 = λ o. WritesNext key step ops (seen g.D.Device.state c.loop.rig)
    (seen g.D.Device.state c.write_next.new.rig) c.loop.reader c.write_next.new.reader
    c.loop.answers
    c.write_next.new.answers c.loop.out c.write_next.new.out c.loop.front c.write_next.new.front
    (Ok o) in
    let h = subst P c.in-Some.is c.in_ok-item.ensures.writes in
    let n = length_push i.0 x in
    let m = i.3 in (
      i.0 ++ x ∷ [],
      records_then key step ops i.0 (x ∷ []) i.1 h.0,
      c.first_or-first.ensures ∙ (ap (λ o. first_or o x) i.2 ∙ head_push i.0 x),
      omega arith,
    )

pub returns-in_err-item-clause-needs : goal.returns-in_err-item-clause-needs
returns-in_err-item-clause-needs g c =
    let key = g.S.Settle.key_of c.args.settle.now in
    let step = g.S.Settle.step_of c.args.settle.now in
    let ops = c.args.ops.now in
    let i = c.loop.invariant in
    let m = i.3 in
    let t = c.loop-test.true in
    err_by (LacksItems c.args.limit key step ops (seen g.D.Device.state c.args.rig.now)
    (seen g.D.Device.state c.write_next.new.rig) c.args.reader.now c.args.answers.now
    c.args.out.now c.args.front.now) _ _ c.from_residual.ensures.1
    (lacks_records key step ops (seen g.D.Device.state c.write_next.new.rig) _ i.0 (omega arith) i.1 c.in_err-item.ensures.needs)
