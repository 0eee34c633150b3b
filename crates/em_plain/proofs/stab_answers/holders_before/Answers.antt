use Rattle.std.proofs.Common.{ap, take}
use Rattle.em_record.specs.declared.record.Record.{Record}
use Rattle.std.specs.Prelude.{List}
use Rattle.em_chain.proofs.Views.{view_of}
use Rattle.em_plain.specs.StabPairs.{holder_pairs}
use Rattle.em_plain.proofs.Adds.{adds_lent}
use Rattle.em_plain.proofs.Scans.{beside_opens}
use Rattle.em_plain.proofs.stab_answers.holders_before.Goals as goal

pub holders_by-done-requires-clause-beside : goal.holders_by-done-requires-clause-beside
holders_by-done-requires-clause-beside g c =
    let o = c.over-reader.ensures in
    beside_opens c.requires.ready.beside o.lends o.unmoved o.opens

pub returns-clause-done : goal.returns-clause-done
returns-clause-done g c =
    let o = c.over-reader.ensures in
    let e = c.abandon.ensures in
    adds_lent _ _ _ _ _ _ _ _ _ c.holders_by-done.result c.requires.ready.beside.writer.writer o.lends o.unmoved
    c.holders_by-done.ensures.done e.gives e.unmoved (λ z.
    ap (λ (items : List Record). holder_pairs c.args.stab c.args.point (take c.args.number items))
    (o.opens.items z))

pub over-reader-requires-clause-is : goal.over-reader-requires-clause-is
over-reader-requires-clause-is g c = view_of _ _ c.requires.ready.beside.chain
