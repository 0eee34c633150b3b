use Rattle.std.proofs.Common.{ap, arith}
use Rattle.em_chain.proofs.Views.{view_of}
use Rattle.em_plain.specs.Asks.{records_in}
use Rattle.em_plain.proofs.Adds.{adds_lent}
use Rattle.em_plain.proofs.Scans.{beside_lent, beside_opens, opens_reads}
use Rattle.em_plain.proofs.Written.{items_lent}
use Rattle.em_plain.proofs.answers.answer_all.Goals as goal

pub answer_by-done-requires-clause-ready : goal.answer_by-done-requires-clause-ready
answer_by-done-requires-clause-ready g c =
    let o = c.over-reader.ensures in
    record {
      sound = o.lends.sound;
      beside = beside_lent c.requires.beside o.lends o.unmoved;
      free = omega (arith, c.requires.free, o.lends.frames.free);
      few = omega arith;
    }

pub answer_by-done-requires-clause-reader : goal.answer_by-done-requires-clause-reader
answer_by-done-requires-clause-reader g c =
    let o = c.over-reader.ensures in
    beside_opens c.requires.beside o.lends o.unmoved o.opens

pub answer_by-done-requires-clause-reads : goal.answer_by-done-requires-clause-reads
answer_by-done-requires-clause-reads g c =
    let o = c.over-reader.ensures in
    opens_reads c.requires.beside.chain o.lends o.opens

pub returns-clause-done : goal.returns-clause-done
returns-clause-done g c =
    let o = c.over-reader.ensures in
    let e = c.abandon.ensures in
    adds_lent _ _ _ _ _ _ _ _ _ c.answer_by-done.result c.requires.beside.writer.writer o.lends
    o.unmoved c.answer_by-done.ensures.done e.gives e.unmoved
    (λ z. ap (records_in (g.Q.Question.asks c.args.question.now)) (items_lent c.requires.beside.chain o.lends z))

pub over-reader-requires-clause-is : goal.over-reader-requires-clause-is
over-reader-requires-clause-is g c = view_of _ _ c.requires.beside.chain
