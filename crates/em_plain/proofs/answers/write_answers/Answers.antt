use Rattle.std.proofs.Common.{ap}
use Rattle.em_plain.specs.Asks.{records_in}
use Rattle.em_plain.proofs.Written.{beside_first, items_lent, stops_written, written_to}
use Rattle.em_plain.proofs.answers.write_answers.Goals as goal

pub answer_all-requires-clause-beside : goal.answer_all-requires-clause-beside
answer_all-requires-clause-beside g c =
    let n = c.new-writer.ensures in
    beside_first c.requires.is n.lends n.begins

pub returns-in-Ok : goal.returns-in-Ok
returns-in-Ok g c =
    let n = c.new-writer.ensures in
    let f = c.finish.ensures in
    record {
      done = written_to _ c.finish.result n.lends n.unmoved n.begins c.in-Ok.ensures.done
          (λ z. ap (records_in (g.Q.Question.asks c.args.question.now)) (items_lent c.requires.is n.lends z)) f.gives f.finishes
          f.spends f.cause;
    }

pub returns-in-Err : goal.returns-in-Err
returns-in-Err g c =
    let n = c.new-writer.ensures in
    let e = c.abandon.ensures in
    record {
      done = stops_written _ n.lends n.unmoved n.begins c.in-Err.ensures.done
          (λ z. ap (records_in (g.Q.Question.asks c.args.question.now)) (items_lent c.requires.is n.lends z)) e.gives e.unmoved;
    }
