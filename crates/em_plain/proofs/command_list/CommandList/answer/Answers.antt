use Rattle.em_plain.proofs.Answered.{commands_stay, ending, list_answered, list_err, list_kept, list_refused, list_unfinished}
use Rattle.em_plain.proofs.Written.{written_goes}
use Rattle.em_plain.proofs.command_list.CommandList.answer.Goals as goal

pub returns-in_err-commands : goal.returns-in_err-commands
returns-in_err-commands g c =
    let f = c.in_err-commands.ensures in
    record {
      done = list_err (g.Q.Question.asks c.args.question.now) c.from_residual.result _ c.from_residual.ensures.1
          (list_unfinished (g.Q.Question.asks c.args.question.now) c.args.self c.requires.sound f.gives f.spends f.cause);
    }

pub returns-in_err-answers : goal.returns-in_err-answers
returns-in_err-answers g c =
    let f = c.in_ok-commands.ensures in
    let k = c.in_err-answers.ensures.done in
    record {
      done = list_err (g.Q.Question.asks c.args.question.now) c.from_residual-in_err-answers.result _ c.from_residual-in_err-answers.ensures.1
          (list_refused (g.Q.Question.asks c.args.question.now) (ending c.requires.sound f.gives f.finishes f.spends k.stops.goes) k);
    }

pub discard-requires-clause-is : goal.discard-requires-clause-is
discard-requires-clause-is g c =
    let f = c.in_ok-commands.ensures in
    let k = c.in_ok-answers.ensures.done in
    (commands_stay (ending c.requires.sound f.gives f.finishes f.spends (written_goes k))).is

pub returns-in_err-discard : goal.returns-in_err-discard
returns-in_err-discard g c =
    let f = c.in_ok-commands.ensures in
    let k = c.in_ok-answers.ensures.done in
    let d = c.in_err-discard.ensures in
    record {
      done = list_err (g.Q.Question.asks c.args.question.now) c.from_residual-in_err-discard.result _ c.from_residual-in_err-discard.ensures.1
          (list_kept (g.Q.Question.asks c.args.question.now) (ending c.requires.sound f.gives f.finishes f.spends (written_goes k)) k
          c.discard.ensures.goes d.frees d.cause);
    }

pub returns : goal.returns
returns g c =
    let f = c.in_ok-commands.ensures in
    let k = c.in_ok-answers.ensures.done in
    record {
      done = list_answered (g.Q.Question.asks c.args.question.now) c.in_ok-discard.field-0 (ending c.requires.sound f.gives f.finishes f.spends (written_goes k))
          k c.discard.ensures.goes c.in_ok-discard.ensures.frees;
    }
