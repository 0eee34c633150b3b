use Rattle.em_chain.proofs.Writings.{writer_lent}
use Rattle.em_plain.proofs.Answered.{commands_stay, ending, list_refused, list_unfinished}
use Rattle.em_plain.proofs.Kept.{begins_yet, keeps_err, kept_all, kept_stops, kept_unwritten, none_yet}
use Rattle.em_plain.proofs.Written.{written_goes}
use Rattle.em_plain.proofs.command_list.CommandList.answer_and_keep.Goals as goal

pub finish-requires-clause-is : goal.finish-requires-clause-is
finish-requires-clause-is g c =
    rw c.replace-whole.ensures.value (writer_lent c.requires.is.writer c.new-fresh.ensures.lends).is

pub returns-in_err-commands : goal.returns-in_err-commands
returns-in_err-commands g c =
    let n = c.new-fresh.ensures in
    let was = c.replace-whole.ensures.value in
    let f = c.finish.ensures in
    rw c.replace-whole.ensures.after (record {
      done = keeps_err (g.Q.Question.asks c.args.question.now) c.from_residual.result _ c.from_residual.ensures.1
          (kept_stops c.requires.sound c.requires.is n.lends n.unmoved n.begins (g.Q.Question.asks c.args.question.now)
          (list_unfinished (g.Q.Question.asks c.args.question.now) c.args.self.now n.lends.sound (rw was at f.gives)
          (rw was at c.in_err-commands.ensures.spends) c.in_err-commands.ensures.cause));
    })

pub returns-in_err-answers : goal.returns-in_err-answers
returns-in_err-answers g c =
    let n = c.new-fresh.ensures in
    let was = c.replace-whole.ensures.value in
    let f = c.in_ok-commands.ensures in
    let k = c.in_err-answers.ensures.done in
    rw c.replace-whole.ensures.after (record {
      done = keeps_err (g.Q.Question.asks c.args.question.now) c.from_residual-in_err-answers.result _
          c.from_residual-in_err-answers.ensures.1
          (kept_stops c.requires.sound c.requires.is n.lends n.unmoved n.begins (g.Q.Question.asks c.args.question.now)
          (list_refused (g.Q.Question.asks c.args.question.now) (ending n.lends.sound (rw was at c.finish.ensures.gives)
          (rw was at f.finishes) (rw was at f.spends) k.stops.goes) k));
    })

pub write_anew-requires-clause-is : goal.write_anew-requires-clause-is
write_anew-requires-clause-is g c =
    let n = c.new-fresh.ensures in
    let was = c.replace-whole.ensures.value in
    let f = c.in_ok-commands.ensures in
    let k = c.in_ok-answers.ensures.done in
    (commands_stay (ending {l = c.args.self.now} n.lends.sound (rw was at c.finish.ensures.gives)
    (rw was at f.finishes) (rw was at f.spends) (written_goes k))).is

pub write_anew-requires-clause-begins : goal.write_anew-requires-clause-begins
write_anew-requires-clause-begins g c =
    let n = c.new-fresh.ensures in
    let was = c.replace-whole.ensures.value in
    let f = c.in_ok-commands.ensures in
    let k = c.in_ok-answers.ensures.done in
    rw c.replace-whole.ensures.after
    (begins_yet c.requires.sound c.requires.is n.lends n.unmoved n.begins (g.Q.Question.asks c.args.question.now)
    (ending n.lends.sound (rw was at c.finish.ensures.gives) (rw was at f.finishes)
    (rw was at f.spends) (written_goes k)) k)

pub write_anew-requires-clause-none_left : goal.write_anew-requires-clause-none_left
write_anew-requires-clause-none_left g c =
    let n = c.new-fresh.ensures in
    let was = c.replace-whole.ensures.value in
    let f = c.in_ok-commands.ensures in
    let k = c.in_ok-answers.ensures.done in
    none_yet c.requires.sound c.requires.is n.lends n.unmoved n.begins (g.Q.Question.asks c.args.question.now)
    (ending n.lends.sound (rw was at c.finish.ensures.gives) (rw was at f.finishes)
    (rw was at f.spends) (written_goes k)) k

pub returns-in_err-write_anew : goal.returns-in_err-write_anew
returns-in_err-write_anew g c =
    let n = c.new-fresh.ensures in
    let was = c.replace-whole.ensures.value in
    let f = c.in_ok-commands.ensures in
    let k = c.in_ok-answers.ensures.done in
    record {
      done = keeps_err (g.Q.Question.asks c.args.question.now) c.from_residual-in_err-write_anew.result _
          c.from_residual-in_err-write_anew.ensures.1
          (kept_unwritten c.requires.sound c.requires.is n.lends n.unmoved n.begins (g.Q.Question.asks c.args.question.now)
          (ending n.lends.sound (rw was at c.finish.ensures.gives) (rw was at f.finishes)
          (rw was at f.spends) (written_goes k)) k c.in_err-write_anew.ensures.done);
    }

pub returns : goal.returns
returns g c =
    let n = c.new-fresh.ensures in
    let was = c.replace-whole.ensures.value in
    let f = c.in_ok-commands.ensures in
    let k = c.in_ok-answers.ensures.done in
    record {
      done = kept_all c.requires.sound c.requires.is n.lends n.unmoved n.begins (g.Q.Question.asks c.args.question.now)
          (ending n.lends.sound (rw was at c.finish.ensures.gives) (rw was at f.finishes)
          (rw was at f.spends) (written_goes k)) k c.in_ok-write_anew.ensures.done;
    }
