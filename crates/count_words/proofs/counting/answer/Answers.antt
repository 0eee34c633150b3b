use Rattle.std.proofs.Common.{◌≡◌, ℕ, ◌≤◌, List, length, subst, arith}
use Rattle.std.specs.Prelude.{OnOk}
use Rattle.em_io.specs.Sink.{SentPart}
use Rattle.em_space.specs.Seen.{seen}
use Rattle.em_answers.proofs.ServiceRuns.{map_few}
use Rattle.em_rows.specs.Answered.{both_rows, first_text, second_text}
use Rattle.count_words.specs.Counts.{count_plan}
use Rattle.count_words.proofs.CountLaws.{counts_by}
use Rattle.count_words.proofs.counting.answer.Goals as goal

pub returns : goal.returns
returns g c =
    let stand = g.H.Shelf.stand c.args.shelf.now in
    let rows = both_rows count_plan (first_text stand c.args.words.now) (second_text stand c.args.asked.now) in
    let few = map_few (seen g.D.Device.state c.args.rig.now).pool.shape c.requires.unused.sound.shape (length rows) in
    let same = counts_by c.args.sum.kind c.requires.kind (first_text stand c.args.words.now)
    (second_text stand c.args.asked.now) in
    record {
      counts = record {
        goes = c.answer_rows.ensures.goes;
        answers = λ z d. subst (λ (text : List ℕ). OnOk c.answer_rows.result (g.W.Sink.state c.answer_rows.new.out
            ≡ g.W.Sink.took (g.W.Sink.state c.args.out.now) text)) same (c.answer_rows.ensures.answers z d);
        front = λ z d. subst (λ (text : List ℕ). SentPart g.W.Sink.took (g.W.Sink.state c.args.out.now) text
            (g.W.Sink.state c.answer_rows.new.out)) same (c.answer_rows.ensures.front z d);
        there = c.answer_rows.ensures.there;
        whole = c.answer_rows.ensures.whole;
        unprinted = c.answer_rows.ensures.unprinted;
        later = c.answer_rows.ensures.later;
        write_later = c.answer_rows.ensures.write_later;
        stop = c.answer_rows.ensures.stop;
        moves = λ z d. let moves = c.answer_rows.ensures.moves z d in omega (arith, few, moves);
      };
    }
