use Rattle.std.proofs.Common.{◌≡◌, ℕ, ◌≤◌, List, subst, arith}
use Rattle.std.specs.Prelude.{OnOk}
use Rattle.em_io.specs.Sink.{SentPart}
use Rattle.em_space.specs.Seen.{seen}
use Rattle.em_lines.specs.declared.text.FileKind.TheVariants as files
use Rattle.em_services.specs.Service.{size_of}
use Rattle.em_answers.proofs.ServiceRuns.{stab_few}
use Rattle.em_rows.specs.Answered.{both_rows, first_text, second_text}
use Rattle.windows.specs.Holding.{holding_plan}
use Rattle.windows.proofs.HoldingLaws.{holding_are}
use Rattle.windows.proofs.holding.print_holding.Goals as goal

pub returns-clause-answers : goal.returns-clause-answers
returns-clause-answers g c = λ z d.
    let stand = g.H.Shelf.stand c.args.shelf.now in
    subst (λ (text : List ℕ). OnOk c.answer_rows.result (g.W.Sink.state c.answer_rows.new.out
    ≡ g.W.Sink.took (g.W.Sink.state c.args.out.now) text))
    (holding_are (first_text stand c.args.windows.now) (second_text stand c.args.moments.now))
    (c.answer_rows.ensures.answers z d)

pub returns-clause-front : goal.returns-clause-front
returns-clause-front g c = λ z d.
    let stand = g.H.Shelf.stand c.args.shelf.now in
    subst (λ (text : List ℕ). SentPart g.W.Sink.took (g.W.Sink.state c.args.out.now) text
    (g.W.Sink.state c.answer_rows.new.out))
    (holding_are (first_text stand c.args.windows.now) (second_text stand c.args.moments.now))
    (c.answer_rows.ensures.front z d)

pub returns-clause-moves : goal.returns-clause-moves
returns-clause-moves g c = λ z d.
    let stand = g.H.Shelf.stand c.args.shelf.now in
    let rows = both_rows holding_plan (first_text stand c.args.windows.now) (second_text stand c.args.moments.now) in
    let few = stab_few (seen g.D.Device.state c.args.rig.now).pool.shape c.requires.unused.sound.shape
    (size_of files.Stab rows) in
    let moves = c.answer_rows.ensures.moves z d in
    omega (arith, few, moves)
