use Rattle.std.proofs.Common.{◌∙◌, []}
use Rattle.em_space.specs.Seen.{seen}
use Rattle.em_space.proofs.Steps.{cause_after}
use Rattle.em_space.proofs.Within.{touches_within}
use Rattle.em_rows.specs.Answered.{both_rows, first_text, second_text}
use Rattle.em_rows.proofs.RowGiving.{answered_moves, records_blocks, stopped_moves}
use Rattle.em_rows.proofs.RowMoves.{moves_unmade}
use Rattle.em_rows.proofs.TwoTexts.{texts_around}
use Rattle.em_rows.proofs.answering.list_answers.Goals as goal

-- no service was made
pub returns-in-Err-clause-moves : goal.returns-in-Err-clause-moves
returns-in-Err-clause-moves g c =
    moves_unmade g.S.Service.allowance g.S.Service.KIND g.H.Shelf.tells _ (seen g.D.Device.state c.args.rig.now)
    (seen g.D.Device.state c.new.new.rig) g.met.S.Service.rising c.requires.sound.shape c.in-Err.ensures.moves

-- it gave its answers
pub returns-in-Ok-answers-clause-items : goal.returns-in-Ok-answers-clause-items
returns-in-Ok-answers-clause-items g c = λ t d.
    let made = c.in-Ok.ensures in
    let r = c.in-Ok-give_both.ensures.gives in
    rw (r.joins ∙ made.joins) at
    (c.in-Ok-answers.ensures.items (r.goes.touches.told ∙ made.makes.touches.told ∙ d) [] _ (r.has t [] [] made.has))

pub returns-in-Ok-answers-clause-blocks : goal.returns-in-Ok-answers-clause-blocks
returns-in-Ok-answers-clause-blocks g c = λ t d.
    let made = c.in-Ok.ensures in
    let r = c.in-Ok-give_both.ensures.gives in
    let a = c.in-Ok-answers.ensures in
    let here = r.goes.touches.told ∙ made.makes.touches.told ∙ d in
    records_blocks (g.S.Service.combiner_of c.args.rule) g.S.Service.KIND _ (seen g.D.Device.state c.args.rig.now)
    (seen g.D.Device.state c.answers.new.rig) c.in-Ok-answers.list c.requires.sound.shape
    (a.gives.touches.shape ∙ r.goes.touches.shape ∙ made.makes.touches.shape) a.leaves.is
    (a.gives.touches.told ∙ here) (a.leaves.packed here)
    (rw (r.joins ∙ made.joins) at (a.items here [] _ (r.has t [] [] made.has)))

pub returns-in-Ok-answers-clause-moves : goal.returns-in-Ok-answers-clause-moves
returns-in-Ok-answers-clause-moves g c =
    let made = c.in-Ok.ensures in
    let r = c.in-Ok-give_both.ensures.gives in
    let a = c.in-Ok-answers.ensures in
    let stand = g.H.Shelf.stand c.args.shelf.now in
    let rows = both_rows c.args.plan (first_text stand c.args.first.now) (second_text stand c.args.second.now) in
    answered_moves g.S.Service g.met.S.Service.rising g.met.S.Service.size_most g.H.Shelf.tells rows
    c.in-Ok.service c.give_both.new.service (seen g.D.Device.state c.args.rig.now)
    (seen g.D.Device.state c.new.new.rig) (seen g.D.Device.state c.give_both.new.rig)
    (seen g.D.Device.state c.answers.new.rig) made.makes made.moves made.has c.requires.sound.shape r _
    a.gives.touches (λ t. a.moves [] rows (r.has t [] [] made.has))

-- or gave up
pub returns-in-Err-answers-clause-stop : goal.returns-in-Err-answers-clause-stop
returns-in-Err-answers-clause-stop g c =
    let s = seen g.D.Device.state c.args.rig.now in
    let m = seen g.D.Device.state c.new.new.rig in
    let u = seen g.D.Device.state c.give_both.new.rig in
    let made = c.in-Ok.ensures.makes in
    let r = c.in-Ok-give_both.ensures.gives in
    cause_after [] s u (seen g.D.Device.state c.answers.new.rig) c.in-Err-answers.fault
    (touches_within s m u [] _ made.touches made.within r.goes.touches) c.in-Err-answers.ensures.cause

pub returns-in-Err-answers-clause-moves : goal.returns-in-Err-answers-clause-moves
returns-in-Err-answers-clause-moves g c =
    let made = c.in-Ok.ensures in
    let r = c.in-Ok-give_both.ensures.gives in
    let a = c.in-Err-answers.ensures in
    let stand = g.H.Shelf.stand c.args.shelf.now in
    let rows = both_rows c.args.plan (first_text stand c.args.first.now) (second_text stand c.args.second.now) in
    answered_moves g.S.Service g.met.S.Service.rising g.met.S.Service.size_most g.H.Shelf.tells rows
    c.in-Ok.service c.give_both.new.service (seen g.D.Device.state c.args.rig.now)
    (seen g.D.Device.state c.new.new.rig) (seen g.D.Device.state c.give_both.new.rig)
    (seen g.D.Device.state c.answers.new.rig) made.makes made.moves made.has c.requires.sound.shape r _
    a.gives.touches (λ t. a.moves [] rows (r.has t [] [] made.has))

-- a file stopped it
pub returns-in-Err-give_both-clause-stop : goal.returns-in-Err-give_both-clause-stop
returns-in-Err-give_both-clause-stop g c =
    let stand = g.H.Shelf.stand c.args.shelf.now in
    texts_around g.H.Shelf.tells c.args.plan (first_text stand c.args.first.now)
    (second_text stand c.args.second.now) (g.H.Shelf.faults c.args.shelf.now)
    (g.H.Shelf.faults c.give_both.new.shelf) [] (seen g.D.Device.state c.args.rig.now)
    (seen g.D.Device.state c.new.new.rig) (seen g.D.Device.state c.give_both.new.rig)
    (seen g.D.Device.state c.abandon.new.rig) c.in-Err-give_both.stop c.in-Ok.ensures.makes.touches
    c.abandon.ensures.gives.touches c.abandon.ensures.unmoved c.in-Err-give_both.ensures.stop

pub returns-in-Err-give_both-clause-moves : goal.returns-in-Err-give_both-clause-moves
returns-in-Err-give_both-clause-moves g c =
    let made = c.in-Ok.ensures in
    let r = c.in-Err-give_both.ensures.gives in
    stopped_moves g.S.Service g.met.S.Service.rising g.met.S.Service.size_most g.H.Shelf.tells _ c.in-Ok.service
    c.give_both.new.service (seen g.D.Device.state c.args.rig.now) (seen g.D.Device.state c.new.new.rig)
    (seen g.D.Device.state c.give_both.new.rig) (seen g.D.Device.state c.abandon.new.rig) made.makes made.moves
    made.has c.requires.sound.shape c.in-Err-give_both.stop r c.abandon.ensures.gives.touches c.abandon.ensures.unmoved.moves
