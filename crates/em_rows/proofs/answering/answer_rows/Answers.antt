use Rattle.std.proofs.Common.{◌≡◌, ◌∙◌, [], arith, refl}
use Rattle.em_io.proofs.Sent.{part-of, sent-nothing}
use Rattle.em_space.specs.Seen.{seen}
use Rattle.em_space.proofs.Steps.{goes_then}
use Rattle.em_ends.specs.Stop.{fault_counts}
use Rattle.em_answers.proofs.Due.{on_ok, stop_on}
use Rattle.em_rows.specs.Answered.{TextsCause, answered_text, first_text, second_text}
use Rattle.em_rows.specs.Taken.{OnUnread}
use Rattle.em_rows.proofs.RowMoves.{moves_printed}
use Rattle.em_rows.proofs.TwoTexts.{printed_stops, printed_unreads, texts_read, unread_always}
use Rattle.em_rows.proofs.answering.answer_rows.Goals as goal

-- there are no answers
pub returns-in_err-list-clause-front : goal.returns-in_err-list-clause-front
returns-in_err-list-clause-front g c = λ t d.
    let stand = g.H.Shelf.stand c.args.shelf.now in
    part-of (sent-nothing g.met.W.Sink.rule (g.met.W.Sink.is_state c.args.out.now)
    (answered_text (g.S.Service.combiner_of c.args.rule) g.S.Service.KIND c.args.plan
    (first_text stand c.args.first.now) (second_text stand c.args.second.now)) refl)

pub returns-in_err-list-clause-stop : goal.returns-in_err-list-clause-stop
returns-in_err-list-clause-stop g c =
    let stand = g.H.Shelf.stand c.args.shelf.now in
    let a = first_text stand c.args.first.now in
    let b = second_text stand c.args.second.now in
    let faults = g.H.Shelf.faults c.args.shelf.now in
    let after = g.H.Shelf.faults c.list_answers.new.shelf in
    let write = g.W.Sink.faults c.args.out.now in
    let s = seen g.D.Device.state c.args.rig.now in
    let t = seen g.D.Device.state c.list_answers.new.rig in
    let stop = c.in_err-list.field-0.0 in
    stop_on (TextsCause g.H.Shelf.tells c.args.plan a b (fault_counts faults write) (fault_counts after write) s t)
    stop _ c.from_residual.ensures.1
    (texts_read g.H.Shelf.tells c.args.plan a b faults after write write s t stop c.in_err-list.ensures.stop)

pub returns-in_err-list-clause-unprinted : goal.returns-in_err-list-clause-unprinted
returns-in_err-list-clause-unprinted g c =
    let P = g.W.Sink.state c.args.out.now ≡ g.W.Sink.state c.args.out.now in
    stop_on (λ stop. OnUnread stop P) c.in_err-list.field-0.0 _ c.from_residual.ensures.1
    (unread_always P c.in_err-list.field-0.0 refl)

pub returns-in_err-list-clause-moves : goal.returns-in_err-list-clause-moves
returns-in_err-list-clause-moves g c =
    let t = seen g.D.Device.state c.list_answers.new.rig in
    moves_printed g.S.Service.allowance g.S.Service.KIND g.H.Shelf.tells _ (seen g.D.Device.state c.args.rig.now) t t
    c.in_err-list.ensures.moves (λ told d. omega arith)

-- they are printed
pub returns-clause-goes : goal.returns-clause-goes
returns-clause-goes g c =
    goes_then [] (seen g.D.Device.state c.args.rig.now) (seen g.D.Device.state c.list_answers.new.rig)
    (seen g.D.Device.state c.print_rows.new.rig) c.in_ok-list.ensures.goes c.print_rows.ensures.keeps.goes

pub returns-clause-answers : goal.returns-clause-answers
returns-clause-answers g c = λ t d.
    let r = c.in_ok-list.ensures in
    rw (r.items t d) at (c.print_rows.ensures.prints (r.goes.touches.told ∙ d)).all

pub returns-clause-front : goal.returns-clause-front
returns-clause-front g c = λ t d.
    let r = c.in_ok-list.ensures in
    rw (r.items t d) at (c.print_rows.ensures.prints (r.goes.touches.told ∙ d)).part

pub returns-clause-whole : goal.returns-clause-whole
returns-clause-whole g c = λ t. on_ok _ c.print_rows.result (c.in_ok-list.ensures.whole t)

pub returns-clause-there : goal.returns-clause-there
returns-clause-there g c = λ t. on_ok _ c.print_rows.result (c.in_ok-list.ensures.there t)

pub returns-clause-unprinted : goal.returns-clause-unprinted
returns-clause-unprinted g c =
    printed_unreads (g.W.Sink.state c.print_rows.new.out ≡ g.W.Sink.state c.args.out.now)
    (g.W.Sink.faults c.args.out.now) (g.W.Sink.faults c.print_rows.new.out)
    (seen g.D.Device.state c.list_answers.new.rig) (seen g.D.Device.state c.print_rows.new.rig) c.print_rows.result
    c.print_rows.ensures.stops.cause

pub returns-clause-stop : goal.returns-clause-stop
returns-clause-stop g c =
    let stand = g.H.Shelf.stand c.args.shelf.now in
    printed_stops g.H.Shelf.tells c.args.plan (first_text stand c.args.first.now)
    (second_text stand c.args.second.now) (g.H.Shelf.faults c.args.shelf.now)
    (g.H.Shelf.faults c.list_answers.new.shelf) (g.W.Sink.faults c.args.out.now)
    (g.W.Sink.faults c.print_rows.new.out) (seen g.D.Device.state c.args.rig.now)
    (seen g.D.Device.state c.list_answers.new.rig) (seen g.D.Device.state c.print_rows.new.rig) c.print_rows.result
    c.in_ok-list.ensures.goes.touches c.print_rows.ensures.stops.cause

pub returns-clause-moves : goal.returns-clause-moves
returns-clause-moves g c =
    let r = c.in_ok-list.ensures in
    let printed = c.print_rows.ensures.moves in
    moves_printed g.S.Service.allowance g.S.Service.KIND g.H.Shelf.tells _ (seen g.D.Device.state c.args.rig.now)
    (seen g.D.Device.state c.list_answers.new.rig) (seen g.D.Device.state c.print_rows.new.rig) r.moves
    (λ t d. let blocks = r.blocks t d in omega (arith, blocks, printed))
