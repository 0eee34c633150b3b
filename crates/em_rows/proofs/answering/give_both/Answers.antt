use Rattle.std.proofs.Common.{ap, Some}
use Rattle.em_io.specs.declared.shelf.Slot.TheVariants.{Second}
use Rattle.em_space.specs.Seen.{seen}
use Rattle.em_ends.specs.Opens.{text_in}
use Rattle.em_ends.specs.Stop.{reading}
use Rattle.em_answers.proofs.Due.{stop_on}
use Rattle.em_rows.specs.Answered.{TextsCause, first_text, second_text}
use Rattle.em_rows.specs.Rows.{rows_in}
use Rattle.em_services.proofs.Areas.{takes_shared}
use Rattle.em_rows.proofs.RowGiving.{gives_both, gives_front, gives_same}
use Rattle.em_rows.proofs.TwoTexts.{both_there, both_whole, first_stop, second_same, second_stops, second_unopened}
use Rattle.em_rows.proofs.answering.give_both.Goals as goal

-- the first file stopped it
pub returns-in_err-give_file-clause-gives : goal.returns-in_err-give_file-clause-gives
returns-in_err-give_file-clause-gives g c =
    let stand = g.H.Shelf.stand c.args.shelf.now in
    gives_front g.S.Service g.met.S.Service.rising g.met.S.Service.size_most g.H.Shelf.tells
    (rows_in c.args.plan.first (first_text stand c.args.first.now))
    (rows_in c.args.plan.second (second_text stand c.args.second.now)) c.args.service.now
    c.give_file.new.service (seen g.D.Device.state c.args.rig.now) (seen g.D.Device.state c.give_file.new.rig)
    c.in_err-give_file.field-0.0 _ c.from_residual.ensures.0 c.in_err-give_file.ensures.gives

pub returns-in_err-give_file-clause-stop : goal.returns-in_err-give_file-clause-stop
returns-in_err-give_file-clause-stop g c =
    let stand = g.H.Shelf.stand c.args.shelf.now in
    let a = first_text stand c.args.first.now in
    let b = second_text stand c.args.second.now in
    let faults = g.H.Shelf.faults c.args.shelf.now in
    let after = g.H.Shelf.faults c.give_file.new.shelf in
    let s = seen g.D.Device.state c.args.rig.now in
    let t = seen g.D.Device.state c.give_file.new.rig in
    let stop = c.in_err-give_file.field-0.0 in
    stop_on (TextsCause g.H.Shelf.tells c.args.plan a b (reading faults) (reading after) s t) stop _
    c.from_residual.ensures.1
    (first_stop g.H.Shelf.tells c.args.plan a b faults after s t stop c.in_err-give_file.ensures.stop)

-- the second file is read
pub give_file-requires-2-clause-free : goal.give_file-requires-2-clause-free
give_file-requires-2-clause-free g c =
    takes_shared _ _ (seen g.D.Device.state c.args.rig.now).pool (seen g.D.Device.state c.give_file.new.rig).pool
    c.requires.free c.in_ok-give_file.ensures.gives.goes.frames

pub give_file-requires-2-clause-unopened : goal.give_file-requires-2-clause-unopened
give_file-requires-2-clause-unopened g c =
    second_unopened (g.H.Shelf.stand c.args.shelf.now) (g.H.Shelf.stand c.give_file.new.shelf) c.requires.fresh
    c.in_ok-give_file.ensures.leaves

pub returns-clause-gives : goal.returns-clause-gives
returns-clause-gives g c =
    let stand = g.H.Shelf.stand c.args.shelf.now in
    let mid = g.H.Shelf.stand c.give_file.new.shelf in
    let name = c.args.second.now in
    let s = seen g.D.Device.state c.args.rig.now in
    let t = seen g.D.Device.state c.give_file.new.rig in
    let u = seen g.D.Device.state c.give_file-2.new.rig in
    let rows = rows_in c.args.plan.second in
    gives_both g.S.Service g.met.S.Service.rising g.met.S.Service.size_most g.H.Shelf.tells
    (rows_in c.args.plan.first (first_text stand c.args.first.now)) (rows (second_text stand name))
    c.args.service.now c.give_file.new.service c.give_file-2.new.service s t u c.in_ok-give_file.ensures.gives
    c.give_file-2.result
    (gives_same g.S.Service g.met.S.Service.rising g.met.S.Service.size_most g.H.Shelf.tells
    (rows (text_in mid Second (Some name))) (rows (second_text stand name)) c.give_file.new.service c.give_file-2.new.service t u c.give_file-2.result
    (λ told. ap rows (second_same stand mid name c.in_ok-give_file.ensures.leaves)) c.give_file-2.ensures.gives)

pub returns-clause-whole : goal.returns-clause-whole
returns-clause-whole g c = λ told.
    let stand = g.H.Shelf.stand c.args.shelf.now in
    let mid = g.H.Shelf.stand c.give_file.new.shelf in
    let name = c.args.second.now in
    both_whole c.args.plan (first_text stand c.args.first.now) (second_text stand name) c.give_file-2.result
    (c.in_ok-give_file.ensures.whole told)
    (rw (second_same stand mid name c.in_ok-give_file.ensures.leaves) at (c.give_file-2.ensures.whole told))

pub returns-clause-there : goal.returns-clause-there
returns-clause-there g c = λ told.
    both_there (g.H.Shelf.stand c.args.shelf.now) (g.H.Shelf.stand c.give_file.new.shelf) c.args.first.now
    c.args.second.now c.give_file-2.result c.in_ok-give_file.ensures.leaves (c.in_ok-give_file.ensures.there told)
    (c.give_file-2.ensures.there told)

pub returns-clause-stop : goal.returns-clause-stop
returns-clause-stop g c =
    let stand = g.H.Shelf.stand c.args.shelf.now in
    let mid = g.H.Shelf.stand c.give_file.new.shelf in
    let name = c.args.second.now in
    let r = c.in_ok-give_file.ensures in
    second_stops g.H.Shelf.tells c.args.plan (first_text stand c.args.first.now) (second_text stand name)
    (g.H.Shelf.faults c.args.shelf.now) (g.H.Shelf.faults c.give_file.new.shelf)
    (g.H.Shelf.faults c.give_file-2.new.shelf) _ (seen g.D.Device.state c.args.rig.now)
    (seen g.D.Device.state c.give_file.new.rig) (seen g.D.Device.state c.give_file-2.new.rig)
    c.give_file-2.result r.whole r.later r.gives.goes.touches
    (rw (second_same stand mid name r.leaves) at c.give_file-2.ensures.stop)
