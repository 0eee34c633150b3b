use Rattle.std.proofs.Common.{ap, subst, Some}
use Rattle.em_io.specs.Feed.{Fed, rest}
use Rattle.em_io.specs.Shelf.{Leaves}
use Rattle.em_io.specs.declared.shelf.Slot.{Slot}
use Rattle.em_io.proofs.Takes.{leaves-then}
use Rattle.em_space.specs.Seen.{seen}
use Rattle.em_ends.specs.Opens.{text_in}
use Rattle.em_ends.specs.declared.stop.Stop.TheVariants.{Read}
use Rattle.em_ends.proofs.Opening.{text_some}
use Rattle.em_answers.proofs.Due.{on_ok}
use Rattle.em_rows.specs.Rows.{rows_in}
use Rattle.em_rows.proofs.RowGiving.{gives_none, gives_same}
use Rattle.em_rows.proofs.TwoTexts.{fed_stops, fed_whole, text_fed}
use Rattle.em_rows.proofs.answering.give_file.Goals as goal

-- the file couldn't be opened
pub returns-in_default-clause-gives : goal.returns-in_default-clause-gives
returns-in_default-clause-gives g c =
    let s = seen g.D.Device.state c.args.rig.now in
    let service = c.args.service.now in
    gives_none g.S.Service g.met.S.Service.rising g.met.S.Service.size_most g.H.Shelf.tells
    (rows_in c.args.kind (text_in (g.H.Shelf.stand c.args.shelf.now) c.args.slot (Some c.args.name.now)))
    service s Read c.requires.sound (g.met.S.Service.frames_of service s c.requires.is)

-- its rows were given
pub returns-clause-gives : goal.returns-clause-gives
returns-clause-gives g c =
    let r = c.give_rows.ensures in
    let before = g.H.Shelf.stand c.args.shelf.now in
    let opened = g.H.Shelf.stand c.open.new.self in
    let feed = c.new-feed.result in
    gives_same g.S.Service g.met.S.Service.rising g.met.S.Service.size_most g.H.Shelf.tells
    (rows_in c.args.kind (rest feed opened)) (rows_in c.args.kind (text_in before c.args.slot (Some c.args.name.now))) c.args.service.now
    c.give_rows.new.service (seen g.D.Device.state c.args.rig.now) (seen g.D.Device.state c.give_rows.new.rig)
    c.give_rows.result
    (λ told. ap (rows_in c.args.kind) (text_fed before opened c.args.slot c.args.name.now feed c.new-feed.ensures
    (c.in-Ok.ensures.whole told)))
    (record {
      goes = r.goes;
      joins = r.joins;
      sizes = r.sizes;
      frames = r.frames;
      is = r.is;
      within = r.within;
      has = r.has;
      counted = r.counted;
      since = r.since;
      moves = r.moves;
    })

pub returns-clause-leaves : goal.returns-clause-leaves
returns-clause-leaves g c =
    leaves-then c.in-Ok.ensures.leaves (subst (λ (slot : Slot). Leaves slot (g.H.Shelf.stand c.open.new.self)
    (g.H.Shelf.stand c.give_rows.new.shelf)) (ap (λ (feed : Fed). feed.slot) c.new-feed.ensures)
    c.give_rows.ensures.reads.leaves)

pub returns-clause-whole : goal.returns-clause-whole
returns-clause-whole g c = λ told.
    let before = g.H.Shelf.stand c.args.shelf.now in
    let opened = g.H.Shelf.stand c.open.new.self in
    let feed = c.new-feed.result in
    fed_whole c.args.kind (rest feed opened) (text_in before c.args.slot (Some c.args.name.now)) _
    c.give_rows.result (text_fed before opened c.args.slot c.args.name.now feed c.new-feed.ensures
    (c.in-Ok.ensures.whole told)) (c.give_rows.ensures.whole told)

pub returns-clause-there : goal.returns-clause-there
returns-clause-there g c = λ told.
    on_ok _ c.give_rows.result (text_some ((g.H.Shelf.stand c.args.shelf.now).text c.args.slot c.args.name.now) _
    (c.in-Ok.ensures.whole told))

pub returns-clause-stop : goal.returns-clause-stop
returns-clause-stop g c =
    let before = g.H.Shelf.stand c.args.shelf.now in
    let opened = g.H.Shelf.stand c.open.new.self in
    let feed = c.new-feed.result in
    fed_stops g.H.Shelf.tells c.args.kind (rest feed opened) (text_in before c.args.slot (Some c.args.name.now))
    (g.H.Shelf.faults c.args.shelf.now) (g.H.Shelf.faults c.open.new.self)
    (g.H.Shelf.faults c.give_rows.new.shelf) (seen g.D.Device.state c.args.rig.now)
    (seen g.D.Device.state c.give_rows.new.rig) c.give_rows.result
    (λ told. text_fed before opened c.args.slot c.args.name.now feed c.new-feed.ensures (c.in-Ok.ensures.whole told))
    c.in-Ok.ensures.cause.later c.give_rows.ensures.stop
