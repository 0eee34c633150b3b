use Rattle.std.proofs.Common.{[], ◌∙◌, arith}
use Rattle.em_io.specs.Feed.{rest}
use Rattle.em_space.specs.Seen.{seen}
use Rattle.em_space.proofs.Steps.{goes_then}
use Rattle.em_chain.specs.Chain.{chain_items}
use Rattle.em_ends.specs.Stop.{Prints, fault_counts}
use Rattle.em_answers.specs.Print.{records_text}
use Rattle.em_answers.specs.Reading.{service_limits}
use Rattle.em_answers.proofs.Due.{on_ok, print_stops, prints_due, reads_due, stop_on}
use Rattle.em_answers.proofs.Rooms.{same_keeps}
use Rattle.em_answers.proofs.ServiceMoves.{printed_reads}
use Rattle.em_answers.proofs.read.answer_file.Goals as goal

pub returns-in_err-answers-clause-answers : goal.returns-in_err-answers-clause-answers
returns-in_err-answers-clause-answers g c = λ t d.
    let r = c.in_err-answers.ensures in
    reads_due (g.S.Service.combiner_of c.args.rule) g.H.Shelf.tells g.S.Service.KIND (rest c.args.feed.now (g.H.Shelf.stand c.args.shelf.now))
    (fault_counts (g.H.Shelf.faults c.args.shelf.now) (g.W.Sink.faults c.args.out.now))
    (fault_counts (g.H.Shelf.faults c.read_answers.new.shelf) (g.W.Sink.faults c.read_answers.new.out))
    (seen g.D.Device.state c.args.rig.now) (seen g.D.Device.state c.read_answers.new.rig) _ _
    g.met.S.Service.no_queue c.from_residual.ensures.1 t r.stop.cause (r.synced t d)

pub returns-in_err-answers-clause-stop : goal.returns-in_err-answers-clause-stop
returns-in_err-answers-clause-stop g c =
    stop_on _ _ _ c.from_residual.ensures.1 c.in_err-answers.ensures.stop

pub returns-in_err-answers-clause-moves : goal.returns-in_err-answers-clause-moves
returns-in_err-answers-clause-moves g c = λ t.
    printed_reads g.S.Service.allowance (g.S.Service.size_by c.args.rule) g.S.Service.KIND _ _ (seen g.D.Device.state c.args.rig.now)
    (seen g.D.Device.state c.read_answers.new.rig) (seen g.D.Device.state c.read_answers.new.rig)
    (c.in_err-answers.ensures.moves t) (λ d. omega arith)

pub returns-clause-goes : goal.returns-clause-goes
returns-clause-goes g c =
    goes_then [] (seen g.D.Device.state c.args.rig.now) (seen g.D.Device.state c.read_answers.new.rig)
    (seen g.D.Device.state c.print_answers.new.rig) c.in_ok-answers.ensures.goes
    c.print_answers.ensures.keeps.goes

pub returns-clause-whole : goal.returns-clause-whole
returns-clause-whole g c = λ t. on_ok _ c.print_answers.result (c.in_ok-answers.ensures.whole t)

pub returns-clause-answers : goal.returns-clause-answers
returns-clause-answers g c = λ t d.
    let kind = g.S.Service.KIND in
    let r = c.in_ok-answers.ensures in
    let p = c.print_answers.ensures in
    let mid = seen g.D.Device.state c.read_answers.new.rig in
    let answers = c.in_ok-answers.answers in
    let printed : Prints g.W.Sink.took (records_text kind answers.stabs (chain_items mid answers.records))
    (g.W.Sink.state c.read_answers.new.out) (g.W.Sink.state c.print_answers.new.out) c.print_answers.result =
    rw c.KIND.ensures at (p.prints (r.goes.touches.told ∙ d)) in
    prints_due g.met.W.Sink.rule (g.met.W.Sink.is_state c.args.out.now) (g.S.Service.combiner_of c.args.rule) kind
    (rest c.args.feed.now (g.H.Shelf.stand c.args.shelf.now)) answers.stabs (chain_items mid answers.records)
    answers (g.W.Sink.faults c.read_answers.new.out) (g.W.Sink.faults c.print_answers.new.out) mid
    (seen g.D.Device.state c.print_answers.new.rig) c.print_answers.result g.met.S.Service.no_queue
    (r.whole t).fault (r.stabs t) (r.records t d) (r.synced t d) printed p.stops.cause

pub returns-clause-stop : goal.returns-clause-stop
returns-clause-stop g c =
    let r = c.in_ok-answers.ensures in
    print_stops g.H.Shelf g.W.Sink (service_limits g.S.Service.allowance g.S.Service.room) g.S.Service.KIND
    c.args.feed.now c.args.shelf.now c.read_answers.new.shelf c.args.out.now c.read_answers.new.out
    c.print_answers.new.out (seen g.D.Device.state c.args.rig.now) (seen g.D.Device.state c.read_answers.new.rig)
    (seen g.D.Device.state c.print_answers.new.rig) c.print_answers.result r.goes.touches r.write_later
    c.print_answers.ensures.stops.cause

pub returns-clause-moves : goal.returns-clause-moves
returns-clause-moves g c = λ t.
    let r = c.in_ok-answers.ensures in
    printed_reads g.S.Service.allowance (g.S.Service.size_by c.args.rule) g.S.Service.KIND _ _ (seen g.D.Device.state c.args.rig.now)
    (seen g.D.Device.state c.read_answers.new.rig) (seen g.D.Device.state c.print_answers.new.rig)
    (r.moves t) (λ d. let b = r.blocks t d in let m = c.print_answers.ensures.moves in omega (arith, b, m))

pub returns-clause-most : goal.returns-clause-most
returns-clause-most g c =
    let k = c.print_answers.ensures.keeps in
    same_keeps g.S.Service.room g.H.Shelf.tells _ (seen g.D.Device.state c.read_answers.new.rig)
    (seen g.D.Device.state c.print_answers.new.rig) k.goes.touches.shape k.goes.touches.told k.most
    c.in_ok-answers.ensures.most
