use Rattle.std.proofs.Common.{ap, arith, refl}
use Rattle.em_space.specs.Seen.{seen}
use Rattle.em_chain.specs.Chain.{chain_items}
use Rattle.em_plain.specs.Asks.{most_in, records_in}
use Rattle.em_plain.specs.StabPairs.{stabs_in}
use Rattle.em_plain.proofs.Adds.{adds_as, adds_err, beside_added, stops_as}
use Rattle.em_plain.proofs.Asks.{records_longer, records_next, records_none}
use Rattle.em_plain.proofs.Scans.{reads_all, reads_on, scans_all, scans_beside, scans_first, scans_more, scans_stops}
use Rattle.em_plain.proofs.StabLists.{next_stab_most, stabs_more}
use Rattle.em_plain.proofs.answers.answer_by.Goals as goal

pub loop-number-init : goal.loop-number-init
loop-number-init g c = scans_first _ 0 stabs_in (records_in (g.Q.Question.asks c.args.question.now)) c.requires.ready.sound
    c.requires.reader refl refl (records_none (g.Q.Question.asks c.args.question.now))

pub answer_next-requires-clause-sound : goal.answer_next-requires-clause-sound
answer_next-requires-clause-sound g c =
    c.loop-number.invariant.adds.writes.runs.session.sound

pub answer_next-requires-clause-beside : goal.answer_next-requires-clause-beside
answer_next-requires-clause-beside g c =
    beside_added c.requires.ready.beside c.loop-number.invariant.adds

pub answer_next-requires-clause-reader : goal.answer_next-requires-clause-reader
answer_next-requires-clause-reader g c = scans_beside c.requires.reader c.loop-number.invariant

pub answer_next-requires-clause-reads : goal.answer_next-requires-clause-reads
answer_next-requires-clause-reads g c =
    (reads_on c.requires.ready.beside c.requires.reads c.loop-number.invariant).0

pub answer_next-requires-clause-room : goal.answer_next-requires-clause-room
answer_next-requires-clause-room g c =
    omega (
      arith,
      c.loop-number.invariant.fewer,
      c.loop-number-test.true,
      c.len-number-end.ensures,
      c.requires.ready.beside.chain.count_most,
    )

pub loop-number-preserved : goal.loop-number-preserved
loop-number-preserved g c =
    let a = c.loop-number.invariant in
    let k = reads_on c.requires.ready.beside c.requires.reads a in
    scans_more a c.in_ok-stab.ensures.done
    (λ z. records_next (g.Q.Question.asks c.args.question.now) c.loop-number.number c.loop-number.stab a.read _ _ a.len a.number
    (k.1 z)) (stabs_more a.read _) (next_stab_most c.loop-number.stab _)

pub returns-in_err-stab-clause-done : goal.returns-in_err-stab-clause-done
returns-in_err-stab-clause-done g c =
    let a = c.loop-number.invariant in
    let k = reads_on c.requires.ready.beside c.requires.reads a in
    let items = chain_items (seen g.D.Device.state c.args.rig.now) c.args.chain.now in
    adds_err _ _ _ _ _ _ c.from_residual.result _ c.from_residual.ensures.1
    (stops_as (most_in (g.Q.Question.asks c.args.question.now) c.args.chain.now.count) (records_in (g.Q.Question.asks c.args.question.now) items) (omega arith)
    (λ z. rw (reads_all c.requires.ready.beside.chain c.requires.reads z) (omega arith))
    (scans_stops _ c.args.chain.now.count a c.in_err-stab.ensures.done
    (omega (arith, c.loop-number-test.true, c.len-number-end.ensures))
    (λ z x. records_next (g.Q.Question.asks c.args.question.now) c.loop-number.number c.loop-number.stab a.read _ x a.len
    a.number (k.1 z)) (records_longer (g.Q.Question.asks c.args.question.now))))

pub returns-clause-done : goal.returns-clause-done
returns-clause-done g c =
    adds_as (most_in (g.Q.Question.asks c.args.question.now) c.args.chain.now.count) _ (omega arith)
    (λ z. ap (records_in (g.Q.Question.asks c.args.question.now)) (reads_all c.requires.ready.beside.chain c.requires.reads z))
    (scans_all c.args.chain.now.count (omega (
      arith,
      c.loop-number-test.false,
      c.loop-number.auto.number-end,
      c.len-number-end.ensures,
    )) c.loop-number.invariant)
