use Rattle.std.proofs.Common.{◌++◌, ◌∷◌, [], ap, sym, ◌∙◌, arith, refl}
use Rattle.std.specs.Prelude.{decimal}
use Rattle.em_space.specs.Seen.{seen}
use Rattle.em_chain.specs.Reader.{reader_items}
use Rattle.em_answers.specs.Answer.{further_words}
use Rattle.em_answers.specs.Print.{intervals_at, pairs_behind}
use Rattle.em_answers.proofs.PairLaws.{behind_same, words_same}
use Rattle.em_answers.proofs.Looking.{keeps_looking, looks_next, reads_on}
use Rattle.em_ends.proofs.Printing.{part_step, sent_step}
use Rattle.em_answers.proofs.print.add_further.Goals as goal
use Rattle.em_answers.proofs.Pieces.{into_failed, into_stopped}

pub returns-in_err-other-clause-prints : goal.returns-in_err-other-clause-prints
returns-in_err-other-clause-prints g c = λ told.
    into_stopped _ _ _ c.from_residual.ensures.0 (c.loop-pair.invariant.sent told)

pub returns-in_err-add-in-Some-clause-reads : goal.returns-in_err-add-in-Some-clause-reads
returns-in_err-add-in-Some-clause-reads g c =
    reads_on _ _ _ _ _ _ c.loop-pair.invariant.reader c.loop-pair.invariant.keeps c.next.ensures.goes
    c.next.ensures.costs c.next.ensures.frame

pub returns-in_err-add_number-in-Some-clause-reads : goal.returns-in_err-add_number-in-Some-clause-reads
returns-in_err-add_number-in-Some-clause-reads g c =
    reads_on _ _ _ _ _ _ c.loop-pair.invariant.reader c.loop-pair.invariant.keeps c.next.ensures.goes
    c.next.ensures.costs c.next.ensures.frame

pub returns-in_err-add-in-Some-clause-prints : goal.returns-in_err-add-in-Some-clause-prints
returns-in_err-add-in-Some-clause-prints g c = λ told.
    let inv = c.loop-pair.invariant in
    let pair = c.in-Some.pair in
    let after = reader_items (seen g.D.Device.state c.next.new.rig) c.next.new.self in
    let reads = rw c.in-Some.is at c.in_ok-other.ensures.reads in
    into_failed _ _ c.from_residual-in_err-add-in-Some.ensures.1
    (part_step g.met.W.Sink.rule (g.met.W.Sink.is_state c.args.out.now) c.loop-pair.printer
    (32 ∷ []) (decimal pair.b ++ further_words (intervals_at c.args.stab after)) (inv.sent told)
    (words_same c.args.stab pair _ after c.loop-pair.printer c.if-pair-stab.true
    (reads.items (inv.keeps.goes.touches.told ∙ told))) c.in_err-add-in-Some.ensures.part)

pub returns-in_err-add_number-in-Some-clause-prints : goal.returns-in_err-add_number-in-Some-clause-prints
returns-in_err-add_number-in-Some-clause-prints g c = λ told.
    let inv = c.loop-pair.invariant in
    let ok = g.met.W.Sink.is_state c.args.out.now in
    let after = reader_items (seen g.D.Device.state c.next.new.rig) c.next.new.self in
    let words = further_words (intervals_at c.args.stab after) in
    let reads = rw c.in-Some.is at c.in_ok-other.ensures.reads in
    let left = words_same c.args.stab c.in-Some.pair _ after c.loop-pair.printer
    c.if-pair-stab.true (reads.items (inv.keeps.goes.touches.told ∙ told)) in
    into_failed _ _ c.from_residual-in_err-add_number-in-Some.ensures.1
    (part_step g.met.W.Sink.rule ok c.add.new.self (decimal c.in-Some.pair.b) words
    (sent_step g.met.W.Sink.rule ok c.loop-pair.printer (32 ∷ [])
    (decimal c.in-Some.pair.b ++ words) (inv.sent told) left c.in_ok-add-in-Some.ensures.sent) refl
    c.in_err-add_number-in-Some.ensures.part)

pub loop-pair-preserved : goal.loop-pair-preserved
loop-pair-preserved g c =
    let inv = c.loop-pair.invariant in
    let stab = c.args.stab in
    let pair = c.in-Some.pair in
    let after = reader_items (seen g.D.Device.state c.next.new.rig) c.next.new.self in
    let words = further_words (intervals_at stab after) in
    let rule = g.met.W.Sink.rule in
    let ok = g.met.W.Sink.is_state c.args.out.now in
    let reads = rw c.in-Some.is at c.in_ok-other.ensures.reads in
    record {
      keeps = keeps_looking _ _ _ _ _ _ inv.reader inv.keeps c.next.ensures.goes c.next.ensures.costs;
      reader = looks_next _ _ _ _ _ inv.reader reads;
      behind = λ told.
          sym (behind_same stab pair after c.if-pair-stab.true)
          ∙ ap (pairs_behind stab) (sym (reads.items (inv.keeps.goes.touches.told ∙ told)))
          ∙ inv.behind told;
      sent = λ told.
          let left = words_same stab pair _ after c.loop-pair.printer c.if-pair-stab.true
          (reads.items (inv.keeps.goes.touches.told ∙ told)) in
          sent_step rule ok c.add.new.self (decimal pair.b) words
          (sent_step rule ok c.loop-pair.printer (32 ∷ []) (decimal pair.b ++ words)
          (inv.sent told) left c.in_ok-add-in-Some.ensures.sent) refl
          c.in_ok-add_number-in-Some.ensures.sent;
      later = omega (
        arith,
        inv.later,
        c.in_ok-add-in-Some.ensures.cause.later,
        c.in_ok-add_number-in-Some.ensures.cause.later,
      );
      moves = let m = c.in_ok-other.ensures.costs.moves in omega (arith, inv.moves, m);
    }
