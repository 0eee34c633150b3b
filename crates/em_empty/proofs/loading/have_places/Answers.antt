use Rattle.std.proofs.Common.{◌<◌, ◌∙◌, length, sym, arith}
use Rattle.std.proofs.lemmas.Bool.{false≢true}
use Rattle.em_node.specs.Node.{entries_of}
use Rattle.em_empty.proofs.Entries.{places_more}
use Rattle.em_empty.proofs.Rounds.{places_get}
use Rattle.em_empty.proofs.loading.have_places.Goals as goal

pub returns-then-not-has_places : goal.returns-then-not-has_places
returns-then-not-has_places c =
    let es = entries_of c.args.frame.now in
    let lt : c.loop-at.at < length es = omega
    (arith, c.loop-at-test.true, c.count-at-end.ensures) in (
      λ t. absurd (false≢true t),
      λ h. sym c.if-not-has_places.true
          ∙ c.has_places.ensures.1 (places_get c.args.records es c.loop-at.at lt h),
    )

pub loop-at-preserved : goal.loop-at-preserved
loop-at-preserved c =
    let es = entries_of c.args.frame.now in
    let lt : c.loop-at.at < length es = omega
    (arith, c.loop-at-test.true, c.count-at-end.ensures) in
    places_more c.args.records es c.loop-at.at lt c.loop-at.invariant
    (c.has_places.ensures.0 c.if-not-has_places.false)
