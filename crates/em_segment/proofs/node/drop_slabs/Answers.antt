use Rattle.em_segment_parts.proofs.Dropping.{discard_stops, discards, drops_chain, drops_err, drops_next, drops_none, drops_stop}
use Rattle.em_segment.proofs.node.drop_slabs.Goals as goal

pub loop-last-init : goal.loop-last-init
loop-last-init g c =
    drops_none c.args.slabs.items c.requires.sound c.requires.are c.requires.holds

pub discard-requires-clause-is : goal.discard-requires-clause-is
discard-requires-clause-is g c =
    drops_chain c.pop.new.self.items c.in-Some.last.chain c.in-Some.ensures.items c.loop-last.invariant

pub loop-last-preserved : goal.loop-last-preserved
loop-last-preserved g c =
    let e = c.in_ok-discard.ensures in
    drops_next c.pop.new.self.items c.in-Some.last.chain c.in-Some.ensures.items c.loop-last.invariant
    (discards c.in-Some.last.chain c.in_ok-discard.field-0 e.goes e.frees)

pub returns-in_err-discard : goal.returns-in_err-discard
returns-in_err-discard g c =
    let e = c.in_err-discard.ensures in
    record {
      drops = drops_err _ _ _ c.from_residual.result _ c.from_residual.ensures.1
          (drops_stop c.pop.new.self.items c.in-Some.last.chain c.in-Some.ensures.items
          c.loop-last.invariant (discard_stops c.in-Some.last.chain e.goes e.frees e.cause));
    }
