use Rattle.std.proofs.Common.{sym, ◌∙◌}
use Rattle.em_leaf.proofs.Fronts.{first_none, first_some}
use Rattle.em_leaf.proofs.Passes.{first_stands}
use Rattle.em_leaf.proofs.Steps.{reads_ahead}
use Rattle.em_leaf.proofs.stepping.read_ahead.Goals as goal

pub returns-in-Some-clause-reads : goal.returns-in-Some-clause-reads
returns-in-Some-clause-reads g c =
    let f = c.args.front.now in
    first_stands f c.requires.sound c.requires.is
    (λ z. first_some f f.hand c.in-Some._item (sym c.first.ensures ∙ c.in-Some.is) z)

pub returns-in_ok-front-in-None-clause-reads : goal.returns-in_ok-front-in-None-clause-reads
returns-in_ok-front-in-None-clause-reads g c =
    let f = c.args.front.now in
    let n = first_none f f.hand (sym c.first.ensures ∙ c.in-None.is) in
    let o = c.in_ok-front-in-None.ensures in
    reads_ahead f _ c.requires.sound c.requires.is n.0 n.1 c.next.ensures.goes o.reads o.end o.costs
    o.spends
