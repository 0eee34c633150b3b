use Rattle.em_space.proofs.Lists.{distinct_apart}
use Rattle.aig_edges.proofs.Opened.{opens_lists}
use Rattle.aig_edges.proofs.comparing.open.Goals as goal

pub new-weave-requires-clause-apart : goal.new-weave-requires-clause-apart
new-weave-requires-clause-apart g c = λ z.
    distinct_apart _ _ ((c.requires.holds z).distinct z)

pub returns : goal.returns
returns g c =
    let o = c.new-weave.ensures in
    let a = c.new-sources.ensures in
    let b = c.new-edges.ensures in
    record {
      opens = opens_lists o.lends o.unmoved o.opens a.lends a.unmoved a.begins b.lends b.unmoved
          b.begins;
    }
