use Rattle.aig_edges.proofs.Opened.{gives_four}
use Rattle.aig_edges.proofs.comparing.abandon.Goals as goal

pub returns : goal.returns
returns g c =
    let o = c.abandon.ensures in
    let a = c.abandon-2.ensures in
    let b = c.abandon-3.ensures in
    let x = gives_four o.gives o.unmoved a.gives a.unmoved b.gives b.unmoved in
    record { gives = x.0; unmoved = x.1 }
