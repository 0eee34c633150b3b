use Rattle.std.proofs.Common.{sym, ◌∙◌}
use Rattle.std.proofs.lemmas.Bool.{false≢true}
use Rattle.em_space.specs.Seen.{seen}
use Rattle.em_tree_walk.specs.Stands.{IsNodeOf}
use Rattle.em_tree_walk.proofs.Readings.{fails_reading, reads_by}
use Rattle.em_tree_walk.proofs.Standing.{node_passes}
use Rattle.em_tree_walk.proofs.descending.load_node.Goals as goal

pub returns-then-not-is_node_of-clause-reads : goal.returns-then-not-is_node_of-clause-reads
returns-then-not-is_node_of-clause-reads g c =
    let e = c.in_ok-load.ensures in
    let h = e.goes.touches in
    let s = seen g.D.Device.state c.args.rig.now in
    fails_reading (IsNodeOf c.args.at_level s.pool.shape s.blocks) c.requires.sound
    c.requires.leads.in_use (reads_by e.goes e.moved e.kept) e.loaded
    (λ z. node_passes c.args.at_level c.requires.above (c.requires.leads.told z)) (λ r.
    let q : IsNodeOf c.args.at_level c.shape.result c.blocks-2.result c.load.new.frame =
    rw (c.shape.ensures, h.shape, c.blocks-2.ensures, h.blocks) r in
    false≢true (sym c.if-not-is_node_of.true ∙ c.is_node_of.ensures.1 q))
