use Rattle.std.proofs.Common.{sym, ◌∙◌}
use Rattle.std.proofs.lemmas.Bool.{false≢true}
use Rattle.em_space.specs.Seen.{seen}
use Rattle.em_tree_load.specs.Leaves.{IsLeafBlock}
use Rattle.em_tree_load.proofs.LeafBlocks.{leaf_passes}
use Rattle.em_tree_walk.proofs.Readings.{fails_reading, reads_by}
use Rattle.em_tree_load.proofs.leaf_block.load_leaf_block.Goals as goal

pub returns-then-not-is_leaf-clause-reads : goal.returns-then-not-is_leaf-clause-reads
returns-then-not-is_leaf-clause-reads g c =
    let e = c.in_ok-load.ensures in
    let h = e.goes.touches in
    let s = seen g.D.Device.state c.args.rig.now in
    fails_reading (IsLeafBlock s.pool.shape) c.requires.sound c.requires.leads.in_use
    (reads_by e.goes e.moved e.kept) e.loaded (λ z. leaf_passes z (c.requires.leads.told z)) (λ r.
    let q : IsLeafBlock c.shape-shape.result c.load.new.frame =
    rw (c.shape-shape.ensures, h.shape) r in
    false≢true (sym c.if-not-is_leaf.true ∙ c.is_leaf.ensures.1 q))
