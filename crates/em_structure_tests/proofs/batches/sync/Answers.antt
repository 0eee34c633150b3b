use Rattle.em_space.specs.Seen.{seen}
use Rattle.em_structure_tests.proofs.BatchKeeps.{synced_keeps}
use Rattle.em_structure_tests.proofs.batches.sync.Goals as goal

pub returns-clause-kept : goal.returns-clause-kept
returns-clause-kept g c =
    synced_keeps (seen g.D.Device.state c.args.rig.now) (seen g.D.Device.state c.sync.new.rig)
    (seen g.D.Device.state c.read_all.new.rig) c.args.batch.now c.sync.new.self c.in_ok-chain.chain
    c.read_all.result c.requires.ready.ready.untold c.in_ok-chain.ensures.syncs c.in_ok-chain.ensures.counts
    c.read_all.ensures.goes
