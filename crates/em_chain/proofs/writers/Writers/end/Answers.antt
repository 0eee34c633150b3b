use Rattle.em_space.specs.Seen.{seen}
use Rattle.em_chain.proofs.WritersMaking.{rack_back}
use Rattle.em_chain.proofs.writers.Writers.end.Goals as goal

pub give_rack-requires-clause-empty : goal.give_rack-requires-clause-empty
give_rack-requires-clause-empty g c =
    rack_back (seen g.D.Device.state c.args.rig.now) c.args.self c.requires.rack c.requires.none
