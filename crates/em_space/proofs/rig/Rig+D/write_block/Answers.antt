use Rattle.std.proofs.Common.{rules, length}
use Rattle.em_space.specs.Seen.{seen}
use Rattle.em_space.proofs.Rigs.{Writes, goes_written, in_use_written, none_new_written}
use Rattle.em_space.proofs.rig.Rig+D.write_block.Goals as goal

written-Ok : (g : _) (c : goal.In-Ok g)
    → Writes (seen g.D.Device.state c.args.self.now) (g.D.Device.state c.write-wrote.new.self)
    c.saturating_add-self.result c.args.block (length c.records.result.now) c.write-wrote.result
written-Ok g c = search rules

pub returns-in-Ok-clause-goes : goal.returns-in-Ok-clause-goes
returns-in-Ok-clause-goes g c = goes_written _ _ _ _ _ _ (written-Ok g c)

pub returns-in-Ok-clause-in_use : goal.returns-in-Ok-clause-in_use
returns-in-Ok-clause-in_use g c =
    in_use_written _ _ _ _ _ _ (written-Ok g c) c.args.block c.requires.in_use

pub returns-in-Ok-clause-moved : goal.returns-in-Ok-clause-moved
returns-in-Ok-clause-moved g c =
    let none = none_new_written _ _ _ _ _ _ (written-Ok g c) in search rules

written-Err : (g : _) (c : goal.In-Err g)
    → Writes (seen g.D.Device.state c.args.self.now) (g.D.Device.state c.write-wrote.new.self)
    c.saturating_add-self.result c.args.block (length c.records.result.now) c.write-wrote.result
written-Err g c = search rules

pub returns-in-Err-clause-goes : goal.returns-in-Err-clause-goes
returns-in-Err-clause-goes g c = goes_written _ _ _ _ _ _ (written-Err g c)

pub returns-in-Err-clause-in_use : goal.returns-in-Err-clause-in_use
returns-in-Err-clause-in_use g c =
    in_use_written _ _ _ _ _ _ (written-Err g c) c.args.block c.requires.in_use

pub returns-in-Err-clause-moved : goal.returns-in-Err-clause-moved
returns-in-Err-clause-moved g c =
    let none = none_new_written _ _ _ _ _ _ (written-Err g c) in search rules
