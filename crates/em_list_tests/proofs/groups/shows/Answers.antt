use Rattle.em_space.specs.Seen.{seen}
use Rattle.em_chain.specs.Writers.{member_at}
use Rattle.em_chain.proofs.WritersOpening.{member_within}
use Rattle.em_chain.proofs.WritersStored.{member_parts}
use Rattle.em_list_tests.proofs.groups.shows.Goals as goal

pub scans-requires-clause-is : goal.scans-requires-clause-is
scans-requires-clause-is g c =
    (member_parts (seen g.D.Device.state c.args.rig.now) (member_at c.args.group.now c.args.at)
    c.stored-stored.result c.pending-pending.result.now
    (c.requires.is.members_are.each c.args.at (member_within c.args.group.now c.args.at c.requires.within))
    c.stored-stored.ensures.stored c.pending-pending.ensures.pending).view
