use Rattle.em_space.specs.Seen.{seen}
use Rattle.em_map.proofs.Handed.{counts_by, keeps_by, needs_by, over_by, room_by}
use Rattle.em_map.proofs.handing.keep_pairs.Goals as goal

pub returns-clause-keeps : goal.returns-clause-keeps
returns-clause-keeps g c = let settled = c.in_ok-settle_all.ensures.settles in search (keeps_by _ _ _ _ _ settled)

pub returns-clause-counts : goal.returns-clause-counts
returns-clause-counts g c = counts_by _ _ _ _ _ c.in_ok-settle_all.ensures.settles _ _ c.discard_answers.result
    c.discard_answers.ensures.discards c.settle_all.ensures.counts

pub returns-clause-needs : goal.returns-clause-needs
returns-clause-needs g c = needs_by (seen g.D.Device.state c.args.rig.now) _ _ c.args.tree.now.trunk _ _
    c.discard_answers.result c.discard_answers.ensures.discards

pub returns-clause-room : goal.returns-clause-room
returns-clause-room g c = λ told. room_by _ _ _ _ _ _ _ c.discard_answers.result c.discard_answers.ensures.discards
    (c.settle_all.ensures.room told)

pub returns-clause-over : goal.returns-clause-over
returns-clause-over g c = over_by _ _ _ _ _ _ _ c.discard_answers.result c.discard_answers.ensures.discards
