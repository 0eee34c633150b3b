use Rattle.em_segment_parts.proofs.Turning.{ordered_front, ordered_long}
use Rattle.em_segment_parts.proofs.loading.put_in_order.Goals as goal

pub returns-clause-load : goal.returns-clause-load
returns-clause-load c = ordered_front _ _ c.args.number c.requires.room c.sort.ensures.sorted

pub returns-clause-len : goal.returns-clause-len
returns-clause-len c = ordered_long _ _ c.args.number c.requires.room c.sort.ensures.sorted
