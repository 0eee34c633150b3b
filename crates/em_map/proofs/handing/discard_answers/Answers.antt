use Rattle.em_map.proofs.Handed.{discards_by}
use Rattle.em_map.proofs.handing.discard_answers.Goals as goal

pub returns-clause-discards : goal.returns-clause-discards
returns-clause-discards g c = let handed = c.in_ok-answers.ensures.hands in search (discards_by _ _ _ _ _ handed)
