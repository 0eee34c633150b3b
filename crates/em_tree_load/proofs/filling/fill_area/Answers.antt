use Rattle.em_tree_load.proofs.AreaFroms.{area_of}
use Rattle.em_tree_load.proofs.filling.fill_area.Goals as goal

pub returns-clause-fills : goal.returns-clause-fills
returns-clause-fills g c = area_of _ _ _ _ _ _ c.fill_from.result c.fill_from.ensures.fills

pub returns-clause-peaks : goal.returns-clause-peaks
returns-clause-peaks g c = c.fill_from.ensures.peaks
