use Rattle.em_services.proofs.Rules.{both_still}
use Rattle.em_services.proofs.scan_service.ScanMapService.take.Goals as goal

pub returns-clause-is : goal.returns-clause-is
returns-clause-is g c =
    both_still _ _ c.give_map.result c.give_map.ensures.is (rw c.give_map.ensures.settle c.requires.is.1)
