use Rattle.em_list_tests.proofs.Dealt.{looked_stays}
use Rattle.em_list_tests.proofs.groups.dealt.Goals as goal

pub last_has-requires-clause-is : goal.last_has-requires-clause-is
last_has-requires-clause-is g c = looked_stays c.in_ok-deal.ensures.wrote.is c.shows.ensures.goes
