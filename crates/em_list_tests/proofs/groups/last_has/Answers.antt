use Rattle.em_list_tests.proofs.Dealt.{on_any, taken_stays}
use Rattle.em_list_tests.proofs.groups.last_has.Goals as goal

pub returns-clause-is : goal.returns-clause-is
returns-clause-is g c =
    on_any c.takes.result _ (taken_stays c.in_ok-chain.ensures.takes c.takes.ensures.goes)
