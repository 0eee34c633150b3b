use Rattle.aig_order.proofs.Puts.{put_to}
use Rattle.aig_order.proofs.sweeping.put.Goals as goal

pub returns-in-Some-clause-puts : goal.returns-in-Some-clause-puts
returns-in-Some-clause-puts g c =
    let e = c.append.ensures in
    rw (c.in-Some.is) (put_to c.in-Some.item c.append.result c.requires.is e.goes e.appends e.costs
    e.spends e.cause)
