use Rattle.std.proofs.Common.{arith}
use Rattle.em_empty.proofs.Framed.{can_lent, empties_framed, says_emptied, says_full, says_leaves}
use Rattle.em_empty.proofs.emptying.empty_node.Goals as goal

pub empty_into-emptied-requires-clause-can : goal.empty_into-emptied-requires-clause-can
empty_into-emptied-requires-clause-can g c =
    let e = c.lend-frame.ensures in can_lent e.touches e.lent c.requires.can

pub returns-clause-emptied : goal.returns-clause-emptied
returns-clause-emptied g c =
    let e = c.lend-frame.ensures in
    says_emptied _ _ _ _ _ c.empty_into-emptied.result
    (empties_framed _ _ c.empty_into-emptied.result
    c.requires.sound (omega (arith, c.requires.free)) c.requires.can e.lent
    c.empty_into-emptied.ensures.empties c.give.ensures.given)

pub returns-clause-leaves : goal.returns-clause-leaves
returns-clause-leaves g c =
    let e = c.lend-frame.ensures in
    says_leaves _ _ _ _ _ c.empty_into-emptied.result
    (empties_framed _ _ c.empty_into-emptied.result
    c.requires.sound (omega (arith, c.requires.free)) c.requires.can e.lent
    c.empty_into-emptied.ensures.empties c.give.ensures.given)

pub returns-clause-full : goal.returns-clause-full
returns-clause-full g c =
    let e = c.lend-frame.ensures in
    says_full _ _ _ _ _ c.empty_into-emptied.result
    (empties_framed _ _ c.empty_into-emptied.result
    c.requires.sound (omega (arith, c.requires.free)) c.requires.can e.lent
    c.empty_into-emptied.ensures.empties c.give.ensures.given)
