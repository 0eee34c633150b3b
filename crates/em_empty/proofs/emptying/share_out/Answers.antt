use Rattle.em_empty.proofs.Entries.{gathered_len}
use Rattle.em_empty.proofs.Grouped.{buffers_hold, group_apart, group_awaits, group_chain, shared_out, shared_stopped}
use Rattle.em_empty.proofs.emptying.share_out.Goals as goal

pub gather-group-requires-clause-holds : goal.gather-group-requires-clause-holds
gather-group-requires-clause-holds g c = buffers_hold c.requires.can

pub share_to-requires-clause-chain : goal.share_to-requires-clause-chain
share_to-requires-clause-chain g c = group_chain c.requires.can c.gather-group.ensures

pub share_to-requires-clause-apart : goal.share_to-requires-clause-apart
share_to-requires-clause-apart g c = group_apart c.requires.can c.gather-group.ensures

pub share_to-requires-clause-awaits : goal.share_to-requires-clause-awaits
share_to-requires-clause-awaits g c = group_awaits c.requires.can c.gather-group.ensures

pub returns-in-Ok-clause-shares : goal.returns-in-Ok-clause-shares
returns-in-Ok-clause-shares g c =
    let w = c.gather-group.ensures in
    let d = c.in-Ok.ensures in
    let e = c.end.ensures in
    shared_out c.share_to.new.group c.requires.can c.requires.rack w d.frames
    (gathered_len w) d.none d.shares e.sound e.touches e.given

pub returns-in-Err-clause-shares : goal.returns-in-Err-clause-shares
returns-in-Err-clause-shares g c =
    let w = c.gather-group.ensures in
    let d = c.in-Err.ensures in
    let e = c.abandon.ensures in
    shared_stopped c.share_to.new.group c.requires.can c.requires.rack w d.frames
    (gathered_len w) d.shares e.sound e.touches e.given e.unmoved
