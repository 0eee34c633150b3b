use Rattle.std.proofs.Common.{◌≡◌, ◌<◌, ◌∙◌, ap, length}
use Rattle.em_record.specs.declared.record.Record.{Record}
use Rattle.em_node.specs.Node.{entries_of, place_of}
use Rattle.em_empty.proofs.Dealt.{deals_by, deals_refused, group_after, place_within, stops_reading}
use Rattle.em_empty.proofs.dealing.deal_next.Goals as goal

pub returns-in_err-item-clause-deals : goal.returns-in_err-item-clause-deals
returns-in_err-item-clause-deals g c =
    let e = c.in_err-item.ensures in
    let i = c.requires.both in
    deals_refused _ _ _ _ _ _ _ _ c.from_residual.result c.in_err-item.field-0.0 c.from_residual.ensures.1
    (stops_reading i e.goes (e.spends i.taking) e.cause)

pub append-requires-clause-is : goal.append-requires-clause-is
append-requires-clause-is g c = group_after c.requires.both c.next.ensures.goes

pub append-requires-clause-within : goal.append-requires-clause-within
append-requires-clause-within g c =
    rw (c.find-at.ensures, c.requires.can.len)
    (place_within c.key.result (entries_of c.args.frame.now) c.requires.can.some)

pub append-requires-clause-room : goal.append-requires-clause-room
append-requires-clause-room g c =
    c.requires.can.grow c.find-at.result (rw c.find-at.ensures
    (place_within c.key.result (entries_of c.args.frame.now) c.requires.can.some))

pub returns-clause-deals : goal.returns-clause-deals
returns-clause-deals g c =
    let e = c.in_ok-item.ensures in
    let i = c.requires.both in
    let es = entries_of c.args.frame.now in
    let at : c.find-at.result ≡ place_of (g.S.Settle.key_of c.args.settle.now c.in-Some.item) es =
    c.find-at.ensures ∙ ap (λ (q : Record). place_of q es) c.key.ensures in
    let lt : c.find-at.result < length c.args.group.now.words.items =
    rw (c.find-at.ensures, c.requires.can.len) (place_within c.key.result es c.requires.can.some) in
    deals_by _ _ _ es c.find-at.result c.append.result i e.goes (rw c.in-Some.is at e.reads)
    (e.spends i.taking) at lt c.append.ensures.appends c.append.ensures.stops
