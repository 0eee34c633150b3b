use Rattle.em_balance.proofs.Stored.{stored_new, stored_stops}
use Rattle.em_balance.proofs.storing.store_new.Goals as goal

pub returns-in_err-store : goal.returns-in_err-store
returns-in_err-store g c =
    let a = c.in_ok-block.ensures in
    let e = c.in_err-store.ensures in
    stored_stops _ c.from_residual-in_err-store.result c.in_err-store.field-0.0
    c.from_residual-in_err-store.ensures.1
    (record { goes = a.goes; given = a.given; most = a.most; moves = a.moves; owes = a.owes })
    e.goes e.moved e.cause

pub returns : goal.returns
returns g c =
    let a = c.in_ok-block.ensures in
    let e = c.in_ok-store.ensures in
    stored_new c.args.frame.now
    (record { goes = a.goes; given = a.given; most = a.most; moves = a.moves; owes = a.owes })
    e.goes e.moved e.stored e.in_use
