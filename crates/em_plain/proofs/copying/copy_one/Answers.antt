use Rattle.em_chain.proofs.Pairs.{pairs_appends, pairs_is, pairs_next, pairs_stop_append, pairs_stop_next}
use Rattle.em_plain.proofs.Anew.{copy_refused, copy_unread, copy_unwritten}
use Rattle.em_plain.proofs.Least.{one_passed}
use Rattle.em_plain.proofs.copying.copy_one.Goals as goal

pub returns-in_err-item-clause-done : goal.returns-in_err-item-clause-done
returns-in_err-item-clause-done g c =
    let i = c.requires.pair in
    let e = c.in_err-item.ensures in
    copy_refused _ _ _ _ _ _ _ _ c.from_residual.ensures.1
    (copy_unread c.args.reader.now c.requires.sound.shape.block_low i.writer
    (pairs_stop_next c.args.reader.now c.args.writer.now i.taking c.next.ensures.goes
    (e.spends i.taking) e.cause))

pub append-requires-clause-is : goal.append-requires-clause-is
append-requires-clause-is g c =
    let i = c.requires.pair in
    let o = c.in_ok-item.ensures in
    let a = rw c.in-Some.is at o.reads in
    (pairs_next i c.next.ensures.goes a (o.spends i.taking)).wrote.is

pub returns-in_err-append-clause-done : goal.returns-in_err-append-clause-done
returns-in_err-append-clause-done g c =
    let i = c.requires.pair in
    let o = c.in_ok-item.ensures in
    let e = c.in_err-append.ensures in
    let a = rw c.in-Some.is at o.reads in
    copy_refused _ _ _ _ _ _ _ _ c.from_residual-in_err-append.ensures.1
    (copy_unwritten c.requires.sound.shape.block_low i
    (pairs_next i c.next.ensures.goes a (o.spends i.taking))
    (pairs_stop_append c.next.new.self c.args.writer.now c.append.ensures.goes e.spends e.cause))

pub returns-clause-done : goal.returns-clause-done
returns-clause-done g c =
    let i = c.requires.pair in
    let o = c.in_ok-item.ensures in
    let b = c.in_ok-append.ensures in
    let a = rw c.in-Some.is at o.reads in
    let h = pairs_next i c.next.ensures.goes a (o.spends i.taking) in (
      c.in-Some.item,
      one_passed c.requires.sound.shape.block_low i h
          (pairs_appends (pairs_is i.taking h) c.append.ensures.goes b.appends b.spends),
    )
