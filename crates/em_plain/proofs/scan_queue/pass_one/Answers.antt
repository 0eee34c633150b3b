use Rattle.em_space.specs.Seen.{seen}
use Rattle.em_chain.proofs.Pairs.{pairs_is, pairs_next, pairs_appends, pairs_stop_next, pairs_stop_append}
use Rattle.em_plain.proofs.Least.{one_passed, one_stops, one_stops_first}
use Rattle.em_plain.proofs.scan_queue.pass_one.Goals as goal

pub returns-in_err-item-clause-done : goal.returns-in_err-item-clause-done
returns-in_err-item-clause-done g c =
    let i = c.requires.pair in
    let e = c.in_err-item.ensures in
    one_stops_first (seen g.D.Device.state c.args.rig.now) (seen g.D.Device.state c.next.new.rig)
    c.args.reader.now c.next.new.self c.args.writer.now c.args.writer.now c.args.least _ _
    c.from_residual.ensures.1 c.requires.sound.shape.block_low i.writer
    (pairs_stop_next c.args.reader.now c.args.writer.now i.taking c.next.ensures.goes
    (e.spends i.taking) e.cause)

pub append-requires-clause-is : goal.append-requires-clause-is
append-requires-clause-is g c =
    let i = c.requires.pair in
    let o = c.in_ok-item.ensures in
    let a = rw c.in-Some.is at o.reads in
    (pairs_next i c.next.ensures.goes a (o.spends i.taking)).wrote.is

pub returns-in_err-append-clause-done : goal.returns-in_err-append-clause-done
returns-in_err-append-clause-done g c =
    let i = c.requires.pair in
    let o = c.in_ok-item.ensures in
    let e = c.in_err-append.ensures in
    let a = rw c.in-Some.is at o.reads in
    one_stops (seen g.D.Device.state c.args.rig.now) (seen g.D.Device.state c.next.new.rig)
    (seen g.D.Device.state c.append.new.rig) c.args.reader.now c.next.new.self c.next.new.self
    c.args.writer.now c.append.new.self c.args.least c.in-Some.item _ _
    c.from_residual-in_err-append.ensures.1 c.requires.sound.shape.block_low i
    (pairs_next i c.next.ensures.goes a (o.spends i.taking))
    (pairs_stop_append c.next.new.self c.args.writer.now c.append.ensures.goes e.spends e.cause)

pub returns-clause-done : goal.returns-clause-done
returns-clause-done g c =
    let i = c.requires.pair in
    let o = c.in_ok-item.ensures in
    let b = c.in_ok-append.ensures in
    let a = rw c.in-Some.is at o.reads in
    let h = pairs_next i c.next.ensures.goes a (o.spends i.taking) in
    let w = rw c.max.ensures at b.appends in (
      c.in-Some.item,
      c.min.ensures,
      one_passed c.requires.sound.shape.block_low i h
          (pairs_appends (pairs_is i.taking h) c.append.ensures.goes w b.spends),
    )
