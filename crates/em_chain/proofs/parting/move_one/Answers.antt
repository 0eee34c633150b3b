use Rattle.std.proofs.Common.{arith, sym, ap, Ok}
use Rattle.em_space.specs.Seen.{seen}
use Rattle.em_chain.proofs.Pairs.{pairs_is, pairs_peeks, pairs_appends, pairs_next, pairs_stop_peek, pairs_stop_append, pairs_stop_next}
use Rattle.em_chain.proofs.Parts.{step_stands, step_moves, step_stop_peek, step_stop_append, step_stop_next, stops_needed, stops_unneeded, room_by, taken_is, steps_of}
use Rattle.em_chain.proofs.parting.move_one.Goals as goal

pub returns-in_err-item-clause-done : goal.returns-in_err-item-clause-done
returns-in_err-item-clause-done g c =
    let i = c.requires.pair in
    let e = c.in_err-item.ensures in
    steps_of (seen g.D.Device.state c.args.rig.now) (seen g.D.Device.state c.peek.new.rig) c.args.low
    c.args.reader.now c.peek.new.self c.args.writer.now c.args.writer.now _ _
    c.from_residual.ensures.1
    (stops_unneeded (seen g.D.Device.state c.args.rig.now) e.cause (step_stop_peek c.requires.sound.shape.block_low i
    (pairs_stop_peek c.args.reader.now c.args.writer.now c.peek.ensures.goes (e.spends i.taking) e.cause)))

pub returns-then-not-is_below-clause-done : goal.returns-then-not-is_below-clause-done
returns-then-not-is_below-clause-done g c =
    let i = c.requires.pair in
    let o = c.in_ok-item.ensures in
    let h = pairs_peeks i c.peek.ensures.goes o.peeks (o.spends i.taking) in
    step_stands c.args.low c.in_ok-item.item c.requires.sound.shape.block_low i h o.peeks.next
    (sym c.if-not-is_below.ensures)

pub append-requires-clause-is : goal.append-requires-clause-is
append-requires-clause-is g c =
    let o = c.in_ok-item.ensures in
    (pairs_peeks c.requires.pair c.peek.ensures.goes o.peeks
    (o.spends c.requires.pair.taking)).wrote.is

pub returns-in_err-append-clause-done : goal.returns-in_err-append-clause-done
returns-in_err-append-clause-done g c =
    let i = c.requires.pair in
    let o = c.in_ok-item.ensures in
    let e = c.in_err-append.ensures in
    let h = pairs_peeks i c.peek.ensures.goes o.peeks (o.spends i.taking) in
    steps_of (seen g.D.Device.state c.args.rig.now) (seen g.D.Device.state c.append.new.rig) c.args.low
    c.args.reader.now c.peek.new.self c.args.writer.now c.append.new.self _ _
    c.from_residual-in_err-append.ensures.1
    (stops_needed c.args.low o.peeks (sym c.if-not-is_below.ensures)
    (step_stop_append c.requires.sound.shape.block_low i h
    (pairs_stop_append c.peek.new.self c.args.writer.now c.append.ensures.goes e.spends e.cause)))

pub next-requires-clause-is : goal.next-requires-clause-is
next-requires-clause-is g c =
    let i = c.requires.pair in
    let o = c.in_ok-item.ensures in
    let a = c.in_ok-append.ensures in
    let h = pairs_peeks i c.peek.ensures.goes o.peeks (o.spends i.taking) in
    (pairs_appends (pairs_is i.taking h) c.append.ensures.goes a.appends a.spends).took.is

pub returns-in_err-_taken-clause-done : goal.returns-in_err-_taken-clause-done
returns-in_err-_taken-clause-done g c =
    let i = c.requires.pair in
    let o = c.in_ok-item.ensures in
    let a = c.in_ok-append.ensures in
    let e = c.in_err-_taken.ensures in
    let h = pairs_peeks i c.peek.ensures.goes o.peeks (o.spends i.taking) in
    let j = pairs_is i.taking h in
    let k = pairs_appends j c.append.ensures.goes a.appends a.spends in
    steps_of (seen g.D.Device.state c.args.rig.now) (seen g.D.Device.state c.next.new.rig) c.args.low
    c.args.reader.now c.next.new.self c.args.writer.now c.append.new.self _ _
    c.from_residual-in_err-_taken.ensures.1
    (stops_unneeded (seen g.D.Device.state c.append.new.rig) e.cause (step_stop_next c.requires.sound.shape.block_low i h k
    (pairs_stop_next c.peek.new.self c.append.new.self j.taking c.next.ensures.goes (e.spends j.taking) e.cause)))

pub returns-clause-done : goal.returns-clause-done
returns-clause-done g c =
    let i = c.requires.pair in
    let o = c.in_ok-item.ensures in
    let a = c.in_ok-append.ensures in
    let b = c.in_ok-_taken.ensures in
    let x = c.in_ok-item.item in
    let h = pairs_peeks i c.peek.ensures.goes o.peeks (o.spends i.taking) in
    let j = pairs_is i.taking h in
    let k = pairs_appends j c.append.ensures.goes a.appends a.spends in
    let l = pairs_is j.taking k in
    let t = taken_is _ _ _ _ c.in_ok-_taken._taken (omega (arith, k.took.left_is)) (λ e. b.end (ap Ok e))
    b.reads in (
      x,
      record {
        moved = step_moves c.args.low x t.0 c.requires.sound.shape.block_low i h o.peeks.next k
            (pairs_next l c.next.ensures.goes t.1 (b.spends l.taking))
            (sym c.if-not-is_below.ensures);
        room = room_by c.requires.sound o.peeks.fetches h (λ n e. let f = a.full.1 (n, e) in cc);
      },
    )
