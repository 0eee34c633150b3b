use Rattle.std.proofs.Common.{subst}
use Rattle.std.specs.Prelude.{Option}
use Rattle.em_record.specs.declared.record.Record.{Record}
use Rattle.em_space.specs.Seen.{seen}
use Rattle.em_leaf.specs.Passing.{FindsNext}
use Rattle.std.proofs.Common.{Ok}
use Rattle.em_leaf.specs.Needs.{LacksItems}
use Rattle.em_leaf.proofs.Needs.{err_by, lacks_append, lacks_found}
use Rattle.em_leaf.proofs.Written.{append_stops, next_of, out_is, writing_end, writing_one, writing_stops}
use Rattle.em_leaf.proofs.writing.write_next.Goals as goal

pub returns-in_err-item-clause-writes : goal.returns-in_err-item-clause-writes
returns-in_err-item-clause-writes g c =
    let key = g.S.Settle.key_of c.args.settle.now in
    let step = g.S.Settle.step_of c.args.settle.now in
    let ops = c.args.ops.now in
    next_of (seen g.D.Device.state c.args.rig.now) (seen g.D.Device.state c.next_record.new.rig)
    c.args.reader.now c.next_record.new.reader c.args.answers.now c.next_record.new.answers
    c.args.out.now c.args.out.now c.args.front.now c.next_record.new.front key step ops _ _
    c.from_residual.ensures.1
    (writing_stops key step ops c.requires.sound c.requires.can c.in_err-item.ensures.finds)

pub append-requires-clause-is : goal.append-requires-clause-is
append-requires-clause-is g c =
    out_is (g.S.Settle.key_of c.args.settle.now) (g.S.Settle.step_of c.args.settle.now)
    c.args.ops.now c.requires.can c.in_ok-item.ensures.finds.0

pub returns-in_err-append-in-Some-clause-writes : goal.returns-in_err-append-in-Some-clause-writes
returns-in_err-append-in-Some-clause-writes g c =
    let key = g.S.Settle.key_of c.args.settle.now in
    let step = g.S.Settle.step_of c.args.settle.now in
    let ops = c.args.ops.now in
    let P : Option Record → Type 0 = λ o. FindsNext key step ops
    (seen g.D.Device.state c.args.rig.now) (seen g.D.Device.state c.next_record.new.rig)
    c.args.reader.now c.next_record.new.reader c.args.answers.now c.next_record.new.answers
    c.args.front.now c.next_record.new.front (Ok o) in
    let h = subst P c.in-Some.is c.in_ok-item.ensures.finds in
    let e = c.in_err-append-in-Some.ensures in
    next_of (seen g.D.Device.state c.args.rig.now) (seen g.D.Device.state c.append.new.rig)
    c.args.reader.now c.next_record.new.reader c.args.answers.now c.next_record.new.answers
    c.args.out.now c.append.new.self c.args.front.now c.next_record.new.front key step ops _ _
    c.from_residual-in_err-append-in-Some.ensures.1
    (append_stops key step ops c.requires.sound c.requires.can h.0
    (record { goes = c.append.ensures.goes; halts = e.spends; cause = e.cause }))

pub returns-in_ok-append-in-Some-clause-writes : goal.returns-in_ok-append-in-Some-clause-writes
returns-in_ok-append-in-Some-clause-writes g c =
    let key = g.S.Settle.key_of c.args.settle.now in
    let step = g.S.Settle.step_of c.args.settle.now in
    let ops = c.args.ops.now in
    let P : Option Record → Type 0 = λ o. FindsNext key step ops
    (seen g.D.Device.state c.args.rig.now) (seen g.D.Device.state c.next_record.new.rig)
    c.args.reader.now c.next_record.new.reader c.args.answers.now c.next_record.new.answers
    c.args.front.now c.next_record.new.front (Ok o) in
    let h = subst P c.in-Some.is c.in_ok-item.ensures.finds in
    let a = c.in_ok-append-in-Some.ensures in (
      writing_one key step ops c.requires.sound c.requires.can h.0 c.append.ensures.goes a.appends
          a.spends,
      λ e. cc,
    )

pub returns-in-None-clause-writes : goal.returns-in-None-clause-writes
returns-in-None-clause-writes g c =
    let key = g.S.Settle.key_of c.args.settle.now in
    let step = g.S.Settle.step_of c.args.settle.now in
    let ops = c.args.ops.now in
    let P : Option Record → Type 0 = λ o. FindsNext key step ops
    (seen g.D.Device.state c.args.rig.now) (seen g.D.Device.state c.next_record.new.rig)
    c.args.reader.now c.next_record.new.reader c.args.answers.now c.next_record.new.answers
    c.args.front.now c.next_record.new.front (Ok o) in
    let h = subst P c.in-None.is c.in_ok-item.ensures.finds in
    (writing_end key step ops c.requires.sound c.requires.can h.0, h.1)

pub returns-in_err-item-clause-needs : goal.returns-in_err-item-clause-needs
returns-in_err-item-clause-needs g c =
    let key = g.S.Settle.key_of c.args.settle.now in
    let step = g.S.Settle.step_of c.args.settle.now in
    let ops = c.args.ops.now in
    err_by (LacksItems 1 key step ops (seen g.D.Device.state c.args.rig.now)
    (seen g.D.Device.state c.next_record.new.rig) c.args.reader.now c.args.answers.now
    c.args.out.now c.args.front.now) _ _ c.from_residual.ensures.1
    (lacks_found key step ops (seen g.D.Device.state c.next_record.new.rig) _ c.requires.sound c.requires.can c.in_err-item.ensures.needs)

pub returns-in_err-append-in-Some-clause-needs : goal.returns-in_err-append-in-Some-clause-needs
returns-in_err-append-in-Some-clause-needs g c =
    let key = g.S.Settle.key_of c.args.settle.now in
    let step = g.S.Settle.step_of c.args.settle.now in
    let ops = c.args.ops.now in
    let P : Option Record → Type 0 = λ o. FindsNext key step ops
    (seen g.D.Device.state c.args.rig.now) (seen g.D.Device.state c.next_record.new.rig)
    c.args.reader.now c.next_record.new.reader c.args.answers.now c.next_record.new.answers
    c.args.front.now c.next_record.new.front (Ok o) in
    let h = subst P c.in-Some.is c.in_ok-item.ensures.finds in
    let e = c.in_err-append-in-Some.ensures in
    err_by (LacksItems 1 key step ops (seen g.D.Device.state c.args.rig.now)
    (seen g.D.Device.state c.append.new.rig) c.args.reader.now c.args.answers.now
    c.args.out.now c.args.front.now) _ _ c.from_residual-in_err-append-in-Some.ensures.1
    (lacks_append key step ops c.requires.can h.0
    (record { goes = c.append.ensures.goes; halts = e.spends; cause = e.cause }))
