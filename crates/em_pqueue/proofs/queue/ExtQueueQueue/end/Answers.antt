use Rattle.std.proofs.Common.{◌≡◌, arith}
use Rattle.em_space.specs.Seen.{seen}
use Rattle.em_pqueue.proofs.EndCalls.{end_kept, end_ok, end_unfinished, end_wrong}
use Rattle.em_pqueue.proofs.Endings.{tree_left}
use Rattle.em_pqueue.proofs.Working.{block_full, full_by_err}
use Rattle.em_pqueue.proofs.queue.ExtQueueQueue.end.Goals as goal

pub finish-requires-clause-is : goal.finish-requires-clause-is
finish-requires-clause-is g c =
    let s = seen g.D.Device.state c.args.rig.now in
    let a = seen g.D.Device.state c.give_area.new.self in
    let e = c.give_area.ensures in
    (tree_left s a c.args.self c.requires.is
    (record { sound = e.sound; touches = e.touches; is = e.given })).is

pub returns-in_err-answers-clause-ends : goal.returns-in_err-answers-clause-ends
returns-in_err-answers-clause-ends g c =
    let s = seen g.D.Device.state c.args.rig.now in
    let a = seen g.D.Device.state c.give_area.new.self in
    let t = seen g.D.Device.state c.finish.new.rig in
    let e = c.give_area.ensures in
    (end_unfinished s a c.args.self c.requires.is
    (record { sound = e.sound; touches = e.touches; is = e.given }) t c.in_err-answers.ensures.room
    c.in_err-answers.field-0.0 c.in_err-answers.ensures.finishes c.in_err-answers.ensures.costs
    c.in_err-answers.ensures.over c.from_residual.result
    c.from_residual.ensures.1).ends

pub returns-in_err-discard-clause-ends : goal.returns-in_err-discard-clause-ends
returns-in_err-discard-clause-ends g c =
    let s = seen g.D.Device.state c.args.rig.now in
    let a = seen g.D.Device.state c.give_area.new.self in
    let t = seen g.D.Device.state c.finish.new.rig in
    let u = seen g.D.Device.state c.discard.new.rig in
    let e = c.give_area.ensures in
    let f = c.in_ok-answers.ensures in
    let d = c.in_err-discard.ensures in
    (end_kept s a c.args.self c.requires.is
    (record { sound = e.sound; touches = e.touches; is = e.given }) t f.room u c.in_ok-answers.answers
    f.finishes f.costs d.goes c.in_err-discard.field-0.0 d.frees d.cause
    c.from_residual-in_err-discard.result c.from_residual-in_err-discard.ensures.1).ends

pub returns-in_err-discard-clause-owes : goal.returns-in_err-discard-clause-owes
returns-in_err-discard-clause-owes g c =
    let s = seen g.D.Device.state c.args.rig.now in
    let a = seen g.D.Device.state c.give_area.new.self in
    let t = seen g.D.Device.state c.finish.new.rig in
    let u = seen g.D.Device.state c.discard.new.rig in
    let e = c.give_area.ensures in
    let f = c.in_ok-answers.ensures in
    let d = c.in_err-discard.ensures in
    (end_kept s a c.args.self c.requires.is
    (record { sound = e.sound; touches = e.touches; is = e.given }) t f.room u c.in_ok-answers.answers
    f.finishes f.costs d.goes c.in_err-discard.field-0.0 d.frees d.cause
    c.from_residual-in_err-discard.result c.from_residual-in_err-discard.ensures.1).owes

pub returns-in_err-discard-clause-full : goal.returns-in_err-discard-clause-full
returns-in_err-discard-clause-full g c =
    let s = seen g.D.Device.state c.args.rig.now in
    let a = seen g.D.Device.state c.give_area.new.self in
    let t = seen g.D.Device.state c.finish.new.rig in
    let u = seen g.D.Device.state c.discard.new.rig in
    let e = c.give_area.ensures in
    let f = c.in_ok-answers.ensures in
    let d = c.in_err-discard.ensures in
    (end_kept s a c.args.self c.requires.is
    (record { sound = e.sound; touches = e.touches; is = e.given }) t f.room u c.in_ok-answers.answers
    f.finishes f.costs d.goes c.in_err-discard.field-0.0 d.frees d.cause
    c.from_residual-in_err-discard.result c.from_residual-in_err-discard.ensures.1).full

pub returns-in_err-discard-clause-cause : goal.returns-in_err-discard-clause-cause
returns-in_err-discard-clause-cause g c =
    let s = seen g.D.Device.state c.args.rig.now in
    let a = seen g.D.Device.state c.give_area.new.self in
    let t = seen g.D.Device.state c.finish.new.rig in
    let u = seen g.D.Device.state c.discard.new.rig in
    let e = c.give_area.ensures in
    let f = c.in_ok-answers.ensures in
    let d = c.in_err-discard.ensures in
    (end_kept s a c.args.self c.requires.is
    (record { sound = e.sound; touches = e.touches; is = e.given }) t f.room u c.in_ok-answers.answers
    f.finishes f.costs d.goes c.in_err-discard.field-0.0 d.frees d.cause
    c.from_residual-in_err-discard.result c.from_residual-in_err-discard.ensures.1).cause

pub returns-then-used-blocks-clause-ends : goal.returns-then-used-blocks-clause-ends
returns-then-used-blocks-clause-ends g c =
    let s = seen g.D.Device.state c.args.rig.now in
    let a = seen g.D.Device.state c.give_area.new.self in
    let t = seen g.D.Device.state c.finish.new.rig in
    let u = seen g.D.Device.state c.discard.new.rig in
    let e = c.give_area.ensures in
    let f = c.in_ok-answers.ensures in
    let d = c.in_ok-discard.ensures in
    (end_wrong s a c.args.self c.requires.is
    (record { sound = e.sound; touches = e.touches; is = e.given }) t f.room u c.in_ok-answers.answers
    f.finishes f.costs d.goes c.damaged-damaged.result d.frees c.damaged-damaged.ensures
    (λ z. c.if-used-blocks.true (omega (arith, z, c.used.ensures, c.used-used.ensures)))).ends

pub returns-then-used-blocks-clause-owes : goal.returns-then-used-blocks-clause-owes
returns-then-used-blocks-clause-owes g c =
    let s = seen g.D.Device.state c.args.rig.now in
    let a = seen g.D.Device.state c.give_area.new.self in
    let t = seen g.D.Device.state c.finish.new.rig in
    let u = seen g.D.Device.state c.discard.new.rig in
    let e = c.give_area.ensures in
    let f = c.in_ok-answers.ensures in
    let d = c.in_ok-discard.ensures in
    (end_wrong s a c.args.self c.requires.is
    (record { sound = e.sound; touches = e.touches; is = e.given }) t f.room u c.in_ok-answers.answers
    f.finishes f.costs d.goes c.damaged-damaged.result d.frees c.damaged-damaged.ensures
    (λ z. c.if-used-blocks.true (omega (arith, z, c.used.ensures, c.used-used.ensures)))).owes

pub returns-then-used-blocks-clause-cause : goal.returns-then-used-blocks-clause-cause
returns-then-used-blocks-clause-cause g c =
    let s = seen g.D.Device.state c.args.rig.now in
    let a = seen g.D.Device.state c.give_area.new.self in
    let t = seen g.D.Device.state c.finish.new.rig in
    let u = seen g.D.Device.state c.discard.new.rig in
    let e = c.give_area.ensures in
    let f = c.in_ok-answers.ensures in
    let d = c.in_ok-discard.ensures in
    (end_wrong s a c.args.self c.requires.is
    (record { sound = e.sound; touches = e.touches; is = e.given }) t f.room u c.in_ok-answers.answers
    f.finishes f.costs d.goes c.damaged-damaged.result d.frees c.damaged-damaged.ensures
    (λ z. c.if-used-blocks.true (omega (arith, z, c.used.ensures, c.used-used.ensures)))).cause

pub returns-clause-ends : goal.returns-clause-ends
returns-clause-ends g c =
    let s = seen g.D.Device.state c.args.rig.now in
    let a = seen g.D.Device.state c.give_area.new.self in
    let t = seen g.D.Device.state c.finish.new.rig in
    let u = seen g.D.Device.state c.discard.new.rig in
    let e = c.give_area.ensures in
    let f = c.in_ok-answers.ensures in
    let d = c.in_ok-discard.ensures in
    (end_ok s a c.args.self c.requires.is
    (record { sound = e.sound; touches = e.touches; is = e.given }) t f.room u c.in_ok-answers.answers
    f.finishes f.costs d.goes d.frees
    (omega (arith, c.if-used-blocks.false, c.used.ensures, c.used-used.ensures))).ends

pub returns-clause-ended : goal.returns-clause-ended
returns-clause-ended g c =
    let s = seen g.D.Device.state c.args.rig.now in
    let a = seen g.D.Device.state c.give_area.new.self in
    let t = seen g.D.Device.state c.finish.new.rig in
    let u = seen g.D.Device.state c.discard.new.rig in
    let e = c.give_area.ensures in
    let f = c.in_ok-answers.ensures in
    let d = c.in_ok-discard.ensures in
    (end_ok s a c.args.self c.requires.is
    (record { sound = e.sound; touches = e.touches; is = e.given }) t f.room u c.in_ok-answers.answers
    f.finishes f.costs d.goes d.frees
    (omega (arith, c.if-used-blocks.false, c.used.ensures, c.used-used.ensures))).ended

pub returns-in_err-answers-clause-needs : goal.returns-in_err-answers-clause-needs
returns-in_err-answers-clause-needs g c =
    full_by_err (c.args.self.tree.trunk.longest ≡ 0 → ⊥) c.from_residual.result
    c.in_err-answers.field-0.0 c.from_residual.ensures.1 c.in_err-answers.ensures.full

pub returns-in_err-discard-clause-needs : goal.returns-in_err-discard-clause-needs
returns-in_err-discard-clause-needs g c =
    let t = seen g.D.Device.state c.finish.new.rig in
    let u = seen g.D.Device.state c.discard.new.rig in
    full_by_err (c.args.self.tree.trunk.longest ≡ 0 → ⊥) c.from_residual-in_err-discard.result
    c.in_err-discard.field-0.0 c.from_residual-in_err-discard.ensures.1
    (block_full (c.args.self.tree.trunk.longest ≡ 0 → ⊥) t u c.in_err-discard.field-0.0
    c.in_err-discard.ensures.cause)

pub returns-in_err-answers-clause-unused : goal.returns-in_err-answers-clause-unused
returns-in_err-answers-clause-unused g c =
    let s = seen g.D.Device.state c.args.rig.now in
    let a = seen g.D.Device.state c.give_area.new.self in
    let t = seen g.D.Device.state c.finish.new.rig in
    let e = c.give_area.ensures in
    (end_unfinished s a c.args.self c.requires.is
    (record { sound = e.sound; touches = e.touches; is = e.given }) t c.in_err-answers.ensures.room
    c.in_err-answers.field-0.0 c.in_err-answers.ensures.finishes c.in_err-answers.ensures.costs
    c.in_err-answers.ensures.over c.from_residual.result
    c.from_residual.ensures.1).unused

pub returns-in_err-discard-clause-unused : goal.returns-in_err-discard-clause-unused
returns-in_err-discard-clause-unused g c =
    let s = seen g.D.Device.state c.args.rig.now in
    let a = seen g.D.Device.state c.give_area.new.self in
    let t = seen g.D.Device.state c.finish.new.rig in
    let u = seen g.D.Device.state c.discard.new.rig in
    let e = c.give_area.ensures in
    let f = c.in_ok-answers.ensures in
    let d = c.in_err-discard.ensures in
    (end_kept s a c.args.self c.requires.is
    (record { sound = e.sound; touches = e.touches; is = e.given }) t f.room u c.in_ok-answers.answers
    f.finishes f.costs d.goes c.in_err-discard.field-0.0 d.frees d.cause
    c.from_residual-in_err-discard.result c.from_residual-in_err-discard.ensures.1).unused

pub returns-then-used-blocks-clause-unused : goal.returns-then-used-blocks-clause-unused
returns-then-used-blocks-clause-unused g c =
    let s = seen g.D.Device.state c.args.rig.now in
    let a = seen g.D.Device.state c.give_area.new.self in
    let t = seen g.D.Device.state c.finish.new.rig in
    let u = seen g.D.Device.state c.discard.new.rig in
    let e = c.give_area.ensures in
    let f = c.in_ok-answers.ensures in
    let d = c.in_ok-discard.ensures in
    (end_wrong s a c.args.self c.requires.is
    (record { sound = e.sound; touches = e.touches; is = e.given }) t f.room u c.in_ok-answers.answers
    f.finishes f.costs d.goes c.damaged-damaged.result d.frees c.damaged-damaged.ensures
    (λ z. c.if-used-blocks.true (omega (arith, z, c.used.ensures, c.used-used.ensures)))).unused

pub returns-clause-unused : goal.returns-clause-unused
returns-clause-unused g c =
    let s = seen g.D.Device.state c.args.rig.now in
    let a = seen g.D.Device.state c.give_area.new.self in
    let t = seen g.D.Device.state c.finish.new.rig in
    let u = seen g.D.Device.state c.discard.new.rig in
    let e = c.give_area.ensures in
    let f = c.in_ok-answers.ensures in
    let d = c.in_ok-discard.ensures in
    (end_ok s a c.args.self c.requires.is
    (record { sound = e.sound; touches = e.touches; is = e.given }) t f.room u c.in_ok-answers.answers
    f.finishes f.costs d.goes d.frees
    (omega (arith, c.if-used-blocks.false, c.used.ensures, c.used-used.ensures))).unused

pub returns-in_err-answers-clause-room : goal.returns-in_err-answers-clause-room
returns-in_err-answers-clause-room g c =
    let s = seen g.D.Device.state c.args.rig.now in
    let a = seen g.D.Device.state c.give_area.new.self in
    let t = seen g.D.Device.state c.finish.new.rig in
    let e = c.give_area.ensures in
    (end_unfinished s a c.args.self c.requires.is
    (record { sound = e.sound; touches = e.touches; is = e.given }) t c.in_err-answers.ensures.room
    c.in_err-answers.field-0.0 c.in_err-answers.ensures.finishes c.in_err-answers.ensures.costs
    c.in_err-answers.ensures.over c.from_residual.result
    c.from_residual.ensures.1).room

pub returns-in_err-answers-clause-over : goal.returns-in_err-answers-clause-over
returns-in_err-answers-clause-over g c =
    let s = seen g.D.Device.state c.args.rig.now in
    let a = seen g.D.Device.state c.give_area.new.self in
    let t = seen g.D.Device.state c.finish.new.rig in
    let e = c.give_area.ensures in
    (end_unfinished s a c.args.self c.requires.is
    (record { sound = e.sound; touches = e.touches; is = e.given }) t c.in_err-answers.ensures.room
    c.in_err-answers.field-0.0 c.in_err-answers.ensures.finishes c.in_err-answers.ensures.costs
    c.in_err-answers.ensures.over c.from_residual.result
    c.from_residual.ensures.1).over

pub returns-in_err-discard-clause-room : goal.returns-in_err-discard-clause-room
returns-in_err-discard-clause-room g c =
    let s = seen g.D.Device.state c.args.rig.now in
    let a = seen g.D.Device.state c.give_area.new.self in
    let t = seen g.D.Device.state c.finish.new.rig in
    let u = seen g.D.Device.state c.discard.new.rig in
    let e = c.give_area.ensures in
    let f = c.in_ok-answers.ensures in
    let d = c.in_err-discard.ensures in
    (end_kept s a c.args.self c.requires.is
    (record { sound = e.sound; touches = e.touches; is = e.given }) t f.room u c.in_ok-answers.answers
    f.finishes f.costs d.goes c.in_err-discard.field-0.0 d.frees d.cause
    c.from_residual-in_err-discard.result c.from_residual-in_err-discard.ensures.1).room

pub returns-in_err-discard-clause-over : goal.returns-in_err-discard-clause-over
returns-in_err-discard-clause-over g c =
    let s = seen g.D.Device.state c.args.rig.now in
    let a = seen g.D.Device.state c.give_area.new.self in
    let t = seen g.D.Device.state c.finish.new.rig in
    let u = seen g.D.Device.state c.discard.new.rig in
    let e = c.give_area.ensures in
    let f = c.in_ok-answers.ensures in
    let d = c.in_err-discard.ensures in
    (end_kept s a c.args.self c.requires.is
    (record { sound = e.sound; touches = e.touches; is = e.given }) t f.room u c.in_ok-answers.answers
    f.finishes f.costs d.goes c.in_err-discard.field-0.0 d.frees d.cause
    c.from_residual-in_err-discard.result c.from_residual-in_err-discard.ensures.1).over

pub returns-then-used-blocks-clause-room : goal.returns-then-used-blocks-clause-room
returns-then-used-blocks-clause-room g c =
    let s = seen g.D.Device.state c.args.rig.now in
    let a = seen g.D.Device.state c.give_area.new.self in
    let t = seen g.D.Device.state c.finish.new.rig in
    let u = seen g.D.Device.state c.discard.new.rig in
    let e = c.give_area.ensures in
    let f = c.in_ok-answers.ensures in
    let d = c.in_ok-discard.ensures in
    (end_wrong s a c.args.self c.requires.is
    (record { sound = e.sound; touches = e.touches; is = e.given }) t f.room u c.in_ok-answers.answers
    f.finishes f.costs d.goes c.damaged-damaged.result d.frees c.damaged-damaged.ensures
    (λ z. c.if-used-blocks.true (omega (arith, z, c.used.ensures, c.used-used.ensures)))).room

pub returns-then-used-blocks-clause-over : goal.returns-then-used-blocks-clause-over
returns-then-used-blocks-clause-over g c =
    let s = seen g.D.Device.state c.args.rig.now in
    let a = seen g.D.Device.state c.give_area.new.self in
    let t = seen g.D.Device.state c.finish.new.rig in
    let u = seen g.D.Device.state c.discard.new.rig in
    let e = c.give_area.ensures in
    let f = c.in_ok-answers.ensures in
    let d = c.in_ok-discard.ensures in
    (end_wrong s a c.args.self c.requires.is
    (record { sound = e.sound; touches = e.touches; is = e.given }) t f.room u c.in_ok-answers.answers
    f.finishes f.costs d.goes c.damaged-damaged.result d.frees c.damaged-damaged.ensures
    (λ z. c.if-used-blocks.true (omega (arith, z, c.used.ensures, c.used-used.ensures)))).over

pub returns-clause-room : goal.returns-clause-room
returns-clause-room g c =
    let s = seen g.D.Device.state c.args.rig.now in
    let a = seen g.D.Device.state c.give_area.new.self in
    let t = seen g.D.Device.state c.finish.new.rig in
    let u = seen g.D.Device.state c.discard.new.rig in
    let e = c.give_area.ensures in
    let f = c.in_ok-answers.ensures in
    let d = c.in_ok-discard.ensures in
    (end_ok s a c.args.self c.requires.is
    (record { sound = e.sound; touches = e.touches; is = e.given }) t f.room u c.in_ok-answers.answers
    f.finishes f.costs d.goes d.frees
    (omega (arith, c.if-used-blocks.false, c.used.ensures, c.used-used.ensures))).room

pub returns-in_err-answers-clause-owes : goal.returns-in_err-answers-clause-owes
returns-in_err-answers-clause-owes g c =
    let s = seen g.D.Device.state c.args.rig.now in
    let a = seen g.D.Device.state c.give_area.new.self in
    let t = seen g.D.Device.state c.finish.new.rig in
    let e = c.give_area.ensures in
    (end_unfinished s a c.args.self c.requires.is
    (record { sound = e.sound; touches = e.touches; is = e.given }) t c.in_err-answers.ensures.room
    c.in_err-answers.field-0.0 c.in_err-answers.ensures.finishes c.in_err-answers.ensures.costs
    c.in_err-answers.ensures.over c.from_residual.result
    c.from_residual.ensures.1).owes

pub returns-in_err-answers-clause-full : goal.returns-in_err-answers-clause-full
returns-in_err-answers-clause-full g c =
    let s = seen g.D.Device.state c.args.rig.now in
    let a = seen g.D.Device.state c.give_area.new.self in
    let t = seen g.D.Device.state c.finish.new.rig in
    let e = c.give_area.ensures in
    (end_unfinished s a c.args.self c.requires.is
    (record { sound = e.sound; touches = e.touches; is = e.given }) t c.in_err-answers.ensures.room
    c.in_err-answers.field-0.0 c.in_err-answers.ensures.finishes c.in_err-answers.ensures.costs
    c.in_err-answers.ensures.over c.from_residual.result
    c.from_residual.ensures.1).full
