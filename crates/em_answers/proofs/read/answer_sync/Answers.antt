use Rattle.std.proofs.Common.{◌≤◌, ◌+◌, ◌++◌, ◌∷◌, ◌∙◌, List, [], arith, refl}
use Rattle.std.specs.Prelude.{IfErr}
use Rattle.em_io.proofs.Sent.{part-of, sent-nothing}
use Rattle.em_model.specs.declared.command.Command.{Command}
use Rattle.em_model.specs.declared.command.Command.TheVariants.{Sync}
use Rattle.em_space.specs.Rig.{RigState}
use Rattle.em_space.specs.Seen.{seen}
use Rattle.em_space.proofs.Steps.{block_cause, cause_after}
use Rattle.aig_text.proofs.Lines.{of_error}
use Rattle.em_ends.specs.declared.stop.Stop.TheVariants.{Em}
use Rattle.em_ends.proofs.Printing.{prints_part}
use Rattle.em_services.specs.Service.{WithinAllowance, list_moves}
use Rattle.em_answers.specs.Reading.{SyncCause}
use Rattle.em_answers.proofs.Stepping.{GaveList, discard_full, frames_over, print_cause, print_full, printed_goes, printed_list, released_goes, released_stays, released_takes, room_over, sync_full, sync_moves}
use Rattle.em_answers.proofs.read.answer_sync.Given as given
use Rattle.em_answers.proofs.read.answer_sync.Goals.{In_ok-records}
use Rattle.em_answers.proofs.read.answer_sync.Goals as goal

-- the service gave up
pub returns-in_err-records-clause-prints : goal.returns-in_err-records-clause-prints
returns-in_err-records-clause-prints g c = λ told before cs has.
    prints_part _ c.from_residual.ensures.0
    (part-of (sent-nothing g.met.W.Sink.rule (g.met.W.Sink.is_state c.args.out.now) _ refl))

pub returns-in_err-records-clause-full : goal.returns-in_err-records-clause-full
returns-in_err-records-clause-full g c =
    sync_full g.S.Service.room _ _ _ _ c.in_err-records.field-0.0 _ c.from_residual.ensures.1
    c.in_err-records.ensures.full c.in_err-records.ensures.owes

-- The service gave a list.
module _ (g : given.Over) (c : In_ok-records g) where
  gave : GaveList g.S.Service c.sync.new.self (g.S.Service.areas c.args.service.now)
      (g.S.Service.blocks c.args.service.now (seen g.D.Device.state c.args.rig.now))
      (g.S.Service.counts c.args.service.now) (seen g.D.Device.state c.args.rig.now)
      (seen g.D.Device.state c.sync.new.rig) c.in_ok-records.records
  gave =
      let r = c.in_ok-records.ensures in
      record {
        goes = r.goes;
        is = r.is;
        out = g.met.S.Service.out c.sync.new.self (seen g.D.Device.state c.sync.new.rig) r.frames;
        gives = r.gives c.requires.kind;
      }

  -- its moves and those of printing and releasing the list
  moved : (t : RigState)
      → t.moves ≤ (seen g.D.Device.state c.sync.new.rig).moves + list_moves c.in_ok-records.records
      → (before cs : List Command) → g.S.Service.Has c.args.service.now (seen g.D.Device.state c.args.rig.now) before cs
      → WithinAllowance g.S.Service.allowance (g.S.Service.size c.args.service.now
      (seen g.D.Device.state c.args.rig.now).pool.shape (before ++ cs ++ Sync ∷ []))
      ((g.S.Service.counts c.args.service.now).syncs + 1) (g.S.Service.counts c.args.service.now).spent
      (seen g.D.Device.state c.args.rig.now) t
  moved t moves before cs has =
      let r = c.in_ok-records.ensures in
      sync_moves g.S.Service.allowance g.S.Service.room _ _ _ _ _ (seen g.D.Device.state c.args.rig.now)
      (seen g.D.Device.state c.sync.new.rig) t c.in_ok-records.records (r.gives c.requires.kind)
      (λ told. r.share c.requires.kind told before cs has) moves

-- its answers weren't printed
pub returns-in_err-print_answers-clause-goes : goal.returns-in_err-print_answers-clause-goes
returns-in_err-print_answers-clause-goes g c =
    printed_goes g.S.Service g.met.S.Service.stays
    (gave g ((goal.at.returns-in_err-print_answers-clause-goes g c).In_ok-records)) c.print_answers.ensures.keeps

pub returns-in_err-print_answers-clause-frames : goal.returns-in_err-print_answers-clause-frames
returns-in_err-print_answers-clause-frames g c =
    let here = gave g ((goal.at.returns-in_err-print_answers-clause-frames g c).In_ok-records) in
    frames_over g.S.Service g.met.S.Service.frames_stay c.sync.new.self [] (seen g.D.Device.state c.sync.new.rig)
    (seen g.D.Device.state c.print_answers.new.rig) c.in_ok-records.ensures.frames here.out
    c.print_answers.ensures.keeps.goes

pub returns-in_err-print_answers-clause-room : goal.returns-in_err-print_answers-clause-room
returns-in_err-print_answers-clause-room g c =
    room_over g.S.Service.room _ _ _ (seen g.D.Device.state c.sync.new.rig)
    (seen g.D.Device.state c.print_answers.new.rig) c.print_answers.ensures.keeps.most c.in_ok-records.ensures.room

pub returns-in_err-print_answers-clause-moves : goal.returns-in_err-print_answers-clause-moves
returns-in_err-print_answers-clause-moves g c =
    let printed = c.print_answers.ensures.moves in
    moved g ((goal.at.returns-in_err-print_answers-clause-moves g c).In_ok-records)
    (seen g.D.Device.state c.print_answers.new.rig) (omega (arith, printed))

pub returns-in_err-print_answers-clause-prints : goal.returns-in_err-print_answers-clause-prints
returns-in_err-print_answers-clause-prints g c = λ told before cs has.
    let r = c.in_ok-records.ensures in
    let printed = c.in_err-print_answers.ensures.prints (r.goes.touches.told ∙ told) in
    prints_part _ c.from_residual-in_err-print_answers.ensures.0
    (rw (c.KIND.ensures, r.items c.requires.kind told before cs has) at printed.part)

pub returns-in_err-print_answers-clause-full : goal.returns-in_err-print_answers-clause-full
returns-in_err-print_answers-clause-full g c =
    print_full g.S.Service.room _ _ _ _ (seen g.D.Device.state c.sync.new.rig) _ _ c.in_err-print_answers.field-0.0 _
    c.from_residual-in_err-print_answers.ensures.1 c.in_err-print_answers.ensures.stops.cause

pub returns-in_err-print_answers-clause-cause : goal.returns-in_err-print_answers-clause-cause
returns-in_err-print_answers-clause-cause g c =
    let s = seen g.D.Device.state c.args.rig.now in
    let p = seen g.D.Device.state c.print_answers.new.rig in
    let faults = g.W.Sink.faults c.args.out.now in
    let after = g.W.Sink.faults c.print_answers.new.out in
    of_error (λ r. IfErr r (SyncCause faults after s p)) _ c.in_err-print_answers.field-0.0
    c.from_residual-in_err-print_answers.ensures.1
    (print_cause _ s (seen g.D.Device.state c.sync.new.rig) p faults after c.in_err-print_answers.field-0.0
    c.in_ok-records.ensures.goes.touches c.in_err-print_answers.ensures.stops.cause)

-- the list is one after it was printed
pub discard-requires-clause-is : goal.discard-requires-clause-is
discard-requires-clause-is g c =
    (printed_list g.S.Service g.met.S.Service.stays
    (gave g ((goal.at.discard-requires-clause-is g c).In_ok-records)) c.print_answers.ensures.keeps).is

-- it wasn't released
pub returns-in_err-discard-clause-goes : goal.returns-in_err-discard-clause-goes
returns-in_err-discard-clause-goes g c =
    released_goes g.S.Service g.met.S.Service.stays
    (gave g ((goal.at.returns-in_err-discard-clause-goes g c).In_ok-records)) c.print_answers.ensures.keeps
    c.discard.ensures.goes

pub returns-in_err-discard-clause-frames : goal.returns-in_err-discard-clause-frames
returns-in_err-discard-clause-frames g c =
    let here = gave g ((goal.at.returns-in_err-discard-clause-frames g c).In_ok-records) in
    g.met.S.Service.frames_of c.sync.new.self (seen g.D.Device.state c.discard.new.rig)
    (released_stays g.S.Service g.met.S.Service.stays here c.print_answers.ensures.keeps c.discard.ensures.goes).is

pub returns-in_err-discard-clause-room : goal.returns-in_err-discard-clause-room
returns-in_err-discard-clause-room g c =
    room_over g.S.Service.room _ _ _ (seen g.D.Device.state c.sync.new.rig)
    (seen g.D.Device.state c.discard.new.rig) (c.discard.ensures.frees.most ∙ c.print_answers.ensures.keeps.most)
    c.in_ok-records.ensures.room

pub returns-in_err-discard-clause-moves : goal.returns-in_err-discard-clause-moves
returns-in_err-discard-clause-moves g c =
    let printed = c.print_answers.ensures.moves in
    let released = c.discard.ensures.frees.moves in
    moved g ((goal.at.returns-in_err-discard-clause-moves g c).In_ok-records) (seen g.D.Device.state c.discard.new.rig)
    (omega (arith, printed, released))

pub returns-in_err-discard-clause-prints : goal.returns-in_err-discard-clause-prints
returns-in_err-discard-clause-prints g c = λ told before cs has.
    let r = c.in_ok-records.ensures in
    let printed = c.in_ok-print_answers.ensures.prints (r.goes.touches.told ∙ told) in
    prints_part _ c.from_residual-in_err-discard.ensures.0
    (rw (c.KIND.ensures, r.items c.requires.kind told before cs has) at printed.part)

pub returns-in_err-discard-clause-full : goal.returns-in_err-discard-clause-full
returns-in_err-discard-clause-full g c =
    discard_full g.S.Service.room _ _ _ _ (seen g.D.Device.state c.print_answers.new.rig) c.in_err-discard.field-0.0 _
    c.from_residual-in_err-discard.ensures.1 c.in_err-discard.ensures.cause

pub returns-in_err-discard-clause-cause : goal.returns-in_err-discard-clause-cause
returns-in_err-discard-clause-cause g c =
    let s = seen g.D.Device.state c.args.rig.now in
    let p = seen g.D.Device.state c.print_answers.new.rig in
    let t = seen g.D.Device.state c.discard.new.rig in
    let fault = c.in_err-discard.field-0.0 in
    let goes = printed_goes g.S.Service g.met.S.Service.stays
    (gave g ((goal.at.returns-in_err-discard-clause-cause g c).In_ok-records)) c.print_answers.ensures.keeps in
    of_error (λ r. IfErr r (SyncCause (g.W.Sink.faults c.args.out.now) (g.W.Sink.faults c.print_answers.new.out) s t))
    _ (Em fault) c.from_residual-in_err-discard.ensures.1
    (cause_after _ s p t fault goes.touches (block_cause p t fault c.in_err-discard.ensures.cause))

-- it was
pub returns-clause-goes : goal.returns-clause-goes
returns-clause-goes g c =
    released_goes g.S.Service g.met.S.Service.stays (gave g ((goal.at.returns-clause-goes g c).In_ok-records))
    c.print_answers.ensures.keeps c.discard.ensures.goes

pub returns-clause-frames : goal.returns-clause-frames
returns-clause-frames g c =
    let here = gave g ((goal.at.returns-clause-frames g c).In_ok-records) in
    g.met.S.Service.frames_of c.sync.new.self (seen g.D.Device.state c.discard.new.rig)
    (released_stays g.S.Service g.met.S.Service.stays here c.print_answers.ensures.keeps c.discard.ensures.goes).is

pub returns-clause-is : goal.returns-clause-is
returns-clause-is g c =
    (released_stays g.S.Service g.met.S.Service.stays (gave g ((goal.at.returns-clause-is g c).In_ok-records))
    c.print_answers.ensures.keeps c.discard.ensures.goes).is

pub returns-clause-has : goal.returns-clause-has
returns-clause-has g c = λ before cs has.
    let stays = released_stays g.S.Service g.met.S.Service.stays
    (gave g ((goal.at.returns-clause-has g c).In_ok-records)) c.print_answers.ensures.keeps c.discard.ensures.goes in
    stays.has _ _ (c.in_ok-records.ensures.has c.requires.kind before cs has)

pub returns-clause-takes : goal.returns-clause-takes
returns-clause-takes g c =
    released_takes g.S.Service g.met.S.Service.stays (gave g ((goal.at.returns-clause-takes g c).In_ok-records))
    c.print_answers.ensures.keeps c.discard.ensures.goes c.print_answers.ensures.moves
    c.in_ok-discard.ensures.frees.moves c.in_ok-discard.ensures.frees.used

pub returns-clause-room : goal.returns-clause-room
returns-clause-room g c =
    room_over g.S.Service.room _ _ _ (seen g.D.Device.state c.sync.new.rig)
    (seen g.D.Device.state c.discard.new.rig) (c.discard.ensures.frees.most ∙ c.print_answers.ensures.keeps.most)
    c.in_ok-records.ensures.room

pub returns-clause-moves : goal.returns-clause-moves
returns-clause-moves g c =
    let printed = c.print_answers.ensures.moves in
    let released = c.discard.ensures.frees.moves in
    moved g ((goal.at.returns-clause-moves g c).In_ok-records) (seen g.D.Device.state c.discard.new.rig)
    (omega (arith, printed, released))

pub returns-clause-prints : goal.returns-clause-prints
returns-clause-prints g c = λ told before cs has.
    let r = c.in_ok-records.ensures in
    let printed = c.in_ok-print_answers.ensures.prints (r.goes.touches.told ∙ told) in
    let same = rw (c.KIND.ensures, r.items c.requires.kind told before cs has) at printed in
    record { all = same.all; part = same.part }
