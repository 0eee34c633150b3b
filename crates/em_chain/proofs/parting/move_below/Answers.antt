use Rattle.std.proofs.Common.{[], ◌∷◌, ◌++◌, arith, refl, subst, ◌∙◌, Bool, Ok}
use Rattle.std.proofs.lemmas.List.{length_push}
use Rattle.em_space.specs.Seen.{seen}
use Rattle.em_chain.specs.Parts.{Steps}
use Rattle.em_chain.proofs.Pairs.{pairs_is, pairs_grow}
use Rattle.em_chain.proofs.Parts.{moved_gave_up, moved_none, moved_then, moved_stands, moves_of, past_end, room_more, room_none}
use Rattle.em_chain.proofs.parting.move_below.Goals as goal

pub loop-init : goal.loop-init
loop-init g c = ([], moved_none c.args.low c.requires.sound c.requires.begins, refl, room_none)

pub move_one-requires-clause-pair : goal.move_one-requires-clause-pair
move_one-requires-clause-pair g c = pairs_is c.requires.begins.pair.taking c.loop.invariant.1.pairs

pub move_one-requires-clause-some : goal.move_one-requires-clause-some
move_one-requires-clause-some g c =
    let n = c.loop.invariant.1.pairs.took.left_is in
    let m = c.loop.invariant.2 in
    let e = c.left-end.ensures in
    let l = c.loop-test.true in
    omega arith

pub move_one-requires-clause-room : goal.move_one-requires-clause-room
move_one-requires-clause-room g c =
    let i = c.loop.invariant in
    let m = i.2 in
    let e = c.left-end.ensures in
    let l = c.loop-test.true in
    pairs_grow c.requires.begins i.1.pairs (omega arith)

pub move_one-requires-clause-sound : goal.move_one-requires-clause-sound
move_one-requires-clause-sound g c = c.loop.invariant.1.pairs.runs.session.sound

pub move_one-requires-clause-free : goal.move_one-requires-clause-free
move_one-requires-clause-free g c = rw c.loop.invariant.1.pairs.runs.frames.free c.requires.free

pub returns-in_err-move_one-clause-done : goal.returns-in_err-move_one-clause-done
returns-in_err-move_one-clause-done g c =
    moves_of (seen g.D.Device.state c.args.rig.now) (seen g.D.Device.state c.move_one.new.rig)
    c.args.low c.args.reader.now c.move_one.new.reader c.args.writer.now c.move_one.new.writer _ _
    c.from_residual.ensures.1
    (moved_gave_up c.loop.invariant.0 c.requires.sound c.requires.begins c.loop.invariant.1
    c.in_err-move_one.ensures.done)

pub returns-then-not-branch-clause-done : goal.returns-then-not-branch-clause-done
returns-then-not-branch-clause-done g c =
    let i = c.loop.invariant in
    let h = subst (λ (b : Bool). Steps (seen g.D.Device.state c.loop.rig)
    (seen g.D.Device.state c.move_one.new.rig) c.args.low c.loop.reader c.move_one.new.reader
    c.loop.writer c.move_one.new.writer (Ok b)) c.if-not-branch.true
    c.in_ok-move_one.ensures.done in
    (i.0, moved_stands i.0 c.requires.sound.shape.block_low c.requires.begins i.1 h, i.3.some)

pub loop-preserved : goal.loop-preserved
loop-preserved g c =
    let i = c.loop.invariant in
    let h = subst (λ (b : Bool). Steps (seen g.D.Device.state c.loop.rig)
    (seen g.D.Device.state c.move_one.new.rig) c.args.low c.loop.reader c.move_one.new.reader
    c.loop.writer c.move_one.new.writer (Ok b)) c.if-not-branch.false
    c.in_ok-move_one.ensures.done in
    let n = length_push i.0 h.0 in
    let m = i.2 in (
      i.0 ++ h.0 ∷ [],
      moved_then i.0 (h.0 ∷ []) c.requires.sound.shape.block_low c.requires.begins i.1 h.1.moved,
      omega arith,
      rw n (room_more i.0 c.requires.begins i.1 i.3 h.1),
    )

pub returns-clause-done : goal.returns-clause-done
returns-clause-done g c =
    let i = c.loop.invariant in
    let n = i.1.pairs.took in
    let l = n.left_is in
    let m = i.2 in
    let t = c.loop-test.false in
    let e = c.left-end.ensures in (
      i.0,
      record {
        moved = i.1;
        past = λ z. past_end _ c.args.low c.loop.reader n.is (n.told ∙ z) (omega arith);
      },
      i.3.some,
    )

pub returns-clause-reader : goal.returns-clause-reader
returns-clause-reader g c = c.loop.invariant.1.pairs.took.is.frame

pub returns-clause-writer : goal.returns-clause-writer
returns-clause-writer g c = c.loop.invariant.1.pairs.wrote.is.frame
