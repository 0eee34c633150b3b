use Rattle.std.proofs.Common.{◌≡◌, arith}
use Rattle.em_space.specs.Rig.{Cause}
use Rattle.em_space.specs.Seen.{seen}
use Rattle.em_chain.specs.Effects.{OnFull}
use Rattle.em_chain.proofs.Pairs.{pairs_grow, pairs_is}
use Rattle.em_chain.proofs.Parts.{err_of}
use Rattle.em_plain.proofs.Anew.{copies_all, copies_first, copies_left, copies_more, copies_stop}
use Rattle.em_plain.proofs.copying.copy_all.Goals as goal

pub loop-init : goal.loop-init
loop-init g c =
    let n = c.requires.begins.begins.count in
    record { copies = copies_first c.requires.sound c.requires.begins.begins; count = omega arith }

pub copy_one-requires-clause-pair : goal.copy_one-requires-clause-pair
copy_one-requires-clause-pair g c =
    pairs_is c.requires.begins.begins.pair.taking c.loop.invariant.copies.pairs

pub copy_one-requires-clause-some : goal.copy_one-requires-clause-some
copy_one-requires-clause-some g c =
    let l = copies_left c.args.count c.requires.begins c.loop.invariant.copies in
    omega (arith, l, c.loop.invariant.count, c.loop-test.true)

pub copy_one-requires-clause-room : goal.copy_one-requires-clause-room
copy_one-requires-clause-room g c =
    let l = copies_left c.args.count c.requires.begins c.loop.invariant.copies in
    let i = c.loop.invariant.copies in
    pairs_grow c.requires.begins.begins i.pairs
    (omega (arith, l, i.pairs.took.left_is, c.loop.invariant.count, c.loop-test.true))

pub returns-in_err-copy_one-clause-goes : goal.returns-in_err-copy_one-clause-goes
returns-in_err-copy_one-clause-goes g c = (copies_stop c.requires.sound c.requires.begins.begins
    c.loop.invariant.copies c.in_err-copy_one.ensures.done).goes

pub returns-in_err-copy_one-clause-costs : goal.returns-in_err-copy_one-clause-costs
returns-in_err-copy_one-clause-costs g c =
    let k = (copies_stop c.requires.sound c.requires.begins.begins c.loop.invariant.copies
    c.in_err-copy_one.ensures.done).costs in
    record { most = k.most; owes = k.owes }

pub returns-in_err-copy_one-clause-full : goal.returns-in_err-copy_one-clause-full
returns-in_err-copy_one-clause-full g c =
    let s = seen g.D.Device.state c.args.rig.now in
    err_of _ c.in_err-copy_one.field-0.0 (λ x. OnFull x (s.used ≡ s.blocks)) c.from_residual.ensures.1
    (copies_stop c.requires.sound c.requires.begins.begins c.loop.invariant.copies
    c.in_err-copy_one.ensures.done).full

pub returns-in_err-copy_one-clause-cause : goal.returns-in_err-copy_one-clause-cause
returns-in_err-copy_one-clause-cause g c =
    err_of _ c.in_err-copy_one.field-0.0
    (Cause (seen g.D.Device.state c.args.rig.now) (seen g.D.Device.state c.copy_one.new.rig))
    c.from_residual.ensures.1
    (copies_stop c.requires.sound c.requires.begins.begins c.loop.invariant.copies
    c.in_err-copy_one.ensures.done).cause

pub loop-preserved : goal.loop-preserved
loop-preserved g c =
    let i = c.loop.invariant in
    let o = c.in_ok-copy_one.ensures.done in
    let n = o.1.wrote.count_is in
    let m = i.count in
    record {
      copies = copies_more c.requires.sound.shape.block_low c.requires.begins.begins i.copies o.1;
      count = omega (arith, n, m);
    }

pub returns-clause-copied : goal.returns-clause-copied
returns-clause-copied g c =
    let i = c.loop.invariant in
    let l = copies_left c.args.count c.requires.begins i.copies in
    copies_all c.args.count c.requires.begins i.copies (omega (arith, l, i.count, c.loop-test.false))
