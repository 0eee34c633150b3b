use Rattle.std.proofs.Common.{◌≡◌, arith, ap, Ok}
use Rattle.em_space.specs.Rig.{Cause}
use Rattle.em_space.specs.Seen.{seen}
use Rattle.em_chain.specs.Effects.{OnFull}
use Rattle.em_chain.proofs.Pairs.{pairs_is, pairs_next, pairs_grow}
use Rattle.em_chain.proofs.Parts.{err_of}
use Rattle.em_plain.proofs.Least.{pass_first, pass_more, pass_stops, passed_none, passed_some}
use Rattle.em_plain.proofs.scan_queue.pass_all_but_least.Goals as goal

pub returns-in_default-clause-passed : goal.returns-in_default-clause-passed
returns-in_default-clause-passed g c = passed_none _ _ _ _ _ c.requires.sound
    c.requires.begins.begins (c.in_ok-least.ensures.end (ap Ok c.in_default.is))

pub loop-init : goal.loop-init
loop-init g c =
    let b = c.requires.begins.begins in
    let o = c.in_ok-least.ensures in
    let a = rw c.in-Some.is at o.reads in
    let n = b.count in
    record {
      passes = pass_first b (pairs_next b.pair c.next.ensures.goes a (o.spends b.pair.taking));
      count = omega arith;
    }

pub pass_one-requires-clause-pair : goal.pass_one-requires-clause-pair
pass_one-requires-clause-pair g c =
    pairs_is c.requires.begins.begins.pair.taking c.loop.invariant.passes.pairs

pub pass_one-requires-clause-room : goal.pass_one-requires-clause-room
pass_one-requires-clause-room g c =
    let i = c.loop.invariant.passes in
    let l = i.pairs.took.left_is in
    let h = i.held in
    pairs_grow c.requires.begins.begins i.pairs (omega arith)

pub returns-in_err-least-2-clause-goes : goal.returns-in_err-least-2-clause-goes
returns-in_err-least-2-clause-goes g c = (pass_stops c.requires.sound c.requires.begins.begins
    c.loop.invariant.passes c.in_err-least-2.ensures.done).goes

pub returns-in_err-least-2-clause-costs : goal.returns-in_err-least-2-clause-costs
returns-in_err-least-2-clause-costs g c =
    let k = (pass_stops c.requires.sound c.requires.begins.begins c.loop.invariant.passes
    c.in_err-least-2.ensures.done).costs in
    record { most = k.most; owes = k.owes }

pub returns-in_err-least-2-clause-full : goal.returns-in_err-least-2-clause-full
returns-in_err-least-2-clause-full g c =
    let s = seen g.D.Device.state c.args.rig.now in
    err_of _ c.in_err-least-2.field-0.0 (λ x. OnFull x (s.used ≡ s.blocks))
    c.from_residual-in_err-least-2.ensures.1
    (pass_stops c.requires.sound c.requires.begins.begins c.loop.invariant.passes
    c.in_err-least-2.ensures.done).full

pub returns-in_err-least-2-clause-cause : goal.returns-in_err-least-2-clause-cause
returns-in_err-least-2-clause-cause g c =
    err_of _ c.in_err-least-2.field-0.0
    (Cause (seen g.D.Device.state c.args.rig.now) (seen g.D.Device.state c.pass_one.new.rig))
    c.from_residual-in_err-least-2.ensures.1
    (pass_stops c.requires.sound c.requires.begins.begins c.loop.invariant.passes
    c.in_err-least-2.ensures.done).cause

pub loop-preserved : goal.loop-preserved
loop-preserved g c =
    let i = c.loop.invariant in
    let o = c.in_ok-least-2.ensures.done in
    let n = o.2.wrote.count_is in
    let m = i.count in
    record {
      passes = pass_more c.requires.sound.shape.block_low c.requires.begins.begins i.passes o;
      count = omega arith;
    }

pub returns-clause-passed : goal.returns-clause-passed
returns-clause-passed g c =
    let i = c.loop.invariant.passes in
    let n = c.requires.begins in
    let a = n.count_is in
    let b = n.begins.count in
    let l = i.pairs.took.left_is in
    let k = i.pairs.wrote.count_is in
    let h = i.held in
    let m = c.loop.invariant.count in
    let t = c.loop-test.false in
    passed_some i (omega arith)
