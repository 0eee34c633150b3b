use Rattle.std.proofs.Common.{arith, ◌++◌}
use Rattle.em_space.specs.Seen.{seen}
use Rattle.em_chain.specs.Chain.{chain_blocks}
use Rattle.aig_sweep.specs.Lists.{sizes}
use Rattle.aig_sweep.proofs.Discards.{discards_err, discards_to, left_all, left_first, left_second, left_stops}
use Rattle.aig_sweep.proofs.lists.discard_lists.Goals as goal

pub returns-in_err-discard : goal.returns-in_err-discard
returns-in_err-discard g c =
    let e = c.in_err-discard.ensures in
    record {
      done = discards_err _ _ c.args.state c.args.given c.args.gates c.from_residual.result _ c.from_residual.ensures.1
          (left_stops (chain_blocks (seen g.D.Device.state c.args.rig.now) c.args.given
          ++ chain_blocks (seen g.D.Device.state c.args.rig.now) c.args.gates) c.args.state
          (sizes c.args.state c.args.given c.args.gates) c.discard.result _ (omega arith) (left_all c.requires.sound c.requires.are)
          c.discard.ensures.goes c.discard.ensures.frees e.cause);
    }

pub discard-requires-2-clause-is : goal.discard-requires-2-clause-is
discard-requires-2-clause-is g c =
    let e = c.in_ok-discard.ensures in
    (left_first c.requires.sound c.requires.are e.goes e.frees).1.0.is

pub returns-in_err-discard-2 : goal.returns-in_err-discard-2
returns-in_err-discard-2 g c =
    let e = c.in_ok-discard.ensures in
    let f = c.in_err-discard-2.ensures in
    let l = left_first c.requires.sound c.requires.are e.goes e.frees in
    record {
      done = discards_err _ _ c.args.state c.args.given c.args.gates c.from_residual-in_err-discard-2.result _
          c.from_residual-in_err-discard-2.ensures.1
          (left_stops (chain_blocks (seen g.D.Device.state c.discard.new.rig) c.args.gates) c.args.given
          (sizes c.args.state c.args.given c.args.gates) c.discard-2.result _ (omega arith) l.0
          c.discard-2.ensures.goes c.discard-2.ensures.frees f.cause);
    }

pub discard-requires-3-clause-is : goal.discard-requires-3-clause-is
discard-requires-3-clause-is g c =
    let e = c.in_ok-discard.ensures in
    let f = c.in_ok-discard-2.ensures in
    (left_second c.requires.sound c.requires.are e.goes e.frees f.goes f.frees).1.is

pub returns : goal.returns
returns g c =
    let e = c.in_ok-discard.ensures in
    let f = c.in_ok-discard-2.ensures in
    let h = c.discard-3.ensures in
    record {
      done = discards_to c.args.state c.args.given c.args.gates c.discard-3.result
          (left_second c.requires.sound c.requires.are e.goes e.frees f.goes f.frees).0
          h.goes h.frees h.cause;
    }
