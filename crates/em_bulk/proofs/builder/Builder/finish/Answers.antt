use Rattle.std.proofs.Common.{IsTrue}
use Rattle.em_space.specs.Seen.{seen}
use Rattle.em_leaf.proofs.Needs.{err_by}
use Rattle.em_bulk.specs.Building.{StopsBuilding}
use Rattle.em_bulk.specs.Limits.{FullOverBuilderRoom}
use Rattle.em_bulk.proofs.Adopts.{adopts_built, made_tree}
use Rattle.em_bulk.proofs.Limits.{finish_share, finish_within, unfinished_over, unfinished_share, unfinished_within}
use Rattle.em_bulk.proofs.builder.Builder.finish.Goals as goal

pub returns-in_err-root-clause-stops : goal.returns-in_err-root-clause-stops
returns-in_err-root-clause-stops g c =
    err_by (StopsBuilding (seen g.D.Device.state c.args.rig.now) (seen g.D.Device.state c.build_counted.new.rig) c.args.self)
    c.from_residual.result _ c.from_residual.ensures.1 c.in_err-root.ensures

pub returns-in_err-root-clause-share : goal.returns-in_err-root-clause-share
returns-in_err-root-clause-share g c = unfinished_share c.requires.sound c.requires.is c.in_err-root.ensures

pub returns-in_err-root-clause-room : goal.returns-in_err-root-clause-room
returns-in_err-root-clause-room g c = unfinished_within c.requires.sound c.requires.is c.in_err-root.ensures

pub returns-in_err-root-clause-over : goal.returns-in_err-root-clause-over
returns-in_err-root-clause-over g c =
    let s = seen g.D.Device.state c.args.rig.now in
    err_by (λ fault. IsTrue s.device.told → FullOverBuilderRoom c.args.self.count s c.args.self fault)
    c.from_residual.result _ c.from_residual.ensures.1
    (unfinished_over c.requires.sound c.requires.is c.in_err-root.ensures)

pub adopt-requires-clause-can : goal.adopt-requires-clause-can
adopt-requires-clause-can g c =
    let settle = c.args.settle in
    adopts_built (g.S.Settle.key_of settle) (g.S.Settle.IsKept settle) c.requires.is c.in_ok-root.ensures c.requires.takes

pub returns-clause-makes : goal.returns-clause-makes
returns-clause-makes g c =
    let settle = c.args.settle in
    made_tree (g.S.Settle.key_of settle) (g.S.Settle.IsOp settle) (g.S.Settle.IsKept settle)
    {t = seen g.D.Device.state c.adopt.new.rig} c.in_ok-root.ensures c.adopt.ensures.adopts

pub returns-clause-share : goal.returns-clause-share
returns-clause-share g c =
    finish_share c.requires.sound c.requires.is c.in_ok-root.ensures c.adopt.ensures.adopts.unmoved

pub returns-clause-room : goal.returns-clause-room
returns-clause-room g c =
    finish_within c.requires.sound c.requires.is c.in_ok-root.ensures c.adopt.ensures.adopts.unmoved
