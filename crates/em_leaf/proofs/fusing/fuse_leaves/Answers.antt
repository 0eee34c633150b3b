use Rattle.std.proofs.Common.{◌+◌, ◌*◌, min, arith}
use Rattle.em_space.specs.Seen.{seen}
use Rattle.em_leaf.proofs.Joined.{can_rewrite, few_moves, fuse_completes, fuse_needs, fuse_parts, fuse_runs, fuses_of, join_stops}
use Rattle.em_leaf.proofs.fusing.fuse_leaves.Goals as goal

pub rewrite_leaf-requires-clause-can : goal.rewrite_leaf-requires-clause-can
rewrite_leaf-requires-clause-can g c =
    let j = c.in_ok-stored.ensures in can_rewrite c.requires.can j.goes j.joins

pub returns-clause-fuses : goal.returns-clause-fuses
returns-clause-fuses g c =
    let j = c.in_ok-stored.ensures in
    fuse_parts (g.S.Settle.key_of c.args.settle.now) (seen g.D.Device.state c.rewrite_leaf.new.rig)
    c.rewrite_leaf.result j.goes j.joins c.rewrite_leaf.ensures.parts

pub returns-clause-runs : goal.returns-clause-runs
returns-clause-runs g c =
    let j = c.in_ok-stored.ensures in
    fuse_runs (seen g.D.Device.state c.rewrite_leaf.new.rig) (2 + 2 * min c.args.high.skip 1)
    c.rewrite_leaf.result j.goes j.moves (omega arith) j.joins c.rewrite_leaf.ensures.runs

pub returns-clause-moves : goal.returns-clause-moves
returns-clause-moves g c =
    few_moves (seen g.D.Device.state c.rewrite_leaf.new.rig) c.rewrite_leaf.result c.requires.sound
    c.requires.can (returns-clause-runs g c)

pub returns-clause-complete : goal.returns-clause-complete
returns-clause-complete g c =
    fuse_completes (seen g.D.Device.state c.args.rig.now) (seen g.D.Device.state c.rewrite_leaf.new.rig)
    c.args.low c.args.high c.rewrite_leaf.result (returns-clause-runs g c)

pub returns-clause-needs : goal.returns-clause-needs
returns-clause-needs g c =
    let j = c.in_ok-stored.ensures in
    fuse_needs (2 + 2 * min c.args.high.skip 1) c.rewrite_leaf.result j.goes j.moves j.joins
    c.rewrite_leaf.ensures.needs

pub returns-in_err-stored-clause-runs : goal.returns-in_err-stored-clause-runs
returns-in_err-stored-clause-runs g c =
    let j = c.in_err-stored.ensures in
    fuses_of (seen g.D.Device.state c.args.rig.now) (seen g.D.Device.state c.join.new.rig) c.args.low
    c.args.high _ _ c.from_residual.ensures.1
    (join_stops (2 + 2 * min c.args.high.skip 1) c.args.low c.args.high _ j.goes j.moves (omega arith) j.cause)

pub returns-in_err-stored-clause-moves : goal.returns-in_err-stored-clause-moves
returns-in_err-stored-clause-moves g c =
    few_moves (seen g.D.Device.state c.join.new.rig) c.from_residual.result c.requires.sound
    c.requires.can (returns-in_err-stored-clause-runs g c)

pub returns-in_err-stored-clause-complete : goal.returns-in_err-stored-clause-complete
returns-in_err-stored-clause-complete g c =
    fuse_completes (seen g.D.Device.state c.args.rig.now) (seen g.D.Device.state c.join.new.rig)
    c.args.low c.args.high c.from_residual.result (returns-in_err-stored-clause-runs g c)
