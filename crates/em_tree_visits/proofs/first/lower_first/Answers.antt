use Rattle.std.proofs.Common.{Bool}
use Rattle.em_space.specs.Seen.{seen}
use Rattle.em_tree_visits.proofs.FirstByLevel.{first_after, first_below, first_cleared, first_not_lowered, first_spot, first_thin}
use Rattle.em_tree_visits.proofs.first.lower_first.Goals as goal

pub lower_entry-requires-clause-above : goal.lower_entry-requires-clause-above
lower_entry-requires-clause-above g c = c.requires.lower.above

pub lower_entry-requires-clause-spot : goal.lower_entry-requires-clause-spot
lower_entry-requires-clause-spot g c =
    let settle = c.args.settle.now in
    (first_spot (g.S.Settle.key_of settle) (g.S.Settle.step_of settle) (g.S.Settle.IsOp settle)
    (g.S.Settle.IsKept settle) c.args.node c.args.at c.args.keys (seen g.D.Device.state c.args.rig.now)
    c.args.trunk.now c.requires.can c.args.level c.requires.lower).0

pub returns-in_err-lower_entry : goal.returns-in_err-lower_entry
returns-in_err-lower_entry g c =
    let settle = c.args.settle.now in
    let key = g.S.Settle.key_of settle in
    let step = g.S.Settle.step_of settle in
    let IsOp = g.S.Settle.IsOp settle in
    let IsKept = g.S.Settle.IsKept settle in
    let s = seen g.D.Device.state c.args.rig.now in
    let v = c.args.trunk.now in
    let first = first_spot key step IsOp IsKept c.args.node c.args.at c.args.keys s v c.requires.can
    c.args.level c.requires.lower in
    record {
      empties = first_not_lowered key step IsOp IsKept c.args.node c.args.at c.args.keys s v c.requires.can
          (seen g.D.Device.state c.lower_entry.new.rig) Bool c.from_residual.result
          c.in_err-lower_entry.field-0.0 c.args.level c.from_residual.ensures.1 c.requires.lower first.0 first.1
          (c.in_err-lower_entry.ensures.lowers first.0);
    }

pub returns-then-not-branch : goal.returns-then-not-branch
returns-then-not-branch g c =
    let settle = c.args.settle.now in
    let key = g.S.Settle.key_of settle in
    let step = g.S.Settle.step_of settle in
    let IsOp = g.S.Settle.IsOp settle in
    let IsKept = g.S.Settle.IsKept settle in
    let s = seen g.D.Device.state c.args.rig.now in
    let v = c.args.trunk.now in
    let full = c.in_ok-lower_entry.field-0 in
    let first = first_spot key step IsOp IsKept c.args.node c.args.at c.args.keys s v c.requires.can
    c.args.level c.requires.lower in
    record {
      empties = first_thin key step IsOp IsKept c.args.node c.args.at c.args.keys s v c.requires.can
          (seen g.D.Device.state c.lower_entry.new.rig) Bool {U = Unit {0}} full tt full c.args.level
          c.if-not-branch.true c.requires.lower first.0 first.1 (c.in_ok-lower_entry.ensures.lowers first.0)
          (λ told. c.in_ok-lower_entry.ensures.tells told first.0);
    }

pub empty_full-requires-clause-can : goal.empty_full-requires-clause-can
empty_full-requires-clause-can g c =
    let settle = c.args.settle.now in
    let key = g.S.Settle.key_of settle in
    let step = g.S.Settle.step_of settle in
    let IsOp = g.S.Settle.IsOp settle in
    let IsKept = g.S.Settle.IsKept settle in
    let s = seen g.D.Device.state c.args.rig.now in
    let v = c.args.trunk.now in
    let spot = (first_spot key step IsOp IsKept c.args.node c.args.at c.args.keys s v c.requires.can
    c.args.level c.requires.lower).0 in
    first_after key step IsOp IsKept c.args.node c.args.at c.args.keys s v c.requires.can
    (seen g.D.Device.state c.lower_entry.new.rig) Bool c.in_ok-lower_entry.field-0 c.args.level
    c.requires.lower.above spot (c.in_ok-lower_entry.ensures.lowers spot)

pub empty_full-requires-clause-clear : goal.empty_full-requires-clause-clear
empty_full-requires-clause-clear g c =
    let settle = c.args.settle.now in
    let key = g.S.Settle.key_of settle in
    let step = g.S.Settle.step_of settle in
    let IsOp = g.S.Settle.IsOp settle in
    let IsKept = g.S.Settle.IsKept settle in
    let s = seen g.D.Device.state c.args.rig.now in
    let v = c.args.trunk.now in
    let first = first_spot key step IsOp IsKept c.args.node c.args.at c.args.keys s v c.requires.can
    c.args.level c.requires.lower in
    first_below key step IsOp IsKept c.args.node c.args.at c.args.keys s v c.requires.can
    (seen g.D.Device.state c.lower_entry.new.rig) Bool c.in_ok-lower_entry.field-0 c.args.level
    c.requires.lower first.0 first.1 (c.in_ok-lower_entry.ensures.lowers first.0)

pub returns : goal.returns
returns g c =
    let settle = c.args.settle.now in
    let key = g.S.Settle.key_of settle in
    let step = g.S.Settle.step_of settle in
    let IsOp = g.S.Settle.IsOp settle in
    let IsKept = g.S.Settle.IsKept settle in
    let s = seen g.D.Device.state c.args.rig.now in
    let v = c.args.trunk.now in
    let full = c.in_ok-lower_entry.field-0 in
    let first = first_spot key step IsOp IsKept c.args.node c.args.at c.args.keys s v c.requires.can
    c.args.level c.requires.lower in
    record {
      empties = first_cleared key step IsOp IsKept c.args.node c.args.at c.args.keys s v c.requires.can
          (seen g.D.Device.state c.lower_entry.new.rig) Bool full full c.args.level
          (seen g.D.Device.state c.empty_full.new.rig) c.empty_full.new.trunk c.empty_full.result
          c.if-not-branch.false c.requires.lower first.0 first.1
          (c.in_ok-lower_entry.ensures.lowers first.0)
          (λ told. c.in_ok-lower_entry.ensures.tells told first.0) c.empty_full.ensures;
    }
