use Rattle.std.proofs.Common.{[], ◌∷◌, Result, arith}
use Rattle.em_space.specs.Seen.{seen}
use Rattle.em_weave.specs.declared.side.Side.TheVariants.{Left, Right}
use Rattle.aig_text.specs.declared.stop.AigStop.{AigStop}
use Rattle.aig_text.proofs.Lines.{of_error}
use Rattle.aig_edges.specs.Comparison.{StepsTo, edges_due}
use Rattle.aig_edges.proofs.Advances.{stops_weave}
use Rattle.aig_edges.proofs.Stepped.{given_side, given_none, lists_woven, room_left, step_left, step_none, step_right, stop_left}
use Rattle.aig_edges.proofs.comparing.compare_next.Goals as goal

pub returns-in_err-def-clause-steps : goal.returns-in_err-def-clause-steps
returns-in_err-def-clause-steps g c =
    let i = c.requires.can in
    let k = c.args.lists.now in
    of_error (λ (r : Result (Unit {0}) AigStop). StepsTo c.args.count
    (seen g.D.Device.state c.args.rig.now) (seen g.D.Device.state c.next.new.rig) k
    (record {
      weave = c.next.new.self;
      sources = k.sources;
      edges = k.edges;
      last = k.last;
    }) r) _ _ c.from_residual.ensures.1
    (stops_weave c.args.count (edges_due k) i.are i.most (omega arith) c.in_err-def.ensures.stops)

pub keep_def-requires-clause-are : goal.keep_def-requires-clause-are
keep_def-requires-clause-are g c =
    lists_woven (Left c.in-Some-Left.def ∷ []) c.requires.can.are
    (given_side (Left c.in-Some-Left.def) c.in-Some-Left.is c.in-Some-Left.field-0-is
    c.in_ok-def.ensures.weaves)

pub keep_def-requires-clause-left : goal.keep_def-requires-clause-left
keep_def-requires-clause-left g c =
    room_left c.in-Some-Left.def c.requires.can
    (given_side (Left c.in-Some-Left.def) c.in-Some-Left.is c.in-Some-Left.field-0-is
    c.in_ok-def.ensures.weaves)

pub returns-in_err-keep_def-in-Some-Left-clause-steps :
    goal.returns-in_err-keep_def-in-Some-Left-clause-steps
returns-in_err-keep_def-in-Some-Left-clause-steps g c =
    of_error (λ (r : Result (Unit {0}) AigStop). StepsTo c.args.count
    (seen g.D.Device.state c.args.rig.now) (seen g.D.Device.state c.keep_def.new.rig)
    c.args.lists.now c.keep_def.new.lists r) _ _
    c.from_residual-in_err-keep_def-in-Some-Left.ensures.1
    (stop_left c.in-Some-Left.def c.requires.can
    (given_side (Left c.in-Some-Left.def) c.in-Some-Left.is c.in-Some-Left.field-0-is
    c.in_ok-def.ensures.weaves) c.in_err-keep_def-in-Some-Left.ensures.keeps)

pub meet_edge-requires : goal.meet_edge-requires
meet_edge-requires g c = record {
  are = lists_woven (Right c.in-Some-Right.edge ∷ []) c.requires.can.are
      (given_side (Right c.in-Some-Right.edge) c.in-Some-Right.is c.in-Some-Right.field-0-is
      c.in_ok-def.ensures.weaves);
}

pub returns-in_ok-keep_def-in-Some-Left-clause-steps :
    goal.returns-in_ok-keep_def-in-Some-Left-clause-steps
returns-in_ok-keep_def-in-Some-Left-clause-steps g c =
    step_left c.in-Some-Left.def c.requires.can
    (given_side (Left c.in-Some-Left.def) c.in-Some-Left.is c.in-Some-Left.field-0-is
    c.in_ok-def.ensures.weaves) c.in_ok-keep_def-in-Some-Left.ensures.keeps

pub returns-in-Some-Right-clause-steps : goal.returns-in-Some-Right-clause-steps
returns-in-Some-Right-clause-steps g c =
    step_right (seen g.D.Device.state c.meet_edge.new.rig) c.meet_edge.new.lists
    c.in-Some-Right.edge c.meet_edge.result c.requires.can
    (given_side (Right c.in-Some-Right.edge) c.in-Some-Right.is c.in-Some-Right.field-0-is
    c.in_ok-def.ensures.weaves) c.meet_edge.ensures.meets

pub returns-in-None-clause-steps : goal.returns-in-None-clause-steps
returns-in-None-clause-steps g c =
    let n = c.in-None.is in
    let w = c.in_ok-def.was in
    step_none c.requires.can (given_none n c.in_ok-def.ensures.weaves)
    (c.in_ok-def.ensures.end cc)
