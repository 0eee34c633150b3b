use Rattle.std.proofs.Common.{Result}
use Rattle.em_space.specs.Seen.{seen}
use Rattle.aig_text.specs.Ascii.{IfEm}
use Rattle.aig_text.specs.declared.stop.AigStop.{AigStop}
use Rattle.aig_text.proofs.Lines.{of_error}
use Rattle.aig_edges.specs.BuildGraph.{StoresSorted}
use Rattle.aig_edges.specs.declared.graph.Graph.{Graph}
use Rattle.aig_edges.proofs.Ended.{builds_graph, cause_left, costs_ended, costs_left, pays_left, pays_unended, stores_ended, up_ended, up_left}
use Rattle.aig_edges.proofs.BuiltRoom.{FullBuilding, builds_in_room, end_full, left_full}
use Rattle.aig_edges.proofs.build.check_and_build.Goals as goal

pub returns-in_err-end-in-Ok-clause-uses_up : goal.returns-in_err-end-in-Ok-clause-uses_up
returns-in_err-end-in-Ok-clause-uses_up g c =
    up_ended g.Q.Queue c.args.queue c.build.new.queue c.args.parts c.requires.holds c.in-Ok.ensures.builds
    c.end.ensures.ends

pub returns-in_err-end-in-Ok-clause-costs : goal.returns-in_err-end-in-Ok-clause-costs
returns-in_err-end-in-Ok-clause-costs g c =
    let u = seen g.D.Device.state c.build.new.rig in
    costs_ended g.Q.Queue c.args.queue c.build.new.queue c.args.parts c.in-Ok.ensures.builds
    c.in-Ok.ensures.frames c.end.ensures.ends g.met.Q.Queue.rising g.met.Q.Queue.rising_room
    (g.met.Q.Queue.fits c.build.new.queue u c.in-Ok.ensures.frames)

pub returns-in_ok-end-in-Ok-clause-uses_up : goal.returns-in_ok-end-in-Ok-clause-uses_up
returns-in_ok-end-in-Ok-clause-uses_up g c =
    up_ended g.Q.Queue c.args.queue c.build.new.queue c.args.parts c.requires.holds c.in-Ok.ensures.builds
    c.end.ensures.ends

pub returns-in_ok-end-in-Ok-clause-costs : goal.returns-in_ok-end-in-Ok-clause-costs
returns-in_ok-end-in-Ok-clause-costs g c =
    let u = seen g.D.Device.state c.build.new.rig in
    costs_ended g.Q.Queue c.args.queue c.build.new.queue c.args.parts c.in-Ok.ensures.builds
    c.in-Ok.ensures.frames c.end.ensures.ends g.met.Q.Queue.rising g.met.Q.Queue.rising_room
    (g.met.Q.Queue.fits c.build.new.queue u c.in-Ok.ensures.frames)

pub returns-in_ok-end-in-Ok-clause-builds : goal.returns-in_ok-end-in-Ok-clause-builds
returns-in_ok-end-in-Ok-clause-builds g c =
    builds_graph g.Q.Queue c.args.queue c.build.new.queue c.args.parts c.requires.holds c.in-Ok.ensures.builds
    c.end.ensures.ends

pub returns-in_ok-end-in-Ok-clause-stores : goal.returns-in_ok-end-in-Ok-clause-stores
returns-in_ok-end-in-Ok-clause-stores g c =
    stores_ended g.Q.Queue c.args.queue c.build.new.queue c.args.parts c.in-Ok.ensures.builds
    c.in_ok-end-in-Ok.ensures.ended c.end.ensures.ends.touches.moves

pub returns-in_err-end-in-Ok-clause-stores : goal.returns-in_err-end-in-Ok-clause-stores
returns-in_err-end-in-Ok-clause-stores g c =
    of_error (λ (z : Result Graph AigStop). StoresSorted (g.Q.Queue.counts c.args.queue) (seen
    g.D.Device.state c.args.rig.now) (seen g.D.Device.state c.end.new.rig) c.args.parts z) _ _
    c.from_residual.ensures.1 (pays_unended g.Q.Queue c.args.queue c.build.new.queue c.args.parts
    c.in-Ok.ensures.builds c.in_err-end-in-Ok.ensures.owes c.end.ensures.ends.touches.moves)

pub returns-in-Err-clause-uses_up : goal.returns-in-Err-clause-uses_up
returns-in-Err-clause-uses_up g c =
    up_left g.Q.Queue c.args.queue c.build.new.queue c.args.parts c.in-Err.ensures.builds.done
    c.abandon.ensures.leaves

pub returns-in-Err-clause-stops : goal.returns-in-Err-clause-stops
returns-in-Err-clause-stops g c =
    c.in-Err.ensures.builds.stops

pub returns-in-Err-clause-costs : goal.returns-in-Err-clause-costs
returns-in-Err-clause-costs g c =
    let u = seen g.D.Device.state c.build.new.rig in
    costs_left g.Q.Queue c.args.queue c.build.new.queue c.args.parts c.in-Err.ensures.builds.done
    c.in-Err.ensures.frames c.abandon.ensures.leaves g.met.Q.Queue.rising (g.met.Q.Queue.spends
    c.build.new.queue u c.in-Err.ensures.frames) g.met.Q.Queue.rising_room (g.met.Q.Queue.fits
    c.build.new.queue u c.in-Err.ensures.frames)

pub returns-in-Err-clause-stores : goal.returns-in-Err-clause-stores
returns-in-Err-clause-stores g c =
    pays_left g.Q.Queue c.args.queue c.build.new.queue c.in-Err.ensures.builds.pays
    c.abandon.ensures.leaves

pub returns-in-Err-clause-cause : goal.returns-in-Err-clause-cause
returns-in-Err-clause-cause g c =
    cause_left (seen g.D.Device.state c.args.rig.now) c.in-Err.stop c.abandon.ensures.leaves
    c.in-Err.ensures.builds.cause

pub abandon-requires-clause-sound : goal.abandon-requires-clause-sound
abandon-requires-clause-sound g c = c.in-Err.ensures.builds.done.sound

pub returns-in_ok-end-in-Ok-clause-room : goal.returns-in_ok-end-in-Ok-clause-room
returns-in_ok-end-in-Ok-clause-room g c =
    let laws = g.met.Q.Queue in
    let x = c.args.queue in
    let u = seen g.D.Device.state c.build.new.rig in
    let since = laws.since_none x _ c.requires.queue c.requires.begins.empty in
    builds_in_room g.Q.Queue x c.args.parts _ c.requires.sound c.requires.parts since
    (costs_ended g.Q.Queue x c.build.new.queue c.args.parts c.in-Ok.ensures.builds c.in-Ok.ensures.frames
    c.end.ensures.ends laws.rising laws.rising_room (laws.fits c.build.new.queue u
    c.in-Ok.ensures.frames)) tt

pub returns-in_err-end-in-Ok-clause-room : goal.returns-in_err-end-in-Ok-clause-room
returns-in_err-end-in-Ok-clause-room g c =
    let laws = g.met.Q.Queue in
    let x = c.args.queue in
    let s = seen g.D.Device.state c.args.rig.now in
    let u = seen g.D.Device.state c.build.new.rig in
    let since = laws.since_none x _ c.requires.queue c.requires.begins.empty in
    builds_in_room g.Q.Queue x c.args.parts _ c.requires.sound c.requires.parts since
    (costs_ended g.Q.Queue x c.build.new.queue c.args.parts c.in-Ok.ensures.builds c.in-Ok.ensures.frames
    c.end.ensures.ends laws.rising laws.rising_room (laws.fits c.build.new.queue u
    c.in-Ok.ensures.frames))
    (of_error (λ (z : Result Graph AigStop). IfEm z (FullBuilding g.Q.Queue x s c.args.parts)) _ _
    c.from_residual.ensures.1 (end_full g.Q.Queue x c.build.new.queue c.in_err-end-in-Ok.field-0.0
    c.in-Ok.ensures.builds laws.rising_room c.in_err-end-in-Ok.ensures.full))

pub returns-in-Err-clause-room : goal.returns-in-Err-clause-room
returns-in-Err-clause-room g c =
    let laws = g.met.Q.Queue in
    let x = c.args.queue in
    let u = seen g.D.Device.state c.build.new.rig in
    let since = laws.since_none x _ c.requires.queue c.requires.begins.empty in
    builds_in_room g.Q.Queue x c.args.parts _ c.requires.sound c.requires.parts since
    (costs_left g.Q.Queue x c.build.new.queue c.args.parts c.in-Err.ensures.builds.done
    c.in-Err.ensures.frames c.abandon.ensures.leaves laws.rising (laws.spends c.build.new.queue u
    c.in-Err.ensures.frames) laws.rising_room (laws.fits c.build.new.queue u c.in-Err.ensures.frames))
    (left_full g.Q.Queue x c.build.new.queue c.in-Err.stop c.in-Err.ensures.builds laws.rising_room)
