use Rattle.std.proofs.Common.{arith, inl, inr, refl}
use Rattle.em_space.specs.Seen.{seen}
use Rattle.aig_text.specs.Source.{source}
use Rattle.aig_text.proofs.Steadies.{advances_then}
use Rattle.aig_text.proofs.Lines.{of_error}
use Rattle.aig_sweep.specs.QueueState.{queue_state}
use Rattle.aig_wide.specs.Lines.{ReadsRestBy, UnlessEm}
use Rattle.aig_wide.proofs.Bits.{read_on}
use Rattle.aig_wide.proofs.Calls.{calls_none}
use Rattle.aig_wide.proofs.Idles.{if_stopped, on_done}
use Rattle.aig_wide.proofs.LineEnds.{line_stops, none_tiles, rest_ends}
use Rattle.aig_wide.proofs.Tiles.{unless_unread}
use Rattle.aig_wide.proofs.reading.read_rest.Goals as goal

pub returns-then-inputs-eq0-clause-queue : goal.returns-then-inputs-eq0-clause-queue
returns-then-inputs-eq0-clause-queue g c = unless_unread c.take_end.result c.requires.is

pub returns-then-inputs-eq0-clause-advances : goal.returns-then-inputs-eq0-clause-advances
returns-then-inputs-eq0-clause-advances g c =
    (c.take_end.ensures.reads g.H.Shelf.tells (g.H.Shelf.stand c.args.shelf.now) (g.H.Shelf.faults c.args.shelf.now)).advances

pub returns-then-inputs-eq0-clause-line : goal.returns-then-inputs-eq0-clause-line
returns-then-inputs-eq0-clause-line g c =
    let laws = g.met.Q.Queue in
    let s = seen g.D.Device.state c.args.rig.now in
    let x = c.args.queue.now in
    let q = queue_state g.Q.Queue x s in
    let all = none_tiles c.args.inputs c.args.lines c.if-inputs-eq0.true
    (calls_none {q = q} c.requires.can.sound (laws.blocks_most x s c.requires.is) (laws.holds x s c.requires.is)) in
    rest_ends c.args.inputs c.args.lines (source g.H.Shelf c.args.feed.now c.args.shelf.now) c.requires.some all (omega arith)
    (source g.H.Shelf c.take_end.new.feed c.args.shelf.now) c.take_end.result
    (c.take_end.ensures.reads g.H.Shelf.tells (g.H.Shelf.stand c.args.shelf.now) (g.H.Shelf.faults c.args.shelf.now))

pub returns-then-inputs-eq0-clause-idle : goal.returns-then-inputs-eq0-clause-idle
returns-then-inputs-eq0-clause-idle g c = if_stopped c.take_end.result (inl (refl, refl))

pub returns-in_err-read_tiles-clause-queue : goal.returns-in_err-read_tiles-clause-queue
returns-in_err-read_tiles-clause-queue g c =
    let P = g.Q.Queue.IsQueue c.read_tiles.new.queue (seen g.D.Device.state c.read_tiles.new.rig) in
    of_error (λ r. UnlessEm r P) _ _ c.from_residual.ensures.1 c.in_err-read_tiles.ensures.queue

pub returns-in_err-read_tiles-clause-line : goal.returns-in_err-read_tiles-clause-line
returns-in_err-read_tiles-clause-line g c =
    let old = source g.H.Shelf c.args.feed.now c.args.shelf.now in
    let now = source g.H.Shelf c.read_tiles.new.feed c.read_tiles.new.shelf in
    let q = queue_state g.Q.Queue c.args.queue.now (seen g.D.Device.state c.args.rig.now) in
    let p = queue_state g.Q.Queue c.read_tiles.new.queue (seen g.D.Device.state c.read_tiles.new.rig) in
    of_error (ReadsRestBy g.H.Shelf.tells c.args.inputs c.args.lines old now q p) _ _ c.from_residual.ensures.1
    (line_stops c.args.inputs c.args.lines old c.requires.some now q p c.in_err-read_tiles.field-0.0
    c.in_err-read_tiles.ensures.tiles)

pub returns-in_err-read_tiles-clause-idle : goal.returns-in_err-read_tiles-clause-idle
returns-in_err-read_tiles-clause-idle g c = if_stopped c.from_residual.result c.in_err-read_tiles.ensures.idle

pub read_end-requires : goal.read_end-requires
read_end-requires g c = read_on c.requires.ready c.in_ok-read_tiles.ensures.advances

pub returns-clause-queue : goal.returns-clause-queue
returns-clause-queue g c = unless_unread c.read_end.result c.in_ok-read_tiles.ensures.queue

pub returns-clause-advances : goal.returns-clause-advances
returns-clause-advances g c = advances_then c.in_ok-read_tiles.ensures.advances c.read_end.ensures.reads.advances

pub returns-clause-line : goal.returns-clause-line
returns-clause-line g c =
    let k = c.in_ok-read_tiles.ensures in
    rest_ends c.args.inputs c.args.lines (source g.H.Shelf c.args.feed.now c.args.shelf.now) c.requires.some k.tiles k.advances.later
    (source g.H.Shelf c.read_end.new.feed c.read_end.new.shelf) c.read_end.result c.read_end.ensures.reads

pub returns-clause-further : goal.returns-clause-further
returns-clause-further g c =
    let l = c.if-inputs-eq0.false in
    let a = c.in_ok-read_tiles.ensures.further (omega (arith, l)) in
    let b = c.read_end.ensures.reads.advances.steady.forward in
    on_done c.read_end.result (omega (arith, a, b))

pub returns-clause-idle : goal.returns-clause-idle
returns-clause-idle g c =
    let l = c.if-inputs-eq0.false in
    let a = c.in_ok-read_tiles.ensures.further (omega (arith, l)) in
    let b = c.read_end.ensures.reads.advances.steady.forward in
    if_stopped c.read_end.result (inr (omega (arith, a, b)))
