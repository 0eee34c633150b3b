use Rattle.std.proofs.Common.{arith, length, subst}
use Rattle.em_space.specs.Seen.{seen}
use Rattle.em_segment_model.specs.Places.{slab_place}
use Rattle.em_segment_model.specs.Slabs.{Slab}
use Rattle.em_chain.specs.WritersSession.{GroupWrote}
use Rattle.em_segment_parts.specs.Deals.{DealsTo, sent_places}
use Rattle.em_segment_parts.proofs.Sending.{send_slab, skip_slab, slab_found, slab_stands}
use Rattle.em_segment_parts.proofs.dealing.deal_slab.Goals as goal

pub returns-then-slab-eq0-clause-deals : goal.returns-then-slab-eq0-clause-deals
returns-then-slab-eq0-clause-deals g c =
    let e = c.slab_of-slab.ensures in
    let found = slab_found c.args.spans.now c.args.piece c.slab_of-slab.result e.first e.width in
    let s = seen g.D.Device.state c.args.rig.now in
    subst (λ (slab : Slab). GroupWrote s s c.args.group.now c.args.group.now
    (sent_places c.args.piece (slab_place (length c.args.spans.now) slab))) found.is
    (skip_slab c.args.piece (length c.args.spans.now) c.slab_of-slab.result
    (omega (arith, c.if-slab-eq0.true)) c.requires.sound c.requires.is)

pub place_of-place-requires-clause-within : goal.place_of-place-requires-clause-within
place_of-place-requires-clause-within g c =
    let e = c.slab_of-slab.ensures in
    (slab_found c.args.spans.now c.args.piece c.slab_of-slab.result e.first e.width).within

pub overflow_add-spans : goal.overflow_add-spans
overflow_add-spans g c =
    let e = c.slab_of-slab.ensures in
    let found = slab_found c.args.spans.now c.args.piece c.slab_of-slab.result e.first e.width in
    let small = (slab_stands c.args.spans.now c.args.piece c.slab_of-slab.result c.place_of-place.result
    c.requires.members found (λ z. omega (arith, z, c.if-slab-eq0.false)) c.place_of-place.ensures).small in
    omega (arith, small)

pub append-requires-clause-within : goal.append-requires-clause-within
append-requires-clause-within g c =
    let e = c.slab_of-slab.ensures in
    let found = slab_found c.args.spans.now c.args.piece c.slab_of-slab.result e.first e.width in
    (slab_stands c.args.spans.now c.args.piece c.slab_of-slab.result c.place_of-place.result
    c.requires.members found (λ z. omega (arith, z, c.if-slab-eq0.false)) c.place_of-place.ensures).within

pub append-requires-clause-room : goal.append-requires-clause-room
append-requires-clause-room g c =
    let e = c.slab_of-slab.ensures in
    let found = slab_found c.args.spans.now c.args.piece c.slab_of-slab.result e.first e.width in
    (slab_stands c.args.spans.now c.args.piece c.slab_of-slab.result c.place_of-place.result
    c.requires.members found (λ z. omega (arith, z, c.if-slab-eq0.false)) c.place_of-place.ensures).room

pub returns-clause-deals : goal.returns-clause-deals
returns-clause-deals g c =
    let e = c.slab_of-slab.ensures in
    let found = slab_found c.args.spans.now c.args.piece c.slab_of-slab.result e.first e.width in
    let s = seen g.D.Device.state c.args.rig.now in
    let t = seen g.D.Device.state c.append.new.rig in
    subst (λ (slab : Slab). DealsTo c.args.piece (slab_place (length c.args.spans.now) slab) s t
    c.args.group.now c.append.new.self c.append.result) found.is
    (send_slab t c.append.new.self c.args.piece (length c.args.spans.now) c.place_of-place.result
    c.slab_of-slab.result c.append.result (λ z. omega (arith, z, c.if-slab-eq0.false))
    c.place_of-place.ensures c.requires.sound c.requires.is c.append.ensures.appends
    c.append.ensures.stops)
