use Rattle.std.proofs.Common.{◌++◌, ◌∷◌, [], sym, refl, arith}
use Rattle.std.proofs.lemmas.List.{length-append}
use Rattle.em_io.specs.Feed.{rest}
use Rattle.em_space.specs.Seen.{seen}
use Rattle.em_space.proofs.Steps.{goes_nothing}
use Rattle.em_lines.proofs.Steps.{reads_then}
use Rattle.em_rows.specs.declared.kinds.RowKind.TheVariants.{Pair}
use Rattle.em_rows.proofs.RowLaws.{rows_begin, rows_end, rows_few, rows_fewer, rows_more, rows_stopped, rows_whole}
use Rattle.em_rows.proofs.WriteLaws.{goes_more, refused_within, stops_em, wrote_more, wrote_none, wrote_within}
use Rattle.em_rows.proofs.listing.write_rows.Goals as goal

pub loop-next-init : goal.loop-next-init
loop-next-init g c =
    let r = c.requires in
    record {
      goes = goes_nothing (seen g.D.Device.state c.args.rig.now) r.sound;
      free = r.free;
      rows = [];
      wrote = wrote_none r.begins;
      number = refl;
      few = omega arith;
      place = omega (arith, r.place);
      reads = record {
        slot = refl;
        leaves = record { text = refl; others = λ other n. refl };
        opened = refl;
        ready = refl;
        shorter = λ t. omega arith;
        lost = λ t. refl;
      };
      later = omega arith;
      given = λ t. rows_begin Pair (rest c.args.feed.now (g.H.Shelf.stand c.args.shelf.now));
    }

pub returns-in-Err-Fault-clause-reads : goal.returns-in-Err-Fault-clause-reads
returns-in-Err-Fault-clause-reads g c =
    reads_then _ _ _ _ _ _ _ c.loop-next.invariant.reads c.in-Err-Fault.ensures.reads.reads

pub returns-in-Err-Fault-clause-stop : goal.returns-in-Err-Fault-clause-stop
returns-in-Err-Fault-clause-stop g c =
    let inv = c.loop-next.invariant in
    rw c.at_line.ensures.is (λ told.
    rows_stopped (inv.given told) (rw c.in-Err-Fault.field-0-is at (c.in-Err-Fault.ensures.fault told)))

pub returns-in-Err-Fault-clause-moves : goal.returns-in-Err-Fault-clause-moves
returns-in-Err-Fault-clause-moves g c = λ told.
    let inv = c.loop-next.invariant in
    wrote_within inv.goes inv.wrote _ (rows_few (inv.given told))

pub returns-in-Err-Read-clause-reads : goal.returns-in-Err-Read-clause-reads
returns-in-Err-Read-clause-reads g c =
    reads_then _ _ _ _ _ _ _ c.loop-next.invariant.reads c.in-Err-Read.ensures.reads.reads

pub returns-in-Err-Read-clause-moves : goal.returns-in-Err-Read-clause-moves
returns-in-Err-Read-clause-moves g c = λ told.
    let inv = c.loop-next.invariant in
    wrote_within inv.goes inv.wrote _ (rows_few (inv.given told))

pub returns-in_default-clause-reads : goal.returns-in_default-clause-reads
returns-in_default-clause-reads g c =
    reads_then _ _ _ _ _ _ _ c.loop-next.invariant.reads c.in-Ok.ensures.reads.reads

pub returns-in_default-clause-writes : goal.returns-in_default-clause-writes
returns-in_default-clause-writes g c =
    let inv = c.loop-next.invariant in
    record {
      pairs = inv.rows;
      told = λ told.
          let ended = rw c.in_default.is at (c.in-Ok.ensures.ended told) in
          sym (rows_end (inv.given told) ended.0);
      few = omega (arith, inv.number, inv.few);
      wrote = inv.wrote;
    }

pub returns-in_default-clause-whole : goal.returns-in_default-clause-whole
returns-in_default-clause-whole g c = λ told.
    let inv = c.loop-next.invariant in
    let ended = rw c.in_default.is at (c.in-Ok.ensures.ended told) in
    record { fault = rows_whole (inv.given told) ended.0; end = ended.1 }

pub returns-in_default-clause-moves : goal.returns-in_default-clause-moves
returns-in_default-clause-moves g c = λ told.
    let inv = c.loop-next.invariant in
    wrote_within inv.goes inv.wrote _ (rows_few (inv.given told))

pub returns-in_err-append-clause-goes : goal.returns-in_err-append-clause-goes
returns-in_err-append-clause-goes g c =
    let inv = c.loop-next.invariant in
    goes_more inv.goes inv.wrote c.append.ensures.goes

pub returns-in_err-append-clause-reads : goal.returns-in_err-append-clause-reads
returns-in_err-append-clause-reads g c =
    reads_then _ _ _ _ _ _ _ c.loop-next.invariant.reads c.in-Ok.ensures.reads.reads

pub returns-in_err-append-clause-stop : goal.returns-in_err-append-clause-stop
returns-in_err-append-clause-stop g c =
    let inv = c.loop-next.invariant in
    stops_em g.H.Shelf.tells Pair (rest c.args.feed.now (g.H.Shelf.stand c.args.shelf.now))
    (g.H.Shelf.faults c.args.shelf.now) (g.H.Shelf.faults c.take_row.new.shelf)
    (seen g.D.Device.state c.args.rig.now) (seen g.D.Device.state c.loop-next.rig)
    (seen g.D.Device.state c.append.new.rig) _ _ c.from_residual.ensures.1 inv.goes.touches
    c.in_err-append.ensures.cause

pub returns-in_err-append-clause-moves : goal.returns-in_err-append-clause-moves
returns-in_err-append-clause-moves g c = λ told.
    let inv = c.loop-next.invariant in
    let row = rw c.in-Some.is at (c.in-Ok.ensures.taken told) in
    refused_within inv.goes inv.wrote (seen g.D.Device.state c.append.new.rig) _
    c.in_err-append.ensures.spends.moves
    (rows_fewer (inv.given told) row)

pub loop-next-preserved : goal.loop-next-preserved
loop-next-preserved g c =
    let inv = c.loop-next.invariant in
    let a = c.in_ok-append.ensures in
    let l = c.in-Ok.ensures in
    let is = rw c.in-Some.is at l.kind in
    let low = rw c.in-Some.is at l.number in
    let record_is = rw inv.number at c.numbered.ensures.is in
    record {
      goes = goes_more inv.goes inv.wrote a.goes;
      free = omega (arith, inv.free, a.goes.frames.free);
      rows = inv.rows ++ c.in-Some.row ∷ [];
      wrote = wrote_more inv.goes inv.wrote c.in-Some.row tt is record_is a.appends a.costs;
      number = omega (arith, inv.number, length-append inv.rows (c.in-Some.row ∷ []));
      few = omega (arith, low);
      place = omega (arith, l.reads.place, inv.place);
      reads = reads_then _ _ _ _ _ _ _ inv.reads l.reads.reads;
      later = omega (arith, inv.later, l.reads.later);
      given = λ told.
          let row = rw c.in-Some.is at (l.taken told) in rows_more (inv.given told) row;
    }
