use Rattle.std.proofs.Common.{◌+◌, ◌++◌, ◌∷◌, List, [], refl, sym, subst, ◌∙◌, arith, append_assoc}
use Rattle.std.proofs.lemmas.List.{append-nil, length-append}
use Rattle.em_io.specs.Feed.{rest}
use Rattle.em_model.specs.declared.command.Command.{Command}
use Rattle.em_space.specs.Seen.{seen}
use Rattle.em_space.proofs.Steps.{cause_after}
use Rattle.em_space.proofs.Within.{within_same, within_then}
use Rattle.em_map.proofs.Areas.{goes_on_nothing, goes_on_within}
use Rattle.em_services.proofs.Areas.{takes_shared}
use Rattle.em_lines.proofs.Steps.{reads_then}
use Rattle.em_ends.specs.declared.stop.Stop.TheVariants.{Em}
use Rattle.em_answers.proofs.Due.{stop_on}
use Rattle.em_rows.specs.Moves.{MovesOwn}
use Rattle.em_rows.specs.Taken.{RowsCause}
use Rattle.em_rows.proofs.RowGiving.{row_other}
use Rattle.em_rows.proofs.RowLaws.{row_fits, rows_begin, rows_end, rows_more, rows_stopped, rows_whole}
use Rattle.em_rows.proofs.RowMoves.{moves_at, moves_call, moves_next, moves_refused, moves_rows}
use Rattle.em_rows.proofs.RowSizes.{rows_joined, size_kept}
use Rattle.em_rows.proofs.giving.give_rows.Goals as goal

pub loop-next-init : goal.loop-next-init
loop-next-init g c =
    let r = c.requires in
    let s = seen g.D.Device.state c.args.rig.now in
    let service = c.args.service.now in
    record {
      goes = goes_on_nothing _ _ s r.sound;
      free = r.free;
      joins = refl;
      bounds = refl;
      sizes = refl;
      is = r.is;
      within = within_same s _;
      given = [];
      has = λ before cs h.
          subst (λ (xs : List Command). g.S.Service.Has service s before xs) (sym (append-nil cs)) h;
      number = omega arith;
      counted = omega arith;
      few = omega arith;
      place = omega (arith, r.place);
      reads = record {
        slot = refl;
        leaves = record { text = refl; others = λ other n. refl };
        opened = refl;
        ready = refl;
        shorter = λ t. omega arith;
        lost = λ t. refl;
      };
      later = omega arith;
      rows = λ t. rows_begin c.args.kind (rest c.args.feed.now (g.H.Shelf.stand c.args.shelf.now));
      since = λ start before cs h m.
          subst (λ (xs : List Command). MovesOwn g.S.Service start (before ++ xs) service s) (sym (append-nil cs)) m;
    }

-- a row is faulty
pub returns-in-Err-Fault-clause-stop : goal.returns-in-Err-Fault-clause-stop
returns-in-Err-Fault-clause-stop g c =
    rw (c.at_line.ensures.is, c.in-Err-Fault.field-0-is) (λ told.
    rows_stopped (c.loop-next.invariant.rows told) (rw c.in-Err-Fault.field-0-is at (c.in-Err-Fault.ensures.fault told)))

pub returns-in-Err-Fault-clause-reads : goal.returns-in-Err-Fault-clause-reads
returns-in-Err-Fault-clause-reads g c =
    reads_then _ _ _ _ _ _ _ c.loop-next.invariant.reads c.in-Err-Fault.ensures.reads.reads

pub returns-in-Err-Fault-clause-moves : goal.returns-in-Err-Fault-clause-moves
returns-in-Err-Fault-clause-moves g c = λ told start before cs h m.
    let inv = c.loop-next.invariant in
    let now = seen g.D.Device.state c.loop-next.rig in
    moves_rows g.S.Service.allowance start (g.S.Service.size c.loop-next.service now.pool.shape
    (before ++ (cs ++ inv.given))) g.S.Service.KIND c.args.kind c.loop-next.number _ _ before cs inv.given now
    g.met.S.Service.rising inv.goes.sound.shape (inv.rows told)
    (g.met.S.Service.size_most c.loop-next.service now.pool.shape (before ++ (cs ++ inv.given)))
    (inv.since start before cs h m).within

-- the shelf failed
pub returns-in-Err-Read-clause-moves : goal.returns-in-Err-Read-clause-moves
returns-in-Err-Read-clause-moves g c = λ told start before cs h m.
    let inv = c.loop-next.invariant in
    let now = seen g.D.Device.state c.loop-next.rig in
    moves_rows g.S.Service.allowance start (g.S.Service.size c.loop-next.service now.pool.shape
    (before ++ (cs ++ inv.given))) g.S.Service.KIND c.args.kind c.loop-next.number _ _ before cs inv.given now
    g.met.S.Service.rising inv.goes.sound.shape (inv.rows told)
    (g.met.S.Service.size_most c.loop-next.service now.pool.shape (before ++ (cs ++ inv.given)))
    (inv.since start before cs h m).within

-- the text's end
pub returns-in_default-clause-reads : goal.returns-in_default-clause-reads
returns-in_default-clause-reads g c =
    reads_then _ _ _ _ _ _ _ c.loop-next.invariant.reads c.in-Ok.ensures.reads.reads

pub returns-in_default-clause-has : goal.returns-in_default-clause-has
returns-in_default-clause-has g c = λ told before cs h.
    let inv = c.loop-next.invariant in
    let ended = rw c.in_default.is at (c.in-Ok.ensures.ended told) in
    subst (λ (xs : List Command). g.S.Service.Has c.loop-next.service (seen g.D.Device.state c.loop-next.rig) before
    (cs ++ xs)) (sym (rows_end (inv.rows told) ended.0)) (inv.has before cs h)

pub returns-in_default-clause-whole : goal.returns-in_default-clause-whole
returns-in_default-clause-whole g c = λ told.
    let ended = rw c.in_default.is at (c.in-Ok.ensures.ended told) in
    record { fault = rows_whole (c.loop-next.invariant.rows told) ended.0; end = ended.1 }

pub returns-in_default-clause-counted : goal.returns-in_default-clause-counted
returns-in_default-clause-counted g c = λ told.
    let inv = c.loop-next.invariant in
    let ended = rw c.in_default.is at (c.in-Ok.ensures.ended told) in
    rw (rows_end (inv.rows told) ended.0) inv.counted

pub returns-in_default-clause-since : goal.returns-in_default-clause-since
returns-in_default-clause-since g c = λ start before cs h m.
    let inv = c.loop-next.invariant in
    record {
      given = inv.given;
      told = λ told.
          let ended = rw c.in_default.is at (c.in-Ok.ensures.ended told) in sym (rows_end (inv.rows told) ended.0);
      has = inv.has before cs h;
      moves = inv.since start before cs h m;
    }

pub returns-in_default-clause-moves : goal.returns-in_default-clause-moves
returns-in_default-clause-moves g c = λ told start before cs h m.
    let inv = c.loop-next.invariant in
    let now = seen g.D.Device.state c.loop-next.rig in
    moves_rows g.S.Service.allowance start (g.S.Service.size c.loop-next.service now.pool.shape
    (before ++ (cs ++ inv.given))) g.S.Service.KIND c.args.kind c.loop-next.number _ _ before cs inv.given now
    g.met.S.Service.rising inv.goes.sound.shape (inv.rows told)
    (g.met.S.Service.size_most c.loop-next.service now.pool.shape (before ++ (cs ++ inv.given)))
    (inv.since start before cs h m).within

-- the service takes a row
pub take-requires-clause-few : goal.take-requires-clause-few
take-requires-clause-few g c =
    let inv = c.loop-next.invariant in
    let m = rw c.in-Some.is at c.in-Ok.ensures.number in
    omega (arith, m, inv.number, inv.counted, inv.bounds, c.requires.few)

pub take-requires-clause-kind : goal.take-requires-clause-kind
take-requires-clause-kind g c =
    row_fits c.args.kind g.S.Service.KIND c.in-Some.command c.requires.fits (rw c.in-Some.is at c.in-Ok.ensures.kind)

pub take-requires-clause-other : goal.take-requires-clause-other
take-requires-clause-other g c =
    row_other c.args.kind c.in-Some.command (rw c.in-Some.is at c.in-Ok.ensures.kind)

-- or gave up
pub returns-in_err-take-clause-goes : goal.returns-in_err-take-clause-goes
returns-in_err-take-clause-goes g c =
    let inv = c.loop-next.invariant in
    goes_on_within _ _ _ _ _ (seen g.D.Device.state c.args.rig.now) (seen g.D.Device.state c.loop-next.rig)
    (seen g.D.Device.state c.take.new.rig) inv.goes inv.within c.in_err-take.ensures.goes

pub returns-in_err-take-clause-reads : goal.returns-in_err-take-clause-reads
returns-in_err-take-clause-reads g c =
    reads_then _ _ _ _ _ _ _ c.loop-next.invariant.reads c.in-Ok.ensures.reads.reads

pub returns-in_err-take-clause-stop : goal.returns-in_err-take-clause-stop
returns-in_err-take-clause-stop g c =
    let s = seen g.D.Device.state c.args.rig.now in
    let u = seen g.D.Device.state c.take.new.rig in
    let fault = c.in_err-take.field-0.0 in
    stop_on (RowsCause g.H.Shelf.tells c.args.kind (rest c.args.feed.now (g.H.Shelf.stand c.args.shelf.now))
    (g.H.Shelf.faults c.args.shelf.now) (g.H.Shelf.faults c.take_row.new.shelf) s u) (Em fault) _
    c.from_residual.ensures.1
    (cause_after _ s (seen g.D.Device.state c.loop-next.rig) u fault c.loop-next.invariant.goes.touches
    c.in_err-take.ensures.cause)

pub returns-in_err-take-clause-moves : goal.returns-in_err-take-clause-moves
returns-in_err-take-clause-moves g c = λ told start before cs h m.
    let inv = c.loop-next.invariant in
    let v = c.in_err-take.ensures in
    let mid = seen g.D.Device.state c.loop-next.rig in
    let last = seen g.D.Device.state c.take.new.rig in
    let row = c.in-Some.command in
    let counts = g.S.Service.counts c.loop-next.service in
    let all = before ++ (cs ++ inv.given) ++ row ∷ [] in
    let size = g.S.Service.size c.loop-next.service mid.pool.shape all in
    moves_refused g.S.Service.allowance start size g.S.Service.KIND c.args.kind (c.loop-next.number + 1) _ _ before cs
    inv.given row last g.met.S.Service.rising v.goes.sound.shape
    (rows_more (inv.rows told) (rw c.in-Some.is at (c.in-Ok.ensures.taken told)))
    (g.met.S.Service.size_most c.loop-next.service mid.pool.shape all)
    (moves_call g.S.Service.allowance start size _ counts mid last (inv.since start before cs h m) v.goes.touches
    (v.moves before (cs ++ inv.given) (inv.has before cs h)))

pub loop-next-preserved : goal.loop-next-preserved
loop-next-preserved g c =
    let inv = c.loop-next.invariant in
    let v = c.in_ok-take.ensures in
    let l = c.in-Ok.ensures in
    let command = c.in-Some.command in
    let first = seen g.D.Device.state c.args.rig.now in
    let mid = seen g.D.Device.state c.loop-next.rig in
    let last = seen g.D.Device.state c.take.new.rig in
    let held = g.S.Service.blocks c.args.service.now first in
    let counts = g.S.Service.counts c.loop-next.service in
    let n = v.takes.n in
    let long = length-append inv.given (command ∷ []) in
    record {
      goes = goes_on_within _ _ _ held _ first mid last inv.goes inv.within v.goes;
      free = takes_shared _ _ mid.pool last.pool inv.free v.goes.frames;
      joins = v.joins ∙ inv.joins;
      bounds = v.bounds ∙ inv.bounds;
      sizes = v.sizes ∙ inv.sizes;
      is = v.is;
      within = within_then first mid held _ _ inv.goes.touches inv.within v.takes.within;
      given = inv.given ++ command ∷ [];
      has = λ before cs h.
          subst (λ (xs : List Command). g.S.Service.Has c.take.new.self last before xs)
          (append_assoc cs inv.given (command ∷ [])) (v.has before (cs ++ inv.given) (inv.has before cs h));
      number = omega (arith, inv.number, long);
      counted = omega (arith, n, inv.counted, long);
      few = let m = rw c.in-Some.is at l.number in omega (arith, m);
      place = omega (arith, l.reads.place, inv.place, long);
      reads = reads_then _ _ _ _ _ _ _ inv.reads l.reads.reads;
      later = omega (arith, inv.later, l.reads.later);
      rows = λ told. rows_more (inv.rows told) (rw c.in-Some.is at (l.taken told));
      since = λ start before cs h m.
          let all = before ++ (cs ++ inv.given) ++ command ∷ [] in
          let more = before ++ (cs ++ (inv.given ++ command ∷ [])) in
          let a = g.S.Service.size c.loop-next.service in
          let b = g.S.Service.size c.take.new.self in
          moves_at g.S.Service.allowance start (a mid.pool.shape all) (b last.pool.shape more)
          (g.S.Service.counts c.take.new.self) last
          (size_kept a b mid.pool.shape last.pool.shape all more v.sizes v.goes.touches.shape
          (rows_joined before cs inv.given (command ∷ [])))
          (moves_next g.S.Service.allowance g.S.Service.room start (a mid.pool.shape all) _ _ counts
          (g.S.Service.counts c.take.new.self) mid last v.goes.touches v.takes
          (v.moves before (cs ++ inv.given) (inv.has before cs h)) (inv.since start before cs h m));
    }
