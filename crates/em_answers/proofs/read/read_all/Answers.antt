use Rattle.std.proofs.Common.{◌≡◌, ◌+◌, ◌++◌, ◌∷◌, ◌≤◌, List, [], ap, sym, subst, ◌∙◌, refl, arith, append_assoc, length, length-append, IsTrue}
use Rattle.std.proofs.lemmas.List.{append-nil}
use Rattle.em_io.specs.Feed.{rest}
use Rattle.em_model.specs.Stab.{stab_answers}
use Rattle.em_model.specs.Sync.{since_sync, up_to_sync}
use Rattle.em_model.specs.declared.command.Command.{Command}
use Rattle.em_model.proofs.SyncLaws.{since_none, up_to_none}
use Rattle.em_space.specs.Seen.{seen}
use Rattle.em_space.proofs.Within.{within_same, within_then}
use Rattle.em_lines.specs.CommandLine.{parsed_from}
use Rattle.em_lines.specs.LineTaken.{LineTaken}
use Rattle.em_lines.specs.Lines.{lines_of}
use Rattle.em_lines.specs.RunSize.{run_size}
use Rattle.em_lines.proofs.ReadLaws.{counted_left, counted_more, counted_none, counted_read, good_more}
use Rattle.em_lines.proofs.Steps.{reads_then}
use Rattle.em_services.specs.Service.{syncs_for}
use Rattle.em_map.proofs.Areas.{goes_on_nothing, goes_on_within}
use Rattle.em_services.proofs.Areas.{syncs_shared, within_equal}
use Rattle.em_answers.proofs.Base.{base_text, puts_unsynced}
use Rattle.em_answers.proofs.BaseMoves.{command_over, given_over}
use Rattle.em_answers.proofs.Listing.{alone_next, stabs_next, taken_most}
use Rattle.em_answers.proofs.ReadingStops.{stops_command}
use Rattle.em_answers.proofs.Rooms.{alone_keeps, call_keeps}
use Rattle.em_answers.proofs.Sizes.{equal_size}
use Rattle.em_answers.proofs.Synced.{given_all, given_faulty, given_stopped, given_unread, printed_next, printed_start}
use Rattle.em_answers.specs.Answer.{synced_text}
use Rattle.em_answers.specs.Reading.{StandsAlone}
use Rattle.em_answers.proofs.read.read_all.Goals as goal

-- the commands that were given, of all
whole : (base taken good more : List Command) → good ≡ taken ++ more
    → base ++ good ≡ (base ++ taken) ++ more
whole base taken good more e = ap (λ (cs : List Command). base ++ cs) e ∙ sym (append_assoc base taken more)

pub loop-next-init : goal.loop-next-init
loop-next-init g c =
    let r = c.requires.1.1.1.1.1 in
    let s = seen g.D.Device.state c.args.rig.now in
    let service = c.args.service.now in
    let text = rest c.args.feed.now (g.H.Shelf.stand c.args.shelf.now) in
    let kind = g.S.Service.KIND in
    let n = g.met.S.Service.n_is service s [] g.base r.1.1.1.0 in
    let nil = append-nil g.base in
    let none = puts_unsynced g.base r.1.1.0 in
    record {
      goes = goes_on_nothing (g.S.Service.areas service) _ s r.0;
      free = r.1.1.1.1.1.1.0;
      joins = refl;
      sizes = refl;
      is = r.1.0;
      within = within_same s _;
      bounds = refl;
      taken = [];
      alone = subst (λ (cs : List Command). StandsAlone g.S.Service.allowance g.S.Service.room
          (g.S.Service.size service s.pool.shape cs) (g.S.Service.blocks service s) (g.S.Service.counts service) s) (sym nil) r.1.1.1.1.1.0;
      has = subst (λ (cs : List Command). g.S.Service.Has service s (up_to_sync cs) (since_sync cs)) (sym nil)
          (subst (λ (cs : List Command). g.S.Service.Has service s cs (since_sync g.base)) (sym (up_to_none g.base none))
          (subst (λ (cs : List Command). g.S.Service.Has service s [] cs) (sym (since_none g.base none)) r.1.1.1.0));
      printed = λ d. printed_start (g.S.Service.combiner c.args.service.now) g.met.W.Sink.rule
          (g.met.W.Sink.is_state c.args.out.now) kind (g.base ++ [])
          (ap (synced_text (g.S.Service.combiner c.args.service.now) kind) nil
          ∙ base_text (g.S.Service.combiner c.args.service.now) kind g.base r.1.1.0);
      write_later = omega arith;
      n = omega (arith, n);
      number = omega arith;
      few = omega arith;
      place = omega (arith, r.1.1.1.1.1.1.1.1);
      reads = record {
        slot = refl;
        leaves = record { text = refl; others = λ other n. refl };
        opened = refl;
        ready = refl;
        shorter = λ t. omega arith;
        lost = λ t. refl;
      };
      later = omega arith;
      stabs_most = omega arith;
      good = λ t. refl;
      fault = λ t. refl;
      counted = λ t. counted_none kind text;
      stabs = λ t. omega arith;
    }

pub returns-in-Err-Fault-clause-reads : goal.returns-in-Err-Fault-clause-reads
returns-in-Err-Fault-clause-reads g c =
    reads_then _ _ _ _ _ _ _ c.loop-next.invariant.reads c.in-Err-Fault.ensures.reads.reads

pub returns-in-Err-Fault-clause-synced : goal.returns-in-Err-Fault-clause-synced
returns-in-Err-Fault-clause-synced g c = λ told d.
    let inv = c.loop-next.invariant in
    let faulty = rw c.in-Err-Fault.field-0-is at (c.in-Err-Fault.ensures.fault told) in
    given_faulty (g.S.Service.combiner c.args.service.now) g.met.W.Sink.rule (g.met.W.Sink.is_state c.args.out.now) g.S.Service.KIND (g.base ++ inv.taken)
    (inv.printed d) _ _ (whole g.base inv.taken _ _ (inv.good told)) c.at_line.result
    (ap (λ r. r.good) (rw c.KIND.ensures at (rw inv.number at faulty)))

pub returns-in-Err-Fault-clause-moves : goal.returns-in-Err-Fault-clause-moves
returns-in-Err-Fault-clause-moves g c = λ told.
    let inv = c.loop-next.invariant in
    let laws = g.met.S.Service in
    let service = c.loop-next.service in
    let mid = seen g.D.Device.state c.loop-next.rig in
    given_over g.base c.requires.1.1.1.1.1.1.1.0 g.S.Service.KIND g.S.Service.allowance g.S.Service.room
    (g.S.Service.size c.args.service.now) laws.rising (laws.size_rises c.args.service.now) _ _ _ _
    (g.S.Service.counts service) (seen g.D.Device.state c.args.rig.now) mid inv.taken _ inv.goes inv.alone (inv.good told)
    (laws.syncs_few service mid _ _ inv.has)
    (counted_read g.S.Service.KIND inv.reads c.in-Err-Fault.ensures.reads.reads told (inv.counted told))

pub returns-in-Err-Fault-clause-most : goal.returns-in-Err-Fault-clause-most
returns-in-Err-Fault-clause-most g c =
    let inv = c.loop-next.invariant in
    alone_keeps (length g.base) g.S.Service.allowance g.S.Service.room g.H.Shelf.tells g.S.Service.KIND _ _ _
    (g.S.Service.counts c.loop-next.service) (seen g.D.Device.state c.loop-next.rig) g.met.S.Service.rising_room
    inv.goes.sound.shape inv.alone
    (λ told. let few = counted_read g.S.Service.KIND inv.reads c.in-Err-Fault.ensures.reads.reads told (inv.counted told) in
    omega (arith, few, inv.n))

pub returns-in-Err-Read-clause-synced : goal.returns-in-Err-Read-clause-synced
returns-in-Err-Read-clause-synced g c = λ told d.
    let inv = c.loop-next.invariant in
    given_unread (g.S.Service.combiner c.args.service.now) g.met.W.Sink.rule (g.met.W.Sink.is_state c.args.out.now) g.S.Service.KIND (g.base ++ inv.taken)
    (inv.printed d) _ _ (whole g.base inv.taken _ _ (inv.good told))

pub returns-in-Err-Read-clause-moves : goal.returns-in-Err-Read-clause-moves
returns-in-Err-Read-clause-moves g c = λ told.
    let inv = c.loop-next.invariant in
    let laws = g.met.S.Service in
    let service = c.loop-next.service in
    let mid = seen g.D.Device.state c.loop-next.rig in
    given_over g.base c.requires.1.1.1.1.1.1.1.0 g.S.Service.KIND g.S.Service.allowance g.S.Service.room
    (g.S.Service.size c.args.service.now) laws.rising (laws.size_rises c.args.service.now) _ _ _ _
    (g.S.Service.counts service) (seen g.D.Device.state c.args.rig.now) mid inv.taken _ inv.goes inv.alone (inv.good told)
    (laws.syncs_few service mid _ _ inv.has)
    (counted_read g.S.Service.KIND inv.reads c.in-Err-Read.ensures.reads.reads told (inv.counted told))

pub returns-in-Err-Read-clause-most : goal.returns-in-Err-Read-clause-most
returns-in-Err-Read-clause-most g c =
    let inv = c.loop-next.invariant in
    alone_keeps (length g.base) g.S.Service.allowance g.S.Service.room g.H.Shelf.tells g.S.Service.KIND _ _ _
    (g.S.Service.counts c.loop-next.service) (seen g.D.Device.state c.loop-next.rig) g.met.S.Service.rising_room
    inv.goes.sound.shape inv.alone
    (λ told. let few = counted_read g.S.Service.KIND inv.reads c.in-Err-Read.ensures.reads.reads told (inv.counted told) in
    omega (arith, few, inv.n))

pub returns-in_default-clause-reads : goal.returns-in_default-clause-reads
returns-in_default-clause-reads g c =
    reads_then _ _ _ _ _ _ _ c.loop-next.invariant.reads c.in-Ok.ensures.reads.reads

pub returns-in_default-clause-alone : goal.returns-in_default-clause-alone
returns-in_default-clause-alone g c =
    let inv = c.loop-next.invariant in
    record {
      taken = g.base ++ inv.taken;
      are_all = λ told.
          let ended = rw c.in_default.is at (c.in-Ok.ensures.ended told) in
          let none = ap (λ s. (parsed_from g.S.Service.KIND (length inv.taken + 1)
          (lines_of s)).good) ended.0 in
          ap (λ (cs : List Command). g.base ++ cs) (sym (inv.good told ∙ ap (λ r. inv.taken ++ r) none ∙ append-nil inv.taken));
      has = inv.has;
      alone = inv.alone;
    }

pub returns-in_default-clause-taken : goal.returns-in_default-clause-taken
returns-in_default-clause-taken g c = λ told.
    let inv = c.loop-next.invariant in
    let few = counted_read g.S.Service.KIND inv.reads c.in-Ok.ensures.reads.reads told (inv.counted told) in
    omega (arith, few, inv.n)

pub returns-in_default-clause-has : goal.returns-in_default-clause-has
returns-in_default-clause-has g c = λ told.
    let inv = c.loop-next.invariant in
    let kind = g.S.Service.KIND in
    let service = c.loop-next.service in
    let mid = seen g.D.Device.state c.loop-next.rig in
    let ended = rw c.in_default.is at (c.in-Ok.ensures.ended told) in
    let none = ap (λ s. (parsed_from kind (length inv.taken + 1) (lines_of s)).good) ended.0 in
    let all = inv.good told ∙ ap (λ r. inv.taken ++ r) none ∙ append-nil inv.taken in
    subst (λ (cs : List Command). g.S.Service.Has service mid (up_to_sync (g.base ++ cs)) (since_sync (g.base ++ cs))) (sym all)
    inv.has

pub returns-in_default-clause-synced : goal.returns-in_default-clause-synced
returns-in_default-clause-synced g c = λ told d.
    let inv = c.loop-next.invariant in
    let kind = g.S.Service.KIND in
    let ended = rw c.in_default.is at (c.in-Ok.ensures.ended told) in
    given_all (g.S.Service.combiner c.args.service.now) g.met.W.Sink.rule (g.met.W.Sink.is_state c.args.out.now) kind (g.base ++ inv.taken) (inv.printed d) _ _
    (whole g.base inv.taken _ _ (inv.good told)) c.loop-next.stabs
    (ap (λ s. (parsed_from kind (length inv.taken + 1) (lines_of s)).good) ended.0)

pub returns-in_default-clause-moves : goal.returns-in_default-clause-moves
returns-in_default-clause-moves g c = λ told.
    let inv = c.loop-next.invariant in
    let laws = g.met.S.Service in
    let service = c.loop-next.service in
    let mid = seen g.D.Device.state c.loop-next.rig in
    given_over g.base c.requires.1.1.1.1.1.1.1.0 g.S.Service.KIND g.S.Service.allowance g.S.Service.room
    (g.S.Service.size c.args.service.now) laws.rising (laws.size_rises c.args.service.now) _ _ _ _
    (g.S.Service.counts service) (seen g.D.Device.state c.args.rig.now) mid inv.taken _ inv.goes inv.alone (inv.good told)
    (laws.syncs_few service mid _ _ inv.has)
    (counted_read g.S.Service.KIND inv.reads c.in-Ok.ensures.reads.reads told (inv.counted told))

pub returns-in_default-clause-most : goal.returns-in_default-clause-most
returns-in_default-clause-most g c =
    let inv = c.loop-next.invariant in
    alone_keeps (length g.base) g.S.Service.allowance g.S.Service.room g.H.Shelf.tells g.S.Service.KIND _ _ _
    (g.S.Service.counts c.loop-next.service) (seen g.D.Device.state c.loop-next.rig) g.met.S.Service.rising_room
    inv.goes.sound.shape inv.alone
    (λ told. let few = counted_read g.S.Service.KIND inv.reads c.in-Ok.ensures.reads.reads told (inv.counted told) in
    omega (arith, few, inv.n))

pub returns-in_err-give-clause-goes : goal.returns-in_err-give-clause-goes
returns-in_err-give-clause-goes g c =
    let inv = c.loop-next.invariant in
    goes_on_within _ _ _ _ _ (seen g.D.Device.state c.args.rig.now)
    (seen g.D.Device.state c.loop-next.rig) (seen g.D.Device.state c.give.new.rig) inv.goes
    inv.within c.in_err-give.ensures.goes

pub returns-in_err-give-clause-reads : goal.returns-in_err-give-clause-reads
returns-in_err-give-clause-reads g c =
    reads_then _ _ _ _ _ _ _ c.loop-next.invariant.reads c.in-Ok.ensures.reads.reads

pub returns-in_err-give-clause-moves : goal.returns-in_err-give-clause-moves
returns-in_err-give-clause-moves g c = λ told.
    let inv = c.loop-next.invariant in
    let l = c.in-Ok.ensures in
    let kind = g.S.Service.KIND in
    let laws = g.met.S.Service in
    let service = c.loop-next.service in
    let counts = g.S.Service.counts service in
    let mid = seen g.D.Device.state c.loop-next.rig in
    let line = rw c.KIND.ensures at (rw inv.number at (rw c.in-Some.is at (l.taken told))) in
    let more = counted_more kind _ _ _ (length inv.taken) c.in-Some.command (inv.counted told) line in
    let taken = counted_left kind _ _ c.take_line.new.feed
    (g.H.Shelf.stand c.take_line.new.shelf) c.args.feed.now.slot (length inv.taken + 1) more
    (l.reads.reads.slot ∙ inv.reads.slot) (omega arith) in
    command_over g.base c.requires.1.1.1.1.1.1.1.0 kind g.S.Service.allowance g.S.Service.room (g.S.Service.size c.args.service.now)
    laws.rising (laws.size_rises c.args.service.now) _ _ (g.S.Service.size service) _ _ counts
    (seen g.D.Device.state c.args.rig.now) mid (seen g.D.Device.state c.give.new.rig) inv.taken c.in-Some.command _
    inv.sizes inv.goes inv.alone (inv.good told ∙ ap (λ r. inv.taken ++ r.good) line.from)
    (laws.syncs_few service mid _ _ inv.has) taken
    (c.in_err-give.ensures.moves (g.base ++ inv.taken) inv.has)

pub returns-in_err-give-clause-most : goal.returns-in_err-give-clause-most
returns-in_err-give-clause-most g c =
    let inv = c.loop-next.invariant in
    let l = c.in-Ok.ensures in
    let kind = g.S.Service.KIND in
    let counts = g.S.Service.counts c.loop-next.service in
    let text = rest c.args.feed.now (g.H.Shelf.stand c.args.shelf.now) in
    let left = ((g.H.Shelf.stand c.take_line.new.shelf).slot c.args.feed.now.slot).left in
    let few : IsTrue g.H.Shelf.tells → counts.n + 1 ≤ run_size kind text left + length g.base = λ told.
    let line = rw c.KIND.ensures at (rw inv.number at (rw c.in-Some.is at (l.taken told))) in
    let more = counted_more kind _ _ _ (length inv.taken) c.in-Some.command (inv.counted told) line in
    let taken = counted_left kind _ _ c.take_line.new.feed
    (g.H.Shelf.stand c.take_line.new.shelf) c.args.feed.now.slot (length inv.taken + 1) more
    (l.reads.reads.slot ∙ inv.reads.slot) (omega arith) in
    let m = taken_most kind text left in
    omega (arith, taken, m, inv.n) in
    call_keeps (length g.base) g.S.Service.allowance g.S.Service.room g.H.Shelf.tells kind text left _ _ (counts.n + 1) counts
    (seen g.D.Device.state c.loop-next.rig) (seen g.D.Device.state c.give.new.rig) g.met.S.Service.rising_room
    inv.goes.sound.shape c.in_err-give.ensures.goes.touches inv.alone (λ told. c.in_err-give.ensures.room)
    (λ told. let n = few told in omega (arith, n)) few

pub returns-in_err-give-clause-synced : goal.returns-in_err-give-clause-synced
returns-in_err-give-clause-synced g c = λ told d.
    let inv = c.loop-next.invariant in
    let v = c.in_err-give.ensures in
    let kind = g.S.Service.KIND in
    let line = rw c.KIND.ensures at (rw inv.number at (rw c.in-Some.is at (c.in-Ok.ensures.taken told))) in
    given_stopped (g.S.Service.combiner c.args.service.now) g.met.W.Sink.rule (g.met.W.Sink.is_state c.args.out.now) kind (g.base ++ inv.taken) (inv.printed d) _ _
    (whole g.base inv.taken _ _ (inv.good told)) c.in-Some.command _ (g.W.Sink.faults c.loop-next.out) (g.W.Sink.faults c.give.new.out)
    (seen g.D.Device.state c.loop-next.rig) (seen g.D.Device.state c.give.new.rig) _ _
    c.from_residual.ensures.1 (ap (λ r. r.good) line.from) v.cause
    (rw inv.joins at (v.prints (inv.goes.touches.told ∙ d) (g.base ++ inv.taken) inv.has))

pub returns-in_err-give-clause-stop : goal.returns-in_err-give-clause-stop
returns-in_err-give-clause-stop g c =
    let inv = c.loop-next.invariant in
    let v = c.in_err-give.ensures in
    let l = c.in-Ok.ensures in
    let kind = g.S.Service.KIND in
    let counts = g.S.Service.counts c.loop-next.service in
    let first = seen g.D.Device.state c.args.rig.now in
    let mid = seen g.D.Device.state c.loop-next.rig in
    let last = seen g.D.Device.state c.give.new.rig in
    stops_command (length g.base) g.H.Shelf g.W.Sink g.S.Service.allowance g.S.Service.room kind c.args.feed.now c.args.shelf.now
    c.take_line.new.shelf c.args.out.now c.loop-next.out c.give.new.out _ _ counts first mid last _ _
    c.from_residual.ensures.1 g.met.S.Service.rising_room inv.goes v.goes.touches inv.alone inv.write_later
    v.cause v.full (λ told.
    let line = rw c.KIND.ensures at (rw inv.number at (rw c.in-Some.is at (l.taken told))) in
    let more = counted_more kind _ _ _ (length inv.taken) c.in-Some.command (inv.counted told) line in
    let taken = counted_left kind _ _ c.take_line.new.feed
    (g.H.Shelf.stand c.take_line.new.shelf) c.args.feed.now.slot (length inv.taken + 1) more
    (l.reads.reads.slot ∙ inv.reads.slot) (omega arith) in
    let m = taken_most kind (rest c.args.feed.now (g.H.Shelf.stand c.args.shelf.now))
    ((g.H.Shelf.stand c.take_line.new.shelf).slot c.args.feed.now.slot).left in
    omega (arith, taken, m, inv.n))

pub loop-next-preserved : goal.loop-next-preserved
loop-next-preserved g c =
    let inv = c.loop-next.invariant in
    let v = c.in_ok-give.ensures in
    let l = c.in-Ok.ensures in
    let kind = g.S.Service.KIND in
    let counts = g.S.Service.counts c.loop-next.service in
    let command = c.in-Some.command in
    let before = rest c.loop-next.feed (g.H.Shelf.stand c.loop-next.shelf) in
    let after = rest c.take_line.new.feed (g.H.Shelf.stand c.take_line.new.shelf) in
    let first = seen g.D.Device.state c.args.rig.now in
    let mid = seen g.D.Device.state c.loop-next.rig in
    let last = seen g.D.Device.state c.give.new.rig in
    let held = g.S.Service.blocks c.args.service.now first in
    let size = g.S.Service.size c.args.service.now in
    let now = g.S.Service.size c.loop-next.service in
    let count = length inv.taken in
    let full = (g.base ++ inv.taken) ++ command ∷ [] in
    let assoc : full ≡ g.base ++ (inv.taken ++ command ∷ []) = append_assoc g.base inv.taken (command ∷ []) in
    let line : IsTrue g.H.Shelf.tells → LineTaken kind (count + 1) before after command =
    λ told. rw c.KIND.ensures at (rw inv.number at (rw c.in-Some.is at (l.taken told))) in
    let n = v.takes.n in
    let one : length (inv.taken ++ command ∷ []) ≡ count + 1 = omega (arith, length-append inv.taken (command ∷ [])) in
    record {
      goes = goes_on_within _ _ _ held _ first mid last inv.goes inv.within v.goes;
      free = syncs_shared _ _ mid.pool last.pool inv.free v.goes.frames;
      joins = v.joins ∙ inv.joins;
      sizes = v.sizes ∙ inv.sizes;
      is = v.is;
      within = within_then first mid held _ _ inv.goes.touches inv.within v.takes.within;
      bounds = v.bounds ∙ inv.bounds;
      taken = inv.taken ++ command ∷ [];
      alone = subst (λ (cs : List Command). StandsAlone g.S.Service.allowance g.S.Service.room (size first.pool.shape cs)
          (g.S.Service.blocks c.give.new.service last) (g.S.Service.counts c.give.new.service) last) assoc
          (alone_next g.S.Service.allowance g.S.Service.room (syncs_for kind (command ∷ [])) (size first.pool.shape full)
          _ _ counts (g.S.Service.counts c.give.new.service) mid last g.met.S.Service.rising_room inv.goes.sound.shape
          inv.alone v.goes.touches v.takes v.room (within_equal g.S.Service.allowance (now mid.pool.shape full)
          (size first.pool.shape full) (counts.syncs + syncs_for kind (command ∷ [])) counts.spent mid last
          (equal_size size now mid.pool.shape first.pool.shape full full inv.sizes inv.goes.touches.shape refl)
          (v.moves (g.base ++ inv.taken) inv.has)));
      has = subst (λ (cs : List Command). g.S.Service.Has c.give.new.service last (up_to_sync cs) (since_sync cs)) assoc
          (v.has (g.base ++ inv.taken) inv.has);
      printed = λ d. printed_next (g.S.Service.combiner c.args.service.now) g.met.W.Sink.rule
          (g.met.W.Sink.is_state c.args.out.now) kind (g.base ++ inv.taken)
          (inv.printed d) command (rw inv.joins at (v.prints (inv.goes.touches.told ∙ d) (g.base ++ inv.taken) inv.has)).all
          ∙ ap (λ (cs : List Command). g.W.Sink.took (g.W.Sink.state c.args.out.now)
          (synced_text (g.S.Service.combiner c.args.service.now) kind cs)) assoc;
      write_later = omega (arith, inv.write_later, v.later);
      n = omega (arith, n, inv.n, one);
      number = omega (arith, one, inv.number);
      few = let m = rw c.in-Some.is at l.number in omega (arith, m, one, inv.number);
      place = omega (arith, l.reads.place, inv.place, one);
      reads = reads_then _ _ _ _ _ _ _ inv.reads l.reads.reads;
      later = omega (arith, inv.later, l.reads.later);
      stabs_most = omega (arith, inv.stabs_most, c.stabs_in-stabs.ensures.most, one);
      good = λ told.
          rw one (good_more _ _ _ command (count + 1) _ _ (inv.good told) (line told).from refl);
      fault = λ told. rw one (inv.fault told ∙ ap (λ r. r.fault) (line told).from);
      counted = λ told.
          rw one (counted_more kind _ _ _ count command (inv.counted told) (line told));
      stabs = λ told.
          let later = (parsed_from kind (count + 1 + 1) (lines_of after)).good in
          let step : length (stab_answers (parsed_from kind (count + 1) (lines_of before)).good)
          ≡ c.stabs_in-stabs.result + length (stab_answers later) =
          ap (λ r. length (stab_answers r.good)) (line told).from ∙ stabs_next command later
          ∙ ap (λ n. n + length (stab_answers later)) (sym c.stabs_in-stabs.ensures.count) in
          let whole = inv.stabs told in
          rw one (omega (arith, step, whole));
    }
