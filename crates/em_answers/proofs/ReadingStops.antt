-- Why the reading of a file into a service stopped, as the call says it that made the service.
use Rattle.std.proofs.Common.{◌≡◌, ℕ, ◌+◌, ◌*◌, ◌≤◌, List, [], ◌++◌, length, length-append, sym, subst, ◌∙◌, arith, Bool, IsTrue, Option, IfSome, Result, Ok, Err, IfErr, IsErrAnd}
use Rattle.em_record.specs.Shape.{IsShape, ShapeNumbers}
use Rattle.em_io.specs.Feed.{Fed, rest}
use Rattle.em_io.specs.declared.shelf.Shelf.{Ghosts as ShelfGhosts}
use Rattle.em_space.specs.Held.{Within}
use Rattle.em_space.specs.Queue.{Pays}
use Rattle.em_space.specs.Rig.{RigState, Cause, Goes, Touches}
use Rattle.em_space.specs.declared.fault.EmFault.{EmFault}
use Rattle.em_space.specs.declared.fault.EmFault.TheVariants as em
use Rattle.em_space.proofs.Paying.{pays_more}
use Rattle.em_space.proofs.Steps.{cause_after}
use Rattle.em_space.proofs.Within.{touches_within}
use Rattle.em_chain.specs.Effects.{Unmoved}
use Rattle.em_model.specs.declared.command.Command.{Command}
use Rattle.em_answers.specs.Limits.{Limits}
use Rattle.em_lines.specs.CommandLine.{good_commands}
use Rattle.em_map.specs.Areas.{KeepsAreas}
use Rattle.em_services.specs.Service.{GivesFrames, RisesBySize, ServiceCounts, size_of, FullOverRoom}
use Rattle.em_lines.specs.RunSize.{commands_taken, run_size}
use Rattle.em_answers.specs.Reading.{ArePuts, FullAtSync, IsFilledAt, StandsAlone, StopsReading, StopsReadingAt, StopsReadingOver, SyncCause, service_limits, size_read, StopCause}
use Rattle.em_ready.specs.Ready.{IsUnused}
use Rattle.em_io.specs.declared.sink.Sink.{Ghosts as SinkGhosts}
use Rattle.em_ends.specs.Stop.{Faults, IfStopsFull, fault_counts}
use Rattle.em_ends.specs.declared.status.Malform.TheVariants.{Text, Base, Aig}
use Rattle.em_ends.specs.declared.stop.Stop.{Stop}
use Rattle.em_ends.specs.declared.stop.Stop.TheVariants.{Fault, Read, Write, Em}
use Rattle.em_lines.specs.declared.text.FileKind.{FileKind}
use Rattle.em_answers.proofs.Base.{size_over}
use Rattle.em_answers.proofs.Listing.{alone_unused, filled_call, no_counts}

-- A cause stays one after a call that moved nothing.
pub cause_unmoved : (s u v : RigState) (fault : EmFault) → Touches [] u v → Unmoved u v
    → Cause s u fault → Cause s v fault
cause_unmoved s u v em.DeviceFault touches still cause = omega (arith, cause, touches.faults)
cause_unmoved s u v (em.Full used) touches still cause = (
  cause.0 ∙ sym touches.blocks,
  still.same.used ∙ cause.1 ∙ sym touches.blocks,
)
cause_unmoved s u v (em.Damaged block) touches still cause = (
  touches.told ∙ cause.0,
  omega (arith, cause.1, touches.blocks),
)

-- So does that of a stop, whatever came before.
stop_around : (held : List ℕ) (tells : Bool) (kind : FileKind) (text : List ℕ)
    (faults later : Faults) (s t u v : RigState) (stop : Stop) → Touches held s t → Touches [] u v
    → Unmoved u v → StopCause tells kind text faults later t u stop
    → StopCause tells kind text faults later s v stop
stop_around held tells kind text faults later s t u v (Fault (Text fault) line) before after still cause
    = cause
stop_around held tells kind text faults later s t u v (Fault (Base fault) place) before after still cause
    = cause
stop_around held tells kind text faults later s t u v (Fault (Aig fault) place) before after still cause
    = cause
stop_around held tells kind text faults later s t u v Read before after still cause = cause
stop_around held tells kind text faults later s t u v Write before after still cause = cause
stop_around held tells kind text faults later s t u v (Em fault) before after still cause =
    cause_unmoved s u v fault after still (cause_after held s t u fault before cause)

filled_unmoved : (limits : Limits) (tells : Bool) (size : ℕ) (u v : RigState) (stop : Stop) → Touches [] u v → Unmoved u v
    → IfStopsFull stop (IsFilledAt limits tells size u)
    → IfStopsFull stop (IsFilledAt limits tells size v)
filled_unmoved limits tells size u v (Fault malform place) touches still f = tt
filled_unmoved limits tells size u v Read touches still f = tt
filled_unmoved limits tells size u v Write touches still f = tt
filled_unmoved limits tells size u v (Em em.DeviceFault) touches still f = tt
filled_unmoved limits tells size u v (Em (em.Damaged block)) touches still f = tt
filled_unmoved limits tells size u v (Em (em.Full used)) touches still f = record {
  paid = rw (touches.shape, still.moves) f.paid;
  room = λ told d. rw (touches.shape) (f.room told (sym touches.told ∙ d));
}

-- A stop of the reading is one of the call that made the service before and gave it up after.
pub stops_around : {H W : Type 0} (size : ℕ) (h : ShelfGhosts H) (w : SinkGhosts W)
    (allowance room : Option (ShapeNumbers → ℕ → ℕ)) (kind : FileKind) (feed : Fed) (shelf shelf_after : H)
    (out out_after : W) (held : List ℕ) (s t u v : RigState)
    (stop : Stop) → Touches held s t → Touches [] u v → Unmoved u v
    → StopsReadingAt size h w (service_limits allowance room) kind feed shelf shelf_after out out_after t u stop
    → StopsReadingAt size h w (service_limits allowance room) kind feed shelf shelf_after out out_after s v stop
stops_around size h w allowance room kind feed shelf shelf_after out out_after held s t u v stop before after still r = record {
  cause = stop_around held h.tells kind (rest feed (h.stand shelf)) (fault_counts (h.faults shelf) (w.faults out))
      (fault_counts (h.faults shelf_after) (w.faults out_after)) s t u v stop before after still r.cause;
  full = filled_unmoved (service_limits allowance room) h.tells size u v stop after still r.full;
}

-- A command stopped: the output failed while a sync was answered, or the rig gave up.
command_cause : (tells : Bool) (kind : FileKind) (text : List ℕ) (read read_after write mid after : ℕ)
    (held : List ℕ) (s t u : RigState) (stop : Stop) → Touches held s t → write ≤ mid
    → SyncCause mid after t u stop
    → StopCause tells kind text (fault_counts read write) (fault_counts read_after after) s u stop
command_cause tells kind text read read_after write mid after held s t u (Fault malform place) before later cause
    = absurd cause
command_cause tells kind text read read_after write mid after held s t u Read before later cause = absurd cause
command_cause tells kind text read read_after write mid after held s t u Write before later cause =
    omega (arith, later, cause)
command_cause tells kind text read read_after write mid after held s t u (Em fault) before later cause =
    cause_after held s t u fault before cause

command_full : (run : ℕ) (allowance room : Option (ShapeNumbers → ℕ → ℕ)) {sized : ℕ} (tells : Bool) (held : List ℕ) (c : ServiceCounts) (s u : RigState) (faults after : ℕ) (stop : Stop)
    → IfSome room RisesBySize → IsShape s.pool.shape → Touches held s u → StandsAlone allowance room sized held c s
    → SyncCause faults after s u stop → IfStopsFull stop (FullAtSync room held c s u)
    → (IsTrue tells → c.n + 1 ≤ run)
    → IfStopsFull stop (IsFilledAt (service_limits allowance room) tells run u)
command_full run allowance room tells held c s u faults after (Fault malform place) rises is touches a
    cause full most = tt
command_full run allowance room tells held c s u faults after Read rises is touches a cause full most =
    tt
command_full run allowance room tells held c s u faults after Write rises is touches a cause full most =
    tt
command_full run allowance room tells held c s u faults after (Em em.DeviceFault) rises is touches a
    cause full most = tt
command_full run allowance room tells held c s u faults after (Em (em.Damaged block)) rises is touches a
    cause full most = tt
command_full run allowance room tells held c s u faults after (Em (em.Full used)) rises is touches a
    cause full most =
    filled_call run allowance room (c.n + 1) tells held c s u (em.Full used) rises is touches a
    full.pays cause (λ told. record { full = full.over; most = most told })

pub stops_command : {T H W : Type 0} (base : ℕ) (h : ShelfGhosts H) (w : SinkGhosts W)
    (allowance room : Option (ShapeNumbers → ℕ → ℕ)) {own after sized : ℕ} (kind : FileKind) (feed : Fed) (shelf shelf_after : H)
    (out mid out_after : W) (first held : List ℕ) (c : ServiceCounts) (s t u : RigState) (stop : Stop)
    (result : Result T Stop) → IsErrAnd result (λ f. f ≡ stop) → IfSome room RisesBySize → KeepsAreas own after first s t
    → Touches held t u → StandsAlone allowance room sized held c t → w.faults out ≤ w.faults mid
    → SyncCause (w.faults mid) (w.faults out_after) t u stop → IfStopsFull stop (FullAtSync room held c t u)
    → (IsTrue h.tells
    → c.n + 1 ≤ size_read h kind feed shelf shelf_after + base)
    → IfErr result (StopsReadingOver base h w (service_limits allowance room) kind feed shelf shelf_after out out_after s u)
stops_command base h w allowance room kind feed shelf shelf_after out mid out_after first held c s t u stop (Ok x) is
    rises goes touches a later cause full most = absurd is
stops_command base h w allowance room kind feed shelf shelf_after out mid out_after first held c s t u stop (Err f) is
    rises goes touches a later cause full most =
    let text = rest feed (h.stand shelf) in
    let limits = service_limits allowance room in
    let stops : StopsReadingOver base h w limits kind feed shelf shelf_after out out_after s u stop =
    record {
      cause = command_cause h.tells kind text (h.faults shelf) (h.faults shelf_after) (w.faults out) (w.faults mid)
          (w.faults out_after) first s t u stop goes.touches later cause;
      full = command_full (size_read h kind feed shelf shelf_after + base) allowance room h.tells held c t u (w.faults mid) (w.faults out_after) stop
          rises goes.sound.shape touches a cause full most;
    } in
    subst (λ (x : Stop). StopsReadingOver base h w limits kind feed shelf shelf_after out out_after s u x) (sym is) stops

-- The service wasn't made.
pub stops_new : {H W : Type 0} (h : ShelfGhosts H) (w : SinkGhosts W)
    (allowance room : Option (ShapeNumbers → ℕ → ℕ)) (kind : FileKind) (feed : Fed) (shelf : H) (out : W) (s u : RigState) (fault : EmFault)
    → IfSome room RisesBySize → IsUnused s → s.moves ≡ 0 → Goes [] s u → FullOverRoom room 0 [] s fault
    → Pays 0 s.pool.shape.frames s u → Cause s u fault
    → StopsReading h w (service_limits allowance room) kind feed shelf shelf out out s u (Em fault)
stops_new h w allowance room kind feed shelf out s u fault rises unused none goes full pays cause = record {
  cause = cause;
  full = filled_call (size_read h kind feed shelf shelf) allowance room 0 h.tells [] no_counts s u fault rises unused.sound.shape goes.touches
      (alone_unused allowance room s unused none) (pays_more pays (omega arith)) cause
      (λ told. record { full = full; most = omega arith });
}

-- The answers weren't made.
pub stops_answers : {H W : Type 0} (base : List Command) (h : ShelfGhosts H) (w : SinkGhosts W)
    (allowance room : Option (ShapeNumbers → ℕ → ℕ)) {own after sized : ℕ} (kind : FileKind) (feed : Fed) (shelf shelf_after : H)
    (out out_after : W) (frames : ℕ) (held now : List ℕ)
    (c : ServiceCounts) (s t u v : RigState) (fault : EmFault) → IfSome room RisesBySize
    → Touches [] s t → Within s [] held → KeepsAreas own after held t u → StandsAlone allowance room sized now c u
    → GivesFrames frames after now u v → Pays c.unstored (2 * u.pool.shape.frames) u v → Cause u v fault
    → (IsTrue h.tells → c.n
    ≤ commands_taken kind (rest feed (h.stand shelf)) ((h.stand shelf_after).slot feed.slot).left + length base)
    → ArePuts base → (IsTrue h.tells → c.n ≡ length (base ++ good_commands kind (rest feed (h.stand shelf))))
    → (IsTrue h.tells
    → FullOverRoom room (size_of kind (base ++ good_commands kind (rest feed (h.stand shelf)))) now u fault)
    → StopsReadingOver (length base) h w (service_limits allowance room) kind feed shelf shelf_after out out_after s v (Em fault)
stops_answers base h w allowance room kind feed shelf shelf_after out out_after frames held now c s t u v fault rises made fresh calls
    alone gives pays cause taken puts len full =
    let text = rest feed (h.stand shelf) in
    let left = ((h.stand shelf_after).slot feed.slot).left in
    let good = good_commands kind text in
    record {
      cause = cause_after [] s u v fault (touches_within s t u [] held made fresh calls.touches) cause;
      full = filled_call (run_size kind text left + length base) allowance room (size_of kind (base ++ good)) h.tells now c u v fault rises
          calls.sound.shape gives.touches alone pays cause (λ told. record {
            full = full told;
            most = size_over kind text left base puts
                (let l = len told in let n = taken told in omega (arith, l, n, length-append base good));
          });
    }

-- Over no base the size is that of what was read.
pub stops_none : {H W : Type 0} (h : ShelfGhosts H) (w : SinkGhosts W) (limits : Limits) (kind : FileKind) (feed : Fed)
    (shelf shelf_after : H) (out out_after : W) (s t : RigState) (stop : Stop)
    → StopsReadingOver 0 h w limits kind feed shelf shelf_after out out_after s t stop
    → StopsReading h w limits kind feed shelf shelf_after out out_after s t stop
stops_none h w limits kind feed shelf shelf_after out out_after s t stop r =
    subst (λ (size : ℕ). StopsReadingAt size h w limits kind feed shelf shelf_after out out_after s t stop)
    (let e : size_read h kind feed shelf shelf_after + 0 ≡ size_read h kind feed shelf shelf_after = omega arith in e) r
