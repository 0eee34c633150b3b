-- A command that is given to a service. At a sync the service gives a list, which is printed and released.
use Rattle.std.proofs.Common.{◌≡◌, ◌≢◌, ℕ, ◌+◌, ◌*◌, ◌≤◌, List, [], ◌∷◌, ◌++◌, length, refl, ap, sym, subst, ◌∙◌, arith, IsTrue, Option, Some, None, IfSome, Result, Ok, Err, IfErr, IsErrAnd}
use Rattle.std.specs.Prelude.{OnOk}
use Rattle.em_record.specs.Shape.{ShapeNumbers}
use Rattle.em_io.specs.Sink.{IsRule}
use Rattle.em_io.proofs.Sent.{part-of, sent-nothing}
use Rattle.em_model.specs.Sync.{since_sync, up_to_sync}
use Rattle.em_model.specs.declared.command.Command.{Command}
use Rattle.em_model.specs.declared.command.Command.TheVariants.{Put, Add, Del, Get, Sync, Push, Pop, Interval, Stab}
use Rattle.em_model.proofs.SyncLaws.{no_sync, since_same, since_synced, sync_parts, up_to_same, up_to_synced}
use Rattle.em_space.specs.Held.{Apart, Within}
use Rattle.em_space.specs.Queue.{Pays}
use Rattle.em_space.specs.Rig.{BlockCause, Goes, RigState, Touches}
use Rattle.em_space.specs.declared.fault.EmFault.{EmFault}
use Rattle.em_space.specs.declared.fault.EmFault.TheVariants as em
use Rattle.em_space.proofs.Apart.{off_left, off_right}
use Rattle.em_space.proofs.Held.{apart_none}
use Rattle.em_space.proofs.Paying.{pays_kept, pays_then}
use Rattle.em_space.proofs.Sessions.{session_others}
use Rattle.em_space.proofs.Steps.{block_cause, cause_after}
use Rattle.em_space.proofs.Within.{within_kept}
use Rattle.em_chain.specs.Chain.{ChainStays, chain_blocks}
use Rattle.em_chain.specs.declared.chain.Chain.{Chain}
use Rattle.em_chain.proofs.Beside.{chain_kept}
use Rattle.em_lines.specs.Kind.{IsOfKind}
use Rattle.em_lines.specs.declared.text.FileKind.{FileKind}
use Rattle.em_lines.specs.declared.text.FileKind.TheVariants as kind
use Rattle.em_map.specs.Areas.{KeepsAreas}
use Rattle.em_services.specs.Service.{FramesOut, FullOverRoom, GivesAtSync, ServiceCounts, TakesCommand, WithinAllowance, WithinRoom, list_moves, records_at_sync, syncs_for}
use Rattle.em_services.specs.declared.service.Service.{Ghosts as ServiceGhosts}
use Rattle.em_map.proofs.Areas.{goes_on, goes_on_trans, goes_on_within}
use Rattle.em_services.proofs.Areas.{out_kept}
use Rattle.aig_text.proofs.Lines.{of_error}
use Rattle.em_answers.specs.Answer.{text_at}
use Rattle.em_answers.specs.Print.{KeepsBlocks, PrintCause, records_text}
use Rattle.em_answers.specs.Reading.{FullAtSync, SyncCause}
use Rattle.em_ends.specs.Stop.{IfStopsFull, Prints}
use Rattle.em_ends.specs.declared.stop.Stop.{Stop}
use Rattle.em_ends.specs.declared.stop.Stop.TheVariants.{Fault, Read, Write, Em}
use Rattle.em_answers.proofs.Answered.{text_at_sync}
use Rattle.em_model.specs.Map.{Combiner}

-- A service stays as it is over calls on others: the law of a service,
abbrev pub StaysLaw : {S R : Type 0} → ServiceGhosts S R → Type 0
StaysLaw {S} v = (x : S) (held : List ℕ) (s t : RigState) → v.IsService x s → Touches held s t
    → (IsTrue s.device.told → Apart (v.blocks x s) held) → FramesOut v.frames (v.areas x) t.pool
    → v.IsService x t × (IsTrue s.device.told → v.blocks x t ≡ v.blocks x s)
    × ((before cs : List Command) → v.Has x s before cs → v.Has x t before cs)

-- and what it says of two moments.
pub record ServiceStays {S R : Type 0} (v : ServiceGhosts S R) (x : S) (s t : RigState) : Type 0 where
  pub is : v.IsService x t
  pub blocks : IsTrue s.device.told → v.blocks x t ≡ v.blocks x s
  pub has : (before cs : List Command) → v.Has x s before cs → v.Has x t before cs

-- So does what is left of it after a fault.
abbrev pub FramesLaw : {S R : Type 0} → ServiceGhosts S R → Type 0
FramesLaw {S} v = (x : S) (held : List ℕ) (s t : RigState) → v.HasItsFrames x s → Touches held s t
    → FramesOut v.frames (v.areas x) t.pool → v.HasItsFrames x t

pub frames_over : {S R : Type 0} (v : ServiceGhosts S R) (law : FramesLaw v) (x : S) (held : List ℕ) (s t : RigState)
    → v.HasItsFrames x s → FramesOut v.frames (v.areas x) s.pool → Goes held s t → v.HasItsFrames x t
frames_over v law x held s t has out goes =
    law x held s t has goes.touches (out_kept v.frames (v.areas x) s.pool t.pool out goes.frames)

-- A service that held these areas and blocks gave a list at a sync.
pub record GaveList {S R : Type 0} (v : ServiceGhosts S R) (x : S) (own : ℕ) (held : List ℕ) (a : ServiceCounts)
    (s m : RigState) (c : Chain) : Type 0 where
  pub goes : KeepsAreas own (v.areas x) held s m
  pub is : v.IsService x m
  pub out : FramesOut v.frames (v.areas x) m.pool
  pub gives : GivesAtSync v.allowance v.room held (v.blocks x m) a (v.counts x) s m c

-- the blocks in use after a list was released
list_used : (room : Option (ShapeNumbers → ℕ → ℕ)) (s m t : RigState) (held now after : List ℕ) (n : ℕ)
    → length after ≡ length now → t.used + n ≡ m.used
    → IfSome room (λ f. m.used + length held ≡ s.used + (n + length now))
    → IfSome room (λ f. t.used + length held ≡ s.used + length after)
list_used None s m t held now after n same released used = tt
list_used (Some f) s m t held now after n same released used = omega (arith, same, released, used)

-- the moves of reading and releasing it are in those of the sync
list_spent : (allowance : Option (ShapeNumbers → ℕ → ℕ)) (s m t : RigState) (a b : ServiceCounts) (c : Chain)
    → t.moves ≤ m.moves + list_moves c
    → IfSome allowance (λ f. m.moves + list_moves c + a.spent s.pool.shape ≤ s.moves + b.spent s.pool.shape)
    → IfSome allowance (λ f. t.moves + a.spent s.pool.shape ≤ s.moves + b.spent s.pool.shape)
list_spent None s m t a b c moves spent = tt
list_spent (Some f) s m t a b c moves spent = omega (arith, moves, spent)

-- The list of a sync is printed,
module _ {S R : Type 0} (v : ServiceGhosts S R) (law : StaysLaw v) {x : S} {own : ℕ} {held : List ℕ} {a : ServiceCounts}
    {c : Chain} {s m p : RigState} (g : GaveList v x own held a s m c) (k : KeepsBlocks m p) where
  printed_stays : ServiceStays v x m p
  printed_stays =
      let all = law x [] m p g.is k.goes.touches (λ z. apart_none (v.blocks x m))
      (out_kept v.frames (v.areas x) m.pool p.pool g.out k.goes.frames) in
      record { is = all.0; blocks = all.1; has = all.2 }

  pub printed_list : ChainStays m p c
  printed_list = chain_kept m p c k.goes g.gives.is

  pub printed_goes : KeepsAreas own (v.areas x) held s p
  printed_goes = goes_on_trans own (v.areas x) (v.areas x) held [] s m p g.goes (goes_on (v.areas x) [] m p k.goes)
      (λ z j u o. tt)

  list_within : Within s held (chain_blocks p c)
  list_within = within_kept s held (chain_blocks m c) (chain_blocks p c)
      (record { off = λ z j u o. off_left j (chain_blocks m c) (v.blocks x m) (g.gives.session.within.off z j u o) })
      (λ z. printed_list.blocks (g.goes.touches.told ∙ z))

  beside_list : IsTrue p.device.told → Apart (v.blocks x p) (chain_blocks p c)
  beside_list z =
      let here : IsTrue m.device.told = sym k.goes.touches.told ∙ z in
      rw (printed_stays.blocks here, printed_list.blocks here)
      (session_others (chain_blocks m c) (v.blocks x m) g.gives.session (sym g.goes.touches.told ∙ here))

  -- and released.
  module _ {t : RigState} (d : Goes (chain_blocks p c) p t) where
    pub released_goes : KeepsAreas own (v.areas x) held s t
    released_goes = goes_on_within own (v.areas x) (v.areas x) held (chain_blocks p c) s p t printed_goes list_within
        (goes_on (v.areas x) (chain_blocks p c) p t d)

    pub released_stays : ServiceStays v x m t
    released_stays =
        let first = printed_stays in
        let all = law x (chain_blocks p c) p t first.is d.touches beside_list
        (out_kept v.frames (v.areas x) p.pool t.pool
        (out_kept v.frames (v.areas x) m.pool p.pool g.out k.goes.frames) d.frames) in
        record {
          is = all.0;
          blocks = λ z. all.1 (k.goes.touches.told ∙ z) ∙ first.blocks z;
          has = λ before cs h. all.2 before cs (first.has before cs h);
        }

    released_within : Within s held (v.blocks x t)
    released_within = within_kept s held (v.blocks x m) (v.blocks x t)
        (record { off = λ z j u o. off_right j (chain_blocks m c) (v.blocks x m) (g.gives.session.within.off z j u o) })
        (λ z. released_stays.blocks (g.goes.touches.told ∙ z))

    pub released_takes : p.moves ≤ m.moves + c.blocks → t.moves ≤ p.moves + 2 * c.blocks
        → t.used + c.blocks ≡ p.used
        → TakesCommand v.allowance v.room 1 held (v.blocks x t) a (v.counts x) s t
    released_takes printed released used =
        let kept = k.used in
        let first = k.goes.touches.moves in
        let then = d.touches.moves in
        let later : m.moves ≤ t.moves = omega (arith, first, then) in
        let gone : t.used + c.blocks ≡ m.used = omega (arith, used, kept) in
        let moves : t.moves ≤ m.moves + list_moves c = omega (arith, printed, released) in
        record {
          within = released_within;
          n = g.gives.n;
          syncs = g.gives.syncs;
          pays = pays_then g.gives.pays (pays_kept (v.counts x).unstored (omega (arith, gone)) later) later;
          used = λ z.
              list_used v.room s m t held (v.blocks x m) (v.blocks x t) c.blocks
              (ap (λ (ks : List ℕ). length ks) (released_stays.blocks (g.goes.touches.told ∙ z))) gone
              (g.gives.used z);
          spent = λ tells.
              list_spent v.allowance s m t a (v.counts x) c moves (g.gives.spent (tells (omega arith)));
        }

-- What is moved for the list is within what the service is allowed.
pub sync_moves : (allowance room : Option (ShapeNumbers → ℕ → ℕ)) (size : ℕ) (held now : List ℕ) (a b : ServiceCounts)
    (s m t : RigState) (c : Chain) → GivesAtSync allowance room held now a b s m c
    → (IsTrue s.device.told
    → IfSome allowance (λ f. b.spent s.pool.shape ≤ (b.syncs + 1) * f s.pool.shape size))
    → t.moves ≤ m.moves + list_moves c → WithinAllowance allowance size (a.syncs + 1) a.spent s t
sync_moves None room size held now a b s m t c g within moves = tt
sync_moves (Some f) room size held now a b s m t c g within moves = λ z.
    let spent = g.spent z in
    let share = rw (g.syncs) at (within z) in
    omega (arith, spent, share, moves)

-- No more blocks come into use.
pub room_over : (room : Option (ShapeNumbers → ℕ → ℕ)) (size : ℕ) (held : List ℕ) (s m t : RigState)
    → t.most ≡ m.most → WithinRoom room size held s m → WithinRoom room size held s t
room_over None size held s m t most w = tt
room_over (Some f) size held s m t most w = λ z. record { is = rw most (w z).is }

-- Why it stopped: while the answers were printed,
pub print_cause : (held : List ℕ) (s m p : RigState) (faults after : ℕ) (stop : Stop) → Touches held s m
    → PrintCause faults after m p stop → SyncCause faults after s p stop
print_cause held s m p faults after (Fault malform place) before cause = cause
print_cause held s m p faults after Read before cause = cause
print_cause held s m p faults after Write before cause = cause
print_cause held s m p faults after (Em fault) before cause =
    cause_after held s m p fault before (block_cause m p fault cause)

print_never : (m p : RigState) (faults after : ℕ) (stop : Stop) (P : ℕ → Type 0)
    → PrintCause faults after m p stop → IfStopsFull stop P
print_never m p faults after (Fault malform place) P cause = tt
print_never m p faults after Read P cause = tt
print_never m p faults after Write P cause = tt
print_never m p faults after (Em em.DeviceFault) P cause = tt
print_never m p faults after (Em (em.Full used)) P cause = absurd cause
print_never m p faults after (Em (em.Damaged block)) P cause = tt

block_never : (p t : RigState) (fault : EmFault) (P : ℕ → Type 0) → BlockCause p t fault → IfStopsFull (Em fault) P
block_never p t em.DeviceFault P cause = tt
block_never p t (em.Full used) P cause = absurd cause
block_never p t (em.Damaged block) P cause = tt

pub call_full : (room : Option (ShapeNumbers → ℕ → ℕ)) (held : List ℕ) (c : ServiceCounts) (s m : RigState)
    (fault : EmFault) → FullOverRoom room (c.n + 1) held s fault → Pays c.unstored (2 * s.pool.shape.frames) s m
    → IfStopsFull (Em fault) (FullAtSync room held c s m)
call_full room held c s m em.DeviceFault over pays = tt
call_full room held c s m (em.Full used) over pays = record { pays = pays; over = over }
call_full room held c s m (em.Damaged block) over pays = tt

-- A full device stops the service alone, since printing and releasing need no block.
module _ (room : Option (ShapeNumbers → ℕ → ℕ)) (held : List ℕ) (c : ServiceCounts) (s t : RigState) where
  stop_full : {T : Type 0} (stop : Stop) (result : Result T Stop) → IsErrAnd result (λ f. f ≡ stop)
      → IfStopsFull stop (FullAtSync room held c s t)
      → IfErr result (λ e. IfStopsFull e (FullAtSync room held c s t))
  stop_full stop result is h =
      of_error (λ r. IfErr r (λ e. IfStopsFull e (FullAtSync room held c s t))) result stop is h

  pub sync_full : {T : Type 0} (fault : EmFault) (result : Result T Stop) → IsErrAnd result (λ f. f ≡ Em fault)
      → FullOverRoom room (c.n + 1) held s fault → Pays c.unstored (2 * s.pool.shape.frames) s t
      → IfErr result (λ e. IfStopsFull e (FullAtSync room held c s t))
  sync_full fault result is over pays =
      stop_full (Em fault) result is (call_full room held c s t fault over pays)

  pub print_full : {T : Type 0} (m : RigState) (faults after : ℕ) (stop : Stop) (result : Result T Stop)
      → IsErrAnd result (λ f. f ≡ stop) → PrintCause faults after m t stop
      → IfErr result (λ e. IfStopsFull e (FullAtSync room held c s t))
  print_full m faults after stop result is cause =
      stop_full stop result is (print_never m t faults after stop (FullAtSync room held c s t) cause)

  pub discard_full : {T : Type 0} (p : RigState) (fault : EmFault) (result : Result T Stop)
      → IsErrAnd result (λ f. f ≡ Em fault) → BlockCause p t fault
      → IfErr result (λ e. IfStopsFull e (FullAtSync room held c s t))
  discard_full p fault result is cause =
      stop_full (Em fault) result is (block_never p t fault (FullAtSync room held c s t) cause)

-- A command is one sync,
pub one_at_sync : (k : FileKind) (c : Command) → c ≡ Sync → IsOfKind k Sync → syncs_for k (c ∷ []) ≡ 1
one_at_sync kind.Map c e is = ap (λ x. syncs_for kind.Map (x ∷ [])) e
one_at_sync kind.Queue c e is = absurd is
one_at_sync kind.Stab c e is = absurd is
one_at_sync kind.Dump c e is = ap (λ x. syncs_for kind.Dump (x ∷ [])) e

-- or none.
pub none_at_other : (k : FileKind) (c : Command) → (c ≡ Sync → ⊥) → syncs_for k (c ∷ []) ≡ 0
none_at_other kind.Map c other = no_sync c other
none_at_other kind.Queue c other = refl
none_at_other kind.Stab c other = refl
none_at_other kind.Dump c other = no_sync c other

-- Its moves are within what is allowed for the size of the commands that were given, and of it.
module _ (allowance : Option (ShapeNumbers → ℕ → ℕ)) (size : List Command → ℕ) (k : FileKind) (given : List Command)
    (c : Command) (syncs : ℕ) (spent : ShapeNumbers → ℕ) (s t : RigState) where
  abbrev pub Allowed : ℕ → Type 0
  Allowed n = WithinAllowance allowance (size (given ++ c ∷ [])) n spent s t

  pub sync_within : c ≡ Sync → IsOfKind k Sync
      → WithinAllowance allowance (size (up_to_sync given ++ since_sync given ++ Sync ∷ [])) (syncs + 1) spent s t
      → Allowed (syncs + syncs_for k (c ∷ []))
  sync_within e is h =
      let all : up_to_sync given ++ since_sync given ++ Sync ∷ [] ≡ given ++ c ∷ [] =
      ap (λ (l : List Command). l ++ Sync ∷ []) (sync_parts given) ∙ ap (λ (x : Command). given ++ x ∷ []) (sym e) in
      subst (λ (n : ℕ). Allowed (syncs + n)) (sym (one_at_sync k c e is))
      (subst (λ (l : List Command). WithinAllowance allowance (size l) (syncs + 1) spent s t) all h)

  pub other_within : (c ≡ Sync → ⊥)
      → WithinAllowance allowance (size (up_to_sync given ++ since_sync given ++ c ∷ [])) syncs spent s t
      → Allowed (syncs + syncs_for k (c ∷ []))
  other_within other h =
      let none = none_at_other k c other in
      let all : up_to_sync given ++ since_sync given ++ c ∷ [] ≡ given ++ c ∷ [] =
      ap (λ (l : List Command). l ++ c ∷ []) (sync_parts given) in
      let e : syncs ≡ syncs + syncs_for k (c ∷ []) = omega (arith, none) in
      subst (λ (n : ℕ). Allowed n) e
      (subst (λ (l : List Command). WithinAllowance allowance (size l) syncs spent s t) all h)

-- The commands up to the last sync and those since, one command further on.
has_synced : (P : List Command → List Command → Type 0) (given : List Command) (c : Command) → c ≡ Sync
    → P (up_to_sync given ++ since_sync given ++ Sync ∷ []) []
    → P (up_to_sync (given ++ c ∷ [])) (since_sync (given ++ c ∷ []))
has_synced P given c e h =
    let all : up_to_sync given ++ since_sync given ++ Sync ∷ [] ≡ given ++ Sync ∷ [] =
    ap (λ l. l ++ Sync ∷ []) (sync_parts given) in
    rw (e, up_to_synced given, since_synced given) (rw all at h)

pub has_same : (P : List Command → List Command → Type 0) (given : List Command) (c : Command)
    → (c ≡ Sync → ⊥) → P (up_to_sync given) (since_sync given ++ c ∷ [])
    → P (up_to_sync (given ++ c ∷ [])) (since_sync (given ++ c ∷ []))
has_same P given c other h =
    let none = no_sync c other in
    rw (up_to_same given (c ∷ []) none, since_same given (c ∷ []) none) h

-- At a sync the service has none since, if it was answered.
pub has_answered : {T E : Type 0} (before after : List Command → List Command → Type 0) (c : Command)
    (result : Result T E) → c ≡ Sync
    → OnOk result ((xs cs : List Command) → before xs cs → after (xs ++ cs ++ Sync ∷ []) [])
    → OnOk result ((given : List Command) → before (up_to_sync given) (since_sync given)
    → after (up_to_sync (given ++ c ∷ [])) (since_sync (given ++ c ∷ [])))
has_answered before after c (Ok x) e h =
    λ given has. has_synced after given c e (h (up_to_sync given) (since_sync given) has)
has_answered before after c (Err stop) e h = tt

-- What is printed then is the text of the sync.
pub prints_sync : (apply : Combiner) {took : List ℕ → List ℕ → List ℕ} {old new : List ℕ} {T : Type 0} {result : Result T Stop}
    (k : FileKind) (given : List Command) (c : Command) → c ≡ Sync → k ≢ kind.Queue → IsOfKind k Sync
    → Prints took (records_text k 0 (records_at_sync apply k (up_to_sync given) (since_sync given))) old new result
    → Prints took (text_at apply k given c) old new result
prints_sync apply {took} {old} {new} {T} {result} k given c e no_queue is p =
    subst (λ (text : List ℕ). Prints took text old new result)
    (text_at_sync apply k given no_queue is ∙ ap (text_at apply k given) (sym e)) p

-- Another command prints nothing.
nothing_at : (apply : Combiner) (k : FileKind) (given : List Command) (c : Command) → (c ≡ Sync → ⊥) → text_at apply k given c ≡ []
nothing_at apply kind.Map given (Put key value) other = refl
nothing_at apply kind.Map given (Add key value) other = refl
nothing_at apply kind.Map given (Del key) other = refl
nothing_at apply kind.Map given (Get key) other = refl
nothing_at apply kind.Map given Sync other = absurd (other refl)
nothing_at apply kind.Map given (Push key value) other = refl
nothing_at apply kind.Map given Pop other = refl
nothing_at apply kind.Map given (Interval low high) other = refl
nothing_at apply kind.Map given (Stab point) other = refl
nothing_at apply kind.Queue given c other = refl
nothing_at apply kind.Stab given c other = refl
nothing_at apply kind.Dump given c other = refl

module _ (apply : Combiner) {IsState : List ℕ → Type 0} {took : List ℕ → List ℕ → List ℕ} (rule : IsRule IsState took)
    {old : List ℕ} (ok : IsState old) where
  all_of_none : {T : Type 0} (result : Result T Stop) → OnOk result (old ≡ took old [])
  all_of_none (Ok x) = sym (rule.nothing old ok)
  all_of_none (Err stop) = tt

  pub prints_other : {T : Type 0} (k : FileKind) (given : List Command) (c : Command) (result : Result T Stop)
      → (c ≡ Sync → ⊥) → Prints took (text_at apply k given c) old old result
  prints_other k given c result other =
      subst (λ (text : List ℕ). Prints took text old old result) (sym (nothing_at apply k given c other))
      (record { all = all_of_none result; part = part-of (sent-nothing rule ok [] refl) })
