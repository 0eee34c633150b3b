-- A step of making a graph stops, beside the chains that stand: what was done until then.
use Rattle.std.proofs.Common.{◌≡◌, ℕ, ◌+◌, ◌≤◌, max, List, [], ◌++◌, IsTrue, ap, refl, sym, ◌∙◌, arith, append_assoc, subst, Err}
use Rattle.em_record.specs.Shape.{ShapeNumbers}
use Rattle.em_space.specs.Queue.{Pays, QueueCounts, Shares}
use Rattle.em_space.specs.Rig.{RigState, Cause, Goes, Sound, Touches}
use Rattle.em_space.specs.declared.fault.EmFault.{EmFault}
use Rattle.em_space.specs.declared.queue.Queue.{Ghosts as QueueGhosts}
use Rattle.em_space.proofs.Apart.{off_left, off_right}
use Rattle.em_space.proofs.Paying.{pays_kept, pays_more, pays_then}
use Rattle.em_space.proofs.Queues.{shares_same, shares_then}
use Rattle.em_space.proofs.Steps.{block_cause, cause_after, touches_wider}
use Rattle.em_space.proofs.Within.{touches_within}
use Rattle.em_chain.specs.Chain.{chain_blocks}
use Rattle.em_chain.specs.declared.chain.Chain.{Chain}
use Rattle.em_queued.specs.Queued.{Called, StopsBeside}
use Rattle.em_queued.specs.Room.{FitsRoom, FullBeside}
use Rattle.em_queued.proofs.Room.{full_others, full_then, full_unneeded, full_wider}
use Rattle.em_queued.proofs.Queued.{beside_as, called_none, shares_frames}
use Rattle.aig_defs.specs.Circuit.{Circuit}
use Rattle.em_record.specs.declared.record.Record.{Record}
use Rattle.aig_defs.specs.declared.fault.AigKind.TheVariants as kind
use Rattle.aig_text.specs.Ascii.{ArePartsOf, IfEmStop}
use Rattle.aig_text.specs.Draft.{chains_blocks}
use Rattle.aig_text.specs.Parts.{lists_blocks}
use Rattle.aig_text.specs.declared.parts.Parts.{Parts}
use Rattle.aig_text.specs.declared.stop.AigStop.{AigStop}
use Rattle.aig_text.specs.declared.stop.AigStop.TheVariants as stop
use Rattle.aig_edges.specs.BuildGraph.{IsFaultOfParts, IsDefinitionKind, StopsBuilding, sort_calls, sort_peak, sort_run}
use Rattle.aig_edges.specs.Comparing.{AreSortedOf, ComparesTo, compare_moves, compare_peak}
use Rattle.aig_edges.specs.Looks.{Looks, StopsLooking}
use Rattle.aig_edges.specs.Making.{BuildsNone}
use Rattle.aig_edges.specs.Accounts.{stored_account}
use Rattle.aig_edges.proofs.Looks.{looks_none}
use Rattle.aig_edges.proofs.Pushes.{stops_value}
use Rattle.aig_edges.proofs.Room.{stop_by}
use Rattle.aig_edges.proofs.Stands.{StandsBeside, one_and_others, runs_wider, runs_within}

-- The last calls before a stop: they touched these blocks at most, and aren't accounted for.
record HaltsBeside (calls peak : ℕ) (held : List ℕ) (blocks owed : ℕ) (c d : QueueCounts)
    (s t : RigState) : Type 0 where
  sound : Sound t
  touches : Touches held s t
  frames : Shares c d s.pool t.pool
  called : Called calls c d
  most : t.most + (c.blocks + blocks) ≤ max (s.most + (c.blocks + blocks)) (s.used + (d.most + peak))
  moves : t.moves + c.spent ≤ s.moves + (owed + d.spent)
  pays : Pays c.unstored (s.pool.shape.frames + 2) s t

-- What was done until then, and why.
none_made : {Q : Type 0} (q : QueueGhosts Q) (x y w : Q) {s t u : RigState} (p : Parts)
    {n more peak owed : ℕ} (ks : List ℕ) {a b c : Chain} {f g h : Circuit → List Record}
    (e : AigStop) → StandsBeside q x y s t p n owed a b c f g h → more ≤ sort_run p.header
    → n + more ≤ sort_calls p.header → peak ≤ sort_peak s p
    → ks ≡ q.blocks y t ++ chains_blocks t a b c
    → HaltsBeside more peak ks (a.blocks + (b.blocks + c.blocks)) owed (q.counts y) (q.counts w) t u
    → StopsBuilding s p (Err e) → IfEmStop e (Cause s u)
    → IfEmStop e (FullBeside q.room (a.blocks + (b.blocks + c.blocks)) peak (q.counts y) (q.counts w).k t)
    → BuildsNone q x w s u p e
none_made q x y w {s} {t} {u} p {n} {more} ks e o l m fits same v stops cause full =
    let r = o.runs.runs in
    let k = r.spends in
    let within = (beside_as ks o.runs (λ z. same)).runs.session.within in
    let shape : t.pool.shape.frames ≡ s.pool.shape.frames =
    ap (λ (z : ShapeNumbers). z.frames) r.session.touches.shape in
    record {
      done = record {
        sound = v.sound;
        touches = touches_within s t u (q.blocks x s ++ lists_blocks s p) ks r.session.touches within
            v.touches;
        shares = shares_then (q.counts x) (q.counts y) (q.counts w) s.pool t.pool u.pool
            (shares_frames r.frames o.runs.calls_on.frames o.runs.calls_on.areas) v.frames;
        called = runs_wider m (runs_within n (sort_run p.header) more (q.counts x) (q.counts y)
            (q.counts w) l o.in_runs o.rests v.called);
        most = omega (arith, k.used, k.most, v.most, v.called.more, fits);
        moves = omega (arith, k.moves, v.moves);
      };
      stops = stops;
      cause = cause;
      full = stop_by e (λ f z. full_then o.runs fits z) full;
      pays = pays_then (pays_more {q = (q.counts y).unstored} k.pays (omega arith))
          (pays_more {q = s.pool.shape.frames + 2} v.pays (omega (arith, shape))) v.touches.moves;
    }

-- A list wasn't sorted,
pub sort_none : {Q : Type 0} (q : QueueGhosts Q) (x y w : Q) {s t u : RigState} (p : Parts)
    {n more peak owed : ℕ} (m rest : ℕ) {a b c : Chain} {f g h : Circuit → List Record}
    {fault : EmFault} → StandsBeside q x y s t p n owed a b c f g h → owed ≡ m + rest
    → more ≤ sort_run p.header → n + more ≤ sort_calls p.header
    → peak + (b.blocks + c.blocks) ≤ sort_peak s p
    → StopsBeside q.room more peak 0 1 (q.blocks y t ++ chain_blocks t a) (stored_account a.blocks m)
    (q.counts y) (q.counts w) t u fault → BuildsNone q x w s u p (stop.Em fault)
sort_none q x y w {s} {t} {u} p m rest {a} {b} {c} {fault = fault} o e l k fits v =
    let qs = q.blocks y t in
    let xs = chain_blocks t a in
    let others = chain_blocks t b ++ chain_blocks t c in
    let z = stops_value others (stored_account (b.blocks + c.blocks) rest)
    (one_and_others m rest a.blocks b.blocks c.blocks e) v in
    none_made q x y w p ((qs ++ xs) ++ others) (stop.Em fault) o l k fits
    (append_assoc qs xs others)
    (record {
      sound = z.sound;
      touches = z.touches;
      frames = z.frames;
      called = z.called;
      most = omega (arith, z.most);
      moves = omega (arith, z.moves);
      pays = pays_more z.pays (omega arith);
    }) tt
    (cause_after (q.blocks x s ++ lists_blocks s p) s t u fault o.runs.runs.session.touches v.cause)
    z.full

looks_halt : {c : QueueCounts} {m size owed : ℕ} {t u : RigState} (peak : ℕ) (ks : List ℕ)
    → m ≤ owed → c.unstored ≤ t.pool.shape.frames → Looks m t u → HaltsBeside 0 peak ks size owed c c t u
looks_halt {c} {m} {size} {owed} {t} {u} peak ks l few looks = record {
  sound = looks.goes.sound;
  touches = touches_wider ks [] t u looks.goes.touches (λ z k i o. tt);
  frames = shares_same c t.pool u.pool looks.goes.frames;
  called = called_none c;
  most = omega (arith, looks.most_is);
  moves = omega (arith, looks.moves, l);
  pays = pays_more (pays_kept 0 (omega (arith, looks.used)) looks.goes.touches.moves)
      (omega (arith, few));
}

-- or not looked at,
pub look_none : {Q : Type 0} (q : QueueGhosts Q) (x y : Q) {s t u : RigState} (p : Parts)
    {n m owed : ℕ} {a b c : Chain} {f g h : Circuit → List Record} {fault : EmFault}
    → StandsBeside q x y s t p n owed a b c f g h → m ≤ owed → n ≤ sort_calls p.header
    → (q.counts y).unstored ≤ t.pool.shape.frames → StopsLooking m t u fault
    → BuildsNone q x y s u p (stop.Em fault)
look_none q x y {s} {t} {u} p {a = a} {b} {c} {fault = fault} o l k few v =
    none_made q x y y p (q.blocks y t ++ chains_blocks t a b c) (stop.Em fault) o
    (omega arith) (omega (arith, k)) (omega arith) refl
    (looks_halt (sort_peak s p) (q.blocks y t ++ chains_blocks t a b c) l few v.looks) tt
    (cause_after (q.blocks x s ++ lists_blocks s p) s t u fault o.runs.runs.session.touches
    (block_cause t u fault v.cause))
    (full_unneeded t u fault v.cause)

-- or a variable is defined twice.
pub twice_none : {Q : Type 0} (q : QueueGhosts Q) (x y : Q) {s t : RigState} (p : Parts)
    {n owed : ℕ} {a b c : Chain} {f g h : Circuit → List Record} (v : ℕ)
    → StandsBeside q x y s t p n owed a b c f g h → n ≤ sort_calls p.header
    → (q.counts y).unstored ≤ t.pool.shape.frames → IsFaultOfParts s p kind.Twice v
    → BuildsNone q x y s t p (stop.Fault kind.Twice v)
twice_none q x y {s} {t} p {a = a} {b} {c} v o k few i =
    none_made q x y y p (q.blocks y t ++ chains_blocks t a b c) (stop.Fault kind.Twice v) o
    (omega arith) (omega (arith, k)) (omega arith) refl
    (looks_halt {m = 0} (sort_peak s p) (q.blocks y t ++ chains_blocks t a b c) (omega arith) few
    (looks_none 0 o.runs.runs.session.sound)) i tt tt

-- the moves and the peak of comparing are what is left of all
pub record CanHalt {Q : Type 0} (q : QueueGhosts Q) (y : Q) (s t : RigState) (p : Parts)
    (n owed k : ℕ) (d e g : Chain) : Type 0 where
  pub calls : n ≤ sort_calls p.header
  pub blocks : (q.counts y).blocks ≤ (q.counts y).most
  pub few : (q.counts y).unstored ≤ t.pool.shape.frames
  pub room : FitsRoom q.room (q.counts y) t
  pub owed_is : owed ≡ compare_moves t d e k
  pub fits : compare_peak t d e k + g.blocks ≤ sort_peak s p

-- Definitions and edges weren't compared, or have a fault.
compare_halted : {Q : Type 0} (q : QueueGhosts Q) (x y : Q) {s t u : RigState} (p : Parts)
    {n owed k : ℕ} {d e g : Chain} {i j l : Circuit → List Record} (r : AigStop)
    → StandsBeside q x y s t p n owed d e g i j l → CanHalt q y s t p n owed k d e g
    → Goes (chain_blocks t d ++ chain_blocks t e) t u
    → u.most + (d.blocks + e.blocks)
    ≤ max (t.most + (d.blocks + e.blocks)) (t.used + compare_peak t d e k)
    → u.moves ≤ t.moves + compare_moves t d e k → Pays 0 2 t u
    → StopsBuilding s p (Err r) → IfEmStop r (Cause s u)
    → IfEmStop r (FullBeside q.room (d.blocks + e.blocks) (compare_peak t d e k) (q.counts y) (q.counts y).k t)
    → BuildsNone q x y s u p r
compare_halted q x y {s} {t} {u} p {n} {owed} {k} {d} {e} {g} r o can goes most moves pays stops
    cause full =
    let qs = q.blocks y t in
    let ds = chain_blocks t d in
    let es = chain_blocks t e in
    let gs = chain_blocks t g in
    none_made q x y y p {peak = compare_peak t d e k + g.blocks} (qs ++ ((ds ++ es) ++ gs)) r o
    (omega arith) (let v = can.calls in omega (arith, v)) can.fits
    (ap (λ (v : List ℕ). qs ++ v) (append_assoc ds es gs))
    (record {
      sound = goes.sound;
      touches = touches_wider (qs ++ ((ds ++ es) ++ gs)) (ds ++ es) t u goes.touches
          (λ z v i w. off_left v (ds ++ es) gs (off_right v qs ((ds ++ es) ++ gs) w));
      frames = shares_same (q.counts y) t.pool u.pool goes.frames;
      called = called_none (q.counts y);
      most = let v = can.blocks in omega (arith, most, v);
      moves = omega (arith, moves, can.owed_is);
      pays = let v = can.few in pays_more pays (omega (arith, v));
    }) stops cause (stop_by r (λ f z. full_wider (omega arith) z) full)

pub compare_none : {Q : Type 0} (q : QueueGhosts Q) (x y : Q) {s t u : RigState} (p : Parts)
    {n owed k : ℕ} {d e g : Chain} {i j l : Circuit → List Record} (r : AigStop)
    → StandsBeside q x y s t p n owed d e g i j l → CanHalt q y s t p n owed k d e g
    → (IsTrue s.device.told → (c : Circuit) → ArePartsOf s p c → AreSortedOf t d e k c)
    → ComparesTo t u d e k (Err r) → BuildsNone q x y s u p r
compare_none q x y {s} {t} {u} p {k = k} {d} {e} (stop.Fault fault place) o can are v =
    compare_halted q x y p {k = k} (stop.Fault fault place) o can v.goes v.most v.moves v.pays
    (record {
      kind_is = subst IsDefinitionKind (sym v.kind_is) tt;
      found = λ z c a. v.found (o.runs.runs.session.touches.told ∙ z) c (are z c a);
    }) tt tt
compare_none q x y p stop.Read o can are v = absurd v
compare_none q x y {s} {t} {u} p {k = k} (stop.Em fault) o can are v =
    compare_halted q x y p {k = k} (stop.Em fault) o can v.goes v.halts.most
    (let z = v.halts.moves in omega (arith, z)) v.halts.pays tt
    (cause_after (q.blocks x s ++ lists_blocks s p) s t u fault o.runs.runs.session.touches v.cause)
    (full_others (q.counts y) fault can.blocks can.room v.halts v.cause)

-- what comparing touched, if it stopped
pub compare_goes : {t u : RigState} (k : ℕ) (d e : Chain) (r : AigStop)
    → ComparesTo t u d e k (Err r) → Goes (chain_blocks t d ++ chain_blocks t e) t u
compare_goes k d e (stop.Fault fault place) v = v.goes
compare_goes k d e stop.Read v = absurd v
compare_goes k d e (stop.Em fault) v = v.goes
