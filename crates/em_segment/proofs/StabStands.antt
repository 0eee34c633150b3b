-- The state between two steps of the end of an interval list, and where it gave up.
use Rattle.std.proofs.Common.{IfSome, IsTrue, List, ℕ, ap, arith, max, refl, ◌*◌, ◌++◌, ◌+◌, ◌∙◌, ◌≡◌, ◌≤◌}
use Rattle.em_record.specs.Shape.{ShapeNumbers, fan_of}
use Rattle.em_frames.specs.Pool.{GivenFrames}
use Rattle.em_space.specs.Ledger.{Account, Session}
use Rattle.em_space.specs.Queue.{AreOut, CanServe, Pays, QueueCounts}
use Rattle.em_space.specs.Rig.{Cause, RigState, Sound, Touches}
use Rattle.em_space.specs.declared.fault.EmFault.{EmFault}
use Rattle.em_space.specs.declared.queue.Queue.{Ghosts as QueueGhosts}
use Rattle.em_space.proofs.Apart.{off_right}
use Rattle.em_space.proofs.Paying.{pays_more, pays_then}
use Rattle.em_space.proofs.Sessions.{session_as, session_last, session_none, session_trans}
use Rattle.em_space.proofs.Steps.{cause_after, touches_wider}
use Rattle.em_space.proofs.Within.{touches_within}
use Rattle.em_chain.specs.declared.chain.Chain.{Chain}
use Rattle.em_queued.specs.Queued.{RunsBeside, StopsBeside}
use Rattle.em_queued.specs.Room.{FullBeside}
use Rattle.em_queued.proofs.Room.{full_from, full_others}
use Rattle.em_tree_cost.proofs.Levels.{fan_wide, frames_wide}
use Rattle.em_segment.specs.Answers.{call_blocks}
use Rattle.em_segment.specs.Finishes.{CanFinish, ClosesBoth, SharesMore, StopsClosing}
use Rattle.em_segment.specs.Stabs.{stab_account, stab_blocks}
use Rattle.em_segment.specs.declared.stab.Stab.{Stab}

-- No call was refused so far: beside the queue the lists have these blocks, b in number. The queue had at
-- most this many calls, and k of it rose to no more than the longest row of them.
pub record StabStands {Q : Type 0} (q : QueueGhosts Q) (x y : Q) (s t : RigState) (v : Stab)
    (peak moved calls longest : ℕ) (js : List ℕ) (b : ℕ) : Type 0 where
  pub session : Session (q.blocks x s ++ stab_blocks s v) s t (q.blocks y t ++ js)
  pub frames : GivenFrames 2 s.pool t.pool
  pub frames_are : (q.counts y).frames ≡ (q.counts x).frames
  pub areas_are : (q.counts y).areas ≡ (q.counts x).areas
  pub n : (q.counts y).n ≤ (q.counts x).n + calls
  pub k : (q.counts y).k ≤ max (q.counts x).k longest
  pub more : (q.counts x).most ≤ (q.counts y).most
  pub used : t.used + ((q.counts x).blocks + (stab_account v).blocks) ≡ s.used + ((q.counts y).blocks + b)
  pub most : t.most + ((q.counts x).blocks + (stab_account v).blocks)
      ≤ max (s.most + ((q.counts x).blocks + (stab_account v).blocks)) (s.used + ((q.counts y).most + peak))
  pub moves : t.moves + (q.counts x).spent + (stab_account v).paid ≤ s.moves + (q.counts y).spent + moved
  pub later : s.moves ≤ t.moves
  pub pays : Pays ((q.counts x).unstored + (stab_account v).unstored) (q.counts y).unstored s t

-- A call was refused, likewise.
pub record StabHalts {Q : Type 0} (q : QueueGhosts Q) (x y : Q) (s t : RigState) (v : Stab)
    (peak moved calls longest : ℕ) (fault : EmFault) : Type 0 where
  pub sound : Sound t
  pub touches : Touches (q.blocks x s ++ stab_blocks s v) s t
  pub frames : SharesMore 2 (q.counts x) (q.counts y) s.pool t.pool
  pub n : (q.counts y).n ≤ (q.counts x).n + calls
  pub k : (q.counts y).k ≤ max (q.counts x).k longest
  pub most : t.most + ((q.counts x).blocks + (stab_account v).blocks)
      ≤ max (s.most + ((q.counts x).blocks + (stab_account v).blocks)) (s.used + ((q.counts y).most + peak))
  pub moves : t.moves + (q.counts x).spent + (stab_account v).paid ≤ s.moves + (q.counts y).spent + moved
  pub pays : Pays ((q.counts x).unstored + (stab_account v).unstored) (s.pool.shape.frames + 1) s t
  pub cause : Cause s t fault
  pub full : FullBeside q.room (stab_account v).blocks peak (q.counts x) (q.counts y).k s fault

-- The queue's blocks that aren't stored and those of the recursion are no more than the frames.
pub frames_room : {c : QueueCounts} {s : RigState} → Sound s → c.unstored ≤ c.frames → AreOut c s.pool
    → CanServe s.pool → c.unstored + (2 * fan_of s.pool.shape + 2) ≤ s.pool.shape.frames
frames_room {c} {s} h l o f =
    let w = frames_wide s.pool.shape h.shape in let n = fan_wide s.pool.shape h.shape in
    omega (arith, w, n, l, o.singles, f.singles)

-- Both lists are chains,
pub stands_closed : {Q : Type 0} (q : QueueGhosts Q) (x : Q) {s t : RigState} {v : Stab}
    {pieces points : Chain} → Sound s → CanFinish q x s v → (q.counts x).blocks ≤ (q.counts x).most
    → ClosesBoth s t v pieces points → (IsTrue s.device.told → q.blocks x t ≡ q.blocks x s)
    → StabStands q x x s t v (points.blocks + pieces.blocks) (2 * (points.blocks + pieces.blocks) + 2) 0 0
    (call_blocks t points pieces) (points.blocks + pieces.blocks)
stands_closed q x {s} {t} {v} {pieces} {points} h can l c same =
    let k = c.spends in
    let qs = q.blocks x s in
    let js = call_blocks t points pieces in
    let pb = c.pieces_blocks in
    let qb = c.points_blocks in
    record {
      session = session_as (q.blocks x t ++ js)
          (session_last qs (stab_blocks s v) js (session_none s (qs ++ stab_blocks s v) h can.holds)
          c.session)
          (λ z. ap (λ (ks : List ℕ). ks ++ js) (same z));
      frames = c.frames;
      frames_are = refl;
      areas_are = refl;
      n = omega arith;
      k = omega arith;
      more = omega arith;
      used = omega (arith, k.used);
      most = omega (arith, k.most, l, pb, qb);
      moves = omega (arith, k.moves);
      later = k.later;
      pays = pays_more k.pays (omega arith);
    }

-- or they didn't become chains.
pub halts_closed : {Q : Type 0} (q : QueueGhosts Q) (x : Q) {s t : RigState} {v : Stab} {fault : EmFault}
    → Sound s → CanFinish q x s v → (q.counts x).blocks ≤ (q.counts x).most
    → (q.counts x).unstored ≤ (q.counts x).frames → AreOut (q.counts x) s.pool
    → (IsTrue s.device.told → IfSome q.room (λ f. (q.counts x).most ≤ f s.pool.shape (q.counts x).k))
    → StopsClosing s t v fault
    → StabHalts q x x s t v (stab_account v).blocks ((stab_account v).paid + 2) 0 0 fault
halts_closed q x {s} {t} {v} {fault} h can l m o fits c =
    let k = c.halts in
    let room = frames_room h m o can.free in
    record {
      sound = c.sound;
      touches = touches_wider (q.blocks x s ++ stab_blocks s v) (stab_blocks s v) s t c.touches
          (λ z i u a. off_right i (q.blocks x s) (stab_blocks s v) a);
      frames = record {
        shape = c.frames.shape;
        free = omega (arith, c.frames.free);
        areas = omega (arith, c.frames.free_areas);
        rack = c.frames.rack;
        peak = c.frames.peak;
      };
      n = omega arith;
      k = omega arith;
      most = omega (arith, k.most, l);
      moves = omega (arith, k.moves);
      pays = pays_more k.pays (omega (arith, room));
      cause = c.cause;
      full = full_others (q.counts x) fault l fits k c.cause;
    }

-- What the accounts of lists are that stand beside the queue: all their blocks are stored.
pub record IsLists (b : ℕ) (a : Account) : Type 0 where
  pub blocks : a.blocks ≡ b
  pub unstored : a.unstored ≡ 0
  pub paid : a.paid ≡ 0

-- A step that wasn't refused,
pub stands_then : {Q : Type 0} (q : QueueGhosts Q) (x y w : Q) {s t u : RigState} {v : Stab}
    {p m n l r i k b : ℕ} {js ks : List ℕ} {a e : Account} → StabStands q x y s t v p m n l js b
    → RunsBeside i r (q.blocks y t ++ js) (q.blocks w u ++ ks) a e (q.counts y) (q.counts w) t u
    → IsLists b a → e.unstored ≡ 0 → (q.counts y).since + i ≤ k
    → StabStands q x w s u v (max p r) (m + (a.owed + e.paid)) (n + i) (max l k) ks e.blocks
stands_then q x y w {s} {t} {u} {a = a} {e} h g is stored few =
    let f = g.runs.spends in
    let o = g.calls_on in
    record {
      session = session_trans h.session g.runs.session;
      frames = record {
        shape = g.runs.frames.shape ∙ h.frames.shape;
        free = omega (arith, h.frames.free, g.runs.frames.free);
        rack = g.runs.frames.rack ∙ h.frames.rack;
        free_areas = g.runs.frames.free_areas ∙ h.frames.free_areas;
        peak = omega (arith, h.frames.peak, g.runs.frames.peak);
      };
      frames_are = o.frames ∙ h.frames_are;
      areas_are = o.areas ∙ h.areas_are;
      n = omega (arith, h.n, o.called.n);
      k = omega (arith, h.k, o.called.k, few);
      more = omega (arith, h.more, o.called.more);
      used = omega (arith, h.used, f.used, is.blocks);
      most = omega (arith, h.used, h.most, f.most, is.blocks, o.called.more);
      moves = omega (arith, h.moves, f.moves, is.paid);
      later = omega (arith, h.later, f.later);
      pays = pays_then h.pays (pays_more f.pays (omega (arith, is.unstored, stored))) f.later;
    }

-- or one that was.
pub stands_stop : {Q : Type 0} (q : QueueGhosts Q) (x y w : Q) {s t u : RigState} {v : Stab}
    {p m n l r i j k o b : ℕ} {js : List ℕ} {a : Account} {fault : EmFault}
    → StabStands q x y s t v p m n l js b
    → StopsBeside q.room i r j o (q.blocks y t ++ js) a (q.counts y) (q.counts w) t u fault → IsLists b a
    → o ≤ 1 → (q.counts y).since + i ≤ k
    → StabHalts q x w s u v (max p r) (m + (a.owed + j)) (n + i) (max l k) fault
stands_stop q x y w {s} {t} {u} {v} {p = p} {r = r} {b = b} {js} {a} {fault} h g is one few =
    let first = h.session.touches in
    let shape : t.pool.shape.frames ≡ s.pool.shape.frames =
    ap (λ (z : ShapeNumbers). z.frames) first.shape in
    let last : Pays (q.counts y).unstored (s.pool.shape.frames + 1) t u =
    pays_more g.pays (omega (arith, shape, is.unstored, one)) in
    let used = h.used in
    record {
      sound = g.sound;
      touches = touches_within s t u (q.blocks x s ++ stab_blocks s v) (q.blocks y t ++ js) first
          h.session.within g.touches;
      frames = record {
        shape = g.frames.shape ∙ h.frames.shape;
        free = omega (arith, g.frames.free, h.frames.free, h.frames_are);
        areas = omega (arith, g.frames.areas, h.frames.free_areas, h.areas_are);
        rack = g.frames.rack ∙ h.frames.rack;
        peak = omega (arith, g.frames.peak, h.frames.peak);
      };
      n = omega (arith, h.n, g.called.n);
      k = omega (arith, h.k, g.called.k, few);
      most = omega (arith, used, h.most, g.most, is.blocks, g.called.more);
      moves = omega (arith, h.moves, g.moves, is.paid);
      pays = pays_then h.pays last g.touches.moves;
      cause = cause_after (q.blocks x s ++ stab_blocks s v) s t u fault first g.cause;
      full = full_from first.shape first.told (omega (arith, used, is.blocks)) g.full;
    }
