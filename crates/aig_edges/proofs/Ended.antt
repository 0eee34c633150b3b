-- The queue is ended after a graph was made, or abandoned.
use Rattle.std.proofs.Common.{◌≡◌, ℕ, ◌+◌, ◌≤◌, inl, inr, max, Option, None, Some, IfSome, List, [], ◌++◌, IsTrue, subst, ap, sym, ◌∙◌, arith}
use Rattle.em_record.specs.Shape.{ShapeNumbers}
use Rattle.em_frames.specs.Pool.{PoolCounts}
use Rattle.em_space.specs.Held.{Apart, Holds}
use Rattle.em_space.specs.Ledger.{Session}
use Rattle.em_space.specs.Queue.{Ended, Ends, ending_most, IsRising, IsRisingRoom, Leaves, Pays, QueueCounts, Shares}
use Rattle.em_space.specs.Rig.{RigState, Cause, Touches}
use Rattle.em_space.specs.declared.fault.EmFault.TheVariants.{DeviceFault, Full, Damaged}
use Rattle.em_space.specs.declared.queue.Queue.{Ghosts as QueueGhosts}
use Rattle.em_space.proofs.Apart.{off_append, off_left, off_right}
use Rattle.em_space.proofs.Lists.{apart_sym, distinct_apart}
use Rattle.em_space.proofs.Paying.{pays_kept, pays_more, pays_then}
use Rattle.em_space.proofs.Queues.{most_at_end}
use Rattle.em_space.proofs.Sessions.{session_as, session_then}
use Rattle.em_space.proofs.Steps.{touches_wider}
use Rattle.em_space.proofs.Within.{touches_within}
use Rattle.em_chain.specs.Chain.{chain_blocks}
use Rattle.em_chain.specs.declared.chain.Chain.{Chain}
use Rattle.em_queued.proofs.Queued.{shares_frames}
use Rattle.aig_text.specs.Ascii.{IfEmStop}
use Rattle.aig_text.specs.Parts.{lists_blocks, parts_blocks}
use Rattle.aig_text.specs.declared.parts.Parts.{Parts}
use Rattle.aig_text.specs.declared.stop.AigStop.{AigStop}
use Rattle.aig_text.specs.declared.stop.AigStop.TheVariants as stop
use Rattle.aig_edges.specs.Build.{UsesUp, parts_size}
use Rattle.aig_edges.specs.BuildGraph.{BuildsGraph, CalledInRuns, SortCosts, sort_calls, sort_moves, sort_peak, sort_run}
use Rattle.aig_edges.specs.Graph.{graph_blocks, graph_lists, graph_size}
use Rattle.aig_edges.specs.Making.{BuildsBeside, DoneUntil}
use Rattle.aig_edges.specs.declared.graph.Graph.{Graph}
use Rattle.aig_edges.proofs.Besides.{session_past}
use Rattle.aig_edges.proofs.GraphLaws.{GraphStays, graph_stays}

-- the blocks of a queue and of a circuit's parts
abbrev pub held_at : {Q : Type 0} → QueueGhosts Q → Q → RigState → Parts → List ℕ
held_at q x s p = q.blocks x s ++ parts_blocks s p

-- what may be changed of a circuit's lists may be changed of its parts
all_touched : {Q : Type 0} (q : QueueGhosts Q) (x : Q) {s t : RigState} (p : Parts)
    → Touches (q.blocks x s ++ lists_blocks s p) s t → Touches (held_at q x s p) s t
all_touched q x {s} {t} p h =
    let qs = q.blocks x s in
    let rs = chain_blocks s p.resets in
    let ls = lists_blocks s p in
    touches_wider (held_at q x s p) (qs ++ ls) s t h (λ z j i o.
    off_append j qs ls (off_left j qs (rs ++ ls) o) (off_right j rs ls (off_right j qs (rs ++ ls) o)))

-- What was done until the queue is ended.
pub until_built : {Q : Type 0} (q : QueueGhosts Q) (x y : Q) {s u : RigState} {m : Graph}
    (p : Parts) → BuildsBeside q x y s u p m → DoneUntil q x y s u p
until_built q x y {s} {u} p b =
    let g = b.runs.runs in
    let on = b.runs.calls_on in
    record {
      sound = g.session.sound;
      touches = g.session.touches;
      shares = shares_frames g.frames on.frames on.areas;
      called = b.in_runs;
      most = omega (arith, g.spends.most);
      moves = omega (arith, g.spends.moves);
    }

-- The queue gave its frames back.
pub shares_gone : (c d : QueueCounts) (p q r : PoolCounts) → Shares c d p q
    → Shares d (record d { frames = 0; areas = 0 }) q r
    → Shares c (record c { frames = 0; areas = 0 }) p r
shares_gone c d p q r x y = record {
  shape = y.shape ∙ x.shape;
  free = omega (arith, x.free, y.free);
  areas = omega (arith, x.areas, y.areas);
  rack = y.rack ∙ x.rack;
  peak = omega (arith, x.peak, y.peak);
}

pub up_left : {Q : Type 0} (q : QueueGhosts Q) (x y : Q) {s u v : RigState} (p : Parts)
    → DoneUntil q x y s u p → Leaves (q.counts y) u v
    → UsesUp (held_at q x s p) (q.counts x) s v
up_left q x y {s} {u} {v} p h l = record {
  sound = l.sound;
  touches = touches_within s u v (held_at q x s p) [] (all_touched q x p h.touches)
      (record { off = λ z j i o. tt }) l.touches;
  frames = shares_gone (q.counts x) (q.counts y) s.pool u.pool v.pool h.shares l.frames;
}

-- the moves within an allowance,
pub allowed : (o : Option (ShapeNumbers → ℕ → ℕ → ℕ)) (s u v : RigState) (c d : QueueCounts)
    (calls run own : ℕ) → u.pool.shape ≡ s.pool.shape → CalledInRuns calls run c d
    → u.moves + c.spent ≤ s.moves + d.spent + own → IfSome o IsRising
    → IfSome o (λ f. d.spent + v.moves ≤ u.moves + f u.pool.shape d.n d.k)
    → IfSome o (λ f. v.moves + c.spent
    ≤ s.moves + f s.pool.shape (c.n + calls) (max c.k (c.since + run)) + own)
allowed None s u v c d calls run own e h m r x = tt
allowed (Some f) s u v c d calls run own e h m r x =
    let y = r s.pool.shape d.n (c.n + calls) d.k (max c.k (c.since + run)) h.n h.k in
    let z = ap (λ (a : ShapeNumbers). f a d.n d.k) e in
    omega (arith, m, x, y, z)

pub still_allowed : (o : Option (ShapeNumbers → ℕ → ℕ → ℕ)) (u v : RigState) (d : QueueCounts)
    → v.moves ≡ u.moves → IfSome o (λ f. d.spent ≤ f u.pool.shape d.n d.k)
    → IfSome o (λ f. d.spent + v.moves ≤ u.moves + f u.pool.shape d.n d.k)
still_allowed None u v d e x = tt
still_allowed (Some f) u v d e x = omega (arith, e, x)

-- and the blocks within a room, after it was abandoned,
pub roomy : (o : Option (ShapeNumbers → ℕ → ℕ)) (s u v : RigState) (c d : QueueCounts)
    (calls run held peak : ℕ) → u.pool.shape ≡ s.pool.shape → CalledInRuns calls run c d
    → u.most + (c.blocks + held) ≤ max (s.most + (c.blocks + held)) (s.used + (d.most + peak))
    → v.most ≡ u.most → IfSome o IsRisingRoom → IfSome o (λ f. d.most ≤ f u.pool.shape d.k)
    → IfSome o (λ f. v.most + (c.blocks + held) ≤ max (s.most + (c.blocks + held))
    (s.used + (f s.pool.shape (max c.k (c.since + run)) + peak)))
roomy None s u v c d calls run held peak e h m n r x = tt
roomy (Some f) s u v c d calls run held peak e h m n r x =
    let y = r s.pool.shape d.k (max c.k (c.since + run)) h.k in
    let z = ap (λ (a : ShapeNumbers). f a d.k) e in
    omega (arith, m, n, x, y, z)

-- and after it was ended.
pub ended_roomy : (o : Option (ShapeNumbers → ℕ → ℕ)) (s u v : RigState) (c d : QueueCounts)
    (calls run held peak left : ℕ) → u.pool.shape ≡ s.pool.shape → CalledInRuns calls run c d
    → u.most + (c.blocks + held) ≤ max (s.most + (c.blocks + held)) (s.used + (d.most + peak))
    → u.used + (c.blocks + held) ≡ s.used + (d.blocks + left) → left ≤ peak
    → IfSome o IsRisingRoom → IfSome o (λ f. d.most ≤ f u.pool.shape d.k)
    → v.most + d.blocks ≤ max (u.most + d.blocks) (u.used + ending_most o u.pool.shape d)
    → IfSome o (λ f. v.most + (c.blocks + held) ≤ max (s.most + (c.blocks + held))
    (s.used + (f s.pool.shape (max c.k (c.since + run)) + peak)))
ended_roomy None s u v c d calls run held peak left e h m n l r x w = tt
ended_roomy (Some f) s u v c d calls run held peak left e h m n l r x w =
    let y = r s.pool.shape d.k (max c.k (c.since + run)) h.k in
    let z = ap (λ (a : ShapeNumbers). f a d.k) e in
    let b : v.most + d.blocks ≤ max (u.most + d.blocks) (u.used + f u.pool.shape d.k) = w in
    omega (arith, m, n, l, x, y, z, b)

-- The same of a bound on what it holds while it ends.
pub ended_within : (top : ℕ) {end : ℕ} (s u v : RigState) (c d : QueueCounts) (held peak left : ℕ)
    → u.most + (c.blocks + held) ≤ max (s.most + (c.blocks + held)) (s.used + (d.most + peak))
    → u.used + (c.blocks + held) ≡ s.used + (d.blocks + left) → left ≤ peak → d.most ≤ top
    → top ≡ end → v.most + d.blocks ≤ max (u.most + d.blocks) (u.used + top)
    → v.most + (c.blocks + held) ≤ max (s.most + (c.blocks + held)) (s.used + (end + peak))
ended_within top s u v c d held peak left m n l x e w = omega (arith, m, n, l, x, e, w)

-- its costs as a caller is told them
abbrev pub GraphCosts : {Q : Type 0} → QueueGhosts Q → Q → RigState → RigState → Parts → Type 0
GraphCosts q x s v p = SortCosts q (sort_calls p.header) (sort_run p.header) (sort_moves s p)
    (parts_size p) (sort_peak s p) (q.counts x) s v

pub costs_left : {Q : Type 0} (q : QueueGhosts Q) (x y : Q) {s u v : RigState} (p : Parts)
    → DoneUntil q x y s u p → q.HasItsFrames y u → Leaves (q.counts y) u v
    → IfSome q.allowance IsRising
    → (IsTrue u.device.told → IfSome q.allowance (λ f. (q.counts y).spent
    ≤ f u.pool.shape (q.counts y).n (q.counts y).k))
    → IfSome q.room IsRisingRoom
    → (IsTrue u.device.told → IfSome q.room (λ f. (q.counts y).most ≤ f u.pool.shape (q.counts y).k))
    → GraphCosts q x s v p
costs_left q x y {s} {u} {v} p h has l rising spends rising_room fits =
    let calls = sort_calls p.header in
    let run = sort_run p.header in
    let e = h.shares.shape in
    let n = ap (λ (z : RigState). z.moves) l.same in
    let m = ap (λ (z : RigState). z.most) l.same in
    record {
      last = y;
      then = u;
      gone = inr l;
      frames = has;
      shape = e;
      called = h.called;
      most = λ told.
          let here = h.touches.told ∙ told in
          let top = most_at_end q.room u.pool.shape (q.counts y) (fits here) in
          let same = ap (λ (z : ShapeNumbers). ending_most q.room z (q.counts y)) e in
          omega (arith, h.most, m, top, same);
      moves = h.moves;
      all_moves = λ z. allowed q.allowance s u v (q.counts x) (q.counts y) calls run
          (sort_moves s p) e h.called h.moves rising
          (still_allowed q.allowance u v (q.counts y) n (spends (h.touches.told ∙ z)));
      room = λ told. roomy q.room s u v (q.counts x) (q.counts y) calls run (parts_size p) (sort_peak s p) e
          h.called h.most m rising_room (fits (h.touches.told ∙ told));
    }

-- after it was abandoned no more blocks aren't stored
pub pays_left : {Q : Type 0} (q : QueueGhosts Q) (x y : Q) {s u v : RigState}
    → Pays (q.counts x).unstored (s.pool.shape.frames + 2) s u → Leaves (q.counts y) u v
    → Pays (q.counts x).unstored (s.pool.shape.frames + 2) s v
pays_left q x y {s} {u} {v} h l =
    let used = ap (λ (z : RigState). z.used) l.same in
    let moves = ap (λ (z : RigState). z.moves) l.same in
    pays_then h (pays_kept (s.pool.shape.frames + 2) (omega (arith, used)) (omega (arith, moves)))
    (omega (arith, moves))

-- why a call gave up is as true after the queue was abandoned
pub cause_left : {c : QueueCounts} (s : RigState) {u v : RigState} (e : AigStop) → Leaves c u v
    → IfEmStop e (Cause s u) → IfEmStop e (Cause s v)
cause_left s (stop.Fault fault place) l h = tt
cause_left s stop.Read l h = tt
cause_left s (stop.Em DeviceFault) l h =
    subst (λ (w : RigState). Cause s w DeviceFault) (sym l.same) h
cause_left s (stop.Em (Full used)) l h =
    subst (λ (w : RigState). Cause s w (Full used)) (sym l.same) h
cause_left s (stop.Em (Damaged block)) l h =
    subst (λ (w : RigState). Cause s w (Damaged block)) (sym l.same) h

-- The graph was made, and the queue ended.
pub record EndedAfter {Q : Type 0} (q : QueueGhosts Q) (x : Q) (s u v : RigState) (p : Parts)
    (m : Graph) : Type 0 where
  pub session : Session (held_at q x s p) s v (graph_blocks v m)
  pub stays : GraphStays u v m

pub ended_after : {Q : Type 0} (q : QueueGhosts Q) (x y : Q) {s u v : RigState} {m : Graph}
    (p : Parts) → (IsTrue s.device.told → Holds s (held_at q x s p)) → BuildsBeside q x y s u p m
    → Ends q.allowance q.room (q.blocks y u) (q.counts y) u v → EndedAfter q x s u v p m
ended_after q x y {s} {u} {v} {m} p held b e =
    let ks = q.blocks y u in
    let gs = graph_blocks u m in
    let same : chain_blocks u m.resets ≡ chain_blocks u p.resets =
    ap (λ (c : Chain). chain_blocks u c) b.resets_are in
    let all = session_as (ks ++ gs) (session_past (q.blocks x s) (chain_blocks s p.resets)
    (lists_blocks s p) ks (graph_lists u m) held b.runs.runs.session)
    (λ z. ap (λ (js : List ℕ). ks ++ (js ++ graph_lists u m)) (same ∙ b.resets_stay.blocks z)) in
    let gone : Session ks u v [] = record {
      sound = e.sound;
      touches = e.touches;
      within = record { off = λ z j i o. tt };
      holds = λ z. record { in_use = tt; distinct = λ d. tt };
    } in
    let apart : IsTrue u.device.told → Apart gs ks = λ z.
    let all_held = all.holds (sym all.touches.told ∙ z) in
    apart_sym ks gs (distinct_apart ks gs (all_held.distinct z)) in
    let w = graph_stays ks u v m e.touches apart b.is in
    record {
      session = session_as (graph_blocks v m) (session_then ks [] gs all gone)
          (λ z. w.blocks (all.touches.told ∙ z));
      stays = w;
    }

pub up_ended : {Q : Type 0} (q : QueueGhosts Q) (x y : Q) {s u v : RigState} {m : Graph}
    (p : Parts) → (IsTrue s.device.told → Holds s (held_at q x s p)) → BuildsBeside q x y s u p m
    → Ends q.allowance q.room (q.blocks y u) (q.counts y) u v
    → UsesUp (held_at q x s p) (q.counts x) s v
up_ended q x y {s} {u} {v} p held b e =
    let h = until_built q x y p b in
    record {
      sound = e.sound;
      touches = (ended_after q x y p held b e).session.touches;
      frames = shares_gone (q.counts x) (q.counts y) s.pool u.pool v.pool h.shares e.frames;
    }

pub costs_ended : {Q : Type 0} (q : QueueGhosts Q) (x y : Q) {s u v : RigState} {m : Graph}
    (p : Parts) → BuildsBeside q x y s u p m → q.HasItsFrames y u
    → Ends q.allowance q.room (q.blocks y u) (q.counts y) u v
    → IfSome q.allowance IsRising → IfSome q.room IsRisingRoom
    → (IsTrue u.device.told → IfSome q.room (λ f. (q.counts y).most ≤ f u.pool.shape (q.counts y).k)) → GraphCosts q x s v p
costs_ended q x y {s} {u} {v} {m} p b has l rising rising_room fits =
    let h = until_built q x y p b in
    let calls = sort_calls p.header in
    let run = sort_run p.header in
    let e = h.shares.shape in
    let used = b.runs.runs.spends.used in
    let least : graph_size m ≤ sort_peak s p = omega (arith, b.edges, b.gates, b.sources) in
    record {
      last = y;
      then = u;
      gone = inl l;
      frames = has;
      shape = e;
      called = h.called;
      most = λ told.
          let here = h.touches.told ∙ told in
          let top = most_at_end q.room u.pool.shape (q.counts y) (fits here) in
          let same = ap (λ (z : ShapeNumbers). ending_most q.room z (q.counts y)) e in
          ended_within (ending_most q.room u.pool.shape (q.counts y)) s u v (q.counts x)
          (q.counts y) (parts_size p) (sort_peak s p) (graph_size m) h.most
          (omega (arith, used)) least top same (l.most here);
      moves = h.moves;
      all_moves = λ z. allowed q.allowance s u v (q.counts x) (q.counts y) calls run
          (sort_moves s p) e h.called h.moves rising (l.spent (h.touches.told ∙ z));
      room = λ told. ended_roomy q.room s u v (q.counts x) (q.counts y) calls run (parts_size p)
          (sort_peak s p) (graph_size m) e h.called h.most (omega (arith, used)) least rising_room
          (fits (h.touches.told ∙ told)) (l.most (h.touches.told ∙ told));
    }

-- It is the graph of each circuit whose parts there were.
pub builds_graph : {Q : Type 0} (q : QueueGhosts Q) (x y : Q) {s u v : RigState} {m : Graph}
    (p : Parts) → (IsTrue s.device.told → Holds s (held_at q x s p)) → BuildsBeside q x y s u p m
    → Ends q.allowance q.room (q.blocks y u) (q.counts y) u v
    → BuildsGraph (held_at q x s p) s v p m
builds_graph q x y p held b e =
    let a = ended_after q x y p held b e in
    record {
      is = a.stays.is;
      header = b.header;
      straight_is = b.straight_is;
      blocks = a.session;
      edges = b.edges;
      gates = b.gates;
      sources = b.sources;
      resets = b.resets_are;
      stands = λ z.
          let each = b.stands z in
          record {
            defined = each.defined;
            is = λ c o. a.stays.of (b.runs.runs.session.touches.told ∙ z) c (each.is c o);
          };
    }

-- All blocks of the graph are stored,
pub stores_ended : {Q : Type 0} (q : QueueGhosts Q) (x y : Q) {s u v : RigState} {m : Graph}
    (p : Parts) → BuildsBeside q x y s u p m → Ended (q.counts y) u v → u.moves ≤ v.moves
    → (v.used + ((q.counts x).blocks + parts_size p) ≡ s.used + graph_size m)
    × Pays (q.counts x).unstored 0 s v
stores_ended q x y p b e later =
    let spends = b.runs.runs.spends in
    let used = spends.used in
    let gone = e.used in (
      omega (arith, used, gone),
      pays_then (pays_more {q = (q.counts y).unstored} spends.pays (omega arith)) e.pays later,
    )

-- or the end was refused.
pub pays_unended : {Q : Type 0} (q : QueueGhosts Q) (x y : Q) {s u v : RigState} {m : Graph}
    (p : Parts) → BuildsBeside q x y s u p m
    → Pays (q.counts y).unstored u.pool.shape.frames u v → u.moves ≤ v.moves
    → Pays (q.counts x).unstored (s.pool.shape.frames + 2) s v
pays_unended q x y {s} {u} p b e later =
    let spends = b.runs.runs.spends in
    let shape : u.pool.shape.frames ≡ s.pool.shape.frames =
    ap (λ (z : ShapeNumbers). z.frames) b.runs.runs.session.touches.shape in
    pays_then (pays_more {q = (q.counts y).unstored} spends.pays (omega arith))
    (pays_more {q = s.pool.shape.frames + 2} e (omega (arith, shape))) later
