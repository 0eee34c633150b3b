-- The queue is ended after the edges between ranks were made, or abandoned.
use Rattle.std.proofs.Common.{◌≡◌, ℕ, ◌+◌, ◌≤◌, inl, inr, IfSome, List, [], ◌++◌, IsTrue, ap, sym, ◌∙◌, arith}
use Rattle.em_record.specs.Shape.{ShapeNumbers}
use Rattle.em_space.specs.Held.{Holds}
use Rattle.em_space.specs.Ledger.{Session}
use Rattle.em_space.specs.Queue.{Ended, Ends, ending_most, IsRising, IsRisingRoom, Leaves, Pays}
use Rattle.em_space.specs.Rig.{RigState, Touches}
use Rattle.em_space.specs.declared.queue.Queue.{Ghosts as QueueGhosts}
use Rattle.em_space.proofs.Apart.{off_append, off_left, off_right}
use Rattle.em_space.proofs.Paying.{pays_more, pays_then}
use Rattle.em_space.proofs.Queues.{most_at_end}
use Rattle.em_space.proofs.Sessions.{session_as, session_then}
use Rattle.em_space.proofs.Steps.{touches_wider}
use Rattle.em_space.proofs.Within.{touches_within}
use Rattle.em_chain.specs.Chain.{chain_blocks}
use Rattle.em_chain.specs.declared.chain.Chain.{Chain}
use Rattle.aig_edges.specs.Build.{UsesUp}
use Rattle.aig_edges.specs.BuildGraph.{CalledInRuns, SortCosts}
use Rattle.aig_edges.specs.Graph.{graph_blocks, graph_lists, graph_size, ordered_blocks}
use Rattle.aig_edges.specs.declared.graph.Graph.{Graph}
use Rattle.aig_edges.specs.declared.graph.Ordered.{Ordered}
use Rattle.aig_edges.proofs.Besides.{holds_skip, session_past}
use Rattle.aig_edges.proofs.Ended.{allowed, ended_roomy, ended_within, roomy, shares_gone, still_allowed}
use Rattle.aig_edges.proofs.OrderedLaws.{OrderedStays, ordered_stays}
use Rattle.aig_order.specs.ByPass.{by_pass}
use Rattle.aig_order.specs.FewCalls.{FewCosts, few_calls}
use Rattle.aig_order.specs.FindsOrder.{DoneUntil, OrdersBeside}
use Rattle.aig_order.specs.OrderGraph.{OrderCosts, OrdersGraph, order_calls, order_moves, order_peak, order_run}

-- the blocks of a queue and of a graph
abbrev pub held_at : {Q : Type 0} → QueueGhosts Q → Q → RigState → Graph → List ℕ
held_at q x s g = q.blocks x s ++ graph_blocks s g

-- the same of a graph's lists
abbrev pub lists_at : {Q : Type 0} → QueueGhosts Q → Q → RigState → Graph → List ℕ
lists_at q x s g = q.blocks x s ++ graph_lists s g

-- they are held if all are,
pub lists_held : {Q : Type 0} (q : QueueGhosts Q) (x : Q) {s : RigState} (g : Graph)
    → (IsTrue s.device.told → Holds s (held_at q x s g)) → IsTrue s.device.told
    → Holds s (lists_at q x s g)
lists_held q x {s} g h z =
    holds_skip (q.blocks x s) (chain_blocks s g.resets) (graph_lists s g) (h z)

-- and what may be changed of them may be changed of all
all_touched : {Q : Type 0} (q : QueueGhosts Q) (x : Q) {s t : RigState} (g : Graph)
    → Touches (lists_at q x s g) s t → Touches (held_at q x s g) s t
all_touched q x {s} {t} g h =
    let qs = q.blocks x s in
    let rs = chain_blocks s g.resets in
    let ls = graph_lists s g in
    touches_wider (held_at q x s g) (qs ++ ls) s t h (λ z j i o.
    off_append j qs ls (off_left j qs (rs ++ ls) o) (off_right j rs ls (off_right j qs (rs ++ ls) o)))

-- The queue was abandoned,
pub up_left : {Q : Type 0} (q : QueueGhosts Q) (x y : Q) {s u v : RigState} (g : Graph)
    → DoneUntil q x y s u g → Leaves (q.counts y) u v
    → UsesUp (held_at q x s g) (q.counts x) s v
up_left q x y {s} {u} {v} g h l = record {
  sound = l.sound;
  touches = touches_within s u v (held_at q x s g) [] (all_touched q x g h.touches)
      (record { off = λ z j i o. tt }) l.touches;
  frames = shares_gone (q.counts x) (q.counts y) s.pool u.pool v.pool h.shares l.frames;
}

-- its costs go by the passes that were made,
costs_of : {Q : Type 0} {q : QueueGhosts Q} {x y : Q} {s u v : RigState} {g : Graph}
    → (h : DoneUntil q x y s u g)
    → SortCosts q (order_calls h.passes g.header) (order_run g.header)
    (order_moves h.passes s g + h.looked) (graph_size g) (order_peak s g) (q.counts x) s v
    → OrderCosts q (q.counts x) s v g
costs_of h costs = record {
  passes = h.passes;
  passes_most = h.passes_most;
  fewer = h.fewer;
  looked = h.looked;
  looked_most = h.looked_most;
  unlooked = h.unlooked;
  costs = costs;
}

few_of : {Q : Type 0} {q : QueueGhosts Q} {x y : Q} {s u v : RigState} {g : Graph}
    → (h : DoneUntil q x y s u g)
    → SortCosts q (few_calls g.header) (order_run g.header) (order_moves h.passes s g + h.looked)
    (graph_size g) (order_peak s g) (q.counts x) s v
    → FewCosts q (q.counts x) s v g
few_of h costs = record {
  passes = h.passes;
  passes_most = h.passes_most;
  fewer = h.fewer;
  looked = h.looked;
  looked_most = h.looked_most;
  unlooked = h.unlooked;
  costs = costs;
}

-- with as many calls as came,
sort_left : {Q : Type 0} (q : QueueGhosts Q) (x y : Q) {s u v : RigState} (g : Graph) (calls : ℕ)
    → (h : DoneUntil q x y s u g)
    → CalledInRuns calls (order_run g.header) (q.counts x) (q.counts y) → q.HasItsFrames y u
    → Leaves (q.counts y) u v → IfSome q.allowance IsRising
    → (IsTrue u.device.told → IfSome q.allowance (λ f. (q.counts y).spent
    ≤ f u.pool.shape (q.counts y).n (q.counts y).k))
    → IfSome q.room IsRisingRoom
    → (IsTrue u.device.told → IfSome q.room (λ f. (q.counts y).most ≤ f u.pool.shape (q.counts y).k))
    → SortCosts q calls (order_run g.header) (order_moves h.passes s g + h.looked) (graph_size g)
    (order_peak s g) (q.counts x) s v
sort_left q x y {s} {u} {v} g calls h called has l rising spends rising_room fits =
    let run = order_run g.header in
    let e = h.shares.shape in
    let w = h.within in
    let n = ap (λ (k : RigState). k.moves) l.same in
    let m = ap (λ (k : RigState). k.most) l.same in
    record {
      last = y;
      then = u;
      gone = inr l;
      frames = has;
      shape = e;
      called = called;
      most = λ told.
          let here = h.touches.told ∙ told in
          let top = most_at_end q.room u.pool.shape (q.counts y) (fits here) in
          let same = ap (λ (k : ShapeNumbers). ending_most q.room k (q.counts y)) e in
          omega (arith, w.most, m, top, same);
      moves = w.moves;
      all_moves = λ z. allowed q.allowance s u v (q.counts x) (q.counts y) calls run
          (order_moves h.passes s g + h.looked) e called w.moves rising
          (still_allowed q.allowance u v (q.counts y) n (spends (h.touches.told ∙ z)));
      room = λ told. roomy q.room s u v (q.counts x) (q.counts y) calls run (graph_size g) (order_peak s g) e
          called w.most m rising_room (fits (h.touches.told ∙ told));
    }

pub costs_left : {Q : Type 0} (q : QueueGhosts Q) (x y : Q) {s u v : RigState} (g : Graph)
    → DoneUntil q x y s u g → q.HasItsFrames y u → Leaves (q.counts y) u v
    → IfSome q.allowance IsRising
    → (IsTrue u.device.told → IfSome q.allowance (λ f. (q.counts y).spent
    ≤ f u.pool.shape (q.counts y).n (q.counts y).k))
    → IfSome q.room IsRisingRoom
    → (IsTrue u.device.told → IfSome q.room (λ f. (q.counts y).most ≤ f u.pool.shape (q.counts y).k))
    → OrderCosts q (q.counts x) s v g
costs_left q x y g h has l rising spends rising_room fits =
    costs_of h (sort_left q x y g (order_calls h.passes g.header) h h.within.called has l rising
    spends rising_room fits)

pub few_left : {Q : Type 0} (q : QueueGhosts Q) (x y : Q) {s u v : RigState} (g : Graph)
    → DoneUntil q x y s u g
    → CalledInRuns (few_calls g.header) (order_run g.header) (q.counts x) (q.counts y)
    → q.HasItsFrames y u → Leaves (q.counts y) u v → IfSome q.allowance IsRising
    → (IsTrue u.device.told → IfSome q.allowance (λ f. (q.counts y).spent
    ≤ f u.pool.shape (q.counts y).n (q.counts y).k))
    → IfSome q.room IsRisingRoom
    → (IsTrue u.device.told → IfSome q.room (λ f. (q.counts y).most ≤ f u.pool.shape (q.counts y).k))
    → FewCosts q (q.counts x) s v g
few_left q x y g h few has l rising spends rising_room fits =
    few_of h (sort_left q x y g (few_calls g.header) h few has l rising spends rising_room fits)

-- or ended after the edges were made.
pub record EndedAfter {Q : Type 0} (q : QueueGhosts Q) (x : Q) (s u v : RigState) (g : Graph)
    (o : Ordered) : Type 0 where
  pub session : Session (held_at q x s g) s v (ordered_blocks v o)
  pub stays : OrderedStays u v o

pub ended_after : {Q : Type 0} (q : QueueGhosts Q) (x y : Q) {s u v : RigState} {o : Ordered}
    (g : Graph) → (IsTrue s.device.told → Holds s (held_at q x s g)) → OrdersBeside q x y s u g o
    → Ends q.allowance q.room (q.blocks y u) (q.counts y) u v → EndedAfter q x s u v g o
ended_after q x y {s} {u} {v} {o} g held b e =
    let ks = q.blocks y u in
    let es = ordered_blocks u o in
    let same : chain_blocks u o.resets ≡ chain_blocks u g.resets =
    ap (λ (c : Chain). chain_blocks u c) b.resets_are in
    let all = session_as (ks ++ es) (session_past (q.blocks x s) (chain_blocks s g.resets)
    (graph_lists s g) ks (chain_blocks u o.edges) held b.session)
    (λ z. ap (λ (js : List ℕ). ks ++ (js ++ chain_blocks u o.edges))
    (same ∙ b.resets_stay.blocks z)) in
    let gone : Session ks u v [] = record {
      sound = e.sound;
      touches = e.touches;
      within = record { off = λ z j i o. tt };
      holds = λ z. record { in_use = tt; distinct = λ d. tt };
    } in
    let w = ordered_stays ks o e.touches (λ z. all.holds (sym all.touches.told ∙ z)) b.is in
    record {
      session = session_as (ordered_blocks v o) (session_then ks [] es all gone)
          (λ z. w.blocks (all.touches.told ∙ z));
      stays = w;
    }

pub up_ended : {Q : Type 0} (q : QueueGhosts Q) (x y : Q) {s u v : RigState} {o : Ordered}
    (g : Graph) → (IsTrue s.device.told → Holds s (held_at q x s g)) → OrdersBeside q x y s u g o
    → Ends q.allowance q.room (q.blocks y u) (q.counts y) u v
    → UsesUp (held_at q x s g) (q.counts x) s v
up_ended q x y {s} {u} {v} g held b e = record {
  sound = e.sound;
  touches = (ended_after q x y g held b e).session.touches;
  frames = shares_gone (q.counts x) (q.counts y) s.pool u.pool v.pool b.done.shares e.frames;
}

sort_ended : {Q : Type 0} (q : QueueGhosts Q) (x y : Q) {s u v : RigState} {o : Ordered} (g : Graph)
    (calls : ℕ) → (b : OrdersBeside q x y s u g o)
    → CalledInRuns calls (order_run g.header) (q.counts x) (q.counts y) → q.HasItsFrames y u
    → Ends q.allowance q.room (q.blocks y u) (q.counts y) u v
    → IfSome q.allowance IsRising → IfSome q.room IsRisingRoom
    → (IsTrue u.device.told → IfSome q.room (λ f. (q.counts y).most ≤ f u.pool.shape (q.counts y).k))
    → SortCosts q calls (order_run g.header) (order_moves b.done.passes s g + b.done.looked)
    (graph_size g) (order_peak s g) (q.counts x) s v
sort_ended q x y {s} {u} {v} {o} g calls b called has l rising rising_room fits =
    let h = b.done in
    let run = order_run g.header in
    let e = h.shares.shape in
    let w = h.within in
    let least : o.edges.blocks ≤ order_peak s g = omega (arith, b.room) in
    record {
      last = y;
      then = u;
      gone = inl l;
      frames = has;
      shape = e;
      called = called;
      most = λ told.
          let here = h.touches.told ∙ told in
          let top = most_at_end q.room u.pool.shape (q.counts y) (fits here) in
          let same = ap (λ (k : ShapeNumbers). ending_most q.room k (q.counts y)) e in
          ended_within (ending_most q.room u.pool.shape (q.counts y)) s u v (q.counts x)
          (q.counts y) (graph_size g) (order_peak s g) o.edges.blocks w.most b.used least top same
          (l.most here);
      moves = w.moves;
      all_moves = λ z. allowed q.allowance s u v (q.counts x) (q.counts y) calls run
          (order_moves h.passes s g + h.looked) e called w.moves rising
          (l.spent (h.touches.told ∙ z));
      room = λ told. ended_roomy q.room s u v (q.counts x) (q.counts y) calls run (graph_size g)
          (order_peak s g) o.edges.blocks e called w.most b.used least rising_room
          (fits (h.touches.told ∙ told)) (l.most (h.touches.told ∙ told));
    }

pub costs_ended : {Q : Type 0} (q : QueueGhosts Q) (x y : Q) {s u v : RigState} {o : Ordered}
    (g : Graph) → OrdersBeside q x y s u g o → q.HasItsFrames y u
    → Ends q.allowance q.room (q.blocks y u) (q.counts y) u v
    → IfSome q.allowance IsRising → IfSome q.room IsRisingRoom
    → (IsTrue u.device.told → IfSome q.room (λ f. (q.counts y).most ≤ f u.pool.shape (q.counts y).k))
    → OrderCosts q (q.counts x) s v g
costs_ended q x y g b has l rising rising_room fits =
    costs_of b.done (sort_ended q x y g (order_calls b.done.passes g.header) b b.done.within.called
    has l rising rising_room fits)

pub few_ended : {Q : Type 0} (q : QueueGhosts Q) (x y : Q) {s u v : RigState} {o : Ordered}
    (g : Graph) → OrdersBeside q x y s u g o
    → CalledInRuns (few_calls g.header) (order_run g.header) (q.counts x) (q.counts y)
    → q.HasItsFrames y u → Ends q.allowance q.room (q.blocks y u) (q.counts y) u v
    → IfSome q.allowance IsRising → IfSome q.room IsRisingRoom
    → (IsTrue u.device.told → IfSome q.room (λ f. (q.counts y).most ≤ f u.pool.shape (q.counts y).k))
    → FewCosts q (q.counts x) s v g
few_ended q x y g b few has l rising rising_room fits =
    few_of b.done (sort_ended q x y g (few_calls g.header) b few has l rising rising_room fits)

-- They are those of each circuit whose graph it was,
pub orders_graph : {Q : Type 0} (q : QueueGhosts Q) (x y : Q) {s u v : RigState} {o : Ordered}
    (g : Graph) → (IsTrue s.device.told → Holds s (held_at q x s g)) → OrdersBeside q x y s u g o
    → Ends q.allowance q.room (q.blocks y u) (q.counts y) u v
    → OrdersGraph (held_at q x s g) s v g o
orders_graph q x y {o = o} g held b e =
    let a = ended_after q x y g held b e in
    record {
      is = a.stays.is;
      header = b.header;
      blocks = a.session;
      room = b.room;
      resets = b.resets_are;
      passes = b.passes;
      stands = λ z c i d.
          let each = b.stands z c i d in
          record {
            is = a.stays.of (b.session.touches.told ∙ z) c (by_pass c) each.is;
            passes = each.passes;
          };
    }

-- all their blocks are stored,
pub stores_ended : {Q : Type 0} (q : QueueGhosts Q) (x y : Q) {s u v : RigState} {o : Ordered}
    (g : Graph) → OrdersBeside q x y s u g o → Ended (q.counts y) u v → u.moves ≤ v.moves
    → (v.used + ((q.counts x).blocks + graph_size g) ≡ s.used + o.edges.blocks)
    × Pays (q.counts x).unstored 0 s v
stores_ended q x y g b e later = (
  (let used = b.used in let gone = e.used in omega (arith, used, gone)),
  pays_then b.pays e.pays later,
)

-- or the end was refused.
pub pays_unended : {Q : Type 0} (q : QueueGhosts Q) (x y : Q) {s u v : RigState} {o : Ordered}
    (g : Graph) → OrdersBeside q x y s u g o
    → Pays (q.counts y).unstored u.pool.shape.frames u v → u.moves ≤ v.moves
    → Pays (q.counts x).unstored (s.pool.shape.frames + 2) s v
pays_unended q x y {s} {u} g b e later =
    let shape : u.pool.shape.frames ≡ s.pool.shape.frames =
    ap (λ (z : ShapeNumbers). z.frames) b.session.touches.shape in
    pays_then b.pays (pays_more {q = s.pool.shape.frames + 2} e (omega (arith, shape))) later
