-- The steps of ordering a graph: its list is made, passes find gates, a gate that is left is looked for,
-- and the edges between ranks are made.
use Rattle.std.proofs.Common.{◌≡◌, ℕ, ◌+◌, ◌*◌, ◌≤◌, max, Bool, true, false, [], ◌++◌, IsTrue, ap, ap₂, refl, sym, ◌∙◌, arith, Err}
use Rattle.em_space.specs.Held.{Holds}
use Rattle.em_space.specs.Queue.{QueueCounts}
use Rattle.em_space.specs.Rig.{RigState}
use Rattle.em_space.specs.declared.fault.EmFault.{EmFault}
use Rattle.em_space.specs.declared.queue.Queue.{Ghosts as QueueGhosts}
use Rattle.em_space.proofs.Held.{apart_none}
use Rattle.em_space.proofs.Paying.{pays_kept, pays_more}
use Rattle.em_space.proofs.Queues.{shares_same}
use Rattle.em_space.proofs.Sessions.{session_as, session_still}
use Rattle.em_space.proofs.Steps.{block_cause, touches_wider}
use Rattle.em_chain.specs.Chain.{IsChain, chain_blocks}
use Rattle.em_chain.specs.Counts.{ceiling}
use Rattle.em_chain.specs.declared.chain.Chain.{Chain}
use Rattle.em_chain.proofs.Keeps.{payload_kept}
use Rattle.em_chain.proofs.Laws.{chain_stays}
use Rattle.em_queued.specs.Queued.{RunsBeside, StopsBeside}
use Rattle.em_queued.proofs.Queued.{beside_as, beside_holds, called_none, calls_none, others_beside, others_stop}
use Rattle.em_queued.specs.Room.{FitsRoom}
use Rattle.em_queued.proofs.Room.{full_unneeded}
use Rattle.aig_defs.specs.Circuit.{Circuit}
use Rattle.aig_text.specs.declared.stop.AigStop.TheVariants as stop
use Rattle.aig_edges.specs.BuildGraph.{CalledInRuns}
use Rattle.aig_edges.specs.Graph.{IsGraphOf}
use Rattle.aig_edges.specs.Looks.{Looks, StopsLooking}
use Rattle.aig_edges.specs.Pushes.{CanServeBeside}
use Rattle.aig_edges.specs.Accounts.{stored_account}
use Rattle.aig_edges.specs.declared.graph.Graph.{Graph}
use Rattle.aig_order.specs.declared.passing.Found.{Found}
use Rattle.aig_order.specs.Findings.{CanFind, FindsAll, IsListOf, MergesGraph, MergesTo, StopsFinding, finding_calls, finding_moves, merging_moves, merging_peak}
use Rattle.aig_order.specs.FindsOrder.{OrdersNone}
use Rattle.aig_order.specs.LeftGates.{looked_if}
use Rattle.aig_order.specs.OrderGraph.{BeginsOrdering, OfDefinedCircuit, adjacency_room, order_calls, order_run}
use Rattle.aig_defs.specs.Faults.{IsDefined}
use Rattle.aig_order.proofs.OrderEnded.{lists_at}
use Rattle.aig_order.proofs.OrderLists.{graph_list}
use Rattle.aig_order.proofs.OrderMade.{ListBeside, Within, WithinOf, each_defined, list_stops, list_then, orders_stopped}
use Rattle.aig_order.proofs.Ranked.{still_serves}

-- before any call of the queue
pub none_called : (calls run : ℕ) (c : QueueCounts) → CalledInRuns calls run c c
none_called calls run c = record { n = omega arith; k = omega arith; more = omega arith }

-- calls in runs, and others after them
pub runs_both : {m n run : ℕ} {c d e : QueueCounts} → CalledInRuns m run c d → d.since ≤ c.since
    → CalledInRuns n run d e → CalledInRuns (m + n) run c e
runs_both {m} {n} {run} {c} {d} {e} a l b = record {
  n = (let x = a.n in let y = b.n in omega (arith, x, y));
  k = (let x = a.k in let y = b.k in omega (arith, x, y, l));
  more = (let x = a.more in let y = b.more in omega (arith, x, y));
}

pub called_wider : {m n run most : ℕ} {c d : QueueCounts} → m ≤ n → run ≤ most → CalledInRuns m run c d
    → CalledInRuns n most c d
called_wider {c = c} {d = d} l k h = record {
  n = (let x = h.n in omega (arith, x, l));
  k = (let x = h.k in omega (arith, x, k));
  more = h.more;
}

-- The list of a graph was made.
pub merged_within : {Q : Type 0} (q : QueueGhosts Q) (x : Q) (s : RigState) (g : Graph)
    → Within q x x s g 0 (merging_peak s g) (merging_moves s g)
merged_within q x s g = record {
  passes_most = omega arith;
  fewer = λ z c i. omega arith;
  looked = 0;
  looked_most = omega arith;
  unlooked = λ z. refl;
  of = record {
    peak_most = omega arith;
    moves_most = omega arith;
    called = none_called (order_calls 0 g.header) (order_run g.header) (q.counts x);
  };
}

pub merged_beside : {Q : Type 0} (q : QueueGhosts Q) (x : Q) {s t : RigState} (g : Graph)
    {list : Chain} → q.IsQueue x t → (IsTrue s.device.told → q.blocks x t ≡ q.blocks x s)
    → (q.counts x).blocks ≤ (q.counts x).most → (q.counts x).len ≡ 0
    → (IsTrue s.device.told → Holds s (lists_at q x s g)) → MergesGraph s t g list
    → ListBeside q x x s t g 0 (merging_peak s g) (merging_moves s g) list
merged_beside q x {s} {t} g {list} kept blocks most none holds m = record {
  runs = beside_as (q.blocks x t ++ chain_blocks t list)
      (others_beside (q.blocks x s) (q.counts x)
      (m.runs) most holds) (λ z. ap (λ v. v ++ chain_blocks t list) (blocks z));
  rests = omega arith;
  empty = none;
  queue = kept;
  is = m.is;
  count_is = m.count_is;
  blocks_is = m.blocks_is;
}

pub merged_none : {Q : Type 0} (q : QueueGhosts Q) (x : Q) {s t : RigState} (g : Graph)
    {fault : EmFault} → (q.counts x).blocks ≤ (q.counts x).most
    → (q.counts x).unstored ≤ s.pool.shape.frames → FitsRoom q.room (q.counts x) s
    → MergesTo s t g (Err fault) → OrdersNone q x x s t g (stop.Em fault)
merged_none q x {s} g most few fits m =
    orders_stopped q x x g (others_stop (q.blocks x s) (q.counts x) m most few fits) (omega arith)
    (merged_within q x s g)

-- It is that of each circuit of the graph.
pub list_of : {s t : RigState} {g : Graph} {list : Chain} (c : Circuit) → MergesGraph s t g list
    → IsTrue s.device.told → IsGraphOf s g c → IsDefined c → IsListOf t g.header list c
list_of c m z i d = record {
  is = i.is;
  defined = d;
  header = i.header;
  items = m.items z ∙ graph_list c i;
}

pub can_find : {Q : Type 0} (q : QueueGhosts Q) (x : Q) {s t : RigState} (g : Graph) {list : Chain}
    → BeginsOrdering g.header (q.counts x) s
    → (IsTrue s.device.told → OfDefinedCircuit s g) → MergesGraph s t g list
    → ListBeside q x x s t g 0 (merging_peak s g) (merging_moves s g) list
    → CanFind q g.header x t list
can_find q x {s} {t} g {list} b defined m w =
    let told = w.runs.runs.session.touches.told in
    let free : CanServeBeside 2 s.pool = record {
      singles = (let l = b.free.singles in omega (arith, l));
      areas = b.free.areas;
      rack = b.free.rack;
    } in
    record {
      sound = w.runs.runs.session.sound;
      empty = w.empty;
      free = still_serves w.runs free;
      count_is = w.count_is;
      blocks_is = w.blocks_is ∙ ap₂ ceiling (sym w.count_is)
          (sym (payload_kept (lists_at q x s g) s t w.runs.runs.session.touches));
      few = b.few;
      chain = w.is;
      holds = λ z. w.runs.runs.session.holds (sym told ∙ z);
      stands = λ z.
          let old : IsTrue s.device.told = sym told ∙ z in
          let d = defined old in
          record { circuit = d.circuit; is = list_of d.circuit m old d.is d.defined };
    }

-- Passes were made, and so much was looked at after them.
pub found_of : {Q : Type 0} (q : QueueGhosts Q) (x y : Q) (s : RigState) (g : Graph)
    (passes extra : ℕ) (list : Chain) → list.blocks ≡ adjacency_room s g
    → CalledInRuns (finding_calls g.header (passes + 1)) (4 * g.header.gates) (q.counts x) (q.counts y)
    → extra ≤ list.blocks
    → WithinOf q passes 0 x y s g (max (max (merging_peak s g) (2 * list.blocks)) list.blocks)
    ((merging_moves s g + finding_moves list (passes + 1)) + extra)
found_of q x y s g passes extra list size runs more =
    let room = ap (λ b. (passes + 1) * (5 * b + 1)) size in
    record {
      peak_most = omega (arith, size);
      moves_most = omega (arith, room, size, more);
      called = called_wider (omega arith) (omega arith) runs;
    }

pub found_none : {Q : Type 0} (q : QueueGhosts Q) (x y : Q) {s t u : RigState} (g : Graph)
    {list : Chain} {fault : EmFault} → MergesGraph s t g list
    → (IsTrue s.device.told → OfDefinedCircuit s g)
    → ListBeside q x x s t g 0 (merging_peak s g) (merging_moves s g) list
    → StopsFinding q g.header x y list t u fault → OrdersNone q x y s u g (stop.Em fault)
found_none q x y {s} g {list} m defined w h =
    let of = found_of q x y s g h.passes 0 list m.blocks_is h.in_runs (omega arith) in
    let within : Within q x y s g h.passes (max (merging_peak s g) (2 * list.blocks))
    (merging_moves s g + finding_moves list (h.passes + 1)) = record {
      passes_most = h.passes_most;
      fewer = λ z c i. h.fewer (w.runs.runs.session.touches.told ∙ z) c
          (list_of c m z i (each_defined (defined z) c i));
      looked = 0;
      looked_most = omega arith;
      unlooked = λ z. refl;
      of = record {
        peak_most = (let l = of.peak_most in omega (arith, l));
        moves_most = (let l = of.moves_most in omega (arith, l));
        called = of.called;
      };
    } in
    orders_stopped q x y g (list_stops q x x y w h.stops) (omega arith) within

pub found_beside : {Q : Type 0} (q : QueueGhosts Q) (x y : Q) {s t u : RigState} (g : Graph)
    {list : Chain} {f : Found}
    → ListBeside q x x s t g 0 (merging_peak s g) (merging_moves s g) list
    → FindsAll q g.header x y list f t u → q.IsQueue y u
    → ListBeside q x y s u g (0 + finding_calls g.header (f.passes + 1))
    (max (merging_peak s g) (2 * list.blocks))
    (merging_moves s g + finding_moves list (f.passes + 1)) f.list
found_beside q x y g w h is = record {
  runs = list_then q x x y w h.runs;
  rests = h.rests;
  empty = h.empty;
  queue = is;
  is = h.is;
  count_is = h.count_is ∙ w.count_is;
  blocks_is = h.blocks_is ∙ w.blocks_is;
}

-- Looking at a list changes nothing,
look_runs : {Q : Type 0} (q : QueueGhosts Q) (y : Q) {u v : RigState} {n : ℕ} {list : Chain}
    → Looks n u v → (IsTrue u.device.told → q.blocks y v ≡ q.blocks y u) → IsChain u list
    → (IsTrue u.device.told → Holds u (q.blocks y u ++ chain_blocks u list))
    → (q.counts y).blocks ≤ (q.counts y).most
    → RunsBeside 0 list.blocks (q.blocks y u ++ chain_blocks u list)
    (q.blocks y v ++ chain_blocks v list) (stored_account list.blocks n)
    (stored_account list.blocks 0) (q.counts y) (q.counts y) u v
look_runs q y {u} {v} {n} {list} looks blocks is holds most =
    let touches = looks.goes.touches in
    let k = chain_stays [] u v list touches (λ z. apart_none (chain_blocks u list)) is in
    record {
      runs = record {
        session = session_as (q.blocks y v ++ chain_blocks v list)
            (session_still (q.blocks y u ++ chain_blocks u list) looks.goes.sound touches holds)
            (λ z. ap (λ l. l ++ chain_blocks v list) (blocks z)
            ∙ ap (λ l. q.blocks y u ++ l) (k.blocks z));
        frames = looks.goes.frames;
        spends = record {
          held = omega (arith, most);
          used = omega (arith, looks.used);
          most = omega (arith, looks.most_is);
          moves = omega (arith, looks.moves);
          later = touches.moves;
          pays = pays_kept ((q.counts y).unstored + 0) (omega (arith, looks.used)) touches.moves;
        };
      };
      calls_on = calls_none (q.counts y);
    }

pub looked_beside : {Q : Type 0} (q : QueueGhosts Q) (x y : Q) {s u v : RigState} (g : Graph)
    {i p m n : ℕ} {list : Chain} → ListBeside q x y s u g i p m list → Looks n u v
    → q.IsQueue y v → (IsTrue u.device.told → q.blocks y v ≡ q.blocks y u)
    → (q.counts y).blocks ≤ (q.counts y).most
    → ListBeside q x y s v g (i + 0) (max p list.blocks) (m + n) list
looked_beside q x y {s} {u} {v} g {list = list} w looks is blocks most = record {
  runs = list_then q x y y w
      (look_runs q y looks blocks w.is (λ z. beside_holds w.runs z) most);
  rests = w.rests;
  empty = w.empty;
  queue = is;
  is = (chain_stays [] u v list looks.goes.touches (λ z. apart_none (chain_blocks u list)) w.is).is;
  count_is = w.count_is;
  blocks_is = w.blocks_is;
}

-- or a block wasn't read.
look_stops : {Q : Type 0} (q : QueueGhosts Q) (y : Q) {u v : RigState} {n : ℕ} {fault : EmFault}
    (list : Chain) → StopsLooking n u v fault → (q.counts y).unstored ≤ u.pool.shape.frames
    → StopsBeside q.room 0 list.blocks 0 1 (q.blocks y u ++ chain_blocks u list)
    (stored_account list.blocks n) (q.counts y) (q.counts y) u v fault
look_stops q y {u} {v} {n} {fault} list h few =
    let looks = h.looks in
    record {
      sound = looks.goes.sound;
      touches = touches_wider (q.blocks y u ++ chain_blocks u list) [] u v looks.goes.touches
          (λ z k i o. tt);
      frames = shares_same (q.counts y) u.pool v.pool looks.goes.frames;
      called = called_none (q.counts y);
      most = omega (arith, looks.most_is);
      moves = omega (arith, looks.moves);
      pays = pays_more (pays_kept 0 (omega (arith, looks.used)) looks.goes.touches.moves)
          (omega (arith, few));
      cause = block_cause u v fault h.cause;
      full = full_unneeded u v fault h.cause;
    }

pub looked_low : (b : Bool) (blocks : ℕ) → looked_if b blocks ≤ blocks
looked_low true blocks = omega arith
looked_low false blocks = omega arith

pub looked_none : {Q : Type 0} (q : QueueGhosts Q) (x y : Q) {s u v : RigState} (g : Graph)
    {i p m n passes : ℕ} {list : Chain} {fault : EmFault} → ListBeside q x y s u g i p m list
    → StopsLooking n u v fault → (q.counts y).unstored ≤ u.pool.shape.frames
    → Within q x y s g passes (max p list.blocks) (m + n)
    → OrdersNone q x y s v g (stop.Em fault)
looked_none q x y g {list = list} w h few within =
    orders_stopped q x y g (list_stops q x y y w (look_stops q y list h few)) (omega arith) within
