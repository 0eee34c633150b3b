-- A new rig; a new queue beside a circuit's parts, beside its graph, and beside its edges between ranks.
use Rattle.std.proofs.Common.{◌≡◌, ◌+◌, ◌*◌, ◌≤◌, ◌++◌, ℕ, List, [], IsTrue, ap, sym, subst, ◌∙◌, refl, arith, Result, Ok, Err, IfOk}
use Rattle.em_record.specs.Shape.{ShapeNumbers, fan_of}
use Rattle.em_frames.specs.Device.{DeviceState}
use Rattle.em_frames.specs.Pool.{PoolCounts, fresh_pool}
use Rattle.em_space.specs.Held.{Holds}
use Rattle.em_space.specs.Rig.{RigState, Touches, Sound, Opens}
use Rattle.em_space.proofs.Held.{apart_none}
use Rattle.em_space.specs.Ledger.{Session}
use Rattle.em_space.specs.Queue.{QueueCounts, Shares}
use Rattle.em_space.proofs.Sessions.{session_as, session_none, session_then}
use Rattle.em_chain.specs.Effects.{LendsFrame}
use Rattle.aig_text.specs.Parts.{IsParts, parts_blocks}
use Rattle.aig_text.specs.declared.parts.Parts.{Parts}
use Rattle.aig_text.proofs.PartsLaws.{parts_stay}
use Rattle.aig_edges.specs.BuildGraph.{BuildsGraph}
use Rattle.aig_edges.specs.Graph.{CanBuild, IsGraph, graph_blocks, IsOrdered, ordered_blocks}
use Rattle.aig_edges.specs.declared.graph.Graph.{Graph}
use Rattle.aig_edges.proofs.GraphLaws.{GraphStays, graph_stays}
use Rattle.aig_edges.proofs.OrderedLaws.{ordered_stays}
use Rattle.aig_edges.specs.declared.graph.Ordered.{Ordered}
use Rattle.aig_order.specs.OrderGraph.{OfDefinedCircuit}
use Rattle.em_space.specs.declared.queue.Queue.{Ghosts}
use Rattle.em_space.proofs.Queues.{shares_same, shares_then}
use Rattle.aig_edges.specs.declared.stop.StepStop.{StepStop}
use Rattle.aig_sweep.specs.Sweeper.{BeginsSweeper, EndsSweeper, without_frames}
use Rattle.aig_sweep.specs.declared.sweeper.Sweeper.{Sweeper}
use Rattle.em_devices.specs.Small.{small}
use Rattle.aig_tests.specs.Frames.{HasFrames, usual}
use Rattle.aig_tests.specs.Stepping.{GivesBack, StepsOn}

-- A rig was opened, with 36 single frames or more,
opened_with : (shape : ShapeNumbers) (device : DeviceState) (blocks : ℕ) (s : RigState)
    → 12 ≤ fan_of shape → Opens device (fresh_pool shape) blocks s → HasFrames s
opened_with shape device blocks s wide o = record {
  sound = o.sound;
  build = subst CanBuild (sym o.pool_is)
      (record { singles = omega (arith, wide); areas = omega arith; rack = refl });
  two = subst (λ (p : PoolCounts). 2 * fan_of p.shape + 12 ≤ p.free) (sym o.pool_is)
      (omega (arith, wide));
  areas = subst (λ (p : PoolCounts). 2 ≤ p.free_areas) (sym o.pool_is) (omega arith);
}

-- of the smallest shape,
pub has_opened : (device : DeviceState) (blocks : ℕ) (s : RigState)
    → Opens device (fresh_pool small) blocks s → HasFrames s
has_opened device blocks s o = opened_with small device blocks s (omega arith) o

-- or of the default one.
pub has_usual : (device : DeviceState) (blocks : ℕ) (s : RigState)
    → Opens device (fresh_pool usual) blocks s → HasFrames s
has_usual device blocks s o = opened_with usual device blocks s (omega arith) o

-- A frame was lent to the queue.
pub can_lend : (s t : RigState) → HasFrames s → LendsFrame s t → CanBuild t.pool
can_lend s t h l = record {
  singles = let e = ap fan_of l.frames.shape in let a = l.frames.free in let b = h.two in
      omega (arith, e, a, b);
  areas = let a = l.frames.free_areas in let b = h.build.areas in omega (arith, a, b);
  rack = l.frames.rack ∙ h.build.rack;
}

-- A circuit's parts after a new queue was made.
pub parts_beside : (s t : RigState) (p : Parts) → IsParts s p → Touches [] s t → IsParts t p
parts_beside s t p i h =
    (parts_stay [] s t p h (λ told. apart_none (parts_blocks s p)) i).is

-- A queue with no block beside them.
pub parts_held : (t : RigState) (p : Parts) (ks : List ℕ) → ks ≡ [] → IsParts t p
    → IsTrue t.device.told → Holds t (ks ++ parts_blocks t p)
parts_held t p ks none i told =
    subst (λ (js : List ℕ). Holds t (js ++ parts_blocks t p)) (sym none) (i.blocks told)

-- The graph is that of a circuit that defines nothing twice and all that it uses.
pub defined_built : {E : Type 0} (held : List ℕ) (t u : RigState) (p : Parts)
    (r : Result Graph E) → IsParts t p → u.device.told ≡ t.device.told
    → IfOk r (BuildsGraph held t u p)
    → IfOk r (λ (g : Graph). IsTrue u.device.told → OfDefinedCircuit u g)
defined_built held t u p (Err e) i same b = tt
defined_built held t u p (Ok g) i same b = λ told.
    let back = sym same ∙ told in
    let k = i.stands back in
    let f = b.stands back in
    record {
      circuit = k.circuit;
      is = f.is k.circuit k.are;
      defined = f.defined k.circuit k.are;
    }

-- A graph after a new queue was made,
pub graph_beside : (s t : RigState) (g : Graph) → IsGraph s g → Touches [] s t → GraphStays s t g
graph_beside s t g i h = graph_stays [] s t g h (λ told. apart_none (graph_blocks s g)) i

-- which is that of the same circuit,
pub defined_beside : {s t : RigState} {g : Graph} → GraphStays s t g → t.device.told ≡ s.device.told
    → (IsTrue s.device.told → OfDefinedCircuit s g) → IsTrue t.device.told → OfDefinedCircuit t g
defined_beside w same d told =
    let back = sym same ∙ told in
    let k = d back in
    record { circuit = k.circuit; is = w.of back k.circuit k.is; defined = k.defined }

-- and a queue with no block beside it.
pub graph_held : (t : RigState) (g : Graph) (ks : List ℕ) → ks ≡ [] → IsGraph t g
    → IsTrue t.device.told → Holds t (ks ++ graph_blocks t g)
graph_held t g ks none i told =
    subst (λ (js : List ℕ). Holds t (js ++ graph_blocks t g)) (sym none) (i.holds told)

-- Edges between ranks over a call that leaves their blocks alone.
pub ordered_stay : (s t : RigState) (o : Ordered) → IsOrdered s o → Touches [] s t → IsOrdered t o
ordered_stay s t o i h = (ordered_stays [] o h i.holds i).is

-- A queue with no block beside them.
pub ordered_held : (s : RigState) (o : Ordered) (ks : List ℕ) → ks ≡ [] → IsOrdered s o
    → IsTrue s.device.told → Holds s (ks ++ ordered_blocks s o)
ordered_held s o ks none i told =
    subst (λ (js : List ℕ). Holds s (js ++ ordered_blocks s o)) (sym none) (i.holds told)

-- A queue with some blocks beside them.
pub ordered_beside : (s t : RigState) (o : Ordered) (ks : List ℕ) → Sound s → IsOrdered s o
    → Session [] s t ks → IsTrue t.device.told → Holds t (ks ++ ordered_blocks t o)
ordered_beside s t o ks sound i made told =
    let back = sym made.touches.told ∙ told in
    let first = session_none s (ordered_blocks s o) sound i.holds in
    let kept = ordered_stays [] o made.touches i.holds i in
    (session_as (ks ++ ordered_blocks t o) (session_then [] ks (ordered_blocks s o) first made)
    (λ z. ap (λ (l : List ℕ). ks ++ l) (kept.blocks z))).holds back

-- Two frames and an area were lent to the queue.
pub tree_builds : (s t : RigState) (c : QueueCounts) → HasFrames s
    → Shares (without_frames c) c s.pool t.pool → c.frames ≤ 2 → c.areas ≤ 1 → CanBuild t.pool
tree_builds s t c h lent few area = record {
  singles = let e = ap fan_of lent.shape in omega (arith, e, h.two, lent.free, few);
  areas = omega (arith, h.areas, lent.areas, area);
  rack = lent.rack ∙ h.build.rack;
}

-- A queue that was lent to an evaluator and used up by its end has all frames back.
pub gives_back : {Q : Type 0} (queue : Ghosts Q) (s t u v : RigState) (o : Ordered) (q : Q) (e f : Sweeper Q)
    (result : Result (Unit {0}) StepStop) → BeginsSweeper queue s t o q e → StepsOn queue t u e f result
    → EndsSweeper queue u v f → GivesBack (queue.counts q) s v
gives_back queue s t u v o q e f result begins steps ends =
    let before = shares_same (queue.counts q) s.pool t.pool begins.runs.runs.frames in
    let meant = subst (λ x. Shares (queue.counts q) (queue.counts x) s.pool t.pool) (sym begins.queue_is) before in
    let all = shares_then _ _ _ _ _ _ (shares_then _ _ _ _ _ _ meant steps.shares) ends.frames in
    record {
      sound = ends.sound;
      frames = record { shape = all.shape; free = all.free; areas = all.areas; rack = all.rack; peak = all.peak };
    }
