-- The steps of making a graph: definitions are sorted and looked at, gates and edges are sorted, and
-- definitions and edges are compared.
use Rattle.std.proofs.Common.{◌≡◌, ℕ, ◌+◌, ◌*◌, ◌≤◌, ◌^◌, List, [], ◌++◌, Option, None, Some, IsTrue, Err, ap, refl, sym, subst, ◌∙◌, arith, append_assoc}
use Rattle.em_record.specs.Shape.{fan_of}
use Rattle.em_record.specs.declared.record.Record.{Record}
use Rattle.em_record.specs.Order.{in_order}
use Rattle.em_space.specs.Held.{Holds}
use Rattle.em_space.specs.Rig.{RigState, Sound}
use Rattle.em_space.specs.declared.fault.EmFault.{EmFault}
use Rattle.em_space.specs.declared.queue.Queue.{Ghosts as QueueGhosts}
use Rattle.em_space.proofs.Lists.{distinct_left, in_use_left}
use Rattle.em_chain.specs.Chain.{chain_blocks, chain_items, payload_in}
use Rattle.em_chain.specs.Counts.{ceiling}
use Rattle.em_chain.specs.declared.chain.Chain.{Chain}
use Rattle.em_chain.proofs.Keeps.{payload_kept}
use Rattle.em_queued.specs.Room.{FitsRoom}
use Rattle.em_queued.proofs.Queued.{beside_holds}
use Rattle.aig_defs.specs.Chains.{defs_of, gates_of, uses_of}
use Rattle.aig_defs.specs.Circuit.{Circuit}
use Rattle.aig_defs.specs.Faults.{IsTwice, Nowhere}
use Rattle.aig_defs.specs.Graph.{AllLack, graph_edges, graph_gates}
use Rattle.aig_defs.specs.Sorted.{sorted_defs}
use Rattle.aig_defs.specs.declared.fault.AigKind.TheVariants as kind
use Rattle.aig_text.specs.Ascii.{ArePartsOf}
use Rattle.aig_text.specs.Parts.{IsParts, lists_blocks, parts_blocks}
use Rattle.aig_text.specs.declared.parts.Parts.{Parts}
use Rattle.aig_text.specs.declared.stop.AigStop.TheVariants as stop
use Rattle.aig_edges.specs.Build.{edge_room}
use Rattle.aig_edges.specs.BuildGraph.{BeginsSorting, def_room, gate_room, sort_calls, sort_moves, source_room}
use Rattle.aig_edges.specs.Comparing.{AreSortedOf, CanCompare}
use Rattle.aig_edges.specs.Graph.{edge_count}
use Rattle.aig_edges.specs.Looks.{Looks, StopsLooking}
use Rattle.aig_edges.specs.Making.{BuildsNone}
use Rattle.aig_edges.specs.SortEdges.{AreEdgesSorted, AreOnceEdgesOf, CanSortEdges, SortsEdges, edges_moves}
use Rattle.aig_edges.specs.Pushes.{CanServeBeside, edges_both}
use Rattle.aig_edges.specs.Repeats.{TellsTwice}
use Rattle.aig_edges.specs.Sorts.{CanSort, IsSorted, SortsTo, sorted_items, sorting_moves}
use Rattle.aig_edges.specs.declared.sorting.Sorted.{Sorted}
use Rattle.aig_edges.specs.declared.sorting.Sorted.TheVariants.{Definitions, Themselves}
use Rattle.aig_edges.proofs.Besides.{beside_front, holds_last, holds_skip}
use Rattle.aig_edges.proofs.Halted.{CanHalt, look_none, sort_none, twice_none}
use Rattle.aig_edges.proofs.Sorts.{definitions_lack, definitions_sorted, gates_sorted, sorted_gates_lack}
use Rattle.aig_edges.proofs.Stands.{StandsBeside, stands_crossed, stands_first, stands_looked, stands_sorted, stands_turned}

-- What `build` is given.
pub record Given {Q : Type 0} (q : QueueGhosts Q) (x : Q) (s : RigState) (p : Parts) : Type 0 where
  pub sound : Sound s
  pub parts : IsParts s p
  pub queue : q.IsQueue x s
  pub begins : BeginsSorting p.header (q.counts x) s
  pub blocks : (q.counts x).blocks ≤ (q.counts x).most
  pub holds : IsTrue s.device.told → Holds s (q.blocks x s ++ parts_blocks s p)

pub given : {Q : Type 0} (q : QueueGhosts Q) (x : Q) {s : RigState} (p : Parts) → Sound s
    → IsParts s p → q.IsQueue x s → BeginsSorting p.header (q.counts x) s
    → (q.counts x).blocks ≤ (q.counts x).most
    → (IsTrue s.device.told → Holds s (q.blocks x s ++ parts_blocks s p)) → Given q x s p
given q x p sound parts is begins blocks holds = record {
  sound = sound;
  parts = parts;
  queue = is;
  begins = begins;
  blocks = blocks;
  holds = holds;
}

pub given_stands : {Q : Type 0} {q : QueueGhosts Q} {x : Q} {s : RigState} {p : Parts}
    → Given q x s p
    → StandsBeside q x x s s p 0 (sort_moves s p) p.defs p.gates p.uses defs_of gates_of uses_of
given_stands {q = q} {x} {s} {p} v = stands_first q x p v.sound v.parts v.queue v.begins.empty
    v.blocks (λ z. holds_skip (q.blocks x s) (chain_blocks s p.resets) (lists_blocks s p) (v.holds z))

-- the moves that are left after each step
abbrev pub owed_looking : RigState → Parts → ℕ
owed_looking s p = 2 * p.gates.blocks + 2 * p.uses.blocks + 3 * def_room s p + 3 * gate_room s p
    + 6 * edge_room s p + 2 * source_room s p + 6

abbrev pub owed_gates : RigState → Parts → ℕ
owed_gates s p = 2 * p.gates.blocks + 2 * p.uses.blocks + 2 * def_room s p + 3 * gate_room s p
    + 6 * edge_room s p + 2 * source_room s p + 6

abbrev pub owed_edges : RigState → Parts → ℕ
owed_edges s p = 2 * p.uses.blocks + 2 * def_room s p + gate_room s p + 6 * edge_room s p
    + 2 * source_room s p + 5

abbrev pub owed_comparing : RigState → Parts → ℕ
owed_comparing s p = 2 * def_room s p + 4 * edge_room s p + 2 * source_room s p + 4

-- the blocks of as many records, at a later moment
pub room_at : {Q : Type 0} {q : QueueGhosts Q} {x y : Q} {s t : RigState} {p : Parts} {n owed : ℕ}
    {a b c : Chain} {f g h : Circuit → List Record} {i j : ℕ}
    → StandsBeside q x y s t p n owed a b c f g h → i ≡ j
    → ceiling i (payload_in t) ≡ ceiling j (payload_in s)
room_at {q = q} {x} {s = s} {t} {p} {i = i} {j} o e = ap (λ (k : ℕ). ceiling k (payload_in t)) e
    ∙ ap (λ (k : ℕ). ceiling j k)
    (payload_kept (q.blocks x s ++ lists_blocks s p) s t o.runs.runs.session.touches)

-- the frames that are free at a later moment
free_at : {Q : Type 0} {q : QueueGhosts Q} {x y : Q} {s t : RigState} {p : Parts} {n owed : ℕ}
    {a b c : Chain} {f g h : Circuit → List Record} (more : ℕ) → more ≤ 6 → Given q x s p
    → StandsBeside q x y s t p n owed a b c f g h → CanServeBeside more t.pool
free_at more l v o =
    let frames = o.runs.runs.frames in
    record {
      singles =
          let e = ap fan_of frames.shape in
          let i = v.begins.free.singles in
          omega (arith, e, frames.free, i, l);
      areas = let i = v.begins.free.areas in omega (arith, frames.free_areas, i);
      rack = frames.rack ∙ v.begins.free.rack;
    }

pub some_free : {Q : Type 0} {q : QueueGhosts Q} {x y : Q} {s t : RigState} {p : Parts}
    {n owed : ℕ} {a b c : Chain} {f g h : Circuit → List Record} → Given q x s p
    → StandsBeside q x y s t p n owed a b c f g h → 5 ≤ t.pool.free
some_free v o =
    let frames = o.runs.runs.frames in
    let i = v.begins.free.singles in
    omega (arith, frames.free, i)

holds_first : {s : RigState} (xs ys : List ℕ) → Holds s (xs ++ ys) → Holds s xs
holds_first {s} xs ys h = record {
  in_use = in_use_left s xs ys h.in_use;
  distinct = λ z. distinct_left xs ys (h.distinct z);
}

-- The first list may be sorted,
can_sort : {Q : Type 0} (q : QueueGhosts Q) (which : Sorted) (x y : Q) {s t : RigState} {p : Parts}
    {n owed : ℕ} {a b c : Chain} {f g h : Circuit → List Record} → Given q x s p
    → StandsBeside q x y s t p n owed a b c f g h → n + 2 * a.count ≤ sort_calls p.header
    → a.count ≤ 2 ^ 43
    → (IsTrue s.device.told → AllLack [] (sorted_items which (chain_items t a)))
    → CanSort q which y t a
can_sort q which x y {s} {t} {a = a} {b} {c} v o l m lacks = record {
  sound = o.runs.runs.session.sound;
  empty = o.empty;
  free = free_at 1 (omega arith) v o;
  most = m;
  few =
      let i = v.begins.few in
      let j = o.in_runs.n in
      omega (arith, i, j, l);
  chain = o.first;
  holds = λ z. holds_first (q.blocks y t ++ chain_blocks t a) (chain_blocks t b ++ chain_blocks t c)
      (beside_holds (beside_front (q.blocks y t) (chain_blocks t a)
      (chain_blocks t b ++ chain_blocks t c) o.runs) z);
  lacks = λ z. lacks (sym o.runs.runs.session.touches.told ∙ z);
}

pub can_sort_defs : {Q : Type 0} (q : QueueGhosts Q) (x : Q) {s : RigState} {p : Parts}
    → Given q x s p → CanSort q Definitions x s p.defs
can_sort_defs q x {s} {p} v =
    let count = v.parts.defs.count_is in
    let h = v.parts.header in
    can_sort q Definitions x x v (given_stands v) (omega (arith, count))
    (omega (arith, count, h.inputs, h.latches, h.gates))
    (λ z.
    let some = v.parts.stands z in
    subst (λ (rs : List Record). AllLack [] (sorted_items Definitions rs)) (sym some.are.defs)
    (definitions_lack some.circuit))

-- and then the sorted definitions stand.
abbrev pub DefsStand : {Q : Type 0} → QueueGhosts Q → Q → Q → RigState → RigState → Parts → Chain
    → Type 0
DefsStand q x y s t p d = StandsBeside q x y s t p (0 + 2 * p.defs.count) (owed_looking s p) d p.gates
    p.uses sorted_defs gates_of uses_of

pub defs_stand : {Q : Type 0} (q : QueueGhosts Q) (x y : Q) {s t : RigState} {p : Parts} (d : Chain)
    → Given q x s p → IsSorted q Definitions x y p.defs d s t → q.IsQueue y t
    → DefsStand q x y s t p d
defs_stand q x y {s} {t} {p} d v i is =
    let count = v.parts.defs.count_is in
    let room : ceiling p.defs.count (payload_in s) ≡ def_room s p =
    ap (λ (k : ℕ). ceiling k (payload_in s)) count in
    stands_sorted q x x y p (sorting_moves s p.defs) (owed_looking s p) d sorted_defs
    (given_stands v) (omega (arith, room)) (omega (arith, count)) (omega (arith, room)) i.runs i.rests
    i.empty is i.is
    (λ z k a old. i.items z
    ∙ ap (λ (rs : List Record). in_order (sorted_items Definitions rs)) old.first
    ∙ definitions_sorted k)

pub defs_room : {Q : Type 0} {q : QueueGhosts Q} {x y : Q} {s t : RigState} {p : Parts} {d : Chain}
    → Given q x s p → IsSorted q Definitions x y p.defs d s t → d.blocks ≡ def_room s p
defs_room {s = s} v i = i.blocks_is ∙ ap (λ (k : ℕ). ceiling k (payload_in s)) v.parts.defs.count_is

-- They were looked at, and no variable is defined twice.
abbrev pub GatesStand : {Q : Type 0} → QueueGhosts Q → Q → Q → RigState → RigState → Parts → Chain
    → Type 0
GatesStand q x y s t p d = StandsBeside q x y s t p (0 + 2 * p.defs.count) (owed_gates s p) p.gates
    p.uses d gates_of uses_of sorted_defs

abbrev pub NoneTwice : RigState → Parts → Type 0
NoneTwice s p = IsTrue s.device.told → (k : Circuit) → ArePartsOf s p k → Nowhere (IsTwice k)

pub gates_stand : {Q : Type 0} (q : QueueGhosts Q) (x y : Q) {s t u : RigState} {p : Parts}
    {d : Chain} → DefsStand q x y s t p d → d.blocks ≡ def_room s p → Looks d.blocks t u
    → q.IsQueue y u → (IsTrue t.device.told → q.blocks y u ≡ q.blocks y t)
    → GatesStand q x y s u p d
gates_stand q x y {s} {p = p} {d} o room looks is blocks =
    stands_turned q x y p (stands_looked q x y p d.blocks (owed_gates s p) o (omega (arith, room)) looks
    is blocks)

pub none_twice : {Q : Type 0} {q : QueueGhosts Q} {x y : Q} {s t : RigState} {p : Parts}
    {d : Chain} {answer : Option ℕ} → DefsStand q x y s t p d → answer ≡ None
    → (IsTrue t.device.told → TellsTwice t d answer) → NoneTwice s p
none_twice {t = t} {d = d} o is tells z k a =
    subst (TellsTwice t d) is (tells (o.runs.runs.session.touches.told ∙ z)) k (o.items z k a).first

pub can_sort_gates : {Q : Type 0} (q : QueueGhosts Q) (x y : Q) {s t : RigState} {p : Parts}
    {d : Chain} → Given q x s p → NoneTwice s p → GatesStand q x y s t p d
    → CanSort q Themselves y t p.gates
can_sort_gates q x y {s} {t} {p} v once o =
    let defs = v.parts.defs.count_is in
    let gates = v.parts.gates.count_is in
    let h = v.parts.header in
    can_sort q Themselves x y v o (omega (arith, defs, gates)) (omega (arith, gates, h.gates))
    (λ z.
    let some = v.parts.stands z in
    subst (λ (rs : List Record). AllLack [] (sorted_items Themselves rs))
    (sym (o.items z some.circuit some.are).first)
    (sorted_gates_lack some.circuit (once z some.circuit some.are)))

-- The sorted gates stand,
abbrev pub EdgesStand : {Q : Type 0} → QueueGhosts Q → Q → Q → RigState → RigState → Parts → Chain
    → Chain → Type 0
EdgesStand q x y s t p d g = StandsBeside q x y s t p (0 + 2 * p.defs.count + 2 * p.gates.count)
    (owed_edges s p) p.uses d g uses_of sorted_defs graph_gates

pub edges_stand : {Q : Type 0} (q : QueueGhosts Q) (x y w : Q) {s t u : RigState} {p : Parts}
    {d : Chain} (g : Chain) → Given q x s p → d.blocks ≡ def_room s p → GatesStand q x y s t p d
    → IsSorted q Themselves y w p.gates g t u → q.IsQueue w u → EdgesStand q x w s u p d g
edges_stand q x y w {s} {t} {p = p} {d} g v size o i is =
    let count = v.parts.gates.count_is in
    let room = room_at o count in
    stands_turned q x w p (stands_sorted q x y w p (sorting_moves t p.gates) (owed_edges s p) g
    graph_gates o (omega (arith, room)) (omega (arith, count)) (omega (arith, room, size)) i.runs
    i.rests i.empty is i.is
    (λ z k a old. i.items (o.runs.runs.session.touches.told ∙ z)
    ∙ ap (λ (rs : List Record). in_order (sorted_items Themselves rs)) old.first ∙ gates_sorted k))

pub gates_room : {Q : Type 0} {q : QueueGhosts Q} {x y w : Q} {s t u : RigState} {p : Parts}
    {d g : Chain} → Given q x s p → GatesStand q x y s t p d → IsSorted q Themselves y w p.gates g t u
    → g.blocks ≡ gate_room s p
gates_room v o i = i.blocks_is ∙ room_at o v.parts.gates.count_is

once_edges : {Q : Type 0} {q : QueueGhosts Q} {x y : Q} {s t : RigState} {p : Parts} {d g : Chain}
    → NoneTwice s p → EdgesStand q x y s t p d g → IsTrue s.device.told → (k : Circuit)
    → ArePartsOf s p k → AreOnceEdgesOf t g p.uses k
once_edges once o z k a = record {
  is = a.is;
  once = once z k a;
  gates_are = (o.items z k a).third;
  uses_are = (o.items z k a).first;
}

pub can_sort_edges : {Q : Type 0} (q : QueueGhosts Q) (x y : Q) {s t : RigState} {p : Parts}
    {d g : Chain} → Given q x s p → NoneTwice s p → g.count ≡ p.gates.count
    → EdgesStand q x y s t p d g → CanSortEdges q y t g p.uses
can_sort_edges q x y {s} {t} {p} {d} {g} v once same o =
    let defs = v.parts.defs.count_is in
    let gates = v.parts.gates.count_is in
    let uses = v.parts.uses.count_is in
    let h = v.parts.header in
    let us = chain_blocks t p.uses in
    let ds = chain_blocks t d in
    let gs = chain_blocks t g in
    let qs = q.blocks y t in
    record {
      sound = o.runs.runs.session.sound;
      empty = o.empty;
      free = free_at 2 (omega arith) v o;
      gates_is = o.third;
      uses_is = o.first;
      gates_few = omega (arith, same, gates, h.gates);
      uses_few = omega (arith, uses, h.latches, h.outputs, h.bads, h.constraints);
      few =
          let i = v.begins.few in
          let j = o.in_runs.n in
          omega (arith, i, j, defs, gates, uses, same);
      holds = λ z. subst (λ (js : List ℕ). Holds t js) (append_assoc qs us gs)
          (holds_skip (qs ++ us) ds gs (beside_holds (beside_front qs us (ds ++ gs) o.runs) z));
      stands = λ z.
          let first = sym o.runs.runs.session.touches.told ∙ z in
          let some = v.parts.stands first in
          record { circuit = some.circuit; are = once_edges once o first some.circuit some.are };
    }

-- and then the sorted edges.
abbrev pub AllStand : {Q : Type 0} → QueueGhosts Q → Q → Q → RigState → RigState → Parts → Chain
    → Chain → Chain → Type 0
AllStand q x y s t p d g e =
    StandsBeside q x y s t p (0 + 2 * p.defs.count + 2 * p.gates.count + 2 * edges_both g p.uses)
    (owed_comparing s p) d e g sorted_defs graph_edges graph_gates

both_count : {Q : Type 0} {q : QueueGhosts Q} {x : Q} {s : RigState} {p : Parts} (g : Chain)
    → Given q x s p → g.count ≡ p.gates.count → edges_both g p.uses ≡ edge_count p.header
both_count g v same =
    let gates = v.parts.gates.count_is in
    let uses = v.parts.uses.count_is in
    omega (arith, same, gates, uses)

pub all_stand : {Q : Type 0} (q : QueueGhosts Q) (x y w : Q) {s t u : RigState} {p : Parts}
    {d g : Chain} (e : Chain) → Given q x s p → NoneTwice s p → d.blocks ≡ def_room s p
    → g.blocks ≡ gate_room s p → g.count ≡ p.gates.count → EdgesStand q x y s t p d g
    → AreEdgesSorted q y w g p.uses e t u → q.IsQueue w u → AllStand q x w s u p d g e
all_stand q x y w {s} {t} {p = p} {d} {g} e v once defs gates same o i is =
    let count = both_count g v same in
    let room = room_at o count in
    stands_crossed q x w p (stands_turned q x w p (stands_sorted q x y w p (edges_moves t g p.uses)
    (owed_comparing s p) e graph_edges o (omega (arith, room, gates)) (omega (arith, count))
    (omega (arith, room, defs, gates)) i.runs i.rests i.empty is i.is
    (λ z k a old. i.items (o.runs.runs.session.touches.told ∙ z) k (once_edges once o z k a))))

-- what the lists that are compared have
pub record AreSizes (s : RigState) (p : Parts) (d g e : Chain) : Type 0 where
  pub defs_count : d.count ≡ p.defs.count
  pub gates_count : g.count ≡ p.gates.count
  pub edges_count : e.count ≡ edge_count p.header
  pub defs_blocks : d.blocks ≡ def_room s p
  pub gates_blocks : g.blocks ≡ gate_room s p
  pub edges_blocks : e.blocks ≡ edge_room s p

pub sizes : {Q : Type 0} {q : QueueGhosts Q} {x y w : Q} {s t u : RigState} {p : Parts}
    {d g e : Chain} → Given q x s p → d.count ≡ p.defs.count → d.blocks ≡ def_room s p
    → g.blocks ≡ gate_room s p → g.count ≡ p.gates.count → EdgesStand q x y s t p d g
    → AreEdgesSorted q y w g p.uses e t u → AreSizes s p d g e
sizes {g = g} v defs room gates same o i = record {
  defs_count = defs;
  gates_count = same;
  edges_count = i.count_is ∙ both_count g v same;
  defs_blocks = room;
  gates_blocks = gates;
  edges_blocks = i.blocks_is ∙ room_at o (both_count g v same);
}

pub sorted_of : {Q : Type 0} {q : QueueGhosts Q} {x y : Q} {s t : RigState} {p : Parts}
    {d g e : Chain} → NoneTwice s p → AllStand q x y s t p d g e → IsTrue s.device.told
    → (k : Circuit) → ArePartsOf s p k
    → AreSortedOf t d e (p.header.inputs + p.header.latches) k
sorted_of once o z k a = record {
  is = a.is;
  once = once z k a;
  count = sym (ap (λ h. h.inputs + h.latches) a.header);
  defs_are = (o.items z k a).first;
  edges_are = (o.items z k a).second;
}

pub can_compare : {Q : Type 0} (q : QueueGhosts Q) (x y : Q) {s t : RigState} {p : Parts}
    {d g e : Chain} → Given q x s p → NoneTwice s p → AreSizes s p d g e
    → AllStand q x y s t p d g e → CanCompare t d e (p.header.inputs + p.header.latches)
can_compare q x y {s} {t} {p} {d} {g} {e} v once z o =
    let count = v.parts.defs.count_is in
    let h = v.parts.header in
    let qs = q.blocks y t in
    let ds = chain_blocks t d in
    let es = chain_blocks t e in
    let gs = chain_blocks t g in
    record {
      sound = o.runs.runs.session.sound;
      free = some_free v o;
      defs_is = o.first;
      edges_is = o.second;
      defs_few = omega (arith, count, z.defs_count, h.inputs, h.latches, h.gates);
      edges_few = omega (arith, z.edges_count, h.gates, h.latches, h.outputs, h.bads, h.constraints);
      holds = λ k. holds_first (ds ++ es) gs (holds_last qs ((ds ++ es) ++ gs)
          (subst (λ (js : List ℕ). Holds t (qs ++ js)) (sym (append_assoc ds es gs))
          (beside_holds o.runs k)));
      stands = λ k.
          let first = sym o.runs.runs.session.touches.told ∙ k in
          let some = v.parts.stands first in
          record { circuit = some.circuit; are = sorted_of once o first some.circuit some.are };
    }

-- the moves, the calls and the peak of comparing are what is left of all
abbrev pub MayCompare : {Q : Type 0} → QueueGhosts Q → Q → RigState → RigState → Parts → Chain → Chain
    → Chain → Type 0
MayCompare q y s t p d g e =
    CanHalt q y s t p (0 + 2 * p.defs.count + 2 * p.gates.count + 2 * edges_both g p.uses)
    (owed_comparing s p) (p.header.inputs + p.header.latches) d e g

pub may_compare : {Q : Type 0} (q : QueueGhosts Q) (x y : Q) {s t : RigState} {p : Parts}
    {d g e : Chain} → Given q x s p → AreSizes s p d g e → AllStand q x y s t p d g e
    → (q.counts y).blocks ≤ (q.counts y).most → (q.counts y).unstored ≤ t.pool.shape.frames
    → FitsRoom q.room (q.counts y) t → MayCompare q y s t p d g e
may_compare q x y {p = p} v z o blocks few room =
    let defs = v.parts.defs.count_is in
    let gates = v.parts.gates.count_is in
    let uses = v.parts.uses.count_is in
    let same = z.gates_count in
    let sources = room_at {i = p.header.inputs + p.header.latches} o refl in
    let edges = room_at o z.edges_count in
    record {
      calls = omega (arith, defs, gates, uses, same);
      blocks = blocks;
      few = few;
      room = room;
      owed_is = omega (arith, sources, edges, z.defs_blocks, z.edges_blocks);
      fits = omega (arith, sources, edges, z.defs_blocks, z.edges_blocks, z.gates_blocks);
    }

-- A step stops: definitions weren't sorted,
pub defs_none : {Q : Type 0} (q : QueueGhosts Q) (x y : Q) {s t : RigState} {p : Parts}
    {fault : EmFault} → Given q x s p → SortsTo q Definitions x y p.defs s t (Err fault)
    → BuildsNone q x y s t p (stop.Em fault)
defs_none q x y {s} {p = p} v i =
    let count = v.parts.defs.count_is in
    let room : ceiling p.defs.count (payload_in s) ≡ def_room s p =
    ap (λ (k : ℕ). ceiling k (payload_in s)) count in
    sort_none q x x y p (sorting_moves s p.defs) (owed_looking s p) (given_stands v)
    (omega (arith, room)) (omega (arith, count)) (omega (arith, count)) (omega (arith, room)) i

-- or not looked at,
pub defs_unseen : {Q : Type 0} (q : QueueGhosts Q) (x y : Q) {s t u : RigState} {p : Parts}
    {d : Chain} {fault : EmFault} → Given q x s p → DefsStand q x y s t p d
    → d.blocks ≡ def_room s p → (q.counts y).unstored ≤ t.pool.shape.frames
    → StopsLooking d.blocks t u fault → BuildsNone q x y s u p (stop.Em fault)
defs_unseen q x y {p = p} v o room few i =
    let count = v.parts.defs.count_is in
    look_none q x y p o (omega (arith, room)) (omega (arith, count)) few i

-- or define a variable twice;
pub defs_twice : {Q : Type 0} (q : QueueGhosts Q) (x y : Q) {s t u : RigState} {p : Parts}
    {d : Chain} {answer : Option ℕ} (place : ℕ) → Given q x s p → DefsStand q x y s t p d
    → GatesStand q x y s u p d → (q.counts y).unstored ≤ u.pool.shape.frames
    → answer ≡ Some place → (IsTrue t.device.told → TellsTwice t d answer)
    → BuildsNone q x y s u p (stop.Fault kind.Twice place)
defs_twice q x y {t = t} {p = p} {d} place v o b few is tells =
    let count = v.parts.defs.count_is in
    twice_none q x y p place b (omega (arith, count)) few (record {
      kind_is = tt;
      found = λ z k a.
          subst (TellsTwice t d) is (tells (o.runs.runs.session.touches.told ∙ z)) k
          (o.items z k a).first;
    })

-- gates weren't sorted,
pub gates_none : {Q : Type 0} (q : QueueGhosts Q) (x y w : Q) {s t u : RigState} {p : Parts}
    {d : Chain} {fault : EmFault} → Given q x s p → d.blocks ≡ def_room s p
    → GatesStand q x y s t p d → SortsTo q Themselves y w p.gates t u (Err fault)
    → BuildsNone q x w s u p (stop.Em fault)
gates_none q x y w {s} {t} {p = p} v size o i =
    let defs = v.parts.defs.count_is in
    let count = v.parts.gates.count_is in
    let room = room_at o count in
    sort_none q x y w p (sorting_moves t p.gates) (owed_edges s p) o (omega (arith, room))
    (omega (arith, count)) (omega (arith, defs, count)) (omega (arith, room, size)) i

-- or edges weren't.
pub edges_none : {Q : Type 0} (q : QueueGhosts Q) (x y w : Q) {s t u : RigState} {p : Parts}
    {d g : Chain} {fault : EmFault} → Given q x s p → d.blocks ≡ def_room s p
    → g.blocks ≡ gate_room s p → g.count ≡ p.gates.count → EdgesStand q x y s t p d g
    → SortsEdges q y w g p.uses t u (Err fault) → BuildsNone q x w s u p (stop.Em fault)
edges_none q x y w {s} {t} {p = p} {d} {g} v size gates same o i =
    let defs = v.parts.defs.count_is in
    let all = v.parts.gates.count_is in
    let count = both_count g v same in
    let room = room_at o count in
    sort_none q x y w p (edges_moves t g p.uses) (owed_comparing s p) o (omega (arith, room, gates))
    (omega (arith, count)) (omega (arith, defs, all, count)) (omega (arith, room, size, gates)) i
