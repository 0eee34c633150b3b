-- A full node was loaded, its upper half stored in a new block, and the node stored.
use Rattle.std.proofs.Common.{◌≡◌, ℕ, ◌+◌, ◌/◌, ◌<◌, List, [], ◌∷◌, get_or, set, length, length-append, take, drop, sym, ap, ◌∙◌, subst, arith, IsTrue, inr, Result, Ok, Err, IsErrAnd}
use Rattle.std.proofs.lemmas.List.{length-drop, take-append-drop}
use Rattle.em_record.specs.Shape.{fan_of}
use Rattle.em_record.specs.declared.record.Record.{Record}
use Rattle.em_frames.specs.Device.{block_at}
use Rattle.em_space.specs.Held.{Holds}
use Rattle.em_space.specs.Ledger.{Runs}
use Rattle.em_space.specs.Rig.{RigState, Sound, Goes, InUse, DeviceCause, Touches, Transfers}
use Rattle.em_space.specs.declared.fault.EmFault.{EmFault}
use Rattle.em_space.proofs.Held.{in_use_kept}
use Rattle.em_space.proofs.Runs.{runs_first, runs_second, runs_then, runs_wider, stops_after, stops_first, stops_second, stops_wider}
use Rattle.em_node.specs.declared.entry.Entry.{Entry}
use Rattle.em_node.specs.Node.{Is, entries_of, level_of, no_entry}
use Rattle.em_node.proofs.Seams.{entries_is}
use Rattle.em_tree_blocks.specs.Reading.{IsNodeAt, entries_at}
use Rattle.em_balance.specs.Node.{CanSplit, IsFullNode, entry_to, level_at}
use Rattle.em_balance.specs.Loaded.{PassesTest}
use Rattle.em_balance.specs.Stored.{StopsStoring, StoresFrame}
use Rattle.em_balance.specs.Effects.{HalvesNode, SplitAt, SplitsInto, StopsSplit, owing}
use Rattle.em_balance.proofs.Moves.{damaged_by, none_damaged, read_runs, write_runs, write_stops}
use Rattle.em_balance.proofs.Nodes.{entries_read, first_upper, fresh_entry, half_is, linked_back, linked_drop, linked_take, node_at}
use Rattle.em_balance.proofs.Stored.{stored_at}

-- the block is in use, and held
pub node_used : {s t : RigState} {node : ℕ} → CanSplit s node → Touches [] s t → InUse t node
node_used {s} {t} {node} i h = in_use_kept [] s t node h (λ z. tt) i.in_use

one_held : {s : RigState} {k : ℕ} → InUse s k → Holds s (k ∷ [])
one_held u = record { in_use = (u, tt); distinct = λ y. (tt, tt) }

-- The node was loaded, and its upper half stored.
pub upper_runs : {s t u : RigState} {Test : List Record → Type 0} {node k : ℕ}
    {b hi : List Record} → CanSplit s node → PassesTest Test s t node b → StoresFrame t u hi k
    → Runs 2 (node ∷ []) (node ∷ k ∷ []) (owing 1 4) (owing 2 1) s u
upper_runs {s} {t} {u} {Test} {node} {k} i p x =
    let first = read_runs (node ∷ []) 1 3 p.reads (λ z. one_held i.in_use) in
    let held : Holds t (node ∷ []) = one_held (node_used i p.reads.goes.touches) in
    let second = runs_second (node ∷ []) (owing 1 1) (λ z. held) x.runs in
    runs_wider (omega arith) (runs_then first second)

-- Then the lower half was stored in the node's block.
pub split_runs : {s u v : RigState} {node k : ℕ}
    → Runs 2 (node ∷ []) (node ∷ k ∷ []) (owing 1 4) (owing 2 1) s u → Goes (node ∷ []) u v
    → Transfers u v → InUse v node
    → Runs 2 (node ∷ []) (node ∷ k ∷ []) (owing 1 4) (owing 2 0) s v
split_runs {s} {u} {v} {node} {k} r g x i =
    let last = runs_first (k ∷ []) (owing 1 0)
    (λ z. r.session.holds (sym r.session.touches.told ∙ z)) (write_runs 0 g x i) in
    runs_wider (omega arith) (runs_then r last)

-- What stands in both blocks.
pub halves_node : {s t u v : RigState} {node k : ℕ} {b lo hi : List Record} → Sound s
    → IsTrue s.device.told → CanSplit s node
    → PassesTest (IsFullNode s.pool.shape s.blocks) s t node b
    → Is lo (level_of b) (take (length (entries_of b) / 2) (entries_of b))
    → Is hi (level_of b) (drop (length (entries_of b) / 2) (entries_of b))
    → StoresFrame t u hi k → Goes (node ∷ []) u v → InUse v node
    → v.device.contents ≡ set u.device.contents node lo
    → HalvesNode s v node (entry_to (get_or (entries_of hi) 0 no_entry).low k)
halves_node {s} {t} {u} {v} {node} {k} {b} {lo} {hi} sound z i p low high x g used stored =
    let f = fan_of s.pool.shape in
    let l = level_at s node in
    let es = entries_at s node in
    let o = i.told z in
    let e = p.loaded z in
    let half = half_is (length es) f o.full in
    let low_b : Is lo l (take (length es / 2) es) = subst (λ (y : List Record).
    Is lo (level_of y) (take (length (entries_of y) / 2) (entries_of y))) e low in
    let high_b : Is hi l (drop (length es / 2) es) = subst (λ (y : List Record).
    Is hi (level_of y) (drop (length (entries_of y) / 2) (entries_of y))) e high in
    let low_is : Is lo l (take f es) = subst (λ (n : ℕ). Is lo l (take n es)) half low_b in
    let high_is : Is hi l (drop f es) = subst (λ (n : ℕ). Is hi l (drop n es)) half high_b in
    let h = p.reads.goes.touches in
    let y : IsTrue t.device.told = h.told ∙ z in
    let k1 = x.runs.session.touches in
    let w : IsTrue u.device.told = k1.told ∙ y in
    let node_t = node_used i h in
    let node_u = in_use_kept [] t u node k1 (λ q. tt) node_t in
    let k_u : InUse u k = (x.runs.session.holds y).in_use.0 in
    let other : k ≡ node → ⊥ =
    λ q. x.unused y (subst (λ (j : ℕ). InUse t j) (sym q) node_t) in
    let stays = g.touches.others w k k_u (other, tt) in
    let at_node : block_at v.device node ≡ lo = stored_at v x.runs.session.sound w node_u stored in
    let at_new : block_at v.device k ≡ hi = stays.contents ∙ x.stored y in
    let blocks : v.blocks ≡ s.blocks = g.touches.blocks ∙ (k1.blocks ∙ h.blocks) in
    let shape : v.pool.shape ≡ s.pool.shape = g.touches.shape ∙ (k1.shape ∙ h.shape) in
    let count = length-append (take f es) (drop f es) in
    let both = ap (λ (fs : List Entry). length fs) (take-append-drop f es) in
    let all = o.full in
    let back = linked_back k in
    record {
      unused = λ q. x.unused y (in_use_kept [] s t k h (λ _. tt)
          (subst (λ (j : ℕ). InUse s j) back q));
      lower_is = node_at s v blocks shape used at_node low_is (omega arith)
          (linked_take s.blocks f es o.node.linked);
      kept = entries_read v node at_node low_is;
      upper_is = subst (λ (j : ℕ). IsNodeAt v l j) (sym back)
          (node_at s v blocks shape stays.in_use at_new high_is (omega arith)
          (linked_drop s.blocks f es o.node.linked));
      moved = subst (λ (j : ℕ). entries_at v j ≡ drop f es) (sym back)
          (entries_read v k at_new high_is);
      low_is = ap (λ (fs : List Entry). (get_or fs 0 no_entry).low) (entries_is hi l (drop f es) high_is)
          ∙ first_upper f es;
    }

-- There are entries in the upper half.
pub some_upper : {s t : RigState} {node : ℕ} {b hi : List Record} → Sound s
    → PassesTest (IsFullNode s.pool.shape s.blocks) s t node b
    → Is hi (level_of b) (drop (length (entries_of b) / 2) (entries_of b))
    → 0 < length (entries_of hi)
some_upper {s} {t} {node} {b} {hi} sound p high =
    let es = entries_of b in
    let e = ap (λ (fs : List Entry). length fs)
    (entries_is hi (level_of b) (drop (length es / 2) es) high) in
    let n = length-drop (length es / 2) es in
    let full = p.is.full in
    let wide = sound.shape.frames_low in
    omega arith

-- A split that went well,
pub split_at : {s t u v : RigState} {node k : ℕ} {b lo hi : List Record} (upper : Entry) → Sound s
    → CanSplit s node → PassesTest (IsFullNode s.pool.shape s.blocks) s t node b
    → Is lo (level_of b) (take (length (entries_of b) / 2) (entries_of b))
    → Is hi (level_of b) (drop (length (entries_of b) / 2) (entries_of b))
    → StoresFrame t u hi k → Goes (node ∷ []) u v → Transfers u v → InUse v node
    → v.device.contents ≡ set u.device.contents node lo
    → upper ≡ entry_to (get_or (entries_of hi) 0 no_entry).low k → SplitAt s v node upper
split_at {s} {t} {u} {v} {node} {k} {b} {lo} {hi} upper sound i p low high x g m used stored e =
    let key = (get_or (entries_of hi) 0 no_entry).low in
    let h = p.reads.goes.touches in
    let below = x.below in
    let blocks = h.blocks in
    subst (λ (y : Entry). SplitAt s v node y) (sym e) (record {
      halves = λ z. halves_node sound z i p low high x g used stored;
      entry = fresh_entry key k s.blocks (omega arith);
      runs = subst
          (λ (j : ℕ). Runs 2 (node ∷ []) (node ∷ j ∷ []) (owing 1 4) (owing 2 0) s v)
          (sym (linked_back k)) (split_runs (upper_runs i p x) g m used);
    })

-- one that got no new block for the upper half,
pub split_unstored : {s t u : RigState} {Test : List Record → Type 0} {node : ℕ}
    {b : List Record} {e : EmFault} → CanSplit s node → PassesTest Test s t node b
    → StopsStoring t u e → StopsSplit s u node e
split_unstored {s} {t} {u} {Test} {node} {b} {e} i p x =
    let first = read_runs (node ∷ []) 1 3 p.reads (λ z. one_held i.in_use) in
    let head = p.reads.same.head in
    record {
      stops = stops_wider (omega arith) (omega arith) (omega arith)
          (stops_after first (stops_second (node ∷ []) (owing 1 1) x.stops));
      damaged = damaged_by e (λ b. t.head ≡ b + 1) _ (λ b q. inr (sym head ∙ q)) x.damaged;
    }

-- and one that couldn't store the lower half.
pub split_unwritten : {s u v : RigState} {node k : ℕ} {e : EmFault}
    → Runs 2 (node ∷ []) (node ∷ k ∷ []) (owing 1 4) (owing 2 1) s u → Goes (node ∷ []) u v
    → Transfers u v → DeviceCause u v e → StopsSplit s v node e
split_unwritten {s} {u} {v} {node} {k} {e} r g x c = record {
  stops = stops_wider (omega arith) (omega arith) (omega arith)
      (stops_after r (stops_first (k ∷ []) (owing 1 0) (write_stops 0 g x c)));
  damaged = none_damaged e _ c;
}

-- the result of a refused call
pub split_refused : {s t : RigState} {node : ℕ} (result : Result Entry EmFault) (e : EmFault)
    → IsErrAnd result (λ f. f ≡ e) → StopsSplit s t node e → SplitsInto s t node result
split_refused (Ok x) e i h = absurd i
split_refused {s} {t} {node} (Err f) e i h =
    subst (λ (y : EmFault). StopsSplit s t node y) (sym i) h
