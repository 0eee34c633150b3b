-- A tree that can be split on a key's path: over readings, and from a child on.
use Rattle.std.proofs.Common.{◌≡◌, ℕ, suc, ◌+◌, ◌*◌, ◌<◌, List, [], ◌∷◌, ◌++◌, length, sym, ◌∙◌, subst, arith, IsTrue}
use Rattle.em_record.specs.Shape.{ShapeNumbers, fan_of}
use Rattle.em_record.specs.declared.record.Record.{Record}
use Rattle.em_space.specs.Free.{AreDistinct}
use Rattle.em_space.specs.Held.{AllInUse, Holds}
use Rattle.em_space.specs.Rig.{RigState}
use Rattle.em_space.specs.declared.fault.EmFault.{EmFault}
use Rattle.em_space.proofs.Held.{apart_none, holds_kept}
use Rattle.em_space.proofs.Lists.{distinct_left, distinct_right, in_use_left, in_use_right}
use Rattle.em_node.specs.Node.{place_of}
use Rattle.em_empty.proofs.Dealt.{place_within}
use Rattle.em_tree_model.specs.Tree.{Tree}
use Rattle.em_tree_blocks.specs.Paths.{child_at}
use Rattle.em_tree_blocks.specs.Reading.{entries_at, tree_at, tree_blocks}
use Rattle.em_tree_blocks.proofs.Frames.{tree_stays}
use Rattle.em_tree_walk.specs.Forms.{AreFormed}
use Rattle.em_tree_walk.specs.PathSplit.{PathSplit}
use Rattle.em_tree_walk.specs.SplitPaths.{CanSplitPath, IsPathClear, IsSplittable, LowsFit, StopsUpTo, TakesUpTo}
use Rattle.em_tree_walk.proofs.Children.{blocks_after, blocks_around, blocks_before}
use Rattle.em_tree_walk.proofs.Kept.{EntryStands, each_at, forms_left, node_entries}
use Rattle.em_tree_walk.proofs.Takes.{reads_take, stops_from, stops_then, stops_wider, takes_from, takes_then, takes_wider}
use Rattle.em_tree_walk.proofs.Toward.{child_found, lows_at}
use Rattle.em_tree_walk.specs.Descents.{end_at}
use Rattle.em_tree_walk.specs.Reads.{ReadsOnly}
use Rattle.em_tree_walk.specs.Stands.{LeadsToTree, StandsAt}
use Rattle.em_tree_walk.specs.Ways.{entry_start}
use Rattle.em_tree_walk.proofs.Standing.{leads_after}

-- what is read of a tree after readings
pub record ReadsSame (s t : RigState) (level node : ℕ) : Type 0 where
  pub tree : tree_at level t node ≡ tree_at level s node
  pub blocks : tree_blocks level t node ≡ tree_blocks level s node

pub reads_same : {n : ℕ} {s t : RigState} {level node : ℕ} → ReadsOnly n s t
    → IsTrue s.device.told → StandsAt s level node → ReadsSame s t level node
reads_same {n} {s} {t} {level} {node} r told o =
    let x = tree_stays [] s t r.goes.touches told level node (apart_none (tree_blocks level s node)) o.is in
    record { tree = x.tree; blocks = x.blocks }

pub path_read : {n : ℕ} {s t : RigState} {level node : ℕ} {key : Record} → ReadsOnly n s t
    → CanSplitPath s level node key → CanSplitPath t level node key
path_read {n} {s} {t} {level} {node} {key} r i = record {
  leads = leads_after r i.leads;
  told = λ y.
      let z : IsTrue s.device.told = sym r.goes.touches.told ∙ y in
      let o = i.told z in
      let w = i.leads.told z in
      let none = apart_none (tree_blocks level s node) in
      let x = reads_same r z w in
      let P : Tree → Type 0 = λ u. LowsFit u o.lo o.hi in
      let Q : Tree → Type 0 = λ u. IsPathClear (2 * fan_of s.pool.shape) level key u in
      let R : ShapeNumbers → Type 0 = λ p. IsPathClear (2 * fan_of p) level key (tree_at level t node) in
      let H : List ℕ → Type 0 = λ ks. Holds t ks in
      record {
        lo = o.lo;
        hi = o.hi;
        lows = subst P (sym x.tree) o.lows;
        clear = subst R (sym r.goes.touches.shape) (subst Q (sym x.tree) o.clear);
        formed = forms_left [] s t r.goes.touches z level node none w.is o.formed;
        holds = subst H (sym x.blocks)
            (holds_kept [] s t (tree_blocks level s node) r.goes.touches (λ v. none) o.holds);
      };
}

-- the blocks of a child
pub child_held : (l : ℕ) (s : RigState) (k i : ℕ) → i < length (entries_at s k)
    → Holds s (tree_blocks (suc l) s k) → Holds s (tree_blocks l s (child_at i (entries_at s k)))
child_held l s k i h v =
    let x = k ∷ blocks_before l s k i in
    let y = tree_blocks l s (child_at i (entries_at s k)) in
    let z = blocks_after l s k i in
    let e = blocks_around l s k i h in
    let U : List ℕ → Type 0 = λ ks. AllInUse s ks in
    let D : List ℕ → Type 0 = λ ks. AreDistinct ks in
    record {
      in_use = in_use_left s y z (in_use_right s x (y ++ z) (subst U e v.in_use));
      distinct = λ t. distinct_left y z (distinct_right x (y ++ z) (subst D e (v.distinct t)));
    }

-- the child that a key's path takes
abbrev pub child_toward_at : RigState → ℕ → Record → ℕ
child_toward_at s k q = child_at (place_of q (entries_at s k)) (entries_at s k)

pub child_path : {s : RigState} {l node : ℕ} {key : Record} (child : ℕ)
    → LeadsToTree s (suc l) child → (IsTrue s.device.told → child ≡ child_toward_at s node key)
    → CanSplitPath s (suc (suc l)) node key → CanSplitPath s (suc l) child key
child_path {s} {l} {node} {key} child leads is i = record {
  leads = leads;
  told = λ z.
      let es = entries_at s node in
      let k = place_of key es in
      let o = i.told z in
      let stands = i.leads.told z in
      let some = stands.rows.0 in
      let one = place_within key es some in
      let at = lows_at (tree_at (suc l) s) s es k o.lo o.hi one o.lows in
      let n = node_entries (suc l) s node stands o.formed in
      let e = each_at (EntryStands (suc l) s) es k one n.each in
      let P : Tree → Type 0 = λ u. IsPathClear (2 * fan_of s.pool.shape) (suc l) key u in
      let C : ℕ → Type 0 = λ c. IsSplittable s (suc l) c key in
      let here : IsSplittable s (suc l) (child_at k es) key = record {
        lo = entry_start o.lo es k;
        hi = end_at es k o.hi;
        lows = at.inner;
        clear = subst P (child_found (tree_at (suc l) s) s es key some) o.clear.2;
        formed = e.formed;
        holds = child_held (suc l) s node k one o.holds;
      } in
      subst C (sym (is z)) here;
}

-- Calls on a tree after a reading.
pub takes_read : {n m k : ℕ} {s a t : RigState} {level node : ℕ} {key : Record} {ks : List ℕ}
    → ReadsOnly k s a → CanSplitPath s level node key
    → TakesUpTo n m (tree_blocks level a node) ks a t
    → TakesUpTo n (k + m) (tree_blocks level s node) ks s t
takes_read {n} {m} {k} {s} {a} {t} {level} {node} {key} {ks} r i x =
    let b = tree_blocks level s node in
    let back = λ (y : IsTrue a.device.told). (let z : IsTrue s.device.told = sym r.goes.touches.told ∙ y in z) in
    takes_wider n (k + m) (omega arith) (omega arith)
    (takes_then (reads_take b (λ z. (i.told z).holds) r)
    (takes_from b x (λ y. sym (reads_same r (back y) (i.leads.told (back y))).blocks)))

pub stops_read : {n m k : ℕ} {s a t : RigState} {level node : ℕ} {key : Record} {e : EmFault}
    → ReadsOnly k s a → CanSplitPath s level node key
    → StopsUpTo n m (tree_blocks level a node) a t e
    → StopsUpTo n (k + m) (tree_blocks level s node) s t e
stops_read {n} {m} {k} {s} {a} {t} {level} {node} {key} {e} r i x =
    let b = tree_blocks level s node in
    let back = λ (y : IsTrue a.device.told). (let z : IsTrue s.device.told = sym r.goes.touches.told ∙ y in z) in
    stops_wider n (k + m) (omega arith) (omega arith)
    (stops_then (reads_take b (λ z. (i.told z).holds) r)
    (stops_from b x (λ y. sym (reads_same r (back y) (i.leads.told (back y))).blocks)))

-- Nodes below one on a path were split, and it may be full: it took at most n blocks and m moves.
pub record Stage (n m : ℕ) (s t : RigState) (level node : ℕ) (key : Record) : Type 0 where
  pub takes : TakesUpTo n m (tree_blocks level s node) (tree_blocks level t node) s t
  pub leads : LeadsToTree t level node
  pub split : IsTrue s.device.told
      → PathSplit (fan_of s.pool.shape) key (tree_at level s node) (tree_at level t node)
  pub formed : IsTrue s.device.told → AreFormed level t node

pub stage_read : {n m k : ℕ} {s a t : RigState} {level node : ℕ} {key : Record}
    → ReadsOnly k s a → CanSplitPath s level node key → Stage n m a t level node key
    → Stage n (k + m) s t level node key
stage_read {n} {m} {k} {s} {a} {t} {level} {node} {key} r i g = record {
  takes = takes_read r i g.takes;
  leads = g.leads;
  split = λ z.
      let y : IsTrue a.device.told = r.goes.touches.told ∙ z in
      let x = reads_same r z (i.leads.told z) in
      let P : Tree → Type 0 = λ u. PathSplit (fan_of s.pool.shape) key u (tree_at level t node) in
      let R : ShapeNumbers → Type 0 = λ p.
      PathSplit (fan_of p) key (tree_at level a node) (tree_at level t node) in
      subst P x.tree (subst R r.goes.touches.shape (g.split y));
  formed = λ z. g.formed (r.goes.touches.told ∙ z);
}
