-- The first leaf of a tree, with fewer records: what stands then.
use Rattle.std.proofs.Common.{◌≡◌, ℕ, zero, suc, ◌-◌, ◌<◌, List, [], ◌∷◌, length, refl, sym, ap, ◌∙◌, subst, arith, IsTrue}
use Rattle.em_record.specs.declared.record.Record.{Record}
use Rattle.em_space.specs.Held.{Apart, Holds}
use Rattle.em_space.specs.Ledger.{Session}
use Rattle.em_space.specs.Rig.{InUse, RigState, Sound, Touches}
use Rattle.em_node.specs.declared.entry.Entry.{Entry}
use Rattle.em_tree_model.specs.Taking.{IsAlone}
use Rattle.em_tree_model.specs.Tree.{Tree, HasEntry, IsChild, with_first_leaf}
use Rattle.em_tree_model.specs.Tree.Tree.{leaf, end, entry}
use Rattle.em_tree_model.proofs.Removal.{alone_with}
use Rattle.em_tree_blocks.specs.Paths.{IsPath, blocks_with, child_at, first_path, level_on, node_on}
use Rattle.em_tree_blocks.specs.Reading.{IsLeafAt, IsTreeAt, entries_at, row_of, tree_at, tree_blocks}
use Rattle.em_tree_blocks.proofs.Least.{taken_reads}
use Rattle.em_tree_blocks.proofs.Paths.{others_apart, path_stays}
use Rattle.em_tree_load.specs.FirstLeaves.{IsFork, IsLone, IsOnFirstWay}
use Rattle.em_tree_walk.specs.Forms.{AreFormed}
use Rattle.em_tree_walk.specs.Paid.{LosesNone}
use Rattle.em_tree_load.proofs.FirstWays.{records_at}
use Rattle.em_tree_walk.specs.Stands.{LeadsToTree, StandsAt}
use Rattle.em_tree_walk.proofs.Standing.{first_in_use}
use Rattle.em_tree_visits.proofs.FirstPaths.{FullRows, child_with, full_rows, full_with, lone_alone, rows_child, rows_full, way_level}
use Rattle.em_tree_buffers.proofs.Lifted.{TreeWorked, tree_worked}

-- A call of which the blocks that it touched are told of a device that tells alone.
pub touches_one : {xs held : List ℕ} {s t : RigState} → Touches xs s t
    → (IsTrue s.device.told → Touches held s t) → Touches held s t
touches_one h f = record {
  name = h.name;
  told = h.told;
  blocks = h.blocks;
  shape = h.shape;
  faults = h.faults;
  most = h.most;
  moves = h.moves;
  others = λ z. (f z).others z;
}

-- so with its session
pub session_by : {held ls : List ℕ} {s t : RigState} → Sound t → Touches held s t
    → (IsTrue s.device.told → Session held s t ls) → Session held s t ls
session_by sound h f = record {
  sound = sound;
  touches = h;
  within = record { off = λ z. (f z).within.off z };
  holds = λ z. (f z).holds z;
}

-- A tree that stands after a call can be read, whose first block was in use before.
pub leads_by : {ks : List ℕ} {s t : RigState} {level k : ℕ} → Touches ks s t → InUse s k
    → (IsTrue s.device.told → StandsAt t level k) → LeadsToTree t level k
leads_by {ks} {s} {t} {level} {k} h u f = record {
  in_use = record {
    told = λ y.
        let z : IsTrue s.device.told = sym h.told ∙ y in
        (first_in_use level (f z)).told y;
    untold = λ e.
        let B : ℕ → Type 0 = λ n. k < n in
        subst B (sym h.blocks) (u.untold (sym h.told ∙ e));
  };
  told = λ y. f (sym h.told ∙ y);
}

-- several entries, of which the first one leads to one leaf alone
abbrev pub IsForked : Tree → Type 0
IsForked (leaf xs) = ⊥
IsForked end = ⊥
IsForked (entry low b c r) = HasEntry r × IsAlone c

fork_row : (child : ℕ → Tree) (s : RigState) (es : List Entry) → 1 < length es
    → IsAlone (child (child_at 0 es)) → IsForked (row_of child s es)
fork_row child s [] n a = absurd (omega (arith, n))
fork_row child s (f ∷ []) n a = absurd (omega (arith, n))
fork_row child s (f ∷ g ∷ es) n a = (tt, a)

row_fork : (child : ℕ → Tree) (s : RigState) (es : List Entry) → IsForked (row_of child s es)
    → (1 < length es) × IsAlone (child (child_at 0 es))
row_fork child s [] h = absurd h
row_fork child s (f ∷ []) h = absurd h.0
row_fork child s (f ∷ g ∷ es) h = (omega arith, h.1)

alone_row : (child : ℕ → Tree) (s : RigState) (es : List Entry) → IsAlone (row_of child s es)
    → (length es ≡ 1) × IsAlone (child (child_at 0 es))
alone_row child s [] h = absurd h
alone_row child s (e ∷ []) h = (refl, h.1)
alone_row child s (e ∷ f ∷ es) h =
    let P : Tree → Type 0 = HasEntry in absurd (subst P h.0 tt)

-- A tree of one leaf alone has one entry in each node.
pub alone_lone : (l : ℕ) (s : RigState) (k : ℕ) → IsAlone (tree_at l s k) → IsLone l s k
alone_lone zero s k a = tt
alone_lone (suc l) s k a =
    let h = alone_row (tree_at l s) s (entries_at s k) a in
    (h.0, alone_lone l s (child_at 0 (entries_at s k)) h.1)

fork_with : (t : Tree) (zs : List Record) → IsForked t → IsForked (with_first_leaf t zs)
fork_with (leaf xs) zs h = absurd h
fork_with end zs h = absurd h
fork_with (entry low b c r) zs h = (h.0, alone_with c zs h.1)

-- A fork is one by the tree from it on,
fork_tree : (l : ℕ) (s : RigState) (k : ℕ) → IsFork s (suc l) k → IsForked (tree_at (suc l) s k)
fork_tree l s k f =
    let one : suc l - 1 ≡ l = omega arith in
    let L : ℕ → Type 0 = λ n. IsLone n s (child_at 0 (entries_at s k)) in
    fork_row (tree_at l s) s (entries_at s k) f.several
    (lone_alone l s (child_at 0 (entries_at s k)) (subst L one f.lone))

tree_fork : (l : ℕ) (s : RigState) (k : ℕ) → IsForked (tree_at (suc l) s k) → IsFork s (suc l) k
tree_fork l s k h =
    let one : suc l - 1 ≡ l = omega arith in
    let L : ℕ → Type 0 = λ n. IsLone n s (child_at 0 (entries_at s k)) in
    let r = row_fork (tree_at l s) s (entries_at s k) h in
    record {
      several = r.0;
      lone = subst L (sym one) (alone_lone l s (child_at 0 (entries_at s k)) r.1);
    }

-- and stays one over other records in the first leaf.
pub fork_stays : (s t : RigState) (l k : ℕ) (zs : List Record) → 0 < l
    → tree_at l t k ≡ with_first_leaf (tree_at l s k) zs → IsFork s l k → IsFork t l k
fork_stays s t zero k zs h e f = absurd (omega (arith, h))
fork_stays s t (suc l) k zs h e f =
    let P : Tree → Type 0 = IsForked in
    tree_fork l t k (subst P (sym e) (fork_with (tree_at (suc l) s k) zs (fork_tree l s k f)))

module _ {s : RigState} {top root l node : ℕ} (told : IsTrue s.device.told)
    (on : IsOnFirstWay s top root l node) (is : IsTreeAt top s root)
    (holds : Holds s (tree_blocks top s root)) where
  -- the way to the node
  abbrev way : List ℕ
  way = first_path (top - l)

  level_is : level_on way top ≡ l
  level_is = way_level l top on.below

  -- The blocks from the node on are those at the end of the way.
  inner_is : tree_blocks (level_on way top) s (node_on way top s root) ≡ tree_blocks l s node
  inner_is = ap (λ j. tree_blocks j s (node_on way top s root)) level_is
      ∙ ap (λ k. tree_blocks l s k) (sym on.node_is)

  others_off : Apart (blocks_with way top s root []) (tree_blocks l s node)
  others_off =
      let A : List ℕ → Type 0 = Apart (blocks_with way top s root []) in
      subst A inner_is (others_apart way top s root on.path (holds.distinct told))

  -- It is on the way after a call on its tree, too.
  pub way_stays : {t : RigState} → Touches (tree_blocks l s node) s t → IsOnFirstWay t top root l node
  way_stays {t} h =
      let m = path_stays (tree_blocks l s node) s t h told way top root on.path is others_off in
      record { below = on.below; path = m.path; node_is = on.node_is ∙ sym m.node }

  -- Such a call, as one on the whole tree.
  pub way_worked : {t : RigState} → Session (tree_blocks l s node) s t (tree_blocks l t node)
      → LosesNone (tree_blocks l s node) (tree_blocks l t node) s t → IsTreeAt l t node
      → TreeWorked s t way top root
  way_worked {t} g none at =
      let P : ℕ → ℕ → Type 0 = λ j k. Session (tree_blocks j s k) s t (tree_blocks j t k) in
      let Q : ℕ → ℕ → Type 0 = λ j k. LosesNone (tree_blocks j s k) (tree_blocks j t k) s t in
      let R : ℕ → ℕ → Type 0 = λ j k. IsTreeAt j t k in
      let e = sym level_is in
      let f = on.node_is in
      let here = node_on way top s root in
      tree_worked s t way top root told on.path is holds
      (let A : ℕ → Type 0 = λ k. P l k in let B : ℕ → Type 0 = λ j. P j here in subst B e (subst A f g))
      (let A : ℕ → Type 0 = λ k. Q l k in let B : ℕ → Type 0 = λ j. Q j here in subst B e (subst A f none))
      (let A : ℕ → Type 0 = λ k. R l k in let B : ℕ → Type 0 = λ j. R j here in subst B e (subst A f at))

-- What is left of a tree whose first leaf has other records.
pub record LeafOut (s t : RigState) (top root lowest : ℕ) : Type 0 where
  pub session : Session (tree_blocks top s root) s t (tree_blocks top t root)
  pub loses : LosesNone (tree_blocks top s root) (tree_blocks top t root) s t
  pub reads : tree_at top t root ≡ with_first_leaf (tree_at top s root) (records_at t lowest)
  pub stands : StandsAt t top root
  pub formed : AreFormed top t root

pub leaf_out : {s t : RigState} {top root lowest : ℕ} (told : IsTrue s.device.told)
    → IsOnFirstWay s top root 0 lowest → StandsAt s top root → AreFormed top s root
    → Holds s (tree_blocks top s root) → Session (tree_blocks 0 s lowest) s t (tree_blocks 0 t lowest)
    → LosesNone (tree_blocks 0 s lowest) (tree_blocks 0 t lowest) s t → IsLeafAt t lowest
    → LeafOut s t top root lowest
leaf_out {s} {t} {top} {root} {lowest} told on stands formed holds g none at =
    let w = way_worked told on stands.is holds g none at in
    let all : top - 0 ≡ top = omega arith in
    let path = first_path top in
    let O : ℕ → Type 0 = λ m. IsPath (first_path m) top s root in
    let N : ℕ → Type 0 = λ m. lowest ≡ node_on (first_path m) top s root in
    let A : ℕ → Type 0 = λ m. Apart (blocks_with (first_path m) top s root []) (tree_blocks 0 s lowest) in
    let n = subst O all on.path in
    let node_is = subst N all on.node_is in
    let off = subst A all (others_off told on stands.is holds) in
    let zs = records_at t lowest in
    let reads : tree_at top t root ≡ with_first_leaf (tree_at top s root) zs =
    taken_reads (tree_blocks 0 s lowest) s t top root g.touches told stands.is n off
    ∙ ap (λ k. with_first_leaf (tree_at top s root) (records_at t k)) (sym node_is) in
    let C : Tree → Type 0 = IsChild in
    let F : Tree → Type 0 = FullRows in
    let whole = tree_at top s root in
    let way0 = first_path (top - 0) in
    let bottom : level_on way0 top ≡ 0 = way_level 0 top on.below in
    let K : ℕ → Type 0 = λ j. AreFormed j t (node_on way0 top s root) in
    record {
      session = w.session;
      loses = w.loses;
      reads = reads;
      stands = record {
        is = w.is;
        rows = full_rows top t root
            (subst C (sym reads) (child_with whole zs (rows_child top s root stands.rows)))
            (subst F (sym reads) (full_with whole zs (rows_full top s root stands.rows)));
      };
      formed = w.formed (λ f. subst K (sym bottom) tt) formed;
    }
