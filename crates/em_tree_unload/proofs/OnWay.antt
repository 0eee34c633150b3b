-- What stands on the way to the first leaf of a tree.
use Rattle.std.proofs.Common.{◌≡◌, ℕ, zero, suc, ◌-◌, ◌<◌, ◌≤◌, List, [], ◌∷◌, ◌++◌, length, refl, sym, ap, ◌∙◌, subst, arith, IsTrue, Option, Some, None}
use Rattle.em_space.specs.Free.{Off}
use Rattle.em_space.specs.Held.{Apart, Holds}
use Rattle.em_space.specs.Rig.{RigState, Touches}
use Rattle.em_space.proofs.Apart.{off_left, off_right}
use Rattle.em_space.proofs.Lists.{apart_left, apart_right}
use Rattle.em_space.proofs.Steps.{touches_wider}
use Rattle.em_chain.specs.Chain.{chain_blocks, chain_items}
use Rattle.em_node.specs.Node.{entries_of}
use Rattle.em_node.specs.declared.entry.Entry.{Entry}
use Rattle.em_tree_model.specs.Places.{put_at}
use Rattle.em_tree_model.specs.Taking.{with_first_child, without_first}
use Rattle.em_tree_model.specs.Tree.{Tree, HasEntry, first_leaf}
use Rattle.em_tree_model.specs.Tree.Tree.{end}
use Rattle.em_tree_blocks.specs.Node.{buffer_of, linked_block}
use Rattle.em_tree_blocks.specs.Paths.{IsPath, blocks_with, child_at, first_path, level_on, node_on, place_on, row_with}
use Rattle.em_tree_blocks.specs.Reading.{IsTreeAt, entries_at, row_blocks, row_of, tree_at, tree_blocks}
use Rattle.em_tree_blocks.proofs.Frames.{block_same}
use Rattle.em_tree_blocks.proofs.Paths.{around, blocks_on, child_stored, others_apart, path_stays, tree_on}
use Rattle.em_tree_load.specs.FirstLeaves.{IsFork, IsLastFork, IsLone, IsOnFirstWay, LeadsToFork}
use Rattle.em_tree_load.proofs.FirstGone.{IsFirstPlace, first_leaf_put, first_path_level, first_place, lone_gone}
use Rattle.em_tree_walk.specs.Stands.{StandsAt}
use Rattle.em_tree_walk.proofs.Regions.{held_first, held_second}
use Rattle.em_tree_walk.proofs.Standing.{child_of_node}
use Rattle.em_tree_walk.specs.declared.splitting.Root.{Root}
use Rattle.em_tree_unload.proofs.NoneWaiting.{HasNoneWaiting, put_waits}

-- A tree stands from each node of a path on,
stands_on : (path : List ℕ) (top : ℕ) (s : RigState) (root : ℕ) → IsPath path top s root
    → StandsAt s top root → StandsAt s (level_on path top) (node_on path top s root)
stands_on [] top s root i o = o
stands_on (j ∷ path) zero s root i o = absurd i
stands_on (j ∷ path) (suc top) s root i o =
    stands_on path top s (child_at j (entries_at s root)) i.1 (child_of_node j o i.0)

-- and its blocks are among those of the whole tree.
off_on : (path : List ℕ) (top : ℕ) (s : RigState) (root k : ℕ) → IsPath path top s root
    → Off k (tree_blocks top s root) → Off k (tree_blocks (level_on path top) s (node_on path top s root))
off_on path top s root k n o =
    let inner = tree_blocks (level_on path top) s (node_on path top s root) in
    let r = around path top s root in
    let O : List ℕ → Type 0 = Off k in
    let all = subst O (blocks_on path top s root n ∙ r.all inner) o in
    off_left k inner r.back (off_right k r.front (inner ++ r.back) all)

holds_on : (path : List ℕ) (top : ℕ) (s : RigState) (root : ℕ) → IsPath path top s root
    → Holds s (tree_blocks top s root)
    → Holds s (tree_blocks (level_on path top) s (node_on path top s root))
holds_on path top s root n h =
    let inner = tree_blocks (level_on path top) s (node_on path top s root) in
    let r = around path top s root in
    let H : List ℕ → Type 0 = Holds s in
    held_first inner r.back
    (held_second r.front (inner ++ r.back) (subst H (blocks_on path top s root n ∙ r.all inner) h))

-- the level at the end of the way to a level
way_level : (l top : ℕ) → l ≤ top → level_on (first_path (top - l)) top ≡ l
way_level l top h =
    let e = first_path_level (top - l) top (omega (arith, h)) in omega (arith, e, h)

module _ {s : RigState} {top root l node : ℕ} (on : IsOnFirstWay s top root l node) where
  -- A fact about what stands at the end of the way to a node is one about the node,
  pub of_way : (P : ℕ → ℕ → Type 0)
      → P (level_on (first_path (top - l)) top) (node_on (first_path (top - l)) top s root) → P l node
  of_way P p =
      let A : ℕ → Type 0 = λ j. P j (node_on (first_path (top - l)) top s root) in
      let B : ℕ → Type 0 = λ k. P l k in
      subst B (sym on.node_is) (subst A (way_level l top on.below) p)

  -- and back.
  pub to_way : (P : ℕ → ℕ → Type 0) → P l node
      → P (level_on (first_path (top - l)) top) (node_on (first_path (top - l)) top s root)
  to_way P p =
      let A : ℕ → Type 0 = λ k. P l k in
      let B : ℕ → Type 0 = λ j. P j (node_on (first_path (top - l)) top s root) in
      subst B (sym (way_level l top on.below)) (subst A on.node_is p)

  -- The whole tree, by the one from the node on.
  pub way_tree : tree_at top s root ≡ put_at (place_on (first_path (top - l)) top s root) (tree_at l s node)
  way_tree = of_way
      (λ j k. tree_at top s root ≡ put_at (place_on (first_path (top - l)) top s root) (tree_at j s k))
      (tree_on (first_path (top - l)) top s root on.path)

  pub way_place : IsFirstPlace (place_on (first_path (top - l)) top s root)
  way_place = first_place (top - l) top s root

  -- That one stands,
  pub way_stands : StandsAt s top root → StandsAt s l node
  way_stands o = of_way (λ j k. StandsAt s j k) (stands_on (first_path (top - l)) top s root on.path o)

  -- nothing waits in it,
  pub way_waits : (n : ℕ) → HasNoneWaiting n (tree_at top s root) → HasNoneWaiting n (tree_at l s node)
  way_waits n h =
      let P : Tree → Type 0 = HasNoneWaiting n in
      put_waits n (place_on (first_path (top - l)) top s root) (tree_at l s node) way_place (subst P way_tree h)

  -- it has the same first leaf,
  pub way_first : first_leaf (tree_at l s node) ≡ first_leaf (tree_at top s root)
  way_first =
      sym (first_leaf_put (place_on (first_path (top - l)) top s root) (tree_at l s node) way_place)
      ∙ ap first_leaf (sym way_tree)

  -- and holds some of the blocks.
  pub way_holds : Holds s (tree_blocks top s root) → Holds s (tree_blocks l s node)
  way_holds h = of_way (λ j k. Holds s (tree_blocks j s k))
      (holds_on (first_path (top - l)) top s root on.path h)

  pub way_off : (k : ℕ) → Off k (tree_blocks top s root) → Off k (tree_blocks l s node)
  way_off k o = of_way (λ i j. Off k (tree_blocks i s j))
      (off_on (first_path (top - l)) top s root k on.path o)

  -- The others are apart from these.
  pub way_apart : IsTrue s.device.told → Holds s (tree_blocks top s root)
      → Apart (blocks_with (first_path (top - l)) top s root []) (tree_blocks l s node)
  way_apart z h = of_way
      (λ i j. Apart (blocks_with (first_path (top - l)) top s root []) (tree_blocks i s j))
      (others_apart (first_path (top - l)) top s root on.path (h.distinct z))

-- The rest of the way to the first leaf, from a node on it.
way_rest : (n top : ℕ) (s : RigState) (root : ℕ) → n ≤ top → IsPath (first_path top) top s root
    → IsPath (first_path (level_on (first_path n) top)) (level_on (first_path n) top) s
    (node_on (first_path n) top s root)
    × (node_on (first_path top) top s root
    ≡ node_on (first_path (level_on (first_path n) top)) (level_on (first_path n) top) s
    (node_on (first_path n) top s root))
way_rest zero top s root h i = (i, refl)
way_rest (suc n) zero s root h i = absurd (omega (arith, h))
way_rest (suc n) (suc top) s root h i =
    way_rest n top s (child_at 0 (entries_at s root)) (omega (arith, h)) i.1

-- the whole way to the first leaf
pub record ToLeaf (s : RigState) (top root lowest : ℕ) : Type 0 where
  pub path : IsPath (first_path top) top s root
  pub node_is : lowest ≡ node_on (first_path top) top s root

to_leaf : {s : RigState} {top root lowest : ℕ} → IsOnFirstWay s top root 0 lowest → ToLeaf s top root lowest
to_leaf {s} {top} {root} {lowest} on =
    let all : top - 0 ≡ top = omega arith in
    let P : ℕ → Type 0 = λ m. IsPath (first_path m) top s root in
    let N : ℕ → Type 0 = λ m. lowest ≡ node_on (first_path m) top s root in
    record { path = subst P all on.path; node_is = subst N all on.node_is }

leaf_on : {s : RigState} {top root lowest : ℕ} → ToLeaf s top root lowest → IsOnFirstWay s top root 0 lowest
leaf_on {s} {top} {root} {lowest} x =
    let all : top - 0 ≡ top = omega arith in
    let P : ℕ → Type 0 = λ m. IsPath (first_path m) top s root in
    let N : ℕ → Type 0 = λ m. lowest ≡ node_on (first_path m) top s root in
    record { below = omega arith; path = subst P (sym all) x.path; node_is = subst N (sym all) x.node_is }

-- A node on the way has the same way on.
pub way_on : {s : RigState} {top root l node lowest : ℕ} → IsOnFirstWay s top root l node
    → IsOnFirstWay s top root 0 lowest → IsOnFirstWay s l node 0 lowest
way_on {s} {top} {root} {l} {node} {lowest} a b =
    let n = top - l in
    let x = to_leaf b in
    let r = way_rest n top s root (omega arith) x.path in
    leaf_on (of_way a (λ j k. ToLeaf s j k lowest) (record { path = r.0; node_is = x.node_is ∙ r.1 }))

-- The blocks on the way are apart from the leaf's.
leaf_apart : {s : RigState} {top root lowest : ℕ} → IsTrue s.device.told
    → IsOnFirstWay s top root 0 lowest → Holds s (tree_blocks top s root)
    → Apart (blocks_with (first_path top) top s root []) (tree_blocks 0 s lowest)
leaf_apart {s} {top} {root} {lowest} z on h =
    let all : top - 0 ≡ top = omega arith in
    let A : ℕ → Type 0 = λ m. Apart (blocks_with (first_path m) top s root []) (tree_blocks 0 s lowest) in
    subst A all (way_apart on z h)

-- the blocks of one child are apart from those from which a row's are
inner_apart : (child : ℕ → List ℕ) (s : RigState) (es : List Entry) (i : ℕ) (inner held : List ℕ)
    → i < length es → Apart (row_with child s es i inner) held → Apart inner held
inner_apart child s [] i inner held n a = absurd (omega (arith, n))
inner_apart child s (e ∷ es) zero inner held n a =
    let c = chain_blocks s (buffer_of e) in
    let r = row_blocks child s es in
    apart_left inner r held (apart_right c (inner ++ r) held a)
inner_apart child s (e ∷ es) (suc i) inner held n a =
    let c = chain_blocks s (buffer_of e) in
    let d = child (linked_block e.child) in
    let r = row_with child s es i inner in
    inner_apart child s es i inner held (omega (arith, n)) (apart_right d r held (apart_right c (d ++ r) held a))

-- Over a call that changes the leaf alone, nodes of one entry stay so,
module _ (held : List ℕ) (s t : RigState) (h : Touches held s t) (told : IsTrue s.device.told) where
  lone_stays : (l k : ℕ) → IsPath (first_path l) l s k → IsTreeAt l s k
      → Apart (blocks_with (first_path l) l s k []) held → IsLone l s k → IsLone l t k
  lone_stays zero k n i a o = tt
  lone_stays (suc l) k n i a o =
      let es = entries_at s k in
      let c = child_at 0 es in
      let same : entries_at t k ≡ es = ap entries_of (block_same held s t h told k i.0.in_use a.0) in
      let P : List Entry → Type 0 = λ fs. (length fs ≡ 1) × IsLone l t (child_at 0 fs) in
      subst P (sym same) (
        o.0,
        lone_stays l c n.1 (child_stored (IsTreeAt l s) s es 0 n.0 i.1)
            (inner_apart (tree_blocks l s) s es 0 (blocks_with (first_path l) l s c []) held n.0 a.1) o.1,
      )

  fork_stays : (l k : ℕ) → 0 < l → IsPath (first_path l) l s k → IsTreeAt l s k
      → Apart (blocks_with (first_path l) l s k []) held → IsFork s l k → IsFork t l k
  fork_stays zero k h1 n i a o = absurd (omega (arith, h1))
  fork_stays (suc l) k h1 n i a o =
      let es = entries_at s k in
      let c = child_at 0 es in
      let same : entries_at t k ≡ es = ap entries_of (block_same held s t h told k i.0.in_use a.0) in
      let one : suc l - 1 ≡ l = omega arith in
      let L : ℕ → Type 0 = λ m. IsLone m s c in
      let M : ℕ → Type 0 = λ m. IsLone m t c in
      let N : List Entry → Type 0 = λ fs. 1 < length fs in
      let K : List Entry → Type 0 = λ fs. IsLone (suc l - 1) t (child_at 0 fs) in
      record {
        several = subst N (sym same) o.several;
        lone = subst K (sym same) (subst M (sym one)
            (lone_stays l c n.1 (child_stored (IsTreeAt l s) s es 0 n.0 i.1)
            (inner_apart (tree_blocks l s) s es 0 (blocks_with (first_path l) l s c []) held n.0 a.1)
            (subst L one o.lone)));
      }

-- and the last fork is where it was.
pub last_stays : {s t : RigState} {top root lowest : ℕ} (o : Option Root) → LeadsToFork s top o
    → IsTrue s.device.told → StandsAt s top root → Holds s (tree_blocks top s root)
    → IsOnFirstWay s top root 0 lowest → Touches (tree_blocks 0 s lowest) s t
    → IsLastFork s top root o → IsLastFork t top root o
last_stays {s} {t} {top} {root} {lowest} None leads z stands holds on h x =
    lone_stays (tree_blocks 0 s lowest) s t h z top root (to_leaf on).path stands.is
    (leaf_apart z on holds) x
last_stays {s} {t} {top} {root} {lowest} (Some f) leads z stands holds on h x =
    let here = x.0 in
    let below = way_on here on in
    let whole = tree_blocks f.level s f.block in
    let wider = touches_wider whole (tree_blocks 0 s lowest) s t h (λ y k u o. way_off below k o) in
    let m = path_stays whole s t wider z (first_path (top - f.level)) top root here.path stands.is
    (way_apart here z holds) in (
      record { below = here.below; path = m.path; node_is = here.node_is ∙ sym m.node },
      fork_stays (tree_blocks 0 s lowest) s t h z f.level f.block leads.0 (to_leaf below).path
          (way_stands here stands).is (leaf_apart z below (way_holds here holds)) x.1,
    )

-- Of a fork another leaf is left without its first one.
fork_row : (child : ℕ → Tree) (s : RigState) (es : List Entry) → 1 < length es
    → without_first (child (child_at 0 es)) ≡ end → HasEntry (without_first (row_of child s es))
fork_row child s [] n e = absurd (omega (arith, n))
fork_row child s (f ∷ []) n e = absurd (omega (arith, n))
fork_row child s (f ∷ g ∷ es) n e =
    let P : Tree → Type 0 = λ x. HasEntry (with_first_child x f.low (chain_items s (buffer_of f))
    (row_of child s (g ∷ es))) in
    subst P (sym e) tt

pub fork_some : (l : ℕ) (s : RigState) (k : ℕ) → 0 < l → IsFork s l k
    → HasEntry (without_first (tree_at l s k))
fork_some zero s k h f = absurd (omega (arith, h))
fork_some (suc l) s k h f =
    let one : suc l - 1 ≡ l = omega arith in
    let L : ℕ → Type 0 = λ n. IsLone n s (child_at 0 (entries_at s k)) in
    fork_row (tree_at l s) s (entries_at s k) f.several
    (lone_gone l s (child_at 0 (entries_at s k)) (subst L one f.lone))
