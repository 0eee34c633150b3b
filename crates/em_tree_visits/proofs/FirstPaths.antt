-- What stands along the way to the first leaf of a tree.
use Rattle.std.proofs.Common.{◌≡◌, ℕ, zero, suc, ◌-◌, ◌<◌, ◌≤◌, List, [], ◌∷◌, ◌++◌, length, refl, sym, ◌∙◌, subst, arith}
use Rattle.em_record.specs.declared.record.Record.{Record}
use Rattle.em_space.specs.Free.{Off}
use Rattle.em_space.specs.Held.{Holds}
use Rattle.em_space.specs.Rig.{RigState}
use Rattle.em_space.proofs.Apart.{off_left, off_right}
use Rattle.em_space.proofs.Lists.{distinct_left, distinct_right, in_use_left, in_use_right}
use Rattle.em_chain.specs.Chain.{IsPacked, chain_items}
use Rattle.em_node.specs.declared.entry.Entry.{Entry}
use Rattle.em_tree_model.specs.Places.{Place, put_at}
use Rattle.em_tree_model.specs.Places.Place.{here, past, under}
use Rattle.em_tree_model.specs.Taking.{IsAlone, with_first_child, without_first}
use Rattle.em_tree_model.specs.Tree.{Tree, HasEntry, IsChild, with_first_leaf}
use Rattle.em_tree_model.specs.Tree.Tree.{leaf, end, entry}
use Rattle.em_tree_blocks.specs.Node.{buffer_of, linked_block}
use Rattle.em_tree_blocks.specs.Paths.{IsPath, child_at, first_path, level_on, node_on}
use Rattle.em_tree_blocks.specs.Reading.{entries_at, row_of, tree_at, tree_blocks}
use Rattle.em_tree_blocks.proofs.Paths.{around, blocks_on}
use Rattle.em_tree_load.specs.FirstLeaves.{IsFork, IsLone, IsOnFirstWay}
use Rattle.em_tree_walk.specs.Forms.{AreFormed}
use Rattle.em_tree_load.proofs.FirstGone.{IsFirstPlace, first_path_level, lone_gone}
use Rattle.em_tree_walk.specs.Stands.{EachChild, HasRows, StandsAt}
use Rattle.em_tree_walk.proofs.Standing.{child_of_node}
use Rattle.em_tree_buffers.proofs.Lowered.{form_child}

-- The rest of the way to the first leaf, from a node on it.
pub way_rest : (n top : ℕ) (s : RigState) (root : ℕ) → n ≤ top → IsPath (first_path top) top s root
    → IsPath (first_path (level_on (first_path n) top)) (level_on (first_path n) top) s
    (node_on (first_path n) top s root)
    × (node_on (first_path top) top s root
    ≡ node_on (first_path (level_on (first_path n) top)) (level_on (first_path n) top) s
    (node_on (first_path n) top s root))
way_rest zero top s root h i = (i, refl)
way_rest (suc n) zero s root h i = absurd (omega (arith, h))
way_rest (suc n) (suc top) s root h i =
    way_rest n top s (child_at 0 (entries_at s root)) (omega (arith, h)) i.1

-- A tree stands from that node on,
pub stands_on : (n top : ℕ) (s : RigState) (root : ℕ) → IsPath (first_path n) top s root
    → StandsAt s top root → StandsAt s (level_on (first_path n) top) (node_on (first_path n) top s root)
stands_on zero top s root i o = o
stands_on (suc n) zero s root i o = absurd i
stands_on (suc n) (suc top) s root i o =
    stands_on n top s (child_at 0 (entries_at s root)) i.1 (child_of_node 0 o i.0)

-- whose buffers have their forms,
pub formed_on : (n top : ℕ) (s : RigState) (root : ℕ) → IsPath (first_path n) top s root
    → AreFormed top s root
    → AreFormed (level_on (first_path n) top) s (node_on (first_path n) top s root)
formed_on zero top s root i f = f
formed_on (suc n) zero s root i f = absurd i
formed_on (suc n) (suc zero) s root i f = formed_on n zero s (child_at 0 (entries_at s root)) i.1 tt
formed_on (suc n) (suc (suc l)) s root i f =
    formed_on n (suc l) s (child_at 0 (entries_at s root)) i.1
    (form_child (IsPacked s) (AreFormed (suc l) s) (entries_at s root) 0 i.0 f)

-- and whose blocks are among those of the whole tree.
pub off_on : (path : List ℕ) (top : ℕ) (s : RigState) (root k : ℕ) → IsPath path top s root
    → Off k (tree_blocks top s root) → Off k (tree_blocks (level_on path top) s (node_on path top s root))
off_on path top s root k n o =
    let inner = tree_blocks (level_on path top) s (node_on path top s root) in
    let r = around path top s root in
    let O : List ℕ → Type 0 = Off k in
    let all = subst O (blocks_on path top s root n ∙ r.all inner) o in
    off_left k inner r.back (off_right k r.front (inner ++ r.back) all)

pub holds_on : (path : List ℕ) (top : ℕ) (s : RigState) (root : ℕ) → IsPath path top s root
    → Holds s (tree_blocks top s root)
    → Holds s (tree_blocks (level_on path top) s (node_on path top s root))
holds_on path top s root n h =
    let inner = tree_blocks (level_on path top) s (node_on path top s root) in
    let r = around path top s root in
    let H : List ℕ → Type 0 = Holds s in
    let all = subst H (blocks_on path top s root n ∙ r.all inner) h in
    record {
      in_use = in_use_left s inner r.back (in_use_right s r.front (inner ++ r.back) all.in_use);
      distinct = λ z. distinct_left inner r.back (distinct_right r.front (inner ++ r.back) (all.distinct z));
    }

-- each node of a tree has an entry
abbrev pub FullRows : Tree → Type 0
FullRows (leaf xs) = Unit {0}
FullRows end = Unit {0}
FullRows (entry low b c r) = IsChild c × FullRows c × FullRows r

row_is_child : (child : ℕ → Tree) (s : RigState) (es : List Entry) → 0 < length es
    → IsChild (row_of child s es)
row_is_child child s [] h = absurd (omega (arith, h))
row_is_child child s (e ∷ es) h = tt

row_some : (child : ℕ → Tree) (s : RigState) (es : List Entry) → IsChild (row_of child s es)
    → 0 < length es
row_some child s [] h = absurd h
row_some child s (e ∷ es) h = omega arith

-- as it is read,
pub rows_child : (l : ℕ) (s : RigState) (k : ℕ) → HasRows l s.device.contents k → IsChild (tree_at l s k)
rows_child zero s k h = tt
rows_child (suc l) s k h = row_is_child (tree_at l s) s (entries_at s k) h.0

full_row : (l : ℕ) (s : RigState) → ((k : ℕ) → HasRows l s.device.contents k → FullRows (tree_at l s k))
    → (es : List Entry) → EachChild (HasRows l s.device.contents) es → FullRows (row_of (tree_at l s) s es)
full_row l s f [] h = tt
full_row l s f (e ∷ es) h = (
  rows_child l s (linked_block e.child) h.0,
  f (linked_block e.child) h.0,
  full_row l s f es h.1,
)

pub rows_full : (l : ℕ) (s : RigState) (k : ℕ) → HasRows l s.device.contents k → FullRows (tree_at l s k)
rows_full zero s k h = tt
rows_full (suc l) s k h = full_row l s (λ j x. rows_full l s j x) (entries_at s k) h.1

each_row : (l : ℕ) (s : RigState)
    → ((k : ℕ) → IsChild (tree_at l s k) → FullRows (tree_at l s k) → HasRows l s.device.contents k)
    → (es : List Entry) → FullRows (row_of (tree_at l s) s es) → EachChild (HasRows l s.device.contents) es
each_row l s f [] h = tt
each_row l s f (e ∷ es) h = (f (linked_block e.child) h.0 h.1, each_row l s f es h.2)

-- and back.
pub full_rows : (l : ℕ) (s : RigState) (k : ℕ) → IsChild (tree_at l s k) → FullRows (tree_at l s k)
    → HasRows l s.device.contents k
full_rows zero s k c h = tt
full_rows (suc l) s k c h = (
  row_some (tree_at l s) s (entries_at s k) c,
  each_row l s (λ j x y. full_rows l s j x y) (entries_at s k) h,
)

-- With other records in its first leaf, each still has.
pub child_with : (t : Tree) (zs : List Record) → IsChild t → IsChild (with_first_leaf t zs)
child_with (leaf xs) zs c = tt
child_with end zs c = c
child_with (entry low b c r) zs h = tt

pub full_with : (t : Tree) (zs : List Record) → FullRows t → FullRows (with_first_leaf t zs)
full_with (leaf xs) zs h = tt
full_with end zs h = tt
full_with (entry low b c r) zs h = (child_with c zs h.0, full_with c zs h.1, h.2)

-- A tree in which each node on the way has one entry is one leaf alone.
lone_row : (child : ℕ → Tree) (s : RigState) (es : List Entry) → length es ≡ 1
    → IsAlone (child (child_at 0 es)) → IsAlone (row_of child s es)
lone_row child s [] n a = absurd (omega (arith, n))
lone_row child s (e ∷ []) n a = (refl, a)
lone_row child s (e ∷ f ∷ es) n a = absurd (omega (arith, n))

pub lone_alone : (l : ℕ) (s : RigState) (k : ℕ) → IsLone l s k → IsAlone (tree_at l s k)
lone_alone zero s k o = tt
lone_alone (suc l) s k o = lone_row (tree_at l s) s (entries_at s k) o.0
    (lone_alone l s (child_at 0 (entries_at s k)) o.1)

-- Another leaf is left of a fork without its first one.
fork_row : (child : ℕ → Tree) (s : RigState) (es : List Entry) → 1 < length es
    → without_first (child (child_at 0 es)) ≡ end → HasEntry (without_first (row_of child s es))
fork_row child s [] n e = absurd (omega (arith, n))
fork_row child s (f ∷ []) n e = absurd (omega (arith, n))
fork_row child s (f ∷ g ∷ es) n e =
    let P : Tree → Type 0 = λ x. HasEntry (with_first_child x f.low (chain_items s (buffer_of f))
    (row_of child s (g ∷ es))) in
    subst P (sym e) tt

pub fork_some : (l : ℕ) (s : RigState) (k : ℕ) → 0 < l → IsFork s l k
    → HasEntry (without_first (tree_at l s k))
fork_some zero s k h f = absurd (omega (arith, h))
fork_some (suc l) s k h f =
    let one : suc l - 1 ≡ l = omega arith in
    let L : ℕ → Type 0 = λ n. IsLone n s (child_at 0 (entries_at s k)) in
    fork_row (tree_at l s) s (entries_at s k) f.several
    (lone_gone l s (child_at 0 (entries_at s k)) (subst L one f.lone))

pub some_at : (p : Place) (t : Tree) → IsFirstPlace p → HasEntry t → HasEntry (put_at p t)
some_at here t i h = h
some_at (under low b r p) t i h = tt
some_at (past low b c p) t i h = absurd i

-- the level at the end of the way to a level
pub way_level : (l top : ℕ) → l ≤ top → level_on (first_path (top - l)) top ≡ l
way_level l top h =
    let e = first_path_level (top - l) top (omega (arith, h)) in omega (arith, e, h)

-- A node on the way to the first leaf has the same way on.
pub on_way_rest : (s : RigState) (top root l node lowest : ℕ) → IsOnFirstWay s top root l node
    → IsOnFirstWay s top root 0 lowest → IsOnFirstWay s l node 0 lowest
on_way_rest s top root l node lowest a b =
    let n = top - l in
    let all : top - 0 ≡ top = omega arith in
    let P : ℕ → Type 0 = λ m. IsPath (first_path m) top s root in
    let N : ℕ → Type 0 = λ m. lowest ≡ node_on (first_path m) top s root in
    let r = way_rest n top s root (omega arith) (subst P all b.path) in
    let level = way_level l top a.below in
    let is : l - 0 ≡ l = omega arith in
    let Q : ℕ → ℕ → ℕ → Type 0 = λ m j k. IsPath (first_path m) j s k in
    let R : ℕ → ℕ → ℕ → Type 0 = λ m j k. lowest ≡ node_on (first_path m) j s k in
    let path1 : Q l l (node_on (first_path n) top s root) =
    (let F : ℕ → Type 0 = λ j. Q j j (node_on (first_path n) top s root) in subst F level r.0) in
    let path2 : Q l l node = (let F : ℕ → Type 0 = λ k. Q l l k in subst F (sym a.node_is) path1) in
    let leaf1 : R l l (node_on (first_path n) top s root) =
    (let F : ℕ → Type 0 = λ j. R j j (node_on (first_path n) top s root) in
    subst F level (subst N all b.node_is ∙ r.1)) in
    let leaf2 : R l l node = (let F : ℕ → Type 0 = λ k. R l l k in subst F (sym a.node_is) leaf1) in
    record {
      below = omega arith;
      path = (let F : ℕ → Type 0 = λ m. Q m l node in subst F (sym is) path2);
      node_is = (let F : ℕ → Type 0 = λ m. R m l node in subst F (sym is) leaf2);
    }
