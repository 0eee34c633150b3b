-- The blocks of a tree after a call that changed those from one block on.
use Rattle.std.proofs.Common.{◌≡◌, ℕ, List, [], ◌∷◌, ◌++◌, sym, ap, ◌∙◌, subst, IsTrue}
use Rattle.em_space.specs.Free.{Off, AreDistinct}
use Rattle.em_space.specs.Rig.{RigState, Touches}
use Rattle.em_space.specs.Held as held_blocks
use Rattle.em_space.specs.Held.{Apart, AllInUse, Within}
use Rattle.em_space.proofs.Apart.{off_append, off_left, off_right}
use Rattle.em_space.proofs.Held.{all_kept}
use Rattle.em_space.proofs.Lists.{apart_sym, distinct_right, distinct_join, in_use_append, in_use_left, in_use_right}
use Rattle.em_tree_blocks.specs.Reading.{tree_blocks, IsTreeAt}
use Rattle.em_tree_blocks.specs.Paths.{IsPath, node_on, level_on, blocks_with}
use Rattle.em_tree_blocks.proofs.Paths.{around, blocks_on, path_stays}

-- other blocks between two lists
distinct_between : (front inner back : List ℕ) → AreDistinct (front ++ back) → AreDistinct inner
    → Apart (front ++ back) inner → AreDistinct (front ++ (inner ++ back))
distinct_between [] inner back d e a =
    distinct_join inner back e d (apart_sym back inner a)
distinct_between (x ∷ front) inner back d e a = (
  off_append x front (inner ++ back) (off_left x front back d.0)
      (off_append x inner back a.0 (off_right x front back d.0)),
  distinct_between front inner back d.1 e a.1,
)

in_use_between : (s : RigState) (front inner back : List ℕ) → AllInUse s (front ++ back)
    → AllInUse s inner → AllInUse s (front ++ (inner ++ back))
in_use_between s front inner back u v = in_use_append s front (inner ++ back)
    (in_use_left s front back u) (in_use_append s inner back v (in_use_right s front back u))

in_use_without : (s : RigState) (front inner back : List ℕ) → AllInUse s (front ++ (inner ++ back))
    → AllInUse s (front ++ back)
in_use_without s front inner back u = in_use_append s front back (in_use_left s front (inner ++ back) u)
    (in_use_right s inner back (in_use_right s front (inner ++ back) u))

off_without : (x : ℕ) (front inner back : List ℕ) → Off x (front ++ (inner ++ back)) → Off x (front ++ back)
off_without x front inner back o = off_append x front back (off_left x front (inner ++ back) o)
    (off_right x inner back (off_right x front (inner ++ back) o))

distinct_without : (front inner back : List ℕ) → AreDistinct (front ++ (inner ++ back))
    → AreDistinct (front ++ back)
distinct_without [] inner back d = distinct_right inner back d
distinct_without (x ∷ front) inner back d =
    (off_without x front inner back d.0, distinct_without front inner back d.1)

-- blocks in use that are apart from what was held are apart from blocks that were held or weren't in
-- use
pub apart_within : (s : RigState) (held ks js : List ℕ) → IsTrue s.device.told → Within s held ks
    → AllInUse s js → Apart js held → Apart js ks
apart_within s held ks [] told w u a = tt
apart_within s held ks (j ∷ js) told w u a =
    (w.off told j u.0 a.0, apart_within s held ks js told w u.1 a.1)

-- the blocks before a block on its path and beside it, in use
pub others_in_use : (path : List ℕ) (top : ℕ) (s : RigState) (root : ℕ) → IsPath path top s root
    → AllInUse s (tree_blocks top s root) → AllInUse s (blocks_with path top s root [])
others_in_use path top s root n u =
    let m = around path top s root in
    let inner = tree_blocks (level_on path top) s (node_on path top s root) in
    let P : List ℕ → Type 0 = AllInUse s in
    subst P (sym (m.all [])) (in_use_without s m.front inner m.back
    (subst P (blocks_on path top s root n ∙ m.all inner) u))

-- The tree holds its blocks after a call that changed no block before a block on a path, if what
-- is read from that block on holds its blocks, which were the tree's or weren't in use.
pub holds_after : (held : List ℕ) (s t : RigState) (path : List ℕ) (top root : ℕ) → Touches held s t
    → IsTrue s.device.told → IsPath path top s root → IsTreeAt top s root
    → held_blocks.Holds s (tree_blocks top s root) → Apart (blocks_with path top s root []) held
    → held_blocks.Holds t (tree_blocks (level_on path top) t (node_on path top s root))
    → Within s (tree_blocks (level_on path top) s (node_on path top s root))
    (tree_blocks (level_on path top) t (node_on path top s root))
    → Apart (blocks_with path top s root []) (tree_blocks (level_on path top) s (node_on path top s root))
    → held_blocks.Holds t (tree_blocks top t root)
holds_after held s t path top root h told n is v a w within apart =
    let m = path_stays held s t h told path top root n is a in
    let r = around path top s root in
    let j = node_on path top s root in
    let old = tree_blocks (level_on path top) s j in
    let new = tree_blocks (level_on path top) t j in
    let whole : tree_blocks top t root ≡ r.front ++ (new ++ r.back) =
    blocks_on path top t root m.path
    ∙ (ap (λ i. blocks_with path top t root (tree_blocks (level_on path top) t i)) m.node
    ∙ (m.blocks new ∙ r.all new)) in
    let U : List ℕ → Type 0 = AllInUse t in
    let S : List ℕ → Type 0 = AllInUse s in
    let D : List ℕ → Type 0 = AreDistinct in
    let A : List ℕ → Type 0 = λ ks. Apart ks new in
    let others = others_in_use path top s root n v.in_use in
    let kept = all_kept held s t (blocks_with path top s root []) h (λ z. a) others in
    let off = apart_within s old new (blocks_with path top s root []) told within others apart in
    record {
      in_use = subst U (sym whole) (in_use_between t r.front new r.back (subst U (r.all []) kept) w.in_use);
      distinct = λ z. subst D (sym whole) (distinct_between r.front new r.back
          (distinct_without r.front old r.back (subst D (blocks_on path top s root n ∙ r.all old) (v.distinct told)))
          (w.distinct z) (subst A (r.all []) off));
    }
