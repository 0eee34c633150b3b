-- A way to a leaf with no record, released from its first node on.
use Rattle.std.proofs.Common.{◌≡◌, ℕ, zero, suc, ◌+◌, ◌-◌, ◌*◌, ◌<◌, List, [], ◌∷◌, ◌++◌, drop, get_or, length, refl, sym, ap, ◌∙◌, subst, arith, IsTrue, Result, Ok, Err, IsErrAnd, IfErr, OnErr, OnOk}
use Rattle.std.proofs.lemmas.List.{append-nil}
use Rattle.em_record.specs.declared.record.Record.{Record}
use Rattle.em_space.specs.Free.{linked_from}
use Rattle.em_space.specs.Held.{Apart}
use Rattle.em_space.specs.Rig.{RigState, BlockCause, Goes, MovesToRelease, Releases, SameBlocks, Touches}
use Rattle.em_space.specs.declared.fault.EmFault.{EmFault}
use Rattle.em_space.proofs.Steps.{release_moves}
use Rattle.em_chain.specs.Chain.{IsChain, chain_blocks, chain_items}
use Rattle.em_chain.specs.declared.chain.Chain.{Chain}
use Rattle.em_chain.proofs.Readers.{length_items, none_left}
use Rattle.em_chain.proofs.Views.{view_of}
use Rattle.em_node.specs.declared.entry.Entry.{Entry}
use Rattle.em_node.specs.Node.{entries_of, no_entry}
use Rattle.em_tree_model.specs.Tree.{first_leaf, over_first}
use Rattle.em_tree_blocks.specs.Node.{buffer_of}
use Rattle.em_tree_blocks.specs.Paths.{child_at}
use Rattle.em_tree_blocks.specs.Reading.{AreStored, IsTreeAt, entries_at, row_blocks, stored_chain, tree_at, tree_blocks}
use Rattle.em_tree_blocks.proofs.Entries.{entry_put}
use Rattle.em_tree_blocks.proofs.Frames.{block_same}
use Rattle.em_tree_blocks.proofs.Paths.{child_stored}
use Rattle.em_tree_load.specs.FirstLeaves.{IsLone}
use Rattle.em_tree_load.specs.RemovalSteps.{CanReleaseWay, IsReleasableWay, ReleasedNode, ReleasedWay, ReleasesWay, StopsInPlace}
use Rattle.em_tree_walk.specs.SplitPaths.{TakesUpTo}
use Rattle.em_tree_walk.proofs.Children.{blocks_after, blocks_around, child_beside, entry_of_place}
use Rattle.em_tree_load.proofs.FirstGone.{nothing_first, nothing_last}
use Rattle.em_tree_load.proofs.InPlace.{ChildStill, child_leads, child_still, node_place, place_beside, place_from, place_then, place_wider, release_takes}
use Rattle.em_tree_walk.proofs.Takes.{takes_beside, takes_from, takes_then, takes_wider}
use Rattle.em_space.proofs.Lists.{apart_left, apart_right, apart_sym}
use Rattle.em_tree_walk.specs.Stands.{StandsAt}
use Rattle.em_tree_walk.specs.Taken.{StopsTaking}
use Rattle.em_tree_walk.proofs.Standing.{child_of_node}

-- A chain with no record has no block.
pub chain_none : (s : RigState) (c : Chain) → IsChain s c → IsTrue s.device.told
    → chain_items s c ≡ [] → chain_blocks s c ≡ []
chain_none s c i z e =
    let count = length_items s c i z in
    let n = ap (λ (xs : List Record). length xs) e in
    let blocks = none_left s c (view_of s c i) z (omega (arith, count, n)) in
    ap (λ (k : ℕ). linked_from k s.device.contents c.head) blocks

-- Of a node over whose first leaf nothing waits: nothing waits in its first entry's buffer, which
-- holds no block, and nothing further down.
pub record WaitsNone (l : ℕ) (s : RigState) (node : ℕ) : Type 0 where
  pub own : chain_blocks s (buffer_of (entry_of_place s node 0)) ≡ []
  pub under : over_first (tree_at l s (child_at 0 (entries_at s node))) ≡ []

row_buffer : (Child : ℕ → Type 0) (s : RigState) (es : List Entry) (i : ℕ) → i < length es
    → AreStored Child s es → IsChain s (buffer_of (get_or es i no_entry))
row_buffer Child s [] i h a = absurd (omega (arith, h))
row_buffer Child s (e ∷ es) zero h a = a.0
row_buffer Child s (e ∷ es) (suc i) h a = row_buffer Child s es i (omega (arith, h)) a.2

pub waits_none : (l : ℕ) (s : RigState) (node : ℕ) → IsTrue s.device.told → StandsAt s (suc l) node
    → over_first (tree_at (suc l) s node) ≡ [] → WaitsNone l s node
waits_none l s node z o none =
    let es = entries_at s node in
    let e = entry_of_place s node 0 in
    let xs = chain_items s (buffer_of e) in
    let under = over_first (tree_at l s (child_at 0 es)) in
    let is : under ++ xs ≡ [] = ap over_first (sym (entry_put l s node 0 o.rows.0)) ∙ none in
    record {
      own = chain_none s (buffer_of e) (row_buffer (IsTreeAt l s) s es 0 o.rows.0 o.is.1) z
          (nothing_last under xs is);
      under = nothing_first under xs is;
    }

pub stores_none : (l : ℕ) (s : RigState) (node : ℕ) → 0 < length (entries_at s node)
    → first_leaf (tree_at (suc l) s node) ≡ []
    → first_leaf (tree_at l s (child_at 0 (entries_at s node))) ≡ []
stores_none l s node one none = ap first_leaf (sym (entry_put l s node 0 one)) ∙ none

-- Its blocks, by those of its first child.
pub blocks_lone : (l : ℕ) (s : RigState) (node : ℕ) → 0 < length (entries_at s node)
    → WaitsNone l s node
    → tree_blocks (suc l) s node ≡ (node ∷ [])
    ++ (tree_blocks l s (child_at 0 (entries_at s node)) ++ blocks_after l s node 0)
blocks_lone l s node one w =
    let rest = tree_blocks l s (child_at 0 (entries_at s node)) ++ blocks_after l s node 0 in
    blocks_around l s node 0 one ∙ ap (λ (js : List ℕ). (node ∷ js) ++ rest) w.own

drop_one : (child : ℕ → List ℕ) (s : RigState) (es : List Entry) → length es ≡ 1
    → row_blocks child s (drop 1 es) ≡ []
drop_one child s [] h = refl
drop_one child s (e ∷ []) h = refl
drop_one child s (e ∷ f ∷ es) h = absurd (omega (arith, h))

-- Nodes of one entry stay so over calls on other blocks.
module _ (held : List ℕ) (s t : RigState) (h : Touches held s t) (told : IsTrue s.device.told) where
  first_apart : (l : ℕ) (es : List Entry) → 0 < length es → Apart (row_blocks (tree_blocks l s) s es) held
      → Apart (tree_blocks l s (child_at 0 es)) held
  first_apart l [] one a = absurd (omega (arith, one))
  first_apart l (e ∷ es) one a =
      let own = chain_blocks s (buffer_of e) in
      let ks = tree_blocks l s (child_at 0 (e ∷ es)) in
      let rest = row_blocks (tree_blocks l s) s es in
      apart_left ks rest held (apart_right own (ks ++ rest) held a)

  pub lone_left : (l k : ℕ) → Apart (tree_blocks l s k) held → IsTreeAt l s k → IsLone l s k
      → IsLone l t k
  lone_left zero k a i o = tt
  lone_left (suc l) k a i o =
      let es = entries_at s k in
      let one : 0 < length es = omega (arith, o.0) in
      let same : entries_at t k ≡ es = ap entries_of (block_same held s t h told k i.0.in_use a.0) in
      let P : List Entry → Type 0 = λ fs. (length fs ≡ 1) × IsLone l t (child_at 0 fs) in
      subst P (sym same) (
        o.0,
        lone_left l (child_at 0 es) (first_apart l es one a.1)
            (child_stored (IsTreeAt l s) s es 0 one i.1) o.1,
      )

-- A leaf with no record was released,
pub leaf_released : {s t : RigState} (node : ℕ) (result : Result Unit EmFault) → CanReleaseWay s 0 node
    → Goes (node ∷ []) s t → OnOk result (Releases s t node) → OnErr result (SameBlocks s t)
    → t.most ≡ s.most → MovesToRelease s t → IfErr result (BlockCause s t)
    → ReleasesWay s t 0 node result
leaf_released {s} {t} node (Ok v) can g d same most m c =
    let one = release_moves s t m in
    record {
      takes = takes_from (tree_blocks 0 s node) (release_takes node 1 g d most (omega (arith, one)))
          (λ z. ap (λ (ks : List ℕ). node ∷ ks) (leaf_none can z));
    }
  where
    leaf_none : CanReleaseWay s 0 node → IsTrue s.device.told
        → chain_blocks s (stored_chain s node) ≡ []
    leaf_none can z = chain_none s (stored_chain s node) (can.leads.told z).is.stored z
        (can.told z).none_stored
leaf_released {s} {t} node (Err e) can g d same most m c =
    let one = release_moves s t m in
    let used = same.used in
    place_from (tree_blocks 0 s node) (record {
      goes = g;
      used = omega (arith, used);
      most = omega (arith, most);
      moves = omega (arith, one);
      cause = c;
    }) (λ z. ap (λ (ks : List ℕ). node ∷ ks)
    (chain_none s (stored_chain s node) (can.leads.told z).is.stored z (can.told z).none_stored))

pub gone_at_leaf : {s t : RigState} (level node : ℕ) (result : Result Unit EmFault) → level ≡ 0
    → CanReleaseWay s level node → Goes (node ∷ []) s t → OnOk result (Releases s t node)
    → OnErr result (SameBlocks s t) → t.most ≡ s.most → MovesToRelease s t
    → IfErr result (BlockCause s t) → ReleasesWay s t level node result
gone_at_leaf {s} {t} level node result e can g d same most m c =
    let P : ℕ → Type 0 = λ l. CanReleaseWay s l node in
    let Q : ℕ → Type 0 = λ l. ReleasesWay s t l node result in
    subst Q (sym e) (leaf_released node result (subst P e can) g d same most m c)

module _ {s a : RigState} {node child : ℕ} (l : ℕ) (can : CanReleaseWay s (suc l) node)
    (x : ReleasedNode s a node child) where
  some_entry : IsTrue s.device.told → 0 < length (entries_at s node)
  some_entry z = (can.leads.told z).rows.0

  child_after : IsTrue s.device.told → ChildStill l s a (child_at 0 (entries_at s node))
  child_after z = child_still l node 0 z x.goes.touches (can.leads.told z) (some_entry z)
      (can.told z).holds

  -- The way from a node's first child on, after the node was released.
  pub child_of_way : CanReleaseWay a l child
  child_of_way =
      let h = x.goes.touches in
      let c = child_at 0 (entries_at s node) in
      let back : IsTrue a.device.told → IsTrue s.device.told = λ y. sym h.told ∙ y in
      let W : ℕ → Type 0 = IsReleasableWay a l in
      record {
        leads = child_leads s a l child c x.child_below h.blocks h.told x.child_is
            (λ z. (child_after z).stands);
        told = λ y.
            let z = back y in
            let o = can.told z in
            let still = child_after z in
            let waits = waits_none l s node z (can.leads.told z) o.none_waits in
            let beside = child_beside l s node 0 (some_entry z) (o.holds.distinct z) in
            let ks = tree_blocks l s c in
            let apart : Apart ks (node ∷ []) = apart_sym (node ∷ []) ks (beside.first, tt) in
            subst W (sym (x.child_is z)) (record {
              lone = lone_left (node ∷ []) s a h z l c apart
                  (child_of_node 0 (can.leads.told z) (some_entry z)).is o.lone.1;
              none_stored = ap first_leaf still.tree
                  ∙ stores_none l s node (some_entry z) o.none_stored;
              none_waits = ap over_first still.tree ∙ waits.under;
              holds = still.holds;
            });
      }

  -- the blocks that are left then
  left_blocks : IsTrue s.device.told
      → row_blocks (tree_blocks l s) s (entries_at s node) ≡ tree_blocks l a child
  left_blocks z =
      let o = can.told z in
      let es = entries_at s node in
      let ks = tree_blocks l s (child_at 0 es) in
      let waits = waits_none l s node z (can.leads.told z) o.none_waits in
      let whole : node ∷ row_blocks (tree_blocks l s) s es ≡ node ∷ (ks ++ blocks_after l s node 0) =
      blocks_lone l s node (some_entry z) waits in
      ap (λ (js : List ℕ). drop 1 js) whole
      ∙ (ap (λ (js : List ℕ). ks ++ js) (drop_one (tree_blocks l s) s es o.lone.0)
      ∙ (append-nil ks ∙ (sym (child_after z).blocks
      ∙ ap (λ (k : ℕ). tree_blocks l a k) (sym (x.child_is z)))))

  node_first : TakesUpTo 0 2 (tree_blocks (suc l) s node)
      (row_blocks (tree_blocks l s) s (entries_at s node)) s a
  node_first = takes_beside [] (node ∷ []) [] (row_blocks (tree_blocks l s) s (entries_at s node))
      (λ z. (can.told z).holds) (release_takes node 2 x.goes x.released x.most x.moves)

-- The rest of the way was released, too,
pub way_released : {s a t : RigState} {node child : ℕ} (l : ℕ) → CanReleaseWay s (suc l) node
    → ReleasedNode s a node child → ReleasedWay a t l child → ReleasedWay s t (suc l) node
way_released {s} {a} {t} {node} {child} l can x w =
    let back : IsTrue a.device.told → IsTrue s.device.told = λ y. sym x.goes.touches.told ∙ y in
    record {
      takes = takes_wider 0 (2 * suc l + 1) (omega arith) (omega arith)
          (takes_then (node_first l can x)
          (takes_from (row_blocks (tree_blocks l s) s (entries_at s node)) w.takes
          (λ y. left_blocks l can x (back y))));
    }

-- or couldn't be.
pub way_unreleased : {s a t : RigState} {node child : ℕ} {e : EmFault} (l : ℕ)
    → CanReleaseWay s (suc l) node → ReleasedNode s a node child
    → StopsInPlace (2 * l + 1) (tree_blocks l a child) a t e
    → StopsInPlace (2 * suc l + 1) (tree_blocks (suc l) s node) s t e
way_unreleased {s} {a} {t} {node} {child} l can x w =
    let back : IsTrue a.device.told → IsTrue s.device.told = λ y. sym x.goes.touches.told ∙ y in
    place_wider (2 * suc l + 1) (omega arith) (place_then (node_first l can x)
    (place_from (row_blocks (tree_blocks l s) s (entries_at s node)) w
    (λ y. left_blocks l can x (back y))))

pub node_unreleased : {s a : RigState} {e : EmFault} (level node : ℕ) → 0 < level
    → StopsTaking s a node e → StopsInPlace (2 * level + 1) (tree_blocks level s node) s a e
node_unreleased zero node above x = absurd (omega (arith, above))
node_unreleased {s} (suc l) node above x =
    place_wider (2 * suc l + 1) (omega arith) (place_beside [] (node ∷ [])
    (row_blocks (tree_blocks l s) s (entries_at s node)) (node_place x))

-- The same by the level.
pub gone_child : {s a : RigState} {child : ℕ} (level node : ℕ) → 0 < level
    → CanReleaseWay s level node → ReleasedNode s a node child → CanReleaseWay a (level - 1) child
gone_child zero node above can x = absurd (omega (arith, above))
gone_child {s} {a} {child} (suc l) node above can x =
    let e : l ≡ suc l - 1 = omega arith in
    subst (λ (n : ℕ). CanReleaseWay a n child) e (child_of_way l can x)

pub releases_on : {s a : RigState} {child : ℕ} (level node : ℕ) (t : RigState)
    (result : Result Unit EmFault) → 0 < level → CanReleaseWay s level node
    → ReleasedNode s a node child → ReleasesWay a t (level - 1) child result
    → ReleasesWay s t level node result
releases_on zero node t result above can x w = absurd (omega (arith, above))
releases_on {s} {a} {child} (suc l) node t (Ok v) above can x w =
    let e : suc l - 1 ≡ l = omega arith in
    way_released l can x (subst (λ (n : ℕ). ReleasedWay a t n child) e w)
releases_on {s} {a} {child} (suc l) node t (Err fault) above can x w =
    let e : suc l - 1 ≡ l = omega arith in
    way_unreleased l can x
    (subst (λ (n : ℕ). StopsInPlace (2 * n + 1) (tree_blocks n a child) a t fault) e w)

-- A fault that is handed on.
pub releases_way_of : (s t : RigState) (level node : ℕ) (result : Result Unit EmFault) (e : EmFault)
    → IsErrAnd result (λ m. m ≡ e) → StopsInPlace (2 * level + 1) (tree_blocks level s node) s t e
    → ReleasesWay s t level node result
releases_way_of s t level node (Ok p) e h x = absurd h
releases_way_of s t level node (Err m) e h x =
    subst (λ (f : EmFault). StopsInPlace (2 * level + 1) (tree_blocks level s node) s t f) (sym h) x
