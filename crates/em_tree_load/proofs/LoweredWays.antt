-- The nodes on the way to a first leaf, lowered.
use Rattle.std.proofs.Common.{◌≡◌, ℕ, zero, suc, ◌-◌, ◌*◌, ◌<◌, List, [], ◌∷◌, ◌++◌, drop, get_or, length, refl, sym, ap, ◌∙◌, subst, arith, append_assoc, IsTrue, Result, Ok, Err, IsErrAnd}
use Rattle.std.proofs.lemmas.List.{append-nil}
use Rattle.em_record.specs.declared.record.Record.{Record}
use Rattle.em_space.specs.Held.{Holds}
use Rattle.em_space.specs.Rig.{RigState, Sound, Touches}
use Rattle.em_space.specs.declared.fault.EmFault.{EmFault}
use Rattle.em_space.proofs.Sessions.{session_none}
use Rattle.em_space.proofs.Steps.{same_frames, touches_trans, touches_wider}
use Rattle.em_space.proofs.Paying.{pays_kept}
use Rattle.em_chain.specs.Chain.{chain_blocks, chain_items}
use Rattle.em_chain.proofs.Laws.{chain_stays}
use Rattle.em_node.specs.declared.entry.Entry.{Entry}
use Rattle.em_node.specs.Node.{entries_of, no_entry}
use Rattle.em_tree_model.specs.Tree.{Tree}
use Rattle.em_tree_model.specs.Tree.Tree.{entry}
use Rattle.em_tree_model.specs.Ranges.{least_record}
use Rattle.em_tree_blocks.specs.Effects.{row_from}
use Rattle.em_tree_blocks.specs.Node.{buffer_of, linked_block}
use Rattle.em_tree_blocks.specs.Paths.{child_at}
use Rattle.em_tree_blocks.specs.Reading.{entries_at, row_blocks, tree_at, tree_blocks}
use Rattle.em_tree_blocks.proofs.Entries.{entry_put}
use Rattle.em_tree_blocks.proofs.Frames.{block_same, node_stays}
use Rattle.em_tree_walk.specs.Forms.{AreFormed}
use Rattle.em_tree_model.specs.Taking.{lowered_first}
use Rattle.em_tree_load.specs.RemovalSteps.{CanLowerWay, LoweredNode, LoweredWay, LowersWay, StopsInPlace, with_least}
use Rattle.em_tree_walk.specs.SplitPaths.{TakesUpTo}
use Rattle.em_tree_walk.proofs.Children.{ChildChanges, ReadsChanged, blocks_after, blocks_around, child_beside, entry_of_place, reads_changed}
use Rattle.em_tree_load.proofs.GoneNodes.{least_entry}
use Rattle.em_tree_load.proofs.InPlace.{ChildStill, child_leads, child_still, node_place, place_beside, place_from, place_then, place_wider}
use Rattle.em_tree_walk.proofs.Kept.{EntryStands, each_at, form_left, node_entries, node_formed, node_stands}
use Rattle.em_tree_walk.proofs.Takes.{store_takes, takes_as, takes_beside, takes_from, takes_then, takes_wider}
use Rattle.em_tree_walk.specs.Stands.{StandsAt}
use Rattle.em_tree_walk.specs.Taken.{StopsTaking}

-- the first entry is lowered, and the others are left
pub least_around : (es : List Entry) → 0 < length es
    → with_least es ≡ least_entry (get_or es 0 no_entry) ∷ drop 1 es
least_around [] h = absurd (omega (arith, h))
least_around (e ∷ es) h = refl

-- Nothing is to be done for a leaf.
pub way_none : {s : RigState} (node : ℕ) → Sound s → CanLowerWay s 0 node → LoweredWay s s 0 node
way_none {s} node sound can = record {
  takes = record {
    session = session_none s (tree_blocks 0 s node) sound can.holds;
    frames = same_frames s.pool;
    used = omega arith;
    most = omega arith;
    moves = omega arith;
    pays = pays_kept 0 (omega arith) (omega arith);
    loses = λ z. refl;
  };
  leads = can.leads;
  tree = λ z. refl;
  blocks = λ z. refl;
  formed = can.formed;
}

pub way_at_leaf : {s : RigState} (level node : ℕ) → level ≡ 0 → Sound s → CanLowerWay s level node
    → LoweredWay s s level node
way_at_leaf {s} level node e sound can =
    let P : ℕ → Type 0 = λ l. CanLowerWay s l node in
    let Q : ℕ → Type 0 = λ l. LoweredWay s s l node in
    subst Q (sym e) (way_none node sound (subst P e can))

module _ {s a : RigState} {node child : ℕ} (l : ℕ) (can : CanLowerWay s (suc l) node)
    (x : LoweredNode s a (suc l) node child) where
  told_on : IsTrue s.device.told → IsTrue a.device.told
  told_on z = x.stores.goes.touches.told ∙ z

  some_entry : IsTrue s.device.told → 0 < length (entries_at s node)
  some_entry z = (can.leads.told z).rows.0

  -- The first child, after the node's block was stored.
  child_after : IsTrue s.device.told → ChildStill l s a (child_at 0 (entries_at s node))
  child_after z = child_still l node 0 z x.stores.goes.touches (can.leads.told z) (some_entry z)
      (can.holds z)

  pub child_of_way : CanLowerWay a l child
  child_of_way =
      let h = x.stores.goes.touches in
      let c = child_at 0 (entries_at s node) in
      let is : IsTrue s.device.told → child ≡ c = λ z. (x.told z).child_is in
      let back : IsTrue a.device.told → IsTrue s.device.told = λ y. sym h.told ∙ y in
      let F : ℕ → Type 0 = AreFormed l a in
      let H : ℕ → Type 0 = λ k. Holds a (tree_blocks l a k) in
      record {
        leads = child_leads s a l child c x.child_below h.blocks h.told is (λ z. (child_after z).stands);
        formed = λ y.
            let z = back y in
            let each = (node_entries l s node (can.leads.told z) (can.formed z)).each in
            let e = each_at (EntryStands l s) (entries_at s node) 0 (some_entry z) each in
            subst F (sym (is z)) ((child_after z).formed e.formed);
        holds = λ y. let z = back y in subst H (sym (is z)) (child_after z).holds;
      }

-- a node's list of blocks, by its first child's
pub blocks_first : (l : ℕ) (s : RigState) (node : ℕ) → 0 < length (entries_at s node)
    → tree_blocks (suc l) s node ≡ (node ∷ chain_blocks s (buffer_of (entry_of_place s node 0)))
    ++ (tree_blocks l s (child_at 0 (entries_at s node)) ++ blocks_after l s node 0)
blocks_first l s node one = blocks_around l s node 0 one

-- the list of a node whose first entry was changed, if the entry's buffer wasn't
pub changed_blocks : (l : ℕ) (s t : RigState) (node : ℕ) (e : Entry)
    → ReadsChanged l s t node 0 (e ∷ [])
    → chain_blocks t (buffer_of e) ≡ chain_blocks s (buffer_of (entry_of_place s node 0))
    → tree_blocks (suc l) t node ≡ (node ∷ chain_blocks s (buffer_of (entry_of_place s node 0)))
    ++ (tree_blocks l t (linked_block e.child) ++ blocks_after l s node 0)
changed_blocks l s t node e r same =
    let own = chain_blocks s (buffer_of (entry_of_place s node 0)) in
    let ks = tree_blocks l t (linked_block e.child) in
    let rest = blocks_after l s node 0 in
    r.blocks
    ∙ (ap (λ (js : List ℕ). node ∷ ((js ++ (ks ++ [])) ++ rest)) same
    ∙ (ap (λ (js : List ℕ). node ∷ ((own ++ js) ++ rest)) (append-nil ks)
    ∙ ap (λ (js : List ℕ). node ∷ js) (append_assoc own ks rest)))

-- The first child's way was lowered too.
module _ {s a t : RigState} {node child : ℕ} (l : ℕ) (can : CanLowerWay s (suc l) node)
    (x : LoweredNode s a (suc l) node child) (w : LoweredWay a t l child) (z : IsTrue s.device.told)
  where
    child_is : child ≡ child_at 0 (entries_at s node)
    child_is = (x.told z).child_is

    one : 0 < length (entries_at s node)
    one = (can.leads.told z).rows.0

    still : ChildStill l s a (child_at 0 (entries_at s node))
    still = child_after l can x z

    wide : Touches (node ∷ tree_blocks l s (child_at 0 (entries_at s node))) s t
    wide =
        let ks = tree_blocks l s (child_at 0 (entries_at s node)) in
        let T : ℕ → Type 0 = λ k. Touches (tree_blocks l a k) a t in
        let B : List ℕ → Type 0 = λ js. Touches js a t in
        touches_trans (node ∷ ks) ks s a t
        (touches_wider (node ∷ ks) (node ∷ []) s a x.stores.goes.touches (λ _ k u o. (o.0, tt)))
        (subst B still.blocks (subst T child_is w.takes.session.touches)) (λ _ k u o. o.1)

    lowered_changes : ChildChanges l s t node 0 (least_entry (entry_of_place s node 0) ∷ [])
    lowered_changes =
        let c = child_at 0 (entries_at s node) in
        let e = entry_of_place s node 0 in
        let ks = tree_blocks l s c in
        let h = x.stores.goes.touches in
        let on : IsTrue a.device.told = h.told ∙ z in
        let d = child_beside l s node 0 one ((can.holds z).distinct z) in
        let B : List ℕ → Type 0 = λ js. Touches js a t in
        let T : ℕ → Type 0 = λ k. Touches (tree_blocks l a k) a t in
        let S : ℕ → Type 0 = StandsAt t l in
        let F : ℕ → Type 0 = AreFormed l t in
        let g : Touches ks a t = subst B still.blocks (subst T child_is w.takes.session.touches) in
        let old = node_entries l s node (can.leads.told z) (can.formed z) in
        let was = each_at (EntryStands l s) (entries_at s node) 0 one old.each in
        let stays = chain_stays (node ∷ ks) s t (buffer_of e) wide (λ _. d.around.own) was.chain in
        let child_stands = subst S child_is (w.leads.told (w.takes.session.touches.told ∙ on)) in
        record {
          told = z;
          one = one;
          old = old;
          distinct = (can.holds z).distinct z;
          touches = wide;
          node = node_stays ks a t g on (suc l) node d.first (x.told z).node_is;
          entries = ap entries_of (block_same ks a t g on node x.in_use d.first)
              ∙ ((x.told z).entries ∙ least_around (entries_at s node) one);
          some = omega arith;
          each = (
            record {
              chain = stays.is;
              child = child_stands.is;
              rows = child_stands.rows;
              form = form_left (node ∷ ks) s t wide z l (buffer_of e) stays was.form;
              formed = subst F child_is (w.formed on);
            },
            tt,
          );
        }

    lowered_reads : ReadsChanged l s t node 0 (least_entry (entry_of_place s node 0) ∷ [])
    lowered_reads = reads_changed lowered_changes

    buffer_items_same : chain_items t (buffer_of (entry_of_place s node 0))
        ≡ chain_items s (buffer_of (entry_of_place s node 0))
    buffer_items_same =
        let d = child_beside l s node 0 one ((can.holds z).distinct z) in
        let was = each_at (EntryStands l s) (entries_at s node) 0 one
        (node_entries l s node (can.leads.told z) (can.formed z)).each in
        (chain_stays (node ∷ tree_blocks l s (child_at 0 (entries_at s node))) s t
        (buffer_of (entry_of_place s node 0)) wide (λ _. d.around.own) was.chain).items z

    buffer_blocks_same : chain_blocks t (buffer_of (entry_of_place s node 0))
        ≡ chain_blocks s (buffer_of (entry_of_place s node 0))
    buffer_blocks_same =
        let d = child_beside l s node 0 one ((can.holds z).distinct z) in
        let was = each_at (EntryStands l s) (entries_at s node) 0 one
        (node_entries l s node (can.leads.told z) (can.formed z)).each in
        (chain_stays (node ∷ tree_blocks l s (child_at 0 (entries_at s node))) s t
        (buffer_of (entry_of_place s node 0)) wide (λ _. d.around.own) was.chain).blocks z

    pub lowered_tree : tree_at (suc l) t node ≡ lowered_first (tree_at (suc l) s node)
    lowered_tree =
        let e = entry_of_place s node 0 in
        let c = child_at 0 (entries_at s node) in
        let r = row_from l s node 1 in
        let on : IsTrue a.device.told = x.stores.goes.touches.told ∙ z in
        let T : ℕ → Type 0 = λ k. tree_at l t k ≡ lowered_first (tree_at l a k) in
        let below : tree_at l t c ≡ lowered_first (tree_at l s c) =
        subst T child_is (w.tree on) ∙ ap lowered_first still.tree in
        lowered_reads.tree
        ∙ (ap (λ (xs : List Record). entry least_record xs (tree_at l t c) r) buffer_items_same
        ∙ (ap (λ (u : Tree). entry least_record (chain_items s (buffer_of e)) u r) below
        ∙ ap lowered_first (sym (entry_put l s node 0 one))))

    pub lowered_blocks : tree_blocks (suc l) t node ≡ tree_blocks (suc l) s node
    lowered_blocks =
        let xs = node ∷ chain_blocks s (buffer_of (entry_of_place s node 0)) in
        let rest = blocks_after l s node 0 in
        let on : IsTrue a.device.told = x.stores.goes.touches.told ∙ z in
        let B : ℕ → Type 0 = λ k. tree_blocks l t k ≡ tree_blocks l a k in
        let same : tree_blocks l t (child_at 0 (entries_at s node))
        ≡ tree_blocks l s (child_at 0 (entries_at s node)) =
        subst B child_is (w.blocks on) ∙ still.blocks in
        changed_blocks l s t node (least_entry (entry_of_place s node 0)) lowered_reads
        buffer_blocks_same
        ∙ (ap (λ (js : List ℕ). xs ++ (js ++ rest)) same ∙ sym (blocks_first l s node one))

-- the node's block beside the others
node_beside : {s a : RigState} {node child : ℕ} (l : ℕ) → CanLowerWay s (suc l) node
    → LoweredNode s a (suc l) node child
    → TakesUpTo 0 2 (tree_blocks (suc l) s node) (tree_blocks (suc l) s node) s a
node_beside {s} {a} {node} l can x =
    takes_beside [] (node ∷ []) (node ∷ []) (row_blocks (tree_blocks l s) s (entries_at s node))
    can.holds (store_takes (λ z. x.in_use) x.stores)

-- the blocks around the first child's, as they are after the node was stored
around_child : {s a : RigState} {node child : ℕ} (l : ℕ) → CanLowerWay s (suc l) node
    → LoweredNode s a (suc l) node child → IsTrue s.device.told
    → tree_blocks (suc l) s node ≡ (node ∷ chain_blocks s (buffer_of (entry_of_place s node 0)))
    ++ (tree_blocks l a child ++ blocks_after l s node 0)
around_child {s} {a} {node} {child} l can x z =
    let xs = node ∷ chain_blocks s (buffer_of (entry_of_place s node 0)) in
    let ys = blocks_after l s node 0 in
    blocks_first l s node (some_entry l can x z)
    ∙ (ap (λ (js : List ℕ). xs ++ (js ++ ys)) (sym (child_after l can x z).blocks)
    ∙ ap (λ (k : ℕ). xs ++ (tree_blocks l a k ++ ys)) (sym (x.told z).child_is))

pub way_lowered : {s a t : RigState} {node child : ℕ} (l : ℕ) → CanLowerWay s (suc l) node
    → LoweredNode s a (suc l) node child → LoweredWay a t l child → LoweredWay s t (suc l) node
way_lowered {s} {a} {t} {node} {child} l can x w =
    let h = x.stores.goes.touches in
    let xs = node ∷ chain_blocks s (buffer_of (entry_of_place s node 0)) in
    let ys = blocks_after l s node 0 in
    let back : IsTrue a.device.told → IsTrue s.device.told = λ y. sym h.told ∙ y in
    let first = node_beside l can x in
    let H : List ℕ → Type 0 = Holds a in
    let whole = tree_blocks (suc l) s node in
    let second = takes_from whole
    (takes_beside xs (tree_blocks l a child) (tree_blocks l t child) ys
    (λ y. subst H (around_child l can x (back y)) (first.session.holds (back y))) w.takes)
    (λ y. around_child l can x (back y)) in
    let both = takes_then first second in
    let g = both.session.touches in
    let on : IsTrue t.device.told → IsTrue s.device.told = λ y. sym g.told ∙ y in
    let same : IsTrue s.device.told
    → tree_blocks (suc l) t node ≡ xs ++ (tree_blocks l t child ++ ys) = λ z.
    lowered_blocks l can x w z
    ∙ (around_child l can x z
    ∙ ap (λ (js : List ℕ). xs ++ (js ++ ys)) (sym (w.blocks (h.told ∙ z)))) in
    record {
      takes = takes_wider 0 (2 * suc l) (omega arith) (omega arith)
          (takes_as (tree_blocks (suc l) t node) both same);
      leads = record {
        in_use = record {
          told = λ y. (lowered_reads l can x w (on y)).stands.node.in_use.told y;
          untold = λ f. rw (g.blocks) (can.leads.in_use.untold (sym g.told ∙ f));
        };
        told = λ y. node_stands l t node (lowered_reads l can x w (on y)).stands;
      };
      tree = λ z. lowered_tree l can x w z;
      blocks = λ z. lowered_blocks l can x w z;
      formed = λ z. node_formed l t node (lowered_reads l can x w z).stands;
    }

-- The first child's way couldn't be lowered.
pub way_unlowered : {s a t : RigState} {node child : ℕ} {e : EmFault} (l : ℕ)
    → CanLowerWay s (suc l) node → LoweredNode s a (suc l) node child
    → StopsInPlace (2 * l) (tree_blocks l a child) a t e
    → StopsInPlace (2 * suc l) (tree_blocks (suc l) s node) s t e
way_unlowered {s} {a} {t} {node} {child} l can x w =
    let h = x.stores.goes.touches in
    let xs = node ∷ chain_blocks s (buffer_of (entry_of_place s node 0)) in
    let ys = blocks_after l s node 0 in
    let back : IsTrue a.device.told → IsTrue s.device.told = λ y. sym h.told ∙ y in
    place_wider (2 * suc l) (omega arith) (place_then (node_beside l can x)
    (place_from (tree_blocks (suc l) s node) (place_beside xs (tree_blocks l a child) ys w)
    (λ y. around_child l can x (back y))))

-- The node couldn't be.
pub node_unlowered : {s a : RigState} {e : EmFault} (level node : ℕ) → 0 < level
    → StopsTaking s a node e → StopsInPlace (2 * level) (tree_blocks level s node) s a e
node_unlowered zero node above x = absurd (omega (arith, above))
node_unlowered {s} (suc l) node above x =
    place_wider (2 * suc l) (omega arith) (place_beside [] (node ∷ [])
    (row_blocks (tree_blocks l s) s (entries_at s node)) (node_place x))

-- The same by the level.
pub way_child : {s a : RigState} {child : ℕ} (level node : ℕ) → 0 < level → CanLowerWay s level node
    → LoweredNode s a level node child → CanLowerWay a (level - 1) child
way_child zero node above can x = absurd (omega (arith, above))
way_child {s} {a} {child} (suc l) node above can x =
    let e : l ≡ suc l - 1 = omega arith in
    subst (λ (n : ℕ). CanLowerWay a n child) e (child_of_way l can x)

pub lowers_on : {s a : RigState} {child : ℕ} (level node : ℕ) (t : RigState)
    (result : Result Unit EmFault) → 0 < level → CanLowerWay s level node
    → LoweredNode s a level node child → LowersWay a t (level - 1) child result
    → LowersWay s t level node result
lowers_on zero node t result above can x w = absurd (omega (arith, above))
lowers_on {s} {a} {child} (suc l) node t (Ok v) above can x w =
    let e : suc l - 1 ≡ l = omega arith in
    way_lowered l can x (subst (λ (n : ℕ). LoweredWay a t n child) e w)
lowers_on {s} {a} {child} (suc l) node t (Err fault) above can x w =
    let e : suc l - 1 ≡ l = omega arith in
    way_unlowered l can x
    (subst (λ (n : ℕ). StopsInPlace (2 * n) (tree_blocks n a child) a t fault) e w)

-- A fault that is handed on.
pub lowers_way_of : (s t : RigState) (level node : ℕ) (result : Result Unit EmFault) (e : EmFault)
    → IsErrAnd result (λ m. m ≡ e) → StopsInPlace (2 * level) (tree_blocks level s node) s t e
    → LowersWay s t level node result
lowers_way_of s t level node (Ok p) e h x = absurd h
lowers_way_of s t level node (Err m) e h x =
    subst (λ (f : EmFault). StopsInPlace (2 * level) (tree_blocks level s node) s t f) (sym h) x
