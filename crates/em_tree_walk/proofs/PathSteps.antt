-- The steps of splits on a key's path: a node was read, those below it were split, and it got a new
-- entry.
use Rattle.std.proofs.Common.{◌≡◌, ℕ, zero, suc, ◌+◌, ◌*◌, ◌<◌, List, [], ◌∷◌, ◌++◌, drop, get_or, length, take, refl, sym, ap, ◌∙◌, subst, arith, append_assoc, IsTrue}
use Rattle.std.proofs.Math.Seq.{take-suc}
use Rattle.std.proofs.lemmas.List.{append-nil}
use Rattle.em_record.specs.Shape.{ShapeNumbers, fan_of}
use Rattle.em_record.specs.declared.record.Record.{Record}
use Rattle.em_space.specs.Free.{Off}
use Rattle.em_space.specs.Held.{Apart, Holds, Within}
use Rattle.em_space.specs.Rig.{RigState, InUse, Touches}
use Rattle.em_space.proofs.Apart.{off_left, off_right}
use Rattle.em_space.proofs.Lists.{apart_sym}
use Rattle.em_space.proofs.Steps.{touches_wider}
use Rattle.em_space.proofs.Within.{touches_within}
use Rattle.em_chain.specs.Chain.{IsPacked, IsTight, chain_blocks, chain_items}
use Rattle.em_chain.proofs.Laws.{chain_stays}
use Rattle.em_node.specs.declared.entry.Entry.{Entry}
use Rattle.em_node.specs.Node.{HasLinks, no_entry, place_of}
use Rattle.em_empty.proofs.Dealt.{place_within}
use Rattle.em_tree_model.specs.Places.{put_at}
use Rattle.em_tree_model.specs.Tree.{Tree, join_rows}
use Rattle.em_tree_model.specs.Tree.Tree.{entry}
use Rattle.em_tree_blocks.specs.Effects.{entry_place, row_from}
use Rattle.em_tree_blocks.specs.Node.{buffer_of, chain_of, linked_block}
use Rattle.em_tree_blocks.specs.Paths.{child_at}
use Rattle.em_tree_blocks.specs.Reading.{entries_at, row_blocks, tree_at, tree_blocks}
use Rattle.em_tree_blocks.proofs.Entries.{entry_put, row_place_is, tree_level}
use Rattle.em_tree_blocks.proofs.Frames.{block_same, node_stays, tree_stays}
use Rattle.em_balance.specs.Node.{IsFreshEntry}
use Rattle.em_balance.proofs.Nodes.{fresh_limits, fresh_links}
use Rattle.em_balance.proofs.NewRoots.{fresh_chain}
use Rattle.em_balance.proofs.Trees.{none_waits}
use Rattle.em_node.specs.Node.{entries_of}
use Rattle.em_tree_walk.specs.Forms.{AreFormed}
use Rattle.em_tree_walk.specs.PathSplit.PathSplit.{below, none, split}
use Rattle.em_tree_walk.specs.SplitPaths.{CanSplitPath, HasCount, SplitBelow, SplitTop, SplitsBelow, SplitsTop, TakesUpTo}
use Rattle.em_tree_walk.specs.Turns.{ReadTurn, turn_in}
use Rattle.em_tree_walk.specs.declared.splitting.Turn.{Turn}
use Rattle.em_tree_walk.proofs.Children.{ChildChanges, blocks_after, blocks_around, blocks_before, child_beside, entries_around, entry_of_place, place_on_path, reads_changed}
use Rattle.em_tree_walk.proofs.Kept.{EntryStands, HasForm, each_at, form_left, forms_left, node_entries, node_formed, node_stands, stands_left}
use Rattle.em_tree_walk.proofs.LowKeys.{lows_join, lows_split}
use Rattle.em_tree_walk.proofs.PathStages.{Stage, child_toward_at}
use Rattle.em_tree_walk.proofs.Takes.{reads_take, store_takes, takes_as, takes_beside, takes_from, takes_then, takes_wider}
use Rattle.em_tree_walk.proofs.Toward.{buffer_found, lows_at, part_follows, row_count}
use Rattle.em_tree_walk.specs.Descents.{end_at}
use Rattle.em_tree_walk.specs.Inserted.{AddedEntry, CanAdd, HasRoomAfter, with_entry_after}
use Rattle.em_tree_walk.specs.Stands.{LeadsToTree, StandsAt}
use Rattle.em_tree_walk.specs.Ways.{entry_start}

-- The number of a node's entries, after it was read.
pub turn_count : {key : Record} {s t : RigState} {l node : ℕ} {x : Turn}
    → CanSplitPath t (suc l) node key → ReadTurn key s t (suc l) node x
    → HasCount t node x.entries
turn_count {key} {s} {t} {l} {node} {x} i r = record {
  block = λ y. (i.leads.told y).is.0.block;
  is = λ y.
      let z : IsTrue s.device.told = sym r.reads.goes.touches.told ∙ y in
      let N : List Entry → Type 0 = λ es. x.entries ≡ length es in
      let same : entries_at t node ≡ entries_at s node =
      ap (λ (cs : List (List Record)). entries_of (get_or cs node [])) r.reads.kept in
      subst N (sym same) (ap (λ (v : Turn). v.entries) (r.is z));
}

-- The child on the key's path, after the node was read.
pub turn_child : {key : Record} {s t : RigState} {level node : ℕ} {x : Turn}
    → ReadTurn key s t level node x → IsTrue t.device.told → x ≡ turn_in (entries_at t node) key
turn_child {key} {s} {t} {level} {node} {x} r y =
    let z : IsTrue s.device.told = sym r.reads.goes.touches.told ∙ y in
    let T : List Entry → Type 0 = λ es. x ≡ turn_in es key in
    let same : entries_at t node ≡ entries_at s node =
    ap (λ (cs : List (List Record)). entries_of (get_or cs node [])) r.reads.kept in
    subst T (sym same) (r.is z)

-- No node is below one over leaves.
pub stage_first : {s t : RigState} {node : ℕ} {key : Record} {x : Turn}
    → CanSplitPath s 1 node key → CanSplitPath t 1 node key → ReadTurn key s t 1 node x
    → Stage 0 1 s t 1 node key
stage_first {s} {t} {node} {key} {x} i j r =
    let bs = tree_blocks 1 s node in
    let same = λ (z : IsTrue s.device.told). tree_stays [] s t r.reads.goes.touches z 1 node
    (apart_nothing bs) (i.leads.told z).is in
    record {
      takes = takes_as (tree_blocks 1 t node) (reads_take bs (λ z. (i.told z).holds) r.reads)
          (λ z. (same z).blocks);
      leads = j.leads;
      split = λ z. none (tree_level 1 s node) (same z).tree;
      formed = λ z. (j.told (r.reads.goes.touches.told ∙ z)).formed;
    }
  where
    apart_nothing : (ks : List ℕ) → Apart ks []
    apart_nothing [] = tt
    apart_nothing (k ∷ ks) = (tt, apart_nothing ks)

-- A node whose child on the path was changed.
pub record ChildSplits (l : ℕ) (s t : RigState) (node i : ℕ) : Type 0 where
  pub told : IsTrue s.device.told
  pub one : i < length (entries_at s node)
  pub stands : StandsAt s (suc l) node
  pub formed : AreFormed (suc l) s node
  pub holds : Holds s (tree_blocks (suc l) s node)
  pub touches : Touches (tree_blocks l s (child_at i (entries_at s node))) s t
  pub child : StandsAt t l (child_at i (entries_at s node))
  pub child_formed : AreFormed l t (child_at i (entries_at s node))

pub child_splits : {s t : RigState} {l node : ℕ} {key : Record} (child : ℕ) → IsTrue s.device.told
    → CanSplitPath s (suc (suc l)) node key → child ≡ child_toward_at s node key
    → Touches (tree_blocks (suc l) s child) s t → LeadsToTree t (suc l) child
    → AreFormed (suc l) t child → ChildSplits (suc l) s t node (place_of key (entries_at s node))
child_splits {s} {t} {l} {node} {key} child z i e h leads formed =
    let stands = i.leads.told z in
    let o = i.told z in
    let T : ℕ → Type 0 = λ c. Touches (tree_blocks (suc l) s c) s t in
    let C : ℕ → Type 0 = λ c. StandsAt t (suc l) c in
    let F : ℕ → Type 0 = λ c. AreFormed (suc l) t c in
    record {
      told = z;
      one = place_within key (entries_at s node) stands.rows.0;
      stands = stands;
      formed = o.formed;
      holds = o.holds;
      touches = subst T e h;
      child = subst C e (leads.told (h.told ∙ z));
      child_formed = subst F e formed;
    }

-- the blocks of the node and of the child
abbrev pub own_and_child : ℕ → RigState → ℕ → ℕ → List ℕ
own_and_child l s node i = node ∷ tree_blocks l s (child_at i (entries_at s node))

pub child_wider : {l : ℕ} {s t : RigState} {node i : ℕ} → ChildSplits l s t node i
    → Touches (own_and_child l s node i) s t
child_wider {l} {s} {t} {node} {i} c =
    touches_wider (own_and_child l s node i) (tree_blocks l s (child_at i (entries_at s node))) s t
    c.touches (λ z k u o. o.1)

-- The node itself is as it was,
pub node_same : {l : ℕ} {s t : RigState} {node i : ℕ} → ChildSplits l s t node i
    → entries_at t node ≡ entries_at s node
node_same {l} {s} {t} {node} {i} c =
    let d = child_beside l s node i c.one (c.holds.distinct c.told) in
    let held = tree_blocks l s (child_at i (entries_at s node)) in
    ap entries_of (block_same held s t c.touches c.told node c.stands.is.0.in_use d.first)

-- and so is the entry over the child, also after calls on both.
entry_still : {l : ℕ} {s t u : RigState} {node i : ℕ} → ChildSplits l s t node i
    → Touches (own_and_child l s node i) s u → StandsAt u l (child_at i (entries_at s node))
    → AreFormed l u (child_at i (entries_at s node)) → EntryStands l u (entry_of_place s node i)
entry_still {l} {s} {t} {u} {node} {i} c h o f =
    let es = entries_at s node in
    let e = entry_of_place s node i in
    let held = own_and_child l s node i in
    let apart = (child_beside l s node i c.one (c.holds.distinct c.told)).around.own in
    let old = each_at (EntryStands l s) es i c.one (node_entries l s node c.stands c.formed).each in
    let x = chain_stays held s u (buffer_of e) h (λ z. apart) old.chain in
    record {
      chain = x.is;
      child = o.is;
      rows = o.rows;
      form = form_left held s u h c.told l (buffer_of e) x old.form;
      formed = f;
    }

-- its buffer
pub record BufferSame (s u : RigState) (e : Entry) : Type 0 where
  pub items : chain_items u (buffer_of e) ≡ chain_items s (buffer_of e)
  pub blocks : chain_blocks u (buffer_of e) ≡ chain_blocks s (buffer_of e)

pub buffer_still : {l : ℕ} {s t u : RigState} {node i : ℕ} → ChildSplits l s t node i
    → Touches (own_and_child l s node i) s u → BufferSame s u (entry_of_place s node i)
buffer_still {l} {s} {t} {u} {node} {i} c h =
    let e = entry_of_place s node i in
    let held = own_and_child l s node i in
    let apart = (child_beside l s node i c.one (c.holds.distinct c.told)).around.own in
    let old = each_at (EntryStands l s) (entries_at s node) i c.one
    (node_entries l s node c.stands c.formed).each in
    let x = chain_stays held s u (buffer_of e) h (λ z. apart) old.chain in
    record { items = x.items c.told; blocks = x.blocks c.told }

pub changes_same : {l : ℕ} {s t : RigState} {node i : ℕ} → ChildSplits l s t node i
    → ChildChanges l s t node i (entry_of_place s node i ∷ [])
changes_same {l} {s} {t} {node} {i} c =
    let es = entries_at s node in
    let d = child_beside l s node i c.one (c.holds.distinct c.told) in
    let held = tree_blocks l s (child_at i es) in
    record {
      told = c.told;
      one = c.one;
      old = node_entries l s node c.stands c.formed;
      distinct = c.holds.distinct c.told;
      touches = child_wider c;
      node = node_stays held s t c.touches c.told (suc l) node d.first c.stands.is.0;
      entries = node_same c ∙ entries_around es i c.one;
      some = omega arith;
      each = (entry_still c (child_wider c) c.child c.child_formed, tt);
    }

-- lists of blocks around those of one child, and of two
one_between : (x e c y : List ℕ) → x ++ ((e ++ (c ++ [])) ++ y) ≡ (x ++ e) ++ (c ++ y)
one_between x e c y =
    ap (λ ks. x ++ ((e ++ ks) ++ y)) (append-nil c)
    ∙ (ap (λ ks. x ++ ks) (append_assoc e c y) ∙ sym (append_assoc x e (c ++ y)))

two_between : (x e c d y : List ℕ)
    → x ++ ((e ++ (c ++ (d ++ []))) ++ y) ≡ (x ++ e) ++ ((c ++ d) ++ y)
two_between x e c d y =
    ap (λ ks. x ++ ((e ++ (c ++ ks)) ++ y)) (append-nil d)
    ∙ (ap (λ ks. x ++ ks) (append_assoc e (c ++ d) y) ∙ sym (append_assoc x e ((c ++ d) ++ y)))

-- A call on the child, among the node's blocks.
pub child_takes : {n m : ℕ} {s t : RigState} {l node : ℕ} {key : Record} (child : ℕ) (js : List ℕ)
    → CanSplitPath s (suc (suc l)) node key
    → (IsTrue s.device.told → child ≡ child_toward_at s node key)
    → TakesUpTo n m (tree_blocks (suc l) s child) js s t
    → TakesUpTo n m (tree_blocks (suc (suc l)) s node)
    ((node ∷ blocks_before (suc l) s node (place_of key (entries_at s node)))
    ++ (js ++ blocks_after (suc l) s node (place_of key (entries_at s node)))) s t
child_takes {n} {m} {s} {t} {l} {node} {key} child js i e x =
    let es = entries_at s node in
    let k = place_of key es in
    let xs = node ∷ blocks_before (suc l) s node k in
    let ys = blocks_after (suc l) s node k in
    let whole = λ (z : IsTrue s.device.told). (
    let one = place_within key es (i.leads.told z).rows.0 in
    let w : tree_blocks (suc (suc l)) s node ≡ xs ++ (tree_blocks (suc l) s child ++ ys) =
    blocks_around (suc l) s node k one
    ∙ ap (λ (c : ℕ). xs ++ (tree_blocks (suc l) s c ++ ys)) (sym (e z)) in w) in
    let H : List ℕ → Type 0 = λ ks. Holds s ks in
    takes_from (tree_blocks (suc (suc l)) s node)
    (takes_beside xs (tree_blocks (suc l) s child) js ys
    (λ z. subst H (whole z) (i.told z).holds) x) whole

-- a node's block in use, whatever the device tells
node_used : {s t : RigState} {node : ℕ} {held : List ℕ} → Touches held s t → InUse s node
    → (IsTrue t.device.told → InUse t node) → InUse t node
node_used {s} {t} {node} h u told = record {
  told = λ y. (told y).told y;
  untold = λ f. rw (h.blocks) (u.untold (sym h.told ∙ f));
}

-- The child wasn't split.
pub stage_below : {s t : RigState} {l node : ℕ} {key : Record} (child : ℕ)
    → CanSplitPath s (suc (suc l)) node key
    → (IsTrue s.device.told → child ≡ child_toward_at s node key)
    → SplitBelow s t (suc l) child key
    → Stage (suc l) (7 * suc l) s t (suc (suc l)) node key
stage_below {s} {t} {l} {node} {key} child i same x =
    let es = entries_at s node in
    let k = place_of key es in
    let e = entry_of_place s node k in
    let h = x.takes.session.touches in
    let is = λ (z : IsTrue s.device.told).
    child_splits child z i (same z) h x.leads (x.told z).formed in
    let reads = λ (z : IsTrue s.device.told). reads_changed (changes_same (is z)) in
    let back = λ (y : IsTrue t.device.told). (let z : IsTrue s.device.told = sym h.told ∙ y in z) in
    let front = row_blocks (tree_blocks (suc l) s) s (take k es) in
    let own = chain_blocks s (buffer_of e) in
    let ys = blocks_after (suc l) s node k in
    record {
      takes = takes_as (tree_blocks (suc (suc l)) t node)
          (child_takes child (tree_blocks (suc l) t child) i same x.takes) (λ z.
          let c = child_at k es in
          (reads z).blocks
          ∙ (ap (λ (ks : List ℕ). node ∷ front ++ ((ks ++ (tree_blocks (suc l) t c ++ [])) ++ ys))
          (buffer_still (is z) (child_wider (is z))).blocks
          ∙ (ap (λ (ks : List ℕ). node ∷ ks) (one_between front own (tree_blocks (suc l) t c) ys)
          ∙ ap (λ (j : ℕ). node ∷ (front ++ own) ++ (tree_blocks (suc l) t j ++ ys))
          (sym (same z)))));
      leads = record {
        in_use = node_used h i.leads.in_use (λ y. (reads (back y)).stands.node.in_use);
        told = λ y. node_stands (suc l) t node (reads (back y)).stands;
      };
      split = λ z.
          let c = child_at k es in
          let one = (is z).one in
          let p = entry_place (suc l) s node k in
          let r = row_from (suc l) s node (suc k) in
          let S : ℕ → Type 0 = λ j. SplitsBelow s t (suc l) j key in
          let d = subst S (same z) (x.told z) in
          below p e.low (chain_items s (buffer_of e)) (tree_at (suc l) s c) (tree_at (suc l) t c) r
          (row_place_is (tree_at (suc l) s) s (take k es))
          (place_on_path (suc l) s node key one) (entry_put (suc l) s node k one)
          ((reads z).tree ∙ ap (λ (zs : List Record). put_at p (entry e.low zs (tree_at (suc l) t c) r))
          (buffer_still (is z) (child_wider (is z))).items) d.room d.split;
      formed = λ z. node_formed (suc l) t node (reads z).stands;
    }

-- The child was split: an entry for its upper part can be put in.
pub upper_follows : {s t : RigState} {l node : ℕ} {key : Record} {upper : Entry} (child at : ℕ)
    → CanSplitPath s (suc (suc l)) node key
    → (IsTrue s.device.told → child ≡ child_toward_at s node key)
    → (IsTrue s.device.told → at ≡ place_of key (entries_at s node))
    → SplitTop s t (suc l) child key upper → CanAdd t (suc (suc l)) node at upper
upper_follows {s} {t} {l} {node} {key} {upper} child at i same there x =
    let es = entries_at s node in
    let k = place_of key es in
    let h = x.takes.session.touches in
    let is = λ (z : IsTrue s.device.told).
    child_splits child z i (same z) h x.leads (x.told z).formed in
    let reads = λ (z : IsTrue s.device.told). reads_changed (changes_same (is z)) in
    let back = λ (y : IsTrue t.device.told). (let z : IsTrue s.device.told = sym h.told ∙ y in z) in
    let N : ℕ → Type 0 = λ n. HasLinks n upper in
    record {
      leads = record {
        in_use = node_used h i.leads.in_use (λ y. (reads (back y)).stands.node.in_use);
        told = λ y. node_stands (suc l) t node (reads (back y)).stands;
      };
      limited = fresh_limits x.fresh;
      linked = subst N (sym h.blocks) (fresh_links x.fresh);
      told = λ y.
          let z = back y in
          let o = i.told z in
          let c = child_at k es in
          let one = (is z).one in
          let S : ℕ → Type 0 = λ j. SplitsTop s t (suc l) j key upper in
          let d = subst S (same z) (x.told z) in
          let a = lows_at (tree_at (suc l) s) s es k o.lo o.hi one o.lows in
          let joins = lows_join (tree_at (suc l) t c) upper.low d.b d.d d.rest
          (entry_start o.lo es k) (end_at es k o.hi) d.lower_row d.lower_some
          (lows_split (fan_of s.pool.shape) key (tree_at (suc l) s c)
          (join_rows (tree_at (suc l) t c) (entry upper.low d.b d.d d.rest)) d.split
          (entry_start o.lo es k) (end_at es k o.hi) a.inner) in
          let counted = row_count (tree_at (suc l) s) s es in
          let room = o.clear.0 in
          let here : HasRoomAfter (2 * fan_of s.pool.shape) k upper.low es = record {
            one = one;
            room = omega arith;
            follow = part_follows (tree_at (suc l) s) es k (tree_at (suc l) t c)
                (entry upper.low d.b d.d d.rest) upper.low o.lo o.hi a joins;
          } in
          let A : ℕ → Type 0 = λ j. HasRoomAfter (2 * fan_of s.pool.shape) j upper.low es in
          let E : List Entry → Type 0 = λ fs.
          HasRoomAfter (2 * fan_of s.pool.shape) at upper.low fs in
          let Z : ShapeNumbers → Type 0 = λ p.
          HasRoomAfter (2 * fan_of p) at upper.low (entries_at t node) in
          subst Z (sym h.shape) (subst E (sym (node_same (is z))) (subst A (sym (there z)) here));
    }

-- the buffer of a new entry has any form
pub fresh_form : {blocks : ℕ} {e : Entry} (l : ℕ) (s : RigState) → IsFreshEntry blocks e
    → HasForm l s (buffer_of e)
fresh_form zero s h =
    let F : List ℕ → Type 0 = λ ws. IsTight s (chain_of ws) in
    subst F (sym h.empty) (record { full = tt })
fresh_form (suc l) s h =
    let F : List ℕ → Type 0 = λ ws. IsPacked s (chain_of ws) in
    subst F (sym h.empty) (record { is = record { skip_is = refl; full = tt } })

no_blocks : {blocks : ℕ} {e : Entry} (s : RigState) → IsFreshEntry blocks e
    → chain_blocks s (buffer_of e) ≡ []
no_blocks s h = ap (λ (ws : List ℕ). chain_blocks s (chain_of ws)) h.empty

-- The parts of a child that was split, after the entry was put in.
pub record PartsStill (l : ℕ) (t u : RigState) (k : ℕ) : Type 0 where
  pub stands : StandsAt u l k
  pub formed : AreFormed l u k
  pub tree : tree_at l u k ≡ tree_at l t k
  pub blocks : tree_blocks l u k ≡ tree_blocks l t k

parts_still : {l : ℕ} {t u : RigState} {k node : ℕ} → Touches (node ∷ []) t u
    → IsTrue t.device.told → Off node (tree_blocks l t k) → StandsAt t l k → AreFormed l t k
    → PartsStill l t u k
parts_still {l} {t} {u} {k} {node} h told off o f =
    let held = node ∷ [] in
    let apart = apart_sym held (tree_blocks l t k) (off, tt) in
    let x = tree_stays held t u h told l k apart o.is in
    record {
      stands = stands_left held t u h told l k apart o;
      formed = forms_left held t u h told l k apart o.is f;
      tree = x.tree;
      blocks = x.blocks;
    }

-- What was put in.
pub record AddedUpper (l : ℕ) (s t u : RigState) (node i : ℕ) (upper : Entry) : Type 0 where
  pub splits : ChildSplits l s t node i
  pub fresh : IsFreshEntry s.blocks upper
  pub touches : Touches (own_and_child l s node i) s u
  pub lower : PartsStill l t u (child_at i (entries_at s node))
  pub upper_part : PartsStill l t u (linked_block upper.child)
  pub changes : ChildChanges l s u node i (entry_of_place s node i ∷ upper ∷ [])

entries_two : (es : List Entry) (k : ℕ) (new : Entry) → k < length es
    → with_entry_after k new es
    ≡ take k es ++ ((get_or es k no_entry ∷ new ∷ []) ++ drop (suc k) es)
entries_two es k new h =
    ap (λ (fs : List Entry). fs ++ (new ∷ drop (suc k) es)) (take-suc es k no_entry h)
    ∙ append_assoc (take k es) (get_or es k no_entry ∷ []) (new ∷ drop (suc k) es)

added_upper : {s t u : RigState} {l node : ℕ} {key : Record} {upper : Entry} (child at : ℕ)
    → CanSplitPath s (suc (suc l)) node key → (z : IsTrue s.device.told)
    → child ≡ child_toward_at s node key → at ≡ place_of key (entries_at s node)
    → SplitTop s t (suc l) child key upper → AddedEntry t u (suc (suc l)) node at upper
    → AddedUpper (suc l) s t u node (place_of key (entries_at s node)) upper
added_upper {s} {t} {u} {l} {node} {key} {upper} child at i z same there x a =
    let es = entries_at s node in
    let k = place_of key es in
    let c = child_at k es in
    let h = x.takes.session.touches in
    let y : IsTrue t.device.told = h.told ∙ z in
    let is = child_splits child z i same h x.leads (x.told z).formed in
    let held = own_and_child (suc l) s node k in
    let own : Within s held (node ∷ []) = record { off = λ w j v o. (o.0, tt) } in
    let wider = touches_within s t u held (node ∷ []) (child_wider is) own a.stores.goes.touches in
    let up = linked_block upper.child in
    let D : ℕ → Type 0 = λ j. Off node (tree_blocks (suc l) s j) in
    let off_child = subst D (sym same)
    (child_beside (suc l) s node k is.one (is.holds.distinct z)).first in
    let off = x.takes.session.within.off z node i.leads.in_use off_child in
    let O : ℕ → Type 0 = λ j. Off node (tree_blocks (suc l) t j) in
    let lower = parts_still a.stores.goes.touches y
    (subst O same (off_left node (tree_blocks (suc l) t child) (tree_blocks (suc l) t up) off))
    is.child is.child_formed in
    let part = parts_still a.stores.goes.touches y
    (off_right node (tree_blocks (suc l) t child) (tree_blocks (suc l) t up) off)
    (x.upper_leads.told y) (x.told z).upper_formed in
    let A : ℕ → Type 0 = λ j. entries_at u node ≡ with_entry_after j upper (entries_at t node) in
    record {
      splits = is;
      fresh = x.fresh;
      touches = wider;
      lower = lower;
      upper_part = part;
      changes = record {
        told = z;
        one = is.one;
        old = node_entries (suc l) s node is.stands is.formed;
        distinct = is.holds.distinct z;
        touches = wider;
        node = a.node_is y;
        entries = subst A there (a.after y)
            ∙ (ap (with_entry_after k upper) (node_same is) ∙ entries_two es k upper is.one);
        some = omega arith;
        each = (
          entry_still is wider lower.stands lower.formed,
          (
            record {
              chain = fresh_chain u x.fresh;
              child = part.stands.is;
              rows = part.stands.rows;
              form = fresh_form (suc l) u x.fresh;
              formed = part.formed;
            },
            tt,
          ),
        );
      };
    }

-- The child was split, and the entry for its upper part was put in.
pub stage_added : {s t u : RigState} {l node : ℕ} {key : Record} {upper : Entry} (child at : ℕ)
    → CanSplitPath s (suc (suc l)) node key
    → (IsTrue s.device.told → child ≡ child_toward_at s node key)
    → (IsTrue s.device.told → at ≡ place_of key (entries_at s node))
    → SplitTop s t (suc l) child key upper → AddedEntry t u (suc (suc l)) node at upper
    → Stage (suc l) (7 * suc l + 2) s u (suc (suc l)) node key
stage_added {s} {t} {u} {l} {node} {key} {upper} child at i same there x a =
    let es = entries_at s node in
    let k = place_of key es in
    let e = entry_of_place s node k in
    let c = child_at k es in
    let up = linked_block upper.child in
    let h = x.takes.session.touches in
    let g = a.stores.goes.touches in
    let is = λ (z : IsTrue s.device.told). added_upper child at i z (same z) (there z) x a in
    let reads = λ (z : IsTrue s.device.told). reads_changed (is z).changes in
    let back = λ (y : IsTrue u.device.told). (let z : IsTrue s.device.told =
    sym h.told ∙ (sym g.told ∙ y) in z) in
    let back_once = λ (y : IsTrue t.device.told). (let z : IsTrue s.device.told = sym h.told ∙ y in z) in
    let front = row_blocks (tree_blocks (suc l) s) s (take k es) in
    let own = chain_blocks s (buffer_of e) in
    let ys = blocks_after (suc l) s node k in
    let js = tree_blocks (suc l) t child ++ tree_blocks (suc l) t up in
    let rest = (front ++ own) ++ (js ++ ys) in
    let first = child_takes child js i same x.takes in
    let second : TakesUpTo 0 2 (node ∷ rest) (node ∷ rest) t u =
    takes_beside [] (node ∷ []) (node ∷ []) rest (λ y. first.session.holds (back_once y))
    (store_takes (λ y. (a.node_is y).in_use) a.stores) in
    let both : TakesUpTo (suc l) (7 * suc l + 2) (tree_blocks (suc (suc l)) s node) (node ∷ rest) s u =
    takes_wider (suc l) (7 * suc l + 2) (omega arith) (omega arith) (takes_then first second) in
    record {
      takes = takes_as (tree_blocks (suc (suc l)) u node) both (λ z.
          let m = is z in
          (reads z).blocks
          ∙ (ap (λ (ks : List ℕ). node ∷ front ++ ((ks ++ (tree_blocks (suc l) u c
          ++ (chain_blocks u (buffer_of upper) ++ (tree_blocks (suc l) u up ++ [])))) ++ ys))
          (buffer_still m.splits m.touches).blocks
          ∙ (ap (λ (ks : List ℕ). node ∷ front ++ ((own ++ (ks
          ++ (chain_blocks u (buffer_of upper) ++ (tree_blocks (suc l) u up ++ [])))) ++ ys))
          m.lower.blocks
          ∙ (ap (λ (ks : List ℕ). node ∷ front ++ ((own ++ (tree_blocks (suc l) t c
          ++ (ks ++ (tree_blocks (suc l) u up ++ [])))) ++ ys)) (no_blocks u m.fresh)
          ∙ (ap (λ (ks : List ℕ). node ∷ front ++ ((own ++ (tree_blocks (suc l) t c
          ++ (ks ++ []))) ++ ys)) m.upper_part.blocks
          ∙ (ap (λ (ks : List ℕ). node ∷ ks)
          (two_between front own (tree_blocks (suc l) t c) (tree_blocks (suc l) t up) ys)
          ∙ ap (λ (j : ℕ). node ∷ (front ++ own)
          ++ ((tree_blocks (suc l) t j ++ tree_blocks (suc l) t up) ++ ys)) (sym (same z))))))));
      leads = record {
        in_use = node_used both.session.touches i.leads.in_use
            (λ y. (reads (back y)).stands.node.in_use);
        told = λ y. node_stands (suc l) u node (reads (back y)).stands;
      };
      split = λ z.
          let m = is z in
          let one = m.splits.one in
          let o = i.told z in
          let p = entry_place (suc l) s node k in
          let r = row_from (suc l) s node (suc k) in
          let S : ℕ → Type 0 = λ j. SplitsTop s t (suc l) j key upper in
          let d = subst S (same z) (x.told z) in
          let empty : chain_items s (buffer_of e) ≡ [] =
          sym (buffer_found (tree_at (suc l) s) s es key (i.leads.told z).rows.0) ∙ o.clear.1 in
          let lower = tree_at (suc l) t c in
          let part = entry upper.low d.b d.d d.rest in
          split p e.low (tree_at (suc l) s c) r lower upper.low d.b d.d d.rest
          (row_place_is (tree_at (suc l) s) s (take k es))
          (place_on_path (suc l) s node key one) d.lower_row d.lower_some d.lower_length
          d.upper_length (entry_put (suc l) s node k one
          ∙ ap (λ (zs : List Record). put_at p (entry e.low zs (tree_at (suc l) s c) r)) empty)
          ((reads z).tree ∙ ap (put_at p)
          (ap (λ (zs : List Record). entry e.low zs (tree_at (suc l) u c) (entry upper.low
          (chain_items u (buffer_of upper)) (tree_at (suc l) u up) r))
          ((buffer_still m.splits m.touches).items ∙ empty)
          ∙ (ap (λ (v : Tree). entry e.low [] v (entry upper.low
          (chain_items u (buffer_of upper)) (tree_at (suc l) u up) r)) m.lower.tree
          ∙ (ap (λ (zs : List Record). entry e.low [] lower (entry upper.low zs
          (tree_at (suc l) u up) r)) (none_waits u m.fresh)
          ∙ ap (λ (v : Tree). entry e.low [] lower (entry upper.low [] v r))
          (m.upper_part.tree ∙ d.upper_is))))) d.split;
      formed = λ z. node_formed (suc l) u node (reads z).stands;
    }
