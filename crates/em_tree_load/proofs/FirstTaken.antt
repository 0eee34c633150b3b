-- The first leaf of a tree, taken out: the fork's first entry goes, its way is released, and the new first way
-- is lowered.
use Rattle.std.proofs.Common.{◌≡◌, ℕ, zero, suc, ◌+◌, ◌-◌, ◌*◌, ◌<◌, List, [], ◌∷◌, ◌++◌, drop, length, refl, sym, ap, ◌∙◌, subst, arith, IsTrue, Result, Ok, Err, IsErrAnd}
use Rattle.em_record.specs.declared.record.Record.{Record}
use Rattle.em_space.specs.Held.{Apart, Holds}
use Rattle.em_space.specs.Rig.{RigState, Touches}
use Rattle.em_space.specs.declared.fault.EmFault.{EmFault}
use Rattle.em_space.proofs.Lists.{apart_sym}
use Rattle.em_space.proofs.Paying.{pays_kept}
use Rattle.em_space.proofs.Steps.{touches_trans, touches_wider}
use Rattle.em_chain.specs.Chain.{chain_blocks, chain_items}
use Rattle.em_node.specs.declared.entry.Entry.{Entry}
use Rattle.em_node.specs.Node.{entries_of}
use Rattle.em_tree_model.specs.Ranges.{least_record}
use Rattle.em_tree_model.specs.Tree.{Tree, first_leaf, over_first}
use Rattle.em_tree_model.specs.Tree.Tree.{leaf, end, entry}
use Rattle.em_tree_blocks.specs.Effects.{row_from}
use Rattle.em_tree_blocks.specs.Node.{buffer_of}
use Rattle.em_tree_blocks.specs.Paths.{child_at}
use Rattle.em_tree_blocks.specs.Reading.{entries_at, row_blocks, row_of, tree_at, tree_blocks}
use Rattle.em_tree_blocks.proofs.Entries.{entry_put}
use Rattle.em_tree_blocks.proofs.Frames.{block_same, node_stays, rows_stay}
use Rattle.em_tree_load.specs.FirstLeaves.{IsLone}
use Rattle.em_tree_walk.specs.Forms.{AreFormed}
use Rattle.em_tree_load.specs.Removals.{CanRemoveFirst, RemovedFirst, StopsRemoving, TakesFirstOut}
use Rattle.em_tree_model.specs.Taking.{lowered_first, with_first_child, without_first}
use Rattle.em_tree_load.specs.RemovalSteps.{CanDropFirst, CanLowerWay, CanReleaseWay, DroppedFirst, IsReleasableWay, LoweredWay, LowersWay, ReleasedWay, StopsInPlace, with_least}
use Rattle.em_tree_walk.specs.SplitPaths.{TakesUpTo}
use Rattle.em_tree_walk.proofs.Children.{ReadsChanged, blocks_after, child_beside, entry_of_place, reads_changed}
use Rattle.em_tree_load.proofs.FirstGone.{lone_gone}
use Rattle.em_tree_load.proofs.GoneNodes.{drop_length, least_length}
use Rattle.em_tree_load.proofs.GoneWays.{blocks_lone, lone_left, stores_none, waits_none}
use Rattle.em_tree_load.proofs.InPlace.{ChildStill, child_leads, child_still, node_place, place_beside, place_from, place_then, place_wider}
use Rattle.em_tree_walk.proofs.Kept.{EachOf, EntryStands, NodeStands, each_at, each_drop, each_left, node_entries, node_formed, node_stands, stored_by}
use Rattle.em_tree_load.proofs.LoweredWays.{blocks_first, changed_blocks}
use Rattle.em_tree_walk.proofs.PathStages.{child_held}
use Rattle.em_tree_walk.proofs.PathSteps.{ChildSplits, buffer_still, changes_same, child_wider}
use Rattle.em_tree_walk.proofs.Takes.{store_takes, takes_as, takes_beside, takes_from, takes_then, takes_wider}
use Rattle.em_tree_walk.specs.Stands.{StandsAt}
use Rattle.em_tree_walk.specs.Taken.{StopsTaking}
use Rattle.em_tree_walk.proofs.Standing.{child_of_node}

-- A row of which the first low key is the least key, and the first child.
abbrev least_first : Tree → Tree
least_first (leaf xs) = leaf xs
least_first end = end
least_first (entry low b c r) = entry least_record b c r

abbrev child_lowered : Tree → Tree
child_lowered (leaf xs) = leaf xs
child_lowered end = end
child_lowered (entry low b c r) = entry low b (lowered_first c) r

both_lowered : (t : Tree) → child_lowered (least_first t) ≡ lowered_first t
both_lowered (leaf xs) = refl
both_lowered end = refl
both_lowered (entry low b c r) = refl

-- What such entries are read as,
least_row : (child : ℕ → Tree) (s : RigState) (es : List Entry)
    → row_of child s (with_least es) ≡ least_first (row_of child s es)
least_row child s [] = refl
least_row child s (e ∷ es) = refl

-- their blocks,
least_blocks : (child : ℕ → List ℕ) (s : RigState) (es : List Entry)
    → row_blocks child s (with_least es) ≡ row_blocks child s es
least_blocks child s [] = refl
least_blocks child s (e ∷ es) = refl

-- and how they stand.
least_each : (l : ℕ) (s : RigState) (es : List Entry) → EachOf (EntryStands l s) es
    → EachOf (EntryStands l s) (with_least es)
least_each l s [] a = tt
least_each l s (e ∷ es) a = (
  record {
    chain = a.0.chain;
    child = a.0.child;
    rows = a.0.rows;
    form = a.0.form;
    formed = a.0.formed;
  },
  a.1,
)

least_child : (es : List Entry) → child_at 0 (with_least es) ≡ child_at 0 es
least_child [] = refl
least_child (e ∷ es) = refl

next_child : (es : List Entry) → child_at 1 es ≡ child_at 0 (drop 1 es)
next_child [] = refl
next_child (e ∷ es) = refl

-- The fork can give its first entry up.
pub can_drop : {s : RigState} {level node : ℕ} → CanRemoveFirst s level node → CanDropFirst s level node
can_drop can = record {
  leads = can.leads;
  several = λ z. (can.told z).fork.several;
}

module _ {s a : RigState} {node gone first : ℕ} (l : ℕ) (can : CanRemoveFirst s (suc l) node)
    (x : DroppedFirst s a (suc l) node gone first) where
  one : IsTrue s.device.told → 0 < length (entries_at s node)
  one z = (can.leads.told z).rows.0

  -- The first child, after the fork was stored.
  child_after : IsTrue s.device.told → ChildStill l s a (child_at 0 (entries_at s node))
  child_after z = child_still l node 0 z x.stores.goes.touches (can.leads.told z) (one z)
      (can.told z).holds

  -- Its way can be released.
  pub way_of_gone : CanReleaseWay a l gone
  way_of_gone =
      let h = x.stores.goes.touches in
      let c = child_at 0 (entries_at s node) in
      let back : IsTrue a.device.told → IsTrue s.device.told = λ y. sym h.told ∙ y in
      let W : ℕ → Type 0 = IsReleasableWay a l in
      record {
        leads = child_leads s a l gone c x.gone_below h.blocks h.told x.gone_is
            (λ z. (child_after z).stands);
        told = λ y.
            let z = back y in
            let o = can.told z in
            let still = child_after z in
            let waits = waits_none l s node z (can.leads.told z) o.none_waits in
            let beside = child_beside l s node 0 (one z) (o.holds.distinct z) in
            let ks = tree_blocks l s c in
            let apart : Apart ks (node ∷ []) = apart_sym (node ∷ []) ks (beside.first, tt) in
            let level : suc l - 1 ≡ l = omega arith in
            let L : ℕ → Type 0 = λ n. IsLone n s c in
            subst W (sym (x.gone_is z)) (record {
              lone = lone_left (node ∷ []) s a h z l c apart
                  (child_of_node 0 (can.leads.told z) (one z)).is (subst L level o.fork.lone);
              none_stored = ap first_leaf still.tree ∙ stores_none l s node (one z) o.none_stored;
              none_waits = ap over_first still.tree ∙ waits.under;
              holds = still.holds;
            });
      }

  -- the fork's blocks, by those of what goes
  whole_is : IsTrue s.device.told → tree_blocks (suc l) s node
      ≡ (node ∷ []) ++ (tree_blocks l a gone ++ blocks_after l s node 0)
  whole_is z =
      let rest = blocks_after l s node 0 in
      blocks_lone l s node (one z) (waits_none l s node z (can.leads.told z) (can.told z).none_waits)
      ∙ (ap (λ (js : List ℕ). (node ∷ []) ++ (js ++ rest)) (sym (child_after z).blocks)
      ∙ ap (λ (k : ℕ). (node ∷ []) ++ (tree_blocks l a k ++ rest)) (sym (x.gone_is z)))

  fork_stored : TakesUpTo 0 2 (tree_blocks (suc l) s node) (tree_blocks (suc l) s node) s a
  fork_stored = takes_beside [] (node ∷ []) (node ∷ [])
      (row_blocks (tree_blocks l s) s (entries_at s node)) (λ z. (can.told z).holds)
      (store_takes (λ z. x.in_use) x.stores)

  -- A way that couldn't be released.
  pub way_kept : {t : RigState} {e : EmFault} → StopsInPlace (2 * l + 1) (tree_blocks l a gone) a t e
      → StopsInPlace (2 * l + 3) (tree_blocks (suc l) s node) s t e
  way_kept w =
      let back : IsTrue a.device.told → IsTrue s.device.told = λ y. sym x.stores.goes.touches.told ∙ y in
      place_wider (2 * l + 3) (omega arith) (place_then fork_stored
      (place_from (tree_blocks (suc l) s node)
      (place_beside (node ∷ []) (tree_blocks l a gone) (blocks_after l s node 0) w)
      (λ y. whole_is (back y))))

-- What the fork has then.
pub record ForkLeft (l : ℕ) (s b : RigState) (node first : ℕ) : Type 0 where
  pub stands : NodeStands l b node
  pub tree : tree_at (suc l) b node
      ≡ least_first (row_of (tree_at l s) s (drop 1 (entries_at s node)))
  pub blocks : tree_blocks (suc l) b node ≡ node ∷ blocks_after l s node 0
  pub first_is : first ≡ child_at 0 (entries_at b node)

module _ {s a b : RigState} {node gone first : ℕ} (l : ℕ) (can : CanRemoveFirst s (suc l) node)
    (x : DroppedFirst s a (suc l) node gone first) (w : ReleasedWay a b l gone)
    (z : IsTrue s.device.told) where
  -- the fork's block and the first child's blocks alone were changed
  gone_touches : Touches (tree_blocks l s (child_at 0 (entries_at s node))) a b
  gone_touches =
      let B : List ℕ → Type 0 = λ js. Touches js a b in
      let T : ℕ → Type 0 = λ k. Touches (tree_blocks l a k) a b in
      subst B (child_after l can x z).blocks (subst T (x.gone_is z) w.takes.session.touches)

  fork_touches : Touches (node ∷ tree_blocks l s (child_at 0 (entries_at s node))) s b
  fork_touches =
      let ks = tree_blocks l s (child_at 0 (entries_at s node)) in
      touches_trans (node ∷ ks) ks s a b
      (touches_wider (node ∷ ks) (node ∷ []) s a x.stores.goes.touches (λ _ k u o. (o.0, tt)))
      gone_touches (λ _ k u o. o.1)

  pub fork_left : ForkLeft l s b node first
  fork_left =
      let es = entries_at s node in
      let fs = drop 1 es in
      let ks = tree_blocks l s (child_at 0 es) in
      let some : 0 < length es = one l can x z in
      let several = (can.told z).fork.several in
      let on : IsTrue a.device.told = x.stores.goes.touches.told ∙ z in
      let d = child_beside l s node 0 some ((can.told z).holds.distinct z) in
      let old = node_entries l s node (can.leads.told z) (can.told z).formed in
      let later = each_drop (EntryStands l s) 1 es old.each in
      let each = each_left (node ∷ ks) s b fork_touches z l fs d.around.after later in
      let row = rows_stay (node ∷ ks) s b fork_touches z l fs d.around.after (stored_by l s fs later) in
      let now : entries_at b node ≡ with_least fs =
      ap entries_of (block_same ks a b gone_touches on node x.in_use d.first)
      ∙ (x.told z).entries in
      let more : 0 < length (with_least fs) =
      omega (arith, least_length fs, drop_length es, several) in
      let N : List Entry → Type 0 = λ gs. 0 < length gs in
      let E : List Entry → Type 0 = EachOf (EntryStands l b) in
      record {
        stands = record {
          node = node_stays ks a b gone_touches on (suc l) node d.first (x.told z).node_is;
          some = subst N (sym now) more;
          each = subst E (sym now) (least_each l b fs each);
        };
        tree = ap (row_of (tree_at l b) b) now
            ∙ (least_row (tree_at l b) b fs ∙ ap least_first row.row);
        blocks = ap (λ (gs : List Entry). node ∷ row_blocks (tree_blocks l b) b gs) now
            ∙ ap (λ (js : List ℕ). node ∷ js) (least_blocks (tree_blocks l b) b fs ∙ row.blocks);
        first_is = (x.told z).child_is
            ∙ (next_child es ∙ (sym (least_child fs)
            ∙ ap (λ (gs : List Entry). child_at 0 gs) (sym now)));
      }

-- The way was released.
fork_takes : {s a b : RigState} {node gone first : ℕ} (l : ℕ) → CanRemoveFirst s (suc l) node
    → DroppedFirst s a (suc l) node gone first → ReleasedWay a b l gone
    → TakesUpTo 0 (2 * l + 3) (tree_blocks (suc l) s node) (tree_blocks (suc l) b node) s b
fork_takes {s} {a} {b} {node} {gone} {first} l can x w =
    let rest = blocks_after l s node 0 in
    let whole = tree_blocks (suc l) s node in
    let stored = fork_stored l can x in
    let back : IsTrue a.device.told → IsTrue s.device.told = λ y. sym x.stores.goes.touches.told ∙ y in
    let H : List ℕ → Type 0 = Holds a in
    takes_wider 0 (2 * l + 3) (omega arith) (omega arith)
    (takes_as (tree_blocks (suc l) b node)
    (takes_then stored (takes_from whole
    (takes_beside (node ∷ []) (tree_blocks l a gone) [] rest
    (λ y. subst H (whole_is l can x (back y)) (stored.session.holds (back y))) w.takes)
    (λ y. whole_is l can x (back y))))
    (λ z. (fork_left l can x w z).blocks))

-- The new first way can be lowered,
pub way_of_first : {s a b : RigState} {node gone first : ℕ} (l : ℕ) → CanRemoveFirst s (suc l) node
    → DroppedFirst s a (suc l) node gone first → ReleasedWay a b l gone → CanLowerWay b l first
way_of_first {s} {a} {b} {node} {gone} {first} l can x w =
    let t = fork_takes l can x w in
    let h = t.session.touches in
    let c = child_at 0 (entries_at b node) in
    let back : IsTrue b.device.told → IsTrue s.device.told = λ y. sym h.told ∙ y in
    let F : ℕ → Type 0 = AreFormed l b in
    let H : ℕ → Type 0 = λ k. Holds b (tree_blocks l b k) in
    record {
      leads = child_leads s b l first c x.first_below h.blocks h.told
          (λ z. (fork_left l can x w z).first_is)
          (λ z.
          let f = fork_left l can x w z in
          child_of_node 0 (node_stands l b node f.stands) f.stands.some);
      formed = λ y.
          let f = fork_left l can x w (back y) in
          subst F (sym f.first_is)
          (each_at (EntryStands l b) (entries_at b node) 0 f.stands.some f.stands.each).formed;
      holds = λ y.
          let f = fork_left l can x w (back y) in
          subst H (sym f.first_is)
          (child_held l b node 0 f.stands.some (t.session.holds (back y)));
    }

-- and was.
module _ {s a b t : RigState} {node gone first : ℕ} (l : ℕ) (can : CanRemoveFirst s (suc l) node)
    (x : DroppedFirst s a (suc l) node gone first) (w : ReleasedWay a b l gone)
    (v : LoweredWay b t l first) where
  on : IsTrue s.device.told → IsTrue b.device.told
  on z = (fork_takes l can x w).session.touches.told ∙ z

  fork_splits : IsTrue s.device.told → ChildSplits l b t node 0
  fork_splits z =
      let f = fork_left l can x w z in
      let T : ℕ → Type 0 = λ k. Touches (tree_blocks l b k) b t in
      let S : ℕ → Type 0 = StandsAt t l in
      let F : ℕ → Type 0 = AreFormed l t in
      record {
        told = on z;
        one = f.stands.some;
        stands = node_stands l b node f.stands;
        formed = node_formed l b node f.stands;
        holds = (fork_takes l can x w).session.holds z;
        touches = subst T f.first_is v.takes.session.touches;
        child = subst S f.first_is (v.leads.told (v.takes.session.touches.told ∙ on z));
        child_formed = subst F f.first_is (v.formed (on z));
      }

  fork_reads : (z : IsTrue s.device.told)
      → ReadsChanged l b t node 0 (entry_of_place b node 0 ∷ [])
  fork_reads z = reads_changed (changes_same (fork_splits z))

  fork_tree : IsTrue s.device.told → tree_at (suc l) t node ≡ without_first (tree_at (suc l) s node)
  fork_tree z =
      let f = fork_left l can x w z in
      let e = entry_of_place b node 0 in
      let c = child_at 0 (entries_at b node) in
      let r = row_from l b node 1 in
      let same = buffer_still (fork_splits z) (child_wider (fork_splits z)) in
      let T : ℕ → Type 0 = λ k. tree_at l t k ≡ lowered_first (tree_at l b k) in
      let below : tree_at l t c ≡ lowered_first (tree_at l b c) = subst T f.first_is (v.tree (on z)) in
      let e0 = entry_of_place s node 0 in
      let c0 = child_at 0 (entries_at s node) in
      let level : suc l - 1 ≡ l = omega arith in
      let L : ℕ → Type 0 = λ n. IsLone n s c0 in
      let lone = subst L level (can.told z).fork.lone in
      let rest = row_of (tree_at l s) s (drop 1 (entries_at s node)) in
      let after : without_first (tree_at (suc l) s node) ≡ lowered_first rest =
      ap without_first (entry_put l s node 0 (one l can x z))
      ∙ ap (λ (u : Tree). with_first_child u e0.low (chain_items s (buffer_of e0)) rest)
      (lone_gone l s c0 lone) in
      (fork_reads z).tree
      ∙ (ap (λ (ys : List Record). entry e.low ys (tree_at l t c) r) same.items
      ∙ (ap (λ (u : Tree). entry e.low (chain_items b (buffer_of e)) u r) below
      ∙ (ap child_lowered (sym (entry_put l b node 0 f.stands.some))
      ∙ (ap child_lowered f.tree ∙ (both_lowered rest ∙ sym after)))))

  fork_blocks : IsTrue s.device.told → tree_blocks (suc l) t node
      ≡ (node ∷ chain_blocks b (buffer_of (entry_of_place b node 0)))
      ++ (tree_blocks l t first ++ blocks_after l b node 0)
  fork_blocks z =
      let f = fork_left l can x w z in
      let xs = node ∷ chain_blocks b (buffer_of (entry_of_place b node 0)) in
      let same = buffer_still (fork_splits z) (child_wider (fork_splits z)) in
      changed_blocks l b t node (entry_of_place b node 0) (fork_reads z) same.blocks
      ∙ ap (λ (k : ℕ). xs ++ (tree_blocks l t k ++ blocks_after l b node 0)) (sym f.first_is)

-- the fork's blocks, around those of the new first child
around_first : {s a b : RigState} {node gone first : ℕ} (l : ℕ) → CanRemoveFirst s (suc l) node
    → DroppedFirst s a (suc l) node gone first → ReleasedWay a b l gone → IsTrue s.device.told
    → tree_blocks (suc l) b node ≡ (node ∷ chain_blocks b (buffer_of (entry_of_place b node 0)))
    ++ (tree_blocks l b first ++ blocks_after l b node 0)
around_first {s} {a} {b} {node} {gone} {first} l can x w z =
    let f = fork_left l can x w z in
    let xs = node ∷ chain_blocks b (buffer_of (entry_of_place b node 0)) in
    blocks_first l b node f.stands.some
    ∙ ap (λ (k : ℕ). xs ++ (tree_blocks l b k ++ blocks_after l b node 0)) (sym f.first_is)

-- The first leaf was taken out,
first_out : {s a b t : RigState} {node gone first : ℕ} (l : ℕ) → CanRemoveFirst s (suc l) node
    → DroppedFirst s a (suc l) node gone first → ReleasedWay a b l gone → LoweredWay b t l first
    → RemovedFirst s t (suc l) node
first_out {s} {a} {b} {t} {node} {gone} {first} l can x w v =
    let xs = node ∷ chain_blocks b (buffer_of (entry_of_place b node 0)) in
    let ys = blocks_after l b node 0 in
    let before = fork_takes l can x w in
    let back : IsTrue b.device.told → IsTrue s.device.told = λ y. sym before.session.touches.told ∙ y in
    let H : List ℕ → Type 0 = Holds b in
    let both = takes_as (tree_blocks (suc l) t node)
    (takes_then before (takes_from (tree_blocks (suc l) b node)
    (takes_beside xs (tree_blocks l b first) (tree_blocks l t first) ys
    (λ y. subst H (around_first l can x w (back y)) (before.session.holds (back y))) v.takes)
    (λ y. around_first l can x w (back y)))) (λ z. fork_blocks l can x w v z) in
    let g = both.session.touches in
    let moves = both.moves in
    let used = both.used in
    let most = both.most in
    let here : IsTrue t.device.told → IsTrue s.device.told = λ y. sym g.told ∙ y in
    record {
      session = both.session;
      frames = both.frames;
      pays = both.pays;
      loses = both.loses;
      moves = omega (arith, moves);
      peaks = record { used = used; most = most };
      leads = record {
        in_use = record {
          told = λ y. (fork_reads l can x w v (here y)).stands.node.in_use.told y;
          untold = λ f. rw (g.blocks) (can.leads.in_use.untold (sym g.told ∙ f));
        };
        told = λ y. node_stands l t node (fork_reads l can x w v (here y)).stands;
      };
      told = λ z. record {
        tree = fork_tree l can x w v z;
        formed = node_formed l t node (fork_reads l can x w v z).stands;
      };
    }

-- or the new first way couldn't be lowered.
first_high : {s a b t : RigState} {node gone first : ℕ} {e : EmFault} (l : ℕ)
    → CanRemoveFirst s (suc l) node → DroppedFirst s a (suc l) node gone first
    → ReleasedWay a b l gone → StopsInPlace (2 * l) (tree_blocks l b first) b t e
    → StopsInPlace (4 * l + 3) (tree_blocks (suc l) s node) s t e
first_high {s} {a} {b} {t} {node} {gone} {first} l can x w v =
    let xs = node ∷ chain_blocks b (buffer_of (entry_of_place b node 0)) in
    let ys = blocks_after l b node 0 in
    let before = fork_takes l can x w in
    let back : IsTrue b.device.told → IsTrue s.device.told = λ y. sym before.session.touches.told ∙ y in
    place_wider (4 * l + 3) (omega arith) (place_then before
    (place_from (tree_blocks (suc l) b node) (place_beside xs (tree_blocks l b first) ys v)
    (λ y. around_first l can x w (back y))))

stops_removing : {s t : RigState} {e : EmFault} (l node : ℕ)
    → StopsInPlace (4 * l + 3) (tree_blocks (suc l) s node) s t e → StopsRemoving s t (suc l) node e
stops_removing l node x =
    let moves = x.moves in
    let used = x.used in
    let most = x.most in
    let later = x.goes.touches.moves in
    record {
      goes = x.goes;
      pays = pays_kept 0 used later;
      moves = omega (arith, moves);
      peaks = record { used = omega (arith, used); most = omega (arith, most) };
      cause = x.cause;
    }

-- The same by the level: the fork couldn't be stored,
pub fork_unstored : {s t : RigState} {e : EmFault} (level node : ℕ) → 0 < level
    → StopsTaking s t node e → StopsRemoving s t level node e
fork_unstored zero node above x = absurd (omega (arith, above))
fork_unstored {s} (suc l) node above x =
    stops_removing l node (place_wider (4 * l + 3) (omega arith) (place_beside [] (node ∷ [])
    (row_blocks (tree_blocks l s) s (entries_at s node)) (node_place x)))

-- its first child's way can be released,
pub gone_way : {s a : RigState} {gone first : ℕ} (level node : ℕ) → 0 < level
    → CanRemoveFirst s level node → DroppedFirst s a level node gone first
    → CanReleaseWay a (level - 1) gone
gone_way zero node above can x = absurd (omega (arith, above))
gone_way {s} {a} {gone} (suc l) node above can x =
    let e : l ≡ suc l - 1 = omega arith in
    subst (λ (n : ℕ). CanReleaseWay a n gone) e (way_of_gone l can x)

-- or couldn't be,
pub gone_kept : {s a t : RigState} {gone first : ℕ} {f : EmFault} (level node : ℕ) → 0 < level
    → CanRemoveFirst s level node → DroppedFirst s a level node gone first
    → StopsInPlace (2 * (level - 1) + 1) (tree_blocks (level - 1) a gone) a t f
    → StopsRemoving s t level node f
gone_kept zero node above can x w = absurd (omega (arith, above))
gone_kept {s} {a} {t} {gone} {first} {f} (suc l) node above can x w =
    let e : suc l - 1 ≡ l = omega arith in
    let P : ℕ → Type 0 = λ n. StopsInPlace (2 * n + 1) (tree_blocks n a gone) a t f in
    stops_removing l node (place_wider (4 * l + 3) (omega arith) (way_kept l can x (subst P e w)))

-- the new first way can be lowered,
pub first_way_left : {s a b : RigState} {gone first : ℕ} (level node : ℕ) → 0 < level
    → CanRemoveFirst s level node → DroppedFirst s a level node gone first
    → ReleasedWay a b (level - 1) gone → CanLowerWay b (level - 1) first
first_way_left zero node above can x w = absurd (omega (arith, above))
first_way_left {s} {a} {b} {gone} {first} (suc l) node above can x w =
    let e : suc l - 1 ≡ l = omega arith in
    let P : ℕ → Type 0 = λ n. ReleasedWay a b n gone in
    subst (λ (n : ℕ). CanLowerWay b n first) (sym e) (way_of_first l can x (subst P e w))

-- and what that did ends it.
pub removes_first : {s a b : RigState} {gone first : ℕ} (level node : ℕ) (t : RigState)
    (result : Result Unit EmFault) → 0 < level → CanRemoveFirst s level node
    → DroppedFirst s a level node gone first → ReleasedWay a b (level - 1) gone
    → LowersWay b t (level - 1) first result → TakesFirstOut s t level node result
removes_first zero node t result above can x w v = absurd (omega (arith, above))
removes_first {s} {a} {b} {gone} {first} (suc l) node t (Ok u) above can x w v =
    let e : suc l - 1 ≡ l = omega arith in
    let P : ℕ → Type 0 = λ n. ReleasedWay a b n gone in
    let Q : ℕ → Type 0 = λ n. LoweredWay b t n first in
    first_out l can x (subst P e w) (subst Q e v)
removes_first {s} {a} {b} {gone} {first} (suc l) node t (Err fault) above can x w v =
    let e : suc l - 1 ≡ l = omega arith in
    let P : ℕ → Type 0 = λ n. ReleasedWay a b n gone in
    let Q : ℕ → Type 0 = λ n. StopsInPlace (2 * n) (tree_blocks n b first) b t fault in
    stops_removing l node (first_high l can x (subst P e w) (subst Q e v))

-- A fault that is handed on.
pub removes_of : (s t : RigState) (level node : ℕ) (result : Result Unit EmFault) (e : EmFault)
    → IsErrAnd result (λ m. m ≡ e) → StopsRemoving s t level node e
    → TakesFirstOut s t level node result
removes_of s t level node (Ok p) e h x = absurd h
removes_of s t level node (Err m) e h x =
    subst (λ (f : EmFault). StopsRemoving s t level node f) (sym h) x
