-- The way to the first leaf of a tree.
use Rattle.std.proofs.Common.{◌≡◌, ℕ, zero, suc, ◌+◌, ◌-◌, ◌<◌, ◌≤◌, List, [], ◌∷◌, get_or, length, refl, sym, ap, ◌∙◌, subst, arith, IsTrue, Option, Some, None, Result, Ok, Err}
use Rattle.em_record.specs.Shape.{ShapeNumbers}
use Rattle.em_record.specs.declared.record.Record.{Record}
use Rattle.em_frames.specs.Device.{block_at}
use Rattle.em_frames.specs.Pool.{given, lent}
use Rattle.em_space.specs.Rig.{RigState, Sound, InUse}
use Rattle.em_space.specs.declared.fault.EmFault.{EmFault}
use Rattle.em_space.proofs.Held.{apart_none}
use Rattle.em_chain.specs.Chain.{chain_items, payload_in}
use Rattle.em_chain.specs.declared.chain.Chain.{Chain}
use Rattle.em_chain.proofs.Keeps.{payload_kept}
use Rattle.em_chain.proofs.Readers.{length_items}
use Rattle.em_leaf.specs.Leaf.{leaf_most}
use Rattle.em_node.specs.declared.entry.Entry.{Entry}
use Rattle.em_node.specs.Node.{entries_of}
use Rattle.em_tree_model.specs.Places.{put_at}
use Rattle.em_tree_model.specs.Tree.{first_leaf}
use Rattle.em_tree_model.specs.Tree.Tree.{leaf}
use Rattle.em_tree_blocks.specs.Node.{leaf_chain}
use Rattle.em_tree_blocks.specs.Paths.{IsPath, child_at, first_path, level_on, node_on, place_on}
use Rattle.em_tree_blocks.specs.Reading.{entries_at, stored_chain, tree_at, tree_blocks}
use Rattle.em_tree_blocks.proofs.Frames.{tree_stays}
use Rattle.em_tree_blocks.proofs.Paths.{tree_on}
use Rattle.em_tree_load.specs.FirstLeaves.{CanFindFirst, FindsWay, FoundFirst, FoundWay, IsFork, IsForkFrom, IsLastFork, IsLone, IsOnFirstWay, IsOwnFork, LeadsToFork}
use Rattle.em_tree_load.specs.Leaves.{LeadsToLeaf, ReadLeaf}
use Rattle.em_tree_load.specs.declared.seeking.FirstWay.{FirstWay}
use Rattle.em_tree_walk.specs.declared.splitting.Root.{Root}
use Rattle.em_tree_load.proofs.FirstGone.{first_leaf_put, first_path_level, first_place}
use Rattle.em_tree_walk.specs.Reads.{ReadsOnly, ReadsPassing}
use Rattle.em_tree_walk.specs.Stands.{IsNodeOf, LeadsToTree, StandsAt}
use Rattle.em_tree_walk.proofs.Readings.{reads_framed, reads_more, reads_then, stops_framed}
use Rattle.em_tree_walk.proofs.Standing.{child_below, child_stands, first_in_use, leads_after, leads_given}

-- what follows a node on the way, from the node's first child on
on_way_up : (t : RigState) (m node l j : ℕ) → 0 < length (entries_at t node)
    → IsOnFirstWay t m (child_at 0 (entries_at t node)) l j → IsOnFirstWay t (suc m) node l j
on_way_up t m node l j one x =
    let below = x.below in
    let e : suc m - l ≡ suc (m - l) = omega (arith, below) in
    let P : ℕ → Type 0 = λ n. IsPath (first_path n) (suc m) t node in
    let N : ℕ → Type 0 = λ n. j ≡ node_on (first_path n) (suc m) t node in
    record {
      below = omega (arith, below);
      path = subst P (sym e) (one, x.path);
      node_is = subst N (sym e) x.node_is;
    }

-- a node itself
on_way_here : (t : RigState) (l node : ℕ) → IsOnFirstWay t l node l node
on_way_here t l node =
    let e : 0 ≡ l - l = omega arith in
    let P : ℕ → Type 0 = λ n. IsPath (first_path n) l t node in
    let N : ℕ → Type 0 = λ n. node ≡ node_on (first_path n) l t node in
    record { below = omega arith; path = subst P e tt; node_is = subst N e refl }

-- The last fork from a node on.
own_fork_is : (t : RigState) (m node : ℕ) (o : Option Root) → 0 < length (entries_at t node)
    → IsLone m t (child_at 0 (entries_at t node))
    → IsOwnFork (suc m) node (length (entries_at t node)) o → IsLastFork t (suc m) node o
own_fork_is t m node None one lone own = (omega (arith, one, own), lone)
own_fork_is t m node (Some f) one lone own =
    let e : m ≡ suc m - 1 = omega arith in
    let L : ℕ → Type 0 = λ n. IsLone n t (child_at 0 (entries_at t node)) in
    let here : IsFork t (suc m) node = record { several = own.0; lone = subst L e lone } in
    let P : Root → Type 0 = λ r. IsOnFirstWay t (suc m) node r.level r.block × IsFork t r.level r.block in
    subst P (sym own.1) (on_way_here t (suc m) node, here)

last_fork_up : (t : RigState) (m node : ℕ) (below o : Option Root) → 0 < length (entries_at t node)
    → IsLastFork t m (child_at 0 (entries_at t node)) below
    → IsForkFrom (suc m) node (length (entries_at t node)) below o → IsLastFork t (suc m) node o
last_fork_up t m node None o one x f = own_fork_is t m node o one x f
last_fork_up t m node (Some r) o one x f =
    let P : Option Root → Type 0 = IsLastFork t (suc m) node in
    subst P (sym f) (on_way_up t m node r.level r.block one x.0, x.1)

-- Its tree can be read.
own_fork_leads : (t : RigState) (m node n : ℕ) (o : Option Root) → LeadsToTree t (suc m) node
    → IsOwnFork (suc m) node n o → LeadsToFork t (suc m) o
own_fork_leads t m node n None leads own = tt
own_fork_leads t m node n (Some f) leads own =
    let P : Root → Type 0 = λ r. (0 < r.level) × (r.level ≤ suc m) × LeadsToTree t r.level r.block in
    subst P (sym own.1) (omega arith, omega arith, leads)

fork_leads_up : (t : RigState) (m node n : ℕ) (below o : Option Root) → LeadsToTree t (suc m) node
    → LeadsToFork t m below → IsForkFrom (suc m) node n below o → LeadsToFork t (suc m) o
fork_leads_up t m node n None o leads x f = own_fork_leads t m node n o leads f
fork_leads_up t m node n (Some r) o leads x f =
    let P : Option Root → Type 0 = LeadsToFork t (suc m) in
    let least = x.1 in
    subst P (sym f) (x.0, omega (arith, least), x.2)

-- The first child of a node that was read,
pub way_child : {s r : RigState} {b : List Record} (level node child : ℕ) → 0 < level
    → LeadsToTree s level node → ReadsPassing (IsNodeOf level s.pool.shape s.blocks) s r node b
    → child ≡ child_at 0 (entries_of b) → LeadsToTree r (level - 1) child
way_child {s} {r} {b} level node child above leads x e =
    let es = entries_of b in
    let same : IsTrue s.device.told → es ≡ entries_at s node =
    λ z. ap (λ (v : List Record). entries_of v) (x.loaded z) in
    let below : child < s.blocks = subst (λ (k : ℕ). k < s.blocks) (sym e)
    (child_below s.blocks es 0 x.is.some x.is.node.linked) in
    let C : List Entry → Type 0 = λ fs. child ≡ child_at 0 fs in
    let N : List Entry → Type 0 = λ fs. 0 < length fs in
    let S : ℕ → Type 0 = λ k. LeadsToTree s (level - 1) k in
    let at : LeadsToTree s (level - 1) child = record {
      in_use = record {
        told = λ z.
            let o = child_stands level 0 above (leads.told z) (subst N (same z) x.is.some) in
            let U : ℕ → Type 0 = InUse s in
            (subst U (sym (subst C (same z) e)) (first_in_use (level - 1) o)).told z;
        untold = λ f. below;
      };
      told = λ z.
          let o = child_stands level 0 above (leads.told z) (subst N (same z) x.is.some) in
          subst (λ (k : ℕ). StandsAt s (level - 1) k) (sym (subst C (same z) e)) o;
    } in
    leads_after x.reads at

-- and the way from the node on.
way_up : {s r t : RigState} {b : List Record} (m node n : ℕ) (x y : FirstWay)
    → LeadsToTree s (suc m) node → ReadsPassing (IsNodeOf (suc m) s.pool.shape s.blocks) s r node b
    → n ≡ length (entries_of b) → FoundWay r t m (child_at 0 (entries_of b)) x → y.leaf ≡ x.leaf
    → IsForkFrom (suc m) node n x.fork y.fork → FoundWay s t (suc m) node y
way_up {s} {r} {t} {b} m node n x y leads p count w leaf_is fork =
    let reads = reads_then 1 m p.reads w.reads in
    let leads_now = leads_after reads leads in
    let L : ℕ → Type 0 = LeadsToTree t 0 in
    record {
      reads = reads_more (1 + m) (suc m) (omega arith) reads;
      leaf_leads = subst L (sym leaf_is) w.leaf_leads;
      fork_leads = fork_leads_up t m node n x.fork y.fork leads_now w.fork_leads fork;
      told = λ z.
          let same : entries_of b ≡ entries_at t node =
          ap (λ (v : List Record). entries_of v) (p.loaded z)
          ∙ sym (ap (λ (cs : List (List Record)). entries_of (get_or cs node [])) reads.kept) in
          let some = (leads_now.told (reads.goes.touches.told ∙ z)).rows.0 in
          let is = w.told (p.reads.goes.touches.told ∙ z) in
          let A : List Entry → Type 0 = λ es. IsOnFirstWay t m (child_at 0 es) 0 x.leaf in
          let B : List Entry → Type 0 = λ es. IsLastFork t m (child_at 0 es) x.fork in
          let K : ℕ → Type 0 = λ k. IsForkFrom (suc m) node k x.fork y.fork in
          let J : ℕ → Type 0 = λ k. IsOnFirstWay t (suc m) node 0 k in
          record {
            leaf = subst J (sym leaf_is) (on_way_up t m node 0 x.leaf some (subst A same is.leaf));
            fork = last_fork_up t m node x.fork y.fork some (subst B same is.fork)
                (subst K (count ∙ ap (λ (es : List Entry). length es) same) fork);
          };
    }

pub way_from : {s r t : RigState} {b : List Record} (level node child n : ℕ) (x y : FirstWay)
    → 0 < level → LeadsToTree s level node
    → ReadsPassing (IsNodeOf level s.pool.shape s.blocks) s r node b → n ≡ length (entries_of b)
    → child ≡ child_at 0 (entries_of b) → FoundWay r t (level - 1) child x → y.leaf ≡ x.leaf
    → IsForkFrom level node n x.fork y.fork → FoundWay s t level node y
way_from zero node child n x y above leads p count e w leaf_is fork = absurd (omega (arith, above))
way_from {s} {r} {t} {b} (suc m) node child n x y above leads p count e w leaf_is fork =
    let one : suc m - 1 ≡ m = omega arith in
    let P : ℕ → Type 0 = λ k. FoundWay r t k child x in
    let Q : ℕ → Type 0 = λ k. FoundWay r t m k x in
    way_up m node n x y leads p count (subst Q e (subst P one w)) leaf_is fork

-- What is read of a way in other states that have the same blocks.
module _ (s t : RigState) (e : t.device.contents ≡ s.device.contents) where
  entries_same : (k : ℕ) → entries_at t k ≡ entries_at s k
  entries_same k = ap (λ (cs : List (List Record)). entries_of (get_or cs k [])) e

  path_same : (is : List ℕ) (l k : ℕ) → IsPath is l s k → IsPath is l t k
  path_same [] l k n = tt
  path_same (i ∷ is) zero k n = absurd n
  path_same (i ∷ is) (suc l) k n =
      let P : List Entry → Type 0 = λ es. (i < length es) × IsPath is l t (child_at i es) in
      subst P (sym (entries_same k)) (n.0, path_same is l (child_at i (entries_at s k)) n.1)

  node_same : (is : List ℕ) (l k : ℕ) → node_on is l t k ≡ node_on is l s k
  node_same [] l k = refl
  node_same (i ∷ is) zero k = refl
  node_same (i ∷ is) (suc l) k =
      ap (λ (es : List Entry). node_on is l t (child_at i es)) (entries_same k)
      ∙ node_same is l (child_at i (entries_at s k))

  lone_same : (l k : ℕ) → IsLone l s k → IsLone l t k
  lone_same zero k o = tt
  lone_same (suc l) k o =
      let P : List Entry → Type 0 = λ es. (length es ≡ 1) × IsLone l t (child_at 0 es) in
      subst P (sym (entries_same k)) (o.0, lone_same l (child_at 0 (entries_at s k)) o.1)

  fork_same : (l k : ℕ) → IsFork s l k → IsFork t l k
  fork_same l k o =
      let N : List Entry → Type 0 = λ es. 1 < length es in
      let L : List Entry → Type 0 = λ es. IsLone (l - 1) t (child_at 0 es) in
      record {
        several = subst N (sym (entries_same k)) o.several;
        lone = subst L (sym (entries_same k)) (lone_same (l - 1) (child_at 0 (entries_at s k)) o.lone);
      }

  on_way_same : (top root l k : ℕ) → IsOnFirstWay s top root l k → IsOnFirstWay t top root l k
  on_way_same top root l k o = record {
    below = o.below;
    path = path_same (first_path (top - l)) top root o.path;
    node_is = o.node_is ∙ sym (node_same (first_path (top - l)) top root);
  }

  last_same : (top root : ℕ) (o : Option Root) → IsLastFork s top root o → IsLastFork t top root o
  last_same top root None x = lone_same top root x
  last_same top root (Some f) x =
      (on_way_same top root f.level f.block x.0, fork_same f.level f.block x.1)

-- The same with a frame that was lent and given back.
fork_given : (t : RigState) (top : ℕ) (o : Option Root) → LeadsToFork t top o
    → LeadsToFork (record t { pool = given t.pool }) top o
fork_given t top None x = tt
fork_given t top (Some f) x = (x.0, x.1, leads_given x.2)

way_back : (s t : RigState) (top root : ℕ) (result : Result FirstWay EmFault) → Sound s
    → 0 < s.pool.free → FindsWay (record s { pool = lent s.pool }) t top root result
    → FindsWay s (record t { pool = given t.pool }) top root result
way_back s t top root (Ok x) sound free w =
    let u = record t { pool = given t.pool } in
    record {
      reads = reads_framed sound free w.reads;
      leaf_leads = leads_given w.leaf_leads;
      fork_leads = fork_given t top x.fork w.fork_leads;
      told = λ z.
          let o = w.told z in
          record {
            leaf = on_way_same t u refl top root 0 x.leaf o.leaf;
            fork = last_same t u refl top root x.fork o.fork;
          };
    }
way_back s t top root (Err fault) sound free w = stops_framed sound free w

pub way_framed : {s a u : RigState} (top root : ℕ) (t : RigState) (result : Result FirstWay EmFault)
    → Sound s → 0 < s.pool.free → a ≡ record s { pool = lent s.pool }
    → FindsWay a t top root result → u ≡ record t { pool = given t.pool }
    → FindsWay s u top root result
way_framed {s} {a} {u} top root t result sound free e x f =
    subst (λ (w : RigState). FindsWay s w top root result) (sym f)
    (way_back s t top root result sound free
    (subst (λ (w : RigState). FindsWay w t top root result) e x))

-- the records of the leaf in a block
abbrev pub records_at : RigState → ℕ → List Record
records_at t k = chain_items t (stored_chain t k)

-- What is stored in the first leaf of a tree.
pub first_items_are : (t : RigState) (top root k : ℕ) → IsOnFirstWay t top root 0 k
    → first_leaf (tree_at top t root) ≡ records_at t k
first_items_are t top root k at =
    let path = first_path (top - 0) in
    let level_is : level_on path top ≡ 0 =
    first_path_level (top - 0) top (omega arith) ∙ omega arith in
    let p = place_on path top t root in
    let there : tree_at top t root ≡ put_at p (leaf (records_at t k)) =
    tree_on path top t root at.path
    ∙ (ap (λ (l : ℕ). put_at p (tree_at l t (node_on path top t root))) level_is
    ∙ ap (λ (j : ℕ). put_at p (tree_at 0 t j)) (sym at.node_is)) in
    ap first_leaf there
    ∙ first_leaf_put p (leaf (records_at t k)) (first_place (top - 0) top t root)

-- The leaf that was found can be read,
pub leaf_leads : {s t : RigState} {top root : ℕ} {x : FirstWay} → CanFindFirst s top root
    → FoundWay s t top root x → LeadsToLeaf t x.leaf
leaf_leads {s} {t} {top} {root} {x} can w = record {
  in_use = w.leaf_leads.in_use;
  told = λ y.
      let z : IsTrue s.device.told = sym w.reads.goes.touches.told ∙ y in
      let still = tree_stays [] s t w.reads.goes.touches z top root
      (apart_none (tree_blocks top s root)) (can.leads.told z).is in
      let is = (w.leaf_leads.told y).is in
      let items : first_leaf (tree_at top s root) ≡ records_at t x.leaf =
      ap first_leaf (sym still.tree) ∙ first_items_are t top root x.leaf (w.told z).leaf in
      let n : length (first_leaf (tree_at top s root)) ≡ (stored_chain t x.leaf).count =
      ap (λ (xs : List Record). length xs) items
      ∙ length_items t (stored_chain t x.leaf) is.stored y in
      let F : ℕ → Type 0 = λ k. k ≤ leaf_most s.pool.shape in
      let G : ShapeNumbers → Type 0 = λ sh. (stored_chain t x.leaf).count ≤ leaf_most sh in
      record { is = is; few = subst G (sym w.reads.goes.touches.shape) (subst F n (can.few z)) };
}

-- and was read.
fork_after : {n : ℕ} {t u : RigState} (top : ℕ) (o : Option Root) → ReadsOnly n t u
    → LeadsToFork t top o → LeadsToFork u top o
fork_after top None r x = tt
fork_after top (Some f) r x = (x.0, x.1, leads_after r x.2)

pub found_first : {s t u : RigState} {top root : ℕ} {x : FirstWay} {stored : Chain}
    → FoundWay s t top root x → ReadLeaf t u x.leaf stored
    → FoundFirst s u top root (record { leaf = x.leaf; stored = stored; fork = x.fork })
found_first {s} {t} {u} {top} {root} {x} {stored} w r =
    let h = r.reads.goes.touches in
    record {
      reads = reads_then top 1 w.reads r.reads;
      in_use = (leads_after r.reads w.leaf_leads).in_use;
      chain = r.chain;
      fork_leads = fork_after top x.fork r.reads w.fork_leads;
      told = λ z.
          let o = w.told z in
          let same : stored_chain u x.leaf ≡ stored_chain t x.leaf =
          ap (λ (p : ℕ). leaf_chain p (block_at u.device x.leaf)) (payload_kept [] t u h)
          ∙ ap (λ (cs : List (List Record)). leaf_chain (payload_in t) (get_or cs x.leaf []))
          r.reads.kept in
          record {
            leaf = on_way_same t u r.reads.kept top root 0 x.leaf o.leaf;
            stored = r.is (w.reads.goes.touches.told ∙ z) ∙ sym same;
            fork = last_same t u r.reads.kept top root x.fork o.fork;
          };
    }
