-- The first leaf of a tree, found and emptied: its chain is held beside the tree.
use Rattle.std.proofs.Common.{◌≡◌, ℕ, ◌+◌, ◌-◌, ◌≤◌, List, [], ◌∷◌, ◌++◌, refl, sym, ap, ◌∙◌, subst, arith, IsTrue, Option, Some, None, Result, Ok, Err}
use Rattle.std.specs.Prelude.{IsErrAnd}
use Rattle.em_record.specs.Shape.{ShapeNumbers}
use Rattle.em_space.specs.Free.{Off}
use Rattle.em_space.specs.Held.{Apart, Holds}
use Rattle.em_space.specs.Ledger.{Session}
use Rattle.em_space.specs.Rig.{RigState, Sound, Touches}
use Rattle.em_space.specs.declared.fault.EmFault.{EmFault}
use Rattle.em_space.proofs.Held.{apart_none}
use Rattle.em_space.proofs.Lists.{apart_sym}
use Rattle.em_space.proofs.Paying.{pays_kept}
use Rattle.em_space.proofs.Sessions.{session_as, session_beside, session_still, session_trans}
use Rattle.em_space.proofs.Steps.{goes_trans, same_frames_then, touches_after}
use Rattle.em_space.proofs.Within.{goes_wider, within_same}
use Rattle.em_chain.specs.Chain.{ChainStays, IsChain, IsPacked, chain_blocks, chain_items, empty_chain, payload_in}
use Rattle.em_chain.specs.Counts.{ceiling}
use Rattle.em_chain.specs.declared.chain.Chain.{Chain}
use Rattle.em_chain.proofs.Laws.{chain_stays}
use Rattle.em_leaf.specs.Leaf.{IsLeafChain, leaf_most}
use Rattle.em_leaf.proofs.Numbers.{ceiling_few}
use Rattle.em_tree_model.specs.Places.{put_at}
use Rattle.em_tree_model.specs.Tree.{Tree, first_leaf, with_first_leaf}
use Rattle.em_tree_model.specs.Tree.Tree.{leaf}
use Rattle.em_tree_blocks.specs.Paths.{first_path, place_on}
use Rattle.em_tree_blocks.specs.Reading.{IsLeafAt, stored_chain, tree_at, tree_blocks}
use Rattle.em_tree_blocks.proofs.Frames.{TreeStays, tree_stays}
use Rattle.em_tree_load.specs.FirstLeaves.{CanFindFirst, FoundFirst, IsFirstLeaf, IsLastFork, LeadsToFork}
use Rattle.em_tree_load.specs.Leaves.{StopsLeaf, StoredLeaf}
use Rattle.em_tree_load.specs.Releases.{CanRelease}
use Rattle.em_tree_load.specs.declared.seeking.FirstLeaf.{FirstLeaf}
use Rattle.em_tree_load.proofs.Peaks.{peaks_same, peaks_then}
use Rattle.em_tree_load.proofs.Releasings.{can_kept}
use Rattle.em_tree_walk.specs.Paid.{LosesNone}
use Rattle.em_tree_walk.specs.Reads.{StopsReading}
use Rattle.em_tree_walk.specs.Stands.{StandsAt}
use Rattle.em_tree_walk.specs.declared.splitting.Root.{Root}
use Rattle.em_tree_walk.proofs.Losses.{loses_as, loses_same, loses_still, loses_then}
use Rattle.em_tree_walk.proofs.Readings.{cause_then}
use Rattle.em_tree_walk.proofs.Regions.{SameTally, held_second, session_from, session_same, tally, tally_append}
use Rattle.em_tree_unload.specs.Emptying.{EmptiedFirst, EmptiesFirst, StopsWithin}
use Rattle.em_tree_unload.specs.Unloading.{CanUnload}
use Rattle.em_tree_unload.proofs.LeafRows.{child_with, grown_with}
use Rattle.em_tree_unload.proofs.NoneWaiting.{HasNoneWaiting, emptied_waits, first_few, put_with}
use Rattle.em_tree_unload.proofs.OnWay.{last_stays, way_first, way_holds, way_off, way_place, way_stands, way_tree}
use Rattle.em_tree_unload.proofs.TreeLeft.{TreeLeft, leads_by, session_by, tree_left}
use Rattle.em_tree_unload.proofs.TreeReads.{can_release, none_waits, rows_child, rows_grown, stands_by, unloadable_by}

-- The first leaf of a tree can be found in which nothing waits.
pub can_find : {s : RigState} {root : Root} → CanUnload s root → CanFindFirst s root.level root.block
can_find {s} {root} can = record {
  leads = can.leads;
  few = λ z.
      let none = none_waits root.level s z root.block (can.leads.told z).is (can.told z).none in
      first_few (leaf_most s.pool.shape) (tree_at root.level s root.block) none;
}

-- a chain with no block is one, and packed
empty_is : (s : RigState) → IsChain s empty_chain
empty_is s = record {
  count_most = omega arith;
  blocks_most = omega arith;
  told = λ z. record {
    holds = record { in_use = tt; distinct = λ y. tt };
    list = record { run = refl; blocks_is = refl; tail_is = refl; count_is = refl; skip_fits = refl };
  };
}

empty_packed : (s : RigState) → IsPacked s empty_chain
empty_packed s = record { is = record { skip_is = refl; full = tt } }

none_most : (n : ℕ) → n ≤ 0 → 0 ≡ n
none_most n h = omega (arith, h)

-- A leaf's chain is one over a call that leaves its blocks alone.
pub leaf_chain_stays : {held : List ℕ} {s t : RigState} {c : Chain} → Touches held s t → ChainStays s t c
    → IsLeafChain s c → IsLeafChain t c
leaf_chain_stays {held} {s} {t} {c} h stays i =
    let M : ShapeNumbers → Type 0 = λ p. c.count ≤ leaf_most p in
    record {
      chain = stays.is;
      packed = λ y.
          let z : IsTrue s.device.told = sym h.told ∙ y in
          stays.packed z (i.packed z);
      most = subst M (sym h.shape) i.most;
    }

-- a leaf's block, and then its chain; or the chain, and then the block
chain_first : (k : ℕ) (cs ds js : List ℕ) → ds ≡ cs → js ≡ k ∷ [] → SameTally (k ∷ cs) (ds ++ js)
chain_first k cs ds js e f = λ i.
    let a = tally_append i ds js in
    let b = ap (tally i) e in
    let c = ap (tally i) f in
    omega (arith, a, b, c)

-- What a device that tells has of a tree whose first leaf was emptied.
pub record LeafEmptied (s t : RigState) (top root : ℕ) (x : FirstLeaf) : Type 0 where
  pub session : Session (tree_blocks top s root) s t (chain_blocks t x.stored ++ tree_blocks top t root)
  pub loses : LosesNone (tree_blocks top s root) (chain_blocks t x.stored ++ tree_blocks top t root) s t
  pub items : chain_items t x.stored ≡ first_leaf (tree_at top s root)
  pub reads : tree_at top t root ≡ with_first_leaf (tree_at top s root) []
  pub stands : StandsAt t top root
  pub waits : HasNoneWaiting (leaf_most t.pool.shape) (tree_at top t root)
  pub last : IsLastFork t top root x.fork

module _ {s t : RigState} {top root : ℕ} {x : FirstLeaf} (sound : Sound s) (can : CanRelease s top root)
    (chain : IsLeafChain s x.stored) (fork_leads : LeadsToFork s top x.fork)
    (w : StoredLeaf s t x.leaf empty_chain) (z : IsTrue s.device.told) (found : IsFirstLeaf s top root x) where
  stands : StandsAt s top root
  stands = can.leads.told z

  holds : Holds s (tree_blocks top s root)
  holds = (can.told z).holds

  touches : Touches (x.leaf ∷ []) s t
  touches = w.moves.goes.touches

  -- the blocks of the leaf, before
  before : tree_blocks 0 s x.leaf ≡ x.leaf ∷ chain_blocks s x.stored
  before = ap (λ (c : Chain). x.leaf ∷ chain_blocks s c) (sym found.stored)

  leaf_holds : Holds s (x.leaf ∷ chain_blocks s x.stored)
  leaf_holds = let H : List ℕ → Type 0 = Holds s in subst H before (way_holds found.leaf holds)

  -- and after
  none_stored : stored_chain t x.leaf ≡ empty_chain
  none_stored =
      let p = payload_in s in
      let low = sound.shape.block_low in
      w.is z (none_most (ceiling 0 p) (ceiling_few 0 p (omega (arith, low))))

  after : tree_blocks 0 t x.leaf ≡ x.leaf ∷ []
  after = ap (λ (c : Chain). x.leaf ∷ chain_blocks t c) none_stored

  -- The chain stays,
  chain_apart : Apart (chain_blocks s x.stored) (x.leaf ∷ [])
  chain_apart = apart_sym (x.leaf ∷ []) (chain_blocks s x.stored) ((leaf_holds.distinct z).0, tt)

  still : ChainStays s t x.stored
  still = chain_stays (x.leaf ∷ []) s t x.stored touches (λ y. chain_apart) chain.chain

  -- and the leaf is there, with no record.
  leaf_is : IsLeafAt t x.leaf
  leaf_is =
      let C : Chain → Type 0 = IsChain t in
      let P : Chain → Type 0 = IsPacked t in
      record {
        in_use = w.in_use;
        head = w.head z;
        stored = subst C (sym none_stored) (empty_is t);
        packed = λ y. subst P (sym none_stored) (empty_packed t);
      }

  one : Session (x.leaf ∷ []) s t (x.leaf ∷ [])
  one = record {
    sound = w.moves.goes.sound;
    touches = touches;
    within = within_same s (x.leaf ∷ []);
    holds = λ y. record { in_use = (w.in_use, tt); distinct = λ v. (tt, tt) };
  }

  order : SameTally (x.leaf ∷ chain_blocks s x.stored) (chain_blocks t x.stored ++ tree_blocks 0 t x.leaf)
  order = chain_first x.leaf (chain_blocks s x.stored) (chain_blocks t x.stored) (tree_blocks 0 t x.leaf)
      (still.blocks z) after

  both : Session (x.leaf ∷ chain_blocks s x.stored) s t (x.leaf ∷ chain_blocks s x.stored)
  both = session_beside [] (x.leaf ∷ []) (x.leaf ∷ []) (chain_blocks s x.stored) (λ y. leaf_holds) one

  leaf_session : Session (tree_blocks 0 s x.leaf) s t (chain_blocks t x.stored ++ tree_blocks 0 t x.leaf)
  leaf_session = session_from (tree_blocks 0 s x.leaf)
      (session_same (chain_blocks t x.stored ++ tree_blocks 0 t x.leaf) both (λ y. order))
      (λ y j. ap (tally j) before)

  leaf_loses : LosesNone (tree_blocks 0 s x.leaf) (chain_blocks t x.stored ++ tree_blocks 0 t x.leaf) s t
  leaf_loses =
      let old = tree_blocks 0 s x.leaf in
      let new = chain_blocks t x.stored ++ tree_blocks 0 t x.leaf in
      let mid = x.leaf ∷ chain_blocks s x.stored in
      loses_same old mid new s t (loses_as old old mid s t (loses_still old s t w.moves.same.used)
      (λ y. sym before)) (λ y. order)

  -- So the whole tree.
  left : TreeLeft s t top root 0 x.leaf (chain_blocks t x.stored)
  left = tree_left (chain_blocks t x.stored) z found.leaf stands.is holds leaf_session leaf_loses leaf_is

  none_reads : tree_at top t root ≡ with_first_leaf (tree_at top s root) []
  none_reads =
      let p = place_on (first_path (top - 0)) top s root in
      let xs = chain_items s (stored_chain s x.leaf) in
      left.reads
      ∙ (ap (λ (c : Chain). put_at p (leaf (chain_items t c))) none_stored
      ∙ (sym (put_with p xs [] (way_place found.leaf))
      ∙ ap (λ (y : Tree). with_first_leaf y []) (sym (way_tree found.leaf))))

  pub leaf_emptied : LeafEmptied s t top root x
  leaf_emptied =
      let whole = tree_at top s root in
      let N : Tree → Type 0 = HasNoneWaiting (leaf_most s.pool.shape) in
      let M : ShapeNumbers → Type 0 = λ p. HasNoneWaiting (leaf_most p) (tree_at top t root) in
      record {
        session = left.session;
        loses = left.loses;
        items = still.items z
            ∙ (ap (λ (c : Chain). chain_items s c) found.stored ∙ way_first found.leaf);
        reads = none_reads;
        stands = stands_by top root (with_first_leaf whole []) left.is none_reads
            (child_with whole [] (rows_child top s root stands.rows))
            (grown_with whole [] (rows_grown top s root stands.rows));
        waits = subst M (sym touches.shape) (subst N (sym none_reads)
            (emptied_waits (leaf_most s.pool.shape) whole (none_waits top s z root stands.is (can.told z).none)));
        last = last_stays x.fork fork_leads z stands holds found.leaf leaf_session.touches found.fork;
      }

-- The tree of the last fork can be read then.
fork_left : {ks : List ℕ} {s t : RigState} {top root : ℕ} (o : Option Root) → Touches ks s t
    → LeadsToFork s top o → (IsTrue s.device.told → StandsAt t top root)
    → (IsTrue s.device.told → IsLastFork t top root o) → LeadsToFork t top o
fork_left None h leads there last = tt
fork_left (Some f) h leads there last =
    (leads.0, leads.1, leads_by h leads.2.in_use (λ z. way_stands (last z).0 (there z)))

module _ {s a : RigState} {root : Root} {x : FirstLeaf} (can : CanUnload s root)
    (found : FoundFirst s a root.level root.block x) where
  -- what was there before it was found
  kept : CanRelease a root.level root.block
  kept = can_kept found.reads.goes.touches found.reads.kept (can_release can)

  tree_same : IsTrue s.device.told → TreeStays root.level s a root.block
  tree_same z = tree_stays [] s a found.reads.goes.touches z root.level root.block
      (apart_none (tree_blocks root.level s root.block)) (can.leads.told z).is

  found_session : IsTrue s.device.told → Session (tree_blocks root.level s root.block) s a
      (tree_blocks root.level a root.block)
  found_session z =
      let ks = tree_blocks root.level s root.block in
      session_as (tree_blocks root.level a root.block)
      (session_still ks found.reads.goes.sound found.reads.goes.touches (λ y. (can.told y).holds))
      (λ y. (tree_same y).blocks)

  found_loses : LosesNone (tree_blocks root.level s root.block) (tree_blocks root.level a root.block) s a
  found_loses =
      let ks = tree_blocks root.level s root.block in
      loses_as ks ks (tree_blocks root.level a root.block) s a
      (loses_still ks s a found.reads.same.used) (λ y. (tree_same y).blocks)

  -- It was emptied,
  pub first_emptied : {t : RigState} {c : Chain} → c ≡ empty_chain → StoredLeaf a t x.leaf c
      → EmptiedFirst s t root x
  first_emptied {t} {c} none stored =
      let S : Chain → Type 0 = StoredLeaf a t x.leaf in
      let w = subst S none stored in
      let told = found.reads.goes.touches.told in
      let g = w.moves.goes in
      let h = touches_after (x.leaf ∷ []) s a t found.reads.goes.touches g.touches in
      let e = λ (z : IsTrue s.device.told). leaf_emptied found.reads.goes.sound kept found.chain
      found.fork_leads w (told ∙ z) (found.told z) in
      let back : IsTrue a.device.told → IsTrue s.device.told = λ y. sym told ∙ y in
      let cs = chain_blocks a x.stored in
      let apart : IsTrue a.device.told → Apart cs (x.leaf ∷ []) = λ y.
      chain_apart found.reads.goes.sound kept found.chain found.fork_leads w y (found.told (back y)) in
      let used1 = found.reads.same.used in
      let used2 = w.moves.same.used in
      let moves1 = found.reads.moves in
      let moves2 = w.moves.moves in
      record {
        session = session_by g.sound h (λ z. session_trans (found_session z) (e z).session);
        frames = same_frames_then s.pool a.pool t.pool found.reads.goes.frames g.frames;
        pays = pays_kept 0 (omega (arith, used1, used2)) h.moves;
        loses = λ z. loses_then (tree_blocks root.level s root.block) (tree_blocks root.level a root.block)
            (chain_blocks t x.stored ++ tree_blocks root.level t root.block) s a t told found_loses
            (e z).loses z;
        peaks = peaks_then 0 (peaks_same 0 found.reads.same) (peaks_same 0 w.moves.same) (omega arith);
        moves = omega (arith, moves1, moves2);
        chain = leaf_chain_stays g.touches
            (chain_stays (x.leaf ∷ []) a t x.stored g.touches apart found.chain.chain) found.chain;
        leads = leads_by h can.leads.in_use (λ z. (e z).stands);
        fork_leads = fork_left x.fork g.touches found.fork_leads (λ y. (e (back y)).stands)
            (λ y. (e (back y)).last);
        told = λ z.
            let r = e z in
            let same = (tree_same z).tree in
            record {
              items = r.items ∙ ap first_leaf same;
              reads = r.reads ∙ ap (λ (y : Tree). with_first_leaf y []) same;
              left = unloadable_by root (h.told ∙ z) r.stands.is r.waits
                  (held_second (chain_blocks t x.stored) (tree_blocks root.level t root.block)
                  (r.session.holds (told ∙ z)));
              last = r.last;
            };
      }

  -- or couldn't be,
  pub first_unstored : {t : RigState} {fault : EmFault} → StopsLeaf a t x.leaf fault
      → StopsWithin (root.level + 2) s t root fault
  first_unstored {t} {fault} w =
      let g = w.moves.goes in
      let ks = tree_blocks root.level s root.block in
      let used1 = found.reads.same.used in
      let used2 = w.moves.same.used in
      let moves1 = found.reads.moves in
      let moves2 = w.moves.moves in
      let later1 = found.reads.goes.touches.moves in
      let later2 = g.touches.moves in
      record {
        goes = goes_trans ks (x.leaf ∷ []) s a t
            (goes_wider ks [] s a (record { off = λ z j u o. tt }) found.reads.goes) g
            (λ z k u o.
            (let O : List ℕ → Type 0 = Off k in
            let all = subst O (sym (tree_same z).blocks) o in
            ((way_off (found.told z).leaf k all).0, tt)));
        pays = pays_kept 0 (omega (arith, used1, used2)) (omega (arith, later1, later2));
        peaks = peaks_then 0 (peaks_same 0 found.reads.same) (peaks_same 0 w.moves.same) (omega arith);
        cause = cause_then s a t fault found.reads.goes.touches.faults w.cause;
        moves = λ z. omega (arith, moves1, moves2);
      }

-- or it couldn't be found.
pub first_unfound : {s t : RigState} {root : Root} {fault : EmFault}
    → StopsReading (root.level + 1) s t fault → StopsWithin (root.level + 2) s t root fault
first_unfound {s} {t} {root} h =
    let used = h.reads.same.used in
    let moves = h.reads.moves in
    record {
      goes = goes_wider (tree_blocks root.level s root.block) [] s t (record { off = λ z j u o. tt })
          h.reads.goes;
      pays = pays_kept 0 (omega (arith, used)) h.reads.goes.touches.moves;
      peaks = peaks_same 0 h.reads.same;
      cause = h.cause;
      moves = λ z. omega (arith, moves);
    }

-- A fault that is handed on.
pub empties_of : (s t : RigState) (root : Root) (result : Result FirstLeaf EmFault) (e : EmFault)
    → IsErrAnd result (λ m. m ≡ e) → StopsWithin (root.level + 2) s t root e → EmptiesFirst s t root result
empties_of s t root (Ok p) e h x = absurd h
empties_of s t root (Err m) e h x =
    subst (λ (f : EmFault). StopsWithin (root.level + 2) s t root f) (sym h) x
