-- What became of a leaf, stored together with the node over it.
use Rattle.std.proofs.Common.{◌≡◌, ℕ, ◌*◌, List, [], ◌∷◌, refl, sym, ap, ◌∙◌, subst, arith, IsTrue, Option, Some, None, IfSome, Result, Ok, Err, IsErrAnd}
use Rattle.em_record.specs.Shape.{ShapeNumbers, fan_of}
use Rattle.em_record.specs.declared.record.Record.{Record}
use Rattle.em_space.specs.Free.{Off, header}
use Rattle.em_space.specs.Rig.{RigState, Sound, InUse, Touches}
use Rattle.em_space.specs.declared.fault.EmFault.{EmFault}
use Rattle.em_space.specs.declared.fault.EmFault.TheVariants.{Damaged}
use Rattle.em_space.proofs.Held.{in_use_below, in_use_kept}
use Rattle.em_space.proofs.Paying.{pays_kept}
use Rattle.em_space.proofs.Steps.{block_cause, goes_nothing, untold_by}
use Rattle.em_space.proofs.Within.{within_same}
use Rattle.em_chain.specs.Chain.{payload_in}
use Rattle.em_chain.specs.Counts.{ceiling}
use Rattle.em_chain.specs.declared.chain.Chain.{Chain}
use Rattle.em_chain.proofs.Keeps.{payload_kept}
use Rattle.em_frames.specs.Device.{block_at}
use Rattle.em_node.specs.declared.entry.Entry.{Entry}
use Rattle.em_node.specs.Node.{IsNodeBlock, entries_of}
use Rattle.em_leaf.specs.declared.change.LeafChange.{LeafChange}
use Rattle.em_tree_blocks.specs.Node.{leaf_chain}
use Rattle.em_tree_blocks.proofs.Frames.{block_same, node_stays}
use Rattle.em_tree_walk.specs.Inserted.{CanFollow}
use Rattle.em_tree_load.specs.LeafChanges.{IsLeafOf, HasExactBlocks, StopsNewLeaf, StoredEntries, StoredNewLeaf, divided_at, rebuffered_at}
use Rattle.em_tree_load.specs.Leaves.{MovesLeaf, StopsLeaf, StoredLeaf}
use Rattle.em_tree_load.specs.NodeLoads.{CanChange, ChangedLeaf, ChangesLeaf, StopsChanging}
use Rattle.em_tree_walk.specs.Paid.{RunsPaid, StopsPaid}
use Rattle.em_tree_load.specs.declared.changing.Split.{Split}
use Rattle.em_tree_walk.proofs.Losses.{loses_still}
use Rattle.em_tree_load.proofs.Payments.{paid_none, paid_part, paid_stops, still_stops, stops_paid_more}
use Rattle.em_tree_load.proofs.FirstSettles.{tally_refl}
use Rattle.em_tree_walk.proofs.Regions.{SameTally}

-- A block was stored,
pub block_moved : {s t : RigState} {k : ℕ} → MovesLeaf s t k → InUse t k
    → RunsPaid (k ∷ []) (k ∷ []) 0 0 s t
block_moved {s} {t} {k} m u =
    let used = m.same.used in
    let later = m.goes.touches.moves in
    record {
      session = record {
        sound = m.goes.sound;
        touches = m.goes.touches;
        within = within_same s (k ∷ []);
        holds = λ z. record { in_use = (u, tt); distinct = λ y. (tt, tt) };
      };
      frames = m.goes.frames;
      pays = pays_kept 0 (omega (arith, used)) later;
      loses = loses_still (k ∷ []) s t used;
    }

-- or couldn't be.
pub block_stops : {s t : RigState} {k : ℕ} {fault : EmFault} → StopsLeaf s t k fault
    → StopsPaid (k ∷ []) 0 0 s t fault
block_stops {s} {t} {k} {fault} x =
    let used = x.moves.same.used in
    let later = x.moves.goes.touches.moves in
    record {
      goes = x.moves.goes;
      pays = pays_kept 0 (omega (arith, used)) later;
      cause = block_cause s t fault x.cause;
    }

-- A leaf's block over a call on others.
pub leaf_of_kept : (held : List ℕ) (s t : RigState) (k : ℕ) (c : Chain) → Touches held s t
    → IsTrue s.device.told → Off k held → IsLeafOf s k c → IsLeafOf t k c
leaf_of_kept held s t k c h z o x =
    let same = block_same held s t h z k x.in_use o in
    record {
      in_use = in_use_kept held s t k h (λ y. o) x.in_use;
      head = ap header same ∙ x.head;
      chain = ap (λ (p : ℕ). leaf_chain p (block_at t.device k)) (payload_kept held s t h)
          ∙ (ap (leaf_chain (payload_in s)) same ∙ x.chain);
    }

-- orders of two and three blocks
two_turned : (a b : ℕ) → SameTally (a ∷ b ∷ []) (b ∷ a ∷ [])
two_turned a b j = omega arith

third_first : (a b c : ℕ) → SameTally (a ∷ b ∷ c ∷ []) (c ∷ a ∷ b ∷ [])
third_first a b c j = omega arith

-- a node's block in another state
pub node_later : {s t : RigState} {b : List Record} (held : List ℕ) → Touches held s t
    → IsNodeBlock (2 * fan_of s.pool.shape) s.blocks b
    → IsNodeBlock (2 * fan_of t.pool.shape) t.blocks b
node_later {s} {t} {b} held h n =
    let P : ShapeNumbers → Type 0 = λ sh. IsNodeBlock (2 * fan_of sh) s.blocks b in
    let Q : ℕ → Type 0 = λ k. IsNodeBlock (2 * fan_of t.pool.shape) k b in
    subst Q (sym h.blocks) (subst P (sym h.shape) n)

module _ {m : RigState} {leaf node i : ℕ} {es : List Entry} {change : LeafChange}
    (sound : Sound m) (leaf_used : InUse m leaf) (node_used : InUse m node)
    (can : IsTrue m.device.told → CanChange m leaf node i es change) where
  -- the two blocks are two
  leaf_off : IsTrue m.device.told → Off leaf (node ∷ [])
  leaf_off z = ((can z).holds.distinct z).0

  node_off : IsTrue m.device.told → Off node (leaf ∷ [])
  node_off z = (λ e. (leaf_off z).0 (sym e), tt)

  -- each is still in use once the other was stored
  pub leaf_in_use : {l : RigState} → Touches (node ∷ []) m l → InUse l leaf
  leaf_in_use {l} h = in_use_kept (node ∷ []) m l leaf h leaf_off leaf_used

  two_held : RunsPaid (leaf ∷ node ∷ []) (leaf ∷ node ∷ []) 0 0 m m
  two_held = paid_none m (leaf ∷ node ∷ []) 0 sound (λ z. (can z).holds)

  -- The node was stored first.
  node_runs : {l : RigState} {level : ℕ} {fs : List Entry} → StoredEntries m l node level fs
      → RunsPaid (leaf ∷ node ∷ []) (node ∷ leaf ∷ []) 0 0 m l
  node_runs x = paid_part (node ∷ []) (node ∷ []) (leaf ∷ []) 0 refl two_held
      (λ z. two_turned leaf node) (block_moved x.moves x.in_use)

  -- The low part is in the leaf's block, and the rest of the buffer in the node's entry.
  pub kept_leaf : {l t : RigState} {level : ℕ} {rest : Chain} → change.high ≡ None
      → StoredEntries m l node level (rebuffered_at i rest es)
      → StoredLeaf l t leaf change.low → ChangedLeaf m t leaf node level i es change rest None
  kept_leaf {l} {t} {level} {rest} none x y =
      let one = x.moves.moves in
      let two = y.moves.moves in
      let h = x.moves.goes.touches in
      let g = y.moves.goes.touches in
      let payload : payload_in l ≡ payload_in m = payload_kept (node ∷ []) m l h in
      let W : ℕ → Type 0 = λ p. change.low.blocks ≡ ceiling change.low.count p in
      record {
        news = [];
        runs = paid_part (leaf ∷ []) (leaf ∷ []) (node ∷ []) 0 refl (node_runs x)
            (λ z. two_turned node leaf) (block_moved y.moves y.in_use);
        moves = omega (arith, one, two);
        told = λ z. let v : IsTrue l.device.told = h.told ∙ z in (
          refl,
          record {
            none = none;
            low = record {
              in_use = y.in_use;
              head = y.head v;
              chain = y.is v (subst W (sym payload) (can z).low_whole);
            };
            node_is = node_stays (leaf ∷ []) l t g v level node (node_off z) (x.node_is z);
            entries = ap (λ (b : List Record). entries_of b)
                (block_same (leaf ∷ []) l t g v node x.in_use (node_off z)) ∙ x.entries z;
          },
        );
        rest_is = tt;
      }

  -- The node couldn't be stored, or the leaf's block after it.
  pub node_unstored : {l : RigState} {fault : EmFault} → StopsLeaf m l node fault
      → StopsChanging m l leaf node fault
  node_unstored x =
      let one = x.moves.moves in
      record {
        stops = stops_paid_more (leaf ∷ node ∷ []) 1 (omega arith)
            (paid_stops (node ∷ []) (leaf ∷ []) 0 refl two_held (λ z. two_turned leaf node)
            (block_stops x)) (λ z. tally_refl (leaf ∷ node ∷ []));
        moves = omega (arith, one);
      }

  pub leaf_unstored : {l t : RigState} {level : ℕ} {fs : List Entry} {fault : EmFault}
      → StoredEntries m l node level fs → StopsLeaf l t leaf fault
      → StopsChanging m t leaf node fault
  leaf_unstored x y =
      let one = x.moves.moves in
      let two = y.moves.moves in
      record {
        stops = stops_paid_more (leaf ∷ node ∷ []) 1 (omega arith)
            (paid_stops (leaf ∷ []) (node ∷ []) 0 refl (node_runs x) (λ z. two_turned node leaf)
            (block_stops y)) (λ z. tally_refl (leaf ∷ node ∷ []));
        moves = omega (arith, one, two);
      }

  -- The key of a new leaf isn't where it must be, which only a device allows that doesn't tell.
  pub unfollowed : {key : Record} {stored : Chain} → change.high ≡ Some (key, stored)
      → (CanFollow i key es → ⊥) → StopsChanging m m leaf node (Damaged node)
  unfollowed {key} {stored} some none =
      let P : Option (Record × Chain) → Type 0 = λ o. IfSome o (λ p. CanFollow i p.0 es) in
      record {
        stops = still_stops (leaf ∷ node ∷ []) 0 1 (omega arith) (goes_nothing m sound) refl (
          untold_by m.device.told (λ z. none (subst P some (can z).follow)),
          in_use_below m node sound node_used,
        );
        moves = omega arith;
      }

  -- No block could be had for a new leaf.
  pub new_unstored : {a : RigState} {fault : EmFault} → StopsNewLeaf m a fault
      → StopsChanging m a leaf node fault
  new_unstored x =
      let moves = x.moves in
      record {
        stops = stops_paid_more (leaf ∷ node ∷ []) 1 (omega arith)
            (paid_stops [] (leaf ∷ node ∷ []) 0 refl two_held
            (λ z. tally_refl (leaf ∷ node ∷ [])) x.stops) (λ z. tally_refl (leaf ∷ node ∷ []));
        moves = omega (arith, moves);
      }

  module _ {a : RigState} {stored : Chain} {new : ℕ} (x : StoredNewLeaf m a stored new) where
    new_held : RunsPaid (leaf ∷ node ∷ []) (new ∷ leaf ∷ node ∷ []) 0 0 m a
    new_held = paid_part [] (new ∷ []) (leaf ∷ node ∷ []) 0 refl two_held
        (λ z. tally_refl (leaf ∷ node ∷ [])) x.runs

    pub node_in_use : InUse a node
    node_in_use = in_use_kept [] m a node x.runs.session.touches (λ z. tt) node_used

    node_after_new : {l : RigState} {level : ℕ} {fs : List Entry} → StoredEntries a l node level fs
        → RunsPaid (leaf ∷ node ∷ []) (node ∷ new ∷ leaf ∷ []) 0 0 m l
    node_after_new y = paid_part (node ∷ []) (node ∷ []) (new ∷ leaf ∷ []) 0 refl new_held
        (λ z. third_first new leaf node) (block_moved y.moves y.in_use)

    pub leaf_in_use_after : {l : RigState} {level : ℕ} {fs : List Entry}
        → StoredEntries a l node level fs → InUse l leaf
    leaf_in_use_after {l} y =
        let h = x.runs.session.touches in
        in_use_kept (node ∷ []) a l leaf y.moves.goes.touches (λ z. leaf_off (sym h.told ∙ z))
        (in_use_kept [] m a leaf h (λ z. tt) leaf_used)

    pub two_unstored : {l : RigState} {fault : EmFault} → StopsLeaf a l node fault
        → StopsChanging m l leaf node fault
    two_unstored y =
        let zero_moves = x.moves in
        let one = y.moves.moves in
        record {
          stops = stops_paid_more (leaf ∷ node ∷ []) 1 (omega arith)
              (paid_stops (node ∷ []) (new ∷ leaf ∷ []) 0 refl new_held
              (λ z. third_first new leaf node) (block_stops y))
              (λ z. tally_refl (leaf ∷ node ∷ []));
          moves = omega (arith, zero_moves, one);
        }

    pub last_unstored : {l t : RigState} {level : ℕ} {fs : List Entry} {fault : EmFault}
        → StoredEntries a l node level fs → StopsLeaf l t leaf fault
        → StopsChanging m t leaf node fault
    last_unstored y v =
        let zero_moves = x.moves in
        let one = y.moves.moves in
        let two = v.moves.moves in
        record {
          stops = stops_paid_more (leaf ∷ node ∷ []) 1 (omega arith)
              (paid_stops (leaf ∷ []) (node ∷ new ∷ []) 0 refl (node_after_new y)
              (λ z. third_first node new leaf) (block_stops v))
              (λ z. tally_refl (leaf ∷ node ∷ []));
          moves = omega (arith, zero_moves, one, two);
        }

    -- Both parts are stored, and an entry more leads to the second.
    pub parted_leaf : {l t : RigState} {level : ℕ} {rest : Chain} {key : Record}
        → change.high ≡ Some (key, stored)
        → StoredEntries a l node level (divided_at i key new es)
        → StoredLeaf l t leaf change.low
        → ChangedLeaf m t leaf node level i es change rest (Some (record { low = key; rest = rest }))
    parted_leaf {l} {t} {level} {rest} {key} some y v =
        let zero_moves = x.moves in
        let one = y.moves.moves in
        let two = v.moves.moves in
        let f = x.runs.session.touches in
        let h = y.moves.goes.touches in
        let g = v.moves.goes.touches in
        let pa : payload_in a ≡ payload_in m = payload_kept [] m a f in
        let pl : payload_in l ≡ payload_in a = payload_kept (node ∷ []) a l h in
        let W : ℕ → Type 0 = λ p. change.low.blocks ≡ ceiling change.low.count p in
        let runs = paid_part (leaf ∷ []) (leaf ∷ []) (node ∷ new ∷ []) 0 refl (node_after_new y)
        (λ z. third_first node new leaf) (block_moved v.moves v.in_use) in
        let H : Option (Record × Chain) → Type 0 = λ o. IfSome o (λ p. HasExactBlocks m p.1) in
        record {
          news = new ∷ [];
          runs = runs;
          moves = omega (arith, zero_moves, one, two);
          told = λ z.
              let za : IsTrue a.device.told = f.told ∙ z in
              let zl : IsTrue l.device.told = h.told ∙ za in
              let d = (runs.session.holds z).distinct (g.told ∙ zl) in
              let new_node : Off new (node ∷ []) = (λ e. d.1.0.0 (sym e), tt) in
              let new_leaf : Off new (leaf ∷ []) = (λ e. d.0.1.0 (sym e), tt) in
              let first = x.is z (subst H some (can z).high_whole) in
              let second = leaf_of_kept (node ∷ []) a l new stored h za new_node first in (
                new,
                refl,
                record {
                  stored = stored;
                  some = some;
                  low = record {
                    in_use = v.in_use;
                    head = v.head zl;
                    chain = v.is zl (subst W (sym (pl ∙ pa)) (can z).low_whole);
                  };
                  high = leaf_of_kept (leaf ∷ []) l t new stored g zl new_leaf second;
                  node_is = node_stays (leaf ∷ []) l t g zl level node (node_off z) (y.node_is za);
                  entries = ap (λ (b : List Record). entries_of b)
                      (block_same (leaf ∷ []) l t g zl node y.in_use (node_off z)) ∙ y.entries za;
                },
              );
          rest_is = refl;
        }

pub changes_of : (s t : RigState) (leaf node level i : ℕ) (es : List Entry) (change : LeafChange)
    (rest : Chain) (result : Result (Option Split) EmFault) (e : EmFault)
    → IsErrAnd result (λ m. m ≡ e) → StopsChanging s t leaf node e
    → ChangesLeaf s t leaf node level i es change rest result
changes_of s t leaf node level i es change rest (Ok x) e h y = absurd h
changes_of s t leaf node level i es change rest (Err m) e h y =
    subst (λ (f : EmFault). StopsChanging s t leaf node f) (sym h) y
