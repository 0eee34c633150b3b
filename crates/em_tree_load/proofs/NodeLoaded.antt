-- A load of a leaf, seen from the node over it.
use Rattle.std.proofs.Common.{◌≡◌, ℕ, zero, suc, ◌+◌, ◌≤◌, min, List, [], ◌∷◌, ◌++◌, drop, get_or, length, take, refl, sym, ap, ◌∙◌, subst, arith, IsTrue, Option, Some, None, IfSome}
use Rattle.em_record.specs.Order.{in_order}
use Rattle.em_record.specs.declared.record.Record.{Record}
use Rattle.em_frames.specs.Pool.{load_of}
use Rattle.em_space.specs.Held.{Apart}
use Rattle.em_space.specs.Rig.{RigState, Sound, Touches}
use Rattle.em_space.proofs.Lists.{apart_left, apart_right, apart_sym, distinct_apart}
use Rattle.em_chain.specs.Chain.{ChainStays, IsChain, IsPacked, chain_blocks, chain_items, payload_in}
use Rattle.em_chain.specs.Writer.{WriterStays, writer_blocks}
use Rattle.em_chain.specs.declared.chain.Chain.{Chain}
use Rattle.em_chain.specs.declared.writer.Writer.{Writer}
use Rattle.em_chain.proofs.Counts.{packed_blocks}
use Rattle.em_node.specs.declared.entry.Entry.{Entry}
use Rattle.em_node.specs.Node.{no_entry}
use Rattle.em_settle.specs.declared.step.Step.{Step}
use Rattle.em_leaf.specs.Effects.{IsSplit, loaded_blocks}
use Rattle.em_leaf.specs.Leaf.{IsHighChain, high_blocks, leaf_most}
use Rattle.em_leaf.specs.declared.change.LeafChange.{LeafChange}
use Rattle.em_leaf.proofs.Entries.{loads_cut, loads_whole, order_same}
use Rattle.em_leaf.proofs.Loading.{load_some}
use Rattle.em_tree_model.specs.Tree.Tree.{entry as entry_part, leaf as leaf_part}
use Rattle.em_tree_blocks.specs.Node.{buffer_of, linked_block}
use Rattle.em_tree_blocks.specs.Reading.{IsLeafAt, entries_at, leaf_items, row_blocks, stored_chain, tree_at, tree_blocks}
use Rattle.em_tree_walk.specs.Inserted.{CanFollow}
use Rattle.em_tree_load.specs.LeafChanges.{IsLeafOf, HasExactBlocks, rebuffered_at}
use Rattle.em_tree_load.specs.LeafLoads.{CanLoadLeaf, IsLoadable, entry_in, loading_over, taken_of, waiting_over}
use Rattle.em_tree_load.specs.LeafSettles.{AreApart, SettledFirst, load_count, settling_blocks}
use Rattle.em_tree_load.specs.NodeLoads.{CanChange, ChangedLeaf, KeepsLeaf, LoadedHere}
use Rattle.em_tree_walk.specs.Paid.{RunsPaid}
use Rattle.em_tree_walk.proofs.Children.{entries_around, row_blocks_append}
use Rattle.em_tree_walk.proofs.Kept.{EntryStands, NodeStands, each_at, node_entries, node_formed, node_stands}
use Rattle.em_tree_load.proofs.LeafRanges.{child_in_range, split_follows}
use Rattle.em_tree_load.proofs.Payments.{paid_none, paid_part, paid_same}
use Rattle.em_tree_walk.proofs.Regions.{SameTally, distinct_same, held_first, held_second, holds_same, tally, tally_append}
use Rattle.std.proofs.lemmas.List.{append-nil}
use Rattle.std.proofs.lemmas.List.Sorted.{length_permutation}
use Rattle.em_record.specs.Shape.{ShapeNumbers}
use Rattle.em_record.proofs.Order.{order_ascends}
use Rattle.em_space.proofs.Apart.{off_left, off_right}
use Rattle.em_space.proofs.Paying.{pays_more}
use Rattle.em_space.proofs.Steps.{touches_both, touches_wider}
use Rattle.em_chain.specs.Counts.{ceiling}
use Rattle.em_chain.specs.Session.{Wrote}
use Rattle.em_chain.proofs.Keeps.{has_kept}
use Rattle.em_chain.proofs.Laws.{chain_stays, writer_stays}
use Rattle.em_chain.proofs.Readers.{length_items}
use Rattle.em_chain.proofs.Sessions.{wrote_stays, wrote_then}
use Rattle.em_settle.specs.Keys.{record_at}
use Rattle.em_settle.specs.Lists.{list_with_ops}
use Rattle.em_settle.specs.States.{answers_to}
use Rattle.em_leaf.proofs.Counted.{length_after as list_after_length}
use Rattle.em_empty.specs.Node.{with_buffer}
use Rattle.em_tree_model.specs.Places.{put_at}
use Rattle.em_tree_blocks.specs.Effects.{entry_place, row_from}
use Rattle.em_tree_load.specs.declared.changing.Split.{Split}
use Rattle.em_tree_load.proofs.RowChanges.{blocks_changed, node_after, row_changed, set_around}

-- A node's blocks and those of the answers: those of settling first,
gather : (n f : ℕ) (a b c d w row : List ℕ) → row ≡ a ++ (b ++ ((f ∷ c) ++ d))
    → SameTally ((n ∷ row) ++ w) ((b ++ (w ++ c)) ++ (f ∷ n ∷ (a ++ d)))
gather n f a b c d w row e j =
    let r = ap (λ (ks : List ℕ). tally j ks) e in
    let e1 = tally_append j (n ∷ row) w in
    let e2 = tally_append j a (b ++ ((f ∷ c) ++ d)) in
    let e3 = tally_append j b ((f ∷ c) ++ d) in
    let e4 = tally_append j (f ∷ c) d in
    let e5 = tally_append j (b ++ (w ++ c)) (f ∷ n ∷ (a ++ d)) in
    let e6 = tally_append j b (w ++ c) in
    let e7 = tally_append j w c in
    let e8 = tally_append j a d in
    omega (arith, r, e1, e2, e3, e4, e5, e6, e7, e8)

-- or those of the other entries.
gather_others : (n f : ℕ) (a b c d w row : List ℕ) → row ≡ a ++ (b ++ ((f ∷ c) ++ d))
    → SameTally ((n ∷ row) ++ w) ((a ++ d) ++ ((b ++ (w ++ c)) ++ (f ∷ n ∷ [])))
gather_others n f a b c d w row e j =
    let r = ap (λ (ks : List ℕ). tally j ks) e in
    let e1 = tally_append j (n ∷ row) w in
    let e2 = tally_append j a (b ++ ((f ∷ c) ++ d)) in
    let e3 = tally_append j b ((f ∷ c) ++ d) in
    let e4 = tally_append j (f ∷ c) d in
    let e5 = tally_append j (a ++ d) ((b ++ (w ++ c)) ++ (f ∷ n ∷ [])) in
    let e6 = tally_append j (b ++ (w ++ c)) (f ∷ n ∷ []) in
    let e7 = tally_append j b (w ++ c) in
    let e8 = tally_append j w c in
    let e9 = tally_append j a d in
    omega (arith, r, e1, e2, e3, e4, e5, e6, e7, e8, e9)

-- the blocks of the entries before a place, and of those after it
abbrev pub blocks_beside : RigState → ℕ → ℕ → List ℕ
blocks_beside s node i = row_blocks (tree_blocks zero s) s (take i (entries_at s node))
    ++ row_blocks (tree_blocks zero s) s (drop (suc i) (entries_at s node))

module _ {key : Record → Record} {s : RigState} {node i : ℕ} {w : Writer}
    (o : IsLoadable key s node i w) where
  pub loaded_node : NodeStands zero s node
  loaded_node = node_entries zero s node o.stands o.formed

  pub loaded_entry : EntryStands zero s (entry_in s node i)
  loaded_entry = each_at (EntryStands zero s) (entries_at s node) i o.one loaded_node.each

  loaded_row : (let e = entry_in s node i in let es = entries_at s node in
      let k = linked_block e.child in
      row_blocks (tree_blocks zero s) s es ≡ row_blocks (tree_blocks zero s) s (take i es)
      ++ (chain_blocks s (buffer_of e) ++ ((k ∷ chain_blocks s (stored_chain s k))
      ++ row_blocks (tree_blocks zero s) s (drop (suc i) es))))
  loaded_row =
      let es = entries_at s node in
      ap (row_blocks (tree_blocks zero s) s) (entries_around es i o.one)
      ∙ row_blocks_append (tree_blocks zero s) s (take i es) (get_or es i no_entry ∷ drop (suc i) es)

  -- The blocks of settling come first.
  pub settling_first : (let e = entry_in s node i in let k = linked_block e.child in
      SameTally (loading_over s node w) (settling_blocks s (stored_chain s k) (buffer_of e) w
      ++ (k ∷ node ∷ blocks_beside s node i)))
  settling_first =
      let e = entry_in s node i in
      let es = entries_at s node in
      let k = linked_block e.child in
      gather node k (row_blocks (tree_blocks zero s) s (take i es)) (chain_blocks s (buffer_of e))
      (chain_blocks s (stored_chain s k)) (row_blocks (tree_blocks zero s) s (drop (suc i) es))
      (writer_blocks s w) (row_blocks (tree_blocks zero s) s es) loaded_row

  -- The other entries' blocks are apart from them.
  pub beside_apart : IsTrue s.device.told → (let e = entry_in s node i in
      let k = linked_block e.child in Apart (blocks_beside s node i)
      (settling_blocks s (stored_chain s k) (buffer_of e) w ++ (k ∷ node ∷ [])))
  beside_apart z =
      let e = entry_in s node i in
      let es = entries_at s node in
      let k = linked_block e.child in
      let inner = settling_blocks s (stored_chain s k) (buffer_of e) w ++ (k ∷ node ∷ []) in
      let turned = gather_others node k (row_blocks (tree_blocks zero s) s (take i es))
      (chain_blocks s (buffer_of e)) (chain_blocks s (stored_chain s k))
      (row_blocks (tree_blocks zero s) s (drop (suc i) es)) (writer_blocks s w)
      (row_blocks (tree_blocks zero s) s es) loaded_row in
      distinct_apart (blocks_beside s node i) inner
      (distinct_same (loading_over s node w) (blocks_beside s node i ++ inner) turned
      (o.holds.distinct z))

  -- The buffer can be settled over the leaf.
  pub loaded_apart : (let e = entry_in s node i in
      AreApart key s (stored_chain s (linked_block e.child)) (buffer_of e) w)
  loaded_apart =
      let e = entry_in s node i in
      let k = linked_block e.child in
      let settling = settling_blocks s (stored_chain s k) (buffer_of e) w in
      record {
        rises = (child_in_range key (tree_at zero s) s (entries_at s node) i o.lo o.hi o.one o.is).1;
        tight = loaded_entry.form;
        holds = held_first settling (k ∷ node ∷ blocks_beside s node i)
            (holds_same (loading_over s node w)
            (settling ++ (k ∷ node ∷ blocks_beside s node i)) settling_first o.holds);
      }

-- The same of a leaf and a buffer that are the entry's.
pub settling_turned : {key : Record → Record} {s : RigState} {node i leaf : ℕ} {w : Writer}
    {buffer : Chain} → CanLoadLeaf key s node i w
    → (IsTrue s.device.told → leaf ≡ linked_block (entry_in s node i).child)
    → (IsTrue s.device.told → buffer ≡ buffer_of (entry_in s node i))
    → IsTrue s.device.told → SameTally (loading_over s node w)
    (settling_blocks s (stored_chain s leaf) buffer w ++ (leaf ∷ node ∷ blocks_beside s node i))
settling_turned {key} {s} {node} {i} {leaf} {w} {buffer} can leaf_is buffer_is z =
    let P : ℕ → Type 0 = λ k. SameTally (loading_over s node w)
    (settling_blocks s (stored_chain s k) (buffer_of (entry_in s node i)) w
    ++ (k ∷ node ∷ blocks_beside s node i)) in
    let Q : Chain → Type 0 = λ c. SameTally (loading_over s node w)
    (settling_blocks s (stored_chain s leaf) c w ++ (leaf ∷ node ∷ blocks_beside s node i)) in
    subst Q (sym (buffer_is z)) (subst P (sym (leaf_is z)) (settling_first (can.told z)))

module _ {key : Record → Record} {s m : RigState} {node i leaf : ℕ} {w v : Writer}
    {buffer rest : Chain} {change : LeafChange} {more : ℕ} (sound : Sound s)
    (can : CanLoadLeaf key s node i w)
    (leaf_is : IsTrue s.device.told → leaf ≡ linked_block (entry_in s node i).child)
    (buffer_is : IsTrue s.device.told → buffer ≡ buffer_of (entry_in s node i))
    (step : Option Record → Record → Step)
    (h : SettledFirst key step s m (stored_chain s leaf) buffer w v change rest more) where
  -- What is held once the load was settled.
  pub settled_runs : RunsPaid (loading_over s node w)
      ((chain_blocks m rest ++ loaded_blocks m change v) ++ (leaf ∷ node ∷ blocks_beside s node i))
      (min w.blocks 1) (min v.blocks 1 + 0) s m
  settled_runs =
      paid_part (settling_blocks s (stored_chain s leaf) buffer w)
      (chain_blocks m rest ++ loaded_blocks m change v) (leaf ∷ node ∷ blocks_beside s node i) 0
      (omega arith)
      (paid_none s (loading_over s node w) (min w.blocks 1) sound (λ z. (can.told z).holds))
      (settling_turned can leaf_is buffer_is) h.runs

  high_whole : (p : Option (Record × Chain)) → IsTrue m.device.told → IsHighChain m p
      → IfSome p (λ x. HasExactBlocks m x.1)
  high_whole None z x = tt
  high_whole (Some p) z x =
      packed_blocks m p.1 h.runs.session.sound.shape.block_low x.chain z (x.packed z)

  high_follows : (keeps_key : (old : Option Record) (op new : Record)
      → IfSome old (λ r. key r ≡ key op) → (step old op).stored ≡ Some new → key new ≡ key op)
      → IsTrue s.device.told → (p : Option (Record × Chain)) → change.high ≡ p
      → IfSome p (λ x. CanFollow i x.0 (entries_at s node))
  high_follows keeps_key z None e = tt
  high_follows keeps_key z (Some p) e =
      let o = can.told z in
      let t = h.told z in
      let sh = h.runs.session.sound.shape in
      let cut = loads_cut key step s m (stored_chain s leaf) (in_order h.load) change p e
      (load_some m.pool.shape sh) t.settles in
      let leaf_here : tree_at zero s (linked_block (entry_in s node i).child)
      ≡ leaf_part (chain_items s (stored_chain s leaf)) =
      ap (tree_at zero s) (sym (leaf_is z)) in
      let items_here : chain_items s (buffer_of (entry_in s node i)) ≡ h.load ++ chain_items m rest =
      ap (chain_items s) (sym (buffer_is z)) ∙ t.items in
      let F : Record → Type 0 = λ k. CanFollow i k (entries_at s node) in
      subst F (sym cut.key_is)
      (split_follows key step keeps_key (tree_at zero s) s (entries_at s node) i o.lo o.hi
      (chain_items s (stored_chain s leaf)) h.load (chain_items m rest) cut.others cut.rest cut.first
      cut.second o.one o.is o.lows leaf_here items_here cut.all_are)

  -- The change can be stored.
  pub settled_change : (keeps_key : (old : Option Record) (op new : Record)
      → IfSome old (λ r. key r ≡ key op) → (step old op).stored ≡ Some new → key new ≡ key op)
      → (es : List Entry) → (IsTrue s.device.told → es ≡ entries_at s node)
      → IsTrue m.device.told → CanChange m leaf node i es change
  settled_change keeps_key es same z =
      let back : IsTrue s.device.told = sym h.runs.session.touches.told ∙ z in
      let all = settled_runs.session.holds back in
      let F : List Entry → Type 0 = λ fs. IfSome change.high (λ p. CanFollow i p.0 fs) in
      let low = h.leaves.low in
      record {
        holds = held_first (leaf ∷ node ∷ []) (blocks_beside s node i)
            (held_second (chain_blocks m rest ++ loaded_blocks m change v)
            (leaf ∷ node ∷ blocks_beside s node i) all);
        low_whole = packed_blocks m change.low h.runs.session.sound.shape.block_low low.chain z
            (low.packed z);
        high_whole = high_whole change.high z h.leaves.high;
        follow = subst F (sym (same back)) (high_follows keeps_key back change.high refl);
      }

-- A list of blocks that is apart from two lists.
apart_front : (xs ys zs : List ℕ) → Apart xs (ys ++ zs) → Apart xs ys
apart_front xs ys zs a =
    apart_sym ys xs (apart_left ys zs xs (apart_sym xs (ys ++ zs) a))

-- the two blocks first
pub two_first : (f n : ℕ) (ks bs : List ℕ) → SameTally (ks ++ (f ∷ n ∷ bs)) ((f ∷ n ∷ []) ++ (ks ++ bs))
two_first f n ks bs j =
    let e1 = tally_append j ks (f ∷ n ∷ bs) in
    let e2 = tally_append j ks bs in
    omega (arith, e1, e2)

-- what a leaf holds after a load that split none, and after one that did
kept_order : (f n : ℕ) (r l v a d : List ℕ)
    → SameTally ((f ∷ n ∷ []) ++ ((r ++ (l ++ ([] ++ v))) ++ (a ++ d)))
    ((n ∷ (a ++ ((r ++ ((f ∷ l) ++ [])) ++ d))) ++ v)
kept_order f n r l v a d j =
    let e1 = tally_append j (r ++ (l ++ ([] ++ v))) (a ++ d) in
    let e2 = tally_append j r (l ++ ([] ++ v)) in
    let e3 = tally_append j l ([] ++ v) in
    let e4 = tally_append j a d in
    let e5 = tally_append j (n ∷ (a ++ ((r ++ ((f ∷ l) ++ [])) ++ d))) v in
    let e6 = tally_append j a ((r ++ ((f ∷ l) ++ [])) ++ d) in
    let e7 = tally_append j (r ++ ((f ∷ l) ++ [])) d in
    let e8 = tally_append j r ((f ∷ l) ++ []) in
    let e9 = tally_append j (f ∷ l) [] in
    omega (arith, e1, e2, e3, e4, e5, e6, e7, e8, e9)

module _ {key : Record → Record} {s m t : RigState} {node i leaf : ℕ} {w v : Writer}
    {buffer rest : Chain} {change : LeafChange} {es : List Entry} {left : Option Split}
    (sound : Sound s) (can : CanLoadLeaf key s node i w)
    (leaf_is : IsTrue s.device.told → leaf ≡ linked_block (entry_in s node i).child)
    (buffer_is : IsTrue s.device.told → buffer ≡ buffer_of (entry_in s node i))
    (es_is : IsTrue s.device.told → es ≡ entries_at s node)
    (step : Option Record → Record → Step)
    (h : SettledFirst key step s m (stored_chain s leaf) buffer w v change rest 2)
    (x : ChangedLeaf m t leaf node 1 i es change rest left) where
  there : IsTrue s.device.told → IsTrue m.device.told
  there z = h.runs.session.touches.told ∙ z

  -- the parts of the load and the answers are apart from the two blocks
  parts_apart : IsTrue m.device.told
      → Apart (chain_blocks m rest ++ loaded_blocks m change v) (leaf ∷ node ∷ [])
  parts_apart z =
      let back : IsTrue s.device.told = sym h.runs.session.touches.told ∙ z in
      let all = settled_runs sound can leaf_is buffer_is step h in
      let parts = chain_blocks m rest ++ loaded_blocks m change v in
      apart_front parts (leaf ∷ node ∷ []) (blocks_beside s node i)
      (distinct_apart parts (leaf ∷ node ∷ blocks_beside s node i)
      ((all.session.holds back).distinct z))

  pub loaded_apart_from : IsTrue m.device.told → Apart (loaded_blocks m change v) (leaf ∷ node ∷ [])
  loaded_apart_from z = apart_right (chain_blocks m rest) (loaded_blocks m change v)
      (leaf ∷ node ∷ []) (parts_apart z)

  pub rest_stays : ChainStays m t rest
  rest_stays = chain_stays (leaf ∷ node ∷ []) m t rest x.runs.session.touches
      (λ z. apart_left (chain_blocks m rest) (loaded_blocks m change v) (leaf ∷ node ∷ [])
      (parts_apart z)) h.chain

  pub low_stays : ChainStays m t change.low
  low_stays = chain_stays (leaf ∷ node ∷ []) m t change.low x.runs.session.touches
      (λ z. apart_left (chain_blocks m change.low) (high_blocks m change.high ++ writer_blocks m v)
      (leaf ∷ node ∷ []) (loaded_apart_from z)) h.leaves.low.chain

  pub answers_stay : WriterStays m t v
  answers_stay = writer_stays (leaf ∷ node ∷ []) m t v x.runs.session.touches
      (λ z. apart_right (high_blocks m change.high) (writer_blocks m v) (leaf ∷ node ∷ [])
      (apart_right (chain_blocks m change.low) (high_blocks m change.high ++ writer_blocks m v)
      (leaf ∷ node ∷ []) (loaded_apart_from z)))
      (has_kept 1 (length v.frame) m.pool t.pool x.runs.frames h.wrote.is.frame) h.wrote.is

  pub answers_wrote : Wrote s t w v h.given
  answers_wrote =
      let P : List Record → Type 0 = Wrote s t w v in
      subst P (append-nil h.given)
      (wrote_then h.given [] h.wrote (wrote_stays x.runs.session.touches.told answers_stay))

  -- what may have changed
  abbrev pub changed_blocks : List ℕ
  changed_blocks = settling_blocks s (stored_chain s leaf) buffer w ++ (leaf ∷ node ∷ [])

  pub changed_touches : Touches changed_blocks s t
  changed_touches =
      let settling = settling_blocks s (stored_chain s leaf) buffer w in
      touches_both changed_blocks s m t
      (touches_wider changed_blocks settling s m h.runs.session.touches
      (λ z k u o. off_left k settling (leaf ∷ node ∷ []) o))
      (touches_wider changed_blocks (leaf ∷ node ∷ []) m t x.runs.session.touches
      (λ z k u o. off_right k settling (leaf ∷ node ∷ []) o))

  others_apart : IsTrue s.device.told → Apart (blocks_beside s node i) changed_blocks
  others_apart z =
      let e = entry_in s node i in
      let P : ℕ → Type 0 = λ k. Apart (blocks_beside s node i)
      (settling_blocks s (stored_chain s k) (buffer_of e) w ++ (k ∷ node ∷ [])) in
      let Q : Chain → Type 0 = λ c. Apart (blocks_beside s node i)
      (settling_blocks s (stored_chain s leaf) c w ++ (leaf ∷ node ∷ [])) in
      subst Q (sym (buffer_is z)) (subst P (sym (leaf_is z)) (beside_apart (can.told z) z))

  pub front_apart : IsTrue s.device.told
      → Apart (row_blocks (tree_blocks zero s) s (take i (entries_at s node))) changed_blocks
  front_apart z = apart_left (row_blocks (tree_blocks zero s) s (take i (entries_at s node)))
      (row_blocks (tree_blocks zero s) s (drop (suc i) (entries_at s node))) changed_blocks
      (others_apart z)

  pub back_apart : IsTrue s.device.told
      → Apart (row_blocks (tree_blocks zero s) s (drop (suc i) (entries_at s node))) changed_blocks
  back_apart z = apart_right (row_blocks (tree_blocks zero s) s (take i (entries_at s node)))
      (row_blocks (tree_blocks zero s) s (drop (suc i) (entries_at s node))) changed_blocks
      (others_apart z)

  -- what is held once the change was stored
  pub changed_runs : RunsPaid (loading_over s node w) ((leaf ∷ node ∷ x.news)
      ++ ((chain_blocks m rest ++ loaded_blocks m change v) ++ blocks_beside s node i))
      (min w.blocks 1) (min v.blocks 1) s t
  changed_runs =
      let parts = chain_blocks m rest ++ loaded_blocks m change v in
      let all = paid_part (leaf ∷ node ∷ []) (leaf ∷ node ∷ x.news)
      (parts ++ blocks_beside s node i) (min v.blocks 1) (omega arith)
      (settled_runs sound can leaf_is buffer_is step h)
      (λ z. two_first leaf node parts (blocks_beside s node i)) x.runs in
      record {
        session = all.session;
        frames = all.frames;
        pays = pays_more all.pays (omega arith);
        loses = all.loses;
      }

  -- A leaf's block with its chain, as a tree asks it.
  pub leaf_at : (k : ℕ) (c : Chain) → IsTrue t.device.told → IsLeafOf t k c → ChainStays m t c
      → (IsTrue m.device.told → IsPacked m c) → IsTrue m.device.told → IsLeafAt t k
  leaf_at k c y l st packed z =
      let C : Chain → Type 0 = IsChain t in
      let P : Chain → Type 0 = IsPacked t in
      record {
        in_use = l.in_use;
        head = l.head;
        stored = subst C (sym l.chain) st.is;
        packed = λ v. subst P (sym l.chain) (st.packed z (packed z));
      }

  pub count_is : IsTrue s.device.told
      → load_count s buffer ≡ taken_of s (length (waiting_over s node i))
  count_is z =
      let E : Chain → Type 0 = IsChain s in
      let chain = subst E (sym (buffer_is z)) (loaded_entry (can.told z)).chain in
      let n = length_items s buffer chain z in
      let e = ap (chain_items s) (buffer_is z) in
      ap (λ (k : ℕ). min k (load_of s.pool.shape))
      (sym n ∙ ap (λ (xs : List Record). length xs) e)

-- A load that split no leaf.
module _ {key : Record → Record} {s m t : RigState} {node i leaf : ℕ} {w v : Writer}
    {buffer rest : Chain} {change : LeafChange} {es : List Entry} (sound : Sound s)
    (can : CanLoadLeaf key s node i w)
    (leaf_is : IsTrue s.device.told → leaf ≡ linked_block (entry_in s node i).child)
    (buffer_is : IsTrue s.device.told → buffer ≡ buffer_of (entry_in s node i))
    (es_is : IsTrue s.device.told → es ≡ entries_at s node)
    (step : Option Record → Record → Step)
    (h : SettledFirst key step s m (stored_chain s leaf) buffer w v change rest 2)
    (x : ChangedLeaf m t leaf node 1 i es change rest None) where
  abbrev kept_entry : Entry
  kept_entry = with_buffer (entry_in s node i) rest

  kept : IsTrue s.device.told → KeepsLeaf m t leaf node 1 i es change rest
  kept z = (x.told (h.runs.session.touches.told ∙ z)).1

  kept_entries : IsTrue s.device.told → entries_at t node ≡ take i (entries_at s node)
      ++ ((kept_entry ∷ []) ++ drop (suc i) (entries_at s node))
  kept_entries z = (kept z).entries ∙ (ap (rebuffered_at i rest) (es_is z)
      ∙ set_around i (entries_at s node) kept_entry (can.told z).one)

  kept_leaf : IsTrue s.device.told → IsLeafOf t (linked_block (entry_in s node i).child) change.low
  kept_leaf z =
      let P : ℕ → Type 0 = λ k. IsLeafOf t k change.low in subst P (leaf_is z) (kept z).low

  kept_node : IsTrue s.device.told → NodeStands zero t node
  kept_node z =
      let zm : IsTrue m.device.told = h.runs.session.touches.told ∙ z in
      let zt : IsTrue t.device.told = x.runs.session.touches.told ∙ zm in
      let st = rest_stays sound can leaf_is buffer_is es_is step h x in
      let low = low_stays sound can leaf_is buffer_is es_is step h x in
      node_after (changed_blocks sound can leaf_is buffer_is es_is step h x) s t
      (changed_touches sound can leaf_is buffer_is es_is step h x) z node i (kept_entry ∷ [])
      (loaded_node (can.told z)) (front_apart sound can leaf_is buffer_is es_is step h x z)
      (back_apart sound can leaf_is buffer_is es_is step h x z) (kept_entries z) (kept z).node_is
      (omega arith) (
        record {
          chain = st.is;
          child = leaf_at sound can leaf_is buffer_is es_is step h x
              (linked_block (entry_in s node i).child) change.low zt (kept_leaf z) low
              h.leaves.low.packed zm;
          rows = tt;
          form = st.tight zm (h.told z).tight;
          formed = tt;
        },
        tt,
      )

  kept_items : IsTrue s.device.told
      → chain_items t (stored_chain t (linked_block (entry_in s node i).child))
      ≡ list_with_ops key step (leaf_items s (entry_in s node i)) (in_order h.load)
  kept_items z =
      let zm : IsTrue m.device.told = h.runs.session.touches.told ∙ z in
      let low = low_stays sound can leaf_is buffer_is es_is step h x in
      ap (chain_items t) (kept_leaf z).chain
      ∙ (low.items zm
      ∙ (loads_whole key step s m (stored_chain s leaf) (in_order h.load) change (kept z).none
      (h.told z).settles
      ∙ ap (λ (k : ℕ). list_with_ops key step (chain_items s (stored_chain s k)) (in_order h.load))
      (leaf_is z)))

  kept_tree : IsTrue s.device.told → tree_at 1 t node ≡ put_at (entry_place zero s node i)
      (entry_part (entry_in s node i).low (chain_items m rest)
      (leaf_part (list_with_ops key step (leaf_items s (entry_in s node i)) (in_order h.load)))
      (row_from zero s node (suc i)))
  kept_tree z =
      let zm : IsTrue m.device.told = h.runs.session.touches.told ∙ z in
      let e = entry_in s node i in
      let r = row_from zero s node (suc i) in
      let p = entry_place zero s node i in
      let st = rest_stays sound can leaf_is buffer_is es_is step h x in
      row_changed (changed_blocks sound can leaf_is buffer_is es_is step h x) s t
      (changed_touches sound can leaf_is buffer_is es_is step h x) z node i (kept_entry ∷ [])
      (loaded_node (can.told z)) (front_apart sound can leaf_is buffer_is es_is step h x z)
      (back_apart sound can leaf_is buffer_is es_is step h x z) (kept_entries z)
      ∙ (ap (λ (xs : List Record). put_at p (entry_part e.low xs
      (leaf_part (chain_items t (stored_chain t (linked_block e.child)))) r)) (st.items zm)
      ∙ ap (λ (xs : List Record). put_at p (entry_part e.low (chain_items m rest) (leaf_part xs) r))
      (kept_items z))

  kept_blocks : IsTrue s.device.told → loading_over t node v
      ≡ (node ∷ (row_blocks (tree_blocks zero s) s (take i (entries_at s node))
      ++ ((chain_blocks m rest ++ ((leaf ∷ chain_blocks m change.low) ++ []))
      ++ row_blocks (tree_blocks zero s) s (drop (suc i) (entries_at s node)))))
      ++ writer_blocks m v
  kept_blocks z =
      let zm : IsTrue m.device.told = h.runs.session.touches.told ∙ z in
      let k = linked_block (entry_in s node i).child in
      let front = row_blocks (tree_blocks zero s) s (take i (entries_at s node)) in
      let back = row_blocks (tree_blocks zero s) s (drop (suc i) (entries_at s node)) in
      let r = chain_blocks m rest in
      let st = rest_stays sound can leaf_is buffer_is es_is step h x in
      let low = low_stays sound can leaf_is buffer_is es_is step h x in
      let ws = answers_stay sound can leaf_is buffer_is es_is step h x in
      let inner : chain_blocks t rest ++ ((k ∷ chain_blocks t (stored_chain t k)) ++ [])
      ≡ r ++ ((leaf ∷ chain_blocks m change.low) ++ []) =
      ap (λ (ks : List ℕ). ks ++ ((k ∷ chain_blocks t (stored_chain t k)) ++ [])) (st.blocks zm)
      ∙ (ap (λ (c : Chain). r ++ ((k ∷ chain_blocks t c) ++ [])) (kept_leaf z).chain
      ∙ (ap (λ (j : ℕ). r ++ ((j ∷ chain_blocks t change.low) ++ [])) (sym (leaf_is z))
      ∙ ap (λ (ks : List ℕ). r ++ ((leaf ∷ ks) ++ [])) (low.blocks zm))) in
      ap (λ (ks : List ℕ). ks ++ writer_blocks t v)
      (blocks_changed (changed_blocks sound can leaf_is buffer_is es_is step h x) s t
      (changed_touches sound can leaf_is buffer_is es_is step h x) z node i (kept_entry ∷ [])
      (loaded_node (can.told z)) (front_apart sound can leaf_is buffer_is es_is step h x z)
      (back_apart sound can leaf_is buffer_is es_is step h x z) (kept_entries z)
      ∙ ap (λ (ks : List ℕ). node ∷ (front ++ (ks ++ back))) inner)
      ∙ ap (λ (vs : List ℕ). (node ∷ (front ++ ((r ++ ((leaf ∷ chain_blocks m change.low) ++ []))
      ++ back))) ++ vs) (ws.blocks zm)

  kept_turned : IsTrue s.device.told → SameTally ((leaf ∷ node ∷ x.news)
      ++ ((chain_blocks m rest ++ loaded_blocks m change v) ++ blocks_beside s node i))
      (loading_over t node v)
  kept_turned z =
      let zm : IsTrue m.device.told = h.runs.session.touches.told ∙ z in
      let front = row_blocks (tree_blocks zero s) s (take i (entries_at s node)) in
      let back = row_blocks (tree_blocks zero s) s (drop (suc i) (entries_at s node)) in
      let r = chain_blocks m rest in
      let l = chain_blocks m change.low in
      let vs = writer_blocks m v in
      let P : List ℕ → Type 0 = λ ks. SameTally ((leaf ∷ node ∷ x.news)
      ++ ((r ++ (l ++ (high_blocks m change.high ++ vs))) ++ (front ++ back))) ks in
      let N : List ℕ → Type 0 = λ ns. SameTally ((leaf ∷ node ∷ ns)
      ++ ((r ++ (l ++ (high_blocks m change.high ++ vs))) ++ (front ++ back)))
      ((node ∷ (front ++ ((r ++ ((leaf ∷ l) ++ [])) ++ back))) ++ vs) in
      let H : Option (Record × Chain) → Type 0 = λ o. SameTally ((leaf ∷ node ∷ [])
      ++ ((r ++ (l ++ (high_blocks m o ++ vs))) ++ (front ++ back)))
      ((node ∷ (front ++ ((r ++ ((leaf ∷ l) ++ [])) ++ back))) ++ vs) in
      subst P (sym (kept_blocks z)) (subst N (sym (x.told zm).0)
      (subst H (sym (kept z).none) (kept_order leaf node r l vs front back)))

  kept_few : IsTrue s.device.told
      → length (list_with_ops key step (leaf_items s (entry_in s node i)) (in_order h.load))
      ≤ leaf_most s.pool.shape
  kept_few z =
      let P : Option (Record × Chain) → Type 0 = λ o. IsSplit key m
      (list_with_ops key step (chain_items s (stored_chain s leaf)) (in_order h.load)) change.low o in
      let few = subst P (kept z).none (h.told z).settles.split in
      let S : ShapeNumbers → Type 0 = λ sh.
      length (list_with_ops key step (chain_items s (stored_chain s leaf)) (in_order h.load))
      ≤ leaf_most sh in
      let L : ℕ → Type 0 = λ k.
      length (list_with_ops key step (chain_items s (stored_chain s k)) (in_order h.load))
      ≤ leaf_most s.pool.shape in
      subst L (leaf_is z) (subst S h.runs.session.touches.shape few)

  -- What it left.
  pub loaded_kept : LoadedHere key step s t node i w v None
  loaded_kept = record {
    given = h.given;
    runs = paid_same (loading_over t node v)
        (changed_runs sound can leaf_is buffer_is es_is step h x) kept_turned;
    wrote = answers_wrote sound can leaf_is buffer_is es_is step h x;
    chain = tt;
    told = λ z.
        let zm : IsTrue m.device.told = h.runs.session.touches.told ∙ z in
        let o = h.told z in
        let e = entry_in s node i in
        let count = count_is sound can leaf_is buffer_is es_is step h x z in
        let items : waiting_over s node i ≡ h.load ++ chain_items m rest =
        ap (chain_items s) (sym (buffer_is z)) ∙ o.items in
        let size = ap (λ (k : ℕ). (stored_chain s k).blocks) (leaf_is z) in
        let news = ap (λ (ns : List ℕ). length ns) (x.told zm).0 in
        let a = h.moves z in
        let b = x.moves in
        let len = list_after_length key step (leaf_items s e) (in_order h.load) in
        let same = length_permutation h.load (in_order h.load) (order_same h.load) in
        let most = kept_few z in
        let blocks = ap (λ (n : ℕ). ceiling n (payload_in s)) count in
        record {
          load = h.load;
          rest = chain_items m rest;
          sorted = in_order h.load;
          loads = record {
            buffer = items;
            same = order_same h.load;
            ascending = order_ascends h.load;
            few = most;
            node_is = kept_tree z;
          };
          taken = o.taken ∙ count;
          fewer = omega (arith, len, same);
          given_is = o.given_is ∙ ap (λ (k : ℕ). answers_to key step
              (record_at key (chain_items s (stored_chain s k))) (in_order h.load)) (leaf_is z);
          stands = node_stands zero t node (kept_node z);
          formed = node_formed zero t node (kept_node z);
          moves = omega (arith, a, b, news, size, blocks);
        };
  }
