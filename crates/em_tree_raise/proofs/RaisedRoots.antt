-- A root over a list.
use Rattle.std.proofs.Common.{◌≡◌, true, inl, ℕ, ◌*◌, ◌/◌, ◌<◌, List, [], ◌∷◌, length, refl, sym, ap, ◌∙◌, subst, arith, IsTrue, Err}
use Rattle.em_record.specs.Shape.{fan_of}
use Rattle.em_frames.specs.Device.{DeviceState, block_at}
use Rattle.em_space.specs.Rig.{RigState}
use Rattle.em_space.specs.declared.fault.EmFault.{EmFault}
use Rattle.em_space.proofs.Paying.{pays_more}
use Rattle.em_space.proofs.Runs.{stops_wider}
use Rattle.em_space.proofs.Sessions.{session_as}
use Rattle.em_chain.specs.Chain.{chain_blocks}
use Rattle.em_chain.specs.Effects.{GivesFrame, LendsFrame, Unmoved}
use Rattle.em_chain.specs.Reads.{Opens}
use Rattle.em_chain.specs.declared.chain.Chain.{Chain}
use Rattle.em_chain.specs.declared.reader.Reader.{Reader}
use Rattle.em_node.specs.declared.entry.Entry.{Entry}
use Rattle.em_node.specs.Node.{entries_of}
use Rattle.em_tree_blocks.specs.Node.{linked_block}
use Rattle.em_tree_blocks.specs.Reading.{entries_at}
use Rattle.em_tree_blocks.proofs.Frames.{node_stays}
use Rattle.em_tree_walk.specs.SplitPaths.{TakesUpTo}
use Rattle.em_tree_walk.specs.declared.splitting.Root.{Root}
use Rattle.em_tree_walk.proofs.Losses.{chain_length}
use Rattle.em_tree_raise.specs.Levels.{CanLevel, IsRaisedAbove, RaisedFrom, RaisesFrom, raise_most, raise_room}
use Rattle.em_tree_raise.specs.Nodes.{BuildsNode, BuiltNode}
use Rattle.em_tree_raise.specs.Raising.{AreFreshEntries, CanRaise, IsListing}
use Rattle.em_tree_raise.specs.Subtrees.{LeavesSubtrees}
use Rattle.em_tree_raise.proofs.Levels.{level_few}
use Rattle.em_tree_raise.proofs.Opened.{all_first, around_frames, around_pays, around_session, around_stops, in_use_by, listing_half, none_held_of, none_left_of, opened_leaves}

-- a root by its numbers
root_is : (root : Root) (k l : ℕ) → root.block ≡ k → root.level ≡ l → record { block = k; level = l } ≡ root
root_is root k l p q = let a = sym p in let b = sym q in λ i. record { block = a i; level = b i }

module _ {s a b t : RigState} {list : Chain} {r q : Reader} {level count : ℕ} {e : Entry} (can : CanRaise s list)
    (high : CanLevel level list.count) (all : count ≡ list.count / 2) (few : count < 2 * fan_of s.pool.shape)
    (l : LendsFrame s a) (m : Unmoved s a) (o : Opens s a list true r) (h : BuiltNode a b r q level count e)
    (g : GivesFrame [] b t) (v : Unmoved b t) where
  told_a : IsTrue s.device.told → IsTrue a.device.told
  told_a z = l.touches.told ∙ z

  told_b : IsTrue s.device.told → IsTrue b.device.told
  told_b z = h.took.told ∙ told_a z

  root_all : {es : List Entry} → IsTrue s.device.told → IsListing s list es
      → (entries_at b (linked_block e.child) ≡ es) × LeavesSubtrees b q []
  root_all {es} z x =
      let half = listing_half can.chain x z in
      let size = (h.node (told_a z)).size in
      all_first (h.takes (told_a z) es (opened_leaves l m o x z)) (omega (arith, size, all, half))

  root_read : IsTrue s.device.told → q.blocks ≡ 0
  root_read z = none_left_of h.took.is (told_b z) (root_all z (can.told z).is).1

  root_takes : TakesUpTo (raise_room list) (raise_most list) (chain_blocks s list) (linked_block e.child ∷ []) s t
  root_takes =
      let k = linked_block e.child in
      let x = h.runs.spends in
      let used = m.same.used in
      let after = v.same.used in
      let most = m.same.most in
      let last = v.same.most in
      let moves = m.moves in
      let ending = v.moves in
      let owed = o.owed_is in
      let fewer = h.took.fewer in
      let words = ap (λ (d : Chain). d.blocks) o.words in
      record {
        session = session_as (k ∷ []) (around_session l m o g v can.chain h.runs.session)
            (λ z. ap (λ (ks : List ℕ). k ∷ ks) (sym (none_held_of b q (root_read z))));
        frames = around_frames l m o g v h.runs.frames;
        used = omega (arith, x.used, used, after, fewer);
        most = omega (arith, x.most, used, most, last);
        moves = omega (arith, x.moves, moves, ending, owed);
        pays = around_pays l m o g v (pays_more x.pays (omega arith)) x.later;
        loses = λ z.
            let none = root_read z in
            let n = chain_length can.chain z in
            omega (arith, x.used, used, after, none, n, words);
      }

  root_entries : entries_at t (linked_block e.child) ≡ entries_at b (linked_block e.child)
  root_entries = ap (λ (d : DeviceState). entries_of (block_at d (linked_block e.child))) v.device

  root_above : {es : List Entry} → IsTrue s.device.told → IsListing s list es
      → IsRaisedAbove t level 0 es (record { block = linked_block e.child; level = level })
  root_above {es} z x =
      let k = linked_block e.child in
      let n = h.node (told_a z) in
      let same = root_entries in
      let are = root_all z x in
      let some = x.some in
      let size = n.size in
      let half = listing_half can.chain x z in
      let len = ap (λ (fs : List Entry). length fs) same in
      let shape = ap fan_of root_takes.session.touches.shape in
      record {
        node_is = node_stays [] b t g.touches (told_b z) level k tt n.node_is;
        fresh = subst (λ (fs : List Entry). AreFreshEntries t.blocks fs) (sym same)
            (subst (λ (j : ℕ). AreFreshEntries j (entries_at b k)) (sym g.touches.blocks) n.fresh);
        some = omega (arith, some, size, half, all, len);
        few = omega (arith, few, size, len, shape);
        several = inl refl;
        over = same ∙ are.0;
      }

  pub raised_root : (root : Root) → root.block ≡ linked_block e.child → root.level ≡ level
      → RaisedFrom s t list level root
  raised_root root block_is level_is =
      let k = linked_block e.child in
      let most = level_few high in
      let low = h.fresh.child_some in
      let within = h.fresh.child_most in
      let blocks = root_takes.session.touches.blocks in
      let before = l.touches.blocks in
      let told = root_takes.session.touches.told in
      let below : k < t.blocks = omega (arith, low, within, blocks, before) in
      subst (λ (x : Root). RaisedFrom s t list level x) (root_is root k level block_is level_is) (record {
        above = 0;
        level_is = omega arith;
        level_most = omega (arith, most);
        takes = root_takes;
        in_use = in_use_by (λ y. (root_takes.session.holds (sym told ∙ y)).in_use.0) below;
        told = λ z es x. root_above z x;
      })

-- It couldn't be stored.
pub unraised_root : {s a b t : RigState} {list : Chain} {r : Reader} {f : EmFault} (q : Reader) (level count : ℕ)
    → LendsFrame s a → Unmoved s a → Opens s a list true r → BuildsNode a b r q level count (Err f)
    → GivesFrame [] b t → Unmoved b t → RaisesFrom s t list level (Err f)
unraised_root q level count l m o h g v =
    around_stops l m o g v 1 2 (omega arith) (omega arith)
    (stops_wider (omega arith) (omega arith) (omega arith) h)
