-- An operation is appended to the root's buffer: what the tree is then.
use Rattle.std.proofs.Common.{◌≡◌, ℕ, zero, suc, ◌+◌, ◌<◌, min, List, [], ◌∷◌, ◌++◌, refl, sym, ap, ◌∙◌, subst, arith, IsTrue, Result, Ok}
use Rattle.std.specs.Prelude.{None}
use Rattle.em_record.specs.Shape.{ShapeNumbers}
use Rattle.em_record.specs.declared.record.Record.{Record}
use Rattle.em_space.specs.Held.{Apart}
use Rattle.em_space.specs.Ledger.{Session}
use Rattle.em_space.specs.Queue.{Pays}
use Rattle.em_space.specs.Rig.{Goes, RigState}
use Rattle.em_space.specs.declared.fault.EmFault.{EmFault}
use Rattle.em_space.proofs.Lists.{apart_left, apart_sym, distinct_apart, distinct_right}
use Rattle.em_space.proofs.Paying.{pays_first, pays_more}
use Rattle.em_space.proofs.Sessions.{session_as, session_beside}
use Rattle.em_chain.specs.Writer.{WriterHasFrame, WriterStays, writer_blocks, writer_items}
use Rattle.em_chain.specs.Writes.{AppendCosts, Appends}
use Rattle.em_chain.specs.declared.writer.Writer.{Writer}
use Rattle.em_chain.proofs.Laws.{writer_stays}
use Rattle.em_chain.proofs.Withins.{within_grows}
use Rattle.em_tree_model.specs.Meaning.{InTurn}
use Rattle.em_tree_model.specs.Ranges.{IsTree, least_record}
use Rattle.em_tree_model.specs.Tree.{Tree}
use Rattle.em_tree_model.specs.Tree.Tree.{end, entry}
use Rattle.em_tree_blocks.specs.Reading.{tree_blocks}
use Rattle.em_tree_blocks.proofs.Frames.{TreeStays, tree_stays}
use Rattle.em_tree_outline.specs.Outline.{outline_of}
use Rattle.em_tree_walk.specs.Paid.{LosesNone}
use Rattle.em_tree_walk.proofs.Losses.{loses_as, loses_beside, writer_length}
use Rattle.em_tree_walk.specs.Lows.{LowsKeep}
use Rattle.em_trunk.specs.Buffers.{IsBounded}
use Rattle.em_trunk.specs.Spots.{EachRead}
use Rattle.em_trunk.specs.Entries.{EachEntry}
use Rattle.em_tree.specs.Pushing.{Appended, CanPushOp, model_with}
use Rattle.em_trunk.specs.Sized.{IsSized}
use Rattle.em_trunk.specs.Trunk.{AreTrunkNumbers, IsRunning, IsStanding, TrunkHasFrames, full_limit, model_of, root_of, trunk_blocks}
use Rattle.em_trunk.specs.declared.trunk.Trunk.{Trunk}
use Rattle.em_trunk.proofs.Stays.{forms_stay}

abbrev pub done : Result (Unit {0}) EmFault
done = Ok tt

-- a list with a record has a block
block_some : (n x y : ℕ) → (n ≡ 0 → x ≡ 0) → x ≡ y + 1 → 0 < n
block_some zero x y f e = absurd (let h = f refl in omega (arith, h, e))
block_some (suc n) x y f e = omega arith

-- the root's buffer isn't one of a node
sized_with : (shape : ShapeNumbers) (first : Record) (ops more : List Record) (root : Tree)
    → IsSized shape (outline_of (entry first ops root end))
    → IsSized shape (outline_of (entry first more root end))
sized_with shape first ops more root h = record {
  leaves = (h.leaves.0, h.leaves.1);
  nodes = (h.nodes.0, h.nodes.1, h.nodes.2);
  fat = (h.fat.0, h.fat.1);
}

module _ (key : Record → Record) (IsOp IsKept : Record → Type 0) (op : Record) (s m : RigState) (v : Trunk)
    (b : Writer) (i : IsRunning key IsOp IsKept s v) (goes : Goes (writer_blocks s v.buffer) s m)
    (frame : WriterHasFrame m b) (appends : Appends s m v.buffer b op)
    (costs : AppendCosts s m v.buffer b done) where
  abbrev pub with_op : Trunk
  with_op = record v { buffer = b }

  lists_apart : IsTrue s.device.told
      → Apart (writer_blocks s v.answers) (writer_blocks s v.buffer)
  lists_apart z =
      let tree = tree_blocks v.level s v.root in
      let x = writer_blocks s v.buffer in
      let y = writer_blocks s v.answers in
      let d = (i.stands z).holds.distinct z in
      apart_sym x y (distinct_apart x y (distinct_right tree (x ++ y) d))

  tree_apart : IsTrue s.device.told
      → Apart (tree_blocks v.level s v.root) (writer_blocks s v.buffer)
  tree_apart z =
      let tree = tree_blocks v.level s v.root in
      let x = writer_blocks s v.buffer in
      let y = writer_blocks s v.answers in
      let d = (i.stands z).holds.distinct z in
      apart_sym x tree (apart_left x y tree (apart_sym tree (x ++ y) (distinct_apart tree (x ++ y) d)))

  tree_kept : IsTrue s.device.told → TreeStays v.level s m v.root
  tree_kept z = tree_stays (writer_blocks s v.buffer) s m goes.touches z v.level v.root (tree_apart z)
      (i.stands z).stored

  frames : TrunkHasFrames m with_op
  frames = record {
    buffer = frame.len_is;
    answers = rw (goes.frames.shape) i.frames.answers;
    out = rw (goes.frames.free, goes.frames.shape) i.frames.out;
  }

  answers_stay : WriterStays s m v.answers
  answers_stay =
      let f = frames in
      writer_stays (writer_blocks s v.buffer) s m v.answers goes.touches (λ z. lists_apart z)
      (record { len_is = f.answers; out = omega (arith, f.out) }) i.answers

  blocks_are : IsTrue s.device.told → trunk_blocks m with_op
      ≡ tree_blocks v.level s v.root ++ (writer_blocks m b ++ writer_blocks s v.answers)
  blocks_are z =
      let tree = tree_blocks v.level s v.root in
      let n = writer_blocks m b in
      ap (λ ks. ks ++ (n ++ writer_blocks m v.answers)) (tree_kept z).blocks
      ∙ ap (λ ks. tree ++ (n ++ ks)) (answers_stay.blocks z)

  session : Session (trunk_blocks s v) s m (trunk_blocks m with_op)
  session =
      let tree = tree_blocks v.level s v.root in
      let x = writer_blocks s v.buffer in
      let y = writer_blocks s v.answers in
      let n = writer_blocks m b in
      let own : Session x s m n = record {
        sound = goes.sound;
        touches = goes.touches;
        within = within_grows s x n appends.grown;
        holds = λ z. (appends.is.told (goes.touches.told ∙ z)).holds;
      } in
      session_as (trunk_blocks m with_op) (session_beside tree x n y (λ z. (i.stands z).holds) own)
      blocks_are

  loses : LosesNone (trunk_blocks s v) (trunk_blocks m with_op) s m
  loses =
      let tree = tree_blocks v.level s v.root in
      let x = writer_blocks s v.buffer in
      let y = writer_blocks s v.answers in
      let n = writer_blocks m b in
      let own : LosesNone x n s m =
      λ z.
      let used = costs.used in
      let before = writer_length i.buffer z in
      let after = writer_length appends.is (goes.touches.told ∙ z) in
      omega (arith, used, before, after) in
      loses_as (trunk_blocks s v) (tree ++ (n ++ y)) (trunk_blocks m with_op) s m
      (loses_beside tree x n y s m own) blocks_are

  numbers : AreTrunkNumbers m with_op
  numbers =
      let n = i.numbers in
      let later = goes.touches.moves in
      record {
        level_some = n.level_some;
        level_most = n.level_most;
        since_most = n.since_most;
        longest_most = n.longest_most;
        pushed_most = n.pushed_most;
        settled_most = n.settled_most;
        resets_most = n.resets_most;
        adopted_most = n.adopted_most;
        counted_most = n.counted_most;
        spent_most = omega (arith, n.spent_most, later);
        root_below = rw (goes.touches.blocks) n.root_below;
      }

  pub appended : Appended op s m v with_op
  appended =
      let used = costs.more in
      let moves = costs.moves in
      let some = block_some b.blocks b.count v.buffer.count appends.is.last.none_count appends.count_is in
      let first : Pays (min v.buffer.blocks 1) (min b.blocks 1) s m =
      pays_first v.buffer.blocks b.blocks costs.owes_first costs.owes some in
      record {
        is = refl;
        session = session;
        frames = goes.frames;
        pays = pays_more first (omega arith);
        loses = loses;
        moves = moves;
        peaks =
            let taken : m.used + v.buffer.blocks ≡ s.used + b.blocks = costs.used in
            let most = costs.most in
            record { used = omega (arith, taken, used); most = omega (arith, taken, used, most) };
        count = appends.count_is;
        more = used;
        buffer = appends.is;
        packed = λ z. appends.packed z (i.stands z).packed;
        root = λ z. (tree_kept z).tree;
        items = appends.items;
        given = answers_stay.items;
      }

  standing : CanPushOp key IsOp IsKept op s v → IsTrue s.device.told
      → IsStanding key IsOp IsKept m with_op
  standing push told =
      let st = i.stands told in
      let k = tree_kept told in
      let shape = goes.touches.shape in
      let items = appends.items told in
      let model : model_of m with_op ≡ model_with op s v =
      ap (λ xs. entry least_record xs (root_of m with_op) end) items
      ∙ ap (λ r. entry least_record (writer_items s v.buffer ++ op ∷ []) r end) k.tree in
      let I : Tree → Type 0 = λ x. IsTree key x least_record None in
      let T : Tree → Type 0 = λ x. InTurn key IsOp IsKept x in
      let L : Tree → Type 0 = LowsKeep least_record in
      let Z : Tree → Type 0 = λ x. IsSized m.pool.shape (outline_of x) in
      let H : ShapeNumbers → Type 0 = λ h. IsSized h (outline_of (model_with op s v)) in
      let B : ShapeNumbers → Type 0 = λ h. EachRead (IsBounded v.level (full_limit h)) m with_op in
      let C : Tree → Type 0 = λ x. EachEntry (IsBounded v.level (full_limit s.pool.shape)) v.level
      least_record None x in
      record {
        holds = session.holds told;
        stored = k.is;
        formed = forms_stay (writer_blocks s v.buffer) s m goes.touches told v.level v.root (tree_apart told)
            st.stored st.formed;
        is = subst I (sym model) (push.is told);
        turn = subst T (sym model) (push.turn told);
        lows = subst L (sym k.tree) st.lows;
        sized = subst Z (sym model) (subst H (sym shape) (sized_with s.pool.shape least_record
            (writer_items s v.buffer) (writer_items s v.buffer ++ op ∷ []) (root_of s v) st.sized));
        bounded = subst B (sym shape) (subst C (sym k.tree) st.bounded);
        packed = appends.packed told st.packed;
        answers_packed = answers_stay.packed told st.answers_packed;
      }

  pub appended_running : CanPushOp key IsOp IsKept op s v → IsRunning key IsOp IsKept m with_op
  appended_running push = record {
    frames = frames;
    numbers = numbers;
    buffer = appends.is;
    answers = answers_stay.is;
    stands = λ z. standing push (sym goes.touches.told ∙ z);
  }
