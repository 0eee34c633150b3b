-- A tree over a call that leaves its blocks alone.
use Rattle.std.proofs.Common.{◌≡◌, ℕ, zero, suc, ◌*◌, List, [], ◌∷◌, ◌++◌, sym, ap, ◌∙◌, subst, IsTrue, arith}
use Rattle.std.specs.Prelude.{None}
use Rattle.em_record.specs.Shape.{ShapeNumbers, wide_of}
use Rattle.em_record.specs.declared.record.Record.{Record}
use Rattle.em_space.specs.Held.{Apart, Holds}
use Rattle.em_space.specs.Rig.{RigState, Touches}
use Rattle.em_space.proofs.Held.{holds_kept}
use Rattle.em_space.proofs.Lists.{apart_left, apart_right}
use Rattle.em_chain.specs.Chain.{ChainStays, IsPacked, IsTight, chain_blocks}
use Rattle.em_chain.specs.Writer.{WriterStays, writer_blocks, writer_items}
use Rattle.em_chain.specs.declared.chain.Chain.{Chain}
use Rattle.em_chain.proofs.Laws.{chain_stays, writer_stays}
use Rattle.em_node.specs.Node.{entries_of}
use Rattle.em_node.specs.declared.entry.Entry.{Entry}
use Rattle.em_tree_model.specs.Meaning.{InTurn}
use Rattle.em_tree_model.specs.Ranges.{IsTree, least_record}
use Rattle.em_tree_model.specs.Tree.{Tree}
use Rattle.em_tree_model.specs.Tree.Tree.{end, entry}
use Rattle.em_tree_blocks.specs.Node.{buffer_of, linked_block}
use Rattle.em_tree_blocks.specs.Reading.{AreStored, IsTreeAt, entries_at, row_blocks, tree_blocks}
use Rattle.em_tree_blocks.proofs.Frames.{block_same, tree_stays}
use Rattle.em_tree_cost.specs.Books.{Balanced}
use Rattle.em_tree_cost.specs.Outline.{sums_of}
use Rattle.em_tree_outline.specs.Outline.{outline_of}
use Rattle.em_tree_walk.specs.Lows.{LowsKeep}
use Rattle.em_trunk.specs.Buffers.{IsBounded, IsThin}
use Rattle.em_trunk.specs.Entries.{EachEntry}
use Rattle.em_tree_walk.specs.Forms.{AreFormed, HaveForms}
use Rattle.em_trunk.specs.Sized.{IsSized}
use Rattle.em_trunk.specs.Trunk.{IsRunning, IsStanding, IsTrunk, TrunkHasFrames, counts_of, full_limit, given_by, model_of, root_of, trunk_blocks}
use Rattle.em_trunk.specs.declared.trunk.Trunk.{Trunk}

module _ (held : List ℕ) (s t : RigState) (h : Touches held s t) (told : IsTrue s.device.told) where
  -- the buffers of a row keep their forms, if those of its children do
  pub row_forms : (l : ℕ) (Old New : Chain → Type 0) (OldChild NewChild : ℕ → Type 0)
      → ((c : Chain) → ChainStays s t c → Old c → New c)
      → ((k : ℕ) → Apart (tree_blocks l s k) held → IsTreeAt l s k → OldChild k → NewChild k)
      → (es : List Entry) → Apart (row_blocks (tree_blocks l s) s es) held
      → AreStored (IsTreeAt l s) s es → HaveForms Old OldChild es → HaveForms New NewChild es
  row_forms l Old New OldChild NewChild keep child [] a i f = tt
  row_forms l Old New OldChild NewChild keep child (e ∷ es) a i f =
      let k = linked_block e.child in
      let own = chain_blocks s (buffer_of e) in
      let rest = row_blocks (tree_blocks l s) s es in
      let inner = apart_right own (tree_blocks l s k ++ rest) held a in
      let c = chain_stays held s t (buffer_of e) h
      (λ z. apart_left own (tree_blocks l s k ++ rest) held a) i.0 in (
        keep (buffer_of e) c f.0,
        child k (apart_left (tree_blocks l s k) rest held inner) i.1 f.1,
        row_forms l Old New OldChild NewChild keep child es
            (apart_right (tree_blocks l s k) rest held inner) i.2 f.2,
      )

  -- and so do those of a tree
  pub forms_stay : (l k : ℕ) → Apart (tree_blocks l s k) held → IsTreeAt l s k → AreFormed l s k
      → AreFormed l t k
  forms_stay zero k a i f = tt
  forms_stay (suc zero) k a i f =
      let same : entries_at t k ≡ entries_at s k =
      ap entries_of (block_same held s t h told k i.0.in_use a.0) in
      let P : List Entry → Type 0 = HaveForms (IsTight t) (λ (j : ℕ). Unit {0}) in
      subst P (sym same) (row_forms zero (IsTight s) (IsTight t) (λ (j : ℕ). Unit {0})
      (λ (j : ℕ). Unit {0}) (λ c g x. g.tight told x) (λ j b g x. tt) (entries_at s k) a.1 i.1 f)
  forms_stay (suc (suc l)) k a i f =
      let same : entries_at t k ≡ entries_at s k =
      ap entries_of (block_same held s t h told k i.0.in_use a.0) in
      let P : List Entry → Type 0 = HaveForms (IsPacked t) (AreFormed (suc l) t) in
      subst P (sym same) (row_forms (suc l) (IsPacked s) (IsPacked t) (AreFormed (suc l) s)
      (AreFormed (suc l) t) (λ c g x. g.packed told x) (forms_stay (suc l)) (entries_at s k) a.1 i.1 f)

-- what is read of a tree that was left alone
pub record TrunkReads (s t : RigState) (v : Trunk) : Type 0 where
  pub root : root_of t v ≡ root_of s v
  pub model : model_of t v ≡ model_of s v
  pub given : given_by t v ≡ given_by s v
  pub blocks : trunk_blocks t v ≡ trunk_blocks s v

-- The tree stays, with what is read of it.
pub record TrunkStays (key : Record → Record) (IsOp IsKept : Record → Type 0) (s t : RigState)
    (v : Trunk) : Type 0 where
  pub is : IsTrunk key IsOp IsKept t v
  pub reads : IsTrue s.device.told → TrunkReads s t v

module _ (key : Record → Record) (IsOp IsKept : Record → Type 0) (held : List ℕ) (s t : RigState)
    (v : Trunk) (h : Touches held s t) (f : TrunkHasFrames t v)
    (i : IsRunning key IsOp IsKept s v) where
  buffer_stays : (IsTrue s.device.told → Apart (trunk_blocks s v) held) → WriterStays s t v.buffer
  buffer_stays a = writer_stays held s t v.buffer h
      (λ z. apart_left (writer_blocks s v.buffer) (writer_blocks s v.answers) held
      (apart_right (tree_blocks v.level s v.root)
      (writer_blocks s v.buffer ++ writer_blocks s v.answers) held (a z)))
      (record { len_is = f.buffer; out = omega (arith, f.out) }) i.buffer

  answers_stay : (IsTrue s.device.told → Apart (trunk_blocks s v) held) → WriterStays s t v.answers
  answers_stay a = writer_stays held s t v.answers h
      (λ z. apart_right (writer_blocks s v.buffer) (writer_blocks s v.answers) held
      (apart_right (tree_blocks v.level s v.root)
      (writer_blocks s v.buffer ++ writer_blocks s v.answers) held (a z)))
      (record { len_is = f.answers; out = omega (arith, f.out) }) i.answers

  -- over a device that tells
  pub reads_same : IsTrue s.device.told → Apart (trunk_blocks s v) held → TrunkReads s t v
  reads_same told a =
      let st = i.stands told in
      let blocks = writer_blocks s v.buffer ++ writer_blocks s v.answers in
      let c = tree_stays held s t h told v.level v.root
      (apart_left (tree_blocks v.level s v.root) blocks held a) st.stored in
      let b = buffer_stays (λ z. a) in
      let w = answers_stay (λ z. a) in
      record {
        root = c.tree;
        model = ap (λ xs. entry least_record xs (root_of t v) end) (b.items told)
            ∙ ap (λ r. entry least_record (writer_items s v.buffer) r end) c.tree;
        given = w.items told;
        blocks = ap (λ ks. ks ++ (writer_blocks t v.buffer ++ writer_blocks t v.answers)) c.blocks
            ∙ (ap (λ ks. tree_blocks v.level s v.root ++ (ks ++ writer_blocks t v.answers))
            (b.blocks told)
            ∙ ap (λ ks. tree_blocks v.level s v.root ++ (writer_blocks s v.buffer ++ ks))
            (w.blocks told));
      }

  stands_still : IsTrue s.device.told → Apart (trunk_blocks s v) held
      → IsStanding key IsOp IsKept t v
  stands_still told a =
      let st = i.stands told in
      let r = reads_same told a in
      let off = apart_left (tree_blocks v.level s v.root)
      (writer_blocks s v.buffer ++ writer_blocks s v.answers) held a in
      let H : List ℕ → Type 0 = Holds t in
      let I : Tree → Type 0 = λ x. IsTree key x least_record None in
      let T : Tree → Type 0 = InTurn key IsOp IsKept in
      let L : Tree → Type 0 = LowsKeep least_record in
      let Z : Tree → Type 0 = λ x. IsSized s.pool.shape (outline_of x) in
      let Z2 : ShapeNumbers → Type 0 = λ p. IsSized p (outline_of (model_of t v)) in
      let B : Tree → Type 0 = λ x. EachEntry (IsBounded v.level (full_limit s.pool.shape)) v.level
      least_record None x in
      let B2 : ShapeNumbers → Type 0 = λ p. EachEntry (IsBounded v.level (full_limit p)) v.level
      least_record None (root_of t v) in
      record {
        holds = subst H (sym r.blocks)
            (holds_kept held s t (trunk_blocks s v) h (λ z. a) st.holds);
        stored = (tree_stays held s t h told v.level v.root off st.stored).is;
        formed = forms_stay held s t h told v.level v.root off st.stored st.formed;
        is = subst I (sym r.model) st.is;
        turn = subst T (sym r.model) st.turn;
        lows = subst L (sym r.root) st.lows;
        sized = subst Z2 (sym h.shape) (subst Z (sym r.model) st.sized);
        bounded = subst B2 (sym h.shape) (subst B (sym r.root) st.bounded);
        packed = (buffer_stays (λ z. a)).packed told st.packed;
        answers_packed = (answers_stay (λ z. a)).packed told st.answers_packed;
      }

  -- inside a call
  pub running_stays : (IsTrue s.device.told → Apart (trunk_blocks s v) held)
      → IsRunning key IsOp IsKept t v
  running_stays a =
      let n = i.numbers in
      record {
        frames = f;
        numbers = record {
          level_some = n.level_some;
          level_most = n.level_most;
          since_most = n.since_most;
          longest_most = n.longest_most;
          pushed_most = n.pushed_most;
          settled_most = n.settled_most;
          resets_most = n.resets_most;
          adopted_most = n.adopted_most;
          counted_most = n.counted_most;
          spent_most = omega (arith, n.spent_most, h.moves);
          root_below = rw (h.blocks) n.root_below;
        };
        buffer = (buffer_stays a).is;
        answers = (answers_stay a).is;
        stands = λ z. (let y : IsTrue s.device.told = sym h.told ∙ z in stands_still y (a y));
      }

module _ (key : Record → Record) (IsOp IsKept : Record → Type 0) (held : List ℕ) (s t : RigState)
    (v : Trunk) (h : Touches held s t) (f : TrunkHasFrames t v)
    (i : IsTrunk key IsOp IsKept s v) where
  -- A call on other values leaves a tree as it is, while its two frames are out.
  pub trunk_stays : (IsTrue s.device.told → Apart (trunk_blocks s v) held)
      → TrunkStays key IsOp IsKept s t v
  trunk_stays a =
      let back = λ (z : IsTrue t.device.told). (let y : IsTrue s.device.told = sym h.told ∙ z in y) in
      record {
        is = record {
          running = running_stays key IsOp IsKept held s t v h f i.running a;
          few = rw (h.shape) i.few;
          unused = i.unused;
          silent = λ z e.
              let r = reads_same key IsOp IsKept held s t v h f i.running (back z) (a (back z)) in
              r.given ∙ i.silent (back z) e;
          blocks = i.blocks;
          thin = λ z.
              let r = reads_same key IsOp IsKept held s t v h f i.running (back z) (a (back z)) in
              let B : Tree → Type 0 = λ x. EachEntry (IsThin (full_limit s.pool.shape)) v.level
              least_record None x in
              let B2 : ShapeNumbers → Type 0 = λ p. EachEntry (IsThin (full_limit p)) v.level
              least_record None (root_of t v) in
              subst B2 (sym h.shape) (subst B (sym r.root) (i.thin (back z)));
          books = λ z.
              let r = reads_same key IsOp IsKept held s t v h f i.running (back z) (a (back z)) in
              let K : Tree → Type 0 = λ x. Balanced s.pool.shape (counts_of v)
              (sums_of (2 * wide_of s.pool.shape * s.pool.shape.block) v.level (outline_of x)
              v.buffer.count v.buffer.blocks) in
              let K2 : ShapeNumbers → Type 0 = λ p. Balanced p (counts_of v)
              (sums_of (2 * wide_of p * p.block) v.level (outline_of (root_of t v))
              v.buffer.count v.buffer.blocks) in
              subst K2 (sym h.shape) (subst K (sym r.root) (i.books (back z)));
        };
        reads = λ told. reads_same key IsOp IsKept held s t v h f i.running told (a told);
      }
