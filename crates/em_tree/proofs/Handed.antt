-- The answers of a tree are handed out as a chain, and the tree goes on without them.
use Rattle.std.proofs.Common.{◌≡◌, ℕ, ◌+◌, ◌*◌, List, [], ◌++◌, refl, sym, ap, ◌∙◌, subst, arith, IsTrue, Result, Ok, Err}
use Rattle.std.proofs.Math.Nat.{min-le_right}
use Rattle.std.specs.Prelude.{None}
use Rattle.em_record.specs.Shape.{ShapeNumbers, wide_of}
use Rattle.em_record.specs.declared.record.Record.{Record}
use Rattle.em_space.specs.Held.{Apart}
use Rattle.em_space.specs.Ledger.{Session}
use Rattle.em_space.specs.Rig.{Goes, RigState, Sound}
use Rattle.em_space.specs.declared.fault.EmFault.{EmFault}
use Rattle.em_space.proofs.Lists.{apart_right, apart_sym, distinct_apart, distinct_right}
use Rattle.em_space.proofs.Apart.{off_right}
use Rattle.em_space.proofs.Paying.{pays_kept, pays_more}
use Rattle.em_space.proofs.Sessions.{session_as, session_none}
use Rattle.em_space.proofs.Steps.{block_cause, touches_wider}
use Rattle.em_space.proofs.Within.{within_kept, within_same}
use Rattle.em_chain.specs.Chain.{chain_blocks}
use Rattle.em_chain.specs.Writer.{WriterHasFrame, WriterStays, writer_blocks, writer_items}
use Rattle.em_chain.specs.declared.chain.Chain.{Chain}
use Rattle.em_chain.specs.declared.writer.Writer.{Writer}
use Rattle.em_chain.proofs.Laws.{writer_stays}
use Rattle.em_tree_model.specs.Meaning.{InTurn}
use Rattle.em_tree_model.specs.Ranges.{IsTree, least_record}
use Rattle.em_tree_model.specs.Tree.{Tree}
use Rattle.em_tree_model.specs.Tree.Tree.{end, entry}
use Rattle.em_tree_blocks.specs.Reading.{tree_blocks}
use Rattle.em_tree_blocks.proofs.Frames.{TreeStays, tree_stays}
use Rattle.em_tree_cost.specs.Books.{Balanced}
use Rattle.em_tree_cost.specs.Outline.{sums_of}
use Rattle.em_tree_outline.specs.Outline.{outline_of}
use Rattle.em_tree_walk.specs.Lows.{LowsKeep}
use Rattle.em_tree_walk.specs.Paid.{LosesNone}
use Rattle.em_tree_walk.proofs.Losses.{loses_as, loses_same, loses_still}
use Rattle.em_tree_walk.proofs.Regions.{SameTally, held_second, session_part, tally_append}
use Rattle.em_trunk.specs.Buffers.{IsBounded, IsThin}
use Rattle.em_trunk.specs.Entries.{EachEntry}
use Rattle.em_trunk.specs.Lists.{StopsTakingAnswers, TakesAnswers, TookAnswers}
use Rattle.em_trunk.specs.Sized.{IsSized}
use Rattle.em_trunk.specs.Trunk.{AreTrunkNumbers, IsRunning, IsStanding, IsTrunk, TrunkHasFrames, counts_of, full_limit, model_of, root_of, trunk_blocks}
use Rattle.em_trunk.specs.declared.trunk.Trunk.{Trunk}
use Rattle.em_trunk.proofs.Stays.{forms_stay}
use Rattle.em_tree.specs.Handing.{HandedAnswers, HandsAnswers, StopsHanding}

-- Only blocks of the answers may have changed, and another list is in their place.
abbrev with_answers : Trunk → Writer → Trunk
with_answers v b = record v { answers = b }

-- the last of three lists comes first
last_first : (xs ys zs : List ℕ) → SameTally (xs ++ (ys ++ zs)) (zs ++ (xs ++ (ys ++ [])))
last_first xs ys zs j =
    let a = tally_append j xs (ys ++ zs) in
    let b = tally_append j ys zs in
    let c = tally_append j zs (xs ++ (ys ++ [])) in
    let d = tally_append j xs (ys ++ []) in
    let e = tally_append j ys [] in
    omega (arith, a, b, c, d, e)

module _ (key : Record → Record) (IsOp IsKept : Record → Type 0) (s t : RigState) (v : Trunk) (b : Writer)
    (i : IsRunning key IsOp IsKept s v) (goes : Goes (writer_blocks s v.answers) s t)
    (frame : WriterHasFrame t b) where
  frames : TrunkHasFrames t (with_answers v b)
  frames = record {
    buffer = rw (goes.frames.shape) i.frames.buffer;
    answers = frame.len_is;
    out = rw (goes.frames.free, goes.frames.shape) i.frames.out;
  }

  buffer_apart : IsTrue s.device.told → Apart (writer_blocks s v.buffer) (writer_blocks s v.answers)
  buffer_apart z =
      let tree = tree_blocks v.level s v.root in
      let x = writer_blocks s v.buffer in
      let y = writer_blocks s v.answers in
      distinct_apart x y (distinct_right tree (x ++ y) ((i.stands z).holds.distinct z))

  tree_apart : IsTrue s.device.told → Apart (tree_blocks v.level s v.root) (writer_blocks s v.answers)
  tree_apart z =
      let tree = tree_blocks v.level s v.root in
      let x = writer_blocks s v.buffer in
      let y = writer_blocks s v.answers in
      let d = (i.stands z).holds.distinct z in
      apart_sym y tree (apart_right x y tree (apart_sym tree (x ++ y) (distinct_apart tree (x ++ y) d)))

  tree_kept : IsTrue s.device.told → TreeStays v.level s t v.root
  tree_kept z = tree_stays (writer_blocks s v.answers) s t goes.touches z v.level v.root (tree_apart z)
      (i.stands z).stored

  buffer_stays : WriterStays s t v.buffer
  buffer_stays =
      let f = frames in
      writer_stays (writer_blocks s v.answers) s t v.buffer goes.touches (λ z. buffer_apart z)
      (record { len_is = f.buffer; out = omega (arith, f.out) }) i.buffer

  numbers : AreTrunkNumbers t (with_answers v b)
  numbers =
      let n = i.numbers in
      let later = goes.touches.moves in
      record {
        level_some = n.level_some;
        level_most = n.level_most;
        since_most = n.since_most;
        longest_most = n.longest_most;
        pushed_most = n.pushed_most;
        settled_most = n.settled_most;
        resets_most = n.resets_most;
        adopted_most = n.adopted_most;
        counted_most = n.counted_most;
        spent_most = omega (arith, n.spent_most, later);
        root_below = rw (goes.touches.blocks) n.root_below;
      }

  model_same : IsTrue s.device.told → model_of t (with_answers v b) ≡ model_of s v
  model_same z = ap (λ xs. entry least_record xs (root_of t v) end) (buffer_stays.items z)
      ∙ ap (λ r. entry least_record (writer_items s v.buffer) r end) (tree_kept z).tree

  -- the blocks but for those of the answers
  abbrev others : List ℕ
  others = tree_blocks v.level s v.root ++ (writer_blocks s v.buffer ++ [])

  others_are : writer_blocks t b ≡ [] → IsTrue s.device.told → trunk_blocks t (with_answers v b) ≡ others
  others_are none z =
      let tree = tree_blocks v.level s v.root in
      ap (λ ks. ks ++ (writer_blocks t v.buffer ++ writer_blocks t b)) (tree_kept z).blocks
      ∙ (ap (λ ks. tree ++ (ks ++ writer_blocks t b)) (buffer_stays.blocks z)
      ∙ ap (λ ks. tree ++ (writer_blocks s v.buffer ++ ks)) none)

  touches_whole : Goes (trunk_blocks s v) s t
  touches_whole =
      let tree = tree_blocks v.level s v.root in
      let x = writer_blocks s v.buffer in
      let y = writer_blocks s v.answers in
      record {
        sound = goes.sound;
        touches = touches_wider (trunk_blocks s v) y s t goes.touches
            (λ z k u o. off_right k x y (off_right k tree (x ++ y) o));
        frames = goes.frames;
      }

module _ (key : Record → Record) (IsOp IsKept : Record → Type 0) (s t : RigState) (v : Trunk) (b : Writer)
    (c : Chain) (sound : Sound s) (i : IsTrunk key IsOp IsKept s v)
    (h : TookAnswers s t v (with_answers v b) c) where
  abbrev new : Trunk
  new = with_answers v b

  none_held : IsTrue s.device.told → writer_blocks t b ≡ []
  none_held z = h.fresh.held (h.goes.touches.told ∙ z)

  left : IsTrue s.device.told → trunk_blocks t new ≡ others key IsOp IsKept s t v b i.running h.goes h.fresh.is.frame
  left z = others_are key IsOp IsKept s t v b i.running h.goes h.fresh.is.frame (none_held z) z

  own_session : Session (writer_blocks s v.answers) s t (chain_blocks t c)
  own_session =
      let y = writer_blocks s v.answers in
      record {
        sound = h.goes.sound;
        touches = h.goes.touches;
        within = within_kept s y y (chain_blocks t c) (within_same s y) h.finishes.blocks;
        holds = λ z. (h.finishes.is.told (h.goes.touches.told ∙ z)).holds;
      }

  session : Session (trunk_blocks s v) s t (chain_blocks t c ++ trunk_blocks t new)
  session =
      let tree = tree_blocks v.level s v.root in
      let x = writer_blocks s v.buffer in
      let y = writer_blocks s v.answers in
      let rest = tree ++ (x ++ []) in
      let start = session_none s (trunk_blocks s v) sound (λ z. (i.running.stands z).holds) in
      session_as (chain_blocks t c ++ trunk_blocks t new)
      (session_part y (chain_blocks t c) rest start (λ z. last_first tree x y) own_session)
      (λ z. ap (λ ks. chain_blocks t c ++ ks) (left z))

  loses : LosesNone (trunk_blocks s v) (chain_blocks t c ++ trunk_blocks t new) s t
  loses =
      let tree = tree_blocks v.level s v.root in
      let x = writer_blocks s v.buffer in
      let y = writer_blocks s v.answers in
      let rest = tree ++ (x ++ []) in
      let one = loses_still (trunk_blocks s v) s t h.same.used in
      let two = loses_same (trunk_blocks s v) (trunk_blocks s v) (y ++ rest) s t one (λ z. last_first tree x y) in
      loses_as (trunk_blocks s v) (y ++ rest) (chain_blocks t c ++ trunk_blocks t new) s t two
      (λ z. ap (λ ks. ks ++ trunk_blocks t new) (h.finishes.blocks z) ∙ ap (λ ks. y ++ ks) (left z))

  standing : IsTrue s.device.told → IsStanding key IsOp IsKept t new
  standing told =
      let r = i.running in
      let st = r.stands told in
      let f = h.fresh.is.frame in
      let k = tree_kept key IsOp IsKept s t v b r h.goes f told in
      let buffer = buffer_stays key IsOp IsKept s t v b r h.goes f in
      let model = model_same key IsOp IsKept s t v b r h.goes f told in
      let off = tree_apart key IsOp IsKept s t v b r h.goes f told in
      let shape = h.goes.touches.shape in
      let all = session.holds told in
      let I : Tree → Type 0 = λ x. IsTree key x least_record None in
      let T : Tree → Type 0 = λ x. InTurn key IsOp IsKept x in
      let L : Tree → Type 0 = LowsKeep least_record in
      let Z : Tree → Type 0 = λ x. IsSized s.pool.shape (outline_of x) in
      let Z2 : ShapeNumbers → Type 0 = λ p. IsSized p (outline_of (model_of t new)) in
      let B : Tree → Type 0 = λ x. EachEntry (IsBounded v.level (full_limit s.pool.shape)) v.level
      least_record None x in
      let B2 : ShapeNumbers → Type 0 = λ p. EachEntry (IsBounded v.level (full_limit p)) v.level
      least_record None (root_of t v) in
      record {
        holds = held_second (chain_blocks t c) (trunk_blocks t new) all;
        stored = k.is;
        formed = forms_stay (writer_blocks s v.answers) s t h.goes.touches told v.level v.root off st.stored
            st.formed;
        is = subst I (sym model) st.is;
        turn = subst T (sym model) st.turn;
        lows = subst L (sym k.tree) st.lows;
        sized = subst Z2 (sym shape) (subst Z (sym model) st.sized);
        bounded = subst B2 (sym shape) (subst B (sym k.tree) st.bounded);
        packed = buffer.packed told st.packed;
        answers_packed = h.fresh.packed (h.goes.touches.told ∙ told);
      }

  running : IsRunning key IsOp IsKept t new
  running = record {
    frames = frames key IsOp IsKept s t v b i.running h.goes h.fresh.is.frame;
    numbers = numbers key IsOp IsKept s t v b i.running h.goes h.fresh.is.frame;
    buffer = (buffer_stays key IsOp IsKept s t v b i.running h.goes h.fresh.is.frame).is;
    answers = h.fresh.is;
    stands = λ z. standing (sym h.goes.touches.told ∙ z);
  }

  trunk : IsTrunk key IsOp IsKept t new
  trunk =
      let r = i.running in
      let f = h.fresh.is.frame in
      let shape = h.goes.touches.shape in
      let back = λ (z : IsTrue t.device.told). (let y : IsTrue s.device.told = sym h.goes.touches.told ∙ z in y) in
      let kept = λ (z : IsTrue t.device.told). (tree_kept key IsOp IsKept s t v b r h.goes f (back z)).tree in
      record {
        running = running;
        few = rw shape i.few;
        unused = i.unused;
        silent = λ z e. h.fresh.items z;
        blocks = i.blocks;
        thin = λ z.
            let B : Tree → Type 0 = λ x. EachEntry (IsThin (full_limit s.pool.shape)) v.level least_record None x in
            let B2 : ShapeNumbers → Type 0 = λ p. EachEntry (IsThin (full_limit p)) v.level least_record None
            (root_of t v) in
            subst B2 (sym shape) (subst B (sym (kept z)) (i.thin (back z)));
        books = λ z.
            let K : Tree → Type 0 = λ x. Balanced s.pool.shape (counts_of v)
            (sums_of (2 * wide_of s.pool.shape * s.pool.shape.block) v.level (outline_of x)
            v.buffer.count v.buffer.blocks) in
            let K2 : ShapeNumbers → Type 0 = λ p. Balanced p (counts_of v)
            (sums_of (2 * wide_of p * p.block) v.level (outline_of (root_of t v)) v.buffer.count
            v.buffer.blocks) in
            subst K2 (sym shape) (subst K (sym (kept z)) (i.books (back z)));
      }

  handed : HandedAnswers key IsOp IsKept s t v new c
  handed =
      let none : b.blocks ≡ 0 = h.fresh.blocks in
      record {
        only = refl;
        is = trunk;
        chain = h.finishes.is;
        packed = λ z. h.finishes.packed z (i.running.stands z).answers_packed;
        items = h.finishes.items;
        count = h.finishes.count_is;
        blocks = h.finishes.blocks_is;
        none = λ z. h.fresh.items (h.goes.touches.told ∙ z);
        no_block = none;
        model = λ z. model_same key IsOp IsKept s t v b i.running h.goes h.fresh.is.frame z;
        session = session;
        frames = h.goes.frames;
        pays = pays_more h.pays (omega (arith, none));
        loses = loses;
        same = h.same;
        counts = refl;
        moves = h.moves;
      }

module _ (key : Record → Record) (IsOp IsKept : Record → Type 0) (s t : RigState) (v : Trunk) (b : Writer)
    (fault : EmFault) (sound : Sound s) (i : IsTrunk key IsOp IsKept s v)
    (h : StopsTakingAnswers s t v (with_answers v b) fault) where
  not_handed : StopsHanding s t v (with_answers v b) fault
  not_handed =
      let low = sound.shape.frames_low in
      let one = min-le_right v.buffer.blocks 1 in
      let other = min-le_right v.answers.blocks 1 in
      record {
        only = refl;
        stops = record {
          goes = touches_whole key IsOp IsKept s t v b i.running h.goes h.frame;
          frames = frames key IsOp IsKept s t v b i.running h.goes h.frame;
          pays = pays_more (pays_kept 0 (omega (arith, h.same.used)) h.goes.touches.moves) (omega (arith, low, one, other));
          cause = block_cause s t fault h.cause;
        };
        cause = h.cause;
        same = h.same;
        counts = refl;
        moves = h.moves;
      }

-- What `take_answers` did, by its result.
pub hands_answers : (key : Record → Record) (IsOp IsKept : Record → Type 0) (s t : RigState) (v w : Trunk)
    (r : Result Chain EmFault) → Sound s → IsTrunk key IsOp IsKept s v → TakesAnswers s t v w r
    → HandsAnswers key IsOp IsKept s t v w r
hands_answers key IsOp IsKept s t v w (Ok c) sound i h =
    let P : Trunk → Type 0 = λ z. TookAnswers s t v z c in
    let Q : Trunk → Type 0 = λ z. HandedAnswers key IsOp IsKept s t v z c in
    subst Q (sym h.is) (handed key IsOp IsKept s t v w.answers c sound i (subst P h.is h))
hands_answers key IsOp IsKept s t v w (Err fault) sound i h =
    let P : Trunk → Type 0 = λ z. StopsTakingAnswers s t v z fault in
    let Q : Trunk → Type 0 = λ z. StopsHanding s t v z fault in
    subst Q (sym h.is) (not_handed key IsOp IsKept s t v w.answers fault sound i (subst P h.is h))
