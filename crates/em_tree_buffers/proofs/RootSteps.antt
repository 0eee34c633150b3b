-- The root's buffer is emptied into the root: the whole tree after it, as a step of a call.
use Rattle.std.proofs.Common.{◌≡◌, ℕ, suc, ◌+◌, ◌-◌, ◌*◌, ◌≤◌, min, List, [], ◌++◌, length, refl, sym, ap, ◌∙◌, subst, arith, IsTrue, append_assoc}
use Rattle.std.specs.Prelude.{Option, None}
use Rattle.em_record.specs.Shape.{ShapeNumbers, fan_of, wide_of}
use Rattle.em_record.specs.declared.record.Record.{Record}
use Rattle.em_settle.specs.Laws.{IsSettle}
use Rattle.em_settle.specs.declared.step.Step.{Step}
use Rattle.em_frames.specs.Pool.{SameFrames}
use Rattle.em_space.specs.Held.{Apart, Holds}
use Rattle.em_space.specs.Ledger.{Session}
use Rattle.em_space.specs.Queue.{Pays}
use Rattle.em_space.specs.Rig.{RigState, Touches}
use Rattle.em_space.proofs.Lists.{apart_sym, distinct_apart}
use Rattle.em_space.proofs.Paying.{pays_more, pays_then}
use Rattle.em_space.proofs.Sessions.{session_as, session_beside}
use Rattle.em_space.proofs.Steps.{same_frames_then}
use Rattle.em_chain.specs.Chain.{chain_items, payload_in}
use Rattle.em_chain.specs.Counts.{ceiling}
use Rattle.em_chain.specs.Writer.{WriterStays, writer_blocks, writer_items}
use Rattle.em_chain.specs.declared.chain.Chain.{Chain}
use Rattle.em_chain.specs.declared.writer.Writer.{Writer}
use Rattle.em_chain.proofs.Counts.{packed_blocks}
use Rattle.em_chain.proofs.Laws.{writer_stays}
use Rattle.em_tree_model.specs.Meaning.{tree_answers, tree_contents}
use Rattle.em_tree_model.specs.Pouring.{pour}
use Rattle.em_tree_model.specs.Ranges.{least_record}
use Rattle.em_tree_model.specs.Tree.{Tree}
use Rattle.em_tree_model.specs.Tree.Tree.{end, entry}
use Rattle.em_tree_blocks.specs.Reading.{IsTreeAt, entries_at, tree_at, tree_blocks}
use Rattle.em_tree_cost.specs.Counters.{Sums}
use Rattle.em_tree_cost.specs.Outline.{count_of, sums_of}
use Rattle.em_tree_outline.specs.Outline.{outline_of}
use Rattle.em_empty.specs.Effects.{EmptiedAt, reached}
use Rattle.em_empty.specs.Node.{given_blocks}
use Rattle.em_tree_walk.specs.Lows.{LowsKeep}
use Rattle.em_trunk.specs.Buffers.{IsBounded}
use Rattle.em_tree_buffers.specs.Draining.{CanDrain, DrainedRoot, drain_debt}
use Rattle.em_trunk.specs.Spots.{EachRead}
use Rattle.em_trunk.specs.Entries.{EachEntry}
use Rattle.em_trunk.specs.Events.{Charges, Continues}
use Rattle.em_tree_walk.specs.Forms.{AreFormed}
use Rattle.em_tree_walk.specs.Paid.{LosesNone}
use Rattle.em_tree_walk.proofs.Losses.{loses_as, loses_beside, loses_from}
use Rattle.em_trunk.specs.Sized.{IsSized}
use Rattle.em_trunk.specs.Trunk.{AreTrunkNumbers, IsRunning, IsStanding, TrunkHasFrames, full_limit, given_by, model_of, root_of, sums_in, trunk_blocks, trunk_unstored}
use Rattle.em_trunk.specs.Works.{Works, CanWork, deepest}
use Rattle.em_trunk.specs.declared.trunk.Trunk.{Trunk}
use Rattle.em_tree_buffers.proofs.EntryBefore.{row_count}
use Rattle.em_tree_buffers.proofs.EntryWorks.{reached_told}
use Rattle.em_trunk.proofs.Events.{root_emptied}
use Rattle.em_trunk.proofs.Lows.{lows_pour}
use Rattle.em_trunk.proofs.Meaning.{represents_itself}
use Rattle.em_tree_buffers.proofs.RootLowered.{RootLowered}
use Rattle.em_tree_buffers.proofs.RootTree.{root_bounded, root_sized}
use Rattle.em_tree_buffers.proofs.RootWorks.{both_loses, both_session, lowered, tree_apart, tree_kept}
use Rattle.em_trunk.proofs.Stays.{forms_stay}
use Rattle.em_trunk.proofs.TrunkLists.{touches_told}
use Rattle.em_tree_buffers.proofs.RootBefore.{count_is, entries_few, full_charged, lowers, row, some, sums_after, thin_charged}
use Rattle.em_trunk.proofs.Waits.{none_on}
use Rattle.em_trunk.proofs.Rooms.{keeps_by, peak_fits}
use Rattle.em_trunk.specs.Lists.{TookAll}
use Rattle.em_trunk.proofs.RootTaken.{with_fresh}
use Rattle.em_tree_load.proofs.Peaks.{peaks_same, peaks_then}
use Rattle.em_tree_load.specs.Peaks.{Peaks}
use Rattle.em_tree_load.proofs.LoadPeaks.{pouring_peaks}

-- the moves of both calls, by those of each
pub root_moves : (s a t b x d r n : ℕ) → a ≤ s + 1 → t ≤ a + (2 * b + 2 * x + 4 * r + 2) → r ≤ n → b ≡ d
    → x ≡ d → t ≤ s + (4 * d + 4 * n + 3)
root_moves s a t b x d r n i j k g z = omega (arith, i, j, k, g, z)

module _ (key : Record → Record) (step : Option Record → Record → Step)
    (IsOp IsKept : Record → Type 0) (laws : IsSettle key step IsOp IsKept) (l : ℕ) (s a t : RigState)
    (v : Trunk) (fresh : Writer) (c : Chain) (least : Option ℕ) (level : v.level ≡ suc l)
    (can : CanWork key IsOp IsKept s v) (drain : CanDrain s v)
    (took : TookAll s a v (with_fresh v fresh) c) (done : EmptiedAt key a t v.root c least) where
  same_pool : SameFrames s.pool t.pool
  same_pool = same_frames_then s.pool a.pool t.pool took.goes.frames done.frames

  abbrev held_first : List ℕ
  held_first = tree_blocks (suc l) s v.root ++ writer_blocks s v.buffer

  both : IsTrue s.device.told → Session held_first s t (tree_blocks (suc l) t v.root)
  both told = both_session key IsOp IsKept l s a v (with_fresh v fresh) c level can took told t least done

  low : IsTrue s.device.told → RootLowered key l a t v.root c
  low told = lowered key IsOp IsKept l s a v (with_fresh v fresh) c level can took told t least done

  base : Touches held_first s t
  base = touches_told took.goes.touches done.session.touches (λ z. (both z).touches)

  apart_tree : IsTrue s.device.told → Apart (tree_blocks (suc l) s v.root) (writer_blocks s v.buffer)
  apart_tree told =
      tree_apart key IsOp IsKept l s a v (with_fresh v fresh) c level can took told

  -- all blocks of the tree, the tree and its buffer first
  all_blocks : trunk_blocks s v ≡ held_first ++ writer_blocks s v.answers
  all_blocks =
      let b = writer_blocks s v.buffer in
      let x = writer_blocks s v.answers in
      ap (λ n. tree_blocks n s v.root ++ (b ++ x)) level
      ∙ sym (append_assoc (tree_blocks (suc l) s v.root) b x)

  all_hold : IsTrue s.device.told → Holds s (held_first ++ writer_blocks s v.answers)
  all_hold told =
      let H : List ℕ → Type 0 = Holds s in
      subst H all_blocks (can.running.stands told).holds

  frames : TrunkHasFrames t (with_fresh v fresh)
  frames =
      let i = can.running.frames in
      record {
        buffer = rw (done.session.touches.shape) took.fresh.is.frame.len_is;
        answers = rw (same_pool.shape) i.answers;
        out = rw (same_pool.free, same_pool.shape) i.out;
      }

  answers_stay : WriterStays s t v.answers
  answers_stay =
      let x = writer_blocks s v.answers in
      let f = frames in
      writer_stays held_first s t v.answers base
      (λ z. apart_sym held_first x (distinct_apart held_first x ((all_hold z).distinct z)))
      (record { len_is = f.answers; out = omega (arith, f.out) }) can.running.answers

  fresh_stays : WriterStays a t fresh
  fresh_stays =
      let f = frames in
      let P : List ℕ → Type 0 = λ ks. Apart ks (given_blocks a v.root c) in
      writer_stays (given_blocks a v.root c) a t fresh done.session.touches
      (λ z. subst P (sym (took.fresh.held z)) tt) (record { len_is = f.buffer; out = omega (arith, f.out) })
      took.fresh.is

  told_then : IsTrue s.device.told → IsTrue a.device.told
  told_then told = took.goes.touches.told ∙ told

  new_blocks : IsTrue s.device.told → trunk_blocks t (with_fresh v fresh)
      ≡ tree_blocks (suc l) t v.root ++ writer_blocks s v.answers
  new_blocks told =
      let y = writer_blocks t v.answers in
      let tree = tree_blocks (suc l) t v.root in
      let b = writer_blocks t fresh in
      let none : b ≡ [] = fresh_stays.blocks (told_then told) ∙ took.fresh.held (told_then told) in
      ap (λ n. tree_blocks n t v.root ++ (b ++ y)) level
      ∙ (ap (λ ks. tree ++ (ks ++ y)) none ∙ ap (λ ks. tree ++ ks) (answers_stay.blocks told))

  told_session : IsTrue s.device.told
      → Session (trunk_blocks s v) s t (trunk_blocks t (with_fresh v fresh))
  told_session told =
      let x = writer_blocks s v.answers in
      let tree = tree_blocks (suc l) t v.root in
      let P : List ℕ → Type 0 = λ ks. Session ks s t (trunk_blocks t (with_fresh v fresh)) in
      subst P (sym all_blocks) (session_as (trunk_blocks t (with_fresh v fresh))
      (session_beside [] held_first tree x (λ z. all_hold z) (both told)) new_blocks)

  loses : LosesNone (trunk_blocks s v) (trunk_blocks t (with_fresh v fresh)) s t
  loses told =
      let x = writer_blocks s v.answers in
      let tree = tree_blocks (suc l) t v.root in
      let new = trunk_blocks t (with_fresh v fresh) in
      let inner = both_loses key IsOp IsKept l s a v (with_fresh v fresh) c level can took told t least done in
      let beside = loses_beside [] held_first tree x s t inner in
      loses_from (held_first ++ x) (trunk_blocks s v) new s t
      (loses_as (held_first ++ x) (tree ++ x) new s t beside new_blocks) (λ z. all_blocks) told

  session : Session (trunk_blocks s v) s t (trunk_blocks t (with_fresh v fresh))
  session = record {
    sound = done.session.sound;
    touches = record {
      name = base.name;
      told = base.told;
      blocks = base.blocks;
      shape = base.shape;
      faults = base.faults;
      most = base.most;
      moves = base.moves;
      others = λ z. (told_session z).touches.others z;
    };
    within = record { off = λ z. (told_session z).within.off z };
    holds = λ z. (told_session z).holds z;
  }

  numbers : AreTrunkNumbers t (with_fresh v fresh)
  numbers =
      let n = can.running.numbers in
      record {
        level_some = n.level_some;
        level_most = n.level_most;
        since_most = n.since_most;
        longest_most = n.longest_most;
        pushed_most = n.pushed_most;
        settled_most = n.settled_most;
        resets_most = n.resets_most;
        adopted_most = n.adopted_most;
        counted_most = n.counted_most;
        spent_most = omega (arith, n.spent_most, base.moves);
        root_below = rw (base.blocks) n.root_below;
      }

  module _ (told : IsTrue s.device.told) where
    st : IsStanding key IsOp IsKept s v
    st = can.running.stands told

    kept_tree : tree_at (suc l) a v.root ≡ root_of s v
    kept_tree =
        let k = tree_kept key IsOp IsKept l s a v (with_fresh v fresh) c level can took told in
        k.tree ∙ ap (λ n. tree_at n s v.root) (sym level)

    items_are : chain_items a c ≡ writer_items s v.buffer
    items_are = took.finishes.items told

    new_is : root_of t (with_fresh v fresh) ≡ pour key (root_of s v) (writer_items s v.buffer)
    new_is = ap (λ n. tree_at n t v.root) level
        ∙ ((low told).reads ∙ (ap (λ x. pour key x (chain_items a c)) kept_tree
        ∙ ap (pour key (root_of s v)) items_are))

    continued : Continues key step IsOp IsKept (given_by s v) (model_of s v)
        (given_by t (with_fresh v fresh)) (model_of t (with_fresh v fresh))
    continued =
        let next = root_of t (with_fresh v fresh) in
        let none : writer_items t fresh ≡ [] = fresh_stays.items (told_then told) ∙ took.fresh.items (told_then told) in
        let same = root_emptied key step IsOp IsKept laws (given_by s v) least_record
        (writer_items s v.buffer) (root_of s v) next (some key IsOp IsKept l s v level can told) new_is in
        let P : List Record → Type 0 = λ g. Continues key step IsOp IsKept (given_by s v) (model_of s v) g
        (entry least_record [] next end) in
        let Q : List Record → Type 0 = λ xs. Continues key step IsOp IsKept (given_by s v) (model_of s v)
        (given_by t (with_fresh v fresh)) (entry least_record xs next end) in
        subst Q (sym none) (subst P (sym (answers_stay.items told)) same)

    formed : AreFormed v.level t v.root
    formed =
        let k = took.goes.touches in
        let P : ℕ → Type 0 = λ n. AreFormed n t v.root in
        let Q : ℕ → Type 0 = λ n. AreFormed n s v.root in
        let R : ℕ → Type 0 = λ n. IsTreeAt n s v.root in
        subst P (sym level) ((low told).formed (forms_stay (writer_blocks s v.buffer) s a k told (suc l) v.root
        (apart_tree told) (subst R level st.stored) (subst Q level st.formed)))

    standing : IsStanding key IsOp IsKept t (with_fresh v fresh)
    standing =
        let w = with_fresh v fresh in
        let shape = base.shape in
        let limit = full_limit s.pool.shape in
        let own = represents_itself key step IsOp IsKept (given_by s v) (model_of s v) st.is st.turn in
        let means = continued.represents (tree_contents key step (model_of s v))
        (tree_answers key step (given_by s v) (model_of s v)) own in
        let few : length (writer_items s v.buffer) ≤ limit = rw (count_is key IsOp IsKept l s v level can told) drain.most in
        let L : Tree → Type 0 = LowsKeep least_record in
        let T : ℕ → Type 0 = λ n. IsTreeAt n t v.root in
        let Z : ShapeNumbers → Type 0 = λ h. IsSized h (outline_of (model_of t w)) in
        let Y : Tree → Type 0 = λ x. IsSized s.pool.shape (outline_of (entry least_record
        (writer_items t fresh) x end)) in
        let B : ShapeNumbers → Type 0 = λ h. EachRead (IsBounded v.level (full_limit h)) t w in
        let C : Tree → Type 0 = λ x. EachEntry (IsBounded v.level limit) v.level least_record None x in
        record {
          holds = session.holds told;
          stored = subst T (sym level) (low told).is;
          formed = formed;
          is = means.is;
          turn = means.turn;
          lows = subst L (sym new_is) (lows_pour key (root_of s v) (writer_items s v.buffer) least_record
              st.lows);
          sized = subst Z (sym shape) (subst Y (sym new_is) (root_sized key s.pool.shape least_record
              (writer_items s v.buffer) (root_of s v) (row key IsOp IsKept l s v level can told) (some key IsOp IsKept l s v level can told) st.sized (writer_items t fresh)));
          bounded = subst B (sym shape) (subst C (sym new_is) (root_bounded key limit (root_of s v)
              (writer_items s v.buffer) v.level least_record None few (drain.thin told)));
          packed = fresh_stays.packed (told_then told) (took.fresh.packed (told_then told));
          answers_packed = answers_stay.packed told st.answers_packed;
        }

    -- the entries of the root
    entries_same : length (entries_at a v.root) ≡ length (entries_at s v.root)
    entries_same =
        let O : Tree → ℕ = λ x. count_of (outline_of x) in
        let first = row_count (tree_at l a) a (entries_at a v.root) in
        let last = row_count (tree_at l s) s (entries_at s v.root) in
        let mid : O (tree_at (suc l) a v.root) ≡ O (tree_at (suc l) s v.root) =
        ap O (kept_tree ∙ ap (λ n. tree_at n s v.root) level) in
        sym first ∙ (mid ∙ last)

    moves_few : t.moves ≤ s.moves + (4 * v.buffer.blocks + 4 * length (entries_at s v.root) + 3)
    moves_few =
        let z = told_then told in
        let e = entries_same in
        let r = reached_told a v.root c a.device.told refl z in
        let blocks = packed_blocks a c took.goes.sound.shape.block_low took.finishes.is z
        (took.finishes.packed told st.packed) in
        root_moves s.moves a.moves t.moves c.blocks (ceiling c.count (payload_in a)) v.buffer.blocks
        (reached a v.root c) (length (entries_at s v.root)) took.moves done.costs.moves
        (omega (arith, r, e)) took.finishes.blocks_is (sym blocks ∙ took.finishes.blocks_is)

    -- the blocks in use meanwhile
    peaks : Peaks (2 * fan_of s.pool.shape + 1) s t
    peaks =
        let z = told_then told in
        let e = entries_same in
        let r = reached_told a v.root c a.device.told refl z in
        let few = entries_few key IsOp IsKept l s v level can told in
        peaks_then (2 * fan_of s.pool.shape + 1) (peaks_same 0 took.same) (pouring_peaks done.costs)
        (omega (arith, e, r, few))

    sums_are : sums_in t (with_fresh v fresh) ≡ (sums_after key IsOp IsKept l s v level can told)
    sums_are =
        let S : ShapeNumbers → Sums = λ h. sums_of (2 * wide_of h * h.block) v.level
        (outline_of (root_of t (with_fresh v fresh))) fresh.count fresh.blocks in
        let half = 2 * wide_of s.pool.shape * s.pool.shape.block in
        let next = pour key (root_of s v) (writer_items s v.buffer) in
        ap S base.shape
        ∙ (ap (λ x. sums_of half v.level (outline_of x) fresh.count fresh.blocks) new_is
        ∙ (ap (λ n. sums_of half v.level (outline_of next) n fresh.blocks) took.fresh.count
        ∙ ap (λ n. sums_of half v.level (outline_of next) 0 n) took.fresh.blocks))

  running : IsRunning key IsOp IsKept t (with_fresh v fresh)
  running = record {
    frames = frames;
    numbers = numbers;
    buffer = fresh_stays.is;
    answers = answers_stay.is;
    stands = λ z. standing (sym base.told ∙ z);
  }

  pays : Pays (trunk_unstored v) (trunk_unstored (with_fresh v fresh)) s t
  pays =
      let x = min v.answers.blocks 1 in
      let none : min fresh.blocks 1 ≡ 0 = ap (λ n. min n 1) took.fresh.blocks in
      let first : Pays (trunk_unstored v) x s a = pays_more took.pays (omega arith) in
      let later : Pays x x a t = pays_more done.frees.pays (omega arith) in
      pays_more (pays_then first later done.session.touches.moves) (omega (arith, none))

  -- A step, by what its moves are charged to.
  step_by : (p q d : ℕ) → ((told : IsTrue s.device.told) (m : ℕ)
      → m ≤ 4 * v.buffer.blocks + 4 * length (entries_at s v.root) + 3
      → Charges s.pool.shape v.longest p m q d (sums_in s v) (sums_after key IsOp IsKept l s v level can told))
      → Works key step IsOp IsKept p q d 0 s t v (with_fresh v fresh)
  step_by p q d charge =
      let C : (told : IsTrue s.device.told) (m : ℕ)
      → m ≤ 4 * v.buffer.blocks + 4 * length (entries_at s v.root) + 3
      → Charges s.pool.shape v.longest p m q d (sums_in s v) (sums_in t (with_fresh v fresh)) =
      λ told m few. (let P : Sums → Type 0 = Charges s.pool.shape v.longest p m q d (sums_in s v) in
      subst P (sym (sums_are told)) (charge told m few)) in
      record {
        session = session;
        frames = same_pool;
        pays = pays;
        loses = loses;
        numbers = record {
          pushed = refl;
          longest = refl;
          since = refl;
          settled = refl;
          resets = refl;
          spent = refl;
          adopted = refl;
          counted = refl;
        };
        steps = omega arith;
        running = running;
        continues = continued;
        still = λ told. none_on key step IsOp IsKept (can.running.stands told).is (can.running.stands told).turn
            (continued told);
        charges = λ told. C told (t.moves - s.moves) (let h = moves_few told in omega (arith, h));
        paces = λ told. C told 0 (omega arith);
        gives = λ told.
            let e = ap (λ (x : Sums). x.waiting) (sums_are told) in
            let f = (lowers key IsOp IsKept l s v level can told).waiting in
            let g : v.answers.count + (sums_in t (with_fresh v fresh)).waiting
            ≤ v.answers.count + (sums_in s v).waiting = omega (arith, e, f) in
            g;
        room = λ told n h. keeps_by can.running can.sound.shape told (peaks told)
            (let p = peak_fits can.sound.shape in omega (arith, p)) n h;
      }

  pub root_works : DrainedRoot key step IsOp IsKept s t v (with_fresh v fresh)
  root_works = record {
    works = λ p big. step_by p (p + 18 + 3 * deepest s v) 0
        (λ told m few. full_charged key IsOp IsKept l s v level can told p m few big);
    owes = λ p. step_by p p (s.pool.shape.block * drain_debt s v) (λ told m few. thin_charged key IsOp IsKept l s v level can told p m few);
    pours = new_is;
    level = refl;
    drained = record { empty = took.fresh.count; unwritten = took.fresh.blocks };
  }
