-- A tree that was emptied, with a new one in its place: how the whole tree stands then.
use Rattle.std.proofs.Common.{◌≡◌, ℕ, ◌+◌, ◌-◌, ◌*◌, ◌≤◌, List, [], ◌++◌, drop, length, take, refl, sym, ap, ◌∙◌, subst, arith, IsTrue}
use Rattle.std.specs.Prelude.{Option, None}
use Rattle.std.proofs.lemmas.List.{append-nil}
use Rattle.em_record.specs.Shape.{IsShape, ShapeNumbers, wide_of}
use Rattle.em_record.specs.declared.record.Record.{Record}
use Rattle.em_frames.specs.Pool.{singles_of}
use Rattle.em_space.specs.Held.{Apart}
use Rattle.em_space.specs.Ledger.{Session}
use Rattle.em_space.specs.Rig.{InUse, RigState}
use Rattle.em_space.proofs.Held.{in_use_below}
use Rattle.em_space.proofs.Lists.{apart_left, apart_right, apart_sym, distinct_apart}
use Rattle.em_space.proofs.Paying.{pays_more}
use Rattle.em_space.proofs.Sessions.{session_as, session_beside}
use Rattle.em_chain.specs.Writer.{WriterStays, writer_blocks, writer_items}
use Rattle.em_chain.proofs.Laws.{writer_stays}
use Rattle.em_settle.specs.Laws.{IsSettle}
use Rattle.em_settle.specs.States.{stored_after}
use Rattle.em_settle.specs.declared.step.Step.{Step}
use Rattle.em_tree_model.specs.Meaning.{InTurn, tree_contents}
use Rattle.em_tree_model.specs.Ranges.{IsTree, least_record}
use Rattle.em_tree_model.specs.Taking.{TakesFirst}
use Rattle.em_tree_model.specs.Tree.{Tree, over_first, stored_at, stored_in, waiting_at, waiting_in}
use Rattle.em_tree_model.specs.Tree.Tree.{end, entry}
use Rattle.em_tree_model.proofs.Paths.{in_leaf, on_path}
use Rattle.em_tree_model.proofs.Removal.{takes_last_leaf}
use Rattle.em_tree_model.proofs.RowPlaces.{all_keys}
use Rattle.em_tree_blocks.specs.Reading.{tree_blocks}
use Rattle.em_tree_cost.specs.Books.{KeepsBooks, TreeCounts}
use Rattle.em_tree_cost.specs.Counters.{fresh_sums}
use Rattle.em_tree_cost.specs.Effects.{SumsTake}
use Rattle.em_tree_cost.specs.Outline.{sums_of, waiting_of}
use Rattle.em_tree_walk.specs.Paid.{LosesNone}
use Rattle.em_tree_walk.proofs.Losses.{loses_as, loses_beside}
use Rattle.em_tree_outline.specs.Outline.{outline_of}
use Rattle.em_tree_outline.proofs.FirstLeaves.{first_taken_sums}
use Rattle.em_tree_walk.specs.Lows.{LowsKeep}
use Rattle.em_trunk.specs.Buffers.{IsBounded, IsThin}
use Rattle.em_trunk.specs.Entries.{EachEntry}
use Rattle.em_tree_visits.specs.FirstVisits.{LeavesEmpty, TakesOn}
use Rattle.em_tree_visits.specs.Leavings.{ChangesTree, TookLone}
use Rattle.em_trunk.specs.Works.{IsDrained}
use Rattle.em_trunk.specs.Planting.{fresh_root}
use Rattle.em_trunk.specs.Sized.{IsSized}
use Rattle.em_trunk.specs.Trunk.{AreTrunkNumbers, IsRunning, IsStanding, TrunkHasFrames, full_limit, given_by, model_of, root_of, sums_in, trunk_blocks}
use Rattle.em_trunk.specs.declared.trunk.Trunk.{Trunk}
use Rattle.em_tree_visits.proofs.LeavingLifts.{buffer_none, sums_out}
use Rattle.em_trunk.proofs.NewTrunk.{fresh_bounded, fresh_is, fresh_lows, fresh_model, fresh_sized, fresh_thin, fresh_turn}
use Rattle.em_trunk.proofs.Rooms.{keeps_by, peak_fits}

-- a new tree has no contents
pub fresh_contents : (key : Record → Record) (step : Option Record → Record → Step) (q : Record)
    → tree_contents key step fresh_model q ≡ None
fresh_contents key step q =
    let is = fresh_is key in
    let none : stored_at key fresh_model q ≡ None =
    sym (in_leaf key fresh_model least_record None q is (all_keys q)) in
    let still : waiting_at key fresh_model q ≡ [] =
    sym (on_path key fresh_model least_record None q is (all_keys q)) in
    ap (λ (o : Option Record). stored_after step o (waiting_at key fresh_model q)) none
    ∙ ap (λ (xs : List Record). stored_after step None xs) still

-- the tree with another root, of level 1
abbrev pub replanted : Trunk → ℕ → Trunk
replanted v block = record v { root = block; level = 1 }

module _ (key : Record → Record) (step : Option Record → Record → Step) (IsOp IsKept : Record → Type 0)
    (laws : IsSettle key step IsOp IsKept) {s : RigState} {v : Trunk}
    (run : IsRunning key IsOp IsKept s v) (drained : IsDrained v)
    (over : IsTrue s.device.told → over_first (root_of s v) ≡ []) {t : RigState} {block : ℕ}
    (c : ChangesTree s t v.level v.root 1 block) (used : InUse t block) {area : List Record} {from n : ℕ}
    (lone : IsTrue s.device.told → TookLone s t v.level v.root block area from n) where
  abbrev old_blocks : List ℕ
  old_blocks = tree_blocks v.level s v.root

  abbrev new_blocks : List ℕ
  new_blocks = tree_blocks 1 t block

  abbrev list_blocks : List ℕ
  list_blocks = writer_blocks s v.buffer ++ writer_blocks s v.answers

  empty_buffer : writer_items s v.buffer ≡ []
  empty_buffer = buffer_none key step IsOp IsKept run drained over

  lists_off : IsTrue s.device.told → Apart list_blocks old_blocks
  lists_off z = apart_sym old_blocks list_blocks (distinct_apart old_blocks list_blocks ((run.stands z).holds.distinct z))

  lists_out : t.pool.free + 2 ≤ singles_of t.pool.shape
  lists_out = rw (c.frames.free, c.frames.shape) run.frames.out

  len_buffer : length v.buffer.frame ≡ t.pool.shape.block
  len_buffer = rw (c.frames.shape) run.frames.buffer

  len_answers : length v.answers.frame ≡ t.pool.shape.block
  len_answers = rw (c.frames.shape) run.frames.answers

  buffer_stays : WriterStays s t v.buffer
  buffer_stays = writer_stays old_blocks s t v.buffer c.session.touches
      (λ z. apart_left (writer_blocks s v.buffer) (writer_blocks s v.answers) old_blocks (lists_off z))
      (record { len_is = len_buffer; out = (let o = lists_out in omega (arith, o)) }) run.buffer

  answers_stay : WriterStays s t v.answers
  answers_stay = writer_stays old_blocks s t v.answers c.session.touches
      (λ z. apart_right (writer_blocks s v.buffer) (writer_blocks s v.answers) old_blocks (lists_off z))
      (record { len_is = len_answers; out = (let o = lists_out in omega (arith, o)) }) run.answers

  blocks_are : IsTrue s.device.told → trunk_blocks t (replanted v block) ≡ new_blocks ++ list_blocks
  blocks_are z = ap (λ ks. new_blocks ++ (ks ++ writer_blocks t v.answers)) (buffer_stays.blocks z)
      ∙ ap (λ ks. new_blocks ++ (writer_blocks s v.buffer ++ ks)) (answers_stay.blocks z)

  session : Session (trunk_blocks s v) s t (trunk_blocks t (replanted v block))
  session = session_as (trunk_blocks t (replanted v block))
      (session_beside [] old_blocks new_blocks list_blocks (λ y. (run.stands y).holds) c.session) blocks_are

  loses : LosesNone (trunk_blocks s v) (trunk_blocks t (replanted v block)) s t
  loses = loses_as (trunk_blocks s v) (new_blocks ++ list_blocks) (trunk_blocks t (replanted v block)) s t
      (loses_beside [] old_blocks new_blocks list_blocks s t c.loses) blocks_are

  frames : TrunkHasFrames t (replanted v block)
  frames = record { buffer = len_buffer; answers = len_answers; out = lists_out }

  numbers : AreTrunkNumbers t (replanted v block)
  numbers =
      let n = run.numbers in
      let h = c.session.touches in
      record {
        level_some = omega arith;
        level_most = omega arith;
        since_most = n.since_most;
        longest_most = n.longest_most;
        pushed_most = n.pushed_most;
        settled_most = n.settled_most;
        resets_most = n.resets_most;
        adopted_most = n.adopted_most;
        counted_most = n.counted_most;
        spent_most = omega (arith, n.spent_most, h.moves);
        root_below = in_use_below t block c.session.sound used;
      }

  -- what is read
  model_is : IsTrue s.device.told → model_of t (replanted v block) ≡ fresh_model
  model_is z = ap (λ (xs : List Record). entry least_record xs (root_of t (replanted v block)) end)
      (buffer_stays.items z ∙ empty_buffer)
      ∙ ap (λ (x : Tree). entry least_record [] x end) (lone z).reads

  stands : IsTrue s.device.told → IsStanding key IsOp IsKept t (replanted v block)
  stands z =
      let st = run.stands z in
      let p = lone z in
      let is = c.session.sound.shape in
      let limit = full_limit t.pool.shape in
      let T : Tree → Type 0 = λ x. IsTree key x least_record None in
      let U : Tree → Type 0 = InTurn key IsOp IsKept in
      let K : Tree → Type 0 = LowsKeep least_record in
      let Z : Tree → Type 0 = λ x. IsSized t.pool.shape (outline_of x) in
      let B : Tree → Type 0 = EachEntry (IsBounded 1 limit) 1 least_record None in
      record {
        holds = session.holds z;
        stored = p.is;
        formed = p.formed;
        is = subst T (sym (model_is z)) (fresh_is key);
        turn = subst U (sym (model_is z)) (fresh_turn key IsOp IsKept);
        lows = subst K (sym p.reads) fresh_lows;
        sized = subst Z (sym (model_is z)) (fresh_sized is);
        bounded = subst B (sym p.reads) (fresh_bounded is);
        packed = buffer_stays.packed z st.packed;
        answers_packed = answers_stay.packed z st.answers_packed;
      }

  takes : IsTrue s.device.told → TakesFirst key step IsOp IsKept (given_by s v) (model_of s v)
      (take n (drop from area)) (given_by t (replanted v block)) (model_of t (replanted v block))
  takes z =
      let p = lone z in
      let ys = take n (drop from area) in
      let G : List Record → Type 0 = λ g. TakesFirst key step IsOp IsKept (given_by s v) (model_of s v) ys g
      fresh_model in
      let M : Tree → Type 0 = λ x. TakesFirst key step IsOp IsKept (given_by s v) (model_of s v) ys
      (given_by t (replanted v block)) x in
      subst M (sym (model_is z)) (subst G (sym (answers_stay.items z))
      (takes_last_leaf key step IsOp IsKept laws (given_by s v) ys least_record (writer_items s v.buffer)
      (root_of s v) least_record p.lone p.stored (over z) empty_buffer))

  -- The tree was emptied,
  pub lone_on : TakesOn key step IsOp IsKept (take n (drop from area)) s t v (replanted v block)
  lone_on = record {
    session = session;
    frames = c.frames;
    pays = pays_more c.pays (omega arith);
    loses = loses;
    numbers = record { pushed = refl; longest = refl; since = refl; settled = refl; resets = refl; spent = refl; adopted = refl; counted = refl };
    running = record {
      frames = frames;
      numbers = numbers;
      buffer = buffer_stays.is;
      answers = answers_stay.is;
      stands = λ y. stands (sym c.session.touches.told ∙ y);
    };
    takes = takes;
    thin = λ z.
        let E : Tree → Type 0 = EachEntry (IsThin (full_limit s.pool.shape)) 1 least_record None in
        let F : ShapeNumbers → Type 0 = λ x. EachEntry (IsThin (full_limit x)) 1 least_record None fresh_root in
        subst E (sym (lone z).reads) (subst F c.session.touches.shape (fresh_thin c.session.sound.shape));
    drained = record { empty = drained.empty; unwritten = drained.unwritten };
    gives = λ z.
        let e : waiting_of (outline_of (root_of t (replanted v block))) ≡ 0 =
        ap (λ (x : Tree). waiting_of (outline_of x)) (lone z).reads in
        let f : v.answers.count + (sums_in t (replanted v block)).waiting
        ≤ v.answers.count + (sums_in s v).waiting = omega (arith, e) in
        f;
    room = λ z n h.
        let I : ShapeNumbers → Type 0 = IsShape in
        let is = subst I c.session.touches.shape c.session.sound.shape in
        keeps_by run is z c.peaks (let p = peak_fits is in omega (arith, p)) n h;
  }

  -- nothing is left,
  pub lone_empty : IsTrue s.device.told → LeavesEmpty key step t (replanted v block)
  lone_empty z =
      let C : Tree → Type 0 = λ x. (q : Record) → tree_contents key step x q ≡ None in
      record {
        contents = subst C (sym (model_is z)) (fresh_contents key step);
        stored = ap stored_in (model_is z);
        waiting = ap waiting_in (model_is z);
      }

  -- and the sums know what was taken, and are those of a new tree.
  pub lone_first : IsTrue s.device.told → SumsTake (length (take n (drop from area))) (sums_in s v)
      (sums_out key step IsOp IsKept run drained over)
  lone_first z =
      let ys = take n (drop from area) in
      first_taken_sums (2 * wide_of s.pool.shape * s.pool.shape.block) v.level v.buffer.count
      v.buffer.blocks (root_of s v) ys [] ((lone z).stored ∙ sym (append-nil ys))

  pub lone_books : (z : IsTrue s.device.told) (m : TreeCounts) → KeepsBooks s.pool.shape m 0 fresh_sums
      → KeepsBooks s.pool.shape m 0 (sums_in t (replanted v block))
  lone_books z m b =
      let half = 2 * wide_of t.pool.shape * t.pool.shape.block in
      let none : 0 - half + 0 ≡ 0 = omega arith in
      let P : ℕ → Type 0 = λ x. KeepsBooks s.pool.shape m 0 (record fresh_sums { excess = x }) in
      let base : KeepsBooks s.pool.shape m 0 (sums_of half 1 (outline_of fresh_root) 0 0) =
      subst P (sym none) b in
      let C : Tree → Type 0 = λ x. KeepsBooks s.pool.shape m 0 (sums_of half 1 (outline_of x) 0 0) in
      let D : ℕ → Type 0 = λ k. KeepsBooks s.pool.shape m 0
      (sums_of half 1 (outline_of (root_of t (replanted v block))) k 0) in
      let E : ℕ → Type 0 = λ k. KeepsBooks s.pool.shape m 0
      (sums_of half 1 (outline_of (root_of t (replanted v block))) v.buffer.count k) in
      subst E (sym drained.unwritten) (subst D (sym drained.empty) (subst C (sym (lone z).reads) base))
