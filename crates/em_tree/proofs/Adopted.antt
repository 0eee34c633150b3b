-- A tree that was adopted stands, and its books are balanced.
use Rattle.std.proofs.Common.{◌≡◌, ◌⊎◌, ℕ, ◌+◌, ◌*◌, ◌<◌, ◌≤◌, List, [], ◌++◌, length, refl, sym, ap, ◌∙◌, subst, inl, inr, ⊎_elim, arith, IsTrue}
use Rattle.std.specs.Prelude.{None, Option, Some, IfSome, option_to_list}
use Rattle.std.proofs.lemmas.List.{append-nil}
use Rattle.em_record.specs.Shape.{ShapeNumbers, fan_of, wide_of}
use Rattle.em_record.specs.declared.record.Record.{Record}
use Rattle.em_frames.specs.Pool.{load_of, singles_of}
use Rattle.em_settle.specs.Keys.{record_at}
use Rattle.em_settle.specs.Rising.{Rises}
use Rattle.em_space.specs.Free.{Off}
use Rattle.em_space.specs.Held.{Holds}
use Rattle.em_space.specs.Rig.{RigState, Sound, Touches}
use Rattle.em_space.proofs.Held.{apart_none, holds_kept, in_use_below, in_use_kept}
use Rattle.em_space.proofs.Paying.{pays_kept}
use Rattle.em_space.proofs.Steps.{touches_both, touches_wider}
use Rattle.em_chain.specs.Effects.{LendsFrame, Unmoved}
use Rattle.em_chain.specs.Writer.{WriterStays, writer_blocks, writer_items}
use Rattle.em_chain.specs.Writes.{Begins}
use Rattle.em_chain.specs.declared.writer.Writer.{Writer}
use Rattle.em_chain.proofs.Laws.{writer_stays}
use Rattle.em_tree_blocks.specs.Reading.{IsTreeAt, tree_blocks}
use Rattle.em_tree_blocks.proofs.Entries.{tree_level}
use Rattle.em_tree_blocks.proofs.Frames.{TreeStays, tree_stays}
use Rattle.em_tree_cost.specs.Books.{Balanced, adopted_counts}
use Rattle.em_tree_cost.specs.Fat.{AllFat}
use Rattle.em_tree_cost.specs.Fusing.{LeavesFrom}
use Rattle.em_tree_cost.specs.Outline.{IsLevel, count_of, leaves_of, stored_of, sums_of, waiting_of}
use Rattle.em_tree_cost.proofs.Adopting.{books_adopted}
use Rattle.em_tree_cost.proofs.Levels.{fan_wide}
use Rattle.em_tree_model.specs.Meaning.{InTurn}
use Rattle.em_tree_model.specs.Ranges.{IsTree, least_record}
use Rattle.em_tree_model.specs.Tree.{Tree, stored_in, waiting_in}
use Rattle.em_tree_model.specs.Tree.Tree.{end, entry}
use Rattle.em_tree_outline.specs.Outline.{outline_of}
use Rattle.em_tree_outline.proofs.Outlines.{outline_level, outline_stored, outline_waiting}
use Rattle.em_tree_trim.specs.Trim.{IsTrim}
use Rattle.em_tree_trim.specs.Trimming.{outline_at, tree_of}
use Rattle.em_tree_walk.specs.Lows.{LowsKeep}
use Rattle.em_tree_walk.specs.declared.splitting.Root.{Root}
use Rattle.em_trunk.specs.Buffers.{IsBounded, IsThin, NoneFrom}
use Rattle.em_trunk.specs.Entries.{EachEntry}
use Rattle.em_trunk.specs.Sized.{IsSized}
use Rattle.em_trunk.specs.Trunk.{AreTrunkNumbers, IsStanding, IsTrunk, counts_of, full_limit, model_of, root_of, sums_in, trunk_blocks}
use Rattle.em_trunk.specs.declared.trunk.Trunk.{Trunk}
use Rattle.em_trunk.proofs.Bounded.{limit_some}
use Rattle.em_trunk.proofs.Entries.{each_map}
use Rattle.em_trunk.proofs.Stays.{forms_stay}
use Rattle.em_tree.specs.Adopting.{CanAdopt, IsAdoptable, IsAdopted}
use Rattle.em_tree.proofs.Settled.{none_waiting}
use Rattle.em_tree.proofs.TrimOutlines.{leaves_count, leaves_unbuffered, left_fat, none_bounded, none_unbuffered, root_child}

-- a tree that counts these records as adopted, and nothing else
abbrev pub adopted_trunk : Root → ℕ → Writer → Writer → Trunk
adopted_trunk root count buffer answers = record {
  root = root.block;
  level = root.level;
  buffer = buffer;
  answers = answers;
  pushed = 0;
  longest = count;
  since = count;
  settled = 0;
  resets = 0;
  adopted = count;
  counted = 0;
  spent = 0;
  steps = 0;
}

-- nothing was moved by two calls
pub unmoved_then : {s a t : RigState} → Unmoved s a → Unmoved a t → Unmoved s t
unmoved_then x y = record {
  device = y.device ∙ x.device;
  spare = y.spare ∙ x.spare;
  same = record {
    head = y.same.head ∙ x.same.head;
    used = y.same.used ∙ x.same.used;
    most = y.same.most ∙ x.same.most;
  };
  moves = y.moves ∙ x.moves;
}

-- where nothing waits, each buffer is thin
none_thin : (level limit : ℕ) → 0 < limit → (lo : Record) (hi : Option Record) (t : Tree)
    → EachEntry (NoneFrom 0) level lo hi t → EachEntry (IsThin limit) level lo hi t
none_thin level limit some lo hi t h = each_map (NoneFrom 0) (IsThin limit)
    (λ l k top b x.
    (let none = ap length (x (omega arith)) in
    let few : length b < limit = omega (arith, none, some) in
    few))
    level lo hi t h

-- a record by itself rises
alone_rises : (o : Option Record) → Rises (option_to_list o ++ [])
alone_rises None = tt
alone_rises (Some r) = (tt, tt)

-- so an order holds if no operation waits
turn_none : (key : Record → Record) (IsOp IsKept : Record → Type 0) (t : Tree) → waiting_in t ≡ []
    → ((q : Record) → IfSome (record_at key (stored_in t) q) IsKept) → InTurn key IsOp IsKept t
turn_none key IsOp IsKept t none kept = record {
  ops = λ q. rw none tt;
  kept = kept;
  rises = λ q. rw none (alone_rises (record_at key (stored_in t) q));
}

module _ (key : Record → Record) (IsOp IsKept : Record → Type 0) {s a t : RigState} {root : Root} {count : ℕ}
    {buffer answers : Writer} (sound : Sound s) (can : CanAdopt key IsKept s root count) (l : LendsFrame s a)
    (x : Unmoved s a) (b : Begins a buffer) (k : LendsFrame a t) (y : Unmoved a t) (c : Begins t answers) where
  abbrev v : Trunk
  v = adopted_trunk root count buffer answers

  abbrev held : List ℕ
  held = tree_blocks root.level s root.block

  touches : Touches [] s t
  touches = touches_both [] s a t l.touches k.touches

  out : t.pool.free + 2 ≤ singles_of t.pool.shape
  out =
      let w = l.within in
      let n = ap singles_of (k.frames.shape ∙ l.frames.shape) in
      omega (arith, w, n, l.frames.free, k.frames.free)

  buffer_stays : WriterStays a t buffer
  buffer_stays = writer_stays [] a t buffer k.touches (λ z. apart_none (writer_blocks a buffer))
      (record { len_is = b.is.frame.len_is ∙ ap (λ q. q.block) (sym k.frames.shape); out = omega (arith, out) }) b.is

  same_shape : t.pool.shape ≡ s.pool.shape
  same_shape = touches.shape

  numbers : AreTrunkNumbers t v
  numbers = record {
    level_some = can.level_some;
    level_most = can.level_most;
    since_most = omega arith;
    longest_most = let few = can.few in omega (arith, few);
    pushed_most = omega arith;
    settled_most = omega arith;
    resets_most = omega arith;
    adopted_most = can.few;
    counted_most = omega arith;
    spent_most = omega arith;
    root_below = in_use_below t root.block k.sound (in_use_kept [] s t root.block touches (λ z. tt) can.leads.in_use);
  }

  module _ (told : IsTrue s.device.told) where
    told_a : IsTrue a.device.told
    told_a = l.touches.told ∙ told

    can_be : IsAdoptable key IsKept s root count
    can_be = can.told told

    stored : IsTreeAt root.level s root.block
    stored = (can.leads.told told).is

    stays : TreeStays root.level s t root.block
    stays = tree_stays [] s t touches told root.level root.block (apart_none held) stored

    no_ops : writer_items t buffer ≡ []
    no_ops = buffer_stays.items told_a ∙ b.items

    blocks_are : trunk_blocks t v ≡ held
    blocks_are = ap (λ (xs : List ℕ). xs ++ (writer_blocks t buffer ++ writer_blocks t answers)) stays.blocks
        ∙ (ap (λ (xs : List ℕ). held ++ (xs ++ writer_blocks t answers)) (buffer_stays.blocks told_a ∙ b.held)
        ∙ (ap (λ (xs : List ℕ). held ++ xs) c.held ∙ append-nil held))

    whole : model_of t v ≡ entry least_record [] (tree_of s root) end
    whole = ap (λ (z : Tree). entry least_record (writer_items t buffer) z end) stays.tree
        ∙ ap (λ (xs : List Record). entry least_record xs (tree_of s root) end) no_ops

    none_at : EachEntry (NoneFrom 0) root.level least_record None (tree_of s root)
    none_at = none_unbuffered root.level s root.block root.level least_record None can_be.can.none

    none_in : waiting_in (tree_of s root) ≡ []
    none_in = none_waiting (tree_of s root) root.level least_record None none_at

    none_whole : waiting_in (entry least_record [] (tree_of s root) end) ≡ []
    none_whole = ap (λ (xs : List Record). (xs ++ []) ++ []) none_in

    stored_whole : stored_in (entry least_record [] (tree_of s root) end) ≡ stored_in (tree_of s root)
    stored_whole = append-nil (stored_in (tree_of s root))

    level_is : IsLevel (outline_at s root) root.level
    level_is = outline_level key (tree_of s root) root.level least_record None can_be.is (tree_level root.level s root.block)

    sized : IsSized s.pool.shape (outline_of (entry least_record [] (tree_of s root) end))
    sized = record {
      leaves = (leaves_unbuffered root.level s told root.block stored can_be.can.none, tt);
      nodes = (can_be.few, can_be.nodes, tt);
      fat = (left_fat s.pool.shape (outline_at s root) root.level level_is can_be.trim, tt);
    }

    standing : IsStanding key IsOp IsKept t v
    standing =
        let limit = full_limit t.pool.shape in
        let T : Tree → Type 0 = λ z. IsTree key z least_record None in
        let K : List Record → Type 0 = λ xs. (q : Record) → IfSome (record_at key xs q) IsKept in
        record {
          holds = subst (Holds t) (sym blocks_are) (holds_kept [] s t held touches (λ q. apart_none held) can_be.can.holds);
          stored = stays.is;
          formed = forms_stay [] s t touches told root.level root.block (apart_none held) stored can_be.can.formed;
          is = subst T (sym whole) (root_child root.level s root.block (can.leads.told told).rows, tt, can_be.is, tt, tt);
          turn = subst (InTurn key IsOp IsKept) (sym whole) (turn_none key IsOp IsKept _ none_whole
              (subst K (sym stored_whole) can_be.kept));
          lows = subst (LowsKeep least_record) (sym stays.tree) can_be.lows;
          sized = subst (λ (z : Tree). IsSized t.pool.shape (outline_of z)) (sym whole)
              (subst (λ (g : ShapeNumbers). IsSized g (outline_of (entry least_record [] (tree_of s root) end))) (sym same_shape) sized);
          bounded = subst (EachEntry (IsBounded root.level limit) root.level least_record None) (sym stays.tree)
              (none_bounded root.level limit (limit_some k.sound.shape) least_record None (tree_of s root) none_at);
          packed = buffer_stays.packed told_a b.packed;
          answers_packed = c.packed;
        }

    thin : EachEntry (IsThin (full_limit t.pool.shape)) root.level least_record None (root_of t v)
    thin = subst (EachEntry (IsThin (full_limit t.pool.shape)) root.level least_record None) (sym stays.tree)
        (none_thin root.level (full_limit t.pool.shape) (limit_some k.sound.shape) least_record None (tree_of s root) none_at)

    -- what the books ask of a trim tree
    either : (root.level ≡ 1) × (leaves_of (outline_at s root) ≡ 1)
        ⊎ (1 < count_of (outline_at s root)) × LeavesFrom (wide_of s.pool.shape * s.pool.shape.block) (outline_at s root)
        × AllFat (2 * wide_of s.pool.shape) (outline_at s root)
    either = ⊎_elim
        (λ (z : (root.level ≡ 1) × (count_of (outline_at s root) ≡ 1)).
        inl (z.0, leaves_count (outline_at s root) (subst (IsLevel (outline_at s root)) z.0 level_is) ∙ z.1))
        (λ (z : (1 < count_of (outline_at s root)) × LeavesFrom (load_of s.pool.shape) (outline_at s root)
        × AllFat (fan_of s.pool.shape) (outline_at s root)).
        inr (z.0, z.1, subst (λ (f : ℕ). AllFat f (outline_at s root)) (fan_wide s.pool.shape sound.shape) z.2))
        can_be.trim

    books : Balanced t.pool.shape (counts_of v) (sums_in t v)
    books =
        let count_is : stored_of (outline_at s root) ≡ count = outline_stored (tree_of s root) ∙ can_be.count in
        let none : waiting_of (outline_at s root) ≡ 0 = outline_waiting (tree_of s root) ∙ ap length none_in in
        let few = can.few in
        let base = books_adopted (outline_at s root) sound.shape (omega (arith, few, count_is)) none root.level
        can.level_some level_is either in
        let A : ℕ → Type 0 = λ n. Balanced s.pool.shape (adopted_counts n)
        (sums_of (2 * wide_of s.pool.shape * s.pool.shape.block) root.level (outline_at s root) 0 0) in
        let B : ShapeNumbers → Type 0 = λ g. Balanced g (adopted_counts count)
        (sums_of (2 * wide_of g * g.block) root.level (outline_at s root) 0 0) in
        let C : Tree → Type 0 = λ z. Balanced t.pool.shape (adopted_counts count)
        (sums_of (2 * wide_of t.pool.shape * t.pool.shape.block) root.level (outline_of z) 0 0) in
        let D : ℕ → Type 0 = λ n. Balanced t.pool.shape (adopted_counts count)
        (sums_of (2 * wide_of t.pool.shape * t.pool.shape.block) root.level (outline_of (root_of t v)) n 0) in
        let E : ℕ → Type 0 = λ n. Balanced t.pool.shape (adopted_counts count)
        (sums_of (2 * wide_of t.pool.shape * t.pool.shape.block) root.level (outline_of (root_of t v)) buffer.count n) in
        subst E (sym b.blocks) (subst D (sym b.count) (subst C (sym stays.tree)
        (subst B (sym same_shape) (subst A count_is base))))

  back : IsTrue t.device.told → IsTrue s.device.told
  back z = sym touches.told ∙ z

  is_trunk : IsTrunk key IsOp IsKept t v
  is_trunk =
      let some = limit_some k.sound.shape in
      record {
        running = record {
          frames = record {
            buffer = buffer_stays.is.frame.len_is;
            answers = c.is.frame.len_is;
            out = out;
          };
          numbers = numbers;
          buffer = buffer_stays.is;
          answers = c.is;
          stands = λ z. standing (back z);
        };
        few = omega (arith, b.count, some);
        unused = λ e. b.blocks;
        silent = λ z e. c.items;
        blocks = omega (arith, b.blocks);
        thin = λ z. thin (back z);
        books = λ z. books (back z);
      }

  -- It is what `adopt` promises.
  pub adopted_tree : IsAdopted key IsOp IsKept s t root count v
  adopted_tree = record {
    is = is_trunk;
    session = record {
      sound = k.sound;
      touches = touches_wider held [] s t touches (λ z j u o. tt);
      within = record {
        off = λ z j i o. (let O : List ℕ → Type 0 = Off j in subst O (sym (blocks_are z)) o);
      };
      holds = λ z. (standing z).holds;
    };
    blocks = λ z. blocks_are z;
    frames = record {
      shape = k.frames.shape ∙ l.frames.shape;
      free = omega (arith, l.frames.free, k.frames.free);
      rack = k.frames.rack ∙ l.frames.rack;
      free_areas = k.frames.free_areas ∙ l.frames.free_areas;
      peak = omega (arith, l.frames.peak, k.frames.peak);
    };
    unmoved = unmoved_then x y;
    pays = pays_kept 0 (omega (arith, x.same.used, y.same.used)) (omega (arith, x.moves, y.moves));
    level = refl;
    counts = refl;
    no_block = c.blocks;
    stored = λ z. ap stored_in (whole z) ∙ stored_whole z;
    waiting = λ z. ap waiting_in (whole z) ∙ none_whole z;
    given = λ z. c.items;
    trim = λ z. subst (λ (u : Tree). IsTrim t.pool.shape root.level (outline_of u)) (sym (stays z).tree)
        (subst (λ (g : ShapeNumbers). IsTrim g root.level (outline_at s root)) (sym same_shape) (can_be z).trim);
  }
