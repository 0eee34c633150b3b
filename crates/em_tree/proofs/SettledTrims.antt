-- A tree of which all buffers were emptied, and which was made trim after that: what it means, and its books.
use Rattle.std.proofs.Common.{◌≡◌, ℕ, ◌+◌, ◌-◌, ◌*◌, ◌^◌, ◌≤◌, [], ◌++◌, length, sym, ◌∙◌, subst, arith, length-append, ◌⊎◌, IsTrue}
use Rattle.std.specs.Prelude.{Option}
use Rattle.em_record.specs.Cost.{blocks_of, room}
use Rattle.em_record.specs.Shape.{ShapeNumbers, wide_of}
use Rattle.em_record.specs.declared.record.Record.{Record}
use Rattle.em_settle.specs.declared.step.Step.{Step}
use Rattle.em_space.specs.Rig.{RigState, Sound}
use Rattle.em_space.proofs.Paying.{pays_then}
use Rattle.em_space.proofs.Sessions.{session_trans}
use Rattle.em_space.proofs.Steps.{same_frames_then}
use Rattle.em_chain.specs.Writer.{writer_blocks}
use Rattle.em_tree_blocks.specs.Reading.{tree_blocks}
use Rattle.em_tree_blocks.proofs.Entries.{tree_level}
use Rattle.em_tree_cost.specs.Books.{Balanced}
use Rattle.em_tree_cost.specs.Outline.{IsLevel, leaves_of, stored_of}
use Rattle.em_tree_cost.specs.Shares.{levels_of}
use Rattle.em_tree_cost.proofs.Ceilings.{blocks_ceil}
use Rattle.em_tree_model.specs.Tree.{stored_in}
use Rattle.em_tree_outline.specs.Outline.{outline_of}
use Rattle.em_tree_outline.proofs.Outlines.{outline_level, outline_stored}
use Rattle.em_tree_walk.proofs.Losses.{loses_then, writer_length}
use Rattle.em_trunk.specs.Counting.{counted_moves, counted_settling}
use Rattle.em_trunk.specs.Debts.{owing_all}
use Rattle.em_trunk.specs.Events.{Continues}
use Rattle.em_trunk.specs.Meaning.{IsSettled}
use Rattle.em_trunk.specs.Trunk.{IsTrunk, counts_of, full_limit, given_by, model_of, root_of, sums_in, trunk_blocks}
use Rattle.em_trunk.specs.Works.{SameNumbers}
use Rattle.em_trunk.specs.declared.trunk.Trunk.{Trunk}
use Rattle.em_trunk.proofs.Bounded.{limit_some}
use Rattle.em_trunk.proofs.Continues.{continues_then}
use Rattle.em_trunk.proofs.HeldBlocks.{held_few}
use Rattle.em_trunk.proofs.Meaning.{leaves_all, settled_all}
use Rattle.em_tree.specs.Calls.{ChangesTrunk, SettledTrunk}
use Rattle.em_tree.specs.Trimmed.{CanTrimTrunk, SettledTrim, SumsJoin, leaves_gone}
use Rattle.em_tree.proofs.Counted.{none_thin, running_moved}
use Rattle.em_tree.proofs.Joins.{FitsLevel, trimmed_books}
use Rattle.em_trunk.proofs.Works.{numbers_then}
use Rattle.em_tree.proofs.TrimOutlines.{trim_held, trim_low, trim_stored}
use Rattle.em_tree.proofs.TrimTolls.{trimmed_toll}
use Rattle.em_tree.proofs.TrimmedTrees.{none_in_model}
use Rattle.em_tree.proofs.Unused.{silent_all}

module _ (key : Record → Record) (step : Option Record → Record → Step)
    (IsOp IsKept : Record → Type 0) (s t : RigState) (v w : Trunk) (sound : Sound s)
    (is : IsTrunk key IsOp IsKept s v)
    (h : SettledTrim key step IsOp IsKept (owing_all s (counted_settling s.pool.shape v)) s t
    (counted_settling s.pool.shape v) w) where
  abbrev m : RigState
  m = h.mid

  abbrev x : Trunk
  x = h.emptied

  pub trim_numbers : SameNumbers (counted_settling s.pool.shape v) w
  trim_numbers = numbers_then h.settled.works.numbers h.trimmed.made.numbers

  pub trim_later : s.moves ≤ t.moves
  trim_later =
      let a = h.settled.works.session.touches.moves in
      let b = h.trimmed.made.session.touches.moves in
      omega (arith, a, b)

  trim_spent : w.spent ≤ s.moves
  trim_spent =
      let n = trim_numbers.spent in
      let most = is.running.numbers.spent_most in
      omega (arith, n, most)

  -- nothing waits in it
  can_then : CanTrimTrunk t w
  can_then = record {
    none = λ z. (h.trimmed.made.told (sym h.trimmed.made.session.touches.told ∙ z)).none;
    drained = h.trimmed.made.drained;
  }

  module _ (told : IsTrue s.device.told) where
    told_mid : IsTrue m.device.told
    told_mid = h.settled.works.session.touches.told ∙ told

    told_end : IsTrue t.device.told
    told_end = h.trimmed.made.session.touches.told ∙ told_mid

    -- the shape is the same all along
    shape_mid : m.pool.shape ≡ s.pool.shape
    shape_mid = h.settled.works.session.touches.shape

    shape_end : t.pool.shape ≡ s.pool.shape
    shape_end = h.trimmed.made.session.touches.shape ∙ shape_mid

    continues : Continues key step IsOp IsKept (given_by s v) (model_of s v) (given_by t w) (model_of t w)
    continues = continues_then key step IsOp IsKept (given_by s v) (given_by m x) (given_by t w) (model_of s v)
        (model_of m x) (model_of t w) (h.settled.works.continues told) (h.trimmed.made.told told_mid).continues

    -- All answers were given.
    all_settled : IsSettled key step (given_by s v) (model_of s v) (given_by t w) (model_of t w)
    all_settled =
        let st = is.running.stands told in
        settled_all key step IsOp IsKept (given_by s v) (given_by t w) (model_of s v) (model_of t w) st.is st.turn
        continues (none_in_model h.trimmed.made.running can_then told_end)

    -- all leaves are as far below, and the records are those of the leaves
    even : IsLevel (outline_of (root_of t w)) w.level
    even =
        let st = h.trimmed.made.running.stands told_end in
        outline_level key (root_of t w) w.level _ _ st.is.2 (tree_level w.level t w.root)

    all_stored : length (stored_in (model_of t w)) ≡ stored_of (outline_of (root_of t w))
    all_stored =
        let e = length-append (stored_in (root_of t w)) [] in
        let o = outline_stored (root_of t w) in
        omega (arith, e, o)

    fits_level : FitsLevel s.pool.shape (sums_in t w)
    fits_level =
        let o = outline_of (root_of t w) in
        let P : ShapeNumbers → Type 0 = λ g. (w.level ≡ 1) ⊎ (1 ≤ w.level)
        × (g.block * (2 * wide_of g) ^ w.level ≤ stored_of o) × (2 ≤ leaves_of o) in
        let made = h.trimmed.made in
        record {
          either = subst P shape_end (trim_stored t.pool.shape o w.level made.session.sound.shape
              made.running.numbers.level_some even (made.told told_mid).trim);
        }

    -- The books are kept.
    books : Balanced s.pool.shape (counts_of (counted_moves (t.moves - s.moves) w)) (sums_in t w)
    books =
        let made = h.trimmed.made in
        let on = made.told told_mid in
        let n = trim_numbers in
        let r = leaves_gone m t x w in
        let J : ShapeNumbers → Type 0 = λ g. SumsJoin (wide_of g) g.block r (sums_in m x) (sums_in t w) in
        let joins = subst J shape_mid on.joins in
        let fewer = joins.leaves in
        let some = joins.some in
        let first = h.settled.works.session.touches.moves in
        let last = made.session.touches.moves in
        let moves = made.moves told_mid in
        let empty = h.settled.drained in
        let toll = trimmed_toll key step IsOp IsKept s m v x sound is h.settled told (t.moves - m.moves) r
        (omega (arith, moves)) (omega (arith, fewer, some))
        (λ trim. (let q = h.trimmed.quiet told_mid trim in let same = q.0 in let few = q.1 in
        (omega (arith, same), omega (arith, few)))) in
        trimmed_books (counts_of v) (m.moves - s.moves) 0 h.settled.debt (t.moves - m.moves) sound.shape
        (is.books told) (h.settled.works.charges told) (counts_of (counted_moves (t.moves - s.moves) w)) r
        (sums_in t w) joins
        (record {
          root = made.drained.empty ∙ sym empty.empty;
          blocks = made.drained.unwritten ∙ sym empty.unwritten;
        })
        fits_level toll n.pushed n.longest n.since n.resets n.settled n.adopted n.counted
        (let spent = n.spent in omega (arith, spent, first, last))

    -- Its level and its blocks are those that so many records need.
    low : w.level ≤ levels_of t.pool.shape (length (stored_in (model_of t w)))
    low =
        let made = h.trimmed.made in
        let L : ℕ → Type 0 = λ n. w.level ≤ levels_of t.pool.shape n in
        subst L (sym all_stored) (trim_low t.pool.shape (outline_of (root_of t w)) w.level made.session.sound.shape
        even (made.told told_mid).trim)

    held : length (trunk_blocks t w) ≤ room t.pool.shape (length (stored_in (model_of t w))) + w.answers.blocks
    held =
        let made = h.trimmed.made in
        let is_shape = made.session.sound.shape in
        let shape = t.pool.shape in
        let o = outline_of (root_of t w) in
        let full = (blocks_ceil shape (stored_of o) is_shape).holds in
        let most = made.running.numbers.level_most in
        let few = held_few key IsOp IsKept t w made.running is_shape told_end (made.told told_mid).none w.level
        (blocks_of shape (stored_of o)) (omega arith) full in
        let all = trim_held shape o w.level (length (tree_blocks w.level t w.root)) is_shape even
        (made.told told_mid).trim most few in
        let tree = tree_blocks w.level t w.root in
        let b = writer_blocks t w.buffer in
        let a = writer_blocks t w.answers in
        let n1 = length-append tree (b ++ a) in
        let n2 = length-append b a in
        let lb = writer_length made.running.buffer told_end in
        let la = writer_length made.running.answers told_end in
        let none = made.drained.unwritten in
        let R : ℕ → Type 0 = λ n. length (trunk_blocks t w) ≤ room shape n + w.answers.blocks in
        subst R (sym all_stored) (omega (arith, all, n1, n2, lb, la, none))

  trim_trunk : IsTrunk key IsOp IsKept t (counted_moves (t.moves - s.moves) w)
  trim_trunk =
      let made = h.trimmed.made in
      let moves = t.moves - s.moves in
      let some = limit_some made.session.sound.shape in
      let spent = trim_spent in
      let later = trim_later in
      let back = λ (z : IsTrue t.device.told).
      (let y : IsTrue s.device.told = sym h.settled.works.session.touches.told
      ∙ (sym made.session.touches.told ∙ z) in y) in
      record {
        running = running_moved moves (omega (arith, spent, later)) made.running;
        few = (let e = made.drained.empty in omega (arith, e, some));
        unused = λ z. made.drained.unwritten;
        silent = λ z e. silent_all key step IsOp IsKept is (back z) (sym trim_numbers.longest ∙ e) (given_by t w)
            (all_settled (back z)).answers;
        blocks = (let e = made.drained.unwritten in omega (arith, e));
        thin = λ z. none_thin (full_limit t.pool.shape) some t w (can_then.none z);
        books = λ z.
            let P : ShapeNumbers → Type 0 = λ g. Balanced g (counts_of (counted_moves moves w)) (sums_in t w) in
            subst P (sym (shape_end (back z))) (books (back z));
      }

  trim_changes : ChangesTrunk key step IsOp IsKept [] s t v (counted_moves (t.moves - s.moves) w)
  trim_changes =
      let a = h.settled.works in
      let b = h.trimmed.made in
      record {
        is = trim_trunk;
        session = session_trans a.session b.session;
        frames = same_frames_then s.pool m.pool t.pool a.frames b.frames;
        pays = pays_then a.pays b.pays b.session.touches.moves;
        loses = loses_then (trunk_blocks s v) (trunk_blocks m x) (trunk_blocks t w) s m t a.session.touches.told
            a.loses b.loses;
        meaning = λ told.
            let st = is.running.stands told in
            leaves_all key step IsOp IsKept (given_by s v) (given_by t w) (model_of s v) (model_of t w) st.is
            st.turn (continues told);
      }

  -- What `settle_all` leaves that went well.
  pub trim_settled : SettledTrunk key step IsOp IsKept s t v (counted_moves (t.moves - s.moves) w)
  trim_settled = record {
    changes = trim_changes;
    settled = λ told. all_settled told;
    trim = λ told. (h.trimmed.made.told (told_mid told)).trim;
    low = λ told. low told;
    held = λ told. held told;
  }

  pub trim_books : IsTrue s.device.told
      → Balanced s.pool.shape (counts_of (counted_moves (t.moves - s.moves) w)) (sums_in t w)
  trim_books told = books told
