-- The end of a push: its moves are counted, and it leaves what it promised.
use Rattle.std.proofs.Common.{◌≡◌, ◌⊎◌, ℕ, ◌+◌, ◌-◌, ◌*◌, ◌^◌, ◌<◌, ◌≤◌, max, List, [], ◌∷◌, sym, ap, ◌∙◌, subst, arith, inl, inr, IsTrue, Result, Ok, Err}
use Rattle.std.specs.Prelude.{IfErr, Option}
use Rattle.std.proofs.Math.Nat.{mul-le-mul_right}
use Rattle.em_record.specs.Shape.{ShapeNumbers}
use Rattle.em_record.specs.declared.record.Record.{Record}
use Rattle.em_settle.specs.Laws.{IsSettle}
use Rattle.em_settle.specs.declared.step.Step.{Step}
use Rattle.em_space.specs.Rig.{IfFull, RigState, Sound}
use Rattle.em_space.specs.declared.fault.EmFault.{EmFault}
use Rattle.em_space.proofs.Paying.{pays_more, pays_then}
use Rattle.em_space.proofs.Sessions.{session_trans}
use Rattle.em_space.proofs.Steps.{same_frames_then}
use Rattle.em_chain.specs.Writer.{writer_items}
use Rattle.em_tree_model.specs.Ranges.{least_record}
use Rattle.em_tree_model.specs.Tree.{Tree}
use Rattle.em_tree_cost.specs.Books.{Balanced, TreeCounts, count_push}
use Rattle.em_tree_cost.specs.Paid.{toll_of}
use Rattle.em_tree_cost.specs.Shares.{floors_of, tree_share}
use Rattle.em_tree_cost.proofs.Books.{books_share}
use Rattle.em_tree.proofs.Counted.{running_moved, same_counts}
use Rattle.em_tree_walk.proofs.Losses.{loses_then}
use Rattle.em_tree.specs.Calls.{ChangesTrunk, CountsCall, KeepsShare, PushesOp, StopsTrunk}
use Rattle.em_trunk.specs.Counting.{counted_moves, counted_push}
use Rattle.em_trunk.specs.Events.{Charges, ChargesUpTo, Continues}
use Rattle.em_trunk.specs.Meaning.{IsLater}
use Rattle.em_tree.specs.Pushing.{Appended, NeedsMore, PushedOp, PushesTo, StopsPush}
use Rattle.em_trunk.specs.Trunk.{IsTrunk, counts_of, given_by, model_of, root_of, sums_in, trunk_blocks}
use Rattle.em_trunk.specs.Works.{SameNumbers}
use Rattle.em_trunk.specs.declared.trunk.Trunk.{Trunk}
use Rattle.em_trunk.proofs.Ends.{pushed_books, refused_push_share, stopped_share}
use Rattle.em_trunk.proofs.Meaning.{leaves_pushed}
use Rattle.em_tree.proofs.PushBegins.{append_books}
use Rattle.em_tree.proofs.Pushed.{appended_model, appended_numbers}
use Rattle.em_trunk.proofs.Works.{numbers_then}
use Rattle.em_tree.proofs.RoomCalls.{pushing_room}
use Rattle.em_trunk.specs.Room.{FullOverRoom, WithinRoom}

-- what a refused append owes is within the toll of a reset
pub toll_some : (shape : ShapeNumbers) (k : ℕ) → 2 * shape.block ≤ toll_of shape k
toll_some shape k =
    let some : 2 ≤ 64 * floors_of shape k = omega arith in
    mul-le-mul_right shape.block some

-- a tree after a push, with its moves counted
abbrev pub ended : RigState → RigState → Trunk → Trunk
ended s t w = counted_moves (t.moves - s.moves) w

-- the numbers of a push that was counted
pub ended_counts : (s t : RigState) (v w : Trunk) → SameNumbers (counted_push s.pool.shape v) w
    → counts_of (ended s t w) ≡ count_push 0 (record (counts_of v) { spent = (ended s t w).spent })
ended_counts s t v w h = same_counts (counts_of (ended s t w))
    (count_push 0 (record (counts_of v) { spent = (ended s t w).spent })) h.pushed h.longest h.since
    (omega arith) h.resets h.settled h.adopted h.counted

pub counts_by : (s t : RigState) (v w : Trunk) → SameNumbers (counted_push s.pool.shape v) w
    → s.moves ≤ t.moves
    → (IsTrue s.device.told → v.spent + (t.moves - s.moves)
    ≤ tree_share s.pool.shape (v.pushed + 1 + v.counted) (max v.longest (v.since + 1)) v.resets v.settled)
    → CountsCall (count_push 0) s t v (ended s t w)
counts_by s t v w h later share =
    let same : w.spent ≡ v.spent = h.spent in
    let P : TreeCounts → Type 0 = KeepsShare s.pool.shape in
    record {
      counts = ended_counts s t v w h;
      spent = omega (arith, same, later);
      share = λ told. subst P (sym (ended_counts s t v w h)) (record {
        within = (let x = share told in omega (arith, x, same));
      });
    }

module _ (key : Record → Record) (step : Option Record → Record → Step) (IsOp IsKept : Record → Type 0)
    (op : Record) (s t : RigState) (v w : Trunk) (sound : Sound s) (few : v.pushed < 2 ^ 100)
    (i : IsTrunk key IsOp IsKept s v) where
  module _ (h : PushedOp key step IsOp IsKept op s t (counted_push s.pool.shape v) w) where
    numbers : SameNumbers (counted_push s.pool.shape v) w
    numbers = numbers_then (appended_numbers h.appended) h.works.numbers

    later : s.moves ≤ t.moves
    later =
        let a = h.appended.session.touches.moves in
        let b = h.works.session.touches.moves in
        omega (arith, a, b)

    -- The books are kept over the whole call.
    ended_books : IsTrue s.device.told → Balanced s.pool.shape (counts_of (ended s t w)) (sums_in t w)
    ended_books told =
        let a = h.appended in
        let m = h.mid in
        let first = a.session.touches in
        let first_moves = first.moves in
        let last_moves = h.works.session.touches.moves in
        let n = numbers in
        let spent = n.spent in
        let longest : h.after.longest ≡ max v.longest (v.since + 1) = ap (λ (z : Trunk). z.longest) a.is in
        let S : ShapeNumbers → Type 0 = λ g. Charges g h.after.longest 0 (t.moves - m.moves) h.spare 0
        (sums_in m h.after) (sums_in t w) in
        let K : ℕ → Type 0 = λ k. Charges s.pool.shape k 0 (t.moves - m.moves) h.spare 0
        (sums_in m h.after) (sums_in t w) in
        pushed_books (counts_of v) (counts_of (ended s t w)) (m.moves - s.moves) (t.moves - m.moves) h.spare sound.shape
        (append_books sound few i told m h.after a)
        (subst K longest (subst S first.shape (h.works.charges (first.told ∙ told))))
        n.pushed n.longest n.since n.resets n.settled n.adopted n.counted (omega (arith, spent, first_moves, last_moves))

    ended_trunk : IsTrunk key IsOp IsKept t (ended s t w)
    ended_trunk =
        let first = h.appended.session.touches in
        let last = h.works.session.touches in
        let back = λ (z : IsTrue t.device.told).
        (let y : IsTrue s.device.told = sym first.told ∙ (sym last.told ∙ z) in y) in
        let shape : t.pool.shape ≡ s.pool.shape = last.shape ∙ first.shape in
        let K : ShapeNumbers → Type 0 = λ g. Balanced g (counts_of (ended s t w)) (sums_in t w) in
        let n = numbers in
        let spent = n.spent in
        let longest = n.longest in
        let old = i.running.numbers.spent_most in
        let moves = later in
        record {
          running = running_moved (t.moves - s.moves) (omega (arith, spent, old, moves)) h.works.running;
          few = h.few;
          unused = λ e. absurd (omega (arith, e, longest));
          silent = λ z e. absurd (omega (arith, e, longest));
          blocks = h.blocks;
          thin = λ z. h.thin (back z);
          books = λ z. subst K (sym shape) (ended_books (back z));
        }

    -- A push that went well,
    pub pushed_changes : IsSettle key step IsOp IsKept → IsOp op
        → (IsTrue s.device.told → IsLater key (model_of s v) op)
        → ChangesTrunk key step IsOp IsKept (op ∷ []) s t v (ended s t w)
    pushed_changes laws is above =
        let a = h.appended in
        record {
          is = ended_trunk;
          session = session_trans a.session h.works.session;
          frames = same_frames_then s.pool h.mid.pool t.pool a.frames h.works.frames;
          pays = pays_then a.pays h.works.pays h.works.session.touches.moves;
          loses = loses_then (trunk_blocks s v) (trunk_blocks h.mid h.after) (trunk_blocks t (ended s t w)) s
              h.mid t a.session.touches.told a.loses h.works.loses;
          meaning = λ told.
              let st = i.running.stands told in
              let C : List Record → Type 0 = λ xs. Continues key step IsOp IsKept xs (model_of h.mid h.after)
              (given_by t w) (model_of t w) in
              let M : Tree → Type 0 = λ x. Continues key step IsOp IsKept (given_by s v) x (given_by t w)
              (model_of t w) in
              leaves_pushed key step IsOp IsKept laws (given_by s v) (given_by t w) least_record
              (writer_items s v.buffer) (root_of s v) op is st.is st.turn (above told) (model_of t w)
              (subst M (appended_model a told) (subst C (a.given told)
              (h.works.continues (a.session.touches.told ∙ told))));
        }

    pub pushed_counts : CountsCall (count_push 0) s t v (ended s t w)
    pushed_counts = counts_by s t v w numbers later (λ told.
        (let n = numbers in
        let spent = n.spent in
        let P : TreeCounts → Type 0 = KeepsShare s.pool.shape in
        let all = subst P (ended_counts s t v w n) (record { within = books_share sound.shape (ended_books told) }) in
        let x = all.within in
        omega (arith, x, spent)))

  module _ (fault : EmFault) (h : StopsPush op s t (counted_push s.pool.shape v) w fault) where
    -- and one that gave up.
    pub stopped_trunk : StopsTrunk s t v (ended s t w) fault
    stopped_trunk =
        let is = sound.shape in
        record {
          goes = h.goes;
          frames = record { buffer = h.frames.buffer; answers = h.frames.answers; out = h.frames.out };
          pays = pays_more h.pays (omega (arith, is.frames_low));
          cause = h.cause;
        }

    stopped_within : IsTrue s.device.told
        → (t.moves ≤ s.moves + 2)
        ⊎ ((m : RigState) × (x : Trunk) × Appended op s m (counted_push s.pool.shape v) x
        × ChargesUpTo s.pool.shape (max v.longest (v.since + 1)) 0 (t.moves - m.moves) 0 (sums_in m x))
        → v.spent + (t.moves - s.moves)
        ≤ tree_share s.pool.shape (v.pushed + 1 + v.counted) (max v.longest (v.since + 1)) v.resets v.settled
    stopped_within told (inl two) = refused_push_share (counts_of v) (t.moves - s.moves) sound.shape few
        (omega (arith, two)) (i.books told) (toll_some s.pool.shape (max v.longest (v.since + 1)))
    stopped_within told (inr (m, x, a, up)) =
        let c = count_push (m.moves - s.moves) (counts_of v) in
        let b = append_books sound few i told m x a in
        let all = stopped_share c 0 (t.moves - m.moves) sound.shape b.books b.counted up (omega arith) in
        omega (arith, all)

    pub stopped_counts : CountsCall (count_push 0) s t v (ended s t w)
    stopped_counts = counts_by s t v w h.numbers h.goes.touches.moves
        (λ told. stopped_within told (h.charges told))

  -- By its result: what it leaves,
  pub pushes_of : IsSettle key step IsOp IsKept → IsOp op
      → (IsTrue s.device.told → IsLater key (model_of s v) op) → (r : Result (Unit {0}) EmFault)
      → PushesTo key step IsOp IsKept op s t (counted_push s.pool.shape v) w r
      → PushesOp key step IsOp IsKept op s t v (ended s t w) r
  pushes_of laws is above (Ok x) h = pushed_changes h laws is above
  pushes_of laws is above (Err fault) h = stopped_trunk fault h

  -- and what it counts.
  pub counts_pushed : (r : Result (Unit {0}) EmFault)
      → PushesTo key step IsOp IsKept op s t (counted_push s.pool.shape v) w r
      → CountsCall (count_push 0) s t v (ended s t w)
  counts_pushed (Ok x) h = pushed_counts h
  counts_pushed (Err fault) h = stopped_counts fault h

  -- A push that was full may have needed a block.
  pub needs_pushed : (r : Result (Unit {0}) EmFault)
      → PushesTo key step IsOp IsKept op s t (counted_push s.pool.shape v) w r
      → IfErr r (λ fault. IfFull fault (λ _. NeedsMore s v))
  needs_pushed (Ok x) h = tt
  needs_pushed (Err fault) h = h.needs

  -- The same of a call: it counted the push first, and its moves since a number that it took at first.
  module _ (w1 x : Trunk) (shape : ShapeNumbers) (start : ℕ) (same : shape ≡ s.pool.shape)
      (from : start ≡ s.moves) (counted : w1 ≡ counted_push shape v)
      (moved : x ≡ counted_moves (t.moves - start) w) (r : Result (Unit {0}) EmFault)
      (h : PushesTo key step IsOp IsKept op s t w1 w r) where
    at_start : PushesTo key step IsOp IsKept op s t (counted_push s.pool.shape v) w r
    at_start =
        let P : Trunk → Type 0 = λ z. PushesTo key step IsOp IsKept op s t z w r in
        subst P (counted ∙ ap (λ (g : ShapeNumbers). counted_push g v) same) h

    at_end : ended s t w ≡ x
    at_end = sym (moved ∙ ap (λ (n : ℕ). counted_moves (t.moves - n) w) from)

    pub call_pushes : IsSettle key step IsOp IsKept → IsOp op
        → (IsTrue s.device.told → IsLater key (model_of s v) op)
        → PushesOp key step IsOp IsKept op s t v x r
    call_pushes laws is above =
        let P : Trunk → Type 0 = λ z. PushesOp key step IsOp IsKept op s t v z r in
        subst P at_end (pushes_of laws is above r at_start)

    pub call_needs : IfErr r (λ fault. IfFull fault (λ _. NeedsMore s v))
    call_needs = needs_pushed r at_start

    pub call_counts : CountsCall (count_push 0) s t v x
    call_counts =
        let P : Trunk → Type 0 = λ z. CountsCall (count_push 0) s t v z in
        subst P at_end (counts_pushed r at_start)

    -- It keeps within the room.
    pub call_room : IsTrue s.device.told → WithinRoom (max v.longest (v.since + 1)) s t v
        × IfErr r (FullOverRoom (max v.longest (v.since + 1)) s v)
    call_room told = pushing_room sound i told few step op w r at_start
