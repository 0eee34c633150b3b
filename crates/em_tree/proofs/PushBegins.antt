-- A push begins: it is counted, and has its steps. After its append the books are kept.
use Rattle.std.proofs.Common.{◌≡◌, ℕ, ◌+◌, ◌-◌, ◌*◌, ◌^◌, ◌<◌, ◌≤◌, max, refl, sym, ap, ◌∙◌, subst, arith, IsTrue, inl}
use Rattle.em_record.specs.Shape.{ShapeNumbers, payload_of, wide_of}
use Rattle.em_record.specs.declared.record.Record.{Record}
use Rattle.em_settle.specs.Laws.{IsSettle}
use Rattle.em_settle.specs.declared.step.Step.{Step}
use Rattle.std.specs.Prelude.{Option}
use Rattle.em_space.specs.Queue.{CanServe}
use Rattle.em_space.specs.Rig.{RigState, Sound}
use Rattle.em_chain.specs.Counts.{ceiling}
use Rattle.em_chain.specs.Writer.{IsPackedSoFar, IsWriter, filled, writer_items}
use Rattle.em_chain.specs.declared.writer.Writer.{Writer}
use Rattle.em_chain.proofs.Counts.{writer_blocks_are}
use Rattle.em_chain.proofs.Tight.{tight_filled}
use Rattle.em_tree_model.specs.Ranges.{least_record}
use Rattle.em_tree_model.specs.Tree.{Tree}
use Rattle.em_tree_cost.specs.Books.{Balanced, InCall, IsCounted, KeepsBooks, count_moves, count_push}
use Rattle.em_tree_cost.specs.Counters.{Counters, Sums}
use Rattle.em_tree_cost.specs.Effects.{SumsPush}
use Rattle.em_tree_cost.specs.Outline.{Outline, sums_of}
use Rattle.em_tree_cost.specs.Sizes.{IsCeil}
use Rattle.em_tree_cost.proofs.Books.{books_push, counted_pushing}
use Rattle.em_tree_cost.proofs.InCall.{call_begins}
use Rattle.em_tree_cost.proofs.Ceilings.{ceiling_is}
use Rattle.em_tree_outline.specs.Outline.{outline_of}
use Rattle.em_trunk.specs.Counting.{counted_push}
use Rattle.em_trunk.specs.Works.{CanWork}
use Rattle.em_trunk.specs.Events.{step_allowance}
use Rattle.em_trunk.specs.Steps.{HasSteps}
use Rattle.em_trunk.specs.Meaning.{IsLater}
use Rattle.em_tree.specs.Pushing.{Appended, CanPushOp}
use Rattle.em_trunk.specs.Trunk.{IsRunning, IsTrunk, counts_of, given_by, model_of, root_of, sums_in}
use Rattle.em_trunk.specs.declared.trunk.Trunk.{Trunk}
use Rattle.em_trunk.proofs.Charges.{books_less}
use Rattle.em_trunk.proofs.Meaning.{represents_pushed}
use Rattle.em_trunk.proofs.Steps.{books_anew, since_call}

-- One operation more stands in the root's buffer.
pub sums_appended : (half level : ℕ) (t : Outline) (x y d e : ℕ) → y ≡ x + 1
    → SumsPush (sums_of half level t x d) (sums_of half level t y e)
sums_appended half level t x y d e one =
    let more : level * (x + 1) ≡ level * x + level = grind arith in
    let same : level * y ≡ level * (x + 1) = ap (λ (n : ℕ). level * n) one in
    record {
      level = refl;
      leaves = refl;
      waiting = omega (arith, one);
      weight = omega (arith, more, same);
      stored = omega arith;
      excess = omega arith;
    }

-- a packed list has the blocks that its records take
pub packed_ceil : (m : RigState) (b : Writer) → Sound m → IsTrue m.device.told → IsWriter m b
    → IsPackedSoFar m b → IsCeil b.blocks (payload_of m.pool.shape) b.count
packed_ceil m b sound told is packed =
    let low = sound.shape.block_low in
    let P = payload_of m.pool.shape in
    let places = tight_filled m b is told (record { full = packed.is.full }) in
    let none = packed.is.skip_is in
    let all : filled m b ≡ b.count = omega (arith, places, none) in
    let blocks : b.blocks ≡ ceiling b.count P =
    writer_blocks_are m b low is ∙ ap (λ (n : ℕ). ceiling n P) all in
    let C : ℕ → Type 0 = λ n. IsCeil n P b.count in
    subst C (sym blocks) (ceiling_is b.count P (omega (arith, low)))

-- as many moves as blocks pay for
moves_within : (a b c d : ℕ) → b + 2 * c ≤ a + 2 * d → a ≤ b → b - a + 2 * c ≤ 2 * d
moves_within a b c d h k = omega (arith, h, k)

module _ {key : Record → Record} {IsOp IsKept : Record → Type 0} {s : RigState} {v : Trunk}
    (sound : Sound s) (few : v.pushed < 2 ^ 100) (i : IsTrunk key IsOp IsKept s v) where
  -- the tree whose push was counted
  abbrev pub begun : Trunk
  begun = counted_push s.pool.shape v

  longest_few : max v.longest (v.since + 1) ≤ v.pushed + 1 + 2 ^ 100
  longest_few =
      let n = i.running.numbers in omega (arith, n.since_most, n.longest_most)

  -- it stands as it did
  pub begun_runs : IsRunning key IsOp IsKept s begun
  begun_runs =
      let r = i.running in
      let n = r.numbers in
      let long = longest_few in
      record {
        frames = record { buffer = r.frames.buffer; answers = r.frames.answers; out = r.frames.out };
        numbers = record {
          level_some = n.level_some;
          level_most = n.level_most;
          since_most = omega arith;
          longest_most = long;
          pushed_most = omega (arith, few);
          settled_most = n.settled_most;
          resets_most = n.resets_most;
          adopted_most = n.adopted_most;
          counted_most = n.counted_most;
          spent_most = n.spent_most;
          root_below = n.root_below;
        };
        buffer = r.buffer;
        answers = r.answers;
        stands = λ told. (let st = r.stands told in record {
          holds = st.holds;
          stored = st.stored;
          formed = st.formed;
          is = st.is;
          turn = st.turn;
          lows = st.lows;
          sized = st.sized;
          bounded = st.bounded;
          packed = st.packed;
          answers_packed = st.answers_packed;
        });
      }

  -- its buffers can be emptied
  pub begun_works : CanServe s.pool → CanWork key IsOp IsKept s begun
  begun_works free = record {
    sound = sound;
    running = begun_runs;
    free = omega (arith, free.singles);
    areas = free.areas;
    rack = free.rack;
  }

  module _ (told : IsTrue s.device.told) {op : Record} (m : RigState) (w : Trunk)
      (app : Appended op s m begun w) where
    abbrev half : ShapeNumbers → ℕ
    half shape = 2 * wide_of shape * shape.block

    same_sums : sums_of (half s.pool.shape) v.level (outline_of (root_of s v)) w.buffer.count
        w.buffer.blocks ≡ sums_in m w
    same_sums =
        let level : w.level ≡ v.level = ap (λ (z : Trunk). z.level) app.is in
        sym (ap (λ (h : ShapeNumbers). sums_of (half h) w.level (outline_of (root_of m w)) w.buffer.count
        w.buffer.blocks) app.frames.shape
        ∙ (ap (λ (n : ℕ). sums_of (half s.pool.shape) n (outline_of (root_of m w)) w.buffer.count
        w.buffer.blocks) level
        ∙ ap (λ (r : Tree). sums_of (half s.pool.shape) v.level (outline_of r) w.buffer.count
        w.buffer.blocks) (app.root told)))

    -- The operation pays for the append.
    pub append_books : Balanced s.pool.shape (count_push (m.moves - s.moves) (counts_of v)) (sums_in m w)
    append_books =
        let shape = s.pool.shape in
        let c = count_push (m.moves - s.moves) (counts_of v) in
        let C : ShapeNumbers → Type 0 = λ h. IsCeil w.buffer.blocks (payload_of h) w.buffer.count in
        let ceil = subst C app.frames.shape (packed_ceil m w.buffer app.session.sound
        (app.session.touches.told ∙ told) app.buffer (app.packed told)) in
        let u = sums_of (half shape) v.level (outline_of (root_of s v)) w.buffer.count w.buffer.blocks in
        let K : Sums → Type 0 = Balanced shape c in
        let b = i.books told in
        let more = sums_appended (half shape) v.level (outline_of (root_of s v)) v.buffer.count w.buffer.count
        v.buffer.blocks w.buffer.blocks app.count in
        let next = books_push b.books (m.moves - s.moves) u sound.shape few more app.count
        (moves_within s.moves m.moves v.buffer.blocks w.buffer.blocks app.moves app.session.touches.moves) ceil in
        let C2 : Counters → Type 0 = λ cs. IsCounted shape c cs u in
        subst K same_sums (record {
          books = next.0;
          counted = subst C2 (sym next.1) (counted_pushing shape (counts_of v) more b.counted);
        })

    -- So the call has its steps after it.
    pub begun_steps : HasSteps 0 m w
    begun_steps =
        let c = count_push (m.moves - s.moves) (counts_of v) in
        let fresh : KeepsBooks s.pool.shape (since_call c) 0 (sums_in m w) =
        books_anew (omega arith) append_books.books in
        let start = books_less (since_call c) (count_moves 0 (since_call c)) 0 0 refl refl refl refl refl refl
        (omega arith) (omega arith) fresh in
        let B : ShapeNumbers → Type 0 = λ h. InCall h (count_moves 0 (since_call c)) 0 0 0 (sums_in m w) in
        let most = longest_few in
        let steps : w.steps ≡ step_allowance s.pool.shape (c.n + c.k) c.k = ap (λ (z : Trunk). z.steps) app.is in
        let L : ShapeNumbers → Type 0 = λ h. w.steps + 0 ≡ step_allowance h (c.n + c.k) c.k in
        record {
          counts = since_call c;
          owed = 0;
          handed = 0;
          split = 0;
          longest = sym (ap (λ (z : Trunk). z.longest) app.is);
          few = omega (arith, most, few);
          none_taken = refl;
          none_settled = refl;
          books = subst B (sym app.frames.shape) (call_begins start.0);
          may = record { either = inl (omega arith) };
          left = subst L (sym app.frames.shape) (omega (arith, steps));
        }

  -- An operation that may be pushed can be.
  pub begun_can : (step : Option Record → Record → Step) (op : Record) → IsSettle key step IsOp IsKept
      → IsOp op → (IsTrue s.device.told → IsLater key (model_of s v) op)
      → CanPushOp key IsOp IsKept op s begun
  begun_can step op laws is later = record {
    few = i.few;
    blocks = i.blocks;
    thin = i.thin;
    is = λ told.
        let st = i.running.stands told in
        (represents_pushed key step IsOp IsKept laws (given_by s v) (given_by s v) least_record
        (writer_items s v.buffer) (root_of s v) op is st.is st.turn (later told)).is;
    turn = λ told.
        let st = i.running.stands told in
        (represents_pushed key step IsOp IsKept laws (given_by s v) (given_by s v) least_record
        (writer_items s v.buffer) (root_of s v) op is st.is st.turn (later told)).turn;
    steps = λ told m w app. begun_steps told m w app;
  }

  -- The same of a call that counted the push.
  module _ (w : Trunk) (shape : ShapeNumbers) (same : shape ≡ s.pool.shape)
      (counted : w ≡ counted_push shape v) where
    at_start : counted_push s.pool.shape v ≡ w
    at_start = sym (counted ∙ ap (λ (g : ShapeNumbers). counted_push g v) same)

    pub call_works : CanServe s.pool → CanWork key IsOp IsKept s w
    call_works free =
        let P : Trunk → Type 0 = CanWork key IsOp IsKept s in
        subst P at_start (begun_works free)

    pub call_can : (step : Option Record → Record → Step) (op : Record) → IsSettle key step IsOp IsKept
        → IsOp op → (IsTrue s.device.told → IsLater key (model_of s v) op)
        → CanPushOp key IsOp IsKept op s w
    call_can step op laws is later =
        let P : Trunk → Type 0 = CanPushOp key IsOp IsKept op s in
        subst P at_start (begun_can step op laws is later)
