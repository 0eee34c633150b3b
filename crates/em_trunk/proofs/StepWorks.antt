-- A step that moves nothing, and a search: what is read stays.
use Rattle.std.proofs.Common.{IsTrue, List, ℕ, [], ap, arith, inl, inr, refl, subst, sym, ⊎_elim, ◌*◌, ◌+◌, ◌-◌, ◌∙◌, ◌≡◌, ◌≤◌, ◌⊎◌}
use Rattle.std.specs.Prelude.{Option}
use Rattle.em_record.specs.Shape.{ShapeNumbers, IsShape, wide_of}
use Rattle.em_record.specs.declared.record.Record.{Record}
use Rattle.em_frames.specs.Pool.{SameFrames}
use Rattle.em_space.specs.Ledger.{Session}
use Rattle.em_space.specs.Rig.{BlockCause, Goes, RigState, SameBlocks, Sound}
use Rattle.em_space.specs.declared.fault.EmFault.{EmFault}
use Rattle.em_space.proofs.Held.{apart_none}
use Rattle.em_space.proofs.Paying.{pays_kept, pays_more}
use Rattle.em_space.proofs.Sessions.{session_as, session_still}
use Rattle.em_space.proofs.Steps.{block_cause}
use Rattle.em_space.proofs.Within.{goes_wider}
use Rattle.em_settle.specs.declared.step.Step.{Step}
use Rattle.em_tree_model.specs.Tree.{Tree, waiting_in}
use Rattle.em_tree_cost.specs.Books.{InCall, WasSplit, count_moves}
use Rattle.em_tree_cost.specs.Counters.{Sums}
use Rattle.em_tree_cost.specs.Outline.{sums_of}
use Rattle.em_tree_cost.specs.Paid.{RefusedDebt, toll_of}
use Rattle.em_tree_cost.specs.Shares.{levels_of, tree_share}
use Rattle.em_tree_cost.proofs.InCall.{call_refused}
use Rattle.em_tree_outline.specs.Outline.{outline_of}
use Rattle.em_tree_walk.specs.Paid.{LosesNone}
use Rattle.em_tree_walk.proofs.Losses.{loses_as, loses_still}
use Rattle.em_trunk.specs.Events.{Charges, Continues, MayRefuse, path_most, step_allowance}
use Rattle.em_trunk.specs.Steps.{HasSteps}
use Rattle.em_trunk.specs.Trunk.{IsRunning, TrunkHasFrames, given_by, model_of, root_of, sums_in, trunk_blocks, trunk_unstored}
use Rattle.em_trunk.specs.Works.{StopsWorking, Works, deepest, unstored_most}
use Rattle.em_trunk.specs.declared.trunk.Trunk.{Trunk}
use Rattle.em_trunk.proofs.Charges.{call_fewer, charges_known, charges_prepaid, charges_within}
use Rattle.em_trunk.proofs.Continues.{continues_same}
use Rattle.em_trunk.proofs.Stays.{TrunkReads, reads_same, running_stays}
use Rattle.em_trunk.proofs.Steps.{adopted_few, steps_most}
use Rattle.em_trunk.proofs.Waits.{waits_never}
use Rattle.em_trunk.proofs.Rooms.{keeps_by, stops_by_peaks}
use Rattle.em_tree_load.proofs.Peaks.{peaks_same}

-- there is a level at least
levels_some : (shape : ShapeNumbers) (n : ℕ) → 1 ≤ levels_of shape n
levels_some shape n = omega arith

-- What may be owed at a refusal, as the books ask it.
pub refused_either : {shape : ShapeNumbers} {k split owed held : ℕ} (t : Sums)
    → held ≤ t.waiting + t.stored → MayRefuse shape k split owed held
    → (owed ≤ 18 * (t.waiting + t.stored) + toll_of shape k)
    ⊎ WasSplit split t × RefusedDebt shape k owed
refused_either {shape = shape} {k = k} {split = split} {owed = owed} {held = held} t some m = ⊎_elim
    (λ (low : owed ≤ 18 * held + toll_of shape k). inl (omega (arith, low, some)))
    (λ (x : (1 ≤ split) × (owed ≤ shape.block * path_most shape k)). inr (
      record { some = inl x.0 },
      record {
        j = levels_of shape k;
        e = 42 * wide_of shape + 37 + 6 * levels_of shape k;
        debt = record { thin = omega arith; most = x.1 };
        most = omega arith;
      },
    ))
    m.either

-- While steps are paid for in advance, some are left.
pub steps_some : {s : RigState} {v : Trunk} (p : ℕ) → Sound s → 1 ≤ p → HasSteps p s v → 1 ≤ v.steps
steps_some {s = s} {v = v} p sound some h =
    let c = h.counts in
    let within = call_refused h.books sound.shape (refused_either (sums_in s v) (omega arith) h.may) in
    let z = h.none_taken in
    let y = h.none_settled in
    let S : ℕ → Type 0 = λ x. c.spent + p ≤ tree_share s.pool.shape (c.n + c.adopted) c.k x c.y in
    let share : c.spent + p ≤ tree_share s.pool.shape (c.n + c.adopted) c.k 0 c.y = subst S z within in
    let most = steps_most s.pool.shape c.n c.adopted c.k c.y sound.shape (adopted_few h.books.books) (omega (arith, h.few))
    (omega (arith, y)) in
    let l = h.left in
    omega (arith, share, most, l, some)

-- Books of steps after a step of the call.
pub steps_after : {key : Record → Record} {step : Option Record → Record → Step}
    {IsOp IsKept : Record → Type 0} {s t : RigState} {v w : Trunk} (p q n : ℕ) → IsTrue s.device.told
    → HasSteps p s v → Works key step IsOp IsKept p q 0 n s t v w → HasSteps q t w
steps_after {s = s} {t = t} {v = v} {w = w} p q n told h a =
    let c = h.counts in
    let next = ((a.paces told).books c h.owed h.handed h.split h.longest h.books).call in
    let shape = a.session.touches.shape in
    let K : ShapeNumbers → Type 0 = λ x. InCall x (count_moves q (count_moves n c)) h.owed h.handed h.split
    (sums_in t w) in
    let M : ShapeNumbers → Type 0 = λ x. MayRefuse x c.k h.split h.owed 0 in
    let L : ShapeNumbers → Type 0 = λ x. w.steps + (c.spent + n) ≡ step_allowance x (c.n + c.k) c.k in
    let here = call_fewer (count_moves (n + q) c) (count_moves q (count_moves n c)) (h.owed + 0) h.owed
    refl refl refl refl refl refl (omega arith) (omega arith) next in
    let e = a.steps in
    let l = h.left in
    let left : w.steps + (c.spent + n) ≡ step_allowance s.pool.shape (c.n + c.k) c.k = omega (arith, e, l) in
    record {
      counts = count_moves n c;
      owed = h.owed;
      handed = h.handed;
      split = h.split;
      longest = h.longest ∙ sym a.numbers.longest;
      few = h.few;
      none_taken = h.none_taken;
      none_settled = h.none_settled;
      books = subst K (sym shape) here;
      may = subst M (sym shape) h.may;
      left = subst L (sym shape) left;
    }

-- the two frames are out, with as many free as before
pub frames_same : {s t : RigState} {v : Trunk} → SameFrames s.pool t.pool → TrunkHasFrames s v
    → TrunkHasFrames t v
frames_same f h = record {
  buffer = rw (f.shape) h.buffer;
  answers = rw (f.shape) h.answers;
  out = rw (f.free, f.shape) h.out;
}

-- with another number of steps
pub running_steps : {key : Record → Record} {IsOp IsKept : Record → Type 0} {t : RigState} {v : Trunk}
    (k : ℕ) → IsRunning key IsOp IsKept t v → IsRunning key IsOp IsKept t (record v { steps = k })
running_steps k r =
    let n = r.numbers in
    record {
      frames = record { buffer = r.frames.buffer; answers = r.frames.answers; out = r.frames.out };
      numbers = record {
        level_some = n.level_some;
        level_most = n.level_most;
        since_most = n.since_most;
        longest_most = n.longest_most;
        pushed_most = n.pushed_most;
        settled_most = n.settled_most;
        resets_most = n.resets_most;
        adopted_most = n.adopted_most;
        counted_most = n.counted_most;
        spent_most = n.spent_most;
        root_below = n.root_below;
      };
      buffer = r.buffer;
      answers = r.answers;
      stands = λ told.
          let st = r.stands told in
          record {
            holds = st.holds;
            stored = st.stored;
            formed = st.formed;
            is = st.is;
            turn = st.turn;
            lows = st.lows;
            sized = st.sized;
            bounded = st.bounded;
            packed = st.packed;
            answers_packed = st.answers_packed;
          };
    }

-- A call of the rig that changes no block is a step, if its moves were paid for in advance.
module _ {key : Record → Record} {IsOp IsKept : Record → Type 0} {s t : RigState} {v : Trunk}
    (i : IsRunning key IsOp IsKept s v) (g : Goes [] s t) where
  pub still_frames : TrunkHasFrames t v
  still_frames = frames_same g.frames i.frames

  pub still_reads : IsTrue s.device.told → TrunkReads s t v
  still_reads told = reads_same key IsOp IsKept [] s t v g.touches still_frames i told
      (apart_none (trunk_blocks s v))

  pub still_sums : IsTrue s.device.told → sums_in t v ≡ sums_in s v
  still_sums told =
      let S : ShapeNumbers → Sums = λ h. sums_of (2 * wide_of h * h.block) v.level
      (outline_of (root_of t v)) v.buffer.count v.buffer.blocks in
      ap S g.touches.shape
      ∙ ap (λ x. sums_of (2 * wide_of s.pool.shape * s.pool.shape.block) v.level (outline_of x)
      v.buffer.count v.buffer.blocks) (still_reads told).root

  pub still_session : Session (trunk_blocks s v) s t (trunk_blocks t v)
  still_session = session_as (trunk_blocks t v) (session_still (trunk_blocks s v) g.sound g.touches
      (λ z. (i.stands z).holds)) (λ z. (still_reads z).blocks)

  pub still_loses : t.used ≡ s.used → LosesNone (trunk_blocks s v) (trunk_blocks t v) s t
  still_loses used = loses_as (trunk_blocks s v) (trunk_blocks s v) (trunk_blocks t v) s t
      (loses_still (trunk_blocks s v) s t used) (λ z. (still_reads z).blocks)

  pub still_running : IsRunning key IsOp IsKept t v
  still_running = running_stays key IsOp IsKept [] s t v g.touches still_frames i
      (λ z. apart_none (trunk_blocks s v))

  pub still_continues : (step : Option Record → Record → Step) → IsTrue s.device.told
      → Continues key step IsOp IsKept (given_by s v) (model_of s v) (given_by t v) (model_of t v)
  still_continues step told =
      let r = still_reads told in
      let P : List Record → Type 0 = λ g. Continues key step IsOp IsKept (given_by s v) (model_of s v) g
      (model_of t v) in
      let Q : Tree → Type 0 = λ x. Continues key step IsOp IsKept (given_by s v) (model_of s v)
      (given_by s v) x in
      subst P (sym r.given) (subst Q (sym r.model)
      (continues_same key step IsOp IsKept (given_by s v) (model_of s v)))

  -- the moves of a descent, paid for in advance
  descent_charged : (q m : ℕ) → IsShape s.pool.shape → m ≤ v.level
      → Charges s.pool.shape v.longest (q + deepest s v) m q 0 (sums_in s v) (sums_in s v)
  descent_charged q m shape few = charges_known shape
      (λ l. charges_prepaid (q + deepest s v) m q (sums_in s v) (omega (arith, few, l)))

  -- A search, for which one of the call's steps was taken.
  pub search_works : (step : Option Record → Record → Step) (k q : ℕ) → Sound s → k + 1 ≡ v.steps
      → SameBlocks s t → t.moves ≤ s.moves + v.level
      → Works key step IsOp IsKept (q + deepest s v) q 0 1 s t v (record v { steps = k })
  search_works step k q sound one used few =
      let C : ℕ → IsTrue s.device.told → (m : ℕ) → m ≤ v.level
      → Charges s.pool.shape v.longest (q + deepest s v) m q 0 (sums_in s v) (sums_in t v) =
      λ z told m few.
      (let P : Sums → Type 0 = Charges s.pool.shape v.longest (q + deepest s v) m q 0 (sums_in s v) in
      subst P (sym (still_sums told)) (descent_charged q m sound.shape few)) in
      let r = still_running in
      record {
        session = still_session;
        frames = g.frames;
        pays = pays_kept (trunk_unstored v) (let e = used.used in omega (arith, e)) g.touches.moves;
        loses = still_loses used.used;
        numbers = record {
          pushed = refl;
          longest = refl;
          since = refl;
          settled = refl;
          resets = refl;
          spent = refl;
          adopted = refl;
          counted = refl;
        };
        steps = one;
        running = running_steps k r;
        continues = still_continues step;
        still = λ told none. ap waiting_in (still_reads told).model ∙ none;
        charges = λ told. C 0 told (t.moves - s.moves) (omega (arith, few));
        paces = λ told. C 0 told 1 i.numbers.level_some;
        gives = λ told.
            let e = ap (λ (x : Sums). x.waiting) (still_sums told) in
            let f : v.answers.count + (sums_in t v).waiting ≤ v.answers.count + (sums_in s v).waiting =
            omega (arith, e) in
            f;
        room = λ told n h. keeps_by i sound.shape told (peaks_same 0 used) (omega arith) n h;
      }

  -- one that gave up
  pub search_stops : (k q : ℕ) (fault : EmFault) → Sound s → SameBlocks s t
      → t.moves ≤ s.moves + v.level → BlockCause s t fault
      → StopsWorking (q + deepest s v) 0 (unstored_most s) s t v (record v { steps = k }) fault
  search_stops k q fault sound used few cause = record {
    goes = goes_wider (trunk_blocks s v) [] s t (record { off = λ z j u o. tt }) g;
    frames = record {
      buffer = still_frames.buffer;
      answers = still_frames.answers;
      out = still_frames.out;
    };
    numbers = record {
      pushed = refl;
      longest = refl;
      since = refl;
      settled = refl;
      resets = refl;
      spent = refl;
      adopted = refl;
      counted = refl;
    };
    pays = pays_more (pays_kept (trunk_unstored v) (let e = used.used in omega (arith, e)) g.touches.moves)
        (omega arith);
    cause = block_cause s t fault cause;
    needs = waits_never s s t v fault cause;
    charges = λ told. record {
      sums = sums_in s v;
      charges = charges_within (q + deepest s v) (t.moves - s.moves) q 0 (t.moves - s.moves) 0 0
          (omega arith) (omega arith)
          (descent_charged q (t.moves - s.moves) sound.shape (omega (arith, few)));
    };
    room = λ told n h. stops_by_peaks i sound.shape told (peaks_same 0 used)
        (let l = sound.shape.frames_low in omega (arith, l)) g.touches.blocks (block_cause s t fault cause) n h;
  }
