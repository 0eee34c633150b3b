-- An interval list of which nothing is asked: its lists are released, and the queue isn't called.
use Rattle.std.proofs.Common.{◌≡◌, ℕ, ◌+◌, ◌*◌, ◌<◌, ◌⊎◌, max, List, [], ◌++◌, map, IsTrue, Result, Ok, Err, IfOk, IsErrAnd, ap, refl, subst, sym, ◌∙◌, arith, inl, inr}
use Rattle.em_record.specs.Order.{in_order}
use Rattle.em_record.specs.Shape.{ShapeNumbers}
use Rattle.em_record.specs.declared.record.Record.{Record}
use Rattle.em_frames.specs.Pool.{PoolCounts, SameFrames}
use Rattle.em_model.specs.Stab.{intervals_after}
use Rattle.em_model.specs.StabAnswers.{stab_pairs}
use Rattle.em_model.specs.declared.command.Command.{Command}
use Rattle.em_space.specs.Ledger.{Account, Halts}
use Rattle.em_space.specs.Queue.{AreOut, LacksBlocks}
use Rattle.em_space.specs.Rig.{Cause, IfFull, RigState, Sound}
use Rattle.em_space.specs.declared.fault.EmFault.{EmFault}
use Rattle.em_space.specs.declared.fault.EmFault.TheVariants.{DeviceFault, Full, Damaged}
use Rattle.em_space.specs.declared.queue.Queue.{Ghosts as QueueGhosts}
use Rattle.em_space.proofs.Paying.{pays_more}
use Rattle.em_space.proofs.Queues.{out_same, shares_same}
use Rattle.em_space.proofs.Within.{goes_wider, within_right}
use Rattle.em_chain.specs.Chain.{IsChain, IsPacked, chain_blocks, empty_chain}
use Rattle.em_chain.specs.Writer.{writer_items}
use Rattle.em_chain.specs.declared.chain.Chain.{Chain}
use Rattle.em_queued.specs.Queued.{StopsBeside}
use Rattle.em_queued.proofs.Queued.{beside_as, called_none, others_beside}
use Rattle.em_queued.proofs.Room.{full_others}
use Rattle.em_segment_model.specs.Alike.{Alike}
use Rattle.em_segment_model.specs.Commands.{asked_from}
use Rattle.em_segment_model.specs.Points.{asked_in, asked_record, interval_record, pairs_due}
use Rattle.em_segment_model.proofs.Finish.{finish_answers}
use Rattle.em_segment_parts.specs.Accounts.{stored}
use Rattle.em_segment.specs.Answers.{DiscardsTo, call_blocks}
use Rattle.em_segment.specs.Finishes.{AnswersStabs, AsksNothing, CanFinish, ClosesBoth, FindsNothing, FullIfAsked, StopsClosing}
use Rattle.em_segment_parts.specs.Reports.{Shifts, StopsShifting}
use Rattle.em_segment.specs.Stabs.{HasCommands, IsStab}
use Rattle.em_segment.specs.declared.stab.Stab.{Stab}
use Rattle.em_segment_parts.proofs.Alikes.{alike_same}
use Rattle.em_segment.proofs.CallAnswers.{none_at}
use Rattle.em_segment_parts.proofs.Gets.{nil_of}
use Rattle.em_segment.proofs.StabCalls.{pairs_length}
use Rattle.em_segment.proofs.StabEnds.{stands_apart, stands_costs, stands_out, stands_serve}
use Rattle.em_segment.proofs.StabNumbers.{within_released}
use Rattle.em_segment.proofs.StabStands.{StabHalts, StabStands, frames_room, stands_stop, stands_then}
use Rattle.em_segment.proofs.StabStates.{AfterClose, Refuses, StabLaws, after_close, refuses}

-- A chain with no block is a packed chain on any device.
empty_is : (s : RigState) → IsChain s empty_chain
empty_is s = record {
  count_most = omega arith;
  blocks_most = omega arith;
  told = λ z. record {
    holds = record { in_use = tt; distinct = λ y. tt };
    list = record {
      run = refl;
      blocks_is = refl;
      tail_is = refl;
      count_is = refl;
      skip_fits = refl;
    };
  };
}

empty_packed : (s : RigState) → IsPacked s empty_chain
empty_packed s = record { is = record { skip_is = refl; full = tt } }

-- Nothing is answered where nothing is asked.
none_answer : {s : RigState} {v : Stab} → IsStab s v → AsksNothing v → IsTrue s.device.told
    → (cs : List Command) → HasCommands s v cs → [] ≡ stab_pairs cs
none_answer {s} {v} is (inl e) z cs has =
    let ps : map asked_record (asked_from 0 0 cs) ≡ [] =
    sym (has.stabs z) ∙ nil_of (writer_items s v.stabs) (pairs_length is.stabs z ∙ e) in
    let none = ap (λ (xs : List Record). pairs_due (in_order xs)
    (map interval_record (intervals_after [] cs))) ps in
    finish_answers cs [] (subst (Alike []) (sym none) (alike_same []))
none_answer {s} {v} is (inr e) z cs has =
    let points = in_order (map asked_record (asked_from 0 0 cs)) in
    let qs : map interval_record (intervals_after [] cs) ≡ [] =
    sym (has.intervals z) ∙ nil_of (writer_items s v.intervals) (pairs_length is.intervals z ∙ e) in
    let none = ap (λ (ys : List Record). pairs_due points ys) qs ∙ none_at (map asked_in points) in
    finish_answers cs [] (subst (Alike []) (sym none) (alike_same []))

-- As many blocks as were held suffice.
never_full : {s t : RigState} {n l u : ℕ} {a : Account} (fault : EmFault) → Sound s
    → t.blocks ≡ s.blocks → a.blocks ≡ n → Halts n l u a s t fault → Cause s t fault
    → IfFull fault (λ used. ⊥)
never_full DeviceFault h same e k c = tt
never_full {s} {t} {n} {a = a} (Full used) h same e k c =
    let less : t.used + a.blocks < s.used + n = k.full in
    let all : t.used ≡ t.blocks = c.1 in
    absurd (omega (arith, less, all, same, e, h.numbers.used_most, h.numbers.most_high))
never_full (Damaged block) h same e k c = tt

-- The lists were released: the queue is as it was.
pub record NothingFound {Q : Type 0} (q : QueueGhosts Q) (x : Q) (s u : RigState) (v : Stab)
    (result : Result Chain EmFault) : Type 0 where
  pub frames : q.HasItsFrames x u
  pub refuses : Refuses q x x s u v result
  pub nothing : FindsNothing x x result

module _ {Q : Type 0} (q : QueueGhosts Q) (x : Q) {s t : RigState} {v : Stab}
    {pieces points : Chain} (laws : StabLaws q) (h : Sound s) (is : IsStab s v) (i : q.IsQueue x s)
    (can : CanFinish q x s v) (c : ClosesBoth s t v pieces points) where
  before : AfterClose q x s t v pieces points
  before = after_close q x laws h i can c

  abbrev held : ℕ
  held = points.blocks + pieces.blocks

  -- They were,
  gone : {u : RigState} → Shifts held (2 * held) (call_blocks t points pieces) [] held 0 t u
      → q.IsQueue x u → (IsTrue t.device.told → q.blocks x u ≡ q.blocks x t) → AsksNothing v
      → Refuses q x x s u v (Ok empty_chain)
  gone {u} g j same none =
      let pb = c.pieces_blocks in
      let qb = c.points_blocks in
      let end : StabStands q x x s u v (max held held) (2 * held + 2 + (0 + (0 + 2 * held))) (0 + 0) (max 0 0)
      (chain_blocks u empty_chain) 0 =
      stands_then q x x x {k = 0} before.stands (beside_as (q.blocks x u ++ chain_blocks u empty_chain)
      (others_beside (q.blocks x t) (q.counts x) g (laws.blocks_most x s i)
      (λ z. before.stands.session.holds (sym before.stands.session.touches.told ∙ z)))
      (λ z. ap (λ (ks : List ℕ). ks ++ []) (same z)))
      (record { blocks = refl; unstored = refl; paid = refl }) refl
      (let e = laws.since_none x s i can.empty in omega (arith, e)) in
      record {
        queue = j;
        answers = record {
          chain = empty_is u;
          packed = λ z. empty_packed u;
          answers = λ z cs has. none_answer is none z cs has;
          empty = can.empty;
          session = end.session;
          frames = end.frames;
          frames_are = end.frames_are;
          areas_are = end.areas_are;
          used = end.used;
          pays = end.pays;
        };
        costs = λ z cs has. stands_costs q x x cs end
            (within_released cs h is (omega (arith, pb, qb)) (omega (arith, pb, qb)) refl refl);
        full = λ z cs has. tt;
      }

  -- or not.
  refused : {u : RigState} (fault : EmFault)
      → StopsShifting held (2 * held) (call_blocks t points pieces) held t u fault
      → Refuses q x x s u v (Err fault)
  refused {u} fault g =
      let pb = c.pieces_blocks in
      let qb = c.points_blocks in
      let k = g.stops.halts in
      let most = laws.blocks_most x s i in
      let out = stands_out q x x can (laws.out x s (laws.frames_of x s i)) before.stands in
      let room = frames_room before.stands.session.sound (laws.unstored_most x s i) out
      (stands_serve q x x can.free before.stands) in
      let beside : StopsBeside q.room 0 held (2 * held) 1 (q.blocks x t ++ call_blocks t points pieces) (stored held)
      (q.counts x) (q.counts x) t u fault = record {
        sound = g.stops.goes.sound;
        touches = (goes_wider (q.blocks x t ++ call_blocks t points pieces) (call_blocks t points pieces) t u
            (within_right t (q.blocks x t) (call_blocks t points pieces)) g.stops.goes).touches;
        frames = shares_same (q.counts x) t.pool u.pool g.stops.goes.frames;
        called = called_none (q.counts x);
        most = omega (arith, most, k.most);
        moves = omega (arith, k.moves);
        pays = pays_more k.pays (omega (arith, room));
        cause = g.stops.cause;
        full = full_others (q.counts x) fault most (laws.fits x t (laws.frames_of x t before.is)) k
            g.stops.cause;
      } in
      let end : StabHalts q x x s u v (max held held) (2 * held + 2 + (0 + 2 * held)) (0 + 0) (max 0 0) fault =
      stands_stop q x x x {k = 0} before.stands beside (record { blocks = refl; unstored = refl; paid = refl })
      (omega arith) (let e = laws.since_none x s i can.empty in omega (arith, e)) in
      refuses q x x (Err fault) fault refl end
      (λ z cs has. within_released cs h is (omega (arith, pb, qb)) (omega (arith, pb, qb)) refl refl)

  -- The queue's frames are out over both.
  out_then : {p : PoolCounts} → SameFrames t.pool p → AreOut (q.counts x) p
  out_then {p} f = out_same (q.counts x) t.pool p
      (stands_out q x x can (laws.out x s (laws.frames_of x s i)) before.stands) f

  -- What is said of the result.
  pub found_nothing : {u : RigState} (result : Result Chain EmFault) → AsksNothing v
      → DiscardsTo t u points pieces result → IfOk result (λ e. e ≡ empty_chain)
      → NothingFound q x s u v result
  found_nothing {u} (Ok e) none g same =
      let st = laws.stays x (call_blocks t points pieces) t u before.is g.session.touches
      (stands_apart q x x before.stands) (out_then g.frames) in
      let all = gone g st.0 st.2 none in
      record {
        frames = laws.frames_of x u st.0;
        refuses = subst (λ (k : Chain). Refuses q x x s u v (Ok k)) (sym same) all;
        nothing = record { queue = refl; empty = same; never = tt };
      }
  found_nothing {u} (Err fault) none g same = record {
    frames = laws.frames_stay x (call_blocks t points pieces) t u (laws.frames_of x t before.is)
        g.stops.goes.touches (out_then g.stops.goes.frames);
    refuses = refused fault g;
    nothing = record {
      queue = refl;
      empty = tt;
      never = never_full fault before.stands.session.sound g.stops.goes.touches.blocks refl g.stops.halts
          g.stops.cause;
    };
  }

-- The lists weren't closed: no block was needed.
pub close_nothing : {Q : Type 0} (x : Q) {s t : RigState} {v : Stab} {fault : EmFault}
    (result : Result Chain EmFault) → Sound s → StopsClosing s t v fault → IsErrAnd result (λ f. f ≡ fault)
    → FindsNothing x x result
close_nothing x (Ok c) h k e = absurd e
close_nothing x {s} {t} {v} {fault} (Err f) h k e = record {
  queue = refl;
  empty = tt;
  never = subst (λ (g : EmFault). IfFull g (λ used. ⊥)) (sym e)
      (never_full fault h k.touches.blocks refl k.halts k.cause);
}

-- Something is asked where both lists have a record.
pub something : {Q : Type 0} (x y : Q) {s t : RigState} {v : Stab} {pieces points : Chain}
    (result : Result Chain EmFault) → ClosesBoth s t v pieces points → 0 < points.count → 0 < pieces.count
    → AsksNothing v → FindsNothing x y result
something x y result c p q (inl e) = absurd (omega (arith, e, c.points_count, p))
something x y result c p q (inr e) = absurd (omega (arith, e, c.pieces_count, q))

-- It is asked of the list as of its chains.
pub nothing_asked : {s t : RigState} {v : Stab} {pieces points : Chain} → ClosesBoth s t v pieces points
    → (points.count ≡ 0) ⊎ (pieces.count ≡ 0) → AsksNothing v
nothing_asked c (inl e) = inl (omega (arith, e, c.points_count))
nothing_asked c (inr e) = inr (omega (arith, e, c.pieces_count))

-- The queue's end was refused, where nothing is asked: it lacked blocks at first.
pub end_asked : {Q : Type 0} (q : QueueGhosts Q) (x y : Q) {s t : RigState} {v : Stab} {e : Chain}
    (fault : EmFault) → AnswersStabs q x y s t v e → (AsksNothing v → FindsNothing x y (Ok e))
    → IfFull fault (LacksBlocks q.enough q.room (q.counts y) (q.counts y).k t)
    → FullIfAsked q x s v (Err fault)
end_asked q x y DeviceFault a n full = tt
end_asked {Q} q x y {s} {t} {v} {e} (Full used) a n full = λ none.
    let k = n none in
    let blocks = ap (λ (z : Q). (q.counts z).blocks) k.queue in
    let gone = ap (λ (c : Chain). c.blocks) k.empty in
    let shape = a.session.touches.shape in
    let enough : q.enough t.pool.shape (q.counts y) ≡ q.enough s.pool.shape (q.counts x) =
    ap (λ (g : ShapeNumbers). q.enough g (q.counts y)) shape
    ∙ ap (λ (z : Q). q.enough s.pool.shape (q.counts z)) k.queue in
    omega (arith, full.few, enough, blocks, gone, a.used)
end_asked q x y (Damaged block) a n full = tt

-- A step was refused: none is, where nothing is asked, because all blocks are in use.
pub stops_asked : {Q : Type 0} (q : QueueGhosts Q) (x y : Q) (s : RigState) (v : Stab) (fault : EmFault)
    → (AsksNothing v → FindsNothing x y (Err fault)) → FullIfAsked q x s v (Err fault)
stops_asked q x y s v DeviceFault n = tt
stops_asked q x y s v (Full used) n = λ none. absurd (n none).never
stops_asked q x y s v (Damaged block) n = tt
