-- All stabs of an interval list were answered, and the queue is ended or given up.
use Rattle.std.proofs.Common.{◌≡◌, ℕ, ◌+◌, ◌*◌, ◌≤◌, ◌<◌, max, List, [], ◌++◌, length, Option, Some, None, IfSome, IsTrue, inl, inr, Err, ap, subst, sym, ◌∙◌, arith}
use Rattle.em_record.specs.Shape.{IsShape, ShapeNumbers, fan_of, payload_of}
use Rattle.em_record.specs.declared.record.Record.{Record}
use Rattle.em_frames.specs.Pool.{GivenFrames, PoolCounts}
use Rattle.em_model.specs.StabAnswers.{stab_pairs}
use Rattle.em_model.specs.declared.command.Command.{Command}
use Rattle.em_space.specs.Ledger.{Session}
use Rattle.em_space.specs.Queue.{CanServe, Ended, Ends, IsRisingRoom, LacksBlocks, Leaves, Pays, QueueCounts, ending_most}
use Rattle.em_space.specs.Rig.{Cause, IfFull, RigState, Sound}
use Rattle.em_space.specs.declared.fault.EmFault.{EmFault}
use Rattle.em_space.specs.declared.fault.EmFault.TheVariants.{DeviceFault, Full, Damaged}
use Rattle.em_space.specs.declared.queue.Queue.{Ghosts as QueueGhosts}
use Rattle.em_space.proofs.Apart.{off_left}
use Rattle.em_space.proofs.Lists.{apart_sym, distinct_apart}
use Rattle.em_space.proofs.Paying.{pays_kept, pays_more, pays_then}
use Rattle.em_space.proofs.Queues.{most_at_end}
use Rattle.em_space.proofs.Sessions.{session_as, session_then}
use Rattle.em_space.proofs.Steps.{cause_after, touches_then, touches_wider}
use Rattle.em_space.proofs.Within.{touches_within}
use Rattle.em_chain.specs.Chain.{chain_blocks, payload_in}
use Rattle.em_chain.specs.Counts.{ceiling}
use Rattle.em_chain.specs.declared.chain.Chain.{Chain}
use Rattle.em_chain.proofs.Counts.{packed_blocks}
use Rattle.em_chain.proofs.Laws.{chain_stays}
use Rattle.em_chain.proofs.Readers.{length_items}
use Rattle.em_queued.specs.Room.{FullBeside}
use Rattle.em_queued.proofs.Room.{full_from, full_queue}
use Rattle.em_tree_cost.specs.Shares.{queue_share, stab_room, stab_share}
use Rattle.em_tree_cost.proofs.Services.{stab_within}
use Rattle.em_segment.specs.Finishes.{AnswersStabs, AsksNothing, FinishedStab, FullIfSmall, GivesAll, StabCosts, StabsCost, StopsFinish, StopsStabs, own_share}
use Rattle.em_segment.specs.Stabs.{HasCommands, IsStab, stab_account, stab_blocks, stab_size}
use Rattle.em_segment.specs.declared.stab.Stab.{Stab}
use Rattle.em_segment.proofs.StabNumbers.{lists_within, stab_blocks_are}

-- The queue may be ended: two frames more are free.
pub end_serves : {p r : PoolCounts} → CanServe p → GivenFrames 2 p r → CanServe r
end_serves f g = record {
  singles = let e = ap fan_of g.shape in omega (arith, e, f.singles, g.free);
  areas = omega (arith, f.areas, g.free_areas);
  rack = g.rack ∙ f.rack;
}

-- The frames of the queue and of the list are back.
gives_all : {c : QueueCounts} (d : QueueCounts) {p r o : PoolCounts} → GivenFrames 2 p r → d.frames ≡ c.frames
    → d.areas ≡ c.areas → o.shape ≡ r.shape → o.free ≡ r.free + d.frames
    → o.free_areas ≡ r.free_areas + d.areas → o.rack_out ≡ r.rack_out → r.peak ≤ o.peak
    → GivesAll c p o
gives_all d g same areas shape free area rack peak = record {
  shape = shape ∙ g.shape;
  free = omega (arith, g.free, same, free);
  areas = omega (arith, g.free_areas, areas, area);
  rack = rack ∙ g.rack;
  peak = omega (arith, g.peak, peak);
}

-- The queue was ended.
pub finished : {Q : Type 0} (q : QueueGhosts Q) (x y : Q) {s t u : RigState} {v : Stab} {c : Chain}
    → AnswersStabs q x y s t v c
    → Ends q.allowance q.room (q.blocks y t) (q.counts y) t u → Ended (q.counts y) t u
    → FinishedStab q x s u v c
finished q x y {s} {t} {u} {v} {c} a e d =
    let told = a.session.touches.told in
    let ks = chain_blocks t c in
    let apart = λ (z : IsTrue t.device.told). apart_sym (q.blocks y t) ks
    (distinct_apart (q.blocks y t) ks ((a.session.holds (sym told ∙ z)).distinct z)) in
    let kept = chain_stays (q.blocks y t) t u c e.touches apart a.chain in
    let gone : Session (q.blocks y t) t u [] = record {
      sound = e.sound;
      touches = e.touches;
      within = record { off = λ z j w o. tt };
      holds = λ z. record { in_use = tt; distinct = λ w. tt };
    } in
    record {
      chain = kept.is;
      packed = λ z. kept.packed (told ∙ z) (a.packed z);
      answers = λ z cs has. kept.items (told ∙ z) ∙ a.answers z cs has;
      session = session_as (chain_blocks u c) (session_then (q.blocks y t) [] ks a.session gone)
          (λ z. kept.blocks (told ∙ z));
      frames = gives_all (q.counts y) a.frames a.frames_are a.areas_are e.frames.shape
          (let f = e.frames.free in omega (arith, f)) (let f = e.frames.areas in omega (arith, f))
          e.frames.rack e.frames.peak;
      used = let k = d.used in omega (arith, a.used, k);
      pays = pays_then a.pays d.pays e.touches.moves;
    }

-- or that was refused.
pub end_stops : {Q : Type 0} (q : QueueGhosts Q) (x y : Q) {s t u : RigState} {v : Stab} {c : Chain}
    {fault : EmFault} → AnswersStabs q x y s t v c
    → Ends q.allowance q.room (q.blocks y t) (q.counts y) t u
    → Pays (q.counts y).unstored t.pool.shape.frames t u → Cause t u fault → StopsFinish q x s u v fault
end_stops q x y {s} {t} {u} {v} {c} {fault} a e owes cause =
    let first = a.session.touches in
    let js = q.blocks y t ++ chain_blocks t c in
    let frames = ap (λ (z : ShapeNumbers). z.frames) first.shape in
    let last : Pays (q.counts y).unstored (s.pool.shape.frames + 1) t u =
    pays_more owes (omega (arith, frames)) in
    record {
      sound = e.sound;
      touches = touches_within s t u (q.blocks x s ++ stab_blocks s v) js first a.session.within
          (touches_wider js (q.blocks y t) t u e.touches
          (λ z k w o. off_left k (q.blocks y t) (chain_blocks t c) o));
      frames = gives_all (q.counts y) a.frames a.frames_are a.areas_are e.frames.shape
          (let f = e.frames.free in omega (arith, f)) (let f = e.frames.areas in omega (arith, f))
          e.frames.rack e.frames.peak;
      pays = pays_then a.pays last e.touches.moves;
      cause = cause_after (q.blocks x s ++ stab_blocks s v) s t u fault first cause;
    }

-- a cause is none of the pool's
cause_pool : (s t : RigState) (p : PoolCounts) (fault : EmFault) → Cause s t fault
    → Cause s (record t { pool = p }) fault
cause_pool s t p DeviceFault c = c
cause_pool s t p (Full used) c = c
cause_pool s t p (Damaged block) c = c

-- A step was refused, and the queue was given up.
pub left_stops : {Q : Type 0} (q : QueueGhosts Q) (x y : Q) {s t u : RigState} {v : Stab}
    {fault : EmFault} → StopsStabs q x y s t v fault → Leaves (q.counts y) t u
    → StopsFinish q x s u v fault
left_stops q x y {s} {t} {u} {v} {fault} a l =
    let used = ap (λ (z : RigState). z.used) l.same in
    let moves = ap (λ (z : RigState). z.moves) l.same in
    record {
      sound = l.sound;
      touches = touches_then (q.blocks x s ++ stab_blocks s v) s t u a.touches l.touches;
      frames = record {
        shape = l.frames.shape ∙ a.frames.shape;
        free = let f = l.frames.free in omega (arith, f, a.frames.free);
        areas = let f = l.frames.areas in omega (arith, f, a.frames.areas);
        rack = l.frames.rack ∙ a.frames.rack;
        peak = omega (arith, a.frames.peak, l.frames.peak);
      };
      pays = pays_then a.pays (pays_kept (s.pool.shape.frames + 1) (omega (arith, used))
          (omega (arith, moves))) (omega (arith, moves));
      cause = subst (λ (z : RigState). Cause s z fault) (sym l.same)
          (cause_pool s t u.pool fault a.cause);
    }

-- all moves, with the queue's
share_by : (o : Option (ShapeNumbers → ℕ → ℕ → ℕ)) (i k spent first now last old paid size calls j : ℕ)
    (v w : ShapeNumbers) → w ≡ v → IsShape v → IfSome o (λ f. spent + last ≤ now + f w i k)
    → now + old + paid ≤ first + spent + own_share v size → i ≤ calls + 2 * size → k ≤ max j (2 * size)
    → j ≤ calls
    → IfSome o (λ f. ((shape : ShapeNumbers) (n m : ℕ) → f shape n m ≤ queue_share shape n m)
    → calls ≡ 0 → last + old + paid ≤ first + stab_share v size)
share_by None i k spent first now last old paid size calls j v w e is h own a b c = tt
share_by (Some f) i k spent first now last old paid size calls j v w e is h own a b c = λ all none.
    let same = ap (λ (z : ShapeNumbers). f z i k) e in
    let total = stab_within v size i k (own_share v size) (f v i k) is (omega (arith, a, none))
    (omega (arith, b, c, none)) (all v i k) (omega arith) in
    omega (arith, same, h, own, total)

-- what a bound says where nothing was moved
allowed_left : (o : Option (ShapeNumbers → ℕ → ℕ → ℕ)) (i k spent now last : ℕ) (w : ShapeNumbers)
    → last ≡ now → IfSome o (λ f. spent ≤ f w i k) → IfSome o (λ f. spent + last ≤ now + f w i k)
allowed_left None i k spent now last w e h = tt
allowed_left (Some f) i k spent now last w e h = omega (arith, e, h)

-- all blocks, with the queue's room
room_by : (o : Option (ShapeNumbers → ℕ → ℕ)) (c : QueueCounts) (most held first used p size calls j : ℕ)
    (v : ShapeNumbers) → IfSome o IsRisingRoom → c.k ≤ max j (2 * size) → j ≤ calls
    → most + held ≤ max (first + held) (used + (ending_most o v c + p))
    → IfSome o (λ f. calls ≡ 0 → most + held ≤ max (first + held) (used + (f v (4 * size) + p)))
room_by None c most held first used p size calls j v r a b h = tt
room_by (Some f) c most held first used p size calls j v r a b h = λ none.
    let more = r v c.k (4 * size) (omega (arith, a, b, none)) in
    let all : most + held ≤ max (first + held) (used + (f v c.k + p)) = h in omega (arith, all, more)

-- The costs where the queue was ended,
pub end_costs : {Q : Type 0} (q : QueueGhosts Q) (x y : Q) {s t u : RigState} {v : Stab} {e : Chain}
    (cs : List Command) → (AsksNothing v → y ≡ x) → StabsCost q x y s t v cs → Sound s
    → q.HasItsFrames y t
    → IfSome q.room (λ f. (q.counts y).most ≤ f t.pool.shape (q.counts y).k) → IfSome q.room IsRisingRoom
    → (q.counts x).k ≤ (q.counts x).n → AnswersStabs q x y s t v e
    → e.blocks ≤ stab_room s.pool.shape (stab_size v cs)
    → Ends q.allowance q.room (q.blocks y t) (q.counts y) t u → IsTrue t.device.told
    → StabCosts q x s u v cs
end_costs q x y {s} {t} {u} {v} {e} cs idle c h frames fits rises calls a few d z =
    let shape = a.session.touches.shape in
    let size = stab_size v cs in
    let m = d.most z in
    let top = most_at_end q.room t.pool.shape (q.counts y) fits in
    let same : ending_most q.room t.pool.shape (q.counts y)
    ≡ ending_most q.room s.pool.shape (q.counts y) =
    ap (λ (g : ShapeNumbers). ending_most q.room g (q.counts y)) shape in
    let held = (q.counts x).blocks + (stab_account v).blocks in
    let all : u.most + held ≤ max (s.most + held) (s.used + (ending_most q.room s.pool.shape (q.counts y)
    + stab_room s.pool.shape size)) = omega (arith, c.most, m, same, top, a.used, few) in
    record {
      last = y;
      then_is = t;
      was = record { frames = frames; gone = inl d };
      uncalled = idle;
      calls = c.calls;
      most_calls = c.most_calls;
      own = c.own;
      share = share_by q.allowance (q.counts y).n (q.counts y).k (q.counts y).spent s.moves t.moves u.moves
          (q.counts x).spent (stab_account v).paid size (q.counts x).n (q.counts x).k s.pool.shape
          t.pool.shape shape h.shape (d.spent z) c.own (omega (arith, c.calls))
          (omega (arith, c.most_calls)) calls;
      most = all;
      room = room_by q.room (q.counts y) u.most held s.most s.used (stab_room s.pool.shape size) size
          (q.counts x).n (q.counts x).k s.pool.shape rises (omega (arith, c.most_calls)) calls all;
    }

-- and where it was given up.
pub left_costs : {Q : Type 0} (q : QueueGhosts Q) (x y : Q) {s t u : RigState} {v : Stab}
    {fault : EmFault} (cs : List Command) → (AsksNothing v → y ≡ x) → StabsCost q x y s t v cs → Sound s
    → q.HasItsFrames y t
    → IfSome q.room (λ f. (q.counts y).most ≤ f t.pool.shape (q.counts y).k) → IfSome q.room IsRisingRoom
    → (q.counts x).k ≤ (q.counts x).n → StopsStabs q x y s t v fault → Leaves (q.counts y) t u
    → IfSome q.allowance (λ f. (q.counts y).spent ≤ f t.pool.shape (q.counts y).n (q.counts y).k)
    → StabCosts q x s u v cs
left_costs q x y {s} {t} {u} {v} cs idle c h frames fits rises calls a l spends =
    let shape = a.touches.shape in
    let size = stab_size v cs in
    let moves = ap (λ (z : RigState). z.moves) l.same in
    let most = ap (λ (z : RigState). z.most) l.same in
    let top = most_at_end q.room t.pool.shape (q.counts y) fits in
    let same : ending_most q.room t.pool.shape (q.counts y)
    ≡ ending_most q.room s.pool.shape (q.counts y) =
    ap (λ (g : ShapeNumbers). ending_most q.room g (q.counts y)) shape in
    let held = (q.counts x).blocks + (stab_account v).blocks in
    let all : u.most + held ≤ max (s.most + held) (s.used + (ending_most q.room s.pool.shape (q.counts y)
    + stab_room s.pool.shape size)) = omega (arith, c.most, most, same, top) in
    record {
      last = y;
      then_is = t;
      was = record { frames = frames; gone = inr l };
      uncalled = idle;
      calls = c.calls;
      most_calls = c.most_calls;
      own = c.own;
      share = share_by q.allowance (q.counts y).n (q.counts y).k (q.counts y).spent s.moves t.moves u.moves
          (q.counts x).spent (stab_account v).paid size (q.counts x).n (q.counts x).k s.pool.shape
          t.pool.shape shape h.shape
          (allowed_left q.allowance (q.counts y).n (q.counts y).k (q.counts y).spent t.moves u.moves
          t.pool.shape moves spends)
          c.own (omega (arith, c.calls)) (omega (arith, c.most_calls)) calls;
      most = all;
      room = room_by q.room (q.counts y) u.most held s.most s.used (stab_room s.pool.shape size) size
          (q.counts x).n (q.counts x).k s.pool.shape rises (omega (arith, c.most_calls)) calls all;
    }

-- the blocks of the answers are few
pub answers_few : {Q : Type 0} (q : QueueGhosts Q) (x y : Q) {s t : RigState} {v : Stab} {e : Chain}
    (cs : List Command) → Sound s → IsStab s v → AnswersStabs q x y s t v e → IsTrue s.device.told
    → HasCommands s v cs → e.blocks ≤ stab_room s.pool.shape (stab_size v cs)
answers_few q x y {s} {t} {v} {e} cs h is a z has =
    let then = a.session.touches.told ∙ z in
    let K = length (stab_pairs cs) in
    let count : e.count ≡ K = sym (length_items t e a.chain then)
    ∙ ap (λ (xs : List Record). length xs) (a.answers z cs has) in
    let size : e.blocks ≡ ceiling K (payload_in s) =
    packed_blocks t e a.session.sound.shape.block_low a.chain then (a.packed z)
    ∙ ap (λ (g : ShapeNumbers). ceiling e.count (payload_of g)) a.session.touches.shape
    ∙ ap (λ (n : ℕ). ceiling n (payload_in s)) count in
    let lists = lists_within s.pool.shape v.intervals.count v.stabs.count K v.intervals.blocks
    v.stabs.blocks (ceiling K (payload_in s)) h.shape (stab_blocks_are h is K) in
    omega (arith, size, lists)

-- A number of free blocks suffices: the queue's room for all its calls, and the tree's.
small_by : (o : Option (ShapeNumbers → ℕ → ℕ)) (k used m i p size calls j : ℕ) (v : ShapeNumbers)
    → IfSome o IsRisingRoom → k ≤ max j (2 * size) → j ≤ calls
    → IfSome o (λ f. used + m < i + (f v k + p))
    → IfSome o (λ f. calls ≡ 0 → used + m < i + (f v (4 * size) + p))
small_by None k used m i p size calls j v r a b h = tt
small_by (Some f) k used m i p size calls j v r a b h = λ none.
    let more = r v k (4 * size) (omega (arith, a, b, none)) in omega (arith, h, more)

pub stops_small : {Q : Type 0} (q : QueueGhosts Q) (x y : Q) {s t : RigState} {v : Stab}
    (cs : List Command) (fault : EmFault) → StabsCost q x y s t v cs → (q.counts x).k ≤ (q.counts x).n
    → IfSome q.room IsRisingRoom
    → FullBeside q.room (stab_account v).blocks (stab_room s.pool.shape (stab_size v cs)) (q.counts x)
    (q.counts y).k s fault → IsTrue s.device.told → FullIfSmall q x s v cs (Err fault)
stops_small q x y cs DeviceFault c k rises full told = tt
stops_small q x y {s} {t} {v} cs (Full used) c k rises full told =
    let size = stab_size v cs in
    small_by q.room (q.counts y).k used ((q.counts x).blocks + (stab_account v).blocks) s.used
    (stab_room s.pool.shape size) size (q.counts x).n (q.counts x).k s.pool.shape rises
    (omega (arith, c.most_calls)) k (full.is told)
stops_small q x y cs (Damaged block) c k rises full told = tt

-- the same where the queue's end was refused
pub end_small : {Q : Type 0} (q : QueueGhosts Q) (x y : Q) {s t : RigState} {v : Stab} {e : Chain}
    (cs : List Command) (fault : EmFault) → StabsCost q x y s t v cs → AnswersStabs q x y s t v e
    → e.blocks ≤ stab_room s.pool.shape (stab_size v cs) → (q.counts x).k ≤ (q.counts x).n
    → IfSome q.room IsRisingRoom
    → IfFull fault (LacksBlocks q.enough q.room (q.counts y) (q.counts y).k t) → IsTrue s.device.told
    → FullIfSmall q x s v cs (Err fault)
end_small q x y {e = e} cs fault c a few k rises full told =
    let used = a.used in
    stops_small q x y cs fault c k rises (full_from a.session.touches.shape a.session.touches.told
    (omega (arith, used, few)) (full_queue q.enough e.blocks fault full)) told
