-- All pairs of points and pieces become a chain.
use Rattle.std.proofs.Common.{◌≡◌, ℕ, ◌+◌, ◌*◌, ◌≤◌, ◌<◌, min, List, [], ◌∷◌, ◌++◌, length, IsTrue, Result, Ok, Err, IfOk, IfErr, ap, refl, subst, sym, ◌∙◌, arith}
use Rattle.std.proofs.lemmas.List.{append-nil}
use Rattle.std.proofs.lemmas.List.Sums.{sum_by-cons}
use Rattle.std.specs.List.{sum_by}
use Rattle.em_record.specs.Shape.{ShapeNumbers, fan_of, payload_of}
use Rattle.em_record.specs.declared.record.Record.{Record}
use Rattle.em_space.specs.Ledger.{Halts, Session}
use Rattle.em_space.specs.Queue.{Pays}
use Rattle.em_space.specs.Rig.{DeviceCause, RigState}
use Rattle.em_space.specs.declared.fault.EmFault.{EmFault}
use Rattle.em_space.proofs.Held.{apart_none}
use Rattle.em_space.proofs.Ledgers.{full_by, full_never}
use Rattle.em_space.proofs.Paying.{pays_kept, pays_more, pays_then}
use Rattle.em_space.proofs.Sessions.{session_as, session_still, session_trans}
use Rattle.em_space.proofs.Steps.{cause_after, device_block_cause, device_cause, touches_then, touches_trans}
use Rattle.em_space.proofs.Within.{touches_within}
use Rattle.em_chain.specs.Chain.{ChainStays, chain_blocks, chain_items, payload_in}
use Rattle.em_chain.specs.Counts.{ceiling}
use Rattle.em_chain.specs.Effects.{GivesFrame, LendsFrame, Unmoved}
use Rattle.em_chain.specs.Session.{FinishSpends}
use Rattle.em_chain.specs.Writer.{filled, writer_blocks}
use Rattle.em_chain.specs.Writes.{Begins, Finishes}
use Rattle.em_chain.specs.declared.chain.Chain.{Chain}
use Rattle.em_chain.specs.declared.writer.Writer.{Writer}
use Rattle.em_chain.proofs.Counts.{writer_blocks_are}
use Rattle.em_chain.proofs.Keeps.{lent_given, lent_same, payload_kept, touches_none}
use Rattle.em_chain.proofs.Laws.{chain_stays}
use Rattle.em_chain.proofs.Writings.{cause_still, halts_between}
use Rattle.em_queued.specs.Popped.{grown_blocks}
use Rattle.em_segment_model.specs.Alike.{Alike}
use Rattle.em_segment_model.specs.Bounds.{holds, pays}
use Rattle.em_segment_model.specs.Points.{pairs_due}
use Rattle.em_segment_model.specs.Sizes.{fan_root, strip_levels}
use Rattle.em_segment_model.specs.Spans.{ends_of}
use Rattle.em_segment_parts.specs.Accounts.{beside_pairs, stored}
use Rattle.em_segment.specs.Answers.{Answered, CanAnswer, StopsAnswering, WithinCall, call_blocks, due}
use Rattle.em_segment_parts.specs.Chains.{IsPackedChain}
use Rattle.em_segment.specs.Finishes.{CanReportAll, ReportsAll, ReportsAllTo, StopsReportingAll}
use Rattle.em_segment_parts.specs.Reports.{unstored_most}
use Rattle.em_segment.proofs.Closing.{closed_session, packed_stays}
use Rattle.em_segment.proofs.StabCalls.{pairs_begin}

-- A frame was lent to the list of pairs.
pub record LentPairs (w : Writer) (s m : RigState) : Type 0 where
  pub lends : LendsFrame s m
  pub unmoved : Unmoved s m
  pub begins : Begins m w

pub lent_stays : {w : Writer} {s m : RigState} {c : Chain} → LentPairs w s m → IsPackedChain s c
    → ChainStays s m c
lent_stays {w} {s} {m} {c} l i =
    chain_stays [] s m c l.lends.touches (λ z. apart_none (chain_blocks s c)) i.is

lent_list : {s m : RigState} {points pieces : Chain} {w : Writer} → CanReportAll s points pieces
    → LentPairs w s m → IsTrue s.device.told
    → call_blocks m points pieces ++ writer_blocks m w ≡ call_blocks s points pieces
lent_list {s} {m} {points} {pieces} can l z =
    let p = (lent_stays l can.points_are).blocks z in
    let q = (lent_stays l can.pieces_are).blocks z in
    rw (l.begins.held, p, q) (append-nil (call_blocks s points pieces))

lent_session : {s m : RigState} {points pieces : Chain} {w : Writer} → CanReportAll s points pieces
    → LentPairs w s m
    → Session (call_blocks s points pieces) s m (call_blocks m points pieces ++ writer_blocks m w)
lent_session {s} {m} {points} {pieces} {w} can l =
    session_as (call_blocks m points pieces ++ writer_blocks m w)
    (session_still (call_blocks s points pieces) l.lends.sound l.lends.touches can.blocks)
    (lent_list can l)

-- The recursion may be called.
pub can_answer : {s m : RigState} {points pieces : Chain} {w : Writer} → CanReportAll s points pieces
    → LentPairs w s m → CanAnswer m points pieces w
can_answer {s} {m} {points} {pieces} {w} can l =
    let told = l.lends.touches.told in
    let p = lent_stays l can.points_are in
    let q = lent_stays l can.pieces_are in
    record {
      call = record {
        sound = l.lends.sound;
        points_are = packed_stays told can.points_are p;
        pieces_are = packed_stays told can.pieces_are q;
        pairs = pairs_begin l.begins;
        blocks = λ z. (lent_session can l).holds (sym told ∙ z);
        ordered = λ z. rw (p.items (sym told ∙ z)) (can.ordered (sym told ∙ z));
        numbered = λ z. rw (q.items (sym told ∙ z)) (can.numbered (sym told ∙ z));
      };
      singles =
          let e = ap fan_of l.lends.frames.shape in
          omega (arith, e, can.singles, l.lends.frames.free);
      areas = omega (arith, can.areas, l.lends.frames.free_areas);
      rack = l.lends.frames.rack ∙ can.rack;
    }

-- what is said of a shape and of two lists
as_before : (P : ShapeNumbers → List Record → List Record → Type 0) {v w : ShapeNumbers}
    {xs zs ys us : List Record} → w ≡ v → zs ≡ xs → us ≡ ys → P w zs us → P v xs ys
as_before P {v} {w} {xs} {zs} {ys} {us} e f g h =
    subst (λ (x : ShapeNumbers). P x xs ys) e (subst (λ (x : List Record). P w x ys) f
    (subst (λ (x : List Record). P w zs x) g h))

-- Bounds of the call are those of before.
lent_within : {s m : RigState} {points pieces : Chain} {w : Writer} {peak extra : ℕ}
    → CanReportAll s points pieces → LentPairs w s m → IsTrue s.device.told
    → WithinCall m points pieces peak extra → WithinCall s points pieces peak extra
lent_within {s} {m} {points} {pieces} {w} {peak} {extra} can l z h =
    let shape = l.lends.touches.shape in
    let p = (lent_stays l can.points_are).items z in
    let q = (lent_stays l can.pieces_are).items z in
    record {
      moves = as_before (λ (v : ShapeNumbers) (xs : List Record) (ys : List Record).
          extra * payload_of v ≤ pays (payload_of v) (strip_levels v points.count) points.count
          (ends_of xs ys) (length (pairs_due xs ys))) shape p q h.moves;
      room = as_before (λ (v : ShapeNumbers) (xs : List Record) (ys : List Record).
          peak * payload_of v ≤ holds (fan_root v) (payload_of v) (strip_levels v points.count)
          points.count (ends_of xs ys)) shape p q h.room;
    }

lent_due : {s m : RigState} {points pieces : Chain} {w : Writer} → CanReportAll s points pieces
    → LentPairs w s m → IsTrue s.device.told → due m points pieces ≡ due s points pieces
lent_due {s} {m} {points} {pieces} can l z =
    let p = (lent_stays l can.points_are).items z in
    let q = (lent_stays l can.pieces_are).items z in rw (p, q) refl

-- lists that hold the same have as many records
length_weighs : (xs : List Record) → sum_by (λ (x : Record). 1) xs ≡ length xs
length_weighs [] = refl
length_weighs (x ∷ xs) =
    let c = sum_by-cons (λ (y : Record). 1) x xs in let r = length_weighs xs in omega (arith, c, r)

pub alike_length : {xs ys : List Record} → Alike xs ys → length xs ≡ length ys
alike_length {xs} {ys} h =
    sym (length_weighs xs) ∙ h.weighs (λ (x : Record). 1) ∙ length_weighs ys

-- The pairs were found, and their list was finished,
pub all_reported : {s m n t : RigState} {points pieces c : Chain} {w v : Writer}
    → CanReportAll s points pieces → LentPairs w s m → Answered m n points pieces w v
    → GivesFrame (writer_blocks n v) n t → Finishes n t v c → FinishSpends n t v (Ok c)
    → ReportsAll s t points pieces c
all_reported {s} {m} {n} {t} {points} {pieces} {c} {w} {v} can l a g f k =
    let told = l.lends.touches.told in
    let r = a.reports.runs in
    let e = r.spends in
    let b = l.begins in
    let u = l.unmoved in
    let first : Pays 0 (min v.blocks 1) s n =
    let mid : Pays 0 (min v.blocks 1) m n = pays_more e.pays (omega (arith, b.blocks)) in
    pays_then (pays_kept 0 (omega (arith, u.same.used)) (omega (arith, u.moves))) mid e.later in
    record {
      is = f.is;
      packed = λ z.
          let now = told ∙ z in
          f.packed (r.session.touches.told ∙ now) (a.reports.wrote.packed now b.packed);
      few = omega (arith, f.count_is, a.reports.few);
      alike = λ z.
          let now = told ∙ z in
          let items : chain_items t c ≡ a.written = f.items (r.session.touches.told ∙ now)
          ∙ a.reports.wrote.items now ∙ ap (λ (xs : List Record). xs ++ a.written) b.items in record {
            weighs = λ h. ap (λ (xs : List Record). sum_by h xs) items ∙ (a.alike now).weighs h
                ∙ ap (λ (xs : List Record). sum_by h xs) (lent_due can l z);
          };
      peak = a.peak;
      extra = a.extra;
      runs = record {
        session = session_trans (session_trans (lent_session can l) r.session) (closed_session g f);
        frames = lent_given s.pool n.pool t.pool
            (lent_same 1 s.pool m.pool n.pool l.lends.frames r.frames) g.frames;
        spends = record {
          held = omega arith;
          used = omega (arith, e.used, k.used, u.same.used, b.blocks);
          most = omega (
            arith,
            e.used,
            e.most,
            k.used,
            k.most,
            u.same.used,
            u.same.most,
            b.blocks,
            f.blocks_is,
          );
          moves = omega (arith, e.moves, k.moves, u.moves, b.blocks);
          later = omega (arith, e.later, k.later, u.moves);
          pays = pays_then first k.pays k.later;
        };
      };
      within = λ z. lent_within can l z (a.within (told ∙ z));
    }

-- its list wasn't finished,
pub all_unfinished : {s m n t : RigState} {points pieces : Chain} {w v : Writer} {fault : EmFault}
    → CanReportAll s points pieces → LentPairs w s m → Answered m n points pieces w v
    → GivesFrame (writer_blocks n v) n t → FinishSpends n t v (Err fault)
    → DeviceCause n t fault → StopsReportingAll s t points pieces fault
all_unfinished {s} {m} {n} {t} {points} {pieces} {w} {v} {fault} can l a g k cause =
    let told = l.lends.touches.told in
    let r = a.reports.runs in
    let e = r.spends in
    let b = l.begins in
    let u = l.unmoved in
    let whole = session_trans (lent_session can l) r.session in
    let payload : payload_in n ≡ payload_in s =
    payload_kept (call_blocks s points pieces) s n whole.touches in
    let fills : filled n v ≡ length a.written =
    omega (arith, a.reports.wrote.filled_is, b.filled_is) in
    let size : v.blocks ≡ ceiling (length a.written) (payload_in s) =
    writer_blocks_are n v r.session.sound.shape.block_low a.reports.wrote.is
    ∙ ap (λ (k : ℕ). ceiling k (payload_in n)) fills
    ∙ ap (λ (k : ℕ). ceiling (length a.written) k) payload in
    let first : Pays 0 (min v.blocks 1) s n =
    let mid : Pays 0 (min v.blocks 1) m n = pays_more e.pays (omega (arith, b.blocks)) in
    pays_then (pays_kept 0 (omega (arith, u.same.used)) (omega (arith, u.moves))) mid e.later in
    let last : Pays (min v.blocks 1) (unstored_most s) n t = pays_more k.pays (omega arith) in
    record {
      peak = a.peak;
      extra = a.extra;
      tried = length a.written;
      few = λ z.
          let same = alike_length (a.alike (told ∙ z)) in
          let due_is = ap (λ (xs : List Record). length xs) (lent_due can l z) in
          omega (arith, same, due_is);
      stops = record {
        goes = record {
          sound = g.sound;
          touches = touches_within s n t (call_blocks s points pieces) (writer_blocks n v) whole.touches
              whole.within g.touches;
          frames = lent_given s.pool n.pool t.pool
              (lent_same 1 s.pool m.pool n.pool l.lends.frames r.frames) g.frames;
        };
        halts = record {
          used = omega (arith, e.used, k.used, u.same.used, b.blocks, size);
          full = full_never n t fault _ (device_block_cause n t fault cause);
          most = omega (
            arith,
            e.used,
            e.most,
            k.used,
            k.most,
            u.same.used,
            u.same.most,
            b.blocks,
            size,
          );
          moves = omega (arith, e.moves, k.moves, u.moves, b.blocks, size);
          later = omega (arith, e.later, k.later, u.moves);
          pays = pays_then first last k.later;
        };
        cause = cause_after (call_blocks s points pieces) s n t fault whole.touches
            (device_cause n t fault cause);
      };
      within = λ z. lent_within can l z (a.within (told ∙ z));
    }

-- the same of a list with no block yet
halts_none : {p q k l i j n : ℕ} (w : Writer) {s t : RigState} {e : EmFault} → w.blocks ≡ 0 → p ≡ q
    → k ≤ l → i ≡ j → Halts p k i (beside_pairs n w) s t e → Halts q l j (stored n) s t e
halts_none {p} {q} {k} {l} {i} {j} {n} w {s} {t} {e} none same more f h = record {
  used = omega (arith, h.used, none, same);
  full = full_by e (t.used + (n + w.blocks) < s.used + p) (t.used + n < s.used + q)
      (λ x. omega (arith, x, none, same)) h.full;
  most = omega (arith, h.most, none, same);
  moves = omega (arith, h.moves, none, more);
  later = h.later;
  pays = pays_more h.pays (omega (arith, none, f));
}

-- or a call on the way was refused.
pub all_refused : {s m n t : RigState} {points pieces : Chain} {w : Writer} {fault : EmFault}
    → CanReportAll s points pieces → LentPairs w s m → StopsAnswering m n points pieces w fault
    → GivesFrame [] n t → Unmoved n t → StopsReportingAll s t points pieces fault
all_refused {s} {m} {n} {t} {points} {pieces} {w} {fault} can l a g y =
    let told = l.lends.touches.told in
    let k = a.stops.stops in
    let b = l.begins in
    let many : filled m w + a.tried ≡ a.tried = omega (arith, b.filled_is) in
    let grown : grown_blocks a.tried m w ≡ ceiling a.tried (payload_in s) =
    ap (λ (x : ℕ). ceiling x (payload_in m)) many
    ∙ ap (λ (x : ℕ). ceiling a.tried x) (payload_kept [] s m l.lends.touches) in
    let owing : unstored_most m ≡ unstored_most s =
    ap (λ (x : ShapeNumbers). 2 * fan_of x + 2) l.lends.frames.shape in
    record {
      peak = a.peak;
      extra = a.extra;
      tried = a.tried;
      few = λ z.
          let f = a.few (told ∙ z) in
          let due_is = ap (λ (xs : List Record). length xs) (lent_due can l z) in
          omega (arith, f, due_is);
      stops = record {
        goes = record {
          sound = g.sound;
          touches = touches_then (call_blocks s points pieces) s n t
              (touches_trans (call_blocks s points pieces)
              (call_blocks m points pieces ++ writer_blocks m w) s m n
              (touches_none (call_blocks s points pieces) s m l.lends.touches) k.goes.touches
              (λ z j i o. rw (lent_list can l z) o)) g.touches;
          frames = lent_given s.pool n.pool t.pool
              (lent_same 1 s.pool m.pool n.pool l.lends.frames k.goes.frames) g.frames;
        };
        halts = halts_none w b.blocks (ap (λ (x : ℕ). a.peak + x) grown) (omega (arith, grown)) owing
            (halts_between l.unmoved k.halts y);
        cause = cause_still s n t fault y g.touches
            (cause_after [] s m n fault l.lends.touches k.cause);
      };
      within = λ z. lent_within can l z (a.within (told ∙ z));
    }

-- what was done, by the result of the last call
pub all_to : {s m n t : RigState} {points pieces : Chain} {w v : Writer} (result : Result Chain EmFault)
    → CanReportAll s points pieces → LentPairs w s m → Answered m n points pieces w v
    → GivesFrame (writer_blocks n v) n t → IfOk result (λ c. Finishes n t v c)
    → FinishSpends n t v result → IfErr result (DeviceCause n t)
    → ReportsAllTo s t points pieces result
all_to (Ok c) can l a g f k cause = all_reported can l a g f k
all_to (Err e) can l a g f k cause = all_unfinished can l a g k cause
