-- Records become a chain.
use Rattle.std.proofs.Common.{◌≡◌, ℕ, ◌+◌, ◌*◌, ◌<◌, ◌≤◌, min, max, List, [], ◌++◌, length, refl, ap, sym, ◌∙◌, arith, IsTrue, Ok, Err, Result, IfOk, IfErr}
use Rattle.em_record.specs.declared.record.Record.{Record}
use Rattle.em_space.specs.Ledger.{moved, Halts, Session, Spends}
use Rattle.em_space.specs.Rig.{RigState, Goes, DeviceCause}
use Rattle.em_space.specs.declared.fault.EmFault.{EmFault}
use Rattle.em_space.proofs.Held.{apart_none, in_use_kept}
use Rattle.em_space.proofs.Ledgers.{full_by, halts_after, halts_wider}
use Rattle.em_space.proofs.Paying.{pays_kept, pays_more, pays_then}
use Rattle.em_space.proofs.Runs.{runs_goes}
use Rattle.em_space.proofs.Steps.{cause_after, device_cause, touches_after}
use Rattle.em_space.proofs.Within.{touches_within}
use Rattle.em_chain.specs.Chain.{IsChain, payload_in, chain_blocks, chain_items}
use Rattle.em_chain.specs.Counts.{ceiling}
use Rattle.em_chain.specs.Effects.{LendsFrame, GivesFrame, Unmoved}
use Rattle.em_chain.specs.Session.{FinishSpends, chain_account, writer_account}
use Rattle.em_chain.specs.Writer.{filled, writer_blocks}
use Rattle.em_chain.specs.Writes.{Begins, Finishes}
use Rattle.em_chain.specs.declared.chain.Chain.{Chain}
use Rattle.em_chain.specs.declared.writer.Writer.{Writer}
use Rattle.em_chain.proofs.Counts.{writer_blocks_are}
use Rattle.em_chain.proofs.Keeps.{lent_given, lent_same, payload_kept}
use Rattle.em_chain.proofs.Laws.{chain_stays}
use Rattle.em_chain.proofs.Writings.{cause_still, halts_between, halts_moved}
use Rattle.em_plain.specs.Adds.{Adds, AddsBeside, StopsAdding, StopsWritten, Written, WrittenTo, no_account}

-- A writer was made beside a chain.
pub beside_first : {s t : RigState} {c : Chain} {w : Writer} → IsChain s c → LendsFrame s t
    → Begins t w → AddsBeside t c w
beside_first {s} {t} {c} {w} i l b =
    let m = chain_stays [] s t c l.touches (λ z. apart_none (chain_blocks s c)) i in
    record {
      chain = m.is;
      writer = record {
        writer = b.is;
        filled_is = b.filled_is ∙ sym b.count;
        held = omega (arith, b.blocks);
      };
      apart = λ z. rw b.held (apart_none (chain_blocks t c));
    }

-- the items of a chain beside which a frame was lent
pub items_lent : {s t : RigState} {c : Chain} → IsChain s c → LendsFrame s t
    → IsTrue s.device.told → chain_items t c ≡ chain_items s c
items_lent {s} {t} {c} i l z =
    (chain_stays [] s t c l.touches (λ y. apart_none (chain_blocks s c)) i).items z

-- Calls between the making of a writer and the return of its frame.
goes_between : {s a b t : RigState} {w : Writer} (ks : List ℕ) → LendsFrame s a → Begins a w
    → Goes (writer_blocks a w) a b → Session (writer_blocks a w) a b ks → GivesFrame ks b t
    → Goes [] s t
goes_between {s} {a} {b} {t} {w} ks l n g h k =
    let d = touches_within a b t (writer_blocks a w) ks g.touches h.within k.touches in
    record {
      sound = k.sound;
      touches = touches_after [] s a t l.touches (rw n.held at d);
      frames = lent_given s.pool b.pool t.pool (lent_same 1 s.pool a.pool b.pool l.frames g.frames)
          k.frames;
    }

-- What a list spent that was begun and finished.
finish_spends : {s a b t : RigState} {w : Writer} (p m : ℕ) (v : Writer) (c : Chain) → Unmoved s a
    → Begins a w → Spends v.blocks (writer_account w) (moved m (writer_account v)) a b
    → Spends v.blocks (writer_account v) (chain_account p c) b t → c.blocks ≡ v.blocks
    → Spends c.blocks no_account (chain_account (p + m) c) s t
finish_spends {s} {a} {b} {t} {w} p m v c u n h k e =
    let z = n.blocks in
    let x : b.used + w.blocks ≡ a.used + v.blocks = h.used in
    let y : b.most + w.blocks ≤ max (a.most + w.blocks) (a.used + v.blocks) = h.most in
    let o : b.moves + 2 * w.blocks ≤ a.moves + (2 * v.blocks + m) = omega (arith, h.moves) in
    let xk : t.used + v.blocks ≡ b.used + c.blocks = k.used in
    let yk : t.most + v.blocks ≤ max (b.most + v.blocks) (b.used + v.blocks) = k.most in
    record {
      held = omega arith;
      used = omega (arith, u.same.used);
      most = omega (arith, u.same.used, u.same.most, k.held);
      moves = omega (arith, u.moves, k.moves);
      later = omega (arith, u.moves, h.later, k.later);
      pays = pays_more (pays_then (pays_kept (min w.blocks 1) (omega (arith, u.same.used))
          (omega (arith, u.moves))) (pays_then h.pays k.pays k.later)
          (omega (arith, h.later, k.later))) (omega arith);
    }

halts_first : {p l f : ℕ} {s t : RigState} {e : EmFault} (w : Writer) → w.blocks ≡ 0
    → Halts p l f (writer_account w) s t e → Halts p l f no_account s t e
halts_first {p} {l} {f} {s} {t} {e} w z h = record {
  used = omega (arith, h.used);
  full = full_by e (t.used + w.blocks < s.used + p) (t.used + 0 < s.used + p) (λ k. omega (arith, k))
      h.full;
  most = omega (arith, h.most);
  moves = omega (arith, h.moves);
  later = h.later;
  pays = pays_more h.pays (omega arith);
}

-- as many blocks as the records need
written_blocks : {m : ℕ} {s a b : RigState} {w v : Writer} {xs : List Record} → LendsFrame s a
    → Begins a w → (h : Adds m a b w v xs)
    → v.blocks ≡ ceiling (length h.written) (payload_in s)
written_blocks {m} {s} {a} {b} {w} {v} {xs} l n h =
    let r = h.writes.runs.session in
    let p : payload_in b ≡ payload_in s =
    payload_kept (writer_blocks a w) a b r.touches ∙ payload_kept [] s a l.touches in
    let e : filled b v ≡ length h.written = omega (arith, h.writes.wrote.filled_is, n.filled_is) in
    rw (e, p) at (writer_blocks_are b v r.sound.shape.block_low h.writes.wrote.is)

session_less : {ks : List ℕ} {s t : RigState} → Goes ks s t → Session ks s t []
session_less g = record {
  sound = g.sound;
  touches = g.touches;
  within = record { off = λ z j i o. tt };
  holds = λ z. record { in_use = tt; distinct = λ y. tt };
}

unmoved_none : (s : RigState) → Unmoved s s
unmoved_none s = record {
  device = refl;
  spare = refl;
  same = record { head = refl; used = refl; most = refl };
  moves = refl;
}

-- The records became a chain.
pub written_by : {m : ℕ} {s a b t : RigState} {w v : Writer} {xs : List Record} {c : Chain}
    (ys : List Record) → LendsFrame s a → Unmoved s a → Begins a w → Adds m a b w v xs
    → (IsTrue s.device.told → xs ≡ ys) → GivesFrame (writer_blocks b v) b t → Finishes b t v c
    → FinishSpends b t v (Ok c) → Written m s t ys c
written_by {m} {s} {a} {b} {t} {w} {v} {xs} {c} ys l u n h q g f k =
    let r = h.writes.runs in
    let td = l.touches.told in
    let te = r.session.touches.told in
    let goes = goes_between (writer_blocks b v) l n (runs_goes r) r.session g in
    record {
      written = h.written;
      told = λ z. h.told (td ∙ z) ∙ q z;
      few = h.few;
      is = f.is;
      items = λ z. f.items (te ∙ td ∙ z) ∙ h.writes.wrote.items (td ∙ z)
          ∙ ap (λ (l : List Record). l ++ h.written) n.items;
      packed = λ z. f.packed (te ∙ td ∙ z) (h.writes.wrote.packed (td ∙ z) n.packed);
      blocks_is = f.blocks_is ∙ written_blocks l n h;
      extra = min v.blocks 1 + h.writes.extra;
      runs = record {
        session = record {
          sound = g.sound;
          touches = goes.touches;
          within = record {
            off = λ z j i o. rw (f.blocks (te ∙ td ∙ z)) (r.session.within.off (td ∙ z) j
                (in_use_kept [] s a j l.touches (λ _. tt) i) (rw n.held tt));
          };
          holds = λ z. (f.is.told (g.touches.told ∙ te ∙ td ∙ z)).holds;
        };
        frames = goes.frames;
        spends = finish_spends (min v.blocks 1) h.writes.extra v c u n r.spends k f.blocks_is;
      };
    }

-- Calls on the writer gave up, and it was abandoned.
pub stops_written : {m : ℕ} {s a b t : RigState} {w : Writer} {xs : List Record} {e : EmFault}
    (ys : List Record) → LendsFrame s a → Unmoved s a → Begins a w → StopsAdding m a b w xs e
    → (IsTrue s.device.told → xs ≡ ys) → GivesFrame [] b t → Unmoved b t
    → StopsWritten m s t ys e
stops_written {m} {s} {a} {b} {t} {w} {xs} {e} ys l u n h q g y =
    let o = h.stops.stops in
    let f : filled a w + h.tried ≡ h.tried = omega (arith, n.filled_is) in
    let p : payload_in a ≡ payload_in s = payload_kept [] s a l.touches in
    record {
      tried = h.tried;
      told = λ z.
          let i = h.told (l.touches.told ∙ z) in
          let j = ap (λ (zs : List Record). length zs) (q z) in
          omega (arith, i, j);
      few = h.few;
      extra = h.stops.extra;
      stops = record {
        goes = goes_between [] l n o.goes (session_less o.goes) g;
        halts = halts_between u (halts_first w n.blocks (rw (f, p) at o.halts)) y;
        cause = cause_still s b t e y g.touches (cause_after [] s a b e l.touches o.cause);
      };
    }

-- The last block couldn't be stored.
pub stops_finish : {m : ℕ} {s a b t : RigState} {w v : Writer} {xs : List Record} {e : EmFault}
    (ys : List Record) → LendsFrame s a → Unmoved s a → Begins a w → Adds m a b w v xs
    → (IsTrue s.device.told → xs ≡ ys) → GivesFrame (writer_blocks b v) b t
    → FinishSpends b t v (Err e) → DeviceCause b t e → StopsWritten m s t ys e
stops_finish {m} {s} {a} {b} {t} {w} {v} {xs} {e} ys l u n h q g k d =
    let r = h.writes.runs in
    record {
      tried = length h.written;
      told = λ z.
          let i = ap (λ (zs : List Record). length zs) (h.told (l.touches.told ∙ z) ∙ q z) in
          omega (arith, i);
      few = h.few;
      extra = h.writes.extra + (2 * v.blocks + min v.blocks 1);
      stops = record {
        goes = goes_between (writer_blocks b v) l n (runs_goes r) r.session g;
        halts = halts_between u (halts_first w n.blocks (halts_wider
            (let i = written_blocks l n h in omega (arith, i)) (omega arith) (omega arith)
            (halts_after r.spends (halts_moved h.writes.extra k)))) (unmoved_none t);
        cause = cause_after [] s a t e l.touches (cause_after (writer_blocks a w) a b t e
            r.session.touches (device_cause b t e d));
      };
    }

-- the same by the result
pub written_to : {m : ℕ} {s a b t : RigState} {w v : Writer} {xs : List Record}
    (ys : List Record) (result : Result Chain EmFault) → LendsFrame s a → Unmoved s a
    → Begins a w → Adds m a b w v xs → (IsTrue s.device.told → xs ≡ ys)
    → GivesFrame (writer_blocks b v) b t → IfOk result (Finishes b t v) → FinishSpends b t v result
    → IfErr result (DeviceCause b t) → WrittenTo m s t ys result
written_to ys (Ok c) l u n h q g f k d = written_by ys l u n h q g f k
written_to ys (Err e) l u n h q g f k d = stops_finish ys l u n h q g k d

-- Only new blocks may have changed.
pub written_goes : {m : ℕ} {s t : RigState} {xs : List Record} {c : Chain} → Written m s t xs c
    → Goes [] s t
written_goes h = runs_goes h.runs
