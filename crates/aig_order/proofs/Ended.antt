-- Calls of a queue beside a list that was begun before them and is finished after them.
use Rattle.std.proofs.Common.{◌≡◌, ℕ, ◌+◌, ◌*◌, ◌<◌, ◌≤◌, min, List, [], ◌++◌, IsTrue, ap, refl, subst, sym, ◌∙◌, arith}
use Rattle.std.proofs.lemmas.List.{append-nil}
use Rattle.em_record.specs.Shape.{ShapeNumbers}
use Rattle.em_space.specs.Held.{Holds}
use Rattle.em_space.specs.Ledger.{Account, Halts, Session, Spends}
use Rattle.em_space.specs.Queue.{Pays, QueueCounts}
use Rattle.em_space.specs.Rig.{RigState, DeviceCause}
use Rattle.em_space.specs.declared.fault.EmFault.{EmFault}
use Rattle.em_space.proofs.Apart.{off_right}
use Rattle.em_space.proofs.Paying.{pays_kept, pays_more, pays_then}
use Rattle.em_space.proofs.Sessions.{session_as, session_beside, session_still, session_trans}
use Rattle.em_space.proofs.Steps.{cause_after, device_cause, touches_wider}
use Rattle.em_space.proofs.Within.{touches_within, within_kept, within_same}
use Rattle.em_chain.specs.Chain.{chain_blocks}
use Rattle.em_chain.specs.Counts.{ceiling}
use Rattle.em_chain.specs.Effects.{GivesFrame, LendsFrame, Unmoved}
use Rattle.em_chain.specs.Session.{chain_account, writer_account}
use Rattle.em_chain.specs.Writer.{writer_blocks}
use Rattle.em_chain.specs.Writes.{Finishes}
use Rattle.em_chain.specs.declared.chain.Chain.{Chain}
use Rattle.em_chain.specs.declared.writer.Writer.{Writer}
use Rattle.em_chain.proofs.Keeps.{lent_given, lent_same}
use Rattle.em_chain.proofs.Sessions.{ceiling_rises}
use Rattle.em_queued.specs.Queued.{RunsBeside, StopsBeside}
use Rattle.em_queued.specs.Room.{StatedRoom}
use Rattle.em_queued.proofs.Queued.{shares_frames}
use Rattle.em_queued.proofs.Room.{full_device, full_wider}

-- The blocks of a packed list of at most k records.
pub blocks_within : (n k p : ℕ) {b : ℕ} → n ≤ k → 0 < p → b ≡ ceiling n p → b ≤ ceiling k p
blocks_within n k p few some e =
    let rise = ceiling_rises n k p some few in omega (arith, e, rise)

-- It was finished,
pub finish_runs : {i p : ℕ} {a : Account} {c d : QueueCounts} {s m n t : RigState} {v : Writer}
    {e : Chain} (held old qs js : List ℕ) → (IsTrue s.device.told → Holds s held) → LendsFrame s m
    → Unmoved s m → (IsTrue s.device.told → old ≡ held)
    → RunsBeside i p old (qs ++ writer_blocks n v) a (writer_account v) c d m n
    → GivesFrame (writer_blocks n v) n t → Finishes n t v e
    → Spends v.blocks (writer_account v) (chain_account (min v.blocks 1) e) n t
    → (IsTrue n.device.told → js ≡ qs) → v.blocks ≤ p
    → RunsBeside i p held (js ++ chain_blocks t e) a (chain_account (min v.blocks 1) e) c d s t
finish_runs {i} {p} {a} {c} {d} {s} {m} {n} {t} {v} {e} held old qs js has l u eo h g f k same low =
    let r = h.runs in
    let ws = writer_blocks n v in
    let ls = chain_blocks t e in
    let first = session_as old (session_still held l.sound l.touches has) eo in
    let whole = session_trans first r.session in
    let own : Session ws n t ls = record {
      sound = g.sound;
      touches = g.touches;
      within = within_kept n ws ws ls (within_same n ws) f.blocks;
      holds = λ z. (f.is.told (g.touches.told ∙ z)).holds;
    } in
    let all : IsTrue n.device.told → Holds n (qs ++ (ws ++ [])) =
    λ z. rw (append-nil ws) (whole.holds (sym whole.touches.told ∙ z)) in
    let wide = session_beside qs ws ls [] all own in
    let last : Session (qs ++ ws) n t (qs ++ (ls ++ [])) =
    subst (λ (zs : List ℕ). Session (qs ++ zs) n t (qs ++ (ls ++ []))) (append-nil ws) wide in
    let end = session_as (js ++ ls) last (λ z. rw (same z, append-nil ls) refl) in
    let x = r.spends in
    let later = d.unstored in
    let stored : Pays (later + min v.blocks 1) (later + 0) n t = pays_more k.pays (omega arith) in
    record {
      runs = record {
        session = session_trans whole end;
        frames = lent_given s.pool n.pool t.pool
            (lent_same 1 s.pool m.pool n.pool l.frames r.frames) g.frames;
        spends = record {
          held = omega (arith, x.held, f.blocks_is);
          used = omega (arith, x.used, k.used, u.same.used);
          most = omega (
            arith,
            x.used,
            x.most,
            k.used,
            k.most,
            u.same.used,
            u.same.most,
            f.blocks_is,
            low,
            x.held,
          );
          moves = omega (arith, x.moves, k.moves, u.moves);
          later = omega (arith, x.later, k.later, u.moves);
          pays = pays_then (pays_then (pays_kept (c.unstored + a.unstored) (omega (
            arith,
            u.same.used,
          ))
              (omega (arith, u.moves))) x.pays x.later) stored k.later;
        };
      };
      calls_on = h.calls_on;
    }

-- or it wasn't.
pub finish_stops : {i p : ℕ} {a : Account} {c d : QueueCounts} {s m n t : RigState}
    {room : StatedRoom} (v : Writer)
    {fault : EmFault} (held old qs : List ℕ) → (IsTrue s.device.told → Holds s held)
    → LendsFrame s m → Unmoved s m → (IsTrue s.device.told → old ≡ held)
    → RunsBeside i p old (qs ++ writer_blocks n v) a (writer_account v) c d m n
    → d.unstored ≤ n.pool.shape.frames → GivesFrame (writer_blocks n v) n t
    → Halts v.blocks (2 * v.blocks + min v.blocks 1) (min v.blocks 1) (writer_account v) n t fault
    → DeviceCause n t fault → v.blocks ≤ p
    → StopsBeside room i p (2 * v.blocks + 1) 1 held a c d s t fault
finish_stops {i} {p} {a} {c} {d} {s} {m} {n} {t} v {fault} held old qs has l u eo h few g k cause
    low =
    let r = h.runs in
    let ws = writer_blocks n v in
    let first = session_as old (session_still held l.sound l.touches has) eo in
    let whole = session_trans first r.session in
    let x = r.spends in
    let frames = lent_given s.pool n.pool t.pool
    (lent_same 1 s.pool m.pool n.pool l.frames r.frames) g.frames in
    let shape : n.pool.shape.frames ≡ s.pool.shape.frames =
    ap (λ (z : ShapeNumbers). z.frames) whole.touches.shape in
    let owing : Pays (d.unstored + min v.blocks 1) (s.pool.shape.frames + 1) n t =
    pays_more k.pays (omega (arith, few, shape)) in
    record {
      sound = g.sound;
      touches = touches_within s n t held (qs ++ ws) whole.touches whole.within (touches_wider (qs ++
          ws) ws n t g.touches (λ z j i o. off_right j qs ws o));
      frames = shares_frames frames h.calls_on.frames h.calls_on.areas;
      called = h.calls_on.called;
      most = omega (
        arith,
        x.used,
        x.most,
        k.used,
        k.most,
        u.same.used,
        u.same.most,
        low,
        x.held,
      );
      moves = omega (arith, x.moves, k.moves, u.moves);
      pays = pays_then (pays_then (pays_kept (c.unstored + a.unstored) (omega (arith, u.same.used))
          (omega (arith, u.moves))) x.pays x.later) owing k.later;
      cause = cause_after held s n t fault whole.touches (device_cause n t fault cause);
      full = full_device a.blocks p c d.k s n t fault cause;
    }

-- Another account of as many blocks, that owes what came beyond.
pub stops_by : {i p l u : ℕ} {held : List ℕ} {a : Account} {c d : QueueCounts} {s t : RigState}
    {fault : EmFault} {room : StatedRoom} (x : Account) (n : ℕ) → x.blocks ≡ a.blocks
    → x.unstored ≡ a.unstored
    → a.owed + x.paid + l ≤ x.owed + a.paid + n → StopsBeside room i p l u held a c d s t fault
    → StopsBeside room i p n u held x c d s t fault
stops_by x n blocks unstored most h = record {
  sound = h.sound;
  touches = h.touches;
  frames = h.frames;
  called = h.called;
  most = omega (arith, h.most, blocks);
  moves = omega (arith, h.moves, most);
  pays = pays_more h.pays (omega (arith, unstored));
  cause = h.cause;
  full = full_wider (omega (arith, blocks)) h.full;
}
