-- Calls between which a frame was lent and given back: they held what calls without it hold.
use Rattle.std.proofs.Common.{ℕ, ◌<◌, List, [], refl}
use Rattle.em_frames.specs.Pool.{given, lent}
use Rattle.em_space.specs.Ledger.{Account, Runs, Stops}
use Rattle.em_space.specs.Rig.{RigState, Sound, InUse, Touches, Cause}
use Rattle.em_space.specs.declared.fault.EmFault.{EmFault}
use Rattle.em_space.specs.declared.fault.EmFault.TheVariants.{DeviceFault, Full, Damaged}
use Rattle.em_space.proofs.Held.{apart_none, holds_kept}
use Rattle.em_space.proofs.Runs.{runs_goes}
use Rattle.em_space.proofs.Steps.{goes_with_frame, touches_pool}

-- a block in use, whatever the pool has lent
pub in_use_lent : {s : RigState} {k : ℕ} → InUse s k → InUse (record s { pool = lent s.pool }) k
in_use_lent u = record { told = u.told; untold = u.untold }

pub in_use_given : {s : RigState} {k : ℕ} → InUse s k → InUse (record s { pool = given s.pool }) k
in_use_given u = record { told = u.told; untold = u.untold }

-- Calls with a ledger, between which a frame was lent and given back.
pub runs_framed : {p : ℕ} {ks js : List ℕ} {a b : Account} {s t : RigState} → Sound s
    → 0 < s.pool.free → Runs p ks js a b (record s { pool = lent s.pool }) t
    → Runs p ks js a b s (record t { pool = given t.pool })
runs_framed {p} {ks} {js} {a} {b} {s} {t} sound free r =
    let u = record t { pool = given t.pool } in
    let g = goes_with_frame ks s t sound free (runs_goes r) in
    let h : Touches [] t u = touches_pool t (given t.pool) refl in
    let c = r.spends in
    record {
      session = record {
        sound = g.sound;
        touches = g.touches;
        within = record { off = λ z j k o. r.session.within.off z j (in_use_lent k) o };
        holds = λ z. holds_kept [] t u js h (λ y. apart_none js) (r.session.holds z);
      };
      frames = g.frames;
      spends = record {
        held = c.held;
        used = c.used;
        most = c.most;
        moves = c.moves;
        later = c.later;
        pays = record { is = c.pays.is };
      };
    }

-- The same of calls that gave up.
pub stops_framed : {p l f : ℕ} {ks : List ℕ} {a : Account} {s t : RigState} {e : EmFault}
    → Sound s → 0 < s.pool.free → Stops p l f ks a (record s { pool = lent s.pool }) t e
    → Stops p l f ks a s (record t { pool = given t.pool }) e
stops_framed {p} {l} {f} {ks} {a} {s} {t} {e} sound free x =
    let c = x.halts in
    record {
      goes = goes_with_frame ks s t sound free x.goes;
      halts = record {
        used = c.used;
        full = c.full;
        most = c.most;
        moves = c.moves;
        later = c.later;
        pays = record { is = c.pays.is };
      };
      cause = cause_given e x.cause;
    }
  where
    cause_given : (d : EmFault) → Cause (record s { pool = lent s.pool }) t d
        → Cause s (record t { pool = given t.pool }) d
    cause_given DeviceFault c = c
    cause_given (Full used) c = c
    cause_given (Damaged block) c = c
