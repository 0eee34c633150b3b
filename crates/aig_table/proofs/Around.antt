-- Calls between which frames were lent and given back.
use Rattle.std.proofs.Common.{◌≡◌, ℕ, ◌<◌, ◌≤◌, List, [], IsTrue, sym, ap, ◌∙◌, arith}
use Rattle.em_frames.specs.Pool.{PoolCounts, SameFrames, given, given_area, lent, lent_area, singles_of}
use Rattle.em_space.specs.Held.{Holds}
use Rattle.em_space.specs.Ledger.{Account, Runs, Stops}
use Rattle.em_space.specs.Rig.{RigState, Sound, Touches}
use Rattle.em_space.specs.declared.fault.EmFault.{EmFault}
use Rattle.em_space.proofs.Paying.{pays_kept, pays_then}
use Rattle.em_space.proofs.Sessions.{session_as, session_still, session_trans}
use Rattle.em_space.proofs.Steps.{cause_after, touches_then, touches_trans}
use Rattle.em_chain.specs.Effects.{GivesFrame, LendsFrame, Unmoved}
use Rattle.em_chain.proofs.Keeps.{lent_given, lent_same, touches_none}
use Rattle.em_chain.proofs.Writings.{cause_still, halts_between}

-- Nothing but frames went out or came back.
pub record IsStill (s t : RigState) : Type 0 where
  pub sound : Sound t
  pub touches : Touches [] s t
  pub unmoved : Unmoved s t

pub lends_still : {s t : RigState} → LendsFrame s t → Unmoved s t → IsStill s t
lends_still l x = record { sound = l.sound; touches = l.touches; unmoved = x }

pub gives_still : {s t : RigState} → GivesFrame [] s t → Unmoved s t → IsStill s t
gives_still l x = record { sound = l.sound; touches = l.touches; unmoved = x }

pub unmoved_by : {s a : RigState} (p : PoolCounts) → a ≡ record s { pool = p } → Unmoved s a
unmoved_by p e = record {
  device = ap (λ (x : RigState). x.device) e;
  same = record {
    head = ap (λ (x : RigState). x.head) e;
    used = ap (λ (x : RigState). x.used) e;
    most = ap (λ (x : RigState). x.most) e;
  };
  moves = ap (λ (x : RigState). x.moves) e;
  spare = ap (λ (x : RigState). x.spare) e;
}

pub pool_still : {s a : RigState} (p : PoolCounts) → Sound a → Touches [] s a → a ≡ record s { pool = p }
    → IsStill s a
pool_still p h g e = record { sound = h; touches = g; unmoved = unmoved_by p e }

-- An area was lent and came back.
pub area_frames : {s a b t : RigState} → 0 < s.pool.free_areas → a ≡ record s { pool = lent_area s.pool }
    → SameFrames a.pool b.pool → t ≡ record b { pool = given_area b.pool } → SameFrames s.pool t.pool
area_frames some e f d =
    let areas = ap (λ (x : RigState). x.pool.free_areas) e in
    let given = ap (λ (x : RigState). x.pool.free_areas) d in
    let peak = ap (λ (x : RigState). x.pool.peak) e in
    let top = ap (λ (x : RigState). x.pool.peak) d in
    let same = f.free_areas in
    let more = f.peak in
    record {
      shape = ap (λ (x : RigState). x.pool.shape) d ∙ f.shape ∙ ap (λ (x : RigState). x.pool.shape) e;
      free = ap (λ (x : RigState). x.pool.free) d ∙ f.free ∙ ap (λ (x : RigState). x.pool.free) e;
      rack = ap (λ (x : RigState). x.pool.rack_out) d ∙ f.rack ∙ ap (λ (x : RigState). x.pool.rack_out) e;
      free_areas = omega (arith, areas, given, same, some);
      peak = omega (arith, peak, top, more);
    }

pub frame_frames : {s a b t : RigState} → LendsFrame s a → SameFrames a.pool b.pool → GivesFrame [] b t
    → SameFrames s.pool t.pool
frame_frames {s} {a} {b} {t} l f g =
    lent_given s.pool b.pool t.pool (lent_same 1 s.pool a.pool b.pool l.frames f) g.frames

-- The calls had a ledger,
pub runs_around : {p : ℕ} {ks js : List ℕ} {x y : Account} {s a b t : RigState} (held us : List ℕ)
    → (IsTrue s.device.told → Holds s held) → IsStill s a → (IsTrue s.device.told → ks ≡ held)
    → Runs p ks js x y a b → IsStill b t → (IsTrue b.device.told → us ≡ js) → SameFrames s.pool t.pool
    → Runs p held us x y s t
runs_around {p} {ks} {js} {x} {y} {s} {a} {b} {t} held us n l e h g d f =
    let first = session_as ks (session_still held l.sound l.touches n) e in
    let whole = session_trans first h.session in
    let last = session_as us (session_still js g.sound g.touches
    (λ z. whole.holds (sym whole.touches.told ∙ z))) d in
    let c = h.spends in
    let used_l = l.unmoved.same.used in
    let used_g = g.unmoved.same.used in
    let most_l = l.unmoved.same.most in
    let most_g = g.unmoved.same.most in
    let moves_l = l.unmoved.moves in
    let moves_g = g.unmoved.moves in
    record {
      session = session_trans whole last;
      frames = f;
      spends = record {
        held = c.held;
        used = omega (arith, c.used, used_l, used_g);
        most = omega (arith, c.most, used_l, most_l, most_g);
        moves = omega (arith, c.moves, moves_l, moves_g);
        later = omega (arith, c.later, moves_l, moves_g);
        pays = pays_then (pays_kept x.unstored (omega (arith, used_l)) (omega (arith, moves_l)))
            (pays_then c.pays (pays_kept y.unstored (omega (arith, used_g)) (omega (arith, moves_g)))
            (omega (arith, moves_g))) (omega (arith, c.later, moves_g));
      };
    }

-- or the last one gave up.
pub stops_around : {p m f : ℕ} {ks : List ℕ} {x : Account} {s a b t : RigState} {e : EmFault}
    (held : List ℕ) → IsStill s a → (IsTrue s.device.told → ks ≡ held) → Stops p m f ks x a b e
    → IsStill b t → SameFrames s.pool t.pool → Stops p m f held x s t e
stops_around {p} {m} {f} {ks} {x} {s} {a} {b} {t} {e} held l d h g q = record {
  goes = record {
    sound = g.sound;
    touches = touches_then held s b t (touches_trans held ks s a b (touches_none held s a l.touches)
        h.goes.touches (λ z k i o. rw (d z) o)) g.touches;
    frames = q;
  };
  halts = halts_between l.unmoved h.halts g.unmoved;
  cause = cause_still s b t e g.unmoved g.touches (cause_after [] s a b e l.touches h.cause);
}

pub lends_frame : {s a : RigState} → Sound a → Touches [] s a → a ≡ record s { pool = lent s.pool }
    → 0 < s.pool.free → s.pool.free ≤ singles_of s.pool.shape → LendsFrame s a
lends_frame h g e some most =
    let free = ap (λ (x : RigState). x.pool.free) e in
    let peak = ap (λ (x : RigState). x.pool.peak) e in
    record {
      sound = h;
      touches = g;
      frames = record {
        shape = ap (λ (x : RigState). x.pool.shape) e;
        free = omega (arith, free, some);
        rack = ap (λ (x : RigState). x.pool.rack_out) e;
        free_areas = ap (λ (x : RigState). x.pool.free_areas) e;
        peak = omega (arith, peak);
      };
      within = most;
    }

pub gives_frame : {b t : RigState} → Sound t → Touches [] b t → t ≡ record b { pool = given b.pool }
    → GivesFrame [] b t
gives_frame h g e =
    let peak = ap (λ (x : RigState). x.pool.peak) e in
    record {
      sound = h;
      touches = g;
      frames = record {
        shape = ap (λ (x : RigState). x.pool.shape) e;
        free = ap (λ (x : RigState). x.pool.free) e;
        rack = ap (λ (x : RigState). x.pool.rack_out) e;
        free_areas = ap (λ (x : RigState). x.pool.free_areas) e;
        peak = omega (arith, peak);
      };
    }
