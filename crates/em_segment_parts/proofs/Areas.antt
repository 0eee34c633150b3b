-- Calls between which an area was lent and given back.
use Rattle.std.proofs.Common.{◌≡◌, ℕ, ◌+◌, ◌<◌, ◌≤◌, List, [], ◌++◌, IsTrue, sym, ap, ◌∙◌, arith}
use Rattle.em_record.specs.Shape.{ShapeNumbers}
use Rattle.em_record.specs.declared.record.Record.{Record}
use Rattle.em_frames.specs.Pool.{PoolCounts, SameFrames, given_area, lent_area}
use Rattle.em_space.specs.Held.{Holds}
use Rattle.em_space.specs.Ledger.{Account, Runs, Stops}
use Rattle.em_space.specs.Rig.{RigState, Sound, Touches}
use Rattle.em_space.specs.declared.fault.EmFault.{EmFault}
use Rattle.em_space.proofs.Held.{apart_none}
use Rattle.em_space.proofs.Paying.{pays_kept, pays_then}
use Rattle.em_space.proofs.Sessions.{session_as, session_still, session_trans}
use Rattle.em_space.proofs.Steps.{cause_after, touches_then, touches_trans}
use Rattle.em_chain.specs.Effects.{Unmoved}
use Rattle.em_chain.specs.Chain.{payload_in}
use Rattle.em_chain.specs.Writer.{IsWriter, WriterStays, filled, writer_blocks}
use Rattle.em_chain.specs.declared.writer.Writer.{Writer}
use Rattle.em_chain.proofs.Keeps.{payload_kept, touches_none}
use Rattle.em_chain.proofs.Laws.{writer_stays}
use Rattle.em_chain.proofs.Sessions.{wrote_stays, wrote_then}
use Rattle.em_chain.proofs.Writings.{cause_still, halts_between}
use Rattle.std.proofs.lemmas.List.{append-nil}
use Rattle.em_segment_parts.specs.Pairs.{IsPairs, StopsPairs, WritesPairs}

-- An area was lent, and no block was changed.
pub record LendsArea (s a : RigState) : Type 0 where
  pub sound : Sound a
  pub touches : Touches [] s a
  pub unmoved : Unmoved s a
  pub free : a.pool.free ≡ s.pool.free
  pub rack : a.pool.rack_out ≡ s.pool.rack_out
  pub areas : a.pool.free_areas + 1 ≡ s.pool.free_areas
  pub peak : s.pool.peak ≤ a.pool.peak

-- One came back.
pub record GivesArea (b t : RigState) : Type 0 where
  pub sound : Sound t
  pub touches : Touches [] b t
  pub unmoved : Unmoved b t
  pub free : t.pool.free ≡ b.pool.free
  pub rack : t.pool.rack_out ≡ b.pool.rack_out
  pub areas : t.pool.free_areas ≡ b.pool.free_areas + 1
  pub peak : b.pool.peak ≤ t.pool.peak

unmoved_by : {s a : RigState} (p : PoolCounts) → a ≡ record s { pool = p } → Unmoved s a
unmoved_by p e = record {
  device = ap (λ (x : RigState). x.device) e;
  spare = ap (λ (x : RigState). x.spare) e;
  same = record {
    head = ap (λ (x : RigState). x.head) e;
    used = ap (λ (x : RigState). x.used) e;
    most = ap (λ (x : RigState). x.most) e;
  };
  moves = ap (λ (x : RigState). x.moves) e;
}

pub lends_area : {s a : RigState} → Sound a → Touches [] s a → a ≡ record s { pool = lent_area s.pool }
    → 0 < s.pool.free_areas → LendsArea s a
lends_area {s} {a} h g e some = record {
  sound = h;
  touches = g;
  unmoved = unmoved_by (lent_area s.pool) e;
  free = ap (λ (x : RigState). x.pool.free) e;
  rack = ap (λ (x : RigState). x.pool.rack_out) e;
  areas = let n = ap (λ (x : RigState). x.pool.free_areas) e in omega (arith, n, some);
  peak = let n = ap (λ (x : RigState). x.pool.peak) e in omega (arith, n);
}

pub gives_area : {b t : RigState} → Sound t → Touches [] b t → t ≡ record b { pool = given_area b.pool }
    → GivesArea b t
gives_area {b} {t} h g e = record {
  sound = h;
  touches = g;
  unmoved = unmoved_by (given_area b.pool) e;
  free = ap (λ (x : RigState). x.pool.free) e;
  rack = ap (λ (x : RigState). x.pool.rack_out) e;
  areas = ap (λ (x : RigState). x.pool.free_areas) e;
  peak = let n = ap (λ (x : RigState). x.pool.peak) e in omega (arith, n);
}

area_frames : {s a b t : RigState} → LendsArea s a → SameFrames a.pool b.pool → GivesArea b t
    → SameFrames s.pool t.pool
area_frames l f g = record {
  shape = g.touches.shape ∙ f.shape ∙ l.touches.shape;
  free = g.free ∙ f.free ∙ l.free;
  rack = g.rack ∙ f.rack ∙ l.rack;
  free_areas = let x = g.areas in let y = f.free_areas in let z = l.areas in omega (arith, x, y, z);
  peak = let x = g.peak in let y = f.peak in let z = l.peak in omega (arith, x, y, z);
}

-- The calls had a ledger,
pub area_runs : {p : ℕ} {ks js : List ℕ} {x y : Account} {s a b t : RigState} (held us : List ℕ)
    → (IsTrue s.device.told → Holds s held) → LendsArea s a → (IsTrue s.device.told → ks ≡ held)
    → Runs p ks js x y a b → GivesArea b t → (IsTrue b.device.told → us ≡ js)
    → Runs p held us x y s t
area_runs {p} {ks} {js} {x} {y} {s} {a} {b} {t} held us n l e h g d =
    let first = session_as ks (session_still held l.sound l.touches n) e in
    let whole = session_trans first h.session in
    let last = session_as us (session_still js g.sound g.touches
    (λ z. whole.holds (sym whole.touches.told ∙ z))) d in
    let c = h.spends in
    let used_l = l.unmoved.same.used in
    let used_g = g.unmoved.same.used in
    let most_l = l.unmoved.same.most in
    let most_g = g.unmoved.same.most in
    let moves_l = l.unmoved.moves in
    let moves_g = g.unmoved.moves in
    record {
      session = session_trans whole last;
      frames = area_frames l h.frames g;
      spends = record {
        held = c.held;
        used = omega (arith, c.used, used_l, used_g);
        most = omega (arith, c.most, used_l, most_l, most_g);
        moves = omega (arith, c.moves, moves_l, moves_g);
        later = omega (arith, c.later, moves_l, moves_g);
        pays = pays_then (pays_kept x.unstored (omega (arith, used_l)) (omega (arith, moves_l)))
            (pays_then c.pays (pays_kept y.unstored (omega (arith, used_g)) (omega (arith, moves_g)))
            (omega (arith, moves_g))) (omega (arith, c.later, moves_g));
      };
    }

-- or the last one gave up.
pub area_stops : {p m f : ℕ} {ks : List ℕ} {x : Account} {s a b t : RigState} {e : EmFault}
    (held : List ℕ) → LendsArea s a → (IsTrue s.device.told → ks ≡ held) → Stops p m f ks x a b e
    → GivesArea b t → Stops p m f held x s t e
area_stops {p} {m} {f} {ks} {x} {s} {a} {b} {t} {e} held l d h g = record {
  goes = record {
    sound = g.sound;
    touches = touches_then held s b t (touches_trans held ks s a b (touches_none held s a l.touches)
        h.goes.touches (λ z k i o. rw (d z) o)) g.touches;
    frames = area_frames l h.goes.frames g;
  };
  halts = halts_between l.unmoved h.halts g.unmoved;
  cause = cause_still s b t e g.unmoved g.touches (cause_after [] s a b e l.touches h.cause);
}

-- A writer beside an area that is lent, or given back.
pub area_writer : {s a : RigState} {w : Writer} → IsWriter s w → Touches [] s a → a.pool.free ≡ s.pool.free
    → WriterStays s a w
area_writer {s} {a} {w} i g e = writer_stays [] s a w g (λ z. apart_none (writer_blocks s w))
    (record {
      len_is = i.frame.len_is ∙ ap (λ (n : ShapeNumbers). n.block) (sym g.shape);
      out = rw (g.shape, e) i.frame.out;
    }) i

-- the blocks of the pairs are the same,
pub area_blocks : {s a : RigState} {w : Writer} → IsPairs s w → LendsArea s a → IsTrue s.device.told
    → writer_blocks a w ≡ writer_blocks s w
area_blocks i l = (area_writer i.writer l.touches l.free).blocks

-- and so are the pairs
pub area_pairs : {s a : RigState} {w : Writer} → IsPairs s w → LendsArea s a → IsPairs a w
area_pairs {s} {a} {w} i l =
    let k = area_writer i.writer l.touches l.free in
    record {
      writer = k.is;
      filled_is = k.filled_is ∙ i.filled_is;
      few = i.few;
      packed = λ y.
          let z : IsTrue s.device.told = sym l.touches.told ∙ y in k.packed z (i.packed z);
    }

pub area_writes : {e : ℕ} {s a b t : RigState} {w v : Writer} {xs : List Record} → IsPairs s w
    → LendsArea s a → WritesPairs e a b w v xs → GivesArea b t → WritesPairs e s t w v xs
area_writes {s = s} {t = t} {w = w} {v = v} {xs = xs} i l h g =
    let k = area_writer i.writer l.touches l.free in
    let m = area_writer h.wrote.is g.touches g.free in
    let wrote = wrote_then [] (xs ++ []) (wrote_stays l.touches.told k)
    (wrote_then xs [] h.wrote (wrote_stays g.touches.told m)) in
    record {
      runs = area_runs (writer_blocks s w) (writer_blocks t v) (λ z. (i.writer.told z).holds) l k.blocks
          h.runs g m.blocks;
      wrote = rw (append-nil xs) at wrote;
      grows = h.grows;
      few = h.few;
    }

-- Pairs couldn't be written.
pub area_refused : {e n : ℕ} {s a b t : RigState} {w : Writer} {fault : EmFault} → IsPairs s w
    → LendsArea s a → StopsPairs e n a b w fault → GivesArea b t → StopsPairs e n s t w fault
area_refused {e} {n} {s} {a} {b} {t} {w} i l h g =
    let k = area_writer i.writer l.touches l.free in
    let pa : payload_in a ≡ payload_in s = payload_kept [] s a l.touches in
    let m : filled a w + n ≡ filled s w + n = let f = k.filled_is in omega (arith, f) in
    record { stops = area_stops (writer_blocks s w) l k.blocks (rw (m, pa) at h.stops) g }
