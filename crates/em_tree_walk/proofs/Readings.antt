-- Blocks that are read while nothing else changes: one after another, and with a frame lent.
use Rattle.std.proofs.Common.{◌≡◌, ℕ, ◌+◌, ◌<◌, ◌≤◌, List, [], refl, sym, ◌∙◌, subst, arith, IsTrue}
use Rattle.em_record.specs.declared.record.Record.{Record}
use Rattle.em_frames.specs.Device.{block_at}
use Rattle.em_frames.specs.Pool.{given, lent}
use Rattle.em_space.specs.Rig.{RigState, Sound, BlockCause, Goes, InUse, Transfers}
use Rattle.em_space.specs.declared.fault.EmFault.{EmFault}
use Rattle.em_space.specs.declared.fault.EmFault.TheVariants.{DeviceFault, Full, Damaged}
use Rattle.em_space.proofs.Held.{in_use_below}
use Rattle.em_space.proofs.Steps.{goes_both, goes_nothing, goes_with_frame, untold_by}
use Rattle.em_tree_walk.specs.Reads.{ReadsFailing, ReadsOnly, StopsReading}

-- what `load` says
pub reads_by : {s t : RigState} → Goes [] s t → Transfers s t
    → t.device.contents ≡ s.device.contents → ReadsOnly 1 s t
reads_by {s} {t} g x k = let moves = x.moves in record {
  goes = g;
  same = x.blocks;
  kept = k;
  moves = omega arith;
}

pub reads_nothing : {s : RigState} → Sound s → ReadsOnly 0 s s
reads_nothing {s} h = record {
  goes = goes_nothing s h;
  same = record { head = refl; used = refl; most = refl };
  kept = refl;
  moves = omega arith;
}

pub reads_more : {s t : RigState} (n m : ℕ) → n ≤ m → ReadsOnly n s t → ReadsOnly m s t
reads_more {s} {t} n m l r = let moves = r.moves in record {
  goes = r.goes;
  same = r.same;
  kept = r.kept;
  moves = omega arith;
}

-- One reading after another,
pub reads_then : {s t u : RigState} (n m : ℕ) → ReadsOnly n s t → ReadsOnly m t u
    → ReadsOnly (n + m) s u
reads_then {s} {t} {u} n m x y = let a = x.moves in let b = y.moves in record {
  goes = goes_both [] s t u x.goes y.goes;
  same = record {
    head = y.same.head ∙ x.same.head;
    used = y.same.used ∙ x.same.used;
    most = y.same.most ∙ x.same.most;
  };
  kept = y.kept ∙ x.kept;
  moves = omega arith;
}

pub cause_then : (s t u : RigState) (e : EmFault) → s.device.faults ≤ t.device.faults
    → BlockCause t u e → BlockCause s u e
cause_then s t u DeviceFault l c = omega (arith, l, c)
cause_then s t u (Full used) l c = c
cause_then s t u (Damaged block) l c = c

-- and one that gave up.
pub reads_stop : {s t u : RigState} {e : EmFault} (n m : ℕ) → ReadsOnly n s t
    → StopsReading m t u e → StopsReading (n + m) s u e
reads_stop {s} {t} {u} {e} n m x y = record {
  reads = reads_then n m x y.reads;
  cause = cause_then s t u e x.goes.touches.faults y.cause;
}

pub stops_more : {s t : RigState} {e : EmFault} (n m : ℕ) → n ≤ m → StopsReading n s t e
    → StopsReading m s t e
stops_more n m l x = record { reads = reads_more n m l x.reads; cause = x.cause }

-- A reading with a frame that was lent and given back.
pub reads_framed : {n : ℕ} {s t : RigState} → Sound s → 0 < s.pool.free
    → ReadsOnly n (record s { pool = lent s.pool }) t
    → ReadsOnly n s (record t { pool = given t.pool })
reads_framed {n} {s} {t} sound free r = record {
  goes = goes_with_frame [] s t sound free r.goes;
  same = record { head = r.same.head; used = r.same.used; most = r.same.most };
  kept = r.kept;
  moves = r.moves;
}

pub cause_framed : (s t : RigState) (e : EmFault) → BlockCause (record s { pool = lent s.pool }) t e
    → BlockCause s (record t { pool = given t.pool }) e
cause_framed s t DeviceFault c = c
cause_framed s t (Full used) c = c
cause_framed s t (Damaged block) c = c

pub stops_framed : {n : ℕ} {s t : RigState} {e : EmFault} → Sound s → 0 < s.pool.free
    → StopsReading n (record s { pool = lent s.pool }) t e
    → StopsReading n s (record t { pool = given t.pool }) e
stops_framed {n} {s} {t} {e} sound free x = record {
  reads = reads_framed sound free x.reads;
  cause = cause_framed s t e x.cause;
}

-- A block that doesn't pass a test is of a device that doesn't tell.
pub fails_reading : {s t : RigState} {k : ℕ} {b : List Record} (Test : List Record → Type 0)
    → Sound s → InUse s k → ReadsOnly 1 s t → (IsTrue s.device.told → b ≡ block_at s.device k)
    → (IsTrue s.device.told → Test (block_at s.device k)) → (Test b → ⊥)
    → ReadsFailing s t k (Damaged k)
fails_reading {s} {t} {k} {b} Test h u r loaded told fails =
    let below = in_use_below s k h u in
    let blocks = r.goes.touches.blocks in
    record {
      stops = record {
        reads = r;
        cause = (
          untold_by t.device.told (λ y.
              let z : IsTrue s.device.told = sym r.goes.touches.told ∙ y in
              fails (subst Test (sym (loaded z)) (told z))),
          omega arith,
        );
      };
      damaged = refl;
    }
