-- Single moves of stored blocks, as calls with a ledger.
use Rattle.std.proofs.Common.{ℕ, ◌+◌, ◌<◌, ◌≤◌, List, [], ◌∷◌, sym, subst, arith, IsTrue, ⊎_elim}
use Rattle.std.proofs.lemmas.Bool.{cases_lt}
use Rattle.em_space.specs.Held.{Holds}
use Rattle.em_space.specs.Ledger.{Runs, Stops}
use Rattle.em_space.specs.Rig.{RigState, Goes, InUse, BlockCause, DeviceCause, MovesToAlloc, Transfers, IfDamaged}
use Rattle.em_space.specs.declared.fault.EmFault.{EmFault}
use Rattle.em_space.specs.declared.fault.EmFault.TheVariants.{DeviceFault, Full, Damaged}
use Rattle.em_space.proofs.Ledgers.{full_never}
use Rattle.em_space.proofs.Paying.{pays_kept, pays_more}
use Rattle.em_space.proofs.Sessions.{session_still}
use Rattle.em_space.proofs.Steps.{block_cause, device_block_cause, touches_wider}
use Rattle.em_space.proofs.Within.{within_same}
use Rattle.em_balance.specs.Effects.{owing}
use Rattle.em_balance.specs.Loaded.{ReadsBlock}

-- what is said of a damaged block
pub damaged_by : (e : EmFault) (P Q : ℕ → Type 0) → ((k : ℕ) → P k → Q k) → IfDamaged e P
    → IfDamaged e Q
damaged_by DeviceFault P Q f h = tt
damaged_by (Full n) P Q f h = tt
damaged_by (Damaged k) P Q f h = f k h

-- a device's fault damages none
pub none_damaged : {s t : RigState} (e : EmFault) (P : ℕ → Type 0) → DeviceCause s t e
    → IfDamaged e P
none_damaged e P x = subst (λ (f : EmFault). IfDamaged f P) (sym x.is) tt

-- A block was read, beside n stored blocks,
pub read_runs : {s t : RigState} (ks : List ℕ) (n m : ℕ) → ReadsBlock s t
    → (IsTrue s.device.told → Holds s ks) → Runs n ks ks (owing n (m + 1)) (owing n m) s t
read_runs {s} {t} ks n m r h =
    let used = r.same.used in
    let most = r.same.most in
    let moves = r.moves in
    let later = r.goes.touches.moves in
    record {
      session = session_still ks r.goes.sound r.goes.touches h;
      frames = r.goes.frames;
      spends = record {
        held = omega arith;
        used = omega arith;
        most = omega arith;
        moves = omega arith;
        later = later;
        pays = pays_kept 0 (omega arith) later;
      };
    }

-- or couldn't be.
pub read_stops : {s t : RigState} {e : EmFault} (ks : List ℕ) (n m : ℕ) → ReadsBlock s t
    → BlockCause s t e → Stops (n + 1) 0 1 ks (owing n (m + 1)) s t e
read_stops {s} {t} {e} ks n m r c =
    let used = r.same.used in
    let most = r.same.most in
    let moves = r.moves in
    let later = r.goes.touches.moves in
    record {
      goes = record {
        sound = r.goes.sound;
        touches = touches_wider ks [] s t r.goes.touches (λ z k u o. tt);
        frames = r.goes.frames;
      };
      halts = record {
        used = omega arith;
        full = full_never s t e (t.used + n < s.used + (n + 1)) c;
        most = omega arith;
        moves = omega arith;
        later = later;
        pays = pays_more (pays_kept 0 (omega arith) later) (omega arith);
      };
      cause = block_cause s t e c;
    }

-- A block was written,
pub write_runs : {s t : RigState} {k : ℕ} (m : ℕ) → Goes (k ∷ []) s t → Transfers s t → InUse t k
    → Runs 1 (k ∷ []) (k ∷ []) (owing 1 (m + 1)) (owing 1 m) s t
write_runs {s} {t} {k} m g x u =
    let used = x.used in
    let most = x.blocks.most in
    let moves = x.moves in
    let later = g.touches.moves in
    record {
      session = record {
        sound = g.sound;
        touches = g.touches;
        within = within_same s (k ∷ []);
        holds = λ z. record { in_use = (u, tt); distinct = λ y. (tt, tt) };
      };
      frames = g.frames;
      spends = record {
        held = omega arith;
        used = omega arith;
        most = omega arith;
        moves = omega arith;
        later = later;
        pays = pays_kept 0 (omega arith) later;
      };
    }

-- or couldn't be.
pub write_stops : {s t : RigState} {k : ℕ} {e : EmFault} (m : ℕ) → Goes (k ∷ []) s t
    → Transfers s t → DeviceCause s t e → Stops 1 0 0 (k ∷ []) (owing 1 (m + 1)) s t e
write_stops {s} {t} {k} {e} m g x c =
    let used = x.used in
    let most = x.blocks.most in
    let moves = x.moves in
    let later = g.touches.moves in
    record {
      goes = g;
      halts = record {
        used = omega arith;
        full = full_never s t e (t.used + 1 < s.used + 1) (device_block_cause s t e c);
        most = omega arith;
        moves = omega arith;
        later = later;
        pays = pays_kept 0 (omega arith) later;
      };
      cause = block_cause s t e (device_block_cause s t e c);
    }

-- a new block makes one move at most
pub alloc_moves : (s t : RigState) → MovesToAlloc s t → t.moves ≤ s.moves + 1
alloc_moves s t m = ⊎_elim
    (λ (u : s.head < 1). let e = m.none_freed (omega arith) in omega arith)
    (λ (u : 1 ≤ s.head). let e = m.some_freed (omega arith) in omega arith)
    (cases_lt s.head 1)
