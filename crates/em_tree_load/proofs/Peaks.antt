-- How many blocks more are in use at a moment of a load.
use Rattle.std.proofs.Common.{◌≡◌, ℕ, ◌+◌, ◌-◌, ◌≤◌, arith}
use Rattle.em_space.specs.Ledger.{Halts, Spends}
use Rattle.em_space.specs.Rig.{RigState, SameBlocks}
use Rattle.em_space.specs.declared.fault.EmFault.{EmFault}
use Rattle.em_chain.specs.Effects.{Unmoved}
use Rattle.em_chain.specs.Session.{taking_account}
use Rattle.em_chain.specs.declared.reader.Reader.{Reader}
use Rattle.em_tree_load.specs.Peaks.{Peaks}

-- none, where no block was taken or freed,
pub peaks_same : {s t : RigState} (n : ℕ) → SameBlocks s t → Peaks n s t
peaks_same n h =
    let used = h.used in
    let most = h.most in
    record { used = omega (arith, used); most = omega (arith, most) }

-- one call after another,
pub peaks_then : {s t u : RigState} {n k : ℕ} (m : ℕ) → Peaks n s t → Peaks k t u → n + k ≤ m
    → Peaks m s u
peaks_then m a b few =
    let c = a.used in
    let d = a.most in
    let e = b.used in
    let f = b.most in
    record { used = omega (arith, c, e, few); most = omega (arith, c, d, f, few) }

-- and more.
pub peaks_wider : {s t : RigState} {n : ℕ} (m : ℕ) → n ≤ m → Peaks n s t → Peaks m s t
peaks_wider m few a =
    let c = a.used in
    let d = a.most in
    record { used = omega (arith, c, few); most = omega (arith, d, few) }

-- A reader that takes its chain, between two calls that move nothing,
pub taking_peaks : {s a t u : RigState} (r q : Reader) → Unmoved s a
    → Spends r.blocks (taking_account r) (taking_account q) a t → Unmoved t u → Peaks 0 s u
taking_peaks r q m h v =
    let a = m.same.used in
    let b = m.same.most in
    let c = v.same.used in
    let d = v.same.most in
    let e = h.held in
    let f = h.used in
    let g = h.most in
    record { used = omega (arith, a, c, e, f); most = omega (arith, a, b, c, d, e, f, g) }

-- that gave up.
pub taking_halts : {s a t u : RigState} (r : Reader) {e : EmFault} → Unmoved s a
    → Halts r.blocks 0 0 (taking_account r) a t e → Unmoved t u → Peaks 0 s u
taking_halts r m h v =
    let a = m.same.used in
    let b = m.same.most in
    let c = v.same.used in
    let d = v.same.most in
    let f = h.used in
    let g = h.most in
    record { used = omega (arith, a, c, f); most = omega (arith, a, b, c, d, f, g) }
