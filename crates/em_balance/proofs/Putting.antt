-- Three nodes' blocks that are written, or of which one is released.
use Rattle.std.proofs.Common.{◌≡◌, ℕ, ◌+◌, ◌<◌, ◌≤◌, List, [], ◌∷◌, set, sym, ◌∙◌, subst, arith, IsTrue, Result, Ok, Err, IsErrAnd, OnOk}
use Rattle.std.specs.Prelude.{IfErr}
use Rattle.em_record.specs.declared.record.Record.{Record}
use Rattle.em_frames.specs.Device.{block_at}
use Rattle.em_space.specs.Held.{Holds}
use Rattle.em_space.specs.Ledger.{Runs, Stops}
use Rattle.em_space.specs.Rig.{RigState, BlockCause, DeviceCause, Goes, InUse, MovesToRelease, SameBlocks, Sound, Transfers}
use Rattle.em_space.specs.declared.fault.EmFault.{EmFault}
use Rattle.em_space.specs.declared.fault.EmFault.TheVariants.{DeviceFault, Full, Damaged}
use Rattle.em_space.proofs.Ledgers.{full_never}
use Rattle.em_space.proofs.Paying.{pays_kept}
use Rattle.em_space.proofs.Runs.{runs_first, runs_second, runs_then, runs_wider, stops_after, stops_first, stops_second, stops_wider}
use Rattle.em_space.proofs.Sessions.{session_releases}
use Rattle.em_space.proofs.Steps.{block_cause, device_block_cause, release_moves}
use Rattle.em_balance.specs.Effects.{owing}
use Rattle.em_balance.specs.Fusing.{PutsFused, PutsShared, owed_three}
use Rattle.em_balance.proofs.Moves.{write_runs, write_stops}
use Rattle.em_balance.proofs.Stored.{stored_at}

tail_holds : {s : RigState} {k : ℕ} {ks : List ℕ} → Holds s (k ∷ ks) → Holds s ks
tail_holds h = record { in_use = h.in_use.1; distinct = λ d. (h.distinct d).1 }

-- A block was released,
release_runs : {s t : RigState} {k : ℕ} (m : ℕ) → Goes (k ∷ []) s t → t.used + 1 ≡ s.used → t.most ≡ s.most
    → MovesToRelease s t → Runs 1 (k ∷ []) [] (owing 1 (m + 1)) (owing 0 m) s t
release_runs {s} {t} {k} m g used most moves =
    let n = release_moves s t moves in
    let later = g.touches.moves in
    record {
      session = session_releases k g;
      frames = g.frames;
      spends = record {
        held = omega arith;
        used = omega arith;
        most = omega arith;
        moves = omega arith;
        later = later;
        pays = pays_kept 0 (omega arith) later;
      };
    }

-- or couldn't be.
release_stops : {s t : RigState} {k : ℕ} {e : EmFault} (m : ℕ) → Goes (k ∷ []) s t → SameBlocks s t
    → MovesToRelease s t → BlockCause s t e → Stops 1 0 0 (k ∷ []) (owing 1 (m + 1)) s t e
release_stops {s} {t} {k} {e} m g same moves c =
    let n = release_moves s t moves in
    let later = g.touches.moves in
    let u = same.used in
    let w = same.most in
    record {
      goes = g;
      halts = record {
        used = omega arith;
        full = full_never s t e (t.used + 1 < s.used + 1) c;
        most = omega arith;
        moves = omega arith;
        later = later;
        pays = pays_kept 0 (omega arith) later;
      };
      cause = block_cause s t e c;
    }

-- a later call's cause, from before the earlier ones
pub block_after : (s u v : RigState) (e : EmFault) → s.device.faults ≤ u.device.faults → BlockCause u v e
    → BlockCause s v e
block_after s u v DeviceFault l c = omega (arith, l, c)
block_after s u v (Full k) l c = c
block_after s u v (Damaged k) l c = c

module _ {s : RigState} {node first second : ℕ} (holds : IsTrue s.device.told → Holds s (node ∷ first ∷ second ∷ [])) where
  pub put_first : {t : RigState} → Goes (first ∷ []) s t → Transfers s t → InUse t first
      → Runs 3 (node ∷ first ∷ second ∷ []) (node ∷ first ∷ second ∷ []) (owing 3 3) (owing 3 2) s t
  put_first g x i = runs_second (node ∷ []) (owing 1 0) holds
      (runs_first (second ∷ []) (owing 1 0) (λ z. tail_holds (holds z)) (write_runs 2 g x i))

  apart_second : IsTrue s.device.told → first ≡ second → ⊥
  apart_second z e = ((holds z).distinct z).1.0.0 e

  apart_node : IsTrue s.device.told → first ≡ node → ⊥
  apart_node z e = ((holds z).distinct z).0.0 (sym e)

  apart_other : IsTrue s.device.told → second ≡ node → ⊥
  apart_other z e = ((holds z).distinct z).0.1.0 (sym e)

  -- the second node's block after the first one's
  pub put_second : {t u : RigState} → Goes (first ∷ []) s t → Transfers s t → InUse t first
      → Goes (second ∷ []) t u → Transfers t u → InUse u second
      → Runs 3 (node ∷ first ∷ second ∷ []) (node ∷ first ∷ second ∷ []) (owing 3 3) (owing 3 1) s u
  put_second {t} {u} g x i h y j =
      let r = put_first g x i in
      let k = λ (z : IsTrue t.device.told). r.session.holds (sym g.touches.told ∙ z) in
      runs_then r (runs_second (node ∷ first ∷ []) (owing 2 0) k (write_runs 1 h y j))

  pub put_released : {t u : RigState} → Goes (first ∷ []) s t → Transfers s t → InUse t first
      → Goes (second ∷ []) t u → u.used + 1 ≡ t.used → u.most ≡ t.most → MovesToRelease t u
      → Runs 3 (node ∷ first ∷ second ∷ []) (node ∷ first ∷ []) (owing 3 3) (owing 2 1) s u
  put_released {t} {u} g x i h used most moves =
      let r = put_first g x i in
      let k = λ (z : IsTrue t.device.told). r.session.holds (sym g.touches.told ∙ z) in
      runs_then r (runs_second (node ∷ first ∷ []) (owing 2 0) k (release_runs 1 h used most moves))

  -- The second block couldn't be released, or written.
  pub unreleased : {t u : RigState} {e : EmFault} → Goes (first ∷ []) s t → Transfers s t → InUse t first
      → Goes (second ∷ []) t u → SameBlocks t u → MovesToRelease t u → BlockCause t u e
      → Stops 3 0 0 (node ∷ first ∷ second ∷ []) owed_three s u e
  unreleased g x i h same moves c =
      stops_after (put_first g x i) (stops_second (node ∷ first ∷ []) (owing 2 0) (release_stops 1 h same moves c))

  pub unwritten : {t u : RigState} {e : EmFault} → Goes (first ∷ []) s t → Transfers s t → InUse t first
      → Goes (second ∷ []) t u → Transfers t u → DeviceCause t u e
      → Stops 3 0 0 (node ∷ first ∷ second ∷ []) owed_three s u e
  unwritten g x i h y c =
      stops_after (put_first g x i) (stops_second (node ∷ first ∷ []) (owing 2 0) (write_stops 1 h y c))

  -- The first node's block has what was stored there, over a call on the second one and one on the node.
  first_stays : {t u : RigState} (v : RigState) (low : List Record) → Sound s → Goes (first ∷ []) s t → InUse s first
      → InUse t first → t.device.contents ≡ set s.device.contents first low → Goes (second ∷ []) t u
      → Goes (node ∷ []) u v → IsTrue s.device.told → block_at v.device first ≡ low
  first_stays {t} {u} v low so g i j d h k z =
      let zt : IsTrue t.device.told = g.touches.told ∙ z in
      let zu : IsTrue u.device.told = h.touches.told ∙ zt in
      let a = h.touches.others zt first j (apart_second z, tt) in
      let b = k.touches.others zu first a.in_use (apart_node z, tt) in
      b.contents ∙ (a.contents ∙ stored_at t so z i d)

  node_used : {t u : RigState} → InUse s node → Goes (first ∷ []) s t → Goes (second ∷ []) t u
      → IsTrue s.device.told → InUse u node
  node_used {t} {u} i g h z =
      let zt : IsTrue t.device.told = g.touches.told ∙ z in
      let a = g.touches.others z node i ((λ e. apart_node z (sym e)), tt) in
      (h.touches.others zt node a.in_use ((λ e. apart_other z (sym e)), tt)).in_use

  -- The node itself was stored at last, or not.
  pub puts_fused : {t u : RigState} (v : RigState) {T : Type 0} (result : Result T EmFault) (parent low : List Record)
      → Sound s → InUse s node → Goes (first ∷ []) s t → Transfers s t → InUse s first → InUse t first
      → t.device.contents ≡ set s.device.contents first low
      → Goes (second ∷ []) t u → u.used + 1 ≡ t.used → u.most ≡ t.most → MovesToRelease t u
      → Goes (node ∷ []) u v → Transfers u v → InUse v node
      → OnOk result (v.device.contents ≡ set u.device.contents node parent) → IfErr result (DeviceCause u v)
      → PutsFused s v node first second parent low result
  puts_fused {t} {u} v (Err e) parent low so w g x i j d h used most moves k y n o c =
      let r = put_released g x j h used most moves in (
        stops_wider (omega arith) (omega arith) (omega arith)
            (stops_after r (stops_first (first ∷ []) (owing 1 0) (write_stops 0 k y c))),
        block_after s u v e r.session.touches.faults (device_block_cause u v e c),
      )
  puts_fused {t} {u} v (Ok a) parent low so w g x i j d h used most moves k y n o c =
      let r = put_released g x j h used most moves in
      let held = λ (z : IsTrue u.device.told). r.session.holds (sym r.session.touches.told ∙ z) in (
        runs_wider (omega arith) (runs_then r (runs_first (first ∷ []) (owing 1 0) held (write_runs 0 k y n))),
        λ z. (
          stored_at v h.sound (r.session.touches.told ∙ z) (node_used w g h z) o,
          first_stays v low so g i j d h k z,
        ),
      )

  pub puts_shared : {t u : RigState} (v : RigState) {T : Type 0} (result : Result T EmFault)
      (parent low high : List Record)
      → Sound s → InUse s node → Goes (first ∷ []) s t → Transfers s t → InUse s first → InUse t first
      → t.device.contents ≡ set s.device.contents first low
      → InUse s second → Goes (second ∷ []) t u → Transfers t u → InUse u second
      → u.device.contents ≡ set t.device.contents second high
      → Goes (node ∷ []) u v → Transfers u v → InUse v node
      → OnOk result (v.device.contents ≡ set u.device.contents node parent) → IfErr result (DeviceCause u v)
      → PutsShared s v node first second parent low high result
  puts_shared {t} {u} v (Err e) parent low high so w g x i j d q h m l b k y n o c =
      let r = put_second g x j h m l in (
        stops_wider (omega arith) (omega arith) (omega arith)
            (stops_after r (stops_first (first ∷ second ∷ []) (owing 2 0) (write_stops 0 k y c))),
        block_after s u v e r.session.touches.faults (device_block_cause u v e c),
      )
  puts_shared {t} {u} v (Ok a) parent low high so w g x i j d q h m l b k y n o c =
      let r = put_second g x j h m l in
      let held = λ (z : IsTrue u.device.told). r.session.holds (sym r.session.touches.told ∙ z) in (
        runs_wider (omega arith) (runs_then r (runs_first (first ∷ second ∷ []) (owing 2 0) held (write_runs 0 k y n))),
        λ z.
            let zt : IsTrue t.device.told = g.touches.told ∙ z in
            let zu : IsTrue u.device.told = h.touches.told ∙ zt in
            let used = (g.touches.others z second q ((λ e. apart_second z (sym e)), tt)).in_use in (
              stored_at v h.sound zu (node_used w g h z) o,
              first_stays v low so g i j d h k z,
              (k.touches.others zu second l (apart_other z, tt)).contents ∙ stored_at u g.sound zt used b,
            ),
      )

-- what a refusal left
pub fused_stops : {s t : RigState} {T : Type 0} (node first second : ℕ) (parent low : List Record)
    (result : Result T EmFault) (e : EmFault) → IsErrAnd result (λ m. m ≡ e)
    → Stops 3 0 0 (node ∷ first ∷ second ∷ []) owed_three s t e → BlockCause s t e
    → PutsFused s t node first second parent low result
fused_stops node first second parent low (Ok x) e h k c = absurd h
fused_stops {s} {t} node first second parent low (Err m) e h k c =
    let P : EmFault → Type 0 = λ n. Stops 3 0 0 (node ∷ first ∷ second ∷ []) owed_three s t n × BlockCause s t n in
    subst P (sym h) (k, c)

pub shared_stops : {s t : RigState} {T : Type 0} (node first second : ℕ) (parent low high : List Record)
    (result : Result T EmFault) (e : EmFault) → IsErrAnd result (λ m. m ≡ e)
    → Stops 3 0 0 (node ∷ first ∷ second ∷ []) owed_three s t e → BlockCause s t e
    → PutsShared s t node first second parent low high result
shared_stops node first second parent low high (Ok x) e h k c = absurd h
shared_stops {s} {t} node first second parent low high (Err m) e h k c =
    let P : EmFault → Type 0 = λ n. Stops 3 0 0 (node ∷ first ∷ second ∷ []) owed_three s t n × BlockCause s t n in
    subst P (sym h) (k, c)
