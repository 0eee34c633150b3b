-- What fusing did, beside the frames that were lent to it.
use Rattle.std.proofs.Common.{◌≡◌, ℕ, ◌<◌, sym, ◌∙◌, subst, inl, inr, refl, Result, Ok, Err}
use Rattle.em_frames.specs.Pool.{given, lent}
use Rattle.em_space.specs.Rig.{RigState, BlockCause, Sound}
use Rattle.em_space.specs.declared.fault.EmFault.{EmFault}
use Rattle.em_space.specs.declared.fault.EmFault.TheVariants.{DeviceFault, Full, Damaged}
use Rattle.em_space.proofs.Framed.{in_use_lent, runs_framed, stops_framed}
use Rattle.em_space.proofs.Steps.{both_told}
use Rattle.em_chain.specs.Effects.{Completes}
use Rattle.em_balance.specs.Fusing.{CanFusePair, FusesOrShares, FusesPair, SharesPair}
use Rattle.em_balance.proofs.Framed.{node_given, node_lent}

pub pair_lent : {s a : RigState} {node at : ℕ} → a ≡ record s { pool = lent s.pool } → CanFusePair s node at
    → CanFusePair a node at
pair_lent {s} {a} {node} {at} e i =
    subst (λ (w : RigState). CanFusePair w node at) (sym e) (record {
      in_use = in_use_lent i.in_use;
      told = λ z. let o = i.told z in record {
        level = o.level;
        node_is = node_lent o.node_is;
        two = o.two;
        low_is = node_lent o.low_is;
        high_is = node_lent o.high_is;
        together = o.together;
        low_other = o.low_other;
        high_other = o.high_other;
        apart = o.apart;
      };
    })

cause_framed : (s t : RigState) (e : EmFault) → BlockCause (record s { pool = lent s.pool }) t e
    → BlockCause s (record t { pool = given t.pool }) e
cause_framed s t DeviceFault x = x
cause_framed s t (Full k) x = x
cause_framed s t (Damaged k) x = x

fused_framed : {s t : RigState} {node at : ℕ} → FusesPair (record s { pool = lent s.pool }) t node at
    → FusesPair s (record t { pool = given t.pool }) node at
fused_framed h = record {
  few = h.few;
  node_is = node_given h.node_is;
  entries = h.entries;
  low_is = node_given h.low_is;
  all = h.all;
}

shared_framed : {s t : RigState} {node at : ℕ} → SharesPair (record s { pool = lent s.pool }) t node at
    → SharesPair s (record t { pool = given t.pool }) node at
shared_framed h = record {
  many = h.many;
  most = h.most;
  node_is = node_given h.node_is;
  entries = h.entries;
  low_is = node_given h.low_is;
  lower = h.lower;
  high_is = node_given h.high_is;
  upper = h.upper;
}

pair_by : {T : Type 0} (s t : RigState) (node at : ℕ) (result : Result T EmFault) → Sound s → 0 < s.pool.free
    → FusesOrShares (record s { pool = lent s.pool }) t node at result
    → FusesOrShares s (record t { pool = given t.pool }) node at result
pair_by s t node at (Ok a) sound free (inl x) = inl (record {
  fuses = λ z. fused_framed (x.fuses z);
  runs = runs_framed sound free x.runs;
})
pair_by s t node at (Ok a) sound free (inr x) = inr (record {
  shares = λ z. shared_framed (x.shares z);
  runs = runs_framed sound free x.runs;
})
pair_by s t node at (Err e) sound free x = record {
  stops = stops_framed sound free x.stops;
  cause = cause_framed s t e x.cause;
}

pub pair_framed : {T : Type 0} {s a u : RigState} (t : RigState) (node at : ℕ) (result : Result T EmFault)
    → Sound s → 0 < s.pool.free → a ≡ record s { pool = lent s.pool } → FusesOrShares a t node at result
    → u ≡ record t { pool = given t.pool } → FusesOrShares s u node at result
pair_framed {T} {s} {a} {u} t node at result sound free e x f =
    subst (λ (w : RigState). FusesOrShares s w node at result) (sym f)
    (pair_by s t node at result sound free (subst (λ (w : RigState). FusesOrShares w t node at result) e x))

-- It is Ok over a device that tells and counts no fault.
pub pair_completes : {T : Type 0} (s t : RigState) (node at : ℕ) (result : Result T EmFault)
    → FusesOrShares s t node at result → Completes s t result
pair_completes s t node at (Ok a) x = λ z r. refl
pair_completes s t node at (Err DeviceFault) x = λ z r. absurd (r x.cause)
pair_completes s t node at (Err (Full k)) x = λ z r. absurd x.cause
pair_completes s t node at (Err (Damaged k)) x = λ z r.
    absurd (both_told t.device.told (x.stops.goes.touches.told ∙ z) x.cause.0)
