-- Calls between which a frame was lent and given back: what they did without that.
use Rattle.std.proofs.Common.{◌≡◌, ℕ, ◌+◌, ◌-◌, ◌<◌, ◌≤◌, ◌^◌, [], sym, ap, ◌∙◌, arith, inl, inr, ⊎_elim}
use Rattle.em_space.specs.Ledger.{Account, Halts, Spends}
use Rattle.em_space.specs.Rig.{RigState, Cause, SameBlocks, Touches}
use Rattle.em_space.specs.declared.fault.EmFault.{EmFault}
use Rattle.em_space.specs.declared.fault.EmFault.TheVariants.{DeviceFault, Full, Damaged}
use Rattle.em_space.proofs.Ledgers.{full_by, halts_after, halts_wider, spends_still, spends_then, spends_wider}
use Rattle.em_frames.specs.Device.{DeviceState}
use Rattle.em_chain.specs.Effects.{Unmoved}
use Rattle.em_chain.proofs.WritersMembers.{SameAccount, spends_from, spends_to}

-- The account of calls with nothing moved before and after them.
pub spends_around : {p : ℕ} {a b c d : Account} {s s2 t t2 : RigState} → Unmoved s s2 → Unmoved t t2
    → SameAccount a c → SameAccount d b → a.blocks ≤ p → Spends p c d s2 t → Spends p a b s t2
spends_around {p} {a} {b} {c} {d} {s} {s2} {t} {t2} x y e f most h =
    let first : Spends a.blocks a a s s2 = spends_still a x.same.used x.same.most x.moves in
    let last : Spends b.blocks b b t t2 = spends_still b y.same.used y.same.most y.moves in
    let held = h.held in
    let same = f.blocks in
    spends_wider (omega arith)
    (spends_then first (spends_then (spends_from e (spends_to f h)) last))

halts_same : {p l f : ℕ} {a b : Account} {s t : RigState} {e : EmFault} → SameAccount a b
    → Halts p l f b s t e → Halts p l f a s t e
halts_same {p} {l} {f} {a} {b} {s} {t} {e} x h = record {
  used = omega (arith, h.used, x.blocks);
  full = full_by e (t.used + b.blocks < s.used + p) (t.used + a.blocks < s.used + p)
      (λ k. omega (arith, k, x.blocks)) h.full;
  most = omega (arith, h.most, x.blocks);
  moves = omega (arith, h.moves, x.paid, x.owed);
  later = h.later;
  pays = rw (x.unstored) h.pays;
}

halts_then : {p l f : ℕ} {a : Account} {s t t2 : RigState} {e : EmFault} → SameBlocks t t2
    → t2.moves ≡ t.moves → Halts p l f a s t e → Halts p l f a s t2 e
halts_then {p} {l} {f} {a} {s} {t} {t2} {e} x m h = record {
  used = omega (arith, h.used, x.used);
  full = full_by e (t.used + a.blocks < s.used + p) (t2.used + a.blocks < s.used + p)
      (λ k. omega (arith, k, x.used)) h.full;
  most = omega (arith, h.most, x.most);
  moves = omega (arith, h.moves, m);
  later = omega (arith, h.later, m);
  pays = record {
    is = ⊎_elim (λ (u : 2 ^ 64 - 1 ≤ t.moves). inl (omega (arith, u, m)))
        (λ (u : t.used + s.moves + a.unstored ≤ s.used + t.moves + f).
        inr (omega (arith, u, m, x.used))) h.pays.is;
  };
}

-- The same of calls of which the last one gave up,
pub halts_around : {p l f : ℕ} {a c : Account} {s s2 t t2 : RigState} {e : EmFault} → Unmoved s s2
    → Unmoved t t2 → SameAccount a c → a.blocks ≤ p → Halts p l f c s2 t e → Halts p l f a s t2 e
halts_around {p} {l} {f} {a} {c} {s} {s2} {t} {t2} {e} x y same most h =
    let first : Spends a.blocks a a s s2 = spends_still a x.same.used x.same.most x.moves in
    let k = halts_after first (halts_same same h) in
    halts_then y.same y.moves (halts_wider (omega arith) (omega arith) (omega arith) k)

-- and the cause.
pub cause_around : {s s2 t t2 : RigState} (e : EmFault) → Unmoved s s2 → Touches [] t t2
    → Unmoved t t2 → Cause s2 t e → Cause s t2 e
cause_around {s} {s2} {t} {t2} DeviceFault x g y c =
    let a = ap (λ (d : DeviceState). d.faults) x.device in
    let b = ap (λ (d : DeviceState). d.faults) y.device in
    rw (b, sym a) c
cause_around (Full used) x g y c = (c.0 ∙ sym g.blocks, y.same.used ∙ (c.1 ∙ sym g.blocks))
cause_around {s} {s2} {t} {t2} (Damaged block) x g y c =
    (ap (λ (d : DeviceState). d.told) y.device ∙ c.0, rw g.blocks c.1)
