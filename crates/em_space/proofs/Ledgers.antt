-- One call after another.
use Rattle.std.proofs.Common.{◌≡◌, ℕ, ◌+◌, ◌<◌, ◌≤◌, max, arith, inr, refl}
use Rattle.std.proofs.Math.Nat.{add_comm}
use Rattle.em_space.specs.Ledger.{Account, both, moved, Spends, Halts}
use Rattle.em_space.specs.Rig.{RigState, Owes, IfFull, BlockCause}
use Rattle.em_space.specs.declared.fault.EmFault.{EmFault}
use Rattle.em_space.specs.declared.fault.EmFault.TheVariants.{DeviceFault, Full, Damaged}
use Rattle.em_space.proofs.Paying.{pays_kept, pays_more, pays_of_owes, pays_then}

-- Nothing was done.
pub spends_none : (a : Account) (s : RigState) → Spends a.blocks a a s s
spends_none a s = record {
  held = omega arith;
  used = refl;
  most = omega arith;
  moves = omega arith;
  later = omega arith;
  pays = record { is = inr (omega arith) };
}

pub spends_then : {p q : ℕ} {a b c : Account} {s t u : RigState} → Spends p a b s t
    → Spends q b c t u → Spends (max p q) a c s u
spends_then {p} {q} {a} {b} {c} {s} {t} {u} x y = record {
  held = omega (arith, y.held);
  used = omega (arith, x.used, y.used);
  most = omega (arith, x.used, x.most, y.most);
  moves = omega (arith, x.moves, y.moves);
  later = omega (arith, x.later, y.later);
  pays = pays_then x.pays y.pays y.later;
}

-- what is said of a full device
pub full_by : (e : EmFault) (P Q : Type 0) → (P → Q) → IfFull e (λ _. P) → IfFull e (λ _. Q)
full_by DeviceFault P Q f h = tt
full_by (Full n) P Q f h = f h
full_by (Damaged k) P Q f h = tt

pub halts_after : {p q l f : ℕ} {a b : Account} {s t u : RigState} {e : EmFault} → Spends p a b s t
    → Halts q l f b t u e → Halts (max p q) l f a s u e
halts_after {p} {q} {l} {f} {a} {b} {s} {t} {u} {e} x y = record {
  used = omega (arith, x.used, y.used);
  full = full_by e (u.used + b.blocks < t.used + q) (u.used + a.blocks < s.used + max p q)
      (λ h. omega (arith, x.used, h)) y.full;
  most = omega (arith, x.used, x.most, y.most);
  moves = omega (arith, x.moves, y.moves);
  later = omega (arith, x.later, y.later);
  pays = pays_then x.pays y.pays y.later;
}

-- At no moment more.
pub spends_wider : {p q : ℕ} {a b : Account} {s t : RigState} → p ≤ q → Spends p a b s t
    → Spends q a b s t
spends_wider {p} {q} {a} {b} {s} {t} w h = record {
  held = omega (arith, w, h.held);
  used = h.used;
  most = omega (arith, w, h.most);
  moves = h.moves;
  later = h.later;
  pays = h.pays;
}

pub halts_wider : {p q l m f g : ℕ} {a : Account} {s t : RigState} {e : EmFault} → p ≤ q → l ≤ m
    → f ≤ g → Halts p l f a s t e → Halts q m g a s t e
halts_wider {p} {q} {l} {m} {f} {g} {a} {s} {t} {e} w x y h = record {
  used = omega (arith, w, h.used);
  full = full_by e (t.used + a.blocks < s.used + p) (t.used + a.blocks < s.used + q)
      (λ k. omega (arith, w, k)) h.full;
  most = omega (arith, w, h.most);
  moves = omega (arith, x, h.moves);
  later = h.later;
  pays = pays_more h.pays (omega arith);
}

-- A value beside it that the calls left alone.
pub spends_beside : {p : ℕ} {a b : Account} {s t : RigState} (x : Account) → Spends p a b s t
    → Spends (p + x.blocks) (both a x) (both b x) s t
spends_beside {p} {a} {b} {s} {t} x h = record {
  held = omega (arith, h.held);
  used = omega (arith, h.used);
  most = omega (arith, h.most);
  moves = omega (arith, h.moves);
  later = h.later;
  pays = pays_more h.pays (omega arith);
}

pub halts_beside : {p l f : ℕ} {a : Account} {s t : RigState} {e : EmFault} (x : Account)
    → Halts p l f a s t e → Halts (p + x.blocks) (l + x.paid) (f + x.unstored) (both a x) s t e
halts_beside {p} {l} {f} {a} {s} {t} {e} x h = record {
  used = omega (arith, h.used);
  full = full_by e (t.used + a.blocks < s.used + p)
      (t.used + (a.blocks + x.blocks) < s.used + (p + x.blocks)) (λ k. omega (arith, k)) h.full;
  most = omega (arith, h.most);
  moves = omega (arith, h.moves);
  later = h.later;
  pays = pays_more h.pays (omega arith);
}

both_sym : (a b : Account) → both a b ≡ both b a
both_sym a b = λ i. record {
  blocks = add_comm a.blocks b.blocks i;
  unstored = add_comm a.unstored b.unstored i;
  paid = add_comm a.paid b.paid i;
  owed = add_comm a.owed b.owed i;
}

-- The same, with the other value first.
pub spends_behind : {p : ℕ} {a b : Account} {s t : RigState} (x : Account) → Spends p a b s t
    → Spends (x.blocks + p) (both x a) (both x b) s t
spends_behind {p} {a} {b} x h =
    rw (both_sym x a, both_sym x b, add_comm x.blocks p) (spends_beside x h)

pub halts_behind : {p l f : ℕ} {a : Account} {s t : RigState} {e : EmFault} (x : Account)
    → Halts p l f a s t e → Halts (x.blocks + p) (x.paid + l) (x.unstored + f) (both x a) s t e
halts_behind {p} {l} {f} {a} x h =
    rw (both_sym x a, add_comm x.blocks p, add_comm x.paid l, add_comm x.unstored f)
    (halts_beside x h)

-- From what calls say today: the numbers of blocks, the moves, and what is owed.
pub spends_by : {s t : RigState} (p n : ℕ) (a b : Account) → t.used + a.blocks ≡ s.used + b.blocks
    → t.most ≤ max s.most (max s.used t.used) → a.blocks ≤ p → b.blocks ≤ p
    → t.moves + a.paid + b.owed ≤ s.moves + a.owed + b.paid → s.moves ≤ t.moves
    → Owes n s t → a.unstored + n ≤ b.unstored → Spends p a b s t
spends_by {s} {t} p n a b used most pa pb moves later owes least = record {
  held = pb;
  used = used;
  most = omega (arith, used, most, pa, pb);
  moves = moves;
  later = later;
  pays = pays_of_owes n a.unstored b.unstored owes least;
}

-- Nothing was moved, taken or freed.
pub spends_still : {s t : RigState} (a : Account) → t.used ≡ s.used → t.most ≡ s.most
    → t.moves ≡ s.moves → Spends a.blocks a a s t
spends_still {s} {t} a used most moves = record {
  held = omega arith;
  used = omega (arith, used);
  most = omega (arith, most);
  moves = omega (arith, moves);
  later = omega (arith, moves);
  pays = pays_kept a.unstored (omega (arith, used)) (omega (arith, moves));
}

-- a call that needs no new block is never refused as full
pub full_never : (a b : RigState) (e : EmFault) (P : Type 0) → BlockCause a b e → IfFull e (λ _. P)
full_never a b DeviceFault P c = tt
full_never a b (Full n) P c = absurd c
full_never a b (Damaged k) P c = tt

-- More was paid before, and still is.
pub spends_moved : {p : ℕ} {a b : Account} {s t : RigState} (n : ℕ) → Spends p a b s t
    → Spends p (moved n a) (moved n b) s t
spends_moved {p} {a} {b} {s} {t} n h = record {
  held = h.held;
  used = h.used;
  most = h.most;
  moves = omega (arith, h.moves);
  later = h.later;
  pays = h.pays;
}
