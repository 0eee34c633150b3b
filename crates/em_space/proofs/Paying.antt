-- Blocks that aren't stored yet, over calls: what they pay, one after another.
use Rattle.std.proofs.Common.{ℕ, zero, suc, ◌≡◌, ◌+◌, ◌-◌, ◌^◌, ◌<◌, ◌≤◌, min, refl, arith, inl, inr, ⊎_elim}
use Rattle.em_space.specs.Queue.{Pays}
use Rattle.em_space.specs.Rig.{RigState, Owes}

-- this many blocks that aren't stored came with what was owed
pub pays_of_owes : {a b : RigState} (n before after : ℕ) → Owes n a b → before + n ≤ after
    → Pays before after a b
pays_of_owes {a} {b} n before after x most = record {
  is = ⊎_elim (λ (u : 2 ^ 64 - 1 ≤ b.moves). inl u)
      (λ (u : b.used + a.moves ≤ a.used + b.moves + n). inr (omega arith)) x.is;
}

-- what is owed where the blocks that weren't stored are left out
pub owes_of_pays : {a b : RigState} (m n p : ℕ) → Pays m n a b → n ≤ m + p → Owes p a b
owes_of_pays {a} {b} m n p x most = record {
  is = ⊎_elim (λ (u : 2 ^ 64 - 1 ≤ b.moves). inl u)
      (λ (u : b.used + a.moves + m ≤ a.used + b.moves + n). inr (omega arith)) x.is;
}

-- no block came into use
pub pays_kept : {a b : RigState} (n : ℕ) → b.used ≤ a.used → a.moves ≤ b.moves → Pays n n a b
pays_kept n used moves = record { is = inr (omega arith) }

-- fewer blocks weren't stored before, or more aren't stored after it
pub pays_more : {m n p q : ℕ} {a b : RigState} → Pays m n a b → p + n ≤ m + q → Pays p q a b
pays_more {m} {n} {p} {q} {a} {b} x most = record {
  is = ⊎_elim (λ (u : 2 ^ 64 - 1 ≤ b.moves). inl u)
      (λ (u : b.used + a.moves + m ≤ a.used + b.moves + n). inr (omega arith)) x.is;
}

-- one call after another
pub pays_then : {m n p : ℕ} {a b c : RigState} → Pays m n a b → Pays n p b c → b.moves ≤ c.moves
    → Pays m p a c
pays_then {m} {n} {p} {a} {b} {c} x y later = record {
  is = ⊎_elim (λ (u : 2 ^ 64 - 1 ≤ b.moves). inl (omega arith))
      (λ (u : b.used + a.moves + m ≤ a.used + b.moves + n).
      ⊎_elim (λ (v : 2 ^ 64 - 1 ≤ c.moves). inl v)
      (λ (v : c.used + b.moves + n ≤ b.used + c.moves + p). inr (omega arith)) y.is)
      x.is;
}

-- Blocks were taken, of which one at most isn't stored.
pub pays_of_writing : {a b : RigState} (blocks : ℕ) → Owes 1 a b → (blocks ≡ 0 → Owes 0 a b)
    → Pays 0 (min blocks 1) a b
pays_of_writing zero some none = pays_of_owes 0 0 (min 0 1) (none refl) (omega arith)
pays_of_writing (suc n) some none = pays_of_owes 1 0 (min (suc n) 1) some (omega arith)

-- The first block of a list is paid later, and each other one at once.
pub pays_first : {a b : RigState} (m n : ℕ) → (m ≡ 0 → Owes 1 a b) → (0 < m → Owes 0 a b) → 0 < n
    → Pays (min m 1) (min n 1) a b
pays_first zero n first later some =
    pays_of_owes 1 (min 0 1) (min n 1) (first refl) (omega arith)
pays_first (suc m) n first later some =
    pays_of_owes 0 (min (suc m) 1) (min n 1) (later (omega arith)) (omega arith)
