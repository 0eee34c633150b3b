-- The credit of a loop over full buffers, in numbers: L moves for a descent, K nodes that are still to be
-- searched beside the first one, x leaves that came.
use Rattle.std.proofs.Common.{◌≡◌, ℕ, suc, ◌+◌, ◌-◌, ◌*◌, ◌≤◌, sym, ap, subst, arith}
use Rattle.std.proofs.Math.Nat.{mul-add, mul-le-mul_left}

-- a product by one more
more_right : (a b : ℕ) → a * (1 + b) ≡ a + a * b
more_right a b = grind arith

more_left : (a b c : ℕ) → (a + 1) * b * c ≡ a * b * c + b * c
more_left a b c = grind arith

-- A search found nothing more.
pub credit_done : (p L K pay x : ℕ) → x ≡ 0
    → (p + L ≤ p + L * (1 + K)) × (p + L * 0 + (pay * x + L * 0) + (p + L) ≤ p + (p + L * (1 + K)))
credit_done p L K pay x e =
    let a = more_right L K in
    let z : pay * x ≡ pay * 0 = ap (λ (n : ℕ). pay * n) e in
    (omega (arith, a), omega (arith, a, z))

-- A search goes on at another node.
pub credit_next : (p L K J pay x : ℕ) → x ≡ 0 → J + 1 ≤ K
    → (p + L ≤ p + L * (1 + K)) × (p + L * (1 + J) + (pay * x + L * 0) + (p + L) ≤ p + (p + L * (1 + K)))
credit_next p L K J pay x e h =
    let a = more_right L K in
    let b = more_right L (1 + J) in
    let m : L * (1 + (1 + J)) ≤ L * (1 + K) = mul-le-mul_left L (omega (arith, h)) in
    let z : pay * x ≡ pay * 0 = ap (λ (n : ℕ). pay * n) e in
    (omega (arith, a), omega (arith, a, b, m, z))

-- one search, of those that were paid for
pub credit_found : (p L K : ℕ) → p + L * K + L ≡ p + L * (1 + K)
credit_found p L K = let a = more_right L K in omega (arith, a)

-- The searches that are left after x leaves came.
more_nodes : (L K J x : ℕ) → J ≤ K + x → L * (1 + J) ≤ L + L * K + L * x
more_nodes L K J x h =
    let m : L * (1 + J) ≤ L * (1 + (K + x)) = mul-le-mul_left L (omega (arith, h)) in
    let a = more_right L (K + x) in
    let b = mul-add L K x in
    omega (arith, m, a, b)

-- A full entry over a node was emptied, and the full buffers below.
lowered_same : (p L K J m A x f : ℕ) → J ≤ K + x → L ≡ A + suc (suc m)
    → (p + L * K + 18 + 2 * L + L * (1 + 0) ≤ p + L * K + 18 + 3 * L)
    × (p + L * (1 + J) + (A * L * x + L * 1) + (p + L * K + 18 + 2 * L + L * (1 + 0))
    ≤ p + L * K + 18 + 2 * L + L * 0 + ((A + 1) * L * x + L * f) + (p + L * K + 18 + 3 * L))
lowered_same p L K J m A x f h e =
    let a = more_nodes L K J x h in
    let b = more_left A L x in
    (omega arith, omega (arith, a, b))

pub credit_lowered : (p L M K N J m x f : ℕ) → M ≡ L → N ≡ 0 → J ≤ K + x → suc (suc m) ≤ L
    → (p + L * K + 18 + 2 * L + M * (1 + N) ≤ p + L * K + 18 + 3 * L)
    × (p + L * (1 + J) + ((L - suc (suc m)) * L * x + L * 1) + (p + L * K + 18 + 2 * L + M * (1 + N))
    ≤ p + L * K + 18 + 2 * L + M * 0 + ((M - suc m) * M * x + M * f) + (p + L * K + 18 + 3 * L))
credit_lowered p L M K N J m x f same none h deep =
    let A = L - suc (suc m) in
    let e : L ≡ A + suc (suc m) = omega (arith, deep) in
    let one : A + 1 ≡ L - suc m = omega (arith, deep) in
    let g = lowered_same p L K J m A x f h e in
    let P : ℕ → Type 0 = λ z. (p + L * K + 18 + 2 * L + L * (1 + 0) ≤ p + L * K + 18 + 3 * L)
    × (p + L * (1 + J) + (A * L * x + L * 1) + (p + L * K + 18 + 2 * L + L * (1 + 0))
    ≤ p + L * K + 18 + 2 * L + L * 0 + (z * L * x + L * f) + (p + L * K + 18 + 3 * L)) in
    let Q : ℕ → Type 0 = λ z. (p + L * K + 18 + 2 * L + L * (1 + z) ≤ p + L * K + 18 + 3 * L)
    × (p + L * (1 + J) + (A * L * x + L * 1) + (p + L * K + 18 + 2 * L + L * (1 + z))
    ≤ p + L * K + 18 + 2 * L + L * 0 + ((L - suc m) * L * x + L * f) + (p + L * K + 18 + 3 * L)) in
    let R : ℕ → Type 0 = λ z. (p + L * K + 18 + 2 * L + z * (1 + N) ≤ p + L * K + 18 + 3 * L)
    × (p + L * (1 + J) + (A * L * x + L * 1) + (p + L * K + 18 + 2 * L + z * (1 + N))
    ≤ p + L * K + 18 + 2 * L + z * 0 + ((z - suc m) * z * x + z * f) + (p + L * K + 18 + 3 * L)) in
    subst R (sym same) (subst Q (sym none) (subst P one g))

-- A full entry over a leaf was loaded.
loaded_same : (p L K J A x : ℕ) → J ≤ K + x → L ≡ A + 1
    → (p + L * K ≤ p + L * K)
    × (p + L * (1 + J) + (A * L * x + L * 1) + (p + L * K)
    ≤ p + L * K + 2 * L + (A + 1) * L * x + (p + L * K))
loaded_same p L K J A x h e =
    let a = more_nodes L K J x h in
    let b = more_left A L x in
    (omega arith, omega (arith, a, b))

pub credit_loaded : (p L K J x : ℕ) → J ≤ K + x → 1 ≤ L
    → (p + L * K ≤ p + L * K)
    × (p + L * (1 + J) + ((L - 1) * L * x + L * 1) + (p + L * K)
    ≤ p + L * K + 2 * L + L * L * x + (p + L * K))
credit_loaded p L K J x h some =
    let A = L - 1 in
    let e : L ≡ A + 1 = omega (arith, some) in
    let P : ℕ → Type 0 = λ z. (p + L * K ≤ p + L * K)
    × (p + L * (1 + J) + (A * L * x + L * 1) + (p + L * K)
    ≤ p + L * K + 2 * L + z * L * x + (p + L * K)) in
    subst P (sym e) (loaded_same p L K J A x h e)
