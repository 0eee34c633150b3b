-- How high a list may be raised.
use Rattle.std.proofs.Common.{◌≡◌, ℕ, ◌+◌, ◌*◌, ◌^◌, ◌<◌, ◌≤◌, sym, ap, ◌∙◌, arith, ⊎_elim}
use Rattle.std.proofs.Math.Nat.{mul-le-mul_right, mul_assoc, mul_comm, pow-le-pow_right}
use Rattle.std.proofs.lemmas.Bool.{cases_lt}
use Rattle.std.proofs.lemmas.Grind.{pow_more}
use Rattle.em_tree_raise.specs.Levels.{CanLevel}

-- A level is 20 at most.
pub level_few : {level count : ℕ} → CanLevel level count → level ≤ 20
level_few {level} {count} h = ⊎_elim (λ (l : level < 21). omega (arith, l))
    (λ (l : 21 ≤ level).
    let p : 9223372036854775808 ≤ 8 ^ level = pow-le-pow_right {n = 8} (omega arith) l in
    let q : 1 * 8 ^ level ≤ (count + 1) * 8 ^ level = mul-le-mul_right (8 ^ level) (omega arith) in
    let few = h.few in
    absurd (omega (arith, p, q, few))) (cases_lt level 21)

-- Any list may be raised to the first level,
pub level_first : (count : ℕ) → count ≤ 2 ^ 56 → CanLevel 1 count
level_first count h = record { some = omega arith; few = omega (arith, h) }

-- and the nodes over a long one to the next.
pub level_next : {level count : ℕ} (n : ℕ) → CanLevel level count → (n + 1) * 8 ≤ count + 1
    → CanLevel (level + 1) n
level_next {level} {count} n h l =
    let x = 8 ^ level in
    let m : (n + 1) * 8 * x ≤ (count + 1) * x = mul-le-mul_right x l in
    let e : (n + 1) * 8 ^ (level + 1) ≡ (n + 1) * 8 * x =
    ap (λ (y : ℕ). (n + 1) * y) (pow_more 8 level ∙ mul_comm x 8) ∙ sym (mul_assoc (n + 1) 8 x) in
    let few = h.few in
    record { some = omega arith; few = omega (arith, m, e, few) }
