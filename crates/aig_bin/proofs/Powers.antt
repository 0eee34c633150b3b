-- Powers of 128, up to the sixth.
use Rattle.std.proofs.Common.{◌≡◌, ◌<◌, ◌≤◌, ◌+◌, ◌-◌, ◌*◌, ◌^◌, ℕ, arith, ap, ◌∙◌}
use Rattle.std.proofs.lemmas.Grind.{pow_more}
use Rattle.std.proofs.Math.Nat.{pow-le-pow_right, one-le-pow}

pub one_more : (n : ℕ) → 0 < n → 128 ^ n ≡ 128 ^ (n - 1) * 128
one_more n h = let e : n ≡ n - 1 + 1 = omega arith in ap (λ k. 128 ^ k) e ∙ pow_more 128 (n - 1)

pub small : (n : ℕ) → n ≤ 5 → 128 ^ n ≤ 34359738368
small n h = pow-le-pow_right {n = 128} (omega arith) {i = n} {j = 5} h

pub some : (n : ℕ) → 1 ≤ 128 ^ n
some n = one-le-pow n 128 (omega arith)
