-- How many blocks the records of several packed lists take.
use Rattle.std.proofs.Common.{◌≡◌, ℕ, ◌+◌, ◌-◌, ◌*◌, ◌<◌, ◌≤◌, arith}
use Rattle.std.proofs.Math.Nat.{mul_comm}
use Rattle.std.proofs.lemmas.Nat.{div-add-mod', mod_below}
use Rattle.em_chain.specs.Counts.{ceiling}
use Rattle.em_chain.proofs.Counts.{ceiling_sum, ceiling_three, ceiling_two}
use Rattle.em_chain.proofs.Sessions.{ceiling_rises}

-- Four lists are in a room of at least as many records.
pub room_by : {x y z w : ℕ} (a b c d m p : ℕ) → 0 < p → x ≡ ceiling a p → y ≡ ceiling b p
    → z ≡ ceiling c p → w ≡ ceiling d p → a + b + c + d ≤ m
    → w + (x + (y + z)) ≤ ceiling m p + 3
room_by a b c d m p pos e f g h few = omega (
  arith,
  ceiling_three a b c p pos,
  ceiling_two (a + b + c) d p pos,
  ceiling_rises (a + b + c + d) m p pos few,
)

-- Twice as many records take at most twice as many blocks.
pub ceiling_twice : (n p : ℕ) → 0 < p → ceiling (2 * n) p ≤ 2 * ceiling n p
ceiling_twice n p pos =
    let b = ceiling n p in
    let whole = div-add-mod' (n + p - 1) p in
    let rest = mod_below (n + p - 1) p pos in
    let turned = mul_comm b p in
    let twice : n + n ≡ 2 * n = omega arith in
    let sum = ceiling_sum p b n n pos (omega (arith, whole, rest, turned)) in
    omega (arith, rw twice at sum)
