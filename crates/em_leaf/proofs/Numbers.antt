-- How many blocks records take in several lists.
use Rattle.std.proofs.Common.{◌≡◌, ℕ, ◌+◌, ◌-◌, ◌*◌, ◌<◌, ◌≤◌, arith, ⊎_elim}
use Rattle.std.proofs.lemmas.Nat.{div_below}
use Rattle.std.proofs.Math.Nat.{mul-le-mul_right, mul_comm}
use Rattle.em_chain.specs.Counts.{ceiling}
use Rattle.em_chain.proofs.Counts.{ceiling_more, ceiling_sum, ceiling_two, lt_or_le, more_by}

-- the blocks have places for all records
pub ceiling_holds : (a p : ℕ) → 0 < p → a ≤ p * ceiling a p
ceiling_holds a p pos = ⊎_elim
    (λ (l : p * ceiling a p < a). absurd (let m = more_by p 0 (ceiling a p) a pos (omega arith) in
    omega arith))
    (λ (l : a ≤ p * ceiling a p). l) (lt_or_le (p * ceiling a p) a)

-- One list takes no more blocks than two lists of its records.
pub ceiling_add : (a b p : ℕ) → 0 < p → ceiling (a + b) p ≤ ceiling a p + ceiling b p
ceiling_add a b p pos = ceiling_sum p (ceiling a p) a b pos (ceiling_holds a p pos)

-- no more blocks than records
pub ceiling_few : (n p : ℕ) → 0 < p → ceiling n p ≤ n
ceiling_few n p pos =
    let m : 1 * (n + 1) ≤ p * (n + 1) = mul-le-mul_right (n + 1) (omega arith) in
    let k : n * 1 ≤ n * p = let j : 1 * n ≤ p * n = mul-le-mul_right n (omega arith) in
    let c = mul_comm n p in omega arith in
    let d = div_below (n + p - 1) p (n + 1) pos (let e : (n + 1) * p ≡ n * p + p = grind arith in
    omega arith) in
    omega arith

-- Records that are written: no more than were read, what was in hand, and the operations. With
-- one more, their blocks and those that aren't read are no more than those of these and one.
pub room_with : (a h n x i b c p : ℕ) → 0 < p → i ≤ h + x + n → ceiling (x + 1) p + b ≤ c + 1
    → ceiling (a + i + 1) p + b ≤ ceiling (a + h + n) p + c + 1
room_with a h n x i b c p pos few room =
    let m = ceiling_more (a + i + 1) (a + h + n + (x + 1)) p pos (omega arith) in
    let k = ceiling_add (a + h + n) (x + 1) p pos in
    omega arith

-- The blocks of two parts and of what isn't read, one record more in the second part: of n
-- operations, x records that were read for the first part, l records there, and h in hand after
-- it.
pub room_parts : (l h n m x b c p : ℕ) → 0 < p → l + h + m ≤ x + n → ceiling (x + 1) p + b ≤ c + 1
    → ceiling l p + (ceiling (h + m) p + b + 1) ≤ ceiling n p + c + 3
room_parts l h n m x b c p pos few room =
    let k = ceiling_two l (h + m) p pos in
    let j = ceiling_more (l + (h + m)) (n + (x + 1)) p pos (omega arith) in
    let i = ceiling_add n (x + 1) p pos in
    omega arith
