-- The fee of each event is enough for its moves times B, for every shape and up to 24 levels.
use Rattle.std.proofs.Common.{◌≡◌, ℕ, ◌+◌, ◌*◌, ◌<◌, ◌≤◌, arith, ⊎_elim}
use Rattle.std.proofs.Math.Nat.{mul-le-mul_left}
use Rattle.em_tree_cost.specs.Parts.{filled_debt, full_moves, load_moves, split_moves}
use Rattle.em_tree_cost.specs.Sizes.{IsCeil, IsLevels, IsSize}
use Rattle.em_tree_cost.proofs.Ceilings.{ceil_low, ceil_most}

-- c blocks written or read, times B
pub block_times : (w B P c : ℕ) → IsSize w B P → B * c ≡ c * P + c
block_times w B P c s = rw (← s.payload) (omega arith)

-- x records in c blocks, of at least 127 each but for the last
pub blocks_few : (w B P c x : ℕ) → IsSize w B P → IsCeil c P x → c * 127 ≤ x + 126
blocks_few w B P c x s i = ⊎_elim
    (λ (h : c * 127 < x + 127). omega arith)
    (λ (h : c ≡ 0). omega arith)
    (ceil_low c P x 127 i (omega (arith, s.wide, s.narrow, s.payload)))

-- the root's buffer, of x operations in c blocks: two moves for each block
pub append_charge : (w B P c x : ℕ) → IsSize w B P → IsCeil c P x → B * (2 * c) ≤ 3 * x + 2 * B
append_charge w B P c x s i =
    let t = block_times w B P c s in let f = blocks_few w B P c x s i in
    omega (arith, t, f, i.tight, s.payload)

-- a buffer of any length, without the moves for its node and the children: 5 for each operation
pub thin_charge : (w B P c x : ℕ) → IsSize w B P → IsCeil c P x → B * (4 * c) ≤ 5 * x + 4 * B
thin_charge w B P c x s i =
    let t = block_times w B P c s in let f = blocks_few w B P c x s i in
    omega (arith, t, f, i.tight, s.payload)

-- a full buffer: 19 for each operation, with 2 moves to spare
pub full_charge : (w B P c x L : ℕ) → IsSize w B P → IsCeil c P x → L ≤ 24 → 2 * w * B ≤ x
    → B * (full_moves w L c + 2) ≤ 19 * x
full_charge w B P c x L s i l h =
    let t = block_times w B P c s in let f = blocks_few w B P c x s i in
    let a : B * L ≤ B * 24 = mul-le-mul_left B l in
    let b : B * 8 ≤ B * w = mul-le-mul_left B s.wide in
    omega (arith, t, f, a, b, h, i.tight, s.payload)

-- the blocks of a leaf before a load
pub leaf_blocks_most : (w B P c : ℕ) → IsSize w B P → IsCeil c P (4 * w * B) → c ≤ 4 * w + 1
leaf_blocks_most w B P c s i = ceil_most c P (4 * w * B) (4 * w + 1) i
    (rw (← s.payload) (omega (arith, s.narrow, s.payload)))

-- the blocks of a full load
pub load_blocks_most : (w B P c : ℕ) → IsSize w B P → IsCeil c P (w * B) → c ≤ w + 1
load_blocks_most w B P c s i = ceil_most c P (w * B) (w + 1) i
    (rw (← s.payload) (omega (arith, s.narrow, s.payload)))

-- a load of any size into a leaf, as the visit of a leaf owes it
pub some_load_most : (w B P c L e x : ℕ) → IsSize w B P → IsCeil c P x → x ≤ w * B → e ≤ 4 * w + 1
    → load_moves L c e ≤ 26 * w + 29 + 2 * L
some_load_most w B P c L e x s i few h =
    let m : w * B ≤ (w + 1) * P = rw (← s.payload) (omega (arith, s.narrow, s.payload)) in
    let a = ceil_most c P x (w + 1) i (omega (arith, few, m)) in
    omega (arith, a, h)

-- the blocks of what one load leaves of a buffer, which goes through its node again
pub rest_blocks : (w B P c L : ℕ) → IsSize w B P → IsCeil c P ((2 * L + 1) * w * B) → L ≤ 24
    → c ≤ (2 * L + 1) * w + 4
rest_blocks w B P c L s i l = ceil_most c P ((2 * L + 1) * w * B) ((2 * L + 1) * w + 4) i
    (let m : w * L ≤ w * 24 = mul-le-mul_left w l in
    rw (← s.payload) (omega (arith, m, s.narrow, s.payload, s.wide)))

-- a leaf's split, with all that follows: 7 * L + 12 for each of the 2 * w * B operations that it
-- needs
pub split_charge : (w B P c L : ℕ) → IsSize w B P → IsCeil c P ((2 * L + 1) * w * B) → IsLevels L
    → split_moves w L c ≤ 2 * w * (7 * L + 12)
split_charge w B P c L s i l =
    let r = rest_blocks w B P c L s i l.most in
    let q : L * L ≤ L * 24 = mul-le-mul_left L l.most in
    let b : L * 8 ≤ L * w = mul-le-mul_left L s.wide in
    omega (arith, r, q, b, l.some, s.wide)

-- Emptying a full buffer of x records is at most 14 * x / B moves.
pub emptying_most : (w B P c x : ℕ) → IsSize w B P → IsCeil c P x → 2 * w * B ≤ x
    → B * (4 * c + 16 * w + 12) ≤ 14 * x
emptying_most w B P c x s i h =
    let t = block_times w B P c s in let f = blocks_few w B P c x s i in
    let b : B * 8 ≤ B * w = mul-le-mul_left B s.wide in
    omega (arith, t, f, b, h, i.tight, s.payload)

-- A full load into a leaf of at most 4 * w * B records is at most 28 * w moves.
pub load_most : (w B P s4 c1 : ℕ) → IsSize w B P → IsCeil s4 P (4 * w * B) → IsCeil c1 P (w * B)
    → 5 * s4 + 4 * c1 + 12 ≤ 28 * w
load_most w B P s4 c1 s i j =
    let a = leaf_blocks_most w B P s4 s i in let b = load_blocks_most w B P c1 s j in
    omega (arith, a, b, s.wide)

-- what a call of `take_first` may owe at most is within what a refused call may owe
pub open_visit_most : (w B L : ℕ) → 8 ≤ w → 1 ≤ L
    → B * (filled_debt w L + 3 * L) ≤ (20 * L + 31) * (w * B) + 18 * (w * B) + 64 * B
open_visit_most w B L wide some =
    let m : L * 8 ≤ L * w = mul-le-mul_left L wide in
    let all = (20 * L + 31) * w + 18 * w + 64 in
    let k : filled_debt w L + 3 * L ≤ all = omega (arith, m) in
    let x : B * (filled_debt w L + 3 * L) ≤ B * all = mul-le-mul_left B k in
    omega (arith, x)
