-- The moves of a builder, as numbers: w · B records are those of a short leaf, P those of a chain's block.
use Rattle.std.proofs.Common.{◌≡◌, ℕ, zero, suc, ◌+◌, ◌-◌, ◌*◌, ◌<◌, ◌≤◌, refl, arith}
use Rattle.std.proofs.Math.Nat.{mul-le-mul_left, mul-le-mul_right, le_of_mul-le-mul_left}
use Rattle.em_tree_cost.specs.Sizes.{IsCeil, IsSize}
use Rattle.em_tree_cost.proofs.Ceilings.{ceil_most}

-- A full leaf has at most 2 · w + 1 blocks.
pub lot_most : (w B P e : ℕ) → IsSize w B P → IsCeil e P (2 * (w * B)) → e ≤ 2 * w + 1
lot_most w B P e s i =
    let b = s.payload in
    let n = s.narrow in
    ceil_most e P (2 * (w * B)) (2 * w + 1) i (rw (← b) (omega (arith, n, b)))

-- Records of k blocks of B fill at most 2 · k of P.
twice_most : (B P k r c : ℕ) → P + 1 ≡ B → 1 ≤ P → r ≤ k * B → IsCeil c P r → c ≤ 2 * k
twice_most B P k r c b one h i =
    let j : k * 1 ≤ k * P = mul-le-mul_left k one in
    let l : r ≤ k * (P + 1) = rw b h in
    ceil_most c P r (2 * k) i (omega (arith, j, l))

-- The blocks of n full leaves and r records more: 2 · w for each leaf, and those of the others.
whole_least : (w B q r n : ℕ) → 0 < B → r + 2 * (w * B) * n ≤ q * B → 2 * w * n ≤ q
whole_least w B q r n some h =
    let l : B * (2 * w * n) ≤ B * q = omega (arith, h) in
    le_of_mul-le-mul_left l some

rest_most : (w B q r n : ℕ) → 2 * w * n ≤ q → r + 2 * (w * B) * n ≤ q * B → r ≤ (q - 2 * w * n) * B
rest_most w B q r n few h =
    let e : q ≡ 2 * w * n + (q - 2 * w * n) = omega (arith, few) in
    by_sum (q - 2 * w * n) e
  where
    by_sum : (k : ℕ) → q ≡ 2 * w * n + k → r ≤ k * B
    by_sum k e =
        let p : q * B ≡ (2 * w * n + k) * B = rw e refl in
        omega (arith, h, p)

-- With no full leaf.
pub none_share : (w B P c r q : ℕ) → IsSize w B P → 1 ≤ r → IsCeil c P r → r ≤ q * B → 2 * c + 20 ≤ 12 * (q + 1)
none_share w B P c r q s some i h =
    let b = s.payload in
    let n = s.narrow in
    let w8 = s.wide in
    let d = twice_most B P q r c b (omega (arith, b, n, w8)) h i in
    let one : 1 ≤ q = positive q h in
    omega (arith, d, one)
  where
    positive : (k : ℕ) → r ≤ k * B → 1 ≤ k
    positive zero l = absurd (omega (arith, l, some))
    positive (suc k) l = omega arith

-- With x that are listed, and one that is held.
pub some_share : (w B P e c r x q : ℕ) → IsSize w B P → IsCeil e P (2 * (w * B)) → IsCeil c P r
    → r + 2 * (w * B) * (x + 1) ≤ q * B → (2 * e + 11) * x + 6 * e + 6 * c + 37 ≤ 12 * (q + 1)
some_share w B P e c r x q s j i h =
    let b = s.payload in
    let n = s.narrow in
    let w8 = s.wide in
    let few = lot_most w B P e s j in
    let least = whole_least w B q r (x + 1) (omega (arith, n, w8)) h in
    let rest = rest_most w B q r (x + 1) least h in
    let d = twice_most B P (q - 2 * w * (x + 1)) r c b (omega (arith, b, n, w8)) rest i in
    let m : e * x ≤ (2 * w + 1) * x = mul-le-mul_right x few in
    let o : 8 * x ≤ w * x = mul-le-mul_right x w8 in
    omega (arith, few, least, d, m, o, w8)

-- The blocks of x leaves that are listed, h that are held, and one of r records, with those of the list and as many as come into
-- use at the end.
pub room_share : (w B P e c d r x h q : ℕ) → IsSize w B P → IsCeil e P (2 * (w * B)) → IsCeil c P r → IsCeil d P (2 * x)
    → r + 2 * (w * B) * (x + h) ≤ q * B → (e * x + x) + (e * h + d) + c + (2 * x + 9) ≤ 12 * (q + 1)
room_share w B P e c d r x h q s j i k l =
    let b = s.payload in
    let n = s.narrow in
    let w8 = s.wide in
    let few = lot_most w B P e s j in
    let least = whole_least w B q r (x + h) (omega (arith, n, w8)) l in
    let rest = rest_most w B q r (x + h) least l in
    let own = twice_most B P (q - 2 * w * (x + h)) r c b (omega (arith, b, n, w8)) rest i in
    let two : x * 2 ≤ x * P = mul-le-mul_left x (omega (arith, b, n, w8)) in
    let list : d ≤ x = ceil_most d P (2 * x) x k (omega (arith, two)) in
    let m : e * x ≤ (2 * w + 1) * x = mul-le-mul_right x few in
    let y : e * h ≤ (2 * w + 1) * h = mul-le-mul_right h few in
    let o : 8 * x ≤ w * x = mul-le-mul_right x w8 in
    let p : 8 * h ≤ w * h = mul-le-mul_right h w8 in
    omega (arith, least, own, list, m, y, o, p)

-- The moves that a builder may have spent on them, and seven more.
pub spent_share : (w B P e c r x h q : ℕ) → IsSize w B P → IsCeil e P (2 * (w * B)) → IsCeil c P r
    → r + 2 * (w * B) * (x + h) ≤ q * B → (2 * e + 5) * x + (2 * e + 1) * h + 2 * c + 7 ≤ 12 * (q + 1)
spent_share w B P e c r x h q s j i l =
    let b = s.payload in
    let n = s.narrow in
    let w8 = s.wide in
    let few = lot_most w B P e s j in
    let least = whole_least w B q r (x + h) (omega (arith, n, w8)) l in
    let rest = rest_most w B q r (x + h) least l in
    let own = twice_most B P (q - 2 * w * (x + h)) r c b (omega (arith, b, n, w8)) rest i in
    let m : e * x ≤ (2 * w + 1) * x = mul-le-mul_right x few in
    let y : e * h ≤ (2 * w + 1) * h = mul-le-mul_right h few in
    let o : 8 * x ≤ w * x = mul-le-mul_right x w8 in
    let p : 8 * h ≤ w * h = mul-le-mul_right h w8 in
    omega (arith, least, own, m, y, o, p)
