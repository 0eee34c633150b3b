-- A tree of one leaf that gives its records: the fees of its operations are enough, and a reset's
-- toll.
use Rattle.std.proofs.Common.{◌≡◌, ℕ, ◌+◌, ◌*◌, ◌≤◌, arith, inl}
use Rattle.std.proofs.Math.Nat.{mul-le-mul_right, mul-le-mul_left}
use Rattle.em_record.specs.Shape.{ShapeNumbers, IsShape, wide_of, payload_of}
use Rattle.em_tree_cost.specs.Books.{KeepsBooks, TreeCounts, count_drain, count_moves}
use Rattle.em_tree_cost.specs.Counters.{Sums, fresh_sums}
use Rattle.em_tree_cost.specs.Effects.{SameRoot, SumsLoad, SumsLower, SumsTake}
use Rattle.em_tree_cost.specs.Paid.{toll_of}
use Rattle.em_tree_cost.specs.Sizes.{IsCeil, IsSize}
use Rattle.em_tree_cost.proofs.Charges.{append_charge, block_times, blocks_few, thin_charge}
use Rattle.em_tree_cost.proofs.InCall.{call_begins, call_drain, call_load_some, call_take, call_thin_root}
use Rattle.em_tree_cost.proofs.Levels.{size_is}

-- A load of y operations in d blocks into the only leaf, of x records in e blocks, leaves z
-- records. An operation takes away one record at most, so the load pays for the most of it.
pub load_into_one : (w B P x y z d e : ℕ) → IsSize w B P → IsCeil e P x → IsCeil d P y → x ≤ z + y
    → B * (5 * e + 6 * d + 18) ≤ 36 * y + 6 * z + 30 * B
load_into_one w B P x y z d e s i j h =
    let a = block_times w B P e s in let b = block_times w B P d s in
    let f = blocks_few w B P e x s i in let g = blocks_few w B P d y s j in
    omega (arith, a, b, f, g, h, i.tight, j.tight, s.payload, s.narrow, s.wide)

-- taking z records in d blocks out of a leaf
pub take_from_one : (w B P z d : ℕ) → IsSize w B P → IsCeil d P z → B * (2 * d) ≤ 3 * z + 2 * B
take_from_one w B P z d s i = append_charge w B P d z s i

-- A tree of one leaf gives all that it has, z records: the last load, taking the leaf, and 9 moves
-- more. Of what is owed from before, 2 * B are for the root's last block, B for its end, and 20 * B
-- for a thin buffer to one child.
pub single : (w B P x y z d e i more m : ℕ) → IsSize w B P
    → IsCeil e P x → IsCeil d P y → IsCeil i P z → x ≤ z + y
    → m ≤ 5 * e + 6 * d + 18 + 2 * i + 9 → more ≤ 23 * B → B * m + more ≤ 64 * B + 36 * y + 18 * z
single w B P x y z d e i more m s ie jd kz h mm o =
    let a = load_into_one w B P x y z d e s ie jd h in
    let b = take_from_one w B P z i s kz in
    let c : B * m ≤ B * (5 * e + 6 * d + 18 + 2 * i + 9) = mul-le-mul_left B mm in
    omega (arith, a, b, c, o)

-- A tree of one leaf leaves some and writes the others anew, in as many blocks, up to its end or a
-- refusal.
pub single_left : (w B P x y z d e i more m : ℕ) → IsSize w B P
    → IsCeil e P x → IsCeil d P y → IsCeil i P z → x ≤ z + y
    → m ≤ 5 * e + 6 * d + 18 + 4 * i + 7 → more ≤ 23 * B → B * m + more ≤ 64 * B + 36 * y + 18 * z
single_left w B P x y z d e i more m s ie jd kz h mm o =
    let a = load_into_one w B P x y z d e s ie jd h in
    let b = thin_charge w B P i z s kz in
    let c : B * m ≤ B * (5 * e + 6 * d + 18 + 4 * i + 7) = mul-le-mul_left B mm in
    omega (arith, a, b, c, o)

-- A whole call on a tree of one leaf that gives all. The root's buffer goes to the leaf's buffer;
-- the last load, of y operations in d blocks, meets x records in e blocks and leaves z in i blocks;
-- all are taken, and the tree is new. (Full loads before the last one pay for themselves, by
-- `call_load`.)
pub one_leaf_drains : {shape : ShapeNumbers} {c : TreeCounts} {t : Sums}
    (m1 m2 m3 m4 x y z d e i : ℕ) (u v v2 : Sums) → IsShape shape → KeepsBooks shape c 0 t
    → SumsLower t.root t u → u.root ≡ 0 → u.blocks ≡ 0 → m1 ≤ 4 * t.blocks + 17
    → SumsLoad y u v → SameRoot u v → IsCeil e (payload_of shape) x → IsCeil d (payload_of shape) y
    → IsCeil i (payload_of shape) z → x ≤ z + y → m2 ≤ 5 * e + 6 * d + 18
    → SumsTake z v v2 → SameRoot v v2 → m3 ≤ 2 * i → m4 ≤ 9
    → KeepsBooks shape (count_drain m4 (count_moves m3 (count_moves m2 (count_moves m1 c)))) 0
    fresh_sums
one_leaf_drains {shape = shape} {c = c} {t = t} m1 m2 m3 m4 x y z d e i u v v2
    is b c1 r0 b0 k1 c2 s2 ie jd kz le k2 c3 s3 k3 k4 =
    let w = wide_of shape in let B = shape.block in let P = payload_of shape in
    let s = size_is shape is in
    let b1 = call_thin_root m1 u is (call_begins b) 17 c1 r0 b0 k1 in
    let lo = load_into_one w B P x y z d e s ie jd le in
    let g2 : B * m2 ≤ B * (5 * e + 6 * d + 18) = mul-le-mul_left B k2 in
    let b2 = call_load_some m2 v is b1 y (6 * z + 53 * B) c2 s2 (omega (arith, lo, g2)) in
    let ta = take_from_one w B P z i s kz in
    let g3 : B * m3 ≤ B * (2 * i) = mul-le-mul_left B k3 in
    let b3 = call_take m3 v2 is b2 z (55 * B) c3 s3 (omega (arith, ta, g3)) in
    let g4 : B * m4 ≤ B * 9 = mul-le-mul_left B k4 in
    let f : 64 * 1 * B ≤ toll_of shape c.k = mul-le-mul_right B (omega arith) in
    call_drain b3 m4 is (omega (arith, r0, s2.root, s3.root))
    (omega (arith, b0, s2.blocks, s3.blocks)) (inl (omega (arith, g4, f)))
