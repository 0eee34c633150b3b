-- Parts of calls, one after another: a whole push, and a visit of a leaf by `take_first`.
use Rattle.std.proofs.Common.{◌≡◌, ℕ, ◌+◌, ◌*◌, ◌^◌, ◌<◌, ◌≤◌, refl, arith, inl}
use Rattle.std.proofs.Math.Nat.{mul-le-mul_left}
use Rattle.em_record.specs.Shape.{ShapeNumbers, IsShape, wide_of, payload_of}
use Rattle.em_tree_cost.specs.Books.{InCall, KeepsBooks, TreeCounts, count_moves, count_push}
use Rattle.em_tree_cost.specs.Counters.{Sums}
use Rattle.em_tree_cost.specs.Effects.{SameRoot, SumsLoad, SumsLower, SumsRemove, SumsTake}
use Rattle.em_tree_cost.specs.Outline.{Pours, sums_of}
use Rattle.em_tree_cost.specs.Outline.Outline.{end, entry, leaf}
use Rattle.em_tree_cost.specs.Outline.Pours.{none, some}
use Rattle.em_tree_cost.specs.Paid.{PathDebt}
use Rattle.em_tree_cost.specs.Parts.{full_moves, load_moves}
use Rattle.em_tree_cost.specs.Shares.{levels_of, tree_share}
use Rattle.em_tree_cost.specs.Sizes.{IsCeil}
use Rattle.em_tree_cost.specs.Spots.Spot.{here}
use Rattle.em_tree_cost.proofs.Books.{books_push}
use Rattle.em_tree_cost.proofs.Changes.{loading_change, pushing_change, root_lowering_change}
use Rattle.em_tree_cost.proofs.Charges.{append_charge, some_load_most}
use Rattle.em_tree_cost.proofs.Debts.{debt_moves, debt_visit}
use Rattle.em_tree_cost.proofs.InCall.{call_begins, call_full_root, call_load, call_load_some, call_refused, call_take, call_thin_root, call_visit}
use Rattle.em_tree_cost.proofs.Levels.{size_is}

-- A push, from its tree to the share: the root's buffer becomes full and goes to the buffer of the
-- one leaf, which loads w * B operations of it.
pub push_loads : {shape : ShapeNumbers} {c : TreeCounts} (half a n x d d2 rest o e i m0 m1 m2 : ℕ)
    → IsShape shape → c.n < 2 ^ 100
    → KeepsBooks shape c 0 (sums_of half 1 (entry a (leaf n) end) x d)
    → IsCeil d2 (payload_of shape) (x + 1) → m0 + 2 * d ≤ 2 * d2
    → 2 * wide_of shape * shape.block ≤ x + 1
    → m1 ≤ full_moves (wide_of shape) (levels_of shape (count_push m0 c).k) d2
    → a + (x + 1) ≡ rest + wide_of shape * shape.block → o ≤ n + wide_of shape * shape.block
    → IsCeil i (payload_of shape) (wide_of shape * shape.block) → e ≤ 4 * wide_of shape + 1
    → m2 ≤ load_moves 0 i e
    → c.spent + m0 + m1 + m2 ≤ tree_share shape (c.n + 1 + c.adopted) (count_push m0 c).k c.z c.y
push_loads {shape = shape} half a n x d d2 rest o e i m0 m1 m2
    is low b i2 k0 fullness k1 cut le load_ceil leaf_most k2 =
    let row = entry a (leaf n) end in
    let t1 = sums_of half 1 row (x + 1) d2 in
    let poured_row = entry (a + (x + 1)) (leaf n) end in
    let t2 = sums_of half 1 poured_row 0 0 in
    let t3 = sums_of half 1 (entry rest (leaf o) end) 0 0 in
    let b1 = (books_push b m0 t1 is low (pushing_change half 1 x d d2 row) refl k0 i2).0 in
    let poured : Pours (x + 1) row poured_row = some (x + 1) (omega arith) refl none in
    let b2 = call_full_root m1 t2 is (call_begins b1)
    (root_lowering_change half 0 (x + 1) d2 row poured_row poured) refl refl fullness k1 in
    let change =
    rw (← cut) at (loading_change half 1 0 0 here 0 rest (wide_of shape * shape.block) n o end refl
    le) in
    let same : SameRoot t2 t3 = record { root = refl; blocks = refl } in
    let b3 = call_load m2 t3 is b2 i e change same load_ceil leaf_most (omega (arith, k2)) in
    call_refused b3 is (inl (omega arith))

-- A visit in a tree of one level: the root's buffer goes to the buffers of the leaves, with up to
-- 16 * w + 13 moves for the root and its children; a load of y operations in d blocks meets a leaf
-- of e blocks; its g records are handed out from i blocks; and the leaf is taken away. All of it is
-- paid for.
pub visit_removes : {shape : ShapeNumbers} {c : TreeCounts} {h r : ℕ} {t : Sums}
    (m1 m2 m3 m4 y g d e i : ℕ) (u v v2 v3 : Sums) → IsShape shape → InCall shape c 0 h r t
    → SumsLower t.root t u → u.root ≡ 0 → u.blocks ≡ 0
    → m1 ≤ 4 * t.blocks + (16 * wide_of shape + 13)
    → SumsLoad y u v → SameRoot u v → IsCeil d (payload_of shape) y
    → y ≤ wide_of shape * shape.block
    → e ≤ 4 * wide_of shape + 1 → m2 ≤ load_moves (levels_of shape c.k) d e
    → SumsTake g v v2 → SameRoot v v2 → IsCeil i (payload_of shape) g → m3 ≤ 2 * i
    → SumsRemove v2 v3 → SameRoot v2 v3 → m4 ≤ 4 + 4 * levels_of shape c.k
    → InCall shape (count_moves m4 (count_moves m3 (count_moves m2 (count_moves m1 c)))) 0 (h + g)
    1 v3
visit_removes {shape = shape} {c = c} m1 m2 m3 m4 y g d e i u v v2 v3
    is b f1 r1 b1 k1 f2 s2 of_load few leaf_most k2 f3 s3 of_leaf k3 f4 s4 k4 =
    let w = wide_of shape in let B = shape.block in let P = payload_of shape in
    let L = levels_of shape c.k in
    let size = size_is shape is in
    let owed1 = 0 + B * (16 * w + 13 + 6) in
    let path1 : PathDebt w B L owed1 1 0 = record { thin = omega arith; most = omega arith } in
    let c1 = call_thin_root m1 u is b (16 * w + 13) f1 r1 b1 k1 in
    let owed2 = B * m2 + owed1 in
    let path2 = debt_moves w B L owed1 1 0 m2 path1 in
    let c2 = call_load_some m2 v is c1 y owed2 f2 s2 (omega arith) in
    let owed3 = B * 2 + owed2 in
    let path3 = debt_moves w B L owed2 1 (0 + m2) 2 path2 in
    let read : B * (2 * i) ≤ 3 * g + 2 * B = append_charge w B P i g size of_leaf in
    let moved : B * m3 ≤ B * (2 * i) = mul-le-mul_left B k3 in
    let c3 = call_take m3 v2 is c2 g owed3 f3 s3 (omega (arith, read, moved)) in
    let load = some_load_most w B P d L e y size of_load few leaf_most in
    let all = debt_visit w B L owed3 1 (0 + m2 + 2) m4 path3 (omega (arith, load, k2, k4)) in
    call_visit m4 v3 is c3 f4 s4 all
