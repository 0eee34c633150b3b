-- The moves of a tree that was settled at each sync, and finished at most once, are within a batch's share.
use Rattle.std.proofs.Common.{◌≡◌, ℕ, ◌+◌, ◌-◌, ◌*◌, ◌≤◌, sym, subst, ◌∙◌, arith, IsTrue}
use Rattle.std.proofs.Math.Nat.{mul-le-mul, mul-le-mul_left, mul-le-mul_right}
use Rattle.em_record.specs.Cost.{blocks_of}
use Rattle.em_record.specs.Shape.{ShapeNumbers}
use Rattle.em_adopt_cost.specs.Shares.{over_share}
use Rattle.em_adopt_cost.proofs.Services.{over_within}
use Rattle.em_tree_cost.specs.Fusing.{synced_share}
use Rattle.em_tree_cost.specs.Shares.{floors_of, tree_share}
use Rattle.em_tree_cost.proofs.Rising.{div_ceil_rises, floors_rise}
use Rattle.em_space.specs.Rig.{RigState}
use Rattle.em_trunk.specs.declared.trunk.Trunk.{Trunk}
use Rattle.em_map.specs.Loading.{CountsPushes}

-- more operations and settlings allow no fewer moves
settlings_rise : (shape : ShapeNumbers) (m n k y x : ℕ) → m ≤ n → y ≤ x
    → tree_share shape m k 0 y ≤ tree_share shape n k 0 x
settlings_rise shape m n k y x h l =
    let b = div_ceil_rises shape.block m n h in
    let s : y * (blocks_of shape k + 1) ≤ x * (blocks_of shape k + 1) = mul-le-mul_right (blocks_of shape k + 1) l in
    mul-le-mul {n₁ = 160 * (blocks_of shape m + 1) + 64 * 0 + 64 * y * (blocks_of shape k + 1)}
    {m₁ = floors_of shape k}
    {n₂ = 160 * (blocks_of shape n + 1) + 64 * 0 + 64 * x * (blocks_of shape k + 1)}
    {m₂ = floors_of shape k} (omega (arith, b, s)) (omega arith)

-- A batch of N calls, of which x are syncs and a adopted records, is within its share: p operations were pushed into its tree,
-- and `more` moves came beside those of the tree,
pub within_beside : (shape : ShapeNumbers) (a p N k z y x spent more : ℕ) → p + a ≤ N → k ≤ N → z ≡ 0 → y ≤ x + 1
    → spent ≤ tree_share shape p k z y → more ≤ 16 * (x + 1) * (blocks_of shape (N - a) + 1)
    → spent + more ≤ over_share shape a (N - a) x
within_beside shape a p N k z y x spent more h l none few share m =
    let S : ℕ → Type 0 = λ q. spent ≤ tree_share shape p k q y in
    let s = subst S none share in
    let rises = settlings_rise shape p p k y (x + 1) (omega arith) few in
    over_within shape a (N - a) p k x spent more (omega (arith, h)) (omega (arith, h, l)) (omega (arith, s, rises)) m

-- also if it is one for each sync.
pub within_calls : (shape : ShapeNumbers) (a p N k z y x spent more : ℕ) → p + a ≤ N → k ≤ N → z ≡ 0 → y ≤ x + 1
    → spent ≤ tree_share shape p k z y → more ≤ x → spent + more ≤ over_share shape a (N - a) x
within_calls shape a p N k z y x spent more h l none few share few_more =
    let u : x * 1 ≤ x * (blocks_of shape (N - a) + 1) = mul-le-mul_left x (omega arith) in
    within_beside shape a p N k z y x spent more h l none few share (omega (arith, few_more, u))

-- That is within the share of so many calls.
pub calls_within : (shape : ShapeNumbers) (a N x : ℕ) → a ≤ N → over_share shape a (N - a) x ≤ synced_share shape N x
calls_within shape a N x h =
    let q = blocks_of shape N in
    let c = blocks_of shape (N - a) in
    let b : c ≤ q = div_ceil_rises shape.block (N - a) N (omega arith) in
    let same : a + (N - a) ≡ N = omega (arith, h) in
    let all : (176 * (c + 1) + 64 * (q + 1)) * (x + 1) ≤ 248 * (q + 1) * (x + 1) = mul-le-mul_right (x + 1) (omega (arith, b)) in
    let turned : 248 * (q + 1) * (x + 1) ≡ 248 * (x + 1) * (q + 1) = omega arith in
    let few : (176 * (c + 1) + 64 * (q + 1)) * (x + 1) * floors_of shape N ≤ 248 * (x + 1) * (q + 1) * floors_of shape N =
    mul-le-mul_right (floors_of shape N) (omega (arith, all, turned)) in
    subst (λ (n : ℕ). (176 * (c + 1) + 64 * (blocks_of shape n + 1)) * (x + 1) * floors_of shape n ≤ synced_share shape N x)
    (sym same) few

-- Pushes into the tree of such a batch, at most n of them: all moves so far are within the share of N calls,
pub pushes_within : (n N syncs : ℕ) (s t : RigState) (v w : Trunk) → CountsPushes n s t v w
    → v.since ≤ v.longest → v.longest ≤ v.pushed + v.adopted → v.resets ≡ 0 → v.settled ≡ syncs → v.counted ≡ 0
    → v.pushed + v.adopted + n ≤ N
    → IsTrue s.device.told → w.spent + syncs ≤ over_share s.pool.shape v.adopted (N - v.adopted) syncs
pushes_within n N syncs s t v w c since longest none settled uncounted few told =
    let pushed = c.pushed in
    let most = c.longest in
    let k = c.settled in
    let counted = c.counted in
    within_calls s.pool.shape v.adopted (w.pushed + w.counted) N w.longest w.resets w.settled syncs w.spent syncs
    (omega (arith, pushed, few, counted, uncounted)) (omega (arith, most, since, longest, few)) (c.resets ∙ none)
    (omega (arith, k, settled)) (c.share told).within (omega arith)

-- and so within that of a size N.
pub pushes_joined : (n N syncs : ℕ) (s t : RigState) (v w : Trunk) → CountsPushes n s t v w
    → v.since ≤ v.longest → v.longest ≤ v.pushed + v.adopted → v.resets ≡ 0 → v.settled ≡ syncs → v.counted ≡ 0
    → v.pushed + v.adopted + n ≤ N
    → IsTrue s.device.told → w.spent + syncs ≤ synced_share s.pool.shape N syncs
pushes_joined n N syncs s t v w c since longest none settled uncounted few told =
    let all = pushes_within n N syncs s t v w c since longest none settled uncounted few told in
    let rest = calls_within s.pool.shape v.adopted N syncs (omega (arith, few)) in
    omega (arith, all, rest)

-- more calls and syncs allow no fewer moves, beside the same adopted records,
pub calls_rise : (shape : ShapeNumbers) (a m n x y : ℕ) → m ≤ n → x ≤ y
    → over_share shape a (m - a) x ≤ over_share shape a (n - a) y
calls_rise shape a m n x y h l =
    let b = div_ceil_rises shape.block (m - a) (n - a) (omega (arith, h)) in
    let c = div_ceil_rises shape.block (a + (m - a)) (a + (n - a)) (omega (arith, h)) in
    let f = floors_rise shape (a + (m - a)) (a + (n - a)) (omega (arith, h)) in
    let M = 176 * (blocks_of shape (m - a) + 1) + 64 * (blocks_of shape (a + (m - a)) + 1) in
    let N = 176 * (blocks_of shape (n - a) + 1) + 64 * (blocks_of shape (a + (n - a)) + 1) in
    let s : M * (x + 1) ≤ N * (y + 1) =
    mul-le-mul {n₁ = M} {m₁ = x + 1} {n₂ = N} {m₂ = y + 1} (omega (arith, b, c)) (omega (arith, l)) in
    mul-le-mul {n₁ = M * (x + 1)} {m₁ = floors_of shape (a + (m - a))} {n₂ = N * (y + 1)}
    {m₂ = floors_of shape (a + (n - a))} s f

-- and a sync more allows a move more
pub calls_more : (shape : ShapeNumbers) (a c y : ℕ) → over_share shape a c y + 1 ≤ over_share shape a c (y + 1)
calls_more shape a c y =
    let Q = 176 * (blocks_of shape c + 1) + 64 * (blocks_of shape (a + c) + 1) in
    let f = floors_of shape (a + c) in
    let low : 1 ≤ Q * f = mul-le-mul {n₁ = 1} {m₁ = 1} {n₂ = Q} {m₂ = f} (omega arith) (omega arith) in
    let all : Q * (y + 1 + 1) * f ≡ Q * (y + 1) * f + Q * f = omega arith in
    omega (arith, low, all)

-- more calls and syncs allow no fewer moves
pub synced_share_rises : (shape : ShapeNumbers) (m n x y : ℕ) → m ≤ n → x ≤ y
    → synced_share shape m x ≤ synced_share shape n y
synced_share_rises shape m n x y h l =
    let b = div_ceil_rises shape.block m n h in
    let f = floors_rise shape m n h in
    let s : 248 * (x + 1) * (blocks_of shape m + 1) ≤ 248 * (y + 1) * (blocks_of shape n + 1) =
    mul-le-mul {n₁ = 248 * (x + 1)} {m₁ = blocks_of shape m + 1} {n₂ = 248 * (y + 1)} {m₂ = blocks_of shape n + 1}
    (omega (arith, l)) (omega (arith, b)) in
    mul-le-mul {n₁ = 248 * (x + 1) * (blocks_of shape m + 1)} {m₁ = floors_of shape m}
    {n₂ = 248 * (y + 1) * (blocks_of shape n + 1)} {m₂ = floors_of shape n} s f

-- of a size, too
pub sync_more : (shape : ShapeNumbers) (n y : ℕ) → synced_share shape n y + 1 ≤ synced_share shape n (y + 1)
sync_more shape n y =
    let q = blocks_of shape n + 1 in
    let f = floors_of shape n in
    let low : 1 ≤ 248 * q * f = mul-le-mul {n₁ = 1} {m₁ = 1} {n₂ = 248 * q} {m₂ = f} (omega arith) (omega arith) in
    let all : 248 * (y + 1 + 1) * q * f ≡ 248 * (y + 1) * q * f + 248 * q * f = omega arith in
    omega (arith, low, all)
