-- The debts of a leaf's visit, added up: as numbers of moves, and as the ends of a call ask them.
use Rattle.std.proofs.Common.{◌≡◌, ℕ, zero, suc, ◌+◌, ◌-◌, ◌*◌, ◌<◌, ◌≤◌, refl, subst, arith}
use Rattle.std.proofs.Math.Nat.{mul-le-mul_right, mul-le-mul_left}
use Rattle.em_record.specs.Shape.{ShapeNumbers, IsShape, wide_of, payload_of}
use Rattle.em_tree_cost.specs.Counters.{Sums}
use Rattle.em_tree_cost.specs.Paid.{PathDebt, RefusedDebt, toll_of}
use Rattle.em_tree_cost.specs.Parts.{filled_debt, leave_debt, thin_debt, visit_debt}
use Rattle.em_tree_cost.specs.Shares.{floors_of, levels_of}
use Rattle.em_tree_cost.specs.Sizes.{IsCeil, IsLevels}
use Rattle.em_tree_cost.specs.Visits.{arrival_debt, way_debt}
use Rattle.em_tree_cost.proofs.Charges.{append_charge}
use Rattle.em_tree_cost.proofs.Levels.{size_is}
use Rattle.em_tree_cost.proofs.OneLeaf.{load_into_one}

-- the searches of l levels below the root's first are l · L − l · (l + 1) / 2 moves
way_exact : (w L l : ℕ) → suc l ≤ L
    → 2 * way_debt w L (suc l) + l * (l + 1) ≡ 2 * (l * L) + 2 * (l * (16 * w + 4))
way_exact w L zero h = omega arith
way_exact w L (suc l) h =
    let i = way_exact w L l (omega (arith, h)) in
    omega (arith, i, h)

way_most_by : (w l d : ℕ) → suc (l + d) ≤ 24
    → way_debt w (suc (l + d)) (suc l) + (16 * w + 16) ≤ suc (l + d) * (16 * w + 16)
way_most_by w l d few =
    let e = way_exact w (suc (l + d)) l (omega arith) in
    let q : (l + d) * (l + d) ≤ (l + d) * 23 = mul-le-mul_left (l + d) (omega (arith, few)) in
    omega (arith, e, q)

-- The way down owes at most 16 · w + 16 for each level below the root's.
pub way_most : (w L at : ℕ) → IsLevels L → at ≤ L
    → way_debt w L at + (16 * w + 16) ≤ L * (16 * w + 16)
way_most w L zero levels h =
    let m : 1 * (16 * w + 16) ≤ L * (16 * w + 16) = mul-le-mul_right (16 * w + 16) levels.some in
    omega (arith, m)
way_most w L (suc l) levels h =
    let d = L - suc l in
    let same : suc (l + d) ≡ L = omega (arith, h) in
    let P : ℕ → Type 0 = λ n. way_debt w n (suc l) + (16 * w + 16) ≤ n * (16 * w + 16) in
    subst P same (way_most_by w l d (omega (arith, same, levels.most)))

-- one level more of the way: its search and its thin buffer
pub way_step : (w L at : ℕ) → 1 ≤ at
    → way_debt w L (suc at) ≡ L + 1 - suc at + (16 * w + 4) + way_debt w L at
way_step w L zero h = absurd (omega (arith, h))
way_step w L (suc l) h = refl

module _ (shape : ShapeNumbers) (L at : ℕ) (is : IsShape shape) (levels : IsLevels L) (down : at ≤ L)
  where
    -- A visit that removed its leaf: 5 moves for the leaf's last blocks and its own, and the removal.
    pub visit_fits : arrival_debt shape L at + 5 + 4 * L ≤ visit_debt (wide_of shape) L + 1
    visit_fits =
        let w = wide_of shape in
        let a = way_most w L at levels down in
        let s = size_is shape is in
        omega (arith, a, s.wide)

    -- one that left some
    pub leave_fits : arrival_debt shape L at + 5 ≤ leave_debt (wide_of shape) L
    leave_fits =
        let w = wide_of shape in
        let a = way_most w L at levels down in
        let s = size_is shape is in
        omega (arith, a, s.wide, levels.most)

    -- one that filled the area, and wrote the rest of the leaf anew in up to 4 · w + 1 blocks
    pub filled_fits : arrival_debt shape L at + 2 + (4 * (4 * wide_of shape + 1) + 1)
        ≤ filled_debt (wide_of shape) L
    filled_fits =
        let w = wide_of shape in
        let a = way_most w L at levels down in
        let s = size_is shape is in
        omega (arith, a, s.wide, levels.most)

    -- one that was refused, in any of its parts: a load needs 6 moves and a search more than one that is
    -- done, a leaf has up to 4 · w + 1 blocks to read and release, and a removal is up to 4 · L moves
    pub refused_fits : arrival_debt shape L at + (8 * wide_of shape + 12 + 4 * L)
        ≤ L * thin_debt (wide_of shape) + (42 * wide_of shape + 37 + 6 * L)
    refused_fits =
        let w = wide_of shape in
        let a = way_most w L at levels down in
        let s = size_is shape is in
        omega (arith, a, s.wide, levels.most)

module _ (more D : ℕ) where
  -- D moves are owed: as L thin buffers and e moves
  pub debt_number : (w B L e : ℕ) → more ≤ B * D → D ≤ L * thin_debt w + e
      → PathDebt w B L more L e
  debt_number w B L e o h =
      let k : B * D ≤ B * (L * thin_debt w + e) = mul-le-mul_left B h in
      record { thin = omega arith; most = omega (arith, o, k) }

  -- as a refused call may owe them
  pub refused_number : (shape : ShapeNumbers) (k : ℕ) → more ≤ shape.block * D
      → (D ≤ levels_of shape k * thin_debt (wide_of shape)
      + (42 * wide_of shape + 37 + 6 * levels_of shape k))
      → RefusedDebt shape k more
  refused_number shape k o h =
      let w = wide_of shape in
      let L = levels_of shape k in
      record {
        j = L;
        e = 42 * w + 37 + 6 * L;
        debt = debt_number w shape.block L (42 * w + 37 + 6 * L) o h;
        most = omega arith;
      }

  -- as a visit's end, a call's end and a reset ask them, with m moves more
  pub ends_number : (B m most : ℕ) → more ≤ B * D → D + m ≤ most → B * m + more ≤ B * most
  ends_number B m most o h =
      let k : B * (D + m) ≤ B * most = mul-le-mul_left B h in omega (arith, o, k)

module _ (shape : ShapeNumbers) (more D m g c : ℕ) (is : IsShape shape)
    (blocks : IsCeil c (payload_of shape) g) (few : m ≤ 2 * c + 3) where
  -- g records were read in c blocks, which were released, and the leaf's block was stored: 3 · g and 5
  -- moves
  pub read_number : shape.block * m ≤ 3 * g + 5 * shape.block
  read_number =
      let B = shape.block in
      let a = append_charge (wide_of shape) B (payload_of shape) c g (size_is shape is) blocks in
      let b : B * m ≤ B * (2 * c + 3) = mul-le-mul_left B few in
      omega (arith, a, b)

  -- so they owe 5 moves
  pub take_number : more ≤ shape.block * D
      → shape.block * m + more ≤ 18 * g + shape.block * (D + 5)
  take_number o = let a = read_number in omega (arith, a, o)

  -- a call that leaves some ends with them
  pub leave_number : more ≤ shape.block * D → (L at : ℕ) → IsLevels L → at ≤ L
      → D ≤ arrival_debt shape L at
      → shape.block * m + more ≤ shape.block * leave_debt (wide_of shape) L + 18 * g
  leave_number o L at levels down h =
      let B = shape.block in
      let a = read_number in
      let b = leave_fits shape L at is levels down in
      let k : B * (D + 5) ≤ B * leave_debt (wide_of shape) L = mul-le-mul_left B (omega (arith, b, h)) in
      omega (arith, a, o, k)

-- A call that took what fills whole blocks, beside what it had taken, took more than half of an area.
pub blocks_many : (shape : ShapeNumbers) (taken most n : ℕ) → IsShape shape
    → taken + most ≡ wide_of shape * shape.block → most < n + payload_of shape
    → wide_of shape * shape.block < 2 * (taken + n)
blocks_many shape taken most n is all few =
    let B = shape.block in
    let s = size_is shape is in
    let m : 8 * B ≤ wide_of shape * B = mul-le-mul_right B s.wide in
    omega (arith, all, few, m, s.payload)

-- A call that leaves some ends without a record more: the look at a leaf showed that one is left.
pub probe_number : (shape : ShapeNumbers) (more D L at : ℕ) → IsShape shape → IsLevels L → at ≤ L
    → more ≤ shape.block * D → D ≤ arrival_debt shape L at
    → shape.block * 0 + more ≤ shape.block * leave_debt (wide_of shape) L + 18 * 0
probe_number shape more D L at is levels down o h =
    let B = shape.block in
    let b = leave_fits shape L at is levels down in
    let k : B * D ≤ B * leave_debt (wide_of shape) L = mul-le-mul_left B (omega (arith, b, h)) in
    omega (arith, o, k)

-- the end of a visit whose leaf was removed, by m moves
pub visit_number : (shape : ShapeNumbers) (more D L at m : ℕ) → IsShape shape → IsLevels L → at ≤ L
    → more ≤ shape.block * D → D ≤ arrival_debt shape L at + 5 → m + 1 ≤ 4 * L
    → shape.block * m + more ≤ shape.block * visit_debt (wide_of shape) L
visit_number shape more D L at m is levels down o h few =
    let b = visit_fits shape L at is levels down in
    ends_number more D shape.block m (visit_debt (wide_of shape) L) o (omega (arith, b, h, few))

-- A reset of a tree that was split: a visit, with m moves for its last blocks and a new tree.
pub drain_number : (shape : ShapeNumbers) (k more D L at m : ℕ) → IsShape shape
    → L ≡ levels_of shape k → IsLevels L → at ≤ L
    → more ≤ shape.block * D → D ≤ arrival_debt shape L at + 5 → m ≤ 4 * L + 63
    → (shape.block * m + more
    ≤ toll_of shape k + shape.block * (wide_of shape * (20 * levels_of shape k + 31)))
drain_number shape k more D L at m is same levels down o h few =
    let w = wide_of shape in
    let B = shape.block in
    let s = size_is shape is in
    let b = visit_fits shape L at is levels down in
    let all = ends_number more D B m (visit_debt w L + 64) o (omega (arith, b, h, few)) in
    let a : L * 8 ≤ L * w = mul-le-mul_left L s.wide in
    let f : visit_debt w L ≤ w * (20 * L + 31) = omega (arith, a, levels.some, s.wide) in
    let g : B * visit_debt w L ≤ B * (w * (20 * L + 31)) = mul-le-mul_left B f in
    let P : ℕ → Type 0 = λ n. B * m + more ≤ toll_of shape k + B * (w * (20 * n + 31)) in
    let t : 64 * 1 * B ≤ toll_of shape k = mul-le-mul_right B (omega arith) in
    subst P same (omega (arith, all, g, t))

-- What a reset pays for is 63 moves and one for each level, at least.
pub toll_low : (shape : ShapeNumbers) (k : ℕ)
    → shape.block * (63 + levels_of shape k) ≤ toll_of shape k
toll_low shape k =
    let B = shape.block in
    let a : B * (63 + levels_of shape k) ≤ B * (64 * floors_of shape k) =
    mul-le-mul_left B (omega arith) in
    omega (arith, a)

-- A tree of one leaf that was never split.
module _ (shape : ShapeNumbers) (is : IsShape shape) where
  -- A load of y operations in d blocks into its leaf, of x records in e blocks, leaves z.
  pub alone_load : (x y z d e j : ℕ) → IsCeil e (payload_of shape) x → IsCeil d (payload_of shape) y
      → x ≤ z + y
      → shape.block * (5 * e + 6 * d + 18 + j) ≤ 36 * y + (6 * z + shape.block * (30 + j))
  alone_load x y z d e j ie id le =
      let a = load_into_one (wide_of shape) shape.block (payload_of shape) x y z d e
      (size_is shape is) ie id le in
      omega (arith, a)

  -- All its records are taken,
  pub alone_take : (more D z c m : ℕ) → IsCeil c (payload_of shape) z → m ≤ 2 * c + 3
      → more ≤ 6 * z + shape.block * D
      → shape.block * m + more ≤ 18 * z + shape.block * (D + 5)
  alone_take more D z c m i few o =
      let a = read_number shape more D m z c is i few in omega (arith, a, o)

  -- and a new tree is made.
  pub alone_drain : (k more D m : ℕ) → more ≤ shape.block * D → D + m ≤ 63 + levels_of shape k
      → shape.block * m + more ≤ toll_of shape k
  alone_drain k more D m o h =
      let a = toll_low shape k in
      let b = ends_number more D shape.block m (63 + levels_of shape k) o h in
      omega (arith, a, b)

  -- A refused call may owe for what is there.
  pub alone_refused : (k more D n : ℕ) (t : Sums) → more ≤ 18 * n + shape.block * D
      → n ≤ t.waiting + t.stored → D ≤ 63 + levels_of shape k
      → more ≤ 18 * (t.waiting + t.stored) + toll_of shape k
  alone_refused k more D n t o few h =
      let B = shape.block in
      let a = toll_low shape k in
      let b : B * D ≤ B * (63 + levels_of shape k) = mul-le-mul_left B h in
      omega (arith, o, few, a, b)
