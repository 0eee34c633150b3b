-- What each event pays for: its moves, and what was owed before, are within its fee and what is
-- owed afterwards.
use Rattle.std.proofs.Common.{◌≡◌, ℕ, ◌+◌, ◌-◌, ◌*◌, ◌≤◌, arith, ◌⊎◌, ⊎_elim}
use Rattle.std.proofs.Math.Nat.{mul-le-mul_right, mul-le-mul_left, mul-le-mul}
use Rattle.em_tree_cost.specs.Counters.{Counters, Sums, fresh_sums, no_counters, parts_since}
use Rattle.em_tree_cost.specs.Effects.{SameRoot, after_draining, after_loading, after_lowering, after_owning, after_pushing, after_removing, after_settling, after_splitting, after_taking}
use Rattle.em_tree_cost.specs.Fees.{Covers, fee, toll}
use Rattle.em_tree_cost.specs.Fusing.{split_fee}

-- The fees don't fall if the levels rise.
fee_rises : (w B L M : ℕ) (cs : Counters) → L ≤ M → fee w B L cs ≤ fee w B M cs
fee_rises w B L M cs h =
    let leaf = 2 * w * B * cs.splits in
    let visits = w * B * (cs.visits_before + cs.removed_since) in
    let a : (7 * L + 12) * leaf ≤ (7 * M + 12) * leaf = mul-le-mul_right leaf (omega arith) in
    let b : (20 * L + 31) * visits ≤ (20 * M + 31) * visits =
    mul-le-mul_right visits (omega arith) in
    let c : (40 * L + 64) * cs.left ≤ (40 * M + 64) * cs.left =
    mul-le-mul_right cs.left (omega arith) in
    omega (arith, a, b, c)

-- The tolls don't fall if their unit and the blocks of k rise.
toll_rises : (c d q r : ℕ) (cs : Counters) → c ≤ d → q ≤ r → toll c q cs ≤ toll d r cs
toll_rises c d q r cs h k =
    let y : cs.y * (q + 1) ≤ cs.y * (r + 1) = mul-le-mul_left cs.y (omega arith) in
    mul-le-mul {n₁ = c} {m₁ = cs.z + cs.y * (q + 1)} {n₂ = d} {m₂ = cs.z + cs.y * (r + 1)} h
    (omega (arith, y))

-- more levels, and a greater k
pub covers_levels : {w B L c q spent more : ℕ} {cs : Counters} {t : Sums} (M d r : ℕ)
    → L ≤ M → c ≤ d → q ≤ r → Covers w B L c q spent more cs t → Covers w B M d r spent more cs t
covers_levels {w = w} {B = B} {L = L} {c = c} {q = q} {cs = cs} M d r h k j p =
    let f = fee_rises w B L M cs h in let g = toll_rises c d q r cs k j in
    record { covered = omega (arith, p.covered, f, g) }

-- a new tree, which made at most 4 moves
pub covers_new : (w B L c q m : ℕ) → m ≤ 4 → Covers w B L c q m 0 no_counters fresh_sums
covers_new w B L c q m h =
    let k : B * m ≤ B * 4 = mul-le-mul_left B h in
    record { covered = omega (arith, k) }

module _ {w B L c q spent more : ℕ} {cs : Counters} {t : Sums}
    (p : Covers w B L c q spent more cs t) where
  -- fewer moves, or more that are owed
  pub covers_less : (low next : ℕ) → low ≤ spent → more ≤ next → Covers w B L c q low next cs t
  covers_less low next h o =
      let k : B * low ≤ B * spent = mul-le-mul_left B h in
      record { covered = omega (arith, p.covered, k, o) }

  -- a push that was counted and refused
  pub covers_counted : Covers w B L c q spent more (after_pushing cs) t
  covers_counted = record { covered = omega (arith, p.covered) }

module _ {w B L c q spent more : ℕ} {cs : Counters} {t : Sums} (m next : ℕ) (u : Sums)
    (p : Covers w B L c q spent more cs t) where
  -- moves that are owed
  pub covers_debt : SameRoot t u → B * m + more ≤ next → Covers w B L c q (spent + m) next cs u
  covers_debt s h = record { covered = rw (s.root, s.blocks) (omega (arith, p.covered, h)) }

  -- operations went a level down
  pub covers_lowering : (x : ℕ) → SameRoot t u → B * m + more ≤ 19 * x + next
      → Covers w B L c q (spent + m) next (after_lowering x cs) u
  covers_lowering x s h = record { covered = rw (s.root, s.blocks) (omega (arith, p.covered, h)) }

  -- operations were loaded into a leaf
  pub covers_loading : (x : ℕ) → SameRoot t u → B * m + more ≤ 36 * x + next
      → Covers w B L c q (spent + m) next (after_loading x cs) u
  covers_loading x s h = record { covered = rw (s.root, s.blocks) (omega (arith, p.covered, h)) }

  -- a leaf was split
  pub covers_splitting : SameRoot t u → B * m + more ≤ B * (2 * w * (7 * L + 12)) + next
      → Covers w B L c q (spent + m) next (after_splitting cs) u
  covers_splitting s h = record { covered = rw (s.root, s.blocks) (omega (arith, p.covered, h)) }

  -- records were handed out
  pub covers_taking : (g h : ℕ) → SameRoot t u
      → B * m + more ≤ 18 * g + (40 * L + 64) * h + next
      → Covers w B L c q (spent + m) next (after_taking g h cs) u
  covers_taking g h s o = record { covered = rw (s.root, s.blocks) (omega (arith, p.covered, o)) }

  -- a leaf was taken away
  pub covers_removing : SameRoot t u → B * m + more ≤ B * (w * (20 * L + 31)) + next
      → Covers w B L c q (spent + m) next (after_removing cs) u
  covers_removing s h = record { covered = rw (s.root, s.blocks) (omega (arith, p.covered, h)) }

  -- `settle_all` or `finish` was called
  pub covers_settling : SameRoot t u → B * m + more ≤ c * (q + 1) + next
      → Covers w B L c q (spent + m) next (after_settling cs) u
  covers_settling s h = record { covered = rw (s.root, s.blocks) (omega (arith, p.covered, h)) }

  -- The last leaf was handed out: its visit is paid for if the tree had two leaves since its reset.
  pub covers_draining : u.root ≡ 0 → t.root ≡ 0 → t.blocks ≡ 0 → cs.removed_since ≤ parts_since cs
      → (B * m + more ≤ c + next)
      ⊎ (cs.removed_since + 1 ≤ parts_since cs) × (B * m + more ≤ c + B * (w * (20 * L + 31)) + next)
      → Covers w B L c q (spent + m) next (after_draining cs) u
  covers_draining r x b le h =
      let before = cs.visits_before + cs.removed_since in
      let after = cs.visits_before + parts_since cs + 0 in
      let zero_blocks : B * (2 * t.blocks) ≡ 0 = rw b (omega arith) in ⊎_elim
      (λ (n : B * m + more ≤ c + next).
      let k : w * B * before ≤ w * B * after = mul-le-mul_left (w * B) (omega (arith, le)) in
      let f : (20 * L + 31) * (w * B * before) ≤ (20 * L + 31) * (w * B * after) = mul-le-mul_left (20 * L + 31) k in
      record { covered = rw r (omega (arith, p.covered, x, zero_blocks, f, n)) })
      (λ (n : (cs.removed_since + 1 ≤ parts_since cs) × (B * m + more ≤ c + B * (w * (20 * L + 31)) + next)).
      let e : before + 1 ≤ after = omega (arith, n.0) in
      let k : w * B * (before + 1) ≤ w * B * after = mul-le-mul_left (w * B) e in
      let f : (20 * L + 31) * (w * B * (before + 1)) ≤ (20 * L + 31) * (w * B * after) =
      mul-le-mul_left (20 * L + 31) k in
      record { covered = rw r (omega (arith, p.covered, x, zero_blocks, f, n.1)) })
      h

-- The splits since the reset were those of a settling, which owes their fees.
pub covers_owning : {w B L c q spent more : ℕ} {cs : Counters} {t : Sums} → Covers w B L c q spent more cs t
    → cs.splits_since ≤ cs.splits
    → Covers w B L c q spent (more + B * (cs.splits_since * split_fee w L)) (after_owning cs) t
covers_owning {w} {B} {L} {cs = cs} p h =
    let rest = cs.splits - cs.splits_since in
    let e : rest + cs.splits_since ≡ cs.splits = omega (arith, h) in
    let f : (7 * L + 12) * (2 * w * B * (rest + cs.splits_since))
    ≡ (7 * L + 12) * (2 * w * B * rest) + B * (cs.splits_since * (2 * w * (7 * L + 12))) = grind arith in
    let g : (7 * L + 12) * (2 * w * B * cs.splits)
    ≡ (7 * L + 12) * (2 * w * B * rest) + B * (cs.splits_since * (2 * w * (7 * L + 12))) = rw e at f in
    record { covered = omega (arith, p.covered, g) }

module _ {w B L c q spent more : ℕ} {cs : Counters} {t : Sums} (m : ℕ) (u : Sums)
    (p : Covers w B L c q spent more cs t) where
  -- An operation at the end of the root's buffer: two moves if a block begins.
  pub covers_pushing : u.root ≡ t.root + 1 → m + 2 * t.blocks ≤ 2 * u.blocks
      → Covers w B L c q (spent + m) more (after_pushing cs) u
  covers_pushing r b =
      let k : B * (m + 2 * t.blocks) ≤ B * (2 * u.blocks) = mul-le-mul_left B b in
      record { covered = rw r (omega (arith, p.covered, k)) }
