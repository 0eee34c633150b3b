-- The sum of all fees is the share of a tree: from the first `take_first` on with the adopted records, and before it without.
use Rattle.std.proofs.Common.{◌≡◌, ℕ, ◌+◌, ◌*◌, ◌≤◌, arith, inl, inr, ⊎_elim}
use Rattle.std.proofs.Math.Nat.{mul-le-mul_right, mul-le-mul_left, le_of_mul-le-mul_left}
use Rattle.std.proofs.lemmas.Bool.{cases_lt}
use Rattle.em_record.specs.Cost.{blocks_of, lev}
use Rattle.em_record.specs.Shape.{ShapeNumbers, IsShape, wide_of, payload_of}
use Rattle.em_tree_cost.specs.Counters.{Counters, CountersFit, Sums, Untaken, parts_of, parts_since}
use Rattle.em_tree_cost.specs.Fees.{Covers, OpenVisit, fee}
use Rattle.em_tree_cost.specs.Paid.{CoversShape, FitsShape, toll_of}
use Rattle.em_tree_cost.specs.Shares.{floors_of, levels_of, tree_share}
use Rattle.em_tree_cost.specs.Sizes.{IsCeil}
use Rattle.em_tree_cost.proofs.Ceilings.{blocks_ceil}
use Rattle.em_tree_cost.proofs.Charges.{append_charge}
use Rattle.em_tree_cost.proofs.Levels.{lev_some, size_is}

module _ {w B L : ℕ} {cs : Counters} {t : Sums} (a : CountersFit w B L cs t) where
  -- what was taken away is within the parts,
  visits_few : cs.visits_before + cs.removed_since ≤ parts_of cs
  visits_few = omega (arith, a.sums.visits_most, a.sums.leaves_are, a.sums.leaves_some)

  -- and what may yet be
  visits_next : 2 ≤ parts_since cs → cs.visits_before + cs.removed_since + 1 ≤ parts_of cs
  visits_next two = omega (arith, a.sums.visits_most, a.sums.leaves_are, a.sums.leaves_some, two)

  -- All fees, with 18 for each record that is there, and an open visit.
  fees : (u : ℕ) → OpenVisit w B L u cs
      → fee w B L cs + 18 * (t.waiting + t.stored) + u ≤ (cs.n + cs.adopted) * (86 * L + 173)
  fees u un =
      let N = cs.n + cs.adopted in
      let Z = parts_of cs in
      let parts : w * B * Z ≤ N = omega (arith, a.sums.parts_most) in
      let s : (7 * L + 12) * (2 * w * B * cs.splits) ≤ (7 * L + 12) * N =
      mul-le-mul_left (7 * L + 12) (omega (arith, a.sums.parts_most)) in
      let h : (40 * L + 64) * cs.left ≤ (40 * L + 64) * N =
      mul-le-mul_left (40 * L + 64) (omega (arith, a.sums.left_most, a.sums.all_pushed)) in
      let low : cs.n * L ≤ N * L = mul-le-mul_right L (omega arith) in
      let ended : (u ≡ 0) → fee w B L cs + 18 * (t.waiting + t.stored) + u ≤ N * (86 * L + 173) =
      λ (e : u ≡ 0).
      let f : w * B * (cs.visits_before + cs.removed_since) ≤ w * B * Z = mul-le-mul_left (w * B) visits_few in
      let v : (20 * L + 31) * (w * B * (cs.visits_before + cs.removed_since)) ≤ (20 * L + 31) * N =
      mul-le-mul_left (20 * L + 31) (omega (arith, parts, f)) in
      omega (arith, s, v, h, low, a.sums.lowered_most, a.sums.loaded_most, a.sums.all_pushed, e) in
      ⊎_elim ended (λ (q : u ≤ (20 * L + 31) * (w * B) + 18 * (w * B)). ⊎_elim ended
      (λ (two : 2 ≤ parts_since cs).
      let f : w * B * (cs.visits_before + cs.removed_since + 1) ≤ w * B * Z = mul-le-mul_left (w * B) (visits_next two) in
      let v : (20 * L + 31) * (w * B * (cs.visits_before + cs.removed_since + 1)) ≤ (20 * L + 31) * N =
      mul-le-mul_left (20 * L + 31) (omega (arith, parts, f)) in
      let g : w * B * 2 ≤ w * B * Z = mul-le-mul_left (w * B) (omega (arith, two, a.sums.visits_most)) in
      omega (arith, s, v, h, g, q, low, parts, a.sums.lowered_most, a.sums.loaded_most, a.sums.all_pushed))
      un.some)
      un.most

-- If k is a block or less, there is one leaf, and each call took all.
fees_low : (w B u : ℕ) (cs : Counters) (t : Sums) → 8 ≤ w → 1 ≤ B → CountersFit w B 1 cs t
    → OpenVisit w B 1 u cs → cs.k ≤ B → fee w B 1 cs + 18 * (t.waiting + t.stored) + u ≤ (cs.n + cs.adopted) * 76
fees_low w B u cs t wide some a un low =
    let m : 8 * B ≤ w * B = mul-le-mul_right B wide in
    let all : parts_of cs ≡ 0 = ⊎_elim (λ (e : parts_of cs ≡ 0). e)
    (λ (h : 2 * w * B ≤ cs.k). absurd (omega (arith, h, m, low))) a.needs.parts_need in
    let s : cs.splits ≡ 0 = omega (arith, all) in
    let f : cs.left ≡ 0 = ⊎_elim (λ (e : cs.left ≡ 0). e)
    (λ (h : w * B ≤ 2 * cs.k). absurd (omega (arith, h, m, low))) a.needs.left_need in
    let few = visits_few a in
    let r : cs.visits_before + cs.removed_since ≡ 0 = omega (arith, few, all) in
    let e : u ≡ 0 = ⊎_elim (λ (e : u ≡ 0). e)
    (λ (h : 2 ≤ parts_since cs). absurd (omega (arith, h, a.sums.visits_most, all))) un.some in
    let g : fee w B 1 cs ≡ 3 * cs.n + 19 * cs.lowered + 36 * cs.loaded + 18 * cs.taken = rw (s, r, f) (omega arith) in
    omega (arith, g, e, a.sums.lowered_most, a.sums.loaded_most, a.sums.all_pushed)

-- Before the first call of `take_first`: the fees, with 18 for each operation that waits, by the pushed operations alone.
untaken_fees : (w B L : ℕ) (cs : Counters) (t : Sums) → CountersFit w B L cs t
    → Untaken w B cs t → fee w B L cs + 18 * t.waiting ≤ cs.n * (33 * L + 63)
untaken_fees w B L cs t a still =
    let s : (14 * L + 24) * (w * B * cs.splits) ≤ (14 * L + 24) * cs.n =
    mul-le-mul_left (14 * L + 24) (omega (arith, still.paid)) in
    let g : fee w B L cs ≡ 3 * cs.n + 19 * cs.lowered + 36 * cs.loaded + (14 * L + 24) * (w * B * cs.splits) =
    rw (still.visits, still.left, still.taken) (omega arith) in
    omega (arith, g, s, a.sums.lowered_most, a.sums.loaded_most)

-- The share of a tree, times B: q and p are the blocks of n and of k.
total : (w B L f q p spent more : ℕ) (cs : Counters) (t : Sums) → 1 ≤ B
    → Covers w B L (64 * f * B) p spent (more + 64 * f * B) cs t → B * (2 * t.blocks) ≤ 3 * t.root + 2 * B
    → fee w B L cs + more ≤ 160 * f * (q * B) → 1 ≤ f → spent ≤ (160 * (q + 1) + 64 * cs.z + 64 * cs.y * (p + 1)) * f
total w B L f q p spent more cs t some c b g one =
    let h : B * 1 ≤ B * f = mul-le-mul_left B one in
    let k : B * spent ≤ B * ((160 * (q + 1) + 64 * cs.z + 64 * cs.y * (p + 1)) * f) = omega (arith, c.covered, b, g, h) in
    le_of_mul-le-mul_left k some

module _ {shape : ShapeNumbers} {spent : ℕ} {cs : Counters} {t : Sums} where
  -- At every exit, refused or not: a tree whose counters fit and whose moves are covered is within the share of its operations
  -- and adopted records.
  pub tree_within : (u : ℕ) → IsShape shape → FitsShape shape cs t
      → OpenVisit (wide_of shape) shape.block (levels_of shape cs.k) u cs → IsCeil t.blocks (payload_of shape) t.root
      → CoversShape shape spent (18 * (t.waiting + t.stored) + u + toll_of shape cs.k) cs t
      → spent ≤ tree_share shape (cs.n + cs.adopted) cs.k cs.z cs.y
  tree_within u is a visit c p =
      let w = wide_of shape in let B = shape.block in let L = levels_of shape cs.k in
      let floors = floors_of shape cs.k in let N = cs.n + cs.adopted in
      let q = blocks_of shape N in let b = blocks_of shape cs.k in
      let size = size_is shape is in
      let root = append_charge w B (payload_of shape) t.blocks t.root size c in
      let n = blocks_ceil shape N is in
      let some : 1 ≤ B = omega (arith, is.block_low) in
      let by_fees : fee w B L cs + (18 * (t.waiting + t.stored) + u) ≤ 160 * floors * (q * B)
      → spent ≤ tree_share shape N cs.k cs.z cs.y =
      λ (g : fee w B L cs + (18 * (t.waiting + t.stored) + u) ≤ 160 * floors * (q * B)).
      total w B L floors q b spent (18 * (t.waiting + t.stored) + u) cs t some p root g (omega arith) in
      let h : N * (160 * floors) ≤ q * B * (160 * floors) = mul-le-mul_right (160 * floors) n.holds in
      elim (cases_lt 0 (lev shape b)) [
        | inl more ↦
            let e : L ≡ lev shape b = omega arith in
            let f = fees a u visit in
            let g : N * (86 * L + 173) ≤ N * (160 * floors) = mul-le-mul_left N (omega arith) in
            by_fees (omega (arith, f, g, h))
        | inr none ↦
            let e : L ≡ 1 = omega arith in
            let low : cs.k ≤ B =
            let k = blocks_ceil shape cs.k is in
            elim (cases_lt 1 b) [
              | inl big ↦ let x = lev_some shape b is big in absurd (omega arith)
              | inr few ↦ let m : b * B ≤ 1 * B = mul-le-mul_right B few in omega (arith, m, k.holds)
            ] in
            let a1 = rw e at a in
            let visit1 = rw e at visit in
            let f = fees_low w B u cs t size.wide some a1 visit1 low in
            let k : N * 160 ≤ N * (160 * floors) = mul-le-mul_left N (omega arith) in
            by_fees (rw e (omega (arith, f, h, k)))
      ]

  -- Before the first `take_first`, at every exit, refused or not: the share has n alone. A refused call owes no more than 18
  -- for each operation that waits, and a reset's toll.
  pub untaken_within : IsShape shape → FitsShape shape cs t
      → Untaken (wide_of shape) shape.block cs t → IsCeil t.blocks (payload_of shape) t.root
      → CoversShape shape spent (18 * t.waiting + toll_of shape cs.k) cs t → spent ≤ tree_share shape cs.n cs.k cs.z cs.y
  untaken_within is a still c p =
      let w = wide_of shape in let B = shape.block in let L = levels_of shape cs.k in
      let floors = floors_of shape cs.k in
      let q = blocks_of shape cs.n in
      let root = append_charge w B (payload_of shape) t.blocks t.root (size_is shape is) c in
      let n = blocks_ceil shape cs.n is in
      let h : cs.n * (160 * floors) ≤ q * B * (160 * floors) = mul-le-mul_right (160 * floors) n.holds in
      let f = untaken_fees w B L cs t a still in
      let g : cs.n * (33 * L + 63) ≤ cs.n * (160 * floors) = mul-le-mul_left cs.n (omega arith) in
      total w B L floors q (blocks_of shape cs.k) spent (18 * t.waiting) cs t (omega (arith, is.block_low)) p root
      (omega (arith, f, g, h)) (omega arith)
