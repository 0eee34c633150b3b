-- The sizes of leaves and nodes that are cut bottom up, and that there are such cuts.
use Rattle.std.proofs.Common.{◌≡◌, ℕ, zero, suc, ◌+◌, ◌-◌, ◌*◌, ◌/◌, ◌%◌, ◌≤◌, arith, ◌⊎◌, inl, inr, List, [], ◌∷◌, length}
use Rattle.std.proofs.Math.Nat.{mul-le-mul_left}
use Rattle.std.proofs.lemmas.Bool.{cases_lt, cond-true, cond-false, lt-ltb, le-ltb}
use Rattle.em_bulk_plan.specs.Plan.{AllWithin, Cuts, LeafSizes, builder_plan, cut_size, leaf_plan, node_plan, nodes_within, sum_of}
use Rattle.em_bulk_plan.specs.Plan.Cuts.{last, next}
use Rattle.em_bulk_plan.specs.Plan.LeafSizes.{alone, apart, together, whole}

-- All children are in the nodes. From f children on each node has from f to 2 · f - 1; and so many nodes there are.
pub cuts_sum : (f n : ℕ) (ns : List ℕ) → Cuts f n ns → sum_of ns ≡ n
cuts_sum f n ns (last h) = omega arith
cuts_sum f n ns (next a b c e t) = let i = cuts_sum f _ _ t in omega arith

pub cuts_within : (f n : ℕ) (ns : List ℕ) → Cuts f n ns → f ≤ n → AllWithin f (2 * f - 1) ns
cuts_within f n ns (last h) some = (some, omega arith, tt)
cuts_within f n ns (next a b c e t) some = (a, omega arith, cuts_within f _ _ t c)

pub cuts_size : (f n : ℕ) (ns : List ℕ) → Cuts f n ns → f ≤ n → (1 ≤ length ns) × (length ns * f ≤ n)
cuts_size f n ns (last h) some = (omega arith, omega arith)
cuts_size f n ns (next a b c e t) some = let i = cuts_size f _ _ t c in (omega arith, omega arith)

-- All records are in the leaves, one for each lot and one more at most.
pub leaves_sum : (size c r : ℕ) (ns : List ℕ) → LeafSizes size c r ns → sum_of ns ≡ 2 * size * c + r
leaves_sum size c r ns (alone h) = omega arith
leaves_sum size c r ns (apart h i) = omega arith
leaves_sum size c r ns (together h) = omega arith
leaves_sum size c r ns (whole l) = let i = leaves_sum size _ _ _ l in omega arith

pub leaves_count : (size c r : ℕ) (ns : List ℕ) → LeafSizes size c r ns → (length ns ≤ c + 1) × (1 ≤ length ns)
leaves_count size c r ns (alone h) = (omega arith, omega arith)
leaves_count size c r ns (apart h i) = (omega arith, omega arith)
leaves_count size c r ns (together h) = (omega arith, omega arith)
leaves_count size c r ns (whole l) = let i = leaves_count size _ _ _ l in (omega arith, omega arith)

-- Each leaf has from `size` to 4 · size records, but a leaf alone, which may have fewer.
many_within : (size c r : ℕ) (ns : List ℕ) → LeafSizes size (suc c) r ns → AllWithin size (4 * size) ns
many_within size c r ns (apart h i) = (omega arith, omega arith, (h, omega arith, tt))
many_within size c r ns (together h) = (omega arith, omega arith, tt)
many_within size c r ns (whole l) = (omega arith, omega arith, many_within size _ _ _ l)

pub leaves_within : (size c r : ℕ) (ns : List ℕ) → LeafSizes size c r ns
    → AllWithin size (4 * size) ns ⊎ (length ns ≡ 1) × (sum_of ns ≤ 4 * size)
leaves_within size zero r ns (alone h) = inr (omega arith, omega arith)
leaves_within size (suc c) r ns l = inl (many_within size c r ns l)

-- The plan of the leaves is one,
pub leaf_plan_is : (size c r : ℕ) → r ≤ 2 * size → LeafSizes size c r (leaf_plan size c r)
leaf_plan_is size zero r h = alone h
leaf_plan_is size (suc zero) r h = elim (cases_lt r size) [
  | inl low ↦
      let e = cond-true _ ((2 * size + r) ∷ []) ((2 * size) ∷ (r ∷ [])) (lt-ltb r size low) in
      rw e (together {r = r} (omega arith))
  | inr high ↦
      let e = cond-false _ ((2 * size + r) ∷ []) ((2 * size) ∷ (r ∷ [])) (le-ltb r size high) in
      rw e (apart {r = r} high h)
]
leaf_plan_is size (suc (suc c)) r h = whole (leaf_plan_is size (suc c) r h)

pub builder_plan_is : (size p : ℕ) → 1 ≤ size
    → LeafSizes size (p / (2 * size)) (p % (2 * size)) (builder_plan size p) × (sum_of (builder_plan size p) ≡ p)
builder_plan_is size p one =
    let l = leaf_plan_is size (p / (2 * size)) (p % (2 * size)) (omega arith) in
    let s = leaves_sum size (p / (2 * size)) (p % (2 * size)) (builder_plan size p) l in
    (l, omega arith)

-- and that of the nodes.
cuts_next : (f n m : ℕ) (ns : List ℕ) → f ≤ m → m + 1 ≤ 2 * f → f + m ≤ n → Cuts f (n - m) ns → Cuts f n (m ∷ ns)
cuts_next f n m ns a b c t = next {r = n - m} a b (omega arith) (omega arith) t

nodes_cut : (most f n : ℕ) → 1 ≤ f → n ≤ most * f → Cuts f n (nodes_within most f n)
nodes_cut zero f n one h = last (omega arith)
nodes_cut (suc most) f n one h = elim (cases_lt n (2 * f)) [
  | inl few ↦
      let e = cond-true _ (n ∷ []) (cut_size f n ∷ nodes_within most f (n - cut_size f n))
      (lt-ltb n (2 * f) few) in
      rw e (last {n = n} (omega arith))
  | inr many ↦
      let e = cond-false _ (n ∷ []) (cut_size f n ∷ nodes_within most f (n - cut_size f n))
      (le-ltb n (2 * f) many) in
      rw e (cuts_next f n (cut_size f n) (nodes_within most f (n - cut_size f n)) (omega arith)
      (omega arith) (omega arith) (nodes_cut most f (n - cut_size f n) one (omega arith)))
]

pub node_plan_is : (f n : ℕ) → 1 ≤ f → Cuts f n (node_plan f n)
node_plan_is f n one = nodes_cut n f n one (let m : n * 1 ≤ n * f = mul-le-mul_left n one in omega arith)
