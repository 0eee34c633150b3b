-- Fusing keeps what ties counters and sums, and its moves are within the toll of `settle_all`.
use Rattle.std.proofs.Common.{◌≡◌, ℕ, zero, suc, ◌+◌, ◌-◌, ◌*◌, ◌^◌, ◌≤◌, refl, arith, ◌⊎◌, inl, inr, ⊎_elim}
use Rattle.std.proofs.Math.Nat.{mul-le-mul_right, mul-le-mul_left, mul-le-mul, pow-suc, pow-zero}
use Rattle.std.proofs.lemmas.Bool.{cases_lt}
use Rattle.em_record.specs.Cost.{blocks_of, lev}
use Rattle.em_record.specs.Shape.{ShapeNumbers, IsShape, fan_of, wide_of}
use Rattle.em_tree_cost.specs.Books.{KeepsBooks, TreeCounts, count_moves}
use Rattle.em_tree_cost.specs.Counters.{Counters, CountersFit, Sums, parts_of, parts_since}
use Rattle.em_tree_cost.specs.Effects.{SameRoot, StillTaken}
use Rattle.em_tree_cost.specs.Fat.{AllFat, IsFat}
use Rattle.em_tree_cost.specs.Fees.{Covers}
use Rattle.em_tree_cost.specs.Fusing.{LeavesFrom, SumsFuse, SumsShare, Undoes, Undone, fusing_debt, split_fee, synced_share, with_level, without_leaf, without_settled, without_split}
use Rattle.em_tree_cost.specs.Fusing.Undoes.{of_adoption, of_operations, of_settling}
use Rattle.em_tree_cost.specs.Outline.{IsFilled, IsLevel, Outline, count_of, stored_of}
use Rattle.em_tree_cost.specs.Outline.Outline.{leaf, end, entry}
use Rattle.em_tree_cost.specs.Paid.{FitsShape, PaidFor, settle_rest}
use Rattle.em_tree_cost.specs.Parts.{settle_debt}
use Rattle.em_tree_cost.specs.Shares.{floors_of, levels_of, tree_share}
use Rattle.em_tree_cost.proofs.Fees.{covers_debt}
use Rattle.em_tree_cost.proofs.Fitting.{fits_level, fits_sharing, root_flat, still_taken}
use Rattle.em_tree_cost.proofs.Heights.{parts_wide}
use Rattle.em_tree_cost.proofs.Levels.{fan_wide, lev_few, root_height, size_is}
use Rattle.em_record.proofs.Blocks.{blocks_rise}
use Rattle.em_record.proofs.Levels.{lev_rises}
use Rattle.em_tree_cost.proofs.Settling.{one_leaf, some_block}

-- what is taken off a factor
taken_off : (c x y i : ℕ) → x ≡ y + i → c * x ≡ c * y + c * i
taken_off c x y i e = rw e (omega arith)

module _ {w B L : ℕ} {cs : Counters} {t : Sums} (u : Sums) (a : CountersFit w B L cs t) (m : SumsFuse w B t u) where
  -- What a fused leaf undoes: a split of a settling, with two parts; one of operations, with two; a leaf that came with the tree,
  -- with one.
  undone_settled : 1 ≤ cs.settled_since → CountersFit w B L (without_settled cs) u
  undone_settled one =
      let ds = without_settled cs in
      let x = taken_off (w * B) (parts_of cs) (parts_of ds) 2 (omega (arith, one, a.sums.settled_most)) in
      let y = taken_off (w * B) (parts_since cs) (parts_since ds) 2 (omega (arith, one)) in
      record {
        sums = omega (arith, a.sums, m, one, x, y);
        needs = grind arith;
        root = root_flat w B cs.k (parts_since ds) u.level m.flat;
      }

  undone_split : 1 ≤ cs.splits_since → CountersFit w B L (without_split cs) u
  undone_split one =
      let ds = without_split cs in
      let x = taken_off (w * B) (parts_of cs) (parts_of ds) 2 (omega (arith, one, a.sums.splits_most)) in
      let y = taken_off (w * B) (parts_since cs) (parts_since ds) 2 (omega (arith, one)) in
      record {
        sums = omega (arith, a.sums, m, one, x, y);
        needs = grind arith;
        root = root_flat w B cs.k (parts_since ds) u.level m.flat;
      }

  undone_leaf : 2 ≤ cs.brought → CountersFit w B L (without_leaf cs) u
  undone_leaf two =
      let ds = without_leaf cs in
      let x = taken_off (w * B) (parts_of cs) (parts_of ds) 1 (omega (arith, two, a.sums.brought_most)) in
      let y = taken_off (w * B) (parts_since cs) (parts_since ds) 1 (omega (arith, two)) in
      record {
        sums = omega (arith, a.sums, m, two, x, y);
        needs = grind arith;
        root = root_flat w B cs.k (parts_since ds) u.level m.flat;
      }

  -- whichever it is
  fits_fusing : {ds : Counters} → Undoes cs ds → CountersFit w B L ds u
  fits_fusing (of_settling one) = undone_settled one
  fits_fusing (of_operations one) = undone_split one
  fits_fusing (of_adoption two) = undone_leaf two

  -- and one of them it is
  undone_some : Undone cs
  undone_some = elim (cases_lt 0 cs.settled_since) [
    | inl one ↦ record { counters = without_settled cs; undoes = of_settling one }
    | inr none ↦ elim (cases_lt 1 cs.brought) [
      | inl two ↦ record { counters = without_leaf cs; undoes = of_adoption two }
      | inr few ↦ record {
        counters = without_split cs;
        undoes = of_operations (omega (arith, none, few, a.sums.leaves_are, m));
      }
    ]
  ]

-- The moves of a fused leaf are owed, and the fee of a split.
covers_fusing : {w B L c q spent more : ℕ} {cs : Counters} {t : Sums} (m next : ℕ) (u : Sums)
    → Covers w B L c q spent more cs t → 1 ≤ cs.splits → SameRoot t u
    → B * m + more + B * split_fee w L ≤ next → Covers w B L c q (spent + m) next (without_split cs) u
covers_fusing {w} {B} {L} {c} {q} {spent} {more} {cs} {t} m next u p one s h =
    let e : cs.splits - 1 + 1 ≡ cs.splits = omega (arith, one) in
    let f : (7 * L + 12) * (2 * w * B * (cs.splits - 1 + 1))
    ≡ (7 * L + 12) * (2 * w * B * (cs.splits - 1)) + B * (2 * w * (7 * L + 12)) = grind arith in
    let g : (7 * L + 12) * (2 * w * B * cs.splits)
    ≡ (7 * L + 12) * (2 * w * B * (cs.splits - 1)) + B * (2 * w * (7 * L + 12)) = rw e at f in
    record { covered = rw (s.root, s.blocks) (omega (arith, p.covered, h, g)) }

module _ {shape : ShapeNumbers} {spent more : ℕ} {cs : Counters} {t : Sums} (m : ℕ) (u : Sums)
    (a : PaidFor shape spent more cs t) where
  paid_fusing : {ds : Counters} (next : ℕ) → Undoes cs ds → SumsFuse (wide_of shape) shape.block t u → SameRoot t u
      → shape.block * m + more + shape.block * split_fee (wide_of shape) (levels_of shape cs.k) ≤ next
      → PaidFor shape (spent + m) next ds u
  paid_fusing next (of_settling one) c r h = record {
    fits = fits_fusing u a.fits c (of_settling one);
    covers = record { covered = (covers_debt m next u a.covers r (omega (arith, h))).covered };
    root = rw (r.root, r.blocks) a.root;
  }
  paid_fusing next (of_operations one) c r h = record {
    fits = fits_fusing u a.fits c (of_operations one);
    covers = covers_fusing m next u a.covers (omega (arith, one, a.fits.sums.splits_most)) r h;
    root = rw (r.root, r.blocks) a.root;
  }
  paid_fusing next (of_adoption two) c r h = record {
    fits = fits_fusing u a.fits c (of_adoption two);
    covers = record { covered = (covers_debt m next u a.covers r (omega (arith, h))).covered };
    root = rw (r.root, r.blocks) a.root;
  }

  paid_sharing : (next : ℕ) → SumsShare t u → SameRoot t u → shape.block * m + more ≤ next
      → PaidFor shape (spent + m) next cs u
  paid_sharing next c r h = record {
    fits = fits_sharing u a.fits c;
    covers = covers_debt m next u a.covers r h;
    root = rw (r.root, r.blocks) a.root;
  }

-- What a fused leaf undoes leaves what code carries, and what was handed out.
undone_same : {cs ds : Counters} → cs.splits_since ≤ cs.splits → Undoes cs ds → (ds.n ≡ cs.n) × (ds.k ≡ cs.k) × (ds.since ≡ cs.since) × (ds.z ≡ cs.z)
    × (ds.y ≡ cs.y) × (ds.adopted ≡ cs.adopted) × StillTaken cs ds
undone_same few (of_settling one) = (refl, refl, refl, refl, refl, refl, omega arith)
undone_same few (of_operations one) = (refl, refl, refl, refl, refl, refl, omega (arith, one, few))
undone_same few (of_adoption two) = (refl, refl, refl, refl, refl, refl, omega arith)

module _ {shape : ShapeNumbers} {c : TreeCounts} {more : ℕ} {t : Sums} (b : KeepsBooks shape c more t) where
  -- A leaf was fused into another one, by m moves.
  pub books_fusing : (m next : ℕ) (u : Sums) → SumsFuse (wide_of shape) shape.block t u → SameRoot t u
      → shape.block * m + more + shape.block * split_fee (wide_of shape) (levels_of shape c.k) ≤ next
      → (e : KeepsBooks shape (count_moves m c) next u) × StillTaken b.counters e.counters
  books_fusing m next u s r h =
      let v = undone_some u b.paid.fits s in
      let same = undone_same b.paid.fits.sums.splits_most v.undoes in (
        record {
          counters = v.counters;
          n = omega (arith, same.0, b.n);
          k = omega (arith, same.1, b.k);
          since = omega (arith, same.2, b.since);
          z = omega (arith, same.3, b.z);
          y = omega (arith, same.4, b.y);
          adopted = omega (arith, same.5, b.adopted);
          few = b.few;
          few_adopted = b.few_adopted;
          paid = paid_fusing m u b.paid next v.undoes s r (rw (b.k) h);
        },
        same.6,
      )

  -- Leaves or nodes were looked at, or shared, or nodes were fused, by m moves.
  pub books_sharing : (m next : ℕ) (u : Sums) → SumsShare t u → SameRoot t u → shape.block * m + more ≤ next
      → (e : KeepsBooks shape (count_moves m c) next u) × StillTaken b.counters e.counters
  books_sharing m next u s r h = (
    record {
      counters = b.counters;
      n = b.n;
      k = b.k;
      since = b.since;
      z = b.z;
      y = b.y;
      adopted = b.adopted;
      few = b.few;
      few_adopted = b.few_adopted;
      paid = paid_sharing m u b.paid next s r h;
    },
    still_taken b.counters,
  )

  -- The level is looked at again.
  pub books_level : (level : ℕ)
      → (level ≡ 1) ⊎ (1 ≤ level) × (shape.block * (2 * wide_of shape) ^ level ≤ c.k) × (2 ≤ t.leaves)
      → (e : KeepsBooks shape c more (with_level level t)) × StillTaken b.counters e.counters
  books_level level h = (
    record {
      counters = b.counters;
      n = b.n;
      k = b.k;
      since = b.since;
      z = b.z;
      y = b.y;
      adopted = b.adopted;
      few = b.few;
      few_adopted = b.few_adopted;
      paid = record {
        fits = fits_level b.paid.fits level (rw (b.k) h);
        covers = record { covered = b.paid.covers.covered };
        root = b.paid.root;
      };
    },
    still_taken b.counters,
  )

-- The sum: l leaves, one and g, at v levels.
settled_sum : (w q v l g m : ℕ) → 8 ≤ w → 1 ≤ v → 2 ≤ q → l ≤ 1 + g → w * g ≤ q
    → m ≤ settle_debt v q l + (l * (33 * v + 3) + g * (w * (14 * v + 48)))
    → m ≤ q * (45 * v + 64) + 64 * (1 + v)
settled_sum w q v l g m wide one some most few h =
    let up : v * 2 ≤ v * q = mul-le-mul_left v some in
    let wide_up : 1 * q ≤ v * q = mul-le-mul_right q one in
    let f : (99 * v + 9) * l ≤ (99 * v + 9) * (1 + g) = mul-le-mul_left (99 * v + 9) most in
    let a : (14 * v + 48) * (w * g) ≤ (14 * v + 48) * q = mul-le-mul_left (14 * v + 48) few in
    let b : 8 * g ≤ w * g = mul-le-mul_right g wide in
    let d : (99 * v + 9) * (8 * g) ≤ (99 * v + 9) * q = mul-le-mul_left (99 * v + 9) (omega (arith, b, few)) in
    omega (arith, up, wide_up, f, a, d, h, some, one)

module _ {shape : ShapeNumbers} {cs : Counters} {t : Sums} (is : IsShape shape) (a : FitsShape shape cs t) where
  -- All that a settling may owe at its end, with fusing, is within what is left of its toll: t is before it fuses.
  pub fuse_settle_most : (m : ℕ)
      → (m ≤ 64) ⊎ (1 ≤ cs.k) × (m ≤ settle_debt (levels_of shape cs.k) (blocks_of shape cs.k) t.leaves
      + fusing_debt (wide_of shape) (levels_of shape cs.k) t.leaves)
      → m ≤ settle_rest shape cs.k
  fuse_settle_most m owed =
      let w = wide_of shape in let L = levels_of shape cs.k in let q = blocks_of shape cs.k in
      let size = size_is shape is in ⊎_elim
      (λ (few : m ≤ 64). omega (arith, few))
      (λ (n : (1 ≤ cs.k) × (m ≤ settle_debt L q t.leaves + fusing_debt w L t.leaves)).
      let one = some_block shape cs.k is n.0 in
      let wide = parts_wide is a in
      let parts : t.leaves - 1 ≤ parts_since cs = omega (arith, a.sums.leaves_are) in
      let few : w * (t.leaves - 1) ≤ w * parts_since cs = mul-le-mul_left w parts in
      elim (cases_lt 0 (lev shape q)) [
        | inl more ↦
            let e : levels_of shape cs.k ≡ lev shape (blocks_of shape cs.k) = omega (arith, more) in
            let n2 = rw e at n.1 in
            let two : 2 ≤ q = elim (cases_lt 1 q) [
              | inl big ↦ big
              | inr low ↦ let z = lev_few shape q is low in absurd (omega (arith, z, more))
            ] in
            settled_sum w q (lev shape q) t.leaves (t.leaves - 1) m size.wide more two (omega arith)
            (omega (arith, few, wide)) n2
        | inr none ↦
            let e : L ≡ 1 = omega (arith, none) in
            let low = one_leaf is a none in
            let l1 : t.leaves ≡ 1 = omega (arith, low.0, a.sums.leaves_some) in
            let o2 = rw (e, l1) at n.1 in
            omega (arith, o2, one)
      ])
      owed

-- what n records in each leaf, and f entries in each node below a row, come to
abbrev Low : ℕ → ℕ → Outline → ℕ → Type 0
Low f n (leaf m) level = n ≤ m
Low f n end level = Unit {0}
Low f n (entry b c r) zero = Unit {0}
Low f n (entry b c r) (suc level) = (1 + count_of r) * (f ^ level * n) ≤ stored_of c + stored_of r

low_child : (f n : ℕ) (c : Outline) (level : ℕ) → IsLevel c level → IsFilled c → IsFat f c → Low f n c level
    → f ^ level * n ≤ stored_of c
low_child f n (leaf m) zero i some fat x = let e : f ^ 0 * n ≡ n = rw (pow-zero f) (grind arith) in omega (arith, e, x)
low_child f n (leaf m) (suc level) i some fat x = absurd i
low_child f n end level i some fat x = absurd some
low_child f n (entry b c r) zero i some fat x = absurd i
low_child f n (entry b c r) (suc level) i some fat x =
    let e : f ^ suc level * n ≡ f * (f ^ level * n) = rw (pow-suc f level) (grind arith) in
    let k : f * (f ^ level * n) ≤ (1 + count_of r) * (f ^ level * n) = mul-le-mul_right (f ^ level * n) fat in
    omega (arith, e, k, x)

low_rest : (f n : ℕ) (r : Outline) (level : ℕ) → IsLevel r (suc level) → Low f n r (suc level)
    → count_of r * (f ^ level * n) ≤ stored_of r
low_rest f n (leaf m) level i x = absurd i
low_rest f n end level i x = let e : 0 * (f ^ level * n) ≡ 0 = grind arith in omega (arith, e)
low_rest f n (entry b c r) level i x = x

low_tree : (f n : ℕ) (t : Outline) (level : ℕ) → IsLevel t level → AllFat f t → LeavesFrom n t → Low f n t level
low_tree f n (leaf m) level h a l = l
low_tree f n end level h a l = tt
low_tree f n (entry b c r) zero h a l = tt
low_tree f n (entry b c r) (suc level) h a l =
    let first = low_child f n c level h.1 h.0 a.0 (low_tree f n c level h.1 a.1 l.0) in
    let rest = low_rest f n r level h.2 (low_tree f n r (suc level) h.2 a.2 l.1) in
    let g : (1 + count_of r) * (f ^ level * n) ≡ f ^ level * n + count_of r * (f ^ level * n) = grind arith in
    omega (arith, first, rest, g)

-- After fusing: if the root has two entries, each node below it 2·w, and each leaf w·B records, then B·(2·w) to the
-- level of the root are stored.
pub fused_stored : (w B : ℕ) (t : Outline) (level : ℕ) → IsLevel t (suc level) → AllFat (2 * w) t
    → LeavesFrom (w * B) t → 2 ≤ count_of t → B * (2 * w) ^ suc level ≤ stored_of t
fused_stored w B t level h a l two =
    let all = low_rest (2 * w) (w * B) t level h (low_tree (2 * w) (w * B) t (suc level) h a l) in
    let k : 2 * ((2 * w) ^ level * (w * B)) ≤ count_of t * ((2 * w) ^ level * (w * B)) =
    mul-le-mul_right ((2 * w) ^ level * (w * B)) two in
    let e : B * (2 * w) ^ suc level ≡ 2 * ((2 * w) ^ level * (w * B)) = rw (pow-suc (2 * w) level) (grind arith) in
    omega (arith, all, k, e)

-- So its level is at most `lev` of the blocks of what is stored: the height of a tree that was fused. A root of
-- level 1 may have one leaf.
pub fused_height : (shape : ShapeNumbers) (t : Outline) (level : ℕ) → IsShape shape → IsLevel t level
    → AllFat (2 * wide_of shape) t → LeavesFrom (wide_of shape * shape.block) t
    → (level ≡ 1) ⊎ (2 ≤ count_of t) → level ≤ levels_of shape (stored_of t)
fused_height shape t zero is h a l some = omega arith
fused_height shape t (suc level) is h a l some = ⊎_elim
    (λ (x : suc level ≡ 1). omega (arith, x))
    (λ (two : 2 ≤ count_of t).
    let e = fan_wide shape is in
    let n : shape.block * fan_of shape ^ suc level ≤ stored_of t =
    rw e (fused_stored (wide_of shape) shape.block t level h a l two) in
    let r = root_height shape level (stored_of t) is (omega (arith, n)) in
    omega (arith, r))
    some

-- A batch of n calls with y syncs: its tree was never reset, and settled y times and finished once. `more` is what
-- else it moved, as the ends of the chains of answers.
pub synced_within : (shape : ShapeNumbers) (n k y spent more : ℕ) → IsShape shape → k ≤ n
    → spent ≤ tree_share shape n k 0 (y + 1) → more ≤ 24 * (y + 1) * (blocks_of shape n + 1)
    → spent + more ≤ synced_share shape n y
synced_within shape n k y spent more is h s m =
    let q = blocks_of shape n in
    let o = blocks_of shape k in
    let blocks = blocks_rise shape k n is h in
    let levels = lev_rises shape o q is blocks in
    let b : (y + 1) * (o + 1) ≤ (y + 1) * (q + 1) = mul-le-mul_left (y + 1) (omega (arith, blocks)) in
    let one : 1 * (q + 1) ≤ (y + 1) * (q + 1) = mul-le-mul_right (q + 1) (omega arith) in
    let c : 160 * (q + 1) + 64 * 0 + 64 * (y + 1) * (o + 1) ≤ 224 * (y + 1) * (q + 1) = omega (arith, b, one) in
    let t : tree_share shape n k 0 (y + 1) ≤ 224 * (y + 1) * (q + 1) * floors_of shape n =
    mul-le-mul {n₁ = 160 * (q + 1) + 64 * 0 + 64 * (y + 1) * (o + 1)} {m₁ = floors_of shape k}
    {n₂ = 224 * (y + 1) * (q + 1)} {m₂ = floors_of shape n} c (omega (arith, levels)) in
    let f : 24 * (y + 1) * (q + 1) * 1 ≤ 24 * (y + 1) * (q + 1) * floors_of shape n =
    mul-le-mul_left (24 * (y + 1) * (q + 1)) (omega arith) in
    let g : 248 * (y + 1) * (q + 1) * floors_of shape n
    ≡ 224 * (y + 1) * (q + 1) * floors_of shape n + 24 * (y + 1) * (q + 1) * floors_of shape n = grind arith in
    omega (arith, s, t, f, m, g)
