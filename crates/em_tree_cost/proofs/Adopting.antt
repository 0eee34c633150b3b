-- A tree that is adopted: as small as its records allow, with nothing that waits. Its books are balanced.
use Rattle.std.proofs.Common.{◌≡◌, ◌⊎◌, ℕ, zero, suc, ◌+◌, ◌*◌, ◌^◌, ◌<◌, ◌≤◌, refl, arith, inl, inr, ⊎_elim}
use Rattle.std.proofs.Math.Nat.{mul-le-mul_left, one-le-pow}
use Rattle.em_record.specs.Shape.{ShapeNumbers, IsShape, wide_of}
use Rattle.em_tree_cost.specs.Books.{Balanced, adopted_counts}
use Rattle.em_tree_cost.specs.Counters.{CountersFit, adopted_counters}
use Rattle.em_tree_cost.specs.Fat.{AllFat}
use Rattle.em_tree_cost.specs.Fusing.{LeavesFrom}
use Rattle.em_tree_cost.specs.Outline.{IsLevel, Outline, count_of, excess_of, leaves_of, stored_of, sums_of, waiting_of, weight_of}
use Rattle.em_tree_cost.specs.Outline.Outline.{end, entry, leaf}
use Rattle.em_tree_cost.specs.Shares.{levels_of}
use Rattle.em_tree_cost.proofs.Fitting.{root_flat}
use Rattle.em_tree_cost.proofs.Fusing.{fused_stored}
use Rattle.em_tree_cost.proofs.Outlines.{fat_row}

-- where nothing waits
weight_none : (level : ℕ) (t : Outline) → waiting_of t ≡ 0 → weight_of level t ≡ 0
weight_none level (leaf n) e = refl
weight_none level end e = refl
weight_none zero (entry b c r) e =
    let i = weight_none zero c (omega arith) in let j = weight_none zero r (omega arith) in omega (arith, i, j)
weight_none (suc level) (entry b c r) e =
    let i = weight_none level c (omega arith) in let j = weight_none (suc level) r (omega arith) in
    let m : level * b ≤ level * 0 = mul-le-mul_left level (omega arith) in
    omega (arith, i, j, m)

-- leaves of `size` records or more, and what they have above `half`
lean_leaves : (size half : ℕ) (t : Outline) → size ≤ half → LeavesFrom size t
    → size * leaves_of t + excess_of half t ≤ stored_of t
lean_leaves size half (leaf n) h a = let k : size ≤ n = a in omega (arith, h, k)
lean_leaves size half end h a = omega arith
lean_leaves size half (entry b c r) h a =
    let i = lean_leaves size half c h a.0 in let j = lean_leaves size half r h a.1 in omega (arith, i, j)

-- no leaf has more above `half` than it has
excess_few : (half : ℕ) (t : Outline) → excess_of half t ≤ stored_of t
excess_few half (leaf n) = omega arith
excess_few half end = omega arith
excess_few half (entry b c r) = let i = excess_few half c in let j = excess_few half r in omega (arith, i, j)

-- A tree of one leaf, which may have any number of records.
fits_leaf : (w B L : ℕ) (t : Outline) → leaves_of t ≡ 1 → waiting_of t ≡ 0
    → CountersFit w B L (adopted_counters (stored_of t) 0) (sums_of (2 * w * B) 1 t 0 0)
fits_leaf w B L t one waits =
    let none = weight_none 1 t waits in
    let few = excess_few (2 * w * B) t in
    record {
      sums = omega (arith, one, waits, none, few);
      needs = record { parts_need = inl refl; left_need = inl refl };
      root = root_flat w B (stored_of t) 0 1 refl;
    }

-- A tree whose leaves have w * B records or more, whose nodes below the root have 2 * w entries or more, and its root two.
fits_trim : (w B L level : ℕ) (t : Outline) → 1 ≤ w → IsLevel t (suc level) → AllFat (2 * w) t
    → LeavesFrom (w * B) t → 2 ≤ count_of t → waiting_of t ≡ 0
    → CountersFit w B L (adopted_counters (stored_of t) (leaves_of t)) (sums_of (2 * w * B) (suc level) t 0 0)
fits_trim w B L level t wide h a l two waits =
    let X = (2 * w) ^ level in
    let one : 1 ≤ X = one-le-pow level (2 * w) (omega (arith, wide)) in
    let c : count_of t * 1 ≤ count_of t * X = mul-le-mul_left (count_of t) one in
    let row = fat_row (2 * w) t level h a in
    let some : 2 ≤ leaves_of t = omega (arith, c, row, two) in
    let lean = lean_leaves (w * B) (2 * w * B) t (omega arith) l in
    let m : w * B * 2 ≤ w * B * leaves_of t = mul-le-mul_left (w * B) some in
    let none = weight_none (suc level) t waits in
    let stored = fused_stored w B t level h a l two in
    record {
      sums = omega (arith, some, lean, none, waits);
      needs = record { parts_need = inr (omega (arith, m, lean)); left_need = inl refl };
      root = record {
        level_some = omega arith;
        level_most = inr (omega (arith, stored));
        level_parts = inr (omega (arith, some));
      };
    }

module _ {shape : ShapeNumbers} (t : Outline) (is : IsShape shape) (few : stored_of t ≤ 2 ^ 100)
    (waits : waiting_of t ≡ 0) where
  -- counters that fit are balanced books
  balanced_by : (leaves level : ℕ)
      → CountersFit (wide_of shape) shape.block (levels_of shape (stored_of t)) (adopted_counters (stored_of t) leaves)
      (sums_of (2 * wide_of shape * shape.block) level t 0 0)
      → Balanced shape (adopted_counts (stored_of t)) (sums_of (2 * wide_of shape * shape.block) level t 0 0)
  balanced_by leaves level fits = record {
    books = record {
      counters = adopted_counters (stored_of t) leaves;
      n = refl;
      k = refl;
      since = refl;
      z = refl;
      y = refl;
      adopted = refl;
      few = omega arith;
      few_adopted = few;
      paid = record {
        fits = fits;
        covers = record { covered = omega arith };
        root = record { holds = omega arith; tight = omega (arith, is.block_low) };
      };
    };
    counted = inr (
      refl,
      record {
        paid = omega (arith, waits);
        whole = refl;
        taken = refl;
        left = refl;
        visits = refl;
      },
    );
  }

  -- A tree was adopted, of one leaf or as small as its records allow.
  pub books_adopted : (level : ℕ) → 1 ≤ level → IsLevel t level
      → (level ≡ 1) × (leaves_of t ≡ 1)
      ⊎ (1 < count_of t) × LeavesFrom (wide_of shape * shape.block) t × AllFat (2 * wide_of shape) t
      → Balanced shape (adopted_counts (stored_of t)) (sums_of (2 * wide_of shape * shape.block) level t 0 0)
  books_adopted zero some h either = absurd (omega (arith, some))
  books_adopted (suc level) some h either = ⊎_elim
      (λ (x : (suc level ≡ 1) × (leaves_of t ≡ 1)).
      let e : level ≡ 0 = omega (arith, x.0) in
      rw e (balanced_by 0 1 (fits_leaf (wide_of shape) shape.block (levels_of shape (stored_of t)) t x.1 waits)))
      (λ (x : (1 < count_of t) × LeavesFrom (wide_of shape * shape.block) t × AllFat (2 * wide_of shape) t).
      balanced_by (leaves_of t) (suc level) (fits_trim (wide_of shape) shape.block (levels_of shape (stored_of t)) level t
      (omega (arith, is.frames_low)) h x.2 x.1 x.0 waits))
      either
