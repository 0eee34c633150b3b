-- A tree whose moves are paid for: at rest, over a push, and within its share.
use Rattle.std.proofs.Common.{◌≡◌, ℕ, ◌+◌, ◌*◌, ◌^◌, ◌<◌, ◌≤◌, refl, arith, inl, inr, max}
use Rattle.std.proofs.Math.Nat.{mul-le-mul_right}
use Rattle.std.proofs.lemmas.Bool.{cases_lt}
use Rattle.em_record.specs.Cost.{blocks_of, lev}
use Rattle.em_record.specs.Shape.{ShapeNumbers, IsShape, wide_of, payload_of}
use Rattle.em_record.proofs.Blocks.{blocks_rise}
use Rattle.em_record.proofs.Levels.{lev_rises}
use Rattle.em_tree_cost.specs.Counters.{Counters, CountersFit, Sums, Untaken, fresh_sums, no_counters}
use Rattle.em_tree_cost.specs.Effects.{SumsPush, after_pushing}
use Rattle.em_tree_cost.specs.Fees.{Covers, OpenVisit}
use Rattle.em_tree_cost.specs.Paid.{PaidFor, WithinShare, toll_of}
use Rattle.em_tree_cost.specs.Shares.{levels_of, tree_share}
use Rattle.em_tree_cost.specs.Sizes.{IsCeil, IsLevels}
use Rattle.em_tree_cost.proofs.Fees.{covers_counted, covers_less, covers_levels, covers_new, covers_pushing}
use Rattle.em_tree_cost.proofs.Fitting.{fits_levels, fits_new, fits_pushing}
use Rattle.em_tree_cost.proofs.Heights.{levels_rise, root_levels}
use Rattle.em_tree_cost.proofs.Levels.{levels_most}
use Rattle.em_tree_cost.proofs.Room.{share_beyond}
use Rattle.em_tree_cost.proofs.Total.{tree_within, untaken_within}

-- The levels of up to 2 ^ 103 operations are at least 1 and at most 24.
pub levels_within : (shape : ShapeNumbers) (k : ℕ) → IsShape shape → k ≤ 2 ^ 103
    → IsLevels (levels_of shape k)
levels_within shape k is h =
    let m = levels_most shape k is h in record { some = omega arith; most = omega (arith, m) }

-- The root's level is at most 2 + lev of the blocks of k. (`root_levels` says a little more.)
pub height_most : {shape : ShapeNumbers} {spent more : ℕ} {cs : Counters} {t : Sums} → IsShape shape
    → PaidFor shape spent more cs t → t.level ≤ 2 + lev shape (blocks_of shape cs.k)
height_most is a = let r = root_levels is a.fits in omega (arith, r)

-- a new tree, which made at most 4 moves
pub paid_new : (shape : ShapeNumbers) (m : ℕ) → IsShape shape → m ≤ 4
    → PaidFor shape m 0 no_counters fresh_sums
paid_new shape m is h = record {
  fits = fits_new (wide_of shape) shape.block (levels_of shape 0);
  covers = covers_new (wide_of shape) shape.block (levels_of shape 0) (toll_of shape 0)
      (blocks_of shape 0) m h;
  root = record { holds = omega arith; tight = omega (arith, is.block_low) };
}

-- What a greater k changes: all fees rise with the levels.
paid_levels : {shape : ShapeNumbers} {spent more : ℕ} {cs : Counters} {t : Sums} (k : ℕ)
    → IsShape shape
    → cs.k ≤ k → PaidFor shape spent more cs t
    → CountersFit (wide_of shape) shape.block (levels_of shape k) cs t
    × Covers (wide_of shape) shape.block (levels_of shape k) (toll_of shape k) (blocks_of shape k)
    spent more cs t × (t.level ≤ levels_of shape k)
paid_levels {shape = shape} {cs = cs} k is h a =
    let levels = levels_rise shape cs.k k is h in
    let blocks = blocks_rise shape cs.k k is h in
    let floors = lev_rises shape (blocks_of shape cs.k) (blocks_of shape k) is blocks in
    let tolls : toll_of shape cs.k ≤ toll_of shape k =
    mul-le-mul_right shape.block (omega (arith, floors)) in
    let root = root_levels is a.fits in (
      fits_levels (levels_of shape k) levels a.fits,
      covers_levels (levels_of shape k) (toll_of shape k) (blocks_of shape k) levels tolls blocks
          a.covers,
      omega (arith, root, levels),
    )

-- An operation was pushed, with m moves: two if a block begins.
pub paid_push : {shape : ShapeNumbers} {spent more : ℕ} {cs : Counters} {t : Sums} (m : ℕ)
    (u : Sums)
    → IsShape shape → PaidFor shape spent more cs t → SumsPush t u → u.root ≡ t.root + 1
    → m + 2 * t.blocks ≤ 2 * u.blocks → IsCeil u.blocks (payload_of shape) u.root
    → PaidFor shape (spent + m) more (after_pushing cs) u
paid_push {cs = cs} m u is a p r b c =
    let raised = paid_levels (max cs.k (cs.since + 1)) is (omega arith) a in
    record {
      fits = fits_pushing u raised.0 raised.2 p;
      covers = covers_pushing m u raised.1 r b;
      root = c;
    }

-- fewer moves than were paid for, or more that is owed
pub paid_less : {shape : ShapeNumbers} {spent more : ℕ} {cs : Counters} {t : Sums} (low next : ℕ)
    → low ≤ spent → more ≤ next → PaidFor shape spent more cs t → PaidFor shape low next cs t
paid_less low next h o a = record {
  fits = a.fits;
  covers = covers_less a.covers low next h o;
  root = a.root;
}

-- A push that is refused was counted. Its moves are owed (`paid_debt`).
pub paid_counted : {shape : ShapeNumbers} {spent more : ℕ} {cs : Counters} {t : Sums}
    → IsShape shape
    → PaidFor shape spent more cs t → PaidFor shape spent more (after_pushing cs) t
paid_counted {cs = cs} {t = t} is a =
    let raised = paid_levels (max cs.k (cs.since + 1)) is (omega arith) a in
    let same : SumsPush t t = record {
      level = refl;
      leaves = refl;
      waiting = omega arith;
      weight = omega arith;
      stored = omega arith;
      excess = omega arith;
    } in
    record {
      fits = fits_pushing t raised.0 raised.2 same;
      covers = covers_counted raised.1;
      root = a.root;
    }

-- The share, at every exit of a call, refused or not.
pub paid_within : {shape : ShapeNumbers} {spent more : ℕ} {cs : Counters} {t : Sums} (u : ℕ)
    → IsShape shape → PaidFor shape spent more cs t
    → OpenVisit (wide_of shape) shape.block (levels_of shape cs.k) u cs
    → more ≤ 18 * (t.waiting + t.stored) + u + toll_of shape cs.k
    → spent ≤ tree_share shape (cs.n + cs.adopted) cs.k cs.z cs.y
paid_within {shape = shape} {spent = spent} {cs = cs} {t = t} u is a visit o =
    let most = 18 * (t.waiting + t.stored) + u + toll_of shape cs.k in
    tree_within u is a.fits visit a.root (covers_less a.covers spent most (omega arith) o)

-- and before the first call of `take_first` the share of n alone
pub paid_untaken : {shape : ShapeNumbers} {spent more : ℕ} {cs : Counters} {t : Sums} → IsShape shape
    → PaidFor shape spent more cs t → Untaken (wide_of shape) shape.block cs t
    → more ≤ 18 * t.waiting + toll_of shape cs.k → spent ≤ tree_share shape cs.n cs.k cs.z cs.y
paid_untaken {shape = shape} {spent = spent} {cs = cs} {t = t} is a still o =
    untaken_within is a.fits still a.root
    (covers_less a.covers spent (18 * t.waiting + toll_of shape cs.k) (omega arith) o)

-- The same for any number of operations: books are kept below 2 ^ 103 of them, and above that the
-- share is more than a count of moves can be.
pub share_within : (shape : ShapeNumbers) (n k z y spent : ℕ) → IsShape shape → spent < 2 ^ 64
    → (n < 2 ^ 103 → WithinShare shape n k z y spent) → spent ≤ tree_share shape n k z y
share_within shape n k z y spent is few h = elim (cases_lt n (2 ^ 103)) [
  | inl low ↦ (h low).within
  | inr high ↦ share_beyond shape n k z y spent is high few
]
