-- The numbers of a tree over its events: counters that fit them are there after each.
use Rattle.std.proofs.Common.{◌≡◌, ◌⊎◌, ℕ, ◌+◌, ◌*◌, ◌^◌, ◌<◌, ◌≤◌, refl, arith, inl, inr, ⊎_elim}
use Rattle.std.proofs.Math.Nat.{zero-add, mul-le-mul_left}
use Rattle.em_record.specs.Shape.{ShapeNumbers, IsShape, wide_of, payload_of}
use Rattle.em_tree_cost.specs.Books.{Balanced, IsCounted, KeepsBooks, TreeCounts, count_drain, count_moves, count_push, count_settle, no_counts}
use Rattle.em_tree_cost.specs.Counters.{Counters, CountersFit, Sums, Untaken, fresh_sums, no_counters}
use Rattle.em_tree_cost.specs.Effects.{OnlySplits, StillTaken, SumsFall, SumsPush, after_draining, after_owning, after_pushing, after_settling}
use Rattle.em_tree_cost.specs.Fees.{OpenVisit}
use Rattle.em_tree_cost.specs.Paid.{PaidFor, toll_of}
use Rattle.em_tree_cost.specs.Shares.{levels_of, tree_share}
use Rattle.em_tree_cost.specs.Sizes.{IsCeil}
use Rattle.em_tree_cost.proofs.Events.{paid_debt}
use Rattle.em_tree_cost.proofs.Fitting.{untaken_counted, untaken_owning, untaken_pushing, untaken_then}
use Rattle.em_tree_cost.proofs.Paid.{paid_counted, paid_new, paid_push, paid_untaken, paid_within}

-- a new tree
pub books_new : (shape : ShapeNumbers) (m : ℕ) → IsShape shape → m ≤ 4
    → Balanced shape (count_moves m no_counts) fresh_sums
books_new shape m is h = record {
  books = record {
    counters = no_counters;
    n = refl;
    k = refl;
    since = refl;
    z = refl;
    y = refl;
    adopted = refl;
    few = omega arith;
    few_adopted = omega arith;
    paid = rw (zero-add m) (paid_new shape m is h);
  };
  counted = inl refl;
}

module _ {shape : ShapeNumbers} {c : TreeCounts} {more : ℕ} {t : Sums}
    (b : KeepsBooks shape c more t) where
  -- A push: the operation stands at the end of the root's buffer.
  pub books_push : (m : ℕ) (u : Sums) → IsShape shape → c.n < 2 ^ 100
      → SumsPush t u → u.root ≡ t.root + 1 → m + 2 * t.blocks ≤ 2 * u.blocks
      → IsCeil u.blocks (payload_of shape) u.root
      → (e : KeepsBooks shape (count_push m c) more u) × (e.counters ≡ after_pushing b.counters)
  books_push m u is low p r bl i = (
    record {
      counters = after_pushing b.counters;
      n = omega (arith, b.n);
      k = omega (arith, b.k, b.since);
      since = omega (arith, b.since);
      z = b.z;
      y = b.y;
      adopted = b.adopted;
      few = omega (arith, low);
      few_adopted = b.few_adopted;
      paid = paid_push m u is b.paid p r bl i;
    },
    refl,
  )

  -- A push that was refused: it was counted, and its two moves are owed.
  pub books_refused_push : (m : ℕ) → IsShape shape → c.n < 2 ^ 100 → m ≤ 2
      → (e : KeepsBooks shape (count_push m c) (2 * shape.block + more) t) × (e.counters ≡ after_pushing b.counters)
  books_refused_push m is low h =
      let same : SumsFall t t = record {
        level = refl;
        leaves = refl;
        waiting = omega arith;
        weight = omega arith;
        stored = omega arith;
        excess = omega arith;
      } in
      let k : shape.block * m ≤ shape.block * 2 = mul-le-mul_left shape.block h in (
        record {
          counters = after_pushing b.counters;
          n = omega (arith, b.n);
          k = omega (arith, b.k, b.since);
          since = omega (arith, b.since);
          z = b.z;
          y = b.y;
          adopted = b.adopted;
          few = omega (arith, low);
          few_adopted = b.few_adopted;
          paid = paid_debt m t is (paid_counted is b.paid) (2 * shape.block + more) same
              (record { root = refl; blocks = refl }) (omega (arith, k));
        },
        refl,
      )

  -- Any event that leaves n, k, since, z and y: `proofs/InCall` has each.
  pub books_step : (m next : ℕ) (cs : Counters) (u : Sums)
      → cs.n ≡ b.counters.n → cs.k ≡ b.counters.k → cs.since ≡ b.counters.since
      → cs.z ≡ b.counters.z → cs.y ≡ b.counters.y → cs.adopted ≡ b.counters.adopted
      → PaidFor shape (c.spent + m) next cs u → KeepsBooks shape (count_moves m c) next u
  books_step m next cs u n k s z y adopted a = record {
    counters = cs;
    n = omega (arith, n, b.n);
    k = omega (arith, k, b.k);
    since = omega (arith, s, b.since);
    z = omega (arith, z, b.z);
    y = omega (arith, y, b.y);
    adopted = omega (arith, adopted, b.adopted);
    few = b.few;
    few_adopted = b.few_adopted;
    paid = a;
  }

  -- the end of a call of `take_first` that left nothing
  pub books_drain : (m : ℕ) (u : Sums) → PaidFor shape (c.spent + m) 0 (after_draining b.counters) u
      → KeepsBooks shape (count_drain m c) 0 u
  books_drain m u a = record {
    counters = after_draining b.counters;
    n = b.n;
    k = b.k;
    since = refl;
    z = omega (arith, b.z);
    y = b.y;
    adopted = b.adopted;
    few = b.few;
    few_adopted = b.few_adopted;
    paid = a;
  }

  -- The end of `settle_all` or `finish`: before the first call of `take_first` it stays so, since this call pays for the splits.
  pub books_settle : (start : Counters) (old : Sums) (m : ℕ) (u : Sums)
      → PaidFor shape (c.spent + m) 0 (after_settling (after_owning b.counters)) u
      → IsCounted shape c start old → StillTaken start b.counters → Balanced shape (count_settle m c) u
  books_settle start old m u a counted still = record {
    books = record {
      counters = after_settling (after_owning b.counters);
      n = b.n;
      k = b.k;
      since = b.since;
      z = b.z;
      y = omega (arith, b.y);
      adopted = b.adopted;
      few = b.few;
      few_adopted = b.few_adopted;
      paid = a;
    };
    counted = ⊎_elim
        (λ (all : c.counted ≡ c.adopted). inl all)
        (λ (none : (c.counted ≡ 0) × Untaken (wide_of shape) shape.block start old).
        inr (none.0, untaken_owning a.fits still none.1))
        counted;
  }

  -- The share with all adopted records, at every exit of a call, refused or not.
  pub books_within : (u : ℕ) → IsShape shape
      → OpenVisit (wide_of shape) shape.block (levels_of shape b.counters.k) u b.counters
      → more ≤ 18 * (t.waiting + t.stored) + u + toll_of shape c.k
      → c.spent ≤ tree_share shape (c.n + c.adopted) c.k c.z c.y
  books_within u is visit o =
      let s = paid_within u is b.paid visit (rw (b.k) o) in
      let s1 = rw (b.n, b.k, b.z, b.y, b.adopted) at s in s1

  -- The share at the exit of a call that takes nothing, refused or not.
  pub books_counted : IsShape shape → IsCounted shape c b.counters t → more ≤ toll_of shape c.k
      → c.spent ≤ tree_share shape (c.n + c.counted) c.k c.z c.y
  books_counted is counted o = ⊎_elim
      (λ (all : c.counted ≡ c.adopted).
      let s = books_within 0 is (record { most = inl refl; some = inl refl }) (omega (arith, o)) in
      rw all s)
      (λ (none : (c.counted ≡ 0) × Untaken (wide_of shape) shape.block b.counters t).
      let owed : more ≤ 18 * t.waiting + toll_of shape b.counters.k = rw (b.k) (omega (arith, o)) in
      let s = paid_untaken is b.paid none.1 owed in
      let s1 = rw (b.n, b.k, b.z, b.y) at s in
      let e : c.n + c.counted ≡ c.n = omega (arith, none.0) in
      rw e s1)
      counted

-- What the share counts stays over a part of a call that takes nothing, if w * B operations less wait for each leaf that came,
pub counted_then : (shape : ShapeNumbers) (c : TreeCounts) {L M : ℕ} {cs ds : Counters} {t u : Sums}
    → CountersFit (wide_of shape) shape.block L cs t → CountersFit (wide_of shape) shape.block M ds u → ds.n ≡ cs.n
    → OnlySplits cs ds
    → wide_of shape * shape.block * u.leaves + u.waiting ≤ wide_of shape * shape.block * t.leaves + t.waiting
    → IsCounted shape c cs t → IsCounted shape c ds u
counted_then shape c {L} {M} {cs} {ds} {t} {u} a b n o paired counted = ⊎_elim
    (λ (all : c.counted ≡ c.adopted). inl all)
    (λ (none : (c.counted ≡ 0) × Untaken (wide_of shape) shape.block cs t).
    inr (none.0, untaken_then a b n o paired none.1))
    counted

-- over a push,
pub counted_pushing : (shape : ShapeNumbers) (c : TreeCounts) {cs : Counters} {t u : Sums} → SumsPush t u
    → IsCounted shape c cs t → IsCounted shape c (after_pushing cs) u
counted_pushing shape c {cs} {t} {u} m counted = ⊎_elim
    (λ (all : c.counted ≡ c.adopted). inl all)
    (λ (none : (c.counted ≡ 0) × Untaken (wide_of shape) shape.block cs t). inr (none.0, untaken_pushing m none.1))
    counted

-- and over one that was refused
pub counted_refused : (shape : ShapeNumbers) (c : TreeCounts) {cs : Counters} {t : Sums}
    → IsCounted shape c cs t → IsCounted shape c (after_pushing cs) t
counted_refused shape c {cs} {t} counted = ⊎_elim
    (λ (all : c.counted ≡ c.adopted). inl all)
    (λ (none : (c.counted ≡ 0) × Untaken (wide_of shape) shape.block cs t). inr (none.0, untaken_counted none.1))
    counted

-- The share, at an exit that is Ok.
pub books_share : {shape : ShapeNumbers} {c : TreeCounts} {t : Sums} → IsShape shape
    → Balanced shape c t → c.spent ≤ tree_share shape (c.n + c.counted) c.k c.z c.y
books_share is b = books_counted b.books is b.counted (omega arith)
