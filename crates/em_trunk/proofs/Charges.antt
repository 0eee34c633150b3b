-- The moves of each event of a call are charged to the books of a tree, and so are those of several
-- events one after another.
use Rattle.std.proofs.Common.{◌≡◌, ℕ, ◌+◌, ◌*◌, ◌^◌, ◌≤◌, refl, sym, subst, arith}
use Rattle.em_record.specs.Shape.{ShapeNumbers, IsShape, wide_of, payload_of}
use Rattle.em_tree_cost.specs.Books.{InCall, KeepsBooks, TreeCounts, count_moves}
use Rattle.em_tree_cost.specs.Counters.{Counters, Sums}
use Rattle.em_tree_cost.specs.Effects.{OnlySplits, SameRoot, SumsFall, SumsGrow, SumsLoad, SumsLower, SumsSplit}
use Rattle.em_tree_cost.specs.Parts.{full_moves, load_moves, split_moves}
use Rattle.em_tree_cost.specs.Shares.{levels_of}
use Rattle.em_tree_cost.specs.Sizes.{IsCeil}
use Rattle.em_tree_cost.proofs.Fitting.{splits_none, splits_then}
use Rattle.em_tree_cost.proofs.Heights.{root_levels}
use Rattle.em_tree_cost.proofs.InCall.{call_begins, charge_debt, charge_full, charge_full_root, charge_grow, charge_load, charge_load_some, charge_split, charge_thin_few, charge_thin_root}
use Rattle.em_tree_cost.proofs.Paid.{paid_less}
use Rattle.em_trunk.specs.Events.{Charged, Charges, ChargesUpTo, Pairs}

-- books with fewer moves, or more that is owed
pub books_less : {shape : ShapeNumbers} {t : Sums} (c d : TreeCounts) (more next : ℕ)
    → d.n ≡ c.n → d.k ≡ c.k → d.since ≡ c.since → d.z ≡ c.z → d.y ≡ c.y → d.adopted ≡ c.adopted → d.spent ≤ c.spent
    → more ≤ next → (b : KeepsBooks shape c more t)
    → (e : KeepsBooks shape d next t) × (e.counters ≡ b.counters)
books_less c d more next n k since z y adopted spent owed b = (
  record {
    counters = b.counters;
    n = omega (arith, b.n, n);
    k = omega (arith, b.k, k);
    since = omega (arith, b.since, since);
    z = omega (arith, b.z, z);
    y = omega (arith, b.y, y);
    adopted = omega (arith, b.adopted, adopted);
    few = omega (arith, b.few, n);
    few_adopted = omega (arith, b.few_adopted, adopted);
    paid = paid_less d.spent next spent owed b.paid;
  },
  refl,
)

-- The same inside a call.
pub fewer : {shape : ShapeNumbers} {t : Sums} {h r : ℕ} (c d : TreeCounts) (more next : ℕ)
    → d.n ≡ c.n → d.k ≡ c.k → d.since ≡ c.since → d.z ≡ c.z → d.y ≡ c.y → d.adopted ≡ c.adopted → d.spent ≤ c.spent
    → more ≤ next → (b : InCall shape c more h r t)
    → (e : InCall shape d next h r t) × (e.books.counters ≡ b.books.counters)
fewer c d more next n k since z y adopted spent owed b = (
  record {
    books = record {
      counters = b.books.counters;
      n = omega (arith, b.books.n, n);
      k = omega (arith, b.books.k, k);
      since = omega (arith, b.books.since, since);
      z = omega (arith, b.books.z, z);
      y = omega (arith, b.books.y, y);
      adopted = omega (arith, b.books.adopted, adopted);
      few = omega (arith, b.books.few, n);
      few_adopted = omega (arith, b.books.few_adopted, adopted);
      paid = paid_less d.spent next spent owed b.books.paid;
    };
    taken = b.taken;
    taken_since = b.taken_since;
    parts = b.parts;
  },
  refl,
)

pub call_fewer : {shape : ShapeNumbers} {t : Sums} {h r : ℕ} (c d : TreeCounts) (more next : ℕ)
    → d.n ≡ c.n → d.k ≡ c.k → d.since ≡ c.since → d.z ≡ c.z → d.y ≡ c.y → d.adopted ≡ c.adopted → d.spent ≤ c.spent
    → more ≤ next → InCall shape c more h r t → InCall shape d next h r t
call_fewer c d more next n k since z y adopted spent owed b =
    (fewer c d more next n k since z y adopted spent owed b).0

-- What a part of a call left, with fewer moves or more that is owed.
pub charged_fewer : {shape : ShapeNumbers} {h r d e : ℕ} {cs : Counters} {t u : Sums} (c f : TreeCounts) (more next : ℕ)
    → f.n ≡ c.n → f.k ≡ c.k → f.since ≡ c.since → f.z ≡ c.z → f.y ≡ c.y → f.adopted ≡ c.adopted → f.spent ≤ c.spent
    → more ≤ next → d ≤ e → Charged shape c more h r d cs t u → Charged shape f next h r e cs t u
charged_fewer {cs = cs} c f more next n k since z y adopted spent owed less b =
    let x = fewer c f more next n k since z y adopted spent owed b.call in
    let O : Counters → Type 0 = OnlySplits cs in
    record {
      call = x.0;
      only = subst O (sym x.1) b.only;
      pairs = λ none. b.pairs (omega (arith, none, less));
    }

-- No leaf came.
pub pairs_same : {shape : ShapeNumbers} {t u : Sums} → u.leaves ≡ t.leaves → u.waiting ≤ t.waiting → Pairs shape t u
pairs_same {shape} {t} {u} same few =
    let e : wide_of shape * shape.block * u.leaves ≡ wide_of shape * shape.block * t.leaves = rw same refl in
    record { most = omega (arith, e, few) }

pub pairs_then : {shape : ShapeNumbers} {t u v : Sums} → Pairs shape t u → Pairs shape u v → Pairs shape t v
pairs_then a b = record { most = omega (arith, a.most, b.most) }

-- What is charged inside a call is charged to books that begin with it.
pub charges_books : {shape : ShapeNumbers} {k p m q d : ℕ} {t u : Sums} → Charges shape k p m q d t u
    → (c : TreeCounts) (more : ℕ) → c.k ≡ k → (b : KeepsBooks shape (count_moves p c) more t)
    → Charged shape (count_moves (m + q) c) (more + d) 0 0 d b.counters t u
charges_books a c more same b = a.books c more 0 0 same (call_begins b)

-- The root's level is at most the levels that k operations make.
pub level_most : {shape : ShapeNumbers} {c : TreeCounts} {more : ℕ} {t : Sums} → IsShape shape
    → KeepsBooks shape c more t → t.level ≤ levels_of shape c.k
level_most {shape = shape} {t = t} is b =
    let P : ℕ → Type 0 = λ k. t.level ≤ levels_of shape k in
    subst P b.k (root_levels is b.paid.fits)

-- No move, or moves that were paid for in advance.
pub charges_prepaid : {shape : ShapeNumbers} {longest : ℕ} (p m q : ℕ) (t : Sums) → m + q ≤ p
    → Charges shape longest p m q 0 t t
charges_prepaid p m q t h = record {
  books = λ c more taken gone same b.
      let x = fewer (count_moves p c) (count_moves (m + q) c) more (more + 0)
      refl refl refl refl refl refl (omega (arith, h)) (omega arith) b in
      let O : Counters → Type 0 = OnlySplits b.books.counters in
      record {
        call = x.0;
        only = subst O (sym x.1) (splits_none b.books.counters);
        pairs = λ none. pairs_same refl (omega arith);
      };
}

-- one event after another
pub charges_then : {shape : ShapeNumbers} {longest : ℕ} {t u v : Sums} (p m q d n r e : ℕ)
    → Charges shape longest p m q d t u → Charges shape longest q n r e u v → Charges shape longest p (m + n) r (d + e) t v
charges_then p m q d n r e a b = record {
  books = λ c more taken gone same h.
      let x = a.books c more taken gone same h in
      let mid = fewer (count_moves (m + q) c) (count_moves q (count_moves m c)) (more + d)
      (more + d) refl refl refl refl refl refl (omega arith) (omega arith) x.call in
      let y = b.books (count_moves m c) (more + d) taken gone same mid.0 in
      let z = charged_fewer {e = e} (count_moves (n + r) (count_moves m c)) (count_moves (m + n + r) c) (more + d + e)
      (more + (d + e)) refl refl refl refl refl refl (omega arith) (omega arith) (omega arith) y in
      let O : Counters → Type 0 = λ k. OnlySplits k z.call.books.counters in
      record {
        call = z.call;
        only = splits_then x.only (subst O mid.1 z.only);
        pairs = λ none. pairs_then (x.pairs (omega (arith, none))) (z.pairs (omega (arith, none)));
      };
}

-- Other moves, and another debt, within what was charged.
pub charges_within : {shape : ShapeNumbers} {longest : ℕ} {t u : Sums} (p m q d m2 q2 d2 : ℕ) → m2 + q2 ≤ m + q
    → d ≤ d2 → Charges shape longest p m q d t u → Charges shape longest p m2 q2 d2 t u
charges_within p m q d m2 q2 d2 h o a = record {
  books = λ c more taken gone same b. charged_fewer (count_moves (m + q) c) (count_moves (m2 + q2) c) (more + d)
      (more + d2) refl refl refl refl refl refl (omega (arith, h)) (omega (arith, o)) o (a.books c more taken gone same b);
}

-- More was paid for in advance, and so is afterwards.
pub charges_more : {shape : ShapeNumbers} {longest : ℕ} {t u : Sums} (x p m q d : ℕ)
    → Charges shape longest p m q d t u → Charges shape longest (p + x) m (q + x) d t u
charges_more {t = t} {u = u} x p m q d a = record {
  books = λ c more taken gone same b.
      let old = fewer (count_moves (p + x) c) (count_moves p (count_moves x c)) more more
      refl refl refl refl refl refl (omega arith) (omega arith) b in
      let y = a.books (count_moves x c) more taken gone same old.0 in
      let z = charged_fewer {e = d} (count_moves (m + q) (count_moves x c)) (count_moves (m + (q + x)) c) (more + d)
      (more + d) refl refl refl refl refl refl (omega arith) (omega arith) (omega arith) y in
      let O : Counters → Type 0 = λ k. OnlySplits k z.call.books.counters in
      record { call = z.call; only = subst O old.1 z.only; pairs = z.pairs };
}

-- a call that gave up after others that went well
pub charges_up_to : {shape : ShapeNumbers} {longest : ℕ} {t u : Sums} (p m q d n e : ℕ)
    → Charges shape longest p m q d t u → ChargesUpTo shape longest q n e u → ChargesUpTo shape longest p (m + n) (d + e) t
charges_up_to p m q d n e a b = record {
  sums = b.sums;
  charges = charges_then p m q d n 0 e a b.charges;
}

-- what an event paid for, less what is used up
paid_as : {shape : ShapeNumbers} {t u : Sums} {h r d : ℕ} {cs : Counters} (p m q pay : ℕ) → m + q ≤ p + pay
    → (c : TreeCounts) (more next : ℕ) → more ≤ next
    → (e : InCall shape (count_moves pay (count_moves p c)) more h r u) × OnlySplits cs e.books.counters
    → (d ≡ 0 → Pairs shape t u) → Charged shape (count_moves (m + q) c) next h r d cs t u
paid_as {cs = cs} p m q pay fits c more next owed e pairs =
    let x = fewer (count_moves pay (count_moves p c)) (count_moves (m + q) c) more next
    refl refl refl refl refl refl (omega (arith, fits)) owed e.0 in
    let O : Counters → Type 0 = OnlySplits cs in
    record { call = x.0; only = subst O (sym x.1) e.1; pairs = pairs }

module _ {shape : ShapeNumbers} {longest : ℕ} (p m q pay : ℕ) (t u : Sums) (is : IsShape shape)
    (fits : m + q ≤ p + pay) where
  -- A buffer of any length, other than the root's, with n moves for its node and the children, owes these.
  pub charges_thin_few : (n x d : ℕ) → SumsLower x t u → SameRoot t u → IsCeil d (payload_of shape) x
      → pay ≤ 4 * d + n → Charges shape longest p m q (shape.block * (n + 4)) t u
  charges_thin_few n x d f s i k = record {
    books = λ c more taken gone same b. paid_as p m q pay fits c (more + shape.block * (n + 4))
        (more + shape.block * (n + 4)) (omega arith) (charge_thin_few pay u is b n x d f s i k)
        (λ none. pairs_same f.leaves f.waiting);
  }

  -- the root's buffer of any length, with n moves for the root and its children
  pub charges_thin_root : (n : ℕ) → SumsLower t.root t u → u.root ≡ 0 → u.blocks ≡ 0
      → pay ≤ 4 * t.blocks + n → Charges shape longest p m q (shape.block * (n + 6)) t u
  charges_thin_root n f s bl k = record {
    books = λ c more taken gone same b. paid_as p m q pay fits c (more + shape.block * (n + 6))
        (more + shape.block * (n + 6)) (omega arith) (charge_thin_root pay u is b n f s bl k)
        (λ none. pairs_same f.leaves f.waiting);
  }

  -- a load of y operations that owes its moves but for 36 for each operation
  pub charges_load_some : (y d : ℕ) → SumsLoad y t u → SameRoot t u → shape.block * pay ≤ 36 * y + d
      → Charges shape longest p m q d t u
  charges_load_some y d f s k = record {
    books = λ c more taken gone same b. paid_as p m q pay fits c (more + d) (more + d) (omega arith)
        (charge_load_some pay u is b y (more + d) f s (omega (arith, k)))
        (λ none. pairs_same f.leaves (omega (arith, f.waiting)));
  }

  -- moves that are owed, and sums that fall
  pub charges_debt : (d : ℕ) → SumsFall t u → SameRoot t u → shape.block * pay ≤ d
      → Charges shape longest p m q d t u
  charges_debt d f s k = record {
    books = λ c more taken gone same b. paid_as p m q pay fits c (more + d) (more + d) (omega arith)
        (charge_debt pay u is b (more + d) f s (omega (arith, k))) (λ none. pairs_same f.leaves f.waiting);
  }

  -- a full buffer, whose moves are told by the levels that so many operations make
  pub charges_full_deep : (x d : ℕ) → SumsLower x t u → SameRoot t u → IsCeil d (payload_of shape) x
      → 2 * wide_of shape * shape.block ≤ x
      → pay ≤ full_moves (wide_of shape) (levels_of shape longest) d
      → Charges shape longest p m q 0 t u
  charges_full_deep x d f s i big few = record {
    books = λ c more taken gone same b.
        let P : ℕ → Type 0 = λ n. pay ≤ full_moves (wide_of shape) (levels_of shape n) d in
        paid_as p m q pay fits c more (more + 0) (omega arith)
        (charge_full pay u is b x d f s i big (subst P (sym same) few)) (λ none. pairs_same f.leaves f.waiting);
  }

  -- the root's
  pub charges_full_root_deep : SumsLower t.root t u → u.root ≡ 0 → u.blocks ≡ 0
      → 2 * wide_of shape * shape.block ≤ t.root
      → pay ≤ full_moves (wide_of shape) (levels_of shape longest) t.blocks
      → Charges shape longest p m q 0 t u
  charges_full_root_deep f s bl big few = record {
    books = λ c more taken gone same b.
        let P : ℕ → Type 0 = λ n. pay ≤ full_moves (wide_of shape) (levels_of shape n) t.blocks in
        paid_as p m q pay fits c more (more + 0) (omega arith)
        (charge_full_root pay u is b f s bl big (subst P (sym same) few)) (λ none. pairs_same f.leaves f.waiting);
  }

  -- a full load
  pub charges_load_deep : (d e : ℕ) → SumsLoad (wide_of shape * shape.block) t u → SameRoot t u
      → IsCeil d (payload_of shape) (wide_of shape * shape.block) → e ≤ 4 * wide_of shape + 1
      → pay ≤ load_moves (levels_of shape longest) d e → Charges shape longest p m q 0 t u
  charges_load_deep d e f s i big few = record {
    books = λ c more taken gone same b.
        let P : ℕ → Type 0 = λ n. pay ≤ load_moves (levels_of shape n) d e in
        paid_as p m q pay fits c more (more + 0) (omega arith)
        (charge_load pay u is b d e f s i big (subst P (sym same) few))
        (λ none. pairs_same f.leaves (omega (arith, f.waiting)));
  }

-- A leaf's split, after a load: if that owes nothing it took w · B operations.
pub charges_cut : {shape : ShapeNumbers} {longest : ℕ} {t v : Sums} (p p2 q pay x : ℕ) (u : Sums) → IsShape shape
    → q ≤ p2 + pay → Charges shape longest p 0 p2 x t u
    → (x ≡ 0 → SumsLoad (wide_of shape * shape.block) t u) → (d : ℕ) → SumsSplit (wide_of shape) shape.block u v
    → SameRoot u v → IsCeil d (payload_of shape) ((2 * levels_of shape longest + 1) * wide_of shape * shape.block)
    → pay ≤ split_moves (wide_of shape) (levels_of shape longest) d → Charges shape longest p 0 q x t v
charges_cut {shape} {longest} {t} {v} p p2 q pay x u is fits load full d f s i few = record {
  books = λ c more taken gone same b.
      let P : ℕ → Type 0 = λ n. pay ≤ split_moves (wide_of shape) (levels_of shape n) d in
      let I : ℕ → Type 0 = λ n. IsCeil d (payload_of shape)
      ((2 * levels_of shape n + 1) * wide_of shape * shape.block) in
      let a = load.books c more taken gone same b in
      let mid = fewer (count_moves (0 + p2) c) (count_moves p2 c) (more + x) (more + x)
      refl refl refl refl refl refl (omega arith) (omega arith) a.call in
      let e = charge_split pay v is mid.0 d f s (subst I (sym same) i) (subst P (sym same) few) in
      let O : Counters → Type 0 = λ k. OnlySplits k e.0.books.counters in
      let split : (e : InCall shape (count_moves pay (count_moves p2 c)) (more + x) taken gone v)
      × OnlySplits b.books.counters e.books.counters = (e.0, splits_then a.only (subst O mid.1 e.1)) in
      paid_as p2 0 q pay (omega (arith, fits)) c (more + x) (more + x) (omega arith) split
      (λ none.
      let l = full none in
      let w = wide_of shape * shape.block in
      let one : w * v.leaves ≡ w * (t.leaves + 1) = rw (f.leaves, l.leaves) refl in
      record { most = omega (arith, one, l.waiting, f.waiting) });
}

-- While books are kept, the root's level is at most the levels that so many operations make.
pub charges_known : {shape : ShapeNumbers} {longest p m q d : ℕ} {t u : Sums} → IsShape shape
    → (t.level ≤ levels_of shape longest → Charges shape longest p m q d t u)
    → Charges shape longest p m q d t u
charges_known {shape = shape} {t = t} is f = record {
  books = λ c more taken gone same b.
      let P : ℕ → Type 0 = λ n. t.level ≤ levels_of shape n in
      (f (subst P same (level_most is b.books))).books c more taken gone same b;
}

-- a split of a node, whose moves the leaf's split paid for
pub charges_fall : {shape : ShapeNumbers} {longest : ℕ} (p m q : ℕ) (t u : Sums) → IsShape shape → m + q ≤ p
    → SumsFall t u → SameRoot t u → Charges shape longest p m q 0 t u
charges_fall {shape = shape} p m q t u is h f s =
    charges_debt {shape = shape} p m q 0 t u is (omega (arith, h)) 0 f s (omega arith)

-- A new root, whose moves the split paid for: its halves have this many leaves (`root_leaves`).
pub charges_grow : {shape : ShapeNumbers} {longest : ℕ} (p m q : ℕ) (t u : Sums) → IsShape shape → m + q ≤ p
    → (2 * wide_of shape) ^ t.level + 1 ≤ t.leaves → SumsGrow t u → SameRoot t u
    → Charges shape longest p m q 0 t u
charges_grow p m q t u is h some f s = record {
  books = λ c more taken gone same b.
      let e = charge_grow b u is some f s in
      let x = fewer (count_moves p c) (count_moves (m + q) c) more (more + 0)
      refl refl refl refl refl refl (omega (arith, h)) (omega arith) e.0 in
      let O : Counters → Type 0 = OnlySplits b.books.counters in
      record { call = x.0; only = subst O (sym x.1) e.1; pairs = λ none. pairs_same f.leaves f.waiting };
}
