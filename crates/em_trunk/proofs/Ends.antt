-- The books at the ends of calls, refused ones too: the moves of a tree are within its share.
use Rattle.std.proofs.Common.{◌≡◌, ℕ, ◌+◌, ◌*◌, ◌^◌, ◌<◌, ◌≤◌, refl, sym, subst, arith}
use Rattle.std.specs.Prelude.{max}
use Rattle.em_record.specs.Shape.{ShapeNumbers, IsShape}
use Rattle.em_tree_cost.specs.Books.{Balanced, IsCounted, KeepsBooks, TreeCounts, count_moves, count_push, count_settle}
use Rattle.em_tree_cost.specs.Counters.{Counters, Sums}
use Rattle.em_tree_cost.specs.Effects.{SumsFall}
use Rattle.em_tree_cost.specs.Paid.{settle_rest, toll_of}
use Rattle.em_tree_cost.specs.Shares.{tree_share}
use Rattle.em_tree_cost.proofs.Books.{books_counted, books_refused_push, books_share, counted_refused, counted_then}
use Rattle.em_tree_cost.proofs.InCall.{call_begins, call_settle}
use Rattle.em_trunk.specs.Events.{Charged, Charges, ChargesUpTo}
use Rattle.em_trunk.proofs.Charges.{books_less, charges_books}

-- sums that stay
pub sums_stay : (t : Sums) → SumsFall t t
sums_stay t = record {
  level = refl;
  leaves = refl;
  waiting = omega arith;
  weight = omega arith;
  stored = omega arith;
  excess = omega arith;
}

-- balanced books with fewer moves
pub balanced_less : {shape : ShapeNumbers} {t : Sums} (c d : TreeCounts)
    → d.n ≡ c.n → d.k ≡ c.k → d.since ≡ c.since → d.z ≡ c.z → d.y ≡ c.y → d.adopted ≡ c.adopted
    → d.counted ≡ c.counted → d.spent ≤ c.spent → Balanced shape c t → Balanced shape d t
balanced_less {shape} {t} c d n k since z y adopted counted spent b =
    let x = books_less c d 0 0 n k since z y adopted spent (omega arith) b.books in
    let P : Counters → Type 0 = λ cs. IsCounted shape d cs t in
    record { books = x.0; counted = subst P (sym x.1) (rw (adopted, counted) b.counted) }

module _ {shape : ShapeNumbers} {t u : Sums} (c : TreeCounts) (is : IsShape shape) where
  -- What the share counts stays over a part of a call that owes nothing.
  pub counted_charged : (more p m q : ℕ) (b : KeepsBooks shape (count_moves p c) more t) → IsCounted shape c b.counters t
      → (e : Charged shape (count_moves (m + q) c) (more + 0) 0 0 0 b.counters t u)
      → IsCounted shape c e.call.books.counters u
  counted_charged more p m q b counted e =
      let x = e.call.books in
      counted_then shape c b.paid.fits x.paid.fits (omega (arith, x.n, b.n)) e.only (e.pairs refl).most counted

module _ {shape : ShapeNumbers} {t u : Sums} (c e : TreeCounts) (m1 m2 q : ℕ) where
  -- A push that went well: an operation was counted and appended, with m1 moves, and buffers were
  -- emptied, with m2.
  pub pushed_books : IsShape shape → Balanced shape (count_push m1 c) t
      → Charges shape (max c.k (c.since + 1)) 0 m2 q 0 t u
      → e.n ≡ c.n + 1 → e.k ≡ max c.k (c.since + 1) → e.since ≡ c.since + 1 → e.z ≡ c.z → e.y ≡ c.y
      → e.adopted ≡ c.adopted → e.counted ≡ c.counted
      → e.spent ≡ c.spent + m1 + m2 → Balanced shape e u
  pushed_books is b h n k since z y adopted counted spent =
      let d = count_push m1 c in
      let start = books_less d (count_moves 0 d) 0 0 refl refl refl refl refl refl (omega arith)
      (omega arith) b.books in
      let P : Counters → Type 0 = λ cs. IsCounted shape d cs t in
      let here = subst P (sym start.1) b.counted in
      let all = charges_books h d 0 refl start.0 in
      let known = counted_charged {shape = shape} {t = t} {u = u} d is 0 0 m2 q start.0 here all in
      let x = books_less (count_moves (m2 + q) d) e (0 + 0) 0 n k since z y adopted (omega (arith, spent))
      (omega arith) all.call.books in
      let Q : Counters → Type 0 = λ cs. IsCounted shape e cs u in
      record { books = x.0; counted = subst Q (sym x.1) (rw (adopted, counted) known) }

  -- A settling that went well, which owes d moves that no operation, load or split pays for.
  pub settled_books : (d : ℕ) → IsShape shape → Balanced shape c t
      → Charges shape c.k 0 m2 q (shape.block * d) t u
      → d ≤ settle_rest shape c.k → e.n ≡ c.n → e.k ≡ c.k → e.since ≡ c.since → e.z ≡ c.z → e.y ≡ c.y + 1
      → e.adopted ≡ c.adopted → e.counted ≡ c.counted
      → e.spent ≡ c.spent + m2 → Balanced shape e u
  settled_books d is b h most n k since z y adopted counted spent =
      let start = books_less c (count_moves 0 c) 0 0 refl refl refl refl refl refl (omega arith)
      (omega arith) b.books in
      let P : Counters → Type 0 = λ cs. IsCounted shape c cs t in
      let here = subst P (sym start.1) b.counted in
      let all = charges_books h c 0 refl start.0 in
      let end_is = call_settle 0 u is (call_begins all.call.books) start.0.counters t d
      (record { root = refl; blocks = refl }) (sums_stay u) (omega arith) most here all.only.still in
      balanced_less (count_settle 0 (count_moves (m2 + q) c)) e n k since z y adopted counted (omega (arith, spent))
      end_is

-- A call that takes nothing gave up, and owes no more than a reset would pay: more of it before, and nothing since.
pub stopped_share : {shape : ShapeNumbers} {t : Sums} (c : TreeCounts) (more m : ℕ) → IsShape shape
    → (b : KeepsBooks shape c more t) → IsCounted shape c b.counters t → ChargesUpTo shape c.k 0 m 0 t
    → more ≤ toll_of shape c.k → c.spent + m ≤ tree_share shape (c.n + c.counted) c.k c.z c.y
stopped_share {shape} {t} c more m is b counted h owed =
    let start = books_less c (count_moves 0 c) more more refl refl refl refl refl refl (omega arith)
    (omega arith) b in
    let P : Counters → Type 0 = λ cs. IsCounted shape c cs t in
    let here = subst P (sym start.1) counted in
    let all = charges_books h.charges c more refl start.0 in
    let known = counted_charged {shape = shape} {t = t} {u = h.sums} c is more 0 m 0 start.0 here all in
    let r = books_counted all.call.books is known (omega (arith, owed)) in
    omega (arith, r)

-- A settling that gave up.
pub stopped_settling : {shape : ShapeNumbers} {t : Sums} (c : TreeCounts) (m d : ℕ) → IsShape shape
    → Balanced shape c t → ChargesUpTo shape c.k 0 m (shape.block * d) t → d ≤ settle_rest shape c.k
    → c.spent + m ≤ tree_share shape (c.n + c.counted) c.k c.z (c.y + 1)
stopped_settling {shape = shape} c m d is b h most =
    let e = record c { spent = c.spent + m; y = c.y + 1 } in
    books_share is (settled_books c e 0 m 0 d is b h.charges most refl refl refl refl refl refl refl refl)

-- A push that gave up at its first move or later: the operation was counted.
pub refused_push_share : {shape : ShapeNumbers} {t : Sums} (c : TreeCounts) (m : ℕ) → IsShape shape
    → c.n < 2 ^ 100 → m ≤ 2 → Balanced shape c t → 2 * shape.block ≤ toll_of shape (max c.k (c.since + 1))
    → c.spent + m ≤ tree_share shape (c.n + 1 + c.counted) (max c.k (c.since + 1)) c.z c.y
refused_push_share {shape = shape} {t = t} c m is low few b toll =
    let p = books_refused_push b.books m is low few in
    let P : Counters → Type 0 = λ cs. IsCounted shape (count_push m c) cs t in
    let known = subst P (sym p.1) (counted_refused shape c b.counted) in
    let r = books_counted p.0 is known (omega (arith, toll)) in
    omega (arith, r)
