-- Books with fewer moves and a debt that is less by them.
use Rattle.std.proofs.Common.{◌≡◌, ℕ, ◌+◌, ◌*◌, ◌≤◌, refl, arith}
use Rattle.std.proofs.Math.Nat.{mul-le-mul_left}
use Rattle.em_record.specs.Shape.{ShapeNumbers}
use Rattle.em_tree_cost.specs.Books.{InCall, TreeCounts, count_moves}
use Rattle.em_tree_cost.specs.Counters.{Counters, Sums}
use Rattle.em_tree_cost.specs.Paid.{PaidFor}

-- j moves that were counted and owed weren't made
pub paid_back : {shape : ShapeNumbers} {cs : Counters} {t : Sums} (spent low j more next : ℕ)
    → low + j ≤ spent → more ≤ next + shape.block * j → PaidFor shape spent more cs t
    → PaidFor shape low next cs t
paid_back {shape = shape} spent low j more next less owed a =
    let k : shape.block * (low + j) ≤ shape.block * spent = mul-le-mul_left shape.block less in
    record {
      fits = a.fits;
      covers = record { covered = omega (arith, k, owed, a.covers.covered) };
      root = a.root;
    }

-- the same inside a call
call_back_within : {shape : ShapeNumbers} {h r : ℕ} {t : Sums} (c : TreeCounts) (p q j more next : ℕ)
    → q + j ≤ p → more ≤ next + shape.block * j → (b : InCall shape (count_moves p c) more h r t)
    → (e : InCall shape (count_moves q c) next h r t) × (e.books.counters ≡ b.books.counters)
call_back_within c p q j more next less owed b = (
  record {
    books = record {
      counters = b.books.counters;
      n = b.books.n;
      k = b.books.k;
      since = b.books.since;
      z = b.books.z;
      y = b.books.y;
      adopted = b.books.adopted;
      few = b.books.few;
      few_adopted = b.books.few_adopted;
      paid = paid_back (c.spent + p) (c.spent + q) j more next (omega (arith, less)) owed b.books.paid;
    };
    taken = b.taken;
    taken_since = b.taken_since;
    parts = b.parts;
  },
  refl,
)

-- of exactly so many moves and so much that is owed
pub back_same : {shape : ShapeNumbers} {h r : ℕ} {t : Sums} (c : TreeCounts) (m more j : ℕ)
    → (b : InCall shape (count_moves (m + j) c) (more + shape.block * j) h r t)
    → (e : InCall shape (count_moves m c) more h r t) × (e.books.counters ≡ b.books.counters)
back_same {shape = shape} c m more j b =
    call_back_within c (m + j) m j (more + shape.block * j) more (omega arith) (omega arith) b
