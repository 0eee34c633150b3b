-- The parts of a call, over the numbers that code carries. Each part takes its event first, with
-- the most moves m of the contract below it; `call_less` then puts the moves made in their place.
use Rattle.std.proofs.Common.{◌≡◌, ℕ, ◌+◌, ◌*◌, ◌^◌, ◌≤◌, refl, arith, ◌⊎◌, inl, inr, ⊎_elim}
use Rattle.std.proofs.Math.Nat.{mul-le-mul_left}
use Rattle.em_record.specs.Shape.{ShapeNumbers, IsShape, wide_of, payload_of}
use Rattle.em_tree_cost.specs.Books.{Balanced, InCall, IsCounted, KeepsBooks, TreeCounts, WasSplit, count_drain, count_moves, count_settle}
use Rattle.em_tree_cost.specs.Counters.{Counters, Sums, fresh_sums, parts_since}
use Rattle.em_tree_cost.specs.Effects.{OnlySplits, SameRoot, StillTaken, SumsFall, SumsGrow, SumsLoad, SumsLower, SumsRemove, SumsSplit, SumsTake, after_loading, after_lowering, after_removing, after_splitting, after_taking}
use Rattle.em_tree_cost.specs.Paid.{PaidFor, RefusedDebt, open_visit_debt, settle_rest, toll_of}
use Rattle.em_tree_cost.specs.Parts.{filled_debt, full_moves, leave_debt, load_moves, split_moves, thin_debt, thin_moves, visit_debt}
use Rattle.em_tree_cost.specs.Shares.{levels_of, tree_share}
use Rattle.em_tree_cost.specs.Sizes.{IsCeil}
use Rattle.em_tree_cost.proofs.Books.{books_drain, books_settle, books_step, books_within}
use Rattle.em_tree_cost.proofs.Debts.{debt_refused}
use Rattle.em_tree_cost.proofs.Events.{paid_debt, paid_drain, paid_full, paid_full_root, paid_grow, paid_leave, paid_leave_filled, paid_load, paid_load_some, paid_settle, paid_split, paid_take, paid_thin, paid_thin_root, paid_visit}
use Rattle.em_tree_cost.proofs.Charges.{thin_charge}
use Rattle.em_tree_cost.proofs.Fees.{covers_lowering}
use Rattle.em_tree_cost.proofs.Fitting.{fits_lowering, loading_only, lowering_only, splits_none, splitting_only}
use Rattle.em_tree_cost.proofs.Levels.{size_is}
use Rattle.em_tree_cost.proofs.Paid.{paid_less}
use Rattle.em_tree_cost.proofs.Settling.{settle_owning}

-- a call begins
abbrev pub call_begins : {shape : ShapeNumbers} {c : TreeCounts} {more : ℕ} {t : Sums}
    → KeepsBooks shape c more t → InCall shape c more 0 0 t
call_begins b = record {
  books = b;
  taken = omega (arith, b.paid.fits.sums.left_most);
  taken_since = omega arith;
  parts = omega arith;
}

-- Fewer moves than were paid for, or more that is owed.
pub call_less : {shape : ShapeNumbers} {more h r : ℕ} {t : Sums} (c : TreeCounts) (m low next : ℕ)
    → low ≤ m → more ≤ next → InCall shape (count_moves m c) more h r t
    → InCall shape (count_moves low c) next h r t
call_less c m low next less o b = record {
  books = record {
    counters = b.books.counters;
    n = b.books.n;
    k = b.books.k;
    since = b.books.since;
    z = b.books.z;
    y = b.books.y;
    adopted = b.books.adopted;
    few = b.books.few;
    few_adopted = b.books.few_adopted;
    paid = paid_less (c.spent + low) next (omega arith) o b.books.paid;
  };
  taken = b.taken;
  taken_since = b.taken_since;
  parts = b.parts;
}

-- Few enough operations were pushed for 24 levels.
pub call_few : {shape : ShapeNumbers} {c : TreeCounts} {more h r : ℕ} {t : Sums}
    (b : InCall shape c more h r t) → b.books.counters.k ≤ 2 ^ 103
call_few b = omega (arith, b.books.paid.fits.sums.k_most, b.books.few, b.books.few_adopted, b.books.n, b.books.adopted)

-- levels are those of the k that code carries
same_levels : {shape : ShapeNumbers} {c : TreeCounts} {more h r : ℕ} {t : Sums}
    (b : InCall shape c more h r t) → levels_of shape b.books.counters.k ≡ levels_of shape c.k
same_levels b = rw (b.books.k) refl

-- What an event leaves: the books inside the call, of which it only split leaves, if any.
abbrev pub Charges : (shape : ShapeNumbers) → TreeCounts → (more h r : ℕ) → Counters → Sums → Type 0
Charges shape c more h r cs u = (e : InCall shape c more h r u) × OnlySplits cs e.books.counters

-- an event that leaves what code carries and what was handed out
call_step : {shape : ShapeNumbers} {c : TreeCounts} {more h r : ℕ} {t : Sums}
    (b : InCall shape c more h r t) (m next : ℕ) (cs : Counters) (u : Sums)
    → cs.n ≡ b.books.counters.n → cs.k ≡ b.books.counters.k → cs.since ≡ b.books.counters.since
    → cs.z ≡ b.books.counters.z → cs.y ≡ b.books.counters.y → cs.adopted ≡ b.books.counters.adopted
    → cs.taken_since ≡ b.books.counters.taken_since
    → b.books.counters.splits_since ≤ cs.splits_since → OnlySplits b.books.counters cs
    → PaidFor shape (c.spent + m) next cs u → Charges shape (count_moves m c) next h r b.books.counters u
call_step b m next cs u n k since z y adopted taken_since splits only p = (
  record {
    books = record {
      counters = cs;
      n = omega (arith, n, b.books.n);
      k = omega (arith, k, b.books.k);
      since = omega (arith, since, b.books.since);
      z = omega (arith, z, b.books.z);
      y = omega (arith, y, b.books.y);
      adopted = omega (arith, adopted, b.books.adopted);
      few = b.books.few;
      few_adopted = b.books.few_adopted;
      paid = p;
    };
    taken = omega (arith, b.taken, only.still);
    taken_since = omega (arith, b.taken_since, taken_since);
    parts = omega (arith, b.parts, splits, only);
  },
  only,
)

module _ {shape : ShapeNumbers} {c : TreeCounts} {more h r : ℕ} {t : Sums} (m : ℕ) (u : Sums)
    (is : IsShape shape) (b : InCall shape c more h r t) where
  -- an event of operations that go down or are loaded
  only_step : (next : ℕ) (cs : Counters) → cs.n ≡ b.books.counters.n → cs.k ≡ b.books.counters.k
      → cs.since ≡ b.books.counters.since → cs.z ≡ b.books.counters.z → cs.y ≡ b.books.counters.y
      → cs.adopted ≡ b.books.counters.adopted → cs.taken_since ≡ b.books.counters.taken_since
      → cs.splits_since ≡ b.books.counters.splits_since → OnlySplits b.books.counters cs
      → PaidFor shape (c.spent + m) next cs u → Charges shape (count_moves m c) next h r b.books.counters u
  only_step next cs n k since z y adopted taken splits only p =
      call_step b m next cs u n k since z y adopted taken (omega (arith, splits)) only p

  -- moves that are owed, and sums that fall
  pub charge_debt : (next : ℕ) → SumsFall t u → SameRoot t u → shape.block * m + more ≤ next
      → Charges shape (count_moves m c) next h r b.books.counters u
  charge_debt next f s o =
      let cs = b.books.counters in
      only_step next cs refl refl refl refl refl refl refl refl (splits_none cs)
      (paid_debt m u is b.books.paid next f s o)

  -- a full buffer of x operations in d blocks, other than the root's
  pub charge_full : (x d : ℕ) → SumsLower x t u → SameRoot t u → IsCeil d (payload_of shape) x
      → 2 * wide_of shape * shape.block ≤ x
      → m ≤ full_moves (wide_of shape) (levels_of shape c.k) d
      → Charges shape (count_moves m c) more h r b.books.counters u
  charge_full x d f s i big k =
      let cs = b.books.counters in
      only_step more (after_lowering x cs) refl refl refl refl refl refl refl refl (lowering_only x cs)
      (paid_full m u is b.books.paid x d (call_few b) f s i big (rw (same_levels b) k))

  -- the root's full buffer
  pub charge_full_root : SumsLower t.root t u → u.root ≡ 0 → u.blocks ≡ 0
      → 2 * wide_of shape * shape.block ≤ t.root
      → m ≤ full_moves (wide_of shape) (levels_of shape c.k) t.blocks
      → Charges shape (count_moves m c) more h r b.books.counters u
  charge_full_root f s bl big k =
      let cs = b.books.counters in
      only_step more (after_lowering t.root cs) refl refl refl refl refl refl refl refl (lowering_only t.root cs)
      (paid_full_root m u is b.books.paid (call_few b) f s bl big (rw (same_levels b) k))

  -- a buffer of any length, other than the root's
  pub charge_thin : (x d : ℕ) → SumsLower x t u → SameRoot t u → IsCeil d (payload_of shape) x
      → m ≤ thin_moves (wide_of shape) d
      → Charges shape (count_moves m c) (more + shape.block * thin_debt (wide_of shape)) h r b.books.counters u
  charge_thin x d f s i k =
      let cs = b.books.counters in
      only_step (more + shape.block * thin_debt (wide_of shape)) (after_lowering x cs) refl refl refl refl refl refl
      refl refl (lowering_only x cs) (paid_thin m u is b.books.paid x d f s i k)

  -- the same, with n moves for its node and the children
  pub charge_thin_few : (n x d : ℕ) → SumsLower x t u → SameRoot t u → IsCeil d (payload_of shape) x
      → m ≤ 4 * d + n → Charges shape (count_moves m c) (more + shape.block * (n + 4)) h r b.books.counters u
  charge_thin_few n x d f s i k =
      let B = shape.block in
      let cs = b.books.counters in
      let p = b.books.paid in
      let size = size_is shape is in
      let thin = thin_charge (wide_of shape) B (payload_of shape) d x size i in
      let g : B * m ≤ B * (4 * d + n) = mul-le-mul_left B k in
      let next = more + B * (n + 4) in
      only_step next (after_lowering x cs) refl refl refl refl refl refl refl refl (lowering_only x cs) (record {
        fits = fits_lowering u p.fits x f;
        covers = covers_lowering m next u p.covers x s (omega (arith, thin, g));
        root = rw (s.root, s.blocks) p.root;
      })

  -- the root's buffer of any length, with e moves for the root and its children
  pub charge_thin_root : (e : ℕ) → SumsLower t.root t u → u.root ≡ 0 → u.blocks ≡ 0
      → m ≤ 4 * t.blocks + e
      → Charges shape (count_moves m c) (more + shape.block * (e + 6)) h r b.books.counters u
  charge_thin_root e f s bl k =
      let cs = b.books.counters in
      only_step (more + shape.block * (e + 6)) (after_lowering t.root cs) refl refl refl refl refl refl refl refl
      (lowering_only t.root cs) (paid_thin_root m u is b.books.paid e f s bl k)

  -- a full load, in d blocks, into a leaf of e blocks
  pub charge_load : (d e : ℕ) → SumsLoad (wide_of shape * shape.block) t u → SameRoot t u
      → IsCeil d (payload_of shape) (wide_of shape * shape.block) → e ≤ 4 * wide_of shape + 1
      → m ≤ load_moves (levels_of shape c.k) d e
      → Charges shape (count_moves m c) more h r b.books.counters u
  charge_load d e f s i big k =
      let cs = b.books.counters in
      only_step more (after_loading (wide_of shape * shape.block) cs) refl refl refl refl refl refl refl refl
      (loading_only (wide_of shape * shape.block) cs)
      (paid_load m u is b.books.paid d e (call_few b) f s i big (rw (same_levels b) k))

  -- a load of y operations that owes its moves but for 36 for each operation
  pub charge_load_some : (y next : ℕ) → SumsLoad y t u → SameRoot t u
      → shape.block * m + more ≤ 36 * y + next
      → Charges shape (count_moves m c) next h r b.books.counters u
  charge_load_some y next f s o =
      let cs = b.books.counters in
      only_step next (after_loading y cs) refl refl refl refl refl refl refl refl (loading_only y cs)
      (paid_load_some m u is b.books.paid y next f s o)

  -- a leaf's split, with all that follows
  pub charge_split : (d : ℕ) → SumsSplit (wide_of shape) shape.block t u → SameRoot t u
      → IsCeil d (payload_of shape) ((2 * levels_of shape c.k + 1) * wide_of shape * shape.block)
      → m ≤ split_moves (wide_of shape) (levels_of shape c.k) d
      → Charges shape (count_moves m c) more h r b.books.counters u
  charge_split d f s i k =
      let cs = b.books.counters in
      let levels = same_levels b in
      call_step b m more (after_splitting cs) u refl refl refl refl refl refl refl (omega arith) (splitting_only cs)
      (paid_split m u is b.books.paid d (call_few b) f s (rw levels i) (rw levels k))

  -- the books alone
  pub call_debt : (next : ℕ) → SumsFall t u → SameRoot t u → shape.block * m + more ≤ next
      → InCall shape (count_moves m c) next h r u
  call_debt next f s o = (charge_debt next f s o).0

  pub call_full_root : SumsLower t.root t u → u.root ≡ 0 → u.blocks ≡ 0
      → 2 * wide_of shape * shape.block ≤ t.root
      → m ≤ full_moves (wide_of shape) (levels_of shape c.k) t.blocks
      → InCall shape (count_moves m c) more h r u
  call_full_root f s bl big k = (charge_full_root f s bl big k).0

  pub call_thin_root : (e : ℕ) → SumsLower t.root t u → u.root ≡ 0 → u.blocks ≡ 0
      → m ≤ 4 * t.blocks + e → InCall shape (count_moves m c) (more + shape.block * (e + 6)) h r u
  call_thin_root e f s bl k = (charge_thin_root e f s bl k).0

  pub call_load : (d e : ℕ) → SumsLoad (wide_of shape * shape.block) t u → SameRoot t u
      → IsCeil d (payload_of shape) (wide_of shape * shape.block) → e ≤ 4 * wide_of shape + 1
      → m ≤ load_moves (levels_of shape c.k) d e → InCall shape (count_moves m c) more h r u
  call_load d e f s i big k = (charge_load d e f s i big k).0

  pub call_load_some : (y next : ℕ) → SumsLoad y t u → SameRoot t u
      → shape.block * m + more ≤ 36 * y + next → InCall shape (count_moves m c) next h r u
  call_load_some y next f s o = (charge_load_some y next f s o).0

  -- g records were handed out
  pub call_take : (g next : ℕ) → SumsTake g t u → SameRoot t u
      → shape.block * m + more ≤ 18 * g + next → InCall shape (count_moves m c) next (h + g) r u
  call_take g next f s o = record {
    books = record {
      counters = after_taking g 0 b.books.counters;
      n = b.books.n;
      k = b.books.k;
      since = b.books.since;
      z = b.books.z;
      y = b.books.y;
      adopted = b.books.adopted;
      few = b.books.few;
      few_adopted = b.books.few_adopted;
      paid = paid_take m u is b.books.paid g next f s o;
    };
    taken = omega (arith, b.taken);
    taken_since = omega (arith, b.taken_since);
    parts = b.parts;
  }

  -- The end of a leaf's visit, after which the leaf is taken away: another one is there.
  pub call_visit : SumsRemove t u → SameRoot t u
      → shape.block * m + more ≤ shape.block * visit_debt (wide_of shape) (levels_of shape c.k)
      → InCall shape (count_moves m c) 0 h 1 u
  call_visit f s o =
      let a = b.books.paid.fits in
      record {
        books = record {
          counters = after_removing b.books.counters;
          n = b.books.n;
          k = b.books.k;
          since = b.books.since;
          z = b.books.z;
          y = b.books.y;
          adopted = b.books.adopted;
          few = b.books.few;
          few_adopted = b.books.few_adopted;
          paid = paid_visit m u is b.books.paid (call_few b) f s (rw (same_levels b) o);
        };
        taken = b.taken;
        taken_since = b.taken_since;
        parts = omega (arith, a.sums.leaves_are, f.leaves, f.some);
      }

  -- the end of a call that leaves some, with its last g records: it took half of an area or more
  pub call_leave : (g : ℕ) → wide_of shape * shape.block ≤ 2 * (h + g) → SumsTake g t u
      → SameRoot t u
      → (shape.block * m + more
      ≤ shape.block * leave_debt (wide_of shape) (levels_of shape c.k) + 18 * g)
      → KeepsBooks shape (count_moves m c) 0 u
  call_leave g half f s o =
      let levels = same_levels b in
      let p = paid_leave m u is b.books.paid g (h + g) (call_few b) (omega (arith, b.taken))
      (omega (arith, b.taken_since)) half f s (rw levels o) in
      books_step b.books m 0 (after_taking g (h + g) b.books.counters) u refl refl refl refl refl refl p

  -- the same of a call that filled the area, after which the rest of a leaf is written anew
  pub call_leave_filled : (g : ℕ) → wide_of shape * shape.block ≤ h + g → SumsTake g t u
      → SameRoot t u
      → (shape.block * m + more
      ≤ shape.block * filled_debt (wide_of shape) (levels_of shape c.k) + 18 * g)
      → KeepsBooks shape (count_moves m c) 0 u
  call_leave_filled g half f s o =
      let levels = same_levels b in
      let p = paid_leave_filled m u is b.books.paid g (h + g) (call_few b) (omega (arith, b.taken))
      (omega (arith, b.taken_since)) half f s (rw levels o) in
      books_step b.books m 0 (after_taking g (h + g) b.books.counters) u refl refl refl refl refl refl p

  -- The end of `settle_all` or `finish`, or of one that was refused: d are the moves that no operation or load pays for. It pays
  -- for the splits since the reset too.
  pub call_settle : (start : Counters) (old : Sums) (d : ℕ) → SameRoot t u → SumsFall t u
      → shape.block * m + more ≤ shape.block * d
      → d ≤ settle_rest shape c.k
      → IsCounted shape c start old → StillTaken start b.books.counters
      → Balanced shape (count_settle m c) u
  call_settle start old d s f o k counted still =
      let own = settle_owning is b.books.paid.fits in
      let low : d ≤ settle_rest shape b.books.counters.k = rw (b.books.k) k in
      books_settle b.books start old m u (paid_settle m u is b.books.paid d s f o (omega (arith, own, low))) counted still

module _ {shape : ShapeNumbers} {c : TreeCounts} {more h r : ℕ} {t : Sums}
    (b : InCall shape c more h r t) where
  -- A new root, whose moves the split paid for: its halves have this many leaves (`root_leaves`).
  pub charge_grow : (u : Sums) → IsShape shape → (2 * wide_of shape) ^ t.level + 1 ≤ t.leaves
      → SumsGrow t u → SameRoot t u → Charges shape c more h r b.books.counters u
  charge_grow u is some f s = (
    record {
      books = record {
        counters = b.books.counters;
        n = b.books.n;
        k = b.books.k;
        since = b.books.since;
        z = b.books.z;
        y = b.books.y;
        adopted = b.books.adopted;
        few = b.books.few;
        few_adopted = b.books.few_adopted;
        paid = paid_grow b.books.paid u is some f s;
      };
      taken = b.taken;
      taken_since = b.taken_since;
      parts = b.parts;
    },
    splits_none b.books.counters,
  )

  parts_two : WasSplit r t → 2 ≤ parts_since b.books.counters
  parts_two split =
      let a = b.books.paid.fits in ⊎_elim
      (λ (k : 1 ≤ r). omega (arith, k, b.parts))
      (λ (k : (2 ≤ t.leaves) ⊎ (2 ≤ t.level)). ⊎_elim
      (λ (more_leaves : 2 ≤ t.leaves). omega (arith, more_leaves, a.sums.leaves_are))
      (λ (high : 2 ≤ t.level). ⊎_elim
      (λ (low : t.level ≡ 1). absurd (omega (arith, low, high)))
      (λ (some : 2 ≤ parts_since b.books.counters). some)
      a.root.level_parts)
      k)
      split.some

  -- A leaf was split: so much is known from then on.
  pub call_known : WasSplit r t → InCall shape c more h 1 t
  call_known split = record {
    books = b.books;
    taken = b.taken;
    taken_since = b.taken_since;
    parts = omega (arith, parts_two split);
  }

  -- The end of a call that leaves nothing, on a tree whose root's buffer is empty. If a leaf was
  -- split since the reset, it may owe a visit.
  pub call_drain : (m : ℕ) → IsShape shape → t.root ≡ 0 → t.blocks ≡ 0
      → (shape.block * m + more ≤ toll_of shape c.k)
      ⊎ WasSplit r t × (shape.block * m + more
      ≤ toll_of shape c.k + shape.block * (wide_of shape * (20 * levels_of shape c.k + 31)))
      → KeepsBooks shape (count_drain m c) 0 fresh_sums
  call_drain m is root blocks k =
      let cs = b.books.counters in
      let w = wide_of shape in let B = shape.block in
      let visit = B * (w * (20 * levels_of shape cs.k + 31)) in
      let k2 : (B * m + more ≤ toll_of shape cs.k)
      ⊎ WasSplit r t × (B * m + more ≤ toll_of shape cs.k + visit) = rw (b.books.k) k in
      let owed : (B * m + more ≤ toll_of shape cs.k)
      ⊎ (2 ≤ parts_since cs) × (B * m + more ≤ toll_of shape cs.k + visit) = ⊎_elim
      (λ (x : B * m + more ≤ toll_of shape cs.k). inl x)
      (λ (x : WasSplit r t × (B * m + more ≤ toll_of shape cs.k + visit)). inr (parts_two x.0, x.1))
      k2 in
      books_drain b.books m fresh_sums (paid_drain b.books.paid m is root blocks owed)

  -- A call that is refused is within the share: it owes at most 18 for each record there, and a
  -- reset's toll. If a leaf was split since the reset, it may owe for a path and an open visit too.
  pub call_refused : IsShape shape
      → (more ≤ 18 * (t.waiting + t.stored) + toll_of shape c.k)
      ⊎ WasSplit r t × RefusedDebt shape c.k more
      → c.spent ≤ tree_share shape (c.n + c.adopted) c.k c.z c.y
  call_refused is owed =
      let cs = b.books.counters in
      let same = b.books.k in ⊎_elim
      (λ (few : more ≤ 18 * (t.waiting + t.stored) + toll_of shape c.k).
      books_within b.books 0 is (record { most = inl refl; some = inl refl }) (omega (arith, few)))
      (λ (x : WasSplit r t × RefusedDebt shape c.k more).
      let split = parts_two x.0 in
      let path : RefusedDebt shape cs.k more = rw same x.1 in
      let open_visit = debt_refused shape more path.j path.e cs t is split path.debt path.most in
      books_within b.books (open_visit_debt shape cs.k) is open_visit.0 (rw (← same) open_visit.1))
      owed

  -- the end of a call that owes nothing
  pub call_ends : more ≡ 0 → KeepsBooks shape c 0 t
  call_ends none = rw none at b.books
