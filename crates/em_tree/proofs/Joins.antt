-- The books of a tree of which leaves were joined, by plain sums: each leaf that is gone owes the fee of a split.
use Rattle.std.proofs.Common.{◌≡◌, ℕ, zero, suc, ◌+◌, ◌*◌, ◌^◌, ◌≤◌, refl, sym, subst, arith, ◌⊎◌, inl, inr, ⊎_elim}
use Rattle.em_record.specs.Shape.{ShapeNumbers, IsShape, wide_of}
use Rattle.em_tree_cost.specs.Books.{Balanced, IsCounted, KeepsBooks, TreeCounts, count_moves, count_settle}
use Rattle.em_tree_cost.specs.Counters.{Counters, Sums}
use Rattle.em_tree_cost.specs.Effects.{SameRoot, StillTaken}
use Rattle.em_tree_cost.specs.Fusing.{SumsFuse, SumsShare, split_fee, with_level}
use Rattle.em_tree_cost.specs.Paid.{settle_rest}
use Rattle.em_tree_cost.specs.Shares.{levels_of, tree_share}
use Rattle.em_tree_cost.proofs.Books.{books_share}
use Rattle.em_tree_cost.proofs.Fitting.{still_then}
use Rattle.em_tree_cost.proofs.Fusing.{books_fusing, books_level, books_sharing}
use Rattle.em_tree_cost.proofs.InCall.{call_begins, call_settle}
use Rattle.em_trunk.specs.Events.{Charges}
use Rattle.em_trunk.proofs.Charges.{books_less, charges_books}
use Rattle.em_trunk.proofs.Ends.{balanced_less, sums_stay}
use Rattle.em_tree.specs.Trimmed.{SumsJoin}

fee_more : (B r f more : ℕ) → B * 0 + (more + B * (r * f)) + B * f ≤ more + B * (suc r * f)
fee_more B r f more = let e : B * (suc r * f) ≡ B * (r * f) + B * f = grind arith in omega (arith, e)

excess_more : (w B r x : ℕ) → x + w * B * suc r ≤ x + w * B * r + w * B
excess_more w B r x = let e : w * B * suc r ≡ w * B * r + w * B = grind arith in omega (arith, e)

none_more : (w B x : ℕ) → x + w * B * 0 ≤ x
none_more w B x = let e : w * B * 0 ≡ 0 = grind arith in omega (arith, e)

-- with other leaves and another excess, as a tree of level 1
abbrev joined : Sums → ℕ → ℕ → Sums
joined t n e = record t { level = 1; leaves = n; excess = e }

-- The root's level is 1, or it is low enough for what is stored, and two leaves are there.
pub record FitsLevel (shape : ShapeNumbers) (u : Sums) : Type 0 where
  pub either : (u.level ≡ 1)
      ⊎ (1 ≤ u.level) × (shape.block * (2 * wide_of shape) ^ u.level ≤ u.stored) × (2 ≤ u.leaves)

-- what each leaf that is gone owes, in moves
abbrev fee_of : ShapeNumbers → TreeCounts → ℕ
fee_of shape c = split_fee (wide_of shape) (levels_of shape c.k)

module _ {shape : ShapeNumbers} {c : TreeCounts} where
  -- One leaf after another is gone.
  joins : {more : ℕ} {t : Sums} (b : KeepsBooks shape c more t) (r n : ℕ) → n + r ≡ t.leaves → 1 ≤ n
      → (e : KeepsBooks shape c (more + shape.block * (r * fee_of shape c))
      (joined t n (t.excess + wide_of shape * shape.block * r))) × StillTaken b.counters e.counters
  joins {more = more} {t = t} b zero n e some =
      let w = wide_of shape in
      let B = shape.block in
      let u = joined t n (t.excess + w * B * 0) in
      let next = more + B * (0 * fee_of shape c) in
      let none = none_more w B t.excess in
      let share : SumsShare t u = record {
        flat = refl;
        leaves = omega (arith, e);
        waiting = omega arith;
        weight = omega arith;
        stored = omega arith;
        excess = none;
      } in
      let x = books_sharing b 0 next u share (record { root = refl; blocks = refl }) (omega arith) in
      let y = books_less (count_moves 0 c) c next next refl refl refl refl refl refl (omega arith) (omega arith) x.0 in
      let S : Counters → Type 0 = StillTaken b.counters in
      (y.0, subst S (sym y.1) x.1)
  joins {more = more} {t = t} b (suc r) n e some =
      let w = wide_of shape in
      let B = shape.block in
      let mid = joined t (n + 1) (t.excess + w * B * r) in
      let u = joined t n (t.excess + w * B * suc r) in
      let next = more + B * (suc r * fee_of shape c) in
      let fuse : SumsFuse w B mid u = record {
        flat = refl;
        leaves = refl;
        some = some;
        waiting = omega arith;
        weight = omega arith;
        stored = omega arith;
        excess = excess_more w B r t.excess;
      } in
      let i = joins b r (n + 1) (omega (arith, e)) (omega arith) in
      let x = books_fusing i.0 0 next u fuse (record { root = refl; blocks = refl }) (fee_more B r (fee_of shape c) more) in
      let y = books_less (count_moves 0 c) c next next refl refl refl refl refl refl (omega arith) (omega arith) x.0 in
      let S : Counters → Type 0 = StillTaken i.0.counters in
      (y.0, still_then i.1 (subst S (sym y.1) x.1))

  -- Leaves were joined, with m moves, and the level is looked at again.
  pub joined_books : {more : ℕ} {t : Sums} (b : KeepsBooks shape c more t) (m r next : ℕ) (u : Sums)
      → SumsJoin (wide_of shape) shape.block r t u → SameRoot t u → FitsLevel shape u
      → shape.block * m + more + shape.block * (r * split_fee (wide_of shape) (levels_of shape c.k)) ≤ next
      → (e : KeepsBooks shape (count_moves m c) next u) × StillTaken b.counters e.counters
  joined_books {more = more} {t = t} b m r next u j s l h =
      let w = wide_of shape in
      let B = shape.block in
      let mid = joined t u.leaves (t.excess + w * B * r) in
      let flat = with_level 1 u in
      let all = joins b r u.leaves j.leaves j.some in
      let share : SumsShare mid flat = record {
        flat = refl;
        leaves = refl;
        waiting = j.waiting;
        weight = j.weight;
        stored = j.stored;
        excess = j.excess;
      } in
      let k = books_sharing all.0 m next flat share (record { root = s.root; blocks = s.blocks })
      (omega (arith, h)) in
      let f = k.0.paid.fits.sums in
      let since = f.since_pushed in
      let most = f.since_most in
      let same = k.0.k in
      let few : u.stored ≤ c.k = omega (arith, since, most, same) in
      let P : Type 0 = (u.level ≡ 1) ⊎ (1 ≤ u.level) × (B * (2 * w) ^ u.level ≤ c.k) × (2 ≤ u.leaves) in
      let low : P = ⊎_elim
      (λ (x : u.level ≡ 1). inl x)
      (λ (x : (1 ≤ u.level) × (B * (2 * w) ^ u.level ≤ u.stored) × (2 ≤ u.leaves)).
      inr (x.0, omega (arith, x.1, few), x.2))
      l.either in
      let end_is = books_level k.0 u.level low in
      (end_is.0, still_then all.1 (still_then k.1 end_is.1))

module _ {shape : ShapeNumbers} {t x : Sums} (c : TreeCounts) (m1 q d m2 : ℕ) (is : IsShape shape)
    (b : Balanced shape c t) (h : Charges shape c.k 0 m1 q (shape.block * d) t x) where
  -- A settling, after which leaves were joined.
  pub trimmed_books : (e : TreeCounts) (r : ℕ) (u : Sums) → SumsJoin (wide_of shape) shape.block r x u
      → SameRoot x u → FitsLevel shape u
      → d + m2 + r * split_fee (wide_of shape) (levels_of shape c.k) ≤ settle_rest shape c.k
      → e.n ≡ c.n → e.k ≡ c.k → e.since ≡ c.since → e.z ≡ c.z → e.y ≡ c.y + 1
      → e.adopted ≡ c.adopted → e.counted ≡ c.counted
      → e.spent ≡ c.spent + m1 + m2 → Balanced shape e u
  trimmed_books e r u j s l most n k since z y adopted counted spent =
      let B = shape.block in
      let f = split_fee (wide_of shape) (levels_of shape c.k) in
      let owed = d + m2 + r * f in
      let start = books_less c (count_moves 0 c) 0 0 refl refl refl refl refl refl (omega arith) (omega arith) b.books in
      let P : Counters → Type 0 = λ cs. IsCounted shape c cs t in
      let here = subst P (sym start.1) b.counted in
      let emptied = charges_books h c 0 refl start.0 in
      let sum : B * m2 + (0 + B * d) + B * (r * f) ≤ B * owed = omega arith in
      let k1 = joined_books emptied.call.books m2 r (B * owed) u j s l sum in
      let c2 = count_moves m2 (count_moves (m1 + q) c) in
      let end_is = call_settle 0 u is (call_begins k1.0) start.0.counters t owed (record { root = refl; blocks = refl })
      (sums_stay u) (omega arith) most here (still_then emptied.only.still k1.1) in
      balanced_less (count_settle 0 c2) e n k since z y adopted counted (omega (arith, spent)) end_is

  -- A settling, after which m2 moves more were made, and which gave up.
  pub stopped_books : d + m2 ≤ settle_rest shape c.k
      → c.spent + (m1 + m2) ≤ tree_share shape (c.n + c.counted) c.k c.z (c.y + 1)
  stopped_books most =
      let B = shape.block in
      let e = record c { spent = c.spent + (m1 + m2); y = c.y + 1 } in
      let start = books_less c (count_moves 0 c) 0 0 refl refl refl refl refl refl (omega arith) (omega arith) b.books in
      let P : Counters → Type 0 = λ cs. IsCounted shape c cs t in
      let here = subst P (sym start.1) b.counted in
      let emptied = charges_books h c 0 refl start.0 in
      let sum : B * m2 + (0 + B * d) ≤ B * (d + m2) = omega arith in
      let end_is = call_settle m2 x is (call_begins emptied.call.books) start.0.counters t (d + m2)
      (record { root = refl; blocks = refl }) (sums_stay x) sum most here emptied.only.still in
      books_share is (balanced_less (count_settle m2 (count_moves (m1 + q) c)) e refl refl refl refl refl refl refl
      (omega arith) end_is)
