-- The books of a call that takes records out, on the way to a leaf and at each end of a visit.
use Rattle.std.proofs.Common.{◌≡◌, ℕ, ◌+◌, ◌*◌, ◌<◌, ◌≤◌, refl, subst, arith, ◌⊎◌, inl, inr, ⊎_elim}
use Rattle.std.proofs.Math.Nat.{mul-le-mul_left}
use Rattle.std.proofs.lemmas.Bool.{cases_lt}
use Rattle.em_record.specs.Shape.{IsShape, ShapeNumbers, payload_of, wide_of}
use Rattle.em_tree_cost.specs.Books.{InCall, KeepsBooks, TreeCounts, WasSplit, count_drain, count_moves}
use Rattle.em_tree_cost.specs.Counters.{Sums, fresh_sums}
use Rattle.em_tree_cost.specs.Effects.{SameRoot, SumsRemove, SumsTake}
use Rattle.em_tree_cost.specs.Paid.{toll_of}
use Rattle.em_tree_cost.specs.Shares.{levels_of, tree_share}
use Rattle.em_tree_cost.specs.Sizes.{IsCeil, IsLevels}
use Rattle.em_tree_cost.specs.Visits.{arrival_debt}
use Rattle.em_tree_cost.proofs.InCall.{call_debt, call_drain, call_known, call_leave, call_refused, call_take, call_visit}
use Rattle.em_tree_cost.proofs.Levels.{size_is}
use Rattle.em_tree_cost.proofs.Visits.{alone_drain, alone_take, drain_number, leave_number, probe_number, read_number, refused_fits, take_number, toll_low, visit_number}
use Rattle.em_trunk.specs.Events.{Charges, MayRefuse, path_most}
use Rattle.em_tree_visits.specs.FirstVisits.{IsSingle, OwesAt}
use Rattle.em_trunk.proofs.Charges.{books_less, call_fewer}
use Rattle.em_trunk.proofs.Ends.{sums_stay}
use Rattle.em_trunk.proofs.StepWorks.{refused_either}

-- the root's buffer stays
pub same_buffer : (t u : Sums) → u.root ≡ t.root → u.blocks ≡ t.blocks → SameRoot t u
same_buffer t u a b = record { root = a; blocks = b }

-- A tree has one leaf alone, or a leaf of it was split.
pub single_or : (t : Sums) → IsSingle t ⊎ ((2 ≤ t.leaves) ⊎ (2 ≤ t.level))
single_or t = ⊎_elim
    (λ (few : t.leaves < 2). ⊎_elim
    (λ (low : t.level < 2). inl (omega (arith, few), omega (arith, low)))
    (λ (high : 2 ≤ t.level). inr (inr high))
    (cases_lt t.level 2))
    (λ (many : 2 ≤ t.leaves). inr (inl many))
    (cases_lt t.leaves 2)

-- The books at a moment of a call, with what it owes.
pub record StandsOwing (shape : ShapeNumbers) (c : TreeCounts) (most stored few h : ℕ) (t : Sums)
    : Type 0 where
  pub owed : ℕ
  pub split : ℕ
  pub books : InCall shape c owed h split t
  pub owes : OwesAt shape most stored few owed split t

module _ {shape : ShapeNumbers} {k m owed r h : ℕ} {t u : Sums} (most more few stored next d : ℕ)
    (low : few ≤ most) (full : Charges shape k 0 m 0 (shape.block * more) t u)
    (one : IsSingle u → Charges shape k 0 m 0 d t u)
    (fits : shape.block * few + d ≤ 6 * stored + shape.block * next)
    (o : OwesAt shape most 0 few owed r t) (c : TreeCounts) (same : c.k ≡ k)
    (b : InCall shape c owed h r t) where
  start : InCall shape (count_moves 0 c) owed h r t
  start = call_fewer c (count_moves 0 c) owed owed refl refl refl refl refl refl (omega arith) (omega arith) b

  with_full : InCall shape (count_moves m c) (owed + shape.block * more) h r u
  with_full = call_fewer (count_moves (m + 0) c) (count_moves m c) (owed + shape.block * more)
      (owed + shape.block * more) refl refl refl refl refl refl (omega arith) (omega arith)
      (full.books c owed h r same start).call

  with_one : IsSingle u → InCall shape (count_moves m c) (owed + d) h r u
  with_one i = call_fewer (count_moves (m + 0) c) (count_moves m c) (owed + d) (owed + d)
      refl refl refl refl refl refl (omega arith) (omega arith) ((one i).books c owed h r same start).call

  few_most : shape.block * few ≤ shape.block * most
  few_most = mul-le-mul_left shape.block low

  -- A part of the way, with its debt: as moves if a leaf was split, or else by the records that are stored.
  pub stage : StandsOwing shape (count_moves m c) (most + more) stored next h u
  stage =
      let B = shape.block in
      let sum : B * (most + more) ≡ B * most + B * more = omega arith in
      let low_owed = few_most in
      let split_at = λ (x : (2 ≤ u.leaves) ⊎ (2 ≤ u.level)).
      (let w : WasSplit r u = record { some = inr x } in
      let owes : owed ≤ B * most = ⊎_elim
      (λ (y : (1 ≤ r) × (owed ≤ B * most)). y.1)
      (λ (y : IsSingle t × (owed ≤ 6 * 0 + B * few)). (let z = y.1 in omega (arith, z, low_owed)))
      o.either in
      let q : StandsOwing shape (count_moves m c) (most + more) stored next h u = record {
        owed = owed + B * more;
        split = 1;
        books = call_known with_full w;
        owes = record { either = inl (omega arith, omega (arith, owes, sum)) };
      } in q) in
      let single = λ (i : IsSingle u). ⊎_elim
      (λ (y : (1 ≤ r) × (owed ≤ B * most)).
      (let z = y.1 in
      let q : StandsOwing shape (count_moves m c) (most + more) stored next h u = record {
        owed = owed + B * more;
        split = r;
        books = with_full;
        owes = record { either = inl (y.0, omega (arith, z, sum)) };
      } in q))
      (λ (y : IsSingle t × (owed ≤ 6 * 0 + B * few)).
      (let z = y.1 in
      let q : StandsOwing shape (count_moves m c) (most + more) stored next h u = record {
        owed = owed + d;
        split = r;
        books = with_one i;
        owes = record { either = inr (i, omega (arith, z, fits)) };
      } in q))
      o.either in
      ⊎_elim single split_at (single_or u)

-- A refused call is within its share, with m moves more.
pub share_more : {shape : ShapeNumbers} {c : TreeCounts} {more h r : ℕ} {t : Sums} (m held : ℕ)
    → IsShape shape → InCall shape c more h r t → held ≤ t.waiting + t.stored
    → MayRefuse shape c.k r (more + shape.block * m) held
    → c.spent + m ≤ tree_share shape (c.n + c.adopted) c.k c.z c.y
share_more {shape} {c} {more} {h} {r} {t} m held is b some may =
    let q = call_debt m t is b (more + shape.block * m) (sums_stay t) (same_buffer t t refl refl)
    (omega arith) in
    call_refused q is (refused_either t some may)

-- The least that a reset pays for.
pub toll_more : (shape : ShapeNumbers) (k n owed : ℕ) → n ≤ 63 + levels_of shape k
    → owed ≤ shape.block * n → owed ≤ toll_of shape k
toll_more shape k n owed few o =
    let t = toll_low shape k in
    let m : shape.block * n ≤ shape.block * (63 + levels_of shape k) = mul-le-mul_left shape.block few in
    omega (arith, t, m, o)

-- What may be owed on the way, with m moves more.
pub may_by : (shape : ShapeNumbers) (k most stored few owed r m : ℕ) {t : Sums}
    → OwesAt shape most stored few owed r t → most + m ≤ path_most shape k
    → (IsSingle t → few + m ≤ 63 + levels_of shape k)
    → MayRefuse shape k r (owed + shape.block * m) stored
may_by shape k most stored few owed r m {t} o fits low =
    let B = shape.block in
    let all : B * (most + m) ≤ B * path_most shape k = mul-le-mul_left B fits in
    let sum : B * (most + m) ≡ B * most + B * m = omega arith in
    let two : B * (few + m) ≡ B * few + B * m = omega arith in
    record {
      either = ⊎_elim
          (λ (x : (1 ≤ r) × (owed ≤ B * most)). (let y = x.1 in inr (x.0, omega (arith, y, all, sum))))
          (λ (x : IsSingle t × (owed ≤ 6 * stored + B * few)).
          (let y = x.1 in
          let toll = toll_more shape k (few + m) (B * (few + m)) (low x.0) (omega arith) in
          inl (omega (arith, y, two, toll))))
          o.either;
    }

-- Before a leaf, what is owed is the debt of a way that began at some level.
pub record OwesWay (shape : ShapeNumbers) (L owed : ℕ) : Type 0 where
  pub at : ℕ
  pub down : at ≤ L
  pub most : owed ≤ shape.block * arrival_debt shape L at

pub owes_way : {shape : ShapeNumbers} {most stored few owed r : ℕ} {t : Sums} (L at : ℕ) → IsShape shape
    → IsLevels L → at ≤ L → most ≤ arrival_debt shape L at → few ≤ 47 + L
    → (IsSingle t → stored ≤ 4 * wide_of shape * shape.block) → OwesAt shape most stored few owed r t
    → OwesWay shape L owed
owes_way {shape} {most} {stored} {few} {owed} {r} {t} L at is levels down fits low held o =
    let B = shape.block in
    let w = wide_of shape in
    let size = size_is shape is in
    let a : B * most ≤ B * arrival_debt shape L at = mul-le-mul_left B fits in
    let b : B * (24 * w + few) ≤ B * arrival_debt shape L 1 =
    mul-le-mul_left B (omega (arith, low, size.wide)) in
    let sum : B * (24 * w + few) ≡ 6 * (4 * w * B) + B * few = omega arith in
    ⊎_elim
    (λ (x : (1 ≤ r) × (owed ≤ B * most)).
    (let y = x.1 in
    let q : OwesWay shape L owed = record { at = at; down = down; most = omega (arith, y, a) } in q))
    (λ (x : IsSingle t × (owed ≤ 6 * stored + B * few)).
    (let y = x.1 in let most_held = held x.0 in
    let q : OwesWay shape L owed =
    record { at = 1; down = levels.some; most = omega (arith, y, b, sum, most_held) } in q))
    o.either

module _ {shape : ShapeNumbers} {c : TreeCounts} {owed h r : ℕ} {t : Sums} (is : IsShape shape)
    (levels : IsLevels (levels_of shape c.k)) (b : InCall shape c owed h r t)
    (o : OwesWay shape (levels_of shape c.k) owed) where
  -- A call ends that has taken more than half of an area before, and takes no more.
  pub probe_ends : wide_of shape * shape.block ≤ 2 * h → KeepsBooks shape c 0 t
  probe_ends half =
      let L = levels_of shape c.k in
      let take : SumsTake 0 t t = record {
        level = refl;
        leaves = refl;
        waiting = omega arith;
        weight = omega arith;
        stored = omega arith;
        excess = omega arith;
      } in
      let e = call_leave 0 t is b 0 (omega (arith, half)) take (same_buffer t t refl refl)
      (probe_number shape owed (arrival_debt shape L o.at) L o.at is levels o.down o.most (omega arith)) in
      (books_less (count_moves 0 c) c 0 0 refl refl refl refl refl refl (omega arith) (omega arith) e).0

  -- One that takes its last records, and leaves some,
  pub leave_ends : {u : Sums} (g m blocks : ℕ) → SumsTake g t u → SameRoot t u
      → wide_of shape * shape.block ≤ 2 * (h + g) → IsCeil blocks (payload_of shape) g
      → m ≤ 2 * blocks + 3 → KeepsBooks shape (count_moves m c) 0 u
  leave_ends {u} g m blocks take root half ceil few =
      let L = levels_of shape c.k in
      call_leave m u is b g half take root
      (leave_number shape owed (arrival_debt shape L o.at) m g blocks is ceil few o.most L o.at levels o.down
      (omega arith))

  -- and a visit that takes all records of a leaf, which is removed then.
  module _ (g m1 m2 blocks : ℕ) (mid : Sums) (take : SumsTake g t mid) (root : SameRoot t mid)
      (ceil : IsCeil blocks (payload_of shape) g) (few : m1 ≤ 2 * blocks + 3) where
    taken : InCall shape (count_moves m1 c)
        (shape.block * (arrival_debt shape (levels_of shape c.k) o.at + 5)) (h + g) r mid
    taken =
        let D = arrival_debt shape (levels_of shape c.k) o.at in
        call_take m1 mid is b g (shape.block * (D + 5)) take root
        (take_number shape owed D m1 g blocks is ceil few o.most)

    pub visit_ends : {u : Sums} → SumsRemove mid u → SameRoot mid u → m2 + 1 ≤ 4 * levels_of shape c.k
        → InCall shape (count_moves (m1 + m2) c) 0 (h + g) 1 u
    visit_ends {u} remove same less =
        let L = levels_of shape c.k in
        let D = arrival_debt shape L o.at in
        let e = call_visit m2 u is taken remove same
        (visit_number shape (shape.block * (D + 5)) (D + 5) L o.at m2 is levels o.down (omega arith) (omega arith)
        less) in
        call_fewer (count_moves m2 (count_moves m1 c)) (count_moves (m1 + m2) c) 0 0
        refl refl refl refl refl refl (omega arith) (omega arith) e

-- A call takes the records of a leaf alone, and leaves a new tree.
module _ {shape : ShapeNumbers} {c : TreeCounts} {most stored few h : ℕ} {t : Sums} (is : IsShape shape)
    (levels : IsLevels (levels_of shape c.k)) (q : StandsOwing shape c most stored few h t) (at : ℕ)
    (down : at ≤ levels_of shape c.k) (fits : most ≤ arrival_debt shape (levels_of shape c.k) at)
    (low : few ≤ 47 + levels_of shape c.k) (g m1 m2 blocks : ℕ) (mid : Sums) (take : SumsTake g t mid)
    (root : SameRoot t mid) (ceil : IsCeil blocks (payload_of shape) g) (reads : m1 ≤ 2 * blocks + 3)
    (empty : mid.root ≡ 0) (none : mid.blocks ≡ 0) (made : m2 ≤ 2 * t.level + 6)
    (high : t.level ≤ levels_of shape c.k) where
  drained_as : (m2 ≤ 2 * t.level + 6) → KeepsBooks shape (count_drain m2 (count_moves m1 c)) 0 fresh_sums
      → KeepsBooks shape (count_drain (m1 + m2) c) 0 fresh_sums
  drained_as x e =
      let n : c.spent + m1 + m2 ≡ c.spent + (m1 + m2) = omega arith in
      let P : ℕ → Type 0 = λ y.
      KeepsBooks shape (record c { since = 0; z = c.z + 1; spent = y }) 0 fresh_sums in
      subst P n e

  -- A leaf was split before,
  split_drains : (1 ≤ q.split) → q.owed ≤ shape.block * most
      → KeepsBooks shape (count_drain (m1 + m2) c) 0 fresh_sums
  split_drains some o =
      let B = shape.block in
      let L = levels_of shape c.k in
      let D = arrival_debt shape L at in
      let a : B * most ≤ B * D = mul-le-mul_left B fits in
      let b = call_take m1 mid is q.books g (B * (D + 5)) take root
      (take_number shape q.owed D m1 g blocks is ceil reads (omega (arith, o, a))) in
      let w : WasSplit q.split mid = record { some = inl some } in
      drained_as made (call_drain b m2 is empty none (inr (
        w,
        drain_number shape c.k (B * (D + 5)) (D + 5) L at m2
            is refl levels down (omega arith) (omega arith) (omega (arith, made, high)),
      )))

  -- or not.
  single_drains : IsSingle t → q.owed ≤ 6 * stored + shape.block * few → stored ≡ g
      → KeepsBooks shape (count_drain (m1 + m2) c) 0 fresh_sums
  single_drains i o all =
      let B = shape.block in
      let one = i.1 in
      let S : ℕ → Type 0 = λ x. q.owed ≤ 6 * x + B * few in
      let b = call_take m1 mid is q.books g (B * (few + 5)) take root
      (alone_take shape is q.owed few g blocks m1 ceil reads (subst S all o)) in
      drained_as made (call_drain b m2 is empty none
      (inl (alone_drain shape is c.k (B * (few + 5)) (few + 5) m2 (omega arith)
      (omega (arith, low, made, one)))))

  pub drain_ends : stored ≡ g → KeepsBooks shape (count_drain (m1 + m2) c) 0 fresh_sums
  drain_ends all = ⊎_elim
      (λ (x : (1 ≤ q.split) × (q.owed ≤ shape.block * most)). split_drains x.0 x.1)
      (λ (x : IsSingle t × (q.owed ≤ 6 * stored + shape.block * few)). single_drains x.0 x.1 all)
      q.owes.either

-- A visit gives up at its leaf: it may have read and released all blocks, and removed or made some.
pub leaf_refused : {shape : ShapeNumbers} {c : TreeCounts} {most few h : ℕ} {t : Sums}
    → IsShape shape → IsLevels (levels_of shape c.k) → (q : StandsOwing shape c most t.stored few h t)
    → (at m held blocks : ℕ) → at ≤ levels_of shape c.k → most ≤ arrival_debt shape (levels_of shape c.k) at
    → few ≤ 47 + levels_of shape c.k → (IsSingle t → t.stored ≡ held)
    → IsCeil blocks (payload_of shape) held → blocks ≤ 4 * wide_of shape + 1
    → t.level ≤ levels_of shape c.k → m ≤ 2 * blocks + 4 * t.level + 5
    → c.spent + m ≤ tree_share shape (c.n + c.adopted) c.k c.z c.y
leaf_refused {shape} {c} {most} {few} {h} {t} is levels q at m held blocks down fits low same ceil leaf high made =
    let B = shape.block in
    let L = levels_of shape c.k in
    let D = arrival_debt shape L at in
    let a : B * (most + m) ≤ B * path_most shape c.k = mul-le-mul_left B
    (let f = refused_fits shape L at is levels down in omega (arith, f, fits, made, leaf, high)) in
    let sum : B * (most + m) ≡ B * most + B * m = omega arith in
    let read = read_number shape 0 0 (2 * blocks + 3) held blocks is ceil (omega arith) in
    let toll = toll_more shape c.k (few + 11) (B * (few + 11)) (omega (arith, low)) (omega arith) in
    let single = λ (i : IsSingle t). (let one = i.1 in
    let n : B * m ≤ B * (2 * blocks + 3 + 6) = mul-le-mul_left B (omega (arith, made, one)) in
    let e : B * (2 * blocks + 3 + 6) ≡ B * (2 * blocks + 3) + 6 * B = omega arith in
    let k : B * m ≤ 3 * held + 11 * B = omega (arith, n, e, read) in k) in
    let two : B * (few + 11) ≡ B * few + 11 * B = omega arith in
    share_more m t.stored is q.books (omega arith) (record {
      either = ⊎_elim
          (λ (x : (1 ≤ q.split) × (q.owed ≤ B * most)).
          (let y = x.1 in inr (x.0, omega (arith, y, a, sum))))
          (λ (x : IsSingle t × (q.owed ≤ 6 * t.stored + B * few)).
          (let y = x.1 in let k = single x.0 in let e = same x.0 in
          inl (omega (arith, y, k, e, two, toll))))
          q.owes.either;
    })
