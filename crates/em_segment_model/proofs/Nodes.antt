-- A node and its children: each pair is reported once, and the children's pieces weigh no more than the
-- node's.
use Rattle.std.proofs.Common.{◌≡◌, ℕ, suc, ◌+◌, ◌*◌, ◌≤◌, Bool, true, false, cond, List, [], ◌∷◌, ◌++◌, length, map, refl, sym, ap, subst, ◌∙◌, arith}
use Rattle.std.proofs.Math.Nat.{le-max_left, le-max_right, max-le}
use Rattle.std.proofs.lemmas.List.{length-map}
use Rattle.std.proofs.lemmas.List.Concat.{flat_map-append}
use Rattle.std.proofs.lemmas.List.Elements.{filter_agree}
use Rattle.std.proofs.lemmas.List.Sums.{sum_by-cons, sum_by-append}
use Rattle.std.specs.Prelude.{◌&&◌, if◌then◌else◌, nat_lt, filter}
use Rattle.std.specs.List.{flat_map, sum_by}
use Rattle.em_record.specs.declared.record.Record.{Record}
use Rattle.em_record.specs.Order.{IsAscending}
use Rattle.em_model.proofs.Ascending.{Ascend-filter}
use Rattle.em_model.specs.Ascending.{Ascend}
use Rattle.em_model.specs.Stab.{NumberedInterval, holds_point}
use Rattle.em_segment_model.specs.Alike.{Alike}
use Rattle.em_segment_model.specs.Pieces.{Asked, AllLie, AreStrips, Lies, Strip, all_pairs, answers, goes_down, pair_of, pairs_at, spans}
use Rattle.em_segment_model.specs.Points.{asked_in, interval_in, joined, pairs_below, pairs_due}
use Rattle.em_segment_model.specs.Reports.{is_listed, later_pairs, reported_here, slab_lists, slab_pairs, strips_pairs}
use Rattle.em_segment_model.specs.Slabs.{AreParts, Part, Slab, has_strip, in_slab, slabs_from}
use Rattle.em_segment_model.specs.Spans.{AllSome, down_lists, ends_below, ends_in, ends_of, strip_at, takes_piece, value_span}
use Rattle.em_segment_model.specs.declared.strip.Span.{Span}
use Rattle.em_segment_model.proofs.Cuts.{ascends_rise, cuts_within, lists_are_parts, lists_are_strips, part_in, points_joined, points_same, strips_same}
use Rattle.em_segment_model.proofs.Ends.{children_most, down_most, pieces_below, root_ends}
use Rattle.em_segment_model.proofs.Fills.{slabs_hold}
use Rattle.em_segment_model.proofs.Once.{spans-holds, strip_parts}
use Rattle.em_segment_model.proofs.Reports.{strip_reported}
use Rattle.em_segment_model.proofs.Slabs.{listed_spans, spans_at}
use Rattle.em_segment_model.proofs.Sums.{filter-map, if_so}

-- all points of some strips
abbrev points_of : List Part → List Asked
points_of parts = flat_map (λ p. p.points) parts

-- what the node owes for a strip
abbrev here_of : List NumberedInterval → Part → List Record
here_of is p = all_pairs p.points (filter (spans p.strip) is)

-- what the child owes
abbrev below_of : List NumberedInterval → Part → List Record
below_of is p = all_pairs p.points (filter (goes_down p.strip) is)

-- Each pair of a node is owed here or in the one child, once.
node_once : (f : Record → ℕ) (parts : List Part) (is : List NumberedInterval) → AreParts parts
    → sum_by f (all_pairs (points_of parts) is)
    ≡ sum_by (λ p. sum_by f (here_of is p)) parts + sum_by (λ p. sum_by f (below_of is p)) parts
node_once f [] is h = refl
node_once f (p ∷ parts) is (one, rest) =
    let s = strip_parts f p.strip p.points is one in
    let r = node_once f parts is rest in
    let e = ap (sum_by f) (flat_map-append (pairs_at is) p.points (points_of parts)) in
    let a = sum_by-append f (all_pairs p.points is) (all_pairs (points_of parts) is) in
    let h = sum_by-cons (λ (q : Part). sum_by f (here_of is q)) p parts in
    let d = sum_by-cons (λ (q : Part). sum_by f (below_of is q)) p parts in
    omega arith

-- Over a strip that they span, only the numbers of intervals are compared.
later_kept : (z : Strip) (a : Asked) (test : NumberedInterval → Bool) (is : List NumberedInterval)
    → Lies z a → ((i : NumberedInterval) → test i ≡ true → spans z i ≡ true)
    → filter (λ i. nat_lt i.number a.before) (filter test is) ≡ filter (answers a) (filter test is)
later_kept z a test [] l s = refl
later_kept z a test (i ∷ is) l s = by_test (test i) refl (later_kept z a test is l s)
  where
    same : (x y : Bool) → x ≡ true → y ≡ (x && y)
    same true y e = refl
    same false y e = cc

    kept : (b c : Bool) (xs ys : List NumberedInterval) → b ≡ c → xs ≡ ys
        → cond b (i ∷ xs) xs ≡ cond c (i ∷ ys) ys
    kept b c xs ys e f = rw (e, f) refl

    by_test : (b : Bool) → test i ≡ b
        → filter (λ j. nat_lt j.number a.before) (filter test is) ≡ filter (answers a) (filter test is)
        → filter (λ j. nat_lt j.number a.before) (cond b (i ∷ filter test is) (filter test is))
        ≡ filter (answers a) (cond b (i ∷ filter test is) (filter test is))
    by_test true t r =
        kept (nat_lt i.number a.before) (answers a i) _ _
        (same (holds_point a.point i) (nat_lt i.number a.before) (spans-holds z a i l (s i t))) r
    by_test false f r = r

pub later_spanned : (z : Strip) (ps : List Asked) (test : NumberedInterval → Bool) (is : List NumberedInterval)
    → AllLie z ps → ((i : NumberedInterval) → test i ≡ true → spans z i ≡ true)
    → later_pairs ps (filter test is) ≡ all_pairs ps (filter test is)
later_spanned z [] test is l s = refl
later_spanned z (a ∷ ps) test is (one, rest) s =
    ap (λ (t : List NumberedInterval). map (pair_of a) t ++ later_pairs ps (filter test is))
    (later_kept z a test is one s)
    ∙ ap (λ t. pairs_at (filter test is) a ++ t) (later_spanned z ps test is rest s)

-- the multislabs over strip k, of which z is the strip
slabs_weigh : (f : Record → ℕ) (zs : List Strip) (k : ℕ) (z : Strip) (ps : List Asked)
    (is : List NumberedInterval) (ts : List Slab) → AreStrips zs
    → ((i : NumberedInterval) → spans_at zs k i ≡ spans z i) → AllLie z ps
    → sum_by f (slab_pairs ts (map (λ t. filter (in_slab zs t) is) ts) k ps)
    ≡ sum_by (λ t. if_so (has_strip t k) (sum_by f (all_pairs ps (filter (in_slab zs t) is)))) ts
slabs_weigh f zs k z ps is [] a s l = refl
slabs_weigh f zs k z ps is (t ∷ ts) a s l =
    let r = slabs_weigh f zs k z ps is ts a s l in
    let fs = filter (in_slab zs t) is in
    let e = sum_by-append f (if has_strip t k then later_pairs ps fs else [])
    (slab_pairs ts (map (λ u. filter (in_slab zs u) is) ts) k ps) in
    let c = sum_by-cons
    (λ (u : Slab). if_so (has_strip u k) (sum_by f (all_pairs ps (filter (in_slab zs u) is)))) t ts in
    let o = over (has_strip t k) refl in
    omega (arith, r, e, c, o)
  where
    over : (b : Bool) → has_strip t k ≡ b
        → sum_by f (if b then later_pairs ps (filter (in_slab zs t) is) else [])
        ≡ if_so b (sum_by f (all_pairs ps (filter (in_slab zs t) is)))
    over true h = ap (sum_by f) (later_spanned z ps (in_slab zs t) is l
        (λ i n. sym (s i) ∙ listed_spans zs t k i a h n))
    over false h = refl

-- these parts have the strips from place k on
abbrev StandAt : List Strip → ℕ → List Part → Type 0
StandAt zs k [] = Unit {0}
StandAt zs k (p ∷ parts) =
    ((i : NumberedInterval) → spans_at zs k i ≡ spans p.strip i) × StandAt zs (suc k) parts

stand_later : (z : Strip) (zs : List Strip) (k : ℕ) (parts : List Part) → StandAt zs k parts
    → StandAt (z ∷ zs) (suc k) parts
stand_later z zs k [] h = tt
stand_later z zs k (p ∷ parts) (one, rest) = (one, stand_later z zs (suc k) parts rest)

stand_all : (parts : List Part) → StandAt (map (λ (p : Part). p.strip) parts) 0 parts
stand_all [] = tt
stand_all (p ∷ parts) =
    (λ i. refl, stand_later p.strip (map (λ (q : Part). q.strip) parts) 0 parts (stand_all parts))

-- The multislabs over all strips report what the node owes.
strips_weigh : (f : Record → ℕ) (zs : List Strip) (is : List NumberedInterval) (k : ℕ) (parts : List Part)
    → AreStrips zs → AreParts parts → StandAt zs k parts
    → sum_by f (strips_pairs (slabs_from 0 (length zs))
    (map (λ t. filter (in_slab zs t) is) (slabs_from 0 (length zs))) k
    (map (λ (p : Part). p.points) parts))
    ≡ sum_by (λ p. sum_by f (here_of is p)) parts
strips_weigh f zs is k [] a l s = refl
strips_weigh f zs is k (p ∷ parts) a (one, rest) (here, later) =
    let ts = slabs_from 0 (length zs) in
    let lists = map (λ (t : Slab). filter (in_slab zs t) is) ts in
    let r = strips_weigh f zs is (suc k) parts a rest later in
    let w = slabs_weigh f zs k p.strip p.points is ts a here one in
    let s = strip_reported f zs k p.points is a in
    let g = ap (λ (js : List NumberedInterval). sum_by f (all_pairs p.points js))
    (filter_agree (spans_at zs k) (spans p.strip) here is) in
    let x = sum_by-append f (slab_pairs ts lists k p.points)
    (strips_pairs ts lists (suc k) (map (λ (q : Part). q.points) parts)) in
    let c = sum_by-cons (λ (q : Part). sum_by f (here_of is q)) p parts in
    omega (arith, r, w, s, g, x, c)

-- the lists of records, as lists of intervals
lists_same : (zs : List Span) (pieces : List Record) (ts : List Slab)
    → map (map interval_in) (map (λ t. filter (is_listed zs t) pieces) ts)
    ≡ map (λ t. filter (in_slab (map strip_at zs) t) (map interval_in pieces)) ts
lists_same zs pieces [] = refl
lists_same zs pieces (t ∷ ts) =
    ap (λ (x : List NumberedInterval).
    x ∷ map (map interval_in) (map (λ (u : Slab). filter (is_listed zs u) pieces) ts))
    (sym (filter-map interval_in (in_slab (map strip_at zs) t) pieces))
    ∙ ap (λ x. filter (in_slab (map strip_at zs) t) (map interval_in pieces) ∷ x)
    (lists_same zs pieces ts)

here_weighs : (f : Record → ℕ) (pss : List (List Record)) (pieces : List Record) → AllSome pss
    → IsAscending (joined pss)
    → sum_by f (reported_here (map value_span pss) pss pieces)
    ≡ sum_by (λ p. sum_by f (here_of (map interval_in pieces) p)) (map part_in pss)
here_weighs f pss pieces s a =
    let zs = map value_span pss in
    let is = map interval_in pieces in
    let ts = slabs_from 0 (length zs) in
    let rise = ascends_rise (joined pss) a in
    let stands = subst (λ (ys : List Strip). StandAt ys 0 (map part_in pss)) (strips_same pss)
    (stand_all (map part_in pss)) in
    ap (λ lists. sum_by f (strips_pairs ts lists 0 (map (map asked_in) pss))) (lists_same zs pieces ts)
    ∙ ap (λ points. sum_by f (strips_pairs ts (map (λ (t : Slab). filter (in_slab (map strip_at zs) t) is) ts) 0
    points)) (sym (points_same pss))
    ∙ ap (λ (n : ℕ). sum_by f (strips_pairs (slabs_from 0 n)
    (map (λ (t : Slab). filter (in_slab (map strip_at zs) t) is) (slabs_from 0 n)) 0
    (map (λ (p : Part). p.points) (map part_in pss)))) (sym (length-map zs strip_at))
    ∙ strips_weigh f (map strip_at zs) is 0 (map part_in pss) (lists_are_strips 0 pss s rise)
    (lists_are_parts 0 pss s rise) stands

below_weighs : (f : Record → ℕ) (pss : List (List Record)) (pieces : List Record)
    → sum_by f (pairs_below pss (down_lists (map value_span pss) pieces))
    ≡ sum_by (λ p. sum_by f (below_of (map interval_in pieces) p)) (map part_in pss)
below_weighs f [] pieces = refl
below_weighs f (ps ∷ pss) pieces =
    let is = map interval_in pieces in
    let z = value_span ps in
    let fs = filter (takes_piece z) pieces in
    let e = ap (λ (js : List NumberedInterval). sum_by f (all_pairs (map asked_in ps) js))
    (filter-map interval_in (goes_down (strip_at z)) pieces) in
    let x = sum_by-append f (pairs_due ps fs) (pairs_below pss (down_lists (map value_span pss) pieces)) in
    let c = sum_by-cons (λ (q : Part). sum_by f (below_of is q)) (part_in ps) (map part_in pss) in
    let r = below_weighs f pss pieces in
    omega (arith, e, x, c, r)

-- A node's points are cut into strips. What it reports itself, and what its children report, is what is due,
-- each pair once.
pub node_law : (pss : List (List Record)) (pieces here below : List Record) → AllSome pss
    → IsAscending (joined pss)
    → Alike here (reported_here (map value_span pss) pss pieces)
    → Alike below (pairs_below pss (down_lists (map value_span pss) pieces))
    → Alike (here ++ below) (pairs_due (joined pss) pieces)
node_law pss pieces here below s a h b = record {
  weighs = λ f.
      let is = map interval_in pieces in
      let parts = lists_are_parts 0 pss s (ascends_rise (joined pss) a) in
      let n = node_once f (map part_in pss) is parts in
      let e = ap (λ (ps : List Asked). sum_by f (all_pairs ps is)) (points_joined pss) in
      let x = h.weighs f in
      let y = b.weighs f in
      let p = here_weighs f pss pieces s a in
      let q = below_weighs f pss pieces in
      let c = sum_by-append f here below in
      omega (arith, n, e, x, y, p, q, c);
}

-- what the pieces of a child weigh
child_ends : (points pieces : List Record)
    → ends_of points (filter (takes_piece (value_span points)) pieces)
    ≤ ends_in (strip_at (value_span points))
    (filter (goes_down (strip_at (value_span points))) (map interval_in pieces))
child_ends points pieces =
    let z = strip_at (value_span points) in
    let fs = filter (takes_piece (value_span points)) pieces in
    let e = filter-map interval_in (goes_down z) pieces in
    let l = length-map fs interval_in in
    let n = ap (λ (js : List NumberedInterval). length js) e in
    let m = ap (λ (js : List NumberedInterval). ends_in z js) e in
    let b = pieces_below z (map interval_in pieces) in
    max-le (omega (arith, l, n, b)) (omega (arith, m))

children_ends : (pss : List (List Record)) (pieces : List Record)
    → ends_below pss (down_lists (map value_span pss) pieces)
    ≤ sum_by (λ z. ends_in z (filter (goes_down z) (map interval_in pieces)))
    (map strip_at (map value_span pss))
children_ends [] pieces = omega arith
children_ends (ps ∷ pss) pieces =
    let c = child_ends ps pieces in
    let r = children_ends pss pieces in
    let s = sum_by-cons (λ (z : Strip). ends_in z (filter (goes_down z) (map interval_in pieces)))
    (strip_at (value_span ps)) (map strip_at (map value_span pss)) in
    omega (arith, c, r, s)

-- The pieces of all children weigh at most what the node's pieces weigh.
pub node_ends : (pss : List (List Record)) (pieces : List Record) → AllSome pss
    → IsAscending (joined pss)
    → ends_below pss (down_lists (map value_span pss) pieces) ≤ ends_of (joined pss) pieces
node_ends pss pieces s a =
    let is = map interval_in pieces in
    let rise = ascends_rise (joined pss) a in
    let o = strip_at (value_span (joined pss)) in
    let c = children_ends pss pieces in
    let m = children_most o (map strip_at (map value_span pss)) is (cuts_within pss s rise)
    (lists_are_strips 0 pss s rise) in
    let t = le-max_right (length pieces) (ends_in o is) in
    omega (arith, c, m, t)

down_lengths : (zs : List Span) (pieces : List Record)
    → sum_by (λ (xs : List Record). length xs) (down_lists zs pieces)
    ≡ sum_by (λ z. length (filter (goes_down z) (map interval_in pieces))) (map strip_at zs)
down_lengths [] pieces = refl
down_lengths (z ∷ zs) pieces =
    let r = down_lengths zs pieces in
    let fs = filter (takes_piece z) pieces in
    let c = sum_by-cons (λ (xs : List Record). length xs) fs (down_lists zs pieces) in
    let d = sum_by-cons (λ (y : Strip). length (filter (goes_down y) (map interval_in pieces)))
    (strip_at z) (map strip_at zs) in
    let l = length-map fs interval_in in
    let n = ap (λ (js : List NumberedInterval). length js)
    (filter-map interval_in (goes_down (strip_at z)) pieces) in
    omega (arith, r, c, d, l, n)

-- All pieces that go down from a node are at most what its pieces weigh.
pub node_down : (pss : List (List Record)) (pieces : List Record) → AllSome pss
    → IsAscending (joined pss)
    → sum_by (λ (xs : List Record). length xs) (down_lists (map value_span pss) pieces)
    ≤ ends_of (joined pss) pieces
node_down pss pieces s a =
    let is = map interval_in pieces in
    let rise = ascends_rise (joined pss) a in
    let o = strip_at (value_span (joined pss)) in
    let l = down_lengths (map value_span pss) pieces in
    let m = down_most o (map strip_at (map value_span pss)) is (cuts_within pss s rise)
    (lists_are_strips 0 pss s rise) in
    let t = le-max_right (length pieces) (ends_in o is) in
    omega (arith, l, m, t)

-- A call has at most as many pieces as they weigh.
pub pieces_weigh : (points pieces : List Record) → length pieces ≤ ends_of points pieces
pieces_weigh points pieces =
    le-max_left (length pieces) (ends_in (strip_at (value_span points)) (map interval_in pieces))

-- Pieces weigh at most 2 each.
pub root_weighs : (points pieces : List Record) → ends_of points pieces ≤ 2 * length pieces
root_weighs points pieces =
    let r = root_ends (strip_at (value_span points)) (map interval_in pieces) in
    let l = length-map pieces interval_in in
    max-le (omega arith) (omega (arith, r, l))

slab_lengths : (zs : List Span) (pieces : List Record) (ts : List Slab)
    → sum_by (λ (xs : List Record). length xs) (map (λ t. filter (is_listed zs t) pieces) ts)
    ≡ sum_by (λ t. length (filter (in_slab (map strip_at zs) t) (map interval_in pieces))) ts
slab_lengths zs pieces [] = refl
slab_lengths zs pieces (t ∷ ts) =
    let r = slab_lengths zs pieces ts in
    let fs = filter (is_listed zs t) pieces in
    let c = sum_by-cons (λ (xs : List Record). length xs) fs
    (map (λ (u : Slab). filter (is_listed zs u) pieces) ts) in
    let d = sum_by-cons
    (λ (u : Slab). length (filter (in_slab (map strip_at zs) u) (map interval_in pieces))) t ts in
    let l = length-map fs interval_in in
    let n = ap (λ (js : List NumberedInterval). length js)
    (filter-map interval_in (in_slab (map strip_at zs) t) pieces) in
    omega (arith, r, c, d, l, n)

-- The lists of all multislabs have at most the node's pieces.
pub node_lists : (zs : List Span) (pieces : List Record)
    → sum_by (λ (xs : List Record). length xs) (slab_lists zs pieces) ≤ length pieces
node_lists zs pieces =
    let e = slab_lengths zs pieces (slabs_from 0 (length zs)) in
    let n = ap (λ (k : ℕ). sum_by
    (λ (t : Slab). length (filter (in_slab (map strip_at zs) t) (map interval_in pieces)))
    (slabs_from 0 k)) (length-map zs strip_at) in
    let h = slabs_hold (map strip_at zs) (map interval_in pieces) in
    let l = length-map pieces interval_in in
    omega (arith, e, n, h, l)

abbrev number_of : NumberedInterval → ℕ
number_of i = i.number

-- What goes down keeps the order of numbers.
pub down_in_order : (z : Span) (low : ℕ) (pieces : List Record) (high : ℕ)
    → Ascend number_of low (map interval_in pieces) high
    → Ascend number_of low (map interval_in (filter (takes_piece z) pieces)) high
down_in_order z low pieces high a =
    subst (λ (is : List NumberedInterval). Ascend number_of low is high)
    (filter-map interval_in (goes_down (strip_at z)) pieces)
    (Ascend-filter number_of (goes_down (strip_at z)) low (map interval_in pieces) high a)

-- So does what belongs to a multislab.
pub listed_in_order : (zs : List Span) (t : Slab) (low : ℕ) (pieces : List Record) (high : ℕ)
    → Ascend number_of low (map interval_in pieces) high
    → Ascend number_of low (map interval_in (filter (is_listed zs t) pieces)) high
listed_in_order zs t low pieces high a =
    subst (λ (is : List NumberedInterval). Ascend number_of low is high)
    (filter-map interval_in (in_slab (map strip_at zs) t) pieces)
    (Ascend-filter number_of (in_slab (map strip_at zs) t) low (map interval_in pieces) high a)
