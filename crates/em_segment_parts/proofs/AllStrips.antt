-- The points of all strips against the lists, one strip after another.
use Rattle.std.proofs.Common.{◌≡◌, ℕ, zero, suc, ◌+◌, ◌*◌, ◌<◌, ◌≤◌, List, [], ◌∷◌, ◌++◌, length, map, take, drop, get_or, refl, sym, ap, subst, ◌∙◌, arith, IsTrue, append_assoc, length-append, Result, Ok, Err, IsErrAnd}
use Rattle.std.proofs.Math.Nat.{mul-add, mul-le-mul_right, mul_comm}
use Rattle.std.proofs.lemmas.List.{append-nil, length-map, take_all}
use Rattle.em_record.specs.Shape.{IsShape, ShapeNumbers, wide_of}
use Rattle.em_record.specs.declared.record.Record.{Record}
use Rattle.em_frames.specs.Pool.{load_of}
use Rattle.em_model.specs.Stab.{NumberedInterval}
use Rattle.em_space.specs.Rig.{RigState, Sound}
use Rattle.em_space.specs.declared.fault.EmFault.{EmFault}
use Rattle.em_space.proofs.Within.{within_apart}
use Rattle.em_chain.specs.Chain.{chain_items, empty_chain, payload_in}
use Rattle.em_chain.specs.Writer.{writer_blocks}
use Rattle.em_chain.specs.declared.chain.Chain.{Chain}
use Rattle.em_chain.specs.declared.writer.Writer.{Writer}
use Rattle.em_chain.proofs.Keeps.{payload_kept}
use Rattle.em_segment_model.specs.Alike.{Alike}
use Rattle.em_segment_model.specs.Pieces.{Asked}
use Rattle.em_segment_model.specs.Points.{asked_in, interval_in}
use Rattle.em_segment_model.specs.Reports.{slab_pairs, strips_pairs}
use Rattle.em_segment_model.specs.Sizes.{fan_root}
use Rattle.em_segment_model.specs.Slabs.{Slab, slabs_from}
use Rattle.em_segment_model.proofs.Fills.{slabs_few}
use Rattle.em_segment_model.proofs.Places.{slabs_from-length}
use Rattle.em_segment_model.proofs.Roots.{shape_sized}
use Rattle.em_segment_parts.specs.Chains.{ChainsStay, chains_blocks, chains_count, chains_held, chains_lists}
use Rattle.em_segment_parts.specs.Pairs.{WritesPairs}
use Rattle.em_segment_parts.specs.Strips.{CanReportStrip, CanReportStrips, ReportsStrip, ReportsStrips, ReportsStripsTo, StopsStrip, StopsStrips, intervals_in, strip_due, strips_due}
use Rattle.em_segment_parts.proofs.Alikes.{alike_append, alike_length, alike_same}
use Rattle.em_segment_parts.proofs.Chains.{apart_at, chain_at, chains_stay, list_at}
use Rattle.em_segment_parts.proofs.Multislabs.{lists_in_use, report_can, report_lists}
use Rattle.em_segment_parts.proofs.Writing.{pairs_none, pairs_then, stops_then}

-- a node has few strips, and few multislabs
pub strips_within : (shape : ShapeNumbers) → IsShape shape → fan_root shape ≤ 16
strips_within shape is = (shape_sized shape is).s_high

pub strips_few : (shape : ShapeNumbers) (n : ℕ) → IsShape shape → n ≤ fan_root shape
    → length (slabs_from 0 n) ≤ 2 * wide_of shape
strips_few shape n is h =
    let z = shape_sized shape is in
    slabs_few (fan_root shape) (wide_of shape) n (length (slabs_from 0 n)) z.root.low h
    (omega (arith, z.s_low)) (slabs_from-length 0 n)

-- The pairs of one strip more,
strips_next : (slabs : List Slab) (iss : List (List NumberedInterval)) (k : ℕ)
    (pss : List (List Asked)) (n : ℕ) → n < length pss
    → strips_pairs slabs iss k (take (suc n) pss)
    ≡ strips_pairs slabs iss k (take n pss) ++ slab_pairs slabs iss (k + n) (get_or pss n [])
strips_next slabs iss k [] n l = absurd (omega (arith, l))
strips_next slabs iss k (ps ∷ pss) zero l =
    let e : k ≡ k + 0 = omega arith in
    append-nil (slab_pairs slabs iss k ps) ∙ ap (λ (j : ℕ). slab_pairs slabs iss j ps) e
strips_next slabs iss k (ps ∷ pss) (suc n) l =
    let e : suc k + n ≡ k + suc n = omega arith in
    ap (λ (xs : List Record). slab_pairs slabs iss k ps ++ xs)
    (strips_next slabs iss (suc k) pss n (omega (arith, l))
    ∙ ap (λ (j : ℕ). strips_pairs slabs iss (suc k) (take n pss)
    ++ slab_pairs slabs iss j (get_or pss n [])) e)
    ∙ sym (append_assoc (slab_pairs slabs iss k ps) (strips_pairs slabs iss (suc k) (take n pss))
    (slab_pairs slabs iss (k + suc n) (get_or pss n [])))

-- and those of the others after it.
strips_rest : (slabs : List Slab) (iss : List (List NumberedInterval)) (k : ℕ)
    (pss : List (List Asked)) (n : ℕ)
    → strips_pairs slabs iss k pss
    ≡ strips_pairs slabs iss k (take n pss) ++ strips_pairs slabs iss (k + n) (drop n pss)
strips_rest slabs iss k pss zero =
    let e : k ≡ k + 0 = omega arith in ap (λ (j : ℕ). strips_pairs slabs iss j pss) e
strips_rest slabs iss k [] (suc n) = refl
strips_rest slabs iss k (ps ∷ pss) (suc n) =
    let e : suc k + n ≡ k + suc n = omega arith in
    ap (λ (xs : List Record). slab_pairs slabs iss k ps ++ xs)
    (strips_rest slabs iss (suc k) pss n
    ∙ ap (λ (j : ℕ). strips_pairs slabs iss (suc k) (take n pss)
    ++ strips_pairs slabs iss j (drop n pss)) e)
    ∙ sym (append_assoc (slab_pairs slabs iss k ps) (strips_pairs slabs iss (suc k) (take n pss))
    (strips_pairs slabs iss (k + suc n) (drop n pss)))

-- the blocks and the points of one strip more
held_next : (cs : List Chain) (n : ℕ) → n < length cs
    → chains_held (take (suc n) cs) ≡ chains_held (take n cs) + (get_or cs n empty_chain).blocks
held_next [] n l = absurd (omega (arith, l))
held_next (c ∷ cs) zero l = omega arith
held_next (c ∷ cs) (suc n) l = let h = held_next cs n (omega (arith, l)) in omega (arith, h)

count_next : (cs : List Chain) (n : ℕ) → n < length cs
    → chains_count (take (suc n) cs) ≡ chains_count (take n cs) + (get_or cs n empty_chain).count
count_next [] n l = absurd (omega (arith, l))
count_next (c ∷ cs) zero l = omega arith
count_next (c ∷ cs) (suc n) l = let h = count_next cs n (omega (arith, l)) in omega (arith, h)

held_front : (cs : List Chain) (n : ℕ) → chains_held (take n cs) ≤ chains_held cs
held_front [] zero = omega arith
held_front [] (suc n) = omega arith
held_front (c ∷ cs) zero = omega arith
held_front (c ∷ cs) (suc n) = let h = held_front cs n in omega (arith, h)

count_front : (cs : List Chain) (n : ℕ) → chains_count (take n cs) ≤ chains_count cs
count_front [] zero = omega arith
count_front [] (suc n) = omega arith
count_front (c ∷ cs) zero = omega arith
count_front (c ∷ cs) (suc n) = let h = count_front cs n in omega (arith, h)

abbrev asked_lists : RigState → List Chain → List (List Asked)
asked_lists s strips = map (map asked_in) (chains_lists s strips)

asked_long : (s : RigState) (strips : List Chain) → length (asked_lists s strips) ≡ length strips
asked_long s strips =
    length-map (chains_lists s strips) (map asked_in) ∙ length-map strips (chain_items s)

asked_at : (s : RigState) (strips : List Chain) (n : ℕ) → n < length strips
    → get_or (asked_lists s strips) n [] ≡ map asked_in (chain_items s (get_or strips n empty_chain))
asked_at s [] n l = absurd (omega (arith, l))
asked_at s (c ∷ cs) zero l = refl
asked_at s (c ∷ cs) (suc n) l = asked_at s cs n (omega (arith, l))

-- The strips stay while pairs are written, and may still be reported on.
strips_stay : {e : ℕ} {s t : RigState} {strips lists : List Chain} {w v : Writer} {xs : List Record}
    → CanReportStrips s strips lists w → WritesPairs e s t w v xs → ChainsStay s t strips
strips_stay {s = s} {t = t} {strips = strips} {w = w} can h =
    chains_stay (writer_blocks s w) s t strips h.runs.session.touches can.strips_apart can.strips_are

pub strip_can : {e : ℕ} {s t : RigState} {strips lists : List Chain} {w v : Writer} {xs : List Record}
    (n : ℕ) → n < length strips → CanReportStrips s strips lists w → WritesPairs e s t w v xs
    → CanReportStrip t (get_or strips n empty_chain) lists v
strip_can {s = s} {t = t} {strips = strips} {w = w} {v = v} n l can h =
    let st = strips_stay can h in
    record {
      points_are = chain_at t strips n l st.are;
      points_apart = λ y.
          let z : IsTrue s.device.told = sym h.wrote.told ∙ y in
          apart_at t strips n (writer_blocks t v) l
          (rw (st.blocks z) (within_apart s (writer_blocks s w) (writer_blocks t v)
          (chains_blocks s strips) z h.runs.session.within (lists_in_use s strips z can.strips_are)
          (can.strips_apart z)));
      lists_can = report_can can.lists_can h;
    }

-- The first n strips were gone through.
pub record StripsSoFar (slabs : List Slab) (n : ℕ) (s t : RigState) (strips lists : List Chain)
    (w v : Writer) : Type 0 where
  pub written : List Record
  pub extra : ℕ
  pub writes : WritesPairs extra s t w v written
  pub alike : IsTrue s.device.told
      → Alike written (strips_pairs slabs (intervals_in s lists) 0 (take n (asked_lists s strips)))
  pub moves : IsTrue s.device.told → extra * payload_in s
      ≤ chains_held (take n strips) * payload_in s + length written + 2 * chains_count (take n strips)
      + 2 * (n * load_of s.pool.shape)

pub strips_none : {s : RigState} {strips lists : List Chain} {w : Writer} (slabs : List Slab)
    → Sound s → CanReportStrips s strips lists w → StripsSoFar slabs 0 s s strips lists w w
strips_none {s} {strips} {lists} slabs h can = record {
  written = [];
  extra = 0;
  writes = pairs_none h can.lists_can.pairs;
  alike = λ z. alike_same [];
  moves = λ z. omega arith;
}

-- what is due of a strip is the same at the start
strip_there : {e : ℕ} {s t : RigState} {strips lists : List Chain} {w v : Writer} {xs : List Record}
    (slabs : List Slab) (n : ℕ) → n < length strips → CanReportStrips s strips lists w
    → WritesPairs e s t w v xs → IsTrue s.device.told
    → strip_due slabs n t (get_or strips n empty_chain) lists
    ≡ slab_pairs slabs (intervals_in s lists) n (get_or (asked_lists s strips) n [])
strip_there {s = s} {t = t} {strips = strips} {lists = lists} slabs n l can h z =
    let c = get_or strips n empty_chain in
    let same = (strips_stay can h).lists z in
    let items : chain_items t c ≡ chain_items s c =
    sym (list_at t strips n l) ∙ ap (λ (xss : List (List Record)). get_or xss n []) same
    ∙ list_at s strips n l in
    ap (λ (xs : List Record). slab_pairs slabs (intervals_in t lists) n (map asked_in xs)) items
    ∙ ap (λ (xss : List (List Record)). slab_pairs slabs (map (map interval_in) xss) n
    (map asked_in (chain_items s c))) ((report_lists can.lists_can h).lists z)
    ∙ ap (slab_pairs slabs (intervals_in s lists) n) (sym (asked_at s strips n l))

pub strips_then : {n : ℕ} {slabs : List Slab} {s t u : RigState} {strips lists : List Chain}
    {w v o : Writer} → n < length strips → CanReportStrips s strips lists w
    → StripsSoFar slabs n s t strips lists w v
    → ReportsStrip slabs n t u (get_or strips n empty_chain) lists v o
    → StripsSoFar slabs (n + 1) s u strips lists w o
strips_then {n} {slabs} {s} {t} {u} {strips} {lists} {w} {v} {o} l can h g =
    let one : n + 1 ≡ suc n = omega arith in
    let shape = h.writes.runs.session.touches.shape in
    let pt : payload_in t ≡ payload_in s =
    payload_kept (writer_blocks s w) s t h.writes.runs.session.touches in
    let lt : load_of t.pool.shape ≡ load_of s.pool.shape = ap load_of shape in
    let iss = intervals_in s lists in
    let pss = asked_lists s strips in
    let c = get_or strips n empty_chain in
    record {
      written = h.written ++ g.written;
      extra = h.extra + g.extra;
      writes = pairs_then h.written g.written h.writes g.writes;
      alike = λ z.
          let y : IsTrue t.device.told = h.writes.wrote.told ∙ z in
          let there = subst (Alike g.written) (strip_there slabs n l can h.writes z) (g.alike y) in
          let zero_n : 0 + n ≡ n = omega arith in
          let next = strips_next slabs iss 0 pss n (rw (asked_long s strips) l) in
          let whole = next ∙ ap (λ (j : ℕ). strips_pairs slabs iss 0 (take n pss)
          ++ slab_pairs slabs iss j (get_or pss n [])) zero_n in
          subst (λ (m : ℕ). Alike (h.written ++ g.written) (strips_pairs slabs iss 0 (take m pss)))
          (sym one) (subst (Alike (h.written ++ g.written)) (sym whole)
          (alike_append h.written (strips_pairs slabs iss 0 (take n pss)) g.written
          (slab_pairs slabs iss n (get_or pss n [])) (h.alike z) there));
      moves = λ z.
          let y : IsTrue t.device.told = h.writes.wrote.told ∙ z in
          let a = h.moves z in
          let b = rw (pt, lt) at (g.moves y) in
          let len = length-append h.written g.written in
          let held = ap (λ (m : ℕ). chains_held (take m strips)) one ∙ held_next strips n l in
          let count = ap (λ (m : ℕ). chains_count (take m strips)) one ∙ count_next strips n l in
          let P = payload_in s in
          let L = load_of s.pool.shape in
          let x1 = mul_comm (h.extra + g.extra) P in
          let x2 = mul-add P h.extra g.extra in
          let x3 = mul_comm h.extra P in
          let x4 = mul_comm g.extra P in
          let x5 = mul_comm (chains_held (take n strips) + c.blocks) P in
          let x6 = mul-add P (chains_held (take n strips)) c.blocks in
          let x7 = mul_comm (chains_held (take n strips)) P in
          let x8 = mul_comm c.blocks P in
          let x9 = mul_comm (n + 1) L in
          let y1 = mul-add L n 1 in
          let y2 = mul_comm n L in
          let y3 = ap (λ (m : ℕ). m * P) held in
          omega (arith, a, b, len, count, x1, x2, x3, x4, x5, x6, x7, x8, x9, y1, y2, y3);
    }

-- The next one gave up.
pub strips_stop : {n : ℕ} {slabs : List Slab} {s t u : RigState} {strips lists : List Chain}
    {w v : Writer} {fault : EmFault} → n < length strips → CanReportStrips s strips lists w
    → StripsSoFar slabs n s t strips lists w v
    → StopsStrip slabs n t u (get_or strips n empty_chain) lists v fault
    → StopsStrips slabs 0 s u strips lists w fault
strips_stop {n} {slabs} {s} {t} {u} {strips} {lists} {w} {v} {fault} l can h g =
    let shape = h.writes.runs.session.touches.shape in
    let pt : payload_in t ≡ payload_in s =
    payload_kept (writer_blocks s w) s t h.writes.runs.session.touches in
    let lt : load_of t.pool.shape ≡ load_of s.pool.shape = ap load_of shape in
    let iss = intervals_in s lists in
    let pss = asked_lists s strips in
    let c = get_or strips n empty_chain in
    let long : n < length pss = rw (asked_long s strips) l in
    let all : IsTrue s.device.told → length h.written
    + length (strip_due slabs n t c lists) ≤ length (strips_due slabs 0 s strips lists) =
    λ z.
    let a = alike_length (h.alike z) in
    let b = ap (λ (xs : List Record). length xs) (strip_there slabs n l can h.writes z) in
    let zero_n : 0 + n ≡ n = omega arith in
    let next = ap (λ (xs : List Record). length xs) (strips_next slabs iss 0 pss n long
    ∙ ap (λ (j : ℕ). strips_pairs slabs iss 0 (take n pss)
    ++ slab_pairs slabs iss j (get_or pss n [])) zero_n) in
    let d = length-append (strips_pairs slabs iss 0 (take n pss))
    (slab_pairs slabs iss n (get_or pss n [])) in
    let whole = ap (λ (xs : List Record). length xs) (strips_rest slabs iss 0 pss (suc n)) in
    let e = length-append (strips_pairs slabs iss 0 (take (suc n) pss))
    (strips_pairs slabs iss (0 + suc n) (drop (suc n) pss)) in
    omega (arith, a, b, next, d, whole, e) in
    record {
      tried = length h.written + g.tried;
      extra = h.extra + g.extra;
      stops = stops_then h.written h.writes g.stops;
      few = λ z.
          let f = g.few (h.writes.wrote.told ∙ z) in
          let m = all z in
          omega (arith, f, m);
      moves = λ z.
          let y : IsTrue t.device.told = h.writes.wrote.told ∙ z in
          let a = h.moves z in
          let b = rw (pt, lt) at (g.moves y) in
          let m = all z in
          let P = payload_in s in
          let L = load_of s.pool.shape in
          let held = mul-le-mul_right P (held_upto strips n l) in
          let count = count_upto strips n l in
          let most = mul-le-mul_right L (below l) in
          let x1 = mul_comm (h.extra + g.extra) P in
          let x2 = mul-add P h.extra g.extra in
          let x3 = mul_comm h.extra P in
          let x4 = mul_comm g.extra P in
          let x5 = mul_comm (chains_held (take n strips) + c.blocks) P in
          let x6 = mul-add P (chains_held (take n strips)) c.blocks in
          let x7 = mul_comm (chains_held (take n strips)) P in
          let x8 = mul_comm c.blocks P in
          let x9 = mul_comm (n + 1) L in
          let y1 = mul-add L n 1 in
          let y2 = mul_comm n L in
          omega (arith, a, b, m, held, count, most, x1, x2, x3, x4, x5, x6, x7, x8, x9, y1, y2);
    }
  where
    held_upto : (cs : List Chain) (n : ℕ) → n < length cs
        → chains_held (take n cs) + (get_or cs n empty_chain).blocks ≤ chains_held cs
    held_upto cs n l = let a = held_next cs n l in let b = held_front cs (suc n) in omega (arith, a, b)

    count_upto : (cs : List Chain) (n : ℕ) → n < length cs
        → chains_count (take n cs) + (get_or cs n empty_chain).count ≤ chains_count cs
    count_upto cs n l = let a = count_next cs n l in let b = count_front cs (suc n) in omega (arith, a, b)

    below : {m n : ℕ} → m < n → m + 1 ≤ n
    below {m} {n} h = omega (arith, h)

-- All were.
pub strips_all : {n : ℕ} {slabs : List Slab} {s t : RigState} {strips lists : List Chain}
    {w v : Writer} → n ≡ length strips → StripsSoFar slabs n s t strips lists w v
    → ReportsStrips slabs 0 s t strips lists w v
strips_all {n} {slabs} {s} {t} {strips} {lists} {w} {v} e h =
    let whole : take n strips ≡ strips = take_all n strips (omega (arith, e)) in
    record {
      written = h.written;
      extra = h.extra;
      writes = h.writes;
      alike = λ z.
          let long = asked_long s strips in
          subst (λ (pss : List (List Asked)). Alike h.written
          (strips_pairs slabs (intervals_in s lists) 0 pss))
          (take_all n (asked_lists s strips) (omega (arith, e, long))) (h.alike z);
      moves = λ z. rw (whole, e) at (h.moves z);
    }

pub strips_err : {T : Type 0} (slabs : List Slab) (s t : RigState) (strips lists : List Chain)
    (w v : Writer) (result : Result T EmFault) (e : EmFault) → IsErrAnd result (λ f. f ≡ e)
    → StopsStrips slabs 0 s t strips lists w e → ReportsStripsTo slabs 0 s t strips lists w v result
strips_err slabs s t strips lists w v (Ok x) e h k = absurd h
strips_err slabs s t strips lists w v (Err f) e h k =
    subst (λ (m : EmFault). StopsStrips slabs 0 s t strips lists w m) (sym h) k
