-- A load against the lists of the multislabs, one list after another.
use Rattle.std.proofs.Common.{◌≡◌, ℕ, zero, suc, ◌+◌, ◌*◌, ◌<◌, ◌≤◌, Bool, true, false, List, [], ◌∷◌, ◌++◌, length, map, take, drop, get_or, refl, sym, ap, subst, ◌∙◌, arith, IsTrue, append_assoc, length-append, Result, Ok, Err, IsErrAnd}
use Rattle.std.proofs.Math.Nat.{mul-add, mul-le-mul_right, mul_comm}
use Rattle.std.proofs.lemmas.List.{append-nil, length-map, take_all}
use Rattle.std.specs.Prelude.{if◌then◌else◌}
use Rattle.em_record.specs.declared.record.Record.{Record}
use Rattle.em_record.specs.Shape.{ShapeNumbers}
use Rattle.em_space.specs.Held.{AllInUse}
use Rattle.em_space.specs.Rig.{RigState, Sound}
use Rattle.em_space.specs.declared.fault.EmFault.{EmFault}
use Rattle.em_space.proofs.Lists.{in_use_append}
use Rattle.em_space.proofs.Within.{within_apart}
use Rattle.em_chain.specs.Chain.{chain_blocks, chain_items, empty_chain, payload_in}
use Rattle.em_chain.specs.Writer.{writer_blocks}
use Rattle.em_chain.specs.declared.chain.Chain.{Chain}
use Rattle.em_chain.specs.declared.writer.Writer.{Writer}
use Rattle.em_chain.proofs.Keeps.{payload_kept}
use Rattle.em_segment_model.specs.Points.{interval_in}
use Rattle.em_segment_model.specs.Slabs.{Slab, has_strip}
use Rattle.em_segment_parts.specs.Chains.{AreChains, ChainsStay, chains_blocks, chains_lists}
use Rattle.em_segment_parts.specs.Lists.{CanReportList, ReportsListTo, front_pairs}
use Rattle.em_segment_parts.specs.Pairs.{WritesPairs}
use Rattle.em_segment_parts.specs.Strips.{AreNumbered, CanReport, ReportsLoad, ReportsLoadTo, ReportsSlab, ReportsSlabTo, StopsLoad, StopsSlab, load_front, slab_front}
use Rattle.em_segment_parts.proofs.Chains.{apart_at, chain_at, chains_stay, held_at, list_at}
use Rattle.em_segment_parts.proofs.Writing.{pairs_is, pairs_none, pairs_then, stops_then}

-- One list: of a multislab that has the strip,
pub slab_reports : {T : Type 0} (s t : RigState) (list : Chain) (w v : Writer) (slab : Slab) (k : ℕ)
    (load : List Record) (result : Result T EmFault) → has_strip slab k ≡ true
    → ReportsListTo load s t list w v result → ReportsSlabTo slab k load s t list w v result
slab_reports s t list w v slab k load (Ok x) e h = record {
  written = h.written;
  extra = h.extra;
  writes = h.writes;
  is = λ z. h.is z ∙ sym (has e (front_pairs load (chain_items s list)));
  moves = h.moves;
}
  where
    has : {b : Bool} → b ≡ true → (xs : List Record) → (if b then xs else []) ≡ xs
    has e xs = rw e refl
slab_reports s t list w v slab k load (Err f) e h = record {
  tried = h.tried;
  few = λ z. rw e (h.few z);
  stops = h.stops;
}

-- and of one that hasn't.
pub slab_passes : {s : RigState} {list : Chain} {w : Writer} (slab : Slab) (k : ℕ) (load : List Record)
    → Sound s → CanReportList s list w → has_strip slab k ≡ false
    → ReportsSlab slab k load s s list w w
slab_passes {s} {list} slab k load h i e = record {
  written = [];
  extra = 0;
  writes = pairs_none h i.pairs;
  is = λ z. rw e refl;
  moves = λ z. omega arith;
}

lists_long : (s : RigState) (lists : List Chain) → length (chains_lists s lists) ≡ length lists
lists_long s lists = length-map lists (chain_items s)

whole : {A : Type 0} (xs : List A) (n : ℕ) → n ≡ length xs → take n xs ≡ xs
whole xs n e = take_all n xs (omega (arith, e))

pub lists_in_use : (s : RigState) (lists : List Chain) → IsTrue s.device.told → AreChains s lists
    → AllInUse s (chains_blocks s lists)
lists_in_use s [] z i = tt
lists_in_use s (c ∷ cs) z (one, rest) =
    in_use_append s (chain_blocks s c) (chains_blocks s cs) (one.is.told z).holds.in_use
    (lists_in_use s cs z rest)

-- The lists stay while pairs are written,
pub report_lists : {e : ℕ} {s t : RigState} {lists : List Chain} {w v : Writer} {xs : List Record}
    → CanReport s lists w → WritesPairs e s t w v xs → ChainsStay s t lists
report_lists {s = s} {t = t} {lists = lists} {w = w} i h =
    chains_stay (writer_blocks s w) s t lists h.runs.session.touches i.apart i.are

-- and may be reported on.
pub report_can : {e : ℕ} {s t : RigState} {lists : List Chain} {w v : Writer} {xs : List Record}
    → CanReport s lists w → WritesPairs e s t w v xs → CanReport t lists v
report_can {s = s} {t = t} {lists = lists} {w = w} {v = v} i h =
    let st = report_lists i h in
    record {
      are = st.are;
      pairs = pairs_is i.pairs h;
      apart = λ y.
          let z : IsTrue s.device.told = sym h.wrote.told ∙ y in
          rw (st.blocks z) (within_apart s (writer_blocks s w) (writer_blocks t v)
          (chains_blocks s lists) z h.runs.session.within (lists_in_use s lists z i.are) (i.apart z));
      numbered = λ y.
          let z : IsTrue s.device.told = sym h.wrote.told ∙ y in
          subst (λ (xss : List (List Record)). AreNumbered (map (map interval_in) xss))
          (sym (st.lists z)) (i.numbered z);
    }

-- One of the lists.
pub report_one : {s : RigState} {lists : List Chain} {w : Writer} (k : ℕ) → k < length lists
    → CanReport s lists w → CanReportList s (get_or lists k empty_chain) w
report_one {s} {lists} {w} k l i =
    let c = chain_at s lists k l i.are in
    record {
      chain = c.is;
      packed = c.packed;
      pairs = i.pairs;
      apart = λ z. apart_at s lists k (writer_blocks s w) l (i.apart z);
    }

-- The pairs of one multislab more,
front_next : (slabs : List Slab) (k : ℕ) (load : List Record) (lists : List (List Record)) (n : ℕ)
    (d : Slab) → n < length slabs → length lists ≡ length slabs
    → load_front (take (suc n) slabs) k load (take (suc n) lists)
    ≡ load_front (take n slabs) k load (take n lists)
    ++ slab_front (get_or slabs n d) k load (get_or lists n [])
front_next [] k load lists n d l e = absurd (omega (arith, l))
front_next (t ∷ slabs) k load [] n d l e = absurd (omega (arith, e))
front_next (t ∷ slabs) k load (xs ∷ lists) zero d l e = append-nil (slab_front t k load xs)
front_next (t ∷ slabs) k load (xs ∷ lists) (suc n) d l e =
    ap (λ (ys : List Record). slab_front t k load xs ++ ys)
    (front_next slabs k load lists n d (omega (arith, l)) (omega (arith, e)))
    ∙ sym (append_assoc (slab_front t k load xs) (load_front (take n slabs) k load (take n lists))
    (slab_front (get_or slabs n d) k load (get_or lists n [])))

-- and those of the others after it.
front_rest : (slabs : List Slab) (k : ℕ) (load : List Record) (lists : List (List Record)) (n : ℕ)
    → length lists ≡ length slabs
    → load_front slabs k load lists
    ≡ load_front (take n slabs) k load (take n lists)
    ++ load_front (drop n slabs) k load (drop n lists)
front_rest [] k load lists n e = none n
  where
    none : (n : ℕ) → [] ≡ load_front (take n []) k load (take n lists)
        ++ load_front (drop n []) k load (drop n lists)
    none zero = refl
    none (suc n) = refl
front_rest (t ∷ slabs) k load [] n e = absurd (omega (arith, e))
front_rest (t ∷ slabs) k load (xs ∷ lists) zero e = refl
front_rest (t ∷ slabs) k load (xs ∷ lists) (suc n) e =
    ap (λ (ys : List Record). slab_front t k load xs ++ ys)
    (front_rest slabs k load lists n (omega (arith, e)))
    ∙ sym (append_assoc (slab_front t k load xs) (load_front (take n slabs) k load (take n lists))
    (load_front (drop n slabs) k load (drop n lists)))

-- The first n multislabs were gone through.
pub record FrontSoFar (slabs : List Slab) (k : ℕ) (load : List Record) (n : ℕ) (s t : RigState)
    (lists : List Chain) (w v : Writer) : Type 0 where
  pub written : List Record
  pub extra : ℕ
  pub writes : WritesPairs extra s t w v written
  pub is : IsTrue s.device.told
      → written ≡ load_front (take n slabs) k load (take n (chains_lists s lists))
  pub moves : IsTrue s.device.told
      → extra * payload_in s ≤ length written + n * s.pool.shape.block

pub so_far_none : {s : RigState} {lists : List Chain} {w : Writer} (slabs : List Slab) (k : ℕ)
    (load : List Record) → Sound s → CanReport s lists w → FrontSoFar slabs k load 0 s s lists w w
so_far_none slabs k load h i = record {
  written = [];
  extra = 0;
  writes = pairs_none h i.pairs;
  is = λ z. refl;
  moves = λ z. omega arith;
}

pub so_far_next : {n : ℕ} {slabs : List Slab} {k : ℕ} {load : List Record} {s t u : RigState}
    {lists : List Chain} {w v o : Writer} (d : Slab) → n < length slabs
    → length lists ≡ length slabs → CanReport s lists w → FrontSoFar slabs k load n s t lists w v
    → ReportsSlab (get_or slabs n d) k load t u (get_or lists n empty_chain) v o
    → FrontSoFar slabs k load (n + 1) s u lists w o
so_far_next {n} {slabs} {k} {load} {s} {t} {u} {lists} {w} {v} {o} d l e i h g =
    let st = report_lists i h.writes in
    let pt : payload_in t ≡ payload_in s =
    payload_kept (writer_blocks s w) s t h.writes.runs.session.touches in
    let bt : t.pool.shape.block ≡ s.pool.shape.block =
    ap (λ (n : ShapeNumbers). n.block) h.writes.runs.session.touches.shape in
    let one : n + 1 ≡ suc n = omega arith in
    record {
      written = h.written ++ g.written;
      extra = h.extra + g.extra;
      writes = pairs_then h.written g.written h.writes g.writes;
      is = λ z.
          let y : IsTrue t.device.told = h.writes.wrote.told ∙ z in
          let items : chain_items t (get_or lists n empty_chain)
          ≡ get_or (chains_lists s lists) n [] =
          sym (list_at t lists n (omega (arith, l, e)))
          ∙ ap (λ (xss : List (List Record)). get_or xss n []) (st.lists z) in
          ap (λ (xs : List Record). xs ++ g.written) (h.is z)
          ∙ ap (λ (xs : List Record). load_front (take n slabs) k load (take n (chains_lists s lists)) ++ xs)
          (g.is y ∙ ap (λ (xs : List Record). slab_front (get_or slabs n d) k load xs) items)
          ∙ sym (front_next slabs k load (chains_lists s lists) n d l (lists_long s lists ∙ e))
          ∙ ap (λ (m : ℕ). load_front (take m slabs) k load (take m (chains_lists s lists))) (sym one);
      moves = λ z.
          let y : IsTrue t.device.told = h.writes.wrote.told ∙ z in
          let a = h.moves z in
          let b = rw (pt, bt) at (g.moves y) in
          let c = length-append h.written g.written in
          let p = mul_comm (h.extra + g.extra) (payload_in s) in
          let q = mul-add (payload_in s) h.extra g.extra in
          let r = mul_comm h.extra (payload_in s) in
          let x = mul_comm g.extra (payload_in s) in
          let f = mul_comm (n + 1) s.pool.shape.block in
          let m = mul-add s.pool.shape.block n 1 in
          let j = mul_comm n s.pool.shape.block in
          omega (arith, a, b, c, p, q, r, x, f, m, j);
    }

pub so_far_stops : {n : ℕ} {slabs : List Slab} {k : ℕ} {load : List Record} {s t u : RigState}
    {lists : List Chain} {w v : Writer} {fault : EmFault} (d : Slab) → n < length slabs
    → length lists ≡ length slabs → CanReport s lists w → FrontSoFar slabs k load n s t lists w v
    → StopsSlab (get_or slabs n d) k load t u (get_or lists n empty_chain) v fault
    → StopsLoad slabs k load s u lists w fault
so_far_stops {n} {slabs} {k} {load} {s} {t} {u} {lists} {w} {v} {fault} d l e i h g =
    let st = report_lists i h.writes in
    let list = get_or lists n empty_chain in
    let due = load_front slabs k load (chains_lists s lists) in
    let before = load_front (take n slabs) k load (take n (chains_lists s lists)) in
    let here = slab_front (get_or slabs n d) k load (get_or (chains_lists s lists) n []) in
    let long = lists_long s lists ∙ e in
    let whole = ap (λ (xs : List Record). length xs)
    (front_rest slabs k load (chains_lists s lists) (suc n) long) in
    let parts = length-append (load_front (take (suc n) slabs) k load (take (suc n) (chains_lists s lists)))
    (load_front (drop (suc n) slabs) k load (drop (suc n) (chains_lists s lists))) in
    let next = ap (λ (xs : List Record). length xs)
    (front_next slabs k load (chains_lists s lists) n d l long) in
    let both = length-append before here in
    record {
      tried = length h.written + g.tried;
      extra = h.extra + list.blocks;
      stops = stops_then h.written h.writes g.stops;
      few = λ z.
          let y : IsTrue t.device.told = h.writes.wrote.told ∙ z in
          let items : chain_items t list ≡ get_or (chains_lists s lists) n [] =
          sym (list_at t lists n (omega (arith, l, e)))
          ∙ ap (λ (xss : List (List Record)). get_or xss n []) (st.lists z) in
          let a = ap (λ (xs : List Record). length xs) (h.is z) in
          let b = rw items at (g.few y) in
          omega (arith, a, b, whole, parts, next, both);
      moves = λ z.
          let a = h.moves z in
          let len = ap (λ (xs : List Record). length xs) (h.is z) in
          let held = mul-le-mul_right (payload_in s) (held_at lists n (omega (arith, l, e))) in
          let few = mul-le-mul_right s.pool.shape.block (below l) in
          let p = mul_comm (h.extra + list.blocks) (payload_in s) in
          let q = mul-add (payload_in s) h.extra list.blocks in
          let r = mul_comm h.extra (payload_in s) in
          let x = mul_comm list.blocks (payload_in s) in
          omega (arith, a, len, held, few, p, q, r, x, whole, parts, next, both);
    }
  where
    below : {m n : ℕ} → m < n → m ≤ n
    below {m} {n} h = omega (arith, h)

-- All were.
pub so_far_all : {n : ℕ} {slabs : List Slab} {k : ℕ} {load : List Record} {s t : RigState}
    {lists : List Chain} {w v : Writer} → n ≡ length slabs → length lists ≡ length slabs
    → FrontSoFar slabs k load n s t lists w v → ReportsLoad slabs k load s t lists w v
so_far_all {n} {slabs} {k} {load} {s} {t} {lists} {w} {v} e l h = record {
  written = h.written;
  extra = h.extra;
  writes = h.writes;
  is = λ z. h.is z ∙ ap (λ (ts : List Slab). load_front ts k load (take n (chains_lists s lists)))
      (whole slabs n e) ∙ ap (load_front slabs k load)
      (whole (chains_lists s lists) n (e ∙ sym (lists_long s lists ∙ l)));
  moves = λ z. let a = h.moves z in rw (← e) a;
}

pub load_err : {T : Type 0} (slabs : List Slab) (k : ℕ) (load : List Record) (s t : RigState)
    (lists : List Chain) (w v : Writer) (result : Result T EmFault) (e : EmFault)
    → IsErrAnd result (λ f. f ≡ e) → StopsLoad slabs k load s t lists w e
    → ReportsLoadTo slabs k load s t lists w v result
load_err slabs k load s t lists w v (Ok x) e h g = absurd h
load_err slabs k load s t lists w v (Err f) e h g =
    subst (λ (n : EmFault). StopsLoad slabs k load s t lists w n) (sym h) g
