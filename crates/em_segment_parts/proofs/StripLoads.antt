-- A strip's points, load by load, and strip by strip.
use Rattle.std.proofs.Common.{◌≡◌, ℕ, ◌+◌, ◌-◌, ◌*◌, ◌<◌, ◌≤◌, Bool, true, false, List, [], ◌∷◌, ◌++◌, length, map, refl, sym, ap, subst, ◌∙◌, arith, IsTrue, length-append, Result, Ok, Err, IsErrAnd}
use Rattle.std.proofs.Math.Nat.{mul-add, mul-le-mul_right, mul_comm}
use Rattle.std.proofs.lemmas.List.{append-nil, map-append}
use Rattle.std.specs.Prelude.{if◌then◌else◌}
use Rattle.em_record.specs.Shape.{IsShape, ShapeNumbers, wide_of}
use Rattle.em_record.specs.declared.record.Record.{Record}
use Rattle.em_frames.specs.Pool.{load_of}
use Rattle.em_model.specs.Stab.{NumberedInterval}
use Rattle.em_space.specs.Rig.{RigState, Sound}
use Rattle.em_space.specs.declared.fault.EmFault.{EmFault}
use Rattle.em_chain.specs.Chain.{chain_items, payload_in}
use Rattle.em_chain.specs.Effects.{GivesFrame, LendsFrame, Unmoved}
use Rattle.em_chain.specs.Reader.{owed, reader_items}
use Rattle.em_chain.specs.Reads.{Opens}
use Rattle.em_chain.specs.Writer.{writer_blocks}
use Rattle.em_chain.specs.declared.chain.Chain.{Chain}
use Rattle.em_chain.specs.declared.reader.Reader.{Reader}
use Rattle.em_chain.specs.declared.writer.Writer.{Writer}
use Rattle.em_chain.proofs.Keeps.{payload_kept}
use Rattle.em_chain.proofs.Readers.{length_left}
use Rattle.em_chain.proofs.Writings.{writer_lent}
use Rattle.em_space.proofs.Held.{apart_none}
use Rattle.em_tree_cost.proofs.Levels.{size_is}
use Rattle.em_segment_model.specs.Alike.{Alike}
use Rattle.em_segment_model.specs.Pieces.{Asked}
use Rattle.em_segment_model.specs.Points.{asked_in, interval_in}
use Rattle.em_segment_model.specs.Reports.{slab_pairs}
use Rattle.em_segment_model.specs.Slabs.{Slab, has_strip}
use Rattle.em_segment_model.proofs.Cost.{strip_reads}
use Rattle.em_segment_parts.specs.Chains.{ChainsStay, chains_blocks}
use Rattle.em_segment_parts.specs.Lists.{ReadsBeside, ReadsPairs}
use Rattle.em_segment_parts.specs.Strips.{AreNumbered, CanReportPoints, CanReportStrip, LoadsFit, ReportsAll, ReportsAllTo, ReportsPoints, ReportsStripTo, StopsAll, StopsPoints, intervals_in, points_due, strip_due}
use Rattle.em_segment_parts.proofs.Alikes.{alike_append, alike_length, alike_same, alike_then, due_append}
use Rattle.em_segment_parts.proofs.Chains.{chains_stay}
use Rattle.em_segment_parts.proofs.Fronts.{beside_opens, list_stops, list_writes}
use Rattle.em_segment_parts.proofs.Gets.{nil_of}
use Rattle.em_segment_parts.proofs.Loaded.{lists_same}
use Rattle.em_segment_parts.proofs.Reading.{reads_none, reads_then, stops_reading_then}

-- what is due of no point is nothing
none_due : (slabs : List Slab) (k : ℕ) (s : RigState) (lists : List Chain)
    → Alike [] (points_due slabs k s lists [])
none_due slabs k s lists = by_slabs slabs (intervals_in s lists)
  where
    by_slabs : (ts : List Slab) (iss : List (List NumberedInterval)) → Alike [] (slab_pairs ts iss k [])
    by_slabs [] iss = alike_same []
    by_slabs (t ∷ ts) [] = alike_same []
    by_slabs (t ∷ ts) (is ∷ iss) = by_test (has_strip t k) (by_slabs ts iss)
      where
        by_test : (b : Bool) → Alike [] (slab_pairs ts iss k [])
            → Alike [] ((if b then [] else []) ++ slab_pairs ts iss k [])
        by_test true h = h
        by_test false h = h

due_both : (slabs : List Slab) (k : ℕ) (s : RigState) (lists : List Chain) (xs ys : List Record)
    → Alike (points_due slabs k s lists xs ++ points_due slabs k s lists ys)
    (points_due slabs k s lists (xs ++ ys))
due_both slabs k s lists xs ys =
    subst (λ (ps : List Asked). Alike (points_due slabs k s lists xs ++ points_due slabs k s lists ys)
    (slab_pairs slabs (intervals_in s lists) k ps)) (sym (map-append asked_in xs ys))
    (due_append slabs (intervals_in s lists) k (map asked_in xs) (map asked_in ys))

due_there : {e : ℕ} {s t : RigState} {r q : Reader} {lists : List Chain} {w v : Writer}
    {xs ys : List Record} (slabs : List Slab) (k : ℕ) (points : List Record)
    → CanReportPoints s r lists w → ReadsPairs e s t r q w v xs ys → IsTrue s.device.told
    → points_due slabs k t lists points ≡ points_due slabs k s lists points
due_there slabs k points can h z =
    ap (λ (xss : List (List Record)). slab_pairs slabs (map (map interval_in) xss) k (map asked_in points))
    (lists_same can h z)

-- No load yet,
pub points_none : {s : RigState} {r : Reader} {lists : List Chain} {w : Writer} (slabs : List Slab)
    (k : ℕ) → Sound s → CanReportPoints s r lists w → ReportsPoints 0 slabs k 0 s s r r lists w w
points_none {s} {r} {lists} slabs k h can = record {
  points = [];
  len = refl;
  written = [];
  extra = 0;
  reads = reads_none h can.beside;
  alike = λ z. none_due slabs k s lists;
  moves = λ z. omega arith;
}

-- one more,
pub points_then : {loads n m : ℕ} {slabs : List Slab} {k : ℕ} {s t u : RigState} {r q p : Reader}
    {lists : List Chain} {w v o : Writer} → CanReportPoints s r lists w
    → ReportsPoints loads slabs k n s t r q lists w v → ReportsPoints 1 slabs k m t u q p lists v o
    → ReportsPoints (loads + 1) slabs k (n + m) s u r p lists w o
points_then {loads} {n} {m} {slabs} {k} {s} {t} {u} {r} {q} {p} {lists} {w} {v} {o} can h g =
    let pt : payload_in t ≡ payload_in s =
    payload_kept (writer_blocks s w) s t h.reads.runs.session.touches in
    let bt : t.pool.shape.block ≡ s.pool.shape.block =
    ap (λ (x : ShapeNumbers). x.block) h.reads.runs.session.touches.shape in
    let lp = length-append h.points g.points in
    let lw = length-append h.written g.written in
    let hl = h.len in
    let gl = g.len in
    record {
      points = h.points ++ g.points;
      len = omega arith;
      written = h.written ++ g.written;
      extra = h.extra + g.extra;
      reads = reads_then h.points h.written g.points g.written h.reads g.reads;
      alike = λ z.
          let y : IsTrue t.device.told = h.reads.wrote.told ∙ z in
          let there = subst (Alike g.written) (due_there slabs k g.points can h.reads z) (g.alike y) in
          alike_then (alike_append h.written (points_due slabs k s lists h.points) g.written
          (points_due slabs k s lists g.points) (h.alike z) there)
          (due_both slabs k s lists h.points g.points);
      moves = λ z.
          let y : IsTrue t.device.told = h.reads.wrote.told ∙ z in
          let a = h.moves z in
          let b = rw (pt, bt) at (g.moves y) in
          let each = length slabs * s.pool.shape.block in
          let x1 = mul_comm (h.extra + g.extra) (payload_in s) in
          let x2 = mul-add (payload_in s) h.extra g.extra in
          let x3 = mul_comm h.extra (payload_in s) in
          let x4 = mul_comm g.extra (payload_in s) in
          let x5 = mul_comm (loads + 1) each in
          let x6 = mul-add each loads 1 in
          let x7 = mul_comm loads each in
          omega (arith, a, b, lw, x1, x2, x3, x4, x5, x6, x7);
    }

-- or it gave up.
pub points_stop : {loads n : ℕ} {slabs : List Slab} {k : ℕ} {s t u : RigState} {r q : Reader}
    {lists : List Chain} {w v : Writer} {fault : EmFault} → CanReportPoints s r lists w
    → ReportsPoints loads slabs k n s t r q lists w v
    → StopsPoints 1 slabs k t u q lists v (reader_items t q) fault
    → StopsPoints (loads + 1) slabs k s u r lists w (reader_items s r) fault
points_stop {loads} {n} {slabs} {k} {s} {t} {u} {r} {q} {lists} {w} {v} {fault} can h g =
    let pt : payload_in t ≡ payload_in s =
    payload_kept (writer_blocks s w) s t h.reads.runs.session.touches in
    let bt : t.pool.shape.block ≡ s.pool.shape.block =
    ap (λ (x : ShapeNumbers). x.block) h.reads.runs.session.touches.shape in
    let all : IsTrue s.device.told → length h.written
    + length (points_due slabs k t lists (reader_items t q))
    ≡ length (points_due slabs k s lists (reader_items s r)) =
    λ z.
    let a = alike_length (h.alike z) in
    let b = ap (λ (xs : List Record). length xs) (due_there slabs k (reader_items t q) can h.reads z) in
    let c = alike_length (due_both slabs k s lists h.points (reader_items t q)) in
    let d = length-append (points_due slabs k s lists h.points)
    (points_due slabs k s lists (reader_items t q)) in
    let e = ap (λ (xs : List Record). length (points_due slabs k s lists xs)) (h.reads.took.items z) in
    omega (arith, a, b, c, d, e) in
    record {
      tried = length h.written + g.tried;
      extra = h.extra + g.extra;
      stops = stops_reading_then h.points h.written h.reads g.stops;
      few = λ z.
          let y : IsTrue t.device.told = h.reads.wrote.told ∙ z in
          let f = g.few y in
          let e = all z in
          omega (arith, f, e);
      moves = λ z.
          let y : IsTrue t.device.told = h.reads.wrote.told ∙ z in
          let a = h.moves z in
          let b = rw (pt, bt) at (g.moves y) in
          let e = all z in
          let each = length slabs * s.pool.shape.block in
          let x1 = mul_comm (h.extra + g.extra) (payload_in s) in
          let x2 = mul-add (payload_in s) h.extra g.extra in
          let x3 = mul_comm h.extra (payload_in s) in
          let x4 = mul_comm g.extra (payload_in s) in
          let x5 = mul_comm (loads + 1) each in
          let x6 = mul-add each loads 1 in
          let x7 = mul_comm loads each in
          omega (arith, a, b, e, x1, x2, x3, x4, x5, x6, x7);
    }

-- The loop over loads: this many points are left of the first ones.
pub record LoadsSoFar (most : ℕ) (slabs : List Slab) (k count left : ℕ) (s t : RigState) (r q : Reader)
    (lists : List Chain) (w v : Writer) : Type 0 where
  pub loads : ℕ
  pub read : ℕ
  pub read_is : read + left ≡ count
  pub reports : ReportsPoints loads slabs k read s t r q lists w v
  pub full : loads * most + left ≤ count + most
  pub exact : 0 < left → loads * most + left ≡ count

pub all_none : {s : RigState} {r : Reader} {lists : List Chain} {w : Writer} (most : ℕ)
    (slabs : List Slab) (k count : ℕ) → Sound s → CanReportPoints s r lists w
    → LoadsSoFar most slabs k count count s s r r lists w w
all_none most slabs k count h can = record {
  loads = 0;
  read = 0;
  read_is = omega arith;
  reports = points_none slabs k h can;
  full = omega arith;
  exact = λ l. omega arith;
}

pub all_next : {most k count left number : ℕ} {slabs : List Slab} {s t u : RigState} {r q p : Reader}
    {lists : List Chain} {w v o : Writer} → CanReportPoints s r lists w → 0 < left → number ≤ left
    → number ≤ most → (number < left → number ≡ most)
    → LoadsSoFar most slabs k count left s t r q lists w v
    → ReportsPoints 1 slabs k number t u q p lists v o
    → LoadsSoFar most slabs k count (left - number) s u r p lists w o
all_next {most} {k} {count} {left} {number} can some few within full h g =
    let is = h.read_is in
    let exact = h.exact some in
    let step = mul_comm (h.loads + 1) most in
    let sum = mul-add most h.loads 1 in
    let turn = mul_comm h.loads most in
    record {
      loads = h.loads + 1;
      read = h.read + number;
      read_is = omega (arith, is, few);
      reports = points_then can h.reports g;
      full = omega (arith, exact, step, sum, turn, few, within);
      exact = λ l.
          let e = full (omega (arith, l)) in omega (arith, exact, step, sum, turn, e, few, l);
    }

pub all_stop : {most k count left : ℕ} {slabs : List Slab} {s t u : RigState} {r q : Reader}
    {lists : List Chain} {w v : Writer} {fault : EmFault} → CanReportPoints s r lists w → 0 < left
    → LoadsSoFar most slabs k count left s t r q lists w v
    → StopsPoints 1 slabs k t u q lists v (reader_items t q) fault
    → StopsAll most slabs k count s u r lists w (reader_items s r) fault
all_stop {most} {k} {count} {left} can some h g =
    let exact = h.exact some in
    let step = mul_comm (h.loads + 1) most in
    let sum = mul-add most h.loads 1 in
    let turn = mul_comm h.loads most in
    record {
      loads = h.loads + 1;
      fit = record { full = omega (arith, exact, step, sum, turn) };
      stops = points_stop can h.reports g;
    }

pub all_read : {most k count left : ℕ} {slabs : List Slab} {s t : RigState} {r q : Reader}
    {lists : List Chain} {w v : Writer} → left ≡ 0 → LoadsSoFar most slabs k count left s t r q lists w v
    → ReportsAll most slabs k count s t r q lists w v
all_read {most} {k} {count} {left} {slabs} {s} {t} {r} {q} {lists} {w} {v} none h =
    let is = h.read_is in
    let f = h.full in
    let e : h.read ≡ count = omega (arith, is, none) in
    record {
      loads = h.loads;
      fit = record { full = omega (arith, f, none) };
      reports = subst (λ (n : ℕ). ReportsPoints h.loads slabs k n s t r q lists w v) e h.reports;
    }

pub all_err : {T : Type 0} (most : ℕ) (slabs : List Slab) (k n : ℕ) (s t : RigState) (r q : Reader)
    (lists : List Chain) (w v : Writer) (due : List Record) (result : Result T EmFault) (e : EmFault)
    → IsErrAnd result (λ f. f ≡ e) → StopsAll most slabs k n s t r lists w due e
    → ReportsAllTo most slabs k n s t r q lists w v due result
all_err most slabs k n s t r q lists w v due (Ok x) e h g = absurd h
all_err most slabs k n s t r q lists w v due (Err f) e h g =
    subst (λ (m : EmFault). StopsAll most slabs k n s t r lists w due m) (sym h) g

-- A strip's points, by a reader and an area.
module _ {s a : RigState} {points : Chain} {r : Reader} {w : Writer} {lists : List Chain}
    (can : CanReportStrip s points lists w) (l : LendsFrame s a) (m : Unmoved s a)
    (o : Opens s a points false r) where
  lists_lent : ChainsStay s a lists
  lists_lent = chains_stay [] s a lists l.touches (λ z. apart_none (chains_blocks s lists))
      can.lists_can.are

  -- the loads may be reported on
  pub strip_opens : CanReportPoints a r lists w
  strip_opens =
      let i = can.lists_can in
      let st = lists_lent in
      let beside : ReadsBeside a r w = beside_opens (record {
        chain = can.points_are.is;
        packed = can.points_are.packed;
        pairs = i.pairs;
        apart = can.points_apart;
      }) l m o in
      let k = writer_lent i.pairs.writer l in
      record {
        beside = beside;
        lists_can = record {
          are = st.are;
          pairs = beside.pairs;
          apart = λ y.
              let z : IsTrue s.device.told = sym l.touches.told ∙ y in
              rw (st.blocks z, k.blocks z) (i.apart z);
          numbered = λ y.
              let z : IsTrue s.device.told = sym l.touches.told ∙ y in
              subst (λ (xss : List (List Record)). AreNumbered (map (map interval_in) xss))
              (sym (st.lists z)) (i.numbered z);
        };
      }

  -- what is due of points is the same
  strip_same : (slabs : List Slab) (k : ℕ) (xs : List Record) → IsTrue s.device.told
      → points_due slabs k a lists xs ≡ points_due slabs k s lists xs
  strip_same slabs k xs z =
      ap (λ (xss : List (List Record)). slab_pairs slabs (map (map interval_in) xss) k (map asked_in xs))
      (lists_lent.lists z)

less : (m n : ℕ) → m - n ≤ m
less m n = omega arith

-- an area has room for a record
pub load_some : (shape : ShapeNumbers) → IsShape shape → 1 ≤ load_of shape
load_some shape is =
    let wide : 8 * shape.block ≤ wide_of shape * shape.block =
    mul-le-mul_right shape.block (size_is shape is).wide in
    omega (arith, wide, is.block_low)

-- The loads cost no more than twice the points, and twice an area.
loads_paid : (s : RigState) (slabs count loads : ℕ) → slabs ≤ 2 * wide_of s.pool.shape
    → LoadsFit count loads (load_of s.pool.shape)
    → loads * (slabs * s.pool.shape.block) ≤ 2 * count + 2 * load_of s.pool.shape
loads_paid s slabs count loads few fit =
    let h = strip_reads (wide_of s.pool.shape) s.pool.shape.block count loads slabs few fit.full in
    omega (arith, h)

pub strip_reports : {T : Type 0} {s a b t : RigState} {points : Chain} {r : Reader} {w : Writer}
    {lists : List Chain} (slabs : List Slab) (k : ℕ) (q : Reader) (v : Writer)
    (result : Result T EmFault) → Sound s → CanReportStrip s points lists w
    → length slabs ≤ 2 * wide_of s.pool.shape → LendsFrame s a → Unmoved s a → Opens s a points false r
    → ReportsAllTo (load_of s.pool.shape) slabs k points.count a b r q lists w v (reader_items a r) result
    → GivesFrame [] b t → Unmoved b t → ReportsStripTo slabs k s t points lists w v result
strip_reports {s = s} {a = a} {b = b} {t = t} {points = points} {r = r} {w = w} {lists = lists} slabs k q v (Ok x) sound can few l m o h g y =
    let i = can.lists_can in
    let f = h.reports in
    let pa : payload_in a ≡ payload_in s = payload_kept [] s a l.touches in
    let ba : a.pool.shape.block ≡ s.pool.shape.block =
    ap (λ (n : ShapeNumbers). n.block) l.touches.shape in
    let paid = loads_paid s (length slabs) points.count h.loads few h.fit in
    let whole : IsTrue s.device.told → f.points ≡ chain_items s points =
    λ z.
    let za : IsTrue a.device.told = l.touches.told ∙ z in
    let took = f.reads.took in
    let left = took.left_is in
    let len = f.len in
    let count = ap (λ (d : Chain). d.count) o.words in
    let none = nil_of (reader_items b q)
    (length_left b q took.is (took.told ∙ za) ∙ omega (arith, left, len, count)) in
    sym (sym (o.items z) ∙ (took.items za
    ∙ (ap (λ (xs : List Record). f.points ++ xs) none ∙ append-nil f.points))) in
    record {
      written = f.written;
      extra = f.extra + (points.blocks - owed q);
      writes = list_writes i.pairs l m o f.reads g y;
      alike = λ z.
          let za : IsTrue a.device.told = l.touches.told ∙ z in
          subst (Alike f.written) (strip_same can l m o slabs k f.points z
          ∙ ap (points_due slabs k s lists) (whole z)) (f.alike za);
      moves = λ z.
          let za : IsTrue a.device.told = l.touches.told ∙ z in
          let e = rw (pa, ba) at (f.moves za) in
          let read = mul-le-mul_right (payload_in s) (less points.blocks (owed q)) in
          let x1 = mul_comm (f.extra + (points.blocks - owed q)) (payload_in s) in
          let x2 = mul-add (payload_in s) f.extra (points.blocks - owed q) in
          let x3 = mul_comm f.extra (payload_in s) in
          let x4 = mul_comm (points.blocks - owed q) (payload_in s) in
          omega (arith, e, read, paid, x1, x2, x3, x4);
    }
strip_reports {s = s} {a = a} {b = b} {t = t} {points = points} {r = r} {w = w} {lists = lists} slabs k q v (Err fault) sound can few l m o h g y =
    let i = can.lists_can in
    let f = h.stops in
    let pa : payload_in a ≡ payload_in s = payload_kept [] s a l.touches in
    let ba : a.pool.shape.block ≡ s.pool.shape.block =
    ap (λ (n : ShapeNumbers). n.block) l.touches.shape in
    let paid = loads_paid s (length slabs) points.count h.loads few h.fit in
    let same : IsTrue s.device.told → length (points_due slabs k a lists (reader_items a r))
    ≡ length (strip_due slabs k s points lists) =
    λ z. ap (λ (xs : List Record). length xs) (strip_same can l m o slabs k (reader_items a r) z
    ∙ ap (points_due slabs k s lists) (o.items z)) in
    record {
      tried = f.tried;
      extra = f.extra + points.blocks;
      stops = list_stops i.pairs l m o f.stops g y;
      few = λ z.
          let n = f.few (l.touches.told ∙ z) in
          let e = same z in
          omega (arith, n, e);
      moves = λ z.
          let za : IsTrue a.device.told = l.touches.told ∙ z in
          let e = rw (pa, ba) at (f.moves za) in
          let n = same z in
          let x1 = mul_comm (f.extra + points.blocks) (payload_in s) in
          let x2 = mul-add (payload_in s) f.extra points.blocks in
          let x3 = mul_comm f.extra (payload_in s) in
          let x4 = mul_comm points.blocks (payload_in s) in
          omega (arith, e, n, paid, x1, x2, x3, x4);
    }
