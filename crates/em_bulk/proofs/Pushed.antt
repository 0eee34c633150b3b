-- A pair is pushed.
use Rattle.std.proofs.Common.{◌≡◌, ℕ, ◌+◌, ◌<◌, ◌≤◌, List, [], ◌∷◌, ◌++◌, refl, sym, ap, ◌∙◌, subst, arith, ⊎_elim, IsTrue, Result, Ok, Err, IsErrAnd}
use Rattle.em_record.specs.Shape.{ShapeNumbers}
use Rattle.em_record.specs.declared.record.Record.{Record}
use Rattle.em_settle.specs.Map.{map_record}
use Rattle.em_space.specs.Rig.{RigState}
use Rattle.em_space.specs.declared.fault.EmFault.{EmFault}
use Rattle.em_space.proofs.Ledgers.{full_by}
use Rattle.em_chain.specs.Writer.{writer_items}
use Rattle.em_tree_load.proofs.Peaks.{peaks_then, peaks_wider}
use Rattle.em_tree_load.proofs.Payments.{paid_then, paid_then_stops, stops_paid_more}
use Rattle.em_bulk.specs.Building.{AddsPair, IsBuilder, IsOpen, Pushes, StopsPushing, StopsTurning, Turned, builder_blocks, spent_by}
use Rattle.em_bulk.specs.Pairs.{IsRun}
use Rattle.em_bulk.specs.declared.builder.Builder.{Builder}
use Rattle.em_bulk.proofs.Keys.{run_none, run_wider}

-- a builder of pairs below a key is one of pairs below a greater key
open_wider : {s : RigState} {b : Builder} {top : ℕ} (more : ℕ) → top ≤ more → IsOpen s b top → IsOpen s b more
open_wider more h i =
    let low = i.low in
    record {
      full = i.full;
      leaf = i.leaf;
      frames = i.frames;
      filled_is = i.filled_is;
      size = i.size;
      count = i.count;
      most = i.most;
      low = omega (arith, low, h);
      told = λ z.
          let p = i.told z in
          record { holds = p.holds; packed = p.packed; lead = p.lead; first = p.first; run = run_wider more h p.run };
    }

-- with no pair any key may come
open_none : {s : RigState} {b : Builder} {top : ℕ} (key : ℕ) → b.count ≡ 0 → b.low ≡ 0
    → (IsTrue s.device.told → writer_items s b.leaf ≡ []) → IsOpen s b top → IsOpen s b key
open_none {s} {b} {top} key none low empty i =
    record {
      full = i.full;
      leaf = i.leaf;
      frames = i.frames;
      filled_is = i.filled_is;
      size = i.size;
      count = i.count;
      most = i.most;
      low = omega (arith, low);
      told = λ z.
          let p = i.told z in
          let R : List Record → Type 0 = λ xs. IsRun b.low key xs in
          record {
            holds = p.holds;
            packed = p.packed;
            lead = p.lead;
            first = p.first;
            run = subst R (sym (empty z)) (run_none b.low key);
          };
    }

-- A pair whose key is above all others may come.
pub open_at : {s : RigState} {b : Builder} (key : ℕ) → IsBuilder s b → (0 < b.count → b.last < key) → IsOpen s b key
open_at {s} {b} key i h =
    ⊎_elim (λ (n : (b.count ≡ 0) × (b.low ≡ 0)). open_none key n.0 n.1 (i.none n.0) i.below)
    (λ (n : (0 < b.leaf.count) × (b.low ≤ b.last)).
    let c = i.below.count in
    let some = n.0 in
    let l = h (omega (arith, c, some)) in
    open_wider key (omega (arith, l)) i.below) i.some

module _ (key value : ℕ) where
  -- It was added to the leaf that was being written,
  pub pushes_one : (s t : RigState) (b d : Builder) (result : Result Unit EmFault) → AddsPair s t b d key value result → Pushes s t b d key value result
  pushes_one s t b d (Ok x) a = record {
    runs = a.runs;
    is = a.is;
    last = a.last;
    count = a.count;
    pairs = a.pairs;
    moves = a.moves;
    peaks = peaks_wider 3 (omega arith) a.peaks;
  }
  pushes_one s t b d (Err e) a =
      let m = a.moves in
      record {
        stops = stops_paid_more (builder_blocks s b) 3 (omega arith) a.stops (λ z j. refl);
        full = full_by e (s.blocks < s.used + 1) (s.blocks < s.used + 3) (λ h. omega (arith, h)) a.full;
        moves = omega (arith, m);
        peaks = peaks_wider 3 (omega arith) a.peaks;
      }

  -- or to another one.
  pub pushes_two : {s a : RigState} {b c : Builder} (t : RigState) (d : Builder) (result : Result Unit EmFault) → Turned s a b c key
      → AddsPair a t c d key value result → Pushes s t b d key value result
  pushes_two {s} {a} {b} {c} t d (Ok o) x y =
      let xm = x.moves in
      let ym = y.moves in
      let xc = x.count in
      let yc = y.count in
      let shape = x.runs.session.touches.shape in
      let e1 = ap (λ (p : ShapeNumbers). spent_by p c) shape in
      let e2 = ap (λ (p : ShapeNumbers). spent_by p d) shape in
      record {
        runs = paid_then (builder_blocks a c) x.runs (λ z j. refl) y.runs;
        is = y.is;
        last = y.last;
        count = omega (arith, xc, yc);
        pairs = λ z. y.pairs (x.runs.session.touches.told ∙ z)
            ∙ ap (λ (ps : List Record). ps ++ map_record key value ∷ []) (x.pairs z);
        moves = omega (arith, xm, ym, e1, e2);
        peaks = peaks_then 3 x.peaks y.peaks (omega arith);
      }
  pushes_two {s} {a} {b} {c} t d (Err e) x y =
      let xu = x.peaks.used in
      let ym = y.moves in
      let xt = x.runs.session.touches.blocks in
      let xm = x.few in
      record {
        stops = stops_paid_more (builder_blocks s b) 3 (omega arith)
            (paid_then_stops (builder_blocks a c) x.runs (λ z j. refl) y.stops) (λ z j. refl);
        full = full_by e (a.blocks < a.used + 1) (s.blocks < s.used + 3) (λ h. omega (arith, h, xu, xt)) y.full;
        moves = omega (arith, xm, ym);
        peaks = peaks_then 3 x.peaks y.peaks (omega arith);
      }

-- No other leaf could begin.
pub unpushed : {s t : RigState} {b : Builder} (d : Builder) (key value : ℕ) (result : Result Unit EmFault) (e : EmFault)
    → IsErrAnd result (λ m. m ≡ e) → StopsTurning s t b e → Pushes s t b d key value result
unpushed d key value (Ok o) e h x = absurd h
unpushed {s} {t} {b} d key value (Err m) e h x =
    let P : EmFault → Type 0 = λ f. StopsPushing s t b f in
    let xm = x.moves in
    subst P (sym h) (record {
      stops = x.stops;
      full = full_by e (s.blocks < s.used + 2) (s.blocks < s.used + 3) (λ k. omega (arith, k)) x.full;
      moves = omega (arith, xm);
      peaks = peaks_wider 3 (omega arith) x.peaks;
    })
