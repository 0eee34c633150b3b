-- A load of points over multislabs: read, and put against the lists.
use Rattle.std.proofs.Common.{◌≡◌, ℕ, ◌+◌, ◌<◌, ◌≤◌, Bool, false, List, [], ◌∷◌, ◌++◌, length, map, take, refl, sym, ap, subst, ◌∙◌, arith, IsTrue, length-append, Result, Ok, Err, IsErrAnd}
use Rattle.std.proofs.lemmas.List.{append-nil, length-map, length-take-le, map-append}
use Rattle.std.specs.Prelude.{if◌then◌else◌}
use Rattle.em_record.specs.Order.{IsAscending, in_order}
use Rattle.em_record.specs.Shape.{ShapeNumbers}
use Rattle.em_record.specs.declared.record.Record.{Record}
use Rattle.em_record.proofs.Order.{length_order, order_ascends}
use Rattle.em_space.specs.Rig.{RigState, Sound}
use Rattle.em_space.specs.declared.fault.EmFault.{EmFault}
use Rattle.em_space.proofs.Ledgers.{full_by}
use Rattle.em_space.proofs.Paying.{pays_more}
use Rattle.em_space.proofs.Sessions.{session_as, session_still}
use Rattle.em_space.proofs.Runs.{runs_goes}
use Rattle.em_space.proofs.Within.{goes_wider, within_apart}
use Rattle.em_chain.specs.Chain.{payload_in}
use Rattle.em_chain.specs.Reader.{ReaderHasFrame, reader_items}
use Rattle.em_chain.specs.Writer.{WriterHasFrame, writer_blocks}
use Rattle.em_chain.specs.declared.chain.Chain.{Chain}
use Rattle.em_chain.specs.declared.reader.Reader.{Reader}
use Rattle.em_chain.specs.declared.writer.Writer.{Writer}
use Rattle.em_chain.proofs.Keeps.{has_kept, payload_kept}
use Rattle.em_chain.proofs.Sessions.{wrote_stays}
use Rattle.em_segment_model.specs.Alike.{Alike}
use Rattle.em_segment_model.specs.Loads.{AllFit, late_record}
use Rattle.em_segment_model.specs.Points.{asked_in, interval_in}
use Rattle.em_segment_model.specs.Pieces.{Asked}
use Rattle.em_segment_model.specs.Reports.{slab_pairs}
use Rattle.em_segment_model.specs.Slabs.{Slab}
use Rattle.em_segment_parts.specs.Accounts.{reader_account}
use Rattle.em_segment_parts.specs.Chains.{chains_blocks, chains_lists}
use Rattle.em_queued.specs.Popped.{grown_blocks}
use Rattle.em_segment_parts.specs.Lists.{ReadsBeside, ReadsPairs, StopsReading}
use Rattle.em_segment_parts.specs.Loads.{ReadsLoad, ReadsSome, StopsSome}
use Rattle.em_segment_parts.specs.Strips.{AreNumbered, CanReportPoints, ReportsLoadTo, ReportsNextTo, StopsPoints, intervals_in, load_front, points_due}
use Rattle.em_segment_parts.proofs.Alikes.{alike_length, due_append, load_alike}
use Rattle.em_segment_parts.proofs.Chains.{chains_stay}
use Rattle.em_segment_parts.proofs.Multislabs.{lists_in_use}
use Rattle.em_segment_parts.proofs.Reading.{over_goes, pairs_still, reads_beside, reads_then, reads_wider, reads_writes, stops_reading_more, stops_reading_then, stops_write}
use Rattle.em_segment_parts.proofs.Writing.{grown_least}

-- Points were read by a reader that leaves its blocks, and the pairs stayed.
pub some_beside : {s t : RigState} {r q : Reader} {w : Writer} {xs : List Record} → ReadsBeside s r w
    → ReadsSome s t r q xs → ReadsPairs 0 s t r q w w xs []
some_beside {s} {t} {r} {q} {w} {xs} b h =
    let d = over_goes r b.over (runs_goes h.runs) in
    let st = pairs_still b.pairs d in
    let e = h.runs.spends in
    let none_r = none_taken r.taking r.blocks b.over in
    let none_q = none_taken q.taking q.blocks (h.took.taking ∙ b.over) in
    record {
      runs = record {
        session = session_as (writer_blocks t w) (session_still (writer_blocks s w) d.sound d.touches
            (λ z. (b.pairs.writer.told z).holds)) st.blocks;
        frames = d.frames;
        spends = record {
          held = omega arith;
          used = omega (arith, e.used, none_r, none_q);
          most = omega (arith, e.most, none_r);
          moves = omega (arith, e.moves);
          later = e.later;
          pays = pays_more e.pays (omega arith);
        };
      };
      took = h.took;
      wrote = wrote_stays d.touches.told st;
      grows = omega arith;
      few = b.pairs.few;
    }
  where
    none_taken : (b : Bool) (n : ℕ) → b ≡ false → (if b then n else 0) ≡ 0
    none_taken b n e = rw e refl

-- The reading gave up.
pub stops_beside : {s t : RigState} {r : Reader} {w : Writer} {e : EmFault} → Sound s
    → ReadsBeside s r w → StopsSome s t r e → StopsReading 0 0 s t r w e
stops_beside {s} {t} {r} {w} {e} h b k =
    let d = over_goes r b.over k.stops.goes in
    let m = grown_least s w 0 h b.pairs.writer in
    let j = k.stops.halts in
    let none = none_taken r.taking r.blocks b.over in
    record {
      stops = record {
        goes = goes_wider (writer_blocks s w) [] s t (record { off = λ z j u o. tt }) d;
        halts = record {
          used = omega (arith, j.used, m, none);
          full = full_by e (t.used + (reader_account r).blocks < s.used + (reader_account r).blocks)
              (t.used + (w.blocks + 0) < s.used + grown_blocks 0 s w)
              (λ p. omega (arith, p, m, none)) j.full;
          most = omega (arith, j.most, m, none);
          moves = omega (arith, j.moves);
          later = j.later;
          pays = pays_more j.pays (omega arith);
        };
        cause = k.stops.cause;
      };
    }
  where
    none_taken : (b : Bool) (n : ℕ) → b ≡ false → (if b then n else 0) ≡ 0
    none_taken b n e = rw e refl

-- The lists stay while points are read,
pub lists_read : {e : ℕ} {s t : RigState} {r q : Reader} {lists : List Chain} {w v : Writer}
    {xs ys : List Record} → CanReportPoints s r lists w → ReadsPairs e s t r q w v xs ys
    → CanReportPoints t q lists v
lists_read {s = s} {t = t} {lists = lists} {w = w} {v = v} can h =
    let i = can.lists_can in
    let st = chains_stay (writer_blocks s w) s t lists h.runs.session.touches i.apart i.are in
    let beside = reads_beside can.beside h in
    record {
      beside = beside;
      lists_can = record {
        are = st.are;
        pairs = beside.pairs;
        apart = λ y.
            let z : IsTrue s.device.told = sym h.wrote.told ∙ y in
            rw (st.blocks z) (within_apart s (writer_blocks s w) (writer_blocks t v)
            (chains_blocks s lists) z h.runs.session.within (lists_in_use s lists z i.are) (i.apart z));
        numbered = λ y.
            let z : IsTrue s.device.told = sym h.wrote.told ∙ y in
            subst (λ (xss : List (List Record)). AreNumbered (map (map interval_in) xss))
            (sym (st.lists z)) (i.numbered z);
      };
    }

-- and have the same pieces.
pub lists_same : {e : ℕ} {s t : RigState} {r q : Reader} {lists : List Chain} {w v : Writer}
    {xs ys : List Record} → CanReportPoints s r lists w → ReadsPairs e s t r q w v xs ys
    → IsTrue s.device.told → chains_lists t lists ≡ chains_lists s lists
lists_same {s = s} {t = t} {lists = lists} {w = w} can h =
    let i = can.lists_can in
    (chains_stay (writer_blocks s w) s t lists h.runs.session.touches i.apart i.are).lists

-- A load of n points: what was written is what is due of them.
record HasLoad (n : ℕ) (area load : List Record) : Type 0 where
  fit : AllFit (take n area)
  is : load ≡ in_order (map late_record (take n area))
  some : 0 < n
  len : n ≤ length area

load_first : (n : ℕ) (area load : List Record) → HasLoad n area load → length load ≡ n
load_first n area load h =
    ap (λ (xs : List Record). length xs) h.is ∙ length_order (map late_record (take n area))
    ∙ length-map (take n area) late_record ∙ length-take-le n area h.len

due_of : (slabs : List Slab) (k n : ℕ) (area load : List Record) (lists : List (List Record))
    → HasLoad n area load → AreNumbered (map (map interval_in) lists)
    → Alike (load_front slabs k load lists)
    (slab_pairs slabs (map (map interval_in) lists) k (map asked_in (take n area)))
due_of slabs k n area [] lists h numbered =
    let l = load_first n area [] h in absurd (omega (arith, l, h.some))
due_of slabs k n area (x ∷ load) lists h numbered =
    load_alike (take n area) (x ∷ load) h.fit (sym h.is)
    (subst IsAscending (sym h.is) (order_ascends (map late_record (take n area)))) slabs k lists load x
    refl numbered

pub next_reports : {T : Type 0} {s a : RigState} (t : RigState) {r q : Reader} {w : Writer} (v : Writer)
    {lists : List Chain} {old area : List Record} (slabs : List Slab) (k n : ℕ) (load : List Record)
    (result : Result T EmFault) → Sound s → CanReportPoints s r lists w → ReadsLoad n s a r q old area
    → AllFit (take n area) → load ≡ in_order (map late_record (take n area)) → 0 < n
    → n ≤ length area → ReportsLoadTo slabs k load a t lists w v result
    → ReportsNextTo slabs k n s t r q lists w v (reader_items s r) result
next_reports {s = s} {a = a} t {r = r} {q = q} {w = w} v {lists = lists} {area = area} slabs k n load (Ok x) sound can rd fit is some len h =
    let one = some_beside can.beside rd.reads in
    let here : HasLoad n area load = record { fit = fit; is = is; some = some; len = len } in
    let pa : payload_in a ≡ payload_in s = payload_kept (writer_blocks s w) s a one.runs.session.touches in
    let ba : a.pool.shape.block ≡ s.pool.shape.block =
    ap (λ (m : ShapeNumbers). m.block) one.runs.session.touches.shape in
    record {
      points = take n area;
      len = length-take-le n area len;
      written = h.written;
      extra = h.extra;
      reads = subst (λ (xs : List Record). ReadsPairs h.extra s t r q w v xs h.written)
          (append-nil (take n area))
          (reads_wider (omega arith) (reads_then (take n area) [] [] h.written one
          (reads_writes (reads_beside can.beside one) h.writes)));
      alike = λ z.
          let y : IsTrue a.device.told = one.wrote.told ∙ z in
          let same = lists_same can one z in
          subst (λ (xs : List Record). Alike xs (points_due slabs k s lists (take n area)))
          (sym (h.is y ∙ ap (load_front slabs k load) same))
          (due_of slabs k n area load (chains_lists s lists) here (can.lists_can.numbered z));
      moves = λ z.
          let y : IsTrue a.device.told = one.wrote.told ∙ z in
          let m = rw (pa, ba) at (h.moves y) in omega (arith, m);
    }
next_reports {s = s} {a = a} t {r = r} {q = q} {w = w} v {lists = lists} {area = area} slabs k n load (Err e) sound can rd fit is some len h =
    let one = some_beside can.beside rd.reads in
    let here : HasLoad n area load = record { fit = fit; is = is; some = some; len = len } in
    let pa : payload_in a ≡ payload_in s = payload_kept (writer_blocks s w) s a one.runs.session.touches in
    let ba : a.pool.shape.block ≡ s.pool.shape.block =
    ap (λ (m : ShapeNumbers). m.block) one.runs.session.touches.shape in
    let first = points_due slabs k s lists (take n area) in
    let among : IsTrue s.device.told → length (load_front slabs k load (chains_lists a lists))
    ≤ length (points_due slabs k s lists (reader_items s r)) =
    λ z.
    let same = lists_same can one z in
    let alike = alike_length (due_of slabs k n area load (chains_lists s lists) here
    (can.lists_can.numbered z)) in
    let items = one.took.items z in
    let more = due_more slabs k s lists (take n area) (reader_items a q) in
    let e1 = ap (λ (xss : List (List Record)). length (load_front slabs k load xss)) same in
    rw items (omega (arith, alike, more, e1)) in
    record {
      tried = h.tried;
      extra = h.extra;
      stops = stops_reading_more sound (omega arith) (omega arith)
          (stops_reading_then (take n area) [] one (stops_write q h.stops));
      few = λ z.
          let y : IsTrue a.device.told = one.wrote.told ∙ z in
          let f = h.few y in
          let m = among z in
          omega (arith, f, m);
      moves = λ z.
          let y : IsTrue a.device.told = one.wrote.told ∙ z in
          let f = rw (pa, ba) at (h.moves y) in
          let m = among z in
          omega (arith, f, m);
    }
  where
    due_more : (slabs : List Slab) (k : ℕ) (s : RigState) (lists : List Chain) (xs ys : List Record)
        → length (points_due slabs k s lists xs) ≤ length (points_due slabs k s lists (xs ++ ys))
    due_more slabs k s lists xs ys =
        let a = alike_length (due_append slabs (intervals_in s lists) k (map asked_in xs) (map asked_in ys)) in
        let b = length-append (points_due slabs k s lists xs) (points_due slabs k s lists ys) in
        let c = ap (λ (ps : List Asked). length (slab_pairs slabs (intervals_in s lists) k ps))
        (map-append asked_in xs ys) in
        omega (arith, a, b, c)

-- The reader has its frame after its load was put against the lists.
pub next_frame : {T : Type 0} (a t : RigState) (q : Reader) (slabs : List Slab) (k : ℕ)
    (load : List Record) (lists : List Chain) (w v : Writer) (result : Result T EmFault)
    → ReaderHasFrame a q → ReportsLoadTo slabs k load a t lists w v result → ReaderHasFrame t q
next_frame a t q slabs k load lists w v (Ok x) f h =
    has_kept 1 (length q.frame) a.pool t.pool h.writes.runs.frames f
next_frame a t q slabs k load lists w v (Err e) f h =
    has_kept 1 (length q.frame) a.pool t.pool h.stops.stops.goes.frames f

-- The load couldn't be read: the pairs have their frame,
pub next_unread : {s t : RigState} {r : Reader} {lists : List Chain} {w : Writer} {e : EmFault}
    → CanReportPoints s r lists w → StopsSome s t r e → WriterHasFrame t w
next_unread {s = s} {t = t} {w = w} can h =
    has_kept 1 (length w.frame) s.pool t.pool h.stops.goes.frames can.beside.pairs.writer.frame

-- and no pair was tried.
pub next_err : {T : Type 0} (slabs : List Slab) (k n : ℕ) (s t : RigState) (r q : Reader)
    (lists : List Chain) (w v : Writer) (due : List Record) (result : Result T EmFault) (e : EmFault)
    → IsErrAnd result (λ f. f ≡ e) → Sound s → CanReportPoints s r lists w → StopsSome s t r e
    → ReportsNextTo slabs k n s t r q lists w v due result
next_err slabs k n s t r q lists w v due (Ok x) e h sound can g = absurd h
next_err slabs k n s t r q lists w v due (Err f) e h sound can g =
    subst (λ (m : EmFault). StopsPoints 1 slabs k s t r lists w due m) (sym h) (record {
      tried = 0;
      extra = 0;
      stops = stops_beside sound can.beside g;
      few = λ z. omega arith;
      moves = λ z. omega arith;
    })
