-- Points that are copied from a reader to the writer of a strip, one after another.
use Rattle.std.proofs.Common.{◌≡◌, ℕ, ◌+◌, ◌*◌, ◌^◌, ◌<◌, ◌≤◌, min, List, [], ◌∷◌, ◌++◌, length, refl, sym, ap, subst, ◌∙◌, arith, IsTrue, Result, Ok, Err, IsErrAnd, length-append}
use Rattle.em_record.specs.declared.record.Record.{Record}
use Rattle.em_space.specs.Ledger.{Halts, Spends}
use Rattle.em_space.specs.Rig.{BlockCause, Cause, Goes, RigState, Sound}
use Rattle.em_space.specs.declared.fault.EmFault.{EmFault}
use Rattle.em_space.proofs.Runs.{stops_wider}
use Rattle.em_chain.specs.Chain.{payload_in}
use Rattle.em_chain.specs.Counts.{ceiling}
use Rattle.em_chain.specs.Parts.{IsPair, pair_more}
use Rattle.em_chain.specs.Reader.{reader_blocks}
use Rattle.em_chain.specs.Reads.{Reads}
use Rattle.em_chain.specs.Session.{Pairs, one_more, taking_account, writer_account}
use Rattle.em_chain.specs.Writer.{CanGrow, filled, writer_blocks}
use Rattle.em_chain.specs.Writes.{Appends}
use Rattle.em_chain.specs.declared.reader.Reader.{Reader}
use Rattle.em_chain.specs.declared.writer.Writer.{Writer}
use Rattle.em_chain.proofs.Pairs.{blocks_least, more_same, pairs_appends, pairs_is, pairs_next, pairs_none, pairs_stop_append, pairs_stop_next, pairs_stops, pairs_then, pairs_wider}
use Rattle.em_chain.proofs.Sessions.{more_low, room_read}
use Rattle.em_segment_model.specs.Spans.{last_value, value_span}
use Rattle.em_segment_model.specs.declared.strip.Span.{Span}
use Rattle.em_segment_parts.specs.Splits.{CanCopy, CopiesOneTo, CopiesPoint, CopiesStrip, CopiesTo, StopsCopy, StopsCopying}

pub copy_pair : {s : RigState} {r : Reader} {w : Writer} → CanCopy s r w → IsPair s r w
copy_pair c = record { reader = c.reader; writer = c.writer; taking = c.taking; apart = c.apart }

-- Places for one point more: a list of full blocks has no more blocks than records.
pub copy_grows : {s : RigState} {r : Reader} {w : Writer} → Sound s → CanCopy s r w → w.count < 2 ^ 40
    → CanGrow w
copy_grows {s} {r} {w} h c l =
    let d = h.shape.block_low in
    let last = c.writer.last in
    let e = c.filled_is in
    let x = blocks_least (payload_in s) w.blocks w.fill (omega arith)
    (λ p. last.fill_low (last.some p)) in
    record { count = omega arith; blocks = omega arith }

-- One point was read,
pub copy_reads : {s a : RigState} {r q : Reader} {w : Writer} {x : Record} → CanCopy s r w
    → Goes (reader_blocks s r) s a → Reads s a r q x
    → Spends r.blocks (taking_account r) (taking_account q) s a
    → Pairs (w.blocks + r.blocks) s a r q w w (x ∷ []) []
copy_reads c g h k = pairs_next (copy_pair c) g h k

-- and written.
pub copy_one : {s a b : RigState} {r q : Reader} {w v : Writer} {x : Record} → Sound s → CanCopy s r w → Pairs (w.blocks + r.blocks) s a r q w w (x ∷ []) []
    → Goes (writer_blocks a w) a b → Appends a b w v x
    → Spends (one_more a w) (writer_account w) (writer_account v) a b
    → CopiesPoint x.a s b r q w v
copy_one {s} {a} {b} {r} {q} {w} {v} {x} o c h g n e =
    let j = pairs_is c.taking h in
    let fewer = h.took.fewer in
    let m = more_low s w o.shape.block_low c.writer in
    let k = more_same h in
    let both = pairs_then (x ∷ []) [] [] (x ∷ []) h (pairs_appends j g n e) in
    record {
      point = x;
      value_is = refl;
      pairs = pairs_wider (omega (arith, fewer, m, k)) both;
    }

-- The read gave up, or the append.
pub copy_stops_next : {s a : RigState} {r : Reader} {w : Writer} {e : EmFault} → Sound s
    → CanCopy s r w → Goes (reader_blocks s r) s a → Halts r.blocks 0 0 (taking_account r) s a e
    → BlockCause s a e → StopsCopy s a r w e
copy_stops_next {s} {a} {r} {w} {e} h c g k b =
    let m = more_low s w h.shape.block_low c.writer in
    record {
      stops = stops_wider (omega (arith, m)) (omega (arith, m)) (omega arith)
          (pairs_stop_next r w c.taking g k b);
    }

pub copy_stops_append : {s a b : RigState} {r q : Reader} {w : Writer} {x : Record} {e : EmFault}
    → Sound s → CanCopy s r w → Pairs (w.blocks + r.blocks) s a r q w w (x ∷ []) []
    → Goes (writer_blocks a w) a b
    → Halts (one_more a w) (2 * one_more a w) (min w.blocks 1) (writer_account w) a b e
    → Cause a b e → StopsCopy s b r w e
copy_stops_append {s} {a} {b} {r} {q} {w} {x} {e} h c p g k d =
    let m = more_low s w h.shape.block_low c.writer in
    let n = more_same p in
    let fewer = p.took.fewer in
    record {
      stops = pairs_stops (pair_more s r w) (2 * one_more s w) 1 (omega (arith, m))
          (omega (arith, n, fewer)) (omega (arith, n)) (omega arith) p (pairs_stop_append q w g k d);
    }

pub copy_err : (s t : RigState) (r q : Reader) (w v : Writer) (result : Result ℕ EmFault)
    (e : EmFault) → IsErrAnd result (λ f. f ≡ e) → StopsCopy s t r w e → CopiesOneTo s t r q w v result
copy_err s t r q w v (Ok x) e h k = absurd h
copy_err s t r q w v (Err f) e h k = subst (λ (n : EmFault). StopsCopy s t r w n) (sym h) k

abbrev the_span : ℕ → ℕ → Span
the_span first last = record { first = first; last = last }

-- The span of points with one more behind them.
last_push : (v : ℕ) (xs : List Record) (x : Record) → last_value v (xs ++ (x ∷ [])) ≡ x.a
last_push v [] x = refl
last_push v (y ∷ xs) x = last_push y.a xs x

span_push : (xs : List Record) (x : Record) (z : Span) → 0 < length xs → z ≡ value_span xs
    → record { first = z.first; last = x.a } ≡ value_span (xs ++ (x ∷ []))
span_push [] x z l e = absurd (omega (arith, l))
span_push (y ∷ xs) x z l e =
    let f : z.first ≡ y.a = ap (λ (k : Span). k.first) e in
    ap (λ (n : ℕ). the_span n x.a) f ∙ ap (the_span y.a) (sym (last_push y.a xs x))

-- Blocks are released as they are read, so that one block more is enough for the next point,
strip_room : {p : ℕ} {s t : RigState} {r q : Reader} {w v : Writer} {xs : List Record} → Sound s
    → CanCopy s r w → w.count ≡ 0 → Pairs p s t r q w v xs xs → pair_more t q v ≤ r.blocks + 1
strip_room {p} {s} {t} {r} {q} {w} {v} {xs} h c none k =
    let f = k.wrote.filled_is in
    let e = c.filled_is in
    let m = room_read xs (filled t v) h.shape.block_low k.took (omega (arith, f, e, none)) in
    subst (λ (n : ℕ). ceiling (filled t v + 1) n + q.blocks ≤ r.blocks + 1) (sym k.took.payload_is) m

strip_then : {s t u : RigState} {r q p : Reader} {w v k : Writer} {xs ys : List Record} → Sound s
    → CanCopy s r w → w.count ≡ 0 → Pairs (r.blocks + 1) s t r q w v xs xs
    → Pairs (pair_more t q v) t u q p v k ys ys → Pairs (r.blocks + 1) s u r p w k (xs ++ ys) (xs ++ ys)
strip_then {xs = xs} {ys = ys} h c none i j =
    let m = strip_room h c none i in
    pairs_wider (omega (arith, m)) (pairs_then xs xs ys ys i j)

-- The writer of a strip begins with no record.
strip_none : {s : RigState} {r : Reader} {w : Writer} → Sound s → CanCopy s r w → w.count ≡ 0
    → Pairs (r.blocks + 1) s s r r w w [] []
strip_none {s} {r} {w} h c none =
    let i = pairs_none h (copy_pair c) in
    let m = strip_room h c none i in
    let l = more_low s w h.shape.block_low c.writer in
    pairs_wider (omega (arith, m, l)) i

-- One point was copied, and more of them.
pub strip_begins : {s t : RigState} {r q : Reader} {w v : Writer} {value : ℕ} → Sound s → CanCopy s r w
    → w.count ≡ 0 → CopiesPoint value s t r q w v
    → CopiesStrip 1 (record { first = value; last = value }) s t r q w v
strip_begins {value = value} h c none g = record {
  points = g.point ∷ [];
  len = refl;
  span_is = ap (λ (n : ℕ). the_span n n) g.value_is;
  pairs = strip_then h c none (strip_none h c none) g.pairs;
}

pub strip_grows : {s t u : RigState} {r q p : Reader} {w v k : Writer} {value first last : ℕ} (n : ℕ)
    → Sound s → CanCopy s r w → w.count ≡ 0 → 0 < n
    → CopiesStrip n (record { first = first; last = last }) s t r q w v
    → CopiesPoint value t u q p v k
    → CopiesStrip (n + 1) (record { first = first; last = value }) s u r p w k
strip_grows {value = value} {first = first} {last = last} n h c none some i g =
    let l = i.len in
    let a = length-append i.points (g.point ∷ []) in
    record {
      points = i.points ++ (g.point ∷ []);
      len = omega (arith, a, l);
      span_is = ap (the_span first) g.value_is
          ∙ span_push i.points g.point (the_span first last) (omega (arith, l, some)) i.span_is;
      pairs = strip_then h c none i.pairs g.pairs;
    }

-- The reader and the writer can copy more.
pub strip_can : {s t : RigState} {r q : Reader} {w v : Writer} {n : ℕ} {z : Span} → CanCopy s r w
    → CopiesStrip n z s t r q w v → CanCopy t q v
strip_can {s} {t} {r} {q} {w} {v} c i =
    let k = i.pairs in
    let f = k.wrote.filled_is in
    let n = k.wrote.count_is in
    let e = c.filled_is in
    let d = pairs_is c.taking k in
    record {
      reader = d.reader;
      taking = d.taking;
      writer = d.writer;
      filled_is = omega (arith, f, n, e);
      packed = λ y.
          let z : IsTrue s.device.told = sym k.wrote.told ∙ y in k.wrote.packed z (c.packed z);
      apart = d.apart;
    }

-- The first copy gave up, or a later one.
strip_refused : {s t u : RigState} {r q : Reader} {w v : Writer} {xs : List Record} {e : EmFault}
    → Sound s → CanCopy s r w → w.count ≡ 0 → Pairs (r.blocks + 1) s t r q w v xs xs
    → StopsCopy t u q v e → StopsCopying s u r w e
strip_refused {s} {t} {u} {r} {q} {w} {v} h c none i g =
    let m = strip_room h c none i in
    record {
      stops = pairs_stops (r.blocks + 1) (2 * r.blocks + 2) 1 (omega arith) m (omega (arith, m))
          (omega arith) i g.stops;
    }

pub strip_stops_first : {s t : RigState} {r : Reader} {w : Writer} {e : EmFault} → Sound s → CanCopy s r w
    → w.count ≡ 0 → StopsCopy s t r w e → StopsCopying s t r w e
strip_stops_first h c none g = strip_refused h c none (strip_none h c none) g

pub strip_stops_later : {s t u : RigState} {r q : Reader} {w v : Writer} {e : EmFault} {n : ℕ} {z : Span}
    → Sound s → CanCopy s r w → w.count ≡ 0 → CopiesStrip n z s t r q w v → StopsCopy t u q v e
    → StopsCopying s u r w e
strip_stops_later h c none i g = strip_refused h c none i.pairs g

pub strip_err : (n : ℕ) (s t : RigState) (r q : Reader) (w v : Writer) (result : Result Span EmFault)
    (e : EmFault) → IsErrAnd result (λ f. f ≡ e) → StopsCopying s t r w e
    → CopiesTo n s t r q w v result
strip_err n s t r q w v (Ok x) e h k = absurd h
strip_err n s t r q w v (Err f) e h k = subst (λ (m : EmFault). StopsCopying s t r w m) (sym h) k
