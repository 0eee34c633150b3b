-- A load against one list: what was read, what was written, and what it cost.
use Rattle.std.proofs.Common.{◌≡◌, ℕ, ◌+◌, ◌-◌, ◌*◌, ◌<◌, ◌≤◌, min, Bool, true, false, List, [], ◌∷◌, ◌++◌, length, refl, sym, ap, subst, ◌∙◌, arith, IsTrue, ⊎_elim, length-append, Result, Ok, Err, IsErrAnd}
use Rattle.std.proofs.Math.Nat.{mul-add, mul-le-mul_right, mul_comm, div-mul-le_self}
use Rattle.std.proofs.lemmas.Bool.{cases_Bool, cases_lt}
use Rattle.std.proofs.lemmas.List.{append-nil, drop_all}
use Rattle.std.proofs.lemmas.List.Concat.{flat_map-append}
use Rattle.std.specs.Prelude.{if◌then◌else◌, nat_lt}
use Rattle.em_record.specs.Shape.{ShapeNumbers}
use Rattle.em_record.specs.declared.record.Record.{Record}
use Rattle.em_frames.specs.Pool.{HasFrames}
use Rattle.em_space.specs.Ledger.{Session}
use Rattle.em_space.specs.Rig.{BlockCause, Goes, RigState, Sound, Touches}
use Rattle.em_space.specs.declared.fault.EmFault.{EmFault}
use Rattle.em_space.proofs.Held.{apart_none}
use Rattle.em_space.proofs.Ledgers.{full_by}
use Rattle.em_space.proofs.Paying.{pays_kept, pays_more, pays_then}
use Rattle.em_space.proofs.Sessions.{session_as, session_still, session_trans}
use Rattle.em_space.proofs.Steps.{cause_after, touches_then, touches_trans}
use Rattle.em_chain.specs.Chain.{IsChain, IsPacked, chain_contents, chain_items, payload_in}
use Rattle.em_chain.specs.List.{items_in}
use Rattle.em_chain.specs.View.{IsView}
use Rattle.em_chain.specs.Counts.{ceiling}
use Rattle.em_chain.specs.Effects.{GivesFrame, LendsFrame, Unmoved}
use Rattle.em_chain.specs.Reader.{owed, reader_blocks, reader_items, rest_of}
use Rattle.em_chain.specs.Reads.{Opens, ReadCosts, Reads}
use Rattle.em_chain.specs.Session.{Took}
use Rattle.em_chain.specs.Writer.{IsWriter, WriterStays, filled, writer_blocks}
use Rattle.em_chain.specs.declared.chain.Chain.{Chain}
use Rattle.em_chain.specs.declared.reader.Reader.{Reader}
use Rattle.em_chain.specs.declared.writer.Writer.{Writer}
use Rattle.em_chain.proofs.Counts.{packed_blocks}
use Rattle.em_chain.proofs.Keeps.{lent_given, lent_same, payload_kept, touches_none}
use Rattle.em_chain.proofs.Laws.{writer_stays}
use Rattle.em_chain.proofs.Sessions.{wrote_stays, wrote_then}
use Rattle.em_chain.proofs.Writings.{cause_still, halts_between, writer_lent}
use Rattle.em_queued.specs.Popped.{grown_blocks}
use Rattle.em_segment_model.specs.Loads.{front_of, late_pairs, list_pairs}
use Rattle.em_segment_model.proofs.Loads.{front_ends, front_goes, front_paid}
use Rattle.em_segment_parts.specs.Lists.{CanReportList, FrontTo, NextTo, ReadsAll, ReadsBeside, ReadsEarly, ReadsFront, ReadsLate, ReadsPairs, ReportsListTo, StopsFront, StopsReading, front_pairs, latest}
use Rattle.em_segment_parts.specs.Pairs.{IsPairs, StopsPairs, WritesPairs}
use Rattle.em_segment_parts.proofs.Late.{is_less}
use Rattle.em_segment_parts.proofs.Reading.{reads_beside, reads_none, reads_one, reads_then, reads_writes, stops_read, stops_reading_more, stops_reading_then, stops_write}
use Rattle.em_segment_parts.proofs.Writing.{pairs_wider, stops_more}

-- The frame of a reader was lent, and the list stands beside the pairs,
pub beside_opens : {s a : RigState} {c : Chain} {r : Reader} {w : Writer} → CanReportList s c w
    → LendsFrame s a → Unmoved s a → Opens s a c false r → ReadsBeside a r w
beside_opens {s} {a} {c} {r} {w} b l u o =
    let k = writer_lent b.pairs.writer l in
    record {
      reader = o.is;
      over = o.taking_is;
      pairs = record {
        writer = k.is;
        filled_is = k.filled_is ∙ b.pairs.filled_is;
        few = b.pairs.few;
        packed = λ y.
            let z : IsTrue s.device.told = sym l.touches.told ∙ y in k.packed z (b.pairs.packed z);
      };
      apart = λ y.
          let z : IsTrue s.device.told = sym l.touches.told ∙ y in rw (o.blocks z, k.blocks z) (b.apart z);
    }

still_session : {s t : RigState} {w : Writer} → Sound t → Touches [] s t → IsWriter s w
    → WriterStays s t w → Session (writer_blocks s w) s t (writer_blocks t w)
still_session {s} {t} {w} h g i st =
    session_as (writer_blocks t w) (session_still (writer_blocks s w) h g (λ z. (i.told z).holds)) st.blocks

-- and came back: the moves are those that the reader owed, and owes no more.
pub list_writes : {n : ℕ} {s a b t : RigState} {c : Chain} {r q : Reader} {w v : Writer}
    {read xs : List Record} → IsPairs s w → LendsFrame s a → Unmoved s a → Opens s a c false r
    → ReadsPairs n a b r q w v read xs → GivesFrame [] b t → Unmoved b t
    → WritesPairs (n + (c.blocks - owed q)) s t w v xs
list_writes {n} {s} {a} {b} {t} {c} {r} {q} {w} {v} {read} {xs} i l x o h g y =
    let k = writer_lent i.writer l in
    let frames = lent_given s.pool b.pool t.pool
    (lent_same 1 s.pool a.pool b.pool l.frames h.runs.frames) g.frames in
    let has : HasFrames 1 (length v.frame) t.pool = record {
      len_is = h.wrote.is.frame.len_is ∙ ap (λ (n : ShapeNumbers). n.block) (sym g.frames.shape);
      out = rw (frames.shape, frames.free) i.writer.frame.out;
    } in
    let m = writer_stays [] b t v g.touches (λ z. apart_none (writer_blocks b v)) has h.wrote.is in
    let grows = h.grows in
    let e = h.runs.spends in
    let used_l = x.same.used in
    let used_g = y.same.used in
    let most_l = x.same.most in
    let most_g = y.same.most in
    let owed_is = o.owed_is in
    let wrote = wrote_then [] (xs ++ []) (wrote_stays l.touches.told k)
    (wrote_then xs [] h.wrote (wrote_stays g.touches.told m)) in
    record {
      runs = record {
        session = session_trans (still_session l.sound l.touches i.writer k)
            (session_trans h.runs.session (still_session g.sound g.touches h.wrote.is m));
        frames = frames;
        spends = record {
          held = omega arith;
          used = omega (arith, e.used);
          most = omega (arith, e.most);
          moves = omega (arith, e.moves, x.moves, y.moves);
          later = omega (arith, e.later, x.moves, y.moves);
          pays = pays_then (pays_kept (min w.blocks 1) (omega arith) (omega (arith, x.moves)))
              (pays_then (pays_more {p = min w.blocks 1} {q = min v.blocks 1} e.pays (omega arith))
              (pays_kept (min v.blocks 1) (omega arith) (omega (arith, y.moves)))
              (omega (arith, y.moves))) (omega (arith, e.later, y.moves));
        };
      };
      wrote = rw (append-nil xs) at wrote;
      grows = h.grows;
      few = h.few;
    }

-- It gave up.
pub list_stops : {f : ℕ} {s a b t : RigState} {c : Chain} {r : Reader} {w : Writer} {n : ℕ} {e : EmFault}
    → IsPairs s w → LendsFrame s a → Unmoved s a → Opens s a c false r
    → StopsReading f n a b r w e → GivesFrame [] b t → Unmoved b t → StopsPairs (f + c.blocks) n s t w e
list_stops {f} {s} {a} {b} {t} {c} {r} {w} {n} {e} i l x o h g y =
    let k = writer_lent i.writer l in
    let pt : payload_in a ≡ payload_in s = payload_kept [] s a l.touches in
    let m : filled a w + n ≡ filled s w + n = omega (arith, k.filled_is) in
    let k0 = h.stops in
    let d = halts_between x (rw (m, pt) at k0.halts) y in
    let j = k0.goes in
    let owed_is = o.owed_is in
    record {
      stops = record {
        goes = record {
          sound = g.sound;
          touches = touches_then (writer_blocks s w) s b t (touches_trans (writer_blocks s w)
              (writer_blocks a w) s a b (touches_none (writer_blocks s w) s a l.touches) j.touches
              (λ z p at_use u. rw (k.blocks z) u)) g.touches;
          frames = lent_given s.pool b.pool t.pool
              (lent_same 1 s.pool a.pool b.pool l.frames j.frames) g.frames;
        };
        halts = record {
          used = omega (arith, d.used);
          full = full_by e (t.used + (w.blocks + 0) < s.used + grown_blocks n s w)
              (t.used + w.blocks < s.used + grown_blocks n s w) (λ p. omega (arith, p)) d.full;
          most = omega (arith, d.most);
          moves = omega (arith, d.moves);
          later = d.later;
          pays = pays_more d.pays (omega arith);
        };
        cause = cause_still s b t e y g.touches (cause_after [] s a b e l.touches k0.cause);
      };
    }

-- What a reader owes that leaves its blocks to a chain: a move for each, but for one that was made.
over_owes : (r : Reader) → r.taking ≡ false → r.blocks ≤ owed r + 1
over_owes r e = by_load r.blocks r.loaded r.taking e
  where
    by_load : (n : ℕ) (loaded taking : Bool) → taking ≡ false
        → n ≤ (if taking then 2 * n else n) - (if loaded then 1 else 0) + 1
    by_load n true taking e = rw e (omega arith)
    by_load n false taking e = rw e (omega arith)

pub ceiling_below : (n p : ℕ) → 0 < p → ceiling n p * p < n + p
ceiling_below n p h = let d = div-mul-le_self (n + p - 1) p in omega (arith, d, h)

-- The blocks that were read hold no more records than were read, and less than a block more.
pub list_moves : {s a b : RigState} {c : Chain} {r q : Reader} {read : List Record} → Sound s
    → IsChain s c → IsTrue s.device.told → IsPacked s c → LendsFrame s a → Opens s a c false r
    → Took a b r q read
    → (c.blocks - owed q) * payload_in s ≤ length read + payload_in s
list_moves {s} {a} {b} {c} {r} {q} {read} h i z k l o t =
    let low = h.shape.block_low in
    let P = payload_in s in
    let pt : payload_in a ≡ P = payload_kept [] s a l.touches in
    let count = ap (λ (d : Chain). d.count) o.words in
    let blocks = ap (λ (d : Chain). d.blocks) o.words in
    let skip = ap (λ (d : Chain). d.skip) o.words in
    let left = t.left_is in
    let none = k.is.skip_is in
    let owes = over_owes q (t.taking ∙ o.taking_is) in
    let fewer = t.fewer in
    let packed = packed_blocks s c low i z k in
    let ceil = ceiling_below c.count P (omega arith) in
    ⊎_elim
    (λ (e : q.count < 1).
    let m = mul-le-mul_right P (the_less c.blocks (owed q)) in
    let all : c.blocks * P < c.count + P = rw (← packed) at ceil in
    omega (arith, m, all, left, count, e))
    (λ (e : 1 ≤ q.count).
    let za : IsTrue a.device.told = l.touches.told ∙ z in
    let tight = o.tight z (record { full = k.is.full }) in
    let place = rw pt at (t.place_is za tight (omega (arith, e))) in
    let d = c.blocks - q.blocks in
    let more : c.blocks - owed q ≤ d + 1 = omega (arith, owes, fewer, blocks) in
    let m = mul-le-mul_right P more in
    let is : r.blocks ≡ q.blocks + d = omega (arith, fewer, blocks) in
    let sum = mul-add P q.blocks d in
    let turn = mul_comm (d + 1) P in
    let one = mul-add P d 1 in
    let place2 : q.skip + P * (q.blocks + d) ≡ r.skip + length read + P * q.blocks = rw is at place in
    omega (arith, m, sum, turn, one, place2, skip, none))
    (cases_lt q.count 1)
  where
    the_less : (m n : ℕ) → m - n ≤ m
    the_less m n = omega arith

-- The pairs of a list's pieces, in parts.
pairs_append : (load xs ys : List Record)
    → list_pairs load (xs ++ ys) ≡ list_pairs load xs ++ list_pairs load ys
pairs_append load xs ys = flat_map-append (λ (x : Record). late_pairs load x.c) xs ys

pairs_next : (load xs : List Record) (x : Record)
    → list_pairs load (xs ++ x ∷ []) ≡ list_pairs load xs ++ late_pairs load x.c
pairs_next load xs x =
    pairs_append load xs (x ∷ [])
    ∙ ap (λ (ys : List Record). list_pairs load xs ++ ys) (append-nil (late_pairs load x.c))

-- what is all front goes before the front of the rest
front_append : (n : ℕ) (xs ys : List Record) → front_of n xs ≡ xs
    → front_of n (xs ++ ys) ≡ xs ++ front_of n ys
front_append n [] ys h = refl
front_append n (x ∷ xs) ys h = ⊎_elim
    (λ (t : nat_lt x.c n ≡ true). let r = front_append n xs ys (rest t) in rw (t, r) refl)
    (λ (f : nat_lt x.c n ≡ false). absurd (no f))
    (cases_Bool (nat_lt x.c n))
  where
    rest : nat_lt x.c n ≡ true → front_of n xs ≡ xs
    rest t = let u : x ∷ front_of n xs ≡ x ∷ xs = sym (one t) ∙ h in cc
      where
        one : nat_lt x.c n ≡ true → front_of n (x ∷ xs) ≡ x ∷ front_of n xs
        one t = rw t refl

    no : nat_lt x.c n ≡ false → ⊥
    no f = let u : [] ≡ x ∷ xs = sym (none f) ∙ h in cc
      where
        none : nat_lt x.c n ≡ false → front_of n (x ∷ xs) ≡ []
        none f = rw f refl

-- The pairs so far, and those of the front of the rest, are those of the front.
front_parts : (load xs ys : List Record) → front_of (latest load) xs ≡ xs
    → length (front_pairs load (xs ++ ys)) ≡ length (list_pairs load xs) + length (front_pairs load ys)
front_parts load xs ys h =
    let f = ap (λ (zs : List Record). length (list_pairs load zs)) (front_append (latest load) xs ys h) in
    let p = ap (λ (zs : List Record). length zs) (pairs_append load xs (front_of (latest load) ys)) in
    let l = length-append (list_pairs load xs) (list_pairs load (front_of (latest load) ys)) in
    omega (arith, f, p, l)

-- the pairs of the next piece are among them
front_first : (load : List Record) (x : Record) (ys : List Record) → x.c < latest load
    → length (late_pairs load x.c) ≤ length (front_pairs load (x ∷ ys))
front_first load x ys h =
    let t = is_less x.c (latest load) h in
    let e : front_of (latest load) (x ∷ ys) ≡ x ∷ front_of (latest load) ys = rw t refl in
    let f = ap (λ (zs : List Record). length (list_pairs load zs)) e in
    let l = length-append (late_pairs load x.c) (list_pairs load (front_of (latest load) ys)) in
    omega (arith, f, l)

-- The next piece: it wasn't read,
pub next_refused : {T : Type 0} {s t : RigState} {r q : Reader} {w : Writer} {e : EmFault}
    (load : List Record) → Sound s → ReadsBeside s r w → Goes (reader_blocks s r) s t
    → ReadCosts {T = T} s t r q (Err e) → BlockCause s t e → StopsFront load s t r w e
next_refused load h b g k c = record {
  tried = 0;
  few = λ z. omega arith;
  stops = stops_read h b g k c;
}

-- it came after all points,
pub next_late : {T : Type 0} {s t : RigState} {r q : Reader} {w : Writer} {x : Record}
    (load : List Record) (y : T) → ReadsBeside s r w → Goes (reader_blocks s r) s t → Reads s t r q x
    → ReadCosts s t r q (Ok y) → latest load ≤ x.c → ReadsLate load s t r q w w
next_late {x = x} load y b g a k l = record { piece = x; reads = reads_one y b g a k; late = l }

-- its pairs were written,
pub next_early : {T : Type 0} {s t u : RigState} {r q : Reader} {w v : Writer} {x : Record}
    (load : List Record) (y : T) → ReadsBeside s r w → Goes (reader_blocks s r) s t → Reads s t r q x
    → ReadCosts s t r q (Ok y) → x.c < latest load → WritesPairs 0 t u w v (late_pairs load x.c)
    → ReadsEarly load s u r q w v
next_early {x = x} load y b g a k l h =
    let one = reads_one y b g a k in
    record {
      piece = x;
      reads = reads_then (x ∷ []) [] [] (late_pairs load x.c) one
          (reads_writes (reads_beside b one) h);
      early = l;
    }

-- or weren't.
pub next_stops : {T : Type 0} {s t u : RigState} {r q : Reader} {w : Writer} {x : Record} {e : EmFault}
    (load : List Record) (y : T) → Sound s → ReadsBeside s r w → Goes (reader_blocks s r) s t
    → Reads s t r q x → ReadCosts s t r q (Ok y) → x.c < latest load
    → StopsPairs 0 (length (late_pairs load x.c)) t u w e → StopsFront load s u r w e
next_stops {t = t} {q = q} {x = x} load y s b g a k l h =
    let one = reads_one y b g a k in
    record {
      tried = length (late_pairs load x.c);
      few = λ z. rw (a.items z) (front_first load x (reader_items t q) l);
      stops = stops_reading_more s (omega arith) (omega arith)
          (stops_reading_then (x ∷ []) [] one (stops_write q h));
    }

pub next_beside : {T : Type 0} {s t : RigState} {r q : Reader} {w : Writer} {x : Record} (y : T)
    → ReadsBeside s r w → Goes (reader_blocks s r) s t → Reads s t r q x → ReadCosts s t r q (Ok y)
    → ReadsBeside t q w
next_beside y b g a k = reads_beside b (reads_one y b g a k)

pub next_err : (load : List Record) (s t : RigState) (r q : Reader) (w v : Writer)
    (result : Result Bool EmFault) (e : EmFault) → IsErrAnd result (λ f. f ≡ e)
    → StopsFront load s t r w e → NextTo load s t r q w v result
next_err load s t r q w v (Ok x) e h k = absurd h
next_err load s t r q w v (Err f) e h k =
    subst (λ (n : EmFault). StopsFront load s t r w n) (sym h) k

-- All pieces so far: none,
pub front_begins : {s : RigState} {r : Reader} {w : Writer} (load : List Record) → Sound s
    → ReadsBeside s r w → ReadsAll load 0 s s r r w w
front_begins load h b = record { read = []; len = refl; reads = reads_none h b; early = refl }

-- one more,
pub front_more : {n : ℕ} {load : List Record} {s t u : RigState} {r q p : Reader} {w v k : Writer}
    → ReadsAll load n s t r q w v → ReadsEarly load t u q p v k → ReadsAll load (n + 1) s u r p w k
front_more {n} {load} {s} {t} {u} {r} {q} {p} {w} {v} {k} a b =
    let l = length-append a.read (b.piece ∷ []) in
    let m = a.len in
    record {
      read = a.read ++ b.piece ∷ [];
      len = omega arith;
      reads = subst (ReadsPairs 0 s u r p w k (a.read ++ b.piece ∷ []))
          (sym (pairs_next load a.read b.piece))
          (reads_then a.read (list_pairs load a.read) (b.piece ∷ []) (late_pairs load b.piece.c) a.reads
          b.reads);
      early = front_goes (latest load) a.read b.piece a.early b.early;
    }

-- one that ends them,
pub front_past : {n : ℕ} {load : List Record} {s t u : RigState} {r q p : Reader} {w v k : Writer}
    → ReadsAll load n s t r q w v → ReadsLate load t u q p v k → ReadsFront load s u r p w k
front_past {n} {load} {s} {t} {u} {r} {q} {p} {w} {v} {k} a b = record {
  front = a.read;
  past = b.piece ∷ [];
  reads = subst (ReadsPairs 0 s u r p w k (a.read ++ b.piece ∷ []))
      (append-nil (list_pairs load a.read))
      (reads_then a.read (list_pairs load a.read) (b.piece ∷ []) [] a.reads b.reads);
  early = a.early;
  one = omega arith;
  is = λ z.
      let y : IsTrue t.device.told = a.reads.took.told ∙ z in
      let items = a.reads.took.items z in
      let next = b.reads.took.items y in
      sym (ap (front_of (latest load)) (items
      ∙ ap (λ (xs : List Record). a.read ++ xs) next)
      ∙ front_ends (latest load) a.read b.piece (reader_items u p) a.early b.late);
}

-- or the list's end.
pub front_all : {n : ℕ} {load : List Record} {s t : RigState} {r q : Reader} {w v : Writer}
    → n ≡ r.count → ReadsAll load n s t r q w v → ReadsFront load s t r q w v
front_all {n} {load} {s} {t} {r} {q} {w} {v} e a = record {
  front = a.read;
  past = [];
  reads = subst (λ (xs : List Record). ReadsPairs 0 s t r q w v xs (list_pairs load a.read))
      (sym (append-nil a.read)) a.reads;
  early = a.early;
  one = omega arith;
  is = λ z.
      let y : IsTrue t.device.told = a.reads.took.told ∙ z in
      let left = a.reads.took.left_is in
      let len = a.len in
      let none = nothing_left t (rest_of q) a.reads.took.is.chain y (omega (arith, left, len, e)) in
      let items = a.reads.took.items z in
      sym (ap (front_of (latest load)) (items ∙ ap (λ (xs : List Record). a.read ++ xs) none
      ∙ append-nil a.read) ∙ a.early);
}
  where
    nothing_left : (s : RigState) (c : Chain) → IsView s c → IsTrue s.device.told → c.count ≡ 0
        → chain_items s c ≡ []
    nothing_left s c i z e =
        let k = (i.told z).list.count_is in
        drop_all c.skip (items_in (chain_contents s c)) (omega (arith, k, e))

pub front_refused : {n : ℕ} {load : List Record} {s t u : RigState} {r q : Reader} {w v : Writer}
    {e : EmFault} → ReadsAll load n s t r q w v → StopsFront load t u q v e → StopsFront load s u r w e
front_refused {n} {load} {s} {t} {u} {r} {q} {w} {v} {e} a b = record {
  tried = length (list_pairs load a.read) + b.tried;
  few = λ z.
      let k = b.few (a.reads.took.told ∙ z) in
      let p = front_parts load a.read (reader_items t q) a.early in
      rw (a.reads.took.items z) (omega (arith, k, p));
  stops = stops_reading_then a.read (list_pairs load a.read) a.reads b.stops;
}

pub front_err : {T : Type 0} (load : List Record) (s t : RigState) (r q : Reader) (w v : Writer)
    (result : Result T EmFault) (e : EmFault) → IsErrAnd result (λ f. f ≡ e)
    → StopsFront load s t r w e → FrontTo load s t r q w v result
front_err load s t r q w v (Ok x) e h k = absurd h
front_err load s t r q w v (Err f) e h k =
    subst (λ (n : EmFault). StopsFront load s t r w n) (sym h) k

-- A whole list, by a frame that was lent.
pub list_reports : {T : Type 0} {s a b t : RigState} {c : Chain} {r : Reader} {w : Writer}
    (load : List Record) (q : Reader) (v : Writer) (result : Result T EmFault) → Sound s
    → CanReportList s c w → 0 < length load → LendsFrame s a → Unmoved s a → Opens s a c false r
    → FrontTo load a b r q w v result → GivesFrame [] b t → Unmoved b t
    → ReportsListTo load s t c w v result
list_reports {s = s} {a = a} {b = b} {t = t} {c = c} {r = r} {w = w} load q v (Ok x) h i some l m o f g y =
    record {
      written = list_pairs load f.front;
      extra = c.blocks - owed q;
      writes = pairs_wider (omega arith) (list_writes i.pairs l m o f.reads g y);
      is = λ z.
          let za : IsTrue a.device.told = l.touches.told ∙ z in
          ap (list_pairs load) (f.is za ∙ ap (front_of (latest load)) (o.items z));
      moves = λ z.
          let k = list_moves h i.chain z (i.packed z) l o f.reads.took in
          let n = length-append f.front f.past in
          let paid = front_pays load f.front some f.early in
          let one = f.one in
          let low = h.shape.block_low in
          omega (arith, k, n, paid, one);
    }
  where
    front_pays : (xs pieces : List Record) → 0 < length xs → front_of (latest xs) pieces ≡ pieces
        → length pieces ≤ length (list_pairs xs pieces)
    front_pays [] pieces p e = absurd (omega (arith, p))
    front_pays (x ∷ xs) pieces p e = front_paid x xs pieces e
list_reports {s = s} {a = a} {b = b} {t = t} {c = c} {r = r} {w = w} load q v (Err e) h i some l m o f g y =
    record {
      tried = f.tried;
      few = λ z.
          let k = f.few (l.touches.told ∙ z) in
          let n = ap (λ (xs : List Record). length (front_pairs load xs)) (o.items z) in
          omega (arith, k, n);
      stops = stops_more h (omega arith) (omega arith) (list_stops i.pairs l m o f.stops g y);
    }
