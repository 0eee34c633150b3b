-- Calls of a weave, one after another, and calls on others beside it.
use Rattle.std.proofs.Common.{◌≡◌, ℕ, ◌+◌, List, [], ◌∷◌, ◌++◌, length, map, refl, sym, ap, ◌∙◌, arith, subst, append_assoc, IsTrue, true, Option, None, Result, Ok, Err, IsErrAnd}
use Rattle.std.proofs.lemmas.List.{append-nil, length-append}
use Rattle.std.specs.Prelude.{option_to_list}
use Rattle.em_record.specs.Shape.{ShapeNumbers}
use Rattle.em_record.specs.declared.record.Record.{Record}
use Rattle.em_frames.specs.Pool.{HasFrames, PoolCounts, SameFrames, singles_of}
use Rattle.em_space.specs.Held.{Apart, Holds}
use Rattle.em_space.specs.Ledger.{both, Runs, Stops}
use Rattle.em_space.specs.Rig.{RigState, Sound, Touches}
use Rattle.em_space.specs.declared.fault.EmFault.{EmFault}
use Rattle.em_space.proofs.Held.{apart_none}
use Rattle.em_space.proofs.Lists.{apart_sym, apart_left, apart_right, distinct_apart, distinct_join, in_use_append}
use Rattle.em_space.proofs.Runs.{runs_none, runs_as, runs_wider, runs_then, runs_first, runs_second, stops_after, stops_wider, stops_first, stops_second}
use Rattle.em_chain.specs.Chain.{ChainStays, chain_blocks}
use Rattle.em_chain.specs.Effects.{LendsFrame}
use Rattle.em_chain.specs.Reader.{IsReader, rest_of, reader_items}
use Rattle.em_chain.specs.Reads.{Opens}
use Rattle.em_chain.specs.Session.{taking_account}
use Rattle.em_chain.specs.declared.chain.Chain.{Chain}
use Rattle.em_chain.specs.declared.reader.Reader.{Reader}
use Rattle.em_chain.proofs.Keeps.{has_kept}
use Rattle.em_chain.proofs.Readers.{reader_stays, length_left}
use Rattle.em_weave.specs.Peek.{IsPeek, ReadsAhead, ReadsAheadTo, peek_items, peek_count, peek_blocks}
use Rattle.em_weave.specs.State.{IsWeave, WeaveHasFrames, WeaveStays, left_items, right_items, weave_items, weave_count, weave_blocks, weave_account}
use Rattle.em_weave.specs.Weaves.{OpensBoth, Wove, Weaves, StopsWeaving, BothAhead, BothAheadTo, TakesFront}
use Rattle.em_weave.specs.Woven.{lefts, rights, side_record, NoneBefore, AscendsByA, LeftsFirst}
use Rattle.em_weave.specs.declared.peek.PeekReader.{PeekReader}
use Rattle.em_weave.specs.declared.side.Side.{Side}
use Rattle.em_weave.specs.declared.side.Side.TheVariants.{Left, Right}
use Rattle.em_weave.specs.declared.weave.Weave.{Weave}
use Rattle.em_weave.proofs.Laws.{lefts_append, rights_append, lefts_woven, rights_woven, sides_length, woven_ascends, woven_lefts_first, none_before_rights}

-- The blocks of a weave are in use, none twice.
pub weave_holds : {s : RigState} {w : Weave} → IsWeave s w → IsTrue s.device.told
    → Holds s (weave_blocks s w)
weave_holds {s} {w} i z =
    let a = (i.left.is.chain.told z).holds in
    let b = (i.right.is.chain.told z).holds in
    record {
      in_use = in_use_append s (peek_blocks s w.left) (peek_blocks s w.right) a.in_use b.in_use;
      distinct = λ y. distinct_join (peek_blocks s w.left) (peek_blocks s w.right) (a.distinct y)
          (b.distinct y) (i.apart z);
    }

-- Frames that are out stay out where as many are free as before,
pub frames_kept : (s t : RigState) (w : Weave) → SameFrames s.pool t.pool → WeaveHasFrames s w
    → WeaveHasFrames t w
frames_kept s t w e h = record {
  left = has_kept 2 (length w.left.reader.frame) s.pool t.pool e h.left;
  right = has_kept 2 (length w.right.reader.frame) s.pool t.pool e h.right;
}

-- of two that are out one is,
has_fewer : (len : ℕ) (p : PoolCounts) → HasFrames 2 len p → HasFrames 1 len p
has_fewer len p h = record { len_is = h.len_is; out = omega (arith, h.out) }

-- and two of another value's length.
has_more : (m n : ℕ) (p : PoolCounts) → HasFrames 2 m p → HasFrames 1 n p → HasFrames 2 n p
has_more m n p h g = record { len_is = g.len_is; out = h.out }

-- A side of a weave over a call that leaves its blocks alone.
pub record SideStays (s t : RigState) (p : PeekReader) : Type 0 where
  pub is : IsPeek t p
  pub items : IsTrue s.device.told → peek_items t p ≡ peek_items s p
  pub blocks : IsTrue s.device.told → peek_blocks t p ≡ peek_blocks s p

pub side_stays : (held : List ℕ) (s t : RigState) (p : PeekReader) → Touches held s t
    → (IsTrue s.device.told → Apart (peek_blocks s p) held)
    → HasFrames 2 (length p.reader.frame) t.pool → IsPeek s p → SideStays s t p
side_stays held s t p h a f i =
    let st = reader_stays held s t p.reader h a (has_fewer (length p.reader.frame) t.pool f) i.is in
    record {
      is = record { is = st.is; taking = i.taking };
      items = λ z. ap (λ (xs : List Record). option_to_list p.front ++ xs) (st.items z);
      blocks = st.blocks;
    }

-- A weave over such a call.
pub weave_stays : (held : List ℕ) (s t : RigState) (w : Weave) → Touches held s t
    → (IsTrue s.device.told → Apart (weave_blocks s w) held) → WeaveHasFrames t w
    → IsWeave s w → WeaveStays s t w
weave_stays held s t w h a f i =
    let ks = peek_blocks s w.left in
    let js = peek_blocks s w.right in
    let l = side_stays held s t w.left h (λ z. apart_left ks js held (a z)) f.left i.left in
    let r = side_stays held s t w.right h (λ z. apart_right ks js held (a z)) f.right i.right in
    record {
      is = record {
        left = l.is;
        right = r.is;
        apart = λ y.
            let z : IsTrue s.device.told = sym h.told ∙ y in
            rw (l.blocks z, r.blocks z) (i.apart z);
        frames = f;
      };
      left = l.items;
      right = r.items;
      items = λ z. rw (l.items z, r.items z) refl;
      blocks = λ z. rw (l.blocks z, r.blocks z) refl;
    }

-- No call yet,
pub wove_none : {s : RigState} {w : Weave} → IsWeave s w → Wove s s w w []
wove_none i = record {
  told = refl;
  is = i;
  items = λ z. refl;
  left_count = omega arith;
  right_count = omega arith;
  fewer = omega arith;
}

-- a call on others,
pub wove_stays : {s t : RigState} {w : Weave} → t.device.told ≡ s.device.told → WeaveStays s t w
    → Wove s t w w []
wove_stays e h = record {
  told = e;
  is = h.is;
  items = λ z. sym (h.items z);
  left_count = omega arith;
  right_count = omega arith;
  fewer = omega arith;
}

-- and more records.
pub wove_then : {s t u : RigState} {w v k : Weave} (xs ys : List Side) → Wove s t w v xs
    → Wove t u v k ys → Wove s u w k (xs ++ ys)
wove_then {s} {t} {u} {w} {v} {k} xs ys h g =
    let l = ap (λ (ls : List Record). length ls) (lefts_append xs ys)
    ∙ length-append (lefts xs) (lefts ys) in
    let r = ap (λ (rs : List Record). length rs) (rights_append xs ys)
    ∙ length-append (rights xs) (rights ys) in
    record {
      told = g.told ∙ h.told;
      is = g.is;
      items = λ z. h.items z ∙ ap (λ (ds : List Side). xs ++ ds) (g.items (h.told ∙ z))
          ∙ sym (append_assoc xs ys (weave_items u k));
      left_count = omega (arith, h.left_count, g.left_count, l);
      right_count = omega (arith, h.right_count, g.right_count, r);
      fewer = omega (arith, h.fewer, g.fewer);
    }

-- What was given before, over a call on others that gives its frames back.
pub wove_beside : {held : List ℕ} {s t u : RigState} {w v : Weave} (xs : List Side)
    → Wove s t w v xs → Touches held t u
    → (IsTrue t.device.told → Apart (weave_blocks t v) held)
    → SameFrames t.pool u.pool → Wove s u w v xs
wove_beside {held} {s} {t} {u} {w} {v} xs h g a f =
    let st = weave_stays held t u v g a (frames_kept t u v f h.is.frames) h.is in
    rw (append-nil xs) at (wove_then xs [] h (wove_stays g.told st))

-- Each side of what was given is the front of its list.
pub wove_left : {s t : RigState} {w v : Weave} (xs : List Side) → Wove s t w v xs
    → IsTrue s.device.told → left_items s w ≡ lefts xs ++ left_items t v
wove_left {s} {t} {w} {v} xs h z =
    sym (lefts_woven (left_items s w) (right_items s w))
    ∙ ap (λ (ds : List Side). lefts ds) (h.items z) ∙ lefts_append xs (weave_items t v)
    ∙ ap (λ (ls : List Record). lefts xs ++ ls)
    (lefts_woven (left_items t v) (right_items t v))

pub wove_right : {s t : RigState} {w v : Weave} (xs : List Side) → Wove s t w v xs
    → IsTrue s.device.told → right_items s w ≡ rights xs ++ right_items t v
wove_right {s} {t} {w} {v} xs h z =
    sym (rights_woven (left_items s w) (right_items s w))
    ∙ ap (λ (ds : List Side). rights ds) (h.items z) ∙ rights_append xs (weave_items t v)
    ∙ ap (λ (rs : List Record). rights xs ++ rs)
    (rights_woven (left_items t v) (right_items t v))

-- Each record that was given is one fewer that is left.
pub wove_count : {s t : RigState} {w v : Weave} (xs : List Side) → Wove s t w v xs
    → weave_count v + length xs ≡ weave_count w
wove_count xs h =
    let n = sides_length xs in
    omega (arith, n, h.left_count, h.right_count)

-- If the device tells, what is left of a side has as many records as it says.
pub peek_length : (s : RigState) (p : PeekReader) → IsPeek s p → IsTrue s.device.told
    → length (peek_items s p) ≡ peek_count p
peek_length s p i z =
    let n = length_left s p.reader i.is z in
    length-append (option_to_list p.front) (reader_items s p.reader)
    ∙ ap (λ (k : ℕ). length (option_to_list p.front) + k) n

-- What is left after a record of the right: of a left list that ascends by the word a, no record with
-- the same word a or a lesser one.
pub after_right : {s t : RigState} {w v : Weave} {r : Record} → Wove s t w v (Right r ∷ [])
    → IsTrue s.device.told → AscendsByA (left_items s w) → NoneBefore (r.a + 1) (left_items t v)
after_right {s} {t} {w} {v} {r} h z a =
    let first : LeftsFirst (Right r ∷ weave_items t v) =
    subst (λ (ds : List Side). LeftsFirst ds) (h.items z)
    (woven_lefts_first (left_items s w) (right_items s w) a) in
    subst (λ (ls : List Record). NoneBefore (r.a + 1) ls)
    (lefts_woven (left_items t v) (right_items t v)) first.0

-- After one of the left: of a right list that ascends by the word a, no record with a lesser one.
pub after_left : {s t : RigState} {w v : Weave} {l : Record} → Wove s t w v (Left l ∷ [])
    → IsTrue s.device.told → AscendsByA (left_items s w) → AscendsByA (right_items s w)
    → NoneBefore l.a (right_items t v)
after_left {s} {t} {w} {v} {l} h z a b =
    let all : AscendsByA (map side_record (Left l ∷ weave_items t v)) =
    subst (λ (ds : List Side). AscendsByA (map side_record ds)) (h.items z)
    (woven_ascends (left_items s w) (right_items s w) a b) in
    subst (λ (rs : List Record). NoneBefore l.a rs)
    (rights_woven (left_items t v) (right_items t v))
    (none_before_rights l.a (weave_items t v) all.0)

-- The same with the ledger: no call yet,
pub weaves_none : {s : RigState} {w : Weave} → Sound s → IsWeave s w → Weaves s s w w []
weaves_none {s} {w} h i = record {
  runs = runs_none s (weave_blocks s w) (weave_account w) h (λ z. weave_holds i z);
  wove = wove_none i;
}

-- more records,
pub weaves_then : {s t u : RigState} {w v k : Weave} (xs ys : List Side) → Weaves s t w v xs
    → Weaves t u v k ys → Weaves s u w k (xs ++ ys)
weaves_then {w = w} {v = v} xs ys h g = record {
  runs = runs_wider (let l = h.wove.fewer in omega arith) (runs_then h.runs g.runs);
  wove = wove_then xs ys h.wove g.wove;
}

-- and a call that gave up.
pub weaves_stop : {s t u : RigState} {w v : Weave} {xs : List Side} {fault : EmFault}
    → Weaves s t w v xs → StopsWeaving t u v fault → StopsWeaving s u w fault
weaves_stop h g = stops_wider (let l = h.wove.fewer in omega arith) (omega arith) (omega arith)
    (stops_after h.runs g)

-- the account of both readers with the two moves more
weave_runs : {n : ℕ} {ks js : List ℕ} {s t : RigState} (w v : Weave)
    → Runs n ks js (both (taking_account w.left.reader) (taking_account w.right.reader))
    (both (taking_account v.left.reader) (taking_account v.right.reader)) s t
    → Runs n ks js (weave_account w) (weave_account v) s t
weave_runs w v h =
    let k = h.spends in
    record {
      session = h.session;
      frames = h.frames;
      spends = record {
        held = k.held;
        used = k.used;
        most = k.most;
        moves = omega (arith, k.moves);
        later = k.later;
        pays = k.pays;
      };
    }

-- A record was read ahead on one side: what that is for both.
pub left_ahead : {s t : RigState} {w : Weave} {p : PeekReader} → IsWeave s w
    → ReadsAhead s t w.left p → HasFrames 1 (length p.reader.frame) t.pool
    → Weaves s t w (record { left = p; right = w.right }) []
left_ahead {s} {t} {w} {p} i h f =
    let ks = peek_blocks s w.left in
    let js = peek_blocks s w.right in
    let v : Weave = record { left = p; right = w.right } in
    let frames = frames_kept s t w h.runs.frames i.frames in
    let st = side_stays ks s t w.right h.runs.session.touches
    (λ z. apart_sym ks js (i.apart z)) frames.right i.right in
    let runs = runs_as (weave_blocks t v)
    (runs_first js (taking_account w.right.reader) (λ z. weave_holds i z) h.runs)
    (λ z. rw (st.blocks z) refl) in
    let m = h.count_is in
    record {
      runs = weave_runs w v runs;
      wove = record {
        told = h.runs.session.touches.told;
        is = record {
          left = h.is;
          right = st.is;
          apart = λ y. distinct_apart (peek_blocks t p) (peek_blocks t w.right)
              ((runs.session.holds (sym h.runs.session.touches.told ∙ y)).distinct y);
          frames = record {
            left = has_more (length w.right.reader.frame) (length p.reader.frame) t.pool
                frames.right f;
            right = frames.right;
          };
        };
        items = λ z. rw (h.items z, st.items z) refl;
        left_count = omega arith;
        right_count = omega arith;
        fewer = let l = h.fewer in omega arith;
      };
    }

pub right_ahead : {s t : RigState} {w : Weave} {p : PeekReader} → IsWeave s w
    → ReadsAhead s t w.right p → HasFrames 1 (length p.reader.frame) t.pool
    → Weaves s t w (record { left = w.left; right = p }) []
right_ahead {s} {t} {w} {p} i h f =
    let ks = peek_blocks s w.left in
    let js = peek_blocks s w.right in
    let v : Weave = record { left = w.left; right = p } in
    let frames = frames_kept s t w h.runs.frames i.frames in
    let st = side_stays js s t w.left h.runs.session.touches i.apart frames.left i.left in
    let runs = runs_as (weave_blocks t v)
    (runs_second ks (taking_account w.left.reader) (λ z. weave_holds i z) h.runs)
    (λ z. rw (st.blocks z) refl) in
    let m = h.count_is in
    record {
      runs = weave_runs w v runs;
      wove = record {
        told = h.runs.session.touches.told;
        is = record {
          left = st.is;
          right = h.is;
          apart = λ y. distinct_apart (peek_blocks t w.left) (peek_blocks t p)
              ((runs.session.holds (sym h.runs.session.touches.told ∙ y)).distinct y);
          frames = record {
            left = frames.left;
            right = has_more (length w.left.reader.frame) (length p.reader.frame) t.pool
                frames.left f;
          };
        };
        items = λ z. rw (h.items z, st.items z) refl;
        left_count = omega arith;
        right_count = omega arith;
        fewer = let l = h.fewer in omega arith;
      };
    }

none_by : (xs : List Record) → length xs ≡ 0 → xs ≡ []
none_by [] e = refl
none_by (x ∷ xs) e = absurd (omega arith)

-- with no record left the list is empty
items_none : (s : RigState) (r : Reader) → IsReader s r → IsTrue s.device.told → r.count ≡ 0
    → reader_items s r ≡ []
items_none s r i z e = none_by (reader_items s r) (length_left s r i z ∙ e)

-- The same on one side after the other.
pub both_ahead : {s t u : RigState} {w : Weave} {p q : PeekReader} → ReadsAhead s t w.left p
    → Weaves s t w (record { left = p; right = w.right }) []
    → ReadsAhead t u w.right q
    → Weaves t u (record { left = p; right = w.right }) (record { left = p; right = q }) []
    → BothAhead s u w (record { left = p; right = q })
both_ahead {s} {t} {u} {w} {p} {q} h a g b = record {
  weaves = weaves_then [] [] a b;
  left_none = λ e.
      let n = (h.none e).count in
      let same = ap (λ (x : PeekReader). x.reader.count) (h.none e).same in
      omega (arith, n, same);
  right_none = λ e.
      let n = (g.none e).count in
      let same = ap (λ (x : PeekReader). x.reader.count) (g.none e).same in
      omega (arith, n, same);
  none = λ e f.
      let x = h.none e in
      let y = g.none f in
      let m = x.count in
      let n = y.count in
      record {
        count = omega (arith, m, n);
        same = λ j. record { left = x.same j; right = y.same j };
        rig = y.rig ∙ x.rig;
      };
}

weave_halts : {n : ℕ} {ks : List ℕ} {s t : RigState} {fault : EmFault} (w : Weave)
    → Stops n (0 + 0) (0 + 0) ks
    (both (taking_account w.left.reader) (taking_account w.right.reader)) s t fault
    → Stops n 0 0 ks (weave_account w) s t fault
weave_halts w h =
    let k = h.halts in
    record {
      goes = h.goes;
      halts = record {
        used = k.used;
        full = k.full;
        most = k.most;
        moves = omega (arith, k.moves);
        later = k.later;
        pays = k.pays;
      };
      cause = h.cause;
    }

-- One side gave up.
pub left_stops : {s t : RigState} {fault : EmFault} (w : Weave)
    → Stops w.left.reader.blocks 0 0 (peek_blocks s w.left) (taking_account w.left.reader) s t fault
    → StopsWeaving s t w fault
left_stops {s} {t} w h = weave_halts w
    (stops_first (peek_blocks s w.right) (taking_account w.right.reader) h)

right_stops : {s t : RigState} {fault : EmFault} (w : Weave)
    → Stops w.right.reader.blocks 0 0 (peek_blocks s w.right) (taking_account w.right.reader) s t
    fault
    → StopsWeaving s t w fault
right_stops {s} {t} w h = weave_halts w
    (stops_second (peek_blocks s w.left) (taking_account w.left.reader) h)

-- what the second side gives, by its result
pub ahead_by : (s t u : RigState) (w : Weave) (p q : PeekReader)
    (result : Result (Unit {0}) EmFault) → ReadsAhead s t w.left p
    → Weaves s t w (record { left = p; right = w.right }) [] → ReadsAheadTo t u w.right q result
    → HasFrames 1 (length q.reader.frame) u.pool
    → BothAheadTo s u w (record { left = p; right = q }) result
ahead_by s t u w p q (Ok done) h a g f =
    both_ahead h a g (right_ahead a.wove.is g f)
ahead_by s t u w p q (Err fault) h a g f =
    weaves_stop a (right_stops (record { left = p; right = w.right }) g)

-- what a refusal gives
pub both_err : (s t : RigState) (w v : Weave) (result : Result (Unit {0}) EmFault)
    (fault : EmFault) → IsErrAnd result (λ e. e ≡ fault) → StopsWeaving s t w fault
    → BothAheadTo s t w v result
both_err s t w v (Ok done) fault e h = absurd e
both_err s t w v (Err f) fault e h =
    subst (λ (n : EmFault). StopsWeaving s t w n) (sym e) h

-- a weave with the same readers
is_same : {s : RigState} {w v : Weave} → v.left.reader ≡ w.left.reader
    → v.right.reader ≡ w.right.reader → IsWeave s w → IsWeave s v
is_same l r i = record {
  left = record { is = rw l i.left.is; taking = rw l i.left.taking };
  right = record { is = rw r i.right.is; taking = rw r i.right.taking };
  apart = λ z. rw (l, r) (i.apart z);
  frames = record { left = rw l i.frames.left; right = rw r i.frames.right };
}

-- The first of the records that are ahead was taken.
pub weaves_take : {s : RigState} {w v : Weave} (o : Option Side) → Sound s → IsWeave s w
    → (w.left.front ≡ None → w.left.reader.count ≡ 0)
    → (w.right.front ≡ None → w.right.reader.count ≡ 0) → TakesFront w v o
    → Weaves s s w v (option_to_list o)
weaves_take {s} {w} {v} o h i a b k =
    let l = k.left_reader in
    let r = k.right_reader in
    let m = k.left_count in
    let n = k.right_count in
    let lc = ap (λ (x : Reader). x.count) l in
    let rc = ap (λ (x : Reader). x.count) r in
    let lb = ap (λ (x : Reader). x.blocks) l in
    let rb = ap (λ (x : Reader). x.blocks) r in
    record {
      runs = rw (l, r) (runs_none s (weave_blocks s w) (weave_account w) h (λ z. weave_holds i z));
      wove = record {
        told = refl;
        is = is_same l r i;
        items = λ z. rw (l, r) (k.items (reader_items s w.left.reader)
            (reader_items s w.right.reader)
            (λ e. items_none s w.left.reader i.left.is z (a e))
            (λ e. items_none s w.right.reader i.right.is z (b e)));
        left_count = omega (arith, m, lc);
        right_count = omega (arith, n, rc);
        fewer = omega (arith, lb, rb);
      };
    }

blocks_apart : {ks js ls ms : List ℕ} → ks ≡ ls → js ≡ ms → Apart ls ms → Apart ks js
blocks_apart d e a = rw (d, e) a

both_blocks : {ks js ls ms : List ℕ} → ks ≡ ls → js ≡ ms → ks ++ js ≡ ls ++ ms
both_blocks d e = rw (d, e) refl

-- A weave of two chains, by what the readers say that take them.
pub opens_both : {s m t : RigState} {left right : Chain} {l r : Reader}
    → (IsTrue s.device.told → Apart (chain_blocks s left) (chain_blocks s right))
    → LendsFrame s m → Opens s m left true l → ChainStays s m right → LendsFrame m t
    → Opens m t right true r
    → OpensBoth s t left right (record {
      left = record { reader = l; front = None };
      right = record { reader = r; front = None };
    })
opens_both {s} {m} {t} {left} {right} {l} {r} a x o st y k =
    let fl = o.is.frame in
    let shape = y.frames.shape in
    let free = y.frames.free in
    let frame : HasFrames 2 (length l.frame) t.pool = record {
      len_is = fl.len_is ∙ ap (λ (n : ShapeNumbers). n.block) (sym shape);
      out =
          let singles = ap singles_of shape in let out = fl.out in omega (arith, singles, free, out);
    } in
    let side : SideStays m t (record { reader = l; front = None }) =
    side_stays [] m t (record { reader = l; front = None }) y.touches
    (λ _. apart_none (chain_blocks m (rest_of l))) frame
    (record { is = o.is; taking = o.taking_is }) in
    let lw = o.words in
    let rv = k.words in
    let lo = o.owed_is in
    let ro = k.owed_is in
    let lb = ap (λ (c : Chain). c.blocks) lw in
    let rb = ap (λ (c : Chain). c.blocks) rv in
    let told = x.touches.told in
    record {
      is = record {
        left = side.is;
        right = record { is = k.is; taking = k.taking_is };
        apart = λ u.
            let n : IsTrue m.device.told = sym y.touches.told ∙ u in
            let z : IsTrue s.device.told = sym told ∙ n in
            blocks_apart (side.blocks n ∙ o.blocks z) (k.blocks n ∙ st.blocks z) (a z);
        frames = record {
          left = frame;
          right = has_more (length l.frame) (length r.frame) t.pool frame k.is.frame;
        };
      };
      left_items = λ z. side.items (told ∙ z) ∙ o.items z;
      right_items = λ z. k.items (told ∙ z) ∙ st.items z;
      blocks = λ z. both_blocks (side.blocks (told ∙ z) ∙ o.blocks z)
          (k.blocks (told ∙ z) ∙ st.blocks z);
      left_count = let n = ap (λ (c : Chain). c.count) lw in omega arith;
      right_count = let n = ap (λ (c : Chain). c.count) rv in omega arith;
      held_is = omega (arith, lb, rb);
      owed_is = omega (arith, lo, ro);
    }
