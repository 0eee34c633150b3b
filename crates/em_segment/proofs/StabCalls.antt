-- The calls that give an interval list its commands.
use Rattle.std.proofs.Common.{◌≡◌, ℕ, zero, suc, ◌+◌, ◌-◌, ◌*◌, ◌^◌, ◌<◌, ◌≤◌, min, List, [], ◌∷◌, ◌++◌, length, map, IsTrue, Result, Ok, Err, OnOk, IfErr, ap, refl, sym, ◌∙◌, arith}
use Rattle.std.proofs.Math.Nat.{le_of_mul-le-mul_right, mul-le-mul_left}
use Rattle.std.proofs.lemmas.List.{length-append, length-drop, length-map, map-append}
use Rattle.em_record.specs.Cost.{blocks_of, lev}
use Rattle.em_record.specs.Shape.{IsShape, ShapeNumbers, payload_of}
use Rattle.em_record.specs.declared.record.Record.{Record}
use Rattle.em_frames.specs.Pool.{singles_of}
use Rattle.em_model.specs.Stab.{intervals_after}
use Rattle.em_model.specs.declared.command.Command.{Command}
use Rattle.em_model.specs.declared.command.Command.TheVariants as command
use Rattle.em_space.specs.Held.{Apart}
use Rattle.em_space.specs.Ledger.{Costs, Runs}
use Rattle.em_space.specs.Rig.{Cause, Goes, RigState, Sound}
use Rattle.em_space.specs.declared.fault.EmFault.{EmFault}
use Rattle.em_space.specs.declared.fault.EmFault.TheVariants.{DeviceFault, Full, Damaged}
use Rattle.em_space.proofs.Lists.{apart_sym, distinct_apart}
use Rattle.em_space.proofs.Runs.{runs_as, runs_first, runs_of, runs_second, stops_first, stops_second, stops_wider}
use Rattle.em_space.proofs.Steps.{touches_then}
use Rattle.em_chain.specs.Chain.{payload_in}
use Rattle.em_chain.specs.Counts.{ceiling}
use Rattle.em_chain.specs.Effects.{GivesFrame, LendsFrame, Unmoved}
use Rattle.em_chain.specs.List.{items_in}
use Rattle.em_chain.specs.Session.{one_more, writer_account}
use Rattle.em_chain.specs.Writer.{IsWriter, WriterHasFrame, WriterStays, filled, writer_blocks, writer_contents, writer_items}
use Rattle.em_chain.specs.Writes.{AppendCosts, Appends, Begins}
use Rattle.em_chain.specs.declared.writer.Writer.{Writer}
use Rattle.em_chain.proofs.Counts.{blocks_by, ceiling_sum, filled_most}
use Rattle.em_chain.proofs.Keeps.{has_kept}
use Rattle.em_chain.proofs.Laws.{writer_stays}
use Rattle.em_chain.proofs.Withins.{within_grows}
use Rattle.em_chain.proofs.Writings.{writer_lent}
use Rattle.em_tree_cost.proofs.Ceilings.{blocks_ceil}
use Rattle.em_segment_model.specs.Commands.{asked_from}
use Rattle.em_segment_model.specs.Points.{asked_record, interval_record}
use Rattle.em_segment_model.proofs.Calls.{interval_appends, interval_asks, stab_adds, stab_appends}
use Rattle.em_segment_parts.specs.Pairs.{IsPairs}
use Rattle.em_segment.specs.Stabs.{FullOverRoom, HasCommands, IsNewStab, IsStab, LeavesStab, StabHasFrames, TakeCosts, TakesTo, stab_account, stab_len}
use Rattle.em_segment.specs.declared.stab.Stab.{Stab}

-- A list of pairs, of intervals or of points stays over a call that leaves its blocks alone.
pub pairs_stay : {s t : RigState} {w : Writer} → t.device.told ≡ s.device.told → IsPairs s w
    → WriterStays s t w → IsPairs t w
pairs_stay told i st = record {
  writer = st.is;
  filled_is = st.filled_is ∙ i.filled_is;
  few = i.few;
  packed = λ z. st.packed (sym told ∙ z) (i.packed (sym told ∙ z));
}

-- It is new.
pub pairs_begin : {s : RigState} {w : Writer} → Begins s w → IsPairs s w
pairs_begin b = record {
  writer = b.is;
  filled_is = omega (arith, b.filled_is, b.count);
  few = omega (arith, b.count);
  packed = λ z. b.packed;
}

pub new_stab : {s m t : RigState} {w v : Writer} → LendsFrame s m → Unmoved s m → Begins m w
    → LendsFrame m t → Unmoved m t → Begins t v
    → IsNewStab s t (record { intervals = w; stabs = v })
new_stab {s} {m} {t} {w} {v} l x b k y d =
    let st = writer_lent b.is k in
    let back : IsTrue t.device.told → IsTrue m.device.told = λ z. sym k.touches.told ∙ z in
    let none : HasCommands t (record { intervals = w; stabs = v }) [] = record {
      len = omega (arith, b.count, d.count);
      intervals = λ z. st.items (back z) ∙ b.items;
      stabs = λ z. d.items;
    } in
    record {
      is = record {
        frames = record {
          intervals = b.is.frame.len_is ∙ ap (λ (z : ShapeNumbers). z.block) (sym k.frames.shape);
          stabs = d.is.frame.len_is;
          out =
              let e = ap singles_of (k.frames.shape ∙ l.frames.shape) in
              omega (arith, l.within, l.frames.free, k.frames.free, e);
        };
        intervals = pairs_stay k.touches.told (pairs_begin b) st;
        stabs = pairs_begin d;
        few = omega (arith, b.count, d.count);
        holds = λ z. rw (st.blocks (back z), b.held, d.held) (record { in_use = tt; distinct = λ p. tt });
        given = [];
        has = none;
      };
      none = none;
      sound = k.sound;
      touches = touches_then [] s m t l.touches k.touches;
      unmoved = record {
        device = y.device ∙ x.device;
        spare = y.spare ∙ x.spare;
        same = record {
          head = y.same.head ∙ x.same.head;
          used = y.same.used ∙ x.same.used;
          most = y.same.most ∙ x.same.most;
        };
        moves = y.moves ∙ x.moves;
      };
      frames = record {
        shape = k.frames.shape ∙ l.frames.shape;
        free = omega (arith, k.frames.free, l.frames.free);
        rack = k.frames.rack ∙ l.frames.rack;
        free_areas = k.frames.free_areas ∙ l.frames.free_areas;
        peak = omega (arith, k.frames.peak, l.frames.peak);
      };
      blocks = omega (arith, b.blocks, d.blocks);
    }

-- Its frames came back.
pub left_stab : {s m t : RigState} → GivesFrame [] s m → Unmoved s m → GivesFrame [] m t
    → Unmoved m t → LeavesStab s t
left_stab {s} {m} {t} l x k y = record {
  sound = k.sound;
  touches = touches_then [] s m t l.touches k.touches;
  frames = record {
    shape = k.frames.shape ∙ l.frames.shape;
    free = omega (arith, k.frames.free, l.frames.free);
    rack = k.frames.rack ∙ l.frames.rack;
    free_areas = k.frames.free_areas ∙ l.frames.free_areas;
    peak = omega (arith, k.frames.peak, l.frames.peak);
  };
  same = λ i. record {
    name = (k.touches.name ∙ l.touches.name) i;
    device = (y.device ∙ x.device) i;
    pool = t.pool;
    blocks = (k.touches.blocks ∙ l.touches.blocks) i;
    head = (y.same.head ∙ x.same.head) i;
    spare = (y.spare ∙ x.spare) i;
    used = (y.same.used ∙ x.same.used) i;
    most = (y.same.most ∙ x.same.most) i;
    moves = (y.moves ∙ x.moves) i;
  };
}

-- The blocks of both lists are few.
pub pairs_size : {s : RigState} {w : Writer} → IsPairs s w
    → w.blocks * payload_in s ≤ w.count + payload_in s
pairs_size {s} {w} i = by_fill (payload_in s) w.blocks w.fill w.count i.filled_is
  where
    by_fill : (p b f n : ℕ) → p * (b - 1) + f ≡ n → b * p ≤ n + p
    by_fill p zero f n e = omega arith
    by_fill p (suc c) f n e =
        let m : suc c - 1 ≡ c = omega arith in
        let d : p * c + f ≡ n = rw m at e in
        omega (arith, d)

pub few_blocks : (shape : ShapeNumbers) (I J n bi bj : ℕ) → IsShape shape
    → bi * payload_of shape ≤ I + payload_of shape → bj * payload_of shape ≤ J + payload_of shape
    → I + J ≤ n → bi + bj ≤ 2 * blocks_of shape n + 2
few_blocks shape I J n bi bj is x y l =
    by_numbers (payload_of shape) shape.block I J n (blocks_of shape n) bi bj
    (omega (arith, is.block_low)) (omega (arith, is.block_low)) (blocks_ceil shape n is).holds x y l
  where
    by_numbers : (P B I J n q bi bj : ℕ) → 0 < P → B ≤ 2 * P → n ≤ q * B → bi * P ≤ I + P
        → bj * P ≤ J + P → I + J ≤ n → bi + bj ≤ 2 * q + 2
    by_numbers P B I J n q bi bj some b h x y l =
        let qb : q * B ≤ q * (2 * P) = mul-le-mul_left q b in
        let t : (bi + bj) * P ≤ (2 * q + 2) * P = omega (arith, x, y, h, qb, l) in
        le_of_mul-le-mul_right t some

pub stab_few : {s : RigState} {v : Stab} (n : ℕ) → Sound s → IsStab s v → stab_len v ≤ n
    → (stab_account v).blocks ≤ 2 * blocks_of s.pool.shape n + 2
stab_few {s} {v} n h i l = few_blocks s.pool.shape v.intervals.count v.stabs.count n
    v.intervals.blocks v.stabs.blocks h.shape (pairs_size i.intervals) (pairs_size i.stabs) l

-- an append moves two blocks at most, and takes one
append_few : {T : Type 0} {s t : RigState} {w v : Writer} (result : Result T EmFault)
    → AppendCosts s t w v result → (t.moves ≤ s.moves + 2) × (t.used ≤ s.used + 1)
append_few (Ok y) k = (omega (arith, k.moves, k.more), omega (arith, k.used, k.more))
append_few (Err e) k = (k.moves_err, k.used_err)

-- What a call that gives a command costs.
pub take_costs : {T : Type 0} {s t : RigState} {w k : Writer} (v : Stab) (result : Result T EmFault)
    → Sound s → IsStab s v → AppendCosts s t w k result → TakeCosts s t v
take_costs {s = s} {t} v result h i c =
    let few = stab_few (stab_len v + 1) h i (omega arith) in
    let a = append_few result c in
    let q = blocks_of s.pool.shape (stab_len v + 1) in
    let l = lev s.pool.shape q in
    let share : 1920 * (q + 1) * 1 ≤ 1920 * (q + 1) * (1 + l) =
    mul-le-mul_left (1920 * (q + 1)) (omega arith) in
    record {
      share = omega (arith, a.0, few, share);
      room = omega (arith, a.1, few, c.most);
    }

-- A block more than all that the list has is within its room.
pub take_small : {T : Type 0} {s t : RigState} {w k : Writer} (v : Stab) (result : Result T EmFault)
    → Sound s → IsStab s v → AppendCosts s t w k result → IfErr result (Cause s t) → FullOverRoom s v result
take_small v (Ok y) h i c e = tt
take_small v (Err DeviceFault) h i c e = tt
take_small {s = s} {t} v (Err (Full used)) h i c e =
    let few = stab_few (stab_len v + 1) h i (omega arith) in
    let same : t.used ≡ s.used = c.full in omega (arith, few, same, e.0, e.1)
take_small v (Err (Damaged block)) h i c e = tt

-- a writer with a record more has a block more at most
more_most : {s : RigState} {w : Writer} → Sound s → IsWriter s w → one_more s w ≤ w.blocks + 1
more_most {s} {w} h i =
    let low = h.shape.block_low in
    let one : ceiling 1 (payload_in s) ≡ 1 = by_one (payload_in s) (omega (arith, low)) in
    let m = ceiling_sum (payload_in s) w.blocks (filled s w) 1 (omega (arith, low)) (filled_most s w i) in
    omega (arith, m, one)
  where
    by_one : (p : ℕ) → 0 < p → ceiling 1 p ≡ 1
    by_one p some = sym (blocks_by p 1 1 1 some (omega arith) (λ e. absurd (omega (arith, e)))
        (λ e. omega arith) (omega (arith, some)))

-- as many records as it counts
pub pairs_length : {s : RigState} {w : Writer} → IsPairs s w → IsTrue s.device.told
    → length (writer_items s w) ≡ w.count
pairs_length {s} {w} i z =
    let l = (i.writer.told z).list.count_is in
    length-drop w.skip (items_in (writer_contents s w)) ∙ omega arith

-- The writer of the intervals or of the points took a record,
append_runs : {s t : RigState} {w v : Writer} {x : Record} {T : Type 0} (y : T)
    → Goes (writer_blocks s w) s t → Appends s t w v x → AppendCosts s t w v (Ok y)
    → Costs {T = T} (one_more s w) (2 * one_more s w) (min w.blocks 1) (writer_account w)
    (writer_account v) s t (Ok y)
    → Runs v.blocks (writer_blocks s w) (writer_blocks t v) (writer_account w) (writer_account v) s t
append_runs {s} {t} {w} {v} y g a k h = runs_of (writer_blocks s w) (writer_blocks t v) g
    (within_grows s (writer_blocks s w) (writer_blocks t v) a.grown) (λ z. (a.is.told z).holds)
    (record {
      held = omega arith;
      used = h.used;
      most = omega (arith, k.most, k.used);
      moves = h.moves;
      later = h.later;
      pays = h.pays;
    })

-- and has these.
append_pairs : {s t : RigState} {w v : Writer} {x : Record} → t.device.told ≡ s.device.told
    → w.count < 2 ^ 40 → IsPairs s w → Appends s t w v x → IsPairs t v
append_pairs told l i a = record {
  writer = a.is;
  filled_is = omega (arith, a.filled_is, a.count_is, i.filled_is);
  few = omega (arith, a.count_is, l);
  packed = λ z. a.packed (sym told ∙ z) (i.packed (sym told ∙ z));
}

-- the other list beside it
other_stays : {s t : RigState} {k : Writer} (w : Writer) → Goes (writer_blocks s w) s t → IsWriter s k
    → (IsTrue s.device.told → Apart (writer_blocks s k) (writer_blocks s w)) → WriterStays s t k
other_stays {s} {t} {k} w g i a = writer_stays (writer_blocks s w) s t k g.touches a
    (has_kept 1 (length k.frame) s.pool t.pool g.frames i.frame) i

frames_kept : {s t : RigState} {v w : Stab} {ks : List ℕ} → Goes ks s t → StabHasFrames s v
    → length w.intervals.frame ≡ t.pool.shape.block → length w.stabs.frame ≡ t.pool.shape.block
    → StabHasFrames t w
frames_kept g f a b = record {
  intervals = a;
  stabs = b;
  out =
      let e = ap singles_of g.frames.shape in omega (arith, f.out, g.frames.free, e);
}

kept_len : {s t : RigState} {ks : List ℕ} (w : Writer) → Goes ks s t
    → length w.frame ≡ s.pool.shape.block → length w.frame ≡ t.pool.shape.block
kept_len w g f = f ∙ ap (λ (z : ShapeNumbers). z.block) (sym g.frames.shape)

-- the record of an interval or of a point after those of others
lists_append : {A : Type 0} (f : A → Record) (xs ys : List A) (x : A) (items after : List Record)
    (y : Record) → items ≡ map f xs → ys ≡ xs ++ x ∷ [] → after ≡ items ++ y ∷ [] → f x ≡ y
    → after ≡ map f ys
lists_append f xs ys x items after y e g h k =
    h ∙ rw (e, g, map-append f xs (x ∷ []), k) refl

-- An interval was given: the record that says it was written.
interval_given : {s t : RigState} {i j k : Writer} {low high : ℕ} → t.device.told ≡ s.device.told
    → IsPairs s i → Appends s t i k (record { a = low; b = high; c = i.count; d = 0 })
    → WriterStays s t j → (cs : List Command)
    → HasCommands s (record { intervals = i; stabs = j }) cs
    → HasCommands t (record { intervals = k; stabs = j }) (cs ++ command.Interval low high ∷ [])
interval_given {s} {t} {i} {j} {k} {low} {high} told is a st cs has = record {
  len =
      let l = length-append cs (command.Interval low high ∷ []) in
      omega (arith, l, has.len, a.count_is);
  intervals = λ z.
      let old = sym told ∙ z in
      let number : length (intervals_after [] cs) ≡ i.count =
      sym (length-map (intervals_after [] cs) interval_record)
      ∙ ap (λ (xs : List Record). length xs) (sym (has.intervals old)) ∙ pairs_length is old in
      lists_append interval_record (intervals_after [] cs)
      (intervals_after [] (cs ++ command.Interval low high ∷ []))
      (record { number = length (intervals_after [] cs); low = low; high = high })
      (writer_items s i) (writer_items t k) (record { a = low; b = high; c = i.count; d = 0 })
      (has.intervals old) (interval_appends cs low high) (a.items old) (rw number refl);
  stabs = λ z.
      let old = sym told ∙ z in
      st.items old ∙ has.stabs old ∙ ap (map asked_record) (sym (interval_asks cs low high));
}

-- A stab was given.
point_given : {s t : RigState} {i j k : Writer} {point : ℕ} → t.device.told ≡ s.device.told
    → IsPairs s i → IsPairs s j → Appends s t j k (record { a = point; b = j.count; c = i.count; d = 0 })
    → WriterStays s t i → (cs : List Command)
    → HasCommands s (record { intervals = i; stabs = j }) cs
    → HasCommands t (record { intervals = i; stabs = k }) (cs ++ command.Stab point ∷ [])
point_given {s} {t} {i} {j} {k} {point} told is js a st cs has = record {
  len =
      let l = length-append cs (command.Stab point ∷ []) in omega (arith, l, has.len, a.count_is);
  intervals = λ z.
      let old = sym told ∙ z in
      st.items old ∙ has.intervals old ∙ ap (map interval_record) (sym (stab_adds cs point));
  stabs = λ z.
      let old = sym told ∙ z in
      let before : length (intervals_after [] cs) ≡ i.count =
      sym (length-map (intervals_after [] cs) interval_record)
      ∙ ap (λ (xs : List Record). length xs) (sym (has.intervals old)) ∙ pairs_length is old in
      let number : length (asked_from 0 0 cs) ≡ j.count =
      sym (length-map (asked_from 0 0 cs) asked_record)
      ∙ ap (λ (xs : List Record). length xs) (sym (has.stabs old)) ∙ pairs_length js old in
      lists_append asked_record (asked_from 0 0 cs)
      (asked_from 0 0 (cs ++ command.Stab point ∷ []))
      (record { point = point; stab = length (asked_from 0 0 cs); before = length (intervals_after [] cs) })
      (writer_items s j) (writer_items t k) (record { a = point; b = j.count; c = i.count; d = 0 })
      (has.stabs old) (stab_appends cs point) (a.items old) (rw (number, before) refl);
}

-- What giving an interval did, by the result of the append.
pub interval_takes : {T : Type 0} {s t : RigState} {i j k : Writer} (low high : ℕ)
    (result : Result T EmFault) → Sound s → IsStab s (record { intervals = i; stabs = j })
    → i.count + j.count < 2 ^ 40 → Goes (writer_blocks s i) s t → WriterHasFrame t k
    → OnOk result (Appends s t i k (record { a = low; b = high; c = i.count; d = 0 }))
    → AppendCosts s t i k result
    → Costs (one_more s i) (2 * one_more s i) (min i.blocks 1) (writer_account i) (writer_account k) s t
    result → IfErr result (Cause s t)
    → TakesTo (command.Interval low high) s t (record { intervals = i; stabs = j })
    (record { intervals = k; stabs = j }) result
interval_takes {s = s} {t} {i} {j} {k} low high (Ok y) h is l g f a costs spends cause =
    let apart = λ (z : IsTrue s.device.told). apart_sym (writer_blocks s i) (writer_blocks s j)
    (distinct_apart (writer_blocks s i) (writer_blocks s j) ((is.holds z).distinct z)) in
    let st = other_stays i g is.stabs.writer apart in
    let told = g.touches.told in
    let has = interval_given told is.intervals a st in
    let runs = runs_as (writer_blocks t k ++ writer_blocks t j)
    (runs_first (writer_blocks s j) (writer_account j) is.holds (append_runs y g a costs spends))
    (λ z. ap (λ (ks : List ℕ). writer_blocks t k ++ ks) (st.blocks z)) in
    record {
      is = record {
        frames = frames_kept g is.frames f.len_is (kept_len j g is.frames.stabs);
        intervals = append_pairs told (omega (arith, l)) is.intervals a;
        stabs = pairs_stay told is.stabs st;
        few = omega (arith, l, a.count_is);
        holds = λ z. runs.session.holds (sym told ∙ z);
        given = is.given ++ command.Interval low high ∷ [];
        has = has is.given is.has;
      };
      runs = runs;
      commands = has;
    }
interval_takes {s = s} {t} {i} {j} {k} low high (Err e) h is l g f a costs spends cause =
    let m = more_most h is.intervals.writer in
    record {
      frames = frames_kept g is.frames f.len_is (kept_len j g is.frames.stabs);
      stops = stops_wider (omega (arith, m)) (omega (arith, m)) (omega arith)
          (stops_first (writer_blocks s j) (writer_account j)
          (record { goes = g; halts = spends; cause = cause }));
    }

-- The same of a stab.
pub stab_takes : {T : Type 0} {s t : RigState} {i j k : Writer} (point : ℕ)
    (result : Result T EmFault) → Sound s → IsStab s (record { intervals = i; stabs = j })
    → i.count + j.count < 2 ^ 40 → Goes (writer_blocks s j) s t → WriterHasFrame t k
    → OnOk result (Appends s t j k (record { a = point; b = j.count; c = i.count; d = 0 }))
    → AppendCosts s t j k result
    → Costs (one_more s j) (2 * one_more s j) (min j.blocks 1) (writer_account j) (writer_account k) s t
    result → IfErr result (Cause s t)
    → TakesTo (command.Stab point) s t (record { intervals = i; stabs = j })
    (record { intervals = i; stabs = k }) result
stab_takes {s = s} {t} {i} {j} {k} point (Ok y) h is l g f a costs spends cause =
    let apart = λ (z : IsTrue s.device.told). distinct_apart (writer_blocks s i) (writer_blocks s j)
    ((is.holds z).distinct z) in
    let st = other_stays j g is.intervals.writer apart in
    let told = g.touches.told in
    let has = point_given told is.intervals is.stabs a st in
    let runs = runs_as (writer_blocks t i ++ writer_blocks t k)
    (runs_second (writer_blocks s i) (writer_account i) is.holds (append_runs y g a costs spends))
    (λ z. ap (λ (ks : List ℕ). ks ++ writer_blocks t k) (st.blocks z)) in
    record {
      is = record {
        frames = frames_kept g is.frames (kept_len i g is.frames.intervals) f.len_is;
        intervals = pairs_stay told is.intervals st;
        stabs = append_pairs told (omega (arith, l)) is.stabs a;
        few = omega (arith, l, a.count_is);
        holds = λ z. runs.session.holds (sym told ∙ z);
        given = is.given ++ command.Stab point ∷ [];
        has = has is.given is.has;
      };
      runs = runs;
      commands = has;
    }
stab_takes {s = s} {t} {i} {j} {k} point (Err e) h is l g f a costs spends cause =
    let m = more_most h is.stabs.writer in
    record {
      frames = frames_kept g is.frames (kept_len i g is.frames.intervals) f.len_is;
      stops = stops_wider (omega (arith, m)) (omega (arith, m)) (omega arith)
          (stops_second (writer_blocks s i) (writer_account i)
          (record { goes = g; halts = spends; cause = cause }));
    }
