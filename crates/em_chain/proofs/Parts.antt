-- A chain is cut in two, one record after another.
use Rattle.std.proofs.Common.{◌≡◌, ℕ, suc, ◌+◌, ◌-◌, ◌*◌, ◌<◌, ◌≤◌, ◌^◌, min, List, [], ◌∷◌, ◌++◌, length, drop, get_or, refl, sym, ap, ◌∙◌, subst, arith, add-one, IsTrue, Bool, true, false, inl, inr, ⊎_elim, Option, Some, None, IfSome, Result, Ok, Err, IfErr}
use Rattle.std.proofs.lemmas.List.{append-nil}
use Rattle.std.proofs.lemmas.List.Elements.{All-nil, All-head, All-cons, All-push, All-append}
use Rattle.std.specs.List.Sorted.{IsSorted}
use Rattle.std.specs.Result.{IsErrAnd}
use Rattle.em_record.specs.Count.{Rose}
use Rattle.em_record.specs.declared.record.Record.{Record}
use Rattle.em_record.specs.Shape.{ShapeNumbers}
use Rattle.em_frames.specs.Device.{DeviceState}
use Rattle.em_frames.specs.Pool.{PoolCounts, SameFrames, LentFrames, GivenFrames, HasFrames, singles_of}
use Rattle.em_record.proofs.Order.{below_ranks}
use Rattle.em_space.specs.Ledger.{Spends, Session, Stops}
use Rattle.em_space.specs.Rig.{RigState, Sound, Touches, Goes, Cause, BlockCause, DeviceCause, IfFull}
use Rattle.em_space.specs.declared.fault.EmFault.{EmFault}
use Rattle.em_space.specs.declared.fault.EmFault.TheVariants.{DeviceFault, Full, Damaged}
use Rattle.em_space.proofs.Apart.{off_left}
use Rattle.em_space.proofs.Held.{apart_none}
use Rattle.em_space.proofs.Ledgers.{full_by, full_never, spends_beside, spends_then}
use Rattle.em_space.proofs.Paying.{owes_of_pays}
use Rattle.em_space.proofs.Lists.{distinct_apart}
use Rattle.em_space.proofs.Runs.{stops_wider}
use Rattle.em_space.proofs.Sessions.{session_as, session_others, session_still, session_then, session_trans}
use Rattle.em_space.proofs.Steps.{touches_then}
use Rattle.em_space.proofs.Within.{within_kept, within_left, within_same, within_then, touches_within}
use Rattle.em_chain.specs.Chain.{ChainStays, IsChain, IsTight, payload_in, chain_items, chain_blocks}
use Rattle.em_chain.specs.Effects.{LendsFrame, GivesFrame, Unmoved}
use Rattle.em_record.specs.Order.{record_cmp, is_below}
use Rattle.em_chain.specs.Parts.{Parts, AllBelow, NoneBelow, IsPair, BeginsPart, Moved, MovedOne, HadRoom, Stands, StopsMoving, GaveUpAt, FullsPart, NeedsPart, IsPast, Steps, MovesAll, pair_more}
use Rattle.em_chain.specs.Reader.{IsReader, ReaderStays, rest_of, reader_items}
use Rattle.em_chain.specs.Reads.{Opens, Fetches, Peeks, Reads, AtEnd}
use Rattle.em_chain.specs.Session.{Pairs, taking_account, writer_account, chain_account, pair_blocks, pair_account, one_more}
use Rattle.em_chain.specs.Within.{Ends}
use Rattle.em_chain.specs.Writer.{IsWriter, IsPackedSoFar, NeedsBlock, writer_blocks, writer_items}
use Rattle.em_chain.specs.Writes.{Begins, Finishes}
use Rattle.em_chain.specs.declared.chain.Chain.{Chain}
use Rattle.em_chain.specs.declared.reader.Reader.{Reader}
use Rattle.em_chain.specs.declared.writer.Writer.{Writer}
use Rattle.em_chain.proofs.Counts.{lt_or_le}
use Rattle.em_chain.proofs.Keeps.{lent_given, payload_kept}
use Rattle.em_chain.proofs.Laws.{chain_stays, writer_stays}
use Rattle.em_chain.proofs.Pairs.{blocks_least, more_same, pairs_gave_up, pairs_room, pairs_none, pairs_wider, pairs_then, pairs_stops}
use Rattle.em_chain.proofs.Readers.{length_left, reader_stays}
use Rattle.em_chain.proofs.Sessions.{more_low, owed_least, took_seen}

sorted_tail : (x : Record) (xs : List Record) → IsSorted record_cmp (x ∷ xs)
    → IsSorted record_cmp xs
sorted_tail x xs h = λ k d lo lt.
    let e = h (suc k) d (omega arith) (omega arith) in
    rw (add-one k) (rw (add-one (suc k)) at e)

-- Of an ordered list whose first record isn't below a bound none is.
pub none_below : (low : Record) (xs : List Record) → IsSorted record_cmp xs → IsPast low xs
    → NoneBelow low xs
none_below low [] h p = All-nil (λ (x : Record). is_below x low ≡ false)
none_below low (x ∷ []) h p = All-cons (λ (y : Record). is_below y low ≡ false) x [] p
    (All-nil (λ (y : Record). is_below y low ≡ false))
none_below low (x ∷ y ∷ xs) h p =
    let e : is_below y x ≡ false = h 0 x (omega arith) (omega arith) in
    All-cons (λ (v : Record). is_below v low ≡ false) x (y ∷ xs) p
    (none_below low (y ∷ xs) (sorted_tail x (y ∷ xs) h) (below_ranks.chain y x low e p))

sorted_right : (xs ys : List Record) → IsSorted record_cmp (xs ++ ys) → IsSorted record_cmp ys
sorted_right [] ys h = h
sorted_right (x ∷ xs) ys h = sorted_right xs ys (sorted_tail x (xs ++ ys) h)

pub none_below_right : (low : Record) (all xs ys : List Record) → IsSorted record_cmp all
    → all ≡ xs ++ ys → IsPast low ys → NoneBelow low ys
none_below_right low all xs ys h e p =
    none_below low ys (sorted_right xs ys (subst (λ (l : List Record). IsSorted record_cmp l) e h))
    p

-- The next record isn't below the bound.
pub past_by : (low x : Record) (xs : List Record) → xs ≡ x ∷ drop 1 xs → is_below x low ≡ false
    → IsPast low xs
past_by low x [] e f = tt
past_by low x (y ∷ ys) e f =
    let h : y ≡ x = ap (λ (l : List Record). get_or l 0 x) e in
    subst (λ (v : Record). is_below v low ≡ false) (sym h) f

-- The next record is below the bound,
needs_by : (low x : Record) (xs : List Record) → xs ≡ x ∷ drop 1 xs → is_below x low ≡ true
    → NeedsPart low xs
needs_by low x [] e f =
    let n = ap (λ (l : List Record). length l) e in absurd (omega arith)
needs_by low x (y ∷ ys) e f =
    let h : y ≡ x = ap (λ (l : List Record). get_or l 0 x) e in
    subst (λ (v : Record). is_below v low ≡ true) (sym h) f

pub peek_needs : {s a : RigState} {r q : Reader} {x : Record} (low : Record) → Peeks s a r q x
    → is_below x low ≡ true → IsTrue s.device.told → NeedsPart low (reader_items s r)
peek_needs low h e z = subst (λ (l : List Record). NeedsPart low l) (h.fetches.items z)
    (needs_by low _ _ (h.next z) e)

-- as it was before records were moved, which were below it too;
needs_before : (low : Record) (xs ys all : List Record) → AllBelow low xs → all ≡ xs ++ ys
    → NeedsPart low ys → NeedsPart low all
needs_before low [] ys all b e n = subst (λ (l : List Record). NeedsPart low l) (sym e) n
needs_before low (x ∷ xs) ys all b e n = subst (λ (l : List Record). NeedsPart low l) (sym e)
    (All-head (λ (y : Record). is_below y low ≡ true) x xs b)

-- and if it was at first and isn't now, some were moved.
some_moved : (low : Record) (xs ys all : List Record) → all ≡ xs ++ ys → NeedsPart low all
    → IsPast low ys → 0 < length xs
some_moved low [] [] all e n p = absurd (subst (λ (l : List Record). NeedsPart low l) e n)
some_moved low [] (y ∷ ys) all e n p =
    let t = subst (λ (l : List Record). NeedsPart low l) e n in let f = p in cc
some_moved low (x ∷ xs) ys all e n p = omega arith

full_with : (e : EmFault) (P : Type 0) → P → IfFull e (λ _. P)
full_with DeviceFault P p = tt
full_with (Full n) P p = p
full_with (Damaged k) P p = tt

none_past : (low : Record) (xs : List Record) → length xs ≡ 0 → IsPast low xs
none_past low [] e = tt
none_past low (x ∷ xs) e = absurd (omega arith)

-- Nothing is left.
pub past_end : (s : RigState) (low : Record) (r : Reader) → IsReader s r → IsTrue s.device.told
    → r.count ≡ 0 → IsPast low (reader_items s r)
past_end s low r i z e =
    none_past low (reader_items s r) (length_left s r i z ∙ e)

-- A record was taken, since one was left.
pub taken_is : (u v : RigState) (q p : Reader) (o : Option Record) → 0 < q.count
    → (o ≡ None → AtEnd u v q p) → IfSome o (λ x. Reads u v q p x)
    → (x : Record) × Reads u v q p x
taken_is u v q p None c e h = let a = e refl in let n = a.count in absurd (omega arith)
taken_is u v q p (Some x) c e h = (x, h)

-- what a step left that gave up
pub steps_of : (s t : RigState) (low : Record) (r q : Reader) (w v : Writer)
    (result : Result Bool EmFault) (e : EmFault) → IsErrAnd result (λ f. f ≡ e)
    → StopsMoving s t low r w e → Steps s t low r q w v result
steps_of s t low r q w v (Ok x) e h k = absurd h
steps_of s t low r q w v (Err f) e h k =
    subst (λ (n : EmFault). StopsMoving s t low r w n) (sym h) k

pub moves_of : (s t : RigState) (low : Record) (r q : Reader) (w v : Writer)
    (result : Result (Unit {0}) EmFault) (e : EmFault) → IsErrAnd result (λ f. f ≡ e)
    → GaveUpAt s t low r e → MovesAll s t low r q w v result
moves_of s t low r q w v (Ok x) e h k = absurd h
moves_of s t low r q w v (Err f) e h k = subst (λ (n : EmFault). GaveUpAt s t low r n) (sym h) k

-- what holds of a fault holds of the result that a refusal gives
pub err_of : {T : Type 0} (r : Result T EmFault) (e : EmFault) (Q : EmFault → Type 0)
    → IsErrAnd r (λ f. f ≡ e) → Q e → IfErr r Q
err_of (Ok x) e Q h q = tt
err_of (Err f) e Q h q = subst (λ (v : EmFault). Q v) (sym h) q

-- One step: the next record was seen and stands,
pub step_stands : {s a : RigState} {r q : Reader} {w : Writer} (low x : Record)
    → 128 ≤ s.pool.shape.block → IsPair s r w → Pairs (w.blocks + r.blocks) s a r q w w [] []
    → (IsTrue s.device.told → reader_items a q ≡ x ∷ drop 1 (reader_items a q))
    → is_below x low ≡ false → Stands (pair_more s r w) s a low r q w w []
step_stands {s} {a} {r} {q} {w} low x b i h e f =
    let m = more_low s w b i.writer in
    record {
      moved = record {
        pairs = pairs_wider (omega arith) h;
        below = All-nil (λ (y : Record). is_below y low ≡ true);
      };
      past = λ z. past_by low x _ (e z) f;
    }

-- or it was written, and then taken;
pub step_moves : {s a b c : RigState} {r q p : Reader} {w v : Writer} (low x y : Record)
    → 128 ≤ s.pool.shape.block → IsPair s r w → Pairs (w.blocks + r.blocks) s a r q w w [] []
    → (IsTrue s.device.told → reader_items a q ≡ x ∷ drop 1 (reader_items a q))
    → Pairs (one_more a w + q.blocks) a b q q w v [] (x ∷ [])
    → Pairs (v.blocks + q.blocks) b c q p v v (y ∷ []) [] → is_below x low ≡ true
    → Moved (pair_more s r w) s c low r p w v (x ∷ [])
step_moves {s} {a} {b} {c} {r} {q} {p} {w} {v} low x y d i h n g k e =
    let m = more_low s w d i.writer in
    let o = more_same h in
    let f = h.took.fewer in
    let u = g.runs.spends.held in
    let seen = λ (z : IsTrue b.device.told).
    let z1 : IsTrue a.device.told = sym g.took.told ∙ z in
    let l : reader_items b q ≡ x ∷ drop 1 (reader_items b q) =
    subst (λ (l : List Record). l ≡ x ∷ drop 1 l) (g.took.items z1) (n (sym h.took.told ∙ z1)) in
    l in
    let j : Pairs (v.blocks + q.blocks) b c q p v v (x ∷ []) [] =
    record { runs = k.runs; took = took_seen x seen k.took; wrote = k.wrote } in
    record {
      pairs = pairs_wider (omega arith) (pairs_then [] (x ∷ []) (x ∷ []) []
          (pairs_then [] [] [] (x ∷ []) h g) j);
      below = All-push (λ (y : Record). is_below y low ≡ true) [] x
          (All-nil (λ (y : Record). is_below y low ≡ true)) e;
    }

-- or a call gave up, the first one,
pub step_stop_peek : {s a : RigState} {r : Reader} {w : Writer} {e : EmFault}
    → 128 ≤ s.pool.shape.block → IsPair s r w
    → Stops (w.blocks + r.blocks) (2 * w.blocks + 0) (min w.blocks 1 + 0) (pair_blocks s r w)
    (pair_account r w) s a e
    → Stops (pair_more s r w) (2 * one_more s w) 1 (pair_blocks s r w) (pair_account r w) s a e
step_stop_peek {s} {a} {r} {w} d i h =
    let m = more_low s w d i.writer in
    stops_wider (omega arith) (omega arith) (omega arith) h

-- the second one,
pub step_stop_append : {s a b : RigState} {r q : Reader} {w : Writer} {e : EmFault}
    → 128 ≤ s.pool.shape.block → IsPair s r w → Pairs (w.blocks + r.blocks) s a r q w w [] []
    → Stops (one_more a w + q.blocks) (2 * one_more a w + 0) (min w.blocks 1 + 0)
    (pair_blocks a q w) (pair_account q w) a b e
    → Stops (pair_more s r w) (2 * one_more s w) 1 (pair_blocks s r w) (pair_account r w) s b e
step_stop_append {s} {a} {b} {r} {q} {w} d i h k =
    let m = more_low s w d i.writer in
    let n = more_same h in
    let f = h.took.fewer in
    pairs_stops (pair_more s r w) (2 * one_more s w) 1 (omega arith) (omega arith) (omega arith)
    (omega arith) h k

-- or the last one.
pub step_stop_next : {s a b c : RigState} {r q : Reader} {w v : Writer} {ys : List Record}
    {e : EmFault} → 128 ≤ s.pool.shape.block → IsPair s r w
    → Pairs (w.blocks + r.blocks) s a r q w w [] []
    → Pairs (one_more a w + q.blocks) a b q q w v [] ys
    → Stops (v.blocks + q.blocks) (2 * v.blocks + 0) (min v.blocks 1 + 0) (pair_blocks b q v)
    (pair_account q v) b c e
    → Stops (pair_more s r w) (2 * one_more s w) 1 (pair_blocks s r w) (pair_account r w) s c e
step_stop_next {s} {a} {b} {c} {r} {q} {w} {v} d i h g k =
    let m = more_low s w d i.writer in
    let n = more_same h in
    let f = h.took.fewer in
    let o = g.runs.spends.held in
    pairs_stops (pair_more s r w) (2 * one_more s w) 1 (omega arith) (omega arith) (omega arith)
    (omega arith) (pairs_then [] [] [] _ h g) k

-- A call that needs no block gave up,
pub stops_unneeded : {s b : RigState} {low : Record} {r : Reader} {w : Writer} {e : EmFault}
    (a : RigState) → BlockCause a b e
    → Stops (pair_more s r w) (2 * one_more s w) 1 (pair_blocks s r w) (pair_account r w) s b e
    → StopsMoving s b low r w e
stops_unneeded {b = b} {e = e} a c h = record { stops = h; needs = full_never a b e _ c }

-- or the append of a record that is below the bound.
pub stops_needed : {s a b : RigState} {r q : Reader} {w : Writer} {x : Record} {e : EmFault}
    (low : Record) → Peeks s a r q x → is_below x low ≡ true
    → Stops (pair_more s r w) (2 * one_more s w) 1 (pair_blocks s r w) (pair_account r w) s b e
    → StopsMoving s b low r w e
stops_needed {e = e} low p x h = record { stops = h; needs = full_with e _ (peek_needs low p x) }

-- An append that needed a block found one that was free.
pub room_by : {p : ℕ} {s a : RigState} {r q : Reader} {w : Writer} → Sound s → Fetches s a r q
    → Pairs p s a r q w w [] [] → (NeedsBlock a w → a.used ≡ a.blocks → ⊥) → NeedsBlock s w
    → s.used < s.blocks
room_by {s = s} {a = a} {w = w} so f h free n =
    let b = ap (λ (c : Chain). c.blocks) f.rest in
    let na : NeedsBlock a w = rw (h.took.payload_is) n in
    ⊎_elim (λ (l : s.used < s.blocks). l)
    (λ (l : s.blocks ≤ s.used). absurd (free na (omega (
      arith,
      h.runs.spends.used,
      h.runs.session.touches.blocks,
      so.numbers.used_most,
      so.numbers.most_high,
    ))))
    (lt_or_le s.used s.blocks)

pub room_none : {s : RigState} → HadRoom s s 0
room_none = record { none = λ _. refl; some = λ l. absurd (omega arith) }

pub room_more : {p : ℕ} {s t u : RigState} {low : Record} {r q k : Reader} {w v j : Writer}
    {x : Record} (xs : List Record) → BeginsPart s r w → Moved p s t low r q w v xs
    → HadRoom s t (length xs) → MovedOne t u low q k v j x → HadRoom s u (length xs + 1)
room_more {s = s} {t = t} {v = v} xs b h a g = record {
  none = λ e. absurd (omega arith);
  some = λ _. ⊎_elim (λ (l : length xs < 1).
      let i = h.pairs.wrote in
      let d = h.pairs.runs.session.sound.shape.block_low in
      let y = blocks_least (payload_in t) v.blocks v.fill (omega arith)
      (λ e. i.is.last.fill_low (i.is.last.some e)) in
      let z : v.blocks ≡ 0 = omega (arith, y, i.filled_is, b.filled_is) in
      let f = g.room (inl z) in
      omega (arith, f, a.none (omega arith), h.pairs.runs.session.touches.blocks))
      (λ (l : 1 ≤ length xs). a.some (omega arith)) (lt_or_le (length xs) 1);
}

-- Steps, one after another: none yet,
pub moved_none : {s : RigState} {r : Reader} {w : Writer} (low : Record) → Sound s
    → BeginsPart s r w → Moved (r.blocks + 1) s s low r r w w []
moved_none low h b =
    let n = b.blocks in
    record {
      pairs = pairs_wider (omega arith) (pairs_none h b.pair);
      below = All-nil (λ (x : Record). is_below x low ≡ true);
    }

-- one more,
pub moved_then : {s t u : RigState} {low : Record} {r q p : Reader} {w v k : Writer}
    (xs ys : List Record) → 128 ≤ s.pool.shape.block → BeginsPart s r w
    → Moved (r.blocks + 1) s t low r q w v xs → Moved (pair_more t q v) t u low q p v k ys
    → Moved (r.blocks + 1) s u low r p w k (xs ++ ys)
moved_then {s} {t} {u} {low} {r} {q} {p} {w} {v} {k} xs ys d b h g =
    let m = pairs_room d b h.pairs (omega arith) in
    record {
      pairs = pairs_wider (omega arith) (pairs_then xs xs ys ys h.pairs g.pairs);
      below = All-append (λ (x : Record). is_below x low ≡ true) xs ys h.below g.below;
    }

-- the next one stands,
pub moved_stands : {s t u : RigState} {low : Record} {r q p : Reader} {w v k : Writer}
    (xs : List Record) → 128 ≤ s.pool.shape.block → BeginsPart s r w
    → Moved (r.blocks + 1) s t low r q w v xs → Stands (pair_more t q v) t u low q p v k []
    → Stands (r.blocks + 1) s u low r p w k xs
moved_stands {s} {t} {u} {low} {r} {q} {p} {w} {v} {k} xs d b h g = record {
  moved = subst (λ (l : List Record). Moved (r.blocks + 1) s u low r p w k l) (append-nil xs)
      (moved_then xs [] d b h g.moved);
  past = λ z. g.past (h.pairs.took.told ∙ z);
}

-- and what is left if the next step gave up.
pub moved_gave_up : {s t u : RigState} {low : Record} {r q : Reader} {w v : Writer} {e : EmFault}
    (xs : List Record) → Sound s → BeginsPart s r w → Moved (r.blocks + 1) s t low r q w v xs
    → StopsMoving t u low q v e → GaveUpAt s u low r e
moved_gave_up {s} {t} {u} {low} {r} {q} {e = e} xs so b h k = record {
  gave_up = pairs_gave_up so b h.pairs (omega arith) k.stops;
  needs = full_by e (IsTrue t.device.told → NeedsPart low (reader_items t q))
      (IsTrue s.device.told → NeedsPart low (reader_items s r))
      (λ f z. needs_before low xs (reader_items t q) (reader_items s r) h.below
      (h.pairs.took.items z) (f (h.pairs.took.told ∙ z))) k.needs;
}

-- A frame that was out stays out where another one was lent.
pub has_lent : (n len : ℕ) (p q : PoolCounts) → LentFrames n p q → HasFrames 1 len p
    → HasFrames 1 len q
has_lent n len p q e h = record {
  len_is = h.len_is ∙ ap (λ (x : ShapeNumbers). x.block) (sym e.shape);
  out = rw e.shape (let f = e.free in let o = h.out in omega arith);
}

-- Two frames were lent, and one came back.
lent_over : (p a b m e : PoolCounts) → LentFrames 1 p a → LentFrames 1 a b → SameFrames b m
    → GivenFrames 1 m e → LentFrames 1 p e
lent_over p a b m e x y z u = record {
  shape = u.shape ∙ z.shape ∙ y.shape ∙ x.shape;
  free = omega (arith, x.free, y.free, z.free, u.free);
  rack = u.rack ∙ z.rack ∙ y.rack ∙ x.rack;
  free_areas = u.free_areas ∙ z.free_areas ∙ y.free_areas ∙ x.free_areas;
  peak = omega (arith, x.peak, y.peak, z.peak, u.peak);
}

-- A reader of the chain was made, and stays as a writer is made.
reader_lent : {s a b : RigState} {c : Chain} {r : Reader} → Opens s a c true r → LendsFrame a b
    → ReaderStays a b r
reader_lent {s} {a} {b} {c} {r} o l =
    reader_stays [] a b r l.touches (λ z. apart_none (chain_blocks a (rest_of r)))
    (has_lent 1 (length r.frame) a.pool b.pool l.frames o.is.frame) o.is

part_items : {s a b : RigState} {c : Chain} {r : Reader} → LendsFrame s a → Opens s a c true r
    → LendsFrame a b → IsTrue s.device.told → reader_items b r ≡ chain_items s c
part_items l o k z = (reader_lent o k).items (l.touches.told ∙ z) ∙ o.items z

pub begins_part : (s a b : RigState) (c : Chain) (r : Reader) (w : Writer) → Opens s a c true r
    → LendsFrame a b → Begins b w → BeginsPart b r w
begins_part s a b c r w o l w0 =
    record {
      pair = record {
        reader = (reader_lent o l).is;
        writer = w0.is;
        taking = o.taking_is;
        apart = λ z. rw w0.held tt;
      };
      items = w0.items;
      held = w0.held;
      packed = w0.packed;
      count = w0.count;
      blocks = w0.blocks;
      filled_is = w0.filled_is;
    }

-- the frame of the writer, once that of the reader came back
pub writer_frame : (p a b m e : PoolCounts) (len : ℕ) → p.free ≤ singles_of p.shape
    → LentFrames 1 p a → LentFrames 1 a b → SameFrames b m → GivenFrames 1 m e
    → HasFrames 1 len m → HasFrames 1 len e
writer_frame p a b m e len w x y z u h = record {
  len_is = h.len_is ∙ ap (λ (v : ShapeNumbers). v.block) (sym u.shape);
  out =
      let sh : e.shape ≡ p.shape = u.shape ∙ z.shape ∙ y.shape ∙ x.shape in
      rw sh (let x1 = x.free in let y1 = y.free in let z1 = z.free in let u1 = u.free in
      omega arith);
}

-- What is known of a cut before the writer is finished: the reader and the writer were made, the
-- records were moved, and the reader was ended.
pub record Cut (s e : RigState) (c : Chain) (low : Record) (q : Reader) (w : Writer)
    (xs : List Record) : Type 0 where
  pub session : Session (chain_blocks s c) s e (pair_blocks e q w)
  pub spends : Spends (c.blocks + 1) (record {
    blocks = c.blocks;
    unstored = 0;
    paid = 0;
    owed = 2 * c.blocks;
  }) (pair_account q w) s e
  pub frames : LentFrames 1 s.pool e.pool
  pub rest : IsChain e (rest_of q)
  pub is : IsWriter e w
  pub taking : q.taking ≡ true
  pub items : IsTrue s.device.told → chain_items s c ≡ xs ++ reader_items e q
  pub written : IsTrue s.device.told → writer_items e w ≡ xs
  pub below : AllBelow low xs
  pub past : IsTrue s.device.told → IsPast low (reader_items e q)
  pub ends : IsTrue s.device.told → Ends (chain_blocks s c) (chain_blocks e (rest_of q))
  pub packed : IsTrue s.device.told → IsPackedSoFar e w
  pub tight : IsTrue s.device.told → IsTight s c → IsTight e (rest_of q)
  pub place_is : IsTrue s.device.told → IsTight s c → 0 < q.count
      → q.skip + payload_in s * c.blocks ≡ c.skip + w.count + payload_in s * q.blocks
  pub count : w.count + q.count ≡ c.count

pub cut_at : {s a b m e : RigState} {c : Chain} {low : Record} {r q : Reader} {w0 w : Writer}
    {xs : List Record} → IsChain s c → LendsFrame s a → Unmoved s a → Opens s a c true r
    → LendsFrame a b → Unmoved a b → Begins b w0 → Stands (r.blocks + 1) b m low r q w0 w xs
    → GivesFrame [] m e → Unmoved m e → (IsChain m (rest_of q) → ChainStays m e (rest_of q))
    → Cut s e c low q w xs
cut_at {s} {a} {b} {m} {e} {c} {low} {r} {q} {w0} {w} {xs} i l1 u1 o l2 u2 n h x ue stays =
    let p = h.moved.pairs in
    let st = stays (p.took.is.closed (p.took.taking ∙ o.taking_is)) in
    let td = l1.touches.told in
    let tb = l2.touches.told ∙ td in
    let tm = p.took.told ∙ tb in
    let rs = reader_lent o l2 in
    let eb = λ (z : IsTrue s.device.told).
    let y : chain_blocks b (rest_of r) ≡ chain_blocks s c = rs.blocks (td ∙ z) ∙ o.blocks z in
    y in
    let ws = writer_stays [] m e w x.touches (λ z. apart_none (writer_blocks m w))
    (writer_frame s.pool a.pool b.pool m.pool e.pool _ l1.within l1.frames l2.frames
    p.runs.frames x.frames p.wrote.is.frame) p.wrote.is in
    let sb : Session (chain_blocks s c) s b (pair_blocks b r w0) =
    session_as (pair_blocks b r w0) (session_still (chain_blocks s c) l2.sound
    (touches_then [] s a b l1.touches l2.touches) (λ z. (i.told z).holds))
    (λ z. rw (n.held, eb z) refl) in
    let sm = session_trans sb p.runs.session in
    let c1 = ap (λ (d : Chain). d.count) o.words in
    let c2 = ap (λ (d : Chain). d.blocks) o.words in
    let k = p.runs.spends in
    let e1 = u1.same.used in
    let e2 = u2.same.used in
    let e3 = ue.same.used in
    let m1 = u1.same.most in
    let m2 = u2.same.most in
    let m3 = ue.same.most in
    let v1 = u1.moves in
    let v2 = u2.moves in
    let v3 = ue.moves in
    let nb = n.blocks in
    record {
      session = session_as (pair_blocks e q w) (session_trans sm (session_still (pair_blocks m q w)
          x.sound x.touches (λ z. sm.holds (sym tm ∙ z))))
          (λ z. rw (ws.blocks (tm ∙ z), st.blocks (tm ∙ z)) refl);
      spends = record {
        held = omega (arith, k.held);
        used = omega (arith, k.used);
        most = omega (arith, k.most);
        moves = omega (arith, k.moves, o.owed_is);
        later = omega (arith, k.later);
        pays = record {
          is = ⊎_elim (λ (l : 2 ^ 64 - 1 ≤ m.moves). inl (omega arith))
              (λ (l : m.used + b.moves + (min w0.blocks 1 + 0) ≤ b.used + m.moves
              + (min w.blocks 1 + 0)). inr (omega arith)) k.pays.is;
        };
      };
      frames = lent_over s.pool a.pool b.pool m.pool e.pool l1.frames l2.frames p.runs.frames
          x.frames;
      rest = st.is;
      is = ws.is;
      taking = p.took.taking ∙ o.taking_is;
      items = λ z. sym (rs.items (td ∙ z) ∙ o.items z) ∙ p.took.items (tb ∙ z)
          ∙ ap (λ (l : List Record). xs ++ l) (sym (st.items (tm ∙ z)));
      written = λ z. ws.items (tm ∙ z) ∙ p.wrote.items (tb ∙ z)
          ∙ ap (λ (l : List Record). l ++ xs) n.items;
      below = h.moved.below;
      past = λ z. rw (st.items (tm ∙ z)) (h.past (tb ∙ z));
      ends = λ z. rw (st.blocks (tm ∙ z), sym (eb z)) (p.took.blocks (tb ∙ z));
      packed = λ z. ws.packed (tm ∙ z) (p.wrote.packed (tb ∙ z) n.packed);
      tight = λ z y. st.tight (tm ∙ z) (p.took.tight (tb ∙ z) (rs.tight (td ∙ z) (o.tight z y)));
      place_is = λ z y some.
          let here : q.skip + payload_in b * r.blocks ≡ r.skip + length xs + payload_in b * q.blocks =
          p.took.place_is (tb ∙ z) (rs.tight (td ∙ z) (o.tight z y)) some in
          let pb : payload_in b ≡ payload_in s =
          payload_kept [] s b (touches_then [] s a b l1.touches l2.touches) in
          let ps : q.skip + payload_in s * r.blocks ≡ r.skip + length xs + payload_in s * q.blocks =
          subst (λ (v : ℕ). q.skip + v * r.blocks ≡ r.skip + length xs + v * q.blocks) pb here in
          let cs : q.skip + payload_in s * c.blocks ≡ r.skip + length xs + payload_in s * q.blocks =
          subst (λ (v : ℕ). q.skip + payload_in s * v ≡ r.skip + length xs + payload_in s * q.blocks) c2
          ps in
          let k : r.skip ≡ c.skip = ap (λ (d : Chain). d.skip) o.words in
          omega (arith, cs, k, p.wrote.count_is, n.count);
      count = omega (arith, p.wrote.count_is, p.took.left_is, n.count);
    }

pub cut_goes : {s e f : RigState} {c : Chain} {low : Record} {q : Reader} {w : Writer}
    {xs : List Record} → Cut s e c low q w xs → GivesFrame (writer_blocks e w) e f
    → Goes (chain_blocks s c) s f
cut_goes {s} {e} {f} {c} {low} {q} {w} h y = record {
  sound = y.sound;
  touches = touches_within s e f (chain_blocks s c) (writer_blocks e w) h.session.touches
      (within_then s e (chain_blocks s c) (pair_blocks e q w) (writer_blocks e w) h.session.touches
      h.session.within (within_left e (writer_blocks e w) (chain_blocks e (rest_of q))))
      y.touches;
  frames = lent_given s.pool e.pool f.pool h.frames y.frames;
}

pub cut_parts : {s e f : RigState} {c : Chain} {low : Record} {q : Reader} {w : Writer}
    {xs : List Record} (d : Chain) → Cut s e c low q w xs
    → (IsTrue s.device.told → IsSorted record_cmp (chain_items s c))
    → GivesFrame (writer_blocks e w) e f → Finishes e f w d
    → Spends w.blocks (writer_account w) (chain_account (min w.blocks 1) d) e f
    → Parts s f c low d (rest_of q)
cut_parts {s} {e} {f} {c} {low} {q} {w} {xs} d h so y fi fc =
    let td = h.session.touches.told in
    let ks = writer_blocks e w in
    let js = chain_blocks e (rest_of q) in
    let st = chain_stays ks e f (rest_of q) y.touches (λ z. session_others ks js h.session (sym td
    ∙ z)) h.rest in
    let g : Session ks e f (chain_blocks f d) = record {
      sound = y.sound;
      touches = y.touches;
      within = within_kept e ks ks (chain_blocks f d) (within_same e ks) fi.blocks;
      holds = λ z. (fi.is.told (y.touches.told ∙ z)).holds;
    } in
    let v = session_as (chain_blocks f d ++ chain_blocks f (rest_of q))
    (session_then ks (chain_blocks f d) js h.session g) (λ z. rw (st.blocks (td ∙ z)) refl) in
    let k = spends_then h.spends (spends_beside (taking_account q) fc) in
    let first = λ (z : IsTrue s.device.told).
    let p : chain_items f d ≡ xs = fi.items (td ∙ z) ∙ h.written z in p in
    let second = λ (z : IsTrue s.device.told).
    let p : chain_items f (rest_of q) ≡ reader_items e q = st.items (td ∙ z) in p in
    let lo = owed_least q h.taking in
    record {
      first = fi.is;
      second = st.is;
      apart = λ z. distinct_apart (chain_blocks f d) (chain_blocks f (rest_of q))
          ((v.holds z).distinct (v.touches.told ∙ z));
      items = λ z. rw (first z, second z) (h.items z);
      below = λ z. subst (λ (ys : List Record). AllBelow low ys) (sym (first z)) h.below;
      others = λ z. subst (λ (ys : List Record). NoneBelow low ys) (sym (second z))
          (none_below_right low (chain_items s c) xs (reader_items e q) (so z) (h.items z)
          (h.past z));
      first_blocks = record {
        off = λ z j i o. off_left j (chain_blocks f d) (chain_blocks f (rest_of q))
            (v.within.off z j i o);
      };
      second_blocks = λ z. rw (st.blocks (td ∙ z)) (h.ends z);
      packed = λ z. fi.packed (td ∙ z) (h.packed z);
      tight = λ z y. st.tight (td ∙ z) (h.tight z y);
      place_is = λ z y some. omega (arith, h.place_is z y some, fi.count_is);
      count = omega (arith, h.count, fi.count_is);
      used = omega (arith, k.used);
      moves = omega (arith, k.moves);
      stored = owes_of_pays 0 0 0 k.pays (omega arith);
    }

never_by : {T : Type 0} (a b : RigState) (P : Type 0) (result : Result T EmFault)
    → IfErr result (DeviceCause a b) → IfErr result (λ e. IfFull e (λ _. P))
never_by a b P (Ok x) h = tt
never_by a b P (Err e) h = subst (λ (f : EmFault). IfFull f (λ _. P)) (sym h.is) tt

-- All records below the bound were moved: the cut is never refused as full any more.
pub fulls_never : {T : Type 0} {p : ℕ} {s a b m t : RigState} {c : Chain} {low : Record} {r q : Reader}
    {w0 w : Writer} (u v : RigState) (xs : List Record) (result : Result T EmFault) → LendsFrame s a
    → Unmoved s a → Opens s a c true r → LendsFrame a b → Unmoved a b
    → Stands p b m low r q w0 w xs → (0 < length xs → b.used < b.blocks)
    → IfErr result (DeviceCause u v) → FullsPart s t c low result
fulls_never {low = low} u v xs result l1 u1 o l2 u2 h room e = record {
  only = never_by u v _ result e;
  always = λ z sure full n.
      let zb = l2.touches.told ∙ l1.touches.told ∙ z in
      let x = h.moved.pairs.took in
      let i = sym (part_items l1 o l2 z) ∙ x.items zb in
      let k = room (some_moved low xs _ _ i n (h.past zb)) in
      absurd (omega (
        arith,
        k,
        full,
        u1.same.used,
        u2.same.used,
        l1.touches.blocks,
        l2.touches.blocks,
      ));
}

always_by : (held : List ℕ) (s t : RigState) (e : EmFault) → Touches held s t → Cause s t e
    → IsTrue s.device.told → (Rose s.device.faults t.device.faults → ⊥) → s.used ≡ s.blocks
    → e ≡ Full s.used
always_by held s t DeviceFault h c z sure u = absurd (sure c)
always_by held s t (Full n) h c z sure u = ap (λ (k : ℕ). Full k) (c.0 ∙ h.blocks ∙ sym u)
always_by held s t (Damaged k) h c z sure u = let f = c.0 in let d = h.told in cc

-- A step gave up.
pub fulls_gave_up : {T : Type 0} {s a b m e t : RigState} {c : Chain} {low : Record} {r : Reader}
    {f : EmFault} → LendsFrame s a → Unmoved s a → Opens s a c true r → LendsFrame a b
    → Unmoved a b → GaveUpAt b m low r f → Unmoved m e → Unmoved e t
    → FullsPart {T = T} s t c low (Err f)
fulls_gave_up {s = s} {b = b} {m = m} {t = t} {c = c} {low = low} {r = r} {f = f} l1 u1 o l2 u2 g x y =
    let told = λ (z : IsTrue s.device.told).
    let d : IsTrue b.device.told = l2.touches.told ∙ l1.touches.told ∙ z in d in
    record {
      only = full_by f (IsTrue b.device.told → NeedsPart low (reader_items b r))
          (IsTrue s.device.told → NeedsPart low (chain_items s c))
          (λ n z. subst (λ (l : List Record). NeedsPart low l) (part_items l1 o l2 z) (n (told z)))
          g.needs;
      always = λ z sure full n.
          let eb = ap (λ (d : DeviceState). d.faults) (u2.device ∙ u1.device) in
          let et = ap (λ (d : DeviceState). d.faults) (y.device ∙ x.device) in
          let never = λ (j : Rose b.device.faults m.device.faults).
          sure (subst (λ (n : ℕ). Rose n t.device.faults) eb
          (subst (λ (n : ℕ). Rose b.device.faults n) (sym et) j)) in
          let u = u2.same.used ∙ u1.same.used in
          let k = always_by (chain_blocks b (rest_of r)) b m f g.gave_up.goes.touches g.gave_up.cause (told z) never
          (omega (arith, u, full, l1.touches.blocks, l2.touches.blocks)) in
          ap (λ (v : EmFault). Err v) (k ∙ ap (λ (n : ℕ). Full n) u);
    }
