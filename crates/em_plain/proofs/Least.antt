-- All records of a list but the least one are written anew, one after another.
use Rattle.std.proofs.Common.{◌≡◌, ◌+◌, ◌*◌, ◌≤◌, min, List, [], ◌∷◌, ◌++◌, length, refl, sym, ap, ◌∙◌, subst, arith, IsTrue, true, false, ⊎_elim, Some, None, Result, Ok, Err}
use Rattle.std.proofs.lemmas.Bool.{cases_Bool}
use Rattle.std.proofs.lemmas.List.{length_push}
use Rattle.std.specs.Ordering.{ord_max, ord_min}
use Rattle.std.specs.Result.{IsErrAnd}
use Rattle.em_record.specs.Order.{record_cmp, is_below, IsAscending, with_record, in_order}
use Rattle.em_record.specs.declared.record.Record.{Record}
use Rattle.em_record.proofs.Order.{with_least, order_push, order_ascends}
use Rattle.em_space.specs.Ledger.{Stops}
use Rattle.em_space.specs.Rig.{RigState, Sound}
use Rattle.em_space.specs.declared.fault.EmFault.{EmFault}
use Rattle.em_space.proofs.Runs.{stops_wider}
use Rattle.em_chain.specs.Parts.{IsPair, BeginsPart, GaveUp, pair_more}
use Rattle.em_chain.specs.Reader.{IsReader, reader_items}
use Rattle.em_chain.specs.Reads.{AtEnd}
use Rattle.em_chain.specs.Session.{Pairs, pair_blocks, pair_account, one_more}
use Rattle.em_chain.specs.Writer.{IsWriter}
use Rattle.em_chain.specs.declared.reader.Reader.{Reader}
use Rattle.em_chain.specs.declared.writer.Writer.{Writer}
use Rattle.em_chain.proofs.Pairs.{more_same, pairs_gave_up, pairs_none, pairs_room, pairs_stops, pairs_then, pairs_wider}
use Rattle.em_chain.proofs.Readers.{length_left}
use Rattle.em_chain.proofs.Sessions.{more_low}
use Rattle.em_plain.specs.Least.{Passes, PassesOne, Passed}

-- Of the least record and another one the lesser stays, and the other one goes among the rest.
pub least_step : (least x : Record) (ys : List Record) → IsAscending (least ∷ ys)
    → with_record x (least ∷ ys)
    ≡ ord_min record_cmp x least ∷ with_record (ord_max record_cmp x least) ys
least_step least x ys h = ⊎_elim
    (λ (t : is_below least x ≡ true). rw t refl)
    (λ (f : is_below least x ≡ false). rw f (ap (λ (zs : List Record). x ∷ zs)
    (sym (with_least least ys h.0))))
    (cases_Bool (is_below least x))

least_more : (xs ys : List Record) (least x : Record) → in_order xs ≡ least ∷ in_order ys
    → in_order (xs ++ x ∷ [])
    ≡ ord_min record_cmp x least ∷ in_order (ys ++ ord_max record_cmp x least ∷ [])
least_more xs ys least x e =
    order_push xs x ∙ ap (λ (zs : List Record). with_record x zs) e
    ∙ least_step least x (in_order ys)
    (subst (λ (zs : List Record). IsAscending zs) e (order_ascends xs))
    ∙ ap (λ (zs : List Record). ord_min record_cmp x least ∷ zs)
    (sym (order_push ys (ord_max record_cmp x least)))

-- One step: a record was read, and one was written.
pub one_passed : {s a b : RigState} {r q : Reader} {w v : Writer} {x y : Record}
    → 128 ≤ s.pool.shape.block → IsPair s r w
    → Pairs (w.blocks + r.blocks) s a r q w w (x ∷ []) []
    → Pairs (one_more a w + q.blocks) a b q q w v [] (y ∷ [])
    → Pairs (pair_more s r w) s b r q w v (x ∷ []) (y ∷ [])
one_passed {s} {a} {b} {r} {q} {w} {v} {x} {y} d i h g =
    let m = more_low s w d i.writer in
    let n = more_same h in
    let f = h.took.fewer in
    pairs_wider (omega arith) (pairs_then (x ∷ []) [] [] (y ∷ []) h g)

-- The first one gave up, or the second one.
pub one_stops_first : (s t : RigState) (r q : Reader) (w v : Writer) (least : Record)
    (result : Result Record EmFault) (e : EmFault) → IsErrAnd result (λ f. f ≡ e)
    → 128 ≤ s.pool.shape.block → IsWriter s w
    → Stops (w.blocks + r.blocks) (2 * w.blocks + 0) (min w.blocks 1 + 0) (pair_blocks s r w)
    (pair_account r w) s t e → PassesOne s t r q w v least result
one_stops_first s t r q w v least (Ok y) e k d i h = absurd k
one_stops_first s t r q w v least (Err f) e k d i h =
    let m = more_low s w d i in
    subst (λ (n : EmFault). PassesOne s t r q w v least (Err n)) (sym k)
    (stops_wider (omega arith) (omega arith) (omega arith) h)

pub one_stops : (s a t : RigState) (r q p : Reader) (w v : Writer) (least x : Record)
    (result : Result Record EmFault) (e : EmFault) → IsErrAnd result (λ f. f ≡ e)
    → 128 ≤ s.pool.shape.block → IsPair s r w
    → Pairs (w.blocks + r.blocks) s a r q w w (x ∷ []) []
    → Stops (one_more a w + q.blocks) (2 * one_more a w + 0) (min w.blocks 1 + 0)
    (pair_blocks a q w) (pair_account q w) a t e → PassesOne s t r p w v least result
one_stops s a t r q p w v least x (Ok y) e k d i h g = absurd k
one_stops s a t r q p w v least x (Err f) e k d i h g =
    let m = more_low s w d i.writer in
    let n = more_same h in
    let l = h.took.fewer in
    subst (λ (n : EmFault). PassesOne s t r p w v least (Err n)) (sym k)
    (pairs_stops (pair_more s r w) (2 * one_more s w) 1 (omega arith) (omega arith) (omega arith)
    (omega arith) h g)

-- The first record is the least so far,
pub pass_first : {s t : RigState} {r q : Reader} {w : Writer} {x : Record} → BeginsPart s r w
    → Pairs (w.blocks + r.blocks) s t r q w w (x ∷ []) [] → Passes s t r q w w x
pass_first {x = x} b h =
    let n = b.blocks in
    record {
      read = x ∷ [];
      written = [];
      pairs = pairs_wider (omega arith) h;
      held = omega arith;
      order = refl;
    }

-- and then the lesser one of it and the next.
pub pass_more : {s t u : RigState} {r q p : Reader} {w v k : Writer} {least y : Record}
    → 128 ≤ s.pool.shape.block → BeginsPart s r w → Passes s t r q w v least
    → PassesOne t u q p v k least (Ok y) → Passes s u r p w k y
pass_more {s} {t} {u} {r} {q} {p} {w} {v} {k} {least} {y} d b h g =
    let x = g.0 in
    let z = ord_max record_cmp x least in
    let l = h.held in
    let m = pairs_room d b h.pairs (omega arith) in
    let n1 = length_push h.read x in
    let n2 = length_push h.written z in
    record {
      read = h.read ++ x ∷ [];
      written = h.written ++ z ∷ [];
      pairs = pairs_wider (omega arith)
          (pairs_then h.read h.written (x ∷ []) (z ∷ []) h.pairs g.2);
      held = omega arith;
      order = rw g.1 (least_more h.read h.written least x h.order);
    }

-- A step gave up.
pub pass_stops : {s t u : RigState} {r q : Reader} {w v : Writer} {least : Record} {e : EmFault}
    → Sound s → BeginsPart s r w → Passes s t r q w v least
    → Stops (pair_more t q v) (2 * one_more t v) 1 (pair_blocks t q v) (pair_account q v) t u e
    → GaveUp s u r e
pass_stops so b h k = let l = h.held in pairs_gave_up so b h.pairs (omega arith) k

-- There was no record,
pub passed_none : (s t : RigState) (r q : Reader) (w : Writer) → Sound s → BeginsPart s r w
    → AtEnd s t r q → Passed s t r q w w None
passed_none s t r q w h b e = subst (λ (u : RigState). Passed s u r q w w None) (sym e.rig)
    (subst (λ (p : Reader). Passed s s r p w w None) (sym e.same)
    (let n = b.blocks in record {
      read = [];
      written = [];
      pairs = pairs_wider (omega arith) (pairs_none h b.pair);
      held = omega arith;
      order = refl;
      all_read = e.count;
      none = e.count;
    }))

-- or all were read.
pub passed_some : {s t : RigState} {r q : Reader} {w v : Writer} {least : Record}
    → Passes s t r q w v least → q.count ≡ 0 → Passed s t r q w v (Some least)
passed_some h e = record {
  read = h.read;
  written = h.written;
  pairs = h.pairs;
  held = h.held;
  order = h.order;
  all_read = e;
  none = tt;
}

nil_of : (xs : List Record) → length xs ≡ 0 → xs ≡ []
nil_of [] e = refl
nil_of (x ∷ xs) e = absurd (omega arith)

pub none_read : (s : RigState) (r : Reader) → IsReader s r → IsTrue s.device.told → r.count ≡ 0
    → reader_items s r ≡ []
none_read s r i z e = nil_of (reader_items s r) (length_left s r i z ∙ e)
