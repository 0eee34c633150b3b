-- Records that are written to a list by up to two calls, one after another.
use Rattle.std.proofs.Common.{◌≡◌, ℕ, ◌+◌, ◌*◌, ◌≤◌, min, List, [], ◌∷◌, ◌++◌, length, Result, Ok, Err, OnOk, IfErr, ap, arith}
use Rattle.std.proofs.lemmas.List.{length-append}
use Rattle.em_record.specs.declared.record.Record.{Record}
use Rattle.em_space.specs.Ledger.{Costs, Stops}
use Rattle.em_space.specs.Rig.{RigState, Sound, Goes, Cause}
use Rattle.em_space.specs.declared.fault.EmFault.{EmFault}
use Rattle.em_space.proofs.Runs.{runs_none, runs_of, runs_then, runs_wider, stops_after, stops_wider}
use Rattle.em_chain.specs.Chain.{payload_in}
use Rattle.em_chain.specs.Counts.{ceiling}
use Rattle.em_chain.specs.Session.{one_more, writer_account}
use Rattle.em_chain.specs.Writer.{IsWriter, filled, writer_blocks}
use Rattle.em_chain.specs.Writes.{Appends, AppendCosts}
use Rattle.em_chain.specs.declared.writer.Writer.{Writer}
use Rattle.em_chain.proofs.Keeps.{payload_kept}
use Rattle.em_chain.proofs.Sessions.{ceiling_rises, wrote_none, wrote_one, wrote_then}
use Rattle.em_chain.proofs.Withins.{within_grows}
use Rattle.em_queued.specs.Popped.{grown_blocks}
use Rattle.em_queued.proofs.Popped.{grown_low}
use Rattle.aig_order.specs.SweepCalls.{Puts, PutsTo}

-- No record,
pub put_none : {s : RigState} {w : Writer} → Sound s → IsWriter s w → Puts [] w w s s
put_none {s} {w} h i = record {
  runs = runs_none s (writer_blocks s w) (writer_account w) h (λ z. (i.told z).holds);
  wrote = wrote_none i;
  grows = omega arith;
  more = omega arith;
}

-- one,
pub put_one : {T : Type 0} {s t : RigState} {w v : Writer} {x : Record} (y : T)
    → Goes (writer_blocks s w) s t → Appends s t w v x → AppendCosts s t w v (Ok y)
    → Costs (one_more s w) (2 * one_more s w) (min w.blocks 1) (writer_account w) (writer_account v) s t (Ok y)
    → Puts (x ∷ []) w v s t
put_one {s = s} {t} {w} {v} y g a k h =
    let more = k.more in
    let used = k.used in
    let low = k.used_low in
    record {
      runs = runs_of (writer_blocks s w) (writer_blocks t v) g
          (within_grows s (writer_blocks s w) (writer_blocks t v) a.grown)
          (λ z. (a.is.told z).holds)
          (record {
            held = omega arith;
            used = h.used;
            most = omega (arith, k.most, k.used);
            moves = h.moves;
            later = h.later;
            pays = h.pays;
          });
      wrote = wrote_one g.touches.told a;
      grows = omega (arith, used, low);
      more = more;
    }

-- and more after others.
pub put_then : {xs ys : List Record} {s t u : RigState} {w v k : Writer} → Puts xs w v s t
    → Puts ys v k t u → Puts (xs ++ ys) w k s u
put_then {xs} {ys} {s} {t} {u} {w} {v} {k} h g =
    let n = length-append xs ys in
    record {
      runs = runs_wider (omega (arith, g.grows)) (runs_then h.runs g.runs);
      wrote = wrote_then xs ys h.wrote g.wrote;
      grows = omega (arith, h.grows, g.grows);
      more = omega (arith, h.more, g.more, n);
    }

-- The blocks of a list with more records are no fewer.
pub grown_rises : {s : RigState} (w : Writer) (m n : ℕ) → Sound s → m ≤ n
    → grown_blocks m s w ≤ grown_blocks n s w
grown_rises {s} w m n h l =
    let low = h.shape.block_low in
    ceiling_rises (filled s w + m) (filled s w + n) (payload_in s) (omega (arith, low))
    (omega (arith, l))

-- A list that some records were written to has the blocks with more of them that it had at first.
pub grown_on : {xs : List Record} {s t : RigState} {w v : Writer} (m n : ℕ) → Sound s
    → Puts xs w v s t → length xs + m ≤ n → grown_blocks m t v ≤ grown_blocks n s w
grown_on {xs} {s} {t} {w} {v} m n o h l =
    let low = o.shape.block_low in
    let p : payload_in t ≡ payload_in s = payload_kept (writer_blocks s w) s t h.runs.session.touches in
    let e = h.wrote.filled_is in
    let r : ceiling (filled t v + m) (payload_in s) ≤ ceiling (filled s w + n) (payload_in s) =
    ceiling_rises (filled t v + m) (filled s w + n) (payload_in s) (omega (arith, low))
    (omega (arith, e, l)) in
    let d = ap (λ (k : ℕ). ceiling (filled t v + m) k) p in
    omega (arith, r, d)

-- A call was refused: the first one, though more were to be written,
pub put_stops : {s t : RigState} (w : Writer) {fault : EmFault} (m n : ℕ) → Sound s → m ≤ n
    → Stops (grown_blocks m s w) (2 * grown_blocks m s w) 1 (writer_blocks s w) (writer_account w) s
    t fault
    → Stops (grown_blocks n s w) (2 * grown_blocks n s w) 1 (writer_blocks s w) (writer_account w) s
    t fault
put_stops w m n h l g =
    let e = grown_rises w m n h l in stops_wider e (omega (arith, e)) (omega arith) g

-- or one after others.
pub put_refused : {xs : List Record} {s t u : RigState} (w v : Writer) {fault : EmFault} (m n : ℕ)
    → Sound s → IsWriter s w → Puts xs w v s t → length xs + m ≤ n
    → Stops (grown_blocks m t v) (2 * grown_blocks m t v) 1 (writer_blocks t v) (writer_account v) t
    u fault
    → Stops (grown_blocks n s w) (2 * grown_blocks n s w) 1 (writer_blocks s w) (writer_account w) s
    u fault
put_refused {t = t} w v m n o i h l g =
    let e = grown_on m n o h l in
    let low : v.blocks ≤ grown_blocks m t v = grown_low m h.runs.session.sound h.wrote.is in
    stops_wider (omega (arith, e, low)) (omega (arith, e)) (omega arith) (stops_after h.runs g)

-- What an append did, by its result,
pub put_to : {T : Type 0} {s t : RigState} {w v : Writer} (x : Record) (result : Result T EmFault)
    → IsWriter s w → Goes (writer_blocks s w) s t → OnOk result (Appends s t w v x)
    → AppendCosts s t w v result
    → Costs (one_more s w) (2 * one_more s w) (min w.blocks 1) (writer_account w) (writer_account v) s t result
    → IfErr result (Cause s t) → PutsTo (x ∷ []) w v s t result
put_to x (Ok y) i g a k h c = put_one y g a k h
put_to x (Err e) i g a k h c =
    stops_wider (omega arith) (omega arith) (omega arith) (record { goes = g; halts = h; cause = c })

-- what one after another did,
pub put_both : {T : Type 0} {xs : List Record} (ys : List Record) {s t : RigState} (u : RigState)
    (w v k : Writer) (result : Result T EmFault) → Sound s → IsWriter s w → Puts xs w v s t
    → PutsTo ys v k t u result → PutsTo (xs ++ ys) w k s u result
put_both ys u w v k (Ok e) o i h g = put_then h g
put_both {xs = xs} ys u w v k (Err e) o i h g =
    put_refused w v (length ys) (length (xs ++ ys)) o i h
    (let n = length-append xs ys in omega (arith, n)) g

-- and the first of two, which was refused.
pub put_first : (xs ys : List Record) {s t : RigState} (w : Writer) {fault : EmFault} → Sound s
    → Stops (grown_blocks (length xs) s w) (2 * grown_blocks (length xs) s w) 1 (writer_blocks s w)
    (writer_account w) s t fault
    → Stops (grown_blocks (length (xs ++ ys)) s w) (2 * grown_blocks (length (xs ++ ys)) s w) 1
    (writer_blocks s w) (writer_account w) s t fault
put_first xs ys w o g =
    put_stops w (length xs) (length (xs ++ ys)) o
    (let n = length-append xs ys in omega (arith, n)) g
