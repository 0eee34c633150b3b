-- Records that are added to a writer, one call after another.
use Rattle.std.proofs.Common.{◌≡◌, ℕ, ◌+◌, ◌*◌, ◌≤◌, min, List, [], ◌∷◌, ◌++◌, length, refl, ap, sym, ◌∙◌, subst, arith, IsTrue, Ok, Err, Result, OnOk, IfErr}
use Rattle.std.proofs.lemmas.List.{length-append}
use Rattle.std.specs.Result.{IsErrAnd}
use Rattle.em_record.specs.declared.record.Record.{Record}
use Rattle.em_space.specs.Ledger.{Costs}
use Rattle.em_space.specs.Rig.{RigState, Sound, Goes, Cause, BlockCause}
use Rattle.em_space.specs.declared.fault.EmFault.{EmFault}
use Rattle.em_space.proofs.Within.{within_apart}
use Rattle.em_chain.specs.Chain.{ChainStays, chain_blocks}
use Rattle.em_chain.specs.Effects.{LendsFrame, GivesFrame, Unmoved}
use Rattle.em_chain.specs.Session.{Writes, writer_account, one_more}
use Rattle.em_chain.specs.Writer.{IsWriter, writer_blocks}
use Rattle.em_chain.specs.Writes.{Appends, AppendCosts}
use Rattle.em_chain.specs.declared.chain.Chain.{Chain}
use Rattle.em_chain.specs.declared.writer.Writer.{Writer}
use Rattle.em_chain.proofs.Laws.{chain_stays}
use Rattle.em_chain.proofs.Writings.{stops_append, stops_lent, stops_looked, writes_filled, writes_lent, writes_looked, writes_none, writes_one, writes_stops, writes_then}
use Rattle.em_plain.specs.Adds.{Adds, AddsBeside, AddsTo, IsAdding, StopsAdding}
use Rattle.em_plain.specs.Looks.{Looks}

pub adding_writes : {s t : RigState} {w v : Writer} {xs : List Record} → IsAdding s w
    → Writes s t w v xs → IsAdding t v
adding_writes i h = record {
  writer = h.wrote.is;
  filled_is = writes_filled h i.filled_is;
  held = omega (arith, i.held, h.runs.spends.used);
}

-- No call yet,
pub adds_none : {s : RigState} {w : Writer} → Sound s → IsWriter s w → Adds 0 s s w w []
adds_none h i = record {
  written = [];
  told = λ z. refl;
  few = omega arith;
  writes = writes_none h i;
}

-- a look,
pub adds_looked : {s t : RigState} {w : Writer} → IsWriter s w → Looks s t → Adds 0 s t w w []
adds_looked i l = record {
  written = [];
  told = λ z. refl;
  few = omega arith;
  writes = writes_looked i l.goes l.used l.most;
}

-- and more records.
pub adds_then : {m n : ℕ} {s t u : RigState} {w v k : Writer} {xs ys : List Record}
    → Adds m s t w v xs → Adds n t u v k ys → Adds (m + n) s u w k (xs ++ ys)
adds_then {m} {n} {s} {t} {u} {w} {v} {k} {xs} {ys} a b =
    let l = length-append a.written b.written in
    record {
      written = a.written ++ b.written;
      told = λ z. rw (a.told z, b.told (a.writes.wrote.told ∙ z)) refl;
      few = omega (arith, a.few, b.few, l);
      writes = writes_then a.written b.written a.writes b.writes;
    }

pub stops_then : {m n : ℕ} {s t u : RigState} {w v : Writer} {xs ys : List Record} {e : EmFault}
    → Adds m s t w v xs → StopsAdding n t u v ys e → StopsAdding (m + n) s u w (xs ++ ys) e
stops_then {m} {n} {s} {t} {u} {w} {v} {xs} {ys} {e} a b =
    let l = length-append xs ys in
    record {
      tried = length a.written + b.tried;
      told = λ z.
          let p = b.told (a.writes.wrote.told ∙ z) in
          let q = ap (λ (zs : List Record). length zs) (a.told z) in
          omega (arith, p, q, l);
      few = omega (arith, a.few, b.few);
      stops = writes_stops b.tried a.written a.writes b.stops;
    }

-- More at most, and if the device tells the same records.
pub adds_as : {m : ℕ} {s t : RigState} {w v : Writer} {xs : List Record} (n : ℕ)
    (ys : List Record) → m ≤ n → (IsTrue s.device.told → xs ≡ ys) → Adds m s t w v xs
    → Adds n s t w v ys
adds_as n ys l e a = record {
  written = a.written;
  told = λ z. a.told z ∙ e z;
  few = omega (arith, l, a.few);
  writes = a.writes;
}

pub stops_as : {m : ℕ} {s t : RigState} {w : Writer} {xs : List Record} {e : EmFault} (n : ℕ)
    (ys : List Record) → m ≤ n → (IsTrue s.device.told → length xs ≤ length ys)
    → StopsAdding m s t w xs e → StopsAdding n s t w ys e
stops_as n ys l e a = record {
  tried = a.tried;
  told = λ z. let p = a.told z in let q = e z in omega (arith, p, q);
  few = omega (arith, l, a.few);
  stops = a.stops;
}

pub adds_to_as : {T : Type 0} (m n : ℕ) (s t : RigState) (w v : Writer) (xs ys : List Record)
    (result : Result T EmFault) → m ≤ n → (IsTrue s.device.told → xs ≡ ys)
    → AddsTo m s t w v xs result → AddsTo n s t w v ys result
adds_to_as m n s t w v xs ys (Ok x) l e a = adds_as n ys l e a
adds_to_as m n s t w v xs ys (Err f) l e a =
    stops_as n ys l (λ z. let q = ap (λ (zs : List Record). length zs) (e z) in omega (arith, q)) a

-- A look, and then a call that adds.
pub looked_adds : {T : Type 0} (m : ℕ) (s t u : RigState) (w v : Writer) (ys : List Record)
    (result : Result T EmFault) → IsWriter s w → Looks s t → AddsTo m t u w v ys result
    → AddsTo m s u w v ys result
looked_adds m s t u w v ys (Ok x) i l a =
    adds_as m ys (omega arith) (λ z. refl) (adds_then (adds_looked i l) a)
looked_adds m s t u w v ys (Err f) i l a =
    stops_as m ys (omega arith) (λ z. omega arith) (stops_then (adds_looked i l) a)

-- An append, by its result.
pub adds_append : {T : Type 0} {s t : RigState} {w v : Writer} (x : Record)
    (result : Result T EmFault) → Goes (writer_blocks s w) s t → OnOk result (Appends s t w v x)
    → AppendCosts s t w v result
    → Costs (one_more s w) (2 * one_more s w) (min w.blocks 1) (writer_account w) (writer_account v) s t
    result → IfErr result (Cause s t) → AddsTo 1 s t w v (x ∷ []) result
adds_append x (Ok y) g a k h c = record {
  written = x ∷ [];
  told = λ z. refl;
  few = omega arith;
  writes = writes_one y g a k h;
}
adds_append x (Err e) g a k h c = record {
  tried = 1;
  told = λ z. omega arith;
  few = omega arith;
  stops = stops_append g h c;
}

-- A call gave up that only looked.
pub stops_by_look : {s t : RigState} {w : Writer} {e : EmFault} (n : ℕ) (xs : List Record)
    → Sound s → IsWriter s w → Looks s t → BlockCause s t e → StopsAdding n s t w xs e
stops_by_look n xs h i l c = record {
  tried = 0;
  told = λ z. omega arith;
  few = omega arith;
  stops = stops_looked h i l.goes l.used l.most c;
}

-- what the fault of a callee says of the result
pub adds_err : {T : Type 0} (m : ℕ) (s t : RigState) (w v : Writer) (xs : List Record)
    (result : Result T EmFault) (e : EmFault) → IsErrAnd result (λ f. f ≡ e)
    → StopsAdding m s t w xs e → AddsTo m s t w v xs result
adds_err m s t w v xs (Ok x) e h a = absurd h
adds_err m s t w v xs (Err f) e h a =
    subst (λ (n : EmFault). StopsAdding m s t w xs n) (sym h) a

-- Calls while a frame was lent.
pub adds_lent : {T : Type 0} (m : ℕ) (s a b t : RigState) (w v : Writer) (xs ys : List Record)
    (result : Result T EmFault) → IsWriter s w → LendsFrame s a → Unmoved s a
    → AddsTo m a b w v xs result → GivesFrame [] b t → Unmoved b t
    → (IsTrue s.device.told → xs ≡ ys) → AddsTo m s t w v ys result
adds_lent m s a b t w v xs ys (Ok r) i l x h g y e = record {
  written = h.written;
  told = λ z. h.told (l.touches.told ∙ z) ∙ e z;
  few = h.few;
  writes = writes_lent i l x h.writes g y;
}
adds_lent m s a b t w v xs ys (Err r) i l x h g y e = record {
  tried = h.tried;
  told = λ z. let p = h.told (l.touches.told ∙ z) in
      let q = ap (λ (zs : List Record). length zs) (e z) in omega (arith, p, q);
  few = h.few;
  stops = stops_lent i l x h.stops g y;
}

-- The chain beside a writer stays.
pub beside_stays : {m : ℕ} {s t : RigState} {c : Chain} {w v : Writer} {xs : List Record}
    → AddsBeside s c w → Adds m s t w v xs → ChainStays s t c
beside_stays {s = s} {t = t} {c = c} {w = w} b a =
    chain_stays (writer_blocks s w) s t c a.writes.runs.session.touches b.apart b.chain

pub beside_added : {m : ℕ} {s t : RigState} {c : Chain} {w v : Writer} {xs : List Record}
    → AddsBeside s c w → Adds m s t w v xs → AddsBeside t c v
beside_added {s = s} {t = t} {c = c} {w = w} {v = v} b a =
    let k = beside_stays b a in
    let h = a.writes.runs.session in
    record {
      chain = k.is;
      writer = adding_writes b.writer a.writes;
      apart = λ y.
          let z : IsTrue s.device.told = sym h.touches.told ∙ y in
          rw (k.blocks z) (within_apart s (writer_blocks s w) (writer_blocks t v)
          (chain_blocks s c) z h.within (b.chain.told z).holds.in_use (b.apart z));
    }
