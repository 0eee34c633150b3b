-- Calls on writers and readers, one after another.
use Rattle.std.proofs.Common.{◌≡◌, ℕ, ◌+◌, ◌-◌, ◌*◌, ◌/◌, ◌<◌, ◌≤◌, min, List, [], ◌∷◌, ◌++◌, length, drop, refl, sym, ap, ◌∙◌, arith, append_assoc, IsTrue, Bool, true, false, if◌then◌else◌, inl, inr, ⊎_elim, Result, Ok, Err, OnOk}
use Rattle.std.proofs.lemmas.List.{append-nil, length-append}
use Rattle.std.proofs.lemmas.Nat.{div_below, le-div}
use Rattle.std.proofs.Math.Nat.{mul-add, mul_comm, div-mul-le_self}
use Rattle.em_record.specs.declared.record.Record.{Record}
use Rattle.em_space.specs.Ledger.{Costs}
use Rattle.em_space.specs.Rig.{RigState, Touches, Goes, IfFull}
use Rattle.em_space.specs.declared.fault.EmFault.{EmFault}
use Rattle.em_space.specs.declared.fault.EmFault.TheVariants.{DeviceFault, Full, Damaged}
use Rattle.em_space.proofs.Paying.{pays_first, pays_of_owes}
use Rattle.em_space.proofs.Steps.{touches_pool}
use Rattle.em_chain.specs.Chain.{payload_in, IsChain, IsTight, chain_blocks}
use Rattle.em_chain.specs.Counts.{ceiling}
use Rattle.em_chain.specs.Effects.{OnFull}
use Rattle.em_chain.specs.Reader.{IsReader, ReaderStays, rest_of, reader_items, owed}
use Rattle.em_chain.specs.Reads.{Fetches, Reads}
use Rattle.em_chain.specs.Session.{Wrote, Took, writer_account, one_more}
use Rattle.em_chain.specs.Writer.{IsWriter, WriterStays, NeedsBlock, writer_blocks, filled}
use Rattle.em_chain.specs.Writes.{Appends, AppendCosts}
use Rattle.em_chain.specs.declared.reader.Reader.{Reader}
use Rattle.em_chain.specs.declared.writer.Writer.{Writer}
use Rattle.em_chain.proofs.Counts.{blocks_by, writer_blocks_are}
use Rattle.em_chain.proofs.Keeps.{payload_kept}
use Rattle.em_chain.proofs.Readers.{one_less}
use Rattle.em_chain.proofs.Appending.{pos_of}

-- No call yet,
pub wrote_none : {s : RigState} {w : Writer} → IsWriter s w → Wrote s s w w []
wrote_none i = record {
  told = refl;
  is = i;
  items = λ z. sym (append-nil _);
  packed = λ z p. p;
  tight = λ z p. p;
  skip_is = refl;
  filled_is = omega arith;
  count_is = omega arith;
}

-- a call on another value,
pub wrote_stays : {s t : RigState} {w : Writer} → t.device.told ≡ s.device.told → WriterStays s t w
    → Wrote s t w w []
wrote_stays e h = record {
  told = e;
  is = h.is;
  items = λ z. h.items z ∙ sym (append-nil _);
  packed = h.packed;
  tight = h.tight;
  skip_is = refl;
  filled_is = omega (arith, h.filled_is);
  count_is = omega arith;
}

-- an append,
pub wrote_one : {s t : RigState} {w v : Writer} {x : Record} → t.device.told ≡ s.device.told
    → Appends s t w v x → Wrote s t w v (x ∷ [])
wrote_one e h = record {
  told = e;
  is = h.is;
  items = h.items;
  packed = h.packed;
  tight = h.tight;
  skip_is = h.skip_is;
  filled_is = h.filled_is;
  count_is = h.count_is;
}

-- and more of them.
pub wrote_then : {s t u : RigState} {w v k : Writer} (xs ys : List Record) → Wrote s t w v xs
    → Wrote t u v k ys → Wrote s u w k (xs ++ ys)
wrote_then {s} {t} {u} {w} {v} {k} xs ys h g =
    let n = length-append xs ys in
    record {
      told = g.told ∙ h.told;
      is = g.is;
      items = λ z. g.items (h.told ∙ z) ∙ ap (λ (l : List Record). l ++ ys) (h.items z)
          ∙ append_assoc _ xs ys;
      packed = λ z p. g.packed (h.told ∙ z) (h.packed z p);
      tight = λ z p. g.tight (h.told ∙ z) (h.tight z p);
      skip_is = g.skip_is ∙ h.skip_is;
      filled_is = omega (arith, h.filled_is, g.filled_is);
      count_is = omega (arith, h.count_is, g.count_is);
    }

-- The words are the same, and what the blocks hold.
took_by : {s t : RigState} {r q : Reader} (held : List ℕ) → Touches held s t → rest_of q ≡ rest_of r
    → q.taking ≡ r.taking → IsReader t q → (IsTrue s.device.told → reader_items t q ≡ reader_items s r)
    → (IsTrue s.device.told → chain_blocks t (rest_of q) ≡ chain_blocks s (rest_of r))
    → (IsTrue s.device.told → IsTight s (rest_of r) → IsTight t (rest_of q))
    → (IsChain s (rest_of r) → IsChain t (rest_of q)) → Took s t r q []
took_by {s} {t} {r} {q} held g rest taking is items blocks tight closed =
    let n = ap (λ c. c.count) rest in
    let b = ap (λ c. c.blocks) rest in
    let k = ap (λ c. c.skip) rest in
    record {
      told = g.told;
      payload_is = payload_kept held s t g;
      is = is;
      items = λ z. sym (items z);
      blocks = λ z. record { gone = []; is = sym (blocks z) };
      tight = tight;
      closed = closed;
      place_is = λ z p y. rw (b, k) (omega arith);
      left_is = omega arith;
      fewer = omega arith;
      place = rw (b, k) (omega arith);
      skip_is = inr k;
      none_left = λ f e. b ∙ f (sym n ∙ e);
      taking = taking;
    }

-- No call yet,
pub took_nothing : {s : RigState} {r : Reader} → IsReader s r → Took s s r r []
took_nothing {s} i = took_by [] (touches_pool s s.pool refl) refl refl i (λ z. refl) (λ z. refl)
    (λ z p. p) (λ k. k)

-- a call on another value,
pub took_stays : {s t : RigState} {r : Reader} (held : List ℕ) → Touches held s t
    → ReaderStays s t r → Took s t r r []
took_stays held g h = took_by held g refl refl h.is h.items h.blocks h.tight h.closed

-- a block that was loaded,
pub took_none : {s t : RigState} {r q : Reader} (held : List ℕ) → Touches held s t
    → Fetches s t r q → Took s t r q []
took_none held g h = took_by held g h.rest h.taking h.ready h.items h.blocks h.tight h.closed

-- a record,
pub took_one : {s t : RigState} {r q : Reader} {x : Record} (held : List ℕ) → Touches held s t
    → Reads s t r q x → Took s t r q (x ∷ [])
took_one {s} {t} {r} {q} {x} held g h = record {
  told = g.told;
  payload_is = payload_kept held s t g;
  is = h.is;
  items = h.items;
  blocks = h.blocks;
  tight = h.tight;
  closed = h.closed;
  place_is = h.place_is;
  left_is = h.count;
  fewer = h.fewer;
  place = h.place;
  skip_is = inl h.skip_fits;
  none_left = λ n e. h.none_left e;
  taking = h.taking;
}

-- the record that was seen before,
pub took_seen : {s t : RigState} {r q : Reader} {y : Record} (x : Record)
    → (IsTrue s.device.told → reader_items s r ≡ x ∷ drop 1 (reader_items s r))
    → Took s t r q (y ∷ []) → Took s t r q (x ∷ [])
took_seen {s} {t} {r} {q} {y} x e h = record {
  told = h.told;
  payload_is = h.payload_is;
  is = h.is;
  items = λ z. e z ∙ ap (λ (l : List Record). x ∷ drop 1 l) (h.items z);
  blocks = h.blocks;
  tight = h.tight;
  closed = h.closed;
  place_is = h.place_is;
  left_is = h.left_is;
  fewer = h.fewer;
  place = h.place;
  skip_is = h.skip_is;
  none_left = h.none_left;
  taking = h.taking;
}

-- and more of them.
pub took_then : {s t u : RigState} {r q p : Reader} (xs ys : List Record) → Took s t r q xs
    → Took t u q p ys → Took s u r p (xs ++ ys)
took_then {s} {t} {u} {r} {q} {p} xs ys h g =
    let n = length-append xs ys in
    let place = rw h.payload_is at g.place in
    record {
      told = g.told ∙ h.told;
      payload_is = g.payload_is ∙ h.payload_is;
      is = g.is;
      items = λ z. h.items z ∙ ap (λ (l : List Record). xs ++ l) (g.items (h.told ∙ z))
          ∙ sym (append_assoc xs ys _);
      blocks = λ z.
          let a = h.blocks z in
          let b = g.blocks (h.told ∙ z) in
          record {
            gone = a.gone ++ b.gone;
            is = a.is ∙ ap (λ (l : List ℕ). a.gone ++ l) b.is ∙ sym (append_assoc a.gone b.gone _);
          };
      tight = λ z p. g.tight (h.told ∙ z) (h.tight z p);
      closed = λ k. g.closed (h.closed k);
      place_is = λ z p y.
          let a = h.place_is z p (let l = g.left_is in omega arith) in
          let b = rw h.payload_is at (g.place_is (h.told ∙ z) (h.tight z p) y) in
          omega (arith, a, b, n);
      left_is = omega (arith, h.left_is, g.left_is);
      fewer = omega (arith, h.fewer, g.fewer);
      place = omega (arith, h.place, place, n);
      skip_is = ⊎_elim (λ (l : p.skip < payload_in t). inl (rw h.payload_is at l))
          (λ (e : p.skip ≡ q.skip). ⊎_elim (λ (l : q.skip < payload_in s). inl (omega arith))
          (λ (d : q.skip ≡ r.skip). inr (e ∙ d)) h.skip_is) g.skip_is;
      none_left = λ n e. g.none_left (h.none_left n) e;
      taking = g.taking ∙ h.taking;
    }

-- a block more, where one is needed
needs_more : (s : RigState) (w : Writer) → 128 ≤ s.pool.shape.block → IsWriter s w
    → NeedsBlock s w → w.blocks + 1 ≡ one_more s w
needs_more s w low i n = blocks_by (payload_in s) (w.blocks + 1) 1 (filled s w + 1) (omega arith)
    (⊎_elim (λ (e : w.blocks ≡ 0). let f = i.last.fill_none (i.last.none e) in
    let z : filled s w ≡ 0 = rw (e, f) (grind arith) in
    let q : w.blocks + 1 - 1 ≡ 0 = omega arith in
    rw (z, q) (grind arith))
    (λ (e : w.fill ≡ payload_in s).
    let some : 0 < w.blocks = pos_of w.blocks (λ b. let f = i.last.fill_none (i.last.none b) in
    absurd (omega arith)) in
    let l = one_less (payload_in s) w.blocks some in
    let q : w.blocks + 1 - 1 ≡ w.blocks = omega arith in
    rw q (omega arith)) n)
    (λ e. absurd (omega arith)) (λ e. omega arith) (omega arith)

full_only : (e : EmFault) (P Q : Type 0) → (P → Q) → OnFull e P → IfFull e (λ _. Q)
full_only DeviceFault P Q f h = tt
full_only (Full n) P Q f h = f h
full_only (Damaged k) P Q f h = tt

-- What an append costs: no more blocks than the records take.
pub append_costs : {T : Type 0} (s t : RigState) (w v : Writer) (x : Record)
    (result : Result T EmFault) → 128 ≤ s.pool.shape.block → Goes (writer_blocks s w) s t → IsWriter s w
    → OnOk result (Appends s t w v x) → AppendCosts s t w v result
    → Costs (one_more s w) (2 * one_more s w) (min w.blocks 1) (writer_account w)
    (writer_account v) s t result
append_costs s t w v x (Ok y) low g i a k =
    let low2 : 128 ≤ t.pool.shape.block = rw (ap (λ n. n.block) g.touches.shape) low in
    let m : v.blocks ≡ one_more s w = writer_blocks_are t v low2 a.is
    ∙ ap (λ (n : ℕ). ceiling n (payload_in t)) a.filled_is
    ∙ ap (λ (p : ℕ). ceiling (filled s w + 1) p) (payload_kept (writer_blocks s w) s t g.touches) in
    let c = a.count_is in
    let some : 0 < v.blocks = pos_of v.blocks (λ e. let n = a.is.last.none_count e in
    absurd (omega arith)) in
    record {
      held = omega arith;
      used = k.used;
      most = omega (arith, k.most, k.used, m);
      moves = omega (arith, k.moves);
      later = g.touches.moves;
      pays = pays_first w.blocks v.blocks k.owes_first k.owes some;
    }
append_costs s t w v x (Err e) low g i a k =
    let m = needs_more s w low i k.needs in
    record {
      used = omega (arith, k.used_err);
      full = full_only e (t.used ≡ s.used) (t.used + w.blocks < s.used + one_more s w)
          (λ h. omega (arith, h, m)) k.full;
      most = omega (arith, k.most, k.used_err);
      moves = omega (arith, k.moves_err);
      later = g.touches.moves;
      pays = pays_of_owes 0 (min w.blocks 1) (min w.blocks 1) k.owes_err (omega arith);
    }

-- more records take no fewer blocks
pub ceiling_rises : (m n p : ℕ) → 0 < p → m ≤ n → ceiling m p ≤ ceiling n p
ceiling_rises m n p pos h =
    let q = div-mul-le_self (m + p - 1) p in
    le-div ((m + p - 1) / p) (n + p - 1) p pos (omega arith)

-- a writer's blocks are no more with a record more
pub more_low : (s : RigState) (w : Writer) → 128 ≤ s.pool.shape.block → IsWriter s w
    → w.blocks ≤ one_more s w
more_low s w low i =
    let e = writer_blocks_are s w low i in
    let c = ceiling_rises (filled s w) (filled s w + 1) (payload_in s) (omega arith) (omega arith) in
    omega arith

-- As many records as were read take no more blocks than there were, but for one.
pub room_read : {s t : RigState} {r q : Reader} (xs : List Record) (n : ℕ)
    → 128 ≤ s.pool.shape.block → Took s t r q xs → n ≤ length xs
    → ceiling (n + 1) (payload_in s) + q.blocks ≤ r.blocks + 1
room_read {s} {t} {r} {q} xs n low k e =
    let p = payload_in s in
    let d = r.blocks - q.blocks in
    let f = k.fewer in
    let b : r.blocks ≡ q.blocks + d = omega arith in
    let m = mul-add p q.blocks d in
    let place = rw b at k.place in
    let m2 = mul-add p d 2 in
    let cm = mul_comm (d + 2) p in
    let lt : n + 1 + p - 1 < (d + 2) * p =
    ⊎_elim (λ (l : q.skip < p). omega arith) (λ (o : q.skip ≡ r.skip). omega arith) k.skip_is in
    let c = div_below (n + 1 + p - 1) p (d + 2) (omega arith) lt in
    omega arith

least_by : (n : ℕ) (loaded taking : Bool) → taking ≡ true
    → 2 * n ≤ (if taking then 2 * n else n) - (if loaded then 1 else 0) + 1
least_by n true taking e = rw e (omega arith)
least_by n false taking e = rw e (omega arith)

-- what a reader may still move is two for each block, or one fewer
pub owed_least : (r : Reader) → r.taking ≡ true → 2 * r.blocks ≤ owed r + 1
owed_least r e = least_by r.blocks r.loaded r.taking e

pub owed_most : (r : Reader) → r.taking ≡ true → owed r ≤ 2 * r.blocks
owed_most r e = rw e (omega arith)
