-- Records that are read and written, one after another.
use Rattle.std.proofs.Common.{◌≡◌, ℕ, ◌+◌, ◌*◌, ◌<◌, ◌≤◌, ◌^◌, min, List, [], ◌∷◌, ◌++◌, length, Result, Ok, Err, OnOk, IfErr, ap, ap₂, refl, sym, ◌∙◌, subst, arith}
use Rattle.em_record.specs.declared.record.Record.{Record}
use Rattle.em_space.specs.Ledger.{Costs, Halts, Spends}
use Rattle.em_space.specs.Rig.{RigState, Sound, Goes, Cause, BlockCause}
use Rattle.em_space.specs.declared.fault.EmFault.{EmFault}
use Rattle.em_space.proofs.Runs.{stops_wider}
use Rattle.em_chain.specs.Chain.{payload_in}
use Rattle.em_chain.specs.Counts.{ceiling}
use Rattle.em_chain.specs.Reader.{reader_blocks}
use Rattle.em_chain.specs.Session.{Pairs, one_more, taking_account, writer_account}
use Rattle.em_chain.specs.Writer.{filled, writer_blocks}
use Rattle.em_chain.specs.Writes.{Appends}
use Rattle.em_chain.specs.declared.reader.Reader.{Reader}
use Rattle.em_chain.specs.declared.writer.Writer.{Writer}
use Rattle.em_chain.proofs.Counts.{writer_blocks_are}
use Rattle.em_chain.proofs.Pairs.{more_same, pairs_appends, pairs_is, pairs_none, pairs_stop_append, pairs_stop_next, pairs_stops, pairs_then, pairs_wider}
use Rattle.em_chain.proofs.Sessions.{ceiling_rises, more_low}
use Rattle.aig_edges.specs.Copies.{AreCopied, CopiesNext, CopiesOn, StopsWritingAnew, copied_from, copied_item}
use Rattle.aig_edges.specs.declared.copying.Copied.{Copied}
use Rattle.aig_edges.proofs.Advances.{list_room}

-- what is written for two lists, one after the other
copied_append : (kind : Copied) (j : ℕ) (xs ys : List Record)
    → copied_from kind j (xs ++ ys) ≡ copied_from kind j xs ++ copied_from kind (j + length xs) ys
copied_append kind j [] ys =
    let e : j ≡ j + 0 = omega arith in ap (λ (k : ℕ). copied_from kind k ys) e
copied_append kind j (x ∷ xs) ys =
    let e : (j + 1) + length xs ≡ j + length (x ∷ xs) = omega arith in
    ap (λ (rs : List Record). copied_item kind j x ∷ rs)
    (copied_append kind (j + 1) xs ys
    ∙ ap (λ (k : ℕ). copied_from kind (j + 1) xs ++ copied_from kind k ys) e)

copied_length : (kind : Copied) (j : ℕ) (xs : List Record)
    → length (copied_from kind j xs) ≡ length xs
copied_length kind j [] = refl
copied_length kind j (x ∷ xs) = let e = copied_length kind (j + 1) xs in omega (arith, e)

-- Nothing was done,
pub copies_none : (kind : Copied) (j : ℕ) {s : RigState} {r : Reader} {w : Writer} → AreCopied s r w
    → CopiesOn kind j 0 s s r r w w
copies_none kind j i = record {
  items = [];
  count_is = refl;
  pairs = pairs_wider (omega arith) (pairs_none i.sound i.pair);
  grows = omega arith;
}

-- what a writer has that has one record more
grown : {s t : RigState} {w v : Writer} {x : Record} → Sound t → payload_in t ≡ payload_in s
    → Appends s t w v x → v.blocks ≡ one_more s w
grown {s} {t} {w} {v} h same a = writer_blocks_are t v h.shape.block_low a.is
    ∙ ap₂ ceiling a.filled_is same

-- one was read and written,
pub copies_one : (kind : Copied) (j : ℕ) {s m t : RigState} {r q : Reader} {w v : Writer}
    {x y : Record} → AreCopied s r w → Pairs (w.blocks + r.blocks) s m r q w w (x ∷ []) []
    → y ≡ copied_item kind j x → Goes (writer_blocks m w) m t → Appends m t w v y
    → Spends (one_more m w) (writer_account w) (writer_account v) m t
    → CopiesOn kind j 1 s t r q w v
copies_one kind j {s} {m} {t} {r} {q} {w} {v} {x} {y} i h e g a k =
    let o = pairs_is i.pair.taking h in
    let b = pairs_appends o g a k in
    let size : v.blocks ≡ one_more m w = grown g.sound b.took.payload_is a in
    let low = more_low m w h.runs.session.sound.shape.block_low o.writer in
    let fewer = h.took.fewer in
    record {
      items = x ∷ [];
      count_is = refl;
      pairs = subst (λ (z : Record). Pairs (r.blocks + v.blocks) s t r q w v (x ∷ []) (z ∷ [])) e
          (pairs_wider (omega (arith, size, low, fewer)) (pairs_then (x ∷ []) [] [] (y ∷ []) h b));
      grows = omega (arith, size, low);
    }

length_both : (xs ys : List Record) {m n : ℕ} → length xs ≡ m → length ys ≡ n
    → length (xs ++ ys) ≡ m + n
length_both [] ys e f = omega (arith, e, f)
length_both (x ∷ xs) ys e f = let rest = length_both xs ys refl f in omega (arith, rest, e)

-- and more after them.
pub copies_then : (kind : Copied) {a b : ℕ} {s t u : RigState} {r q p : Reader} {w v k : Writer}
    → CopiesOn kind 0 a s t r q w v → CopiesOn kind a b t u q p v k
    → CopiesOn kind 0 (a + b) s u r p w k
copies_then kind {a} {b} {s} {t} {u} {r} {q} {p} {w} {v} {k} h g =
    let m = h.count_is in
    let fewer = h.pairs.took.fewer in
    let grows = g.grows in
    let place : a ≡ 0 + length h.items = omega (arith, m) in
    let all : copied_from kind 0 h.items ++ copied_from kind a g.items
    ≡ copied_from kind 0 (h.items ++ g.items) =
    ap (λ (i : ℕ). copied_from kind 0 h.items ++ copied_from kind i g.items) place
    ∙ sym (copied_append kind 0 h.items g.items) in
    record {
      items = h.items ++ g.items;
      count_is = length_both h.items g.items m g.count_is;
      pairs = subst (λ (rs : List Record).
          Pairs (r.blocks + k.blocks) s u r p w k (h.items ++ g.items) rs) all
          (pairs_wider (omega (arith, fewer, grows))
          (pairs_then h.items (copied_from kind 0 h.items) g.items (copied_from kind a g.items)
          h.pairs g.pairs));
      grows = let l = h.grows in omega (arith, l, grows);
    }

-- As many records are left or written.
pub copies_count : {kind : Copied} {j n : ℕ} {s t : RigState} {r q : Reader} {w v : Writer}
    → CopiesOn kind j n s t r q w v → v.count + q.count ≡ w.count + r.count
copies_count {kind} {j} h =
    let left = h.pairs.took.left_is in
    let wrote = h.pairs.wrote.count_is in
    let same = copied_length kind j h.items in
    omega (arith, left, wrote, same)

pub still_copied : {kind : Copied} {j n : ℕ} {s t : RigState} {r q : Reader} {w v : Writer}
    → AreCopied s r w → CopiesOn kind j n s t r q w v → AreCopied t q v
still_copied {t = t} i h = record {
  sound = h.pairs.runs.session.sound;
  free = rw (h.pairs.runs.frames.free) (i.free);
  pair = pairs_is i.pair.taking h.pairs;
  filled_is =
      let e = i.filled_is in
      let f = h.pairs.wrote.filled_is in
      let c = h.pairs.wrote.count_is in
      omega (arith, e, f, c);
  few = let e = copies_count h in let l = i.few in omega (arith, e, l);
}

-- A record wasn't read,
pub stops_reading : {s t : RigState} {r : Reader} {w : Writer} {e : EmFault} → AreCopied s r w
    → Goes (reader_blocks s r) s t → Halts r.blocks 0 0 (taking_account r) s t e → BlockCause s t e
    → StopsWritingAnew (w.count + r.count) s t r w e
stops_reading {s} {r = r} {w = w} i g h c =
    let room = list_room (w.count + r.count) w i.sound i.pair.writer i.filled_is (omega arith) in
    stops_wider (omega (arith, room)) (omega (arith, room)) (omega arith)
    (pairs_stop_next r w i.pair.taking g h c)

-- or not written,
pub stops_writing : {s m t : RigState} {r q : Reader} {w : Writer} {x : Record} {e : EmFault}
    → AreCopied s r w → Pairs (w.blocks + r.blocks) s m r q w w (x ∷ []) []
    → Goes (writer_blocks m w) m t
    → Halts (one_more m w) (2 * one_more m w) (min w.blocks 1) (writer_account w) m t e
    → Cause m t e → StopsWritingAnew (w.count + r.count) s t r w e
stops_writing {s} {m} {t} {r} {q} {w} {x} {e} i h g k c =
    let n = w.count + r.count in
    let room = list_room n w i.sound i.pair.writer i.filled_is (omega arith) in
    let low = i.sound.shape.block_low in
    let filled_is = i.filled_is in
    let left = h.took.left_is in
    let more : one_more s w ≤ ceiling n (payload_in s) =
    ceiling_rises (filled s w + 1) n (payload_in s) (omega (arith, low))
    (omega (arith, filled_is, left)) in
    let same = more_same h in
    let fewer = h.took.fewer in
    pairs_stops (r.blocks + ceiling n (payload_in s)) (2 * ceiling n (payload_in s)) 1
    (omega (arith, room)) (omega (arith, more, same, fewer)) (omega (arith, more, same)) (omega arith)
    h (pairs_stop_append q w g k c)

-- or the call came after others.
pub stops_copying : {kind : Copied} {j n : ℕ} {s t u : RigState} {r q : Reader} {w v : Writer}
    {e : EmFault} → AreCopied s r w → CopiesOn kind j n s t r q w v
    → StopsWritingAnew (v.count + q.count) t u q v e → StopsWritingAnew (w.count + r.count) s u r w e
stops_copying {s = s} {t} {r = r} {q} {w} {v} i h x =
    let n = w.count + r.count in
    let o = still_copied i h in
    let same : ceiling (v.count + q.count) (payload_in t) ≡ ceiling n (payload_in s) =
    ap₂ ceiling (copies_count h) h.pairs.took.payload_is in
    let room = list_room (v.count + q.count) v o.sound o.pair.writer o.filled_is (omega arith) in
    let fewer = h.pairs.took.fewer in
    pairs_stops (r.blocks + ceiling n (payload_in s)) (2 * ceiling n (payload_in s)) 1
    (omega (arith, same, room)) (omega (arith, same, fewer)) (omega (arith, same)) (omega arith)
    h.pairs x

-- What the next record did, by the result of writing it.
pub next_copied : (kind : Copied) (j : ℕ) {s m : RigState} (t : RigState) {r q : Reader} {w : Writer}
    (v : Writer) {x y : Record} (result : Result (Unit {0}) EmFault) → AreCopied s r w
    → Pairs (w.blocks + r.blocks) s m r q w w (x ∷ []) [] → y ≡ copied_item kind j x
    → Goes (writer_blocks m w) m t → OnOk result (Appends m t w v y)
    → Costs (one_more m w) (2 * one_more m w) (min w.blocks 1) (writer_account w) (writer_account v) m
    t result
    → IfErr result (Cause m t) → CopiesNext kind j 1 s t r q w v result
next_copied kind j t v (Ok done) i h e g a k c = copies_one kind j i h e g a k
next_copied kind j t v (Err fault) i h e g a k c = stops_writing i h g k c
