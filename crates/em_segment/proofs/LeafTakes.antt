-- Pieces that a reader takes, each against a leaf's load, and the pairs that are written beside it.
use Rattle.std.proofs.Common.{◌≡◌, ℕ, ◌+◌, ◌*◌, ◌<◌, ◌≤◌, ◌^◌, List, [], ◌∷◌, ◌++◌, length, refl, sym, ap, subst, ◌∙◌, arith, IsTrue, Result, Ok, Err, IsErrAnd}
use Rattle.std.proofs.lemmas.List.{append-nil, length-append}
use Rattle.std.proofs.lemmas.List.Concat.{flat_map-append}
use Rattle.em_record.specs.declared.record.Record.{Record}
use Rattle.em_space.specs.Ledger.{Account, Halts, Runs, Spends, Stops, moved}
use Rattle.em_space.specs.Rig.{BlockCause, Goes, RigState, Sound}
use Rattle.em_space.specs.declared.fault.EmFault.{EmFault}
use Rattle.em_space.proofs.Runs.{stops_first, stops_wider}
use Rattle.em_chain.specs.Chain.{chain_blocks, payload_in}
use Rattle.em_chain.specs.Counts.{ceiling}
use Rattle.em_chain.specs.Parts.{IsPair}
use Rattle.em_chain.specs.Reader.{reader_blocks, reader_items, rest_of}
use Rattle.em_chain.specs.Reads.{Reads}
use Rattle.em_chain.specs.Session.{Pairs, pair_account, pair_blocks, taking_account}
use Rattle.em_chain.specs.Writer.{filled}
use Rattle.em_chain.specs.declared.reader.Reader.{Reader}
use Rattle.em_chain.specs.declared.writer.Writer.{Writer}
use Rattle.em_chain.proofs.Pairs as session
use Rattle.em_queued.specs.Popped.{grown_blocks}
use Rattle.em_segment_model.specs.Loads.{leaf_list, leaf_pairs}
use Rattle.em_segment.specs.Leaves.{StopsPieces, TakesBeside, TakesPieces, TakesPiecesTo}
use Rattle.em_segment_parts.specs.Pairs.{IsPairs, StopsPairs, WritesPairs, WritesTo}
use Rattle.em_segment_parts.proofs.Writing.{grown_least}

takes_pair : {s : RigState} {r : Reader} {w : Writer} → TakesBeside s r w → IsPair s r w
takes_pair b = record {
  reader = b.reader;
  writer = b.pairs.writer;
  taking = b.taking;
  apart = b.apart;
}

-- The pairs after calls on both.
pub pair_keeps : {p : ℕ} {s t : RigState} {r q : Reader} {w v : Writer} {xs ys : List Record}
    → IsPairs s w → Pairs p s t r q w v xs ys → v.count < 2 ^ 56 → IsPairs t v
pair_keeps {s = s} i h l =
    let n = h.wrote.filled_is in
    let c = h.wrote.count_is in
    let e = i.filled_is in
    record {
      writer = h.wrote.is;
      filled_is = omega (arith, n, c, e);
      few = l;
      packed = λ y.
          let z : IsTrue s.device.told = sym h.wrote.told ∙ y in h.wrote.packed z (i.packed z);
    }

-- No piece yet,
pub takes_none : {s : RigState} {r : Reader} {w : Writer} (load : List Record) → Sound s
    → TakesBeside s r w → TakesPieces load 0 s s r r w w
takes_none load h b = record {
  pieces = [];
  len = refl;
  pairs = session.pairs_wider (omega arith) (session.pairs_none h (takes_pair b));
  grows = omega arith;
  few = b.pairs.few;
}

-- one was read,
pub piece_read : {s t : RigState} {r q : Reader} {w : Writer} {x : Record} → TakesBeside s r w
    → Goes (reader_blocks s r) s t → Reads s t r q x
    → Spends r.blocks (taking_account r) (taking_account q) s t
    → Pairs (w.blocks + r.blocks) s t r q w w (x ∷ []) []
piece_read b g h k = session.pairs_next (takes_pair b) g h k

unmoved : {p : ℕ} {held ks : List ℕ} {a b : Account} {s t : RigState}
    → Runs p held ks a (moved 0 b) s t → Runs p held ks a b s t
unmoved h =
    let e = h.spends in
    record {
      session = h.session;
      frames = h.frames;
      spends = record {
        held = e.held;
        used = e.used;
        most = e.most;
        moves = omega (arith, e.moves);
        later = e.later;
        pays = e.pays;
      };
    }

-- and its pairs were written.
pub takes_one : {s t u : RigState} {r q : Reader} {w v : Writer} {x : Record} (load : List Record)
    → TakesBeside s r w → Pairs (w.blocks + r.blocks) s t r q w w (x ∷ []) []
    → WritesPairs 0 t u w v (leaf_pairs load x) → TakesPieces load 1 s u r q w v
takes_one {s} {t} {u} {r} {q} {w} {v} {x} load b h g =
    let ys = leaf_pairs load x in
    let i = session.pairs_is b.taking h in
    let fewer = h.took.fewer in
    let grows = g.grows in
    let all = session.pairs_then (x ∷ []) [] [] ys h
    (session.pairs_writes ys i (unmoved g.runs) g.wrote) in
    record {
      pieces = x ∷ [];
      len = refl;
      pairs = subst (λ (zs : List Record). Pairs (r.blocks + v.blocks) s u r q w v (x ∷ []) zs)
          (sym (append-nil ys)) (session.pairs_wider (omega (arith, fewer, grows)) all);
      grows = grows;
      few = g.few;
    }

-- Some pieces, and more of them.
pub takes_then : {load : List Record} {m n : ℕ} {s t u : RigState} {r q p : Reader} {w v k : Writer}
    → TakesPieces load m s t r q w v → TakesPieces load n t u q p v k
    → TakesPieces load (m + n) s u r p w k
takes_then {load} {m} {n} {s} {t} {u} {r} {q} {p} {w} {v} {k} h g =
    let fewer = h.pairs.took.fewer in
    let x = h.grows in
    let y = g.grows in
    let len = length-append h.pieces g.pieces in
    let all = session.pairs_then h.pieces (leaf_list load h.pieces) g.pieces (leaf_list load g.pieces)
    h.pairs g.pairs in
    record {
      pieces = h.pieces ++ g.pieces;
      len = omega (arith, len, h.len, g.len);
      pairs = subst (λ (zs : List Record).
          Pairs (r.blocks + k.blocks) s u r p w k (h.pieces ++ g.pieces) zs)
          (sym (flat_map-append (leaf_pairs load) h.pieces g.pieces))
          (session.pairs_wider (omega (arith, fewer, x, y)) all);
      grows = omega (arith, x, y);
      few = g.few;
    }

-- They are beside each other still.
pub takes_beside : {load : List Record} {n : ℕ} {s t : RigState} {r q : Reader} {w v : Writer}
    → TakesBeside s r w → TakesPieces load n s t r q w v → TakesBeside t q v
takes_beside b h =
    let i = session.pairs_is b.taking h.pairs in
    record {
      reader = i.reader;
      taking = i.taking;
      pairs = pair_keeps b.pairs h.pairs h.few;
      apart = i.apart;
    }

-- A read gave up,
pub takes_refused : {s t : RigState} {r : Reader} {w : Writer} {e : EmFault} (load left : List Record)
    → Sound s → TakesBeside s r w → Goes (reader_blocks s r) s t
    → Halts r.blocks 0 0 (taking_account r) s t e → BlockCause s t e → StopsPieces load s t r w left e
takes_refused {r = r} {w = w} load left h b g k c =
    let m = grown_least _ w 0 h b.pairs.writer in
    record {
      tried = 0;
      few = λ z. omega arith;
      stops = stops_wider (omega (arith, m)) (omega (arith, m)) (omega arith)
          (session.pairs_stop_next r w b.taking g k c);
    }

-- the pairs of one more piece couldn't all be written,
pub piece_stops : {n : ℕ} {s t : RigState} (r : Reader) {w : Writer} {e : EmFault}
    → StopsPairs 0 n s t w e
    → Stops (r.blocks + grown_blocks n s w) (2 * grown_blocks n s w) 1 (pair_blocks s r w)
    (pair_account r w) s t e
piece_stops {s = s} r k =
    stops_wider (omega arith) (omega arith) (omega arith)
    (stops_first (chain_blocks s (rest_of r)) (taking_account r) k.stops)

-- or all went well for some pieces before.
pub stops_taken : (m n : ℕ) {p : ℕ} {s t u : RigState} {r q : Reader} {w v : Writer} {xs ys : List Record}
    {e : EmFault} → Pairs p s t r q w v xs ys → p ≤ r.blocks + v.blocks
    → Stops (q.blocks + grown_blocks n t v) (2 * grown_blocks n t v) 1 (pair_blocks t q v)
    (pair_account q v) t u e → length ys + n ≡ m
    → Stops (r.blocks + grown_blocks m s w) (2 * grown_blocks m s w) 1 (pair_blocks s r w)
    (pair_account r w) s u e
stops_taken m n {p} {s} {t} {u} {r} {q} {w} {v} {xs} {ys} {e} h l k d =
    let pt = h.took.payload_is in
    let f : filled t v + n ≡ filled s w + m = omega (arith, h.wrote.filled_is, d) in
    let x : v.blocks ≤ ceiling (filled t v + n) (payload_in t) =
    grown_least t v n h.runs.session.sound h.wrote.is in
    let low = rw (f, pt) at x in
    let g = rw (f, pt) at k in
    let fewer = h.took.fewer in
    session.pairs_stops (r.blocks + grown_blocks m s w) (2 * grown_blocks m s w) 1
    (omega (arith, l, low)) (omega (arith, fewer)) (omega arith) (omega arith) h g

-- the pairs of what was read are among those of what was left
front_few : (xs ys left load : List Record) (n : ℕ) → left ≡ xs ++ ys
    → n ≤ length (leaf_list load ys) → length (leaf_list load xs) + n ≤ length (leaf_list load left)
front_few xs ys left load n e l =
    let all = ap (λ (zs : List Record). length (leaf_list load zs)) e in
    let parts = ap (λ (zs : List Record). length zs) (flat_map-append (leaf_pairs load) xs ys) in
    let sum = length-append (leaf_list load xs) (leaf_list load ys) in
    omega (arith, all, parts, sum, l)

-- The next piece's pairs, by the result.
pub takes_by : {T : Type 0} {s t : RigState} (u : RigState) {r q : Reader} {w : Writer} {x : Record}
    (load : List Record) (v : Writer) (result : Result T EmFault) → TakesBeside s r w
    → Pairs (w.blocks + r.blocks) s t r q w w (x ∷ []) []
    → WritesTo 0 (leaf_pairs load x) t u w v result
    → TakesPiecesTo load 1 s u r q w v (reader_items s r) result
takes_by u load v (Ok y) b h g = takes_one load b h g
takes_by {t = t} u {r = r} {q = q} {x = x} load v (Err e) b h g = record {
  tried = length (leaf_pairs load x);
  few = λ z.
      let one = ap (λ (zs : List Record). length zs) (append-nil (leaf_pairs load x)) in
      let all = front_few (x ∷ []) (reader_items t q) _ load 0 (h.took.items z) (omega arith) in
      omega (arith, one, all);
  stops = stops_taken (length (leaf_pairs load x)) (length (leaf_pairs load x)) h (omega arith)
      (piece_stops q g) (omega arith);
}

-- The next pieces gave up after others.
pub takes_stops : {load : List Record} {m : ℕ} {s t u : RigState} {r q : Reader} {w v : Writer}
    {e : EmFault} → TakesPieces load m s t r q w v → StopsPieces load t u q v (reader_items t q) e
    → StopsPieces load s u r w (reader_items s r) e
takes_stops {load} {t = t} {q = q} h k = record {
  tried = length (leaf_list load h.pieces) + k.tried;
  few = λ z. front_few h.pieces (reader_items t q) _ load k.tried (h.pairs.took.items z)
      (k.few (h.pairs.took.told ∙ z));
  stops = stops_taken (length (leaf_list load h.pieces) + k.tried) k.tried h.pairs (omega arith) k.stops
      refl;
}

-- what the fault of a callee says of the result
pub takes_err : {T : Type 0} (load : List Record) (n : ℕ) (s t : RigState) (r q : Reader) (w v : Writer)
    (left : List Record) (result : Result T EmFault) (e : EmFault) → IsErrAnd result (λ f. f ≡ e)
    → StopsPieces load s t r w left e → TakesPiecesTo load n s t r q w v left result
takes_err load n s t r q w v left (Ok x) e h k = absurd h
takes_err load n s t r q w v left (Err f) e h k =
    subst (λ (d : EmFault). StopsPieces load s t r w left d) (sym h) k

pub takes_is : {load : List Record} {m n : ℕ} {s t : RigState} {r q : Reader} {w v : Writer} → m ≡ n
    → TakesPieces load m s t r q w v → TakesPieces load n s t r q w v
takes_is {load} {m} {n} {s} {t} {r} {q} {w} {v} e h =
    subst (λ (k : ℕ). TakesPieces load k s t r q w v) e h
