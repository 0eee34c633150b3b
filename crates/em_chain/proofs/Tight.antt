-- Blocks of tight lists, and what is stored of a list that is being written.
use Rattle.std.proofs.Common.{◌≡◌, ℕ, zero, suc, ◌+◌, ◌-◌, ◌*◌, ◌/◌, ◌<◌, ◌≤◌, List, [], ◌∷◌, ◌++◌, length, refl, sym, ap, ◌∙◌, subst, arith, IsTrue, true, ◌⊎◌, inl, inr, ⊎_elim}
use Rattle.std.proofs.Math.Nat.{mul-add, mul-add-div, mul-suc}
use Rattle.std.proofs.lemmas.List.{length-append, length-map, length_push, drop-append-le}
use Rattle.std.proofs.lemmas.Nat.{div_below}
use Rattle.em_record.specs.declared.record.Record.{Record}
use Rattle.em_frames.specs.Device.{block_at}
use Rattle.em_space.specs.Free.{header}
use Rattle.em_space.specs.Rig.{RigState}
use Rattle.em_space.specs.Held.{contents_of}
use Rattle.em_chain.specs.Chain.{payload_in, IsTight, chain_items}
use Rattle.em_chain.specs.Counts.{ceiling}
use Rattle.em_chain.specs.List.{AllButLast, IsBlock, IsRun, IsRunOpen, SkipFits, items_in, payload}
use Rattle.em_chain.specs.Reader.{rest_of, owed}
use Rattle.em_chain.specs.Session.{Took}
use Rattle.em_chain.specs.View.{IsView, stored_part}
use Rattle.em_chain.specs.Writer.{IsWriter, IsTightSoFar, filled, front, linked, pending, writer_blocks, writer_contents, writer_items}
use Rattle.em_chain.specs.declared.reader.Reader.{Reader}
use Rattle.em_chain.specs.declared.writer.Writer.{Writer}
use Rattle.em_space.proofs.Lists.{distinct_left, in_use_left}
use Rattle.em_chain.proofs.Counts.{more_by}
use Rattle.em_chain.proofs.Lists.{items_push, last_block, run_front}
use Rattle.em_chain.proofs.Readers.{full_next, length_payload}
use Rattle.em_chain.proofs.Sessions.{owed_least, owed_most}
use Rattle.em_chain.proofs.Appending.{linked_at, pending_at}

-- What is stored of a list that is being written, and its last block.
record Ahead (s : RigState) (w : Writer) : Type 0 where
  contents : writer_contents s w ≡ contents_of s (front s w) ++ w.frame ∷ []
  run : IsRunOpen (payload_in s) w.head (front s w) (contents_of s (front s w))
  block : IsBlock (payload_in s) w.frame
  len : length (front s w) ≡ w.blocks - 1

ahead : (s : RigState) (w : Writer) → IsWriter s w → IsTrue s.device.told → 0 < w.blocks → Ahead s w
ahead s w i z pos =
    let u = i.told z in
    let p = payload_in s in
    let l = w.tail - 1 in
    let ks = front s w in
    let cs = contents_of s ks in
    let t = i.last.some pos in
    let e : w.tail ≡ (w.tail - 1) + 1 = omega arith in
    let eb : writer_blocks s w ≡ ks ++ l ∷ [] = ap (λ (n : ℕ). ks ++ linked n) e
    ∙ ap (λ (js : List ℕ). ks ++ js) (linked_at l) in
    let ec : writer_contents s w ≡ cs ++ w.frame ∷ [] = ap (λ (n : ℕ). cs ++ pending n w.frame) e
    ∙ ap (λ (ds : List (List Record)). cs ++ ds) (pending_at l w.frame) in
    let run1 = subst (λ (js : List ℕ). IsRun p w.head js (writer_contents s w)) eb u.list.run in
    let run : IsRun p w.head (ks ++ l ∷ []) (cs ++ w.frame ∷ []) =
    subst (λ (ds : List (List Record)). IsRun p w.head (ks ++ l ∷ []) ds) ec run1 in
    let n : length ks ≡ length cs = sym (length-map ks (λ (j : ℕ). block_at s.device j)) in
    let m = ap (λ (js : List ℕ). length js) eb in
    let k = length_push ks l in
    let b = u.list.blocks_is in
    record {
      contents = ec;
      run = run_front p w.head ks (l ∷ []) cs (w.frame ∷ []) n run;
      block = (last_block p w.head l ks cs w.frame n run).0;
      len = omega arith;
    }

-- the records of all blocks but the last of a tight list
full_front : (p link : ℕ) (ks : List ℕ) (cs : List (List Record)) (b : List Record)
    → IsRunOpen p link ks cs → AllButLast p (cs ++ b ∷ []) → length (items_in cs) ≡ p * length ks
full_front p link [] [] b r f = grind arith
full_front p link [] (c ∷ cs) b r f = absurd r
full_front p link (k ∷ ks) [] b r f = absurd r
full_front p link (k ∷ ks) (c ∷ cs) b r f =
    let n = full_next p c (cs ++ b ∷ []) f in
    let h = full_front p (header c).a ks cs b r.2 n.0 in
    let l = length_push cs b in
    let e = n.1 (omega arith) in
    let lp = length_payload p c r.1 in
    let la = length-append (payload c) (items_in cs) in
    let m = mul-suc p (length ks) in
    omega arith

-- the records of the stored part and of the last block
ahead_length : (s : RigState) (w : Writer) → IsWriter s w → IsTrue s.device.told → 0 < w.blocks
    → w.skip + w.count ≡ length (items_in (contents_of s (front s w))) + w.fill
ahead_length s w i z pos =
    let a = ahead s w i z pos in
    let cs = contents_of s (front s w) in
    let c = (i.told z).list.count_is in
    let e = ap (λ (ds : List (List Record)). length (items_in ds)) a.contents in
    let d = ap (λ (xs : List Record). length xs) (items_push cs w.frame) in
    let la = length-append (items_in cs) (payload w.frame) in
    let lp = length_payload (payload_in s) w.frame a.block in
    let f = i.last.fill_is (i.last.some pos) in
    omega arith

zero_or : (n : ℕ) → (n ≡ 0) ⊎ (0 < n)
zero_or zero = inl refl
zero_or (suc n) = inr (omega arith)

-- A tight list leaves no place free: all that it went through hold its records, or those passed over.
pub tight_filled : (s : RigState) (w : Writer) → IsWriter s w → IsTrue s.device.told
    → IsTightSoFar s w → filled s w ≡ w.skip + w.count
tight_filled s w i z g =
    ⊎_elim (λ (e : w.blocks ≡ 0).
    let c = i.last.none_count e in
    let k = i.last.none_skip e in
    let f = i.last.fill_none (i.last.none e) in
    rw (e, c, k, f) (grind arith))
    (λ (pos : 0 < w.blocks).
    let a = ahead s w i z pos in
    let h = full_front (payload_in s) w.head (front s w) (contents_of s (front s w)) w.frame a.run
    (rw a.contents at g.full) in
    let n = rw a.len at h in
    let l = ahead_length s w i z pos in
    omega arith) (zero_or w.blocks)

skip_front : (skip : ℕ) (cs : List (List Record)) (b : List Record) → 0 < length cs
    → SkipFits skip (cs ++ b ∷ []) → SkipFits skip cs
skip_front skip [] b h f = absurd (omega arith)
skip_front skip (c ∷ cs) b h f = f

skip_within : (p link skip : ℕ) (ks : List ℕ) (cs : List (List Record)) → IsRunOpen p link ks cs
    → SkipFits skip cs → skip ≤ length (items_in cs)
skip_within p link skip [] [] r f = omega arith
skip_within p link skip [] (c ∷ cs) r f = absurd r
skip_within p link skip (k ∷ ks) [] r f = absurd r
skip_within p link skip (k ∷ ks) (c ∷ cs) r f =
    let lp = length_payload p c r.1 in
    let la = length-append (payload c) (items_in cs) in
    omega arith

ahead_skip : (s : RigState) (w : Writer) → IsWriter s w → IsTrue s.device.told → 1 < w.blocks
    → SkipFits w.skip (contents_of s (front s w))
ahead_skip s w i z more =
    let a = ahead s w i z (omega arith) in
    let cs = contents_of s (front s w) in
    let l = length-map (front s w) (λ (j : ℕ). block_at s.device j) in
    let n = a.len in
    skip_front w.skip cs w.frame (omega arith)
    (subst (λ (ds : List (List Record)). SkipFits w.skip ds) a.contents (i.told z).list.skip_fits)

-- What is stored of a list of more blocks than one is a view,
pub stored_view : (s : RigState) (w : Writer) → IsWriter s w → 1 < w.blocks
    → IsView s (stored_part w)
stored_view s w i more = record {
  count_most = omega (arith, i.count_most);
  blocks_most = omega (arith, i.blocks_most);
  told = λ z.
      let u = i.told z in
      let a = ahead s w i z (omega arith) in
      let l = ahead_length s w i z (omega arith) in
      let k = ahead_skip s w i z more in
      let n = skip_within (payload_in s) w.head w.skip (front s w) (contents_of s (front s w)) a.run
      k in
      record {
        holds = record {
          in_use = in_use_left s (front s w) (linked w.tail) u.holds.in_use;
          distinct = λ y. distinct_left (front s w) (linked w.tail) (u.holds.distinct y);
        };
        list = record {
          run = a.run;
          blocks_is = a.len;
          count_is = omega arith;
          skip_fits = k;
        };
      };
}

-- and its records come before those of the last block.
pub stored_items : (s : RigState) (w : Writer) → IsWriter s w → 1 < w.blocks
    → IsTrue s.device.told → writer_items s w ≡ chain_items s (stored_part w) ++ payload w.frame
stored_items s w i more z =
    let a = ahead s w i z (omega arith) in
    let cs = contents_of s (front s w) in
    let k = skip_within (payload_in s) w.head w.skip (front s w) cs a.run
    (ahead_skip s w i z more) in
    rw (a.contents, items_push cs w.frame) (drop-append-le w.skip (items_in cs) (payload w.frame) k)

-- how far a tight list was read, if records are left
part_place : {s t : RigState} {r q : Reader} (xs : List Record) → Took s t r q xs
    → IsTrue s.device.told → IsTight s (rest_of r) → 0 < q.count
    → q.skip + payload_in s * (r.blocks - q.blocks) ≡ r.skip + length xs
part_place {s} {t} {r} {q} xs k z g some =
    let d = r.blocks - q.blocks in
    let f = k.fewer in
    let b : r.blocks ≡ q.blocks + d = omega arith in
    let m = mul-add (payload_in s) q.blocks d in
    let place = rw b at (k.place_is z g some) in
    omega arith

-- The blocks of a tight list that are left once records of it were read,
pub part_blocks : {s t : RigState} {r q : Reader} (xs : List Record) → 128 ≤ s.pool.shape.block
    → Took s t r q xs → IsTrue s.device.told → IsTight s (rest_of r) → r.skip < payload_in s
    → 0 < q.count → q.blocks + (r.skip + length xs) / payload_in s ≡ r.blocks
part_blocks {s} {t} {r} {q} xs low k z g fits some =
    let p = payload_in s in
    let d = r.blocks - q.blocks in
    let f = k.fewer in
    let e = part_place xs k z g some in
    let lt : q.skip < p = ⊎_elim (λ (l : q.skip < p). l) (λ (o : q.skip ≡ r.skip). omega arith)
    k.skip_is in
    let c : r.skip + length xs ≡ p * d + q.skip = omega arith in
    let h = div_below q.skip p 1 (omega arith) (omega arith) in
    let pos : 0 < p = omega arith in
    let n = mul-add-div pos d q.skip in
    rw c (omega arith)

-- and the moves that it took to read and release the others, if the first one wasn't read before.
pub part_cost : {s t : RigState} {r q : Reader} (xs : List Record) → 128 ≤ s.pool.shape.block
    → Took s t r q xs → IsTrue s.device.told → IsTight s (rest_of r) → r.skip < payload_in s
    → 0 < q.count → r.taking ≡ true → t.moves + owed q ≤ s.moves + owed r
    → t.moves ≤ s.moves + 2 * ceiling (length xs) (payload_in s) + 1
part_cost {s} {t} {r} {q} xs low k z g fits some taking moves =
    let p = payload_in s in
    let d = r.blocks - q.blocks in
    let e = part_place xs k z g some in
    let c = more_by p 1 d (length xs) (omega arith) (omega arith) in
    let o = owed_most r taking in
    let l = owed_least q (k.taking ∙ taking) in
    omega arith
