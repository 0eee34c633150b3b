-- One list after another.
use Rattle.std.proofs.Common.{◌≡◌, ℕ, ◌+◌, ◌-◌, ◌<◌, ◌≤◌, ◌^◌, List, [], ◌∷◌, ◌++◌, length, set, take, drop, refl, sym, ap, ◌∙◌, subst, arith, IsTrue, Result, Ok, Err, IfOk}
use Rattle.em_space.specs.declared.fault.EmFault.{EmFault}
use Rattle.std.proofs.Math.Seq.{paste}
use Rattle.std.proofs.lemmas.Grind.{flat_map-append}
use Rattle.std.proofs.lemmas.List.Edits.{take-paste, length-paste}
use Rattle.std.proofs.lemmas.List.{length-set, length-map, length-append, length-take-le, length-drop, drop-append-le, drop_at, drop-take, drop-drop}
use Rattle.em_record.specs.declared.record.Record.{Record}
use Rattle.em_frames.specs.Device.{block_at}
use Rattle.em_frames.specs.Pool.{SameFrames}
use Rattle.em_space.specs.Free.{header, linked_from, Off, AreDistinct}
use Rattle.em_space.specs.Rig.{RigState, Sound, InUse, Touches, Goes}
use Rattle.em_space.specs.Held.{AllInUse, Apart, contents_of}
use Rattle.em_space.proofs.Held.{contents_kept, all_kept}
use Rattle.em_space.proofs.Steps.{touches_trans, touches_wider}
use Rattle.em_chain.proofs.Keeps.{payload_kept, touches_between}
use Rattle.em_chain.specs.List.{with_link, shifted, block_header, payload, items_in, IsBlock, IsRun, last_link, SkipFits, Words, items_of, IsList}
use Rattle.em_chain.specs.Chain.{payload_in, IsChain, IsStored, chain_items, chain_blocks, chain_contents, words_of}
use Rattle.em_chain.specs.Joins.{Joins, Unskips}
use Rattle.em_chain.specs.declared.chain.Chain.{Chain}
use Rattle.em_space.proofs.Apart.{off_left, off_right}
use Rattle.em_space.proofs.Lists.{apart_right, apart_sym, distinct_join, in_use_append, in_use_left}
use Rattle.em_chain.proofs.Blocks.{distinct_last, contents_append}
use Rattle.em_chain.proofs.Lists.{follow_all, last_block, header_with_link, payload_with_link, is_with_link, items_push}
use Rattle.em_chain.proofs.Laws.{chain_stays, split}
use Rattle.em_chain.proofs.Readers.{opened, opened_list, length_payload}
use Rattle.em_chain.proofs.Views.{view_of}

run_join : (p link l : ℕ) (ks js : List ℕ) (cs ds : List (List Record)) (b c : List Record)
    → length ks ≡ length cs
    → IsRun p link (ks ++ l ∷ []) (cs ++ b ∷ []) → IsBlock p c → IsRun p (header c).a js ds
    → IsRun p link ((ks ++ l ∷ []) ++ js) ((cs ++ c ∷ []) ++ ds)
run_join p link l [] js [] ds b c e h i r = (h.0, i, r)
run_join p link l [] js (x ∷ cs) ds b c e h i r = absurd (omega arith)
run_join p link l (k ∷ ks) js [] ds b c e h i r = absurd (omega arith)
run_join p link l (k ∷ ks) js (x ∷ cs) ds b c e h i r =
    (h.0, h.1, run_join p (header x).a l ks js cs ds b c (omega arith) h.2 i r)

last_link_append : (xs js : List ℕ) → 0 < length js → last_link (xs ++ js) ≡ last_link js
last_link_append [] js h = refl
last_link_append (x ∷ []) [] h = absurd (omega arith)
last_link_append (x ∷ []) (j ∷ js) h = refl
last_link_append (x ∷ y ∷ xs) js h = last_link_append (y ∷ xs) js h

skip_join : (skip : ℕ) (cs ds : List (List Record)) (b c : List Record)
    → (header b).b ≡ (header c).b → SkipFits skip (cs ++ b ∷ [])
    → SkipFits skip ((cs ++ c ∷ []) ++ ds)
skip_join skip [] ds b c e h = omega (arith, h)
skip_join skip (x ∷ cs) ds b c e h = h

abbrev pub joined : Words → Words → Words
joined w v = record {
  head = w.head;
  skip = w.skip;
  tail = v.tail;
  count =
      w.count + v.count;
  blocks = w.blocks + v.blocks;
}

list_join : (p l n : ℕ) (w v : Words) (ks js : List ℕ) (cs ds : List (List Record))
    (b : List Record) → length ks ≡ length cs → IsList p w (ks ++ l ∷ []) (cs ++ b ∷ [])
    → IsList p v js ds → v.skip ≡ 0 → 0 < length js → (header b).b ≡ n
    → IsList p (joined w v) ((ks ++ l ∷ []) ++ js) ((cs ++ with_link v.head n b ∷ []) ++ ds)
    × (items_of (joined w v) ((cs ++ with_link v.head n b ∷ []) ++ ds)
    ≡ items_of w (cs ++ b ∷ []) ++ items_of v ds)
list_join p l n w v ks js cs ds b e h g sk pos hb =
    let i = last_block p w.head l ks cs b e h.run in
    let len = i.0.len in
    let hc : header (with_link v.head n b) ≡ block_header v.head n =
    header_with_link v.head n b (omega arith) in
    let ha : (header (with_link v.head n b)).a ≡ v.head = ap (λ (r : Record). r.a) hc in
    let hcb : (header (with_link v.head n b)).b ≡ n = ap (λ (r : Record). r.b) hc in
    let same : items_in (cs ++ with_link v.head n b ∷ []) ≡ items_in (cs ++ b ∷ []) =
    items_push cs (with_link v.head n b)
    ∙ ap (λ (t : List Record). items_in cs ++ t) (payload_with_link v.head n b (omega arith) hb)
    ∙ sym (items_push cs b) in
    let all : items_in ((cs ++ with_link v.head n b ∷ []) ++ ds)
    ≡ items_in (cs ++ b ∷ []) ++ items_in ds =
    flat_map-append payload (cs ++ with_link v.head n b ∷ []) ds
    ∙ ap (λ (t : List Record). t ++ items_in ds) same in
    let c1 = h.count_is in
    let c2 = g.count_is in
    let la = length-append (items_in (cs ++ b ∷ [])) (items_in ds) in
    let lb = length-append (ks ++ l ∷ []) js in
    let b1 = h.blocks_is in
    let b2 = g.blocks_is in (
      record {
        run = run_join p w.head l ks js cs ds b (with_link v.head n b) e h.run
            (is_with_link p v.head n b i.0 hb) (rw ha g.run);
        blocks_is = omega arith;
        tail_is = last_link_append (ks ++ l ∷ []) js pos ∙ g.tail_is;
        count_is = rw all (omega arith);
        skip_fits = skip_join w.skip cs ds b (with_link v.head n b) (hb ∙ sym hcb) h.skip_fits;
      },
      rw (all, sk) (drop-append-le w.skip (items_in (cs ++ b ∷ [])) (items_in ds) (omega arith)),
    )

abbrev pub joined_chain : Chain → Chain → Chain
joined_chain f g = record {
  head = f.head;
  skip = f.skip;
  tail = g.tail;
  count =
      f.count + g.count;
  blocks = f.blocks + g.blocks;
}

record JoinTold (s t : RigState) (f g : Chain) : Type 0 where
  is : IsStored t (joined_chain f g)
  items : chain_items t (joined_chain f g) ≡ chain_items s f ++ chain_items s g
  blocks : chain_blocks t (joined_chain f g) ≡ chain_blocks s f ++ chain_blocks s g

join_told : (s t : RigState) (f g : Chain) (n : ℕ) → IsChain s f → IsChain s g → 0 < f.blocks
    → 0 < g.blocks → g.skip ≡ 0 → IsTrue s.device.told
    → Apart (chain_blocks s f) (chain_blocks s g) → Touches ((f.tail - 1) ∷ []) s t
    → (header (block_at s.device (f.tail - 1))).b ≡ n
    → block_at t.device (f.tail - 1) ≡ with_link g.head n (block_at s.device (f.tail - 1))
    → InUse t (f.tail - 1) → JoinTold s t f g
join_told s t f g n fi gi pf pg sk z a h hn hb hu =
    let u = fi.told z in
    let v = gi.told z in
    let n1 = u.list.blocks_is in
    let n2 = v.list.blocks_is in
    let r = split (chain_blocks s f) (omega arith) in
    let tl = u.list.tail_is in
    let lk = r.link in
    let e1 : f.tail - 1 ≡ r.last = omega arith in
    let js = chain_blocks s g in
    let ds = chain_contents s g in
    let xs = r.first ++ r.last ∷ [] in
    let b = block_at s.device r.last in
    let list = rw (contents_append s r.first (r.last ∷ [])) at
    (subst (λ (ks : List ℕ). IsList (payload_in s) (words_of f) ks (contents_of s ks)) r.is
    u.list) in
    let used = subst (λ (ks : List ℕ). AllInUse s ks) r.is u.holds.in_use in
    let dist = subst (λ (ks : List ℕ). AreDistinct ks) r.is (u.holds.distinct z) in
    let apart = subst (λ (ks : List ℕ). Apart ks js) r.is a in
    let hn1 : (header b).b ≡ n = rw e1 at hn in
    let hb1 : block_at t.device r.last ≡ with_link g.head n b = rw e1 at hb in
    let j = list_join (payload_in s) r.last n (words_of f) (words_of g) r.first js
    (contents_of s r.first) ds b (sym (length-map r.first (λ (i : ℕ). block_at s.device i)))
    list v.list sk (omega arith) hn1 in
    let h1 : Touches (r.last ∷ []) s t = rw e1 at h in
    let ck : contents_of t r.first ≡ contents_of s r.first =
    contents_kept (r.last ∷ []) s t r.first h1 z (distinct_last r.first r.last dist)
    (in_use_left s r.first (r.last ∷ []) used) in
    let ja : Apart js (r.last ∷ []) =
    apart_sym (r.last ∷ []) js (apart_right r.first (r.last ∷ []) js apart) in
    let cj : contents_of t js ≡ ds = contents_kept (r.last ∷ []) s t js h1 z ja v.holds.in_use in
    let cx : contents_of t xs ≡ contents_of s r.first ++ with_link g.head n b ∷ [] =
    contents_append t r.first (r.last ∷ []) ∙ rw (ck, hb1) refl in
    let ca : contents_of t (xs ++ js) ≡ (contents_of s r.first ++ with_link g.head n b ∷ []) ++ ds =
    contents_append t xs js ∙ rw (cx, cj) refl in
    let run = rw (← ca) at j.0.run in
    let bl : chain_blocks t (joined_chain f g) ≡ xs ++ js =
    ap (λ (m : ℕ). linked_from m t.device.contents f.head) (sym j.0.blocks_is)
    ∙ follow_all (payload_in s) t.device.contents f.head (xs ++ js) run in
    let pt : payload_in t ≡ payload_in s = payload_kept (r.last ∷ []) s t h1 in
    let hu1 : InUse t r.last = rw e1 at hu in
    let fc : chain_contents s f ≡ contents_of s r.first ++ b ∷ [] =
    ap (λ (ks : List ℕ). contents_of s ks) r.is ∙ contents_append s r.first (r.last ∷ []) in
    record {
      is = record {
        holds = rw bl (record {
          in_use = in_use_append t xs js
              (in_use_append t r.first (r.last ∷ []) (all_kept (r.last ∷ []) s t r.first h1
              (λ _. distinct_last r.first r.last dist) (in_use_left s r.first (r.last ∷ [])
              used)) (hu1, tt))
              (all_kept (r.last ∷ []) s t js h1 (λ _. ja) v.holds.in_use);
          distinct = λ _. distinct_join xs js dist (v.holds.distinct z) apart;
        });
        list = rw (pt, bl, ca) j.0;
      };
      items = rw (bl, ca, fc) j.1;
      blocks = bl ∙ ap (λ (ks : List ℕ). ks ++ js) (sym r.is);
    }

pub join_is : (s t : RigState) (f g : Chain) (n : ℕ) → IsChain s f → IsChain s g → 0 < f.blocks
    → 0 < g.blocks → g.skip ≡ 0 → f.count + g.count ≤ 2 ^ 56 → f.blocks + g.blocks ≤ 2 ^ 56
    → (IsTrue s.device.told → Apart (chain_blocks s f) (chain_blocks s g))
    → Touches ((f.tail - 1) ∷ []) s t
    → (IsTrue s.device.told → (header (block_at s.device (f.tail - 1))).b ≡ n)
    → (IsTrue s.device.told
    → block_at t.device (f.tail - 1) ≡ with_link g.head n (block_at s.device (f.tail - 1)))
    → InUse t (f.tail - 1) → Joins s t f g (joined_chain f g)
join_is s t f g n fi gi pf pg sk cm bm a h hn hb hu =
    let told = λ (z : IsTrue s.device.told). join_told s t f g n fi gi pf pg sk z (a z) h (hn z)
    (hb z) hu in
    record {
      is = record { count_most = cm; blocks_most = bm; told = λ y. (told (sym h.told ∙ y)).is };
      items = λ z. (told z).items;
      blocks = λ z. (told z).blocks;
      blocks_is = refl;
      count_most = omega arith;
    }

-- The first records of a block are taken off.

header_set_first : (b : List Record) (h : Record) → 0 < length b → header (set b 0 h) ≡ h
header_set_first [] h l = absurd (omega arith)
header_set_first (a ∷ b) h l = refl

drop_set_first : (b : List Record) (h : Record) → drop 1 (set b 0 h) ≡ drop 1 b
drop_set_first [] h = refl
drop_set_first (a ∷ b) h = refl

shifted_payload : (b : List Record) (skip n : ℕ) → skip ≤ n → n < length b
    → take (n - skip) (drop 1 (paste b 1 (drop (skip + 1) b) (n - skip)))
    ≡ drop skip (take n (drop 1 b))
shifted_payload b skip n le lt =
    let m = n - skip in
    let d = drop (skip + 1) b in
    let ld = length-drop (skip + 1) b in
    let tp : take (1 + m) (paste b 1 d m) ≡ take 1 b ++ take m d =
    take-paste b 1 d m (omega arith) (omega arith) in
    let l1 = length-take-le 1 b (omega arith) in
    let left : drop 1 (take (1 + m) (paste b 1 d m)) ≡ take m d =
    ap (λ (xs : List Record). drop 1 xs) tp ∙ drop_at (take 1 b) (take m d) 1 l1 in
    let e : n ≡ skip + m = omega arith in
    let right : drop skip (take n (drop 1 b)) ≡ take m (drop skip (drop 1 b)) =
    ap (λ (k : ℕ). drop skip (take k (drop 1 b))) e ∙ drop-take skip m (drop 1 b) in
    let dd : drop skip (drop 1 b) ≡ drop (1 + skip) b = drop-drop skip 1 b in
    let f : 1 + skip ≡ skip + 1 = omega arith in
    sym (drop-take 1 m (paste b 1 d m)) ∙ left
    ∙ sym (right ∙ ap (λ (xs : List Record). take m xs) (dd ∙ ap (λ (k : ℕ). drop k b) f))

list_unskip : (p k : ℕ) (w : Words) (ks : List ℕ) (b : List Record) (cs : List (List Record))
    → IsList p w (k ∷ ks) (b ∷ cs)
    → IsList p (record w { skip = 0 }) (k ∷ ks) (shifted b w.skip (header b).a (header b).b ∷ cs)
    × (items_of (record w { skip = 0 }) (shifted b w.skip (header b).a (header b).b ∷ cs)
    ≡ items_of w (b ∷ cs))
list_unskip p k w ks b cs l =
    let i = l.run.1 in
    let len = i.len in
    let sk : w.skip < (header b).b = l.skip_fits in
    let ms = i.most in
    let m = (header b).b - w.skip in
    let x = paste b 1 (drop (w.skip + 1) b) m in
    let c = shifted b w.skip (header b).a (header b).b in
    let ld = length-drop (w.skip + 1) b in
    let lx : length x ≡ length b = length-paste b 1 (drop (w.skip + 1) b) m (omega arith)
    (omega arith) in
    let hd : header c ≡ block_header (header b).a m =
    header_set_first x (block_header (header b).a m) (omega arith) in
    let ha : (header c).a ≡ (header b).a = ap (λ (r : Record). r.a) hd in
    let hb : (header c).b ≡ m = ap (λ (r : Record). r.b) hd in
    let pay : payload c ≡ drop w.skip (payload b) =
    ap (λ (n : ℕ). take n (drop 1 c)) hb
    ∙ ap (λ (ys : List Record). take m ys) (drop_set_first x (block_header (header b).a m))
    ∙ shifted_payload b w.skip (header b).b (omega arith) (omega arith) in
    let lp = length_payload p b i in
    let all : items_in (c ∷ cs) ≡ drop w.skip (items_in (b ∷ cs)) =
    ap (λ (ys : List Record). ys ++ items_in cs) pay
    ∙ sym (drop-append-le w.skip (payload b) (items_in cs) (omega arith)) in
    let lall = ap (λ (ys : List Record). length ys) all in
    let ldr = length-drop w.skip (items_in (b ∷ cs)) in
    let ci = l.count_is in (
      record {
        run = (
          l.run.0,
          record {
            is = rw (ha, hb) hd;
            some = omega arith;
            most = omega arith;
            len =
                length-set x 0 (block_header (header b).a m) ∙ lx ∙ len;
          },
          rw ha l.run.2,
        );
        blocks_is = l.blocks_is;
        tail_is = l.tail_is;
        count_is = omega arith;
        skip_fits = omega arith;
      },
      all,
    )

pub unskip_is : (s t : RigState) (f : Chain) → IsChain s f → 0 < f.blocks
    → Touches ((f.head - 1) ∷ []) s t
    → (IsTrue s.device.told
    → block_at t.device (f.head - 1) ≡ shifted (block_at s.device (f.head - 1)) f.skip
    (header (block_at s.device (f.head - 1))).a (header (block_at s.device (f.head - 1))).b)
    → InUse t (f.head - 1) → Unskips s t f (record f { skip = 0 })
unskip_is s t f i pos h hb hu =
    let o = λ (z : IsTrue s.device.told). opened s f (view_of s f i) z pos in
    let e1 = λ (z : IsTrue s.device.told). let hd = (o z).head in let e : f.head - 1 ≡ (o z).first =
    omega arith in e in
    let list = λ (z : IsTrue s.device.told). list_unskip (payload_in s) (o z).first (words_of f)
    (o z).rest (block_at s.device (o z).first) (contents_of s (o z).rest)
    (opened_list s f (o z) i z) in
    let pt : payload_in t ≡ payload_in s = payload_kept ((f.head - 1) ∷ []) s t h in
    let apart = λ (z : IsTrue s.device.told). let a : Apart (o z).rest ((f.head - 1) ∷ []) =
    rw (e1 z) (apart_sym ((o z).first ∷ []) (o z).rest (((o z).holds.distinct z).0, tt)) in a in
    let ck = λ (z : IsTrue s.device.told). let q : contents_of t (o z).rest
    ≡ contents_of s (o z).rest = contents_kept ((f.head - 1) ∷ []) s t (o z).rest h z (apart z)
    (o z).holds.in_use.1 in q in
    let cb = λ (z : IsTrue s.device.told).
    let b = block_at s.device (o z).first in
    let q : block_at t.device (o z).first ≡ shifted b f.skip (header b).a (header b).b =
    rw (e1 z) at (hb z) in q in
    let ca = λ (z : IsTrue s.device.told).
    let b = block_at s.device (o z).first in
    let q : contents_of t ((o z).first ∷ (o z).rest) ≡ shifted b f.skip (header b).a (header b).b
    ∷ contents_of s (o z).rest = rw (cb z, ck z) refl in q in
    let bl = λ (z : IsTrue s.device.told).
    let run =
    subst (λ (xs : List (List Record)). IsRun (payload_in s) f.head ((o z).first ∷ (o z).rest)
    xs) (sym (ca z)) (list z).0.run in
    let q : chain_blocks t f ≡ (o z).first ∷ (o z).rest =
    ap (λ (m : ℕ). linked_from m t.device.contents f.head) (sym (list z).0.blocks_is)
    ∙ follow_all (payload_in s) t.device.contents f.head ((o z).first ∷ (o z).rest) run in q in
    record {
      is = record {
        count_most = i.count_most;
        blocks_most = i.blocks_most;
        told = λ y. let z : IsTrue s.device.told = sym h.told ∙ y in
            let hu1 : InUse t (o z).first = rw (e1 z) at hu in
            record {
              holds = rw (bl z) (record {
                in_use = (
                  hu1,
                  all_kept ((f.head - 1) ∷ []) s t (o z).rest h (λ _. apart z)
                      (o z).holds.in_use.1,
                );
                distinct = λ _. (o z).holds.distinct z;
              });
              list = rw (pt, bl z, ca z) (list z).0;
            };
      };
      items = λ z.
          let w0 : Words = record (words_of f) { skip = 0 } in
          ap (λ (ks : List ℕ). items_of w0 (contents_of t ks)) (bl z)
          ∙ ap (λ (xs : List (List Record)). items_of w0 xs) (ca z) ∙ (list z).1
          ∙ sym (ap (λ (ks : List ℕ). items_of (words_of f) (contents_of s ks)) (o z).is);
      blocks = λ z. bl z ∙ sym (o z).is;
      skip_is = refl;
      count_is = refl;
      blocks_is = refl;
    }

-- calls that may change the first or the last block alone
touches_head : (s t : RigState) (f : Chain) → IsChain s f → 0 < f.blocks
    → Touches ((f.head - 1) ∷ []) s t → Touches (chain_blocks s f) s t
touches_head s t f i pos h =
    touches_wider (chain_blocks s f) ((f.head - 1) ∷ []) s t h (λ z j u o.
    let p = opened s f (view_of s f i) z pos in
    let hd = p.head in
    let e1 : f.head - 1 ≡ p.first = omega arith in
    let o2 : Off j (p.first ∷ p.rest) = subst (λ (ks : List ℕ). Off j ks) p.is o in
    rw e1 (o2.0, tt))

touches_tail : (s t : RigState) (f : Chain) → IsChain s f → 0 < f.blocks
    → Touches ((f.tail - 1) ∷ []) s t → Touches (chain_blocks s f) s t
touches_tail s t f i pos h =
    touches_wider (chain_blocks s f) ((f.tail - 1) ∷ []) s t h (λ z j u o.
    let n = (i.told z).list.blocks_is in
    let r = split (chain_blocks s f) (omega arith) in
    let tl = (i.told z).list.tail_is in
    let lk = r.link in
    let e1 : f.tail - 1 ≡ r.last = omega arith in
    let o2 : Off j (r.first ++ r.last ∷ []) = subst (λ (ks : List ℕ). Off j ks) r.is o in
    rw e1 (off_right j r.first (r.last ∷ []) o2))

-- A call to which a frame was lent may have changed the first block alone,
pub head_goes : {s m u t : RigState} (f : Chain) → IsChain s f → 0 < f.blocks → Touches [] s m
    → Touches ((f.head - 1) ∷ []) m u → Touches [] u t → Sound t → SameFrames s.pool t.pool
    → Goes (chain_blocks s f) s t
head_goes {s} {m} {u} {t} f i pos x y z sound frames = record {
  sound = sound;
  touches = touches_head s t f i pos (touches_between ((f.head - 1) ∷ []) x y z);
  frames = frames;
}

-- or the last one.
pub tail_goes : {s m u t : RigState} (f : Chain) → IsChain s f → 0 < f.blocks → Touches [] s m
    → Touches ((f.tail - 1) ∷ []) m u → Touches [] u t → Sound t → SameFrames s.pool t.pool
    → Goes (chain_blocks s f) s t
tail_goes {s} {m} {u} {t} f i pos x y z sound frames = record {
  sound = sound;
  touches = touches_tail s t f i pos (touches_between ((f.tail - 1) ∷ []) x y z);
  frames = frames;
}

-- the second chain after a change of it, and the first beside it
pub joins_after : (s t u : RigState) (f g h c : Chain) → IsChain s f → (IsTrue s.device.told
    → Apart (chain_blocks s f) (chain_blocks s g)) → Touches (chain_blocks s g) s t
    → Unskips s t g h → Joins t u f h c → Joins s u f g c
joins_after s t u f g h c i a k x y =
    let st = chain_stays (chain_blocks s g) s t f k a i in
    let td = k.told in
    record {
      is = y.is;
      items = λ z. y.items (td ∙ z) ∙ rw (st.items z, x.items z) refl;
      blocks = λ z. y.blocks (td ∙ z) ∙ rw (st.blocks z, x.blocks z) refl;
      blocks_is = omega (arith, y.blocks_is, x.blocks_is);
      count_most = omega (arith, y.count_most, x.count_is);
    }

pub touches_right : (s t : RigState) (xs ys : List ℕ) → Touches ys s t → Touches (xs ++ ys) s t
touches_right s t xs ys h =
    touches_wider (xs ++ ys) ys s t h (λ z j u o. off_right j xs ys o)

pub joins_touch : (s t u : RigState) (f g : Chain) → IsChain s f
    → (IsTrue s.device.told → Apart (chain_blocks s f) (chain_blocks s g))
    → Touches (chain_blocks s g) s t → Touches (chain_blocks t f) t u
    → Touches (chain_blocks s f ++ chain_blocks s g) s u
joins_touch s t u f g i a k h =
    let st = chain_stays (chain_blocks s g) s t f k a i in
    touches_trans (chain_blocks s f ++ chain_blocks s g) (chain_blocks t f) s t u
    (touches_right s t (chain_blocks s f) (chain_blocks s g) k) h
    (λ z j w o. rw (st.blocks z) (off_left j (chain_blocks s f) (chain_blocks s g) o))

pub joins_ok : (s t u : RigState) (f g h : Chain) (r : Result Chain EmFault) → IsChain s f
    → (IsTrue s.device.told → Apart (chain_blocks s f) (chain_blocks s g))
    → Touches (chain_blocks s g) s t
    → Unskips s t g h → IfOk r (λ c. Joins t u f h c) → IfOk r (λ c. Joins s u f g c)
joins_ok s t u f g h (Ok c) i a k x y = joins_after s t u f g h c i a k x y
joins_ok s t u f g h (Err e) i a k x y = tt
