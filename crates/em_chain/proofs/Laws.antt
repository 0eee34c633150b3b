-- Lists over calls, and from a writer to a chain and back.
use Rattle.std.proofs.Common.{◌≡◌, ℕ, zero, suc, ◌+◌, ◌-◌, ◌<◌, ◌≤◌, List, [], ◌∷◌, ◌++◌, length, get_or, refl, sym, ap, ◌∙◌, subst, arith, IsTrue}
use Rattle.std.proofs.lemmas.List.{append-nil, length-map, length_push}
use Rattle.em_record.specs.declared.record.Record.{Record}
use Rattle.em_frames.specs.Device.{block_at}
use Rattle.em_frames.specs.Pool.{HasFrames}
use Rattle.em_space.specs.Free.{header, linked_from}
use Rattle.em_space.specs.Rig.{RigState, Sound, InUse, Touches}
use Rattle.em_space.specs.Held.{AllInUse, Apart, contents_of}
use Rattle.em_space.proofs.Held.{in_use_kept, in_use_below, holds_kept, contents_kept, all_kept, apart_none}
use Rattle.em_space.proofs.Lists.{apart_left, apart_right, in_use_append, in_use_left, in_use_right}
use Rattle.em_chain.proofs.Keeps.{payload_kept}
use Rattle.em_chain.specs.List.{block_header, IsBlock, IsRun, last_link, IsHeader}
use Rattle.em_chain.specs.Chain.{word_list, payload_in, ChainStays, IsChain, chain_blocks, chain_contents}
use Rattle.em_chain.specs.Writer.{IsWriter, front, linked, pending, writer_blocks, writer_contents, WriterStays}
use Rattle.em_chain.specs.Writes.{Finishes, Resumes}
use Rattle.em_chain.specs.declared.writer.Writer.{Writer}
use Rattle.em_chain.specs.declared.chain.Chain.{Chain}
use Rattle.em_chain.proofs.Blocks.{distinct_last, contents_append}
use Rattle.em_chain.proofs.Lists.{follow, follow_all, last_block}
use Rattle.em_chain.proofs.Views.{view_of, view_stays, packs}
use Rattle.em_chain.proofs.Appending.{linked_at, pending_at}

-- A chain over a call that leaves its blocks alone.
pub chain_stays : (held : List ℕ) (s t : RigState) (c : Chain) → Touches held s t
    → (IsTrue s.device.told → Apart (chain_blocks s c) held) → IsChain s c → ChainStays s t c
chain_stays held s t c h a i =
    let v = view_stays held s t c h a (view_of s c i) in
    record {
      is = v.closed i;
      items = v.items;
      blocks = v.blocks;
      packed = λ z. packs refl (v.tight z);
      tight = v.tight;
    }

-- the length of the front of a list
length_front : (ks : List ℕ) (m n : ℕ) → length (ks ++ linked m) ≡ n → (0 < n → 0 < m)
    → length ks ≡ n - 1
length_front ks zero zero e f = let g = rw append-nil at e in omega arith
length_front ks zero (suc n) e f = let g = f (omega arith) in absurd (omega arith)
length_front ks (suc m) n e f = let g = rw length_push at e in omega arith

zero_of : (n : ℕ) → (0 < n → ⊥) → n ≡ 0
zero_of zero h = refl
zero_of (suc n) h = absurd (h (omega arith))

-- A writer over a call that leaves its blocks alone.
pub front_kept : (held : List ℕ) (s t : RigState) (w : Writer) → Touches held s t
    → IsTrue s.device.told → Apart (writer_blocks s w) held → IsWriter s w
    → (front t w ≡ front s w) × (contents_of t (front s w) ≡ contents_of s (front s w))
front_kept held s t w h z a i =
    let u = i.told z in
    let ks = front s w in
    let ck : contents_of t ks ≡ contents_of s ks =
    contents_kept held s t ks h z (apart_left ks (linked w.tail) held a)
    (in_use_left s ks (linked w.tail) u.holds.in_use) in
    let run = rw (← ck) at u.list.run in
    let e : linked_from (length ks) t.device.contents w.head ≡ ks =
    follow (payload_in s) t.device.contents w.head ks (linked w.tail) (pending w.tail w.frame)
    run in
    let n : length ks ≡ w.blocks - 1 = length_front ks w.tail w.blocks u.list.blocks_is
    i.last.some in
    (ap (λ (m : ℕ). linked_from m t.device.contents w.head) (sym n) ∙ e, ck)

pub writer_stays : (held : List ℕ) (s t : RigState) (w : Writer) → Touches held s t
    → (IsTrue s.device.told → Apart (writer_blocks s w) held)
    → HasFrames 1 (length w.frame) t.pool → IsWriter s w → WriterStays s t w
writer_stays held s t w h a f i =
    let ef = λ (z : IsTrue s.device.told). front_kept held s t w h z (a z) i in
    let pt : payload_in t ≡ payload_in s = payload_kept held s t h in
    record {
      is = record {
        count_most = i.count_most;
        blocks_most = i.blocks_most;
        frame = f;
        last = record {
          none = i.last.none;
          none_count = i.last.none_count;
          none_skip = i.last.none_skip;
          some = i.last.some;
          in_use = all_kept held s t (linked w.tail) h (λ z. apart_right (front s w) (linked w.tail)
              held (a z)) i.last.in_use;
          fill_is = i.last.fill_is;
          fill_low = i.last.fill_low;
          fill_none = i.last.fill_none;
          fill_most = rw pt i.last.fill_most;
          last = i.last.last;
        };
        told = λ y. let z : IsTrue s.device.told = sym h.told ∙ y in
            let v = holds_kept held s t (writer_blocks s w) h a (i.told z).holds in
            record { holds = rw (ef z).0 v; list = rw (pt, (ef z).0, (ef z).1) (i.told z).list };
      };
      items = λ z. rw ((ef z).0, (ef z).1) refl;
      blocks = λ z. rw (ef z).0 refl;
      packed = λ z g. record { is = rw (pt, (ef z).0, (ef z).1) g.is };
      tight = λ z g. record { full = rw (pt, (ef z).0, (ef z).1) g.full };
      filled_is = rw pt refl;
    }

-- the chain of a writer
abbrev pub chain_of : Writer → Chain
chain_of w = record {
  head = w.head;
  skip = w.skip;
  tail = w.tail;
  count = w.count;
  blocks =
      w.blocks;
}

-- the last block is stored
finish_some : (s t : RigState) (w : Writer) (l : ℕ) → Touches (l ∷ []) s t → (IsTrue s.device.told
    → block_at t.device l ≡ w.frame) → InUse t l
    → IsWriter s (record w { tail = suc l })
    → Finishes s t (record w { tail = suc l }) (chain_of (record w { tail = suc l }))
finish_some s t w l h b k i =
    let v = record w { tail = suc l } in
    let ks = front s w in
    let cs = contents_of s ks in
    let pt : payload_in t ≡ payload_in s = payload_kept (l ∷ []) s t h in
    let ap1 = λ (z : IsTrue s.device.told). distinct_last ks l ((i.told z).holds.distinct z) in
    let ck = λ (z : IsTrue s.device.told). contents_kept (l ∷ []) s t ks h z (ap1 z)
    (in_use_left s ks (l ∷ []) (i.told z).holds.in_use) in
    let ca : IsTrue s.device.told → contents_of t (ks ++ l ∷ []) ≡ cs ++ w.frame ∷ [] =
    λ z. contents_append t ks (l ∷ []) ∙ rw (ck z, b z) refl in
    let eb : IsTrue s.device.told → chain_blocks t (chain_of v) ≡ ks ++ l ∷ [] = λ z.
    let run = rw (← (ca z)) at (i.told z).list.run in
    ap (λ (n : ℕ). linked_from n t.device.contents w.head) (sym (i.told z).list.blocks_is)
    ∙ follow_all (payload_in s) t.device.contents w.head (ks ++ l ∷ []) run in
    record {
      is = record {
        count_most = i.count_most;
        blocks_most = i.blocks_most;
        told = λ y. let z : IsTrue s.device.told = sym h.told ∙ y in
            record {
              holds = record {
                in_use = rw (eb z) (in_use_append t ks (l ∷ []) (all_kept (l ∷ []) s t ks h
                    (λ _. ap1 z) (in_use_left s ks (l ∷ []) (i.told z).holds.in_use)) (k, tt));
                distinct = λ _. rw (eb z) ((i.told z).holds.distinct z);
              };
              list = rw (pt, eb z, ca z) (i.told z).list;
            };
      };
      items = λ z. rw (eb z, ca z) refl;
      blocks = λ z. eb z;
      packed = λ z g. record { is = rw (pt, eb z, ca z) g.is };
      tight = λ z g. record { full = rw (pt, eb z, ca z) g.full };
      skip_is = refl;
      count_is = refl;
      blocks_is = refl;
    }

pub finish_is : (s t : RigState) (w : Writer) → 0 < w.tail → Touches ((w.tail - 1) ∷ []) s t
    → (IsTrue s.device.told → block_at t.device (w.tail - 1) ≡ w.frame) → InUse t (w.tail - 1)
    → IsWriter s w → Finishes s t w (chain_of w)
finish_is s t w p h b k i =
    let e : w.tail ≡ suc (w.tail - 1) = omega arith in
    let i1 : IsWriter s (record w { tail = suc (w.tail - 1) }) =
    subst (λ (n : ℕ). IsWriter s (record w { tail = n })) e i in
    subst (λ (n : ℕ). Finishes s t (record w { tail = n }) (chain_of (record w { tail = n })))
    (sym e) (finish_some s t w (w.tail - 1) h b k i1)

-- the last of some blocks
pub record Split (ks : List ℕ) : Type 0 where
  pub first : List ℕ
  pub last : ℕ
  pub is : ks ≡ first ++ last ∷ []
  pub link : last_link ks ≡ last + 1
  pub len : length ks ≡ length first + 1

pub split : (ks : List ℕ) → 0 < length ks → Split ks
split [] h = absurd (omega arith)
split (k ∷ []) h = record { first = []; last = k; is = refl; link = refl; len = refl }
split (k ∷ j ∷ ks) h =
    let r = split (j ∷ ks) (omega arith) in
    let n = r.len in
    record {
      first = k ∷ r.first;
      last = r.last;
      is = ap (λ (t : List ℕ). k ∷ t) r.is;
      link =
          r.link;
      len = omega arith;
    }

-- the block that the tail leads to
pub tail_leads : (s : RigState) (c : Chain) → IsChain s c → IsTrue s.device.told → 0 < c.blocks
    → (0 < c.tail) × InUse s (c.tail - 1) × IsBlock (payload_in s) (block_at s.device (c.tail - 1))
    × ((header (block_at s.device (c.tail - 1))).a ≡ 0)
tail_leads s c i z pos =
    let u = i.told z in
    let n = u.list.blocks_is in
    let r = split (chain_blocks s c) (omega arith) in
    let tl = u.list.tail_is in
    let lk = r.link in
    let e : c.tail - 1 ≡ r.last = omega arith in
    let run = rw (contents_append s r.first (r.last ∷ [])) at
    (subst (λ (ks : List ℕ). IsRun (payload_in s) c.head ks (contents_of s ks)) r.is
    u.list.run) in
    let b = last_block (payload_in s) c.head r.last r.first (contents_of s r.first)
    (block_at s.device r.last) (sym (length-map r.first (λ (j : ℕ). block_at s.device j)))
    run in
    let us = in_use_right s r.first (r.last ∷ []) (subst (λ (ks : List ℕ). AllInUse s ks) r.is
    u.holds.in_use) in
    (omega arith, rw e us.0, rw e b.0, rw e b.1)

-- a chain that goes on, from its last block
abbrev pub writer_of : Chain → List Record → Writer
writer_of c b = record {
  head = c.head;
  skip = c.skip;
  tail = c.tail;
  count = c.count;
  blocks =
      c.blocks;
  fill = (header b).b;
  frame = b;
}

resume_told : (s t : RigState) (c : Chain) (b : List Record) → Touches [] s t → IsChain s c
    → 0 < c.blocks → IsTrue s.device.told → b ≡ block_at s.device (c.tail - 1)
    → (writer_blocks t (writer_of c b) ≡ chain_blocks s c) × (writer_contents t (writer_of c b)
    ≡ chain_contents s c)
resume_told s t c b h i pos z eb =
    let u = i.told z in
    let n = u.list.blocks_is in
    let r = split (chain_blocks s c) (omega arith) in
    let tl = u.list.tail_is in
    let lk = r.link in
    let ln = r.len in
    let e : c.tail ≡ r.last + 1 = omega arith in
    let e1 : c.tail - 1 ≡ r.last = omega arith in
    let run = rw (contents_append s r.first (r.last ∷ [])) at
    (subst (λ (ks : List ℕ). IsRun (payload_in s) c.head ks (contents_of s ks)) r.is
    u.list.run) in
    let us = in_use_left s r.first (r.last ∷ []) (subst (λ (ks : List ℕ). AllInUse s ks) r.is
    u.holds.in_use) in
    let ck : contents_of t r.first ≡ contents_of s r.first =
    contents_kept [] s t r.first h z (apart_none r.first) us in
    let run2 = rw (← ck) at run in
    let f : linked_from (length r.first) t.device.contents c.head ≡ r.first =
    follow (payload_in s) t.device.contents c.head r.first (r.last ∷ [])
    (block_at s.device r.last ∷ []) run2 in
    let m : c.blocks - 1 ≡ length r.first = omega arith in
    let fr : front t (writer_of c b) ≡ r.first = rw m f in (
      rw (fr, e, linked_at r.last) (sym r.is),
      rw (fr, ck, e, pending_at r.last b) (ap (λ (x : List Record). contents_of s r.first ++ x ∷ [])
          (eb ∙ ap (λ (j : ℕ). block_at s.device j) e1)
          ∙ sym (contents_append s r.first (r.last ∷ []))
          ∙ ap (λ (ks : List ℕ). contents_of s ks) (sym r.is)),
    )

pub resume_is : (s t : RigState) (c : Chain) (b : List Record) → Touches [] s t → IsChain s c
    → 0 < c.blocks → (IsTrue s.device.told → b ≡ block_at s.device (c.tail - 1))
    → HasFrames 1 (length b) t.pool → 0 < c.tail → c.tail ≤ s.blocks
    → header b ≡ block_header 0 (header b).b → 1 ≤ (header b).b → (header b).b ≤ payload_in s
    → Resumes s t c (writer_of c b)
resume_is s t c b h i pos eb f tp ts hd lo hi =
    let w = writer_of c b in
    let e = λ (z : IsTrue s.device.told). resume_told s t c b h i pos z (eb z) in
    let pt : payload_in t ≡ payload_in s = payload_kept [] s t h in
    let tq : c.tail ≡ (c.tail - 1) + 1 = omega arith in
    record {
      is = record {
        count_most = i.count_most;
        blocks_most = i.blocks_most;
        frame = f;
        last = record {
          none = λ y. absurd (omega arith);
          none_count = λ y. absurd (omega arith);
          none_skip = λ y. absurd (omega arith);
          some = λ y. tp;
          in_use = subst (λ (n : ℕ). AllInUse t (linked n)) (sym tq) (rw linked_at (
            record {
              told = λ y.
                  let z : IsTrue s.device.told = sym h.told ∙ y in
                  let u = (tail_leads s c i z pos).1 in
                  (in_use_kept [] s t (c.tail - 1) h (λ _. tt) u).told y;
              untold = λ y. omega (arith, h.blocks);
            },
            tt,
          ));
          fill_is = λ y. refl;
          fill_low = λ y. lo;
          fill_none = λ y. absurd (omega arith);
          fill_most = rw pt hi;
          last = λ y. hd;
        };
        told = λ y. let z : IsTrue s.device.told = sym h.told ∙ y in
            let v = holds_kept [] s t (chain_blocks s c) h (λ _. apart_none (chain_blocks s c))
            (i.told z).holds in
            record { holds = rw (e z).0 v; list = rw (pt, (e z).0, (e z).1) (i.told z).list };
      };
      items = λ z. rw (e z).1 refl;
      blocks = λ z. (e z).0;
      packed = λ z g. record { is = rw (pt, (e z).1) g.is };
      tight = λ z g. record { full = rw (pt, (e z).1) g.full };
      skip_is = λ z. refl;
      count_is = λ z. refl;
      count_most = omega arith;
      blocks_is = refl;
    }

-- the tail of a chain with blocks leads to one of the device
pub tail_within : (s : RigState) (c : Chain) → Sound s → IsChain s c → IsTrue s.device.told
    → 0 < c.blocks → (0 < c.tail) × (c.tail ≤ s.blocks)
tail_within s c h i z pos =
    let t = tail_leads s c i z pos in
    let p = t.0 in
    let l = in_use_below s (c.tail - 1) h t.1 in
    (p, omega arith)

-- a link of blocks in use leads to one of the device
pub link_within : (s : RigState) (p link : ℕ) (ks : List ℕ) (cs : List (List Record)) → Sound s
    → IsRun p link ks cs → AllInUse s ks → link ≤ s.blocks
link_within s p link [] [] h r u = omega arith
link_within s p link [] (c ∷ cs) h r u = absurd r
link_within s p link (k ∷ ks) [] h r u = absurd r
link_within s p link (k ∷ ks) (c ∷ cs) h r u =
    let l = in_use_below s k h u.0 in
    let e = r.0 in
    omega arith

-- the header of a block of the layout passes the test
pub header_is : (p n : ℕ) (d : List Record) (r : Record) → IsBlock p d → (header d).a ≤ n
    → r ≡ header d → IsHeader r p n
header_is p n d r i l e = record {
  is = rw e i.is;
  some = rw e i.some;
  most_is = rw e i.most;
  link_is = rw e l;
}

-- the header of the last block, as it was loaded
pub last_passes : (s : RigState) (c : Chain) (b : List Record) (r : Record) (most : ℕ)
    → IsChain s c → IsTrue s.device.told → 0 < c.blocks → b ≡ block_at s.device (c.tail - 1)
    → r ≡ header b → most ≡ payload_in s → (r.a ≡ 0) × IsHeader r most 0
last_passes s c b r most i z pos e f m =
    let t = tail_leads s c i z pos in
    let h : r ≡ header (block_at s.device (c.tail - 1)) =
    f ∙ ap (λ (x : List Record). header x) e in
    let t3 = t.3 in
    (ap (λ (x : Record). x.a) h ∙ t.3, rw m (header_is (payload_in s) 0 _ r t.2 (omega arith) h))

pub resume_by : (s t : RigState) (c : Chain) (b : List Record) (r : Record) → Touches [] s t
    → IsChain s c → 0 < c.blocks → (IsTrue s.device.told → b ≡ block_at s.device (c.tail - 1))
    → HasFrames 1 (length b) t.pool → 0 < c.tail → c.tail ≤ s.blocks → r ≡ header b → r.a ≡ 0
    → r ≡ block_header r.a r.b → 1 ≤ r.b → r.b ≤ payload_in s
    → Resumes s t c (record (writer_of c b) { fill = r.b })
resume_by s t c b r h i pos eb f tp ts e a is lo hi =
    let hd : r ≡ block_header 0 r.b = is ∙ ap (λ (n : ℕ). block_header n r.b) a in
    subst (λ (x : Record). Resumes s t c (record (writer_of c b) { fill = x.b })) (sym e)
    (resume_is s t c b h i pos eb f tp ts
    (subst (λ (x : Record). x ≡ block_header 0 x.b) e hd) (subst (λ (x : Record). 1 ≤ x.b) e lo)
    (subst (λ (x : Record). x.b ≤ payload_in s) e hi))

-- The words are all of a chain.
pub same_words : (c d : Chain) → word_list c ≡ word_list d → c ≡ d
same_words c d e =
    let h = ap (λ (l : List ℕ). get_or l 0 0) e in
    let s = ap (λ (l : List ℕ). get_or l 1 0) e in
    let t = ap (λ (l : List ℕ). get_or l 2 0) e in
    let n = ap (λ (l : List ℕ). get_or l 3 0) e in
    let b = ap (λ (l : List ℕ). get_or l 4 0) e in
    ap (λ (x : ℕ). record c { head = x }) h
    ∙ ap (λ (x : ℕ). record c { head = d.head; skip = x }) s
    ∙ ap (λ (x : ℕ). record c { head = d.head; skip = d.skip; tail = x }) t
    ∙ ap (λ (x : ℕ). record d { count = x; blocks = c.blocks }) n
    ∙ ap (λ (x : ℕ). record d { blocks = x }) b
