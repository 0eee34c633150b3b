-- Steps of a reader.
use Rattle.std.proofs.Common.{◌≡◌, ℕ, zero, suc, ◌+◌, ◌-◌, ◌*◌, ◌<◌, ◌≤◌, List, [], ◌∷◌, ◌++◌, length, get_or, drop, refl, sym, ap, ◌∙◌, subst, arith, IsTrue, Bool, true, false, if◌then◌else◌, ◌⊎◌, inl, inr, ⊎_elim}
use Rattle.std.proofs.Math.Nat.{mul-suc}
use Rattle.std.proofs.lemmas.List.{length-append, length-take-le, length-drop, length-map, get_or_append_left, get_or-take, get_or-drop, drop_more, drop_at}
use Rattle.em_record.specs.declared.record.Record.{Record}
use Rattle.em_frames.specs.Device.{block_at, zero_record}
use Rattle.em_frames.specs.Pool.{HasFrames}
use Rattle.em_space.specs.Free.{header, linked_from, Off}
use Rattle.em_space.specs.Rig.{RigState, Sound, InUse, Touches}
use Rattle.em_space.specs.Held.{Holds, AllInUse, Apart, contents_of}
use Rattle.em_space.proofs.Held.{in_use_kept, in_use_below, contents_kept, all_kept, apart_none}
use Rattle.em_space.proofs.Lists.{apart_sym}
use Rattle.em_chain.proofs.Keeps.{payload_kept}
use Rattle.em_chain.specs.List.{block_header, payload, items_in, AllButLast, IsBlock, IsHeader, IsRunOpen, SkipFits, Words, items_of, IsList, IsOpenList}
use Rattle.em_chain.specs.Chain.{payload_in, IsChain, IsTight, chain_items, chain_blocks, chain_contents, words_of}
use Rattle.em_chain.specs.Reader.{IsReader, IsLoaded, ReaderStays, LeadsOn, rest_of, reader_items, owed}
use Rattle.em_chain.specs.Reads.{Fetches, Reads, Opens}
use Rattle.em_chain.specs.View.{IsView}
use Rattle.em_chain.specs.declared.reader.Reader.{Reader}
use Rattle.em_chain.specs.declared.chain.Chain.{Chain}
use Rattle.std.proofs.lemmas.Bool.{false≢true}
use Rattle.em_chain.proofs.Lists.{follow_open}
use Rattle.em_chain.proofs.Laws.{header_is}
use Rattle.em_chain.proofs.Views.{Closes, link_after, view_of, view_stays, closes, chain_by}

-- The first block of a view and the rest.
pub record Opened (s : RigState) (c : Chain) : Type 0 where
  pub first : ℕ
  pub rest : List ℕ
  pub is : chain_blocks s c ≡ first ∷ rest
  pub head : c.head ≡ first + 1
  pub holds : Holds s (first ∷ rest)
  pub block : IsBlock (payload_in s) (block_at s.device first)
  pub list : IsOpenList (payload_in s) (words_of c) (first ∷ rest)
      (block_at s.device first ∷ contents_of s rest)

opened_by : (s : RigState) (c : Chain) (ks : List ℕ) → chain_blocks s c ≡ ks → Holds s ks
    → IsOpenList (payload_in s) (words_of c) ks (contents_of s ks) → 0 < c.blocks → Opened s c
opened_by s c [] e h l pos = let n = l.blocks_is in absurd (omega arith)
opened_by s c (k ∷ ks) e h l pos = record {
  first = k;
  rest = ks;
  is = e;
  head = l.run.0;
  holds = h;
  block = l.run.1;
  list = l;
}

pub opened : (s : RigState) (c : Chain) → IsView s c → IsTrue s.device.told → 0 < c.blocks
    → Opened s c
opened s c i z pos = opened_by s c (chain_blocks s c) refl (i.told z).holds (i.told z).list pos

-- the words of a chain fit its blocks
pub opened_list : (s : RigState) (c : Chain) (o : Opened s c) → IsChain s c → IsTrue s.device.told
    → IsList (payload_in s) (words_of c) (o.first ∷ o.rest)
    (block_at s.device o.first ∷ contents_of s o.rest)
opened_list s c o i z = subst (λ (ks : List ℕ). IsList (payload_in s) (words_of c) ks
    (contents_of s ks)) o.is (i.told z).list

-- the same of what closes it, and of a tight one
opened_closes : (s : RigState) (c : Chain) (o : Opened s c) → IsChain s c → IsTrue s.device.told
    → Closes c.head c.tail (o.first ∷ o.rest) (block_at s.device o.first ∷ contents_of s o.rest)
opened_closes s c o i z =
    subst (λ (ks : List ℕ). Closes c.head c.tail ks (contents_of s ks)) o.is (closes s c i z)

opened_full : (s : RigState) (c : Chain) (o : Opened s c) → IsTight s c
    → AllButLast (payload_in s) (block_at s.device o.first ∷ contents_of s o.rest)
opened_full s c o g =
    subst (λ (ks : List ℕ). AllButLast (payload_in s) (contents_of s ks)) o.is g.full

none_by : (p : ℕ) (w : Words) (ks : List ℕ) (cs : List (List Record)) → IsOpenList p w ks cs
    → 0 < w.count → 0 < w.blocks
none_by p w [] [] l pos = let n = l.count_is in absurd (omega arith)
none_by p w [] (c ∷ cs) l pos = absurd l.run
none_by p w (k ∷ ks) cs l pos = let n = l.blocks_is in omega arith

-- records are left only in blocks
pub some_blocks : (s : RigState) (c : Chain) → IsView s c → IsTrue s.device.told → 0 < c.count
    → 0 < c.blocks
some_blocks s c i z pos = none_by (payload_in s) (words_of c) (chain_blocks s c)
    (chain_contents s c) (i.told z).list pos

pub length_payload : (p : ℕ) (b : List Record) → IsBlock p b → length (payload b) ≡ (header b).b
length_payload p b i =
    let l = i.len in
    let m = i.most in
    length-take-le (header b).b (drop 1 b) (rw length-drop (omega arith))

-- a record of a block
pub record_at : (p : ℕ) (b rest : List Record) (n : ℕ) → IsBlock p b → n < (header b).b
    → get_or (payload b ++ rest) n zero_record ≡ get_or b (n + 1) zero_record
record_at p b rest n i lt =
    let l = length_payload p b i in
    get_or_append_left (payload b) rest zero_record n (omega arith)
    ∙ get_or-take (header b).b (drop 1 b) n zero_record lt ∙ get_or-drop 1 b n zero_record
    ∙ ap (λ (m : ℕ). get_or b m zero_record) (let e : 1 + n ≡ n + 1 = omega arith in e)

-- the words after a record that isn't the last of its block
abbrev pub stepped : Words → Words
stepped w = record w { skip = w.skip + 1; count = w.count - 1 }

pub list_step : (p k : ℕ) (w : Words) (ks : List ℕ) (b : List Record) (cs : List (List Record))
    → IsOpenList p w (k ∷ ks) (b ∷ cs) → w.skip + 1 < (header b).b
    → IsOpenList p (stepped w) (k ∷ ks) (b ∷ cs)
    × (items_of w (b ∷ cs) ≡ get_or b (w.skip + 1) zero_record ∷ items_of (stepped w) (b ∷ cs))
    × (1 < w.count)
list_step p k w ks b cs l lt =
    let lp = length_payload p b l.run.1 in
    let c = l.count_is in
    let la = length-append (payload b) (items_in cs) in
    let lt2 : w.skip < length (payload b ++ items_in cs) = omega arith in (
      record {
        run = l.run;
        blocks_is = l.blocks_is;
        count_is = omega arith;
        skip_fits = lt;
      },
      drop_more (payload b ++ items_in cs) w.skip zero_record lt2
          ∙ ap (λ (x : Record). x ∷ drop (w.skip + 1) (payload b ++ items_in cs))
          (record_at p b (items_in cs) w.skip l.run.1 (omega arith)),
      omega arith,
    )

-- The words after the last record of a block, n blocks before the end: the link and the word for the
-- last block, or 0 for both if no block is left.
pub record Follows (n link tail head end : ℕ) : Type 0 where
  pub some : 0 < n → (head ≡ link) × (end ≡ tail)
  pub none : n ≡ 0 → (head ≡ 0) × (end ≡ 0)

abbrev pub advanced : Words → ℕ → ℕ → Words
advanced w head end = record {
  head = head;
  skip = 0;
  tail = end;
  count = w.count - 1;
  blocks = w.blocks - 1;
}

skip_none : (p link : ℕ) (ks : List ℕ) (cs : List (List Record)) → IsRunOpen p link ks cs
    → SkipFits 0 cs
skip_none p link [] [] r = refl
skip_none p link [] (c ∷ cs) r = absurd r
skip_none p link (k ∷ ks) [] r = absurd r
skip_none p link (k ∷ ks) (c ∷ cs) r = let s = r.1.some in omega arith

run_next : (p link tail head end : ℕ) (ks : List ℕ) (cs : List (List Record))
    → IsRunOpen p link ks cs → Follows (length ks) link tail head end → IsRunOpen p head ks cs
run_next p link tail head end [] [] r f = tt
run_next p link tail head end [] (c ∷ cs) r f = absurd r
run_next p link tail head end (j ∷ ks) [] r f = absurd r
run_next p link tail head end (j ∷ ks) (c ∷ cs) r f =
    ((f.some (omega arith)).0 ∙ r.0, r.1, r.2)

-- what closes a list closes what is left of it
closes_next : (k first tail head end : ℕ) (ks : List ℕ) (b : List Record) (cs : List (List Record))
    → length ks ≡ length cs → Closes first tail (k ∷ ks) (b ∷ cs)
    → Follows (length ks) (header b).a tail head end → Closes head end ks cs
closes_next k first tail head end [] b [] e h f =
    record { leads = (f.none refl).0; last = sym (f.none refl).1 }
closes_next k first tail head end [] b (c ∷ cs) e h f = absurd (omega arith)
closes_next k first tail head end (j ∷ ks) b [] e h f = absurd (omega arith)
closes_next k first tail head end (j ∷ ks) b (c ∷ cs) e h f =
    record { leads = h.leads; last = h.last ∙ sym (f.some (omega arith)).1 }

leads_on_run : (p link blocks count : ℕ) (taking : Bool) (ks : List ℕ) (cs : List (List Record))
    → IsRunOpen p link ks cs → (taking ≡ true → link_after link cs ≡ 0) → length ks + 1 ≡ blocks
    → 1 + length (items_in cs) ≡ count → LeadsOn link blocks count taking
leads_on_run p link blocks count taking [] [] r k e f = record {
  last = λ q. omega arith;
  closed = λ q. k;
  more = λ q. absurd (omega arith);
}
leads_on_run p link blocks count taking [] (c ∷ cs) r k e f = absurd r
leads_on_run p link blocks count taking (j ∷ ks) [] r k e f = absurd r
leads_on_run p link blocks count taking (j ∷ ks) (c ∷ cs) r k e f =
    let s = r.1.some in
    let lp = length_payload p c r.1 in
    let la = length-append (payload c) (items_in cs) in
    let lk = r.0 in
    record {
      last = λ q. absurd (omega arith);
      closed = λ q. absurd (omega arith);
      more = λ q. (omega arith, omega arith);
    }

pub list_advance : (p k tail head end : ℕ) (w : Words) (ks : List ℕ) (b : List Record)
    (cs : List (List Record)) → IsOpenList p w (k ∷ ks) (b ∷ cs) → w.skip + 1 ≡ (header b).b
    → Follows (w.blocks - 1) (header b).a tail head end
    → IsOpenList p (advanced w head end) ks cs
    × (items_of w (b ∷ cs) ≡ get_or b (w.skip + 1) zero_record ∷ items_of (advanced w head end) cs)
list_advance p k tail head end w ks b cs l e f =
    let lp = length_payload p b l.run.1 in
    let c = l.count_is in
    let n = l.blocks_is in
    let la = length-append (payload b) (items_in cs) in
    let n1 : w.blocks - 1 ≡ length ks = omega arith in
    let run = run_next p (header b).a tail head end ks cs l.run.2 (rw n1 at f) in
    let lt2 : w.skip < length (payload b ++ items_in cs) = omega arith in
    let dr : drop (w.skip + 1) (payload b ++ items_in cs) ≡ items_in cs =
    drop_at (payload b) (items_in cs) (w.skip + 1) (omega arith) in (
      record {
        run = run;
        blocks_is = omega arith;
        count_is = omega arith;
        skip_fits = skip_none p head ks cs run;
      },
      drop_more (payload b ++ items_in cs) w.skip zero_record lt2
          ∙ ap (λ (x : Record). x ∷ drop (w.skip + 1) (payload b ++ items_in cs))
          (record_at p b (items_in cs) w.skip l.run.1 (omega arith))
          ∙ ap (λ (xs : List Record). get_or b (w.skip + 1) zero_record ∷ xs) dr,
    )

-- blocks hold the records that are left
some_length : (cs : List (List Record)) → 0 < length (items_in cs) → 0 < length cs
some_length [] h = absurd (omega arith)
some_length (c ∷ cs) h = omega arith

-- what is left of full blocks
pub full_next : (p : ℕ) (b : List Record) (cs : List (List Record)) → AllButLast p (b ∷ cs)
    → AllButLast p cs × (0 < length cs → (header b).b ≡ p)
full_next p b [] h = (tt, λ e. absurd (omega arith))
full_next p b (c ∷ cs) h = (h.1, λ e. h.0)

-- what is in the frame
pub same_block : (s : RigState) (r : Reader) (o : Opened s (rest_of r)) → IsLoaded s r
    → IsTrue s.device.told → r.frame ≡ block_at s.device o.first
same_block s r o l z = let h = o.head in l.same z
    ∙ ap (λ (j : ℕ). block_at s.device j) (let e : r.head - 1 ≡ o.first = omega arith in e)

abbrev pub after_more : Reader → Reader
after_more r = record r { skip = r.skip + 1; count = r.count - 1 }

pub more_is : (s : RigState) (r : Reader) → IsReader s r → IsLoaded s r
    → r.skip + 1 < (header r.frame).b → 1 < r.count
    → Reads s s r (after_more r) (get_or r.frame (r.skip + 1) zero_record)
more_is s r i l lt cn =
    let cm = i.chain.count_most in
    let step = λ (z : IsTrue s.device.told).
    let o = opened s (rest_of r) i.chain z l.blocks in
    let fb = same_block s r o l z in
    list_step (payload_in s) o.first (words_of (rest_of r)) o.rest (block_at s.device o.first)
    (contents_of s o.rest) o.list (rw fb at lt) in
    let v : IsView s (rest_of (after_more r)) = record {
      count_most = omega arith;
      blocks_most = i.chain.blocks_most;
      told = λ z.
          let o = opened s (rest_of r) i.chain z l.blocks in
          record { holds = (i.chain.told z).holds; list = rw o.is (step z).0 };
    } in
    let closed : IsChain s (rest_of r) → IsChain s (rest_of (after_more r)) = λ k.
    chain_by s (rest_of (after_more r)) v (closes s (rest_of r) k) in
    record {
      is = record {
        chain = v;
        closed = λ y. closed (i.closed y);
        frame = i.frame;
        loaded = λ y. record {
          blocks = l.blocks;
          count = omega arith;
          head = l.head;
          in_use = l.in_use;
          is = l.is;
          skip = lt;
          most = l.most;
          same = l.same;
        };
      };
      items = λ z.
          let o = opened s (rest_of r) i.chain z l.blocks in
          let fb = same_block s r o l z in
          rw (o.is, fb) (step z).1;
      blocks = λ z. record { gone = []; is = refl };
      tight = λ z g. record { full = g.full };
      closed = closed;
      count = omega arith;
      fewer = omega arith;
      place = omega arith;
      place_is = λ z g y. omega arith;
      skip_fits = let ms = l.most in omega arith;
      none_left = λ y. absurd (omega arith);
      taking = refl;
    }

-- one block fewer
pub one_less : (p b : ℕ) → 0 < b → p * (b - 1) + p ≡ p * b
one_less p zero h = absurd (omega arith)
one_less p (suc b) h = let e : suc b - 1 ≡ b = omega arith in rw e (sym (mul-suc p b))

abbrev pub after_last : Reader → ℕ → ℕ → Reader
after_last r head end = record r {
  head = head;
  skip = 0;
  tail = end;
  count = r.count - 1;
  blocks = r.blocks - 1;
  loaded = false;
}

pub last_is : (s t : RigState) (r : Reader) (head end : ℕ) → IsReader s r → IsLoaded s r
    → r.skip + 1 ≡ (header r.frame).b
    → Follows (r.blocks - 1) (header r.frame).a r.tail head end → Touches ((r.head - 1) ∷ []) s t
    → HasFrames 1 (length r.frame) t.pool → (r.count ≡ 1 → r.blocks ≡ 1)
    → Reads s t r (after_last r head end) (get_or r.frame (r.skip + 1) zero_record)
last_is s t r head end i l e f h fr nl =
    let cm = i.chain.count_most in
    let bm = i.chain.blocks_most in
    let cn = l.count in
    let q = after_last r head end in
    let pt : payload_in t ≡ payload_in s = payload_kept ((r.head - 1) ∷ []) s t h in
    let op = λ (z : IsTrue s.device.told). opened s (rest_of r) i.chain z l.blocks in
    let fol = λ (z : IsTrue s.device.told).
    let fb = same_block s r (op z) l z in
    let d : Follows (r.blocks - 1) (header (block_at s.device (op z).first)).a r.tail head end =
    rw fb at f in d in
    let step = λ (z : IsTrue s.device.told).
    let o = op z in
    let fb = same_block s r o l z in
    list_advance (payload_in s) o.first r.tail head end (words_of (rest_of r)) o.rest
    (block_at s.device o.first) (contents_of s o.rest) o.list (rw fb at e) (fol z) in
    let apart = λ (z : IsTrue s.device.told).
    let o = op z in
    let hd = o.head in
    let e1 : r.head - 1 ≡ o.first = omega arith in
    let d = o.holds.distinct z in
    let a : Apart o.rest ((r.head - 1) ∷ []) = rw e1 (apart_sym (o.first ∷ []) o.rest (d.0, tt)) in
    a in
    let ck = λ (z : IsTrue s.device.told).
    let o = op z in
    let d : contents_of t o.rest ≡ contents_of s o.rest =
    contents_kept ((r.head - 1) ∷ []) s t o.rest h z (apart z) o.holds.in_use.1 in d in
    let bl = λ (z : IsTrue s.device.told).
    let o = op z in
    let run = rw (← (ck z)) at (step z).0.run in
    let d : chain_blocks t (rest_of q) ≡ o.rest =
    ap (λ (n : ℕ). linked_from n t.device.contents head) (sym (step z).0.blocks_is)
    ∙ follow_open (payload_in s) t.device.contents head o.rest run in d in
    let full = λ (z : IsTrue s.device.told) (g : IsTight s (rest_of r)).
    full_next (payload_in s) (block_at s.device (op z).first) (contents_of s (op z).rest)
    (opened_full s (rest_of r) (op z) g) in
    let v : IsView t (rest_of q) = record {
      count_most = omega arith;
      blocks_most = omega arith;
      told = λ y.
          let z : IsTrue s.device.told = sym h.told ∙ y in
          let o = op z in
          record {
            holds = rw (bl z) (record {
              in_use = all_kept ((r.head - 1) ∷ []) s t o.rest h (λ _. apart z)
                  o.holds.in_use.1;
              distinct = λ _. (o.holds.distinct z).1;
            });
            list = rw (pt, bl z, ck z) (step z).0;
          };
    } in
    let closed : IsChain s (rest_of r) → IsChain t (rest_of q) = λ k. chain_by t (rest_of q) v (λ y.
    let z : IsTrue s.device.told = sym h.told ∙ y in
    let o = op z in
    let n : r.blocks - 1 ≡ length o.rest = sym (step z).0.blocks_is in
    rw (bl z, ck z) (closes_next o.first r.head r.tail head end o.rest (block_at s.device o.first)
    (contents_of s o.rest) (sym (length-map o.rest (λ (j : ℕ). block_at s.device j)))
    (opened_closes s (rest_of r) o k z) (rw n at (fol z)))) in
    record {
      is = record {
        chain = v;
        closed = λ y. closed (i.closed y);
        frame = fr;
        loaded = λ y. absurd (false≢true y);
      };
      items = λ z.
          let fb = same_block s r (op z) l z in
          rw ((op z).is, fb, bl z, ck z) (step z).1;
      blocks = λ z. record { gone = (op z).first ∷ []; is = rw ((op z).is, bl z) refl };
      tight = λ z g. record { full = rw (pt, bl z, ck z) (full z g).0 };
      closed = closed;
      count = omega arith;
      fewer = omega arith;
      place = let ms = l.most in let ol = one_less (payload_in s) r.blocks l.blocks in omega arith;
      place_is = λ z g y.
          let o = op z in
          let fb = same_block s r o l z in
          let e2 : r.skip + 1 ≡ (header (block_at s.device o.first)).b = rw fb at e in
          let ol = one_less (payload_in s) r.blocks l.blocks in
          let sn = (step z).0.count_is in
          let p = (full z g).1 (some_length (contents_of s o.rest) (omega arith)) in
          omega arith;
      skip_fits = let ms = l.most in let sk = l.skip in omega arith;
      none_left = λ y. let b = nl (omega arith) in omega arith;
      taking = refl;
    }

pub leads_is : (s : RigState) (r : Reader) → IsReader s r → IsLoaded s r → IsTrue s.device.told
    → r.skip + 1 ≡ (header r.frame).b → LeadsOn (header r.frame).a r.blocks r.count r.taking
leads_is s r i l z e =
    let o = opened s (rest_of r) i.chain z l.blocks in
    let fb = same_block s r o l z in
    let c = o.list.count_is in
    let n = o.list.blocks_is in
    let lp = length_payload (payload_in s) (block_at s.device o.first) o.block in
    let la = length-append (payload (block_at s.device o.first))
    (items_in (contents_of s o.rest)) in
    let e2 = rw fb at e in
    rw fb (leads_on_run (payload_in s) (header (block_at s.device o.first)).a r.blocks r.count
    r.taking o.rest (contents_of s o.rest) o.list.run.2
    (λ y. (opened_closes s (rest_of r) o (i.closed y) z).leads) (omega arith) (omega arith))

abbrev pub with_block : Reader → List Record → Reader
with_block r b = record r { loaded = true; frame = b }

pub fetched : (s t : RigState) (r : Reader) (b : List Record) (f : Record) → IsReader s r
    → Touches [] s t → 0 < r.blocks → 0 < r.count → 0 < r.head → InUse s (r.head - 1)
    → HasFrames 1 (length b) t.pool → (IsTrue s.device.told → b ≡ block_at s.device (r.head - 1))
    → f ≡ header b → f ≡ block_header f.a f.b → r.skip < f.b → f.b ≤ payload_in s
    → Fetches s t r (with_block r b)
fetched s t r b f i h pb pc ph u fr eb ef is sk ms =
    let st = view_stays [] s t (rest_of r) h (λ _. apart_none (chain_blocks s (rest_of r)))
    i.chain in
    let pt : payload_in t ≡ payload_in s = payload_kept [] s t h in
    record {
      ready = record {
        chain = st.is;
        closed = λ y. st.closed (i.closed y);
        frame = fr;
        loaded = λ y. record {
          blocks = pb;
          count = pc;
          head = ph;
          in_use = in_use_kept [] s t (r.head - 1) h (λ _. tt) u;
          is = subst (λ (x : Record). x ≡ block_header x.a x.b) ef is;
          skip = subst (λ (x : Record). r.skip < x.b) ef sk;
          most = rw pt (subst (λ (x : Record). x.b ≤ payload_in s) ef ms);
          same = λ q. let z : IsTrue s.device.told = sym h.told ∙ q in eb z
              ∙ sym (h.others z (r.head - 1) u tt).contents;
        };
      };
      items = st.items;
      blocks = st.blocks;
      tight = st.tight;
      closed = st.closed;
      rest = refl;
      taking = refl;
      loaded = refl;
    }

-- a reader of a chain from its first record
abbrev pub reader_of : Chain → Bool → List Record → Reader
reader_of c taking b = record {
  head = c.head;
  skip = c.skip;
  tail = c.tail;
  count = c.count;
  blocks = c.blocks;
  loaded = false;
  taking = taking;
  frame = b;
}

owed_by : (c : Chain) (taking : Bool) (b : List Record)
    → owed (reader_of c taking b) ≡ (if taking then 2 * c.blocks else c.blocks)
owed_by c true b = omega arith
owed_by c false b = omega arith

-- a view whose blocks were left alone is read from its beginning
pub opens : (s t : RigState) (c : Chain) (taking : Bool) (b : List Record) → Touches [] s t
    → IsView s c → (taking ≡ true → IsChain s c) → HasFrames 1 (length b) t.pool
    → Opens s t c taking (reader_of c taking b)
opens s t c taking b h i k f =
    let st = view_stays [] s t c h (λ _. apart_none (chain_blocks s c)) i in
    record {
      is = record {
        chain = st.is;
        closed = λ y. st.closed (k y);
        frame = f;
        loaded = λ y. absurd (false≢true y);
      };
      items = st.items;
      blocks = st.blocks;
      tight = st.tight;
      closed = st.closed;
      words = refl;
      taking_is = refl;
      owed_is = owed_by c taking b;
    }

-- the first block of what is left, if the device tells
pub record HeadIs (s : RigState) (c : Chain) : Type 0 where
  pub blocks : 0 < c.blocks
  pub head : 0 < c.head
  pub in_use : InUse s (c.head - 1)
  pub block : IsBlock (payload_in s) (block_at s.device (c.head - 1))
  pub skip : c.skip < (header (block_at s.device (c.head - 1))).b

pub head_is : (s : RigState) (c : Chain) → IsView s c → IsTrue s.device.told → 0 < c.count
    → HeadIs s c
head_is s c i z pos =
    let pb = some_blocks s c i z pos in
    let o = opened s c i z pb in
    let hd = o.head in
    let e : c.head - 1 ≡ o.first = omega arith in
    record {
      blocks = pb;
      head = omega arith;
      in_use = rw e o.holds.in_use.0;
      block = rw e o.block;
      skip = rw e o.list.skip_fits;
    }

one_or : (n : ℕ) → (n ≡ 1) ⊎ (n ≡ 1 → ⊥)
one_or zero = inr (λ e. absurd (omega arith))
one_or (suc zero) = inl refl
one_or (suc (suc n)) = inr (λ e. absurd (omega arith))

link_open : (s : RigState) (p link : ℕ) (ks : List ℕ) (cs : List (List Record)) → Sound s
    → IsRunOpen p link ks cs → AllInUse s ks → 0 < length ks → link ≤ s.blocks
link_open s p link [] cs h r u pos = absurd (omega arith)
link_open s p link (k ∷ ks) [] h r u pos = absurd r
link_open s p link (k ∷ ks) (c ∷ cs) h r u pos =
    let l = in_use_below s k h u.0 in
    let e = r.0 in
    omega arith

-- The header of the first block passes the test, with any limit of its link if it is the last one.
pub first_passes : (s : RigState) (c : Chain) (f : Record) (most limit : ℕ) → Sound s → IsView s c
    → IsTrue s.device.told → 0 < c.count → f ≡ header (block_at s.device (c.head - 1))
    → most ≡ payload_in s → (c.blocks ≡ 1 → limit ≡ f.a) → ((c.blocks ≡ 1 → ⊥) → limit ≡ s.blocks)
    → (c.skip < f.b) × IsHeader f most limit
first_passes s c f most limit h i z pos e m last more =
    let o = opened s c i z (some_blocks s c i z pos) in
    let hd = o.head in
    let e1 : c.head - 1 ≡ o.first = omega arith in
    let fe : f ≡ header (block_at s.device o.first) =
    e ∙ ap (λ (j : ℕ). header (block_at s.device j)) e1 in
    let n = o.list.blocks_is in
    let sk = o.list.skip_fits in
    let fb : f.b ≡ (header (block_at s.device o.first)).b = ap (λ (x : Record). x.b) fe in
    let fa : f.a ≡ (header (block_at s.device o.first)).a = ap (λ (x : Record). x.a) fe in
    let link : f.a ≤ limit = ⊎_elim (λ (q : c.blocks ≡ 1). let l = last q in omega arith)
    (λ (q : c.blocks ≡ 1 → ⊥). let l = more q in
    let b = link_open s (payload_in s) _ o.rest (contents_of s o.rest) h o.list.run.2
    o.holds.in_use.1 (omega arith) in omega arith) (one_or c.blocks) in (
      omega arith,
      rw m (header_is (payload_in s) limit (block_at s.device o.first) f o.block
          (omega arith) fe),
    )

length_view : (s : RigState) (c : Chain) → IsView s c → IsTrue s.device.told
    → length (chain_items s c) ≡ c.count
length_view s c i z =
    let l = (i.told z).list.count_is in
    length-drop c.skip (items_in (chain_contents s c)) ∙ omega arith

-- a chain has as many records as it says, and so has what a reader has left
pub length_items : (s : RigState) (c : Chain) → IsChain s c → IsTrue s.device.told
    → length (chain_items s c) ≡ c.count
length_items s c i z = length_view s c (view_of s c i) z

pub length_left : (s : RigState) (r : Reader) → IsReader s r → IsTrue s.device.told
    → length (reader_items s r) ≡ r.count
length_left s r i z = length_view s (rest_of r) i.chain z

none_left_by : (p : ℕ) (w : Words) (ks : List ℕ) (cs : List (List Record)) → IsOpenList p w ks cs
    → w.count ≡ 0 → w.blocks ≡ 0
none_left_by p w [] cs l e = let n = l.blocks_is in omega arith
none_left_by p w (k ∷ ks) [] l e = absurd l.run
none_left_by p w (k ∷ ks) (c ∷ cs) l e =
    let lp = length_payload p c l.run.1 in
    let la = length-append (payload c) (items_in cs) in
    let ci = l.count_is in
    let sk = l.skip_fits in
    absurd (omega arith)

-- with no record there is no block
pub none_left : (s : RigState) (c : Chain) → IsView s c → IsTrue s.device.told → c.count ≡ 0
    → c.blocks ≡ 0
none_left s c i z e = none_left_by (payload_in s) (words_of c) (chain_blocks s c)
    (chain_contents s c) (i.told z).list e

-- the next record of what is left stands in the frame
pub peeked : (s : RigState) (r : Reader) → IsReader s r → IsLoaded s r → IsTrue s.device.told
    → reader_items s r ≡ get_or r.frame (r.skip + 1) zero_record ∷ drop 1 (reader_items s r)
peeked s r i l z =
    let o = opened s (rest_of r) i.chain z l.blocks in
    let fb = same_block s r o l z in
    let b = block_at s.device o.first in
    let cs = contents_of s o.rest in
    let lp = length_payload (payload_in s) b o.block in
    let la = length-append (payload b) (items_in cs) in
    let sk : r.skip < (header b).b = rw fb at l.skip in
    let lt : r.skip < length (payload b ++ items_in cs) = omega arith in
    let e : reader_items s r ≡ get_or b (r.skip + 1) zero_record
    ∷ drop (r.skip + 1) (payload b ++ items_in cs) =
    rw o.is (drop_more (payload b ++ items_in cs) r.skip zero_record lt
    ∙ ap (λ (x : Record). x ∷ drop (r.skip + 1) (payload b ++ items_in cs))
    (record_at (payload_in s) b (items_in cs) r.skip o.block sk)) in
    rw fb (e ∙ ap (λ (xs : List Record). get_or b (r.skip + 1) zero_record ∷ drop 1 xs) (sym e))

-- A reader over a call that leaves the blocks of what is left alone.
pub reader_stays : (held : List ℕ) (s t : RigState) (r : Reader) → Touches held s t
    → (IsTrue s.device.told → Apart (chain_blocks s (rest_of r)) held)
    → HasFrames 1 (length r.frame) t.pool → IsReader s r → ReaderStays s t r
reader_stays held s t r h a f i =
    let st = view_stays held s t (rest_of r) h a i.chain in
    let pt : payload_in t ≡ payload_in s = payload_kept held s t h in
    let off = λ (l : IsLoaded s r) (z : IsTrue s.device.told).
    let o = opened s (rest_of r) i.chain z l.blocks in
    let hd = o.head in
    let e1 : r.head - 1 ≡ o.first = omega arith in
    let ap0 : Apart (o.first ∷ o.rest) held = subst (λ (ks : List ℕ). Apart ks held) o.is (a z) in
    let q : Off (r.head - 1) held = rw e1 ap0.0 in q in
    record {
      is = record {
        chain = st.is;
        closed = λ y. st.closed (i.closed y);
        frame = f;
        loaded = λ y.
            let l = i.loaded y in
            record {
              blocks = l.blocks;
              count = l.count;
              head = l.head;
              in_use = in_use_kept held s t (r.head - 1) h (λ z. off l z) l.in_use;
              is = l.is;
              skip = l.skip;
              most = rw pt l.most;
              same = λ q.
                  let z : IsTrue s.device.told = sym h.told ∙ q in
                  l.same z ∙ sym (h.others z (r.head - 1) l.in_use (off l z)).contents;
            };
      };
      items = st.items;
      blocks = st.blocks;
      tight = st.tight;
      closed = st.closed;
    }
