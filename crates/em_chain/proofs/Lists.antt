-- Steps of a list of blocks.
use Rattle.std.proofs.Common.{◌≡◌, ℕ, ◌+◌, ◌<◌, ◌≤◌, List, [], ◌∷◌, ◌++◌, length, get_or, set, take, drop, refl, sym, ap, ◌∙◌, arith, map, add-one, append_assoc}
use Rattle.std.proofs.lemmas.Grind.{flat_map-append}
use Rattle.std.proofs.Math.Seq.{take-suc-set}
use Rattle.std.proofs.lemmas.List.{drop-append-le, append-nil, length-map, length-set, length_push}
use Rattle.em_record.specs.declared.record.Record.{Record}
use Rattle.em_space.specs.Free.{header, linked_from}
use Rattle.em_chain.specs.List.{with_link, block_header, payload, items_in, IsBlock, IsRun, IsRunOpen, last_link, SkipFits, AllButLast, Words, items_of, IsList}

-- the front of a run
pub run_front : (p link : ℕ) (ks js : List ℕ) (cs ds : List (List Record)) → length ks ≡ length cs
    → IsRun p link (ks ++ js) (cs ++ ds) → IsRunOpen p link ks cs
run_front p link [] js [] ds e h = tt
run_front p link [] js (c ∷ cs) ds e h = absurd (omega arith)
run_front p link (k ∷ ks) js [] ds e h = absurd (omega arith)
run_front p link (k ∷ ks) js (c ∷ cs) ds e h =
    (h.0, h.1, run_front p (header c).a ks js cs ds (omega arith) h.2)

pub run_open : (p link : ℕ) (ks : List ℕ) (cs : List (List Record)) → IsRun p link ks cs
    → IsRunOpen p link ks cs
run_open p link [] [] h = tt
run_open p link [] (c ∷ cs) h = absurd h
run_open p link (k ∷ ks) [] h = absurd h
run_open p link (k ∷ ks) (c ∷ cs) h = (h.0, h.1, run_open p (header c).a ks cs h.2)

-- the blocks of a run are found by their links
pub follow_open : (p : ℕ) (bs : List (List Record)) (link : ℕ) (ks : List ℕ)
    → IsRunOpen p link ks (map (λ (k : ℕ). get_or bs k []) ks) → linked_from (length ks) bs link ≡ ks
follow_open p bs link [] h = refl
follow_open p bs link (k ∷ ks) h =
    rw (h.0, add-one) (ap (λ (t : List ℕ). k ∷ t) (follow_open p bs (header (get_or bs k [])).a ks
    h.2))

pub follow : (p : ℕ) (bs : List (List Record)) (link : ℕ) (ks js : List ℕ) (ds : List (List Record))
    → IsRun p link (ks ++ js) (map (λ (k : ℕ). get_or bs k []) ks ++ ds)
    → linked_from (length ks) bs link ≡ ks
follow p bs link ks js ds h = follow_open p bs link ks (run_front p link ks js
    (map (λ (k : ℕ). get_or bs k []) ks) ds (sym (length-map ks (λ (k : ℕ). get_or bs k []))) h)

pub follow_all : (p : ℕ) (bs : List (List Record)) (link : ℕ) (ks : List ℕ)
    → IsRun p link ks (map (λ (k : ℕ). get_or bs k []) ks) → linked_from (length ks) bs link ≡ ks
follow_all p bs link ks h = follow_open p bs link ks (run_open p link ks _ h)

-- another last block in its place
pub run_last : (p link l : ℕ) (ks : List ℕ) (cs : List (List Record)) (b c : List Record)
    → length ks ≡ length cs
    → IsRun p link (ks ++ l ∷ []) (cs ++ b ∷ []) → IsBlock p c → (header c).a ≡ 0
    → IsRun p link (ks ++ l ∷ []) (cs ++ c ∷ [])
run_last p link l [] [] b c e h i z = (h.0, i, z)
run_last p link l [] (d ∷ cs) b c e h i z = absurd (omega arith)
run_last p link l (k ∷ ks) [] b c e h i z = absurd (omega arith)
run_last p link l (k ∷ ks) (d ∷ cs) b c e h i z =
    (h.0, h.1, run_last p (header d).a l ks cs b c (omega arith) h.2 i z)

-- what is known of the last block
pub last_block : (p link l : ℕ) (ks : List ℕ) (cs : List (List Record)) (b : List Record)
    → length ks ≡ length cs
    → IsRun p link (ks ++ l ∷ []) (cs ++ b ∷ []) → IsBlock p b × ((header b).a ≡ 0)
last_block p link l [] [] b e h = (h.1, h.2)
last_block p link l [] (d ∷ cs) b e h = absurd (omega arith)
last_block p link l (k ∷ ks) [] b e h = absurd (omega arith)
last_block p link l (k ∷ ks) (d ∷ cs) b e h = last_block p (header d).a l ks cs b (omega arith) h.2

-- one more block
pub run_push : (p link l j : ℕ) (ks : List ℕ) (cs : List (List Record)) (b c d : List Record)
    → length ks ≡ length cs
    → IsRun p link (ks ++ l ∷ []) (cs ++ b ∷ []) → IsBlock p c → (header c).a ≡ j + 1 → IsBlock p d
    → (header d).a ≡ 0
    → IsRun p link ((ks ++ l ∷ []) ++ j ∷ []) ((cs ++ c ∷ []) ++ d ∷ [])
run_push p link l j [] [] b c d e h i y m z = (h.0, i, (y, m, z))
run_push p link l j [] (x ∷ cs) b c d e h i y m z = absurd (omega arith)
run_push p link l j (k ∷ ks) [] b c d e h i y m z = absurd (omega arith)
run_push p link l j (k ∷ ks) (x ∷ cs) b c d e h i y m z =
    (h.0, h.1, run_push p (header x).a l j ks cs b c d (omega arith) h.2 i y m z)

-- the last link
pub last_link_push : (ks : List ℕ) (l : ℕ) → last_link (ks ++ l ∷ []) ≡ l + 1
last_link_push [] l = refl
last_link_push (k ∷ []) l = refl
last_link_push (k ∷ j ∷ ks) l = last_link_push (j ∷ ks) l

pub header_put : (b : List Record) (h x : Record) (n : ℕ) → 0 < length b
    → header (set (set b 0 h) (n + 1) x) ≡ h
header_put [] h x n l = absurd (omega arith)
header_put (a ∷ b) h x n l = rw add-one refl

payload_from : (b : List Record) (h x : Record) (n : ℕ) → n + 1 < length b
    → take (n + 1) (drop 1 (set (set b 0 h) (n + 1) x)) ≡ take n (drop 1 b) ++ x ∷ []
payload_from [] h x n l = absurd (omega arith)
payload_from (a ∷ b) h x n l = let m : n < length b =
    omega arith in rw (add-one) (take-suc-set b n x m)

-- a block with one more record, the last of a list
abbrev pub with_record : ℕ → Record → List Record → List Record
with_record n x b = set (set b 0 (block_header 0 (n + 1))) (n + 1) x

pub length_with_record : (n : ℕ) (x : Record) (b : List Record)
    → length (with_record n x b) ≡ length b
length_with_record n x b = length-set (set b 0 (block_header 0 (n + 1))) (n + 1) x
    ∙ length-set b 0 (block_header 0 (n + 1))

pub payload_with_record : (n : ℕ) (x : Record) (b : List Record) → n + 1 < length b
    → payload (with_record n x b) ≡ take n (drop 1 b) ++ x ∷ []
payload_with_record n x b l =
    let e : header (with_record n x b) ≡ block_header 0 (n + 1) =
    header_put b (block_header 0 (n + 1)) x n (omega arith) in
    ap (λ (h : Record). take h.b (drop 1 (with_record n x b))) e
    ∙ payload_from b (block_header 0 (n + 1)) x n l

pub is_with_record : (p n : ℕ) (x : Record) (b : List Record) → n < p → length b ≡ p + 1
    → IsBlock p (with_record n x b)
is_with_record p n x b lt l =
    let e : header (with_record n x b) ≡ block_header 0 (n + 1) =
    header_put b (block_header 0 (n + 1)) x n (omega arith) in
    let m : (header (with_record n x b)).b ≡ n + 1 = ap (λ (h : Record). h.b) e in
    let a : (header (with_record n x b)).a ≡ 0 = ap (λ (h : Record). h.a) e in
    record {
      is = rw (a, m) e;
      some = omega arith;
      most = omega arith;
      len = length_with_record n x b ∙ l;
    }

pub header_with_link : (link n : ℕ) (b : List Record) → 0 < length b
    → header (with_link link n b) ≡ block_header link n
header_with_link link n [] l = absurd (omega arith)
header_with_link link n (a ∷ b) l = refl

pub payload_with_link : (link n : ℕ) (b : List Record) → 0 < length b → (header b).b ≡ n
    → payload (with_link link n b) ≡ payload b
payload_with_link link n [] l e = absurd (omega arith)
payload_with_link link n (a ∷ b) l e = rw (← e) refl

pub is_with_link : (p link n : ℕ) (b : List Record) → IsBlock p b → (header b).b ≡ n
    → IsBlock p (with_link link n b)
is_with_link p link n b i e =
    let l = i.len in
    let h : header (with_link link n b) ≡ block_header link n =
    header_with_link link n b (omega arith) in
    let m : (header (with_link link n b)).b ≡ n = ap (λ (h : Record). h.b) h in
    let a : (header (with_link link n b)).a ≡ link = ap (λ (h : Record). h.a) h in
    record {
      is = rw (a, m) h;
      some = omega (arith, i.some);
      most = omega (arith, i.most);
      len = length-set b 0 (block_header link n) ∙ l;
    }

-- the records of a list with one more block
pub items_push : (cs : List (List Record)) (c : List Record)
    → items_in (cs ++ c ∷ []) ≡ items_in cs ++ payload c
items_push cs c = flat_map-append payload cs (c ∷ [])
    ∙ ap (λ (t : List Record). items_in cs ++ t) (append-nil (payload c))

-- the last block has one more record
pub items_put : (cs : List (List Record)) (b c : List Record) (x : Record)
    → payload c ≡ payload b ++ x ∷ [] → items_in (cs ++ c ∷ []) ≡ items_in (cs ++ b ∷ []) ++ x ∷ []
items_put cs b c x e = items_push cs c ∙ ap (λ (t : List Record). items_in cs ++ t) e
    ∙ sym (append_assoc (items_in cs) (payload b) (x ∷ []))
    ∙ ap (λ (t : List Record). t ++ x ∷ []) (sym (items_push cs b))

-- a block more with one record
pub items_next : (cs : List (List Record)) (b c d : List Record) (x : Record)
    → payload c ≡ payload b → payload d ≡ x ∷ []
    → items_in ((cs ++ c ∷ []) ++ d ∷ []) ≡ items_in (cs ++ b ∷ []) ++ x ∷ []
items_next cs b c d x e f = items_push (cs ++ c ∷ []) d
    ∙ ap (λ (t : List Record). items_in (cs ++ c ∷ []) ++ t) f
    ∙ ap (λ (t : List Record). t ++ x ∷ []) (items_push cs c
    ∙ ap (λ (t : List Record). items_in cs ++ t) e ∙ sym (items_push cs b))

skip_more : (skip : ℕ) (cs : List (List Record)) (b c : List Record) → (header b).b ≤ (header c).b
    → SkipFits skip (cs ++ b ∷ []) → SkipFits skip (cs ++ c ∷ [])
skip_more skip [] b c le h = omega (arith, h)
skip_more skip (d ∷ cs) b c le h = h

skip_push : (skip : ℕ) (cs : List (List Record)) (b c d : List Record) → (header b).b ≤ (header c).b
    → SkipFits skip (cs ++ b ∷ []) → SkipFits skip ((cs ++ c ∷ []) ++ d ∷ [])
skip_push skip [] b c d le h = omega (arith, h)
skip_push skip (e ∷ cs) b c d le h = h

full_last : (p : ℕ) (cs : List (List Record)) (b c : List Record) → AllButLast p (cs ++ b ∷ [])
    → AllButLast p (cs ++ c ∷ [])
full_last p [] b c h = tt
full_last p (d ∷ []) b c h = (h.0, tt)
full_last p (d ∷ e ∷ cs) b c h = (h.0, full_last p (e ∷ cs) b c h.1)

full_push : (p : ℕ) (cs : List (List Record)) (b c d : List Record) → (header c).b ≡ p
    → AllButLast p (cs ++ b ∷ []) → AllButLast p ((cs ++ c ∷ []) ++ d ∷ [])
full_push p [] b c d e h = (e, tt)
full_push p (f ∷ []) b c d e h = (h.0, (e, tt))
full_push p (f ∷ g ∷ cs) b c d e h = (h.0, full_push p (g ∷ cs) b c d e h.1)

-- the words with one more record, and with one more block
abbrev pub one_more : Words → Words
one_more w = record w { count = w.count + 1 }

abbrev pub next_block : Words → ℕ → Words
next_block w j = record w { count = w.count + 1; tail = j + 1; blocks = w.blocks + 1 }

-- One more record in the last block.
pub record Puts (p : ℕ) (w v : Words) (ks js : List ℕ) (cs ds : List (List Record))
    (x : Record) : Type 0 where
  pub list : IsList p v js ds
  pub items : items_of v ds ≡ items_of w cs ++ x ∷ []
  pub full : AllButLast p cs → AllButLast p ds

pub list_put : (p n l : ℕ) (x : Record) (w : Words) (ks : List ℕ) (cs : List (List Record))
    (b : List Record)
    → length ks ≡ length cs → n < p → (header b).b ≡ n → IsList p w (ks ++ l ∷ []) (cs ++ b ∷ [])
    → Puts p w (one_more w) (ks ++ l ∷ []) (ks ++ l ∷ []) (cs ++ b ∷ [])
    (cs ++ with_record n x b ∷ []) x
list_put p n l x w ks cs b e lt hb h =
    let i = last_block p w.head l ks cs b e h.run in
    let len = i.0.len in
    let hd : header (with_record n x b) ≡ block_header 0 (n + 1) =
    header_put b (block_header 0 (n + 1)) x n (omega arith) in
    let hb2 : (header (with_record n x b)).b ≡ n + 1 = ap (λ (h : Record). h.b) hd in
    let pay : payload (with_record n x b) ≡ payload b ++ x ∷ [] =
    payload_with_record n x b (omega arith)
    ∙ ap (λ (m : ℕ). take m (drop 1 b) ++ x ∷ []) (sym hb) in
    let it : items_in (cs ++ with_record n x b ∷ []) ≡ items_in (cs ++ b ∷ []) ++ x ∷ [] =
    items_put cs b (with_record n x b) x pay in
    let c = h.count_is in
    record {
      list = record {
        run = run_last p w.head l ks cs b (with_record n x b) e h.run (is_with_record p n x b lt
            len) (ap (λ (h : Record). h.a) hd);
        blocks_is = h.blocks_is;
        tail_is = h.tail_is;
        count_is = rw (it, length_push) (omega arith);
        skip_fits = skip_more w.skip cs b (with_record n x b) (omega arith) h.skip_fits;
      };
      items = rw it (drop-append-le w.skip (items_in (cs ++ b ∷ [])) (x ∷ []) (omega arith));
      full = full_last p cs b (with_record n x b);
    }

-- One more block, with one record.
pub list_next : (p n l j : ℕ) (x : Record) (w : Words) (ks : List ℕ) (cs : List (List Record))
    (b d : List Record)
    → length ks ≡ length cs → n ≡ p → 0 < p → (header b).b ≡ n → length d ≡ p + 1
    → IsList p w (ks ++ l ∷ []) (cs ++ b ∷ [])
    → Puts p w (next_block w j) (ks ++ l ∷ []) ((ks ++ l ∷ []) ++ j ∷ []) (cs ++ b ∷ [])
    ((cs ++ with_link (j + 1) n b ∷ []) ++ with_record 0 x d ∷ []) x
list_next p n l j x w ks cs b d e np pos hb ld h =
    let i = last_block p w.head l ks cs b e h.run in
    let len = i.0.len in
    let hd : header (with_record 0 x d) ≡ block_header 0 1 =
    header_put d (block_header 0 1) x 0 (omega arith) in
    let hc : header (with_link (j + 1) n b) ≡ block_header (j + 1) n =
    header_with_link (j + 1) n b (omega arith) in
    let hcb : (header (with_link (j + 1) n b)).b ≡ n = ap (λ (h : Record). h.b) hc in
    let it : items_in ((cs ++ with_link (j + 1) n b ∷ []) ++ with_record 0 x d ∷ [])
    ≡ items_in (cs ++ b ∷ []) ++ x ∷ [] =
    items_next cs b (with_link (j + 1) n b) (with_record 0 x d) x (payload_with_link (j + 1) n b
    (omega arith) hb) (payload_with_record 0 x d (omega arith)) in
    let c = h.count_is in
    record {
      list = record {
        run = run_push p w.head l j ks cs b (with_link (j + 1) n b) (with_record 0 x d) e h.run
            (is_with_link p (j + 1) n b i.0 hb) (ap (λ (h : Record). h.a) hc)
            (is_with_record p 0 x d pos ld) (ap (λ (h : Record). h.a) hd);
        blocks_is = length_push (ks ++ l ∷ []) j ∙ ap (λ (m : ℕ). m + 1) h.blocks_is;
        tail_is = last_link_push (ks ++ l ∷ []) j;
        count_is = rw (it, length_push) (omega arith);
        skip_fits = skip_push w.skip cs b (with_link (j + 1) n b) (with_record 0 x d) (omega arith)
            h.skip_fits;
      };
      items = rw it (drop-append-le w.skip (items_in (cs ++ b ∷ [])) (x ∷ []) (omega arith));
      full = full_push p cs b (with_link (j + 1) n b) (with_record 0 x d) (hcb ∙ np);
    }

-- The first block, with one record.
pub list_first : (p j : ℕ) (x : Record) (d : List Record) → 0 < p → length d ≡ p + 1
    → IsList p (record { head = j + 1; skip = 0; tail = j + 1; count = 1; blocks = 1 }) (j ∷ [])
    (with_record 0 x d ∷ [])
list_first p j x d pos ld =
    let hd : header (with_record 0 x d) ≡ block_header 0 1 =
    header_put d (block_header 0 1) x 0 (omega arith) in
    let hb : (header (with_record 0 x d)).b ≡ 1 = ap (λ (h : Record). h.b) hd in
    let it : payload (with_record 0 x d) ≡ x ∷ [] = payload_with_record 0 x d (omega arith) in
    record {
      run = (refl, is_with_record p 0 x d pos ld, ap (λ (h : Record). h.a) hd);
      blocks_is = refl;
      tail_is = refl;
      count_is = rw it refl;
      skip_fits = omega arith;
    }
