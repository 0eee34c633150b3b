-- What the calls do to the entries of a node.
use Rattle.std.specs.Prelude.{◌≡◌, ℕ, zero, suc, ◌+◌, ◌*◌, ◌-◌, ◌<◌, ◌≤◌, List, [], ◌∷◌, ◌++◌, length, get_or, set, drop, take, insert, remove}
use Rattle.std.specs.List.{copy_within}
use Rattle.std.proofs.Math.Seq.{drop-append_seam, take-append_seam, drop-append-add, take-append-add, drop-cons}
use Rattle.std.proofs.Common.{sym, ap, subst, ◌∙◌, refl, arith, append_assoc}
use Rattle.std.proofs.lemmas.List.{take-append-drop, length-append, length-take-le, length-drop, length-set}
use Rattle.std.proofs.Math.Seq.{take-suc}
use Rattle.std.proofs.lemmas.List.{get_or-drop}
use Rattle.std.proofs.lemmas.List.Edits.{insert_end}
use Rattle.std.proofs.lemmas.Bool.{cond-true, cond-false}
use Rattle.std.specs.Prelude.{cond, true, false}
use Rattle.em_record.specs.Order.{is_below}
use Rattle.em_record.specs.declared.record.Record.{Record}
use Rattle.em_frames.specs.Device.{zero_record}
use Rattle.em_node.specs.declared.entry.Entry.{Entry}
use Rattle.em_node.specs.Node.{node_header, second_of, third_of, records_of, entry_of, entries_of, Is, IsNode, IsLimited, AreLimited, LowsRise, no_entry, place_of}
use Rattle.em_node.specs.Records.{with_entry}
use Rattle.em_node.proofs.Orders.{rises_remove, rises_take}
use Rattle.em_node.proofs.Seams.{at_seam, set_seam, copied, length_records, records_append, same_entry}

-- a fresh node
pub fresh_is : (b : List Record) (level : ℕ) → 2 ≤ length b → level ≤ 63
    → Is (set (set b 0 (node_header level 0)) 1 zero_record) level []
fresh_is [] level r l = absurd (omega arith)
fresh_is (x ∷ []) level r l = absurd (omega arith)
fresh_is (x ∷ y ∷ rs) level r l =
    record { rest = rs; block_is = refl; level_most = l; limited = tt; rises = tt }

-- the records before the entry of a place
abbrev pub before : ℕ → ℕ → ℕ → List Entry → List Record
before level n at es = node_header level n ∷ zero_record ∷ records_of (take at es)

-- how many records stand before an entry
pub length_before : (level n at : ℕ) (es : List Entry) → at ≤ length es
    → length (before level n at es) ≡ 2 + 3 * at
length_before level n at es h =
    let a = length_records (take at es) in let b = length-take-le at es h in omega arith

-- a node with a seam before the entry of a place
pub seam : (b : List Record) (level : ℕ) (es : List Entry) (at : ℕ) (i : Is b level es)
    → b ≡ before level (length es) at es ++ (records_of (drop at es) ++ i.rest)
seam b level es at i = i.block_is ∙ ap (λ rs. node_header level (length es) ∷ zero_record ∷ rs)
    (ap (λ fs. records_of fs ++ i.rest) (sym (take-append-drop at es))
    ∙ (ap (λ rs. rs ++ i.rest) (records_append (take at es) (drop at es))
    ∙ append_assoc (records_of (take at es)) (records_of (drop at es)) i.rest))

-- what a place of a node holds, as three records
pub entry_seam : (b : List Record) (level : ℕ) (es : List Entry) (at : ℕ) (i : Is b level es)
    → at < length es → (let e = get_or es at no_entry in b ≡ before level (length es) at es
    ++ (e.low ∷ second_of e ∷ third_of e ∷ records_of (drop (suc at) es) ++ i.rest))
entry_seam b level es at i h = seam b level es at i
    ∙ ap (λ fs. before level (length es) at es ++ (records_of fs ++ i.rest)) (drop-cons es at no_entry h)

-- the limits of one entry
limited_at : (es : List Entry) (at : ℕ) → at < length es → AreLimited es → IsLimited (get_or es at no_entry)
limited_at [] at h a = absurd (omega arith)
limited_at (e ∷ es) zero h a = a.0
limited_at (e ∷ es) (suc at) h a = limited_at es at (omega arith) a.1

-- An entry is read from its three records.
pub entry_read : (b : List Record) (level : ℕ) (es : List Entry) (at : ℕ) → Is b level es
    → at < length es
    → entry_of (get_or b (2 + 3 * at) zero_record) (get_or b (2 + 3 * at + 1) zero_record)
    (get_or b (2 + 3 * at + 2) zero_record) ≡ get_or es at no_entry
entry_read b level es at i h =
    let e = get_or es at no_entry in
    let pre = before level (length es) at es in
    let post = e.low ∷ second_of e ∷ third_of e ∷ records_of (drop (suc at) es) ++ i.rest in
    let l = length_before level (length es) at es (omega arith) in
    let all : b ≡ pre ++ post = entry_seam b level es at i h in
    let x : get_or b (2 + 3 * at) zero_record ≡ e.low =
    ap (λ rs. get_or rs (2 + 3 * at) zero_record) all ∙ at_seam pre post (2 + 3 * at) 0 zero_record (omega arith) in
    let y : get_or b (2 + 3 * at + 1) zero_record ≡ second_of e =
    ap (λ rs. get_or rs (2 + 3 * at + 1) zero_record) all ∙ at_seam pre post (2 + 3 * at + 1) 1 zero_record (omega arith) in
    let z : get_or b (2 + 3 * at + 2) zero_record ≡ third_of e =
    ap (λ rs. get_or rs (2 + 3 * at + 2) zero_record) all ∙ at_seam pre post (2 + 3 * at + 2) 2 zero_record (omega arith) in
    ap (λ r. entry_of r (get_or b (2 + 3 * at + 1) zero_record) (get_or b (2 + 3 * at + 2) zero_record)) x
    ∙ (ap (λ r. entry_of e.low r (get_or b (2 + 3 * at + 2) zero_record)) y
    ∙ (ap (entry_of e.low (second_of e)) z ∙ same_entry e (limited_at es at h i.limited).words))

-- three records past a seam are written
with_seam : (pre post : List Record) (x y z : Record) (at : ℕ) (e : Entry) → length pre ≡ 2 + 3 * at
    → with_entry (pre ++ (x ∷ y ∷ z ∷ post)) at e
    ≡ pre ++ (e.low ∷ second_of e ∷ third_of e ∷ post)
with_seam pre post x y z at e l =
    ap (λ rs. set (set rs (2 + 3 * at + 1) (second_of e)) (2 + 3 * at + 2) (third_of e))
    (set_seam pre (x ∷ y ∷ z ∷ post) (2 + 3 * at) 0 e.low (omega arith))
    ∙ (ap (λ rs. set rs (2 + 3 * at + 2) (third_of e))
    (set_seam pre (e.low ∷ y ∷ z ∷ post) (2 + 3 * at + 1) 1 (second_of e) (omega arith))
    ∙ set_seam pre (e.low ∷ second_of e ∷ z ∷ post) (2 + 3 * at + 2) 2 (third_of e) (omega arith))

-- the limits of the first entries,
limited_take : (at : ℕ) (es : List Entry) → AreLimited es → AreLimited (take at es)
limited_take zero es a = tt
limited_take (suc at) [] a = tt
limited_take (suc at) (e ∷ es) a = (a.0, limited_take at es a.1)

-- of the others,
limited_drop : (at : ℕ) (es : List Entry) → AreLimited es → AreLimited (drop at es)
limited_drop zero es a = a
limited_drop (suc at) [] a = tt
limited_drop (suc at) (e ∷ es) a = limited_drop at es a.1

-- and of two lists
limited_append : (xs ys : List Entry) → AreLimited xs → AreLimited ys → AreLimited (xs ++ ys)
limited_append [] ys a b = b
limited_append (x ∷ xs) ys a b = (a.0, limited_append xs ys a.1 b)

-- a node, from a block with a seam
pub seam_is : (b : List Record) (level : ℕ) (xs ys : List Entry) (rest : List Record)
    → b ≡ node_header level (length (xs ++ ys)) ∷ zero_record ∷ records_of xs ++ (records_of ys ++ rest)
    → level ≤ 63 → AreLimited (xs ++ ys) → LowsRise (xs ++ ys) → Is b level (xs ++ ys)
seam_is b level xs ys rest e l a r = record {
  rest = rest;
  block_is = e ∙ ap (λ rs. node_header level (length (xs ++ ys)) ∷ zero_record ∷ rs)
      (sym (append_assoc (records_of xs) (records_of ys) rest)
      ∙ ap (λ rs. rs ++ rest) (sym (records_append xs ys)));
  level_most = l;
  limited = a;
  rises = r;
}

-- a replaced entry, between those before and after it
pub set_split : (es : List Entry) (at : ℕ) (e : Entry) → at < length es
    → set es at e ≡ take at es ++ e ∷ drop (suc at) es
set_split [] at e h = absurd (omega arith)
set_split (f ∷ es) zero e h = refl
set_split (f ∷ es) (suc at) e h = ap (λ fs. f ∷ fs) (set_split es at e (omega arith))

-- how many entries these are
length_split : (es : List Entry) (at : ℕ) (e : Entry) → at < length es
    → length (take at es ++ e ∷ drop (suc at) es) ≡ length es
length_split es at e h =
    ap length (sym (set_split es at e h)) ∙ length-set es at e

-- An entry is replaced.
pub set_is : (b : List Record) (level : ℕ) (es : List Entry) (at : ℕ) (e : Entry) → Is b level es
    → at < length es → IsLimited e → LowsRise (set es at e)
    → Is (with_entry b at e) level (set es at e)
set_is b level es at e i h m r =
    let old = get_or es at no_entry in
    let n = length es in
    let xs = take at es in
    let ys = e ∷ drop (suc at) es in
    let same : set es at e ≡ xs ++ ys = set_split es at e h in
    let P : List Entry → Type 0 = LowsRise in
    let all : with_entry b at e ≡ before level n at es ++ (records_of ys ++ i.rest) =
    ap (λ rs. with_entry rs at e) (entry_seam b level es at i h)
    ∙ with_seam (before level n at es) (records_of (drop (suc at) es) ++ i.rest) old.low (second_of old)
    (third_of old) at e (length_before level n at es (omega arith)) in
    let Q : List Entry → Type 0 = λ fs. Is (with_entry b at e) level fs in
    subst Q (sym same) (seam_is (with_entry b at e) level xs ys i.rest
    (all ∙ ap (λ k. node_header level k ∷ zero_record ∷ records_of xs ++ (records_of ys ++ i.rest))
    (sym (length_split es at e h)))
    i.level_most
    (limited_append xs ys (limited_take at es i.limited) (m, limited_drop (suc at) es i.limited))
    (subst P same r))

-- the first three records
three : (rs : List Record) → 3 ≤ length rs
    → take 3 rs ≡ get_or rs 0 zero_record ∷ get_or rs 1 zero_record ∷ get_or rs 2 zero_record ∷ []
three [] h = absurd (omega arith)
three (x ∷ []) h = absurd (omega arith)
three (x ∷ y ∷ []) h = absurd (omega arith)
three (x ∷ y ∷ z ∷ rs) h = refl

-- the records from a place on, three further
moved_up : (pre m rest : List Record) (i j dest : ℕ) → i ≡ length pre → j ≡ length pre + length m
    → dest ≡ length pre + 3 → 3 ≤ length rest
    → copy_within (pre ++ (m ++ rest)) i j dest
    ≡ pre ++ (get_or (m ++ rest) 0 zero_record ∷ get_or (m ++ rest) 1 zero_record
    ∷ get_or (m ++ rest) 2 zero_record ∷ (m ++ drop 3 rest))
moved_up pre m rest i j dest ei ej ed h =
    let b = pre ++ (m ++ rest) in
    let l = length-append pre (m ++ rest) in
    let k = length-append m rest in
    let n : j - i ≡ length m = omega arith in
    let first : take dest b ≡ pre ++ take 3 (m ++ rest) =
    ap (λ d. take d b) ed ∙ take-append-add pre (m ++ rest) 3 in
    let middle : take (j - i) (drop i b) ≡ m =
    ap (λ d. take (j - i) (drop d b)) ei ∙ (ap (λ s. take (j - i) s) (drop-append_seam pre (m ++ rest))
    ∙ (ap (λ d. take d (m ++ rest)) n ∙ take-append_seam m rest)) in
    let last : drop (dest + (j - i)) b ≡ drop 3 rest =
    let e : dest + (j - i) ≡ length pre + (length m + 3) = omega arith in
    ap (λ d. drop d b) e ∙ (drop-append-add pre (m ++ rest) (length m + 3) ∙ drop-append-add m rest 3) in
    let t = take 3 (m ++ rest) in
    copied b i j dest (omega arith) (omega arith) (omega arith)
    ∙ (ap (λ zs. (zs ++ take (j - i) (drop i b)) ++ drop (dest + (j - i)) b) first
    ∙ (ap (λ zs. ((pre ++ t) ++ zs) ++ drop (dest + (j - i)) b) middle
    ∙ (ap (λ zs. ((pre ++ t) ++ m) ++ zs) last
    ∙ (append_assoc (pre ++ t) m (drop 3 rest) ∙ (append_assoc pre t (m ++ drop 3 rest)
    ∙ ap (λ zs. pre ++ (zs ++ (m ++ drop 3 rest))) (three (m ++ rest) (omega arith)))))))

-- there is one entry more
length_insert : (es : List Entry) (at : ℕ) (e : Entry) → at ≤ length es
    → length (take at es ++ e ∷ drop at es) ≡ length es + 1
length_insert es at e h =
    let a = length-append (take at es) (e ∷ drop at es) in
    let b = length-take-le at es h in
    let c = length-drop at es in omega arith

-- An entry is put in.
pub insert_is : (b : List Record) (level : ℕ) (es : List Entry) (at : ℕ) (e : Entry) (n : ℕ)
    → Is b level es → n ≡ length es → at ≤ n → 2 + 3 * (n + 1) ≤ length b → IsLimited e
    → LowsRise (insert es at e)
    → Is (set (with_entry (copy_within b (2 + 3 * at) (2 + 3 * n) (5 + 3 * at)) at e) 0
    (node_header level (n + 1))) level (insert es at e)
insert_is b level es at e n i en h room m r =
    let pre = before level (length es) at es in
    let xs = take at es in
    let ys = drop at es in
    let mid = records_of ys in
    let lp = length_before level (length es) at es (omega arith) in
    let lm = length_records ys in
    let ly = length-drop at es in
    let all = seam b level es at i in
    let lb : length b ≡ length (pre ++ (mid ++ i.rest)) = ap length all in
    let la = length-append pre (mid ++ i.rest) in
    let lr = length-append mid i.rest in
    let rest = drop 3 i.rest in
    let w = mid ++ i.rest in
    let up = moved_up pre mid i.rest (2 + 3 * at) (2 + 3 * n) (5 + 3 * at)
    (omega arith) (omega arith) (omega arith) (omega arith) in
    let x = get_or w 0 zero_record in
    let y = get_or w 1 zero_record in
    let z = get_or w 2 zero_record in
    let c : set (with_entry (copy_within b (2 + 3 * at) (2 + 3 * n) (5 + 3 * at)) at e) 0
    (node_header level (n + 1)) ≡ node_header level (n + 1) ∷ zero_record ∷ records_of xs
    ++ (records_of (e ∷ ys) ++ rest) =
    ap (λ rs. set (with_entry (copy_within rs (2 + 3 * at) (2 + 3 * n) (5 + 3 * at)) at e) 0
    (node_header level (n + 1))) all
    ∙ (ap (λ rs. set (with_entry rs at e) 0 (node_header level (n + 1))) up
    ∙ ap (λ rs. set rs 0 (node_header level (n + 1))) (with_seam pre (mid ++ rest) x y z at e lp)) in
    let k : n + 1 ≡ length (xs ++ e ∷ ys) = ap (λ j. j + 1) en ∙ sym (length_insert es at e (omega arith)) in
    seam_is _ level xs (e ∷ ys) rest
    (c ∙ ap (λ j. node_header level j ∷ zero_record ∷ records_of xs ++ (records_of (e ∷ ys) ++ rest)) k)
    i.level_most
    (limited_append xs (e ∷ ys) (limited_take at es i.limited) (m, limited_drop at es i.limited)) r

-- the records after three others, moved to their place
moved_down : (pre m rest : List Record) (x y z : Record) (i j dest : ℕ) → i ≡ length pre + 3
    → j ≡ i + length m → dest ≡ length pre
    → copy_within (pre ++ (x ∷ y ∷ z ∷ (m ++ rest))) i j dest
    ≡ pre ++ (m ++ drop (length pre + length m) (pre ++ (x ∷ y ∷ z ∷ (m ++ rest))))
moved_down pre m rest x y z i j dest ei ej ed =
    let b = pre ++ (x ∷ y ∷ z ∷ (m ++ rest)) in
    let l = length-append pre (x ∷ y ∷ z ∷ (m ++ rest)) in
    let k = length-append m rest in
    let n : j - i ≡ length m = omega arith in
    let first : take dest b ≡ pre = ap (λ d. take d b) ed ∙ take-append_seam pre (x ∷ y ∷ z ∷ (m ++ rest)) in
    let middle : take (j - i) (drop i b) ≡ m =
    ap (λ d. take (j - i) (drop d b)) ei
    ∙ (ap (λ s. take (j - i) s) (drop-append-add pre (x ∷ y ∷ z ∷ (m ++ rest)) 3)
    ∙ (ap (λ d. take d (m ++ rest)) n ∙ take-append_seam m rest)) in
    let e : dest + (j - i) ≡ length pre + length m = omega arith in
    copied b i j dest (omega arith) (omega arith) (omega arith)
    ∙ (ap (λ zs. (zs ++ take (j - i) (drop i b)) ++ drop (dest + (j - i)) b) first
    ∙ (ap (λ zs. (pre ++ zs) ++ drop (dest + (j - i)) b) middle
    ∙ (ap (λ d. (pre ++ m) ++ drop d b) e ∙ append_assoc pre m (drop (length pre + length m) b))))

-- there is one entry fewer
length_remove : (es : List Entry) (at : ℕ) → at < length es
    → length (take at es ++ drop (suc at) es) ≡ length es - 1
length_remove es at h =
    let a = length-append (take at es) (drop (suc at) es) in
    let b = length-take-le at es (omega arith) in
    let c = length-drop (suc at) es in omega arith

-- An entry is taken out.
pub remove_is : (b : List Record) (level : ℕ) (es : List Entry) (at n : ℕ) → Is b level es
    → n ≡ length es → at < n
    → Is (set (copy_within b (5 + 3 * at) (2 + 3 * n) (2 + 3 * at)) 0 (node_header level (n - 1))) level
    (remove es at)
remove_is b level es at n i en h =
    let pre = before level (length es) at es in
    let xs = take at es in
    let ys = drop (suc at) es in
    let mid = records_of ys in
    let e = get_or es at no_entry in
    let lp = length_before level (length es) at es (omega arith) in
    let lm = length_records ys in
    let ly = length-drop (suc at) es in
    let all = entry_seam b level es at i (omega arith) in
    let tail = pre ++ (e.low ∷ second_of e ∷ third_of e ∷ (mid ++ i.rest)) in
    let rest = drop (length pre + length mid) tail in
    let down = moved_down pre mid i.rest e.low (second_of e) (third_of e) (5 + 3 * at) (2 + 3 * n) (2 + 3 * at)
    (omega arith) (omega arith) (omega arith) in
    let c : set (copy_within b (5 + 3 * at) (2 + 3 * n) (2 + 3 * at)) 0 (node_header level (n - 1))
    ≡ node_header level (n - 1) ∷ zero_record ∷ records_of xs ++ (mid ++ rest) =
    ap (λ rs. set (copy_within rs (5 + 3 * at) (2 + 3 * n) (2 + 3 * at)) 0 (node_header level (n - 1))) all
    ∙ ap (λ rs. set rs 0 (node_header level (n - 1))) down in
    let k : n - 1 ≡ length (xs ++ ys) = ap (λ j. j - 1) en ∙ sym (length_remove es at (omega arith)) in
    seam_is _ level xs ys rest
    (c ∙ ap (λ j. node_header level j ∷ zero_record ∷ records_of xs ++ (mid ++ rest)) k)
    i.level_most
    (limited_append xs ys (limited_take at es i.limited) (limited_drop (suc at) es i.limited))
    (rises_remove es at i.rises)

-- A node's first entries alone.
pub cut_is : (b : List Record) (level : ℕ) (es : List Entry) (at : ℕ) → Is b level es → at ≤ length es
    → Is (set b 0 (node_header level at)) level (take at es)
cut_is b level es at i h = record {
  rest = records_of (drop at es) ++ i.rest;
  block_is = ap (λ rs. set rs 0 (node_header level at)) (seam b level es at i)
      ∙ ap (λ j. node_header level j ∷ zero_record ∷ records_of (take at es) ++ (records_of (drop at es) ++ i.rest))
      (sym (length-take-le at es h));
  level_most = i.level_most;
  limited = limited_take at es i.limited;
  rises = rises_take at es i.rises;
}

-- A node has room for its entries.
pub room_in : (b : List Record) → IsNode b → 2 + 3 * length (entries_of b) ≤ length b
room_in b n =
    let i = n.is in
    let e = ap length i.block_is in
    let f = length-append (records_of (entries_of b)) i.rest in
    let g = length_records (entries_of b) in omega arith

-- no entries
empty_is : (es : List Entry) → length es ≡ 0 → es ≡ []
empty_is [] h = refl
empty_is (e ∷ es) h = absurd (omega arith)

-- The place of a key, one entry further.
pub place_step : (key : Record) (es : List Entry) (j : ℕ) → suc j < length es
    → place_of key (drop j es) ≡ cond (is_below key (get_or es (suc j) no_entry).low) 0
    (1 + place_of key (drop (suc j) es))
place_step key es j h =
    let e = get_or es j no_entry in
    let f = get_or es (suc j) no_entry in
    let next : drop (suc j) es ≡ f ∷ drop (suc (suc j)) es = drop-cons es (suc j) no_entry h in
    ap (place_of key) (drop-cons es j no_entry (omega arith) ∙ ap (λ fs. e ∷ fs) next)
    ∙ ap (λ fs. cond (is_below key f.low) 0 (1 + place_of key fs)) (sym next)

-- the place of a key below the next low key
pub place_stops : (key : Record) (es : List Entry) (i : ℕ) → 1 ≤ i → i < length es
    → is_below key (get_or es i no_entry).low ≡ true → place_of key (drop (i - 1) es) ≡ 0
place_stops key es zero o h t = absurd (omega arith)
place_stops key es (suc j) o h t =
    let e : suc j - 1 ≡ j = omega arith in
    ap (λ n. place_of key (drop n es)) e ∙ (place_step key es j h ∙ cond-true _ _ _ t)

-- the place of a key that isn't below it
pub place_goes : (key : Record) (es : List Entry) (i : ℕ) → 1 ≤ i → i < length es
    → is_below key (get_or es i no_entry).low ≡ false
    → place_of key (drop (i - 1) es) ≡ 1 + place_of key (drop i es)
place_goes key es zero o h t = absurd (omega arith)
place_goes key es (suc j) o h t =
    let e : suc j - 1 ≡ j = omega arith in
    ap (λ n. place_of key (drop n es)) e ∙ (place_step key es j h ∙ cond-false _ _ _ t)

-- the place of a key in the last entry alone
pub place_last : (key : Record) (es : List Entry) → 0 < length es
    → place_of key (drop (length es - 1) es) ≡ 0
place_last key es h =
    let n = length es - 1 in
    let l = length-drop (suc n) es in
    ap (place_of key) (drop-cons es n no_entry (omega arith)
    ∙ ap (λ fs. get_or es n no_entry ∷ fs) (empty_is (drop (suc n) es) (omega arith)))

-- one more entry of the upper half
pub take_one : (es : List Entry) (half i : ℕ) → half ≤ i → i < length es
    → insert (take (i - half) (drop half es)) (i - half) (get_or es i no_entry)
    ≡ take (i + 1 - half) (drop half es)
take_one es half i h l =
    let ys = drop half es in
    let k = i - half in
    let n = length-drop half es in
    let lk : length (take k ys) ≡ k = length-take-le k ys (omega arith) in
    let e : i + 1 - half ≡ suc k = omega arith in
    let at : get_or ys k no_entry ≡ get_or es i no_entry =
    get_or-drop half es k no_entry ∙ ap (λ j. get_or es j no_entry) (omega arith) in
    ap (λ j. insert (take k ys) j (get_or es i no_entry)) (sym lk)
    ∙ (insert_end (take k ys) (get_or es i no_entry)
    ∙ (ap (λ x. take k ys ++ x ∷ []) (sym at)
    ∙ (sym (take-suc ys k no_entry (omega arith)) ∙ ap (λ j. take j ys) (sym e))))

-- how many entries of the upper half were moved
pub length_some : (es : List Entry) (half i : ℕ) → half ≤ i → i < length es
    → length (take (i - half) (drop half es)) ≡ i - half
length_some es half i h l =
    let n = length-drop half es in length-take-le (i - half) (drop half es) (omega arith)

-- the limits of one entry of a node
pub limited_one : (b : List Record) (at : ℕ) → IsNode b → at < length (entries_of b)
    → IsLimited (get_or (entries_of b) at no_entry)
limited_one b at n h = limited_at (entries_of b) at h n.is.limited

-- one more entry of a node after another's
pub fuse_one : (es us : List Entry) (i at : ℕ) → i < length us → at ≡ length (es ++ take i us)
    → insert (es ++ take i us) at (get_or us i no_entry) ≡ es ++ take (i + 1) us
fuse_one es us i at h e =
    let x = get_or us i no_entry in
    let f : suc i ≡ i + 1 = omega arith in
    ap (λ j. insert (es ++ take i us) j x) e
    ∙ (insert_end (es ++ take i us) x ∙ (append_assoc es (take i us) (x ∷ [])
    ∙ ap (λ fs. es ++ fs) (sym (take-suc us i no_entry h) ∙ ap (λ j. take j us) f)))

-- the order of a node and the first entries of another
pub fuse_rises : (es us : List Entry) (i : ℕ) → LowsRise (es ++ us) → LowsRise (es ++ take i us)
fuse_rises es us i r =
    let P : List Entry → Type 0 = LowsRise in
    subst P (take-append-add es us i) (rises_take (length es + i) (es ++ us) r)

-- how many entries these are
pub fuse_length : (es us : List Entry) (i : ℕ) → i ≤ length us
    → length (es ++ take i us) ≡ length es + i
fuse_length es us i h = length-append es (take i us) ∙ ap (λ n. length es + n) (length-take-le i us h)
