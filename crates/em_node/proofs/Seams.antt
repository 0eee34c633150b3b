-- Lists of records with a seam, and the records of entries.
use Rattle.std.specs.Prelude.{◌≡◌, ℕ, zero, suc, ◌+◌, ◌*◌, ◌-◌, ◌≤◌, List, [], ◌∷◌, ◌++◌, length, get_or, set, drop, take}
use Rattle.std.specs.List.{copy_within}
use Rattle.std.proofs.Math.Seq.{paste}
use Rattle.std.proofs.Common.{sym, ap, subst, ◌∙◌, refl, arith}
use Rattle.std.proofs.lemmas.List.{take-append-drop, length-drop}
use Rattle.std.proofs.lemmas.List.Edits.{take-paste, drop-paste}
use Rattle.em_record.specs.declared.record.Record.{Record}
use Rattle.em_node.specs.declared.entry.Entry.{Entry}
use Rattle.em_node.specs.Node.{second_of, third_of, records_of, entry_of, entries_from, entries_of, level_of, Is, IsNode, AreLimited}

-- the place of a record after the first
suc_of : (i n j : ℕ) → i ≡ suc n + j → i ≡ suc (n + j)
suc_of i n j e = omega arith

-- the place of a record after none
zero_of : (i j : ℕ) → i ≡ zero + j → i ≡ j
zero_of i j e = omega arith

-- a record past a seam
pub at_seam : (pre post : List Record) (i j : ℕ) (d : Record) → i ≡ length pre + j
    → get_or (pre ++ post) i d ≡ get_or post j d
at_seam [] post i j d e = ap (λ n. get_or post n d) (zero_of i j e)
at_seam (x ∷ pre) post i j d e =
    ap (λ n. get_or (x ∷ pre ++ post) n d) (suc_of i (length pre) j e)
    ∙ at_seam pre post (length pre + j) j d refl

-- a record past a seam is written
pub set_seam : (pre post : List Record) (i j : ℕ) (v : Record) → i ≡ length pre + j
    → set (pre ++ post) i v ≡ pre ++ set post j v
set_seam [] post i j v e = ap (λ n. set post n v) (zero_of i j e)
set_seam (x ∷ pre) post i j v e =
    ap (λ n. set (x ∷ pre ++ post) n v) (suc_of i (length pre) j e)
    ∙ ap (λ zs. x ∷ zs) (set_seam pre post (length pre + j) j v refl)

-- what a copy leaves
pub copied : (xs : List Record) (i j dest : ℕ) → i ≤ j → j ≤ length xs → dest + (j - i) ≤ length xs
    → copy_within xs i j dest
    ≡ (take dest xs ++ take (j - i) (drop i xs)) ++ drop (dest + (j - i)) xs
copied xs i j dest a b c =
    let n = j - i in
    let s = drop i xs in
    let l = length-drop i xs in
    let short : n ≤ length s = omega arith in
    let front : dest ≤ length xs = omega arith in
    sym (take-append-drop (dest + n) (paste xs dest s n))
    ∙ (ap (λ zs. zs ++ drop (dest + n) (paste xs dest s n)) (take-paste xs dest s n front short)
    ∙ ap (λ zs. (take dest xs ++ take n s) ++ zs) (drop-paste xs dest s n front short))

-- the records of n entries are 3n
pub length_records : (es : List Entry) → length (records_of es) ≡ 3 * length es
length_records [] = refl
length_records (e ∷ es) = let h = length_records es in omega arith

-- the records of two lists of entries
pub records_append : (xs ys : List Entry) → records_of (xs ++ ys) ≡ records_of xs ++ records_of ys
records_append [] ys = refl
records_append (e ∷ es) ys =
    ap (λ rs. e.low ∷ second_of e ∷ third_of e ∷ rs) (records_append es ys)

-- five words are these five
five_words : (ws : List ℕ) → length ws ≡ 5
    → get_or ws 0 0 ∷ get_or ws 1 0 ∷ get_or ws 2 0 ∷ get_or ws 3 0 ∷ get_or ws 4 0 ∷ [] ≡ ws
five_words [] e = absurd (omega arith)
five_words (a ∷ []) e = absurd (omega arith)
five_words (a ∷ b ∷ []) e = absurd (omega arith)
five_words (a ∷ b ∷ c ∷ []) e = absurd (omega arith)
five_words (a ∷ b ∷ c ∷ d ∷ []) e = absurd (omega arith)
five_words (a ∷ b ∷ c ∷ d ∷ f ∷ []) e = refl
five_words (a ∷ b ∷ c ∷ d ∷ f ∷ g ∷ ws) e = absurd (omega arith)

-- an entry is read as it was written
pub same_entry : (e : Entry) → length e.buffer ≡ 5 → entry_of e.low (second_of e) (third_of e) ≡ e
same_entry e l = let k = e.low in let c = e.child in
    ap (λ (ws : List ℕ). record { low = k; child = c; buffer = ws }) (five_words e.buffer l)

-- entries are read as they were written
pub read_back : (es : List Entry) (rest : List Record) → AreLimited es
    → entries_from (length es) (records_of es ++ rest) ≡ es
read_back [] rest h = refl
read_back (e ∷ es) rest h =
    ap (λ f. f ∷ entries_from (length es) (records_of es ++ rest)) (same_entry e h.0.words)
    ∙ ap (λ fs. e ∷ fs) (read_back es rest h.1)

-- What a block is, as what it reads as: its entries,
pub entries_is : (block : List Record) (level : ℕ) (es : List Entry) → Is block level es
    → entries_of block ≡ es
entries_is block level es h = ap entries_of h.block_is ∙ read_back es h.rest h.limited

-- its level,
pub level_is : (block : List Record) (level : ℕ) (es : List Entry) → Is block level es
    → level_of block ≡ level
level_is block level es h = ap level_of h.block_is

-- and both.
pub node_is : (block : List Record) (level : ℕ) (es : List Entry) → Is block level es → IsNode block
node_is block level es h =
    let P : ℕ → Type 0 = λ l. Is block l (entries_of block) in
    let Q : List Entry → Type 0 = λ fs. Is block level fs in
    record { is = subst P (sym (level_is block level es h)) (subst Q (sym (entries_is block level es h)) h) }
