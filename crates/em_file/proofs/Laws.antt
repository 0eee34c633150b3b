-- Bytes say which records they are of.
use Rattle.std.proofs.Common.{◌≡◌, ◌<◌, ◌^◌, ℕ, List, [], ◌∷◌, ◌++◌, drop, refl, sym, ap, ◌∙◌}
use Rattle.std.proofs.lemmas.List.Elements.{All-head, All-tail}
use Rattle.std.specs.List.{All}
use Rattle.byteorder.specs.Endian.{little_bytes, little_number}
use Rattle.byteorder.specs.Numbers.{little_number-reads_back}
use Rattle.em_record.specs.declared.record.Record.{Record}
use Rattle.em_file.specs.Bytes.{IsStorable, record_bytes, bytes_of}

-- a word is read back from its bytes, whatever follows them
word_back : (n m : ℕ) (xs ys : List ℕ) → n < 2 ^ 64 → m < 2 ^ 64
    → little_bytes 8 n ++ xs ≡ little_bytes 8 m ++ ys → n ≡ m
word_back n m xs ys fits fits2 same =
    sym (little_number-reads_back 8 n xs fits) ∙ ap (little_number 8) same
    ∙ little_number-reads_back 8 m ys fits2

-- a record is read back from its bytes, whatever follows them
record_back : (x y : Record) (xs ys : List ℕ) → IsStorable x → IsStorable y
    → record_bytes x ++ xs ≡ record_bytes y ++ ys → x ≡ y
record_back x y xs ys sx sy same =
    let a = word_back x.a y.a _ _ sx.a sy.a same in
    let b = word_back x.b y.b _ _ sx.b sy.b (ap (drop 8) same) in
    let c = word_back x.c y.c _ _ sx.c sy.c (ap (drop 16) same) in
    let d = word_back x.d y.d xs ys sx.d sy.d (ap (drop 24) same) in
    same_record x y a b c d
  where
    same_record : (x y : Record) → x.a ≡ y.a → x.b ≡ y.b → x.c ≡ y.c → x.d ≡ y.d → x ≡ y
    same_record x y a b c d = λ i. record { a = a i; b = b i; c = c i; d = d i }

-- records with the same bytes are the same
pub same_records : (xs ys : List Record) → All IsStorable xs → All IsStorable ys
    → bytes_of xs ≡ bytes_of ys → xs ≡ ys
same_records [] [] sx sy same = refl
same_records [] (y ∷ ys) sx sy same = cc
same_records (x ∷ xs) [] sx sy same = cc
same_records (x ∷ xs) (y ∷ ys) sx sy same =
    let first = record_back x y (bytes_of xs) (bytes_of ys) (All-head IsStorable x xs sx)
    (All-head IsStorable y ys sy) same in
    let rest = same_records xs ys (All-tail IsStorable x xs sx) (All-tail IsStorable y ys sy)
    (ap (drop 32) same) in
    ap (λ z. z ∷ xs) first ∙ ap (λ (zs : List Record). y ∷ zs) rest

-- records that are decoded from the bytes of records are these records
pub decoded_encoded : (xs ys : List Record) (bytes : List ℕ) → All IsStorable xs → All IsStorable ys
    → bytes ≡ bytes_of xs → bytes_of ys ≡ bytes → ys ≡ xs
decoded_encoded xs ys bytes sx sy encoded decoded = same_records ys xs sy sx (decoded ∙ encoded)
