-- One record more is written or read.
use Rattle.std.proofs.Common.{◌≡◌, ℕ, ◌+◌, ◌-◌, ◌*◌, ◌<◌, ◌≤◌, List, [], ◌∷◌, ◌++◌, length, take, drop, get_or, set, refl, sym, arith, append_assoc}
use Rattle.std.proofs.lemmas.List.{append-nil, drop-drop, drop_all, drop_at, length-drop, take_at, take_more_set}
use Rattle.std.proofs.Math.Nat.{mul-le-mul_left}
use Rattle.byteorder.proofs.Slices.{write_step}
use borrow.Rule.Slice.PartMut.{post_of, put_mid}
use Rattle.std.proofs.lemmas.List.Concat.{flat_map-append}
use Rattle.std.specs.List.{flat_map}
use Rattle.em_file.proofs.Words.{take_two}

-- one item more of n bytes is read
pub read_more : {X : Type 0} (f : X → List ℕ) (n : ℕ) (from : List ℕ) (into : List X) (i : ℕ)
    (x : X)
    → i < length into → flat_map f (take i into) ≡ take (n * i) from
    → f x ≡ take n (drop (n * i) from)
    → flat_map f (take (i + 1) (set into i x)) ≡ take (n * (i + 1)) from
read_more f n from into i x fits before read =
    let e : n * (i + 1) ≡ n * i + n = omega arith in
    rw (
      e,
      take_more_set into i x fits,
      flat_map-append f (take i into) (x ∷ []),
      before,
      append-nil (f x),
      read,
    ) (take_two from (n * i) n)

-- one word more of eight bytes is written, after the first k bytes
pub word_more : (k : ℕ) (front word old xs part : List ℕ) → length front ≡ k → length word ≡ 8
    → xs ≡ front ++ drop k old → part ≡ word ++ drop 8 (drop k xs)
    → put_mid k (length xs - k) xs part ≡ (front ++ word) ++ drop (k + 8) old
word_more k front word old xs part lf lw whole written =
    let n : length (drop k xs) ≡ length xs - k = length-drop k xs in
    let none : drop (length xs - k) (drop k xs) ≡ [] =
    drop_all (length xs - k) (drop k xs) (omega arith) in
    let first : take k xs ≡ front = rw whole (take_at front (drop k old) k lf) in
    let after : drop k xs ≡ drop k old = rw whole (drop_at front (drop k old) k lf) in
    rw (none, first, written, after, drop-drop 8 k old, append-nil (word ++ drop (k + 8) old))
    (sym (append_assoc front word (drop (k + 8) old)))

-- one item more of n bytes is written
pub write_more : {X : Type 0} (f : X → List ℕ) (n : ℕ) (from : List X) (d : X) (into part : List ℕ)
    (i : ℕ)
    → length into ≡ n * length from → i < length from → length (f (get_or from i d)) ≡ n
    → part ≡ f (get_or from i d) ++ drop n (drop (n * i) into)
    → take (n * i) into ≡ flat_map f (take i from)
    → take (n * (i + 1)) (put_mid (n * i) (length into - n * i) into part)
    ≡ flat_map f (take (i + 1) from)
write_more f n from d into part i room fits len written before =
    let e : n * (i + 1) ≡ n * i + n = omega arith in
    let low : n * i ≤ n * length from = mul-le-mul_left n (omega arith) in
    rw (e, written)
    (write_step f n from d into (f (get_or from i d)) (drop n (drop (n * i) into))
    (post_of (n * i) (length into - n * i) into) i (omega arith) fits len refl before)
