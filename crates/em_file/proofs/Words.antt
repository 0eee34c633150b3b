-- Words and their bytes.
use Rattle.std.proofs.Common.{◌≡◌, ℕ, ◌+◌, ◌<◌, ◌≤◌, List, ◌++◌, length, take, drop, get_or, sym, ◌∙◌, arith, lit<, inl, inr}
use Rattle.std.proofs.lemmas.Bool.{cases_lt}
use Rattle.std.proofs.lemmas.List.{get_or-take, get_or-drop, get_or_past, length-take, length-take-le, length-drop, take-append-drop, take-take, drop-take}
use Rattle.std.proofs.lemmas.Nat.{le_bytes_8}
use Rattle.std.specs.Int.{w64, from_le_bytes}
use Rattle.byteorder.specs.Endian.{little_bytes, little_number}
use Rattle.byteorder.specs.Numbers.{little_from-take}

-- each number of a list is a byte
abbrev pub AreBytes : List ℕ → Type 0
AreBytes xs = (i : ℕ) → get_or xs i 0 < 256

-- the front of a list, in two parts
pub take_two : (xs : List ℕ) (m n : ℕ) → take m xs ++ take n (drop m xs) ≡ take (m + n) xs
take_two xs m n =
    let front : take m (take (m + n) xs) ≡ take m xs = take-take m (m + n) xs (omega arith) in
    rw (← front, ← drop-take m n xs) (take-append-drop m (take (m + n) xs))

bytes_take : (xs : List ℕ) (n : ℕ) → AreBytes xs → AreBytes (take n xs)
bytes_take xs n are i = elim (cases_lt i n) [
  | inl below ↦ rw (get_or-take n xs i 0 below) (are i)
  | inr past ↦
      let end : get_or (take n xs) i 0 ≡ 0 =
      get_or_past (take n xs) i 0 (simp length-take (omega arith)) in
      rw end (lit< tt)
]

bytes_drop : (xs : List ℕ) (n : ℕ) → AreBytes xs → AreBytes (drop n xs)
bytes_drop xs n are i = rw (get_or-drop n xs i 0) (are (n + i))

-- the bytes of the number that eight bytes spell are these bytes
pub bytes_of_number : (xs : List ℕ) → 8 ≤ length xs → AreBytes xs
    → little_bytes 8 (little_number 8 xs) ≡ take 8 xs
bytes_of_number xs room are =
    let same : little_number 8 (take 8 xs) ≡ from_le_bytes w64 (take 8 xs) = omega arith in
    le_bytes_8 (take 8 xs) (little_number 8 xs) (length-take-le 8 xs room) (bytes_take xs 8 are)
    (sym (little_from-take 0 8 8 xs (omega arith)) ∙ same)

-- four parts of eight are the first 32
joined : (ps qs rs ss xs : List ℕ) → ps ≡ take 8 xs → qs ≡ take 8 (drop 8 xs)
    → rs ≡ take 8 (drop 16 xs) → ss ≡ take 8 (drop 24 xs)
    → ps ++ qs ++ rs ++ ss ≡ take 32 xs
joined ps qs rs ss xs fa fb fc fd =
    rw (fa, fb, fc, fd, take_two xs 8 8, take_two xs 16 8) (take_two xs 24 8)

-- the bytes of the four words that 32 bytes spell are these bytes
pub bytes_of_words : (xs : List ℕ) (a b c d : ℕ) → 32 ≤ length xs → AreBytes xs
    → a ≡ little_number 8 xs → b ≡ little_number 8 (drop 8 xs)
    → c ≡ little_number 8 (drop 16 xs) → d ≡ little_number 8 (drop 24 xs)
    → little_bytes 8 a ++ little_bytes 8 b ++ little_bytes 8 c ++ little_bytes 8 d ≡ take 32 xs
bytes_of_words xs a b c d room are ea eb ec ed =
    let fa : little_bytes 8 a ≡ take 8 xs = rw ea (bytes_of_number xs (omega arith) are) in
    let lb : 8 ≤ length (drop 8 xs) = rw (length-drop 8 xs) (omega arith) in
    let lc : 8 ≤ length (drop 16 xs) = rw (length-drop 16 xs) (omega arith) in
    let ld : 8 ≤ length (drop 24 xs) = rw (length-drop 24 xs) (omega arith) in
    let fb : little_bytes 8 b ≡ take 8 (drop 8 xs) =
    rw eb (bytes_of_number (drop 8 xs) lb (bytes_drop xs 8 are)) in
    let fc : little_bytes 8 c ≡ take 8 (drop 16 xs) =
    rw ec (bytes_of_number (drop 16 xs) lc (bytes_drop xs 16 are)) in
    let fd : little_bytes 8 d ≡ take 8 (drop 24 xs) =
    rw ed (bytes_of_number (drop 24 xs) ld (bytes_drop xs 24 are)) in
    joined _ _ _ _ xs fa fb fc fd
