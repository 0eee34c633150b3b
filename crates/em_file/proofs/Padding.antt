-- Reads that fill a buffer, with zeros past the end.
use Rattle.std.proofs.Common.{◌≡◌, ℕ, ◌+◌, ◌-◌, ◌<◌, ◌≤◌, List, [], ◌++◌, length, take, drop, replicate, Option, Some, None, IfSome, refl, sym, ◌∙◌, arith, inl, inr, append_assoc, length-append}
use Rattle.std.proofs.lemmas.Bool.{cases_lt}
use Rattle.std.proofs.lemmas.List.{append-nil, drop_all, length-drop, length-replicate, length-take-le, replicate-append-replicate, take_all, take_at}
use Rattle.std.proofs.lemmas.Slice.{take-put_mid_below}
use Rattle.std.proofs.Math.Seq.{take-append-add}
use Rattle.std.specs.Io.KnownBytes.{Consumes, IsAtEnd, Keeps}
use borrow.Rule.Slice.PartMut.{put_mid}
use Rattle.em_file.specs.Padded.{padded}

-- the end of a list gives way to another of that length
put_end : (k : ℕ) (into part : List ℕ) → put_mid k (length into - k) into part ≡ take k into ++ part
put_end k into part =
    let n : length (drop k into) ≡ length into - k = length-drop k into in
    let none : drop (length into - k) (drop k into) ≡ [] =
    drop_all (length into - k) (drop k into) (omega arith) in
    rw (none, append-nil part) refl

-- the front of a buffer, with zeros after it
padded_end : (k : ℕ) (into : List ℕ) → k ≤ length into
    → put_mid k (length into - k) into (replicate (length into - k) 0)
    ≡ padded (length into) (take k into)
padded_end k into room =
    let n = length into in
    let front = take k into in
    let zeros : List ℕ = replicate (n - k) 0 in
    let len : length front ≡ k = length-take-le k into room in
    let sum : (n - k) + k ≡ n = omega arith in
    let split : replicate n 0 ≡ zeros ++ replicate k 0 =
    rw (replicate-append-replicate {A = ℕ} (n - k) k 0, sum) refl in
    let fits : length (front ++ zeros) ≡ n =
    length-append front zeros ∙ rw (len, length-replicate {A = ℕ} (n - k) 0) (omega arith) in
    rw (put_end k into zeros, split, ← append_assoc front zeros (replicate k 0))
    (sym (take_at (front ++ zeros) (replicate k 0) n fits))

-- a part of the buffer was written
pub put_length : (k : ℕ) (into part : List ℕ) → k ≤ length into → length part ≡ length into - k
    → length (put_mid k (length into - k) into part) ≡ length into
put_length k into part room len =
    rw (put_end k into part)
    (length-append (take k into) part ∙ rw (length-take-le k into room, len) (omega arith))

-- two reads in a row
pub consumes_more : (old now new : Option (List ℕ)) (k n : ℕ) (into part : List ℕ)
    → k ≤ length into → n ≤ length part → Consumes old now (take k into)
    → Consumes now new (take n part)
    → Consumes old new (take (k + n) (put_mid k (length into - k) into part))
consumes_more None now new k n into part in_into in_part first second = tt
consumes_more (Some xs) None new k n into part in_into in_part first second = absurd first
consumes_more (Some xs) (Some ys) None k n into part in_into in_part first second = absurd second
consumes_more (Some xs) (Some ys) (Some zs) k n into part in_into in_part first second =
    let len : length (take k into) ≡ k = length-take-le k into in_into in
    let both : take (k + n) (take k into ++ part) ≡ take k into ++ take n part =
    front_more k n (take k into) part len in
    rw (put_end k into part, both, first, second)
    (sym (append_assoc (take k into) (take n part) zs))
  where
    front_more : (k n : ℕ) (front part : List ℕ) → length front ≡ k
        → take (k + n) (front ++ part) ≡ front ++ take n part
    front_more k n front part len = rw len at (take-append-add front part n)

-- a read that failed took no bytes, and may have changed the buffer after those that were read
pub consumes_kept : (old now new : Option (List ℕ)) (k : ℕ) (into part : List ℕ) → k ≤ length into
    → Consumes old now (take k into) → Keeps now new
    → Consumes old new (take k (put_mid k (length into - k) into part))
consumes_kept None now new k into part room read same = tt
consumes_kept (Some xs) None new k into part room read same = absurd read
consumes_kept (Some xs) (Some ys) None k into part room read same = absurd same
consumes_kept (Some xs) (Some ys) (Some zs) k into part room read same =
    rw (take-put_mid_below k (length into - k) into part k (omega arith) room, same) read

-- some bytes that were read, with zeros after the last one
pub padded_read : (old new : Option (List ℕ)) (k : ℕ) (into : List ℕ) → k ≤ length into
    → Consumes old new (take k into) → (k < length into → IsAtEnd new)
    → IfSome old (λ xs. put_mid k (length into - k) into (replicate (length into - k) 0)
    ≡ padded (length into) xs)
padded_read None new k into room read end = tt
padded_read (Some xs) None k into room read end = absurd read
padded_read (Some xs) (Some ys) k into room read end = elim (cases_lt k (length into)) [
  | inl below ↦ rw (read, end below, append-nil (take k into)) (padded_end k into room)
  | inr full ↦
      let n = length into in
      let whole : take k into ≡ into = take_all k into full in
      let none : n - k ≡ 0 = omega arith in
      rw (
        put_end k into (replicate (n - k) 0),
        none,
        read,
        whole,
        append-nil into,
        append_assoc into ys (replicate n 0),
      ) (sym (take_at into (ys ++ replicate n 0) n refl))
]
