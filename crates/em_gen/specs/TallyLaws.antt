-- The laws of a tally, as of every sink.
use Rattle.std.specs.Prelude.{◌≡◌, ℕ, ◌+◌, ◌%◌, ◌^◌, ◌<◌, ◌==◌, List, [], ◌∷◌, ◌++◌, length, get_or, if◌then◌else◌}
use Rattle.std.proofs.Common.{refl, sym, ap, ◌∙◌, arith, length-append}
use Rattle.std.proofs.Math.Nat.{add_assoc, zero-add}
use Rattle.em_io.specs.Sink.{IsRule}
use Rattle.em_gen.specs.Tally.{AreThree, byte_sum, newlines, tallied, three}

newlines_append : (x y : List ℕ) → newlines (x ++ y) ≡ newlines x + newlines y
newlines_append [] y = sym (zero-add (newlines y))
newlines_append (b ∷ x) y =
    let h = newlines_append x y in
    let n = if b == 10 then 1 else 0 in
    ap (λ (k : ℕ). n + k) h ∙ sym (add_assoc n (newlines x) (newlines y))

sum_append : (x y : List ℕ) → byte_sum (x ++ y) ≡ byte_sum x + byte_sum y
sum_append [] y = sym (zero-add (byte_sum y))
sum_append (b ∷ x) y =
    ap (λ (k : ℕ). b + k) (sum_append x y) ∙ sym (add_assoc b (byte_sum x) (byte_sum y))

-- two rises are one, modulo 2^64
twice : (a m n : ℕ) → ((a + m) % 2 ^ 64 + n) % 2 ^ 64 ≡ (a + (m + n)) % 2 ^ 64
twice a m n = omega arith

below : (n : ℕ) → n % 2 ^ 64 < 2 ^ 64
below n = omega arith

still : (a : ℕ) → a < 2 ^ 64 → (a + 0) % 2 ^ 64 ≡ a
still a h = omega arith

-- two writes are one,
pub tally_twice : (s x y : List ℕ) → tallied (tallied s x) y ≡ tallied s (x ++ y)
tally_twice s x y =
    let a = newlines_append x y in
    let b = length-append x y in
    let c = sum_append x y in
    let p = twice (get_or s 0 0) (newlines x) (newlines y) in
    let q = twice (get_or s 1 0) (length x) (length y) in
    let r = twice (get_or s 2 0) (byte_sum x) (byte_sum y) in
    rw (a, b, c) (λ i. three (p i) (q i) (r i))

-- nothing written leaves three numbers,
pub tally_nothing : (s : List ℕ) → AreThree s → tallied s [] ≡ s
tally_nothing s h =
    let p = still (get_or s 0 0) h.lines in
    let q = still (get_or s 1 0) h.bytes in
    let r = still (get_or s 2 0) h.sum in
    (λ i. three (p i) (q i) (r i)) ∙ sym h.is

-- and what is written are three numbers.
pub tally_three : (s x : List ℕ) → AreThree (tallied s x)
tally_three s x = record {
  is = refl;
  lines = below (get_or s 0 0 + newlines x);
  bytes = below (get_or s 1 0 + length x);
  sum = below (get_or s 2 0 + byte_sum x);
}

pub tally_rule : IsRule AreThree tallied
tally_rule = record {
  stays = λ s x h. tally_three s x;
  nothing = λ s h. tally_nothing s h;
  both = λ s x y h. tally_twice s x y;
}
