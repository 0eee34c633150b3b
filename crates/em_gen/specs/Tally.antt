-- The numbers of a text: its newlines, its bytes, and the sum of its bytes.
use Rattle.std.specs.Prelude.{◌≡◌, ℕ, ◌+◌, ◌%◌, ◌^◌, ◌<◌, ◌==◌, List, [], ◌∷◌, length, get_or, if◌then◌else◌}

abbrev pub newlines : List ℕ → ℕ
newlines [] = 0
newlines (b ∷ bs) = (if b == 10 then 1 else 0) + newlines bs

abbrev pub byte_sum : List ℕ → ℕ
byte_sum [] = 0
byte_sum (b ∷ bs) = b + byte_sum bs

-- three numbers, as the state of a sink
abbrev pub three : ℕ → ℕ → ℕ → List ℕ
three lines bytes sum = lines ∷ bytes ∷ sum ∷ []

-- these are three numbers of 64 bits
pub record AreThree (s : List ℕ) : Type 0 where
  pub is : s ≡ three (get_or s 0 0) (get_or s 1 0) (get_or s 2 0)
  pub lines : get_or s 0 0 < 2 ^ 64
  pub bytes : get_or s 1 0 < 2 ^ 64
  pub sum : get_or s 2 0 < 2 ^ 64

-- the state after these bytes: each number rises, modulo 2^64
abbrev pub tallied : List ℕ → List ℕ → List ℕ
tallied s x = three ((get_or s 0 0 + newlines x) % 2 ^ 64) ((get_or s 1 0 + length x) % 2 ^ 64)
    ((get_or s 2 0 + byte_sum x) % 2 ^ 64)
