-- What bytes begin with that were read ahead of a place in a text.
use Rattle.std.specs.Prelude.{◌≡◌, ◌≤◌, ◌<◌, ◌+◌, ℕ, List, ◌∷◌, length, drop, Ok}
use Rattle.em_lines.specs.CommandLine.{number_of}
use Rattle.em_lines.specs.Stream.{word_at}

-- a word of this many bytes, and a byte that ends it
pub record BeginsWord (bytes : List ℕ) (size : ℕ) : Type 0 where
  pub is : length (word_at bytes) ≡ size
  pub ended : size < length bytes

-- a word that is a number of this value
pub record BeginsNumber (bytes : List ℕ) (value digits : ℕ) : Type 0 where
  pub word : BeginsWord bytes digits
  pub spells : number_of (word_at bytes) ≡ Ok value

-- a number of at most 20 digits
pub record BeginsFirst (bytes : List ℕ) (value digits : ℕ) : Type 0 where
  pub number : BeginsNumber bytes value digits
  pub few : digits ≤ 20

-- a space, and a number of at most 20 digits
pub record BeginsOperand (bytes : List ℕ) (value digits : ℕ) : Type 0 where
  pub space : bytes ≡ 32 ∷ drop 1 bytes
  pub number : BeginsNumber (drop 1 bytes) value digits
  pub few : digits ≤ 20
  pub ended : 1 + digits < length bytes
