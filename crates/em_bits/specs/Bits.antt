-- A bit for each number, in a row of records.
use Rattle.std.specs.Prelude.{◌≡◌, ◌≢◌, ℕ, zero, suc, ◌/◌, ◌%◌, ◌*◌, ◌<◌, ◌≤◌, ◌==◌, ◌&&◌, Bool, true, List, get_or, length}
use Rattle.std.specs.Int.{bit_at}
use Rattle.em_record.specs.declared.record.Record.{Record}

-- the word at a place
abbrev pub word_at : Record → ℕ → ℕ
word_at r zero = r.a
word_at r (suc zero) = r.b
word_at r (suc (suc zero)) = r.c
word_at r (suc (suc (suc n))) = r.d

-- the record with another word at a place
abbrev pub put_word : Record → ℕ → ℕ → Record
put_word r zero w = record r { a = w }
put_word r (suc zero) w = record r { b = w }
put_word r (suc (suc zero)) w = record r { c = w }
put_word r (suc (suc (suc n))) w = record r { d = w }

-- a bit of a record
abbrev pub bit_of : Record → ℕ → ℕ
bit_of r k = bit_at (word_at r (k / 64)) (k % 64)

-- a record of four zeros
abbrev pub no_bits : Record
no_bits = record { a = 0; b = 0; c = 0; d = 0 }

-- a bit of a row of records
abbrev pub bit_in : List Record → ℕ → ℕ
bit_in xs k = bit_of (get_or xs (k / 256) no_bits) (k % 256)

-- whether it is 1
abbrev pub has_bit : List Record → ℕ → Bool
has_bit xs k = bit_in xs k == 1

-- A bit was made 0, and no other changed.
pub record Clears (at : ℕ) (xs ys : List Record) : Type 0 where
  pub same : bit_in ys at ≡ 0
  pub other : (k : ℕ) → k < 256 * length xs → k ≢ at → bit_in ys k ≡ bit_in xs k
  pub long : length ys ≡ length xs

-- A bit became the conjunction of what it was and of another one, and no other changed.
pub record AndsIn (at : ℕ) (bit : Bool) (xs ys : List Record) : Type 0 where
  pub same : has_bit ys at ≡ (has_bit xs at && bit)
  pub other : (k : ℕ) → k < 256 * length xs → k ≢ at → has_bit ys k ≡ has_bit xs k
  pub long : length ys ≡ length xs

-- All bits are 1.
pub record Fills (xs ys : List Record) : Type 0 where
  pub ones : (k : ℕ) → k < 256 * length ys → has_bit ys k ≡ true
  pub long : length ys ≡ length xs

-- The bits up to this one are 1.
pub record FillsUpTo (last : ℕ) (xs ys : List Record) : Type 0 where
  pub ones : (k : ℕ) → k ≤ last → has_bit ys k ≡ true
  pub long : length ys ≡ length xs
