-- The number that stands at a place of a text.
use Rattle.std.specs.Prelude.{◌≡◌, ◌≤◌, ◌<◌, ◌+◌, ◌-◌, ◌^◌, ◌==◌, ◌&&◌, Bool, ℕ, List, [], length, min, nat_le, nat_lt, if◌then◌else◌}
use Rattle.std.specs.Char.{is_ascii_digit}
use Rattle.std.specs.List.{take_while}
use Rattle.std.specs.Str.Parse.{AllDigits, digits_value}
use Rattle.em_io.specs.declared.digits.Digits.{Digits}
use Rattle.em_io.specs.declared.digits.Digits.TheVariants.{Nothing, Value, TooMany, TooLong}
use Rattle.em_io.specs.Feed.{Fed, Takes}
use Rattle.em_io.specs.Shelf.{Stand}

-- the digits at the front of these bytes
abbrev pub leading_digits : List ℕ → List ℕ
leading_digits bytes = take_while is_ascii_digit bytes

-- Whether a number that begins at this place looks at a byte at the offset 2^50. A number looks at
-- its digits, at most 20, and at the byte after them.
abbrev pub looks_at_limit : ℕ → List ℕ → Bool
looks_at_limit place bytes =
    nat_le (2 ^ 50) (place + min (length (leading_digits bytes)) 20)
    && nat_lt (2 ^ 50 - place) (length bytes)

-- what stands at this place of a text, of which these bytes are left
abbrev pub digits_at : ℕ → List ℕ → Digits
digits_at place bytes =
    let digits = leading_digits bytes in
    if looks_at_limit place bytes then TooLong
    else if length digits == 0 then Nothing
    else if nat_lt 20 (length digits) then TooMany
    else Value (digits_value 10 digits) (length digits)

-- some digits were taken, at most 20
pub record TakesSomeDigits (tells : Bool) (feed : Fed) (stand : Stand)
    (feed_after : Fed) (stand_after : Stand) : Type 0 where
  pub bytes : List ℕ
  pub takes : Takes tells bytes feed stand feed_after stand_after
  pub digits : AllDigits 10 bytes
  pub most : length bytes ≤ 20

-- `count` digits were taken that spell `value`
pub record TakesNumber (tells : Bool) (feed : Fed) (stand : Stand)
    (feed_after : Fed) (stand_after : Stand) (value count : ℕ) : Type 0 where
  pub some : TakesSomeDigits tells feed stand feed_after stand_after
  pub spells : digits_value 10 some.bytes ≡ value
  pub size : length some.bytes ≡ count
  pub most : count ≤ 20
  pub bound : value < 10 ^ count

-- what was taken, by what was found
abbrev pub TakesDigits : Bool → Fed → Stand → Fed → Stand → Digits → Type 0
TakesDigits tells feed stand feed_after stand_after Nothing =
    Takes tells [] feed stand feed_after stand_after
TakesDigits tells feed stand feed_after stand_after (Value value count) =
    (0 < count) × TakesNumber tells feed stand feed_after stand_after value count
TakesDigits tells feed stand feed_after stand_after TooMany = feed_after.place ≡ feed.place + 20
TakesDigits tells feed stand feed_after stand_after TooLong = feed_after.place ≡ 2 ^ 50
