-- Worked numbers: what stands at a place of a text.
use Rattle.std.specs.Prelude.{◌≡◌, ◌-◌, ◌^◌, [], codes, refl}
use Rattle.em_io.specs.declared.digits.Digits.TheVariants.{Nothing, Value, TooMany, TooLong}
use Rattle.em_io.specs.Digits.{digits_at}

digits_before_a_space : digits_at 0 (codes "12 ") ≡ Value 12 2
digits_before_a_space = refl

digits_at_the_end : digits_at 7 (codes "305") ≡ Value 305 3
digits_at_the_end = refl

leading_zeros_count : digits_at 0 (codes "007\n") ≡ Value 7 3
leading_zeros_count = refl

twenty_digits : digits_at 0 (codes "99999999999999999999 1") ≡ Value 99999999999999999999 20
twenty_digits = refl

twenty_one_digits : digits_at 0 (codes "000000000000000000001 1") ≡ TooMany
twenty_one_digits = refl

no_digit : digits_at 0 (codes "-1") ≡ Nothing
no_digit = refl

no_byte : digits_at 0 [] ≡ Nothing
no_byte = refl

-- The bytes before and after the digits in the table of characters.

a_slash : digits_at 0 (codes "/1") ≡ Nothing
a_slash = refl

a_colon : digits_at 0 (codes "1:") ≡ Value 1 1
a_colon = refl

-- The end of what is read: no byte at the offset 2^50 is.

a_last_digit : digits_at (2 ^ 50 - 1) (codes "1") ≡ Value 1 1
a_last_digit = refl

a_digit_past_the_last : digits_at (2 ^ 50 - 1) (codes "12") ≡ TooLong
a_digit_past_the_last = refl

a_space_past_the_last : digits_at (2 ^ 50 - 1) (codes "1 ") ≡ TooLong
a_space_past_the_last = refl

a_space_for_the_last : digits_at (2 ^ 50 - 1) (codes " 12") ≡ Nothing
a_space_for_the_last = refl

an_end_at_the_limit : digits_at (2 ^ 50) [] ≡ Nothing
an_end_at_the_limit = refl

a_byte_at_the_limit : digits_at (2 ^ 50) (codes " ") ≡ TooLong
a_byte_at_the_limit = refl

a_space_after_20_digits : digits_at (2 ^ 50 - 21) (codes "11111111111111111111 ")
    ≡ Value 11111111111111111111 20
a_space_after_20_digits = refl

a_twenty_first_digit_at_the_limit :
    digits_at (2 ^ 50 - 20) (codes "111111111111111111111") ≡ TooLong
a_twenty_first_digit_at_the_limit = refl

a_twenty_second_digit_at_the_limit :
    digits_at (2 ^ 50 - 21) (codes "1111111111111111111111") ≡ TooMany
a_twenty_second_digit_at_the_limit = refl
