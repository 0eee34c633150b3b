-- Texts of pairs that were sorted by hand.
use Rattle.std.proofs.Common.{◌≡◌, refl}
use Rattle.std.specs.Prelude.{codes, []}
use Rattle.std.specs.Fmt.{digits}
use Rattle.sort_pairs.specs.Sorted.{sorted_text}

-- the least key first, and the two pairs of the key 10 as they came
as_they_came : sorted_text (codes "30 1\n10 2\n20 3\n10 1\n") ≡ codes "10 2\n10 1\n20 3\n30 1\n"
unfolding digits
as_they_came = refl

-- keys are compared as numbers, and printed without their leading zeros
by_number : sorted_text (codes "10 0\n9 00\n010 1") ≡ codes "9 0\n10 0\n10 1\n"
unfolding digits
by_number = refl

-- both ends of the numbers
ends : sorted_text (codes "18446744073709551615 0\n0 18446744073709551615\n")
    ≡ codes "0 18446744073709551615\n18446744073709551615 0\n"
unfolding digits
ends = refl

-- a text with no pair
none : sorted_text [] ≡ []
unfolding digits
none = refl
