-- Texts of words that were counted by hand.
use Rattle.std.proofs.Common.{◌≡◌, refl}
use Rattle.std.specs.Prelude.{codes, [], ◌++◌, ◌∷◌, List, ℕ}
use Rattle.std.specs.Fmt.{digits}
use Rattle.count_words.specs.Counts.{counts_text, times_of}

-- three times, twice, not at all, and three times again
asked_twice : counts_text (codes "7\n3\n7\n7\n3\n1\n") (codes "7\n3\n5\n7\n") ≡ codes "3\n2\n0\n3\n"
unfolding digits
asked_twice = refl

-- a number with a leading zero is the same word
leading_zero : counts_text (codes "07\n7") (codes "7") ≡ codes "2\n"
unfolding digits
leading_zero = refl

-- nothing is asked, or nothing counted
none_asked : counts_text (codes "7\n") [] ≡ []
unfolding digits
none_asked = refl

none_counted : counts_text [] (codes "7\n") ≡ codes "0\n"
unfolding digits
none_counted = refl

-- the words before a faulty line alone are counted
before_the_fault : counts_text (codes "7\n7 \n7\n") (codes "7\n") ≡ codes "1\n"
unfolding digits
before_the_fault = refl
