-- Windows and moments that were compared by hand.
use Rattle.std.proofs.Common.{◌≡◌, refl}
use Rattle.std.specs.Prelude.{codes, []}
use Rattle.std.specs.Fmt.{digits}
use Rattle.windows.specs.Holding.{holding_text}

-- both ends are of a window, and a window may be one moment
ends_included : holding_text (codes "0 5\n5 9\n7 7\n") (codes "5\n7\n10\n0\n") ≡ codes "0 0\n0 1\n1 1\n1 2\n3 0\n"
unfolding digits
ends_included = refl

-- the greatest moment
last_moment : holding_text (codes "0 18446744073709551615\n1 1\n") (codes "18446744073709551615\n") ≡ codes "0 0\n"
unfolding digits
last_moment = refl

-- equal windows have a line each
equal_windows : holding_text (codes "1 2\n1 2") (codes "2") ≡ codes "0 0\n0 1\n"
unfolding digits
equal_windows = refl

-- nothing is asked, or nothing there
none_asked : holding_text (codes "1 2\n") [] ≡ []
unfolding digits
none_asked = refl

none_held : holding_text [] (codes "1\n2\n") ≡ []
unfolding digits
none_held = refl
