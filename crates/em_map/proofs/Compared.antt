-- Numbers that are compared.
use Rattle.std.proofs.Common.{ℕ, ◌≡◌, ◌<◌, arith, refl}
use Rattle.std.specs.Ordering.{MatchOrdering, nat_cmp}
use Rattle.std.specs.declared.cmp.Ordering.{Ordering}
use Rattle.std.specs.declared.cmp.Ordering.TheVariants.{Less, Equal, Greater}
use Rattle.std.proofs.lemmas.Cmp.{ranked}

is_less : (m n : ℕ) (r : Ordering) → MatchOrdering r (m < n) (m ≡ n) (n < m) → m < n → r ≡ Less
is_less m n Less h k = refl
is_less m n Equal h k = absurd (omega (arith, h, k))
is_less m n Greater h k = absurd (omega (arith, h, k))

-- a lesser number compares as less
pub less : (m n : ℕ) → m < n → nat_cmp m n ≡ Less
less m n h = is_less m n (nat_cmp m n) (ranked m n (nat_cmp m n) refl) h
