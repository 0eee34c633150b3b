-- Records in order have their first words in order.
use Rattle.std.specs.Prelude.{true, false, ◌≡◌}
use Rattle.std.proofs.Common.{ap, refl}
use Rattle.std.specs.Ordering.{ordering_then, is_lt}
use Rattle.std.specs.declared.cmp.Ordering.{Ordering}
use Rattle.std.specs.declared.cmp.Ordering.TheVariants.{Less, Equal, Greater}
use Rattle.std.proofs.lemmas.Bool.{false≢true}
use Rattle.em_record.specs.declared.record.Record.{Record}
use Rattle.em_record.specs.Order.{record_cmp, is_below}
use Rattle.em_record.proofs.Order.{record_total}

-- what isn't less by two comparisons isn't less by the first
pub first_alone : (o p : Ordering) → is_lt (ordering_then o p) ≡ false
    → is_lt (ordering_then o Equal) ≡ false
first_alone Less p e = e
first_alone Equal p e = refl
first_alone Greater p e = refl

-- what isn't less by three comparisons isn't less by the first two
pub first_two : (o p q : Ordering) → is_lt (ordering_then o (ordering_then p q)) ≡ false
    → is_lt (ordering_then o (ordering_then p Equal)) ≡ false
first_two Less p q e = e
first_two Equal p q e = first_alone p q e
first_two Greater p q e = refl

-- the ordering whose test for less is true
is_less : (o : Ordering) → is_lt o ≡ true → o ≡ Less
is_less Less e = refl
is_less Equal e = absurd (false≢true e)
is_less Greater e = absurd (false≢true e)

-- what is below a record is below all above it
pub below_trans : (x y z : Record) → is_below x y ≡ true → is_below y z ≡ true
    → is_below x z ≡ true
below_trans x y z h k = ap is_lt (record_total.trans x y z
    (is_less (record_cmp x y) h) (is_less (record_cmp y z) k))
