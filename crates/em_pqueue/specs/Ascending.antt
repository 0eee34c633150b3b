-- Records whose keys rise ascend.
use Rattle.std.specs.Prelude.{◌≡◌, true, false, List, [], ◌∷◌}
use Rattle.std.proofs.Common.{sym, ◌∙◌, ⊎_elim}
use Rattle.std.proofs.lemmas.Bool.{cases_Bool, false≢true}
use Rattle.em_record.specs.declared.record.Record.{Record}
use Rattle.em_record.specs.Order.{is_below, AtLeast, IsAscending}
use Rattle.em_record.proofs.Order.{below_ranks}
use Rattle.em_settle.specs.Bag.{bag_key_of}
use Rattle.em_settle.specs.BagLaws as bag
use Rattle.em_settle.specs.Rising.{KeysAbove, RisesByKey}

-- A record whose key is below another's is below it,
pub below_of_keys : (x y : Record) → is_below (bag_key_of x) (bag_key_of y) ≡ true
    → is_below x y ≡ true
below_of_keys x y h = ⊎_elim
    (λ (t : is_below x y ≡ true). t)
    (λ (f : is_below x y ≡ false). absurd (false≢true (sym (bag.in_order y x f) ∙ h)))
    (cases_Bool (is_below x y))

pub least_of_keys : (x : Record) (ys : List Record) → KeysAbove bag_key_of (bag_key_of x) ys
    → AtLeast x ys
least_of_keys x [] h = tt
least_of_keys x (y ∷ ys) h =
    (below_ranks.one_way x y (below_of_keys x y h.0), least_of_keys x ys h.1)

-- so that records ascend if their keys rise.
pub rising_ascends : (xs : List Record) → RisesByKey bag_key_of xs → IsAscending xs
rising_ascends [] h = tt
rising_ascends (x ∷ xs) h = (least_of_keys x xs h.0, rising_ascends xs h.1)
