-- The order of records, which is the one that std derives for `Record`, and lists in this order.
use Rattle.std.specs.Prelude.{◌≡◌, Bool, false, if◌then◌else◌, List, [], ◌∷◌}
use Rattle.std.specs.Ordering.{nat_cmp, ordering_then, is_lt}
use Rattle.std.specs.declared.cmp.Ordering.{Ordering}
use Rattle.em_record.specs.declared.record.Record.{Record}

-- by a, then b, then c, then d
abbrev pub record_cmp : Record → Record → Ordering
record_cmp x y = ordering_then (nat_cmp x.a y.a) (ordering_then (nat_cmp x.b y.b)
    (ordering_then (nat_cmp x.c y.c) (nat_cmp x.d y.d)))

-- the first record is below the second
abbrev pub is_below : Record → Record → Bool
is_below x y = is_lt (record_cmp x y)

-- none of these is below the bound
abbrev pub AtLeast : Record → List Record → Type 0
AtLeast low [] = Unit {0}
AtLeast low (x ∷ xs) = (is_below x low ≡ false) × AtLeast low xs

-- no record is below one that stands before it
abbrev pub IsAscending : List Record → Type 0
IsAscending [] = Unit {0}
IsAscending (x ∷ xs) = AtLeast x xs × IsAscending xs

-- an ascending list with one more record, after those that are below it
abbrev pub with_record : Record → List Record → List Record
with_record x [] = x ∷ []
with_record x (y ∷ ys) = if is_below y x then y ∷ with_record x ys else x ∷ y ∷ ys

-- an ascending list with some more records, one after another
abbrev pub with_records : List Record → List Record → List Record
with_records ys [] = ys
with_records ys (x ∷ xs) = with_records (with_record x ys) xs

-- some records in ascending order
abbrev pub in_order : List Record → List Record
in_order xs = with_records [] xs

-- no record of the second list is below one of the first
abbrev pub AllAtLeast : List Record → List Record → Type 0
AllAtLeast [] ys = Unit {0}
AllAtLeast (x ∷ xs) ys = AtLeast x ys × AllAtLeast xs ys

-- no item has the words a and b of this record
abbrev pub Lacks : Record → List Record → Type 0
Lacks x [] = Unit {0}
Lacks x (y ∷ ys) = (y.a ≡ x.a → y.b ≡ x.b → ⊥) × Lacks x ys
