-- Lists in which each record, or each key, is below all that follow it.
use Rattle.std.specs.Prelude.{◌≡◌, true, List, [], ◌∷◌}
use Rattle.em_record.specs.declared.record.Record.{Record}
use Rattle.em_record.specs.Order.{is_below}

-- the record is below each of a list
abbrev pub AllAbove : Record → List Record → Type 0
AllAbove x [] = Unit {0}
AllAbove x (y ∷ ys) = (is_below x y ≡ true) × AllAbove x ys

-- each of a list is below the record
abbrev pub AllUnder : List Record → Record → Type 0
AllUnder [] z = Unit {0}
AllUnder (y ∷ ys) z = (is_below y z ≡ true) × AllUnder ys z

-- each record is below all that follow it
abbrev pub Rises : List Record → Type 0
Rises [] = Unit {0}
Rises (x ∷ xs) = AllAbove x xs × Rises xs

-- the key is below the keys of a list
abbrev pub KeysAbove : (Record → Record) → Record → List Record → Type 0
KeysAbove key k [] = Unit {0}
KeysAbove key k (x ∷ xs) = (is_below k (key x) ≡ true) × KeysAbove key k xs

-- the keys rise, so that each key has one record at most
abbrev pub RisesByKey : (Record → Record) → List Record → Type 0
RisesByKey key [] = Unit {0}
RisesByKey key (x ∷ xs) = KeysAbove key (key x) xs × RisesByKey key xs
