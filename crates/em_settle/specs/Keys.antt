-- Records by their keys. In this folder `key` gives the key of an operation or of a stored record.
use Rattle.std.specs.Prelude.{◌≡◌, Bool, cond, List, [], ◌∷◌, Option, Some, None, filter}
use Rattle.std.specs.Ordering.{is_eq}
use Rattle.em_record.specs.declared.record.Record.{Record}
use Rattle.em_record.specs.Order.{record_cmp}

-- the record has this key
unfoldable pub has_key : (Record → Record) → Record → Record → Bool
has_key key q x = is_eq (record_cmp (key x) q)

-- the records of one key, in the order in which they stand
abbrev pub of_key : (Record → Record) → Record → List Record → List Record
of_key key q xs = filter (has_key key q) xs

-- the first record of a key
abbrev pub record_at : (Record → Record) → List Record → Record → Option Record
record_at key [] q = None
record_at key (x ∷ xs) q = cond (has_key key q x) (Some x) (record_at key xs q)

-- both lists have the same records of each key, in the same order
abbrev pub SameByKey : (Record → Record) → List Record → List Record → Type 0
SameByKey key xs ys = (q : Record) → of_key key q xs ≡ of_key key q ys

-- all these records have the key, and are operations
abbrev pub AllOf : (Record → Record) → (Record → Type 0) → Record → List Record → Type 0
AllOf key IsOp q [] = Unit {0}
AllOf key IsOp q (x ∷ xs) = (key x ≡ q) × IsOp x × AllOf key IsOp q xs
