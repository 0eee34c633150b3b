-- Pairs in the order of their keys, and the leaves that they are cut into. A leaf is its low key with its records.
use Rattle.std.specs.Prelude.{◌≡◌, ◌⊎◌, ℕ, ◌*◌, ◌<◌, ◌≤◌, List, [], ◌∷◌, ◌++◌, length}
use Rattle.em_record.specs.Shape.{ShapeNumbers}
use Rattle.em_record.specs.declared.record.Record.{Record}
use Rattle.em_frames.specs.Pool.{load_of}
use Rattle.em_settle.specs.Map.{map_key_of}
use Rattle.em_settle.specs.Rising.{RisesByKey}
use Rattle.em_tree_model.specs.Ranges.{least_record}
use Rattle.em_tree_trim.specs.Rows.{AreInRanges, EachFrom, first_low, records_in, rows_in}

-- the record of a key, which is the low key of a leaf
abbrev pub key_record : ℕ → Record
key_record key = record { a = key; b = 0; c = 0; d = 0 }

-- the records of a leaf that is full: 2·w·B
abbrev pub lot_of : ShapeNumbers → ℕ
lot_of shape = 2 * load_of shape

-- each key is from low on, and below top
abbrev pub KeysWithin : ℕ → ℕ → List Record → Type 0
KeysWithin low top [] = Unit {0}
KeysWithin low top (x ∷ xs) = (low ≤ x.a) × (x.a < top) × KeysWithin low top xs

-- The keys rise, from low on and below top.
pub record IsRun (low top : ℕ) (xs : List Record) : Type 0 where
  pub rises : RisesByKey map_key_of xs
  pub within : KeysWithin low top xs

-- What full leaves and the last one become, if a leaf of fewer than n records is short: the last one stands alone, or is
-- joined to the one before it, if it is short.
pub data EndsParts (n : ℕ) (ps : List (Record × List Record)) (low : Record) (xs : List Record)
    (qs : List (Record × List Record)) : Type 0 where
  alone : ps ≡ [] → qs ≡ (low, xs) ∷ [] → EndsParts n ps low xs qs
  apart : n ≤ length xs → qs ≡ ps ++ (low, xs) ∷ [] → EndsParts n ps low xs qs
  joined : (os : List (Record × List Record)) (k : Record) (ys : List Record) → ps ≡ os ++ (k, ys) ∷ []
      → qs ≡ os ++ (k, ys ++ xs) ∷ [] → EndsParts n ps low xs qs

-- Leaves of these pairs, each with the keys from its low key up to the next one: several of n records or more, or one.
pub record AreLeaves (n : ℕ) (ps : List (Record × List Record)) (pairs : List Record) : Type 0 where
  pub some : 0 < length ps
  pub records : records_in (rows_in ps) ≡ pairs
  pub ranges : AreInRanges map_key_of ps
  pub first : first_low least_record ps ≡ least_record
  pub least : (length ps ≡ 1) ⊎ EachFrom n (rows_in ps)
