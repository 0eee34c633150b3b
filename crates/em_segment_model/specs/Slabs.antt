-- The multislab of an interval: the strips that it spans, which stand side by side.
use Rattle.std.specs.Prelude.{ℕ, zero, suc, ◌+◌, ◌==◌, ◌&&◌, Bool, if◌then◌else◌, List, [], ◌∷◌, ◌++◌, nat_le, nat_lt}
use Rattle.em_model.specs.Stab.{NumberedInterval}
use Rattle.em_segment_model.specs.declared.strip.Slab as declared
use Rattle.em_segment_model.specs.Pieces.{Asked, AllLie, Strip, spans}

-- strips side by side: how many stand before them, and how many they are
abbrev pub Slab : Type 0
Slab = declared.Slab

-- how many strips stand before the first one that the interval spans
abbrev pub slab_first : List Strip → NumberedInterval → ℕ
slab_first [] i = 0
slab_first (z ∷ zs) i = if spans z i then 0 else 1 + slab_first zs i

-- how many strips the interval spans
abbrev pub slab_width : List Strip → NumberedInterval → ℕ
slab_width [] i = 0
slab_width (z ∷ zs) i = (if spans z i then 1 else 0) + slab_width zs i

-- the multislab of an interval
abbrev pub slab_of : List Strip → NumberedInterval → Slab
slab_of zs i = record { first = slab_first zs i; width = slab_width zs i }

-- the interval belongs to this multislab
abbrev pub in_slab : List Strip → Slab → NumberedInterval → Bool
in_slab zs t i = slab_first zs i == t.first && slab_width zs i == t.width

-- the multislab has the strip at this place
abbrev pub has_strip : Slab → ℕ → Bool
has_strip t k = nat_le t.first k && nat_lt k (t.first + t.width)

-- the multislabs that begin with the strip at this place, from the widest, of n strips, down
abbrev pub slabs_at : ℕ → ℕ → List Slab
slabs_at first zero = []
slabs_at first (suc n) = record { first = first; width = suc n } ∷ slabs_at first n

-- all multislabs of n strips, of which the first stands at this place
abbrev pub slabs_from : ℕ → ℕ → List Slab
slabs_from first zero = []
slabs_from first (suc n) = slabs_at first (suc n) ++ slabs_from (first + 1) n

-- a strip with its points
pub record Part : Type 0 where
  pub strip : Strip
  pub points : List Asked

-- each strip's points lie in it
abbrev pub AreParts : List Part → Type 0
AreParts [] = Unit {0}
AreParts (p ∷ parts) = AllLie p.strip p.points × AreParts parts
