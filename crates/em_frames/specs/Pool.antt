-- The memory of a run: m frames, which are 3f single frames and two areas of w frames each. Free
-- and lent are m.
use Rattle.std.specs.Prelude.{◌≡◌, ℕ, ◌+◌, ◌*◌, ◌-◌, ◌≤◌, Bool, true, false, Option, IfSome, max, vec_len, vec_capacity}
use Rattle.std.specs.List.{All}
use Rattle.std.specs.Global.{Vec}
use Rattle.em_record.specs.Shape.{ShapeNumbers, fan_of, wide_of}
use Rattle.em_record.specs.declared.record.Record.{Record}
use Rattle.em_frames.specs.Rack.{places_of, empty_rack}

-- the shape, the single frames and the areas that are free, whether the rack is out, and the
-- greatest number of frames out at once
pub record PoolCounts : Type 0 where
  pub shape : ShapeNumbers
  pub free : ℕ
  pub free_areas : ℕ
  pub rack_out : Bool
  pub peak : ℕ

-- the single frames of a shape
abbrev pub singles_of : ShapeNumbers → ℕ
singles_of shape = 3 * fan_of shape

-- the records of an area
abbrev pub load_of : ShapeNumbers → ℕ
load_of shape = wide_of shape * shape.block

-- the places of a rack
abbrev pub places_in : ShapeNumbers → ℕ
places_in shape = 2 * fan_of shape

-- the frames that are out, an area counting as w
abbrev pub out_of : PoolCounts → ℕ
out_of p = (singles_of p.shape - p.free) + wide_of p.shape * (2 - p.free_areas)

-- a pool of which nothing was ever lent
abbrev pub fresh_pool : ShapeNumbers → PoolCounts
fresh_pool shape = record {
  shape = shape;
  free = singles_of shape;
  free_areas = 2;
  rack_out = false;
  peak = 0;
}

-- after a single frame was lent
abbrev pub lent : PoolCounts → PoolCounts
lent p = record p { free = p.free - 1; peak = max p.peak (out_of p + 1) }

-- after a single frame came back
abbrev pub given : PoolCounts → PoolCounts
given p = record p { free = p.free + 1 }

-- after an area was lent
abbrev pub lent_area : PoolCounts → PoolCounts
lent_area p = record p {
  free_areas = p.free_areas - 1;
  peak = max p.peak (out_of p + wide_of p.shape);
}

-- after an area came back
abbrev pub given_area : PoolCounts → PoolCounts
given_area p = record p { free_areas = p.free_areas + 1 }

-- after the rack was lent
abbrev pub lent_rack : PoolCounts → PoolCounts
lent_rack p = record p { rack_out = true }

-- after the rack came back
abbrev pub given_rack : PoolCounts → PoolCounts
given_rack p = record p { rack_out = false }

-- all that was lent is back
pub record IsWhole (p : PoolCounts) : Type 0 where
  pub frames : out_of p ≡ 0
  pub rack : p.rack_out ≡ false

-- As much is free as before. More may have been out in between.
pub record SameFrames (old new : PoolCounts) : Type 0 where
  pub shape : new.shape ≡ old.shape
  pub free : new.free ≡ old.free
  pub rack : new.rack_out ≡ old.rack_out
  pub free_areas : new.free_areas ≡ old.free_areas
  pub peak : old.peak ≤ new.peak

-- This many single frames fewer are free. More may have been out in between.
pub record LentFrames (n : ℕ) (old new : PoolCounts) : Type 0 where
  pub shape : new.shape ≡ old.shape
  pub free : new.free + n ≡ old.free
  pub rack : new.rack_out ≡ old.rack_out
  pub free_areas : new.free_areas ≡ old.free_areas
  pub peak : old.peak ≤ new.peak

-- This many single frames more are free.
pub record GivenFrames (n : ℕ) (old new : PoolCounts) : Type 0 where
  pub shape : new.shape ≡ old.shape
  pub free : new.free ≡ old.free + n
  pub rack : new.rack_out ≡ old.rack_out
  pub free_areas : new.free_areas ≡ old.free_areas
  pub peak : old.peak ≤ new.peak

-- Frames of this length are the pool's, and this many at least are out.
pub record HasFrames (n len : ℕ) (p : PoolCounts) : Type 0 where
  pub len_is : len ≡ p.shape.block
  pub out : p.free + n ≤ singles_of p.shape

-- Inside a pool: the free frames have their sizes, there is room for all that are out, and a rack
-- that isn't out is empty.
pub record IsFilled (shape : ShapeNumbers) (singles areas : Vec (Vec Record))
    (rack : Option (Vec (Option (Vec Record)))) (peak : ℕ) : Type 0 where
  pub singles_len : All (λ v. vec_len v ≡ shape.block) singles.items
  pub areas_len : All (λ v. vec_len v ≡ load_of shape) areas.items
  pub singles_count : vec_len singles ≤ singles_of shape
  pub singles_room : singles_of shape ≤ vec_capacity singles
  pub areas_count : vec_len areas ≤ 2
  pub areas_room : 2 ≤ vec_capacity areas
  pub rack_empty : IfSome rack (λ v. places_of v ≡ empty_rack (places_in shape))
  pub peak_most : peak ≤ shape.frames
