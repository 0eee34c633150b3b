-- What a clause sees of a rack: place by place the records of the frame that stands there.
use Rattle.std.specs.Prelude.{◌≡◌, ℕ, List, Option, Some, None, map, replicate, slice_get}
use Rattle.std.specs.Option.{option_map}
use Rattle.std.specs.Global.{Vec}
use Rattle.em_record.specs.declared.record.Record.{Record}

abbrev pub items_of : Vec Record → List Record
items_of v = v.items

abbrev pub places_of : Vec (Option (Vec Record)) → List (Option (List Record))
places_of v = map (option_map items_of) v.items

-- the place is there and holds a frame
abbrev pub IsHeldAt : List (Option (List Record)) → ℕ → Type 0
IsHeldAt places at = (records : List Record) × (slice_get places at ≡ Some (Some records))

-- the place is there and empty
abbrev pub IsEmptyAt : List (Option (List Record)) → ℕ → Type 0
IsEmptyAt places at = slice_get places at ≡ Some None

-- a rack with this many places, all of them empty
abbrev pub empty_rack : ℕ → List (Option (List Record))
empty_rack count = replicate count None
