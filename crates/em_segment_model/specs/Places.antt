-- The members of a node's group: first one for each strip, then one for each multislab.
use Rattle.std.specs.Prelude.{ℕ, zero, suc, ◌+◌, ◌-◌, ◌==◌, List, [], ◌∷◌, ◌++◌, if◌then◌else◌, length, map}
use Rattle.em_record.specs.declared.record.Record.{Record}
use Rattle.em_segment_model.specs.Points.{interval_in}
use Rattle.em_segment_model.specs.Slabs.{Slab, slab_of}
use Rattle.em_segment_model.specs.Spans.{strip_at, takes_piece}
use Rattle.em_segment_model.specs.declared.strip.Span.{Span}

-- The place of a multislab among all of n strips: those that begin with an earlier strip stand before it,
-- and the wider ones that begin with the same.
abbrev pub place_of : ℕ → ℕ → ℕ → ℕ
place_of n zero width = n - width
place_of zero (suc first) width = 0
place_of (suc n) (suc first) width = suc n + place_of n first width

-- the place of a multislab among a node's members, if it has a strip
abbrev pub slab_place : ℕ → Slab → List ℕ
slab_place n t = if t.width == 0 then [] else (n + place_of n t.first t.width) ∷ []

-- the places of the strips, of which the first has this one, that the piece goes down into
abbrev pub down_places : ℕ → List Span → Record → List ℕ
down_places k [] r = []
down_places k (z ∷ zs) r =
    if takes_piece z r then k ∷ down_places (suc k) zs r else down_places (suc k) zs r

-- the members that a piece is sent to: that of its multislab, and those of the strips that it goes down
-- into
abbrev pub places_of : List Span → Record → List ℕ
places_of zs r = slab_place (length zs) (slab_of (map strip_at zs) (interval_in r)) ++ down_places 0 zs r

-- what the member at this place gets of a piece that is sent to some places
abbrev pub got_at : ℕ → Record → List ℕ → List Record
got_at j r [] = []
got_at j r (k ∷ ks) = if j == k then r ∷ got_at j r ks else got_at j r ks
