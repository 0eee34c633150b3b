-- A search for a buffer with many records, among the nodes of a level from left to right.
use Rattle.std.specs.Prelude.{◌≡◌, ◌⊎◌, ℕ, ◌+◌, ◌-◌, ◌<◌, ◌≤◌, if◌then◌else◌, ◌==◌, List, length, get_or, IsTrue, Option, Some, None, Result, Ok, Err}
use Rattle.em_record.specs.declared.record.Record.{Record}
use Rattle.em_space.specs.Rig.{RigState}
use Rattle.em_space.specs.declared.fault.EmFault.{EmFault}
use Rattle.em_node.specs.declared.entry.Entry.{Entry}
use Rattle.em_node.specs.Node.{no_entry, place_of}
use Rattle.em_tree_model.specs.Ranges.{Under}
use Rattle.em_tree_blocks.specs.Reading.{entries_at}
use Rattle.em_empty.specs.FirstFull.{buffer_len}
use Rattle.em_tree_walk.specs.Descents.{end_at, from_root, levels_down}
use Rattle.em_tree_walk.specs.Reads.{ReadsOnly, StopsReading}
use Rattle.em_tree_walk.specs.Stands.{LeadsToTree}
use Rattle.em_tree_walk.specs.declared.descending.Descent.{Descent}
use Rattle.em_tree_walk.specs.declared.searching.Finding.{Finding}
use Rattle.em_tree_walk.specs.declared.searching.Finding.TheVariants.{Found, Next, Nothing}
use Rattle.em_tree_walk.specs.declared.searching.Range.{Range}

-- the buffers of the places from one up to another have fewer records than the limit
abbrev pub AreThinFrom : ℕ → List Entry → ℕ → ℕ → Type 0
AreThinFrom limit es first n = (j : ℕ) → first ≤ j → j < n → buffer_len es j < limit

-- A place is the first one from another on whose buffer has as many records as the limit.
pub record IsNextFull (limit : ℕ) (es : List Entry) (first at : ℕ) : Type 0 where
  pub after : first ≤ at
  pub one : at < length es
  pub full : limit ≤ buffer_len es at
  pub thin : AreThinFrom limit es first at

-- that place, or none if there is none
abbrev pub IsFirstFrom : ℕ → List Entry → ℕ → Option ℕ → Type 0
IsFirstFrom limit es first None = AreThinFrom limit es first (length es)
IsFirstFrom limit es first (Some at) = IsNextFull limit es first at

-- where the keys of a place begin, of those from the search's first key on
abbrev pub begins_at : List Entry → ℕ → ℕ → Record → Record
begins_at es first at from = if at == first then from else (get_or es at no_entry).low

-- A place begins among some keys: it is the first one, or its low key is below their end.
abbrev pub IsAmong : List Entry → ℕ → ℕ → Option Record → Type 0
IsAmong es first at until = (at ≡ first) ⊎ Under until (get_or es at no_entry).low

-- The keys of a place that was found among some keys, in a node whose keys end at hi.
pub record HasKeys (es : List Entry) (hi : Option Record) (keys : Range) (at : ℕ) (inner : Range)
    : Type 0 where
  pub among : IsAmong es (place_of keys.from es) at keys.until
  pub from_is : inner.from ≡ begins_at es (place_of keys.from es) at keys.from
  pub until_is : inner.until ≡ end_at es at hi

-- what was found, if a place has such a buffer: that place, or nothing if it begins past the keys
abbrev pub FindsPlace : List Entry → Descent → Range → ℕ → Finding → Type 0
FindsPlace es d keys at (Found node i inner) =
    (node ≡ d.node) × (i ≡ at) × HasKeys es d.end keys at inner
FindsPlace es d keys at (Next low) = ⊥
FindsPlace es d keys at Nothing = IsAmong es (place_of keys.from es) at keys.until → ⊥

-- what was found, if no place has one: where the next node begins, if that is among the keys
abbrev pub FindsEnd : Option Record → Option Record → Finding → Type 0
FindsEnd hi until (Found node i inner) = ⊥
FindsEnd hi until (Next low) = (hi ≡ Some low) × Under until low
FindsEnd hi until Nothing = (low : Record) → hi ≡ Some low → Under until low → ⊥

-- what was found in a node with these entries, from the place of the first key on
abbrev pub Finds : ℕ → List Entry → Descent → Range → Finding → Type 0
Finds limit es d keys f =
    (AreThinFrom limit es (place_of keys.from es) (length es) × FindsEnd d.end keys.until f)
    ⊎ ((at : ℕ) × IsNextFull limit es (place_of keys.from es) at × FindsPlace es d keys at f)

-- if a place was found, its node can be read
abbrev pub LeadsToFound : RigState → ℕ → Finding → Type 0
LeadsToFound t level (Found node at inner) = LeadsToTree t level node
LeadsToFound t level (Next low) = Unit {0}
LeadsToFound t level Nothing = Unit {0}

-- A node that was reached was searched.
pub record SearchedNode (s t : RigState) (level limit : ℕ) (d : Descent) (keys : Range)
    (f : Finding) : Type 0 where
  pub reads : ReadsOnly 1 s t
  pub leads : LeadsToFound t level f
  pub finds : IsTrue s.device.told → Finds limit (entries_at s d.node) d keys f

-- what that did, by its result
abbrev pub SearchesNode : RigState → RigState → ℕ → ℕ → Descent → Range → Result Finding EmFault
    → Type 0
SearchesNode s t level limit d keys (Ok f) = SearchedNode s t level limit d keys f
SearchesNode s t level limit d keys (Err fault) = StopsReading 1 s t fault

-- the node of a level on the path of the first key
abbrev pub searched_node : RigState → ℕ → ℕ → ℕ → Range → Descent
searched_node s root top level keys =
    levels_down keys.from (top - level) s.device.contents (from_root root)

-- That node was searched, from the root on.
pub record Searched (s t : RigState) (root top level limit : ℕ) (keys : Range) (f : Finding)
    : Type 0 where
  pub reads : ReadsOnly (top - level + 1) s t
  pub leads : LeadsToFound t level f
  pub finds : IsTrue s.device.told
      → Finds limit (entries_at s (searched_node s root top level keys).node)
      (searched_node s root top level keys) keys f

-- what a search did, by its result: one move at most for each level
abbrev pub SearchesFrom : RigState → RigState → ℕ → ℕ → ℕ → ℕ → Range → Result Finding EmFault
    → Type 0
SearchesFrom s t root top level limit keys (Ok f) = Searched s t root top level limit keys f
SearchesFrom s t root top level limit keys (Err fault) = StopsReading (top - level + 1) s t fault
