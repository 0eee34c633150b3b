-- The way of a key from a root down.
use Rattle.std.specs.Prelude.{◌≡◌, ℕ, zero, suc, ◌-◌, ◌≤◌, List, [], ◌∷◌, drop, IsTrue, Option, Some, None, Result, Ok, Err}
use Rattle.em_record.specs.declared.record.Record.{Record}
use Rattle.em_space.specs.Rig.{RigState}
use Rattle.em_space.specs.declared.fault.EmFault.{EmFault}
use Rattle.em_node.specs.declared.entry.Entry.{Entry}
use Rattle.em_node.specs.Node.{place_of}
use Rattle.em_tree_blocks.specs.Paths.{child_at}
use Rattle.em_tree_walk.specs.Reads.{ReadsOnly, StopsReading}
use Rattle.em_tree_walk.specs.Stands.{LeadsToTree, entries_in}
use Rattle.em_tree_walk.specs.declared.descending.Descent.{Descent}

-- where the keys of an entry end, if these entries come after it in a node whose keys end at hi
abbrev pub end_before : Option Record → List Entry → Option Record
end_before hi [] = hi
end_before hi (e ∷ es) = Some e.low

-- where the keys of the entry at a place end
abbrev pub end_at : List Entry → ℕ → Option Record → Option Record
end_at es i hi = end_before hi (drop (suc i) es)

-- a root, whose keys have no end
abbrev pub from_root : ℕ → Descent
from_root root = record { node = root; end = None }

-- one level down from a node with these entries: to the child on the key's path
abbrev pub down_to : Record → List Entry → Descent → Descent
down_to key es d = record {
  node = child_at (place_of key es) es;
  end = end_at es (place_of key es) d.end;
}

-- n levels down, over blocks of these contents
abbrev pub levels_down : Record → ℕ → List (List Record) → Descent → Descent
levels_down key zero contents d = d
levels_down key (suc n) contents d =
    levels_down key n contents (down_to key (entries_in contents d.node) d)

-- the places that the key's path takes on these n levels
abbrev pub places_down : Record → ℕ → List (List Record) → ℕ → List ℕ
places_down key zero contents k = []
places_down key (suc n) contents k =
    let es = entries_in contents k in
    place_of key es ∷ places_down key n contents (child_at (place_of key es) es)

-- A node of this level was reached on a key's path, n levels down.
pub record Descended (key : Record) (s t : RigState) (n level : ℕ) (from d : Descent) : Type 0 where
  pub reads : ReadsOnly n s t
  pub leads : LeadsToTree t level d.node
  pub is : IsTrue s.device.told → d ≡ levels_down key n s.device.contents from

-- what a descent did, by its result: one move at most for each level
abbrev pub Descends : Record → RigState → RigState → ℕ → ℕ → Descent → Result Descent EmFault
    → Type 0
Descends key s t n level from (Ok d) = Descended key s t n level from d
Descends key s t n level from (Err fault) = StopsReading n s t fault

-- On the way down: this level was reached, and the rest of the way leads to the same node.
pub record OnTheWay (key : Record) (s now : RigState) (top to level : ℕ) (from d : Descent)
    : Type 0 where
  pub reads : ReadsOnly (top - level) s now
  pub above : to ≤ level
  pub below : level ≤ top
  pub leads : LeadsToTree now level d.node
  pub way : IsTrue s.device.told → levels_down key (level - to) s.device.contents d
      ≡ levels_down key (top - to) s.device.contents from
