-- The first buffer that is full.
use Rattle.std.specs.Prelude.{ℕ, ◌<◌, ◌≤◌, ◌*◌, List, length, get_or, Option, Some, None}
use Rattle.em_record.specs.Shape.{ShapeNumbers, fan_of}
use Rattle.em_node.specs.declared.entry.Entry.{Entry}
use Rattle.em_node.specs.Node.{no_entry}
use Rattle.em_tree_blocks.specs.Node.{buffer_of}

-- the records of a full buffer
abbrev pub full_count : ShapeNumbers → ℕ
full_count shape = fan_of shape * shape.block

-- the records in the buffer of a place
abbrev pub buffer_len : List Entry → ℕ → ℕ
buffer_len es at = (buffer_of (get_or es at no_entry)).count

-- the buffers of the first places have fewer records than the limit
abbrev pub AreThin : ℕ → List Entry → ℕ → Type 0
AreThin limit es n = (j : ℕ) → j < n → buffer_len es j < limit

-- the least place whose buffer has at least this many records, or none if there is none
abbrev pub IsFirstFull : ℕ → List Entry → Option ℕ → Type 0
IsFirstFull limit es None = AreThin limit es (length es)
IsFirstFull limit es (Some at) = (at < length es) × (limit ≤ buffer_len es at) × AreThin limit es at
