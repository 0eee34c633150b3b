-- Low keys that no path reads: those of the first entries.
use Rattle.std.specs.Prelude.{◌≡◌, false}
use Rattle.em_record.specs.declared.record.Record.{Record}
use Rattle.em_record.specs.Order.{is_below}
use Rattle.em_tree_model.specs.Ranges.{low_of}
use Rattle.em_tree_model.specs.Tree.{Tree}
use Rattle.em_tree_model.specs.Tree.Tree.{leaf, end, entry}

-- the first low key of each node of a tree is at most the start of the node's range, that of the
-- tree being lo
abbrev pub LowsKeep : Record → Tree → Type 0
LowsKeep lo (leaf xs) = Unit {0}
LowsKeep lo end = Unit {0}
LowsKeep lo (entry low b c r) = (is_below lo low ≡ false) × LowsKeep lo c × LowsKeep (low_of lo r) r
