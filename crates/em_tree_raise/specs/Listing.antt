-- A list of subtrees, one beside the other: for each its low key, and the number of its first block.
use Rattle.std.specs.Prelude.{ℕ, ◌+◌, ◌*◌, List, [], ◌∷◌, Result, Ok, Err}
use Rattle.em_record.specs.declared.record.Record.{Record}
use Rattle.em_space.specs.Ledger.{Costs}
use Rattle.em_space.specs.Rig.{RigState}
use Rattle.em_space.specs.declared.fault.EmFault.{EmFault}
use Rattle.em_chain.specs.Chain.{payload_in}
use Rattle.em_chain.specs.Counts.{ceiling}
use Rattle.em_chain.specs.Session.{StopsWriting, Writes, writer_account}
use Rattle.em_chain.specs.Writer.{filled}
use Rattle.em_chain.specs.declared.writer.Writer.{Writer}
use Rattle.em_node.specs.declared.entry.Entry.{Entry}
use Rattle.em_tree_blocks.specs.Node.{linked_block}

-- the record of the block of a subtree
abbrev pub block_record : ℕ → Record
block_record k = record { a = k; b = 0; c = 0; d = 0 }

-- the subtrees to which these entries lead, as they are listed
abbrev pub listed : List Entry → List Record
listed [] = []
listed (e ∷ es) = e.low ∷ block_record (linked_block e.child) ∷ listed es

-- what listing a subtree did, by its result
abbrev pub ListsSubtree : {T : Type 0} → RigState → RigState → Writer → Writer → Record → ℕ → Result T EmFault
    → Type 0
ListsSubtree s t w v low k (Ok x) = Writes s t w v (low ∷ block_record k ∷ [])
ListsSubtree s t w v low k (Err fault) = StopsWriting s t w 2 fault

-- the blocks of a list that has two records more
abbrev pub two_more : RigState → Writer → ℕ
two_more s w = ceiling (filled s w + 2) (payload_in s)

-- What it cost: two moves for each block that came to the list.
abbrev pub ListingCosts : {T : Type 0} → RigState → RigState → Writer → Writer → Result T EmFault → Type 0
ListingCosts s t w v result =
    Costs (two_more s w) (2 * two_more s w) 1 (writer_account w) (writer_account v) s t result
