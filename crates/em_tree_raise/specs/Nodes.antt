-- Nodes over the subtrees of a list, stored, and listed by a writer.
use Rattle.std.specs.Prelude.{◌≡◌, ◌⊎◌, ℕ, ◌+◌, ◌*◌, ◌<◌, ◌≤◌, List, [], ◌∷◌, ◌++◌, get_or, length, IsTrue, Result, Ok, Err}
use Rattle.em_record.specs.Shape.{fan_of}
use Rattle.em_record.specs.declared.record.Record.{Record}
use Rattle.em_space.specs.Ledger.{Account, Runs, Stops, both}
use Rattle.em_space.specs.Rig.{RigState}
use Rattle.em_space.specs.declared.fault.EmFault.{EmFault}
use Rattle.em_chain.specs.Chain.{chain_blocks}
use Rattle.em_chain.specs.Reader.{rest_of}
use Rattle.em_chain.specs.Session.{Took, Wrote, taking_account, writer_account}
use Rattle.em_chain.specs.Writer.{filled, writer_blocks}
use Rattle.em_chain.specs.declared.reader.Reader.{Reader}
use Rattle.em_chain.specs.declared.writer.Writer.{Writer}
use Rattle.em_node.specs.declared.entry.Entry.{Entry}
use Rattle.em_node.specs.Node.{no_entry}
use Rattle.em_tree_blocks.specs.Node.{linked_block}
use Rattle.em_tree_blocks.specs.Reading.{IsNodeAt, entries_at}
use Rattle.em_balance.specs.Node.{IsFreshEntry}
use Rattle.em_tree_raise.specs.Listing.{listed}
use Rattle.em_tree_raise.specs.Raising.{AreFreshEntries, LeadToNodes, blocks_under, entries_below}
use Rattle.em_tree_raise.specs.Subtrees.{LeavesSubtrees, TakesFirstOf}

-- n nodes that are stored, each by two moves
abbrev pub nodes_account : ℕ → Account
nodes_account n = record { blocks = n; unstored = 0; paid = 2 * n; owed = 0 }

-- The node to which an entry leads, over n subtrees. The entry begins with its first low key.
pub record IsBuiltNode (t : RigState) (level n : ℕ) (e : Entry) : Type 0 where
  pub node_is : IsNodeAt t level (linked_block e.child)
  pub fresh : AreFreshEntries t.blocks (entries_at t (linked_block e.child))
  pub low_is : e.low ≡ (get_or (entries_at t (linked_block e.child)) 0 no_entry).low
  pub size : length (entries_at t (linked_block e.child)) ≡ n

-- A node was stored in a new block, over the next n subtrees of a list.
pub record BuiltNode (s t : RigState) (r q : Reader) (level n : ℕ) (e : Entry) : Type 0 where
  pub runs : Runs (r.blocks + 1) (chain_blocks s (rest_of r))
      (linked_block e.child ∷ chain_blocks t (rest_of q)) (taking_account r)
      (both (nodes_account 1) (taking_account q)) s t
  pub records : List Record
  pub took : Took s t r q records
  pub fresh : IsFreshEntry s.blocks e
  pub node : IsTrue s.device.told → IsBuiltNode t level n e
  pub takes : IsTrue s.device.told → (fs : List Entry) → LeavesSubtrees s r fs
      → TakesFirstOf t q (entries_at t (linked_block e.child)) fs

-- It wasn't. A block that was taken may not be stored.
abbrev pub StopsNode : RigState → RigState → Reader → EmFault → Type 0
StopsNode s t r fault =
    Stops (r.blocks + 1) 2 1 (chain_blocks s (rest_of r)) (taking_account r) s t fault

-- what building a node did, by its result
abbrev pub BuildsNode : RigState → RigState → Reader → Reader → ℕ → ℕ → Result Entry EmFault → Type 0
BuildsNode s t r q level n (Ok e) = BuiltNode s t r q level n e
BuildsNode s t r q level n (Err fault) = StopsNode s t r fault

-- the blocks of a reader that takes its list, and of a writer of nodes
abbrev pub level_blocks : RigState → Reader → Writer → List ℕ
level_blocks s r w = chain_blocks s (rest_of r) ++ writer_blocks s w

-- both, with n nodes that are stored
abbrev pub level_account : ℕ → Reader → Writer → Account
level_account n r w = both (nodes_account n) (both (taking_account r) (writer_account w))

-- the most blocks at a moment while n nodes are listed, and the most moves that their blocks don't pay
abbrev pub level_peak : RigState → Reader → Writer → ℕ → ℕ
level_peak s r w n = r.blocks + (filled s w + 3 * n)

abbrev pub level_limit : RigState → Writer → ℕ → ℕ
level_limit s w n = 2 * filled s w + 6 * n

-- Over a device that tells: these nodes of a level stand over the next n subtrees.
pub record StandOverNext (s t : RigState) (r q : Reader) (level n : ℕ) (ns : List Entry) : Type 0 where
  pub leads : LeadToNodes t level ns
  pub size : length (entries_below t ns) ≡ n
  pub takes : (fs : List Entry) → LeavesSubtrees s r fs → TakesFirstOf t q (entries_below t ns) fs

-- Nodes of a level were stored and listed, over the next n subtrees of a list.
pub record ListsNodes (s t : RigState) (r q : Reader) (w v : Writer) (level n : ℕ) (ns : List Entry)
    : Type 0 where
  pub runs : Runs (level_peak s r w (length ns)) (level_blocks s r w)
      (blocks_under ns ++ level_blocks t q v) (both (taking_account r) (writer_account w))
      (level_account (length ns) q v) s t
  pub records : List Record
  pub took : Took s t r q records
  pub wrote : Wrote s t w v (listed ns)
  pub fresh : AreFreshEntries t.blocks ns
  pub told : IsTrue s.device.told → StandOverNext s t r q level n ns

-- They weren't: of at most so many nodes, one may not be stored, nor the last block of the writer.
abbrev pub StopsNodes : RigState → RigState → Reader → Writer → ℕ → EmFault → Type 0
StopsNodes s t r w n fault = Stops (level_peak s r w n) (level_limit s w n) 2 (level_blocks s r w)
    (both (taking_account r) (writer_account w)) s t fault

-- One node was.
pub record ListedNode (s t : RigState) (r q : Reader) (w v : Writer) (level n : ℕ) : Type 0 where
  pub node : Entry
  pub lists : ListsNodes s t r q w v level n (node ∷ [])

-- the same by the result
abbrev pub ListsNode : {T : Type 0} → RigState → RigState → Reader → Reader → Writer → Writer → ℕ → ℕ
    → Result T EmFault → Type 0
ListsNode s t r q w v level n (Ok x) = ListedNode s t r q w v level n
ListsNode s t r q w v level n (Err fault) = StopsNodes s t r w 1 fault

-- So many of the subtrees that are left go to the next node that it has f or more, and f or none remain.
pub record NodeSize (fan left size : ℕ) : Type 0 where
  pub many : fan ≤ size
  pub few : size < 2 * fan
  pub within : size ≤ left
  pub rest : (size ≡ left) ⊎ (fan + size ≤ left)

-- All but `left` of the subtrees of a list are under nodes, which have f subtrees or more each.
pub record RaisingNodes (s t : RigState) (r q : Reader) (w v : Writer) (level count left : ℕ) : Type 0 where
  pub nodes : List Entry
  pub taken : ℕ
  pub lists : ListsNodes s t r q w v level taken nodes
  pub all : taken + left ≡ count
  pub many : 16 * length nodes ≤ taken
  pub some : (left ≡ 0) ⊎ (fan_of s.pool.shape ≤ left)

-- what raising all nodes of a level did, by its result
abbrev pub RaisesNodes : {T : Type 0} → RigState → RigState → Reader → Reader → Writer → Writer → ℕ → ℕ
    → Result T EmFault → Type 0
RaisesNodes s t r q w v level count (Ok x) = RaisingNodes s t r q w v level count 0
RaisesNodes s t r q w v level count (Err fault) = (n : ℕ) × (16 * n ≤ count) × StopsNodes s t r w n fault
