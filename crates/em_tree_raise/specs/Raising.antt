-- The nodes of a tree over a list of leaves.
use Rattle.std.specs.Prelude.{◌≡◌, ◌⊎◌, ℕ, zero, suc, ◌+◌, ◌-◌, ◌*◌, ◌<◌, ◌≤◌, List, [], ◌∷◌, ◌++◌, get_or, length, max, IsTrue, Result, Ok, Err}
use Rattle.em_record.specs.Shape.{fan_of}
use Rattle.em_frames.specs.Pool.{SameFrames}
use Rattle.em_space.specs.Ledger.{Session}
use Rattle.em_space.specs.Queue.{Pays}
use Rattle.em_space.specs.Rig.{Cause, Goes, IfFull, InUse, RigState}
use Rattle.em_space.specs.declared.fault.EmFault.{EmFault}
use Rattle.em_chain.specs.Chain.{IsChain, chain_blocks, chain_items}
use Rattle.em_chain.specs.declared.chain.Chain.{Chain}
use Rattle.em_node.specs.Node.{LowsRise, no_entry}
use Rattle.em_node.specs.declared.entry.Entry.{Entry}
use Rattle.em_tree_blocks.specs.Node.{linked_block}
use Rattle.em_tree_blocks.specs.Reading.{IsNodeAt, entries_at}
use Rattle.em_balance.specs.Node.{IsFreshEntry}
use Rattle.em_tree_walk.specs.Paid.{LosesNone}
use Rattle.em_tree_walk.specs.declared.splitting.Root.{Root}
use Rattle.em_tree_raise.specs.Listing.{listed}

-- each of these entries leads to a block of the device, with nothing in its buffer
abbrev pub AreFreshEntries : ℕ → List Entry → Type 0
AreFreshEntries blocks [] = Unit {0}
AreFreshEntries blocks (e ∷ es) = IsFreshEntry blocks e × AreFreshEntries blocks es

-- A list of subtrees, over a device that tells: one or more, with low keys that rise.
pub record IsListing (s : RigState) (list : Chain) (es : List Entry) : Type 0 where
  pub some : 0 < length es
  pub items : chain_items s list ≡ listed es
  pub fresh : AreFreshEntries s.blocks es
  pub rises : LowsRise es

-- there is such a list of entries
pub record HasListing (s : RigState) (list : Chain) : Type 0 where
  pub entries : List Entry
  pub is : IsListing s list entries

-- What building nodes asks. Of a device that doesn't tell, the list's numbers alone are known.
pub record CanRaise (s : RigState) (list : Chain) : Type 0 where
  pub chain : IsChain s list
  pub told : IsTrue s.device.told → HasListing s list

-- An entry leads to a node of this level, which has f entries or more, and fewer than 2·f. Its low key is that of the node's
-- first entry.
pub record LeadsToNode (s : RigState) (l : ℕ) (n : Entry) : Type 0 where
  pub node_is : IsNodeAt s l (linked_block n.child)
  pub fresh : AreFreshEntries s.blocks (entries_at s (linked_block n.child))
  pub low_is : n.low ≡ (get_or (entries_at s (linked_block n.child)) 0 no_entry).low
  pub many : fan_of s.pool.shape ≤ length (entries_at s (linked_block n.child))
  pub few : length (entries_at s (linked_block n.child)) < 2 * fan_of s.pool.shape

-- each of these entries does
abbrev pub LeadToNodes : RigState → ℕ → List Entry → Type 0
LeadToNodes s l [] = Unit {0}
LeadToNodes s l (n ∷ ns) = LeadsToNode s l n × LeadToNodes s l ns

-- the entries of the nodes to which these lead, from left to right
abbrev pub entries_below : RigState → List Entry → List Entry
entries_below s [] = []
entries_below s (n ∷ ns) = entries_at s (linked_block n.child) ++ entries_below s ns

-- Entries over nodes of level d, and nodes below them down to level 1, whose entries are these, from left to right.
abbrev pub StandOver : ℕ → RigState → List Entry → List Entry → Type 0
StandOver zero s ns es = ns ≡ es
StandOver (suc d) s ns es = LeadToNodes s (suc d) ns × StandOver d s (entries_below s ns) es

-- the blocks to which these entries lead
abbrev pub blocks_under : List Entry → List ℕ
blocks_under [] = []
blocks_under (e ∷ es) = linked_block e.child ∷ blocks_under es

-- the blocks of the nodes under these entries, level by level
abbrev pub nodes_under : ℕ → RigState → List Entry → List ℕ
nodes_under zero s ns = []
nodes_under (suc d) s ns = blocks_under ns ++ nodes_under d s (entries_below s ns)

-- the blocks of all nodes of a tree
abbrev pub node_blocks : RigState → Root → List ℕ
node_blocks s root = root.block ∷ nodes_under (root.level - 1) s (entries_at s root.block)

-- The nodes of a tree stand over these entries. A root above level 1 has two entries or more.
pub record IsRaisedOver (t : RigState) (es : List Entry) (root : Root) : Type 0 where
  pub node_is : IsNodeAt t root.level root.block
  pub fresh : AreFreshEntries t.blocks (entries_at t root.block)
  pub some : 0 < length (entries_at t root.block)
  pub few : length (entries_at t root.block) < 2 * fan_of t.pool.shape
  pub several : (root.level ≡ 1) ⊎ (1 < length (entries_at t root.block))
  pub over : StandOver (root.level - 1) t (entries_at t root.block) es

-- the most moves of building nodes over a list
abbrev pub raise_moves : Chain → ℕ
raise_moves list = 3 * list.count + 2

-- The nodes were built, over all that the list had. Each block that was taken was stored.
pub record RaisedOver (s t : RigState) (list : Chain) (root : Root) : Type 0 where
  pub session : Session (chain_blocks s list) s t (node_blocks t root)
  pub frames : SameFrames s.pool t.pool
  pub pays : Pays 0 0 s t
  pub loses : LosesNone (chain_blocks s list) (node_blocks t root) s t
  pub in_use : InUse t root.block
  pub level_some : 1 ≤ root.level
  pub level_most : root.level ≤ 24
  pub told : IsTrue s.device.told → (es : List Entry) → IsListing s list es → IsRaisedOver t es root
  pub moves : IsTrue s.device.told → t.moves ≤ s.moves + raise_moves list
  pub most : IsTrue s.device.told → t.most ≤ max s.most (s.used + list.count)

-- They weren't. Of the blocks that were taken at most two weren't stored.
pub record StopsRaising (s t : RigState) (list : Chain) (fault : EmFault) : Type 0 where
  pub goes : Goes (chain_blocks s list) s t
  pub pays : Pays 0 2 s t
  pub cause : Cause s t fault
  pub moves : IsTrue s.device.told → t.moves ≤ s.moves + raise_moves list
  pub most : IsTrue s.device.told → t.most ≤ max s.most (s.used + list.count)
  pub full : IsTrue s.device.told → IfFull fault (λ _. s.blocks < s.used + list.count)

-- what building nodes did, by its result
abbrev pub Raises : RigState → RigState → Chain → Result Root EmFault → Type 0
Raises s t list (Ok root) = RaisedOver s t list root
Raises s t list (Err fault) = StopsRaising s t list fault
