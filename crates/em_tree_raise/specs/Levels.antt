-- The nodes of one level over a list, and those of all levels from one on.
use Rattle.std.specs.Prelude.{◌≡◌, ◌⊎◌, ℕ, zero, suc, ◌+◌, ◌*◌, ◌^◌, ◌<◌, ◌≤◌, max, List, ◌∷◌, ◌++◌, length, IsTrue, Result, Ok, Err}
use Rattle.em_record.specs.Shape.{fan_of}
use Rattle.em_frames.specs.Pool.{SameFrames}
use Rattle.em_space.specs.Ledger.{Account, Session, Spends, Stops, both}
use Rattle.em_space.specs.Queue.{Pays}
use Rattle.em_space.specs.Rig.{Cause, Goes, IfFull, InUse, RigState}
use Rattle.em_space.specs.declared.fault.EmFault.{EmFault}
use Rattle.em_chain.specs.Chain.{IsChain, chain_blocks, chain_items}
use Rattle.em_chain.specs.Reader.{IsReader, rest_of}
use Rattle.em_chain.specs.Session.{chain_account, taking_account}
use Rattle.em_chain.specs.declared.chain.Chain.{Chain}
use Rattle.em_chain.specs.declared.reader.Reader.{Reader}
use Rattle.em_node.specs.declared.entry.Entry.{Entry}
use Rattle.em_tree_blocks.specs.Reading.{IsNodeAt, entries_at}
use Rattle.em_tree_walk.specs.SplitPaths.{TakesUpTo}
use Rattle.em_tree_walk.specs.declared.splitting.Root.{Root}
use Rattle.em_tree_raise.specs.Listing.{listed}
use Rattle.em_tree_raise.specs.Raising.{AreFreshEntries, IsListing, LeadToNodes, blocks_under, entries_below, nodes_under}
use Rattle.em_tree_raise.specs.Nodes.{StandOverNext, nodes_account}

-- A list of so many records may be raised to a level: eight times fewer were left by each level below it.
pub record CanLevel (level count : ℕ) : Type 0 where
  pub some : 1 ≤ level
  pub few : (count + 1) * 8 ^ level ≤ 2 ^ 60

-- n nodes, what is left to the reader of a list, and the list of the nodes, which was finished
abbrev pub written_account : ℕ → Reader → Chain → Account
written_account n r c = both (nodes_account n) (both (taking_account r) (chain_account 1 c))

-- The nodes of a level were stored, and are listed by a chain. A reader took the subtrees under them.
pub record WrittenLevel (s t : RigState) (r q : Reader) (level count : ℕ) (c : Chain) : Type 0 where
  pub nodes : List Entry
  pub session : Session (chain_blocks s (rest_of r)) s t
      (blocks_under nodes ++ (chain_blocks t (rest_of q) ++ chain_blocks t c))
  pub frames : SameFrames s.pool t.pool
  pub spends : Spends (r.blocks + 3 * length nodes) (taking_account r)
      (written_account (length nodes) q c) s t
  pub reader : IsReader t q
  pub chain : IsChain t c
  pub count_is : c.count ≡ 2 * length nodes
  pub blocks_most : c.blocks ≤ 2 * length nodes
  pub many : 16 * length nodes ≤ count
  pub fresh : AreFreshEntries t.blocks nodes
  pub items : IsTrue s.device.told → chain_items t c ≡ listed nodes
  pub told : IsTrue s.device.told → StandOverNext s t r q level count nodes

-- They weren't: of at most n nodes.
abbrev pub StopsLevel : RigState → RigState → Reader → ℕ → EmFault → Type 0
StopsLevel s t r n fault =
    Stops (r.blocks + 3 * n) (6 * n + 1) 2 (chain_blocks s (rest_of r)) (taking_account r) s t fault

-- what writing a level did, by its result
abbrev pub WritesLevel : RigState → RigState → Reader → Reader → ℕ → ℕ → Result Chain EmFault → Type 0
WritesLevel s t r q level count (Ok c) = WrittenLevel s t r q level count c
WritesLevel s t r q level count (Err fault) = (n : ℕ) × (16 * n ≤ count) × StopsLevel s t r n fault

-- Calls that took at most n blocks and made at most m moves gave up: two blocks at most aren't stored. They were full
-- only if fewer than n blocks were free.
pub record StopsWithin (n m : ℕ) (held : List ℕ) (s t : RigState) (fault : EmFault) : Type 0 where
  pub goes : Goes held s t
  pub used : t.used ≤ s.used + n
  pub most : t.most ≤ max s.most (s.used + n)
  pub moves : t.moves ≤ s.moves + m
  pub pays : Pays 0 2 s t
  pub full : IfFull fault (λ _. s.blocks < s.used + n)
  pub cause : Cause s t fault

-- the most blocks that raising a list takes at once, and its most moves
abbrev pub raise_room : Chain → ℕ
raise_room list = max list.count 1

abbrev pub raise_most : Chain → ℕ
raise_most list = 2 * list.blocks + list.count + 2

-- Nodes of a level stand over the subtrees of a list, and are listed by another one.
pub record StandListed (t : RigState) (level : ℕ) (ns es : List Entry) (c : Chain) : Type 0 where
  pub leads : LeadToNodes t level ns
  pub over : entries_below t ns ≡ es
  pub listing : IsListing t c ns

-- The nodes of a level were raised over a list, whose blocks were released.
pub record RaisedLevel (s t : RigState) (list : Chain) (level : ℕ) (c : Chain) : Type 0 where
  pub nodes : List Entry
  pub takes : TakesUpTo (3 * length nodes) (2 * list.blocks + 2 * length nodes + 2 * c.blocks + 1)
      (chain_blocks s list) (blocks_under nodes ++ chain_blocks t c) s t
  pub chain : IsChain t c
  pub count_is : c.count ≡ 2 * length nodes
  pub blocks_most : c.blocks ≤ 2 * length nodes
  pub many : 32 * length nodes ≤ list.count
  pub told : IsTrue s.device.told → (es : List Entry) → IsListing s list es → StandListed t level nodes es c

-- the same by the result
abbrev pub RaisesLevel : RigState → RigState → Chain → ℕ → Result Chain EmFault → Type 0
RaisesLevel s t list level (Ok c) = RaisedLevel s t list level c
RaisesLevel s t list level (Err fault) =
    StopsWithin (raise_room list) (raise_most list) (chain_blocks s list) s t fault

-- Entries over nodes of d levels, down to a level, whose entries are these, from left to right.
abbrev pub StandAbove : ℕ → ℕ → RigState → List Entry → List Entry → Type 0
StandAbove level zero s ns es = ns ≡ es
StandAbove level (suc d) s ns es =
    LeadToNodes s (level + d) ns × StandAbove level d s (entries_below s ns) es

-- The nodes of a tree stand over these entries, from a level on, with d levels above it.
pub record IsRaisedAbove (t : RigState) (level d : ℕ) (es : List Entry) (root : Root) : Type 0 where
  pub node_is : IsNodeAt t root.level root.block
  pub fresh : AreFreshEntries t.blocks (entries_at t root.block)
  pub some : 0 < length (entries_at t root.block)
  pub few : length (entries_at t root.block) < 2 * fan_of t.pool.shape
  pub several : (d ≡ 0) ⊎ (1 < length (entries_at t root.block))
  pub over : StandAbove level d t (entries_at t root.block) es

-- The nodes from a level on were raised over a list.
pub record RaisedFrom (s t : RigState) (list : Chain) (level : ℕ) (root : Root) : Type 0 where
  pub above : ℕ
  pub level_is : root.level ≡ level + above
  pub level_most : root.level ≤ 24
  pub takes : TakesUpTo (raise_room list) (raise_most list) (chain_blocks s list)
      (root.block ∷ nodes_under above t (entries_at t root.block)) s t
  pub in_use : InUse t root.block
  pub told : IsTrue s.device.told → (es : List Entry) → IsListing s list es
      → IsRaisedAbove t level above es root

-- the same by the result
abbrev pub RaisesFrom : RigState → RigState → Chain → ℕ → Result Root EmFault → Type 0
RaisesFrom s t list level (Ok root) = RaisedFrom s t list level root
RaisesFrom s t list level (Err fault) =
    StopsWithin (raise_room list) (raise_most list) (chain_blocks s list) s t fault
