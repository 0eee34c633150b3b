-- What a call left of one entry of a tree on the device.
use Rattle.std.specs.Prelude.{◌≡◌, ℕ, suc, ◌<◌, List, [], ◌∷◌, ◌++◌, length, get_or, take, drop, Option}
use Rattle.std.specs.List.Sorted.{IsPermutation}
use Rattle.em_record.specs.declared.record.Record.{Record}
use Rattle.em_record.specs.Order.{IsAscending}
use Rattle.em_space.specs.Rig.{RigState}
use Rattle.em_space.specs.Held.{Apart}
use Rattle.em_chain.specs.Chain.{chain_items}
use Rattle.em_node.specs.declared.entry.Entry.{Entry}
use Rattle.em_node.specs.Node.{no_entry}
use Rattle.em_settle.specs.declared.step.Step.{Step}
use Rattle.em_settle.specs.Lists.{list_with_ops}
use Rattle.em_tree_model.specs.Tree.{Tree, stored_in, waiting_in}
use Rattle.em_tree_model.specs.Tree.Tree.{leaf, end, entry}
use Rattle.em_tree_model.specs.Places.{Place, put_at, place_in}
use Rattle.em_tree_model.specs.Places.Place.{here}
use Rattle.em_tree_model.specs.Pouring.{pour}
use Rattle.em_tree_blocks.specs.Node.{buffer_of, linked_block}
use Rattle.em_tree_blocks.specs.Reading.{entries_at, stored_chain, row_of, tree_at, row_blocks, tree_blocks, past_entries, leaf_items}
use Rattle.em_tree_blocks.specs.Paths.{IsPath, node_on, level_on, place_on, blocks_with, first_path}

-- the place of an entry in its node
abbrev pub entry_place : ℕ → RigState → ℕ → ℕ → Place
entry_place l s k i = past_entries (tree_at l s) s (take i (entries_at s k)) here

-- the entries from a place on
abbrev pub row_from : ℕ → RigState → ℕ → ℕ → Tree
row_from l s k i = row_of (tree_at l s) s (drop i (entries_at s k))

-- A place in a tree on the device: the node at the end of a path, and one of its entries.
pub record IsEntryAt (top : ℕ) (s : RigState) (root : ℕ) (path : List ℕ) (l i : ℕ) : Type 0 where
  pub on_path : IsPath path top s root
  pub level : level_on path top ≡ suc l
  pub one : i < length (entries_at s (node_on path top s root))

-- the entry itself
abbrev pub entry_on : ℕ → RigState → ℕ → List ℕ → ℕ → Entry
entry_on top s root path i = get_or (entries_at s (node_on path top s root)) i no_entry

-- the place of that entry
abbrev pub entry_at_place : ℕ → RigState → ℕ → List ℕ → ℕ → ℕ → Place
entry_at_place top s root path l i =
    place_in (place_on path top s root) (entry_place l s (node_on path top s root) i)

-- A call changed no block of the tree before a node, beside the way there, or of the node's other
-- entries than one.
pub record LeavesOthers (held : List ℕ) (s : RigState) (top root : ℕ) (path : List ℕ) (l i : ℕ)
    : Type 0 where
  pub before : Apart (blocks_with path top s root []) held
  pub left : Apart (row_blocks (tree_blocks l s) s (take i (entries_at s (node_on path top s root)))) held
  pub right : Apart (row_blocks (tree_blocks l s) s (drop (suc i) (entries_at s (node_on path top s root)))) held

-- What a call left that replaced one entry of a node by others: none, one, or two in a split.
pub record Changes (held : List ℕ) (s t : RigState) (top root : ℕ) (path : List ℕ) (l i : ℕ)
    (fs : List Entry) : Type 0 where
  pub others : LeavesOthers held s top root path l i
  pub entries : entries_at t (node_on path top s root) ≡ take i (entries_at s (node_on path top s root))
      ++ (fs ++ drop (suc i) (entries_at s (node_on path top s root)))

-- What an emptying left: the entry has nothing in its buffer, and its child has the operations.
pub record Empties (key : Record → Record) (s t : RigState) (l : ℕ) (e f : Entry) : Type 0 where
  pub low : f.low ≡ e.low
  pub child : f.child ≡ e.child
  pub empty : chain_items t (buffer_of f) ≡ []
  pub poured : tree_at l t (linked_block f.child)
      ≡ pour key (tree_at l s (linked_block e.child)) (chain_items s (buffer_of e))

-- What a leaf load left: the entry has the rest of its buffer, and its leaf what the load left.
pub record Loads (key : Record → Record) (step : Option Record → Record → Step) (s t : RigState)
    (e f : Entry) (load rest sorted : List Record) : Type 0 where
  pub low : f.low ≡ e.low
  pub buffer : chain_items s (buffer_of e) ≡ load ++ rest
  pub rest_is : chain_items t (buffer_of f) ≡ rest
  pub same : IsPermutation load sorted
  pub ascending : IsAscending sorted
  pub stored : leaf_items t f ≡ list_with_ops key step (leaf_items s e) sorted

-- What a leaf load left that split its leaf: two entries stand for one, and the rest of the buffer
-- was poured into the node.
pub record LoadsSplit (key : Record → Record) (step : Option Record → Record → Step) (s t : RigState)
    (top root : ℕ) (path : List ℕ) (i : ℕ) (load rest sorted : List Record) (y z : Record)
    (ys zs : List Record) : Type 0 where
  pub buffer : chain_items s (buffer_of (entry_on top s root path i)) ≡ load ++ rest
  pub same : IsPermutation load sorted
  pub ascending : IsAscending sorted
  pub stored : list_with_ops key step (leaf_items s (entry_on top s root path i)) sorted ≡ y ∷ ys ++ z ∷ zs
  pub node : tree_at 1 t (node_on path top s root) ≡ pour key
      (put_at (entry_place 0 s (node_on path top s root) i)
      (entry (entry_on top s root path i).low [] (leaf (y ∷ ys))
      (entry (key z) [] (leaf (z ∷ zs)) (row_from 0 s (node_on path top s root) (suc i))))) rest

-- What a node split left: two entries stand for one, over the lower and the upper entries of the
-- node, with nothing in their buffers. There was nothing in the buffer over the node.
pub record SplitsNode (s t : RigState) (l half : ℕ) (e f g : Entry) : Type 0 where
  pub low : f.low ≡ e.low
  pub empty : chain_items s (buffer_of e) ≡ []
  pub empty_lower : chain_items t (buffer_of f) ≡ []
  pub empty_upper : chain_items t (buffer_of g) ≡ []
  pub some : 0 < half
  pub more : half < length (entries_at s (linked_block e.child))
  pub key_is : g.low ≡ (get_or (entries_at s (linked_block e.child)) half no_entry).low
  pub lower : tree_at (suc l) t (linked_block f.child)
      ≡ row_of (tree_at l s) s (take half (entries_at s (linked_block e.child)))
  pub upper : tree_at (suc l) t (linked_block g.child)
      ≡ row_of (tree_at l s) s (drop half (entries_at s (linked_block e.child)))

-- What a split of the root left: from the block of the new root on, two entries are read with
-- nothing in their buffers, over the lower and the upper entries of the old root.
pub record SplitsRoot (s t : RigState) (l half root new : ℕ) (first : Record) : Type 0 where
  pub some : 0 < half
  pub more : half < length (entries_at s root)
  pub reads : tree_at (suc (suc l)) t new
      ≡ entry first [] (row_of (tree_at l s) s (take half (entries_at s root)))
      (entry (get_or (entries_at s root) half no_entry).low []
      (row_of (tree_at l s) s (drop half (entries_at s root))) end)

-- an entry with nothing in its buffer, and nothing stored or waiting in its child
pub record IsClear (l : ℕ) (s : RigState) (e : Entry) : Type 0 where
  pub buffer : chain_items s (buffer_of e) ≡ []
  pub stored : stored_in (tree_at l s (linked_block e.child)) ≡ []
  pub waiting : waiting_in (tree_at l s (linked_block e.child)) ≡ []

-- the records of the leaf block at the end of the first path
abbrev pub first_items : ℕ → RigState → RigState → ℕ → List Record
first_items l s t k =
    let j = node_on (first_path l) l s k in chain_items t (stored_chain t j)
