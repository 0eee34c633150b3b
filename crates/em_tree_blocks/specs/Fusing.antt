-- What fusing left of two entries of a tree on the device, one beside the other.
use Rattle.std.specs.Prelude.{◌≡◌, ℕ, suc, ◌<◌, List, [], ◌∷◌, ◌++◌, length, get_or, take, drop}
use Rattle.em_record.specs.declared.record.Record.{Record}
use Rattle.em_space.specs.Rig.{RigState}
use Rattle.em_space.specs.Held.{Apart}
use Rattle.em_chain.specs.Chain.{chain_items}
use Rattle.em_node.specs.declared.entry.Entry.{Entry}
use Rattle.em_node.specs.Node.{no_entry}
use Rattle.em_tree_model.specs.Tree.{Tree, HasEntry, join_rows}
use Rattle.em_tree_model.specs.Tree.Tree.{leaf, end, entry}
use Rattle.em_tree_blocks.specs.Node.{buffer_of, linked_block}
use Rattle.em_tree_blocks.specs.Reading.{entries_at, tree_at, row_blocks, tree_blocks, leaf_items}
use Rattle.em_tree_blocks.specs.Paths.{IsPath, node_on, level_on, blocks_with}

-- The node at the end of a path, and two of its entries, one after the other.
pub record IsPairAt (top : ℕ) (s : RigState) (root : ℕ) (path : List ℕ) (l i : ℕ) : Type 0 where
  pub on_path : IsPath path top s root
  pub level : level_on path top ≡ suc l
  pub two : suc i < length (entries_at s (node_on path top s root))

-- the second of them
abbrev pub next_on : ℕ → RigState → ℕ → List ℕ → ℕ → Entry
next_on top s root path i = get_or (entries_at s (node_on path top s root)) (suc i) no_entry

-- What a call left that replaced both by others: one, or two.
pub record ChangesPair (held : List ℕ) (s t : RigState) (top root : ℕ) (path : List ℕ) (l i : ℕ)
    (fs : List Entry) : Type 0 where
  pub before : Apart (blocks_with path top s root []) held
  pub left : Apart (row_blocks (tree_blocks l s) s (take i (entries_at s (node_on path top s root)))) held
  pub right : Apart (row_blocks (tree_blocks l s) s
      (drop (suc (suc i)) (entries_at s (node_on path top s root)))) held
  pub entries : entries_at t (node_on path top s root) ≡ take i (entries_at s (node_on path top s root))
      ++ (fs ++ drop (suc (suc i)) (entries_at s (node_on path top s root)))

-- Nothing waits in the entries over both, and nothing in those that are left.
pub record AreClear (s : RigState) (e g : Entry) : Type 0 where
  pub first : chain_items s (buffer_of e) ≡ []
  pub second : chain_items s (buffer_of g) ≡ []

-- Two leaves became one.
pub record FusesLeaves (s t : RigState) (e g f : Entry) : Type 0 where
  pub clear : AreClear s e g
  pub low : f.low ≡ e.low
  pub empty : chain_items t (buffer_of f) ≡ []
  pub stored : leaf_items t f ≡ leaf_items s e ++ leaf_items s g

-- Two leaves share their records anew, from the first record of the second one on.
pub record SharesLeaves (key : Record → Record) (s t : RigState) (e g f h : Entry) (y z : Record)
    (ys zs : List Record) : Type 0 where
  pub clear : AreClear s e g
  pub low : f.low ≡ e.low
  pub left : AreClear t f h
  pub parts : leaf_items s e ++ leaf_items s g ≡ y ∷ ys ++ z ∷ zs
  pub lower : leaf_items t f ≡ y ∷ ys
  pub upper : leaf_items t h ≡ z ∷ zs
  pub key_is : h.low ≡ key z

-- a row that begins with another low key
abbrev pub begun_at : Record → Tree → Tree
begun_at k (leaf xs) = leaf xs
begun_at k end = end
begun_at k (entry low b c r) = entry k b c r

-- all entries of two nodes of level l + 1, the second of which begins with the low key of its entry
abbrev pub both_rows : ℕ → RigState → Entry → Entry → Tree
both_rows l s e g = join_rows (tree_at (suc l) s (linked_block e.child))
    (begun_at g.low (tree_at (suc l) s (linked_block g.child)))

-- Two nodes became one.
pub record FusesNodes (s t : RigState) (l : ℕ) (e g f : Entry) : Type 0 where
  pub clear : AreClear s e g
  pub low : f.low ≡ e.low
  pub empty : chain_items t (buffer_of f) ≡ []
  pub first : HasEntry (tree_at (suc l) s (linked_block e.child))
  pub second : HasEntry (tree_at (suc l) s (linked_block g.child))
  pub all : tree_at (suc l) t (linked_block f.child) ≡ both_rows l s e g

-- Two nodes share their entries anew, from the first low key of the second one on.
pub record SharesNodes (s t : RigState) (l : ℕ) (e g f h : Entry) : Type 0 where
  pub clear : AreClear s e g
  pub low : f.low ≡ e.low
  pub left : AreClear t f h
  pub first : HasEntry (tree_at (suc l) s (linked_block e.child))
  pub second : HasEntry (tree_at (suc l) s (linked_block g.child))
  pub lower : HasEntry (tree_at (suc l) t (linked_block f.child))
  pub upper : HasEntry (tree_at (suc l) t (linked_block h.child))
  pub begins : begun_at h.low (tree_at (suc l) t (linked_block h.child)) ≡ tree_at (suc l) t (linked_block h.child)
  pub all : join_rows (tree_at (suc l) t (linked_block f.child)) (tree_at (suc l) t (linked_block h.child))
      ≡ both_rows l s e g

-- The root has one entry, with nothing in its buffer: it gives way to its child, which is read as before.
pub record GivesWay (s t : RigState) (l root new : ℕ) (low : Record) : Type 0 where
  pub was : tree_at (suc l) s root ≡ entry low [] (tree_at l s new) end
  pub stays : tree_at l t new ≡ tree_at l s new
