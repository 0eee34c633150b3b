-- A load, before the rest of the buffer of a leaf that was split is poured.
use Rattle.std.specs.Prelude.{◌≡◌, ℕ, suc, ◌+◌, ◌*◌, ◌≤◌, min, List, [], ◌∷◌, ◌++◌, length, IsTrue, Option, Some, None, IfSome, Result, Ok, Err}
use Rattle.std.specs.List.Sorted.{IsPermutation}
use Rattle.em_record.specs.Order.{IsAscending}
use Rattle.em_record.specs.declared.record.Record.{Record}
use Rattle.em_frames.specs.Pool.{load_of}
use Rattle.em_space.specs.Held.{Holds}
use Rattle.em_space.specs.Rig.{RigState}
use Rattle.em_space.specs.declared.fault.EmFault.{EmFault}
use Rattle.em_chain.specs.Chain.{IsChain, IsTight, chain_blocks, chain_items}
use Rattle.em_chain.specs.Session.{Wrote}
use Rattle.em_chain.specs.declared.chain.Chain.{Chain}
use Rattle.em_chain.specs.declared.writer.Writer.{Writer}
use Rattle.em_node.specs.declared.entry.Entry.{Entry}
use Rattle.em_settle.specs.Keys.{record_at}
use Rattle.em_settle.specs.Lists.{list_with_ops}
use Rattle.em_settle.specs.States.{answers_to}
use Rattle.em_settle.specs.declared.step.Step.{Step}
use Rattle.em_leaf.specs.Leaf.{leaf_most}
use Rattle.em_leaf.specs.declared.change.LeafChange.{LeafChange}
use Rattle.em_tree_model.specs.Places.{put_at}
use Rattle.em_tree_model.specs.Tree.Tree.{entry, leaf}
use Rattle.em_tree_blocks.specs.Effects.{entry_place, row_from}
use Rattle.em_tree_blocks.specs.Reading.{IsNodeAt, entries_at, leaf_items, tree_at}
use Rattle.em_tree_walk.specs.Inserted.{CanFollow}
use Rattle.em_tree_walk.specs.Stands.{StandsAt}
use Rattle.em_tree_walk.specs.Forms.{AreFormed}
use Rattle.em_tree_load.specs.LeafChanges.{IsLeafOf, HasExactBlocks, divided_at, rebuffered_at}
use Rattle.em_tree_load.specs.LeafLoads.{LoadsOne, entry_in, leaf_load_moves, leaf_size, load_leaf_moves, loading_over, taken_of, waiting_over}
use Rattle.em_tree_walk.specs.Paid.{RunsPaid, StopsPaid}
use Rattle.em_tree_load.specs.declared.changing.Split.{Split}

-- the blocks of what a split left of the buffer,
abbrev pub left_blocks : RigState → Option Split → List ℕ
left_blocks t None = []
left_blocks t (Some x) = chain_blocks t x.rest

-- which is a chain
abbrev pub IsLeft : RigState → Option Split → Type 0
IsLeft t None = Unit {0}
IsLeft t (Some x) = IsChain t x.rest

-- What results is in two leaves, over which nothing waits. The rest of the buffer is a chain.
pub record DividesLeaf (key : Record → Record) (step : Option Record → Record → Step)
    (s t : RigState) (node i : ℕ) (load rest sorted : List Record) (x : Split) : Type 0 where
  pub y : Record
  pub z : Record
  pub ys : List Record
  pub zs : List Record
  pub buffer : waiting_over s node i ≡ load ++ rest
  pub same : IsPermutation load sorted
  pub ascending : IsAscending sorted
  pub stored : list_with_ops key step (leaf_items s (entry_in s node i)) sorted ≡ y ∷ ys ++ z ∷ zs
  pub low_is : x.low ≡ key z
  pub first_least : 2 * load_of s.pool.shape ≤ length (y ∷ ys)
  pub first_most : length (y ∷ ys) ≤ leaf_most s.pool.shape
  pub second_least : 2 * load_of s.pool.shape ≤ length (z ∷ zs)
  pub second_most : length (z ∷ zs) ≤ leaf_most s.pool.shape
  pub rest_is : chain_items t x.rest ≡ rest
  pub tight : IsTight t x.rest
  pub node_is : tree_at 1 t node ≡ put_at (entry_place 0 s node i)
      (entry (entry_in s node i).low [] (leaf (y ∷ ys))
      (entry (key z) [] (leaf (z ∷ zs)) (row_from 0 s node (suc i))))

-- what became of the leaf, by what a split left to do
abbrev pub LoadsUpTo : (Record → Record) → (Option Record → Record → Step) → RigState → RigState → ℕ
    → ℕ → List Record → List Record → List Record → Option Split → Type 0
LoadsUpTo key step s t node i load rest sorted None =
    LoadsOne key step s t node i load rest sorted
LoadsUpTo key step s t node i load rest sorted (Some x) =
    DividesLeaf key step s t node i load rest sorted x

-- the most moves until then
abbrev pub here_moves : RigState → ℕ → ℕ → Option Split → ℕ
here_moves s node i None =
    leaf_load_moves s (leaf_size s node i) (taken_of s (length (waiting_over s node i)))
here_moves s node i (Some x) =
    leaf_load_moves s (leaf_size s node i) (taken_of s (length (waiting_over s node i))) + 2

-- What a load left, over a device that tells.
pub record LoadsHere (key : Record → Record) (step : Option Record → Record → Step) (s t : RigState)
    (node i : ℕ) (left : Option Split) (given : List Record) : Type 0 where
  pub load : List Record
  pub rest : List Record
  pub sorted : List Record
  pub loads : LoadsUpTo key step s t node i load rest sorted left
  pub taken : length load ≡ taken_of s (length (waiting_over s node i))
  pub fewer : length (list_with_ops key step (leaf_items s (entry_in s node i)) sorted)
      ≤ length (leaf_items s (entry_in s node i)) + length load
  pub given_is : given ≡ answers_to key step (record_at key (leaf_items s (entry_in s node i))) sorted
  pub stands : StandsAt t 1 node
  pub formed : AreFormed 1 t node
  pub moves : t.moves ≤ s.moves + here_moves s node i left

-- A leaf was loaded.
pub record LoadedHere (key : Record → Record) (step : Option Record → Record → Step) (s t : RigState)
    (node i : ℕ) (w v : Writer) (left : Option Split) : Type 0 where
  pub given : List Record
  pub runs : RunsPaid (loading_over s node w) (left_blocks t left ++ loading_over t node v)
      (min w.blocks 1) (min v.blocks 1) s t
  pub wrote : Wrote s t w v given
  pub chain : IsLeft t left
  pub told : IsTrue s.device.told → LoadsHere key step s t node i left given

-- It wasn't.
pub record StopsHere (s t : RigState) (node i : ℕ) (w : Writer) (fault : EmFault) : Type 0 where
  pub stops : StopsPaid (loading_over s node w) (min w.blocks 1) 2 s t fault
  pub moves : IsTrue s.device.told → t.moves ≤ s.moves + load_leaf_moves s node i

-- what that did, by its result
abbrev pub LoadsHereTo : (Record → Record) → (Option Record → Record → Step) → RigState → RigState → ℕ
    → ℕ → Writer → Writer → Result (Option Split) EmFault → Type 0
LoadsHereTo key step s t node i w v (Ok left) = LoadedHere key step s t node i w v left
LoadsHereTo key step s t node i w v (Err fault) = StopsHere s t node i w fault

-- a leaf that isn't split, and one that is
abbrev pub kept_change : Chain → LeafChange
kept_change low = record { low = low; high = None }

abbrev pub parted_change : Chain → Record × Chain → LeafChange
parted_change low high = record { low = low; high = Some high }

-- What a change of a leaf asks over a device that tells: the leaf's block and the node's are two, the
-- chains are as short as they can be, and the key of a new leaf can come after the entry's.
pub record CanChange (s : RigState) (leaf node i : ℕ) (es : List Entry) (change : LeafChange)
    : Type 0 where
  pub holds : Holds s (leaf ∷ node ∷ [])
  pub low_whole : HasExactBlocks s change.low
  pub high_whole : IfSome change.high (λ p. HasExactBlocks s p.1)
  pub follow : IfSome change.high (λ p. CanFollow i p.0 es)

-- The leaf's block has the low part, and so has the node's entry the rest of the buffer.
pub record KeepsLeaf (s t : RigState) (leaf node level i : ℕ) (es : List Entry) (change : LeafChange)
    (rest : Chain) : Type 0 where
  pub none : change.high ≡ None
  pub low : IsLeafOf t leaf change.low
  pub node_is : IsNodeAt t level node
  pub entries : entries_at t node ≡ rebuffered_at i rest es

-- The leaf's block has the low part and a new one the high part, and an entry more leads there.
pub record PartsLeaf (s t : RigState) (leaf node level i : ℕ) (es : List Entry) (change : LeafChange)
    (rest : Chain) (x : Split) (new : ℕ) : Type 0 where
  pub stored : Chain
  pub some : change.high ≡ Some (x.low, stored)
  pub low : IsLeafOf t leaf change.low
  pub high : IsLeafOf t new stored
  pub node_is : IsNodeAt t level node
  pub entries : entries_at t node ≡ divided_at i x.low new es

-- either of these, by what a split left to do, and the new blocks
abbrev pub ChangesTo : RigState → RigState → ℕ → ℕ → ℕ → ℕ → List Entry → LeafChange → Chain
    → Option Split → List ℕ → Type 0
ChangesTo s t k node level i es change rest None news =
    (news ≡ []) × KeepsLeaf s t k node level i es change rest
ChangesTo s t k node level i es change rest (Some x) news = (new : ℕ) × (news ≡ new ∷ [])
    × PartsLeaf s t k node level i es change rest x new

-- What became of a leaf was stored, in its block and in none or one more.
pub record ChangedLeaf (s t : RigState) (leaf node level i : ℕ) (es : List Entry)
    (change : LeafChange) (rest : Chain) (left : Option Split) : Type 0 where
  pub news : List ℕ
  pub runs : RunsPaid (leaf ∷ node ∷ []) (leaf ∷ node ∷ news) 0 0 s t
  pub moves : t.moves ≤ s.moves + 2 + 2 * length news
  pub told : IsTrue s.device.told → ChangesTo s t leaf node level i es change rest left news
  pub rest_is : IfSome left (λ x. x.rest ≡ rest)

-- It couldn't be.
pub record StopsChanging (s t : RigState) (leaf node : ℕ) (fault : EmFault) : Type 0 where
  pub stops : StopsPaid (leaf ∷ node ∷ []) 0 1 s t fault
  pub moves : t.moves ≤ s.moves + 4

-- what that did, by its result
abbrev pub ChangesLeaf : RigState → RigState → ℕ → ℕ → ℕ → ℕ → List Entry → LeafChange → Chain
    → Result (Option Split) EmFault → Type 0
ChangesLeaf s t k node level i es change rest (Ok left) =
    ChangedLeaf s t k node level i es change rest left
ChangesLeaf s t k node level i es change rest (Err fault) = StopsChanging s t k node fault
