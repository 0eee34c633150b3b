-- What a tree above reads after emptying: the node is the old one into which the chain's records
-- were poured, and the buffers that were packed or tight still are.
use Rattle.std.proofs.Common.{◌≡◌, ℕ, suc, List, [], ◌∷◌, ap, ◌∙◌}
use Rattle.em_record.specs.declared.record.Record.{Record}
use Rattle.em_space.specs.Rig.{RigState}
use Rattle.em_chain.specs.Chain.{chain_items}
use Rattle.em_chain.specs.declared.chain.Chain.{Chain}
use Rattle.em_node.specs.declared.entry.Entry.{Entry}
use Rattle.em_tree_model.specs.Tree.{Tree}
use Rattle.em_tree_model.specs.Pouring.{pour}
use Rattle.em_tree_blocks.specs.Effects.{Empties}
use Rattle.em_tree_blocks.specs.Node.{buffer_of, linked_block}
use Rattle.em_tree_blocks.specs.Reading.{SameChildren, entries_at, tree_at}
use Rattle.em_tree_blocks.proofs.Emptied.{row_emptied}
use Rattle.em_empty.specs.Node.{SameLinks}
use Rattle.em_empty.specs.Effects.{Receives}

-- each of these children reads the same after a call
abbrev pub ChildrenStay : (ℕ → Tree) → (ℕ → Tree) → List Entry → Type 0
ChildrenStay old new [] = Unit {0}
ChildrenStay old new (e ∷ es) =
    (new (linked_block e.child) ≡ old (linked_block e.child)) × ChildrenStay old new es

same_children : (old new : ℕ → Tree) (es fs : List Entry) → SameLinks es fs
    → ChildrenStay old new es
    → SameChildren old new es fs
same_children old new [] [] h k = tt
same_children old new [] (f ∷ fs) h k = absurd h
same_children old new (e ∷ es) [] h k = absurd h
same_children old new (e ∷ es) (f ∷ fs) h k = (
  h.0,
  ap (λ (c : ℕ). new (linked_block c)) h.1 ∙ k.0,
  same_children old new es fs h.2 k.1,
)

-- If the children read the same, the node has the records of the chain poured into it,
pub node_poured : {key : Record → Record} {s t : RigState} {node : ℕ} {buffer : Chain} (l : ℕ)
    → Receives key s t node buffer → ChildrenStay (tree_at l s) (tree_at l t) (entries_at s node)
    → tree_at (suc l) t node ≡ pour key (tree_at (suc l) s node) (chain_items s buffer)
node_poured {key} {s} {t} {node} {buffer} l r k =
    row_emptied key (tree_at l s) (tree_at l t) s t (entries_at s node) (entries_at t node)
    (chain_items s buffer)
    (same_children (tree_at l s) (tree_at l t) (entries_at s node)
    (entries_at t node) r.links k) r.items

-- and the entry over it was emptied, if the chain was its buffer and it has none now.
pub entry_emptied : {key : Record → Record} {s t : RigState} {e f : Entry} (l : ℕ)
    → Receives key s t (linked_block e.child) (buffer_of e)
    → ChildrenStay (tree_at l s) (tree_at l t) (entries_at s (linked_block e.child))
    → f.low ≡ e.low → f.child ≡ e.child → chain_items t (buffer_of f) ≡ [] → Empties key s t
    (suc l) e f
entry_emptied {key} {s} {t} {e} {f} l r k low child none = record {
  low = low;
  child = child;
  empty = none;
  poured = ap (λ (c : ℕ). tree_at (suc l) t (linked_block c)) child ∙ node_poured l r k;
}
