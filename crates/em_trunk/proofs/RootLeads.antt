-- A tree stands from its root on.
use Rattle.std.proofs.Common.{ℕ, zero, suc, ◌<◌, List, [], ◌∷◌, length, arith}
use Rattle.std.specs.Prelude.{Option}
use Rattle.em_record.specs.declared.record.Record.{Record}
use Rattle.em_space.specs.Rig.{InUse, RigState}
use Rattle.em_node.specs.declared.entry.Entry.{Entry}
use Rattle.em_tree_model.specs.Ranges.{IsTree, low_of, next_low}
use Rattle.em_tree_model.specs.Tree.{IsChild, Tree}
use Rattle.em_tree_blocks.specs.Node.{linked_block}
use Rattle.em_tree_blocks.specs.Reading.{IsTreeAt, entries_at, row_of, tree_at}
use Rattle.em_tree_walk.specs.Stands.{EachChild, HasRows, LeadsToTree}
use Rattle.em_trunk.specs.Trunk.{IsRunning}
use Rattle.em_trunk.specs.declared.trunk.Trunk.{Trunk}

-- Each node of a tree has an entry, if the first has one and its keys are in their ranges.
entries_of_row : (key : Record → Record) (l : ℕ) (s : RigState) (es : List Entry) (lo : Record)
    (hi : Option Record)
    → ((k : ℕ) (a : Record) (b : Option Record) → IsTree key (tree_at l s k) a b → IsChild (tree_at l s k)
    → HasRows l s.device.contents k)
    → IsTree key (row_of (tree_at l s) s es) lo hi → EachChild (HasRows l s.device.contents) es
entries_of_row key l s [] lo hi f i = tt
entries_of_row key l s (e ∷ es) lo hi f i =
    let r = row_of (tree_at l s) s es in (
      f (linked_block e.child) lo (next_low hi r) i.2 i.0,
      entries_of_row key l s es (low_of lo r) hi f i.4,
    )

row_some : (child : ℕ → Tree) (s : RigState) (es : List Entry) → IsChild (row_of child s es)
    → 0 < length es
row_some child s [] h = absurd h
row_some child s (e ∷ es) h = omega arith

rows_from : (key : Record → Record) (l : ℕ) (s : RigState) (k : ℕ) (lo : Record) (hi : Option Record)
    → IsTree key (tree_at l s k) lo hi → IsChild (tree_at l s k) → HasRows l s.device.contents k
rows_from key zero s k lo hi i c = tt
rows_from key (suc l) s k lo hi i c = (
  row_some (tree_at l s) s (entries_at s k) c,
  entries_of_row key l s (entries_at s k) lo hi (λ j a b x y. rows_from key l s j a b x y) i,
)

first_in_use : (l : ℕ) (s : RigState) (k : ℕ) → IsTreeAt l s k → InUse s k
first_in_use zero s k i = i.in_use
first_in_use (suc l) s k i = i.0.in_use

pub root_leads : (key : Record → Record) (IsOp IsKept : Record → Type 0) (s : RigState) (v : Trunk)
    → IsRunning key IsOp IsKept s v → LeadsToTree s v.level v.root
root_leads key IsOp IsKept s v i = record {
  in_use = record {
    told = λ told. (first_in_use v.level s v.root (i.stands told).stored).told told;
    untold = λ z. i.numbers.root_below;
  };
  told = λ told.
      let st = i.stands told in
      record { is = st.stored; rows = rows_from key v.level s v.root _ _ st.is.2 st.is.0 };
}
