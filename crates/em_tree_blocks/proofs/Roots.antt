-- The root's buffer is emptied, and the root is split under a new one, read from the device.
use Rattle.std.proofs.Common.{◌≡◌, ℕ, suc, List, [], get_or, take, drop, sym, ap, ◌∙◌, subst}
use Rattle.std.specs.Prelude.{Option}
use Rattle.std.proofs.Math.Seq.{drop-cons}
use Rattle.std.proofs.lemmas.List.{take-append-drop}
use Rattle.em_record.specs.declared.record.Record.{Record}
use Rattle.em_space.specs.Rig.{RigState}
use Rattle.em_chain.specs.Chain.{chain_items}
use Rattle.em_node.specs.Node.{no_entry}
use Rattle.em_settle.specs.declared.step.Step.{Step}
use Rattle.em_settle.specs.States.{Stored}
use Rattle.em_settle.specs.Laws.{IsSettle}
use Rattle.em_tree_model.specs.Tree.{Tree, HasEntry, join_rows}
use Rattle.em_tree_model.specs.Tree.Tree.{end, entry}
use Rattle.em_tree_model.specs.Meaning.{Represents}
use Rattle.em_tree_model.proofs.Whole.{holds_keep, holds_root}
use Rattle.em_tree_model.proofs.Events.{emptied}
use Rattle.em_tree_model.specs.Places.Place.{here}
use Rattle.em_tree_model.specs.Pouring.{pour}
use Rattle.em_tree_blocks.specs.Node.{buffer_of, linked_block}
use Rattle.em_tree_blocks.specs.Reading.{entries_at, row_of, tree_at}
use Rattle.em_tree_blocks.specs.Effects.{SplitsRoot}
use Rattle.em_tree_blocks.proofs.Entries.{row_is, row_append}
use Rattle.em_tree_blocks.proofs.Whole.{has_take}

-- If the root's buffer was poured into the root, the tree holds what it held, with nothing in that
-- buffer.
pub holds_root_emptied : (key : Record → Record) (step : Option Record → Record → Step)
    (IsOp IsKept : Record → Type 0) (laws : IsSettle key step IsOp IsKept) (contents : Stored)
    (answers given : List Record) (s t : RigState) (l root : ℕ) (low : Record) (b : List Record)
    → HasEntry (tree_at l s root) → tree_at l t root ≡ pour key (tree_at l s root) b
    → Represents key step IsOp IsKept contents answers given (entry low b (tree_at l s root) end)
    → Represents key step IsOp IsKept contents answers given (entry low [] (tree_at l t root) end)
holds_root_emptied key step IsOp IsKept laws contents answers given s t l root low b n e w =
    let c = tree_at l s root in
    let P : Tree → Type 0 = λ z. Represents key step IsOp IsKept contents answers given (entry low [] z end) in
    subst P (sym e) (holds_keep key step IsOp IsKept laws contents answers given here (entry low b c end)
    (entry low [] (pour key c b) end) (emptied key low b c end n) w)

-- If the root was split under a new one, the tree holds what it held.
pub holds_root_split : (key : Record → Record) (step : Option Record → Record → Step)
    (IsOp IsKept : Record → Type 0) (laws : IsSettle key step IsOp IsKept) (contents : Stored)
    (answers given : List Record) (s t : RigState) (l half root new : ℕ) (first low : Record)
    (b : List Record) → SplitsRoot s t l half root new first
    → Represents key step IsOp IsKept contents answers given (entry low b (tree_at (suc l) s root) end)
    → Represents key step IsOp IsKept contents answers given (entry low b (tree_at (suc (suc l)) t new) end)
holds_root_split key step IsOp IsKept laws contents answers given s t l half root new first low b d w =
    let es = entries_at s root in
    let x = get_or es half no_entry in
    let xs = row_of (tree_at l s) s (take half es) in
    let bx = chain_items s (buffer_of x) in
    let cx = tree_at l s (linked_block x.child) in
    let rx = row_of (tree_at l s) s (drop (suc half) es) in
    let P : Tree → Type 0 = λ z. Represents key step IsOp IsKept contents answers given (entry low b z end) in
    let second : row_of (tree_at l s) s (drop half es) ≡ entry x.low bx cx rx =
    ap (row_of (tree_at l s) s) (drop-cons es half no_entry d.more) in
    let old : tree_at (suc l) s root ≡ join_rows xs (entry x.low bx cx rx) =
    ap (row_of (tree_at l s) s) (sym (take-append-drop half es))
    ∙ (row_append (tree_at l s) s (take half es) (drop half es) ∙ ap (join_rows xs) second) in
    let new_is : tree_at (suc (suc l)) t new
    ≡ entry first [] xs (entry x.low [] (entry x.low bx cx rx) end) =
    d.reads ∙ ap (λ z. entry first [] xs (entry x.low [] z end)) second in
    subst P (sym new_is) (holds_root key step IsOp IsKept laws contents answers given low first b xs x.low bx cx rx
    (row_is (tree_at l s) s (take half es)) (has_take (tree_at l s) s half es d.some d.more) (subst P old w))
