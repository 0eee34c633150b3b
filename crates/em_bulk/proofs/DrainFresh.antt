-- A tree to which nothing was pushed since its last reset has no record.
use Rattle.std.specs.Prelude.{◌≡◌, ◌+◌, ◌≤◌, List, [], ◌++◌, length, Option, None, IsTrue}
use Rattle.std.proofs.Common.{sym, ap, ◌∙◌, arith}
use Rattle.std.proofs.lemmas.List.{length-append, length-drop, nil_from_length}
use Rattle.em_record.specs.declared.record.Record.{Record}
use Rattle.em_settle.specs.Keys.{record_at}
use Rattle.em_settle.specs.declared.step.Step.{Step}
use Rattle.em_space.specs.Rig.{RigState}
use Rattle.em_chain.specs.List.{items_in}
use Rattle.em_chain.specs.Writer.{writer_contents, writer_items}
use Rattle.em_tree_model.specs.Meaning.{tree_contents}
use Rattle.em_tree_model.specs.Ranges.{IsTree, least_record}
use Rattle.em_tree_model.specs.Tree.{Tree, stored_in, waiting_in}
use Rattle.em_tree_model.proofs.Paths.{contents_by_path}
use Rattle.em_tree_model.proofs.RowPlaces.{all_keys}
use Rattle.em_tree_model.proofs.Takes.{settled}
use Rattle.em_tree_outline.proofs.Outlines.{outline_stored, outline_waiting}
use Rattle.em_trunk.specs.Trunk.{IsTrunk, model_of, root_of, sums_in}
use Rattle.em_trunk.specs.declared.trunk.Trunk.{Trunk}

-- nothing is stored and nothing waits
none_under : (key : Record → Record) (step : Option Record → Record → Step) (t : Tree)
    → IsTree key t least_record None → stored_in t ≡ [] → waiting_in t ≡ [] → (q : Record)
    → tree_contents key step t q ≡ None
none_under key step t is stored waiting q =
    sym (contents_by_path key step t least_record None q is (all_keys q))
    ∙ (settled key step t q waiting ∙ ap (λ (xs : List Record). record_at key xs q) stored)

-- the operations of the root's buffer are as many as it says
items_count : {key : Record → Record} {IsOp IsKept : Record → Type 0} (s : RigState) (v : Trunk)
    → IsTrue s.device.told → IsTrunk key IsOp IsKept s v → length (writer_items s v.buffer) ≡ v.buffer.count
items_count s v told is =
    let w = v.buffer in
    let count = (is.running.buffer.told told).list.count_is in
    let n = length-drop w.skip (items_in (writer_contents s w)) in
    omega (arith, count, n)

-- Its contents are none.
pub fresh_none : (key : Record → Record) (step : Option Record → Record → Step) (IsOp IsKept : Record → Type 0)
    (s : RigState) (v : Trunk) → IsTrunk key IsOp IsKept s v → IsTrue s.device.told → v.since ≡ 0 → (q : Record)
    → tree_contents key step (model_of s v) q ≡ None
fresh_none key step IsOp IsKept s v is told fresh q =
    let b = is.books told in
    let since = b.books.since in
    let most = b.books.paid.fits.sums.since_pushed in
    let none : (sums_in s v).waiting + (sums_in s v).stored ≤ 0 = omega (arith, most, since, fresh) in
    let ops = writer_items s v.buffer in
    let count = items_count s v told is in
    let inner = outline_waiting (root_of s v) in
    let stored = outline_stored (root_of s v) in
    let a = length-append (waiting_in (root_of s v)) ops in
    let c = length-append (waiting_in (root_of s v) ++ ops) [] in
    let d = length-append (stored_in (root_of s v)) [] in
    none_under key step (model_of s v) (is.running.stands told).is
    (nil_from_length (stored_in (model_of s v)) (omega (arith, none, stored, d)))
    (nil_from_length (waiting_in (model_of s v)) (omega (arith, none, inner, a, c, count))) q
