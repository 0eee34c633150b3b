-- A tree in which no operation waits, over what empties buffers: the same tree is read.
use Rattle.std.proofs.Common.{◌≡◌, ℕ, ◌+◌, [], ◌++◌, length, ap, ◌∙◌, arith, length-append, IsTrue}
use Rattle.std.proofs.lemmas.List.{nil_from_length}
use Rattle.std.specs.Prelude.{Option}
use Rattle.em_record.specs.declared.record.Record.{Record}
use Rattle.em_space.specs.Rig.{RigState}
use Rattle.em_chain.specs.Writer.{writer_items}
use Rattle.em_settle.specs.declared.step.Step.{Step}
use Rattle.em_tree_model.specs.Pouring.{pour}
use Rattle.em_tree_model.specs.Tree.{waiting_in}
use Rattle.em_tree_buffers.specs.Loops.{KeepsQuiet}
use Rattle.em_trunk.specs.Trunk.{model_of, root_of}
use Rattle.em_trunk.specs.Works.{Works}
use Rattle.em_trunk.specs.declared.trunk.Trunk.{Trunk}

-- One step after another.
pub quiet_after : {key : Record → Record} {step : Option Record → Record → Step}
    {IsOp IsKept : Record → Type 0} {p q d n : ℕ} {s t u : RigState} {v w x : Trunk}
    → Works key step IsOp IsKept p q d n s t v w → KeepsQuiet s t v w → KeepsQuiet t u w x → KeepsQuiet s u v x
quiet_after a f g told none =
    let first = f told none in
    let last = g (a.session.touches.told ∙ told) (a.still told none) in
    record { root = last.root ∙ first.root; level = last.level ∙ first.level }

-- where nothing waits, the root's buffer is empty
pub none_in_root : (s : RigState) (v : Trunk) → waiting_in (model_of s v) ≡ [] → writer_items s v.buffer ≡ []
none_in_root s v none =
    let a = ap length none in
    let b = length-append (waiting_in (root_of s v)) (writer_items s v.buffer) in
    let c = length-append (waiting_in (root_of s v) ++ writer_items s v.buffer) [] in
    nil_from_length (writer_items s v.buffer) (omega (arith, a, b, c))

-- The root's buffer was emptied.
pub quiet_drained : (key : Record → Record) (s t : RigState) (v w : Trunk)
    → (IsTrue s.device.told → root_of t w ≡ pour key (root_of s v) (writer_items s v.buffer))
    → w.level ≡ v.level → KeepsQuiet s t v w
quiet_drained key s t v w pours level told none = record {
  root = pours told ∙ ap (pour key (root_of s v)) (none_in_root s v none);
  level = level;
}
