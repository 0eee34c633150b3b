-- A load of an entry's buffer, at each exit of its function.
use Rattle.std.proofs.Common.{◌≡◌, ℕ, ◌+◌, ◌*◌, List, refl, subst, sym, IsErrAnd, IsTrue, Result, Ok, Err}
use Rattle.std.specs.Prelude.{IfErr, Option, Some, None}
use Rattle.em_record.specs.declared.record.Record.{Record}
use Rattle.em_settle.specs.Laws.{IsSettle}
use Rattle.em_settle.specs.declared.step.Step.{Step}
use Rattle.em_space.specs.Rig.{RigState}
use Rattle.em_space.specs.declared.fault.EmFault.{EmFault}
use Rattle.em_chain.specs.Writer.{WriterHasFrame}
use Rattle.em_chain.specs.declared.writer.Writer.{Writer}
use Rattle.em_tree_blocks.specs.Reading.{tree_blocks}
use Rattle.em_tree_load.specs.LeafLoads.{LoadedLeaf, StopsLoading}
use Rattle.em_tree_walk.specs.SplitPaths.{CanSplitUp, SplitUp, StopsUpTo}
use Rattle.em_tree_walk.specs.declared.splitting.Root.{Root}
use Rattle.em_tree_buffers.specs.Emptying.{CanEmptyEntry, LoadedEntry, LoadsTo, StopsEntry, StopsHeld, stop_debt}
use Rattle.em_trunk.specs.Trunk.{full_limit}
use Rattle.em_trunk.specs.declared.trunk.Trunk.{Trunk}
use Rattle.em_tree_buffers.proofs.CutEntries.{cut_entry}
use Rattle.em_tree_buffers.proofs.CutWorks.{split_held, split_stopped}
use Rattle.em_tree_buffers.proofs.EntryConditions.{can_split}
use Rattle.em_tree_buffers.proofs.LeafWorks.{after_load, loaded_entry}
use Rattle.em_tree_buffers.proofs.LoadStops.{load_held, load_stopped}
use Rattle.em_trunk.specs.Works.{CanWork}

-- what holds at an error
pub held_by : {T : Type 0} (Q : Type 0) (r : Result T EmFault) → Q → IfErr r (λ fault. Q)
held_by Q (Ok x) h = tt
held_by Q (Err fault) h = h

-- by a result that is an error
pub loads_of : {T : Type 0} (key : Record → Record) (step : Option Record → Record → Step)
    (IsOp IsKept : Record → Type 0) (at : ℕ) (s t : RigState) (v w : Trunk) (path : List ℕ)
    (r : Result T EmFault) (fault : EmFault) → IsErrAnd r (λ f. f ≡ fault)
    → StopsEntry (full_limit s.pool.shape) (s.pool.shape.block * stop_debt at s v path) at s t v w path
    fault
    → LoadsTo key step IsOp IsKept at s t v w path r
loads_of key step IsOp IsKept at s t v w path (Ok x) fault e h = absurd e
loads_of key step IsOp IsKept at s t v w path (Err f) fault e h =
    let P : EmFault → Type 0 = λ g. StopsEntry (full_limit s.pool.shape)
    (s.pool.shape.block * stop_debt at s v path) at s t v w path g in
    subst P (sym e) h

module _ (key : Record → Record) (step : Option Record → Record → Step)
    (IsOp IsKept : Record → Type 0) (laws : IsSettle key step IsOp IsKept) {s : RigState} {v : Trunk}
    {node at : ℕ} (can : CanWork key IsOp IsKept s v) (spot : CanEmptyEntry 0 node at s v) where
  -- the leaf wasn't loaded,
  pub exit_unloaded : {t : RigState} {fault : EmFault} (b : Writer) → WriterHasFrame t b
      → StopsLoading s t node at v.answers fault
      → StopsEntry (full_limit s.pool.shape) (s.pool.shape.block * stop_debt at s v spot.spot.path)
      at s t v (after_load v b) spot.spot.path fault
  exit_unloaded b frame stopped = load_stopped key step IsOp IsKept laws b can.sound.shape can.running
      (λ z. spot.spot.told z) frame stopped

  pub exit_unloaded_held : {t : RigState} {fault : EmFault} (b : Writer) → WriterHasFrame t b
      → StopsLoading s t node at v.answers fault → IsTrue s.device.told
      → StopsHeld at s t v spot.spot.path
  exit_unloaded_held b frame stopped = load_held key step IsOp IsKept laws b can.sound.shape can.running
      (λ z. spot.spot.told z) frame stopped

  -- it was, and not split,
  pub exit_whole : {t : RigState} {b : Writer} {new : Option Record} → new ≡ None
      → LoadedLeaf key step s t node at v.answers b new
      → LoadedEntry key step IsOp IsKept at s t v (after_load v b) spot.spot.path
  exit_whole {t = t} {b = b} none loaded =
      let P : Option Record → Type 0 = LoadedLeaf key step s t node at v.answers b in
      loaded_entry key step IsOp IsKept laws can.sound.shape can.running (λ z. spot.spot.told z)
      (subst P none loaded)

  -- or it was split,
  exit_cut : {t : RigState} {b : Writer} {new : Option Record} {low : Record} → new ≡ Some low
      → LoadedLeaf key step s t node at v.answers b new
      → LoadedLeaf key step s t node at v.answers b (Some low)
  exit_cut {t = t} {b = b} some loaded =
      let P : Option Record → Type 0 = LoadedLeaf key step s t node at v.answers b in
      subst P some loaded

  -- so that nodes may be split,
  pub exit_splits : {t : RigState} {b : Writer} {new : Option Record} {low : Record} → new ≡ Some low
      → LoadedLeaf key step s t node at v.answers b new
      → CanSplitUp t (record { block = v.root; level = v.level }) low
  exit_splits some loaded =
      can_split key step IsOp IsKept laws can spot (exit_cut some loaded)

  -- which gave up,
  pub exit_unsplit : {t u : RigState} {b : Writer} {new : Option Record} {low : Record}
      {fault : EmFault} → new ≡ Some low → LoadedLeaf key step s t node at v.answers b new
      → StopsUpTo (v.level + 1) (7 * v.level + 4) (tree_blocks v.level t v.root) t u fault
      → StopsEntry (full_limit s.pool.shape) (s.pool.shape.block * stop_debt at s v spot.spot.path)
      at s u v (after_load v b) spot.spot.path fault
  exit_unsplit some loaded stopped =
      split_stopped key step IsOp IsKept laws can.sound.shape can.running (λ z. spot.spot.told z)
      (exit_cut some loaded) stopped

  pub exit_unsplit_held : {t u : RigState} {b : Writer} {new : Option Record} {low : Record}
      {fault : EmFault} → new ≡ Some low → LoadedLeaf key step s t node at v.answers b new
      → StopsUpTo (v.level + 1) (7 * v.level + 4) (tree_blocks v.level t v.root) t u fault
      → IsTrue s.device.told → StopsHeld at s u v spot.spot.path
  exit_unsplit_held some loaded stopped =
      split_held key step IsOp IsKept laws can.sound.shape can.running (λ z. spot.spot.told z)
      (exit_cut some loaded) stopped

  -- or was done.
  pub exit_split : {t u : RigState} {b : Writer} {new : Option Record} {low : Record} {root : Root}
      → new ≡ Some low → LoadedLeaf key step s t node at v.answers b new
      → SplitUp t u (record { block = v.root; level = v.level }) root low
      → LoadedEntry key step IsOp IsKept at s u v
      (record v { answers = b; root = root.block; level = root.level }) spot.spot.path
  exit_split some loaded up =
      let l0 = exit_cut some loaded in
      cut_entry key step IsOp IsKept laws can.sound.shape can.running (λ z. spot.spot.told z) l0 up
      (spot.empty refl) (spot.unwritten refl)
