-- The first leaf was taken out: it was emptied, and then removed.
use Rattle.std.proofs.Common.{◌≡◌, ℕ, ◌+◌, ◌*◌, List, [], ◌∷◌, ◌++◌, length, sym, ap, ◌∙◌, subst, arith, IsTrue, Result, Ok, Err}
use Rattle.std.specs.Prelude.{Bool, IsErrAnd}
use Rattle.std.proofs.lemmas.List.{length-append}
use Rattle.em_record.specs.declared.record.Record.{Record}
use Rattle.em_space.specs.Held.{Apart}
use Rattle.em_space.specs.Rig.{RigState}
use Rattle.em_space.specs.declared.fault.EmFault.{EmFault}
use Rattle.em_space.proofs.Apart.{off_right}
use Rattle.em_space.proofs.Lists.{distinct_apart}
use Rattle.em_space.proofs.Paying.{pays_then}
use Rattle.em_space.proofs.Sessions.{session_as, session_last}
use Rattle.em_space.proofs.Steps.{goes_trans, same_frames_then}
use Rattle.em_chain.specs.Chain.{ChainStays, chain_blocks, chain_items}
use Rattle.em_chain.proofs.Laws.{chain_stays}
use Rattle.em_tree_model.specs.Taking.{without_first}
use Rattle.em_tree_model.specs.Tree.{first_leaf}
use Rattle.em_tree_model.proofs.Removal.{without_with}
use Rattle.em_tree_blocks.specs.Reading.{tree_at, tree_blocks}
use Rattle.em_tree_load.specs.declared.seeking.FirstLeaf.{FirstLeaf}
use Rattle.em_tree_load.proofs.Peaks.{peaks_then}
use Rattle.em_tree_walk.specs.declared.splitting.Root.{Root}
use Rattle.em_tree_walk.proofs.Readings.{cause_then}
use Rattle.em_tree_unload.specs.Emptying.{CanRemoveEmpty, EmptiedFirst, RemovedEmpty, StopsWithin}
use Rattle.em_tree_unload.specs.Unloading.{CanUnload, StopsUnloading, UnloadedLeaf, Unloads, leaf_rows, left_blocks, left_rows}
use Rattle.em_tree_unload.specs.declared.unloading.Unloaded.{Unloaded}
use Rattle.em_tree_unload.proofs.Emptied.{leaf_chain_stays}
use Rattle.em_tree_unload.proofs.LeafRows.{gone_leaves}
use Rattle.em_tree_unload.proofs.NoneWaiting.{none_there}
use Rattle.em_tree_unload.proofs.TreeReads.{rows_child, rows_grown}

module _ {s t : RigState} {root : Root} {x : FirstLeaf} (can : CanUnload s root)
    (e : EmptiedFirst s t root x) where
  back : IsTrue t.device.told → IsTrue s.device.told
  back y = sym e.session.touches.told ∙ y

  -- The leaf can be removed.
  pub remove_can : CanRemoveEmpty t root x.fork
  remove_can = record {
    above = can.above;
    leads = e.leads;
    fork_leads = e.fork_leads;
    told = λ y.
        let r = e.told (back y) in
        record {
          unloadable = r.left;
          none_stored = ap first_leaf r.reads ∙ none_there (tree_at root.level s root.block);
          last = r.last;
        };
  }

  -- It was,
  module _ {u : RigState} {more : Bool} (r : RemovedEmpty t u root more) where
    on : IsTrue s.device.told → IsTrue t.device.told
    on z = e.session.touches.told ∙ z

    chain_apart : IsTrue t.device.told
        → Apart (chain_blocks t x.stored) (tree_blocks root.level t root.block)
    chain_apart y = distinct_apart (chain_blocks t x.stored) (tree_blocks root.level t root.block)
        ((e.session.holds (back y)).distinct y)

    still : ChainStays t u x.stored
    still = chain_stays (tree_blocks root.level t root.block) t u x.stored r.session.touches chain_apart
        e.chain.chain

    -- the records of the leaves
    rows : IsTrue s.device.told → leaf_rows (tree_at root.level s root.block)
        ≡ chain_items u x.stored ∷ left_rows more u root
    rows z =
        let old = tree_at root.level s root.block in
        let rest = leaf_rows (without_first old) in
        let h = can.leads.told z in
        let q = e.told z in
        let items : first_leaf old ≡ chain_items u x.stored = sym (still.items (on z) ∙ q.items) in
        let gone : leaf_rows (without_first old) ≡ left_rows more u root =
        ap leaf_rows (sym (without_with old []) ∙ ap without_first (sym q.reads)) ∙ sym (r.rows (on z)) in
        gone_leaves old (rows_child root.level s root.block h.rows) (rows_grown root.level s root.block h.rows)
        ∙ (ap (λ (ys : List Record). ys ∷ rest) items
        ∙ ap (λ (ys : List (List Record)). chain_items u x.stored ∷ ys) gone)

    pub unloaded : UnloadedLeaf s u root (record { stored = x.stored; more = more })
    unloaded = record {
      session = session_as (chain_blocks u x.stored ++ left_blocks more u root)
          (session_last (chain_blocks t x.stored) (tree_blocks root.level t root.block)
          (left_blocks more u root) e.session r.session)
          (λ z. ap (λ (ks : List ℕ). ks ++ left_blocks more u root) (still.blocks (on z)));
      frames = same_frames_then s.pool t.pool u.pool e.frames r.frames;
      pays = pays_then e.pays r.pays r.session.touches.moves;
      loses = λ z.
          let a = e.loses z in
          let b = r.loses (on z) in
          let c = length-append (chain_blocks t x.stored) (tree_blocks root.level t root.block) in
          let d = length-append (chain_blocks u x.stored) (left_blocks more u root) in
          let f = ap (λ (ks : List ℕ). length ks) (still.blocks (on z)) in
          omega (arith, a, b, c, d, f);
      peaks = peaks_then 0 e.peaks r.peaks (omega arith);
      chain = leaf_chain_stays r.session.touches still e.chain;
      leads = r.leads;
      told = λ z.
          let a = e.moves in
          let b = r.moves (on z) in
          record { rows = rows z; left = r.left (on z); moves = omega (arith, a, b) };
    }

  -- or couldn't be,
  pub unremoved : {u : RigState} {fault : EmFault} → StopsWithin (4 * root.level) t u root fault
      → StopsUnloading s u root fault
  unremoved {u} {fault} h =
      let ks = tree_blocks root.level t root.block in
      let a = e.moves in
      record {
        goes = goes_trans (tree_blocks root.level s root.block) ks s t u
            (record { sound = e.session.sound; touches = e.session.touches; frames = e.frames }) h.goes
            (λ z k i o. off_right k (chain_blocks t x.stored) ks (e.session.within.off z k i o));
        pays = pays_then e.pays h.pays h.goes.touches.moves;
        peaks = peaks_then 0 e.peaks h.peaks (omega arith);
        cause = cause_then s t u fault e.session.touches.faults h.cause;
        moves = λ z.
            let b = h.moves (e.session.touches.told ∙ z) in
            omega (arith, a, b);
      }

-- or it couldn't be emptied.
pub unemptied : {s t : RigState} {root : Root} {fault : EmFault} → StopsWithin (root.level + 2) s t root fault
    → StopsUnloading s t root fault
unemptied h = record {
  goes = h.goes;
  pays = h.pays;
  peaks = h.peaks;
  cause = h.cause;
  moves = λ z. (let a = h.moves z in omega (arith, a));
}

-- A fault that is handed on.
pub unloads_of : (s t : RigState) (root : Root) (result : Result Unloaded EmFault) (e : EmFault)
    → IsErrAnd result (λ m. m ≡ e) → StopsUnloading s t root e → Unloads s t root result
unloads_of s t root (Ok p) e h x = absurd h
unloads_of s t root (Err m) e h x =
    subst (λ (f : EmFault). StopsUnloading s t root f) (sym h) x
