-- An empty first leaf, removed: another one is the first then, or the blocks of the tree were released.
use Rattle.std.proofs.Common.{◌≡◌, ◌+◌, ◌-◌, ◌*◌, [], length, sym, ap, ◌∙◌, subst, arith, IsTrue, Option, Some, None, Result, Ok, Err}
use Rattle.std.specs.Prelude.{Bool, true, false, IsErrAnd}
use Rattle.em_record.specs.Shape.{ShapeNumbers}
use Rattle.em_space.specs.Held.{Holds}
use Rattle.em_space.specs.Rig.{RigState}
use Rattle.em_space.specs.declared.fault.EmFault.{EmFault}
use Rattle.em_space.proofs.Paying.{pays_kept}
use Rattle.em_space.proofs.Steps.{touches_wider}
use Rattle.em_leaf.specs.Leaf.{leaf_most}
use Rattle.em_tree_model.specs.Places.{Place, put_at}
use Rattle.em_tree_model.specs.Taking.{without_first}
use Rattle.em_tree_model.specs.Tree.{Tree, HasEntry}
use Rattle.em_tree_blocks.specs.Paths.{first_path, place_on}
use Rattle.em_tree_blocks.specs.Reading.{tree_at, tree_blocks}
use Rattle.em_tree_load.specs.FirstLeaves.{IsFork, IsOnFirstWay}
use Rattle.em_tree_load.specs.Releases.{CanRelease, ReleasedTree, StopsReleasing}
use Rattle.em_tree_load.specs.Removals.{CanRemoveFirst, RemovedFirst, StopsRemoving}
use Rattle.em_tree_load.proofs.FirstGone.{lone_gone, without_put}
use Rattle.em_tree_walk.specs.Stands.{StandsAt}
use Rattle.em_tree_walk.specs.declared.splitting.Root.{Root}
use Rattle.em_tree_unload.specs.Emptying.{CanRemoveEmpty, RemovedEmpty, RemovesEmpty, StopsWithin}
use Rattle.em_tree_unload.specs.Unloading.{leaf_rows}
use Rattle.em_tree_unload.proofs.LeafRows.{IsGrown, gone_grown, some_child}
use Rattle.em_tree_unload.proofs.LoneBlocks.{lone_length}
use Rattle.em_tree_unload.proofs.NoneWaiting.{HasNoneWaiting, gone_waits, over_none, put_some}
use Rattle.em_tree_unload.proofs.OnWay.{fork_some, way_first, way_holds, way_off, way_place, way_stands, way_tree, way_waits}
use Rattle.em_tree_unload.proofs.TreeLeft.{TreeLeft, leads_by, session_by, tree_left}
use Rattle.em_tree_unload.proofs.TreeReads.{none_formed, none_waits, rows_grown, stands_by, unloadable_by, waits_unbuffered}

-- the fork, as an equation says it
pub can_by : {s : RigState} {root : Root} {o p : Option Root} → CanRemoveEmpty s root o → o ≡ p
    → CanRemoveEmpty s root p
can_by {s} {root} can e = let C : Option Root → Type 0 = CanRemoveEmpty s root in subst C e can

module _ {s : RigState} {root f : Root} (can : CanRemoveEmpty s root (Some f)) where
  on : IsTrue s.device.told → IsOnFirstWay s root.level root.block f.level f.block
  on z = (can.told z).last.0

  fork : IsTrue s.device.told → IsFork s f.level f.block
  fork z = (can.told z).last.1

  stands : IsTrue s.device.told → StandsAt s root.level root.block
  stands z = can.leads.told z

  holds : IsTrue s.device.told → Holds s (tree_blocks root.level s root.block)
  holds z = (can.told z).unloadable.holds

  waits : IsTrue s.device.told → HasNoneWaiting (leaf_most s.pool.shape) (tree_at root.level s root.block)
  waits z = none_waits root.level s z root.block (stands z).is (can.told z).unloadable.none

  fork_waits : IsTrue s.device.told → HasNoneWaiting (leaf_most s.pool.shape) (tree_at f.level s f.block)
  fork_waits z = way_waits (on z) (leaf_most s.pool.shape) (waits z)

  -- The first leaf of the fork can be removed.
  pub fork_can : CanRemoveFirst s f.level f.block
  fork_can = record {
    leads = can.fork_leads.2;
    told = λ z.
        let is = (way_stands (on z) (stands z)).is in
        record {
          fork = fork z;
          formed = none_formed f.level s z f.block is (waits_unbuffered f.level s z f.block is (fork_waits z));
          none_stored = way_first (on z) ∙ (can.told z).none_stored;
          none_waits = over_none (leaf_most s.pool.shape) (tree_at f.level s f.block) (fork_waits z);
          holds = way_holds (on z) (holds z);
        };
  }

  -- It couldn't be,
  pub fork_kept : {t : RigState} {fault : EmFault} → StopsRemoving s t f.level f.block fault
      → StopsWithin (4 * root.level) s t root fault
  fork_kept {t} {fault} h =
      let below = can.fork_leads.1 in
      let moves = h.moves in
      record {
        goes = record {
          sound = h.goes.sound;
          touches = touches_wider (tree_blocks root.level s root.block) (tree_blocks f.level s f.block) s t
              h.goes.touches (λ z k u o. way_off (on z) k o);
          frames = h.goes.frames;
        };
        pays = h.pays;
        peaks = h.peaks;
        cause = h.cause;
        moves = λ z. omega (arith, below, moves);
      }

  -- or was: the whole tree then.
  module _ {t : RigState} (r : RemovedFirst s t f.level f.block) where
    after : IsTrue s.device.told → IsTrue t.device.told
    after z = r.session.touches.told ∙ z

    left : IsTrue s.device.told → TreeLeft s t root.level root.block f.level f.block []
    left z = tree_left [] z (on z) (stands z).is (holds z) r.session r.loses (r.leads.told (after z)).is

    abbrev place : Place
    place = place_on (first_path (root.level - f.level)) root.level s root.block

    abbrev rest : Tree
    rest = put_at place (without_first (tree_at f.level s f.block))

    some : IsTrue s.device.told → HasEntry (without_first (tree_at f.level s f.block))
    some z = fork_some f.level s f.block can.fork_leads.0 (fork z)

    reads_rest : IsTrue s.device.told → tree_at root.level t root.block ≡ rest
    reads_rest z = (left z).reads ∙ ap (λ (y : Tree). put_at place y) (r.told z).tree

    rest_is : IsTrue s.device.told → rest ≡ without_first (tree_at root.level s root.block)
    rest_is z = sym (without_put place (tree_at f.level s f.block) (way_place (on z)) (some z))
        ∙ ap without_first (sym (way_tree (on z)))

    reads_gone : IsTrue s.device.told
        → tree_at root.level t root.block ≡ without_first (tree_at root.level s root.block)
    reads_gone z = reads_rest z ∙ rest_is z

    stands_after : IsTrue s.device.told → StandsAt t root.level root.block
    stands_after z =
        let G : Tree → Type 0 = IsGrown in
        let x = without_first (tree_at f.level s f.block) in
        stands_by root.level root.block rest (left z).is (reads_rest z)
        (some_child rest (put_some place x (way_place (on z)) (some z)))
        (subst G (sym (rest_is z)) (gone_grown (tree_at root.level s root.block)
        (rows_grown root.level s root.block (stands z).rows)))

    waits_after : IsTrue s.device.told
        → HasNoneWaiting (leaf_most t.pool.shape) (tree_at root.level t root.block)
    waits_after z =
        let n = leaf_most s.pool.shape in
        let N : Tree → Type 0 = HasNoneWaiting n in
        let M : ShapeNumbers → Type 0 = λ p. HasNoneWaiting (leaf_most p) (tree_at root.level t root.block) in
        subst M (sym r.session.touches.shape) (subst N (sym (reads_gone z))
        (gone_waits n (tree_at root.level s root.block) (waits z)))

    pub fork_removed : RemovedEmpty s t root true
    fork_removed =
        let below = can.fork_leads.1 in
        let moves = r.moves in
        record {
          session = session_by r.session.sound r.session.touches (λ z. (left z).session);
          frames = r.frames;
          pays = r.pays;
          loses = λ z. (left z).loses z;
          peaks = r.peaks;
          moves = λ z. omega (arith, below, moves);
          leads = λ m. leads_by r.session.touches can.leads.in_use stands_after;
          rows = λ z. ap leaf_rows (reads_gone z);
          left = λ z m. unloadable_by root (after z) (left z).is (waits_after z) ((left z).session.holds z);
        }

module _ {s : RigState} {root : Root} (can : CanRemoveEmpty s root None) where
  -- Of one leaf alone the tree can be released.
  pub lone_can : CanRelease s root.level root.block
  lone_can = record {
    leads = can.leads;
    told = λ z. record { none = (can.told z).unloadable.none; holds = (can.told z).unloadable.holds };
  }

  few : IsTrue s.device.told → length (tree_blocks root.level s root.block) ≡ root.level + 1
  few z =
      let e = can.told z in
      lone_length root.level s root.block z e.last e.unloadable.none (can.leads.told z).is e.none_stored

  -- It was,
  pub lone_released : {t : RigState} → ReleasedTree s t root.level root.block → RemovedEmpty s t root false
  lone_released {t} r =
      let above = can.above in
      let used = r.frees.used in
      let most = r.frees.most in
      record {
        session = r.session;
        frames = r.frames;
        pays = pays_kept 0 used r.session.touches.moves;
        loses = λ z. (let a = r.all z in omega (arith, a));
        peaks = record { used = omega (arith, used); most = omega (arith, most) };
        moves = λ z.
            let m = r.frees.moves z in
            let n = few z in
            omega (arith, above, m, n);
        leads = λ m. cc;
        rows = λ z. sym (ap leaf_rows (lone_gone root.level s root.block (can.told z).last));
        left = λ z m. cc;
      }

  -- or couldn't be.
  pub lone_kept : {t : RigState} {fault : EmFault} → StopsReleasing s t root.level root.block fault
      → StopsWithin (4 * root.level) s t root fault
  lone_kept {t} {fault} h =
      let above = can.above in
      let used = h.frees.used in
      let most = h.frees.most in
      record {
        goes = h.goes;
        pays = pays_kept 0 used h.goes.touches.moves;
        peaks = record { used = omega (arith, used); most = omega (arith, most) };
        cause = h.cause;
        moves = λ z.
            let m = h.frees.moves z in
            let n = few z in
            omega (arith, above, m, n);
      }

-- A fault that is handed on.
pub removes_of : (s t : RigState) (root : Root) (result : Result Bool EmFault) (e : EmFault)
    → IsErrAnd result (λ m. m ≡ e) → StopsWithin (4 * root.level) s t root e → RemovesEmpty s t root result
removes_of s t root (Ok p) e h x = absurd h
removes_of s t root (Err m) e h x =
    subst (λ (f : EmFault). StopsWithin (4 * root.level) s t root f) (sym h) x
