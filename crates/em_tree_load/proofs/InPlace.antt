-- Calls that take no block: nodes that are stored or released, one after another and beside other blocks.
use Rattle.std.proofs.Common.{◌≡◌, ℕ, suc, ◌+◌, ◌<◌, ◌≤◌, List, [], ◌∷◌, ◌++◌, length, sym, ◌∙◌, subst, arith, IsTrue}
use Rattle.em_space.specs.Held.{Apart, Holds}
use Rattle.em_space.specs.Rig.{RigState, Goes, Releases, Touches}
use Rattle.em_space.specs.declared.fault.EmFault.{EmFault}
use Rattle.em_space.proofs.Apart.{off_left, off_right}
use Rattle.em_space.proofs.Held.{holds_kept}
use Rattle.em_space.proofs.Lists.{apart_sym}
use Rattle.em_space.proofs.Paying.{pays_kept}
use Rattle.em_space.proofs.Sessions.{session_releases}
use Rattle.em_space.proofs.Within.{goes_wider, goes_within}
use Rattle.em_tree_blocks.specs.Paths.{child_at}
use Rattle.em_tree_blocks.specs.Reading.{entries_at, tree_at, tree_blocks}
use Rattle.em_tree_blocks.proofs.Frames.{tree_stays}
use Rattle.em_tree_walk.specs.Forms.{AreFormed}
use Rattle.em_tree_load.specs.RemovalSteps.{StopsInPlace}
use Rattle.em_tree_walk.specs.SplitPaths.{TakesUpTo}
use Rattle.em_tree_walk.proofs.Children.{child_beside}
use Rattle.em_tree_walk.proofs.Kept.{forms_left, stands_left}
use Rattle.em_tree_walk.proofs.PathStages.{child_held}
use Rattle.em_tree_walk.specs.Stands.{LeadsToTree, StandsAt}
use Rattle.em_tree_walk.specs.Taken.{StopsTaking}
use Rattle.em_tree_walk.proofs.Readings.{cause_then}
use Rattle.em_tree_walk.proofs.Standing.{child_of_node, first_in_use}

-- A block was released, by n moves at most.
pub release_takes : {s t : RigState} (k n : ℕ) → Goes (k ∷ []) s t → Releases s t k
    → t.most ≡ s.most → t.moves ≤ s.moves + n → TakesUpTo 0 n (k ∷ []) [] s t
release_takes {s} {t} k n g d most moves =
    let used = d.used in
    let later = g.touches.moves in
    record {
      session = session_releases k g;
      frames = g.frames;
      used = omega (arith, used);
      most = omega (arith, most);
      moves = moves;
      pays = pays_kept 0 (omega (arith, used)) later;
      loses = λ z. omega (arith, used);
    }

-- The last call gave up:
pub place_then : {m j : ℕ} {held ks : List ℕ} {s t u : RigState} {e : EmFault}
    → TakesUpTo 0 m held ks s t → StopsInPlace j ks t u e → StopsInPlace (m + j) held s u e
place_then {m} {j} {held} {ks} {s} {t} {u} {e} x y =
    let a = x.used in
    let b = y.used in
    let c = x.moves in
    let d = y.moves in
    let most = x.most in
    let last = y.most in
    record {
      goes = goes_within held ks s t u
          (record {
            sound = x.session.sound;
            touches = x.session.touches;
            frames = x.frames;
          }) x.session.within y.goes;
      used = omega (arith, a, b);
      most = omega (arith, a, most, last);
      moves = omega (arith, c, d);
      cause = cause_then s t u e x.session.touches.faults y.cause;
    }

-- a call on one of several values,
pub place_beside : {m : ℕ} {s t : RigState} {e : EmFault} (xs ks ys : List ℕ)
    → StopsInPlace m ks s t e → StopsInPlace m (xs ++ (ks ++ ys)) s t e
place_beside {m} {s} {t} {e} xs ks ys x = record {
  goes = goes_wider (xs ++ (ks ++ ys)) ks s t
      (record { off = λ z j u o. off_left j ks ys (off_right j xs (ks ++ ys) o) }) x.goes;
  used = x.used;
  most = x.most;
  moves = x.moves;
  cause = x.cause;
}

-- the same blocks, if the device tells,
pub place_from : {m : ℕ} {held : List ℕ} {s t : RigState} {e : EmFault} (hs : List ℕ)
    → StopsInPlace m held s t e → (IsTrue s.device.told → hs ≡ held) → StopsInPlace m hs s t e
place_from {m} {held} {s} {t} {e} hs x same = record {
  goes = goes_wider hs held s t (record { off = λ z j u o. rw (sym (same z)) o }) x.goes;
  used = x.used;
  most = x.most;
  moves = x.moves;
  cause = x.cause;
}

-- more moves,
pub place_wider : {m : ℕ} {held : List ℕ} {s t : RigState} {e : EmFault} (n : ℕ) → m ≤ n
    → StopsInPlace m held s t e → StopsInPlace n held s t e
place_wider {m} {held} {s} {t} {e} n few x =
    let a = x.moves in
    record {
      goes = x.goes;
      used = x.used;
      most = x.most;
      moves = omega (arith, a, few);
      cause = x.cause;
    }

-- or a call on a node's block alone.
pub node_place : {s t : RigState} {k : ℕ} {e : EmFault} → StopsTaking s t k e
    → StopsInPlace 2 (k ∷ []) s t e
node_place x =
    let used = x.stores.same.used in
    let most = x.stores.same.most in
    record {
      goes = x.stores.goes;
      used = omega (arith, used);
      most = omega (arith, most);
      moves = x.stores.moves;
      cause = x.cause;
    }

-- What stands from a child on, over a call on the node's own block.
pub record ChildStill (l : ℕ) (s a : RigState) (c : ℕ) : Type 0 where
  pub stands : StandsAt a l c
  pub blocks : tree_blocks l a c ≡ tree_blocks l s c
  pub tree : tree_at l a c ≡ tree_at l s c
  pub formed : AreFormed l s c → AreFormed l a c
  pub holds : Holds a (tree_blocks l a c)

pub child_still : {s a : RigState} (l node i : ℕ) → IsTrue s.device.told → Touches (node ∷ []) s a
    → StandsAt s (suc l) node → i < length (entries_at s node)
    → Holds s (tree_blocks (suc l) s node) → ChildStill l s a (child_at i (entries_at s node))
child_still {s} {a} l node i told h o one v =
    let c = child_at i (entries_at s node) in
    let ks = tree_blocks l s c in
    let beside = child_beside l s node i one (v.distinct told) in
    let apart : Apart ks (node ∷ []) = apart_sym (node ∷ []) ks (beside.first, tt) in
    let stands : StandsAt s l c = child_of_node i o one in
    let still = tree_stays (node ∷ []) s a h told l c apart stands.is in
    let H : List ℕ → Type 0 = Holds a in
    record {
      stands = stands_left (node ∷ []) s a h told l c apart stands;
      blocks = still.blocks;
      tree = still.tree;
      formed = λ f. forms_left (node ∷ []) s a h told l c apart stands.is f;
      holds = subst H (sym still.blocks)
          (holds_kept (node ∷ []) s a ks h (λ w. apart) (child_held l s node i one v));
    }

-- A child's tree can be read, whatever the device tells.
pub child_leads : (s a : RigState) (l child c : ℕ) → child < s.blocks → a.blocks ≡ s.blocks
    → a.device.told ≡ s.device.told → (IsTrue s.device.told → child ≡ c)
    → (IsTrue s.device.told → StandsAt a l c) → LeadsToTree a l child
child_leads s a l child c below blocks same is stands =
    let S : ℕ → Type 0 = StandsAt a l in
    let at : IsTrue a.device.told → StandsAt a l child = λ y.
    let z : IsTrue s.device.told = sym same ∙ y in
    subst S (sym (is z)) (stands z) in
    record {
      in_use = record {
        told = λ y. (first_in_use l (at y)).told y;
        untold = λ f. omega (arith, below, blocks);
      };
      told = at;
    }
