-- The tree of a builder is adopted.
use Rattle.std.proofs.Common.{◌≡◌, ℕ, List, [], length, sym, ap, ◌∙◌, subst, arith, IsTrue}
use Rattle.std.specs.Prelude.{None}
use Rattle.em_record.specs.declared.record.Record.{Record}
use Rattle.em_frames.specs.Pool.{GivenFrames, LentFrames, PoolCounts, SameFrames}
use Rattle.em_space.specs.Rig.{RigState}
use Rattle.em_space.proofs.Paying.{pays_then}
use Rattle.em_space.proofs.Sessions.{session_trans}
use Rattle.em_tree_cost.specs.Books.{adopted_counts}
use Rattle.em_tree_model.specs.Ranges.{least_record}
use Rattle.em_tree_model.specs.Tree.{stored_in, waiting_in}
use Rattle.em_tree_trim.specs.Trimming.{tree_of}
use Rattle.em_tree_walk.specs.declared.splitting.Root.{Root}
use Rattle.em_trunk.specs.declared.trunk.Trunk.{Trunk}
use Rattle.em_tree.specs.Adopting.{CanAdopt, IsAdopted}
use Rattle.em_tree.proofs.Settled.{none_waiting}
use Rattle.em_tree.proofs.TrimOutlines.{none_unbuffered}
use Rattle.em_bulk.specs.Building.{BuiltPairs, IsBuilder, IsBuiltOf, pairs_in}
use Rattle.em_bulk.specs.Made.{MadeTree, TakesPairs}
use Rattle.em_bulk.specs.declared.builder.Builder.{Builder}
use Rattle.em_bulk.specs.declared.builder.Built.{Built}
use Rattle.em_bulk.proofs.Agreeing.{kept_at, tree_too}
use Rattle.em_bulk.proofs.Counted.{pairs_length}

-- nothing waits in a tree that was built
built_quiet : {t : RigState} {pairs : List Record} (root : Root) → IsBuiltOf t root pairs → waiting_in (tree_of t root) ≡ []
built_quiet {t} {pairs} root x = none_waiting (tree_of t root) root.level least_record None
    (none_unbuffered root.level t root.block root.level least_record None x.can.none)

module _ (key : Record → Record) (IsKept : Record → Type 0) {s t : RigState} {b : Builder} {built : Built} (i : IsBuilder s b)
    (x : BuiltPairs s t b built) (takes : IsTrue s.device.told → TakesPairs key IsKept (pairs_in s b)) where
  told_then : IsTrue t.device.told → IsTrue s.device.told
  told_then z = sym x.tree.session.touches.told ∙ z

  takes_stored : (z : IsTrue s.device.told) → TakesPairs key IsKept (stored_in (tree_of t built.root))
  takes_stored z =
      let T : List Record → Type 0 = TakesPairs key IsKept in
      subst T (sym (x.tree.told z).stored) (takes z)

  -- A tree that was built can be adopted by each rule that takes its pairs.
  pub adopts_built : CanAdopt key IsKept t built.root built.count
  adopts_built =
      let n = x.count in
      let most = i.below.most in
      record {
        leads = x.tree.leads;
        level_some = x.tree.level_some;
        level_most = x.tree.level_most;
        few = omega (arith, n, most);
        told = λ y.
            let z = told_then y in
            let o = x.tree.told z in
            record {
              can = o.can;
              is = tree_too key IsKept (tree_of t built.root) least_record None (built_quiet built.root o) (takes_stored z) o.is;
              kept = λ q. kept_at key IsKept (stored_in (tree_of t built.root)) q (takes_stored z);
              lows = o.lows;
              trim = o.trim;
              few = o.few;
              nodes = o.nodes;
              count = ap length o.stored ∙ (pairs_length i.below z ∙ sym n);
            };
      }

-- frames that came back and went out again
same_again : {p q r : PoolCounts} → GivenFrames 2 p q → LentFrames 2 q r → SameFrames p r
same_again x y =
    let a = x.free in
    let b = y.free in
    let c = x.peak in
    let d = y.peak in
    record {
      shape = y.shape ∙ x.shape;
      free = omega (arith, a, b);
      rack = y.rack ∙ x.rack;
      free_areas = y.free_areas ∙ x.free_areas;
      peak = omega (arith, c, d);
    }

-- It was adopted.
pub made_tree : (key : Record → Record) (IsOp IsKept : Record → Type 0) {s m t : RigState} {b : Builder} {built : Built}
    {v : Trunk} → BuiltPairs s m b built → IsAdopted key IsOp IsKept m t built.root built.count v
    → MadeTree key IsOp IsKept s t b v
made_tree key IsOp IsKept {s} {m} {t} {b} {built} {v} x a =
    let there : IsTrue s.device.told → IsTrue m.device.told = λ z. x.tree.session.touches.told ∙ z in
    let used = a.unmoved.same.used in
    record {
      is = a.is;
      session = session_trans x.tree.session a.session;
      frames = same_again x.tree.frames a.frames;
      pays = pays_then x.tree.pays a.pays a.session.touches.moves;
      loses = λ z.
          let l = x.tree.loses z in
          let e = ap length (a.blocks (there z)) in
          omega (arith, l, e, used);
      counts = a.counts ∙ ap (λ (n : ℕ). adopted_counts n) x.count;
      no_block = a.no_block;
      stored = λ z. a.stored (there z) ∙ (x.tree.told z).stored;
      waiting = λ z. a.waiting (there z);
      given = λ z. a.given (there z);
      trim = λ z. a.trim (there z);
    }
