-- What leaving the first leaf did, by the results of the calls.
use Rattle.std.proofs.Common.{◌≡◌, ℕ, ◌+◌, ◌<◌, List, [], length, refl, sym, ◌∙◌, subst, arith, IsTrue, Option, Some, None, Result, Ok, Err}
use Rattle.std.specs.Prelude.{IsErrAnd}
use Rattle.em_record.specs.declared.record.Record.{Record}
use Rattle.em_space.specs.Rig.{RigState}
use Rattle.em_space.specs.declared.fault.EmFault.{EmFault}
use Rattle.em_space.proofs.Paying.{pays_kept, pays_more, pays_then}
use Rattle.em_space.proofs.Sessions.{session_trans}
use Rattle.em_space.proofs.Steps.{block_cause, cause_after, goes_trans, same_frames_then}
use Rattle.em_chain.specs.Chain.{payload_in}
use Rattle.em_tree_blocks.specs.Reading.{tree_blocks}
use Rattle.em_tree_load.specs.FirstLeaves.{IsLastFork, LeadsToFork}
use Rattle.em_tree_load.specs.LeafTakes.{TookLeaf}
use Rattle.em_tree_load.specs.Releases.{ReleasedTree, StopsReleasing}
use Rattle.em_tree_load.specs.declared.seeking.FirstLeaf.{FirstLeaf}
use Rattle.em_tree_walk.specs.declared.splitting.Root.{Root}
use Rattle.em_tree_visits.specs.Leavings.{CanLeave, CanTakeWhole, EmptiedTree, EmptiesTo, KeptLeaf, LeavesTo, StopsEmptying, StopsLeaving}
use Rattle.em_trunk.specs.Planting.{Planted, Plants, StopsPlanting}
use Rattle.em_tree_visits.specs.declared.leaving.Leaving.{Leaving}
use Rattle.em_tree_visits.proofs.LeavingSteps.{all_taken, first_count}
use Rattle.em_space.proofs.Ledgers.{full_by, full_never}

module _ {s m : RigState} {top root : ℕ} (r : ReleasedTree s m top root) (t : RigState) where
  -- A new tree was planted after a release,
  tree_planted : {block : ℕ} → Planted m t block → EmptiedTree s t top root block
  tree_planted p =
      let told = r.session.touches.told in
      record {
        changes = record {
          session = session_trans r.session p.session;
          frames = same_frames_then s.pool m.pool t.pool r.frames p.frames;
          pays = pays_then (pays_kept 0 r.frees.used r.session.touches.moves) p.pays p.session.touches.moves;
          loses = λ z. (let a = r.all z in let b = p.loses (told ∙ z) in omega (arith, a, b));
          peaks =
              let a = r.frees.used in
              let b = r.frees.most in
              let c = p.used in
              let d = p.most in
              record { used = omega (arith, a, c); most = omega (arith, a, b, d) };
        };
        in_use = p.in_use;
        reads = λ z. p.reads (told ∙ z);
        is = λ z. p.stored (told ∙ z);
        formed = λ z. p.formed (told ∙ z);
        moves = λ z. (let a = r.frees.moves z in let b = p.moves in omega (arith, a, b));
      }

  -- or not.
  tree_unplanted : {fault : EmFault} → StopsPlanting m t fault → StopsEmptying s t top root fault
  tree_unplanted {fault} p =
      let tree = tree_blocks top s root in
      record {
        goes = goes_trans tree [] s m t
            (record { sound = r.session.sound; touches = r.session.touches; frames = r.frames }) p.goes
            (λ z k i o. tt);
        pays = pays_then (pays_kept 0 r.frees.used r.session.touches.moves) p.pays p.goes.touches.moves;
        cause = cause_after tree s m t fault r.session.touches p.cause;
        full = full_by fault (m.blocks < m.used + 2)
            (IsTrue s.device.told → s.blocks + length tree < s.used + 2)
            (λ few z. (let a = r.all z in let b = r.session.touches.blocks in omega (arith, few, a, b))) p.full;
        peaks =
            let a = r.frees.used in
            let b = r.frees.most in
            let c = p.used in
            let d = p.most in
            record { used = omega (arith, a, c); most = omega (arith, a, b, d) };
        moves = λ z. (let a = r.frees.moves z in let b = p.moves in omega (arith, a, b));
      }

  pub plants_after : (result : Result ℕ EmFault) → Plants m t result → EmptiesTo s t top root result
  plants_after (Ok block) p = tree_planted p
  plants_after (Err fault) p = tree_unplanted p

-- The release gave up.
pub empties_err : {s t : RigState} {top root : ℕ} (result : Result ℕ EmFault) (fault : EmFault)
    → IsErrAnd result (λ f. f ≡ fault) → StopsReleasing s t top root fault → EmptiesTo s t top root result
empties_err (Ok x) fault e h = absurd e
empties_err {s} {t} {top} {root} (Err f) fault e h =
    let P : EmFault → Type 0 = StopsEmptying s t top root in
    subst P (sym e) (record {
      goes = h.goes;
      pays = pays_more (pays_kept 0 h.frees.used h.goes.touches.moves) (omega arith);
      cause = block_cause s t fault h.cause;
      full = full_never s t fault (IsTrue s.device.told
          → s.blocks + length (tree_blocks top s root) < s.used + 2) h.cause;
      peaks =
          let a = h.frees.used in
          let b = h.frees.most in
          record { used = omega (arith, a); most = omega (arith, b) };
      moves = λ z. (let a = h.frees.moves z in omega (arith, a));
    })

-- The result that a fault is handed on as.
pub leaves_err : {s t : RigState} {top root : ℕ} {x : FirstLeaf} (old new : List Record) (taken : ℕ)
    (result : Result Leaving EmFault) (fault : EmFault) → IsErrAnd result (λ f. f ≡ fault)
    → StopsLeaving s t top root x fault → LeavesTo s t top root x old new taken result
leaves_err old new taken (Ok y) fault e h = absurd e
leaves_err {s} {t} {top} {root} {x} old new taken (Err f) fault e h =
    let P : EmFault → Type 0 = StopsLeaving s t top root x in subst P (sym e) h

module _ {s : RigState} {top root : ℕ} {x : FirstLeaf} (can : CanLeave s top root x) where
  -- The leaf stays.
  pub leaf_kept : (old : List Record) (taken room : ℕ) → room + taken ≡ length old → room < taken
      → 0 < x.stored.count → KeptLeaf s s top root old old taken
  leaf_kept old taken room all many some = record {
    same = refl;
    area = refl;
    many = omega (arith, all, many);
    some = λ z. (let n = first_count can z in omega (arith, n, some));
  }

  -- the fork, as an equation says it
  pub fork_of : (f : Root) → x.fork ≡ Some f → IsTrue s.device.told → IsLastFork s top root (Some f)
  fork_of f e z =
      let P : Option Root → Type 0 = IsLastFork s top root in
      subst P e (can.told z).found.fork

  pub lone_of : x.fork ≡ None → IsTrue s.device.told → IsLastFork s top root None
  lone_of e z =
      let P : Option Root → Type 0 = IsLastFork s top root in
      subst P e (can.told z).found.fork

  pub fork_leads_of : (f : Root) → x.fork ≡ Some f → LeadsToFork s top (Some f)
  fork_leads_of f e =
      let P : Option Root → Type 0 = LeadsToFork s top in
      subst P e can.fork_leads

-- All were taken, since they have room.
pub whole_all : {s t : RigState} {top root : ℕ} {x : FirstLeaf} {room : ℕ} {old new : List Record}
    {from n : ℕ} → CanTakeWhole s top root x room → TookLeaf s t x.leaf x.stored old new from room n
    → n ≡ x.stored.count
whole_all {s} {x = x} {room = room} can took =
    took.count ∙ all_taken (payload_in s) room x.stored.count can.fits
