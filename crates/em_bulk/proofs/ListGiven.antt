-- The frames of a builder are given back.
use Rattle.std.proofs.Common.{◌≡◌, ℕ, ◌+◌, ◌<◌, List, [], ◌++◌, sym, ap, ◌∙◌, subst, arith, IsTrue, Result, Ok, Err, IsErrAnd}
use Rattle.em_record.specs.declared.record.Record.{Record}
use Rattle.em_frames.specs.Pool.{GivenFrames, PoolCounts, SameFrames, load_of}
use Rattle.em_space.specs.Queue.{Pays}
use Rattle.em_space.specs.Rig.{RigState}
use Rattle.em_space.specs.declared.fault.EmFault.{EmFault}
use Rattle.em_space.proofs.Held.{apart_none}
use Rattle.em_space.proofs.Paying.{pays_kept, pays_then}
use Rattle.em_space.proofs.Sessions.{session_as, session_still, session_trans}
use Rattle.em_space.proofs.Steps.{touches_then}
use Rattle.em_chain.specs.Chain.{ChainStays, chain_blocks}
use Rattle.em_chain.specs.declared.chain.Chain.{Chain}
use Rattle.em_chain.proofs.Laws.{chain_stays}
use Rattle.em_chain.proofs.Writings.{cause_still}
use Rattle.em_tree_walk.specs.declared.splitting.Root.{Root}
use Rattle.em_tree_walk.proofs.Losses.{loses_as, loses_still, loses_then}
use Rattle.em_tree_trim.specs.Leaves.{leaf_blocks}
use Rattle.em_tree_trim.proofs.LeavesStay.{LeavesStay, leaves_stay}
use Rattle.em_bulk.specs.Building.{BuildsTree, ClosedList, Closes, GivenList, GivesList, LeavesBuilder, StopsBuilding, StopsClosing, StopsGiving, builder_blocks, finish_room, pairs_in}
use Rattle.em_bulk.specs.Pairs.{AreLeaves}
use Rattle.em_bulk.specs.declared.builder.Builder.{Builder}
use Rattle.em_space.proofs.Ledgers.{full_by}

-- frames that are given after calls that leave as many free
same_given : {n : ℕ} {p q r : PoolCounts} → SameFrames p q → GivenFrames n q r → GivenFrames n p r
same_given x y =
    let a = x.peak in
    let b = y.peak in
    let f = x.free in
    let g = y.free in
    record {
      shape = y.shape ∙ x.shape;
      free = omega (arith, f, g);
      rack = y.rack ∙ x.rack;
      free_areas = y.free_areas ∙ x.free_areas;
      peak = omega (arith, a, b);
    }

module _ {m t : RigState} (l : LeavesBuilder m t) where
  used_same : t.used ≡ m.used
  used_same = l.unmoved.same.used

  most_same : t.most ≡ m.most
  most_same = l.unmoved.same.most

  moves_same : t.moves ≡ m.moves
  moves_same = l.unmoved.moves

  pays_same : (n : ℕ) → Pays n n m t
  pays_same n = let u = used_same in let v = moves_same in pays_kept n (omega (arith, u)) (omega (arith, v))

  list_given : {s : RigState} {b : Builder} {list : Chain} → ClosedList s m b list → GivenList s t b list
  list_given {s} {b} {list} c =
      let x = c.lists in
      let ks = chain_blocks m list ++ leaf_blocks m x.entries in
      let told : IsTrue s.device.told → IsTrue m.device.told = λ z. x.session.touches.told ∙ z in
      let chain : ChainStays m t list = chain_stays [] m t list l.touches (λ z. apart_none (chain_blocks m list)) x.chain in
      let stay : IsTrue s.device.told → LeavesStay m t x.entries =
      λ z. leaves_stay x.entries l.touches (told z) (apart_none (leaf_blocks m x.entries)) (x.leaves z) in
      let same : IsTrue s.device.told → chain_blocks t list ++ leaf_blocks t x.entries ≡ ks =
      λ z. ap (λ (js : List ℕ). js ++ leaf_blocks t x.entries) (chain.blocks (told z))
      ∙ ap (λ (js : List ℕ). chain_blocks m list ++ js) (stay z).blocks in
      let A : List (Record × List Record) → Type 0 = λ ps. AreLeaves (load_of s.pool.shape) ps (pairs_in s b) in
      let u = used_same in
      let o = most_same in
      let v = moves_same in
      let moves = x.moves in
      let pu = x.peaks.used in
      let po = x.peaks.most in
      record {
        lists = record {
          entries = x.entries;
          session = session_as (chain_blocks t list ++ leaf_blocks t x.entries)
              (session_trans x.session (session_still ks l.sound l.touches
              (λ y. x.session.holds (sym x.session.touches.told ∙ y)))) same;
          pays = pays_then x.pays (pays_same 0) l.touches.moves;
          loses = loses_as (builder_blocks s b) ks (chain_blocks t list ++ leaf_blocks t x.entries) s t
              (loses_then (builder_blocks s b) ks ks s m t x.session.touches.told x.loses (loses_still ks m t u)) same;
          chain = chain.is;
          few = x.few;
          items = λ z. chain.items (told z) ∙ x.items z;
          leaves = λ z. (stay z).leads;
          are = λ z. subst A (sym (stay z).parts) (x.are z);
          moves = omega (arith, moves, v);
          peaks = record { used = omega (arith, pu, u); most = omega (arith, po, o) };
        };
        frames = same_given c.frames l.frames;
      }

  stops_given : {s : RigState} {b : Builder} {e : EmFault} → StopsClosing s m b e → StopsGiving s t b e
  stops_given {s} {b} {e} c =
      let x = c.stops in
      let u = used_same in
      let o = most_same in
      let v = moves_same in
      let moves = x.moves in
      let pu = x.peaks.used in
      let po = x.peaks.most in
      record {
        stops = record {
          sound = l.sound;
          touches = touches_then (builder_blocks s b) s m t x.touches l.touches;
          pays = pays_then x.pays (pays_same 5) l.touches.moves;
          cause = cause_still s m t e l.unmoved l.touches x.cause;
          moves = omega (arith, moves, v);
          peaks = record { used = omega (arith, pu, u); most = omega (arith, po, o) };
          full = x.full;
        };
        frames = same_given c.frames l.frames;
      }

  pub gives_list : (s : RigState) (b : Builder) (result : Result Chain EmFault) → Closes s m b result → GivesList s t b result
  gives_list s b (Ok list) c = list_given c
  gives_list s b (Err e) c = stops_given c

-- The list couldn't be made.
pub unlisted : {s t : RigState} {b : Builder} (result : Result Root EmFault) (e : EmFault) → IsErrAnd result (λ m. m ≡ e)
    → StopsGiving s t b e → BuildsTree s t b result
unlisted (Ok r) e h c = absurd h
unlisted {s} {t} {b} (Err m) e h c =
    let P : EmFault → Type 0 = λ f. StopsBuilding s t b f in
    let x = c.stops in
    let po = x.peaks.most in
    subst P (sym h) (record {
      sound = x.sound;
      touches = x.touches;
      frames = c.frames;
      pays = x.pays;
      cause = x.cause;
      moves = λ z. x.moves;
      most = λ z. omega (arith, po);
      full = λ z. full_by e (s.blocks < s.used + 5) (s.blocks < s.used + finish_room b) (λ k. omega (arith, k)) x.full;
    })
