-- A builder that gets pairs, and the tree that it makes.
use Rattle.std.proofs.Common.{◌≡◌, ℕ, ◌+◌, ◌*◌, ◌<◌, ◌≤◌, List, refl, sym, ◌∙◌, subst, arith, IsTrue, Result, Ok, Err}
use Rattle.std.specs.Prelude.{IfErr, IfOk}
use Rattle.em_record.specs.declared.record.Record.{Record}
use Rattle.em_frames.specs.Pool.{GivenFrames, LentFrames, PoolCounts, SameFrames}
use Rattle.em_settle.specs.Map.{IsMapKept, IsMapOp, map_key_of, map_record}
use Rattle.em_settle.specs.declared.map.MapSettle.{MapSettle}
use Rattle.em_space.specs.Rig.{RigState}
use Rattle.em_space.specs.declared.fault.EmFault.{EmFault}
use Rattle.em_space.proofs.Steps.{same_frames_then}
use Rattle.em_tree_cost.specs.Books.{adopted_counts}
use Rattle.em_trunk.specs.Trunk.{counts_of}
use Rattle.em_tree.specs.declared.tree.Tree.{Tree}
use Rattle.em_bulk.specs.Building.{BeginsBuilder, BuilderHasFrames, LeavesBuilder, Pushes, StopsBuilding, pairs_in}
use Rattle.em_bulk.specs.Made.{MadeTree, TakesPairs}
use Rattle.em_bulk.specs.declared.builder.Builder.{Builder}
use Rattle.em_bulk.proofs.Agreeing.{takes_more}
use Rattle.em_tree_part_tests.specs.Builders.{GaveBack, GaveUp, GetsPairs, GetsTree, GotPairs, HasPairs}

-- It begins with none.
pub begins_pairs : {s t : RigState} {b : Builder} → BeginsBuilder s t b → 8 ≤ s.pool.free → HasPairs t b 0
begins_pairs {s} {t} {b} x free =
    let T : List Record → Type 0 = TakesPairs map_key_of IsMapKept in
    let lent = x.frames.free in
    record {
      sound = x.sound;
      is = x.is;
      free = omega (arith, lent, free);
      count = x.none;
      below = λ z. absurd (omega (arith, z));
      takes = λ z. subst T (sym (x.pairs (sym x.touches.told ∙ z))) tt;
    }

-- One more was pushed.
pub gets_one : {s t : RigState} {b d : Builder} (number key value : ℕ) (result : Result Unit EmFault) → HasPairs s b number
    → key ≡ 3 * number → BuilderHasFrames t d → Pushes s t b d key value result → GetsPairs s t d (number + 1) result
gets_one {s} {t} {b} {d} number key value (Ok x) h e f p =
    let free = p.runs.frames.free in
    let old = h.free in
    let c = p.count in
    let hc = h.count in
    let l = p.last in
    let T : List Record → Type 0 = TakesPairs map_key_of IsMapKept in
    record {
      has = record {
        sound = p.runs.session.sound;
        is = p.is;
        free = omega (arith, free, old);
        count = omega (arith, c, hc);
        below = λ z. omega (arith, l, e);
        takes = λ y.
            let z : IsTrue s.device.told = sym p.runs.session.touches.told ∙ y in
            subst T (sym (p.pairs z))
            (takes_more map_key_of IsMapKept (map_record key value) (pairs_in s b) refl (refl, refl) (h.takes z));
      };
      frames = p.runs.frames;
      told = p.runs.session.touches.told;
    }
gets_one number key value (Err k) h e f p = record { sound = p.stops.goes.sound; frames = p.stops.goes.frames; has = f }

-- its key is above all others
pub next_above : {s : RigState} {b : Builder} (number : ℕ) → HasPairs s b number → 0 < b.count → b.last < 3 * number
next_above number h z = let c = h.count in h.below (omega (arith, c, z))

-- frames that were lent and are still out, or came back
lent_still : {p q r u : PoolCounts} → LentFrames 2 p q → SameFrames q r → SameFrames r u → LentFrames 2 p u
lent_still x y z =
    let a = x.free in
    let b = y.free in
    let c = z.free in
    let d = x.peak in
    let e = y.peak in
    let f = z.peak in
    record {
      shape = z.shape ∙ (y.shape ∙ x.shape);
      free = omega (arith, a, b, c);
      rack = z.rack ∙ (y.rack ∙ x.rack);
      free_areas = z.free_areas ∙ (y.free_areas ∙ x.free_areas);
      peak = omega (arith, d, e, f);
    }

lent_back : {p q r u : PoolCounts} → LentFrames 2 p q → SameFrames q r → GivenFrames 2 r u → SameFrames p u
lent_back x y z =
    let a = x.free in
    let b = y.free in
    let c = z.free in
    let d = x.peak in
    let e = y.peak in
    let f = z.peak in
    record {
      shape = z.shape ∙ (y.shape ∙ x.shape);
      free = omega (arith, a, b, c);
      rack = z.rack ∙ (y.rack ∙ x.rack);
      free_areas = z.free_areas ∙ (y.free_areas ∙ x.free_areas);
      peak = omega (arith, d, e, f);
    }

-- It makes a tree of them, or not.
pub gets_tree : (s a m t : RigState) (b d : Builder) (n : ℕ) (result : Result (Tree MapSettle) EmFault) → BeginsBuilder s a b
    → GotPairs a m d n → IfOk result (λ tree. MadeTree map_key_of IsMapOp IsMapKept m t d tree.trunk)
    → IfErr result (StopsBuilding m t d) → GetsTree s t n result
gets_tree s a m t b d n (Ok tree) x p y z =
    let C : ℕ → Type 0 = λ k. counts_of tree.trunk ≡ adopted_counts k in
    record {
      sound = y.session.sound;
      frames = lent_still x.frames p.frames y.frames;
      told = y.session.touches.told ∙ (p.told ∙ x.touches.told);
      is = y.is;
      counts = subst C p.has.count y.counts;
    }
gets_tree s a m t b d n (Err fault) x p y z = record { sound = z.sound; frames = lent_back x.frames p.frames z.frames }

pub gets_none : {s a m t : RigState} {b d : Builder} → BeginsBuilder s a b → GaveUp a m d → LeavesBuilder m t → GaveBack s t
gets_none x p y = record { sound = y.sound; frames = lent_back x.frames p.frames y.frames }

-- Pairs were pushed, and then more.
pub got_then : {s a t : RigState} {b d : Builder} {m n : ℕ} → GotPairs s a b m → GotPairs a t d n → GotPairs s t d n
got_then {s} {a} {t} {b} {d} {m} {n} x y = record {
  has = y.has;
  frames = same_frames_then s.pool a.pool t.pool x.frames y.frames;
  told = y.told ∙ x.told;
}

pub got_as : {s t : RigState} {b : Builder} (m n : ℕ) → m ≡ n → GotPairs s t b m → GotPairs s t b n
got_as {s} {t} {b} m n e x = let P : ℕ → Type 0 = λ k. GotPairs s t b k in subst P e x
