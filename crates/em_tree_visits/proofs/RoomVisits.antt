-- The blocks of a tree while records are taken out of it.
use Rattle.std.proofs.Common.{ℕ, ◌-◌, ◌*◌, ◌≤◌, List, refl, arith, IsTrue, Option}
use Rattle.em_record.specs.Shape.{ShapeNumbers}
use Rattle.em_record.specs.declared.record.Record.{Record}
use Rattle.em_space.specs.Rig.{RigState}
use Rattle.em_settle.specs.declared.step.Step.{Step}
use Rattle.em_tree_cost.specs.Books.{InCall}
use Rattle.em_tree_cost.specs.Counters.{Sums}
use Rattle.em_trunk.specs.Room.{HasCounters, MayHold}
use Rattle.em_trunk.specs.Trunk.{sums_in}
use Rattle.em_tree_visits.specs.Visits.{WorksTaking}
use Rattle.em_trunk.specs.declared.trunk.Trunk.{Trunk}
use Rattle.em_trunk.proofs.Rooms.{counted, counters_as, counters_of}

-- Counters are books of a call in which nothing was moved, whatever it owes.
pub taking_books : {shape : ShapeNumbers} {k r : ℕ} {t : Sums} (owed : ℕ) → t.root ≤ t.waiting
    → (h : HasCounters shape k r t) → InCall shape (counted h.counters) owed 0 r t
taking_books {t = t} owed held h =
    let cs = h.counters in
    let left = h.fits.sums.left_most in
    let pushed = h.fits.sums.loaded_most in
    let few : 3 * t.root ≤ 3 * cs.n = omega (arith, pushed, held) in
    record {
      books = record {
        counters = cs;
        n = refl;
        k = refl;
        since = refl;
        z = refl;
        y = refl;
        adopted = refl;
        few = h.few;
        few_adopted = h.few_adopted;
        paid = record {
          fits = h.fits;
          covers = record { covered = omega (arith, few) };
          root = h.root;
        };
      };
      taken = omega (arith, left);
      taken_since = omega arith;
      parts = h.parts;
    }

-- the root's buffer waits, too
root_waits : (s : RigState) (v : Trunk) → (sums_in s v).root ≤ (sums_in s v).waiting
root_waits s v = omega arith

-- A visit leaves what it begins with.
pub hold_taking : {key : Record → Record} {step : Option Record → Record → Step}
    {IsOp IsKept : Record → Type 0} {ys : List Record} {owed next r l n g : ℕ} {s t : RigState}
    {v w : Trunk} → WorksTaking key step IsOp IsKept ys owed next r l n s t v w → IsTrue s.device.told
    → MayHold g r s v → MayHold g l t w
hold_taking {owed = owed} {s = s} {t = t} {v = v} {w = w} a told h =
    let gives = a.gives told in
    let few = h.answers in
    let c = h.counters in
    record {
      counters = counters_as t.pool.shape w.longest a.session.touches.shape a.numbers.longest
          (counters_of v.longest c.k_is ((a.charges told).books (counted c.counters) 0 c.k_is
          (taking_books owed (root_waits s v) c)));
      answers = omega (arith, gives, few);
    }
