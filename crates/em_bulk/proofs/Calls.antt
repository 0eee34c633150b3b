-- Calls on some of the blocks that are held.
use Rattle.std.proofs.Common.{◌≡◌, ℕ, ◌+◌, List, ◌++◌, refl, arith, IsTrue}
use Rattle.em_space.specs.Held.{Holds}
use Rattle.em_space.specs.Rig.{RigState, Sound}
use Rattle.em_space.specs.declared.fault.EmFault.{EmFault}
use Rattle.em_tree_walk.specs.Paid.{RunsPaid, StopsPaid}
use Rattle.em_tree_walk.proofs.Regions.{SameTally, tally_append}
use Rattle.em_tree_load.proofs.Payments.{paid_none, paid_part, paid_stops}

module _ {whole ks : List ℕ} {m : ℕ} {s t : RigState} (rest : List ℕ) (x : ℕ) (sound : Sound s)
    (holds : IsTrue s.device.told → Holds s whole) (same : IsTrue s.device.told → SameTally whole (ks ++ rest)) where
  -- The others stay.
  pub runs_in : {js : List ℕ} {n : ℕ} → RunsPaid ks js m n s t → RunsPaid whole (js ++ rest) (m + x) (n + x) s t
  runs_in {js} {n} r = paid_part ks js rest x refl (paid_none s whole (m + x) sound holds) same r

  pub stops_in : {n : ℕ} {fault : EmFault} → StopsPaid ks m n s t fault → StopsPaid whole (m + x) (n + x) s t fault
  stops_in {n} {fault} r = paid_stops ks rest x refl (paid_none s whole (m + x) sound holds) same r

-- two lists in the other order
pub swapped : (xs ys : List ℕ) → SameTally (xs ++ ys) (ys ++ xs)
swapped xs ys j =
    let a = tally_append j xs ys in
    let b = tally_append j ys xs in
    omega (arith, a, b)

pub more_zero : (n : ℕ) → n + 0 ≡ n
more_zero n = omega arith
