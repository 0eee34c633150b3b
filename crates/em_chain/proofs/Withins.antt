-- Which blocks the result of a call holds.
use Rattle.std.proofs.Common.{ℕ, List, ◌++◌, IsTrue, subst}
use Rattle.em_space.specs.Free.{Off}
use Rattle.em_space.specs.Rig.{RigState}
use Rattle.em_space.specs.Held.{Within}
use Rattle.em_space.proofs.Apart.{off_new, off_append, off_right}
use Rattle.em_chain.specs.Within.{Grows, Ends}

-- old blocks and new ones
pub within_grows : (s : RigState) (old new : List ℕ) → (IsTrue s.device.told → Grows s old new)
    → Within s old new
within_grows s old new g = record {
  off = λ z j u o. let e =
      g z in rw e.is (off_append j old e.more o (off_new s j e.more u e.fresh));
}

-- the last of the old blocks
pub within_ends : (s : RigState) (old new : List ℕ) → (IsTrue s.device.told → Ends old new)
    → Within s old new
within_ends s old new g = record {
  off = λ z j u o. let e = g z in
      let o2 : Off j (e.gone ++ new) = subst (λ (ks : List ℕ). Off j ks) e.is o in
      off_right j e.gone new o2;
}
