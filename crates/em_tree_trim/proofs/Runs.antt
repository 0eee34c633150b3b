-- Calls of which it is known what was paid, beside others and with what they hold said anew.
use Rattle.std.proofs.Common.{◌≡◌, ℕ, ◌+◌, ◌<◌, ◌≤◌, List, sym, subst, arith, IsTrue}
use Rattle.em_space.specs.Held.{Apart}
use Rattle.em_space.specs.Rig.{RigState, Cause, IfFull, Touches}
use Rattle.em_space.specs.declared.fault.EmFault.{EmFault}
use Rattle.em_space.specs.declared.fault.EmFault.TheVariants.{DeviceFault, Full, Damaged}
use Rattle.em_space.proofs.Sessions.{session_as}
use Rattle.em_chain.specs.Chain.{chain_blocks}
use Rattle.em_chain.specs.declared.chain.Chain.{Chain}
use Rattle.em_chain.proofs.Laws.{chain_stays}
use Rattle.em_leaf.specs.Leaf.{IsLeafChain, leaf_most}
use Rattle.em_record.specs.Shape.{ShapeNumbers}
use Rattle.em_tree_walk.specs.Paid.{RunsPaid}
use Rattle.em_tree_walk.proofs.Losses.{loses_as}

-- the same blocks, if the device tells
pub paid_as : {held ks : List ℕ} {m n : ℕ} {s t : RigState} (js : List ℕ) → RunsPaid held ks m n s t
    → (IsTrue s.device.told → js ≡ ks) → RunsPaid held js m n s t
paid_as {held} {ks} {m} {n} {s} {t} js h e = record {
  session = session_as js h.session e;
  frames = h.frames;
  pays = h.pays;
  loses = loses_as held ks js s t h.loses e;
}

-- the same numbers of blocks that aren't stored
pub paid_count : {held ks : List ℕ} {s t : RigState} (m n a b : ℕ) → m ≡ a → n ≡ b → RunsPaid held ks m n s t
    → RunsPaid held ks a b s t
paid_count {held} {ks} {s} {t} m n a b e f h =
    subst (λ (x : ℕ). RunsPaid held ks a x s t) f (subst (λ (x : ℕ). RunsPaid held ks x n s t) e h)

-- what is said of a full device by the blocks in use is said by all blocks
pub full_all : (s t : RigState) (e : EmFault) (n m : ℕ) → Cause s t e → t.blocks ≡ s.blocks
    → IfFull e (λ _. t.used + n < m) → IfFull e (λ _. s.blocks + n < m)
full_all s t DeviceFault n m c k h = tt
full_all s t (Full used) n m c k h = (let a = c.1 in omega (arith, a, k, h))
full_all s t (Damaged block) n m c k h = tt

-- A leaf's chain over calls that leave its blocks alone.
pub leaf_stays : {held : List ℕ} {s t : RigState} {c : Chain} → Touches held s t
    → (IsTrue s.device.told → Apart (chain_blocks s c) held) → IsLeafChain s c → IsLeafChain t c
leaf_stays {held} {s} {t} {c} h a i =
    let x = chain_stays held s t c h a i.chain in
    let P : ShapeNumbers → Type 0 = λ p. c.count ≤ leaf_most p in
    record {
      chain = x.is;
      packed = λ y. let z : IsTrue s.device.told = told_back y in x.packed z (i.packed z);
      most = subst P (sym h.shape) i.most;
    }
  where
    told_back : IsTrue t.device.told → IsTrue s.device.told
    told_back y = rw (sym h.told) y
