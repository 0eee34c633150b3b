-- What calls on a rig keep.
use Rattle.std.proofs.Common.{◌≡◌, ℕ, List, [], get_or, set, refl, sym, ap, ◌∙◌, arith, IsTrue, IsFalse, Result, Ok, Err, IfErr}
use Rattle.std.proofs.lemmas.List.{get_or-set_same}
use Rattle.em_record.specs.Count.{Rose}
use Rattle.em_record.specs.Shape.{ShapeNumbers, payload_of}
use Rattle.em_record.specs.declared.record.Record.{Record}
use Rattle.em_frames.specs.Device.{block_at}
use Rattle.em_frames.specs.Pool.{PoolCounts, SameFrames, LentFrames, GivenFrames, HasFrames}
use Rattle.em_space.specs.Rig.{RigState, Sound, InUse, Touches, BlockCause}
use Rattle.em_space.specs.declared.fault.EmFault.{EmFault}
use Rattle.em_space.specs.declared.fault.EmFault.TheVariants.{DeviceFault, Full, Damaged}
use Rattle.em_space.proofs.Held.{in_use_below}
use Rattle.em_space.proofs.Steps.{touches_after, touches_then, touches_wider}
use Rattle.em_chain.specs.Chain.{payload_in}
use Rattle.em_chain.specs.Effects.{Completes}

pub payload_kept : (held : List ℕ) (s t : RigState) → Touches held s t
    → payload_in t ≡ payload_in s
payload_kept held s t h = ap (λ (x : ShapeNumbers). payload_of x) h.shape

pub touches_none : (held : List ℕ) (s t : RigState) → Touches [] s t → Touches held s t
touches_none held s t k = touches_wider held [] s t k (λ z j u o. tt)

-- the second one of three calls may change some blocks
pub touches_between : {s m u t : RigState} (held : List ℕ) → Touches [] s m → Touches held m u
    → Touches [] u t → Touches held s t
touches_between {s} {m} {u} {t} held x y z =
    touches_then held s u t (touches_after held s m u x y) z

-- a block in use holds what was stored there
pub stored_at : (s t : RigState) (k : ℕ) (b : List Record) → Sound s → InUse s k
    → t.device.contents ≡ set s.device.contents k b → IsTrue s.device.told
    → block_at t.device k ≡ b
stored_at s t k b h u e z =
    let l = (h.told z).length_is in
    let lt = in_use_below s k h u in
    ap (λ (cs : List (List Record)). get_or cs k []) e
    ∙ get_or-set_same s.device.contents k b [] (omega arith)

-- a frame that is out stays out where as many are free as before
pub has_kept : (n len : ℕ) (p q : PoolCounts) → SameFrames p q → HasFrames n len p
    → HasFrames n len q
has_kept n len p q e h = record {
  len_is = h.len_is ∙ ap (λ (x : ShapeNumbers). x.block) (sym e.shape);
  out = rw (e.shape, e.free) h.out;
}

pub lent_same : (n : ℕ) (a b c : PoolCounts) → LentFrames n a b → SameFrames b c
    → LentFrames n a c
lent_same n a b c x y = record {
  shape = y.shape ∙ x.shape;
  free = rw y.free x.free;
  rack = y.rack ∙ x.rack;
  free_areas = y.free_areas ∙ x.free_areas;
  peak = omega (arith, x.peak, y.peak);
}

pub lent_given : (a b c : PoolCounts) → LentFrames 1 a b → GivenFrames 1 b c → SameFrames a c
lent_given a b c x y = record {
  shape = y.shape ∙ x.shape;
  free = y.free ∙ x.free;
  rack = y.rack ∙ x.rack;
  free_areas = y.free_areas ∙ x.free_areas;
  peak = omega (arith, x.peak, y.peak);
}

none_by : (a b : RigState) (fault : EmFault) → BlockCause a b fault
    → b.device.told ≡ a.device.told → IsTrue a.device.told
    → (Rose a.device.faults b.device.faults → ⊥) → ⊥
none_by a b DeviceFault c e z r = r c
none_by a b (Full used) c e z r = c
none_by a b (Damaged block) c e z r = (let f = c.0 in cc)

-- a call that needs no new block is Ok where it has no cause to give up
pub completes : {A : Type 0} (held : List ℕ) (a b : RigState) (result : Result A EmFault)
    → Touches held a b → IfErr result (BlockCause a b) → Completes a b result
completes held a b (Ok x) t c = λ z r. refl
completes held a b (Err fault) t c = λ z r. absurd (none_by a b fault c t.told z r)

-- a device that tells goes on telling
pub tells_on : (s t u : RigState) → Touches [] s t → Touches [] t u → IsFalse u.device.told
    → IsTrue s.device.told → ⊥
tells_on s t u h g f z = let e = h.told in let d = g.told in cc
