-- The frames of a rig: all are there when it was opened, and again at the end.
use Rattle.std.proofs.Common.{◌≡◌, ℕ, ◌+◌, ◌*◌, ◌≤◌, ◌∙◌, List, false, ap, refl, subst, sym, arith}
use Rattle.em_record.specs.Shape.{IsShape, ShapeNumbers, fan_of}
use Rattle.em_frames.specs.Device.{DeviceState}
use Rattle.em_frames.specs.Pool.{GivenFrames, IsWhole, LentFrames, PoolCounts, SameFrames, fresh_pool, given_area, lent_area}
use Rattle.em_space.specs.Queue.{CanServe}
use Rattle.em_space.specs.Rig.{Goes, Opens, RigState, Sound}
use Rattle.em_space.proofs.Steps.{same_frames_then}
use Rattle.em_structure_tests.specs.Ready.{HasAll, HasFrames, KeepsRig}

-- a shape has enough frames
enough_frames : (shape : ShapeNumbers) → IsShape shape → 2 * fan_of shape + 7 ≤ 3 * fan_of shape
enough_frames shape h = let low = h.frames_low in omega (arith, low)

-- A new rig has the frames for a structure.
pub opened_has : (d : DeviceState) (shape : ShapeNumbers) (blocks : ℕ) (s : RigState)
    → d.told ≡ false → Opens d (fresh_pool shape) blocks s → HasAll s
opened_has d shape blocks s e o =
    let P : PoolCounts → Type 0 = λ p. IsShape p.shape
    → CanServe p × (2 * fan_of p.shape + 7 ≤ p.free) × (p.free_areas ≡ 2) in
    let fresh : P (fresh_pool shape) = λ h.
    let n = enough_frames shape h in
    (record { singles = omega (arith, n); areas = omega arith; rack = refl }, n, refl) in
    let all = subst P (sym o.pool_is) fresh o.sound.shape in
    record {
      frames = record { sound = o.sound; untold = o.told ∙ e; serves = all.0; free = all.1 };
      areas = all.2;
    }

-- As many frames are back as a new rig has.
pub whole_again : (d : DeviceState) (shape : ShapeNumbers) (blocks : ℕ) (s t : RigState)
    → Opens d (fresh_pool shape) blocks s → KeepsRig s t → IsWhole t.pool
whole_again d shape blocks s t o k =
    let shape_is = ap fan_of (k.frames.shape ∙ ap (λ (p : PoolCounts). p.shape) o.pool_is) in
    let free = k.frames.free ∙ ap (λ (p : PoolCounts). p.free) o.pool_is in
    let areas = k.frames.free_areas ∙ ap (λ (p : PoolCounts). p.free_areas) o.pool_is in
    record {
      frames = rw (shape_is, free, areas) (omega arith);
      rack = k.frames.rack ∙ ap (λ (p : PoolCounts). p.rack_out) o.pool_is;
    }

-- Two frames were lent, and came back.
pub back : (p q r u : PoolCounts) → LentFrames 2 p q → SameFrames q r → GivenFrames 2 r u
    → SameFrames p u
back p q r u l e g =
    let a = l.free in
    let b = e.free in
    let c = g.free in
    let x = l.peak in
    let y = e.peak in
    let z = g.peak in
    record {
      shape = g.shape ∙ e.shape ∙ l.shape;
      free = omega (arith, a, b, c);
      rack = g.rack ∙ e.rack ∙ l.rack;
      free_areas = g.free_areas ∙ e.free_areas ∙ l.free_areas;
      peak = omega (arith, x, y, z);
    }

-- A call on a chain came after.
pub kept_goes : (held : List ℕ) (s t u : RigState) → KeepsRig s t → Goes held t u → KeepsRig s u
kept_goes held s t u k g = record {
  sound = g.sound;
  frames = same_frames_then s.pool t.pool u.pool k.frames g.frames;
}

-- a reader has a frame beside
pub some_free : (s t : RigState) → HasFrames s → SameFrames s.pool t.pool → 2 ≤ t.pool.free
some_free s t h e = let a = h.free in let b = e.free in omega (arith, a, b)

-- An area was lent: the frames for a tree are left.
pub lent_area_has : (s t : RigState) → HasAll s → Sound t → t ≡ record s { pool = lent_area s.pool }
    → HasFrames t
lent_area_has s t h sound e =
    let two = h.areas in
    let same = ap (λ (m : RigState). m.pool) e in
    record {
      sound = sound;
      untold = ap (λ (m : RigState). m.device.told) e ∙ h.frames.untold;
      serves = subst CanServe (sym same) (record {
        singles = h.frames.serves.singles;
        areas = omega (arith, two);
        rack = h.frames.serves.rack;
      });
      free = subst (λ (p : PoolCounts). 2 * fan_of p.shape + 7 ≤ p.free) (sym same) h.frames.free;
    }

-- It came back, after calls that left as many frames as before.
pub given_area_keeps : (s t u m : RigState) → HasAll s → t ≡ record s { pool = lent_area s.pool }
    → KeepsRig t u → Sound m → m ≡ record u { pool = given_area u.pool } → KeepsRig s m
given_area_keeps s t u m h e k sound g = record {
  sound = sound;
  frames =
      let two = h.areas in
      let lent = ap (λ (m : RigState). m.pool) e in
      let given = ap (λ (m : RigState). m.pool) g in
      let area = k.frames.free_areas in
      let shape = k.frames.shape in
      let free = k.frames.free in
      let rack = k.frames.rack in
      let peak = k.frames.peak in
      rw given (record {
        shape = shape ∙ ap (λ (p : PoolCounts). p.shape) lent;
        free = free ∙ ap (λ (p : PoolCounts). p.free) lent;
        rack = rack ∙ ap (λ (p : PoolCounts). p.rack_out) lent;
        free_areas = let a = ap (λ (p : PoolCounts). p.free_areas) lent in omega (arith, a, area, two);
        peak = let a = ap (λ (p : PoolCounts). p.peak) lent in omega (arith, a, peak);
      });
}
