-- Frames and areas over calls on a value that keeps areas.
use Rattle.std.proofs.Common.{ℕ, List, [], refl, ◌∙◌, arith, IsTrue}
use Rattle.em_frames.specs.Pool.{GivenFrames, PoolCounts, SameFrames}
use Rattle.em_space.specs.Held.{Within}
use Rattle.em_space.specs.Rig.{Goes, InUse, RigState, Sound}
use Rattle.em_space.specs.Free.{Off}
use Rattle.em_space.proofs.Steps.{goes_nothing, touches_trans, touches_wider}
use Rattle.em_map.specs.Areas.{GivenWithAreas, KeepsAreas, SharesAreas}

-- What is free and what is held, after no call at all,
pub shares_nothing : (own : ℕ) (p : PoolCounts) → SharesAreas own own p p
shares_nothing own p = record { shape = refl; free = refl; areas = refl; rack = refl; peak = omega arith }

-- one call after another,
pub shares_then : (before middle after : ℕ) (p q r : PoolCounts) → SharesAreas before middle p q
    → SharesAreas middle after q r → SharesAreas before after p r
shares_then before middle after p q r x y = record {
  shape = y.shape ∙ x.shape;
  free = y.free ∙ x.free;
  areas = omega (arith, x.areas, y.areas);
  rack = y.rack ∙ x.rack;
  peak = omega (arith, x.peak, y.peak);
}

-- and after a call that lent none: a value holds as many areas as before, and as many are free.
pub shares_same : (own : ℕ) (p q : PoolCounts) → SameFrames p q → SharesAreas own own p q
shares_same own p q f = record {
  shape = f.shape;
  free = f.free;
  areas = omega (arith, f.free_areas);
  rack = f.rack;
  peak = f.peak;
}

pub same_shared : (own : ℕ) (p q : PoolCounts) → SharesAreas own own p q → SameFrames p q
same_shared own p q x = record {
  shape = x.shape;
  free = x.free;
  rack = x.rack;
  free_areas = omega (arith, x.areas);
  peak = x.peak;
}

-- A call on a value that holds as many areas as before,
pub goes_on : (own : ℕ) (held : List ℕ) (s t : RigState) → Goes held s t → KeepsAreas own own held s t
goes_on own held s t g = record {
  sound = g.sound;
  touches = g.touches;
  frames = shares_same own s.pool t.pool g.frames;
}

pub goes_alike : (own : ℕ) (held : List ℕ) (s t : RigState) → KeepsAreas own own held s t → Goes held s t
goes_alike own held s t g = record {
  sound = g.sound;
  touches = g.touches;
  frames = same_shared own s.pool t.pool g.frames;
}

-- no call at all,
pub goes_on_nothing : (own : ℕ) (held : List ℕ) (s : RigState) → Sound s → KeepsAreas own own held s s
goes_on_nothing own held s sound =
    let none = goes_nothing s sound in
    record {
      sound = sound;
      touches = touches_wider held [] s s none.touches (λ z k u o. tt);
      frames = shares_nothing own s.pool;
    }

-- and one call after another: what the second may change was held by the first, or wasn't in use before it.
pub goes_on_trans : (before middle after : ℕ) (held now : List ℕ) (s t u : RigState) → KeepsAreas before middle held s t
    → KeepsAreas middle after now t u
    → (IsTrue s.device.told → (k : ℕ) → InUse s k → Off k held → Off k now) → KeepsAreas before after held s u
goes_on_trans before middle after held now s t u x y apart = record {
  sound = y.sound;
  touches = touches_trans held now s t u x.touches y.touches apart;
  frames = shares_then before middle after s.pool t.pool u.pool x.frames y.frames;
}

pub goes_on_within : (before middle after : ℕ) (held now : List ℕ) (s t u : RigState) → KeepsAreas before middle held s t
    → Within s held now → KeepsAreas middle after now t u → KeepsAreas before after held s u
goes_on_within before middle after held now s t u x w y =
    goes_on_trans before middle after held now s t u x y (λ z k i o. w.off z k i o)

-- Frames that a value with no area gave back,
pub given_singles : (frames : ℕ) (p q : PoolCounts) → GivenFrames frames p q → GivenWithAreas frames 0 p q
given_singles frames p q g = record {
  shape = g.shape;
  free = g.free;
  rack = g.rack;
  free_areas = omega (arith, g.free_areas);
  peak = g.peak;
}

-- and those that came back after calls that shared them.
pub given_after : (frames before after : ℕ) (p q r : PoolCounts) → SharesAreas before after p q
    → GivenWithAreas frames after q r → GivenWithAreas frames before p r
given_after frames before after p q r x g = record {
  shape = g.shape ∙ x.shape;
  free = omega (arith, x.free, g.free);
  rack = g.rack ∙ x.rack;
  free_areas = omega (arith, x.areas, g.free_areas);
  peak = omega (arith, x.peak, g.peak);
}
