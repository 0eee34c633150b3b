-- The frames and areas of a service, over its calls and beside it, and the size by which its moves are counted.
use Rattle.std.proofs.Common.{◌≡◌, ℕ, ◌+◌, ◌*◌, ◌++◌, ◌∷◌, ◌≤◌, List, [], length, refl, ap, subst, ◌∙◌, arith, IfSome, Option, Some, None}
use Rattle.std.proofs.Math.Nat.{mul-le-mul_left}
use Rattle.std.proofs.lemmas.List.{length-append}
use Rattle.em_record.specs.Shape.{IsShape, ShapeNumbers, fan_of}
use Rattle.em_frames.specs.Pool.{LentFrames, PoolCounts, SameFrames, singles_of}
use Rattle.em_model.specs.declared.command.Command.{Command}
use Rattle.em_space.specs.Held.{Within}
use Rattle.em_space.specs.Queue.{CanServe}
use Rattle.em_space.specs.Rig.{Goes, RigState, Touches}
use Rattle.em_space.proofs.Within.{touches_within, within_none, within_then}
use Rattle.em_ready.specs.Ready.{IsReady}
use Rattle.em_map.specs.Areas.{GivenWithAreas, KeepsAreas, SharesAreas}
use Rattle.em_map.proofs.Areas.{given_after}
use Rattle.em_services.specs.Service.{CanAnswer, CanSync, CanTake, FramesOut, GivesFrames, RisesBySize, WithinAllowance}

-- The frames of a sync are those of the answers and more, and these are those of a command and more.
pub sync_answers : (own : ℕ) (p : PoolCounts) → CanSync own p → CanAnswer own p
sync_answers own p c = record { singles = omega (arith, c.singles); areas = c.areas; rack = c.rack }

pub answer_takes : (own : ℕ) (p : PoolCounts) → CanAnswer own p → CanTake own p
answer_takes own p c = record { singles = omega (arith, c.singles); areas = c.areas; rack = c.rack }

pub sync_takes : (own : ℕ) (p : PoolCounts) → CanSync own p → CanTake own p
sync_takes own p c = answer_takes own p (sync_answers own p c)

-- Beside a service of one area at most they are those of a call of a queue.
pub take_serves : (own : ℕ) (p : PoolCounts) → own ≤ 1 → CanTake own p → CanServe p
take_serves own p few c = record { singles = c.singles; areas = omega (arith, few, c.areas); rack = c.rack }

pub takes_alone : (p : PoolCounts) → CanTake 0 p → CanServe p
takes_alone p c = take_serves 0 p (omega arith) c

-- They are free after a call, if they were before it.
pub takes_shared : (before after : ℕ) (p q : PoolCounts) → CanTake before p → SharesAreas before after p q
    → CanTake after q
takes_shared before after p q c x = record {
  singles = let f = ap fan_of x.shape in omega (arith, c.singles, x.free, f);
  areas = omega (arith, c.areas, x.areas);
  rack = x.rack ∙ c.rack;
}

pub syncs_shared : (before after : ℕ) (p q : PoolCounts) → CanSync before p → SharesAreas before after p q
    → CanSync after q
syncs_shared before after p q c x = record {
  singles = let f = ap fan_of x.shape in omega (arith, c.singles, x.free, f);
  areas = omega (arith, c.areas, x.areas);
  rack = x.rack ∙ c.rack;
}

pub answers_shared : (before after : ℕ) (p q : PoolCounts) → CanAnswer before p → SharesAreas before after p q
    → CanAnswer after q
answers_shared before after p q c x = record {
  singles = let f = ap fan_of x.shape in omega (arith, c.singles, x.free, f);
  areas = omega (arith, c.areas, x.areas);
  rack = x.rack ∙ c.rack;
}

-- A call beside a service leaves its frames and areas out.
pub out_kept : (frames own : ℕ) (p q : PoolCounts) → FramesOut frames own p → SameFrames p q → FramesOut frames own q
out_kept frames own p q o f = record {
  is = let e = ap singles_of f.shape in let out = o.is in omega (arith, out, f.free, e);
  areas = λ some. let out = o.areas some in omega (arith, out, f.free_areas);
}

-- A new service holds no area: all that was lent to it came back.
pub lent_back : (frames own : ℕ) (p q r : PoolCounts) → LentFrames frames p q → own ≡ 0 → GivenWithAreas frames own q r
    → SameFrames p r
lent_back frames own p q r l none g = record {
  shape = g.shape ∙ l.shape;
  free = omega (arith, l.free, g.free);
  rack = g.rack ∙ l.rack;
  free_areas = omega (arith, l.free_areas, g.free_areas, none);
  peak = omega (arith, l.peak, g.peak);
}

-- The frames of a call are free beside those of a new service,
pub syncs_beside : (frames own : ℕ) (p q : PoolCounts) → IsReady p → LentFrames frames p q → frames ≤ 4
    → CanSync own q
syncs_beside frames own p q r l few =
    let f = ap fan_of l.shape in
    record {
      singles = omega (arith, r.singles, l.free, few, f);
      areas = omega (arith, r.areas, l.free_areas);
      rack = l.rack ∙ r.rack;
    }

pub takes_beside : (frames own : ℕ) (p q : PoolCounts) → IsReady p → LentFrames frames p q → frames ≤ 4
    → CanTake own q
takes_beside frames own p q r l few = sync_takes own q (syncs_beside frames own p q r l few)

-- also after its calls.
pub answers_after_calls : (frames before after : ℕ) (p q r : PoolCounts) → IsReady p → LentFrames frames p q
    → frames ≤ 4 → SharesAreas before after q r → CanAnswer after r
answers_after_calls frames before after p q r ready l few x =
    answers_shared before after q r (sync_answers before q (syncs_beside frames before p q ready l few)) x

-- A service was made with no area, took calls, and was ended: as much is free as before.
pub service_ended : (frames before after : ℕ) (held now : List ℕ) (s t u v : RigState) → Touches [] s t
    → LentFrames frames s.pool t.pool → before ≡ 0 → Within s [] held → KeepsAreas before after held t u
    → Within t held now → GivesFrames frames after now u v → Goes [] s v
service_ended frames before after held now s t u v made lent none fresh calls within gives = record {
  sound = gives.sound;
  touches = touches_within s u v [] now (touches_within s t u [] held made fresh calls.touches)
      (within_then s t [] held now made fresh within) gives.touches;
  frames = lent_back frames before s.pool t.pool v.pool lent none
      (given_after frames before after t.pool u.pool v.pool calls.frames gives.frames_are);
}

-- The same if it was given up.
pub service_left : (frames before after : ℕ) (held : List ℕ) (s t u v : RigState) → Touches [] s t
    → LentFrames frames s.pool t.pool → before ≡ 0 → Within s [] held → KeepsAreas before after held t u
    → GivesFrames frames after [] u v → Goes [] s v
service_left frames before after held s t u v made lent none fresh calls gives =
    service_ended frames before after held [] s t u v made lent none fresh calls
    (within_none t held [] (λ z. refl)) gives

-- What is within an allowance for a size is so for an equal one,
pub within_equal : (allowance : Option (ShapeNumbers → ℕ → ℕ)) (m n syncs : ℕ) (spent : ShapeNumbers → ℕ)
    (s t : RigState) → m ≡ n → WithinAllowance allowance m syncs spent s t → WithinAllowance allowance n syncs spent s t
within_equal allowance m n syncs spent s t e h =
    subst (λ (size : ℕ). WithinAllowance allowance size syncs spent s t) e h

times_more : (y a b moves spent first : ℕ) → a ≤ b → spent + moves ≤ first + (y + 1) * a
    → spent + moves ≤ first + (y + 1) * b
times_more y a b moves spent first rises h =
    let all = mul-le-mul_left (y + 1) rises in omega (arith, all, h)

-- and for a greater one.
pub within_more : (allowance : Option (ShapeNumbers → ℕ → ℕ)) (m n syncs : ℕ) (spent : ShapeNumbers → ℕ)
    (s t : RigState) → IfSome allowance RisesBySize → IsShape s.pool.shape → m ≤ n
    → WithinAllowance allowance m syncs spent s t → WithinAllowance allowance n syncs spent s t
within_more None m n syncs spent s t rises is few h = tt
within_more (Some f) m n syncs spent s t rises is few h = λ told.
    times_more syncs (f s.pool.shape m) (f s.pool.shape n) t.moves (spent s.pool.shape) s.moves
    (rises s.pool.shape m n is few) (h told)

-- a command more than some
pub one_more : (n : ℕ) (before cs : List Command) (c : Command) → n ≡ length (before ++ cs)
    → n + 1 ≡ length (before ++ cs ++ c ∷ [])
one_more n before cs c e = let one = length-append (before ++ cs) (c ∷ []) in omega (arith, e, one)
