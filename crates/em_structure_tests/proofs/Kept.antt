-- Calls of a structure compose, whatever it is.
use Rattle.std.proofs.Common.{◌≡◌, ℕ, ◌+◌, ◌≤◌, ◌∙◌, ap, arith, Bool, false, sym, IsTrue}
use Rattle.std.specs.Prelude.{Result, Ok, Err, IsErrAnd}
use Rattle.std.proofs.lemmas.Bool.{false≢true}
use Rattle.em_record.specs.Shape.{fan_of}
use Rattle.em_frames.specs.Pool.{PoolCounts, SameFrames}
use Rattle.em_space.specs.Queue.{CanServe}
use Rattle.em_space.specs.Rig.{RigState}
use Rattle.em_space.specs.declared.fault.EmFault.{EmFault}
use Rattle.em_space.proofs.Steps.{same_frames, same_frames_then}
use Rattle.em_structure_tests.specs.Ready.{Keeps, Ready}

-- Nothing is asked of what a device holds that doesn't tell.
pub never : {P : Type 0} {b : Bool} → b ≡ false → IsTrue b → P
never e z = absurd (false≢true (sym e ∙ z))

-- what is free serves as before
pub same_serves : (p q : PoolCounts) → CanServe p → SameFrames p q → CanServe q
same_serves p q h e = record {
  singles =
      let a = ap fan_of e.shape in let b = e.free in let c = h.singles in omega (arith, a, b, c);
  areas = let b = e.free_areas in let c = h.areas in omega (arith, b, c);
  rack = e.rack ∙ h.rack;
}

-- Nothing was done yet.
pub keeps_none : (m n k : ℕ) (s : RigState) (Has Is : Type 0) {T : Type 0} (x : T) → Has
    → Ready n k s Is → Keeps m k k s s Has Is (Ok x)
keeps_none m n k s Has Is x has h = record {
  sound = h.sound;
  untold = h.untold;
  frames = same_frames s.pool;
  has = has;
  is = h.is;
  calls = omega arith;
}

-- Some calls after others, at most n together.
pub keeps_then : (i j n k l m : ℕ) (s t u : RigState) (Mid Was Has Is : Type 0) {A B : Type 0} (a : A)
    (r : Result B EmFault) → i + j ≤ n → Keeps i k l s t Mid Was (Ok a) → Keeps j l m t u Has Is r
    → Keeps n k m s u Has Is r
keeps_then i j n k l m s t u Mid Was Has Is a (Ok b) le h g = record {
  sound = g.sound;
  untold = g.untold;
  frames = same_frames_then s.pool t.pool u.pool h.frames g.frames;
  has = g.has;
  is = g.is;
  calls = let p = h.calls in let q = g.calls in omega (arith, le, p, q);
}
keeps_then i j n k l m s t u Mid Was Has Is a (Err fault) le h g = record {
  sound = g.sound;
  untold = g.untold;
  frames = same_frames_then s.pool t.pool u.pool h.frames g.frames;
  has = g.has;
  is = tt;
  calls = tt;
}

-- A structure that was kept may get the calls that are left.
pub ready_next : (i j n k l : ℕ) (s t : RigState) (Old Has Is : Type 0) {A : Type 0} (a : A)
    → i + j ≤ n → Ready n k s Old → Keeps i k l s t Has Is (Ok a) → Ready j l t Is
ready_next i j n k l s t Old Has Is a le h g = record {
  sound = g.sound;
  untold = g.untold;
  serves = same_serves s.pool t.pool h.serves g.frames;
  is = g.is;
  few = let p = h.few in let q = g.calls in omega (arith, le, p, q);
}

-- What a call kept is within what more calls keep, whatever it answers.
pub keeps_more : (m n k l : ℕ) (s t : RigState) (Has Is : Type 0) {A B : Type 0} (a : A) (b : B) → m ≤ n
    → Keeps m k l s t Has Is (Ok a) → Keeps n k l s t Has Is (Ok b)
keeps_more m n k l s t Has Is a b le g = record {
  sound = g.sound;
  untold = g.untold;
  frames = g.frames;
  has = g.has;
  is = g.is;
  calls = let p = g.calls in omega (arith, le, p);
}

-- What holds of a fault holds of the result that hands it on.
pub kept_on : (m n k l : ℕ) (s t : RigState) (Has Is : Type 0) {A B : Type 0} (fault : EmFault)
    (r : Result A EmFault) → IsErrAnd r (λ f. f ≡ fault)
    → Keeps {T = B} m k l s t Has Is (Err fault) → Keeps n k l s t Has Is r
kept_on m n k l s t Has Is fault (Ok x) e g = absurd e
kept_on m n k l s t Has Is fault (Err f) e g = record {
  sound = g.sound;
  untold = g.untold;
  frames = g.frames;
  has = g.has;
  is = tt;
  calls = tt;
}
