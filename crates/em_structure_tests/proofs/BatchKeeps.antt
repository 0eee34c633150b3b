-- What the calls of a batch leave.
use Rattle.std.proofs.Common.{◌≡◌, ℕ, ◌+◌, ◌≤◌, ◌<◌, ◌^◌, ◌∙◌, false, ap, arith}
use Rattle.std.specs.Prelude.{Result, Ok, Err, OnOk, IsErrAnd, Option, Some, None}
use Rattle.em_record.specs.Shape.{fan_of}
use Rattle.em_frames.specs.Pool.{LentFrames, PoolCounts, SameFrames, singles_of}
use Rattle.em_model.specs.declared.command.Command.{Command}
use Rattle.em_space.specs.Queue.{CanServe}
use Rattle.em_space.specs.Rig.{Goes, RigState}
use Rattle.em_space.specs.declared.fault.EmFault.{EmFault}
use Rattle.em_chain.specs.Chain.{chain_blocks}
use Rattle.em_chain.specs.declared.chain.Chain.{Chain}
use Rattle.em_combine.specs.Gather.{GatherState}
use Rattle.em_map.specs.Areas.{GivenWithAreas, SharesAreas}
use Rattle.em_map.specs.Batch.{BatchHasFrames, CountsCommand, CountsSync, FinishesBatch, IsBatch, IsNewBatch, LeavesBatch, StopsBatch, SyncedBatch, TakesTo, areas_in, areas_of}
use Rattle.em_map.specs.declared.batch.Batch.{Batch}
use Rattle.em_map.proofs.Areas.{shares_nothing, shares_then}
use Rattle.em_map.proofs.Stays.{batch_beside, batch_frames_stay}
use Rattle.em_structure_tests.specs.Ready.{HasAll, KeepsBatch, KeepsRig, ReadyBatch}
use Rattle.em_structure_tests.proofs.Kept.{never}

-- a batch holds an area at most
areas_few : (load : Option GatherState) → areas_in load ≤ 1
areas_few None = omega arith
areas_few (Some load) = omega arith

-- its frames and its area are there
has_frames : {F : Type 0} (s : RigState) (b : Batch F) → IsBatch s b → BatchHasFrames s b
has_frames s b is = record { tree = is.is.running.frames; area = is.area }

-- what is free and what it holds serve as before
shared_serves : (before after : ℕ) (p q : PoolCounts) → CanServe p → 2 ≤ p.free_areas + before → after ≤ 1
    → SharesAreas before after p q → CanServe q
shared_serves before after p q h two few e = record {
  singles =
      let a = ap fan_of e.shape in let b = e.free in let c = h.singles in omega (arith, a, b, c);
  areas = omega (arith, e.areas, two, few);
  rack = e.rack ∙ h.rack;
}

-- No call came yet.
pub batch_none : {F : Type 0} (m n : ℕ) (s : RigState) (b : Batch F) {T : Type 0} (x : T) → ReadyBatch n s b
    → KeepsBatch m s s b b (Ok x)
batch_none m n s b x h = record {
  sound = h.ready.sound;
  untold = h.ready.untold;
  frames = shares_nothing (areas_of b) s.pool;
  has = has_frames s b h.ready.is;
  is = h.ready.is;
  calls = omega arith;
}

-- Some calls after others, at most n together.
pub batch_then : {F : Type 0} (i j n : ℕ) (s t u : RigState) (b d e : Batch F) {A B : Type 0} (a : A)
    (r : Result B EmFault) → i + j ≤ n → KeepsBatch i s t b d (Ok a) → KeepsBatch j t u d e r
    → KeepsBatch n s u b e r
batch_then i j n s t u b d e a (Ok x) le h g = record {
  sound = g.sound;
  untold = g.untold;
  frames = shares_then (areas_of b) (areas_of d) (areas_of e) s.pool t.pool u.pool h.frames g.frames;
  has = g.has;
  is = g.is;
  calls = let p = h.calls in let q = g.calls in omega (arith, le, p, q);
}
batch_then i j n s t u b d e a (Err fault) le h g = record {
  sound = g.sound;
  untold = g.untold;
  frames = shares_then (areas_of b) (areas_of d) (areas_of e) s.pool t.pool u.pool h.frames g.frames;
  has = g.has;
  is = tt;
  calls = tt;
}

-- A batch that was kept may get the calls that are left.
pub batch_next : {F : Type 0} (i j n : ℕ) (s t : RigState) (b d : Batch F) {A : Type 0} (a : A) → i + j ≤ n
    → ReadyBatch n s b → KeepsBatch i s t b d (Ok a) → ReadyBatch j t d
batch_next i j n s t b d a le h g = record {
  ready = record {
    sound = g.sound;
    untold = g.untold;
    serves = shared_serves (areas_of b) (areas_of d) s.pool t.pool h.ready.serves h.areas (areas_few d.load) g.frames;
    is = g.is;
    few = let p = h.ready.few in let q = g.calls in omega (arith, le, p, q);
  };
  areas = let p = g.frames.areas in let q = h.areas in omega (arith, p, q);
}

-- What a call kept is within what more calls keep, whatever it answers.
pub batch_more : {F : Type 0} (m n : ℕ) (s t : RigState) (b d : Batch F) {A B : Type 0} (x : A) (y : B) → m ≤ n
    → KeepsBatch m s t b d (Ok x) → KeepsBatch n s t b d (Ok y)
batch_more m n s t b d x y le g = record {
  sound = g.sound;
  untold = g.untold;
  frames = g.frames;
  has = g.has;
  is = g.is;
  calls = let p = g.calls in omega (arith, le, p);
}

-- What holds of a fault holds of the result that hands it on.
pub batch_on : {F : Type 0} (m n : ℕ) (s t : RigState) (b d : Batch F) {A B : Type 0} (fault : EmFault)
    (r : Result A EmFault) → IsErrAnd r (λ f. f ≡ fault) → KeepsBatch {T = B} m s t b d (Err fault)
    → KeepsBatch n s t b d r
batch_on m n s t b d fault (Ok x) e g = absurd e
batch_on m n s t b d fault (Err f) e g = record {
  sound = g.sound;
  untold = g.untold;
  frames = g.frames;
  has = g.has;
  is = tt;
  calls = tt;
}

-- a call that gives a command
pub given_keeps : {F : Type 0} {T : Type 0} (c : Command) (s t : RigState) (b d : Batch F) (r : Result T EmFault)
    → s.device.told ≡ false → TakesTo c s t b d r → CountsCommand c s t b d → KeepsBatch 1 s t b d r
given_keeps c s t b d (Ok x) e p n = record {
  sound = p.session.sound;
  untold = p.session.touches.told ∙ e;
  frames = p.frames;
  has = has_frames t d p.is;
  is = p.is;
  calls = omega (arith, n.calls);
}
given_keeps c s t b d (Err fault) e p n = record {
  sound = p.goes.sound;
  untold = p.goes.touches.told ∙ e;
  frames = p.goes.frames;
  has = p.frames;
  is = tt;
  calls = tt;
}

-- A sync that stopped.
pub unsynced_keeps : {F : Type 0} {A : Type 0} (s t : RigState) (b d : Batch F) (fault : EmFault)
    (r : Result A EmFault) → IsErrAnd r (λ f. f ≡ fault) → s.device.told ≡ false
    → StopsBatch s t b d fault → KeepsBatch 1 s t b d r
unsynced_keeps s t b d fault (Ok x) is e p = absurd is
unsynced_keeps s t b d fault (Err f) is e p = record {
  sound = p.goes.sound;
  untold = p.goes.touches.told ∙ e;
  frames = p.goes.frames;
  has = p.frames;
  is = tt;
  calls = tt;
}

-- A sync, whose answers were read.
pub synced_keeps : {F : Type 0} (s t u : RigState) (b d : Batch F) (c : Chain) (r : Result (Unit {0}) EmFault)
    → s.device.told ≡ false → SyncedBatch s t b d c → CountsSync s t b d → Goes (chain_blocks t c) t u
    → KeepsBatch 1 s u b d r
synced_keeps s t u b d c r e p n g = record {
  sound = g.sound;
  untold = g.touches.told ∙ untold;
  frames = record {
    shape = g.frames.shape ∙ p.frames.shape;
    free = g.frames.free ∙ p.frames.free;
    areas = let a = g.frames.free_areas in let x = p.frames.areas in let none = p.areas in omega (arith, a, x, none);
    rack = g.frames.rack ∙ p.frames.rack;
    peak = let a = g.frames.peak in let x = p.frames.peak in omega (arith, a, x);
  };
  has = batch_frames_stay (chain_blocks t c) t u d g.touches out area (has_frames t d p.is);
  is = on_ok r;
  calls = calls_ok r;
}
  where
    untold : t.device.told ≡ false
    untold = p.session.touches.told ∙ e

    out : u.pool.free + 2 ≤ singles_of u.pool.shape
    out =
        let free = g.frames.free in let shape = ap singles_of g.frames.shape in
        let before = p.is.is.running.frames.out in omega (arith, free, shape, before)

    area : 0 < areas_of d → u.pool.free_areas + areas_of d ≤ 2
    area some = let none = p.areas in absurd (omega (arith, some, none))

    on_ok : (r : Result (Unit {0}) EmFault) → OnOk r (IsBatch u d)
    on_ok (Ok x) = (batch_beside (chain_blocks t c) t u d g.touches out area p.is (λ z. never untold z)).is
    on_ok (Err fault) = tt

    calls_ok : (r : Result (Unit {0}) EmFault) → OnOk r (d.calls ≤ b.calls + 1)
    calls_ok (Ok x) = let calls = n.calls in omega (arith, calls)
    calls_ok (Err fault) = tt

-- A new batch may get commands.
pub new_ready : {F : Type 0} (n : ℕ) (s t : RigState) (b : Batch F) → n ≤ 2 ^ 40 → HasAll s → IsNewBatch s t b
    → ReadyBatch n t b
new_ready n s t b few h new =
    let x = new.tree.frames in
    let two : 2 ≤ t.pool.free_areas = let a = x.free_areas in let f = h.areas in omega (arith, a, f) in
    record {
      ready = record {
        sound = new.tree.session.sound;
        untold = new.tree.session.touches.told ∙ h.frames.untold;
        serves = record {
          singles =
              let e = ap fan_of x.shape in let a = x.free in let f = h.frames.free in
              omega (arith, e, a, f);
          areas = omega (arith, two);
          rack = x.rack ∙ h.frames.serves.rack;
        };
        is = new.is;
        few = let none = new.none.calls in omega (arith, none, few);
      };
      areas = omega (arith, two);
    }

-- Two frames were lent to a new batch, and came back with its area.
batch_back : (held : ℕ) (p q r u : PoolCounts) (own : ℕ) → own ≡ 0 → LentFrames 2 p q → SharesAreas own held q r
    → GivenWithAreas 2 held r u → SameFrames p u
batch_back held p q r u own none l e g =
    let a = l.free in
    let b = e.free in
    let c = g.free in
    record {
      shape = g.shape ∙ e.shape ∙ l.shape;
      free = omega (arith, a, b, c);
      rack = g.rack ∙ e.rack ∙ l.rack;
      free_areas =
          let x = l.free_areas in let y = e.areas in let z = g.free_areas in omega (arith, none, x, y, z);
      peak = let x = l.peak in let y = e.peak in let z = g.peak in omega (arith, x, y, z);
    }

-- A batch was made, given commands, and abandoned.
pub abandoned_keeps : {F : Type 0} {T : Type 0} (n : ℕ) (s t u v : RigState) (b d : Batch F) (q : Result T EmFault)
    → IsNewBatch s t b → KeepsBatch n t u b d q → LeavesBatch u v d → KeepsRig s v
abandoned_keeps n s t u v b d q new kept leaves = record {
  sound = leaves.sound;
  frames = batch_back (areas_of d) s.pool t.pool u.pool v.pool (areas_of b) new.areas new.tree.frames kept.frames
      leaves.frames;
}

-- It was finished, or wasn't.
pub finished_keeps : {F : Type 0} {T : Type 0} (n : ℕ) (s t u v : RigState) (b d : Batch F) (a : T)
    (r : Result Chain EmFault) → IsNewBatch s t b → KeepsBatch n t u b d (Ok a)
    → FinishesBatch u v d r → KeepsRig s v
finished_keeps n s t u v b d a (Ok c) new kept p = record {
  sound = p.session.sound;
  frames = batch_back (areas_of d) s.pool t.pool u.pool v.pool (areas_of b) new.areas new.tree.frames kept.frames
      p.frames;
}
finished_keeps n s t u v b d a (Err fault) new kept p = record {
  sound = p.sound;
  frames = batch_back (areas_of d) s.pool t.pool u.pool v.pool (areas_of b) new.areas new.tree.frames kept.frames
      p.frames;
}
