-- What the end of an interval list did, as its contract says it.
use Rattle.std.proofs.Common.{◌≡◌, ℕ, List, IsTrue, ap, sym, ◌∙◌, arith}
use Rattle.em_record.specs.Shape.{fan_of}
use Rattle.em_frames.specs.Pool.{singles_of}
use Rattle.em_model.specs.StabAnswers.{stab_pairs}
use Rattle.em_model.specs.declared.command.Command.{Command}
use Rattle.em_space.specs.Held.{Apart}
use Rattle.em_space.specs.Queue.{AreOut, CanServe}
use Rattle.em_space.specs.Rig.{RigState}
use Rattle.em_space.specs.declared.fault.EmFault.{EmFault}
use Rattle.em_space.specs.declared.queue.Queue.{Ghosts as QueueGhosts}
use Rattle.em_space.proofs.Lists.{distinct_apart}
use Rattle.em_chain.specs.Chain.{chain_blocks, chain_items}
use Rattle.em_chain.specs.declared.chain.Chain.{Chain}
use Rattle.em_queued.specs.Room.{FullBeside}
use Rattle.em_sorting.specs.Sorts.{IsSorted}
use Rattle.em_queued.proofs.Room.{full_wider}
use Rattle.em_tree_cost.specs.Shares.{stab_room}
use Rattle.em_segment.specs.Finishes.{AnswersStabs, CanFinish, StabsCost, StopsStabs}
use Rattle.em_segment.specs.Stabs.{HasCommands, stab_account, stab_size}
use Rattle.em_segment.specs.declared.stab.Stab.{Stab}
use Rattle.em_segment.proofs.StabNumbers.{StabWithin}
use Rattle.em_segment.proofs.StabStands.{StabHalts, StabStands}

-- The queue's frames are out between two steps,
pub stands_out : {Q : Type 0} (q : QueueGhosts Q) (x y : Q) {s t : RigState} {v : Stab}
    {p m n l b : ℕ} {js : List ℕ} → CanFinish q x s v → AreOut (q.counts x) s.pool
    → StabStands q x y s t v p m n l js b → AreOut (q.counts y) t.pool
stands_out q x y can o h = record {
  singles =
      let e = ap singles_of h.frames.shape in
      omega (arith, e, can.out, h.frames.free, h.frames_are);
  areas = omega (arith, o.areas, h.frames.free_areas, h.areas_are);
}

-- its blocks are none of the lists',
pub stands_apart : {Q : Type 0} (q : QueueGhosts Q) (x y : Q) {s t : RigState} {v : Stab}
    {p m n l b : ℕ} {js : List ℕ} → StabStands q x y s t v p m n l js b → IsTrue t.device.told
    → Apart (q.blocks y t) js
stands_apart q x y {t = t} {js = js} h z = distinct_apart (q.blocks y t) js
    ((h.session.holds (sym h.session.touches.told ∙ z)).distinct z)

-- and it may be called.
pub stands_serve : {Q : Type 0} (q : QueueGhosts Q) (x y : Q) {s t : RigState} {v : Stab}
    {p m n l b : ℕ} {js : List ℕ} → CanServe s.pool → StabStands q x y s t v p m n l js b
    → CanServe t.pool
stands_serve q x y f h = record {
  singles = let e = ap fan_of h.frames.shape in omega (arith, e, f.singles, h.frames.free);
  areas = omega (arith, f.areas, h.frames.free_areas);
  rack = h.frames.rack ∙ f.rack;
}

-- All stabs were answered,
pub stands_answers : {Q : Type 0} (q : QueueGhosts Q) (x y w : Q) {s n t : RigState} {v : Stab}
    {c e : Chain} {p m i l : ℕ} → StabStands q x w s t v p m i l (chain_blocks t e) e.blocks
    → IsSorted q y w c e n t → n.device.told ≡ s.device.told
    → (IsTrue s.device.told → (cs : List Command) → HasCommands s v cs → chain_items t e ≡ stab_pairs cs)
    → AnswersStabs q x w s t v e
stands_answers q x y w h g told answers = record {
  chain = g.is;
  packed = λ z. g.packed (told ∙ z);
  answers = answers;
  empty = g.empty;
  session = h.session;
  frames = h.frames;
  frames_are = h.frames_are;
  areas_are = h.areas_are;
  used = h.used;
  pays = h.pays;
}

-- or a step was refused.
pub halts_stops : {Q : Type 0} (q : QueueGhosts Q) (x y : Q) {s t : RigState} {v : Stab}
    {p m n l : ℕ} {fault : EmFault} → StabHalts q x y s t v p m n l fault → StopsStabs q x y s t v fault
halts_stops q x y h = record {
  sound = h.sound;
  touches = h.touches;
  frames = h.frames;
  pays = h.pays;
  cause = h.cause;
}

-- What both cost.
pub stands_costs : {Q : Type 0} (q : QueueGhosts Q) (x y : Q) {s t : RigState} {v : Stab}
    (cs : List Command) {p m n l b : ℕ} {js : List ℕ} → StabStands q x y s t v p m n l js b
    → StabWithin s v cs p m n l → StabsCost q x y s t v cs
stands_costs q x y cs h w = record {
  calls = omega (arith, h.n, w.calls_most);
  most_calls = omega (arith, h.k, w.longest_most);
  own = omega (arith, h.moves, w.moved_most);
  most = omega (arith, h.most, w.peak_most);
}

pub halts_costs : {Q : Type 0} (q : QueueGhosts Q) (x y : Q) {s t : RigState} {v : Stab}
    (cs : List Command) {p m n l : ℕ} {fault : EmFault} → StabHalts q x y s t v p m n l fault
    → StabWithin s v cs p m n l → StabsCost q x y s t v cs
halts_costs q x y cs h w = record {
  calls = omega (arith, h.n, w.calls_most);
  most_calls = omega (arith, h.k, w.longest_most);
  own = omega (arith, h.moves, w.moved_most);
  most = omega (arith, h.most, w.peak_most);
}

pub halts_full : {Q : Type 0} (q : QueueGhosts Q) (x y : Q) {s t : RigState} {v : Stab}
    (cs : List Command) {p m n l : ℕ} {fault : EmFault} → StabHalts q x y s t v p m n l fault
    → StabWithin s v cs p m n l
    → FullBeside q.room (stab_account v).blocks (stab_room s.pool.shape (stab_size v cs)) (q.counts x)
    (q.counts y).k s fault
halts_full q x y cs h w = full_wider (let z = w.peak_most in omega (arith, z)) h.full
