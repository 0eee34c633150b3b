-- A queue that is made for a run, and given up after it.
use Rattle.std.proofs.Common.{◌≡◌, ◌+◌, ◌-◌, ◌≤◌, ◌^◌, [], arith, inl, inr, ⊎_elim}
use Rattle.em_space.specs.Rig.{RigState, Goes}
use Rattle.em_space.specs.declared.queue.Queue.{Ghosts as QueueGhosts}
use Rattle.em_space.proofs.Within.{touches_within}
use Rattle.em_ready.specs.Queues.{MakesQueue}
use Rattle.em_ready.proofs.Queues.{frames_back}
use Rattle.em_answers.specs.Serve.{GivesUp, IsAlone}

-- A new queue is alone on a rig of which no block is or was in use, and that moved none.
pub alone_new : {Q : Type 0} {queue : QueueGhosts Q} {s t : RigState} {q : Q}
    → MakesQueue queue s t q → t.most ≤ (queue.counts q).most → s.used ≡ 0 → s.moves ≡ 0
    → IsAlone t (queue.counts q)
alone_new {queue = queue} {s = s} {t = t} {q = q} m most none still = record {
  used = omega (arith, m.used, none);
  most = most;
  paid = ⊎_elim
      (λ (h : 2 ^ 64 - 1 ≤ t.moves). inl h)
      (λ (h : t.used + s.moves + 0 ≤ s.used + t.moves + (queue.counts q).unstored).
      inr (omega (arith, h, none, still)))
      m.pays.is;
  moved = omega (arith, m.spent, still);
}

-- A queue that was made and given up leaves as many frames free as before.
pub goes_given_up : {Q : Type 0} {queue : QueueGhosts Q} {s t u : RigState} {q : Q}
    → MakesQueue queue s t q → GivesUp queue q t u → Goes [] s u
goes_given_up {queue = queue} {s = s} {t = t} {u = u} {q = q} m x = record {
  sound = x.sound;
  touches = touches_within s t u [] (queue.blocks q t) m.session.touches m.session.within x.touches;
  frames = frames_back (queue.counts q) s.pool t.pool u.pool m.frames x.frames;
}
