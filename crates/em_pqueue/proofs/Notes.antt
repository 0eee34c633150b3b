-- The most blocks that a queue held are counted after a part of a call.
use Rattle.std.specs.Prelude.{◌≡◌, ◌⊎◌, ℕ, ◌+◌, ◌-◌, ◌<◌, ◌≤◌, max, IsTrue}
use Rattle.std.proofs.Common.{arith, subst, sym, ⊎_elim}
use Rattle.em_space.specs.Rig.{RigState}
use Rattle.em_tree_cost.specs.Shares.{tree_room}
use Rattle.em_tree_cost.proofs.Rising.{tree_room_rises}
use Rattle.em_pqueue.specs.ExtQueue.{IsExtQueue, queue_blocks}
use Rattle.em_pqueue.specs.Room.{QueueHolds}
use Rattle.em_pqueue.specs.Steps.{Notes}
use Rattle.em_pqueue.specs.declared.queue.ExtQueue.{ExtQueue}
use Rattle.em_pqueue.proofs.Refills.{less_or}

-- This number is what a queue held at most, after calls since a state.
pub record NotedBy (s t : RigState) (q : ExtQueue) (k : ℕ) : Type 0 where
  pub more : q.most ≤ k
  pub most : t.most + q.blocks ≤ max (s.most + q.blocks) (s.used + k)
  pub fits : IsTrue s.device.told → k ≤ tree_room s.pool.shape (max q.longest (q.since + 1))

pub noted_by : (s t : RigState) (q m z : ExtQueue) → IsExtQueue s q → s.most ≤ t.most
    → m.most ≡ q.most → m.blocks ≡ q.blocks
    → (IsTrue s.device.told → QueueHolds (max q.longest (q.since + 1)) (queue_blocks s q) s t)
    → Notes s.used s.most t m z → NotedBy s t q z.most
noted_by s t q m z i later same blocks room n =
    let k : ℕ = max q.longest (q.since + 1) in
    let old = λ (told : IsTrue s.device.told). i.counts.fits told in
    let within = n.within in
    let rises : tree_room s.pool.shape q.longest ≤ tree_room s.pool.shape k =
    tree_room_rises s.pool.shape q.longest k (omega arith) in
    ⊎_elim
    (λ (r : s.most < t.most). let e = n.risen r in let a : NotedBy s t q z.most = record {
      more = omega (arith, e, same);
      most = omega (arith, e, blocks, within, r);
      fits = λ told.
          let h = (room told).most in
          let f = old told in
          let b = i.counts.blocks told in
          omega (arith, e, same, blocks, within, r, h, f, b, rises);
    } in a)
    (λ (r : s.most ≡ t.most). let e = n.kept (sym r) in let a : NotedBy s t q z.most = record {
      more = omega (arith, e, same);
      most = omega (arith, r);
      fits = λ told. let f = old told in omega (arith, e, same, f, rises);
    } in a)
    (less_or s.most t.most later)

-- the same numbers by other names
pub notes_as : {u v m n : ℕ} (t : RigState) (q w : ExtQueue) → u ≡ v → m ≡ n → Notes u m t q w
    → Notes v n t q w
notes_as {u} {v} {m} {n} t q w a b h =
    let P : ℕ → Type 0 = λ x. Notes x n t q w in
    let Q : ℕ → Type 0 = λ y. Notes u y t q w in subst P a (subst Q b h)
