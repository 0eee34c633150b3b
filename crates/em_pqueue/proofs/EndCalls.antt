-- The end of a queue: what it leaves, by its result.
use Rattle.std.specs.Prelude.{Err, IfErr, IsErrAnd, IsTrue, Ok, OnErr, OnOk, Result, Some, length, ◌+◌, ◌≡◌, ◌≤◌}
use Rattle.std.proofs.Common.{arith, sym, subst, ◌∙◌}
use Rattle.em_settle.specs.Bag.{bag_key_of, bag_step_of}
use Rattle.em_space.specs.Queue.{Ended, Ends, LacksBlocks, Pays}
use Rattle.em_space.specs.Rig.{BlockCause, Cause, Goes, IfFull, RigState}
use Rattle.em_space.specs.declared.fault.EmFault.{EmFault}
use Rattle.em_space.specs.declared.fault.EmFault.TheVariants.{Damaged}
use Rattle.em_space.proofs.Paying.{pays_more}
use Rattle.em_space.proofs.Steps.{untold_by}
use Rattle.em_chain.specs.Chain.{chain_blocks}
use Rattle.em_chain.specs.Row.{Frees}
use Rattle.em_chain.specs.declared.chain.Chain.{Chain}
use Rattle.em_tree_cost.specs.Shares.{queue_share, tree_room}
use Rattle.em_tree.specs.Calls.{FinishCosts, FinishedTrunk, StopsFinishing}
use Rattle.em_pqueue.specs.ExtQueue.{IsExtQueue, any_blocks, counts_of, queue_blocks, trunk_of}
use Rattle.em_pqueue.specs.declared.queue.ExtQueue.{ExtQueue}
use Rattle.em_pqueue.proofs.Endings.{GaveArea, ended, ended_cause, ended_pays, ended_unused, ended_used, left_holds, left_over, left_used, none_answered, unfinished, unfinished_cause, unfinished_pays, unfinished_unused}
use Rattle.em_pqueue.proofs.Serves.{full_by}
use Rattle.em_pqueue.proofs.Working.{block_full, of_err}
use Rattle.em_pqueue.specs.Room.{QueueHolds, QueueOver}
use Rattle.em_trunk.specs.Room.{FullOverRoom, WithinRoom}

-- The clauses of `end`.
pub record EndLeaves (s u : RigState) (q : ExtQueue) (r : Result (Unit {0}) EmFault) : Type 0 where
  pub ends : Ends (Some queue_share) (Some tree_room) (queue_blocks s q) (counts_of q) s u
  pub ended : OnOk r (Ended (counts_of q) s u)
  pub owes : OnErr r (Pays (counts_of q).unstored s.pool.shape.frames s u)
  pub full : IfErr r (λ fault. IfFull fault
      (LacksBlocks any_blocks (Some tree_room) (counts_of q) (counts_of q).k s))
  pub unused : IsTrue s.device.told → q.tree.trunk.longest ≡ 0 → u.moves ≤ s.moves + 4
  pub cause : IfErr r (Cause s u)
  pub room : IsTrue s.device.told → QueueHolds q.longest (queue_blocks s q) s u
  pub over : IfErr r (λ fault. IsTrue s.device.told → QueueOver q.longest (queue_blocks s q) s fault)

-- A part of it gave up.
end_stops : (s u : RigState) (q : ExtQueue) (f : EmFault)
    → Ends (Some queue_share) (Some tree_room) (queue_blocks s q) (counts_of q) s u
    → Pays (counts_of q).unstored s.pool.shape.frames s u
    → (IsTrue s.device.told → q.tree.trunk.longest ≡ 0 → u.moves ≤ s.moves + 4) → Cause s u f
    → (IsTrue s.device.told → q.blocks ≡ length (queue_blocks s q))
    → (IsTrue s.device.told → QueueHolds q.longest (queue_blocks s q) s u)
    → (IsTrue s.device.told → QueueOver q.longest (queue_blocks s q) s f) → EndLeaves s u q (Err f)
end_stops s u q f ends pays unused cause blocks room over = record {
  ends = ends;
  ended = tt;
  owes = pays;
  full = full_by s u (counts_of q) (counts_of q).k (queue_blocks s q) f ends.sound ends.touches.blocks cause
      blocks over;
  unused = unused;
  cause = cause;
  room = room;
  over = over;
}

module _ (s a : RigState) (q : ExtQueue) (i : IsExtQueue s q) (g : GaveArea s a) (t : RigState)
    (within : IsTrue a.device.told → WithinRoom q.tree.trunk.longest a t (trunk_of q)) where
  -- The tree wasn't finished.
  pub end_unfinished : (f : EmFault) → StopsFinishing a t (trunk_of q) f
      → FinishCosts a t (trunk_of q)
      → (IsTrue a.device.told → FullOverRoom q.tree.trunk.longest a (trunk_of q) f)
      → (r : Result (Unit {0}) EmFault) → IsErrAnd r (λ e. e ≡ f) → EndLeaves s t q r
  end_unfinished f h costs over r x =
      of_err (EndLeaves s t q) r f x (end_stops s t q f (unfinished s a q i g t f h costs
      (λ told. left_holds s a q i g told (within (g.touches.told ∙ told))))
      (unfinished_pays s a q i g t f h costs) (unfinished_unused s a q i g t f h costs)
      (unfinished_cause s a q i g t f h costs) i.counts.blocks (λ told. left_holds s a q i g told (within (g.touches.told ∙ told)))
      (λ told. left_over s a q i g told (over (g.touches.told ∙ told))))

  -- It was, and the list of its answers was to be discarded.
  module _ (u : RigState) (c : Chain) (h : FinishedTrunk bag_key_of bag_step_of a t (trunk_of q) c)
      (costs : FinishCosts a t (trunk_of q)) (gone : Goes (chain_blocks t c) t u) where
    discarded : {r : Result (Unit {0}) EmFault} → Frees c.blocks t u r → IsTrue s.device.told
        → QueueHolds q.longest (queue_blocks s q) s u
    discarded frees told =
        let h = (left_holds s a q i g told (within (g.touches.told ∙ told))).most in
        let e = frees.most in
        record { most = omega (arith, h, e) }

    pub end_kept : (f : EmFault) → Frees {T = Unit {0}} c.blocks t u (Err f) → BlockCause t u f
        → (r : Result (Unit {0}) EmFault) → IsErrAnd r (λ e. e ≡ f) → EndLeaves s u q r
    end_kept f frees cause r x =
        of_err (EndLeaves s u q) r f x (end_stops s u q f
        (ended s a q i g t u c h costs gone frees (discarded frees))
        (pays_more (ended_pays s a q i g t u c h costs gone frees) (omega arith))
        (ended_unused s a q i g t u c h costs gone frees)
        (ended_cause s a q i g t u c h costs gone frees f cause) i.counts.blocks (discarded frees)
        (λ told. record { full = block_full _ t u f cause }))

    -- Its blocks weren't as many as it said: the device doesn't tell.
    pub end_wrong : (f : EmFault) → Frees {T = Unit {0}} c.blocks t u (Ok tt) → f ≡ Damaged q.tree.trunk.root
        → (u.used + q.blocks ≡ s.used → ⊥) → EndLeaves s u q (Err f)
    end_wrong f frees is wrong =
        let ends = ended s a q i g t u c h costs gone frees (discarded frees) in
        let C : EmFault → Type 0 = λ e. Cause s u e in
        let never : IsTrue s.device.told → ⊥ = λ told.
        (let z = none_answered s a q i g t u c h costs gone frees told in
        let n = frees.used in
        wrong (left_used s a q i g t u c h costs gone frees told (omega (arith, z, n)))) in
        let below = i.stands.tree.running.numbers.root_below in
        end_stops s u q f ends
        (pays_more (ended_pays s a q i g t u c h costs gone frees) (omega arith))
        (ended_unused s a q i g t u c h costs gone frees)
        (subst C (sym is) (
          untold_by u.device.told (λ told. never (sym ends.touches.told ∙ told)),
          omega (arith, below, ends.touches.blocks),
        )) i.counts.blocks (discarded frees) (λ told. absurd (never told))

    -- All its blocks are gone.
    pub end_ok : Frees {T = Unit {0}} c.blocks t u (Ok tt) → u.used + q.blocks ≡ s.used
        → EndLeaves s u q (Ok tt)
    end_ok frees e = record {
      ends = ended s a q i g t u c h costs gone frees (discarded frees);
      ended = ended_used s a q i g t u c h costs gone frees e;
      owes = tt;
      full = tt;
      unused = ended_unused s a q i g t u c h costs gone frees;
      cause = tt;
      room = discarded frees;
      over = tt;
    }
