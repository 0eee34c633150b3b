-- The edges between ranks of a list, by two sweeps and by sorting what they write.
use Rattle.std.proofs.Common.{◌≡◌, ◌≢◌, ◌+◌, ◌*◌, ◌≤◌, List, [], ◌++◌, ℕ, IsTrue, Result, Ok, Err, ap, ap₂, refl, sym, ◌∙◌, subst, arith}
use Rattle.em_record.specs.Shape.{fan_of}
use Rattle.em_record.specs.Order.{in_order}
use Rattle.em_frames.specs.Pool.{PoolCounts}
use Rattle.em_space.specs.Ledger.{Account}
use Rattle.em_space.specs.Queue.{QueueCounts}
use Rattle.em_space.specs.Rig.{RigState}
use Rattle.em_space.specs.declared.fault.EmFault.{EmFault}
use Rattle.em_space.specs.declared.fault.EmFault.TheVariants.{Damaged}
use Rattle.em_space.specs.declared.queue.Queue.{Ghosts as QueueGhosts}
use Rattle.em_space.proofs.Steps.{untold_by}
use Rattle.em_chain.specs.Chain.{chain_blocks, chain_items, payload_in}
use Rattle.em_chain.specs.Counts.{ceiling}
use Rattle.em_chain.specs.declared.chain.Chain.{Chain}
use Rattle.em_chain.proofs.Keeps.{payload_kept}
use Rattle.em_queued.specs.Queued.{Called, RunsBeside}
use Rattle.em_queued.proofs.Queued.{beside_then, beside_wider, called_none, stops_then, stops_wider}
use Rattle.aig_defs.specs.declared.circuit.Header.{Header}
use Rattle.aig_defs.specs.Graph.{AllLack}
use Rattle.aig_edges.specs.BuildGraph.{CalledInRuns}
use Rattle.aig_edges.specs.Pushes.{CanServeBeside}
use Rattle.aig_edges.specs.Accounts.{stored_account}
use Rattle.aig_edges.specs.Sorts.{CanSort, IsSorted, SortsTo, sorting_moves}
use Rattle.aig_edges.specs.declared.sorting.Sorted.TheVariants.{Themselves}
use Rattle.aig_edges.proofs.Besides.{beside_by}
use Rattle.aig_edges.proofs.Sorts.{gates_as_they_are}
use Rattle.aig_edges.proofs.Stands.{runs_wider, runs_within}
use Rattle.aig_order.specs.declared.passing.Swept.{Swept}
use Rattle.aig_order.specs.declared.standing.Sweep.TheVariants.{Send, Rank}
use Rattle.aig_order.specs.Passes.{CanRank, RanksList, RanksTo, StopsRanking, SweepsBoth, SweepsTwice, ranking_limits, ranking_moves}
use Rattle.aig_order.specs.SweepCalls.{sweep_written}
use Rattle.aig_order.proofs.Ended.{blocks_within, stops_by}
use Rattle.aig_order.proofs.Reading.{runs_stop}
use Rattle.aig_order.proofs.SweepCalls.{calls_few}

-- as many frames are free after calls
pub still_serves : {i p n : ℕ} {held ks : List ℕ} {a b : Account} {c d : QueueCounts}
    {s t : RigState} → RunsBeside i p held ks a b c d s t → CanServeBeside n s.pool
    → CanServeBeside n t.pool
still_serves {s = s} {t = t} h f = record {
  singles = let e = ap fan_of h.runs.frames.shape in
      omega (arith, e, h.runs.frames.free, f.singles);
  areas = omega (arith, h.runs.frames.free_areas, f.areas);
  rack = h.runs.frames.rack ∙ f.rack;
}

pub fewer_serve : {m n : ℕ} {p : PoolCounts} → m ≤ n → CanServeBeside n p → CanServeBeside m p
fewer_serve l f =
    record { singles = omega (arith, l, f.singles); areas = f.areas; rack = f.rack }

module _ {Q : Type 0} (q : QueueGhosts Q) (h : Header) (count : ℕ) (x y : Q) {s t : RigState}
    (c : Chain) (d : Swept) where
  -- what both sweeps wrote can be sorted
  pub ranks_can : CanRank q h count x s c
      → SweepsBoth q h Send Rank 0 (ranking_limits h count) x y c d s t → d.list.count ≡ count → CanSort q Themselves y t d.list
  ranks_can can w e =
      let first = calls_few Send w.earlier in
      let second = calls_few Rank w.later in
      let told = w.runs.runs.session.touches.told in
      record {
        sound = w.runs.runs.session.sound;
        empty = w.empty;
        free = fewer_serve (omega arith) (still_serves w.runs can.sweeps.free);
        most = (let most = can.most in omega (arith, most, e));
        few = (let few = can.few in
            let called = w.runs.calls_on.called.n in
            omega (arith, few, e, called, first, second, w.earlier_len, w.later_len));
        chain = w.is;
        holds = λ z. w.runs.runs.session.holds (sym told ∙ z);
        lacks = λ z.
            let old : IsTrue s.device.told = sym told ∙ z in
            subst (AllLack []) (sym (gates_as_they_are (chain_items t d.list) ∙ w.items old))
            (can.lacks old);
      }

  -- calls in two runs, between which the queue had no item
  two_runs : (n : ℕ) (e : QueueCounts) → CanRank q h count x s c
      → SweepsBoth q h Send Rank 0 (ranking_limits h count) x y c d s t → Called n (q.counts y) e
      → n ≤ 2 * count → CalledInRuns (4 * h.gates + n) (2 * count) (q.counts x) e
  two_runs n e can w more most =
      let few = w.calls_most in
      let edges = can.edges in
      let one : CalledInRuns (4 * h.gates) (2 * count) (q.counts x) (q.counts y) = record {
        n = (let k = w.runs.calls_on.called.n in omega (arith, k, few));
        k = (let k = w.runs.calls_on.called.k in omega (arith, k, few, edges));
        more = w.runs.calls_on.called.more;
      } in
      runs_within (4 * h.gates) (2 * count) n (q.counts x) (q.counts y) e most one w.rests more

  -- all of the calls,
  pub ranks_list : {z : Q} {u : RigState} (r : Chain) → CanRank q h count x s c
      → SweepsBoth q h Send Rank 0 (ranking_limits h count) x y c d s t → d.list.count ≡ count
      → IsSorted q Themselves y z d.list r t u → RanksList q h count x z c r s u
  ranks_list {z} {u} r can w e i =
      let told = w.runs.runs.session.touches.told in
      let payload = payload_kept (q.blocks x s ++ chain_blocks s c) s t w.runs.runs.session.touches in
      let room : ceiling d.list.count (payload_in t) ≡ ceiling count (payload_in s) =
      ap₂ ceiling e payload in
      let own : d.list.blocks ≡ ceiling count (payload_in s) =
      w.blocks_is ∙ ap (λ k. ceiling k (payload_in s)) e in
      let few = w.calls_most in
      record {
        is = i.is;
        packed = λ tells. i.packed (told ∙ tells);
        count_is = i.count_is ∙ e;
        blocks_is = i.blocks_is ∙ room;
        items = λ tells.
            i.items (told ∙ tells) ∙ ap in_order (gates_as_they_are (chain_items t d.list)
            ∙ w.items tells);
        in_runs =
            let k = two_runs (2 * d.list.count) (q.counts z) can w i.runs.calls_on.called
            (omega (arith, e)) in
            subst (λ m. CalledInRuns (4 * h.gates + 2 * m) (2 * count) (q.counts x) (q.counts z)) e k;
        runs = beside_wider (omega (arith, e, few)) (omega (arith, room, own))
            (beside_then
            (beside_by (stored_account c.blocks (ranking_moves c.blocks (ceiling count (payload_in s))))
            (stored_account d.list.blocks (sorting_moves t d.list)) refl refl refl refl
            (omega (arith, room, own)) w.runs)
            i.runs);
      }

  -- or the last one was refused,
  pub ranks_unsorted : {z : Q} {u : RigState} {fault : EmFault} → CanRank q h count x s c
      → SweepsBoth q h Send Rank 0 (ranking_limits h count) x y c d s t → d.list.count ≡ count
      → SortsTo q Themselves y z d.list t u (Err fault) → StopsRanking q h count x z c s u fault
  ranks_unsorted {z} {u} can w e i =
      let payload = payload_kept (q.blocks x s ++ chain_blocks s c) s t w.runs.runs.session.touches in
      let room : ceiling d.list.count (payload_in t) ≡ ceiling count (payload_in s) =
      ap₂ ceiling e payload in
      let own : d.list.blocks ≡ ceiling count (payload_in s) =
      w.blocks_is ∙ ap (λ k. ceiling k (payload_in s)) e in
      let few = w.calls_most in
      record {
        in_runs =
            let k = two_runs (2 * d.list.count) (q.counts z) can w i.called (omega (arith, e)) in
            subst (λ m. CalledInRuns (4 * h.gates + 2 * m) (2 * count) (q.counts x) (q.counts z)) e k;
        stops = stops_wider (omega (arith, e, few)) (omega (arith, room, own)) (omega arith)
            (omega arith)
            (stops_then
            (beside_by (stored_account c.blocks (ranking_moves c.blocks (ceiling count (payload_in s))))
            (stored_account d.list.blocks (sorting_moves t d.list)) refl refl refl refl
            (omega (arith, room, own)) w.runs)
            i);
      }

  -- or another number of edges came of a device that doesn't tell.
  pub ranks_damaged : CanRank q h count x s c
      → SweepsBoth q h Send Rank 0 (ranking_limits h count) x y c d s t → d.list.count ≢ count
      → (q.counts y).unstored ≤ t.pool.shape.frames → StopsRanking q h count x y c s t (Damaged 0)
  ranks_damaged can w other few =
      let told = w.runs.runs.session.touches.told in
      let shape = ap (λ (z : _). z.frames) w.runs.runs.session.touches.shape in
      let never : IsTrue s.device.told → ⊥ = λ z.
      other (w.count_is ∙ ap₂ (λ a b. sweep_written Send a + sweep_written Rank b) (w.earlier_is z)
      (w.later_is z) ∙ can.written z) in
      let low = can.sweeps.sound.shape.block_low in
      let room : d.list.blocks ≤ ceiling count (payload_in s) =
      blocks_within d.list.count count (payload_in s) (omega (arith, w.count_is, w.written_most))
      (omega (arith, low)) w.blocks_is in
      let none : Called 0 (q.counts y) (q.counts y) = called_none (q.counts y) in
      record {
        in_runs = runs_wider (omega arith) (two_runs 0 (q.counts y) can w none (omega arith));
        stops = stops_wider (let calls = w.calls_most in omega (arith, calls)) (omega (arith, room))
            (omega arith) (omega arith)
            (runs_stop (beside_by
            (stored_account c.blocks (ranking_moves c.blocks (ceiling count (payload_in s))))
            (stored_account d.list.blocks 0) refl refl refl refl (omega (arith, room)) w.runs) (
              untold_by t.device.told (λ z. never (sym told ∙ z)),
              w.runs.runs.session.sound.numbers.blocks_low,
            ) (omega (arith, few, shape)));
      }

-- No list was written.
pub ranks_unswept : {Q : Type 0} (q : QueueGhosts Q) (h : Header) (count : ℕ) (x y : Q)
    {s t : RigState} (c : Chain) {fault : EmFault} → CanRank q h count x s c
    → SweepsTwice q h Send Rank 0 (ranking_limits h count) x y c s t (Err fault)
    → StopsRanking q h count x y c s t fault
ranks_unswept q h count x y {s} {t} c can w = record {
  in_runs = record {
    n = (let k = w.called.n in omega (arith, k));
    k = (let k = w.called.k in let edges = can.edges in omega (arith, k, edges));
    more = w.called.more;
  };
  stops = stops_wider (omega arith) (omega arith) (omega arith) (omega arith)
      (stops_by (stored_account c.blocks (ranking_moves c.blocks (ceiling count (payload_in s)))) 0 refl
      refl (omega arith) w);
}

-- what sorting did, by its result
pub ranks_to : {Q : Type 0} (q : QueueGhosts Q) (h : Header) (count : ℕ) (x y z : Q)
    {s t : RigState} (u : RigState) (c : Chain) (d : Swept) (result : Result Chain EmFault)
    → CanRank q h count x s c → SweepsBoth q h Send Rank 0 (ranking_limits h count) x y c d s t
    → d.list.count ≡ count
    → SortsTo q Themselves y z d.list t u result → RanksTo q h count x z c s u result
ranks_to q h count x y z u c d (Ok r) can w e i = ranks_list q h count x y c d r can w e i
ranks_to q h count x y z u c d (Err fault) can w e i = ranks_unsorted q h count x y c d can w e i
