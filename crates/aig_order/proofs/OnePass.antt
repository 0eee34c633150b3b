-- One pass over the list of a circuit, by a queue or by bits.
use Rattle.std.proofs.Common.{◌≡◌, ℕ, suc, ◌≤◌, List, [], ◌∷◌, ◌++◌, length, IsTrue, Result, Ok, Err, ap, ap₂, refl, sym, ◌∙◌, arith}
use Rattle.em_record.specs.declared.record.Record.{Record}
use Rattle.em_space.specs.Held.{Apart}
use Rattle.em_space.specs.Rig.{RigState, Goes}
use Rattle.em_space.specs.declared.fault.EmFault.{EmFault}
use Rattle.em_space.specs.declared.queue.Queue.{Ghosts as QueueGhosts}
use Rattle.em_space.proofs.Lists.{distinct_apart}
use Rattle.em_space.proofs.Runs.{runs_goes}
use Rattle.em_chain.specs.Chain.{chain_blocks, chain_items, payload_in}
use Rattle.em_chain.specs.Counts.{ceiling}
use Rattle.em_chain.specs.declared.chain.Chain.{Chain}
use Rattle.em_queued.specs.Room.{FitsRoom}
use Rattle.em_queued.proofs.Queued.{beside_as, beside_wider, others_beside, others_stop, stops_wider}
use Rattle.aig_defs.specs.declared.circuit.Header.{Header}
use Rattle.aig_defs.specs.Circuit.{Circuit, IsCircuit}
use Rattle.aig_defs.specs.Faults.{IsDefined}
use Rattle.aig_edges.specs.Copies.{CanWriteAnew}
use Rattle.aig_edges.proofs.Besides.{holds_last}
use Rattle.aig_order.specs.declared.passing.Swept.{Swept}
use Rattle.aig_order.specs.declared.standing.Sweep.TheVariants.{Recall, Find}
use Rattle.aig_order.specs.Findings.{finding_limits}
use Rattle.aig_order.specs.Marks.{after_marks}
use Rattle.aig_order.specs.OnePass.{CanPass, PassTo}
use Rattle.aig_order.specs.PassLists.{known, list_after}
use Rattle.aig_order.specs.Passes.{SweepsTwice, after_both, restarted}
use Rattle.aig_order.specs.Rewrites.{MarksTo}
use Rattle.aig_order.specs.SweepCalls.{sweep_written}
use Rattle.aig_order.specs.Sweeps.{Moment, meet_all}
use Rattle.aig_order.proofs.Finding.{last_variable, moment, stand}
use Rattle.aig_order.proofs.ListBounds.{next_few}
use Rattle.aig_order.proofs.MarkedPass.{marks_is}
use Rattle.aig_order.proofs.PassLists.{next_after, pass_finds, pass_recalls}

-- Both sweeps of a pass take the list after n passes to that after one more.
pub pass_is : (h : Header) (c : Circuit) (n : ℕ) → c.header ≡ h → IsCircuit c → IsDefined c
    → after_both h Recall Find (next_after c n) (list_after c n)
    ≡ moment [] (stand (known c (suc n)) (last_variable 0 (list_after c n)) (next_after c (suc n)))
    (list_after c (suc n))
pass_is h c n header is defined =
    let rs = list_after c n in
    let next = next_after c n in
    let few = next_few c (suc n) is in
    ap (λ (d : Header). after_both d Recall Find next rs) (sym header)
    ∙ ap (λ (m : Moment). meet_all c.header Find (length rs) rs (restarted next m))
    (pass_recalls c n next is defined.twice defined.undefined)
    ∙ pass_finds c n (length rs) is defined.twice defined.undefined (omega (arith, few))

-- What the first sweep writes, and the second.
pub recall_none : (rs : List Record) → sweep_written Recall rs ≡ 0
recall_none [] = refl
recall_none (r ∷ rs) = let e = recall_none rs in omega (arith, e)

pub find_each : (rs : List Record) → sweep_written Find rs ≡ length rs
find_each [] = refl
find_each (r ∷ rs) = let e = find_each rs in omega (arith, e)

-- A pass by the queue,
pub queue_pass : {Q : Type 0} (q : QueueGhosts Q) (h : Header) (next : ℕ) (x y : Q) (c : Chain)
    (s t : RigState) (result : Result Swept EmFault)
    → SweepsTwice q h Recall Find next (finding_limits h c) x y c s t result
    → PassTo q h next x y c s t result
queue_pass q h next x y c s t (Ok d) g =
    let none = recall_none g.earlier in
    let each = find_each g.later in
    let most = g.calls_most in
    let count : d.list.count ≡ c.count = omega (arith, g.count_is, none, each, g.later_len) in
    record {
      is = g.is;
      count_is = count;
      blocks_is = g.blocks_is ∙ ap (λ (i : ℕ). ceiling i (payload_in s)) count;
      finds = λ z n k a.
          let after : after_both h Recall Find next (chain_items s c)
          ≡ moment [] (stand (known k (suc n)) (last_variable 0 (list_after k n))
          (next_after k (suc n))) (list_after k (suc n)) =
          ap₂ (λ (i : ℕ) (rs : List Record). after_both h Recall Find i rs) a.next_is a.items
          ∙ pass_is h k n a.header a.is a.defined in
          record {
            is = a.is;
            defined = a.defined;
            header = a.header;
            items = g.items z ∙ ap (λ (m : Moment). m.written) after;
            next_is = g.next_is z ∙ ap (λ (m : Moment). m.standing.next) after;
          };
      empty = g.empty;
      rests = g.rests;
      runs = beside_wider (omega (arith, most)) (omega arith) g.runs;
    }
queue_pass q h next x y c s t (Err fault) g = g

-- and what one by bits wants, and leaves: the queue stays.
pub bits_can : {Q : Type 0} (q : QueueGhosts Q) (h : Header) (next : ℕ) (x : Q) {s : RigState}
    (c : Chain) → CanPass q h next x s c → CanWriteAnew s c
bits_can q h next x {s} c can = record {
  sound = can.sweeps.sound;
  free = let f = can.sweeps.free.singles in omega (arith, f);
  chain = can.sweeps.chain;
  few = can.few;
  holds = λ z. holds_last (q.blocks x s) (chain_blocks s c) (can.sweeps.holds z);
}

pub bits_goes : {s t : RigState} (last next : ℕ) (c : Chain) (result : Result Swept EmFault)
    → MarksTo last next s t c result → Goes (chain_blocks s c) s t
bits_goes last next c (Ok d) h = runs_goes h.runs
bits_goes last next c (Err fault) h = h.goes

pub bits_apart : {Q : Type 0} (q : QueueGhosts Q) (h : Header) (next : ℕ) (x : Q) {s : RigState}
    (c : Chain) → CanPass q h next x s c → IsTrue s.device.told
    → Apart (q.blocks x s) (chain_blocks s c)
bits_apart q h next x {s} c can z =
    distinct_apart (q.blocks x s) (chain_blocks s c) ((can.sweeps.holds z).distinct z)

pub bits_pass : {Q : Type 0} (q : QueueGhosts Q) (h : Header) (next : ℕ) (x : Q) (c : Chain)
    {s t : RigState} (result : Result Swept EmFault) → CanPass q h next x s c
    → (q.counts x).blocks ≤ (q.counts x).most → (q.counts x).unstored ≤ s.pool.shape.frames
    → FitsRoom q.room (q.counts x) s → (IsTrue s.device.told → q.blocks x t ≡ q.blocks x s)
    → MarksTo h.max next s t c result → PassTo q h next x x c s t result
bits_pass q h next x c {s} {t} (Ok d) can most unstored fits stays g = record {
  is = g.is;
  count_is = g.count_is;
  blocks_is = g.blocks_is;
  finds = λ z n k a.
      let after : after_marks h.max next (chain_items s c)
      ≡ after_marks k.header.max (next_after k n) (list_after k n) =
      ap₂ (λ (i : ℕ) (rs : List Record). after_marks h.max i rs) a.next_is a.items
      ∙ ap (λ (i : Header). after_marks i.max (next_after k n) (list_after k n)) (sym a.header) in
      let whole = after ∙ marks_is k n a.is a.defined in
      record {
        is = a.is;
        defined = a.defined;
        header = a.header;
        items = g.items z ∙ ap (λ (m : Moment). m.written) whole;
        next_is = g.next_is z ∙ ap (λ (m : Moment). m.standing.next) whole;
      };
  empty = can.sweeps.empty;
  rests = omega arith;
  runs = beside_wider (omega arith) (omega arith)
      (beside_as (q.blocks x t ++ chain_blocks t d.list)
      (others_beside (q.blocks x s) (q.counts x) g.runs most can.sweeps.holds)
      (λ z. ap (λ (ks : List ℕ). ks ++ chain_blocks t d.list) (stays z)));
}
bits_pass q h next x c {s} (Err fault) can most unstored fits stays g =
    stops_wider (omega arith) (omega arith) (omega arith) (omega arith)
    (others_stop (q.blocks x s) (q.counts x) g most unstored fits)
