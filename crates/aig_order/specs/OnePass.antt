-- What one pass over the list of a circuit does, by a queue or by bits.
use Rattle.std.specs.Prelude.{◌≡◌, ℕ, suc, ◌+◌, ◌*◌, ◌^◌, ◌<◌, ◌≤◌, ◌++◌, length, IsTrue, Result, Ok, Err}
use Rattle.em_space.specs.Rig.{RigState}
use Rattle.em_space.specs.declared.fault.EmFault.{EmFault}
use Rattle.em_space.specs.declared.queue.Queue.{Ghosts as QueueGhosts}
use Rattle.em_chain.specs.Chain.{IsChain, chain_blocks, chain_items, payload_in}
use Rattle.em_chain.specs.Counts.{ceiling}
use Rattle.em_chain.specs.declared.chain.Chain.{Chain}
use Rattle.em_queued.specs.Queued.{RunsBeside, StopsBeside}
use Rattle.aig_defs.specs.declared.circuit.Header.{Header}
use Rattle.aig_defs.specs.Circuit.{Circuit, IsCircuit}
use Rattle.aig_defs.specs.Faults.{IsDefined}
use Rattle.aig_defs.specs.Ranks.{first_gate_rank}
use Rattle.aig_edges.specs.Accounts.{stored_account}
use Rattle.aig_order.specs.declared.passing.Swept.{Swept}
use Rattle.aig_order.specs.declared.standing.Sweep.TheVariants.{Recall, Find}
use Rattle.aig_order.specs.ByPass.{found}
use Rattle.aig_order.specs.Findings.{finding_limits}
use Rattle.aig_order.specs.PassLists.{list_after}
use Rattle.aig_order.specs.Passes.{BothFit, CanSweepTwice, sweeping_moves}

-- What a pass wants: what its sweeps do, over a list that may be written anew.
pub record CanPass {Q : Type 0} (q : QueueGhosts Q) (h : Header) (next : ℕ) (x : Q) (s : RigState)
    (c : Chain) : Type 0 where
  pub sweeps : CanSweepTwice q h Recall Find next x s c
  pub few : c.count < 2 ^ 44

-- its sweeps by the queue are within its limits
abbrev pub PassFits : Header → RigState → Chain → Type 0
PassFits h s c = IsTrue s.device.told
    → BothFit Recall Find (chain_items s c) (finding_limits h c)

-- The list is that of this circuit after n passes, and this is the next rank.
pub record IsListAfter (s : RigState) (h : Header) (list : Chain) (n next : ℕ) (c : Circuit) : Type 0
  where
    pub is : IsCircuit c
    pub defined : IsDefined c
    pub header : c.header ≡ h
    pub items : chain_items s list ≡ list_after c n
    pub next_is : next ≡ first_gate_rank c + length (found c n)

-- A pass was made: a list as long, which is that after one pass more. At most 4 calls of the queue came for each
-- gate, and none was refused. The queue has no item.
pub record MakesPass {Q : Type 0} (q : QueueGhosts Q) (h : Header) (next : ℕ) (x y : Q) (c : Chain)
    (d : Swept) (s t : RigState) : Type 0 where
  pub is : IsChain t d.list
  pub count_is : d.list.count ≡ c.count
  pub blocks_is : d.list.blocks ≡ ceiling c.count (payload_in s)
  pub finds : IsTrue s.device.told → (n : ℕ) (circuit : Circuit) → IsListAfter s h c n next circuit
      → IsListAfter t h d.list (suc n) d.next circuit
  pub empty : (q.counts y).len ≡ 0
  pub rests : (q.counts y).since ≤ (q.counts x).since
  pub runs : RunsBeside (4 * h.gates) (c.blocks + d.list.blocks) (q.blocks x s ++ chain_blocks s c)
      (q.blocks y t ++ chain_blocks t d.list)
      (stored_account c.blocks (sweeping_moves c.blocks d.list.blocks))
      (stored_account d.list.blocks 0) (q.counts x) (q.counts y) s t

-- what a pass did, by the result
abbrev pub PassTo : {Q : Type 0} → QueueGhosts Q → Header → ℕ → Q → Q → Chain → RigState → RigState
    → Result Swept EmFault → Type 0
PassTo q h next x y c s t (Ok d) = MakesPass q h next x y c d s t
PassTo q h next x y c s t (Err fault) =
    StopsBeside q.room (4 * h.gates) (c.blocks + ceiling c.count (payload_in s)) 0 1
    (q.blocks x s ++ chain_blocks s c)
    (stored_account c.blocks (sweeping_moves c.blocks (ceiling c.count (payload_in s)))) (q.counts x)
    (q.counts y) s t fault
