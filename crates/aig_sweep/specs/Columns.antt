-- What `columns` does: the columns in each lane, of a circuit without latches.
use Rattle.std.specs.Prelude.{◌≡◌, ℕ, ◌+◌, ◌*◌, ◌++◌, max, Result, Ok, Err}
use Rattle.em_space.specs.Rig.{RigState}
use Rattle.em_space.specs.declared.fault.EmFault.{EmFault}
use Rattle.em_chain.specs.Chain.{IsChain, chain_blocks, payload_in}
use Rattle.em_chain.specs.Counts.{ceiling}
use Rattle.em_chain.specs.Session.{chain_account}
use Rattle.em_chain.specs.declared.chain.Chain.{Chain}
use Rattle.em_queued.specs.Queued.{RunsBeside, StopsBeside}
use Rattle.aig_defs.specs.Circuit.{columns}
use Rattle.aig_defs.specs.declared.circuit.Header.{Header}
use Rattle.aig_edges.specs.Graph.{edge_count}
use Rattle.aig_sweep.specs.Evaluates.{bits_account}
use Rattle.aig_sweep.specs.QueueState.{QueueState}

-- the blocks of a list of a word for each column
abbrev pub column_room : Header → RigState → ℕ
column_room h s = ceiling (columns h) (payload_in s)

-- The inputs' words were taken, and the columns' words are a new list. Both lists are never there at once.
pub record GivesColumns (h : Header) (given gates bits : Chain) (q p : QueueState) (list : Chain)
    : Type 0 where
  pub runs : RunsBeside (2 * edge_count h) (max bits.blocks list.blocks)
      (q.blocks ++ chain_blocks q.rig bits) (p.blocks ++ chain_blocks p.rig list)
      (bits_account given gates bits) (chain_account 1 list) q.counts p.counts q.rig p.rig
  pub is : IsChain p.rig list
  pub count_is : list.count ≡ columns h
  pub blocks_is : list.blocks ≡ column_room h q.rig
  pub none : p.counts.len ≡ 0

abbrev pub ColumnsTo : Header → Chain → Chain → Chain → QueueState → QueueState
    → Result Chain EmFault → Type 0
ColumnsTo h given gates bits q p (Ok list) = GivesColumns h given gates bits q p list
ColumnsTo h given gates bits q p (Err fault) =
    StopsBeside p.room (2 * edge_count h) (max bits.blocks (column_room h q.rig))
    (2 * column_room h q.rig + 1) 1 (q.blocks ++ chain_blocks q.rig bits)
    (bits_account given gates bits) q.counts p.counts q.rig p.rig fault
