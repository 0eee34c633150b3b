-- A group is evaluated: its words leave the queue, and the words of its steps' columns come back.
use Rattle.std.specs.Prelude.{◌≡◌, ◌<◌, ◌≤◌, ℕ, ◌+◌, ◌*◌, ◌^◌, max, List, [], ◌++◌, length, All, IsTrue, get_or, Result, Ok, Err}
use Rattle.em_record.specs.declared.record.Record.{Record}
use Rattle.em_space.specs.Held.{Holds}
use Rattle.em_space.specs.Ledger.{Account}
use Rattle.em_space.specs.Rig.{RigState, Sound}
use Rattle.em_space.specs.declared.fault.EmFault.{EmFault}
use Rattle.em_chain.specs.Chain.{IsChain, chain_blocks, payload_in}
use Rattle.em_chain.specs.Counts.{ceiling}
use Rattle.em_chain.specs.declared.chain.Chain.{Chain}
use Rattle.em_queued.specs.Queued.{RunsBeside, StopsBeside, no_account}
use Rattle.aig_defs.specs.Circuit.{Circuit, IsHeader, columns}
use Rattle.aig_defs.specs.Ranks.{IsOrder, ordered_edges}
use Rattle.aig_defs.specs.Value.{step_of}
use Rattle.aig_defs.specs.declared.circuit.Gate.{Gate}
use Rattle.aig_defs.specs.declared.circuit.Header.{Header}
use Rattle.aig_edges.specs.Graph.{edge_count}
use Rattle.aig_sweep.specs.Columns.{column_room}
use Rattle.aig_sweep.specs.Evaluates.{CanEvaluate}
use Rattle.aig_sweep.specs.QueueState.{QueueState}
use Rattle.aig_words.specs.Lines.{AllLong, column, line_bits, rows_records, tiles}
use Rattle.aig_wide.specs.Gathers.{words_left}

-- the account of values with this many blocks, all stored, and with this many moves to come
abbrev pub owing : ℕ → ℕ → Account
owing blocks moves = record { blocks = blocks; unstored = 0; paid = 0; owed = moves }

-- the calls of the queue in a group whose lines are `len` words
abbrev pub sweep_calls : Header → ℕ → ℕ
sweep_calls h len = len + 2 * edge_count h + 64 * tiles (columns h)

-- the blocks of a list of a word for each input
abbrev pub input_room : Header → RigState → ℕ
input_room h s = ceiling h.inputs (payload_in s)

-- the moves of a group beside those of the queue: the edges are read, and both lists are written, read and
-- released
abbrev pub sweep_moves : Header → Chain → Chain → RigState → ℕ
sweep_moves h given gates s =
    4 * input_room h s + (given.blocks + gates.blocks) + 4 * column_room h s + 2

-- What evaluating a group wants.
pub record CanSweep (h : Header) (given gates : Chain) (q : QueueState) : Type 0 where
  pub sound : Sound q.rig
  pub free : CanEvaluate q.rig.pool
  pub header : IsHeader h
  pub none : h.latches ≡ 0
  pub few : q.counts.n + sweep_calls h q.counts.len < 2 ^ 100
  pub given_is : IsChain q.rig given
  pub gates_is : IsChain q.rig gates
  pub edges : given.count + gates.count ≡ edge_count h
  pub holds : IsTrue q.rig.device.told → Holds q.rig
      (q.blocks ++ (chain_blocks q.rig given ++ chain_blocks q.rig gates))

-- The words of the steps' columns stand in the queue, and the words of the lines are gone.
pub record Swept (h : Header) (lines : ℕ) (given gates : Chain) (q p : QueueState) : Type 0 where
  pub runs : RunsBeside (sweep_calls h q.counts.len) (max (input_room h q.rig) (column_room h q.rig)) q.blocks
      p.blocks (owing 0 (sweep_moves h given gates q.rig)) no_account q.counts p.counts q.rig p.rig
  pub len : p.counts.len ≡ words_left (tiles (columns h)) 0 lines

abbrev pub SweptTo : {T : Type 0} → Header → ℕ → Chain → Chain → QueueState → QueueState → Result T EmFault → Type 0
SweptTo h lines given gates q p (Ok x) = Swept h lines given gates q p
SweptTo h lines given gates q p (Err fault) =
    StopsBeside p.room (sweep_calls h q.counts.len) (max (input_room h q.rig) (column_room h q.rig)) 0 1 q.blocks
    (owing 0 (sweep_moves h given gates q.rig)) q.counts p.counts q.rig p.rig fault

-- The edges are those of a circuit whose gates have this order.
pub record HasEdges (c : Circuit) (order : List Gate) (h : Header) (given gates : List Record) : Type 0 where
  pub order_is : IsOrder c order
  pub header_is : c.header ≡ h
  pub edges_are : given ++ gates ≡ ordered_edges c order
  pub low : All (λ (e : Record). e.a ≤ h.inputs + h.latches) given
  pub high : All (λ (e : Record). h.inputs + h.latches < e.a) gates

-- A row of words for each step says what the circuit's columns are on the line of the step.
pub record SweepSays (c : Circuit) (lines : ℕ) (h : Header) (rows : List (List ℕ)) (items : List Record) : Type 0
  where
    pub out : List (List ℕ)
    pub wide : length out ≡ lines
    pub long : AllLong (tiles (columns h)) out
    pub is : items ≡ rows_records 1 out
    pub says : (t : ℕ) → t < lines
        → line_bits (columns h) (get_or out t []) ≡ (step_of c [] (line_bits h.inputs (column t rows))).0
