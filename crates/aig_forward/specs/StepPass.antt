-- The part of a step between the stimulus and the printed line.
use Rattle.std.specs.Prelude.{◌≡◌, ℕ, ◌+◌, ◌*◌, ◌-◌, Bool, List, ◌++◌, Result, Ok, Err}
use Rattle.em_space.specs.Rig.{RigState, Cause}
use Rattle.em_space.specs.declared.fault.EmFault.{EmFault}
use Rattle.em_space.specs.declared.queue.Queue.{Ghosts}
use Rattle.em_chain.specs.Chain.{IsChain, chain_blocks, chain_items}
use Rattle.em_chain.specs.declared.chain.Chain.{Chain}
use Rattle.em_queued.specs.Queued.{RunsBeside}
use Rattle.em_queued.specs.Room.{FullBeside}
use Rattle.aig_defs.specs.Circuit.{Circuit, columns}
use Rattle.aig_defs.specs.Value.{step_of}
use Rattle.aig_defs.specs.declared.circuit.Header.{Header}
use Rattle.aig_edges.specs.Graph.{edge_count}
use Rattle.aig_sweep.specs.Bits.{bits_of}
use Rattle.aig_sweep.specs.Sweeper.{Halted, sweeper_blocks, lists_size}
use Rattle.aig_sweep.specs.Lists.{input_room, latch_room, lists_account}
use Rattle.aig_words.specs.Words.{lane}
use Rattle.aig_forward.specs.Step.{step_room}
use Rattle.aig_sweep.specs.declared.sweeper.Sweeper.{Sweeper}

-- A list of a bit for each input.
pub record IsInput (s : RigState) (h : Header) (inputs : Chain) : Type 0 where
  pub is : IsChain s inputs
  pub count_is : inputs.count ≡ h.inputs
  pub blocks_are : inputs.blocks ≡ input_room h s

-- the blocks of an evaluator and of such a list
abbrev pub pass_blocks : {Q : Type 0} → Ghosts Q → RigState → Sweeper Q → Chain → List ℕ
pass_blocks queue s e inputs =
    queue.blocks e.queue s ++ ((chain_blocks s inputs ++ chain_blocks s e.state)
    ++ (chain_blocks s e.given ++ chain_blocks s e.gates))

-- the moves of it beside those of the queue
abbrev pub pass_moves : {Q : Type 0} → RigState → Sweeper Q → ℕ
pass_moves s e =
    e.given.blocks + e.gates.blocks + 2 * input_room e.header s + 4 * latch_room e.header s + 5

-- The latches changed, and the queue has the messages of the columns.
pub record Passed {Q : Type 0} (queue : Ghosts Q) (s t : RigState) (e f : Sweeper Q)
    (inputs : Chain) : Type 0 where
  pub left : (queue.counts f.queue).len ≡ columns e.header
  pub state_is : IsChain t f.state
  pub given_is : IsChain t e.given
  pub gates_is : IsChain t e.gates
  pub latches : f.state.count ≡ e.header.latches
  pub state_blocks : f.state.blocks ≡ latch_room e.header t
  pub runs : RunsBeside (2 * edge_count e.header - columns e.header) (step_room s e)
      (pass_blocks queue s e inputs) (sweeper_blocks queue t f)
      (lists_account (inputs.blocks + lists_size e) (pass_moves s e))
      (lists_account (lists_size f) 0) (queue.counts e.queue) (queue.counts f.queue) s t

-- It gave up.
pub record FailsPass {Q : Type 0} (queue : Ghosts Q) (s t : RigState) (e f : Sweeper Q)
    (inputs : Chain) (fault : EmFault) : Type 0 where
  pub halted : Halted (2 * edge_count e.header) (step_room s e) 1 (pass_blocks queue s e inputs)
      (lists_account (inputs.blocks + lists_size e) (pass_moves s e))
      (queue.counts e.queue) (queue.counts f.queue) s t
  pub cause : Cause s t fault
  pub full : FullBeside queue.room (inputs.blocks + lists_size e) (step_room s e)
      (queue.counts e.queue) (queue.counts f.queue).k s fault

abbrev pub PassesTo : {Q : Type 0} → Ghosts Q → RigState → RigState → Sweeper Q → Sweeper Q
    → Chain → Result (Unit {0}) EmFault → Type 0
PassesTo queue s t e f inputs (Ok x) = Passed queue s t e f inputs
PassesTo queue s t e f inputs (Err fault) = FailsPass queue s t e f inputs fault

-- What it gave for a circuit: the latches' next bits, and the bits of the columns. The edges are
-- what they were.
pub record PassesFor {Q : Type 0} (queue : Ghosts Q) (s t : RigState) (e f : Sweeper Q)
    (c : Circuit) (state bits : List Bool) : Type 0 where
  pub given_are : chain_items t e.given ≡ chain_items s e.given
  pub gates_are : chain_items t e.gates ≡ chain_items s e.gates
  pub next : bits_of (lane 0 (chain_items t f.state)) ≡ (step_of c state bits).1
  pub outputs : bits_of (lane 0 (queue.items f.queue t)) ≡ (step_of c state bits).0
