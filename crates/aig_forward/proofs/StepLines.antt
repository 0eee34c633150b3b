-- A step that reads a line of the stimulus.
use Rattle.std.proofs.Common.{◌≡◌, ℕ, [], ◌++◌, refl, sym, ap, ◌∙◌, append_assoc, inl, inr, IsTrue, IsErr, Result, Ok, Err}
use Rattle.std.specs.Prelude.{IfErr}
use Rattle.em_space.specs.Ledger.{Session}
use Rattle.em_space.specs.Rig.{RigState, Sound, Goes}
use Rattle.em_space.specs.declared.queue.Queue.{Ghosts}
use Rattle.em_space.proofs.Held.{apart_none, holds_kept}
use Rattle.em_space.proofs.Sessions.{session_as, session_mid, session_none}
use Rattle.em_chain.specs.Chain.{ChainStays, chain_blocks}
use Rattle.em_chain.specs.Counts.{ceiling}
use Rattle.em_chain.specs.declared.chain.Chain.{Chain}
use Rattle.em_chain.proofs.Keeps.{payload_kept}
use Rattle.em_chain.proofs.Laws.{chain_stays}
use Rattle.aig_edges.specs.declared.stop.StepStop.{StepStop}
use Rattle.aig_sweep.specs.Sweeper.{IsSweeper, sweeper_blocks, lists_blocks}
use Rattle.aig_forward.specs.Line.{MovesAfterByte}
use Rattle.aig_forward.specs.Step.{IfPrinted}
use Rattle.aig_forward.specs.StepPass.{pass_blocks}
use Rattle.aig_sweep.specs.declared.sweeper.Sweeper.{Sweeper}
use Rattle.aig_forward.specs.declared.step_end.StepEnd.{StepEnd}
use Rattle.aig_sweep.specs.Scene.{ActsAfterByte}

module _ {Q : Type 0} (queue : Ghosts Q) {s t : RigState} (e : Sweeper Q) (sound : Sound s)
    (i : IsSweeper queue s e) (goes : Goes [] s t) (is : queue.IsQueue e.queue t)
    (same : IsTrue s.device.told → queue.blocks e.queue t ≡ queue.blocks e.queue s) where
  -- The lists of an evaluator stay over the reading of a line.
  state_on : ChainStays s t e.state
  state_on = chain_stays [] s t e.state goes.touches (λ z. apart_none (chain_blocks s e.state)) i.state

  given_on : ChainStays s t e.given
  given_on = chain_stays [] s t e.given goes.touches (λ z. apart_none (chain_blocks s e.given)) i.given

  gates_on : ChainStays s t e.gates
  gates_on = chain_stays [] s t e.gates goes.touches (λ z. apart_none (chain_blocks s e.gates)) i.gates

  blocks_on : IsTrue s.device.told → sweeper_blocks queue t e ≡ sweeper_blocks queue s e
  blocks_on z = rw (same z, state_on.blocks z, given_on.blocks z, gates_on.blocks z) refl

  -- After a line was read its bits stand beside them.
  pub line_session : (c : Chain) → Session [] s t (chain_blocks t c)
      → Session (sweeper_blocks queue s e) s t (pass_blocks queue t e c)
  line_session c r =
      let qs = queue.blocks e.queue s in
      let first = session_none s (sweeper_blocks queue s e) sound i.holds in
      let then = session_mid qs [] (chain_blocks t c) (lists_blocks s e) first r in
      session_as (pass_blocks queue t e c) then
      (λ z. rw (
        append_assoc (chain_blocks t c) (chain_blocks t e.state)
            (chain_blocks t e.given ++ chain_blocks t e.gates),
        same z,
        state_on.blocks z,
        given_on.blocks z,
        gates_on.blocks z,
      ) refl)

  -- It is an evaluator still.
  pub evaluator_on : IsSweeper queue t e
  evaluator_on = record {
    header = i.header;
    given = given_on.is;
    gates = gates_on.is;
    edges = i.edges;
    state = state_on.is;
    latches = i.latches;
    state_blocks = i.state_blocks
        ∙ ap (λ (p : ℕ). ceiling e.header.latches p) (sym (payload_kept [] s t goes.touches));
    is = is;
    empty = i.empty;
    holds = λ z.
        let y = sym goes.touches.told ∙ z in
        rw (blocks_on y) (holds_kept [] s t (sweeper_blocks queue s e) goes.touches
        (λ w. apart_none (sweeper_blocks queue s e)) (i.holds y));
  }

-- No line was read, and the evaluator is what it was.
pub line_idle : {Q : Type 0} (s t : RigState) (e : Sweeper Q) (place later : ℕ)
    → MovesAfterByte s t place later → ActsAfterByte s t e e place later
line_idle s t e place later (inl still) = inl (refl, still)
line_idle s t e place later (inr further) = inr further

-- A stop prints no line.
pub none_printed : (r : Result StepEnd StepStop) (P : Type 0) → IsErr r → IfPrinted r P
none_printed (Ok x) P is = absurd (cc)
none_printed (Err e) P is = tt

-- What is said of each stop is said of this one.
pub stop_says : {P : Type 0} (r : Result StepEnd StepStop) → P → IfErr r (λ e. P)
stop_says (Ok end) p = tt
stop_says (Err e) p = p
