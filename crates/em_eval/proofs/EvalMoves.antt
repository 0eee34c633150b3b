-- The moves of an evaluation along the edges of a circuit: those of its evaluator and of its queue are
-- within those of a circuit of this size and of the rounds that were begun.
use Rattle.std.proofs.Common.{◌≡◌, ℕ, ◌+◌, ◌*◌, ◌<◌, ◌≤◌, ◌⊎◌, ⊎_elim, Bool, true, false, zero, suc, refl, List, ap, sym, subst, ◌∙◌, arith, IsTrue, IfSome, Option, Some, None, Result}
use Rattle.std.proofs.Math.Nat.{mul-le-mul}
use Rattle.em_record.specs.Cost.{cost}
use Rattle.em_record.specs.Shape.{IsShape, ShapeNumbers, payload_of}
use Rattle.em_io.specs.declared.shelf.Shelf.{Ghosts as ShelfGhosts}
use Rattle.em_io.specs.declared.shelf.Slot.TheVariants.{Second}
use Rattle.em_io.specs.declared.sink.Sink.{Ghosts as SinkGhosts}
use Rattle.em_space.specs.Queue.{QueueCounts}
use Rattle.em_space.specs.Rig.{RigState}
use Rattle.em_space.specs.declared.fault.EmFault.{EmFault}
use Rattle.em_space.specs.declared.queue.Queue.{Ghosts as QueueGhosts}
use Rattle.em_chain.specs.Chain.{payload_in}
use Rattle.em_chain.specs.Counts.{ceiling}
use Rattle.em_chain.proofs.Sessions.{ceiling_rises}
use Rattle.em_tree_cost.specs.Shares.{queue_share}
use Rattle.em_tree_cost.proofs.Rising.{queue_share_rises}
use Rattle.aig_defs.specs.declared.circuit.Header.{Header}
use Rattle.aig_defs.specs.Begun.{circuit_size}
use Rattle.aig_defs.specs.Circuit.{columns}
use Rattle.aig_edges.specs.Graph.{edge_count}
use Rattle.aig_edges.specs.declared.graph.Ordered.{Ordered}
use Rattle.aig_sweep.specs.Lists.{begin_moves}
use Rattle.aig_sweep.specs.declared.sweeper.Sweeper.{Sweeper}
use Rattle.aig_wide.specs.Group.{group_calls}
use Rattle.em_eval.specs.EvalMoves.{calling_moves, making_moves, round_calls, round_lines, rounds_moves}
use Rattle.em_eval.specs.EvalSize.{rounds_of}
use Rattle.em_eval.specs.Evaluation.{CanBegin, PrintsSteps, Round, RoundsMove, group_round, step_round, steps_of}
use Rattle.em_ready.specs.Queues.{FailsToMake}
use Rattle.em_ends.specs.declared.stop.Stop.{Stop}
use Rattle.em_eval.proofs.EvalCosts.{rounds_within}
use Rattle.em_eval.proofs.EvalEnds.{Evaluated, KeepsSteps, Made, Unmade, counts_same, made_touches}
use Rattle.em_eval.proofs.CircuitCosts.{lists_fit}
use Rattle.em_eval.proofs.GroupRound.{group_calls_most}

-- The evaluator's lists were made, at most, and nothing was moved after that;
without_steps : (c steps s t : ℕ) → t ≤ s + (6 * c + 10) → t ≤ s + (6 * c + 10 + steps)
without_steps c steps s t h = omega (arith, h)

-- or rounds came, and moved this,
with_rounds : (c n x s t begin round : ℕ) → t ≤ s + x + (begin + n * round) → begin ≤ 6 * c + 6
    → round ≤ 9 * c + 7 → t ≤ s + (6 * c + 10) + (n * (9 * c + 7) + x)
with_rounds c n x s t begin round h a b =
    let all : n * round ≤ n * (9 * c + 7) =
    mul-le-mul {n₁ = n} {m₁ = round} {n₂ = n} {m₂ = 9 * c + 7} (omega arith) b in
    omega (arith, h, a, all)

-- which is what so many rounds move.
rounds_counted : (shape : ShapeNumbers) (size calls n s t : ℕ) → 0 < n
    → t ≤ s + making_moves shape size + (n * (9 * ceiling size (payload_of shape) + 7)
    + queue_share shape (calls * n) calls)
    → t ≤ s + (making_moves shape size + calling_moves shape size calls n)
rounds_counted shape size calls zero s t some h = absurd (omega (arith, some))
rounds_counted shape size calls (suc n) s t some h = omega (arith, h)

-- The numbers of a round are those of a circuit of this size.
pub record FitsRound (wide : Bool) (shape : ShapeNumbers) (size : ℕ) (round : Round) : Type 0 where
  pub lines : round.lines ≡ round_lines wide
  pub calls : round.calls ≤ round_calls wide size
  pub moves : round.moves ≤ 9 * ceiling size (payload_of shape) + 7

-- No queue was made.
pub refused_moves : {H : Type 0} (wide : Bool) (h : ShelfGhosts H) {s t : RigState} (o : Ordered)
    {fault : EmFault} (shelf : H) → FailsToMake s t fault → KeepsSteps wide h s t o shelf shelf
refused_moves wide h {s} {t} o shelf f = λ z told.
    let size = circuit_size o.header in
    let n = steps_of o.header.inputs ((h.stand shelf).slot Second).left ((h.stand shelf).slot Second) in
    let few = f.moves in
    without_steps (ceiling size (payload_of s.pool.shape)) (rounds_moves wide s.pool.shape size n) s.moves
    t.moves (omega (arith, few))

-- What making the evaluator's lists moves, by the blocks of the circuit's size.
begins_few : {s : RigState} {o : Ordered} → CanBegin s o
    → begin_moves o ≤ 6 * ceiling (circuit_size o.header) (payload_of s.pool.shape) + 6
begins_few {s} {o} can =
    let p = payload_of s.pool.shape in
    let low = can.sound.shape.block_low in
    let some : 0 < p = omega (arith, low) in
    let fit = lists_fit p o.header some in
    omega (arith, can.packed, fit.edges)

-- a queue was made, and then lists
added : (t m s n c : ℕ) → t ≤ m + n → m ≤ s + 4 → n ≤ 6 * c + 6 → t ≤ s + (6 * c + 10)
added t m s n c h a b = omega (arith, h, a, b)

module _ {Q : Type 0} {queue : QueueGhosts Q} {s m t : RigState} {o : Ordered} {q : Q}
    {fault : EmFault} (u : Unmade queue s m t o q fault) where
  -- No evaluator was made, after a queue that moved few blocks.
  pub unmade_moves : {H : Type 0} (wide : Bool) (h : ShelfGhosts H) (shelf : H)
      → m.moves ≤ s.moves + 4 → KeepsSteps wide h s t o shelf shelf
  unmade_moves wide h shelf few = λ z told.
      let size = circuit_size o.header in
      let n = steps_of o.header.inputs ((h.stand shelf).slot Second).left
      ((h.stand shelf).slot Second) in
      let begin = begins_few u.can in
      let all : t.moves ≤ m.moves + begin_moves o =
      halts t.moves (queue.counts q).spent m.moves (begin_moves o) u.fails.halted.moves in
      without_steps (ceiling size (payload_of s.pool.shape)) (rounds_moves wide s.pool.shape size n) s.moves
      t.moves
      (added t.moves m.moves s.moves (begin_moves o) (ceiling size (payload_of s.pool.shape)) all few
      begin)
    where
      halts : (t c m n : ℕ) → t + (c + 0) ≤ m + (n + c) → t ≤ m + n
      halts t c m n h = omega (arith, h)

-- Steps by an evaluator over a new queue, with making both: `s` moves were made before, `m` when the queue
-- was made, `a` when the evaluator was, and `b` after the steps.
run_by : (c e d : QueueCounts) (s m a b begin own x : ℕ) → e ≡ c → c.spent + s ≡ m
    → a + (c.spent + 0) + (0 + 0) ≤ m + (0 + begin) + (c.spent + 0)
    → b + e.spent ≤ a + d.spent + own → d.spent ≤ x → b ≤ s + x + (begin + own)
run_by c e d s m a b begin own x same made begun ran spends =
    let spent = ap (λ (z : QueueCounts). z.spent) same in
    omega (arith, made, begun, ran, spends, spent)

-- An evaluator was made: a round of it has the numbers of its circuit.
module _ {Q : Type 0} {queue : QueueGhosts Q} {s m a : RigState} {o : Ordered} {q : Q} {e : Sweeper Q}
    (u : Made queue s m a o q e) where
  -- the shape stays
  pub shape_before : a.pool.shape ≡ s.pool.shape
  shape_before = (made_touches u).shape

  -- a list of one record for each of some, by the blocks of the circuit's size
  list_few : (n : Header → ℕ) → ceiling (n e.header) (payload_in a)
      ≡ ceiling (n o.header) (payload_of s.pool.shape)
  list_few n =
      ap (λ (x : Header). ceiling (n x) (payload_in a)) u.begins.header
      ∙ ap (λ (x : ShapeNumbers). ceiling (n o.header) (payload_of x)) shape_before

  -- the edges were split in two lists
  lists_held : e.given.blocks + e.gates.blocks ≤ o.edges.blocks + 1
  lists_held =
      let size = u.begins.size in
      let state = u.begins.is.state_blocks in
      let after = list_few (λ x. x.latches) in
      omega (arith, size, state, after, u.can.is.resets.blocks_is)

  -- So a step moves few blocks beside its queue,
  pub step_fits : FitsRound false s.pool.shape (circuit_size o.header) (step_round a e)
  step_fits =
      let p = payload_of s.pool.shape in
      let low = u.can.sound.shape.block_low in
      let some : 0 < p = omega (arith, low) in
      let fit = lists_fit p o.header some in
      let inputs = list_few (λ x. x.inputs) in
      let latches = list_few (λ x. x.latches) in
      let edges : edge_count e.header ≡ edge_count o.header =
      ap (λ (x : Header). edge_count x) u.begins.header in
      record {
        lines = refl;
        calls = omega (arith, edges);
        moves = omega (
          arith,
          lists_held,
          u.can.packed,
          fit.edges,
          fit.inputs,
          fit.latches,
          inputs,
          latches,
        );
      }

  -- and so does a group.
  pub group_fits : FitsRound true s.pool.shape (circuit_size o.header) (group_round a e)
  group_fits =
      let p = payload_of s.pool.shape in
      let low = u.can.sound.shape.block_low in
      let some : 0 < p = omega (arith, low) in
      let fit = lists_fit p o.header some in
      let inputs = list_few (λ x. x.inputs) in
      let ends = list_few columns in
      let few = ceiling_rises (columns o.header) (circuit_size o.header) p some (omega arith) in
      record {
        lines = refl;
        calls = subst (λ (x : Header). group_calls x ≤ 4 * circuit_size o.header + 252)
            (sym u.begins.header) (group_calls_most o.header);
        moves = omega (arith, lists_held, u.can.packed, fit.edges, fit.inputs, inputs, ends, few);
      }

module _ {H W Q : Type 0} {h : ShelfGhosts H} {w : SinkGhosts W} {queue : QueueGhosts Q}
    {round : Round} {s m a b t : RigState} {o : Ordered} {q : Q} {e d : Sweeper Q}
    {shelf shelf_after : H} {out mid out_after : W} {pending : List ℕ}
    {done result : Result (Unit {0}) Stop}
    (v : Evaluated h w queue round s m a b t o q e d shelf shelf_after out mid out_after pending done result)
    (wide : Bool) (fits : FitsRound wide s.pool.shape (circuit_size o.header) round) where
  -- how many lines were begun, and how many rounds
  abbrev lines : ℕ
  lines = steps_of o.header.inputs ((h.stand shelf).slot Second).left
      ((h.stand shelf_after).slot Second)

  abbrev begun : ℕ
  begun = ceiling lines (round_lines wide)

  -- the same, by the evaluator's header and the round
  rounds_same : (x : Header) (n : ℕ) → x ≡ o.header → n ≡ round_lines wide
      → ceiling (steps_of x.inputs ((h.stand shelf).slot Second).left
      ((h.stand shelf_after).slot Second)) n ≡ begun
  rounds_same x n f g = rw (f, g) refl

  -- What its queue moved, if it keeps to its share, is within the share of the calls of the rounds that were
  -- begun.
  spent_few : IsTrue h.tells → (queue.counts d.queue).spent
      ≤ queue_share b.pool.shape (queue.counts d.queue).n (queue.counts d.queue).k
      → (queue.counts d.queue).spent ≤ queue_share s.pool.shape
      (round_calls wide (circuit_size o.header) * begun) (round_calls wide (circuit_size o.header))
  spent_few z spends =
      let c = queue.counts d.queue in
      let calls = round_calls wide (circuit_size o.header) in
      let own : c.n ≤ round.calls * begun =
      subst (λ (n : ℕ). c.n ≤ round.calls * n)
      (rounds_same e.header round.lines v.made.begins.header fits.lines) (v.steps.called z) in
      let all : round.calls * begun ≤ calls * begun =
      mul-le-mul {n₁ = round.calls} {m₁ = begun} {n₂ = calls} {m₂ = begun} fits.calls
      (omega arith) in
      let none : (queue.counts e.queue).k ≡ 0 =
      ap (λ (x : QueueCounts). x.k) (counts_same v.made) ∙ v.made.makes.new.k in
      let run = v.steps.run in
      let few = fits.calls in
      let rises = queue_share_rises s.pool.shape c.n (calls * begun) c.k calls
      (most_calls c.n (round.calls * begun) (calls * begun) own all)
      (omega (arith, run, none, few)) in
      let within : c.spent ≤ queue_share s.pool.shape c.n c.k =
      subst (λ (x : ShapeNumbers). c.spent ≤ queue_share x c.n c.k)
      (v.steps.touches.shape ∙ shape_before v.made) spends in
      most_calls c.spent (queue_share s.pool.shape c.n c.k)
      (queue_share s.pool.shape (calls * begun) calls) within rises
    where
      most_calls : (x y z : ℕ) → x ≤ y → y ≤ z → x ≤ z
      most_calls x y z h k = omega (arith, h, k)

  -- No step was begun: what was moved is what making the evaluator moved.
  still_moves : m.moves ≤ s.moves + 4 → b.moves ≤ a.moves
      → b.moves ≤ s.moves + (making_moves s.pool.shape (circuit_size o.header)
      + rounds_moves wide s.pool.shape (circuit_size o.header) lines)
  still_moves few none =
      let u = v.made in
      let size = circuit_size o.header in
      let all = begun_by b.moves a.moves (queue.counts q).spent m.moves (begin_moves o) none
      u.begins.runs.runs.spends.moves in
      without_steps (ceiling size (payload_of s.pool.shape))
      (rounds_moves wide s.pool.shape size lines) s.moves b.moves
      (added b.moves m.moves s.moves (begin_moves o) (ceiling size (payload_of s.pool.shape)) all
      few (begins_few u.can))
    where
      begun_by : (b a c m n : ℕ) → b ≤ a → a + (c + 0) + (0 + 0) ≤ m + (0 + n) + (c + 0)
          → b ≤ m + n
      begun_by b a c m n none h = omega (arith, none, h)

  -- Steps were begun.
  steps_made : IsTrue h.tells → IsTrue s.device.told
      → (IsTrue b.device.told → (queue.counts d.queue).spent
      ≤ queue_share b.pool.shape (queue.counts d.queue).n (queue.counts d.queue).k)
      → RoundsMove queue a b e d round begun
      → b.moves ≤ s.moves + (making_moves s.pool.shape (circuit_size o.header)
      + rounds_moves wide s.pool.shape (circuit_size o.header) lines)
  steps_made z told spends r =
      let u = v.made in
      let size = circuit_size o.header in
      let calls = round_calls wide size in
      let later : IsTrue b.device.told = v.steps.touches.told ∙ ((made_touches u).told ∙ told) in
      let share = queue_share s.pool.shape (calls * begun) calls in
      let all = run_by (queue.counts q) (queue.counts e.queue) (queue.counts d.queue) s.moves
      m.moves a.moves b.moves (begin_moves o) (begun * round.moves) share (counts_same u)
      u.makes.spent u.begins.runs.runs.spends.moves r.most (spent_few z (spends later)) in
      rounds_counted s.pool.shape size calls begun s.moves b.moves r.some
      (with_rounds (ceiling size (payload_of s.pool.shape)) begun share s.moves b.moves
      (begin_moves o) round.moves all (begins_few u.can) fits.moves)

  -- An evaluation moves at most what making its evaluator does, and its rounds.
  pub evaluated_moves : m.moves ≤ s.moves + 4 → (IsTrue b.device.told → (queue.counts d.queue).spent
      ≤ queue_share b.pool.shape (queue.counts d.queue).n (queue.counts d.queue).k)
      → KeepsSteps wide h s t o shelf shelf_after
  evaluated_moves few spends = λ z told.
      let size = circuit_size o.header in
      let steps : (b.moves ≤ a.moves) ⊎ RoundsMove queue a b e d round begun =
      subst (λ (n : ℕ). (b.moves ≤ a.moves) ⊎ RoundsMove queue a b e d round n)
      (rounds_same e.header round.lines v.made.begins.header fits.lines) (v.steps.moves z) in
      let ended : t.moves ≡ b.moves = ap (λ (r : RigState). r.moves) v.leaves.same in
      subst (λ (n : ℕ). n ≤ s.moves + (making_moves s.pool.shape size
      + rounds_moves wide s.pool.shape size lines)) (sym ended)
      (⊎_elim (λ (none : b.moves ≤ a.moves). still_moves few none)
      (λ (r : RoundsMove queue a b e d round begun). steps_made z told spends r) steps)

-- It is an allowance that is at most a queue's share.
abbrev pub IsWithinShare : Option (ShapeNumbers → ℕ → ℕ → ℕ) → Type 0
IsWithinShare (Some f) = (shape : ShapeNumbers) (n k : ℕ) → f shape n k ≤ queue_share shape n k
IsWithinShare None = ⊥

-- A queue that keeps to it keeps to its share.
pub within_share : (allowance : Option (ShapeNumbers → ℕ → ℕ → ℕ)) (shape : ShapeNumbers)
    (n k spent : ℕ) → IsWithinShare allowance → IfSome allowance (λ f. spent ≤ f shape n k)
    → spent ≤ queue_share shape n k
within_share (Some f) shape n k spent low most = let few = low shape n k in omega (arith, few, most)
within_share None shape n k spent low most = absurd low

-- All rounds together cost no more than the rounds of a bound: over a queue of which no call came, and that moved
-- no more than its share.
module _ {H W Q : Type 0} {h : ShelfGhosts H} {w : SinkGhosts W} {queue : QueueGhosts Q} {round : Round}
    {s t : RigState} {e d : Sweeper Q} {shelf shelf_after : H} {out out_after : W} {pending : List ℕ}
    {result : Result (Unit {0}) Stop}
    (p : PrintsSteps h w queue round s t e d shelf shelf_after out out_after pending result)
    (wide : Bool) (size : ℕ) (fits : FitsRound wide s.pool.shape size round) where
  -- how many lines were begun
  abbrev read : ℕ
  read = steps_of e.header.inputs ((h.stand shelf).slot Second).left
      ((h.stand shelf_after).slot Second)

  pub rounds_cost : IsShape s.pool.shape → IsTrue h.tells → (queue.counts e.queue).n ≡ 0
      → (queue.counts e.queue).k ≤ (queue.counts e.queue).n → (queue.counts d.queue).spent
      ≤ queue_share s.pool.shape (queue.counts d.queue).n (queue.counts d.queue).k
      → t.moves ≤ s.moves + rounds_of wide read * cost s.pool.shape (2 * size)
  rounds_cost is z none few_k spends =
      let shape = s.pool.shape in
      let c = queue.counts d.queue in
      let calls = round_calls wide size in
      let begun = ceiling read (round_lines wide) in
      let own : c.n ≤ round.calls * begun =
      subst (λ (n : ℕ). c.n ≤ round.calls * ceiling read n) fits.lines (p.called z) in
      let all : round.calls * begun ≤ calls * begun =
      mul-le-mul {n₁ = round.calls} {m₁ = begun} {n₂ = calls} {m₂ = begun} fits.calls (omega arith) in
      let run = p.run in
      let few = fits.calls in
      let rises = queue_share_rises shape c.n (calls * begun) c.k calls
      (after c.n (round.calls * begun) (calls * begun) own all)
      (omega (arith, run, none, few_k, few)) in
      let share = queue_share shape (calls * begun) calls in
      let within = rounds_within wide shape size read is in
      let bound = rounds_of wide read * cost shape (2 * size) in
      ⊎_elim (λ (still : t.moves ≤ s.moves). omega (arith, still))
      (λ (r : RoundsMove queue s t e d round begun).
      within_bound t.moves s.moves (rounds_moves wide shape size read) bound
      (moved begun (after c.spent (queue_share shape c.n c.k) share spends rises) r) within)
      (subst (λ (n : ℕ). (t.moves ≤ s.moves) ⊎ RoundsMove queue s t e d round (ceiling read n))
      fits.lines (p.moves z))
    where
      after : (x y z : ℕ) → x ≤ y → y ≤ z → x ≤ z
      after x y z f g = omega (arith, f, g)

      within_bound : (t s m b : ℕ) → t ≤ s + m → m ≤ b → t ≤ s + b
      within_bound t s m b f g = omega (arith, f, g)

      added_up : (t c s x m l q : ℕ) → t + c ≤ s + x + m → m ≤ l → x ≤ q → t ≤ s + (l + q)
      added_up t c s x m l q f g k = omega (arith, f, g, k)

      moved : (n : ℕ) → (queue.counts d.queue).spent
          ≤ queue_share s.pool.shape (round_calls wide size * n) (round_calls wide size)
          → RoundsMove queue s t e d round n
          → t.moves ≤ s.moves + calling_moves s.pool.shape size (round_calls wide size) n
      moved zero f r = let some = r.some in absurd (omega (arith, some))
      moved (suc n) f r =
          let c = ceiling size (payload_of s.pool.shape) in
          let lists : suc n * round.moves ≤ suc n * (9 * c + 7) =
          mul-le-mul {n₁ = suc n} {m₁ = round.moves} {n₂ = suc n} {m₂ = 9 * c + 7} (omega arith)
          fits.moves in
          let most = r.most in
          added_up t.moves (queue.counts e.queue).spent s.moves (queue.counts d.queue).spent
          (suc n * round.moves) (suc n * (9 * c + 7))
          (queue_share s.pool.shape (round_calls wide size * suc n) (round_calls wide size)) most lists f
