-- The moves of reading a circuit, making its graph and ordering its gates: at each of its ends they are
-- within those of a circuit of the size that was read, if its queues keep to their share.
use Rattle.std.proofs.Common.{◌≡◌, ℕ, ◌+◌, ◌*◌, ◌<◌, ◌≤◌, max, Bool, List, ap, sym, subst, ◌∙◌, refl, arith, IsTrue, Option, Some, IfSome, Result, Ok}
use Rattle.em_record.specs.Shape.{ShapeNumbers, payload_of}
use Rattle.em_space.specs.Queue.{QueueCounts}
use Rattle.em_space.specs.Rig.{RigState}
use Rattle.em_space.specs.declared.queue.Queue.{Ghosts as QueueGhosts}
use Rattle.em_chain.specs.Chain.{payload_in}
use Rattle.em_chain.specs.Counts.{ceiling}
use Rattle.em_tree_cost.specs.Shares.{queue_share}
use Rattle.em_tree_cost.proofs.Rising.{queue_share_rises}
use Rattle.aig_defs.specs.declared.fault.AigKind.{AigKind}
use Rattle.aig_defs.specs.declared.fault.AigKind.TheVariants.{Twice, Undefined}
use Rattle.aig_defs.specs.Begun.{circuit_size}
use Rattle.aig_defs.specs.Circuit.{Circuit}
use Rattle.aig_defs.specs.Faults.{IsDefined, circuit_fault}
use Rattle.aig_defs.specs.Founded.{passes_of}
use Rattle.aig_defs.specs.Items.{Reading}
use Rattle.aig_defs.proofs.Faults.{fault_found}
use Rattle.aig_text.specs.Source.{Source}
use Rattle.aig_text.specs.declared.parts.Parts.{Parts}
use Rattle.aig_text.specs.declared.stop.AigStop.{AigStop}
use Rattle.aig_edges.specs.BuildGraph.{SortCosts, sort_calls, sort_moves, sort_run}
use Rattle.aig_edges.specs.declared.graph.Graph.{Graph}
use Rattle.aig_order.specs.OrderGraph.{OrderCosts, order_moves}
use Rattle.aig_bin.specs.EitherForm.{ReadsEither}
use Rattle.em_eval.specs.EvalMoves.{circuit_moves}
use Rattle.em_eval.specs.EvalSize.{passes_after, passes_read, passes_unless}
use Rattle.em_ready.specs.Queues.{MakesQueue}
use Rattle.em_eval.proofs.Circuit.{ReadsFrom, read_of, text_of}
use Rattle.em_eval.proofs.CircuitCosts.{order_few, order_lists, order_run_few, sort_few, sort_lists, sort_run_few}
use Rattle.em_eval.proofs.CircuitMade.{HasGraph, HasParts, takes_first}

-- The moves so far are those of a circuit of the size that was read.
abbrev pub KeepsCircuit : Option ℕ → Bool → Source → Source → RigState → RigState → Type 0
KeepsCircuit start tells a d s t = IsTrue tells → IsTrue s.device.told → t.moves ≤ s.moves
    + circuit_moves s.pool.shape (read_of start a d) (passes_read start (text_of a))

-- the moves of a used-up queue within what it is allowed
used_by : (spent before made after own x y : ℕ) → after + spent ≤ made + x + own → x ≤ y
    → spent + before ≡ made → after ≤ before + y + own
used_by spent before made after own x y h rises same = omega (arith, h, rises, same)

-- A call that used up a new queue moved, with making it, at most the queue's share for these calls and
-- runs, beside its own moves.
pub used_moves : {Q : Type 0} {queue : QueueGhosts Q} {t u : RigState} {q : Q}
    {calls run own held peak : ℕ} (v : RigState) (n k : ℕ)
    → queue.allowance ≡ Some queue_share → MakesQueue queue t u q
    → (queue.counts q).since ≤ (queue.counts q).k
    → SortCosts queue calls run own held peak (queue.counts q) u v → IsTrue u.device.told
    → calls ≤ n → run ≤ k → v.moves ≤ t.moves + queue_share u.pool.shape n k + own
used_moves {queue = queue} {t = t} {u = u} {q = q} {calls = calls} {run = run} {own = own} v n k
    allowed makes since costs told few short =
    let c = queue.counts q in
    let all : v.moves + c.spent
    ≤ u.moves + queue_share u.pool.shape (c.n + calls) (max c.k (c.since + run)) + own =
    subst (λ (a : Option (ShapeNumbers → ℕ → ℕ → ℕ)). IfSome a (λ f. v.moves + c.spent
    ≤ u.moves + f u.pool.shape (c.n + calls) (max c.k (c.since + run)) + own)) allowed
    (costs.all_moves told) in
    let rises = queue_share_rises u.pool.shape (c.n + calls) n (max c.k (c.since + run)) k
    (omega (arith, few, makes.new.n)) (omega (arith, short, makes.new.k, since)) in
    used_by c.spent t.moves u.moves v.moves own
    (queue_share u.pool.shape (c.n + calls) (max c.k (c.since + run)))
    (queue_share u.pool.shape n k) all rises makes.spent

-- The parts were read, and a queue was made or refused;
after_reading : (p c x y s t u : ℕ) → t ≤ s + 4 * (c + 6) → u ≤ t + 4
    → u ≤ s + ((10 * p + 62) * c + p + 40 + x + y)
after_reading p c x y s t u a b = omega (arith, a, b)

-- then the graph was made, and another queue was;
after_building : (p c x y s t v w : ℕ) → t ≤ s + 4 * (c + 6) → v ≤ t + x + (22 * c + 7) → w ≤ v + 4
    → w ≤ s + ((10 * p + 62) * c + p + 40 + x + y)
after_building p c x y s t v w a b d = omega (arith, a, b, d)

-- and then it was ordered.
after_ordering : (p c x y s t v w : ℕ) → t ≤ s + 4 * (c + 6) → v ≤ t + x + (22 * c + 7)
    → w ≤ v + y + ((10 * p + 36) * c + p + 9) → w ≤ s + ((10 * p + 62) * c + p + 40 + x + y)
after_ordering p c x y s t v w a b d = omega (arith, a, b, d)

-- more may be moved
no_more : (v t x y m n : ℕ) → v ≤ t + x + m → x ≡ y → m ≤ n → v ≤ t + y + n
no_more v t x y m n a b c = omega (arith, a, b, c)

-- a circuit with all its definitions has the passes that find its gates
passes_whole : (c : Circuit) (n : ℕ) (fault : Option (AigKind × ℕ)) → circuit_fault c ≡ fault
    → IsDefined c → passes_unless fault n ≡ n
passes_whole c n (Some (Twice, v)) e defined =
    absurd (defined.twice v (fault_found c Twice v e).is)
passes_whole c n (Some (Undefined, v)) e defined =
    absurd (defined.undefined v (fault_found c Undefined v e).1.is)
passes_whole c n fault e defined = refl

module _ {start : Option ℕ} {tells : Bool} {a d : Source} {s t : RigState} (r : ReadsFrom tells a d) where
  -- Reading stopped, or a queue was made after it, or refused.
  pub read_moves : {result : Result Parts AigStop} (u : RigState) → ReadsEither tells start a d s t result
      → u.moves ≤ t.moves + 4 → KeepsCircuit start tells a d s u
  read_moves u h few = λ z told.
      let size = read_of start a d in
      let passes = passes_read start (text_of a) in
      after_reading passes (ceiling size (payload_of s.pool.shape))
      (queue_share s.pool.shape (6 * size) (2 * size))
      (queue_share s.pool.shape (2 * (passes + 4) * size) (2 * size)) s.moves t.moves u.moves
      (takes_first start r h.takes z).moves few

  module _ {u : RigState} (v : RigState) {p : Parts} {c : QueueCounts} {ks : List ℕ}
      (read : ReadsEither tells start a d s t (Ok p)) (parts : HasParts start tells a d s u p c ks)
      (built : IsTrue u.device.told → (n k : ℕ) → sort_calls p.header ≤ n → sort_run p.header ≤ k
      → v.moves ≤ t.moves + queue_share u.pool.shape n k + sort_moves u p) where
    -- what making the graph moved
    built_most : IsTrue tells → IsTrue s.device.told → v.moves ≤ t.moves
        + queue_share s.pool.shape (6 * read_of start a d) (2 * read_of start a d)
        + (22 * ceiling (read_of start a d) (payload_of s.pool.shape) + 7)
    built_most z told =
        let size = circuit_size p.header in
        let low = parts.sound.shape.block_low in
        let some : 0 < payload_in u = omega (arith, low) in
        let shape = parts.session.touches.shape in
        let all = built (parts.session.touches.told ∙ told) (6 * size) (2 * size)
        (sort_few p.header) (sort_run_few p.header) in
        let share : queue_share u.pool.shape (6 * size) (2 * size)
        ≡ queue_share s.pool.shape (6 * read_of start a d) (2 * read_of start a d) =
        ap (λ (x : ShapeNumbers). queue_share x (6 * size) (2 * size)) shape
        ∙ ap (λ (n : ℕ). queue_share s.pool.shape (6 * n) (2 * n)) (sym (parts.size z)) in
        let blocks : ceiling size (payload_in u) ≡ ceiling (read_of start a d) (payload_of s.pool.shape) =
        ap (λ (x : ShapeNumbers). ceiling size (payload_of x)) shape
        ∙ ap (λ (n : ℕ). ceiling n (payload_of s.pool.shape)) (sym (parts.size z)) in
        let lists : sort_moves u p ≤ 22 * ceiling (read_of start a d) (payload_of s.pool.shape) + 7 =
        subst (λ (k : ℕ). sort_moves u p ≤ 22 * k + 7) blocks (sort_lists u p some parts.fill) in
        no_more v.moves t.moves (queue_share u.pool.shape (6 * size) (2 * size))
        (queue_share s.pool.shape (6 * read_of start a d) (2 * read_of start a d)) (sort_moves u p)
        (22 * ceiling (read_of start a d) (payload_of s.pool.shape) + 7) all share lists

    -- No graph was made, or another queue was made after it, or refused.
    pub build_moves : (w : RigState) → w.moves ≤ v.moves + 4 → KeepsCircuit start tells a d s w
    build_moves w few = λ z told.
        let size = read_of start a d in
        let passes = passes_read start (text_of a) in
        after_building passes (ceiling size (payload_of s.pool.shape))
        (queue_share s.pool.shape (6 * size) (2 * size))
        (queue_share s.pool.shape (2 * (passes + 4) * size) (2 * size)) s.moves t.moves v.moves
        w.moves (takes_first start r read.takes z).moves (built_most z told) few

    module _ {Q : Type 0} {queue : QueueGhosts Q} {q : Q} {w x : RigState} {g : Graph} {js : List ℕ}
        (allowed : queue.allowance ≡ Some queue_share) (makes : MakesQueue queue v w q)
        (since : (queue.counts q).since ≤ (queue.counts q).k)
        (graph : HasGraph start tells a d s w g (queue.counts q) js)
        (costs : OrderCosts queue (queue.counts q) w x g) where
      -- the passes that were made are at most those of the circuit
      passes_most : IsTrue tells → IsTrue s.device.told → costs.passes ≤ passes_read start (text_of a)
      passes_most z told =
          let sp = graph.spells z in
          let known : passes_read start (text_of a) ≡ passes_of sp.circuit =
          ap (λ (y : Reading Circuit). passes_after y) sp.reads
          ∙ passes_whole sp.circuit (passes_of sp.circuit) (circuit_fault sp.circuit) refl
          (sp.defined told) in
          let few = costs.fewer (graph.session.touches.told ∙ told) sp.circuit (sp.is told) in
          omega (arith, known, few)

      -- what ordering it moved
      ordered_most : IsTrue tells → IsTrue s.device.told → x.moves ≤ v.moves
          + queue_share s.pool.shape (2 * (passes_read start (text_of a) + 4) * read_of start a d)
          (2 * read_of start a d)
          + ((10 * passes_read start (text_of a) + 36)
          * ceiling (read_of start a d) (payload_of s.pool.shape) + passes_read start (text_of a) + 9)
      ordered_most z told =
          let size = circuit_size g.header in
          let r = passes_read start (text_of a) in
          let few = passes_most z told in
          let low = graph.sound.shape.block_low in
          let some : 0 < payload_in w = omega (arith, low) in
          let shape = graph.session.touches.shape in
          let here = graph.session.touches.told ∙ told in
          let all = used_moves x (2 * (r + 4) * size) (2 * size) allowed makes since costs.costs here
          (order_few g.header costs.passes r few) (order_run_few g.header) in
          let share : queue_share w.pool.shape (2 * (r + 4) * size) (2 * size)
          ≡ queue_share s.pool.shape (2 * (r + 4) * read_of start a d) (2 * read_of start a d) =
          ap (λ (y : ShapeNumbers). queue_share y (2 * (r + 4) * size) (2 * size)) shape
          ∙ ap (λ (n : ℕ). queue_share s.pool.shape (2 * (r + 4) * n) (2 * n))
          (sym (graph.size z)) in
          let blocks : ceiling size (payload_in w)
          ≡ ceiling (read_of start a d) (payload_of s.pool.shape) =
          ap (λ (y : ShapeNumbers). ceiling size (payload_of y)) shape
          ∙ ap (λ (n : ℕ). ceiling n (payload_of s.pool.shape)) (sym (graph.size z)) in
          let lists : order_moves costs.passes w g + costs.looked
          ≤ (10 * r + 36) * ceiling (read_of start a d) (payload_of s.pool.shape) + r + 9 =
          subst (λ (k : ℕ). order_moves costs.passes w g + costs.looked ≤ (10 * r + 36) * k + r + 9)
          blocks
          (none_looked (order_moves costs.passes w g) costs.looked
          ((10 * r + 36) * ceiling size (payload_in w) + r + 9) (costs.unlooked here)
          (order_lists w g costs.passes r some graph.fill few)) in
          no_more x.moves v.moves (queue_share w.pool.shape (2 * (r + 4) * size) (2 * size))
          (queue_share s.pool.shape (2 * (r + 4) * read_of start a d) (2 * read_of start a d))
          (order_moves costs.passes w g + costs.looked)
          ((10 * r + 36) * ceiling (read_of start a d) (payload_of s.pool.shape) + r + 9) all share lists
        where
          none_looked : (m n k : ℕ) → n ≡ 0 → m ≤ k → m + n ≤ k
          none_looked m n k e h = omega (arith, e, h)

      -- Its gates were ordered, or not.
      pub order_keeps : KeepsCircuit start tells a d s x
      order_keeps = λ z told.
          let size = read_of start a d in
          let passes = passes_read start (text_of a) in
          after_ordering passes (ceiling size (payload_of s.pool.shape))
          (queue_share s.pool.shape (6 * size) (2 * size))
          (queue_share s.pool.shape (2 * (passes + 4) * size) (2 * size)) s.moves t.moves v.moves
          x.moves (takes_first start r read.takes z).moves (built_most z told) (ordered_most z told)
