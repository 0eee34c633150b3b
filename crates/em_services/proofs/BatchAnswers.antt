-- A batch is finished, and its answers are put in order.
use Rattle.std.proofs.Common.{◌≡◌, ℕ, ◌+◌, ◌-◌, ◌*◌, ◌<◌, ◌≤◌, ◌++◌, List, length, ap, sym, ◌∙◌, arith, IsTrue, Some, Result, Ok, Err, IfOk, IfErr, OnErr}
use Rattle.std.specs.Int.{div_ceil}
use Rattle.em_record.specs.Shape.{ShapeNumbers, fan_of, payload_of}
use Rattle.em_frames.specs.Pool.{PoolCounts, SameFrames}
use Rattle.em_model.specs.MapAnswers.{answers_after}
use Rattle.em_model.specs.declared.command.Command.{Command}
use Rattle.em_space.specs.Queue.{Pays}
use Rattle.em_space.specs.Rig.{Cause, RigState, Touches, Sound}
use Rattle.em_space.specs.declared.fault.EmFault.{EmFault}
use Rattle.em_space.proofs.Paying.{pays_more, pays_then}
use Rattle.em_space.proofs.Steps.{cause_after}
use Rattle.em_space.proofs.Within.{touches_within, within_then}
use Rattle.em_chain.specs.Chain.{chain_blocks, chain_items}
use Rattle.em_chain.specs.Counts.{ceiling}
use Rattle.em_chain.specs.declared.chain.Chain.{Chain}
use Rattle.em_chain.proofs.Counts.{packed_blocks}
use Rattle.em_chain.proofs.Readers.{length_items}
use Rattle.em_tree_cost.specs.Shares.{chain_share, tree_room}
use Rattle.em_services.specs.BatchLaws.{n_is}
use Rattle.em_tree_cost.proofs.Ceilings.{ceil_is, ceil_mono, ceiling_is}
use Rattle.em_tree_cost.proofs.Rising.{queue_share_rises}
use Rattle.em_map.specs.Batch.{BatchCosts, BatchOver, BatchWithin, FinishedBatch, HasCommands, UnfinishedBatch, answers_room, areas_of, batch_blocks, batch_spent, rule_of, trunk_of}
use Rattle.em_map.specs.declared.batch.Batch.{Batch}
use Rattle.em_services.specs.BatchService.{AreAnswers, IsGivenBatch, OrdersAnswers, answers_share, batch_counts, entered_size, map_share, map_size, ordering_moves, ordering_room}
use Rattle.em_map.specs.Areas.{GivenWithAreas}
use Rattle.em_services.specs.Service.{CanAnswer, GivesFrames, LeavesAnswers, WithinAllowance, FullOverRoom, WithinRoom}
use Rattle.em_services.proofs.AnswerOrder.{answers_gets, answers_lack}
use Rattle.em_services.proofs.BatchSizes.{answers_within, batch_room, entered_within}
use Rattle.em_services.proofs.Moves.{call_moves}
use Rattle.em_record.specs.Cost.{room}
use Rattle.em_plain.specs.Room.{StaysWithin}
use Rattle.em_tree_walk.proofs.Losses.{chain_length}
use Rattle.em_services.specs.InOrder.{lists_room}
use Rattle.em_ready.proofs.RoomLaws.{answers_room as lists_fit, over_used, when_full}

-- the blocks of a packed list of at most n records, read, released and written anew
pub ceiling_share : (shape : ShapeNumbers) (count n : ℕ) → count ≤ n → 0 < payload_of shape
    → 4 * ceiling count (payload_of shape) + 1 ≤ chain_share shape n
ceiling_share shape count n few some =
    let p = payload_of shape in
    let least = ceil_mono (ceiling count p) (div_ceil n p) p count n (ceiling_is count p some)
    (ceil_is n p some) few in
    omega (arith, least)

given_then : (own : ℕ) (p q r : PoolCounts) → GivenWithAreas 2 own p q → SameFrames q r → GivenWithAreas 2 own p r
given_then own p q r x y = record {
  shape = y.shape ∙ x.shape;
  free = y.free ∙ x.free;
  rack = y.rack ∙ x.rack;
  free_areas = omega (arith, x.free_areas, y.free_areas);
  peak = omega (arith, x.peak, y.peak);
}

-- its calls are its commands
calls_are : {F : Type 0} (s : RigState) (b : Batch F) (before cs : List Command) → HasCommands s b before cs
    → b.calls ≡ length (before ++ cs)
calls_are s b before cs h = n_is b s before cs h

-- no more answers were given than commands
answers_count : {F : Type 0} (s m : RigState) (b : Batch F) (c : Chain) → FinishedBatch s m b c
    → IsGivenBatch s b → IsTrue s.device.told → c.count + (trunk_of b).adopted ≤ b.calls
answers_count s m b c f i z =
    let n = length_items m c f.chain (f.session.touches.told ∙ z) in
    let l = answers_gets (rule_of b) i.before i.since (chain_items m c) (f.ordered z i.before i.since i.has) in
    let base = i.has.base in
    omega (arith, n, l, base)

-- They are no more than the size of its commands.
answers_size : {F : Type 0} (s m : RigState) (b : Batch F) (c : Chain) → FinishedBatch s m b c
    → (before cs : List Command) → HasCommands s b before cs → IsTrue s.device.told
    → c.count ≤ map_size b.early s.pool.shape (before ++ cs)
answers_size s m b c f before cs h z =
    let n = length_items m c f.chain (f.session.touches.told ∙ z) in
    let l = answers_within s b before cs h (chain_items m c) (f.ordered z before cs h) in
    omega (arith, n, l)

-- It was finished: its answers can be put in order.
pub answers_are : {F : Type 0} (s m : RigState) (b : Batch F) (c : Chain) → FinishedBatch s m b c
    → IsGivenBatch s b → CanAnswer (areas_of b) s.pool → AreAnswers m c
answers_are s m b c f i free =
    let told = f.session.touches.told in
    let pool = f.frames in
    record {
      sound = f.session.sound;
      free = record {
        singles = let e = ap fan_of pool.shape in omega (arith, e, pool.free, free.singles);
        areas = omega (arith, pool.free_areas, free.areas);
        rack = pool.rack ∙ free.rack;
      };
      areas = omega (arith, pool.free_areas, free.areas);
      is = f.chain;
      few = λ z.
          let n = answers_count s m b c f i (sym told ∙ z) in
          let few = i.is.few in omega (arith, n, few);
      lacks = λ z. answers_lack (rule_of b) i.before i.since (chain_items m c)
          (f.ordered (sym told ∙ z) i.before i.since i.has);
    }

-- They were put in order, or a call gave up.
module _ {F : Type 0} (s m t : RigState) (b : Batch F) (c : Chain) (f : FinishedBatch s m b c) where
  finished_touches : Touches (batch_blocks s b) s m
  finished_touches = f.session.touches

  frames_kept : m.pool.shape.frames ≡ s.pool.shape.frames
  frames_kept = ap (λ (p : ShapeNumbers). p.frames) f.frames.shape

  pub answers_gives : (result : Result Chain EmFault) → OrdersAnswers m t c result
      → GivesFrames 2 (areas_of b) (batch_blocks s b) s t
  answers_gives (Ok d) o = record {
    sound = o.session.sound;
    touches = touches_within s m t (batch_blocks s b) (chain_blocks m c) finished_touches
        f.session.within o.session.touches;
    frames_are = given_then (areas_of b) s.pool m.pool t.pool f.frames o.frames;
  }
  answers_gives (Err fault) o = record {
    sound = o.goes.sound;
    touches = touches_within s m t (batch_blocks s b) (chain_blocks m c) finished_touches
        f.session.within o.goes.touches;
    frames_are = given_then (areas_of b) s.pool m.pool t.pool f.frames o.goes.frames;
  }

  -- the blocks in use, but for those of the answers
  finished_used : IsTrue s.device.told → m.used + length (batch_blocks s b) ≡ s.used + c.blocks
  finished_used z =
      let used = f.loses z in
      let own = chain_length f.chain (finished_touches.told ∙ z) in
      omega (arith, used, own)

  pub answers_leaves : (result : Result Chain EmFault) → OrdersAnswers m t c result
      → IfOk result (LeavesAnswers (Some room) (batch_blocks s b) (batch_counts b) s t)
  answers_leaves (Ok d) o = record {
    is = o.is;
    packed = λ z. o.packed (finished_touches.told ∙ z);
    within = within_then s m (batch_blocks s b) (chain_blocks m c) (chain_blocks t d)
        finished_touches f.session.within o.session.within;
    pays = pays_then f.pays o.pays o.session.touches.moves;
    used = λ z. let used = o.used in let first = finished_used z in omega (arith, used, first);
  }
  answers_leaves (Err fault) o = tt

  pub answers_items : (result : Result Chain EmFault) → OrdersAnswers m t c result
      → IfOk result (λ d. IsTrue s.device.told → (before cs : List Command) → HasCommands s b before cs
      → chain_items t d ≡ answers_after (rule_of b) before cs)
  answers_items (Ok d) o = λ z before cs h. o.items (finished_touches.told ∙ z) ∙ f.ordered z before cs h
  answers_items (Err fault) o = tt

  pub answers_owes : (result : Result Chain EmFault) → OrdersAnswers m t c result
      → OnErr result (Pays (batch_counts b).unstored (2 * s.pool.shape.frames) s t)
  answers_owes (Ok d) o = tt
  answers_owes (Err fault) o =
      let low = f.session.sound.shape.frames_low in
      pays_then f.pays (pays_more {p = 0} {q = 2 * s.pool.shape.frames} o.pays (omega (arith, frames_kept, low)))
      o.goes.touches.moves

  -- Its moves were within its share, and those of the queue and of both lists are within the rest.
  order_moves : (n : ℕ) → c.count ≤ n → IsTrue s.device.told → ordering_moves m c ≤ answers_share s.pool.shape n
  order_moves n few z =
      let told = finished_touches.told ∙ z in
      let shape = f.frames.shape in
      let low : 128 ≤ m.pool.shape.block = f.session.sound.shape.block_low in
      let blocks = packed_blocks m c low f.chain told (f.packed z) in
      let most = ceiling_share m.pool.shape c.count n few (omega (arith, low)) in
      let queue = queue_share_rises m.pool.shape (2 * c.count) (2 * n) (2 * c.count) (2 * n)
      (omega (arith, few)) (omega (arith, few)) in
      rw (← shape) (omega (arith, blocks, most, queue))

  ordered_moves : (result : Result Chain EmFault) → OrdersAnswers m t c result
      → IsTrue m.device.told → t.moves ≤ m.moves + ordering_moves m c
  ordered_moves (Ok d) o z = o.moves z
  ordered_moves (Err fault) o z = o.moves z

  ordered_room : (result : Result Chain EmFault) → OrdersAnswers m t c result
      → IsTrue m.device.told → StaysWithin c.blocks (ordering_room m c) m t
  ordered_room (Ok d) o z = o.room z
  ordered_room (Err fault) o z = o.room z

  pub answers_moves : (result : Result Chain EmFault) → OrdersAnswers m t c result
      → Sound s → BatchCosts s m b → (before cs : List Command) → HasCommands s b before cs
      → WithinAllowance (Some map_share) (map_size b.early s.pool.shape (before ++ cs)) (batch_counts b).syncs
      (batch_counts b).spent s t
  answers_moves result o sound costs before cs h = λ z.
      let size = map_size b.early s.pool.shape (before ++ cs) in
      let moves : t.moves ≤ m.moves + ordering_moves m c =
      ordered_moves result o (finished_touches.told ∙ z) in
      let later = costs.later in
      call_moves s.pool.shape size (entered_size b) b.syncs b.syncs (batch_spent b)
      (batch_spent b + (m.moves - s.moves)) (ordering_moves m c) s.moves t.moves sound.shape
      (entered_within s b before cs h) (omega arith) (omega (arith, moves, later)) (costs.joined z before cs h)
      (order_moves size (answers_size s m b c f before cs h z) z)

  -- At no moment the batch and its answers held more than the room.
  module _ (i : IsGivenBatch s b) (sound : Sound s) where
    finish_room : IsTrue s.device.told → tree_room s.pool.shape b.calls + answers_room s b b.calls
        ≤ room s.pool.shape b.calls
    finish_room z = batch_room s b b.calls i sound.shape z (omega arith)

    order_room : IsTrue s.device.told → ordering_room m c ≤ room s.pool.shape b.calls
    order_room z =
        let told = finished_touches.told ∙ z in
        let few = answers_count s m b c f i z in
        let low : 128 ≤ m.pool.shape.block = f.session.sound.shape.block_low in
        let blocks = packed_blocks m c low f.chain told (f.packed z) in
        let most = lists_fit m.pool.shape c.count b.calls (lists_room m c)
        f.session.sound.shape (omega (arith, few)) (omega (arith, blocks)) in
        rw (← f.frames.shape) most

    pub answers_room_is : (result : Result Chain EmFault) → OrdersAnswers m t c result
        → (IsTrue s.device.told → BatchWithin b.calls s m b)
        → (before cs : List Command) → HasCommands s b before cs
        → WithinRoom (Some room) (length (before ++ cs)) (batch_blocks s b) s t
    answers_room_is result o w before cs h = λ z.
        let first = (w z).most in
        let last = (ordered_room result o (finished_touches.told ∙ z)).is in
        let used = finished_used z in
        let one = finish_room z in
        let two = order_room z in
        rw (← calls_are s b before cs h) (record { is = omega (arith, first, last, used, one, two) })

    pub answers_full : (result : Result Chain EmFault) → OrdersAnswers m t c result
        → (before cs : List Command) → HasCommands s b before cs
        → IfErr result (FullOverRoom (Some room) (length (before ++ cs)) (batch_blocks s b) s)
    answers_full (Ok d) o before cs h = tt
    answers_full (Err fault) o before cs h = λ z.
        let used = finished_used z in
        let two = order_room z in
        when_full fault (λ n. n + c.blocks < m.used + ordering_room m c)
        (λ n. n + length (batch_blocks s b) < s.used + room s.pool.shape (length (before ++ cs)))
        (λ n less. rw (← calls_are s b before cs h) (omega (arith, less, used, two))) (o.full (finished_touches.told ∙ z))

  pub answers_cause : (result : Result Chain EmFault) → OrdersAnswers m t c result
      → IfErr result (Cause s t)
  answers_cause (Ok d) o = tt
  answers_cause (Err fault) o = cause_after (batch_blocks s b) s m t fault finished_touches o.cause

-- It wasn't finished.
module _ {F : Type 0} (s t : RigState) (b : Batch F) (fault : EmFault) (h : UnfinishedBatch s t b fault)
  where
    pub unfinished_gives : GivesFrames 2 (areas_of b) (batch_blocks s b) s t
    unfinished_gives = record { sound = h.sound; touches = h.touches; frames_are = h.frames }

    pub unfinished_owes : Pays (batch_counts b).unstored (2 * s.pool.shape.frames) s t
    unfinished_owes = pays_more h.pays (omega arith)

    pub unfinished_cause : Cause s t fault
    unfinished_cause = h.cause

    pub unfinished_moves : BatchCosts s t b → Sound s → (before cs : List Command) → HasCommands s b before cs
        → WithinAllowance (Some map_share) (map_size b.early s.pool.shape (before ++ cs)) (batch_counts b).syncs
        (batch_counts b).spent s t
    unfinished_moves costs sound before cs k = λ z.
        let later = costs.later in
        call_moves s.pool.shape (map_size b.early s.pool.shape (before ++ cs)) (entered_size b) b.syncs b.syncs
        (batch_spent b) (batch_spent b + (t.moves - s.moves)) 0 s.moves t.moves sound.shape
        (entered_within s b before cs k) (omega arith) (omega (arith, later)) (costs.joined z before cs k) (omega arith)

    module _ (i : IsGivenBatch s b) (sound : Sound s) where
      unfinished_own : IsTrue s.device.told → tree_room s.pool.shape b.calls + answers_room s b b.calls
          ≤ room s.pool.shape b.calls
      unfinished_own z = batch_room s b b.calls i sound.shape z (omega arith)

      pub unfinished_room : (IsTrue s.device.told → BatchWithin b.calls s t b)
          → (before cs : List Command) → HasCommands s b before cs
          → WithinRoom (Some room) (length (before ++ cs)) (batch_blocks s b) s t
      unfinished_room w before cs k = λ z.
          let most = (w z).most in
          let own = unfinished_own z in
          rw (← calls_are s b before cs k) (record { is = omega (arith, most, own) })

      pub unfinished_full : (IsTrue s.device.told → BatchOver b.calls s b fault)
          → (before cs : List Command) → HasCommands s b before cs
          → FullOverRoom (Some room) (length (before ++ cs)) (batch_blocks s b) s fault
      unfinished_full over before cs k = λ z.
          rw (← calls_are s b before cs k) (over_used fault (length (batch_blocks s b)) s.used
          (tree_room s.pool.shape b.calls + answers_room s b b.calls) (room s.pool.shape b.calls) s t
          (over z).full h.cause h.touches.blocks (unfinished_own z))
