-- A sync of a batch, and its answers in order.
use Rattle.std.proofs.Common.{◌≡◌, ℕ, ◌+◌, ◌*◌, ◌≤◌, ◌<◌, List, [], ◌∷◌, ◌++◌, length, ap, sym, refl, ◌∙◌, arith, IsTrue, Some, Result, Ok, Err, OnOk, OnErr, IfOk, IfErr}
use Rattle.em_record.specs.Cost.{room}
use Rattle.em_record.proofs.Order.{length_order}
use Rattle.em_record.specs.Shape.{ShapeNumbers, fan_of, payload_of}
use Rattle.em_record.specs.declared.record.Record.{Record}
use Rattle.em_model.specs.MapAnswers.{answers_after}
use Rattle.em_model.specs.declared.command.Command.{Command}
use Rattle.em_model.specs.declared.command.Command.TheVariants.{Sync}
use Rattle.em_space.specs.Queue.{Pays}
use Rattle.em_space.specs.Rig.{Cause, Goes, RigState, Sound}
use Rattle.em_space.specs.declared.fault.EmFault.{EmFault}
use Rattle.em_space.proofs.Paying.{pays_more, pays_then}
use Rattle.em_space.proofs.Sessions.{session_as, session_then}
use Rattle.em_space.proofs.Steps.{cause_after}
use Rattle.em_chain.specs.Chain.{chain_blocks, chain_items}
use Rattle.em_chain.specs.Counts.{ceiling}
use Rattle.em_chain.specs.declared.chain.Chain.{Chain}
use Rattle.em_chain.proofs.Counts.{packed_blocks}
use Rattle.em_chain.proofs.Readers.{length_items}
use Rattle.em_plain.specs.Room.{StaysWithin}
use Rattle.em_tree_cost.specs.Shares.{tree_room}
use Rattle.em_tree_cost.proofs.Rising.{queue_share_rises}
use Rattle.em_map.specs.Areas.{KeepsAreas}
use Rattle.em_map.specs.Batch.{BatchHasFrames, BatchOver, BatchWithin, CountsSync, HasCommands, StopsBatch, SyncedBatch, answers_room, areas_of, batch_blocks, batch_spent, batch_unstored, rule_of}
use Rattle.em_map.specs.declared.batch.Batch.{Batch}
use Rattle.em_ready.proofs.RoomLaws.{over_used, when_full}
use Rattle.em_services.specs.BatchService.{AreAnswers, IsGivenBatch, OrdersAnswers, answers_share, batch_counts, entered_size, map_share, map_size, ordering_moves, ordering_room}
use Rattle.em_services.specs.InOrder.{lists_room}
use Rattle.em_services.specs.Service.{CanSync, FullOverRoom, GivesAtSync, WithinAllowance, WithinRoom}
use Rattle.em_services.proofs.AnswerOrder.{answers_lack}
use Rattle.em_services.proofs.BatchAnswers.{ceiling_share}
use Rattle.em_services.proofs.BatchSizes.{entered_later}
use Rattle.em_services.proofs.Handed.{handed_beside, handed_blocks, handed_count, handed_entered, handed_fewer, handed_frames, handed_goes, handed_has, handed_is, handed_size, handed_told, handed_tree, handed_used, handed_within, settled_room}
use Rattle.em_services.proofs.Moves.{call_moves, share_at, sync_spends, times_rise, two_rooms}
use Rattle.em_services.proofs.SyncRoom.{sync_room}

-- reading and releasing a list of no more blocks
list_more : (order blocks most all : ℕ) → blocks ≤ most → order + 3 * most ≤ all → order + 3 * blocks ≤ all
list_more order blocks most all few h = omega (arith, few, h)

list_less : (order most all : ℕ) → order + 3 * most ≤ all → order ≤ all
list_less order most all h = omega (arith, h)

-- The tree was settled, and handed out the answers, which can be put in order.
module _ {F : Type 0} (s m : RigState) (b d : Batch F) (c : Chain) (f : SyncedBatch s m b d c) (i : IsGivenBatch s b) where
  told_m : IsTrue s.device.told → IsTrue m.device.told
  told_m z = handed_told s m b d c f i z

  pub handed_are : CanSync (areas_of b) s.pool → AreAnswers m c
  handed_are free = record {
    sound = f.session.sound;
    free = record {
      singles = let e = ap fan_of f.frames.shape in omega (arith, e, f.frames.free, free.singles);
      areas = omega (arith, f.frames.areas, free.areas);
      rack = f.frames.rack ∙ free.rack;
    };
    areas = omega (arith, f.frames.areas, free.areas);
    is = f.chain;
    few = λ z.
        let n = handed_fewer s m b d c f i (sym f.session.touches.told ∙ z) in
        let few = i.is.few in omega (arith, n, few);
    lacks = λ z. answers_lack (rule_of b) i.before i.since (chain_items m c)
        (f.ordered (sym f.session.touches.told ∙ z) i.before i.since i.has);
  }

  -- The queue's moves, those of both lists, and those of reading and releasing the second one.
  order_share : (n : ℕ) → c.count ≤ n → IsTrue s.device.told
      → ordering_moves m c + 3 * ceiling c.count (payload_of m.pool.shape) ≤ answers_share s.pool.shape n
  order_share n few z =
      let low = f.session.sound.shape.block_low in
      let blocks = handed_blocks s m b d c f i z in
      let most = ceiling_share m.pool.shape c.count n few (omega (arith, low)) in
      let queue = queue_share_rises m.pool.shape (2 * c.count) (2 * n) (2 * c.count) (2 * n)
      (omega (arith, few)) (omega (arith, few)) in
      rw (← f.frames.shape) (omega (arith, blocks, most, queue))

  -- The batch's tree beside the queue and both lists,
  order_beside : IsTrue s.device.told
      → length (batch_blocks m d) + ordering_room m c ≤ room s.pool.shape (b.calls + 1)
  order_beside z =
      let few = handed_count s m b d c f i z in
      let blocks = handed_blocks s m b d c f i z in
      let own = handed_tree s m b d c f i z in
      let fits = sync_room m.pool.shape c.count (b.calls + 1) (lists_room m c) f.session.sound.shape
      (omega (arith, few)) (omega (arith, blocks)) in
      rw (← f.frames.shape) (omega (arith, own, fits))

  -- and they were put in order, or the call gave up.
  module _ (t : RigState) (n : CountsSync s m b d) (sound : Sound s) where
    order_goes : (result : Result Chain EmFault) → OrdersAnswers m t c result → Goes (chain_blocks m c) m t
    order_goes (Ok e) o = record { sound = o.session.sound; touches = o.session.touches; frames = o.frames }
    order_goes (Err fault) o = o.goes

    pub synced_goes : (result : Result Chain EmFault) → OrdersAnswers m t c result
        → KeepsAreas (areas_of b) (areas_of d) (batch_blocks s b) s t
    synced_goes result o = handed_goes s m b d c f i t (order_goes result o)

    pub synced_frames : (result : Result Chain EmFault) → OrdersAnswers m t c result → BatchHasFrames t d
    synced_frames result o = handed_frames s m b d c f i t (order_goes result o)

    pub synced_is : (result : Result Chain EmFault) → OrdersAnswers m t c result → OnOk result (IsGivenBatch t d)
    synced_is (Ok e) o = handed_is s m b d c f i t (order_goes (Ok e) o)
    synced_is (Err fault) o = tt

    pub synced_has : (result : Result Chain EmFault) → OrdersAnswers m t c result
        → OnOk result ((before cs : List Command) → HasCommands s b before cs
        → HasCommands t d (before ++ cs ++ Sync ∷ []) [])
    synced_has (Ok e) o = handed_has s m b d c f i t (order_goes (Ok e) o)
    synced_has (Err fault) o = tt

    pub synced_items : (result : Result Chain EmFault) → OrdersAnswers m t c result
        → IfOk result (λ e. IsTrue s.device.told → (before cs : List Command) → HasCommands s b before cs
        → chain_items t e ≡ answers_after (rule_of b) before cs)
    synced_items (Ok e) o = λ z before cs h. o.items (told_m z) ∙ f.ordered z before cs h
    synced_items (Err fault) o = tt

    -- the second list has no more blocks than the first
    ordered_blocks : (e : Chain) → OrdersAnswers m t c (Ok e) → IsTrue s.device.told
        → e.blocks ≤ ceiling c.count (payload_of m.pool.shape)
    ordered_blocks e o z =
        let here = o.session.touches.told ∙ told_m z in
        let same = ap (λ (rs : List Record). length rs) (o.items (told_m z)) in
        let count = length_items t e o.is here in
        let first = length_items m c f.chain (told_m z) in
        let order = length_order (chain_items m c) in
        let blocks = packed_blocks t e o.session.sound.shape.block_low o.is here (o.packed (told_m z)) in
        let shape = ap (λ (p : ShapeNumbers). ceiling e.count (payload_of p)) o.frames.shape in
        let equal : e.count ≡ c.count = omega (arith, same, count, first, order) in
        let fill = ap (λ (k : ℕ). ceiling k (payload_of m.pool.shape)) equal in
        let all : e.blocks ≡ ceiling c.count (payload_of m.pool.shape) = blocks ∙ shape ∙ fill in
        omega (arith, all)

    sync_spent : (e : Chain) → OrdersAnswers m t c (Ok e) → IsTrue s.device.told
        → t.moves + 3 * e.blocks + (batch_counts b).spent s.pool.shape ≤ s.moves + (batch_counts d).spent s.pool.shape
    sync_spent e o z =
        let all = handed_entered s m b d c f i n i.before i.since i.has in
        let few = handed_size s m b d c f i z i.before i.since i.has in
        let less = entered_later s b i.before i.since i.has (Sync ∷ []) in
        let rest = order_share (entered_size d) (omega (arith, all, few)) z in
        let blocks = ordered_blocks e o z in
        sync_spends b.syncs d.syncs (answers_share s.pool.shape (entered_size b))
        (answers_share s.pool.shape (entered_size d)) (batch_spent b) (batch_spent d) (ordering_moves m c) (3 * e.blocks)
        s.moves m.moves t.moves n.syncs (o.moves (told_m z)) n.moves
        (list_more (ordering_moves m c) e.blocks (ceiling c.count (payload_of m.pool.shape))
        (answers_share s.pool.shape (entered_size d)) blocks rest)
        (times_rise s.pool.shape (entered_size b) (entered_size d) b.syncs sound.shape (omega (arith, all, less)))

    pub synced_gives : (result : Result Chain EmFault) → OrdersAnswers m t c result
        → IfOk result (GivesAtSync (Some map_share) (Some room) (batch_blocks s b) (batch_blocks t d)
        (batch_counts b) (batch_counts d) s t)
    synced_gives (Ok e) o = record {
      is = o.is;
      packed = λ z. o.packed (told_m z);
      session = session_as (chain_blocks t e ++ batch_blocks t d)
          (session_then (chain_blocks m c) (chain_blocks t e) (batch_blocks m d) f.session o.session)
          (λ z. ap (λ ks. chain_blocks t e ++ ks) ((handed_beside s m b d c f i t (order_goes (Ok e) o)).blocks (told_m z)));
      n = n.calls;
      syncs = n.syncs;
      pays = pays_then f.pays (pays_more {p = batch_unstored d} {q = batch_unstored d} o.pays (omega arith))
          o.session.touches.moves;
      used = λ z.
          let used = o.used in
          let first = handed_used s m b d c f i z in
          let same = ap (λ (ks : List ℕ). length ks) ((handed_beside s m b d c f i t (order_goes (Ok e) o)).blocks (told_m z)) in
          omega (arith, used, first, same);
      spent = λ z. sync_spent e o z;
    }
    synced_gives (Err fault) o = tt

    pub synced_within : (result : Result Chain EmFault) → OrdersAnswers m t c result
        → OnOk result (IsTrue s.device.told → (before cs : List Command) → HasCommands s b before cs
        → (batch_counts d).spent s.pool.shape
        ≤ (d.syncs + 1) * map_share s.pool.shape (map_size b.early s.pool.shape (before ++ cs ++ Sync ∷ [])))
    synced_within (Ok e) o = handed_within s m b d c f i n
    synced_within (Err fault) o = tt

    ordered_moves : (result : Result Chain EmFault) → OrdersAnswers m t c result → IsTrue m.device.told
        → t.moves ≤ m.moves + ordering_moves m c
    ordered_moves (Ok e) o z = o.moves z
    ordered_moves (Err fault) o z = o.moves z

    pub synced_moves : (result : Result Chain EmFault) → OrdersAnswers m t c result → (before cs : List Command)
        → HasCommands s b before cs
        → WithinAllowance (Some map_share) (map_size b.early s.pool.shape (before ++ cs ++ Sync ∷ []))
        ((batch_counts b).syncs + 1) (batch_counts b).spent s t
    synced_moves result o before cs h = λ z.
        let size = map_size b.early s.pool.shape (before ++ cs ++ Sync ∷ []) in
        let moves : t.moves ≤ m.moves + ordering_moves m c = ordered_moves result o (told_m z) in
        let own = n.moves in
        let rest = order_share size (handed_size s m b d c f i z before cs h) z in
        let share = share_at s.pool.shape (batch_spent d) size size d.syncs (b.syncs + 1) refl n.syncs
        (n.joined z before cs h) in
        call_moves s.pool.shape size (entered_size b) b.syncs (b.syncs + 1) (batch_spent b) (batch_spent d)
        (ordering_moves m c) s.moves t.moves sound.shape (entered_later s b before cs h (Sync ∷ [])) (omega arith)
        (omega (arith, moves, own)) share
        (list_less (ordering_moves m c) (ceiling c.count (payload_of m.pool.shape)) (answers_share s.pool.shape size) rest)

    order_stays : (result : Result Chain EmFault) → OrdersAnswers m t c result → IsTrue m.device.told
        → StaysWithin c.blocks (ordering_room m c) m t
    order_stays (Ok e) o z = o.room z
    order_stays (Err fault) o z = o.room z

    pub synced_room : (result : Result Chain EmFault) → OrdersAnswers m t c result
        → (IsTrue s.device.told → BatchWithin b.calls s m b)
        → WithinRoom (Some room) ((batch_counts b).n + 1) (batch_blocks s b) s t
    synced_room result o w = λ z. record {
      is = two_rooms (length (batch_blocks s b)) c.blocks (length (batch_blocks m d))
          (tree_room s.pool.shape b.calls + answers_room s b b.calls) (ordering_room m c)
          (room s.pool.shape (b.calls + 1)) s.used m.used s.most m.most t.most (w z).most
          (order_stays result o (told_m z)).is (handed_used s m b d c f i z) (settled_room s b i sound z) (order_beside z);
    }

    pub synced_full : (result : Result Chain EmFault) → OrdersAnswers m t c result
        → IfErr result (FullOverRoom (Some room) ((batch_counts b).n + 1) (batch_blocks s b) s)
    synced_full (Ok e) o = tt
    synced_full (Err fault) o = λ z.
        let used = handed_used s m b d c f i z in
        let two = order_beside z in
        when_full fault (λ k. k + c.blocks < m.used + ordering_room m c)
        (λ k. k + length (batch_blocks s b) < s.used + room s.pool.shape (b.calls + 1))
        (λ k less. omega (arith, less, used, two)) (o.full (told_m z))

    pub synced_owes : (result : Result Chain EmFault) → OrdersAnswers m t c result
        → OnErr result (Pays (batch_counts b).unstored (2 * s.pool.shape.frames) s t)
    synced_owes (Ok e) o = tt
    synced_owes (Err fault) o =
        let frames = ap (λ (p : ShapeNumbers). p.frames) f.frames.shape in
        let low = sound.shape.frames_low in
        pays_then f.pays (pays_more {p = batch_unstored d} {q = 2 * s.pool.shape.frames} o.pays (omega (arith, frames, low)))
        o.goes.touches.moves

    pub synced_cause : (result : Result Chain EmFault) → OrdersAnswers m t c result → IfErr result (Cause s t)
    synced_cause (Ok e) o = tt
    synced_cause (Err fault) o = cause_after (batch_blocks s b) s m t fault f.session.touches o.cause

-- The size of its commands is counted as before.
pub synced_size : {F : Type 0} (s t : RigState) (b d : Batch F) → CountsSync s t b d → map_size d.early ≡ map_size b.early
synced_size s t b d n = ap map_size n.early

-- The sync gave up.
module _ {F : Type 0} (s t : RigState) (b d : Batch F) (fault : EmFault) (h : StopsBatch s t b d fault)
    (n : CountsSync s t b d) (i : IsGivenBatch s b) (sound : Sound s) where
  pub unsynced_moves : (before cs : List Command) → HasCommands s b before cs
      → WithinAllowance (Some map_share) (map_size b.early s.pool.shape (before ++ cs ++ Sync ∷ []))
      ((batch_counts b).syncs + 1) (batch_counts b).spent s t
  unsynced_moves before cs k = λ z.
      let size = map_size b.early s.pool.shape (before ++ cs ++ Sync ∷ []) in
      let own = n.moves in
      let share = share_at s.pool.shape (batch_spent d) size size d.syncs (b.syncs + 1) refl n.syncs
      (n.joined z before cs k) in
      call_moves s.pool.shape size (entered_size b) b.syncs (b.syncs + 1) (batch_spent b) (batch_spent d) 0 s.moves t.moves
      sound.shape (entered_later s b before cs k (Sync ∷ [])) (omega arith) (omega (arith, own)) share (omega arith)

  pub unsynced_room : (IsTrue s.device.told → BatchWithin b.calls s t b)
      → WithinRoom (Some room) ((batch_counts b).n + 1) (batch_blocks s b) s t
  unsynced_room w = λ z. let most = (w z).most in let own = settled_room s b i sound z in record { is = omega (arith, most, own) }

  pub unsynced_full : (IsTrue s.device.told → BatchOver b.calls s b fault)
      → FullOverRoom (Some room) ((batch_counts b).n + 1) (batch_blocks s b) s fault
  unsynced_full over = λ z. over_used fault (length (batch_blocks s b)) s.used
      (tree_room s.pool.shape b.calls + answers_room s b b.calls) (room s.pool.shape (b.calls + 1)) s t
      (over z).full h.cause h.goes.touches.blocks (settled_room s b i sound z)

  pub unsynced_owes : Pays (batch_counts b).unstored (2 * s.pool.shape.frames) s t
  unsynced_owes = pays_more h.pays (omega arith)
