-- A sync of a dump: the answers that its batch hands out are given up.
use Rattle.std.proofs.Common.{◌≡◌, ℕ, ◌+◌, ◌*◌, ◌≤◌, ◌<◌, List, [], ◌∷◌, ◌++◌, length, ap, refl, arith, IsTrue, Some, Result, Ok, Err, IfErr, OnErr, IfOk}
use Rattle.em_record.specs.Cost.{room}
use Rattle.em_model.specs.declared.command.Command.{Command}
use Rattle.em_model.specs.declared.command.Command.TheVariants.{Sync}
use Rattle.em_space.specs.Ledger.{Session}
use Rattle.em_space.specs.Queue.{Pays}
use Rattle.em_space.specs.Rig.{BlockCause, Cause, Goes, IfFull, RigState, Sound}
use Rattle.em_space.specs.declared.fault.EmFault.{EmFault}
use Rattle.em_space.specs.declared.fault.EmFault.TheVariants.{DeviceFault, Full, Damaged}
use Rattle.em_space.proofs.Paying.{pays_kept, pays_more, pays_then}
use Rattle.em_space.proofs.Sessions.{session_as, session_then}
use Rattle.em_space.proofs.Steps.{block_cause, cause_after}
use Rattle.em_chain.specs.Chain.{IsChain, IsPacked, chain_blocks, chain_items, empty_chain}
use Rattle.em_chain.specs.Row.{Frees}
use Rattle.em_chain.specs.declared.chain.Chain.{Chain}
use Rattle.em_map.specs.Batch.{BatchWithin, CountsSync, HasCommands, SyncedBatch, batch_blocks, batch_spent, batch_unstored}
use Rattle.em_map.specs.declared.batch.Batch.{Batch}
use Rattle.em_services.specs.BatchService.{IsGivenBatch, answers_share, batch_counts, entered_size, map_share, map_size}
use Rattle.em_services.specs.Service.{FullOverRoom, GivesAtSync, WithinAllowance, WithinRoom}
use Rattle.em_services.proofs.BatchAnswers.{ceiling_share}
use Rattle.em_services.proofs.BatchSizes.{entered_later}
use Rattle.em_services.proofs.Handed.{handed_beside, handed_blocks, handed_entered, handed_size, handed_told, handed_used, settled_room}
use Rattle.em_services.proofs.Moves.{call_moves, share_at, sync_spends, times_rise}

-- A list with no block is one on any device.
none_is : (s : RigState) → IsChain s empty_chain
none_is s = record {
  count_most = omega arith;
  blocks_most = omega arith;
  told = λ z. record {
    holds = record { in_use = tt; distinct = λ y. tt };
    list = record { run = refl; blocks_is = refl; tail_is = refl; count_is = refl; skip_fits = refl };
  };
}

none_packed : (s : RigState) → IsPacked s empty_chain
none_packed s = record { is = record { skip_is = refl; full = tt } }

-- A call that needs no block is never full.
block_never : (s t : RigState) (fault : EmFault) (P : ℕ → Type 0) → BlockCause s t fault → IfFull fault P
block_never s t DeviceFault P cause = tt
block_never s t (Full used) P cause = absurd cause
block_never s t (Damaged block) P cause = tt

module _ {F : Type 0} (s m t : RigState) (b d : Batch F) (c : Chain) (f : SyncedBatch s m b d c) (i : IsGivenBatch s b)
    (n : CountsSync s m b d) (sound : Sound s) (goes : Goes (chain_blocks m c) m t) where
  -- Two moves for each block of the answers are fewer than a sync is allowed beside the batch.
  drop_share : (k : ℕ) → c.count ≤ k → IsTrue s.device.told → 2 * c.blocks ≤ answers_share s.pool.shape k
  drop_share k few z =
      let low = f.session.sound.shape.block_low in
      let blocks = handed_blocks s m b d c f i z in
      let most = ceiling_share m.pool.shape c.count k few (omega (arith, low)) in
      rw (← f.frames.shape) (omega (arith, blocks, most))

  -- All of them are released.
  drop_session : Session (batch_blocks s b) s t (batch_blocks t d)
  drop_session =
      let gone : Session (chain_blocks m c) m t [] = record {
        sound = goes.sound;
        touches = goes.touches;
        within = record { off = λ z j u o. tt };
        holds = λ z. record { in_use = tt; distinct = λ y. tt };
      } in
      session_as (batch_blocks t d) (session_then (chain_blocks m c) [] (batch_blocks m d) f.session gone)
      (λ z. (handed_beside s m b d c f i t goes).blocks (handed_told s m b d c f i z))

  drop_gives : (e : Chain) → e ≡ empty_chain → t.used + c.blocks ≡ m.used → t.moves ≤ m.moves + 2 * c.blocks
      → GivesAtSync (Some map_share) (Some room) (batch_blocks s b) (batch_blocks t d) (batch_counts b) (batch_counts d)
      s t e
  drop_gives e none used moves = rw none (record {
    is = none_is t;
    packed = λ z. none_packed t;
    session = drop_session;
    n = n.calls;
    syncs = n.syncs;
    pays = pays_then f.pays (pays_kept (batch_unstored d) (omega (arith, used)) goes.touches.moves) goes.touches.moves;
    used = λ z.
        let first = handed_used s m b d c f i z in
        let same = ap (λ (ks : List ℕ). length ks)
        ((handed_beside s m b d c f i t goes).blocks (handed_told s m b d c f i z)) in
        omega (arith, used, first, same);
    spent = λ z.
        let all = handed_entered s m b d c f i n i.before i.since i.has in
        let few = handed_size s m b d c f i z i.before i.since i.has in
        let less = entered_later s b i.before i.since i.has (Sync ∷ []) in
        let rest = drop_share (entered_size d) (omega (arith, all, few)) z in
        sync_spends b.syncs d.syncs (answers_share s.pool.shape (entered_size b))
        (answers_share s.pool.shape (entered_size d)) (batch_spent b) (batch_spent d) (2 * c.blocks) 0
        s.moves m.moves t.moves n.syncs moves n.moves (omega (arith, rest))
        (times_rise s.pool.shape (entered_size b) (entered_size d) b.syncs sound.shape (omega (arith, all, less)));
  })

  pub dropped_gives : (result : Result Chain EmFault) → IfOk result (λ e. e ≡ empty_chain) → Frees c.blocks m t result
      → IfOk result (GivesAtSync (Some map_share) (Some room) (batch_blocks s b) (batch_blocks t d)
      (batch_counts b) (batch_counts d) s t)
  dropped_gives (Ok e) none frees = drop_gives e none frees.used frees.moves
  dropped_gives (Err fault) none frees = tt

  pub dropped_items : (result : Result Chain EmFault) → IfOk result (λ e. e ≡ empty_chain)
      → IfOk result (λ e. IsTrue s.device.told → (before cs : List Command) → HasCommands s b before cs → chain_items t e ≡ [])
  dropped_items (Ok e) none = λ z before cs h. rw none refl
  dropped_items (Err fault) none = tt

  -- Its moves are within what is allowed, and no block came into use.
  pub dropped_moves : t.moves ≤ m.moves + 2 * c.blocks → (before cs : List Command) → HasCommands s b before cs
      → WithinAllowance (Some map_share) (map_size b.early s.pool.shape (before ++ cs ++ Sync ∷ []))
      (b.syncs + 1) (batch_counts b).spent s t
  dropped_moves moves before cs h = λ z.
      let size = map_size b.early s.pool.shape (before ++ cs ++ Sync ∷ []) in
      let own = n.moves in
      let rest = drop_share size (handed_size s m b d c f i z before cs h) z in
      let share = share_at s.pool.shape (batch_spent d) size size d.syncs (b.syncs + 1) refl n.syncs (n.joined z before cs h) in
      call_moves s.pool.shape size (entered_size b) b.syncs (b.syncs + 1) (batch_spent b) (batch_spent d) (2 * c.blocks)
      s.moves t.moves sound.shape (entered_later s b before cs h (Sync ∷ [])) (omega arith) (omega (arith, moves, own))
      share rest

  pub dropped_room : t.most ≡ m.most → (IsTrue s.device.told → BatchWithin b.calls s m b)
      → WithinRoom (Some room) ((batch_counts b).n + 1) (batch_blocks s b) s t
  dropped_room most w = λ z.
      let first = (w z).most in
      let own = settled_room s b i sound z in
      record { is = omega (arith, most, first, own) }

  pub dropped_full : (result : Result Chain EmFault) → IfErr result (BlockCause m t)
      → IfErr result (FullOverRoom (Some room) ((batch_counts b).n + 1) (batch_blocks s b) s)
  dropped_full (Ok e) cause = tt
  dropped_full (Err fault) cause = λ z. block_never m t fault (λ used. used + length (batch_blocks s b)
      < s.used + room s.pool.shape (b.calls + 1)) cause

  pub dropped_owes : (result : Result Chain EmFault) → t.used ≤ m.used
      → OnErr result (Pays (batch_counts b).unstored (2 * s.pool.shape.frames) s t)
  dropped_owes (Ok e) used = tt
  dropped_owes (Err fault) used =
      let low = sound.shape.frames_low in
      let kept : Pays 0 0 m t = pays_kept 0 used goes.touches.moves in
      pays_then f.pays (pays_more {p = batch_unstored d} {q = 2 * s.pool.shape.frames} kept (omega (arith, low)))
      goes.touches.moves

  pub dropped_cause : (result : Result Chain EmFault) → IfErr result (BlockCause m t) → IfErr result (Cause s t)
  dropped_cause (Ok e) cause = tt
  dropped_cause (Err fault) cause = cause_after (batch_blocks s b) s m t fault f.session.touches (block_cause m t fault cause)
