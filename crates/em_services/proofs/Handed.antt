-- A sync of a batch handed out its answers, and a call took them, which left the batch as it was.
use Rattle.std.proofs.Common.{◌≡◌, ℕ, ◌+◌, ◌≤◌, List, [], ◌∷◌, ◌++◌, length, length-append, ap, sym, subst, ◌∙◌, ◌*◌, arith, IsTrue}
use Rattle.em_record.specs.Cost.{room}
use Rattle.em_record.specs.Shape.{payload_of}
use Rattle.em_frames.specs.Pool.{singles_of}
use Rattle.em_model.specs.declared.command.Command.{Command}
use Rattle.em_model.specs.declared.command.Command.TheVariants.{Sync}
use Rattle.em_space.specs.Rig.{Goes, RigState, Sound}
use Rattle.em_space.proofs.Apart.{off_left}
use Rattle.em_space.proofs.Sessions.{session_others}
use Rattle.em_space.proofs.Within.{touches_within}
use Rattle.em_chain.specs.Chain.{chain_blocks, chain_items}
use Rattle.em_chain.specs.Counts.{ceiling}
use Rattle.em_chain.specs.declared.chain.Chain.{Chain}
use Rattle.em_chain.proofs.Counts.{packed_blocks}
use Rattle.em_chain.proofs.Readers.{length_items}
use Rattle.em_tree_cost.specs.Shares.{tree_room}
use Rattle.em_tree_cost.proofs.Rising.{tree_room_rises}
use Rattle.em_tree_walk.proofs.Losses.{chain_length}
use Rattle.em_map.specs.Areas.{KeepsAreas, SharesAreas}
use Rattle.em_map.specs.Batch.{BatchHasFrames, CountsSync, HasCommands, SyncedBatch, answers_room, areas_of, batch_blocks, batch_spent, rule_of, trunk_of}
use Rattle.em_map.specs.declared.batch.Batch.{Batch}
use Rattle.em_map.proofs.Rooms.{held_blocks, none_given}
use Rattle.em_map.proofs.Stays.{BatchStays, batch_beside}
use Rattle.em_ready.proofs.RoomLaws.{room_rises}
use Rattle.em_services.specs.BatchLaws.{frames_stay}
use Rattle.em_services.specs.BatchService.{IsGivenBatch, answers_share, batch_counts, entered_size, map_share, map_size}
use Rattle.em_services.specs.Service.{FramesOut}
use Rattle.em_services.proofs.AnswerOrder.{answers_gets}
use Rattle.em_services.proofs.BatchSizes.{answers_later, batch_room, entered_all}
use Rattle.em_services.proofs.Moves.{within_map}

-- What a batch holds while it is settled is within the room of a command more.
pub settled_room : {F : Type 0} (s : RigState) (b : Batch F) → IsGivenBatch s b → Sound s → IsTrue s.device.told
    → tree_room s.pool.shape b.calls + answers_room s b b.calls ≤ room s.pool.shape (b.calls + 1)
settled_room s b i sound z =
    let one = batch_room s b b.calls i sound.shape z (omega arith) in
    let more = room_rises s.pool.shape b.calls (b.calls + 1) (omega arith) in
    omega (arith, one, more)

-- The tree was settled, and handed out the answers: no more of them than commands, and within their size,
module _ {F : Type 0} (s m : RigState) (b d : Batch F) (c : Chain) (f : SyncedBatch s m b d c) (i : IsGivenBatch s b) where
  pub handed_told : IsTrue s.device.told → IsTrue m.device.told
  handed_told z = f.session.touches.told ∙ z

  pub handed_fewer : IsTrue s.device.told → c.count + (trunk_of b).adopted ≤ b.calls
  handed_fewer z =
      let n = length_items m c f.chain (handed_told z) in
      let l = answers_gets (rule_of b) i.before i.since (chain_items m c) (f.ordered z i.before i.since i.has) in
      let base = i.has.base in
      omega (arith, n, l, base)

  pub handed_count : IsTrue s.device.told → c.count ≤ b.calls
  handed_count z = let n = handed_fewer z in omega (arith, n)

  pub handed_size : IsTrue s.device.told → (before cs : List Command) → HasCommands s b before cs
      → c.count ≤ map_size b.early s.pool.shape (before ++ cs ++ Sync ∷ [])
  handed_size z before cs h =
      let n = length_items m c f.chain (handed_told z) in
      let l = answers_later s b before cs h (chain_items m c) (Sync ∷ []) (f.ordered z before cs h) in
      omega (arith, n, l)

  -- in packed blocks,
  pub handed_blocks : IsTrue s.device.told → c.blocks ≡ ceiling c.count (payload_of m.pool.shape)
  handed_blocks z = packed_blocks m c f.session.sound.shape.block_low f.chain (handed_told z) (f.packed z)

  pub handed_used : IsTrue s.device.told → m.used + length (batch_blocks s b) ≡ s.used + (c.blocks + length (batch_blocks m d))
  handed_used z =
      let used = f.loses z in
      let own = chain_length f.chain (handed_told z) in
      let parts = length-append (chain_blocks m c) (batch_blocks m d) in
      omega (arith, used, own, parts)

  -- beside which the tree is within its room.
  calls_one : d.calls ≤ b.calls + 1
  calls_one =
      let before = i.has.calls in
      let after = (f.commands i.before i.since i.has).calls in
      let one = length-append (i.before ++ i.since) (Sync ∷ []) in
      let all = length-append i.before i.since in
      omega (arith, after, before, one, all)

  pub handed_tree : IsTrue s.device.told → length (batch_blocks m d) ≤ tree_room m.pool.shape (b.calls + 1)
  handed_tree z =
      let has = f.commands i.before i.since i.has in
      let own = held_blocks m d f.session.sound f.is (handed_told z) in
      let none = none_given m d (i.before ++ i.since ++ Sync ∷ []) f.session.sound f.is has (handed_told z) in
      let rises = tree_room_rises m.pool.shape d.calls (b.calls + 1) calls_one in
      omega (arith, own, none, rises)

  -- All its commands entered the tree,
  pub handed_entered : CountsSync s m b d → (before cs : List Command) → HasCommands s b before cs
      → entered_size d ≡ map_size b.early s.pool.shape (before ++ cs ++ Sync ∷ [])
  handed_entered n before cs h =
      entered_all s m b d f.frames.shape n.early (before ++ cs ++ Sync ∷ []) f.areas (f.commands before cs h)

  -- by which its calls and the answers of its syncs are within what it is allowed,
  pub handed_within : CountsSync s m b d → IsTrue s.device.told → (before cs : List Command) → HasCommands s b before cs
      → (batch_counts d).spent s.pool.shape
      ≤ (d.syncs + 1) * map_share s.pool.shape (map_size b.early s.pool.shape (before ++ cs ++ Sync ∷ []))
  handed_within n z before cs h =
      let size = map_size b.early s.pool.shape (before ++ cs ++ Sync ∷ []) in
      let all = within_map s.pool.shape size d.syncs (batch_spent d) (n.joined z before cs h) in
      subst (λ (k : ℕ). batch_spent d + d.syncs * answers_share s.pool.shape k ≤ (d.syncs + 1) * map_share s.pool.shape size)
      (sym (handed_entered n before cs h)) all

  -- and a call took the answers: the batch's area came back, no other is out, and its two frames are.
  module _ (t : RigState) (goes : Goes (chain_blocks m c) m t) where
    handed_shares : SharesAreas (areas_of b) (areas_of d) s.pool t.pool
    handed_shares =
        let same = goes.frames in
        record {
          shape = same.shape ∙ f.frames.shape;
          free = same.free ∙ f.frames.free;
          areas = let none = f.areas in omega (arith, none, f.frames.areas, same.free_areas);
          rack = same.rack ∙ f.frames.rack;
          peak = omega (arith, f.frames.peak, same.peak);
        }

    pub handed_goes : KeepsAreas (areas_of b) (areas_of d) (batch_blocks s b) s t
    handed_goes = record {
      sound = goes.sound;
      touches = touches_within s m t (batch_blocks s b) (chain_blocks m c) f.session.touches
          (record { off = λ z j u k. off_left j (chain_blocks m c) (batch_blocks m d) (f.session.within.off z j u k) })
          goes.touches;
      frames = handed_shares;
    }

    frames_out : FramesOut 2 (areas_of d) t.pool
    frames_out =
        let out = f.is.is.running.frames.out in
        let same = goes.frames in
        let shape = ap singles_of same.shape in
        let none = f.areas in
        record { is = omega (arith, out, same.free, shape); areas = λ some. absurd (omega (arith, none, some)) }

    pub handed_frames : BatchHasFrames t d
    handed_frames = frames_stay d (chain_blocks m c) m t
        (record { tree = f.is.is.running.frames; area = f.is.area }) goes.touches frames_out

    -- It goes on from there.
    pub handed_beside : BatchStays m t d
    handed_beside =
        batch_beside (chain_blocks m c) m t d goes.touches frames_out.is frames_out.areas f.is
        (λ z. session_others (chain_blocks m c) (batch_blocks m d) f.session (sym f.session.touches.told ∙ z))

    pub handed_is : IsGivenBatch t d
    handed_is = record {
      is = handed_beside.is;
      before = i.before ++ i.since ++ Sync ∷ [];
      since = [];
      has = handed_beside.commands (i.before ++ i.since ++ Sync ∷ []) [] (f.commands i.before i.since i.has);
    }

    pub handed_has : (before cs : List Command) → HasCommands s b before cs → HasCommands t d (before ++ cs ++ Sync ∷ []) []
    handed_has before cs h = handed_beside.commands (before ++ cs ++ Sync ∷ []) [] (f.commands before cs h)
