-- The end of a dump: its batch handed out the tree, and the pairs stand in a list.
use Rattle.std.proofs.Common.{◌≡◌, ℕ, ◌+◌, ◌*◌, ◌<◌, ◌≤◌, ◌^◌, false, Bool, max, List, [], ◌++◌, length, ap, sym, subst, ◌∙◌, arith, IsTrue, Some, Result, Ok, Err, IfOk, IfErr, OnErr}
use Rattle.std.specs.Int.{div_ceil}
use Rattle.em_record.specs.Cost.{room}
use Rattle.em_record.specs.Shape.{ShapeNumbers, fan_of, payload_of}
use Rattle.em_record.specs.declared.record.Record.{Record}
use Rattle.em_frames.specs.Pool.{GivenFrames}
use Rattle.em_model.specs.Map.{Combiner}
use Rattle.em_model.specs.Pairs.{pairs_after}
use Rattle.em_model.specs.declared.command.Command.{Command}
use Rattle.em_settle.specs.Add.{add_step_of}
use Rattle.em_settle.specs.Map.{map_key_of}
use Rattle.em_space.specs.Queue.{Pays}
use Rattle.em_space.specs.Rig.{Cause, RigState, Sound}
use Rattle.em_space.specs.declared.fault.EmFault.{EmFault}
use Rattle.em_space.proofs.Paying.{pays_more, pays_then}
use Rattle.em_space.proofs.Steps.{cause_after}
use Rattle.em_space.proofs.Within.{touches_within, within_then}
use Rattle.em_chain.specs.Chain.{chain_blocks, chain_items}
use Rattle.em_chain.specs.Counts.{ceiling}
use Rattle.em_chain.specs.declared.chain.Chain.{Chain}
use Rattle.em_chain.proofs.Sessions.{ceiling_rises}
use Rattle.em_tree_model.specs.Meaning.{tree_answers}
use Rattle.em_tree_model.specs.Owed.{owed}
use Rattle.em_tree_model.proofs.Takes.{nothing_owed}
use Rattle.em_tree_cost.specs.Shares.{tree_share}
use Rattle.em_tree_cost.proofs.Ceilings.{ceil_is, ceil_mono, ceiling_is}
use Rattle.em_tree_cost.proofs.Rising.{tree_room_rises}
use Rattle.em_tree_walk.proofs.Losses.{chain_length}
use Rattle.em_trunk.specs.Trunk.{given_by, model_of, trunk_blocks}
use Rattle.em_trunk.specs.declared.trunk.Trunk.{Trunk}
use Rattle.em_map.specs.Areas.{GivenWithAreas}
use Rattle.em_map.specs.Batch.{BatchWithin, HasCommands, IsBatch, areas_in, areas_of, batch_blocks, batch_spent, rule_of, trunk_of}
use Rattle.em_map.specs.Handing.{HandedTree}
use Rattle.em_map.specs.Loading.{answers_in}
use Rattle.em_map.specs.declared.batch.Batch.{Batch}
use Rattle.em_ready.proofs.RoomLaws.{ceiling_most, commands_room, when_full}
use Rattle.em_services.specs.BatchLaws.{n_is}
use Rattle.em_services.specs.BatchService.{IsGivenBatch, batch_counts, entered_size, map_share, map_size}
use Rattle.em_services.specs.DumpLaws.{pairs_records_few}
use Rattle.em_services.specs.Listing.{CanList, HasFew, HasRecords, ListsPairs, ListsWithin, listing_moves, listing_room}
use Rattle.em_map.specs.Over.{records_of_pairs}
use Rattle.em_services.specs.Service.{CanAnswer, FullOverRoom, GivesFrames, LeavesAnswers, WithinAllowance, WithinRoom}
use Rattle.em_services.proofs.BatchSizes.{batch_room}
use Rattle.em_services.proofs.DumpMoves.{dump_moves, end_moves}
use Rattle.em_services.proofs.PairRecords.{has_pairs}

-- If adds aren't joined early, the size of commands is their number,
pub plain_size : {F : Type 0} (b : Batch F) (shape : ShapeNumbers) (cs : List Command) → b.early ≡ false
    → map_size b.early shape cs ≡ length cs
plain_size b shape cs plain = ap (λ (early : Bool). map_size early shape cs) plain

-- and no area is held.
pub no_area : {F : Type 0} (s : RigState) (b : Batch F) → IsBatch s b → b.early ≡ false → areas_of b ≡ 0
no_area s b i plain = ap areas_in (i.plain plain)

module _ {F : Type 0} (s m : RigState) (b : Batch F) (v : Trunk) (h : HandedTree s m b v) (i : IsGivenBatch s b)
    (plain : b.early ≡ false) where
  told_m : IsTrue s.device.told → IsTrue m.device.told
  told_m z = h.session.touches.told ∙ z

  -- The tree has the pairs that the commands leave, no more than these,
  handed_pairs : IsTrue s.device.told → (before cs : List Command) → HasCommands s b before cs
      → HasRecords (rule_of b) m v (records_of_pairs (pairs_after (rule_of b) (before ++ cs)))
  handed_pairs z before cs k = has_pairs (rule_of b) (before ++ cs) m v (h.contents z before cs k)

  pairs_few : (before cs : List Command) → HasCommands s b before cs
      → length (records_of_pairs (pairs_after (rule_of b) (before ++ cs))) ≤ b.calls
  pairs_few before cs k =
      let few = pairs_records_few (rule_of b) (before ++ cs) in
      let n = n_is b s before cs k in
      omega (arith, few, n)

  pub handed_few : (trunk_of b).adopted ≡ 0 → (rule : Combiner) → rule ≡ rule_of b → IsTrue m.device.told → HasFew rule (2 ^ 40) m v
  handed_few own rule same z =
      let here : IsTrue s.device.told = sym h.session.touches.told ∙ z in
      let few = pairs_few i.before i.since i.has in
      let calls = i.is.few in
      subst (λ (r : Combiner). HasFew r (2 ^ 40) m v) (sym same) (record {
        list = records_of_pairs (pairs_after (rule_of b) (i.before ++ i.since));
        has = handed_pairs here i.before i.since i.has;
        few = omega (arith, few, calls, own);
      })

  -- and the frames for listing these are free.
  pub handed_free : CanAnswer (areas_of b) s.pool → CanList m.pool
  handed_free free =
      let none = no_area s b i.is plain in
      let fan = ap fan_of h.frames.shape in
      let two = free.areas in
      record {
        free = record {
          singles = omega (arith, free.singles, fan, h.frames.free);
          areas = omega (arith, two, none, h.frames.free_areas);
          rack = h.frames.rack ∙ free.rack;
        };
        areas = omega (arith, two, none, h.frames.free_areas);
      }

  pub handed_resets : v.resets < 2 ^ 100
  handed_resets = let none = h.resets in omega (arith, none)

  pub handed_settled : v.settled < 2 ^ 100
  handed_settled =
      let settled = h.settled in
      let few = i.is.few in
      let all = i.is.alone plain in
      omega (arith, settled, few, i.is.few_adopted, all)

  -- No answer is left of it,
  none_due : IsTrue s.device.told → answers_in (rule_of b) m v ≡ 0
  none_due z =
      let step = add_step_of (rule_of b) in
      let none : tree_answers map_key_of step (given_by m v) (model_of m v) ≡ [] =
      ap (λ (xs : List Record). xs ++ owed map_key_of step (model_of m v)) (h.given z)
      ∙ nothing_owed map_key_of step (model_of m v) (h.waiting z) in
      ap (λ (xs : List Record). length xs) none

  none_filled : IsTrue s.device.told → ceiling (answers_in (rule_of b) m v) (payload_of m.pool.shape) ≡ 0
  none_filled z =
      let low = h.session.sound.shape.block_low in
      let some : 0 < payload_of m.pool.shape = omega (arith, low) in
      ap (λ (n : ℕ). ceiling n (payload_of m.pool.shape)) (none_due z) ∙ ceiling_none (payload_of m.pool.shape) some
    where
      ceiling_none : (p : ℕ) → 0 < p → ceiling 0 p ≡ 0
      ceiling_none p some = let least = ceiling_most 0 p 0 some (omega arith) in omega (arith, least)

  handed_used : IsTrue s.device.told → m.used + length (batch_blocks s b) ≡ s.used + length (trunk_blocks m v)
  handed_used z = h.loses z

  -- so that tree and list are within the room of all commands.
  list_room : IsTrue s.device.told → Sound s → (n : ℕ) → n ≤ b.calls
      → listing_room m.pool.shape v (answers_in (rule_of b) m v) n ≤ room s.pool.shape b.calls
  list_room z sound n few =
      let low = h.session.sound.shape.block_low in
      let none = none_filled z in
      let longest = h.longest in
      let pushed = i.is.longest in
      let calls = i.is.entries in
      let rises = ceiling_rises n b.calls (payload_of m.pool.shape) (omega (arith, low)) few in
      let tree = tree_room_rises m.pool.shape v.longest b.calls (omega (arith, longest, pushed, calls)) in
      let fits = commands_room m.pool.shape b.calls b.calls (ceiling b.calls (payload_of m.pool.shape))
      h.session.sound.shape (omega arith) (omega arith) in
      rw (← h.frames.shape) (omega (arith, none, rises, tree, fits))

  own_room : IsTrue s.device.told → Sound s → BatchWithin b.calls s m b
      → m.most + length (batch_blocks s b) ≤ max (s.most + length (batch_blocks s b)) (s.used + room s.pool.shape b.calls)
  own_room z sound w =
      let fits = batch_room s b b.calls i sound.shape z (omega arith) in
      let most = w.most in
      omega (arith, fits, most)

  -- The pairs were listed, or a call gave up.
  module _ (t : RigState) where
    frames_back : GivenFrames 2 m.pool t.pool → GivenWithAreas 2 (areas_of b) s.pool t.pool
    frames_back back =
        let none = no_area s b i.is plain in
        record {
          shape = back.shape ∙ h.frames.shape;
          free = omega (arith, back.free, h.frames.free);
          rack = back.rack ∙ h.frames.rack;
          free_areas = omega (arith, back.free_areas, h.frames.free_areas, none);
          peak = omega (arith, back.peak, h.frames.peak);
        }

    pub pairs_gives : (result : Result Chain EmFault) → ListsPairs (rule_of b) m t v result
        → GivesFrames 2 (areas_of b) (batch_blocks s b) s t
    pairs_gives (Ok c) l = record {
      sound = l.session.sound;
      touches = touches_within s m t (batch_blocks s b) (trunk_blocks m v) h.session.touches h.session.within
          l.session.touches;
      frames_are = frames_back l.frames;
    }
    pairs_gives (Err fault) l = record {
      sound = l.sound;
      touches = touches_within s m t (batch_blocks s b) (trunk_blocks m v) h.session.touches h.session.within l.touches;
      frames_are = frames_back l.frames;
    }

    pub pairs_leaves : (result : Result Chain EmFault) → ListsPairs (rule_of b) m t v result
        → IfOk result (LeavesAnswers (Some room) (batch_blocks s b) (batch_counts b) s t)
    pairs_leaves (Ok c) l = record {
      is = l.chain;
      packed = λ z. l.packed (told_m z);
      within = within_then s m (batch_blocks s b) (trunk_blocks m v) (chain_blocks t c) h.session.touches h.session.within
          l.session.within;
      pays = pays_then h.pays l.pays l.session.touches.moves;
      used = λ z.
          let first = h.loses z in
          let last = l.loses (told_m z) in
          let own = chain_length l.chain (l.session.touches.told ∙ told_m z) in
          omega (arith, first, last, own);
    }
    pairs_leaves (Err fault) l = tt

    pub pairs_items : (result : Result Chain EmFault) → ListsPairs (rule_of b) m t v result
        → IfOk result (λ c. IsTrue s.device.told → (before cs : List Command) → HasCommands s b before cs
        → chain_items t c ≡ records_of_pairs (pairs_after (rule_of b) (before ++ cs)))
    pairs_items (Ok c) l = λ z before cs k. l.items (told_m z) _ (handed_pairs z before cs k)
    pairs_items (Err fault) l = tt

    pub pairs_owes : (result : Result Chain EmFault) → ListsPairs (rule_of b) m t v result → Sound s
        → OnErr result (Pays (batch_counts b).unstored (2 * s.pool.shape.frames) s t)
    pairs_owes (Ok c) l sound = tt
    pairs_owes (Err fault) l sound =
        let frames = ap (λ (p : ShapeNumbers). p.frames) h.frames.shape in
        let low = sound.shape.frames_low in
        pays_then h.pays (pays_more l.pays (omega (arith, frames, low))) l.touches.moves

    pub pairs_cause : (result : Result Chain EmFault) → ListsPairs (rule_of b) m t v result → IfErr result (Cause s t)
    pairs_cause (Ok c) l = tt
    pairs_cause (Err fault) l = cause_after (batch_blocks s b) s m t fault h.session.touches l.cause

    pub pairs_full : (result : Result Chain EmFault) → ListsPairs (rule_of b) m t v result → Sound s
        → (before cs : List Command) → HasCommands s b before cs
        → IfErr result (FullOverRoom (Some room) (length (before ++ cs)) (batch_blocks s b) s)
    pairs_full (Ok c) l sound before cs k = tt
    pairs_full (Err fault) l sound before cs k = λ z.
        let n = length (records_of_pairs (pairs_after (rule_of b) (before ++ cs))) in
        let used = h.loses z in
        let fits = list_room z sound n (pairs_few before cs k) in
        when_full fault
        (λ u. u + length (trunk_blocks m v) < m.used + listing_room m.pool.shape v (answers_in (rule_of b) m v) n)
        (λ u. u + length (batch_blocks s b) < s.used + room s.pool.shape (length (before ++ cs)))
        (λ u less. rw (← n_is b s before cs k) (omega (arith, less, used, fits)))
        (l.full (told_m z) _ (handed_pairs z before cs k))

    module _ (within : IsTrue m.device.told → (xs : List Record) → HasRecords (rule_of b) m v xs
        → ListsWithin (rule_of b) (trunk_blocks m v) m t v (length xs)) (sound : Sound s) where
      pub pairs_room : (IsTrue s.device.told → BatchWithin b.calls s m b) → (before cs : List Command)
          → HasCommands s b before cs → WithinRoom (Some room) (length (before ++ cs)) (batch_blocks s b) s t
      pairs_room w before cs k = λ z.
          let n = length (records_of_pairs (pairs_after (rule_of b) (before ++ cs))) in
          let first = own_room z sound (w z) in
          let last = (within (told_m z) _ (handed_pairs z before cs k)).room.is in
          let used = h.loses z in
          let fits = list_room z sound n (pairs_few before cs k) in
          rw (← n_is b s before cs k) (record { is = omega (arith, first, last, used, fits) })

      pub pairs_moves : s.moves ≤ m.moves → (before cs : List Command) → HasCommands s b before cs
          → WithinAllowance (Some map_share) (length (before ++ cs)) (batch_counts b).syncs (batch_counts b).spent s t
      pairs_moves later before cs k = λ z.
          let c = b.calls in
          let shape = s.pool.shape in
          let n = length (records_of_pairs (pairs_after (rule_of b) (before ++ cs))) in
          let low = sound.shape.block_low in
          let P = payload_of shape in
          let some : 0 < P = omega (arith, low) in
          let few = pairs_few before cs k in
          let list = ceil_mono (ceiling n P) (div_ceil c P) P n c (ceiling_is n P some) (ceil_is c P some) few in
          let longest = i.is.longest in
          let pushed = i.is.entries in
          let entered : entered_size b ≤ c = let all = i.is.alone plain in omega (arith, all) in
          let beside = h.beside z in
          let end = end_is z n (within (told_m z) _ (handed_pairs z before cs k)).moves in
          let all = end_moves shape c (v.pushed + v.adopted) v.longest (ceiling n P) b.syncs (batch_spent b) v.spent s.moves m.moves t.moves
          (let same = h.pushed in let own = h.adopted in omega (arith, same, own, pushed)) (let same = h.longest in omega (arith, same, longest, pushed))
          list later beside end in
          rw (← n_is b s before cs k) (dump_moves shape c (entered_size b) b.syncs (batch_spent b) t.moves s.moves sound.shape
          entered all)
        where
          end_is : IsTrue s.device.told → (n : ℕ)
              → t.moves + v.spent ≤ m.moves + listing_moves m.pool.shape v (answers_in (rule_of b) m v) n
              → t.moves + v.spent
              ≤ m.moves + (tree_share s.pool.shape (v.pushed + v.adopted) v.longest 1 (b.syncs + 2) + (2 * ceiling n (payload_of s.pool.shape) + 1))
          end_is z n moves =
              let none = none_filled z in
              let resets : v.resets + 1 ≡ 1 = let r = h.resets in omega (arith, r) in
              let settled : v.settled + 1 ≡ b.syncs + 2 = let y = h.settled in omega (arith, y) in
              let same = ap (λ (k : ℕ). tree_share m.pool.shape (v.pushed + v.adopted) v.longest k (v.settled + 1)) resets
              ∙ ap (λ (k : ℕ). tree_share m.pool.shape (v.pushed + v.adopted) v.longest 1 k) settled in
              rw (← h.frames.shape) (omega (arith, moves, none, same))
