-- A batch as a service: what its calls leave.
use Rattle.std.proofs.Common.{ℕ, ◌+◌, ◌*◌, Bool, List, [], ◌∷◌, ◌++◌, ap, sym, ◌∙◌, refl, arith, Some, Result, Ok, Err, OnOk, OnErr, IfOk, IfErr, ◌≡◌, ◌≤◌, length, IsTrue}
use Rattle.em_frames.specs.Pool.{PoolCounts}
use Rattle.em_lines.specs.Kind.{IsOfKind}
use Rattle.em_lines.specs.declared.text.FileKind.TheVariants.{Map}
use Rattle.em_model.specs.declared.command.Command.{Command}
use Rattle.em_model.specs.declared.command.Command.TheVariants.{Put, Add, Del, Get, Sync, Push, Pop, Interval, Stab}
use Rattle.em_space.specs.Queue.{CanServe, Pays}
use Rattle.em_space.specs.Rig.{Cause, Goes, RigState, Sound}
use Rattle.em_space.specs.declared.fault.EmFault.{EmFault}
use Rattle.em_space.proofs.Paying.{pays_more}
use Rattle.em_chain.specs.Effects.{Unmoved}
use Rattle.em_tree.specs.Calls.{StopsNewTrunk}
use Rattle.em_map.specs.Areas.{KeepsAreas}
use Rattle.em_map.specs.Batch.{BatchHasFrames, BatchOver, BatchWithin, CountsCommand, HasCommands, IsNewBatch, LeavesBatch, TakesTo, answers_room, areas_of, batch_blocks, batch_spent, trunk_of}
use Rattle.em_map.specs.declared.batch.Batch.{Batch}
use Rattle.em_services.specs.BatchLaws.{few_areas}
use Rattle.em_services.specs.BatchService.{IsGivenBatch, answers_share, batch_counts, entered_size, map_share, map_size}
use Rattle.em_services.specs.Service.{CanAnswer, CanSync, CanTake, GivesFrames, MakesService, TakesCommand, WithinAllowance, FullOverRoom, WithinRoom}
use Rattle.em_services.proofs.Areas.{answer_takes, sync_takes, take_serves}
use Rattle.em_services.proofs.BatchSizes.{batch_room, entered_grows, entered_later}
use Rattle.em_services.proofs.Moves.{call_moves, first_within, made_spends, share_at, take_spends, times_rise}
use Rattle.em_services.proofs.OrderedBatch.{share_some}
use Rattle.em_record.specs.Cost.{room}
use Rattle.em_tree_cost.specs.Shares.{batch_share, tree_room}
use Rattle.em_ready.proofs.RoomLaws.{over_used, room_some, two_missing}

-- A batch was made,
pub made : {F : Type 0} (s t : RigState) (result : Result (Batch F) EmFault) → IfOk result (IsNewBatch s t)
    → IfOk result (λ b. MakesService (Some map_share) (Some room) 2 (batch_blocks t b) (batch_counts b) s t)
made s t (Ok b) n = record {
  sound = n.tree.session.sound;
  touches = n.tree.session.touches;
  frames_are = n.tree.frames;
  within = n.tree.session.within;
  n = n.none.calls;
  syncs = n.none.syncs;
  pays = pays_more n.tree.pays (omega arith);
  used = λ z. let used = n.tree.loses z in omega (arith, used);
  spent = made_spends (trunk_of b).spent b.syncs (answers_share s.pool.shape (entered_size b)) s.moves t.moves n.tree.spent;
}
made s t (Err fault) n = tt

-- with at most four moves,
few_moves : (s t : RigState) → t.moves ≤ s.moves + 4 → 0 + t.moves ≤ s.moves + (0 + 1) * map_share s.pool.shape 0
few_moves s t moves =
    let some = share_some s.pool.shape (2 * 0) (2 * 0) in
    first_within (batch_share s.pool.shape 0) (answers_share s.pool.shape 0) s.moves t.moves moves
    (omega (arith, some))

pub made_moves : {F : Type 0} (s t : RigState) (result : Result (Batch F) EmFault) → IfOk result (IsNewBatch s t)
    → IfErr result (StopsNewTrunk s t) → WithinAllowance (Some map_share) 0 0 (λ shape. 0) s t
made_moves s t (Ok b) n h = λ z. few_moves s t n.tree.moves
made_moves s t (Err fault) n h = λ z. few_moves s t h.moves

-- and at most two blocks,
pub made_room : {F : Type 0} (s t : RigState) (result : Result (Batch F) EmFault) → IfOk result (IsNewBatch s t)
    → IfErr result (StopsNewTrunk s t) → WithinRoom (Some room) 0 [] s t
made_room s t (Ok b) n h = λ z.
    let most = n.tree.most in
    let some = room_some s.pool.shape 0 in record { is = omega (arith, most, some) }
made_room s t (Err fault) n h = λ z.
    let most = h.most in
    let some = room_some s.pool.shape 0 in record { is = omega (arith, most, some) }

pub made_full : {F : Type 0} (s t : RigState) (result : Result (Batch F) EmFault)
    → IfErr result (StopsNewTrunk s t) → IfErr result (FullOverRoom (Some room) 0 [] s)
made_full s t (Ok b) h = tt
made_full s t (Err fault) h = λ z.
    let some = room_some s.pool.shape 0 in
    two_missing fault 0 (room s.pool.shape 0) s t h.full h.cause h.goes.touches.blocks (omega (arith, some))

pub made_given : {F : Type 0} (s t : RigState) (result : Result (Batch F) EmFault) → IfOk result (IsNewBatch s t)
    → IfOk result (IsGivenBatch t)
made_given s t (Ok b) n = record { is = n.is; before = []; since = []; has = n.none }
made_given s t (Err fault) n = tt

pub made_none : {F : Type 0} (s t : RigState) (result : Result (Batch F) EmFault) → IfOk result (IsNewBatch s t)
    → IfOk result (λ b. HasCommands t b [] [])
made_none s t (Ok b) n = n.none
made_none s t (Err fault) n = tt

-- It holds no area, and its size is that of its rule,
pub made_areas : {F : Type 0} (s t : RigState) (result : Result (Batch F) EmFault) → IfOk result (IsNewBatch s t)
    → IfOk result (λ b. areas_of b ≡ 0)
made_areas s t (Ok b) n = n.areas
made_areas s t (Err fault) n = tt

pub made_size : {F : Type 0} (early : Bool) (result : Result (Batch F) EmFault) → IfOk result (λ b. b.early ≡ early)
    → IfOk result (λ b. map_size b.early ≡ map_size early)
made_size early (Ok b) e = ap map_size e
made_size early (Err fault) e = tt

-- by which it joins adds early or not,
pub made_early : {F : Type 0} (early is : Bool) (result : Result (Batch F) EmFault) → early ≡ is
    → IfOk result (λ b. b.early ≡ is) → IfOk result (λ b. b.early ≡ early)
made_early early is (Ok b) e h = h ∙ sym e
made_early early is (Err fault) e h = tt

-- or it wasn't made.
pub unmade_goes : {F : Type 0} (s t : RigState) (result : Result (Batch F) EmFault)
    → IfErr result (StopsNewTrunk s t) → OnErr result (Goes [] s t)
unmade_goes s t (Ok b) h = tt
unmade_goes s t (Err fault) h = h.goes

pub unmade_owes : {F : Type 0} (s t : RigState) (result : Result (Batch F) EmFault)
    → IfErr result (StopsNewTrunk s t) → Sound s → OnErr result (Pays 0 s.pool.shape.frames s t)
unmade_owes s t (Ok b) h sound = tt
unmade_owes s t (Err fault) h sound =
    let low = sound.shape.frames_low in pays_more h.pays (omega (arith, low))

pub unmade_cause : {F : Type 0} (s t : RigState) (result : Result (Batch F) EmFault)
    → IfErr result (StopsNewTrunk s t) → IfErr result (Cause s t)
unmade_cause s t (Ok b) h = tt
unmade_cause s t (Err fault) h = h.cause

-- The frames of a command, of a sync and of the answers are those of a call on its tree, beside the area that it may hold.
pub take_free : {F : Type 0} (b : Batch F) (p : PoolCounts) → CanTake (areas_of b) p → CanServe p
take_free b p c = take_serves (areas_of b) p (few_areas b) c

pub sync_free : {F : Type 0} (b : Batch F) (p : PoolCounts) → CanSync (areas_of b) p → CanServe p
sync_free b p c = take_free b p (sync_takes (areas_of b) p c)

pub answers_free : {F : Type 0} (b : Batch F) (p : PoolCounts) → CanAnswer (areas_of b) p → CanServe p
answers_free b p c = take_free b p (answer_takes (areas_of b) p c)

-- A map's command that is no sync is one of four.
pub no_other : (c : Command) → IsOfKind Map c → (c ≡ Sync → ⊥) → ((x y : ℕ) → c ≡ Put x y → ⊥)
    → ((x : ℕ) → c ≡ Del x → ⊥) → ((x y : ℕ) → c ≡ Add x y → ⊥) → ((x : ℕ) → c ≡ Get x → ⊥) → ⊥
no_other (Put key value) kind sync put del add get = put key value refl
no_other (Del key) kind sync put del add get = del key refl
no_other (Add key value) kind sync put del add get = add key value refl
no_other (Get key) kind sync put del add get = get key refl
no_other Sync kind sync put del add get = sync refl
no_other (Push key value) kind sync put del add get = kind
no_other Pop kind sync put del add get = kind
no_other (Interval low high) kind sync put del add get = kind
no_other (Stab point) kind sync put del add get = kind

-- A command was given to it, by which its size is counted as before,
pub take_size : {F : Type 0} (c : Command) (s t : RigState) (b d : Batch F) → CountsCommand c s t b d
    → map_size d.early ≡ map_size b.early
take_size c s t b d n = ap map_size n.early

-- with at most the moves of its share,
pub take_moves : {F : Type 0} (c : Command) (s t : RigState) (b d : Batch F) → Sound s → CountsCommand c s t b d
    → (before cs : List Command) → HasCommands s b before cs
    → WithinAllowance (Some map_share) (map_size b.early s.pool.shape (before ++ cs ++ c ∷ [])) (batch_counts b).syncs
    (batch_counts b).spent s t
take_moves c s t b d sound n before cs h = λ z.
    let size = map_size b.early s.pool.shape (before ++ cs ++ c ∷ []) in
    let share = share_at s.pool.shape (batch_spent d) size size d.syncs b.syncs refl n.syncs (n.joined z before cs h) in
    let moves = n.moves in
    call_moves s.pool.shape size (entered_size b) b.syncs b.syncs (batch_spent b) (batch_spent d) 0 s.moves t.moves
    sound.shape (entered_later s b before cs h (c ∷ [])) (omega arith) (omega (arith, moves)) share (omega arith)

-- and at most the blocks of its room,
module _ {F : Type 0} (s t : RigState) (b : Batch F) (i : IsGivenBatch s b) (sound : Sound s) where
  own_room : IsTrue s.device.told → tree_room s.pool.shape (b.calls + 1) + answers_room s b (b.calls + 1)
      ≤ room s.pool.shape (b.calls + 1)
  own_room z = batch_room s b (b.calls + 1) i sound.shape z (omega arith)

  pub take_room : (IsTrue s.device.told → BatchWithin (b.calls + 1) s t b)
      → WithinRoom (Some room) ((batch_counts b).n + 1) (batch_blocks s b) s t
  take_room w = λ z.
      let most = (w z).most in
      let own = own_room z in record { is = omega (arith, most, own) }

  pub take_full : {T : Type 0} (result : Result T EmFault)
      → IfErr result (λ fault. IsTrue s.device.told → BatchOver (b.calls + 1) s b fault)
      → IfErr result (Cause s t) → t.blocks ≡ s.blocks
      → IfErr result (FullOverRoom (Some room) ((batch_counts b).n + 1) (batch_blocks s b) s)
  take_full (Ok x) over cause same = tt
  take_full (Err fault) over cause same = λ z.
      over_used fault (length (batch_blocks s b)) s.used
      (tree_room s.pool.shape (b.calls + 1) + answers_room s b (b.calls + 1))
      (room s.pool.shape (b.calls + 1)) s t (over z).full cause same (own_room z)

-- or the call gave up.
module _ {F : Type 0} (T : Type 0) (c : Command) (s t : RigState) (b d : Batch F) where
  pub take_goes : (result : Result T EmFault) → TakesTo c s t b d result
      → KeepsAreas (areas_of b) (areas_of d) (batch_blocks s b) s t
  take_goes (Ok x) h = record { sound = h.session.sound; touches = h.session.touches; frames = h.frames }
  take_goes (Err fault) h = h.goes

  pub take_frames : (result : Result T EmFault) → TakesTo c s t b d result → BatchHasFrames t d
  take_frames (Ok x) h = record { tree = h.is.is.running.frames; area = h.is.area }
  take_frames (Err fault) h = h.frames

  pub take_is : (result : Result T EmFault) → TakesTo c s t b d result → IsGivenBatch s b
      → OnOk result (IsGivenBatch t d)
  take_is (Ok x) h i = record {
    is = h.is;
    before = i.before;
    since = i.since ++ c ∷ [];
    has = h.commands i.before i.since i.has;
  }
  take_is (Err fault) h i = tt

  pub take_has : (result : Result T EmFault) → TakesTo c s t b d result
      → OnOk result ((before cs : List Command) → HasCommands s b before cs → HasCommands t d before (cs ++ c ∷ []))
  take_has (Ok x) h = h.commands
  take_has (Err fault) h = tt

  pub takes : (result : Result T EmFault) → TakesTo c s t b d result → CountsCommand c s t b d → IsGivenBatch s b
      → Sound s
      → OnOk result (TakesCommand (Some map_share) (Some room) 0 (batch_blocks s b) (batch_blocks t d)
      (batch_counts b) (batch_counts d) s t)
  takes (Ok x) h n i sound = record {
    within = h.session.within;
    n = n.calls;
    syncs = let syncs = n.syncs in omega (arith, syncs);
    pays = h.pays;
    used = λ z. h.loses z;
    spent = λ z.
        let moves = n.moves in
        let grows = entered_grows s t b d h.frames.shape n.early i.before i.since c i.has
        (h.commands i.before i.since i.has) in
        take_spends b.syncs d.syncs (answers_share s.pool.shape (entered_size b))
        (answers_share s.pool.shape (entered_size d)) (batch_spent b) (batch_spent d) s.moves t.moves n.syncs
        (omega (arith, moves)) (times_rise s.pool.shape (entered_size b) (entered_size d) b.syncs sound.shape grows);
  }
  takes (Err fault) h n i sound = tt

  pub take_owes : (result : Result T EmFault) → TakesTo c s t b d result
      → OnErr result (Pays (batch_counts b).unstored s.pool.shape.frames s t)
  take_owes (Ok x) h = tt
  take_owes (Err fault) h = h.pays

  pub take_cause : (result : Result T EmFault) → TakesTo c s t b d result
      → IfErr result (Cause s t)
  take_cause (Ok x) h = tt
  take_cause (Err fault) h = h.cause

-- It was abandoned.
pub left_gives : {F : Type 0} (s t : RigState) (b : Batch F) → LeavesBatch s t b → GivesFrames 2 (areas_of b) [] s t
left_gives s t b l = record { sound = l.sound; touches = l.touches; frames_are = l.frames }

pub left_unmoved : {F : Type 0} (s t : RigState) (b : Batch F) → LeavesBatch s t b → Unmoved s t
left_unmoved s t b l = record {
  device = ap (λ (x : RigState). x.device) l.same;
  spare = ap (λ (x : RigState). x.spare) l.same;
  same = record {
    head = ap (λ (x : RigState). x.head) l.same;
    used = ap (λ (x : RigState). x.used) l.same;
    most = ap (λ (x : RigState). x.most) l.same;
  };
  moves = ap (λ (x : RigState). x.moves) l.same;
}
