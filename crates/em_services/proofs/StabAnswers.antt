-- An interval list is finished by a queue that is made for it.
use Rattle.std.proofs.Common.{◌≡◌, ℕ, ◌+◌, ◌*◌, ◌≤◌, List, [], ◌++◌, length, ap, sym, subst, ◌∙◌, arith, IsTrue, IfSome, Option, Some, Result, Ok, Err, IfOk, OnErr, IfErr, ◌<◌, max}
use Rattle.std.proofs.Math.Nat.{mul-le-mul_left}
use Rattle.em_record.specs.Cost.{blocks_of, lev, room}
use Rattle.em_record.specs.Shape.{ShapeNumbers, fan_of}
use Rattle.em_frames.specs.Pool.{PoolCounts, singles_of}
use Rattle.em_model.specs.StabAnswers.{stab_pairs}
use Rattle.em_model.specs.declared.command.Command.{Command}
use Rattle.em_space.specs.Ledger.{Session}
use Rattle.em_space.specs.Queue.{Pays, QueueCounts, Shares}
use Rattle.em_space.specs.Rig.{Cause, RigState, Sound, IfFull}
use Rattle.em_space.specs.declared.fault.EmFault.{EmFault}
use Rattle.em_space.specs.declared.fault.EmFault.TheVariants.{Damaged, DeviceFault, Full}
use Rattle.em_space.specs.declared.queue.Queue.{Ghosts as QueueGhosts}
use Rattle.em_space.proofs.Held.{apart_none}
use Rattle.em_space.proofs.Paying.{pays_more, pays_then}
use Rattle.em_space.proofs.Sessions.{session_as, session_still, session_then, session_trans}
use Rattle.em_space.proofs.Steps.{cause_after, goes_nothing, touches_then, touches_wider}
use Rattle.em_space.proofs.Within.{touches_within}
use Rattle.em_chain.specs.Chain.{chain_items}
use Rattle.em_chain.specs.declared.chain.Chain.{Chain}
use Rattle.em_segment.specs.Finishes.{CanFinish, FinishesTo, GivesAll, StabCosts, FullIfSmall}
use Rattle.em_segment.specs.Stabs.{HasCommands, IsStab, LeavesStab, StabHasFrames, stab_account, stab_blocks, stab_size}
use Rattle.em_segment.specs.declared.stab.Stab.{Stab}
use Rattle.em_segment.proofs.StabCalls.{stab_few}
use Rattle.em_segment.proofs.StabLaws.{StabStays, stab_beside, stab_frames_stay}
use Rattle.em_tree_cost.specs.Shares.{queue_share, stab_share, stab_room, tree_room}
use Rattle.em_ready.specs.Queues.{FailsToMake, MakesQueue}
use Rattle.em_map.specs.Areas.{GivenWithAreas}
use Rattle.em_services.specs.Service.{CanAnswer, GivesFrames, LeavesAnswers, WithinAllowance, FullOverRoom, WithinRoom}
use Rattle.em_services.specs.StabService.{stab_counts}
use Rattle.em_tree_cost.proofs.Rising.{tree_room_rises}
use Rattle.em_ready.proofs.RoomLaws.{finish_room, stabs_room, two_missing, when_full}
use Rattle.em_services.proofs.Stabbing.{list_length}

-- the frames of a queue that was made came back with the two of the list
given_all : (c : QueueCounts) (p q r : PoolCounts)
    → Shares (record c { frames = 0; areas = 0 }) c p q → GivesAll c q r → GivenWithAreas 2 0 p r
given_all c p q r x y = record {
  shape = y.shape ∙ x.shape;
  free = let lent = x.free in let back = y.free in omega (arith, lent, back);
  rack = y.rack ∙ x.rack;
  free_areas = let lent = x.areas in let back = y.areas in omega (arith, lent, back);
  peak = let first = x.peak in let last = y.peak in omega (arith, first, last);
}

-- A queue was made: no call of it came, and it holds blocks that weren't in use.
module _ {Q : Type 0} (q : QueueGhosts Q) (x : Q) (v : Stab) (s m : RigState) (sound : Sound s)
    (i : IsStab s v) (makes : MakesQueue q s m x) where
  -- the list stays
  list_beside : StabStays s m v
  list_beside = stab_beside [] i makes.session.touches (λ z. apart_none (stab_blocks s v)) (
      let e = ap singles_of makes.frames.shape in
      let lent = makes.frames.free in
      let out = i.frames.out in omega (arith, e, lent, out))

  -- the device tells as before
  told_back : IsTrue m.device.told → IsTrue s.device.told
  told_back z = sym makes.session.touches.told ∙ z

  -- the queue stands beside the list
  both_stand : Session (stab_blocks s v) s m (q.blocks x m ++ stab_blocks m v)
  both_stand =
      session_as (q.blocks x m ++ stab_blocks m v)
      (session_then [] (q.blocks x m) (stab_blocks s v)
      (session_still (stab_blocks s v) sound (goes_nothing s sound).touches i.holds) makes.session)
      (λ z. ap (λ (l : List ℕ). q.blocks x m ++ l) (list_beside.blocks z))

  -- It can be finished,
  pub list_is : IsStab m v
  list_is = list_beside.is

  pub can_finish : CanAnswer 0 s.pool → CanFinish q x m v
  can_finish free =
      let pool = makes.frames in
      record {
        empty = makes.new.len;
        few = let none = makes.new.n in omega (arith, none);
        free = record {
          singles =
              let e = ap fan_of pool.shape in
              let lent = pool.free in
              let few = makes.few in
              let singles = free.singles in omega (arith, e, lent, few, singles);
          areas =
              let lent = pool.areas in
              let few = makes.area in
              let areas = free.areas in omega (arith, lent, few, areas);
          rack = pool.rack ∙ free.rack;
        };
        holds = λ z. both_stand.holds (told_back z);
        out =
            let e = ap singles_of pool.shape in
            let lent = pool.free in
            let out = i.frames.out in omega (arith, e, lent, out);
      }

  -- what it may owe before
  owed_before : Pays (stab_account v).unstored
      ((q.counts x).unstored + (stab_account v).unstored) s m
  owed_before = pays_more makes.pays (omega arith)

  -- and all frames come back, by the result,
  module _ (t : RigState) where
    pub finish_gives : (result : Result Chain EmFault) → FinishesTo q x m t v result
        → GivesFrames 2 0 (stab_blocks s v) s t
    finish_gives (Ok c) f = record {
      sound = f.session.sound;
      touches = (session_trans both_stand f.session).touches;
      frames_are = given_all (q.counts x) s.pool m.pool t.pool makes.frames f.frames;
    }
    finish_gives (Err fault) h = record {
      sound = h.sound;
      touches = touches_within s m t (stab_blocks s v) (q.blocks x m ++ stab_blocks m v)
          both_stand.touches both_stand.within h.touches;
      frames_are = given_all (q.counts x) s.pool m.pool t.pool makes.frames h.frames;
    }

    pub finish_leaves : (result : Result Chain EmFault) → FinishesTo q x m t v result
        → IfOk result (LeavesAnswers (Some room) (stab_blocks s v) (stab_counts v) s t)
    finish_leaves (Ok c) f = record {
      is = f.chain;
      packed = λ z. f.packed (makes.session.touches.told ∙ z);
      within = (session_trans both_stand f.session).within;
      pays = pays_then owed_before f.pays f.session.touches.moves;
      used = λ z.
          let used = f.used in
          let made = makes.used in
          let own = list_length s v i z in omega (arith, used, made, own);
    }
    finish_leaves (Err fault) h = tt

    pub finish_items : (result : Result Chain EmFault) → FinishesTo q x m t v result
        → IfOk result (λ c. IsTrue s.device.told → (before cs : List Command) → HasCommands s v (before ++ cs)
        → chain_items t c ≡ stab_pairs (before ++ cs))
    finish_items (Ok c) f = λ z before cs h.
        f.answers (makes.session.touches.told ∙ z) (before ++ cs) (list_beside.commands (before ++ cs) h)
    finish_items (Err fault) h = tt

    pub finish_owes : (result : Result Chain EmFault) → FinishesTo q x m t v result
        → OnErr result (Pays (stab_counts v).unstored (2 * s.pool.shape.frames) s t)
    finish_owes (Ok c) f = tt
    finish_owes (Err fault) h =
        let low = sound.shape.frames_low in
        let e = ap (λ (p : ShapeNumbers). p.frames) makes.frames.shape in
        pays_more (pays_then owed_before h.pays h.touches.moves) (omega (arith, e, low))

    pub finish_cause : (result : Result Chain EmFault) → FinishesTo q x m t v result
        → IfErr result (Cause s t)
    finish_cause (Ok c) f = tt
    finish_cause (Err fault) h = cause_after [] s m t fault makes.session.touches h.cause

    -- with the moves of its share, which has those of the queue.
    pub finish_moves : q.allowance ≡ Some queue_share
        → (IsTrue m.device.told → (cs : List Command) → HasCommands m v cs
        → StabCosts q x m t v cs)
        → (cs : List Command) → HasCommands s v cs
        → WithinAllowance (Some stab_share) (length cs + length (stab_pairs cs)) 0
        (stab_counts v).spent s t
    finish_moves allowance costs cs h = λ z.
        let c = costs (makes.session.touches.told ∙ z) cs (list_beside.commands cs h) in
        let A : Option (ShapeNumbers → ℕ → ℕ → ℕ) → Type 0 = λ o. IfSome o (λ f.
        ((shape : ShapeNumbers) (n k : ℕ) → f shape n k ≤ queue_share shape n k)
        → (q.counts x).n ≡ 0
        → t.moves + (q.counts x).spent + (stab_account v).paid
        ≤ m.moves + stab_share m.pool.shape (stab_size v cs)) in
        let share : t.moves + (q.counts x).spent + (stab_account v).paid
        ≤ m.moves + stab_share m.pool.shape (stab_size v cs) =
        subst A allowance c.share (λ shape n k. omega arith) makes.new.n in
        let here : t.moves + (q.counts x).spent + (stab_account v).paid
        ≤ m.moves + stab_share s.pool.shape (length cs + length (stab_pairs cs)) =
        rw (makes.session.touches.shape, h.len) at share in
        let spent = makes.spent in
        omega (arith, here, spent)

    -- At no moment list and queue held more than the room.
    module _ (is_room : q.room ≡ Some tree_room)
        (fits : IsTrue m.device.told → IfSome q.room (λ f. (q.counts x).most ≤ f m.pool.shape (q.counts x).k))
        (cs : List Command) (h : HasCommands s v cs) where
      abbrev size : ℕ
      size = length cs + length (stab_pairs cs)

      -- a queue that isn't called has less room,
      new_fits : IsTrue s.device.told → (q.counts x).most ≤ tree_room s.pool.shape (4 * size)
      new_fits z =
          let k = makes.new.k in
          let own : (q.counts x).most ≤ tree_room m.pool.shape (q.counts x).k =
          subst (λ (o : Option (ShapeNumbers → ℕ → ℕ)). IfSome o
          (λ f. (q.counts x).most ≤ f m.pool.shape (q.counts x).k)) is_room
          (fits (makes.session.touches.told ∙ z)) in
          let rises = tree_room_rises m.pool.shape (q.counts x).k (4 * size) (omega (arith, k)) in
          rw (← makes.session.touches.shape) (omega (arith, own, rises))

      -- as has a list that wasn't finished
      list_fits : (stab_account v).blocks ≤ stab_room s.pool.shape size
      list_fits =
          let len = h.len in
          let few = stab_few size sound i (omega (arith, len)) in
          omega (arith, few)

      pub finish_room_is : (IsTrue m.device.told → (cs : List Command) → HasCommands m v cs
          → StabCosts q x m t v cs) → WithinRoom (Some room) size (stab_blocks s v) s t
      finish_room_is costs = λ z.
          let c = costs (makes.session.touches.told ∙ z) cs (list_beside.commands cs h) in
          let within : t.most + ((q.counts x).blocks + (stab_account v).blocks)
          ≤ max (m.most + ((q.counts x).blocks + (stab_account v).blocks))
          (m.used + (tree_room m.pool.shape (4 * stab_size v cs) + stab_room m.pool.shape (stab_size v cs))) =
          subst (λ (o : Option (ShapeNumbers → ℕ → ℕ)). IfSome o (λ f. (q.counts x).n ≡ 0
          → t.most + ((q.counts x).blocks + (stab_account v).blocks)
          ≤ max (m.most + ((q.counts x).blocks + (stab_account v).blocks))
          (m.used + (f m.pool.shape (4 * stab_size v cs) + stab_room m.pool.shape (stab_size v cs)))))
          is_room c.room makes.new.n in
          let here : t.most + ((q.counts x).blocks + (stab_account v).blocks)
          ≤ max (m.most + ((q.counts x).blocks + (stab_account v).blocks))
          (m.used + (tree_room s.pool.shape (4 * size) + stab_room s.pool.shape size)) =
          rw (makes.session.touches.shape, h.len) at within in
          let wide = finish_room s.pool.shape size sound.shape in
          let own = list_length s v i z in
          let new = new_fits z in
          let first = makes.most in
          let used = makes.used in
          let list = list_fits in
          record { is = omega (arith, here, wide, own, new, first, used, list) }

      pub finish_full : (result : Result Chain EmFault)
          → (IsTrue m.device.told → (cs : List Command) → HasCommands m v cs
          → FullIfSmall q x m v cs result)
          → IfErr result (FullOverRoom (Some room) size (stab_blocks s v) s)
      finish_full (Ok c) over = tt
      finish_full (Err fault) over = λ z.
          let all : IfFull fault (λ used. IfSome q.room (λ f. (q.counts x).n ≡ 0
          → used + ((q.counts x).blocks + (stab_account v).blocks)
          < m.used + (f m.pool.shape (4 * stab_size v cs) + stab_room m.pool.shape (stab_size v cs)))) =
          over (makes.session.touches.told ∙ z) cs (list_beside.commands cs h) in
          let full : IfFull fault (λ used. (q.counts x).n ≡ 0
          → used + ((q.counts x).blocks + (stab_account v).blocks)
          < m.used + (tree_room m.pool.shape (4 * stab_size v cs) + stab_room m.pool.shape (stab_size v cs))) =
          subst (λ (o : Option (ShapeNumbers → ℕ → ℕ)). IfFull fault (λ used. IfSome o (λ f.
          (q.counts x).n ≡ 0 → used + ((q.counts x).blocks + (stab_account v).blocks)
          < m.used + (f m.pool.shape (4 * stab_size v cs) + stab_room m.pool.shape (stab_size v cs)))))
          is_room all in
          let here : IfFull fault (λ used. (q.counts x).n ≡ 0
          → used + ((q.counts x).blocks + (stab_account v).blocks)
          < m.used + (tree_room s.pool.shape (4 * size) + stab_room s.pool.shape size)) =
          rw (makes.session.touches.shape, h.len) at full in
          let wide = finish_room s.pool.shape size sound.shape in
          let own = list_length s v i z in
          let used = makes.used in
          let none = makes.new.n in
          when_full fault (λ n. (q.counts x).n ≡ 0
          → n + ((q.counts x).blocks + (stab_account v).blocks)
          < m.used + (tree_room s.pool.shape (4 * size) + stab_room s.pool.shape size))
          (λ n. n + length (stab_blocks s v) < s.used + room s.pool.shape size)
          (λ n less. let small = less none in omega (arith, small, wide, own, used)) here

-- None was made, and the list was abandoned.
left_cause : (s m : RigState) (p : PoolCounts) (fault : EmFault) → Cause s m fault
    → Cause s (record m { pool = p }) fault
left_cause s m p DeviceFault c = c
left_cause s m p (Full used) c = c
left_cause s m p (Damaged block) c = c

module _ (v : Stab) (s m : RigState) (fault : EmFault) (sound : Sound s) (i : IsStab s v)
    (fails : FailsToMake s m fault) where
  pub unmade_frames : StabHasFrames m v
  unmade_frames = stab_frames_stay [] fails.goes.touches (
      let pool = fails.goes.frames in
      let e = ap singles_of pool.shape in
      let same = pool.free in
      let out = i.frames.out in omega (arith, e, same, out))
      i.frames

  module _ (t : RigState) (l : LeavesStab m t) where
    pub unmade_gives : GivesFrames 2 0 (stab_blocks s v) s t
    unmade_gives = record {
      sound = l.sound;
      touches = touches_wider (stab_blocks s v) [] s t
          (touches_then [] s m t fails.goes.touches l.touches) (λ z k u o. tt);
      frames_are =
          let pool = fails.goes.frames in
          record {
            shape = l.frames.shape ∙ pool.shape;
            free = let same = pool.free in let back = l.frames.free in omega (arith, same, back);
            rack = l.frames.rack ∙ pool.rack;
            free_areas =
                let same = pool.free_areas in
                let back = l.frames.free_areas in omega (arith, same, back);
            peak = let first = pool.peak in let last = l.frames.peak in omega (arith, first, last);
          };
    }

    pub unmade_owes : Pays (stab_counts v).unstored (2 * s.pool.shape.frames) s t
    unmade_owes =
        let low = sound.shape.frames_low in
        subst (λ (x : RigState). Pays (stab_counts v).unstored (2 * s.pool.shape.frames) s x)
        (sym l.same) (record { is = (pays_more {p = (stab_counts v).unstored} fails.pays (omega (arith, low))).is })

    module _ (cs : List Command) (h : HasCommands s v cs) where
      list_small : 2 + (stab_account v).blocks
          ≤ room s.pool.shape (length cs + length (stab_pairs cs))
      list_small =
          let n = length cs + length (stab_pairs cs) in
          let len = h.len in
          let few = stab_few n sound i (omega (arith, len)) in
          let wide = stabs_room s.pool.shape n sound.shape in
          omega (arith, few, wide)

      pub unmade_room : WithinRoom (Some room) (length cs + length (stab_pairs cs)) (stab_blocks s v) s t
      unmade_room = λ z.
          let own = list_length s v i z in
          let small = list_small in
          let most = fails.most in
          let same = ap (λ (x : RigState). x.most) l.same in
          record { is = omega (arith, own, small, most, same) }

      pub unmade_full : FullOverRoom (Some room) (length cs + length (stab_pairs cs)) (stab_blocks s v) s
          fault
      unmade_full = λ z.
          let own = list_length s v i z in
          let small = list_small in
          two_missing fault (length (stab_blocks s v))
          (room s.pool.shape (length cs + length (stab_pairs cs))) s m fails.full fails.cause
          fails.goes.touches.blocks (omega (arith, own, small))

    pub unmade_cause : Cause s t fault
    unmade_cause = subst (λ (x : RigState). Cause s x fault) (sym l.same)
        (left_cause s m t.pool fault fails.cause)

    pub unmade_moves : (cs : List Command) → HasCommands s v cs
        → WithinAllowance (Some stab_share) (length cs + length (stab_pairs cs)) 0
        (stab_counts v).spent s t
    unmade_moves cs h = λ z.
        let n = length cs + length (stab_pairs cs) in
        let len = h.len in
        let few = stab_few n sound i (omega (arith, len)) in
        let same = ap (λ (x : RigState). x.moves) l.same in
        let moves = fails.moves in
        let q = blocks_of s.pool.shape n in
        let most : 1920 * (q + 1) * 1 ≤ 1920 * (q + 1) * (1 + lev s.pool.shape q) =
        mul-le-mul_left (1920 * (q + 1)) (omega arith) in
        omega (arith, few, same, moves, most)
