-- A queue is ended: its area goes back, its tree is finished, and the empty list of answers is discarded.
use Rattle.std.specs.Prelude.{IsTrue, List, Result, Some, ℕ, [], length, ◌+◌, ◌-◌, ◌<◌, ◌≡◌, ◌≤◌}
use Rattle.std.specs.List.Sorted.{IsPermutation}
use Rattle.std.proofs.Common.{arith, sym, ap, subst, ◌∙◌}
use Rattle.std.proofs.lemmas.List.Sorted.{length_permutation}
use Rattle.em_record.specs.Shape.{IsShape, ShapeNumbers}
use Rattle.em_record.specs.declared.record.Record.{Record}
use Rattle.em_frames.specs.Pool.{PoolCounts, given_area, singles_of}
use Rattle.em_settle.specs.Bag.{bag_key_of, bag_step_of}
use Rattle.em_settle.specs.Keys.{record_at}
use Rattle.em_space.specs.Queue.{CanServe, Ended, Ends, Leaves, Pays}
use Rattle.em_space.specs.Free.{Off}
use Rattle.em_space.specs.Rig.{BlockCause, Cause, Goes, RigState, Sound, Touches}
use Rattle.em_space.specs.declared.fault.EmFault.{EmFault}
use Rattle.em_space.proofs.Held.{apart_none}
use Rattle.em_space.proofs.Paying.{pays_kept, pays_then}
use Rattle.em_space.proofs.Steps.{block_cause, cause_after, touches_after, touches_then, touches_trans, touches_wider}
use Rattle.em_chain.specs.Chain.{chain_blocks, chain_items}
use Rattle.em_chain.specs.Row.{Frees}
use Rattle.em_chain.specs.declared.chain.Chain.{Chain}
use Rattle.em_chain.proofs.Readers.{length_items, none_left}
use Rattle.em_chain.proofs.Views.{view_of}
use Rattle.em_tree_cost.specs.Shares.{queue_share, tree_room, tree_share}
use Rattle.em_tree_cost.proofs.ExtQueue.{queue_within}
use Rattle.em_tree_model.specs.Meaning.{tree_answers}
use Rattle.em_tree_model.specs.Tree.{stored_in, waiting_in}
use Rattle.em_tree.specs.Calls.{FinishCosts, FinishedTrunk, StopsFinishing}
use Rattle.em_trunk.specs.Trunk.{TrunkHasFrames, given_by, model_of, trunk_blocks, trunk_unstored}
use Rattle.em_trunk.specs.declared.trunk.Trunk.{Trunk}
use Rattle.em_trunk.proofs.Stays.{TrunkStays, trunk_stays}
use Rattle.em_pqueue.specs.QueueLaws.{shown_share}
use Rattle.em_pqueue.specs.ExtQueue.{AnyItem, IsExtQueue, counts_of, half_of, queue_blocks, trunk_of}
use Rattle.em_pqueue.specs.declared.queue.ExtQueue.{ExtQueue}
use Rattle.em_pqueue.proofs.Items.{bag_answers_none}
use Rattle.em_pqueue.specs.Room.{QueueHolds, QueueOver}
use Rattle.em_trunk.specs.Room.{FullOverRoom, WithinRoom}
use Rattle.em_trunk.specs.Lists.{LeavesTrunk}
use Rattle.em_pqueue.proofs.Rooms.{holds_within, over_within}
use Rattle.em_space.proofs.Ledgers.{full_by}

-- The area went back.
pub record GaveArea (s a : RigState) : Type 0 where
  pub sound : Sound a
  pub touches : Touches [] s a
  pub is : a ≡ record s { pool = given_area s.pool }

-- The frames of a tree, after an area went back,
pub frames_given : (s a : RigState) (v : Trunk) → GaveArea s a → TrunkHasFrames s v
    → TrunkHasFrames a v
frames_given s a v g f =
    let p = ap (λ (x : RigState). x.pool.free) g.is in
    let P : ShapeNumbers → Type 0 = λ x. s.pool.free + 2 ≤ singles_of x in
    let o : s.pool.free + 2 ≤ singles_of a.pool.shape = subst P (sym g.touches.shape) f.out in
    record {
      buffer = f.buffer ∙ ap (λ (x : ShapeNumbers). x.block) (sym g.touches.shape);
      answers = f.answers ∙ ap (λ (x : ShapeNumbers). x.block) (sym g.touches.shape);
      out = omega (arith, o, p);
    }

-- and all frames of a queue that was abandoned.
pub leaves_by : (s a t : RigState) (q : ExtQueue) → GaveArea s a → LeavesTrunk a t
    → Leaves (counts_of q) s t
leaves_by s a t q g l =
    let p = ap (λ (x : RigState). x.pool) g.is in
    let free = ap (λ (x : PoolCounts). x.free) p in
    let areas = ap (λ (x : PoolCounts). x.free_areas) p in
    let peak = ap (λ (x : PoolCounts). x.peak) p in
    record {
      sound = l.sound;
      touches = touches_then [] s a t g.touches l.touches;
      frames = record {
        shape = l.frames.shape ∙ g.touches.shape;
        free = omega (arith, l.frames.free, free);
        areas = omega (arith, l.frames.free_areas, areas);
        rack = l.frames.rack ∙ ap (λ (x : PoolCounts). x.rack_out) p;
        peak = omega (arith, l.frames.peak, peak);
      };
      same = l.same ∙ ap (λ (x : RigState). record x { pool = t.pool }) g.is;
    }

module _ (s a : RigState) (q : ExtQueue) (i : IsExtQueue s q) (g : GaveArea s a) where
  pool_is : a.pool ≡ given_area s.pool
  pool_is = ap (λ (x : RigState). x.pool) g.is

  moves_is : a.moves ≡ s.moves
  moves_is = ap (λ (x : RigState). x.moves) g.is

  used_is : a.used ≡ s.used
  used_is = ap (λ (x : RigState). x.used) g.is

  pub frames_left : TrunkHasFrames a (trunk_of q)
  frames_left =
      let f = i.stands.tree.running.frames in
      let p = ap (λ (x : PoolCounts). x.free) pool_is in
      record {
        buffer = f.buffer ∙ ap (λ (x : ShapeNumbers). x.block) (sym g.touches.shape);
        answers = f.answers ∙ ap (λ (x : ShapeNumbers). x.block) (sym g.touches.shape);
        out = (let P : ShapeNumbers → Type 0 = λ x. s.pool.free + 2 ≤ singles_of x in
            let o : s.pool.free + 2 ≤ singles_of a.pool.shape = subst P (sym g.touches.shape) f.out in
            omega (arith, o, p));
      }

  -- The tree stays.
  pub tree_left : TrunkStays bag_key_of AnyItem AnyItem s a (trunk_of q)
  tree_left = trunk_stays bag_key_of AnyItem AnyItem [] s a (trunk_of q) g.touches frames_left
      i.stands.tree (λ told. apart_none (queue_blocks s q))

  pub serves_left : CanServe s.pool → CanServe a.pool
  serves_left c =
      let P : PoolCounts → Type 0 = CanServe in
      subst P (sym pool_is) (record {
        singles = c.singles;
        areas = omega (arith, c.areas);
        rack = c.rack;
      })

  off_as : IsTrue s.device.told → (k : ℕ) → Off k (queue_blocks s q)
      → Off k (trunk_blocks a (trunk_of q))
  off_as told k o =
      let P : List ℕ → Type 0 = Off k in subst P (sym (tree_left.reads told).blocks) o

  -- calls on the tree change blocks of the queue
  touches_tree : (t : RigState) → Touches (trunk_blocks a (trunk_of q)) a t
      → Touches (queue_blocks s q) s t
  touches_tree t h =
      touches_after (queue_blocks s q) s a t g.touches
      (touches_wider (queue_blocks s q) (trunk_blocks a (trunk_of q)) a t h
      (λ told k u o. off_as (sym g.touches.told ∙ told) k o))

  -- The blocks of the queue at each moment are those of the tree,
  module _ (told : IsTrue s.device.told) where
    given_none : given_by a (trunk_of q) ≡ []
    given_none = (tree_left.reads told).given ∙ (i.stands.parts told).given

    tree_k : q.tree.trunk.longest ≤ q.longest
    tree_k =
        let n = i.stands.shown in
        let k = i.stands.fits.tree_k_most in
        let b : i.stands.numbers.k ≡ q.longest = n.longest in
        let d : i.stands.numbers.tree_k ≡ q.tree.trunk.longest = n.tree_longest in
        omega (arith, k, b, d)

    shape_left : IsShape a.pool.shape
    shape_left = g.sound.shape

    pub left_holds : {t : RigState} → WithinRoom q.tree.trunk.longest a t (trunk_of q)
        → QueueHolds q.longest (queue_blocks s q) s t
    left_holds h =
        let m = (holds_within tree_left.is shape_left (g.touches.told ∙ told) given_none tree_k h).most in
        let e = ap length (tree_left.reads told).blocks in
        let b = ap (λ (x : RigState). x.most) g.is in
        let p = ap (λ (x : ShapeNumbers). tree_room x q.longest) g.touches.shape in
        record { most = omega (arith, m, e, b, p, used_is) }

    -- also those that it is full over.
    pub left_over : {f : EmFault} → FullOverRoom q.tree.trunk.longest a (trunk_of q) f
        → QueueOver q.longest (queue_blocks s q) s f
    left_over {f} h =
        let m = (over_within tree_left.is shape_left (g.touches.told ∙ told) given_none tree_k h).full in
        let e = ap length (tree_left.reads told).blocks in
        let p = ap (λ (x : ShapeNumbers). tree_room x q.longest) g.touches.shape in
        record {
          full = full_by f
              (a.blocks + length (trunk_blocks a (trunk_of q)) < a.used + tree_room a.pool.shape q.longest)
              (s.blocks + length (queue_blocks s q) < s.used + tree_room s.pool.shape q.longest)
              (λ z. omega (arith, z, e, p, used_is, g.touches.blocks)) m;
        }

  pub record Gone (u : RigState) : Type 0 where
    pub sound : Sound u
    pub touches : Touches (queue_blocks s q) s u
    pub shape : u.pool.shape ≡ a.pool.shape
    pub free : u.pool.free ≡ a.pool.free + 2
    pub rack : u.pool.rack_out ≡ a.pool.rack_out
    pub areas : u.pool.free_areas ≡ a.pool.free_areas
    pub peak : a.pool.peak ≤ u.pool.peak
    pub spent : IsTrue s.device.told → q.tree.trunk.spent + u.moves
        ≤ s.moves + queue_share s.pool.shape q.calls q.longest
    pub room : IsTrue s.device.told → QueueHolds q.longest (queue_blocks s q) s u

  pub ends_by : (u : RigState) → Gone u
      → Ends (Some queue_share) (Some tree_room) (queue_blocks s q) (counts_of q) s u
  ends_by u h =
      let p = pool_is in
      let free = ap (λ (x : PoolCounts). x.free) p in
      let areas = ap (λ (x : PoolCounts). x.free_areas) p in
      let peak = ap (λ (x : PoolCounts). x.peak) p in
      record {
        sound = h.sound;
        touches = h.touches;
        frames = record {
          shape = h.shape ∙ g.touches.shape;
          free = omega (arith, h.free, free);
          areas = omega (arith, h.areas, areas);
          rack = h.rack ∙ ap (λ (x : PoolCounts). x.rack_out) p;
          peak = omega (arith, h.peak, peak);
        };
        spent = h.spent;
        most = λ told. (let b = i.counts.blocks told in let r = (h.room told).most in omega (arith, b, r));
      }

  -- the moves of the tree, the last settling included, are within the queue's share
  share_left : (t : RigState) → FinishCosts a t (trunk_of q) → IsTrue s.device.told
      → q.tree.trunk.spent + (t.moves - a.moves) ≤ queue_share s.pool.shape q.calls q.longest
  share_left t c told =
      let st = i.stands in
      let n = st.shown in
      let v = trunk_of q in
      let m = v.spent + (t.moves - a.moves) in
      let P : ShapeNumbers → Type 0 = λ x. m ≤ tree_share x (v.pushed + v.counted) v.longest v.resets (v.settled + 1) in
      let w = subst P g.touches.shape (c.share (g.touches.told ∙ told)).within in
      let E : ℕ → Type 0 = λ x. m ≤ queue_share s.pool.shape x st.numbers.k in
      let F : ℕ → Type 0 = λ x. m ≤ queue_share s.pool.shape q.calls x in
      let z = shown_share s.pool.shape st.numbers q m (v.settled + 1) 1 n
      st.tree.running.numbers.counted_most w (omega arith) in
      subst F n.longest (subst E n.calls (queue_within s.pool.shape (half_of s.pool.shape) m 1
      st.numbers st.shape st.fits (omega arith) (omega arith) z))

  -- The tree wasn't finished.
  module _ (t : RigState) (f : EmFault) (h : StopsFinishing a t (trunk_of q) f)
      (c : FinishCosts a t (trunk_of q)) where
    pub unfinished : (IsTrue s.device.told → QueueHolds q.longest (queue_blocks s q) s t)
        → Ends (Some queue_share) (Some tree_room) (queue_blocks s q) (counts_of q) s t
    unfinished room = ends_by t (record {
      sound = h.sound;
      touches = touches_tree t h.touches;
      shape = h.frames.shape;
      free = h.frames.free;
      rack = h.frames.rack;
      areas = h.frames.free_areas;
      peak = h.frames.peak;
      spent = λ told. (let z = share_left t c told in omega (arith, z, c.later, moves_is));
      room = room;
    })

    pub unfinished_pays : Pays (trunk_unstored (trunk_of q)) s.pool.shape.frames s t
    unfinished_pays =
        let shape : a.pool.shape.frames ≡ s.pool.shape.frames =
        ap (λ (x : ShapeNumbers). x.frames) g.touches.shape in
        let P : ℕ → Type 0 = λ n. Pays (trunk_unstored (trunk_of q)) n a t in
        pays_then (pays_kept (trunk_unstored (trunk_of q)) (omega (arith, used_is))
        (omega (arith, moves_is))) (subst P shape h.pays) c.later

    -- If no item went into the tree, few moves were made.
    pub unfinished_unused : IsTrue s.device.told → q.tree.trunk.longest ≡ 0 → t.moves ≤ s.moves + 4
    unfinished_unused told none =
        let z = c.unused (g.touches.told ∙ told) none in omega (arith, z, moves_is)

    pub unfinished_cause : Cause s t f
    unfinished_cause = cause_after [] s a t f g.touches h.cause

  -- It was, and the list of its answers, which is empty over a device that tells, was discarded.
  module _ (t u : RigState) (c : Chain) (h : FinishedTrunk bag_key_of bag_step_of a t (trunk_of q) c)
      (costs : FinishCosts a t (trunk_of q)) (gone : Goes (chain_blocks t c) t u)
      {r : Result (Unit {0}) EmFault} (frees : Frees c.blocks t u r) where
    pub none_answered : IsTrue s.device.told → c.blocks ≡ 0
    none_answered told =
        let here : IsTrue a.device.told = g.touches.told ∙ told in
        let there : IsTrue t.device.told = h.session.touches.told ∙ here in
        let reads = tree_left.reads told in
        let none : given_by a (trunk_of q) ≡ [] = reads.given ∙ (i.stands.parts told).given in
        let P : List Record → Type 0 = λ gs.
        IsPermutation (tree_answers bag_key_of bag_step_of gs (model_of a (trunk_of q))) (chain_items t c) in
        let Q : List Record → Type 0 = λ ls. IsPermutation ls (chain_items t c) in
        let owes = bag_answers_none (record_at bag_key_of (stored_in (model_of a (trunk_of q))))
        (waiting_in (model_of a (trunk_of q))) in
        let p = length_permutation [] (chain_items t c) (subst Q owes (subst P none (h.answers here))) in
        let e = length_items t c h.chain there in
        none_left t c (view_of t c h.chain) there (omega (arith, p, e))

    pub ended : (IsTrue s.device.told → QueueHolds q.longest (queue_blocks s q) s u)
        → Ends (Some queue_share) (Some tree_room) (queue_blocks s q) (counts_of q) s u
    ended room = ends_by u (record {
      sound = gone.sound;
      touches = touches_trans (queue_blocks s q) (chain_blocks t c) s t u
          (touches_tree t h.session.touches) gone.touches (λ told k x o. h.session.within.off (g.touches.told ∙ told) k
          (g.touches.others told k x tt).in_use (off_as told k o));
      shape = gone.frames.shape ∙ h.frames.shape;
      free = omega (arith, gone.frames.free, h.frames.free);
      rack = gone.frames.rack ∙ h.frames.rack;
      areas = omega (arith, gone.frames.free_areas, h.frames.free_areas);
      peak = omega (arith, gone.frames.peak, h.frames.peak);
      spent = λ told.
          let z = share_left t costs told in
          let n = none_answered told in
          let m = frees.moves in
          omega (arith, z, n, m, costs.later, moves_is);
      room = room;
    })

    pub left_used : IsTrue s.device.told → u.used ≡ t.used → u.used + q.blocks ≡ s.used
    left_used told e =
        let here : IsTrue a.device.told = g.touches.told ∙ told in
        let there : IsTrue t.device.told = h.session.touches.told ∙ here in
        let l = h.loses here in
        let b = i.counts.blocks told in
        let k = ap length (tree_left.reads told).blocks in
        let n = ((h.chain.told there).list).blocks_is in
        let z = none_answered told in
        omega (arith, l, b, k, n, z, e, used_is)

    pub ended_unused : IsTrue s.device.told → q.tree.trunk.longest ≡ 0 → u.moves ≤ s.moves + 4
    ended_unused told none =
        let z = costs.unused (g.touches.told ∙ told) none in
        let n = none_answered told in
        let m = frees.moves in
        omega (arith, z, n, m, moves_is)

    pub ended_pays : Pays (trunk_unstored (trunk_of q)) 0 s u
    ended_pays =
        pays_then (pays_kept (trunk_unstored (trunk_of q)) (omega (arith, used_is))
        (omega (arith, moves_is))) (pays_then h.pays (pays_kept 0 frees.used_most gone.touches.moves)
        gone.touches.moves) (omega (arith, costs.later, gone.touches.moves))

    pub ended_cause : (f : EmFault) → BlockCause t u f → Cause s u f
    ended_cause f x = cause_after (queue_blocks s q) s t u f (touches_tree t h.session.touches)
        (block_cause t u f x)

    -- Its blocks are gone, or the device doesn't tell.
    pub ended_used : u.used + q.blocks ≡ s.used → Ended (counts_of q) s u
    ended_used e = record { used = e; pays = ended_pays }
