-- A queue with no item is made.
use Rattle.std.specs.Prelude.{◌≡◌, ℕ, ◌+◌, ◌-◌, ◌≤◌, List, [], length, IsTrue}
use Rattle.std.proofs.Common.{arith, sym, ap, subst, ◌∙◌, refl}
use Rattle.em_record.specs.Shape.{ShapeNumbers}
use Rattle.em_record.specs.declared.record.Record.{Record}
use Rattle.em_frames.specs.Pool.{PoolCounts, lent_area, load_of, singles_of}
use Rattle.em_heap.specs.Lending.{empty_over}
use Rattle.em_settle.specs.Bag.{bag_key_of, bag_step_of}
use Rattle.em_settle.specs.Lists.{list_with_ops}
use Rattle.em_space.specs.Queue.{CanServe}
use Rattle.em_space.specs.Rig.{RigState, Sound, Touches}
use Rattle.em_space.proofs.Held.{apart_none}
use Rattle.em_space.proofs.Paying.{pays_kept, pays_then}
use Rattle.em_space.proofs.Sessions.{session_as, session_still, session_trans}
use Rattle.em_tree_cost.specs.Books.{TreeCounts, count_moves, no_counts}
use Rattle.em_tree_cost.specs.ExtQueue.{no_calls}
use Rattle.em_tree_cost.proofs.ExtQueue.{queue_new}
use Rattle.em_tree_model.specs.Tree.{waiting_in}
use Rattle.em_tree.specs.Calls.{IsNewTrunk}
use Rattle.em_trunk.specs.Trunk.{TrunkHasFrames, model_of, trunk_blocks}
use Rattle.em_trunk.specs.Trunk as trunks
use Rattle.em_trunk.proofs.Stays.{TrunkStays, trunk_stays}
use Rattle.em_pqueue.specs.Calls.{IsNewQueue}
use Rattle.em_pqueue.specs.ExtQueue.{AnyItem, IsExtQueue, half_of, items_in_tree, queue_blocks, trunk_of}
use Rattle.em_pqueue.specs.Items.{tree_items}
use Rattle.em_pqueue.specs.declared.queue.ExtQueue.{ExtQueue}
use Rattle.em_tree_cost.specs.Shares.{tree_room}

-- An area was lent.
pub record LendsArea (m t : RigState) (area : List Record) : Type 0 where
  pub sound : Sound t
  pub touches : Touches [] m t
  pub len : length area ≡ load_of m.pool.shape
  pub is : t ≡ record m { pool = lent_area m.pool }

-- each room has a few blocks
least_room : (shape : ShapeNumbers) (k n : ℕ) → n ≤ 12 → n ≤ tree_room shape k
least_room shape k n h = omega (arith, h)

-- The queue over a new tree and this area.
pub record IsOver (s m : RigState) (area : List Record) (q : ExtQueue) : Type 0 where
  pub heap : q.heap ≡ empty_over area
  pub in_tree : q.in_tree ≡ 0
  pub len : q.len ≡ 0
  pub calls : q.calls ≡ 0
  pub longest : q.longest ≡ 0
  pub since : q.since ≡ 0
  pub blocks : q.blocks ≡ m.used - s.used
  pub most : q.most ≡ q.blocks

module _ (s m t : RigState) (area : List Record) (q : ExtQueue) (old : Sound s) (free : CanServe s.pool)
    (new : IsNewTrunk bag_key_of AnyItem AnyItem s m (trunk_of q)) (lends : LendsArea m t area)
    (over : IsOver s m area q) where
  pool_is : t.pool ≡ lent_area m.pool
  pool_is = ap (λ (x : RigState). x.pool) lends.is

  areas_is : t.pool.free_areas + 1 ≡ s.pool.free_areas
  areas_is =
      let a = ap (λ (x : PoolCounts). x.free_areas) pool_is in
      omega (arith, a, new.frames.free_areas, free.areas)

  frames : TrunkHasFrames t (trunk_of q)
  frames =
      let f = new.is.running.frames in
      let p = ap (λ (x : PoolCounts). x.free) pool_is in
      record {
        buffer = f.buffer ∙ ap (λ (x : ShapeNumbers). x.block) (sym lends.touches.shape);
        answers = f.answers ∙ ap (λ (x : ShapeNumbers). x.block) (sym lends.touches.shape);
        out = (let P : ShapeNumbers → Type 0 = λ x. m.pool.free + 2 ≤ singles_of x in
            let o : m.pool.free + 2 ≤ singles_of t.pool.shape = subst P (sym lends.touches.shape) f.out in
            omega (arith, o, p));
      }

  stays : TrunkStays bag_key_of AnyItem AnyItem m t (trunk_of q)
  stays = trunk_stays bag_key_of AnyItem AnyItem [] m t (trunk_of q) lends.touches frames new.is
      (λ told. apart_none (trunk_blocks m (trunk_of q)))

  -- nothing is in the tree
  tree_none : IsTrue s.device.told → items_in_tree t q ≡ []
  tree_none told =
      let here : IsTrue m.device.told = new.session.touches.told ∙ told in
      ap tree_items (stays.reads here).model
      ∙ (ap (λ xs. list_with_ops bag_key_of bag_step_of xs (waiting_in (model_of m (trunk_of q))))
      (new.stored told)
      ∙ ap (λ ops. list_with_ops bag_key_of bag_step_of [] ops) (new.waiting told))

  used_is : t.used ≡ m.used
  used_is = ap (λ (x : RigState). x.used) lends.is

  counts : (x : TreeCounts → ℕ) → x (trunks.counts_of (trunk_of q))
      ≡ x (count_moves q.tree.trunk.spent no_counts)
  counts x = ap x new.counts

  back : IsTrue t.device.told → IsTrue s.device.told
  back told = sym (lends.touches.told ∙ new.session.touches.told) ∙ told

  heap_none : q.heap.items ≡ []
  heap_none = ap (λ h. h.items) over.heap

  is : IsExtQueue t q
  is = record {
    stands = record {
      shape = lends.sound.shape;
      tree = stays.is;
      area = ap (λ h. h.capacity) over.heap ∙ (lends.len ∙ ap load_of (sym lends.touches.shape));
      out = omega (arith, areas_is, old.areas);
      heap_len = ap (λ h. h.len) over.heap ∙ ap (λ h. length h.items) (sym over.heap);
      numbers = no_calls;
      shown = record {
        calls = sym over.calls;
        longest = sym over.longest;
        since = sym over.since;
        heap = sym (ap (λ h. h.len) over.heap);
        in_tree = sym over.in_tree;
        pushed = sym (counts (λ c. c.n));
        tree_longest = sym (counts (λ c. c.k));
        tree_since = sym (counts (λ c. c.since));
        resets = sym (counts (λ c. c.z));
        unsettled = counts (λ c. c.y);
        none_adopted = counts (λ c. c.adopted);
      };
      fits = queue_new (load_of t.pool.shape) (half_of t.pool.shape);
      some = λ x. absurd (omega (arith, x, over.in_tree));
      parts = λ told. record {
        are = rw (heap_none, tree_none (back told)) (record {
          rises = tt;
          heap_most = λ x. tt;
          tree_least = tt;
        });
        in_tree = over.in_tree ∙ ap length (sym (tree_none (back told)));
        given = (stays.reads (new.session.touches.told ∙ back told)).given ∙ new.given (back told);
      };
    };
    counts = record {
      blocks = λ told.
          let l = new.loses (back told) in
          let e = ap length (stays.reads (new.session.touches.told ∙ back told)).blocks in
          omega (arith, l, e, over.blocks, new.used);
      few = omega (arith, over.blocks, new.used);
      most = omega (arith, over.most);
      fits = λ told.
          let few : q.most ≤ 12 = omega (arith, over.most, over.blocks, new.used) in
          least_room t.pool.shape q.longest q.most few;
    };
    len = (let h = ap (λ h. h.len) over.heap in omega (arith, over.len, over.in_tree, h));
    few = omega (arith, over.len);
    since_none = λ x. over.since;
  }

  pub makes : IsNewQueue s t q
  makes =
      let free_is = ap (λ (x : PoolCounts). x.free) pool_is in
      let rack_is = ap (λ (x : PoolCounts). x.rack_out) pool_is in
      let peak_is = ap (λ (x : PoolCounts). x.peak) pool_is in
      let moves_is = ap (λ (x : RigState). x.moves) lends.is in
      record {
        is = is;
        new = record {
          n = over.calls;
          len = over.len;
          k = over.longest;
        };
        session = session_as (queue_blocks t q) (session_trans new.session
            (session_still (trunk_blocks m (trunk_of q)) lends.sound lends.touches
            (λ told. (new.is.running.stands told).holds)))
            (λ told. (stays.reads (new.session.touches.told ∙ told)).blocks);
        frames = record {
          shape = lends.touches.shape ∙ new.frames.shape;
          free = omega (arith, free_is, new.frames.free);
          areas = omega (arith, areas_is);
          rack = rack_is ∙ new.frames.rack;
          peak = omega (arith, peak_is, new.frames.peak);
        };
        used = omega (arith, used_is, new.used, over.blocks);
        most =
            let b = ap (λ (x : RigState). x.most) lends.is in
            let m = new.most in
            omega (arith, b, m, over.most, over.blocks, new.used);
        pays = pays_then new.pays (pays_kept 0 (omega (arith, used_is)) (omega (arith, moves_is)))
            lends.touches.moves;
        spent = omega (arith, moves_is, new.spent);
        moves = omega (arith, moves_is, new.moves);
        items = λ told. rw (heap_none, tree_none told) refl;
      }
