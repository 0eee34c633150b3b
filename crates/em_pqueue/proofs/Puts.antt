-- An item is put into the part that it belongs to.
use Rattle.std.specs.Prelude.{Err, IsTrue, Ok, Result, ℕ, [], false, length, max, true, ◌++◌, ◌+◌, ◌<◌, ◌^◌, ◌∷◌, ◌≡◌, ◌≤◌}
use Rattle.std.proofs.Common.{arith, sym, ap, subst, ◌∙◌, refl, ⊎_elim}
use Rattle.std.proofs.lemmas.Bool.{cases_Bool}
use Rattle.em_record.specs.Order.{Lacks, is_below, with_record}
use Rattle.em_record.specs.Shape.{IsShape, ShapeNumbers}
use Rattle.em_record.specs.declared.record.Record.{Record}
use Rattle.em_record.proofs.Lacking.{lacks_right}
use Rattle.em_record.proofs.Order.{length_with}
use Rattle.em_frames.specs.Pool.{load_of}
use Rattle.em_heap.specs.State.{HeapState}
use Rattle.em_space.specs.Rig.{RigState, Sound}
use Rattle.em_space.specs.declared.fault.EmFault.{EmFault}
use Rattle.em_tree_cost.specs.ExtQueue.{ExtQueueFits, after_call, after_heap_push, after_tree_push}
use Rattle.em_tree_cost.proofs.ExtQueue.{pushes_most, queue_heap_push, queue_tree_push}
use Rattle.em_trunk.specs.Trunk as trunks
use Rattle.em_pqueue.specs.ExtQueue.{GoesDown, PartsStand, Stands, half_of, items_in_tree, queue_blocks, queue_items, trunk_of}
use Rattle.em_pqueue.specs.Parts.{AreParts}
use Rattle.em_pqueue.specs.Steps.{MovesItems, PushedDown, PushesDown, PushesMore, PutsItem, PutsTo, SameCalls, Stops, StopsPushing, Works}
use Rattle.em_pqueue.specs.declared.queue.ExtQueue.{ExtQueue}
use Rattle.em_pqueue.proofs.Parts.{PartsWith, heap_push, tree_push}
use Rattle.em_pqueue.proofs.Shares.{frames_after, share_by}
use Rattle.em_pqueue.proofs.Working.{stops_then, works_none, works_then}
use Rattle.em_pqueue.proofs.Rooms.{holds_none, holds_then}
use Rattle.em_pqueue.specs.Room.{QueueHolds}

-- Fewer operations went into the tree than calls came.
pub pushed_few : (s : RigState) (q : ExtQueue) → Stands after_call s q → q.calls ≤ 2 ^ 100
    → q.tree.trunk.pushed < 2 ^ 100
pushed_few s q st few =
    let p = pushes_most (load_of s.pool.shape) st.numbers.heap st.numbers.tree_n st.numbers.n
    st.fits.all in
    omega (arith, p, st.shown.pushed, st.shown.calls, few)

module _ (s : RigState) (q : ExtQueue) (item : Record) (st : Stands after_call s q) where
  -- the queue's items lack it, so that the tree's do
  pub lacks_down : Lacks item (queue_items s q) → Lacks item (items_in_tree s q)
  lacks_down l = lacks_right item q.heap.items (items_in_tree s q) l

  -- A push into the tree.
  module _ (t : RigState) (w : ExtQueue) (down : GoesDown q item)
      (lacks : IsTrue s.device.told → Lacks item (queue_items s q)) where
    fits : ExtQueueFits (load_of s.pool.shape) (half_of s.pool.shape) (after_tree_push st.numbers)
    fits = queue_tree_push (load_of s.pool.shape) (half_of s.pool.shape) st.numbers st.fits
        (omega (arith, down.0, st.shown.in_tree))

    -- its k is at most that of the queue
    longest_most : PushesMore 1 (trunks.counts_of (trunk_of q)) (trunks.counts_of (trunk_of w))
        → w.tree.trunk.longest ≤ q.longest
    longest_most c =
        let m = st.shown in
        let l : w.tree.trunk.longest ≡ max q.tree.trunk.longest (q.tree.trunk.since + 1) = c.longest in
        let k : max st.numbers.tree_k (st.numbers.tree_since + 1) ≤ max st.numbers.k (st.numbers.since + 1) =
        fits.tree_k_most in
        let a : max st.numbers.k (st.numbers.since + 1) ≡ q.longest = m.longest in
        let b : st.numbers.tree_k ≡ q.tree.trunk.longest = m.tree_longest in
        let d : st.numbers.tree_since ≡ q.tree.trunk.since = m.tree_since in
        omega (arith, l, k, a, b, d)

    pushed_stands : PushedDown (item ∷ []) s t q w → Stands (λ n. n) t w
    pushed_stands p =
        let n = st.shown in
        let c = p.counts in
        let same = p.works.same in
        let goes = p.works.session.touches in
        let hl = ap (λ (x : ExtQueue). x.heap.len) p.rest in
        let it = ap (λ (x : ExtQueue). x.in_tree) p.rest in
        let F : ShapeNumbers → Type 0 = λ x. ExtQueueFits (load_of x) (half_of x)
        (after_tree_push st.numbers) in
        record {
          shape = subst IsShape (sym goes.shape) st.shape;
          tree = p.tree;
          area = ap (λ (x : ExtQueue). x.heap.capacity) p.rest ∙ (st.area ∙ ap load_of (sym goes.shape));
          out = omega (arith, st.out, p.works.frames.free_areas);
          heap_len = hl ∙ (st.heap_len ∙ ap (λ (x : ExtQueue). length x.heap.items) (sym p.rest));
          numbers = after_tree_push st.numbers;
          shown = record {
            calls = n.calls ∙ sym same.calls;
            longest = n.longest ∙ sym same.longest;
            since = n.since ∙ sym same.since;
            heap = n.heap ∙ sym hl;
            in_tree = omega (arith, n.in_tree, it);
            pushed = omega (arith, n.pushed, c.pushed);
            tree_longest = omega (arith, n.tree_longest, n.tree_since, c.longest);
            tree_since = omega (arith, n.tree_since, c.since);
            resets = n.resets ∙ sym c.resets;
            unsettled = c.unsettled ∙ n.unsettled;
            none_adopted = c.adopted ∙ n.none_adopted;
          };
          fits = subst F (sym goes.shape) fits;
          some = λ z. omega (arith, c.since);
          parts = λ told. parts_down p (sym goes.told ∙ told);
        }
      where
        parts_down : PushedDown (item ∷ []) s t q w → IsTrue s.device.told → PartsStand t w
        parts_down p told =
            let old = st.parts told in
            let tree0 = items_in_tree s q in
            let some : 0 < length tree0 = omega (arith, down.0, old.in_tree) in
            let a : AreParts q.bound q.heap.items (with_record item tree0) =
            (tree_push item q.bound q.heap.items tree0 old.are (lacks told) some down.1).are in
            let b = subst (λ l. AreParts q.bound q.heap.items l) (sym (p.items told)) a in
            let l = length_with item tree0 in
            let z = ap length (p.items told) in
            let it = ap (λ (x : ExtQueue). x.in_tree) p.rest in
            let A : ExtQueue → Type 0 = λ x. AreParts x.bound x.heap.items (items_in_tree t w) in
            record {
              are = subst A (sym p.rest) b;
              in_tree = omega (arith, it, old.in_tree, l, z);
              given = p.given told old.given;
            }

    pub put_down_ok : PushedDown (item ∷ []) s t q w → PutsItem item s t q w
    put_down_ok p =
        let hl = ap (λ (x : ExtQueue). x.heap.len) p.rest in
        let it = ap (λ (x : ExtQueue). x.in_tree) p.rest in
        record {
          stands = pushed_stands p;
          works = p.works;
          items = λ told.
              let old = st.parts told in
              let some : 0 < length (items_in_tree s q) = omega (arith, down.0, old.in_tree) in
              ap (λ (x : ExtQueue). x.heap.items ++ items_in_tree t w) p.rest
              ∙ (ap (λ l. q.heap.items ++ l) (p.items told)
              ∙ (tree_push item q.bound q.heap.items (items_in_tree s q) old.are (lacks told) some
              down.1).items);
          len = omega (arith, hl, it);
          room = λ told. p.room told (st.parts told).given q.longest (longest_most p.counts);
        }

    put_down_stops : (f : EmFault) → StopsPushing [] s t q w f → Stops s t q w f
    put_down_stops f p =
        let n = st.shown in
        let c = p.counts in
        let same : SameCalls q w = record {
          calls = ap (λ (x : ExtQueue). x.calls) p.rest;
          longest = ap (λ (x : ExtQueue). x.longest) p.rest;
          since = ap (λ (x : ExtQueue). x.since) p.rest;
          blocks = ap (λ (x : ExtQueue). x.blocks) p.rest;
          most = ap (λ (x : ExtQueue). x.most) p.rest;
        } in
        record {
          goes = p.goes;
          frames = frames_after s t q w st same p.goes p.frames
              (ap (λ (x : ExtQueue). x.heap.capacity) p.rest) p.spent
              (λ told. share_by s.pool.shape (after_tree_push st.numbers)
              (trunks.counts_of (trunk_of w)) w.calls w.longest st.shape fits
              (omega (arith, c.pushed, n.pushed)) (omega (arith, c.longest, n.tree_longest, n.tree_since))
              (c.resets ∙ sym n.resets) (c.unsettled ∙ n.unsettled)
              (omega (arith, c.counted, n.none_adopted, st.tree.running.numbers.counted_most))
              (omega (arith, same.calls, n.calls)) (omega (arith, same.longest, n.longest))
              (p.share told));
          pays = p.pays;
          spent = p.spent;
          same = same;
          cause = p.cause;
          room = λ told. p.room told (st.parts told).given q.longest (longest_most c);
          over = λ told. p.over told (st.parts told).given q.longest (longest_most c);
        }

    -- It put the item, or was refused.
    pub put_down : (r : Result (Unit {0}) EmFault) → PushesDown item s t q w r → PutsTo item s t q w r
    put_down (Ok x) p = put_down_ok p
    put_down (Err f) p = put_down_stops f p

  -- A push into the heap.
  pub put_heap : (h : HeapState) → Sound s → q.heap.len < q.heap.capacity → (GoesDown q item → ⊥)
      → (IsTrue s.device.told → Lacks item (queue_items s q))
      → h ≡ record q.heap {
        items = with_record item q.heap.items;
        len = q.heap.len + 1;
        behind = h.behind;
      }
      → PutsItem item s s q (record q { heap = h })
  put_heap h sound room up lacks e =
      let n = st.shown in
      let hi = ap (λ (x : HeapState). x.items) e in
      let hl = ap (λ (x : HeapState). x.len) e in
      let hc = ap (λ (x : HeapState). x.capacity) e in
      let lw = length_with item q.heap.items in
      let w : ExtQueue = record q { heap = h } in
      let tree0 = items_in_tree s q in
      let below : IsTrue s.device.told → 0 < length tree0 → is_below item q.bound ≡ true =
      λ told z. ⊎_elim
      (λ (b : is_below item q.bound ≡ true). b)
      (λ (b : is_below item q.bound ≡ false).
      let i = (st.parts told).in_tree in
      let down : 0 < q.in_tree = omega (arith, i, z) in absurd (up (down, b)))
      (cases_Bool (is_below item q.bound)) in
      let more : (told : IsTrue s.device.told) → PartsWith item q.bound q.heap.items tree0
      (with_record item q.heap.items) tree0 =
      λ told. heap_push item q.bound q.heap.items tree0 (st.parts told).are (lacks told) (below told) in
      record {
        stands = record {
          shape = st.shape;
          tree = st.tree;
          area = hc ∙ st.area;
          out = st.out;
          heap_len = (let z = ap length hi in omega (arith, hl, z, lw, st.heap_len));
          numbers = after_heap_push st.numbers;
          shown = record {
            calls = n.calls;
            longest = n.longest;
            since = n.since;
            heap = omega (arith, n.heap, hl);
            in_tree = n.in_tree;
            pushed = n.pushed;
            tree_longest = n.tree_longest;
            tree_since = n.tree_since;
            resets = n.resets;
            unsettled = n.unsettled;
            none_adopted = n.none_adopted;
          };
          fits = queue_heap_push (load_of s.pool.shape) (half_of s.pool.shape) st.numbers st.fits
              (omega (arith, n.heap, room, st.area));
          some = st.some;
          parts = λ told. record {
            are = subst (λ l. AreParts q.bound l tree0) (sym hi) (more told).are;
            in_tree = (st.parts told).in_tree;
            given = (st.parts told).given;
          };
        };
        works = works_of (works_none s q sound (λ told. (st.tree.running.stands told).holds));
        items = λ told. ap (λ l. l ++ tree0) hi ∙ (more told).items;
        len = omega (arith, hl);
        room = λ told. holds_none refl;
      }
    where
      works_of : Works s s q q → Works s s q (record q { heap = h })
      works_of k = record {
        session = k.session;
        frames = k.frames;
        pays = k.pays;
        loses = k.loses;
        spent = k.spent;
        same = record { calls = refl; longest = refl; since = refl; blocks = refl; most = refl };
      }

-- The item was put after a spill.
pub put_after : (s t u : RigState) (q w z : ExtQueue) (item : Record) (r : Result (Unit {0}) EmFault)
    → MovesItems s t q w → PutsTo item t u w z r → PutsTo item s u q z r
put_after s t u q w z item (Ok x) h g = record {
  stands = g.stands;
  works = works_then q w z h.works g.works;
  items = λ told. g.items (h.works.session.touches.told ∙ told)
      ∙ ap (with_record item) (h.items told);
  len = omega (arith, h.len, g.len);
  room = λ told.
      let goes = h.works.session.touches in
      let H : ℕ → Type 0 = λ k. QueueHolds k (queue_blocks t w) t u in
      holds_then goes.shape (h.works.loses told) (h.room told)
      (subst H h.works.same.longest (g.room (goes.told ∙ told)));
}
put_after s t u q w z item (Err f) h g = stops_then q w z h.works h.room g

-- The rig's greatest number of blocks didn't fall,
pub puts_later : (s t : RigState) (q w : ExtQueue) (item : Record) (r : Result (Unit {0}) EmFault)
    → PutsTo item s t q w r → s.most ≤ t.most
puts_later s t q w item (Ok x) h = h.works.session.touches.most
puts_later s t q w item (Err f) h = h.goes.touches.most

-- and its numbers are sound; the queue's count of blocks is as it was.
pub puts_kept : (s t : RigState) (q w : ExtQueue) (item : Record) (r : Result (Unit {0}) EmFault)
    → PutsTo item s t q w r → Sound t × (w.blocks ≡ q.blocks)
puts_kept s t q w item (Ok x) h = (h.works.session.sound, h.works.same.blocks)
puts_kept s t q w item (Err f) h = (h.goes.sound, h.same.blocks)
