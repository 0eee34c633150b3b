-- A full heap gives its upper half to the tree.
use Rattle.std.specs.Prelude.{Err, IsTrue, List, Ok, Result, ℕ, [], drop, get_or, length, max, take, ◌*◌, ◌++◌, ◌+◌, ◌-◌, ◌/◌, ◌∷◌, ◌≡◌, ◌≤◌}
use Rattle.std.proofs.Common.{arith, sym, ap, subst, ◌∙◌, append_assoc, length-take-le}
use Rattle.std.proofs.lemmas.List.{length-append}
use Rattle.std.proofs.Math.Nat.{mul-le-mul_right}
use Rattle.em_record.specs.Shape.{IsShape, ShapeNumbers, wide_of}
use Rattle.em_record.specs.declared.record.Record.{Record}
use Rattle.em_frames.specs.Pool.{load_of}
use Rattle.em_heap.specs.State.{HeapState}
use Rattle.em_settle.specs.Bag.{bag_key_of}
use Rattle.em_settle.specs.Rising.{RisesByKey}
use Rattle.em_space.specs.Rig.{RigState}
use Rattle.em_space.specs.declared.fault.EmFault.{EmFault}
use Rattle.em_tree_cost.specs.ExtQueue.{ExtQueueFits, after_call, after_spill}
use Rattle.em_tree_cost.proofs.ExtQueue.{pushes_most, queue_spill}
use Rattle.em_tree_cost.proofs.Levels.{size_is}
use Rattle.em_trunk.specs.Trunk as trunks
use Rattle.em_pqueue.specs.ExtQueue.{PartsStand, Shows, Stands, half_of, items_in_tree, trunk_of}
use Rattle.em_pqueue.specs.Parts.{AreParts}
use Rattle.em_pqueue.specs.Steps.{PushedDown, PushesAll, PushesMore, SameCalls, SpillsTo, Stops, StopsAmong, Works}
use Rattle.em_pqueue.specs.declared.queue.ExtQueue.{ExtQueue}
use Rattle.em_pqueue.proofs.Parts.{cons_of, pushed_in_order, spilled}
use Rattle.em_pqueue.proofs.Rising.{rises_last}
use Rattle.em_pqueue.proofs.Shares.{frames_after, share_by}

-- an area has room for two records at least
pub load_some : (shape : ShapeNumbers) → IsShape shape → 2 ≤ load_of shape
load_some shape is =
    let w8 : 8 * shape.block ≤ wide_of shape * shape.block =
    mul-le-mul_right shape.block (size_is shape is).wide in
    omega (arith, w8, is.block_low)

-- The upper half of the heap was taken out, and its least record set as the bound.
pub record TakesUpper (q : ExtQueue) (h : HeapState) (count : ℕ) (u : Record) (us : List Record)
    : Type 0 where
  pub items : q.heap.items ≡ h.items ++ take count h.behind
  pub count_is : count ≡ q.heap.len / 2
  pub len : h.len ≡ q.heap.len - count
  pub capacity : h.capacity ≡ q.heap.capacity
  pub upper : take count h.behind ≡ u ∷ us
  pub long : length (take count h.behind) ≡ count

-- It was so, by what the heap says and by what stands after it.
pub upper_taken : (s : RigState) (q : ExtQueue) (h : HeapState) (count : ℕ) (ys : List Record)
    (d : Record) → Stands after_call s q → q.heap.len ≡ q.heap.capacity
    → q.heap.items ≡ h.items ++ take count h.behind → count ≡ q.heap.len / 2
    → h.len ≡ q.heap.len - count → h.capacity ≡ q.heap.capacity → ys ≡ take count h.behind
    → length ys ≡ count → TakesUpper q h count (get_or ys 0 d) (drop 1 ys)
upper_taken s q h count ys d st full items half len cap is long =
    let l = load_some s.pool.shape st.shape in
    record {
      items = items;
      count_is = half;
      len = len;
      capacity = cap;
      upper = sym is ∙ cons_of ys d (omega (arith, long, half, full, l, st.area));
      long = ap length (sym is) ∙ long;
    }

module _ (s : RigState) (q : ExtQueue) (h : HeapState) (count : ℕ) (u : Record) (us : List Record)
    (st : Stands after_call s q) (full : q.heap.len ≡ q.heap.capacity)
    (up : TakesUpper q h count u us) where
  abbrev pub between : ExtQueue
  between = record q { heap = h; bound = u }

  half_is : count ≡ half_of s.pool.shape
  half_is = omega (arith, up.count_is, full, st.area)

  some : 1 ≤ count
  some = let l = load_some s.pool.shape st.shape in omega (arith, half_is, l)

  fits : ExtQueueFits (load_of s.pool.shape) (half_of s.pool.shape)
      (after_spill (half_of s.pool.shape) st.numbers)
  fits = queue_spill (load_of s.pool.shape) (half_of s.pool.shape) st.numbers st.fits
      (omega (arith, st.shown.heap, full, st.area)) (omega arith) (omega (arith, some, half_is))

  -- its k is at most that of the queue
  longest_most : (w : ExtQueue) (n : ℕ)
      → PushesMore n (trunks.counts_of (trunk_of q)) (trunks.counts_of (trunk_of w)) → n ≤ count
      → w.tree.trunk.longest ≤ q.longest
  longest_most w n c few =
      let m = st.shown in
      let l : w.tree.trunk.longest ≡ max q.tree.trunk.longest (q.tree.trunk.since + n) = c.longest in
      let k : max st.numbers.tree_k (st.numbers.tree_since + half_of s.pool.shape) ≤ st.numbers.k =
      fits.tree_k_most in
      let a : max st.numbers.k (st.numbers.since + 1) ≡ q.longest = m.longest in
      let b : st.numbers.tree_k ≡ q.tree.trunk.longest = m.tree_longest in
      let d : st.numbers.tree_since ≡ q.tree.trunk.since = m.tree_since in
      omega (arith, l, k, a, b, d, half_is, few)

  -- no more operations go into the tree than calls came
  pub few : (trunks.counts_of (trunk_of q)).n + count ≤ st.numbers.n
  few = let p = pushes_most (load_of s.pool.shape) (st.numbers.heap - half_of s.pool.shape)
      (st.numbers.tree_n + half_of s.pool.shape) st.numbers.n fits.all in
      omega (arith, p, half_is, st.shown.pushed)

  -- the keys of what goes over rise, and are below those of the tree
  pub rises : IsTrue s.device.told
      → RisesByKey bag_key_of (take count h.behind ++ items_in_tree s q)
  rises told =
      let P : List Record → Type 0 = λ l. RisesByKey bag_key_of (l ++ items_in_tree s q) in
      let Q : List Record → Type 0 = RisesByKey bag_key_of in
      rises_last bag_key_of h.items (take count h.behind ++ items_in_tree s q)
      (subst Q (append_assoc h.items (take count h.behind) (items_in_tree s q))
      (subst P up.items (st.parts told).are.rises))

  module _ (t : RigState) (w : ExtQueue)
      (p : PushedDown (take count h.behind) s t between w) where
    heap_is : w.heap ≡ h
    heap_is = ap (λ (x : ExtQueue). x.heap) p.rest

    bound_is : w.bound ≡ u
    bound_is = ap (λ (x : ExtQueue). x.bound) p.rest

    in_tree_is : w.in_tree ≡ q.in_tree + count
    in_tree_is = let e = ap (λ (x : ExtQueue). x.in_tree) p.rest in omega (arith, e, up.long)

    works : Works s t q w
    works = record {
      session = p.works.session;
      frames = p.works.frames;
      pays = p.works.pays;
      loses = p.works.loses;
      spent = p.works.spent;
      same = record {
        calls = p.works.same.calls;
        longest = p.works.same.longest;
        since = p.works.same.since;
        blocks = p.works.same.blocks;
        most = p.works.same.most;
      };
    }

    shown : Shows (after_call (after_spill (half_of s.pool.shape) st.numbers)) w
    shown =
        let n = st.shown in
        let c = p.counts in
        let same = p.works.same in
        let hl = ap (λ (x : HeapState). x.len) heap_is in
        record {
          calls = n.calls ∙ sym same.calls;
          longest = n.longest ∙ sym same.longest;
          since = n.since ∙ sym same.since;
          heap = omega (arith, n.heap, hl, up.len, half_is);
          in_tree = omega (arith, n.in_tree, in_tree_is, half_is);
          pushed = omega (arith, n.pushed, c.pushed, up.long, half_is);
          tree_longest = omega (arith, n.tree_longest, n.tree_since, c.longest, up.long, half_is);
          tree_since = omega (arith, n.tree_since, c.since, up.long, half_is);
          resets = n.resets ∙ sym c.resets;
          unsettled = c.unsettled ∙ n.unsettled;
          none_adopted = c.adopted ∙ n.none_adopted;
        }

    items_are : IsTrue s.device.told
        → items_in_tree t w ≡ take count h.behind ++ items_in_tree s q
    items_are told = p.items told
        ∙ pushed_in_order [] (take count h.behind) (items_in_tree s q) (rises told)

    parts : IsTrue s.device.told → PartsStand t w
    parts told =
        let old = st.parts told in
        let tree0 = items_in_tree s q in
        let P : List Record → Type 0 = λ l. AreParts q.bound l tree0 in
        let a = spilled q.bound h.items u us tree0
        (subst P (up.items ∙ ap (λ l. h.items ++ l) up.upper) old.are) in
        let A : Record → HeapState → List Record → Type 0 = λ b k l. AreParts b k.items l in
        let e : items_in_tree t w ≡ (u ∷ us) ++ tree0 =
        items_are told ∙ ap (λ l. l ++ tree0) up.upper in
        record {
          are = subst (λ b. A b w.heap (items_in_tree t w)) (sym bound_is)
              (subst (λ k. A u k (items_in_tree t w)) (sym heap_is) (subst (A u h) (sym e) a));
          in_tree =
              let l = length-append (take count h.behind) tree0 in
              let z = ap length (items_are told) in
              omega (arith, in_tree_is, old.in_tree, l, z, up.long);
          given = p.given told old.given;
        }

    pub spilled_stands : Stands after_call t w
    spilled_stands =
        let goes = p.works.session.touches in
        let F : ShapeNumbers → Type 0 = λ x. ExtQueueFits (load_of x) (half_of x)
        (after_spill (half_of s.pool.shape) st.numbers) in
        let hl = ap (λ (x : HeapState). x.len) heap_is in
        let hi = ap (λ (x : HeapState). length x.items) heap_is in
        let hc = ap (λ (x : HeapState). x.capacity) heap_is in
        let all = ap length up.items in
        let l = length-append h.items (take count h.behind) in
        let c = p.counts in
        record {
          shape = subst IsShape (sym goes.shape) st.shape;
          tree = p.tree;
          area = hc ∙ (up.capacity ∙ (st.area ∙ ap load_of (sym goes.shape)));
          out = omega (arith, st.out, p.works.frames.free_areas);
          heap_len = omega (arith, hl, hi, up.len, st.heap_len, all, l, up.long, up.count_is);
          numbers = after_spill (half_of s.pool.shape) st.numbers;
          shown = shown;
          fits = subst F (sym goes.shape) fits;
          some = λ n. omega (arith, c.since, up.long, some);
          parts = λ told. parts (sym goes.told ∙ told);
        }

    -- It was a spill.
    pub spill_ok : SpillsTo s t q w (Ok tt)
    spill_ok =
        let hl = ap (λ (x : HeapState). x.len) heap_is in
        let hc = ap (λ (x : HeapState). x.capacity) heap_is in (
          record {
            stands = spilled_stands;
            works = works;
            items = λ told. ap (λ (k : HeapState). k.items ++ items_in_tree t w) heap_is
                ∙ (ap (λ l. h.items ++ l) (items_are told)
                ∙ (sym (append_assoc h.items (take count h.behind) (items_in_tree s q))
                ∙ ap (λ l. l ++ items_in_tree s q) (sym up.items)));
            len = omega (arith, hl, up.len, in_tree_is, up.count_is);
            room = λ told. p.room told (st.parts told).given q.longest (longest_most w (length (take count h.behind)) p.counts
                (omega (arith, up.long)));
          },
          omega (arith, hl, hc, up.len, up.capacity, full, some, up.count_is),
          omega (arith, in_tree_is, some),
        )

  -- Or a push was refused.
  pub spill_stops : (t : RigState) (w : ExtQueue) (f : EmFault)
      → StopsAmong (take count h.behind) s t between w f → Stops s t q w f
  spill_stops t w f a =
      let p = a.stops in
      let same : SameCalls q w = record {
        calls = ap (λ (x : ExtQueue). x.calls) p.rest;
        longest = ap (λ (x : ExtQueue). x.longest) p.rest;
        since = ap (λ (x : ExtQueue). x.since) p.rest;
        blocks = ap (λ (x : ExtQueue). x.blocks) p.rest;
        most = ap (λ (x : ExtQueue). x.most) p.rest;
      } in
      let n = st.shown in
      let c = p.counts in
      let long : length (take a.done (take count h.behind)) + 1 ≤ count =
      (let l = length-take-le a.done (take count h.behind) (omega (arith, a.fewer)) in
      omega (arith, l, a.fewer, up.long)) in
      record {
        goes = p.goes;
        frames = frames_after s t q w st same p.goes p.frames
            (ap (λ (x : ExtQueue). x.heap.capacity) p.rest ∙ up.capacity) p.spent
            (λ told. share_by s.pool.shape (after_spill (half_of s.pool.shape) st.numbers)
            (trunks.counts_of (trunk_of w)) w.calls w.longest st.shape fits
            (omega (arith, c.pushed, n.pushed, long, half_is))
            (omega (arith, c.longest, n.tree_longest, n.tree_since, long, half_is))
            (c.resets ∙ sym n.resets) (c.unsettled ∙ n.unsettled)
            (omega (arith, c.counted, n.none_adopted, st.tree.running.numbers.counted_most))
            (omega (arith, same.calls, n.calls)) (omega (arith, same.longest, n.longest)) (p.share told));
        pays = p.pays;
        spent = p.spent;
        same = same;
        cause = p.cause;
        room = λ told. p.room told (st.parts told).given q.longest
            (longest_most w (length (take a.done (take count h.behind)) + 1) c long);
        over = λ told. p.over told (st.parts told).given q.longest
            (longest_most w (length (take a.done (take count h.behind)) + 1) c long);
      }

  -- what the pushes did, by their result
  pub spill_by : (t : RigState) (w : ExtQueue) (r : Result (Unit {0}) EmFault)
      → PushesAll (take count h.behind) s t between w r → SpillsTo s t q w r
  spill_by t w (Ok x) p = spill_ok t w p
  spill_by t w (Err f) a = spill_stops t w f a
