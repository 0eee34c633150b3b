-- An empty heap is filled from the tree.
use Rattle.std.specs.Prelude.{Err, IsTrue, List, Ok, Result, ℕ, [], get_or, length, max, suc, take, zero, ◌*◌, ◌++◌, ◌+◌, ◌-◌, ◌<◌, ◌^◌, ◌∷◌, ◌≡◌, ◌≤◌, ◌⊎◌}
use Rattle.std.proofs.Common.{arith, sym, ap, subst, ◌∙◌, refl, inl, inr, ⊎_elim, get_or-take, length-take-le, take-suc}
use Rattle.std.proofs.lemmas.List.{length-append}
use Rattle.std.proofs.Math.Nat.{mul-le-mul_left}
use Rattle.em_record.specs.Order.{in_order}
use Rattle.em_record.specs.Shape.{IsShape, ShapeNumbers}
use Rattle.em_record.specs.declared.record.Record.{Record}
use Rattle.em_record.proofs.Commutes.{order_ascending}
use Rattle.em_record.proofs.Order.{length_order}
use Rattle.em_record.proofs.OrderLaws.{which}
use Rattle.em_frames.specs.Pool.{load_of}
use Rattle.em_heap.specs.Lending.{empty_over}
use Rattle.em_heap.specs.State.{HeapState}
use Rattle.em_settle.specs.Bag.{bag_key_of, bag_step_of}
use Rattle.em_space.specs.Ledger.{Session}
use Rattle.em_space.specs.Queue.{Pays}
use Rattle.em_space.specs.Rig.{Cause, Goes, RigState, Sound}
use Rattle.em_space.specs.declared.fault.EmFault.{EmFault}
use Rattle.em_space.proofs.Paying.{pays_more}
use Rattle.em_space.proofs.Steps.{untold_by}
use Rattle.em_tree_cost.specs.Books.{TreeCounts, count_all, count_drain}
use Rattle.em_tree_cost.specs.ExtQueue.{ExtQueueCounts, ExtQueueFits, after_call, after_last_refill, after_refill}
use Rattle.em_tree_cost.proofs.ExtQueue.{pushes_most, queue_last_refill, queue_refill}
use Rattle.em_tree.specs.Calls.{CountsCall, StopsTrunk}
use Rattle.em_tree_walk.specs.Paid.{LosesNone}
use Rattle.em_tree.specs.Taking.{LeavesNothing, LeavesSome, TookFirst}
use Rattle.em_trunk.specs.Trunk.{given_by, model_of, trunk_blocks, trunk_unstored}
use Rattle.em_trunk.specs.Trunk as trunks
use Rattle.em_trunk.specs.declared.trunk.Trunk.{Trunk}
use Rattle.em_pqueue.specs.ExtQueue.{AnyItem, IsBagTree, PartsStand, Shows, Stands, half_of, items_in_tree, queue_blocks, trunk_of}
use Rattle.em_pqueue.specs.Items.{tree_items}
use Rattle.em_pqueue.specs.Parts.{AreParts}
use Rattle.em_pqueue.specs.Steps.{Mistakes, RefillsTo, SameCalls, Stops, TakenOver, TakesOver, Works}
use Rattle.em_pqueue.specs.declared.queue.ExtQueue.{ExtQueue}
use Rattle.em_pqueue.proofs.Items.{items_none, items_some, items_taken}
use Rattle.em_pqueue.proofs.Parts.{refilled}
use Rattle.em_pqueue.proofs.Pushed.{given_still}
use Rattle.em_pqueue.proofs.Rising.{none_in}
use Rattle.em_pqueue.proofs.Shares.{frames_after, share_by}
use Rattle.em_pqueue.proofs.Spills.{load_some}
use Rattle.em_pqueue.proofs.Working.{same_calls_then, works_none}
use Rattle.em_pqueue.proofs.Rooms.{holds_none, holds_within, over_within}
use Rattle.em_trunk.specs.Room.{FullOverRoom, WithinRoom}

-- Nothing was to be done.
pub refill_none : (s : RigState) (q : ExtQueue) → Sound s → Stands after_call s q
    → (q.heap.len ≡ 0 → q.in_tree ≡ 0) → RefillsTo s s q q (Ok tt)
refill_none s q sound st none = (
  record {
    stands = st;
    works = works_none s q sound (λ told. (st.tree.running.stands told).holds);
    items = λ told. refl;
    len = refl;
    room = λ told. holds_none refl;
  },
  none,
)

-- its tree's k is at most its own
tree_most : (s : RigState) (q : ExtQueue) → Stands after_call s q → q.tree.trunk.longest ≤ q.longest
tree_most s q st =
    let n = st.shown in
    let k = st.fits.tree_k_most in
    let a : max st.numbers.k (st.numbers.since + 1) ≡ q.longest = n.longest in
    let b : st.numbers.tree_k ≡ q.tree.trunk.longest = n.tree_longest in
    omega (arith, k, a, b)

-- A tree wasn't reset more often than calls came.
pub resets_few : (s : RigState) (q : ExtQueue) → Stands after_call s q → q.calls ≤ 2 ^ 100
    → q.tree.trunk.resets < 2 ^ 100
resets_few s q st few =
    let n = st.shown in
    let f = st.fits in
    let half = half_of s.pool.shape in
    let some : 1 ≤ half = (let l = load_some s.pool.shape st.shape in omega (arith, l)) in
    let m : st.numbers.spills * 1 ≤ st.numbers.spills * half = mul-le-mul_left st.numbers.spills some in
    let p = pushes_most (load_of s.pool.shape) st.numbers.heap st.numbers.tree_n st.numbers.n f.all in
    let z : st.numbers.z ≤ st.numbers.spills = ⊎_elim
    (λ (a : (st.numbers.tree_len ≡ 0) × (st.numbers.z ≤ st.numbers.spills)). a.1)
    (λ (a : st.numbers.z + 1 ≤ st.numbers.spills). omega (arith, a)) f.resets_most in
    omega (arith, n.resets, n.calls, few, m, p, z, f.spills_most)

-- The numbers of a tree that wasn't reset, and of one that was.
pub record TreeKept (c d : TreeCounts) : Type 0 where
  pub pushed : d.n ≡ c.n
  pub longest : d.k ≡ c.k
  pub since : d.since ≡ c.since
  pub resets : d.z ≡ c.z
  pub unsettled : d.y ≡ c.y
  pub adopted : d.adopted ≡ c.adopted

pub record TreeReset (c d : TreeCounts) : Type 0 where
  pub pushed : d.n ≡ c.n
  pub longest : d.k ≡ c.k
  pub since : d.since ≡ 0
  pub resets : d.z ≡ c.z + 1
  pub unsettled : d.y ≡ c.y
  pub adopted : d.adopted ≡ c.adopted

-- The tree took records out, into the area of the heap: w is the queue with that tree and that heap.
pub record TookInto (q w : ExtQueue) (area : List Record) : Type 0 where
  pub empty : q.heap.len ≡ 0
  pub some : 0 < q.in_tree
  pub rest : w ≡ record q { tree = w.tree; heap = w.heap }
  pub heap : w.heap ≡ empty_over area
  pub long : length area ≡ q.heap.capacity

pub less_or : (m n : ℕ) → m ≤ n → (m < n) ⊎ (m ≡ n)
less_or zero zero h = inr refl
less_or zero (suc n) h = inl (omega arith)
less_or (suc m) zero h = absurd (omega (arith, h))
less_or (suc m) (suc n) h = ⊎_elim
    (λ (l : m < n). inl (omega (arith, l)))
    (λ (e : m ≡ n). inr (ap suc e))
    (less_or m n (omega (arith, h)))

-- the last of some records
last_of : (n : ℕ) (xs : List Record) (last : Record) → 0 < n → n ≤ length xs
    → ((d : Record) → get_or (take n xs) (n - 1) d ≡ last)
    → take n xs ≡ take (n - 1) xs ++ last ∷ []
last_of zero xs last some within e = absurd (omega (arith, some))
last_of (suc n) xs last some within e =
    let m : suc n - 1 ≡ n = omega arith in
    let x : get_or xs n last ≡ last = sym (get_or-take (suc n) xs n last (omega arith))
    ∙ (ap (λ k. get_or (take (suc n) xs) k last) (sym m) ∙ e last) in
    take-suc xs n last (omega (arith, within))
    ∙ (ap (λ y. take n xs ++ y ∷ []) x ∙ ap (λ k. take k xs ++ last ∷ []) (sym m))

module _ (s t : RigState) (q w : ExtQueue) (area : List Record) (st : Stands after_call s q)
    (out : TookInto q w area) where
  same_in : SameCalls q w
  same_in = record {
    calls = ap (λ (x : ExtQueue). x.calls) out.rest;
    longest = ap (λ (x : ExtQueue). x.longest) out.rest;
    since = ap (λ (x : ExtQueue). x.since) out.rest;
    blocks = ap (λ (x : ExtQueue). x.blocks) out.rest;
    most = ap (λ (x : ExtQueue). x.most) out.rest;
  }

  cap : w.heap.capacity ≡ q.heap.capacity
  cap = ap (λ (h : HeapState). h.capacity) out.heap ∙ out.long

  -- The call of the tree was refused.
  pub take_stops : (f : EmFault) → StopsTrunk s t (trunk_of q) (trunk_of w) f
      → CountsCall count_all s t (trunk_of q) (trunk_of w)
      → (IsTrue s.device.told → WithinRoom q.tree.trunk.longest s t (trunk_of q))
      → (IsTrue s.device.told → FullOverRoom q.tree.trunk.longest s (trunk_of q) f) → Stops s t q w f
  take_stops f h c room over =
      let n = st.shown in
      let e = c.counts in
      record {
        goes = h.goes;
        frames = frames_after s t q w st same_in h.goes h.frames cap c.spent
            (λ told. share_by s.pool.shape st.numbers (trunks.counts_of (trunk_of w)) w.calls
            w.longest st.shape st.fits
            (omega (arith, n.pushed, ap (λ (x : TreeCounts). x.n) e))
            (omega (arith, n.tree_longest, ap (λ (x : TreeCounts). x.k) e))
            (ap (λ (x : TreeCounts). x.z) e ∙ sym n.resets)
            (ap (λ (x : TreeCounts). x.y) e ∙ n.unsettled)
            (ap (λ (x : TreeCounts). x.counted) e ∙ n.none_adopted)
            (omega (arith, same_in.calls, n.calls)) (omega (arith, same_in.longest, n.longest))
            (c.share told));
        pays = h.pays;
        spent = c.spent;
        same = same_in;
        cause = h.cause;
        room = λ told. holds_within st.tree st.shape told (st.parts told).given (tree_most s q st) (room told);
        over = λ told. over_within st.tree st.shape told (st.parts told).given (tree_most s q st) (over told);
      }

  module _ (n : ℕ)
      (took : TookFirst bag_key_of bag_step_of AnyItem AnyItem area n s t (trunk_of q) (trunk_of w))
      (counts : CountsCall count_all s t (trunk_of q) (trunk_of w)
      ⊎ CountsCall (λ c. count_drain 0 (count_all c)) s t (trunk_of q) (trunk_of w))
      (room : IsTrue s.device.told → WithinRoom q.tree.trunk.longest s t (trunk_of q)) where
    abbrev before : TreeCounts
    before = trunks.counts_of (trunk_of q)

    abbrev after : TreeCounts
    after = trunks.counts_of (trunk_of w)

    goes : Goes (queue_blocks s q) s t
    goes = record {
      sound = took.session.sound;
      touches = took.session.touches;
      frames = took.frames;
    }

    counted : TreeKept before after ⊎ TreeReset before after
    counted = ⊎_elim
        (λ (c : CountsCall count_all s t (trunk_of q) (trunk_of w)). inl (record {
          pushed = ap (λ (x : TreeCounts). x.n) c.counts;
          longest = ap (λ (x : TreeCounts). x.k) c.counts;
          since = ap (λ (x : TreeCounts). x.since) c.counts;
          resets = ap (λ (x : TreeCounts). x.z) c.counts;
          unsettled = ap (λ (x : TreeCounts). x.y) c.counts;
          adopted = ap (λ (x : TreeCounts). x.adopted) c.counts;
        }))
        (λ (c : CountsCall (λ c. count_drain 0 (count_all c)) s t (trunk_of q) (trunk_of w)). inr (record {
          pushed = ap (λ (x : TreeCounts). x.n) c.counts;
          longest = ap (λ (x : TreeCounts). x.k) c.counts;
          since = ap (λ (x : TreeCounts). x.since) c.counts;
          resets = ap (λ (x : TreeCounts). x.z) c.counts;
          unsettled = ap (λ (x : TreeCounts). x.y) c.counts;
          adopted = ap (λ (x : TreeCounts). x.adopted) c.counts;
        }))
        counts

    spent : w.tree.trunk.spent + s.moves ≡ q.tree.trunk.spent + t.moves
    spent = ⊎_elim
        (λ (c : CountsCall count_all s t (trunk_of q) (trunk_of w)). c.spent)
        (λ (c : CountsCall (λ c. count_drain 0 (count_all c)) s t (trunk_of q) (trunk_of w)). c.spent)
        counts

    taken_long : length (take n area) ≡ n
    taken_long = length-take-le n area took.few

    -- the tree's items were those that were taken, and those that are left
    taken_items : IsTrue s.device.told → items_in_tree s q ≡ take n area ++ items_in_tree t w
    taken_items told =
        let l = took.taken told in
        items_taken (model_of s (trunk_of q)) (model_of t (trunk_of w)) (take n area)
        (st.tree.running.stands told).is
        (took.is.running.stands (took.session.touches.told ∙ told)).is l.out l.contents

    numbers_add : IsTrue s.device.told → q.in_tree ≡ n + length (items_in_tree t w)
    numbers_add told =
        let a = ap length (taken_items told) in
        let b = length-append (take n area) (items_in_tree t w) in
        let c = (st.parts told).in_tree in
        omega (arith, a, b, c, taken_long)

    -- Over a device that tells the number can't be wrong.
    left_some : (told : IsTrue s.device.told)
        → LeavesSome bag_key_of bag_step_of n t (trunk_of q) (trunk_of w)
        → (n ≡ 0 → ⊥) × (0 < length (items_in_tree t w)) × TreeKept before after
    left_some told e = (
      λ z. (let m = e.many in omega (arith, m, z)),
      some_of (items_in_tree t w) (items_some (model_of t (trunk_of w)) e.some.key e.some.record_of
          (took.is.running.stands (took.session.touches.told ∙ told)).is e.some.is),
      ⊎_elim (λ (k : TreeKept before after). k)
          (λ (k : TreeReset before after). absurd (let a = k.resets in let b = e.resets in
          omega (arith, a, b))) counted,
    )
      where
        some_of : (xs : List Record) → (xs ≡ [] → ⊥) → 0 < length xs
        some_of [] h = absurd (h refl)
        some_of (x ∷ xs) h = omega arith

    left_none : (told : IsTrue s.device.told)
        → LeavesNothing bag_key_of bag_step_of t (trunk_of q) (trunk_of w)
        → (items_in_tree t w ≡ []) × TreeReset before after
    left_none told e = (
      items_none (model_of t (trunk_of w))
          (took.is.running.stands (took.session.touches.told ∙ told)).is e.contents,
      ⊎_elim (λ (k : TreeKept before after). absurd (let a = k.resets in let b = e.resets in
          omega (arith, a, b)))
          (λ (k : TreeReset before after). k) counted,
    )

    -- If the number is wrong, the device doesn't tell.
    never_told : (z : ExtQueue) (f : EmFault) → Mistakes n w z f → IsTrue s.device.told → ⊥
    never_told z f m told =
        let add = numbers_add told in
        let it = ap (λ (x : ExtQueue). x.in_tree) out.rest in
        let old = st.some out.some in
        let some = out.some in
        ⊎_elim
        (λ (e : LeavesSome bag_key_of bag_step_of n t (trunk_of q) (trunk_of w)).
        let l = left_some told e in
        let more = l.1 in
        let since = l.2.since in ⊎_elim
        (λ (a : n ≡ 0). l.0 a)
        (λ (r : (w.in_tree < n) ⊎ ((n ≡ w.in_tree) × (0 < w.tree.trunk.since))
        ⊎ ((n < w.in_tree) × (w.tree.trunk.since ≡ 0))). ⊎_elim
        (λ (a : w.in_tree < n). omega (arith, a, add, it))
        (λ (r : ((n ≡ w.in_tree) × (0 < w.tree.trunk.since))
        ⊎ ((n < w.in_tree) × (w.tree.trunk.since ≡ 0))). ⊎_elim
        (λ (a : (n ≡ w.in_tree) × (0 < w.tree.trunk.since)). omega (arith, a.0, add, it, more))
        (λ (a : (n < w.in_tree) × (w.tree.trunk.since ≡ 0)). omega (arith, a.1, since, old)) r) r)
        m.wrong)
        (λ (e : LeavesNothing bag_key_of bag_step_of t (trunk_of q) (trunk_of w)).
        let l = left_none told e in
        let none = ap length l.0 in
        let since = l.1.since in ⊎_elim
        (λ (a : n ≡ 0). omega (arith, a, add, none, some))
        (λ (r : (w.in_tree < n) ⊎ ((n ≡ w.in_tree) × (0 < w.tree.trunk.since))
        ⊎ ((n < w.in_tree) × (w.tree.trunk.since ≡ 0))). ⊎_elim
        (λ (a : w.in_tree < n). omega (arith, a, add, it))
        (λ (r : ((n ≡ w.in_tree) × (0 < w.tree.trunk.since))
        ⊎ ((n < w.in_tree) × (w.tree.trunk.since ≡ 0))). ⊎_elim
        (λ (a : (n ≡ w.in_tree) × (0 < w.tree.trunk.since)). omega (arith, a.1, since))
        (λ (a : (n < w.in_tree) × (w.tree.trunk.since ≡ 0)). omega (arith, a.0, add, it, none)) r) r)
        m.wrong)
        (took.ends told)

    pub refill_stops : (z : ExtQueue) (f : EmFault) → Mistakes n w z f → Stops s t q z f
    refill_stops z f m =
        let P : ExtQueue → Type 0 = λ x. Stops s t q x f in
        let C : EmFault → Type 0 = λ g. Cause s t g in
        let shape = st.shape in
        subst P (sym m.same) (record {
          goes = goes;
          frames = frames_after s t q w st same_in goes took.is.running.frames cap spent
              (λ told. absurd (never_told z f m told));
          pays = pays_more took.pays (omega (arith, shape.frames_low));
          spent = spent;
          same = same_in;
          cause = subst C (sym m.is) (
            untold_by t.device.told (λ told. never_told z f m (sym goes.touches.told ∙ told)),
            took.is.running.numbers.root_below,
          );
          room = λ told. absurd (never_told z f m told);
          over = λ told. absurd (never_told z f m told);
        })

    module _ (z : ExtQueue) (over : TakenOver n w z) where
      -- the numbers afterwards
      record Numbers : Type 0 where
        pub are : ExtQueueCounts
        pub shown : Shows (after_call are) z
        pub fits : ExtQueueFits (load_of s.pool.shape) (half_of s.pool.shape) are
        pub some : 0 < z.in_tree → 0 < w.tree.trunk.since

      heap_len_is : z.heap.len ≡ n
      heap_len_is = ap (λ (x : ExtQueue). x.heap.len) over.rest

      left_is : z.in_tree + n ≡ q.in_tree
      left_is =
          let a = ap (λ (x : ExtQueue). x.in_tree) over.rest in
          let it = ap (λ (x : ExtQueue). x.in_tree) out.rest in
          omega (arith, a, it, over.within)

      tree_is : trunk_of z ≡ trunk_of w
      tree_is = ap trunk_of over.rest

      within_load : n ≤ load_of s.pool.shape
      within_load = omega (arith, took.few, out.long, st.area)

      same_over : SameCalls w z
      same_over = record {
        calls = ap (λ (x : ExtQueue). x.calls) over.rest;
        longest = ap (λ (x : ExtQueue). x.longest) over.rest;
        since = ap (λ (x : ExtQueue). x.since) over.rest;
        blocks = ap (λ (x : ExtQueue). x.blocks) over.rest;
        most = ap (λ (x : ExtQueue). x.most) over.rest;
      }

      shows : (m : ExtQueueCounts) → m.n ≡ st.numbers.n → m.k ≡ st.numbers.k
          → m.since ≡ st.numbers.since → m.heap ≡ n → m.tree_len ≡ z.in_tree
          → m.tree_n ≡ after.n → m.tree_k ≡ after.k → m.tree_since ≡ after.since
          → m.z ≡ after.z → after.y ≡ 0 → after.adopted ≡ 0 → Shows (after_call m) z
      shows m a b c h l d e f g y none =
          let k = st.shown in
          record {
            calls = omega (arith, a, k.calls, same_in.calls, same_over.calls);
            longest = omega (arith, b, c, k.longest, same_in.longest, same_over.longest);
            since = omega (arith, c, k.since, same_in.since, same_over.since);
            heap = h ∙ sym heap_len_is;
            in_tree = l;
            pushed = d ∙ sym (ap (λ v. (trunks.counts_of v).n) tree_is);
            tree_longest = e ∙ sym (ap (λ v. (trunks.counts_of v).k) tree_is);
            tree_since = f ∙ sym (ap (λ v. (trunks.counts_of v).since) tree_is);
            resets = g ∙ sym (ap (λ v. (trunks.counts_of v).z) tree_is);
            unsettled = ap (λ v. (trunks.counts_of v).y) tree_is ∙ y;
            none_adopted = ap (λ v. (trunks.counts_of v).adopted) tree_is ∙ none;
          }

      numbers_kept : TreeKept before after → Numbers
      numbers_kept k =
          let old = st.some out.some in
          let n0 = st.shown in
          let it = ap (λ (x : ExtQueue). x.in_tree) out.rest in
          let fewer : n < st.numbers.tree_len = ⊎_elim
          (λ (e : n ≡ w.in_tree). absurd (let z0 = over.all e in let b = k.since in omega (arith, z0, b, old)))
          (λ (d : n ≡ w.in_tree → ⊥). ⊎_elim
          (λ (l : n < w.in_tree). omega (arith, l, it, n0.in_tree))
          (λ (e : n ≡ w.in_tree). absurd (d e))
          (less_or n w.in_tree over.within))
          (which n w.in_tree) in
          record {
            are = after_refill n st.numbers;
            shown = shows (after_refill n st.numbers) refl refl refl refl
                (omega (arith, n0.in_tree, left_is)) (n0.pushed ∙ sym k.pushed)
                (n0.tree_longest ∙ sym k.longest) (n0.tree_since ∙ sym k.since)
                (n0.resets ∙ sym k.resets) (k.unsettled ∙ n0.unsettled) (k.adopted ∙ n0.none_adopted);
            fits = queue_refill (load_of s.pool.shape) (half_of s.pool.shape) st.numbers st.fits n
                (omega (arith, n0.heap, out.empty)) fewer within_load;
            some = λ h. omega (arith, k.since, old);
          }

      numbers_reset : TreeReset before after → Numbers
      numbers_reset k =
          let n0 = st.shown in
          let it = ap (λ (x : ExtQueue). x.in_tree) out.rest in
          let all : n ≡ w.in_tree = over.fresh k.since in
          record {
            are = after_last_refill n st.numbers;
            shown = shows (after_last_refill n st.numbers) refl refl refl refl
                (omega (arith, all, it, left_is)) (n0.pushed ∙ sym k.pushed)
                (n0.tree_longest ∙ sym k.longest) (sym k.since)
                (omega (arith, n0.resets, k.resets)) (k.unsettled ∙ n0.unsettled) (k.adopted ∙ n0.none_adopted);
            fits = queue_last_refill (load_of s.pool.shape) (half_of s.pool.shape) st.numbers st.fits
                n (omega (arith, n0.heap, out.empty)) (omega (arith, n0.in_tree, out.some)) within_load;
            some = λ h. absurd (omega (arith, h, all, it, left_is));
          }

      numbers : Numbers
      numbers = ⊎_elim numbers_kept numbers_reset counted

      -- the heap's items are those that were taken
      items_over : IsTrue s.device.told → z.heap.items ≡ take n area
      items_over told =
          ap (λ (x : ExtQueue). x.heap.items) over.rest
          ∙ (ap (λ (h : HeapState). in_order (take n h.behind)) out.heap
          ∙ order_ascending (take n area) (took.ascends told))

      last_over : IsTrue s.device.told → take n area ≡ take (n - 1) area ++ z.bound ∷ []
      last_over told = last_of n area z.bound over.some took.few
          (λ d. ap (λ l. get_or l (n - 1) d) (sym (order_ascending (take n area) (took.ascends told))
          ∙ ap (λ (h : HeapState). in_order (take n h.behind)) (sym out.heap)) ∙ over.bound d)

      parts : IsTrue s.device.told → PartsStand t z
      parts told =
          let old = st.parts told in
          let items0 : q.heap.items ≡ [] = none_in q.heap.items (omega (arith, st.heap_len, out.empty)) in
          let whole : items_in_tree s q ≡ (take (n - 1) area ++ z.bound ∷ []) ++ items_in_tree t w =
          taken_items told ∙ ap (λ l. l ++ items_in_tree t w) (last_over told) in
          let A : List Record → List Record → Type 0 = λ h l. AreParts q.bound h l in
          let a = refilled q.bound (take (n - 1) area) z.bound (items_in_tree t w)
          (subst (A []) whole (subst (λ h. A h (items_in_tree s q)) items0 old.are)) in
          let B : List Record → Type 0 = λ h. AreParts z.bound h (items_in_tree t w) in
          let C : Trunk → Type 0 = λ v. AreParts z.bound z.heap.items (tree_items (model_of t v)) in
          let add = numbers_add told in
          let given : given_by t (trunk_of w) ≡ [] = given_still (given_by s (trunk_of q))
          (model_of s (trunk_of q)) (given_by t (trunk_of w)) (model_of t (trunk_of w)) old.given
          (took.taken told).answers in
          record {
            are = subst C (sym tree_is) (subst B (sym (items_over told ∙ last_over told)) a);
            in_tree =
                let e = ap (λ v. length (tree_items (model_of t v))) tree_is in
                omega (arith, e, left_is, add);
            given = ap (given_by t) tree_is ∙ given;
          }

      works : Works s t q z
      works =
          let T : Trunk → Type 0 = λ v. Session (queue_blocks s q) s t (trunk_blocks t v) in
          let U : Trunk → Type 0 = λ v. Pays (trunk_unstored (trunk_of q)) (trunk_unstored v) s t in
          let L : Trunk → Type 0 = λ v. LosesNone (queue_blocks s q) (trunk_blocks t v) s t in
          let sp = ap (λ (v : Trunk). v.spent) tree_is in
          record {
            session = subst T (sym tree_is) took.session;
            frames = took.frames;
            pays = subst U (sym tree_is) took.pays;
            loses = subst L (sym tree_is) took.loses;
            spent = omega (arith, spent, sp);
            same = same_calls_then same_in same_over;
          }

      pub refill_ok : RefillsTo s t q z (Ok tt)
      refill_ok =
          let shape = took.session.touches.shape in
          let F : ShapeNumbers → Type 0 = λ x. ExtQueueFits (load_of x) (half_of x) numbers.are in
          let B : Trunk → Type 0 = IsBagTree t in
          let hc = ap (λ (x : ExtQueue). x.heap.capacity) over.rest in
          let hi = ap (λ (x : ExtQueue). length x.heap.items) over.rest in
          let lo = length_order (take n w.heap.behind) in
          let lb = ap (λ (h : HeapState). length (take n h.behind)) out.heap in
          let sn = ap (λ (v : Trunk). v.since) tree_is in (
            record {
              stands = record {
                shape = subst IsShape (sym shape) st.shape;
                tree = subst B (sym tree_is) took.is;
                area = hc ∙ (cap ∙ (st.area ∙ ap load_of (sym shape)));
                out = omega (arith, st.out, took.frames.free_areas);
                heap_len = omega (arith, heap_len_is, hi, lo, lb, taken_long);
                numbers = numbers.are;
                shown = numbers.shown;
                fits = subst F (sym shape) numbers.fits;
                some = λ h. (let a = numbers.some h in omega (arith, a, sn));
                parts = λ told. parts (sym took.session.touches.told ∙ told);
              };
              works = works;
              items = λ told.
                  let items0 : q.heap.items ≡ [] =
                  none_in q.heap.items (omega (arith, st.heap_len, out.empty)) in
                  ap (λ l. l ++ items_in_tree t z) (items_over told)
                  ∙ (ap (λ v. take n area ++ tree_items (model_of t v)) tree_is
                  ∙ (sym (taken_items told) ∙ ap (λ l. l ++ items_in_tree s q) (sym items0)));
              len = omega (arith, heap_len_is, left_is, out.empty);
              room = λ told. holds_within st.tree st.shape told (st.parts told).given (tree_most s q st) (room told);
            },
            λ e. absurd (omega (arith, e, heap_len_is, over.some)),
          )

    -- What was taken is the heap's, or the number is wrong.
    pub refill_by : (z : ExtQueue) (r : Result (Unit {0}) EmFault) → TakesOver n w z r
        → RefillsTo s t q z r
    refill_by z (Ok x) over = refill_ok z over
    refill_by z (Err f) m = refill_stops z f m

-- The rig's greatest number of blocks didn't fall,
pub refills_later : (s t : RigState) (q w : ExtQueue) (r : Result (Unit {0}) EmFault)
    → RefillsTo s t q w r → s.most ≤ t.most
refills_later s t q w (Ok x) h = h.0.works.session.touches.most
refills_later s t q w (Err f) h = h.goes.touches.most

-- and its numbers are sound; the queue's count of blocks is as it was.
pub refills_kept : (s t : RigState) (q w : ExtQueue) (r : Result (Unit {0}) EmFault)
    → RefillsTo s t q w r → Sound t × (w.blocks ≡ q.blocks)
refills_kept s t q w (Ok x) h = (h.0.works.session.sound, h.0.works.same.blocks)
refills_kept s t q w (Err f) h = (h.goes.sound, h.same.blocks)
