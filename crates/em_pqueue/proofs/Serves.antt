-- What a push and a pop leave of a queue, of its rig and of its numbers.
use Rattle.std.specs.Prelude.{Err, IfErr, IsErrAnd, IsTrue, List, Ok, Result, Some, ℕ, if◌then◌else◌, length, max, ◌+◌, ◌<◌, ◌==◌, ◌^◌, ◌≡◌, ◌≤◌}
use Rattle.std.proofs.Common.{arith, sym, ap, subst, ◌∙◌, refl, ⊎_elim}
use Rattle.em_frames.specs.Pool.{load_of}
use Rattle.em_space.specs.Held.{Within}
use Rattle.em_space.specs.Queue.{LacksBlocks, QueueCounts, Served, Serves}
use Rattle.em_space.specs.Rig.{Cause, Goes, IfFull, RigState, Sound}
use Rattle.em_space.specs.declared.fault.EmFault.{EmFault}
use Rattle.em_space.specs.declared.fault.EmFault.TheVariants.{DeviceFault, Full, Damaged}
use Rattle.em_space.proofs.Most.{held_most}
use Rattle.em_space.proofs.Paying.{pays_more}
use Rattle.em_space.proofs.Steps.{untold_by}
use Rattle.em_tree_cost.specs.ExtQueue.{ExtQueueCounts, after_call}
use Rattle.em_trunk.specs.Trunk.{trunk_unstored}
use Rattle.em_pqueue.specs.ExtQueue.{CountsBlocks, ExtQueueHasFrames, HoldsFrames, IsBagTree, IsExtQueue, Stands, any_blocks, counts_of, queue_blocks, trunk_of}
use Rattle.em_pqueue.specs.Steps.{Miscounts, Recounts, RecountsTo, Stops, Works, counted_call}
use Rattle.em_pqueue.specs.declared.queue.ExtQueue.{ExtQueue}
use Rattle.em_pqueue.proofs.Shares.{frames_after}
use Rattle.em_pqueue.proofs.Working.{full_by_err}
use Rattle.em_pqueue.specs.Room.{QueueOver}
use Rattle.em_pqueue.proofs.Notes.{NotedBy}
use Rattle.em_tree_cost.specs.Shares.{tree_room}
use Rattle.em_record.specs.Shape.{ShapeNumbers}

-- A call was counted: its numbers are those that are counted later.
pub call_counted : (s : RigState) (q : ExtQueue) → Stands (λ n. n) s q
    → Stands after_call s (counted_call q)
call_counted s q st =
    let n = st.shown in
    record {
      shape = st.shape;
      tree = st.tree;
      area = st.area;
      out = st.out;
      heap_len = st.heap_len;
      numbers = st.numbers;
      shown = record {
        calls = ap (λ (x : ℕ). x + 1) n.calls;
        longest = omega (arith, n.longest, n.since);
        since = ap (λ (x : ℕ). x + 1) n.since;
        heap = n.heap;
        in_tree = n.in_tree;
        pushed = n.pushed;
        tree_longest = n.tree_longest;
        tree_since = n.tree_since;
        resets = n.resets;
        unsettled = n.unsettled;
        none_adopted = n.none_adopted;
      };
      fits = st.fits;
      some = st.some;
      parts = λ told. record {
        are = (st.parts told).are;
        in_tree = (st.parts told).in_tree;
        given = (st.parts told).given;
      };
    }

-- so that they can be counted
pub call_stands : (s : RigState) (q c : ExtQueue) → c ≡ counted_call q → Stands (λ n. n) s q
    → Stands after_call s c
call_stands s q c e st =
    let P : ExtQueue → Type 0 = Stands after_call s in subst P (sym e) (call_counted s q st)

-- What a call left of rig, frames and numbers, at each exit.
pub serves_by : (s t : RigState) (q z : ExtQueue) → IsExtQueue s q → Goes (queue_blocks s q) s t
    → z.calls ≡ q.calls + 1 → z.longest ≡ max q.longest (q.since + 1)
    → z.tree.trunk.spent + s.moves ≡ q.tree.trunk.spent + t.moves → q.most ≤ z.most
    → t.most + q.blocks ≤ max (s.most + q.blocks) (s.used + z.most)
    → Serves (queue_blocks s q) (counts_of q) (counts_of z) s t
serves_by s t q z i g calls longest spent more most = record {
  sound = g.sound;
  touches = g.touches;
  frames = record {
    shape = g.frames.shape;
    free = omega (arith, g.frames.free);
    areas = omega (arith, g.frames.free_areas);
    rack = g.frames.rack;
    peak = g.frames.peak;
  };
  n = calls;
  k = longest;
  spent = spent;
  more = more;
  most = most;
}

goes_of : {s t : RigState} (q w : ExtQueue) → Works s t q w → Goes (queue_blocks s q) s t
goes_of q w h = record {
  sound = h.session.sound;
  touches = h.session.touches;
  frames = h.frames;
}

-- A refused part of a call, of a queue that was counted, and the most blocks that it held.
module _ (s t : RigState) (q m z : ExtQueue) (k : ℕ) (f : EmFault) (i : IsExtQueue s q)
    (h : Stops s t (counted_call q) m f) (e : z ≡ record m { most = k }) (nt : NotedBy s t q k) where
  kept_most : z.most ≡ k
  kept_most = ap (λ (x : ExtQueue). x.most) e

  kept_longest : z.longest ≡ max q.longest (q.since + 1)
  kept_longest = ap (λ (x : ExtQueue). x.longest) e ∙ h.same.longest

  pub stops_serves : Serves (queue_blocks s q) (counts_of q) (counts_of z) s t
  stops_serves =
      let spent = ap (λ (x : ExtQueue). x.tree.trunk.spent) e in
      serves_by s t q z i h.goes (ap (λ (x : ExtQueue). x.calls) e ∙ h.same.calls) kept_longest
      (omega (arith, spent, h.spent)) (omega (arith, kept_most, nt.more)) (omega (arith, kept_most, nt.most))

  pub stops_frames : HoldsFrames t z
  stops_frames =
      let P : ExtQueue → Type 0 = ExtQueueHasFrames t in
      let x = h.frames in
      let has : ExtQueueHasFrames t (record m { most = k }) = record {
        tree = x.tree;
        area = x.area;
        out = x.out;
        spent_most = x.spent_most;
        k_most = x.k_most;
        since_most = x.since_most;
        share = x.share;
      } in
      record {
        has = subst P (sym e) has;
        fits = λ told.
            let a = nt.fits (sym h.goes.touches.told ∙ told) in
            let b = ap (λ (p : ShapeNumbers). tree_room p z.longest) h.goes.touches.shape in
            let d = ap (λ (n : ℕ). tree_room s.pool.shape n) kept_longest in
            omega (arith, a, b, d, kept_most);
      }

-- All blocks are in use, and these are fewer than any number that is promised to be enough.
pub full_by : (s t : RigState) (c : QueueCounts) (k : ℕ) (held : List ℕ) (f : EmFault) → Sound t
    → t.blocks ≡ s.blocks → Cause s t f → (IsTrue s.device.told → c.blocks ≡ length held)
    → (IsTrue s.device.told → QueueOver k held s f)
    → IfFull f (LacksBlocks any_blocks (Some tree_room) c k s)
full_by s t c k held DeviceFault sound same cause blocks over = tt
full_by s t c k held (Full used) sound same cause blocks over = record {
  few = omega (arith, cause.0, sound.numbers.blocks_high);
  small = λ told.
      let b = blocks told in
      let o = (over told).full in
      omega (arith, b, o, cause.0, same);
}
full_by s t c k held (Damaged block) sound same cause blocks over = tt

-- its tree's k is at most its own
pub tree_within : (s : RigState) (q : ExtQueue) → Stands (λ n. n) s q → q.tree.trunk.longest ≤ q.longest
tree_within s q st =
    let n = st.shown in
    let k = st.fits.tree_k_most in
    let a : st.numbers.k ≡ q.longest = n.longest in
    let b : st.numbers.tree_k ≡ q.tree.trunk.longest = n.tree_longest in
    omega (arith, k, a, b)

pub call_within : (s : RigState) (q : ExtQueue) → Stands after_call s q → q.tree.trunk.longest ≤ q.longest
call_within s q st =
    let n = st.shown in
    let k = st.fits.tree_k_most in
    let a : max st.numbers.k (st.numbers.since + 1) ≡ q.longest = n.longest in
    let b : st.numbers.tree_k ≡ q.tree.trunk.longest = n.tree_longest in
    omega (arith, k, a, b)

-- a queue whose blocks and items were counted
recounted : (counted : ExtQueueCounts → ExtQueueCounts) (s : RigState) (w : ExtQueue) (b m l : ℕ)
    → Stands counted s w → Stands counted s (record w { blocks = b; most = m; len = l })
recounted counted s w b m l st =
    let n = st.shown in
    record {
      shape = st.shape;
      tree = st.tree;
      area = st.area;
      out = st.out;
      heap_len = st.heap_len;
      numbers = st.numbers;
      shown = record {
        calls = n.calls;
        longest = n.longest;
        since = n.since;
        heap = n.heap;
        in_tree = n.in_tree;
        pushed = n.pushed;
        tree_longest = n.tree_longest;
        tree_since = n.tree_since;
        resets = n.resets;
        unsettled = n.unsettled;
        none_adopted = n.none_adopted;
      };
      fits = st.fits;
      some = st.some;
      parts = λ told. record {
        are = (st.parts told).are;
        in_tree = (st.parts told).in_tree;
        given = (st.parts told).given;
      };
    }

module _ (s t : RigState) (q w z : ExtQueue) (i : IsExtQueue s q) (h : Works s t (counted_call q) w)
  where
    goes : Goes (queue_blocks s q) s t
    goes = goes_of (counted_call q) w h

    module _ (v : ExtQueue) (k : ℕ) (nt : NotedBy s t q k)
        (c : Recounts s.used t (record w { most = k }) v) where
      pub counted_stands : (counted : ExtQueueCounts → ExtQueueCounts) → Stands counted t w
          → Stands counted t v
      counted_stands counted st =
          let P : ExtQueue → Type 0 = Stands counted t in
          subst P (sym c.rest) (recounted counted t w v.blocks v.most v.len st)

      module _ (e : z ≡ record v { heap = z.heap; since = z.since; len = z.len }) where
        all_as : z ≡ record w {
          blocks = v.blocks;
          most = v.most;
          heap = z.heap;
          since = z.since;
          len = z.len;
        }
        all_as = e ∙ ap (λ (x : ExtQueue). record x { heap = z.heap; since = z.since; len = z.len }) c.rest

        most_is : z.most ≡ v.most
        most_is = ap (λ (x : ExtQueue). x.most) e

        blocks_is : z.blocks ≡ v.blocks
        blocks_is = ap (λ (x : ExtQueue). x.blocks) e

        pub counted_serves : Serves (queue_blocks s q) (counts_of q) (counts_of z) s t
        counted_serves =
            let calls = ap (λ (x : ExtQueue). x.calls) all_as in
            let longest = ap (λ (x : ExtQueue). x.longest) all_as in
            let spent = ap (λ (x : ExtQueue). x.tree.trunk.spent) all_as in
            serves_by s t q z i goes (calls ∙ h.same.calls) (longest ∙ h.same.longest)
            (omega (arith, spent, h.spent)) (omega (arith, c.most, nt.more, most_is))
            (omega (arith, c.most, nt.most, most_is))

        blocks_are : (IsTrue t.device.told → length (queue_blocks t w) ≤ tree_room t.pool.shape w.longest)
            → CountsBlocks t z
        blocks_are few =
            let l1 = ap (λ (x : ExtQueue). length (queue_blocks t x)) all_as in
            let longest : z.longest ≡ w.longest = ap (λ (x : ExtQueue). x.longest) all_as in
            record {
              blocks = λ told.
                  let back = sym h.session.touches.told ∙ told in
                  let l = h.loses back in
                  let b = i.counts.blocks back in
                  omega (arith, c.blocks, h.same.blocks, l, b, l1, blocks_is);
              few = omega (arith, c.few, blocks_is);
              most = omega (arith, c.most, most_is, blocks_is);
              fits = λ told.
                  let back = sym h.session.touches.told ∙ told in
                  let l = h.loses back in
                  let b = i.counts.blocks back in
                  let a = nt.fits back in
                  let r = few told in
                  let p = ap (λ (x : ShapeNumbers). tree_room x w.longest) h.session.touches.shape in
                  let d = ap (λ (n : ℕ). tree_room s.pool.shape n) h.same.longest in
                  let g = ap (λ (n : ℕ). tree_room t.pool.shape n) longest in
                  omega (arith, c.blocks, h.same.blocks, l, b, a, r, p, d, g, c.most, most_is);
            }

        pub counted_is : (IsTrue t.device.told
            → length (queue_blocks t w) ≤ tree_room t.pool.shape w.longest)
            → Stands (λ n. n) t z → z.len ≡ z.heap.len + z.in_tree → z.len ≤ 2 ^ 56
            → (z.len ≡ 0 → z.since ≡ 0) → IsExtQueue t z
        counted_is rest st len few none = record {
          stands = st;
          counts = blocks_are rest;
          len = len;
          few = few;
          since_none = none;
        }

        pub counted_within : Within s (queue_blocks s q) (queue_blocks t z)
        counted_within =
            let P : List ℕ → Type 0 = Within s (queue_blocks s q) in
            subst P (ap (λ (x : ExtQueue). queue_blocks t x) (sym all_as)) h.session.within

        pub counted_served : (z.since ≡ (if z.len == 0 then 0 else q.since + 1))
            → Served (counts_of q) (counts_of z) s t
        counted_served since =
            let u = ap (λ (x : ExtQueue). trunk_unstored (trunk_of x)) all_as in
            record {
              since = since;
              frames = refl;
              areas = refl;
              used = omega (arith, c.blocks, h.same.blocks, blocks_is);
              pays = pays_more h.pays (omega (arith, u));
            }

    -- Its blocks can't be as many: the device doesn't tell.
    module _ (f : EmFault) (k : ℕ) (m : Miscounts s.used t (record w { most = k }) z f) where
      pub never_told : IsTrue s.device.told → ⊥
      never_told told =
          let l = h.loses told in
          let b = i.counts.blocks told in
          let most = held_most t (queue_blocks t w) h.session.sound
          (h.session.touches.told ∙ told) (h.session.holds told) in
          let n = h.session.sound.numbers in
          ⊎_elim
          (λ (x : w.blocks + t.used < s.used). omega (arith, x, h.same.blocks, l, b))
          (λ (x : s.used + 2 ^ 41 < w.blocks + t.used).
          omega (arith, x, h.same.blocks, l, b, most, n.used_most, n.most_high, n.blocks_high))
          m.wrong

      pub miscounted_stops : IsBagTree t (trunk_of w) → w.heap.capacity ≡ load_of t.pool.shape
          → Stops s t (counted_call q) w f
      miscounted_stops tree area =
          let C : EmFault → Type 0 = λ g. Cause s t g in
          let cap : w.heap.capacity ≡ q.heap.capacity =
          area ∙ (ap load_of h.session.touches.shape ∙ sym i.stands.area) in
          record {
            goes = goes;
            frames = frames_after s t (counted_call q) w (call_counted s q i.stands) h.same goes
                tree.running.frames cap h.spent (λ told. absurd (never_told told));
            pays = pays_more h.pays (omega (arith, i.stands.shape.frames_low));
            spent = h.spent;
            same = h.same;
            cause = subst C (sym m.is) (
              untold_by t.device.told (λ told. never_told (sym h.session.touches.told ∙ told)),
              tree.running.numbers.root_below,
            );
            room = λ told. absurd (never_told told);
            over = λ told. absurd (never_told told);
          }

-- Blocks that can't be its own aren't for want of one: so P is said of a full call,
pub miscount_full : {T : Type 0} (P : Type 0) (u : ℕ) (t : RigState) (w z : ExtQueue) (f : EmFault)
    → Miscounts u t w z f → (r : Result T EmFault) → IsErrAnd r (λ g. g ≡ f)
    → IfErr r (λ g. IfFull g (λ _. P))
miscount_full P u t w z f m r x =
    let D : EmFault → Type 0 = λ g. IfFull g (λ _. P) in full_by_err P r f x (subst D (sym m.is) tt)

-- whatever the count came to.
pub recount_full : (P : Type 0) (u : ℕ) (t : RigState) (w z : ExtQueue)
    (r : Result (Unit {0}) EmFault) → RecountsTo u t w z r → IfErr r (λ g. IfFull g (λ _. P))
recount_full P u t w z (Ok x) h = tt
recount_full P u t w z (Err f) m =
    let D : EmFault → Type 0 = λ g. IfFull g (λ _. P) in subst D (sym m.is) tt
