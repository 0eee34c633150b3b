-- The laws of a queue that keeps a heap over a tree.
use Rattle.std.specs.Prelude.{◌≡◌, ℕ, ◌+◌, ◌≤◌, List, ◌++◌, length, min, IsTrue}
use Rattle.std.proofs.Common.{arith, sym, ap, subst, ◌∙◌}
use Rattle.std.proofs.lemmas.List.{length-append}
use Rattle.em_record.specs.Order.{IsAscending}
use Rattle.em_record.specs.Shape.{IsShape, ShapeNumbers}
use Rattle.em_frames.specs.Pool.{load_of}
use Rattle.em_settle.specs.Bag.{bag_key_of}
use Rattle.em_space.specs.Held.{Apart, Holds}
use Rattle.em_space.specs.Queue.{AreOut, IsRising, IsRisingRoom}
use Rattle.em_space.specs.Rig.{RigState, Touches}
use Rattle.em_tree_cost.specs.ExtQueue.{ExtQueueCounts, ExtQueueFits}
use Rattle.em_tree_cost.specs.Shares.{queue_share, tree_room, tree_share}
use Rattle.em_tree_cost.proofs.Books.{books_share}
use Rattle.em_tree_cost.proofs.ExtQueue.{queue_within}
use Rattle.em_tree_cost.proofs.Rising.{queue_share_rises, tree_room_rises}
use Rattle.em_tree_model.specs.Tree.{Tree}
use Rattle.em_trunk.specs.Trunk.{TrunkHasFrames}
use Rattle.em_trunk.proofs.Stays.{TrunkReads, TrunkStays, trunk_stays}
use Rattle.em_pqueue.specs.Ascending.{rising_ascends}
use Rattle.em_pqueue.specs.ExtQueue.{AnyItem, ExtQueueHasFrames, HoldsFrames, IsExtQueue, PartsStand, Shows, counts_of, half_of, items_in_tree, queue_blocks, queue_items, trunk_of}
use Rattle.em_pqueue.specs.Items.{tree_items}
use Rattle.em_pqueue.specs.Parts.{AreParts}
use Rattle.em_pqueue.specs.declared.queue.ExtQueue.{ExtQueue}

-- a tree within its share, by numbers that fit it, is within the queue's
pub share_of : (shape : ShapeNumbers) (n : ExtQueueCounts) (spent : ℕ) → IsShape shape
    → ExtQueueFits (load_of shape) (half_of shape) n
    → spent ≤ tree_share shape n.tree_n n.tree_k n.z 0 → spent ≤ queue_share shape n.n n.k
share_of shape n spent is fits h =
    queue_within shape (half_of shape) spent 0 n is fits (omega arith) (omega arith) h

-- what a shown tree has spent, in these numbers
pub shown_share : (shape : ShapeNumbers) (n : ExtQueueCounts) (q : ExtQueue) (spent y more : ℕ) → Shows n q
    → q.tree.trunk.counted ≤ q.tree.trunk.adopted
    → spent ≤ tree_share shape (q.tree.trunk.pushed + q.tree.trunk.counted) q.tree.trunk.longest
    q.tree.trunk.resets y → y ≡ q.tree.trunk.settled + more
    → spent ≤ tree_share shape n.tree_n n.tree_k n.z more
shown_share shape n q spent y more h c s e =
    let v = trunk_of q in
    let A : ℕ → Type 0 = λ x. spent ≤ tree_share shape x v.longest v.resets y in
    let B : ℕ → Type 0 = λ x. spent ≤ tree_share shape n.tree_n x v.resets y in
    let C : ℕ → Type 0 = λ x. spent ≤ tree_share shape n.tree_n n.tree_k x y in
    let D : ℕ → Type 0 = λ x. spent ≤ tree_share shape n.tree_n n.tree_k n.z x in
    subst D (omega (arith, e, h.unsettled)) (subst C (sym h.resets) (subst B (sym h.tree_longest)
    (subst A (omega (arith, c, h.none_adopted, h.pushed)) s)))

pub frames_of : (q : ExtQueue) (s : RigState) → IsExtQueue s q → HoldsFrames s q
frames_of q s i =
    let st = i.stands in
    let n = st.shown in
    let has : ExtQueueHasFrames s q = record {
      tree = st.tree.running.frames;
      area = st.area;
      out = st.out;
      spent_most = st.tree.running.numbers.spent_most;
      k_most = omega (arith, n.calls, n.longest, st.fits.k_most);
      since_most = omega (arith, n.since, n.longest, st.fits.since_most);
      share = λ told. rw (← n.calls, ← n.longest) (share_of s.pool.shape st.numbers q.tree.trunk.spent
          st.shape st.fits (shown_share s.pool.shape st.numbers q q.tree.trunk.spent
          q.tree.trunk.settled 0 n st.tree.running.numbers.counted_most (books_share st.shape (st.tree.books told))
          (omega arith)));
    } in
    record { has = has; fits = i.counts.fits }

pub len_is : (q : ExtQueue) (s : RigState) → IsExtQueue s q → IsTrue s.device.told
    → q.len ≡ length (queue_items s q)
len_is q s i told =
    let st = i.stands in
    let e = length-append q.heap.items (items_in_tree s q) in
    omega (arith, i.len, e, st.heap_len, (st.parts told).in_tree)

pub ascending : (q : ExtQueue) (s : RigState) → IsExtQueue s q → IsTrue s.device.told
    → IsAscending (queue_items s q)
ascending q s i told = rising_ascends (queue_items s q) (i.stands.parts told).are.rises

pub holds : (q : ExtQueue) (s : RigState) → IsExtQueue s q → IsTrue s.device.told
    → Holds s (queue_blocks s q)
holds q s i told = (i.stands.tree.running.stands told).holds

tree_frames_stay : (q : ExtQueue) (held : List ℕ) (s t : RigState) → TrunkHasFrames s (trunk_of q)
    → Touches held s t → AreOut (counts_of q) t.pool → TrunkHasFrames t (trunk_of q)
tree_frames_stay q held s t f h o = record {
  buffer = f.buffer ∙ ap (λ (x : ShapeNumbers). x.block) (sym h.shape);
  answers = f.answers ∙ ap (λ (x : ShapeNumbers). x.block) (sym h.shape);
  out = o.singles;
}

kept_frames : (q : ExtQueue) (held : List ℕ) (s t : RigState) → ExtQueueHasFrames s q
    → Touches held s t → AreOut (counts_of q) t.pool → ExtQueueHasFrames t q
kept_frames q held s t f h o = record {
  tree = tree_frames_stay q held s t f.tree h o;
  area = f.area ∙ ap load_of (sym h.shape);
  out = o.areas;
  spent_most = omega (arith, f.spent_most, h.moves);
  k_most = f.k_most;
  since_most = f.since_most;
  share = λ told. rw (h.shape) (f.share (sym h.told ∙ told));
}

pub frames_stay : (q : ExtQueue) (held : List ℕ) (s t : RigState) → HoldsFrames s q
    → Touches held s t → AreOut (counts_of q) t.pool → HoldsFrames t q
frames_stay q held s t f h o = record {
  has = kept_frames q held s t f.has h o;
  fits = λ told. rw (h.shape) (f.fits (sym h.told ∙ told));
}

-- the parts are read as they were
parts_stay : (s t : RigState) (q : ExtQueue) → TrunkReads s t (trunk_of q) → PartsStand s q
    → PartsStand t q
parts_stay s t q r h =
    let P : Tree → Type 0 = λ x. AreParts q.bound q.heap.items (tree_items x) in
    record {
      are = subst P (sym r.model) h.are;
      in_tree = h.in_tree ∙ ap (λ x. length (tree_items x)) (sym r.model);
      given = r.given ∙ h.given;
    }

pub stays : (q : ExtQueue) (held : List ℕ) (s t : RigState) → IsExtQueue s q → Touches held s t
    → (IsTrue s.device.told → Apart (queue_blocks s q) held) → AreOut (counts_of q) t.pool
    → IsExtQueue t q × (IsTrue s.device.told → queue_items t q ≡ queue_items s q)
    × (IsTrue s.device.told → queue_blocks t q ≡ queue_blocks s q)
stays q held s t i h a o =
    let st = i.stands in
    let f = tree_frames_stay q held s t st.tree.running.frames h o in
    let w : TrunkStays bag_key_of AnyItem AnyItem s t (trunk_of q) =
    trunk_stays bag_key_of AnyItem AnyItem held s t (trunk_of q) h f st.tree a in
    let back = λ (z : IsTrue t.device.told). (let y : IsTrue s.device.told = sym h.told ∙ z in y) in
    let F : ShapeNumbers → Type 0 = λ p. ExtQueueFits (load_of p) (half_of p) st.numbers in (
      record {
        stands = record {
          shape = subst IsShape (sym h.shape) st.shape;
          tree = w.is;
          area = st.area ∙ ap load_of (sym h.shape);
          out = o.areas;
          heap_len = st.heap_len;
          numbers = st.numbers;
          shown = st.shown;
          fits = subst F (sym h.shape) st.fits;
          some = st.some;
          parts = λ z. parts_stay s t q (w.reads (back z)) (st.parts (back z));
        };
        counts = record {
          blocks = λ z. i.counts.blocks (back z) ∙ ap length (sym (w.reads (back z)).blocks);
          few = i.counts.few;
          most = i.counts.most;
          fits = λ z. rw (h.shape) (i.counts.fits (back z));
        };
        len = i.len;
        few = i.few;
        since_none = i.since_none;
      },
      λ z. ap (λ (x : Tree). q.heap.items ++ tree_items x) (w.reads z).model,
      λ z. (w.reads z).blocks,
    )

-- no item went into the tree of a queue of which no call came
pub none_pushed : (q : ExtQueue) (s : RigState) → IsExtQueue s q → q.calls ≡ 0
    → q.tree.trunk.longest ≡ 0
none_pushed q s i none =
    let st = i.stands in
    let n = st.shown in
    let f = st.fits in
    omega (arith, f.tree_k_most, f.k_most, n.tree_longest, n.calls, none)

-- nor into that of one whose tree was given none
pub none_given : (q : ExtQueue) (s : RigState) → IsExtQueue s q → q.tree.trunk.pushed ≡ 0
    → q.tree.trunk.longest ≡ 0
none_given q s i none =
    let n = i.stands.shown in
    let f = i.stands.fits in
    omega (arith, f.tree_k_few, n.tree_longest, n.pushed, none)

pub out : (q : ExtQueue) (s : RigState) → HoldsFrames s q → AreOut (counts_of q) s.pool
out q s f = record { singles = f.has.tree.out; areas = f.has.out }

pub blocks_most : (q : ExtQueue) (s : RigState) → IsExtQueue s q → q.blocks ≤ q.most
blocks_most q s i = i.counts.most

pub unstored_most : (q : ExtQueue) (s : RigState) → IsExtQueue s q
    → min q.tree.trunk.buffer.blocks 1 + min q.tree.trunk.answers.blocks 1 ≤ 2
unstored_most q s i = omega arith

pub rising : IsRising queue_share
rising s m n j k h i = queue_share_rises s m n j k h i

pub rising_room : IsRisingRoom tree_room
rising_room s j k h = tree_room_rises s j k h
