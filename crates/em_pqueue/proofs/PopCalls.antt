-- A pop: what it leaves, by its result.
use Rattle.std.specs.Prelude.{Err, IfErr, IfNone, IfOk, IsErrAnd, IsTrue, None, Ok, OnErr, OnOk, Option, Result, Some, ℕ, if◌then◌else◌, length, max, option_to_list, ◌++◌, ◌+◌, ◌<◌, ◌==◌, ◌^◌, ◌≡◌, ◌≤◌}
use Rattle.std.proofs.Common.{arith, sym, ap, subst, ◌∙◌}
use Rattle.em_record.specs.declared.record.Record.{Record}
use Rattle.em_space.specs.Held.{Within}
use Rattle.em_space.specs.Queue.{LacksBlocks, Pays, Served, Serves}
use Rattle.em_space.specs.Rig.{Cause, IfFull, RigState}
use Rattle.em_space.specs.declared.fault.EmFault.{EmFault}
use Rattle.em_tree_cost.specs.ExtQueue.{after_call}
use Rattle.em_pqueue.specs.ExtQueue.{HoldsFrames, IsExtQueue, WantsRefill, any_blocks, counts_of, queue_blocks, queue_items}
use Rattle.em_pqueue.specs.QueueLaws as laws
use Rattle.em_pqueue.specs.Steps.{Miscounts, MovesItems, Noted, Recounts, Stops, TakesItem, counted_call}
use Rattle.em_pqueue.specs.declared.queue.ExtQueue.{ExtQueue}
use Rattle.em_pqueue.proofs.Least.{least_taken}
use Rattle.em_pqueue.proofs.Serves.{call_within, counted_is, counted_served, counted_serves, counted_stands, counted_within, full_by, miscounted_stops, stops_frames, stops_serves}
use Rattle.em_pqueue.proofs.Working.{full_by_err, if_full, of_err}
use Rattle.em_pqueue.specs.Room.{QueueHolds, QueueOver}
use Rattle.em_pqueue.proofs.Notes.{NotedBy, noted_by}
use Rattle.em_pqueue.proofs.Rooms.{holds_rest}
use Rattle.em_tree_cost.specs.Shares.{tree_room}

-- The clauses of a pop.
pub record PopLeaves (s t : RigState) (q z : ExtQueue) (r : Result (Option Record) EmFault) : Type 0 where
  pub serves : Serves (queue_blocks s q) (counts_of q) (counts_of z) s t
  pub frames : HoldsFrames t z
  pub is : OnOk r (IsExtQueue t z)
  pub items : IfOk r (λ item. IsTrue s.device.told
      → queue_items s q ≡ option_to_list item ++ queue_items t z)
  pub len : IfOk r (λ item. (counts_of z).len + length (option_to_list item) ≡ (counts_of q).len)
  pub none : IfOk r (λ item. IfNone item ((counts_of q).len ≡ 0))
  pub served : OnOk r (Served (counts_of q) (counts_of z) s t)
  pub within : OnOk r (Within s (queue_blocks s q) (queue_blocks t z))
  pub owes : OnErr r (Pays (counts_of q).unstored s.pool.shape.frames s t)
  pub full : IfErr r (λ fault. IfFull fault (LacksBlocks any_blocks (Some tree_room)
      (counts_of q) (counts_of z).k s))
  pub cause : IfErr r (Cause s t)
  pub room : IsTrue s.device.told → QueueHolds z.longest (queue_blocks s q) s t
  pub over : IfErr r (λ fault. IsTrue s.device.told → QueueOver z.longest (queue_blocks s q) s fault)

none_by : (item : Option Record) (m n : ℕ) → (m ≡ 0 → n ≡ 0) → IfNone item (m ≡ 0) → IfNone item (n ≡ 0)
none_by None m n f h = f h
none_by (Some x) m n f h = tt

module _ (s t : RigState) (q : ExtQueue) (i : IsExtQueue s q) where
  -- A part of it gave up.
  pub pop_stops : (m z : ExtQueue) (k : ℕ) (f : EmFault) → Stops s t (counted_call q) m f
      → z ≡ record m { most = k } → NotedBy s t q k → PopLeaves s t q z (Err f)
  pop_stops m z k f h e nt =
      let l : z.longest ≡ max q.longest (q.since + 1) = ap (λ (x : ExtQueue). x.longest) e ∙ h.same.longest in
      let H : ℕ → Type 0 = λ n. QueueHolds n (queue_blocks s q) s t in
      let O : ℕ → Type 0 = λ n. QueueOver n (queue_blocks s q) s f in
      let over = λ (told : IsTrue s.device.told). subst O (sym l) (h.over told) in
      record {
        serves = stops_serves s t q m z k f i h e nt;
        frames = stops_frames s t q m z k f i h e nt;
        is = tt;
        items = tt;
        len = tt;
        none = tt;
        served = tt;
        within = tt;
        owes = h.pays;
        full = full_by s t (counts_of q) (counts_of z).k (queue_blocks s q) f h.goes.sound
            h.goes.touches.blocks h.cause i.counts.blocks over;
        cause = h.cause;
        room = λ told. subst H (sym l) (h.room told);
        over = over;
      }

  module _ (w v : ExtQueue) (m : ℕ) (p : MovesItems s t (counted_call q) w) (nt : NotedBy s t q m) where
    rest : IsTrue t.device.told → length (queue_blocks t w) ≤ tree_room t.pool.shape w.longest
    rest told = holds_rest w.longest p.works.session.sound p.stands.tree told (p.stands.parts told).given
        (call_within t w p.stands)

    -- Its blocks couldn't be its own.
    pub pop_miscounts : (f : EmFault) → Miscounts s.used t (record w { most = m }) v f
        → PopLeaves s t q v (Err f)
    pop_miscounts f x = pop_stops w v m f
        (miscounted_stops s t q w v i p.works f m x p.stands.tree p.stands.area) x.same nt

    -- The heap gave its least item.
    pub pop_ok : (z : ExtQueue) (item : Option Record) → (w.heap.len ≡ 0 → w.in_tree ≡ 0)
        → Recounts s.used t (record w { most = m }) v → TakesItem v z item → PopLeaves s t q z (Ok item)
    pop_ok z item all c takes =
        let h = p.works in
        let hl = ap (λ (x : ExtQueue). x.heap.len) c.rest in
        let it = ap (λ (x : ExtQueue). x.in_tree) c.rest in
        let sn = ap (λ (x : ExtQueue). x.since) c.rest in
        let st = counted_stands s t q w z i h v m nt c after_call p.stands in
        let l = least_taken t v z item st takes in
        let since : z.since ≡ (if z.len == 0 then 0 else q.since + 1) =
        l.since_is ∙ ap (λ (k : ℕ). if z.len == 0 then 0 else k) (sn ∙ h.same.since) in
        let few : z.len ≤ 2 ^ 56 = (let a = l.len in omega (arith, a, hl, it, p.len, i.len, i.few)) in
        let is = counted_is s t q w z i h v m nt c l.rest rest l.stands l.total few l.since_none in
        record {
          serves = counted_serves s t q w z i h v m nt c l.rest;
          frames = laws.frames_of z t is;
          is = is;
          items = λ told. sym (p.items told)
              ∙ (ap (λ (x : ExtQueue). queue_items t x) (sym c.rest)
              ∙ l.items (h.session.touches.told ∙ told));
          len = (let a = l.len in omega (arith, a, hl, it, p.len, i.len));
          none = none_by item v.heap.len q.len
              (λ e. (let a : w.heap.len ≡ 0 = omega (arith, e, hl) in
              let b = all a in omega (arith, a, b, p.len, i.len))) takes.none;
          served = counted_served s t q w z i h v m nt c l.rest since;
          within = counted_within s t q w z i h v m nt c l.rest;
          owes = tt;
          full = tt;
          cause = tt;
          room = λ told.
              let k = ap (λ (x : ExtQueue). x.longest) c.rest in
              let j = ap (λ (x : ExtQueue). x.longest) l.rest in
              let H : ℕ → Type 0 = λ n. QueueHolds n (queue_blocks s q) s t in
              subst H (sym (j ∙ (k ∙ h.same.longest))) (p.room told);
          over = tt;
        }

module _ (s t : RigState) (q c : ExtQueue) (i : IsExtQueue s q) (e : c ≡ counted_call q) where
  pub taken_blocks : c.blocks ≤ 2 ^ 41
  taken_blocks = (let a = ap (λ (x : ExtQueue). x.blocks) e in omega (arith, a, i.counts.few))

  -- A part of the pop gave up.
  pub pop_ends : (z : ExtQueue) (f : EmFault) → Noted (λ m. Stops s t c m f) s.used s.most t z
      → (r : Result (Option Record) EmFault) → IsErrAnd r (λ g. g ≡ f) → PopLeaves s t q z r
  pop_ends z f n r x =
      let P : ExtQueue → Type 0 = λ y. Stops s t y n.mid f in
      let h = subst P e n.done in
      let nt = noted_by s t q n.mid z i h.goes.touches.most h.same.most h.same.blocks h.room n.notes in
      of_err (PopLeaves s t q z) r f x (pop_stops s t q i n.mid z z.most f h n.notes.rest nt)

  module _ (w v : ExtQueue)
      (p : Noted (λ m. MovesItems s t c m × (m.heap.len ≡ 0 → m.in_tree ≡ 0)) s.used s.most t w) where
    moved : MovesItems s t (counted_call q) p.mid
    moved = let P : ExtQueue → Type 0 = λ y. MovesItems s t y p.mid in subst P e p.done.0

    nt : NotedBy s t q w.most
    nt = noted_by s t q p.mid w i moved.works.session.touches.most moved.works.same.most
        moved.works.same.blocks moved.room p.notes

    -- It has as many items as before.
    moved_len : w.heap.len + w.in_tree ≡ q.len
    moved_len =
        let a = ap (λ (x : ExtQueue). x.heap.len) p.notes.rest in
        let b = ap (λ (x : ExtQueue). x.in_tree) p.notes.rest in
        omega (arith, moved.len, i.len, a, b)

    pub moved_few : w.heap.len + w.in_tree < 2 ^ 64
    moved_few = omega (arith, moved_len, i.few)

    pub moved_blocks : w.blocks ≤ 2 ^ 41
    moved_blocks =
        let a = ap (λ (x : ExtQueue). x.blocks) p.notes.rest in
        let b = moved.works.same.blocks in
        omega (arith, a, b, i.counts.few)

    -- Its blocks can't be as many as they were counted.
    pub pop_wrong : (u : ℕ) → u ≡ s.used → (f : EmFault) → Miscounts u t w v f
        → (r : Result (Option Record) EmFault) → IsErrAnd r (λ g. g ≡ f) → PopLeaves s t q v r
    pop_wrong u used f m r x =
        let R : ℕ → Type 0 = λ n. Miscounts n t w v f in
        let W : ExtQueue → Type 0 = λ y. Miscounts s.used t y v f in
        of_err (PopLeaves s t q v) r f x (pop_miscounts s t q i p.mid v w.most moved nt f
        (subst W p.notes.rest (subst R used m)))

    -- They were counted, and the heap gave its least item.
    module _ (u : ℕ) (used : u ≡ s.used) (h : Recounts u t w v) where
      pub counted_few : v.heap.len + v.in_tree < 2 ^ 64
      counted_few =
          let a = ap (λ (x : ExtQueue). x.heap.len) h.rest in
          let b = ap (λ (x : ExtQueue). x.in_tree) h.rest in
          omega (arith, a, b, moved_few)

      pub pop_leaves : (z : ExtQueue) (item : Option Record) → TakesItem v z item
          → PopLeaves s t q z (Ok item)
      pop_leaves z item takes =
          let R : ℕ → Type 0 = λ n. Recounts n t w v in
          let W : ExtQueue → Type 0 = λ y. Recounts s.used t y v in
          pop_ok s t q i p.mid v w.most moved nt z item p.done.1 (subst W p.notes.rest (subst R used h)) takes

  -- It refills its heap if the counted queue does.
  wanted : WantsRefill c → WantsRefill q
  wanted d = let P : ExtQueue → Type 0 = WantsRefill in subst P e d

  pub pop_needs : WantsRefill c → (f : EmFault) → (r : Result (Option Record) EmFault)
      → IsErrAnd r (λ g. g ≡ f) → IfErr r (λ g. IfFull g (λ _. WantsRefill q))
  pop_needs d f r x = full_by_err (WantsRefill q) r f x (if_full (WantsRefill q) f (wanted d))

  pub pop_still : ((WantsRefill c → ⊥) → t ≡ s) → (WantsRefill q → ⊥) → t ≡ s
  pop_still h here = h (λ d. here (wanted d))
