-- A push: what it leaves, by its result.
use Rattle.std.specs.Prelude.{Err, IfErr, IsErrAnd, IsTrue, Ok, OnErr, OnOk, Result, Some, ℕ, false, if◌then◌else◌, length, max, true, ◌+◌, ◌<◌, ◌==◌, ◌^◌, ◌≡◌, ◌≤◌}
use Rattle.std.proofs.Common.{arith, sym, ap, subst, ◌∙◌, refl, ⊎_elim}
use Rattle.std.proofs.lemmas.Bool.{cases_Bool, cond-false, eqb-true}
use Rattle.em_record.specs.Order.{Lacks, with_record}
use Rattle.em_record.specs.declared.record.Record.{Record}
use Rattle.em_space.specs.Held.{Within}
use Rattle.em_space.specs.Queue.{LacksBlocks, Pays, Served, Serves}
use Rattle.em_space.specs.Rig.{Cause, IfFull, RigState}
use Rattle.em_space.specs.declared.fault.EmFault.{EmFault}
use Rattle.em_pqueue.specs.ExtQueue.{GivesDown, HoldsFrames, IsExtQueue, any_blocks, counts_of, queue_blocks, queue_items}
use Rattle.em_pqueue.specs.QueueLaws as laws
use Rattle.em_pqueue.specs.Steps.{Miscounts, Noted, PutsItem, Recounts, RecountsTo, Stops, counted_call}
use Rattle.em_pqueue.specs.declared.queue.ExtQueue.{ExtQueue}
use Rattle.em_pqueue.proofs.Serves.{counted_is, counted_served, counted_serves, counted_stands, counted_within, full_by, miscounted_stops, stops_frames, stops_serves, tree_within}
use Rattle.em_pqueue.proofs.Working.{full_by_err, if_full, of_err}
use Rattle.em_pqueue.specs.Room.{QueueHolds, QueueOver}
use Rattle.em_pqueue.proofs.Notes.{NotedBy, noted_by}
use Rattle.em_pqueue.proofs.Rooms.{holds_rest}
use Rattle.em_tree_cost.specs.Shares.{tree_room}

-- The clauses of a push.
pub record PushLeaves (item : Record) (s t : RigState) (q z : ExtQueue) (r : Result (Unit {0}) EmFault)
    : Type 0 where
  pub serves : Serves (queue_blocks s q) (counts_of q) (counts_of z) s t
  pub frames : HoldsFrames t z
  pub is : OnOk r (IsExtQueue t z)
  pub items : OnOk r (IsTrue s.device.told → queue_items t z ≡ with_record item (queue_items s q))
  pub len : OnOk r ((counts_of z).len ≡ (counts_of q).len + 1)
  pub served : OnOk r (Served (counts_of q) (counts_of z) s t)
  pub within : OnOk r (Within s (queue_blocks s q) (queue_blocks t z))
  pub owes : OnErr r (Pays (counts_of q).unstored s.pool.shape.frames s t)
  pub full : IfErr r (λ fault. IfFull fault (LacksBlocks any_blocks (Some tree_room)
      (counts_of q) (counts_of z).k s))
  pub cause : IfErr r (Cause s t)
  pub room : IsTrue s.device.told → QueueHolds z.longest (queue_blocks s q) s t
  pub over : IfErr r (λ fault. IsTrue s.device.told → QueueOver z.longest (queue_blocks s q) s fault)

-- a number that isn't 0
pub not_zero : (n : ℕ) → 0 < n → (n == 0) ≡ false
not_zero n h = ⊎_elim
    (λ (t : (n == 0) ≡ true). absurd (let e : n ≡ 0 = eqb-true n 0 t in omega (arith, e, h)))
    (λ (f : (n == 0) ≡ false). f)
    (cases_Bool (n == 0))

module _ (item : Record) (s t : RigState) (q : ExtQueue) (i : IsExtQueue s q) where
  -- A part of it gave up.
  pub push_stops : (m z : ExtQueue) (k : ℕ) (f : EmFault) → Stops s t (counted_call q) m f
      → z ≡ record m { most = k } → NotedBy s t q k → PushLeaves item s t q z (Err f)
  push_stops m z k f h e nt =
      let l : z.longest ≡ max q.longest (q.since + 1) = ap (λ (x : ExtQueue). x.longest) e ∙ h.same.longest in
      let H : ℕ → Type 0 = λ n. QueueHolds n (queue_blocks s q) s t in
      let O : ℕ → Type 0 = λ n. QueueOver n (queue_blocks s q) s f in
      let over = λ (told : IsTrue s.device.told). subst O (sym l) (h.over told) in
      record {
        serves = stops_serves s t q m z k f i h e nt;
        frames = stops_frames s t q m z k f i h e nt;
        is = tt;
        items = tt;
        len = tt;
        served = tt;
        within = tt;
        owes = h.pays;
        full = full_by s t (counts_of q) (counts_of z).k (queue_blocks s q) f h.goes.sound
            h.goes.touches.blocks h.cause i.counts.blocks over;
        cause = h.cause;
        room = λ told. subst H (sym l) (h.room told);
        over = over;
      }

  -- The item was put, and its blocks were counted.
  module _ (w z : ExtQueue) (m : ℕ) (p : PutsItem item s t (counted_call q) w) (nt : NotedBy s t q m) where
    rest : IsTrue t.device.told → length (queue_blocks t w) ≤ tree_room t.pool.shape w.longest
    rest told = holds_rest w.longest p.works.session.sound p.stands.tree told (p.stands.parts told).given
        (tree_within t w p.stands)

    pub push_ok : q.len < 2 ^ 56 → Recounts s.used t (record w { most = m }) z
        → PushLeaves item s t q z (Ok tt)
    push_ok limit c =
        let h = p.works in
        let hl = ap (λ (x : ExtQueue). x.heap.len) c.rest in
        let it = ap (λ (x : ExtQueue). x.in_tree) c.rest in
        let sn = ap (λ (x : ExtQueue). x.since) c.rest in
        let len : z.len ≡ q.len + 1 = omega (arith, c.len, i.len, p.len) in
        let some = not_zero z.len (omega (arith, len)) in
        let since : z.since ≡ (if z.len == 0 then 0 else q.since + 1) =
        sn ∙ (h.same.since ∙ sym (cond-false _ _ _ some)) in
        let is = counted_is s t q w z i h z m nt c refl rest
        (counted_stands s t q w z i h z m nt c (λ n. n) p.stands)
        (omega (arith, c.len, hl, it)) (omega (arith, len, limit))
        (λ e. absurd (omega (arith, e, len))) in
        record {
          serves = counted_serves s t q w z i h z m nt c refl;
          frames = laws.frames_of z t is;
          is = is;
          items = λ told. ap (λ (x : ExtQueue). queue_items t x) c.rest ∙ p.items told;
          len = len;
          served = counted_served s t q w z i h z m nt c refl since;
          within = counted_within s t q w z i h z m nt c refl;
          owes = tt;
          full = tt;
          cause = tt;
          room = λ told.
              let k = ap (λ (x : ExtQueue). x.longest) c.rest in
              let H : ℕ → Type 0 = λ n. QueueHolds n (queue_blocks s q) s t in
              subst H (sym (k ∙ h.same.longest)) (p.room told);
          over = tt;
        }

    -- or couldn't be its own
    pub push_miscounts : (f : EmFault) → Miscounts s.used t (record w { most = m }) z f
        → PushLeaves item s t q z (Err f)
    push_miscounts f x = push_stops w z m f
        (miscounted_stops s t q w z i p.works f m x p.stands.tree p.stands.area) x.same nt

    pub push_by : q.len < 2 ^ 56 → (r : Result (Unit {0}) EmFault)
        → RecountsTo s.used t (record w { most = m }) z r → PushLeaves item s t q z r
    push_by limit (Ok x) c = push_ok limit c
    push_by limit (Err f) m = push_miscounts f m

module _ (item : Record) (s t : RigState) (q c : ExtQueue) (i : IsExtQueue s q)
    (e : c ≡ counted_call q) where
  -- The items of a queue that was counted lack what they lacked, and are as many.
  pub still_lacks : (IsTrue s.device.told → Lacks item (queue_items s q)) → IsTrue s.device.told
      → Lacks item (queue_items s c)
  still_lacks l =
      let P : ExtQueue → Type 0 = λ x. IsTrue s.device.told → Lacks item (queue_items s x) in
      subst P (sym e) l

  pub still_few : q.len < 2 ^ 56 → c.heap.len + c.in_tree < 2 ^ 56
  still_few l =
      let a = ap (λ (x : ExtQueue). x.heap.len) e in
      let b = ap (λ (x : ExtQueue). x.in_tree) e in
      omega (arith, a, b, i.len, l)

  pub still_blocks : c.blocks ≤ 2 ^ 41
  still_blocks = (let a = ap (λ (x : ExtQueue). x.blocks) e in omega (arith, a, i.counts.few))

  -- A part of the push gave up.
  pub push_ends : (z : ExtQueue) (f : EmFault)
      → Noted (λ m. Stops s t c m f) s.used s.most t z → (r : Result (Unit {0}) EmFault)
      → IsErrAnd r (λ g. g ≡ f) → PushLeaves item s t q z r
  push_ends z f n r x =
      let P : ExtQueue → Type 0 = λ y. Stops s t y n.mid f in
      let h = subst P e n.done in
      let nt = noted_by s t q n.mid z i h.goes.touches.most h.same.most h.same.blocks h.room n.notes in
      of_err (PushLeaves item s t q z) r f x (push_stops item s t q i n.mid z z.most f h n.notes.rest nt)

  module _ (w z : ExtQueue) (p : Noted (λ m. PutsItem item s t c m) s.used s.most t w) where
    pub put_few : q.len < 2 ^ 56 → w.heap.len + w.in_tree < 2 ^ 64
    put_few l =
        let m = still_few l in
        let a = ap (λ (x : ExtQueue). x.heap.len) p.notes.rest in
        let b = ap (λ (x : ExtQueue). x.in_tree) p.notes.rest in
        let d = p.done.len in
        omega (arith, d, m, a, b)

    pub put_blocks : w.blocks ≤ 2 ^ 41
    put_blocks =
        let a = ap (λ (x : ExtQueue). x.blocks) p.notes.rest in
        let b = p.done.works.same.blocks in
        omega (arith, a, b, still_blocks)

    -- The item was put.
    pub push_leaves : q.len < 2 ^ 56 → (u : ℕ) → u ≡ s.used → (r : Result (Unit {0}) EmFault)
        → RecountsTo u t w z r → PushLeaves item s t q z r
    push_leaves limit u used r h =
        let P : ExtQueue → Type 0 = λ y. PutsItem item s t y p.mid in
        let d = subst P e p.done in
        let R : ℕ → Type 0 = λ n. RecountsTo n t w z r in
        let W : ExtQueue → Type 0 = λ y. RecountsTo s.used t y z r in
        let nt = noted_by s t q p.mid w i d.works.session.touches.most d.works.same.most
        d.works.same.blocks d.room p.notes in
        push_by item s t q i p.mid z w.most d nt limit r (subst W p.notes.rest (subst R used h))

  -- It gives items to the tree if the counted queue does.
  given_down : GivesDown c item → GivesDown q item
  given_down d = let P : ExtQueue → Type 0 = λ y. GivesDown y item in subst P e d

  pub push_needs : GivesDown c item → (f : EmFault) → (r : Result (Unit {0}) EmFault)
      → IsErrAnd r (λ g. g ≡ f) → IfErr r (λ g. IfFull g (λ _. GivesDown q item))
  push_needs d f r x =
      full_by_err (GivesDown q item) r f x (if_full (GivesDown q item) f (given_down d))

  pub push_still : ((GivesDown c item → ⊥) → t ≡ s) → (GivesDown q item → ⊥) → t ≡ s
  push_still h up = h (λ d. up (given_down d))
