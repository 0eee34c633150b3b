-- A sweeper that is made, ended or abandoned.
use Rattle.std.proofs.Common.{◌≡◌, ℕ, ◌+◌, ◌*◌, ◌≤◌, List, [], ◌∷◌, ◌++◌, length, Bool, true, false, refl, sym, ap, ap₂, ◌∙◌, subst, arith, IsTrue, Option, Some, None, IfSome, Result, Ok, Err, OnOk, OnErr, IfErr}
use Rattle.em_record.specs.Shape.{ShapeNumbers}
use Rattle.em_record.specs.declared.record.Record.{Record}
use Rattle.em_space.specs.Held.{Holds}
use Rattle.em_space.specs.Ledger.{Runs, Stops}
use Rattle.em_space.specs.Queue.{AreOut, Ended, Ends, ending_most, LacksBlocks, Leaves, Pays, QueueCounts}
use Rattle.em_space.specs.Rig.{RigState, Sound, Cause, IfFull}
use Rattle.em_space.specs.declared.fault.EmFault.{EmFault}
use Rattle.em_space.specs.declared.queue.Queue.{Ghosts}
use Rattle.em_space.proofs.Apart.{off_right}
use Rattle.em_space.proofs.Lists.{distinct_right, in_use_right}
use Rattle.em_space.proofs.Paying.{pays_more, pays_then}
use Rattle.em_space.proofs.Queues.{shares_same, shares_then}
use Rattle.em_space.proofs.Steps.{cause_after, touches_then, touches_wider}
use Rattle.em_space.proofs.Within.{touches_within, within_kept, within_left}
use Rattle.em_chain.specs.Counts.{ceiling}
use Rattle.em_chain.specs.Effects.{Unmoved}
use Rattle.em_chain.specs.declared.chain.Chain.{Chain}
use Rattle.em_chain.proofs.Keeps.{payload_kept}
use Rattle.em_chain.proofs.Writings.{cause_still}
use Rattle.em_queued.specs.Room.{FitsRoom, FullBeside}
use Rattle.em_queued.proofs.Queued.{beside_as, others_beside, unstored_frames}
use Rattle.em_queued.proofs.Room.{full_from, full_others, full_queue}
use Rattle.aig_defs.specs.Chains.{bit, numbered, reset_record}
use Rattle.aig_defs.specs.Circuit.{Circuit, resets}
use Rattle.aig_defs.specs.declared.circuit.Latch.{Latch}
use Rattle.aig_defs.specs.declared.circuit.Gate.{Gate}
use Rattle.aig_text.specs.Draft.{chains_blocks}
use Rattle.aig_edges.specs.Graph.{IsOrdered, IsOrderedOf, ordered_blocks, ordered_size}
use Rattle.aig_edges.specs.declared.graph.Ordered.{Ordered}
use Rattle.aig_sweep.specs.Bits.{bits_of}
use Rattle.aig_sweep.specs.Sweeper.{BeginsSweeper, EndsSweeper, EndsTo, Evaluates, FailsToBegin, Halted, IsSweeper, lists_blocks, lists_size, without_frames}
use Rattle.aig_sweep.specs.Lists.{AreLists, Makes, begin_moves, begin_room, lists_account}
use Rattle.aig_sweep.specs.declared.sweeper.Sweeper.{Sweeper}
use Rattle.aig_words.specs.Words.{lane, says}

-- the bits of resets, in lane 0
bit_is : (b : Bool) → says 0 (bit b) ≡ b
bit_is true = refl
bit_is false = refl

reset_bits : (j : ℕ) (ls : List Latch)
    → bits_of (lane 0 (numbered reset_record j ls)) ≡ resets ls
reset_bits j [] = refl
reset_bits j (l ∷ ls) = ap₂ (λ (b : Bool) (bs : List Bool). b ∷ bs) (bit_is l.reset)
    (reset_bits (j + 1) ls)

none_of : (xs : List Record) → length xs ≡ 0 → xs ≡ []
none_of [] e = refl
none_of (x ∷ xs) e = absurd (omega (arith, e))

module _ {Q : Type 0} (queue : Ghosts Q) {s t : RigState} (o : Ordered) (q : Q)
    (state given gates : Chain) (ordered : IsOrdered s o) (made : Makes s t o state given gates)
  where
    -- It was made over a queue that stays what it is.
    pub begun : (queue.counts q).len ≡ 0 → queue.IsQueue q t
        → (IsTrue s.device.told → queue.blocks q t ≡ queue.blocks q s)
        → (queue.counts q).blocks ≤ (queue.counts q).most
        → (IsTrue s.device.told → Holds s (queue.blocks q s ++ ordered_blocks s o))
        → BeginsSweeper queue s t o q (record {
          header = o.header;
          given = given;
          gates = gates;
          state = state;
          queue = q;
        })
    begun empty is same most holds =
        let r = others_beside (queue.blocks q s) (queue.counts q) made.runs most holds in
        let runs = beside_as (queue.blocks q t ++ chains_blocks t state given gates) r
        (λ z. rw (same z) refl) in
        let told = runs.runs.session.touches.told in
        record {
          is = record {
            header = ordered.header;
            given = made.given_is;
            gates = made.gates_is;
            edges = made.edges ∙ ordered.edges.count_is;
            state = made.state_is;
            latches = made.latches;
            state_blocks = made.state_blocks ∙ ordered.resets.blocks_is
                ∙ ap (λ (p : ℕ). ceiling o.header.latches p)
                (sym (payload_kept (ordered_blocks s o) s t made.runs.session.touches));
            is = is;
            empty = empty;
            holds = λ z. runs.runs.session.holds (sym told ∙ z);
          };
          header = refl;
          queue_is = refl;
          size = made.runs.spends.held;
          runs = runs;
        }

    -- Each latch has its reset.
    pub begun_for : IsTrue s.device.told → (queue.counts q).len ≡ 0
        → (queue.counts q).len ≡ length (queue.items q s) → queue.items q t ≡ queue.items q s
        → (c : Circuit) (order : List Gate) → IsOrderedOf s o c order
        → Evaluates queue t (record {
          header = o.header;
          given = given;
          gates = gates;
          state = state;
          queue = q;
        }) c order (resets c.latches)
    begun_for z empty len items c order i = record {
      header = i.header;
      order_is = i.ordered;
      edges = sym (made.items z) ∙ i.edges;
      low = made.low z;
      high = made.high z;
      bits = ap (λ (xs : List Record). bits_of (lane 0 xs)) (made.resets_are z ∙ i.resets)
          ∙ reset_bits 0 c.latches;
      none = items ∙ none_of (queue.items q s) (sym len ∙ empty);
    }

-- A queue that was abandoned left all but its frames.
unmoved_of : {c : QueueCounts} {t u : RigState} → Leaves c t u → Unmoved t u
unmoved_of h = record {
  device = ap (λ (x : RigState). x.device) h.same;
  spare = ap (λ (x : RigState). x.spare) h.same;
  same = record {
    head = ap (λ (x : RigState). x.head) h.same;
    used = ap (λ (x : RigState). x.used) h.same;
    most = ap (λ (x : RigState). x.most) h.same;
  };
  moves = ap (λ (x : RigState). x.moves) h.same;
}

pays_left : {m n : ℕ} {c : QueueCounts} {s t u : RigState} → Leaves c t u → Pays m n s t
    → Pays m n s u
pays_left {m} {n} {c} {s} {t} {u} h p =
    let v : Pays m n s (record t { pool = u.pool }) = record { is = p.is } in
    subst (λ (x : RigState). Pays m n s x) (sym h.same) v

-- It was abandoned after calls beside it gave up.
pub left_halted : {p n : ℕ} {ks : List ℕ} {m : ℕ} {c : QueueCounts} {s t u : RigState}
    {e : EmFault} (qs : List ℕ) (blocks : ℕ) → Stops p 0 n ks (lists_account blocks m) s t e
    → Leaves c t u
    → c.blocks ≤ c.most → c.unstored ≤ s.pool.shape.frames
    → Halted 0 p n (qs ++ ks) (lists_account blocks m) c (without_frames c) s u × Cause s u e
left_halted {p} {n} {ks} {m} {c} {s} {t} {u} {e} qs blocks k g most stored =
    let v = unmoved_of g in
    let h = k.halts in (
      record {
        sound = g.sound;
        touches = touches_then (qs ++ ks) s t u (touches_wider (qs ++ ks) ks s t k.goes.touches
            (λ z j i o. off_right j qs ks o)) g.touches;
        frames = shares_then c c (without_frames c) s.pool t.pool u.pool
            (shares_same c s.pool t.pool k.goes.frames) g.frames;
        called = record { n = omega arith; k = omega arith; more = omega arith };
        most = omega (arith, h.most, v.same.most, most);
        moves = omega (arith, h.moves, v.moves);
        pays = pays_more (pays_left g h.pays) (omega (arith, stored));
      },
      cause_still s t u e v g.touches k.cause,
    )

-- It wasn't made.
pub not_begun : {Q : Type 0} (queue : Ghosts Q) {s t u : RigState} (o : Ordered) (q : Q)
    {fault : EmFault} → Sound s → (queue.counts q).blocks ≤ (queue.counts q).most
    → (queue.counts q).unstored ≤ (queue.counts q).frames → AreOut (queue.counts q) s.pool
    → FitsRoom queue.room (queue.counts q) s
    → Stops (begin_room o) 0 1 (ordered_blocks s o) (lists_account (ordered_size o) (begin_moves o)) s t
    fault
    → Leaves (queue.counts q) t u → FailsToBegin queue s u o q fault
not_begun queue {s} o q {fault} sound most stored out fits k g =
    let h = left_halted (queue.blocks q s) (ordered_size o) k g most (unstored_frames stored out sound)
    in record {
      halted = h.0;
      cause = h.1;
      full = full_others (queue.counts q) fault most fits k.halts k.cause;
    }

-- The lists of a sweeper are apart.
pub lists_of : {Q : Type 0} {queue : Ghosts Q} {s : RigState} {e : Sweeper Q}
    → IsSweeper queue s e → AreLists s e.state e.given e.gates
lists_of {Q} {queue} {s} {e} i = record {
  state_is = i.state;
  given_is = i.given;
  gates_is = i.gates;
  holds = λ z. record {
    in_use = in_use_right s (queue.blocks e.queue s) (lists_blocks s e) (i.holds z).in_use;
    distinct = λ y. distinct_right (queue.blocks e.queue s) (lists_blocks s e)
        ((i.holds z).distinct y);
  };
}

some_more : {A : Type 0} (o : Option A) (P Q : A → Type 0) → ((a : A) → P a → Q a) → IfSome o P
    → IfSome o Q
some_more None P Q f h = tt
some_more (Some a) P Q f h = f a h

module _ {Q : Type 0} (queue : Ghosts Q) {s t : RigState} (e : Sweeper Q) (sound : Sound s)
    (runs : Runs (lists_size e) (lists_blocks s e) [] (lists_account (lists_size e) (2 *
    lists_size e))
    (lists_account 0 0) s t)
    (same : IsTrue s.device.told → queue.blocks e.queue t ≡ queue.blocks e.queue s) where
  -- Its lists were discarded, and its queue was ended.
  pub ended : {u : RigState} → Ends queue.allowance queue.room (queue.blocks e.queue t)
      (queue.counts e.queue) t u
      → EndsSweeper queue s u e
  ended {u} k =
      let qs = queue.blocks e.queue s in
      let ks = lists_blocks s e in
      let c = queue.counts e.queue in
      let x = runs.spends in
      let shape = runs.session.touches.shape in
      let n = lists_size e in
      let low = sound.numbers.used_most in
      record {
        sound = k.sound;
        touches = touches_within s t u (qs ++ ks) (queue.blocks e.queue t)
            (touches_wider (qs ++ ks) ks s t runs.session.touches (λ z j i o. off_right j qs ks o))
            (within_kept s (qs ++ ks) qs (queue.blocks e.queue t) (within_left s qs ks) same)
            k.touches;
        frames = shares_then c c (without_frames c) s.pool t.pool u.pool
            (shares_same c s.pool t.pool runs.frames) k.frames;
        spent = λ z. some_more queue.allowance
            (λ f. c.spent + u.moves ≤ t.moves + f t.pool.shape c.n c.k)
            (λ f. c.spent + u.moves ≤ s.moves + f s.pool.shape c.n c.k + 2 * lists_size e)
            (λ f h. let g = rw shape at h in omega (arith, g, x.moves))
            (k.spent (runs.session.touches.told ∙ z));
        most = λ told.
            let same = ap (λ (z : ShapeNumbers). ending_most queue.room z c) shape in
            let ends = k.most (runs.session.touches.told ∙ told) in
            omega (arith, ends, same, x.most, x.used, low);
      }

  pub ended_to : (u : RigState) (r : Result (Unit {0}) EmFault)
      → OnOk r (Ended (queue.counts e.queue) t u)
      → OnErr r (Pays (queue.counts e.queue).unstored t.pool.shape.frames t u)
      → IfErr r (Cause t u) → t.moves ≤ u.moves → EndsTo queue s u e r
  ended_to u (Ok x) a b d later =
      let c = queue.counts e.queue in
      let first : Pays c.unstored c.unstored s t = pays_more runs.spends.pays (omega arith) in
      (omega (arith, a.used, runs.spends.used), pays_then first a.pays later)
  ended_to u (Err f) a b d later =
      let shape : t.pool.shape.frames ≡ s.pool.shape.frames =
      ap (λ (n : ShapeNumbers). n.frames) runs.session.touches.shape in
      let c = queue.counts e.queue in
      let first : Pays c.unstored c.unstored s t = pays_more runs.spends.pays (omega arith) in
      let last : Pays c.unstored s.pool.shape.frames t u =
      subst (λ (n : ℕ). Pays c.unstored n t u) shape b in (
        pays_then first last later,
        cause_after (lists_blocks s e) s t u f runs.session.touches d,
      )

-- Its lists were discarded, and the end of its queue may have been refused;
pub end_full : {Q : Type 0} (queue : Ghosts Q) {s t : RigState} (e : Sweeper Q)
    → Runs (lists_size e) (lists_blocks s e) [] (lists_account (lists_size e) (2 * lists_size e))
    (lists_account 0 0) s t
    → (r : Result (Unit {0}) EmFault)
    → IfErr r (λ fault. IfFull fault (LacksBlocks queue.enough queue.room (queue.counts e.queue)
    (queue.counts e.queue).k t))
    → IfErr r (FullBeside queue.room (lists_size e) (lists_size e) (queue.counts e.queue)
    (queue.counts e.queue).k s)
end_full queue e k (Ok x) h = tt
end_full queue e k (Err fault) h =
    let used = k.spends.used in
    full_from k.frames.shape k.session.touches.told (omega (arith, used))
    (full_queue queue.enough 0 fault h)

-- or the lists weren't released.
pub end_refused : {Q : Type 0} (queue : Ghosts Q) {s t u : RigState} {f : EmFault}
    (e : Sweeper Q) → Sound s
    → Stops (lists_size e) 0 0 (lists_blocks s e) (lists_account (lists_size e) (2 * lists_size
    e)) s t f
    → Leaves (queue.counts e.queue) t u
    → (queue.counts e.queue).unstored ≤ s.pool.shape.frames
    → (IsTrue s.device.told → IfSome queue.allowance (λ g. (queue.counts e.queue).spent
    ≤ g s.pool.shape (queue.counts e.queue).n (queue.counts e.queue).k))
    → EndsSweeper queue s u e × EndsTo queue s u e (Err f)
end_refused queue {s} {t} {u} {f} e sound k g stored spent =
    let qs = queue.blocks e.queue s in
    let ks = lists_blocks s e in
    let c = queue.counts e.queue in
    let v = unmoved_of g in
    let h = k.halts in
    let low = sound.numbers.used_most in (
      record {
        sound = g.sound;
        touches = touches_then (qs ++ ks) s t u (touches_wider (qs ++ ks) ks s t k.goes.touches
            (λ z j i o. off_right j qs ks o)) g.touches;
        frames = shares_then c c (without_frames c) s.pool t.pool u.pool
            (shares_same c s.pool t.pool k.goes.frames) g.frames;
        spent = λ z. some_more queue.allowance (λ x. c.spent ≤ x s.pool.shape c.n c.k)
            (λ x. c.spent + u.moves ≤ s.moves + x s.pool.shape c.n c.k + 2 * lists_size e)
            (λ x y. omega (arith, y, h.moves, v.moves)) (spent z);
        most = λ told. omega (arith, h.most, v.same.most, low);
      },
      (
        pays_more (pays_left g h.pays) (omega (arith, stored)),
        cause_still s t u f v g.touches k.cause,
      ),
    )
