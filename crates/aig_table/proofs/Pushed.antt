-- The messages of columns are pushed, one after another.
use Rattle.std.proofs.Common.{◌≡◌, ℕ, ◌+◌, ◌<◌, ◌≤◌, Bool, true, false, List, [], ◌∷◌, ◌++◌, length, refl, sym, ap, subst, ◌∙◌, arith, IsTrue}
use Rattle.std.proofs.lemmas.List.{length-append}
use Rattle.em_record.specs.declared.record.Record.{Record}
use Rattle.em_record.specs.Order.{Lacks, with_record}
use Rattle.em_record.proofs.Order.{with_later}
use Rattle.em_space.specs.Held.{Holds}
use Rattle.em_space.specs.Rig.{RigState, Sound}
use Rattle.em_space.specs.declared.fault.EmFault.{EmFault}
use Rattle.em_space.specs.declared.queue.Queue.{Ghosts as QueueGhosts}
use Rattle.em_queued.specs.Queued.{StopsBeside, no_account}
use Rattle.em_queued.proofs.Queued.{beside_none, beside_then, beside_wider, still_can_serve, stops_then, stops_wider}
use Rattle.aig_edges.specs.Pushes.{CanPushItems, PushesThese}
use Rattle.aig_sweep.specs.Bits.{bits_of}
use Rattle.aig_sweep.proofs.Waiting.{below_rank}
use Rattle.aig_words.specs.Words.{lane}
use Rattle.aig_table.specs.Columns.{PushesColumns, column_message, column_messages}
use Rattle.aig_table.specs.Tables.{bits_at}
use Rattle.aig_table.proofs.Tables.{length_bits_at}

-- the next message comes after those that were pushed,
message_last : (n k : ℕ) (bits : List Bool) (b : Bool) → k ≡ n + length bits
    → with_record (column_message k b) (column_messages n bits) ≡ column_messages n (bits ++ b ∷ [])
message_last n k [] b e =
    let z : k ≡ n = omega (arith, e) in ap (λ (i : ℕ). column_message i b ∷ []) z
message_last n k (x ∷ bits) b e =
    with_later (column_message k b) (column_message n x) (column_messages (n + 1) bits)
    (below_rank (column_message n x) (column_message k b) (omega (arith, e)))
    ∙ ap (λ (l : List Record). column_message n x ∷ l) (message_last (n + 1) k bits b (omega (arith, e)))

-- and none of them has its words.
message_lacks : (n k : ℕ) (bits : List Bool) (b : Bool) → n + length bits ≤ k
    → Lacks (column_message k b) (column_messages n bits)
message_lacks n k [] b l = tt
message_lacks n k (x ∷ bits) b l =
    ((λ a c. omega (arith, a, l)), message_lacks (n + 1) k bits b (omega (arith, l)))

bit_back : (b : Bool) (n : ℕ) → bits_of (lane 0 (column_message n b ∷ [])) ≡ b ∷ []
bit_back true n = refl
bit_back false n = refl

-- Messages have the bits of their columns in lane 0.
pub messages_back : (n : ℕ) (bits : List Bool) → bits_of (lane 0 (column_messages n bits)) ≡ bits
messages_back n [] = refl
messages_back n (b ∷ bits) =
    ap (λ (l : List Bool). l ++ bits_of (lane 0 (column_messages (n + 1) bits))) (bit_back b n)
    ∙ ap (λ (l : List Bool). b ∷ l) (messages_back (n + 1) bits)

module _ {Q : Type 0} (q : QueueGhosts Q) where
  -- None was pushed yet,
  pub columns_none : (x : Q) {s : RigState} → Sound s → (q.counts x).blocks ≤ (q.counts x).most
      → (IsTrue s.device.told → Holds s (q.blocks x s)) → (q.counts x).len ≡ 0
      → (IsTrue s.device.told → q.items x s ≡ []) → PushesColumns q [] x x s s
  columns_none x {s} h l n e i = record {
    runs = beside_wider (omega arith) (omega arith) (beside_none s (q.blocks x s) no_account (q.counts x) h l n);
    len = e;
    items = i;
  }

  -- one more may be,
  pub columns_can : {x y : Q} {s t : RigState} {bits : List Bool} (n : ℕ) → CanPushItems n (q.counts x) s
      → (q.counts x).len ≡ 0 → length bits < n → PushesColumns q bits x y s t
      → CanPushItems 1 (q.counts y) t
  columns_can n c e l h =
      let called = h.runs.calls_on.called.n in
      let few = c.few in
      let limit = c.limit in
      let len = h.len in
      record {
        sound = h.runs.runs.session.sound;
        free = still_can_serve h.runs c.free;
        few = omega (arith, called, few, l);
        limit = omega (arith, limit, len, l);
      }

  pub columns_lack : {x y : Q} {s t : RigState} {bits : List Bool} (b : Bool) (n : ℕ) → length bits ≡ n
      → PushesColumns q bits x y s t → IsTrue t.device.told → Lacks (column_message n b) (q.items y t)
  columns_lack {x} {y} {s} {t} {bits} b n e h z =
      let items = h.items (sym h.runs.runs.session.touches.told ∙ z) in
      subst (λ (l : List Record). Lacks (column_message n b) l) (sym items)
      (message_lacks 0 n bits b (omega (arith, e)))

  -- and was,
  columns_more : {x y w : Q} {s t u : RigState} {bits : List Bool} (b : Bool) (n : ℕ) → length bits ≡ n
      → PushesColumns q bits x y s t → PushesThese q 1 (column_message n b ∷ []) y w t u
      → PushesColumns q (bits ++ b ∷ []) x w s u
  columns_more {x} {y} {w} {s} {t} {u} {bits} b n e h g =
      let long = length-append bits (b ∷ []) in
      let len = h.len in
      let more = g.len in
      record {
        runs = beside_wider (omega (arith, long)) (omega arith) (beside_then h.runs g.runs);
        len = omega (arith, long, len, more);
        items = λ z.
            let y : IsTrue t.device.told = h.runs.runs.session.touches.told ∙ z in
            g.items y ∙ ap (λ (l : List Record). with_record (column_message n b) l) (h.items z)
            ∙ message_last 0 n bits b (omega (arith, e));
      }

  pub columns_next : {x y w : Q} {s t u : RigState} (row : List Record) (b : Bool) (n : ℕ)
      → bits_at row 0 (n + 1) ≡ bits_at row 0 n ++ b ∷ [] → PushesColumns q (bits_at row 0 n) x y s t
      → PushesThese q 1 (column_message n b ∷ []) y w t u → PushesColumns q (bits_at row 0 (n + 1)) x w s u
  columns_next {x} {y} {w} {s} {t} {u} row b n e h g =
      subst (λ (l : List Bool). PushesColumns q l x w s u) (sym e)
      (columns_more b n (length_bits_at row 0 n) h g)

  -- or was refused.
  pub columns_stop : {x y w : Q} {s t u : RigState} {bits : List Bool} {e : EmFault} (n : ℕ)
      → length bits < n → PushesColumns q bits x y s t
      → StopsBeside q.room 1 0 0 0 (q.blocks y t) no_account (q.counts y) (q.counts w) t u e
      → StopsBeside q.room n 0 0 0 (q.blocks x s) no_account (q.counts x) (q.counts w) s u e
  columns_stop n l h g =
      stops_wider (omega (arith, l)) (omega arith) (omega arith) (omega arith) (stops_then h.runs g)

  pub columns_as : {x y : Q} {s t : RigState} {n m : ℕ} (row : List Record) → n ≡ m
      → PushesColumns q (bits_at row 0 n) x y s t → PushesColumns q (bits_at row 0 m) x y s t
  columns_as {x} {y} {s} {t} {n} {m} row e h =
      subst (λ (i : ℕ). PushesColumns q (bits_at row 0 i) x y s t) e h
