-- A sync of a map: it is noted, and then the gets since the last one are answered.
use Rattle.std.proofs.Common.{◌≡◌, ℕ, ◌+◌, ◌<◌, ◌≤◌, List, ◌++◌, length, take, drop, refl, sym, ap, ◌∙◌, subst, arith, IsTrue, Ok, Err, Result}
use Rattle.std.proofs.Math.Seq.{drop-append_seam, take-append_seam}
use Rattle.std.specs.Result.{IsErrAnd}
use Rattle.em_record.specs.Shape.{ShapeNumbers}
use Rattle.em_record.specs.declared.record.Record.{Record}
use Rattle.em_model.specs.MapAnswers.{answers_after}
use Rattle.em_model.specs.declared.command.Command.{Command}
use Rattle.em_model.specs.declared.command.Command.TheVariants.{Sync}
use Rattle.em_settle.specs.Add.{apply_of}
use Rattle.em_space.specs.Ledger.{Session}
use Rattle.em_space.specs.Queue.{Pays}
use Rattle.em_space.specs.Rig.{Cause, Goes, RigState, Sound}
use Rattle.em_space.specs.declared.fault.EmFault.{EmFault}
use Rattle.em_space.specs.declared.fault.EmFault.TheVariants.{DeviceFault, Full, Damaged}
use Rattle.em_space.proofs.Paying.{pays_then}
use Rattle.em_space.proofs.Sessions.{session_trans}
use Rattle.em_space.proofs.Steps.{cause_after}
use Rattle.em_space.proofs.Within.{goes_within}
use Rattle.em_chain.specs.Chain.{payload_in}
use Rattle.em_chain.specs.Counts.{ceiling}
use Rattle.em_chain.specs.Effects.{OnFull}
use Rattle.em_chain.specs.declared.chain.Chain.{Chain}
use Rattle.em_chain.proofs.Keeps.{payload_kept}
use Rattle.em_chain.proofs.Sessions.{ceiling_rises}
use Rattle.em_plain.specs.Answered.{KeepsList}
use Rattle.em_plain.specs.Asks.{records_for}
use Rattle.em_plain.specs.CommandList.{Noted, held, list_blocks, list_commands, list_len, unstored}
use Rattle.em_plain.specs.Room.{StaysWithin, plain_room}
use Rattle.em_plain.specs.ScanMap.{IsScanMap, MapHasFrame, Syncs, blocks_of, due_of}
use Rattle.em_plain.specs.Asks.Asks.{gets}
use Rattle.em_plain.specs.declared.command_list.CommandList.{CommandList}
use Rattle.em_plain.specs.declared.scan_map.ScanMap.{ScanMap}
use Rattle.em_plain.proofs.AnswerLists.{due_same}
use Rattle.em_plain.proofs.Answered.{no_cause}
use Rattle.em_plain.proofs.Notes.{list_blocks_are}

-- what the fault of a callee says of the result
pub syncs_err : {F : Type 0} {s t : RigState} {m n : ScanMap F} (result : Result Chain EmFault) (e : EmFault)
    → IsErrAnd result (λ f. f ≡ e) → Syncs s t m n (Err e) → Syncs s t m n result
syncs_err (Ok c) e h a = absurd h
syncs_err {F} {s} {t} {m} {n} (Err f) e h a =
    subst (λ (g : EmFault). Syncs s t m n (Err g)) (sym h) a

-- A call gave up.
stopped : {F : Type 0} {s t : RigState} {m n : ScanMap F} {e : EmFault} → Goes (blocks_of s m) s t → MapHasFrame t n
    → StaysWithin (held m.list) (plain_room s.pool.shape (list_len m.list + 1)) s t
    → Pays (unstored m.list) s.pool.shape.frames s t
    → OnFull e (s.blocks < s.used + plain_room s.pool.shape (list_len m.list + 1))
    → (IsTrue s.device.told
    → OnFull e (s.blocks < s.used + (ceiling (length (due_of s m)) (payload_in s) + 2)))
    → Cause s t e → Syncs s t m n (Err e)
stopped {F} {s} {t} {m} {n} {e} g f most owes full few cause = record {
  goes = g;
  frame = f;
  answers = tt;
  most = most;
  owes = owes;
  full = full;
  full_if_few = few;
  complete = λ enough z r. absurd (no_cause e s t
      (s.used + plain_room s.pool.shape (list_len m.list + 1)) cause full enough g.touches.told z r);
  complete_if_enough = λ enough z r. absurd (no_cause e s t
      (s.used + (ceiling (length (due_of s m)) (payload_in s) + 2)) cause (few z) enough
      g.touches.told z r);
  cause = cause;
}

-- as the sync was to be noted,
full_noted : (s t : RigState) (e : EmFault) (n : ℕ) → OnFull e (t.used ≡ s.used) → Cause s t e
    → t.blocks ≡ s.blocks → 0 < n → OnFull e (s.blocks < s.used + n)
full_noted s t DeviceFault n f c b p = tt
full_noted s t (Full used) n f c b p = omega (arith, f, c.1, b, p)
full_noted s t (Damaged block) n f c b p = tt

pub unnoted : {T F : Type 0} {s t : RigState} {m : ScanMap F} {l : CommandList} {e : EmFault} (k : ℕ)
    → Noted {T = T} s t m.list l Sync (Err e) → Syncs s t m (record m { list = l; answered = k }) (Err e)
unnoted {s = s} {t = t} {m = m} {e = e} k h =
    stopped h.goes h.frame h.costs.most h.costs.pays
    (full_noted s t e (plain_room s.pool.shape (list_len m.list + 1)) h.costs.full h.cause h.goes.touches.blocks
    (omega arith))
    (λ z. full_noted s t e (ceiling (length (due_of s m)) (payload_in s) + 2) h.costs.full h.cause
    h.goes.touches.blocks (omega arith))
    h.cause

-- The sync was noted.
module _ {F : Type 0} {s a : RigState} {m : ScanMap F} {l : CommandList} (sound : Sound s) (is : IsScanMap s m)
    {T : Type 0} {y : T} (h : Noted s a m.list l Sync (Ok y)) where
  -- the gets since the last one are the same with it
  due_noted : IsTrue s.device.told → records_for (gets (apply_of m.settle.kind) m.answered) (list_commands a l) ≡ due_of s m
  due_noted z = ap (records_for (gets (apply_of m.settle.kind) m.answered)) (h.notes.commands z)
      ∙ due_same (apply_of m.settle.kind) m.answered (list_commands s m.list)

  -- what is held then
  held_noted : held l ≡ ceiling (list_len m.list + 1) (payload_in s)
  held_noted = list_blocks_are a l h.goes.sound h.notes.is
      ∙ ap (λ (n : ℕ). ceiling n (payload_in a)) h.notes.len
      ∙ ap (λ (p : ℕ). ceiling (list_len m.list + 1) p)
      (payload_kept (list_blocks s m.list) s a h.goes.touches)

  held_first : held m.list ≤ held l
  held_first =
      let low = sound.shape.block_low in
      let e = list_blocks_are s m.list sound is.list in
      let r = ceiling_rises (list_len m.list) (list_len m.list + 1) (payload_in s) (omega arith) (omega arith) in
      omega (arith, e, r, held_noted)

  module _ {t : RigState} {k : CommandList} {result : Result Chain EmFault}
      (x : KeepsList (gets (apply_of m.settle.kind) m.answered) a t l k result) where
    same_rest : ceiling x.records (payload_in a) ≡ ceiling x.records (payload_in s)
    same_rest = ap (λ (p : ℕ). ceiling x.records p)
        (payload_kept (list_blocks s m.list) s a h.goes.touches)

    few_records : ceiling x.records (payload_in s) ≤ ceiling (list_len m.list + 1) (payload_in s)
    few_records =
        let low = sound.shape.block_low in
        let few = x.few in
        ceiling_rises x.records (list_len m.list + 1) (payload_in s) (omega arith)
        (omega (arith, few, h.notes.len))

    due_records : IsTrue s.device.told
        → ceiling x.records (payload_in s) ≤ ceiling (length (due_of s m)) (payload_in s)
    due_records z =
        let low = sound.shape.block_low in
        let few = x.told (h.goes.touches.told ∙ z) in
        let e = ap (λ (rs : List Record). length rs) (due_noted z) in
        ceiling_rises x.records (length (due_of s m)) (payload_in s) (omega arith) (omega (arith, few, e))

    both_goes : Goes (list_blocks s m.list) s t
    both_goes = goes_within (list_blocks s m.list) (list_blocks a l) s a t h.goes h.notes.within x.goes

    both_most : StaysWithin (held m.list) (plain_room s.pool.shape (list_len m.list + 1)) s t
    both_most = record {
      is = omega (
        arith,
        h.costs.most.is,
        x.most.is,
        h.notes.used,
        held_noted,
        held_first,
        same_rest,
        few_records,
      );
    }

  full_kept : (e : EmFault) (b u v c n : ℕ) → OnFull e (b < u + (c + 1)) → u + held m.list ≡ v + held l
      → held l ≤ held m.list + 1 → c + 2 ≤ n → OnFull e (b < v + n)
  full_kept DeviceFault b u v c n f i j p = tt
  full_kept (Full used) b u v c n f i j p = omega (arith, f, i, j, p)
  full_kept (Damaged block) b u v c n f i j p = tt

  -- The gets couldn't be answered,
  pub unanswered : {t : RigState} {k : CommandList} {e : EmFault} (j : ℕ)
      → KeepsList (gets (apply_of m.settle.kind) m.answered) a t l k (Err e) → Syncs s t m (record m { list = k; answered = j }) (Err e)
  unanswered {t} {k} {e} j x =
      let P = payload_in s in
      let full = full_kept e a.blocks a.used s.used (ceiling x.records (payload_in a)) in
      let b : a.blocks ≡ s.blocks = h.goes.touches.blocks in
      stopped (both_goes x) x.frame (both_most x)
      (pays_then h.notes.pays
      (subst (λ (p : ShapeNumbers). Pays (unstored l) p.frames a t) h.goes.touches.shape x.owes)
      x.goes.touches.moves)
      (subst (λ (n : ℕ). OnFull e (n < s.used + plain_room s.pool.shape (list_len m.list + 1))) b
      (full (plain_room s.pool.shape (list_len m.list + 1)) x.full h.notes.used h.notes.more
      (omega (arith, same_rest x, few_records x))))
      (λ z. subst (λ (n : ℕ). OnFull e (n < s.used + (ceiling (length (due_of s m)) P + 2))) b
      (full (ceiling (length (due_of s m)) P + 2) x.full h.notes.used h.notes.more
      (omega (arith, same_rest x, due_records x z))))
      (cause_after (list_blocks s m.list) s a t e h.goes.touches x.cause)

  -- or they were.
  pub answered_all : {t : RigState} {k : CommandList} {c : Chain} (j : ℕ) → j ≡ list_len k
      → KeepsList (gets (apply_of m.settle.kind) m.answered) a t l k (Ok c) → Syncs s t m (record m { list = k; answered = j }) (Ok c)
  answered_all {t} {k} {c} j e x =
      let r = x.kept in
      let first : Session (blocks_of s m) s a (list_blocks a l) = record {
        sound = h.goes.sound;
        touches = h.goes.touches;
        within = h.notes.within;
        holds = λ z. (h.notes.is.writer.told (h.goes.touches.told ∙ z)).holds;
      } in
      record {
        goes = both_goes x;
        frame = x.frame;
        answers = record {
          is = record { list = r.is; answered = omega (arith, e) };
          commands = λ z. r.commands (h.goes.touches.told ∙ z) ∙ h.notes.commands z;
          len = r.len ∙ h.notes.len;
          all = e;
          chain = r.chain;
          items_are = λ z. r.items_are (h.goes.touches.told ∙ z) ∙ due_noted z;
          packed = λ z. r.packed (h.goes.touches.told ∙ z);
          session = session_trans first r.session;
          used = omega (arith, h.notes.used, r.used);
          pays = pays_then h.notes.pays r.pays x.goes.touches.moves;
        };
        most = both_most x;
        owes = tt;
        full = tt;
        full_if_few = λ z. tt;
        complete = λ enough z f. refl;
        complete_if_enough = λ enough z f. refl;
        cause = tt;
      }

-- What is due of a map whose commands are these, of which the first were answered.
pub due_is : {F : Type 0} (s : RigState) (m : ScanMap F) (before cs : List Command) → list_commands s m.list ≡ before ++ cs
    → m.answered ≡ length before → due_of s m ≡ answers_after (apply_of m.settle.kind) before cs
due_is s m before cs are e =
    let after = answers_after (apply_of m.settle.kind) in
    ap (λ n. after (take n (list_commands s m.list)) (drop n (list_commands s m.list))) e
    ∙ ap (λ t. after (take (length before) t) (drop (length before) t)) are
    ∙ ap (λ t. after t (drop (length before) (before ++ cs))) (take-append_seam before cs)
    ∙ ap (λ t. after before t) (drop-append_seam before cs)
