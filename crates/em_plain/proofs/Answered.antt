-- The end of a list of commands: it becomes a chain, which is answered and released.
use Rattle.std.proofs.Common.{◌≡◌, ℕ, ◌+◌, ◌<◌, ◌≤◌, List, [], length, ap, sym, ◌∙◌, subst, refl, arith, IsTrue, Ok, Err, Result, IfErr}
use Rattle.std.specs.Result.{IsErrAnd}
use Rattle.em_record.specs.Count.{Rose}
use Rattle.em_record.specs.declared.record.Record.{Record}
use Rattle.em_space.specs.Held.{Apart}
use Rattle.em_space.specs.Queue.{Pays}
use Rattle.em_space.specs.Rig.{RigState, Sound, Goes, Cause, BlockCause, DeviceCause, IfFull}
use Rattle.em_space.specs.declared.fault.EmFault.{EmFault}
use Rattle.em_space.specs.declared.fault.EmFault.TheVariants.{DeviceFault, Full, Damaged}
use Rattle.em_space.proofs.Held.{apart_none}
use Rattle.em_space.proofs.Paying.{pays_kept, pays_more, pays_then}
use Rattle.em_space.proofs.Lists.{apart_sym}
use Rattle.em_space.proofs.Steps.{block_cause, cause_after, device_cause, touches_then, touches_trans}
use Rattle.em_space.proofs.Within.{within_apart}
use Rattle.em_chain.specs.Chain.{ChainStays, chain_blocks, chain_items, payload_in}
use Rattle.em_chain.specs.Counts.{ceiling}
use Rattle.em_chain.specs.Effects.{Completes, GivesFrame, OnFull}
use Rattle.em_chain.specs.Row.{Frees}
use Rattle.em_chain.specs.Session.{FinishSpends}
use Rattle.em_chain.specs.Writes.{Finishes}
use Rattle.em_chain.specs.declared.chain.Chain.{Chain}
use Rattle.em_chain.proofs.Beside.{chain_kept}
use Rattle.em_chain.proofs.Keeps.{payload_kept}
use Rattle.em_chain.proofs.Laws.{chain_stays}
use Rattle.em_plain.specs.Adds.{StopsWritten, Written}
use Rattle.em_plain.specs.Answered.{AnswersList}
use Rattle.em_plain.specs.Asks.{Asks, most_in, records_for, records_in}
use Rattle.em_plain.specs.CommandList.{AnsweredBy, IsCommandList, held, list_blocks, list_commands, list_len, unstored}
use Rattle.em_plain.specs.Room.{StaysWithin, plain_room}
use Rattle.em_plain.specs.declared.command_list.CommandList.{CommandList}
use Rattle.em_plain.proofs.Frames.{given_same}
use Rattle.em_plain.proofs.Notes.{list_blocks_are}
use Rattle.em_chain.proofs.Sessions.{ceiling_rises}

-- The list became a chain, and then its answers were written, or some of them.
pub record Ending (s a b : RigState) (l : CommandList) (c : Chain) : Type 0 where
  pub sound : Sound s
  pub gives : GivesFrame (list_blocks s l) s a
  pub finishes : Finishes s a l.writer c
  pub spends : FinishSpends s a l.writer (Ok c)
  pub goes : Goes [] a b

pub ending : {s a b : RigState} {l : CommandList} {c : Chain} → Sound s
    → GivesFrame (list_blocks s l) s a → Finishes s a l.writer c → FinishSpends s a l.writer (Ok c)
    → Goes [] a b → Ending s a b l c
ending h g f k o = record { sound = h; gives = g; finishes = f; spends = k; goes = o }

-- the answers of the list
pub records_are : {s a b : RigState} {l : CommandList} {c : Chain} (asks : Asks) → Ending s a b l c
    → IsTrue s.device.told
    → records_in asks (chain_items a c) ≡ records_for asks (list_commands s l)
records_are asks e z = ap (records_in asks) (e.finishes.items z)

-- the chain is still there
pub commands_stay : {s a b : RigState} {l : CommandList} {c : Chain} → Ending s a b l c
    → ChainStays a b c
commands_stay {a = a} {b = b} {c = c} e = chain_kept a b c e.goes e.finishes.is

pub ending_gives : {s a b : RigState} {l : CommandList} {c : Chain} → Ending s a b l c
    → GivesFrame (list_blocks s l) s b
ending_gives {s} {a} {b} {l} {c} e = record {
  sound = e.goes.sound;
  touches = touches_then (list_blocks s l) s a b e.gives.touches e.goes.touches;
  frames = given_same s.pool a.pool b.pool e.gives.frames e.goes.frames;
}

-- The chain was released, or some of it.
pub ending_released : {s a b t : RigState} {l : CommandList} {c : Chain} → Ending s a b l c
    → Goes (chain_blocks b c) b t → GivesFrame (list_blocks s l) s t
ending_released {s} {a} {b} {t} {l} {c} e g =
    let h = ending_gives e in
    let k = commands_stay e in
    record {
      sound = g.sound;
      touches = touches_trans (list_blocks s l) (chain_blocks b c) s b t h.touches g.touches
          (λ z j u o. rw (k.blocks (e.gives.touches.told ∙ z), e.finishes.blocks z) o);
      frames = given_same s.pool b.pool t.pool h.frames g.frames;
    }

-- All blocks are in use only if there are too few for the records.
full_at : (e : EmFault) (a b : RigState) (n p u m : ℕ) → Cause a b e
    → IfFull e (λ _. b.used + 0 < a.used + p) → b.blocks ≡ n → a.used ≡ u → p ≡ m
    → OnFull e (n < u + m)
full_at DeviceFault a b n p u m c h d i j = tt
full_at (Full used) a b n p u m c h d i j = let x = c.1 in omega arith
full_at (Damaged block) a b n p u m c h d i j = tt

full_none : (e : EmFault) (a b : RigState) (P : Type 0) → BlockCause a b e → OnFull e P
full_none DeviceFault a b P c = tt
full_none (Full used) a b P c = absurd c
full_none (Damaged block) a b P c = tt

-- what the fault of a callee says of the result
pub list_err : {s t : RigState} {l : CommandList} (asks : Asks) (result : Result Chain EmFault)
    (e : EmFault) → IsErrAnd result (λ f. f ≡ e) → AnswersList asks s t l (Err e)
    → AnswersList asks s t l result
list_err asks (Ok c) e h a = absurd h
list_err {s} {t} {l} asks (Err f) e h a =
    subst (λ (g : EmFault). AnswersList asks s t l (Err g)) (sym h) a

-- The list's last block couldn't be stored.
pub list_unfinished : {s t : RigState} {e : EmFault} (asks : Asks) (l : CommandList) → Sound s
    → GivesFrame (list_blocks s l) s t → FinishSpends s t l.writer (Err e) → DeviceCause s t e
    → AnswersList asks s t l (Err e)
list_unfinished {s} {t} {e} asks l h g k d = record {
  gives = g;
  answers = tt;
  records = 0;
  told = λ z. omega arith;
  few = omega arith;
  most = record { is = omega (arith, k.most) };
  owes = pays_more k.pays (let f = h.shape.frames_low in omega arith);
  full = subst (λ (f : EmFault). OnFull f (s.blocks < s.used + ceiling 0 (payload_in s))) (sym d.is) tt;
  cause = device_cause s t e d;
}

-- The answers were refused,
pub list_refused : {s a b : RigState} {l : CommandList} {c : Chain} {e : EmFault} (asks : Asks)
    → Ending s a b l c
    → StopsWritten (most_in asks c.count) a b (records_in asks (chain_items a c)) e
    → AnswersList asks s b l (Err e)
list_refused {s} {a} {b} {l} {c} {e} asks h k =
    let o = k.stops in
    let p : payload_in a ≡ payload_in s = payload_kept (list_blocks s l) s a h.gives.touches in
    let m : ceiling k.tried (payload_in a) ≡ ceiling k.tried (payload_in s) =
    ap (λ (q : ℕ). ceiling k.tried q) p in
    let w = h.finishes.blocks_is in
    let g = ending_gives h in
    record {
      gives = g;
      answers = tt;
      records = k.tried;
      told = λ z.
          let n = ap (λ (xs : List Record). length xs) (records_are asks h z) in
          let t = k.told (h.gives.touches.told ∙ z) in
          omega (arith, n, t);
      few = rw (h.finishes.count_is) at k.few;
      most = record { is = omega (arith, h.spends.used, h.spends.most, o.halts.most, m, w) };
      owes = pays_more (pays_then h.spends.pays o.halts.pays o.halts.later)
          (let f = h.sound.shape.frames_low in omega arith);
      full = full_at e a b s.blocks _ s.used _ o.cause o.halts.full g.touches.blocks
          (omega (arith, h.spends.used, w)) m;
      cause = cause_after (list_blocks s l) s a b e h.gives.touches o.cause;
    }

-- The answers were written, and the commands were released, or some of them.
list_written : {T : Type 0} {s a b t : RigState} {l : CommandList} {c d : Chain} (asks : Asks)
    (result : Result T EmFault) → Ending s a b l c
    → (k : Written (most_in asks c.count) a b (records_in asks (chain_items a c)) d)
    → Frees c.blocks b t result
    → StaysWithin (held l) (held l + ceiling (length k.written) (payload_in s)) s t
list_written {s = s} {a = a} {b = b} {t = t} {l = l} {c = c} {d = d} asks result h k f =
    let p : payload_in a ≡ payload_in s = payload_kept (list_blocks s l) s a h.gives.touches in
    let m : d.blocks ≡ ceiling (length k.written) (payload_in s) =
    k.blocks_is ∙ ap (λ (q : ℕ). ceiling (length k.written) q) p in
    record {
      is = omega (
        arith,
        h.spends.used,
        h.spends.most,
        k.runs.spends.most,
        f.most,
        m,
        h.finishes.blocks_is,
      );
    }

pub list_told : {s a b : RigState} {l : CommandList} {c d : Chain} (asks : Asks) → Ending s a b l c
    → (k : Written (most_in asks c.count) a b (records_in asks (chain_items a c)) d)
    → IsTrue s.device.told → length k.written ≤ length (records_for asks (list_commands s l))
list_told asks h k z =
    let n = ap (λ (xs : List Record). length xs)
    (k.told (h.gives.touches.told ∙ z) ∙ records_are asks h z) in
    omega (arith, n)

list_pays : {s a b t : RigState} {l : CommandList} {c d : Chain} {m : ℕ} {xs : List Record}
    → Ending s a b l c → Written m a b xs d → t.used ≤ b.used → b.moves ≤ t.moves
    → Pays (unstored l) 0 s t
list_pays h k used later =
    pays_then (pays_then h.spends.pays k.runs.spends.pays k.runs.spends.later)
    (pays_kept 0 used later) later

pub list_kept : {T : Type 0} {s a b t : RigState} {l : CommandList} {c d : Chain} {e : EmFault}
    (asks : Asks) → Ending s a b l c
    → Written (most_in asks c.count) a b (records_in asks (chain_items a c)) d
    → Goes (chain_blocks b c) b t → Frees {T = T} c.blocks b t (Err e) → BlockCause b t e
    → AnswersList asks s t l (Err e)
list_kept {s = s} {a = a} {b = b} {t = t} {l = l} {c = c} {e = e} asks h k g f q = record {
  gives = ending_released h g;
  answers = tt;
  records = length k.written;
  told = list_told asks h k;
  few = rw (h.finishes.count_is) at k.few;
  most = list_written asks (Err e) h k f;
  owes = pays_more (list_pays h k f.used_most g.touches.moves) (omega arith);
  full = full_none e b t _ q;
  cause = cause_after (list_blocks s l) s b t e (ending_gives h).touches (block_cause b t e q);
}

-- and the answers are a chain.
list_by : {s a b t : RigState} {l : CommandList} {c d : Chain} (asks : Asks) → Ending s a b l c
    → Written (most_in asks c.count) a b (records_in asks (chain_items a c)) d
    → Goes (chain_blocks b c) b t → t.used + c.blocks ≡ b.used
    → AnsweredBy s t l (records_for asks (list_commands s l)) d
list_by {s} {a} {b} {t} {l} {c} {d} asks h k g u =
    let td = h.gives.touches.told in
    let te = h.goes.touches.told in
    let m = commands_stay h in
    let apart : IsTrue b.device.told → Apart (chain_blocks b d) (chain_blocks b c) = λ y.
    let z : IsTrue a.device.told = sym te ∙ y in
    rw (m.blocks z) (apart_sym (chain_blocks a c) (chain_blocks b d)
    (within_apart a [] (chain_blocks b d) (chain_blocks a c) z k.runs.session.within
    (h.finishes.is.told z).holds.in_use (apart_none (chain_blocks a c)))) in
    let st = chain_stays (chain_blocks b c) b t d g.touches apart k.is in
    record {
      is = st.is;
      items_are = λ z. st.items (te ∙ td ∙ z) ∙ k.items (td ∙ z) ∙ k.told (td ∙ z)
          ∙ records_are asks h z;
      packed = λ z. st.packed (te ∙ td ∙ z) (k.packed (td ∙ z));
      within = record {
        off = λ z j i o. rw (st.blocks (te ∙ td ∙ z)) (k.runs.session.within.off (td ∙ z) j
            (h.gives.touches.others z j i o).in_use tt);
      };
      used = omega (arith, h.spends.used, k.runs.spends.used, u, h.finishes.blocks_is);
      pays = list_pays h k (omega arith) g.touches.moves;
    }

pub list_answered : {T : Type 0} {s a b t : RigState} {l : CommandList} {c d : Chain}
    (asks : Asks) (x : T) → Ending s a b l c
    → Written (most_in asks c.count) a b (records_in asks (chain_items a c)) d
    → Goes (chain_blocks b c) b t → Frees c.blocks b t (Ok x) → AnswersList asks s t l (Ok d)
list_answered asks x h k g f = record {
  gives = ending_released h g;
  answers = list_by asks h k g f.used;
  records = length k.written;
  told = list_told asks h k;
  few = rw (h.finishes.count_is) at k.few;
  most = list_written asks (Ok x) h k f;
  owes = tt;
  full = tt;
  cause = tt;
}

-- records that are no more take no more blocks
pub records_most : {s : RigState} (m n : ℕ) → Sound s → m ≤ n
    → ceiling m (payload_in s) ≤ ceiling n (payload_in s)
records_most {s} m n h l =
    let low = h.shape.block_low in ceiling_rises m n (payload_in s) (omega arith) l

pub records_room : {s : RigState} (m n : ℕ) → Sound s → m ≤ n
    → ceiling m (payload_in s) ≤ plain_room s.pool.shape n
records_room {s} m n h l = let r = records_most m n h l in omega arith

-- In no moment did it hold more than the blocks of the commands and those of the records.
pub list_most : {asks : Asks} {s t : RigState} {l : CommandList} {result : Result Chain EmFault}
    (n : ℕ) (a : AnswersList asks s t l result) → Sound s → IsCommandList s l → a.records ≤ n
    → list_len l ≤ n → StaysWithin (held l) (plain_room s.pool.shape n) s t
list_most {asks} {s} {t} {l} n a h i r k =
    let e = list_blocks_are s l h i in
    let x = records_most a.records n h r in
    let y = records_most (list_len l) n h k in
    let m = a.most.is in
    record { is = omega arith }

pub list_full : {asks : Asks} {s t : RigState} {l : CommandList} (k : ℕ)
    (result : Result Chain EmFault) (a : AnswersList asks s t l result)
    → ceiling a.records (payload_in s) ≤ k
    → IfErr result (λ fault. OnFull fault (s.blocks < s.used + k))
list_full k (Ok c) a m = tt
list_full k (Err DeviceFault) a m = tt
list_full k (Err (Full n)) a m = omega (arith, a.full, m)
list_full k (Err (Damaged n)) a m = tt

pub no_cause : (fault : EmFault) (s t : RigState) (n : ℕ) → Cause s t fault
    → OnFull fault (s.blocks < n) → n ≤ s.blocks → t.device.told ≡ s.device.told
    → IsTrue s.device.told → (Rose s.device.faults t.device.faults → ⊥) → ⊥
no_cause DeviceFault s t n c f l e z r = r c
no_cause (Full used) s t n c f l e z r = omega arith
no_cause (Damaged block) s t n c f l e z r = let d = c.0 in cc

-- With enough blocks only a fault of the device stops it.
pub list_completes : {asks : Asks} {s t : RigState} {l : CommandList} (k : ℕ)
    (result : Result Chain EmFault) (a : AnswersList asks s t l result)
    → (IsTrue s.device.told → ceiling a.records (payload_in s) ≤ k) → s.used + k ≤ s.blocks
    → Completes s t result
list_completes k (Ok c) a m few = λ z r. refl
list_completes {s = s} {t = t} k (Err f) a m few = λ z r.
    absurd (no_cause f s t (s.used + k) a.cause (list_full k (Err f) a (m z)) few
    a.gives.touches.told z r)
