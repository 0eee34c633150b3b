-- A chain is read and written anew, record by record.
use Rattle.std.proofs.Common.{◌≡◌, ℕ, ◌+◌, ◌*◌, ◌≤◌, min, List, [], ◌∷◌, ◌++◌, sym, ap, ◌∙◌, subst, arith, IsTrue, true, Ok, Err, Result, OnOk, IfErr}
use Rattle.std.proofs.lemmas.List.{append-nil}
use Rattle.std.specs.Result.{IsErrAnd}
use Rattle.em_record.specs.Shape.{ShapeNumbers}
use Rattle.em_record.specs.declared.record.Record.{Record}
use Rattle.em_space.specs.Free.{Off}
use Rattle.em_space.specs.Ledger.{Stops}
use Rattle.em_space.specs.Queue.{Pays}
use Rattle.em_space.specs.Rig.{Cause, Goes, RigState, Sound, Touches}
use Rattle.em_space.specs.declared.fault.EmFault.{EmFault}
use Rattle.em_space.specs.declared.fault.EmFault.TheVariants.{DeviceFault, Full, Damaged}
use Rattle.em_space.proofs.Apart.{off_left}
use Rattle.em_space.proofs.Held.{apart_none}
use Rattle.em_space.proofs.Paying.{owes_of_pays, pays_more, pays_of_owes, pays_then}
use Rattle.em_space.proofs.Runs.{stops_wider}
use Rattle.em_space.proofs.Steps.{cause_after, touches_then, touches_trans}
use Rattle.em_space.proofs.Within.{within_then}
use Rattle.em_chain.specs.Chain.{chain_blocks}
use Rattle.em_chain.specs.Effects.{GivesFrame, LendsFrame, OnFull, Unmoved}
use Rattle.em_chain.specs.Parts.{BeginsPart, GaveUp, IsPair, pair_more}
use Rattle.em_chain.specs.Reader.{reader_items, rest_of}
use Rattle.em_chain.specs.Reads.{Opens}
use Rattle.em_chain.specs.Session.{Pairs, one_more, pair_account, pair_blocks}
use Rattle.em_chain.specs.Writer.{IsWriter, WriterHasFrame, writer_blocks}
use Rattle.em_chain.specs.Writes.{Begins}
use Rattle.em_chain.specs.declared.chain.Chain.{Chain}
use Rattle.em_chain.specs.declared.reader.Reader.{Reader}
use Rattle.em_chain.specs.declared.writer.Writer.{Writer}
use Rattle.em_chain.proofs.Keeps.{lent_given, lent_same, touches_none}
use Rattle.em_chain.proofs.Laws.{writer_stays}
use Rattle.em_chain.proofs.Pairs.{more_same, pairs_gave_up, pairs_none, pairs_room, pairs_stops, pairs_then, pairs_wider}
use Rattle.em_chain.proofs.Paying.{pays_unmoved}
use Rattle.em_chain.proofs.Sessions.{more_low}
use Rattle.em_chain.proofs.Writings.{cause_still, writer_lent}
use Rattle.em_plain.specs.Anew.{Copied, Copies, CopiesOne, WritesAnew, WrittenAnew}
use Rattle.em_plain.specs.Least.{BeginsAnew, PassCosts}
use Rattle.em_plain.proofs.Least.{none_read}
use Rattle.em_plain.proofs.Restarts.{begins_still}

-- One record: the call gave up,
pub copy_refused : {T : Type 0} (s t : RigState) (r q : Reader) (w v : Writer) (result : Result T EmFault)
    (e : EmFault) → IsErrAnd result (λ f. f ≡ e)
    → Stops (pair_more s r w) (2 * one_more s w) 1 (pair_blocks s r w) (pair_account r w) s t e
    → CopiesOne s t r q w v result
copy_refused s t r q w v (Ok y) e k h = absurd k
copy_refused s t r q w v (Err f) e k h =
    subst (λ (n : EmFault). Stops (pair_more s r w) (2 * one_more s w) 1 (pair_blocks s r w)
    (pair_account r w) s t n) (sym k) h

-- as it was to be read,
pub copy_unread : {s t : RigState} {w : Writer} {e : EmFault} (r : Reader)
    → 128 ≤ s.pool.shape.block → IsWriter s w
    → Stops (w.blocks + r.blocks) (2 * w.blocks + 0) (min w.blocks 1 + 0) (pair_blocks s r w)
    (pair_account r w) s t e
    → Stops (pair_more s r w) (2 * one_more s w) 1 (pair_blocks s r w) (pair_account r w) s t e
copy_unread {s = s} {w = w} r d i h =
    let m = more_low s w d i in stops_wider (omega arith) (omega arith) (omega arith) h

-- or as it was to be written.
pub copy_unwritten : {s a t : RigState} {r q : Reader} {w : Writer} {x : Record} {e : EmFault}
    → 128 ≤ s.pool.shape.block → IsPair s r w
    → Pairs (w.blocks + r.blocks) s a r q w w (x ∷ []) []
    → Stops (one_more a w + q.blocks) (2 * one_more a w + 0) (min w.blocks 1 + 0)
    (pair_blocks a q w) (pair_account q w) a t e
    → Stops (pair_more s r w) (2 * one_more s w) 1 (pair_blocks s r w) (pair_account r w) s t e
copy_unwritten {s = s} {r = r} {w = w} d i h g =
    let m = more_low s w d i.writer in
    let n = more_same h in
    let l = h.took.fewer in
    pairs_stops (pair_more s r w) (2 * one_more s w) 1 (omega arith) (omega arith) (omega arith)
    (omega arith) h g

-- No record yet,
pub copies_first : {s : RigState} {r : Reader} {w : Writer} → Sound s → BeginsPart s r w
    → Copies s s r r w w
copies_first h b =
    let n = b.blocks in
    record { read = []; pairs = pairs_wider (omega arith) (pairs_none h b.pair) }

-- one more,
pub copies_more : {s t u : RigState} {r q p : Reader} {w v k : Writer} {x : Record}
    → 128 ≤ s.pool.shape.block → BeginsPart s r w → Copies s t r q w v
    → Pairs (pair_more t q v) t u q p v k (x ∷ []) (x ∷ []) → Copies s u r p w k
copies_more {x = x} d b h g =
    let m = pairs_room d b h.pairs (omega arith) in
    record {
      read = h.read ++ x ∷ [];
      pairs = pairs_wider (omega arith) (pairs_then h.read h.read (x ∷ []) (x ∷ []) h.pairs g);
    }

-- or the next was refused.
pub copies_stop : {s t u : RigState} {r q : Reader} {w v : Writer} {e : EmFault} → Sound s
    → BeginsPart s r w → Copies s t r q w v
    → Stops (pair_more t q v) (2 * one_more t v) 1 (pair_blocks t q v) (pair_account q v) t u e
    → GaveUp s u r e
copies_stop so b h k = pairs_gave_up so b h.pairs (omega arith) k

-- So many are left of those that were there.
pub copies_left : {s t : RigState} {r q : Reader} {w v : Writer} (count : ℕ) → BeginsAnew s r w count
    → Copies s t r q w v → q.count + v.count ≡ count
copies_left count n h =
    let a = n.count_is in
    let b = n.begins.count in
    let l = h.pairs.took.left_is in
    let k = h.pairs.wrote.count_is in
    omega (arith, a, b, l, k)

-- All were copied.
pub copies_all : {s t : RigState} {r q : Reader} {w v : Writer} (count : ℕ) → BeginsAnew s r w count
    → Copies s t r q w v → v.count ≡ count → Copied s t r q w v
copies_all count n h e =
    let a = n.count_is in
    let b = n.begins.count in
    let l = h.pairs.took.left_is in
    let k = h.pairs.wrote.count_is in
    record { copies = h; all_read = omega arith }

-- A reader was made of the chain.
pub record Opening (s a : RigState) (c : Chain) (r : Reader) (w : Writer) : Type 0 where
  pub begins : Begins s w
  pub none_left : c.count ≡ 0 → c.blocks ≡ 0
  pub lends : LendsFrame s a
  pub unmoved : Unmoved s a
  pub opens : Opens s a c true r

pub anew_begins : {s a : RigState} {c : Chain} {r : Reader} {w : Writer} → Opening s a c r w
    → BeginsAnew a r w c.count
anew_begins {s} {a} {c} {r} {w} h =
    let n = begins_still s a w h.begins (writer_lent h.begins.is h.lends) in
    let o = h.opens in
    let counts = ap (λ (x : Chain). x.count) o.words in
    let blocks = ap (λ (x : Chain). x.blocks) o.words in
    record {
      begins = record {
        pair = record {
          reader = o.is;
          writer = n.is;
          taking = o.taking_is;
          apart = λ z. rw n.held tt;
        };
        items = n.items;
        held = n.held;
        packed = n.packed;
        count = n.count;
        blocks = n.blocks;
        filled_is = n.filled_is;
      };
      count_is = counts;
      none_left = λ e. blocks ∙ h.none_left (sym counts ∙ e);
    }

-- What the reader has may be changed.
anew_touches : {s a b : RigState} {c : Chain} {r : Reader} {w : Writer} → Opening s a c r w
    → Goes (chain_blocks a (rest_of r)) a b → Touches (chain_blocks s c) s b
anew_touches {s} {a} {b} {c} {r} h g =
    touches_trans (chain_blocks s c) (chain_blocks a (rest_of r)) s a b
    (touches_none (chain_blocks s c) s a h.lends.touches) g.touches
    (λ z j u o. rw (h.opens.blocks z) o)

anew_goes : {s a b t : RigState} {c : Chain} {r : Reader} {w : Writer} → Opening s a c r w
    → Goes (chain_blocks a (rest_of r)) a b → GivesFrame [] b t → Goes (chain_blocks s c) s t
anew_goes {s} {a} {b} {t} {c} h g x = record {
  sound = x.sound;
  touches = touches_then (chain_blocks s c) s b t (anew_touches h g) x.touches;
  frames = lent_given s.pool b.pool t.pool (lent_same 1 s.pool a.pool b.pool h.lends.frames g.frames)
      x.frames;
}

written_anew : {s a b t : RigState} {c : Chain} {r q : Reader} {w v : Writer} → Opening s a c r w
    → Goes (chain_blocks a (rest_of r)) a b → Copied a b r q w v → GivesFrame [] b t → Unmoved b t
    → WrittenAnew s t c v
written_anew {s} {a} {b} {t} {c} {r} {q} {w} {v} h g p x u =
    let m = p.copies.pairs in
    let n = anew_begins h in
    let goes = anew_goes h g x in
    let free = goes.frames.free in
    let out = h.begins.is.frame.out in
    let st = writer_stays [] b t v x.touches (λ z. apart_none (writer_blocks b v))
    (record {
      len_is = m.wrote.is.frame.len_is ∙ ap (λ (y : ShapeNumbers). y.block) (sym x.frames.shape);
      out = rw goes.frames.shape (omega arith);
    }) m.wrote.is in
    let counts = ap (λ (y : Chain). y.count) h.opens.words in
    let blocks = ap (λ (y : Chain). y.blocks) h.opens.words in
    let left = m.took.left_is in
    let wrote = m.wrote.count_is in
    let w0 = n.begins.count in
    let b0 = n.begins.blocks in
    let all = p.all_read in
    let gone = m.took.none_left (λ e. n.none_left e) all in
    let used = m.runs.spends.used in
    let u1 = h.unmoved.same.used in
    let u2 = u.same.used in
    let td = h.lends.touches.told in
    let te = m.took.told in
    record {
      is_full = record {
        is = st.is;
        packed = λ z. let y : IsTrue b.device.told = sym x.touches.told ∙ z in
            st.packed y (m.wrote.packed (sym te ∙ y) n.begins.packed);
        filled_is = let k = m.wrote.filled_is in let k0 = n.begins.filled_is in let k1 = st.filled_is in
            omega arith;
      };
      items = λ z.
          let y = td ∙ z in
          let e1 : reader_items a r ≡ p.copies.read = m.took.items y
          ∙ ap (λ (ys : List Record). p.copies.read ++ ys) (none_read b q m.took.is (te ∙ y) all)
          ∙ append-nil p.copies.read in
          st.items (te ∙ y) ∙ m.wrote.items y
          ∙ ap (λ (ys : List Record). ys ++ p.copies.read) n.begins.items
          ∙ sym e1 ∙ h.opens.items z;
      count = omega arith;
      session = record {
        sound = x.sound;
        touches = goes.touches;
        within = within_then s a (chain_blocks s c) (chain_blocks a (rest_of r)) (writer_blocks t v)
            (touches_none (chain_blocks s c) s a h.lends.touches)
            (record { off = λ z j i o. rw (h.opens.blocks z) o })
            (record {
              off = λ z j i o. rw (st.blocks (te ∙ z)) (off_left j (writer_blocks b v)
                  (chain_blocks b (rest_of q)) (m.runs.session.within.off z j i
                  (subst (λ (ks : List ℕ). Off j (ks ++ chain_blocks a (rest_of r)))
                  (sym n.begins.held) o)));
            });
        holds = λ z. (st.is.told (goes.touches.told ∙ z)).holds;
      };
      used = omega arith;
      pays =
          let k = min v.blocks 1 in
          let p : Pays 0 k a b = pays_more m.runs.spends.pays (omega arith) in
          pays_then (pays_then (pays_unmoved 0 h.unmoved) p g.touches.moves)
          (pays_unmoved k u) x.touches.moves;
    }

full_still : (s a : RigState) (e : EmFault) → OnFull e (a.used ≡ a.blocks) → a.used ≡ s.used
    → a.blocks ≡ s.blocks → OnFull e (s.used ≡ s.blocks)
full_still s a DeviceFault f u b = tt
full_still s a (Full used) f u b = sym u ∙ f ∙ b
full_still s a (Damaged block) f u b = tt

costs_still : {s a b t : RigState} → Unmoved s a → PassCosts a b → Unmoved b t → a.moves ≤ b.moves
    → b.moves ≤ t.moves → PassCosts s t
costs_still u k x la lb = record {
  most = omega (arith, k.most, u.same.most, u.same.used, x.same.most);
  owes = owes_of_pays 0 1 1 (pays_then (pays_then (pays_unmoved 0 u)
      (pays_of_owes 1 0 1 k.owes (omega arith)) la) (pays_unmoved 1 x) lb) (omega arith);
}

module _ {s a b t : RigState} {c : Chain} {r : Reader} {w : Writer} (v : Writer) (h : Opening s a c r w)
    (g : Goes (chain_blocks a (rest_of r)) a b) (f : WriterHasFrame b v) (k : PassCosts a b)
    (x : GivesFrame [] b t) (u : Unmoved b t) where
  frame_now : WriterHasFrame t v
  frame_now =
      let goes = anew_goes h g x in
      let free = goes.frames.free in
      let out = h.begins.is.frame.out in
      record {
        len_is = f.len_is ∙ ap (λ (y : ShapeNumbers). y.block) (sym x.frames.shape);
        out = rw goes.frames.shape (omega arith);
      }

  pub writes_anew : {T : Type 0} (q : Reader) (result : Result T EmFault) → OnOk result (Copied a b r q w v)
      → IfErr result (λ fault. OnFull fault (a.used ≡ a.blocks)) → IfErr result (Cause a b)
      → WritesAnew s t c v result
  writes_anew q (Ok y) p l d = record {
    goes = anew_goes h g x;
    frame = frame_now;
    wrote = written_anew h g p x u;
    costs = costs_still h.unmoved k u g.touches.moves x.touches.moves;
    full = tt;
    cause = tt;
  }
  writes_anew q (Err e) p l d = record {
    goes = anew_goes h g x;
    frame = frame_now;
    wrote = tt;
    costs = costs_still h.unmoved k u g.touches.moves x.touches.moves;
    full = full_still s a e l h.unmoved.same.used h.lends.touches.blocks;
    cause = cause_after [] s a t e h.lends.touches (cause_still a b t e u x.touches d);
  }
