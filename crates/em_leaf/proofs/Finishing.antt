-- A part of what results: a list is begun, records are written, and it is finished.
use Rattle.std.proofs.Common.{◌≡◌, ℕ, ◌+◌, ◌-◌, ◌*◌, ◌^◌, ◌<◌, ◌≤◌, min, List, [], ◌++◌, length, refl, sym, ap, ◌∙◌, arith, subst, IsTrue, Option, Result, Ok, Err, IsErrAnd}
use Rattle.std.proofs.lemmas.List.{append-nil}
use Rattle.em_record.specs.Shape.{ShapeNumbers}
use Rattle.em_record.specs.declared.record.Record.{Record}
use Rattle.em_frames.specs.Pool.{PoolCounts, GivenFrames, HasFrames, LentFrames, SameFrames}
use Rattle.em_space.specs.Ledger.{Halts, Session, Spends, Stops, both}
use Rattle.em_space.specs.Rig.{RigState, DeviceCause}
use Rattle.em_space.specs.declared.fault.EmFault.{EmFault}
use Rattle.em_space.proofs.Held.{apart_none}
use Rattle.em_space.proofs.Ledgers.{full_by, halts_after, halts_beside, halts_wider, spends_then, spends_wider}
use Rattle.em_space.proofs.Lists.{apart_left, apart_right, apart_sym, distinct_apart}
use Rattle.em_space.proofs.Paying.{pays_kept, pays_more}
use Rattle.em_space.proofs.Sessions.{session_as, session_beside, session_still, session_trans}
use Rattle.em_space.proofs.Steps.{cause_after, device_cause, touches_then, touches_trans}
use Rattle.em_space.proofs.Within.{touches_within, within_kept, within_left, within_same, within_then}
use Rattle.em_chain.specs.Chain.{chain_blocks, payload_in}
use Rattle.em_chain.specs.Counts.{ceiling}
use Rattle.em_chain.specs.Effects.{GivesFrame, LendsFrame, Unmoved}
use Rattle.em_chain.specs.Reader.{ReaderStays, rest_of, reader_items}
use Rattle.em_chain.specs.Session.{Took, Wrote, chain_account, pair_account, pair_blocks, writer_account}
use Rattle.em_chain.specs.Writer.{IsPackedSoFar, IsWriter, WriterStays, filled, writer_blocks, writer_items}
use Rattle.em_chain.specs.Writes.{Begins, Finishes}
use Rattle.em_chain.specs.declared.chain.Chain.{Chain}
use Rattle.em_chain.specs.declared.reader.Reader.{Reader}
use Rattle.em_chain.specs.declared.writer.Writer.{Writer}
use Rattle.em_chain.proofs.Counts.{ceiling_more, writer_blocks_are}
use Rattle.em_chain.proofs.Keeps.{lent_given, lent_same, payload_kept, touches_none}
use Rattle.em_chain.proofs.Laws.{writer_stays}
use Rattle.em_chain.proofs.Pairs.{pair_holds}
use Rattle.em_chain.proofs.Parts.{has_lent}
use Rattle.em_chain.proofs.Readers.{reader_stays}
use Rattle.em_chain.proofs.Sessions.{took_stays, took_then, wrote_stays, wrote_then}
use Rattle.em_chain.proofs.Writings.{cause_still, halts_between, writer_lent}
use Rattle.em_settle.specs.declared.step.Step.{Step}
use Rattle.em_leaf.specs.Front.{IsFront, MovesOn, in_hand, most_left}
use Rattle.em_leaf.specs.Passing.{CanPass, answers_most}
use Rattle.em_leaf.specs.Writing.{CanWriteItems, EndsAt, Writing, WritesPart, WritesPartTo, head_of, part_account, part_peak, writing_account, writing_blocks, writing_peak}
use Rattle.em_leaf.specs.declared.front.Front.{Front}

-- a frame was lent, and came back
pub frame_back : (p b t : PoolCounts) (n len : ℕ) → SameFrames p t → HasFrames 1 n p
    → GivenFrames 1 b t → HasFrames 1 len b → HasFrames 1 len t
frame_back p b t n len same h g k = record {
  len_is = k.len_is ∙ ap (λ (x : ShapeNumbers). x.block) (sym g.shape);
  out = rw (same.shape, same.free) h.out;
}

-- A list was begun beside a reader and a writer.
pub record Lent (s a : RigState) (r : Reader) (w out : Writer) (f : Front) (n : ℕ) : Type 0 where
  pub reader : ReaderStays s a r
  pub writer : WriterStays s a w
  pub can : CanWriteItems a r w out f n
  pub session : Session (pair_blocks s r w) s a (writing_blocks a r w out)
  pub spends : Spends (w.blocks + r.blocks) (pair_account r w) (writing_account r w out) s a
  pub peak_is : writing_peak a r w out f n ≡ part_peak s r w f n
  pub few : w.blocks + r.blocks ≤ part_peak s r w f n

pub lent_by : {s a : RigState} {r : Reader} {w out : Writer} {f : Front} {n : ℕ} → CanPass s r w f n
    → LendsFrame s a → Unmoved s a → Begins a out → most_left f r.count n ≤ 2 ^ 56
    → Lent s a r w out f n
lent_by {s} {a} {r} {w} {out} {f} {n} c l u b room =
    let rs = reader_stays [] s a r l.touches (λ z. apart_none (chain_blocks s (rest_of r)))
    (has_lent 1 (length r.frame) s.pool a.pool l.frames c.pair.reader.frame) c.pair.reader in
    let ws = writer_lent c.pair.writer l in
    let back = λ (z : IsTrue a.device.told). sym l.touches.told ∙ z in
    let pa : payload_in a ≡ payload_in s = payload_kept [] s a l.touches in
    let used = u.same.used in
    let most = u.same.most in
    let moves = u.moves in
    let nb = b.blocks in
    let nc = b.count in
    let e : filled a out + in_hand f + (n - f.settled) ≡ in_hand f + (n - f.settled) =
    omega (arith, b.filled_is) in
    record {
      reader = rs;
      writer = ws;
      can = record {
        can = record {
          pair = record {
            reader = rs.is;
            writer = ws.is;
            taking = c.pair.taking;
            apart = λ z. rw (ws.blocks (back z), rs.blocks (back z)) (c.pair.apart (back z));
          };
          within = c.within;
          grow = c.grow;
        };
        out_is = b.is;
        apart = λ z. rw b.held tt;
        room = record { count = omega arith; blocks = omega arith };
      };
      session = session_as (writing_blocks a r w out)
          (session_still (pair_blocks s r w) l.sound l.touches (λ z. pair_holds c.pair z))
          (λ z. rw (b.held, ws.blocks z, rs.blocks z) refl);
      spends = record {
        held = omega arith;
        used = omega arith;
        most = omega arith;
        moves = omega arith;
        later = omega arith;
        pays = pays_more (pays_kept 0 (omega arith) (omega arith)) (omega arith);
      };
      peak_is =
          ap (λ (k : ℕ). answers_most a w (n - f.settled) +
          (ceiling k (payload_in a) + r.blocks + 1)) e
          ∙ ap (λ (k : ℕ). ceiling (k + (n - f.settled)) (payload_in a)
          + (ceiling (in_hand f + (n - f.settled)) (payload_in a) + r.blocks + 1)) ws.filled_is
          ∙ ap (λ (p : ℕ). ceiling (filled s w + (n - f.settled)) p
          + (ceiling (in_hand f + (n - f.settled)) p + r.blocks + 1)) pa;
      few =
          let low = l.sound.shape.block_low in
          let is = writer_blocks_are s w (omega arith) c.pair.writer in
          let m = ceiling_more (filled s w) (filled s w + (n - f.settled)) (payload_in s)
          (omega arith)
          (omega arith) in
          omega arith;
    }

module _ (key : Record → Record) (step : Option Record → Record → Step) (ops : List Record) where
  -- Records were written, and the list isn't finished yet.
  pub record Unfinished (s b : RigState) (r q : Reader) (w v out : Writer) (f g : Front)
      (items : List Record) : Type 0 where
    pub xs : List Record
    pub ys : List Record
    pub session : Session (pair_blocks s r w) s b (writing_blocks b q v out)
    pub spends : Spends (part_peak s r w f (length ops)) (pair_account r w)
        (writing_account q v out)
        s b
    pub frames : LentFrames 1 s.pool b.pool
    pub took : Took s b r q xs
    pub answered : Wrote s b w v ys
    pub is : IsWriter b out
    pub packed : IsTrue s.device.told → IsPackedSoFar b out
    pub items_are : IsTrue s.device.told → writer_items b out ≡ items
    pub count_is : out.count ≡ length items
    pub filled_is : filled b out ≡ length items
    pub moves_on : IsTrue s.device.told → IsFront key ops f (reader_items s r)
        → MovesOn key step ops f g (reader_items s r) (reader_items b q) items ys
    pub count : most_left g q.count (length ops) + length items ≤ most_left f r.count (length ops)
    pub few : f.settled + length ys ≤ g.settled
    pub within : g.settled ≤ length ops

  pub unfinished : {s a b : RigState} {r q : Reader} {w v out new : Writer} {f g : Front}
      {items : List Record} → CanPass s r w f (length ops) → LendsFrame s a → Unmoved s a
      → Begins a out → most_left f r.count (length ops) ≤ 2 ^ 56
      → Writing (writing_peak a r w out f (length ops)) key step ops a b r q w v out new f g items
      → Unfinished s b r q w v new f g items
  unfinished {s} {a} {b} {r} {q} {w} {v} {out} {new} {f} {g} {items} c l u n room h =
      let d = lent_by c l u n room in
      let told = l.touches.told in
      let e = d.peak_is in
      let few = d.few in
      record {
        xs = h.xs;
        ys = h.ys;
        session = session_trans d.session h.runs.session;
        spends = spends_wider (omega arith) (spends_then d.spends h.runs.spends);
        frames = lent_same 1 s.pool a.pool b.pool l.frames h.runs.frames;
        took = took_then [] h.xs (took_stays [] l.touches d.reader) h.took;
        answered = wrote_then [] h.ys (wrote_stays told d.writer) h.answered;
        is = h.wrote.is;
        packed = λ z. h.wrote.packed (told ∙ z) n.packed;
        items_are = λ z. h.wrote.items (told ∙ z) ∙ ap (λ (l : List Record). l ++ items) n.items;
        count_is = omega (arith, h.wrote.count_is, n.count);
        filled_is = omega (arith, h.wrote.filled_is, n.filled_is);
        moves_on = λ z i.
            let same = d.reader.items z in
            let P : List Record → Type 0 = λ zs. IsFront key ops f zs in
            let Q : List Record → Type 0 = λ zs. MovesOn key step ops f g zs
            (reader_items b q) items
            h.ys in
            subst Q same (h.moves_on (told ∙ z) (subst P (sym same) i));
        count = h.count;
        few = h.few;
        within = h.within;
      }

  -- The list is a chain.
  pub part_done : {s b t : RigState} {r q : Reader} {w v out : Writer} {f g : Front}
      {items : List Record} (limit : ℕ) (first : Option Record) (c : Chain)
      → CanPass s r w f (length ops) → Unfinished s b r q w v out f g items
      → GivesFrame (writer_blocks b out) b t → Finishes b t out c
      → Spends out.blocks (writer_account out) (chain_account (min out.blocks 1) c) b t
      → EndsAt limit g q.count (length ops) items → first ≡ head_of items
      → WritesPart limit key step ops s t r q w v f g first c
  part_done {s} {b} {t} {r} {q} {w} {v} {out} {f} {g}
      {items} limit first c can h x fin k ends head =
      let told = h.took.told in
      let ks = writer_blocks b out in
      let js = chain_blocks t c in
      let frames = lent_given s.pool b.pool t.pool h.frames x.frames in
      let off = λ (z : IsTrue b.device.told). apart_sym ks (pair_blocks b q v)
      (distinct_apart ks (pair_blocks b q v) ((h.session.holds (sym told ∙ z)).distinct z)) in
      let rs = reader_stays ks b t q x.touches
      (λ z. apart_right (writer_blocks b v) (chain_blocks b (rest_of q)) ks (off z))
      (frame_back s.pool b.pool t.pool _ _ frames can.pair.reader.frame x.frames h.took.is.frame)
      h.took.is in
      let ws = writer_stays ks b t v x.touches
      (λ z. apart_left (writer_blocks b v) (chain_blocks b (rest_of q)) ks (off z))
      (frame_back s.pool b.pool t.pool _ _ frames can.pair.writer.frame x.frames
      h.answered.is.frame)
      h.answered.is in
      let one : Session ks b t js = record {
        sound = x.sound;
        touches = x.touches;
        within = within_kept b ks ks js (within_same b ks) fin.blocks;
        holds = λ z. (fin.is.told (x.touches.told ∙ z)).holds;
      } in
      let all = session_as (js ++ pair_blocks t q v)
      (session_beside [] ks js (pair_blocks b q v) (λ z. h.session.holds (sym told ∙ z)) one)
      (λ z. rw (ws.blocks z, rs.blocks z) refl) in
      let low = h.session.sound.shape.block_low in
      let blocks = writer_blocks_are b out low h.is in
      let pt : payload_in t ≡ payload_in b = payload_kept ks b t x.touches in
      let bi = fin.blocks_is in
      let held = h.spends.held in
      let took = took_then h.xs [] h.took (took_stays ks x.touches rs) in
      let answered = wrote_then h.ys [] h.answered (wrote_stays x.touches.told ws) in
      let part : Spends (out.blocks + (v.blocks + q.blocks)) (writing_account q v out)
      (both (part_account c) (pair_account q v)) b t = record {
        held = omega (arith, k.held);
        used = omega (arith, k.used);
        most = omega (arith, k.most);
        moves = omega (arith, k.moves, bi);
        later = k.later;
        pays = pays_more k.pays (omega arith);
      } in
      record {
        items = items;
        xs = h.xs ++ [];
        ys = h.ys;
        runs = record {
          session = session_trans h.session all;
          frames = frames;
          spends = spends_wider (omega arith) (spends_then h.spends part);
        };
        took = took;
        answered = rw (append-nil h.ys) at answered;
        part = record {
          chain = fin.is;
          packed = λ z.
              let y = sym x.touches.told ∙ z in
              fin.packed y (h.packed (sym told ∙ y));
          items_are = λ z.
              let y = sym x.touches.told ∙ z in
              fin.items y ∙ h.items_are (sym told ∙ y);
          count_is = fin.count_is ∙ h.count_is;
          blocks_are = bi ∙ (blocks ∙ (ap (λ (n : ℕ). ceiling n (payload_in b)) h.filled_is
              ∙ ap (λ (p : ℕ). ceiling (length items) p) (sym pt)));
        };
        moves_on = λ z i.
            let P : List Record → Type 0 = λ zs. MovesOn key step ops f g
            (reader_items s r) zs items
            h.ys in
            subst P (sym (rs.items (told ∙ z))) (h.moves_on z i);
        count = h.count;
        few = h.few;
        within = h.within;
        ends_at = ends;
        first_is = head;
      }

  -- The list couldn't be finished,
  pub part_stops : {s b t : RigState} {r q : Reader} {w v out : Writer} {f g : Front}
      {items : List Record} {e : EmFault} → Unfinished s b r q w v out f g items
      → GivesFrame (writer_blocks b out) b t
      → Halts out.blocks (2 * out.blocks + min out.blocks 1) (min out.blocks 1)
      (writer_account out) b t
      e
      → DeviceCause b t e
      → Stops (part_peak s r w f (length ops)) (2 * part_peak s r w f (length ops) + 1) 2
      (pair_blocks s r w) (pair_account r w) s t e
  part_stops {s} {b} {t} {r} {q} {w} {v} {out} {f} {g} {items} {e} h x k c =
      let ks = writer_blocks b out in
      let held = h.spends.held in
      record {
        goes = record {
          sound = x.sound;
          touches = touches_within s b t (pair_blocks s r w) ks h.session.touches
              (within_then s b (pair_blocks s r w) (writing_blocks b q v out) ks h.session.touches
              h.session.within (within_left b ks (pair_blocks b q v))) x.touches;
          frames = lent_given s.pool b.pool t.pool h.frames x.frames;
        };
        halts = halts_wider (omega arith) (omega arith) (omega arith)
            (halts_after h.spends (halts_beside (pair_account q v) k));
        cause = cause_after (pair_blocks s r w) s b t e h.session.touches (device_cause b t e c);
      }

  -- or a record couldn't be written, and the list was abandoned.
  pub part_abandoned : {s a b t : RigState} {r : Reader} {w out : Writer} {f : Front} {e : EmFault}
      → CanPass s r w f (length ops) → LendsFrame s a → Unmoved s a
      → Begins a out → most_left f r.count (length ops) ≤ 2 ^ 56
      → Stops (writing_peak a r w out f (length ops)) (2 * writing_peak a r w out f (length ops)) 2
      (writing_blocks a r w out) (writing_account r w out) a b e
      → GivesFrame [] b t → Unmoved b t
      → Stops (part_peak s r w f (length ops)) (2 * part_peak s r w f (length ops) + 1) 2
      (pair_blocks s r w) (pair_account r w) s t e
  part_abandoned {s} {a} {b} {t} {r} {w} {out} {f} {e} c l u n room h x y =
      let d = lent_by c l u n room in
      let o = h.goes in
      let k = halts_between u h.halts y in
      let p = d.peak_is in
      let nb = n.blocks in
      let ps = pair_blocks s r w in
      let zs = writing_blocks a r w out in
      record {
        goes = record {
          sound = x.sound;
          touches = touches_then ps s b t (touches_trans ps zs s a b (touches_none ps s a l.touches)
              o.touches (λ z j i m. d.session.within.off z j i m)) x.touches;
          frames = lent_given s.pool b.pool t.pool
              (lent_same 1 s.pool a.pool b.pool l.frames o.frames) x.frames;
        };
        halts = record {
          used = omega (arith, k.used);
          full = full_by e (t.used + (out.blocks + (w.blocks + r.blocks)) < s.used
              + writing_peak a r w out f (length ops))
              (t.used + (w.blocks + r.blocks) < s.used + part_peak s r w f (length ops))
              (λ m. omega arith) k.full;
          most = omega (arith, k.most);
          moves = omega (arith, k.moves);
          later = k.later;
          pays = pays_more k.pays (omega arith);
        };
        cause = cause_still s b t e y x.touches (cause_after [] s a b e l.touches h.cause);
      }

-- what a refusal left
pub part_of : (limit : ℕ) (s t : RigState) (r q : Reader) (w v : Writer) (f g : Front)
    (key : Record → Record) (step : Option Record → Record → Step) (ops : List Record)
    (result : Result (Option Record × Chain) EmFault) (e : EmFault) → IsErrAnd result (λ n. n ≡ e)
    → WritesPartTo limit key step ops s t r q w v f g (Err e)
    → WritesPartTo limit key step ops s t r q w v f g result
part_of limit s t r q w v f g key step ops (Ok x) e h k = absurd h
part_of limit s t r q w v f g key step ops (Err n) e h k =
    subst (λ (m : EmFault). WritesPartTo limit key step ops s t r q w v f g (Err m)) (sym h) k
