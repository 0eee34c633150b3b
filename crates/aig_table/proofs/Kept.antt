-- Bits are written one after another, and become a list.
use mir.Val.{bool_byte}
use Rattle.std.proofs.Common.{◌≡◌, ℕ, ◌+◌, ◌*◌, ◌^◌, ◌<◌, ◌≤◌, min, Bool, true, false, List, [], ◌∷◌, ◌++◌, length, map, refl, sym, ap, ◌∙◌, subst, arith, IsTrue, Result, Ok, Err, IfOk, IfErr}
use Rattle.std.proofs.lemmas.List.{length-map, map-append}
use Rattle.em_record.specs.declared.record.Record.{Record}
use Rattle.em_frames.specs.Pool.{LentFrames}
use Rattle.em_space.specs.Ledger.{Account, Halts, Session, Spends, Stops}
use Rattle.em_space.specs.Rig.{RigState, Sound, Goes, Cause, DeviceCause}
use Rattle.em_space.specs.declared.fault.EmFault.{EmFault}
use Rattle.em_space.proofs.Ledgers.{halts_after, halts_wider, spends_still, spends_then, spends_wider}
use Rattle.em_space.proofs.Runs.{runs_none, runs_of, runs_then, runs_wider, stops_after, stops_wider}
use Rattle.em_space.proofs.Sessions.{session_still, session_trans}
use Rattle.em_space.proofs.Steps.{cause_after, device_cause, touches_then}
use Rattle.em_space.proofs.Within.{touches_within, within_kept, within_same}
use Rattle.em_chain.specs.Chain.{chain_blocks, payload_in}
use Rattle.em_chain.specs.Counts.{ceiling}
use Rattle.em_chain.specs.Effects.{GivesFrame, LendsFrame, Unmoved}
use Rattle.em_chain.specs.Session.{FinishSpends, chain_account, one_more, writer_account}
use Rattle.em_chain.specs.Writer.{CanGrow, IsWriter, filled, writer_blocks}
use Rattle.em_chain.specs.Writes.{Appends, Begins, Finishes}
use Rattle.em_chain.specs.declared.chain.Chain.{Chain}
use Rattle.em_chain.specs.declared.writer.Writer.{Writer}
use Rattle.em_chain.proofs.Counts.{writer_blocks_are}
use Rattle.em_chain.proofs.Keeps.{lent_given, lent_same, payload_kept}
use Rattle.em_chain.proofs.Pairs.{blocks_least}
use Rattle.em_chain.proofs.Sessions.{ceiling_rises, more_low, wrote_none, wrote_one, wrote_then}
use Rattle.em_chain.proofs.Withins.{within_grows}
use Rattle.em_chain.proofs.Writings.{cause_still, halts_between}
use Rattle.em_queued.specs.Queued.{no_account}
use Rattle.aig_text.specs.Draft.{IsPackedWriter}
use Rattle.aig_text.proofs.Drafts.{packed_blocks_are}
use Rattle.aig_sweep.specs.Bits.{bits_of}
use Rattle.aig_words.specs.Words.{lane}
use Rattle.aig_table.specs.Keeps.{CanKeep, KeepsBits, KeepsList, KeepsListTo, bit_record}
use Rattle.aig_table.specs.Tables.{bits_at}

-- a bit as a number
pub bit_number : (bit : Bool)
    → ◌≡◌ {A = Record} (record { a = 0; b = 0; c = bool_byte bit; d = 0 }) (bit_record bit)
bit_number true = refl
bit_number false = refl

bit_back : (bit : Bool) → bits_of (lane 0 (bit_record bit ∷ [])) ≡ bit ∷ []
bit_back true = refl
bit_back false = refl

-- The records of bits have these bits in lane 0.
pub bits_back : (bits : List Bool) → bits_of (lane 0 (map bit_record bits)) ≡ bits
bits_back [] = refl
bits_back (b ∷ bits) =
    ap (λ (l : List Bool). l ++ bits_of (lane 0 (map bit_record bits))) (bit_back b)
    ∙ ap (λ (l : List Bool). b ∷ l) (bits_back bits)

-- No bit yet,
pub keeps_none : {s : RigState} {w : Writer} → Sound s → IsWriter s w → KeepsBits s s w w []
keeps_none {s} {w} h i = record {
  runs = runs_none s (writer_blocks s w) (writer_account w) h (λ z. (i.told z).holds);
  wrote = wrote_none i;
  grows = omega arith;
}

-- one bit,
keeps_one : {s t : RigState} {w v : Writer} (bit : Bool) → Sound s → IsWriter s w
    → Goes (writer_blocks s w) s t → Appends s t w v (bit_record bit)
    → Spends (one_more s w) (writer_account w) (writer_account v) s t → KeepsBits s t w v (bit ∷ [])
keeps_one {s} {t} {w} {v} bit h i g a k =
    let m : v.blocks ≡ one_more s w = writer_blocks_are t v g.sound.shape.block_low a.is
    ∙ ap (λ (n : ℕ). ceiling n (payload_in t)) a.filled_is
    ∙ ap (λ (p : ℕ). ceiling (filled s w + 1) p) (payload_kept (writer_blocks s w) s t g.touches) in
    let low = more_low s w h.shape.block_low i in
    record {
      runs = runs_wider (omega (arith, m)) (runs_of (writer_blocks s w) (writer_blocks t v) g
          (within_grows s (writer_blocks s w) (writer_blocks t v) a.grown)
          (λ z. (a.is.told z).holds) k);
      wrote = wrote_one g.touches.told a;
      grows = omega (arith, m, low);
    }

keeps_then : {s t u : RigState} {w v k : Writer} (xs ys : List Bool) → KeepsBits s t w v xs
    → KeepsBits t u v k ys → KeepsBits s u w k (xs ++ ys)
keeps_then {s} {t} {u} {w} {v} {k} xs ys h g =
    let m = h.grows in
    let n = g.grows in
    record {
      runs = runs_wider (omega arith) (runs_then h.runs g.runs);
      wrote = rw (map-append bit_record xs ys)
          (wrote_then (map bit_record xs) (map bit_record ys) h.wrote g.wrote);
      grows = omega arith;
    }

-- and one more.
pub keeps_next : {s t u : RigState} {w v k : Writer} {x : Record} (table : List Record) (first n : ℕ)
    (bit : Bool) → x ≡ bit_record bit → bits_at table first (n + 1) ≡ bits_at table first n ++ bit ∷ []
    → KeepsBits s t w v (bits_at table first n) → Goes (writer_blocks t v) t u → Appends t u v k x
    → Spends (one_more t v) (writer_account v) (writer_account k) t u
    → KeepsBits s u w k (bits_at table first (n + 1))
keeps_next {s} {t} {u} {w} {v} {k} {x} table first n bit is e h g a d =
    subst (KeepsBits s u w k) (sym e) (keeps_then (bits_at table first n) (bit ∷ []) h
    (keeps_one bit h.runs.session.sound h.wrote.is g
    (subst (λ (y : Record). Appends t u v k y) is a) d))

-- A packed list to which bits were written is packed,
pub keeps_is : {s t : RigState} {w v : Writer} {bits : List Bool} → IsPackedWriter s w
    → KeepsBits s t w v bits → IsPackedWriter t v
keeps_is {s} {t} {w} {v} {bits} i h = record {
  is = h.wrote.is;
  packed = λ z. let y : IsTrue s.device.told = sym h.wrote.told ∙ z in h.wrote.packed y (i.packed y);
  skip_is = h.wrote.skip_is ∙ i.skip_is;
  filled_is = omega (arith, h.wrote.filled_is, h.wrote.count_is, i.filled_is);
}

keeps_count : {s t : RigState} {w v : Writer} {bits : List Bool} → KeepsBits s t w v bits
    → v.count ≡ w.count + length bits
keeps_count {bits = bits} h = omega (arith, h.wrote.count_is, length-map bits bit_record)

-- and can take more.
pub keeps_can : {s t : RigState} {w v : Writer} {bits : List Bool} (n k : ℕ) → CanKeep n s w
    → KeepsBits s t w v bits → length bits + k ≤ n → CanKeep k t v
keeps_can {s} {t} n k c h few = record {
  list = keeps_is c.list h;
  free = rw (h.runs.frames.free) (c.free);
  room = omega (arith, keeps_count h, c.room, few);
}

pub can_grow : {n : ℕ} {s : RigState} {w : Writer} → Sound s → 0 < n → CanKeep n s w → CanGrow w
can_grow {n} {s} {w} h some c =
    let low = h.shape.block_low in
    let l = c.list.is.last in
    let b = blocks_least (payload_in s) w.blocks w.fill (omega arith) (λ e. l.fill_low (l.some e)) in
    record {
      count = omega (arith, c.room, some);
      blocks = omega (arith, b, c.list.filled_is, c.room, some);
    }

-- The blocks of a list are no more than those that n bits more may take.
blocks_within : (s : RigState) (w : Writer) (n : ℕ) → Sound s → IsPackedWriter s w
    → w.blocks ≤ ceiling (w.count + n) (payload_in s)
blocks_within s w n h i =
    let low = h.shape.block_low in
    let b = packed_blocks_are low i in
    let r = ceiling_rises w.count (w.count + n) (payload_in s) (omega arith) (omega arith) in
    omega (arith, b, r)

-- A bit couldn't be written, after others were.
pub keeps_stop : {s t u : RigState} {w v : Writer} {bits : List Bool} {e : EmFault} (n : ℕ) → Sound s
    → IsPackedWriter s w → length bits + 1 ≤ n → KeepsBits s t w v bits → Goes (writer_blocks t v) t u
    → Halts (one_more t v) (2 * one_more t v) (min v.blocks 1) (writer_account v) t u e → Cause t u e
    → Stops (ceiling (w.count + n) (payload_in s)) (2 * ceiling (w.count + n) (payload_in s)) 1
    (writer_blocks s w) (writer_account w) s u e
keeps_stop {s} {t} {u} {w} {v} {bits} {e} n sound i few h g k c =
    let full = keeps_is i h in
    let pay : payload_in t ≡ payload_in s = payload_kept (writer_blocks s w) s t h.runs.session.touches in
    let count : filled t v + 1 ≡ w.count + (length bits + 1) = omega (arith, full.filled_is, keeps_count h) in
    let one : one_more t v ≡ ceiling (w.count + (length bits + 1)) (payload_in s) =
    ap (λ (m : ℕ). ceiling m (payload_in t)) count
    ∙ ap (λ (p : ℕ). ceiling (w.count + (length bits + 1)) p) pay in
    let low = sound.shape.block_low in
    let r = ceiling_rises (w.count + (length bits + 1)) (w.count + n) (payload_in s) (omega arith)
    (omega (arith, few)) in
    let b : v.blocks ≤ ceiling (w.count + n) (payload_in s) =
    let z = packed_blocks_are h.runs.session.sound.shape.block_low full in
    let y = ceiling_rises v.count (w.count + n) (payload_in t) (omega arith) (omega (arith, keeps_count h, few)) in
    let x = ap (λ (p : ℕ). ceiling (w.count + n) p) pay in
    omega (arith, z, y, x) in
    stops_wider (omega (arith, one, r, b)) (omega (arith, one, r)) (omega arith)
    (stops_after h.runs (record { goes = g; halts = k; cause = c }))

-- a list with no block has the account of none
begins_account : {s : RigState} {w : Writer} → Begins s w → writer_account w ≡ no_account
begins_account b = ap (λ (n : ℕ). record { blocks = n; unstored = min n 1; paid = 2 * n; owed = 0 }) b.blocks

-- A list was begun, and may take n bits.
pub begun_can : {s a : RigState} {w : Writer} (n : ℕ) → n ≤ 2 ^ 43 → LendsFrame s a → 1 < s.pool.free
    → Begins a w → CanKeep n a w
begun_can n few l free b = record {
  list = record { is = b.is; packed = λ z. b.packed; skip_is = b.skip_is; filled_is = b.filled_is ∙ sym b.count };
  free = let f = l.frames.free in omega (arith, f, free);
  room = let c = b.count in omega (arith, c, few);
}

-- A list was begun, and these bits were written.
record Grown (s b : RigState) (v : Writer) (n : ℕ) : Type 0 where
  pub session : Session [] s b (writer_blocks b v)
  pub frames : LentFrames 1 s.pool b.pool
  pub spends : Spends v.blocks no_account (writer_account v) s b
  pub room : v.blocks ≡ ceiling n (payload_in s)

grown_goes : {s b t : RigState} {v : Writer} {n : ℕ} → Grown s b v n → GivesFrame (writer_blocks b v) b t
    → Goes [] s t
grown_goes {s} {b} {t} {v} h g = record {
  sound = g.sound;
  touches = touches_within s b t [] (writer_blocks b v) h.session.touches h.session.within g.touches;
  frames = lent_given s.pool b.pool t.pool h.frames g.frames;
}

module _ {s a b : RigState} {w v : Writer} {bits : List Bool} (sound : Sound s) (lends : LendsFrame s a)
    (unmoved : Unmoved s a) (begins : Begins a w) where
  grown : KeepsBits a b w v bits → Grown s b v (length bits)
  grown h =
      let first : Session [] s a [] = session_still [] lends.sound lends.touches
      (λ z. record { in_use = tt; distinct = λ y. tt }) in
      let then : Session [] a b (writer_blocks b v) =
      subst (λ (ks : List ℕ). Session ks a b (writer_blocks b v)) begins.held h.runs.session in
      let whole = session_trans first then in
      let spent : Spends v.blocks no_account (writer_account v) a b =
      subst (λ (x : Account). Spends v.blocks x (writer_account v) a b) (begins_account begins)
      h.runs.spends in
      let still : Spends 0 no_account no_account s a =
      spends_still no_account unmoved.same.used unmoved.same.most unmoved.moves in
      let len : filled b v ≡ length bits =
      omega (arith, h.wrote.filled_is, begins.filled_is, length-map bits bit_record) in
      record {
        session = whole;
        frames = lent_same 1 s.pool a.pool b.pool lends.frames h.runs.frames;
        spends = spends_wider (omega arith) (spends_then still spent);
        room = writer_blocks_are b v whole.sound.shape.block_low h.wrote.is
            ∙ ap (λ (n : ℕ). ceiling n (payload_in b)) len
            ∙ ap (λ (p : ℕ). ceiling (length bits) p) (payload_kept [] s b whole.touches);
      }

  -- It was finished,
  pub keeps_list : {t : RigState} (c : Chain) → KeepsBits a b w v bits → GivesFrame (writer_blocks b v) b t
      → Finishes b t v c → Spends v.blocks (writer_account v) (chain_account (min v.blocks 1) c) b t
      → KeepsList s t c bits
  keeps_list {t} c h g f k =
      let q = grown h in
      let goes = grown_goes q g in
      let spent = spends_then q.spends k in
      let blocks = f.blocks_is in
      let on : IsTrue s.device.told → IsTrue a.device.told = λ z. lends.touches.told ∙ z in
      let then : IsTrue s.device.told → IsTrue b.device.told = λ z. h.wrote.told ∙ on z in
      let whole : Session [] s t (chain_blocks t c) = session_trans q.session (record {
        sound = g.sound;
        touches = g.touches;
        within = within_kept b (writer_blocks b v) (writer_blocks b v) (chain_blocks t c)
            (within_same b (writer_blocks b v)) f.blocks;
        holds = λ z. (f.is.told (g.touches.told ∙ z)).holds;
      }) in
      record {
        runs = record {
          session = whole;
          frames = goes.frames;
          spends = record {
            held = omega arith;
            used = spent.used;
            most = omega (arith, spent.most, blocks);
            moves = omega (arith, spent.moves);
            later = spent.later;
            pays = spent.pays;
          };
        };
        is = f.is;
        packed = λ z. f.packed (then z) (h.wrote.packed (on z) begins.packed);
        count_is = omega (arith, f.count_is, h.wrote.count_is, begins.count, length-map bits bit_record);
        blocks_is = blocks ∙ q.room;
        bits_are = λ z. ap (λ (xs : List Record). bits_of (lane 0 xs)) (f.items (then z) ∙ h.wrote.items (on z)
            ∙ ap (λ (xs : List Record). xs ++ map bit_record bits) begins.items)
            ∙ bits_back bits;
      }

  -- which gave up,
  pub keeps_unfinished : {t : RigState} (e : EmFault) → KeepsBits a b w v bits → GivesFrame (writer_blocks b v) b t
      → Halts v.blocks (2 * v.blocks + min v.blocks 1) (min v.blocks 1) (writer_account v) b t e
      → DeviceCause b t e → Stops (ceiling (length bits) (payload_in s))
      (2 * ceiling (length bits) (payload_in s) + 1) 1 [] no_account s t e
  keeps_unfinished {t} e h g k c =
      let q = grown h in
      let room = q.room in
      record {
        goes = grown_goes q g;
        halts = halts_wider (omega (arith, room)) (omega (arith, room)) (omega arith) (halts_after q.spends k);
        cause = cause_after [] s b t e q.session.touches (device_cause b t e c);
      }

-- by the result,
pub keeps_finished : {s a b t : RigState} {w v : Writer} {bits : List Bool} → Sound s → LendsFrame s a
    → Unmoved s a → Begins a w → KeepsBits a b w v bits → (result : Result Chain EmFault)
    → GivesFrame (writer_blocks b v) b t → IfOk result (λ c. Finishes b t v c) → FinishSpends b t v result
    → IfErr result (DeviceCause b t) → KeepsListTo s t bits result
keeps_finished sound l u b h (Ok c) g f k cause = keeps_list sound l u b c h g f k
keeps_finished sound l u b h (Err e) g f k cause = keeps_unfinished sound l u b e h g k cause

-- or a bit couldn't be written, and it was abandoned.
pub keeps_refused : {s a b t : RigState} {w : Writer} {e : EmFault} (n : ℕ) → Sound s → LendsFrame s a
    → Unmoved s a → Begins a w
    → Stops (ceiling (w.count + n) (payload_in a)) (2 * ceiling (w.count + n) (payload_in a)) 1
    (writer_blocks a w) (writer_account w) a b e → GivesFrame [] b t → Unmoved b t
    → Stops (ceiling n (payload_in s)) (2 * ceiling n (payload_in s) + 1) 1 [] no_account s t e
keeps_refused {s} {a} {b} {t} {w} {e} n sound lends unmoved begins k g u =
    let none : writer_account w ≡ no_account = begins_account begins in
    let room : ceiling (w.count + n) (payload_in a) ≡ ceiling n (payload_in s) =
    ap (λ (m : ℕ). ceiling m (payload_in a)) (omega (arith, begins.count))
    ∙ ap (λ (p : ℕ). ceiling n p) (payload_kept [] s a lends.touches) in
    let between = halts_between unmoved k.halts u in
    let nothing : Halts (ceiling (w.count + n) (payload_in a)) (2 * ceiling (w.count + n) (payload_in a)) 1
    no_account s t e =
    subst (λ (x : Account). Halts (ceiling (w.count + n) (payload_in a))
    (2 * ceiling (w.count + n) (payload_in a)) 1 x s t e) none between in
    let o : Goes [] a b = subst (λ (ks : List ℕ). Goes ks a b) begins.held k.goes in
    record {
      goes = record {
        sound = g.sound;
        touches = touches_then [] s b t (touches_then [] s a b lends.touches o.touches) g.touches;
        frames = lent_given s.pool b.pool t.pool (lent_same 1 s.pool a.pool b.pool lends.frames o.frames)
            g.frames;
      };
      halts = halts_wider (omega (arith, room)) (omega (arith, room)) (omega arith) nothing;
      cause = cause_still s b t e u g.touches (cause_after [] s a b e lends.touches k.cause);
    }

-- the same number in other words
pub keeps_as : {n m : ℕ} {s t : RigState} {w v : Writer} (table : List Record) (first : ℕ) → n ≡ m
    → KeepsBits s t w v (bits_at table first n) → KeepsBits s t w v (bits_at table first m)
keeps_as {n} {m} {s} {t} {w} {v} table first e h =
    subst (λ (i : ℕ). KeepsBits s t w v (bits_at table first i)) e h
