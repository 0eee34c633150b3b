-- A load settled over a leaf: what was counted and what was written, together.
use Rattle.std.proofs.Common.{◌≡◌, ℕ, ◌+◌, ◌*◌, ◌^◌, ◌<◌, ◌≤◌, min, [], length, refl, sym, ap, ◌∙◌, arith, IsTrue, true, ⊎_elim, Option, Some, None}
use Rattle.std.proofs.Math.Nat.{mul-le-mul_right}
use Rattle.em_record.specs.Shape.{IsShape, ShapeNumbers, wide_of}
use Rattle.em_record.specs.declared.record.Record.{Record}
use Rattle.em_frames.specs.Pool.{LentFrames, load_of}
use Rattle.em_space.specs.Held.{Holds}
use Rattle.em_space.specs.Ledger.{Runs, Session, Stops, both}
use Rattle.em_space.specs.Rig.{RigState, Sound}
use Rattle.em_space.specs.declared.fault.EmFault.{EmFault}
use Rattle.em_space.specs.declared.fault.EmFault.TheVariants.{Damaged}
use Rattle.em_space.proofs.Held.{apart_none}
use Rattle.em_space.proofs.Ledgers.{full_by}
use Rattle.em_space.proofs.Lists.{distinct_join, in_use_append}
use Rattle.em_space.proofs.Paying.{pays_kept, pays_more, pays_then}
use Rattle.em_space.proofs.Sessions.{session_as, session_still}
use Rattle.em_space.proofs.Steps.{cause_after, goes_nothing, touches_then, touches_trans, untold_by}
use Rattle.em_space.proofs.Within.{goes_wider, within_none}
use Rattle.em_chain.specs.Chain.{ChainStays, IsChain, chain_blocks, chain_items, payload_in}
use Rattle.em_chain.specs.Counts.{ceiling}
use Rattle.em_chain.specs.Effects.{GivesFrame, LendsFrame, Unmoved}
use Rattle.em_chain.specs.Reader.{reader_items, rest_of}
use Rattle.em_chain.specs.Reads.{Opens}
use Rattle.em_chain.specs.Session.{Wrote, pair_account, pair_blocks, writer_account}
use Rattle.em_chain.specs.Writer.{filled, writer_blocks}
use Rattle.em_chain.specs.declared.chain.Chain.{Chain}
use Rattle.em_chain.specs.declared.reader.Reader.{Reader}
use Rattle.em_chain.specs.declared.writer.Writer.{Writer}
use Rattle.em_chain.proofs.Counts.{ceiling_sum, filled_most, lt_or_le}
use Rattle.em_chain.proofs.Keeps.{has_kept, lent_given, lent_same, payload_kept}
use Rattle.em_chain.proofs.Laws.{chain_stays, writer_stays}
use Rattle.em_chain.proofs.Readers.{none_left}
use Rattle.em_chain.proofs.Sessions.{owed_most, wrote_stays, wrote_then}
use Rattle.em_chain.proofs.Views.{view_of}
use Rattle.em_chain.proofs.Writings.{cause_still, writer_lent}
use Rattle.em_leaf.specs.Counting.{counted_account, counting_account, low_limit_of}
use Rattle.em_leaf.specs.Effects.{loading_account, loading_blocks, loading_room}
use Rattle.em_leaf.specs.Front.{fresh_front}
use Rattle.em_leaf.specs.Leaf.{high_count}
use Rattle.em_leaf.specs.Passing.{CanPass, answers_most}
use Rattle.em_leaf.specs.Settling.{CanSettle}
use Rattle.em_leaf.specs.Writing.{high_account, leaf_peak}
use Rattle.em_leaf.proofs.Counted.{limit_low, limit_more}

-- A leaf and a load have no more than so many records.
pub load_few : (shape : ShapeNumbers) → IsShape shape → load_of shape ≤ 2 ^ 24
load_few shape i =
    let high = i.frames_high in
    let block = i.block_high in
    let wide : wide_of shape ≤ 128 = omega arith in
    let a : wide_of shape * shape.block ≤ 128 * shape.block = mul-le-mul_right shape.block wide in
    omega arith

-- and there is a place for one
pub load_some : (shape : ShapeNumbers) → IsShape shape → 1 ≤ load_of shape
load_some shape i =
    let low = i.frames_low in
    let block = i.block_low in
    let wide : 1 ≤ wide_of shape = omega arith in
    let a : 1 * shape.block ≤ wide_of shape * shape.block = mul-le-mul_right shape.block wide in
    omega arith

-- Both parts have room for all that may result,
pub limit_room : (n stored ops most load : ℕ) → most ≡ 4 * load → stored + ops ≤ most + load
    → n ≤ stored + ops → stored + ops ≤ low_limit_of most n + most
limit_room n stored ops most load e s l = ⊎_elim
    (λ (h : most < n). let m = limit_more most n h in omega arith)
    (λ (h : n ≤ most). let m = limit_low most n h in omega arith)
    (lt_or_le most n)

-- and the low part no more than a leaf.
pub limit_most : (n stored ops most load : ℕ) → most ≡ 4 * load → stored + ops ≤ most + load
    → n ≤ stored + ops → low_limit_of most n ≤ most
limit_most n stored ops most load e s l = ⊎_elim
    (λ (h : most < n). let m = limit_more most n h in omega arith)
    (λ (h : n ≤ most). let m = limit_low most n h in omega arith)
    (lt_or_le most n)

pub high_fields : (o : Option (Record × Chain)) → ((high_account o).blocks ≡ high_count o)
    × ((high_account o).unstored ≡ 0) × ((high_account o).owed ≡ 0)
    × ((high_account o).paid ≤ 2 * high_count o + 1)
high_fields None = (refl, refl, refl, omega arith)
high_fields (Some p) = (refl, refl, refl, omega arith)

-- a chain whose blocks were all read holds none
pub no_row : (s : RigState) (c : Chain) → c.blocks ≡ 0 → chain_blocks s c ≡ []
no_row s c e = rw e refl

-- A leaf's chain was counted, and a reader takes it.
pub record Begun (s a : RigState) (c : Chain) (r : Reader) (w : Writer) (n : ℕ) : Type 0 where
  pub told : a.device.told ≡ s.device.told
  pub payload_is : payload_in a ≡ payload_in s
  pub words : rest_of r ≡ c
  pub can : CanPass a r w fresh_front n
  pub session : Session (loading_blocks s c w) s a (pair_blocks a r w)
  pub moves : a.moves + 2 * r.blocks ≤ s.moves + 3 * c.blocks
  pub later : s.moves ≤ a.moves
  pub used : a.used ≡ s.used
  pub most : a.most ≡ s.most
  pub taken_most : 2 * r.blocks ≡ 2 * c.blocks
  pub items : IsTrue s.device.told → reader_items a r ≡ chain_items s c
  pub answered : Wrote s a w w []
  pub frames : LentFrames 1 s.pool a.pool
  pub peak : leaf_peak a r w n ≤ w.blocks + c.blocks + loading_room s n

-- The chain over the count.
pub chain_counted : {s l : RigState} {c : Chain} → IsChain s c
    → Runs 0 [] [] (counting_account c) counted_account s l → ChainStays s l c
chain_counted {s} {l} {c} i h =
    chain_stays [] s l c h.session.touches (λ z. apart_none (chain_blocks s c)) i

pub begun_by : {key : Record → Record} {s l a : RigState} {c : Chain} {r : Reader} {w : Writer}
    {n : ℕ}
    → Sound s → CanSettle key s c n w → Runs 0 [] [] (counting_account c) counted_account s l
    → LendsFrame l a → Unmoved l a → Opens l a c true r → Begun s a c r w n
begun_by {key} {s} {l} {a} {c} {r} {w} {n} so can h le u o =
    let cs = chain_counted can.chain h in
    let ws = writer_stays [] s l w h.session.touches (λ z. apart_none (writer_blocks s w))
    (has_kept 1 (length w.frame) s.pool l.pool h.frames can.writer.frame) can.writer in
    let wl = writer_lent ws.is le in
    let t1 = h.session.touches in
    let told = le.touches.told ∙ t1.told in
    let touches = touches_then [] s l a t1 le.touches in
    let back = λ (z : IsTrue a.device.told). sym told ∙ z in
    let bc = λ (z : IsTrue s.device.told).
    let y : chain_blocks a (rest_of r) ≡ chain_blocks s c = o.blocks (t1.told ∙ z)
    ∙ cs.blocks z in y in
    let bw = λ (z : IsTrue s.device.told).
    let y : writer_blocks a w ≡ writer_blocks s w = wl.blocks (t1.told ∙ z) ∙ ws.blocks z in y in
    let pa : payload_in a ≡ payload_in s = payload_kept [] s a touches in
    let cb = ap (λ (d : Chain). d.blocks) o.words in
    let k = h.spends in
    let low = so.shape.block_low in
    let g1 = can.grow.count in
    let g2 = can.grow.blocks in
    let f : filled a w ≡ filled s w = wl.filled_is ∙ ws.filled_is in
    let fm = ceiling_sum (payload_in s) w.blocks (filled s w) n (omega arith)
    (filled_most s w can.writer) in
    let am : answers_most a w n ≡ ceiling (filled s w + n) (payload_in s) =
    ap (λ (m : ℕ). ceiling (m + n) (payload_in a)) f
    ∙ ap (λ (p : ℕ). ceiling (filled s w + n) p) pa in
    let cn : ceiling n (payload_in a) ≡ ceiling n (payload_in s) = ap (λ (p : ℕ). ceiling n p) pa in
    let holds = λ (z : IsTrue s.device.told).
    let x = (can.writer.told z).holds in
    let y = (can.chain.told z).holds in
    let both_hold : Holds s (loading_blocks s c w) = record {
      in_use = in_use_append s (writer_blocks s w) (chain_blocks s c) x.in_use y.in_use;
      distinct = λ d. distinct_join (writer_blocks s w) (chain_blocks s c) (x.distinct d)
          (y.distinct d) (can.apart z);
    } in both_hold in
    record {
      told = told;
      payload_is = pa;
      words = o.words;
      can = record {
        pair = record {
          reader = o.is;
          writer = wl.is;
          taking = o.taking_is;
          apart = λ z. rw (bw (back z), bc (back z)) (can.apart (back z));
        };
        within = omega arith;
        grow = record { count = omega arith; blocks = omega arith };
      };
      session = session_as (pair_blocks a r w)
          (session_still (loading_blocks s c w) le.sound touches holds)
          (λ z. rw (bw z, bc z) refl);
      moves = omega (arith, k.moves, u.moves);
      later = omega (arith, k.later, u.moves);
      used = omega (arith, k.used, u.same.used);
      most =
          let m1 = k.most in
          let m2 = h.session.touches.most in
          let m3 = u.same.most in
          let m4 = so.numbers.used_most in
          omega arith;
      taken_most = omega arith;
      items = λ z. o.items (t1.told ∙ z) ∙ cs.items z;
      answered = wrote_then [] [] (wrote_stays t1.told ws) (wrote_stays le.touches.told wl);
      frames =
          let e = h.frames in
          record {
            shape = le.frames.shape ∙ e.shape;
            free = rw (sym e.free) le.frames.free;
            rack = le.frames.rack ∙ e.rack;
            free_areas = le.frames.free_areas ∙ e.free_areas;
            peak = let p = e.peak in let q = le.frames.peak in omega arith;
          };
      peak = omega arith;
    }

-- The chain's words broke what a chain with no record must have.
pub load_damaged : {s : RigState} {c : Chain} (w : Writer) (n : ℕ) → Sound s → IsChain s c
    → ((c.count ≡ 0 → c.blocks ≡ 0) → ⊥)
    → Stops (w.blocks + c.blocks + loading_room s n) (2 * (w.blocks + ceiling n (payload_in s))) 2
    (loading_blocks s c w) (both (writer_account w) (loading_account s c n)) s s (Damaged 0)
load_damaged {s} {c} w n so i broken = record {
  goes = goes_wider (loading_blocks s c w) [] s s
      (within_none s (loading_blocks s c w) [] (λ z. refl))
      (goes_nothing s so);
  halts = record {
    used = omega arith;
    full = tt;
    most = omega arith;
    moves = omega arith;
    later = omega arith;
    pays = pays_more (pays_kept 0 (omega arith) (omega arith)) (omega arith);
  };
  cause = (
    untold_by s.device.told (λ z. broken (λ e. none_left s c (view_of s c i) z e)),
    so.numbers.blocks_low,
  );
}

-- The count gave up.
pub count_stops : {s t : RigState} {e : EmFault} (c : Chain) (w : Writer) (n : ℕ)
    → Stops 0 0 0 [] (counting_account c) s t e
    → Stops (w.blocks + c.blocks + loading_room s n) (2 * (w.blocks + ceiling n (payload_in s))) 2
    (loading_blocks s c w) (both (writer_account w) (loading_account s c n)) s t e
count_stops {s} {t} {e} c w n h =
    let k = h.halts in
    record {
      goes = goes_wider (loading_blocks s c w) [] s t
          (within_none s (loading_blocks s c w) [] (λ z. refl)) h.goes;
      halts = record {
        used = omega (arith, k.used);
        full = full_by e (t.used + 0 < s.used + 0)
            (t.used + (w.blocks + c.blocks) < s.used + (w.blocks + c.blocks + loading_room s n))
            (λ m. omega arith) k.full;
        most = omega (arith, k.most);
        moves = omega (arith, k.moves);
        later = k.later;
        pays = pays_more k.pays (omega arith);
      };
      cause = h.cause;
    }

-- The writing gave up.
pub write_stops : {s a b t : RigState} {c : Chain} {r : Reader} {w : Writer} {n : ℕ} {e : EmFault}
    → Begun s a c r w n
    → Stops (leaf_peak a r w n) (2 * leaf_peak a r w n + 2) 2 (pair_blocks a r w)
    (pair_account r w) a b
    e
    → GivesFrame [] b t → Unmoved b t
    → Stops (w.blocks + c.blocks + loading_room s n) (2 * (w.blocks + ceiling n (payload_in s))) 2
    (loading_blocks s c w) (both (writer_account w) (loading_account s c n)) s t e
write_stops {s} {a} {b} {t} {c} {r} {w} {n} {e} d h x y =
    let k = h.halts in
    let o = h.goes in
    let ks = loading_blocks s c w in
    let om = owed_most r d.can.pair.taking in
    let m1 = d.moves in
    let m2 = d.later in
    let m3 = d.used in
    let m4 = d.most in
    let m5 = d.taken_most in
    let m6 = d.peak in
    let y1 = y.same.used in
    let y2 = y.same.most in
    let y3 = y.moves in
    record {
      goes = record {
        sound = x.sound;
        touches = touches_then ks s b t (touches_trans ks
            (pair_blocks a r w) s a b d.session.touches
            o.touches (λ z j i m. d.session.within.off z j i m)) x.touches;
        frames = lent_given s.pool b.pool t.pool
            (lent_same 1 s.pool a.pool b.pool d.frames o.frames)
            x.frames;
      };
      halts = record {
        used = omega (arith, k.used);
        full = full_by e (b.used + (w.blocks + r.blocks) < a.used + leaf_peak a r w n)
            (t.used + (w.blocks + c.blocks) < s.used + (w.blocks + c.blocks + loading_room s n))
            (λ m. omega arith) k.full;
        most = omega (arith, k.most);
        moves = omega (arith, k.moves);
        later = omega (arith, k.later);
        pays = pays_more (pays_then (pays_kept (min w.blocks 1 + 0) (omega arith) (omega arith))
            (pays_then k.pays (pays_kept 2 (omega arith) (omega arith)) (omega arith))
            (omega (arith, k.later))) (omega arith);
      };
      cause = cause_still s b t e y x.touches (cause_after ks s a b e d.session.touches h.cause);
    }
